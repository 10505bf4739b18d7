-- Trees of one recipe run the same phases, whatever units take the roles.
use Rattle.std.proofs.Common.{arith, ◌≡◌, ℕ, zero, suc, ◌+◌, ◌++◌, false, ◌&&◌, ◌||◌, List, [], ◌∷◌, Option, Some, None, slice_get, sym, ap, ap₂, ◌∙◌, refl, subst}
use Rattle.batch_recipe.specs.{Conditions.Name, Conditions.same_name, Diagram.Diagram, Diagram.label, Diagram.skip, Diagram.seq, Diagram.par, Diagram.sel, Diagram.loop, Diagram.Diagrams, Diagram.none, Diagram.more, Diagram.Cases, Diagram.otherwise, Diagram.when, Diagram.diagram_of, Expanding.Binding, Expanding.Sites, Expanding.expanded, Expanding.expanded_each, Expanding.expanded_cases, Expanding.task_of, Expanding.act_named, Expanding.act_tree_with, Expanding.named_tree_with, Expanding.unit_with, Expanding.unit_below, Needs.resources_needed, Nodes.child, Procedure.bound_tree, Procedure.sites, Procedure.tables_from, Tree.Place, Tree.Phase, Tree.Tree, Tree.Task, Tree.Trees, Tree.Choices, declared.act.Act.Act, declared.act.Work.Work, declared.act.Work.TheVariants.Follows, declared.act.Work.TheVariants.Runs, declared.acts.Acts.Acts, declared.acts.LabelTable.TheVariants.UnitProcedures}
use Rattle.batch_recipe.specs.Tree as tree
use Rattle.batch_model.specs.{Lists.Each, Cleared.Level, Cleared.is_procedure, Cleared.in_procedure, Cleared.in_unit_procedure, Cleared.in_operation, Cleared.below, Cleared.Part, Cleared.parts, Cleared.parts_within, Cleared.parts_of_each, Cleared.parts_of_choices, Cleared.IsApart, Cleared.TurnsRun, Cleared.phases, Cleared.phases_within, Cleared.phases_of_each, Cleared.phases_of_choices, Cleared.RunApart, Cleared.BranchesRunApart, Cleared.surely_runs, Cleared.task_surely_runs, Cleared.some_surely_runs, Cleared.each_surely_runs}
use Rattle.batch_verify.{specs.Walking.phase_names, specs.Ways.bound_parts, proofs.PhaseNames.phase_names-append}

-- the same nodes, whose steps stand at the same places and reserve the same, and whose phase steps run phases of the same names
abbrev mutual
  pub AreAlike : Tree → Tree → Type 0
  AreAlike (tree.act s w) (tree.act r v) = TasksAlike w v × (s.place ≡ r.place) × (s.reserves ≡ r.reserves)
  AreAlike tree.skip tree.skip = Unit {0}
  AreAlike (tree.seq ts) (tree.seq us) = EachAlike ts us
  AreAlike (tree.par ts) (tree.par us) = EachAlike ts us
  AreAlike (tree.sel cs) (tree.sel ds) = ChoicesAlike cs ds
  AreAlike (tree.loop n c t) (tree.loop m d u) = AreAlike t u
  AreAlike _ _ = ⊥

  pub TasksAlike : Task → Task → Type 0
  TasksAlike (tree.runs one) (tree.runs other) = one.name ≡ other.name
  TasksAlike (tree.follows name t) (tree.follows other u) = AreAlike t u × (name ≡ other)
  TasksAlike _ _ = ⊥

  pub EachAlike : Trees → Trees → Type 0
  EachAlike tree.no_trees tree.no_trees = Unit {0}
  EachAlike (tree.tree t ts) (tree.tree u us) = AreAlike t u × EachAlike ts us
  EachAlike _ _ = ⊥

  pub ChoicesAlike : Choices → Choices → Type 0
  ChoicesAlike (tree.otherwise t) (tree.otherwise u) = AreAlike t u
  ChoicesAlike (tree.choice c t cs) (tree.choice d u ds) = AreAlike t u × ChoicesAlike cs ds
  ChoicesAlike _ _ = ⊥

-- Phases that surely run

mutual
  pub same_runs : (t u : Tree) → AreAlike t u → surely_runs t ≡ surely_runs u
  same_runs (tree.act s w) (tree.act r v) h = task_same_runs w v h.0
  same_runs (tree.seq ts) (tree.seq us) h = each_same_runs ts us h
  same_runs (tree.par ts) (tree.par us) h = each_same_runs ts us h
  same_runs (tree.sel cs) (tree.sel ds) h = choices_same_runs cs ds h
  same_runs (tree.loop n c t) (tree.loop m d u) h = same_runs t u h
  same_runs t u h = grind arith

  task_same_runs : (w v : Task) → TasksAlike w v → task_surely_runs w ≡ task_surely_runs v
  task_same_runs (tree.follows name t) (tree.follows other u) h = same_runs t u h.0
  task_same_runs w v h = grind arith

  each_same_runs : (ts us : Trees) → EachAlike ts us → some_surely_runs ts ≡ some_surely_runs us
  each_same_runs (tree.tree t ts) (tree.tree u us) h = ap₂ (λ a b. a || b) (same_runs t u h.0) (each_same_runs ts us h.1)
  each_same_runs ts us h = grind arith

  choices_same_runs : (cs ds : Choices) → ChoicesAlike cs ds → each_surely_runs cs ≡ each_surely_runs ds
  choices_same_runs (tree.otherwise t) (tree.otherwise u) h = same_runs t u h
  choices_same_runs (tree.choice c t cs) (tree.choice d u ds) h = ap₂ (λ a b. a && b) (same_runs t u h.0) (choices_same_runs cs ds h.1)
  choices_same_runs _ _ h = absurd h

same_both : (ps qs rs ss : List Phase) → phase_names ps ≡ phase_names qs → phase_names rs ≡ phase_names ss → phase_names (ps ++ rs) ≡ phase_names (qs ++ ss)
same_both ps qs rs ss e f = phase_names-append ps rs ∙ (ap₂ (λ xs ys. xs ++ ys) e f ∙ sym (phase_names-append qs ss))

mutual
  same_names : (t u : Tree) → AreAlike t u → phase_names (phases t) ≡ phase_names (phases u)
  same_names (tree.act s w) (tree.act r v) h = task_same_names w v h.0
  same_names (tree.seq ts) (tree.seq us) h = each_same_names ts us h
  same_names (tree.par ts) (tree.par us) h = each_same_names ts us h
  same_names (tree.sel cs) (tree.sel ds) h = choices_same_names cs ds h
  same_names (tree.loop n c t) (tree.loop m d u) h = same_names t u h
  same_names t u h = grind arith

  task_same_names : (w v : Task) → TasksAlike w v → phase_names (phases_within w) ≡ phase_names (phases_within v)
  task_same_names (tree.runs one) (tree.runs other) h = ap (λ name. name ∷ []) h
  task_same_names (tree.follows name t) (tree.follows other u) h = same_names t u h.0
  task_same_names _ _ h = absurd h

  each_same_names : (ts us : Trees) → EachAlike ts us → phase_names (phases_of_each ts) ≡ phase_names (phases_of_each us)
  each_same_names (tree.tree t ts) (tree.tree u us) h =
      same_both (phases t) (phases u) (phases_of_each ts) (phases_of_each us) (same_names t u h.0) (each_same_names ts us h.1)
  each_same_names ts us h = grind arith

  choices_same_names : (cs ds : Choices) → ChoicesAlike cs ds → phase_names (phases_of_choices cs) ≡ phase_names (phases_of_choices ds)
  choices_same_names (tree.otherwise t) (tree.otherwise u) h = same_names t u h
  choices_same_names (tree.choice c t cs) (tree.choice d u ds) h =
      same_both (phases t) (phases u) (phases_of_choices cs) (phases_of_choices ds) (same_names t u h.0) (choices_same_names cs ds h.1)
  choices_same_names _ _ h = absurd h

-- phases run apart by their names alone
abbrev NamesApart : List Name → List Name → Type 0
NamesApart ones others = Each (λ one. Each (λ other. same_name one other ≡ false) others) ones

differ_to : (name : Name) (ys : List Phase) → Each (λ y. same_name name y.name ≡ false) ys → Each (λ other. same_name name other ≡ false) (phase_names ys)
differ_to name [] h = tt
differ_to name (y ∷ ys) h = (h.0, differ_to name ys h.1)

differ_from : (name : Name) (ys : List Phase) → Each (λ other. same_name name other ≡ false) (phase_names ys) → Each (λ y. same_name name y.name ≡ false) ys
differ_from name [] h = tt
differ_from name (y ∷ ys) h = (h.0, differ_from name ys h.1)

apart_to : (xs ys : List Phase) → RunApart xs ys → NamesApart (phase_names xs) (phase_names ys)
apart_to [] ys h = tt
apart_to (x ∷ xs) ys h = (differ_to x.name ys h.0, apart_to xs ys h.1)

apart_from : (xs ys : List Phase) → NamesApart (phase_names xs) (phase_names ys) → RunApart xs ys
apart_from [] ys h = tt
apart_from (x ∷ xs) ys h = (differ_from x.name ys h.0, apart_from xs ys h.1)

pub branches_same : (ts us : Trees) → EachAlike ts us → BranchesRunApart ts → BranchesRunApart us
branches_same tree.no_trees tree.no_trees same h = tt
branches_same (tree.tree t ts) (tree.tree u us) same h = (
  apart_from (phases u) (phases_of_each us)
      (subst (λ ns. NamesApart ns (phase_names (phases_of_each us))) (same_names t u same.0)
      (subst (λ ns. NamesApart (phase_names (phases t)) ns) (each_same_names ts us same.1) (apart_to (phases t) (phases_of_each ts) h.0))),
  branches_same ts us same.1 h.1,
)
branches_same _ _ same h = absurd same

apart_alike : (t u : Tree) → AreAlike t u → IsApart in_operation t → IsApart in_operation u
apart_alike (tree.par ts) (tree.par us) same h = branches_same ts us same h
apart_alike (tree.act s w) (tree.act r v) same h = tt
apart_alike tree.skip tree.skip same h = tt
apart_alike (tree.seq ts) (tree.seq us) same h = tt
apart_alike (tree.sel cs) (tree.sel ds) same h = tt
apart_alike (tree.loop n c t) (tree.loop m d u) same h = tt
apart_alike _ _ same h = absurd same

pub apart_as : (l : Level) (t u : Tree) → AreAlike t u → IsApart l t → IsApart l u
apart_as is_procedure t u same h = tt
apart_as in_procedure t u same h = tt
apart_as in_unit_procedure t u same h = tt
apart_as in_operation t u same h = apart_alike t u same h

pub turns_as : (t u : Tree) → AreAlike t u → TurnsRun t → TurnsRun u
turns_as (tree.loop n c t) (tree.loop m d u) same h = sym (same_runs t u same) ∙ h
turns_as (tree.act s w) (tree.act r v) same h = tt
turns_as tree.skip tree.skip same h = tt
turns_as (tree.seq ts) (tree.seq us) same h = tt
turns_as (tree.par ts) (tree.par us) same h = tt
turns_as (tree.sel cs) (tree.sel ds) same h = tt
turns_as _ _ same h = absurd same

-- Node by node

abbrev pub IsLike : Part → Part → Type 0
IsLike x y = (x.level ≡ y.level) × AreAlike x.node.here y.node.here × (x.node.place ≡ y.node.place)

abbrev PartsAlike : List Part → List Part → Type 0
PartsAlike [] [] = Unit {0}
PartsAlike (x ∷ xs) (y ∷ ys) = IsLike x y × PartsAlike xs ys
PartsAlike _ _ = ⊥

both : (xs ys ns ms : List Part) → PartsAlike xs ys → PartsAlike ns ms → PartsAlike (xs ++ ns) (ys ++ ms)
both [] [] ns ms h g = g
both (x ∷ xs) (y ∷ ys) ns ms h g = (h.0, both xs ys ns ms h.1 g)
both _ _ ns ms h g = absurd h

mutual
  parts_alike : (l : Level) (p : Place) (above under : List Name) (t u : Tree) → AreAlike t u → PartsAlike (parts l p above t) (parts l p under u)
  parts_alike l p above under (tree.act s w) (tree.act r v) h = ((refl, h, refl), within_alike (below l) p (above ++ resources_needed s.needs) (under ++ resources_needed r.needs) w v h.0)
  parts_alike l p above under tree.skip tree.skip h = ((refl, tt, refl), tt)
  parts_alike l p above under (tree.seq ts) (tree.seq us) h = ((refl, h, refl), each_alike l p above under 0 ts us h)
  parts_alike l p above under (tree.par ts) (tree.par us) h = ((refl, h, refl), each_alike l p above under 0 ts us h)
  parts_alike l p above under (tree.sel cs) (tree.sel ds) h = ((refl, h, refl), choices_alike l p above under 0 cs ds h)
  parts_alike l p above under (tree.loop n c t) (tree.loop m d u) h = ((refl, h, refl), parts_alike l (child p 0) above under t u h)
  parts_alike l p above under _ _ h = absurd h

  within_alike : (l : Level) (p : Place) (above under : List Name) (w v : Task) → TasksAlike w v → PartsAlike (parts_within l p above w) (parts_within l p under v)
  within_alike l p above under (tree.runs one) (tree.runs other) h = tt
  within_alike l p above under (tree.follows name t) (tree.follows other u) h = parts_alike l (child p 0) above under t u h.0
  within_alike l p above under _ _ h = absurd h

  each_alike : (l : Level) (p : Place) (above under : List Name) (i : ℕ) (ts us : Trees) → EachAlike ts us → PartsAlike (parts_of_each l p above i ts) (parts_of_each l p under i us)
  each_alike l p above under i tree.no_trees tree.no_trees h = tt
  each_alike l p above under i (tree.tree t ts) (tree.tree u us) h =
      both (parts l (child p i) above t) (parts l (child p i) under u) (parts_of_each l p above (i + 1) ts) (parts_of_each l p under (i + 1) us)
      (parts_alike l (child p i) above under t u h.0) (each_alike l p above under (i + 1) ts us h.1)
  each_alike l p above under i _ _ h = absurd h

  choices_alike : (l : Level) (p : Place) (above under : List Name) (i : ℕ) (cs ds : Choices) → ChoicesAlike cs ds → PartsAlike (parts_of_choices l p above i cs) (parts_of_choices l p under i ds)
  choices_alike l p above under i (tree.otherwise t) (tree.otherwise u) h = parts_alike l (child p i) above under t u h
  choices_alike l p above under i (tree.choice c t cs) (tree.choice d u ds) h =
      both (parts l (child p i) above t) (parts l (child p i) under u) (parts_of_choices l p above (i + 1) cs) (parts_of_choices l p under (i + 1) ds)
      (parts_alike l (child p i) above under t u h.0) (choices_alike l p above under (i + 1) cs ds h.1)
  choices_alike l p above under i _ _ h = absurd h

alike_at : (xs ys : List Part) → PartsAlike xs ys → (k : ℕ) (x : Part) → slice_get xs k ≡ Some x → (y : Part) × (slice_get ys k ≡ Some y) × IsLike x y
alike_at [] [] h k x is = let bad : None ≡ Some x = is in cc
alike_at (z ∷ xs) (y ∷ ys) h zero x is = let e : z ≡ x = cc in (y, refl, subst (λ (q : Part). IsLike q y) e h.0)
alike_at (z ∷ xs) (y ∷ ys) h (suc k) x is = alike_at xs ys h.1 k x is
alike_at _ _ h k x is = absurd h

-- The trees of a recipe

module _ (bound other : Binding) (acts : Acts) where
  abbrev one : Sites
  one = sites bound acts

  abbrev two : Sites
  two = sites other acts

  abbrev Labels : (Name → Place → Tree) → (Name → Place → Tree) → Type 0
  Labels f g = (name : Name) (p : Place) → AreAlike (f name p) (g name p)

  module _ (f g : Name → Place → Tree) (labels : Labels f g) where
    mutual
      chart_alike : (p : Place) (d : Diagram) → AreAlike (expanded f p d) (expanded g p d)
      chart_alike p (label name) = labels name p
      chart_alike p skip = tt
      chart_alike p (seq ds) = charts_alike p 0 ds
      chart_alike p (par ds) = charts_alike p 0 ds
      chart_alike p (sel cs) = cases_alike p 0 cs
      chart_alike p (loop turns until d) = chart_alike (child p 0) d

      charts_alike : (p : Place) (i : ℕ) (ds : Diagrams) → EachAlike (expanded_each f p i ds) (expanded_each g p i ds)
      charts_alike p i none = tt
      charts_alike p i (more d ds) = (chart_alike (child p i) d, charts_alike p (i + 1) ds)

      cases_alike : (p : Place) (i : ℕ) (cs : Cases) → ChoicesAlike (expanded_cases f p i cs) (expanded_cases g p i cs)
      cases_alike p i (otherwise d) = chart_alike (child p i) d
      cases_alike p i (when c d cs) = (chart_alike (child p i) d, cases_alike p (i + 1) cs)

    work_alike : (unit second name : Name) (p : Place) (work : Work) → TasksAlike (task_of f unit name p work) (task_of g second name p work)
    work_alike unit second name p (Follows c) = (chart_alike (child p 0) (diagram_of c), refl)
    work_alike unit second name p (Runs phase values reports) = refl

  abbrev From : List (List Act) → Type 0
  From tables = (unit second name : Name) (p : Place) → AreAlike (named_tree_with one tables unit name p) (named_tree_with two tables second name p)

  act_alike : (tables : List (List Act)) → From tables → (unit second : Name) (a : Act) (p : Place)
      → AreAlike (act_tree_with one (named_tree_with one tables) unit a p) (act_tree_with two (named_tree_with two tables) second a p)
  act_alike tables labels unit second a p =
      let own = unit_below unit (unit_with bound a.unit) in
      let owned = unit_below second (unit_with other a.unit) in
      (work_alike (named_tree_with one tables own) (named_tree_with two tables owned) (labels own owned) own owned a.name p a.work, refl, refl)

  from : (tables : List (List Act)) → From tables
  from [] = λ unit second name p. tt
  from (table ∷ tables) = λ unit second name p. found (from tables) (act_named table name) unit second p
    where
      found : From tables → (o : Option Act) (unit second : Name) (p : Place)
          → AreAlike (elim o [ None ↦ tree.skip | Some a ↦ act_tree_with one (named_tree_with one tables) unit a p ])
          (elim o [ None ↦ tree.skip | Some a ↦ act_tree_with two (named_tree_with two tables) second a p ])
      found labels None unit second p = tt
      found labels (Some a) unit second p = act_alike tables labels unit second a p

  -- the trees are alike
  pub tree_alike : AreAlike (bound_tree bound acts) (bound_tree other acts)
  tree_alike = let tables = tables_from acts (Some UnitProcedures) in act_alike tables (from tables) [] [] acts.procedure (0 ∷ [])

  -- the nodes with one number run the same
  pub part_alike : (k : ℕ) (x : Part) → slice_get (bound_parts bound acts) k ≡ Some x → (y : Part) × (slice_get (bound_parts other acts) k ≡ Some y) × IsLike x y
  part_alike k x is =
      let tables = tables_from acts (Some UnitProcedures) in
      alike_at (bound_parts bound acts) (bound_parts other acts)
      (parts_alike is_procedure (0 ∷ []) [] [] (bound_tree bound acts) (bound_tree other acts) (act_alike tables (from tables) [] [] acts.procedure (0 ∷ []))) k x is
