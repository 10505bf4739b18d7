-- In an expanded tree, the need by which an act reserves a unit procedure that follows it is the first need of that unit procedure.
use Rattle.std.proofs.Common.{arith, ◌≡◌, refl, sym, ◌∙◌, ap, subst, ℕ, suc, ◌+◌, List, [], ◌∷◌, ◌++◌, map, length, true, Option, Some, None, slice_get, inl, inr, ⊎_elim, append-nil, append_assoc}
use Rattle.std.{proofs.lemmas.List.length-append, proofs.lemmas.Slice.Eq.bytes_eq-Decides, specs.Prelude.option_and_then}
use Rattle.batch_recipe.{specs.Conditions.Name, specs.Conditions.same_name, specs.Diagram.Diagram, specs.Diagram.Diagrams, specs.Diagram.Cases, specs.Diagram.diagram_of, specs.Expanding.Binding, specs.Expanding.Sites, specs.Expanding.expanded, specs.Expanding.expanded_each, specs.Expanding.expanded_cases, specs.Expanding.unit_chosen, specs.Expanding.unit_with, specs.Expanding.unit_below, specs.Expanding.unit_count, specs.Expanding.unit_named, specs.Expanding.asked_in_order, specs.Expanding.needs_with, specs.Expanding.reserves_from, specs.Expanding.step_of, specs.Expanding.task_of, specs.Expanding.act_named, specs.Expanding.act_tree_with, specs.Expanding.named_tree_with, specs.Following.branch, specs.Following.choice_at, specs.Following.follower, specs.Needs.one_unit, specs.Nodes.child, specs.Procedure.sites, specs.Procedure.tables_from, specs.Procedure.bound_tree, specs.Tree.Place, specs.Tree.Reserve, specs.Tree.Step, specs.Tree.Task, specs.Tree.runs, specs.Tree.follows, specs.Tree.Tree, specs.Tree.act, specs.Tree.skip, specs.Tree.seq, specs.Tree.par, specs.Tree.sel, specs.Tree.loop, specs.Tree.Trees, specs.Tree.no_trees, specs.Tree.tree, specs.Tree.Choices, specs.Tree.otherwise, specs.Tree.choice, specs.WellFormed.are_kinds, specs.declared.act.Act.Act, specs.declared.act.UnitChoice.UnitChoice, specs.declared.act.Work.Work, specs.declared.act.Work.TheVariants.Follows, specs.declared.act.Work.TheVariants.Runs, specs.declared.acts.Acts.Acts, specs.declared.acts.LabelTable.TheVariants.UnitProcedures, specs.declared.need.Need.Need, proofs.Followers.tree_below, proofs.AppendedLists.slice_get-right}
use Rattle.batch_recipe.specs.Diagram as chart
use Rattle.batch_model.{specs.ActStates.steps, specs.ActStates.steps_below, specs.ActStates.steps_of_each, specs.ActStates.steps_of_choices, specs.Lists.Has, specs.Lists.Each, specs.Placed.IsPlaced, specs.Placed.ArePlaced, specs.Placed.IsChoicePlaced, proofs.Bindings.unit-of-each, proofs.Members.Has-split, proofs.Members.Each-Has, proofs.Members.Each-append}
use Rattle.batch_record_laws.{specs.Procedures.ReservesUnits, proofs.Members.Has-Each, proofs.FactPlaces.drop_prefix, proofs.UnitProcedures.Top, proofs.UnitProcedures.tops, proofs.UnitProcedures.tops_of_each, proofs.UnitProcedures.tops_of_choices, proofs.UnitProcedures.top-steps, proofs.UnitProcedures.find-passes, proofs.UnitProcedures.follower-one}

-- A step stands at its place

-- the tree below this one at the step's place is the step's act
pub record IsAtStep (c : Tree) (p : Place) (s : Step) : Type 0 where
  pub below : Place
  pub task : Task
  pub place : s.place ≡ p ++ below
  pub here : tree_below c below ≡ Some (act s task)

-- the same below the children, of which `child_at` gives those from child i on
pub record IsAtChild (child_at : ℕ → Option Tree) (p : Place) (i : ℕ) (s : Step) : Type 0 where
  pub number : ℕ
  pub below : Place
  pub task : Task
  pub place : s.place ≡ p ++ (i + number) ∷ below
  pub here : elim (child_at number) [ None ↦ None | Some part ↦ tree_below part below ] ≡ Some (act s task)

first-at : (child_at : ℕ → Option Tree) (p : Place) (i : ℕ) (s : Step) (c : Tree) → child_at 0 ≡ Some c → IsAtStep c (child p i) s → IsAtChild child_at p i s
first-at child_at p i s c is m = record {
  number = 0;
  below = m.below;
  task = m.task;
  place = m.place ∙ (append_assoc p (i ∷ []) m.below ∙ ap (λ j. p ++ j ∷ m.below) (omega arith));
  here = ap (λ o. elim o [ None ↦ None | Some part ↦ tree_below part m.below ]) is ∙ m.here;
}

later-at : (child_at : ℕ → Option Tree) (p : Place) (i : ℕ) (s : Step) → IsAtChild (λ n. child_at (suc n)) p (i + 1) s → IsAtChild child_at p i s
later-at child_at p i s m = record {
  number = suc m.number;
  below = m.below;
  task = m.task;
  place = m.place ∙ ap (λ j. p ++ j ∷ m.below) (omega arith);
  here = m.here;
}

mutual
  pub step-at : (p : Place) (c : Tree) → IsPlaced p c → (s : Step) → Has (steps c) s → IsAtStep c p s
  step-at p (act u w) pl s (inl e) = record {
    below = [];
    task = w;
    place = ap (λ z. z.place) (sym e) ∙ (pl.0 ∙ sym (append-nil p));
    here = ap (λ z. Some (act z w)) e;
  }
  step-at p (act u (runs x)) pl s (inr h) = absurd h
  step-at p (act u (follows name c)) pl s (inr h) =
      let m = step-at (child p 0) c pl.1 s h in
      record { below = 0 ∷ m.below; task = m.task; place = m.place ∙ append_assoc p (0 ∷ []) m.below; here = m.here }
  step-at p skip pl s h = absurd h
  step-at p (seq cs) pl s h =
      let m = each-at p 0 cs pl s h in
      record { below = m.number ∷ m.below; task = m.task; place = m.place ∙ ap (λ j. p ++ j ∷ m.below) (omega arith); here = m.here }
  step-at p (par cs) pl s h =
      let m = each-at p 0 cs pl s h in
      record { below = m.number ∷ m.below; task = m.task; place = m.place ∙ ap (λ j. p ++ j ∷ m.below) (omega arith); here = m.here }
  step-at p (sel ch) pl s h =
      let m = chosen-at p 0 ch pl s h in
      record { below = m.number ∷ m.below; task = m.task; place = m.place ∙ ap (λ j. p ++ j ∷ m.below) (omega arith); here = m.here }
  step-at p (loop n c b) pl s h =
      let m = step-at (child p 0) b pl s h in
      record { below = 0 ∷ m.below; task = m.task; place = m.place ∙ append_assoc p (0 ∷ []) m.below; here = m.here }

  pub each-at : (p : Place) (i : ℕ) (cs : Trees) → ArePlaced p i cs → (s : Step) → Has (steps_of_each cs) s → IsAtChild (branch cs) p i s
  each-at p i no_trees pl s h = absurd h
  each-at p i (tree c cs) pl s h =
      ⊎_elim (λ m. first-at (branch (tree c cs)) p i s c refl (step-at (child p i) c pl.0 s m)) (λ m. later-at (branch (tree c cs)) p i s (each-at p (i + 1) cs pl.1 s m))
      (Has-split (steps c) (steps_of_each cs) s h)

  pub chosen-at : (p : Place) (i : ℕ) (ch : Choices) → IsChoicePlaced p i ch → (s : Step) → Has (steps_of_choices ch) s → IsAtChild (choice_at ch) p i s
  chosen-at p i (otherwise c) pl s h = first-at (choice_at (otherwise c)) p i s c refl (step-at (child p i) c pl s h)
  chosen-at p i (choice q c ch) pl s h =
      ⊎_elim (λ m. first-at (choice_at (choice q c ch)) p i s c refl (step-at (child p i) c pl.0 s m))
      (λ m. later-at (choice_at (choice q c ch)) p i s (chosen-at p (i + 1) ch pl.1 s m))
      (Has-split (steps c) (steps_of_choices ch) s h)

-- two steps at one place are one
pub one-step : (p : Place) (c : Tree) → IsPlaced p c → (s t : Step) → Has (steps c) s → Has (steps c) t → s.place ≡ t.place → s ≡ t
one-step p c pl s t h k e =
    let m = step-at p c pl s h in
    let n = step-at p c pl t k in
    let same : m.below ≡ n.below = drop_prefix p m.below n.below (sym m.place ∙ (e ∙ n.place)) in
    let both : Some (act s m.task) ≡ Some (act t n.task) = sym m.here ∙ (ap (tree_below c) same ∙ n.here) in
    cc

-- Steps of an expanded tree are those of acts

module _ (own : Sites) where
  -- the step has the needs and the reserves of the act
  record IsStepOf (s : Step) : Type 0 where
    of_act : Act
    asks : s.needs ≡ needs_with own of_act
    reserves : s.reserves ≡ reserves_from (unit_count of_act.unit) of_act.reserves.items

  abbrev AreSteps : Tree → Type 0
  AreSteps c = Each IsStepOf (steps c)

  module _ (acts : Name → Place → Tree) (labels : (name : Name) (p : Place) → AreSteps (acts name p)) where
    mutual
      chart-steps : (p : Place) (d : Diagram) → AreSteps (expanded acts p d)
      chart-steps p (chart.label name) = labels name p
      chart-steps p chart.skip = tt
      chart-steps p (chart.seq ds) = each-steps p 0 ds
      chart-steps p (chart.par ds) = each-steps p 0 ds
      chart-steps p (chart.sel cs) = cases-steps p 0 cs
      chart-steps p (chart.loop turns until d) = chart-steps (child p 0) d

      each-steps : (p : Place) (i : ℕ) (ds : Diagrams) → Each IsStepOf (steps_of_each (expanded_each acts p i ds))
      each-steps p i chart.none = tt
      each-steps p i (chart.more d ds) =
          Each-append IsStepOf (steps (expanded acts (child p i) d)) (steps_of_each (expanded_each acts p (i + 1) ds)) (chart-steps (child p i) d) (each-steps p (i + 1) ds)

      cases-steps : (p : Place) (i : ℕ) (cs : Cases) → Each IsStepOf (steps_of_choices (expanded_cases acts p i cs))
      cases-steps p i (chart.otherwise d) = chart-steps (child p i) d
      cases-steps p i (chart.when c d cs) =
          Each-append IsStepOf (steps (expanded acts (child p i) d)) (steps_of_choices (expanded_cases acts p (i + 1) cs)) (chart-steps (child p i) d) (cases-steps p (i + 1) cs)

    work-steps : (unit name : Name) (p : Place) (w : Work) → Each IsStepOf (steps_below (task_of acts unit name p w))
    work-steps unit name p (Follows c) = chart-steps (child p 0) (diagram_of c)
    work-steps unit name p (Runs phase values reports) = tt

  act-steps : (acts : Name → Name → Place → Tree) → ((unit name : Name) (p : Place) → AreSteps (acts unit name p)) → (unit : Name) (a : Act) (p : Place) → AreSteps (act_tree_with own acts unit a p)
  act-steps acts labels unit a p =
      let under : Name = unit_below unit (unit_with own.bound a.unit) in
      (record { of_act = a; asks = refl; reserves = refl }, work-steps (acts under) (labels under) under a.name p a.work)

  named-steps : (tables : List (List Act)) (unit name : Name) (p : Place) → AreSteps (named_tree_with own tables unit name p)
  named-steps [] unit name p = tt
  named-steps (table ∷ tables) unit name p = go (act_named table name) (named-steps tables)
    where
      go : (o : Option Act) → ((unit name : Name) (p : Place) → AreSteps (named_tree_with own tables unit name p)) → AreSteps (elim o [ None ↦ skip | Some a ↦ act_tree_with own (named_tree_with own tables) unit a p ])
      go None below = tt
      go (Some a) below = act-steps (named_tree_with own tables) below unit a p

  -- Unit procedures of an expanded chart are named in the table

  record IsTopOf (t : Top) : Type 0 where
    of_act : Act
    named : act_named own.unit_procedures of_act.name ≡ Some of_act
    name : t.1 ≡ of_act.name
    asks : t.0.needs ≡ needs_with own of_act

  module _ (tables : List (List Act)) (unit : Name) where
    abbrev Labels : Name → Place → Tree
    Labels = named_tree_with own (own.unit_procedures ∷ tables) unit

    label-tops : (name : Name) (p : Place) → Each IsTopOf (tops (Labels name p))
    label-tops name p = go (act_named own.unit_procedures name) refl
      where
        of_work : (a : Act) (w : Work) → act_named own.unit_procedures name ≡ Some a
            → Each IsTopOf (tops (act (step_of own a p) (task_of (named_tree_with own tables (unit_below unit (unit_with own.bound a.unit))) (unit_below unit (unit_with own.bound a.unit)) a.name p w)))
        of_work a (Runs phase values reports) e = tt
        of_work a (Follows c) e =
            let found = find-passes (λ (b : Act). same_name b.name name) own.unit_procedures a e in
            let same : a.name ≡ name = (bytes_eq-Decides a.name name).0 found.1 in
            (record { of_act = a; named = ap (act_named own.unit_procedures) same ∙ e; name = refl; asks = refl }, tt)

        go : (o : Option Act) → act_named own.unit_procedures name ≡ o → Each IsTopOf (tops (elim o [ None ↦ skip | Some a ↦ act_tree_with own (named_tree_with own tables) unit a p ]))
        go None e = tt
        go (Some a) e = of_work a a.work e

    mutual
      chart-tops : (p : Place) (d : Diagram) → Each IsTopOf (tops (expanded Labels p d))
      chart-tops p (chart.label name) = label-tops name p
      chart-tops p chart.skip = tt
      chart-tops p (chart.seq ds) = each-tops p 0 ds
      chart-tops p (chart.par ds) = each-tops p 0 ds
      chart-tops p (chart.sel cs) = cases-tops p 0 cs
      chart-tops p (chart.loop turns until d) = chart-tops (child p 0) d

      each-tops : (p : Place) (i : ℕ) (ds : Diagrams) → Each IsTopOf (tops_of_each (expanded_each Labels p i ds))
      each-tops p i chart.none = tt
      each-tops p i (chart.more d ds) =
          Each-append IsTopOf (tops (expanded Labels (child p i) d)) (tops_of_each (expanded_each Labels p (i + 1) ds)) (chart-tops (child p i) d) (each-tops p (i + 1) ds)

      cases-tops : (p : Place) (i : ℕ) (cs : Cases) → Each IsTopOf (tops_of_choices (expanded_cases Labels p i cs))
      cases-tops p i (chart.otherwise d) = chart-tops (child p i) d
      cases-tops p i (chart.when c d cs) =
          Each-append IsTopOf (tops (expanded Labels (child p i) d)) (tops_of_choices (expanded_cases Labels p (i + 1) cs)) (chart-tops (child p i) d) (cases-tops p (i + 1) cs)

  -- The need by which an act reserves

  reserve-need : (front : List Need) (names : List Name) (needs : List Need) (n : ℕ) (x : Reserve) → length front ≡ n → Has (reserves_from n names) x
      → slice_get (front ++ (map one_unit (map (unit_named own) names) ++ needs)) x.need ≡ Some (one_unit (unit_named own x.name))
  reserve-need front [] needs n x size h = absurd h
  reserve-need front (name ∷ names) needs n x size (inl e) =
      let need : x.need ≡ length front + 0 = (let z : n ≡ x.need = ap (λ y. y.need) e in omega (arith, size)) in
      let named : name ≡ x.name = ap (λ y. y.name) e in
      ap (slice_get (front ++ (map one_unit (map (unit_named own) (name ∷ names)) ++ needs))) need
      ∙ (slice_get-right front (map one_unit (map (unit_named own) (name ∷ names)) ++ needs) 0 ∙ ap (λ m. Some (one_unit (unit_named own m))) named)
  reserve-need front (name ∷ names) needs n x size (inr h) =
      let first : List Need = one_unit (unit_named own name) ∷ [] in
      ap (λ zs. slice_get zs x.need) (sym (append_assoc front first (map one_unit (map (unit_named own) names) ++ needs)))
      ∙ reserve-need (front ++ first) names needs (n + 1) x (length-append front first ∙ omega (arith, size)) h

  asked-need : (a : Act) (o : Option UnitChoice) (x : Reserve) → Has (reserves_from (unit_count o) a.reserves.items) x
      → slice_get (asked_in_order (unit_with own.bound o) (map (unit_named own) a.reserves.items) a.needs.items) x.need ≡ Some (one_unit (unit_named own x.name))
  asked-need a None x h = reserve-need [] a.reserves.items a.needs.items 0 x refl h
  asked-need a (Some taken) x h = reserve-need (one_unit (unit_chosen own.bound taken) ∷ []) a.reserves.items a.needs.items 1 x refl h

  first-need : (a : Act) (taken : UnitChoice) → a.unit ≡ Some taken → act_named own.unit_procedures a.name ≡ Some a → slice_get (needs_with own a) 0 ≡ Some (one_unit (unit_named own a.name))
  first-need a taken e named =
      ap (λ o. slice_get (asked_in_order (unit_with own.bound o) (map (unit_named own) a.reserves.items) a.needs.items) 0) e
      ∙ ap (λ n. Some (one_unit n)) (sym (ap (λ o. elim (option_and_then (λ (u : Act). unit_with own.bound u.unit) o) [ None ↦ [] | Some unit ↦ unit ]) named
      ∙ ap (λ o. elim (unit_with own.bound o) [ None ↦ [] | Some unit ↦ unit ]) e))

module _ (bound : Binding) (acts : Acts) (kinds : are_kinds acts ≡ true) where
  abbrev own : Sites
  own = sites bound acts

  abbrev all_labels : Name → Name → Place → Tree
  all_labels = named_tree_with own (tables_from acts (Some UnitProcedures))

  abbrev under : Name
  under = unit_below [] (unit_with bound acts.procedure.unit)

  abbrev whole : Work → Tree
  whole w = act (step_of own acts.procedure (0 ∷ [])) (task_of (all_labels under) under acts.procedure.name (0 ∷ []) w)

  matched : (w : Work) → IsPlaced (0 ∷ []) (whole w) → (s : Step) → Has (steps (whole w)) s → IsStepOf own s → (x : Reserve) → Has s.reserves x → (place : Place)
      → follower (whole w) s.place x.name ≡ Some place → (other : Step) → Has (steps (whole w)) other → other.place ≡ place → slice_get s.needs x.need ≡ slice_get other.needs 0
  matched (Runs phase values reports) pl s h so x k place e other j at = absurd (none s.place e)
    where
      none : (q : Place) → follower (whole (Runs phase values reports)) q x.name ≡ Some place → ⊥
      none [] f = let bad : None ≡ Some place = f in cc
      none (root ∷ []) f = let bad : None ≡ Some place = f in cc
      none (root ∷ i ∷ q) f = let bad : None ≡ Some place = f in cc
  matched (Follows c) pl s h so x k place e other j at =
      let drawn : Tree = expanded (all_labels under) (0 ∷ 0 ∷ []) (diagram_of c) in
      let t = follower-one (step_of own acts.procedure (0 ∷ [])) acts.procedure.name drawn s.place x.name place e in
      let top = Each-Has (IsTopOf own) (tops drawn) t.0 (chart-tops own (acts.operations.items ∷ acts.phases.items ∷ []) under (0 ∷ 0 ∷ []) (diagram_of c)) t.1 in
      let there : Has (steps (whole (Follows c))) t.0.0 = inr (top-steps drawn t.0 t.1) in
      let same : other ≡ t.0.0 = one-step (0 ∷ []) (whole (Follows c)) pl other t.0.0 j there (at ∙ sym t.3) in
      let name : top.of_act.name ≡ x.name = sym top.name ∙ (bytes_eq-Decides t.0.1 x.name).0 t.2 in
      let taken = unit-of-each acts kinds top.of_act (find-passes (λ (b : Act). same_name b.name top.of_act.name) acts.unit_procedures.items top.of_act top.named).0 in
      let mine : slice_get s.needs x.need ≡ Some (one_unit (unit_named own x.name))
      = ap (λ zs. slice_get zs x.need) so.asks ∙ asked-need own so.of_act so.of_act.unit x (subst (λ zs. Has zs x) so.reserves k) in
      let theirs : slice_get other.needs 0 ≡ Some (one_unit (unit_named own top.of_act.name))
      = ap (λ (z : Step). slice_get z.needs 0) same ∙ (ap (λ zs. slice_get zs 0) top.asks ∙ first-need own top.of_act taken.0 taken.1 top.named) in
      mine ∙ (ap (λ n. Some (one_unit (unit_named own n))) (sym name) ∙ sym theirs)

  pub reserves-units : IsPlaced (0 ∷ []) (bound_tree bound acts) → ReservesUnits (bound_tree bound acts)
  reserves-units pl =
      let c : Tree = bound_tree bound acts in
      let all : Each (IsStepOf own) (steps c) = act-steps own all_labels (named-steps own (tables_from acts (Some UnitProcedures))) [] acts.procedure (0 ∷ []) in
      Has-Each (λ step. Each (λ reserve. (place : Place) → follower c step.place reserve.name ≡ Some place → Each (λ other. other.place ≡ place → slice_get step.needs reserve.need ≡ slice_get other.needs 0) (steps c)) step.reserves)
      (steps c)
      (λ s h. Has-Each (λ reserve. (place : Place) → follower c s.place reserve.name ≡ Some place → Each (λ other. other.place ≡ place → slice_get s.needs reserve.need ≡ slice_get other.needs 0) (steps c)) s.reserves
      (λ x k place e. Has-Each (λ other. other.place ≡ place → slice_get s.needs x.need ≡ slice_get other.needs 0) (steps c)
      (λ other j at. matched acts.procedure.work pl s h (Each-Has (IsStepOf own) (steps c) s all h) x k place e other j at)))
