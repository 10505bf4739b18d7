-- Two tables of acts in which each act that a node is stands alike expand to the same nodes.
use Rattle.std.proofs.lemmas.{List.Quantifiers.position-Some, Option.slice_get-get_or}
use Rattle.std.proofs.Common.{get_or, ◌≡◌, refl, sym, ◌∙◌, ap, ap₂, ℕ, ◌+◌, suc, List, [], ◌∷◌, ◌++◌, length, map, slice_get, Option, Some, None}
use Rattle.batch_recipe.{specs.ActsAtNodes.ActList, specs.ActsAtNodes.acts_along, specs.ActsAtNodes.acts_along_each, specs.ActsAtNodes.acts_along_cases, specs.ActsAtNodes.acts_below, specs.ActsAtNodes.acts_from, specs.ActsAtNodes.acts_named, specs.ActsAtNodes.procedure_acts, specs.Conditions.Name, specs.Conditions.same_name, specs.Diagram.Diagram, specs.Diagram.label, specs.Diagram.skip, specs.Diagram.seq, specs.Diagram.par, specs.Diagram.sel, specs.Diagram.loop, specs.Diagram.Diagrams, specs.Diagram.none, specs.Diagram.more, specs.Diagram.Cases, specs.Diagram.otherwise, specs.Diagram.when, specs.Diagram.diagram_of, specs.Expanding.Binding, specs.Expanding.act_named, specs.Expanding.act_tree_with, specs.Expanding.asked_in_order, specs.Expanding.reserves_from, specs.Expanding.unit_count, specs.Expanding.expanded, specs.Expanding.expanded_each, specs.Expanding.expanded_cases, specs.Expanding.named_tree_with, specs.Expanding.step_of, specs.Expanding.task_of, specs.Expanding.unit_below, specs.Expanding.unit_named, specs.Expanding.unit_with, specs.Growing.LabelConditions, specs.Growing.Labels, specs.Growing.plain_head, specs.Growing.topped, specs.Growing.act_head, specs.Growing.act_entries, specs.Growing.act_conditions, specs.Growing.grown_act, specs.Growing.conditions_along, specs.Growing.conditions_along_each, specs.Growing.conditions_along_cases, specs.Growing.conditions_below, specs.Growing.conditions_named, specs.Growing.conditions_of, specs.Growing.conditions_of_cases, specs.Growing.entries_of, specs.Growing.grown, specs.Growing.grown_each, specs.Growing.grown_cases, specs.Growing.grown_named, specs.Growing.grown_work, specs.Growing.number_in, specs.Growing.unit_number, specs.Nodes.child, specs.Procedure.bound_tree, specs.Procedure.sites, specs.Procedure.table_at, specs.Tree.Place, specs.Tree.Tree, specs.declared.act.Act.Act, specs.declared.act.Work.Work, specs.declared.act.Work.TheVariants.Follows, specs.declared.act.Work.TheVariants.Runs, specs.declared.acts.Acts.Acts, specs.declared.acts.LabelTable.LabelTable, specs.declared.acts.LabelTable.TheVariants.UnitProcedures, specs.declared.acts.LabelTable.TheVariants.Operations, specs.declared.acts.LabelTable.TheVariants.Phases, specs.declared.entry.Entry.Entry, proofs.AppendedLists.slice_get-left, proofs.AppendedLists.slice_get-right, proofs.Growth.found_at, proofs.Growth.not_found}
use Rattle.batch_recipe.specs.declared.entry.Kind.TheVariants as kind
use Rattle.batch_recipe.specs.Tree as tree

module _ (whole trimmed : Acts) where
  -- the act of the entry, if it is one, stands alike in both
  abbrev IsAlike : Entry → Type 0
  IsAlike e = (table : LabelTable) (number : ℕ) → e.kind ≡ kind.Act table number → slice_get (table_at trimmed table) number ≡ slice_get (table_at whole table) number

  abbrev pub AreAlike : List Entry → Type 0
  AreAlike es = (k : ℕ) (e : Entry) → slice_get es k ≡ Some e → IsAlike e

  first : (xs ys : List Entry) → AreAlike (xs ++ ys) → AreAlike xs
  first xs ys all k e is = all k e (slice_get-left xs ys k e is)

  pub second : (xs ys : List Entry) → AreAlike (xs ++ ys) → AreAlike ys
  second xs ys all k e is = all (length xs + k) e (slice_get-right xs ys k ∙ is)

  below_top : (e : Entry) (es : List Entry) → AreAlike (e ∷ es) → AreAlike es
  below_top e es all k x is = all (suc k) x is

  -- The charts of which labels stand for the same

  module _ (told told2 : LabelConditions) (named named2 : Labels) (tree_at tree_at2 : Name → Place → Tree) (list list2 : Name → ActList) where
    pub record IsSameLabel (name : Name) : Type 0 where
      pub conditions : told2 name ≡ told name
      pub entries : (n j u i : ℕ) → named2 name n j u i ≡ named name n j u i
      pub trees : (p : Place) → tree_at2 name p ≡ tree_at name p
      pub acts : list2 name ≡ list name

    pub record IsSameChart (d : Diagram) : Type 0 where
      pub conditions : conditions_along told2 d ≡ conditions_along told d
      pub entries : (n j u i : ℕ) → grown told2 named2 n j u i d ≡ grown told named n j u i d
      pub trees : (p : Place) → expanded tree_at2 p d ≡ expanded tree_at p d
      pub acts : acts_along list2 d ≡ acts_along list d

    pub record AreSameCharts (ds : Diagrams) : Type 0 where
      pub conditions : conditions_along_each told2 ds ≡ conditions_along_each told ds
      pub entries : (n j u i : ℕ) → grown_each told2 named2 n j u i ds ≡ grown_each told named n j u i ds
      pub trees : (p : Place) (i : ℕ) → expanded_each tree_at2 p i ds ≡ expanded_each tree_at p i ds
      pub acts : acts_along_each list2 ds ≡ acts_along_each list ds

    pub record AreSameCases (cs : Cases) : Type 0 where
      pub conditions : conditions_along_cases told2 cs ≡ conditions_along_cases told cs
      pub entries : (n j u i : ℕ) → grown_cases told2 named2 n j u i cs ≡ grown_cases told named n j u i cs
      pub trees : (p : Place) (i : ℕ) → expanded_cases tree_at2 p i cs ≡ expanded_cases tree_at p i cs
      pub acts : acts_along_cases list2 cs ≡ acts_along_cases list cs

    pub record IsSameWork (unit name : Name) (w : Work) : Type 0 where
      pub conditions : conditions_below told2 w ≡ conditions_below told w
      pub entries : (n j : ℕ) → grown_work told2 named2 n j w ≡ grown_work told named n j w
      pub trees : (p : Place) → task_of tree_at2 unit name p w ≡ task_of tree_at unit name p w
      pub acts : acts_below list2 w ≡ acts_below list w

    module _ (labels : (name : Name) (n j u i : ℕ) → AreAlike (named name n j u i) → IsSameLabel name) where
      mutual
        same_chart : (n j u i : ℕ) (d : Diagram) → AreAlike (grown told named n j u i d) → IsSameChart d
        same_chart n j u i (label name) all =
            let same = labels name n j u i all in
            record { conditions = same.conditions; entries = same.entries; trees = same.trees; acts = same.acts }
        same_chart n j u i skip all = record { conditions = refl; entries = λ n j u i. refl; trees = λ p. refl; acts = refl }
        same_chart n j u i (seq ds) all =
            let same = same_charts (n + 1) j n 0 ds (below_top _ _ all) in
            record {
              conditions = same.conditions;
              entries = λ n j u i. ap (topped (plain_head kind.Seq 0) n u i) (same.entries (n + 1) j n 0);
              trees = λ p. ap tree.seq (same.trees p 0);
              acts = ap (λ l. None ∷ l) same.acts;
            }
        same_chart n j u i (par ds) all =
            let same = same_charts (n + 1) j n 0 ds (below_top _ _ all) in
            record {
              conditions = same.conditions;
              entries = λ n j u i. ap (topped (plain_head kind.Par 0) n u i) (same.entries (n + 1) j n 0);
              trees = λ p. ap tree.par (same.trees p 0);
              acts = ap (λ l. None ∷ l) same.acts;
            }
        same_chart n j u i (sel cs) all =
            let same = same_cases (n + 1) (j + length (conditions_of_cases cs)) n 0 cs (below_top _ _ all) in
            record {
              conditions = ap (λ told. conditions_of_cases cs ++ told) same.conditions;
              entries = λ n j u i. ap (topped (plain_head kind.Sel j) n u i) (same.entries (n + 1) (j + length (conditions_of_cases cs)) n 0);
              trees = λ p. ap tree.sel (same.trees p 0);
              acts = ap (λ l. None ∷ l) same.acts;
            }
        same_chart n j u i (loop turns until d) all =
            let same = same_chart (n + 1) (j + 1) n 0 d (below_top _ _ all) in
            record {
              conditions = ap (λ told. until ∷ told) same.conditions;
              entries = λ n j u i. ap (topped (plain_head (kind.Loop turns) j) n u i) (same.entries (n + 1) (j + 1) n 0);
              trees = λ p. ap (tree.loop turns until) (same.trees (child p 0));
              acts = ap (λ l. None ∷ l) same.acts;
            }

        same_charts : (n j u i : ℕ) (ds : Diagrams) → AreAlike (grown_each told named n j u i ds) → AreSameCharts ds
        same_charts n j u i none all = record { conditions = refl; entries = λ n j u i. refl; trees = λ p i. refl; acts = refl }
        same_charts n j u i (more d ds) all =
            let here = same_chart n j u i d (first _ _ all) in
            let rest = same_charts (n + length (grown told named n j u i d)) (j + length (conditions_along told d)) u (i + 1) ds (second (grown told named n j u i d) _ all) in
            record {
              conditions = ap₂ (λ xs ys. xs ++ ys) here.conditions rest.conditions;
              entries = λ n j u i. rw (here.entries n j u i, here.conditions) (ap (λ es. grown told named n j u i d ++ es)
                  (rest.entries (n + length (grown told named n j u i d)) (j + length (conditions_along told d)) u (i + 1)));
              trees = λ p i. ap₂ tree.tree (here.trees (child p i)) (rest.trees p (i + 1));
              acts = ap₂ (λ xs ys. xs ++ ys) here.acts rest.acts;
            }

        same_cases : (n j u i : ℕ) (cs : Cases) → AreAlike (grown_cases told named n j u i cs) → AreSameCases cs
        same_cases n j u i (otherwise d) all =
            let same = same_chart n j u i d all in
            record {
              conditions = same.conditions;
              entries = same.entries;
              trees = λ p i. ap tree.otherwise (same.trees (child p i));
              acts = same.acts;
            }
        same_cases n j u i (when c d cs) all =
            let here = same_chart n j u i d (first _ _ all) in
            let rest = same_cases (n + length (grown told named n j u i d)) (j + length (conditions_along told d)) u (i + 1) cs (second (grown told named n j u i d) _ all) in
            record {
              conditions = ap₂ (λ xs ys. xs ++ ys) here.conditions rest.conditions;
              entries = λ n j u i. rw (here.entries n j u i, here.conditions) (ap (λ es. grown told named n j u i d ++ es)
                  (rest.entries (n + length (grown told named n j u i d)) (j + length (conditions_along told d)) u (i + 1)));
              trees = λ p i. ap₂ (tree.choice c) (here.trees (child p i)) (rest.trees p (i + 1));
              acts = ap₂ (λ xs ys. xs ++ ys) here.acts rest.acts;
            }

      pub same_work : (unit name : Name) (n j : ℕ) (w : Work) → AreAlike (grown_work told named n j w) → IsSameWork unit name w
      same_work unit name n j (Follows c) all =
          let same = same_chart (n + 1) j n 0 (diagram_of c) all in
          record {
            conditions = same.conditions;
            entries = λ n j. same.entries (n + 1) j n 0;
            trees = λ p. ap (tree.follows name) (same.trees (child p 0));
            acts = same.acts;
          }
      same_work unit name n j (Runs phase values reports) all =
          record { conditions = refl; entries = λ n j. refl; trees = λ p. refl; acts = refl }

  -- The acts that labels name

  -- where labels have the same numbers and reserved unit procedures the same units
  module _ (numbers : (table : LabelTable) (name : Name) → number_in (table_at trimmed table) name ≡ number_in (table_at whole table) name)
      (bound : Binding) (units : (name : Name) → unit_named (sites bound trimmed) name ≡ unit_named (sites bound whole) name) where
    mapped : (names : List Name) → map (unit_named (sites bound trimmed)) names ≡ map (unit_named (sites bound whole)) names
    mapped [] = refl
    mapped (name ∷ names) = ap₂ (λ n ns. n ∷ ns) (units name) (mapped names)

    same_step : (a : Act) (p : Place) → step_of (sites bound trimmed) a p ≡ step_of (sites bound whole) a p
    same_step a p =
        ap (λ names. record { place = p; needs = asked_in_order (unit_with bound a.unit) names a.needs.items; reserves = reserves_from (unit_count a.unit) a.reserves.items })
        (mapped a.reserves.items)

    abbrev tables : Acts → List LabelTable → List (List Act)
    tables acts levels = map (table_at acts) levels

    abbrev trees : Acts → List LabelTable → Name → Name → Place → Tree
    trees acts levels = named_tree_with (sites bound acts) (tables acts levels)

    abbrev IsSame : List LabelTable → ℕ → Name → Name → Type 0
    IsSame levels o unit name =
        IsSameLabel (conditions_named whole levels) (conditions_named trimmed levels) (grown_named whole levels o) (grown_named trimmed levels o)
        (trees whole levels unit) (trees trimmed levels unit) (acts_named (tables whole levels)) (acts_named (tables trimmed levels)) name

    abbrev AreLabelsSame : List LabelTable → Type 0
    AreLabelsSame levels = (o : ℕ) (unit name : Name) (n j u i : ℕ) → AreAlike (grown_named whole levels o name n j u i) → IsSame levels o unit name

    abbrev IsSameBelow : List LabelTable → ℕ → Name → Act → Type 0
    IsSameBelow levels o unit a =
        IsSameWork (conditions_named whole levels) (conditions_named trimmed levels) (grown_named whole levels o) (grown_named trimmed levels o)
        (trees whole levels unit) (trees trimmed levels unit) (acts_named (tables whole levels)) (acts_named (tables trimmed levels)) unit a.name a.work

    module _ (levels : List LabelTable) (labels : AreLabelsSame levels) (o n j : ℕ) (unit : Name) (a : Act)
        (all : AreAlike (grown_work (conditions_named whole levels) (grown_named whole levels o) n j a.work)) where
      abbrev own : Name
      own = unit_below unit (unit_with bound a.unit)

      pub work : IsSameBelow levels o own a
      work = same_work _ _ _ _ _ _ _ _ (labels o own) own a.name n j a.work all

      pub same_act : (p : Place) → act_tree_with (sites bound trimmed) (trees trimmed levels) unit a p ≡ act_tree_with (sites bound whole) (trees whole levels) unit a p
      same_act p = ap₂ tree.act (same_step a p) (work.trees p)

    nothing : (table : List Act) (name : Name) (k : ℕ) → number_in table name ≡ Some k → slice_get table k ≡ None → ⊥
    nothing table name k at gone =
        let within = (position-Some (λ a. same_name a.name name) table k whole.procedure at).0 in
        let there : slice_get table k ≡ Some (get_or table k whole.procedure) = slice_get-get_or table k whole.procedure within in
        let clash : None ≡ Some (get_or table k whole.procedure) = sym gone ∙ there in
        cc

    module _ (level : LabelTable) (levels : List LabelTable) (labels : AreLabelsSame levels) (o : ℕ) (unit name : Name) where
      same_none : number_in (table_at whole level) name ≡ None → IsSame (level ∷ levels) o unit name
      same_none e =
          let other = numbers level name ∙ e in
          let found = not_found (λ a. same_name a.name name) (table_at whole level) e in
          let found2 = not_found (λ a. same_name a.name name) (table_at trimmed level) other in
          record {
            conditions = rw (conditions_named, other, e) refl;
            entries = λ n j u i. rw (grown_named, other, e) refl;
            trees = λ p. rw (named_tree_with, act_named, found, found2) refl;
            acts = rw (acts_named, act_named, found, found2) refl;
          }

      same_some : (k : ℕ) (a : Act) → number_in (table_at whole level) name ≡ Some k → slice_get (table_at whole level) k ≡ Some a
          → (n j u i : ℕ) → AreAlike (grown_named whole (level ∷ levels) o name n j u i) → IsSame (level ∷ levels) o unit name
      same_some k a e is n j u i all =
          let other = numbers level name ∙ e in
          let own : AreAlike (grown_act (conditions_named whole levels) (grown_named whole levels (unit_number level k o)) (kind.Act level k) (unit_number level k o) n j u i a) =
          rw (grown_named, e, is) at all in
          let stays : slice_get (table_at trimmed level) k ≡ Some a = own 0 _ refl level k refl ∙ is in
          let found = found_at (λ a. same_name a.name name) (table_at whole level) k e ∙ is in
          let found2 = found_at (λ a. same_name a.name name) (table_at trimmed level) k other ∙ stays in
          let below = below_top _ _ own in
          let same = work levels labels (unit_number level k o) n j unit a below in
          record {
            conditions = rw (conditions_named, other, stays, e, is) same.conditions;
            entries = λ n j u i. rw (grown_named, other, stays, e, is) (ap (topped (act_head (kind.Act level k) (unit_number level k o) a) n u i) (same.entries n j));
            trees = λ p. rw (named_tree_with, act_named, found, found2) (same_act levels labels (unit_number level k o) n j unit a below p);
            acts = rw (acts_named, act_named, found, found2) (ap (λ l. Some a ∷ l) same.acts);
          }

      same_found : (number : Option ℕ) (act : Option Act) → number_in (table_at whole level) name ≡ number → (n j u i : ℕ)
          → AreAlike (grown_named whole (level ∷ levels) o name n j u i) → IsSame (level ∷ levels) o unit name
      same_found None act e n j u i all = same_none e
      same_found (Some k) act e n j u i all = go (slice_get (table_at whole level) k) refl
        where
          go : (found : Option Act) → slice_get (table_at whole level) k ≡ found → IsSame (level ∷ levels) o unit name
          go None gone = absurd (nothing (table_at whole level) name k e gone)
          go (Some a) is = same_some k a e is n j u i all

    pub same_labels : (levels : List LabelTable) → AreLabelsSame levels
    same_labels [] o unit name n j u i all = record { conditions = refl; entries = λ n j u i. refl; trees = λ p. refl; acts = refl }
    same_labels (level ∷ levels) o unit name n j u i all =
        same_found level levels (same_labels levels) o unit name (number_in (table_at whole level) name) None refl n j u i all

  -- The recipe

  module _ (procedure : trimmed.procedure ≡ whole.procedure)
      (numbers : (table : LabelTable) (name : Name) → number_in (table_at trimmed table) name ≡ number_in (table_at whole table) name)
      (all : AreAlike (entries_of whole)) where
    abbrev levels : List LabelTable
    levels = UnitProcedures ∷ Operations ∷ Phases ∷ []

    module _ (bound : Binding) (units : (name : Name) → unit_named (sites bound trimmed) name ≡ unit_named (sites bound whole) name) where
      same : IsSameBelow numbers bound units levels 0 (unit_below [] (unit_with bound whole.procedure.unit)) whole.procedure
      same = work numbers bound units levels (same_labels numbers bound units levels) 0 0 0 [] whole.procedure (below_top _ _ all)

      pub same_entries : entries_of trimmed ≡ entries_of whole
      same_entries =
          ap (λ a. act_entries trimmed (Some UnitProcedures) kind.Procedure 0 0 0 0 0 a) procedure
          ∙ ap (topped (act_head kind.Procedure 0 whole.procedure) 0 0 0) (same.entries 0 0)

      pub same_conditions : conditions_of trimmed ≡ conditions_of whole
      same_conditions = ap (act_conditions trimmed (Some UnitProcedures)) procedure ∙ same.conditions

      pub same_tree : bound_tree bound trimmed ≡ bound_tree bound whole
      same_tree =
          ap (λ a. act_tree_with (sites bound trimmed) (trees numbers bound units trimmed levels) [] a (0 ∷ [])) procedure
          ∙ same_act numbers bound units levels (same_labels numbers bound units levels) 0 0 0 [] whole.procedure (below_top _ _ all) (0 ∷ [])

      pub same_nodes_acts : procedure_acts trimmed ≡ procedure_acts whole
      same_nodes_acts = ap (acts_from (acts_named (tables numbers bound units trimmed levels))) procedure ∙ ap (λ l. Some whole.procedure ∷ l) same.acts
