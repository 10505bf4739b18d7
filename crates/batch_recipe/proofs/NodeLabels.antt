-- The act at a node has the name of the label that made the node.
use Rattle.std.specs.Cmp.Lexicographic.{bytes_decides}
use Rattle.std.proofs.Common.{◌≡◌, ℕ, zero, suc, ◌+◌, ◌++◌, List, [], ◌∷◌, Bool, true, false, Option, Some, None, slice_get, refl, sym, ap, ◌∙◌, subst, arith, append-nil, append_assoc}
use Rattle.batch_recipe.specs.{ActsAtNodes.ActList, ActsAtNodes.acts_along, ActsAtNodes.acts_along_each, ActsAtNodes.acts_along_cases, ActsAtNodes.acts_below, ActsAtNodes.acts_from, ActsAtNodes.acts_named, ActsAtNodes.procedure_acts, Conditions.Name, Conditions.same_name, Diagram.Diagram, Diagram.label, Diagram.skip, Diagram.seq, Diagram.par, Diagram.sel, Diagram.loop, Diagram.Diagrams, Diagram.none, Diagram.more, Diagram.Cases, Diagram.otherwise, Diagram.when, Diagram.diagram_of, Expanding.Binding, Expanding.Sites, Expanding.expanded, Expanding.expanded_each, Expanding.expanded_cases, Expanding.task_of, Expanding.act_named, Expanding.act_tree_with, Expanding.named_tree_with, Expanding.unit_with, Expanding.unit_below, Expanding.needs_with, Labels.label_along, Labels.label_along_each, Labels.label_along_cases, Labels.label_below, Labels.label_named, Labels.label_at, Needs.resources_needed, Nodes.Node, Nodes.node, Nodes.nodes, Nodes.nodes_within, Nodes.nodes_of_each, Nodes.nodes_of_choices, Nodes.child, Procedure.sites, Procedure.tables_from, Procedure.bound_nodes, Tree.Place, Tree.Tree, declared.act.Act.Act, declared.act.Work.Work, declared.act.Work.TheVariants.Follows, declared.act.Work.TheVariants.Runs, declared.acts.Acts.Acts, declared.acts.LabelTable.TheVariants.UnitProcedures}
use Rattle.batch_recipe.specs.Tree as tree

abbrev Labelling : Type 0
Labelling = Place → Option Name

-- the label at the node's place below p has the name of the act
abbrev IsLabelled : Labelling → Place → Option Act → Node → Type 0
IsLabelled f p o x = (q : Place) × (x.place ≡ p ++ q) × ((a : Act) → o ≡ Some a → f q ≡ Some a.name)

abbrev AreLabelled : Labelling → Place → ActList → List Node → Type 0
AreLabelled f p [] [] = Unit {0}
AreLabelled f p (o ∷ os) (x ∷ xs) = IsLabelled f p o x × AreLabelled f p os xs
AreLabelled f p _ _ = ⊥

joined : (f : Labelling) (p : Place) (os us : ActList) (xs ys : List Node) → AreLabelled f p os xs → AreLabelled f p us ys → AreLabelled f p (os ++ us) (xs ++ ys)
joined f p [] us [] ys h g = g
joined f p (o ∷ os) us (x ∷ xs) ys h g = (h.0, joined f p os us xs ys h.1 g)
joined f p os us xs ys h g = grind arith

-- seen from the parent of child i
under : (f g : Labelling) (p : Place) (i : ℕ) → ((q : Place) → f (i ∷ q) ≡ g q) → (os : ActList) (xs : List Node) → AreLabelled g (child p i) os xs → AreLabelled f p os xs
under f g p i same [] [] h = tt
under f g p i same (o ∷ os) (x ∷ xs) h =
    ((i ∷ h.0.0, h.0.1 ∙ append_assoc p (i ∷ []) h.0.0, λ a is. same h.0.0 ∙ h.0.2 a is), under f g p i same os xs h.1)
under f g p i same os xs h = grind arith

-- a node that is no act
bare : (f : Labelling) (p : Place) (above : List Name) (t : Tree) → IsLabelled f p None (node p above t)
bare f p above t = ([], sym (append-nil p), λ a is. let bad : None ≡ Some a = is in absurd cc)

module _ (trees : Name → Place → Tree) (list : Name → ActList) (named : Name → Labelling)
    (labels : (name : Name) (p : Place) (above : List Name) → AreLabelled (named name) p (list name) (nodes p above (trees name p))) where
  mutual
    chart_labelled : (p : Place) (above : List Name) (d : Diagram) → AreLabelled (label_along named d) p (acts_along list d) (nodes p above (expanded trees p d))
    chart_labelled p above (label name) = labels name p above
    chart_labelled p above skip = (bare (label_along named skip) p above tree.skip, tt)
    chart_labelled p above (seq ds) = (
      bare (label_along named (seq ds)) p above (expanded trees p (seq ds)),
      each_labelled (label_along named (seq ds)) p above 0 ds (λ j q. ap (λ n. label_along_each named ds n q) (omega arith)),
    )
    chart_labelled p above (par ds) = (
      bare (label_along named (par ds)) p above (expanded trees p (par ds)),
      each_labelled (label_along named (par ds)) p above 0 ds (λ j q. ap (λ n. label_along_each named ds n q) (omega arith)),
    )
    chart_labelled p above (sel cs) = (
      bare (label_along named (sel cs)) p above (expanded trees p (sel cs)),
      cases_labelled (label_along named (sel cs)) p above 0 cs (λ j q. ap (λ n. label_along_cases named cs n q) (omega arith)),
    )
    chart_labelled p above (loop turns until d) = (
      bare (label_along named (loop turns until d)) p above (expanded trees p (loop turns until d)),
      under (label_along named (loop turns until d)) (label_along named d) p 0 (λ q. refl) (acts_along list d) (nodes (child p 0) above (expanded trees (child p 0) d)) (chart_labelled (child p 0) above d),
    )

    -- branches that are numbered from i
    each_labelled : (f : Labelling) (p : Place) (above : List Name) (i : ℕ) (ds : Diagrams) → ((j : ℕ) (q : Place) → f ((i + j) ∷ q) ≡ label_along_each named ds j q)
        → AreLabelled f p (acts_along_each list ds) (nodes_of_each p above i (expanded_each trees p i ds))
    each_labelled f p above i none same = tt
    each_labelled f p above i (more d ds) same =
        let here : i ≡ i + 0 = omega arith in
        let after : (j : ℕ) → i + 1 + j ≡ i + suc j = λ j. omega arith in
        joined f p (acts_along list d) (acts_along_each list ds) (nodes (child p i) above (expanded trees (child p i) d)) (nodes_of_each p above (i + 1) (expanded_each trees p (i + 1) ds))
        (under f (label_along named d) p i (λ q. ap (λ n. f (n ∷ q)) here ∙ same 0 q) (acts_along list d) (nodes (child p i) above (expanded trees (child p i) d)) (chart_labelled (child p i) above d))
        (each_labelled f p above (i + 1) ds (λ j q. ap (λ n. f (n ∷ q)) (after j) ∙ same (suc j) q))

    cases_labelled : (f : Labelling) (p : Place) (above : List Name) (i : ℕ) (cs : Cases) → ((j : ℕ) (q : Place) → f ((i + j) ∷ q) ≡ label_along_cases named cs j q)
        → AreLabelled f p (acts_along_cases list cs) (nodes_of_choices p above i (expanded_cases trees p i cs))
    cases_labelled f p above i (otherwise d) same =
        let here : i ≡ i + 0 = omega arith in
        under f (label_along named d) p i (λ q. ap (λ n. f (n ∷ q)) here ∙ same 0 q) (acts_along list d) (nodes (child p i) above (expanded trees (child p i) d)) (chart_labelled (child p i) above d)
    cases_labelled f p above i (when c d cs) same =
        let here : i ≡ i + 0 = omega arith in
        let after : (j : ℕ) → i + 1 + j ≡ i + suc j = λ j. omega arith in
        joined f p (acts_along list d) (acts_along_cases list cs) (nodes (child p i) above (expanded trees (child p i) d)) (nodes_of_choices p above (i + 1) (expanded_cases trees p (i + 1) cs))
        (under f (label_along named d) p i (λ q. ap (λ n. f (n ∷ q)) here ∙ same 0 q) (acts_along list d) (nodes (child p i) above (expanded trees (child p i) d)) (chart_labelled (child p i) above d))
        (cases_labelled f p above (i + 1) cs (λ j q. ap (λ n. f (n ∷ q)) (after j) ∙ same (suc j) q))

  -- the nodes below an act
  work_labelled : (f : Labelling) (unit name : Name) (p : Place) (above : List Name) (work : Work) → ((i : ℕ) (q : Place) → f (i ∷ q) ≡ label_below named work i q)
      → AreLabelled f p (acts_below list work) (nodes_within p above (task_of trees unit name p work))
  work_labelled f unit name p above (Follows c) same =
      under f (label_along named (diagram_of c)) p 0 (λ q. same 0 q) (acts_along list (diagram_of c)) (nodes (child p 0) above (expanded trees (child p 0) (diagram_of c))) (chart_labelled (child p 0) above (diagram_of c))
  work_labelled f unit name p above (Runs phase values reports) same = tt

-- the act that is found has the name
found_named : (name : Name) (table : List Act) (a : Act) → act_named table name ≡ Some a → a.name ≡ name
found_named name [] a is = let bad : None ≡ Some a = is in absurd cc
found_named name (b ∷ table) a is = go (same_name b.name name) refl (λ rest. found_named name table a rest)
  where
    go : (test : Bool) → same_name b.name name ≡ test → (act_named table name ≡ Some a → a.name ≡ name) → a.name ≡ name
    go true passes later =
        let found : act_named (b ∷ table) name ≡ Some b = rw passes refl in
        let e : Some b ≡ Some a = sym found ∙ is in
        let same : b ≡ a = cc in
        ap (λ (x : Act). x.name) (sym same) ∙ (bytes_decides b.name name).0 passes
    go false fails later =
        let after : act_named (b ∷ table) name ≡ act_named table name = rw fails refl in
        later (sym after ∙ is)

module _ (sites : Sites) where
  labels_labelled : (tables : List (List Act)) (unit name : Name) (p : Place) (above : List Name)
      → AreLabelled (label_named tables name) p (acts_named tables name) (nodes p above (named_tree_with sites tables unit name p))
  labels_labelled [] unit name p above = (bare (label_named [] name) p above tree.skip, tt)
  labels_labelled (table ∷ tables) unit name p above = go (act_named table name) refl (λ own n r more. labels_labelled tables own n r more)
    where
      go : (found : Option Act) → act_named table name ≡ found
          → ((own n : Name) (r : Place) (more : List Name) → AreLabelled (label_named tables n) r (acts_named tables n) (nodes r more (named_tree_with sites tables own n r)))
          → AreLabelled (label_named (table ∷ tables) name) p (elim found [ None ↦ None ∷ [] | Some a ↦ acts_from (acts_named tables) a ])
          (nodes p above (elim found [ None ↦ tree.skip | Some a ↦ act_tree_with sites (named_tree_with sites tables) unit a p ]))
      go None is below = (bare (label_named (table ∷ tables) name) p above tree.skip, tt)
      go (Some a) is below =
          let own = unit_below unit (unit_with sites.bound a.unit) in (
            ([], sym (append-nil p), λ b e. let both : Some a ≡ Some b = e in let same : a ≡ b = cc in ap Some (sym (found_named name table a is) ∙ ap (λ (x : Act). x.name) same)),
            work_labelled (named_tree_with sites tables own) (acts_named tables) (label_named tables) (below own) (label_named (table ∷ tables) name) own a.name p
                (above ++ resources_needed (needs_with sites a)) a.work
                (λ i q. ap (λ o. elim o [ None ↦ None | Some found ↦ label_below (label_named tables) found.work i q ]) is),
          )

module _ (bound : Binding) where
  labelled_at : (f : Labelling) (p : Place) (os : ActList) (xs : List Node) → AreLabelled f p os xs → (k : ℕ) (o : Option Act) (x : Node) → slice_get os k ≡ Some o → slice_get xs k ≡ Some x → IsLabelled f p o x
  labelled_at f p [] xs h k o x is at = let bad : None ≡ Some o = is in absurd cc
  labelled_at f p (u ∷ os) [] h k o x is at = absurd h
  labelled_at f p (u ∷ os) (y ∷ xs) h zero o x is at =
      let e : Some u ≡ Some o = is in
      let g : Some y ≡ Some x = at in
      let act : u ≡ o = cc in
      let node : y ≡ x = cc in
      subst (λ (z : Node). IsLabelled f p o z) node (subst (λ (v : Option Act). IsLabelled f p v y) act h.0)
  labelled_at f p (u ∷ os) (y ∷ xs) h (suc k) o x is at = labelled_at f p os xs h.1 k o x is at

  pub label_of_act : (acts : Acts) (k : ℕ) (x : Node) (a : Act) → slice_get (bound_nodes bound acts) k ≡ Some x → slice_get (procedure_acts acts) k ≡ Some (Some a) → label_at acts x.place ≡ Some a.name
  label_of_act acts k x a at is =
      let tables = tables_from acts (Some UnitProcedures) in
      let all_sites : Sites = sites bound acts in
      let own = unit_below [] (unit_with bound acts.procedure.unit) in
      let f : Labelling = λ q. label_at acts (0 ∷ q) in
      let all : AreLabelled f (0 ∷ []) (procedure_acts acts) (bound_nodes bound acts) = (
        ([], refl, λ b e. let both : Some acts.procedure ≡ Some b = e in let same : acts.procedure ≡ b = cc in ap (λ (y : Act). Some y.name) same),
        work_labelled (named_tree_with all_sites tables own) (acts_named tables) (label_named tables) (λ n r more. labels_labelled all_sites tables own n r more) f own acts.procedure.name (0 ∷ [])
            (resources_needed (needs_with all_sites acts.procedure)) acts.procedure.work (λ i q. refl),
      ) in
      let h = labelled_at f (0 ∷ []) (procedure_acts acts) (bound_nodes bound acts) all k (Some a) x is at in
      let same : 0 ∷ h.0 ≡ x.place = sym {b = 0 ∷ h.0} h.1 in
      subst (λ p. label_at acts p ≡ Some a.name) same (h.2 a refl)
