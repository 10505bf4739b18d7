-- Nodes stand at the same places whatever units take the roles.
use Rattle.std.proofs.Common.{arith, ◌≡◌, refl, sym, ◌∙◌, ap, ap₂, ℕ, ◌+◌, List, [], ◌∷◌, ◌++◌, map, Option, Some, None}
use Rattle.std.proofs.lemmas.List.{map-append}
use Rattle.batch_recipe.specs.{Conditions.Name, Diagram.Diagram, Diagram.Diagrams, Diagram.Cases, Diagram.diagram_of, Expanding.Binding, Expanding.unbound, Expanding.Sites, Expanding.expanded, Expanding.expanded_each, Expanding.expanded_cases, Expanding.task_of, Expanding.act_named, Expanding.act_tree_with, Expanding.named_tree_with, Nodes.Node, Nodes.child, Nodes.nodes, Nodes.nodes_within, Nodes.nodes_of_each, Nodes.nodes_of_choices, Procedure.sites, Procedure.bound_tree, Procedure.procedure_nodes, Procedure.tables_from, Tree.Place, Tree.Tree, Tree.skip, declared.act.Act.Act, declared.acts.Acts.Acts, declared.acts.LabelTable.TheVariants.UnitProcedures, declared.act.Work.Work, declared.act.Work.TheVariants.Follows, declared.act.Work.TheVariants.Runs}
use Rattle.batch_recipe.specs.Diagram as chart

abbrev places : List Node → List Place
places ns = map (λ n. n.place) ns

abbrev Labels : Type 0
Labels = Name → Place → Tree

-- the labels stand for trees with the same places
abbrev AreAlike : Labels → Labels → Type 0
AreAlike f g = (name : Name) (p : Place) (above other : List Name) → places (nodes p above (f name p)) ≡ places (nodes p other (g name p))

joined : (ws xs ys zs : List Node) → places ws ≡ places ys → places xs ≡ places zs → places (ws ++ xs) ≡ places (ys ++ zs)
joined ws xs ys zs e f = map-append (λ n. n.place) ws xs ∙ ap₂ (λ us vs. us ++ vs) e f ∙ sym (map-append (λ n. n.place) ys zs)

module _ (f g : Labels) (alike : AreAlike f g) where
  mutual
    chart-places : (p : Place) (d : Diagram) (above other : List Name) → places (nodes p above (expanded f p d)) ≡ places (nodes p other (expanded g p d))
    chart-places p (chart.label name) above other = alike name p above other
    chart-places p chart.skip above other = refl
    chart-places p (chart.seq ds) above other = ap (λ ps. p ∷ ps) (branch-places p 0 ds above other)
    chart-places p (chart.par ds) above other = ap (λ ps. p ∷ ps) (branch-places p 0 ds above other)
    chart-places p (chart.sel cs) above other = ap (λ ps. p ∷ ps) (case-places p 0 cs above other)
    chart-places p (chart.loop n c d) above other = ap (λ ps. p ∷ ps) (chart-places (child p 0) d above other)

    branch-places : (p : Place) (i : ℕ) (ds : Diagrams) (above other : List Name) → places (nodes_of_each p above i (expanded_each f p i ds)) ≡ places (nodes_of_each p other i (expanded_each g p i ds))
    branch-places p i chart.none above other = refl
    branch-places p i (chart.more d ds) above other =
        joined (nodes (child p i) above (expanded f (child p i) d)) (nodes_of_each p above (i + 1) (expanded_each f p (i + 1) ds))
        (nodes (child p i) other (expanded g (child p i) d)) (nodes_of_each p other (i + 1) (expanded_each g p (i + 1) ds))
        (chart-places (child p i) d above other) (branch-places p (i + 1) ds above other)

    case-places : (p : Place) (i : ℕ) (cs : Cases) (above other : List Name) → places (nodes_of_choices p above i (expanded_cases f p i cs)) ≡ places (nodes_of_choices p other i (expanded_cases g p i cs))
    case-places p i (chart.otherwise d) above other = chart-places (child p i) d above other
    case-places p i (chart.when c d cs) above other =
        joined (nodes (child p i) above (expanded f (child p i) d)) (nodes_of_choices p above (i + 1) (expanded_cases f p (i + 1) cs))
        (nodes (child p i) other (expanded g (child p i) d)) (nodes_of_choices p other (i + 1) (expanded_cases g p (i + 1) cs))
        (chart-places (child p i) d above other) (case-places p (i + 1) cs above other)

  task-places : (unit unit' name : Name) (p : Place) (w : Work) (above other : List Name)
      → places (nodes_within p above (task_of f unit name p w)) ≡ places (nodes_within p other (task_of g unit' name p w))
  task-places unit unit' name p (Follows c) above other = chart-places (child p 0) (diagram_of c) above other
  task-places unit unit' name p (Runs phase values reports) above other = refl

module _ (sites other_sites : Sites) where
  act-places : (f g : Name → Labels) → ((unit unit' : Name) → AreAlike (f unit) (g unit')) → (unit unit' : Name) (a : Act) (p : Place) (above other : List Name)
      → places (nodes p above (act_tree_with sites f unit a p)) ≡ places (nodes p other (act_tree_with other_sites g unit' a p))
  act-places f g alike unit unit' a p above other = grind (arith, task-places)

  label-places : (tables : List (List Act)) (unit unit' : Name) → AreAlike (named_tree_with sites tables unit) (named_tree_with other_sites tables unit')
  label-places [] unit unit' name p above other = refl
  label-places (table ∷ tables) unit unit' name p above other = go (act_named table name) (label-places tables)
    where
      go : (o : Option Act) → ((u u' : Name) → AreAlike (named_tree_with sites tables u) (named_tree_with other_sites tables u'))
          → places (nodes p above (elim o [ None ↦ skip | Some a ↦ act_tree_with sites (named_tree_with sites tables) unit a p ]))
          ≡ places (nodes p other (elim o [ None ↦ skip | Some a ↦ act_tree_with other_sites (named_tree_with other_sites tables) unit' a p ]))
      go None alike = refl
      go (Some a) alike = act-places (named_tree_with sites tables) (named_tree_with other_sites tables) alike unit unit' a p above other

pub places_stay : (bound : Binding) (acts : Acts) → map (λ n. n.place) (nodes (0 ∷ []) [] (bound_tree bound acts)) ≡ map (λ n. n.place) (procedure_nodes acts)
places_stay bound acts =
    let tables : List (List Act) = tables_from acts (Some UnitProcedures) in
    let own : Sites = sites bound acts in
    let other : Sites = sites unbound acts in
    act-places own other (named_tree_with own tables) (named_tree_with other tables) (label-places own other tables) [] [] acts.procedure (0 ∷ []) [] []
