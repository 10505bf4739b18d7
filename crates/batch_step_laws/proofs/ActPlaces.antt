-- Each act of an expanded recipe carries the place at which it stands.
use Rattle.std.proofs.Common.{refl, sym, ap, ◌∙◌, subst, ℕ, ◌+◌, List, [], ◌∷◌, Some, None}
use Rattle.std.specs.Prelude.{Option}
use Rattle.batch_recipe.specs.{Conditions.Name, Diagram.Diagram, Diagram.Diagrams, Diagram.Cases, Diagram.diagram_of, Tree.Place, Tree.Tree, Tree.skip, Nodes.child, Expanding.expanded, Expanding.expanded_each, Expanding.expanded_cases, Expanding.unit_below, Expanding.task_of, Expanding.act_named, Expanding.Binding, Expanding.Sites, Expanding.unit_with, Expanding.act_tree_with, Expanding.named_tree_with, Procedure.sites, Procedure.tables_from, Procedure.bound_tree, declared.act.Act.Act, declared.act.Work.Work, declared.act.Work.TheVariants.Follows, declared.act.Work.TheVariants.Runs, declared.acts.Acts.Acts, declared.acts.LabelTable.TheVariants.UnitProcedures}
use Rattle.batch_recipe.specs.Diagram as chart
use Rattle.batch_model.{specs.Lists.Each, specs.Plant.Setup, specs.Standing.HasPlacedTrees, specs.Events.bound_by, proofs.Members.Each-Has, specs.Placed.IsPlaced, specs.Placed.IsPlacedBelow, specs.Placed.ArePlaced, specs.Placed.IsChoicePlaced}
use Rattle.batch_step_laws.specs.Laws.{IsExpanded}

-- whatever the label names is placed
abbrev ArePlacedActs : (Name → Place → Tree) → Type 0
ArePlacedActs acts = (name : Name) (p : Place) → IsPlaced p (acts name p)

module _ (acts : Name → Place → Tree) (placed : ArePlacedActs acts) where
  mutual
    pub expanded-IsPlaced : (p : Place) (d : Diagram) → IsPlaced p (expanded acts p d)
    expanded-IsPlaced p (chart.label name) = placed name p
    expanded-IsPlaced p chart.skip = tt
    expanded-IsPlaced p (chart.seq ds) = expanded_each-ArePlaced p 0 ds
    expanded-IsPlaced p (chart.par ds) = expanded_each-ArePlaced p 0 ds
    expanded-IsPlaced p (chart.sel cs) = expanded_cases-IsChoicePlaced p 0 cs
    expanded-IsPlaced p (chart.loop turns until d) = expanded-IsPlaced (child p 0) d

    pub expanded_each-ArePlaced : (p : Place) (i : ℕ) (ds : Diagrams) → ArePlaced p i (expanded_each acts p i ds)
    expanded_each-ArePlaced p i chart.none = tt
    expanded_each-ArePlaced p i (chart.more d ds) = (expanded-IsPlaced (child p i) d, expanded_each-ArePlaced p (i + 1) ds)

    pub expanded_cases-IsChoicePlaced : (p : Place) (i : ℕ) (cs : Cases) → IsChoicePlaced p i (expanded_cases acts p i cs)
    expanded_cases-IsChoicePlaced p i (chart.otherwise d) = expanded-IsPlaced (child p i) d
    expanded_cases-IsChoicePlaced p i (chart.when c d cs) = (expanded-IsPlaced (child p i) d, expanded_cases-IsChoicePlaced p (i + 1) cs)

  task_of-IsPlacedBelow : (unit name : Name) (p : Place) (w : Work) → IsPlacedBelow p (task_of acts unit name p w)
  task_of-IsPlacedBelow unit name p (Follows c) = expanded-IsPlaced (child p 0) (diagram_of c)
  task_of-IsPlacedBelow unit name p (Runs phase values reports) = tt

module _ (sites : Sites) where
  pub act_tree-IsPlaced : (acts : Name → Name → Place → Tree) → ((unit : Name) → ArePlacedActs (acts unit)) → (unit : Name) (a : Act) (p : Place)
      → IsPlaced p (act_tree_with sites acts unit a p)
  act_tree-IsPlaced acts placed unit a p =
      let own : Name = unit_below unit (unit_with sites.bound a.unit) in
      (refl, task_of-IsPlacedBelow (acts own) (placed own) own a.name p a.work)

  pub named_tree-IsPlaced : (tables : List (List Act)) (unit : Name) → ArePlacedActs (named_tree_with sites tables unit)
  named_tree-IsPlaced [] unit name p = tt
  named_tree-IsPlaced (table ∷ tables) unit name p = go (act_named table name) (named_tree-IsPlaced tables)
    where
      go : (o : Option Act) → ((own : Name) → ArePlacedActs (named_tree_with sites tables own))
          → IsPlaced p (elim o [ None ↦ skip | Some a ↦ act_tree_with sites (named_tree_with sites tables) unit a p ])
      go None placed = tt
      go (Some a) placed = act_tree-IsPlaced (named_tree_with sites tables) placed unit a p

-- each act of a recipe's expanded tree carries its place
pub bound_tree-IsPlaced : (acts : Acts) (bound : Binding) → IsPlaced (0 ∷ []) (bound_tree bound acts)
bound_tree-IsPlaced acts bound =
    let tables = tables_from acts (Some UnitProcedures) in
    let own : Sites = sites bound acts in
    act_tree-IsPlaced own (named_tree_with own tables) (named_tree-IsPlaced own tables) [] acts.procedure (0 ∷ [])

-- setups whose recipes have the expanded trees of acts have placed trees
pub expanded-HasPlacedTrees : (c : Setup) → Each IsExpanded c.recipes → HasPlacedTrees c
expanded-HasPlacedTrees c h r (m, known, (pairs, is, made)) =
    let acts : IsExpanded m = Each-Has IsExpanded c.recipes m h known in
    subst (IsPlaced (0 ∷ [])) (sym (ap (λ z. z.procedure) made ∙ acts.1 (bound_by pairs))) (bound_tree-IsPlaced acts.0 (bound_by pairs))
