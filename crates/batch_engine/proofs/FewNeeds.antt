-- A batch needs few resources at once, and so do all batches.
use Rattle.std.proofs.Common.{◌≡◌, ◌<◌, ◌≤◌, ◌+◌, ◌*◌, ℕ, zero, suc, List, [], ◌∷◌, Bool, true, false, Option, Some, None, arith, length, map, refl}
use Rattle.std.{specs.Prelude.nat_le, specs.Prelude.nat_lt, specs.Prelude.◌||◌, specs.List.slice_index_or, proofs.lemmas.List.length-append, proofs.lemmas.List.length-map, proofs.lemmas.List.Sums.sum_by-cons, proofs.lemmas.Bool.Decides.nat_tests}
use Rattle.batch_recipe.specs.{Conditions.Name, Diagram.Diagram, Diagram.Diagrams, Diagram.Cases, Diagram.diagram_of, Expanding.Binding, Expanding.Sites, Expanding.act_named, Expanding.act_tree_with, Expanding.asked_in_order, Expanding.expanded, Expanding.expanded_cases, Expanding.expanded_each, Expanding.named_tree_with, Expanding.task_of, Expanding.unit_below, Expanding.unit_named, Expanding.unit_with, Nodes.child, Nodes.count_of_choices, Nodes.count_of_each, Nodes.count_within, Nodes.node_count, Needs.one_unit, Procedure.bound_tree, Procedure.sites, Procedure.tables_from, Tree.Place, Tree.Step, Tree.Task, Tree.runs, Tree.follows, Tree.Tree, Tree.act, Tree.skip, Tree.seq, Tree.par, Tree.sel, Tree.loop, Tree.Trees, Tree.no_trees, Tree.tree, Tree.Choices, Tree.otherwise, Tree.choice, declared.act.Act.Act, declared.act.Work.Work, declared.act.Work.TheVariants.Follows, declared.act.Work.TheVariants.Runs, declared.acts.LabelTable.TheVariants.UnitProcedures, declared.need.Need.Need}
use Rattle.batch_recipe.specs.Diagram as chart
use Rattle.batch_cell.specs.declared.cell.Cell.{Cell}
use Rattle.batch_recipe.specs.declared.recipe.Recipe as document
use Rattle.batch_model.specs.{Events.is_full, Plant.plain, Setups.master_of, declared.limits.TheConstants.LAST_NUMBER, declared.limits.TheConstants.MAX_LIVE_BATCHES}
use Rattle.batch_verify.specs.ClearedSet.{ClearedSet}
use Rattle.batch_chart.specs.NodesOf.{most_by, most_below, most_of_all, most_of_chosen, most_of_one, needs_in, own_needs, own_units}
use Rattle.batch_engine.{specs.declared.batch.Batch.Batch, specs.Kept.needs_of_all, proofs.NodesAcrossBindings.count-alike, specs.View.EngineView, specs.View.model_batch, specs.View.bound_to, specs.View.setup, specs.View.no_recipe, specs.View.plant_of, specs.View.tree_at, specs.View.tree_of}

-- an act needs at most 16 resources beside its unit and the four that it reserves, so the acts of a tree need at most 21 a node
abbrev pub HasFewNeeds : Tree → Type 0
HasFewNeeds t = most_by own_needs t ≤ 21 * node_count t

-- one branch has no more than all have
one-all : (own : Step → Task → ℕ) (ts : Trees) → most_of_one own ts ≤ most_of_all own ts
one-all own no_trees = omega arith
one-all own (tree c ts) = omega (arith, one-all own ts)

-- at most one unit a node is held in advance
mutual
  few-units : (t : Tree) → most_by own_units t ≤ node_count t
  few-units (act s (runs p)) = omega arith
  few-units (act s (follows name c)) = omega (arith, few-units c)
  few-units skip = omega arith
  few-units (seq ts) = omega (arith, one-all own_units ts, few-units_each ts)
  few-units (par ts) = omega (arith, few-units_each ts)
  few-units (sel ch) = omega (arith, few-units_choices ch)
  few-units (loop n c body) = omega (arith, few-units body)

  few-units_each : (ts : Trees) → most_of_all own_units ts ≤ count_of_each ts
  few-units_each no_trees = omega arith
  few-units_each (tree c ts) = omega (arith, few-units c, few-units_each ts)

  few-units_choices : (ch : Choices) → most_of_chosen own_units ch ≤ count_of_choices ch
  few-units_choices (otherwise c) = few-units c
  few-units_choices (choice p c ch) = omega (arith, few-units c, few-units_choices ch)

module _ (acts : Name → Place → Tree) (few : (name : Name) (p : Place) → HasFewNeeds (acts name p)) where
  mutual
    few-expanded : (p : Place) (d : Diagram) → HasFewNeeds (expanded acts p d)
    few-expanded p (chart.label name) = few name p
    few-expanded p chart.skip = omega arith
    few-expanded p (chart.seq ds) = omega (arith, one-all own_needs (expanded_each acts p 0 ds), few-each p 0 ds)
    few-expanded p (chart.par ds) = omega (arith, few-each p 0 ds)
    few-expanded p (chart.sel cs) = omega (arith, few-cases p 0 cs)
    few-expanded p (chart.loop turns until d) = omega (arith, few-expanded (child p 0) d)

    few-each : (p : Place) (i : ℕ) (ds : Diagrams) → most_of_all own_needs (expanded_each acts p i ds) ≤ 21 * count_of_each (expanded_each acts p i ds)
    few-each p i chart.none = omega arith
    few-each p i (chart.more d ds) = omega (arith, few-expanded (child p i) d, few-each p (i + 1) ds)

    few-cases : (p : Place) (i : ℕ) (cs : Cases) → most_of_chosen own_needs (expanded_cases acts p i cs) ≤ 21 * count_of_choices (expanded_cases acts p i cs)
    few-cases p i (chart.otherwise d) = few-expanded (child p i) d
    few-cases p i (chart.when c d cs) = omega (arith, few-expanded (child p i) d, few-cases p (i + 1) cs)

few-asked : (unit : Option Name) (reserved : List Name) (needs : List Need) → length reserved ≤ 4 → length needs ≤ 16 → length (asked_in_order unit reserved needs) ≤ 21
few-asked None reserved needs r h = omega (arith, r, h, length-append (map one_unit reserved) needs, length-map reserved one_unit)
few-asked (Some unit) reserved needs r h = omega (arith, r, h, length-append (map one_unit reserved) needs, length-map reserved one_unit)

few-below : (acts : Name → Place → Tree) → ((name : Name) (p : Place) → HasFewNeeds (acts name p)) → (unit name : Name) (p : Place) (work : Work)
    → most_below own_needs (task_of acts unit name p work) ≤ 21 * count_within (task_of acts unit name p work)
few-below acts few unit name p (Follows c) = few-expanded acts few (child p 0) (diagram_of c)
few-below acts few unit name p (Runs phase values reports) = omega arith

module _ (s : Sites) where
  few-act : (acts : Name → Name → Place → Tree) → ((unit name : Name) (p : Place) → HasFewNeeds (acts unit name p)) → (unit : Name) (a : Act) (p : Place)
      → HasFewNeeds (act_tree_with s acts unit a p)
  few-act acts few unit a p =
      omega (
        arith,
        few-asked (unit_with s.bound a.unit) (map (unit_named s) a.reserves.items) a.needs.items (omega (arith, a.few_reserves, length-map a.reserves.items (unit_named s))) a.few_needs,
        few-below (acts (unit_below unit (unit_with s.bound a.unit))) (few (unit_below unit (unit_with s.bound a.unit))) (unit_below unit (unit_with s.bound a.unit)) a.name p a.work,
      )

  few-named : (tables : List (List Act)) (unit name : Name) (p : Place) → HasFewNeeds (named_tree_with s tables unit name p)
  few-named [] unit name p = omega arith
  few-named (table ∷ tables) unit name p = go (few-named tables) (act_named table name)
    where
      go : ((unit name : Name) (p : Place) → HasFewNeeds (named_tree_with s tables unit name p)) → (found : Option Act)
          → HasFewNeeds (elim found [ None ↦ skip | Some a ↦ act_tree_with s (named_tree_with s tables) unit a p ])
      go few None = omega arith
      go few (Some a) = few-act (named_tree_with s tables) few unit a p

module _ (bound : Binding) where
  few-recipe : (r : document.Recipe) → needs_in (bound_tree bound r.acts) ≤ 90112
  few-recipe r =
      let tables : List (List Act) = tables_from r.acts (Some UnitProcedures) in
      omega (
        arith,
        few-act (sites bound r.acts) (named_tree_with (sites bound r.acts) tables) (few-named (sites bound r.acts) tables) [] r.acts.procedure (0 ∷ []),
        few-units (bound_tree bound r.acts),
        count-alike bound r.acts,
        r.small,
      )

  few-among : (cell : Cell) (rs : List document.Recipe) (k : ℕ) → needs_in ((slice_index_or (map (master_of cell) rs) k (plain no_recipe)).control bound).procedure ≤ 90112
  few-among cell [] k = omega arith
  few-among cell (r ∷ rs) zero = few-recipe r
  few-among cell (r ∷ rs) (suc k) = few-among cell rs k

-- 21 needs, and one unit in advance, at each of 4,096 nodes
pub few-needs : (c : ClearedSet) (recipe : ℕ) (units : List ℕ) → needs_in (tree_at c recipe units) ≤ 90112
few-needs c recipe units = few-among (bound_to c recipe units) c.cell c.recipes recipe

pub few-of_all : (c : ClearedSet) (bs : List Batch) → needs_of_all c bs ≤ 90112 * length bs
few-of_all c [] = omega arith
few-of_all c (b ∷ bs) = omega (arith, sum_by-cons (λ (z : Batch). needs_in (tree_of c z)) b bs, few-needs c b.recipe b.units, few-of_all c bs)

or-first : (a b : Bool) → (a || b) ≡ false → a ≡ false
or-first true b h = absurd cc
or-first false b h = refl

not-within : (m n : ℕ) → nat_le m n ≡ false → n < m
not-within m n h = grind (arith, nat_tests)

-- if the plant isn't full there are fewer batches than may exist
pub few-batches : (v : EngineView) → is_full (setup v.cleared) (plant_of v) ≡ false → length v.batches < MAX_LIVE_BATCHES
few-batches v h =
    let count = length (map (model_batch v.cleared) v.batches) in
    let within = or-first (nat_le MAX_LIVE_BATCHES count) (nat_lt LAST_NUMBER v.next_number) h in
    omega (arith, not-within MAX_LIVE_BATCHES count within, length-map v.batches (model_batch v.cleared))
