use Rattle.std.proofs.Common.{◌≡◌, ◌⊎◌, ℕ, ◌+◌, Bool, get_or, slice_get, Some, false, eqb, eq-eqb, ap, refl, inl, inr, arith}
use Rattle.batch_recipe.{specs.Nodes.Node, specs.Outlines.Form, specs.Outlines.an_act, specs.Outlines.a_skip, specs.Outlines.a_seq, specs.Outlines.a_par, specs.Outlines.a_sel, specs.Outlines.a_loop, specs.Outlines.form_of, specs.declared.acts.LabelTable.LabelTable, specs.declared.entry.Kind.Kind, proofs.NodesAbove.ns, proofs.NodesAbove.as_many, proofs.NodesBelow.read_at}
use Rattle.batch_recipe.specs.declared.entry.Kind.TheVariants as kind
use Rattle.batch_model.specs.Cleared.{surely_runs}
use Rattle.batch_verify.proofs.{RunningTrees.bool_at, RunningKinds.Says, RunningKinds.end_within, RunningKinds.chart_within, RunningKinds.body_within, RunningKinds.told}
use Rattle.batch_verify.proofs.running_nodes.node_runs.Goals as goal
use Rattle.batch_verify.proofs.running_nodes.node_runs.Goals.{After-index-entry}

was_read : (c : After-index-entry) → slice_get c.args.recipe.now.outline.entries.items c.args.node ≡ Some c.index-entry.result.now
was_read c = read_at c.args.recipe.now c.args.node c.from.result c.index-entry.result.now c.requires.within c.from.ensures c.index-entry.ensures

told_here : (c : After-index-entry) (f : Form) → form_of c.index-entry.result.now.kind ≡ f → (b : Bool)
    → Says c.args.recipe.now c.args.runs.now c.args.node c.index-entry.result.now.end b f
    → (x : Node) → slice_get (ns c.args.recipe.now) c.args.node ≡ Some x → b ≡ surely_runs x.here
told_here c = told c.args.recipe.now c.args.node c.index-entry.result.now (was_read c) c.args.runs.now c.requires.known

-- a node of either of these kinds is an act
act_form : (k : Kind) → (k ≡ kind.Procedure) ⊎ ((level : LabelTable) × (number : ℕ) × (k ≡ kind.Act level number)) → form_of k ≡ an_act
act_form k h = grind arith

pub index-entry-requires : goal.index-entry-requires
index-entry-requires c = omega (arith, c.from.ensures, as_many c.args.recipe.now, c.requires.within)

pub bounds-runs-from : goal.bounds-runs-from
bounds-runs-from c =
    let long = chart_within c.args.recipe.now c.args.node c.index-entry.result.now (was_read (goal.at.bounds-runs-from c).After-index-entry) c.if-entry-below.false in
    omega (arith, c.from-else-entry-below.ensures, c.requires.known.0, long)

pub some_runs-requires-clause-within : goal.some_runs-requires-clause-within
some_runs-requires-clause-within c = end_within c.args.recipe.now c.args.node c.index-entry.result.now (was_read (goal.at.some_runs-requires-clause-within c).After-index-entry)

pub all_run-requires-clause-within : goal.all_run-requires-clause-within
all_run-requires-clause-within c = end_within c.args.recipe.now c.args.node c.index-entry.result.now (was_read (goal.at.all_run-requires-clause-within c).After-index-entry)

pub bounds-runs-from-in-Loop : goal.bounds-runs-from-in-Loop
bounds-runs-from-in-Loop c =
    let long = body_within c.args.recipe.now c.args.node c.index-entry.result.now (was_read (goal.at.bounds-runs-from-in-Loop c).After-index-entry) (ap form_of c.in-Loop.is) in
    omega (arith, c.from-in-Loop.ensures, c.requires.known.0, long)

pub returns-in-Skip : goal.returns-in-Skip
returns-in-Skip c = told_here (goal.at.returns-in-Skip c).After-index-entry a_skip (ap form_of c.in-Skip.is) false refl

pub returns-then-entry-below : goal.returns-then-entry-below
returns-then-entry-below c =
    told_here (goal.at.returns-then-entry-below c).After-index-entry an_act (act_form c.index-entry.result.now.kind c.in-Procedure.is) (eqb c.index-entry.result.now.end (c.args.node + 1))
    (inl (c.if-entry-below.true, eq-eqb c.index-entry.result.now.end (c.args.node + 1) c.if-entry-below.true))

pub returns-else-entry-below : goal.returns-else-entry-below
returns-else-entry-below c =
    let runs = c.args.runs.now in
    let from = c.from-else-entry-below.result in
    let here = (goal.at.returns-else-entry-below c).After-index-entry in
    let within = chart_within c.args.recipe.now c.args.node c.index-entry.result.now (was_read here) c.if-entry-below.false in
    told_here here an_act (act_form c.index-entry.result.now.kind c.in-Procedure.is) (get_or runs from false)
    (inr (c.if-entry-below.false, bool_at runs (c.args.node + 1) from (get_or runs from false) (omega (arith, c.requires.known.0, within)) c.from-else-entry-below.ensures refl))

pub returns-in-Seq : goal.returns-in-Seq
returns-in-Seq c =
    let here = (goal.at.returns-in-Seq c).After-index-entry in
    elim c.in-Seq.is [
      | inl is ↦ told_here here a_seq (ap form_of is) c.some_runs.result c.some_runs.ensures
      | inr is ↦ told_here here a_par (ap form_of is) c.some_runs.result c.some_runs.ensures
    ]

pub returns-in-Sel : goal.returns-in-Sel
returns-in-Sel c = told_here (goal.at.returns-in-Sel c).After-index-entry a_sel (ap form_of c.in-Sel.is) c.all_run.result c.all_run.ensures

pub returns-in-Loop : goal.returns-in-Loop
returns-in-Loop c =
    let runs = c.args.runs.now in
    let from = c.from-in-Loop.result in
    let here = (goal.at.returns-in-Loop c).After-index-entry in
    let within = body_within c.args.recipe.now c.args.node c.index-entry.result.now (was_read here) (ap form_of c.in-Loop.is) in
    told_here here a_loop (ap form_of c.in-Loop.is) (get_or runs from false)
    (bool_at runs (c.args.node + 1) from (get_or runs from false) (omega (arith, c.requires.known.0, within)) c.from-in-Loop.ensures refl)
