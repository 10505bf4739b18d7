-- There is space for one need more that is held in advance.
use Rattle.std.proofs.Common.{◌≡◌, ◌≤◌, ℕ, Some, arith, length}
use Rattle.std.{specs.Prelude.slice_get, proofs.lemmas.List.length-map}
use Rattle.batch_recipe.specs.Tree.{Tree}
use Rattle.batch_model.{specs.Lists.Has, specs.Standing.IsAwaited, specs.Standing.IsStandingBatch, proofs.Members.Each-Has}
use Rattle.batch_model.specs.Plant as Model
use Rattle.batch_record_laws.proofs.Invariant as Safety
use Rattle.batch_record_laws.proofs.Invariant.{standing-of}
use Rattle.batch_chart.specs.{Charts.HasSpace, Charts.IsRunningOf, NodesOf.most_by, NodesOf.need_at, NodesOf.own_units, NodesOf.place_at, declared.passed.Passed.Passed}
use Rattle.batch_engine.{specs.declared.batch.Batch.Batch, specs.Kept.IsKept, specs.View.EngineView, specs.View.plant_of, specs.View.setup, specs.View.tree_of, proofs.BatchPlaces.Has-batch_of, proofs.EarlyNeeds.early-bounded, proofs.BatchLookups.has, proofs.RecordOfPlant.safe, proofs.RecordOfPlant.standing}
use Rattle.batch_engine.specs.View as View

pub space-in-advance : (v : EngineView) (k : IsKept v) (i : ℕ) (b : Batch) → slice_get v.batches i ≡ Some b → IsRunningOf (tree_of v.cleared b) b.running → HasSpace b.running
space-in-advance v k i b at runs =
    let c : Tree = tree_of v.cleared b in
    let d : Model.Batch = View.model_batch v.cleared b in
    let here : Has (plant_of v).batches d = Has-batch_of v.cleared v.batches b (has v k i b at) in
    let sound : Safety.IsSound (setup v.cleared) k.cleared.0 d = (safe v k).sound d here in
    let stands : IsStandingBatch (setup v.cleared) d = standing-of (setup v.cleared) (plant_of v) (standing v k) d here in
    let few : length d.in_advance ≤ most_by own_units c =
    early-bounded c d.rest d.in_advance stands.stands sound.apart (λ x h. Each-Has (λ held. IsAwaited d.rest held.place) d.in_advance x stands.awaited h) in
    let as_many : length d.in_advance ≡ length b.running.held.items = length-map b.running.held.items (λ (p : Passed). record { place = place_at c p.to; unit = need_at c p.node p.need }) in
    omega (arith, few, as_many, runs.held.enough)
