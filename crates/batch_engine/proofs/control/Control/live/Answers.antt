use Rattle.std.proofs.Common.{◌≡◌, sym, ◌∙◌, ap, subst, ℕ, List, Option, Some, None, inl, inr, arith, get_or}
use Rattle.std.{specs.Prelude.slice_get, specs.Prelude.position, proofs.lemmas.Bool.cases_eq, proofs.lemmas.Option.slice_get-get_or}
use Rattle.batch_cell.specs.{LookUps.resources_of, declared.cell.Cell.Cell}
use Rattle.batch_recipe.specs.Conditions.{Name, same_name}
use Rattle.batch_model.specs.{Events.live_in, Rest.acts}
use Rattle.batch_engine.{specs.declared.batch.Batch.Batch, specs.Kept.IsKept, specs.Marked.AreHoldingsNoted, specs.Reports.IsLiveIn, specs.Reports.IsLivePhase, specs.Reports.told_of, specs.declared.live_phase.LivePhase.LivePhase, specs.View.EngineView, specs.View.model_batch, specs.View.resource_number, proofs.BatchLookups.known-resource, proofs.HeldUnits.live-elsewhere, proofs.HeldUnits.live-no_batch, proofs.HeldUnits.live-no_unit, proofs.ReportAnswers.live-here, proofs.ReportAnswers.live-nowhere}
use Rattle.batch_engine.proofs.control.Control.live.Goals as goal
use Rattle.batch_engine.proofs.control.Control.live.Goals.{After-resource_of}

-- the number of the unit, as the plant has it
searched : (c : After-resource_of) → resource_number c.args.self.now.cleared c.args.unit.now ≡ c.resource_of.result
searched c = sym (c.resource_of.ensures ∙ ap (λ (z : Cell). position (same_name c.args.unit.now) (resources_of z)) (c.cell.ensures.value ∙ ap (λ (z : EngineView). z.cleared.cell) c.self.view_is))

-- the batch that is noted for it
noted-is : (v : EngineView) (hs : List ℕ) → IsKept v → AreHoldingsNoted v hs → (unit : Name) (q i : ℕ) → resource_number v.cleared unit ≡ Some q → i ≡ q → slice_get hs q ≡ Some (get_or hs i 0)
noted-is v hs k are unit q i e f =
    slice_get-get_or hs q 0 (omega (arith, are.count, known-resource v k unit q e)) ∙ ap (λ j. Some (get_or hs j 0)) (sym f)

pub returns-in_err-resource : goal.returns-in_err-resource
returns-in_err-resource c =
    let v : EngineView = c.args.self.now in
    let none : resource_number v.cleared c.args.unit.now ≡ None = searched (goal.at.returns-in_err-resource c).After-resource_of ∙ c.in_err-resource.was in
    subst (IsLivePhase v c.args.unit.now c.args.phase.now) (sym c.from_residual.ensures)
    (live-nowhere v c.args.unit.now c.args.phase.now v.batches (live-no_unit v c.recall_invariant.ensures c.args.holders.now c.requires c.args.unit.now c.args.phase.now none))

pub returns-in_err-index : goal.returns-in_err-index
returns-in_err-index c =
    let v : EngineView = c.args.self.now in
    let hs : List ℕ = c.args.holders.now in
    let unit : resource_number v.cleared c.args.unit.now ≡ Some c.in_ok-resource.resource = searched (goal.at.returns-in_err-index c).After-resource_of ∙ c.in_ok-resource.was in
    subst (IsLivePhase v c.args.unit.now c.args.phase.now) (sym c.from_residual-in_err-index.ensures)
    (live-nowhere v c.args.unit.now c.args.phase.now v.batches
    (live-no_batch v c.recall_invariant.ensures hs c.requires c.args.unit.now c.args.phase.now c.in_ok-resource.resource (get_or hs c.from.result 0) unit
    (noted-is v hs c.recall_invariant.ensures c.requires c.args.unit.now c.in_ok-resource.resource c.from.result unit c.from.ensures) (sym c.index_of.ensures ∙ c.in_err-index.was)))

-- the live phase of the batch that is noted is the unit's, if there is one
found-in : (v : EngineView) (unit name : Name) (i : ℕ) → ((j : ℕ) (d : Batch) → slice_get v.batches j ≡ Some d → (j ≡ i → ⊥) → live_in (model_batch v.cleared d) unit name (acts (model_batch v.cleared d).rest) ≡ None)
    → (o : Option LivePhase) → IsLiveIn v i unit name o → IsLivePhase v unit name o
found-in v unit name i elsewhere None h =
    live-nowhere v unit name v.batches
    (λ j d e. elim (cases_eq j i) [
      | inl same ↦ h d (subst (λ m. slice_get v.batches m ≡ Some d) same e)
      | inr other ↦ elsewhere j d e other
    ])
found-in v unit name i elsewhere (Some l) h =
    (h.1, h.2, live-here v unit name l.index h.1 v.batches (told_of v l h.1) h.2.at (λ j d less e. elsewhere j d e (λ same. absurd (omega (arith, less, same, h.0)))) h.3)

pub returns : goal.returns
returns c =
    let v : EngineView = c.args.self.now in
    let hs : List ℕ = c.args.holders.now in
    let unit : resource_number v.cleared c.args.unit.now ≡ Some c.in_ok-resource.resource = searched (goal.at.returns c).After-resource_of ∙ c.in_ok-resource.was in
    found-in v c.args.unit.now c.args.phase.now c.in_ok-index.index
    (live-elsewhere v c.recall_invariant.ensures hs c.requires c.args.unit.now c.args.phase.now c.in_ok-resource.resource (get_or hs c.from.result 0) unit
    (noted-is v hs c.recall_invariant.ensures c.requires c.args.unit.now c.in_ok-resource.resource c.from.result unit c.from.ensures) c.in_ok-index.index (sym c.index_of.ensures ∙ c.in_ok-index.was))
    c.live_in.result (c.live_in.ensures c.args.unit.now unit)
