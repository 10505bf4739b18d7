use Rattle.std.proofs.Common.{◌≡◌, ◌∙◌, ap, sym, arith, List, ℕ, Option, Some, None}
use Rattle.std.specs.Prelude.{slice_get, unwrap_or}
use Rattle.batch_set.specs.{Looked.needs_by, Looked.number_for, declared.linked.LinkedNeed.LinkedNeed}
use Rattle.batch_engine.{specs.Steps.IsNeedAt, specs.Steps.IsNumberAt, specs.View.EngineView, proofs.LinkedActs.need-here, proofs.BatchAtIndex.IsRead, proofs.BatchAtIndex.entry-read, proofs.BatchAtIndex.entry-within, proofs.BatchAtIndex.linked-read, proofs.BatchAtIndex.linked-within}
use Rattle.batch_engine.proofs.pending.resource_at.Goals as goal
use Rattle.batch_engine.proofs.pending.resource_at.Goals.{After-index-own}

-- the need, as it is read
need : (c : After-index-own) (v : EngineView) → IsNeedAt v c.args.set.now c.args.recipe.now c.args.batch.now c.args.node c.args.need
    → (linked : LinkedNeed) × (slice_get (needs_by c.index-own.result.now c.index-entry.result.now.kind) c.args.need ≡ Some linked)
    × IsNumberAt v.cleared c.args.batch.now c.args.node c.args.need (unwrap_or (number_for c.args.batch.now.units linked.source) 0) linked.units
need c v h =
    let r : IsRead v h.index c.args.batch.now = record { kept = h.kept; at = h.at } in
    need-here v h.kept h.index c.args.batch.now h.at c.args.recipe.now h.listed c.args.set.now h.linked c.index-own.result.now (linked-read h.linked r c.from-2.ensures c.index-own.ensures)
    c.args.node h.few c.index-entry.result.now (entry-read r h.listed h.few c.from.ensures c.index-entry.ensures) c.args.need h.less

pub index-entry-requires : goal.index-entry-requires
index-entry-requires c =
    let h = c.requires.1 in
    let r : IsRead c.requires.0 h.index c.args.batch.now = record { kept = h.kept; at = h.at } in
    omega (arith, c.from.ensures, entry-within r h.listed h.few)

pub index-own-requires : goal.index-own-requires
index-own-requires c =
    let h = c.requires.1 in
    let r : IsRead c.requires.0 h.index c.args.batch.now = record { kept = h.kept; at = h.at } in
    omega (arith, c.from-2.ensures, linked-within h.linked r)

pub returns-in-Some : goal.returns-in-Some
returns-in-Some c =
    let w = goal.at.returns-in-Some c in λ v h.
    (let n = need w.After-index-own v h in
    let wanted : LinkedNeed = c.in-Some.wanted in
    let same : ◌≡◌ {A = Option LinkedNeed} (Some wanted) (Some n.0) = sym c.in-Some.is ∙ (c.need_in.ensures ∙ (ap (λ (xs : List LinkedNeed). slice_get xs c.args.need) c.needs-needs.ensures ∙ n.1)) in
    let got : wanted ≡ n.0 = cc in (
      n.2.0
          ∙ ap (λ q. let o : Option ℕ = Some q in o)
          (sym (c.unwrap_or.ensures ∙ ap (λ (o : Option ℕ). unwrap_or o 0) (c.for_units-resource.ensures ∙ ap (λ (l : LinkedNeed). number_for c.args.batch.now.units l.source) got))),
      n.2.1 ∙ sym (ap (λ (l : LinkedNeed). l.units) got),
    ))

pub returns-in-None : goal.returns-in-None
returns-in-None c =
    let w = goal.at.returns-in-None c in λ v h.
    (let n = need w.After-index-own v h in
    absurd (let bad : ◌≡◌ {A = Option LinkedNeed} None (Some n.0) = sym c.in-None.is ∙ (c.need_in.ensures ∙ (ap (λ (xs : List LinkedNeed). slice_get xs c.args.need) c.needs-needs.ensures ∙ n.1)) in cc))
