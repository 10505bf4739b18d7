use Rattle.std.proofs.Common.{◌≡◌, ◌-◌, ◌+◌, refl, sym, ◌∙◌, ap, subst, ℕ, arith}
use Rattle.std.specs.List.{remove}
use Rattle.batch_model.specs.Events as Events
use Rattle.batch_model.specs.Runs.{Reacts}
use Rattle.batch_engine.{specs.Batches.BatchList, specs.Batches.HaveOwnNumbers, specs.Kept.IsKept, specs.Kept.needs_of_all, specs.View.EngineView, specs.View.model_batch, specs.View.plant_of, specs.View.seen, specs.View.setup, specs.View.tree_of, proofs.SlabChanges.own-numbers-remove, proofs.InvariantAfterEvent.with, proofs.BatchRemoval.remove-busy, proofs.BatchRemoval.remove-kept, proofs.BatchRemoval.remove-reacts, proofs.BatchRemoval.remove-unknown, proofs.Room.needs-removed, proofs.BatchLookups.batch-runs, proofs.BatchAtIndex.IsFound, proofs.BatchAtIndex.IsRead, proofs.BatchAtIndex.found-here, proofs.BatchAtIndex.read-there, proofs.BatchByNumber.none-found}
use Rattle.batch_engine.proofs.control.Control.remove.Goals as goal
use Rattle.batch_engine.proofs.control.Control.remove.Goals.{After-index, After-needs}

found : (c : After-index) → IsFound c.args.self.now c.args.number c.in-Some.index c.index.result.now
found c = found-here c.self.view_is c.self.invariant.kept (sym c.index_of.ensures ∙ c.in-Some.is) c.index.ensures

-- the needs of the batch that is removed were counted
counted : (c : After-needs) → IsFound c.args.self.now c.args.number c.in-Some.index c.index.result.now
    → c.self.inside.needs ≡ needs_of_all c.args.self.now.cleared (remove c.args.self.now.batches c.in-Some.index) + c.needs.result
counted c f =
    let v : EngineView = c.args.self.now in
    let r : IsRead v c.in-Some.index c.remove-removed.result = read-there c.self.view_is c.self.invariant.kept f.at c.remove-removed.ensures.value in
    omega (
      arith,
      c.needs.ensures (tree_of v.cleared c.remove-removed.result) (batch-runs v r.kept c.in-Some.index c.remove-removed.result r.at).runs,
      needs-removed v.cleared v.batches c.in-Some.index c.remove-removed.result r.at,
      c.self.invariant.needs_are,
      ap (λ (z : EngineView). needs_of_all z.cleared z.batches) c.self.view_is,
    )

pub returns-in_default : goal.returns-in_default
returns-in_default c =
    record { cleared = refl; reacts = remove-unknown c.args.self.now c.args.number c.requires (none-found c.args.self.now c.args.number (sym c.index_of.ensures ∙ c.in_default.is)) }

pub returns-in_default-state : goal.returns-in_default-state
returns-in_default-state c =
    let v : EngineView = c.args.self.now in
    record {
      cleared = refl;
      reacts = remove-busy v c.args.number (model_batch v.cleared c.index.result.now) c.requires (found (goal.at.returns-in_default-state c).After-index).is c.in_default-state.not-Idle;
    }

pub overflow_sub-self : goal.overflow_sub-self
overflow_sub-self c = let w = goal.at.overflow_sub-self c in omega (arith, counted w.After-needs (found w.After-index))

pub invariant_of-self : goal.invariant_of-self
invariant_of-self c =
    let w = goal.at.invariant_of-self c in
    let v : EngineView = c.args.self.now in
    let i : ℕ = c.in-Some.index in
    let f = found w.After-index in
    let left : c.self.inside.needs - c.needs.result ≡ needs_of_all v.cleared (remove v.batches i) = omega (arith, counted w.After-needs f) in
    record {
      kept = subst (λ (r : BatchList). IsKept (seen c.self.inside.cleared r.batches c.self.inside.next_number c.self.inside.arbiter)) (sym c.remove-removed.ensures.rest)
          (subst (λ (z : EngineView). IsKept (with z (remove z.batches i) z.next_number z.allocation)) (sym c.self.view_is) (remove-kept v f.kept i c.index.result.now f.at c.in-Idle.is c.args.number c.requires f.is));
      numbers = subst HaveOwnNumbers (sym c.remove-removed.ensures.rest) (own-numbers-remove c.self.inside.batches i c.self.invariant.numbers);
      needs_are = left ∙ sym (ap (λ (z : EngineView). needs_of_all z.cleared (remove z.batches i)) c.self.view_is) ∙ sym (ap (λ (r : BatchList). needs_of_all c.self.inside.cleared r.batches) c.remove-removed.ensures.rest);
    }

pub returns : goal.returns
returns c =
    let v : EngineView = c.args.self.now in
    let i : ℕ = c.in-Some.index in
    let f = found (goal.at.returns c).After-index in
    record {
      cleared = ap (λ (z : EngineView). z.cleared) c.self.view_is;
      reacts =
          subst (λ (r : BatchList). Reacts (setup v.cleared) (plant_of v) (Events.remove c.args.number) (Events.removed c.args.number) (plant_of (seen c.self.inside.cleared r.batches c.self.inside.next_number c.self.inside.arbiter))) (sym c.remove-removed.ensures.rest)
          (subst (λ (z : EngineView). Reacts (setup v.cleared) (plant_of v) (Events.remove c.args.number) (Events.removed c.args.number) (plant_of (with z (remove z.batches i) z.next_number z.allocation))) (sym c.self.view_is)
          (subst (λ n. Reacts (setup v.cleared) (plant_of v) (Events.remove c.args.number) (Events.removed n) (plant_of (with v (remove v.batches i) v.next_number v.allocation))) f.number
          (remove-reacts v f.kept i c.index.result.now f.at c.in-Idle.is c.args.number c.requires f.is)));
    }
