use Rattle.std.proofs.Common.{◌≡◌, refl, sym, ◌∙◌, ap, ap₂, subst, ℕ, []}
use Rattle.batch_cell.specs.LookUps.{capacities_of}
use Rattle.batch_arbiter.specs.Allocation.{Allocation, idle}
use Rattle.batch_verify.specs.ClearedSet.{ClearedSet}
use Rattle.batch_engine.{specs.View.seen, specs.View.plant_of, specs.Kept.IsKept, specs.Kept.needs_of_all, proofs.OpeningEngine.opening-plant, proofs.OpeningEngine.opening-kept, specs.Batches.BatchList, specs.Batches.HaveOwnNumbers}
use Rattle.batch_engine.proofs.control.Control.new.Goals as goal

pub invariant_of-result : goal.invariant_of-result
invariant_of-result c =
    let set : ClearedSet = c.args.cleared in
    let arbiter : c.in-Ok.arbiter ≡ idle (capacities_of set.cell) = c.in-Ok.ensures ∙ ap (λ z. idle (capacities_of z)) c.cell.ensures.value in
    record {
      kept = subst (λ (r : BatchList). IsKept (seen set r.batches 1 c.in-Ok.arbiter)) (sym c.new-2.ensures)
          (subst (λ (a : Allocation). IsKept (seen set [] 1 a)) (sym arbiter) (opening-kept set c.recipes-recipes.ensures.cleared));
      numbers = subst HaveOwnNumbers (sym c.new-2.ensures) refl;
      needs_are = subst (λ (r : BatchList). ◌≡◌ {A = ℕ} 0 (needs_of_all set r.batches)) (sym c.new-2.ensures) refl;
    }

pub returns-clause-opening : goal.returns-clause-opening
returns-clause-opening c =
    let set : ClearedSet = c.args.cleared in
    let arbiter : c.in-Ok.arbiter ≡ idle (capacities_of set.cell) = c.in-Ok.ensures ∙ ap (λ z. idle (capacities_of z)) c.cell.ensures.value in
    ap₂ (λ (r : BatchList) (a : Allocation). plant_of (seen set r.batches 1 a)) c.new-2.ensures arbiter ∙ opening-plant set
