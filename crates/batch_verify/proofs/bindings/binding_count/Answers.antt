use Rattle.std.proofs.Common.{◌≡◌, ℕ, suc, ◌+◌, ◌<◌, ◌≤◌, List, ◌∷◌, ap, sym, ◌∙◌, max, drop, get_or, length, arith, add-one, drop-cons, drop_of_length-le}
use Rattle.std.proofs.Math.Nat.{le-max_left, max-le, max-eq_left, max-eq_right}
use Rattle.batch_cell.specs.{LookUps.units_of_class, declared.cell.TheConstants.MAX_UNITS}
use Rattle.batch_verify.{specs.Bindings.binding_count, proofs.RoleTakers.few_candidates, proofs.RoleTakers.max_joined, proofs.NumberedBindings.some-binding}
use Rattle.batch_verify.proofs.bindings.binding_count.Goals as goal

cut : {X : Type 0} (xs : List X) (i : ℕ) (x : X) → i < length xs → x ≡ get_or xs i x → drop i xs ≡ x ∷ drop (i + 1) xs
cut {X} xs i x in' is = rw add-one (drop-cons xs i x in' ∙ ap (λ (y : X). y ∷ drop (suc i) xs) (sym is))

pub loop-role-init : goal.loop-role-init
loop-role-init c = record {
  kept = max-eq_right (some-binding c.args.cell.now c.args.roles.now);
  some = omega arith;
  few = omega arith;
}

pub loop-role-preserved : goal.loop-role-preserved
loop-role-preserved c =
    let cell = c.args.cell.now in
    let roles = c.args.roles.now in
    let most = c.loop-role.most in
    let rest = binding_count cell (drop (c.loop-role.role-index + 1) roles) in
    let own = length (units_of_class cell c.role-item.result.class) in
    let at : binding_count cell (drop c.loop-role.role-index roles) ≡ max own rest =
    ap (binding_count cell) (cut roles c.loop-role.role-index c.role-item.result c.loop-role-test.true c.role-item.is) in
    let next : c.greater-most.result ≡ max most own = c.greater-most.ensures ∙ ap (max most) c.candidates.ensures in
    let within : own ≤ MAX_UNITS = omega (arith, few_candidates cell c.role-item.result.class, cell.few_units) in
    record {
      kept = ap (λ n. max n rest) next ∙ max_joined most own rest ∙ ap (max most) (sym at) ∙ c.loop-role.invariant.kept;
      some = omega (arith, next, le-max_left most own, c.loop-role.invariant.some);
      few = omega (arith, next, max-le c.loop-role.invariant.few within);
    }

pub returns : goal.returns
returns c =
    let cell = c.args.cell.now in
    let roles = c.args.roles.now in
    record {
      count = sym (max-eq_left c.loop-role.invariant.some) ∙ sym (ap (λ rs. max c.loop-role.most (binding_count cell rs)) (drop_of_length-le roles c.loop-role-test.false)) ∙ c.loop-role.invariant.kept;
      some = c.loop-role.invariant.some;
      few = c.loop-role.invariant.few;
    }
