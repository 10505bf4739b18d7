use Rattle.std.proofs.Common.{◌≡◌, ◌∙◌, ap, subst, arith}
use Rattle.batch_verify.specs.Bindings.{binding_count}
use Rattle.batch_check.{specs.Takings.AreUnitsOf, proofs.RoleUnits.units_more, proofs.RoleUnits.units_none, proofs.RoleUnits.units_numbered}
use Rattle.batch_check.proofs.binding.units_of_each.Goals as goal

pub loop-number-init : goal.loop-number-init
loop-number-init c = rw c.in_ok-units.ensures.items (units_none c.args.cell.now c.args.recipe.now.roles.items)

pub loop-number-preserved : goal.loop-number-preserved
loop-number-preserved c =
    let cell = c.args.cell.now in
    let recipe = c.args.recipe.now in
    let n = c.loop-number.number in
    rw c.in_ok-push.ensures.items
    (units_more cell recipe.roles.items n c.loop-number.units.items c.in_ok-taken.taken c.loop-number.invariant
    (c.in_ok-taken.ensures cell c.requires ∙ units_numbered cell recipe.roles.items n))

pub returns : goal.returns
returns c =
    let cell = c.args.cell.now in
    let roles = c.args.recipe.now.roles.items in
    let counted : c.loop-number.number ≡ binding_count cell roles = omega (arith, c.loop-number-test.false, c.binding_count-count.ensures.count, ap (binding_count cell) c.deref.ensures.value) in
    subst (λ count. AreUnitsOf cell roles count c.loop-number.units.items) counted c.loop-number.invariant
