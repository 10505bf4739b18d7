use Rattle.std.proofs.Common.{◌≡◌, ◌≢◌, ◌<◌, ℕ, Some, arith, refl, sym, ◌∙◌, ap, length, get_or, set, inl, inr, length-set, get_or-set_same, get_or-set_other}
use Rattle.std.{specs.Prelude.slice_get, proofs.lemmas.Bool.cases_lt, proofs.lemmas.Option.slice_get_read, proofs.lemmas.Option.slice_get_within}
use Rattle.batch_cell.specs.LookUps.{units_of}
use Rattle.batch_recipe.specs.declared.role.Role.{Role}
use Rattle.batch_model.specs.Events.{bound_by}
use Rattle.batch_engine.proofs.{RolePairs.not-of-roles, RolePairs.all-may, RolePairs.may_take, InvariantAfterMove.Each-set}
use Rattle.batch_engine.proofs.bindings.units_for.Goals as goal

pub returns-then-not-are_of_roles : goal.returns-then-not-are_of_roles
returns-then-not-are_of_roles c = not-of-roles c.args.cell.now c.args.roles.now c.args.pairs.now (sym c.are_of_roles.ensures ∙ c.if-not-are_of_roles.true)

pub loop-index-preserved : goal.loop-index-preserved
loop-index-preserved c =
    let roles = c.args.roles.now in
    let i : ℕ = c.loop-index.index in
    let units = c.loop-index.units in
    let y : ℕ = c.in_ok-units.field-0 in
    let few : i < length roles = omega (arith, c.loop-index-test.true) in
    let role : Role = c.index-roles-index.result in
    let at : slice_get roles i ≡ Some role = slice_get_read roles (length roles) i role refl few c.index-roles-index.is in
    let taken = c.in_ok-units.ensures in
    let within : y < length (units_of c.args.cell.now) = slice_get_within (units_of c.args.cell.now) y (bound_by c.args.pairs.now role.name) taken.1 in
    let inside : i < length units = omega (arith, few, c.requires, c.loop-index.invariant.0) in (
      length-set units i y ∙ c.loop-index.invariant.0,
      Each-set (λ u. u < length (units_of c.args.cell.now)) units i y c.loop-index.invariant.1 within,
      λ k own lt e. elim (cases_lt k i) [
        | inl before ↦
            let g = c.loop-index.invariant.2 k own before e in
            let apart : k ≢ i = λ q. absurd (omega arith) in
            let kept : get_or (set units i y) k 0 ≡ get_or units k 0 = rw get_or-set_other refl in
            (g.0, ap (slice_get (units_of c.args.cell.now)) kept ∙ g.1)
        | inr le ↦
            let here : k ≡ i = omega (arith, le, lt) in
            let one : Some own ≡ Some role = sym e ∙ ap (slice_get roles) here ∙ at in
            let same : own ≡ role = cc in
            let got : get_or (set units i y) k 0 ≡ y = ap (λ z. get_or (set units i y) z 0) here ∙ rw get_or-set_same refl in
            (ap (may_take c.args.cell.now c.args.pairs.now) same ∙ taken.0, ap (slice_get (units_of c.args.cell.now)) got ∙ taken.1 ∙ ap (λ (z : Role). Some (bound_by c.args.pairs.now z.name)) (sym same))
      ],
    )

pub returns : goal.returns
returns c =
    let roles = c.args.roles.now in
    let all = λ (k : ℕ) (role : Role) (e : slice_get roles k ≡ Some role). c.loop-index.invariant.2 k role (let w : k < length roles = slice_get_within roles k role e in omega (arith, w, c.loop-index-test.false)) e in
    record {
      binds = all-may c.args.cell.now roles c.args.pairs.now (sym c.are_of_roles.ensures ∙ c.if-not-are_of_roles.false) (λ k role e. (all k role e).0);
      count = c.loop-index.invariant.0;
      within = c.loop-index.invariant.1;
      each = λ k role e. (all k role e).1;
    }
