use Rattle.std.proofs.Common.{◌≡◌, ◌<◌, ℕ, Bool, true, false, Some, arith, refl, sym, ◌∙◌, ap, subst, length, get_or, inl, inr}
use Rattle.std.{specs.Prelude.option_map, specs.Prelude.slice_get, proofs.lemmas.Bool.cases_lt, proofs.lemmas.List.length-map, proofs.lemmas.Option.slice_get_read, proofs.lemmas.Option.slice_get_within, proofs.lemmas.Option.slice_get-map}
use Rattle.batch_cell.specs.{LookUps.is_of_class, LookUps.units_of, declared.unit.Unit.Unit}
use Rattle.batch_recipe.specs.Conditions.{same_name}
use Rattle.batch_model.specs.Events.{bound_by}
use Rattle.batch_record_laws.proofs.Entries.{name_same}
use Rattle.batch_engine.proofs.RolePairs.{a-candidate, no-candidate}
use Rattle.batch_engine.proofs.bindings.unit_for.Goals as goal
use Rattle.batch_engine.proofs.bindings.unit_for.Goals.{else-is_of_class-via-then-is_of_class+else-gives, else-is_of_class-via-else-is_of_class}

pub returns-then-gives : goal.returns-then-gives
returns-then-gives c =
    let units = c.args.cell.now.units.items in
    let count : length (units_of c.args.cell.now) ≡ length units = length-map units (λ (u : Unit). u.name) in
    let n : ℕ = c.loop-number.number in
    let few : n < length units = omega (arith, c.loop-number-test.true, c.units-number-end.ensures, count) in
    let u : Unit = c.index-unit.result.now in
    let at : slice_get units n ≡ Some u = slice_get_read units (length units) n u refl few (c.index-unit.ensures ∙ ap (λ k. get_or units k u) c.from.ensures) in
    let class : is_of_class c.args.role.now.class u ≡ true = sym c.is_of_class.ensures ∙ c.if-is_of_class.true in
    let name = bound_by c.args.pairs.now c.args.role.now.name in
    let same : u.name ≡ name = name_same u.name name (sym c.gives.ensures ∙ c.if-gives.true) in
    (a-candidate c.args.role.now.class name units n u at class same, slice_get-map (λ (z : Unit). z.name) units n ∙ ap (option_map (λ (z : Unit). z.name)) at ∙ ap (λ z. Some z) same)

pub loop-number-preserved : goal.loop-number-preserved
loop-number-preserved c =
    let units = c.args.cell.now.units.items in
    let count : length (units_of c.args.cell.now) ≡ length units = length-map units (λ (u : Unit). u.name) in
    let n : ℕ = c.loop-number.number in
    let few : n < length units = omega (arith, c.loop-number-test.true, c.units-number-end.ensures, count) in
    let x : Unit = c.index-unit.result.now in
    let at : slice_get units n ≡ Some x = slice_get_read units (length units) n x refl few (c.index-unit.ensures ∙ ap (λ k. get_or units k x) c.from.ensures) in
    let name = bound_by c.args.pairs.now c.args.role.now.name in
    let here : is_of_class c.args.role.now.class x ≡ true → same_name x.name name ≡ false =
    elim c.else-is_of_class.branch [
      | else-is_of_class-via-then-is_of_class+else-gives w ↦ λ f. sym w.gives.ensures ∙ w.if-gives.false
      | else-is_of_class-via-else-is_of_class w ↦ λ f. absurd (let q : ◌≡◌ {A = Bool} true false = sym f ∙ sym c.is_of_class.ensures ∙ w.if-is_of_class.false in cc)
    ] in
    λ k u lt e f. elim (cases_lt k n) [
      | inl before ↦ c.loop-number.invariant k u before e f
      | inr le ↦
          let own : k ≡ n = omega (arith, le, lt) in
          let one : Some u ≡ Some x = sym e ∙ ap (slice_get units) own ∙ at in
          let same : u ≡ x = cc in
          subst (λ (z : Unit). same_name z.name name ≡ false) (sym same) (here (subst (λ (z : Unit). is_of_class c.args.role.now.class z ≡ true) same f))
    ]

pub returns : goal.returns
returns c =
    let units = c.args.cell.now.units.items in
    let count : length (units_of c.args.cell.now) ≡ length units = length-map units (λ (u : Unit). u.name) in
    no-candidate c.args.role.now.class (bound_by c.args.pairs.now c.args.role.now.name) units
    (λ k u e f. c.loop-number.invariant k u (let w : k < length units = slice_get_within units k u e in omega (arith, w, count, c.loop-number-test.false, c.units-number-end.ensures)) e f)
