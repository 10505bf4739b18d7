use Rattle.std.proofs.Common.{◌≡◌, arith, codes, inr, refl}
use Rattle.std.proofs.lemmas.Result.{err_from_is_err_and}
use Rattle.batch_recipe.specs.declared.scaling.TheConstants.{MAX_VALUE}
use Rattle.toml.specs.View.{table_view}
use Rattle.batch_reader.{proofs.EntryFaults.above_fault, proofs.EntryFaults.label_told, proofs.EntryFaults.least_told, proofs.EntryFaults.number_told, proofs.EntryFaults.table_told, proofs.EntryFaults.truth_told, specs.declared.fault.TableKind.TheVariants.Input}
use Rattle.batch_reader.proofs.value_tables.QuantityFromTable.from_table.Goals as goal

pub returns-in_err-name-clause-told : goal.returns-in_err-name-clause-told
returns-in_err-name-clause-told c =
    let p = err_from_is_err_and c.from_residual.result c.from_residual.ensures.1 in
    rw (p.1, p.2) (table_told Input (table_view c.args.table.now) 0 _ refl refl _ _ (label_told _ (table_view c.args.table.now) _ _ c.in_err-name.ensures.refused c.in_err-name.ensures.told))

pub returns-in_err-value-clause-told : goal.returns-in_err-value-clause-told
returns-in_err-value-clause-told c =
    let p = err_from_is_err_and c.from_residual-in_err-value.result c.from_residual-in_err-value.ensures.1 in
    rw (p.1, p.2) (table_told Input (table_view c.args.table.now) 1 _ refl refl _ _ (number_told _ (table_view c.args.table.now) _ _ _ _ c.in_err-value.ensures.refused c.in_err-value.ensures.told))

pub returns-in_err-min-clause-told : goal.returns-in_err-min-clause-told
returns-in_err-min-clause-told c =
    let p = err_from_is_err_and c.from_residual-in_err-min.result c.from_residual-in_err-min.ensures.1 in
    rw (p.1, p.2) (table_told Input (table_view c.args.table.now) 2 _ refl refl _ _ (least_told _ (table_view c.args.table.now) MAX_VALUE _ _ c.in_err-min.ensures.refused c.in_err-min.ensures.told))

pub returns-in_err-max-clause-told : goal.returns-in_err-max-clause-told
returns-in_err-max-clause-told c =
    let p = err_from_is_err_and c.from_residual-in_err-max.result c.from_residual-in_err-max.ensures.1 in
    rw (p.1, p.2) (table_told Input (table_view c.args.table.now) 3 _ refl refl _ _ (number_told _ (table_view c.args.table.now) _ _ _ _ c.in_err-max.ensures.refused c.in_err-max.ensures.told))

pub returns-then-min-max-clause-told : goal.returns-then-min-max-clause-told
returns-then-min-max-clause-told c = (
  refl,
  inr (record {
    place = 2;
    key = _;
    listed = refl;
    stands = refl;
    fault = (refl, above_fault (codes "min") (table_view c.args.table.now) MAX_VALUE c.in_ok-min.min c.in_ok-max.max c.in_ok-min.ensures.ok c.in_ok-max.ensures.ok c.if-min-max.true);
  }),
)

pub returns-in_err-fixed-clause-told : goal.returns-in_err-fixed-clause-told
returns-in_err-fixed-clause-told c =
    let p = err_from_is_err_and c.from_residual-in_err-fixed.result c.from_residual-in_err-fixed.ensures.1 in
    rw (p.1, p.2) (table_told Input (table_view c.args.table.now) 4 _ refl refl _ _ (truth_told _ (table_view c.args.table.now) _ _ c.in_err-fixed.ensures.refused c.in_err-fixed.ensures.told))

pub returns-in_err-name-clause-refused : goal.returns-in_err-name-clause-refused
returns-in_err-name-clause-refused c =
    let p = err_from_is_err_and c.from_residual.result c.from_residual.ensures.1 in
    rw (p.1, p.2) (λ known q h. c.in_err-name.ensures.refused known q.name h.name)

pub returns-in_err-value-clause-refused : goal.returns-in_err-value-clause-refused
returns-in_err-value-clause-refused c =
    let p = err_from_is_err_and c.from_residual-in_err-value.result c.from_residual-in_err-value.ensures.1 in
    rw (p.1, p.2) (λ known q h. c.in_err-value.ensures.refused q.value h.value)

pub returns-in_err-min-clause-refused : goal.returns-in_err-min-clause-refused
returns-in_err-min-clause-refused c =
    let p = err_from_is_err_and c.from_residual-in_err-min.result c.from_residual-in_err-min.ensures.1 in
    rw (p.1, p.2) (λ known q h. c.in_err-min.ensures.refused q.min h.least)

pub returns-in_err-max-clause-refused : goal.returns-in_err-max-clause-refused
returns-in_err-max-clause-refused c =
    let p = err_from_is_err_and c.from_residual-in_err-max.result c.from_residual-in_err-max.ensures.1 in
    rw (p.1, p.2) (λ known q h. c.in_err-max.ensures.refused q.max h.greatest)

pub returns-in_err-fixed-clause-refused : goal.returns-in_err-fixed-clause-refused
returns-in_err-fixed-clause-refused c =
    let p = err_from_is_err_and c.from_residual-in_err-fixed.result c.from_residual-in_err-fixed.ensures.1 in
    rw (p.1, p.2) (λ known q h. c.in_err-fixed.ensures.refused q.fixed h.fixed)

pub returns-then-min-max-clause-refused : goal.returns-then-min-max-clause-refused
returns-then-min-max-clause-refused c =
    λ known q h.
    let least : q.min ≡ c.in_ok-min.min = cc (h.least.integer, c.in_ok-min.ensures.ok.integer) in
    let greatest : q.max ≡ c.in_ok-max.max = cc (h.greatest.integer, c.in_ok-max.ensures.ok.integer) in
    omega (arith, least, greatest, h.ordered, c.if-min-max.true)
