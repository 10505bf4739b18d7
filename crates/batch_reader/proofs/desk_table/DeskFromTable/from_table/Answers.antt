use Rattle.std.proofs.Common.{inl, inr, option_map, string_bytes, sym}
use Rattle.std.proofs.lemmas.Result.{err_from_is_err_and}
use Rattle.toml.specs.View.{table_view}
use Rattle.batch_reader.{proofs.EntryFaults.name_told, proofs.EntryFaults.optional_name_told, proofs.EntryFaults.truth_told, proofs.NeedFaults.tells_at, proofs.DeskFaults.path_told, proofs.DeskRefusals.lag_refuses, specs.DesksFaults.IsDeskFault}
use Rattle.batch_reader.proofs.desk_table.DeskFromTable.from_table.Goals as goal

pub returns-in_err-name-clause-told : goal.returns-in_err-name-clause-told
returns-in_err-name-clause-told c =
    let p = err_from_is_err_and c.from_residual.result c.from_residual.ensures.1 in
    rw (p.1, p.2) (tells_at _ (IsDeskFault (table_view c.args.table.now)) (λ wrong h. inr (sym c.if-not-has_known_keys.ensures, inl h)) _ _
    (name_told _ (table_view c.args.table.now) c.args.spot _ c.in_err-name.ensures.refused c.in_err-name.ensures.told))

pub returns-in_err-input-clause-told : goal.returns-in_err-input-clause-told
returns-in_err-input-clause-told c =
    let p = err_from_is_err_and c.from_residual-in_err-input.result c.from_residual-in_err-input.ensures.1 in
    rw (p.1, p.2) (tells_at _ (IsDeskFault (table_view c.args.table.now)) (λ wrong h. inr (sym c.if-not-has_known_keys.ensures, inr ((c.in_ok-name.name, c.in_ok-name.ensures.ok), inl h))) _ _
    (path_told _ (table_view c.args.table.now) c.args.spot _ c.in_err-input.ensures.refused c.in_err-input.ensures.told))

pub returns-in_err-output-clause-told : goal.returns-in_err-output-clause-told
returns-in_err-output-clause-told c =
    let p = err_from_is_err_and c.from_residual-in_err-output.result c.from_residual-in_err-output.ensures.1 in
    rw (p.1, p.2) (tells_at _ (IsDeskFault (table_view c.args.table.now)) (λ wrong h. inr (sym c.if-not-has_known_keys.ensures, inr ((c.in_ok-name.name, c.in_ok-name.ensures.ok), inr ((option_map string_bytes c.in_ok-input.input, c.in_ok-input.ensures.ok), inl h)))) _ _
    (path_told _ (table_view c.args.table.now) c.args.spot _ c.in_err-output.ensures.refused c.in_err-output.ensures.told))

pub returns-in_err-unit-clause-told : goal.returns-in_err-unit-clause-told
returns-in_err-unit-clause-told c =
    let p = err_from_is_err_and c.from_residual-in_err-unit.result c.from_residual-in_err-unit.ensures.1 in
    rw (p.1, p.2) (tells_at _ (IsDeskFault (table_view c.args.table.now)) (λ wrong h. inr (sym c.if-not-has_known_keys.ensures, inr ((c.in_ok-name.name, c.in_ok-name.ensures.ok), inr ((option_map string_bytes c.in_ok-input.input, c.in_ok-input.ensures.ok), inr ((option_map string_bytes c.in_ok-output.output, c.in_ok-output.ensures.ok), inr (sym c.if-not-has_way.ensures, inl h)))))) _ _
    (optional_name_told _ (table_view c.args.table.now) c.args.spot _ c.in_err-unit.ensures.refused c.in_err-unit.ensures.told))

pub returns-in_err-stays-clause-told : goal.returns-in_err-stays-clause-told
returns-in_err-stays-clause-told c =
    let p = err_from_is_err_and c.from_residual-in_err-stays.result c.from_residual-in_err-stays.ensures.1 in
    rw (p.1, p.2) (tells_at _ (IsDeskFault (table_view c.args.table.now)) (λ wrong h. inr (sym c.if-not-has_known_keys.ensures, inr ((c.in_ok-name.name, c.in_ok-name.ensures.ok), inr ((option_map string_bytes c.in_ok-input.input, c.in_ok-input.ensures.ok), inr ((option_map string_bytes c.in_ok-output.output, c.in_ok-output.ensures.ok), inr (sym c.if-not-has_way.ensures, inr ((c.in_ok-unit.unit, c.in_ok-unit.ensures.ok), inl h))))))) _ _
    (truth_told _ (table_view c.args.table.now) c.args.spot _ c.in_err-stays.ensures.refused c.in_err-stays.ensures.told))

pub returns-in_err-lag-clause-refused : goal.returns-in_err-lag-clause-refused
returns-in_err-lag-clause-refused c =
    let p = err_from_is_err_and c.from_residual-in_err-lag.result c.from_residual-in_err-lag.ensures.1 in
    rw (p.1, p.2) (lag_refuses c.args.spot (table_view c.args.table.now) _ c.in_err-lag.ensures.told)
