use Rattle.std.proofs.Common.{◌≡◌, get_or, None, Some, sym, refl}
use Rattle.std.proofs.lemmas.Result.{err_from_is_err_and}
use Rattle.toml.specs.{Data.as_table, View.view, View.table_view}
use Rattle.batch_reader.{proofs.Items.HasTables_refused, proofs.Items.IsTableOf_none, proofs.Items.IsTableOf_refused, proofs.Items.AllItems-turn, proofs.Items.AllItems_before, specs.Entries.IsTableOf, specs.Entries.items_at, proofs.ArrayFaults.array_no_table, proofs.ArrayFaults.array_table}
use Rattle.batch_reader.proofs.tables.tables_at.Goals as goal

pub returns-in_default-clause-refused : goal.returns-in_default-clause-refused
returns-in_default-clause-refused g c = λ _.
    let none : None ≡ as_table (view (get_or c.in_ok-item-items.item-items.now c.loop-entry.entry c.item-item.result)) = rw (← c.item-item.is) c.in_default.ensures in
    HasTables_refused (g.T.FromTable.stands_for c.args.kind) c.args.key.now (table_view c.args.table.now) c.in_ok-item-items.item-items.now c.loop-entry.entry c.item-item.result
    c.in_ok-item-items.ensures.ok c.loop-entry-test.true (IsTableOf_none (g.T.FromTable.stands_for c.args.kind) _ none)

pub returns-in_err-value-clause-refused : goal.returns-in_err-value-clause-refused
returns-in_err-value-clause-refused g c =
    let p = err_from_is_err_and c.from_residual-in_err-value.result c.from_residual-in_err-value.ensures.1 in
    rw (p.1, p.2) (λ known.
    let is_table : Some (table_view c.in-Some.inner.now) ≡ as_table (view (get_or c.in_ok-item-items.item-items.now c.loop-entry.entry c.item-item.result)) = rw (← c.item-item.is) c.in-Some.ensures in
    HasTables_refused (g.T.FromTable.stands_for c.args.kind) c.args.key.now (table_view c.args.table.now) c.in_ok-item-items.item-items.now c.loop-entry.entry c.item-item.result
    c.in_ok-item-items.ensures.ok c.loop-entry-test.true (IsTableOf_refused (g.T.FromTable.stands_for c.args.kind) _ _ is_table (c.in_err-value.ensures.refused known)))

pub loop-entry-preserved : goal.loop-entry-preserved
loop-entry-preserved g c =
    let is_table : Some (table_view c.in-Some.inner.now) ≡ as_table (view (get_or c.in_ok-item-items.item-items.now c.loop-entry.entry c.item-item.result)) = rw (← c.item-item.is) c.in-Some.ensures in
    rw c.in_ok-push.ensures.items (AllItems-turn (IsTableOf (g.T.FromTable.stands_for c.args.kind)) c.in_ok-item-items.item-items.now c.loop-entry.values.items c.loop-entry.entry c.item-item.result c.in_ok-value.value
    c.loop-entry-test.true c.loop-entry.invariant (record { members = _; is_table = sym is_table; stands_for = c.in_ok-value.ensures.ok }))

pub returns-in_default-clause-told : goal.returns-in_default-clause-told
returns-in_default-clause-told g c =
    let vs = c.in_ok-item-items.item-items.now in
    let none : None ≡ as_table (view (get_or vs c.loop-entry.entry c.item-item.result)) = rw (← c.item-item.is) c.in_default.ensures in
    (refl, array_no_table _ (g.T.FromTable.is_fault c.args.kind) (items_at c.args.key.now (table_view c.args.table.now)) vs c.loop-entry.entry c.item-item.result c.in_ok-item-items.ensures.ok c.loop-entry-test.true none (AllItems_before (IsTableOf (g.T.FromTable.stands_for c.args.kind)) vs c.loop-entry.values.items c.loop-entry.entry c.loop-entry.invariant))

pub returns-in_err-value-clause-told : goal.returns-in_err-value-clause-told
returns-in_err-value-clause-told g c =
    let vs = c.in_ok-item-items.item-items.now in
    let p = err_from_is_err_and c.from_residual-in_err-value.result c.from_residual-in_err-value.ensures.1 in
    let is_table : Some (table_view c.in-Some.inner.now) ≡ as_table (view (get_or vs c.loop-entry.entry c.item-item.result)) = rw (← c.item-item.is) c.in-Some.ensures in
    rw (p.1, p.2) (array_table _ (g.T.FromTable.is_fault c.args.kind) (items_at c.args.key.now (table_view c.args.table.now)) vs c.args.kind c.loop-entry.entry c.item-item.result _ c.in_ok-item-items.ensures.ok c.loop-entry-test.true is_table (AllItems_before (IsTableOf (g.T.FromTable.stands_for c.args.kind)) vs c.loop-entry.values.items c.loop-entry.entry c.loop-entry.invariant) _ c.in_err-value.ensures.told)

pub returns-in_default-clause-no_list : goal.returns-in_default-clause-no_list
returns-in_default-clause-no_list g c =
    λ none. cc (none, c.in_ok-item-items.ensures.ok)

pub returns-in_err-value-clause-no_list : goal.returns-in_err-value-clause-no_list
returns-in_err-value-clause-no_list g c =
    λ none. cc (none, c.in_ok-item-items.ensures.ok)

pub returns-in_err-push-clause-no_list : goal.returns-in_err-push-clause-no_list
returns-in_err-push-clause-no_list g c =
    λ none. cc (none, c.in_ok-item-items.ensures.ok)

pub returns-clause-no_list : goal.returns-clause-no_list
returns-clause-no_list g c =
    λ none. cc (none, c.in_ok-item-items.ensures.ok)

pub returns-in_err-item-items-clause-refused : goal.returns-in_err-item-items-clause-refused
returns-in_err-item-items-clause-refused g c =
    let p = err_from_is_err_and c.from_residual.result c.from_residual.ensures.1 in
    rw (p.1, p.2) (λ known values h. cc (h.found, c.in_err-item-items.ensures.refused))

pub returns-in_err-push-clause-refused : goal.returns-in_err-push-clause-refused
returns-in_err-push-clause-refused g c =
    let p = err_from_is_err_and c.from_residual-in_err-push.result c.from_residual-in_err-push.ensures.1 in
    rw (p.1, p.2) (λ known. absurd (known refl))

pub returns-in_err-push-clause-told : goal.returns-in_err-push-clause-told
returns-in_err-push-clause-told g c =
    let p = err_from_is_err_and c.from_residual-in_err-push.result c.from_residual-in_err-push.ensures.1 in
    rw (p.1, p.2) tt
