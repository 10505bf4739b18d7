use Rattle.std.proofs.Common.{◌≡◌, ◌<◌, length, inr, arith, rules, codes, refl}
use Rattle.std.proofs.lemmas.Result.{err_from_is_err_and}
use Rattle.batch_cell.specs.declared.module.TheConstants.{MAX_PHASES}
use Rattle.toml.specs.View.{table_view}
use Rattle.batch_reader.{proofs.OneCell.refused_phases, proofs.OneCell.refused_phase_count, proofs.EntryFaults.count_fault, proofs.EntryFaults.name_told, proofs.EntryFaults.names_told, proofs.EntryFaults.optional_fault, proofs.EntryFaults.table_told, proofs.NeedFaults.tells_at, specs.declared.fault.TableKind.TheVariants.Module}
use Rattle.batch_reader.proofs.cell_tables.unit_module.Goals as goal
use Rattle.batch_reader.proofs.cell_tables.unit_module.Goals.{then-is_empty-via-then-is_empty, then-is_empty-via-else-is_empty+then-len-gt-MAX_PHASES}

pub returns-in_err-phases-clause-refused : goal.returns-in_err-phases-clause-refused
returns-in_err-phases-clause-refused c =
    let p = err_from_is_err_and c.from_residual-in_err-phases.result c.from_residual-in_err-phases.ensures.1 in
    rw (p.1, p.2) (λ known. refused_phases _ c.requires (c.in_err-phases.ensures.refused known))

pub returns-then-is_empty-clause-refused : goal.returns-then-is_empty-clause-refused
returns-then-is_empty-clause-refused c = λ _. refused_phase_count _ _ c.requires c.in_ok-phases.ensures.ok (λ counts.
    elim c.then-is_empty.branch [
      | then-is_empty-via-then-is_empty w ↦ (let none : length c.in_ok-phases.phases.items ≡ 0 = search rules in omega (arith, counts.0))
      | then-is_empty-via-else-is_empty+then-len-gt-MAX_PHASES w ↦ (let many : MAX_PHASES < length c.in_ok-phases.phases.items = search rules in omega (arith, counts.1))
    ])

pub returns-in_err-name-clause-told : goal.returns-in_err-name-clause-told
returns-in_err-name-clause-told c =
    let p = err_from_is_err_and c.from_residual.result c.from_residual.ensures.1 in
    rw (p.1, p.2) (table_told Module (table_view c.args.table.now) 0 _ refl refl _ _ (name_told _ (table_view c.args.table.now) _ _ c.in_err-name.ensures.refused c.in_err-name.ensures.told))

pub returns-in_err-unit-clause-told : goal.returns-in_err-unit-clause-told
returns-in_err-unit-clause-told c =
    let p = err_from_is_err_and c.from_residual-in_err-unit.result c.from_residual-in_err-unit.ensures.1 in
    rw (p.1, p.2) (table_told Module (table_view c.args.table.now) 1 _ refl refl _ _ (tells_at _ _ (optional_fault (codes "unit") (table_view c.args.table.now) c.requires) _ _
    (name_told _ (table_view c.args.table.now) _ _ c.in_err-unit.ensures.refused c.in_err-unit.ensures.told)))

pub returns-in_err-phases-clause-told : goal.returns-in_err-phases-clause-told
returns-in_err-phases-clause-told c =
    let p = err_from_is_err_and c.from_residual-in_err-phases.result c.from_residual-in_err-phases.ensures.1 in
    rw (p.1, p.2) (table_told Module (table_view c.args.table.now) 2 _ refl c.requires _ _ (names_told _ (table_view c.args.table.now) 1 MAX_PHASES _ _ c.in_err-phases.ensures.refused c.in_err-phases.ensures.told))

pub returns-then-is_empty-clause-told : goal.returns-then-is_empty-clause-told
returns-then-is_empty-clause-told c = (
  refl,
  inr (record {
    place = 2;
    key = _;
    listed = refl;
    stands = c.requires;
    fault = (
      refl,
      count_fault (codes "phases") (table_view c.args.table.now) 1 MAX_PHASES c.in_ok-phases.phases.items c.in_ok-phases.ensures.ok (λ some few.
          elim c.then-is_empty.branch [
            | then-is_empty-via-then-is_empty w ↦ (let none : length c.in_ok-phases.phases.items ≡ 0 = search rules in omega (arith, some))
            | then-is_empty-via-else-is_empty+then-len-gt-MAX_PHASES w ↦ (let many : MAX_PHASES < length c.in_ok-phases.phases.items = search rules in omega (arith, few))
          ]),
    );
  }),
)
