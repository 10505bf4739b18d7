use Rattle.std.proofs.Common.{◌≡◌, ◌<◌, Option, [], ap, arith, inl, inr, length, map, rules, string_bytes, subst}
use Rattle.std.proofs.lemmas.{List.nil_from_length, Result.err_from_is_err_and}
use Rattle.batch_cell.specs.declared.cell.Cell.{Cell}
use Rattle.batch_verdicts.{specs.Looking.IsCellLooked, proofs.DocumentRefusals.all_refused, proofs.DocumentRefusals.cell_refused, proofs.DocumentRefusals.read_whole}
use Rattle.batch_verdicts.proofs.every.read_all.Goals as goal

pub returns-clause-read : goal.returns-clause-read
returns-clause-read g c =
    let gives = g.D.Documents.gives c.args.documents.now in
    let looked = c.in_ok-looked.looked in
    let before = c.cell_or_refusal.new.refusals.items in
    let At : Option Cell → Type 0 = λ cell. IsCellLooked gives c.args.cell.now [] cell before in
    let cell = subst At c.in-Some.is (rw c.new-refusals.ensures.items at c.in_ok-cell.ensures.looked) in
    let none : length looked.refusals.items ≡ 0 = search rules in
    read_whole gives c.args.cell.now (map string_bytes c.args.recipes.now) before c.in-Some.cell looked.recipes looked.refusals.items cell
    c.in_ok-looked.ensures.looked (nil_from_length looked.refusals.items none)

pub returns-then-not-is_empty-clause-halted : goal.returns-then-not-is_empty-clause-halted
returns-then-not-is_empty-clause-halted g c =
    let gives = g.D.Documents.gives c.args.documents.now in
    let looked = c.in_ok-looked.looked in
    let before = c.cell_or_refusal.new.refusals.items in
    let At : Option Cell → Type 0 = λ cell. IsCellLooked gives c.args.cell.now [] cell before in
    let cell = subst At c.in-Some.is (rw c.new-refusals.ensures.items at c.in_ok-cell.ensures.looked) in
    let some : 0 < length looked.refusals.items = search rules in
    inl (
      all_refused gives c.args.cell.now (map string_bytes c.args.recipes.now) before c.in-Some.cell looked.recipes looked.refusals.items cell
          c.in_ok-looked.ensures.looked,
      λ none. omega (arith, ap length none, some),
    )

pub returns-in_default-clause-halted : goal.returns-in_default-clause-halted
returns-in_default-clause-halted g c =
    let gives = g.D.Documents.gives c.args.documents.now in
    let looked = c.in_ok-looked.looked in
    let before = c.cell_or_refusal.new.refusals.items in
    let At : Option Cell → Type 0 = λ cell. IsCellLooked gives c.args.cell.now [] cell before in
    let cell = subst At c.in_default.is (rw c.new-refusals.ensures.items at c.in_ok-cell.ensures.looked) in
    inl (cell_refused gives c.args.cell.now (map string_bytes c.args.recipes.now) before looked.recipes looked.refusals.items cell
    c.in_ok-looked.ensures.looked)

pub returns-in_err-cell-clause-halted : goal.returns-in_err-cell-clause-halted
returns-in_err-cell-clause-halted g c =
    let p = err_from_is_err_and c.from_residual.result c.from_residual.ensures.1 in
    rw (p.1, p.2) (inr (inl c.in_err-cell.ensures.halted))

pub returns-in_err-looked-clause-halted : goal.returns-in_err-looked-clause-halted
returns-in_err-looked-clause-halted g c =
    let p = err_from_is_err_and c.from_residual-in_err-looked.result c.from_residual-in_err-looked.ensures.1 in
    rw (p.1, p.2) (inr (inr c.in_err-looked.ensures.halted))
