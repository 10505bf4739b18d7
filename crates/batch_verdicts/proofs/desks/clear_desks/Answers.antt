use Rattle.std.proofs.Common.{inl, inr, subst, sym}
use Rattle.std.proofs.lemmas.Result.{err_from_is_err_and}
use Rattle.batch_cell.specs.{LookUps.units_of, declared.cell.Cell.Cell}
use Rattle.batch_reader.specs.DeskUnits.{HaveUnits}
use Rattle.batch_verdicts.proofs.RecipeTexts.{are_digested}
use Rattle.batch_verdicts.proofs.desks.clear_desks.Goals as goal

pub returns-in_err-read-clause-halted : goal.returns-in_err-read-clause-halted
returns-in_err-read-clause-halted g c =
    let p = err_from_is_err_and c.from_residual.result c.from_residual.ensures.1 in
    rw (p.1, p.2) (inl c.in_err-read.ensures.halted)

pub returns-in_err-cell-clause-halted : goal.returns-in_err-cell-clause-halted
returns-in_err-cell-clause-halted g c =
    let p = err_from_is_err_and c.from_residual-in_err-cell.result c.from_residual-in_err-cell.ensures.1 in
    rw (p.1, p.2) (inr (c.in_ok-read.read.desks, c.in_ok-read.ensures.read, inl c.in_err-cell.ensures.halted))

pub returns-in_err-look_up_units-clause-halted : goal.returns-in_err-look_up_units-clause-halted
returns-in_err-look_up_units-clause-halted g c =
    let p = err_from_is_err_and c.from_residual-in_err-look_up_units.result c.from_residual-in_err-look_up_units.ensures.1 in
    let cell = c.in_ok-cell.ensures.read in
    rw (p.1, p.2) (inr (c.in_ok-read.read.desks, c.in_ok-read.ensures.read, inr (inl (c.in_ok-cell.cell, (cell.0, cell.1.0, cell.1.1), c.in_err-look_up_units.ensures.refused))))

pub returns-in_err-set-clause-halted : goal.returns-in_err-set-clause-halted
returns-in_err-set-clause-halted g c =
    let p = err_from_is_err_and c.from_residual-in_err-set.result c.from_residual-in_err-set.ensures.1 in
    let cell = c.in_ok-cell.ensures.read in
    rw (p.1, p.2) (inr (c.in_ok-read.read.desks, c.in_ok-read.ensures.read, inr (inr (c.in_err-set.ensures.halted _ (cell.0, cell.1.0, cell.1.1)))))

pub returns-clause-set : goal.returns-clause-set
returns-clause-set g c =
    let cell = c.in_ok-cell.ensures.read in
    let set = c.in_ok-set in
    record {
      read = c.in_ok-read.ensures.read;
      cleared = are_digested (g.D.Documents.gives c.args.documents.now) _ _ _ _ set.set cell.0 _ _ _ _ c.new-digest.ensures cell.1 cell.2 set.ensures.cleared c.digits.ensures;
      units = subst (λ (x : Cell). HaveUnits (units_of x) c.in_ok-read.read.desks.desks.items) (sym set.ensures.cleared.same_cell) c.in_ok-look_up_units.ensures.ok;
    }
