use Rattle.std.proofs.Common.{inl, map, string_bytes}
use Rattle.std.proofs.lemmas.Result.{err_from_is_err_and}
use Rattle.batch_verdicts.{specs.Looking.AreAllRead, specs.Saying.IsWarned, proofs.DocumentRefusals.broken_at, proofs.WarningEffects.silent}
use Rattle.batch_verdicts.proofs.every.read_asked.Goals as goal
use Rattle.batch_verdicts.proofs.every.read_asked.Goals.{then-all+in_ok-read, else-all+in_ok-read-2, then-all-2+in_ok-find_broken_rules, else-all-2}

pub returns-in_err-read-clause-halted : goal.returns-in_err-read-clause-halted
returns-in_err-read-clause-halted g c =
    let p = err_from_is_err_and c.from_residual.result c.from_residual.ensures.1 in
    rw (p.1, p.2, c.if-all.true) (inl (c.in_err-read.ensures.halted, silent _ _))

pub returns-in_err-read-2-clause-halted : goal.returns-in_err-read-2-clause-halted
returns-in_err-read-2-clause-halted g c =
    let p = err_from_is_err_and c.from_residual-in_err-read-2.result c.from_residual-in_err-read-2.ensures.1 in
    rw (p.1, p.2, c.if-all.false) (c.in_err-read-2.ensures.halted, silent _ _)

pub returns-in_err-find_broken_rules-clause-halted : goal.returns-in_err-find_broken_rules-clause-halted
returns-in_err-find_broken_rules-clause-halted g c =
    let p = err_from_is_err_and c.from_residual-in_err-find_broken_rules.result c.from_residual-in_err-find_broken_rules.ensures.1 in
    let read = c.if-all.read in
    let both : AreAllRead (g.D.Documents.gives c.args.documents.now) c.args.cell.now (map string_bytes c.args.recipes.now) read.cell read.recipes =
    elim c.if-all.branch [
      | then-all+in_ok-read w ↦ rw w.read-is w.in_ok-read.ensures.read
      | else-all+in_ok-read-2 w ↦ rw w.read-is w.in_ok-read-2.ensures.read
    ] in
    let warned = c.warn.ensures _ both.holds.lines in
    rw (p.1, p.2, c.if-all-2.true) (broken_at _ (IsWarned c.args.quiet (g.E.Write.contents c.args.errors.now) (g.E.Write.contents c.warn.new.errors)) _ _ read.cell both.whole read.recipes.recipes.items c.in_err-find_broken_rules.field-0.0
    (record { cell_read = both.cell_read; recipes_read = both.recipes_read; warned = warned }) both.holds.trimmed (rw c.deref.ensures.value at c.in_err-find_broken_rules.ensures.broken))

pub returns-clause-read : goal.returns-clause-read
returns-clause-read g c =
    let read = c.if-all.read in
    let both : AreAllRead (g.D.Documents.gives c.args.documents.now) c.args.cell.now (map string_bytes c.args.recipes.now) read.cell read.recipes =
    elim c.if-all.branch [
      | then-all+in_ok-read w ↦ rw w.read-is w.in_ok-read.ensures.read
      | else-all+in_ok-read-2 w ↦ rw w.read-is w.in_ok-read-2.ensures.read
    ] in
    record {
      whole = both.whole;
      read = record { cell_read = both.cell_read; recipes_read = both.recipes_read; warned = c.warn.ensures _ both.holds.lines };
      trimmed = both.holds.trimmed;
      kept = elim c.if-all-2.branch [
        | then-all-2+in_ok-find_broken_rules w ↦ rw w.if-all-2.true (rw w.deref.ensures.value at w.in_ok-find_broken_rules.ensures.kept)
        | else-all-2 w ↦ rw w.if-all-2.false tt
      ];
    }
