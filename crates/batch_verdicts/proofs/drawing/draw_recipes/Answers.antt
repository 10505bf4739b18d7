use Rattle.std.proofs.Common.{refl, string_bytes}
use Rattle.std.proofs.lemmas.Result.{err_from_is_err_and}
use Rattle.batch_check.specs.declared.fault.CheckFault.TheVariants.{Memory}
use Rattle.batch_verdicts.specs.VerdictTexts.{fault_text}
use Rattle.batch_verdicts.proofs.drawing.draw_recipes.Goals as goal

pub returns-in_err-text-in-Err-clause-refused : goal.returns-in_err-text-in-Err-clause-refused
returns-in_err-text-in-Err-clause-refused c =
    let p = err_from_is_err_and c.from_residual-in_err-text-in-Err.result c.from_residual-in_err-text-in-Err.ensures.1 in
    rw (p.1, p.2) (Memory, fault_text c.args.cell.now c.args.recipes.now Memory, tt, refl, tt)

pub returns-clause-refused : goal.returns-clause-refused
returns-clause-refused c =
    let text = string_bytes c.in_ok-text-in-Err.text in
    (c.in-Err.fault, text, c.in-Err.ensures.first, c.in_ok-text-in-Err.ensures, c.fault_halt.ensures text refl)
