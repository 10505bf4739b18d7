use Rattle.std.proofs.Common.{◌∙◌, ap}
use Rattle.batch_cli.{specs.Table.with_commands, proofs.TableEntries.next_command}
use Rattle.batch_cli.proofs.line.program.Goals as goal

pub loop-text-init : goal.loop-text-init
loop-text-init c = ap (λ app. with_commands app c.commands-texts.result.now) c.in_ok-program.ensures ∙ c.commands-texts.ensures

pub loop-text-preserved : goal.loop-text-preserved
loop-text-preserved c =
    next_command c.commands-texts.result.now c.loop-text.text-index _ c.loop-text-test.true c.in_ok-program-2.ensures c.in_ok-added.ensures c.loop-text.invariant
