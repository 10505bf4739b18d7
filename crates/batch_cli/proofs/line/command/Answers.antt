use Rattle.std.proofs.Common.{◌∙◌, ap}
use Rattle.batch_cli.{specs.Table.with_arguments, proofs.BareCommands.with_texts, proofs.TableEntries.next_argument, proofs.TableEntries.or_false}
use Rattle.batch_cli.proofs.line.command.Goals as goal

pub loop-argument-init : goal.loop-argument-init
loop-argument-init c =
    let named = with_texts c.new.result c.about.result c.about.ensures c.after_help-command.ensures c.new.ensures.app c.new.ensures.local in
    record { app_is = ap (λ app. with_arguments app c.args.text.now.arguments.now) named.app_is; no_globals = named.no_globals }

pub loop-argument-preserved : goal.loop-argument-preserved
loop-argument-preserved c = record {
  app_is = next_argument c.args.text.now.arguments.now c.loop-argument.argument-index _ c.loop-argument-test.true c.in_ok-command.ensures c.to_arg.ensures.rule
      c.to_arg.ensures.local c.loop-argument.invariant.app_is;
  no_globals = c.in_ok-command.ensures.globals ∙ or_false _ _ c.to_arg.ensures.local ∙ c.loop-argument.invariant.no_globals;
}
