use Rattle.std.proofs.Common.{◌≡◌, drop, false}
use Rattle.clap.specs.{Simple.app_of, declared.builder.command.Command.TheViews.out-Command}
use Rattle.batch_cli.specs.Table.{text_app, with_arguments}
use Rattle.batch_cli.proofs.line.command.Given as goal

-- the command with the arguments that are left is the one of the text
abbrev pub invariant-loop-argument : goal.invariant-loop-argument
invariant-loop-argument l = record {
  app_is : with_arguments (app_of l.command) (drop l.argument-index l.text.arguments.now) ≡ text_app l.text;
  no_globals : (out-Command l.command).has_globals ≡ false;
}
