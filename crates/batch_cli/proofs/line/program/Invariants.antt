use Rattle.std.proofs.Common.{◌≡◌, drop}
use Rattle.clap.specs.Simple.{app_of}
use Rattle.batch_cli.specs.{CommandLine.program_app, Table.with_commands}
use Rattle.batch_cli.proofs.line.program.Given as goal

-- the program with the commands that are left is the whole command line
abbrev pub invariant-loop-text : goal.invariant-loop-text
invariant-loop-text l = with_commands (app_of l.program) (drop l.text-index l.texts) ≡ program_app
