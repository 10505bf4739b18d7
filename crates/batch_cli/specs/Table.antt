-- private: commands and arguments of a table, as `clap` reads them.
use Rattle.std.specs.Prelude.{◌≡◌, List, [], ◌∷◌, false}
use Rattle.clap.specs.Walk.{Rule, Text}
use Rattle.clap.specs.Simple.{App, app_of, new_app, with_rule, with_subcommand}
use Rattle.clap.specs.declared.builder.command.Command.{Command}
use Rattle.clap.specs.declared.builder.command.Command.TheViews.{out-Command}
use Rattle.batch_cli.specs.CommandLine.{flag_rule, number_rule, optional_rule, path_rule, several_rule, word_rule}
use Rattle.batch_cli.specs.declared.argument.Argument.{Argument}
use Rattle.batch_cli.specs.declared.argument.Form.{Form}
use Rattle.batch_cli.specs.declared.argument.Form.TheVariants.{Word, Optional, Several, Flag, Path, Number}
use Rattle.batch_cli.specs.declared.table.CommandText.{CommandText}

-- the rule of an argument with this name
abbrev pub rule_by : Text → Form → Rule
rule_by name Word = word_rule name
rule_by name Optional = optional_rule name
rule_by name Several = several_rule name
rule_by name Flag = flag_rule name
rule_by name Path = path_rule name
rule_by name (Number least most) = number_rule name least most

abbrev pub argument_rule : Argument → Rule
argument_rule argument = rule_by argument.0.now argument.1

-- a command with these arguments added
abbrev pub with_arguments : App → List Argument → App
with_arguments app [] = app
with_arguments app (argument ∷ more) = with_arguments (with_rule app (argument_rule argument)) more

abbrev pub text_app : CommandText → App
text_app text = with_arguments (new_app text.name.now) text.arguments.now

-- a program with these commands added
abbrev pub with_commands : App → List CommandText → App
with_commands app [] = app
with_commands app (text ∷ more) = with_commands (with_subcommand app (text_app text).top) more

-- the command is read as this one, and none of its arguments is global
pub record HasApp (app : App) (command : Command) : Type 0 where
  pub app_is : app_of command ≡ app
  pub no_globals : (out-Command command).has_globals ≡ false
