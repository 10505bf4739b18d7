-- One argument more of a table, and one command more.
use Rattle.std.proofs.Common.{◌≡◌, ℕ, ◌+◌, ◌<◌, ◌||◌, ◌∙◌, Bool, true, false, List, length, drop, get_or, ap, refl, sym}
use Rattle.std.proofs.lemmas.List.{drop_more}
use Rattle.clap.specs.{Built.AddsArg, Built.AddsSubcommand, Simple.App, Simple.app_of, Simple.with_rule, Simple.with_subcommand, Walk.rule_of, declared.builder.arg.Arg.Arg, declared.builder.command.Command.Command}
use Rattle.batch_cli.specs.{Table.HasApp, Table.argument_rule, Table.text_app, Table.with_arguments, Table.with_commands, declared.argument.Argument.Argument, declared.table.CommandText.CommandText}

pub or_false : (b other : Bool) → other ≡ false → (b || other) ≡ b
or_false true other is = refl
or_false false other is = is

pub next_argument : (arguments : List Argument) (i : ℕ) (argument : Argument) {old new : Command} {arg : Arg} {app : App} → i < length arguments
    → AddsArg old arg new → rule_of arg ≡ argument_rule (get_or arguments i argument) → arg.global ≡ false
    → with_arguments (app_of old) (drop i arguments) ≡ app → with_arguments (app_of new) (drop (i + 1) arguments) ≡ app
next_argument arguments i argument {old = old} below adds rule local all =
    ap (λ app. with_arguments app (drop (i + 1) arguments)) (adds.shape local ∙ ap (with_rule (app_of old)) rule)
    ∙ sym (ap (with_arguments (app_of old)) (drop_more arguments i argument below)) ∙ all

pub next_command : (texts : List CommandText) (i : ℕ) (text : CommandText) {old added new : Command} {app : App} → i < length texts
    → AddsSubcommand old added new → HasApp (text_app (get_or texts i text)) added
    → with_commands (app_of old) (drop i texts) ≡ app → with_commands (app_of new) (drop (i + 1) texts) ≡ app
next_command texts i text {old = old} below adds has all =
    ap (λ app. with_commands app (drop (i + 1) texts)) (adds.shape has.no_globals ∙ ap {A = App} (λ sub. with_subcommand (app_of old) sub.top) has.app_is)
    ∙ sym (ap (with_commands (app_of old)) (drop_more texts i text below)) ∙ all
