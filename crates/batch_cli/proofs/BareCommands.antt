-- Bare commands, as a parse reads them.
use Rattle.std.proofs.Common.{◌≡◌, ◌∙◌, ap, false}
use Rattle.clap.specs.{Simple.App, Simple.app_of, Simple.app_of_fields, declared.builder.command.Command.Command, declared.builder.command.Command.TheViews.out-Command}
use Rattle.batch_cli.specs.Table.{HasApp}

-- a command's help texts have no effect on a parse
pub with_texts : (new about : Command) {made : Command} {shown after : _} {app : App} → out-Command about ≡ record (out-Command new) { about = shown }
    → out-Command made ≡ record (out-Command about) { after_help = after } → app_of new ≡ app → (out-Command new).has_globals ≡ false → HasApp app made
with_texts new about first then app_is no_globals = record {
  app_is = ap app_of_fields then ∙ ap app_of_fields first ∙ app_is;
  no_globals = ap (λ fields. fields.has_globals) then ∙ ap (λ fields. fields.has_globals) first ∙ no_globals;
}
