use Rattle.std.proofs.Common.{ap, ◌∙◌, true}
use Rattle.std.proofs.lemmas.Result.{IfOk-weaker}
use Rattle.clap.specs.Simple.{App, app_of_fields, on_top}
use Rattle.batch_cli.proofs.line.bare.Goals as goal

pub returns : goal.returns
returns c =
    let shown = ap app_of_fields c.after_help.ensures ∙ ap app_of_fields c.about.ensures ∙ c.new.ensures.app in
    let named = ap app_of_fields c.version.ensures ∙ ap {A = App} (on_top (λ s. record s { has_version = true })) shown in
    let bare = ap app_of_fields c.no_binary_name.ensures ∙ ap {A = App} (on_top (λ s. record s { no_binary_name = true })) named in
    IfOk-weaker c.bin_name.result _ _ (λ program has. ap app_of_fields has.0 ∙ bare) c.bin_name.ensures
