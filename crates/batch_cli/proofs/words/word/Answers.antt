use Rattle.std.proofs.Common.{ap, ◌∙◌, unwrap_or, []}
use Rattle.std.proofs.lemmas.Result.{IfOk-weaker}
use Rattle.clap.{specs.Words.found_of, specs.Walk.Text, proofs.WalkLemmas.first_value-rows}
use Rattle.batch_cli.proofs.words.word.Goals as goal

pub returns-in-Some : goal.returns-in-Some
returns-in-Some c =
    let given = c.in-Some.ensures ∙ first_value-rows (found_of c.args.words.now) c.args.name.now in
    IfOk-weaker c.from_str.result _ _ (λ word copied. copied ∙ ap (λ found. unwrap_or {T = Text} found []) given) c.from_str.ensures.ok

pub returns-in-None : goal.returns-in-None
returns-in-None c =
    let given = c.in-None.ensures ∙ first_value-rows (found_of c.args.words.now) c.args.name.now in
    c.new.ensures.bytes ∙ ap (λ found. unwrap_or {T = Text} found []) given
