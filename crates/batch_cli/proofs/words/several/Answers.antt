use Rattle.std.proofs.Common.{ap, ◌∙◌, unwrap_or, [], List, map, string_bytes}
use Rattle.std.proofs.lemmas.Result.{IfOk-weaker}
use Rattle.clap.{specs.Words.found_of, specs.Walk.Text, proofs.WalkLemmas.raw_values-rows}
use Rattle.batch_cli.proofs.words.several.Goals as goal

pub returns-in-Some : goal.returns-in-Some
returns-in-Some c =
    let given = c.in-Some.ensures ∙ raw_values-rows (found_of c.args.words.now) c.args.name.now in
    IfOk-weaker c.copies.result _ _ (λ paths copied. copied ∙ ap (λ found. unwrap_or {T = List Text} found []) given) c.copies.ensures

pub returns-in-None : goal.returns-in-None
returns-in-None c =
    let given = c.in-None.ensures ∙ raw_values-rows (found_of c.args.words.now) c.args.name.now in
    ap (map string_bytes) c.new.ensures.items ∙ ap (λ found. unwrap_or {T = List Text} found []) given
