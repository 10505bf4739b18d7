use Rattle.std.proofs.Common.{◌∙◌, ap, codes, unwrap_or, []}
use Rattle.std.specs.Str.{bytes_eq}
use Rattle.clap.{specs.Words.found_of, specs.Walk.Text, proofs.WalkLemmas.first_value-rows}
use Rattle.batch_cli.proofs.words.flag.Goals as goal

pub returns-in-Some : goal.returns-in-Some
returns-in-Some c =
    let given = c.in-Some.ensures ∙ first_value-rows (found_of c.args.words.now) c.args.name.now in
    c.eq.ensures ∙ ap (λ found. bytes_eq (unwrap_or {T = Text} found []) (codes "true")) given

pub returns-in-None : goal.returns-in-None
returns-in-None c =
    let given = c.in-None.ensures ∙ first_value-rows (found_of c.args.words.now) c.args.name.now in
    ap (λ found. bytes_eq (unwrap_or {T = Text} found []) (codes "true")) given
