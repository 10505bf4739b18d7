use Rattle.std.proofs.Common.{ap, ◌∙◌, Some}
use Rattle.clap.{specs.Words.found_of, proofs.WalkLemmas.first_value-rows}
use Rattle.batch_cli.proofs.words.optional.Goals as goal

pub returns-in_ok-from_str-in-Some : goal.returns-in_ok-from_str-in-Some
returns-in_ok-from_str-in-Some c =
    let given = c.in-Some.ensures ∙ first_value-rows (found_of c.args.words.now) c.args.name.now in
    ap Some c.in_ok-from_str-in-Some.ensures.ok ∙ given

pub returns-in-None : goal.returns-in-None
returns-in-None c = c.in-None.ensures ∙ first_value-rows (found_of c.args.words.now) c.args.name.now
