use Rattle.std.proofs.Common.{ap, rules, ◌∙◌}
use Rattle.clap.{specs.Words.found_of, proofs.WalkLemmas.first_value-rows}
use Rattle.batch_cli.{specs.CommandLine.number_given, proofs.Numbers.number_or, proofs.Numbers.number_or-within}
use Rattle.batch_cli.proofs.words.number.Goals as goal

pub returns-in-Some-clause-number : goal.returns-in-Some-clause-number
returns-in-Some-clause-number c =
    let given = c.in-Some.ensures ∙ first_value-rows (found_of c.args.words.now) c.args.name.now in
    c.unwrap_or.ensures ∙ number_or c.args.least c.args.most c.args.usual c.in-Some.text.now c.number_in.result c.number_in.ensures
    ∙ ap (number_given c.args.least c.args.most c.args.usual) given

pub returns-in-Some-clause-within : goal.returns-in-Some-clause-within
returns-in-Some-clause-within c =
    let within = number_or-within c.args.least c.args.most c.args.usual c.in-Some.text.now c.number_in.result (search rules) c.number_in.ensures in
    rw c.unwrap_or.ensures within

pub returns-in-None-clause-number : goal.returns-in-None-clause-number
returns-in-None-clause-number c =
    let given = c.in-None.ensures ∙ first_value-rows (found_of c.args.words.now) c.args.name.now in
    ap (number_given c.args.least c.args.most c.args.usual) given
