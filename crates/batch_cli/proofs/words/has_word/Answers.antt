use Rattle.std.proofs.Common.{ap, is_some, sym, ◌∙◌}
use Rattle.clap.{specs.Words.found_of, proofs.WalkLemmas.first_value-rows}
use Rattle.batch_cli.proofs.Faults.{some_mapped}
use Rattle.batch_cli.proofs.words.has_word.Goals as goal

pub returns : goal.returns
returns c =
    c.is_some.ensures ∙ sym (some_mapped (λ s. s.now) c.get_str.result)
    ∙ ap is_some (c.get_str.ensures ∙ first_value-rows (found_of c.args.words.now) c.args.name.now)
