use Rattle.std.proofs.Common.{◌∙◌, Some, ap, sym, get_or, take}
use Rattle.std.proofs.lemmas.List.{take_more}
use Rattle.batch_verify.{specs.Trials.better, specs.Trials.extreme, specs.Trials.rank_at, proofs.Extremes.one_more}
use Rattle.batch_verify.proofs.trial.extreme_of.Goals as goal

pub loop-candidate-preserved : goal.loop-candidate-preserved
loop-candidate-preserved c =
    let rank = rank_at c.args.ranks.now in
    let b = c.args.is_greatest in
    let all = c.args.candidates.now in
    let i = c.loop-candidate.candidate-index in
    let one = get_or all i 0 in
    ap Some (c.better.ensures ∙ ap (λ best. better rank b best one) c.loop-candidate.invariant) ∙ sym (ap (extreme rank b) (take_more all i 0 c.loop-candidate-test.true) ∙ one_more rank b (take i all) one)
