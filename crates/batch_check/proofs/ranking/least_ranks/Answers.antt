use Rattle.std.proofs.Common.{◌≡◌, ◌+◌, ◌≤◌, length, ap, ◌∙◌, arith, subst}
use Rattle.batch_check.proofs.RaiseRounds.{Rounds, Rounds-more, written, IsLeastRanking-still, IsLeastRanking-all}
use Rattle.batch_check.proofs.ranking.least_ranks.Goals as goal

pub loop-round-preserved : goal.loop-round-preserved
loop-round-preserved c =
    let ranks_length : length c.raise_all.new.ranks ≡ c.loop-round.ranks.len = c.raise_all.auto.ranks ∙ c.deref_mut.ensures.len in
    let causes_length : length c.raise_all.new.causes ≡ c.loop-round.causes.len = c.raise_all.auto.causes ∙ c.deref_mut-in-loop-round.ensures.len in
    rw (
      written c.loop-round.ranks.len c.raise_all.new.ranks c.loop-round.ranks.items ranks_length,
      written c.loop-round.causes.len c.raise_all.new.causes c.loop-round.causes.items causes_length,
    )
    (Rounds-more c.args.count c.args.edges.now c.loop-round.ranks.items c.raise_all.new.ranks c.loop-round.causes.items c.raise_all.new.causes (c.loop-round.round + 1)
    c.loop-round.invariant (c.raise_all.auto.ranks ∙ ap length c.deref_mut.ensures.value) c.raise_all.ensures.progress
    (λ k h. c.in-Raised.ensures.round k (rw c.deref_mut.ensures.value h)))

pub returns : goal.returns
returns c =
    let end : c.loop-round.round ≤ c.args.count = c.loop-round.auto.round-end in
    let all : c.loop-round.round ≡ c.args.count = omega (arith, end, c.loop-round-test.false) in
    IsLeastRanking-all c.args.count c.args.edges.now c.loop-round.ranks.items c.loop-round.causes.items c.requires
    (subst (λ n. Rounds c.args.count c.args.edges.now c.loop-round.ranks.items c.loop-round.causes.items (n + 1)) all c.loop-round.invariant)

pub returns-in-Still : goal.returns-in-Still
returns-in-Still c =
    let ranks_length : length c.raise_all.new.ranks ≡ c.loop-round.ranks.len = c.raise_all.auto.ranks ∙ c.deref_mut.ensures.len in
    rw (written c.loop-round.ranks.len c.raise_all.new.ranks c.loop-round.ranks.items ranks_length)
    (IsLeastRanking-still c.args.count c.args.edges.now c.raise_all.new.ranks c.raise_all.new.causes
    (c.raise_all.auto.ranks ∙ (ap length c.deref_mut.ensures.value ∙ c.loop-round.invariant.sized)) c.in-Still.ensures.progress c.in-Still.ensures.round)
