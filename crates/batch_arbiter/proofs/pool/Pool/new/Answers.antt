use Rattle.std.proofs.Common.{◌≡◌, ◌<◌, ◌+◌, ◌^◌, arith, length, ap, ◌∙◌, []}
use Rattle.std.specs.Prelude.{replicate}
use Rattle.batch_arbiter.proofs.PoolGrowth.{AreLinkedLists-new, claims-new}
use Rattle.batch_arbiter.proofs.pool.Pool.new.Goals as goal

pub invariant_of-result : goal.invariant_of-result
invariant_of-result c =
    let entries : length c.loop-list.entries.items ≡ length c.loop-list.ends.items + 1 = omega (arith, c.loop-list.invariant.0, c.loop-list.invariant.1) in
    let few : length c.loop-list.ends.items < 2 ^ 31 = omega (arith, c.loop-list.invariant.1, c.loop-list.auto.list-end, c.requires) in
    AreLinkedLists-new _ _ entries few (λ k h. c.loop-list.invariant.2 k (omega (arith, h, c.loop-list.invariant.1)))

pub returns : goal.returns
returns c =
    let entries : length c.loop-list.entries.items ≡ length c.loop-list.ends.items + 1 = omega (arith, c.loop-list.invariant.0, c.loop-list.invariant.1) in
    let few : length c.loop-list.ends.items < 2 ^ 31 = omega (arith, c.loop-list.invariant.1, c.loop-list.auto.list-end, c.requires) in
    let all : length c.loop-list.ends.items ≡ c.args.lists = omega (arith, c.loop-list.invariant.1, c.loop-list.auto.list-end, c.loop-list-test.false) in
    ap (λ ls. record { lists = ls; room = 0 }) (claims-new _ _ entries few (λ k h. c.loop-list.invariant.2 k (omega (arith, h, c.loop-list.invariant.1))) ∙ ap (λ n. replicate n []) all)
