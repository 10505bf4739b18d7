use Rattle.std.proofs.Common.{◌≡◌, ◌<◌, ◌≤◌, length, arith, sym, ap, ◌∙◌, eq-eqb}
use Rattle.std.proofs.lemmas.{Bool.ne_eqb, List.get_or_read, List.length-map}
use Rattle.batch_arbiter.{specs.declared.ends.Ends.Ends, specs.declared.entry.Entry.Entry, specs.Allocation.is_of_batch, specs.Linked.Lists, specs.Linked.at, specs.Linked.entry_claim, specs.Linked.ends_at, specs.Linked.list_at, specs.Linked.no_list, specs.Linked.nowhere, proofs.Calls.length-seen, proofs.ListWithdrawal.walked-first, proofs.ListWithdrawal.walked-within, proofs.ListWithdrawal.walked-gone, proofs.ListWithdrawal.walked-kept, proofs.ListWithdrawal.walked-through, proofs.ListWithdrawal.walked-enough}
use Rattle.batch_arbiter.proofs.pool.Pool.remove_behind.Goals as goal
use Rattle.batch_arbiter.proofs.pool.Pool.remove_behind.Goals.{After-index-ends, then-index-batch, else-index-batch}

known : (c : After-index-ends) → c.args.list < length c.self.inside.lists.items
known c = rw (← c.self.view_is, length-map) at c.requires.known

ends : (c : After-index-ends) → c.index-ends.result.now ≡ ends_at c.self.inside.lists.items c.args.list
ends c = get_or_read _ _ _ (known c) c.index-ends.ensures no_list

-- as many claims as the list has
long : (c : After-index-ends) → length (list_at c.args.self.now c.args.list) ≡ c.index-ends.result.now.len
long c =
    ap (λ (p : Lists). length (list_at p c.args.list)) (sym c.self.view_is)
    ∙ length-seen c.self.inside.entries.items c.self.inside.lists.items c.args.list (known c)
    ∙ ap (λ (l : Ends). l.len) (sym (ends c))

pub loop-init : goal.loop-init
loop-init c =
    let w = (goal.at.loop-init c).After-index-ends in
    rw (ends w) (walked-first c.args.self.now c.args.list c.args.batch c.args.most _ _ _ _ c.self.invariant (known w) c.self.view_is c.requires.some)

pub returns-then-left-eq0 : goal.returns-then-left-eq0
returns-then-left-eq0 c = walked-enough _ _ _ _ _ _ _ _ _ _ _ c.loop.invariant c.if-left-eq0.true c.requires.most

pub returns : goal.returns
returns c =
    let all : length (list_at c.args.self.now c.args.list) ≤ c.loop.counter = omega (arith, long (goal.at.returns c).After-index-ends, c.loop-test.false) in
    walked-through _ _ _ _ _ _ _ _ _ _ _ c.loop.invariant all

pub index-requires : goal.index-requires
index-requires c =
    let lt : c.loop.counter < length (list_at c.args.self.now c.args.list) = omega (arith, long (goal.at.index-requires c).After-index-ends, c.loop-test.true) in
    omega (arith, (walked-within _ _ _ _ _ _ _ _ _ _ _ c.loop.invariant lt).0, c.loop.self-inside.entries.ok.0)

pub index-requires-in-loop : goal.index-requires-in-loop
index-requires-in-loop c =
    let lt : c.loop.counter < length (list_at c.args.self.now c.args.list) = omega (arith, long (goal.at.index-requires-in-loop c).After-index-ends, c.loop-test.true) in
    let within = walked-within _ _ _ _ _ _ _ _ _ _ _ c.loop.invariant lt in
    let here : c.index.result.now ≡ at c.loop.self-inside.entries.items c.loop.before = get_or_read _ _ _ within.0 c.index.ensures nowhere in
    rw here (omega (arith, within.1, c.loop.self-inside.entries.ok.0))

pub unlink-self-inside-requires-clause-known : goal.unlink-self-inside-requires-clause-known
unlink-self-inside-requires-clause-known c =
    let lt : c.loop.counter < length (list_at c.args.self.now c.args.list) = omega (arith, long (goal.at.unlink-self-inside-requires-clause-known c).After-index-ends, c.loop-test.true) in
    (walked-within _ _ _ _ _ _ _ _ _ _ _ c.loop.invariant lt).0

pub unlink-self-inside-requires-clause-next : goal.unlink-self-inside-requires-clause-next
unlink-self-inside-requires-clause-next c =
    let lt : c.loop.counter < length (list_at c.args.self.now c.args.list) = omega (arith, long (goal.at.unlink-self-inside-requires-clause-next c).After-index-ends, c.loop-test.true) in
    (walked-within _ _ _ _ _ _ _ _ _ _ _ c.loop.invariant lt).1

pub overflow_sub-index_mut : goal.overflow_sub-index_mut
overflow_sub-index_mut c =
    let lt : c.loop.counter < length (list_at c.args.self.now c.args.list) = omega (arith, long (goal.at.overflow_sub-index_mut c).After-index-ends, c.loop-test.true) in
    let own : c.index_mut.result.now ≡ ends_at c.loop.self-inside.lists.items c.args.list = get_or_read _ _ _ c.loop.invariant.known c.index_mut.ensures.value no_list in
    rw own (omega (arith, (walked-within _ _ _ _ _ _ _ _ _ _ _ c.loop.invariant lt).2))

pub loop-preserved : goal.loop-preserved
loop-preserved c =
    let lt : c.loop.counter < length (list_at c.args.self.now c.args.list) = omega (arith, long (goal.at.loop-preserved c).After-index-ends, c.loop-test.true) in
    let within = walked-within _ _ _ _ _ _ _ _ _ _ _ c.loop.invariant lt in
    let here : c.index.result.now ≡ at c.loop.self-inside.entries.items c.loop.before = get_or_read _ _ _ within.0 c.index.ensures nowhere in
    let inside : c.index.result.now.next < length c.loop.self-inside.entries.items = rw here within.1 in
    let next : c.index-in-loop.result.now ≡ at c.loop.self-inside.entries.items c.index.result.now.next = get_or_read _ _ _ inside c.index-in-loop.ensures nowhere in
    let claim : is_of_batch c.args.batch (entry_claim (at c.loop.self-inside.entries.items (at c.loop.self-inside.entries.items c.loop.before).next)) ≡ is_of_batch c.args.batch (entry_claim c.index-in-loop.result.now) =
    ap (λ (e : Entry). is_of_batch c.args.batch (entry_claim (at c.loop.self-inside.entries.items e.next))) (sym here) ∙ ap (λ (e : Entry). is_of_batch c.args.batch (entry_claim e)) (sym next) in
    elim c.if-index-batch.branch [
      | then-index-batch w ↦
          let own : w.index_mut.result.now ≡ ends_at c.loop.self-inside.lists.items c.args.list = get_or_read _ _ _ c.loop.invariant.known w.index_mut.ensures.value no_list in
          rw (w.before-is, w.left-is, w.self-inside-is, w.unlink-self-inside.ensures.after, w.unlink-self-inside.ensures.value, own)
          (walked-gone _ _ _ _ _ _ _ _ _ _ _ c.loop.invariant lt (claim ∙ eq-eqb _ _ w.if-index-batch.true) (omega (arith, c.if-left-eq0.false)))
      | else-index-batch w ↦
          rw (w.before-is, w.left-is, w.self-inside-is, here)
          (walked-kept _ _ _ _ _ _ _ _ _ _ _ c.loop.invariant lt (claim ∙ ne_eqb _ _ w.if-index-batch.false))
    ]
