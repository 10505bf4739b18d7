use Rattle.std.proofs.Common.{◌≡◌, ◌<◌, ◌+◌, ◌^◌, ◌++◌, ◌∷◌, [], ℕ, List, length, arith, sym, ap, ◌∙◌, subst, refl}
use Rattle.std.{specs.Prelude.vec_len, specs.Prelude.vec_capacity, proofs.lemmas.List.length_push}
use Rattle.batch_arbiter.{specs.declared.entry.Entry.Entry, specs.Linked.IsGrown, proofs.Pushes.pushed_ok, proofs.PoolGrowth.IsGrown-more}
use Rattle.batch_arbiter.proofs.pool.add_free.Goals as goal

pub loop-preserved : goal.loop-preserved
loop-preserved c =
    let free : vec_len c.loop.entries < vec_capacity c.loop.entries = omega (arith, c.loop.invariant.1, c.loop.invariant.2, c.requires.fits, c.loop-test.true) in
    let items : c.push.new.self.items ≡ c.loop.entries.items ++ (record { batch = 0; units = 0; next = c.loop.first; node = 0 }) ∷ [] = pushed_ok c.push.result _ _ _ (c.push.ensures.succeeds free) c.push.ensures.items in
    let few : length c.loop.entries.items < 2 ^ 32 = omega (arith, c.loop.entries.ok.0, c.loop.invariant.1, c.requires.numbered, c.loop-test.true) in
    let more : IsGrown c.args.entries.now.items c.args.free (c.loop.entries.items ++ (record { batch = 0; units = 0; next = c.loop.first; node = 0 }) ∷ []) (length c.loop.entries.items) (c.loop.counter + 1) =
    IsGrown-more c.args.entries.now.items c.loop.entries.items c.args.free c.loop.first c.loop.counter (record { batch = 0; units = 0; next = c.loop.first; node = 0 }) refl few c.loop.invariant.0 in
    let at : length c.loop.entries.items ≡ c.len-first.result = sym (c.len-first.ensures ∙ c.loop.entries.ok.0) in
    let there : IsGrown c.args.entries.now.items c.args.free c.push.new.self.items c.len-first.result (c.loop.counter + 1) =
    subst (λ (es : List Entry). IsGrown c.args.entries.now.items c.args.free es c.len-first.result (c.loop.counter + 1)) (sym items)
    (subst (λ (x : ℕ). IsGrown c.args.entries.now.items c.args.free (c.loop.entries.items ++ (record { batch = 0; units = 0; next = c.loop.first; node = 0 }) ∷ []) x (c.loop.counter + 1)) at more) in
    (there, omega (arith, c.push.new.self.ok.0, ap length items, length_push c.loop.entries.items (record { batch = 0; units = 0; next = c.loop.first; node = 0 }), c.loop.entries.ok.0, c.loop.invariant.1), omega (arith, c.push.ensures.capacity, c.loop.invariant.2))

pub returns : goal.returns
returns c =
    let all : c.loop.counter ≡ c.args.more = omega (arith, c.loop.auto.counter-end, c.loop-test.false) in
    subst (λ (x : ℕ). IsGrown c.args.entries.now.items c.args.free c.loop.entries.items c.loop.first x) all c.loop.invariant.0
