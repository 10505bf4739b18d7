use Rattle.std.proofs.Common.{◌≡◌, ◌<◌, refl, sym, ◌∙◌, ap, ℕ, [], length, get_or, arith, Some, None, Option}
use Rattle.std.{specs.Prelude.slice_get, proofs.lemmas.Option.slice_get_read, proofs.lemmas.Option.get_or_from_slice_get, proofs.lemmas.List.length-set}
use Rattle.batch_recipe.specs.Conditions.{Name, value_of, value_or_0}
use Rattle.batch_engine.proofs.HandedValues.{or-zero, set-value, zip-values}
use Rattle.batch_engine.proofs.lines.values_of.Goals as goal

pub loop-index-preserved : goal.loop-index-preserved
loop-index-preserved c =
    let vs = c.args.values.now in
    let i : ℕ = c.loop-index.index in
    let name : Name = c.index-names-index.result in
    let small : i < length c.loop-index.handed = omega (arith, c.loop-index.invariant.0, c.requires, c.loop-index-test.true) in
    let at : slice_get c.args.names.now i ≡ Some name = slice_get_read c.args.names.now (length c.args.names.now) i name refl c.loop-index-test.true c.index-names-index.is in
    let read : c.value_from.result ≡ value_of vs (get_or c.args.names.now i []) = c.value_from.ensures ∙ ap (value_of vs) (sym (get_or_from_slice_get c.args.names.now i name [] at)) in
    let value : c.unwrap_or.result ≡ value_or_0 vs (get_or c.args.names.now i []) =
    c.unwrap_or.ensures ∙ or-zero c.value_from.result ∙ ap (λ (o : Option ℕ). let n : ℕ = elim o [ None ↦ 0 | Some n ↦ n ] in n) read in (
      length-set c.loop-index.handed i c.unwrap_or.result ∙ c.loop-index.invariant.0,
      set-value vs c.args.names.now c.loop-index.handed i c.unwrap_or.result small value c.loop-index.invariant.1,
    )

pub returns : goal.returns
returns c =
    zip-values c.args.values.now c.args.names.now c.loop-index.handed (omega (arith, c.loop-index.invariant.0, c.requires))
    (λ k l. c.loop-index.invariant.1 k (omega (arith, l, c.loop-index-test.false)))
