use Rattle.std.proofs.Common.{◌≡◌, length, get_or, sym, ap, ◌∙◌, arith}
use Rattle.std.proofs.Math.{Seq.set-append_seam, Seq.get_or-append_seam, ListN.set}
use Rattle.batch_recipe.specs.{Growing.entry, declared.entry.Entry.Entry}
use Rattle.batch_recipe.proofs.growing.finish.Goals as goal

pub returns : goal.returns
returns c = λ front below k m u i is at.
    let x = entry k m u i in
    let size : c.len-end.result ≡ length c.args.nodes.now.items = omega (arith, c.len-end.ensures) in
    let number : c.from.result ≡ length front = c.from.ensures ∙ sym at in
    let read : c.index_mut.result.now ≡ x =
    c.index_mut.ensures.value ∙ (ap (λ n. get_or c.args.nodes.now.items n c.index_mut.result.now) number
    ∙ (ap (λ xs. get_or xs (length front) c.index_mut.result.now) is ∙ get_or-append_seam front x below c.index_mut.result.now)) in
    let made : record { kind = c.index_mut.result.now.kind; end = c.len-end.result; parent = c.index_mut.result.now.parent; child = c.index_mut.result.now.child; needs = c.index_mut.result.now.needs; detail = c.index_mut.result.now.detail } ≡ entry k (length c.args.nodes.now.items) u i =
    ap (λ (y : Entry). record { kind = y.kind; end = c.len-end.result; parent = y.parent; child = y.child; needs = y.needs; detail = y.detail }) read ∙ ap (λ n. entry k n u i) size in
    ap (λ (y : Entry). set c.args.nodes.now.items c.from.result y) made ∙ (ap (λ n. set c.args.nodes.now.items n (entry k (length c.args.nodes.now.items) u i)) number
    ∙ (ap (λ xs. set xs (length front) (entry k (length c.args.nodes.now.items) u i)) is ∙ set-append_seam front x below (entry k (length c.args.nodes.now.items) u i)))
