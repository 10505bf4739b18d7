use Rattle.std.proofs.Common.{◌++◌, codes, decimal, arith}
use Rattle.std.proofs.lemmas.Result.{err_from_is_err_and}
use Rattle.batch_wire.{specs.Pieces.text_of_place, proofs.PlaceParts.entry-read, proofs.PlaceParts.past-entries, proofs.PlaceParts.no-text, proofs.PlaceParts.root-text, proofs.PlaceParts.text-below, proofs.WrittenTexts.longer_text, proofs.WrittenTexts.then_last}
use Rattle.batch_wire.proofs.places.+write_place_in.Goals as goal

pub returns-in_default : goal.returns-in_default
returns-in_default g t c =
    rw (no-text c.args.recipe.now c.args.node (past-entries c.args.recipe.now _ _ _ c.from.ensures c.deref.ensures.value c.in_default.ensures.lookup.0)) c.write_all.ensures

pub returns-then-node-eq0 : goal.returns-then-node-eq0
returns-then-node-eq0 g t c =
    let is = entry-read c.args.recipe.now _ _ _ c.in-Some.entry.now c.from.ensures c.deref.ensures.value c.in-Some.ensures.lookup.0 c.in-Some.ensures.lookup.1 in
    rw (root-text c.args.recipe.now _ _ is c.if-node-eq0.true) c.write_number.ensures

pub write_place_in-requires : goal.write_place_in-requires
write_place_in-requires g t c =
    let is = entry-read c.args.recipe.now _ _ _ c.in-Some.entry.now c.from.ensures c.deref.ensures.value c.in-Some.ensures.lookup.0 c.in-Some.ensures.lookup.1 in
    let less = (text-below c.args.recipe.now _ _ is c.if-node-eq0.false).0 in
    λ κs q. (omega (arith, less, c.decreases), q)

pub returns-in_err-write_place_in : goal.returns-in_err-write_place_in
returns-in_err-write_place_in g t c =
    let is = entry-read c.args.recipe.now _ _ _ c.in-Some.entry.now c.from.ensures c.deref.ensures.value c.in-Some.ensures.lookup.0 c.in-Some.ensures.lookup.1 in
    let p = err_from_is_err_and c.from_residual.result c.from_residual.ensures.1 in
    rw (p.1, (text-below c.args.recipe.now _ _ is c.if-node-eq0.false).1)
    (longer_text _ _ _ (codes "." ++ decimal c.in-Some.entry.now.child) c.in_err-write_place_in.ensures)

pub returns : goal.returns
returns g t c =
    let is = entry-read c.args.recipe.now _ _ _ c.in-Some.entry.now c.from.ensures c.deref.ensures.value c.in-Some.ensures.lookup.0 c.in-Some.ensures.lookup.1 in
    rw (text-below c.args.recipe.now _ _ is c.if-node-eq0.false).1
    (then_last _ _ _ _ (text_of_place c.args.recipe.now c.in-Some.entry.now.parent) (codes "." ++ decimal c.in-Some.entry.now.child) c.in_ok-write_place_in.ensures c.write_step.ensures)
