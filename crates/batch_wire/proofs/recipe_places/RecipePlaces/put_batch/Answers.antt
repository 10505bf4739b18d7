use Rattle.std.proofs.Common.{ℕ, List, drop, ◌++◌, ◌≡◌, decimal, sym, ◌∙◌, ap, subst, arith}
use Rattle.batch_wire.{specs.Known.AreKnownBy, proofs.PlaceCache.batch_held}
use Rattle.batch_wire.proofs.recipe_places.RecipePlaces.put_batch.Goals as goal

pub returns-in-Some-clause-known : goal.returns-in-Some-clause-known
returns-in-Some-clause-known c = λ text_of h.
    let put = c.in-Some.ensures.put in
    let number : c.as_bytes.result.now ≡ decimal c.args.batch = c.as_bytes.ensures.value ∙ c.format.ensures.text in
    batch_held text_of c.args.self.now c.args.batch c.in-Some.start c.put_piece.new.text h put.0 (omega (arith, c.put_piece.auto.text))
    (put.1 ∙ ap (λ t. t ++ drop 23 c.args.self.now.text) number)

pub returns-in-None-clause-known : goal.returns-in-None-clause-known
returns-in-None-clause-known c = λ text_of h.
    subst (λ (text : List ℕ). AreKnownBy text_of (record c.args.self.now { text = text })) (sym c.in-None.ensures.unchanged) h
