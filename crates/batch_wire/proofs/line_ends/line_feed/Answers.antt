use Rattle.std.proofs.Common.{◌<◌, ℕ, false, List, Option, None, Some, take, get_or, ◌∙◌, ap, eqb, arith}
use Rattle.std.{specs.Prelude.◌≡◌, specs.Prelude.MatchOption, proofs.lemmas.Bool.eqb-true, proofs.lemmas.Bool.false_from_ne_true, proofs.lemmas.List.get_or-take, proofs.lemmas.List.length-take, proofs.lemmas.List.Elements.All-from_get_or}
use Rattle.memchr.specs.Find.{IsFirstByte, is_byte}
use Rattle.batch_wire.specs.LineEnds.{EndsLine, HasNoFeed}
use Rattle.batch_wire.proofs.line_ends.line_feed.Goals as goal

feed-at : (bytes : List ℕ) (o : Option ℕ) → IsFirstByte (is_byte 10) bytes o → MatchOption o (HasNoFeed bytes) (λ at. EndsLine at bytes)
feed-at bytes None first = All-from_get_or (λ b. eqb b 10 ≡ false) bytes 0 (λ i l. false_from_ne_true (eqb (get_or bytes i 0) 10) (first i (omega arith) l))
feed-at bytes (Some at) first = record {
  within = first.0.high;
  feed = eqb-true (get_or bytes at 0) 10 first.1;
  before = All-from_get_or (λ b. eqb b 10 ≡ false) (take at bytes) 0 (λ i l.
      let below : i < at = omega (arith, l, length-take at bytes) in
      ap (λ b. eqb b 10) (get_or-take at bytes i 0 below) ∙ false_from_ne_true (eqb (get_or bytes i 0) 10) (first.0.before i (omega arith) below));
}

pub returns : goal.returns
returns c = feed-at c.args.bytes.now c.memchr.result c.memchr.ensures
