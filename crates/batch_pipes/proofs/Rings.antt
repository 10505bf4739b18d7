-- Two ends of one ring, of which both may have moved on.
use Rattle.std.proofs.Common.{refl, sym, ◌∙◌}
use Rattle.rtrb.specs.{Ends.SameRing, Ring.SameProducer, declared.end.End.End, declared.producer.Producer.Producer}

module _ {T A P : Type 0} where
  ring_on : (a b d : End T A P) → SameRing a b → SameRing b d → SameRing a d
  ring_on a b d one other =
      let (w, s, n, h) = one in
      let (x, t, m, i) = other in
      (x ∙ w, t ∙ s, m ∙ n, i ∙ h)

  ring_back : (a b : End T A P) → SameRing a b → SameRing b a
  ring_back a b same =
      let (w, s, n, h) = same in
      (sym w, sym s, sym n, sym h)

  -- both ends may have moved on
  pub pair_on : (p q a b : End T A P) → SameRing p q → SameRing a b → SameRing p a → SameRing q b
  pair_on p q a b one other pair = ring_on q p b (ring_back p q one) (ring_on p a b pair other)

  pub same_ring : (a : End T A P) → SameRing a a
  same_ring a = (refl, refl, refl, refl)

  pub producer_on : (a b d : Producer T A P) → SameProducer a b → SameProducer b d → SameProducer a d
  producer_on a b d one other = (ring_on a.end b.end d.end one.0 other.0, other.1 ∙ one.1)
