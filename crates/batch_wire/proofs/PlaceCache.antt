-- Places that stay known while the text of another one is put behind them.
use Rattle.std.proofs.Common.{◌≡◌, ◌⊎◌, inl, inr, ℕ, ◌<◌, ◌≤◌, List, ◌++◌, length, take, drop, codes, decimal, Option, None, Some, ◌-◌, append_assoc, get_or, sym, ap, ◌∙◌, subst, arith, take-take, length-take-le, get_or-set_same, get_or-set_other}
use Rattle.std.{proofs.Math.Nat.eq-or-lt_of_le, proofs.lemmas.List.take-append-le, proofs.lemmas.List.drop-append-le, proofs.lemmas.List.drop-take, proofs.lemmas.List.length-append, proofs.lemmas.List.length-take, proofs.lemmas.List.length-drop, proofs.lemmas.List.take-append-drop, proofs.Math.Seq.drop-append-add, proofs.Math.Seq.drop-append_seam, proofs.Math.Seq.take-append_seam, specs.Prelude.IfSome}
use Rattle.batch_wire.specs.{declared.recipe_places.Known.Known, declared.recipe_places.RecipePlaces.RecipePlaces, Known.known_at, Known.AreKnownBy, Known.EndsAt, Known.HoldsBatch, Known.IsCutBack, Known.IsAdded, Known.IsAddedIfRoom}

-- the text before a text that was put is unchanged
pub same_before : (old new more : List ℕ) (at end e : ℕ) → take end new ≡ take at old ++ more → e ≤ at → at ≤ end → at ≤ length old → take e new ≡ take e old
same_before old new more at end e put before after within =
    sym (take-take e end new (omega (arith, before, after)))
    ∙ ap (take e) put
    ∙ take-append-le e (take at old) more (omega (arith, before, length-take-le at old within))
    ∙ take-take e at old before

same_batch : (b c : Option ℕ) (s r : ℕ) (old new : List ℕ) → HoldsBatch b s old → c ≡ b → r ≡ s → take 24 new ≡ take 24 old → take 23 new ≡ take 23 old → HoldsBatch c r new
same_batch b c s r old new h batch start space digits = record {
  space = ap (drop 23) space ∙ h.space;
  digits = λ n is.
      let was = h.digits n (sym batch ∙ is) in (
        omega (arith, start, was.0),
        ap (drop r) digits ∙ ap (λ k. drop k (take 23 old)) start ∙ was.1,
      );
}

-- the text up to an end, parted at a place in between
parted_at : (s m e : ℕ) (text : List ℕ) → s ≤ m → m ≤ e → m ≤ length text → drop s (take e text) ≡ drop s (take m text) ++ drop m (take e text)
parted_at s m e text before after within =
    ap (drop s) (sym (take-append-drop m (take e text)) ∙ ap (λ t. t ++ drop m (take e text)) (take-take m e text after))
    ∙ drop-append-le s (take m text) (drop m (take e text)) (omega (arith, before, length-take-le m text within))

pub drop_of_take : (m e : ℕ) (text : List ℕ) → m ≤ e → drop m (take e text) ≡ take (e - m) (drop m text)
drop_of_take m e text le = ap (λ j. drop m (take j text)) (omega (arith, le)) ∙ drop-take m (e - m) text

-- digits were put in front of the byte 23
module _ (old new digits : List ℕ) (start : ℕ) (before : start ≤ 23) (room : 24 ≤ length old) (count : length new ≡ length old) (put : drop start new ≡ digits ++ drop 23 old) where
  abbrev front : List ℕ
  front = take start new ++ digits

  parted : new ≡ front ++ drop 23 old
  parted = sym (take-append-drop start new) ∙ ap (λ t. take start new ++ t) put ∙ sym (append_assoc (take start new) digits (drop 23 old))

  size : length front ≡ 23
  size = omega (arith, ap (λ (t : List ℕ). length t) parted, length-append front (drop 23 old), length-drop 23 old, count, room)

  same_drop : (m : ℕ) → 23 ≤ m → drop m new ≡ drop m old
  same_drop m le =
      ap (drop m) parted
      ∙ ap (λ j. drop j (front ++ drop 23 old)) (omega (arith, size, le))
      ∙ drop-append-add front (drop 23 old) (m - 23)
      ∙ sym (
      ap (drop m) (sym (take-append-drop 23 old))
      ∙ ap (λ j. drop j (take 23 old ++ drop 23 old)) (omega (arith, le, length-take-le 23 old (omega (arith, room))))
      ∙ drop-append-add (take 23 old) (drop 23 old) (m - 23)
      )

  same_from : (m e : ℕ) → 23 ≤ m → m ≤ e → drop m (take e new) ≡ drop m (take e old)
  same_from m e from le = drop_of_take m e new le ∙ ap (take (e - m)) (same_drop m from) ∙ sym (drop_of_take m e old le)

  digits_put : drop start (take 23 new) ≡ digits
  digits_put =
      ap (λ t. drop start (take 23 t)) parted
      ∙ ap (λ j. drop start (take j (front ++ drop 23 old))) (sym size)
      ∙ ap (drop start) (take-append_seam front (drop 23 old))
      ∙ ap (λ j. drop j front) (sym (length-take-le start new (omega (arith, before, count, room))))
      ∙ drop-append_seam (take start new) digits

module _ (text_of : ℕ → List ℕ) where
  -- the batch, a space and the place
  batch_and_place : (k : RecipePlaces) (n end : ℕ) (text : List ℕ) → AreKnownBy text_of k → k.batch ≡ Some n → EndsAt text end k
      → (k.start ≤ end) × (end ≤ 408) × (drop k.start (take end k.text) ≡ decimal n ++ (codes " " ++ text))
  batch_and_place k n end text h is ends =
      let digits = h.batch.digits n is in
      let some : 24 ≤ length k.text = omega (arith, ap (λ (t : List ℕ). length t) h.batch.space, length-drop 23 (take 24 k.text), length-take 24 k.text) in
      let from : 24 ≤ end = ends.from in (
        omega (arith, digits.0, from),
        ends.within,
        parted_at k.start 23 end k.text digits.0 (omega (arith, from)) (omega (arith, some))
            ∙ ap (λ t. drop k.start (take 23 k.text) ++ t) (parted_at 23 24 end k.text (omega arith) from some ∙ ap (λ t. t ++ drop 24 (take end k.text)) h.batch.space ∙ ap (λ t. codes " " ++ t) ends.told)
            ∙ ap (λ t. t ++ (codes " " ++ text)) digits.1,
      )

  -- the digits of another batch were put in front
  pub batch_held : (k : RecipePlaces) (n start : ℕ) (new : List ℕ) → AreKnownBy text_of k → start ≤ 23 → length new ≡ length k.text → drop start new ≡ decimal n ++ drop 23 k.text
      → AreKnownBy text_of (record k { batch = Some n; start = start; text = new })
  batch_held k n start new h before count put =
      let room : 24 ≤ length k.text = omega (arith, ap (λ (t : List ℕ). length t) h.batch.space, length-drop 23 (take 24 k.text), length-take 24 k.text) in
      record {
        batch = record {
          space = same_from k.text new (decimal n) start before room count put 23 24 (omega arith) (omega arith) ∙ h.batch.space;
          digits = λ m is.
              let same : n ≡ m = some_same n m is in
              (before, digits_put k.text new (decimal n) start before room count put ∙ ap decimal same);
        };
        few = h.few;
        rise = h.rise;
        fit = h.fit;
        told = λ i lt. same_from k.text new (decimal n) start before room count put 24 (known_at k i).end (omega arith) (h.fit i lt).0 ∙ h.told i lt;
      }
    where
      some_same : (n m : ℕ) → ◌≡◌ {A = Option ℕ} (Some n) (Some m) → n ≡ m
      some_same n m e = cc

  -- if a text ends there, its batch is in front of it
  pub found_with : (k : RecipePlaces) (n : ℕ) (text : List ℕ) (o : Option ℕ) → AreKnownBy text_of k → k.batch ≡ Some n → IfSome o (λ end. EndsAt text end k)
      → IfSome o (λ end. (k.start ≤ end) × (end ≤ 408) × (drop k.start (take end k.text) ≡ decimal n ++ (codes " " ++ text)))
  found_with k n text None h is ends = tt
  found_with k n text (Some end) h is ends = batch_and_place k n end text h is ends

  pub still_known : (old new : RecipePlaces) → AreKnownBy text_of old → IsCutBack old new → AreKnownBy text_of new
  still_known old new h cut =
      let same : (i : ℕ) → known_at old i ≡ known_at new i = λ i. ap (λ path. get_or path i (record { node = 0; end = 0 })) (sym cut.path) in
      record {
        batch = same_batch old.batch new.batch old.start new.start old.text new.text h.batch cut.batch cut.start (ap (take 24) cut.text) (ap (take 23) cut.text);
        few = omega (arith, h.few, cut.fewer);
        rise = λ i j le lt. subst (λ (a : Known). a.end ≤ (known_at new j).end) (same i) (subst (λ (b : Known). (known_at old i).end ≤ b.end) (same j) (h.rise i j le (omega (arith, lt, cut.fewer))));
        fit = λ i lt. subst (λ (a : Known). (24 ≤ a.end) × (a.end ≤ 408)) (same i) (h.fit i (omega (arith, lt, cut.fewer)));
        told = λ i lt. subst (λ (a : Known). drop 24 (take a.end new.text) ≡ text_of a.node) (same i)
            (subst (λ (text : List ℕ). drop 24 (take (known_at old i).end text) ≡ text_of (known_at old i).node) (sym cut.text) (h.told i (omega (arith, lt, cut.fewer))));
      }

  -- another text is put after the known ones
  pub known_before : (old new : RecipePlaces) (more : List ℕ) (at end : ℕ) → AreKnownBy text_of old → ((i : ℕ) → i < old.depth → (known_at old i).end ≤ at)
      → take end new.text ≡ take at old.text ++ more → 24 ≤ at → at ≤ end → at ≤ length old.text → new.path ≡ old.path → new.depth ≡ old.depth
      → new.batch ≡ old.batch → new.start ≡ old.start → AreKnownBy text_of new
  known_before old new more at end h below put from after within path depth batch start =
      let same : (i : ℕ) → known_at old i ≡ known_at new i = λ i. ap (λ p. get_or p i (record { node = 0; end = 0 })) (sym path) in
      record {
        batch = same_batch old.batch new.batch old.start new.start old.text new.text h.batch batch start
            (same_before old.text new.text more at end 24 put from after within) (same_before old.text new.text more at end 23 put (omega (arith, from)) after within);
        few = omega (arith, h.few, depth);
        rise = λ i j le lt. subst (λ (a : Known). a.end ≤ (known_at new j).end) (same i) (subst (λ (b : Known). (known_at old i).end ≤ b.end) (same j) (h.rise i j le (omega (arith, lt, depth))));
        fit = λ i lt. subst (λ (a : Known). (24 ≤ a.end) × (a.end ≤ 408)) (same i) (h.fit i (omega (arith, lt, depth)));
        told = λ i lt. let was : i < old.depth = omega (arith, lt, depth) in
            subst (λ (a : Known). drop 24 (take a.end new.text) ≡ text_of a.node) (same i)
            (ap (drop 24) (same_before old.text new.text more at end (known_at old i).end put (below i was) after within) ∙ h.told i was);
      }

  -- a node whose text ends after the known ones is known with them
  pub known_with : (old new : RecipePlaces) (node end : ℕ) → AreKnownBy text_of old → EndsAt (text_of node) end old → IsAddedIfRoom node end old new
      → AreKnownBy text_of new × EndsAt (text_of node) end new
  known_with old new node end h is kept = go kept.path
    where
      last : Known
      last = record { node = node; end = end }

      go : ((new.depth ≡ old.depth) × (new.path ≡ old.path)) ⊎ IsAdded node end old new → AreKnownBy text_of new × EndsAt (text_of node) end new
      go (inl (depth, path)) =
          let cut : IsCutBack old new = record { fewer = omega (arith, depth); path = path; text = kept.text; batch = kept.batch; start = kept.start; recipe = kept.recipe } in
          let same : (i : ℕ) → known_at old i ≡ known_at new i = λ i. ap (λ p. get_or p i (record { node = 0; end = 0 })) (sym path) in (
            still_known old new h cut,
            record {
              from = is.from;
              within = is.within;
              last = λ i lt. subst (λ (a : Known). a.end ≤ end) (same i) (is.last i (omega (arith, lt, depth)));
              told = ap (λ t. drop 24 (take end t)) kept.text ∙ is.told;
            },
          )
      go (inr added) =
          let same : (i : ℕ) → i < old.depth → known_at old i ≡ known_at new i = λ i lt.
          sym (get_or-set_other old.path old.depth i last (record { node = 0; end = 0 }) (λ e. absurd (omega (arith, lt, e)))) ∙ ap (λ p. get_or p i (record { node = 0; end = 0 })) (sym added.path) in
          let top : last ≡ known_at new old.depth =
          sym (get_or-set_same old.path old.depth last (record { node = 0; end = 0 }) (omega (arith, added.room, added.all))) ∙ ap (λ p. get_or p old.depth (record { node = 0; end = 0 })) (sym added.path) in
          let parts : (i : ℕ) → i < new.depth → (i ≡ old.depth) ⊎ (i < old.depth) = λ i lt. eq-or-lt_of_le (omega (arith, lt, added.deeper)) in
          let ends : (i : ℕ) → i < new.depth → (known_at new i).end ≤ end = λ i lt. elim (parts i lt) [
            | inl e ↦ subst (λ (k : ℕ). (known_at new k).end ≤ end) (sym e) (subst (λ (a : Known). a.end ≤ end) top (omega arith))
            | inr less ↦ subst (λ (a : Known). a.end ≤ end) (same i less) (is.last i less)
          ] in (
            record {
              batch = same_batch old.batch new.batch old.start new.start old.text new.text h.batch kept.batch kept.start (ap (take 24) kept.text) (ap (take 23) kept.text);
              few = omega (arith, added.room, added.deeper);
              rise = λ i j le lt. elim (parts j lt) [
                | inl e ↦ subst (λ (k : ℕ). (known_at new i).end ≤ (known_at new k).end) (sym e) (subst (λ (a : Known). (known_at new i).end ≤ a.end) top (ends i (omega (arith, le, lt))))
                | inr less ↦
                    let lower : i < old.depth = omega (arith, le, less) in
                    subst (λ (a : Known). a.end ≤ (known_at new j).end) (same i lower) (subst (λ (b : Known). (known_at old i).end ≤ b.end) (same j less) (h.rise i j le less))
              ];
              fit = λ i lt. elim (parts i lt) [
                | inl e ↦ subst (λ (k : ℕ). (24 ≤ (known_at new k).end) × ((known_at new k).end ≤ 408)) (sym e)
                    (subst (λ (a : Known). (24 ≤ a.end) × (a.end ≤ 408)) top (is.from, is.within))
                | inr less ↦ subst (λ (a : Known). (24 ≤ a.end) × (a.end ≤ 408)) (same i less) (h.fit i less)
              ];
              told = λ i lt. elim (parts i lt) [
                | inl e ↦ subst (λ (k : ℕ). drop 24 (take (known_at new k).end new.text) ≡ text_of (known_at new k).node) (sym e)
                    (subst (λ (a : Known). drop 24 (take a.end new.text) ≡ text_of a.node) top (ap (λ t. drop 24 (take end t)) kept.text ∙ is.told))
                | inr less ↦ subst (λ (a : Known). drop 24 (take a.end new.text) ≡ text_of a.node) (same i less) (ap (λ t. drop 24 (take (known_at old i).end t)) kept.text ∙ h.told i less)
              ];
            },
            record { from = is.from; within = is.within; last = ends; told = ap (λ t. drop 24 (take end t)) kept.text ∙ is.told },
          )

  -- a text that is put after the known ones is that of a node
  pub known_further : (old put new : RecipePlaces) (more : List ℕ) (at end node : ℕ) → AreKnownBy text_of old → ((i : ℕ) → i < old.depth → (known_at old i).end ≤ at)
      → take end put.text ≡ take at old.text ++ more → drop 24 (take at old.text) ++ more ≡ text_of node → 24 ≤ at → at ≤ end → end ≤ 408 → at ≤ length old.text
      → put.path ≡ old.path → put.depth ≡ old.depth → put.batch ≡ old.batch → put.start ≡ old.start → IsAddedIfRoom node end put new → AreKnownBy text_of new × EndsAt (text_of node) end new
  known_further old put new more at end node h below text is from after within long path depth batch start kept =
      known_with put new node end (known_before old put more at end h below text from after long path depth batch start)
      (record {
        from = omega (arith, from, after);
        within = within;
        last = λ i lt. omega (arith, after, subst (λ (p : List Known). (get_or p i (record { node = 0; end = 0 })).end ≤ at) (sym path) (below i (omega (arith, lt, depth))));
        told = ap (drop 24) text ∙ drop-append-le 24 (take at old.text) more (omega (arith, from, length-take-le at old.text long)) ∙ is;
      })
      kept
