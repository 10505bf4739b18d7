-- The text that a writer which holds back passes on.
use Rattle.std.proofs.Common.{◌≡◌, ◌⊎◌, ℕ, ◌+◌, ◌-◌, ◌≤◌, true, List, [], ◌∷◌, ◌++◌, length, take, drop, take-append-drop, Option, Some, None, option_map, codes, refl, sym, ◌∙◌, ap, subst, append_assoc, inl, inr, ⊎_elim, arith}
use Rattle.std.{proofs.KnownBytes.append_known-moved, proofs.lemmas.Bool.eqb-true, proofs.lemmas.List.take_all, proofs.lemmas.List.drop_all, proofs.lemmas.List.take-append-le, proofs.lemmas.List.drop-append-le, proofs.lemmas.List.drop-take, proofs.lemmas.List.take-take, proofs.lemmas.List.length-take, specs.List.list_all, specs.Io.KnownBytes.Appends, specs.Io.KnownBytes.Keeps, specs.Io.KnownBytes.append_known}
use Rattle.batch_serve.{specs.Held.is_whole, specs.Held.IsClearText, specs.Held.IsPassed, specs.Held.TellsClear, specs.Replays.ContainsBytes, specs.Replays.IsWholeLines, proofs.Replays.is_other, proofs.Replays.whole_line}

-- Whole lines

whole_behind : (b : ℕ) (text : List ℕ) → IsWholeLines text → (text ≡ [] → ⊥) → IsWholeLines (b ∷ text)
whole_behind b text (inl none) some = absurd (some none)
whole_behind b text (inr (front, ends)) some = inr (b ∷ front, ap (λ l. b ∷ l) ends)

pub whole_lines : (text : List ℕ) → is_whole text ≡ true → IsWholeLines text
whole_lines [] is = inl refl
whole_lines (b ∷ []) is = inr ([], ap (λ x. x ∷ []) (eqb-true b 10 is))
whole_lines (b ∷ c ∷ text) is = whole_behind b (c ∷ text) (whole_lines (c ∷ text) is) (λ none. absurd (cc none))

pub whole_both : (a b : List ℕ) → is_whole a ≡ true → is_whole b ≡ true → is_whole (a ++ b) ≡ true
whole_both [] b is others = others
whole_both (x ∷ []) [] is others = is
whole_both (x ∷ []) (y ∷ b) is others = others
whole_both (x ∷ y ∷ a) b is others = whole_both (y ∷ a) b is others

whole_tail : (x : ℕ) (l : List ℕ) → is_whole (x ∷ l) ≡ true → is_whole l ≡ true
whole_tail x [] is = refl
whole_tail x (y ∷ l) is = is

pub ends_whole : (front : List ℕ) → is_whole (front ++ 10 ∷ []) ≡ true
ends_whole [] = refl
ends_whole (x ∷ []) = refl
ends_whole (x ∷ y ∷ front) = ends_whole (y ∷ front)

-- Refusals for want of memory

-- a line that is contained in whole lines and the text after them is contained in one of the two
module _ (line : List ℕ) (plain : list_all is_other line ≡ true) where
  at_front : (a b rest : List ℕ) → IsWholeLines a → (a ≡ [] → ⊥) → a ++ b ≡ (line ++ 10 ∷ []) ++ rest → ContainsBytes (line ++ 10 ∷ []) a
  at_front a b rest (inl none) some is = absurd (some none)
  at_front a b rest (inr (front, ends)) some is =
      let found = whole_line line a b rest plain front ends (is ∙ append_assoc line (10 ∷ []) rest) in
      record { front = []; rest = found.0; splits = found.1 ∙ sym (append_assoc line (10 ∷ []) found.0) }

  across : (a b front rest : List ℕ) → is_whole a ≡ true → a ++ b ≡ front ++ ((line ++ 10 ∷ []) ++ rest) → ContainsBytes (line ++ 10 ∷ []) a ⊎ ContainsBytes (line ++ 10 ∷ []) b
  across [] b front rest whole is = inr (record { front = front; rest = rest; splits = is })
  across (x ∷ a) b [] rest whole is = inl (at_front (x ∷ a) b rest (whole_lines (x ∷ a) whole) (λ none. absurd (cc none)) is)
  across (x ∷ a) b (y ∷ front) rest whole is =
      let head : x ≡ y = cc is in
      let tail : a ++ b ≡ front ++ ((line ++ 10 ∷ []) ++ rest) = cc is in
      elim (across a b front rest (whole_tail x a whole) tail) [
        | inl here ↦ inl (record { front = y ∷ here.front; rest = here.rest; splits = ap (λ z. z ∷ a) head ∙ ap (λ l. y ∷ l) here.splits })
        | inr there ↦ inr there
      ]

none_there : (needle front rest : List ℕ) (b : ℕ) → [] ≡ front ++ ((b ∷ needle) ++ rest) → ⊥
none_there needle [] rest b is = absurd (cc is)
none_there needle (x ∷ front) rest b is = absurd (cc is)

pub clear_nothing : IsClearText []
clear_nothing = record {
  whole = refl;
  shows = record { no_event = λ has. none_there (codes "efused E11\n") has.front has.rest 114 has.splits; no_line = λ has. none_there (codes "efused W6\n") has.front has.rest 114 has.splits };
}

pub clear_both : (a b : List ℕ) → IsClearText a → IsClearText b → IsClearText (a ++ b)
clear_both a b one other = record {
  whole = whole_both a b one.whole other.whole;
  shows = record {
    no_event = λ has. ⊎_elim one.shows.no_event other.shows.no_event (across (codes "refused E11") refl a b has.front has.rest one.whole has.splits);
    no_line = λ has. ⊎_elim one.shows.no_line other.shows.no_line (across (codes "refused W6") refl a b has.front has.rest one.whole has.splits);
  };
}

-- The text that was passed on

within_of : (x held : List ℕ) → ◌≡◌ {A = Option (List ℕ)} (Some (take (length held) x)) (Some held) → length held ≤ length x
within_of x held is = let e : take (length held) x ≡ held = cc is in omega (arith, ap length e, length-take (length held) x)

pub passed_first : (first contents : Option (List ℕ)) → first ≡ contents → IsPassed first contents []
passed_first first contents same = record {
  kept = λ held known. ap (option_map (take (length held))) (sym same ∙ known) ∙ ap Some (take_all (length held) held (omega arith));
  clear = λ held all known is.
      let text : all ≡ held = cc (sym is ∙ (sym same ∙ known)) in
      subst IsClearText (sym (ap (λ l. drop (length held) l ++ []) text ∙ ap (λ l. l ++ []) (drop_all (length held) held (omega arith)))) clear_nothing;
}

pub passed_on : (first old new : Option (List ℕ)) (waiting bytes now : List ℕ) → Appends old new bytes → waiting ≡ bytes ++ now → IsPassed first old waiting → IsPassed first new now
passed_on first None new waiting bytes now appends is passed =
    record { kept = λ held known. absurd (cc (passed.kept held known)); clear = λ held all known same. absurd (cc (passed.kept held known)) }
passed_on first (Some x) None waiting bytes now appends is passed = absurd appends
passed_on first (Some x) (Some y) waiting bytes now appends is passed = record {
  kept = λ held known.
      ap (λ l. Some (take (length held) l)) appends ∙ ap Some (take-append-le (length held) x bytes (within_of x held (passed.kept held known))) ∙ passed.kept held known;
  clear = λ held all known same.
      let text : y ≡ all = cc same in
      subst IsClearText
      (ap (λ l. drop (length held) x ++ l) is ∙ sym (append_assoc (drop (length held) x) bytes now)
      ∙ ap (λ l. l ++ now) (sym (drop-append-le (length held) x bytes (within_of x held (passed.kept held known))))
      ∙ ap (λ l. drop (length held) l ++ now) (sym appends ∙ text)) (passed.clear held x known refl);
}

pub passed_more : (first contents : Option (List ℕ)) (waiting group now : List ℕ) → IsClearText group → now ≡ waiting ++ group → IsPassed first contents waiting → IsPassed first contents now
passed_more first contents waiting group now clear is passed = record {
  kept = passed.kept;
  clear = λ held all known same.
      subst IsClearText (append_assoc (drop (length held) all) waiting group ∙ ap (λ l. drop (length held) all ++ l) (sym is))
      (clear_both (drop (length held) all ++ waiting) group (passed.clear held all known same) clear);
}

pub tells_clear : (first contents : Option (List ℕ)) (items held : List ℕ) (cleared : ℕ) → first ≡ Some held → IsPassed first contents (take cleared items)
    → TellsClear held contents (append_known contents items)
tells_clear first None items held cleared known is = absurd (cc (is.kept held known))
tells_clear first (Some x) items held cleared known is =
    let told = drop (length held) x in
    let clear = is.clear held x known refl in
    let front : take (length held) x ≡ held = cc (is.kept held known) in
    let all : x ≡ held ++ told = sym (take-append-drop (length held) x) ∙ ap (λ l. l ++ told) front in
    record {
      told = told;
      waiting = take cleared items;
      rest = drop cleared items;
      has_told = ap Some all;
      was_taken = ap Some (ap (λ l. l ++ items) all ∙ append_assoc held told items ∙ ap (λ l. held ++ (told ++ l)) (sym (take-append-drop cleared items))
          ∙ ap (λ l. held ++ l) (sym (append_assoc told (take cleared items) (drop cleared items))));
      whole = whole_lines (told ++ take cleared items) clear.whole;
      shows = clear.shows;
    }

-- The waiting text

-- a part of it was written, and is removed from the held text
module _ (old new : Option (List ℕ)) (items held left : List ℕ) (cleared count : ℕ) (is : held ≡ items) (left_is : left ≡ drop count items) (few : count ≤ cleared)
    (appends : Appends old new (take count (take cleared held))) where
  pub passes_on : (first : Option (List ℕ)) → IsPassed first old (take cleared items) → IsPassed first new (take (cleared - count) left)
  passes_on first passed =
      let parts : cleared ≡ count + (cleared - count) = omega (arith, few) in
      passed_on first old new (take cleared items) (take count (take cleared held)) (take (cleared - count) left) appends
      (sym (take-append-drop count (take cleared items))
      ∙ ap (λ l. take count (take cleared items) ++ l) (ap (λ n. drop count (take n items)) parts ∙ drop-take count (cleared - count) items ∙ ap (take (cleared - count)) (sym left_is))
      ∙ ap (λ l. take count (take cleared l) ++ take (cleared - count) left) (sym is)) passed

  pub keeps_on : Keeps (append_known old items) (append_known new left)
  keeps_on = append_known-moved old new (take count (take cleared held)) left items appends
      (sym (take-append-drop count items) ∙ ap (λ l. take count items ++ l) (sym left_is) ∙ ap (λ l. l ++ left) (sym (take-take count cleared items few) ∙ ap (λ l. take count (take cleared l)) (sym is)))
