-- The part of a text that is held back.
use Rattle.std.proofs.Common.{◌≡◌, ◌⊎◌, ℕ, zero, suc, ◌+◌, ◌-◌, ◌<◌, ◌≤◌, Bool, true, false, not, ◌||◌, ◌==◌, nat_eq, nat_le, List, [], ◌∷◌, ◌++◌, length, take, drop, take-append-drop, drop-drop, min, get_or, codes, Option, Some, None, MatchOption, is_some, option_map, refl, sym, ◌∙◌, ap, subst, append_assoc, inl, inr, arith, length-take, length-drop, length-append}
use Rattle.std.{proofs.lemmas.Bool.and_parts, proofs.lemmas.Bool.or_left, proofs.lemmas.Bool.or_right, proofs.lemmas.Bool.cases_lt, proofs.lemmas.Bool.eqb-true, proofs.lemmas.Bool.false_from_ne_true, proofs.lemmas.Bool.leb-true, proofs.lemmas.Bool.Decides.Decides-eqb, proofs.lemmas.List.append-nil, proofs.lemmas.List.append_cancel_left, proofs.lemmas.List.take_all, proofs.lemmas.List.take_at, proofs.lemmas.List.take_rest, proofs.lemmas.List.drop_at, proofs.lemmas.List.drop-take, proofs.lemmas.List.take-take, proofs.lemmas.List.take_more, proofs.lemmas.List.get_or-drop, proofs.lemmas.List.Elements.All-from_get_or, proofs.lemmas.List.Elements.All-take, proofs.lemmas.Slice.Eq.starts_is, proofs.Math.Seq.take-add, specs.Io.KnownBytes.Keeps, specs.Io.KnownBytes.append_known, specs.List.list_all, specs.List.starts_with}
use Rattle.memchr.{specs.Find.FindsNeedle, specs.Find.IsLastByte, specs.Find.OccursAt, specs.Find.is_byte, proofs.lemmas.MatchLemmas.OccursAt-from_part, proofs.lemmas.MatchLemmas.OccursAt-split}
use Rattle.batch_serve.{specs.Held.is_whole, specs.Held.IsClearText, specs.Held.IsHeldBack, specs.Held.IsPassed, specs.Held.IsUnended, specs.Held.TellsAll, specs.Held.TellsClear, specs.Holding.StandsFirst, specs.Holding.FindsFirst, specs.Holding.StopsAt, specs.Holding.IsWholeTo, specs.Holding.sooner, specs.Replays.ContainsBytes, specs.Replays.ShowsNoWant, specs.Replays.IsWholeLines, specs.RowsOfHeld.HeldRows, proofs.PassedText.whole_lines, proofs.PassedText.ends_whole, proofs.PassedText.clear_both, proofs.PassedText.passed_more, proofs.PassedText.tells_clear, proofs.Replays.in_front, proofs.Replays.first_shows, proofs.Replays.whole_line, proofs.Replays.whole_then, proofs.Replays.is_other}

-- A needle

occurs : (text needle : List ℕ) → (has : ContainsBytes needle text) → OccursAt text needle (length has.front)
occurs text needle has =
    let front = has.front in
    let rest = has.rest in
    let size : length text ≡ length front + (length needle + length rest) = ap length has.splits ∙ length-append front (needle ++ rest) ∙ ap (λ n. length front + n) (length-append needle rest) in
    let part : take (length needle) (drop (length front) text) ≡ needle =
    ap (λ l. take (length needle) (drop (length front) l)) has.splits ∙ ap (take (length needle)) (drop_at front (needle ++ rest) (length front) refl) ∙ take_at needle rest (length needle) refl in
    OccursAt-from_part text needle (length front) (omega (arith, size)) part

-- bytes that a prefix of the text contains are in the text
of_front : (needle text : List ℕ) (at : ℕ) → ContainsBytes needle (take at text) → ContainsBytes needle text
of_front needle text at has = subst (ContainsBytes needle) (take-append-drop at text) (in_front needle (take at text) (drop at text) has)

pub finds_first : (text needle : List ℕ) (found : Option ℕ) → 0 < length needle → FindsNeedle text needle 0 found → FindsFirst needle text found
finds_first text needle None some finds = λ has. let at = occurs text needle has in finds (length has.front) (omega arith) (omega (arith, at.fits)) at
finds_first text needle (Some at) some finds = record {
  within = omega (arith, finds.1.fits);
  here = sym (take-append-drop at text) ∙ ap (λ l. take at text ++ l) (OccursAt-split text needle at finds.1);
  before = λ has.
      let size : length (take at text) ≡ length has.front + (length needle + length has.rest) =
      ap length has.splits ∙ length-append has.front (needle ++ has.rest) ∙ ap (λ n. length has.front + n) (length-append needle has.rest) in
      finds.0.before (length has.front) (omega arith) (omega (arith, size, some, length-take at text)) (occurs text needle (record {
        front = has.front;
        rest = has.rest ++ drop at text;
        splits = sym (take-append-drop at text) ∙ ap (λ l. l ++ drop at text) has.splits ∙ append_assoc has.front (needle ++ has.rest) (drop at text)
            ∙ ap (λ l. has.front ++ l) (append_assoc needle has.rest (drop at text));
      }));
}

-- in a shorter beginning it isn't either
not_before : (needle text : List ℕ) (n at : ℕ) → n ≤ at → (ContainsBytes needle (take at text) → ⊥) → ContainsBytes needle (take n text) → ⊥
not_before needle text n at few not has = not (of_front needle (take at text) n (subst (ContainsBytes needle) (sym (take-take n at text few)) has))

-- Where clear text stops

-- whole lines that end behind the beginning of a line have all of it
module _ (line text rest : List ℕ) (at n : ℕ) (plain : list_all is_other line ≡ true) (within : at ≤ length text) (here : text ≡ take at text ++ ((line ++ 10 ∷ []) ++ rest))
    (past : at < n) (most : n ≤ length text) where
  behind : take n text ≡ take at text ++ take (n - at) (drop at text)
  behind = let parts : n ≡ at + (n - at) = omega (arith, past) in ap (λ m. take m text) parts ∙ take-add at (n - at) text

  front_is : drop at text ≡ (line ++ 10 ∷ []) ++ rest
  front_is = let size : length (take at text) ≡ at = omega (arith, within, length-take at text) in ap (drop at) here ∙ drop_at (take at text) ((line ++ 10 ∷ []) ++ rest) at size

  longer : take (n - at) (drop at text) ≡ [] → ⊥
  longer none = absurd (omega (arith, past, most, ap length none, length-take (n - at) (drop at text), length-drop at text))

  has_line : IsWholeLines (take n text) → ContainsBytes (line ++ 10 ∷ []) (take n text)
  has_line whole = go (whole_then (take n text) (take at text) told behind whole)
    where
      told : List ℕ
      told = take (n - at) (drop at text)

      go : IsWholeLines told → ContainsBytes (line ++ 10 ∷ []) (take n text)
      go (inl none) = absurd (longer none)
      go (inr (front, ends)) =
          let found = whole_line line told (drop (n - at) (drop at text)) rest plain front ends
          (take-append-drop (n - at) (drop at text) ∙ front_is ∙ append_assoc line (10 ∷ []) rest) in
          record { front = take at text; rest = found.0; splits = behind ∙ ap (λ l. take at text ++ l) (found.1 ∙ sym (append_assoc line (10 ∷ []) found.0)) }

stops_before : (line text : List ℕ) (at : ℕ) → list_all is_other line ≡ true → StandsFirst (line ++ 10 ∷ []) text at → (n : ℕ) → n ≤ length text → is_whole (take n text) ≡ true
    → (ContainsBytes (line ++ 10 ∷ []) (take n text) → ⊥) → n ≤ at
stops_before line text at plain first n most whole shows = go (cases_lt at n)
  where
    go : (at < n) ⊎ (n ≤ at) → n ≤ at
    go (inl past) = absurd (shows (has_line line text (drop (at + length (line ++ 10 ∷ [])) text) at n plain first.within first.here past most (whole_lines (take n text) whole)))
    go (inr few) = few

-- at a refusal of an event, if none of a line is before it
stops_at_event : (text : List ℕ) (at : ℕ) → StandsFirst (codes "refused E11\n") text at → (ContainsBytes (codes "refused W6\n") (take at text) → ⊥) → StopsAt text at
stops_at_event text at first none = record {
  within = first.within;
  shows = record { no_event = first.before; no_line = none };
  stops = λ n most clear. stops_before (codes "refused E11") text at refl first n most clear.whole clear.shows.no_event;
}

-- and the other way round
stops_at_line : (text : List ℕ) (at : ℕ) → StandsFirst (codes "refused W6\n") text at → (ContainsBytes (codes "refused E11\n") (take at text) → ⊥) → StopsAt text at
stops_at_line text at first none = record {
  within = first.within;
  shows = record { no_event = none; no_line = first.before };
  stops = λ n most clear. stops_before (codes "refused W6") text at refl first n most clear.whole clear.shows.no_line;
}

stops_at_end : (text : List ℕ) → (ContainsBytes (codes "refused E11\n") text → ⊥) → (ContainsBytes (codes "refused W6\n") text → ⊥) → StopsAt text (length text)
stops_at_end text no_event no_line = record {
  within = omega arith;
  shows = record { no_event = λ has. no_event (of_front _ text (length text) has); no_line = λ has. no_line (of_front _ text (length text) has) };
  stops = λ n most clear. most;
}

-- before the sooner of the two refusals there is none
pub stops_where : (text : List ℕ) (event line : Option ℕ) → FindsFirst (codes "refused E11\n") text event → FindsFirst (codes "refused W6\n") text line
    → MatchOption (sooner event line) (StopsAt text (length text)) (StopsAt text)
stops_where text None None no_event no_line = stops_at_end text no_event no_line
stops_where text None (Some at) no_event first = stops_at_line text at first (λ has. no_event (of_front (codes "refused E11\n") text at has))
stops_where text (Some at) None first no_line = stops_at_event text at first (λ has. no_line (of_front (codes "refused W6\n") text at has))
stops_where text (Some at) (Some other) event line = elim (cases_lt other at) [
  | inl less ↦
      let least : min at other ≡ other = omega (arith, less) in
      subst (StopsAt text) (sym least) (stops_at_line text other line (not_before (codes "refused E11\n") text other at (omega (arith, less)) event.before))
  | inr few ↦
      let least : min at other ≡ at = omega (arith, few) in
      subst (StopsAt text) (sym least) (stops_at_event text at event (not_before (codes "refused W6\n") text at other few line.before))
]

pub found_none : (needle text : List ℕ) (found : Option ℕ) → FindsFirst needle text found → is_some found ≡ false → ContainsBytes needle text → ⊥
found_none needle text None finds none = finds
found_none needle text (Some at) finds none = let clash : true ≡ false = none in absurd (cc clash)

pub found_some : (needle text : List ℕ) (found : Option ℕ) → FindsFirst needle text found → is_some found ≡ true → ContainsBytes needle text
found_some needle text None finds some = let clash : false ≡ true = some in absurd (cc clash)
found_some needle text (Some at) finds some = record { front = take at text; rest = drop (at + length needle) text; splits = finds.here }

-- The part that is held back

no_feed_whole : (text : List ℕ) → IsUnended text → is_whole text ≡ true → text ≡ []
no_feed_whole [] none is = refl
no_feed_whole (b ∷ []) none is = let clash : false ≡ true = sym (none 0 0 (omega arith)) ∙ is in absurd (cc clash)
no_feed_whole (b ∷ x ∷ text) none is =
    let rest : x ∷ text ≡ [] = no_feed_whole (x ∷ text) (λ k d lt. none (suc k) d (omega (arith, lt))) is in
    absurd (cc rest)

same_part : (text : List ℕ) (at n m : ℕ) → n + m ≤ at → take m (drop n (take at text)) ≡ take m (drop n text)
same_part text at n m few =
    let parts : at ≡ n + (at - n) = omega (arith, few) in
    ap (λ k. take m (drop n (take k text))) parts ∙ ap (take m) (drop-take n (at - n) text) ∙ take-take m (at - n) (drop n text) (omega (arith, few))

pub is_false : (b : Bool) → not b ≡ true → b ≡ false
is_false false is = refl
is_false true is = absurd (cc is)

no_feed : (text : List ℕ) → list_all is_other text ≡ true → IsUnended text
no_feed [] plain k d lt = absurd (omega (arith, lt))
no_feed (b ∷ text) plain zero d lt = is_false (b == 10) (and_parts (is_other b) (list_all is_other text) plain).0
no_feed (b ∷ text) plain (suc k) d lt = no_feed text (and_parts (is_other b) (list_all is_other text) plain).1 k d (omega (arith, lt))

front_is_clear : (text : List ℕ) (at n : ℕ) → StopsAt text at → IsWholeTo (take at text) n → IsClearText (take n text)
front_is_clear text at n stop whole =
    let start : take n (take at text) ≡ take n text = take-take n at text (omega (arith, whole.within, length-take at text)) in
    record {
      whole = ap is_whole (sym start) ∙ whole.whole;
      shows = subst ShowsNoWant start (first_shows (take n (take at text)) (drop n (take at text)) (subst ShowsNoWant (sym (take-append-drop n (take at text))) stop.shows));
    }

rest_is_held : (text : List ℕ) (at n : ℕ) → StopsAt text at → IsWholeTo (take at text) n → IsHeldBack (drop n text)
rest_is_held text at n stop whole m most clear =
    let front : n ≤ at = omega (arith, whole.within, length-take at text) in
    let first = front_is_clear text at n stop whole in
    let both : IsClearText (take (n + m) text) = subst IsClearText (sym (take-add n m text)) (clear_both (take n text) (take m (drop n text)) first clear) in
    let few : n + m ≤ at = stop.stops (n + m) (omega (arith, most, length-drop n text, front, stop.within)) both in
    let here : take m (drop n (take at text)) ≡ take m (drop n text) = same_part text at n m few in
    let none : take m (drop n (take at text)) ≡ [] =
    no_feed_whole (take m (drop n (take at text))) (All-take (λ b. (b == 10) ≡ false) m (drop n (take at text)) whole.rest) (ap is_whole here ∙ clear.whole) in
    omega (arith, ap length none, length-take m (drop n (take at text)), length-drop n (take at text), length-take at text, few, stop.within)

-- so much of the held text is cleared, and then so much more of the rest
module _ (items held : List ℕ) (cleared at n : ℕ) (is : held ≡ items) (within : cleared ≤ length items)
    (stop : StopsAt (take (length held - cleared) (drop cleared held)) at) (whole : IsWholeTo (take at (take (length held - cleared) (drop cleared held))) n) where
  abbrev group : List ℕ
  group = take (length held - cleared) (drop cleared held)

  group_is : group ≡ drop cleared items
  group_is = take_rest held cleared ∙ ap (drop cleared) is

  behind_is : drop n group ≡ drop (cleared + n) items
  behind_is = ap (drop n) group_is ∙ drop-drop n cleared items

  pub cleared_fits : cleared + n ≤ length items
  cleared_fits =
      let few : n ≤ length (take at group) = whole.within in
      let size : length group ≡ length (drop cleared items) = ap length group_is in
      omega (arith, within, few, length-take at group, size, length-drop cleared items)

  pub cleared_passed : (first contents : Option (List ℕ)) → IsPassed first contents (take cleared items) → IsPassed first contents (take (cleared + n) items)
  cleared_passed first contents passed =
      passed_more first contents (take cleared items) (take n group) (take (cleared + n) items) (front_is_clear group at n stop whole)
      (take-add cleared n items ∙ ap (λ l. take cleared items ++ take n l) (sym group_is)) passed

  pub cleared_rest : IsHeldBack (drop (cleared + n) items)
  cleared_rest = subst (λ l. IsHeldBack l) behind_is (rest_is_held group at n stop whole)

  pub cleared_all : at ≡ length group → IsUnended (drop (cleared + n) items)
  cleared_all all = subst (λ l. IsUnended l) (ap (drop n) (ap (λ k. take k group) all ∙ take_all (length group) group (omega arith)) ∙ behind_is) whole.rest

-- The end of whole lines

pub whole_to : (text : List ℕ) (last : Option ℕ) → IsLastByte (is_byte 10) text last → MatchOption last (IsUnended text) (λ at. IsWholeTo text (at + 1))
whole_to text None none = All-from_get_or (λ b. (b == 10) ≡ false) text 0 (λ i l. false_from_ne_true (get_or text i 0 == 10) (none i (omega arith) l))
whole_to text (Some at) last =
    let high = last.0.high in
    let feed : get_or text at 0 ≡ 10 = eqb-true (get_or text at 0) 10 last.1 in
    record {
      within = omega arith;
      whole = ap is_whole (take_more text at 0 high ∙ ap (λ b. take at text ++ b ∷ []) feed) ∙ ends_whole (take at text);
      rest = All-from_get_or (λ b. (b == 10) ≡ false) (drop (at + 1) text) 0 (λ i l.
          let below : at + 1 + i < length text = omega (arith, l, length-drop (at + 1) text) in
          ap (λ b. b == 10) (get_or-drop (at + 1) text i 0) ∙ false_from_ne_true (get_or text (at + 1 + i) 0 == 10) (last.0.after (at + 1 + i) (omega arith) below));
    }

pub none_whole : (text : List ℕ) → IsUnended text → IsWholeTo text 0
none_whole text none = record { within = omega arith; whole = refl; rest = none }

-- The text that is passed on

same_known : (old new : Option (List ℕ)) (x : List ℕ) → old ≡ Some x → Keeps old new → new ≡ old
same_known None new x known keeps = absurd (cc known)
same_known (Some y) None x known keeps = absurd keeps
same_known (Some y) (Some z) x known keeps = ap Some keeps

module _ (first : Option (List ℕ)) (inner inner_now : Option (List ℕ)) (items now : List ℕ) (cleared cleared_now : ℕ) (was : IsPassed first inner (take cleared items))
    (is : IsPassed first inner_now (take cleared_now now)) (keeps : Keeps (append_known inner items) (append_known inner_now now)) where
  taken_known : (held : List ℕ) → first ≡ Some held → append_known inner_now now ≡ append_known inner items
  taken_known held known = same_known (append_known inner items) (append_known inner_now now) (front ++ items) (ap (λ (k : Option (List ℕ)). append_known k items) (known_of inner held (was.kept held known)).1) keeps
    where
      known_of : (contents : Option (List ℕ)) (held : List ℕ) → option_map (take (length held)) contents ≡ Some held → (x : List ℕ) × (contents ≡ Some x)
      known_of None held is = absurd (cc is)
      known_of (Some x) held is = (x, refl)

      front : List ℕ
      front = (known_of inner held (was.kept held known)).0

  pub finishes_clear : (held : List ℕ) → first ≡ Some held → TellsClear held inner_now (append_known inner items)
  finishes_clear held known = subst (TellsClear held inner_now) (taken_known held known) (tells_clear first inner_now now held cleared_now known is)

  pub finishes_all : IsUnended now → TellsAll first (append_known inner items) inner_now
  finishes_all none held text known taken whole =
      let tells = tells_clear first inner_now now held cleared_now known is in
      let told = tells.told in
      let all : append_known inner_now now ≡ Some (held ++ text) = taken_known held known ∙ taken in
      let joined : append_known inner_now now ≡ Some ((held ++ told) ++ now) = ap (λ (k : Option (List ℕ)). append_known k now) tells.has_told in
      let both : ◌≡◌ {A = Option (List ℕ)} (Some ((held ++ told) ++ now)) (Some (held ++ text)) = sym joined ∙ all in
      let lists : (held ++ told) ++ now ≡ held ++ text = cc both in
      let split : text ≡ told ++ now = append_cancel_left held text (told ++ now) (sym lists ∙ append_assoc held told now) in
      let rest : now ≡ [] = no_feed_lines now none (whole_then text told now split whole) in
      tells.has_told ∙ ap (λ l. Some (held ++ l)) (sym (split ∙ ap (λ l. told ++ l) rest ∙ append-nil told))
    where
      no_feed_lines : (text : List ℕ) → IsUnended text → IsWholeLines text → text ≡ []
      no_feed_lines text none (inl nothing) = nothing
      no_feed_lines text none (inr (front, ends)) = no_feed_whole text none (ap is_whole ends ∙ ends_whole front)

-- Worked rows

abbrev stands : List ℕ → List ℕ → Bool
stands needle [] = starts_with nat_eq [] needle
stands needle (b ∷ text) = starts_with nat_eq (b ∷ text) needle || stands needle text

starts : (needle text rest : List ℕ) → text ≡ needle ++ rest → starts_with nat_eq text needle ≡ true
starts needle text rest is = (starts_is Decides-eqb text needle (starts_with nat_eq text needle) refl).1 rest is

stands_at : (needle text front rest : List ℕ) → text ≡ front ++ (needle ++ rest) → stands needle text ≡ true
stands_at needle [] [] rest is = starts needle [] rest is
stands_at needle [] (x ∷ front) rest is = absurd (cc is)
stands_at needle (b ∷ text) [] rest is = or_left (starts_with nat_eq (b ∷ text) needle) (stands needle text) (starts needle (b ∷ text) rest is)
stands_at needle (b ∷ text) (x ∷ front) rest is =
    let tail : text ≡ front ++ (needle ++ rest) = cc is in
    or_right (starts_with nat_eq (b ∷ text) needle) (stands needle text) (stands_at needle text front rest tail)

absent : (needle text : List ℕ) → stands needle text ≡ false → ContainsBytes needle text → ⊥
absent needle text none has = let clash : false ≡ true = sym none ∙ stands_at needle text has.front has.rest has.splits in absurd (cc clash)

shows_none : (text : List ℕ) → stands (codes "refused E11\n") text ≡ false → stands (codes "refused W6\n") text ≡ false → ShowsNoWant text
shows_none text event line = record { no_event = absent (codes "refused E11\n") text event; no_line = absent (codes "refused W6\n") text line }

-- a text in which no line ends, or that begins with a refusal for want of memory
unended : (text : List ℕ) → list_all is_other text ≡ true → IsHeldBack text
unended text plain n most clear =
    let none : take n text ≡ [] = no_feed_whole (take n text) (All-take (λ b. (b == 10) ≡ false) n text (no_feed text plain)) clear.whole in
    omega (arith, ap length none, length-take n text, most)

event_first : (rest : List ℕ) → IsHeldBack (codes "refused E11\n" ++ rest)
event_first rest n most clear =
    let first : StandsFirst (codes "refused E11\n") (codes "refused E11\n" ++ rest) 0 = record { within = omega arith; here = refl; before = λ has. absurd (none_there has.front has.rest has.splits) } in
    omega (arith, stops_before (codes "refused E11") (codes "refused E11\n" ++ rest) 0 refl first n most clear.whole clear.shows.no_event)
  where
    none_there : (front rest : List ℕ) → [] ≡ front ++ (codes "refused E11\n" ++ rest) → ⊥
    none_there [] rest is = absurd (cc is)
    none_there (x ∷ front) rest is = absurd (cc is)

line_first : (rest : List ℕ) → IsHeldBack (codes "refused W6\n" ++ rest)
line_first rest n most clear =
    let first : StandsFirst (codes "refused W6\n") (codes "refused W6\n" ++ rest) 0 = record { within = omega arith; here = refl; before = λ has. absurd (none_there has.front has.rest has.splits) } in
    omega (arith, stops_before (codes "refused W6") (codes "refused W6\n" ++ rest) 0 refl first n most clear.whole clear.shows.no_line)
  where
    none_there : (front rest : List ℕ) → [] ≡ front ++ (codes "refused W6\n" ++ rest) → ⊥
    none_there [] rest is = absurd (cc is)
    none_there (x ∷ front) rest is = absurd (cc is)

-- a beginning that is clear isn't held back
passes : (n : ℕ) (text : List ℕ) → nat_le (suc n) (length text) ≡ true → IsClearText (take (suc n) text) → IsHeldBack text → ⊥
passes n text most clear held = let none : suc n ≡ 0 = held (suc n) (leb-true (suc n) (length text) most) clear in absurd (cc none)

pub held_rows : HeldRows
held_rows = record {
  line = record { whole = refl; shows = shows_none (codes "created 1 A 7\n") refl refl };
  unfinished = unended (codes "ok sta") refl;
  event = event_first (codes "ok start 1 running\n");
  words = line_first [];
  half_line = λ clear. let clash : false ≡ true = clear.whole in absurd (cc clash);
  want = λ clear. clear.shows.no_event (record { front = codes "created 1 A 7\n"; rest = []; splits = refl });
  clear_line = passes 13 (codes "created 1 A 7\nok sta") refl (record { whole = refl; shows = shows_none (codes "created 1 A 7\n") refl refl });
  line_before_want = passes 18 (codes "ok start 1 running\nrefused W6\n") refl (record { whole = refl; shows = shows_none (codes "ok start 1 running\n") refl refl });
  other_refusal = passes 10 (codes "refused E1\n") refl (record { whole = refl; shows = shows_none (codes "refused E1\n") refl refl });
}
