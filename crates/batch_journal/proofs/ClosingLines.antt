-- Lines that close groups, counted in any text.
use Rattle.std.proofs.Common.{◌≡◌, ◌⊎◌, ℕ, zero, suc, ◌+◌, ◌≤◌, ◌<◌, Bool, true, false, ◌==◌, List, [], ◌∷◌, ◌++◌, length, take, drop, slice_index, get_or, Option, Some, None, IfSome, IsSome, MatchOption, is_some, rules, refl, sym, ◌∙◌, ap, subst, arith, append_assoc, inl, inr}
use Rattle.std.proofs.lemmas.List.{append-nil, drop-drop}
use Rattle.batch_journal.{specs.Lines.text_of, specs.Lines.whole_from, specs.Groups.AreOthers, specs.Journals.journal_format, specs.Recovery.ClosesTwice, specs.Recovery.closings, proofs.GroupLemmas.bool_cases}

abbrev pub NoFeedBefore : ℕ → List ℕ → Type 0
NoFeedBefore n text = (k : ℕ) → k < n → (slice_index text k == 10) ≡ true → ⊥

not_feed : (b : Bool) → (b ≡ true → ⊥) → b ≡ false
not_feed true none = absurd (none refl)
not_feed false none = refl

-- a line that ends there is the first
pub raw_line : (begun text : List ℕ) (at : ℕ) → NoFeedBefore at text → at < length text → get_or text at 0 ≡ 10
    → whole_from begun text ≡ (begun ++ take at text) ∷ whole_from [] (drop (at + 1) text)
raw_line begun [] at none lt feed = absurd (omega (arith, lt))
raw_line begun (b ∷ text) zero none lt feed =
    let is : (b == 10) ≡ true = rw feed refl in
    rw is (ap (λ l. l ∷ whole_from [] text) (sym (append-nil begun)))
raw_line begun (b ∷ text) (suc at) none lt feed =
    let other : (b == 10) ≡ false = not_feed (b == 10) (none 0 (omega arith)) in
    let size : suc (at + 1) ≡ suc at + 1 = omega arith in
    rw other (raw_line (begun ++ b ∷ []) text at (λ k le is. none (suc k) (omega (arith, le)) is) (omega (arith, lt)) feed
    ∙ ap (λ l. l ∷ whole_from [] (drop (at + 1) text)) (append_assoc begun (b ∷ []) (take at text))
    ∙ ap (λ n. (begun ++ b ∷ take at text) ∷ whole_from [] (drop n (b ∷ text))) size)

pub raw_none : (begun text : List ℕ) → NoFeedBefore (length text) text → whole_from begun text ≡ []
raw_none begun [] none = refl
raw_none begun (b ∷ text) none =
    let other : (b == 10) ≡ false = not_feed (b == 10) (none 0 (omega arith)) in
    rw other (raw_none (begun ++ b ∷ []) text (λ k le is. none (suc k) (omega (arith, le)) is))

closings_if : (line : List ℕ) (a b : List (List ℕ)) → (journal_format.own line ≡ true) ⊎ (journal_format.own line ≡ false) → closings (a ++ b) ≡ closings a + closings b
    → closings (line ∷ (a ++ b)) ≡ closings (line ∷ a) + closings b
closings_if line a b (inl own) below = rw own (omega (arith, below))
closings_if line a b (inr other) below = rw other below

pub closings_both : (a b : List (List ℕ)) → closings (a ++ b) ≡ closings a + closings b
closings_both [] b = omega arith
closings_both (line ∷ a) b = closings_if line a b (bool_cases (journal_format.own line)) (closings_both a b)

pub one_closing : (line : List ℕ) → journal_format.own line ≡ true → closings (line ∷ []) ≡ 1
one_closing line own = rw own refl

pub no_closing : (line : List ℕ) → journal_format.own line ≡ false → closings (line ∷ []) ≡ 0
no_closing line other = rw other refl

none_closes_if : (line : List ℕ) (lines : List (List ℕ)) → (journal_format.own line ≡ true) ⊎ (journal_format.own line ≡ false) → closings (line ∷ lines) ≡ 0
    → (closings lines ≡ 0 → AreOthers journal_format lines) → AreOthers journal_format (line ∷ lines)
none_closes_if line lines (inl own) none on = let some : suc (closings lines) ≡ 0 = rw own at none in absurd (omega (arith, some))
none_closes_if line lines (inr other) none on = let below : closings lines ≡ 0 = rw other at none in (other, on below)

-- where none is counted, none closes a group
pub none_closes : (lines : List (List ℕ)) → closings lines ≡ 0 → AreOthers journal_format lines
none_closes [] none = tt
none_closes (line ∷ lines) none = none_closes_if line lines (bool_cases (journal_format.own line)) none (none_closes lines)

-- so many lines precede the first that closes a group
pub record ClosesFirst (n : ℕ) (lines : List (List ℕ)) : Type 0 where
  pub front : List (List ℕ)
  pub closing : List ℕ
  pub between : List (List ℕ)
  pub splits : lines ≡ front ++ closing ∷ between
  pub count : n ≡ length front
  pub others : AreOthers journal_format front
  pub own : journal_format.own closing ≡ true

pub first_here : (count : ℕ) (lines : List (List ℕ)) (line : List ℕ) → count ≡ length lines → closings lines ≡ 0 → journal_format.own line ≡ true → ClosesFirst count (lines ++ line ∷ [])
first_here count lines line is none own = record { front = lines; closing = line; between = []; splits = refl; count = is; others = none_closes lines none; own = own }

pub first_more : (first : Option ℕ) (lines : List (List ℕ)) (line : List ℕ) → IfSome first (λ count. ClosesFirst count lines) → IfSome first (λ count. ClosesFirst count (lines ++ line ∷ []))
first_more None lines line found = tt
first_more (Some count) lines line found = record {
  front = found.front;
  closing = found.closing;
  between = found.between ++ line ∷ [];
  splits = ap (λ l. l ++ line ∷ []) found.splits ∙ append_assoc found.front (found.closing ∷ found.between) (line ∷ []);
  count = found.count;
  others = found.others;
  own = found.own;
}

-- how many were found
abbrev pub found_count : Option ℕ → ℕ
found_count None = 0
found_count (Some at) = 1

-- Lines of a text that is looked through up to there, where a line ends behind it

module _ (bytes : List ℕ) (at len : ℕ) (looked : List (List ℕ)) (splits : whole_from [] bytes ≡ looked ++ whole_from [] (drop at bytes))
    (none : NoFeedBefore len (drop at bytes)) (within : len < length (drop at bytes)) (feed : get_or (drop at bytes) len 0 ≡ 10) where
  pub line_more : whole_from [] bytes ≡ (looked ++ take len (drop at bytes) ∷ []) ++ whole_from [] (drop (at + (len + 1)) bytes)
  line_more = splits ∙ ap (λ l. looked ++ l) (raw_line [] (drop at bytes) len none within feed ∙ ap (λ l. take len (drop at bytes) ∷ whole_from [] l) (drop-drop (len + 1) at bytes))
      ∙ sym (append_assoc looked (take len (drop at bytes) ∷ []) (whole_from [] (drop (at + (len + 1)) bytes)))

  -- the line closes a group, and one before it does
  closes_twice : (count : ℕ) → ClosesFirst count looked → journal_format.own (take len (drop at bytes)) ≡ true → (twice : ClosesTwice (whole_from [] bytes)) × (count ≡ length twice.front)
  closes_twice count first own =
      let line = take len (drop at bytes) in
      let rest = whole_from [] (drop (at + (len + 1)) bytes) in (
        record {
          front = first.front;
          closing = first.closing;
          more = (first.between ++ line ∷ []) ++ rest;
          splits = line_more ∙ ap (λ l. (l ++ line ∷ []) ++ rest) first.splits
              ∙ ap (λ l. l ++ rest) (append_assoc first.front (first.closing ∷ first.between) (line ∷ []))
              ∙ append_assoc first.front (first.closing ∷ (first.between ++ line ∷ [])) rest;
          others = first.others;
          own = first.own;
          another = omega (arith, closings_both (first.between ++ line ∷ []) rest, closings_both first.between (line ∷ []), one_closing line own);
        },
        first.count,
      )

  pub found_twice : (first : Option ℕ) → IsSome first → IfSome first (λ count. ClosesFirst count looked) → journal_format.own (take len (drop at bytes)) ≡ true
      → MatchOption first (closings (whole_from [] bytes) ≤ 1) (λ count. (twice : ClosesTwice (whole_from [] bytes)) × (count ≡ length twice.front))
  found_twice None some found own = absurd (cc some)
  found_twice (Some count) some found own = closes_twice count found own

pub count_none : (first : Option ℕ) → is_some first ≡ false → found_count first ≡ 0
count_none None not = refl
count_none (Some at) not = absurd (cc not)

pub count_few : (first : Option ℕ) → found_count first ≤ 1
count_few None = omega arith
count_few (Some at) = omega arith

feed_of : (b : ℕ) → (b == 10) ≡ true → b ≡ 10
feed_of b is = search (rules, is)

pub record EndsThere (len : ℕ) (rest : List ℕ) : Type 0 where
  pub none : NoFeedBefore len rest
  pub within : len < length rest
  pub feed : get_or rest len 0 ≡ 10

-- a line feed that was found in a slice to the end
pub ends_there : (hay rest : List ℕ) (len : ℕ) → hay ≡ rest → NoFeedBefore len hay → len < length hay → (slice_index hay len == 10) ≡ true → EndsThere len rest
ends_there hay rest len same none lt is = subst (EndsThere len) same (record { none = none; within = lt; feed = feed_of (slice_index hay len) is })

pub few_closings : (bytes rest : List ℕ) (looked : List (List ℕ)) (first : Option ℕ) → whole_from [] bytes ≡ looked ++ whole_from [] rest → NoFeedBefore (length rest) rest
    → closings looked ≡ found_count first → closings (whole_from [] bytes) ≤ 1
few_closings bytes rest looked first splits none counts =
    let all : whole_from [] bytes ≡ looked = splits ∙ ap (λ l. looked ++ l) (raw_none [] rest none) ∙ append-nil looked in
    omega (arith, ap closings all, counts, count_few first)

front_of : (begun text line : List ℕ) (more : List (List ℕ)) → whole_from begun text ≡ line ∷ more → (rest : List ℕ) × (begun ++ text ≡ line ++ 10 ∷ rest) × (whole_from [] rest ≡ more)
front_of begun [] line more is = absurd (cc is)
front_of begun (b ∷ text) line more is = elim (bool_cases (b == 10)) [
  | inl feed ↦ let all : begun ∷ whole_from [] text ≡ line ∷ more = rw feed at is in
      let head : begun ≡ line = cc all in let tail : whole_from [] text ≡ more = cc all in
      (text, ap (λ l. l ++ b ∷ text) head ∙ ap (λ x. line ++ x ∷ text) (feed_of b feed), tail)
  | inr other ↦ let below : whole_from (begun ++ b ∷ []) text ≡ line ∷ more = rw other at is in
      let found = front_of (begun ++ b ∷ []) text line more below in
      (found.0, sym (append_assoc begun (b ∷ []) text) ∙ found.1, found.2)
]

-- lines that stand first in a text
pub lines_front : (front more : List (List ℕ)) (text : List ℕ) → whole_from [] text ≡ front ++ more → (rest : List ℕ) × (text ≡ text_of front ++ rest)
lines_front [] more text splits = (text, refl)
lines_front (line ∷ front) more text splits =
    let first = front_of [] text line (front ++ more) splits in
    let others = lines_front front more first.0 first.2 in
    (others.0, first.1 ∙ ap (λ l. line ++ 10 ∷ l) others.1 ∙ sym (append_assoc line (10 ∷ text_of front) others.0))
