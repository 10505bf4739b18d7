-- Where the whole lines end.
use Rattle.std.proofs.Common.{rules, ◌≡◌, ◌⊎◌, ℕ, ◌+◌, ◌-◌, ◌≤◌, zero, suc, List, [], ◌∷◌, ◌++◌, length, take, drop, get_or, ◌<◌, ◌≢◌, refl, sym, ◌∙◌, ap, subst, arith, append_assoc, inl, inr, true, false, ◌==◌, length-append}
use Rattle.std.proofs.{lemmas.List.append-nil, lemmas.List.take_at, lemmas.List.drop_at, lemmas.List.drop_more, lemmas.List.at_drop_all, Math.Seq.take-append-add}
use Rattle.batch_journal.{specs.Lines.IsLine, specs.Lines.AreLines, specs.Lines.text_of, specs.Lines.until_zero, specs.Lines.whole_from, specs.Lines.whole_lines_before_zero, proofs.GroupLemmas.bool_cases, proofs.LineLemmas.HasNoZero, proofs.LineLemmas.no_zero, proofs.LineLemmas.until_zero_behind, proofs.LineLemmas.reads_lines, proofs.LineLemmas.text_both, proofs.LineLemmas.lines_both, proofs.LineLemmas.line_more}

-- behind whole lines a line has begun, and then comes the rest
pub record Stands (bytes : List ℕ) (end at : ℕ) (rest : List ℕ) : Type 0 where
  pub lines : List (List ℕ)
  pub line : List ℕ
  pub splits : bytes ≡ text_of lines ++ (line ++ rest)
  pub size : end ≡ length (text_of lines)
  pub begins : at ≡ end + length line
  pub are_lines : AreLines lines
  pub is_line : IsLine line

pub at_start : (bytes : List ℕ) → Stands bytes 0 0 bytes
at_start bytes = record { lines = []; line = []; splits = refl; size = refl; begins = refl; are_lines = tt; is_line = tt }

pub one_more : (bytes : List ℕ) (end at b : ℕ) (rest : List ℕ) → Stands bytes end at (b ∷ rest) → (b == 0) ≡ false → (b == 10) ≡ false → Stands bytes end (at + 1) rest
one_more bytes end at b rest s no_zero_is feed = record {
  lines = s.lines;
  line = s.line ++ b ∷ [];
  splits = s.splits ∙ ap (λ l. text_of s.lines ++ l) (sym (append_assoc s.line (b ∷ []) rest));
  size = s.size;
  begins = omega (arith, s.begins, length-append s.line (b ∷ []));
  are_lines = s.are_lines;
  is_line = line_more s.line b s.is_line no_zero_is feed;
}

pub line_ends : (bytes : List ℕ) (end at : ℕ) (rest : List ℕ) → Stands bytes end at (10 ∷ rest) → Stands bytes (at + 1) (at + 1) rest
line_ends bytes end at rest s =
    let texts : text_of (s.lines ++ s.line ∷ []) ≡ text_of s.lines ++ (s.line ++ 10 ∷ []) = text_both s.lines (s.line ∷ []) in
    record {
      lines = s.lines ++ s.line ∷ [];
      line = [];
      splits = s.splits ∙ ap (λ l. text_of s.lines ++ l) (sym (append_assoc s.line (10 ∷ []) rest)) ∙ sym (append_assoc (text_of s.lines) (s.line ++ 10 ∷ []) rest) ∙ ap (λ l. l ++ rest) (sym texts);
      size = omega (arith, s.size, s.begins, ap length texts, length-append (text_of s.lines) (s.line ++ 10 ∷ []), length-append s.line (10 ∷ []));
      begins = omega arith;
      are_lines = lines_both s.lines (s.line ∷ []) s.are_lines (s.is_line, tt);
      is_line = tt;
    }

no_zero_line : (line : List ℕ) → IsLine line → HasNoZero line
no_zero_line [] is = tt
no_zero_line (b ∷ line) is = (is.0, no_zero_line line is.2)

-- a line without its line feed is no whole line
no_whole : (begun line : List ℕ) → IsLine line → whole_from begun line ≡ []
no_whole begun [] is = refl
no_whole begun (b ∷ line) is = rw is.1 (no_whole (begun ++ b ∷ []) line is.2)

pub nothing_behind : (line rest : List ℕ) → IsLine line → until_zero rest ≡ [] → whole_from [] (until_zero (line ++ rest)) ≡ []
nothing_behind line rest is none =
    ap (whole_from []) (until_zero_behind line rest (no_zero_line line is) ∙ ap (λ l. line ++ l) none ∙ append-nil line) ∙ no_whole [] line is

pub lines_are : (lines : List (List ℕ)) (line rest : List ℕ) → AreLines lines → IsLine line → until_zero rest ≡ [] → whole_lines_before_zero (text_of lines ++ (line ++ rest)) ≡ lines
lines_are lines line rest are is none =
    ap (whole_from []) (until_zero_behind (text_of lines) (line ++ rest) (no_zero lines are))
    ∙ reads_lines lines (until_zero (line ++ rest)) are
    ∙ ap (λ l. lines ++ l) (nothing_behind line rest is none)
    ∙ append-nil lines

module _ (bytes : List ℕ) (end at : ℕ) (rest : List ℕ) (s : Stands bytes end at rest) (none : until_zero rest ≡ []) where
  pub text_found : take end bytes ≡ text_of (whole_lines_before_zero bytes)
  text_found =
      ap (take end) s.splits ∙ take_at (text_of s.lines) (s.line ++ rest) end (sym s.size)
      ∙ ap text_of (sym (ap whole_lines_before_zero s.splits ∙ lines_are s.lines s.line rest s.are_lines s.is_line none))

  pub rest_found : whole_from [] (until_zero (drop end bytes)) ≡ []
  rest_found =
      ap (λ l. whole_from [] (until_zero (drop end l))) s.splits
      ∙ ap (λ l. whole_from [] (until_zero l)) (drop_at (text_of s.lines) (s.line ++ rest) end (sym s.size))
      ∙ nothing_behind s.line rest s.is_line none

module _ (bytes : List ℕ) (end at : ℕ) (rest : List ℕ) (s : Stands bytes end at rest) (none : until_zero rest ≡ []) where
  pub lines_found : AreLines (whole_lines_before_zero bytes)
  lines_found = subst AreLines (sym (ap whole_lines_before_zero s.splits ∙ lines_are s.lines s.line rest s.are_lines s.is_line none)) s.are_lines

-- Steps of the loop

pub at_zero : (bytes : List ℕ) (i : ℕ) → i < length bytes → get_or bytes i 0 ≡ 0 → until_zero (drop i bytes) ≡ []
at_zero bytes i lt is_zero = ap until_zero (drop_more bytes i 0 lt) ∙ ap (λ b. until_zero (b ∷ drop (i + 1) bytes)) is_zero

pub at_end : (bytes : List ℕ) (i : ℕ) → length bytes ≤ i → until_zero (drop i bytes) ≡ []
at_end bytes i le = at_drop_all until_zero bytes i le

pub at_feed : (bytes : List ℕ) (end i : ℕ) → i < length bytes → get_or bytes i 0 ≡ 10 → Stands bytes end i (drop i bytes) → Stands bytes (i + 1) (i + 1) (drop (i + 1) bytes)
at_feed bytes end i lt feed s =
    line_ends bytes end i (drop (i + 1) bytes) (subst (λ b. Stands bytes end i (b ∷ drop (i + 1) bytes)) feed (subst (λ l. Stands bytes end i l) (drop_more bytes i 0 lt) s))

pub is_not : (a b : ℕ) → a ≢ b → (a == b) ≡ false
is_not a b differs = search rules

pub at_other : (bytes : List ℕ) (end i : ℕ) → i < length bytes → get_or bytes i 0 ≢ 0 → get_or bytes i 0 ≢ 10 → Stands bytes end i (drop i bytes) → Stands bytes end (i + 1) (drop (i + 1) bytes)
at_other bytes end i lt zero_not feed_not s =
    one_more bytes end i (get_or bytes i 0) (drop (i + 1) bytes) (subst (λ l. Stands bytes end i l) (drop_more bytes i 0 lt) s) (is_not _ _ zero_not) (is_not _ _ feed_not)

-- Cuts

one_in_front : (begun : List ℕ) (b : ℕ) (bytes : List ℕ) (n : ℕ) → whole_from begun (until_zero (b ∷ bytes)) ≡ []
    → (whole_from (begun ++ b ∷ []) (until_zero bytes) ≡ [] → whole_from (begun ++ b ∷ []) (until_zero (take n bytes)) ≡ [])
    → ((b == 0) ≡ true) ⊎ ((b == 0) ≡ false) → ((b == 10) ≡ true) ⊎ ((b == 10) ≡ false)
    → whole_from begun (until_zero (b ∷ take n bytes)) ≡ []
one_in_front begun b bytes n none below (inl is_zero) feed = rw is_zero refl
one_in_front begun b bytes n none below (inr not_zero) (inl feed) =
    let found : begun ∷ whole_from [] (until_zero bytes) ≡ [] = rw (not_zero, feed) at none in
    absurd (cc found)
one_in_front begun b bytes n none below (inr not_zero) (inr no_feed) =
    let gone_on : whole_from (begun ++ b ∷ []) (until_zero bytes) ≡ [] = rw (not_zero, no_feed) at none in
    rw (not_zero, no_feed) (below gone_on)

-- where no whole line comes, none comes in a front
pub none_in_front : (begun bytes : List ℕ) (n : ℕ) → whole_from begun (until_zero bytes) ≡ [] → whole_from begun (until_zero (take n bytes)) ≡ []
none_in_front begun [] zero none = refl
none_in_front begun [] (suc n) none = refl
none_in_front begun (b ∷ bytes) zero none = refl
none_in_front begun (b ∷ bytes) (suc n) none = one_in_front begun b bytes n none (none_in_front (begun ++ b ∷ []) bytes n) (bool_cases (b == 0)) (bool_cases (b == 10))

take_over : (p q : List ℕ) (n m : ℕ) → length p ≡ m → m ≤ n → take n (p ++ q) ≡ p ++ take (n - m) q
take_over p q n m size le =
    let split : n ≡ length p + (n - m) = omega (arith, size) in
    ap (λ k. take k (p ++ q)) split ∙ take-append-add p q (n - m)
