-- Whole lines of a text, and of texts one behind the other.
use Rattle.std.proofs.Common.{◌≡◌, ◌⊎◌, ℕ, suc, ◌≤◌, List, [], ◌∷◌, ◌++◌, length, take, refl, sym, ◌∙◌, ap, subst, arith, append_assoc, inl, inr, true, false, Bool, ⊎_elim, ◌==◌, if◌then◌else◌}
use Rattle.std.proofs.lemmas.List.{append-nil}
use Rattle.batch_journal.{specs.Lines.IsLine, specs.Lines.AreLines, specs.Lines.text_of, specs.Lines.until_zero, specs.Lines.whole_from, specs.Lines.whole_lines_before_zero, specs.Disks.Begins, proofs.GroupLemmas.bool_cases}

-- no byte of the text is zero
abbrev pub HasNoZero : List ℕ → Type 0
HasNoZero [] = Unit {0}
HasNoZero (b ∷ bs) = ((b == 0) ≡ false) × HasNoZero bs

no_zero_in : (a b : List ℕ) → IsLine a → HasNoZero b → HasNoZero (a ++ b)
no_zero_in [] b line rest = rest
no_zero_in (x ∷ a) b line rest = (line.0, no_zero_in a b line.2 rest)

pub no_zero : (lines : List (List ℕ)) → AreLines lines → HasNoZero (text_of lines)
no_zero [] are = tt
no_zero (line ∷ lines) are = no_zero_in line (10 ∷ text_of lines) are.0 (refl, no_zero lines are.1)

-- a text without a zero stands whole before the first zero
pub until_zero_behind : (a b : List ℕ) → HasNoZero a → until_zero (a ++ b) ≡ a ++ until_zero b
until_zero_behind [] b has = refl
until_zero_behind (x ∷ a) b has = rw has.0 (ap (λ l. x ∷ l) (until_zero_behind a b has.1))

begins_if : (is_zero : Bool) (x : ℕ) (bs xs : List ℕ) → Begins bs xs → Begins (if is_zero then [] else x ∷ bs) (x ∷ xs)
begins_if true x bs xs begins = record { rest = x ∷ xs; splits = refl }
begins_if false x bs xs begins = record { rest = begins.rest; splits = ap (λ l. x ∷ l) begins.splits }

-- a line's bytes are read, and it goes on behind its line feed
pub reads_line : (begun line rest : List ℕ) → IsLine line → whole_from begun (line ++ 10 ∷ rest) ≡ (begun ++ line) ∷ whole_from [] rest
reads_line begun [] rest is = ap (λ l. l ∷ whole_from [] rest) (sym (append-nil begun))
reads_line begun (b ∷ line) rest is = rw is.1 (reads_line (begun ++ b ∷ []) line rest is.2 ∙ ap (λ l. l ∷ whole_from [] rest) (append_assoc begun (b ∷ []) line))

pub reads_lines : (lines : List (List ℕ)) (rest : List ℕ) → AreLines lines → whole_from [] (text_of lines ++ rest) ≡ lines ++ whole_from [] rest
reads_lines [] rest are = refl
reads_lines (line ∷ lines) rest are =
    ap (whole_from []) (append_assoc line (10 ∷ text_of lines) rest)
    ∙ reads_line [] line (text_of lines ++ rest) are.0
    ∙ ap (λ l. line ∷ l) (reads_lines lines rest are.1)

-- a front of a line and the rest: no line ends in it, or it goes on behind the line
pub reads_front : (begun line more p rest : List ℕ) → IsLine line → line ++ 10 ∷ more ≡ p ++ rest
    → (whole_from begun p ≡ []) ⊎ ((q : List ℕ) × (p ≡ line ++ 10 ∷ q) × (more ≡ q ++ rest))
reads_front begun line more [] rest is e = inl refl
reads_front begun [] more (x ∷ q) rest is e =
    let head : 10 ≡ x = cc e in
    let behind : more ≡ q ++ rest = cc e in
    inr (q, ap (λ y. y ∷ q) (sym head), behind)
reads_front begun (b ∷ line) more (x ∷ q) rest is e =
    let head : b ≡ x = cc e in
    let behind : line ++ 10 ∷ more ≡ q ++ rest = cc e in
    let ends : (x == 10) ≡ false = subst (λ y. (y == 10) ≡ false) head is.1 in
    ⊎_elim (λ none. inl (rw ends none)) (λ on. inr (on.0, cc (head, on.1), on.2)) (reads_front (begun ++ x ∷ []) line more q rest is.2 behind)

-- a front of a text of lines has its first lines
pub some_lines : (lines : List (List ℕ)) (p rest : List ℕ) → AreLines lines → text_of lines ≡ p ++ rest
    → (n : ℕ) × (n ≤ length lines) × (whole_from [] p ≡ take n lines)
some_lines [] [] rest are e = (0, omega arith, refl)
some_lines [] (x ∷ p) rest are e = absurd (cc e)
some_lines (line ∷ lines) p rest are e =
    ⊎_elim
    (λ none. (0, omega arith, none))
    (λ on. let found = some_lines lines on.0 rest are.1 on.2 in
    (suc found.0, omega (arith, found.1), ap (whole_from []) on.1 ∙ reads_line [] line on.0 are.0 ∙ ap (λ l. line ∷ l) found.2))
    (reads_front [] line (text_of lines) p rest are.0 e)

pub until_zero_all : (a : List ℕ) → HasNoZero a → until_zero a ≡ a
until_zero_all [] has = refl
until_zero_all (x ∷ a) has = rw has.0 (ap (λ l. x ∷ l) (until_zero_all a has.1))

pub reads_all : (lines : List (List ℕ)) → AreLines lines → whole_from [] (text_of lines) ≡ lines
reads_all [] are = refl
reads_all (line ∷ lines) are = reads_line [] line (text_of lines) are.0 ∙ ap (λ l. line ∷ l) (reads_all lines are.1)

-- texts of lines, one behind the other
pub text_both : (a b : List (List ℕ)) → text_of (a ++ b) ≡ text_of a ++ text_of b
text_both [] b = refl
text_both (line ∷ a) b = ap (λ l. line ++ 10 ∷ l) (text_both a b) ∙ sym (append_assoc line (10 ∷ text_of a) (text_of b))

pub lines_both : (a b : List (List ℕ)) → AreLines a → AreLines b → AreLines (a ++ b)
lines_both [] b are others = others
lines_both (line ∷ a) b are others = (are.0, lines_both a b are.1 others)

pub line_more : (line : List ℕ) (b : ℕ) → IsLine line → (b == 0) ≡ false → (b == 10) ≡ false → IsLine (line ++ b ∷ [])
line_more [] b is no_zero_is feed = (no_zero_is, feed, tt)
line_more (x ∷ line) b is no_zero_is feed = (is.0, is.1, line_more line b is.2 no_zero_is feed)

-- Whole lines

no_zero_if : (b : ℕ) (bytes : List ℕ) → ((b == 0) ≡ true) ⊎ ((b == 0) ≡ false) → HasNoZero (until_zero bytes) → HasNoZero (until_zero (b ∷ bytes))
no_zero_if b bytes (inl is) rest = rw is tt
no_zero_if b bytes (inr not) rest = rw not (not, rest)

no_zero_before : (file : List ℕ) → HasNoZero (until_zero file)
no_zero_before [] = tt
no_zero_before (b ∷ bytes) = no_zero_if b bytes (bool_cases (b == 0)) (no_zero_before bytes)

are_whole_if : (begun : List ℕ) (b : ℕ) (bytes : List ℕ) → ((b == 10) ≡ true) ⊎ ((b == 10) ≡ false) → IsLine begun → HasNoZero (b ∷ bytes)
    → AreLines (whole_from [] bytes) → (IsLine (begun ++ b ∷ []) → AreLines (whole_from (begun ++ b ∷ []) bytes)) → AreLines (whole_from begun (b ∷ bytes))
are_whole_if begun b bytes (inl feed) is none anew on = rw feed (is, anew)
are_whole_if begun b bytes (inr other) is none anew on = rw other (on (line_more begun b is none.0 other))

are_whole : (begun bytes : List ℕ) → IsLine begun → HasNoZero bytes → AreLines (whole_from begun bytes)
are_whole begun [] is none = tt
are_whole begun (b ∷ bytes) is none = are_whole_if begun b bytes (bool_cases (b == 10)) is none (are_whole [] bytes tt none.1) (λ on. are_whole (begun ++ b ∷ []) bytes on none.1)

pub are_whole_lines : (file : List ℕ) → AreLines (whole_lines_before_zero file)
are_whole_lines file = are_whole [] (until_zero file) tt (no_zero_before file)

pub whole_text : (text : List ℕ) (lines : List (List ℕ)) → AreLines lines → text ≡ text_of lines → text ≡ text_of (whole_lines_before_zero text)
whole_text text lines are is =
    is ∙ ap text_of (sym (ap whole_lines_before_zero is ∙ ap (whole_from []) (until_zero_all (text_of lines) (no_zero lines are)) ∙ reads_all lines are))

pub whole_both : (a b c : List ℕ) → a ≡ text_of (whole_lines_before_zero a) → b ≡ text_of (whole_lines_before_zero c) → a ++ b ≡ text_of (whole_lines_before_zero (a ++ b))
whole_both a b c is_a is_b = whole_text (a ++ b) (whole_lines_before_zero a ++ whole_lines_before_zero c) (lines_both (whole_lines_before_zero a) (whole_lines_before_zero c) (are_whole_lines a) (are_whole_lines c))
    (ap (λ l. l ++ b) is_a ∙ ap (λ l. text_of (whole_lines_before_zero a) ++ l) is_b ∙ sym (text_both (whole_lines_before_zero a) (whole_lines_before_zero c)))
