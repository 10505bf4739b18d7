-- Groups that are taken.
use Rattle.std.proofs.Common.{◌≡◌, ◌⊎◌, ℕ, Bool, true, false, List, [], ◌∷◌, ◌++◌, Some, None, not, refl, sym, ◌∙◌, ap, subst, inl, inr, append_assoc}
use Rattle.std.proofs.lemmas.{Bool.not-true, List.append-nil}
use Rattle.batch_journal.specs.Groups.{Format, taken, is_left, at_rest, last_sum, AreOthers, GroupsGoOn, GroupIsTaken, TornIsLeft}

pub bool_cases : (t : Bool) → (t ≡ true) ⊎ (t ≡ false)
bool_cases true = inl refl
bool_cases false = inr refl

abbrev Both : Format → List ℕ → List ℕ → List (List ℕ) → List (List ℕ) → List (List ℕ) → Type 0
Both f sum last begun a b = (taken f sum begun (a ++ b) ≡ taken f sum begun a ++ taken f last [] b) × (last_sum f sum begun (a ++ b) ≡ last_sum f last [] b)

rest_of : (f : Format) (sum last : List ℕ) (begun b : List (List ℕ)) → at_rest sum begun ≡ Some last → Both f sum last begun [] b
rest_of f sum last [] b is = let same : sum ≡ last = cc is in subst (λ s. Both f sum s [] [] b) same (refl, refl)
rest_of f sum last (line ∷ lines) b is = absurd (cc is)

one : (f : Format) (sum last : List ℕ) (begun : List (List ℕ)) (line : List ℕ) (a b : List (List ℕ))
    → (f.own line ≡ true) ⊎ (f.own line ≡ false) → (f.closes (f.next sum begun) line ≡ true) ⊎ (f.closes (f.next sum begun) line ≡ false)
    → last_sum f sum begun (line ∷ a) ≡ Some last
    → (last_sum f (f.next sum begun) [] a ≡ Some last → Both f (f.next sum begun) last [] a b)
    → (last_sum f sum (begun ++ line ∷ []) a ≡ Some last → Both f sum last (begun ++ line ∷ []) a b)
    → Both f sum last begun (line ∷ a) b
one f sum last begun line a b (inl own) (inl closes) is closed on =
    let below : last_sum f (f.next sum begun) [] a ≡ Some last = rw (own, closes) at is in
    let both = closed below in
    rw (own, closes) (ap (λ l. begun ++ l) both.0 ∙ sym (append_assoc begun (taken f (f.next sum begun) [] a) (taken f last [] b)), both.1)
one f sum last begun line a b (inl own) (inr not) is closed on =
    let none : None ≡ Some last = rw (own, not) at is in
    absurd (cc none)
one f sum last begun line a b (inr other) closes is closed on =
    let below : last_sum f sum (begun ++ line ∷ []) a ≡ Some last = rw other at is in
    let both = on below in
    rw other both

pub go_on : GroupsGoOn
go_on f sum last begun [] b is = rest_of f sum last begun b is
go_on f sum last begun (line ∷ a) b is =
    one f sum last begun line a b (bool_cases (f.own line)) (bool_cases (f.closes (f.next sum begun) line)) is
    (λ below. go_on f (f.next sum begun) last [] a b below) (λ below. go_on f sum last (begun ++ line ∷ []) a b below)

whole : (f : Format) (sum : List ℕ) (begun lines : List (List ℕ)) (closing : List ℕ) → AreOthers f lines → f.own closing ≡ true → f.closes (f.next sum (begun ++ lines)) closing ≡ true
    → (taken f sum begun (lines ++ closing ∷ []) ≡ begun ++ lines) × (last_sum f sum begun (lines ++ closing ∷ []) ≡ Some (f.next sum (begun ++ lines)))
whole f sum begun [] closing are own closes =
    let here : f.closes (f.next sum begun) closing ≡ true = subst (λ l. f.closes (f.next sum l) closing ≡ true) (append-nil begun) closes in
    rw (own, here) (refl, ap (λ l. Some (f.next sum l)) (sym (append-nil begun)))
whole f sum begun (line ∷ lines) closing are own closes =
    let seam = append_assoc begun (line ∷ []) lines in
    let below = whole f sum (begun ++ line ∷ []) lines closing are.1 own (subst (λ l. f.closes (f.next sum l) closing ≡ true) (sym seam) closes) in
    rw are.0 (below.0 ∙ seam, below.1 ∙ ap (λ l. Some (f.next sum l)) seam)

pub is_taken : GroupIsTaken
is_taken f sum lines closing are own closes = whole f sum [] lines closing are own closes

pub torn : TornIsLeft
torn f sum begun [] are = refl
torn f sum begun (line ∷ lines) are = rw are.0 (torn f sum (begun ++ line ∷ []) lines are.1)

-- lines that have begun, and others behind them, are one group
pub left_on : (f : Format) (sum : List ℕ) (begun a b : List (List ℕ)) → AreOthers f a → is_left f sum begun (a ++ b) ≡ is_left f sum (begun ++ a) b
left_on f sum begun [] b are = ap (λ l. is_left f sum l b) (sym (append-nil begun))
left_on f sum begun (line ∷ a) b are = rw are.0 (left_on f sum (begun ++ line ∷ []) a b are.1 ∙ ap (λ l. is_left f sum l b) (append_assoc begun (line ∷ []) a))

-- at a closing line with another sum nothing more is taken
pub wrong_sum : (f : Format) (sum : List ℕ) (begun : List (List ℕ)) (line : List ℕ) (more : List (List ℕ)) → f.own line ≡ true → f.closes (f.next sum begun) line ≡ false
    → is_left f sum begun (line ∷ more) ≡ true
wrong_sum f sum begun line more own closes = rw (own, closes) refl

-- and only there
pub left_wrong : (f : Format) (sum : List ℕ) (lines : List (List ℕ)) (line : List ℕ) (more : List (List ℕ)) → is_left f sum [] (lines ++ line ∷ more) ≡ true
    → AreOthers f lines → f.own line ≡ true → f.closes (f.next sum lines) line ≡ false
left_wrong f sum lines line more left others own =
    let here : not (f.closes (f.next sum lines) line) ≡ true = rw own at (sym (left_on f sum [] lines (line ∷ more) others) ∙ left) in
    not-true (f.closes (f.next sum lines) line) here

left_if : (f : Format) (sum : List ℕ) (begun : List (List ℕ)) (line : List ℕ) (lines : List (List ℕ)) → (f.own line ≡ true) ⊎ (f.own line ≡ false)
    → is_left f sum begun (line ∷ lines) ≡ true → (is_left f sum (begun ++ line ∷ []) lines ≡ true → taken f sum (begun ++ line ∷ []) lines ≡ [])
    → taken f sum begun (line ∷ lines) ≡ []
left_if f sum begun line lines (inl own) left on =
    let here : not (f.closes (f.next sum begun) line) ≡ true = rw own at left in
    rw (own, not-true (f.closes (f.next sum begun) line) here) refl
left_if f sum begun line lines (inr other) left on =
    let below : is_left f sum (begun ++ line ∷ []) lines ≡ true = rw other at left in
    rw other (on below)

-- then nothing is taken
pub nothing_taken : (f : Format) (sum : List ℕ) (begun lines : List (List ℕ)) → is_left f sum begun lines ≡ true → taken f sum begun lines ≡ []
nothing_taken f sum begun [] left = refl
nothing_taken f sum begun (line ∷ lines) left = left_if f sum begun line lines (bool_cases (f.own line)) left (nothing_taken f sum (begun ++ line ∷ []) lines)

none_of_both : {A : Type 0} (a b : List A) → a ++ b ≡ [] → (a ≡ []) × (b ≡ [])
none_of_both [] b is = (refl, is)
none_of_both (x ∷ a) b is = absurd (cc is)

none_first : (f : Format) (sum : List ℕ) (begun : List (List ℕ)) (line : List ℕ) (a b : List (List ℕ))
    → (f.own line ≡ true) ⊎ (f.own line ≡ false) → (f.closes (f.next sum begun) line ≡ true) ⊎ (f.closes (f.next sum begun) line ≡ false)
    → taken f sum begun (line ∷ (a ++ b)) ≡ []
    → (taken f (f.next sum begun) [] (a ++ b) ≡ [] → taken f (f.next sum begun) [] a ≡ [])
    → (taken f sum (begun ++ line ∷ []) (a ++ b) ≡ [] → taken f sum (begun ++ line ∷ []) a ≡ [])
    → taken f sum begun (line ∷ a) ≡ []
none_first f sum begun line a b (inl own) (inl closes) none closed on =
    let both : begun ++ taken f (f.next sum begun) [] (a ++ b) ≡ [] = rw (own, closes) at none in
    let parts = none_of_both begun _ both in
    rw (own, closes) (ap (λ l. l ++ taken f (f.next sum begun) [] a) parts.0 ∙ closed parts.1)
none_first f sum begun line a b (inl own) (inr not) none closed on = rw (own, not) refl
none_first f sum begun line a b (inr other) closes none closed on =
    let below : taken f sum (begun ++ line ∷ []) (a ++ b) ≡ [] = rw other at none in
    rw other (on below)

-- where nothing is taken of lines, nothing is taken of the first of them
pub none_taken_first : (f : Format) (sum : List ℕ) (begun a b : List (List ℕ)) → taken f sum begun (a ++ b) ≡ [] → taken f sum begun a ≡ []
none_taken_first f sum begun [] b none = refl
none_taken_first f sum begun (line ∷ a) b none =
    none_first f sum begun line a b (bool_cases (f.own line)) (bool_cases (f.closes (f.next sum begun) line)) none
    (none_taken_first f (f.next sum begun) [] a b) (none_taken_first f sum (begun ++ line ∷ []) a b)
