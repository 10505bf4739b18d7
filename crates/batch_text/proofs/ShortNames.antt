-- Two short names are the same where their lengths are and all of their room is, zeroes included.
use Rattle.std.proofs.Common.{◌≡◌, ◌≤◌, ◌<◌, ◌++◌, arith, ◌-◌, ◌∙◌, ℕ, Bool, zero, suc, true, false, nat_eq, List, [], ◌∷◌, length, refl, sym, ap, subst}
use Rattle.std.{proofs.lemmas.Bool.and_parts, proofs.lemmas.Bool.and_from, proofs.lemmas.Bool.and_right, proofs.lemmas.Bool.eqb-true, proofs.lemmas.Bool.eqb-false, proofs.lemmas.Bool.eq-eqb, proofs.lemmas.List.length-take-le, proofs.lemmas.List.take-append-drop, proofs.lemmas.List.take-take, proofs.lemmas.Nat.le_bytes_8, specs.Cmp.Lexicographic.pointwise, specs.Cmp.Lexicographic.nat_list_eq_equiv, specs.Cmp.Lexicographic.bytes_decides, specs.Bool.Decides, specs.Bool.one_answer, specs.Int.from_le_bytes, specs.Int.to_le_bytes, specs.Int.w64, specs.Prelude.◌≢◌, specs.Prelude.◌&&◌, specs.Prelude.take, specs.Prelude.drop, specs.Prelude.replicate, specs.Prelude.get_or}
use Rattle.batch_text.specs.{Spelling.letters, Spelling.IsWithinRoom, declared.spelling.Spelling.Spelling, declared.spelling.Spelling.TheVariants.Short, declared.spelling.TheConstants.MAX_SHORT_LEN}

same_since_rest : (n : ℕ) (xs ys : List ℕ) → drop n xs ≡ drop n ys → pointwise nat_eq xs ys ≡ pointwise nat_eq (take n xs) (take n ys)
same_since_rest zero xs ys h = ap (λ them. pointwise nat_eq xs them) (sym h) ∙ nat_list_eq_equiv.refl xs
same_since_rest (suc n) [] [] h = refl
same_since_rest (suc n) [] (y ∷ ys) h = refl
same_since_rest (suc n) (x ∷ xs) [] h = refl
same_since_rest (suc n) (x ∷ xs) (y ∷ ys) h = ap (λ more. nat_eq x y && more) (same_since_rest n xs ys h)

differ_in_length : (xs ys : List ℕ) → length xs ≢ length ys → pointwise nat_eq xs ys ≡ false
differ_in_length [] [] h = absurd (h refl)
differ_in_length [] (y ∷ ys) h = refl
differ_in_length (x ∷ xs) [] h = refl
differ_in_length (x ∷ xs) (y ∷ ys) h = and_right (nat_eq x y) (pointwise nat_eq xs ys) (differ_in_length xs ys (λ e. h (ap suc e)))

length_of : (m : ℕ) (xs : List ℕ) → IsWithinRoom (Short m xs) → length (take m xs) ≡ m
length_of m xs (within, whole, zeroes) = length-take-le m xs (subst (λ len. m ≤ len) (sym whole) within)

by_length : (m n : ℕ) (xs ys : List ℕ) → IsWithinRoom (Short m xs) → IsWithinRoom (Short n ys) → (alike : Bool) → nat_eq m n ≡ alike
    → (alike && pointwise nat_eq xs ys) ≡ pointwise nat_eq (take m xs) (take n ys)
by_length m n xs ys (m_in, xs_whole, xs_zeroes) (n_in, ys_whole, ys_zeroes) true e =
    let one : m ≡ n = eqb-true m n e in
    same_since_rest m xs ys (xs_zeroes ∙ ap (λ len. replicate (MAX_SHORT_LEN - len) 0) one ∙ sym ys_zeroes ∙ ap (λ len. drop len ys) (sym one))
    ∙ ap (λ len. pointwise nat_eq (take m xs) (take len ys)) one
by_length m n xs ys p q false e =
    let lengths : length (take m xs) ≢ length (take n ys) = λ same. eqb-false m n e (sym (length_of m xs p) ∙ same ∙ length_of n ys q) in
    sym (differ_in_length (take m xs) (take n ys) lengths)

pub same_with_room : (a b : Spelling) (m n : ℕ) (xs ys : List ℕ) (r : Bool) → a ≡ Short m xs → b ≡ Short n ys → IsWithinRoom a × IsWithinRoom b
    → r ≡ pointwise nat_eq xs ys → (nat_eq m n && r) ≡ pointwise nat_eq (letters a) (letters b)
same_with_room a b m n xs ys r at_a at_b (of_a, of_b) e =
    ap (λ it. nat_eq m n && it) e
    ∙ by_length m n xs ys (subst IsWithinRoom at_a of_a) (subst IsWithinRoom at_b of_b) (nat_eq m n) refl
    ∙ ap (λ it. pointwise nat_eq (letters it) (take n ys)) (sym at_a)
    ∙ ap (λ it. pointwise nat_eq (letters a) (letters it)) (sym at_b)

-- two numbers of eight bytes each are equal just where the bytes are
pub same_word : (xs ys : List ℕ) (m n : ℕ) → length xs ≡ 8 → length ys ≡ 8 → ((i : ℕ) → get_or xs i 0 < 256) → ((i : ℕ) → get_or ys i 0 < 256)
    → m ≡ from_le_bytes w64 xs → n ≡ from_le_bytes w64 ys → nat_eq m n ≡ pointwise nat_eq xs ys
same_word xs ys m n xs_len ys_len xs_in ys_in p q =
    let both : Decides (nat_eq m n) (xs ≡ ys) = (
      λ e. sym (le_bytes_8 xs m xs_len xs_in p) ∙ ap (to_le_bytes w64) (eqb-true m n e) ∙ le_bytes_8 ys n ys_len ys_in q,
      λ e. eq-eqb m n (p ∙ ap (from_le_bytes w64) e ∙ sym q),
    ) in
    one_answer (nat_eq m n) (pointwise nat_eq xs ys) both (bytes_decides xs ys)

same_parts : (xs ys : List ℕ) → take 8 xs ≡ take 8 ys → drop 6 xs ≡ drop 6 ys → xs ≡ ys
same_parts xs ys p q =
    let firsts : take 6 xs ≡ take 6 ys = sym (take-take 6 8 xs (omega arith)) ∙ ap (take 6) p ∙ take-take 6 8 ys (omega arith) in
    sym (take-append-drop 6 xs) ∙ ap (λ it. it ++ drop 6 xs) firsts ∙ ap (λ it. take 6 ys ++ it) q ∙ take-append-drop 6 ys

pub same_by_words : (xs ys first last other_first other_last : List ℕ) (r s : Bool) → first ≡ take 8 xs → last ≡ drop 6 xs → other_first ≡ take 8 ys → other_last ≡ drop 6 ys
    → r ≡ pointwise nat_eq first other_first → s ≡ pointwise nat_eq last other_last → (r && s) ≡ pointwise nat_eq xs ys
same_by_words xs ys first last other_first other_last r s a b c d p q =
    let there : (r && s) ≡ true → xs ≡ ys = λ e. let (one, two) = and_parts r s e in
    same_parts xs ys (sym a ∙ (bytes_decides first other_first).0 (sym p ∙ one) ∙ c) (sym b ∙ (bytes_decides last other_last).0 (sym q ∙ two) ∙ d) in
    let back : xs ≡ ys → (r && s) ≡ true = λ e.
    and_from r s (p ∙ (bytes_decides first other_first).1 (a ∙ ap (take 8) e ∙ sym c)) (q ∙ (bytes_decides last other_last).1 (b ∙ ap (drop 6) e ∙ sym d)) in
    one_answer (r && s) (pointwise nat_eq xs ys) (there, back) (bytes_decides xs ys)
