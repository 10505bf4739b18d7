-- The words of a line, from its front: the first word, up to a space, and the only word of a line without a space.
use Rattle.std.proofs.Common.{◌≡◌, ℕ, ◌+◌, ◌<◌, true, false, List, [], ◌∷◌, length, take, drop, ◌-◌, subst, get_or, sym, ap, ◌∙◌, arith}
use Rattle.std.{specs.List.position_or_len, proofs.lemmas.List.take_rest, proofs.lemmas.List.get_or_default, proofs.lemmas.List.Sums.position_or_len_is, proofs.lemmas.List.Splits.slice_split_first, proofs.lemmas.List.Splits.slice_split_none}
use Rattle.batch_wire.specs.EventLine.{is_space}
use Rattle.batch_record.specs.RecordLine.{line_words}

pub first_word : (line : List ℕ) (i : ℕ) → i < length line → ((k : ℕ) → k < i → is_space (get_or line k 0) ≡ false) → is_space (get_or line i 0) ≡ true
    → line_words line ≡ take i line ∷ line_words (take (length line - (i + 1)) (drop (i + 1) line))
first_word line i h before at =
    let place : position_or_len is_space line ≡ i = position_or_len_is is_space line i 0 (omega arith) before (λ _. at) in
    slice_split_first is_space line 0 (omega (arith, place))
    ∙ ap (λ n. take n line ∷ line_words (drop (n + 1) line)) place
    ∙ ap (λ r. take i line ∷ line_words r) (sym (take_rest line (i + 1)))

pub only_word : (line : List ℕ) → ((k : ℕ) → k < length line → is_space (get_or line k 0) ≡ false) → line_words line ≡ line ∷ []
only_word line h = slice_split_none is_space line (λ k d lt. subst (λ b. is_space b ≡ false) (get_or_default line k 0 d lt) (h k lt))
