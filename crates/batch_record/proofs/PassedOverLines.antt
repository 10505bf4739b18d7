-- Lines that are passed over are the text of no out.
use Rattle.std.proofs.Common.{◌≡◌, ℕ, Bool, true, false, ◌||◌, List, [], ◌∷◌, codes, None, refl, sym, subst}
use Rattle.std.{proofs.lemmas.Bool.eqb-true, specs.List.slice_split, specs.List.onto_first, specs.Str.bytes_eq}
use Rattle.batch_wire.specs.EventLine.{is_space, is_comment}
use Rattle.batch_record.{specs.RecordLine.out_of_words, specs.RecordLine.out_of_line, specs.Laws.is_fault_line, specs.Laws.is_passed_over, specs.Laws.TellsNothing, proofs.WordRoundTrips.is_word, proofs.OutFromWords.line-no_out}

by_parts : (parts : List (List ℕ)) → out_of_words (onto_first 35 parts) ≡ None
by_parts [] = refl
by_parts (part ∷ parts) = refl

comment-none : (line : List ℕ) → is_comment line ≡ true → out_of_line line ≡ None
comment-none [] e = absurd cc
comment-none (b ∷ bs) e = subst (λ c. out_of_line (c ∷ bs) ≡ None) (sym (eqb-true b 35 e)) (by_parts (slice_split is_space bs))

either : (P : Type 0) (a b : Bool) → (a || b) ≡ true → (a ≡ true → P) → (b ≡ true → P) → P
either P true b e f g = f refl
either P false b e f g = g e

module _ (line : List ℕ) where
  abbrev Nothing : Type 0
  Nothing = out_of_line line ≡ None

  at : (text : List ℕ) → out_of_line text ≡ None → bytes_eq line text ≡ true → Nothing
  at text h e = subst (λ l. out_of_line l ≡ None) (sym (is_word line text e)) h

  fault-none : is_fault_line line ≡ true → Nothing
  fault-none e =
      either Nothing _ _ e (at (codes "refused W1") refl) (λ d. either Nothing _ _ d (at (codes "refused W2") refl) (λ f. either Nothing _ _ f (at (codes "refused W3") refl)
      (λ g. either Nothing _ _ g (at (codes "refused W4") refl) (λ h. either Nothing _ _ h (at (codes "refused W5") refl) (at (codes "refused W6") refl)))))

pub passed-nothing : (line : List ℕ) → is_passed_over line ≡ true → TellsNothing line
passed-nothing line e = line-no_out line (either (out_of_line line ≡ None) (is_comment line) (is_fault_line line) e (comment-none line) (fault-none line))
