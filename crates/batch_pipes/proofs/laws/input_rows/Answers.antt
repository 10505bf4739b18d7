use Rattle.std.proofs.Common.{◌≡◌, ◌∙◌, ℕ, Bool, true, false, List, [], ◌∷◌, ◌++◌, Option, Some, option_map, string_bytes, inl, inr, refl, sym, ap, subst}
use Rattle.std.proofs.lemmas.Bool.{false≢true}
use Rattle.batch_wire.specs.Transcript.{lines_of}
use Rattle.batch_serve.specs.{CleanLines.clean_lines, Replays.IsWholeLines}
use Rattle.batch_pipes.specs.{InputOrder.given_by, RowsOfInputs.IsServed, RowsOfInputs.two_lines}
use Rattle.batch_pipes.proofs.laws.input_rows.Goals as goal

-- the bytes of the input are known
bytes_are : (path : Option (List ℕ)) (some bytes : List ℕ) → path ≡ Some some → given_by (λ _. Some two_lines) path ≡ Some bytes → bytes ≡ two_lines
bytes_are path some bytes is known =
    let same : Some two_lines ≡ Some bytes = subst (λ p. given_by (λ _. Some two_lines) p ≡ Some bytes) is known in
    cc

known_so : (path : Option (List ℕ)) (some : List ℕ) → path ≡ Some some → given_by (λ _. Some two_lines) path ≡ Some two_lines
known_so path some is = subst (λ p. given_by (λ _. Some two_lines) p ≡ Some two_lines) (sym is) refl

no_half : IsWholeLines (1 ∷ []) → ⊥
no_half (inl none) = cc none
no_half (inr ([], is)) = cc is
no_half (inr (x ∷ [], is)) = cc is
no_half (inr (x ∷ y ∷ front, is)) = cc is

served : (is_cut : Bool) (text rest : List ℕ) → IsWholeLines (text ++ []) → two_lines ≡ (text ++ []) ++ rest → (is_cut ≡ false → rest ≡ []) → IsServed is_cut text
served is_cut text rest whole splits all path plan desk has cut = record {
  whole = whole;
  begun = λ bytes known. (
    rest,
    ap (λ b. clean_lines (lines_of b)) (bytes_are (option_map string_bytes plan.input) path bytes has known) ∙ splits,
    λ uncut. all (sym cut ∙ uncut),
  );
}

pub returns-clause-front : goal.returns-clause-front
returns-clause-front c = (
  served false two_lines [] (inr (1 ∷ 10 ∷ 2 ∷ [], refl)) refl (λ uncut. refl),
  served true (1 ∷ 10 ∷ []) (2 ∷ 10 ∷ []) (inr (1 ∷ [], refl)) refl (λ uncut. absurd (false≢true (sym uncut))),
)

pub returns-clause-all : goal.returns-clause-all
returns-clause-all c = λ path plan desk has cut own.
    let (rest, is, all) = own.begun two_lines (known_so (option_map string_bytes plan.input) path has) in
    let none : rest ≡ [] = all cut in
    cc (is, none)

pub returns-clause-no_other : goal.returns-clause-no_other
returns-clause-no_other c = (
  λ path plan desk has cut own. cc (own.begun two_lines (known_so (option_map string_bytes plan.input) path has)).1,
  λ path plan desk has cut own. cc (own.begun two_lines (known_so (option_map string_bytes plan.input) path has)).1,
  λ path plan desk has cut own. no_half own.whole,
)

pub returns-clause-none : goal.returns-clause-none
returns-clause-none c = λ plan desk none own.
    let known : given_by (λ _. Some two_lines) (option_map string_bytes plan.input) ≡ Some [] =
    subst (λ p. given_by (λ _. Some two_lines) (option_map string_bytes p) ≡ Some []) (sym none) refl in
    cc (own.begun [] known).1

pub returns-clause-end : goal.returns-clause-end
returns-clause-end c = (
  record {
    whole = (inr (1 ∷ [], refl), (inr (2 ∷ [], refl), (inl refl, tt)));
    begun = λ text known.
        let same : text ≡ two_lines = cc in
        ([], same, λ end. refl);
  },
  λ h. let (rest, is, all) = h.begun two_lines refl in let none : rest ≡ [] = all refl in cc (is, none),
  λ h. no_half h.whole.0,
)
