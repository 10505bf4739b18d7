-- The offsets that are told of a text are the only ones.
use Rattle.std.proofs.Common.{◌≡◌, ℕ, ◌+◌, ◌<◌, ◌≤◌, List, ◌++◌, take, drop, sym, ap, ◌∙◌, subst, append_assoc, inl, inr, arith}
use Rattle.std.proofs.lemmas.{List.take-append-drop, List.take-take, Bool.cases_lt}
use Rattle.batch_recipe.specs.Diagram.{Diagram}
use Rattle.batch_reader.{specs.ChartGrammar.Offsets, specs.ChartGrammar.IsWideChart, specs.ChartAnswer.first_of, specs.ChartAnswer.HasFaultAt, specs.ChartAnswer.IsOutsideAt, proofs.ChartCompleteness.one_chart, proofs.ChartReader.first_or-none}

pub same_outside : (text : List ℕ) (a b : Diagram) (f g : Offsets) → IsWideChart text a f → IsWideChart text b g → first_of f.outside ≡ first_of g.outside
same_outside text a b f g x y = grind (arith, first_or-none f.outside, one_chart x y, first_or-none g.outside)

pub same_par : (text : List ℕ) (a b : Diagram) (f g : Offsets) → IsWideChart text a f → IsWideChart text b g → first_of f.pars ≡ first_of g.pars
same_par text a b f g x y = grind (arith, first_or-none f.pars, one_chart x y, first_or-none g.pars)

pub one_number : (text : List ℕ) (m n : ℕ) → IsOutsideAt text m → IsOutsideAt text n → m ≡ n
one_number text m n x y = grind (arith, same_outside)

-- the prefix of the text up to n is the one up to m, and more
longer_front : (text rest : List ℕ) (m n : ℕ) → m ≤ n → take n text ++ rest ≡ take m text ++ (drop m (take n text) ++ rest)
longer_front text rest m n h =
    let front = take n text in
    ap (λ l. l ++ rest) (sym (take-append-drop m front)) ∙ append_assoc (take m front) (drop m front) rest
    ∙ ap (λ l. l ++ (drop m front ++ rest)) (take-take m n text h)

-- a longer prefix begins a chart, and a shorter one none
not_later : (text : List ℕ) (m n : ℕ) → HasFaultAt text m → HasFaultAt text n → m < n → ⊥
not_later text m n x y h =
    let front = y.front in
    let within = y.within in
    let rest = drop (m + 1) (take n text) ++ front.0 in
    let wide = subst (λ l. IsWideChart l front.1 front.2) (longer_front text front.0 (m + 1) n (omega (arith, h))) front.3 in
    x.no_front (omega (arith, h, within)) rest front.1 front.2 wide

pub one_fault : (text : List ℕ) (m n : ℕ) → HasFaultAt text m → HasFaultAt text n → m ≡ n
one_fault text m n x y =
    elim (cases_lt m n) [
      | inl h ↦ absurd (not_later text m n x y h)
      | inr h ↦ elim (cases_lt n m) [ inl k ↦ absurd (not_later text n m y x k) | inr k ↦ omega (arith, h, k) ]
    ]
