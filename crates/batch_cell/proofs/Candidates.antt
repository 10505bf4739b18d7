-- The units of a class, one by one.
use Rattle.std.proofs.Common.{◌≡◌, ℕ, suc, ◌+◌, ◌<◌, ◌≤◌, Bool, List, ◌∷◌, length, filter, get_or, take, drop, sym, ◌∙◌, ap, arith, add-one, drop-cons}
use Rattle.std.proofs.lemmas.List.{length-take, Sums.length-filter, Sums.count_by-le-length}
use Rattle.batch_cell.specs.declared.unit.Unit.{Unit}

cut : (units : List Unit) (number : ℕ) (u : Unit) → number < length units → u ≡ get_or units number u → drop number units ≡ u ∷ drop (number + 1) units
cut units number u below is = rw add-one (drop-cons units number u below ∙ ap (λ (x : Unit). x ∷ drop (suc number) units) (sym is))

-- those that were counted are no more than the units
pub few_counted : {X : Type 0} (p : X → Bool) (xs : List X) (i : ℕ) → length (filter p (take i xs)) ≤ length xs
few_counted p xs i = omega (arith, length-filter p (take i xs), count_by-le-length p (take i xs), length-take i xs)
