-- A text over which a block was copied, of which only the front is meant.
use Rattle.std.proofs.Common.{◌≡◌, ℕ, ◌+◌, ◌≤◌, List, ◌++◌, length, take, length-take-le, sym, ap, ◌∙◌}
use Rattle.std.proofs.{lemmas.List.take-append-le, Math.Seq.take-append-add}

pub front_put : (a n : ℕ) (xs ys rest : List ℕ) → a ≤ length xs → n ≤ length ys → take (a + n) (take a xs ++ (ys ++ rest)) ≡ take a xs ++ take n ys
front_put a n xs ys rest within few =
    ap (λ m. take (m + n) (take a xs ++ (ys ++ rest))) (sym (length-take-le a xs within))
    ∙ take-append-add (take a xs) (ys ++ rest) n
    ∙ ap (λ t. take a xs ++ t) (take-append-le n ys rest few)
