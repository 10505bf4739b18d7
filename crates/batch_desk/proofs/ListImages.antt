-- Lists with the same images under a function.
use Rattle.std.proofs.Common.{◌≡◌, ℕ, zero, suc, List, [], ◌∷◌, map, length, get_or, set, refl, ◌∙◌, ap, arith}
use Rattle.std.proofs.lemmas.List.{length-map}

-- one element is changed to one with the same image under f
pub map-changed : {X Y : Type 0} (f : X → Y) (xs : List X) (i : ℕ) (x y : X) → x ≡ get_or xs i x → f y ≡ f x → map f (set xs i y) ≡ map f xs
map-changed f [] i x y at e = refl
map-changed f (z ∷ zs) zero x y at e = ap (λ w. w ∷ map f zs) (e ∙ ap f at)
map-changed f (z ∷ zs) (suc i) x y at e = ap (λ ws. f z ∷ ws) (map-changed f zs i x y at e)

pub map-same_length : {X Y : Type 0} (f : X → Y) (xs ys : List X) → map f xs ≡ map f ys → length xs ≡ length ys
map-same_length f xs ys e = omega (arith, length-map xs f, length-map ys f, ap length e)
