-- The number of shares that are held and asked for.
use Rattle.std.proofs.Common.{◌≡◌, ◌+◌, ℕ, List, [], ◌∷◌, ◌++◌, arith, length, refl}
use Rattle.std.{specs.Prelude.sum_by, proofs.lemmas.List.Sums.sum_by-append, proofs.lemmas.List.Sums.sum_by-cons}
use Rattle.batch_recipe.specs.{declared.need.Need.Need, Tree.Place}
use Rattle.batch_record_laws.proofs.PlantFacts.{Fact, holding, awaiting, performing, Standing, held_at}

-- a share that is held or asked for
abbrev pub weight : Fact → ℕ
weight (holding r) = 1
weight (awaiting r) = 1
weight (performing x) = 0

abbrev pub weights : List Standing → ℕ
weights es = sum_by (λ (e : Standing). weight e.1) es

pub join : (xs ys : List Standing) → weights (xs ++ ys) ≡ weights xs + weights ys
join xs ys = sum_by-append (λ (e : Standing). weight e.1) xs ys

pub held : (p : Place) (names : List Need) → weights (held_at p names) ≡ length names
held p [] = refl
held p (r ∷ names) = omega (arith, sum_by-cons (λ (e : Standing). weight e.1) (let e : Standing = (p, holding r) in e) (held_at p names), held p names)
