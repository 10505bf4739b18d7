-- Who takes a role in a binding that is tried is one of its candidates, by number.
use Rattle.std.proofs.Common.{◌≡◌, ℕ, Bool, true, false, if◌then◌else◌, ltb, List, [], ◌∷◌, map, slice_get, option_map, option_copied, Option, Some, None, refl, sym, ap, ap₂, ◌∙◌}
use Rattle.std.proofs.lemmas.Option.{same_Some, slice_get-map}
use Rattle.batch_cell.specs.LookUps.{resources_of, units_of_class}
use Rattle.batch_cell.specs.declared.cell.Cell as equipment
use Rattle.batch_recipe.specs.{Conditions.Name, Conditions.same_name, declared.role.Role.Role}
use Rattle.batch_set.proofs.CandidateNumbers.{number_of}
use Rattle.batch_verify.{specs.Asking.rank_by, specs.Bindings.candidate_of, specs.Bindings.nobody, specs.Bindings.role_named, specs.Spans.ranks_or_none, specs.Trials.better, specs.Trials.bound_by, specs.Trials.extreme, specs.Trials.extreme_from, specs.Trials.is_better, specs.Trials.raised_for, specs.Trials.raised_unit, specs.Trials.rank_at, specs.Trials.rank_or_0, specs.Trials.taker_by, specs.declared.trial.Trial.Trial, specs.declared.trial.Trial.TheVariants.Leveled, specs.declared.trial.Trial.TheVariants.Numbered, specs.declared.trial.Trial.TheVariants.Raised, proofs.RoleTakers.nobody_unknown}

-- One of a list is picked as its image is picked of the images

module _ {X Y : Type 0} (f : X → Y) where
  candidate-map : (xs : List X) (n : ℕ) → option_map f (candidate_of xs n) ≡ candidate_of (map f xs) n
  candidate-map xs n =
      go (slice_get xs n)
      ∙ (ap (λ (first : Option Y). elim (option_map f (slice_get xs n)) [ None ↦ first | Some unit ↦ Some unit ]) (sym (slice_get-map f xs 0))
      ∙ ap (λ (found : Option Y). elim found [ None ↦ slice_get (map f xs) 0 | Some unit ↦ Some unit ]) (sym (slice_get-map f xs n)))
    where
      go : (o : Option X) → option_map f (elim o [ None ↦ slice_get xs 0 | Some unit ↦ Some unit ]) ≡ elim (option_map f o) [ None ↦ option_map f (slice_get xs 0) | Some unit ↦ Some unit ]
      go None = refl
      go (Some unit) = refl

  module _ (rank : X → ℕ) (own : Y → ℕ) (same : (x : X) → rank x ≡ own (f x)) (b : Bool) where
    better-map : (one other : X) → f (better rank b (Some one) other) ≡ better own b (Some (f one)) (f other)
    better-map one other = go (is_better rank b one other) ∙ ap (λ (t : Bool). if t then f other else f one) (test b)
      where
        go : (t : Bool) → f (if t then other else one) ≡ (if t then f other else f one)
        go true = refl
        go false = refl

        test : (b : Bool) → is_better rank b one other ≡ is_better own b (f one) (f other)
        test true = ap₂ ltb (same one) (same other)
        test false = ap₂ ltb (same other) (same one)

    from-map : (best : X) (xs : List X) → f (extreme_from rank b best xs) ≡ extreme_from own b (f best) (map f xs)
    from-map best [] = refl
    from-map best (x ∷ xs) = from-map (better rank b (Some best) x) xs ∙ ap (λ y. extreme_from own b y (map f xs)) (better-map best x)

    extreme-map : (xs : List X) → option_map f (extreme rank b xs) ≡ extreme own b (map f xs)
    extreme-map [] = refl
    extreme-map (x ∷ xs) = ap Some (from-map x xs)

module _ (c : equipment.Cell) where
  abbrev given : Option Name → Name
  given picked = elim picked [ None ↦ nobody (resources_of c) | Some unit ↦ unit ]

  -- by number the unit that takes a role is the one that is picked among the numbers; nobody has none
  picked-number : (who : Option Name → Name) → who None ≡ nobody (resources_of c) → ((unit : Name) → who (Some unit) ≡ unit)
      → (picked : Option Name) (taker : Option ℕ) → option_map (number_of c) picked ≡ option_map (λ (n : ℕ). Some n) taker → number_of c (who picked) ≡ taker
  picked-number who none some None None e = ap (number_of c) none ∙ nobody_unknown (resources_of c)
  picked-number who none some (Some unit) (Some n) e = ap (number_of c) (some unit) ∙ same_Some (number_of c unit) (Some n) e
  picked-number who none some None (Some n) e = absurd cc
  picked-number who none some (Some unit) None e = absurd cc

  -- the units of a class, and their numbers
  module _ (units : List Name) (numbers : List ℕ) (said : map (number_of c) units ≡ map (λ (n : ℕ). Some n) numbers) where
    candidate-number : (n : ℕ) → number_of c (given (candidate_of units n)) ≡ candidate_of numbers n
    candidate-number n =
        picked-number given refl (λ unit. refl) (candidate_of units n) (candidate_of numbers n)
        (candidate-map (number_of c) units n ∙ (ap (λ (xs : List (Option ℕ)). candidate_of xs n) said ∙ sym (candidate-map (λ (k : ℕ). Some k) numbers n)))

    extreme-number : (ranks : Option (List ℕ)) (b : Bool) → number_of c (raised_unit c (extreme (rank_or_0 c ranks) b units)) ≡ extreme (rank_at (ranks_or_none ranks)) b numbers
    extreme-number ranks b =
        let own : Option ℕ → ℕ = rank_by (ranks_or_none ranks) in
        picked-number (raised_unit c) refl (λ unit. refl) (extreme (rank_or_0 c ranks) b units) (extreme (rank_at (ranks_or_none ranks)) b numbers)
        (extreme-map (number_of c) (rank_or_0 c ranks) own (λ name. refl) b units
        ∙ (ap (extreme own b) said ∙ sym (extreme-map (λ (k : ℕ). Some k) (rank_at (ranks_or_none ranks)) own (λ number. refl) b numbers)))

  pub taker-is : (roles : List Role) (trial : Trial) (role : Role) → role_named roles role.name ≡ Some role
      → (numbers : List ℕ) → map (number_of c) (units_of_class c role.class) ≡ map (λ (n : ℕ). Some n) numbers
      → number_of c (bound_by c roles trial role.name) ≡ taker_by trial role.name numbers
  taker-is roles (Numbered n) role own numbers said = ap (λ (found : Option Role). number_of c (given (picked found))) own ∙ candidate-number (units_of_class c role.class) numbers said n
    where
      picked : Option Role → Option Name
      picked found = elim found [ None ↦ None | Some r ↦ candidate_of (units_of_class c r.class) n ]
  taker-is roles (Raised raised ranks) role own numbers said =
      ap (λ (found : Option Role). number_of c (raised_for c (rank_or_0 c (option_copied ranks)) (same_name role.name raised.now) found)) own
      ∙ extreme-number (units_of_class c role.class) numbers said (option_copied ranks) (same_name role.name raised.now)
  taker-is roles (Leveled is_highest ranks) role own numbers said =
      ap (λ (found : Option Role). number_of c (raised_for c (rank_or_0 c (option_copied ranks)) is_highest found)) own ∙ extreme-number (units_of_class c role.class) numbers said (option_copied ranks) is_highest
