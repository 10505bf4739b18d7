-- The bindings that are tried, one after another, are enough.
use Rattle.std.proofs.Common.{◌≡◌, ◌≢◌, ◌⊎◌, ℕ, ◌+◌, ◌<◌, ◌≤◌, Bool, true, false, IsTrue, List, [], ◌∷◌, length, map, slice_get, Option, Some, None, refl, sym, ap, ◌∙◌, subst, arith, inl, inr}
use Rattle.std.{specs.Cmp.Lexicographic.bytes_decides, proofs.lemmas.Bool.cases_lt, proofs.lemmas.Bool.false_from_ne_true, proofs.lemmas.Option.slice_get_within}
use Rattle.batch_cell.specs.LookUps.{units_of_class}
use Rattle.batch_cell.specs.declared.cell.Cell as equipment
use Rattle.batch_recipe.specs.{Conditions.Name, Conditions.same_name, Expanding.Binding, WellFormed.are_roles, declared.recipe.Recipe.Recipe, declared.role.Role.Role}
use Rattle.batch_model.specs.{Lists.Each, Lists.Has, Plant.Role as ModelRole, Plant.Setup, Cleared.Ranking, Recipes.recipe_of, Setups.master_of, Setups.setup_of}
use Rattle.batch_verify.{specs.Bindings.binding_count, specs.Bindings.nobody, specs.Bindings.numbered_binding, specs.Covering.AreBeside, specs.Covering.AreEnough, specs.Covering.IsHighest, specs.Covering.IsLowestTaker, specs.Comparing.earlier_of, specs.Refusals.rank_in, specs.Refusals.ranking_in, specs.Refusals.IsTried, specs.Refusals.IsTriedFor, specs.Refusals.IsVerdict, specs.Refusals.IsVerdictOn, specs.declared.rule.Broken.Broken, specs.Spans.GivesUnits, specs.Trials.extreme, specs.Trials.raised, specs.Trials.raised_for, specs.Trials.raised_unit, specs.Trials.rank_or_0, specs.Trials.roles_raised, proofs.RecipeVerdict.least_verdict, proofs.Extremes.extreme_best, proofs.Extremes.extreme_is, proofs.Extremes.index_of, proofs.LeastVerdict.IsLeast, proofs.LeastVerdict.WithOne, proofs.LeastVerdict.least_fewer, proofs.LeastVerdict.least_next, proofs.NumberedBindings.differ, proofs.NumberedBindings.numbered-gives, proofs.NumberedBindings.numbered-tried, proofs.NumberedBindings.own_role}

module _ (c : equipment.Cell) (recipes : List Recipe) (recipe : Recipe) where
  abbrev setup : Setup
  setup = setup_of c recipes

  abbrev roles : List Role
  roles = recipe.roles.items

  abbrev Named : Name → Type 0
  Named name = IsTrue ((master_of c recipe).names_role name)

  abbrev model_role : Role → ModelRole
  model_role role = record { name = role.name; candidates = units_of_class c role.class }

  -- Who takes a role

  tried_for : (rank : Ranking) (b : Bool) (candidates : List Name) → IsTriedFor setup candidates (raised_unit c (extreme rank b candidates))
  tried_for rank b [] = refl
  tried_for rank b (first ∷ more) = extreme_is rank b first more

  highest_for : (rank : Ranking) (candidates : List Name) → IsHighest setup rank candidates (raised_unit c (extreme rank true candidates))
  highest_for rank [] unit t = subst (λ (n : Name). rank n ≤ rank (nobody setup.resources)) (sym t) (omega arith)
  highest_for rank (first ∷ more) unit t = extreme_best rank true first more unit t

  lowest_for : (rank : Ranking) (candidates : List Name) → IsLowestTaker setup rank candidates (raised_unit c (extreme rank false candidates))
  lowest_for rank [] unit t = subst (λ (n : Name). rank (nobody setup.resources) ≤ rank n) (sym t) (omega arith)
  lowest_for rank (first ∷ more) unit t = extreme_best rank false first more unit t

  -- the one role is taken so where it is raised, and so where another is
  abbrev taken_by : Ranking → Name → Role → Bool → Name
  taken_by rank high role b = raised_unit c (extreme rank b (units_of_class c role.class))

  raised_at : (own : are_roles recipe.roles.items recipe.acts ≡ true) (rank : Ranking) (high : Name) (role : Role) → Has roles role → (b : Bool) → same_name role.name high ≡ b
      → (P : Name → Type 0) → P (taken_by rank high role b) → P (raised c roles rank high role.name)
  raised_at own rank high role m b same P h =
      subst (λ (found : Option Role). P (raised_for c rank (same_name role.name high) found)) (sym (own_role roles (differ c recipes recipe own) role m))
      (subst (λ (t : Bool). P (taken_by rank high role t)) (sym same) h)

  raised-gives : are_roles recipe.roles.items recipe.acts ≡ true → (rank : Ranking) (high : Name) (role : Role) → Has roles role → IsTriedFor setup (units_of_class c role.class) (raised c roles rank high role.name)
  raised-gives own rank high role m =
      raised_at own rank high role m (same_name role.name high) refl (IsTriedFor setup (units_of_class c role.class)) (tried_for rank (same_name role.name high) (units_of_class c role.class))

  pub raised-tried : are_roles recipe.roles.items recipe.acts ≡ true → (rank : Ranking) (high : Name) → IsTried setup (master_of c recipe) (raised c roles rank high)
  raised-tried own rank high = go roles (λ role m. m)
    where
      go : (rest : List Role) → ((role : Role) → Has rest role → Has roles role)
          → Each (λ role. Named role.name → IsTriedFor setup role.candidates (raised c roles rank high role.name)) (map model_role rest)
      go [] h = tt
      go (role ∷ rest) h = ((λ named. raised-gives own rank high role (h role (inl refl))), go rest (λ other m. h other (inr m)))

  -- the bindings by number that were looked at
  abbrev pub ByNumber : ℕ → Binding → Type 0
  ByNumber n b = (i : ℕ) × (i < n) × (b ≡ numbered_binding c roles i)

  -- and those in which one of the first of these roles is raised
  abbrev pub ByRole : List Role → Ranking → ℕ → Binding → Type 0
  ByRole raise rank n b = (k : ℕ) × (k < n) × (role : Role) × (slice_get raise k ≡ Some role) × (b ≡ raised c roles rank role.name)

  abbrev pub Both : List Role → Ranking → ℕ → Binding → Type 0
  Both raise rank n b = ByNumber (binding_count c roles) b ⊎ ByRole raise rank n b

  two_roles : (ranks : List ℕ) (rs : List Role) (high low : Role) → Has rs high → Has rs low → high.name ≢ low.name → roles_raised (Some ranks) rs ≡ rs
  two_roles ranks [] high low m n apart = absurd m
  two_roles ranks (r ∷ []) high low (inl e) (inl f) apart = absurd (apart (ap (λ (q : Role). q.name) (sym e ∙ f)))
  two_roles ranks (r ∷ []) high low (inl e) (inr n) apart = absurd n
  two_roles ranks (r ∷ []) high low (inr m) n apart = absurd m
  two_roles ranks (r ∷ s ∷ rs) high low m n apart = refl

  enough : are_roles recipe.roles.items recipe.acts ≡ true → (ranks : Option (List ℕ)) (n : ℕ) → length (roles_raised ranks roles) ≤ n
      → AreEnough setup (ranking_in c ranks) c roles (Both (roles_raised ranks roles) (rank_or_0 c ranks) n)
  enough own None n all = record { by_number = λ number lt. inl (number, lt, refl); beside = λ rank ranked high low m l apart. absurd cc }
  enough own (Some ranks) n all = record { by_number = λ number lt. inl (number, lt, refl); beside = beside }
    where
      beside : (rank : Ranking) → ranking_in c (Some ranks) ≡ Some rank → (high low : Role) → Has roles high → Has roles low → high.name ≢ low.name
          → AreBeside setup rank c (Both (roles_raised (Some ranks) roles) (rank_in c ranks) n) high low
      beside rank ranked high low m l apart =
          let same : (rank_in c ranks) ≡ rank = cc in
          let at = index_of roles high m in
          let at_raised : slice_get (roles_raised (Some ranks) roles) at.0 ≡ Some high = ap (λ rs. slice_get rs at.0) (two_roles ranks roles high low m l apart) ∙ at.1 in
          let other : same_name low.name high.name ≡ false = false_from_ne_true (same_name low.name high.name) (λ same. apart (sym ((bytes_decides low.name high.name).0 same))) in
          subst (λ (r : Ranking). AreBeside setup r c (Both (roles_raised (Some ranks) roles) (rank_in c ranks) n) high low) same
          (record {
            bound = raised c roles (rank_in c ranks) high.name;
            looked = inr (at.0, omega (arith, all, slice_get_within (roles_raised (Some ranks) roles) at.0 high at_raised), high, at_raised, refl);
            highest = raised_at own (rank_in c ranks) high.name high m true ((bytes_decides high.name high.name).1 refl) (IsHighest setup (rank_in c ranks) (units_of_class c high.class)) (highest_for (rank_in c ranks) (units_of_class c high.class));
            lowest = raised_at own (rank_in c ranks) high.name low l false other (IsLowestTaker setup (rank_in c ranks) (units_of_class c low.class)) (lowest_for (rank_in c ranks) (units_of_class c low.class));
          })

  -- One binding more

  module _ (own : are_roles recipe.roles.items recipe.acts ≡ true) (ranks : Option (List ℕ)) where
    abbrev ranking : Option Ranking
    ranking = ranking_in c ranks

    pub number_none : IsLeast setup ranking (master_of c recipe) (ByNumber 0) None
    number_none b l = absurd (omega (arith, l.1))

    pub number_next : (n : ℕ) (found verdict : Option Broken) → IsLeast setup ranking (master_of c recipe) (ByNumber n) found
        → IsVerdict setup ranking (recipe_of recipe (numbered_binding c roles n)) verdict → IsLeast setup ranking (master_of c recipe) (ByNumber (n + 1)) (earlier_of found verdict)
    number_next n found verdict h v =
        least_fewer setup ranking (master_of c recipe) (WithOne setup ranking (master_of c recipe) (ByNumber n) (numbered_binding c roles n)) (ByNumber (n + 1)) (λ b l. go b l.0 l.1 l.2 (cases_lt l.0 n)) (earlier_of found verdict)
        (least_next setup ranking (master_of c recipe) (ByNumber n) (numbered_binding c roles n) (numbered-tried c recipes recipe own n) found verdict h v)
      where
        go : (b : Binding) (i : ℕ) → i < n + 1 → b ≡ numbered_binding c roles i → (i < n) ⊎ (n ≤ i) → WithOne setup ranking (master_of c recipe) (ByNumber n) (numbered_binding c roles n) b
        go b i most is (inl lt) = inl (i, lt, is)
        go b i most is (inr le) = let same : i ≡ n = omega (arith, le, most) in inr (is ∙ ap (numbered_binding c roles) same)

    abbrev raise : List Role
    raise = roles_raised ranks roles

    abbrev rank : Ranking
    rank = rank_or_0 c ranks

    pub role_none : (found : Option Broken) → IsLeast setup ranking (master_of c recipe) (ByNumber (binding_count c roles)) found → IsLeast setup ranking (master_of c recipe) (Both raise rank 0) found
    role_none found h = least_fewer setup ranking (master_of c recipe) (ByNumber (binding_count c roles)) (Both raise rank 0) go found h
      where
        go : (b : Binding) → Both raise rank 0 b → ByNumber (binding_count c roles) b
        go b (inl l) = l
        go b (inr l) = absurd (omega (arith, l.1))

    pub role_next : (n : ℕ) (role : Role) → slice_get raise n ≡ Some role → (found verdict : Option Broken) → IsLeast setup ranking (master_of c recipe) (Both raise rank n) found
        → IsVerdict setup ranking (recipe_of recipe (raised c roles rank role.name)) verdict → IsLeast setup ranking (master_of c recipe) (Both raise rank (n + 1)) (earlier_of found verdict)
    role_next n role at found verdict h v =
        least_fewer setup ranking (master_of c recipe) (WithOne setup ranking (master_of c recipe) (Both raise rank n) (raised c roles rank role.name)) (Both raise rank (n + 1)) go (earlier_of found verdict)
        (least_next setup ranking (master_of c recipe) (Both raise rank n) (raised c roles rank role.name) (raised-tried own rank role.name) found verdict h v)
      where
        role_same : (r s : Role) → Some r ≡ Some s → r ≡ s
        role_same r s e = cc

        later : (b : Binding) (k : ℕ) (r : Role) → k < n + 1 → slice_get raise k ≡ Some r → b ≡ raised c roles rank r.name → (k < n) ⊎ (n ≤ k)
            → WithOne setup ranking (master_of c recipe) (Both raise rank n) (raised c roles rank role.name) b
        later b k r most r_at is (inl lt) = inl (inr (k, lt, r, r_at, is))
        later b k r most r_at is (inr le) =
            let here : k ≡ n = omega (arith, le, most) in
            let same = role_same r role (sym r_at ∙ (ap (slice_get raise) here ∙ at)) in
            inr (is ∙ ap (λ (q : Role). raised c roles rank q.name) same)

        go : (b : Binding) → Both raise rank (n + 1) b → WithOne setup ranking (master_of c recipe) (Both raise rank n) (raised c roles rank role.name) b
        go b (inl l) = inl (inl l)
        go b (inr l) = later b l.0 l.2 l.1 l.3 l.4 (cases_lt l.0 n)

    -- the least of all is the verdict on the recipe
    pub last_verdict : (n : ℕ) → length raise ≤ n → (found : Option Broken)
        → IsLeast setup ranking (master_of c recipe) (Both raise rank n) found → IsVerdictOn setup ranking (master_of c recipe) found
    last_verdict n all found h = least_verdict c recipes recipe own ranking (Both raise rank n) (enough own ranks n all) found h

-- No broken rule where each role is taken

module _ (c : equipment.Cell) (recipes : List Recipe) (recipe : Recipe) (own : are_roles recipe.roles.items recipe.acts ≡ true) (ranks : Option (List ℕ)) where
  looked_gives : (b : Binding) → Both c recipes recipe (roles_raised ranks recipe.roles.items) (rank_or_0 c ranks) (length (roles_raised ranks recipe.roles.items)) b → GivesUnits c recipe.roles.items b
  looked_gives b (inl l) = subst (GivesUnits c recipe.roles.items) (sym l.2) (numbered-gives c [] recipe own l.0)
  looked_gives b (inr l) = subst (GivesUnits c recipe.roles.items) (sym l.4) (raised-gives c [] recipe own (rank_or_0 c ranks) l.2.name)

  pub all_clear : ((b : Binding) → GivesUnits c recipe.roles.items b → IsVerdict (setup_of c recipes) (ranking_in c ranks) (recipe_of recipe b) None)
      → IsVerdictOn (setup_of c recipes) (ranking_in c ranks) (master_of c recipe) None
  all_clear h =
      last_verdict c recipes recipe own ranks (length (roles_raised ranks recipe.roles.items)) (omega arith) None (λ b l. h b (looked_gives b l))
