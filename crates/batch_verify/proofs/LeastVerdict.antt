-- The verdict that is least over all bindings.
use Rattle.std.proofs.Common.{◌≡◌, ◌⊎◌, ℕ, zero, suc, ◌+◌, ◌<◌, ◌≤◌, inl, inr, Bool, true, false, ◌||◌, ◌&&◌, nat_eq, nat_lt, List, [], ◌∷◌, slice_get, Option, Some, None, refl, sym, subst, arith}
use Rattle.std.proofs.lemmas.Bool.Decides.{nat_tests}
use Rattle.batch_recipe.specs.{Expanding.Binding, Tree.Tree}
use Rattle.batch_model.specs.{Lists.Each, Plant.Master, Plant.Recipe, Plant.Setup, Cleared.Ranking, Cleared.Part, Cleared.procedure_parts}
use Rattle.batch_verify.{specs.Comparing.earlier_of, specs.Comparing.is_before, specs.Covering.Meets, specs.Refusals.Breaks, specs.Refusals.MeetsRules, specs.Refusals.IsFirstBroken, specs.Refusals.IsTried, specs.Refusals.IsVerdict, specs.Refusals.IsNotAfter, specs.Refusals.rule_number, specs.declared.rule.Rule.Rule, specs.declared.rule.Rule.TheVariants.UnknownResource, specs.declared.rule.Rule.TheVariants.ShareAboveCapacity, specs.declared.rule.Rule.TheVariants.PhaseNotOffered, specs.declared.rule.Rule.TheVariants.SamePhaseInParallel, specs.declared.rule.Rule.TheVariants.LoopWithoutPhase, specs.declared.rule.Rule.TheVariants.ReserveDoesNotFollow, specs.declared.rule.Rule.TheVariants.RankNotRising, specs.declared.rule.Broken.Broken, proofs.ActChecks.meets, proofs.NamesInList.Each-at}

-- The order of broken rules

not_after_itself : (b : Broken) → IsNotAfter b b
not_after_itself b = inr (refl, omega arith)

not_after_trans : (a b c : Broken) → IsNotAfter a b → IsNotAfter b c → IsNotAfter a c
not_after_trans a b c (inl h) (inl k) = inl (omega (arith, h, k))
not_after_trans a b c (inl h) (inr k) = inl (omega (arith, h, k.0))
not_after_trans a b c (inr h) (inl k) = inl (omega (arith, h.0, k))
not_after_trans a b c (inr h) (inr k) = inr (omega (arith, h.0, k.0), omega (arith, h.1, k.1))

-- the one is checked before the other
abbrev IsBefore : Broken → Broken → Type 0
IsBefore one other = (one.node < other.node) ⊎ ((one.node ≡ other.node) × (rule_number one.rule < rule_number other.rule))

is_before_true : (a b : Broken) → is_before a b ≡ true → IsBefore a b
is_before_true a b e = go (nat_lt a.node b.node) refl (nat_eq a.node b.node) refl e
  where
    go : (x : Bool) → nat_lt a.node b.node ≡ x → (y : Bool) → nat_eq a.node b.node ≡ y → (x || (y && nat_lt (rule_number a.rule) (rule_number b.rule))) ≡ true → IsBefore a b
    go true less y same h = inl (grind (arith, nat_tests, less))
    go false less true same h = inr (grind (arith, nat_tests, same), grind (arith, nat_tests, h))
    go false less false same h = absurd cc

is_before_false : (a b : Broken) → is_before a b ≡ false → IsNotAfter b a
is_before_false a b e = go (nat_lt a.node b.node) refl (nat_eq a.node b.node) refl e
  where
    go : (x : Bool) → nat_lt a.node b.node ≡ x → (y : Bool) → nat_eq a.node b.node ≡ y → (x || (y && nat_lt (rule_number a.rule) (rule_number b.rule))) ≡ false → IsNotAfter b a
    go true less y same h = absurd cc
    go false less true same h = inr (grind (arith, nat_tests, same), grind (arith, nat_tests, h))
    go false less false same h = inl (grind (arith, nat_tests, less, same))

not_after : (a b : Broken) → IsBefore a b → IsNotAfter a b
not_after a b (inl h) = inl h
not_after a b (inr h) = inr (h.0, omega (arith, h.1))

before_trans : (a b c : Broken) → IsBefore a b → IsNotAfter b c → IsBefore a c
before_trans a b c (inl h) (inl k) = inl (omega (arith, h, k))
before_trans a b c (inl h) (inr k) = inl (omega (arith, h, k.0))
before_trans a b c (inr h) (inl k) = inl (omega (arith, h.0, k))
before_trans a b c (inr h) (inr k) = inr (omega (arith, h.0, k.0), omega (arith, h.1, k.1))

-- The rules one by one

pub meets_each : (setup : Setup) (ranking : Option Ranking) (procedure : Tree) (x : Part) → MeetsRules setup ranking procedure x → (rule : Rule) → Meets setup ranking procedure rule x
meets_each setup None procedure x h UnknownResource = (h.known, h.on_unit)
meets_each setup None procedure x h ShareAboveCapacity = h.within
meets_each setup None procedure x h PhaseNotOffered = h.offered
meets_each setup None procedure x h SamePhaseInParallel = h.apart
meets_each setup None procedure x h LoopWithoutPhase = h.turning
meets_each setup None procedure x h ReserveDoesNotFollow = h.follow
meets_each setup None procedure x h RankNotRising = tt
meets_each setup (Some rank) procedure x h UnknownResource = (h.0.known, h.0.on_unit)
meets_each setup (Some rank) procedure x h ShareAboveCapacity = h.0.within
meets_each setup (Some rank) procedure x h PhaseNotOffered = h.0.offered
meets_each setup (Some rank) procedure x h SamePhaseInParallel = h.0.apart
meets_each setup (Some rank) procedure x h LoopWithoutPhase = h.0.turning
meets_each setup (Some rank) procedure x h ReserveDoesNotFollow = h.1
meets_each setup (Some rank) procedure x h RankNotRising = h.0.rising

module _ (setup : Setup) (ranking : Option Ranking) (procedure : Tree) where
  meets_all : (x : Part) → ((rule : Rule) → Meets setup ranking procedure rule x) → MeetsRules setup ranking procedure x
  meets_all x h =
      let known = h UnknownResource in
      meets setup ranking procedure x known.0 known.1 (h ShareAboveCapacity) (h PhaseNotOffered) (h SamePhaseInParallel) (h LoopWithoutPhase) (h ReserveDoesNotFollow) (h RankNotRising)

  fails : (x : Part) (rule : Rule) → Breaks setup ranking procedure x rule → Meets setup ranking procedure rule x → ⊥
  fails x UnknownResource b m = b m
  fails x ShareAboveCapacity b m = b.1 m
  fails x PhaseNotOffered b m = b.1 m
  fails x SamePhaseInParallel b m = b.2 m
  fails x LoopWithoutPhase b m = b.3 m
  fails x ReserveDoesNotFollow b m = b.4 m
  fails x RankNotRising b m = b.1 m

  last_rule : (rule : Rule) → rule_number rule ≤ 6
  last_rule UnknownResource = omega arith
  last_rule ShareAboveCapacity = omega arith
  last_rule PhaseNotOffered = omega arith
  last_rule SamePhaseInParallel = omega arith
  last_rule LoopWithoutPhase = omega arith
  last_rule ReserveDoesNotFollow = omega arith
  last_rule RankNotRising = omega arith

  -- a node meets the rules before the first that it breaks
  met_before : (x : Part) (rule broken : Rule) → Breaks setup ranking procedure x broken → rule_number rule < rule_number broken → Meets setup ranking procedure rule x
  met_before x UnknownResource ShareAboveCapacity b lt = b.0
  met_before x UnknownResource PhaseNotOffered b lt = b.0.0
  met_before x ShareAboveCapacity PhaseNotOffered b lt = b.0.1
  met_before x UnknownResource SamePhaseInParallel b lt = b.0.0
  met_before x ShareAboveCapacity SamePhaseInParallel b lt = b.0.1
  met_before x PhaseNotOffered SamePhaseInParallel b lt = b.1
  met_before x UnknownResource LoopWithoutPhase b lt = b.0.0
  met_before x ShareAboveCapacity LoopWithoutPhase b lt = b.0.1
  met_before x PhaseNotOffered LoopWithoutPhase b lt = b.1
  met_before x SamePhaseInParallel LoopWithoutPhase b lt = b.2
  met_before x UnknownResource ReserveDoesNotFollow b lt = b.0.0
  met_before x ShareAboveCapacity ReserveDoesNotFollow b lt = b.0.1
  met_before x PhaseNotOffered ReserveDoesNotFollow b lt = b.1
  met_before x SamePhaseInParallel ReserveDoesNotFollow b lt = b.2
  met_before x LoopWithoutPhase ReserveDoesNotFollow b lt = b.3
  met_before x UnknownResource RankNotRising b lt = (b.0.known, b.0.on_unit)
  met_before x ShareAboveCapacity RankNotRising b lt = b.0.within
  met_before x PhaseNotOffered RankNotRising b lt = b.0.offered
  met_before x SamePhaseInParallel RankNotRising b lt = b.0.apart
  met_before x LoopWithoutPhase RankNotRising b lt = b.0.turning
  met_before x ReserveDoesNotFollow RankNotRising b lt = b.0.follow
  met_before x rule broken b lt = absurd (omega (arith, lt, last_rule broken))

  -- a node that breaks a rule doesn't meet the rules
  pub no_break : (x : Part) (rule : Rule) → Breaks setup ranking procedure x rule → MeetsRules setup ranking procedure x → ⊥
  no_break x rule b h = fails x rule b (meets_each setup ranking procedure x h rule)

  -- the node that is the first to break a rule
  pub record IsBrokenNode (xs : List Part) (k : ℕ) (broken : Broken) : Type 0 where
    pub index : ℕ
    pub part : Part
    pub numbered : broken.node ≡ k + index
    pub found : slice_get xs index ≡ Some part
    pub breaks : Breaks setup ranking procedure part broken.rule

  pub broken_node : (xs : List Part) (k : ℕ) (broken : Broken) → IsFirstBroken setup ranking procedure xs k broken → IsBrokenNode xs k broken
  broken_node [] k broken h = absurd h
  broken_node (x ∷ xs) k broken (inl h) = record { index = 0; part = x; numbered = omega (arith, h.0); found = refl; breaks = h.1 }
  broken_node (x ∷ xs) k broken (inr h) =
      let later = broken_node xs (k + 1) broken h.1 in
      record { index = suc later.index; part = later.part; numbered = omega (arith, later.numbered); found = later.found; breaks = later.breaks }

  -- a rule that is checked before the first broken one is met
  met_still : (xs : List Part) (k : ℕ) (first : Broken) → IsFirstBroken setup ranking procedure xs k first → (m : ℕ) (x : Part) (rule : Rule) → slice_get xs m ≡ Some x
      → IsBefore (record { node = k + m; rule = rule }) first → Meets setup ranking procedure rule x
  met_still [] k first h m x rule e before = absurd h
  met_still (y ∷ xs) k first (inl h) zero x rule e before = now before
    where
      same : y ≡ x
      same = cc

      now : IsBefore (record { node = k + 0; rule = rule }) first → Meets setup ranking procedure rule x
      now (inl lt) = absurd (omega (arith, lt, h.0))
      now (inr b) = met_before x rule first.rule (subst (λ (z : Part). Breaks setup ranking procedure z first.rule) same h.1) b.1
  met_still (y ∷ xs) k first (inl h) (suc m) x rule e (inl lt) = absurd (omega (arith, lt, h.0))
  met_still (y ∷ xs) k first (inl h) (suc m) x rule e (inr b) = absurd (omega (arith, b.0, h.0))
  met_still (y ∷ xs) k first (inr h) zero x rule e before =
      let same : y ≡ x = cc in
      subst (λ (z : Part). Meets setup ranking procedure rule z) same (meets_each setup ranking procedure y h.0 rule)
  met_still (y ∷ xs) k first (inr h) (suc m) x rule e (inl lt) = met_still xs (k + 1) first h.1 m x rule e (inl (omega (arith, lt)))
  met_still (y ∷ xs) k first (inr h) (suc m) x rule e (inr b) = met_still xs (k + 1) first h.1 m x rule e (inr (omega (arith, b.0), b.1))

module _ (setup : Setup) (ranking : Option Ranking) where
  -- The least of the first ones

  abbrev IsNotAfterVerdict : Broken → Option Broken → Type 0
  IsNotAfterVerdict broken None = Unit {0}
  IsNotAfterVerdict broken (Some other) = IsNotAfter broken other

  -- the verdict on the control recipe, and that it isn't before this broken rule
  pub record HasVerdict (recipe : Recipe) (broken : Broken) : Type 0 where
    pub verdict : Option Broken
    pub stands : IsVerdict setup ranking recipe verdict
    pub after : IsNotAfterVerdict broken verdict

  before_verdict : (recipe : Recipe) (b other : Broken) → IsNotAfter b other → HasVerdict recipe other → HasVerdict recipe b
  before_verdict recipe b other le h = record { verdict = h.verdict; stands = h.stands; after = later h.verdict h.after }
    where
      later : (v : Option Broken) → IsNotAfterVerdict other v → IsNotAfterVerdict b v
      later None h = tt
      later (Some v) h = not_after_trans b other v le h

  -- a rule is met at a node if that is checked before this broken rule
  met_by : (recipe : Recipe) (broken : Broken) → HasVerdict recipe broken → (m : ℕ) (x : Part) (rule : Rule) → slice_get (procedure_parts recipe) m ≡ Some x
      → IsBefore (record { node = 0 + m; rule = rule }) broken → Meets setup ranking recipe.procedure rule x
  met_by recipe broken h m x rule e before = go h.verdict h.stands h.after
    where
      go : (v : Option Broken) → IsVerdict setup ranking recipe v → IsNotAfterVerdict broken v → Meets setup ranking recipe.procedure rule x
      go None stands after = meets_each setup ranking recipe.procedure x (Each-at (MeetsRules setup ranking recipe.procedure) (procedure_parts recipe) m x e stands) rule
      go (Some first) stands after = met_still setup ranking recipe.procedure (procedure_parts recipe) 0 first stands m x rule e (before_trans (record { node = 0 + m; rule = rule }) broken first before after)

  module _ (master : Master) where
    pub record IsLeastBroken (Looked : Binding → Type 0) (broken : Broken) : Type 0 where
      pub bound : Binding
      pub tried : IsTried setup master bound
      pub breaks : IsVerdict setup ranking (master.control bound) (Some broken)
      pub least : (other : Binding) → Looked other → HasVerdict (master.control other) broken

    -- of the bindings that were looked at this is the least of the verdicts
    abbrev pub IsLeast : (Binding → Type 0) → Option Broken → Type 0
    IsLeast Looked None = (other : Binding) → Looked other → IsVerdict setup ranking (master.control other) None
    IsLeast Looked (Some broken) = IsLeastBroken Looked broken

    -- those, and this one
    abbrev pub WithOne : (Binding → Type 0) → Binding → Binding → Type 0
    WithOne Looked now other = Looked other ⊎ (other ≡ now)

    pub least_fewer : (Looked Fewer : Binding → Type 0) → ((b : Binding) → Fewer b → Looked b) → (v : Option Broken) → IsLeast Looked v → IsLeast Fewer v
    least_fewer Looked Fewer some None h = λ b l. h b (some b l)
    least_fewer Looked Fewer some (Some broken) h = record { bound = h.bound; tried = h.tried; breaks = h.breaks; least = λ b l. h.least b (some b l) }

    module _ (Looked : Binding → Type 0) (now : Binding) (tried : IsTried setup master now) where
      with_one : (P : Binding → Type 0) → ((b : Binding) → Looked b → P b) → P now → (b : Binding) → WithOne Looked now b → P b
      with_one P h here b (inl l) = h b l
      with_one P h here b (inr e) = subst P (sym e) here

      pub least_next : (found verdict : Option Broken) → IsLeast Looked found → IsVerdict setup ranking (master.control now) verdict → IsLeast (WithOne Looked now) (earlier_of found verdict)
      least_next None None h v = with_one (λ b. IsVerdict setup ranking (master.control b) None) h v
      least_next None (Some f) h v = record {
        bound = now;
        tried = tried;
        breaks = v;
        least = with_one (λ b. HasVerdict (master.control b) f) (λ b l. record { verdict = None; stands = h b l; after = tt }) (record { verdict = Some f; stands = v; after = not_after_itself f });
      }
      least_next (Some b) None h v = record {
        bound = h.bound;
        tried = h.tried;
        breaks = h.breaks;
        least = with_one (λ o. HasVerdict (master.control o) b) h.least (record { verdict = None; stands = v; after = tt });
      }
      least_next (Some b) (Some f) h v = go (is_before f b) refl
        where
          go : (before : Bool) → is_before f b ≡ before → IsLeast (WithOne Looked now) (elim before [ true ↦ Some f | false ↦ Some b ])
          go true e = record {
            bound = now;
            tried = tried;
            breaks = v;
            least = with_one (λ o. HasVerdict (master.control o) f) (λ o l. before_verdict (master.control o) f b (not_after f b (is_before_true f b e)) (h.least o l)) (record { verdict = Some f; stands = v; after = not_after_itself f });
          }
          go false e = record {
            bound = h.bound;
            tried = h.tried;
            breaks = h.breaks;
            least = with_one (λ o. HasVerdict (master.control o) b) h.least (record { verdict = Some f; stands = v; after = is_before_false f b e });
          }

    -- Bindings that show all that another one can break give its verdict

    each_by_index : (P : Part → Type 0) (xs : List Part) → ((k : ℕ) (x : Part) → slice_get xs k ≡ Some x → P x) → Each P xs
    each_by_index P [] h = tt
    each_by_index P (x ∷ xs) h = (h 0 x refl, each_by_index P xs (λ k y e. h (suc k) y e))

    module _ (Looked : Binding → Type 0) (bound : Binding)
        (suffice : (k : ℕ) (x : Part) → slice_get (procedure_parts (master.control bound)) k ≡ Some x → (rule : Rule)
        → ((other : Binding) → Looked other → (y : Part) → slice_get (procedure_parts (master.control other)) k ≡ Some y → Meets setup ranking (master.control other).procedure rule y)
        → Meets setup ranking (master.control bound).procedure rule x) where
      abbrev own : Tree
      own = (master.control bound).procedure

      abbrev own_parts : List Part
      own_parts = procedure_parts (master.control bound)

      rule_met : (rule : Rule) → IsLeast Looked None → (k : ℕ) (other : Binding) → Looked other → (y : Part) → slice_get (procedure_parts (master.control other)) k ≡ Some y
          → Meets setup ranking (master.control other).procedure rule y
      rule_met rule h k other l y is =
          let procedure = (master.control other).procedure in
          meets_each setup ranking procedure y (Each-at (MeetsRules setup ranking procedure) (procedure_parts (master.control other)) k y is (h other l)) rule

      pub all_meet : IsLeast Looked None → IsVerdict setup ranking (master.control bound) None
      all_meet h = each_by_index (MeetsRules setup ranking own) own_parts (λ k x e. meets_all setup ranking own x (λ rule. suffice k x e rule (rule_met rule h k)))

      pub none_before : (broken found : Broken) → IsLeast Looked (Some broken) → IsVerdict setup ranking (master.control bound) (Some found) → IsNotAfter broken found
      none_before broken found h first = go (is_before found broken) refl
        where
          node : IsBrokenNode setup ranking own own_parts 0 found
          node = broken_node setup ranking own own_parts 0 found first

          here : IsBefore found broken → IsBefore (record { node = 0 + node.index; rule = found.rule }) broken
          here (inl lt) = inl (omega (arith, lt, node.numbered))
          here (inr b) = inr (omega (arith, b.0, node.numbered), b.1)

          go : (before : Bool) → is_before found broken ≡ before → IsNotAfter broken found
          go false e = is_before_false found broken e
          go true e =
              absurd (fails setup ranking own node.part found.rule node.breaks (suffice node.index node.part node.found found.rule
              (λ other l y is. met_by (master.control other) broken (h.least other l) node.index y found.rule is (here (is_before_true found broken e)))))
