-- Whom the arbiter would serve is whom the plant serves.
use Rattle.std.proofs.Common.{◌≡◌, ◌+◌, refl, sym, ◌∙◌, ap, ap₂, subst, ℕ, List, [], ◌∷◌, Bool, true, false, ◌&&◌, cond, Option, Some, None, inl, get_or, map}
use Rattle.std.{specs.Prelude.nat_le, specs.Prelude.option_map, specs.Cmp.Derive.both_true, proofs.lemmas.List.Sums.sum_by-cons, proofs.lemmas.Bool.and_parts}
use Rattle.batch_recipe.specs.{Conditions.Name, declared.need.Need.Need}
use Rattle.batch_model.specs.{Lists.Has, Plant.BatchAct, Plant.Share, Plant.units_in, Plant.holders, Plant.is_same_act, Moves.is_served}
use Rattle.batch_cell.specs.LookUps.{capacities_of}
use Rattle.batch_record_laws.proofs.Entries.{act_self, same_act, units-cons}
use Rattle.batch_arbiter.specs.Allocation.{Claim, Allocation, line_of_asks, shares_at, held_units, next_in, batch_node}
use Rattle.batch_engine.{specs.View.EngineView, specs.View.setup, specs.View.claim_act, specs.View.claimed_shares, specs.View.resource_number, specs.View.line_in, specs.View.line_at, specs.View.plant_of, specs.Kept.IsKept, proofs.RecordOfPlant.told}

units-mapped : (act : Claim → BatchAct) (xs : List Claim) → units_in (map (λ x. let s : Share = record { act = act x; units = x.units } in s) xs) ≡ held_units xs
units-mapped act [] = refl
units-mapped act (x ∷ xs) =
    units-cons (record { act = act x; units = x.units }) (map (λ x. let s : Share = record { act = act x; units = x.units } in s) xs)
    ∙ ap (λ n. x.units + n) (units-mapped act xs) ∙ sym (sum_by-cons (λ (c : Claim). c.units) x xs)

-- the test of the plant, for a line, how much is held and how much is needed
abbrev serves : ℕ → ℕ → ℕ → List Share → BatchAct → Bool
serves held units capacity line a = nat_le (held + units) capacity && elim line [ [] ↦ false | x ∷ xs ↦ is_same_act x.act a ]

module _ (act : Claim → BatchAct) where
  -- the first claim is for the act, and its units are free
  pub serves-next : (capacity units : ℕ) (shares line : List Claim) (n node : ℕ) (a : BatchAct)
      → ((x : Claim) → batch_node x ≡ (n, node) → act x ≡ a) → ((x : Claim) → Has line x → batch_node x ≡ (n, node) → x.units ≡ units)
      → option_map batch_node (next_in capacity shares line) ≡ Some (n, node)
      → serves (held_units shares) units capacity (map (λ x. let s : Share = record { act = act x; units = x.units } in s) line) a ≡ true
  serves-next capacity units shares [] n node a same much e = absurd cc
  serves-next capacity units shares (x ∷ later) n node a same much e = go (nat_le (held_units shares + x.units) capacity) refl e
    where
      go : (b : Bool) → nat_le (held_units shares + x.units) capacity ≡ b → ◌≡◌ {A = Option (ℕ × ℕ)} (option_map batch_node (cond b (Some x) None)) (Some (n, node))
          → serves (held_units shares) units capacity (map (λ x. let s : Share = record { act = act x; units = x.units } in s) (x ∷ later)) a ≡ true
      go false q f = absurd cc
      go true q f =
          let at : batch_node x ≡ (n, node) = cc in
          let is : is_same_act (act x) a ≡ true = subst (λ z. is_same_act (act x) z ≡ true) (same x at) (act_self (act x)) in
          both_true (subst (λ u. nat_le (held_units shares + u) capacity ≡ true) (much x (inl refl) at) q) is

  pub next-serves : (capacity units : ℕ) (shares line : List Claim) (n node : ℕ) (a : BatchAct)
      → ((x : Claim) → act x ≡ a → batch_node x ≡ (n, node)) → ((x : Claim) → Has line x → batch_node x ≡ (n, node) → x.units ≡ units)
      → serves (held_units shares) units capacity (map (λ x. let s : Share = record { act = act x; units = x.units } in s) line) a ≡ true
      → option_map batch_node (next_in capacity shares line) ≡ Some (n, node)
  next-serves capacity units shares [] n node a same much e = absurd (none (nat_le (held_units shares + units) capacity) e)
    where
      none : (b : Bool) → (b && false) ≡ true → ⊥
      none true e = cc
      none false e = cc
  next-serves capacity units shares (x ∷ later) n node a same much e =
      let h : (nat_le (held_units shares + units) capacity ≡ true) × (is_same_act (act x) a ≡ true) = and_parts (nat_le (held_units shares + units) capacity) (is_same_act (act x) a) e in
      let at : batch_node x ≡ (n, node) = same x (same_act (act x) a h.1) in
      let ok : nat_le (held_units shares + x.units) capacity ≡ true = subst (λ u. nat_le (held_units shares + u) capacity ≡ true) (sym (much x (inl refl) at)) h.0 in
      ap (λ (b : Bool). option_map batch_node (cond b (Some x) None)) ok ∙ ap Some at

module _ (v : EngineView) (k : IsKept v) where
  -- as much of a resource is held as its shares have
  pub held-count : (i : ℕ) (name : Name) → resource_number v.cleared name ≡ Some i → units_in (holders (plant_of v) name) ≡ held_units (shares_at v.allocation i)
  held-count i name e =
      sym ((told v k).held_units name) ∙ ap units_in (sym (k.tracked.shares i name e)) ∙ units-mapped (claim_act v.cleared v.batches) (shares_at v.allocation i)

  -- the plant's test is that of the arbiter's lists
  pub is-served : (i : ℕ) (need : Need) (a : BatchAct) → resource_number v.cleared need.resource ≡ Some i
      → is_served (setup v.cleared) (plant_of v) need a
      ≡ serves (held_units (shares_at v.allocation i)) need.units (Rattle.batch_arbiter.specs.Allocation.capacity_at v.allocation i) (claimed_shares v.cleared v.batches (line_of_asks v.allocation i)) a
  is-served i need a e =
      let held : units_in (holders (plant_of v) need.resource) ≡ held_units (shares_at v.allocation i) = held-count i need.resource e in
      let capacity : (setup v.cleared).capacity need.resource ≡ Rattle.batch_arbiter.specs.Allocation.capacity_at v.allocation i =
      ap (λ (o : Option ℕ). elim o [ None ↦ 0 | Some number ↦ get_or (capacities_of v.cleared.cell) number 0 ]) e ∙ ap (λ xs. get_or xs i 0) (sym k.cell.capacities) in
      let line : line_in v need.resource ≡ claimed_shares v.cleared v.batches (line_of_asks v.allocation i) = ap (line_at v) e in
      ap₂ (λ h l. serves h need.units ((setup v.cleared).capacity need.resource) l a) held line
      ∙ ap (λ z. serves (held_units (shares_at v.allocation i)) need.units z (claimed_shares v.cleared v.batches (line_of_asks v.allocation i)) a) capacity
