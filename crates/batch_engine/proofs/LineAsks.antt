-- The number of a batch's asks in each line: that of its acts that wait for the resource.
use Rattle.std.proofs.Common.{◌≡◌, ◌⊎◌, ◌<◌, ◌≤◌, ◌+◌, ◌&&◌, refl, sym, ◌∙◌, ap, subst, subst₂, ℕ, zero, suc, List, [], ◌∷◌, Bool, true, false, Option, Some, inl, inr, ⊎_elim, arith, cond, length, filter, map, get_or, replicate, set, nat_eq, nat_lt}
use Rattle.std.{specs.Prelude.slice_get, specs.Prelude.slice_index, proofs.lemmas.Bool.and_parts, proofs.lemmas.Bool.cases_eq, proofs.lemmas.Bool.Decides.nat_tests, specs.Cmp.Derive.both_true, proofs.lemmas.List.get_or-set_same, proofs.lemmas.List.get_or-set_other, proofs.lemmas.List.length-replicate, proofs.lemmas.List.length-set, proofs.lemmas.Option.slice_get-get_or, proofs.lemmas.Option.get_or_from_slice_get}
use Rattle.batch_cell.proofs.Resources.{few_resources}
use Rattle.batch_recipe.specs.{Conditions.Name, Tree.Step, Tree.Task, Tree.Tree, declared.need.Need.Need}
use Rattle.batch_step_laws.proofs.Batches.{one_batch}
use Rattle.batch_model.specs.{Lists.Has, Plant.BatchAct, Plant.Share, Rest.asking, Rest.acts}
use Rattle.batch_model.specs.Plant as Model
use Rattle.batch_record_laws.proofs.{Entries.IsOnce, Entries.nat_same, Members.map-Has}
use Rattle.batch_arbiter.{specs.Allocation.AsksAtMost, specs.Allocation.Claim, specs.Allocation.asks_of, specs.Allocation.is_claim, specs.Allocation.is_of_batch, specs.Allocation.line_of_asks, specs.Allocation.resource_count, proofs.CellCapacities.length-capacities}
use Rattle.batch_chart.{specs.NodesOf.need_at, specs.NodesOf.no_need, specs.NodesOf.place_at, specs.Charts.remains, proofs.ActsAtNodes.asking-at, proofs.MoveKinds.less}
use Rattle.batch_engine.{specs.declared.batch.Batch.Batch, specs.Kept.IsKept, specs.View.EngineView, specs.View.claim_act, specs.View.model_batch, specs.View.line_at, specs.View.names_of, specs.View.resource_number, specs.View.plant_of, specs.View.share_of, specs.View.tree_of, proofs.BatchPlaces.Has-batch_of, proofs.BatchLookups.asks_here, proofs.BatchLookups.batch-runs, proofs.BatchLookups.claim-act, proofs.BatchLookups.has, proofs.BatchLookups.known-resource, proofs.BatchLookups.same-need, proofs.BatchLookups.tree-placed, proofs.Nodes.same-node, proofs.RoomForAsk.number-at, proofs.RecordOfPlant.standing, proofs.RecordOfPlant.told}
use Rattle.batch_signs.proofs.Bits.{within-or_past}

-- Claims that pass a test

none-pass : (p : Claim → Bool) (xs : List Claim) → ((x : Claim) → Has xs x → p x ≡ true → ⊥) → length (filter p xs) ≡ 0
none-pass p [] h = refl
none-pass p (x ∷ xs) h = go (p x) (h x (inl refl)) (none-pass p xs (λ y m. h y (inr m)))
  where
    go : (t : Bool) → (t ≡ true → ⊥) → length (filter p xs) ≡ 0 → length (cond t (x ∷ filter p xs) (filter p xs)) ≡ 0
    go true off h = absurd (off refl)
    go false off h = h

-- those that pass the first test pass one of the others
either-passes : (p q r : Claim → Bool) (xs : List Claim) → ((x : Claim) → Has xs x → p x ≡ true → (q x ≡ true) ⊎ (r x ≡ true)) → length (filter p xs) ≤ length (filter q xs) + length (filter r xs)
either-passes p q r [] h = omega arith
either-passes p q r (x ∷ xs) h = go (p x) (q x) (r x) (h x (inl refl)) (either-passes p q r xs (λ y m. h y (inr m)))
  where
    go : (t u w : Bool) → (t ≡ true → (u ≡ true) ⊎ (w ≡ true)) → length (filter p xs) ≤ length (filter q xs) + length (filter r xs)
        → length (cond t (x ∷ filter p xs) (filter p xs)) ≤ length (cond u (x ∷ filter q xs) (filter q xs)) + length (cond w (x ∷ filter r xs) (filter r xs))
    go false false false e h = h
    go false false true e h = omega arith
    go false true false e h = omega arith
    go false true true e h = omega arith
    go true true false e h = omega arith
    go true true true e h = omega arith
    go true false true e h = omega arith
    go true false false e h = absurd (⊎_elim (λ (f : ◌≡◌ {A = Bool} false true). cc) (λ (f : ◌≡◌ {A = Bool} false true). cc) (e refl))

-- an act has one ask in a line
one-claim : (share : Claim → Share) (n node : ℕ) → ((x y : Claim) → is_claim n node x ≡ true → is_claim n node y ≡ true → (share x).act ≡ (share y).act)
    → (xs : List Claim) → IsOnce (map share xs) → length (filter (is_claim n node) xs) ≤ 1
one-claim share n node same [] once = omega arith
one-claim share n node same (x ∷ xs) once = go (is_claim n node x) refl (one-claim share n node same xs once.1)
  where
    go : (t : Bool) → is_claim n node x ≡ t → length (filter (is_claim n node) xs) ≤ 1 → length (cond t (x ∷ filter (is_claim n node) xs) (filter (is_claim n node) xs)) ≤ 1
    go false e h = h
    go true e h =
        let none : length (filter (is_claim n node) xs) ≡ 0 = none-pass (is_claim n node) xs (λ y m f. once.0 (share y) (map-Has share xs y m) (same y x f e)) in
        omega (arith, none)

is-lt : (a b : ℕ) → a < b → nat_lt a b ≡ true
is-lt a b h = grind (arith, nat_tests)

is-eq : (a b : ℕ) → a ≡ b → nat_eq a b ≡ true
is-eq a b h = grind arith

claim-parts : (n node : ℕ) (x : Claim) → is_claim n node x ≡ true → (x.batch ≡ n) × (x.node ≡ node)
claim-parts n node x e =
    let h = and_parts (nat_eq x.batch n) (nat_eq x.node node) e in
    (nat_same x.batch n h.0, nat_same x.node node h.1)

-- an ask of the batch for an act below this node
abbrev pub is_below : ℕ → ℕ → Claim → Bool
is_below n from x = is_of_batch n x && nat_lt x.node from

zeros : (m q : ℕ) → slice_index (replicate m 0) q ≡ 0
zeros zero q = refl
zeros (suc m) zero = refl
zeros (suc m) (suc q) = zeros m q

-- In each line are no more asks of the batch for acts below this node than were counted for the resource
pub record AreCounted (v : EngineView) (n from : ℕ) (asks : List ℕ) : Type 0 where
  pub count : length asks ≡ 384
  pub few : (q : ℕ) → slice_index asks q ≤ from
  pub each : (q : ℕ) → q < resource_count v.allocation → length (filter (is_below n from) (line_of_asks v.allocation q)) ≤ slice_index asks q

pub counted-none : (v : EngineView) (n : ℕ) → AreCounted v n 0 (replicate 384 0)
counted-none v n =
    record {
      count = length-replicate {A = ℕ} 384 0;
      few = λ q. omega (arith, zeros 384 q);
      each = λ q l.
          (let none : length (filter (is_below n 0) (line_of_asks v.allocation q)) ≡ 0 =
          none-pass (is_below n 0) (line_of_asks v.allocation q)
          (λ x m e. (let low : x.node < 0 = less x.node 0 (and_parts (is_of_batch n x) (nat_lt x.node 0) e).1 in absurd (omega (arith, low)))) in
          omega (arith, none));
    }

-- no cell has more resources
pub few-resources : (v : EngineView) → IsKept v → resource_count v.allocation ≤ 384
few-resources v k =
    let c = v.cleared.cell in
    omega (
      arith,
      ap (λ (xs : List ℕ). length xs) k.cell.capacities,
      length-capacities c,
      few_resources c.units.items c.modules.items c.shared.items,
      c.few_units,
      c.few_modules,
      c.few_shared,
    )

pub resource-within : (v : EngineView) → IsKept v → (name : Name) (q : ℕ) → resource_number v.cleared name ≡ Some q → q < 384
resource-within v k name q is = omega (arith, known-resource v k name q is, few-resources v k)

module _ (v : EngineView) (k : IsKept v) (i : ℕ) (b : Batch) (at : slice_get v.batches i ≡ Some b) where
  -- an ask of the batch is of an act that waits for the resource
  claim-asks : (q : ℕ) → q < resource_count v.allocation → (x : Claim) → Has (line_of_asks v.allocation q) x → x.batch ≡ b.number
      → (l : ℕ) × asks_here v k i b at x.node l × (resource_number v.cleared (need_at (tree_of v.cleared b) x.node l).resource ≡ Some q)
  claim-asks q few x h own =
      let t : Tree = tree_of v.cleared b in
      let name : Name = get_or (names_of v.cleared) q [] in
      let within : q < length (names_of v.cleared) = omega (arith, few, ap (λ (xs : List ℕ). length xs) k.cell.capacities, length-capacities v.cleared.cell) in
      let e : resource_number v.cleared name ≡ Some q = number-at v.cleared q name (slice_get-get_or (names_of v.cleared) q [] within) in
      let share : Share = share_of v.cleared v.batches x in
      let told_so = ((told v k).asks name share).0 (subst (λ (xs : List Share). Has xs share) (sym (ap (line_at v) e)) (map-Has (share_of v.cleared v.batches) (line_of_asks v.allocation q) x h)) in
      let same : told_so.0 ≡ model_batch v.cleared b =
      one_batch v.next_number (plant_of v).batches told_so.0 (model_batch v.cleared b) (standing v k).numbers told_so.1 (Has-batch_of v.cleared v.batches b (has v k i b at)) (told_so.2 ∙ own) in
      let there : Has (acts (remains t b.running)) (asking told_so.3 told_so.4 told_so.5) = subst (λ (d : Model.Batch). Has (acts d.rest) (asking told_so.3 told_so.4 told_so.5)) same told_so.6 in
      let n = asking-at t (remains t b.running) told_so.3 told_so.4 told_so.5 (tree-placed v k i b at) (batch-runs v k i b at).runs.alive.stands there in
      let mine : claim_act v.cleared v.batches x ≡ (b.number, place_at t x.node) = claim-act v k i b at x x.node (ap (λ m. let z : ℕ × ℕ = (m, x.node) in z) own) in
      let node : x.node ≡ n.0 = same-node t x.node n.0 n.1 (sym (ap (λ (z : BatchAct). z.1) mine) ∙ sym told_so.7 ∙ n.2) in
      let asks : asks_here v k i b at n.0 told_so.5 =
      (n.1, subst (λ (z : Step). told_so.5 < length z.needs) n.3 n.5, subst₂ (λ (y : Step) (z : Task). Has (acts (remains t b.running)) (asking y z told_so.5)) n.3 n.4 there) in
      let need : need_at t n.0 told_so.5 ≡ record { resource = name; units = x.units } =
      ap (λ (z : Step). get_or z.needs told_so.5 no_need) (sym n.3) ∙ get_or_from_slice_get told_so.3.needs told_so.5 (record { resource = name; units = x.units }) no_need told_so.8 in (
        told_so.5,
        subst (λ z. asks_here v k i b at z told_so.5) (sym node) asks,
        ap (λ z. resource_number v.cleared (need_at t z told_so.5).resource) node ∙ ap (λ (z : Need). resource_number v.cleared z.resource) need ∙ e,
      )

  same-act : (node : ℕ) (x y : Claim) → is_claim b.number node x ≡ true → is_claim b.number node y ≡ true → claim_act v.cleared v.batches x ≡ claim_act v.cleared v.batches y
  same-act node x y f g =
      let one = λ (z : Claim) (e : is_claim b.number node z ≡ true). claim-act v k i b at z node
      (let h = claim-parts b.number node z e in ap (λ m. let w : ℕ × ℕ = (m, z.node) in w) h.0 ∙ ap (λ j. let w : ℕ × ℕ = (b.number, j) in w) h.1) in
      one x f ∙ sym (one y g)

  -- the next act that waits is counted
  module _ (from node need q : ℕ) (asks : List ℕ) (before : AreCounted v b.number from asks) (past : from ≤ node) (none : (j l : ℕ) → from ≤ j → j < node → asks_here v k i b at j l → ⊥)
      (here : asks_here v k i b at node need) (is : resource_number v.cleared (need_at (tree_of v.cleared b) node need).resource ≡ Some q) where
    more-below : (r : ℕ) → r < resource_count v.allocation
        → length (filter (is_below b.number (node + 1)) (line_of_asks v.allocation r)) ≤ length (filter (is_below b.number from) (line_of_asks v.allocation r)) + length (filter (is_claim b.number node) (line_of_asks v.allocation r))
    more-below r few = either-passes (is_below b.number (node + 1)) (is_below b.number from) (is_claim b.number node) (line_of_asks v.allocation r) (λ x m e.
        (let h = and_parts (is_of_batch b.number x) (nat_lt x.node (node + 1)) e in
        let low : x.node < node + 1 = less x.node (node + 1) h.1 in
        elim (within-or_past x.node from) [
          | inl lt ↦ inl (both_true h.0 (is-lt x.node from lt))
          | inr ge ↦ elim (within-or_past x.node node) [
            | inl lt ↦ absurd (let a = claim-asks r few x m (nat_same x.batch b.number h.0) in none x.node a.0 ge lt a.1)
            | inr up ↦ inr (both_true h.0 (is-eq x.node node (omega (arith, low, up))))
          ]
        ]))

    few-here : (r : ℕ) → r < resource_count v.allocation → length (filter (is_claim b.number node) (line_of_asks v.allocation r)) ≤ 1
    few-here r few =
        let name : Name = get_or (names_of v.cleared) r [] in
        let within : r < length (names_of v.cleared) = omega (arith, few, ap (λ (xs : List ℕ). length xs) k.cell.capacities, length-capacities v.cleared.cell) in
        one-claim (share_of v.cleared v.batches) b.number node (same-act node) (line_of_asks v.allocation r)
        (k.once name r (number-at v.cleared r name (slice_get-get_or (names_of v.cleared) r [] within)))

    -- it stands in the line of its own resource alone
    none-elsewhere : (r : ℕ) → r < resource_count v.allocation → (r ≡ q → ⊥) → length (filter (is_claim b.number node) (line_of_asks v.allocation r)) ≡ 0
    none-elsewhere r few other = none-pass (is_claim b.number node) (line_of_asks v.allocation r) (λ x m e.
        (let h = claim-parts b.number node x e in
        let a = claim-asks r few x m h.0 in
        let l : a.0 ≡ need = same-need v k i b at node a.0 need (subst (λ z. asks_here v k i b at z a.0) h.1 a.1) here in
        let both : ◌≡◌ {A = Option ℕ} (Some r) (Some q) = sym a.2 ∙ ap (λ z. resource_number v.cleared (need_at (tree_of v.cleared b) z a.0).resource) h.1 ∙ ap (λ z. resource_number v.cleared (need_at (tree_of v.cleared b) node z).resource) l ∙ is in
        other (let f : r ≡ q = cc in f)))

    pub counted-more : AreCounted v b.number (node + 1) (set asks q (slice_index asks q + 1))
    counted-more =
        let there : q < length asks = omega (arith, resource-within v k (need_at (tree_of v.cleared b) node need).resource q is, before.count) in
        let own : slice_index (set asks q (slice_index asks q + 1)) q ≡ slice_index asks q + 1 = get_or-set_same asks q (slice_index asks q + 1) 0 there in
        record {
          count = length-set asks q (slice_index asks q + 1) ∙ before.count;
          few = λ r. elim (cases_eq r q) [
            | inl e ↦ subst (λ z. slice_index (set asks q (slice_index asks q + 1)) z ≤ node + 1) (sym e) (omega (arith, own, before.few q, past))
            | inr ne ↦ omega (arith, get_or-set_other asks q r (slice_index asks q + 1) 0 ne, before.few r, past)
          ];
          each = λ r lt. elim (cases_eq r q) [
            | inl e ↦ omega (arith, more-below r lt, few-here r lt, before.each r lt, ap (slice_index asks) e, own, ap (slice_index (set asks q (slice_index asks q + 1))) e)
            | inr ne ↦ omega (arith, more-below r lt, none-elsewhere r lt ne, before.each r lt, get_or-set_other asks q r (slice_index asks q + 1) 0 ne)
          ];
        }

  -- no act waits from here on
  pub counted-all : (from : ℕ) (asks : List ℕ) → AreCounted v b.number from asks → ((j l : ℕ) → from ≤ j → asks_here v k i b at j l → ⊥) → AsksAtMost v.allocation b.number asks
  counted-all from asks counted none q few =
      let nothing : Claim → Bool = λ x. false in
      let all : asks_of b.number (line_of_asks v.allocation q) ≤ length (filter (is_below b.number from) (line_of_asks v.allocation q)) + length (filter nothing (line_of_asks v.allocation q)) =
      either-passes (is_of_batch b.number) (is_below b.number from) nothing (line_of_asks v.allocation q) (λ x m e.
      elim (within-or_past x.node from) [
        | inl lt ↦ inl (both_true e (is-lt x.node from lt))
        | inr ge ↦ absurd (let a = claim-asks q few x m (nat_same x.batch b.number e) in none x.node a.0 ge a.1)
      ]) in
      omega (arith, all, none-pass nothing (line_of_asks v.allocation q) (λ x m e. cc), counted.each q few)
