-- A record is right about the units that are passed on or reserved, after every move.
use Rattle.std.proofs.Common.{arith, ◌≡◌, ◌⊎◌, ⊎_elim, refl, sym, ◌∙◌, ap, subst, ℕ, zero, suc, ◌<◌, ◌≤◌, List, [], ◌∷◌, ◌++◌, Bool, true, false, not, nat_eq, map, take, find, Option, Some, None, slice_get, inl, inr, bytes_eq}
use Rattle.std.{specs.Prelude.option_and_then, specs.Prelude.option_map, proofs.lemmas.Bool.cases_lt, proofs.lemmas.Slice.Eq.bytes_eq-Decides}
use Rattle.batch_matrix.specs.declared.state.State.{State}
use Rattle.batch_recipe.specs.{Conditions.Name, Conditions.same_name, declared.need.Need.Need, Needs.resources_needed, Tree.Place, Tree.Reserve, Tree.Step, Tree.Task, Tree.Tree, Tree.runs, Tree.follows}
use Rattle.batch_model.{specs.ActStates.steps, specs.Cleared.Ranking, specs.Lists.Has, specs.Lists.Each, specs.Moves.Move, specs.Moves.state, specs.Moves.release, specs.Moves.pass, specs.Moves.begin, specs.Moves.start, specs.Moves.place_of_move, specs.Moves.batch_of, specs.Moves.reserved_place, specs.Moves.passing, specs.Moves.act_after, specs.Moves.act_move, specs.Moves.batch_moves, specs.Moves.batch_after, specs.Moves.next, specs.Moves.after_move, specs.Plant.Setup, specs.Plant.Batch, specs.Plant.Share, specs.Plant.Plant, specs.Plant.moment_of, specs.Plant.in_act, specs.Rest.Rest, specs.Rest.ready, specs.Rest.freeing, specs.Rest.same_place, specs.Rest.acts, specs.Rest.changed_at, specs.Records.holders_told, specs.Runs.Out, specs.Runs.move, specs.Runs.goes_on, specs.Standing.IsStandingBatch, specs.Standing.IsStanding, specs.Transfers.Kept, specs.Transfers.without_begun, specs.Transfers.kept_until, specs.Transfers.passed_by, specs.Transfers.passed_told, specs.Transfers.reserved_by, specs.Transfers.reserved_at, specs.Transfers.reserved_from, specs.Transfers.reserved_told, proofs.Members.Has-split, proofs.Members.Has-filter_map, proofs.Members.Each-Has, proofs.Members.Each-map, proofs.Members.Has-flat_map}
use Rattle.batch_step_laws.proofs.{StateMoves.IsStateMove, StateMoves.state_move-is, WorkAfterChange.to_same_place, WorkAfterMove.Has-batch_moves, WorkAfterMove.batch_moves-number, WorkAfterMove.next-possible, WorkAfterMove.same-rest, WorkAfterMove.same-state, DueUnitProcedures.follower-due, ActMoves.IsComing, ActMoves.IsMoveOf, ActMoves.act_move-is, ActMoves.running-goes_on}
use Rattle.batch_record_laws.{specs.Ways.RanksRiseAbove, proofs.PhaseStepPlaces.Avoids, proofs.PhaseStepPlaces.phase-elsewhere, proofs.Batches.only, proofs.Batches.Has-only, proofs.Batches.below-next, proofs.Batches.of-entry, proofs.DuePlaces.awaited-nowhere, proofs.Entries.nat_same, proofs.Entries.nat_self, proofs.Entries.Has-filter, proofs.Entries.name_same, proofs.Entries.name_self, proofs.Entries.frame-middle, proofs.Entries.holders-Has, proofs.PlantFacts.Standing, proofs.PlantFacts.holding, proofs.PlantFacts.held_at, proofs.PlantFacts.facts, proofs.PlantFacts.entries, proofs.PlantFacts.share, proofs.FactsAfterChange.Frame, proofs.FactsAfterChange.frame, proofs.FactsAfterChange.NeedsRise, proofs.FactsAfterChange.needs-rise, proofs.Invariant.IsSound, proofs.Invariant.IsKept, proofs.Invariant.standing-of, proofs.Invariant.numbers-of, proofs.Members.map-Has, proofs.Members.Has-Each, proofs.ActMoves.take-whole, proofs.BatchProgress.IsOfStep, proofs.BatchProgress.act-step_in, proofs.HoldingsInAdvance.Nowhere, proofs.RanksOfAsks.Has-get, proofs.RanksOfAsks.rises-next, proofs.NeedsOfReserves.one-step, proofs.UnitProcedures.find-passes}
use Rattle.batch_safety.proofs.{KeptUnits.IsOfOther, KeptUnits.Holds, KeptUnits.Takes, KeptUnits.still-held, KeptUnits.held-passed, KeptUnits.passed_told-last, KeptUnits.reserved_told-last, KeptUnits.passed_told-others, KeptUnits.reserved_told-others, ActsOfMoves.IsMade, ActsOfMoves.act_move-made, UnbegunActs.IsUnbegunAt, UnbegunActs.Begins, UnbegunActs.advance-unbegun, UnbegunActs.changed-unbegun, UnbegunActs.act_after-unbegun}

-- Of batch n, whose tree is c and of which r remains: a unit is held where it was passed to, and its unit procedure isn't begun
pub record IsHeldFor (outs : List Out) (n : ℕ) (c : Tree) (r : Rest) (kept : Kept) : Type 0 where
  pub held : Holds outs kept.unit n kept.place
  pub unbegun : IsUnbegunAt kept.place (acts r)
  pub avoided : Avoids kept.place c

-- or the step holds it that reserves it
pub record IsHeldByStep (outs : List Out) (n : ℕ) (c : Tree) (kept : Kept) : Type 0 where
  pub step : Step
  pub number : ℕ
  pub need : Need
  pub known : Has (steps c) step
  pub here : slice_get step.needs number ≡ Some need
  pub unit : need.resource ≡ kept.unit
  pub follows : reserved_place c step number ≡ Some kept.place
  pub held : Holds outs kept.unit n step.place

abbrev pub IsStillKept : List Out → ℕ → Tree → Rest → Kept → Type 0
IsStillKept outs n c r kept = IsHeldFor outs n c r kept ⊎ IsHeldByStep outs n c kept

-- all that is told to be kept is so; of a batch on its way to Stopped or Aborted, or there, nothing is
pub record KeepsAs (outs : List Out) (n : ℕ) (c : Tree) (r : Rest) (x : State) : Type 0 where
  pub passed : Each (IsHeldFor outs n c r) (passed_told n outs)
  pub reserved : Each (IsStillKept outs n c r) (reserved_told n c outs)
  pub over : goes_on x ≡ false → (passed_told n outs ≡ []) × (reserved_told n c outs ≡ [])

abbrev pub KeepsIn : List Out → Batch → Type 0
KeepsIn outs b = KeepsAs outs b.number b.recipe.procedure b.rest b.state

-- A line that changes no told fact

module _ (outs : List Out) (o : Out) (n : ℕ) (c : Tree) (r later : Rest) (none : (unit : Name) (p : Place) → Takes unit n p o → ⊥) where
  on-held : ((p : Place) → IsUnbegunAt p (acts r) → IsUnbegunAt p (acts later)) → (kept : Kept) → IsHeldFor outs n c r kept → IsHeldFor (outs ++ o ∷ []) n c later kept
  on-held stays kept h = record {
    held = still-held outs o kept.unit n kept.place (none kept.unit kept.place) h.held;
    unbegun = stays kept.place h.unbegun;
    avoided = h.avoided;
  }

  on-step : (kept : Kept) → IsHeldByStep outs n c kept → IsHeldByStep (outs ++ o ∷ []) n c kept
  on-step kept h = record {
    step = h.step;
    number = h.number;
    need = h.need;
    known = h.known;
    here = h.here;
    unit = h.unit;
    follows = h.follows;
    held = still-held outs o kept.unit n h.step.place (none kept.unit h.step.place) h.held;
  }

  pub keeps-on : (x y : State) → passed_told n (outs ++ o ∷ []) ≡ passed_told n outs → reserved_told n c (outs ++ o ∷ []) ≡ reserved_told n c outs
      → ((p : Place) → IsUnbegunAt p (acts r) → IsUnbegunAt p (acts later)) → (goes_on y ≡ false → goes_on x ≡ false) → KeepsAs outs n c r x → KeepsAs (outs ++ o ∷ []) n c later y
  keeps-on x y one two stays off h = record {
    passed = subst (Each (IsHeldFor (outs ++ o ∷ []) n c later)) (sym one) (Each-map (IsHeldFor outs n c r) (IsHeldFor (outs ++ o ∷ []) n c later) (on-held stays) (passed_told n outs) h.passed);
    reserved =
        subst (Each (IsStillKept (outs ++ o ∷ []) n c later)) (sym two)
        (Each-map (IsStillKept outs n c r) (IsStillKept (outs ++ o ∷ []) n c later) (λ kept. ⊎_elim (λ k. inl (on-held stays kept k)) (λ k. inr (on-step kept k))) (reserved_told n c outs) h.reserved);
    over = λ e. let w = h.over (off e) in (one ∙ w.0, two ∙ w.1);
  }

pub others-take : (unit : Name) (n : ℕ) (p : Place) (o : Out) → IsOfOther n o → Takes unit n p o → ⊥
others-take unit n p (move (release batch place need)) other t = other t.0
others-take unit n p (move (pass batch place to need)) other t = other t.0
others-take unit n p o other t = absurd t

-- a line of another batch
pub other-keeps : (outs : List Out) (o : Out) (b : Batch) → IsOfOther b.number o → KeepsIn outs b → KeepsIn (outs ++ o ∷ []) b
other-keeps outs o b other h =
    keeps-on outs o b.number b.recipe.procedure b.rest b.rest (λ unit p. others-take unit b.number p o other) b.state b.state
    (passed_told-others b.number outs o other) (reserved_told-others b.number b.recipe.procedure outs o other) (λ p k. k) (λ e. e) h

-- Lists of needs

take-has : (j k : ℕ) (xs : List Need) (x : Need) → j < k → slice_get xs j ≡ Some x → Has (take k xs) x
take-has j zero xs x lt e = absurd (omega (arith, lt))
take-has j (suc k) [] x lt e = absurd cc
take-has zero (suc k) (y ∷ xs) x lt e = inl cc
take-has (suc j) (suc k) (y ∷ xs) x lt e = inr (take-has j k xs x (omega (arith, lt)) e)

-- a resource is asked for once
same-index : (rank : Ranking) (low : ℕ) (xs : List Need) (j k : ℕ) (x y : Need) → RanksRiseAbove rank low (resources_needed xs) → slice_get xs j ≡ Some x → slice_get xs k ≡ Some y → x.resource ≡ y.resource → j ≡ k
same-index rank low xs j k x y h e f same = go (cases_lt j k) (cases_lt k j)
  where
    equal : rank x.resource ≡ rank y.resource
    equal = ap rank same

    go : (j < k) ⊎ (k ≤ j) → (k < j) ⊎ (j ≤ k) → j ≡ k
    go (inl lt) w = let less = rises-next rank low k xs x y h (take-has j k xs x lt e) f in absurd (omega (arith, less, equal))
    go (inr le) (inl lt) = let less = rises-next rank low j xs y x h (take-has k j xs y lt f) e in absurd (omega (arith, less, equal))
    go (inr le) (inr ge) = omega (arith, le, ge)

-- Whether the line takes units from the place

three : (m n : ℕ) (p q : Place) (t : Bool) → ((m ≡ n) × (p ≡ q) × (t ≡ true)) ⊎ ((m ≡ n) × (p ≡ q) × (t ≡ true) → ⊥)
three m n p q t = go (nat_eq m n) (bytes_eq p q) t refl refl refl
  where
    opposite : (u : Bool) → u ≡ true → u ≡ false → ⊥
    opposite u e f = let bad : true ≡ false = sym e ∙ f in cc

    go : (u v w : Bool) → nat_eq m n ≡ u → bytes_eq p q ≡ v → t ≡ w → ((m ≡ n) × (p ≡ q) × (t ≡ true)) ⊎ ((m ≡ n) × (p ≡ q) × (t ≡ true) → ⊥)
    go true true true e f g = inl (nat_same m n e, (bytes_eq-Decides p q).0 f, g)
    go false v w e f g = inr (λ h. opposite (nat_eq m n) (subst (λ z. nat_eq m z ≡ true) h.0 (nat_self m)) e)
    go true false w e f g = inr (λ h. opposite (bytes_eq p q) ((bytes_eq-Decides p q).1 h.1) f)
    go true true false e f g = inr (λ h. opposite t h.2 g)

takes-or-not : (unit : Name) (n : ℕ) (p : Place) (m : Move) → Takes unit n p (move m) ⊎ (Takes unit n p (move m) → ⊥)
takes-or-not unit n p (release batch place need) = three batch n place p (same_name unit need.resource)
takes-or-not unit n p (pass batch place to need) = three batch n place p (same_name unit need.resource)
takes-or-not unit n p m = inr (λ h. h)

-- a move begins the unit procedure at the place
abbrev BeginsChart : Place → Move → Type 0
BeginsChart q (begin number place name) = place ≡ q
BeginsChart q _ = ⊥

-- a unit kept after a move of the batch was kept before, and the move doesn't begin the act at its place
kept-members : (n : ℕ) (before : List Kept) (m : Move) (kept : Kept) → batch_of m ≡ n → Has (kept_until n before (move m)) kept → Has before kept × (BeginsChart kept.place m → ⊥)
kept-members n before (begin batch place name) kept number h = go (nat_eq batch n) (subst (λ z. nat_eq batch z ≡ true) number (nat_self batch)) h
  where
    no_both : (t : Bool) → t ≡ true → not t ≡ true → ⊥
    no_both true u v = let bad : false ≡ true = v in cc
    no_both false u v = let bad : false ≡ true = u in cc

    go : (t : Bool) → t ≡ true → Has (elim t [ true ↦ without_begun place before | false ↦ before ]) kept → Has before kept × (place ≡ kept.place → ⊥)
    go true e k =
        let m = Has-filter (λ keeps. not (same_place keeps.place place)) before kept k in
        (m.0, λ q. no_both (same_place kept.place place) ((bytes_eq-Decides kept.place place).1 (sym q)) m.1)
    go false e k = let bad : false ≡ true = e in absurd cc
kept-members n before m kept number h = (h, λ q. q)

no_members : {X : Type 0} (xs : List X) → ((x : X) → Has xs x → ⊥) → xs ≡ []
no_members [] h = refl
no_members (x ∷ xs) h = absurd (h x (inl refl))

same-number : (m : Move) (b : Batch) → (passing m b).number ≡ b.number
same-number m b = grind arith

same-recipe : (m : Move) (b : Batch) → (passing m b).recipe ≡ b.recipe
same-recipe m b = grind arith

module _ (d : Setup) (rank : Ranking) (outs : List Out) (s : Plant) (sd : IsStanding d s) (k : IsKept d rank outs s) (b : Batch) (i : Has s.batches b) (q : KeepsIn outs b) where
  abbrev c : Tree
  c = b.recipe.procedure

  fine : IsSound d rank b
  fine = k.sound b i

  here : IsStandingBatch d b
  here = standing-of d s sd b i

  -- the record tells of each holding
  told-held : (p : Place) (r : Need) → Has (facts b.rest) (p, holding r) → Holds outs r.resource b.number p
  told-held p r h =
      let x : Share = share (b.number, p) r.units in
      map-Has (λ (z : Share). z.act) (holders_told outs r.resource) x
      ((k.held r.resource).2 x (holders-Has r.resource (entries s.batches) x (of-entry s.batches b p (holding r) i h)))

  module _ (a : Rest) (j : Has (acts b.rest) a) (m : Move) (e : act_move d s b a ≡ Some m) where
    abbrev line : Out
    line = move m

    abbrev so_far : List Out
    so_far = outs ++ line ∷ []

    -- the batch after the move
    abbrev moved : Batch
    moved = in_act (place_of_move m) (act_after (moment_of b) m) (passing m b)

    moves : IsMoveOf b a m
    moves = act_move-is b d s a m e

    made : IsMade b a m
    made = act_move-made b d s a m e

    unbegun-on : (p : Place) → (Begins p m → ⊥) → IsUnbegunAt p (acts b.rest) → IsUnbegunAt p (acts moved.rest)
    unbegun-on p not_so h =
        advance-unbegun p (moment_of (passing m b)) (changed_at (place_of_move m) (act_after (moment_of b) m) (passing m b).rest)
        (changed-unbegun p (place_of_move m) (act_after (moment_of b) m) (act_after-unbegun p (moment_of b) m not_so) (passing m b).rest
        (subst (λ r. IsUnbegunAt p (acts r)) (sym (same-rest m b)) h))

    -- Who gives up a unit

    record Gives (made : Move) (unit : Name) (p : Place) : Type 0 where
      step : Step
      last : ℕ
      need : Need
      is : a ≡ freeing step (suc last)
      place : step.place ≡ p
      at : slice_get step.needs last ≡ Some need
      named : same_name unit need.resource ≡ true
      follows : (to : Place) → reserved_place c step last ≡ Some to → made ≡ pass b.number p to need

    gives : (unit : Name) (p : Place) → goes_on b.state ≡ true → Takes unit b.number p line → Gives m unit p
    gives unit p on t = go m made t
      where
        go : (made : Move) → IsMade b a made → Takes unit b.number p (move made) → Gives made unit p
        go (release batch place r) h w =
            let x = h on in
            record {
              step = x.0;
              last = x.1;
              need = r;
              is = x.2;
              place = sym x.5 ∙ w.1;
              at = x.3;
              named = w.2;
              follows = λ to z. let bad : None ≡ Some to = sym x.4 ∙ z in absurd cc;
            }
        go (pass batch place to r) h w = record {
          step = h.0;
          last = h.1;
          need = r;
          is = h.2;
          place = sym h.5 ∙ w.1;
          at = h.3;
          named = w.2;
          follows = λ other z. let same : Some to ≡ Some other = sym h.4 ∙ z in let number = w.0 in let place_is = w.1 in cc;
        }
        go other h w = absurd w

    freeing-stands : (step : Step) (last : ℕ) → a ≡ freeing step (suc last) → Has (acts b.rest) (freeing step (suc last))
    freeing-stands step last is = subst (Has (acts b.rest)) is j

    -- Units that are held in advance

    held-after : goes_on b.state ≡ true → (kept : Kept) → IsHeldFor outs b.number c b.rest kept → (Begins kept.place m → ⊥) → IsHeldFor so_far b.number c moved.rest kept
    held-after on kept h not_so = record {
      held =
          still-held outs line kept.unit b.number kept.place
          (λ t. let g = gives kept.unit kept.place on t in h.unbegun (freeing g.step (suc g.last)) (freeing-stands g.step g.last g.is) g.place) h.held;
      unbegun = unbegun-on kept.place not_so h.unbegun;
      avoided = h.avoided;
    }

    -- a unit is passed on
    passed-on : (p to : Place) (r : Need) → m ≡ pass b.number p to r → (unit : Name) → same_name unit r.resource ≡ true → IsHeldFor so_far b.number c moved.rest (record { place = to; unit = unit })
    passed-on p to r is unit named =
        let coming : IsComing b a (pass b.number p to r) = subst (IsComing b a) is moves.coming in
        let stands : Has (acts b.rest) (freeing coming.0 coming.1) = subst (Has (acts b.rest)) coming.3 j in
        let free : Nowhere to (acts b.rest)
        = awaited-nowhere c b.rest fine.cleared.placed here.stands to (follower-due c b.rest coming.0 coming.1 coming.2 to fine.cleared.placed here.stands stands coming.4) in
        record {
          held = subst (λ z. Holds (outs ++ move z ∷ []) unit b.number to) (sym is) (held-passed outs b.number p to r unit named);
          unbegun = unbegun-on to (λ z. subst (Begins to) is z) (λ x l at. absurd (free x l at));
          avoided = fine.cleared.avoided coming.0.place coming.2 to coming.4;
        }

    -- Units that steps hold

    step-of : (step : Step) (last : ℕ) → a ≡ freeing step (suc last) → Has (steps c) step
    step-of step last is = act-step_in c b.rest a step here.stands j (subst (λ z. IsOfStep z step) (sym is) refl)

    by-step : goes_on b.state ≡ true → (kept : Kept) → IsHeldByStep outs b.number c kept → IsStillKept so_far b.number c moved.rest kept
    by-step on kept h = ⊎_elim taken left (takes-or-not kept.unit b.number h.step.place m)
      where
        left : (Takes kept.unit b.number h.step.place line → ⊥) → IsStillKept so_far b.number c moved.rest kept
        left not_so = inr (record {
          step = h.step;
          number = h.number;
          need = h.need;
          known = h.known;
          here = h.here;
          unit = h.unit;
          follows = h.follows;
          held = still-held outs line kept.unit b.number h.step.place not_so h.held;
        })

        taken : Takes kept.unit b.number h.step.place line → IsStillKept so_far b.number c moved.rest kept
        taken t =
            let g = gives kept.unit h.step.place on t in
            let same : g.step ≡ h.step = one-step (0 ∷ []) c fine.cleared.placed g.step h.step (step-of g.step g.last g.is) h.known g.place in
            let rising : NeedsRise (λ z. suc (rank z)) (freeing g.step (suc g.last))
            = needs-rise (λ z. suc (rank z)) 0 c b.rest fine.cleared.rising here.stands (freeing g.step (suc g.last)) (freeing-stands g.step g.last g.is) in
            let number : g.last ≡ h.number
            = same-index (λ z. suc (rank z)) rising.0 g.step.needs g.last h.number g.need h.need rising.1 g.at (subst (λ (z : Step). slice_get z.needs h.number ≡ Some h.need) (sym same) h.here)
            (sym (name_same kept.unit g.need.resource g.named) ∙ sym h.unit) in
            let there : reserved_place c g.step g.last ≡ Some kept.place
            = ap (reserved_place c g.step) number ∙ (ap (λ z. reserved_place c z h.number) same ∙ h.follows) in
            inl (passed-on h.step.place kept.place g.need (g.follows kept.place there) kept.unit g.named)

    -- Steps that begin

    step-kept : (after_move : List Out) (t : Step) → Has (steps c) t → ((r : Need) → Has t.needs r → Holds after_move r.resource b.number t.place) → (kept : Kept) → Has (reserved_by c t) kept
        → IsHeldByStep after_move b.number c kept
    step-kept after_move t known holds kept h =
        let x = Has-filter_map
        (λ (reserve : Reserve). option_and_then (λ place. option_map (λ need. let z : Kept = record { place = place; unit = need.resource } in z) (slice_get t.needs reserve.need)) (reserved_place c t reserve.need))
        t.reserves kept h in
        go x.0 (reserved_place c t x.0.need) refl (slice_get t.needs x.0.need) refl x.2
      where
        go : (x : Reserve) (o : Option Place) → reserved_place c t x.need ≡ o → (p : Option Need) → slice_get t.needs x.need ≡ p
            → ◌≡◌ {A = Option Kept} (option_and_then (λ place. option_map (λ need. let z : Kept = record { place = place; unit = need.resource } in z) p) o) (Some kept)
            → IsHeldByStep after_move b.number c kept
        go x None e p f g = let bad : ◌≡◌ {A = Option Kept} None (Some kept) = g in absurd cc
        go x (Some to) e None f g = let bad : ◌≡◌ {A = Option Kept} None (Some kept) = g in absurd cc
        go x (Some to) e (Some r) f g =
            let is : record { place = to; unit = r.resource } ≡ kept = (let w : Some (record { place = to; unit = r.resource }) ≡ Some kept = g in cc) in
            record {
              step = t;
              number = x.need;
              need = r;
              known = known;
              here = f;
              unit = ap (λ (z : Kept). z.unit) is;
              follows = e ∙ ap (λ (z : Kept). Some z.place) is;
              held = subst (λ u. Holds after_move u b.number t.place) (ap (λ (z : Kept). z.unit) is) (holds r (Has-get x.need t.needs r f));
            }

    at-kept : (after_move : List Out) (t : Step) (p : Place) → p ≡ t.place → Has (steps c) t → ((r : Need) → Has t.needs r → Holds after_move r.resource b.number t.place) → (kept : Kept) → Has (reserved_at c p) kept
        → IsHeldByStep after_move b.number c kept
    at-kept after_move t p at known holds kept h = go (find (λ step. same_place step.place p) (steps c)) refl h
      where
        go : (o : Option Step) → find (λ step. same_place step.place p) (steps c) ≡ o → Has (elim o [ None ↦ [] | Some step ↦ reserved_by c step ]) kept → IsHeldByStep after_move b.number c kept
        go None f l = absurd l
        go (Some u) f l =
            let found = find-passes (λ (step : Step). same_place step.place p) (steps c) u f in
            let same : t ≡ u = one-step (0 ∷ []) c fine.cleared.placed t u known found.0 (sym at ∙ sym (to_same_place u.place p found.1)) in
            step-kept after_move t known holds kept (subst (λ (z : Step). Has (reserved_by c z) kept) (sym same) l)

    -- a step that begins holds all its needs
    begins-held : (t : Step) (w : Task) (l : ℕ) → a ≡ ready t w l → slice_get t.needs l ≡ None → ((unit : Name) (p : Place) → Takes unit b.number p line → ⊥) → (r : Need) → Has t.needs r → Holds so_far r.resource b.number t.place
    begins-held t w l is none not_so r h =
        let there : Has (acts b.rest) (ready t w l) = subst (Has (acts b.rest)) is j in
        let fr : Frame b.rest (ready t w l) = frame (0 ∷ []) c b.rest fine.cleared.placed here.stands (ready t w l) there in
        let held : Has (held_at t.place (take l t.needs)) (t.place, holding r)
        = subst (λ xs. Has (held_at t.place xs) (t.place, holding r)) (sym (take-whole l t.needs none)) (map-Has (λ z. let x : Standing = (t.place, holding z) in x) t.needs r h) in
        still-held outs line r.resource b.number t.place (not_so r.resource t.place)
        (told-held t.place r (subst (λ z. Has z (t.place, holding r)) (sym fr.2) (frame-middle fr.0 (held_at t.place (take l t.needs)) fr.1 (t.place, holding r) held)))

    -- Members of the lists

    is-on : (o : List Kept) (kept : Kept) → (goes_on b.state ≡ false → o ≡ []) → Has o kept → goes_on b.state ≡ true
    is-on o kept off h = go (goes_on b.state) refl
      where
        go : (t : Bool) → goes_on b.state ≡ t → t ≡ true
        go true w = refl
        go false w = absurd (subst (λ xs. Has xs kept) (off w) h)

    not-begun : (kept : Kept) → Avoids kept.place c → (BeginsChart kept.place m → ⊥) → Begins kept.place m → ⊥
    not-begun kept avoided not_so z = go m made not_so z
      where
        go : (made : Move) → IsMade b a made → (BeginsChart kept.place made → ⊥) → Begins kept.place made → ⊥
        go (begin batch place name) h none y = none y
        go (start batch place phase handed) h none y =
            phase-elsewhere kept.place c b.rest avoided here.stands h.0 phase h.1 (subst (Has (acts b.rest)) h.2 j) (sym h.5 ∙ y)
        go other h none y = absurd y

    abbrev Goes : Type 0
    Goes = goes_on b.state ≡ true

    passed-new : (kept : Kept) → Has (passed_by b.number line) kept → Goes × IsHeldFor so_far b.number c moved.rest kept
    passed-new kept h = go m refl made moves.number h
      where
        go : (o : Move) → m ≡ o → IsMade b a o → batch_of o ≡ b.number → Has (passed_by b.number (move o)) kept → Goes × IsHeldFor so_far b.number c moved.rest kept
        go (pass batch place to r) is h number z = pick (nat_eq batch b.number) z
          where
            pick : (t : Bool) → Has (elim t [ true ↦ record { place = to; unit = r.resource } ∷ [] | false ↦ [] ]) kept → Goes × IsHeldFor so_far b.number c moved.rest kept
            pick true (inl y) =
                (h.6, subst (IsHeldFor so_far b.number c moved.rest) y (passed-on place to r (is ∙ ap (λ w. pass w place to r) number) r.resource (name_self r.resource)))
            pick true (inr y) = absurd y
            pick false y = absurd y
        go o is h number z = absurd z

    reserved-new : (kept : Kept) → Has (reserved_from b.number c line) kept → Goes × IsHeldByStep so_far b.number c kept
    reserved-new kept h = go m refl made h
      where
        go : (o : Move) → m ≡ o → IsMade b a o → Has (reserved_from b.number c (move o)) kept → Goes × IsHeldByStep so_far b.number c kept
        go (begin batch place name) is h z = pick (nat_eq batch b.number) z
          where
            none : (unit : Name) (p : Place) → Takes unit b.number p line → ⊥
            none unit p y = subst (λ w. Takes unit b.number p (move w)) is y

            pick : (t : Bool) → Has (elim t [ true ↦ reserved_at c place | false ↦ [] ]) kept → Goes × IsHeldByStep so_far b.number c kept
            pick true y = (
              running-goes_on b.state h.5,
              at-kept so_far h.0 place h.6 (act-step_in c b.rest a h.0 here.stands j (subst (λ w. IsOfStep w h.0) (sym h.3) refl)) (begins-held h.0 (follows name h.1) h.2 h.3 h.4 none) kept y,
            )
            pick false y = absurd y
        go (start batch place phase handed) is h z = pick (nat_eq batch b.number) z
          where
            none : (unit : Name) (p : Place) → Takes unit b.number p line → ⊥
            none unit p y = subst (λ w. Takes unit b.number p (move w)) is y

            pick : (t : Bool) → Has (elim t [ true ↦ reserved_at c place | false ↦ [] ]) kept → Goes × IsHeldByStep so_far b.number c kept
            pick true y = (
              running-goes_on b.state h.4,
              at-kept so_far h.0 place h.5 (act-step_in c b.rest a h.0 here.stands j (subst (λ w. IsOfStep w h.0) (sym h.2) refl)) (begins-held h.0 (runs phase) h.1 h.2 h.3 none) kept y,
            )
            pick false y = absurd y
        go o is h z = absurd z

    passed-member : (kept : Kept) → Has (passed_told b.number so_far) kept → Goes × IsHeldFor so_far b.number c moved.rest kept
    passed-member kept h =
        ⊎_elim (passed-new kept)
        (λ z.
        let y = kept-members b.number (passed_told b.number outs) m kept moves.number z in
        let on = is-on (passed_told b.number outs) kept (λ w. (q.over w).0) y.0 in
        let was = Each-Has (IsHeldFor outs b.number c b.rest) (passed_told b.number outs) kept q.passed y.0 in
        (on, held-after on kept was (not-begun kept was.avoided y.1)))
        (Has-split (passed_by b.number line) (kept_until b.number (passed_told b.number outs) line) kept (subst (λ xs. Has xs kept) (passed_told-last b.number outs line) h))

    reserved-member : (kept : Kept) → Has (reserved_told b.number c so_far) kept → Goes × IsStillKept so_far b.number c moved.rest kept
    reserved-member kept h =
        ⊎_elim (λ z. let y = reserved-new kept z in (y.0, inr y.1))
        (λ z.
        let y = kept-members b.number (reserved_told b.number c outs) m kept moves.number z in
        let on = is-on (reserved_told b.number c outs) kept (λ w. (q.over w).1) y.0 in (
          on,
          ⊎_elim (λ was. inl (held-after on kept was (not-begun kept was.avoided y.1))) (by-step on kept)
              (Each-Has (IsStillKept outs b.number c b.rest) (reserved_told b.number c outs) kept q.reserved y.0),
        ))
        (Has-split (reserved_from b.number c line) (kept_until b.number (reserved_told b.number c outs) line) kept (subst (λ xs. Has xs kept) (reserved_told-last b.number c outs line) h))

    off-none : goes_on b.state ≡ false → goes_on b.state ≡ true → ⊥
    off-none f g = let bad : true ≡ false = sym g ∙ f in cc

    act-keeps : KeepsIn so_far (batch_after m b)
    act-keeps =
        let own : KeepsAs so_far b.number c moved.rest b.state = record {
          passed = Has-Each (IsHeldFor so_far b.number c moved.rest) (passed_told b.number so_far) (λ kept h. (passed-member kept h).1);
          reserved = Has-Each (IsStillKept so_far b.number c moved.rest) (reserved_told b.number c so_far) (λ kept h. (reserved-member kept h).1);
          over = λ f. (
            no_members (passed_told b.number so_far) (λ kept h. off-none f (passed-member kept h).0),
            no_members (reserved_told b.number c so_far) (λ kept h. off-none f (reserved-member kept h).0),
          );
        } in
        subst (KeepsIn so_far) (sym moves.changes)
        (subst (λ x. KeepsAs so_far moved.number moved.recipe.procedure moved.rest x) (sym (same-state m b))
        (subst (λ x. KeepsAs so_far moved.number x.procedure moved.rest b.state) (sym (same-recipe m b))
        (subst (λ x. KeepsAs so_far x c moved.rest b.state) (sym (same-number m b)) own)))

  -- every move of the batch keeps the units that are kept for it
  pub move-keeps : (m : Move) → Has (batch_moves d s b) m → KeepsIn (outs ++ move m ∷ []) (batch_after m b)
  move-keeps m h =
      ⊎_elim
      (λ e.
      let t : IsStateMove b.number b.state b.rest m = state_move-is b m e in
      subst (λ z. KeepsIn (outs ++ move z ∷ []) (batch_after z b)) (sym t.1)
      (keeps-on outs (move (state b.number t.0)) b.number c b.rest b.rest (λ unit p z. z) b.state t.0
      (passed_told-last b.number outs (move (state b.number t.0))) (reserved_told-last b.number c outs (move (state b.number t.0)))
      (λ p z. z) t.3 q))
      (λ w. act-keeps w.0 w.1 m w.2)
      (Has-batch_moves d s b m h)

-- All batches

-- the units that are kept for each batch; of numbers that are not given yet nothing is told
pub record KeepsAll (outs : List Out) (s : Plant) : Type 0 where
  pub each : (b : Batch) → Has s.batches b → KeepsIn outs b
  pub fresh : (n : ℕ) → s.next_number ≤ n → (passed_told n outs ≡ []) × ((c : Tree) → reserved_told n c outs ≡ [])

pub still-fresh : (outs : List Out) (o : Out) (n : ℕ) → IsOfOther n o → (passed_told n outs ≡ []) × ((c : Tree) → reserved_told n c outs ≡ [])
    → (passed_told n (outs ++ o ∷ []) ≡ []) × ((c : Tree) → reserved_told n c (outs ++ o ∷ []) ≡ [])
still-fresh outs o n other h = (passed_told-others n outs o other ∙ h.0, λ c. reserved_told-others n c outs o other ∙ h.1 c)

module _ (d : Setup) (rank : Ranking) (outs : List Out) (s : Plant) (sd : IsStanding d s) (k : IsKept d rank outs s) (all : KeepsAll outs s) where
  pub move-keeps_all : (m : Move) → next d s ≡ Some m → KeepsAll (outs ++ move m ∷ []) (after_move s m)
  move-keeps_all m e =
      let w = Has-flat_map (batch_moves d s) s.batches m (next-possible d s m e) in
      let b : Batch = w.0 in
      let number : batch_of m ≡ b.number = batch_moves-number d s b m w.2 in
      record {
        each = λ z h.
            ⊎_elim (λ is. subst (KeepsIn (outs ++ move m ∷ [])) (sym is) (move-keeps d rank outs s sd k b w.1 (all.each b w.1) m w.2))
            (λ other. other-keeps outs (move m) z (λ same. other.1 (sym same ∙ number)) (all.each z other.0))
            (Has-only s.next_number s.batches b (batch_after m) z (numbers-of d s sd) w.1 (subst (λ n. Has (map (only n (batch_after m)) s.batches) z) number h));
        fresh = λ n le.
            still-fresh outs (move m) n
            (λ same. let less : b.number < s.next_number = below-next s.next_number s.batches b (numbers-of d s sd) w.1 in omega (arith, less, le, same, number)) (all.fresh n le);
      }
