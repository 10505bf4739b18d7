-- A batch is removed.
use Rattle.std.proofs.Common.{◌≡◌, ◌<◌, ◌≤◌, refl, sym, ◌∙◌, ap, ap₂, subst, ℕ, zero, suc, List, [], ◌∷◌, ◌++◌, Bool, true, false, not, cond, Option, Some, None, inl, inr, arith, map, filter, nat_eq}
use Rattle.std.{specs.Prelude.slice_get, specs.List.remove, proofs.lemmas.List.Sums.sum_by-cons}
use denote.Enum.Bare.{false_same}
use Rattle.batch_matrix.specs.{declared.state.State.State, declared.state.State.TheVariants.Idle, contracts.state.State.the_type, Matrix.same_state}
use Rattle.batch_recipe.specs.{Conditions.Name, Tree.Place}
use Rattle.batch_model.specs.{Lists.Has, Plant.BatchAct, Plant.Share, Plant.Plant, Plant.batch_at, Moves.Move, Moves.next, Events.removed, Events.refused, Events.moves_pending, Events.unknown_batch, Events.not_idle, Events.removing, Events.without_batch, Events.judged, Events.react, Events.Answer, Runs.Reacts, Standing.AreNumbered}
use Rattle.batch_model.specs.Plant as Model
use Rattle.batch_model.specs.Events as Events
use Rattle.batch_step_laws.proofs.Batches.{one_batch}
use Rattle.batch_record_laws.proofs.{Entries.IsOnce, Entries.Has-holders, Entries.nat_differs, Entries.nat_self, PlantFacts.Fact, PlantFacts.holding, PlantFacts.awaiting, PlantFacts.batch_facts, PlantFacts.early_facts, PlantFacts.facts, PlantFacts.entries, Batches.entry-of, Invariant.IsFitting, Invariant.standing-of, BatchProgress.early-none, BatchProgress.is_under_way, Members.map-Has}
use Rattle.batch_verify.specs.ClearedSet.{ClearedSet}
use Rattle.batch_arbiter.specs.Allocation.{Claim, shares_at, line_of_asks}
use Rattle.batch_chart.specs.NodesOf.{needs_in, place_at}
use Rattle.batch_engine.{specs.declared.batch.Batch.Batch, specs.View.EngineView, specs.View.setup, specs.View.model_batch, specs.View.claim_act, specs.View.share_of, specs.View.claimed_shares, specs.View.place_in, specs.View.resource_number, specs.View.line_in, specs.View.line_at, specs.View.plant_of, specs.View.tree_of, specs.Kept.IsRunningBatch, specs.Kept.IsKept, specs.Kept.needs_of_all, proofs.RecordOfPlant.safe, proofs.RecordOfPlant.standing, proofs.BatchPlaces.chosen-false, proofs.BatchPlaces.later-number, proofs.BatchPlaces.Has-batch_of, proofs.BatchLookups.Has-get, proofs.BatchAfterMove.fun_ext, proofs.BatchAfterMove.test-other, proofs.BatchAfterMove.test-other', proofs.InvariantAfterEvent.with, proofs.InvariantAfterEvent.event-kept, proofs.SlabChanges.each-remove}

-- the machine's answer to the removal of an idle batch
pub react-remove : (v : EngineView) (n : ℕ) (d : Model.Batch) → next (setup v.cleared) (plant_of v) ≡ None → batch_at (plant_of v) n ≡ Some d → d.state ≡ Idle
    → react (setup v.cleared) (plant_of v) (Events.remove n) ≡ (removed d.number, without_batch d.number (plant_of v))
react-remove v n d settled found idle =
    ap (λ (m : Option Move). let a : Answer = elim m [ Some l ↦ (refused moves_pending, plant_of v) | None ↦ judged (setup v.cleared) (plant_of v) (Events.remove n) ] in a) settled
    ∙ ap (λ (b : Option Model.Batch). let a : Answer = elim b [ None ↦ (refused unknown_batch, plant_of v) | Some d ↦ removing (plant_of v) d ] in a) found
    ∙ ap (λ (x : State). let a : Answer = elim (same_state x Idle) [ true ↦ (removed d.number, without_batch d.number (plant_of v)) | false ↦ (refused (not_idle x), plant_of v) ] in a) idle

module _ (c : ClearedSet) where
  kept-cond : {X : Type 0} (t : Bool) (x : X) (xs : List X) → t ≡ true → cond t (x ∷ xs) xs ≡ x ∷ xs
  kept-cond true x xs e = refl
  kept-cond false x xs e = absurd cc

  gone-cond : {X : Type 0} (t : Bool) (x : X) (xs : List X) → t ≡ false → cond t (x ∷ xs) xs ≡ xs
  gone-cond true x xs e = absurd cc
  gone-cond false x xs e = refl

  later-stay : (n : ℕ) (bs : List Batch) → ((d : Batch) → Has bs d → n < d.number) → map (model_batch c) bs ≡ filter (λ (b : Model.Batch). not (nat_eq b.number n)) (map (model_batch c) bs)
  later-stay n [] h = refl
  later-stay n (x ∷ bs) h =
      ap (λ zs. model_batch c x ∷ zs) (later-stay n bs (λ d k. h d (inr k)))
      ∙ sym (kept-cond (not (nat_eq x.number n)) (model_batch c x) (filter (λ (b : Model.Batch). not (nat_eq b.number n)) (map (model_batch c) bs)) (ap not (test-other' x.number n (h x (inl refl)))))

  pub batches-less : (next : ℕ) (bs : List Batch) (i : ℕ) (b : Batch) → AreNumbered next (map (model_batch c) bs) → slice_get bs i ≡ Some b
      → map (model_batch c) (remove bs i) ≡ filter (λ (d : Model.Batch). not (nat_eq d.number b.number)) (map (model_batch c) bs)
  batches-less next [] i b k e = absurd cc
  batches-less next (x ∷ bs) zero b k e =
      let g : x ≡ b = cc in
      later-stay b.number bs (λ d m. subst (λ (z : Batch). z.number < d.number) g (later-number c next x bs d k m))
      ∙ sym (gone-cond (not (nat_eq x.number b.number)) (model_batch c x) (filter (λ (d : Model.Batch). not (nat_eq d.number b.number)) (map (model_batch c) bs))
      (ap not (subst (λ (z : Batch). nat_eq x.number z.number ≡ true) g (nat_self x.number))))
  batches-less next (x ∷ bs) (suc i) b k e =
      let above : x.number < b.number = later-number c next x bs b k (Has-get bs i b e) in
      ap (λ zs. model_batch c x ∷ zs) (batches-less next bs i b k.2 e)
      ∙ sym (kept-cond (not (nat_eq x.number b.number)) (model_batch c x) (filter (λ (d : Model.Batch). not (nat_eq d.number b.number)) (map (model_batch c) bs)) (ap not (test-other x.number b.number above)))

  place-less : (bs : List Batch) (i : ℕ) (b : Batch) → slice_get bs i ≡ Some b → (n j : ℕ) → (n ≡ b.number → ⊥) → place_in c (remove bs i) n j ≡ place_in c bs n j
  place-less [] i b e n j d = absurd cc
  place-less (x ∷ bs) zero b e n j d =
      let g : x ≡ b = cc in
      sym (chosen-false (nat_eq x.number n) _ _ (nat_differs x.number n (λ q. d (sym q ∙ ap (λ (z : Batch). z.number) g))))
  place-less (x ∷ bs) (suc i) b e n j d = ap (λ r. let z : Place = elim (nat_eq x.number n) [ true ↦ place_at (tree_of c x) j | false ↦ r ] in z) (place-less bs i b e n j d)

  pub acts-less : (bs : List Batch) (i : ℕ) (b : Batch) → slice_get bs i ≡ Some b → (xs : List Claim) → ((x : Claim) → Has xs x → x.batch ≡ b.number → ⊥)
      → claimed_shares c (remove bs i) xs ≡ claimed_shares c bs xs
  acts-less bs i b e [] h = refl
  acts-less bs i b e (x ∷ xs) h =
      ap₂ (λ y ys. y ∷ ys) (ap (λ (z : Place). let y : Share = record { act = (x.batch, z); units = x.units } in y) (place-less bs i b e x.batch x.node (h x (inl refl))))
      (acts-less bs i b e xs (λ y k. h y (inr k)))

needs-less : (c : ClearedSet) (bs : List Batch) (i : ℕ) → needs_of_all c (remove bs i) ≤ needs_of_all c bs
needs-less c [] zero = omega arith
needs-less c [] (suc i) = omega arith
needs-less c (x ∷ bs) zero = omega (arith, sum_by-cons (λ (z : Batch). needs_in (tree_of c z)) x bs)
needs-less c (x ∷ bs) (suc i) =
    omega (arith, needs-less c bs i, sum_by-cons (λ (z : Batch). needs_in (tree_of c z)) x bs, sum_by-cons (λ (z : Batch). needs_in (tree_of c z)) x (remove bs i))

module _ (v : EngineView) (k : IsKept v) (i : ℕ) (b : Batch) (at : slice_get v.batches i ≡ Some b) (idle : b.state ≡ Idle) where
  -- an idle batch has no facts
  no-facts : batch_facts (model_batch v.cleared b) ≡ []
  no-facts =
      let d : Model.Batch = model_batch v.cleared b in
      let i' : Has (plant_of v).batches d = Has-batch_of v.cleared v.batches b (Has-get v.batches i b at) in
      let fits : IsFitting b.state (facts d.rest) = ((safe v k).sound d i').fits in
      let none : facts d.rest ≡ [] = subst (λ x. IsFitting x (facts d.rest)) idle fits in
      let early : d.in_advance ≡ [] = early-none (setup v.cleared) d (standing-of (setup v.cleared) (plant_of v) (standing v k) d i') (ap is_under_way idle) in
      ap₂ (λ xs ys. early_facts xs ++ ys) early none

  no-entry : (a : BatchAct) (f : Fact) → a.0 ≡ b.number → Has (entries (plant_of v).batches) (a, f) → ⊥
  no-entry a f e h =
      let d = entry-of (plant_of v).batches a f h in
      let same : d.0 ≡ model_batch v.cleared b =
      one_batch v.next_number (plant_of v).batches d.0 (model_batch v.cleared b) (standing v k).numbers d.1 (Has-batch_of v.cleared v.batches b (Has-get v.batches i b at)) (d.2 ∙ e) in
      subst (λ es. Has es (a.1, f)) (ap (λ (z : Model.Batch). batch_facts z) same ∙ no-facts) d.3

  no-waiter : (name : Name) (q : ℕ) → resource_number v.cleared name ≡ Some q → (x : Claim) → Has (line_of_asks v.allocation q) x → x.batch ≡ b.number → ⊥
  no-waiter name q e x h s =
      no-entry (claim_act v.cleared v.batches x) (awaiting (record { resource = name; units = x.units })) s
      ((safe v k).asked name (share_of v.cleared v.batches x)
      (subst (λ (xs : List Share). Has xs (share_of v.cleared v.batches x)) (sym (ap (line_at v) e)) (map-Has (share_of v.cleared v.batches) (line_of_asks v.allocation q) x h)))

  no-holder : (name : Name) (q : ℕ) → resource_number v.cleared name ≡ Some q → (x : Claim) → Has (shares_at v.allocation q) x → x.batch ≡ b.number → ⊥
  no-holder name q e x h s =
      no-entry (claim_act v.cleared v.batches x) (holding (record { resource = name; units = x.units })) s
      (Has-holders name (entries (plant_of v).batches) (share_of v.cleared v.batches x)
      (((safe v k).held name).1 (share_of v.cleared v.batches x)
      (subst (λ (xs : List Share). Has xs (share_of v.cleared v.batches x)) (k.tracked.shares q name e) (map-Has (share_of v.cleared v.batches) (shares_at v.allocation q) x h))))

  lines-less : (name : Name) (q : ℕ) → resource_number v.cleared name ≡ Some q → claimed_shares v.cleared (remove v.batches i) (line_of_asks v.allocation q) ≡ claimed_shares v.cleared v.batches (line_of_asks v.allocation q)
  lines-less name q e = acts-less v.cleared v.batches i b at (line_of_asks v.allocation q) (no-waiter name q e)

  line-less : (name : Name) → line_in (with v (remove v.batches i) v.next_number v.allocation) name ≡ line_in v name
  line-less name = go (resource_number v.cleared name) refl
    where
      go : (m : Option ℕ) → resource_number v.cleared name ≡ m → line_at (with v (remove v.batches i) v.next_number v.allocation) m ≡ line_at v m
      go None e = refl
      go (Some q) e = lines-less name q e

  module _ (n : ℕ) (settled : next (setup v.cleared) (plant_of v) ≡ None) (found : batch_at (plant_of v) n ≡ Some (model_batch v.cleared b)) where
    pub remove-reacts : Reacts (setup v.cleared) (plant_of v) (Events.remove n) (removed b.number) (plant_of (with v (remove v.batches i) v.next_number v.allocation))
    remove-reacts =
        inl (react-remove v n (model_batch v.cleared b) settled found idle
        ∙ ap (λ (s : Plant). let a : Answer = (removed b.number, s) in a)
        (sym (ap₂ (λ (bs : List Model.Batch) (l : Name → List Share). let p : Plant = record { batches = bs; next_number = v.next_number; line = l } in p)
        (batches-less v.cleared v.next_number v.batches i b (standing v k).numbers at) (fun_ext line-less))))

    pub remove-kept : IsKept (with v (remove v.batches i) v.next_number v.allocation)
    remove-kept =
        event-kept v k (remove v.batches i) v.next_number v.allocation (Events.remove n) (removed b.number) remove-reacts
        (λ name q e. acts-less v.cleared v.batches i b at (shares_at v.allocation q) (no-holder name q e))
        (each-remove (IsRunningBatch v.cleared) v.batches i k.batches) k.cell
        (λ name q e. subst IsOnce (sym (lines-less name q e)) (k.once name q e))
        (omega (arith, k.room, needs-less v.cleared v.batches i))

-- a removal that is refused
pub remove-unknown : (v : EngineView) (n : ℕ) → next (setup v.cleared) (plant_of v) ≡ None → batch_at (plant_of v) n ≡ None
    → Reacts (setup v.cleared) (plant_of v) (Events.remove n) (refused unknown_batch) (plant_of v)
remove-unknown v n settled none =
    inl (ap (λ (m : Option Move). let a : Answer = elim m [ Some l ↦ (refused moves_pending, plant_of v) | None ↦ judged (setup v.cleared) (plant_of v) (Events.remove n) ] in a) settled
    ∙ ap (λ (b : Option Model.Batch). let a : Answer = elim b [ None ↦ (refused unknown_batch, plant_of v) | Some d ↦ removing (plant_of v) d ] in a) none)

busy : (s : Plant) (d : Model.Batch) (x : State) → (x ≡ Idle → ⊥) → (let a : Answer = elim (same_state x Idle) [ true ↦ (removed d.number, without_batch d.number s) | false ↦ (refused (not_idle x), s) ] in a) ≡ (refused (not_idle x), s)
busy s d x h =
    ap (λ (t : Bool). let a : Answer = elim t [ true ↦ (removed d.number, without_batch d.number s) | false ↦ (refused (not_idle x), s) ] in a) (false_same the_type tt x Idle h)

pub remove-busy : (v : EngineView) (n : ℕ) (d : Model.Batch) → next (setup v.cleared) (plant_of v) ≡ None → batch_at (plant_of v) n ≡ Some d → (d.state ≡ Idle → ⊥)
    → Reacts (setup v.cleared) (plant_of v) (Events.remove n) (refused (not_idle d.state)) (plant_of v)
remove-busy v n d settled found off =
    inl (ap (λ (m : Option Move). let a : Answer = elim m [ Some l ↦ (refused moves_pending, plant_of v) | None ↦ judged (setup v.cleared) (plant_of v) (Events.remove n) ] in a) settled
    ∙ ap (λ (b : Option Model.Batch). let a : Answer = elim b [ None ↦ (refused unknown_batch, plant_of v) | Some e ↦ removing (plant_of v) e ] in a) found
    ∙ busy (plant_of v) d d.state off)
