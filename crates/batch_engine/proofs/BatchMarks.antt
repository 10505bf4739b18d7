-- Marks on batches.
use Rattle.std.proofs.Common.{◌≡◌, ◌<◌, ◌≤◌, refl, sym, ◌∙◌, ap, subst, ℕ, zero, suc, List, [], ◌∷◌, ◌++◌, Bool, true, false, Option, Some, None, arith, length, map, get_or, nat_eq}
use Rattle.std.{specs.Prelude.◌+◌, specs.Prelude.nat_le, specs.Prelude.slice_get, specs.Prelude.IfSome, specs.Prelude.option_map, specs.Prelude.position, specs.Prelude.not, specs.Prelude.IsTrue, specs.Option.is_some, proofs.lemmas.Bool.and_parts, proofs.lemmas.List.length-map, proofs.lemmas.Option.slice_get_within, proofs.lemmas.Option.slice_get-map, proofs.lemmas.Option.get_or_from_slice_get}
use Rattle.batch_recipe.specs.{Conditions.Name, Tree.Step, Tree.Task, Tree.Tree, declared.need.Need.Need}
use Rattle.batch_cell.specs.LookUps.{capacities_of}
use Rattle.batch_model.specs.{Lists.Has, Rest.asking, Rest.acts, Plant.BatchAct, Plant.Plant, Plant.holders, Plant.units_in, Moves.is_served, Moves.batch_moves, Moves.batch_after, Moves.after_move, Moves.next, Moves.grant, Runs.move, Runs.reply, Standing.AreNumbered}
use Rattle.batch_model.specs.Plant as Model
use Rattle.batch_model.specs.Events as Events
use Rattle.batch_model.specs.Moves as Moves
use Rattle.batch_step_laws.proofs.RecordGrowth.{Leads-move, Leads-reply}
use Rattle.batch_record_laws.{specs.Telling.IsTold, proofs.PlantByRecord.tells_the_plant, proofs.Entries.nat_differs}
use Rattle.batch_verify.specs.ClearedSet.{ClearedSet}
use Rattle.batch_arbiter.{specs.Allocation.next_grant, specs.Allocation.batch_node, specs.Allocation.resource_count, proofs.CellCapacities.length-capacities}
use Rattle.batch_chart.specs.Seen.{machine_move}
use Rattle.batch_engine.{specs.declared.batch.Batch.Batch, specs.declared.line.ClaimKind.ClaimKind, specs.declared.line.Line.Line, specs.declared.reply.Reply.Reply, specs.declared.step.Step.TheVariants.Own, specs.declared.step.Step.TheVariants.Grant, specs.Answered.IsAnswered, specs.Kept.IsKept, specs.Marked.HasNoMove, specs.Marked.AreMarked, specs.Marking.touched, specs.Marking.named, specs.Marking.withdraws, specs.Marking.IsServedAt, specs.Marking.IsFirstServed, specs.Marking.IsFirstStep, specs.Marking.IsTouched, specs.Marking.named_by, specs.Marking.withdraws_by, specs.Marking.AreAnswerMarked, specs.Marking.AreMoveMarked, specs.Marking.KeepsMarks, specs.Marks.IsUnmarked, specs.Names.resource_name, specs.Steps.IsNext, specs.Steps.IsStep, specs.Steps.Makes, specs.Steps.MakesNext, specs.Steps.TellsNext, specs.Steps.index_of, specs.Steps.touched_by, specs.Surface.reply_of, specs.View.EngineView, specs.View.setup, specs.View.model_batch, specs.View.line_at, specs.View.names_of, specs.View.resource_number, specs.View.plant_of, specs.View.tree_of, proofs.EngineAfterMove.of-batch, proofs.EngineAfterMove.same-next, proofs.BatchPlaces.chosen-false, proofs.BatchPlaces.later-number, proofs.BatchPlaces.Has-batch_of, proofs.BatchLookups.Has-get, proofs.BatchLookups.batch-runs, proofs.BatchLookups.known-resource, proofs.BatchLookups.serves-first, proofs.BatchLookups.tree-placed, proofs.MovesAcrossPlants.ServesBefore, proofs.MovesAcrossPlants.first_in, proofs.MovesAcrossPlants.lines-alone, proofs.MovesAcrossPlants.serves, proofs.MovesAcrossPlants.settled-none, proofs.MovesAcrossPlants.served-before, proofs.LeastGrant.Granted, proofs.LeastGrant.asks-node, proofs.LeastGrant.served-node, proofs.BatchesAfterEvent.batches-are-few, proofs.BatchesAfterEvent.others-none, proofs.HolderNotes.next-even, proofs.AbsentElements.NonePasses-position, proofs.RoomForAsk.number-at, proofs.BatchByNumber.found-at, proofs.UnitNumbers.name-there, proofs.RecordOfPlant.down, proofs.RecordOfPlant.told, proofs.RecordOfPlant.safe, proofs.RecordOfPlant.standing}
use Rattle.batch_engine.specs.declared.step.Step as steps
use Rattle.batch_engine.specs.Surface as Surface

-- there are marks enough
pub few : (v : EngineView) → IsKept v → length v.batches ≤ 4096
few v k =
    let limit : length (plant_of v).batches ≤ (setup v.cleared).batch_limit = batches-are-few (setup v.cleared) k.tracked.events k.tracked.outs (plant_of v) k.tracked.leads in
    let small : (setup v.cleared).batch_limit ≤ 4096 = omega arith in
    omega (arith, limit, small, length-map v.batches (model_batch v.cleared))

tested : (m n : ℕ) → m ≡ n → nat_eq m n ≡ true
tested m n e = grind arith

-- two batches with one number stand at one index
pub same-index : (c : ClearedSet) (next : ℕ) (bs : List Batch) (i j : ℕ) (b d : Batch) → AreNumbered next (map (model_batch c) bs) → slice_get bs i ≡ Some b → slice_get bs j ≡ Some d → b.number ≡ d.number → i ≡ j
same-index c next [] i j b d k e f q = absurd cc
same-index c next (x ∷ bs) zero zero b d k e f q = refl
same-index c next (x ∷ bs) zero (suc j) b d k e f q =
    let g : x ≡ b = cc in
    let above : x.number < d.number = later-number c next x bs d k (Has-get bs j d f) in
    absurd (let n : x.number ≡ b.number = ap (λ (z : Batch). z.number) g in omega (arith, above, n, q))
same-index c next (x ∷ bs) (suc i) zero b d k e f q =
    let g : x ≡ d = cc in
    let above : x.number < b.number = later-number c next x bs b k (Has-get bs i b e) in
    absurd (let n : x.number ≡ d.number = ap (λ (z : Batch). z.number) g in omega (arith, above, n, q))
same-index c next (x ∷ bs) (suc i) (suc j) b d k e f q = ap suc (same-index c next bs i j b d k.2 e f q)

-- The index of the batch with a number

pub found-there : (v : EngineView) → IsKept v → (number j i : ℕ) (b : Batch) → position (λ (d : Batch). nat_eq d.number number) v.batches ≡ Some j → slice_get v.batches i ≡ Some b → b.number ≡ number → i ≡ j
found-there v k number j i b p at n =
    let q = found-at v number j p in same-index v.cleared v.next_number v.batches i j b q.batch (standing v k).numbers at q.at (n ∙ sym q.number)

pub found-nowhere : (v : EngineView) (number i : ℕ) (b : Batch) → position (λ (d : Batch). nat_eq d.number number) v.batches ≡ None → slice_get v.batches i ≡ Some b → b.number ≡ number → ⊥
found-nowhere v number i b p at n =
    let none : nat_eq (get_or v.batches i b).number number ≡ false = NonePasses-position (λ (d : Batch). nat_eq d.number number) v.batches p i b (slice_get_within v.batches i b at) in
    let here : get_or v.batches i b ≡ b = get_or_from_slice_get v.batches i b b at in
    absurd (let g : ◌≡◌ {A = Bool} true false = sym (tested b.number number n) ∙ ap (λ (z : Batch). nat_eq z.number number) (sym here) ∙ none in cc)

pub found-within : (v : EngineView) (number j : ℕ) → position (λ (d : Batch). nat_eq d.number number) v.batches ≡ Some j → j < length v.batches
found-within v number j p = let q = found-at v number j p in slice_get_within v.batches j q.batch q.at

-- Acts that are served

pair-first : (a b m n : ℕ) → ◌≡◌ {A = Option (ℕ × ℕ)} (Some (a, b)) (Some (m, n)) → a ≡ m
pair-first a b m n e = ap (λ (o : Option (ℕ × ℕ)). let r : ℕ = elim o [ None ↦ 0 | Some z ↦ z.0 ] in r) e

pub first-served : (v : EngineView) → IsKept v → (resource number node : ℕ) → option_map batch_node (next_grant v.allocation resource) ≡ Some (number, node)
    → (o : Option ℕ) → o ≡ position (λ (b : Batch). nat_eq b.number number) v.batches → IsFirstServed v resource o
first-served v k resource number node e None p = λ i h.
    found-nowhere v number i h.0 (sym p) h.1 (pair-first h.0.number h.2.0 number node (sym h.2.1 ∙ e))
first-served v k resource number node e (Some j) p = (
  found-within v number j (sym p),
  λ i h. found-there v k number j i h.0 (sym p) h.1 (pair-first h.0.number h.2.0 number node (sym h.2.1 ∙ e)),
)

-- an act is served of a resource that has a number alone
pub served-named : (w : EngineView) (need : Need) (a : BatchAct) → is_served (setup w.cleared) (plant_of w) need a ≡ true → (q : ℕ) × (resource_number w.cleared need.resource ≡ Some q)
served-named w need a served = go (resource_number w.cleared need.resource) refl
  where
    go : (o : Option ℕ) → resource_number w.cleared need.resource ≡ o → (q : ℕ) × (resource_number w.cleared need.resource ≡ Some q)
    go (Some q) e = (q, e)
    go None e =
        absurd (let h : ◌≡◌ {A = Bool} false true =
        (and_parts (nat_le (units_in (holders (plant_of w) need.resource) + need.units) ((setup w.cleared).capacity need.resource)) (first_in (line_at w None) a)
        (subst (λ (o : Option ℕ). serves (units_in (holders (plant_of w) need.resource)) need.units ((setup w.cleared).capacity need.resource) (line_at w o) a ≡ true) e served)).1 in cc)

-- whom the plant serves the arbiter serves
served-at : (w : EngineView) (k : IsKept w) (i : ℕ) (b : Batch) (at : slice_get w.batches i ≡ Some b) (step : Step) (task : Task) (held : ℕ) (need : Need) (q : ℕ)
    → Has (acts (model_batch w.cleared b).rest) (asking step task held) → slice_get step.needs held ≡ Some need → resource_number w.cleared need.resource ≡ Some q
    → is_served (setup w.cleared) (plant_of w) need (b.number, step.place) ≡ true → IsServedAt w q i
served-at w k i b at step task held need q here got number served =
    let t : Tree = tree_of w.cleared b in
    let g : Granted (setup w.cleared) (plant_of w) (model_batch w.cleared b) (grant b.number step.place need) =
    record { step = step; task = task; held = held; need = need; has = here; at = got; served = served; is = refl } in
    let n = asks-node (setup w.cleared) (plant_of w) (model_batch w.cleared b) t (tree-placed w k i b at) (batch-runs w k i b at).runs.alive.stands (grant b.number step.place need) g in
    let s = served-node (setup w.cleared) (plant_of w) (model_batch w.cleared b) t (tree-placed w k i b at) (batch-runs w k i b at).runs.alive.stands (grant b.number step.place need) g in
    (b, at, (n.0, serves-first w k i b at n.0 held q n.1 (subst (λ (z : Need). resource_number w.cleared z.resource ≡ Some q) n.5 number) s))

-- The move of a step

abbrev pub StepMove : EngineView → ℕ → Type 0
StepMove v i = (m : Moves.Move) × IsNext v m × ((b : Batch) × (slice_get v.batches i ≡ Some b) × (Moves.batch_of m ≡ b.number))

pub step-move : (v : EngineView) (s : steps.Step) → IsStep v (IsNext v) s → StepMove v (index_of s)
step-move v (Own i m) g = (machine_move (tree_of v.cleared g.batch) (model_batch v.cleared g.batch) m, g.is, (g.batch, g.here.at, of-batch (tree_of v.cleared g.batch) (model_batch v.cleared g.batch) m))
step-move v (Grant i node resource units) g = (_, g.is, (g.batch, g.here.at, refl))

-- Batches that stay unmarked after a move

module _ (v w : EngineView) (k : IsKept v) (l : IsKept w) (m : Moves.Move) (next_is : IsNext v m) (makes : Makes v w m) where
  told-after : IsTold (k.tracked.outs ++ move m ∷ []) (after_move (plant_of v) m)
  told-after =
      tells_the_plant (setup v.cleared) k.cleared.0 (down v.cleared k.cleared) k.tracked.events (k.tracked.outs ++ move m ∷ []) (after_move (plant_of v) m)
      (Leads-move (setup v.cleared) Model.opening (plant_of v) m k.tracked.events k.tracked.outs k.tracked.leads next_is)

  pub same-length : length w.batches ≡ length v.batches
  same-length =
      sym (length-map w.batches (model_batch w.cleared)) ∙ ap (λ (s : Plant). length s.batches) makes.plant
      ∙ length-map (plant_of v).batches (λ (b : Model.Batch). let c : Model.Batch = elim (nat_eq b.number (Moves.batch_of m)) [ true ↦ batch_after m b | false ↦ b ] in c)
      ∙ length-map v.batches (model_batch v.cleared)

  -- another batch is as it was
  other-same : (i : ℕ) (b : Batch) → slice_get v.batches i ≡ Some b → (b.number ≡ Moves.batch_of m → ⊥)
      → (d : Batch) × (slice_get w.batches i ≡ Some d) × (model_batch w.cleared d ≡ model_batch v.cleared b)
  other-same i b at other = go (slice_get w.batches i) refl
    where
      f : Model.Batch → Model.Batch
      f = λ (b : Model.Batch). elim (nat_eq b.number (Moves.batch_of m)) [ true ↦ batch_after m b | false ↦ b ]

      there : option_map (model_batch w.cleared) (slice_get w.batches i) ≡ Some (model_batch v.cleared b)
      there =
          sym (slice_get-map (model_batch w.cleared) w.batches i) ∙ ap (λ (s : Plant). slice_get s.batches i) makes.plant
          ∙ slice_get-map f (plant_of v).batches i ∙ ap (option_map f) (slice_get-map (model_batch v.cleared) v.batches i ∙ ap (option_map (model_batch v.cleared)) at)
          ∙ ap Some (chosen-false (nat_eq b.number (Moves.batch_of m)) (batch_after m (model_batch v.cleared b)) (model_batch v.cleared b) (nat_differs b.number (Moves.batch_of m) other))

      go : (o : Option Batch) → slice_get w.batches i ≡ o → (d : Batch) × (slice_get w.batches i ≡ Some d) × (model_batch w.cleared d ≡ model_batch v.cleared b)
      go None e = absurd (let g : ◌≡◌ {A = Option Model.Batch} None (Some (model_batch v.cleared b)) = ap (option_map (model_batch w.cleared)) (sym e) ∙ there in cc)
      go (Some d) e = (d, e, let g : ◌≡◌ {A = Option Model.Batch} (Some (model_batch w.cleared d)) (Some (model_batch v.cleared b)) = ap (option_map (model_batch w.cleared)) (sym e) ∙ there in cc)

  still-none : (i : ℕ) → HasNoMove v i → ((b : Batch) → slice_get v.batches i ≡ Some b → b.number ≡ Moves.batch_of m → ⊥)
      → ((r : Name) → touched m ≡ Some r → (q : ℕ) × (resource_number v.cleared r ≡ Some q) × (IsServedAt w q i → ⊥)) → HasNoMove w i
  still-none i h other unserved =
      let d = other-same i h.batch h.at (other h.batch h.at) in
      let after_is : plant_of w ≡ after_move (plant_of v) m = makes.plant in
      let none : batch_moves (setup v.cleared) (plant_of v) (model_batch w.cleared d.0) ≡ [] =
      subst (λ (b : Model.Batch). batch_moves (setup v.cleared) (plant_of v) b ≡ []) (sym d.2) h.none in
      let apart : d.0.number ≡ Moves.batch_of m → ⊥ = λ e. other h.batch h.at (ap (λ (z : Model.Batch). z.number) (sym d.2) ∙ e) in
      let before : ServesBefore (setup v.cleared) (plant_of v) (plant_of w) (model_batch w.cleared d.0) =
      λ step task held need here got served.
      served-before (setup v.cleared) k.tracked.outs (plant_of v) (told v k) m (next-even (setup v.cleared) k.cleared.0 k.tracked.outs (plant_of v) (standing v k) (safe v k) m next_is) told-after d.0.number apart need step.place
      (λ e. (let u = unserved need.resource e in
      u.2 (served-at w l i d.0 d.1 step task held need u.0 here got (ap (λ (c : ClearedSet). resource_number c need.resource) makes.cleared ∙ u.1)
      (subst (λ (c : ClearedSet). is_served (setup c) (plant_of w) need (d.0.number, step.place) ≡ true) (sym makes.cleared) served))))
      (subst (λ (s : Plant). is_served (setup v.cleared) s need (d.0.number, step.place) ≡ true) after_is served) in
      record {
        batch = d.0;
        at = d.1;
        none = subst (λ (c : ClearedSet). batch_moves (setup c) (plant_of w) (model_batch w.cleared d.0) ≡ []) (sym makes.cleared)
            (lines-alone (setup v.cleared) (plant_of v) (plant_of w) (model_batch w.cleared d.0) before none);
      }

pub marked-after : (v w : EngineView) → IsKept v → IsKept w → (ws zs : List ℕ) → AreMarked v ws → (s : steps.Step) → IsFirstStep v (Some s) → MakesNext v w
    → (number : Option ℕ) → IsTouched v number → AreMoveMarked w (index_of s) number zs → KeepsMarks ws zs → AreMarked w zs
marked-after v w k l ws zs marked s first makes number touch set kept i less unmarked =
    let d = step-move v s first.0 in
    let made : Makes v w d.0 = makes d.0 d.1 in
    let within : i < length v.batches = omega (arith, less, same-length v w k l d.0 d.1 made) in
    let before : HasNoMove v i = marked i within (kept i unmarked) in
    still-none v w k l d.0 d.1 made i before
    (λ b at e. set.own (subst (IsUnmarked zs) (same-index v.cleared v.next_number v.batches i (index_of s) b d.2.0 (standing v k).numbers at d.2.1 (e ∙ d.2.2)) unmarked))
    (λ r e. (let u = touch d.0 r d.1 e in (u.0, u.2, λ h. set.first u.0 u.1 i h unmarked)))

-- the step's batch is there after it
pub step-within : (v w : EngineView) → IsKept v → IsKept w → (s : steps.Step) → IsFirstStep v (Some s) → MakesNext v w → index_of s < length w.batches
step-within v w k l s first makes = let d = step-move v s first.0 in omega (arith, first.1, same-length v w k l d.0 d.1 (makes d.0 d.1))

-- the resources stay
pub same-count : (v w : EngineView) → IsKept v → IsKept w → (s : steps.Step) → IsStep v (IsNext v) s → MakesNext v w → resource_count w.allocation ≡ resource_count v.allocation
same-count v w k l s first makes =
    let d = step-move v s first in
    ap (λ (xs : List ℕ). length xs) l.cell.capacities ∙ ap (λ (c : ClearedSet). length (capacities_of c.cell)) (makes d.0 d.1).cleared ∙ ap (λ (xs : List ℕ). length xs) (sym k.cell.capacities)

-- The resource of a line's move

-- the name with this number has it
pub number-named : (v : EngineView) → IsKept v → (q : ℕ) → q < resource_count v.allocation → resource_number v.cleared (resource_name v.cleared q) ≡ Some q
number-named v k q known =
    number-at v.cleared q (resource_name v.cleared q)
    (name-there (names_of v.cleared) q (omega (arith, known, ap (λ (xs : List ℕ). length xs) k.cell.capacities, length-capacities v.cleared.cell)))

line-touches : (v : EngineView) (k : IsKept v) (line : Line) → IfSome (touched_by line) (λ q. q < resource_count v.allocation) → (resource : Name) → touched (Surface.move_of v.cleared line) ≡ Some resource
    → (q : ℕ) × (touched_by line ≡ Some q) × (resource_number v.cleared resource ≡ Some q)
line-touches v k (Line.Claim ClaimKind.Released batch recipe node q units) known resource e = (q, refl, subst (λ name. resource_number v.cleared name ≡ Some q) (let same : resource_name v.cleared q ≡ resource = cc in same) (number-named v k q known))
line-touches v k (Line.Claim ClaimKind.Granted batch recipe node q units) known resource e = (q, refl, subst (λ name. resource_number v.cleared name ≡ Some q) (let same : resource_name v.cleared q ≡ resource = cc in same) (number-named v k q known))
line-touches v k line known resource e = absurd (grind arith)

pub next-touches : (v : EngineView) → IsKept v → (line : Line) → TellsNext v line → IsTouched v (touched_by line)
next-touches v k line tells m resource is e = line-touches v k line tells.known resource (ap touched (same-next v (Surface.move_of v.cleared line) m tells.is is) ∙ e)

-- Settled

some-at : {X : Type 0} (xs : List X) (i : ℕ) → i < length xs → (x : X) × (slice_get xs i ≡ Some x)
some-at [] i l = absurd (omega (arith, l))
some-at (x ∷ xs) zero l = (x, refl)
some-at (x ∷ xs) (suc i) l = some-at xs i (omega (arith, l))

-- if there is no next move, no batch needs a mark
pub settled-marked : (v : EngineView) → next (setup v.cleared) (plant_of v) ≡ None → (marks : List ℕ) → AreMarked v marks
settled-marked v settled marks i less unmarked =
    let b = some-at v.batches i less in
    record {
      batch = b.0;
      at = b.1;
      none = settled-none (setup v.cleared) (plant_of v) settled (model_batch v.cleared b.0) (Has-batch_of v.cleared v.batches b.0 (Has-get v.batches i b.0 b.1));
    }

-- Events

same-named : (c : ClearedSet) (r : Reply) → named (reply_of c r) ≡ named_by r
same-named c r = grind arith

same-withdraws : (c : ClearedSet) (r : Reply) → withdraws (reply_of c r) ≡ withdraws_by r
same-withdraws c r = grind arith

-- after an event no unmarked batch has a move
pub marked-answered : (v w : EngineView) → IsKept v → IsKept w → next (setup v.cleared) (plant_of v) ≡ None → (e : Events.Event) (r : Reply) → IsAnswered v e r w
    → (marks : List ℕ) → AreAnswerMarked w r marks → AreMarked w marks
marked-answered v w k l settled e r answered marks set i less unmarked =
    let b = some-at w.batches i less in
    let d : Model.Batch = model_batch w.cleared b.0 in
    let told-after : IsTold (k.tracked.outs ++ reply (reply_of v.cleared r) ∷ []) (plant_of w) =
    tells_the_plant (setup v.cleared) k.cleared.0 (down v.cleared k.cleared) (k.tracked.events ++ e ∷ []) (k.tracked.outs ++ reply (reply_of v.cleared r) ∷ []) (plant_of w)
    (Leads-reply (setup v.cleared) Model.opening (plant_of v) (plant_of w) e (reply_of v.cleared r) k.tracked.events k.tracked.outs k.tracked.leads answered.reacts) in
    let other : named (reply_of v.cleared r) ≡ Some d.number → ⊥ = λ q. set.own d.number (sym (same-named v.cleared r) ∙ q) i b.0 b.1 refl unmarked in
    let unserved : withdraws (reply_of v.cleared r) ≡ true → ServesBefore (setup v.cleared) (plant_of v) (plant_of w) d =
    λ f step task held need here got served.
    absurd (let now : is_served (setup w.cleared) (plant_of w) need (d.number, step.place) ≡ true =
    subst (λ (c : ClearedSet). is_served (setup c) (plant_of w) need (d.number, step.place) ≡ true) (sym answered.cleared) served in
    let q = served-named w need (d.number, step.place) now in
    set.firsts (sym (same-withdraws v.cleared r) ∙ f) q.0 (known-resource w l need.resource q.0 q.1) i
    (served-at w l i b.0 b.1 step task held need q.0 here got q.1 now) unmarked) in
    record {
      batch = b.0;
      at = b.1;
      none = subst (λ (c : ClearedSet). batch_moves (setup c) (plant_of w) d ≡ []) (sym answered.cleared)
          (others-none (setup v.cleared) k.tracked.outs (plant_of v) (told v k) settled e (reply_of v.cleared r) (plant_of w) answered.reacts told-after d
          (Has-batch_of w.cleared w.batches b.0 (Has-get w.batches i b.0 b.1)) other unserved);
    }

pub same-some : (m n : ℕ) → ◌≡◌ {A = Option ℕ} (Some m) (Some n) → m ≡ n
same-some m n e = cc

-- no step is found exactly if there is no next move
pub settled-when : (v : EngineView) (o : Option steps.Step) → IsFirstStep v o → (b : Bool) → is_some o ≡ not b
    → (IsTrue b → next (setup v.cleared) (plant_of v) ≡ None) × (next (setup v.cleared) (plant_of v) ≡ None → IsTrue b)
settled-when v None h true e = (λ f. h, λ f. refl)
settled-when v None h false e = absurd cc
settled-when v (Some s) h true e = absurd cc
settled-when v (Some s) h false e = (
  λ f. absurd cc,
  λ f. (let d = step-move v s h.0 in absurd (let g : ◌≡◌ {A = Option Moves.Move} None (Some d.0) = sym f ∙ d.1 in cc)),
)
