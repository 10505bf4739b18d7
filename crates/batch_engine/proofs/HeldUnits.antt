-- The batch that holds a unit is found by the note on the unit.
use Rattle.std.proofs.Common.{◌≡◌, ◌<◌, refl, sym, ◌∙◌, ap, subst, subst₂, ℕ, List, true, false, Option, Some, None, arith, get_or, length, nat_eq}
use Rattle.std.specs.Prelude.{IfSome, slice_get, position}
use Rattle.batch_cell.specs.LookUps.{capacities_of}
use Rattle.batch_recipe.specs.Conditions.{Name}
use Rattle.batch_model.specs.{Events.LivePhase, Events.live_in, Moves.Move, Moves.after_move, Plant.Plant, Rest.acts}
use Rattle.batch_model.specs.Events as Events
use Rattle.batch_arbiter.specs.Allocation.{resource_count}
use Rattle.batch_verify.specs.ClearedSet.{ClearedSet}
use Rattle.batch_engine.{specs.Answered.IsAnswered, specs.Kept.IsKept, specs.Marked.AreNotedBy, specs.Marked.AreHoldingsNoted, specs.Marking.noted, specs.Marking.noted_by, specs.Marking.noted_for, specs.Steps.IsNext, specs.Steps.IsStep, specs.Steps.Makes, specs.Steps.MakesNext, specs.Steps.TellsNext, specs.Steps.touched_by, specs.Surface.move_of, specs.Surface.reply_of, specs.View.EngineView, specs.View.setup, specs.View.model_batch, specs.View.resource_number, specs.View.plant_of, specs.declared.batch.Batch.Batch, specs.declared.line.ClaimKind.ClaimKind, specs.declared.line.Line.Line, specs.declared.reply.Reply.Reply, specs.declared.step.Step.Step, proofs.BatchPlaces.Has-batch_of, proofs.BatchLookups.Has-get, proofs.BatchLookups.known-resource, proofs.EngineAfterMove.same-next, proofs.BatchAfterMove.same-number, proofs.HolderNotes.live-noted, proofs.HolderNotes.move-noted, proofs.HolderNotes.noted-length, proofs.HolderNotes.reply-noted, proofs.RecordOfPlant.down, proofs.BatchMarks.found-nowhere, proofs.BatchMarks.found-there, proofs.BatchMarks.number-named, proofs.BatchMarks.same-count, proofs.BatchMarks.step-move}

-- a name of capacity 1 is a resource's
known-capacity : (c : ClearedSet) (name : Name) → (setup c).capacity name ≡ 1 → (q : ℕ) × (resource_number c name ≡ Some q)
known-capacity c name one = go (resource_number c name) refl
  where
    go : (o : Option ℕ) → resource_number c name ≡ o → (q : ℕ) × (resource_number c name ≡ Some q)
    go (Some q) e = (q, e)
    go None e =
        absurd (let z : ◌≡◌ {A = ℕ} 0 1 = sym (ap (λ (o : Option ℕ). let r : ℕ = elim o [ None ↦ 0 | Some number ↦ get_or (capacities_of c.cell) number 0 ] in r) e) ∙ one in omega (arith, z))

module _ (v : EngineView) (k : IsKept v) (hs : List ℕ) (are : AreHoldingsNoted v hs) (unit name : Name) where
  abbrev live_at : Batch → Option LivePhase
  live_at b = live_in (model_batch v.cleared b) unit name (acts (model_batch v.cleared b).rest)

  -- the batch that runs a live phase of the unit is noted
  live-batch : (i : ℕ) (b : Batch) → slice_get v.batches i ≡ Some b → (l : LivePhase) → live_at b ≡ Some l → (q : ℕ) × (resource_number v.cleared unit ≡ Some q) × (slice_get hs q ≡ Some b.number)
  live-batch i b at l found =
      live-noted (setup v.cleared) k.cleared.0 (down v.cleared k.cleared) k.tracked.events k.tracked.outs (plant_of v) k.tracked.leads (resource_number v.cleared) hs are.held
      (known-capacity v.cleared) (model_batch v.cleared b) (Has-batch_of v.cleared v.batches b (Has-get v.batches i b at)) unit name l found

  not-live : (i : ℕ) (b : Batch) → slice_get v.batches i ≡ Some b → ((q : ℕ) → resource_number v.cleared unit ≡ Some q → slice_get hs q ≡ Some b.number → ⊥) → live_at b ≡ None
  not-live i b at other = go (live_at b) refl
    where
      go : (o : Option LivePhase) → live_at b ≡ o → live_at b ≡ None
      go None e = e
      go (Some l) e = absurd (let r = live-batch i b at l e in other r.0 r.1 r.2)

  -- no other runs one
  pub live-no_unit : resource_number v.cleared unit ≡ None → (j : ℕ) (d : Batch) → slice_get v.batches j ≡ Some d → live_at d ≡ None
  live-no_unit none j d at = not-live j d at (λ q e f. (let z : ◌≡◌ {A = Option ℕ} None (Some q) = sym none ∙ e in cc))

  module _ (resource number : ℕ) (is : resource_number v.cleared unit ≡ Some resource) (noted_is : slice_get hs resource ≡ Some number) where
    same-noted : (q n : ℕ) → resource_number v.cleared unit ≡ Some q → slice_get hs q ≡ Some n → n ≡ number
    same-noted q n e f =
        let z : ◌≡◌ {A = Option ℕ} (Some q) (Some resource) = sym e ∙ is in
        let at : q ≡ resource = cc in
        let y : ◌≡◌ {A = Option ℕ} (Some n) (Some number) = sym f ∙ ap (slice_get hs) at ∙ noted_is in cc

    pub live-no_batch : position (λ (b : Batch). nat_eq b.number number) v.batches ≡ None → (j : ℕ) (d : Batch) → slice_get v.batches j ≡ Some d → live_at d ≡ None
    live-no_batch none j d at = not-live j d at (λ q e f. found-nowhere v number j d none at (same-noted q d.number e f))

    module _ (i : ℕ) (here : position (λ (b : Batch). nat_eq b.number number) v.batches ≡ Some i) where
      pub live-elsewhere : (j : ℕ) (d : Batch) → slice_get v.batches j ≡ Some d → (j ≡ i → ⊥) → live_at d ≡ None
      live-elsewhere j d at other = not-live j d at (λ q e f. other (found-there v k number i j d here at (same-noted q d.number e f)))

-- The note of a line

line-noted : (v : EngineView) → IsKept v → (line : Line) → IfSome (touched_by line) (λ q. q < resource_count v.allocation) → (hs : List ℕ) → noted_by line hs ≡ noted (resource_number v.cleared) (move_of v.cleared line) hs
line-noted v k (Line.Claim ClaimKind.Granted batch recipe node q units) known hs =
    ap (λ (o : Option ℕ). let r : List ℕ = elim (nat_eq units 1) [ true ↦ noted_for o batch hs | false ↦ hs ] in r) (sym (number-named v k q known))
line-noted v k line known hs = grind arith

pub next-noted : (v : EngineView) → IsKept v → (line : Line) → TellsNext v line → (hs : List ℕ) (m : Move) → IsNext v m → noted_by line hs ≡ noted (resource_number v.cleared) m hs
next-noted v k line tells hs m is = line-noted v k line tells.known hs ∙ ap (λ (l : Move). noted (resource_number v.cleared) l hs) (same-next v (move_of v.cleared line) m tells.is is)

-- After a move

pub move-kept : (v w : EngineView) (k : IsKept v) → IsKept w → (hs : List ℕ) → AreHoldingsNoted v hs → (s : Step) → IsStep v (IsNext v) s → MakesNext v w → (zs : List ℕ)
    → ((m : Move) → IsNext v m → zs ≡ noted (resource_number v.cleared) m hs) → AreHoldingsNoted w zs
move-kept v w k l hs are s step makes zs noted_are =
    let d = step-move v s step in
    let made : Makes v w d.0 = makes d.0 d.1 in
    let held : AreNotedBy (resource_number v.cleared) (setup v.cleared) (after_move (plant_of v) d.0) (noted (resource_number v.cleared) d.0 hs) =
    move-noted (setup v.cleared) k.cleared.0 (down v.cleared k.cleared) k.tracked.events k.tracked.outs (plant_of v) k.tracked.leads (resource_number v.cleared)
    (λ x y q e f. same-number v.cleared x y q q e f refl) hs are.held d.0 d.1 (λ name q e. omega (arith, are.count, known-resource v k name q e)) in
    record {
      count = ap (λ (xs : List ℕ). length xs) (noted_are d.0 d.1) ∙ noted-length (resource_number v.cleared) d.0 hs ∙ are.count ∙ sym (same-count v w k l s step makes);
      held = subst (λ (c : ClearedSet). AreNotedBy (resource_number c) (setup c) (plant_of w) zs) (sym made.cleared)
          (subst₂ (λ (t : Plant) (xs : List ℕ). AreNotedBy (resource_number v.cleared) (setup v.cleared) t xs) (sym made.plant) (sym (noted_are d.0 d.1)) held);
    }

-- After an event

pub reply-kept : (v w : EngineView) (k : IsKept v) → IsKept w → (hs : List ℕ) → AreHoldingsNoted v hs → (e : Events.Event) (r : Reply) → IsAnswered v e r w → AreHoldingsNoted w hs
reply-kept v w k l hs are e r answered =
    let held : AreNotedBy (resource_number v.cleared) (setup v.cleared) (plant_of w) hs =
    reply-noted (setup v.cleared) k.cleared.0 (down v.cleared k.cleared) k.tracked.events k.tracked.outs (plant_of v) k.tracked.leads (resource_number v.cleared)
    (λ x y q e f. same-number v.cleared x y q q e f refl) hs are.held e (reply_of v.cleared r) (plant_of w) answered.reacts in
    record {
      count = are.count ∙ ap (λ (xs : List ℕ). length xs) k.cell.capacities ∙ ap (λ (c : ClearedSet). length (capacities_of c.cell)) (sym answered.cleared) ∙ ap (λ (xs : List ℕ). length xs) (sym l.cell.capacities);
      held = subst (λ (c : ClearedSet). AreNotedBy (resource_number c) (setup c) (plant_of w) hs) (sym answered.cleared) held;
    }
