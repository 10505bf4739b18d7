-- The one fact that every event and every move keeps.
use Rattle.std.proofs.Common.{◌≡◌, refl, subst, ℕ, ◌<◌, ◌≤◌, arith, List, [], ◌∷◌, true, Some, slice_get, inl}
use Rattle.batch_matrix.specs.declared.state.State.{State, TheVariants.Idle, TheVariants.Running, TheVariants.Pausing, TheVariants.Paused, TheVariants.Holding, TheVariants.Held, TheVariants.Restarting, TheVariants.Stopping, TheVariants.Stopped, TheVariants.Aborting, TheVariants.Aborted, TheVariants.Complete}
use Rattle.batch_model.{specs.Lists.Has, specs.Plant.Setup, specs.Plant.InAdvance, specs.Plant.Batch, specs.Plant.BatchAct, specs.Plant.Share, specs.Plant.units_in, specs.Plant.Plant, specs.Moves.is_running, specs.Runs.Out, specs.Records.holders_told, specs.Records.waiters_told, specs.Records.Active, specs.Records.active_told, specs.Records.state_told, specs.Records.IsAtRest, specs.Cleared.Ranking, specs.ActStates.steps, specs.Standing.IsStandingBatch, specs.Standing.AreNumbered, specs.Standing.IsStanding, proofs.Members.Each-Has}
use Rattle.batch_recipe.specs.{Conditions.Name, Tree.Place, Tree.Step, Tree.Phase, Tree.Tree, declared.need.Need.Need}
use Rattle.batch_record_laws.proofs.{PlantFacts.awaiting, PlantFacts.performing, PlantFacts.Standing, PlantFacts.facts, PlantFacts.entries, PlantFacts.holders_among, PlantFacts.need, ClearanceDownTrees.IsClearedDown, Entries.Agrees, Entries.IsOnce, Batches.NumbersDiffer, SameFacts.StandApart}

abbrev pub NothingAwaited : List Standing → Type 0
NothingAwaited es = (p : Place) (r : Need) → Has es (p, awaiting r) → ⊥

-- in this state a batch may have these facts: none where it is at rest or idle, and no asks where it stops
abbrev pub IsFitting : State → List Standing → Type 0
IsFitting Idle es = es ≡ []
IsFitting Complete es = es ≡ []
IsFitting Stopped es = es ≡ []
IsFitting Aborted es = es ≡ []
IsFitting Stopping es = NothingAwaited es
IsFitting Aborting es = NothingAwaited es
IsFitting Running es = Unit {0}
IsFitting Pausing es = Unit {0}
IsFitting Paused es = Unit {0}
IsFitting Holding es = Unit {0}
IsFitting Held es = Unit {0}
IsFitting Restarting es = Unit {0}

-- the need that is held in advance is the first need of each step of the tree at its place
abbrev pub IsFirstNeed : Tree → InAdvance → Type 0
IsFirstNeed c held = (s : Step) → Has (steps c) s → s.place ≡ held.place → slice_get s.needs 0 ≡ Some held.unit

abbrev pub AreFirstNeeds : Tree → List InAdvance → Type 0
AreFirstNeeds c xs = (held : InAdvance) → Has xs held → IsFirstNeed c held

-- a batch of a cleared recipe, whose facts fit its state; no two of its holdings in advance are at one place
pub record IsSound (d : Setup) (rank : Ranking) (b : Batch) : Type 0 where
  pub cleared : IsClearedDown d rank b.recipe
  pub fits : IsFitting b.state (facts b.rest)
  pub apart : StandApart b.in_advance
  pub units : AreFirstNeeds b.recipe.procedure b.in_advance

-- the record so far tells the plant's facts, and these are in order
pub record IsKept (d : Setup) (rank : Ranking) (outs : List Out) (s : Plant) : Type 0 where
  pub sound : (b : Batch) → Has s.batches b → IsSound d rank b
  pub held : (q : Name) → Agrees (holders_told outs q) (holders_among q (entries s.batches))
  pub within : (q : Name) → units_in (holders_among q (entries s.batches)) ≤ d.capacity q
  pub lines : (q : Name) → waiters_told outs q ≡ s.line q
  pub asked : (q : Name) (a : Share) → Has (s.line q) a → Has (entries s.batches) (a.act, awaiting (need q a.units))
  pub once : (q : Name) → IsOnce (s.line q)
  pub active : (x : Active) → Has (active_told outs) x → Has (entries s.batches) (x.act, performing x.phase)
  pub listed : (q : Name) (a : Share) → Has (entries s.batches) (a.act, awaiting (need q a.units)) → Has (s.line q) a
  pub shown : (a : BatchAct) (x : Phase) → Has (entries s.batches) (a, performing x) → Has (active_told outs) (record { act = a; phase = x })
  pub states : (b : Batch) → Has s.batches b → state_told outs b.number ≡ Some b.state

-- of a plant that stands

pub standing-of : (d : Setup) (s : Plant) → IsStanding d s → (b : Batch) → Has s.batches b → IsStandingBatch d b
standing-of d s sd b i = Each-Has (IsStandingBatch d) s.batches b sd.batches i

differ : (next : ℕ) (bs : List Batch) → AreNumbered next bs → NumbersDiffer next bs
differ next [] h = tt
differ next (b ∷ bs) h = (
  h.0,
  λ c k e. (let l : b.number < c.number = Each-Has (λ c. b.number < c.number) bs c h.1 k in absurd (omega arith)),
  differ next bs h.2,
)

pub numbers-of : (d : Setup) (s : Plant) → IsStanding d s → NumbersDiffer s.next_number s.batches
numbers-of d s sd = differ s.next_number s.batches sd.numbers

pub no_members : (es : List Standing) → ((e : Standing) → Has es e → ⊥) → es ≡ []
no_members [] h = refl
no_members (e ∷ es) h = absurd (h e (inl refl))

fewer-none : (es less : List Standing) → ((e : Standing) → Has less e → Has es e) → es ≡ [] → less ≡ []
fewer-none es less f h = no_members less (λ e k. subst (λ z. Has z e) h (f e k))

-- with fewer facts it still fits
pub fit-fewer : (x : State) (es less : List Standing) → ((e : Standing) → Has less e → Has es e) → IsFitting x es → IsFitting x less
fit-fewer Idle es less f h = fewer-none es less f h
fit-fewer Complete es less f h = fewer-none es less f h
fit-fewer Stopped es less f h = fewer-none es less f h
fit-fewer Aborted es less f h = fewer-none es less f h
fit-fewer Stopping es less f h = λ p r k. h p r (f (p, awaiting r) k)
fit-fewer Aborting es less f h = λ p r k. h p r (f (p, awaiting r) k)
fit-fewer Running es less f h = tt
fit-fewer Pausing es less f h = tt
fit-fewer Paused es less f h = tt
fit-fewer Holding es less f h = tt
fit-fewer Held es less f h = tt
fit-fewer Restarting es less f h = tt

-- where something is asked for, any facts fit
pub fit-awaited : (x : State) (es more : List Standing) (p : Place) (r : Need) → Has es (p, awaiting r) → IsFitting x es → IsFitting x more
fit-awaited Idle es more p r k h = absurd (subst (λ z. Has z (p, awaiting r)) h k)
fit-awaited Complete es more p r k h = absurd (subst (λ z. Has z (p, awaiting r)) h k)
fit-awaited Stopped es more p r k h = absurd (subst (λ z. Has z (p, awaiting r)) h k)
fit-awaited Aborted es more p r k h = absurd (subst (λ z. Has z (p, awaiting r)) h k)
fit-awaited Stopping es more p r k h = absurd (h p r k)
fit-awaited Aborting es more p r k h = absurd (h p r k)
fit-awaited Running es more p r k h = tt
fit-awaited Pausing es more p r k h = tt
fit-awaited Paused es more p r k h = tt
fit-awaited Holding es more p r k h = tt
fit-awaited Held es more p r k h = tt
fit-awaited Restarting es more p r k h = tt

pub fit-running : (x : State) (es : List Standing) → is_running x ≡ true → IsFitting x es
fit-running x es h = grind arith

pub at_rest-nothing : (x : State) (es : List Standing) → IsAtRest x → IsFitting x es → es ≡ []
at_rest-nothing x es r h = grind arith
