-- trusted: the holders, the waiters, the live phases and the states that a record alone gives, and the safety of a record.
use Rattle.std.specs.Prelude.{◌≡◌, ◌⊎◌, ℕ, ◌≤◌, List, [], ◌∷◌, ◌++◌, filter, fold, Bool, true, false, ◌||◌, not, IsTrue, ⊤, Option, Some, None, nat_eq}
use Rattle.batch_matrix.specs.declared.state.State.{State}
use Rattle.batch_matrix.specs.declared.state.State.TheVariants.{Idle, Complete}
use Rattle.batch_matrix.specs.declared.command.Command.TheVariants.{Stop, Abort}
use Rattle.batch_matrix.specs.declared.report.Report.{Report}
use Rattle.batch_matrix.specs.Matrix.{same_state, same_report}
use Rattle.batch_model.specs.Lists.{Has, Each}
use Rattle.batch_model.specs.Plant.{Setup, BatchAct, Share, units_in, acts_in, Plant, is_same_act, with_share, without_share, holders, askers}
use Rattle.batch_model.specs.Moves.{state, release, pass, start, ask, grant, is_stopped}
use Rattle.batch_model.specs.Events.{created, ordered, reported}
use Rattle.batch_model.specs.Runs.{Out, reply, move}
use Rattle.batch_recipe.specs.Conditions.{Name}
use Rattle.batch_recipe.specs.Tree.{Place, Phase}

abbrev pub shares_without_batch : ℕ → List Share → List Share
shares_without_batch number shares = filter (λ share. not (nat_eq share.act.0 number)) shares

-- a place of a batch holds its share of a resource from its grant to its release, or to its pass, from which the other place holds it
abbrev pub holders_after : Name → List Share → Out → List Share
holders_after resource shares (move (grant number place need)) = with_share resource (number, place) need shares
holders_after resource shares (move (release number place need)) = without_share resource (number, place) need shares
holders_after resource shares (move (pass number place to need)) =
    with_share resource (number, to) need (without_share resource (number, place) need shares)
holders_after resource shares _ = shares

abbrev pub holders_told : List Out → Name → List Share
holders_told outs resource = fold (holders_after resource) [] outs

-- a place of a batch waits from its ask to its grant, or to the next stop or abort of its batch
abbrev pub waiters_after : Name → List Share → Out → List Share
waiters_after resource shares (move (ask number place need)) = with_share resource (number, place) need shares
waiters_after resource shares (move (grant number place need)) = without_share resource (number, place) need shares
waiters_after resource shares (reply (ordered Stop number becomes)) = shares_without_batch number shares
waiters_after resource shares (reply (ordered Abort number becomes)) = shares_without_batch number shares
waiters_after resource shares _ = shares

abbrev pub waiters_told : List Out → Name → List Share
waiters_told outs resource = fold (waiters_after resource) [] outs

-- a phase step of a batch that runs its phase
pub record Active : Type 0 where
  pub act : BatchAct
  pub phase : Phase

abbrev pub ends_phase : Report → Bool
ends_phase word = same_report word Report.Done || same_report word Report.Stopped || same_report word Report.Aborted

-- a phase of a unit is live from its start to the report at its place that ends it
abbrev pub active_after : List Active → Out → List Active
active_after actives (move (start number place phase handed)) = actives ++ (record { act = (number, place); phase = phase }) ∷ []
active_after actives (reply (reported unit name word number place becomes)) =
    elim (ends_phase word) [ true ↦ filter (λ active. not (is_same_act active.act (number, place))) actives | false ↦ actives ]
active_after actives _ = actives

abbrev pub active_told : List Out → List Active
active_told outs = fold active_after [] outs

-- a batch's state is the last one in a line of the record
abbrev pub state_after : ℕ → Option State → Out → Option State
state_after number old (reply (created batch recipe size roles)) = elim (nat_eq batch number) [ true ↦ Some Idle | false ↦ old ]
state_after number old (reply (ordered command batch becomes)) = elim (nat_eq batch number) [ true ↦ Some becomes | false ↦ old ]
state_after number old (reply (reported unit name word batch place becomes)) = elim (nat_eq batch number) [ true ↦ Some becomes | false ↦ old ]
state_after number old (move (state batch becomes)) = elim (nat_eq batch number) [ true ↦ Some becomes | false ↦ old ]
state_after number old _ = old

abbrev pub state_told : List Out → ℕ → Option State
state_told outs number = fold (state_after number) None outs

-- Circles

-- who holds each resource, and who waits for it, the oldest ask first
pub record Scene : Type 0 where
  pub holders : Name → List BatchAct
  pub waiters : Name → List BatchAct

abbrev pub scene_told : List Out → Scene
scene_told outs =
    record { holders = λ resource. acts_in (holders_told outs resource); waiters = λ resource. acts_in (waiters_told outs resource) }

abbrev pub scene_of : Plant → Scene
scene_of plant = record { holders = λ resource. acts_in (holders plant resource); waiters = λ resource. acts_in (askers plant resource) }

pub record Waiting : Type 0 where
  pub act : BatchAct
  pub resource : Name

abbrev pub IsWaiting : Scene → Waiting → Type 0
IsWaiting scene waiting = Has (scene.waiters waiting.resource) waiting.act

-- the upper place is the other or lies above it
abbrev pub IsAtOrAbove : Place → Place → Type 0
IsAtOrAbove upper place = (below : Place) × (upper ++ below ≡ place)

-- the resource that is waited for is held by the other's batch, at the other's place or above it
abbrev pub WaitsForHolder : Scene → Waiting → Waiting → Type 0
WaitsForHolder scene waiting other =
    (place : Place) × Has (scene.holders waiting.resource) (other.act.0, place) × IsAtOrAbove place other.act.1

-- the earlier is before the later in the list
abbrev pub StandsBefore : {X : Type 0} → List X → X → X → Type 0
StandsBefore [] earlier later = ⊥
StandsBefore (x ∷ xs) earlier later = ((x ≡ earlier) × Has xs later) ⊎ StandsBefore xs earlier later

-- the other asked for the same resource, and before it
abbrev pub WaitsForOlder : Scene → Waiting → Waiting → Type 0
WaitsForOlder scene waiting other =
    (other.resource ≡ waiting.resource) × StandsBefore (scene.waiters waiting.resource) other.act waiting.act

-- the one waits until the other has gone on
abbrev pub PointsTo : Scene → Waiting → Waiting → Type 0
PointsTo scene waiting other = WaitsForHolder scene waiting other ⊎ WaitsForOlder scene waiting other

-- the waiting step points to the first of the others, each to the next, and the last to `last`
abbrev pub PointAlong : Scene → Waiting → List Waiting → Waiting → Type 0
PointAlong scene waiting [] last = PointsTo scene waiting last
PointAlong scene waiting (other ∷ others) last = PointsTo scene waiting other × PointAlong scene other others last

abbrev pub IsCircle : Scene → List Waiting → Type 0
IsCircle scene [] = ⊥
IsCircle scene (waiting ∷ others) = Each (IsWaiting scene) (waiting ∷ others) × PointAlong scene waiting others waiting

-- a waiting step and a holder of its resource
pub record Link : Type 0 where
  pub waiting : Waiting
  pub holder : BatchAct

abbrev pub IsLink : Scene → Link → Type 0
IsLink scene link = IsWaiting scene link.waiting × Has (scene.holders link.waiting.resource) link.holder

-- the waiting step is at or below the holder
abbrev pub StandsUnder : BatchAct → Waiting → Type 0
StandsUnder holder waiting = (waiting.act.0 ≡ holder.0) × IsAtOrAbove holder.1 waiting.act.1

-- each link's waiting step is at or below the holder of the link before
abbrev pub IsChain : Scene → List Link → Type 0
IsChain scene [] = ⊤
IsChain scene (link ∷ []) = IsLink scene link
IsChain scene (link ∷ following ∷ links) = IsLink scene link × StandsUnder link.holder following.waiting × IsChain scene (following ∷ links)

-- Safety

-- the batch is complete, stopped or aborted
abbrev pub IsAtRest : State → Type 0
IsAtRest now = IsTrue (same_state now Complete || is_stopped now)

-- the shares held of a resource are together no more than its capacity
abbrev pub HasCapacity : Setup → List Out → Type 0
HasCapacity setup outs = (resource : Name) → units_in (holders_told outs resource) ≤ setup.capacity resource

-- the unit of each live phase is held by the phase's batch, above the phase
abbrev pub HoldsUnits : List Out → Type 0
HoldsUnits outs =
    (active : Active) → Has (active_told outs) active
    → (place : Place) × Has (acts_in (holders_told outs active.phase.unit)) (active.act.0, place) × IsAtOrAbove place active.act.1
    × (place ≡ active.act.1 → ⊥)

abbrev pub IsOnUnit : Name → Name → Active → Type 0
IsOnUnit unit name active = (active.phase.unit ≡ unit) × (active.phase.name ≡ name)

-- a phase that the last line starts is offered by its unit and wasn't live there before
abbrev pub StartsIdle : Setup → List Out → Type 0
StartsIdle setup outs =
    (before : List Out) (number : ℕ) (place : Place) (phase : Phase) (handed : List (Name × ℕ))
    → outs ≡ before ++ move (start number place phase handed) ∷ []
    → IsTrue (setup.offers phase.unit phase.name) × Each (λ active. IsOnUnit phase.unit phase.name active → ⊥) (active_told before)

abbrev pub HasNoCircle : List Out → Type 0
HasNoCircle outs = (circle : List Waiting) → IsCircle (scene_told outs) circle → ⊥

-- a batch that is at rest holds nothing and waits for nothing
abbrev pub RestsEmpty : List Out → Type 0
RestsEmpty outs =
    (number : ℕ) (now : State) → state_told outs number ≡ Some now → IsAtRest now
    → (resource : Name)
    → Each (λ share. share.act.0 ≡ number → ⊥) (holders_told outs resource)
    × Each (λ share. share.act.0 ≡ number → ⊥) (waiters_told outs resource)

pub record IsSafeNow (setup : Setup) (outs : List Out) : Type 0 where
  pub capacity : HasCapacity setup outs
  pub units : HoldsUnits outs
  pub starts : StartsIdle setup outs
  pub circles : HasNoCircle outs
  pub rests : RestsEmpty outs

-- after every line of the record
abbrev pub IsSafe : Setup → List Out → Type 0
IsSafe setup outs = (front more : List Out) → front ++ more ≡ outs → IsSafeNow setup front
