-- surface: the kept state of a record, and its meaning.
use Rattle.std.specs.Prelude.{◌≡◌, ℕ, Bool, not, ◌&&◌, true, false, List, map, filter, Option, Some, None, option_map, nat_eq}
use Rattle.std.specs.BTreeMap.{get}
use Rattle.std.specs.Ordering.{nat_cmp}
use Rattle.batch_matrix.specs.declared.command.Command.{Command}
use Rattle.batch_matrix.specs.declared.command.Command.TheVariants.{Stop, Abort}
use Rattle.batch_matrix.specs.declared.state.State.{State}
use Rattle.batch_recipe.specs.Conditions.{Name, same_name}
use Rattle.batch_recipe.specs.Tree.{Place}
use Rattle.batch_model.specs.Plant.{BatchAct, is_same_act, with_share, without_share}
use Rattle.batch_model.specs.Plant as Model
use Rattle.batch_model.specs.Records.{shares_without_batch, holders_after, waiters_after}
use Rattle.batch_model.specs.Runs.{Out}
use Rattle.batch_record.specs.RecordLine.{ClaimTold, PhaseTold}
use Rattle.batch_record.specs.Telling.{Listed, Live, Tale, led_by, listed_after, live_after, said_by, state_told_to}
use Rattle.batch_record.specs.Listing.{NamedClaim}
use Rattle.batch_record.specs.declared.standing.Kept.{Kept}
use Rattle.batch_record.specs.declared.live.Change.{Change}
use Rattle.batch_record.specs.declared.live.LivePhase.{LivePhase}
use Rattle.batch_record.specs.declared.batches.Batch.{Batch}
use Rattle.batch_record.specs.declared.batches.Batches.{Batches}
use Rattle.batch_record.specs.declared.status.Status.{Status}

-- Shares

abbrev pub kept_act : Kept → BatchAct
kept_act kept = (kept.batch, kept.place)

abbrev pub kept_share : Kept → Model.Share
kept_share kept = record { act = kept_act kept; units = kept.units }

-- the shares of a resource, in the order in which they came
abbrev pub shares_of_resource : Name → List Kept → List Model.Share
shares_of_resource resource kept = map kept_share (filter (λ k. same_name resource k.resource) kept)

-- the share with its resource
abbrev pub kept_claim : Kept → NamedClaim
kept_claim kept = (kept.resource, kept_share kept)

abbrev pub kept_claims : List Kept → List NamedClaim
kept_claims kept = map kept_claim kept

-- it isn't the act's share of the resource
abbrev pub is_other : Name → BatchAct → Kept → Bool
is_other resource act kept = not (same_name resource kept.resource && is_same_act (kept.batch, kept.place) act)

-- at each resource the shares became those of its holders after the out
abbrev pub HoldersAfter : List Kept → Out → List Kept → Type 0
HoldersAfter old out new = (resource : Name) → shares_of_resource resource new ≡ holders_after resource (shares_of_resource resource old) out

-- at each resource the shares became those of its waiting acts after the out
abbrev pub WaitersAfter : List Kept → Out → List Kept → Type 0
WaitersAfter old out new = (resource : Name) → shares_of_resource resource new ≡ waiters_after resource (shares_of_resource resource old) out

-- the claim's share stands last at its resource
abbrev pub ShareJoins : List Kept → ClaimTold → List Kept → Type 0
ShareJoins old claim new = (resource : Name) → shares_of_resource resource new ≡ with_share resource (claim.batch, claim.place) claim.need (shares_of_resource resource old)

-- it is there no more
abbrev pub Leaves : List Kept → ClaimTold → List Kept → Type 0
Leaves old claim new = (resource : Name) → shares_of_resource resource new ≡ without_share resource (claim.batch, claim.place) claim.need (shares_of_resource resource old)

-- it left at its place and joined at the other
abbrev pub Passes : List Kept → ClaimTold × Place → List Kept → Type 0
Passes old told new = (resource : Name) → shares_of_resource resource new
    ≡ with_share resource (told.0.batch, told.1) told.0.need (without_share resource (told.0.batch, told.0.place) told.0.need (shares_of_resource resource old))

abbrev pub BatchLeaves : ℕ → List Kept → List Kept → Type 0
BatchLeaves batch old new = (resource : Name) → shares_of_resource resource new ≡ shares_without_batch batch (shares_of_resource resource old)

-- if the command is stop or abort, the batch's shares leave
abbrev pub LeavesAt : Command → ℕ → List Kept → List Kept → Type 0
LeavesAt Stop batch old new = BatchLeaves batch old new
LeavesAt Abort batch old new = BatchLeaves batch old new
LeavesAt _ batch old new = new ≡ old

-- Live phases

abbrev pub kept_live : LivePhase → Live
kept_live phase = record { act = (phase.batch, phase.place); unit = phase.unit; name = phase.phase; state = phase.state }

abbrev pub lives_of : List LivePhase → List Live
lives_of phases = map kept_live phases

-- a phase step that runs its phase, in this state
abbrev pub live_at_step : PhaseTold → State → Live
live_at_step step now = record { act = (step.batch, step.place); unit = step.unit; name = step.name; state = now }

abbrev pub LiveAfter : List LivePhase → Out → List LivePhase → Type 0
LiveAfter old out new = lives_of new ≡ live_after (lives_of old) out

abbrev pub is_elsewhere : BatchAct → LivePhase → Bool
is_elsewhere act live = not (is_same_act (live.batch, live.place) act)

abbrev pub changed_by : Change → State → State
changed_by (Change.Led command) now = led_by command now
changed_by (Change.Said word) now = said_by word now

-- if the phase is at the act, it goes on in another state
abbrev pub phase_changed : BatchAct → Change → LivePhase → LivePhase
phase_changed act change live = elim (is_same_act (live.batch, live.place) act) [ true ↦ record live { state = changed_by change live.state } | false ↦ live ]

-- Batches

abbrev pub listed_of : Batch → Listed
listed_of batch = record { recipe = batch.recipe; size = batch.size; state = batch.state }

-- the batches with their numbers, in order
abbrev pub entry_row : ℕ × Batch → ℕ × Listed
entry_row entry = (entry.0, listed_of entry.1)

abbrev pub listed_rows : Batches → List (ℕ × Listed)
listed_rows batches = map entry_row batches.listed.entries

abbrev pub listed_in : Batches → ℕ → Option Listed
listed_in batches number = option_map listed_of (get nat_cmp batches.listed number)

-- the batch with this number is listed so from now on, and the others as before
abbrev pub ListsBatch : Batches → ℕ → Listed → Batches → Type 0
ListsBatch old batch listed new = (number : ℕ) → listed_in new number ≡ elim (nat_eq batch number) [ true ↦ Some listed | false ↦ listed_in old number ]

-- it isn't listed any more
abbrev pub UnlistsBatch : Batches → ℕ → Batches → Type 0
UnlistsBatch old batch new = (number : ℕ) → listed_in new number ≡ elim (nat_eq batch number) [ true ↦ None | false ↦ listed_in old number ]

-- if it is listed, it has this state from now on
abbrev pub TellsState : Batches → ℕ → State → Batches → Type 0
TellsState old batch becomes new = (number : ℕ) → listed_in new number ≡ state_told_to number batch becomes (listed_in old number)

abbrev pub BatchesAfter : Batches → Out → Batches → Type 0
BatchesAfter old out new = (number : ℕ) → listed_in new number ≡ listed_after number (listed_in old number) out

-- All of it

-- the kept state is that of the record
pub record Keeps (status : Status) (tale : Tale) : Type 0 where
  pub holders : (resource : Name) → shares_of_resource resource status.holders.shares.items ≡ tale.holders resource
  pub waiters : (resource : Name) → shares_of_resource resource status.waiters.shares.items ≡ tale.waiters resource
  pub batches : (number : ℕ) → listed_in status.batches number ≡ tale.batches number
  pub live : lives_of status.live.phases.items ≡ tale.live
