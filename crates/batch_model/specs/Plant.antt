-- trusted: the plant: its batches, the holdings and asks of each, and the queue of asks for each resource.
use Rattle.std.specs.Prelude.{ℕ, List, [], ◌∷◌, ◌++◌, take, map, filter, find, flat_map, sum_by, Bool, true, false, ◌&&◌, not, Option, None, nat_eq, slice_get}
use Rattle.batch_matrix.specs.declared.state.State.{State}
use Rattle.batch_recipe.specs.Conditions.{Name, ValueList}
use Rattle.batch_recipe.specs.Tree.{Place, Tree}
use Rattle.batch_recipe.specs.Conditions.{same_name}
use Rattle.batch_recipe.specs.Expanding.{Binding}
use Rattle.batch_recipe.specs.declared.need.Need.{Need}
use Rattle.std.specs.List.{list_any}
use Rattle.batch_model.specs.Rest.{same_place, Rest, ready, asking, open_act, live, freeing, Moment, acts, advance, changed_at, place_of}

-- the result of a formula for a size: its values, or the reason why there are none
pub data Formula : Type 0 where
  size_out_of_range : Formula
  value_out_of_range : Name → Formula
  scaled : ValueList → Formula

-- a control recipe: the recipe of one batch, in which the units of its unit procedures are known
pub record Recipe : Type 0 where
  pub name : Name
  pub formula : ℕ → Formula
  pub outputs : List Name
  pub procedure : Tree

-- a role, and the units that may take it
pub record Role : Type 0 where
  pub name : Name
  pub candidates : List Name

-- a master recipe: its roles, which of them its tree names, and the control recipe for units that take them
pub record Master : Type 0 where
  pub name : Name
  pub roles : List Role
  pub names_role : Name → Bool
  pub control : Binding → Recipe

-- a master recipe without roles
abbrev pub plain : Recipe → Master
plain recipe = record { name = recipe.name; roles = []; names_role = λ role. false; control = λ bound. recipe }

-- the setup of the machine:
-- - the names of the units of its cell;
-- - the names of all resources of the cell, which are the units, the free modules and the shared resources;
-- - the capacity of each resource;
-- - the phases that each unit offers;
-- - the master recipes;
-- - the most batches that may exist at once
pub record Setup : Type 0 where
  pub units : List Name
  pub resources : List Name
  pub capacity : Name → ℕ
  pub offers : Name → Name → Bool
  pub recipes : List Master
  pub batch_limit : ℕ

-- the place of a unit procedure that its chart hasn't reached yet, and its unit, which was passed to it
pub record InAdvance : Type 0 where
  pub place : Place
  pub unit : Need

pub record Batch : Type 0 where
  pub number : ℕ
  pub recipe : Recipe
  pub size : ℕ
  pub values : ValueList
  pub state : State
  pub rest : Rest
  -- the units that are held in advance, with their places
  pub in_advance : List InAdvance

-- an act of a batch: the batch's number and the act's place
abbrev pub BatchAct : Type 0
BatchAct = ℕ × Place

-- so many units of a resource's capacity, which an act holds or asks for
pub record Share : Type 0 where
  pub act : BatchAct
  pub units : ℕ

-- the units of all shares together
abbrev pub units_in : List Share → ℕ
units_in shares = sum_by (λ share. share.units) shares

-- the acts whose shares they are, in order
abbrev pub acts_in : List Share → List BatchAct
acts_in shares = map (λ share. share.act) shares

pub record Plant : Type 0 where
  pub batches : List Batch
  pub next_number : ℕ
  -- the shares of a resource that are asked for, in the order in which the asks came
  pub line : Name → List Share

-- the plant in which nothing has happened
abbrev pub opening : Plant
opening = record { batches = []; next_number = 1; line = λ resource. [] }

abbrev pub is_same_act : BatchAct → BatchAct → Bool
is_same_act act other = nat_eq act.0 other.0 && same_place act.1 other.1

-- the shares of a resource without those of the act
abbrev pub without : BatchAct → List Share → List Share
without act shares = filter (λ share. not (is_same_act share.act act)) shares

-- the shares of a resource when the act's need has joined them, or left them, if it is of that resource

abbrev pub with_share : Name → BatchAct → Need → List Share → List Share
with_share resource act need shares =
    elim (same_name resource need.resource) [ true ↦ shares ++ record { act = act; units = need.units } ∷ [] | false ↦ shares ]

abbrev pub without_share : Name → BatchAct → Need → List Share → List Share
without_share resource act need shares = elim (same_name resource need.resource) [ true ↦ without act shares | false ↦ shares ]

abbrev pub batch_at : Plant → ℕ → Option Batch
batch_at plant number = find (λ batch. nat_eq batch.number number) plant.batches

-- the plant in which the batch with this number has been changed
abbrev pub in_batch : ℕ → (Batch → Batch) → Plant → Plant
in_batch number change plant =
    record plant { batches = map (λ batch. elim (nat_eq batch.number number) [ true ↦ change batch | false ↦ batch ]) plant.batches }

-- the input of a batch's charts when they advance
abbrev pub moment_of : Batch → Moment
moment_of batch = record { values = batch.values; early = map (λ held. held.place) batch.in_advance }

-- a chart has reached the act at this place, and it isn't finished
abbrev pub is_act_reached : Rest → Place → Bool
is_act_reached rest place = list_any (λ act. same_place (place_of act) place) (acts rest)

-- the batch with this rest; the acts that are reached in it hold nothing in advance
abbrev pub with_rest : Rest → Batch → Batch
with_rest rest batch = record batch { rest = rest; in_advance = filter (λ held. not (is_act_reached rest held.place)) batch.in_advance }

-- the batch in which the act at this place has been changed, and its charts have gone on from there
abbrev pub in_act : Place → (Rest → Rest) → Batch → Batch
in_act place change batch = with_rest (advance (moment_of batch) (changed_at place change batch.rest)) batch

-- the needs that an act itself holds, in the order in which it asked for them
abbrev pub held_by : Rest → List Need
held_by (ready step task granted) = take granted step.needs
held_by (asking step task granted) = take granted step.needs
held_by (open_act step rest) = step.needs
held_by (live step phase state) = step.needs
held_by (freeing step left) = take left step.needs
held_by _ = []

-- the need that an act in a queue asks for
abbrev pub asked_by : Rest → Option Need
asked_by (asking step task granted) = slice_get step.needs granted
asked_by _ = None

-- the needs that the acts of a rest hold
abbrev pub held_in : Rest → List Need
held_in rest = flat_map held_by (acts rest)

-- the states of the live phases
abbrev pub phase_states : List Rest → List State
phase_states [] = []
phase_states (live step phase state ∷ more) = state ∷ phase_states more
phase_states (_ ∷ more) = phase_states more

-- the acts of a batch's rest, each with the batch's number
abbrev pub acts_of : Batch → List (ℕ × Rest)
acts_of batch = map (λ act. (batch.number, act)) (acts batch.rest)

-- an act's shares of a resource, one for each need of that resource that it holds
abbrev pub shares_held : Name → Batch → Rest → List Share
shares_held resource batch act =
    map (λ need. record { act = (batch.number, place_of act); units = need.units })
    (filter (λ need. same_name resource need.resource) (held_by act))

-- the share of a resource that is held in advance, if the held unit is that resource
abbrev pub share_in_advance : Name → Batch → InAdvance → List Share
share_in_advance resource batch held = with_share resource (batch.number, held.place) held.unit []

-- a batch's shares of a resource
abbrev pub shares_of : Name → Batch → List Share
shares_of resource batch = flat_map (share_in_advance resource batch) batch.in_advance ++ flat_map (shares_held resource batch) (acts batch.rest)

-- who holds how much of a resource
abbrev pub holders : Plant → Name → List Share
holders plant resource = flat_map (shares_of resource) plant.batches

-- who asks for how much of a resource, in the order in which the asks came
abbrev pub askers : Plant → Name → List Share
askers plant resource = plant.line resource
