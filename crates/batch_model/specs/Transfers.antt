-- trusted: the units that a record shows as passed on or reserved, and the rule that they stay with their batch.
use Rattle.std.specs.Prelude.{ℕ, List, [], ◌∷◌, ◌++◌, filter, fold, not, true, false, option_and_then, option_map, nat_eq, slice_get, Some, None, find}
use Rattle.std.specs.List.{filter_map}
use Rattle.batch_matrix.specs.declared.command.Command.TheVariants.{Stop, Abort}
use Rattle.batch_recipe.specs.Conditions.{Name}
use Rattle.batch_recipe.specs.Tree.{Place, Step, Tree}
use Rattle.batch_model.specs.ActStates.{steps}
use Rattle.batch_model.specs.Lists.{Has, Each}
use Rattle.batch_model.specs.Moves.{reserved_place, begin, start, pass}
use Rattle.batch_model.specs.Events.{ordered}
use Rattle.batch_model.specs.Plant.{Batch, acts_in}
use Rattle.batch_model.specs.Records.{holders_told}
use Rattle.batch_model.specs.Rest.{same_place}
use Rattle.batch_model.specs.Runs.{Out, reply, move}

-- a unit that a batch keeps for the unit procedure at a place
pub record Kept : Type 0 where
  pub place : Place
  pub unit : Name

-- the kept units without those for the unit procedure at this place, which begins
abbrev pub without_begun : Place → List Kept → List Kept
without_begun place kept = filter (λ keeps. not (same_place keeps.place place)) kept

-- A batch keeps a unit until the unit procedure begins that it is kept for, or the batch is stopped or aborted

abbrev pub kept_until : ℕ → List Kept → Out → List Kept
kept_until number kept (move (begin batch place name)) = elim (nat_eq batch number) [ true ↦ without_begun place kept | false ↦ kept ]
kept_until number kept (reply (ordered Stop batch becomes)) = elim (nat_eq batch number) [ true ↦ [] | false ↦ kept ]
kept_until number kept (reply (ordered Abort batch becomes)) = elim (nat_eq batch number) [ true ↦ [] | false ↦ kept ]
kept_until number kept _ = kept

-- a unit is kept from its pass on, for the place that it is passed to
abbrev pub passed_by : ℕ → Out → List Kept
passed_by number (move (pass batch place to need)) =
    elim (nat_eq batch number) [ true ↦ record { place = to; unit = need.resource } ∷ [] | false ↦ [] ]
passed_by number _ = []

abbrev pub passed_told : ℕ → List Out → List Kept
passed_told number outs = fold (λ kept out. passed_by number out ++ kept_until number kept out) [] outs

-- the units that a step reserves, each for the unit procedure that follows it
abbrev pub reserved_by : Tree → Step → List Kept
reserved_by procedure step =
    filter_map (λ reserve.
    option_and_then (λ place. option_map (λ need. record { place = place; unit = need.resource }) (slice_get step.needs reserve.need))
    (reserved_place procedure step reserve.need))
    step.reserves

-- the same of the step at a place
abbrev pub reserved_at : Tree → Place → List Kept
reserved_at procedure place = elim (find (λ step. same_place step.place place) (steps procedure)) [ None ↦ [] | Some step ↦ reserved_by procedure step ]

-- reserved units are kept from the begin or start of their step of this tree on
abbrev pub reserved_from : ℕ → Tree → Out → List Kept
reserved_from number procedure (move (begin batch place name)) = elim (nat_eq batch number) [ true ↦ reserved_at procedure place | false ↦ [] ]
reserved_from number procedure (move (start batch place phase handed)) = elim (nat_eq batch number) [ true ↦ reserved_at procedure place | false ↦ [] ]
reserved_from number procedure _ = []

abbrev pub reserved_told : ℕ → Tree → List Out → List Kept
reserved_told number procedure outs = fold (λ kept out. reserved_from number procedure out ++ kept_until number kept out) [] outs

-- the batch holds by the record the units that it keeps: each passed one at the place that it was passed to, and at some place each
-- one that a begun step reserves
pub record KeepsUnits (outs : List Out) (batch : Batch) : Type 0 where
  pub passed : Each (λ kept. Has (acts_in (holders_told outs kept.unit)) (batch.number, kept.place)) (passed_told batch.number outs)
  pub reserved : Each (λ kept. (place : Place) × Has (acts_in (holders_told outs kept.unit)) (batch.number, place))
      (reserved_told batch.number batch.recipe.procedure outs)
