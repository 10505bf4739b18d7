-- surface: the laws of the machine's steps.
use Rattle.std.specs.Prelude.{◌≡◌, ◌⊎◌, ◌<◌, ◌≤◌, ℕ, List, [], ◌∷◌, ◌++◌, length, map, find, true, false, Some, None, ⊤}
use Rattle.std.specs.List.{list_all}
use Rattle.batch_matrix.specs.declared.report.Report.{Report}
use Rattle.batch_recipe.specs.Conditions.{Name, ValueList, same_name}
use Rattle.batch_recipe.specs.Expanding.{Binding}
use Rattle.batch_recipe.specs.Procedure.{bound_tree}
use Rattle.batch_recipe.specs.Tree.{Place, Tree}
use Rattle.batch_recipe.specs.Values.{have_output}
use Rattle.batch_recipe.specs.declared.acts.Acts.{Acts}
use Rattle.batch_model.specs.Lists.{Has, Each}
use Rattle.batch_model.specs.Rest.{Rest, Moment, acts, reach, advance, withdrawn, place_of}
use Rattle.batch_model.specs.Plant.{Master, Setup, InAdvance, Batch, Plant, opening, held_in, phase_states}
use Rattle.batch_model.specs.Moves.{Move, batch_of, kind_of, place_of_move, is_earlier, is_stopping, possible, next, after_move}
use Rattle.batch_model.specs.Events.{Event, create, report, Reply, refused, Refusal, output_left_out, bad_binding, full, LivePhase, live_phase, moves_pending, no_memory, is_binding}
use Rattle.batch_model.specs.Runs.{Out, reply, move, Reacts, Leads, goes_on, work_left, settling, run}
use Rattle.batch_model.specs.Records.{holders_after, holders_told, waiters_after, waiters_told, active_after, active_told, state_after, state_told}
use Rattle.batch_model.specs.Settled.{IsAdvanced}
use Rattle.batch_model.specs.Standing.{is_resting, IsRestOf, HasPlacedTrees, IsStanding}
use Rattle.batch_model.specs.Placed.{IsPlaced, Rises}
use Rattle.batch_model.specs.declared.limits.TheConstants.{LAST_NUMBER}

-- Rests

-- each act of a recipe's expanded tree carries the place at which it stands, whatever units take its roles
abbrev pub TreesArePlaced : Type 0
TreesArePlaced = (recipe_acts : Acts) (bound : Binding) → IsPlaced (0 ∷ []) (bound_tree bound recipe_acts)

-- the control recipes of the master recipe are expanded from acts
abbrev pub IsExpanded : Master → Type 0
IsExpanded master = (recipe_acts : Acts) × ((bound : Binding) → (master.control bound).procedure ≡ bound_tree bound recipe_acts)

-- and so do the trees of setups whose recipes are expanded from acts
abbrev pub SetupsArePlaced : Type 0
SetupsArePlaced = (setup : Setup) → Each IsExpanded setup.recipes → HasPlacedTrees setup

-- nothing is left to be reached of a chart that has just been reached, nor of a rest that has advanced
abbrev pub ReachesFully : Type 0
ReachesFully = (moment : Moment) (chart : Tree) → IsAdvanced (reach moment chart)

abbrev pub AdvancesFully : Type 0
AdvancesFully = (moment : Moment) (rest : Rest) → IsAdvanced (advance moment rest)

-- the rest of a chart that has just been reached is a possible one, and a possible rest stays one once it has advanced or its asks are
-- withdrawn
abbrev pub ReachingStands : Type 0
ReachingStands = (moment : Moment) (chart : Tree) → IsRestOf chart (reach moment chart)

abbrev pub AdvancingStands : Type 0
AdvancingStands = (moment : Moment) (chart : Tree) (rest : Rest) → IsRestOf chart rest → IsRestOf chart (advance moment rest)

abbrev pub WithdrawingStands : Type 0
WithdrawingStands = (chart : Tree) (rest : Rest) → IsRestOf chart rest → IsRestOf chart (withdrawn rest)

-- if nothing is held in advance, a chart that has just been reached holds nothing, and advancing takes and gives back nothing
abbrev pub ReachingHoldsNothing : Type 0
ReachingHoldsNothing = (moment : Moment) (chart : Tree) → moment.early ≡ [] → held_in (reach moment chart) ≡ []

abbrev pub AdvancingHoldsTheSame : Type 0
AdvancingHoldsTheSame = (moment : Moment) (rest : Rest) → moment.early ≡ [] → held_in (advance moment rest) ≡ held_in rest

-- a chart that has just been reached runs no phase, and advancing changes the states of none
abbrev pub ReachingRunsNoPhase : Type 0
ReachingRunsNoPhase = (moment : Moment) (chart : Tree) → phase_states (acts (reach moment chart)) ≡ []

abbrev pub AdvancingRunsTheSamePhases : Type 0
AdvancingRunsTheSamePhases = (moment : Moment) (rest : Rest) → phase_states (acts (advance moment rest)) ≡ phase_states (acts rest)

-- the acts of a rest are in the order of their places, one at a place
abbrev pub ActsRise : Type 0
ActsRise = (place : Place) (chart : Tree) (rest : Rest) → IsPlaced place chart → IsRestOf chart rest → Rises (acts rest)

abbrev pub OneActAPlace : Type 0
OneActAPlace =
    (place : Place) (chart : Tree) (rest : Rest) → IsPlaced place chart → IsRestOf chart rest
    → (act other : Rest) → Has (acts rest) act → Has (acts rest) other → place_of act ≡ place_of other → act ≡ other

-- Moves

-- the move is among the moves, and none is earlier
abbrev pub IsLeast : List Move → Move → Type 0
IsLeast moves made = Has moves made × ((other : Move) → Has moves other → is_earlier other made ≡ false)

-- the move is among the moves, and earlier than all others
abbrev pub IsFirst : List Move → Move → Type 0
IsFirst moves made = Has moves made × ((other : Move) → Has moves other → (other ≡ made) ⊎ (is_earlier made other ≡ true))

abbrev pub NextIsLeast : Type 0
NextIsLeast = (setup : Setup) (plant : Plant) (made : Move) → next setup plant ≡ Some made → IsLeast (possible setup plant) made

abbrev pub FirstIsNext : Type 0
FirstIsNext = (setup : Setup) (plant : Plant) (made : Move) → IsFirst (possible setup plant) made → next setup plant ≡ Some made

abbrev pub NextIsFirst : Type 0
NextIsFirst =
    (setup : Setup) (plant : Plant) (made : Move) → HasPlacedTrees setup → IsStanding setup plant → next setup plant ≡ Some made
    → IsFirst (possible setup plant) made

abbrev pub NoneIsPossible : Type 0
NoneIsPossible = (setup : Setup) (plant : Plant) → next setup plant ≡ None → possible setup plant ≡ []

-- two possible moves of one batch at one place are the same
abbrev pub ActsHaveOneMove : Type 0
ActsHaveOneMove =
    (setup : Setup) (plant : Plant) (made other : Move) → HasPlacedTrees setup → IsStanding setup plant → Has (possible setup plant) made
    → Has (possible setup plant) other
    → batch_of made ≡ batch_of other → place_of_move made ≡ place_of_move other → made ≡ other

-- each possible move lowers the work left
abbrev pub WorkFalls : Type 0
WorkFalls =
    (setup : Setup) (plant : Plant) (made : Move) → HasPlacedTrees setup → IsStanding setup plant → Has (possible setup plant) made
    → work_left (after_move plant made) < work_left plant

-- Units that are held in advance

-- the move gives back, passes on, begins or ends
abbrev pub IsOnTheWay : Move → Type 0
IsOnTheWay made = (3 ≤ kind_of made) × (kind_of made ≤ 4)

-- a batch that holds a unit in advance has a move of these, and isn't on its way to Stopped or Aborted, nor there, idle or complete
abbrev pub HeldInAdvanceGoesOn : Type 0
HeldInAdvanceGoesOn =
    (setup : Setup) (plant : Plant) (batch : Batch) (held : InAdvance) → HasPlacedTrees setup → IsStanding setup plant
    → Has plant.batches batch → Has batch.in_advance held
    → (goes_on batch.state ≡ true) × (is_resting batch.state ≡ false) × ((made : Move) × Has (possible setup plant) made × (batch_of made ≡ batch.number) × IsOnTheWay made)

-- if no move is possible, nothing is held in advance
abbrev pub SettledHoldsNothingInAdvance : Type 0
SettledHoldsNothingInAdvance =
    (setup : Setup) (plant : Plant) → HasPlacedTrees setup → IsStanding setup plant → next setup plant ≡ None
    → Each (λ batch. batch.in_advance ≡ []) plant.batches

-- Events

-- a refused event leaves the plant as it was
abbrev pub RefusalsChangeNothing : Type 0
RefusalsChangeNothing =
    (setup : Setup) (plant later : Plant) (event : Event) (refusal : Refusal) → Reacts setup plant event (refused refusal) later
    → later ≡ plant

abbrev pub IsCreate : Event → Type 0
IsCreate (create name size pairs) = ⊤
IsCreate _ = ⊥

-- the create's recipe is there, and its pairs are no binding of the recipe's roles
abbrev pub BindsBadly : Setup → Event → Type 0
BindsBadly setup (create name size pairs) =
    (master : Master)
    × (find (λ known. same_name known.name name) setup.recipes ≡ Some master)
    × (is_binding master.roles pairs ≡ false)
BindsBadly setup _ = ⊥

-- the phase is live and done, and neither stopping nor aborting; the output is the first that it reports which has no value here
pub record IsFirstLeftOut (plant : Plant) (unit name : Name) (word : Report) (outputs : ValueList) (output : Name) : Type 0 where
  pub found : LivePhase
  pub is_live : live_phase plant.batches unit name ≡ Some found
  pub is_done : word ≡ Report.Done
  pub goes_on : is_stopping found.state ≡ false
  pub earlier : List Name
  pub later : List Name
  pub reports : found.phase.reports ≡ earlier ++ output ∷ later
  pub is_missing : have_output outputs output ≡ false
  pub is_first : list_all (have_output outputs) earlier ≡ true

abbrev pub LeavesOut : Plant → Event → Name → Type 0
LeavesOut plant (report unit name word outputs) output = IsFirstLeftOut plant unit name word outputs output
LeavesOut plant _ output = ⊥

-- the cause of a refusal:
-- - E10 comes only while a move is possible;
-- - E13 only of the first output that a live phase leaves out;
-- - E12 only of a binding that doesn't bind the recipe's roles;
-- - E8 only at a limit;
-- - E11, want of memory, only of a create
abbrev pub HasCause : Setup → Plant → Event → Refusal → Type 0
HasCause setup plant event moves_pending = next setup plant ≡ None → ⊥
HasCause setup plant event (output_left_out output) = LeavesOut plant event output
HasCause setup plant event bad_binding = BindsBadly setup event
HasCause setup plant event full = (setup.batch_limit ≤ length plant.batches) ⊎ (LAST_NUMBER < plant.next_number)
HasCause setup plant event no_memory = IsCreate event
HasCause setup plant event _ = ⊤

abbrev pub RefusalsHaveCauses : Type 0
RefusalsHaveCauses =
    (setup : Setup) (plant later : Plant) (event : Event) (refusal : Refusal) → Reacts setup plant event (refused refusal) later
    → HasCause setup plant event refusal

-- Runs

-- a record that leads to a plant goes on by the plant's next move, or by its reply to an event
abbrev pub RecordsGoOnByMoves : Type 0
RecordsGoOnByMoves =
    (setup : Setup) (plant later : Plant) (made : Move) (events : List Event) (outs : List Out)
    → Leads setup plant events outs later → next setup later ≡ Some made
    → Leads setup plant events (outs ++ move made ∷ []) (after_move later made)

abbrev pub RecordsGoOnByReplies : Type 0
RecordsGoOnByReplies =
    (setup : Setup) (plant later last : Plant) (event : Event) (told : Reply) (events : List Event) (outs : List Out)
    → Leads setup plant events outs later → Reacts setup later event told last
    → Leads setup plant (events ++ event ∷ []) (outs ++ reply told ∷ []) last

-- every plant that is led to stands
abbrev pub PlantsStand : Type 0
PlantsStand =
    (setup : Setup) → HasPlacedTrees setup → (events : List Event) (outs : List Out) (plant : Plant) → Leads setup opening events outs plant
    → IsStanding setup plant

-- no move is possible after as many moves as the work left
abbrev pub SettlingsEnd : Type 0
SettlingsEnd =
    (setup : Setup) → HasPlacedTrees setup → (events : List Event) (outs : List Out) (plant : Plant) → Leads setup opening events outs plant
    → next setup (settling (work_left plant) setup plant).1 ≡ None

-- the record leads from the plant to one with no next move
abbrev pub LeadsToRest : Setup → Plant → List Event → List Out → Type 0
LeadsToRest setup plant events outs = (later : Plant) × Leads setup plant events outs later × (next setup later ≡ None)

abbrev pub PlantsComeToRest : Type 0
PlantsComeToRest =
    (setup : Setup) → HasPlacedTrees setup → (events : List Event) (outs : List Out) (plant : Plant) → Leads setup opening events outs plant
    → (moves : List Move) × LeadsToRest setup plant [] (map move moves)

-- the record of a run leads from the opening to a plant with no next move
abbrev pub RunsComeToRest : Type 0
RunsComeToRest = (setup : Setup) → HasPlacedTrees setup → (events : List Event) → LeadsToRest setup opening events (run setup events)

-- Records

-- the holders, the waiters, the live phases and the states that a record gives change by its last line alone
abbrev pub LastLineTellsHolders : Type 0
LastLineTellsHolders =
    (outs : List Out) (out : Out) (resource : Name)
    → holders_told (outs ++ out ∷ []) resource ≡ holders_after resource (holders_told outs resource) out

abbrev pub LastLineTellsWaiters : Type 0
LastLineTellsWaiters =
    (outs : List Out) (out : Out) (resource : Name)
    → waiters_told (outs ++ out ∷ []) resource ≡ waiters_after resource (waiters_told outs resource) out

abbrev pub LastLineTellsActive : Type 0
LastLineTellsActive = (outs : List Out) (out : Out) → active_told (outs ++ out ∷ []) ≡ active_after (active_told outs) out

abbrev pub LastLineTellsState : Type 0
LastLineTellsState =
    (outs : List Out) (out : Out) (number : ℕ) → state_told (outs ++ out ∷ []) number ≡ state_after number (state_told outs number) out
