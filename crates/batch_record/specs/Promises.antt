-- surface: the promises of reading a record.
use Rattle.std.specs.Prelude.{◌≡◌, ◌⊎◌, ℕ, List, [], ◌∷◌, map, Some, None, true}
use Rattle.batch_model.specs.Plant.{BatchAct}
use Rattle.batch_model.specs.Records.{Active, active_told, holders_told, state_told, waiters_told}
use Rattle.batch_model.specs.Runs.{Out}
use Rattle.batch_recipe.specs.Conditions.{Name}
use Rattle.batch_record.specs.Laws.{IsLineOf, is_passed_over}
use Rattle.batch_record.specs.Naming.{IsNamed}
use Rattle.batch_record.specs.Blocks.{mark_of, opening_stage, stages}
use Rattle.batch_record.specs.Telling.{Listed, Live, tale_told}

-- the line is passed over, and says nothing of a recovery block
abbrev pub SaysNothing : List ℕ → Type 0
SaysNothing line = (is_passed_over line ≡ true) × (mark_of line ≡ None)

-- the lines are the texts of the outs, whose names are names, in order; lines that say nothing may lie between them
abbrev pub AreLinesOf : List Out → List (List ℕ) → Type 0
AreLinesOf outs [] = outs ≡ []
AreLinesOf outs (line ∷ lines) =
    (SaysNothing line × AreLinesOf outs lines)
    ⊎ ((out : Out) × (others : List Out) × (outs ≡ out ∷ others) × IsNamed out × IsLineOf out line × AreLinesOf others lines)

-- these lines are a record's, and it gives the same state as the outs
abbrev pub LinesTellTheirOuts : Type 0
LinesTellTheirOuts =
    (outs : List Out) (lines : List (List ℕ)) → AreLinesOf outs lines → stages opening_stage lines ≡ Some (record { tale = tale_told outs; block = None })

-- a live phase, without its state
pub record LiveStep : Type 0 where
  pub act : BatchAct
  pub unit : Name
  pub name : Name

abbrev pub place_of_live : Live → LiveStep
place_of_live live = record { act = live.act; unit = live.unit; name = live.name }

abbrev pub place_of_active : Active → LiveStep
place_of_active active = record { act = active.act; unit = active.phase.unit; name = active.phase.name }

-- the holders, the waiting acts, the live phases and the states of batches are those in the definitions of a safe record
pub record IsAsModelled (outs : List Out) : Type 0 where
  pub holders : (resource : Name) → (tale_told outs).holders resource ≡ holders_told outs resource
  pub waiters : (resource : Name) → (tale_told outs).waiters resource ≡ waiters_told outs resource
  pub live : map place_of_live (tale_told outs).live ≡ map place_of_active (active_told outs)
  pub states : (number : ℕ) (listed : Listed) → (tale_told outs).batches number ≡ Some listed → state_told outs number ≡ Some listed.state
