-- worked rows: lines of nodes, worked out: their contents, and the needs that they leave out.
use Rattle.std.specs.Prelude.{◌≡◌, ◌≢◌, [], ◌∷◌, None, Some, codes}
use Rattle.batch_recipe.specs.Expanding.{reserves_from}
use Rattle.batch_recipe.specs.Needs.{one_unit}
use Rattle.batch_recipe.specs.Nodes.{Node}
use Rattle.batch_recipe.specs.Tree.{act, skip, seq, sel, loop, runs, no_trees, tree, otherwise, choice}
use Rattle.batch_recipe.specs.declared.act.Act.{Act}
use Rattle.batch_recipe.specs.declared.act.UnitChoice.TheVariants.{Unit, Role}
use Rattle.batch_recipe.specs.declared.act.Work.{Work}
use Rattle.batch_recipe.specs.declared.act.Work.TheVariants.{Follows}
use Rattle.batch_recipe.specs.declared.chart.Chart.{Chart}
use Rattle.batch_recipe.specs.declared.condition.Condition.{Condition}
use Rattle.batch_recipe.specs.declared.condition.Op.TheVariants.{AtMost}
use Rattle.batch_recipe.specs.declared.condition.Term.TheVariants.{Number}
use Rattle.batch_recipe.specs.declared.need.Need.{Need}
use Rattle.batch_outline.specs.Showing.{act_text, asked_above, branches, chosen_else, chosen_if, itself, kind_below, need_text, no_branch, phase_text, row_text}

abbrev pub two_units : Need
two_units = record { resource = codes "STEAM"; units = 2 }

abbrev pub TwoUnits : Type 0
TwoUnits = need_text two_units ≡ codes "STEAM*2"

abbrev pub OneUnit : Type 0
OneUnit = need_text (one_unit (codes "STEAM")) ≡ codes "STEAM"

abbrev pub at_most_seven : Condition
at_most_seven = record { name = codes "X"; op = AtMost; term = Number 7 }

-- the condition is that of its branch, and of nothing below it
abbrev pub BranchesOfSelection : Type 0
BranchesOfSelection =
    branches no_branch (sel (choice at_most_seven (seq (tree skip no_trees)) (otherwise skip)))
    ≡ no_branch ∷ chosen_if at_most_seven ∷ no_branch ∷ chosen_else ∷ []

-- a loop that is a branch
abbrev pub LoopLine : Type 0
LoopLine =
    row_text [] (record { at = record { place = 0 ∷ 1 ∷ []; asked = codes "R1" ∷ []; here = loop 3 at_most_seven skip }; own = None; branch = chosen_if at_most_seven })
    ≡ codes "0.1 loop holds R1 turns 3 until X <= 7 if X <= 7\n"

-- nothing is held above the first node
abbrev pub FirstLine : Type 0
FirstLine = row_text [] (record { at = record { place = 0 ∷ []; asked = []; here = skip }; own = None; branch = chosen_else }) ≡ codes "0 skip else\n"

-- a phase step below the unit R1 that asks for steam
abbrev pub heating : Node
heating = record {
  place = 0 ∷ 1 ∷ [];
  asked = codes "R1" ∷ codes "STEAM" ∷ [];
  here = act (record { place = 0 ∷ 1 ∷ []; needs = two_units ∷ []; reserves = [] }) (runs (record { unit = codes "R1"; name = codes "HEAT"; handed = []; reports = [] }));
}

-- a phase step below the unit R1 that reserves the unit R2 of KEEP, and asks for steam
abbrev pub passing : Node
passing = record {
  place = 0 ∷ 1 ∷ [];
  asked = codes "R1" ∷ codes "R2" ∷ codes "STEAM" ∷ [];
  here =
      act (record { place = 0 ∷ 1 ∷ []; needs = one_unit (codes "R2") ∷ two_units ∷ []; reserves = reserves_from 0 (codes "KEEP" ∷ []) })
      (runs (record { unit = codes "R1"; name = codes "HEAT"; handed = []; reports = [] }));
}

-- a unit that an act reserves is held below the act, and not above it
abbrev pub ReservedUnitIsNotHeldAbove : Type 0
ReservedUnitIsNotHeldAbove = asked_above passing ≡ codes "R1" ∷ []

-- an act with the phase, the unit procedures that it reserves, and its needs
abbrev pub ReservingAct : Type 0
ReservingAct =
    (a : Act) → a.name ≡ codes "ADD" → a.unit ≡ None → phase_text a.work ≡ codes " runs MIX" → a.reserves.items ≡ codes "KEEP" ∷ codes "WASH" ∷ []
    → a.needs.items ≡ two_units ∷ [] → act_text [] (codes "phase") a ≡ codes "phase ADD runs MIX reserves KEEP WASH needs STEAM*2"

abbrev pub HeldAbove : Type 0
HeldAbove = asked_above heating ≡ codes "R1" ∷ []

abbrev pub OwnNeedIsNotHeld : Type 0
OwnNeedIsNotHeld = asked_above heating ≢ codes "R1" ∷ codes "STEAM" ∷ []

-- an act with a unit or a role is a unit procedure, whatever it does; one without that follows a chart is an operation
abbrev pub KindsBelow : Type 0
KindsBelow =
    ((work : Work) → kind_below (Some (Unit (codes "R1"))) work ≡ codes "unit_procedure")
    × ((work : Work) → kind_below (Some (Role (codes "rx"))) work ≡ codes "unit_procedure")
    × ((chart : Chart) → kind_below None (Follows chart) ≡ codes "operation")

abbrev pub RoleTakesItself : Type 0
RoleTakesItself = itself (codes "rx") ≡ codes "rx"
