-- worked rows: faults that a document has, and faults that it doesn't have.
use Rattle.std.specs.Prelude.{◌≡◌, ◌≢◌, ℕ, List, [], ◌∷◌, Option, Some, None, codes}
use Rattle.std.specs.Borrow.{Bor}
use Rattle.toml.specs.Data.{Items, Members, no_members, member, no_items, item, string, array, table}
use Rattle.batch_cell.specs.declared.module.Module.{Module}
use Rattle.batch_recipe.specs.Conditions.{Name}
use Rattle.batch_recipe.specs.declared.act.Act.{Act}
use Rattle.batch_recipe.specs.declared.acts.Acts.{Acts}
use Rattle.batch_reader.specs.Keys.{needed}
use Rattle.batch_reader.specs.PartFaults.{Equipment, IsCountFault, IsEquipmentFault, IsNamingFault, IsReportFault, IsReserveFaultOf}
use Rattle.batch_reader.specs.TableFaults.{IsFaultOfTable, IsFirstNoNeed, IsKeyFault, IsNeedOutOfLimits, IsNoChartAt, IsNoNeed}
use Rattle.batch_reader.specs.declared.fault.EntryFault.TheVariants.{Duplicate, MissingKey, NumberOutOfLimit, OutOfLimit, Undeclared, UnknownKey}
use Rattle.batch_reader.specs.declared.fault.TableKind.{TableKind}
use Rattle.batch_reader.specs.declared.fault.TableKind.TheVariants as table_kind
use Rattle.batch_reader.specs.declared.keys.ValueForm.TheVariants as form

-- `cell = "C"` and `[[unit]]`, which has no name
abbrev pub nameless : Members
nameless = member (codes "cell") (string (codes "C")) (member (codes "unit") (array (item (table no_members) no_items)) no_members)

abbrev pub UnitLacksItsName : Type 0
UnitLacksItsName = (key : Bor (List ℕ)) → key.now ≡ codes "name" → IsFaultOfTable nameless table_kind.Unit 0 (MissingKey (Some key))

-- it lacks no other key, and it is there
abbrev pub UnitLacksNoOtherKey : Type 0
UnitLacksNoOtherKey =
    ((key : Bor (List ℕ)) → key.now ≡ codes "class" → ¬ IsFaultOfTable nameless table_kind.Unit 0 (MissingKey (Some key)))
    × (¬ IsFaultOfTable nameless table_kind.Unit 0 (MissingKey None))

-- there is no second unit
abbrev pub NoSecondUnitLacksOne : Type 0
NoSecondUnitLacksOne = (key : Option (Bor (List ℕ))) → ¬ IsFaultOfTable nameless table_kind.Unit 1 (MissingKey key)

-- the unit has no key that is unknown
abbrev pub NoKeyIsUnknown : Type 0
NoKeyIsUnknown = ¬ IsFaultOfTable nameless table_kind.Unit 0 UnknownKey

-- the table of a unit procedure, with these keys between its name and its chart
abbrev pub with_keys : (Members → Members) → Members
with_keys keys = member (codes "name") (string (codes "U")) (keys (member (codes "chart") (string (codes "skip")) no_members))

-- one `[[unit_procedure]]`, which has them
abbrev pub one_unit_procedure : (Members → Members) → Members
one_unit_procedure keys = member (codes "unit_procedure") (array (item (table (with_keys keys)) no_items)) no_members

abbrev pub on_unit : Members → Members
on_unit rest = member (codes "unit") (string (codes "R1")) rest

abbrev pub for_role : Members → Members
for_role rest = member (codes "role") (string (codes "rx")) rest

-- `unit` isn't known beside `role`, and `role` alone is
abbrev pub UnitBesideRoleIsUnknown : Type 0
UnitBesideRoleIsUnknown = IsFaultOfTable (one_unit_procedure (λ rest. on_unit (for_role rest))) table_kind.UnitProcedure 0 UnknownKey

abbrev pub RoleAloneIsKnown : Type 0
RoleAloneIsKnown = ¬ IsFaultOfTable (one_unit_procedure for_role) table_kind.UnitProcedure 0 UnknownKey

-- `unit` is missing if there is neither, and no key is unknown
abbrev pub NeitherIsMissing : Type 0
NeitherIsMissing =
    ((key : Bor (List ℕ)) → key.now ≡ codes "unit" → IsFaultOfTable (one_unit_procedure (λ rest. rest)) table_kind.UnitProcedure 0 (MissingKey (Some key)))
    × (¬ IsFaultOfTable (one_unit_procedure (λ rest. rest)) table_kind.UnitProcedure 0 UnknownKey)

-- of three needs the second is none, and so is the third
abbrev pub three_needs : Items
three_needs = item (string (codes "STEAM")) (item (string (codes "2*STEAM")) (item (string (codes "*2")) no_items))

abbrev pub SecondNeedIsNone : Type 0
SecondNeedIsNone = IsFirstNoNeed IsNoNeed three_needs 1

-- no need is told that is right, or that isn't the first at fault
abbrev pub NoOtherNeedIsTold : Type 0
NoOtherNeedIsTold = (¬ IsFirstNoNeed IsNoNeed three_needs 0) × (¬ IsFirstNoNeed IsNoNeed three_needs 2)

-- a need of no units, or of 1,001, is out of its limits, and one of 1,000 isn't
abbrev pub UnitsAreTold : Type 0
UnitsAreTold = IsNeedOutOfLimits (string (codes "STEAM*0")) × IsNeedOutOfLimits (string (codes "STEAM*1001")) × (¬ IsNeedOutOfLimits (string (codes "STEAM*1000")))

-- a text that begins with `s` isn't at fault there, since `skip` does too
abbrev pub FirstByteIsGood : Type 0
FirstByteIsGood = ¬ IsNoChartAt 0 (codes "seq(ADD")

-- a loop of no turns, in a table with this chart alone
abbrev pub no_turns : List ℕ
no_turns = codes "loop(0,P>1,skip)"

abbrev pub with_no_turns : Members
with_no_turns = member (codes "chart") (string no_turns) no_members

-- its number is at fault, and no other
abbrev pub NoTurnsAreTold : Type 0
NoTurnsAreTold =
    IsKeyFault (needed (codes "chart") form.Chart) with_no_turns (NumberOutOfLimit 5)
    × ((offset : ℕ) → offset ≢ 5 → ¬ IsKeyFault (needed (codes "chart") form.Chart) with_no_turns (NumberOutOfLimit offset))

-- the text isn't too long
abbrev pub NoTurnsAreShort : Type 0
NoTurnsAreShort = (key : Option (Bor (List ℕ))) → ¬ IsKeyFault (needed (codes "chart") form.Chart) with_no_turns (OutOfLimit key)

-- a cell of this module alone
abbrev pub one_module : Module → Equipment
one_module m = record { units = []; modules = m ∷ []; shared = [] }

-- a module of the unit MIXER in a cell without it, and no module after it, nor another key
abbrev pub FirstModuleIsUndeclared : Type 0
FirstModuleIsUndeclared = (m : Module) (key : Bor (List ℕ)) → m.unit ≡ Some (codes "MIXER") → key.now ≡ codes "unit" → IsEquipmentFault (one_module m) table_kind.Module 0 (Undeclared key)

abbrev pub NoLaterModuleIsTold : Type 0
NoLaterModuleIsTold = (m : Module) (key : Bor (List ℕ)) → m.unit ≡ Some (codes "MIXER") → ¬ IsEquipmentFault (one_module m) table_kind.Module 1 (Undeclared key)

abbrev pub NoNameIsUndeclared : Type 0
NoNameIsUndeclared = (e : Equipment) (kind : TableKind) (entry : ℕ) (key : Bor (List ℕ)) → key.now ≡ codes "name" → ¬ IsEquipmentFault e kind entry (Undeclared key)

-- what a phase step reports is at no other key, and so is a name that it hands on: a phase step has no chart
abbrev pub ReportIsNoReserve : Type 0
ReportIsNoReserve = (outputs : List Name) (acts : Acts) (entry : ℕ) (key : Bor (List ℕ)) → key.now ≡ codes "reserves"
    → (¬ IsReportFault outputs acts table_kind.Phase entry (Duplicate key)) × (¬ IsReportFault outputs acts table_kind.Phase entry (Undeclared key))

abbrev pub PhaseHasNoChart : Type 0
PhaseHasNoChart = (outputs : List Name) (acts : Acts) (entry : ℕ) (key : Bor (List ℕ)) → key.now ≡ codes "chart" → ¬ IsNamingFault [] [] outputs acts table_kind.Phase entry (Undeclared key)

-- the last of 65 tables is too many where 64 may stand, and none of 64 is
abbrev pub CountsAreTold : Type 0
CountsAreTold = IsCountFault 1 64 65 64 × (¬ IsCountFault 1 64 65 65) × (¬ IsCountFault 1 64 64 64)

-- a phase step that reserves KEEP where no unit procedure has that name
abbrev pub ReserveIsUndeclared : Type 0
ReserveIsUndeclared = (step : Act) (key : Bor (List ℕ)) → step.reserves.items ≡ codes "KEEP" ∷ [] → key.now ≡ codes "reserves" → IsReserveFaultOf (codes "MAKE" ∷ []) (step ∷ []) 0 (Undeclared key)

-- and where one has
abbrev pub ReserveIsDeclared : Type 0
ReserveIsDeclared = (step : Act) (key : Bor (List ℕ)) → step.reserves.items ≡ codes "KEEP" ∷ [] → ¬ IsReserveFaultOf (codes "MAKE" ∷ codes "KEEP" ∷ []) (step ∷ []) 0 (Undeclared key)

-- one that reserves it twice
abbrev pub ReserveStandsTwice : Type 0
ReserveStandsTwice = (step : Act) (key : Bor (List ℕ)) → step.reserves.items ≡ codes "KEEP" ∷ codes "KEEP" ∷ [] → key.now ≡ codes "reserves"
    → IsReserveFaultOf (codes "MAKE" ∷ codes "KEEP" ∷ []) (step ∷ []) 0 (Duplicate key)
