-- trusted: the content of a table's refusal.
use Rattle.std.specs.Prelude.{◌≡◌, ℕ, ◌≤◌, nat_lt, ⊤, List, Bool, true, false, not, position, if◌then◌else◌, Option, Some, None, codes}
use Rattle.std.specs.Borrow.{Bor}
use Rattle.toml.specs.Data.{Data, Items, Members}
use Rattle.batch_text.specs.NumberText.{IsNumber, number_of}
use Rattle.batch_recipe.specs.Diagram.{Diagram}
use Rattle.batch_recipe.specs.declared.need.TheConstants.{MAX_NEED_UNITS}
use Rattle.batch_reader.specs.ChartAnswer.{IsRead}
use Rattle.batch_reader.specs.declared.chart_reading.TheConstants.{MAX_CHART_LEN}
use Rattle.batch_reader.specs.Entries.{HasText}
use Rattle.batch_reader.specs.NeedText.{is_star}
use Rattle.batch_reader.specs.TableFaults.{count_items, IsFirstNoNeed, IsNoNeedCut, HasTooManyUnits, IsNoNeed, IsNeedOutOfLimits, IsTableFault}
use Rattle.batch_reader.specs.declared.fault.EntryFault.{EntryFault}
use Rattle.batch_reader.specs.declared.fault.EntryFault.TheVariants.{MissingKey, WrongKind, NoNeed, OutOfLimit, NeedOutOfLimit}
use Rattle.batch_reader.specs.declared.fault.Spot.{Spot}
use Rattle.batch_reader.specs.declared.fault.TableFault.{TableFault}
use Rattle.batch_reader.specs.declared.fault.TableFault.TheVariants.{Entry, Memory}
use Rattle.batch_reader.specs.declared.fault.TableKind.{TableKind}
use Rattle.batch_reader.specs.declared.fault.TableKind.TheVariants.{Cell, Unit, Module, Shared, UnitProcedure, Operation, Phase, Desk}

-- the tables of cell documents
abbrev pub is_of_cell : TableKind → Bool
is_of_cell Cell = true
is_of_cell Unit = true
is_of_cell Module = true
is_of_cell Shared = true
is_of_cell _ = false

-- the tables of recipe documents
abbrev pub is_of_recipe : TableKind → Bool
is_of_recipe Desk = false
is_of_recipe kind = not (is_of_cell kind)

-- unless memory was refused, the fault is in a table of one of these kinds
abbrev pub IsAmong : (TableKind → Bool) → TableFault → Type 0
IsAmong kinds (Entry here wrong) = kinds here.kind ≡ true
IsAmong kinds Memory = ⊤

-- unless memory was refused, this is wrong in a table of this kind
abbrev pub IsToldIn : TableKind → EntryFault → TableFault → Type 0
IsToldIn kind wrong (Entry here what) = (here.kind ≡ kind) × (what ≡ wrong)
IsToldIn kind wrong Memory = ⊤

-- unless memory was refused, this is wrong in the table at this spot
abbrev pub IsToldAs : Spot → EntryFault → TableFault → Type 0
IsToldAs spot wrong (Entry here what) = (here ≡ spot) × (what ≡ wrong)
IsToldAs spot wrong Memory = ⊤

-- unless memory was refused, the fault is in the table at this spot, and has this property
abbrev pub TellsAt : Spot → (EntryFault → Type 0) → TableFault → Type 0
TellsAt spot Is (Entry here wrong) = (here ≡ spot) × Is wrong
TellsAt spot Is Memory = ⊤

-- unless memory was refused, the fault is in a table of this kind, and it and the table's number have this property
abbrev pub TellsIn : TableKind → (ℕ → EntryFault → Type 0) → TableFault → Type 0
TellsIn kind Is (Entry here wrong) = (here.kind ≡ kind) × Is here.entry wrong
TellsIn kind Is Memory = ⊤

-- unless memory was refused, the fault and its spot have this property
abbrev pub Tells : (Spot → EntryFault → Type 0) → TableFault → Type 0
Tells Is (Entry here wrong) = Is here wrong
Tells Is Memory = ⊤

-- this is wrong with the text as the number of units of the need with this number
abbrev pub IsUnitsFault : ℕ → List ℕ → EntryFault → Type 0
IsUnitsFault number text (NoNeed told) = (told ≡ number) × ¬ IsNumber text
IsUnitsFault number text (NeedOutOfLimit told) = (told ≡ number) × IsNumber text × (1 ≤ number_of text → number_of text ≤ MAX_NEED_UNITS → ⊥)
IsUnitsFault number text _ = ⊥

-- this is wrong with the text as the need with this number
abbrev pub IsNeedTextFault : ℕ → List ℕ → EntryFault → Type 0
IsNeedTextFault number text (NoNeed told) = (told ≡ number) × IsNoNeedCut (position is_star text) text
IsNeedTextFault number text (NeedOutOfLimit told) = (told ≡ number) × HasTooManyUnits (position is_star text) text
IsNeedTextFault number text _ = ⊥

-- this is wrong with the value as the need with this number
abbrev pub IsNeedFault : ℕ → Data → EntryFault → Type 0
IsNeedFault number d (NoNeed told) = (told ≡ number) × IsNoNeed d
IsNeedFault number d (NeedOutOfLimit told) = (told ≡ number) × IsNeedOutOfLimits d
IsNeedFault number d _ = ⊥

-- this is wrong with the items as needs
abbrev pub IsNeedsFault : Items → EntryFault → Type 0
IsNeedsFault items (NoNeed number) = IsFirstNoNeed IsNoNeed items number
IsNeedsFault items (NeedOutOfLimit number) = IsFirstNoNeed IsNeedOutOfLimits items number
IsNeedsFault items _ = ⊥

-- this is wrong with the table of an act of this kind
abbrev pub IsActFault : TableKind → Members → EntryFault → Type 0
IsActFault UnitProcedure table wrong = IsTableFault UnitProcedure table wrong
IsActFault Operation table wrong = IsTableFault Operation table wrong
IsActFault Phase table wrong = IsTableFault Phase table wrong
IsActFault _ table wrong = ⊤

-- the fault of a key that has no value of its kind
abbrev pub missing_or_wrong : Bor (List ℕ) → Option Data → EntryFault
missing_or_wrong key None = MissingKey (Some key)
missing_or_wrong key (Some d) = WrongKind (Some key)

-- the fault of a value that isn't of its kind, or isn't within its limits
abbrev pub kind_fault : {X : Type 0} → Bor (List ℕ) → Option X → EntryFault
kind_fault key None = WrongKind (Some key)
kind_fault key (Some x) = OutOfLimit (Some key)

-- the fault of a key that has no value of its kind within its limits
abbrev pub value_fault : {X : Type 0} → Bor (List ℕ) → (Data → Option X) → Option Data → EntryFault
value_fault key of_kind None = MissingKey (Some key)
value_fault key of_kind (Some d) = kind_fault key (of_kind d)

-- the fault of a key that has no list of at most so many names: there are too many, or it is no list of names
abbrev pub few_names_fault : Bor (List ℕ) → ℕ → Option Items → EntryFault
few_names_fault key most None = WrongKind (Some key)
few_names_fault key most (Some items) = if nat_lt most (count_items items) then OutOfLimit (Some key) else WrongKind (Some key)

-- the table has a text of the chart, whose first `par` opens at the offset, if there is one
pub record HasReadChart (ms : Members) (chart : Diagram) (first_par : Option ℕ) : Type 0 where
  pub text : List ℕ
  pub found : HasText (codes "chart") ms MAX_CHART_LEN text
  pub read : IsRead text chart first_par
