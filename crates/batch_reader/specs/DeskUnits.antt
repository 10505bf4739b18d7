-- trusted: the units that desks name.
use Rattle.std.specs.Prelude.{◌≡◌, ℕ, Bool, true, List, Some, None, is_some, nat_eq, position, codes}
use Rattle.std.specs.Cmp.Lexicographic.{pointwise}
use Rattle.std.specs.List.{list_all}
use Rattle.batch_reader.specs.PartFaults.{FailsFirst, IsUndeclaredAt}
use Rattle.batch_reader.specs.declared.fault.DocFault.{DocFault}
use Rattle.batch_reader.specs.declared.fault.DocFault.TheVariants.{Entry}
use Rattle.batch_reader.specs.declared.fault.EntryFault.{EntryFault}
use Rattle.batch_reader.specs.declared.fault.TableKind.TheVariants as table
use Rattle.batch_reader.specs.declared.desk.Desk.{Desk}

-- the desk's unit, if it has one, is one of these
abbrev pub has_known_unit : List (List ℕ) → Desk → Bool
has_known_unit units desk = elim desk.unit [ None ↦ true | Some unit ↦ is_some (position (pointwise nat_eq unit) units) ]

abbrev pub HaveUnits : List (List ℕ) → List Desk → Type 0
HaveUnits units desks = list_all (has_known_unit units) desks ≡ true

-- the fault is that of the first desk whose unit is none of these
pub record TellsNoUnit (units : List (List ℕ)) (desks : List Desk) (fault : DocFault) : Type 0 where
  pub entry : ℕ
  pub wrong : EntryFault
  pub named : IsUndeclaredAt (codes "unit") wrong
  pub told : fault ≡ Entry (record { kind = table.Desk; entry = entry }) wrong
  pub first : FailsFirst (HaveUnits units) desks entry
