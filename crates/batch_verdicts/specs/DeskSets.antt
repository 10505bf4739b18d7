-- trusted: desks that are to be served, and their set, or the reason why there is none.
use Rattle.std.specs.Prelude.{◌≡◌, ◌≢◌, ◌<◌, ◌⊎◌, ℕ, List, Some, None, length}
use Rattle.batch_cell.specs.LookUps.{units_of}
use Rattle.batch_cell.specs.declared.cell.Cell.{Cell}
use Rattle.batch_reader.specs.declared.document.TheConstants.{MAX_DOCUMENT_LEN}
use Rattle.batch_reader.specs.declared.fault.DocFault.{DocFault}
use Rattle.batch_reader.specs.declared.fault.DocFault.TheVariants.{NotToml, Entry, Memory}
use Rattle.batch_reader.specs.declared.fault.EntryFault.{EntryFault}
use Rattle.batch_reader.specs.declared.fault.EntryFault.TheVariants.{OutOfLimit}
use Rattle.batch_reader.specs.declared.fault.Spot.{Spot}
use Rattle.batch_reader.specs.declared.fault.TableKind.TheVariants as table
use Rattle.batch_reader.specs.DeskUnits.{HaveUnits, TellsNoUnit}
use Rattle.batch_reader.specs.DesksDocument.{IsDesksDocument}
use Rattle.batch_reader.specs.DesksFaults.{DesksFaultStands}
use Rattle.batch_reader.specs.declared.desk_set.Desks.{Desks}
use Rattle.batch_verify.specs.ClearedSet.{ClearedSet}
use Rattle.batch_verdicts.specs.Digested.{AreDigested}
use Rattle.batch_verdicts.specs.Halting.{HaltsAtCell, HaltsClearing}
use Rattle.batch_verdicts.specs.Judging.{HaltsWith, IsToml, document_kind}
use Rattle.batch_verdicts.specs.Reading.{Gives, IsUnread, ReadsCell}
use Rattle.batch_verdicts.specs.VerdictTexts.{document_text}
use Rattle.batch_verdicts.specs.declared.refusal.Halt.{Halt}
use Rattle.batch_verdicts.specs.declared.refusal.RefusalKind.TheVariants.{Fault}

-- the document is refused, and but for memory it stands for no desks; the rest is as for a cell, of tables of desks, the first of
-- which stands for the top
pub record RefusesDesks (path bytes : List ℕ) (h : Halt) : Type 0 where
  pub fault : DocFault
  pub stands : fault ≢ Memory → (desks : Desks) → ¬ (IsDesksDocument bytes desks)
  pub not_toml : fault ≡ NotToml → ¬ (IsToml bytes)
  pub long : MAX_DOCUMENT_LEN < length bytes → fault ≡ Entry (record { kind = table.Desk; entry = 0 }) (OutOfLimit None)
  pub told : (spot : Spot) (wrong : EntryFault) → fault ≡ Entry spot wrong → spot.kind ≡ table.Desk
  pub is_there : (spot : Spot) (wrong : EntryFault) → fault ≡ Entry spot wrong → DesksFaultStands bytes spot.entry wrong
  pub halts : HaltsWith (document_text path fault) (document_kind fault) h

-- a desk names a unit that the cell doesn't have: the first that does
pub record RefusesUnits (path : List ℕ) (c : Cell) (desks : Desks) (h : Halt) : Type 0 where
  pub fault : DocFault
  pub told : TellsNoUnit (units_of c) desks.desks.items fault
  pub halts : HaltsWith (document_text path fault) Fault h

-- Documents

abbrev pub ReadsDesks : Gives → List ℕ → Desks → Type 0
ReadsDesks gives path desks = (bytes : List ℕ) × gives path (Some bytes) × IsDesksDocument bytes desks

abbrev pub HaltsAtDesks : Gives → List ℕ → Halt → Type 0
HaltsAtDesks gives path h = IsUnread gives path h ⊎ ((bytes : List ℕ) × gives path (Some bytes) × RefusesDesks path bytes h)

-- the documents at these paths are the desks and the set, cleared by its certificate, whose digits these are, and the set's cell has
-- the units of the desks
pub record AreDesksCleared (gives : Gives) (path cell certificate : List ℕ) (recipes : List (List ℕ)) (desks : Desks) (set : ClearedSet) (digits : List ℕ) : Type 0 where
  pub read : ReadsDesks gives path desks
  pub cleared : AreDigested gives cell certificate recipes set digits
  pub units : HaveUnits (units_of set.cell) desks.desks.items

-- the document of desks ends it, or that of the cell, or a desk's unit, which is looked up once the cell is read, or a document behind
-- the cell's, or the clearing of the set
abbrev pub HaltsDesks : Gives → List ℕ → List ℕ → List ℕ → List (List ℕ) → Halt → Type 0
HaltsDesks gives path cell certificate recipes h =
    HaltsAtDesks gives path h
    ⊎ ((desks : Desks) × ReadsDesks gives path desks
    × (HaltsAtCell gives cell h ⊎ ((c : Cell) × ReadsCell gives cell c × RefusesUnits path c desks h) ⊎ HaltsClearing gives cell certificate recipes h))
