-- trusted: the meaning of verdicts on documents.
use Rattle.std.specs.Prelude.{◌≡◌, ◌≢◌, ◌≤◌, ◌<◌, ℕ, List, Bool, true, false, None, length, string_bytes, IsSome, IsUtf8, ⊤}
use Rattle.toml.specs.Parse.{parse_document}
use Rattle.batch_cell.specs.LookUps.{resources_of}
use Rattle.batch_cell.specs.declared.cell.Cell.{Cell}
use Rattle.batch_recipe.specs.declared.recipe.Recipe.{Recipe}
use Rattle.batch_model.specs.Cleared.{IsCleared}
use Rattle.batch_model.specs.Setups.{setup_of}
use Rattle.batch_reader.specs.CellDocument.{IsCellDocument}
use Rattle.batch_reader.specs.FaultStands.{FaultStands}
use Rattle.batch_reader.specs.Faults.{is_of_cell, is_of_recipe}
use Rattle.batch_reader.specs.RecipeDocument.{IsRecipeDocument}
use Rattle.batch_reader.specs.declared.document.TheConstants.{MAX_DOCUMENT_LEN}
use Rattle.batch_reader.specs.declared.fault.DocFault.{DocFault}
use Rattle.batch_reader.specs.declared.fault.DocFault.TheVariants as document
use Rattle.batch_reader.specs.declared.fault.EntryFault.{EntryFault}
use Rattle.batch_reader.specs.declared.fault.EntryFault.TheVariants.{OutOfLimit}
use Rattle.batch_reader.specs.declared.fault.Spot.{Spot}
use Rattle.batch_reader.specs.declared.fault.TableKind.TheVariants as table
use Rattle.batch_verify.specs.CertificateText.{Rank, AreInOrderOfName, IsCertificateText, IsFirstFault}
use Rattle.batch_verify.specs.Ranked.{rank_of, RanksAll}
use Rattle.batch_verify.specs.Verifying.{IsFirstRefusal}
use Rattle.batch_verify.specs.declared.certificate.CertFault.{CertFault}
use Rattle.batch_verify.specs.declared.certificate.CertFault.TheVariants as certificate
use Rattle.batch_verify.specs.declared.refusal.SetRefusal.{SetRefusal}
use Rattle.batch_verify.specs.declared.refusal.SetRefusal.TheVariants as set
use Rattle.batch_check.specs.Checking.{IsFault}
use Rattle.batch_check.specs.Clearing.{IsLeastClearance}
use Rattle.batch_check.specs.declared.fault.CheckFault.{CheckFault}
use Rattle.batch_check.specs.declared.fault.CheckFault.TheVariants as check
use Rattle.batch_verdicts.specs.VerdictTexts.{certificate_refused, certificate_text, document_text, fault_text, refusal_text}
use Rattle.batch_verify.specs.declared.certificate.TheConstants.{MAX_CERTIFICATE_LEN}
use Rattle.batch_verdicts.specs.declared.refusal.Halt.{Halt}
use Rattle.batch_verdicts.specs.declared.refusal.Halt.TheVariants as halt
use Rattle.batch_verdicts.specs.declared.refusal.RefusalKind.{RefusalKind}
use Rattle.batch_verdicts.specs.declared.refusal.RefusalKind.TheVariants.{Fault, OutOfMemory}

abbrev pub status_of : RefusalKind → ℕ
status_of Fault = 1
status_of OutOfMemory = 4

abbrev pub is_for_memory : RefusalKind → Bool
is_for_memory Fault = false
is_for_memory OutOfMemory = true

-- Documents

abbrev pub document_kind : DocFault → RefusalKind
document_kind document.Memory = OutOfMemory
document_kind _ = Fault

abbrev pub certificate_kind : CertFault → RefusalKind
certificate_kind certificate.Memory = OutOfMemory
certificate_kind _ = Fault

abbrev pub fault_kind : CheckFault → RefusalKind
fault_kind check.Memory = OutOfMemory
fault_kind _ = Fault

abbrev pub set_kind : SetRefusal → RefusalKind
set_kind set.Memory = OutOfMemory
set_kind _ = Fault

-- the program halts with the refusal of this text and kind, unless there was no memory for the text
abbrev pub HaltsWith : List ℕ → RefusalKind → Halt → Type 0
HaltsWith text kind (halt.Refused refusal) = (string_bytes refusal.text ≡ text) × (refusal.kind ≡ kind)
HaltsWith text kind (halt.Every refusals) = ⊥
HaltsWith text kind (halt.Unread message) = ⊥
HaltsWith text kind halt.Memory = ⊤

abbrev pub IsToml : List ℕ → Type 0
IsToml bytes = IsUtf8 bytes × IsSome (parse_document bytes)

-- the document is refused, and but for memory it stands for no cell. It is called no TOML only if it is none. A document that is too long
-- is refused at its top. A table at fault is one of a cell's, and it has the fault that is named
pub record RefusesCell (path bytes : List ℕ) (h : Halt) : Type 0 where
  pub fault : DocFault
  pub stands : fault ≢ document.Memory → (c : Cell) → ¬ (IsCellDocument bytes c)
  pub not_toml : fault ≡ document.NotToml → ¬ (IsToml bytes)
  pub long : MAX_DOCUMENT_LEN < length bytes → fault ≡ document.Entry (record { kind = table.Cell; entry = 0 }) (OutOfLimit None)
  pub told : (spot : Spot) (wrong : EntryFault) → fault ≡ document.Entry spot wrong → is_of_cell spot.kind ≡ true
  pub is_there : (spot : Spot) (wrong : EntryFault) → fault ≡ document.Entry spot wrong → FaultStands bytes spot wrong
  pub halts : HaltsWith (document_text path fault) (document_kind fault) h

-- the document is refused, and but for memory it stands for no recipe; the rest is as for a cell, of the tables of a recipe
pub record RefusesRecipe (path bytes : List ℕ) (h : Halt) : Type 0 where
  pub fault : DocFault
  pub stands : fault ≢ document.Memory → (r : Recipe) → ¬ (IsRecipeDocument bytes r)
  pub not_toml : fault ≡ document.NotToml → ¬ (IsToml bytes)
  pub long : MAX_DOCUMENT_LEN < length bytes → fault ≡ document.Entry (record { kind = table.Recipe; entry = 0 }) (OutOfLimit None)
  pub told : (spot : Spot) (wrong : EntryFault) → fault ≡ document.Entry spot wrong → is_of_recipe spot.kind ≡ true
  pub is_there : (spot : Spot) (wrong : EntryFault) → fault ≡ document.Entry spot wrong → FaultStands bytes spot wrong
  pub halts : HaltsWith (document_text path fault) (document_kind fault) h

-- the text is refused by its first fault, and a file that is too long as one of too many lines
pub record RefusesCertificate (text : List ℕ) (h : Halt) : Type 0 where
  pub fault : CertFault
  pub stands : length text ≤ MAX_CERTIFICATE_LEN → IsFirstFault text fault
  pub long : MAX_CERTIFICATE_LEN < length text → fault ≡ certificate.TooManyLines
  pub halts : HaltsWith (certificate_refused fault) (certificate_kind fault) h

-- Sets of recipes

-- the certificate ranks each resource once, and its ranks clear the recipes
abbrev pub IsClearedBy : Cell → List Recipe → List Rank → Type 0
IsClearedBy c rs ranks = RanksAll (resources_of c) ranks × IsCleared (setup_of c rs) (rank_of ranks)

-- it doesn't, for this first reason, which the refusal says; want of memory says nothing of the set
abbrev pub RefusesSet : Cell → List Recipe → List Rank → Halt → Type 0
RefusesSet c rs ranks h =
    (refusal : SetRefusal) × IsFirstRefusal (setup_of c rs) ranks refusal × HaltsWith (refusal_text c rs ranks refusal) (set_kind refusal) h

-- the output on recipes that can be cleared: a text that is read as the least ranks, in order of name, and is not too long
-- for a file
abbrev pub IsChecked : Cell → List Recipe → List ℕ → Type 0
IsChecked c rs text =
    (ranks : List Rank) × RanksAll (resources_of c) ranks × IsLeastClearance c rs (rank_of ranks) × AreInOrderOfName ranks
    × (text ≡ certificate_text ranks) × IsCertificateText text ranks × (length text ≤ MAX_CERTIFICATE_LEN)

-- they can't, for this reason, which the refusal says; want of memory says nothing of the recipes
abbrev pub RefusesCheck : Cell → List Recipe → Halt → Type 0
RefusesCheck c rs h = (fault : CheckFault) × IsFault c rs fault × HaltsWith (fault_text c rs fault) (fault_kind fault) h
