-- The faults of a desk's table are told where they stand.
use Rattle.std.proofs.Common.{◌≡◌, ◌≢◌, ℕ, List, length, Option, Some, None, option_and_then, refl, ap, arith}
use Rattle.std.specs.Borrow.{Bor}
use Rattle.toml.specs.Data.{Data, Members, get_member, as_str}
use Rattle.batch_reader.{proofs.EntryFaults.told_as, specs.Entries.HasText, specs.Entries.MayHaveText, specs.Faults.IsToldAs, specs.Faults.TellsAt, specs.Faults.kind_fault, specs.Faults.value_fault, specs.TableFaults.IsKeyFault, specs.declared.fault.EntryFault.TheVariants.OutOfLimit, specs.declared.fault.Spot.Spot, specs.declared.fault.TableFault.TableFault, specs.declared.fault.TableFault.TheVariants.Memory, specs.declared.keys.TheConstants.MAX_PATH_LEN, specs.DesksDocument.HasPath, specs.DesksDocument.MayHavePath, specs.DesksFaults.path_key}

-- a path is a text of the key
pub text_of_path : (key : List ℕ) (ms : Members) (path : Option (List ℕ)) → MayHavePath key ms path → MayHaveText key ms MAX_PATH_LEN path
text_of_path key ms None missing = missing
text_of_path key ms (Some path) has = has.text

-- where the text of the key is empty, it has no path, nor is it missing
pub no_empty_path : (key : List ℕ) (ms : Members) (text : List ℕ) → HasText key ms MAX_PATH_LEN text → length text ≡ 0
    → (path : Option (List ℕ)) → MayHavePath key ms path → ⊥
no_empty_path key ms text has empty None missing = let none = rw missing at has.found in cc none
no_empty_path key ms text has empty (Some path) h =
    let same : path ≡ text = cc (h.text.found, has.found) in omega (arith, h.some, ap length same, empty)

-- of a value that is a text its length alone can be wrong
pub text_fault : (key : Bor (List ℕ)) (found : Option Data) (text : List ℕ) → option_and_then as_str found ≡ Some text → value_fault key as_str found ≡ OutOfLimit (Some key)
text_fault key None text is_text = absurd (cc is_text)
text_fault key (Some d) text is_text = rw is_text refl

path_fault-some : (key : Bor (List ℕ)) (ms : Members) (d : Data) (text : Option (List ℕ)) → get_member key.now ms ≡ Some d → as_str d ≡ text
    → ((path : List ℕ) → HasPath key.now ms path → ⊥) → IsKeyFault (path_key key.now) ms (kind_fault key text)
path_fault-some key ms d None found none refused = (refl, record { here = d; found = found; fits = none })
path_fault-some key ms d (Some text) found is_text refused = (
  refl,
  record {
    here = d;
    found = found;
    fits = record { text = text; found = is_text; fits = λ some short. refused text (record { text = record { found = rw found is_text; short = short }; some = some }) };
  },
)

path_fault : (key : Bor (List ℕ)) (ms : Members) (found : Option Data) → get_member key.now ms ≡ found → ((path : Option (List ℕ)) → MayHavePath key.now ms path → ⊥)
    → IsKeyFault (path_key key.now) ms (value_fault key as_str found)
path_fault key ms None missing none = absurd (none None missing)
path_fault key ms (Some d) found none = path_fault-some key ms d (as_str d) found refl (λ path h. none (Some path) h)

pub path_told : (key : Bor (List ℕ)) (ms : Members) (spot : Spot) (fault : TableFault) → (fault ≢ Memory → (path : Option (List ℕ)) → MayHavePath key.now ms path → ⊥)
    → IsToldAs spot (value_fault key as_str (get_member key.now ms)) fault → TellsAt spot (IsKeyFault (path_key key.now) ms) fault
path_told key ms spot fault refused told = told_as (IsKeyFault (path_key key.now) ms) spot _ fault (path_fault key ms (get_member key.now ms) refl) refused told
