-- Where something is wrong with a document, it stands for no desks.
use Rattle.std.proofs.Common.{◌≡◌, ◌≢◌, ℕ, ◌+◌, ◌⊎◌, inl, inr, Bool, List, ◌++◌, length, take, drop, nat_eq, Option, Some, None, sym, ap, subst, ◌∙◌, pos, codes, take-append-drop, refl}
use Rattle.std.{proofs.lemmas.Bool.false≢true, proofs.lemmas.List.length-map, proofs.lemmas.List.map-append, specs.Cmp.Lexicographic.pointwise, specs.List.IsDistinct}
use Rattle.toml.specs.Data.{Members, get_member}
use Rattle.batch_cell.proofs.DistinctNames.{IsDistinct-front}
use Rattle.batch_reader.{proofs.Items.HasTables_same, proofs.OneEntry.HasName_missing, proofs.OneEntry.HasName_unique, specs.Entries.HasName, specs.Entries.HasNumber, specs.Entries.HasTables, specs.Entries.IsTruth, specs.Entries.MayHaveName, specs.Keys.needed, specs.Keys.optional, specs.TableFaults.IsKeyFault, specs.Faults.TellsAt, specs.Faults.TellsIn, specs.declared.fault.EntryFault.EntryFault, specs.declared.fault.EntryFault.TheVariants.MissingKey, specs.declared.fault.EntryFault.TheVariants.WrongKind, specs.declared.fault.EntryFault.TheVariants.OutOfLimit, specs.declared.fault.Spot.Spot, specs.declared.fault.TableFault.TableFault, specs.declared.fault.TableFault.TheVariants.Entry, specs.declared.fault.TableFault.TheVariants.Memory, specs.declared.keys.TheConstants.MAX_LAG, specs.DeskNames.HaveDistinctNames, specs.DeskNames.desk_names, specs.DesksDocument.HasLag, specs.DesksDocument.IsDeskTable, specs.DesksDocument.IsDesksTable, specs.DesksDocument.MayHavePath, specs.DesksFaults.HasDeskNameTwice, specs.DesksFaults.HasRightDeskCount, specs.DesksFaults.path_key, specs.declared.desk.Desk.Desk, specs.declared.desk_set.Desks.Desks}
use Rattle.batch_reader.specs.declared.fault.TableKind.TheVariants as table
use Rattle.batch_reader.specs.declared.keys.ValueForm.TheVariants as form

-- nothing is wrong first, and nothing later
pub none_first : {Wrong Right Later : Type 0} → (Wrong → ⊥) → (Later → ⊥) → Wrong ⊎ (Right × Later) → ⊥
none_first w l (inl wrong) = w wrong
none_first w l (inr p) = l p.1

-- ---- a key

pub name_refused : (key : List ℕ) (ms : Members) (wrong : EntryFault) (name : List ℕ) → HasName key ms name → IsKeyFault (needed key form.Name) ms wrong → ⊥
name_refused key ms (MissingKey named) name has h = HasName_missing key ms name h.2 has
name_refused key ms (WrongKind named) name has h = h.1.fits name (record { text = rw h.1.found at has.text; valid = has.valid })
name_refused key ms (OutOfLimit named) name has h = h.1.fits
name_refused key ms wrong name has h = assumption

pub optional_name_refused : (key : List ℕ) (ms : Members) (wrong : EntryFault) (name : Option (List ℕ)) → MayHaveName key ms name → IsKeyFault (optional key form.Name) ms wrong → ⊥
optional_name_refused key ms (MissingKey named) name has h = false≢true h.1
optional_name_refused key ms (WrongKind named) None has h = let none = rw has at h.1.found in cc none
optional_name_refused key ms (WrongKind named) (Some name) has h = h.1.fits name (record { text = rw h.1.found at has.text; valid = has.valid })
optional_name_refused key ms (OutOfLimit named) name has h = h.1.fits
optional_name_refused key ms wrong name has h = assumption

pub path_refused : (key : List ℕ) (ms : Members) (wrong : EntryFault) (path : Option (List ℕ)) → MayHavePath key ms path → IsKeyFault (path_key key) ms wrong → ⊥
path_refused key ms (WrongKind named) None has h = let none = rw has at h.1.found in cc none
path_refused key ms (WrongKind named) (Some path) has h = let found = rw h.1.found at has.text.found in cc (found, h.1.fits)
path_refused key ms (OutOfLimit named) None has h = let none = rw has at h.1.found in cc none
path_refused key ms (OutOfLimit named) (Some path) has h =
    let found = rw h.1.found at has.text.found in
    let same : h.1.fits.text ≡ path = cc (found, h.1.fits.found) in
    h.1.fits.fits (rw same has.some) (rw same has.text.short)
path_refused key ms (MissingKey named) path has h = false≢true h.1
path_refused key ms wrong path has h = assumption

pub truth_refused : (key : List ℕ) (ms : Members) (wrong : EntryFault) (truth : Bool) → IsTruth key ms truth → IsKeyFault (optional key form.Truth) ms wrong → ⊥
truth_refused key ms (MissingKey named) truth has h = false≢true h.1
truth_refused key ms (WrongKind named) truth has h = let found = rw h.1.found at has in cc (found, h.1.fits)
truth_refused key ms (OutOfLimit named) truth has h = h.1.fits
truth_refused key ms wrong truth has h = assumption

pub number_refused : (key : List ℕ) (ms : Members) (low high : ℕ) (wrong : EntryFault) (number : ℕ) → HasNumber key ms low high number
    → IsKeyFault (optional key (form.Number low high)) ms wrong → ⊥
number_refused key ms low high (MissingKey named) number has h = false≢true h.1
number_refused key ms low high (WrongKind named) number has h = let found = rw h.1.found at has.integer in cc (found, h.1.fits)
number_refused key ms low high (OutOfLimit named) number has h =
    let found = rw h.1.found at has.integer in
    let same : h.1.fits.integer ≡ pos number = cc (found, h.1.fits.found) in
    h.1.fits.outside number same has.at_least has.at_most
number_refused key ms low high wrong number has h = assumption

-- a key that is missing has nothing wrong
pub missing_refused : (key : List ℕ) (ms : Members) (low high : ℕ) (wrong : EntryFault) → get_member key ms ≡ None → IsKeyFault (optional key (form.Number low high)) ms wrong → ⊥
missing_refused key ms low high (MissingKey named) missing h = false≢true h.1
missing_refused key ms low high (WrongKind named) missing h = let none = rw missing at h.1.found in cc none
missing_refused key ms low high (OutOfLimit named) missing h = let none = rw missing at h.1.found in cc none
missing_refused key ms low high wrong missing h = assumption

lag_refused : (ms : Members) (wrong : EntryFault) (lag : ℕ) → HasLag ms lag → IsKeyFault (optional (codes "lag") (form.Number 1 MAX_LAG)) ms wrong → ⊥
lag_refused ms wrong lag (inl has) h = number_refused (codes "lag") ms 1 MAX_LAG wrong lag has h
lag_refused ms wrong lag (inr missing) h = missing_refused (codes "lag") ms 1 MAX_LAG wrong missing.0 h

-- ---- the set of desks

same_names : (ms : Members) (xs ys : List Desk) → HasTables IsDeskTable (codes "desk") ms xs → HasTables IsDeskTable (codes "desk") ms ys → desk_names xs ≡ desk_names ys
same_names ms xs ys h k =
    HasTables_same IsDeskTable (λ desk. desk.name) (λ ns x y a b. HasName_unique _ ns x.name y.name a.name b.name) _ ms xs ys h k

same_length : (xs ys : List Desk) → desk_names xs ≡ desk_names ys → length xs ≡ length ys
same_length xs ys e =
    let name : Desk → List ℕ = λ desk. desk.name in
    sym (length-map xs name) ∙ ap length e ∙ length-map ys name

-- names that differ do so among the first of them
front_distinct : (desks : List Desk) (i : ℕ) → HaveDistinctNames desks → HaveDistinctNames (take i desks)
front_distinct desks i distinct =
    let name : Desk → List ℕ = λ desk. desk.name in
    let whole : desk_names desks ≡ desk_names (take i desks) ++ desk_names (drop i desks) =
    ap desk_names (sym (take-append-drop i desks)) ∙ map-append name (take i desks) (drop i desks) in
    let P : List (List ℕ) → Type 0 = λ names. IsDistinct (pointwise nat_eq) names in
    IsDistinct-front (pointwise nat_eq) (desk_names (take i desks)) (desk_names (drop i desks)) (subst P whole distinct)

-- ---- reported faults

-- if a table can't have the fault that is reported, memory was refused
pub lag_refuses : (spot : Spot) (ms : Members) (fault : TableFault) → TellsAt spot (IsKeyFault (optional (codes "lag") (form.Number 1 MAX_LAG)) ms) fault → fault ≢ Memory
    → (desk : Desk) → IsDeskTable ms desk → ⊥
lag_refuses spot ms Memory told known desk h = known refl
lag_refuses spot ms (Entry here wrong) told known desk h = lag_refused ms wrong desk.lag h.lag told.1

-- where the tables of a document stand for desks, as many as there are of the set, and by the same names
module _ (ms : Members) (desks : List Desk) (tables : HasTables IsDeskTable (codes "desk") ms desks) where
  pub right_count : (all : Desks) → IsDesksTable ms all → HasRightDeskCount desks
  right_count all h =
      let count : length all.desks.items ≡ length desks = same_length all.desks.items desks (same_names ms all.desks.items desks h.tables tables) in
      (rw count at h.some_desk, rw count at h.few_desks)

  pub names_refuse : (fault : TableFault) → TellsIn table.Desk (HasDeskNameTwice desks) fault → fault ≢ Memory → (all : Desks) → IsDesksTable ms all → ⊥
  names_refuse Memory told known all h = known refl
  names_refuse (Entry here wrong) told known all h =
      let P : List (List ℕ) → Type 0 = λ names. IsDistinct (pointwise nat_eq) names in
      let distinct : HaveDistinctNames desks = subst P (same_names ms all.desks.items desks h.tables tables) h.distinct in
      told.1.1.fails (front_distinct desks (here.entry + 1) distinct)
