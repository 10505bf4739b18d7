-- A fault that is reported of the entry of a table is there.
use Rattle.std.proofs.Common.{◌≡◌, ◌≢◌, ℕ, ◌<◌, ◌≤◌, ℤ, nat_lt, Bool, true, false, inl, inr, List, [], ◌∷◌, length, Option, Some, None, Result, Ok, Err, if◌then◌else◌, is_some, IfErr, refl, sym, ap, ◌∙◌, subst, arith, codes}
use Rattle.std.{proofs.lemmas.Bool.Decides.nat_tests, specs.List.slice_get, specs.Borrow.Bor, specs.Option.option_map_or}
use Rattle.toml.specs.Data.{Data, Items, no_items, item, Members, get_member, as_str, as_integer, as_bool, as_array}
use Rattle.batch_reader.specs.{Entries.AllItems, Entries.IsNameItem, Entries.HasName, Entries.HasLabel, Entries.HasNameOr, Entries.HasText, Entries.MayHaveName, Entries.MayHaveText, Entries.HasNumber, Entries.HasNames, Entries.HasFewNames, Entries.IsTruth, Entries.items_at, Faults.IsToldAs, Faults.TellsAt, Faults.missing_or_wrong, Faults.value_fault, Faults.kind_fault, Faults.few_names_fault, Keys.Key, Keys.needed, Keys.optional, Keys.keys_of, Keys.may_stand, TableFaults.HasValue, TableFaults.IsOutOfLimits, TableFaults.count_items, TableFaults.IsKeyFault, TableFaults.IsTableFault, declared.fault.EntryFault.EntryFault, declared.fault.EntryFault.TheVariants.MissingKey, declared.fault.EntryFault.TheVariants.WrongKind, declared.fault.EntryFault.TheVariants.OutOfLimit, declared.fault.Spot.Spot, declared.fault.TableFault.TableFault, declared.fault.TableFault.TheVariants.Entry, declared.fault.TableFault.TheVariants.Memory, declared.fault.TableKind.TableKind}
use Rattle.batch_reader.specs.declared.keys.ValueForm.TheVariants as form

-- a table that is refused as this, and only where this is wrong, has the fault
pub told_as : {Refused : Type 0} (Is : EntryFault → Type 0) (spot : Spot) (wrong : EntryFault) (fault : TableFault) → (Refused → Is wrong)
    → (fault ≢ Memory → Refused) → IsToldAs spot wrong fault → TellsAt spot Is fault
told_as Is spot wrong Memory stands refused told = tt
told_as Is spot wrong (Entry here what) stands refused told = (told.0, subst Is (sym told.1) (stands (refused (λ e. cc e))))

-- where one thing is so of a refusal and another, a third is
pub err_both : {T : Type 0} (r : Result T TableFault) (P Q R : TableFault → Type 0) → ((fault : TableFault) → P fault → Q fault → R fault) → IfErr r P → IfErr r Q → IfErr r R
err_both (Ok x) P Q R f p q = tt
err_both (Err y) P Q R f p q = f y p q

-- names

name_fault : (key : Bor (List ℕ)) (ms : Members) (found : Option Data) → get_member key.now ms ≡ found → ((name : List ℕ) → HasName key.now ms name → ⊥)
    → IsKeyFault (needed key.now form.Name) ms (missing_or_wrong key found)
name_fault key ms None missing none = (refl, refl, missing)
name_fault key ms (Some d) found none =
    (refl, record { here = d; found = found; fits = λ name h. none name (record { text = rw found h.text; valid = h.valid }) })

pub name_told : (key : Bor (List ℕ)) (ms : Members) (spot : Spot) (fault : TableFault) → (fault ≢ Memory → (name : List ℕ) → HasName key.now ms name → ⊥)
    → IsToldAs spot (missing_or_wrong key (get_member key.now ms)) fault → TellsAt spot (IsKeyFault (needed key.now form.Name) ms) fault
name_told key ms spot fault refused told = told_as (IsKeyFault (needed key.now form.Name) ms) spot _ fault (name_fault key ms (get_member key.now ms) refl) refused told

-- where the key is there it needn't be needed
pub optional_fault : (key : List ℕ) (ms : Members) → is_some (get_member key ms) ≡ true → (wrong : EntryFault) → IsKeyFault (needed key form.Name) ms wrong
    → IsKeyFault (optional key form.Name) ms wrong
optional_fault key ms some (MissingKey named) h = (h.0, sym (ap is_some h.2) ∙ some, h.2)
optional_fault key ms some wrong h = h

label_fault : (key : Bor (List ℕ)) (ms : Members) (found : Option Data) → get_member key.now ms ≡ found → ((name : List ℕ) → HasLabel key.now ms name → ⊥)
    → IsKeyFault (needed key.now form.FreeName) ms (missing_or_wrong key found)
label_fault key ms None missing none = (refl, refl, missing)
label_fault key ms (Some d) found none =
    (refl, record { here = d; found = found; fits = λ name text label. none name (record { text = rw found text; label = label }) })

pub label_told : (key : Bor (List ℕ)) (ms : Members) (spot : Spot) (fault : TableFault) → (fault ≢ Memory → (name : List ℕ) → HasLabel key.now ms name → ⊥)
    → IsToldAs spot (missing_or_wrong key (get_member key.now ms)) fault → TellsAt spot (IsKeyFault (needed key.now form.FreeName) ms) fault
label_told key ms spot fault refused told = told_as (IsKeyFault (needed key.now form.FreeName) ms) spot _ fault (label_fault key ms (get_member key.now ms) refl) refused told

name_or_fault : (key : Bor (List ℕ)) (ms : Members) (other : List ℕ) (found : Option Data) → get_member key.now ms ≡ found → ((name : List ℕ) → HasNameOr key.now ms other name → ⊥)
    → IsKeyFault (optional key.now form.Name) ms (WrongKind (Some key))
name_or_fault key ms other None missing none = absurd (none other (inr (missing, refl)))
name_or_fault key ms other (Some d) found none =
    (refl, record { here = d; found = found; fits = λ name h. none name (inl (record { text = rw found h.text; valid = h.valid })) })

pub name_or_told : (key : Bor (List ℕ)) (ms : Members) (other : List ℕ) (spot : Spot) (fault : TableFault) → (fault ≢ Memory → (name : List ℕ) → HasNameOr key.now ms other name → ⊥)
    → IsToldAs spot (WrongKind (Some key)) fault → TellsAt spot (IsKeyFault (optional key.now form.Name) ms) fault
name_or_told key ms other spot fault refused told =
    told_as (IsKeyFault (optional key.now form.Name) ms) spot _ fault (name_or_fault key ms other (get_member key.now ms) refl) refused told

optional_name_fault : (key : Bor (List ℕ)) (ms : Members) (found : Option Data) → get_member key.now ms ≡ found → ((name : Option (List ℕ)) → MayHaveName key.now ms name → ⊥)
    → IsKeyFault (optional key.now form.Name) ms (WrongKind (Some key))
optional_name_fault key ms None missing none = absurd (none None missing)
optional_name_fault key ms (Some d) found none =
    (refl, record { here = d; found = found; fits = λ name h. none (Some name) (record { text = rw found h.text; valid = h.valid }) })

pub optional_name_told : (key : Bor (List ℕ)) (ms : Members) (spot : Spot) (fault : TableFault) → (fault ≢ Memory → (name : Option (List ℕ)) → MayHaveName key.now ms name → ⊥)
    → IsToldAs spot (WrongKind (Some key)) fault → TellsAt spot (IsKeyFault (optional key.now form.Name) ms) fault
optional_name_told key ms spot fault refused told =
    told_as (IsKeyFault (optional key.now form.Name) ms) spot _ fault (optional_name_fault key ms (get_member key.now ms) refl) refused told

-- texts

text_fault-some : (key : Bor (List ℕ)) (ms : Members) (most : ℕ) (is_needed : Bool) (d : Data) (text : Option (List ℕ)) → get_member key.now ms ≡ Some d → as_str d ≡ text
    → ((bytes : List ℕ) → HasText key.now ms most bytes → ⊥)
    → IsKeyFault (record { word = key.now; form = form.Text most; is_needed = is_needed }) ms (kind_fault key text)
text_fault-some key ms most is_needed d None found none refused = (refl, record { here = d; found = found; fits = none })
text_fault-some key ms most is_needed d (Some text) found is_text refused =
    let long : length text ≤ most → ⊥ = λ short. refused text (record { found = rw found is_text; short = short }) in
    (refl, record { here = d; found = found; fits = record { text = text; found = is_text; fits = omega (arith, long) } })

text_fault : (key : Bor (List ℕ)) (ms : Members) (most : ℕ) (found : Option Data) → get_member key.now ms ≡ found → ((text : List ℕ) → HasText key.now ms most text → ⊥)
    → IsKeyFault (needed key.now (form.Text most)) ms (value_fault key as_str found)
text_fault key ms most None missing none = (refl, refl, missing)
text_fault key ms most (Some d) found none = text_fault-some key ms most true d (as_str d) found refl none

pub text_told : (key : Bor (List ℕ)) (ms : Members) (most : ℕ) (spot : Spot) (fault : TableFault) → (fault ≢ Memory → (text : List ℕ) → HasText key.now ms most text → ⊥)
    → IsToldAs spot (value_fault key as_str (get_member key.now ms)) fault → TellsAt spot (IsKeyFault (needed key.now (form.Text most)) ms) fault
text_told key ms most spot fault refused told = told_as (IsKeyFault (needed key.now (form.Text most)) ms) spot _ fault (text_fault key ms most (get_member key.now ms) refl) refused told

optional_text_fault : (key : Bor (List ℕ)) (ms : Members) (most : ℕ) (found : Option Data) → get_member key.now ms ≡ found → ((text : Option (List ℕ)) → MayHaveText key.now ms most text → ⊥)
    → IsKeyFault (optional key.now (form.Text most)) ms (value_fault key as_str found)
optional_text_fault key ms most None missing none = absurd (none None missing)
optional_text_fault key ms most (Some d) found none = text_fault-some key ms most false d (as_str d) found refl (λ text h. none (Some text) h)

pub optional_text_told : (key : Bor (List ℕ)) (ms : Members) (most : ℕ) (spot : Spot) (fault : TableFault)
    → (fault ≢ Memory → (text : Option (List ℕ)) → MayHaveText key.now ms most text → ⊥)
    → IsToldAs spot (value_fault key as_str (get_member key.now ms)) fault → TellsAt spot (IsKeyFault (optional key.now (form.Text most)) ms) fault
optional_text_told key ms most spot fault refused told =
    told_as (IsKeyFault (optional key.now (form.Text most)) ms) spot _ fault (optional_text_fault key ms most (get_member key.now ms) refl) refused told

-- numbers

number_fault-some : (key : Bor (List ℕ)) (ms : Members) (low high : ℕ) (d : Data) (z : Option ℤ) → get_member key.now ms ≡ Some d → as_integer d ≡ z
    → ((n : ℕ) → HasNumber key.now ms low high n → ⊥) → IsKeyFault (needed key.now (form.Number low high)) ms (kind_fault key z)
number_fault-some key ms low high d None found none refused = (refl, record { here = d; found = found; fits = none })
number_fault-some key ms low high d (Some z) found is_integer refused = (
  refl,
  record {
    here = d;
    found = found;
    fits = record {
      integer = z;
      found = is_integer;
      outside = λ n is at_least at_most. refused n (record { integer = rw (found, is_integer, is) refl; at_least = at_least; at_most = at_most });
    };
  },
)

number_fault : (key : Bor (List ℕ)) (ms : Members) (low high : ℕ) (found : Option Data) → get_member key.now ms ≡ found → ((n : ℕ) → HasNumber key.now ms low high n → ⊥)
    → IsKeyFault (needed key.now (form.Number low high)) ms (value_fault key as_integer found)
number_fault key ms low high None missing none = (refl, refl, missing)
number_fault key ms low high (Some d) found none = number_fault-some key ms low high d (as_integer d) found refl none

pub number_told : (key : Bor (List ℕ)) (ms : Members) (low high : ℕ) (spot : Spot) (fault : TableFault) → ((n : ℕ) → HasNumber key.now ms low high n → ⊥)
    → fault ≡ Entry spot (value_fault key as_integer (get_member key.now ms)) → TellsAt spot (IsKeyFault (needed key.now (form.Number low high)) ms) fault
number_told key ms low high spot fault none told = rw told (refl, number_fault key ms low high (get_member key.now ms) refl none)

-- of a number that isn't to be above another one
least_fault : (key : List ℕ) (ms : Members) (high : ℕ) (wrong : EntryFault) → IsKeyFault (needed key (form.Number 0 high)) ms wrong
    → IsKeyFault (needed key (form.Least high)) ms wrong
least_fault key ms high (MissingKey named) h = h
least_fault key ms high (WrongKind named) h = h
least_fault key ms high (OutOfLimit named) h = (h.0, record { here = h.1.here; found = h.1.found; fits = inl h.1.fits })
least_fault key ms high wrong h = absurd assumption

pub least_told : (key : Bor (List ℕ)) (ms : Members) (high : ℕ) (spot : Spot) (fault : TableFault) → ((n : ℕ) → HasNumber key.now ms 0 high n → ⊥)
    → fault ≡ Entry spot (value_fault key as_integer (get_member key.now ms)) → TellsAt spot (IsKeyFault (needed key.now (form.Least high)) ms) fault
least_told key ms high spot fault none told =
    rw told (refl, least_fault key.now ms high _ (number_fault key ms 0 high (get_member key.now ms) refl none))

above_fault-found : (key : List ℕ) (ms : Members) (high least greatest : ℕ) (found : Option Data) → get_member key ms ≡ found → HasNumber key ms 0 high least
    → HasNumber (codes "max") ms 0 high greatest → greatest < least → HasValue (IsOutOfLimits (form.Least high) ms) key ms
above_fault-found key ms high least greatest None missing h k above = let none = rw missing at h.integer in absurd (cc none)
above_fault-found key ms high least greatest (Some d) found h k above =
    record {
      here = d;
      found = found;
      fits = inr (record {
        number = least;
        found = rw found at h.integer;
        other = greatest;
        found_other = k.integer;
        above = above;
      });
    }

pub above_fault : (key : List ℕ) (ms : Members) (high least greatest : ℕ) → HasNumber key ms 0 high least
    → HasNumber (codes "max") ms 0 high greatest → greatest < least → HasValue (IsOutOfLimits (form.Least high) ms) key ms
above_fault key ms high least greatest h k above = above_fault-found key ms high least greatest (get_member key ms) refl h k above

-- truth values

truth_fault-some : (key : Bor (List ℕ)) (ms : Members) (d : Data) (b : Option Bool) → get_member key.now ms ≡ Some d → as_bool d ≡ b
    → ((truth : Bool) → IsTruth key.now ms truth → ⊥) → IsKeyFault (optional key.now form.Truth) ms (WrongKind (Some key))
truth_fault-some key ms d None found none refused = (refl, record { here = d; found = found; fits = none })
truth_fault-some key ms d (Some b) found is_truth refused = absurd (refused b (rw found is_truth))

truth_fault : (key : Bor (List ℕ)) (ms : Members) (found : Option Data) → get_member key.now ms ≡ found → ((truth : Bool) → IsTruth key.now ms truth → ⊥)
    → IsKeyFault (optional key.now form.Truth) ms (WrongKind (Some key))
truth_fault key ms None missing none = absurd (none false (rw missing refl))
truth_fault key ms (Some d) found none = truth_fault-some key ms d (as_bool d) found refl none

pub truth_told : (key : Bor (List ℕ)) (ms : Members) (spot : Spot) (fault : TableFault) → ((truth : Bool) → IsTruth key.now ms truth → ⊥)
    → fault ≡ Entry spot (WrongKind (Some key)) → TellsAt spot (IsKeyFault (optional key.now form.Truth) ms) fault
truth_told key ms spot fault none told = rw told (refl, truth_fault key ms (get_member key.now ms) refl none)

-- lists of names

pub count_of_names : {X : Type 0} (R : Data → X → Type 0) (items : Items) (xs : List X) → AllItems R items xs → count_items items ≡ length xs
count_of_names R no_items [] h = refl
count_of_names R no_items (x ∷ xs) h = absurd h
count_of_names R (item d ds) [] h = absurd h
count_of_names R (item d ds) (x ∷ xs) h = omega (arith, count_of_names R ds xs h.1)

names_fault-some : (key : Bor (List ℕ)) (ms : Members) (least most : ℕ) (d : Data) (list : Option Items) → get_member key.now ms ≡ Some d → as_array d ≡ list
    → ((names : List (List ℕ)) → HasNames key.now ms names → ⊥) → IsKeyFault (needed key.now (form.Names least most)) ms (WrongKind (Some key))
names_fault-some key ms least most d None found none refused = (refl, record { here = d; found = found; fits = rw none tt })
names_fault-some key ms least most d (Some items) found is_list refused =
    (refl, record { here = d; found = found; fits = rw is_list (λ names listed. refused names (record { items = items; found = rw found is_list; listed = listed })) })

names_fault : (key : Bor (List ℕ)) (ms : Members) (least most : ℕ) (found : Option Data) → get_member key.now ms ≡ found → ((names : List (List ℕ)) → HasNames key.now ms names → ⊥)
    → IsKeyFault (needed key.now (form.Names least most)) ms (missing_or_wrong key found)
names_fault key ms least most None missing none = (refl, refl, missing)
names_fault key ms least most (Some d) found none = names_fault-some key ms least most d (as_array d) found refl none

pub names_told : (key : Bor (List ℕ)) (ms : Members) (least most : ℕ) (spot : Spot) (fault : TableFault)
    → (fault ≢ Memory → (names : List (List ℕ)) → HasNames key.now ms names → ⊥)
    → IsToldAs spot (missing_or_wrong key (get_member key.now ms)) fault → TellsAt spot (IsKeyFault (needed key.now (form.Names least most)) ms) fault
names_told key ms least most spot fault refused told =
    told_as (IsKeyFault (needed key.now (form.Names least most)) ms) spot _ fault (names_fault key ms least most (get_member key.now ms) refl) refused told

count_fault-found : (key : List ℕ) (ms : Members) (least most : ℕ) (names : List (List ℕ)) (found : Option Data) → get_member key ms ≡ found → HasNames key ms names
    → (least ≤ length names → length names ≤ most → ⊥) → HasValue (IsOutOfLimits (form.Names least most) ms) key ms
count_fault-found key ms least most names None missing h outside = let none = rw missing at h.found in absurd (cc none)
count_fault-found key ms least most names (Some d) found h outside =
    let count = count_of_names IsNameItem h.items names h.listed in
    record { here = d; found = found; fits = record { items = h.items; found = rw found at h.found; fits = λ at_least at_most. outside (rw count at at_least) (rw count at at_most) } }

pub count_fault : (key : List ℕ) (ms : Members) (least most : ℕ) (names : List (List ℕ)) → HasNames key ms names
    → (least ≤ length names → length names ≤ most → ⊥) → HasValue (IsOutOfLimits (form.Names least most) ms) key ms
count_fault key ms least most names h outside = count_fault-found key ms least most names (get_member key ms) refl h outside

few_fault-test : (key : Bor (List ℕ)) (ms : Members) (most : ℕ) (d : Data) (items : Items) (b : Bool) → get_member key.now ms ≡ Some d → as_array d ≡ Some items
    → nat_lt most (count_items items) ≡ b → ((names : List (List ℕ)) → HasFewNames key.now ms most names → ⊥)
    → IsKeyFault (optional key.now (form.Names 0 most)) ms (if b then OutOfLimit (Some key) else WrongKind (Some key))
few_fault-test key ms most d items true found is_list many refused =
    let above : most < count_items items = grind (arith, nat_tests, many) in
    (refl, record { here = d; found = found; fits = record { items = items; found = is_list; fits = λ at_least at_most. omega (arith, above, at_most) } })
few_fault-test key ms most d items false found is_list few refused =
    let within : count_items items ≤ most = grind (arith, nat_tests, few) in (
      refl,
      record {
        here = d;
        found = found;
        fits = rw is_list (λ names listed. refused names (record {
          items = items;
          found = rw found is_list;
          listed = listed;
          few = omega (arith, within, count_of_names IsNameItem items names listed);
        }));
      },
    )

few_fault-list : (key : Bor (List ℕ)) (ms : Members) (most : ℕ) (d : Data) (list : Option Items) → get_member key.now ms ≡ Some d → as_array d ≡ list
    → ((names : List (List ℕ)) → HasFewNames key.now ms most names → ⊥) → IsKeyFault (optional key.now (form.Names 0 most)) ms (few_names_fault key most list)
few_fault-list key ms most d None found none refused = (refl, record { here = d; found = found; fits = rw none tt })
few_fault-list key ms most d (Some items) found is_list refused = few_fault-test key ms most d items (nat_lt most (count_items items)) found is_list refl refused

few_fault : (key : Bor (List ℕ)) (ms : Members) (most : ℕ) (found : Option Data) → get_member key.now ms ≡ found → ((names : List (List ℕ)) → HasFewNames key.now ms most names → ⊥)
    → IsKeyFault (optional key.now (form.Names 0 most)) ms (few_names_fault key most (option_map_or as_array found (Some no_items)))
few_fault key ms most None missing none = absurd (none [] (record { items = no_items; found = rw missing refl; listed = tt; few = omega arith }))
few_fault key ms most (Some d) found none = few_fault-list key ms most d (as_array d) found refl none

pub few_told : (key : Bor (List ℕ)) (ms : Members) (most : ℕ) (spot : Spot) (fault : TableFault) → (fault ≢ Memory → (names : List (List ℕ)) → HasFewNames key.now ms most names → ⊥)
    → IsToldAs spot (few_names_fault key most (items_at key.now ms)) fault → TellsAt spot (IsKeyFault (optional key.now (form.Names 0 most)) ms) fault
few_told key ms most spot fault refused told =
    told_as (IsKeyFault (optional key.now (form.Names 0 most)) ms) spot _ fault (few_fault key ms most (get_member key.now ms) refl) refused told

-- ---- from an entry to its table

-- the key is one of those of tables of the kind
pub table_fault : (kind : TableKind) (ms : Members) (place : ℕ) (key : Key) → slice_get (keys_of kind) place ≡ Some key → may_stand kind key.word ms ≡ true
    → (wrong : EntryFault) → IsKeyFault key ms wrong → IsTableFault kind ms wrong
table_fault kind ms place key listed stands wrong h = inr (record { place = place; key = key; listed = listed; stands = stands; fault = h })

pub table_told : (kind : TableKind) (ms : Members) (place : ℕ) (key : Key) → slice_get (keys_of kind) place ≡ Some key → may_stand kind key.word ms ≡ true
    → (spot : Spot) (fault : TableFault) → TellsAt spot (IsKeyFault key ms) fault → TellsAt spot (IsTableFault kind ms) fault
table_told kind ms place key listed stands spot Memory told = tt
table_told kind ms place key listed stands spot (Entry here wrong) told = (told.0, table_fault kind ms place key listed stands wrong told.1)
