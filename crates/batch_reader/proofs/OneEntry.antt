-- An entry of a table says one thing at most.
use Rattle.std.proofs.Common.{◌≡◌, ℕ, ◌<◌, ◌≤◌, true, List, [], ◌∷◌, length, Option, Some, None, refl, ap₂, arith, nat_le, position}
use Rattle.std.{proofs.lemmas.List.map-id, proofs.lemmas.Bool.Decides.nat_tests, specs.Borrow.Bor, specs.Option.option_and_then}
use Rattle.toml.specs.{Data.Data, Data.Items, Data.Members, Data.get_member, Data.as_str, Data.as_table, View.items_view, declared.value.Value.Value}
use Rattle.batch_recipe.specs.{Diagram.Diagram, declared.need.Need.Need, Needs.have_units, declared.need.TheConstants.MAX_NEED_UNITS}
use Rattle.batch_reader.{proofs.ChartReader.at_most_one, specs.ChartGrammar.IsChart, proofs.Items.AllItems_same, specs.Entries.AllItems, specs.Entries.IsNameItem, specs.Entries.HasLabel, specs.Entries.HasName, specs.Entries.HasNameOr, specs.Entries.HasChart, specs.Entries.HasFew, specs.Entries.HasFewNames, specs.Entries.HasFewNeeds, specs.Entries.IsNeedItem, specs.Entries.HasTable, specs.Entries.items_at, specs.Faults.few_names_fault, specs.TableFaults.count_items, specs.declared.fault.EntryFault.TheVariants.OutOfLimit, specs.declared.fault.EntryFault.TheVariants.WrongKind, specs.NeedText.IsNeedCut, specs.NeedText.is_star}

-- a list has as many items as it says names
pub AllItems_length : {X : Type 0} (R : Data → X → Type 0) (vs : List Value) (xs : List X) → AllItems R (items_view vs) xs → length vs ≡ length xs
AllItems_length R (v ∷ vs) (x ∷ xs) h = omega (arith, AllItems_length R vs xs h.1)
AllItems_length R vs xs h = grind arith

few_items : {X : Type 0} (R : Data → X → Type 0) (key : List ℕ) (ms : Members) (vs : List Value) (most : ℕ) (xs : List X) → items_at key ms ≡ Some (items_view vs)
    → length vs ≤ most → AllItems R (items_view vs) xs → HasFew R key ms most xs
few_items R key ms vs most xs found short listed =
    record { items = items_view vs; found = found; listed = listed; few = omega (arith, AllItems_length R vs xs listed) }

pub few_refused : {X : Type 0} (R : Data → X → Type 0) (key : List ℕ) (ms : Members) (vs : List Value) (most : ℕ) → items_at key ms ≡ Some (items_view vs)
    → most < length vs → (xs : List X) → HasFew R key ms most xs → ⊥
few_refused R key ms vs most found many xs h = grind (arith, AllItems_length)

pub few_names : (key : List ℕ) (ms : Members) (vs : List Value) (most : ℕ) (names : List (List ℕ)) → items_at key ms ≡ Some (items_view vs)
    → length vs ≤ most → AllItems IsNameItem (items_view vs) names → HasFewNames key ms most names
few_names = few_items IsNameItem

pub few_needs : (key : List ℕ) (ms : Members) (vs : List Value) (most : ℕ) (needs : List Need) → items_at key ms ≡ Some (items_view vs)
    → length vs ≤ most → AllItems IsNeedItem (items_view vs) needs → HasFewNeeds key ms most needs
few_needs = few_items IsNeedItem

pub count_items-view : (vs : List Value) → count_items (items_view vs) ≡ length vs
count_items-view [] = refl
count_items-view (v ∷ vs) = omega (arith, count_items-view vs)

-- the fault of a list of names, by its length
pub few_names_fault-long : (key : Bor (List ℕ)) (most : ℕ) (found : Option Items) (vs : List Value) → found ≡ Some (items_view vs) → most < length vs → OutOfLimit (Some key) ≡ few_names_fault key most found
few_names_fault-long key most found vs is_list many = grind (arith, count_items-view vs, nat_tests)

pub few_names_fault-short : (key : Bor (List ℕ)) (most : ℕ) (found : Option Items) (vs : List Value) → found ≡ Some (items_view vs) → length vs ≤ most → few_names_fault key most found ≡ WrongKind (Some key)
few_names_fault-short key most found vs is_list few = grind (arith, count_items-view vs, nat_tests)

-- where a text is one of no chart, a table with it has none
pub chart_refused : (key : List ℕ) (ms : Members) (text : List ℕ) → option_and_then as_str (get_member key ms) ≡ Some text
    → ((chart : Diagram) → IsChart text chart → ⊥) → (chart : Diagram) → HasChart key ms chart → ⊥
chart_refused key ms text found none chart h =
    let same : h.text ≡ text = cc (h.found.found, found) in
    none chart (rw same at h.is_chart)

same_need : (m n : Need) → m.resource ≡ n.resource → m.units ≡ n.units → m ≡ n
same_need m n resource units = ap₂ (λ r u. let x : Need = record { resource = r; units = u } in x) resource units

-- each entry says one thing at most
pub HasName_unique : (key : List ℕ) (ms : Members) (m n : List ℕ) → HasName key ms m → HasName key ms n → m ≡ n
HasName_unique key ms m n h k = cc (h.text, k.text)

pub HasLabel_unique : (key : List ℕ) (ms : Members) (m n : List ℕ) → HasLabel key ms m → HasLabel key ms n → m ≡ n
HasLabel_unique key ms m n h k = cc (h.text, k.text)

-- a key that is missing has no name
pub HasName_missing : (key : List ℕ) (ms : Members) (name : List ℕ) → get_member key ms ≡ None → HasName key ms name → ⊥
HasName_missing key ms name missing h = let found = rw missing at h.text in cc found

pub HasNameOr_unique : (key : List ℕ) (ms : Members) (other m n : List ℕ) → HasNameOr key ms other m → HasNameOr key ms other n → m ≡ n
HasNameOr_unique key ms other m n h e = grind (arith, HasName_unique)

pub HasChart_unique : (key : List ℕ) (ms : Members) (a b : Diagram) → HasChart key ms a → HasChart key ms b → a ≡ b
HasChart_unique key ms a b h k =
    let same : h.text ≡ k.text = cc (h.found.found, k.found.found) in
    at_most_one k.text a b (rw same at h.is_chart) k.is_chart

pub IsNameItem_unique : (d : Data) (m n : List ℕ) → IsNameItem d m → IsNameItem d n → m ≡ n
IsNameItem_unique d m n h k = cc (h.text, k.text)

HasFew_unique : {X : Type 0} (R : Data → X → Type 0) → ((d : Data) (x y : X) → R d x → R d y → x ≡ y)
    → (key : List ℕ) (ms : Members) (most : ℕ) (xs ys : List X) → HasFew R key ms most xs → HasFew R key ms most ys → xs ≡ ys
HasFew_unique R one key ms most xs ys h k = grind (arith, map-id xs, map-id ys, AllItems_same)

pub HasFewNames_unique : (key : List ℕ) (ms : Members) (most : ℕ) (xs ys : List (List ℕ)) → HasFewNames key ms most xs → HasFewNames key ms most ys → xs ≡ ys
HasFewNames_unique = HasFew_unique IsNameItem IsNameItem_unique

-- a text says one need at most
cut_unique : (star : Option ℕ) (text : List ℕ) (m n : Need) → IsNeedCut star text m → IsNeedCut star text n → m ≡ n
cut_unique star text m n h k = grind (arith, same_need)

IsNeedItem_unique : (d : Data) (m n : Need) → IsNeedItem d m → IsNeedItem d n → m ≡ n
IsNeedItem_unique d m n h k = grind (arith, cut_unique)

pub HasFewNeeds_unique : (key : List ℕ) (ms : Members) (most : ℕ) (xs ys : List Need) → HasFewNeeds key ms most xs → HasFewNeeds key ms most ys → xs ≡ ys
HasFewNeeds_unique = HasFew_unique IsNeedItem IsNeedItem_unique

-- needs that texts say have units
units_of_cut : (star : Option ℕ) (text : List ℕ) (need : Need) → IsNeedCut star text need → (1 ≤ need.units) × (need.units ≤ MAX_NEED_UNITS)
units_of_cut star text need h = grind arith

pub needs_have_units : (vs : List Value) (needs : List Need) → AllItems IsNeedItem (items_view vs) needs → have_units needs ≡ true
needs_have_units (v ∷ vs) (need ∷ needs) h =
    let units = units_of_cut (position is_star h.0.text) h.0.text need h.0.says in
    let some : nat_le 1 need.units ≡ true = grind (arith, nat_tests, units.0) in
    let few : nat_le need.units MAX_NEED_UNITS ≡ true = grind (arith, nat_tests, units.1) in
    rw (some, few) (needs_have_units vs needs h.1)
needs_have_units vs needs h = grind arith

-- where the table at a key stands for nothing
pub HasTable_refused : {X : Type 0} (R : Members → X → Type 0) (key : List ℕ) (ms inner : Members) → option_and_then as_table (get_member key ms) ≡ Some inner
    → ((x : X) → R inner x → ⊥) → (x : X) → HasTable R key ms x → ⊥
HasTable_refused R key ms inner found none x h = grind arith
