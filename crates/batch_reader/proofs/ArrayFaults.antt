-- A fault that is reported of a table of a document is there.
use Rattle.std.proofs.Common.{◌≡◌, ℕ, ◌<◌, ◌∙◌, Bool, true, List, length, get_or, Option, Some, None, refl, sym, ap, subst}
use Rattle.toml.specs.{Data.Data, Data.Items, Data.Members, Data.as_table, Data.get_item, View.view, View.items_view, declared.value.Value.Value}
use Rattle.batch_reader.{proofs.Items.get_item-view, specs.Faults.IsAmong, specs.Faults.Tells, specs.Faults.TellsAt, specs.Faults.TellsIn, specs.TableFaults.IsArrayFault, specs.declared.fault.EntryFault.EntryFault, specs.declared.fault.EntryFault.TheVariants.WrongKind, specs.declared.fault.Spot.Spot, specs.declared.fault.TableFault.TableFault, specs.declared.fault.TableFault.TheVariants.Entry, specs.declared.fault.TableFault.TheVariants.Memory, specs.declared.fault.TableKind.TableKind}

-- the item that a loop has come to is no table
pub array_no_table : (IsRight : Data → Type 0) (IsFault : Members → EntryFault → Type 0) (list : Option Items) (vs : List Value) (i : ℕ) (d : Value)
    → list ≡ Some (items_view vs) → i < length vs → None ≡ as_table (view (get_or vs i d))
    → ((n : ℕ) (e : Data) → n < i → get_item n (items_view vs) ≡ Some e → IsRight e) → IsArrayFault IsRight IsFault list i (WrongKind None)
array_no_table IsRight IsFault list vs i d found below none before =
    rw found (record { here = view (get_or vs i d); found = get_item-view vs i d below; fault = rw (← none) refl; before = before })

-- the table that a loop has come to is refused
pub array_table : (IsRight : Data → Type 0) (IsFault : Members → EntryFault → Type 0) (list : Option Items) (vs : List Value) (kind : TableKind) (i : ℕ) (d : Value)
    (table : Members) → list ≡ Some (items_view vs) → i < length vs → Some table ≡ as_table (view (get_or vs i d))
    → ((n : ℕ) (e : Data) → n < i → get_item n (items_view vs) ≡ Some e → IsRight e)
    → (fault : TableFault) → TellsAt (record { kind = kind; entry = i }) (IsFault table) fault → TellsIn kind (IsArrayFault IsRight IsFault list) fault
array_table IsRight IsFault list vs kind i d table found below is_table before Memory told = tt
array_table IsRight IsFault list vs kind i d table found below is_table before (Entry here wrong) told =
    let place : here.entry ≡ i = ap (λ (s : Spot). s.entry) told.0 in (
      ap (λ (s : Spot). s.kind) told.0,
      rw (found, place) (record { here = view (get_or vs i d); found = get_item-view vs i d below; fault = rw (← is_table) told.1; before = before }),
    )

-- a fault of one table is a fault of a document
pub at_told : (spot : Spot) (P : EntryFault → Type 0) (Q : Spot → EntryFault → Type 0) → ((wrong : EntryFault) → P wrong → Q spot wrong)
    → (fault : TableFault) → TellsAt spot P fault → Tells Q fault
at_told spot P Q f Memory told = tt
at_told spot P Q f (Entry here wrong) told = subst (λ s. Q s wrong) (sym told.0) (f wrong told.1)

pub tells_weaker : (P Q : Spot → EntryFault → Type 0) → ((spot : Spot) (wrong : EntryFault) → P spot wrong → Q spot wrong) → (fault : TableFault) → Tells P fault → Tells Q fault
tells_weaker P Q f Memory told = tt
tells_weaker P Q f (Entry here wrong) told = f here wrong told

-- a fault of the tables of one kind is a fault of a document, at a table of that kind
pub in_told : (kind : TableKind) (P : ℕ → EntryFault → Type 0) (Q : Spot → EntryFault → Type 0)
    → ((entry : ℕ) (wrong : EntryFault) → P entry wrong → Q (record { kind = kind; entry = entry }) wrong) → (fault : TableFault) → TellsIn kind P fault → Tells Q fault
in_told kind P Q f Memory told = tt
in_told kind P Q f (Entry here wrong) told = subst (λ k. Q (record { kind = k; entry = here.entry }) wrong) (sym told.0) (f here.entry wrong told.1)

pub in_among : (kinds : TableKind → Bool) (kind : TableKind) (P : ℕ → EntryFault → Type 0) → kinds kind ≡ true → (fault : TableFault) → TellsIn kind P fault → IsAmong kinds fault
in_among kinds kind P is Memory told = tt
in_among kinds kind P is (Entry here wrong) told = ap kinds told.0 ∙ is

pub at_among : (kinds : TableKind → Bool) (spot : Spot) (P : EntryFault → Type 0) → kinds spot.kind ≡ true → (fault : TableFault) → TellsAt spot P fault → IsAmong kinds fault
at_among kinds spot P is Memory told = tt
at_among kinds spot P is (Entry here wrong) told = ap (λ (s : Spot). kinds s.kind) told.0 ∙ is
