-- A fault that is reported of a need is there.
use Rattle.std.proofs.Common.{◌≡◌, ℕ, ◌<◌, ◌∙◌, List, length, length-take-le, get_or, take, Option, Some, None, refl, sym, arith}
use Rattle.std.specs.{Borrow.Bor, Option.option_map_or}
use Rattle.toml.specs.{Data.Data, Data.no_items, Data.Members, Data.get_member, Data.as_array, View.view, View.items_view, declared.value.Value.Value}
use Rattle.batch_recipe.specs.declared.need.Need.{Need}
use Rattle.batch_reader.{proofs.Items.AllItems_before, proofs.Items.get_item-view, proofs.OneEntry.AllItems_length, proofs.OneEntry.count_items-view, specs.Entries.AllItems, specs.Entries.IsNeedItem, specs.Entries.items_at, specs.Faults.IsNeedFault, specs.Faults.IsNeedsFault, specs.Faults.TellsAt, specs.Keys.optional, specs.TableFaults.IsFirstNoNeed, specs.TableFaults.IsKeyFault, specs.TableFaults.IsNeedOutOfLimits, specs.TableFaults.IsNoNeed, specs.declared.fault.EntryFault.EntryFault, specs.declared.fault.EntryFault.TheVariants.NoNeed, specs.declared.fault.EntryFault.TheVariants.OutOfLimit, specs.declared.fault.EntryFault.TheVariants.NeedOutOfLimit, specs.declared.fault.Spot.Spot, specs.declared.fault.TableFault.TableFault, specs.declared.fault.TableFault.TheVariants.Entry, specs.declared.fault.TableFault.TheVariants.Memory}
use Rattle.batch_reader.specs.declared.keys.ValueForm.TheVariants as form

pub tells_at : (P Q : EntryFault → Type 0) → ((wrong : EntryFault) → P wrong → Q wrong) → (spot : Spot) (fault : TableFault) → TellsAt spot P fault → TellsAt spot Q fault
tells_at P Q f spot Memory told = tt
tells_at P Q f spot (Entry here wrong) told = (told.0, f wrong told.1)

-- of the item that a loop has come to, which has the number of needs so far
module _ (vs : List Value) (needs : List Need) (i : ℕ) (d v : Value) (number : ℕ) (same : v ≡ get_or vs i d) (below : i < length vs)
    (so_far : AllItems IsNeedItem (items_view (take i vs)) needs) (count : number ≡ length needs) where
  first_no_need : (Is : Data → Type 0) (told : ℕ) → (told ≡ number) × Is (view v) → IsFirstNoNeed Is (items_view vs) told
  first_no_need Is told h =
      let place : told ≡ i = h.0 ∙ count ∙ sym (AllItems_length IsNeedItem (take i vs) needs so_far) ∙ length-take-le i vs (omega (arith, below)) in
      rw place (record { here = view v; found = rw same (get_item-view vs i d below); fits = h.1; before = AllItems_before IsNeedItem vs needs i so_far })

  pub list_of_item : (wrong : EntryFault) → IsNeedFault number (view v) wrong → IsNeedsFault (items_view vs) wrong
  list_of_item (NoNeed told) h = first_no_need IsNoNeed told h
  list_of_item (NeedOutOfLimit told) h = first_no_need IsNeedOutOfLimits told h
  list_of_item wrong h = absurd h

-- there are too many items
too_many-found : (key : Bor (List ℕ)) (ms : Members) (most : ℕ) (vs : List Value) (found : Option Data) → get_member key.now ms ≡ found → option_map_or as_array found (Some no_items) ≡ Some (items_view vs)
    → most < length vs → IsKeyFault (optional key.now (form.Needs most)) ms (OutOfLimit (Some key))
too_many-found key ms most vs None missing listed many =
    let none : items_view vs ≡ no_items = cc listed in
    let count = count_items-view vs in
    absurd (let empty = rw none at count in omega (arith, empty, many))
too_many-found key ms most vs (Some d) found listed many =
    (refl, record { here = d; found = found; fits = record { items = items_view vs; found = listed; fits = rw (count_items-view vs) many } })

pub too_many_needs : (key : Bor (List ℕ)) (ms : Members) (most : ℕ) (vs : List Value) → items_at key.now ms ≡ Some (items_view vs) → most < length vs
    → IsKeyFault (optional key.now (form.Needs most)) ms (OutOfLimit (Some key))
too_many_needs key ms most vs listed many = too_many-found key ms most vs (get_member key.now ms) refl listed many
