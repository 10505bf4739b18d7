-- The rows of the kept state are those of the record's state.
use Rattle.std.proofs.Common.{◌≡◌, ℕ, Bool, true, false, List, [], ◌∷◌, map, option_map, refl, ap, ◌∙◌}
use Rattle.std.{proofs.lemmas.Map.Made.lookup-map_values, specs.BTreeMap.get, specs.List.Sorted.IsSorted, specs.List.Sorted.IsStrictlySortedBy, specs.Map.keys_of, specs.Ordering.is_eq, specs.Ordering.nat_cmp}
use Rattle.batch_recipe.specs.Conditions.{Name, same_name}
use Rattle.batch_model.specs.Plant.{BatchAct}
use Rattle.batch_record.specs.{Kept.Keeps, Kept.kept_claims, Kept.entry_row, Kept.listed_of, Kept.lives_of, Kept.listed_rows, Kept.kept_share, Kept.shares_of_resource, Listing.AreRowsOf, Listing.Rows, Listing.holder_cmp, Listing.live_cmp, Listing.of_act, Listing.on_unit, Listing.shares_in, Listing.waiter_cmp, Telling.Tale, declared.batches.Batch.Batch, declared.batches.Batches.Batches, declared.standing.Kept.Kept, declared.status.Status.Status}

module _ (r : Name) where
  in_more : (x : Kept) (xs : List Kept) (b : Bool) → same_name r x.resource ≡ b → shares_in r (kept_claims xs) ≡ shares_of_resource r xs
      → shares_in r (kept_claims (x ∷ xs)) ≡ shares_of_resource r (x ∷ xs)
  in_more x xs true e h = rw e (ap (λ ss. kept_share x ∷ ss) h)
  in_more x xs false e h = rw e h

  claims-in : (xs : List Kept) → shares_in r (kept_claims xs) ≡ shares_of_resource r xs
  claims-in [] = refl
  claims-in (x ∷ xs) = in_more x xs (same_name r x.resource) refl (claims-in xs)

pub keys-kept : (es : List (ℕ × Batch)) → keys_of (map entry_row es) ≡ keys_of es
keys-kept [] = refl
keys-kept (e ∷ es) = ap (λ ks. e.0 ∷ ks) (keys-kept es)

abbrev pub rows_kept : Status → Rows
rows_kept status = record {
  batches = listed_rows status.batches;
  holders = kept_claims status.holders.shares.items;
  waiters = kept_claims status.waiters.shares.items;
  live = lives_of status.live.phases.items;
}

-- the kept state was put in order
pub record IsInOrder (old new : Status) : Type 0 where
  pub batches_stay : new.batches ≡ old.batches
  pub batches_rise : IsStrictlySortedBy nat_cmp (keys_of (listed_rows new.batches))
  pub holders_rise : IsSorted holder_cmp (kept_claims new.holders.shares.items)
  pub holders : (resource : Name) (act : BatchAct) → of_act act (shares_of_resource resource new.holders.shares.items) ≡ of_act act (shares_of_resource resource old.holders.shares.items)
  pub waiters_rise : IsSorted waiter_cmp (kept_claims new.waiters.shares.items)
  pub waiters : (resource : Name) → shares_of_resource resource new.waiters.shares.items ≡ shares_of_resource resource old.waiters.shares.items
  pub live_rise : IsSorted live_cmp (lives_of new.live.phases.items)
  pub live : (unit name : Name) → on_unit unit name (lives_of new.live.phases.items) ≡ on_unit unit name (lives_of old.live.phases.items)

pub rows-kept : (old new : Status) (tale : Tale) → IsInOrder old new → Keeps old tale → AreRowsOf tale (rows_kept new)
rows-kept old new tale order h = record {
  batches_rise = order.batches_rise;
  batches = λ n. lookup-map_values listed_of (λ other. is_eq (nat_cmp n other)) new.batches.listed.entries
      ∙ ap (λ (b : Batches). option_map listed_of (get nat_cmp b.listed n)) order.batches_stay ∙ h.batches n;
  holders_rise = order.holders_rise;
  holders = λ r act. ap (of_act act) (claims-in r new.holders.shares.items) ∙ order.holders r act ∙ ap (of_act act) (h.holders r);
  waiters_rise = order.waiters_rise;
  waiters = λ r. claims-in r new.waiters.shares.items ∙ order.waiters r ∙ h.waiters r;
  live_rise = order.live_rise;
  live = λ u n. order.live u n ∙ ap (on_unit u n) h.live;
}
