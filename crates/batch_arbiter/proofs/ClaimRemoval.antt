-- The effect on a list when the first claim of an act leaves it.
use Rattle.std.proofs.Common.{ℕ, ◌≡◌, ◌≢◌, ◌+◌, ◌-◌, ◌<◌, List, [], length, get_or, refl, sym, ap, ◌∙◌, subst, arith, suc, set, map, false}
use Rattle.std.{specs.Prelude.slice_get, specs.Prelude.MatchOption, specs.List.remove, proofs.lemmas.List.length-set, proofs.lemmas.List.Sums.sum_by-remove}
use Rattle.batch_arbiter.{specs.declared.entry.Entry.Entry, specs.declared.ends.Ends.Ends, specs.Allocation.Claim, specs.Allocation.is_claim, specs.Allocation.held_units, specs.Allocation.without_first, specs.Linked.at, specs.Linked.ends_at, specs.Linked.entry_claim, specs.Linked.entry_claims, specs.Linked.free, specs.Linked.claim_in, specs.Linked.with_part, specs.Linked.LeadsThrough, specs.Linked.IsLinkedBy, specs.Linked.AreLinkedLists, specs.Linked.IsBefore, specs.Linked.behind, specs.Linked.unlinked_behind, proofs.EntryWrites.at-set_same, proofs.EntryWrites.at-set_other, proofs.EntryWrites.behind-within, proofs.PoolSteps.IsLinkedBy-step, proofs.PoolSteps.claims-step, proofs.EntryRemoval.left_ends, proofs.EntryRemoval.behind-suc, proofs.EntryRemoval.b_off_t, proofs.EntryRemoval.unlinked, proofs.EntryRemoval.claims-unlinked, proofs.EntryRemoval.behind-unlinked, proofs.Calls.list-seen, proofs.Positions.IsFirst, proofs.Positions.remove-IsFirst, proofs.ClaimSearch.claims-behind, proofs.ClaimSearch.IsFirst-before}

-- the first claim of the list isn't the act's
pub later-seen : (es : List Entry) (ls : List Ends) (k batch node : ℕ) → k < length ls → MatchOption (slice_get (get_or (map (entry_claims es) ls) k []) 0) ⊥ (λ c. is_claim batch node c ≡ false)
    → is_claim batch node (entry_claim (at es (ends_at ls k).first)) ≡ false
later-seen es ls k batch node known later = grind (arith, list-seen es ls k known)

-- the lists when list k has a claim less, and its first one still
abbrev pub with_one_less : List Ends → ℕ → List Ends
with_one_less ls k = set ls k (left_ends (ends_at ls k) (ends_at ls k).first ((ends_at ls k).len - 1))

-- the entries b and the one behind it, as they become
abbrev past : List Entry → ℕ → Entry
past es b = record (at es b) { next = (at es (at es b).next).next }

abbrev gone : List Entry → ℕ → ℕ → Entry
gone es b unused = record (at (set es b (past es b)) (at es b).next) { next = unused }

pub length-unlinked : (es : List Entry) (b unused : ℕ) → length (unlinked_behind es b unused) ≡ length es
length-unlinked es b unused = length-set (set es b (past es b)) (at es b).next (gone es b unused) ∙ length-set es b (past es b)

-- The claim behind entry b, which is m places behind the first, leaves list k
module _ (es : List Entry) (ls : List Ends) (k unused room m b : ℕ) (known : k < length ls) (linked : AreLinkedLists es ls unused room) (is : b ≡ behind es m (ends_at ls k).first) (within : suc m < (ends_at ls k).len) where
  own : LeadsThrough (claim_in k) linked.parts es (ends_at ls k).len (ends_at ls k).first (ends_at ls k).end
  own = (linked.by_parts.each k known).linked

  pub here-within : b < length es
  here-within =
      subst (λ (x : ℕ). x < length es) (sym is) (behind-within (claim_in k) linked.parts es m (ends_at ls k).len (ends_at ls k).first (ends_at ls k).end (omega (arith, within)) own).0

  pub next-is : (at es b).next ≡ behind es (suc m) (ends_at ls k).first
  next-is = ap (λ x. (at es x).next) is ∙ sym (behind-suc es m (ends_at ls k).first)

  pub next-within : (at es b).next < length es
  next-within =
      subst (λ (x : ℕ). x < length es) (sym next-is) (behind-within (claim_in k) linked.parts es (suc m) (ends_at ls k).len (ends_at ls k).first (ends_at ls k).end within own).0

  pub unlinks : AreLinkedLists (unlinked_behind es b unused) (with_one_less ls k) (at es b).next (room + 1)
      × (map (entry_claims (unlinked_behind es b unused)) (with_one_less ls k) ≡ set (map (entry_claims es) ls) k (remove (entry_claims es (ends_at ls k)) (suc m)))
      × (behind (unlinked_behind es b unused) m (ends_at ls k).first ≡ b)
      × ((at (unlinked_behind es b unused) (at es b).next).units ≡ (at es (at es b).next).units)
  unlinks =
      let more : (ends_at ls k).len ≡ suc ((ends_at ls k).len - 1) = omega (arith, within) in
      let lt : m < (ends_at ls k).len - 1 = omega (arith, within) in
      let plus : suc room ≡ room + 1 = omega arith in
      let apart : b ≢ (at es b).next = b_off_t linked.parts es ls k unused room ((ends_at ls k).len - 1) m b (at es b).next (past es b) (gone es b unused) known linked.by_parts more lt is next-is refl refl refl in
      let set_long : (at es b).next < length (set es b (past es b)) = omega (arith, next-within, length-set es b (past es b)) in (
        record {
          parts = with_part linked.parts (at es b).next free;
          by_parts = subst (λ (x : ℕ). IsLinkedBy (with_part linked.parts (at es b).next free) (unlinked_behind es b unused) (with_one_less ls k) (at es b).next x) plus
              (IsLinkedBy-step _ _ _ _ _ _ _ _ _ _ _ _ _ (unlinked linked.parts es ls k unused room ((ends_at ls k).len - 1) m b (at es b).next (past es b) (gone es b unused) known linked.by_parts more lt is next-is refl refl refl));
        },
        claims-step _ _ _ _ _ _ _ _ _ _ _ _ _ (unlinked linked.parts es ls k unused room ((ends_at ls k).len - 1) m b (at es b).next (past es b) (gone es b unused) known linked.by_parts more lt is next-is refl refl refl)
            ∙ ap (set (map (entry_claims es) ls) k) (claims-unlinked linked.parts es ls k unused room ((ends_at ls k).len - 1) m b (at es b).next (past es b) (gone es b unused) known linked.by_parts more lt is next-is refl refl refl),
        behind-unlinked linked.parts es ls k unused room ((ends_at ls k).len - 1) m b (at es b).next (past es b) (gone es b unused) known linked.by_parts more lt is next-is refl refl refl,
        ap (λ (e : Entry). e.units) (at-set_same (set es b (past es b)) (at es b).next (gone es b unused) set_long) ∙ ap (λ (e : Entry). e.units) (at-set_other es b (at es b).next (past es b) (λ q. apart (sym q))),
      )

-- the same if it is the act's
module _ (es : List Entry) (ls : List Ends) (k unused room batch node b : ℕ) (known : k < length ls) (linked : AreLinkedLists es ls unused room) (s : IsBefore es (ends_at ls k) batch node b) where
  first-of_act : IsFirst (is_claim batch node) (entry_claims es (ends_at ls k)) (suc s.place)
  first-of_act = IsFirst-before es (ends_at ls k) batch node b s

  pub unlinks-act : map (entry_claims (unlinked_behind es b unused)) (with_one_less ls k)
      ≡ set (map (entry_claims es) ls) k (without_first (is_claim batch node) (get_or (map (entry_claims es) ls) k []))
  unlinks-act =
      (unlinks es ls k unused room s.place b known linked s.is s.within).1
      ∙ ap (set (map (entry_claims es) ls) k) (remove-IsFirst (is_claim batch node) (entry_claims es (ends_at ls k)) (suc s.place) first-of_act ∙ ap (without_first (is_claim batch node)) (sym (list-seen es ls k known)))

  pub removed-units : held_units (get_or (map (entry_claims es) ls) k []) ≡ held_units (without_first (is_claim batch node) (get_or (map (entry_claims es) ls) k [])) + (at es (at es b).next).units
  removed-units =
      let d : Claim = entry_claim (at es b) in
      let is_t : (at es b).next ≡ behind es (suc s.place) (ends_at ls k).first = next-is es ls k unused room s.place b known linked s.is s.within in
      let units : (get_or (entry_claims es (ends_at ls k)) (suc s.place) d).units ≡ (at es (at es b).next).units =
      ap (λ (c : Claim). c.units) (claims-behind es (ends_at ls k).len (ends_at ls k).first (suc s.place) d s.within) ∙ ap (λ x. (at es x).units) (sym is_t) in
      let sum : held_units (remove (entry_claims es (ends_at ls k)) (suc s.place)) + (get_or (entry_claims es (ends_at ls k)) (suc s.place) d).units ≡ held_units (entry_claims es (ends_at ls k)) =
      sum_by-remove (λ (c : Claim). c.units) (entry_claims es (ends_at ls k)) (suc s.place) d first-of_act.within in
      ap held_units (list-seen es ls k known)
      ∙ sym sum
      ∙ ap (λ n. held_units (remove (entry_claims es (ends_at ls k)) (suc s.place)) + n) units
      ∙ ap (λ cs. held_units cs + (at es (at es b).next).units) (remove-IsFirst (is_claim batch node) (entry_claims es (ends_at ls k)) (suc s.place) first-of_act ∙ ap (without_first (is_claim batch node)) (sym (list-seen es ls k known)))
