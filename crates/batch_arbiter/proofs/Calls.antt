-- The effect of each call of the pool on its fields, and on the lists that are seen.
use Rattle.std.proofs.Common.{ℕ, ◌≡◌, ◌+◌, ◌-◌, ◌<◌, List, [], ◌∷◌, ◌++◌, length, get_or, drop, refl, sym, ap, ◌∙◌, subst, arith, suc, zero, set, map}
use Rattle.std.proofs.lemmas.List.{get_or-map, Sums.get_or-le-sum_by}
use Rattle.batch_arbiter.{specs.declared.entry.Entry.Entry, specs.declared.ends.Ends.Ends, specs.Linked.at, specs.Linked.no_list, specs.Linked.ends_at, specs.Linked.entry_claim, specs.Linked.claims_from, specs.Linked.entry_claims, specs.Linked.free, specs.Linked.claim_in, specs.Linked.with_part, specs.Linked.LeadsThrough, specs.Linked.IsLinkedBy, specs.Linked.AreLinkedLists, proofs.PoolSteps.joined_parts, proofs.PoolSteps.joined_ends, proofs.PoolSteps.joined, proofs.PoolSteps.claims-joined, proofs.PoolSteps.IsLinkedBy-step, proofs.PoolSteps.claims-step, proofs.EntryRemoval.left_ends, proofs.EntryRemoval.taken, proofs.EntryRemoval.claims-taken, proofs.EntryRemoval.claims-first}

-- the list that is seen at k
pub list-seen : (es : List Entry) (ls : List Ends) (k : ℕ) → k < length ls → get_or (map (entry_claims es) ls) k [] ≡ entry_claims es (ends_at ls k)
list-seen es ls k h = get_or-map (entry_claims es) ls k no_list [] h

pub length-claims : (es : List Entry) (n first : ℕ) → length (claims_from es n first) ≡ n
length-claims es zero first = refl
length-claims es (suc n) first = ap (λ k. suc k) (length-claims es n (at es first).next)

-- so many claims has the list at k
pub length-seen : (es : List Entry) (ls : List Ends) (k : ℕ) → k < length ls → length (get_or (map (entry_claims es) ls) k []) ≡ (ends_at ls k).len
length-seen es ls k h = ap length (list-seen es ls k h) ∙ length-claims es (ends_at ls k).len (ends_at ls k).first

-- one more still fits
pub len-fits : (es : List Entry) (ls : List Ends) (k unused room : ℕ) → k < length ls → AreLinkedLists es ls unused room → (ends_at ls k).len + room < length es
len-fits es ls k unused room h linked = omega (arith, get_or-le-sum_by (λ (l : Ends). l.len) ls k no_list h, linked.by_parts.total)

pub unused-within : (es : List Entry) (ls : List Ends) (unused room : ℕ) → 0 < room → AreLinkedLists es ls unused room → unused < length es
unused-within es ls unused room some linked = grind arith

pub joins : (es : List Entry) (ls : List Ends) (k unused room : ℕ) (e : Entry) → k < length ls → 0 < room → AreLinkedLists es ls unused room → e.next ≡ unused
    → AreLinkedLists (set es (ends_at ls k).end e) (set ls k (joined_ends (ends_at ls k) unused)) (at es unused).next (room - 1)
    × (map (entry_claims (set es (ends_at ls k).end e)) (set ls k (joined_ends (ends_at ls k) unused)) ≡ set (map (entry_claims es) ls) k (get_or (map (entry_claims es) ls) k [] ++ entry_claim e ∷ []))
joins es ls k unused room e known some linked next =
    let more : room ≡ suc (room - 1) = omega arith in
    let l : IsLinkedBy linked.parts es ls unused (suc (room - 1)) = subst (λ (x : ℕ). IsLinkedBy linked.parts es ls unused x) more linked.by_parts in (
      record { parts = joined_parts linked.parts k unused (ends_at ls k).end; by_parts = IsLinkedBy-step _ _ _ _ _ _ _ _ _ _ _ _ _ (joined linked.parts es ls k unused (room - 1) e known l next) },
      claims-step _ _ _ _ _ _ _ _ _ _ _ _ _ (joined linked.parts es ls k unused (room - 1) e known l next)
          ∙ ap (set (map (entry_claims es) ls) k) (claims-joined linked.parts es ls k unused (room - 1) e known l next ∙ ap (λ cs. cs ++ entry_claim e ∷ []) (sym (list-seen es ls k known))),
    )

pub first-within : (es : List Entry) (ls : List Ends) (k unused room : ℕ) → k < length ls → 0 < (ends_at ls k).len → AreLinkedLists es ls unused room → (ends_at ls k).first < length es
first-within es ls k unused room known some linked =
    let more : (ends_at ls k).len ≡ suc ((ends_at ls k).len - 1) = omega arith in
    let l : LeadsThrough (claim_in k) linked.parts es (suc ((ends_at ls k).len - 1)) (ends_at ls k).first (ends_at ls k).end = subst (λ (x : ℕ). LeadsThrough (claim_in k) linked.parts es x (ends_at ls k).first (ends_at ls k).end) more (linked.by_parts.each k known).linked in
    l.0

-- a list that has claims, by its first
pub first-seen : (es : List Entry) (ls : List Ends) (k unused room : ℕ) → k < length ls → 0 < (ends_at ls k).len → AreLinkedLists es ls unused room
    → get_or (map (entry_claims es) ls) k [] ≡ entry_claim (at es (ends_at ls k).first) ∷ drop 1 (get_or (map (entry_claims es) ls) k [])
first-seen es ls k unused room known some linked = grind (arith, list-seen es ls k known, claims-first)

pub leaves : (es : List Entry) (ls : List Ends) (k unused room : ℕ) (e : Entry) → k < length ls → 0 < (ends_at ls k).len → AreLinkedLists es ls unused room → e.next ≡ unused
    → AreLinkedLists (set es (ends_at ls k).first e) (set ls k (left_ends (ends_at ls k) (at es (ends_at ls k).first).next ((ends_at ls k).len - 1))) (ends_at ls k).first (room + 1)
    × (map (entry_claims (set es (ends_at ls k).first e)) (set ls k (left_ends (ends_at ls k) (at es (ends_at ls k).first).next ((ends_at ls k).len - 1))) ≡ set (map (entry_claims es) ls) k (drop 1 (get_or (map (entry_claims es) ls) k [])))
leaves es ls k unused room e known some linked next =
    let more : (ends_at ls k).len ≡ suc ((ends_at ls k).len - 1) = omega arith in
    let plus : suc room ≡ room + 1 = omega arith in (
      record {
        parts = with_part linked.parts (ends_at ls k).first free;
        by_parts = subst (λ (x : ℕ). IsLinkedBy (with_part linked.parts (ends_at ls k).first free) (set es (ends_at ls k).first e) (set ls k (left_ends (ends_at ls k) (at es (ends_at ls k).first).next ((ends_at ls k).len - 1))) (ends_at ls k).first x) plus
            (IsLinkedBy-step _ _ _ _ _ _ _ _ _ _ _ _ _ (taken linked.parts es ls k unused room ((ends_at ls k).len - 1) e known linked.by_parts more next));
      },
      claims-step _ _ _ _ _ _ _ _ _ _ _ _ _ (taken linked.parts es ls k unused room ((ends_at ls k).len - 1) e known linked.by_parts more next)
          ∙ ap (set (map (entry_claims es) ls) k) (claims-taken linked.parts es ls k unused room ((ends_at ls k).len - 1) e known linked.by_parts more next ∙ ap (drop 1) (sym (list-seen es ls k known))),
    )
