-- A new pool, and the effect of one more free entry on a pool.
use Rattle.std.proofs.Common.{ℕ, ◌≡◌, ◌≢◌, ◌+◌, ◌*◌, ◌<◌, ◌≤◌, ◌^◌, List, [], ◌∷◌, ◌++◌, length, refl, sym, ap, ◌∙◌, subst, arith, suc, zero, map, inl, inr, add-one}
use Rattle.std.{specs.Prelude.sum_by, specs.Prelude.replicate, specs.List.All, proofs.lemmas.List.length-map, proofs.lemmas.List.length_push, proofs.lemmas.List.length-replicate, proofs.lemmas.List.get_or-map, proofs.lemmas.List.get_or-replicate, proofs.lemmas.List.get_or_append_left, proofs.lemmas.List.get_or_past, proofs.lemmas.List.get_or_push, proofs.lemmas.List.get_or_default, proofs.lemmas.List.same_lists, proofs.lemmas.List.Sums.sum_by-le, proofs.lemmas.Bool.cases_lt}
use Rattle.batch_arbiter.{specs.declared.entry.Entry.Entry, specs.declared.ends.Ends.Ends, specs.Linked.nowhere, specs.Linked.at, specs.Linked.no_list, specs.Linked.ends_at, specs.Linked.entry_claims, specs.Linked.EntryPart, specs.Linked.bottom, specs.Linked.free, specs.Linked.end_of, specs.Linked.claim_in, specs.Linked.with_part, specs.Linked.LeadsThrough, specs.Linked.Avoids, specs.Linked.IsList, specs.Linked.IsLinkedBy, specs.Linked.AreLinkedLists, specs.Linked.IsGrown, proofs.EntryWrites.marked-same, proofs.EntryWrites.marked-other, proofs.EntryWrites.Edits, proofs.EntryWrites.Avoids-past, proofs.EntryWrites.Leads-kept, proofs.EntryWrites.claims-kept}

module _ (es : List Entry) (e : Entry) where
  longer : length (es ++ e ∷ []) ≡ length es + 1
  longer = length_push es e

  at_old : (k : ℕ) → k ≢ length es → at (es ++ e ∷ []) k ≡ at es k
  at_old k ne = elim (cases_lt k (length es)) [
    | inl h ↦ get_or_append_left es (e ∷ []) nowhere k h
    | inr h ↦ get_or_past (es ++ e ∷ []) k nowhere (omega (arith, longer)) ∙ sym (get_or_past es k nowhere h)
  ]

  module _ (parts : ℕ → EntryPart) (ls : List Ends) (unused room : ℕ) (linked : IsLinkedBy parts es ls unused room) (next : e.next ≡ unused) (few : length es < 2 ^ 32) where
    added : Edits parts (with_part parts (length es) free) es (es ++ e ∷ []) (length es) (length es)
    added = record {
      plays = λ k a b. marked-other parts (length es) free k a;
      entries = λ k a b. at_old k a;
      longer = omega (arith, longer);
    }

    list_kept : (k : ℕ) → k < length ls → IsList (with_part parts (length es) free) (es ++ e ∷ []) k (ends_at ls k) × (entry_claims (es ++ e ∷ []) (ends_at ls k) ≡ entry_claims es (ends_at ls k))
    list_kept k h =
        let it : IsList parts es k (ends_at ls k) = linked.each k h in
        let away : Avoids (length es) es (ends_at ls k).len (ends_at ls k).first = Avoids-past (claim_in k) parts (length es) es (ends_at ls k).len (ends_at ls k).first (ends_at ls k).end (omega arith) it.linked in
        let end_off : (ends_at ls k).end ≢ length es = omega (arith, it.within) in (
          record {
            within = omega (arith, it.within, longer);
            ends = marked-other parts (length es) free (ends_at ls k).end end_off ∙ it.ends;
            linked = Leads-kept (claim_in k) parts (with_part parts (length es) free) es (es ++ e ∷ []) (length es) (length es) added (ends_at ls k).len (ends_at ls k).first (ends_at ls k).end away away it.linked;
          },
          claims-kept parts (with_part parts (length es) free) es (es ++ e ∷ []) (length es) (length es) added (ends_at ls k).len (ends_at ls k).first away away,
        )

    IsLinkedBy-added : IsLinkedBy (with_part parts (length es) free) (es ++ e ∷ []) ls (length es) (suc room)
    IsLinkedBy-added =
        let away : Avoids (length es) es room unused = Avoids-past free parts (length es) es room unused 0 (omega arith) linked.spare in
        let kept : LeadsThrough free (with_part parts (length es) free) (es ++ e ∷ []) room unused 0 = Leads-kept free parts (with_part parts (length es) free) es (es ++ e ∷ []) (length es) (length es) added room unused 0 away away linked.spare in
        let is_next : (at (es ++ e ∷ []) (length es)).next ≡ unused = ap (λ (x : Entry). x.next) (get_or_push es e nowhere (length es) refl) ∙ next in
        let not_0 : 0 ≢ length es = omega (arith, linked.total) in
        record {
          each = λ k h. (list_kept k h).0;
          spare = (omega (arith, longer), marked-same parts (length es) free, subst (λ (x : ℕ). LeadsThrough free (with_part parts (length es) free) (es ++ e ∷ []) room x 0) (sym is_next) kept);
          bottom_at_0 = marked-other parts (length es) free 0 not_0 ∙ linked.bottom_at_0;
          total = omega (arith, longer, linked.total);
          numbered = omega (arith, longer);
        }

    pub AreLinkedLists-added : AreLinkedLists (es ++ e ∷ []) ls (length es) (suc room) × (map (entry_claims (es ++ e ∷ [])) ls ≡ map (entry_claims es) ls)
    AreLinkedLists-added = (
      record { parts = with_part parts (length es) free; by_parts = IsLinkedBy-added },
      same_lists _ _ (length-map ls (entry_claims (es ++ e ∷ [])) ∙ sym (length-map ls (entry_claims es)))
          (λ k d h.
          let w : k < length ls = rw length-map at h in
          get_or-map (entry_claims (es ++ e ∷ [])) ls k no_list d w ∙ (list_kept k w).1 ∙ sym (get_or-map (entry_claims es) ls k no_list d w)),
    )

-- one more
pub IsGrown-more : (es fs : List Entry) (unused unused' more : ℕ) (e : Entry) → e.next ≡ unused' → length fs < 2 ^ 32 → IsGrown es unused fs unused' more → IsGrown es unused (fs ++ e ∷ []) (length fs) (more + 1)
IsGrown-more es fs unused unused' more e next few grown ls room linked =
    let before : AreLinkedLists fs ls unused' (room + more) × (map (entry_claims fs) ls ≡ map (entry_claims es) ls) = grown ls room linked in
    let after : AreLinkedLists (fs ++ e ∷ []) ls (length fs) (suc (room + more)) × (map (entry_claims (fs ++ e ∷ [])) ls ≡ map (entry_claims fs) ls) =
    AreLinkedLists-added fs e before.0.parts ls unused' (room + more) before.0.by_parts next few in
    (subst (λ (x : ℕ). AreLinkedLists (fs ++ e ∷ []) ls (length fs) x) (one_more room more) after.0, after.1 ∙ before.1)
  where
    one_more : (n m : ℕ) → suc (n + m) ≡ n + (m + 1)
    one_more n m = omega arith

-- A new pool: entry k + 1 is the end of list k, and none is free.

abbrev first_parts : ℕ → EntryPart
first_parts zero = bottom
first_parts (suc k) = end_of k

abbrev pub empty_list : ℕ → Ends
empty_list k = record { first = k + 1; len = 0; end = k + 1 }

module _ (es : List Entry) (ls : List Ends) (entries : length es ≡ length ls + 1) (few : length ls < 2 ^ 31) (empty : (k : ℕ) → k < length ls → ends_at ls k ≡ empty_list k) where
  pub AreLinkedLists-new : AreLinkedLists es ls 0 0
  AreLinkedLists-new =
      let lengths : All (λ (l : Ends). l.len ≤ 0) ls = λ k d h. omega (arith, ap (λ (l : Ends). l.len) (get_or_default ls k d no_list h ∙ empty k h)) in
      let sum : sum_by (λ (l : Ends). l.len) ls ≤ length ls * 0 = sum_by-le (λ (l : Ends). l.len) 0 ls lengths in
      record {
        parts = first_parts;
        by_parts = record {
          each = λ k h. rw (empty k h, add-one) (record { within = omega (arith, entries); ends = refl; linked = refl });
          spare = refl;
          bottom_at_0 = refl;
          total = omega (arith, sum);
          numbered = omega (arith, entries, few);
        };
      }

  pub claims-new : map (entry_claims es) ls ≡ replicate (length ls) []
  claims-new =
      same_lists _ _ (length-map ls (entry_claims es) ∙ sym (length-replicate (length ls) []))
      (λ k d h.
      let w : k < length ls = rw length-map at h in
      get_or-map (entry_claims es) ls k no_list d w ∙ ap (entry_claims es) (empty k w) ∙ sym (get_or-replicate (length ls) k [] d w))
