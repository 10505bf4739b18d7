-- The effect on the pool when a claim leaves a list: the first one, or one behind another.
use Rattle.std.proofs.Common.{ℕ, ◌≡◌, ◌≢◌, ◌<◌, List, ◌∷◌, length, drop, refl, sym, ap, ◌∙◌, subst, arith, suc, zero, set}
use Rattle.std.{specs.List.remove, proofs.lemmas.List.length-set}
use Rattle.batch_arbiter.{specs.declared.entry.Entry.Entry, specs.declared.ends.Ends.Ends, specs.Linked.at, specs.Linked.ends_at, specs.Linked.entry_claim, specs.Linked.claims_from, specs.Linked.entry_claims, specs.Linked.EntryPart, specs.Linked.bottom, specs.Linked.free, specs.Linked.end_of, specs.Linked.claim_in, specs.Linked.with_part, specs.Linked.LeadsThrough, specs.Linked.Avoids, specs.Linked.IsList, specs.Linked.IsLinkedBy, specs.Linked.behind, proofs.EntryWrites.marked-same, proofs.EntryWrites.marked-other, proofs.EntryWrites.at-set_same, proofs.EntryWrites.at-set_other, proofs.EntryWrites.Edits, proofs.EntryWrites.Skips, proofs.EntryWrites.Avoids-other, proofs.EntryWrites.Avoids-first, proofs.EntryWrites.Avoids-behind, proofs.EntryWrites.Leads-kept, proofs.EntryWrites.claims-kept, proofs.EntryWrites.Leads-skip, proofs.EntryWrites.behind-within, proofs.PoolSteps.apart, proofs.PoolSteps.off, proofs.PoolSteps.off-claim, proofs.PoolSteps.Steps}

abbrev pub left_ends : Ends → ℕ → ℕ → Ends
left_ends l first n = record { first = first; len = n; end = l.end }

-- an entry of list k is free, and leads to those that were
freed_spare : (parts parts' : ℕ → EntryPart) (es fs : List Entry) (i j k unused room : ℕ) → Edits parts parts' es fs i j → parts i ≡ claim_in k → parts j ≡ claim_in k → j < length fs → parts' j ≡ free → (at fs j).next ≡ unused
    → LeadsThrough free parts es room unused 0 → LeadsThrough free parts' fs (suc room) j 0
freed_spare parts parts' es fs i j k unused room d own_i own_j within freed next spare =
    let a : Avoids i es room unused = Avoids-other free parts i es room unused 0 (off (parts i) (claim_in k) free own_i (λ q. let c : ⊥ = cc in c)) spare in
    let b : Avoids j es room unused = Avoids-other free parts j es room unused 0 (off (parts j) (claim_in k) free own_j (λ q. let c : ⊥ = cc in c)) spare in
    let kept : LeadsThrough free parts' fs room unused 0 = Leads-kept free parts parts' es fs i j d room unused 0 a b spare in
    (within, freed, subst (λ (x : ℕ). LeadsThrough free parts' fs room x 0) (sym next) kept)

pub behind-suc : (es : List Entry) (m first : ℕ) → behind es (suc m) first ≡ (at es (behind es m first)).next
behind-suc es zero first = refl
behind-suc es (suc m) first = behind-suc es m (at es first).next

-- an entry is not the one behind it
behind-apart : (part : EntryPart) (parts : ℕ → EntryPart) (es : List Entry) (m n first end : ℕ) → m < n → parts end ≢ part → LeadsThrough part parts es (suc n) first end → behind es m first ≢ behind es (suc m) first
behind-apart part parts es zero n first end lt ne h e = Avoids-behind first es 0 n (at es first).next lt (Avoids-first part parts es n first end ne h) (sym e)
behind-apart part parts es (suc m) zero first end lt ne h e = absurd (omega arith)
behind-apart part parts es (suc m) (suc n) first end lt ne h e = behind-apart part parts es m n (at es first).next end (omega arith) ne h.2 e

-- The first of n + 1 claims leaves list k.

module _ (parts : ℕ → EntryPart) (es : List Entry) (ls : List Ends) (k unused room n : ℕ) (e : Entry) (known : k < length ls) (linked : IsLinkedBy parts es ls unused room) (len : (ends_at ls k).len ≡ suc n) (next : e.next ≡ unused) where
  own_leads : LeadsThrough (claim_in k) parts es (suc n) (ends_at ls k).first (ends_at ls k).end
  own_leads = subst (λ (x : ℕ). LeadsThrough (claim_in k) parts es x (ends_at ls k).first (ends_at ls k).end) len (linked.each k known).linked

  end_off : parts (ends_at ls k).end ≢ claim_in k
  end_off = off (parts (ends_at ls k).end) (end_of k) (claim_in k) (linked.each k known).ends (λ q. let c : ⊥ = cc in c)

  taken_edits : Edits parts (with_part parts (ends_at ls k).first free) es (set es (ends_at ls k).first e) (ends_at ls k).first (ends_at ls k).first
  taken_edits = record {
    plays = λ m a b. marked-other parts (ends_at ls k).first free m a;
    entries = λ m a b. at-set_other es (ends_at ls k).first m e a;
    longer = omega (arith, length-set es (ends_at ls k).first e);
  }

  off_rest : Avoids (ends_at ls k).first es n (at es (ends_at ls k).first).next
  off_rest = Avoids-first (claim_in k) parts es n (ends_at ls k).first (ends_at ls k).end end_off own_leads

  taken_own : IsList (with_part parts (ends_at ls k).first free) (set es (ends_at ls k).first e) k (left_ends (ends_at ls k) (at es (ends_at ls k).first).next n)
  taken_own =
      let away : (ends_at ls k).end ≢ (ends_at ls k).first = apart parts (ends_at ls k).end (ends_at ls k).first (end_of k) (claim_in k) (linked.each k known).ends own_leads.1 (λ q. let c : ⊥ = cc in c) in
      record {
        within = omega (arith, (linked.each k known).within, length-set es (ends_at ls k).first e);
        ends = marked-other parts (ends_at ls k).first free (ends_at ls k).end away ∙ (linked.each k known).ends;
        linked = Leads-kept (claim_in k) parts (with_part parts (ends_at ls k).first free) es (set es (ends_at ls k).first e) (ends_at ls k).first (ends_at ls k).first taken_edits n (at es (ends_at ls k).first).next (ends_at ls k).end off_rest off_rest own_leads.2;
      }

  pub taken : Steps parts (with_part parts (ends_at ls k).first free) es (set es (ends_at ls k).first e) ls (ends_at ls k).first (ends_at ls k).first k (left_ends (ends_at ls k) (at es (ends_at ls k).first).next n) unused room (ends_at ls k).first (suc room)
  taken =
      let not_first : 0 ≢ (ends_at ls k).first = apart parts 0 (ends_at ls k).first bottom (claim_in k) linked.bottom_at_0 own_leads.1 (λ q. let c : ⊥ = cc in c) in
      let within : (ends_at ls k).first < length (set es (ends_at ls k).first e) = omega (arith, own_leads.0, length-set es (ends_at ls k).first e) in
      record {
        linked = linked;
        known = known;
        edits = taken_edits;
        off_i = λ q ne. off-claim (parts (ends_at ls k).first) k q own_leads.1 ne;
        off_j = λ q ne. off-claim (parts (ends_at ls k).first) k q own_leads.1 ne;
        own = taken_own;
        spare = freed_spare parts (with_part parts (ends_at ls k).first free) es (set es (ends_at ls k).first e) (ends_at ls k).first (ends_at ls k).first k unused room taken_edits own_leads.1 own_leads.1 within
            (marked-same parts (ends_at ls k).first free) (ap (λ (x : Entry). x.next) (at-set_same es (ends_at ls k).first e own_leads.0) ∙ next) linked.spare;
        bottom_at_0 = taken_edits.plays 0 not_first not_first ∙ linked.bottom_at_0;
        same = length-set es (ends_at ls k).first e;
        total = omega (arith, len);
      }

  pub claims-taken : entry_claims (set es (ends_at ls k).first e) (left_ends (ends_at ls k) (at es (ends_at ls k).first).next n) ≡ drop 1 (entry_claims es (ends_at ls k))
  claims-taken =
      claims-kept parts (with_part parts (ends_at ls k).first free) es (set es (ends_at ls k).first e) (ends_at ls k).first (ends_at ls k).first taken_edits n (at es (ends_at ls k).first).next off_rest off_rest
      ∙ ap (λ m. drop 1 (claims_from es m (ends_at ls k).first)) (sym len)

  pub claims-first : entry_claims es (ends_at ls k) ≡ entry_claim (at es (ends_at ls k).first) ∷ drop 1 (entry_claims es (ends_at ls k))
  claims-first =
      ap (λ m. claims_from es m (ends_at ls k).first) len
      ∙ ap (λ m. entry_claim (at es (ends_at ls k).first) ∷ drop 1 (claims_from es m (ends_at ls k).first)) (sym len)

-- The claim of entry t, m + 1 places behind the first of n + 1, leaves list k; it stands behind entry b.

abbrev pub unlinked_entries : List Entry → ℕ → Entry → ℕ → Entry → List Entry
unlinked_entries es b e t f = set (set es b e) t f

module _ (parts : ℕ → EntryPart) (es : List Entry) (ls : List Ends) (k unused room n m b t : ℕ) (e f : Entry) (known : k < length ls) (linked : IsLinkedBy parts es ls unused room) (len : (ends_at ls k).len ≡ suc n) (lt : m < n) (is_b : b ≡ behind es m (ends_at ls k).first) (is_t : t ≡ behind es (suc m) (ends_at ls k).first) (past : e.next ≡ (at es t).next) (same : entry_claim e ≡ entry_claim (at es b)) (next : f.next ≡ unused) where
  all_leads : LeadsThrough (claim_in k) parts es (suc n) (ends_at ls k).first (ends_at ls k).end
  all_leads = subst (λ (x : ℕ). LeadsThrough (claim_in k) parts es x (ends_at ls k).first (ends_at ls k).end) len (linked.each k known).linked

  end_apart : parts (ends_at ls k).end ≢ claim_in k
  end_apart = off (parts (ends_at ls k).end) (end_of k) (claim_in k) (linked.each k known).ends (λ q. let c : ⊥ = cc in c)

  pub b_within : (b < length es) × (parts b ≡ claim_in k)
  b_within = subst (λ (x : ℕ). (x < length es) × (parts x ≡ claim_in k)) (sym is_b) (behind-within (claim_in k) parts es m (suc n) (ends_at ls k).first (ends_at ls k).end (omega arith) all_leads)

  pub t_within : (t < length es) × (parts t ≡ claim_in k)
  t_within = subst (λ (x : ℕ). (x < length es) × (parts x ≡ claim_in k)) (sym is_t) (behind-within (claim_in k) parts es (suc m) (suc n) (ends_at ls k).first (ends_at ls k).end (omega arith) all_leads)

  pub b_off_t : b ≢ t
  b_off_t q = behind-apart (claim_in k) parts es m n (ends_at ls k).first (ends_at ls k).end lt end_apart all_leads (sym is_b ∙ q ∙ is_t)

  skips : Skips parts (with_part parts t free) es (unlinked_entries es b e t f) b t
  skips =
      let at_b : at (unlinked_entries es b e t f) b ≡ e = at-set_other (set es b e) t b f b_off_t ∙ at-set_same es b e b_within.0 in
      record {
        edits = record {
          plays = λ x off_b off_t. marked-other parts t free x off_t;
          entries = λ x off_b off_t. at-set_other (set es b e) t x f off_t ∙ at-set_other es b x e off_b;
          longer = omega (arith, length-set (set es b e) t f, length-set es b e);
        };
        stays = marked-other parts t free b b_off_t;
        past = ap (λ (x : Entry). x.next) at_b ∙ past;
        same = ap entry_claim at_b ∙ same;
      }

  skipped : LeadsThrough (claim_in k) (with_part parts t free) (unlinked_entries es b e t f) n (ends_at ls k).first (ends_at ls k).end × (claims_from (unlinked_entries es b e t f) n (ends_at ls k).first ≡ remove (claims_from es (suc n) (ends_at ls k).first) (suc m)) × (behind (unlinked_entries es b e t f) m (ends_at ls k).first ≡ b)
  skipped = Leads-skip (claim_in k) parts (with_part parts t free) es (unlinked_entries es b e t f) b t skips m n (ends_at ls k).first (ends_at ls k).end lt is_b is_t end_apart all_leads

  same_len : length (unlinked_entries es b e t f) ≡ length es
  same_len = length-set (set es b e) t f ∙ length-set es b e

  pub unlinked : Steps parts (with_part parts t free) es (unlinked_entries es b e t f) ls b t k (left_ends (ends_at ls k) (ends_at ls k).first n) unused room t (suc room)
  unlinked =
      let not_b : 0 ≢ b = apart parts 0 b bottom (claim_in k) linked.bottom_at_0 b_within.1 (λ q. let c : ⊥ = cc in c) in
      let not_t : 0 ≢ t = apart parts 0 t bottom (claim_in k) linked.bottom_at_0 t_within.1 (λ q. let c : ⊥ = cc in c) in
      let end_off_t : (ends_at ls k).end ≢ t = λ q. end_apart (ap parts q ∙ t_within.1) in
      let t_set : t < length (set es b e) = omega (arith, t_within.0, length-set es b e) in
      record {
        linked = linked;
        known = known;
        edits = skips.edits;
        off_i = λ q ne. off-claim (parts b) k q b_within.1 ne;
        off_j = λ q ne. off-claim (parts t) k q t_within.1 ne;
        own = record {
          within = omega (arith, (linked.each k known).within, same_len);
          ends = marked-other parts t free (ends_at ls k).end end_off_t ∙ (linked.each k known).ends;
          linked = skipped.0;
        };
        spare = freed_spare parts (with_part parts t free) es (unlinked_entries es b e t f) b t k unused room skips.edits b_within.1 t_within.1 (omega (arith, t_within.0, same_len))
            (marked-same parts t free) (ap (λ (x : Entry). x.next) (at-set_same (set es b e) t f t_set) ∙ next) linked.spare;
        bottom_at_0 = skips.edits.plays 0 not_b not_t ∙ linked.bottom_at_0;
        same = same_len;
        total = omega (arith, len);
      }

  pub claims-unlinked : entry_claims (unlinked_entries es b e t f) (left_ends (ends_at ls k) (ends_at ls k).first n) ≡ remove (entry_claims es (ends_at ls k)) (suc m)
  claims-unlinked = skipped.1 ∙ ap (λ x. remove (claims_from es x (ends_at ls k).first) (suc m)) (sym len)

  -- the entry that it stood behind is where it was
  pub behind-unlinked : behind (unlinked_entries es b e t f) m (ends_at ls k).first ≡ b
  behind-unlinked = skipped.2
