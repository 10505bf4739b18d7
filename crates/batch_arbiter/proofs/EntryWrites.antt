-- The effect of writes to entries of the pool on the lists that are linked through it.
use Rattle.std.proofs.Common.{ℕ, ◌≡◌, ◌≢◌, ◌<◌, ◌≤◌, List, [], ◌∷◌, ◌++◌, length, refl, sym, ap, ◌∙◌, subst, arith, suc, zero, set, cond, eq-eqb}
use Rattle.std.{specs.List.remove, proofs.lemmas.List.get_or-set_same, proofs.lemmas.List.get_or-set_other, proofs.lemmas.Bool.ne_eqb}
use Rattle.batch_arbiter.specs.{declared.entry.Entry.Entry, Linked.nowhere, Linked.at, Linked.entry_claim, Linked.claims_from, Linked.EntryPart, Linked.with_part, Linked.LeadsThrough, Linked.Avoids, Linked.behind}

pub marked-same : (parts : ℕ → EntryPart) (i : ℕ) (part : EntryPart) → with_part parts i part i ≡ part
marked-same parts i part = ap (λ b. cond b part (parts i)) (eq-eqb i i refl)

pub marked-other : (parts : ℕ → EntryPart) (i : ℕ) (part : EntryPart) (k : ℕ) → k ≢ i → with_part parts i part k ≡ parts k
marked-other parts i part k ne = ap (λ b. cond b part (parts k)) (ne_eqb k i ne)

pub at-set_other : (es : List Entry) (i k : ℕ) (e : Entry) → k ≢ i → at (set es i e) k ≡ at es k
at-set_other es i k e ne = get_or-set_other es i k e nowhere ne

pub at-set_same : (es : List Entry) (i : ℕ) (e : Entry) → i < length es → at (set es i e) i ≡ e
at-set_same es i e h = get_or-set_same es i e nowhere h

-- the pool changes at entries i and j alone
pub record Edits (parts parts' : ℕ → EntryPart) (es fs : List Entry) (i j : ℕ) : Type 0 where
  pub plays : (k : ℕ) → k ≢ i → k ≢ j → parts' k ≡ parts k
  pub entries : (k : ℕ) → k ≢ i → k ≢ j → at fs k ≡ at es k
  pub longer : length es ≤ length fs

-- an entry that plays another part is not among these
pub Avoids-other : (part : EntryPart) (parts : ℕ → EntryPart) (i : ℕ) (es : List Entry) (n first end : ℕ) → parts i ≢ part → LeadsThrough part parts es n first end → Avoids i es n first
Avoids-other part parts i es zero first end ne h = tt
Avoids-other part parts i es (suc n) first end ne h =
    ((λ e. ne (ap parts (sym e) ∙ h.1)), Avoids-other part parts i es n (at es first).next end ne h.2)

-- nor is an entry that isn't there yet
pub Avoids-past : (part : EntryPart) (parts : ℕ → EntryPart) (i : ℕ) (es : List Entry) (n first end : ℕ) → length es ≤ i → LeadsThrough part parts es n first end → Avoids i es n first
Avoids-past part parts i es zero first end past h = tt
Avoids-past part parts i es (suc n) first end past h =
    ((λ e. absurd (omega (arith, h.0))), Avoids-past part parts i es n (at es first).next end past h.2)

-- changes elsewhere leave a list as it is
pub Leads-kept : (part : EntryPart) (parts parts' : ℕ → EntryPart) (es fs : List Entry) (i j : ℕ) → Edits parts parts' es fs i j → (n first end : ℕ) → Avoids i es n first → Avoids j es n first → LeadsThrough part parts es n first end → LeadsThrough part parts' fs n first end
Leads-kept part parts parts' es fs i j d zero first end a b h = h
Leads-kept part parts parts' es fs i j d (suc n) first end a b h =
    rw (d.entries first a.0 b.0)
    (omega (arith, h.0, d.longer), d.plays first a.0 b.0 ∙ h.1, Leads-kept part parts parts' es fs i j d n (at es first).next end a.1 b.1 h.2)

pub claims-kept : (parts parts' : ℕ → EntryPart) (es fs : List Entry) (i j : ℕ) → Edits parts parts' es fs i j → (n first : ℕ) → Avoids i es n first → Avoids j es n first → claims_from fs n first ≡ claims_from es n first
claims-kept parts parts' es fs i j d zero first a b = refl
claims-kept parts parts' es fs i j d (suc n) first a b =
    rw (d.entries first a.0 b.0) (ap (λ cs. entry_claim (at es first) ∷ cs) (claims-kept parts parts' es fs i j d n (at es first).next a.1 b.1))

-- two ways along one list to its end are equally long
same_length : (part : EntryPart) (parts : ℕ → EntryPart) (es : List Entry) (n m first end : ℕ) → parts end ≢ part → LeadsThrough part parts es n first end → LeadsThrough part parts es m first end → n ≡ m
same_length part parts es zero zero first end ne h l = refl
same_length part parts es zero (suc m) first end ne h l = absurd (ne (ap parts (sym h) ∙ l.1))
same_length part parts es (suc n) zero first end ne h l = absurd (ne (ap parts (sym l) ∙ h.1))
same_length part parts es (suc n) (suc m) first end ne h l = ap (λ k. suc k) (same_length part parts es n m (at es first).next end ne h.2 l.2)

along : (part : EntryPart) (parts : ℕ → EntryPart) (es : List Entry) (m n i first end : ℕ) → parts end ≢ part → LeadsThrough part parts es m i end → n < m → LeadsThrough part parts es n first end → Avoids i es n first
along part parts es m zero i first end ne h lt l = tt
along part parts es m (suc n) i first end ne h lt l = (
  (λ e. let same : suc n ≡ m = same_length part parts es (suc n) m i end ne (subst (λ (k : ℕ). LeadsThrough part parts es (suc n) k end) e l) h in absurd (omega arith)),
  along part parts es m n i (at es first).next end ne h (omega arith) l.2,
)

-- the first entry is not among those behind it
pub Avoids-first : (part : EntryPart) (parts : ℕ → EntryPart) (es : List Entry) (n first end : ℕ) → parts end ≢ part → LeadsThrough part parts es (suc n) first end → Avoids first es n (at es first).next
Avoids-first part parts es n first end ne h = along part parts es (suc n) n first (at es first).next end ne h (omega arith) h.2

-- the old end takes a claim and leads to the new one
pub Leads-push : (part : EntryPart) (parts parts' : ℕ → EntryPart) (es fs : List Entry) (i : ℕ) (n first end : ℕ) → Edits parts parts' es fs i end → Avoids i es n first → Avoids end es n first → end < length fs → parts' end ≡ part → LeadsThrough part parts es n first end → LeadsThrough part parts' fs (suc n) first (at fs end).next
Leads-push part parts parts' es fs i zero first end d a b w t h = rw h (w, t, refl)
Leads-push part parts parts' es fs i (suc n) first end d a b w t h =
    let ih : LeadsThrough part parts' fs (suc n) (at es first).next (at fs end).next = Leads-push part parts parts' es fs i n (at es first).next end d a.1 b.1 w t h.2 in
    (omega (arith, h.0, d.longer), d.plays first a.0 b.0 ∙ h.1, subst (λ (e : Entry). LeadsThrough part parts' fs (suc n) e.next (at fs end).next) (sym (d.entries first a.0 b.0)) ih)

pub claims-push : (part : EntryPart) (parts parts' : ℕ → EntryPart) (es fs : List Entry) (i : ℕ) (n first end : ℕ) → Edits parts parts' es fs i end → Avoids i es n first → Avoids end es n first → LeadsThrough part parts es n first end → claims_from fs (suc n) first ≡ claims_from es n first ++ entry_claim (at fs end) ∷ []
claims-push part parts parts' es fs i zero first end d a b h = ap (λ k. entry_claim (at fs k) ∷ []) h
claims-push part parts parts' es fs i (suc n) first end d a b h =
    let ih : claims_from fs (suc n) (at es first).next ≡ claims_from es n (at es first).next ++ entry_claim (at fs end) ∷ [] = claims-push part parts parts' es fs i n (at es first).next end d a.1 b.1 h.2 in
    ap (λ (e : Entry). entry_claim e ∷ claims_from fs (suc n) e.next) (d.entries first a.0 b.0) ∙ ap (λ cs. entry_claim (at es first) ∷ cs) ih

-- an entry that a list avoids is none of its entries
pub Avoids-behind : (i : ℕ) (es : List Entry) (m n first : ℕ) → m < n → Avoids i es n first → behind es m first ≢ i
Avoids-behind i es m zero first lt a = absurd (omega arith)
Avoids-behind i es zero (suc n) first lt a = a.0
Avoids-behind i es (suc m) (suc n) first lt a = Avoids-behind i es m n (at es first).next (omega arith) a.1

pub behind-within : (part : EntryPart) (parts : ℕ → EntryPart) (es : List Entry) (m n first end : ℕ) → m < n → LeadsThrough part parts es n first end → (behind es m first < length es) × (parts (behind es m first) ≡ part)
behind-within part parts es m zero first end lt h = absurd (omega arith)
behind-within part parts es zero (suc n) first end lt h = (h.0, h.1)
behind-within part parts es (suc m) (suc n) first end lt h = behind-within part parts es m n (at es first).next end (omega arith) h.2

-- entry b leads past t, the one behind it
pub record Skips (parts parts' : ℕ → EntryPart) (es fs : List Entry) (b t : ℕ) : Type 0 where
  pub edits : Edits parts parts' es fs b t
  pub stays : parts' b ≡ parts b
  pub past : (at fs b).next ≡ (at es t).next
  pub same : entry_claim (at fs b) ≡ entry_claim (at es b)

module _ (part : EntryPart) (parts parts' : ℕ → EntryPart) (es fs : List Entry) (b t : ℕ) (s : Skips parts parts' es fs b t) where
  Leads-skip_here : (n end : ℕ) → parts end ≢ part → t ≡ (at es b).next → LeadsThrough part parts es (suc (suc n)) b end → LeadsThrough part parts' fs (suc n) b end × (claims_from fs (suc n) b ≡ entry_claim (at es b) ∷ claims_from es n (at es t).next)
  Leads-skip_here n end ne e h =
      let from_t : LeadsThrough part parts es (suc n) t end = subst (λ (k : ℕ). LeadsThrough part parts es (suc n) k end) (sym e) h.2 in
      let off_t : Avoids t es n (at es t).next = Avoids-first part parts es n t end ne from_t in
      let off_b : Avoids b es (suc n) t = subst (λ (k : ℕ). Avoids b es (suc n) k) (sym e) (Avoids-first part parts es (suc n) b end ne h) in
      let rest : LeadsThrough part parts' fs n (at es t).next end = Leads-kept part parts parts' es fs b t s.edits n (at es t).next end off_b.1 off_t from_t.2 in (
        (omega (arith, h.0, s.edits.longer), s.stays ∙ h.1, subst (λ (k : ℕ). LeadsThrough part parts' fs n k end) (sym s.past) rest),
        ap (λ c. c ∷ claims_from fs n (at fs b).next) s.same
            ∙ ap (λ k. entry_claim (at es b) ∷ claims_from fs n k) s.past
            ∙ ap (λ cs. entry_claim (at es b) ∷ cs) (claims-kept parts parts' es fs b t s.edits n (at es t).next off_b.1 off_t),
      )

  pub Leads-skip : (m n first end : ℕ) → m < n → b ≡ behind es m first → t ≡ behind es (suc m) first → parts end ≢ part → LeadsThrough part parts es (suc n) first end
      → LeadsThrough part parts' fs n first end × (claims_from fs n first ≡ remove (claims_from es (suc n) first) (suc m)) × (behind fs m first ≡ b)
  Leads-skip m zero first end lt eb et ne h = absurd (omega arith)
  Leads-skip zero (suc n) first end lt eb et ne h =
      let from_b : LeadsThrough part parts es (suc (suc n)) b end = subst (λ (k : ℕ). LeadsThrough part parts es (suc (suc n)) k end) (sym eb) h in
      let next : t ≡ (at es b).next = et ∙ ap (λ k. (at es k).next) (sym eb) in
      let skipped : LeadsThrough part parts' fs (suc n) b end × (claims_from fs (suc n) b ≡ entry_claim (at es b) ∷ claims_from es n (at es t).next) = Leads-skip_here n end ne next from_b in (
        subst (λ (k : ℕ). LeadsThrough part parts' fs (suc n) k end) eb skipped.0,
        ap (λ k. claims_from fs (suc n) k) (sym eb) ∙ skipped.1
            ∙ ap (λ k. entry_claim (at es k) ∷ claims_from es n (at es t).next) eb
            ∙ ap (λ k. entry_claim (at es first) ∷ claims_from es n (at es k).next) et,
        sym eb,
      )
  Leads-skip (suc m) (suc n) first end lt eb et ne h =
      let off : Avoids first es (suc n) (at es first).next = Avoids-first part parts es (suc n) first end ne h in
      let off_b : first ≢ b = λ e. Avoids-behind first es m (suc n) (at es first).next (omega arith) off (sym eb ∙ sym e) in
      let off_t : first ≢ t = λ e. Avoids-behind first es (suc m) (suc n) (at es first).next (omega arith) off (sym et ∙ sym e) in
      let same : at fs first ≡ at es first = s.edits.entries first off_b off_t in
      let ih : LeadsThrough part parts' fs n (at es first).next end × (claims_from fs n (at es first).next ≡ remove (claims_from es (suc n) (at es first).next) (suc m)) × (behind fs m (at es first).next ≡ b) =
      Leads-skip m n (at es first).next end (omega arith) eb et ne h.2 in (
        (omega (arith, h.0, s.edits.longer), s.edits.plays first off_b off_t ∙ h.1, subst (λ (e : Entry). LeadsThrough part parts' fs n e.next end) (sym same) ih.0),
        ap (λ (e : Entry). entry_claim e ∷ claims_from fs n e.next) same ∙ ap (λ cs. entry_claim (at es first) ∷ cs) ih.1,
        ap (λ (e : Entry). behind fs m e.next) same ∙ ih.2,
      )
