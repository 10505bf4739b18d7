-- The effect of joining and leaving a list on the pool as a whole.
use Rattle.std.proofs.Common.{ℕ, ◌≡◌, ◌≢◌, ◌+◌, ◌<◌, List, [], ◌∷◌, ◌++◌, length, get_or, refl, sym, ap, ◌∙◌, subst, arith, suc, set, map, inl, inr}
use Rattle.std.{specs.Prelude.sum_by, proofs.lemmas.List.length-set, proofs.lemmas.List.length-map, proofs.lemmas.List.get_or-map, proofs.lemmas.List.get_or-set_same, proofs.lemmas.List.get_or-set_other, proofs.lemmas.List.same_lists, proofs.lemmas.List.Sums.sum_by-set, proofs.lemmas.Bool.cases_eq}
use Rattle.batch_arbiter.{specs.declared.entry.Entry.Entry, specs.declared.ends.Ends.Ends, specs.Linked.at, specs.Linked.no_list, specs.Linked.ends_at, specs.Linked.entry_claim, specs.Linked.entry_claims, specs.Linked.EntryPart, specs.Linked.bottom, specs.Linked.free, specs.Linked.end_of, specs.Linked.claim_in, specs.Linked.with_part, specs.Linked.LeadsThrough, specs.Linked.Avoids, specs.Linked.IsList, specs.Linked.IsLinkedBy, proofs.EntryWrites.marked-same, proofs.EntryWrites.marked-other, proofs.EntryWrites.at-set_same, proofs.EntryWrites.at-set_other, proofs.EntryWrites.Edits, proofs.EntryWrites.Avoids-other, proofs.EntryWrites.Avoids-first, proofs.EntryWrites.Leads-kept, proofs.EntryWrites.claims-kept, proofs.EntryWrites.Leads-push, proofs.EntryWrites.claims-push}

map_here : {X Y : Type 0} (f g : X → Y) (xs : List X) (k i : ℕ) (x d : X) (y e : Y) → k < length xs → g x ≡ y → i ≡ k → get_or (map g (set xs k x)) i e ≡ get_or (set (map f xs) k y) i e
map_here f g xs k i x d y e h here same =
    let a : k < length (set xs k x) = rw (length-set xs k x) h in
    let b : k < length (map f xs) = rw (length-map xs f) h in
    rw (same, get_or-map g (set xs k x) k d e a, get_or-set_same xs k x d h, get_or-set_same (map f xs) k y e b) here

-- the views of all lists, if one list changed and the others are seen as before
pub map-set_changed : {X Y : Type 0} (f g : X → Y) (xs : List X) (k : ℕ) (x d : X) (y : Y) → k < length xs → g x ≡ y → ((j : ℕ) → j < length xs → j ≢ k → g (get_or xs j d) ≡ f (get_or xs j d)) → map g (set xs k x) ≡ set (map f xs) k y
map-set_changed f g xs k x d y h here others =
    same_lists _ _
    (length-map (set xs k x) g ∙ length-set xs k x ∙ sym (length-set (map f xs) k y ∙ length-map xs f))
    (λ i e w.
    let n : i < length xs = rw (length-map, length-set) at w in
    let n1 : i < length (set xs k x) = rw (length-set xs k x) n in
    elim (cases_eq i k) [
      | inl same ↦ map_here f g xs k i x d y e h here same
      | inr ne ↦
          get_or-map g (set xs k x) i d e n1 ∙ ap g (get_or-set_other xs k i x d ne) ∙ others i n ne ∙
          sym (get_or-set_other (map f xs) k i y e ne ∙ get_or-map f xs i d e n)
    ])

-- entries that play different parts are different entries
pub apart : (parts : ℕ → EntryPart) (i j : ℕ) (s t : EntryPart) → parts i ≡ s → parts j ≡ t → (s ≡ t → ⊥) → i ≢ j
apart parts i j s t a b ne e = ne (sym a ∙ ap parts e ∙ b)

pub off : (p s t : EntryPart) → p ≡ s → (s ≡ t → ⊥) → p ≢ t
off p s t a ne e = ne (sym a ∙ e)

-- an entry that is neither in list k nor its end
abbrev pub OffList : EntryPart → ℕ → Type 0
OffList p k = (p ≢ claim_in k) × (p ≢ end_of k)

pub off-free : (p : EntryPart) (k : ℕ) → p ≡ free → OffList p k
off-free p k e = (off p free (claim_in k) e (λ q. let c : ⊥ = cc in c), off p free (end_of k) e (λ q. let c : ⊥ = cc in c))

off-end : (p : EntryPart) (k q : ℕ) → p ≡ end_of k → q ≢ k → OffList p q
off-end p k q e ne = (off p (end_of k) (claim_in q) e (λ h. let c : ⊥ = cc in c), off p (end_of k) (end_of q) e (λ h. ne (let c : q ≡ k = cc in c)))

pub off-claim : (p : EntryPart) (k q : ℕ) → p ≡ claim_in k → q ≢ k → OffList p q
off-claim p k q e ne = (off p (claim_in k) (claim_in q) e (λ h. ne (let c : q ≡ k = cc in c)), off p (claim_in k) (end_of q) e (λ h. let c : ⊥ = cc in c))

list-kept : (parts parts' : ℕ → EntryPart) (es fs : List Entry) (i j k : ℕ) (l : Ends) → Edits parts parts' es fs i j → OffList (parts i) k → OffList (parts j) k → IsList parts es k l → IsList parts' fs k l × (entry_claims fs l ≡ entry_claims es l)
list-kept parts parts' es fs i j k l d off_i off_j it =
    let end_i : l.end ≢ i = λ e. off_i.1 (ap parts (sym e) ∙ it.ends) in
    let end_j : l.end ≢ j = λ e. off_j.1 (ap parts (sym e) ∙ it.ends) in
    let a : Avoids i es l.len l.first = Avoids-other (claim_in k) parts i es l.len l.first l.end off_i.0 it.linked in
    let b : Avoids j es l.len l.first = Avoids-other (claim_in k) parts j es l.len l.first l.end off_j.0 it.linked in (
      record {
        within = omega (arith, it.within, d.longer);
        ends = d.plays l.end end_i end_j ∙ it.ends;
        linked = Leads-kept (claim_in k) parts parts' es fs i j d l.len l.first l.end a b it.linked;
      },
      claims-kept parts parts' es fs i j d l.len l.first a b,
    )

-- list k changes at entries i and j, which no other list has, and with it the free entries
pub record Steps (parts parts' : ℕ → EntryPart) (es fs : List Entry) (ls : List Ends) (i j k : ℕ) (l : Ends) (unused room unused' room' : ℕ) : Type 0 where
  pub linked : IsLinkedBy parts es ls unused room
  pub known : k < length ls
  pub edits : Edits parts parts' es fs i j
  pub off_i : (q : ℕ) → q ≢ k → OffList (parts i) q
  pub off_j : (q : ℕ) → q ≢ k → OffList (parts j) q
  pub own : IsList parts' fs k l
  pub spare : LeadsThrough free parts' fs room' unused' 0
  pub bottom_at_0 : parts' 0 ≡ bottom
  pub same : length fs ≡ length es
  pub total : l.len + room' ≡ (ends_at ls k).len + room

module _ (parts parts' : ℕ → EntryPart) (es fs : List Entry) (ls : List Ends) (i j k : ℕ) (l : Ends) (unused room unused' room' : ℕ) (s : Steps parts parts' es fs ls i j k l unused room unused' room') where
  other : (q : ℕ) → q < length ls → q ≢ k → IsList parts' fs q (ends_at ls q) × (entry_claims fs (ends_at ls q) ≡ entry_claims es (ends_at ls q))
  other q w ne = list-kept parts parts' es fs i j q (ends_at ls q) s.edits (s.off_i q ne) (s.off_j q ne) (s.linked.each q w)

  at_own : (q : ℕ) → q ≡ k → IsList parts' fs q (ends_at (set ls k l) q)
  at_own q same = rw (same, get_or-set_same ls k l no_list s.known) s.own

  elsewhere : (q : ℕ) → q < length ls → q ≢ k → IsList parts' fs q (ends_at (set ls k l) q)
  elsewhere q w ne = rw (get_or-set_other ls k q l no_list ne) (other q w ne).0

  -- the pool stays linked
  pub IsLinkedBy-step : IsLinkedBy parts' fs (set ls k l) unused' room'
  IsLinkedBy-step =
      let sums : sum_by (λ l. l.len) (set ls k l) + (ends_at ls k).len ≡ sum_by (λ l. l.len) ls + l.len = sum_by-set (λ l. l.len) ls k l no_list s.known in
      record {
        each = λ q w.
            let n : q < length ls = rw length-set at w in
            elim (cases_eq q k) [
              | inl same ↦ at_own q same
              | inr ne ↦ elsewhere q n ne
            ];
        spare = s.spare;
        bottom_at_0 = s.bottom_at_0;
        total = omega (arith, sums, s.total, s.linked.total, s.same);
        numbered = omega (arith, s.same, s.linked.numbered);
      }

  -- the view of a caller: list k is another one
  pub claims-step : map (entry_claims fs) (set ls k l) ≡ set (map (entry_claims es) ls) k (entry_claims fs l)
  claims-step = map-set_changed (entry_claims es) (entry_claims fs) ls k l no_list (entry_claims fs l) s.known refl (λ q w ne. (other q w ne).1)

-- A claim joins list k: its end takes the claim, and a free entry is its end.

abbrev pub joined_parts : (ℕ → EntryPart) → ℕ → ℕ → ℕ → ℕ → EntryPart
joined_parts parts k taken end = with_part (with_part parts taken (end_of k)) end (claim_in k)

abbrev pub joined_ends : Ends → ℕ → Ends
joined_ends l taken = record { first = l.first; len = suc l.len; end = taken }

module _ (parts : ℕ → EntryPart) (es : List Entry) (ls : List Ends) (k taken room : ℕ) (e : Entry) (known : k < length ls) (linked : IsLinkedBy parts es ls taken (suc room)) (next : e.next ≡ taken) where
  own_list : IsList parts es k (ends_at ls k)
  own_list = linked.each k known

  end_off_taken : (ends_at ls k).end ≢ taken
  end_off_taken = apart parts (ends_at ls k).end taken (end_of k) free own_list.ends linked.spare.1 (λ q. let c : ⊥ = cc in c)

  joined_edits : Edits parts (joined_parts parts k taken (ends_at ls k).end) es (set es (ends_at ls k).end e) taken (ends_at ls k).end
  joined_edits = record {
    plays = λ m off_taken off_end. marked-other (with_part parts taken (end_of k)) (ends_at ls k).end (claim_in k) m off_end ∙ marked-other parts taken (end_of k) m off_taken;
    entries = λ m off_taken off_end. at-set_other es (ends_at ls k).end m e off_end;
    longer = omega (arith, length-set es (ends_at ls k).end e);
  }

  at_end : at (set es (ends_at ls k).end e) (ends_at ls k).end ≡ e
  at_end = at-set_same es (ends_at ls k).end e own_list.within

  off_taken : Avoids taken es (ends_at ls k).len (ends_at ls k).first
  off_taken = Avoids-other (claim_in k) parts taken es (ends_at ls k).len (ends_at ls k).first (ends_at ls k).end (off-free (parts taken) k linked.spare.1).0 own_list.linked

  off_end : Avoids (ends_at ls k).end es (ends_at ls k).len (ends_at ls k).first
  off_end = Avoids-other (claim_in k) parts (ends_at ls k).end es (ends_at ls k).len (ends_at ls k).first (ends_at ls k).end (off (parts (ends_at ls k).end) (end_of k) (claim_in k) own_list.ends (λ q. let c : ⊥ = cc in c)) own_list.linked

  joined_own : IsList (joined_parts parts k taken (ends_at ls k).end) (set es (ends_at ls k).end e) k (joined_ends (ends_at ls k) taken)
  joined_own =
      let within : (ends_at ls k).end < length (set es (ends_at ls k).end e) = omega (arith, own_list.within, length-set es (ends_at ls k).end e) in
      let leads : LeadsThrough (claim_in k) (joined_parts parts k taken (ends_at ls k).end) (set es (ends_at ls k).end e) (suc (ends_at ls k).len) (ends_at ls k).first (at (set es (ends_at ls k).end e) (ends_at ls k).end).next =
      Leads-push (claim_in k) parts (joined_parts parts k taken (ends_at ls k).end) es (set es (ends_at ls k).end e) taken (ends_at ls k).len (ends_at ls k).first (ends_at ls k).end joined_edits off_taken off_end within (marked-same (with_part parts taken (end_of k)) (ends_at ls k).end (claim_in k)) own_list.linked in
      record {
        within = omega (arith, linked.spare.0, length-set es (ends_at ls k).end e);
        ends = marked-other (with_part parts taken (end_of k)) (ends_at ls k).end (claim_in k) taken (λ q. end_off_taken (sym q)) ∙ marked-same parts taken (end_of k);
        linked = subst (λ (x : ℕ). LeadsThrough (claim_in k) (joined_parts parts k taken (ends_at ls k).end) (set es (ends_at ls k).end e) (suc (ends_at ls k).len) (ends_at ls k).first x) (ap (λ (x : Entry). x.next) at_end ∙ next) leads;
      }

  joined_spare : LeadsThrough free (joined_parts parts k taken (ends_at ls k).end) (set es (ends_at ls k).end e) room (at es taken).next 0
  joined_spare =
      let a : Avoids taken es room (at es taken).next = Avoids-first free parts es room taken 0 (off (parts 0) bottom free linked.bottom_at_0 (λ q. let c : ⊥ = cc in c)) linked.spare in
      let b : Avoids (ends_at ls k).end es room (at es taken).next = Avoids-other free parts (ends_at ls k).end es room (at es taken).next 0 (off (parts (ends_at ls k).end) (end_of k) free own_list.ends (λ q. let c : ⊥ = cc in c)) linked.spare.2 in
      Leads-kept free parts (joined_parts parts k taken (ends_at ls k).end) es (set es (ends_at ls k).end e) taken (ends_at ls k).end joined_edits room (at es taken).next 0 a b linked.spare.2

  pub joined : Steps parts (joined_parts parts k taken (ends_at ls k).end) es (set es (ends_at ls k).end e) ls taken (ends_at ls k).end k (joined_ends (ends_at ls k) taken) taken (suc room) (at es taken).next room
  joined =
      let not_taken : 0 ≢ taken = apart parts 0 taken bottom free linked.bottom_at_0 linked.spare.1 (λ q. let c : ⊥ = cc in c) in
      let not_end : 0 ≢ (ends_at ls k).end = apart parts 0 (ends_at ls k).end bottom (end_of k) linked.bottom_at_0 own_list.ends (λ q. let c : ⊥ = cc in c) in
      record {
        linked = linked;
        known = known;
        edits = joined_edits;
        off_i = λ q ne. off-free (parts taken) q linked.spare.1;
        off_j = λ q ne. off-end (parts (ends_at ls k).end) k q own_list.ends ne;
        own = joined_own;
        spare = joined_spare;
        bottom_at_0 = joined_edits.plays 0 not_taken not_end ∙ linked.bottom_at_0;
        same = length-set es (ends_at ls k).end e;
        total = omega arith;
      }

  pub claims-joined : entry_claims (set es (ends_at ls k).end e) (joined_ends (ends_at ls k) taken) ≡ entry_claims es (ends_at ls k) ++ entry_claim e ∷ []
  claims-joined =
      claims-push (claim_in k) parts (joined_parts parts k taken (ends_at ls k).end) es (set es (ends_at ls k).end e) taken (ends_at ls k).len (ends_at ls k).first (ends_at ls k).end joined_edits off_taken off_end own_list.linked
      ∙ ap (λ x. entry_claims es (ends_at ls k) ++ entry_claim x ∷ []) at_end
