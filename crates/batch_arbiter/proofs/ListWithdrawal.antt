-- One walk along a list: the claims of a batch behind its first one leave it, and the others stay.
use Rattle.std.proofs.Common.{ℕ, ◌≡◌, ◌+◌, ◌-◌, ◌<◌, ◌≤◌, List, [], ◌∷◌, ◌++◌, length, get_or, take, drop, refl, sym, ap, ap₂, ◌∙◌, arith, suc, Bool, true, false, not, cond, filter, set, map, Some, None}
use Rattle.std.{specs.Prelude.slice_get, specs.List.remove, proofs.lemmas.List.append_assoc, proofs.lemmas.List.get_or_at, proofs.lemmas.List.get_or-set_same, proofs.lemmas.List.length-append, proofs.lemmas.List.length-drop, proofs.lemmas.List.length-map, proofs.lemmas.List.length-set, proofs.lemmas.List.length-take-le, proofs.lemmas.List.nil_from_length, proofs.lemmas.List.set-get_or, proofs.lemmas.List.set-set, proofs.lemmas.List.take-append-drop, proofs.lemmas.List.Edits.remove-append_right}
use Rattle.batch_arbiter.{specs.declared.entry.Entry.Entry, specs.declared.ends.Ends.Ends, specs.Allocation.Claim, specs.Allocation.asks_of, specs.Allocation.is_of_batch, specs.Linked.Lists, specs.Linked.list_at, specs.Linked.with_list, specs.Linked.at, specs.Linked.no_list, specs.Linked.ends_at, specs.Linked.entry_claim, specs.Linked.entry_claims, specs.Linked.behind, specs.Linked.AreLinkedLists, specs.Linked.unlinked_behind, proofs.EntryRemoval.left_ends, proofs.Calls.length-claims, proofs.Calls.list-seen, proofs.ClaimSearch.claims-behind, proofs.ClaimRemoval.with_one_less, proofs.ClaimRemoval.here-within, proofs.ClaimRemoval.next-is, proofs.ClaimRemoval.next-within, proofs.ClaimRemoval.unlinks}

abbrev pub staying : ℕ → List Claim → List Claim
staying batch claims = filter (λ c. not (is_of_batch batch c)) claims

-- if no claim is the batch's, all stay
all-stay : (batch : ℕ) (cs : List Claim) → asks_of batch cs ≡ 0 → staying batch cs ≡ cs
all-stay batch [] e = refl
all-stay batch (c ∷ cs) e = go (is_of_batch batch c) (all-stay batch cs) e
  where
    go : (t : Bool) → (asks_of batch cs ≡ 0 → staying batch cs ≡ cs) → length (cond t (c ∷ filter (is_of_batch batch) cs) (filter (is_of_batch batch) cs)) ≡ 0
        → cond (not t) (c ∷ staying batch cs) (staying batch cs) ≡ c ∷ cs
    go true h e = absurd (omega arith)
    go false h e = ap (λ xs. c ∷ xs) (h e)

module _ (batch : ℕ) (c : Claim) (cs : List Claim) where
  leaves : is_of_batch batch c ≡ true → (staying batch (c ∷ cs) ≡ staying batch cs) × (asks_of batch (c ∷ cs) ≡ suc (asks_of batch cs))
  leaves own = (rw own refl, rw own refl)

  stays : is_of_batch batch c ≡ false → (staying batch (c ∷ cs) ≡ c ∷ staying batch cs) × (asks_of batch (c ∷ cs) ≡ asks_of batch cs)
  stays other = (rw other refl, rw other refl)

remove-behind : (kept : List Claim) (c : Claim) (rest : List Claim) (n : ℕ) → length kept ≡ n → remove (kept ++ c ∷ rest) n ≡ kept ++ rest
remove-behind kept c rest n e =
    let none : n - n ≡ 0 = omega arith in
    remove-append_right kept (c ∷ rest) n n e (omega arith) ∙ ap (λ k. kept ++ remove (c ∷ rest) k) none

-- The walk along list k, which was that of p, stands behind entry `before`, with i claims passed; so many of the batch's may still leave
pub record IsWalked (p : Lists) (k batch most i before left : ℕ) (es : List Entry) (ls : List Ends) (unused room : ℕ) : Type 0 where
  pub linked : AreLinkedLists es ls unused room
  pub known : k < length ls
  pub listed : k < length p.lists
  pub kept : List Claim
  pub rest : List Claim
  pub place : ℕ
  pub gone : ℕ
  pub now : map (entry_claims es) ls ≡ set p.lists k (kept ++ rest)
  pub count : length kept ≡ suc place
  pub here : before ≡ behind es place (ends_at ls k).first
  pub ahead : i + length rest ≡ length (list_at p k)
  pub stay : kept ++ staying batch rest ≡ take 1 (list_at p k) ++ staying batch (drop 1 (list_at p k))
  pub leave : gone + asks_of batch rest ≡ asks_of batch (drop 1 (list_at p k))
  pub room_is : room ≡ p.room + gone
  pub left_is : left + gone ≡ most

pub walked-first : (p : Lists) (k batch most : ℕ) (es : List Entry) (ls : List Ends) (unused room : ℕ) → AreLinkedLists es ls unused room → k < length ls
    → (let q : Lists = record { lists = map (entry_claims es) ls; room = room } in q) ≡ p → 0 < length (list_at p k)
    → IsWalked p k batch most 1 (ends_at ls k).first most es ls unused room
walked-first p k batch most es ls unused room linked known is some =
    record {
      linked = linked;
      known = known;
      listed = omega (arith, known, ap (λ (q : Lists). length q.lists) is, length-map ls (entry_claims es));
      kept = take 1 (list_at p k);
      rest = drop 1 (list_at p k);
      place = 0;
      gone = 0;
      now = ap (λ (q : Lists). q.lists) is ∙ sym (set-get_or p.lists k []) ∙ ap (set p.lists k) (sym (take-append-drop 1 (list_at p k)));
      count = omega (arith, length-take-le 1 (list_at p k) (omega (arith, some)));
      here = refl;
      ahead = omega (arith, length-drop 1 (list_at p k), some);
      stay = refl;
      leave = omega arith;
      room_is = omega (arith, ap (λ (q : Lists). q.room) is);
      left_is = omega arith;
    }

module _ (p : Lists) (k batch most i before left : ℕ) (es : List Entry) (ls : List Ends) (unused room : ℕ) (w : IsWalked p k batch most i before left es ls unused room) where
  own-claims : entry_claims es (ends_at ls k) ≡ w.kept ++ w.rest
  own-claims = sym (list-seen es ls k w.known) ∙ ap (λ xs. get_or xs k []) w.now ∙ get_or-set_same p.lists k (w.kept ++ w.rest) [] w.listed

  long : (ends_at ls k).len ≡ suc w.place + length w.rest
  long = sym (length-claims es (ends_at ls k).len (ends_at ls k).first) ∙ ap length own-claims ∙ length-append w.kept w.rest ∙ ap (λ n. n + length w.rest) w.count

  module _ (lt : i < length (list_at p k)) where
    within : suc w.place < (ends_at ls k).len
    within = omega (arith, long, w.ahead, lt)

    pub walked-within : (before < length es) × ((at es before).next < length es) × (0 < (ends_at ls k).len)
    walked-within = (
      here-within es ls k unused room w.place before w.known w.linked w.here within,
      next-within es ls k unused room w.place before w.known w.linked w.here within,
      omega (arith, within),
    )

    first-ahead : (c : Claim) × (more : List Claim) × (w.rest ≡ c ∷ more)
    first-ahead = go w.rest (omega (arith, w.ahead, lt))
      where
        go : (xs : List Claim) → 0 < length xs → (c : Claim) × (more : List Claim) × (xs ≡ c ∷ more)
        go [] h = absurd (omega arith)
        go (c ∷ more) h = (c, more, refl)

    next-claim : first-ahead.0 ≡ entry_claim (at es (at es before).next)
    next-claim =
        let a = first-ahead in
        sym (get_or_at w.kept a.0 a.1 a.0 (suc w.place) w.count)
        ∙ ap (λ cs. get_or cs (suc w.place) a.0) (ap (λ xs. w.kept ++ xs) (sym a.2) ∙ sym own-claims)
        ∙ claims-behind es (ends_at ls k).len (ends_at ls k).first (suc w.place) a.0 within
        ∙ ap (λ x. entry_claim (at es x)) (sym (next-is es ls k unused room w.place before w.known w.linked w.here within))

    pub walked-gone : is_of_batch batch (entry_claim (at es (at es before).next)) ≡ true → 0 < left
        → IsWalked p k batch most (i + 1) before (left - 1) (unlinked_behind es before unused) (with_one_less ls k) (at es before).next (room + 1)
    walked-gone own some =
        let a = first-ahead in
        let less = leaves batch a.0 a.1 (ap (is_of_batch batch) next-claim ∙ own) in
        let u = unlinks es ls k unused room w.place before w.known w.linked w.here within in
        let claims : remove (entry_claims es (ends_at ls k)) (suc w.place) ≡ w.kept ++ a.1 =
        ap (λ cs. remove cs (suc w.place)) (own-claims ∙ ap (λ xs. w.kept ++ xs) a.2) ∙ remove-behind w.kept a.0 a.1 (suc w.place) w.count in
        record {
          linked = u.0;
          known = omega (arith, w.known, length-set ls k (left_ends (ends_at ls k) (ends_at ls k).first ((ends_at ls k).len - 1)));
          listed = w.listed;
          kept = w.kept;
          rest = a.1;
          place = w.place;
          gone = suc w.gone;
          now = u.1 ∙ ap (set (map (entry_claims es) ls) k) claims ∙ ap (λ xs. set xs k (w.kept ++ a.1)) w.now ∙ set-set p.lists k (w.kept ++ w.rest) (w.kept ++ a.1);
          count = w.count;
          here = sym u.2
              ∙ ap (λ (l : Ends). behind (unlinked_behind es before unused) w.place l.first)
              (sym (get_or-set_same ls k (left_ends (ends_at ls k) (ends_at ls k).first ((ends_at ls k).len - 1)) no_list w.known));
          ahead = omega (arith, w.ahead, ap length a.2);
          stay = ap (λ xs. w.kept ++ xs) (sym less.0 ∙ ap (staying batch) (sym a.2)) ∙ w.stay;
          leave = omega (arith, w.leave, less.1, ap (asks_of batch) a.2);
          room_is = omega (arith, w.room_is);
          left_is = omega (arith, w.left_is, some);
        }

    pub walked-kept : is_of_batch batch (entry_claim (at es (at es before).next)) ≡ false → IsWalked p k batch most (i + 1) (at es before).next left es ls unused room
    walked-kept other =
        let a = first-ahead in
        let same = stays batch a.0 a.1 (ap (is_of_batch batch) next-claim ∙ other) in
        record {
          linked = w.linked;
          known = w.known;
          listed = w.listed;
          kept = w.kept ++ a.0 ∷ [];
          rest = a.1;
          place = suc w.place;
          gone = w.gone;
          now = w.now ∙ ap (set p.lists k) (ap (λ xs. w.kept ++ xs) a.2 ∙ sym (append_assoc w.kept (a.0 ∷ []) a.1));
          count = omega (arith, length-append w.kept (a.0 ∷ []), w.count);
          here = next-is es ls k unused room w.place before w.known w.linked w.here within;
          ahead = omega (arith, w.ahead, ap length a.2);
          stay = append_assoc w.kept (a.0 ∷ []) (staying batch a.1) ∙ ap (λ xs. w.kept ++ xs) (sym same.0 ∙ ap (staying batch) (sym a.2)) ∙ w.stay;
          leave = omega (arith, w.leave, same.1, ap (asks_of batch) a.2);
          room_is = w.room_is;
          left_is = w.left_is;
        }

  -- none of the batch's is left
  all-out : asks_of batch w.rest ≡ 0
      → (let q : Lists = record { lists = map (entry_claims es) ls; room = room } in q) ≡ with_list p k (take 1 (list_at p k) ++ staying batch (drop 1 (list_at p k))) (p.room + asks_of batch (drop 1 (list_at p k)))
  all-out none =
      let room : room ≡ p.room + asks_of batch (drop 1 (list_at p k)) = omega (arith, w.room_is, w.leave, none) in
      ap₂ (λ xs n. let q : Lists = record { lists = xs; room = n } in q) (w.now ∙ ap (set p.lists k) (ap (λ xs. w.kept ++ xs) (sym (all-stay batch w.rest none)) ∙ w.stay)) room

  pub walked-through : length (list_at p k) ≤ i
      → (let q : Lists = record { lists = map (entry_claims es) ls; room = room } in q) ≡ with_list p k (take 1 (list_at p k) ++ staying batch (drop 1 (list_at p k))) (p.room + asks_of batch (drop 1 (list_at p k)))
  walked-through past = all-out (ap (asks_of batch) (nil_from_length w.rest (omega (arith, w.ahead, past))))

  pub walked-enough : left ≡ 0 → asks_of batch (drop 1 (list_at p k)) ≤ most
      → (let q : Lists = record { lists = map (entry_claims es) ls; room = room } in q) ≡ with_list p k (take 1 (list_at p k) ++ staying batch (drop 1 (list_at p k))) (p.room + asks_of batch (drop 1 (list_at p k)))
  walked-enough none few = all-out (omega (arith, w.leave, w.left_is, none, few))

-- The first claim, when those behind it are gone

-- list k is the one that was put there last
list-with : (p : Lists) (k room : ℕ) (claims : List Claim) → k < length p.lists → list_at (with_list p k claims room) k ≡ claims
list-with p k room claims h = get_or-set_same p.lists k claims [] h

with-with : (p : Lists) (k room room' : ℕ) (claims claims' : List Claim) → with_list (with_list p k claims room) k claims' room' ≡ with_list p k claims' room'
with-with p k room room' claims claims' = ap (λ ls. record { lists = ls; room = room' }) (set-set p.lists k claims claims')

-- it is the batch's, and leaves too
pub thinned-first : (p q s : Lists) (k batch : ℕ) (cs : List Claim) (c : Claim) → k < length p.lists → Some c ≡ slice_get cs 0 → is_of_batch batch c ≡ true
    → q ≡ with_list p k (take 1 cs ++ staying batch (drop 1 cs)) (p.room + asks_of batch (drop 1 cs)) → s ≡ with_list q k (drop 1 (list_at q k)) (q.room + 1)
    → s ≡ with_list p k (staying batch cs) (p.room + asks_of batch cs)
thinned-first p q s k batch [] c known e own mid after = absurd cc
thinned-first p q s k batch (d ∷ more) c known e own mid after =
    let same : c ≡ d = cc in
    let less = leaves batch d more (ap (is_of_batch batch) (sym same) ∙ own) in
    let n : ℕ = p.room + asks_of batch more in
    let left : List Claim = d ∷ staying batch more in
    let room : n + 1 ≡ p.room + asks_of batch (d ∷ more) = omega (arith, less.1) in
    after
    ∙ ap (λ (x : Lists). with_list x k (drop 1 (list_at x k)) (x.room + 1)) mid
    ∙ ap (λ cs. with_list (with_list p k left n) k (drop 1 cs) (n + 1)) (list-with p k n left known)
    ∙ with-with p k n (n + 1) left (staying batch more)
    ∙ ap₂ (with_list p k) (sym less.0) room

-- the batch has none in the list
pub thinned-none : (p : Lists) (k batch : ℕ) → asks_of batch (list_at p k) ≡ 0 → p ≡ with_list p k (staying batch (list_at p k)) (p.room + asks_of batch (list_at p k))
thinned-none p k batch none =
    let room : p.room + asks_of batch (list_at p k) ≡ p.room = omega (arith, none) in
    sym (ap₂ (with_list p k) (all-stay batch (list_at p k) none) room ∙ ap (λ ls. record { lists = ls; room = p.room }) (set-get_or p.lists k []))

-- the list is empty
pub none-first : (batch : ℕ) (cs : List Claim) → None ≡ slice_get cs 0 → asks_of batch cs ≡ 0
none-first batch [] e = refl
none-first batch (c ∷ cs) e = absurd cc
