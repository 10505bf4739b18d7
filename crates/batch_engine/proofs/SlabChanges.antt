-- How each change of the slab and of the entries keeps the batches.
use Rattle.std.proofs.Common.{◌≡◌, ◌≢◌, ◌<◌, ◌+◌, refl, sym, ◌∙◌, ap, ap₂, subst, ℕ, zero, suc, List, [], ◌∷◌, ◌++◌, Option, Some, None, is_some, IsSome, inl, inr, cond, arith, length, map, get_or, set, true≢false, length-append}
use Rattle.std.{specs.List.remove, specs.List.cons_option, proofs.lemmas.Bool.cases_eq, proofs.lemmas.List.map_push, proofs.lemmas.List.Edits.length-remove, proofs.lemmas.List.Elements.filter_map-append, proofs.lemmas.List.Sums.sum_by-set}
use Rattle.slab.{specs.Slab.Slab, specs.Slab.ContainsKey, specs.Slab.Updates, specs.Slab.get, specs.Slab.slab_len, specs.Slab.with_value, proofs.SlabLemmas.ContainsKey-within, proofs.SlabLemmas.Updates-with_value}
use Rattle.batch_model.specs.Lists.{Each}
use Rattle.batch_engine.specs.{declared.batch.Batch.Batch, declared.batches.Entry.Entry, Batches.AreRising, Batches.ComesBefore, Batches.HaveOwnNumbers, Batches.IsFiled, Batches.BatchList, Batches.batches_in, Batches.entry_number, Batches.own_number, Batches.list_of, Batches.with_batch, Batches.with_batch_at, Batches.without_batch}

-- Each

pub each-at : {X : Type 0} (P : X → Type 0) (xs : List X) (i : ℕ) (d : X) → Each P xs → i < length xs → P (get_or xs i d)
each-at P [] i d h l = absurd (omega arith)
each-at P (x ∷ xs) zero d h l = h.0
each-at P (x ∷ xs) (suc i) d h l = each-at P xs i d h.1 (omega arith)

each-push : {X : Type 0} (P : X → Type 0) (xs : List X) (y : X) → Each P xs → P y → Each P (xs ++ y ∷ [])
each-push P [] y h k = (k, tt)
each-push P (x ∷ xs) y h k = (h.0, each-push P xs y h.1 k)

pub each-remove : {X : Type 0} (P : X → Type 0) (xs : List X) (i : ℕ) → Each P xs → Each P (remove xs i)
each-remove P [] zero h = tt
each-remove P [] (suc i) h = tt
each-remove P (x ∷ xs) zero h = h.1
each-remove P (x ∷ xs) (suc i) h = (h.0, each-remove P xs i h.1)

each-both : {X : Type 0} (P Q R : X → Type 0) → ((x : X) → P x → Q x → R x) → (xs : List X) → Each P xs → Each Q xs → Each R xs
each-both P Q R f [] h k = tt
each-both P Q R f (x ∷ xs) h k = (f x h.0 k.0, each-both P Q R f xs h.1 k.1)

each-of-map : {X Y : Type 0} (P : Y → Type 0) (f : X → Y) (xs : List X) → Each P (map f xs) → Each (λ x. P (f x)) xs
each-of-map P f [] h = tt
each-of-map P f (x ∷ xs) h = (h.0, each-of-map P f xs h.1)

pub map-remove : {X Y : Type 0} (f : X → Y) (xs : List X) (i : ℕ) → map f (remove xs i) ≡ remove (map f xs) i
map-remove f [] zero = refl
map-remove f [] (suc i) = refl
map-remove f (x ∷ xs) zero = refl
map-remove f (x ∷ xs) (suc i) = ap (λ ys. f x ∷ ys) (map-remove f xs i)

-- Keys

abbrev Occupied : Slab Batch → List Entry → Type 0
Occupied slab es = Each (λ (e : Entry). ContainsKey slab e.key) es

-- no entry has the key
abbrev Avoids : ℕ → List Entry → Type 0
Avoids key es = Each (λ (e : Entry). e.key ≢ key) es

-- no other key changes
abbrev pub LeavesOthers : Slab Batch → Slab Batch → ℕ → Type 0
LeavesOthers old new key = (other : ℕ) → other ≢ key → get new other ≡ get old other

some-of : (o : Option Batch) → IsSome o → (b : Batch) × (o ≡ Some b)
some-of None h = absurd (true≢false (sym h))
some-of (Some b) h = (b, refl)

cons-some : (o : Option Batch) (b : Batch) (bs : List Batch) → o ≡ Some b → cons_option o bs ≡ b ∷ bs
cons-some o b bs e = ap (λ z. cons_option z bs) e

pub occupied-at : (slab : Slab Batch) (es : List Entry) (i : ℕ) (d : Entry) → Occupied slab es → i < length es → ContainsKey slab (get_or es i d).key
occupied-at slab es i d h l = each-at (λ (e : Entry). ContainsKey slab e.key) es i d h l

pub length-batches : (slab : Slab Batch) (es : List Entry) → Occupied slab es → length (batches_in slab es) ≡ length es
length-batches slab [] h = refl
length-batches slab (e ∷ es) h =
    let f = some-of (get slab e.key) h.0 in
    ap (λ xs. length xs) (cons-some (get slab e.key) f.0 (batches_in slab es) f.1) ∙ ap suc (length-batches slab es h.1)

-- an index of a batch is one of an entry
pub in-entries : (r : BatchList) (slab : Slab Batch) (es : List Entry) (i : ℕ) → list_of slab es ≡ r → Occupied slab es → i < length r.batches → i < length es
in-entries r slab es i e h l = omega (arith, ap (λ (z : BatchList). length z.batches) e, length-batches slab es h, l)

-- the batch under an entry's key is the one at the entry's index
pub batch-read : (slab : Slab Batch) (es : List Entry) (i : ℕ) (d : Entry) (b : Batch) → Occupied slab es → i < length es → get slab (get_or es i d).key ≡ Some b → b ≡ get_or (batches_in slab es) i b
batch-read slab [] i d b h l e = absurd (omega arith)
batch-read slab (x ∷ xs) zero d b h l e = sym (ap (λ ys. get_or ys 0 b) (cons-some (get slab x.key) b (batches_in slab xs) e))
batch-read slab (x ∷ xs) (suc i) d b h l e =
    let f = some-of (get slab x.key) h.0 in
    batch-read slab xs i d b h.1 (omega arith) e ∙ sym (ap (λ ys. get_or ys (suc i) b) (cons-some (get slab x.key) f.0 (batches_in slab xs) f.1))

untouched : (old new : Slab Batch) (key : ℕ) → LeavesOthers old new key → (es : List Entry) → Avoids key es → batches_in new es ≡ batches_in old es
untouched old new key same [] h = refl
untouched old new key same (e ∷ es) h = ap₂ (λ o bs. cons_option o bs) (same e.key h.0) (untouched old new key same es h.1)

stays-occupied : (old new : Slab Batch) (key : ℕ) → LeavesOthers old new key → (es : List Entry) → Occupied old es → Avoids key es → Occupied new es
stays-occupied old new key same es h k =
    each-both (λ (e : Entry). ContainsKey old e.key) (λ (e : Entry). e.key ≢ key) (λ (e : Entry). ContainsKey new e.key)
    (λ e there other. subst IsSome (sym (same e.key other)) there) es h k

-- a key without a batch is no entry's
pub vacant-avoids : (slab : Slab Batch) (key : ℕ) → get slab key ≡ None → (es : List Entry) → Occupied slab es → Avoids key es
vacant-avoids slab key none [] h = tt
vacant-avoids slab key none (e ∷ es) h =
    (λ same. let f : get slab e.key ≡ None = ap (get slab) same ∙ none in true≢false (sym (subst IsSome f h.0)), vacant-avoids slab key none es h.1)

-- Rising numbers

rising-push : (es : List Entry) (y : Entry) → AreRising es → Each (λ (e : Entry). ComesBefore e y) es → AreRising (es ++ y ∷ [])
rising-push [] y h k = (tt, tt)
rising-push (e ∷ es) y h k = (each-push (ComesBefore e) es y h.0 k.0, rising-push es y h.1 k.1)

rising-remove : (es : List Entry) (i : ℕ) → AreRising es → AreRising (remove es i)
rising-remove [] zero h = tt
rising-remove [] (suc i) h = tt
rising-remove (e ∷ es) zero h = h.1
rising-remove (e ∷ es) (suc i) h = (each-remove (ComesBefore e) es i h.0, rising-remove es i h.1)

-- the other entries have other keys
others-avoid : (es : List Entry) (i : ℕ) (d : Entry) → AreRising es → i < length es → Avoids (get_or es i d).key (remove es i)
others-avoid [] i d h l = absurd (omega arith)
others-avoid (e ∷ es) zero d h l = each-both (ComesBefore e) (ComesBefore e) (λ (x : Entry). x.key ≢ e.key) (λ x b c same. b.key (sym same)) es h.0 h.0
others-avoid (e ∷ es) (suc i) d h l = ((each-at (ComesBefore e) es i d h.0 (omega arith)).key, others-avoid es i d h.1 (omega arith))

pub numbers-rise : (es : List Entry) (i j : ℕ) (d : Entry) → AreRising es → i < j → j < length es → (get_or es i d).number < (get_or es j d).number
numbers-rise [] i j d h lt l = absurd (omega arith)
numbers-rise (e ∷ es) i zero d h lt l = absurd (omega arith)
numbers-rise (e ∷ es) zero (suc j) d h lt l = (each-at (ComesBefore e) es j d h.0 (omega arith)).number
numbers-rise (e ∷ es) (suc i) (suc j) d h lt l = numbers-rise es i j d h.1 (omega arith) (omega arith)

-- Another batch under an entry's key

pub batches-set : (slab : Slab Batch) (es : List Entry) (i : ℕ) (d : Entry) (w : Batch) → Occupied slab es → AreRising es → i < length es
    → batches_in (with_value slab (get_or es i d).key w) es ≡ set (batches_in slab es) i w
batches-set slab es i d w h o l =
    let key = (get_or es i d).key in
    let u : Updates slab (with_value slab key w) key (Some w) = Updates-with_value slab key w (occupied-at slab es i d h l) in
    go (with_value slab key w) key u.changed u.others es i h o l refl
  where
    go : (new : Slab Batch) (key : ℕ) → get new key ≡ Some w → LeavesOthers slab new key → (xs : List Entry) (j : ℕ) → Occupied slab xs → AreRising xs → j < length xs → (get_or xs j d).key ≡ key
        → batches_in new xs ≡ set (batches_in slab xs) j w
    go new key is same [] j h o l at = absurd (omega arith)
    go new key is same (x ∷ xs) zero h o l at =
        let f = some-of (get slab x.key) h.0 in
        cons-some (get new x.key) w (batches_in new xs) (ap (get new) at ∙ is)
        ∙ ap (λ bs. w ∷ bs) (untouched slab new key same xs (subst (λ k. Avoids k xs) at (others-avoid (x ∷ xs) zero d o (omega arith))))
        ∙ sym (ap (λ bs. set bs 0 w) (cons-some (get slab x.key) f.0 (batches_in slab xs) f.1))
    go new key is same (x ∷ xs) (suc j) h o l at =
        let f = some-of (get slab x.key) h.0 in
        let other : x.key ≢ key = λ e. (each-at (ComesBefore x) xs j d o.0 (omega arith)).key (e ∙ sym at) in
        cons-some (get new x.key) f.0 (batches_in new xs) (same x.key other ∙ f.1)
        ∙ ap (λ bs. f.0 ∷ bs) (go new key is same xs j h.1 o.1 (omega arith) at)
        ∙ sym (ap (λ bs. set bs (suc j) w) (cons-some (get slab x.key) f.0 (batches_in slab xs) f.1))

pub filed-set : (slab : Slab Batch) (es : List Entry) (i : ℕ) (d : Entry) (w : Batch) → IsFiled slab es → i < length es → IsFiled (with_value slab (get_or es i d).key w) es
filed-set slab es i d w f l =
    let key = (get_or es i d).key in
    let there : ContainsKey slab key = occupied-at slab es i d f.occupied l in
    let u : Updates slab (with_value slab key w) key (Some w) = Updates-with_value slab key w there in
    let counted = sum_by-set (λ (o : Option Batch). cond (is_some o) 1 0) slab.slots key (Some w) None (ContainsKey-within slab key there) in
    let one : ◌≡◌ {A = ℕ} (cond (is_some (get slab key)) 1 0) 1 = ap (λ t. cond t 1 0) there in
    record {
      occupied = each-both (λ (e : Entry). ContainsKey slab e.key) (λ (e : Entry). ContainsKey slab e.key) (λ (e : Entry). ContainsKey (with_value slab key w) e.key)
          (λ e h k. elim (cases_eq e.key key) [
            | inl same ↦ subst IsSome (sym (ap (get (with_value slab key w)) same ∙ u.changed)) refl
            | inr other ↦ subst IsSome (sym (u.others e.key other)) h
          ]) es f.occupied f.occupied;
      rising = f.rising;
      count = omega (arith, counted, one, f.count);
    }

-- One more batch

pub batches-push : (old new : Slab Batch) (es : List Entry) (y : Entry) (b : Batch) → Occupied old es → get old y.key ≡ None → Updates old new y.key (Some b) → batches_in new (es ++ y ∷ []) ≡ batches_in old es ++ b ∷ []
batches-push old new es y b h none u =
    filter_map-append (λ (e : Entry). get new e.key) es (y ∷ [])
    ∙ ap₂ (λ xs ys. xs ++ ys) (untouched old new y.key u.others es (vacant-avoids old y.key none es h)) (cons-some (get new y.key) b [] u.changed)

pub filed-push : (old new : Slab Batch) (es : List Entry) (y : Entry) (b : Batch) → IsFiled old es → get old y.key ≡ None → Updates old new y.key (Some b) → slab_len new ≡ slab_len old + 1
    → Each (λ m. m < y.number) (map entry_number es) → IsFiled new (es ++ y ∷ [])
filed-push old new es y b f none u more above =
    let avoids : Avoids y.key es = vacant-avoids old y.key none es f.occupied in
    record {
      occupied = each-push (λ (e : Entry). ContainsKey new e.key) es y (stays-occupied old new y.key u.others es f.occupied avoids) (subst IsSome (sym u.changed) refl);
      rising = rising-push es y f.rising
          (each-both (λ (e : Entry). e.number < y.number) (λ (e : Entry). e.key ≢ y.key) (λ (e : Entry). ComesBefore e y) (λ e n k. record { number = n; key = k }) es
          (each-of-map (λ m. m < y.number) entry_number es above) avoids);
      count = omega (arith, more, f.count, length-append es (y ∷ []));
    }

-- One batch less

pub batches-remove : (old new : Slab Batch) (es : List Entry) (i : ℕ) (d : Entry) → IsFiled old es → i < length es → LeavesOthers old new (get_or es i d).key
    → batches_in new (remove es i) ≡ remove (batches_in old es) i
batches-remove old new es i d f l same = untouched old new (get_or es i d).key same (remove es i) (others-avoid es i d f.rising l) ∙ go es i f.occupied
  where
    go : (xs : List Entry) (j : ℕ) → Occupied old xs → batches_in old (remove xs j) ≡ remove (batches_in old xs) j
    go [] zero h = refl
    go [] (suc j) h = refl
    go (x ∷ xs) zero h = let g = some-of (get old x.key) h.0 in sym (ap (λ bs. remove bs 0) (cons-some (get old x.key) g.0 (batches_in old xs) g.1))
    go (x ∷ xs) (suc j) h =
        let g = some-of (get old x.key) h.0 in
        cons-some (get old x.key) g.0 (batches_in old (remove xs j)) g.1 ∙ ap (λ bs. g.0 ∷ bs) (go xs j h.1)
        ∙ sym (ap (λ bs. remove bs (suc j)) (cons-some (get old x.key) g.0 (batches_in old xs) g.1))

pub filed-remove : (old new : Slab Batch) (es : List Entry) (i : ℕ) (d : Entry) → IsFiled old es → i < length es → LeavesOthers old new (get_or es i d).key → slab_len new + 1 ≡ slab_len old → IsFiled new (remove es i)
filed-remove old new es i d f l same less =
    record {
      occupied = stays-occupied old new (get_or es i d).key same (remove es i) (each-remove (λ (e : Entry). ContainsKey old e.key) es i f.occupied) (others-avoid es i d f.rising l);
      rising = rising-remove es i f.rising;
      count = omega (arith, less, f.count, length-remove es i l);
    }

-- room alone changes no batch
pub filed-roomy : (slab : Slab Batch) (room : ℕ) (es : List Entry) → IsFiled slab es → IsFiled (record slab { capacity = room }) es
filed-roomy slab room es f = record { occupied = f.occupied; rising = f.rising; count = f.count }

-- Own numbers

-- a batch that keeps its number
pub own-numbers-set : (r : BatchList) (i : ℕ) (b b' : Batch) → b ≡ get_or r.batches i b → b'.number ≡ b.number → HaveOwnNumbers r → HaveOwnNumbers (with_batch_at i r b')
own-numbers-set r i b b' at same own = own ∙ sym (go r.batches i at)
  where
    go : (xs : List Batch) (j : ℕ) → b ≡ get_or xs j b → map own_number (set xs j b') ≡ map own_number xs
    go [] zero e = refl
    go [] (suc j) e = refl
    go (x ∷ xs) zero e = ap (λ n. n ∷ map own_number xs) (same ∙ ap own_number e)
    go (x ∷ xs) (suc j) e = ap (λ ns. x.number ∷ ns) (go xs j e)

pub own-numbers-push : (r : BatchList) (b : Batch) → HaveOwnNumbers r → HaveOwnNumbers (with_batch b r)
own-numbers-push r b own = ap (λ ns. ns ++ b.number ∷ []) own ∙ sym (map_push own_number r.batches b)

pub own-numbers-remove : (r : BatchList) (i : ℕ) → HaveOwnNumbers r → HaveOwnNumbers (without_batch i r)
own-numbers-remove r i own = ap (λ ns. remove ns i) own ∙ sym (map-remove own_number r.batches i)
