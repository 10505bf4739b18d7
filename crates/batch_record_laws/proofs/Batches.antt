-- A change of one act of one batch, among the entries of all batches.
use Rattle.std.proofs.Common.{arith, ◌≡◌, refl, sym, ◌∙◌, ap, ap₂, subst, ℕ, ◌<◌, List, [], ◌∷◌, ◌++◌, Bool, true, false, map, filter, flat_map, take, slice_get, Option, inl, inr, ◌⊎◌, ⊎_elim, bytes_eq, nat_eq, append-nil, append_assoc}
use Rattle.std.proofs.lemmas.{List.map-append, Grind.flat_map-append}
use Rattle.batch_model.{specs.Lists.Has, specs.Rest.Rest, specs.Rest.ready, specs.Rest.asking, specs.Rest.open_act, specs.Rest.live, specs.Rest.freeing, specs.Rest.in_seq, specs.Rest.in_par, specs.Rest.in_loop, specs.Rest.done, specs.Rest.Rests, specs.Rest.no_rests, specs.Rest.rest, specs.Rest.acts, specs.Rest.acts_of_each, specs.Rest.changed_at, specs.Rest.place_of, specs.Plant.InAdvance, specs.Plant.Batch, specs.Plant.BatchAct, specs.Plant.Share, specs.Plant.Plant, specs.Plant.held_by, specs.Plant.holders, proofs.Members.Has-split, proofs.Members.Has-right, proofs.Members.Has-flat_map}
use Rattle.batch_recipe.specs.{Conditions.Name, Tree.Place, Tree.Phase, declared.need.Need.Need}
use Rattle.batch_record_laws.proofs.{RanksOfAsks.holding-performing, RanksOfAsks.holding-awaiting, PlantFacts.Fact, PlantFacts.awaiting, PlantFacts.performing, PlantFacts.Standing, PlantFacts.held_at, PlantFacts.awaited_at, PlantFacts.holding, PlantFacts.facts, PlantFacts.facts_of_each, PlantFacts.early_facts, PlantFacts.batch_facts, PlantFacts.Entry, PlantFacts.entry, PlantFacts.entries_of, PlantFacts.entries, PlantFacts.holder_of, PlantFacts.holders_among, PlantFacts.share, Members.Has-map, Members.map-Has, FactsAfterChange.Frame, FactsAfterChange.Frames, FactsAfterChange.IsElsewhere, FactsAfterChange.frame-after, FactsAfterChange.regroup, Entries.nat_same, Entries.nat_self, Entries.holders-append}
use Rattle.batch_step_laws.proofs.HoldersInAdvance.{flat_map-Has}

-- The model's holders are those among the entries

abbrev of_resource : Name → Need → Bool
of_resource q r = bytes_eq q r.resource

held-holders : (n : ℕ) (q : Name) (p : Place) (needs : List Need)
    → map (λ r. share (n, p) r.units) (filter (of_resource q) needs) ≡ holders_among q (map (entry n) (held_at p needs))
held-holders n q p [] = refl
held-holders n q p (r ∷ needs) = grind (arith, held-holders n q p needs)

abbrev holders_at : ℕ → Name → Rest → List Share
holders_at n q a = map (λ r. share (n, place_of a) r.units) (filter (of_resource q) (held_by a))

awaited-holders : (n : ℕ) (q : Name) (p : Place) (o : Option Need) → holders_among q (map (entry n) (awaited_at p o)) ≡ []
awaited-holders n q p o = grind arith

pub append-holders : (n : ℕ) (q : Name) (xs ys : List Standing)
    → holders_among q (map (entry n) (xs ++ ys)) ≡ holders_among q (map (entry n) xs) ++ holders_among q (map (entry n) ys)
append-holders n q xs ys = ap (holders_among q) (map-append (entry n) xs ys) ∙ holders-append q (map (entry n) xs) (map (entry n) ys)

mutual
  acts-holders : (n : ℕ) (q : Name) (r : Rest) → flat_map (holders_at n q) (acts r) ≡ holders_among q (map (entry n) (facts r))
  acts-holders n q (ready s w k) = append-nil (holders_at n q (ready s w k)) ∙ held-holders n q s.place (take k s.needs)
  acts-holders n q (asking s w k) =
      ap₂ (λ xs ys. xs ++ ys) (held-holders n q s.place (take k s.needs)) (sym (awaited-holders n q s.place (slice_get s.needs k)))
      ∙ sym (append-holders n q (held_at s.place (take k s.needs)) (awaited_at s.place (slice_get s.needs k)))
  acts-holders n q (open_act s r) =
      ap₂ (λ xs ys. xs ++ ys) (held-holders n q s.place s.needs) (acts-holders n q r) ∙ sym (append-holders n q (held_at s.place s.needs) (facts r))
  acts-holders n q (live s x t) =
      ap (λ xs. xs ++ []) (held-holders n q s.place s.needs) ∙ sym (append-holders n q (held_at s.place s.needs) ((s.place, performing x) ∷ []))
  acts-holders n q (freeing s k) = append-nil (holders_at n q (freeing s k)) ∙ held-holders n q s.place (take k s.needs)
  acts-holders n q (in_seq r cs) = acts-holders n q r
  acts-holders n q (in_par rs) = acts_of_each-holders n q rs
  acts-holders n q (in_loop m c body r) = acts-holders n q r
  acts-holders n q done = refl

  acts_of_each-holders : (n : ℕ) (q : Name) (rs : Rests) → flat_map (holders_at n q) (acts_of_each rs) ≡ holders_among q (map (entry n) (facts_of_each rs))
  acts_of_each-holders n q no_rests = refl
  acts_of_each-holders n q (rest r rs) = grind (arith, acts_of_each-holders n q rs, acts-holders n q r, append-holders n q (facts r) (facts_of_each rs), flat_map-append)

-- the shares that are held in advance
abbrev early_at : ℕ → Name → InAdvance → List Share
early_at n q held = elim (bytes_eq q held.unit.resource) [ true ↦ share (n, held.place) held.unit.units ∷ [] | false ↦ [] ]

early-holders : (n : ℕ) (q : Name) (xs : List InAdvance) → flat_map (early_at n q) xs ≡ holders_among q (map (entry n) (early_facts xs))
early-holders n q [] = refl
early-holders n q (held ∷ xs) = ap (λ zs. holder_of q ((n, held.place), holding held.unit) ++ zs) (early-holders n q xs)

batch-holders : (q : Name) (b : Batch) → flat_map (early_at b.number q) b.in_advance ++ flat_map (holders_at b.number q) (acts b.rest) ≡ holders_among q (entries_of b)
batch-holders q b =
    ap₂ (λ xs ys. xs ++ ys) (early-holders b.number q b.in_advance) (acts-holders b.number q b.rest) ∙ sym (append-holders b.number q (early_facts b.in_advance) (facts b.rest))

batches-holders : (q : Name) (bs : List Batch) → flat_map (λ b. flat_map (early_at b.number q) b.in_advance ++ flat_map (holders_at b.number q) (acts b.rest)) bs ≡ holders_among q (entries bs)
batches-holders q [] = refl
batches-holders q (b ∷ bs) = ap₂ (λ xs ys. xs ++ ys) (batch-holders q b) (batches-holders q bs) ∙ sym (holders-append q (entries_of b) (entries bs))

pub holders-entries : (s : Plant) (q : Name) → holders s q ≡ holders_among q (entries s.batches)
holders-entries s q = batches-holders q s.batches

-- Batches with numbers of their own

-- the numbers differ and are below next
abbrev pub NumbersDiffer : ℕ → List Batch → Type 0
NumbersDiffer next [] = Unit {0}
NumbersDiffer next (b ∷ bs) = (b.number < next) × ((c : Batch) → Has bs c → c.number ≡ b.number → ⊥) × NumbersDiffer next bs

-- g changes batch n alone
abbrev pub only : ℕ → (Batch → Batch) → Batch → Batch
only n g b = elim (nat_eq b.number n) [ true ↦ g b | false ↦ b ]

pub only-hit : (n : ℕ) (g : Batch → Batch) (b : Batch) → b.number ≡ n → only n g b ≡ g b
only-hit n g b e = grind arith

pub only-miss : (n : ℕ) (g : Batch → Batch) (b : Batch) → (b.number ≡ n → ⊥) → only n g b ≡ b
only-miss n g b d = grind arith

pub others-same : (n : ℕ) (g : Batch → Batch) (bs : List Batch) → ((c : Batch) → Has bs c → c.number ≡ n → ⊥) → map (only n g) bs ≡ bs
others-same n g [] d = refl
others-same n g (b ∷ bs) d = ap₂ (λ x xs. x ∷ xs) (only-miss n g b (d b (inl refl))) (others-same n g bs (λ c h. d c (inr h)))

pub below-next : (next : ℕ) (bs : List Batch) (b : Batch) → NumbersDiffer next bs → Has bs b → b.number < next
below-next next [] b h k = absurd k
below-next next (c ∷ bs) b h (inl e) = subst (λ z. z.number < next) e h.0
below-next next (c ∷ bs) b h (inr k) = below-next next bs b h.2 k

-- batches of one number are one
pub same-batch : (next : ℕ) (bs : List Batch) (b c : Batch) → NumbersDiffer next bs → Has bs b → Has bs c → b.number ≡ c.number → b ≡ c
same-batch next [] b c h i j e = absurd i
same-batch next (d ∷ bs) b c h (inl p) (inl q) e = sym p ∙ q
same-batch next (d ∷ bs) b c h (inl p) (inr j) e = absurd (h.1 c j (sym e ∙ sym (ap (λ z. z.number) p)))
same-batch next (d ∷ bs) b c h (inr i) (inl q) e = absurd (h.1 b i (e ∙ sym (ap (λ z. z.number) q)))
same-batch next (d ∷ bs) b c h (inr i) (inr j) e = same-batch next bs b c h.2 i j e

-- after the change of b there are the changed b and the others
pub Has-only : (next : ℕ) (bs : List Batch) (b : Batch) (g : Batch → Batch) (c : Batch) → NumbersDiffer next bs → Has bs b → Has (map (only b.number g) bs) c
    → (c ≡ g b) ⊎ (Has bs c × (c.number ≡ b.number → ⊥))
Has-only next bs b g c h i k = grind (arith, Has-map, nat_same, only-hit, same-batch, nat_self, only-miss)

-- no entry is of the act
abbrev pub AreOthers : BatchAct → List Entry → Type 0
AreOthers a es = (e : Entry) → Has es e → e.0 ≡ a → ⊥

-- the facts of a batch with an act's apart, so that changes of the act change these alone
abbrev pub BatchFrame : Batch → Rest → Type 0
BatchFrame b a = Frames (batch_facts b) (λ f. early_facts b.in_advance ++ facts (changed_at (place_of a) f b.rest)) a

pub batch-frame : (b : Batch) (a : Rest) → Frame b.rest a → IsElsewhere (place_of a) (early_facts b.in_advance) → BatchFrame b a
batch-frame b a f el =
    frame-after (early_facts b.in_advance) (facts b.rest) (λ g. facts (changed_at (place_of a) g b.rest)) (λ g. early_facts b.in_advance ++ facts (changed_at (place_of a) g b.rest)) a el (λ g. refl) f

abbrev pub PlantFrame : List Batch → Batch → Rest → Type 0
PlantFrame bs b a =
    (front : List Entry) × (back : List Entry)
    × (entries bs ≡ front ++ (map (entry b.number) (facts a) ++ back))
    × ((g : Batch → Batch) (f : Rest → Rest) → (g b).number ≡ b.number → batch_facts (g b) ≡ early_facts b.in_advance ++ facts (changed_at (place_of a) f b.rest)
    → entries (map (only b.number g) bs) ≡ front ++ (map (entry b.number) (facts (f a)) ++ back))
    × AreOthers (b.number, place_of a) front
    × AreOthers (b.number, place_of a) back

split-map : (n : ℕ) (front middle back : List Standing) → map (entry n) (front ++ (middle ++ back)) ≡ map (entry n) front ++ (map (entry n) middle ++ map (entry n) back)
split-map n front middle back = map-append (entry n) front (middle ++ back) ∙ ap (λ z. map (entry n) front ++ z) (map-append (entry n) middle back)

elsewhere-others : (n : ℕ) (p : Place) (es : List Standing) → ((e : Standing) → Has es e → e.0 ≡ p → ⊥) → AreOthers (n, p) (map (entry n) es)
elsewhere-others n p es d e h q =
    let k = Has-map (entry n) es e h in d k.0 k.1 (ap (λ z. z.0.1) k.2 ∙ ap (λ z. z.1) q)

pub numbers-others : (a : BatchAct) (bs : List Batch) → ((c : Batch) → Has bs c → c.number ≡ a.0 → ⊥) → AreOthers a (entries bs)
numbers-others a bs d e h q =
    let k = Has-flat_map entries_of bs e h in
    let m = Has-map (entry k.0.number) (batch_facts k.0) e k.2 in
    d k.0 k.1 (ap (λ z. z.0.0) m.2 ∙ ap (λ z. z.0) q)

others-append : (a : BatchAct) (xs ys : List Entry) → AreOthers a xs → AreOthers a ys → AreOthers a (xs ++ ys)
others-append a xs ys h k e m q = ⊎_elim (λ n. h e n q) (λ n. k e n q) (Has-split xs ys e m)

plant-frame-here : (b : Batch) (bs : List Batch) (a : Rest) → ((c : Batch) → Has bs c → c.number ≡ b.number → ⊥) → BatchFrame b a → PlantFrame (b ∷ bs) b a
plant-frame-here b bs a d f =
    let n : ℕ = b.number in (
      map (entry n) f.0,
      map (entry n) f.1 ++ entries bs,
      ap (λ z. map (entry n) z ++ entries bs) f.2 ∙ ap (λ z. z ++ entries bs) (split-map n f.0 (facts a) f.1)
          ∙ regroup (map (entry n) f.0) (map (entry n) (facts a)) (map (entry n) f.1) (entries bs),
      λ g h e i.
          ap entries (ap₂ (λ x xs. x ∷ xs) (only-hit n g b refl) (others-same n g bs d))
          ∙ ap (λ z. map (entry z) (batch_facts (g b)) ++ entries bs) e
          ∙ ap (λ z. map (entry n) z ++ entries bs) (i ∙ f.3 h)
          ∙ ap (λ z. z ++ entries bs) (split-map n f.0 (facts (h a)) f.1)
          ∙ regroup (map (entry n) f.0) (map (entry n) (facts (h a))) (map (entry n) f.1) (entries bs),
      elsewhere-others n (place_of a) f.0 f.4,
      others-append (n, place_of a) (map (entry n) f.1) (entries bs) (elsewhere-others n (place_of a) f.1 f.5) (numbers-others (n, place_of a) bs d),
    )

pub plant-frame : (next : ℕ) (bs : List Batch) (b : Batch) (a : Rest) → NumbersDiffer next bs → Has bs b → BatchFrame b a → PlantFrame bs b a
plant-frame next [] b a h k f = absurd k
plant-frame next (c ∷ bs) b a h (inl e) f = subst (λ z. PlantFrame (c ∷ bs) z a) e (plant-frame-here c bs a h.1 (subst (λ z. BatchFrame z a) (sym e) f))
plant-frame next (c ∷ bs) b a h (inr k) f =
    let p = plant-frame next bs b a h.2 k f in
    let apart : c.number ≡ b.number → ⊥ = λ q. h.1 b k (sym q) in (
      entries_of c ++ p.0,
      p.1,
      ap (λ z. entries_of c ++ z) p.2 ∙ sym (append_assoc (entries_of c) p.0 (map (entry b.number) (facts a) ++ p.1)),
      λ g m e i.
          ap (λ z. entries_of z ++ entries (map (only b.number g) bs)) (only-miss b.number g c apart)
          ∙ ap (λ z. entries_of c ++ z) (p.3 g m e i) ∙ sym (append_assoc (entries_of c) p.0 (map (entry b.number) (facts (m a)) ++ p.1)),
      others-append (b.number, place_of a) (entries_of c) p.0
          (λ e m q. (let j = Has-map (entry c.number) (batch_facts c) e m in apart (ap (λ z. z.0.0) j.2 ∙ ap (λ z. z.0) q))) p.4,
      p.5,
    )

-- an entry is a fact of a batch
pub entry-of : (bs : List Batch) (a : BatchAct) (f : Fact) → Has (entries bs) (a, f) → (b : Batch) × Has bs b × (b.number ≡ a.0) × Has (batch_facts b) (a.1, f)
entry-of bs a f h = grind (arith, Has-flat_map entries_of bs (a, f) h, Has-map)

pub of-batch : (bs : List Batch) (b : Batch) (p : Place) (f : Fact) → Has bs b → Has (batch_facts b) (p, f) → Has (entries bs) ((b.number, p), f)
of-batch bs b p f h k = flat_map-Has entries_of bs b ((b.number, p), f) h (map-Has (entry b.number) (batch_facts b) (p, f) k)

pub of-entry : (bs : List Batch) (b : Batch) (p : Place) (f : Fact) → Has bs b → Has (facts b.rest) (p, f) → Has (entries bs) ((b.number, p), f)
of-entry bs b p f h k = of-batch bs b p f h (Has-right (early_facts b.in_advance) (facts b.rest) (p, f) k)

-- a holding in advance is neither an ask nor a live phase

pub early-fact : (xs : List InAdvance) (p : Place) (f : Fact) → Has (early_facts xs) (p, f) → (held : InAdvance) × Has xs held × (held.place ≡ p) × (holding held.unit ≡ f)
early-fact xs p f h =
    let m = Has-map (λ (held : InAdvance). let e : Standing = (held.place, holding held.unit) in e) xs (p, f) h in
    (m.0, m.1, ap (λ z. z.0) m.2, ap (λ z. z.1) m.2)

pub performing-fact : (b : Batch) (p : Place) (x : Phase) → Has (batch_facts b) (p, performing x) → Has (facts b.rest) (p, performing x)
performing-fact b p x h =
    ⊎_elim (λ m. (let k = early-fact b.in_advance p (performing x) m in absurd (holding-performing k.0.unit x k.3))) (λ m. m)
    (Has-split (early_facts b.in_advance) (facts b.rest) (p, performing x) h)

pub awaiting-fact : (b : Batch) (p : Place) (r : Need) → Has (batch_facts b) (p, awaiting r) → Has (facts b.rest) (p, awaiting r)
awaiting-fact b p r h =
    ⊎_elim (λ m. (let k = early-fact b.in_advance p (awaiting r) m in absurd (holding-awaiting k.0.unit r k.3))) (λ m. m)
    (Has-split (early_facts b.in_advance) (facts b.rest) (p, awaiting r) h)

pub performing-of : (bs : List Batch) (a : BatchAct) (x : Phase) → Has (entries bs) (a, performing x) → (b : Batch) × Has bs b × (b.number ≡ a.0) × Has (facts b.rest) (a.1, performing x)
performing-of bs a x h = let e = entry-of bs a (performing x) h in (e.0, e.1, e.2, performing-fact e.0 a.1 x e.3)

pub awaiting-of : (bs : List Batch) (a : BatchAct) (r : Need) → Has (entries bs) (a, awaiting r) → (b : Batch) × Has bs b × (b.number ≡ a.0) × Has (facts b.rest) (a.1, awaiting r)
awaiting-of bs a r h = let e = entry-of bs a (awaiting r) h in (e.0, e.1, e.2, awaiting-fact e.0 a.1 r e.3)
