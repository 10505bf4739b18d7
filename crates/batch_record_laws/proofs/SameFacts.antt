-- Facts with the same sums and members, in any order.
use Rattle.std.proofs.Common.{arith, ◌≡◌, refl, sym, ◌∙◌, ap, ap₂, subst, ℕ, ◌+◌, List, [], ◌∷◌, ◌++◌, Bool, true, false, not, cond, map, filter, sum_by, inl, inr, ⊎_elim}
use Rattle.std.proofs.lemmas.List.Sums.{sum_by-append, sum_by-cons}
use Rattle.batch_recipe.specs.Conditions.{Name}
use Rattle.batch_model.{specs.Lists.Has, specs.Plant.InAdvance, specs.Plant.Batch, specs.Plant.Share, specs.Plant.is_act_reached, specs.Rest.Rest, proofs.Members.Has-split, proofs.Members.Has-left, proofs.Members.Has-right}
use Rattle.batch_record_laws.proofs.{PlantFacts.holding, PlantFacts.Standing, PlantFacts.facts, PlantFacts.early_facts, PlantFacts.batch_facts, PlantFacts.Entry, PlantFacts.entry, PlantFacts.entries_of, PlantFacts.entries, PlantFacts.holder_of, PlantFacts.holders_among, PlantFacts.need, Members.Has-map, Members.map-Has, Entries.Agrees, Entries.Has-holders, Entries.holders-Has, Batches.NumbersDiffer, Batches.only, Batches.only-hit, Batches.only-miss, Batches.others-same, HoldingsInAdvance.Adds, HoldingsInAdvance.AtOnce, HoldingsInAdvance.raised, HoldingsInAdvance.lifted, HoldingsInAdvance.lifted-none, HoldingsInAdvance.lifted-adds, HoldingsInAdvance.raised-keeps, HoldingsInAdvance.nowhere-raised, HoldingsInAdvance.not_reached}

pub record AreAlike {X : Type 0} (xs ys : List X) : Type 0 where
  pub sums : (amount : X → ℕ) → sum_by amount xs ≡ sum_by amount ys
  pub there : (x : X) → Has xs x → Has ys x
  pub back : (x : X) → Has ys x → Has xs x

pub alike-same : {X : Type 0} (xs ys : List X) → xs ≡ ys → AreAlike xs ys
alike-same xs ys e = record { sums = λ amount. ap (sum_by amount) e; there = λ x h. subst (λ z. Has z x) e h; back = λ x h. subst (λ z. Has z x) (sym e) h }

pub alike-trans : {X : Type 0} (xs ys zs : List X) → AreAlike xs ys → AreAlike ys zs → AreAlike xs zs
alike-trans xs ys zs a b = record { sums = λ amount. a.sums amount ∙ b.sums amount; there = λ x h. b.there x (a.there x h); back = λ x h. a.back x (b.back x h) }

pub alike-append : {X : Type 0} (xs ys us vs : List X) → AreAlike xs ys → AreAlike us vs → AreAlike (xs ++ us) (ys ++ vs)
alike-append xs ys us vs a b = record {
  sums = λ amount. sum_by-append amount xs us ∙ (ap₂ (λ m n. m + n) (a.sums amount) (b.sums amount) ∙ sym (sum_by-append amount ys vs));
  there = λ x h. ⊎_elim (λ m. Has-left ys vs x (a.there x m)) (λ m. Has-right ys vs x (b.there x m)) (Has-split xs us x h);
  back = λ x h. ⊎_elim (λ m. Has-left xs us x (a.back x m)) (λ m. Has-right xs us x (b.back x m)) (Has-split ys vs x h);
}

alike-cons : {X : Type 0} (e : X) (xs ys : List X) → AreAlike xs ys → AreAlike (e ∷ xs) (e ∷ ys)
alike-cons e xs ys a = alike-append (e ∷ []) (e ∷ []) xs ys (alike-same (e ∷ []) (e ∷ []) refl) a

-- an element may stand anywhere
alike-middle : {X : Type 0} (front back : List X) (e : X) → AreAlike (front ++ e ∷ back) (e ∷ (front ++ back))
alike-middle front back e = record {
  sums = λ amount.
      (let whole : sum_by amount (front ++ e ∷ back) ≡ sum_by amount front + sum_by amount (e ∷ back) = sum_by-append amount front (e ∷ back) in
      let more : sum_by amount (e ∷ back) ≡ amount e + sum_by amount back = sum_by-cons amount e back in
      let first : sum_by amount (e ∷ (front ++ back)) ≡ amount e + sum_by amount (front ++ back) = sum_by-cons amount e (front ++ back) in
      let rest : sum_by amount (front ++ back) ≡ sum_by amount front + sum_by amount back = sum_by-append amount front back in
      omega (arith, whole, more, first, rest));
  there = λ x h. ⊎_elim (λ m. inr (Has-left front back x m)) (λ m. ⊎_elim (λ q. inl q) (λ n. inr (Has-right front back x n)) m) (Has-split front (e ∷ back) x h);
  back = λ x h. ⊎_elim (λ q. Has-right front (e ∷ back) x (inl q)) (λ m. ⊎_elim (λ n. Has-left front (e ∷ back) x n) (λ n. Has-right front (e ∷ back) x (inr n)) (Has-split front back x m)) h;
}

alike-adds : (less more : List Standing) (e : Standing) → Adds less more e → AreAlike more (e ∷ less)
alike-adds less more e a =
    alike-trans more (a.0 ++ e ∷ a.1) (e ∷ less) (alike-same more (a.0 ++ e ∷ a.1) a.3)
    (alike-trans (a.0 ++ e ∷ a.1) (e ∷ (a.0 ++ a.1)) (e ∷ less) (alike-middle a.0 a.1 e) (alike-same (e ∷ (a.0 ++ a.1)) (e ∷ less) (ap (λ z. e ∷ z) (sym a.2))))

-- Holdings in advance

-- no two stand at one place
abbrev pub StandApart : List InAdvance → Type 0
StandApart [] = Unit {0}
StandApart (held ∷ more) = ((other : InAdvance) → Has more other → other.place ≡ held.place → ⊥) × StandApart more

abbrev pub left_over : Rest → List InAdvance → List InAdvance
left_over r xs = filter (λ held. not (is_act_reached r held.place)) xs

-- holdings in advance pass to the acts that are reached
pub raised-alike : (r : Rest) (xs : List InAdvance) → StandApart xs → ((held : InAdvance) → Has xs held → is_act_reached r held.place ≡ true → AtOnce held.place held.unit r)
    → AreAlike (early_facts (left_over r xs) ++ facts (raised xs r)) (early_facts xs ++ facts r)
raised-alike r [] apart at = alike-same (facts r) (facts r) refl
raised-alike r (held ∷ xs) apart at = go (is_act_reached r held.place) refl (raised-alike r xs apart.1 (λ other i. at other (inr i)))
  where
    e : Standing
    e = (held.place, holding held.unit)

    go : (t : Bool) → is_act_reached r held.place ≡ t
        → AreAlike (early_facts (left_over r xs) ++ facts (raised xs r)) (early_facts xs ++ facts r)
        → AreAlike (early_facts (cond (not t) (held ∷ left_over r xs) (left_over r xs)) ++ facts (lifted held.place (raised xs r))) (e ∷ (early_facts xs ++ facts r))
    go true q a =
        let once : AtOnce held.place held.unit (raised xs r) = raised-keeps held.place held.unit xs r (λ other i. apart.0 other i) (at held (inl refl) q) in
        let adds = lifted-adds held.place held.unit (raised xs r) once in
        let F = early_facts (left_over r xs) in
        alike-trans (F ++ facts (lifted held.place (raised xs r))) (F ++ e ∷ facts (raised xs r)) (e ∷ (early_facts xs ++ facts r))
        (alike-append F F (facts (lifted held.place (raised xs r))) (e ∷ facts (raised xs r)) (alike-same F F refl) (alike-adds (facts (raised xs r)) (facts (lifted held.place (raised xs r))) e adds))
        (alike-trans (F ++ e ∷ facts (raised xs r)) (e ∷ (F ++ facts (raised xs r))) (e ∷ (early_facts xs ++ facts r)) (alike-middle F (facts (raised xs r)) e)
        (alike-cons e (F ++ facts (raised xs r)) (early_facts xs ++ facts r) a))
    go false q a =
        let none : lifted held.place (raised xs r) ≡ raised xs r = lifted-none held.place (raised xs r) (nowhere-raised held.place xs r (not_reached held.place r q)) in
        subst (λ z. AreAlike (early_facts (held ∷ left_over r xs) ++ facts z) (e ∷ (early_facts xs ++ facts r))) (sym none)
        (alike-cons e (early_facts (left_over r xs) ++ facts (raised xs r)) (early_facts xs ++ facts r) a)

-- Entries

alike-map : {X Y : Type 0} (f : X → Y) (xs ys : List X) → AreAlike xs ys → AreAlike (map f xs) (map f ys)
alike-map {X = X} {Y = Y} f xs ys a = record {
  sums = λ amount. through amount xs ∙ (a.sums (λ x. amount (f x)) ∙ sym (through amount ys));
  there = λ y h. (let m = Has-map f xs y h in subst (Has (map f ys)) m.2 (map-Has f ys m.0 (a.there m.0 m.1)));
  back = λ y h. (let m = Has-map f ys y h in subst (Has (map f xs)) m.2 (map-Has f xs m.0 (a.back m.0 m.1)));
}
  where
    through : (amount : Y → ℕ) (zs : List X) → sum_by amount (map f zs) ≡ sum_by (λ x. amount (f x)) zs
    through amount [] = refl
    through amount (z ∷ zs) = sum_by-cons amount (f z) (map f zs) ∙ (ap (λ n. amount (f z) + n) (through amount zs) ∙ sym (sum_by-cons (λ x. amount (f x)) z zs))

pub entries_of-alike : (b c : Batch) → b.number ≡ c.number → AreAlike (batch_facts b) (batch_facts c) → AreAlike (entries_of b) (entries_of c)
entries_of-alike b c e a =
    alike-trans (map (entry b.number) (batch_facts b)) (map (entry c.number) (batch_facts b)) (entries_of c)
    (alike-same (map (entry b.number) (batch_facts b)) (map (entry c.number) (batch_facts b)) (ap (λ n. map (entry n) (batch_facts b)) e))
    (alike-map (entry c.number) (batch_facts b) (batch_facts c) a)

pub entries-alike : (n : ℕ) (f g : Batch → Batch) (bs : List Batch) → ((b : Batch) → Has bs b → AreAlike (entries_of (only n f b)) (entries_of (only n g b)))
    → AreAlike (entries (map (only n f) bs)) (entries (map (only n g) bs))
entries-alike n f g [] h = alike-same [] [] refl
entries-alike n f g (b ∷ bs) h =
    alike-append (entries_of (only n f b)) (entries_of (only n g b)) (entries (map (only n f) bs)) (entries (map (only n g) bs)) (h b (inl refl)) (entries-alike n f g bs (λ c i. h c (inr i)))

-- the shares that are held of a resource add up to the same
holders-sum : (q : Name) (amount : Share → ℕ) (es : List Entry) → sum_by amount (holders_among q es) ≡ sum_by (λ e. sum_by amount (holder_of q e)) es
holders-sum q amount [] = refl
holders-sum q amount (e ∷ es) =
    sum_by-append amount (holder_of q e) (holders_among q es)
    ∙ (ap (λ n. sum_by amount (holder_of q e) + n) (holders-sum q amount es) ∙ sym (sum_by-cons (λ e. sum_by amount (holder_of q e)) e es))

pub holders-alike : (q : Name) (es fs : List Entry) → AreAlike es fs → (amount : Share → ℕ) → sum_by amount (holders_among q es) ≡ sum_by amount (holders_among q fs)
holders-alike q es fs a amount = holders-sum q amount es ∙ (a.sums (λ e. sum_by amount (holder_of q e)) ∙ sym (holders-sum q amount fs))

-- so a list of shares agrees with the one as with the other
pub agrees-alike : (q : Name) (told : List Share) (es fs : List Entry) → AreAlike es fs → Agrees told (holders_among q es) → Agrees told (holders_among q fs)
agrees-alike q told es fs a h = (
  λ amount. h.0 amount ∙ holders-alike q es fs a amount,
  λ x k. holders-Has q fs x (a.there (x.act, holding (need q x.units)) (Has-holders q es x (h.1 x k))),
  λ x k. h.2 x (holders-Has q es x (a.back (x.act, holding (need q x.units)) (Has-holders q fs x k))),
  h.3,
)

-- a change of one batch that adds an entry adds it to all
pub entries-more : (next : ℕ) (bs : List Batch) (b : Batch) (g h : Batch → Batch) (e : Entry) → NumbersDiffer next bs → Has bs b → entries_of (h b) ≡ e ∷ entries_of (g b)
    → AreAlike (entries (map (only b.number h) bs)) (e ∷ entries (map (only b.number g) bs))
entries-more next [] b g h e d i more = absurd i
entries-more next (c ∷ bs) b g h e d (inl q) more =
    alike-same (entries (map (only b.number h) (c ∷ bs))) (e ∷ entries (map (only b.number g) (c ∷ bs)))
    (ap₂ (λ x xs. entries_of x ++ entries xs) (only-hit b.number h c (ap (λ z. z.number) q)) (rest h)
    ∙ (ap (λ zs. zs ++ entries bs) (ap (λ z. entries_of (h z)) q ∙ (more ∙ ap (λ z. e ∷ entries_of (g z)) (sym q)))
    ∙ ap (λ zs. e ∷ zs) (sym (ap₂ (λ x xs. entries_of x ++ entries xs) (only-hit b.number g c (ap (λ z. z.number) q)) (rest g)))))
  where
    rest : (f : Batch → Batch) → map (only b.number f) bs ≡ bs
    rest f = others-same b.number f bs (λ z k w. d.1 z k (w ∙ sym (ap (λ y. y.number) q)))
entries-more next (c ∷ bs) b g h e d (inr k) more =
    let other : c.number ≡ b.number → ⊥ = λ w. d.1 b k (sym w) in
    let X = entries (map (only b.number h) bs) in
    let Y = entries (map (only b.number g) bs) in
    alike-trans (entries_of (only b.number h c) ++ X) (entries_of c ++ e ∷ Y) (e ∷ (entries_of (only b.number g c) ++ Y))
    (alike-append (entries_of (only b.number h c)) (entries_of c) X (e ∷ Y) (alike-same (entries_of (only b.number h c)) (entries_of c) (ap entries_of (only-miss b.number h c other))) (entries-more next bs b g h e d.2 k more))
    (alike-trans (entries_of c ++ e ∷ Y) (e ∷ (entries_of c ++ Y)) (e ∷ (entries_of (only b.number g c) ++ Y)) (alike-middle (entries_of c) Y e)
    (alike-same (e ∷ (entries_of c ++ Y)) (e ∷ (entries_of (only b.number g c) ++ Y)) (ap (λ z. e ∷ (entries_of z ++ Y)) (sym (only-miss b.number g c other)))))
