-- A phase that starts was idle, and its unit offers it.
use Rattle.std.proofs.Common.{◌≡◌, ⊎_elim, refl, sym, ◌∙◌, ap, ap₂, subst, ℕ, ◌+◌, ◌≤◌, arith, List, [], ◌∷◌, ◌++◌, Bool, true, false, map, inl, inr, nat_eq, IsTrue}
use Rattle.std.proofs.lemmas.List.{same_from_push}
use Rattle.batch_model.{specs.Lists.Has, specs.Lists.Each, specs.Plant.Setup, specs.Plant.Batch, specs.Plant.BatchAct, specs.Plant.Share, specs.Plant.units_in, specs.Plant.Plant, specs.Moves.start, specs.Runs.Out, specs.Runs.move, specs.Records.active_told, specs.Records.StartsIdle, specs.Records.IsOnUnit, specs.Cleared.Ranking, specs.Cleared.phases, proofs.Members.Each-Has, specs.Standing.IsStandingBatch, specs.Standing.IsStanding}
use Rattle.batch_recipe.specs.{Conditions.Name, Conditions.ValueList, Tree.Place, Tree.Phase, Needs.one_unit}
use Rattle.batch_record_laws.proofs.{PlantFacts.holding, PlantFacts.performing, PlantFacts.Standing, PlantFacts.facts, PlantFacts.early_facts, PlantFacts.batch_facts, PlantFacts.entry, PlantFacts.entries_of, PlantFacts.entries, PlantFacts.holder_of, PlantFacts.holders_among, PlantFacts.share, ClearanceDownTrees.IsOfferedPhase, Members.Has-Each, Units.shares, Units.shares-append, Units.performed-phase, Units.unit-held, Units.twice-held, Entries.holders-append, Entries.holders-Has, Entries.nat_same, Entries.units-append, Entries.units-cons, Entries.units-one, Batches.same-batch, Invariant.IsSound, Invariant.IsKept, Batches.performing-of, Batches.of-entry, Invariant.standing-of, Invariant.numbers-of}

-- a line that starts no phase
pub starts-nothing : (d : Setup) (outs : List Out) (o : Out) → ((n : ℕ) (p : Place) (x : Phase) (vs : ValueList) → o ≡ move (start n p x vs) → ⊥) → StartsIdle d (outs ++ o ∷ [])
starts-nothing d outs o h before n p x vs e = absurd (h n p x vs (same_from_push outs before o (move (start n p x vs)) e).1)

shares-holders : (n : ℕ) (u : Name) (es : List Standing) → units_in (holders_among u (map (entry n) es)) ≡ shares u es
shares-holders n u [] = refl
shares-holders n u (e ∷ es) = grind (arith, shares-holders n u es, units-append (holder_of u (entry n e)) (holders_among u (map (entry n) es)), units-one, holding)

batch-shares : (u : Name) (bs : List Batch) (b : Batch) → Has bs b → shares u (facts b.rest) ≤ units_in (holders_among u (entries bs))
batch-shares u [] b h = absurd h
batch-shares u (c ∷ bs) b h =
    let e : units_in (holders_among u (entries_of c ++ entries bs)) ≡ units_in (holders_among u (entries_of c)) + units_in (holders_among u (entries bs))
    = ap (λ z. units_in z) (holders-append u (entries_of c) (entries bs)) ∙ units-append (holders_among u (entries_of c)) (holders_among u (entries bs)) in
    let own : units_in (holders_among u (entries_of c)) ≡ shares u (batch_facts c) = shares-holders c.number u (batch_facts c) in
    let early : shares u (batch_facts c) ≡ shares u (early_facts c.in_advance) + shares u (facts c.rest) = shares-append u (early_facts c.in_advance) (facts c.rest) in
    ⊎_elim
    (λ q. subst (λ z. shares u (facts z.rest) ≤ units_in (holders_among u (entries_of c ++ entries bs))) q
    (let l : shares u (facts c.rest) ≤ units_in (holders_among u (entries_of c ++ entries bs)) = omega arith in l))
    (λ m. let k : shares u (facts b.rest) ≤ units_in (holders_among u (entries bs)) = batch-shares u bs b m in omega arith)
    h

-- a share is no more than all shares together
pub member-units : (xs : List Share) (a : Share) → Has xs a → a.units ≤ units_in xs
member-units [] a h = absurd h
member-units (x ∷ xs) a (inl e) = let c : units_in (x ∷ xs) ≡ x.units + units_in xs = units-cons x xs in let q : x.units ≡ a.units = ap (λ z. z.units) e in omega arith
member-units (x ∷ xs) a (inr k) = let c : units_in (x ∷ xs) ≡ x.units + units_in xs = units-cons x xs in let l : a.units ≤ units_in xs = member-units xs a k in omega arith

-- of one unit there is one holder
pub alone : (xs : List Share) (a b : BatchAct) → units_in xs ≤ 1 → Has xs (share a 1) → Has xs (share b 1) → a ≡ b
alone [] a b l h k = absurd h
alone (x ∷ xs) a b l (inl e) (inl f) = ap (λ z. z.act) (sym e ∙ f)
alone (x ∷ xs) a b l (inl e) (inr k) = grind (arith, units-cons x xs, member-units xs (share b 1) k)
alone (x ∷ xs) a b l (inr h) (inl f) = grind (arith, units-cons x xs, member-units xs (share a 1) h)
alone (x ∷ xs) a b l (inr h) (inr k) =
    alone xs a b (let c : units_in (x ∷ xs) ≡ x.units + units_in xs = units-cons x xs in let m : units_in xs ≤ 1 = omega arith in m) h k

-- two live phases of one unit and name are one step
pub phase-alone : (d : Setup) (rank : Ranking) (outs : List Out) (s : Plant) → IsStanding d s → IsKept d rank outs s → (a b : BatchAct) (x y : Phase)
    → Has (entries s.batches) (a, performing x) → Has (entries s.batches) (b, performing y) → (x.unit ≡ y.unit) × (x.name ≡ y.name) → (a ≡ b → ⊥) → ⊥
phase-alone d rank outs s sd k a b x y hx hy same apart = go e f (nat_eq e.0.number f.0.number) refl
  where
    e : (c : Batch) × Has s.batches c × (c.number ≡ a.0) × Has (facts c.rest) (a.1, performing x)
    e = performing-of s.batches a x hx

    f : (c : Batch) × Has s.batches c × (c.number ≡ b.0) × Has (facts c.rest) (b.1, performing y)
    f = performing-of s.batches b y hy

    one : (c : Batch) → Has s.batches c → (p : Place) (z : Phase) → Has (facts c.rest) (p, performing z) → units_in (holders_among z.unit (entries s.batches)) ≤ 1
    one c i p z h =
        let sound : IsSound d rank c = k.sound c i in let stood : IsStandingBatch d c = standing-of d s sd c i in
        subst (λ n. units_in (holders_among z.unit (entries s.batches)) ≤ n)
        (Each-Has (λ w. d.capacity w.unit ≡ 1) (phases c.recipe.procedure) z sound.cleared.single (performed-phase c.recipe.procedure c.rest stood.stands p z h))
        (k.within z.unit)

    holder : (c : Batch) → Has s.batches c → (p : Place) (z : Phase) → Has (facts c.rest) (p, performing z) → (q : Place) × Has (holders_among z.unit (entries s.batches)) (share (c.number, q) 1)
    holder c i p z h =
        let sound : IsSound d rank c = k.sound c i in let stood : IsStandingBatch d c = standing-of d s sd c i in
        ⊎_elim (λ m. absurd m) (λ m. (m.0, holders-Has z.unit (entries s.batches) (share (c.number, m.0) 1) (of-entry s.batches c m.0 (holding (one_unit z.unit)) i m.1)))
        (unit-held [] (0 ∷ []) c.recipe.procedure c.rest sound.cleared.placed sound.cleared.in_units stood.stands p z h)

    go : (e : (c : Batch) × Has s.batches c × (c.number ≡ a.0) × Has (facts c.rest) (a.1, performing x))
        → (f : (c : Batch) × Has s.batches c × (c.number ≡ b.0) × Has (facts c.rest) (b.1, performing y))
        → (t : Bool) → nat_eq e.0.number f.0.number ≡ t → ⊥
    go e f true q =
        let n : e.0.number ≡ f.0.number = nat_same e.0.number f.0.number q in
        let c : e.0 ≡ f.0 = same-batch s.next_number s.batches e.0 f.0 (numbers-of d s sd) e.1 f.1 n in
        let sound : IsSound d rank e.0 = k.sound e.0 e.1 in let stood : IsStandingBatch d e.0 = standing-of d s sd e.0 e.1 in
        let here : Has (facts e.0.rest) (b.1, performing y) = subst (λ z. Has (facts z.rest) (b.1, performing y)) (sym c) f.3 in
        let places : a.1 ≡ b.1 → ⊥ = λ w. apart (ap₂ (λ u v. let z : BatchAct = (u, v) in z) (sym e.2 ∙ n ∙ f.2) w) in
        let two : 2 ≤ shares x.unit (facts e.0.rest)
        = twice-held [] (0 ∷ []) e.0.recipe.procedure e.0.rest sound.cleared.placed sound.cleared.in_units stood.stands a.1 b.1 x y same places e.3 here in
        let all : shares x.unit (facts e.0.rest) ≤ units_in (holders_among x.unit (entries s.batches)) = batch-shares x.unit s.batches e.0 e.1 in
        let l : units_in (holders_among x.unit (entries s.batches)) ≤ 1 = one e.0 e.1 a.1 x e.3 in
        absurd (omega arith)
    go e f false q =
        let hx' = holder e.0 e.1 a.1 x e.3 in
        let hy' = holder f.0 f.1 b.1 y f.3 in
        let together : (e.0.number, hx'.0) ≡ (f.0.number, hy'.0)
        = alone (holders_among x.unit (entries s.batches)) (e.0.number, hx'.0) (f.0.number, hy'.0) (one e.0 e.1 a.1 x e.3) hx'.1
        (subst (λ z. Has (holders_among z (entries s.batches)) (share (f.0.number, hy'.0) 1)) (sym same.0) hy'.1) in
        no_both (nat_eq e.0.number f.0.number) (self e.0.number f.0.number (ap (λ z. z.0) together)) q
      where
        no_both : (t : Bool) → t ≡ true → t ≡ false → ⊥
        no_both true v w = cc
        no_both false v w = cc

        self : (m n : ℕ) → m ≡ n → nat_eq m n ≡ true
        self m n v = grind arith

same_start : (n n' : ℕ) (p p' : Place) (x x' : Phase) (vs vs' : ValueList) → move (start n p x vs) ≡ move (start n' p' x' vs') → x ≡ x'
same_start n n' p p' x x' vs vs' e = cc

-- after its start a phase is the only one of its unit and name that is active, so it was idle before
pub starts-idle : (d : Setup) (rank : Ranking) (outs : List Out) (s t : Plant) (n : ℕ) (p : Place) (x : Phase) (vs : ValueList)
    → IsStanding d s → IsKept d rank outs s → IsStanding d t → IsKept d rank (outs ++ move (start n p x vs) ∷ []) t
    → Has (entries t.batches) ((n, p), performing x)
    → ((a : BatchAct) (y : Phase) → Has (entries s.batches) (a, performing y) → Has (entries t.batches) (a, performing y) × (a ≡ (n, p) → ⊥))
    → StartsIdle d (outs ++ move (start n p x vs) ∷ [])
starts-idle d rank outs s t n p x vs sd k td l here stay before n' p' x' vs' e =
    let q = same_from_push outs before (move (start n p x vs)) (move (start n' p' x' vs')) e in
    let xx : x ≡ x' = same_start n n' p p' x x' vs vs' q.1 in
    subst (λ z. IsTrue (d.offers z.unit z.name) × Each (λ a. IsOnUnit z.unit z.name a → ⊥) (active_told before)) xx
    (subst (λ z. IsTrue (d.offers x.unit x.name) × Each (λ a. IsOnUnit x.unit x.name a → ⊥) (active_told z)) q.0 (
      (let b = performing-of t.batches (n, p) x here in
          let sound : IsSound d rank b.0 = l.sound b.0 b.1 in let stood : IsStandingBatch d b.0 = standing-of d t td b.0 b.1 in
          Each-Has (IsOfferedPhase d) (phases b.0.recipe.procedure) x sound.cleared.offered (performed-phase b.0.recipe.procedure b.0.rest stood.stands p x b.3)),
      Has-Each (λ a. IsOnUnit x.unit x.name a → ⊥) (active_told outs)
          (λ a h i. (let m = stay a.act a.phase (k.active a h) in
          phase-alone d rank (outs ++ move (start n p x vs) ∷ []) t td l (n, p) a.act x a.phase here m.0 (sym i.0, sym i.1) (λ w. m.1 (sym w)))),
    ))
