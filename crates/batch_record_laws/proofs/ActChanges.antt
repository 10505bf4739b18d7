-- One act of one batch changes: the parts of the invariant that each kind of change keeps.
use Rattle.std.proofs.Common.{◌≡◌, ◌⊎◌, ⊎_elim, sym, ◌∙◌, ap, ap₂, subst, subst₂, ℕ, ◌+◌, ◌≤◌, arith, List, [], ◌∷◌, ◌++◌, false, map, Option, Some, inl, inr, bytes_eq, append-nil}
use Rattle.std.proofs.lemmas.List.{map-append}
use Rattle.batch_matrix.specs.declared.state.State.{State}
use Rattle.batch_model.{specs.Lists.Has, specs.Rest.Rest, specs.Rest.changed_at, specs.Rest.place_of, specs.Plant.Setup, specs.Plant.Batch, specs.Plant.BatchAct, specs.Plant.Share, specs.Plant.units_in, specs.Plant.Plant, specs.Plant.without, specs.Runs.Out, specs.Records.holders_after, specs.Records.holders_told, specs.Records.waiters_after, specs.Records.Active, specs.Records.active_after, specs.Records.active_told, specs.Records.state_after, specs.Records.state_told, specs.Cleared.Ranking, proofs.Members.Has-split, proofs.Members.Has-left, proofs.Members.Has-right, specs.Standing.IsStanding}
use Rattle.batch_recipe.specs.{Conditions.Name, Tree.Place, Tree.Phase, declared.need.Need.Need}
use Rattle.batch_step_laws.proofs.LastLineEffect.{holders_told-last, waiters_told-last, active_told-last, state_told-last}
use Rattle.batch_record_laws.proofs.{PlantFacts.Fact, PlantFacts.holding, PlantFacts.awaiting, PlantFacts.performing, PlantFacts.Standing, PlantFacts.held_at, PlantFacts.facts, PlantFacts.early_facts, PlantFacts.batch_facts, PlantFacts.Entry, PlantFacts.entry, PlantFacts.entries, PlantFacts.holders_among, PlantFacts.need, PlantFacts.share, ClearanceDownTrees.IsClearedDown, Members.Has-map, RanksOfAsks.holding-performing, RanksOfAsks.holding-awaiting, RanksOfAsks.same_holding, FactsAfterChange.Frame, Entries.Agrees, Entries.Has-holders, Entries.holders-append, Entries.agrees-more, Entries.agrees-less, Entries.IsOnce, Entries.NoneBy, Entries.units-append, Entries.units-frame, Entries.units-one, Entries.Has-frame, Entries.frame-front, Entries.frame-middle, Entries.frame-back, Entries.name_self, Batches.NumbersDiffer, Batches.only, Batches.Has-only, Batches.BatchFrame, Batches.plant-frame, Batches.AreOthers, SameFacts.StandApart, Invariant.IsFitting, Invariant.AreFirstNeeds, Invariant.IsSound, Invariant.IsKept, Invariant.numbers-of}

-- the plant in which g has changed batch n and the lines are these
abbrev pub changed_plant : Plant → ℕ → (Batch → Batch) → (Name → List Share) → Plant
changed_plant s n g line = record s { batches = map (only n g) s.batches; line = line }

module _ (d : Setup) (rank : Ranking) (outs : List Out) (s : Plant) (sd : IsStanding d s) (k : IsKept d rank outs s) (b : Batch) (i : Has s.batches b)
  where
    -- the remaining conditions when one batch changes and one line is told of it
    pub kept-after :
        (o : Out) (g : Batch → Batch) (line : Name → List Share)
        → (g b).number ≡ b.number
        → IsSound d rank (g b)
        → ((n : ℕ) (old : Option State) → (n ≡ b.number → ⊥) → state_after n old o ≡ old)
        → state_after b.number (Some b.state) o ≡ Some (g b).state
        → ((q : Name) → Agrees (holders_after q (holders_told outs q) o) (holders_among q (entries (map (only b.number g) s.batches))))
        → ((q : Name) → units_in (holders_among q (entries (map (only b.number g) s.batches))) ≤ d.capacity q)
        → ((q : Name) → waiters_after q (s.line q) o ≡ line q)
        → ((q : Name) → IsOnce (line q))
        → ((q : Name) (a : Share) → Has (line q) a → Has (entries (map (only b.number g) s.batches)) (a.act, awaiting (need q a.units)))
        → ((x : Active) → Has (active_after (active_told outs) o) x → Has (entries (map (only b.number g) s.batches)) (x.act, performing x.phase))
        → ((q : Name) (a : Share) → Has (entries (map (only b.number g) s.batches)) (a.act, awaiting (need q a.units)) → Has (line q) a)
        → ((a : BatchAct) (x : Phase) → Has (entries (map (only b.number g) s.batches)) (a, performing x) → Has (active_after (active_told outs) o) (record { act = a; phase = x }))
        → IsKept d rank (outs ++ o ∷ []) (changed_plant s b.number g line)
    kept-after o g line num sound others own held within lines once asked active listed shown =
        record {
          sound = λ c h. ⊎_elim (λ e. subst (IsSound d rank) (sym e) sound) (λ m. k.sound c m.0) (Has-only s.next_number s.batches b g c (numbers-of d s sd) i h);
          held = λ q. subst (λ z. Agrees z (holders_among q (entries (map (only b.number g) s.batches)))) (sym (holders_told-last outs o q)) (held q);
          within = within;
          lines = λ q. waiters_told-last outs o q ∙ ap (λ z. waiters_after q z o) (k.lines q) ∙ lines q;
          once = once;
          asked = asked;
          active = λ x h. active x (subst (λ z. Has z x) (active_told-last outs o) h);
          listed = listed;
          shown = λ a x h. subst (λ z. Has z (record { act = a; phase = x })) (sym (active_told-last outs o)) (shown a x h);
          states = λ c h.
              ⊎_elim
              (λ e.
              let n : c.number ≡ b.number = ap (λ z. z.number) e ∙ num in
              state_told-last outs o c.number
              ∙ ap (λ z. state_after z (state_told outs z) o) n
              ∙ ap (λ z. state_after b.number z o) (k.states b i)
              ∙ own ∙ ap (λ z. Some z.state) (sym e))
              (λ m. state_told-last outs o c.number ∙ others c.number (state_told outs c.number) m.1 ∙ k.states c m.0)
              (Has-only s.next_number s.batches b g c (numbers-of d s sd) i h);
        }

-- Entries that change at one act: the holdings H of the act stay, and T becomes U

abbrev framed : List Entry → List Entry → List Entry → List Entry → List Entry
framed f h t b = f ++ ((h ++ t) ++ b)

split-framed : (f h t b : List Entry) (e : Entry) → Has (framed f h t b) e → (Has f e ⊎ (Has h e ⊎ Has b e)) ⊎ Has t e
split-framed f h t b e m =
    ⊎_elim (λ x. inl (inl x))
    (λ x. ⊎_elim (λ y. ⊎_elim (λ z. inl (inr (inl z))) (λ z. inr z) (Has-split h t e y)) (λ y. inl (inr (inr y))) (Has-split (h ++ t) b e x))
    (Has-split f ((h ++ t) ++ b) e m)

pub join-framed : (f h t b : List Entry) (e : Entry) → Has f e ⊎ (Has h e ⊎ Has b e) → Has (framed f h t b) e
join-framed f h t b e k = grind (arith, Has-left, Has-right)

tail-framed : (f h t b : List Entry) (e : Entry) → Has t e → Has (framed f h t b) e
tail-framed f h t b e x = Has-right f ((h ++ t) ++ b) e (Has-left (h ++ t) b e (Has-right h t e x))

holders-framed : (q : Name) (f h t b : List Entry)
    → holders_among q (framed f h t b) ≡ holders_among q f ++ ((holders_among q h ++ holders_among q t) ++ holders_among q b)
holders-framed q f h t b = grind (arith, holders-append q f ((h ++ t) ++ b), holders-append q (h ++ t) b, holders-append q h t)

-- an act's facts after a change: its holdings by name, a tail before, and a tail after
pub data Tail : Type 0 where
  nothing : Tail
  also : Fact → Tail

abbrev pub tail_at : Place → Tail → List Standing
tail_at p nothing = []
tail_at p (also x) = (p, x) ∷ []

-- the entries of the whole plant, with the facts of one act apart
pub record IsApart (n : ℕ) (p : Place) (names : List Need) (t u : Tail) (before after : List Entry) : Type 0 where
  pub front : List Entry
  pub back : List Entry
  pub was : before ≡ framed front (map (entry n) (held_at p names)) (map (entry n) (tail_at p t)) back
  pub is : after ≡ framed front (map (entry n) (held_at p names)) (map (entry n) (tail_at p u)) back
  pub not_front : AreOthers (n, p) front
  pub not_back : AreOthers (n, p) back

held-entry : (n : ℕ) (p : Place) (names : List Need) (e : Entry) → Has (map (entry n) (held_at p names)) e → (r : Need) × Has names r × (e ≡ ((n, p), holding r))
held-entry n p names e h =
    let j = Has-map (entry n) (held_at p names) e h in
    let m = Has-map (λ r. let z : Standing = (p, holding r) in z) names j.0 j.1 in
    (m.0, m.1, sym j.2 ∙ sym (ap (entry n) m.2))

tail-holder : (n : ℕ) (p : Place) (r : Need) → holders_among r.resource (map (entry n) (tail_at p (also (holding r)))) ≡ share (n, p) r.units ∷ []
tail-holder n p r = grind (arith, name_self r.resource)

pub tail-no_holder : (n : ℕ) (p : Place) (q : Name) (r : Need) → bytes_eq q r.resource ≡ false → holders_among q (map (entry n) (tail_at p (also (holding r)))) ≡ []
tail-no_holder n p q r e = grind arith

-- none of the needs is of the resource of r
abbrev pub Lacks : List Need → Need → Type 0
Lacks needs r = (x : Need) → Has needs x → x.resource ≡ r.resource → ⊥

module _ (n : ℕ) (p : Place) (names : List Need) (t u : Tail) (before after : List Entry) (x : IsApart n p names t u before after) where
  -- an entry stays, or it was the act's tail
  pub stays : (e : Entry) → Has before e → Has after e ⊎ Has (map (entry n) (tail_at p t)) e
  stays e h =
      ⊎_elim (λ m. inl (subst (λ z. Has z e) (sym x.is) (join-framed x.front (map (entry n) (held_at p names)) (map (entry n) (tail_at p u)) x.back e m))) (λ m. inr m)
      (split-framed x.front (map (entry n) (held_at p names)) (map (entry n) (tail_at p t)) x.back e (subst (λ z. Has z e) x.was h))

  pub comes : (e : Entry) → Has (map (entry n) (tail_at p u)) e → Has after e
  comes e h = subst (λ z. Has z e) (sym x.is) (tail-framed x.front (map (entry n) (held_at p names)) (map (entry n) (tail_at p u)) x.back e h)

  -- an entry of another act stays
  pub others-stay : (e : Entry) → Has before e → (e.0 ≡ (n, p) → ⊥) → Has after e
  others-stay e h d = grind (arith, stays e h, Has-map)

  -- where neither tail holds anything the holders stay the same
  pub same-holders : (q : Name) → holders_among q (map (entry n) (tail_at p t)) ≡ [] → holders_among q (map (entry n) (tail_at p u)) ≡ [] → holders_among q after ≡ holders_among q before
  same-holders q e g = grind (arith, holders-framed)

  -- the holdings
  pub holders-before : (q : Name) → holders_among q before ≡ holders_among q x.front ++ ((holders_among q (map (entry n) (held_at p names)) ++ holders_among q (map (entry n) (tail_at p t))) ++ holders_among q x.back)
  holders-before q = ap (holders_among q) x.was ∙ holders-framed q x.front (map (entry n) (held_at p names)) (map (entry n) (tail_at p t)) x.back

  pub holders-now : (q : Name) → holders_among q after ≡ holders_among q x.front ++ ((holders_among q (map (entry n) (held_at p names)) ++ holders_among q (map (entry n) (tail_at p u))) ++ holders_among q x.back)
  holders-now q = ap (holders_among q) x.is ∙ holders-framed q x.front (map (entry n) (held_at p names)) (map (entry n) (tail_at p u)) x.back

  not_holder : (q : Name) (es : List Entry) → AreOthers (n, p) es → NoneBy (n, p) (holders_among q es)
  not_holder q es o y h e = o (y.act, holding (need q y.units)) (Has-holders q es y h) e

  -- the act's holdings beside its tail are of other resources
  not_own : (r : Need) → Lacks names r → NoneBy (n, p) (holders_among r.resource (map (entry n) (held_at p names)))
  not_own r d y m e =
      let w = held-entry n p names (y.act, holding (need r.resource y.units)) (Has-holders r.resource (map (entry n) (held_at p names)) y m) in
      d w.0 w.1 (ap (λ z. z.resource) (sym (same_holding (need r.resource y.units) w.0 (ap (λ z. z.1) w.2))))

  -- the tail was a share of r, and it is given back
  pub agrees-released : (r : Need) → t ≡ also (holding r) → u ≡ nothing → Lacks names r → (told : List Share) → Agrees told (holders_among r.resource before)
      → Agrees (without (n, p) told) (holders_among r.resource after) × (units_in (holders_among r.resource after) ≤ units_in (holders_among r.resource before))
  agrees-released r e g d told a =
      let f : List Share = holders_among r.resource x.front in
      let h : List Share = holders_among r.resource (map (entry n) (held_at p names)) in
      let b : List Share = holders_among r.resource x.back in
      let o : Share = share (n, p) r.units in
      let was : holders_among r.resource before ≡ f ++ ((h ++ o ∷ []) ++ b)
      = holders-before r.resource ∙ ap (λ z. f ++ ((h ++ holders_among r.resource (map (entry n) (tail_at p z))) ++ b)) e ∙ ap (λ z. f ++ ((h ++ z) ++ b)) (tail-holder n p r) in
      let is : holders_among r.resource after ≡ f ++ (h ++ b)
      = holders-now r.resource ∙ ap (λ z. f ++ ((h ++ holders_among r.resource (map (entry n) (tail_at p z))) ++ b)) g ∙ ap (λ z. f ++ (z ++ b)) (append-nil h) in
      let l₁ : units_in (f ++ ((h ++ o ∷ []) ++ b)) ≡ units_in f + (units_in (h ++ o ∷ []) + units_in b) = units-frame f (h ++ o ∷ []) b in
      let l₂ : units_in (f ++ (h ++ b)) ≡ units_in f + (units_in h + units_in b) = units-frame f h b in
      let l₃ : units_in (h ++ o ∷ []) ≡ units_in h + units_in (o ∷ []) = units-append h (o ∷ []) in
      let smaller : units_in (f ++ (h ++ b)) ≤ units_in (f ++ ((h ++ o ∷ []) ++ b)) = omega arith in (
        subst (Agrees (without (n, p) told)) (sym is)
            (agrees-less o told f h b (subst (Agrees told) was a) (not_holder r.resource x.front x.not_front) (not_own r d) (not_holder r.resource x.back x.not_back)),
        subst₂ (λ y z. units_in y ≤ units_in z) (sym is) (sym was) smaller,
      )

  -- the tail was an ask for r, and it is granted
  pub agrees-granted : (r : Need) → t ≡ also (awaiting r) → u ≡ also (holding r) → Lacks names r → (told : List Share) → Agrees told (holders_among r.resource before)
      → Agrees (told ++ share (n, p) r.units ∷ []) (holders_among r.resource after)
      × (units_in (holders_among r.resource after) ≡ units_in (holders_among r.resource before) + r.units)
  agrees-granted r e g d told a =
      let f : List Share = holders_among r.resource x.front in
      let h : List Share = holders_among r.resource (map (entry n) (held_at p names)) in
      let b : List Share = holders_among r.resource x.back in
      let o : Share = share (n, p) r.units in
      let was : holders_among r.resource before ≡ f ++ (h ++ b)
      = holders-before r.resource ∙ ap (λ z. f ++ ((h ++ holders_among r.resource (map (entry n) (tail_at p z))) ++ b)) e ∙ ap (λ z. f ++ (z ++ b)) (append-nil h) in
      let is : holders_among r.resource after ≡ f ++ ((h ++ o ∷ []) ++ b)
      = holders-now r.resource ∙ ap (λ z. f ++ ((h ++ holders_among r.resource (map (entry n) (tail_at p z))) ++ b)) g ∙ ap (λ z. f ++ ((h ++ z) ++ b)) (tail-holder n p r) in
      let l₁ : units_in (f ++ ((h ++ o ∷ []) ++ b)) ≡ units_in f + (units_in (h ++ o ∷ []) + units_in b) = units-frame f (h ++ o ∷ []) b in
      let l₂ : units_in (f ++ (h ++ b)) ≡ units_in f + (units_in h + units_in b) = units-frame f h b in
      let l₃ : units_in (h ++ o ∷ []) ≡ units_in h + units_in (o ∷ []) = units-append h (o ∷ []) in
      let l₄ : units_in (o ∷ []) ≡ r.units = units-one o in
      let more : units_in (f ++ ((h ++ o ∷ []) ++ b)) ≡ units_in (f ++ (h ++ b)) + r.units = omega arith in (
        subst (Agrees (told ++ o ∷ [])) (sym is) (agrees-more o told f h b (subst (Agrees told) was a) (not_holder r.resource x.front x.not_front) (not_own r d)
            (not_holder r.resource x.back x.not_back)),
        ap (λ z. units_in z) is ∙ more ∙ ap (λ z. units_in z + r.units) (sym was),
      )

-- the same, seen from after the change
pub back_again : (n : ℕ) (p : Place) (names : List Need) (t u : Tail) (before after : List Entry) → IsApart n p names t u before after → IsApart n p names u t after before
back_again n p names t u before after x = record { front = x.front; back = x.back; was = x.is; is = x.was; not_front = x.not_front; not_back = x.not_back }

-- an act whose facts are holdings awaits nothing
pub not_awaiting : (n : ℕ) (p : Place) (names : List Need) (r : Need) (u : Tail) (before after : List Entry) → IsApart n p names (also (holding r)) u before after
    → (a : BatchAct) (y : Need) → Has before (a, awaiting y) → a ≡ (n, p) → ⊥
not_awaiting n p names r u before after x a y h e =
    ⊎_elim
    (λ m. ⊎_elim (λ z. x.not_front (a, awaiting y) z e)
    (λ o. ⊎_elim (λ z. (let w = held-entry n p names (a, awaiting y) z in holding-awaiting w.0 y (sym (ap (λ v. v.1) w.2)))) (λ z. x.not_back (a, awaiting y) z e) o) m)
    (λ m. ⊎_elim (λ q. holding-awaiting r y (ap (λ v. v.1) q)) (λ q. q) m)
    (split-framed x.front (map (entry n) (held_at p names)) (map (entry n) (tail_at p (also (holding r)))) x.back (a, awaiting y) (subst (λ z. Has z (a, awaiting y)) x.was h))

-- an act whose facts are holdings, and no more, awaits nothing
pub not_yet_awaiting : (n : ℕ) (p : Place) (names : List Need) (u : Tail) (before after : List Entry) → IsApart n p names nothing u before after
    → (a : BatchAct) (y : Need) → Has before (a, awaiting y) → a ≡ (n, p) → ⊥
not_yet_awaiting n p names u before after x a y h e =
    ⊎_elim
    (λ m. ⊎_elim (λ z. x.not_front (a, awaiting y) z e)
    (λ o. ⊎_elim (λ z. (let w = held-entry n p names (a, awaiting y) z in holding-awaiting w.0 y (sym (ap (λ v. v.1) w.2)))) (λ z. x.not_back (a, awaiting y) z e) o) m)
    (λ m. m)
    (split-framed x.front (map (entry n) (held_at p names)) [] x.back (a, awaiting y) (subst (λ z. Has z (a, awaiting y)) x.was h))

-- an act whose facts are holdings performs nothing
pub not_performing : (n : ℕ) (p : Place) (names : List Need) (u : Tail) (before after : List Entry) → IsApart n p names nothing u before after
    → (a : BatchAct) (y : Phase) → Has before (a, performing y) → a ≡ (n, p) → ⊥
not_performing n p names u before after x a y h e =
    ⊎_elim
    (λ m. ⊎_elim (λ z. x.not_front (a, performing y) z e)
    (λ o. ⊎_elim (λ z. (let w = held-entry n p names (a, performing y) z in holding-performing w.0 y (sym (ap (λ v. v.1) w.2)))) (λ z. x.not_back (a, performing y) z e) o) m)
    (λ m. m)
    (split-framed x.front (map (entry n) (held_at p names)) [] x.back (a, performing y) (subst (λ z. Has z (a, performing y)) x.was h))

-- a change of batch b by g, which changes the act a by f, and nothing that is held in advance
pub record IsChange (b : Batch) (a : Rest) (g : Batch → Batch) (f : Rest → Rest) : Type 0 where
  pub number : (g b).number ≡ b.number
  pub recipe : (g b).recipe ≡ b.recipe
  pub changed : (g b).rest ≡ changed_at (place_of a) f b.rest
  pub early : (g b).in_advance ≡ b.in_advance

pub change-facts : (b : Batch) (a : Rest) (g : Batch → Batch) (f : Rest → Rest) → IsChange b a g f → batch_facts (g b) ≡ early_facts b.in_advance ++ facts (changed_at (place_of a) f b.rest)
change-facts b a g f c = ap₂ (λ xs ys. early_facts xs ++ ys) c.early (ap facts c.changed)

pub change-sound : (d : Setup) (rank : Ranking) (b : Batch) (a : Rest) (g : Batch → Batch) (f : Rest → Rest) → IsSound d rank b → IsChange b a g f
    → IsFitting (g b).state (facts (g b).rest) → IsSound d rank (g b)
change-sound d rank b a g f s c fits = record {
  cleared = subst (IsClearedDown d rank) (sym c.recipe) s.cleared;
  fits = fits;
  apart = subst StandApart (sym c.early) s.apart;
  units = subst₂ (λ r xs. AreFirstNeeds r.procedure xs) (sym c.recipe) (sym c.early) s.units;
}

-- the facts of the act before and after
pub record Becomes (a : Rest) (f : Rest → Rest) (names : List Need) (t u : Tail) : Type 0 where
  pub was : facts a ≡ held_at (place_of a) names ++ tail_at (place_of a) t
  pub is : facts (f a) ≡ held_at (place_of a) names ++ tail_at (place_of a) u

pub apart : (next : ℕ) (bs : List Batch) (b : Batch) (a : Rest) (g : Batch → Batch) (f : Rest → Rest) (names : List Need) (t u : Tail)
    → NumbersDiffer next bs → Has bs b → BatchFrame b a → IsChange b a g f → Becomes a f names t u
    → IsApart b.number (place_of a) names t u (entries bs) (entries (map (only b.number g) bs))
apart next bs b a g f names t u h i fr c e =
    let p = plant-frame next bs b a h i fr in
    let n : ℕ = b.number in
    record {
      front = p.0;
      back = p.1;
      was = p.2 ∙ ap (λ z. p.0 ++ (z ++ p.1)) (ap (map (entry n)) e.was ∙ map-append (entry n) (held_at (place_of a) names) (tail_at (place_of a) t));
      is = p.3 g f c.number (change-facts b a g f c) ∙ ap (λ z. p.0 ++ (z ++ p.1)) (ap (map (entry n)) e.is ∙ map-append (entry n) (held_at (place_of a) names) (tail_at (place_of a) u));
      not_front = p.4;
      not_back = p.5;
    }

-- fewer facts of the act are fewer facts of the batch
pub fewer-facts : (b : Batch) (a : Rest) (g : Batch → Batch) (f : Rest → Rest) → Frame b.rest a → IsChange b a g f
    → ((e : Standing) → Has (facts (f a)) e → Has (facts a) e) → (e : Standing) → Has (facts (g b).rest) e → Has (facts b.rest) e
fewer-facts b a g f fr c less e h =
    subst (λ z. Has z e) (sym fr.2)
    (⊎_elim (frame-front fr.0 (facts a) fr.1 e) (λ m. ⊎_elim (λ n. frame-middle fr.0 (facts a) fr.1 e (less e n)) (frame-back fr.0 (facts a) fr.1 e) m)
    (Has-frame fr.0 (facts (f a)) fr.1 e (subst (λ z. Has z e) (ap facts c.changed ∙ fr.3 f) h)))
