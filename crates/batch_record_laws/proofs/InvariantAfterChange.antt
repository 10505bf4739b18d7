-- Each kind of change keeps the invariant.
use Rattle.std.proofs.Common.{◌≡◌, ⊎_elim, refl, sym, ◌∙◌, ap, ap₂, subst, subst₂, ℕ, ◌+◌, ◌≤◌, arith, le_trans, List, [], ◌∷◌, ◌++◌, Bool, true, false, not, map, filter, Option, Some, inl, inr, bytes_eq, append-nil}
use Rattle.batch_matrix.specs.declared.{state.State.State, report.Report.Report}
use Rattle.batch_model.{specs.Lists.Has, specs.Rest.Rest, specs.Rest.acts, specs.Rest.place_of, specs.Plant.Setup, specs.Plant.InAdvance, specs.Plant.Batch, specs.Plant.BatchAct, specs.Plant.Share, specs.Plant.units_in, specs.Plant.Plant, specs.Plant.is_same_act, specs.Plant.without, specs.Moves.start, specs.Moves.ask, specs.Moves.grant, specs.Moves.release, specs.Moves.pass, specs.Moves.line_after, specs.Moves.is_running, specs.Events.reported, specs.Runs.Out, specs.Runs.move, specs.Runs.reply, specs.Records.holders_after, specs.Records.holders_told, specs.Records.waiters_after, specs.Records.Active, specs.Records.active_after, specs.Records.active_told, specs.Records.state_after, specs.Records.ends_phase, specs.Cleared.Ranking, proofs.Members.Has-split, proofs.Members.Has-left, proofs.Members.Has-right, proofs.Members.Each-Has, specs.Standing.IsAwaited, specs.Standing.IsStandingBatch, specs.Standing.IsStanding}
use Rattle.batch_recipe.specs.{Conditions.Name, Conditions.ValueList, Tree.Place, Tree.Phase, declared.need.Need.Need}
use Rattle.batch_record_laws.proofs.{PlantFacts.Fact, PlantFacts.holding, PlantFacts.awaiting, PlantFacts.performing, PlantFacts.Standing, PlantFacts.held_at, PlantFacts.facts, PlantFacts.early_facts, PlantFacts.batch_facts, PlantFacts.Entry, PlantFacts.entry, PlantFacts.entries_of, PlantFacts.entries, PlantFacts.holders_among, PlantFacts.need, PlantFacts.share, RanksOfAsks.same_awaiting, RanksOfAsks.holding-awaiting, RanksOfAsks.holding-performing, RanksOfAsks.awaiting-performing, FactsAfterChange.Frame, FactsAfterChange.frame, Entries.Agrees, Entries.IsOnce, Entries.NoneBy, Entries.Has-holders, Entries.holders-Has, Entries.agrees-more, Entries.sums-without_once, Entries.units-append, Entries.units-one, Entries.frame-middle, Entries.once-snoc, Entries.once-filter, Entries.Has-filter, Entries.filter-Has, Entries.differs, Entries.without-Has, Entries.name_self, Entries.name_same, Entries.nat_same, Entries.Has-without, Entries.act_self, Batches.NumbersDiffer, Batches.only, Batches.same-batch, Batches.BatchFrame, Batches.batch-frame, Batches.entry-of, Batches.of-entry, Batches.of-batch, Batches.early-fact, SameFacts.AreAlike, SameFacts.agrees-alike, SameFacts.entries-more, FactPlaces.fact-stands, HoldingsInAdvance.Nowhere, PhaseStarts.alone, DuePlaces.awaited-nowhere, Members.Has-map, Members.map-Has, Invariant.IsFitting, Invariant.IsSound, Invariant.IsKept, Invariant.fit-fewer, Invariant.fit-awaited, Invariant.fit-running, ActChanges.changed_plant, ActChanges.kept-after, ActChanges.Tail, ActChanges.nothing, ActChanges.also, ActChanges.tail_at, ActChanges.IsApart, ActChanges.stays, ActChanges.comes, ActChanges.others-stay, ActChanges.same-holders, ActChanges.agrees-released, ActChanges.agrees-granted, ActChanges.tail-no_holder, ActChanges.IsChange, ActChanges.change-sound, ActChanges.Becomes, ActChanges.apart, ActChanges.fewer-facts, ActChanges.back_again, ActChanges.not_awaiting, ActChanges.not_yet_awaiting, ActChanges.not_performing, ActChanges.Lacks, Invariant.standing-of, Invariant.numbers-of, Units.same_performing}

entries-only : (n : ℕ) (g : Batch → Batch) (bs : List Batch) → ((c : Batch) → Has bs c → entries_of (only n g c) ≡ entries_of c) → entries (map (only n g) bs) ≡ entries bs
entries-only n g [] f = refl
entries-only n g (c ∷ bs) f = ap₂ (λ xs ys. xs ++ ys) (f c (inl refl)) (entries-only n g bs (λ e h. f e (inr h)))

-- a change of the batch that changes no facts
entries-same : (next : ℕ) (bs : List Batch) (b : Batch) (g : Batch → Batch) → NumbersDiffer next bs → Has bs b → (g b).number ≡ b.number → batch_facts (g b) ≡ batch_facts b
    → entries (map (only b.number g) bs) ≡ entries bs
entries-same next bs b g h i e f = grind (arith, entries-only, same-batch, nat_same)

tail-awaiting : (n : ℕ) (p : Place) (x : Phase) (q : Need) (a : BatchAct) → Has (map (entry n) (tail_at p (also (performing x)))) (a, awaiting q) → ⊥
tail-awaiting n p x q a h = grind (arith, awaiting-performing)

tail-held_awaiting : (n : ℕ) (p : Place) (r q : Need) (a : BatchAct) → Has (map (entry n) (tail_at p (also (holding r)))) (a, awaiting q) → ⊥
tail-held_awaiting n p r q a h = grind (arith, holding-awaiting)

tail-held_performing : (n : ℕ) (p : Place) (r : Need) (x : Phase) (a : BatchAct) → Has (map (entry n) (tail_at p (also (holding r)))) (a, performing x) → ⊥
tail-held_performing n p r x a h = grind (arith, holding-performing)

tail-awaited_performing : (n : ℕ) (p : Place) (r : Need) (x : Phase) (a : BatchAct) → Has (map (entry n) (tail_at p (also (awaiting r)))) (a, performing x) → ⊥
tail-awaited_performing n p r x a h = grind (arith, awaiting-performing)

tail-awaited : (n : ℕ) (p : Place) (r q : Need) (a : BatchAct) → Has (map (entry n) (tail_at p (also (awaiting r)))) (a, awaiting q) → r ≡ q
tail-awaited n p r q a h = grind (arith, same_awaiting)

tail-performing : (n : ℕ) (p : Place) (x y : Phase) (a : BatchAct) → Has (map (entry n) (tail_at p (also (performing x)))) (a, performing y)
    → ◌≡◌ {A = Active} (record { act = (n, p); phase = x }) (record { act = a; phase = y })
tail-performing n p x y a h = grind (arith, same_performing)

tail-asked : (n : ℕ) (p : Place) (r q : Need) (a : BatchAct) → Has (map (entry n) (tail_at p (also (awaiting r)))) (a, awaiting q) → ((n, p) ≡ a) × (r ≡ q)
tail-asked n p r q a h = grind (arith, same_awaiting)

-- the line tells nothing of the states of other batches, and gives batch n this state
abbrev pub TellsState : Out → ℕ → State → State → Type 0
TellsState o n was is = ((m : ℕ) (old : Option State) → (m ≡ n → ⊥) → state_after m old o ≡ old) × (state_after n (Some was) o ≡ Some is)

module _ (d : Setup) (rank : Ranking) (outs : List Out) (s : Plant) (sd : IsStanding d s) (k : IsKept d rank outs s) (b : Batch) (i : Has s.batches b) where
  -- no facts change
  pub kept-quiet : (o : Out) (g : Batch → Batch) → (g b).number ≡ b.number → IsSound d rank (g b) → batch_facts (g b) ≡ batch_facts b → TellsState o b.number b.state (g b).state
      → ((q : Name) (hs : List Share) → holders_after q hs o ≡ hs) → ((q : Name) (ws : List Share) → waiters_after q ws o ≡ ws) → ((xs : List Active) → active_after xs o ≡ xs)
      → IsKept d rank (outs ++ o ∷ []) (changed_plant s b.number g s.line)
  kept-quiet o g num sound same tells hold wait act =
      let e : entries (map (only b.number g) s.batches) ≡ entries s.batches = entries-same s.next_number s.batches b g (numbers-of d s sd) i num same in
      kept-after d rank outs s sd k b i o g s.line num sound tells.0 tells.1
      (λ q. subst₂ Agrees (sym (hold q (holders_told outs q))) (ap (holders_among q) (sym e)) (k.held q))
      (λ q. subst (λ z. units_in (holders_among q z) ≤ d.capacity q) (sym e) (k.within q))
      (λ q. wait q (s.line q))
      k.once
      (λ q a h. subst (λ z. Has z (a.act, awaiting (need q a.units))) (sym e) (k.asked q a h))
      (λ x h. subst (λ z. Has z (x.act, performing x.phase)) (sym e) (k.active x (subst (λ z. Has z x) (act (active_told outs)) h)))
      (λ q a h. k.listed q a (subst (λ z. Has z (a.act, awaiting (need q a.units))) e h))
      (λ a x h. subst (λ z. Has z (record { act = a; phase = x })) (sym (act (active_told outs))) (k.shown a x (subst (λ z. Has z (a, performing x)) e h)))

  module _ (a : Rest) (j : Has (acts b.rest) a) (g : Batch → Batch) (f : Rest → Rest) (c : IsChange b a g f) where
    pub act_frame : Frame b.rest a
    act_frame = let sound : IsSound d rank b = k.sound b i in let here : IsStandingBatch d b = standing-of d s sd b i in frame (0 ∷ []) b.recipe.procedure b.rest sound.cleared.placed here.stands a j

    pub batch_frame : BatchFrame b a
    batch_frame =
        let sound : IsSound d rank b = k.sound b i in let here : IsStandingBatch d b = standing-of d s sd b i in
        batch-frame b a act_frame
        (λ e h q.
        let m = Has-map (λ (held : InAdvance). let z : Standing = (held.place, holding held.unit) in z) b.in_advance e h in
        let due = Each-Has (λ held. IsAwaited b.rest held.place) b.in_advance m.0 here.awaited m.1 in
        awaited-nowhere b.recipe.procedure b.rest sound.cleared.placed here.stands m.0.place due a j (sym (ap (λ z. z.0) m.2 ∙ q)))

    abbrev pub entries_after : List Entry
    entries_after = entries (map (only b.number g) s.batches)

    abbrev pub n : ℕ
    n = b.number

    abbrev pub p : Place
    p = place_of a

    abbrev pub ApartHere : List Need → Tail → Tail → Type 0
    ApartHere names t u = IsApart n p names t u (entries s.batches) entries_after

    pub apart-here : (names : List Need) (t u : Tail) → Becomes a f names t u → IsApart n p names t u (entries s.batches) entries_after
    apart-here names t u e = apart s.next_number s.batches b a g f names t u (numbers-of d s sd) i batch_frame c e

    fits-fewer : (names : List Need) (t : Tail) → Becomes a f names t nothing → IsFitting b.state (facts (g b).rest)
    fits-fewer names t e =
        fit-fewer b.state (facts b.rest) (facts (g b).rest)
        (fewer-facts b a g f act_frame c
        (λ z h. subst (λ w. Has w z) (sym e.was) (Has-left (held_at p names) (tail_at p t) z (subst (λ w. Has w z) (e.is ∙ append-nil (held_at p names)) h))))
        (k.sound b i).fits

    -- a phase starts
    pub kept-started : (names : List Need) (x : Phase) (hs : ValueList) → Becomes a f names nothing (also (performing x)) → is_running b.state ≡ true → (g b).state ≡ b.state
        → IsKept d rank (outs ++ move (start n p x hs) ∷ []) (changed_plant s n g s.line)
    kept-started names x hs e running same =
        let ap' = apart-here names nothing (also (performing x)) e in
        let E : List Entry = entries s.batches in
        kept-after d rank outs s sd k b i (move (start n p x hs)) g s.line c.number
        (change-sound d rank b a g f (k.sound b i) c (fit-running (g b).state (facts (g b).rest) (subst (λ z. is_running z ≡ true) (sym same) running)))
        (λ m old q. refl) (ap Some (sym same))
        (λ q. subst (Agrees (holders_told outs q)) (sym (same-holders n p names nothing (also (performing x)) E entries_after ap' q refl refl)) (k.held q))
        (λ q. subst (λ z. units_in z ≤ d.capacity q) (sym (same-holders n p names nothing (also (performing x)) E entries_after ap' q refl refl)) (k.within q))
        (λ q. refl) k.once
        (λ q z h. ⊎_elim (λ m. m) (λ m. absurd m) (stays n p names nothing (also (performing x)) E entries_after ap' (z.act, awaiting (need q z.units)) (k.asked q z h)))
        (λ y h. ⊎_elim (λ m. ⊎_elim (λ o. o) (λ o. absurd o) (stays n p names nothing (also (performing x)) E entries_after ap' (y.act, performing y.phase) (k.active y m)))
        (λ m. ⊎_elim
        (λ q. subst (λ z. Has entries_after (z.act, performing z.phase)) q (comes n p names nothing (also (performing x)) E entries_after ap' ((n, p), performing x) (inl refl)))
        (λ q. absurd q) m)
        (Has-split (active_told outs) (record { act = (n, p); phase = x } ∷ []) y h))
        (λ q z h. ⊎_elim (λ m. k.listed q z m) (λ m. absurd (tail-awaiting n p x (need q z.units) z.act m))
        (stays n p names (also (performing x)) nothing entries_after E (back_again n p names nothing (also (performing x)) E entries_after ap') (z.act, awaiting (need q z.units)) h))
        (λ z y h. ⊎_elim (λ m. Has-left (active_told outs) (record { act = (n, p); phase = x } ∷ []) (record { act = z; phase = y }) (k.shown z y m))
        (λ m. Has-right (active_told outs) (record { act = (n, p); phase = x } ∷ []) (record { act = z; phase = y }) (inl (tail-performing n p x y z m)))
        (stays n p names (also (performing x)) nothing entries_after E (back_again n p names nothing (also (performing x)) E entries_after ap') (z, performing y) h))

    -- a phase ends
    pub kept-finished : (names : List Need) (x : Phase) (unit name : Name) (word : Report) (st : State) → Becomes a f names (also (performing x)) nothing
        → ends_phase word ≡ true → (g b).state ≡ b.state → TellsState (reply (reported unit name word n p st)) n b.state (g b).state
        → IsKept d rank (outs ++ reply (reported unit name word n p st) ∷ []) (changed_plant s n g s.line)
    kept-finished names x unit name word st e ends same tells =
        let ap' = apart-here names (also (performing x)) nothing e in
        let E : List Entry = entries s.batches in
        kept-after d rank outs s sd k b i (reply (reported unit name word n p st)) g s.line c.number
        (change-sound d rank b a g f (k.sound b i) c (subst (λ z. IsFitting z (facts (g b).rest)) (sym same) (fits-fewer names (also (performing x)) e)))
        tells.0 tells.1
        (λ q. subst (Agrees (holders_told outs q)) (sym (same-holders n p names (also (performing x)) nothing E entries_after ap' q refl refl)) (k.held q))
        (λ q. subst (λ z. units_in z ≤ d.capacity q) (sym (same-holders n p names (also (performing x)) nothing E entries_after ap' q refl refl)) (k.within q))
        (λ q. refl) k.once
        (λ q z h. ⊎_elim (λ m. m) (λ m. absurd (tail-awaiting n p x (need q z.units) z.act m)) (stays n p names (also (performing x)) nothing E entries_after ap' (z.act, awaiting (need q z.units)) (k.asked q z h)))
        (λ y h. go y (ends_phase word) ends ap' h)
        (λ q z h. ⊎_elim (λ m. k.listed q z m) (λ m. absurd m)
        (stays n p names nothing (also (performing x)) entries_after E (back_again n p names (also (performing x)) nothing E entries_after ap') (z.act, awaiting (need q z.units)) h))
        (λ z y h. still z y (ends_phase word) ends ap' h)
      where
        still : (z : BatchAct) (y : Phase) (t : Bool) → t ≡ true → IsApart n p names (also (performing x)) nothing (entries s.batches) entries_after
            → Has entries_after (z, performing y)
            → Has (elim t [ true ↦ filter (λ z. not (is_same_act z.act (n, p))) (active_told outs) | false ↦ active_told outs ]) (record { act = z; phase = y })
        still z y true q ap' h =
            let flip = back_again n p names (also (performing x)) nothing (entries s.batches) entries_after ap' in
            ⊎_elim
            (λ m. filter-Has (λ z. not (is_same_act z.act (n, p))) (active_told outs) (record { act = z; phase = y }) (k.shown z y m)
            (differs z (n, p) (λ e. not_performing n p names (also (performing x)) entries_after (entries s.batches) flip z y h e)))
            (λ m. absurd m)
            (stays n p names nothing (also (performing x)) entries_after (entries s.batches) flip (z, performing y) h)
        still z y false q ap' h = absurd cc

        ended_act : (y : Active) → Has (filter (λ z. not (is_same_act z.act (n, p))) (active_told outs)) y → Has (active_told outs) y × (y.act ≡ (n, p) → ⊥)
        ended_act y h =
            let m = Has-filter (λ z. not (is_same_act z.act (n, p))) (active_told outs) y h in
            (m.0, λ q. no_both (is_same_act y.act (n, p)) (subst (λ z. is_same_act y.act z ≡ true) q (act_self y.act)) m.1)
          where
            no_both : (t : Bool) → t ≡ true → not t ≡ true → ⊥
            no_both true u v = cc
            no_both false u v = cc

        go : (y : Active) (t : Bool) → t ≡ true → IsApart n p names (also (performing x)) nothing (entries s.batches) entries_after
            → Has (elim t [ true ↦ filter (λ z. not (is_same_act z.act (n, p))) (active_told outs) | false ↦ active_told outs ]) y
            → Has entries_after (y.act, performing y.phase)
        go y true q ap' h =
            let m = ended_act y h in
            others-stay n p names (also (performing x)) nothing (entries s.batches) entries_after ap' (y.act, performing y.phase) (k.active y m.0) m.1
        go y false q ap' h = absurd cc

    -- an act asks for its next need
    pub kept-asked : (names : List Need) (r : Need) → Becomes a f names nothing (also (awaiting r)) → is_running b.state ≡ true → (g b).state ≡ b.state
        → IsKept d rank (outs ++ move (ask n p r) ∷ []) (changed_plant s n g (line_after (ask n p r) s.line))
    kept-asked names r e running same =
        let ap' = apart-here names nothing (also (awaiting r)) e in
        let E : List Entry = entries s.batches in
        kept-after d rank outs s sd k b i (move (ask n p r)) g (line_after (ask n p r) s.line) c.number
        (change-sound d rank b a g f (k.sound b i) c (fit-running (g b).state (facts (g b).rest) (subst (λ z. is_running z ≡ true) (sym same) running)))
        (λ m old q. refl) (ap Some (sym same))
        (λ q. subst (Agrees (holders_told outs q)) (sym (same-holders n p names nothing (also (awaiting r)) E entries_after ap' q refl refl)) (k.held q))
        (λ q. subst (λ z. units_in z ≤ d.capacity q) (sym (same-holders n p names nothing (also (awaiting r)) E entries_after ap' q refl refl)) (k.within q))
        (λ q. refl)
        (λ q. still_once q ap' (bytes_eq q r.resource))
        (λ q z h. go q z ap' (bytes_eq q r.resource) refl h)
        (λ y h. ⊎_elim (λ o. o) (λ o. absurd o) (stays n p names nothing (also (awaiting r)) E entries_after ap' (y.act, performing y.phase) (k.active y h)))
        (λ q z h. ⊎_elim (λ m. longer q z (bytes_eq q r.resource) (k.listed q z m)) (λ m. joins q z (tail-asked n p r (need q z.units) z.act m) (bytes_eq q r.resource) refl)
        (stays n p names (also (awaiting r)) nothing entries_after E (back_again n p names nothing (also (awaiting r)) E entries_after ap') (z.act, awaiting (need q z.units)) h))
        (λ z y h. ⊎_elim (λ m. k.shown z y m) (λ m. absurd (tail-awaited_performing n p r y z m))
        (stays n p names (also (awaiting r)) nothing entries_after E (back_again n p names nothing (also (awaiting r)) E entries_after ap') (z, performing y) h))
      where
        longer : (q : Name) (z : Share) (t : Bool) → Has (s.line q) z → Has (elim t [ true ↦ s.line q ++ share (n, p) r.units ∷ [] | false ↦ s.line q ]) z
        longer q z true h = Has-left (s.line q) (share (n, p) r.units ∷ []) z h
        longer q z false h = h

        joins : (q : Name) (z : Share) → ((n, p) ≡ z.act) × (r ≡ need q z.units) → (t : Bool) → bytes_eq q r.resource ≡ t → Has (elim t [ true ↦ s.line q ++ share (n, p) r.units ∷ [] | false ↦ s.line q ]) z
        joins q z e true u = Has-right (s.line q) (share (n, p) r.units ∷ []) z
            (inl (ap (λ w. share (n, p) w.units) e.1 ∙ ap (λ w. share w z.units) e.0))
        joins q z e false u = absurd (no_both (bytes_eq q r.resource) (subst (λ w. bytes_eq q w.resource ≡ true) (sym e.1) (name_self q)) u)
          where
            no_both : (t : Bool) → t ≡ true → t ≡ false → ⊥
            no_both true v w = cc
            no_both false v w = cc

        still_once : (q : Name) → IsApart n p names nothing (also (awaiting r)) (entries s.batches) entries_after → (t : Bool)
            → IsOnce (elim t [ true ↦ s.line q ++ share (n, p) r.units ∷ [] | false ↦ s.line q ])
        still_once q ap' true =
            once-snoc (share (n, p) r.units) (s.line q) (k.once q)
            (λ y h e. not_yet_awaiting n p names (also (awaiting r)) (entries s.batches) entries_after ap' y.act (need q y.units) (k.asked q y h) e)
        still_once q ap' false = k.once q

        old : (q : Name) (z : Share) → IsApart n p names nothing (also (awaiting r)) (entries s.batches) entries_after → Has (s.line q) z → Has entries_after (z.act, awaiting (need q z.units))
        old q z ap' h = ⊎_elim (λ m. m) (λ m. absurd m) (stays n p names nothing (also (awaiting r)) (entries s.batches) entries_after ap' (z.act, awaiting (need q z.units)) (k.asked q z h))

        go : (q : Name) (z : Share) → IsApart n p names nothing (also (awaiting r)) (entries s.batches) entries_after → (t : Bool) → bytes_eq q r.resource ≡ t
            → Has (elim t [ true ↦ s.line q ++ share (n, p) r.units ∷ [] | false ↦ s.line q ]) z → Has entries_after (z.act, awaiting (need q z.units))
        go q z ap' true u h =
            ⊎_elim (old q z ap')
            (λ m. ⊎_elim
            (λ v. subst₂ (λ y w. Has entries_after (y.act, awaiting (need w y.units))) v (sym (name_same q r.resource u))
            (comes n p names nothing (also (awaiting r)) (entries s.batches) entries_after ap' ((n, p), awaiting r) (inl refl)))
            (λ v. absurd v) m)
            (Has-split (s.line q) (share (n, p) r.units ∷ []) z h)
        go q z ap' false u h = old q z ap' h

    -- the first in line gets a free share
    pub kept-granted : (names : List Need) (r : Need) → Becomes a f names (also (awaiting r)) (also (holding r)) → units_in (holders_among r.resource (entries s.batches)) + r.units ≤ d.capacity r.resource
        → Has (facts b.rest) (p, awaiting r) → Lacks names r → (g b).state ≡ b.state
        → IsKept d rank (outs ++ move (grant n p r) ∷ []) (changed_plant s n g (line_after (grant n p r) s.line))
    kept-granted names r e free asks lacks same =
        let ap' = apart-here names (also (awaiting r)) (also (holding r)) e in
        kept-after d rank outs s sd k b i (move (grant n p r)) g (line_after (grant n p r) s.line) c.number
        (change-sound d rank b a g f (k.sound b i) c
        (subst (λ z. IsFitting z (facts (g b).rest)) (sym same) (fit-awaited b.state (facts b.rest) (facts (g b).rest) p r asks (k.sound b i).fits)))
        (λ m old q. refl) (ap Some (sym same))
        (λ q. hold q ap' (bytes_eq q r.resource) refl)
        (λ q. room q ap' (bytes_eq q r.resource) refl)
        (λ q. refl)
        (λ q. still_once q (bytes_eq q r.resource))
        (λ q z h. go q z ap' (bytes_eq q r.resource) refl h)
        (λ y h. ⊎_elim (λ o. o) (λ o. absurd (tail-awaited_performing n p r y.phase y.act o))
        (stays n p names (also (awaiting r)) (also (holding r)) (entries s.batches) entries_after ap' (y.act, performing y.phase) (k.active y h)))
        (λ q z h. ⊎_elim
        (λ m. waits q z (bytes_eq q r.resource) (k.listed q z m)
        (not_awaiting n p names r (also (awaiting r)) entries_after (entries s.batches) (back_again n p names (also (awaiting r)) (also (holding r)) (entries s.batches) entries_after ap') z.act (need q z.units) h))
        (λ m. absurd (tail-held_awaiting n p r (need q z.units) z.act m))
        (stays n p names (also (holding r)) (also (awaiting r)) entries_after (entries s.batches) (back_again n p names (also (awaiting r)) (also (holding r)) (entries s.batches) entries_after ap') (z.act, awaiting (need q z.units)) h))
        (λ z y h. ⊎_elim (λ m. k.shown z y m) (λ m. absurd (tail-held_performing n p r y z m))
        (stays n p names (also (holding r)) (also (awaiting r)) entries_after (entries s.batches) (back_again n p names (also (awaiting r)) (also (holding r)) (entries s.batches) entries_after ap') (z, performing y) h))
      where
        still_once : (q : Name) (t : Bool) → IsOnce (elim t [ true ↦ filter (λ y. not (is_same_act y.act (n, p))) (s.line q) | false ↦ s.line q ])
        still_once q true = once-filter (λ y. not (is_same_act y.act (n, p))) (s.line q) (k.once q)
        still_once q false = k.once q

        waits : (q : Name) (z : Share) (t : Bool) → Has (s.line q) z → (z.act ≡ (n, p) → ⊥) → Has (elim t [ true ↦ filter (λ y. not (is_same_act y.act (n, p))) (s.line q) | false ↦ s.line q ]) z
        waits q z true h e = without-Has (n, p) (s.line q) z h e
        waits q z false h e = h

        unchanged : (q : Name) → ApartHere names (also (awaiting r)) (also (holding r)) → bytes_eq q r.resource ≡ false → holders_among q entries_after ≡ holders_among q (entries s.batches)
        unchanged q ap' u = same-holders n p names (also (awaiting r)) (also (holding r)) (entries s.batches) entries_after ap' q refl (tail-no_holder n p q r u)

        hold : (q : Name) → ApartHere names (also (awaiting r)) (also (holding r)) → (t : Bool) → bytes_eq q r.resource ≡ t
            → Agrees (elim t [ true ↦ holders_told outs q ++ share (n, p) r.units ∷ [] | false ↦ holders_told outs q ]) (holders_among q entries_after)
        hold q ap' true u =
            subst (λ z. Agrees (holders_told outs z ++ share (n, p) r.units ∷ []) (holders_among z entries_after)) (sym (name_same q r.resource u))
            (agrees-granted n p names (also (awaiting r)) (also (holding r)) (entries s.batches) entries_after ap' r refl refl lacks (holders_told outs r.resource) (k.held r.resource)).0
        hold q ap' false u = subst (Agrees (holders_told outs q)) (sym (unchanged q ap' u)) (k.held q)

        room : (q : Name) → ApartHere names (also (awaiting r)) (also (holding r)) → (t : Bool) → bytes_eq q r.resource ≡ t → units_in (holders_among q entries_after) ≤ d.capacity q
        room q ap' true u =
            let more : units_in (holders_among r.resource entries_after) ≡ units_in (holders_among r.resource (entries s.batches)) + r.units
            = (agrees-granted n p names (also (awaiting r)) (also (holding r)) (entries s.batches) entries_after ap' r refl refl lacks (holders_told outs r.resource) (k.held r.resource)).1 in
            subst (λ z. units_in (holders_among z entries_after) ≤ d.capacity z) (sym (name_same q r.resource u))
            (let l : units_in (holders_among r.resource entries_after) ≤ d.capacity r.resource = omega arith in l)
        room q ap' false u = subst (λ z. units_in z ≤ d.capacity q) (sym (unchanged q ap' u)) (k.within q)

        go : (q : Name) (z : Share) → ApartHere names (also (awaiting r)) (also (holding r)) → (t : Bool) → bytes_eq q r.resource ≡ t
            → Has (elim t [ true ↦ filter (λ y. not (is_same_act y.act (n, p))) (s.line q) | false ↦ s.line q ]) z → Has entries_after (z.act, awaiting (need q z.units))
        go q z ap' true u h =
            let m = Has-without (n, p) (s.line q) z h in
            others-stay n p names (also (awaiting r)) (also (holding r)) (entries s.batches) entries_after ap' (z.act, awaiting (need q z.units)) (k.asked q z m.0) m.1
        go q z ap' false u h =
            ⊎_elim (λ m. m)
            (λ m. absurd (no_both (bytes_eq q r.resource) (subst (λ w. bytes_eq q w.resource ≡ true) (sym (tail-awaited n p r (need q z.units) z.act m)) (name_self q)) u))
            (stays n p names (also (awaiting r)) (also (holding r)) (entries s.batches) entries_after ap' (z.act, awaiting (need q z.units)) (k.asked q z h))
          where
            no_both : (t : Bool) → t ≡ true → t ≡ false → ⊥
            no_both true v w = cc
            no_both false v w = cc

    -- the last need is given back
    pub kept-released : (names : List Need) (r : Need) → Becomes a f names (also (holding r)) nothing → Lacks names r → (g b).state ≡ b.state
        → IsKept d rank (outs ++ move (release n p r) ∷ []) (changed_plant s n g s.line)
    kept-released names r e lacks same =
        let ap' = apart-here names (also (holding r)) nothing e in
        kept-after d rank outs s sd k b i (move (release n p r)) g s.line c.number
        (change-sound d rank b a g f (k.sound b i) c (subst (λ z. IsFitting z (facts (g b).rest)) (sym same) (fits-fewer names (also (holding r)) e)))
        (λ m old q. refl) (ap Some (sym same))
        (λ q. hold q ap' (bytes_eq q r.resource) refl)
        (λ q. room q ap' (bytes_eq q r.resource) refl)
        (λ q. refl) k.once
        (λ q z h. ⊎_elim (λ m. m) (λ m. absurd (tail-held_awaiting n p r (need q z.units) z.act m))
        (stays n p names (also (holding r)) nothing (entries s.batches) entries_after ap' (z.act, awaiting (need q z.units)) (k.asked q z h)))
        (λ y h. ⊎_elim (λ o. o) (λ o. absurd (tail-held_performing n p r y.phase y.act o))
        (stays n p names (also (holding r)) nothing (entries s.batches) entries_after ap' (y.act, performing y.phase) (k.active y h)))
        (λ q z h. ⊎_elim (λ m. k.listed q z m) (λ m. absurd m)
        (stays n p names nothing (also (holding r)) entries_after (entries s.batches) (back_again n p names (also (holding r)) nothing (entries s.batches) entries_after ap') (z.act, awaiting (need q z.units)) h))
        (λ z y h. ⊎_elim (λ m. k.shown z y m) (λ m. absurd m)
        (stays n p names nothing (also (holding r)) entries_after (entries s.batches) (back_again n p names (also (holding r)) nothing (entries s.batches) entries_after ap') (z, performing y) h))
      where
        unchanged : (q : Name) → ApartHere names (also (holding r)) nothing → bytes_eq q r.resource ≡ false → holders_among q entries_after ≡ holders_among q (entries s.batches)
        unchanged q ap' u = same-holders n p names (also (holding r)) nothing (entries s.batches) entries_after ap' q (tail-no_holder n p q r u) refl

        hold : (q : Name) → ApartHere names (also (holding r)) nothing → (t : Bool) → bytes_eq q r.resource ≡ t
            → Agrees (elim t [ true ↦ without (n, p) (holders_told outs q) | false ↦ holders_told outs q ]) (holders_among q entries_after)
        hold q ap' true u =
            subst (λ z. Agrees (without (n, p) (holders_told outs z)) (holders_among z entries_after)) (sym (name_same q r.resource u))
            (agrees-released n p names (also (holding r)) nothing (entries s.batches) entries_after ap' r refl refl lacks (holders_told outs r.resource) (k.held r.resource)).0
        hold q ap' false u = subst (Agrees (holders_told outs q)) (sym (unchanged q ap' u)) (k.held q)

        room : (q : Name) → ApartHere names (also (holding r)) nothing → (t : Bool) → bytes_eq q r.resource ≡ t → units_in (holders_among q entries_after) ≤ d.capacity q
        room q ap' true u =
            subst (λ z. units_in (holders_among z entries_after) ≤ d.capacity z) (sym (name_same q r.resource u))
            (le_trans (agrees-released n p names (also (holding r)) nothing (entries s.batches) entries_after ap' r refl refl lacks (holders_told outs r.resource) (k.held r.resource)).1 (k.within r.resource))
        room q ap' false u = subst (λ z. units_in z ≤ d.capacity q) (sym (unchanged q ap' u)) (k.within q)

    -- The last need is passed on

    holds-last : (names : List Need) (r : Need) → Becomes a f names (also (holding r)) nothing → Has (entries s.batches) ((n, p), holding r)
    holds-last names r e =
        let fr = act_frame in
        of-entry s.batches b p (holding r) i
        (subst (λ z. Has z (p, holding r)) (sym fr.2)
        (frame-middle fr.0 (facts a) fr.1 (p, holding r) (subst (λ z. Has z (p, holding r)) (sym e.was) (Has-right (held_at p names) ((p, holding r) ∷ []) (p, holding r) (inl refl)))))

    -- nothing is held in advance yet where a unit of which there is one is passed to
    pub not-held-yet : (names : List Need) (r : Need) → Becomes a f names (also (holding r)) nothing → (to : Place) → Nowhere to (acts b.rest) → r.units ≡ 1 → d.capacity r.resource ≡ 1
        → ((held : InAdvance) → Has b.in_advance held → held.place ≡ to → held.unit ≡ r) → (held : InAdvance) → Has b.in_advance held → held.place ≡ to → ⊥
    not-held-yet names r e to free one single unit held h at =
        let E : List Entry = entries s.batches in
        let early : Has (early_facts b.in_advance) (to, holding r)
        = subst (Has (early_facts b.in_advance)) (ap₂ (λ y z. let w : Standing = (y, holding z) in w) at (unit held h at)) (map-Has (λ (held : InAdvance). let w : Standing = (held.place, holding held.unit) in w) b.in_advance held h) in
        let theirs : Has E ((n, to), holding r) = of-batch s.batches b to (holding r) i (Has-left (early_facts b.in_advance) (facts b.rest) (to, holding r) early) in
        let as_one : (act : BatchAct) → Has E (act, holding r) → Has (holders_among r.resource E) (share act 1)
        = λ act m. holders-Has r.resource E (share act 1) (subst (λ units. Has E (act, holding (need r.resource units))) one m) in
        let both = alone (holders_among r.resource E) (n, p) (n, to) (subst (λ units. units_in (holders_among r.resource E) ≤ units) single (k.within r.resource)) (as_one (n, p) (holds-last names r e)) (as_one (n, to) theirs) in
        free a j (ap (λ z. z.1) both)

    -- where nothing stands, and nothing is held in advance, nothing of the batch is held
    none-there : (to : Place) → Nowhere to (acts b.rest) → ((held : InAdvance) → Has b.in_advance held → held.place ≡ to → ⊥) → (fact : Fact) → Has (entries s.batches) ((n, to), fact) → ⊥
    none-there to free apart fact h =
        let w = entry-of s.batches (n, to) fact h in
        let same : w.0 ≡ b = same-batch s.next_number s.batches w.0 b (numbers-of d s sd) w.1 i w.2 in
        ⊎_elim
        (λ m. let x = early-fact b.in_advance to fact m in apart x.0 x.1 x.2)
        (λ m. let x = fact-stands b.rest (to, fact) m in free x.0 x.1 x.2)
        (Has-split (early_facts b.in_advance) (facts b.rest) (to, fact) (subst (λ z. Has (batch_facts z) (to, fact)) same w.3))

    module _ (names : List Need) (r : Need) (e : Becomes a f names (also (holding r)) nothing) (to : Place) (free : Nowhere to (acts b.rest))
        (apart : (held : InAdvance) → Has b.in_advance held → held.place ≡ to → ⊥) (lacks : Lacks names r) (h : Batch → Batch) where
      abbrev passed_to : Entry
      passed_to = ((n, to), holding r)

      abbrev entries_passed : List Entry
      entries_passed = entries (map (only b.number h) s.batches)

      ap-here : IsApart n p names (also (holding r)) nothing (entries s.batches) entries_after
      ap-here = apart-here names (also (holding r)) nothing e

      abbrev Told : Name → List Share
      Told q = holders_after q (holders_told outs q) (move (pass n p to r))

      -- an entry after the release was one before
      before : (x : Entry) → Has entries_after x → Has (entries s.batches) x
      before x m = ⊎_elim (λ z. z) (λ z. absurd z) (stays n p names nothing (also (holding r)) entries_after (entries s.batches) (back_again n p names (also (holding r)) nothing (entries s.batches) entries_after ap-here) x m)

      none-yet : NoneBy (n, to) (holders_among r.resource entries_after)
      none-yet y m q =
          none-there to free apart (holding (need r.resource y.units))
          (subst (λ act. Has (entries s.batches) (act, holding (need r.resource y.units))) q (before (y.act, holding (need r.resource y.units)) (Has-holders r.resource entries_after y m)))

      module _ (more : AreAlike entries_passed (passed_to ∷ entries_after)) where
        less : AreAlike (passed_to ∷ entries_after) entries_passed
        less = record { sums = λ amount. sym (more.sums amount); there = more.back; back = more.there }

        passed-holder : holders_among r.resource (passed_to ∷ entries_after) ≡ share (n, to) r.units ∷ holders_among r.resource entries_after
        passed-holder = ap (λ t. elim t [ true ↦ share (n, to) r.units ∷ [] | false ↦ [] ] ++ holders_among r.resource entries_after) (name_self r.resource)

        held-passed : (q : Name) → Agrees (Told q) (holders_among q entries_passed)
        held-passed q = go (bytes_eq q r.resource) (bytes_eq q r.resource) refl refl
          where
            go : (t v : Bool) → bytes_eq q r.resource ≡ t → bytes_eq q r.resource ≡ v
                → Agrees (elim t [
                  | true ↦ elim v [ true ↦ without (n, p) (holders_told outs q) | false ↦ holders_told outs q ] ++ share (n, to) r.units ∷ []
                  | false ↦ elim v [ true ↦ without (n, p) (holders_told outs q) | false ↦ holders_told outs q ]
                ]) (holders_among q entries_passed)
            go true true u w =
                let one : Agrees (without (n, p) (holders_told outs r.resource)) (holders_among r.resource entries_after)
                = (agrees-released n p names (also (holding r)) nothing (entries s.batches) entries_after ap-here r refl refl lacks (holders_told outs r.resource) (k.held r.resource)).0 in
                let two : Agrees (without (n, p) (holders_told outs r.resource) ++ share (n, to) r.units ∷ []) (share (n, to) r.units ∷ holders_among r.resource entries_after)
                = agrees-more (share (n, to) r.units) (without (n, p) (holders_told outs r.resource)) [] [] (holders_among r.resource entries_after) one (λ y m. absurd m) (λ y m. absurd m) none-yet in
                subst (λ z. Agrees (without (n, p) (holders_told outs z) ++ share (n, to) r.units ∷ []) (holders_among z entries_passed)) (sym (name_same q r.resource u))
                (agrees-alike r.resource (without (n, p) (holders_told outs r.resource) ++ share (n, to) r.units ∷ []) (passed_to ∷ entries_after) entries_passed less
                (subst (Agrees (without (n, p) (holders_told outs r.resource) ++ share (n, to) r.units ∷ [])) (sym passed-holder) two))
            go false false u w =
                let same : holders_among q (passed_to ∷ entries_after) ≡ holders_among q (entries s.batches)
                = ap (λ t. elim t [ true ↦ share (n, to) r.units ∷ [] | false ↦ [] ] ++ holders_among q entries_after) u
                ∙ same-holders n p names (also (holding r)) nothing (entries s.batches) entries_after ap-here q (tail-no_holder n p q r u) refl in
                agrees-alike q (holders_told outs q) (passed_to ∷ entries_after) entries_passed less (subst (Agrees (holders_told outs q)) (sym same) (k.held q))
            go true false u w = let bad : true ≡ false = sym u ∙ w in absurd cc
            go false true u w = let bad : true ≡ false = sym w ∙ u in absurd cc

        -- as much is told to be held as before
        told-same : (q : Name) → units_in (Told q) ≡ units_in (holders_told outs q)
        told-same q = go (bytes_eq q r.resource) (bytes_eq q r.resource) refl refl
          where
            go : (t v : Bool) → bytes_eq q r.resource ≡ t → bytes_eq q r.resource ≡ v
                → units_in (elim t [
                  | true ↦ elim v [ true ↦ without (n, p) (holders_told outs q) | false ↦ holders_told outs q ] ++ share (n, to) r.units ∷ []
                  | false ↦ elim v [ true ↦ without (n, p) (holders_told outs q) | false ↦ holders_told outs q ]
                ]) ≡ units_in (holders_told outs q)
            go true true u w =
                let was : Has (holders_told outs r.resource) (share (n, p) r.units)
                = (k.held r.resource).2 (share (n, p) r.units) (holders-Has r.resource (entries s.batches) (share (n, p) r.units) (holds-last names r e)) in
                let less_one : r.units + units_in (without (n, p) (holders_told outs r.resource)) ≡ units_in (holders_told outs r.resource)
                = sums-without_once (λ z. z.units) (share (n, p) r.units) (holders_told outs r.resource) (k.held r.resource).3 was in
                let one_more : units_in (without (n, p) (holders_told outs r.resource) ++ share (n, to) r.units ∷ []) ≡ units_in (without (n, p) (holders_told outs r.resource)) + units_in (share (n, to) r.units ∷ [])
                = units-append (without (n, p) (holders_told outs r.resource)) (share (n, to) r.units ∷ []) in
                let alone_one : units_in (share (n, to) r.units ∷ []) ≡ r.units = units-one (share (n, to) r.units) in
                subst (λ z. units_in (without (n, p) (holders_told outs z) ++ share (n, to) r.units ∷ []) ≡ units_in (holders_told outs z)) (sym (name_same q r.resource u))
                (omega (arith, less_one, one_more, alone_one))
            go false false u w = refl
            go true false u w = let bad : true ≡ false = sym u ∙ w in absurd cc
            go false true u w = let bad : true ≡ false = sym w ∙ u in absurd cc

        pub kept-passed_by : (h b).number ≡ b.number → (h b).state ≡ b.state → IsSound d rank (h b) → IsKept d rank (outs ++ move (pass n p to r) ∷ []) (changed_plant s n h s.line)
        kept-passed_by number state sound =
            kept-after d rank outs s sd k b i (move (pass n p to r)) h s.line number sound
            (λ m old q. refl) (ap Some (sym state))
            held-passed
            (λ q.
            let now : units_in (holders_among q entries_passed) ≡ units_in (Told q) = sym ((held-passed q).0 (λ z. z.units)) in
            let was : units_in (holders_told outs q) ≡ units_in (holders_among q (entries s.batches)) = (k.held q).0 (λ z. z.units) in
            subst (λ units. units ≤ d.capacity q) (sym (now ∙ (told-same q ∙ was))) (k.within q))
            (λ q. refl) k.once
            (λ q z m. more.back (z.act, awaiting (need q z.units))
            (inr (⊎_elim (λ y. y) (λ y. absurd (tail-held_awaiting n p r (need q z.units) z.act y))
            (stays n p names (also (holding r)) nothing (entries s.batches) entries_after ap-here (z.act, awaiting (need q z.units)) (k.asked q z m)))))
            (λ y m. more.back (y.act, performing y.phase)
            (inr (⊎_elim (λ z. z) (λ z. absurd (tail-held_performing n p r y.phase y.act z))
            (stays n p names (also (holding r)) nothing (entries s.batches) entries_after ap-here (y.act, performing y.phase) (k.active y m)))))
            (λ q z m. ⊎_elim (λ y. absurd (holding-awaiting r (need q z.units) (ap (λ x. x.1) y))) (λ y. k.listed q z (before (z.act, awaiting (need q z.units)) y))
            (more.there (z.act, awaiting (need q z.units)) m))
            (λ z y m. ⊎_elim (λ x. absurd (holding-performing r y (ap (λ w. w.1) x))) (λ x. k.shown z y (before (z, performing y) x))
            (more.there (z, performing y) m))

    -- the last need is passed to a place where nothing stands
    pub kept-passed : (names : List Need) (r : Need) → Becomes a f names (also (holding r)) nothing → (to : Place) → Nowhere to (acts b.rest)
        → ((held : InAdvance) → Has b.in_advance held → held.place ≡ to → ⊥) → Lacks names r → (h : Batch → Batch)
        → (h b).number ≡ b.number → batch_facts (h b) ≡ (to, holding r) ∷ batch_facts (g b) → (h b).state ≡ b.state → IsSound d rank (h b)
        → IsKept d rank (outs ++ move (pass n p to r) ∷ []) (changed_plant s n h s.line)
    kept-passed names r e to free apart lacks h number now state sound =
        let added : entries_of (h b) ≡ ((n, to), holding r) ∷ entries_of (g b)
        = ap₂ (λ m xs. map (entry m) xs) number now ∙ ap (λ m. ((n, to), holding r) ∷ map (entry m) (batch_facts (g b))) (sym c.number) in
        kept-passed_by names r e to free apart lacks h (entries-more s.next_number s.batches b g h ((n, to), holding r) (numbers-of d s sd) i added) number state sound
