-- Each move of an act keeps the invariant.
use Rattle.std.proofs.Common.{◌≡◌, ⊎_elim, refl, sym, ◌∙◌, ap, subst, ℕ, zero, suc, pred, ◌<◌, ◌≤◌, ◌+◌, nat_le, arith, List, [], ◌∷◌, ◌++◌, Bool, true, false, not, ◌&&◌, ◌||◌, take, slice_get, map, find, nat_eq, Option, Some, None, inl, length, append-nil, option_map, option_and_then}
use Rattle.std.proofs.lemmas.{Option.slice_get_within, List.map-append, Bool.and_parts}
use Rattle.batch_matrix.specs.{declared.state.State.State, declared.command.Command.Command, Matrix.accepts}
use Rattle.batch_model.{specs.Lists.Has, specs.Lists.Each, specs.Rest.Rest, specs.Rest.Moment, specs.Rest.ready, specs.Rest.asking, specs.Rest.open_act, specs.Rest.live, specs.Rest.freeing, specs.Rest.is_done, specs.Rest.acts, specs.Rest.place_of, specs.Rest.changed_at, specs.Plant.Setup, specs.Plant.InAdvance, specs.Plant.Batch, specs.Plant.Share, specs.Plant.units_in, specs.Plant.Plant, specs.Plant.moment_of, specs.Plant.in_act, specs.Plant.held_in, specs.Plant.holders, specs.ActStates.steps, specs.Standing.IsAwaited, specs.Standing.is_resting, specs.Moves.Move, specs.Moves.send, specs.Moves.release, specs.Moves.pass, specs.Moves.begin, specs.Moves.start, specs.Moves.end, specs.Moves.ask, specs.Moves.grant, specs.Moves.is_running, specs.Moves.is_stopping, specs.Moves.is_stopped, specs.Moves.is_quiet, specs.Moves.is_empty, specs.Moves.command_passed_on, specs.Moves.beginning, specs.Moves.entering, specs.Moves.last_held, specs.Moves.giving_back, specs.Moves.reserved_place, specs.Moves.handing_over, specs.Moves.line_after, specs.Moves.when, specs.Moves.is_served, specs.Moves.act_move, specs.Moves.freed, specs.Moves.sent, specs.Moves.released, specs.Moves.begun, specs.Moves.ended, specs.Moves.asked, specs.Moves.granted, specs.Moves.batch_after, specs.Moves.after_move, specs.Moves.handed_values, specs.Runs.Out, specs.Runs.move, specs.Records.StartsIdle, specs.Cleared.Ranking, proofs.Members.Has-right, proofs.Members.Each-Has, specs.Standing.IsStandingBatch, specs.Standing.IsStanding}
use Rattle.batch_recipe.specs.{Conditions.Name, Conditions.ValueList, Following.follower, Tree.Place, Tree.Reserve, Tree.Step, Tree.Phase, Tree.Task, Tree.runs, Tree.follows, Tree.Tree, declared.need.Need.Need}
use Rattle.batch_record_laws.proofs.{PlantFacts.holding, PlantFacts.awaiting, PlantFacts.performing, PlantFacts.Standing, PlantFacts.held_at, PlantFacts.awaited_at, PlantFacts.facts, PlantFacts.early_facts, PlantFacts.batch_facts, PlantFacts.Entry, PlantFacts.entries, PlantFacts.holders_among, FactsAfterAdvance.reach-facts, FactsAfterAdvance.done-facts, HoldingsInAdvance.at_moment, HoldingsInAdvance.Nowhere, HoldingsInAdvance.IsSteady, HoldingsInAdvance.IsTidy, DuePlaces.awaited-nowhere, EffectsOnActs.stays-steady, EffectsOnActs.stays-tidy, EffectsOnActs.sent-stays, EffectsOnActs.released-stays, EffectsOnActs.ended-stays, EffectsOnActs.asked-stays, EffectsOnActs.granted-stays, EffectsOnActs.begun-steady, EffectsOnActs.begun-tidy, UnitProcedures.find-passes, SameFacts.AreAlike, SameFacts.left_over, BatchProgress.GoesOn, BatchProgress.HoldsAhead, BatchProgress.kept-on, BatchProgress.all-alike, BatchProgress.act-step_in, BatchProgress.is_under_way, BatchProgress.fits-under_way, BatchProgress.early-none, RanksOfAsks.rises-next, FactsAfterChange.Frame, FactsAfterChange.frame, FactsAfterChange.needs_of, FactsAfterChange.NeedsRise, FactsAfterChange.needs-rise, Entries.frame-middle, Entries.nat_same, Batches.holders-entries, Batches.only, Invariant.IsFitting, Invariant.IsFirstNeed, Invariant.AreFirstNeeds, Invariant.IsSound, Invariant.IsKept, AbsentFacts.quiet-performs_nothing, AbsentFacts.holding-nothing, AbsentFacts.no_facts, AbsentFacts.fit-stopping, PhaseStarts.starts-nothing, PhaseStarts.starts-idle, ActChanges.changed_plant, ActChanges.nothing, ActChanges.also, ActChanges.IsApart, ActChanges.stays, ActChanges.comes, ActChanges.IsChange, ActChanges.change-sound, ActChanges.Becomes, ActChanges.Lacks, ActChanges.not_performing, InvariantAfterChange.kept-quiet, InvariantAfterChange.kept-started, InvariantAfterChange.kept-asked, InvariantAfterChange.kept-granted, InvariantAfterChange.kept-released, InvariantAfterChange.kept-passed, InvariantAfterChange.not-held-yet, InvariantAfterChange.act_frame, InvariantAfterChange.apart-here, Invariant.standing-of}
use Rattle.batch_step_laws.proofs.{DueUnitProcedures.follower-due, RestsAfterChange.RemainsAs, RestsAfterChange.sent-remains, RestsAfterChange.released-remains, RestsAfterChange.ended-remains, RestsAfterChange.begun-remains, HoldersInAdvance.begun-busy, WorkAfterMove.one_act, ActOrder.acts-rise}

-- Lists of needs

pub take-next : (k : ℕ) (xs : List Need) (r : Need) → slice_get xs k ≡ Some r → take (suc k) xs ≡ take k xs ++ r ∷ []
take-next k [] r e = absurd cc
take-next zero (x ∷ xs) r e = (let q : x ≡ r = cc in ap (λ z. z ∷ []) q)
take-next (suc k) (x ∷ xs) r e = ap (λ z. x ∷ z) (take-next k xs r e)

pub take-whole : (k : ℕ) (xs : List Need) → slice_get xs k ≡ None → take k xs ≡ xs
take-whole zero (x ∷ xs) e = absurd cc
take-whole (suc k) (x ∷ xs) e = ap (λ z. x ∷ z) (take-whole k xs e)
take-whole k xs e = grind arith

pub take-length : (xs : List Need) → take (length xs) xs ≡ xs
take-length [] = refl
take-length (x ∷ xs) = ap (λ z. x ∷ z) (take-length xs)

held-append : (p : Place) (xs ys : List Need) → held_at p (xs ++ ys) ≡ held_at p xs ++ held_at p ys
held-append p xs ys = map-append (λ r. let z : Standing = (p, holding r) in z) xs ys

pub held-next : (p : Place) (k : ℕ) (xs : List Need) (r : Need) → slice_get xs k ≡ Some r → held_at p (take (suc k) xs) ≡ held_at p (take k xs) ++ (p, holding r) ∷ []
held-next p k xs r e = ap (held_at p) (take-next k xs r e) ∙ held-append p (take k xs) (r ∷ [])

pub freed-facts : (s : Step) (k : ℕ) → facts (freed s k) ≡ held_at s.place (take k s.needs)
freed-facts s k = grind arith

-- the required effect of a move
abbrev pub Stepped : Setup → Ranking → List Out → Plant → Move → Type 0
Stepped d rank outs s m = IsKept d rank (outs ++ move m ∷ []) (after_move s m) × StartsIdle d (outs ++ move m ∷ [])

pub some_move : (m l : Move) → ◌≡◌ {A = Option Move} (Some m) (Some l) → m ≡ l
some_move m l e = cc

pub no_move : (l : Move) → ◌≡◌ {A = Option Move} None (Some l) → ⊥
no_move l e = cc

same_need : {x y : Need} → Some x ≡ Some y → x ≡ y
same_need e = cc

going_on : (x : State) → is_resting x ≡ false → (is_stopping x || is_stopped x) ≡ false → is_under_way x ≡ true
going_on x busy on = both (is_stopping x || is_stopped x) (is_resting x) on busy
  where
    both : (t u : Bool) → t ≡ false → u ≡ false → (not t && not u) ≡ true
    both false false v w = refl
    both true u v w = let bad : true ≡ false = v in absurd cc
    both false true v w = let bad : true ≡ false = w in absurd cc

module _ (d : Setup) (rank : Ranking) (outs : List Out) (s : Plant) (sd : IsStanding d s) (k : IsKept d rank outs s) (b : Batch) (i : Has s.batches b) where
  fine : IsSound d rank b
  fine = k.sound b i

  here : IsStandingBatch d b
  here = standing-of d s sd b i

  -- the batch in which the act has been changed, before its charts go on
  abbrev moved : Rest → (Rest → Rest) → Batch → Batch
  moved a f z = record z { rest = changed_at (place_of a) f z.rest }

  change : (a : Rest) (f : Rest → Rest) → IsChange b a (moved a f) f
  change a f = record { number = refl; recipe = refl; changed = refl; early = refl }

  nothing_ahead : (held : InAdvance) → Has b.in_advance held → Nowhere held.place (acts b.rest)
  nothing_ahead held j =
      awaited-nowhere b.recipe.procedure b.rest fine.cleared.placed here.stands held.place (Each-Has (λ held. IsAwaited b.rest held.place) b.in_advance held here.awaited j)

  holds_ahead : HoldsAhead b b.in_advance
  holds_ahead = record { apart = fine.apart; units = fine.units; nowhere = nothing_ahead }

  -- the act alone stands at its place
  this_act : (a c : Rest) → Has (acts b.rest) a → Has (acts b.rest) c → place_of c ≡ place_of a → a ≡ c
  this_act a c j l e = one_act (acts b.rest) a c (acts-rise (0 ∷ []) b.recipe.procedure b.rest fine.cleared.placed here.stands) j l (sym e)

  remain : (a : Rest) → Has (acts b.rest) a → (f : Rest → Rest) → RemainsAs a (f a) → (c : Rest) → Has (acts b.rest) c → place_of c ≡ place_of a → RemainsAs c (f c)
  remain a j f r c l e = subst (λ z. RemainsAs z (f z)) (this_act a c j l e) r

  -- the batch goes on from the effect of a move without a pass
  module _ (o : List Out) (a : Rest) (j : Has (acts b.rest) a) (m : Move) (f : Moment → Rest → Rest) (steady : IsSteady f) (tidy : IsTidy (f (at_moment b.values [])))
      (r : RemainsAs a (f (at_moment b.values []) a)) (e : batch_after m b ≡ in_act (place_of a) (f (moment_of b)) b) where
    abbrev first_of : Batch → Batch
    first_of = moved a (f (at_moment b.values []))

    going : GoesOn b (place_of a) f b.values b.in_advance first_of (batch_after m)
    going = record {
      number = refl;
      changed = refl;
      early = refl;
      same_number = ap (λ z. z.number) e;
      same_recipe = ap (λ z. z.recipe) e;
      same_state = ap (λ z. z.state) e;
      advanced = ap (λ z. z.rest) e;
      left = ap (λ z. z.in_advance) e ∙ ap (λ z. left_over z b.in_advance) (sym (ap (λ z. z.rest) e));
    }

    gone_on : (line : Name → List Share) → IsKept d rank o (changed_plant s b.number first_of line) → IsKept d rank o (changed_plant s b.number (batch_after m) line)
    gone_on =
        kept-on d rank o s sd b i fine here (place_of a) f b.values b.in_advance first_of (batch_after m) going holds_ahead steady tidy
        (remain a j (f (at_moment b.values [])) r) (early-none d b here)

    gone_alike : AreAlike (entries (map (only b.number first_of) s.batches)) (entries (map (only b.number (batch_after m)) s.batches))
    gone_alike =
        all-alike d rank o s sd b i fine here (place_of a) f b.values b.in_advance first_of (batch_after m) going holds_ahead steady tidy
        (remain a j (f (at_moment b.values [])) r) (early-none d b here)

  rest-quiet : (a : Rest) → Has (acts b.rest) a → (f : Rest → Rest) → facts (f a) ≡ facts a → facts (moved a f b).rest ≡ facts b.rest
  rest-quiet a j f e =
      let fr : Frame b.rest a = act_frame d rank outs s sd k b i a j (moved a f) f (change a f) in
      fr.3 f ∙ ap (λ z. fr.0 ++ (z ++ fr.1)) e ∙ sym fr.2

  step-quiet : (a : Rest) → Has (acts b.rest) a → (f : Rest → Rest) → facts (f a) ≡ facts a → batch_facts (moved a f b) ≡ batch_facts b
  step-quiet a j f e = ap (λ z. early_facts b.in_advance ++ z) (rest-quiet a j f e)

  sound-quiet : (a : Rest) → Has (acts b.rest) a → (f : Rest → Rest) → facts (f a) ≡ facts a → IsSound d rank (moved a f b)
  sound-quiet a j f e = change-sound d rank b a (moved a f) f fine (change a f) (subst (IsFitting b.state) (sym (rest-quiet a j f e)) fine.fits)

  -- the facts of an act are facts of its batch
  own-fact : (a : Rest) → Has (acts b.rest) a → (e : Standing) → Has (facts a) e → Has (facts b.rest) e
  own-fact a j e h =
      let fr : Frame b.rest a = frame (0 ∷ []) b.recipe.procedure b.rest fine.cleared.placed here.stands a j in
      subst (λ z. Has z e) (sym fr.2) (frame-middle fr.0 (facts a) fr.1 e h)

  -- the first k needs of an act lack the next
  lacks-next : (a : Rest) → Has (acts b.rest) a → (n : ℕ) (r : Need) → slice_get (needs_of a) n ≡ Some r → Lacks (take n (needs_of a)) r
  lacks-next a j n r e x h q =
      let low : NeedsRise (λ q. suc (rank q)) a = needs-rise (λ q. suc (rank q)) 0 b.recipe.procedure b.rest fine.cleared.rising here.stands a j in
      let no_rise : suc (rank x.resource) < suc (rank r.resource) = rises-next (λ q. suc (rank q)) low.0 n (needs_of a) x r low.1 h e in
      let same : rank x.resource ≡ rank r.resource = ap rank q in
      absurd (omega arith)

  step-send : (p : Step) (x : Phase) (t : State) (c : Command) → Has (acts b.rest) (live p x t) → Stepped d rank outs s (send b.number p.place x c)
  step-send p x t c j =
      let m : Move = send b.number p.place x c in
      let a : Rest = live p x t in (
        gone_on (outs ++ move m ∷ []) a j m (λ moment. sent c) (stays-steady (sent c) (sent-stays c)) (stays-tidy (sent c) (sent-stays c)) (sent-remains c a) refl s.line
            (kept-quiet d rank outs s sd k b i (move m) (moved a (sent c)) refl (sound-quiet a j (sent c) refl) (step-quiet a j (sent c) refl)
            (λ n old q. refl, refl) (λ q hs. refl) (λ q ws. refl) (λ xs. refl)),
        starts-nothing d outs (move m) (λ n q y vs e. cc),
      )

  step-begin : (p : Step) (name : Name) (c : Tree) (n : ℕ) → Has (acts b.rest) (ready p (follows name c) n) → slice_get p.needs n ≡ None → Stepped d rank outs s (begin b.number p.place name)
  step-begin p name c n j e =
      let m : Move = begin b.number p.place name in
      let a : Rest = ready p (follows name c) n in
      let f : Rest → Rest = begun (at_moment b.values []) in
      let same : facts (f a) ≡ facts a
      = ap (λ z. held_at p.place p.needs ++ z) (reach-facts b.values c) ∙ append-nil (held_at p.place p.needs) ∙ ap (held_at p.place) (sym (take-whole n p.needs e)) in (
        gone_on (outs ++ move m ∷ []) a j m begun begun-steady (begun-tidy b.values) (begun-remains (at_moment b.values []) p (follows name c) n) refl s.line
            (kept-quiet d rank outs s sd k b i (move m) (moved a f) refl (sound-quiet a j f same) (step-quiet a j f same)
            (λ n old q. refl, refl) (λ q hs. refl) (λ q ws. refl) (λ xs. refl)),
        starts-nothing d outs (move m) (λ n q y vs e. cc),
      )

  step-end : (p : Step) (r : Rest) → Has (acts b.rest) (open_act p r) → is_done r ≡ true → Stepped d rank outs s (end b.number p.place)
  step-end p r j e =
      let m : Move = end b.number p.place in
      let a : Rest = open_act p r in
      let same : facts (ended a) ≡ facts a
      = freed-facts p (length p.needs) ∙ ap (held_at p.place) (take-length p.needs) ∙ sym (append-nil (held_at p.place p.needs)) ∙ ap (λ z. held_at p.place p.needs ++ z) (sym (done-facts r e)) in (
        gone_on (outs ++ move m ∷ []) a j m (λ moment. ended) (stays-steady ended ended-stays) (stays-tidy ended ended-stays) (ended-remains a) refl s.line
            (kept-quiet d rank outs s sd k b i (move m) (moved a ended) refl (sound-quiet a j ended same) (step-quiet a j ended same)
            (λ n old q. refl, refl) (λ q hs. refl) (λ q ws. refl) (λ xs. refl)),
        starts-nothing d outs (move m) (λ n q y vs e. cc),
      )

  step-start : (p : Step) (x : Phase) (n : ℕ) (vs : ValueList) → Has (acts b.rest) (ready p (runs x) n) → slice_get p.needs n ≡ None → is_running b.state ≡ true
      → IsStanding d (after_move s (start b.number p.place x vs)) → Stepped d rank outs s (start b.number p.place x vs)
  step-start p x n vs j e running td =
      let m : Move = start b.number p.place x vs in
      let a : Rest = ready p (runs x) n in
      let f : Rest → Rest = begun (at_moment b.values []) in
      let becomes : Becomes a f p.needs nothing (also (performing x))
      = record { was = ap (held_at p.place) (take-whole n p.needs e) ∙ sym (append-nil (held_at p.place p.needs)); is = refl } in
      let on = gone_on (outs ++ move m ∷ []) a j m begun begun-steady (begun-tidy b.values) (begun-remains (at_moment b.values []) p (runs x) n) refl in
      let all = gone_alike (outs ++ move m ∷ []) a j m begun begun-steady (begun-tidy b.values) (begun-remains (at_moment b.values []) p (runs x) n) refl in
      let kept : IsKept d rank (outs ++ move m ∷ []) (after_move s m)
      = on s.line (kept-started d rank outs s sd k b i a j (moved a f) f (change a f) p.needs x vs becomes running refl) in
      let E : List Entry = entries s.batches in
      let E' : List Entry = entries (map (only b.number (moved a f)) s.batches) in
      let ap' : IsApart b.number p.place p.needs nothing (also (performing x)) E E'
      = apart-here d rank outs s sd k b i a j (moved a f) f (change a f) p.needs nothing (also (performing x)) becomes in (
        kept,
        starts-idle d rank outs s (after_move s m) b.number p.place x vs sd k td kept
            (all.there ((b.number, p.place), performing x) (comes b.number p.place p.needs nothing (also (performing x)) E E' ap' ((b.number, p.place), performing x) (inl refl)))
            (λ c y h. (
              all.there (c, performing y) (⊎_elim (λ z. z) (λ z. absurd z) (stays b.number p.place p.needs nothing (also (performing x)) E E' ap' (c, performing y) h)),
              λ q. not_performing b.number p.place p.needs (also (performing x)) E E' ap' c y h q,
            )),
      )

  asked-remains : (p : Step) (w : Task) (n : ℕ) (r : Need) → slice_get p.needs n ≡ Some r → RemainsAs (ready p w n) (asked (ready p w n))
  asked-remains p w n r e u v h = (h.0, h.1, slice_get_within p.needs n r e)

  granted-remains : (p : Step) (w : Task) (n : ℕ) → RemainsAs (asking p w n) (granted (asking p w n))
  granted-remains p w n u v h = (h.0, h.1, omega (arith, h.2))

  step-ask : (p : Step) (w : Task) (n : ℕ) (r : Need) → Has (acts b.rest) (ready p w n) → slice_get p.needs n ≡ Some r → is_running b.state ≡ true
      → Stepped d rank outs s (ask b.number p.place r)
  step-ask p w n r j e running =
      let m : Move = ask b.number p.place r in
      let a : Rest = ready p w n in (
        gone_on (outs ++ move m ∷ []) a j m (λ moment. asked) (stays-steady asked asked-stays) (stays-tidy asked asked-stays) (asked-remains p w n r e) refl (line_after m s.line)
            (kept-asked d rank outs s sd k b i a j (moved a asked) asked (change a asked) (take n p.needs) r
            (record { was = sym (append-nil (held_at p.place (take n p.needs))); is = ap (λ z. held_at p.place (take n p.needs) ++ awaited_at p.place z) e }) running refl),
        starts-nothing d outs (move m) (λ n q y vs e. cc),
      )

  step-grant : (p : Step) (w : Task) (n : ℕ) (r : Need) → Has (acts b.rest) (asking p w n) → slice_get p.needs n ≡ Some r → is_served d s r (b.number, p.place) ≡ true
      → Stepped d rank outs s (grant b.number p.place r)
  step-grant p w n r j e served =
      let m : Move = grant b.number p.place r in
      let a : Rest = asking p w n in
      let was : facts a ≡ held_at p.place (take n p.needs) ++ (p.place, awaiting r) ∷ [] = ap (λ z. held_at p.place (take n p.needs) ++ awaited_at p.place z) e in
      let room : nat_le (units_in (holders s r.resource) + r.units) (d.capacity r.resource) ≡ true
      = (and_parts (nat_le (units_in (holders s r.resource) + r.units) (d.capacity r.resource)) _ served).0 in
      let same : units_in (holders s r.resource) ≡ units_in (holders_among r.resource (entries s.batches)) = ap (λ z. units_in z) (holders-entries s r.resource) in (
        gone_on (outs ++ move m ∷ []) a j m (λ moment. granted) (stays-steady granted granted-stays) (stays-tidy granted granted-stays) (granted-remains p w n) refl (line_after m s.line)
            (kept-granted d rank outs s sd k b i a j (moved a granted) granted (change a granted) (take n p.needs) r
            (record { was = was; is = held-next p.place n p.needs r e })
            (let free : units_in (holders s r.resource) + r.units ≤ d.capacity r.resource = grind arith in omega arith)
            (own-fact a j (p.place, awaiting r) (subst (λ z. Has z (p.place, awaiting r)) (sym was) (Has-right (held_at p.place (take n p.needs)) ((p.place, awaiting r) ∷ []) (p.place, awaiting r) (inl refl))))
            (lacks-next a j n r e) refl),
        starts-nothing d outs (move m) (λ n q y vs e. cc),
      )

  -- a release of the need after the first n, which a holds, and after it the first n
  step-release : (a : Rest) → Has (acts b.rest) a → (n : ℕ) (r : Need) → slice_get (needs_of a) n ≡ Some r
      → facts a ≡ held_at (place_of a) (take (suc n) (needs_of a)) → facts (released a) ≡ held_at (place_of a) (take n (needs_of a))
      → Stepped d rank outs s (release b.number (place_of a) r)
  step-release a j n r e was is =
      let m : Move = release b.number (place_of a) r in (
        gone_on (outs ++ move m ∷ []) a j m (λ moment. released) (stays-steady released released-stays) (stays-tidy released released-stays) (released-remains a) refl s.line
            (kept-released d rank outs s sd k b i a j (moved a released) released (change a released) (take n (needs_of a)) r
            (record { was = was ∙ held-next (place_of a) n (needs_of a) r e; is = is ∙ sym (append-nil (held_at (place_of a) (take n (needs_of a)))) })
            (lacks-next a j n r e) refl),
        starts-nothing d outs (move m) (λ n q y vs e. cc),
      )

  given_back : (a : Rest) → Has (acts b.rest) a → (p : Step) (n : ℕ) (m : Move) → place_of a ≡ p.place → needs_of a ≡ p.needs
      → ((l : ℕ) (r : Need) → n ≡ suc l → slice_get p.needs l ≡ Some r → facts a ≡ held_at (place_of a) (take (suc l) (needs_of a)))
      → ((l : ℕ) → n ≡ suc l → facts (released a) ≡ held_at (place_of a) (take l (needs_of a)))
      → giving_back b p n ≡ Some m → Stepped d rank outs s m
  given_back a j p zero m at needs was is e = absurd (no_move m e)
  given_back a j p (suc l) m at needs was is e = go (slice_get p.needs l) refl e
    where
      go : (o : Option Need) → slice_get p.needs l ≡ o → ◌≡◌ {A = Option Move} (option_map (release b.number p.place) o) (Some m) → Stepped d rank outs s m
      go None q f = absurd (no_move m f)
      go (Some r) q f =
          subst (Stepped d rank outs s) (ap (λ z. release b.number z r) at ∙ some_move (release b.number p.place r) m f)
          (step-release a j l r (ap (λ z. slice_get z l) needs ∙ q) (was l r refl q) (is l refl))

  -- Passing

  -- the unit procedure for which an act that is freeing reserves its last need
  record PassesTo (p : Step) (l : ℕ) (r : Need) (to : Place) : Type 0 where
    awaited : IsAwaited b.rest to
    first : IsFirstNeed b.recipe.procedure (record { place = to; unit = r })
    single : (r.units ≡ 1) × (d.capacity r.resource ≡ 1)
    unit_is : (held : InAdvance) → IsFirstNeed b.recipe.procedure held → held.place ≡ to → held.unit ≡ r

  passes_to : (p : Step) (l : ℕ) (r : Need) (to : Place) → Has (acts b.rest) (freeing p (suc l)) → slice_get p.needs l ≡ Some r → reserved_place b.recipe.procedure p l ≡ Some to → PassesTo p l r to
  passes_to p l r to j e q = go (find (λ (x : Reserve). nat_eq x.need l) p.reserves) refl q
    where
      go : (o : Option Reserve) → find (λ (x : Reserve). nat_eq x.need l) p.reserves ≡ o
          → option_and_then (λ (x : Reserve). follower b.recipe.procedure p.place x.name) o ≡ Some to → PassesTo p l r to
      go None f g = let bad : None ≡ Some to = g in absurd cc
      go (Some x) f g =
          let found = find-passes (λ (y : Reserve). nat_eq y.need l) p.reserves x f in
          let number : x.need ≡ l = nat_same x.need l found.1 in
          let need : slice_get p.needs x.need ≡ Some r = ap (slice_get p.needs) number ∙ e in
          let step : Has (steps b.recipe.procedure) p = act-step_in b.recipe.procedure b.rest (freeing p (suc l)) p here.stands j refl in
          let firsts = Each-Has (λ reserve. (place : Place) → follower b.recipe.procedure p.place reserve.name ≡ Some place → Each (λ other. other.place ≡ place → slice_get p.needs reserve.need ≡ slice_get other.needs 0) (steps b.recipe.procedure)) p.reserves x
          (Each-Has (λ step. Each (λ reserve. (place : Place) → follower b.recipe.procedure step.place reserve.name ≡ Some place → Each (λ other. other.place ≡ place → slice_get step.needs reserve.need ≡ slice_get other.needs 0) (steps b.recipe.procedure)) step.reserves)
          (steps b.recipe.procedure) p fine.cleared.reserved step) found.0 to g in
          let match : (t : Step) → Has (steps b.recipe.procedure) t → t.place ≡ to → slice_get t.needs 0 ≡ Some r
          = λ t h at. sym (Each-Has (λ (other : Step). other.place ≡ to → slice_get p.needs x.need ≡ slice_get other.needs 0) (steps b.recipe.procedure) t firsts h at) ∙ need in
          let alone = fine.cleared.followed p.place x.name to g in
          let own : Some alone.3.0 ≡ Some r = sym alone.3.1 ∙ match alone.0 alone.1 alone.2 in
          let same : alone.3.0 ≡ r = cc in
          record {
            awaited = follower-due b.recipe.procedure b.rest p (suc l) x.name to fine.cleared.placed here.stands j g;
            first = match;
            single = subst (λ (z : Need). (z.units ≡ 1) × (d.capacity z.resource ≡ 1)) same (alone.3.2, alone.3.3);
            unit_is = λ held h at. same_need (sym (h alone.0 alone.1 (alone.2 ∙ sym at)) ∙ match alone.0 alone.1 alone.2);
          }

  step-pass : (p : Step) (l : ℕ) (r : Need) (to : Place) → Has (acts b.rest) (freeing p (suc l)) → slice_get p.needs l ≡ Some r → reserved_place b.recipe.procedure p l ≡ Some to
      → (is_stopping b.state || is_stopped b.state) ≡ false → Stepped d rank outs s (pass b.number p.place to r)
  step-pass p l r to j e q on =
      let m : Move = pass b.number p.place to r in
      let a : Rest = freeing p (suc l) in
      let passed : InAdvance = record { place = to; unit = r } in
      let xs : List InAdvance = passed ∷ b.in_advance in
      let g : Batch → Batch = λ z. record z { rest = changed_at p.place released z.rest; in_advance = passed ∷ z.in_advance } in
      let t = passes_to p l r to j e q in
      let free : Nowhere to (acts b.rest) = awaited-nowhere b.recipe.procedure b.rest fine.cleared.placed here.stands to t.awaited in
      let becomes : Becomes a released (take l p.needs) (also (holding r)) nothing
      = record { was = held-next p.place l p.needs r e; is = freed-facts p l ∙ sym (append-nil (held_at p.place (take l p.needs))) } in
      let apart : (held : InAdvance) → Has b.in_advance held → held.place ≡ to → ⊥
      = not-held-yet d rank outs s sd k b i a j (moved a released) released (change a released) (take l p.needs) r becomes to free t.single.0 t.single.1
      (λ held h. t.unit_is held (fine.units held h)) in
      let under : is_under_way b.state ≡ true = going_on b.state (begun-busy d b here (a, j, λ u. u)) on in
      let units : AreFirstNeeds b.recipe.procedure xs = λ held h. ⊎_elim (λ z. subst (IsFirstNeed b.recipe.procedure) z t.first) (fine.units held) h in
      let before : IsSound d rank (g b) = record { cleared = fine.cleared; fits = fits-under_way b.state (facts (g b).rest) under; apart = (apart, fine.apart); units = units } in (
        kept-on d rank (outs ++ move m ∷ []) s sd b i fine here p.place (λ moment. released) b.values xs g (batch_after m)
            (record { number = refl; changed = refl; early = refl; same_number = refl; same_recipe = refl; same_state = refl; advanced = refl; left = refl })
            (record {
              apart = (apart, fine.apart);
              units = units;
              nowhere = λ held h. ⊎_elim (λ z. subst (λ (y : InAdvance). Nowhere y.place (acts b.rest)) z free) (nothing_ahead held) h;
            })
            (stays-steady released released-stays) (stays-tidy released released-stays) (remain a j released (released-remains a))
            (λ z. (let bad : true ≡ false = sym under ∙ z in absurd cc)) s.line
            (kept-passed d rank outs s sd k b i a j (moved a released) released (change a released) (take l p.needs) r becomes to free apart (lacks-next a j l r e) g refl refl refl before),
        starts-nothing d outs (move m) (λ n q y vs e. cc),
      )

  step-ready : (p : Step) (w : Task) (n : ℕ) (m : Move) → Has (acts b.rest) (ready p w n) → act_move d s b (ready p w n) ≡ Some m → IsStanding d (after_move s m) → Stepped d rank outs s m
  step-ready p w n m j e td = go (is_running b.state) refl e
    where
      enter : (o : Option Need) → slice_get p.needs n ≡ o → is_running b.state ≡ true → (v : Task) → w ≡ v
          → ◌≡◌ {A = Option Move}
          (elim o [
            | Some r ↦ Some (ask b.number p.place r)
            | None ↦ Some (beginning b p v)
          ])
          (Some m)
          → Stepped d rank outs s m
      enter (Some r) q run v u f = subst (Stepped d rank outs s) (some_move (ask b.number p.place r) m f) (step-ask p w n r j q run)
      enter None q run (runs x) u f =
          let made : start b.number p.place x (handed_values b.values x.handed) ≡ m = some_move (start b.number p.place x (handed_values b.values x.handed)) m f in
          subst (Stepped d rank outs s) made
          (step-start p x n (handed_values b.values x.handed) (subst (λ z. Has (acts b.rest) (ready p z n)) u j) q run (subst (λ z. IsStanding d (after_move s z)) (sym made) td))
      enter None q run (follows name c) u f =
          subst (Stepped d rank outs s) (some_move (begin b.number p.place name) m f) (step-begin p name c n (subst (λ z. Has (acts b.rest) (ready p z n)) u j) q)

      back : (t : Bool) → ◌≡◌ {A = Option Move} (elim t [ true ↦ giving_back b p n | false ↦ None ]) (Some m) → Stepped d rank outs s m
      back true f = given_back (ready p w n) j p n m refl refl (λ l r q g. ap (λ z. held_at p.place (take z p.needs)) q) (λ l q. ap (λ z. held_at p.place (take (pred z) p.needs)) q) f
      back false f = absurd (no_move m f)

      go : (t : Bool) → is_running b.state ≡ t
          → ◌≡◌ {A = Option Move} (elim t [ true ↦ entering b p w n | false ↦ elim (is_stopping b.state && is_quiet b.rest) [ true ↦ giving_back b p n | false ↦ None ] ]) (Some m)
          → Stepped d rank outs s m
      go true q f = enter (slice_get p.needs n) refl q w refl f
      go false q f = back (is_stopping b.state && is_quiet b.rest) f

  step-asking : (p : Step) (w : Task) (n : ℕ) (m : Move) → Has (acts b.rest) (asking p w n) → act_move d s b (asking p w n) ≡ Some m → Stepped d rank outs s m
  step-asking p w n m j e = go (slice_get p.needs n) refl e
    where
      serve : (r : Need) → slice_get p.needs n ≡ Some r → (t : Bool) → is_served d s r (b.number, p.place) ≡ t → when t (grant b.number p.place r) ≡ Some m → Stepped d rank outs s m
      serve r q true u f = subst (Stepped d rank outs s) (some_move (grant b.number p.place r) m f) (step-grant p w n r j q u)
      serve r q false u f = absurd (no_move m f)

      go : (o : Option Need) → slice_get p.needs n ≡ o
          → ◌≡◌ {A = Option Move} (elim o [ None ↦ None | Some r ↦ when (is_served d s r (b.number, p.place)) (grant b.number p.place r) ]) (Some m) → Stepped d rank outs s m
      go None q f = absurd (no_move m f)
      go (Some r) q f = serve r q (is_served d s r (b.number, p.place)) refl f

  -- below an open act that gives back its needs there are no facts
  nothing_below : (p : Step) (r : Rest) → Has (acts b.rest) (open_act p r) → is_stopping b.state ≡ true → is_quiet b.rest ≡ true → is_empty (held_in r) ≡ true → facts r ≡ []
  nothing_below p r j stopping quiet empty =
      no_facts (facts r)
      (λ q x h. fit-stopping b.state (facts b.rest) stopping fine.fits q x (own-fact (open_act p r) j (q, awaiting x) (Has-right (held_at p.place p.needs) (facts r) (q, awaiting x) h)))
      (λ q x h. quiet-performs_nothing b.rest quiet q x (own-fact (open_act p r) j (q, performing x) (Has-right (held_at p.place p.needs) (facts r) (q, performing x) h)))
      (holding-nothing r empty)

  step-open : (p : Step) (r : Rest) (m : Move) → Has (acts b.rest) (open_act p r) → act_move d s b (open_act p r) ≡ Some m → Stepped d rank outs s m
  step-open p r m j e = go (is_stopping b.state || is_stopped b.state) e
    where
      finish : (t : Bool) → is_done r ≡ t → when t (end b.number p.place) ≡ Some m → Stepped d rank outs s m
      finish true q f = subst (Stepped d rank outs s) (some_move (end b.number p.place) m f) (step-end p r j q)
      finish false q f = absurd (no_move m f)

      back : (t : Bool) → (is_stopping b.state && is_quiet b.rest && is_empty (held_in r)) ≡ t
          → ◌≡◌ {A = Option Move} (elim t [ true ↦ giving_back b p (length p.needs) | false ↦ None ]) (Some m) → Stepped d rank outs s m
      back true q f =
          let one = and_parts (is_stopping b.state && is_quiet b.rest) (is_empty (held_in r)) q in
          let two = and_parts (is_stopping b.state) (is_quiet b.rest) one.0 in
          let none : facts r ≡ [] = nothing_below p r j two.0 two.1 one.1 in
          given_back (open_act p r) j p (length p.needs) m refl refl
          (λ l x g h. ap (λ z. held_at p.place p.needs ++ z) none ∙ append-nil (held_at p.place p.needs) ∙ ap (held_at p.place) (sym (take-length p.needs)) ∙ ap (λ z. held_at p.place (take z p.needs)) g)
          (λ l g. freed-facts p (pred (length p.needs)) ∙ ap (λ z. held_at p.place (take (pred z) p.needs)) g) f
      back false q f = absurd (no_move m f)

      go : (t : Bool)
          → ◌≡◌ {A = Option Move}
          (elim t [
            | false ↦ when (is_done r) (end b.number p.place)
            | true ↦ elim (is_stopping b.state && is_quiet b.rest && is_empty (held_in r)) [ true ↦ giving_back b p (length p.needs) | false ↦ None ]
          ])
          (Some m)
          → Stepped d rank outs s m
      go false f = finish (is_done r) refl f
      go true f = back (is_stopping b.state && is_quiet b.rest && is_empty (held_in r)) refl f

  step-live : (p : Step) (x : Phase) (t : State) (m : Move) → Has (acts b.rest) (live p x t) → act_move d s b (live p x t) ≡ Some m → Stepped d rank outs s m
  step-live p x t m j e = go (command_passed_on b.state) e
    where
      pass : (c : Command) (u : Bool) → when u (send b.number p.place x c) ≡ Some m → Stepped d rank outs s m
      pass c true f = subst (Stepped d rank outs s) (some_move (send b.number p.place x c) m f) (step-send p x t c j)
      pass c false f = absurd (no_move m f)

      go : (o : Option Command) → ◌≡◌ {A = Option Move} (elim o [ None ↦ None | Some c ↦ when (accepts t c) (send b.number p.place x c) ]) (Some m) → Stepped d rank outs s m
      go None f = absurd (no_move m f)
      go (Some c) f = pass c (accepts t c) f

  step-freeing : (p : Step) (n : ℕ) (m : Move) → Has (acts b.rest) (freeing p n) → act_move d s b (freeing p n) ≡ Some m → Stepped d rank outs s m
  step-freeing p n m j e = go (is_stopping b.state || is_stopped b.state) refl e
    where
      back : giving_back b p n ≡ Some m → Stepped d rank outs s m
      back f =
          given_back (freeing p n) j p n m refl refl (λ l r q g. ap (λ z. held_at p.place (take z p.needs)) q)
          (λ l q. freed-facts p (pred n) ∙ ap (λ z. held_at p.place (take (pred z) p.needs)) q) f

      passed : (to : Place) (l : ℕ) → n ≡ l → reserved_place b.recipe.procedure p (pred l) ≡ Some to → (is_stopping b.state || is_stopped b.state) ≡ false
          → option_map (pass b.number p.place to) (last_held p l) ≡ Some m → Stepped d rank outs s m
      passed to zero z q on f = absurd (no_move m f)
      passed to (suc l) z q on f = pick (slice_get p.needs l) refl f
        where
          pick : (o : Option Need) → slice_get p.needs l ≡ o → ◌≡◌ {A = Option Move} (option_map (pass b.number p.place to) o) (Some m) → Stepped d rank outs s m
          pick None h y = absurd (no_move m y)
          pick (Some r) h y =
              subst (Stepped d rank outs s) (some_move (pass b.number p.place to r) m y) (step-pass p l r to (subst (λ k. Has (acts b.rest) (freeing p k)) z j) h q on)

      hand : (o : Option Place) → reserved_place b.recipe.procedure p (pred n) ≡ o → (is_stopping b.state || is_stopped b.state) ≡ false
          → ◌≡◌ {A = Option Move} (elim o [ None ↦ giving_back b p n | Some to ↦ option_map (pass b.number p.place to) (last_held p n) ]) (Some m) → Stepped d rank outs s m
      hand None q on f = back f
      hand (Some to) q on f = passed to n refl q on f

      go : (t : Bool) → (is_stopping b.state || is_stopped b.state) ≡ t
          → ◌≡◌ {A = Option Move} (elim t [ true ↦ giving_back b p n | false ↦ handing_over b p n ]) (Some m) → Stepped d rank outs s m
      go true q f = back f
      go false q f = hand (reserved_place b.recipe.procedure p (pred n)) refl q f

  pub act-step : (a : Rest) (m : Move) → Has (acts b.rest) a → act_move d s b a ≡ Some m → IsStanding d (after_move s m) → Stepped d rank outs s m
  act-step (ready p w n) m j e td = step-ready p w n m j e td
  act-step (asking p w n) m j e td = step-asking p w n m j e
  act-step (open_act p r) m j e td = step-open p r m j e
  act-step (live p x t) m j e td = step-live p x t m j e
  act-step (freeing p n) m j e td = step-freeing p n m j e
  act-step a m j e td = absurd (grind arith)
