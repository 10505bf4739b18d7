-- A running chart goes on as its batch does, with the units that the batch holds in advance.
use Rattle.std.proofs.Common.{◌≡◌, ◌⊎◌, inl, inr, ◌<◌, ℕ, List, [], ◌∷◌, length, filter, Bool, true, false, Some, nat_eq, arith, refl, sym, ◌∙◌, subst, ap}
use Rattle.std.specs.{Prelude.not, VecDeque.deque_capacity}
use Rattle.batch_record_laws.proofs.{Entries.Has-filter, HoldingsInAdvance.at_moment, HoldingsInAdvance.Nowhere, HoldingsInAdvance.raised, HoldingsInAdvance.IsFresh, HoldingsInAdvance.moved-raised, HoldingsInAdvance.not_reached, HoldingsInAdvance.reached-at, HoldingsInAdvance.fresh-where-none, EffectsOnActs.stays-steady, EffectsOnActs.stays-tidy, EffectsOnActs.granted-stays, EffectsOnActs.phase_after-stays}
use Rattle.batch_chart.{specs.Noting.AreNoted, specs.ByValues.advance_by, specs.Charts.Awaits, specs.Charts.IsChartOf, specs.Charts.IsRunningOf, specs.Charts.RunsAs, specs.Early.AreHeld, specs.Early.held_after, specs.Early.in_advance, specs.Early.is_early, specs.Early.is_ready, specs.Early.still_held, specs.Early.IsTakenBy, specs.Early.IsMovedOn, specs.Early.IsReportedOn, specs.declared.passed.Passed.Passed, specs.Meaning.meaning, specs.Neat.AreNeat, specs.NodesOf.most_by, specs.NodesOf.need_at, specs.NodesOf.own_units, specs.NodesOf.place_at, specs.Stages.stage_at, specs.Running.Allows, specs.Running.IsAlive, specs.Running.IsLiveIn, specs.Running.rest_after, specs.Running.IsChangedOnly, specs.Seen.machine_move, specs.Upkeep.IsKeptUp, specs.declared.chart_move.Move.Move, specs.declared.running.Running.Running, specs.declared.stage.Stage.Stage, proofs.ChartAfterMove.held-kept, proofs.ChartAfterMove.held-new, proofs.ChartAfterMove.passes-within, proofs.ActPlaces.changed-stands, proofs.RestAfterMove.AreWaiting, proofs.RestAfterMove.IsActMove, proofs.RestAfterMove.act-tidy, proofs.RestAfterMove.after-raised, proofs.RestAfterMove.among, proofs.RestAfterMove.filter-all, proofs.RestAfterMove.now-raised, proofs.RestAfterMove.now-waiting, proofs.RestAfterMove.still-early, proofs.RestAfterMove.early-told, proofs.RestAfterMove.still-held, proofs.RestAfterMove.any-has, proofs.RestAfterMove.raised-none, proofs.RestAfterMove.waiting-nowhere, proofs.RunningCharts.runs-by, proofs.ActSigns.noted}
use Rattle.batch_matrix.specs.{declared.report.ReportOutcome.ReportOutcome, declared.report.Report.Report, declared.state.State.State, Matrix.after_report}
use Rattle.batch_recipe.specs.{Conditions.ValueList, Nodes.node_count, Tree.Tree, declared.entry.Entry.Entry, declared.recipe.Recipe.Recipe}
use Rattle.batch_model.specs.{Events.phase_after, Lists.Has, Moves.act_after, Moves.batch_after, Moves.granted, Moves.passing, Moves.place_of_move, Plant.Batch, Plant.InAdvance, Plant.is_act_reached, Plant.in_act, Plant.moment_of, Plant.with_rest, Rest.Rest, Rest.acts, Rest.advance, Rest.changed_at, Rest.place_of}
use Rattle.batch_model.specs.Moves as machine
use Rattle.batch_chart.specs.declared.chart_move.Move.TheVariants as move
use Rattle.batch_signs.proofs.Bits.{nat-self}

-- a part of the needs held in advance is held as before
held-left : (count most : ℕ) (held : List Passed) (room : ℕ) (f : Passed → Bool) → AreHeld count most held room → AreHeld count most (filter f held) room
held-left count most held room f h = record { within = λ p i. h.within p (Has-filter f held p i).0; enough = h.enough }

module _ (chart : Recipe) (t : Tree) (laid : IsChartOf t chart) where
  abbrev ns : List Entry
  ns = chart.outline.entries.items

  -- the chart has the stages `mid`, the reached acts have taken over the units held for them, and those are held no more
  module _ (old new : Running) (mid ys : List Stage) (signs : List ℕ) (held : List Passed) (is : new.stages.items ≡ ys) (kept : IsKeptUp ns chart old.stages.items mid old.signs signs) (over : IsTakenBy ns chart (is_early held) mid ys signs new.signs)
      (left : new.held.items ≡ still_held ys held) (capacity : deque_capacity new.held ≡ deque_capacity old.held) (needs : new.needs ≡ old.needs) (before : AreHeld (node_count t) (most_by own_units t) held (deque_capacity old.held)) (ran : IsRunningOf t old) (alive : IsAlive t mid) where
    neat : AreNeat ns chart 0 (length ns) mid signs
    neat = kept.keeps (ran.neat ns chart laid)

    runs-over : IsRunningOf t new
    runs-over =
        runs-by chart new t laid (subst (IsAlive t) (sym is) (over.means t laid alive).0) (over.kept.count ∙ kept.count ∙ ran.count ∙ sym laid.count)
        (subst (λ l. AreHeld (node_count t) (most_by own_units t) l (deque_capacity new.held)) (sym left) (subst (λ n. AreHeld (node_count t) (most_by own_units t) (still_held ys held) n) (sym capacity) (held-left (node_count t) (most_by own_units t) held (deque_capacity old.held) (λ p. not (is_ready (stage_at ys p.to))) before)))
        (needs ∙ ran.needs)
        (subst (λ z. AreNeat ns chart 0 (length ns) z new.signs) (sym is) (over.kept.keeps neat))

    module _ (was : Rest) (waiting : AreWaiting (in_advance t held) was) (fresh : (a : Rest) → Has (acts (meaning t 0 mid)) a → Nowhere (place_of a) (acts was) → IsFresh a) where
      small : (p : Passed) → Has held p → p.to < length ns
      small p i = let lt = before.within p i in omega (arith, lt, laid.count)

      told : (k : ℕ) → k < node_count t → among (in_advance t held) (place_at t k) ≡ is_early held k
      told k lt = early-told ns chart t laid held small k lt

      shown : AreNoted t mid signs
      shown = noted ns chart mid signs t laid alive (kept.count ∙ ran.count) neat

      still : (p : Passed) → Has held p → not (is_act_reached (raised (in_advance t held) (meaning t 0 mid)) (place_at t p.to)) ≡ not (is_ready (stage_at ys p.to))
      still p i =
          still-early ns chart t laid mid ys alive signs new.signs shown neat (is_early held) over (in_advance t held) was told waiting fresh p.to (before.within p i)
          (any-has (λ (q : Passed). nat_eq q.to p.to) held p i (nat-self p.to))

      -- as a batch's charts do that go on to this rest
      over-runs : RunsAs t new (raised (in_advance t held) (meaning t 0 mid)) (filter (λ x. not (is_act_reached (raised (in_advance t held) (meaning t 0 mid)) x.place)) (in_advance t held))
      over-runs = record {
        rest = sym (ap (meaning t 0) is ∙ now-raised ns chart t laid mid ys alive signs new.signs shown neat (is_early held) over (in_advance t held) was told waiting fresh);
        held = still-held ns chart t laid held (raised (in_advance t held) (meaning t 0 mid)) ys still ∙ ap (in_advance t) (sym left);
        waiting = now-waiting ns chart t laid mid ys alive signs new.signs shown neat (is_early held) over (in_advance t held) was told waiting fresh;
      }

  -- the needs held in advance after a move
  module _ (xs : List Stage) (held : List Passed) (b : Batch) (is : b.in_advance ≡ in_advance t held) (small : (p : Passed) → Has held p → p.to < length ns) where
    passing-is : (m : Move) → Allows ns xs m → Awaits t b.rest b.in_advance m → (passing (machine_move t b m) b).in_advance ≡ in_advance t (held_after held m)
    passing-is (move.Pass k to i) can a =
        let none : is_early held to ≡ false =
        sym (ap (λ l. among l (place_at t to)) is ∙ early-told ns chart t laid held small to (let lt = can.1 in omega (arith, lt, laid.count))) ∙ a.1 in
        ap (λ l. record { place = place_at t to; unit = need_at t k i } ∷ l) is ∙ ap (in_advance t) (held-new held k to i none)
    passing-is (move.Send k c) can a = is
    passing-is (move.State x) can a = is
    passing-is (move.Release k i) can a = is
    passing-is (move.Begin k) can a = is
    passing-is (move.Start k) can a = is
    passing-is (move.End k) can a = is
    passing-is (move.Ask k i) can a = is

  waiting-after : (m : Move) (b : Batch) → AreWaiting b.in_advance b.rest → Awaits t b.rest b.in_advance m → AreWaiting (passing (machine_move t b m) b).in_advance b.rest
  waiting-after (move.Pass k to i) b w a = λ held h. elim h [ inl e ↦ subst (λ x. is_act_reached b.rest x.place ≡ false) e a.0 | inr i ↦ w held i ]
  waiting-after (move.Send k c) b w a = w
  waiting-after (move.State x) b w a = w
  waiting-after (move.Release k i) b w a = w
  waiting-after (move.Begin k) b w a = w
  waiting-after (move.Start k) b w a = w
  waiting-after (move.End k) b w a = w
  waiting-after (move.Ask k i) b w a = w

  -- a move is that of an act, or of the batch's state
  acts-or-state : (m : Move) (b : Batch) → IsActMove (machine_move t b m) ⊎ ((x : State) × (m ≡ move.State x))
  acts-or-state (move.Send k c) b = inl tt
  acts-or-state (move.State x) b = inr (x, refl)
  acts-or-state (move.Release k i) b = inl tt
  acts-or-state (move.Pass k to i) b = inl tt
  acts-or-state (move.Begin k) b = inl tt
  acts-or-state (move.Start k) b = inl tt
  acts-or-state (move.End k) b = inl tt
  acts-or-state (move.Ask k i) b = inl tt

  act-rest : (m : machine.Move) (vs : ValueList) (r : Rest) → IsActMove m → rest_after vs m r ≡ advance_by vs (changed_at (place_of_move m) (act_after (at_moment vs []) m) r)
  act-rest (machine.send n p x c) vs r h = refl
  act-rest (machine.state n x) vs r h = absurd h
  act-rest (machine.release n p need) vs r h = refl
  act-rest (machine.pass n p to need) vs r h = refl
  act-rest (machine.begin n p name) vs r h = refl
  act-rest (machine.start n p x ws) vs r h = refl
  act-rest (machine.end n p) vs r h = refl
  act-rest (machine.ask n p need) vs r h = refl
  act-rest (machine.grant n p need) vs r h = refl

  module _ (old new : Running) (ys : List Stage) (is : new.stages.items ≡ ys) (vs : ValueList) (m : Move) (h : IsMovedOn ns chart vs m (held_after old.held.items m) old.stages.items ys old.signs new.signs) (can : Allows ns old.stages.items m)
      (left : new.held.items ≡ still_held ys (held_after old.held.items m)) (capacity : deque_capacity new.held ≡ deque_capacity old.held) (needs : new.needs ≡ old.needs) (ran : IsRunningOf t old) where
    made-alive : IsAlive t h.mid
    made-alive = (h.made.means t laid ran.alive).0

    made-held : AreHeld (node_count t) (most_by own_units t) (held_after old.held.items m) (deque_capacity old.held)
    made-held = held-kept (node_count t) (most_by own_units t) old.held.items (deque_capacity old.held) m ran.held (passes-within ns old.stages.items m (node_count t) can (sym laid.count))

    pub moved-running : IsRunningOf t new
    moved-running = runs-over old new h.mid ys h.signs (held_after old.held.items m) is h.kept h.over left capacity needs made-held ran made-alive

    pub moved-runs : (b : Batch) → b.values ≡ vs → RunsAs t old b.rest b.in_advance → Awaits t b.rest b.in_advance m → RunsAs t new (batch_after (machine_move t b m) b).rest (batch_after (machine_move t b m) b).in_advance
    moved-runs b v runs awaits = go (acts-or-state m b)
      where
        now : meaning t 0 h.mid ≡ rest_after vs (machine_move t b m) b.rest
        now = (h.made.means t laid ran.alive).1 b runs.rest v

        passed : (passing (machine_move t b m) b).in_advance ≡ in_advance t (held_after old.held.items m)
        passed = passing-is old.stages.items old.held.items b runs.held (λ p i. (let lt = ran.held.within p i in omega (arith, lt, laid.count))) m can awaits

        waits : AreWaiting (passing (machine_move t b m) b).in_advance b.rest
        waits = waiting-after m b runs.waiting awaits

        fresh-act : IsActMove (machine_move t b m) → (a : Rest) → Has (acts (meaning t 0 h.mid)) a → Nowhere (place_of a) (acts b.rest) → IsFresh a
        fresh-act is_act a i n =
            fresh-where-none vs (place_of_move (machine_move t b m)) (act_after (at_moment vs []) (machine_move t b m)) (act-tidy vs (machine_move t b m)) b.rest a
            (subst (λ r. Has (acts r) a) (now ∙ act-rest (machine_move t b m) vs b.rest is_act) i) n

        over-all : ((a : Rest) → Has (acts (meaning t 0 h.mid)) a → Nowhere (place_of a) (acts b.rest) → IsFresh a)
            → RunsAs t new (raised (passing (machine_move t b m) b).in_advance (meaning t 0 h.mid)) (filter (λ x. not (is_act_reached (raised (passing (machine_move t b m) b).in_advance (meaning t 0 h.mid)) x.place)) (passing (machine_move t b m) b).in_advance)
        over-all f =
            subst (λ l. RunsAs t new (raised l (meaning t 0 h.mid)) (filter (λ x. not (is_act_reached (raised l (meaning t 0 h.mid)) x.place)) l)) (sym passed)
            (over-runs old new h.mid ys h.signs (held_after old.held.items m) is h.kept h.over left capacity needs made-held ran made-alive b.rest (subst (λ l. AreWaiting l b.rest) passed waits) f)

        go : IsActMove (machine_move t b m) ⊎ ((x : State) × (m ≡ move.State x)) → RunsAs t new (batch_after (machine_move t b m) b).rest (batch_after (machine_move t b m) b).in_advance
        go (inl is_act) =
            let same : batch_after (machine_move t b m) b ≡ with_rest (raised (passing (machine_move t b m) b).in_advance (meaning t 0 h.mid)) (passing (machine_move t b m) b) =
            after-raised (machine_move t b m) b is_act waits
            ∙ ap (λ z. with_rest (raised (passing (machine_move t b m) b).in_advance z) (passing (machine_move t b m) b)) (ap (λ z. rest_after z (machine_move t b m) b.rest) v ∙ sym now) in
            subst (λ z. RunsAs t new z.rest z.in_advance) (sym same) (over-all (fresh-act is_act))
        go (inr s) = subst (λ z. RunsAs t new (batch_after (machine_move t b z) b).rest (batch_after (machine_move t b z) b).in_advance) (sym s.1) (state-runs s.0 s.1)
          where
            state-runs : (x : State) → m ≡ move.State x → RunsAs t new b.rest b.in_advance
            state-runs x e =
                let stays : (passing (machine_move t b m) b).in_advance ≡ b.in_advance = ap (λ z. (passing (machine_move t b z) b).in_advance) e in
                let same : meaning t 0 h.mid ≡ b.rest = now ∙ ap (λ z. rest_after vs (machine_move t b z) b.rest) e in
                let none : raised b.in_advance (meaning t 0 h.mid) ≡ b.rest = ap (raised b.in_advance) same ∙ raised-none b.in_advance b.rest (waiting-nowhere b.in_advance b.rest runs.waiting) in
                let r = subst (λ l. RunsAs t new (raised l (meaning t 0 h.mid)) (filter (λ x. not (is_act_reached (raised l (meaning t 0 h.mid)) x.place)) l)) stays (over-all (λ a i n. absurd (n a (subst (λ z. Has (acts z) a) same i) refl))) in
                let all : filter (λ x. not (is_act_reached (raised b.in_advance (meaning t 0 h.mid)) x.place)) b.in_advance ≡ b.in_advance =
                filter-all (λ x. not (is_act_reached (raised b.in_advance (meaning t 0 h.mid)) x.place)) b.in_advance (λ x i. ap (λ z. not (is_act_reached z x.place)) none ∙ ap not (runs.waiting x i)) in
                record {
                  rest = sym none ∙ r.rest;
                  held = sym all ∙ r.held;
                  waiting = runs.waiting;
                }

  module _ (old new : Running) (ys : List Stage) (is : new.stages.items ≡ ys) (vs : ValueList) (k : ℕ) (word : Report) (h : IsReportedOn ns chart vs k word old.held.items old.stages.items ys old.signs new.signs)
      (left : new.held.items ≡ still_held ys old.held.items) (capacity : deque_capacity new.held ≡ deque_capacity old.held) (needs : new.needs ≡ old.needs) (x : State) (e : ReportOutcome) (live : IsLiveIn ns old.stages.items k x) (accepts : after_report x word ≡ Some e) (ran : IsRunningOf t old) where
    reported-alive : IsAlive t h.mid
    reported-alive = ((h.reported x e live accepts).means t laid ran.alive).0

    pub reported-running : IsRunningOf t new
    reported-running = runs-over old new h.mid ys h.signs old.held.items is h.kept h.over left capacity needs ran.held ran reported-alive

    pub reported-runs : (b : Batch) → b.values ≡ vs → RunsAs t old b.rest b.in_advance → RunsAs t new (in_act (place_at t k) (phase_after e) b).rest (in_act (place_at t k) (phase_after e) b).in_advance
    reported-runs b v runs =
        subst (λ z. RunsAs t new (with_rest z b).rest (with_rest z b).in_advance) (sym same)
        (subst (λ l. RunsAs t new (raised l (meaning t 0 h.mid)) (filter (λ y. not (is_act_reached (raised l (meaning t 0 h.mid)) y.place)) l)) (sym runs.held)
        (over-runs old new h.mid ys h.signs old.held.items is h.kept h.over left capacity needs ran.held ran reported-alive b.rest (subst (λ l. AreWaiting l b.rest) runs.held runs.waiting)
        (λ a i n. fresh-where-none vs (place_at t k) (phase_after e) (stays-tidy (phase_after e) (phase_after-stays e)) b.rest a (subst (λ r. Has (acts r) a) now i) n)))
      where
        now : meaning t 0 h.mid ≡ advance_by vs (changed_at (place_at t k) (phase_after e) b.rest)
        now = ((h.reported x e live accepts).means t laid ran.alive).1 ∙ ap (λ r. advance_by vs (changed_at (place_at t k) (phase_after e) r)) (sym runs.rest)

        same : advance (moment_of b) (changed_at (place_at t k) (phase_after e) b.rest) ≡ raised b.in_advance (meaning t 0 h.mid)
        same =
            moved-raised (λ mo. phase_after e) (stays-steady (phase_after e) (phase_after-stays e)) b.values (place_at t k) b.rest b.in_advance (waiting-nowhere b.in_advance b.rest runs.waiting)
            ∙ ap (raised b.in_advance) (ap (λ z. advance_by z (changed_at (place_at t k) (phase_after e) b.rest)) v ∙ sym now)

  -- a grant reaches nothing
  pub granted-runs : (old new : Running) (ys : List Stage) → new.stages.items ≡ ys → new.held ≡ old.held → (k : ℕ) → IsChangedOnly ns chart k granted old.stages.items ys → IsRunningOf t old
      → (b : Batch) → RunsAs t old b.rest b.in_advance → RunsAs t new (in_act (place_at t k) granted b).rest (in_act (place_at t k) granted b).in_advance
  granted-runs old new ys is held k h ran b runs = record {
    rest = now ∙ sym (ap (meaning t 0) is);
    held = all ∙ runs.held ∙ ap (λ z. in_advance t z.items) (sym held);
    waiting = λ x i. still x (subst (λ l. Has l x) all i);
  }
    where
      now : advance (moment_of b) (changed_at (place_at t k) granted b.rest) ≡ meaning t 0 ys
      now = ap (λ r. advance (moment_of b) (changed_at (place_at t k) granted r)) runs.rest ∙ sym ((h.means t laid ran.alive).2 (moment_of b))

      still : (held : InAdvance) → Has b.in_advance held → is_act_reached (advance (moment_of b) (changed_at (place_at t k) granted b.rest)) held.place ≡ false
      still held i = go (is_act_reached (advance (moment_of b) (changed_at (place_at t k) granted b.rest)) held.place) refl
        where
          plain : advance (moment_of b) (changed_at (place_at t k) granted b.rest) ≡ changed_at (place_at t k) granted b.rest
          plain = now ∙ (h.means t laid ran.alive).1 ∙ ap (changed_at (place_at t k) granted) (sym runs.rest)

          go : (u : Bool) → is_act_reached (advance (moment_of b) (changed_at (place_at t k) granted b.rest)) held.place ≡ u → u ≡ false
          go true e =
              let m = reached-at held.place (changed_at (place_at t k) granted b.rest) (ap (λ z. is_act_reached z held.place) (sym plain) ∙ e) in
              let s = changed-stands (place_at t k) granted granted-stays b.rest m.0 m.1 in
              absurd (not_reached held.place b.rest (runs.waiting held i) s.0 s.1 (s.2 ∙ m.2))
          go false e = refl

      all : filter (λ held. not (is_act_reached (advance (moment_of b) (changed_at (place_at t k) granted b.rest)) held.place)) b.in_advance ≡ b.in_advance
      all = filter-all (λ held. not (is_act_reached (advance (moment_of b) (changed_at (place_at t k) granted b.rest)) held.place)) b.in_advance (λ held i. ap not (still held i))
