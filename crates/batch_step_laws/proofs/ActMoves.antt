-- Each move of an act takes some of that act's work, and leaves a possible rest of its node.
use Rattle.std.proofs.Common.{◌≡◌, refl, sym, ap, subst, ℕ, zero, suc, pred, Bool, true, false, Some, None, arith, [], ◌<◌, ◌≤◌, ◌+◌, ◌-◌, ◌*◌, length}
use Rattle.std.{specs.Prelude.Option, specs.Prelude.List, specs.Prelude.find, specs.Prelude.nat_eq, specs.Prelude.option_and_then, specs.Prelude.slice_get, specs.Prelude.◌&&◌, specs.Prelude.◌||◌, specs.Prelude.not, specs.Prelude.⊤, proofs.lemmas.Option.slice_get_within}
use Rattle.batch_recipe.specs.{Conditions.Name, Following.Follower, Following.follower, Levels.Level, Levels.below, Tree.Place, Tree.Reserve, Tree.Step, Tree.Tree, Tree.Task, Tree.runs, Tree.follows, declared.need.Need.Need}
use Rattle.batch_model.specs.{Lists.Has, Standing.due_followers, Rest.Rest, Rest.ready, Rest.asking, Rest.open_act, Rest.live, Rest.freeing, Rest.is_done, Rest.place_of, Plant.Setup, Plant.Batch, Plant.Plant, Plant.moment_of, Plant.in_act, Plant.held_in, Moves.Move, Moves.send, Moves.release, Moves.pass, Moves.begin, Moves.start, Moves.end, Moves.ask, Moves.grant, Moves.batch_of, Moves.place_of_move, Moves.command_passed_on, Moves.is_running, Moves.is_stopping, Moves.is_stopped, Moves.is_quiet, Moves.is_empty, Moves.handed_values, Moves.when, Moves.beginning, Moves.entering, Moves.giving_back, Moves.reserved_place, Moves.handing_over, Moves.is_served, Moves.act_move, Moves.act_after, Moves.passing, Moves.batch_after, Moves.freed, Moves.released, Runs.toil, Runs.toil_of_work, Runs.sends, Runs.goes_on, Runs.ahead, Runs.toil_left}
use Rattle.batch_step_laws.proofs.{DueUnitProcedures.done-is, WorkAfterAdvance.going, WorkAfterAdvance.going_no_further, WorkAfterAdvance.reach-toil, RestsAfterChange.RemainsAs, RestsAfterChange.sent-remains, RestsAfterChange.released-remains, RestsAfterChange.ended-remains, RestsAfterChange.begun-remains}
use Rattle.batch_matrix.specs.{declared.state.State.State, declared.state.State.TheVariants.Running, declared.command.Command.Command, Matrix.accepts, Matrix.target}

-- the followers that are due at the act stay so
abbrev pub DueStays : Rest → Rest → Type 0
DueStays a after = (level : Level) (next : List Follower) (f : Follower) → Has (due_followers level next a) f → Has (due_followers level next after) f

-- a unit that is passed goes from an act that is freeing to a unit procedure that follows it
abbrev pub IsComing : Batch → Rest → Move → Type 0
IsComing b a (pass number place to need) =
    (s : Step) × (k : ℕ) × (name : Name) × (a ≡ freeing s k) × (follower b.recipe.procedure s.place name ≡ Some to)
IsComing b a _ = ⊤

-- m is a move of the act a of this batch
pub record IsMoveOf (b : Batch) (a : Rest) (m : Move) : Type 0 where
  pub number : batch_of m ≡ b.number
  pub place : place_of_move m ≡ place_of a
  pub changes : batch_after m b ≡ in_act (place_of_move m) (act_after (moment_of b) m) (passing m b)
  pub lowers : toil_left b.state (act_after (moment_of b) m a) < toil_left b.state a
  pub remains : RemainsAs a (act_after (moment_of b) m a)
  -- a unit is passed only if the batch goes on
  pub passes : goes_on b.state ≡ false → passing m b ≡ b
  pub coming : IsComing b a m
  pub due_stays : goes_on b.state ≡ true → DueStays a (act_after (moment_of b) m a)

-- States

sends-bound : (x t : State) → sends x t ≤ 1
sends-bound x t = grind arith

-- no state that a command leads to accepts that command
own : (c : Command) → accepts (target c) c ≡ false
own c = grind arith

-- a command that is passed on isn't passed on again
sent-once : (x t : State) (c : Command) → command_passed_on x ≡ Some c → accepts t c ≡ true → (sends x (target c) ≡ 0) × (sends x t ≡ 1)
sent-once x t c e a = grind (arith, own c)

pub running-goes_on : (x : State) → is_running x ≡ true → goes_on x ≡ true
running-goes_on x e = grind arith

pub stopping-goes_no_further : (x : State) (quiet : Bool) → (is_stopping x && quiet) ≡ true → goes_on x ≡ false
stopping-goes_no_further x quiet e = grind arith

-- Due followers

freed-due : (s : Step) (k n : ℕ) → DueStays (freeing s k) (freed s n)
freed-due s k zero level next f h = h
freed-due s k (suc n) level next f h = h

ended-due : (level : Level) (next : List Follower) (s : Step) (r : Rest) (f : Follower) → is_done r ≡ true → Has (due_followers level next (open_act s r)) f
    → Has (due_followers level next (freed s (length s.needs))) f
ended-due level next s r f e h =
    freed-due s 0 (length s.needs) level next f (subst (λ z. Has (due_followers (below level) next z) f) (done-is r e) h)

reserved-follows : (c : Tree) (s : Step) (n : ℕ) (to : Place) → reserved_place c s n ≡ Some to → (name : Name) × (follower c s.place name ≡ Some to)
reserved-follows c s n to e = go (find (λ (reserve : Reserve). nat_eq reserve.need n) s.reserves) e
  where
    go : (o : Option Reserve) → option_and_then (λ (reserve : Reserve). follower c s.place reserve.name) o ≡ Some to → (name : Name) × (follower c s.place name ≡ Some to)
    go None h = absurd cc
    go (Some reserve) h = (reserve.name, h)

-- Moves

module _ (b : Batch) where
  entering-is : (s : Step) (w : Task) (k : ℕ) (m : Move) → is_running b.state ≡ true → entering b s w k ≡ Some m → IsMoveOf b (ready s w k) m
  entering-is s w k m on e = go (slice_get s.needs k) refl e
    where
      ahead-is : (n : ℕ) → ahead b.state n ≡ n
      ahead-is n = going b.state n (running-goes_on b.state on)

      calm : goes_on b.state ≡ false → (moment_of b).early ≡ []
      calm e = let goes : goes_on b.state ≡ true = running-goes_on b.state on in absurd cc

      begins : (v : Task) → w ≡ v
          → Some (beginning b s v) ≡ Some m
          → IsMoveOf b (ready s w k) m
      begins (runs y) q h =
          subst (λ z. IsMoveOf b (ready s z k) m) (sym q)
          (let n : start b.number s.place y (handed_values b.values y.handed) ≡ m = cc in
          subst (IsMoveOf b (ready s (runs y) k)) n
          (record {
            number = refl;
            place = refl;
            changes = refl;
            lowers = omega (arith, sends-bound b.state Running, ahead-is (3 * (length s.needs - k) + 2));
            remains = begun-remains (moment_of b) s (runs y) k;
            passes = λ d. refl;
            coming = tt;
            due_stays = λ on level next f h. absurd h;
          }))
      begins (follows name c) q h =
          subst (λ z. IsMoveOf b (ready s z k) m) (sym q)
          (let n : begin b.number s.place name ≡ m = cc in
          subst (IsMoveOf b (ready s (follows name c) k)) n
          (record {
            number = refl;
            place = refl;
            changes = refl;
            lowers =
                omega
                (arith, reach-toil b.state (moment_of b) calm c, ahead-is (3 * (length s.needs - k) + (2 + toil c)), ahead-is (toil c), ahead-is 1);
            remains = begun-remains (moment_of b) s (follows name c) k;
            passes = λ d. refl;
            coming = tt;
            due_stays = λ on level next f h. absurd h;
          }))

      go : (o : Option Need) → slice_get s.needs k ≡ o
          → elim o [ Some r ↦ Some (ask b.number s.place r) | None ↦ Some (beginning b s w) ] ≡ Some m
          → IsMoveOf b (ready s w k) m
      go (Some r) q h =
          let n : ask b.number s.place r ≡ m = cc in
          let lt : k < length s.needs = slice_get_within s.needs k r q in
          subst (IsMoveOf b (ready s w k)) n
          (record {
            number = refl;
            place = refl;
            changes = refl;
            lowers =
                omega
                (arith, lt, ahead-is (3 * (length s.needs - k) + toil_of_work w), ahead-is (3 * (length s.needs - suc k) + toil_of_work w));
            remains = λ t v i. (i.0, i.1, lt);
            passes = λ d. refl;
            coming = tt;
            due_stays = λ on level next f h. absurd h;
          })
      go None q h = begins w refl h

  freed-toil : (s : Step) (n : ℕ) → toil_left b.state (freed s n) ≤ n
  freed-toil s n = grind arith

  -- an act gives back the last of the k needs that it holds
  giving_back-is : (s : Step) (k : ℕ) (m : Move) (a : Rest) → place_of a ≡ s.place → (0 < k → toil_left b.state (released a) < toil_left b.state a) → (goes_on b.state ≡ true → DueStays a (released a))
      → giving_back b s k ≡ Some m → IsMoveOf b a m
  giving_back-is s zero m a at lower stays e = absurd cc
  giving_back-is s (suc k) m a at lower stays e = go (slice_get s.needs k) e
    where
      go : (o : Option Need) → elim o [ None ↦ None | Some r ↦ Some (release b.number s.place r) ] ≡ Some m → IsMoveOf b a m
      go None h = absurd cc
      go (Some r) h =
          let n : release b.number s.place r ≡ m = cc in
          subst (IsMoveOf b a) n
          (record { number = refl; place = sym at; changes = refl; lowers = lower (omega arith); remains = released-remains a; passes = λ d. refl; coming = tt; due_stays = stays })

  -- or passes it on
  handing_over-is : (s : Step) (k : ℕ) (m : Move) → goes_on b.state ≡ true → handing_over b s k ≡ Some m → IsMoveOf b (freeing s k) m
  handing_over-is s zero m on e = absurd (go (reserved_place b.recipe.procedure s 0) e)
    where
      go : (o : Option Place) → elim o [ None ↦ giving_back b s 0 | Some to ↦ None ] ≡ Some m → ⊥
      go None h = cc
      go (Some to) h = cc
  handing_over-is s (suc k) m on e = go (reserved_place b.recipe.procedure s k) refl (slice_get s.needs k) e
    where
      lower : toil_left b.state (freed s k) < suc k
      lower = omega (arith, freed-toil s k)

      go : (o : Option Place) → reserved_place b.recipe.procedure s k ≡ o → (q : Option Need)
          → elim o [
            | None ↦ elim q [ None ↦ None | Some r ↦ Some (release b.number s.place r) ]
            | Some to ↦ elim q [ None ↦ None | Some r ↦ Some (pass b.number s.place to r) ]
          ] ≡ Some m
          → IsMoveOf b (freeing s (suc k)) m
      go None is None h = absurd cc
      go (Some to) is None h = absurd cc
      go None is (Some r) h =
          let n : release b.number s.place r ≡ m = cc in
          subst (IsMoveOf b (freeing s (suc k))) n
          (record { number = refl; place = refl; changes = refl; lowers = lower; remains = released-remains (freeing s (suc k)); passes = λ d. refl; coming = tt; due_stays = λ g. freed-due s (suc k) k })
      go (Some to) is (Some r) h =
          let n : pass b.number s.place to r ≡ m = cc in
          subst (IsMoveOf b (freeing s (suc k))) n
          (record {
            number = refl;
            place = refl;
            changes = refl;
            lowers = lower;
            remains = released-remains (freeing s (suc k));
            passes = λ d. absurd cc;
            coming = (let found = reserved-follows b.recipe.procedure s k to is in (s, suc k, found.0, refl, found.1));
            due_stays = λ g. freed-due s (suc k) k;
          })

  when-is : (t : Bool) (m n : Move) → when t m ≡ Some n → (t ≡ true) × (m ≡ n)
  when-is t m n e = grind arith

  pub act_move-is : (c : Setup) (s : Plant) (a : Rest) (m : Move) → act_move c s b a ≡ Some m → IsMoveOf b a m
  act_move-is c s (ready p w k) m e = go (is_running b.state) refl (is_stopping b.state && is_quiet b.rest) refl e
    where
      go : (t : Bool) → is_running b.state ≡ t → (u : Bool) → (is_stopping b.state && is_quiet b.rest) ≡ u
          → elim t [ true ↦ entering b p w k | false ↦ elim u [ true ↦ giving_back b p k | false ↦ None ] ] ≡ Some m
          → IsMoveOf b (ready p w k) m
      go true h u f g = entering-is p w k m h g
      go false h true f g =
          let none : goes_on b.state ≡ false = stopping-goes_no_further b.state (is_quiet b.rest) f in
          giving_back-is p k m (ready p w k) refl
          (λ some. omega (
            arith,
            some,
            going_no_further b.state (3 * (length p.needs - k) + toil_of_work w) none,
            going_no_further b.state (3 * (length p.needs - pred k) + toil_of_work w) none,
          ))
          (λ on level next f i. absurd i)
          g
      go false h false f g = absurd cc
  act_move-is c s (asking p w k) m e = go (slice_get p.needs k) refl e
    where
      go : (o : Option Need) → slice_get p.needs k ≡ o
          → elim o [ None ↦ None | Some r ↦ when (is_served c s r (b.number, p.place)) (grant b.number p.place r) ] ≡ Some m
          → IsMoveOf b (asking p w k) m
      go None h f = absurd cc
      go (Some r) h f =
          let lt : k < length p.needs = slice_get_within p.needs k r h in
          let n = when-is (is_served c s r (b.number, p.place)) (grant b.number p.place r) m f in
          subst (IsMoveOf b (asking p w k)) n.1
          (record { number = refl; place = refl; changes = refl; lowers = omega arith; remains = λ t v i. (i.0, i.1, omega (arith, i.2)); passes = λ d. refl; coming = tt; due_stays = λ on level next f h. absurd h })
  act_move-is c s (open_act p r) m e = go (is_stopping b.state || is_stopped b.state) refl (is_stopping b.state && is_quiet b.rest && is_empty (held_in r)) e
    where
      go : (t : Bool) → (is_stopping b.state || is_stopped b.state) ≡ t → (u : Bool)
          → elim t [ false ↦ when (is_done r) (end b.number p.place) | true ↦ elim u [ true ↦ giving_back b p (length p.needs) | false ↦ None ] ] ≡ Some m
          → IsMoveOf b (open_act p r) m
      go true h true f =
          giving_back-is p (length p.needs) m (open_act p r) refl (λ some. omega (arith, some, freed-toil p (pred (length p.needs)))) (λ on. let no : goes_on b.state ≡ false = ap not h in absurd cc) f
      go true h false f = absurd cc
      go false h u f =
          let n = when-is (is_done r) (end b.number p.place) m f in
          subst (IsMoveOf b (open_act p r)) n.1
          (record {
            number = refl;
            place = refl;
            changes = refl;
            lowers = omega (arith, freed-toil p (length p.needs), going b.state 1 (ap not h));
            remains = ended-remains (open_act p r);
            passes = λ d. refl;
            coming = tt;
            due_stays = λ on level next f i. ended-due level next p r f n.0 i;
          })
  act_move-is c s (live p y t) m e = go (command_passed_on b.state) refl e
    where
      go : (o : Option Command) → command_passed_on b.state ≡ o
          → elim o [ None ↦ None | Some d ↦ when (accepts t d) (send b.number p.place y d) ] ≡ Some m
          → IsMoveOf b (live p y t) m
      go None h f = absurd cc
      go (Some d) h f =
          let n = when-is (accepts t d) (send b.number p.place y d) m f in
          let z = sent-once b.state t d h n.0 in
          subst (IsMoveOf b (live p y t)) n.1
          (record { number = refl; place = refl; changes = refl; lowers = omega (arith, z.0, z.1); remains = sent-remains d (live p y t); passes = λ d. refl; coming = tt; due_stays = λ on level next f h. absurd h })
  act_move-is c s (freeing p k) m e = go (is_stopping b.state || is_stopped b.state) refl e
    where
      go : (t : Bool) → (is_stopping b.state || is_stopped b.state) ≡ t
          → elim t [ true ↦ giving_back b p k | false ↦ handing_over b p k ] ≡ Some m
          → IsMoveOf b (freeing p k) m
      go true h f = giving_back-is p k m (freeing p k) refl (λ some. omega (arith, some, freed-toil p (pred k))) (λ on. freed-due p k (pred k)) f
      go false h f = handing_over-is p k m (ap not h) f
  act_move-is c s a m e = absurd (grind arith)
