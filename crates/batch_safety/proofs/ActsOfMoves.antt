-- Which act makes a move that begins a step, and which gives up a unit as long as its batch goes on.
use Rattle.std.proofs.Common.{arith, ◌≡◌, refl, sym, ◌∙◌, ap, subst, ℕ, zero, suc, length, Bool, true, false, Option, Some, None, slice_get}
use Rattle.std.specs.Prelude.{⊤, ◌&&◌, ◌||◌, not}
use Rattle.batch_matrix.specs.{declared.command.Command.Command, Matrix.accepts}
use Rattle.batch_recipe.specs.{declared.need.Need.Need, Tree.Place, Tree.Step, Tree.Task, Tree.Tree, Tree.runs, Tree.follows}
use Rattle.batch_model.specs.{Moves.Move, Moves.send, Moves.release, Moves.pass, Moves.begin, Moves.start, Moves.end, Moves.ask, Moves.grant, Moves.is_running, Moves.is_stopping, Moves.is_stopped, Moves.is_quiet, Moves.is_empty, Moves.is_served, Moves.command_passed_on, Moves.handed_values, Moves.beginning, Moves.entering, Moves.giving_back, Moves.reserved_place, Moves.handing_over, Moves.when, Moves.act_move, Plant.Setup, Plant.Batch, Plant.Plant, Plant.held_in, Rest.Rest, Rest.ready, Rest.asking, Rest.open_act, Rest.live, Rest.freeing, Rest.is_done, Runs.goes_on}
use Rattle.batch_record_laws.proofs.ActMoves.{some_move, no_move}
use Rattle.batch_step_laws.proofs.ActMoves.{stopping-goes_no_further}

-- a step begins that holds all its needs; a batch that goes on gives back the last need of an act that has ended, where nothing that
-- follows is reserved by it, and else passes it on
abbrev pub IsMade : Batch → Rest → Move → Type 0
IsMade b a (begin n p name) = (s : Step) × (c : Tree) × (k : ℕ) × (a ≡ ready s (follows name c) k) × (slice_get s.needs k ≡ None) × (is_running b.state ≡ true) × (p ≡ s.place)
IsMade b a (start n p phase handed) = (s : Step) × (k : ℕ) × (a ≡ ready s (runs phase) k) × (slice_get s.needs k ≡ None) × (is_running b.state ≡ true) × (p ≡ s.place)
IsMade b a (release n p r) =
    goes_on b.state ≡ true
    → (s : Step) × (l : ℕ) × (a ≡ freeing s (suc l)) × (slice_get s.needs l ≡ Some r) × (reserved_place b.recipe.procedure s l ≡ None) × (p ≡ s.place)
IsMade b a (pass n p to r) =
    (s : Step) × (l : ℕ) × (a ≡ freeing s (suc l)) × (slice_get s.needs l ≡ Some r) × (reserved_place b.recipe.procedure s l ≡ Some to) × (p ≡ s.place)
    × (goes_on b.state ≡ true)
IsMade b a _ = ⊤

module _ (b : Batch) where
  entering-made : (s : Step) (w : Task) (k : ℕ) (m : Move) → is_running b.state ≡ true → entering b s w k ≡ Some m → IsMade b (ready s w k) m
  entering-made s w k m on e = go (slice_get s.needs k) refl e
    where
      begins : (v : Task) → w ≡ v → slice_get s.needs k ≡ None → ◌≡◌ {A = Option Move} (Some (beginning b s v)) (Some m) → IsMade b (ready s w k) m
      begins (runs y) q none h =
          subst (IsMade b (ready s w k)) (some_move (start b.number s.place y (handed_values b.values y.handed)) m h) (s, k, ap (λ z. ready s z k) q, none, on, refl)
      begins (follows name c) q none h = subst (IsMade b (ready s w k)) (some_move (begin b.number s.place name) m h) (s, c, k, ap (λ z. ready s z k) q, none, on, refl)

      go : (o : Option Need) → slice_get s.needs k ≡ o
          → ◌≡◌ {A = Option Move} (elim o [ Some r ↦ Some (ask b.number s.place r) | None ↦ Some (beginning b s w) ]) (Some m) → IsMade b (ready s w k) m
      go (Some r) q h = subst (IsMade b (ready s w k)) (some_move (ask b.number s.place r) m h) tt
      go None q h = begins w refl q h

  -- an act gives back where its batch doesn't go on
  back-made : (s : Step) (k : ℕ) (m : Move) (a : Rest) → goes_on b.state ≡ false → giving_back b s k ≡ Some m → IsMade b a m
  back-made s zero m a off e = absurd (no_move m e)
  back-made s (suc k) m a off e = go (slice_get s.needs k) e
    where
      go : (o : Option Need) → ◌≡◌ {A = Option Move} (elim o [ None ↦ None | Some r ↦ Some (release b.number s.place r) ]) (Some m) → IsMade b a m
      go None h = absurd (no_move m h)
      go (Some r) h = subst (IsMade b a) (some_move (release b.number s.place r) m h) (λ on. let bad : true ≡ false = sym on ∙ off in absurd cc)

  handing_over-made : (s : Step) (k : ℕ) (m : Move) → goes_on b.state ≡ true → handing_over b s k ≡ Some m → IsMade b (freeing s k) m
  handing_over-made s zero m on e = none (reserved_place b.recipe.procedure s 0) e
    where
      none : (o : Option Place) → ◌≡◌ {A = Option Move} (elim o [ None ↦ None | Some to ↦ None ]) (Some m) → IsMade b (freeing s zero) m
      none None h = absurd (no_move m h)
      none (Some to) h = absurd (no_move m h)
  handing_over-made s (suc k) m on e = go (reserved_place b.recipe.procedure s k) refl (slice_get s.needs k) refl e
    where
      go : (o : Option Place) → reserved_place b.recipe.procedure s k ≡ o → (q : Option Need) → slice_get s.needs k ≡ q
          → ◌≡◌ {A = Option Move}
          (elim o [
            | None ↦ elim q [ None ↦ None | Some r ↦ Some (release b.number s.place r) ]
            | Some to ↦ elim q [ None ↦ None | Some r ↦ Some (pass b.number s.place to r) ]
          ])
          (Some m)
          → IsMade b (freeing s (suc k)) m
      go None is None at h = absurd (no_move m h)
      go (Some to) is None at h = absurd (no_move m h)
      go None is (Some r) at h = subst (IsMade b (freeing s (suc k))) (some_move (release b.number s.place r) m h) (λ u. (s, k, refl, at, is, refl))
      go (Some to) is (Some r) at h = subst (IsMade b (freeing s (suc k))) (some_move (pass b.number s.place to r) m h) (s, k, refl, at, is, refl, on)

  -- a move that does neither
  when-made : (t : Bool) (made m : Move) (a : Rest) → IsMade b a made → when t made ≡ Some m → IsMade b a m
  when-made true made m a h e = subst (IsMade b a) (some_move made m e) h
  when-made false made m a h e = absurd (no_move m e)

  pub act_move-made : (d : Setup) (s : Plant) (a : Rest) (m : Move) → act_move d s b a ≡ Some m → IsMade b a m
  act_move-made d s (ready p w k) m e = go (is_running b.state) refl (is_stopping b.state && is_quiet b.rest) refl e
    where
      go : (t : Bool) → is_running b.state ≡ t → (u : Bool) → (is_stopping b.state && is_quiet b.rest) ≡ u
          → ◌≡◌ {A = Option Move} (elim t [ true ↦ entering b p w k | false ↦ elim u [ true ↦ giving_back b p k | false ↦ None ] ]) (Some m) → IsMade b (ready p w k) m
      go true h u f g = entering-made p w k m h g
      go false h true f g = back-made p k m (ready p w k) (stopping-goes_no_further b.state (is_quiet b.rest) f) g
      go false h false f g = absurd (no_move m g)
  act_move-made d s (asking p w k) m e = go (slice_get p.needs k) e
    where
      go : (o : Option Need) → ◌≡◌ {A = Option Move} (elim o [ None ↦ None | Some r ↦ when (is_served d s r (b.number, p.place)) (grant b.number p.place r) ]) (Some m) → IsMade b (asking p w k) m
      go None h = absurd (no_move m h)
      go (Some r) h = when-made (is_served d s r (b.number, p.place)) (grant b.number p.place r) m (asking p w k) tt h
  act_move-made d s (open_act p r) m e = go (is_stopping b.state || is_stopped b.state) refl (is_stopping b.state && is_quiet b.rest && is_empty (held_in r)) e
    where
      go : (t : Bool) → (is_stopping b.state || is_stopped b.state) ≡ t → (u : Bool)
          → ◌≡◌ {A = Option Move}
          (elim t [ false ↦ when (is_done r) (end b.number p.place) | true ↦ elim u [ true ↦ giving_back b p (length p.needs) | false ↦ None ] ])
          (Some m)
          → IsMade b (open_act p r) m
      go true h true f = back-made p (length p.needs) m (open_act p r) (ap not h) f
      go true h false f = absurd (no_move m f)
      go false h u f = when-made (is_done r) (end b.number p.place) m (open_act p r) tt f
  act_move-made d s (live p y t) m e = go (command_passed_on b.state) e
    where
      go : (o : Option Command) → ◌≡◌ {A = Option Move} (elim o [ None ↦ None | Some c ↦ when (accepts t c) (send b.number p.place y c) ]) (Some m) → IsMade b (live p y t) m
      go None f = absurd (no_move m f)
      go (Some c) f = when-made (accepts t c) (send b.number p.place y c) m (live p y t) tt f
  act_move-made d s (freeing p k) m e = go (is_stopping b.state || is_stopped b.state) refl e
    where
      go : (t : Bool) → (is_stopping b.state || is_stopped b.state) ≡ t
          → ◌≡◌ {A = Option Move} (elim t [ true ↦ giving_back b p k | false ↦ handing_over b p k ]) (Some m) → IsMade b (freeing p k) m
      go true h f = back-made p k m (freeing p k) (ap not h) f
      go false h f = handing_over-made p k m (ap not h) f
  act_move-made d s a m e = absurd (grind arith)
