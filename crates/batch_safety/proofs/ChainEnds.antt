-- Where no move is possible, the last holder of a chain that can't be continued is at work.
use Rattle.std.proofs.Common.{◌+◌, ◌≡◌, ◌⊎◌, ⊎_elim, refl, sym, ◌∙◌, ap, subst, ℕ, zero, suc, ◌≤◌, ◌<◌, arith, List, [], ◌∷◌, ◌++◌, Bool, true, false, ◌&&◌, ◌||◌, take, slice_get, Option, Some, None, option_map, inl, inr, length}
use Rattle.batch_matrix.specs.declared.state.State.{State, TheVariants.Idle, TheVariants.Running, TheVariants.Pausing, TheVariants.Paused, TheVariants.Holding, TheVariants.Held, TheVariants.Restarting, TheVariants.Stopping, TheVariants.Stopped, TheVariants.Aborting, TheVariants.Aborted, TheVariants.Complete}
use Rattle.batch_model.{specs.Lists.Has, specs.Rest.Rest, specs.Rest.ready, specs.Rest.asking, specs.Rest.open_act, specs.Rest.live, specs.Rest.freeing, specs.Rest.in_seq, specs.Rest.in_par, specs.Rest.in_loop, specs.Rest.done, specs.Rest.Rests, specs.Rest.no_rests, specs.Rest.rest, specs.Rest.acts, specs.Rest.acts_of_each, specs.Rest.is_done, specs.Rest.all_done, specs.Rest.place_of, specs.Plant.Setup, specs.Plant.Batch, specs.Plant.BatchAct, specs.Plant.Share, specs.Plant.Plant, specs.Plant.opening, specs.Plant.holders, specs.Moves.Move, specs.Moves.begin, specs.Moves.start, specs.Moves.end, specs.Moves.ask, specs.Moves.release, specs.Moves.pass, specs.Moves.reserved_place, specs.Moves.handed_values, specs.Moves.beginning, specs.Moves.entering, specs.Moves.giving_back, specs.Moves.when, specs.Moves.is_running, specs.Moves.is_stopping, specs.Moves.is_stopped, specs.Moves.is_quiet, specs.Moves.is_empty, specs.Moves.act_move, specs.Moves.next, specs.Runs.Out, specs.Cleared.is_procedure, specs.Cleared.IsCleared, specs.Standing.HasPlacedTrees, specs.Standing.IsStandingBatch, specs.Standing.IsStanding, specs.Records.scene_of, specs.Records.Waiting, specs.Records.IsWaiting, specs.Records.IsAtOrAbove, specs.Records.Link, specs.Records.IsLink, specs.Records.IsChain, specs.Records.StandsUnder, specs.Settled.IsAdvanced, specs.Settled.AreAdvanced, specs.Standing.IsRestOf, specs.Standing.IsRestBelow, specs.Standing.IsBranch, specs.Standing.AreBranches, specs.Standing.IsChosen, specs.Placed.IsPlaced, specs.Placed.IsPlacedBelow, specs.Placed.ArePlaced, specs.Placed.IsChoicePlaced, specs.Cleared.Ranking, proofs.Members.Has-split, proofs.Members.Has-left, proofs.Members.Has-right, proofs.Members.Each-Has}
use Rattle.batch_recipe.specs.{Conditions.Name, Tree.Place, Tree.Step, Tree.Phase, Tree.Tree, Tree.act, Tree.seq, Tree.par, Tree.sel, Tree.loop, Tree.Task, Tree.runs, Tree.follows, Tree.Trees, Tree.no_trees, Tree.tree, Tree.Choices, Tree.otherwise, Tree.choice, Nodes.child, declared.need.Need.Need}
use Rattle.batch_step_laws.proofs.{PlantAlongRecord.opening-stands, PlantAlongRecord.leads-stands, HoldersInAdvance.settled-none}
use Rattle.batch_safety.{proofs.AwaitedResources.among-Has, proofs.AwaitedResources.CanBeMet, proofs.AwaitedResources.awaited-known, specs.Settlement.IsHalting, specs.Settlement.IsAtWork, specs.Settlement.NobodyWaitsInVain, proofs.NeedsOfActs.IsBounded, proofs.NeedsOfActs.AreBounded, proofs.NeedsOfActs.rest-bounded, proofs.SettledPlants.no_act_move, proofs.SettledPlants.held-by_others, proofs.SettledPlants.short-chain}
use Rattle.batch_record_laws.proofs.{ClearanceOverNodes.cleared-down, ClearanceOverNodes.control-clear, ClearanceOverNodes.control-procedure, PlantFacts.Fact, PlantFacts.holding, PlantFacts.awaiting, PlantFacts.performing, PlantFacts.Standing, PlantFacts.held_at, PlantFacts.awaited_at, PlantFacts.facts, PlantFacts.facts_of_each, PlantFacts.early_facts, PlantFacts.entries, PlantFacts.need, PlantFacts.share, FactPlaces.acts-below, FactPlaces.under, FactsAfterChange.at_or_above, FactsOfAsks.asking-awaits, Entries.Has-holders, Batches.holders-entries, Invariant.IsFitting, Invariant.IsSound, Invariant.IsKept, Batches.entry-of, Batches.of-entry, Batches.awaiting-of, InvariantAlongRecord.kept-at_first, InvariantAlongRecord.kept-along, Invariant.standing-of, Members.Has-map, Members.map-Has}

-- Acts below an open act

inner : (u s : Step) (r q : Rest) → open_act u r ≡ open_act s q → r ≡ q
inner u s r q e = cc

outer : (u s : Step) (r q : Rest) → open_act u r ≡ open_act s q → u ≡ s
outer u s r q e = cc

mutual
  acts-inside : (r : Rest) (s : Step) (q x : Rest) → Has (acts r) (open_act s q) → Has (acts q) x → Has (acts r) x
  acts-inside (open_act u r) s q x (inl e) h = inr (subst (λ z. Has (acts z) x) (sym (inner u s r q e)) h)
  acts-inside (open_act u r) s q x (inr e) h = inr (acts-inside r s q x e h)
  acts-inside (in_seq r cs) s q x e h = acts-inside r s q x e h
  acts-inside (in_par rs) s q x e h = acts-inside_each rs s q x e h
  acts-inside (in_loop n c body r) s q x e h = acts-inside r s q x e h
  acts-inside r s q x e h = absurd (grind arith)

  acts-inside_each : (rs : Rests) (s : Step) (q x : Rest) → Has (acts_of_each rs) (open_act s q) → Has (acts q) x → Has (acts_of_each rs) x
  acts-inside_each no_rests s q x e h = absurd e
  acts-inside_each (rest r rs) s q x e h =
      ⊎_elim (λ m. Has-left (acts r) (acts_of_each rs) x (acts-inside r s q x m h)) (λ m. Has-right (acts r) (acts_of_each rs) x (acts-inside_each rs s q x m h))
      (Has-split (acts r) (acts_of_each rs) (open_act s q) e)

mutual
  place-inside : (p : Place) (c : Tree) (r : Rest) → IsPlaced p c → IsRestOf c r → (s : Step) (q x : Rest) → Has (acts r) (open_act s q) → Has (acts q) x → IsAtOrAbove s.place (place_of x)
  place-inside p (act a w) (open_act u r) pl h s q x (inl e) i =
      subst (λ z. IsAtOrAbove z (place_of x)) (sym (ap (λ z. z.place) (sym (outer u s r q e)) ∙ ap (λ z. z.place) h.0 ∙ pl.0))
      (under p 0 (place_of x) (acts-below p w r pl.1 h.1 x (subst (λ z. Has (acts z) x) (sym (inner u s r q e)) i)))
  place-inside p (act a w) (open_act u r) pl h s q x (inr e) i = place-inside_below p w r pl.1 h.1 s q x e i
  place-inside p (seq cs) (in_seq r ds) pl h s q x e i = place-inside_among p 0 cs r ds pl h s q x e i
  place-inside p (par cs) (in_par rs) pl h s q x e i = place-inside_side_by_side p 0 cs rs pl h s q x e i
  place-inside p (sel ch) r pl h s q x e i = place-inside_chosen p 0 ch r pl h s q x e i
  place-inside p (loop n c body) (in_loop m d b r) pl h s q x e i = place-inside (child p 0) body r pl h.3 s q x e i
  place-inside p c r pl h s q x e i = absurd (grind arith)

  place-inside_below : (p : Place) (w : Task) (r : Rest) → IsPlacedBelow p w → IsRestBelow w r → (s : Step) (q x : Rest) → Has (acts r) (open_act s q) → Has (acts q) x → IsAtOrAbove s.place (place_of x)
  place-inside_below p (runs y) r pl h s q x e i = absurd h
  place-inside_below p (follows name c) r pl h s q x e i = place-inside (child p 0) c r pl h s q x e i

  place-inside_among : (p : Place) (i : ℕ) (cs : Trees) (r : Rest) (ds : Trees) → ArePlaced p i cs → IsBranch cs r ds → (s : Step) (q x : Rest) → Has (acts r) (open_act s q) → Has (acts q) x → IsAtOrAbove s.place (place_of x)
  place-inside_among p i no_trees r ds pl h s q x e j = absurd h
  place-inside_among p i (tree c cs) r ds pl (inl h) s q x e j = place-inside (child p i) c r pl.0 h.0 s q x e j
  place-inside_among p i (tree c cs) r ds pl (inr h) s q x e j = place-inside_among p (i + 1) cs r ds pl.1 h s q x e j

  place-inside_side_by_side : (p : Place) (i : ℕ) (cs : Trees) (rs : Rests) → ArePlaced p i cs → AreBranches cs rs → (s : Step) (q x : Rest) → Has (acts_of_each rs) (open_act s q) → Has (acts q) x → IsAtOrAbove s.place (place_of x)
  place-inside_side_by_side p i (tree c cs) (rest r more) pl h s q x e j =
      ⊎_elim (λ m. place-inside (child p i) c r pl.0 h.0 s q x m j) (λ m. place-inside_side_by_side p (i + 1) cs more pl.1 h.1 s q x m j)
      (Has-split (acts r) (acts_of_each more) (open_act s q) e)
  place-inside_side_by_side p i cs rs pl h s q x e j = absurd (grind arith)

  place-inside_chosen : (p : Place) (i : ℕ) (ch : Choices) (r : Rest) → IsChoicePlaced p i ch → IsChosen ch r → (s : Step) (q x : Rest) → Has (acts r) (open_act s q) → Has (acts q) x → IsAtOrAbove s.place (place_of x)
  place-inside_chosen p i (otherwise c) r pl h s q x e j = place-inside (child p i) c r pl h s q x e j
  place-inside_chosen p i (choice d c ch) r pl (inl h) s q x e j = place-inside (child p i) c r pl.0 h s q x e j
  place-inside_chosen p i (choice d c ch) r pl (inr h) s q x e j = place-inside_chosen p (i + 1) ch r pl.1 h s q x e j

-- an act of a rest that has advanced and is bounded is so itself, and is no container
abbrev IsAct : Rest → Type 0
IsAct (in_seq r cs) = ⊥
IsAct (in_par rs) = ⊥
IsAct (in_loop n c body r) = ⊥
IsAct done = ⊥
IsAct _ = Unit {0}

abbrev IsFine : Rest → Type 0
IsFine a = IsAct a × IsAdvanced a × IsBounded a

mutual
  fine-act : (r : Rest) → IsAdvanced r → IsBounded r → (a : Rest) → Has (acts r) a → IsFine a
  fine-act (ready u v n) h b a (inl e) = subst IsFine e (tt, h, b)
  fine-act (asking u v n) h b a (inl e) = subst IsFine e (tt, h, b)
  fine-act (open_act u r) h b a (inl e) = subst IsFine e (tt, h, b)
  fine-act (open_act u r) h b a (inr e) = fine-act r h b a e
  fine-act (live u y t) h b a (inl e) = subst IsFine e (tt, h, b)
  fine-act (freeing u n) h b a (inl e) = subst IsFine e (tt, h, b)
  fine-act (in_seq r cs) h b a e = fine-act r h.1 b a e
  fine-act (in_par rs) h b a e = fine-act_of_each rs h.1 b a e
  fine-act (in_loop n c body r) h b a e = fine-act r h.1 b a e
  fine-act r h b a e = grind arith

  fine-act_of_each : (rs : Rests) → AreAdvanced rs → AreBounded rs → (a : Rest) → Has (acts_of_each rs) a → IsFine a
  fine-act_of_each no_rests h b a e = absurd e
  fine-act_of_each (rest r rs) h b a e = ⊎_elim (fine-act r h.0 b.0 a) (fine-act_of_each rs h.1 b.1 a) (Has-split (acts r) (acts_of_each rs) a e)

-- the act of a fact
abbrev ActAt : List Rest → Place → Type 0
ActAt as' q = (a : Rest) × Has as' a × (place_of a ≡ q)

held-place : (p : Place) (names : List Need) (q : Place) (x : Fact) → Has (held_at p names) (q, x) → p ≡ q
held-place p names q x h = let k = Rattle.batch_record_laws.proofs.Members.Has-map (λ r. let z : Standing = (p, holding r) in z) names (q, x) h in ap (λ z. z.0) k.2

awaited-place : (p : Place) (o : Option Need) (q : Place) (x : Fact) → Has (awaited_at p o) (q, x) → p ≡ q
awaited-place p (Some r) q x (inl e) = ap (λ z. z.0) e
awaited-place p o q x h = grind arith

mutual
  act-of : (r : Rest) (q : Place) (x : Fact) → Has (facts r) (q, x) → ActAt (acts r) q
  act-of (ready s w k) q x h = (ready s w k, inl refl, held-place s.place (take k s.needs) q x h)
  act-of (asking s w k) q x h = (
    asking s w k,
    inl refl,
    ⊎_elim (held-place s.place (take k s.needs) q x) (awaited-place s.place (slice_get s.needs k) q x)
        (Has-split (held_at s.place (take k s.needs)) (awaited_at s.place (slice_get s.needs k)) (q, x) h),
  )
  act-of (open_act s r) q x h =
      ⊎_elim (λ m. (open_act s r, inl refl, held-place s.place s.needs q x m)) (λ m. let k = act-of r q x m in (k.0, inr k.1, k.2))
      (Has-split (held_at s.place s.needs) (facts r) (q, x) h)
  act-of (live s y t) q x h = (
    live s y t,
    inl refl,
    ⊎_elim (held-place s.place s.needs q x) (λ m. ⊎_elim (λ e. ap (λ z. z.0) e) (λ e. absurd e) m)
        (Has-split (held_at s.place s.needs) ((s.place, performing y) ∷ []) (q, x) h),
  )
  act-of (freeing s k) q x h = (freeing s k, inl refl, held-place s.place (take k s.needs) q x h)
  act-of (in_seq r cs) q x h = act-of r q x h
  act-of (in_par rs) q x h = act-of_each rs q x h
  act-of (in_loop n c body r) q x h = act-of r q x h
  act-of done q x h = absurd h

  act-of_each : (rs : Rests) (q : Place) (x : Fact) → Has (facts_of_each rs) (q, x) → ActAt (acts_of_each rs) q
  act-of_each no_rests q x h = absurd h
  act-of_each (rest r rs) q x h =
      ⊎_elim (λ m. let k = act-of r q x m in (k.0, Has-left (acts r) (acts_of_each rs) k.0 k.1, k.2))
      (λ m. let k = act-of_each rs q x m in (k.0, Has-right (acts r) (acts_of_each rs) k.0 k.1, k.2))
      (Has-split (facts r) (facts_of_each rs) (q, x) h)

-- Acts of a running batch that always have a move

no_none : (m : Move) → ((l : Move) → ◌≡◌ {A = Option Move} (Some m) (Some l) → ⊥) → ⊥
no_none m h = h m refl

ready-moves : (d : Setup) (s : Plant) (b : Batch) (p : Step) (w : Task) (n : ℕ) → is_running b.state ≡ true → ((m : Move) → act_move d s b (ready p w n) ≡ Some m → ⊥) → ⊥
ready-moves d s b p w n run h = go (is_running b.state) run h
  where
    enter : (o : Option Need) (v : Task)
        → ((m : Move)
        → ◌≡◌ {A = Option Move}
        (elim o [
          | Some r ↦ Some (ask b.number p.place r)
          | None ↦ Some (beginning b p v)
        ])
        (Some m)
        → ⊥)
        → ⊥
    enter (Some r) v f = no_none (ask b.number p.place r) f
    enter None (runs x) f = no_none (start b.number p.place x (handed_values b.values x.handed)) f
    enter None (follows name c) f = no_none (begin b.number p.place name) f

    go : (t : Bool) → t ≡ true
        → ((m : Move)
        → ◌≡◌ {A = Option Move} (elim t [ true ↦ entering b p w n | false ↦ elim (is_stopping b.state && is_quiet b.rest) [ true ↦ giving_back b p n | false ↦ None ] ]) (Some m)
        → ⊥)
        → ⊥
    go true e f = enter (slice_get p.needs n) w f
    go false e f = absurd cc

get-below : (xs : List Need) (n : ℕ) → n < length xs → (r : Need) × (slice_get xs n ≡ Some r)
get-below [] n h = absurd (omega arith)
get-below (x ∷ xs) zero h = (x, refl)
get-below (x ∷ xs) (suc n) h = get-below xs n (omega arith)

freeing-moves : (d : Setup) (s : Plant) (b : Batch) (p : Step) (n : ℕ) → IsBounded (freeing p n) → ((m : Move) → act_move d s b (freeing p n) ≡ Some m → ⊥) → ⊥
freeing-moves d s b p zero h f = absurd (let l : 0 < 0 = h.0 in omega arith)
freeing-moves d s b p (suc n) h f =
    let l : suc n ≤ length p.needs = h.1 in
    let g = get-below p.needs n (omega arith) in
    pick (is_stopping b.state || is_stopped b.state) (reserved_place b.recipe.procedure p n) (slice_get p.needs n) g.0 g.1 f
  where
    pick : (t : Bool) (o : Option Place) (q : Option Need) (r : Need) → q ≡ Some r
        → ((m : Move)
        → ◌≡◌ {A = Option Move}
        (elim t [
          | true ↦ option_map (release b.number p.place) q
          | false ↦ elim o [ None ↦ option_map (release b.number p.place) q | Some to ↦ option_map (pass b.number p.place to) q ]
        ])
        (Some m)
        → ⊥)
        → ⊥
    pick t o None r e f = (let c : ◌≡◌ {A = Option Need} None (Some r) = e in absurd cc)
    pick true o (Some x) r e f = no_none (release b.number p.place x) f
    pick false None (Some x) r e f = no_none (release b.number p.place x) f
    pick false (Some to) (Some x) r e f = no_none (pass b.number p.place to x) f

open-moves : (d : Setup) (s : Plant) (b : Batch) (p : Step) (r : Rest) → b.state ≡ Running → is_done r ≡ true → ((m : Move) → act_move d s b (open_act p r) ≡ Some m → ⊥) → ⊥
open-moves d s b p r run fin h = go (is_stopping b.state || is_stopped b.state) (ap (λ z. is_stopping z || is_stopped z) run) h
  where
    end-now : (t : Bool) → t ≡ true → ((m : Move) → when t (end b.number p.place) ≡ Some m → ⊥) → ⊥
    end-now true e f = no_none (end b.number p.place) f
    end-now false e f = absurd cc

    go : (t : Bool) → t ≡ false
        → ((m : Move)
        → ◌≡◌ {A = Option Move}
        (elim t [
          | false ↦ when (is_done r) (end b.number p.place)
          | true ↦ elim (is_stopping b.state && is_quiet b.rest && is_empty (Rattle.batch_model.specs.Plant.held_in r)) [ true ↦ giving_back b p (length p.needs) | false ↦ None ]
        ])
        (Some m)
        → ⊥)
        → ⊥
    go false e f = end-now (is_done r) fin f
    go true e f = absurd cc

-- a live phase, or an act that asks
abbrev IsWorking : List Rest → Type 0
IsWorking as' = ((p : Step) × (x : Phase) × (t : State) × Has as' (live p x t)) ⊎ ((p : Step) × (w : Task) × (n : ℕ) × Has as' (asking p w n))

more-work : (as' bs : List Rest) → ((a : Rest) → Has as' a → Has bs a) → IsWorking as' → IsWorking bs
more-work as' bs f (inl h) = inl (h.0, h.1, h.2, f (live h.0 h.1 h.2) h.3)
more-work as' bs f (inr h) = inr (h.0, h.1, h.2, f (asking h.0 h.1 h.2) h.3)

not_all : (a b : Bool) → (a && b) ≡ false → (a ≡ false) ⊎ (b ≡ false)
not_all a b e = grind arith

module _ (d : Setup) (s : Plant) (b : Batch) (run : b.state ≡ Running) where
  -- no act among these has a move
  abbrev AreStuck : List Rest → Type 0
  AreStuck as' = (a : Rest) → Has as' a → (m : Move) → act_move d s b a ≡ Some m → ⊥

  open-works : (u : Step) (r : Rest) → ((m : Move) → act_move d s b (open_act u r) ≡ Some m → ⊥) → (t : Bool) → is_done r ≡ t → (is_done r ≡ false → IsWorking (acts r)) → IsWorking (acts r)
  open-works u r st true e f = absurd (open-moves d s b u r run e st)
  open-works u r st false e f = f e

  mutual
    -- the rest of a running batch works or asks if nothing has a move
    stuck-works : (r : Rest) → IsAdvanced r → IsBounded r → AreStuck (acts r) → is_done r ≡ false → IsWorking (acts r)
    stuck-works (ready u v n) h bo st e = absurd (ready-moves d s b u v n (ap is_running run) (st (ready u v n) (inl refl)))
    stuck-works (asking u v n) h bo st e = inr (u, v, n, inl refl)
    stuck-works (open_act u r) h bo st e = more-work (acts r) (open_act u r ∷ acts r) (λ a i. inr i) (open-works u r (st (open_act u r) (inl refl)) (is_done r) refl (λ e. stuck-works r h bo (λ a i. st a (inr i)) e))
    stuck-works (live u y t) h bo st e = inl (u, y, t, inl refl)
    stuck-works (freeing u n) h bo st e = absurd (freeing-moves d s b u n bo (st (freeing u n) (inl refl)))
    stuck-works (in_seq r cs) h bo st e = stuck-works r h.1 bo st h.0
    stuck-works (in_par rs) h bo st e = stuck-works_each rs h.1 bo st h.0
    stuck-works (in_loop n c body r) h bo st e = stuck-works r h.1 bo st h.0
    stuck-works done h bo st e = absurd cc

    stuck-works_each : (rs : Rests) → AreAdvanced rs → AreBounded rs → AreStuck (acts_of_each rs) → all_done rs ≡ false → IsWorking (acts_of_each rs)
    stuck-works_each no_rests h bo st e = absurd cc
    stuck-works_each (rest r rs) h bo st e =
        ⊎_elim
        (λ m. more-work (acts r) (acts r ++ acts_of_each rs) (λ a i. Has-left (acts r) (acts_of_each rs) a i) (stuck-works r h.0 bo.0 (λ a i. st a (Has-left (acts r) (acts_of_each rs) a i)) m))
        (λ m. more-work (acts_of_each rs) (acts r ++ acts_of_each rs) (λ a i. Has-right (acts r) (acts_of_each rs) a i)
        (stuck-works_each rs h.1 bo.1 (λ a i. st a (Has-right (acts r) (acts_of_each rs) a i)) m))
        (not_all (is_done r) (all_done rs) e)

abbrev LiveUnder : Batch → Place → Type 0
LiveUnder b q = (p : Step) × (x : Phase) × (t : State) × Has (acts b.rest) (live p x t) × IsAtOrAbove q p.place

module _ (d : Setup) (rank : Ranking) (trees : HasPlacedTrees d) (outs : List Out) (s : Plant) (sd : IsStanding d s) (k : IsKept d rank outs s) (settled : next d s ≡ None) where
  -- an act that asks stands in line
  asks-in_line : (b : Batch) → Has s.batches b → (h : BatchAct) → b.number ≡ h.0 → (p : Step) (w : Task) (n : ℕ) → Has (acts b.rest) (asking p w n) → IsAtOrAbove h.1 p.place
      → ((v : Waiting) → IsWaiting (scene_of s) v → StandsUnder h v → ⊥) → ⊥
  asks-in_line b i h num p w n j at none =
      let sound : IsSound d rank b = k.sound b i in let here : IsStandingBatch d b = standing-of d s sd b i in
      let fine = fine-act b.rest here.advanced (rest-bounded b.recipe.procedure b.rest here.stands) (asking p w n) j in
      let r : Need = fine.2.0 in
      none (record { act = (b.number, p.place); resource = r.resource })
      (map-Has (λ z. z.act) (s.line r.resource) (share (b.number, p.place) r.units)
      (k.listed r.resource (share (b.number, p.place) r.units) (of-entry s.batches b p.place (awaiting r) i (asking-awaits b.rest p w n r j fine.2.1))))
      (num, at)

  -- a running batch with a holder under which nobody waits has a live phase there
  runs-on : (b : Batch) → Has s.batches b → b.state ≡ Running → (h : BatchAct) → b.number ≡ h.0 → (a : Rest) → Has (acts b.rest) a → place_of a ≡ h.1
      → ((v : Waiting) → IsWaiting (scene_of s) v → StandsUnder h v → ⊥) → LiveUnder b h.1
  runs-on b i run h num (ready p w n) j at none = absurd (ready-moves d s b p w n (ap is_running run) (no_act_move d s settled b i (ready p w n) j))
  runs-on b i run h num (asking p w n) j at none = absurd (asks-in_line b i h num p w n j (at_or_above h.1 p.place (sym at)) none)
  runs-on b i run h num (live p x t) j at none = (p, x, t, j, at_or_above h.1 p.place (sym at))
  runs-on b i run h num (freeing p n) j at none =
      let sound : IsSound d rank b = k.sound b i in let here : IsStandingBatch d b = standing-of d s sd b i in
      absurd (freeing-moves d s b p n (fine-act b.rest here.advanced (rest-bounded b.recipe.procedure b.rest here.stands) (freeing p n) j).2 (no_act_move d s settled b i (freeing p n) j))
  runs-on b i run h num (open_act p r) j at none =
      let sound : IsSound d rank b = k.sound b i in let here : IsStandingBatch d b = standing-of d s sd b i in
      let fine = fine-act b.rest here.advanced (rest-bounded b.recipe.procedure b.rest here.stands) (open_act p r) j in
      let inside : (a : Rest) → Has (acts r) a → Has (acts b.rest) a = λ a m. acts-inside b.rest p r a j m in
      let under : (a : Rest) → Has (acts r) a → IsAtOrAbove h.1 (place_of a)
      = λ a m. subst (λ z. IsAtOrAbove z (place_of a)) at (place-inside (0 ∷ []) b.recipe.procedure b.rest sound.cleared.placed here.stands p r a j m) in
      go r under inside (open-works d s b run p r (no_act_move d s settled b i (open_act p r) j) (is_done r) refl
      (λ e. stuck-works d s b run r fine.1 fine.2 (λ a m. no_act_move d s settled b i a (inside a m)) e))
    where
      go : (r : Rest) → ((a : Rest) → Has (acts r) a → IsAtOrAbove h.1 (place_of a)) → ((a : Rest) → Has (acts r) a → Has (acts b.rest) a) → IsWorking (acts r) → LiveUnder b h.1
      go r under inside (inl w) = (w.0, w.1, w.2, inside (live w.0 w.1 w.2) w.3, under (live w.0 w.1 w.2) w.3)
      go r under inside (inr w) = absurd (asks-in_line b i h num w.0 w.1 w.2 (inside (asking w.0 w.1 w.2) w.3) (under (asking w.0 w.1 w.2) w.3) none)
  runs-on b i run h num (in_seq r cs) j at none = absurd ((let sound : IsSound d rank b = k.sound b i in let here : IsStandingBatch d b = standing-of d s sd b i in fine-act b.rest here.advanced (rest-bounded b.recipe.procedure b.rest here.stands) (in_seq r cs) j).0)
  runs-on b i run h num (in_par rs) j at none = absurd ((let sound : IsSound d rank b = k.sound b i in let here : IsStandingBatch d b = standing-of d s sd b i in fine-act b.rest here.advanced (rest-bounded b.recipe.procedure b.rest here.stands) (in_par rs) j).0)
  runs-on b i run h num (in_loop n c body r) j at none = absurd ((let sound : IsSound d rank b = k.sound b i in let here : IsStandingBatch d b = standing-of d s sd b i in fine-act b.rest here.advanced (rest-bounded b.recipe.procedure b.rest here.stands) (in_loop n c body r) j).0)
  runs-on b i run h num done j at none = absurd ((let sound : IsSound d rank b = k.sound b i in let here : IsStandingBatch d b = standing-of d s sd b i in fine-act b.rest here.advanced (rest-bounded b.recipe.procedure b.rest here.stands) done j).0)

  holder-at_work : (h : BatchAct) (r : Need) → Has (entries s.batches) (h, holding r) → ((v : Waiting) → IsWaiting (scene_of s) v → StandsUnder h v → ⊥) → IsAtWork s h
  holder-at_work h r e none =
      let b = entry-of s.batches h (holding r) e in
      let none = settled-none d trees s sd settled b.0 b.1 in
      (b.0, b.1, b.2, go b.0 b.1 b.2 (subst (λ xs. Has (early_facts xs ++ facts b.0.rest) (h.1, holding r)) none b.3) b.0.state refl)
    where
      go : (b : Batch) → Has s.batches b → b.number ≡ h.0 → Has (facts b.rest) (h.1, holding r) → (x : State) → b.state ≡ x → IsHalting x ⊎ LiveUnder b h.1
      go b i num f Running q = inr (let a = act-of b.rest h.1 (holding r) f in runs-on b i q h num a.0 a.1 a.2 none)
      go b i num f Idle q = absurd (subst (λ z. Has z (h.1, holding r)) (subst (λ z. IsFitting z (facts b.rest)) q (k.sound b i).fits) f)
      go b i num f Pausing q = inl refl
      go b i num f Paused q = inl refl
      go b i num f Holding q = inl refl
      go b i num f Held q = inl refl
      go b i num f Restarting q = inl refl
      go b i num f Stopping q = inl refl
      go b i num f Stopped q = absurd (subst (λ z. Has z (h.1, holding r)) (subst (λ z. IsFitting z (facts b.rest)) q (k.sound b i).fits) f)
      go b i num f Aborting q = inl refl
      go b i num f Aborted q = absurd (subst (λ z. Has z (h.1, holding r)) (subst (λ z. IsFitting z (facts b.rest)) q (k.sound b i).fits) f)
      go b i num f Complete q = absurd (subst (λ z. Has z (h.1, holding r)) (subst (λ z. IsFitting z (facts b.rest)) q (k.sound b i).fits) f)

  last-link : (ls : List Link) (l : Link) → IsChain (scene_of s) (ls ++ l ∷ []) → IsLink (scene_of s) l
  last-link [] l h = h
  last-link (m ∷ []) l h = h.2
  last-link (m ∷ n ∷ ls) l h = last-link (n ∷ ls) l h.2

  pub ends-at_work : (ls : List Link) (l : Link) → IsChain (scene_of s) (ls ++ l ∷ []) → ((v : Waiting) → IsWaiting (scene_of s) v → StandsUnder l.holder v → ⊥) → IsAtWork s l.holder
  ends-at_work ls l h none =
      let y = Has-map (λ z. z.act) (holders s l.waiting.resource) l.holder (last-link ls l h).1 in
      holder-at_work l.holder (need l.waiting.resource y.0.units)
      (subst (λ z. Has (entries s.batches) (z, holding (need l.waiting.resource y.0.units))) y.2
      (Has-holders l.waiting.resource (entries s.batches) y.0 (subst (λ z. Has z y.0) (holders-entries s l.waiting.resource) y.1))) none

-- each ask in a plant that is led to is for a resource of the cell, and for no more than its capacity
ask-can_be_met : (setup : Setup) (rank : Ranking) (outs : List Out) (s : Plant) → IsCleared setup rank → IsStanding setup s → IsKept setup rank outs s
    → (r : Name) (a : Share) → Has (s.line r) a → CanBeMet setup rank (need r a.units)
ask-can_be_met setup rank outs s cleared stands k r a h =
    let e = awaiting-of s.batches a.act (need r a.units) (k.asked r a h) in
    let b : IsStandingBatch setup e.0 = Each-Has (IsStandingBatch setup) s.batches e.0 stands.batches e.1 in
    awaited-known setup rank is_procedure (0 ∷ []) [] e.0.recipe.procedure e.0.rest
    (control-clear setup rank cleared e.0.recipe b.known) b.stands a.act.1 (need r a.units) e.3

waiting-known : (setup : Setup) (rank : Ranking) (outs : List Out) (s : Plant) → IsCleared setup rank → IsStanding setup s → IsKept setup rank outs s
    → (w : Waiting) → IsWaiting (scene_of s) w → Has setup.resources w.resource
waiting-known setup rank outs s cleared stands k w h =
    let x = Has-map (λ z. z.act) (s.line w.resource) w.act h in
    among-Has setup.resources w.resource (ask-can_be_met setup rank outs s cleared stands k w.resource x.0 x.1).0

each-waits : (s : Plant) (ls : List Link) → IsChain (scene_of s) ls → (l : Link) → Has ls l → IsWaiting (scene_of s) l.waiting
each-waits s (m ∷ []) h l (inl e) = subst (λ z. IsWaiting (scene_of s) z.waiting) e h.0
each-waits s (m ∷ n ∷ ls) h l (inl e) = subst (λ z. IsWaiting (scene_of s) z.waiting) e h.0.0
each-waits s (m ∷ n ∷ ls) h l (inr i) = each-waits s (n ∷ ls) h.2 l i
each-waits s ls h l i = grind arith

pub nobody_waits_in_vain : NobodyWaitsInVain
nobody_waits_in_vain setup rank kept cleared es outs t l settled =
    let k : IsKept setup rank outs t = kept-along setup rank (cleared-down setup rank kept cleared) [] opening (opening-stands setup) (kept-at_first setup rank) es outs t l in
    let stands : IsStanding setup t = leads-stands setup (λ r c. (control-procedure setup kept r c).placed) opening t es outs (opening-stands setup) l in
    record {
      held = λ r oldest later f. held-by_others setup rank outs t stands k settled r oldest later f
          (ask-can_be_met setup rank outs t cleared stands k r oldest (subst (λ z. Has z oldest) (sym f) (inl refl))).1;
      short = λ ls h. short-chain setup rank outs t stands k ls setup.resources h (λ m i. waiting-known setup rank outs t cleared stands k m.waiting (each-waits t ls h m i));
      ends = ends-at_work setup rank (λ r c. (control-procedure setup kept r c).placed) outs t stands k settled;
    }
