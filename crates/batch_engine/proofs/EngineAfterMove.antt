-- The engine makes the next move.
use Rattle.std.proofs.Common.{◌≡◌, ◌<◌, ◌+◌, refl, sym, ◌∙◌, ap, ap₂, subst, ℕ, zero, suc, List, [], ◌∷◌, Bool, true, false, Option, Some, None, inl, inr, arith, length, map, filter, take, flat_map, get_or, nat_eq}
use Rattle.std.{proofs.lemmas.Bool.and_parts, specs.Prelude.slice_get, specs.Prelude.option_map, specs.Prelude.Contains, specs.Cmp.Derive.both_true}
use Rattle.batch_recipe.specs.{Conditions.Name, Conditions.same_name, Tree.Place, Tree.Tree, declared.need.Need.Need, Nodes.node_count}
use Rattle.batch_matrix.specs.declared.state.State as states
use Rattle.batch_model.{specs.Lists.Has, specs.Rest.Rest, specs.Rest.ready, specs.Rest.asking, specs.Rest.acts, specs.Rest.place_of, specs.Plant.BatchAct, specs.Plant.InAdvance, specs.Plant.Share, specs.Plant.in_act, specs.Plant.is_same_act, specs.Plant.held_by, specs.Plant.holders, specs.Moves.batch_of, specs.Moves.batch_after, specs.Moves.batch_moves, specs.Moves.line_after, specs.Moves.after_move, specs.Runs.move, specs.Records.holders_after, proofs.Members.Has-flat_map, proofs.Members.Has-right}
use Rattle.batch_model.specs.Plant as Model
use Rattle.batch_model.specs.Moves as Moves
use Rattle.batch_step_laws.proofs.{Batches.one_batch, WorkAfterMove.batch_moves-number, WorkAfterMove.next-possible, WorkAfterMove.one_act, ActOrder.acts-rise, HoldersInAdvance.flat_map-Has}
use Rattle.batch_record_laws.proofs.{Entries.IsOnce, Entries.same_act, Entries.act_self, Entries.filter-Has, Entries.name_self, Members.Has-map, Members.map-Has}
use Rattle.batch_arbiter.specs.Allocation.{Claim, shares_at, line_of_asks, after_ask, after_grant, after_pass, after_release, units_claimed, is_claim, IsHeld, next_grant, batch_node, capacity_at}
use Rattle.batch_chart.specs.{NodesOf.no_need, NodesOf.place_at, NodesOf.step_at, NodesOf.task_at, NodesOf.need_at, Charts.Awaits, Charts.IsRunningOf, Charts.AsksAt, Charts.RunsAs, Charts.remains, Charts.StandsFor, Early.in_advance, Seen.machine_move, declared.chart_move.Move.Move, declared.chart_move.Move.TheVariants.Send, declared.chart_move.Move.TheVariants.State, declared.chart_move.Move.TheVariants.Release, declared.chart_move.Move.TheVariants.Pass, declared.chart_move.Move.TheVariants.Begin, declared.chart_move.Move.TheVariants.Start, declared.chart_move.Move.TheVariants.End, declared.chart_move.Move.TheVariants.Ask, declared.running.Running.Running}
use Rattle.batch_engine.{specs.declared.batch.Batch.Batch, specs.View.EngineView, specs.View.setup, specs.View.claim_act, specs.View.share_of, specs.View.claimed_shares, specs.View.names_of, specs.View.resource_number, specs.View.line_in, specs.View.line_at, specs.View.plant_of, specs.View.tree_of, specs.Kept.IsKept, specs.Steps.IsNext, proofs.RecordOfPlant.told, proofs.RecordOfPlant.safe, proofs.RecordOfPlant.standing, proofs.BatchPlaces.Has-batch_of, proofs.BatchLookups.named, proofs.BatchLookups.has, proofs.BatchLookups.batch-runs, proofs.BatchLookups.tree-placed, proofs.BatchLookups.claim-act, proofs.BatchLookups.act-claim, proofs.BatchLookups.line-units, proofs.PassTarget.held-waits, proofs.PassTarget.pass-awaits, proofs.PlacesOfActs.step-place, proofs.AllocationAfterMove.lines-asked, proofs.AllocationAfterMove.once-asked, proofs.AllocationAfterMove.cell-asked, proofs.AllocationAfterMove.shares-released, proofs.AllocationAfterMove.cell-released, proofs.AllocationAfterMove.shares-passed, proofs.AllocationAfterMove.cell-passed, proofs.AllocationAfterMove.units-found, proofs.AllocationAfterMove.lines-granted, proofs.AllocationAfterMove.shares-granted, proofs.AllocationAfterMove.once-granted, proofs.AllocationAfterMove.cell-granted, proofs.AllocationAfterMove.first-of-line, proofs.InvariantAfterMove.changed, proofs.InvariantAfterMove.IsMove, proofs.InvariantAfterMove.plant-after, proofs.InvariantAfterMove.kept-after, proofs.Room.room-quiet, proofs.Room.room-asked, proofs.Room.room-granted, proofs.Room.room-passed, proofs.Room.room-released}
use Rattle.batch_engine.specs.View as View

-- a move that neither asks for anything, nor gives anything back, nor changes the batch's state
abbrev pub IsQuiet : Move → Type 0
IsQuiet (Send k command) = Unit {0}
IsQuiet (Begin k) = Unit {0}
IsQuiet (Start k) = Unit {0}
IsQuiet (End k) = Unit {0}
IsQuiet _ = ⊥

-- the engine after a move
pub record Becomes (v : EngineView) (w : EngineView) (m : Moves.Move) : Type 0 where
  pub kept : IsKept w
  pub plant : plant_of w ≡ after_move (plant_of v) m

pub same-next : (v : EngineView) (m l : Moves.Move) → IsNext v m → IsNext v l → m ≡ l
same-next v m l e f = let g : ◌≡◌ {A = Option Moves.Move} (Some m) (Some l) = sym e ∙ f in cc

-- a chart's move is of its batch
pub of-batch : (t : Tree) (b : Model.Batch) (m : Move) → batch_of (machine_move t b m) ≡ b.number
of-batch t b m = grind arith

-- a move but a change of state changes a batch as it changes its rest
abbrev pub Runs : Move → Type 0
Runs (State x) = ⊥
Runs _ = Unit {0}

-- the batch with this rest, which holds this in advance
abbrev pub as_left : Model.Batch → Rest → List InAdvance → Model.Batch
as_left b r early = record b { rest = r; in_advance = early }

after-rest : (t : Tree) (b : Model.Batch) (m : Move) → Runs m → (r : Rest) (early : List InAdvance) → r ≡ (batch_after (machine_move t b m) b).rest → early ≡ (batch_after (machine_move t b m) b).in_advance
    → as_left b r early ≡ batch_after (machine_move t b m) b
after-rest t b (Send k c) h r early e f = ap₂ (as_left b) e f
after-rest t b (State x) h r early e f = absurd h
after-rest t b (Release k i) h r early e f = ap₂ (as_left b) e f
after-rest t b (Pass k to i) h r early e f = ap₂ (as_left b) e f
after-rest t b (Begin k) h r early e f = ap₂ (as_left b) e f
after-rest t b (Start k) h r early e f = ap₂ (as_left b) e f
after-rest t b (End k) h r early e f = ap₂ (as_left b) e f
after-rest t b (Ask k i) h r early e f = ap₂ (as_left b) e f

quiet-runs : (m : Move) → IsQuiet m → Runs m
quiet-runs (Send k c) h = tt
quiet-runs (State x) h = h
quiet-runs (Release k i) h = tt
quiet-runs (Pass k to i) h = tt
quiet-runs (Begin k) h = tt
quiet-runs (Start k) h = tt
quiet-runs (End k) h = tt
quiet-runs (Ask k i) h = tt

quiet-line : (t : Tree) (b : Model.Batch) (m : Move) → IsQuiet m → (line : Name → List Share) (name : Name) → line name ≡ line_after (machine_move t b m) line name
quiet-line t b m h line name = grind arith

quiet-holders : (t : Tree) (b : Model.Batch) (m : Move) → IsQuiet m → (name : Name) (hs : List Share) → hs ≡ holders_after name hs (move (machine_move t b m))
quiet-holders t b m h name hs = grind arith

-- Has and Contains
Has-Contains : {X : Type 0} (xs : List X) (x : X) → Has xs x → Contains xs x
Has-Contains [] x h = absurd h
Has-Contains (y ∷ xs) x (inl e) = (0, omega arith, e)
Has-Contains (y ∷ xs) x (inr h) = let k = Has-Contains xs x h in (suc k.0, omega (arith, k.1), k.2)

Has-taken : (xs : List Need) (i : ℕ) (d : Need) → i < length xs → Has (take (suc i) xs) (get_or xs i d)
Has-taken [] i d h = absurd (omega arith)
Has-taken (x ∷ xs) zero d h = inl refl
Has-taken (x ∷ xs) (suc i) d h = inr (Has-taken xs i d (omega arith))

module _ (v : EngineView) (k : IsKept v) (i : ℕ) (b : Batch) (at : slice_get v.batches i ≡ Some b) where
  abbrev model : Model.Batch
  model = View.model_batch v.cleared b

  -- its chart runs as the batch does
  pub runs-as : RunsAs (tree_of v.cleared b) b.running (View.model_batch v.cleared b).rest (View.model_batch v.cleared b).in_advance
  runs-as = record {
    rest = refl;
    held = refl;
    waiting = held-waits (setup v.cleared) k.cleared.0 k.tracked.outs (plant_of v) (standing v k) (safe v k) (View.model_batch v.cleared b) (Has-batch_of v.cleared v.batches b (has v k i b at));
  }

  -- the next move is one of its moves
  own-next : (m : Move) → IsNext v (machine_move (tree_of v.cleared b) (View.model_batch v.cleared b) m)
      → Has (batch_moves (setup v.cleared) (plant_of v) (View.model_batch v.cleared b)) (machine_move (tree_of v.cleared b) (View.model_batch v.cleared b) m)
  own-next m is =
      let l : Moves.Move = machine_move (tree_of v.cleared b) (View.model_batch v.cleared b) m in
      let d = Has-flat_map (batch_moves (setup v.cleared) (plant_of v)) (plant_of v).batches l (next-possible (setup v.cleared) (plant_of v) l is) in
      let number : d.0.number ≡ b.number = sym (batch_moves-number (setup v.cleared) (plant_of v) d.0 l d.2) ∙ of-batch (tree_of v.cleared b) (View.model_batch v.cleared b) m in
      subst (λ (z : Model.Batch). Has (batch_moves (setup v.cleared) (plant_of v) z) l)
      (one_batch v.next_number (plant_of v).batches d.0 (View.model_batch v.cleared b) (standing v k).numbers d.1 (Has-batch_of v.cleared v.batches b (has v k i b at)) number) d.2

  -- the act that it passes a unit to isn't reached, and holds nothing in advance
  awaits : (m : Move) → IsNext v (machine_move (tree_of v.cleared b) (View.model_batch v.cleared b) m) → Awaits (tree_of v.cleared b) (View.model_batch v.cleared b).rest (View.model_batch v.cleared b).in_advance m
  awaits (Pass node to need) is =
      pass-awaits (setup v.cleared) k.cleared.0 k.tracked.outs (plant_of v) (standing v k) (safe v k) (View.model_batch v.cleared b) (Has-batch_of v.cleared v.batches b (has v k i b at))
      b.number (place_at (tree_of v.cleared b) node) (place_at (tree_of v.cleared b) to) (need_at (tree_of v.cleared b) node need) (own-next (Pass node to need) is)
  awaits (Send node command) is = tt
  awaits (State x) is = tt
  awaits (Release node need) is = tt
  awaits (Begin node) is = tt
  awaits (Start node) is = tt
  awaits (End node) is = tt
  awaits (Ask node need) is = tt

  abbrev pub MadeChart : Move → Running → Type 0
  MadeChart m r =
      IsRunningOf (tree_of v.cleared b) r
      × ((d : Model.Batch) → d.values ≡ b.values → RunsAs (tree_of v.cleared b) b.running d.rest d.in_advance → Awaits (tree_of v.cleared b) d.rest d.in_advance m
      → RunsAs (tree_of v.cleared b) r (batch_after (machine_move (tree_of v.cleared b) d m) d).rest (batch_after (machine_move (tree_of v.cleared b) d m) d).in_advance)

  is-move : (m : Move) (r : Running) → Runs m → MadeChart m r → IsNext v (machine_move (tree_of v.cleared b) (View.model_batch v.cleared b) m)
      → IsMove v i b (record b { running = r }) (machine_move (tree_of v.cleared b) (View.model_batch v.cleared b) m)
  is-move m r run made is =
      let left = made.1 (View.model_batch v.cleared b) refl runs-as (awaits m is) in
      record {
        at = at;
        number = refl;
        made = refl;
        runs = made.0;
        is = is;
        of_batch = of-batch (tree_of v.cleared b) (View.model_batch v.cleared b) m;
        becomes = after-rest (tree_of v.cleared b) (View.model_batch v.cleared b) m run (remains (tree_of v.cleared b) r) (in_advance (tree_of v.cleared b) r.held.items) (sym left.rest) (sym left.held);
      }

  -- the batch changes its state
  pub state-changed : (x : states.State) → IsNext v (Moves.state b.number x) → Becomes v (changed v i (record b { state = x }) v.allocation) (Moves.state b.number x)
  state-changed x is =
      let t : IsMove v i b (record b { state = x }) (Moves.state b.number x) = record {
        at = at;
        number = refl;
        made = refl;
        runs = (batch-runs v k i b at).runs;
        is = is;
        of_batch = refl;
        becomes = refl;
      } in
      record {
        kept = kept-after v k i b (record b { state = x }) (Moves.state b.number x) t v.allocation (λ name. refl) (λ name q e. refl) k.cell k.once
            (room-quiet v i b (record b { state = x }) at refl k.room);
        plant = plant-after v k i b (record b { state = x }) (Moves.state b.number x) t v.allocation (λ name. refl);
      }

  -- the chart makes a move that needs nothing of the arbiter
  pub run-quiet : (m : Move) (r : Running) → IsQuiet m → MadeChart m r → IsNext v (machine_move (tree_of v.cleared b) (View.model_batch v.cleared b) m)
      → Becomes v (changed v i (record b { running = r }) v.allocation) (machine_move (tree_of v.cleared b) (View.model_batch v.cleared b) m)
  run-quiet m r quiet made is =
      let l : Moves.Move = machine_move (tree_of v.cleared b) (View.model_batch v.cleared b) m in
      let t : IsMove v i b (record b { running = r }) l = is-move m r (quiet-runs m quiet) made is in
      record {
        kept = kept-after v k i b (record b { running = r }) l t v.allocation (λ name. quiet-line (tree_of v.cleared b) (View.model_batch v.cleared b) m quiet (line_in v) name)
            (λ name q e. quiet-holders (tree_of v.cleared b) (View.model_batch v.cleared b) m quiet name (claimed_shares v.cleared v.batches (shares_at v.allocation q))) k.cell k.once
            (room-quiet v i b (record b { running = r }) at refl k.room);
        plant = plant-after v k i b (record b { running = r }) l t v.allocation (λ name. quiet-line (tree_of v.cleared b) (View.model_batch v.cleared b) m quiet (line_in v) name);
      }

  -- a resource's number is one that the arbiter has
  in-lists : (name : Name) (q : ℕ) → resource_number v.cleared name ≡ Some q → q < length (names_of v.cleared)
  in-lists name q e = Rattle.std.proofs.lemmas.Option.slice_get_within (names_of v.cleared) q name (named v.cleared name q e)

  -- who is ready stands in no line
  pub not-in-line : (node need q : ℕ) → node < node_count (tree_of v.cleared b) → need < length (step_at (tree_of v.cleared b) node).needs
      → Has (acts (remains (tree_of v.cleared b) b.running)) (ready (step_at (tree_of v.cleared b) node) (task_at (tree_of v.cleared b) node) need)
      → resource_number v.cleared (need_at (tree_of v.cleared b) node need).resource ≡ Some q
      → (y : Share) → Has (claimed_shares v.cleared v.batches (line_of_asks v.allocation q)) y → y.act ≡ (b.number, place_at (tree_of v.cleared b) node) → ⊥
  not-in-line node need q few few' here e y h is =
      let name : Name = (need_at (tree_of v.cleared b) node need).resource in
      let asks = ((told v k).asks name y).0 (subst (λ (xs : List Share). Has xs y) (sym (ap (line_at v) e)) h) in
      let same : asks.0 ≡ View.model_batch v.cleared b = one_batch v.next_number (plant_of v).batches asks.0 (View.model_batch v.cleared b) (standing v k).numbers asks.1 (Has-batch_of v.cleared v.batches b (has v k i b at)) (asks.2 ∙ ap (λ (z : BatchAct). z.0) is) in
      let there : Has (acts (remains (tree_of v.cleared b) b.running)) (asking asks.3 asks.4 asks.5) = subst (λ (d : Model.Batch). Has (acts d.rest) (asking asks.3 asks.4 asks.5)) same asks.6 in
      let one : ready (step_at (tree_of v.cleared b) node) (task_at (tree_of v.cleared b) node) need ≡ asking asks.3 asks.4 asks.5 =
      one_act (acts (remains (tree_of v.cleared b) b.running)) (ready (step_at (tree_of v.cleared b) node) (task_at (tree_of v.cleared b) node) need) (asking asks.3 asks.4 asks.5)
      (acts-rise (0 ∷ []) (tree_of v.cleared b) (remains (tree_of v.cleared b) b.running) (tree-placed v k i b at) (batch-runs v k i b at).runs.alive.stands) here there
      (step-place (tree_of v.cleared b) node (tree-placed v k i b at) few (omega (arith, few')) ∙ sym (asks.7 ∙ ap (λ (z : BatchAct). z.1) is)) in
      cc

  pub claim-place : (node units : ℕ) → claim_act v.cleared v.batches (record { batch = b.number; node = node; units = units }) ≡ (b.number, place_at (tree_of v.cleared b) node)
  claim-place node units = claim-act v k i b at (record { batch = b.number; node = node; units = units }) node refl

  -- an act joins a line
  pub ask-made : (node need q : ℕ) (r : Running) → StandsFor (tree_of v.cleared b) (remains (tree_of v.cleared b) b.running) (Ask node need)
      → resource_number v.cleared (need_at (tree_of v.cleared b) node need).resource ≡ Some q → MadeChart (Ask node need) r
      → IsNext v (machine_move (tree_of v.cleared b) (View.model_batch v.cleared b) (Ask node need)) → 0 < v.allocation.room
      → Becomes v (changed v i (record b { running = r }) (after_ask q (record { batch = b.number; node = node; units = (need_at (tree_of v.cleared b) node need).units }) v.allocation)) (machine_move (tree_of v.cleared b) (View.model_batch v.cleared b) (Ask node need))
  ask-made node need q r s e made is some =
      let name : Need = need_at (tree_of v.cleared b) node need in
      let x : Claim = record { batch = b.number; node = node; units = (need_at (tree_of v.cleared b) node need).units } in
      let a : BatchAct = (b.number, place_at (tree_of v.cleared b) node) in
      let is-share : share_of v.cleared v.batches x ≡ record { act = a; units = name.units } = ap (λ (z : BatchAct). let w : Share = record { act = z; units = x.units } in w) (claim-place node x.units) in
      let l : Moves.Move = machine_move (tree_of v.cleared b) (View.model_batch v.cleared b) (Ask node need) in
      let t : IsMove v i b (record b { running = r }) l = is-move (Ask node need) r tt made is in
      record {
        kept = kept-after v k i b (record b { running = r }) l t (after_ask q x v.allocation) (lines-asked v k.cell q name e x a is-share) (λ name q e. refl)
            (cell-asked v k.cell q name e x)
            (once-asked v k.cell q name e x a is-share k.once (not-in-line node need q s.0 s.1 s.2 e))
            (room-asked v i b (record b { running = r }) at refl k.room q x (omega (arith, k.cell.lines, in-lists name.resource q e)) some);
        plant = plant-after v k i b (record b { running = r }) l t (after_ask q x v.allocation) (lines-asked v k.cell q name e x a is-share);
      }

  -- whose share is released
  same-claim : (node : ℕ) → node < node_count (tree_of v.cleared b) → (x : Claim) → is_claim b.number node x ≡ is_same_act (claim_act v.cleared v.batches x) (b.number, place_at (tree_of v.cleared b) node)
  same-claim node few x = go (is_same_act (claim_act v.cleared v.batches x) (b.number, place_at (tree_of v.cleared b) node)) refl
    where
      test : (m n : ℕ) → m ≡ n → nat_eq m n ≡ true
      test m n e = grind arith

      untest : (m n : ℕ) → nat_eq m n ≡ true → m ≡ n
      untest m n e = grind arith

      no : (t : Bool) → (t ≡ true → ⊥) → t ≡ false
      no true h = absurd (h refl)
      no false h = refl

      go : (t : Bool) → is_same_act (claim_act v.cleared v.batches x) (b.number, place_at (tree_of v.cleared b) node) ≡ t → is_claim b.number node x ≡ t
      go true e =
          let n : batch_node x ≡ (b.number, node) = act-claim v k i b at x node few (same_act (claim_act v.cleared v.batches x) (b.number, place_at (tree_of v.cleared b) node) e) in
          both_true (test x.batch b.number (ap (λ (z : ℕ × ℕ). z.0) n)) (test x.node node (ap (λ (z : ℕ × ℕ). z.1) n))
      go false e =
          no (is_claim b.number node x) (λ h.
          let s : (nat_eq x.batch b.number ≡ true) × (nat_eq x.node node ≡ true) = and_parts (nat_eq x.batch b.number) (nat_eq x.node node) h in
          let n : batch_node x ≡ (b.number, node) = ap₂ (λ y z. let w : ℕ × ℕ = (y, z) in w) (untest x.batch b.number s.0) (untest x.node node s.1) in
          let f : is_same_act (claim_act v.cleared v.batches x) (b.number, place_at (tree_of v.cleared b) node) ≡ true =
          subst (λ (z : BatchAct). is_same_act (claim_act v.cleared v.batches x) z ≡ true) (claim-act v k i b at x node n) (act_self (claim_act v.cleared v.batches x)) in
          let g : ◌≡◌ {A = Bool} true false = sym f ∙ e in absurd cc)

  -- who holds a need has a share of it
  own-share : (node need q : ℕ) → StandsFor (tree_of v.cleared b) (remains (tree_of v.cleared b) b.running) (Release node need)
      → resource_number v.cleared (need_at (tree_of v.cleared b) node need).resource ≡ Some q
      → Has (shares_at v.allocation q) (record { batch = b.number; node = node; units = (need_at (tree_of v.cleared b) node need).units })
  own-share node need q s e =
      let name : Need = need_at (tree_of v.cleared b) node need in
      let a : BatchAct = (b.number, place_at (tree_of v.cleared b) node) in
      let act : Rest = s.2.0 in
      let one : suc need ≡ need + 1 = omega arith in
      let taken : Has (take (need + 1) (step_at (tree_of v.cleared b) node).needs) name =
      subst (λ n. Has (take n (step_at (tree_of v.cleared b) node).needs) name) one (Has-taken (step_at (tree_of v.cleared b) node).needs need no_need s.1) in
      let mineof : Share = record { act = a; units = name.units } in
      let holds : Has (filter (λ r. same_name name.resource r.resource) (held_by act)) name =
      filter-Has (λ (r : Need). same_name name.resource r.resource) (held_by act) name (subst (λ (xs : List Need). Has xs name) (sym s.2.3) taken) (name_self name.resource) in
      let mine : Has (map (λ (r : Need). let z : Share = record { act = (b.number, place_of act); units = r.units } in z) (filter (λ r. same_name name.resource r.resource) (held_by act))) mineof =
      subst (λ (p : Place). Has (map (λ (r : Need). let z : Share = record { act = (b.number, place_of act); units = r.units } in z) (filter (λ r. same_name name.resource r.resource) (held_by act))) (let z : Share = record { act = (b.number, p); units = name.units } in z)) s.2.2
      (map-Has (λ (r : Need). let z : Share = record { act = (b.number, place_of act); units = r.units } in z) (filter (λ r. same_name name.resource r.resource) (held_by act)) name holds) in
      let model : Model.Batch = View.model_batch v.cleared b in
      let own : Has (flat_map (Model.shares_held name.resource model) (acts model.rest)) mineof = flat_map-Has (Model.shares_held name.resource model) (acts model.rest) act mineof s.2.1 mine in
      let held : Has (holders (plant_of v) name.resource) mineof =
      flat_map-Has (Model.shares_of name.resource) (plant_of v).batches model mineof (Has-batch_of v.cleared v.batches b (has v k i b at))
      (Has-right (flat_map (Model.share_in_advance name.resource model) model.in_advance) (flat_map (Model.shares_held name.resource model) (acts model.rest)) mineof own) in
      let share : Has (claimed_shares v.cleared v.batches (shares_at v.allocation q)) mineof = subst (λ (xs : List Share). Has xs mineof) (sym (k.tracked.shares q name.resource e)) (((told v k).held name.resource).1 mineof held) in
      let x = Has-map (share_of v.cleared v.batches) (shares_at v.allocation q) mineof share in
      let n : batch_node x.0 ≡ (b.number, node) = act-claim v k i b at x.0 node s.0 (ap (λ (z : Share). z.act) x.2) in
      let is : x.0 ≡ record { batch = b.number; node = node; units = name.units } =
      ap₂ (λ (z : ℕ × ℕ) u. let y : Claim = record { batch = z.0; node = z.1; units = u } in y) n (ap (λ (z : Share). z.units) x.2) in
      subst (Has (shares_at v.allocation q)) is x.1

  pub held-share : (node need q : ℕ) → StandsFor (tree_of v.cleared b) (remains (tree_of v.cleared b) b.running) (Release node need)
      → resource_number v.cleared (need_at (tree_of v.cleared b) node need).resource ≡ Some q → IsHeld v.allocation q b.number node
  held-share node need q s e =
      let units : ℕ = (need_at (tree_of v.cleared b) node need).units in
      (units, Has-Contains (shares_at v.allocation q) (record { batch = b.number; node = node; units = units }) (own-share node need q s e))

  -- a resource is given back
  pub release-made : (node need q : ℕ) (r : Running) → StandsFor (tree_of v.cleared b) (remains (tree_of v.cleared b) b.running) (Release node need)
      → resource_number v.cleared (need_at (tree_of v.cleared b) node need).resource ≡ Some q → MadeChart (Release node need) r
      → IsNext v (machine_move (tree_of v.cleared b) (View.model_batch v.cleared b) (Release node need))
      → Becomes v (changed v i (record b { running = r }) (after_release q b.number node v.allocation)) (machine_move (tree_of v.cleared b) (View.model_batch v.cleared b) (Release node need))
  release-made node need q r s e made is =
      let name : Need = need_at (tree_of v.cleared b) node need in
      let l : Moves.Move = machine_move (tree_of v.cleared b) (View.model_batch v.cleared b) (Release node need) in
      let t : IsMove v i b (record b { running = r }) l = is-move (Release node need) r tt made is in
      record {
        kept = kept-after v k i b (record b { running = r }) l t (after_release q b.number node v.allocation) (λ name. lines name)
            (shares-released v k.cell q name e b.number node (place_at (tree_of v.cleared b) node) (subst IsOnce (sym (k.tracked.shares q name.resource e)) ((safe v k).held name.resource).3) (same-claim node s.0))
            (cell-released v k.cell q name e b.number node) k.once
            (room-released v i b (record b { running = r }) at refl k.room q b.number node (omega (arith, k.cell.shares, in-lists name.resource q e)));
        plant = plant-after v k i b (record b { running = r }) l t (after_release q b.number node v.allocation) (λ name. lines name);
      }
    where
      lines : (n : Name) → line_in (record v { allocation = after_release q b.number node v.allocation }) n ≡ line_in v n
      lines n = go (resource_number v.cleared n)
        where
          go : (o : Option ℕ) → line_at (record v { allocation = after_release q b.number node v.allocation }) o ≡ line_at v o
          go None = refl
          go (Some j) = refl

  -- a need that an act passes on it could as well give back
  pub as-released : (node to need : ℕ) → StandsFor (tree_of v.cleared b) (remains (tree_of v.cleared b) b.running) (Pass node to need)
      → StandsFor (tree_of v.cleared b) (remains (tree_of v.cleared b) b.running) (Release node need)
  as-released node to need s = (s.0, s.2, s.3)

  -- a resource is passed on
  pub pass-made : (node to need q : ℕ) (r : Running) → StandsFor (tree_of v.cleared b) (remains (tree_of v.cleared b) b.running) (Pass node to need)
      → resource_number v.cleared (need_at (tree_of v.cleared b) node need).resource ≡ Some q → MadeChart (Pass node to need) r
      → IsNext v (machine_move (tree_of v.cleared b) (View.model_batch v.cleared b) (Pass node to need))
      → Becomes v (changed v i (record b { running = r }) (after_pass q b.number node to v.allocation)) (machine_move (tree_of v.cleared b) (View.model_batch v.cleared b) (Pass node to need))
  pass-made node to need q r s e made is =
      let name : Need = need_at (tree_of v.cleared b) node need in
      let l : Moves.Move = machine_move (tree_of v.cleared b) (View.model_batch v.cleared b) (Pass node to need) in
      let t : IsMove v i b (record b { running = r }) l = is-move (Pass node to need) r tt made is in
      let once : IsOnce (claimed_shares v.cleared v.batches (shares_at v.allocation q)) = subst IsOnce (sym (k.tracked.shares q name.resource e)) ((safe v k).held name.resource).3 in
      let units : units_claimed b.number node (shares_at v.allocation q) ≡ name.units =
      units-found (share_of v.cleared v.batches) b.number node (b.number, place_at (tree_of v.cleared b) node) (shares_at v.allocation q) (record { batch = b.number; node = node; units = name.units }) once (same-claim node s.0)
      (own-share node need q (as-released node to need s) e) (claim-place node name.units) in
      record {
        kept = kept-after v k i b (record b { running = r }) l t (after_pass q b.number node to v.allocation) (λ name. lines name)
            (shares-passed v k.cell q name e b.number node to (place_at (tree_of v.cleared b) node) (place_at (tree_of v.cleared b) to) once (same-claim node s.0) units (claim-place to name.units))
            (cell-passed v k.cell q name e b.number node to) k.once
            (room-passed v i b (record b { running = r }) at refl k.room q b.number node to (omega (arith, k.cell.shares, in-lists name.resource q e)));
        plant = plant-after v k i b (record b { running = r }) l t (after_pass q b.number node to v.allocation) (λ name. lines name);
      }
    where
      lines : (n : Name) → line_in (record v { allocation = after_pass q b.number node to v.allocation }) n ≡ line_in v n
      lines n = go (resource_number v.cleared n)
        where
          go : (o : Option ℕ) → line_at (record v { allocation = after_pass q b.number node to v.allocation }) o ≡ line_at v o
          go None = refl
          go (Some j) = refl

  -- the act first in line gets its need
  pub grant-made : (node need q : ℕ) (r : Running) → AsksAt (tree_of v.cleared b) (remains (tree_of v.cleared b) b.running) node need
      → resource_number v.cleared (need_at (tree_of v.cleared b) node need).resource ≡ Some q → option_map batch_node (next_grant v.allocation q) ≡ Some (b.number, node)
      → IsRunningOf (tree_of v.cleared b) r
      → ((d : Model.Batch) → RunsAs (tree_of v.cleared b) b.running d.rest d.in_advance
      → RunsAs (tree_of v.cleared b) r (in_act (place_at (tree_of v.cleared b) node) Moves.granted d).rest (in_act (place_at (tree_of v.cleared b) node) Moves.granted d).in_advance)
      → IsNext v (Moves.grant b.number (place_at (tree_of v.cleared b) node) (need_at (tree_of v.cleared b) node need))
      → Becomes v (changed v i (record b { running = r }) (after_grant q (next_grant v.allocation q) v.allocation)) (Moves.grant b.number (place_at (tree_of v.cleared b) node) (need_at (tree_of v.cleared b) node need))
  grant-made node need q r asks e first runs goes is =
      let name : Need = need_at (tree_of v.cleared b) node need in
      let a : BatchAct = (b.number, place_at (tree_of v.cleared b) node) in
      let f = first-of-line (capacity_at v.allocation q) (shares_at v.allocation q) (line_of_asks v.allocation q) b.number node first in
      let x : Claim = f.0 in
      let in-line : Has (line_of_asks v.allocation q) x = subst (λ (xs : List Claim). Has xs x) (sym f.2) (inl refl) in
      let here : share_of v.cleared v.batches x ≡ record { act = a; units = name.units } =
      ap₂ (λ (z : BatchAct) u. let w : Share = record { act = z; units = u } in w) (claim-act v k i b at x node f.4) (line-units v k i b at node need q asks e x in-line f.4) in
      let l : Moves.Move = Moves.grant b.number (place_at (tree_of v.cleared b) node) name in
      let left = goes (View.model_batch v.cleared b) runs-as in
      let t : IsMove v i b (record b { running = r }) l = record {
        at = at;
        number = refl;
        made = refl;
        runs = runs;
        is = is;
        of_batch = refl;
        becomes = ap₂ (as_left (View.model_batch v.cleared b)) (sym left.rest) (sym left.held);
      } in
      subst (λ (o : Option Claim). Becomes v (changed v i (record b { running = r }) (after_grant q o v.allocation)) l) (sym f.3)
      (record {
        kept = kept-after v k i b (record b { running = r }) l t (after_grant q (Some x) v.allocation)
            (lines-granted v k.cell q name e x f.1 a f.2 here k.once) (shares-granted v k.cell q name e x f.1 a f.2 here k.once)
            (cell-granted v k.cell q name e x f.1 a f.2 here k.once) (once-granted v k.cell q name e x f.1 a f.2 here k.once)
            (room-granted v i b (record b { running = r }) at refl k.room q x f.1 (omega (arith, k.cell.lines, in-lists name.resource q e)) (omega (arith, k.cell.shares, in-lists name.resource q e)) f.2);
        plant = plant-after v k i b (record b { running = r }) l t (after_grant q (Some x) v.allocation) (lines-granted v k.cell q name e x f.1 a f.2 here k.once);
      })
