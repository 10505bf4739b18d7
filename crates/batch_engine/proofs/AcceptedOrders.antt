-- An accepted order.
use Rattle.std.proofs.Common.{◌≡◌, ◌<◌, ◌+◌, refl, sym, ◌∙◌, ap, ap₂, subst, ℕ, zero, suc, List, [], ◌∷◌, Bool, true, false, not, cond, Option, Some, None, inl, arith, length, map, filter, set, get_or, nat_eq}
use Rattle.std.{specs.Prelude.sum_by, proofs.lemmas.List.length-map, proofs.lemmas.List.Sums.sum_by-cons}
use Rattle.batch_matrix.specs.{declared.command.Command.Command, declared.command.Command.TheVariants.Reset, Matrix.target, declared.state.State.TheVariants.Idle}
use Rattle.batch_recipe.specs.{Conditions.Name, Conditions.ValueList, Values.with_outputs_zero, Tree.Tree}
use Rattle.batch_model.specs.{Rest.withdrawn, Plant.Share, Plant.Plant, Plant.in_batch, Moves.Move, Events.order, Events.ordered, Events.refused, Events.moves_pending, Events.unknown_batch, Events.command_not_accepted, Events.commanded, Events.lines_under, Events.ordering, Events.judged, Events.react, Events.Answer, Runs.Reacts}
use Rattle.batch_engine.{specs.View.tree_of, specs.View.recipe_made, specs.declared.batch.Batch.Batch, specs.View.EngineView, specs.View.setup, specs.View.tree_at, specs.View.model_batch, specs.View.share_of, specs.View.claimed_shares, specs.View.resource_number, specs.View.line_in, specs.View.line_at, specs.View.plant_of, specs.Kept.AreUnits, specs.Kept.IsOfCell, specs.Kept.IsRunningBatch, specs.Kept.HasRoom, specs.Kept.IsKept, specs.Orders.IsOrder, specs.Orders.IsPlain, specs.Orders.EndsAsks, proofs.BatchPlaces.made_by, proofs.RecordOfPlant.standing, proofs.BatchLookups.batch-runs, proofs.BatchAfterMove.fun_ext, proofs.BatchAfterMove.acts-same, proofs.BatchAfterMove.batches-same, proofs.InvariantAfterMove.changed, proofs.InvariantAfterMove.Each-set, proofs.Room.needs-same, proofs.Room.room-quiet, proofs.InvariantAfterEvent.event-kept}
use Rattle.batch_model.specs.Plant as Model
use Rattle.batch_record_laws.proofs.Entries.{IsOnce, once-filter}
use Rattle.batch_arbiter.specs.Allocation as Arbiter
use Rattle.batch_arbiter.specs.Allocation.{Claim, Allocation, shares_at, line_of_asks, is_of_batch}
use Rattle.batch_chart.specs.{ByValues.reach_by, Charts.IsRunningOf, Charts.RunsAs, Early.in_advance, declared.running.Running.Running}

-- the machine's answer to an order that is accepted
pub react-order : (v : EngineView) (i : ℕ) (command : Command) (n : ℕ) (o : IsOrder v i command n)
    → react (setup v.cleared) (plant_of v) (order command n)
    ≡ (ordered command o.batch.number (target command), record (in_batch o.batch.number (commanded command) (plant_of v)) { line = lines_under command o.batch.number (line_in v) })
react-order v i command n o =
    ap (λ (m : Option Move). let a : Answer = elim m [ Some l ↦ (refused moves_pending, plant_of v) | None ↦ judged (setup v.cleared) (plant_of v) (order command n) ] in a) o.settled
    ∙ ap (λ (b : Option Model.Batch). let a : Answer = elim b [ None ↦ (refused unknown_batch, plant_of v) | Some d ↦ ordering (plant_of v) command d ] in a) o.found
    ∙ ap (λ (t : Bool). let a : Answer = elim t [
      | false ↦ (refused (command_not_accepted o.batch.state), plant_of v)
      | true ↦ (ordered command o.batch.number (target command), record (in_batch o.batch.number (commanded command) (plant_of v)) { line = lines_under command o.batch.number (line_in v) })
    ] in a) o.accepted

-- the effect of an order on the engine
pub record Ordered (v : EngineView) (w : EngineView) (command : Command) (n : ℕ) : Type 0 where
  pub kept : IsKept w
  pub reacts : Reacts (setup v.cleared) (plant_of v) (order command n) (ordered command n (target command)) (plant_of w)

module _ (v : EngineView) (k : IsKept v) (i : ℕ) (command : Command) (n : ℕ) (o : IsOrder v i command n) (b' : Batch)
    (number : b'.number ≡ o.batch.number) (made : made_by b' ≡ made_by o.batch) (runs : IsRunningOf (tree_of v.cleared o.batch) b'.running)
    (becomes : model_batch v.cleared b' ≡ commanded command (model_batch v.cleared o.batch)) (a' : Allocation)
    (lines : (name : Name) → line_in (record v { allocation = a' }) name ≡ lines_under command o.batch.number (line_in v) name) where
  line-same : (name : Name) → line_in (changed v i b' a') name ≡ line_in (record v { allocation = a' }) name
  line-same name = go (resource_number v.cleared name)
    where
      go : (m : Option ℕ) → line_at (changed v i b' a') m ≡ line_at (record v { allocation = a' }) m
      go None = refl
      go (Some q) = acts-same v.cleared v.next_number b' v.batches i o.batch o.at number made (line_of_asks a' q)

  order-reacts : Reacts (setup v.cleared) (plant_of v) (order command n) (ordered command n (target command)) (plant_of (changed v i b' a'))
  order-reacts =
      inl (react-order v i command n o
      ∙ ap₂ (λ (m : ℕ) (s : Plant). let a : Answer = (ordered command m (target command), s) in a) o.number
      (sym (ap₂ (λ (bs : List Model.Batch) (l : Name → List Share). let p : Plant = record { batches = bs; next_number = v.next_number; line = l } in p)
      (batches-same v.cleared v.next_number b' v.batches i o.batch (commanded command) (standing v k).numbers o.at becomes)
      (fun_ext (λ name. line-same name ∙ lines name)))))

  pub order-made : ((q : ℕ) → shares_at a' q ≡ shares_at v.allocation q) → IsOfCell v.cleared a' → ((name : Name) (q : ℕ) → resource_number v.cleared name ≡ Some q → IsOnce (claimed_shares v.cleared v.batches (line_of_asks a' q))) → HasRoom (changed v i b' a')
      → Ordered v (changed v i b' a') command n
  order-made shares cell once room =
      record {
        kept = event-kept v k (set v.batches i b') v.next_number a' (order command n) (ordered command n (target command)) order-reacts
            (λ name q e. acts-same v.cleared v.next_number b' v.batches i o.batch o.at number made (shares_at a' q) ∙ ap (claimed_shares v.cleared v.batches) (shares q))
            (Each-set (IsRunningBatch v.cleared) v.batches i b' k.batches
            (record {
              known = subst (λ (r : ℕ × List ℕ). r.0 < length v.cleared.recipes) (sym made) (batch-runs v k i o.batch o.at).known;
              units = subst (λ (r : ℕ × List ℕ). AreUnits v.cleared r.1) (sym made) (batch-runs v k i o.batch o.at).units;
              runs = subst (λ (r : ℕ × List ℕ). IsRunningOf (tree_at v.cleared r.0 r.1) b'.running) (sym made) runs;
            }))
            cell
            (λ name q e. subst IsOnce (sym (acts-same v.cleared v.next_number b' v.batches i o.batch o.at number made (line_of_asks a' q))) (once name q e))
            room;
        reacts = order-reacts;
      }

plain-becomes : (command : Command) → IsPlain command → (b : Model.Batch) → (let d : Model.Batch = record b { state = target command } in d) ≡ commanded command b
plain-becomes command h b = grind arith

plain-lines : (command : Command) → IsPlain command → (n : ℕ) (line : Name → List Share) (name : Name) → line name ≡ lines_under command n line name
plain-lines command h n line name = grind arith

-- a command that changes the state alone
pub enter-made : (v : EngineView) → IsKept v → (i : ℕ) (command : Command) (n : ℕ) (o : IsOrder v i command n) → IsPlain command
    → Ordered v (changed v i (record (o.batch) { state = target command }) v.allocation) command n
enter-made v k i command n o plain =
    let b' : Batch = record (o.batch) { state = target command } in
    order-made v k i command n o b' refl refl (batch-runs v k i o.batch o.at).runs (plain-becomes command plain (model_batch v.cleared o.batch)) v.allocation
    (λ name. plain-lines command plain o.batch.number (line_in v) name) (λ q. refl) k.cell k.once (room-quiet v i o.batch b' o.at refl k.room)

-- Stop and abort

asks-becomes : (command : Command) → EndsAsks command → (b : Model.Batch) → (let d : Model.Batch = record b { state = target command; rest = withdrawn b.rest } in d) ≡ commanded command b
asks-becomes command h b = grind arith

asks-lines : (command : Command) → EndsAsks command → (n : ℕ) (line : Name → List Share) (name : Name) → filter (λ a. not (nat_eq a.act.0 n)) (line name) ≡ lines_under command n line name
asks-lines command h n line name = grind arith

acts-filtered : (act : Claim → Share) (n : ℕ) (xs : List Claim) → ((x : Claim) → nat_eq (act x).act.0 n ≡ is_of_batch n x) → map act (filter (λ c. not (is_of_batch n c)) xs) ≡ filter (λ a. not (nat_eq a.act.0 n)) (map act xs)
acts-filtered act n [] h = refl
acts-filtered act n (x ∷ xs) h = go (not (is_of_batch n x)) (not (nat_eq (act x).act.0 n)) (ap not (sym (h x))) (acts-filtered act n xs h)
  where
    go : (t u : Bool) → t ≡ u → map act (filter (λ c. not (is_of_batch n c)) xs) ≡ filter (λ a. not (nat_eq a.act.0 n)) (map act xs)
        → map act (cond t (x ∷ filter (λ c. not (is_of_batch n c)) xs) (filter (λ c. not (is_of_batch n c)) xs)) ≡ cond u (act x ∷ filter (λ a. not (nat_eq a.act.0 n)) (map act xs)) (filter (λ a. not (nat_eq a.act.0 n)) (map act xs))
    go true true e f = ap (λ ys. act x ∷ ys) f
    go false false e f = f
    go t u h e = absurd (grind arith)

at-mapped : (f : List Claim → List Claim) → f [] ≡ [] → (xss : List (List Claim)) (q : ℕ) → get_or (map f xss) q [] ≡ f (get_or xss q [])
at-mapped f e [] q = sym e
at-mapped f e (x ∷ xss) zero = refl
at-mapped f e (x ∷ xss) (suc q) = at-mapped f e xss q

parted : (p : Claim → Bool) (xs : List Claim) → length (filter (λ c. not (p c)) xs) + length (filter p xs) ≡ length xs
parted p [] = refl
parted p (x ∷ xs) = go (p x) (parted p xs)
  where
    go : (t : Bool) → length (filter (λ c. not (p c)) xs) + length (filter p xs) ≡ length xs
        → length (cond (not t) (x ∷ filter (λ c. not (p c)) xs) (filter (λ c. not (p c)) xs)) + length (cond t (x ∷ filter p xs) (filter p xs)) ≡ length (x ∷ xs)
    go true h = omega arith
    go false h = omega arith

all-parted : (p : Claim → Bool) (xss : List (List Claim))
    → sum_by (λ xs. length xs) (map (filter (λ c. not (p c))) xss) + sum_by (λ line. length (filter p line)) xss ≡ sum_by (λ xs. length xs) xss
all-parted p [] = refl
all-parted p (x ∷ xss) =
    omega (
      arith,
      all-parted p xss,
      parted p x,
      sum_by-cons (λ (xs : List Claim). length xs) (filter (λ c. not (p c)) x) (map (filter (λ c. not (p c))) xss),
      sum_by-cons (λ (xs : List Claim). length (filter p xs)) x xss,
      sum_by-cons (λ (xs : List Claim). length xs) x xss,
    )

module _ (v : EngineView) (k : IsKept v) (i : ℕ) (command : Command) (n : ℕ) (o : IsOrder v i command n) (ends : EndsAsks command) (r : Running)
    (runs : IsRunningOf (tree_of v.cleared o.batch) r) (left : RunsAs (tree_of v.cleared o.batch) r (withdrawn (model_batch v.cleared o.batch).rest) (model_batch v.cleared o.batch).in_advance) where
  abbrev less : Allocation
  less = Arbiter.after_withdrawal o.batch.number v.allocation

  stopped-lines : (q : ℕ) → line_of_asks less q ≡ filter (λ c. not (is_of_batch o.batch.number c)) (line_of_asks v.allocation q)
  stopped-lines q = at-mapped (filter (λ c. not (is_of_batch o.batch.number c))) refl v.allocation.lines q

  stopped-acts : (q : ℕ) → claimed_shares v.cleared v.batches (line_of_asks less q) ≡ filter (λ a. not (nat_eq a.act.0 o.batch.number)) (claimed_shares v.cleared v.batches (line_of_asks v.allocation q))
  stopped-acts q = ap (claimed_shares v.cleared v.batches) (stopped-lines q) ∙ acts-filtered (share_of v.cleared v.batches) o.batch.number (line_of_asks v.allocation q) (λ x. refl)

  stopped-line : (name : Name) → line_in (record v { allocation = less }) name ≡ filter (λ a. not (nat_eq a.act.0 o.batch.number)) (line_in v name)
  stopped-line name = go (resource_number v.cleared name)
    where
      go : (m : Option ℕ) → line_at (record v { allocation = less }) m ≡ filter (λ a. not (nat_eq a.act.0 o.batch.number)) (line_at v m)
      go None = refl
      go (Some q) = stopped-acts q

  -- all asks of the batch leave their lines
  pub stop-made : Ordered v (changed v i (record (o.batch) { state = target command; running = r }) (Arbiter.after_withdrawal o.batch.number v.allocation)) command n
  stop-made =
      let b' : Batch = record (o.batch) { state = target command; running = r } in
      order-made v k i command n o b' refl refl runs
      (ap₂ (λ z early. let d : Model.Batch = record (model_batch v.cleared o.batch) { state = target command; rest = z; in_advance = early } in d) (sym left.rest) (sym left.held) ∙ asks-becomes command ends (model_batch v.cleared o.batch))
      less (λ name. stopped-line name ∙ asks-lines command ends o.batch.number (line_in v) name) (λ q. refl)
      (record {
        capacities = k.cell.capacities;
        shares = k.cell.shares;
        lines = length-map v.allocation.lines (filter (λ c. not (is_of_batch o.batch.number c))) ∙ k.cell.lines;
      })
      (λ name q e. subst IsOnce (sym (stopped-acts q)) (once-filter (λ a. not (nat_eq a.act.0 o.batch.number)) (claimed_shares v.cleared v.batches (line_of_asks v.allocation q)) (k.once name q e)))
      (omega (arith, k.room, needs-same v.cleared v.batches i o.batch b' o.at refl, all-parted (is_of_batch o.batch.number) v.allocation.lines))

-- the procedure is reached anew
pub reset-made : (v : EngineView) → IsKept v → (i n : ℕ) (o : IsOrder v i Reset n) (r : Running) (vs : ValueList) → vs ≡ with_outputs_zero (recipe_made v.cleared o.batch).outputs o.batch.values
    → IsRunningOf (tree_of v.cleared o.batch) r → ((ws : ValueList) → RunsAs (tree_of v.cleared o.batch) r (reach_by ws (tree_of v.cleared o.batch)) [])
    → Ordered v (changed v i (record (o.batch) { values = vs; state = Idle; running = r }) v.allocation) Reset n
reset-made v k i n o r vs e runs left =
    let b' : Batch = record (o.batch) { values = vs; state = Idle; running = r } in
    let tree : Tree = tree_of v.cleared o.batch in
    let zero : ValueList = with_outputs_zero (recipe_made v.cleared o.batch).outputs o.batch.values in
    order-made v k i Reset n o b' refl refl runs
    (ap₂ (λ ws z. let d : Model.Batch = record (model_batch v.cleared o.batch) { values = ws; state = Idle; rest = z; in_advance = in_advance tree r.held.items } in d) e (sym (left zero).rest)
    ∙ ap (λ early. let d : Model.Batch = record (model_batch v.cleared o.batch) { values = zero; state = Idle; rest = reach_by zero tree; in_advance = early } in d) (sym (left zero).held))
    v.allocation (λ name. refl) (λ q. refl) k.cell k.once (room-quiet v i o.batch b' o.at refl k.room)
