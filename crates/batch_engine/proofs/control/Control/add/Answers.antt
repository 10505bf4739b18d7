use Rattle.std.proofs.Common.{◌≡◌, ◌≤◌, ◌+◌, ◌++◌, ◌∷◌, refl, sym, ◌∙◌, ap, ap₂, subst, ℕ, Some, [], arith, inr, List}
use Rattle.std.specs.Prelude.{slice_get}
use Rattle.batch_matrix.specs.declared.state.State.TheVariants.{Idle}
use Rattle.batch_recipe.specs.{Conditions.Name, Conditions.ValueList, Tree.Tree}
use Rattle.batch_model.specs.Plant as Model
use Rattle.batch_model.specs.Events as Events
use Rattle.batch_model.specs.{Events.new_batch, Events.Answer, Runs.Reacts, Runs.IsCreated}
use Rattle.batch_arbiter.specs.Allocation.{Allocation}
use Rattle.batch_recipe.specs.declared.recipe.Recipe as document
use Rattle.batch_chart.specs.{Charts.IsChartOf, Charts.IsRunningOf, Early.in_advance, NodesOf.needs_in}
use Rattle.batch_engine.{specs.declared.batch.Batch.Batch, specs.View.EngineView, specs.View.seen, specs.View.setup, specs.View.bound_to, specs.View.recipe_at, specs.View.tree_at, specs.View.model_batch, specs.View.plant_of, specs.Kept.IsKept, specs.Kept.needs_of_all, proofs.FewNeeds.few-batches, proofs.BatchLookups.chart-of, proofs.BatchLookups.got-chart, proofs.InvariantAfterEvent.with, proofs.NewBatch.react-create, proofs.NewBatch.create-reacts, proofs.NewBatch.create-kept, proofs.NewBatch.room-kept, specs.Names.recipe_name, specs.Names.roles_taken, proofs.MoveLines.recipe-named, proofs.MoveLines.some-at, specs.Batches.BatchList, specs.Batches.HaveOwnNumbers, proofs.SlabChanges.own-numbers-push, proofs.Room.needs-added, proofs.BatchByNumber.new-number}
use Rattle.batch_engine.proofs.control.Control.add.Goals as goal
use Rattle.batch_engine.proofs.control.Control.add.Goals.{In-Ok-reserve}

pub needs_with-needs-requires-clause-free : goal.needs_with-needs-requires-clause-free
needs_with-needs-requires-clause-free c = few-batches c.args.self.now c.requires.2.chosen.free

-- a new chart of the recipe is one of its tree, whatever units take its roles
started : {v w : EngineView} {x : document.Recipe} {P : Tree → Type 0} (recipe : ℕ) → w ≡ v → slice_get w.cleared.recipes recipe ≡ Some x → ((t : Tree) → IsChartOf t x → P t) → (units : List ℕ) → P (tree_at v.cleared recipe units)
started {v} {w} {x} recipe e h starts units = starts (tree_at v.cleared recipe units) (chart-of v.cleared recipe x (got-chart v w recipe x e h) (bound_to v.cleared recipe units)).0

pub needs_with-needs-requires-clause-runs : goal.needs_with-needs-requires-clause-runs
needs_with-needs-requires-clause-runs c = (c.args.recipe, c.args.units, (started c.args.recipe c.self.view_is c.recipe.ensures (λ t. c.in-Ok.ensures t c.args.values) c.args.units).0)

pub add-requires : goal.add-requires
add-requires c =
    let w : EngineView = seen c.self.inside.cleared c.self.inside.batches.batches c.self.inside.next_number c.self.inside.arbiter in
    new-number w c.self.invariant.kept c.self.inside.batches refl c.self.invariant.numbers

pub returns-in_default-add : goal.returns-in_default-add
returns-in_default-add c = λ name pairs o.
    let v : EngineView = c.args.self.now in
    let w : EngineView = seen c.self.inside.cleared c.self.inside.batches.batches c.self.inside.next_number c.self.inside.arbiter in
    let e : w ≡ v = c.self.view_is in
    let room : ℕ = c.reserve.new.self.room in
    let arbiter : c.reserve.new.self ≡ record (c.self.inside.arbiter) { room = room } = c.in-Ok-reserve.ensures.rest in
    let items : c.add.new.self.batches ≡ c.self.inside.batches.batches = ap (λ (r : BatchList). r.batches) c.in_default-add.ensures.same in
    let same : plant_of (seen c.self.inside.cleared c.add.new.self.batches c.self.inside.next_number c.reserve.new.self) ≡ plant_of v =
    ap₂ (λ (bs : List Batch) (a : Allocation). plant_of (seen c.self.inside.cleared bs c.self.inside.next_number a)) items arbiter ∙ ap plant_of e in
    record {
      cleared = ap (λ (z : EngineView). z.cleared) e;
      reacts = inr (subst (λ (a : Answer). IsCreated a.0) (sym (react-create v c.args.recipe name c.args.size pairs c.args.units c.args.values o)) tt, refl, same);
    }

pub invariant_of-self-in_default-add : goal.invariant_of-self-in_default-add
invariant_of-self-in_default-add c =
    let v : EngineView = c.args.self.now in
    let kept : IsKept v = subst IsKept c.self.view_is c.self.invariant.kept in
    let w : EngineView = seen c.self.inside.cleared c.self.inside.batches.batches c.self.inside.next_number c.self.inside.arbiter in
    let e : w ≡ v = c.self.view_is in
    let room : ℕ = c.reserve.new.self.room in
    let more : v.allocation.room ≤ room = subst (λ (z : EngineView). z.allocation.room ≤ room) e c.in-Ok-reserve.ensures.room in
    let arbiter : c.reserve.new.self ≡ record (c.self.inside.arbiter) { room = room } = c.in-Ok-reserve.ensures.rest in
    let items : c.add.new.self.batches ≡ c.self.inside.batches.batches = ap (λ (r : BatchList). r.batches) c.in_default-add.ensures.same in
    let inside : IsKept (with w w.batches w.next_number (record (w.allocation) { room = room })) =
    subst (λ (z : EngineView). IsKept (with z z.batches z.next_number (record (z.allocation) { room = room }))) (sym e) (room-kept v kept room more) in
    record {
      kept = subst (λ (a : Allocation). IsKept (seen c.self.inside.cleared c.add.new.self.batches c.self.inside.next_number a)) (sym arbiter)
          (subst (λ (bs : List Batch). IsKept (seen c.self.inside.cleared bs c.self.inside.next_number (record (c.self.inside.arbiter) { room = room }))) (sym items) inside);
      numbers = subst HaveOwnNumbers (sym c.in_default-add.ensures.same) c.self.invariant.numbers;
      needs_are = c.self.invariant.needs_are ∙ sym (ap (needs_of_all c.self.inside.cleared) items);
    }

-- the new batch
abbrev own : In-Ok-reserve → Batch
own c = record { number = c.self.inside.next_number; recipe = c.args.recipe; units = c.args.units; size = c.args.size; values = c.args.values; state = Idle; running = c.in-Ok.running }

record IsNew (v : EngineView) (recipe size room : ℕ) (units : List ℕ) (values : ValueList) (b : Batch) : Type 0 where
  kept : IsKept v
  number : b.number ≡ v.next_number
  runs : IsRunningOf (tree_at v.cleared recipe units) b.running
  new : model_batch v.cleared b ≡ new_batch v.next_number (recipe_at v.cleared recipe units) size values
  enough : needs_of_all v.cleared v.batches + needs_in (tree_at v.cleared recipe units) ≤ room

made : (c : In-Ok-reserve) → IsNew c.args.self.now c.args.recipe c.args.size c.reserve.new.self.room c.args.units c.args.values (own c)
made c =
    let v : EngineView = c.args.self.now in
    let left = started c.args.recipe c.self.view_is c.recipe.ensures (λ t. c.in-Ok.ensures t c.args.values) c.args.units in
    let number : c.self.inside.next_number ≡ v.next_number = ap (λ (z : EngineView). z.next_number) c.self.view_is in
    record {
      kept = subst IsKept c.self.view_is c.self.invariant.kept;
      number = number;
      runs = left.0;
      new = ap₂ (λ n r. let d : Model.Batch = record { number = n; recipe = recipe_at v.cleared c.args.recipe c.args.units; size = c.args.size; values = c.args.values; state = Idle; rest = r; in_advance = in_advance (tree_at v.cleared c.args.recipe c.args.units) c.in-Ok.running.held.items } in d) number left.1
          ∙ ap (λ early. let d : Model.Batch = record (new_batch v.next_number (recipe_at v.cleared c.args.recipe c.args.units) c.args.size c.args.values) { in_advance = early } in d) (sym left.2.held);
      enough = omega (arith, c.needs_with-needs.ensures (tree_at v.cleared c.args.recipe c.args.units) left.0, c.in-Ok-reserve.ensures.ok);
    }

pub invariant_of-self-2 : goal.invariant_of-self-2
invariant_of-self-2 c =
    let s = (goal.at.invariant_of-self-2 c).In-Ok-reserve in
    let v : EngineView = c.args.self.now in
    let b : Batch = own s in
    let m = made s in
    let w : EngineView = seen c.self.inside.cleared c.self.inside.batches.batches c.self.inside.next_number c.self.inside.arbiter in
    let e : w ≡ v = c.self.view_is in
    let room : ℕ = c.reserve.new.self.room in
    let items : c.add.new.self.batches ≡ c.self.inside.batches.batches ++ b ∷ [] = ap (λ (r : BatchList). r.batches) c.in-Ok-add.ensures.added in
    let counted : c.needs_with-needs.result ≡ needs_of_all w.cleared (w.batches ++ b ∷ []) =
    c.needs_with-needs.ensures (tree_at v.cleared c.args.recipe c.args.units) m.runs ∙ sym (needs-added v.cleared v.batches b) ∙ sym (ap (λ (z : EngineView). needs_of_all z.cleared (z.batches ++ b ∷ [])) e) in
    let inside : IsKept (with w (w.batches ++ b ∷ []) (w.next_number + 1) (record (w.allocation) { room = room })) =
    subst (λ (z : EngineView). IsKept (with z (z.batches ++ b ∷ []) (z.next_number + 1) (record (z.allocation) { room = room }))) (sym e)
    (create-kept v m.kept c.args.recipe c.requires.0 c.args.size c.requires.1 c.args.units c.args.values c.requires.2 b room m.number refl m.runs m.new m.enough) in
    record {
      kept = subst (λ (a : Allocation). IsKept (seen c.self.inside.cleared c.add.new.self.batches (c.self.inside.next_number + 1) a)) (sym c.in-Ok-reserve.ensures.rest)
          (subst (λ (bs : List Batch). IsKept (seen c.self.inside.cleared bs (c.self.inside.next_number + 1) (record (c.self.inside.arbiter) { room = room }))) (sym items) inside);
      numbers = subst HaveOwnNumbers (sym c.in-Ok-add.ensures.added) (own-numbers-push c.self.inside.batches b c.self.invariant.numbers);
      needs_are = counted ∙ sym (ap (needs_of_all w.cleared) items);
    }

pub returns : goal.returns
returns c = λ name pairs o.
    let s = (goal.at.returns c).In-Ok-reserve in
    let v : EngineView = c.args.self.now in
    let b : Batch = own s in
    let m = made s in
    let room : ℕ = c.reserve.new.self.room in
    let told = roles_taken v.cleared c.args.recipe c.args.units in
    let reacts : Reacts (setup v.cleared) (plant_of v) (Events.create name c.args.size pairs) (Events.created v.next_number (recipe_at v.cleared c.args.recipe c.args.units).name c.args.size told)
    (plant_of (with v (v.batches ++ b ∷ []) (v.next_number + 1) (record (v.allocation) { room = room }))) =
    create-reacts v m.kept c.args.recipe name c.args.size pairs c.args.units c.args.values o b room m.number refl m.runs m.new m.enough in
    let same : plant_of (seen c.self.inside.cleared c.add.new.self.batches (c.self.inside.next_number + 1) c.reserve.new.self)
    ≡ plant_of (with v (v.batches ++ b ∷ []) (v.next_number + 1) (record (v.allocation) { room = room })) =
    ap₂ (λ (bs : List Batch) (a : Allocation). plant_of (seen c.self.inside.cleared bs (c.self.inside.next_number + 1) a)) (ap (λ (r : BatchList). r.batches) c.in-Ok-add.ensures.added) c.in-Ok-reserve.ensures.rest
    ∙ ap (λ (z : EngineView). plant_of (with z (z.batches ++ b ∷ []) (z.next_number + 1) (record (z.allocation) { room = room }))) c.self.view_is in
    let document = some-at v.cleared.recipes c.args.recipe c.requires.2.chosen.known in
    let called : recipe_name v.cleared c.args.recipe ≡ (recipe_at v.cleared c.args.recipe c.args.units).name = recipe-named v.cleared c.args.recipe document.0 document.1 (bound_to v.cleared c.args.recipe c.args.units) in
    record {
      cleared = ap (λ (z : EngineView). z.cleared) c.self.view_is;
      reacts = subst (λ (called : Name). Reacts (setup v.cleared) (plant_of v) (Events.create name c.args.size pairs) (Events.created b.number called c.args.size told) (plant_of (seen c.self.inside.cleared c.add.new.self.batches (c.self.inside.next_number + 1) c.reserve.new.self))) (sym called)
          (subst (λ n. Reacts (setup v.cleared) (plant_of v) (Events.create name c.args.size pairs) (Events.created n (recipe_at v.cleared c.args.recipe c.args.units).name c.args.size told) (plant_of (seen c.self.inside.cleared c.add.new.self.batches (c.self.inside.next_number + 1) c.reserve.new.self)))
          (sym m.number)
          (subst (Reacts (setup v.cleared) (plant_of v) (Events.create name c.args.size pairs) (Events.created v.next_number (recipe_at v.cleared c.args.recipe c.args.units).name c.args.size told)) (sym same) reacts));
    }
