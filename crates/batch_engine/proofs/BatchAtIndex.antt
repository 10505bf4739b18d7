-- The batch at an index of an engine, and the recipe of its chart. A call sees the fields of the engine v as w.
use Rattle.std.proofs.Common.{◌≡◌, ◌<◌, refl, sym, ◌∙◌, ap, subst, ℕ, Some, arith, get_or, length, nat_eq}
use Rattle.std.{specs.Prelude.position, specs.Prelude.slice_get, proofs.lemmas.Option.slice_get_read, proofs.lemmas.Option.slice_get_within}
use Rattle.batch_model.specs.Moves as Moves
use Rattle.batch_model.specs.{Moves.after_move, Events.order, Events.ordered, Plant.batch_at, Runs.Reacts}
use Rattle.batch_matrix.specs.{Matrix.target, declared.command.Command.Command}
use Rattle.batch_recipe.{specs.Nodes.node_count, specs.declared.entry.Entry.Entry, proofs.ValueUpdates.same-at}
use Rattle.batch_recipe.specs.declared.recipe.Recipe as document
use Rattle.batch_set.specs.{Linking.IsLinkedSet, declared.linked.LinkedRecipe.LinkedRecipe, declared.linked_set.LinkedSet.LinkedSet}
use Rattle.batch_verify.specs.ClearedSet.{ClearedSet}
use Rattle.batch_arbiter.specs.Allocation.{Allocation}
use Rattle.batch_chart.specs.{Charts.CanMake, Charts.IsChartOf, Charts.IsRunning, Charts.IsRunningOf, NodesOf.step_at, Passing.IsBatchOf, Passing.IsTreeOf, declared.chart_move.Move.Move}
use Rattle.batch_engine.{specs.Batches.BatchList, specs.Batches.with_batch_at, specs.declared.batch.Batch.Batch, specs.View.EngineView, specs.View.model_batch, specs.View.bound_to, specs.View.plant_of, specs.View.seen, specs.View.setup, specs.View.tree_of, specs.Kept.IsCounted, specs.Kept.IsKept, specs.Orders.IsOrdered, specs.Steps.IsMover, specs.Steps.IsNeedAt, specs.Steps.IsNext, specs.Steps.IsOwnStep, specs.Steps.Makes, proofs.BatchPlaces.made_by, proofs.SlabChanges.own-numbers-set, proofs.BatchLookups.batch-runs, proofs.BatchLookups.chart-here, proofs.BatchLookups.got-batch, proofs.BatchLookups.got-chart, proofs.BatchLookups.in-charts, proofs.BatchLookups.runs-here, proofs.EngineAfterMove.Becomes, proofs.EngineAfterMove.same-next, proofs.AcceptedOrders.Ordered, proofs.Room.needs-set, proofs.BatchByNumber.found-at, proofs.InvariantAfterMove.changed, proofs.MoveLines.tree-is}

-- the batch at an index, and the invariant of the engine
pub record IsRead (v : EngineView) (i : ℕ) (b : Batch) : Type 0 where
  pub kept : IsKept v
  pub at : slice_get v.batches i ≡ Some b

pub read-at : {v w : EngineView} {i : ℕ} {b : Batch} → w ≡ v → IsKept w → i < length v.batches → b ≡ get_or w.batches i b → IsRead v i b
read-at {v} {w} {i} {b} e k few h = record { kept = subst IsKept e k; at = got-batch v w i b e few h }

-- that is handed over
pub read-own : {v w : EngineView} {i : ℕ} {b : Batch} → w ≡ v → IsKept w → slice_get v.batches i ≡ Some b → IsRead v i b
read-own e k at = record { kept = subst IsKept e k; at = at }

-- where it is known that a batch stands
pub read-there : {v w : EngineView} {i : ℕ} {b d : Batch} → w ≡ v → IsKept w → slice_get v.batches i ≡ Some d → b ≡ get_or w.batches i b → IsRead v i b
read-there {v} {w} {i} {b} {d} e k there h = read-at e k (slice_get_within v.batches i d there) h

pub chart-within : {v w : EngineView} {i : ℕ} {b : Batch} → w ≡ v → IsRead v i b → b.recipe < length w.cleared.recipes
chart-within {v} {w} {i} {b} e r = subst (λ (z : EngineView). b.recipe < length z.cleared.recipes) (sym e) (in-charts v r.kept i b r.at)

-- the batch, and the recipe that its chart runs
pub record IsSeat (v : EngineView) (i : ℕ) (b : Batch) (x : document.Recipe) : Type 0 where
  pub kept : IsKept v
  pub at : slice_get v.batches i ≡ Some b
  pub listed : slice_get v.cleared.recipes b.recipe ≡ Some x
  pub chart : IsChartOf (tree_of v.cleared b) x
  pub runs : IsRunningOf (tree_of v.cleared b) b.running
  pub running : IsRunning x b.running

pub seat-of : {v w : EngineView} {i : ℕ} {b : Batch} {x : document.Recipe} → w ≡ v → IsRead v i b → slice_get w.cleared.recipes b.recipe ≡ Some x → IsSeat v i b x
seat-of {v} {w} {i} {b} {x} e r h =
    let listed : slice_get v.cleared.recipes b.recipe ≡ Some x = got-chart v w b.recipe x e h in
    record {
      kept = r.kept;
      at = r.at;
      listed = listed;
      chart = chart-here v r.kept i b r.at x listed;
      runs = (batch-runs v r.kept i b r.at).runs;
      running = runs-here v r.kept i b r.at x listed;
    }

-- it is a batch of the recipe's tree
pub recipe-tree : {v : EngineView} {i : ℕ} {b : Batch} {x : document.Recipe} → IsSeat v i b x → IsTreeOf x (tree_of v.cleared b)
recipe-tree {v} {i} {b} {x} s = (bound_to v.cleared b.recipe b.units, tree-is v.cleared b.recipe x s.listed b.units)

pub recipe-batch : {v : EngineView} {i : ℕ} {b : Batch} {x : document.Recipe} → IsSeat v i b x → IsBatchOf x (tree_of v.cleared b) (model_batch v.cleared b)
recipe-batch {v} {i} {b} {x} s = record { bound = bound_to v.cleared b.recipe b.units; tree = tree-is v.cleared b.recipe x s.listed b.units; follows = refl }

-- The batch that makes the next move
pub mover-at : {v w : EngineView} {i : ℕ} {b : Batch} {m : Move} → w ≡ v → IsKept w → IsOwnStep v (IsNext v) i m → slice_get v.batches i ≡ Some b → IsMover v i b m
mover-at {v} {w} {i} {b} {m} e k g at =
    subst (λ (z : Batch). IsMover v i z m) (same-at v.batches i g.batch b g.here.at at)
    (record {
      kept = subst IsKept e k;
      at = g.here.at;
      can = λ x f. subst (λ (z : document.Recipe). CanMake z g.batch.running m) (same-at v.cleared.recipes g.batch.recipe g.chart x g.here.listed f) g.can;
      about = g.about;
      is = g.is;
    })

pub mover : {v w : EngineView} {i : ℕ} {b : Batch} {m : Move} → w ≡ v → IsKept w → IsOwnStep v (IsNext v) i m → b ≡ get_or w.batches i b → IsMover v i b m
mover e k g h = mover-at e k g (read-there e k g.here.at h).at

-- The batch with a number

pub record IsFound (v : EngineView) (n i : ℕ) (b : Batch) : Type 0 where
  pub kept : IsKept v
  pub at : slice_get v.batches i ≡ Some b
  pub number : b.number ≡ n
  pub is : batch_at (plant_of v) n ≡ Some (model_batch v.cleared b)

pub found-here : {v w : EngineView} {n i : ℕ} {b : Batch} → w ≡ v → IsKept w → position (λ (d : Batch). nat_eq d.number n) v.batches ≡ Some i → b ≡ get_or w.batches i b → IsFound v n i b
found-here {v} {w} {n} {i} {b} e k p h =
    let f = found-at v n i p in
    let r : IsRead v i b = read-there e k f.at h in
    let same : f.batch ≡ b = same-at v.batches i f.batch b f.at r.at in
    record {
      kept = r.kept;
      at = r.at;
      number = subst (λ (z : Batch). z.number ≡ n) same f.number;
      is = subst (λ (z : Batch). batch_at (plant_of v) n ≡ Some (model_batch v.cleared z)) same f.is;
    }

-- The act at a node of the batch

-- if a move of it gives back a need, passes it on, or asks for it
pub needs-there : {v : EngineView} {set : LinkedSet} {x : document.Recipe} {node need : ℕ} {b : Batch} (i : ℕ) → IsLinkedSet v.cleared.cell v.cleared.recipes set → IsKept v → slice_get v.batches i ≡ Some b
    → slice_get v.cleared.recipes b.recipe ≡ Some x → node < node_count (tree_of v.cleared b) → need < length (step_at (tree_of v.cleared b) node).needs → IsNeedAt v set x b node need
needs-there i linked k at listed few less = record { kept = k; linked = linked; index = i; at = at; listed = listed; few = few; less = less }

-- the recipes of the engine are linked so
pub linked-here : {v w : EngineView} {set : LinkedSet} → w ≡ v → IsLinkedSet w.cleared.cell w.cleared.recipes set → IsLinkedSet v.cleared.cell v.cleared.recipes set
linked-here {v} {w} {set} e h = subst (λ (z : EngineView). IsLinkedSet z.cleared.cell z.cleared.recipes set) e h

-- its linked recipe is among them
pub linked-within : {v : EngineView} {set : LinkedSet} {i : ℕ} {b : Batch} → IsLinkedSet v.cleared.cell v.cleared.recipes set → IsRead v i b → b.recipe < length set.recipes.items
linked-within {v} {set} {i} {b} linked r = omega (arith, (batch-runs v r.kept i b r.at).known, linked.linked.count)

-- as it is read
pub linked-read : {v : EngineView} {set : LinkedSet} {i q : ℕ} {b : Batch} {x : LinkedRecipe} → IsLinkedSet v.cleared.cell v.cleared.recipes set → IsRead v i b → q ≡ b.recipe → x ≡ get_or set.recipes.items q x
    → slice_get set.recipes.items b.recipe ≡ Some x
linked-read {v} {set} {i} {q} {b} {x} linked r is h =
    slice_get_read set.recipes.items (length set.recipes.items) b.recipe x refl (linked-within linked r) (h ∙ ap (λ j. get_or set.recipes.items j x) is)

-- an entry of its recipe is among them, as it is read
pub entry-within : {v : EngineView} {i node : ℕ} {b : Batch} {x : document.Recipe} → IsRead v i b → slice_get v.cleared.recipes b.recipe ≡ Some x → node < node_count (tree_of v.cleared b) → node < length x.outline.entries.items
entry-within {v} {i} {node} {b} {x} r listed few = omega (arith, few, (chart-here v r.kept i b r.at x listed).count)

pub entry-read : {v : EngineView} {i node k : ℕ} {b : Batch} {x : document.Recipe} {e : Entry} → IsRead v i b → slice_get v.cleared.recipes b.recipe ≡ Some x → node < node_count (tree_of v.cleared b)
    → k ≡ node → e ≡ get_or x.outline.entries.items k e → slice_get x.outline.entries.items node ≡ Some e
entry-read {v} {i} {node} {k} {b} {x} {e} r listed few is h =
    slice_get_read x.outline.entries.items (length x.outline.entries.items) node e refl (entry-within r listed few) (h ∙ ap (λ j. get_or x.outline.entries.items j e) is)

-- Once another batch of its number, its recipe and its units stands there

-- the invariant of the fields, where f changed the arbiter
pub counted-set : {v : EngineView} {c : ClearedSet} {r : BatchList} {n needs : ℕ} {a a' : Allocation} {b : Batch} (i : ℕ) (b' : Batch) (f : Allocation → Allocation)
    → seen c r.batches n a ≡ v → IsCounted r needs (seen c r.batches n a) → b ≡ get_or r.batches i b → b'.number ≡ b.number → made_by b' ≡ made_by b
    → a' ≡ f a → IsKept (changed v i b' (f v.allocation)) → IsCounted (with_batch_at i r b') needs (changed (seen c r.batches n a) i b' a')
counted-set {v} {c} {r} {n} {needs} {a} {a'} {b} i b' f e h at number made is k =
    record {
      kept = subst (λ (z : Allocation). IsKept (changed (seen c r.batches n a) i b' z)) (sym is) (subst (λ (z : EngineView). IsKept (changed z i b' (f z.allocation))) (sym e) k);
      numbers = own-numbers-set r i b b' at number h.numbers;
      needs_are = needs-set c r i b b' at made needs h.needs_are;
    }

-- the plant
plant-set : (v w : EngineView) (i : ℕ) (b' : Batch) (a' : Allocation) (f : Allocation → Allocation) → w ≡ v → a' ≡ f w.allocation → plant_of (changed w i b' a') ≡ plant_of (changed v i b' (f v.allocation))
plant-set v w i b' a' f e is = ap (λ (z : Allocation). plant_of (changed w i b' z)) is ∙ ap (λ (z : EngineView). plant_of (changed z i b' (f z.allocation))) e

-- by the next move
pub closed-makes : {v w : EngineView} {a' : Allocation} {m : Moves.Move} (i : ℕ) (b' : Batch) (f : Allocation → Allocation) → w ≡ v → a' ≡ f w.allocation
    → Becomes v (changed v i b' (f v.allocation)) m → IsNext v m → (l : Moves.Move) → IsNext v l → Makes v (changed w i b' a') l
closed-makes {v} {w} {a'} {m} i b' f e is r next l also =
    record {
      cleared = ap (λ (z : EngineView). z.cleared) e;
      plant = plant-set v w i b' a' f e is ∙ r.plant ∙ ap (after_move (plant_of v)) (same-next v m l next also);
    }

-- by an order
pub closed-ordered : {v w : EngineView} {a' : Allocation} {command : Command} {n : ℕ} (i : ℕ) (b' : Batch) (f : Allocation → Allocation) → w ≡ v → a' ≡ f w.allocation
    → Ordered v (changed v i b' (f v.allocation)) command n → IsOrdered v command n (changed w i b' a')
closed-ordered {v} {w} {a'} {command} {n} i b' f e is r =
    record {
      cleared = ap (λ (z : EngineView). z.cleared) e;
      reacts = subst (Reacts (setup v.cleared) (plant_of v) (order command n) (ordered command n (target command))) (sym (plant-set v w i b' a' f e is)) r.reacts;
    }
