-- The next step of the engine is the next move of the plant.
use Rattle.std.proofs.Common.{◌≡◌, ◌<◌, refl, sym, ◌∙◌, ap, subst, ℕ, zero, suc, List, [], ◌∷◌, ◌++◌, Option, Some, None, arith, length, map}
use Rattle.std.{specs.Prelude.slice_get, proofs.lemmas.List.map-append}
use Rattle.batch_model.specs.{Lists.Each, Moves.least, Moves.batch_moves, Moves.next}
use Rattle.batch_model.specs.Plant as Model
use Rattle.batch_model.specs.Moves as Moves
use Rattle.batch_record_laws.proofs.Members.{Each-image}
use Rattle.batch_chart.{specs.OwnMoves.grants, specs.OwnMoves.own_next, specs.Seen.machine_move, proofs.LeastOwnMove.own-first-elim}
use Rattle.batch_engine.{specs.declared.batch.Batch.Batch, specs.declared.step.Step.Step, specs.declared.step.Step.TheVariants.Own, specs.declared.step.Step.TheVariants.Grant, specs.View.EngineView, specs.View.setup, specs.View.model_batch, specs.View.plant_of, specs.View.tree_of, specs.Kept.IsKept, specs.Marked.HasNoMove, specs.Steps.IsStep, specs.Steps.IsLeastAt, specs.Steps.IsNext, proofs.NextMove.next-first, proofs.NextMove.next-none, proofs.RecordOfPlant.standing}
use Rattle.batch_step_laws.proofs.MoveOrder.{none_least}

pub step-map : (v : EngineView) (P Q : Moves.Move → Type 0) → ((m : Moves.Move) → P m → Q m) → (s : Step) → IsStep v P s → IsStep v Q s
step-map v P Q f (Own i m) g = record { batch = g.batch; chart = g.chart; here = g.here; can = g.can; about = g.about; is = f (machine_move (tree_of v.cleared g.batch) (model_batch v.cleared g.batch) m) g.is }
step-map v P Q f (Grant i node resource units) g =
    record {
      batch = g.batch;
      chart = g.chart;
      here = g.here;
      waits = g.waits;
      need = g.need;
      asks = g.asks;
      number = g.number;
      units_are = g.units_are;
      first = g.first;
      is = f _ g.is;
    }

split-at : {X : Type 0} (P : X → Type 0) (xs : List X) (i : ℕ) (x : X) → slice_get xs i ≡ Some x → ((j : ℕ) (y : X) → j < i → slice_get xs j ≡ Some y → P y)
    → (front : List X) × (back : List X) × (xs ≡ front ++ x ∷ back) × Each P front
split-at P [] i x e h = absurd cc
split-at P (y ∷ xs) zero x e h = ([], xs, ap (λ z. z ∷ xs) (let f : y ≡ x = cc in f), tt)
split-at P (y ∷ xs) (suc i) x e h =
    let r = split-at P xs i x e (λ j z l f. h (suc j) z (omega arith) f) in
    (y ∷ r.0, r.1, ap (λ zs. y ∷ zs) r.2, (h 0 y (omega arith) refl, r.3))

all-at : {X : Type 0} (P : X → Type 0) (xs : List X) → ((j : ℕ) (y : X) → slice_get xs j ≡ Some y → P y) → Each P xs
all-at P [] h = tt
all-at P (x ∷ xs) h = (h 0 x refl, all-at P xs (λ j y e. h (suc j) y e))

module _ (v : EngineView) (k : IsKept v) where
  abbrev NoMoves : Batch → Type 0
  NoMoves b = batch_moves (setup v.cleared) (plant_of v) (model_batch v.cleared b) ≡ []

  none-at : (j : ℕ) (b : Batch) → slice_get v.batches j ≡ Some b → HasNoMove v j → NoMoves b
  none-at j b e h = subst (λ (z : Batch). batch_moves (setup v.cleared) (plant_of v) (model_batch v.cleared z) ≡ []) (let f : ◌≡◌ {A = Option Batch} (Some h.batch) (Some b) = sym h.at ∙ e in let g : h.batch ≡ b = cc in g) h.none

  -- the least move of the first batch that has one is the next
  pub next-at : (i : ℕ) (m : Moves.Move) → ((j : ℕ) → j < i → HasNoMove v j) → IsLeastAt v i m → IsNext v m
  next-at i m before l =
      let r = split-at (λ b. batch_moves (setup v.cleared) (plant_of v) (model_batch v.cleared b) ≡ []) v.batches i l.batch l.at (λ j b lt e. none-at j b e (before j lt)) in
      next-first (setup v.cleared) (plant_of v) (map (model_batch v.cleared) r.0) (model_batch v.cleared l.batch) (map (model_batch v.cleared) r.1) m (standing v k).numbers
      (ap (map (model_batch v.cleared)) r.2 ∙ map-append (model_batch v.cleared) r.0 (l.batch ∷ r.1))
      (Each-image (λ (b : Model.Batch). batch_moves (setup v.cleared) (plant_of v) b ≡ []) (model_batch v.cleared) r.0 r.3) l.least_is

  -- if no batch has a move there is none
  pub none-next : ((j : ℕ) → j < length v.batches → HasNoMove v j) → next (setup v.cleared) (plant_of v) ≡ None
  none-next h =
      next-none (setup v.cleared) (plant_of v)
      (Each-image (λ (b : Model.Batch). batch_moves (setup v.cleared) (plant_of v) b ≡ []) (model_batch v.cleared) v.batches
      (all-at (λ b. batch_moves (setup v.cleared) (plant_of v) (model_batch v.cleared b) ≡ []) v.batches
      (λ j b e. none-at j b e (h j (Rattle.std.proofs.lemmas.Option.slice_get_within v.batches j b e)))))

pub own-least : (v : EngineView) (i : ℕ) (b : Batch) (m : Moves.Move) → slice_get v.batches i ≡ Some b → own_next (model_batch v.cleared b) ≡ Some m → IsLeastAt v i m
own-least v i b m at e =
    record {
      batch = b;
      at = at;
      least_is = own-first-elim (setup v.cleared) (plant_of v) (model_batch v.cleared b)
          ∙ ap (λ (o : Option Moves.Move). let r : Option Moves.Move = elim o [ Some l ↦ Some l | None ↦ least (grants (setup v.cleared) (plant_of v) (model_batch v.cleared b)) ] in r) e;
    }

pub grant-least : (v : EngineView) (i : ℕ) (b : Batch) (m : Moves.Move) → slice_get v.batches i ≡ Some b → own_next (model_batch v.cleared b) ≡ None
    → least (grants (setup v.cleared) (plant_of v) (model_batch v.cleared b)) ≡ Some m → IsLeastAt v i m
grant-least v i b m at e f =
    record {
      batch = b;
      at = at;
      least_is = own-first-elim (setup v.cleared) (plant_of v) (model_batch v.cleared b)
          ∙ ap (λ (o : Option Moves.Move). let r : Option Moves.Move = elim o [ Some l ↦ Some l | None ↦ least (grants (setup v.cleared) (plant_of v) (model_batch v.cleared b)) ] in r) e ∙ f;
    }

pub no-move : (v : EngineView) (i : ℕ) (b : Batch) → slice_get v.batches i ≡ Some b → own_next (model_batch v.cleared b) ≡ None
    → grants (setup v.cleared) (plant_of v) (model_batch v.cleared b) ≡ [] → HasNoMove v i
no-move v i b at e f =
    record {
      batch = b;
      at = at;
      none = none_least (batch_moves (setup v.cleared) (plant_of v) (model_batch v.cleared b))
          (own-first-elim (setup v.cleared) (plant_of v) (model_batch v.cleared b)
          ∙ ap (λ (o : Option Moves.Move). let r : Option Moves.Move = elim o [ Some l ↦ Some l | None ↦ least (grants (setup v.cleared) (plant_of v) (model_batch v.cleared b)) ] in r) e
          ∙ ap least f);
    }
