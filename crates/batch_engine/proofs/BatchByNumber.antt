-- The batch with a number.
use Rattle.std.proofs.Common.{◌≡◌, ◌<◌, refl, sym, ◌∙◌, ap, subst, ℕ, zero, suc, List, [], ◌∷◌, Bool, true, false, cond, Option, Some, None, arith, map, find, get_or, nat_eq}
use Rattle.std.{specs.Prelude.option_and_then, specs.Prelude.slice_get, specs.Prelude.position, proofs.lemmas.List.Quantifiers.position-Some, proofs.lemmas.Option.slice_get-get_or}
use Rattle.batch_engine.{proofs.AbsentElements.NonePasses, proofs.AbsentElements.NonePasses-position, specs.declared.batch.Batch.Batch, specs.Batches.HaveOwnNumbers, specs.Batches.IsNewNumber, specs.Batches.BatchList, specs.Batches.own_number, specs.Kept.IsKept, specs.Steps.IsFoundBy, specs.View.EngineView, specs.View.model_batch, specs.View.plant_of, proofs.RecordOfPlant.standing}
use Rattle.batch_model.specs.Plant as Model
use Rattle.batch_model.specs.{Plant.batch_at, Lists.Each, Standing.AreNumbered}
use Rattle.batch_verify.specs.ClearedSet.{ClearedSet}
use Rattle.batch_record_laws.proofs.Entries.{nat_same}

pub found-true : {X : Type 0} (t : Bool) (x y : Option X) → t ≡ true → cond t x y ≡ x
found-true true x y e = refl
found-true false x y e = absurd cc

pub found-false : {X : Type 0} (t : Bool) (x y : Option X) → t ≡ false → cond t x y ≡ y
found-false true x y e = absurd cc
found-false false x y e = refl

find-first : (c : ClearedSet) (n : ℕ) (xs : List Batch) (i : ℕ) (x d : Batch) → slice_get xs i ≡ Some x → nat_eq x.number n ≡ true → ((j : ℕ) → j < i → nat_eq (get_or xs j d).number n ≡ false)
    → find (λ (m : Model.Batch). nat_eq m.number n) (map (model_batch c) xs) ≡ Some (model_batch c x)
find-first c n [] i x d e t h = absurd cc
find-first c n (y ∷ xs) zero x d e t h =
    let f : y ≡ x = cc in
    found-true (nat_eq y.number n) (Some (model_batch c y)) (find (λ (m : Model.Batch). nat_eq m.number n) (map (model_batch c) xs)) (ap (λ (z : Batch). nat_eq z.number n) f ∙ t) ∙ ap (λ (z : Batch). Some (model_batch c z)) f
find-first c n (y ∷ xs) (suc i) x d e t h =
    found-false (nat_eq y.number n) (Some (model_batch c y)) (find (λ (m : Model.Batch). nat_eq m.number n) (map (model_batch c) xs)) (h 0 (omega arith)) ∙ find-first c n xs i x d e t (λ j l. h (suc j) (omega arith))

find-none : (c : ClearedSet) (n : ℕ) (xs : List Batch) → NonePasses (λ (b : Batch). nat_eq b.number n) xs → find (λ (m : Model.Batch). nat_eq m.number n) (map (model_batch c) xs) ≡ None
find-none c n [] h = refl
find-none c n (y ∷ xs) h =
    found-false (nat_eq y.number n) (Some (model_batch c y)) (find (λ (m : Model.Batch). nat_eq m.number n) (map (model_batch c) xs)) (h 0 y (omega arith)) ∙ find-none c n xs (λ k d l. h (suc k) d (omega arith))

pub record Found (v : EngineView) (n i : ℕ) : Type 0 where
  pub batch : Batch
  pub at : slice_get v.batches i ≡ Some batch
  pub number : batch.number ≡ n
  pub is : batch_at (plant_of v) n ≡ Some (model_batch v.cleared batch)

found-in : (c : ClearedSet) (n i : ℕ) (xs : List Batch) → position (λ (b : Batch). nat_eq b.number n) xs ≡ Some i
    → (b : Batch) × (slice_get xs i ≡ Some b) × (b.number ≡ n) × (find (λ (m : Model.Batch). nat_eq m.number n) (map (model_batch c) xs) ≡ Some (model_batch c b))
found-in c n i [] e = absurd (let f : ◌≡◌ {A = Option ℕ} None (Some i) = e in cc)
found-in c n i (y ∷ xs) e =
    let p = position-Some (λ (b : Batch). nat_eq b.number n) (y ∷ xs) i y e in
    let at : slice_get (y ∷ xs) i ≡ Some (get_or (y ∷ xs) i y) = slice_get-get_or (y ∷ xs) i y p.0 in
    (get_or (y ∷ xs) i y, at, nat_same (get_or (y ∷ xs) i y).number n p.1, find-first c n (y ∷ xs) i (get_or (y ∷ xs) i y) y at p.1 p.2)

pub found-at : (v : EngineView) (n i : ℕ) → position (λ (b : Batch). nat_eq b.number n) v.batches ≡ Some i → Found v n i
found-at v n i e = let f = found-in v.cleared n i v.batches e in record { batch = f.0; at = f.1; number = f.2; is = f.3 }

pub none-found : (v : EngineView) (n : ℕ) → position (λ (b : Batch). nat_eq b.number n) v.batches ≡ None → batch_at (plant_of v) n ≡ None
none-found v n e = find-none v.cleared n v.batches (NonePasses-position (λ (b : Batch). nat_eq b.number n) v.batches e)

-- a look-up in the batch with a number
pub looked : {X : Type 0} {v w : EngineView} (n : ℕ) (o : Option Batch) (f : Model.Batch → Option X) → w ≡ v → IsFoundBy w n o
    → option_and_then (λ b. f (model_batch w.cleared b)) o ≡ (let r : Option X = elim (batch_at (plant_of v) n) [ None ↦ None | Some d ↦ f d ] in r)
looked {X} {v} {w} n None f e h =
    sym (ap (λ (z : EngineView). let r : Option X = elim (batch_at (plant_of z) n) [ None ↦ None | Some d ↦ f d ] in r) (sym e) ∙ ap (λ (q : Option Model.Batch). let r : Option X = elim q [ None ↦ None | Some d ↦ f d ] in r) h)
looked {X} {v} {w} n (Some b) f e h =
    sym (ap (λ (z : EngineView). let r : Option X = elim (batch_at (plant_of z) n) [ None ↦ None | Some d ↦ f d ] in r) (sym e) ∙ ap (λ (q : Option Model.Batch). let r : Option X = elim q [ None ↦ None | Some d ↦ f d ] in r) h.1)

numbers-below : (c : ClearedSet) (next : ℕ) (bs : List Batch) → AreNumbered next (map (model_batch c) bs) → Each (λ m. m < next) (map own_number bs)
numbers-below c next [] h = tt
numbers-below c next (b ∷ bs) h = (h.0, numbers-below c next bs h.2)

-- the next number is above those of all batches
pub new-number : (v : EngineView) → IsKept v → (r : BatchList) → r.batches ≡ v.batches → HaveOwnNumbers r → IsNewNumber v.next_number r
new-number v k r same own =
    subst (λ (ns : List ℕ). Each (λ m. m < v.next_number) ns) (sym (own ∙ ap (map own_number) same)) (numbers-below v.cleared v.next_number v.batches (standing v k).numbers)
