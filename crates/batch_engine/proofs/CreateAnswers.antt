-- The engine's answers to a create: why it is refused, and when it makes a batch.
use Rattle.std.proofs.Common.{◌≡◌, refl, sym, ◌∙◌, ap, subst, ℕ, List, [], true, false, Option, Some, None, inl, inr, find}
use Rattle.std.{specs.Prelude.◌↔◌, specs.Prelude.IsTrue, specs.Prelude.slice_get, specs.Prelude.option_map, specs.Prelude.position, specs.Prelude.unwrap_or, specs.Prelude.Err, proofs.lemmas.Option.slice_get_within}
use Rattle.batch_recipe.{specs.Conditions.Name, specs.Conditions.ValueList, specs.Conditions.same_name, specs.Formula.quantities_of, specs.declared.quantity.Quantity.Quantity, proofs.ValueUpdates.same-at}
use Rattle.batch_recipe.specs.declared.recipe.Recipe as document
use Rattle.batch_model.specs.{Plant.Formula, Plant.Master, Plant.scaled, Plant.size_out_of_range, Plant.value_out_of_range, Recipes.formula_of, Setups.master_of, Moves.next, Events.Event, Events.create, Events.refused, Events.unknown_recipe, Events.full, Events.bad_binding, Events.bad_size, Events.bad_value, Events.no_memory, Events.is_full, Events.is_binding, Events.bound_by, Events.roles_told, Events.creating, Events.react, Events.Answer, Runs.Reacts, Runs.IsCreated}
use Rattle.batch_model.specs.Events as Events
use Rattle.batch_engine.{specs.Answered.MayWant, specs.Bindings.AreTaken, specs.Bindings.roles_in, specs.Creates.IsChosen, specs.Creates.IsCreate, specs.Creates.IsRefusedFor, specs.Names.name_of_value, specs.Names.quantity_name, specs.Names.value_name, specs.Values.IsValuesFor, specs.Values.is_want, specs.Values.refusal_for, specs.declared.refusal.Refusal.Refusal, specs.declared.creates.BadValues.BadValues, specs.declared.creates.BadValues.TheVariants.Size, specs.declared.creates.BadValues.TheVariants.OutOfRange, specs.declared.creates.BadValues.TheVariants.Memory, specs.View.EngineView, specs.View.setup, specs.View.master_at, specs.View.plant_of, proofs.RolePairs.units-for, proofs.NewBatch.create-full, proofs.NewBatch.create-unbound, proofs.NewBatch.create-unknown, proofs.NewBatch.judge-values, proofs.NewBatch.react-create, proofs.BatchLookups.master-found, proofs.RecipeByName.find-at, proofs.RecipeByName.find-nowhere}
use Rattle.batch_engine.specs.Surface as Surface
use Rattle.batch_engine.specs.declared.refusal.Refusal.TheVariants as Refusals

same-refusal : (x y : Events.Refusal) → refused x ≡ refused y → x ≡ y
same-refusal x y is = cc is

-- an event that is refused with memory isn't refused for want of it
has-memory : (v : EngineView) (e : Event) (x : Events.Refusal) → react (setup v.cleared) (plant_of v) e ≡ (refused x, plant_of v) → (x ≡ no_memory → ⊥) → MayWant v e → ⊥
has-memory v e x says other (inl wants) = other (same-refusal x no_memory (ap (λ (a : Answer). a.0) (sym says ∙ wants)))
has-memory v e x says other (inr wants) = subst (λ (a : Answer). IsCreated a.0) says wants.0

-- The choice of a recipe and units

module _ (v : EngineView) (name : Name) (pairs : List (Name × Name)) (settled : next (setup v.cleared) (plant_of v) ≡ None) where
  pub refused-unknown : position (λ (r : document.Recipe). same_name r.acts.procedure.name name) v.cleared.recipes ≡ None
      → (size : ℕ) → IsRefusedFor v (create name size pairs) Refusals.UnknownRecipe
  refused-unknown none size = record {
    says = create-unknown v name size pairs settled (find-nowhere (master_of v.cleared.cell) (λ (m : Master). same_name m.name name) v.cleared.recipes none);
    has_memory = λ is. (let clash : unknown_recipe ≡ no_memory = is in absurd (cc clash));
  }

  module _ (k : ℕ) (r : document.Recipe) (at : position (λ (r : document.Recipe). same_name r.acts.procedure.name name) v.cleared.recipes ≡ Some k)
      (read : slice_get v.cleared.recipes k ≡ Some r) where
    master-is : master_at v.cleared k ≡ master_of v.cleared.cell r
    master-is = master-found v.cleared k r read

    named : find (λ (m : Master). same_name m.name name) (setup v.cleared).recipes ≡ Some (master_at v.cleared k)
    named =
        let f = find-at (master_of v.cleared.cell) (λ (m : Master). same_name m.name name) v.cleared.recipes k at in
        f.2 ∙ ap (λ (z : document.Recipe). Some (master_of v.cleared.cell z)) (same-at v.cleared.recipes k f.0 r f.1 read) ∙ ap Some (sym master-is)

    pub refused-full : is_full (setup v.cleared) (plant_of v) ≡ true → (size : ℕ) → IsRefusedFor v (create name size pairs) Refusals.Full
    refused-full e size = record {
      says = create-full v name size pairs settled (master_at v.cleared k) named e;
      has_memory = λ is. (let clash : full ≡ no_memory = is in absurd (cc clash));
    }

    module _ (free : is_full (setup v.cleared) (plant_of v) ≡ false) where
      pub refused-binding : is_binding (roles_in v.cleared.cell r.roles.items) pairs ≡ false → (size : ℕ) → IsRefusedFor v (create name size pairs) Refusals.BadBinding
      refused-binding bad size = record {
        says = create-unbound v name size pairs settled (master_at v.cleared k) named free (subst (λ (m : Master). is_binding m.roles pairs ≡ false) (sym master-is) bad);
        has_memory = λ is. (let clash : bad_binding ≡ no_memory = is in absurd (cc clash));
      }

      pub is-chosen : (units : List ℕ) → AreTaken v.cleared.cell r.roles.items pairs units → IsChosen v k name pairs units
      is-chosen units taken = record {
        known = slice_get_within v.cleared.recipes k r read;
        found = named;
        free = free;
        taken = units-for v.cleared pairs k r read units taken;
      }

-- A batch of the size

module _ (v : EngineView) (name : Name) (size : ℕ) (pairs : List (Name × Name)) (k : ℕ) (r : document.Recipe) (settled : next (setup v.cleared) (plant_of v) ≡ None)
    (read : slice_get v.cleared.recipes k ≡ Some r) (units : List ℕ) (chosen : IsChosen v k name pairs units) where
  formula-is : ((master_at v.cleared k).control (bound_by pairs)).formula size ≡ formula_of r size
  formula-is = ap (λ (m : Master). (m.control (bound_by pairs)).formula size) (master-found v.cleared k r read)

  refused-so : (f : Formula) (x : Events.Refusal) → formula_of r size ≡ f
      → creating (plant_of v) ((master_at v.cleared k).control (bound_by pairs)) size (roles_told (master_at v.cleared k).roles (bound_by pairs)) f ≡ (refused x, plant_of v)
      → react (setup v.cleared) (plant_of v) (create name size pairs) ≡ (refused x, plant_of v)
  refused-so f x e is = judge-values v name size pairs settled (master_at v.cleared k) chosen.found f chosen.free chosen.taken.binds (formula-is ∙ e) ∙ is

  -- the value is told by its number
  refused-number : (n : ℕ) (q : Quantity) → slice_get (quantities_of r) n ≡ Some q → formula_of r size ≡ value_out_of_range q.name
      → Reacts (setup v.cleared) (plant_of v) (create name size pairs) (refused (bad_value (value_name v.cleared k n))) (plant_of v)
  refused-number n q there e =
      let called : value_name v.cleared k n ≡ q.name =
      ap (λ (m : Option document.Recipe). unwrap_or (option_map (name_of_value n) m) []) read
      ∙ ap (λ (m : Option Quantity). unwrap_or (option_map quantity_name m) []) there in
      subst (λ (x : Name). Reacts (setup v.cleared) (plant_of v) (create name size pairs) (refused (bad_value x)) (plant_of v)) (sym called)
      (inl (refused-so (value_out_of_range q.name) (bad_value q.name) e refl))

  pub can-create : (vs : ValueList) → formula_of r size ≡ scaled vs → IsCreate v k name size pairs units vs
  can-create vs e = record {
    settled = settled;
    chosen = chosen;
    formula = ap (λ bound. ((master_at v.cleared k).control bound).formula size) (sym chosen.taken.bound) ∙ formula-is ∙ e;
  }

  refused-memory : (vs : ValueList) → formula_of r size ≡ scaled vs → MayWant v (create name size pairs)
  refused-memory vs e = inr (subst (λ (a : Answer). IsCreated a.0) (sym (react-create v k name size pairs units vs (can-create vs e))) tt, refl, refl)

  pub refused-for : (bad : BadValues) → IsValuesFor r size (Err bad)
      → Reacts (setup v.cleared) (plant_of v) (create name size pairs) (refused (Surface.refusal_of v.cleared (refusal_for k bad))) (plant_of v)
  refused-for Size h = inl (refused-so size_out_of_range bad_size h refl)
  refused-for (OutOfRange n) h = refused-number n h.0 h.1 h.2
  refused-for Memory h = refused-memory h.0 h.1

  -- of a create alone that would make a batch want of memory may be the answer
  pub wants-if : ((vs : ValueList) × (formula_of r size ≡ scaled vs)) ↔ MayWant v (create name size pairs)
  wants-if = (λ scales. refused-memory scales.0 scales.1, λ wants. go wants (formula_of r size) refl)
    where
      go : MayWant v (create name size pairs) → (f : Formula) → formula_of r size ≡ f → (vs : ValueList) × (formula_of r size ≡ scaled vs)
      go wants size_out_of_range e =
          absurd (has-memory v (create name size pairs) bad_size (refused-so size_out_of_range bad_size e refl) (λ is. absurd (cc is)) wants)
      go wants (value_out_of_range value) e =
          absurd (has-memory v (create name size pairs) (bad_value value) (refused-so (value_out_of_range value) (bad_value value) e refl) (λ is. absurd (cc is)) wants)
      go wants (scaled vs) e = (vs, e)

-- an event that is refused so isn't refused for want of memory
pub refused-otherwise : (v : EngineView) (e : Event) (x : Refusal) → IsRefusedFor v e x → MayWant v e → ⊥
refused-otherwise v e x r wants = has-memory v e (Surface.refusal_of v.cleared x) r.says r.has_memory wants

-- of a size that has no values no memory is wanted
pub values-if : (r : document.Recipe) (size : ℕ) (bad : BadValues) → IsValuesFor r size (Err bad)
    → IsTrue (is_want bad) ↔ ((vs : ValueList) × (formula_of r size ≡ scaled vs))
values-if r size Size h = (λ is. absurd (cc is), λ made. (let clash : size_out_of_range ≡ scaled made.0 = sym h ∙ made.1 in absurd (cc clash)))
values-if r size (OutOfRange n) h =
    (λ is. absurd (cc is), λ made. (let clash : value_out_of_range h.0.name ≡ scaled made.0 = sym h.2 ∙ made.1 in absurd (cc clash)))
values-if r size Memory h = (λ is. h, λ made. refl)
