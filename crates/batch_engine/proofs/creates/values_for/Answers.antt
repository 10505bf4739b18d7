use Rattle.std.proofs.Common.{◌≡◌, refl, sym, ◌∙◌, ap, subst, ℕ}
use Rattle.std.specs.Prelude.{IsSomeAnd, Err}
use Rattle.batch_recipe.specs.{Conditions.Name, declared.fault.FormulaFault.FormulaFault, Formula.IsOutOfRange, declared.quantity.Quantity.Quantity, declared.recipe.Recipe.Recipe}
use Rattle.batch_model.specs.Plant.{scaled}
use Rattle.batch_engine.proofs.Formulas.{formula-sized, formula-fits, no-fault, outside-number, outside-value}
use Rattle.batch_engine.proofs.creates.values_for.Goals as goal

pub returns-in-Ok : goal.returns-in-Ok
returns-in-Ok c =
    let r : Recipe = c.args.recipe.now in
    let size : ℕ = c.args.size in
    formula-fits r size (λ f. no-fault c.in-Ok.values FormulaFault.Size (c.in-Ok.ensures.size.1 f)) (λ t q o. (let n = outside-number r size q o in (c.in-Ok.ensures.outside n.0 q.name).1 (t, n.1, subst (λ m. IsSomeAnd m (λ (z : Quantity). z.name ≡ q.name)) (sym o) refl))) ∙ ap scaled (sym c.in-Ok.ensures.ok)

pub returns-in-Err-OutOfRange : goal.returns-in-Err-OutOfRange
returns-in-Err-OutOfRange c =
    let r : Recipe = c.args.recipe.now in
    let size : ℕ = c.args.size in
    let number : ℕ = c.in-Err-OutOfRange.number in
    let name : Name = c.in-Err-OutOfRange._name.now in
    let h = (c.in-Err-OutOfRange.ensures.outside number name).0 (subst (λ (z : FormulaFault). IsOutOfRange z number name) (sym c.in-Err-OutOfRange.field-0-is) (refl, refl)) in
    outside-value r size number name h.0 h.1 h.2

pub returns-in-Err-Memory : goal.returns-in-Err-Memory
returns-in-Err-Memory c =
    let r : Recipe = c.args.recipe.now in
    let size : ℕ = c.args.size in
    let m = c.in-Err-Memory.ensures.memory (ap Err c.in-Err-Memory.field-0-is) in
    (_, formula-sized r size m.0 m.1)
