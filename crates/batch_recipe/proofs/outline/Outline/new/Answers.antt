use Rattle.std.proofs.Common.{◌≡◌, ℕ, ◌+◌, ◌<◌, ◌++◌, List, length, Some, Err, Result, IsErrOf, ap, ◌∙◌, subst, arith}
use Rattle.std.proofs.lemmas.Result.{err_from_is_err_and}
use Rattle.batch_recipe.{specs.Expanding.unbound, specs.Growing.HasGrown, specs.Growing.act_entries, specs.Growing.act_conditions, specs.declared.acts.LabelTable.TheVariants.UnitProcedures, specs.declared.condition.Condition.Condition, specs.declared.entry.Entry.Entry, specs.declared.outline.Outline.Outline, specs.declared.outline_fault.OutlineFault.OutlineFault, specs.declared.outline_fault.OutlineFault.TheVariants.TooMany, proofs.OutlineLinks.as_many_entries, proofs.EntryShapes.is_outline}
use Rattle.batch_recipe.specs.declared.entry.Kind.TheVariants as kind
use Rattle.batch_recipe.proofs.outline.Outline.new.Goals as goal

the_fault : (f : OutlineFault) → IsErrOf {T = Outline} (Err f) TooMany → f ≡ TooMany
the_fault f h = cc

pub returns-in_err-grow_act-clause-many : goal.returns-in_err-grow_act-clause-many
returns-in_err-grow_act-clause-many c = λ h.
    let acts = c.args.acts.now in
    let p = err_from_is_err_and c.from_residual.result c.from_residual.ensures.1 in
    let is : c.in_err-grow_act.field-0.0 ≡ TooMany = the_fault c.in_err-grow_act.field-0.0 (subst (λ (r : Result Outline OutlineFault). IsErrOf r TooMany) (p.1 ∙ ap Err p.2) h) in
    let entries : ℕ → ℕ → List Entry = λ n j. act_entries acts (Some UnitProcedures) kind.Procedure 0 n j 0 0 acts.procedure in
    let many : 4096 < length c.new-entries.result.items + length (entries (length c.new-entries.result.items) (length c.new-conditions.result.items)) =
    subst (λ (f : OutlineFault). HasGrown c.new-entries.result.items (entries (length c.new-entries.result.items) (length c.new-conditions.result.items)) c.grow_act.new.nodes.items (Err f)) is c.in_err-grow_act.ensures.grown in
    let none = ap (λ xs. length {A = Entry} xs + length (entries (length xs) (length c.new-conditions.result.items))) c.new-entries.ensures.items in
    let nothing = ap (λ xs. length (entries 0 (length {A = Condition} xs))) c.new-conditions.ensures.items in
    omega (arith, many, none, nothing, as_many_entries acts (entries 0 0) (is_outline acts) unbound)

pub returns-clause-ok : goal.returns-clause-ok
returns-clause-ok c =
    let acts = c.args.acts.now in
    let entries : ℕ → ℕ → List Entry = λ n j. act_entries acts (Some UnitProcedures) kind.Procedure 0 n j 0 0 acts.procedure in
    c.in_ok-grow_act.ensures.grown.0 ∙ (ap (λ xs. xs ++ entries (length xs) (length c.new-conditions.result.items)) c.new-entries.ensures.items ∙ ap (λ xs. entries 0 (length {A = Condition} xs)) c.new-conditions.ensures.items)

pub returns-clause-conditions : goal.returns-clause-conditions
returns-clause-conditions c =
    let acts = c.args.acts.now in
    c.in_ok-grow_act.ensures.added ∙ ap (λ xs. xs ++ act_conditions acts (Some UnitProcedures) acts.procedure) c.new-conditions.ensures.items
