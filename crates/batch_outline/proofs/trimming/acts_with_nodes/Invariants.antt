use Rattle.std.proofs.Common.{◌≡◌, ◌<◌, ℕ, Some, false, slice_get}
use Rattle.batch_recipe.specs.declared.entry.Entry.{Entry}
use Rattle.batch_recipe.specs.declared.entry.Kind.TheVariants as kind
use Rattle.batch_outline.proofs.trimming.acts_with_nodes.Given as goal

abbrev pub invariant-loop-entry : goal.invariant-loop-entry
invariant-loop-entry l =
    (number : ℕ) → slice_get l.marks number ≡ Some false → (k : ℕ) (e : Entry) → k < l.entry-index → slice_get l.entries k ≡ Some e
    → ¬ (e.kind ≡ kind.Act l.table number)
