-- The element that is read at an index.
use Rattle.std.proofs.Common.{◌≡◌, subst, ℕ, List, Some, slice_get}
use Rattle.batch_recipe.proofs.ValueUpdates.{same-at}

-- a property of the element at an index holds of each that is read there
pub at-same : {X : Type 0} (xs : List X) (i : ℕ) (x y : X) (P : X → Type 0) → slice_get xs i ≡ Some x → slice_get xs i ≡ Some y → P x → P y
at-same xs i x y P e f h = subst P (same-at xs i x y e f) h
