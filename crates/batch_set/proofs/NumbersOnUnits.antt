-- The numbers of a phase on units, one after another.
use Rattle.std.proofs.Common.{◌≡◌, ℕ, List, [], ◌∷◌, ◌++◌, ◌+◌, ◌<◌, length, drop, get_or, Option, sym, ap, ◌∙◌, add-one, drop-cons, append_assoc, arith}
use Rattle.std.specs.Prelude.{position}
use Rattle.batch_cell.specs.{LookUps.phases_of, declared.cell.Cell.Cell, declared.unit.Unit.Unit}
use Rattle.batch_recipe.specs.Conditions.{Name, same_name}
use Rattle.batch_set.specs.Linking.{numbers_on_each}

cut : (units : List Unit) (i : ℕ) (unit : Unit) → i < length units → drop i units ≡ get_or units i unit ∷ drop (i + 1) units
cut units i unit within = drop-cons units i unit within ∙ ap (λ n. get_or units i unit ∷ drop n units) (sym (add-one i))

-- one unit more
pub numbers-next : (cell : Cell) (phase : Name) (units : List Unit) (i : ℕ) (so_far more : List (Option ℕ)) → i < length units → more ≡ so_far ++ position (same_name phase) (phases_of cell i) ∷ []
    → more ++ numbers_on_each cell phase (i + 1) (drop (i + 1) units) ≡ so_far ++ numbers_on_each cell phase i (drop i units)
numbers-next cell phase [] i so_far more within pushed = absurd (omega (arith, within))
numbers-next cell phase (unit ∷ units) i so_far more within pushed =
    ap (λ ns. ns ++ numbers_on_each cell phase (i + 1) (drop (i + 1) (unit ∷ units))) pushed
    ∙ (append_assoc so_far (position (same_name phase) (phases_of cell i) ∷ []) (numbers_on_each cell phase (i + 1) (drop (i + 1) (unit ∷ units)))
    ∙ ap (λ us. so_far ++ numbers_on_each cell phase i us) (sym (cut (unit ∷ units) i unit within)))
