-- worked rows: the demo cell and its recipe A.
use Rattle.std.specs.Prelude.{ℕ, [], ◌∷◌, Bool, true, false, ◌&&◌, ◌||◌, codes}
use Rattle.batch_recipe.specs.Conditions.{Name, same_name}
use Rattle.batch_recipe.specs.Formula.{is_size}
use Rattle.batch_recipe.specs.Tree.{Phase, Tree, act, runs, follows}
use Rattle.batch_recipe.specs.Needs.{one_unit}
use Rattle.batch_model.specs.Plant.{Formula, size_out_of_range, scaled, Recipe, plain, Setup}
use Rattle.batch_model.specs.declared.limits.TheConstants.{MAX_LIVE_BATCHES}

-- both units offer the three phases
abbrev pub offers : Name → Name → Bool
offers unit phase =
    (same_name unit (codes "R1") || same_name unit (codes "R2"))
    && (same_name phase (codes "ADD") || same_name phase (codes "HEAT") || same_name phase (codes "DRAIN"))

-- two batches may use STEAM at once; a unit and HDR have one user
abbrev pub capacity : Name → ℕ
capacity resource = elim (same_name resource (codes "STEAM")) [ true ↦ 2 | false ↦ 1 ]

-- the recipe has no values
abbrev pub formula : ℕ → Formula
formula size = elim (is_size size) [ true ↦ scaled [] | false ↦ size_out_of_range ]

abbrev pub add : Phase
add = record { unit = codes "R1"; name = codes "ADD"; handed = []; reports = [] }

abbrev pub operation : Tree
operation = act (record { place = 0 ∷ 0 ∷ 0 ∷ []; needs = []; reserves = [] }) (follows (codes "CHARGE") (act (record { place = 0 ∷ 0 ∷ 0 ∷ 0 ∷ []; needs = []; reserves = [] }) (runs add)))

abbrev pub unit_procedure : Tree
unit_procedure = act (record { place = 0 ∷ 0 ∷ []; needs = one_unit (codes "R1") ∷ []; reserves = [] }) (follows (codes "MAKE") operation)

abbrev pub procedure : Tree
procedure = act (record { place = 0 ∷ []; needs = []; reserves = [] }) (follows (codes "A") unit_procedure)

abbrev pub recipe : Recipe
recipe = record { name = codes "A"; formula = formula; outputs = []; procedure = procedure }

abbrev pub demo : Setup
demo = record {
  units = codes "R1" ∷ codes "R2" ∷ [];
  resources = codes "R1" ∷ codes "R2" ∷ codes "HDR" ∷ codes "STEAM" ∷ [];
  capacity = capacity;
  offers = offers;
  recipes = plain recipe ∷ [];
  batch_limit = MAX_LIVE_BATCHES;
}
