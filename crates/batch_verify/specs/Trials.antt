-- private: the bindings that are tried, by number or by ranks.
use Rattle.std.specs.Prelude.{ℕ, List, [], ◌∷◌, ltb, Bool, true, false, if◌then◌else◌, Option, Some, None}
use Rattle.std.specs.Option.{option_copied}
use Rattle.batch_cell.specs.LookUps.{resources_of, units_of_class}
use Rattle.batch_cell.specs.declared.cell.Cell as equipment
use Rattle.batch_recipe.specs.Conditions.{Name, same_name}
use Rattle.batch_recipe.specs.Expanding.{Binding}
use Rattle.batch_recipe.specs.declared.role.Role.{Role}
use Rattle.batch_model.specs.Cleared.{Ranking}
use Rattle.batch_verify.specs.Asking.{rank_by}
use Rattle.batch_verify.specs.Bindings.{candidate_of, nobody, numbered_binding, role_named}
use Rattle.batch_verify.specs.Refusals.{rank_in}
use Rattle.batch_verify.specs.Spans.{ranks_or_none}
use Rattle.batch_verify.specs.declared.trial.Trial.{Trial}
use Rattle.batch_verify.specs.declared.trial.Trial.TheVariants.{Numbered, Raised, Leveled}

-- without ranks each name has rank 0
abbrev pub rank_or_0 : equipment.Cell → Option (List ℕ) → Ranking
rank_or_0 cell ranks = rank_in cell (ranks_or_none ranks)

abbrev pub is_better : {X : Type 0} → (X → ℕ) → Bool → X → X → Bool
is_better rank true one other = ltb (rank one) (rank other)
is_better rank false one other = ltb (rank other) (rank one)

-- the one of two that has the greater rank, or the lesser one
abbrev pub better : {X : Type 0} → (X → ℕ) → Bool → Option X → X → X
better rank is_greatest None other = other
better rank is_greatest (Some one) other = if is_better rank is_greatest one other then other else one

abbrev pub extreme_from : {X : Type 0} → (X → ℕ) → Bool → X → List X → X
extreme_from rank is_greatest best [] = best
extreme_from rank is_greatest best (one ∷ more) = extreme_from rank is_greatest (better rank is_greatest (Some best) one) more

-- the first that has the greatest rank, or the least one
abbrev pub extreme : {X : Type 0} → (X → ℕ) → Bool → List X → Option X
extreme rank is_greatest [] = None
extreme rank is_greatest (one ∷ more) = Some (extreme_from rank is_greatest one more)

-- who takes a role of these candidates
abbrev pub raised_unit : equipment.Cell → Option Name → Name
raised_unit cell None = nobody (resources_of cell)
raised_unit cell (Some unit) = unit

abbrev pub raised_for : equipment.Cell → Ranking → Bool → Option Role → Name
raised_for cell rank is_raised None = nobody (resources_of cell)
raised_for cell rank is_raised (Some role) = raised_unit cell (extreme rank is_raised (units_of_class cell role.class))

-- the binding in which the one role is taken at its highest rank, and each other one at its lowest
abbrev pub raised : equipment.Cell → List Role → Ranking → Name → Binding
raised cell roles rank role name = raised_for cell rank (same_name name role) (role_named roles name)

abbrev pub bound_by : equipment.Cell → List Role → Trial → Binding
bound_by cell roles (Numbered number) = numbered_binding cell roles number
bound_by cell roles (Raised role ranks) = raised cell roles (rank_or_0 cell (option_copied ranks)) role.now
bound_by cell roles (Leveled is_highest ranks) = λ name. raised_for cell (rank_or_0 cell (option_copied ranks)) is_highest (role_named roles name)

-- the rank of the resource with this number
abbrev pub rank_at : List ℕ → ℕ → ℕ
rank_at ranks number = rank_by ranks (Some number)

-- the one of these candidates' numbers that takes the role with this name
abbrev pub taker_by : Trial → Name → List ℕ → Option ℕ
taker_by (Numbered number) role candidates = candidate_of candidates number
taker_by (Raised raised ranks) role candidates = extreme (rank_at (ranks_or_none (option_copied ranks))) (same_name role raised.now) candidates
taker_by (Leveled is_highest ranks) role candidates = extreme (rank_at (ranks_or_none (option_copied ranks))) is_highest candidates

-- the roles that are raised one after another, where there are ranks: two roles at least
abbrev pub roles_raised : Option (List ℕ) → List Role → List Role
roles_raised None roles = []
roles_raised (Some ranks) [] = []
roles_raised (Some ranks) (role ∷ []) = []
roles_raised (Some ranks) (role ∷ other ∷ more) = role ∷ other ∷ more
