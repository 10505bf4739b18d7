-- The verdict on the bindings that are looked at is that on the recipe.
use Rattle.std.proofs.Common.{◌≡◌, true, List, Option, Some, None}
use Rattle.batch_cell.specs.declared.cell.Cell as equipment
use Rattle.batch_recipe.specs.{Expanding.Binding, WellFormed.are_roles, declared.recipe.Recipe.Recipe}
use Rattle.batch_model.specs.{Lists.Has, Cleared.Ranking, Setups.master_of, Setups.setup_of}
use Rattle.batch_verify.{specs.Covering.AreEnough, specs.Covering.NumberedBindingsSuffice, specs.Refusals.IsVerdictOn, specs.declared.rule.Broken.Broken, proofs.RulesInBindings.suffices, proofs.LeastVerdict.IsLeast, proofs.LeastVerdict.all_meet, proofs.LeastVerdict.none_before}

-- the least verdict of the bindings that were looked at is that on the recipe
pub least_verdict : (c : equipment.Cell) (recipes : List Recipe) (recipe : Recipe) → are_roles recipe.roles.items recipe.acts ≡ true
    → (ranking : Option Ranking) (Looked : Binding → Type 0) → AreEnough (setup_of c recipes) ranking c recipe.roles.items Looked
    → (verdict : Option Broken) → IsLeast (setup_of c recipes) ranking (master_of c recipe) Looked verdict → IsVerdictOn (setup_of c recipes) ranking (master_of c recipe) verdict
least_verdict c recipes recipe own ranking Looked enough None h = λ bound tried.
    all_meet (setup_of c recipes) ranking (master_of c recipe) Looked bound (suffices c recipes recipe own ranking Looked enough bound tried) h
least_verdict c recipes recipe own ranking Looked enough (Some broken) h = record {
  bound = h.bound;
  tried = h.tried;
  breaks = h.breaks;
  first = λ other tried found is.
      none_before (setup_of c recipes) ranking (master_of c recipe) Looked other (suffices c recipes recipe own ranking Looked enough other tried) broken found h is;
}

pub numbered_bindings_suffice : NumberedBindingsSuffice
numbered_bindings_suffice cell recipes recipe kinds own ranking looked enough bound tried node one found rule h =
    suffices cell recipes recipe own ranking (Has looked) enough bound tried node one found rule h
