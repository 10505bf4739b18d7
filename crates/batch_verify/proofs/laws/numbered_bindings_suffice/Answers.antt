use Rattle.batch_verify.proofs.RecipeVerdict as bound
use Rattle.batch_verify.proofs.laws.numbered_bindings_suffice.Goals as goal

pub returns : goal.returns
returns c = bound.numbered_bindings_suffice
