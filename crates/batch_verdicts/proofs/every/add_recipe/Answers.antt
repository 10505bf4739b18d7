use Rattle.std.proofs.Common.{inl, inr, refl, subst}
use Rattle.batch_verdicts.specs.{Halting.HaltsAtRecipe, declared.refusal.Halt.Halt}
use Rattle.batch_verdicts.proofs.every.add_recipe.Goals as goal
use Rattle.batch_verdicts.proofs.every.add_recipe.Goals.{in-Ok+in_ok-add-in-Ok, in-Err-Refused+in_ok-push-in-Err-Refused}

pub returns-clause-looked : goal.returns-clause-looked
returns-clause-looked g c =
    let At : Halt → Type 0 = HaltsAtRecipe (g.D.Documents.gives c.args.documents.now) c.args.path.now in
    elim c.match-read_recipe.branch [
      | in-Ok+in_ok-add-in-Ok w ↦ rw w.looked-is (inl (w.in-Ok.read.recipe, (w.in-Ok.read.text.items, w.in-Ok.ensures.read.0, w.in-Ok.ensures.read.1), w.in_ok-add-in-Ok.ensures, refl))
      | in-Err-Refused+in_ok-push-in-Err-Refused w ↦ rw w.looked-is (inr (w.in-Err-Refused.refusal, subst At w.in-Err-Refused.field-0-is w.in-Err-Refused.ensures.halted, refl, rw w.in-Err-Refused.field-0-is at w.in_ok-push-in-Err-Refused.ensures.items))
    ]
