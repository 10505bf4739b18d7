use Rattle.std.proofs.Common.{refl}
use Rattle.batch_chart.proofs.{ActAfterMove.makes-release_ready, ActAfterMove.makes-release, SignUpkeep.release-acts, SignUpkeep.keeps-release}
use Rattle.batch_chart.proofs.control_recipe.ControlRecipe.release.Goals as goal

pub free-requires : goal.free-requires
free-requires c =
    let a = release-acts _ _ _ _ _ c.from-n.ensures c.requires.allowed in
    record { order = c.requires.order; node = a.0; acts = a.1; left = a.2 }

pub returns-in-Ready : goal.returns-in-Ready
returns-in-Ready c = record {
  made = rw c.set_stage.ensures.stages (makes-release_ready _ _ _ _ _ c.requires.allowed _ _ _ _ refl c.from-n.ensures c.in-Ready.is);
  kept = keeps-release _ _ _ _ _ _ c.requires.order.lives c.requires.order.count _ c.requires.allowed _ _ _ _ refl c.from-n.ensures c.in-Ready.is c.set_stage.ensures;
}

pub returns-in_default : goal.returns-in_default
returns-in_default c = record {
  made = makes-release _ _ _ _ _ c.requires.allowed _ _ _ _ refl c.from-n.ensures c.in_default.not-Ready c.free.ensures.freed;
  kept = record { count = c.free.ensures.count; keeps = λ h. c.free.ensures.neat };
}
