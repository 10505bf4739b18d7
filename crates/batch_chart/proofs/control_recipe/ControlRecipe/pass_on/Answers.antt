use Rattle.std.proofs.Common.{refl}
use Rattle.batch_chart.proofs.{ActAfterMove.makes-pass, SignUpkeep.pass-acts}
use Rattle.batch_chart.proofs.control_recipe.ControlRecipe.pass_on.Goals as goal

pub free-requires : goal.free-requires
free-requires c =
    let a = pass-acts _ _ _ _ _ _ c.from.ensures c.requires.allowed in
    record { order = c.requires.order; node = a.0; acts = a.1; left = a.2 }

pub returns : goal.returns
returns c = record {
  made = makes-pass _ _ _ _ _ c.requires.allowed _ _ _ _ _ refl c.from.ensures c.free.ensures.freed;
  kept = record { count = c.free.ensures.count; keeps = λ h. c.free.ensures.neat };
}
