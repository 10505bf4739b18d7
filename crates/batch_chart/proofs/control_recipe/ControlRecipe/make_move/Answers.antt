use Rattle.batch_chart.proofs.{ActAfterMove.makes-state, ActAfterMove.makes-send, ActAfterMove.makes-start, ActAfterMove.makes-ask, SignUpkeep.same-kept, SignUpkeep.keeps-send, SignUpkeep.keeps-start, SignUpkeep.keeps-ask}
use Rattle.batch_chart.proofs.control_recipe.ControlRecipe.make_move.Goals as goal

pub returns-in-State : goal.returns-in-State
returns-in-State c = record { made = makes-state _ _ _ _ _ c.requires.allowed _ c.in-State.is; kept = same-kept _ _ _ _ }

pub returns-in-Send : goal.returns-in-Send
returns-in-Send c = record {
  made = rw c.set_stage.ensures.stages (makes-send _ _ _ _ _ c.requires.allowed _ _ _ _ c.in-Send.is c.from.ensures c.target.ensures);
  kept = keeps-send _ _ _ _ _ _ c.requires.order.lives c.requires.order.count _ c.requires.allowed _ _ _ _ c.in-Send.is c.from.ensures c.set_stage.ensures;
}

pub returns-in-Ask : goal.returns-in-Ask
returns-in-Ask c = record {
  made = rw c.set_stage-in-Ask.ensures.stages (makes-ask _ _ _ _ _ c.requires.allowed _ _ _ c.in-Ask.is c.from-in-Ask.ensures);
  kept = keeps-ask _ _ _ _ _ _ c.requires.order.lives c.requires.order.count _ c.requires.allowed _ _ _ c.in-Ask.is c.from-in-Ask.ensures c.set_stage-in-Ask.ensures;
}

pub returns-in-Start : goal.returns-in-Start
returns-in-Start c = record {
  made = rw c.set_stage-in-Start.ensures.stages (makes-start _ _ _ _ _ c.requires.allowed _ _ c.in-Start.is c.from-in-Start.ensures);
  kept = keeps-start _ _ _ _ _ _ c.requires.order.lives c.requires.order.count _ c.requires.allowed _ _ _ c.in-Start.is c.from-in-Start.ensures c.set_stage-in-Start.ensures;
}

pub begin-requires-clause-allowed : goal.begin-requires-clause-allowed
begin-requires-clause-allowed c = rw c.in-Begin.is at c.requires.allowed

pub end-requires-clause-allowed : goal.end-requires-clause-allowed
end-requires-clause-allowed c = rw c.in-End.is at c.requires.allowed

pub release-requires-clause-allowed : goal.release-requires-clause-allowed
release-requires-clause-allowed c = rw c.in-Release.is at c.requires.allowed

pub pass_on-requires-clause-allowed : goal.pass_on-requires-clause-allowed
pass_on-requires-clause-allowed c = rw c.in-Pass.is at c.requires.allowed

pub returns-in-Begin : goal.returns-in-Begin
returns-in-Begin c = record { made = rw c.in-Begin.is c.begin.ensures.made; kept = c.begin.ensures.kept }

pub returns-in-End : goal.returns-in-End
returns-in-End c = record { made = rw c.in-End.is c.end.ensures.made; kept = c.end.ensures.kept }

pub returns-in-Release : goal.returns-in-Release
returns-in-Release c = record { made = rw c.in-Release.is c.release.ensures.made; kept = c.release.ensures.kept }

pub returns-in-Pass : goal.returns-in-Pass
returns-in-Pass c = record { made = rw c.in-Pass.is c.pass_on.ensures.made; kept = c.pass_on.ensures.kept }
