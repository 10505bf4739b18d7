use Rattle.batch_model.specs.Events as Events
use Rattle.batch_engine.proofs.{CreateAnswers.refused-otherwise, CreateAnswers.wants-if, BatchLookups.got-chart}
use Rattle.batch_engine.proofs.control.Control.would_create.Goals as goal

pub returns-in-Ok : goal.returns-in-Ok
returns-in-Ok c =
    let v = c.args.self.now in
    let read = got-chart v _ c.in-Ok.choice.recipe c.recipe.result.now c.self.view_is c.recipe.ensures in
    let wants = wants-if v c.args.name.now c.args.size c.args.pairs.now c.in-Ok.choice.recipe c.recipe.result.now c.requires read c.in-Ok.choice.units c.in-Ok.ensures in
    (λ is. wants.0 (c.has_values.ensures.0 is), λ may. c.has_values.ensures.1 (wants.1 may))

pub returns-in-Err : goal.returns-in-Err
returns-in-Err c =
    (λ is. absurd (cc is), λ may. absurd (refused-otherwise c.args.self.now (Events.create c.args.name.now c.args.size c.args.pairs.now) _ (c.in-Err.ensures c.args.size) may))
