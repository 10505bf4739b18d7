use Rattle.std.proofs.Common.{◌≡◌, ◌↔◌, IsTrue, None, subst}
use Rattle.batch_model.specs.Moves.{next}
use Rattle.batch_engine.{specs.View.EngineView, specs.View.setup, specs.View.plant_of, proofs.BatchMarks.settled-when}
use Rattle.batch_engine.proofs.engine.Engine.settled.Goals as goal

pub returns : goal.returns
returns c =
    subst (λ (v : EngineView). IsTrue c.is_none.result ↔ (next (setup v.cleared) (plant_of v) ≡ None)) c.self.view_is
    (settled-when c.self.inside.control c.first_step.result c.first_step.ensures c.is_none.result c.is_none.ensures)
