use Rattle.std.proofs.Common.{◌∙◌, Some, None}
use Rattle.batch_engine.proofs.BatchByNumber.{looked}
use Rattle.batch_engine.proofs.engine.Engine.batch_state.Goals as goal

pub returns-in_err-find : goal.returns-in_err-find
returns-in_err-find c = c.from_residual.ensures ∙ looked c.args.batch None (λ d. Some d.state) c.self.view_is c.in_err-find.ensures

pub returns : goal.returns
returns c = looked c.args.batch (Some c.in_ok-find.field-0.now) (λ d. Some d.state) c.self.view_is c.in_ok-find.ensures
