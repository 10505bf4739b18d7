use Rattle.std.proofs.Common.{sym, ◌∙◌, ap, subst}
use Rattle.std.specs.Prelude.{option_map}
use Rattle.batch_arbiter.specs.Allocation.{next_grant, batch_node}
use Rattle.batch_engine.{specs.View.EngineView, specs.Kept.IsKept, proofs.BatchMarks.first-served}
use Rattle.batch_engine.proofs.control.Control.first_served.Goals as goal

pub returns : goal.returns
returns c =
    let v : EngineView = c.args.self.now in
    let kept : IsKept v = subst IsKept c.self.view_is c.self.invariant.kept in
    first-served v kept c.args.resource c.in_ok-number.number c.in_ok-number._node
    (ap (λ (w : EngineView). option_map batch_node (next_grant w.allocation c.args.resource)) (sym c.self.view_is) ∙ sym c.first.ensures ∙ c.in_ok-number.was)
    c.index_of.result c.index_of.ensures
