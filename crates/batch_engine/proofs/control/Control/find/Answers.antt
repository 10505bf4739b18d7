use Rattle.std.proofs.Common.{sym, ◌∙◌, subst}
use Rattle.std.specs.Prelude.{option_copied}
use Rattle.batch_engine.{specs.Steps.IsFoundBy, proofs.BatchAtIndex.IsFound, proofs.BatchAtIndex.found-here, proofs.BatchByNumber.none-found}
use Rattle.batch_engine.proofs.control.Control.find.Goals as goal

pub returns-in_err-index : goal.returns-in_err-index
returns-in_err-index c =
    subst (λ o. IsFoundBy c.args.self.now c.args.number (option_copied o)) (sym c.from_residual.ensures) (none-found c.args.self.now c.args.number (sym c.index_of.ensures ∙ c.in_err-index.was))

pub returns : goal.returns
returns c =
    let f : IsFound c.args.self.now c.args.number c.in_ok-index.index c.index.result.now = found-here c.self.view_is c.self.invariant.kept (sym c.index_of.ensures ∙ c.in_ok-index.was) c.index.ensures in
    ((c.in_ok-index.index, f.at), f.is)
