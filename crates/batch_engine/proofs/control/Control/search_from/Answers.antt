use Rattle.std.proofs.Common.{◌≤◌, sym, subst, arith}
use Rattle.batch_engine.specs.{Steps.IsServedNode, View.EngineView}
use Rattle.batch_engine.proofs.control.Control.search_from.Goals as goal

pub returns : goal.returns
returns c =
    record {
      on = omega (arith, c.max.ensures);
      none = λ q node known served from.
          let least : c.least_served.result ≤ node =
          c.least_served.ensures q node (omega (arith, known, c.resources-resources.ensures)) (subst (λ (z : EngineView). IsServedNode z.allocation q c.args.batch node) (sym c.self.view_is) served) in
          omega (arith, c.max.ensures);
    }
