use Rattle.std.proofs.Common.{◌∙◌, ap, subst}
use Rattle.batch_chart.{specs.Outlined.kind_at, specs.Freeing.IsFreed, specs.Needs.needs_of_kind, proofs.ActAfterMove.reports-now, proofs.ActAfterMove.reports-same, proofs.ActAfterMove.reports-ended, proofs.SignUpkeep.same-kept, proofs.SignUpkeep.keeps-now, proofs.SignUpkeep.live-acts}
use Rattle.batch_chart.proofs.control_recipe.ControlRecipe.go_on.Goals as goal

pub returns-in-Same : goal.returns-in-Same
returns-in-Same c = record { changed = rw c.in-Same.is (reports-same _ _ _ _ _ _ c.from-n.ensures c.requires.live); kept = same-kept _ _ _ _ }

pub returns-in-Now : goal.returns-in-Now
returns-in-Now c = record {
  changed = rw (c.in-Now.is, c.set_stage.ensures.stages) (reports-now _ _ _ _ _ _ c.from-n.ensures c.requires.live _);
  kept = keeps-now _ _ _ _ _ _ c.requires.order.lives c.requires.order.count _ _ _ c.from-n.ensures c.requires.live c.set_stage.ensures;
}

pub free-requires : goal.free-requires
free-requires c =
    let a = live-acts _ _ _ _ c.from-n.ensures c.requires.live in
    record { order = c.requires.order; node = a.0; acts = a.1; left = a.2 }

pub returns-in-Ended : goal.returns-in-Ended
returns-in-Ended c =
    let kind = ap (kind_at c.args.self.now.nodes.now) c.from-n.ensures ∙ c.requires.live.4 in
    record {
      changed = rw c.in-Ended.is (reports-ended _ _ _ _ _ _ c.from-n.ensures c.requires.live _ _ _ kind
          (subst (λ z. IsFreed c.args.self.now.nodes.now c.args.self.now.master.now c.args.self.now.values.now c.from-n.result z c.args.stages.now c.free.new.stages) (c.needs-needs.ensures ∙ (ap needs_of_kind c.kind_of.ensures ∙ ap needs_of_kind kind)) c.free.ensures.freed));
      kept = record { count = c.free.ensures.count; keeps = λ h. c.free.ensures.neat };
    }
