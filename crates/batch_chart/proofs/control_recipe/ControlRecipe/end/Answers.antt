use Rattle.std.proofs.Common.{◌∙◌, refl, ap, subst}
use Rattle.batch_chart.{specs.Outlined.kind_at, specs.Freeing.IsFreed, specs.Needs.needs_of_kind, proofs.ActAfterMove.makes-end, proofs.SignUpkeep.end-acts}
use Rattle.batch_chart.proofs.control_recipe.ControlRecipe.end.Goals as goal

pub free-requires : goal.free-requires
free-requires c =
    let a = end-acts _ _ _ _ c.from-n.ensures c.requires.allowed in
    record { order = c.requires.order; node = a.0; acts = a.1; left = a.2 }

pub returns : goal.returns
returns c =
    let kind = ap (kind_at c.args.self.now.nodes.now) c.from-n.ensures ∙ c.requires.allowed.2 in
    record {
      made = makes-end _ _ _ _ _ c.requires.allowed _ _ _ _ refl c.from-n.ensures kind
          (subst (λ z. IsFreed c.args.self.now.nodes.now c.args.self.now.master.now c.args.self.now.values.now c.from-n.result z c.args.stages.now c.free.new.stages) (c.needs-needs.ensures ∙ (ap needs_of_kind c.kind_of.ensures ∙ ap needs_of_kind kind)) c.free.ensures.freed);
      kept = record { count = c.free.ensures.count; keeps = λ h. c.free.ensures.neat };
    }
