use Rattle.batch_chart.{specs.Needs.needs_of_kind, specs.Noting.open_signs, proofs.ActAfterMove.makes-begin, proofs.ActAfterMove.begin-stands, proofs.ActAfterMove.laid-lengths, proofs.SignUpkeep.keeps-begin}
use Rattle.std.proofs.Common.{◌∙◌, arith, refl, ap, length-set}
use Rattle.batch_chart.proofs.control_recipe.ControlRecipe.begin.Goals as goal

pub reach-over-requires : goal.reach-over-requires
reach-over-requires c = record {
  standing = (length-set _ _ _ ∙ laid-lengths _ _ _ c.requires.order.lives, begin-stands _ _ _ _ _ _ c.requires.order.lives c.requires.allowed refl c.from-n.ensures);
  fits = c.requires.order.count;
}

pub set-requires : goal.set-requires
set-requires c = omega (arith, c.requires.order.count, c.reach-over.ensures.neatly.count, c.from-n.ensures, c.requires.allowed.2)

pub returns : goal.returns
returns c = record {
  made = makes-begin _ _ _ _ _ c.requires.allowed _ _ _ _ refl c.from-n.ensures c.reach-over.auto.stages c.reach-over.ensures.reached;
  kept = rw c.set.ensures (keeps-begin _ _ _ _ _ _ c.requires.order.lives c.requires.order.count _ _ c.requires.allowed c.from-n.ensures _ _ c.reach-over.ensures.reached.own c.reach-over.ensures.reached.outside c.reach-over.ensures.neatly
      (c.of_open.ensures ∙ ap (λ k. open_signs k c.reach-over.result) (c.needs.ensures ∙ ap needs_of_kind c.kind_of.ensures)));
}
