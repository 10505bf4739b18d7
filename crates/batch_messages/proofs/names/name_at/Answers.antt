use Rattle.std.proofs.Common.{length, refl, inl, inr}
use Rattle.std.proofs.lemmas.Bool.{cases_lt}
use Rattle.batch_recipe.specs.Procedure.{procedure_nodes}
use Rattle.batch_messages.proofs.ActsAtNodes.{none_past}
use Rattle.batch_messages.proofs.names.name_at.Goals as goal

pub returns-in-Some : goal.returns-in-Some
returns-in-Some c =
    let acts = c.args.recipe.now.acts in
    elim (cases_lt c.args.node (length (procedure_nodes acts))) [
      | inl within ↦ rw (c.act_at.ensures.act within, c.in-Some.is) c.text.ensures.value
      | inr past ↦ let none = rw c.in-Some.is at c.act_at.ensures.past past in absurd cc
    ]

pub returns-in-None : goal.returns-in-None
returns-in-None c =
    let acts = c.args.recipe.now.acts in
    elim (cases_lt c.args.node (length (procedure_nodes acts))) [
      | inl within ↦ rw (c.act_at.ensures.act within, c.in-None.is) refl
      | inr past ↦ rw (none_past acts c.args.node past) refl
    ]
