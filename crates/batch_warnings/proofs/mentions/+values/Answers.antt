use Rattle.std.proofs.Common.{arith, ◌∙◌}
use Rattle.batch_recipe.{proofs.Diagrams.diagram_of-seq, proofs.Diagrams.diagram_of-par, proofs.Diagrams.diagram_of-sel, specs.Diagram.diagram_of}
use Rattle.batch_warnings.proofs.Branches.{branches_compare, choices_compare}
use Rattle.batch_warnings.proofs.mentions.+values.Goals as goal

pub compares-returns-in-Seq : goal.compares-returns-in-Seq
compares-returns-in-Seq t c =
    rw (c.in-Seq.is, diagram_of-seq c.in-Seq.parts)
    (rw (c.deref-in-Seq.ensures.value, c.deref.ensures) at c.any_compares.ensures ∙ branches_compare c.args.name.now c.in-Seq.parts.value.items)

pub compares-returns-in-Par : goal.compares-returns-in-Par
compares-returns-in-Par t c =
    rw (c.in-Par.is, diagram_of-par c.in-Par.branches)
    (rw (c.deref-in-Par-2.ensures.value, c.deref-in-Par.ensures) at c.any_compares-in-Par.ensures ∙ branches_compare c.args.name.now c.in-Par.branches.value.items)

pub compares-returns-then-any_choice_compares : goal.compares-returns-then-any_choice_compares
compares-returns-then-any_choice_compares t c =
    let cases = rw (c.deref-in-Sel-2.ensures.value, c.deref-in-Sel.ensures) at c.any_choice_compares.ensures in
    rw (c.in-Sel.is, diagram_of-sel c.in-Sel.choices c.in-Sel.last)
    (grind (arith, cases, c.if-any_choice_compares.true, choices_compare c.args.name.now c.in-Sel.choices.value.items (diagram_of c.in-Sel.last.value)))

pub compares-returns-else-any_choice_compares : goal.compares-returns-else-any_choice_compares
compares-returns-else-any_choice_compares t c =
    let cases = rw (c.deref-in-Sel-2.ensures.value, c.deref-in-Sel.ensures) at c.any_choice_compares.ensures in
    let last = rw c.deref-else-any_choice_compares.ensures at c.compares.ensures in
    rw (c.in-Sel.is, diagram_of-sel c.in-Sel.choices c.in-Sel.last)
    (grind (arith, cases, c.if-any_choice_compares.false, last, choices_compare c.args.name.now c.in-Sel.choices.value.items (diagram_of c.in-Sel.last.value)))
