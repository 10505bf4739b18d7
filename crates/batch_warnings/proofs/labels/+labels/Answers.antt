use Rattle.std.proofs.lemmas.Result.{on_ok_weaker}
use Rattle.batch_recipe.{proofs.Diagrams.diagram_of-seq, proofs.Diagrams.diagram_of-par, proofs.Diagrams.diagram_of-sel, specs.Diagram.diagram_of}
use Rattle.batch_warnings.proofs.{AddedNames.adds-as, AddedNames.adds-both, Branches.branches_labelled, Branches.choices_labelled}
use Rattle.batch_warnings.proofs.labels.+labels.Goals as goal

pub add_of_chart-returns-in-Seq : goal.add_of_chart-returns-in-Seq
add_of_chart-returns-in-Seq t c =
    rw (c.in-Seq.is, diagram_of-seq c.in-Seq.parts)
    (on_ok_weaker c.add_of_each.result (adds-as _ _ _ _ (λ name. branches_labelled name c.in-Seq.parts.value.items))
    (rw (c.deref-in-Seq.ensures.value, c.deref.ensures) at c.add_of_each.ensures))

pub add_of_chart-returns-in-Par : goal.add_of_chart-returns-in-Par
add_of_chart-returns-in-Par t c =
    rw (c.in-Par.is, diagram_of-par c.in-Par.branches)
    (on_ok_weaker c.add_of_each-in-Par.result (adds-as _ _ _ _ (λ name. branches_labelled name c.in-Par.branches.value.items))
    (rw (c.deref-in-Par-2.ensures.value, c.deref-in-Par.ensures) at c.add_of_each-in-Par.ensures))

pub add_of_chart-returns-in_ok-add_of_choices-in-Sel : goal.add_of_chart-returns-in_ok-add_of_choices-in-Sel
add_of_chart-returns-in_ok-add_of_choices-in-Sel t c =
    let choices = rw (c.deref-in-Sel-2.ensures.value, c.deref-in-Sel.ensures) at c.in_ok-add_of_choices-in-Sel.ensures in
    rw (c.in-Sel.is, diagram_of-sel c.in-Sel.choices c.in-Sel.last)
    (on_ok_weaker c.add_of_chart.result
    (λ last. adds-as _ _ _ _ (λ name. choices_labelled name c.in-Sel.choices.value.items (diagram_of c.in-Sel.last.value)) (adds-both _ _ _ _ _ choices last))
    (rw c.deref-in-Sel-3.ensures at c.add_of_chart.ensures))
