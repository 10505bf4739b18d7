use Rattle.std.proofs.Common.{◌≡◌, ◌&&◌, sym, ◌∙◌}
use Rattle.std.specs.List.{list_all}
use Rattle.batch_recipe.{proofs.Diagrams.diagram_of-seq, proofs.Diagrams.diagram_of-par, proofs.Diagrams.diagram_of-sel, specs.Diagram.diagram_of}
use Rattle.batch_reader.{specs.Naming.is_declared, proofs.ChartNames.branches_declared, proofs.ChartNames.cases_declared, proofs.ChartNames.is_case_declared}
use Rattle.batch_reader.proofs.chart_names.+declared.Goals as goal

pub is_declared-returns-in-Seq : goal.is_declared-returns-in-Seq
is_declared-returns-in-Seq t c =
    rw (c.in-Seq.is, diagram_of-seq c.in-Seq.parts)
    (rw (c.deref-in-Seq.ensures.value, c.deref.ensures) at c.are_declared.ensures ∙ branches_declared c.args.labels.now.keys c.args.values.now.keys c.in-Seq.parts.value.items)

pub is_declared-returns-in-Par : goal.is_declared-returns-in-Par
is_declared-returns-in-Par t c =
    rw (c.in-Par.is, diagram_of-par c.in-Par.branches)
    (rw (c.deref-in-Par-2.ensures.value, c.deref-in-Par.ensures) at c.are_declared-in-Par.ensures ∙ branches_declared c.args.labels.now.keys c.args.values.now.keys c.in-Par.branches.value.items)

pub is_declared-returns-then-are_cases_declared : goal.is_declared-returns-then-are_cases_declared
is_declared-returns-then-are_cases_declared t c =
    let labels = c.args.labels.now.keys in
    let values = c.args.values.now.keys in
    let cases : c.are_cases_declared.result ≡ list_all (is_case_declared labels values) c.in-Sel.choices.value.items = rw (c.deref-in-Sel-2.ensures.value, c.deref-in-Sel.ensures) at c.are_cases_declared.ensures in
    let last : c.is_declared.result ≡ is_declared labels values (diagram_of c.in-Sel.last.value) = rw c.deref-then-are_cases_declared.ensures at c.is_declared.ensures in
    let all : c.is_declared.result ≡ (list_all (is_case_declared labels values) c.in-Sel.choices.value.items && is_declared labels values (diagram_of c.in-Sel.last.value)) =
    rw (sym cases ∙ c.if-are_cases_declared.true) last in
    rw (c.in-Sel.is, diagram_of-sel c.in-Sel.choices c.in-Sel.last) (all ∙ cases_declared labels values c.in-Sel.choices.value.items (diagram_of c.in-Sel.last.value))

pub is_declared-returns-else-are_cases_declared : goal.is_declared-returns-else-are_cases_declared
is_declared-returns-else-are_cases_declared t c =
    let labels = c.args.labels.now.keys in
    let values = c.args.values.now.keys in
    let cases : c.are_cases_declared.result ≡ list_all (is_case_declared labels values) c.in-Sel.choices.value.items = rw (c.deref-in-Sel-2.ensures.value, c.deref-in-Sel.ensures) at c.are_cases_declared.ensures in
    let all : c.are_cases_declared.result ≡ (list_all (is_case_declared labels values) c.in-Sel.choices.value.items && is_declared labels values (diagram_of c.in-Sel.last.value)) =
    rw (sym cases ∙ c.if-are_cases_declared.false) c.if-are_cases_declared.false in
    rw (c.in-Sel.is, diagram_of-sel c.in-Sel.choices c.in-Sel.last) (all ∙ cases_declared labels values c.in-Sel.choices.value.items (diagram_of c.in-Sel.last.value))
