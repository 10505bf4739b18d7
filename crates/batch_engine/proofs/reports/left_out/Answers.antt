use Rattle.std.proofs.Common.{◌∙◌, sym, ap, ap₂, Bool, true, false, ℕ, List, [], Option}
use Rattle.batch_recipe.specs.{Conditions.Name, Conditions.ValueList, Nodes.reports_of}
use Rattle.batch_engine.{specs.Names.node_of, proofs.ReportAnswers.first_number}
use Rattle.batch_engine.proofs.reports.left_out.Goals as goal

-- the number of the first that is left out of these, if they are to be reported
abbrev first : ValueList → List Name → Bool → Option ℕ
first outputs names t = first_number outputs (elim t [ true ↦ names | false ↦ [] ])

pub returns-then-not-owes_outputs : goal.returns-then-not-owes_outputs
returns-then-not-owes_outputs c = ap (first c.args.report.now.outputs.items (reports_of (node_of c.args.node c.args.recipe.now))) (sym c.if-not-owes_outputs.true ∙ c.owes_outputs.ensures)

pub returns : goal.returns
returns c =
    c.first_left_out.ensures ∙ ap₂ (λ outputs names. first_number outputs names) c.deref.ensures.value c.reports_at.ensures
    ∙ ap (first c.args.report.now.outputs.items (reports_of (node_of c.args.node c.args.recipe.now))) (sym c.if-not-owes_outputs.false ∙ c.owes_outputs.ensures)
