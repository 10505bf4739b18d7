use Rattle.std.proofs.Common.{◌≡◌, ap, sym, ◌∙◌}
use Rattle.batch_recipe.{specs.Growing.number_in, specs.Procedure.table_at, specs.WellFormed.act_names, specs.declared.acts.LabelTable.LabelTable, proofs.LabelNumbers.number_by_names}
use Rattle.batch_recipe.proofs.labels.Labels.number_of.Goals as goal
use Rattle.batch_recipe.proofs.labels.Labels.number_of.Goals.{in-UnitProcedures, in-Operations, in-Phases}

pub returns : goal.returns
returns c =
    let acts = c.args.self.now.acts.now in
    let named = c.args.self.now.named in
    let found = λ (t : LabelTable) (is : c.match-table.names.now.keys ≡ act_names (table_at acts t)) (e : c.args.table ≡ t).
    c.index_from.ensures ∙ (number_by_names (table_at acts t) c.match-table.names.now.keys c.args.name.now is ∙ ap (λ l. number_in (table_at acts l) c.args.name.now) (sym e)) in
    elim c.match-table.branch [
      | in-UnitProcedures w ↦ found _ (ap (λ n. n.now.keys) w.names-is ∙ named.unit_procedures) w.in-UnitProcedures.is
      | in-Operations w ↦ found _ (ap (λ n. n.now.keys) w.names-is ∙ named.operations) w.in-Operations.is
      | in-Phases w ↦ found _ (ap (λ n. n.now.keys) w.names-is ∙ named.phases) w.in-Phases.is
    ]
