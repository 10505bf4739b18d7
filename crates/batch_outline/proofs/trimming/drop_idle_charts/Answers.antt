use Rattle.std.proofs.Common.{◌≤◌, [], ◌∷◌, sym, ◌∙◌, subst, length}
use Rattle.batch_recipe.specs.{Expanding.unbound, Nodes.nodes, WellFormed.value_names, declared.recipe.TheConstants.MAX_NODES}
use Rattle.batch_outline.specs.Trimmed.{AreTrimmed}
use Rattle.batch_outline.proofs.TrimmedRecipes as trimmed
use Rattle.batch_outline.proofs.trimming.drop_idle_charts.Goals as goal

pub invariant_of-recipe : goal.invariant_of-recipe
invariant_of-recipe c =
    let whole = c.args.recipe.now in
    let acts = c.trim.new.acts in
    let entries = whole.outline.entries.items in
    let h : AreTrimmed entries whole.acts acts = c.trim.ensures in
    let values = value_names whole.inputs.items whole.parameters.items whole.outputs.items in
    record {
      some_basis = whole.some_basis;
      basis_limit = whole.basis_limit;
      few_inputs = whole.few_inputs;
      few_parameters = whole.few_parameters;
      few_outputs = whole.few_outputs;
      some_unit_procedures = rw (trimmed.as_many_unit_procedures entries whole.acts acts h) whole.some_unit_procedures;
      few_unit_procedures = rw (trimmed.as_many_unit_procedures entries whole.acts acts h) whole.few_unit_procedures;
      some_operations = rw (trimmed.as_many_operations entries whole.acts acts h) whole.some_operations;
      few_operations = rw (trimmed.as_many_operations entries whole.acts acts h) whole.few_operations;
      some_phases = rw h.phases whole.some_phases;
      few_phases = rw h.phases whole.few_phases;
      few_roles = whole.few_roles;
      own_roles = trimmed.own_roles entries whole.acts acts h whole.roles.items whole.own_roles;
      own_reports = trimmed.own_reports entries whole.acts acts h whole.outputs.items whole.own_reports;
      own_reserves = trimmed.own_reserves entries whole.acts acts h whole.own_reserves;
      kinds = trimmed.kinds entries whole.acts acts h whole.kinds;
      well_formed = trimmed.well_formed entries whole.acts acts h values whole.well_formed;
      free_names = trimmed.free_names entries whole.acts acts h values whole.free_names;
      small = subst (λ t. length (nodes (0 ∷ []) [] t) ≤ MAX_NODES) (sym (trimmed.tree_stays entries whole.acts acts h whole.outlined unbound)) whole.small;
      outlined = whole.outlined ∙ sym (trimmed.entries_stay entries whole.acts acts h whole.outlined);
      conditioned = whole.conditioned ∙ sym (trimmed.conditions_stay entries whole.acts acts h whole.outlined);
    }
