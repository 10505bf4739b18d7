use Rattle.std.proofs.Common.{[], ◌++◌, ◌∙◌, ap, append_assoc, codes, string_bytes, Some}
use Rattle.std.proofs.lemmas.Result.{on_ok_weaker}
use Rattle.batch_recipe.specs.declared.acts.LabelTable.TheVariants.{UnitProcedures}
use Rattle.batch_outline.{specs.Along.act_lines, specs.Along.labels_from, proofs.LinesOfNodes.recipe_told}
use Rattle.batch_outline.proofs.showing.put_recipe.Goals as goal

pub returns : goal.returns
returns c =
    let r = c.args.recipe.now in
    let old = string_bytes c.args.text.now in
    let head = codes "recipe " ++ (r.acts.procedure.name ++ codes "\n") in
    let lines = act_lines r.roles.items r.acts (labels_from r (Some UnitProcedures)) (record { place = codes "0"; held = []; branch = [] }) (codes "procedure") r.acts.procedure in
    on_ok_weaker c.put_act.result
    (λ told. told ∙ ap (λ text. text ++ lines) c.in_ok-writeln.ensures.bytes ∙ append_assoc old head lines ∙ ap (λ text. old ++ text) (recipe_told r))
    c.put_act.ensures
