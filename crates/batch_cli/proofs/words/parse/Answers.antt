use Rattle.std.proofs.Common.{ap, sym, ◌∙◌}
use Rattle.batch_cli.{specs.CommandLine.lacks_recipe, proofs.Faults.fault_from_kind, proofs.Faults.fault_missing, proofs.Faults.kind_first}
use Rattle.batch_cli.proofs.words.parse.Goals as goal

pub returns-then-lacks_recipe-clause-fault : goal.returns-then-lacks_recipe-clause-fault
returns-then-lacks_recipe-clause-fault c =
    let lacks = ap lacks_recipe (sym c.in-Ok.ensures.entered) ∙ sym c.lacks_recipe.ensures ∙ c.if-lacks_recipe.true in
    fault_missing _ _ c.missing_recipe.result c.in-Ok.ensures.kinds lacks c.missing_recipe.ensures

pub returns-in-Err-clause-fault : goal.returns-in-Err-clause-fault
returns-in-Err-clause-fault c = fault_from_kind _ c.in-Err.error c.fault_from.result (kind_first _ _ c.in-Err.error c.in-Err.ensures.kinds) c.fault_from.ensures
