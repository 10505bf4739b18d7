use Rattle.std.proofs.Common.{◌≡◌, true, List, [], ◌++◌, map, ◌∙◌, subst, append-nil, ap}
use Rattle.std.proofs.lemmas.Result.{err_from_is_err_and}
use Rattle.batch_recipe.specs.{Conditions.Name, WellFormed.are_distinct, WellFormed.value_names, declared.quantity.Quantity.Quantity}
use Rattle.batch_reader.{proofs.DistinctNames.are_distinct-from_IsDistinct, proofs.DistinctNames.names_refused, proofs.DistinctNames.after_none, proofs.DistinctNames.after_first, proofs.DistinctNames.after_second, proofs.FaultsAmongTables.after_names, proofs.FaultsAmongTables.after_no_name, proofs.FaultsAmongTables.twice_told, specs.PartFaults.HasValueTwice}
use Rattle.batch_reader.specs.declared.fault.TableKind.TheVariants as table_kind
use Rattle.batch_reader.proofs.recipe_names.value_names.Goals as goal

pub returns-in_err-add_names-clause-refused : goal.returns-in_err-add_names-clause-refused
returns-in_err-add_names-clause-refused c =
    let p = err_from_is_err_and c.from_residual.result c.from_residual.ensures.1 in
    let inputs : List Name = map (λ q. q.name) c.args.inputs.now in
    let parameters : List Name = map (λ q. q.name) c.args.parameters.now in
    let none = c.new-names.result.keys in
    rw (p.1, p.2) (λ known. names_refused _ none inputs (parameters ++ c.args.outputs.now) (after_none inputs parameters c.args.outputs.now none [] [] c.new-names.ensures.empty)
    (c.in_err-add_names.ensures.refused known))

pub returns-in_err-add_names-2-clause-refused : goal.returns-in_err-add_names-2-clause-refused
returns-in_err-add_names-2-clause-refused c =
    let p = err_from_is_err_and c.from_residual-in_err-add_names-2.result c.from_residual-in_err-add_names-2.ensures.1 in
    let inputs : List Name = map (λ q. q.name) c.args.inputs.now in
    let parameters : List Name = map (λ q. q.name) c.args.parameters.now in
    let first = c.add_names.new.names.keys in
    rw (p.1, p.2) (λ known. names_refused _ first parameters c.args.outputs.now
    (after_first inputs parameters c.args.outputs.now c.new-names.result.keys first [] c.new-names.ensures.empty c.in_ok-add_names.ensures.ok)
    (c.in_err-add_names-2.ensures.refused known))

pub returns-in_err-add_names-3-clause-refused : goal.returns-in_err-add_names-3-clause-refused
returns-in_err-add_names-3-clause-refused c =
    let p = err_from_is_err_and c.from_residual-in_err-add_names-3.result c.from_residual-in_err-add_names-3.ensures.1 in
    let inputs : List Name = map (λ q. q.name) c.args.inputs.now in
    let parameters : List Name = map (λ q. q.name) c.args.parameters.now in
    let outputs : List Name = map (λ name. name) c.args.outputs.now in
    let first = c.add_names.new.names.keys in
    let second = c.add_names-2.new.names.keys in
    let all = after_second inputs parameters c.args.outputs.now c.new-names.result.keys first second c.new-names.ensures.empty c.in_ok-add_names.ensures.ok c.in_ok-add_names-2.ensures.ok in
    rw (p.1, p.2) (λ known. names_refused _ second outputs [] (append-nil (second ++ outputs) ∙ all) (c.in_err-add_names-3.ensures.refused known))

pub returns-clause-differ : goal.returns-clause-differ
returns-clause-differ c =
    let inputs : List Name = map (λ q. q.name) c.args.inputs.now in
    let parameters : List Name = map (λ q. q.name) c.args.parameters.now in
    let first = c.add_names.new.names.keys in
    let second = c.add_names-2.new.names.keys in
    let all = after_second inputs parameters c.args.outputs.now c.new-names.result.keys first second c.new-names.ensures.empty c.in_ok-add_names.ensures.ok c.in_ok-add_names-2.ensures.ok in
    subst (λ names. are_distinct names ≡ true) (c.in_ok-add_names-3.ensures.ok ∙ all) (are_distinct-from_IsDistinct c.add_names-3.new.names.keys c.in_ok-add_names-3.ensures.distinct)

pub returns-in_err-add_names-clause-stands : goal.returns-in_err-add_names-clause-stands
returns-in_err-add_names-clause-stands c =
    let p = err_from_is_err_and c.from_residual.result c.from_residual.ensures.1 in
    let inputs : List Name = map (λ q. q.name) c.args.inputs.now in
    let parameters : List Name = map (λ q. q.name) c.args.parameters.now in
    rw (p.1, p.2) (twice_told (λ (front : List Quantity). c.new-names.result.keys ++ map (λ q. q.name) front) (λ front. value_names front [] []) (after_no_name (λ (q : Quantity). q.name) c.new-names.result.keys c.new-names.ensures.empty)
    c.args.inputs.now table_kind.Input _ (HasValueTwice c.args.inputs.now c.args.parameters.now c.args.outputs.now) (λ entry h. h) _ (λ spot wrong is_fault. c.in_err-add_names.ensures.first spot wrong (cc is_fault)) c.in_err-add_names.ensures.told)

pub returns-in_err-add_names-2-clause-stands : goal.returns-in_err-add_names-2-clause-stands
returns-in_err-add_names-2-clause-stands c =
    let p = err_from_is_err_and c.from_residual-in_err-add_names-2.result c.from_residual-in_err-add_names-2.ensures.1 in
    let inputs : List Name = map (λ q. q.name) c.args.inputs.now in
    let parameters : List Name = map (λ q. q.name) c.args.parameters.now in
    let so_far : c.add_names.new.names.keys ≡ inputs = c.in_ok-add_names.ensures.ok ∙ ap (λ ks. ks ++ inputs) c.new-names.ensures.empty in
    rw (p.1, p.2) (twice_told (λ (front : List Quantity). c.add_names.new.names.keys ++ map (λ q. q.name) front) (λ front. value_names c.args.inputs.now front []) (after_names (λ (q : Quantity). q.name) c.add_names.new.names.keys inputs so_far)
    c.args.parameters.now table_kind.Parameter _ (HasValueTwice c.args.inputs.now c.args.parameters.now c.args.outputs.now) (λ entry h. h) _ (λ spot wrong is_fault. c.in_err-add_names-2.ensures.first spot wrong (cc is_fault)) c.in_err-add_names-2.ensures.told)

pub returns-in_err-add_names-3-clause-stands : goal.returns-in_err-add_names-3-clause-stands
returns-in_err-add_names-3-clause-stands c =
    let p = err_from_is_err_and c.from_residual-in_err-add_names-3.result c.from_residual-in_err-add_names-3.ensures.1 in
    let inputs : List Name = map (λ q. q.name) c.args.inputs.now in
    let parameters : List Name = map (λ q. q.name) c.args.parameters.now in
    rw (p.1, p.2) (twice_told (λ (front : List Name). c.add_names-2.new.names.keys ++ map (λ name. name) front) (λ front. value_names c.args.inputs.now c.args.parameters.now front) (λ front. after_second inputs parameters front c.new-names.result.keys c.add_names.new.names.keys c.add_names-2.new.names.keys c.new-names.ensures.empty c.in_ok-add_names.ensures.ok c.in_ok-add_names-2.ensures.ok)
    c.args.outputs.now table_kind.Output _ (HasValueTwice c.args.inputs.now c.args.parameters.now c.args.outputs.now) (λ entry h. h) _ (λ spot wrong is_fault. c.in_err-add_names-3.ensures.first spot wrong (cc is_fault)) c.in_err-add_names-3.ensures.told)
