use Rattle.std.proofs.Common.{◌≡◌, [], ◌++◌, ap, ◌∙◌, append-nil, List, map}
use Rattle.std.proofs.lemmas.Result.{err_from_is_err_and}
use Rattle.batch_recipe.specs.Conditions.{Name}
use Rattle.batch_reader.{proofs.DistinctNames.are_distinct-from_IsDistinct, proofs.DistinctNames.names_refused, proofs.FaultsAmongTables.alone, proofs.FaultsAmongTables.twice_told, specs.PartFaults.AreDistinct, specs.PartFaults.FailsFirst}
use Rattle.batch_reader.proofs.recipe_names.distinct_names.Goals as goal

pub returns-in_err-add_names-clause-refused : goal.returns-in_err-add_names-clause-refused
returns-in_err-add_names-clause-refused g c =
    let p = err_from_is_err_and c.from_residual.result c.from_residual.ensures.1 in
    let names : List Name = map g.T.Named.name_of c.args.table.now in
    let all : (c.new-names.result.keys ++ names) ++ [] ≡ names = rw c.new-names.ensures.empty (append-nil names) in
    rw (p.1, p.2) (λ known. names_refused names c.new-names.result.keys names [] all (c.in_err-add_names.ensures.refused known))

pub returns-clause-differ : goal.returns-clause-differ
returns-clause-differ g c =
    let names : List Name = map g.T.Named.name_of c.args.table.now in
    let all : c.add_names.new.names.keys ≡ names = c.in_ok-add_names.ensures.ok ∙ ap (λ ks. ks ++ names) c.new-names.ensures.empty in
    rw (← all) (are_distinct-from_IsDistinct c.add_names.new.names.keys c.in_ok-add_names.ensures.distinct)

pub returns-in_err-add_names-clause-stands : goal.returns-in_err-add_names-clause-stands
returns-in_err-add_names-clause-stands g c =
    let p = err_from_is_err_and c.from_residual.result c.from_residual.ensures.1 in
    rw (p.1, p.2) (twice_told (λ front. c.new-names.result.keys ++ map g.T.Named.name_of front) (map g.T.Named.name_of) (alone g.T.Named.name_of c.new-names.result.keys c.new-names.ensures.empty)
    c.args.table.now c.args.kind _ (λ kind entry. FailsFirst (λ front. AreDistinct (map g.T.Named.name_of front)) c.args.table.now entry) (λ entry h. h) _ (λ spot wrong is_fault. c.in_err-add_names.ensures.first spot wrong (cc is_fault)) c.in_err-add_names.ensures.told)
