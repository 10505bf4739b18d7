use Rattle.std.proofs.Common.{arith, ◌≡◌, IfSome, IsNone, subst}
use Rattle.std.proofs.lemmas.Option.{slice_get-get_or, get_or_from_slice_get}
use Rattle.batch_recipe.specs.{Places.IsNodeAt, Places.NoNodeAt, Procedure.procedure_nodes}
use Rattle.batch_recipe.specs.declared.recipe.Recipe as document
use Rattle.batch_verify.proofs.cleared.Cleared.node_of.Goals as goal

pub returns-clause-some : goal.returns-clause-some
returns-clause-some c = λ r is.
    let same : c.index.result.now ≡ r = grind (arith, is, c.index.ensures, c.from.ensures, slice_get-get_or, get_or_from_slice_get) in
    subst (λ (x : document.Recipe). IfSome c.node_of_place.result (λ node. IsNodeAt (procedure_nodes x.acts) node c.args.place.now)) same c.node_of_place.ensures.some

pub returns-clause-none : goal.returns-clause-none
returns-clause-none c = λ r is.
    let same : c.index.result.now ≡ r = grind (arith, is, c.index.ensures, c.from.ensures, slice_get-get_or, get_or_from_slice_get) in
    subst (λ (x : document.Recipe). IsNone c.node_of_place.result → NoNodeAt (procedure_nodes x.acts) c.args.place.now) same c.node_of_place.ensures.none
