use Rattle.std.proofs.Common.{◌≡◌, suc, List, [], ◌∷◌, Bool, map, ap, ◌∙◌, refl, subst, arith}
use Rattle.batch_recipe.specs.{Nodes.Node, Procedure.procedure_nodes}
use Rattle.batch_model.specs.Cleared.{surely_runs}
use Rattle.batch_verify.{specs.RunningNodes.RunsFrom, proofs.RunningTrees.same_at}
use Rattle.batch_verify.proofs.running_nodes.running_nodes.Goals as goal

-- all nodes are known once those from the first on are
RunsFrom-all : (ns : List Node) (runs : List Bool) → RunsFrom ns runs 0 → runs ≡ map (λ x. surely_runs x.here) ns
RunsFrom-all [] [] h = refl
RunsFrom-all [] (b ∷ bs) h = absurd (omega (arith, h.0))
RunsFrom-all (x ∷ ns) [] h = absurd (omega (arith, h.0))
RunsFrom-all (x ∷ ns) (b ∷ bs) h =
    let rest = RunsFrom-all ns bs (omega (arith, h.0), λ k y past at. h.1 (suc k) y (omega arith) at) in
    ap (λ c. c ∷ bs) (same_at (b ∷ bs) 0 b (surely_runs x.here) refl (h.1 0 x (omega arith) refl)) ∙ ap (λ cs. surely_runs x.here ∷ cs) rest

pub returns : goal.returns
returns c =
    let none : c.loop-node.node ≡ 0 = omega (arith, c.loop-node-test.false) in
    RunsFrom-all (procedure_nodes c.args.recipe.now.acts) c.loop-node.runs.items
    (subst (λ n. RunsFrom (procedure_nodes c.args.recipe.now.acts) c.loop-node.runs.items n) none c.loop-node.invariant)
