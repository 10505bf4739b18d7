use Rattle.std.proofs.Common.{◌∙◌, Option, Vec, refl, sym, subst, arith}
use Rattle.std.specs.{Global.Global, Option.ForSome}
use Rattle.batch_verify.specs.{PhaseSets.AreKnownFrom, declared.tree_phases.TreePhases.TreePhases}
use Rattle.batch_verify.proofs.trees.Trees.are_apart.Goals as goal
use Rattle.batch_verify.proofs.trees.Trees.are_apart.Goals.{in-Some, in-None+in_ok-trees-in-None}

pub returns-clause-apart : goal.returns-clause-apart
returns-clause-apart c = λ x at.
    let acts = c.args.recipe.now.acts in
    let known : AreKnownFrom acts c.match-take.trees.items 0 = elim c.match-take.branch [
      | in-Some w ↦
          rw w.trees-is
          (subst (λ (o : Option (Vec TreePhases Global)). ForSome o (λ all. AreKnownFrom acts all.items 0)) (sym c.take.ensures.value ∙ w.in-Some.is) c.requires.known.phases _ refl)
      | in-None+in_ok-trees-in-None w ↦ rw w.trees-is w.in_ok-trees-in-None.ensures
    ] in
    let tree = rw (← c.index.ensures) at (known.each c.from.result x c.index.result.now (omega arith) (rw c.from.ensures at)) in
    tree.apart
