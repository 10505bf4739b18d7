use Rattle.std.proofs.Common.{◌≡◌, true, false, le_trans, string_bytes}
use Rattle.batch_recipe.{specs.Procedure.procedure_nodes, specs.Procedure.procedure_tree, proofs.PlaceTexts.told_more, proofs.PlaceTexts.told_all, proofs.PlaceTexts.told_node, proofs.PlaceTexts.place_ends, proofs.ShallowPlaces.root_shallow}
use Rattle.batch_verdicts.proofs.texts.places.place_text.Goals as goal
use Rattle.batch_verdicts.proofs.texts.places.place_text.Goals.{else-loop-depth-test, then-loop-depth-test+in-None}

pub loop-depth-preserved : goal.loop-depth-preserved
loop-depth-preserved c = record {
  told = λ at found.
      told_more at.place c.loop-depth.depth c.in-Some.number _ _ (c.loop-depth.invariant.told at found) (c.in-Some.ensures.number at found)
      c.in_ok-push_number-in-Some.ensures;
  past = λ beyond. let bad : true ≡ false = c.in-Some.ensures.past beyond in absurd cc;
}

pub returns : goal.returns
returns c =
    told_node (procedure_nodes c.args.recipe.now.acts) c.args.node (string_bytes c.loop-depth.text)
    (λ at found.
    told_all at.place c.loop-depth.depth _ (c.loop-depth.invariant.told at found)
    (elim c.loop-depth-test.branch [
      | else-loop-depth-test w ↦ le_trans (root_shallow (procedure_tree c.args.recipe.now.acts) c.args.node at found) (le_trans c.args.recipe.now.small w.loop-depth-test.false)
      | then-loop-depth-test+in-None w ↦ place_ends at.place c.loop-depth.depth (w.in-None.ensures.number at found)
    ]))
    c.loop-depth.invariant.past
