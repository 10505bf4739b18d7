use Rattle.std.proofs.Common.{◌≡◌, ◌≤◌, [], Some, length, slice_get, string_bytes}
use Rattle.batch_recipe.{specs.Nodes.Node, specs.Procedure.procedure_nodes, proofs.PlaceTexts.Tells}
use Rattle.batch_verdicts.proofs.texts.places.place_text.Given as goal

abbrev pub invariant-loop-depth : goal.invariant-loop-depth
invariant-loop-depth l = record {
  told : (at : Node) → slice_get (procedure_nodes l.recipe.acts) l.node ≡ Some at → Tells at.place l.depth (string_bytes l.text);
  past : length (procedure_nodes l.recipe.acts) ≤ l.node → string_bytes l.text ≡ [];
}
