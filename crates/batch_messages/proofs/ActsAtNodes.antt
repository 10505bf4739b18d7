-- A recipe has an act, or none, at each of its nodes, and at no other number.
use Rattle.std.proofs.Common.{arith, ◌≡◌, ℕ, ◌≤◌, List, [], ◌∷◌, length, slice_get, None, refl}
use Rattle.std.proofs.lemmas.Option.{slice_get_past}
use Rattle.batch_recipe.{proofs.NodeActs.procedure_acts_are, specs.ActsAtNodes.ActList, specs.ActsAtNodes.AreActsAt, specs.ActsAtNodes.procedure_acts, specs.Expanding.Binding, specs.Nodes.Node, specs.Procedure.procedure_nodes, specs.declared.acts.Acts.Acts}

as_many : (bound : Binding) (acts : Acts) (list : ActList) (ns : List Node) → AreActsAt bound acts list ns → length list ≡ length ns
as_many bound acts [] [] h = refl
as_many bound acts [] (n ∷ ns) h = absurd h
as_many bound acts (a ∷ list) [] h = absurd h
as_many bound acts (a ∷ list) (n ∷ ns) h = grind (arith, as_many bound acts list ns h.1)

pub none_past : (acts : Acts) (k : ℕ) → length (procedure_nodes acts) ≤ k → slice_get (procedure_acts acts) k ≡ None
none_past acts k past =
    slice_get_past (procedure_acts acts) k
    (omega (arith, past, as_many _ acts (procedure_acts acts) (procedure_nodes acts) (procedure_acts_are _ acts)))
