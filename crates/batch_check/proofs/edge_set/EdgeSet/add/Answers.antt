use Rattle.std.proofs.Common.{◌∷◌, [], List, IsTrue, inl, inr, subst}
use Rattle.std.{specs.List.Contains, proofs.lemmas.List.Elements.Contains-append_cases}
use Rattle.batch_check.{specs.declared.edge.Edge.Edge, specs.Edges.has_pair, proofs.EdgeBits.none-before, proofs.EdgesFromNeeds.Contains-one}
use Rattle.batch_check.proofs.edge_set.EdgeSet.add.Goals as goal

pub returns-in_ok-push-clause-fresh : goal.returns-in_ok-push-clause-fresh
returns-in_ok-push-clause-fresh c = λ e stands.
    let set = c.args.self.now in
    let edge = c.args.edge in
    elim (Contains-append_cases set.edges.items (edge ∷ []) e (subst (λ (es : List Edge). Contains es e) c.in_ok-push.ensures.items stands)) [
      | inl among ↦ inl among
      | inr added ↦ inr (subst (λ (x : Edge). ¬ (IsTrue (has_pair set.edges.items x.earlier x.later))) (Contains-one edge e added)
          (none-before set.count set.known.items set.edges.items edge.earlier edge.later c.index-known.result.now c.with_bit-marked.result set.few set.sized set.exact c.requires.earlier c.requires.later
          (rw (← c.from.ensures, ← c.from-2.ensures) c.index-known.ensures) (rw (← c.from.ensures, ← c.from-2.ensures) c.with_bit-marked.ensures) c.if-marked-known.true))
    ]
