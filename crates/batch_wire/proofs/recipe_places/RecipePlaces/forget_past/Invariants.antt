use Rattle.batch_wire.specs.Known.{IsCutBack}
use Rattle.batch_wire.proofs.recipe_places.RecipePlaces.forget_past.Given as goal

abbrev pub invariant-loop-self : goal.invariant-loop-self
invariant-loop-self l = IsCutBack l.initial.self l.self

abbrev pub decreases-loop-self : goal.decreases-loop-self
decreases-loop-self l = l.self.depth
