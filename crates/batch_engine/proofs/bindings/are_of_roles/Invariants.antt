use Rattle.std.proofs.Common.{◌≡◌, drop, map}
use Rattle.batch_engine.specs.Bindings.{are_of_roles}
use Rattle.batch_engine.proofs.bindings.are_of_roles.Given as goal

abbrev pub invariant-loop-index : goal.invariant-loop-index
invariant-loop-index l = are_of_roles (map (λ role. role.name) l.roles) (drop l.index l.pairs) ≡ are_of_roles (map (λ role. role.name) l.roles) l.pairs
