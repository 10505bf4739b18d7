use Rattle.std.proofs.Common.{◌≡◌, ℕ, List, ◌++◌, drop, map}
use Rattle.std.specs.{Io.KnownBytes.Appends, List.zip}
use Rattle.batch_engine.specs.Names.{resource_name}
use Rattle.batch_wire.specs.Pieces.{roles_text}
use Rattle.batch_wire.proofs.record_line.write_bound.Given as goal

abbrev pub invariant-loop-i : goal.invariant-loop-i
invariant-loop-i g l = record {
  done : List ℕ;
  split : roles_text (zip (map (λ role. role.name) l.roles) (map (resource_name l.cleared) l.units))
      ≡ done ++ roles_text (zip (drop l.i (map (λ role. role.name) l.roles)) (drop l.i (map (resource_name l.cleared) l.units)));
  written : Appends (g.W.Write.contents l.initial.writer) (g.W.Write.contents l.writer) done;
}
