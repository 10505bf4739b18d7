-- worked rows: the events and refusals of event lines, worked out.
use Rattle.std.specs.Prelude.{◌≡◌, [], ◌∷◌, Some, Ok, Err, codes}
use Rattle.batch_model.specs.Events.{create}
use Rattle.batch_wire.specs.EventLine.{event_of_line}
use Rattle.batch_wire.specs.declared.fault.WireFault.TheVariants.{ExtraArgument, BadArgument}

abbrev pub BoundRoles : Type 0
BoundRoles = event_of_line (codes "create B 7 rx=R2 ry=R1") ≡ Ok (Some (create (codes "B") 7 ((codes "rx", codes "R2") ∷ (codes "ry", codes "R1") ∷ [])))

-- the reader doesn't ask whether a role is bound twice
abbrev pub RoleBoundTwice : Type 0
RoleBoundTwice = event_of_line (codes "create B 7 rx=R1 rx=R2") ≡ Ok (Some (create (codes "B") 7 ((codes "rx", codes "R1") ∷ (codes "rx", codes "R2") ∷ [])))

abbrev pub RoleWithoutUnit : Type 0
RoleWithoutUnit = event_of_line (codes "create B 7 rx") ≡ Err BadArgument

abbrev pub FifthRole : Type 0
FifthRole = event_of_line (codes "create B 7 a=R1 b=R1 c=R1 d=R1 e=R1") ≡ Err ExtraArgument
