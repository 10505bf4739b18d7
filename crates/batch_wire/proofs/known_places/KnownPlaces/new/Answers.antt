use Rattle.std.proofs.lemmas.List.Elements.{All-replicate}
use Rattle.batch_wire.specs.Known.{AreKnownIn}
use Rattle.batch_wire.proofs.known_places.KnownPlaces.new.Goals as goal

pub returns : goal.returns
returns c = λ cleared. All-replicate (AreKnownIn cleared) 64 c.new.result (c.new.ensures cleared)
