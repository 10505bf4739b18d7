use Rattle.std.proofs.lemmas.List.Elements.{All-set}
use Rattle.batch_wire.specs.Known.{AreKnownIn}
use Rattle.batch_wire.proofs.record_line.add_out.Goals as goal

pub returns-clause-known : goal.returns-clause-known
returns-clause-known g c =
    All-set (AreKnownIn c.args.cleared.now) c.args.places.now.entries c.seat_of-seat.result c.add_site.new.places c.add_site.ensures.known c.requires
