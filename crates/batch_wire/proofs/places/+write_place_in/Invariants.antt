use Rattle.batch_wire.proofs.places.+write_place_in.Given as goal

abbrev pub decreases-write_place_in : goal.decreases-write_place_in
decreases-write_place_in g l = l.node
