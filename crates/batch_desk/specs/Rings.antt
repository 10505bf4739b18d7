-- surface: the identity of a ring.
use Rattle.std.specs.Prelude.{◌≡◌, ℕ, Option, option_map}
use denote.RawPtr.{Ptr}
use Rattle.std.specs.declared.alloc.Global.{Global}
use Rattle.rtrb.specs.Shared.{Names}
use Rattle.rtrb.specs.declared.AnyItems.{AnyItems}
use Rattle.rtrb.specs.declared.producer.Producer.{Producer}
use Rattle.rtrb.specs.declared.consumer.Consumer.{Consumer}
use Rattle.rtrb.specs.declared.finished.Finished.{Finished}

-- the identity of a ring: where its words and places are, and who allocated it
abbrev pub Ring : Type 0
Ring = Ptr × Ptr × Names × Global

abbrev pub ring_of_producer : {T : Type 0} → Producer T Global AnyItems → Ring
ring_of_producer p = (p.end.words, p.end.slots, p.end.names, p.end.heap)

abbrev pub ring_of_consumer : {T : Type 0} → Consumer T Global AnyItems → Ring
ring_of_consumer c = (c.end.words, c.end.slots, c.end.names, c.end.heap)

-- how many places a ring has
abbrev pub places_of : Ring → ℕ
places_of ring = ring.2.0

-- how many places the rings of a port have: that of its events, and until it is sealed that of its outs
abbrev pub sizes_of : Ring × Option Ring → ℕ × Option ℕ
sizes_of rings = (places_of rings.0, option_map places_of rings.1)

-- the token was given when this ring's producer finished
abbrev pub IsOfRing : {T : Type 0} → Finished T Global AnyItems → Ring → Type 0
IsOfRing f ring = (f.end.words, f.end.slots, f.end.names, f.end.heap) ≡ ring
