-- The facts of a plant: the resources that acts hold and await, and the phases that they perform.
use Rattle.std.specs.{Prelude.ℕ, Prelude.List, Prelude.[], Prelude.◌∷◌, Prelude.◌++◌, Prelude.take, Prelude.map, Prelude.flat_map, Prelude.Option, Prelude.Some, Prelude.None, Prelude.slice_get, Prelude.true, Prelude.false, Str.bytes_eq}
use Rattle.batch_recipe.specs.{Conditions.Name, Tree.Place, Tree.Phase, declared.need.Need.Need}
use Rattle.batch_model.specs.{Rest.Rest, Rest.ready, Rest.asking, Rest.open_act, Rest.live, Rest.freeing, Rest.in_seq, Rest.in_par, Rest.in_loop, Rest.done, Rest.Rests, Rest.no_rests, Rest.rest, Plant.InAdvance, Plant.Batch, Plant.BatchAct, Plant.Share}

pub data Fact : Type 0 where
  -- so much of a resource is held
  holding : Need → Fact
  -- so much of a resource is asked for
  awaiting : Need → Fact
  -- the phase is live
  performing : Phase → Fact

-- a fact and the place of its act
abbrev pub Standing : Type 0
Standing = Place × Fact

abbrev pub held_at : Place → List Need → List Standing
held_at p names = map (λ r. (p, holding r)) names

abbrev pub awaited_at : Place → Option Need → List Standing
awaited_at p None = []
awaited_at p (Some r) = (p, awaiting r) ∷ []

-- the facts of the acts of a rest
abbrev mutual
  pub facts : Rest → List Standing
  facts (ready s w k) = held_at s.place (take k s.needs)
  facts (asking s w k) = held_at s.place (take k s.needs) ++ awaited_at s.place (slice_get s.needs k)
  facts (open_act s r) = held_at s.place s.needs ++ facts r
  facts (live s x t) = held_at s.place s.needs ++ (s.place, performing x) ∷ []
  facts (freeing s k) = held_at s.place (take k s.needs)
  facts (in_seq r cs) = facts r
  facts (in_par rs) = facts_of_each rs
  facts (in_loop n c body r) = facts r
  facts done = []

  pub facts_of_each : Rests → List Standing
  facts_of_each no_rests = []
  facts_of_each (rest r rs) = facts r ++ facts_of_each rs

-- a fact and its act
abbrev pub Entry : Type 0
Entry = BatchAct × Fact

abbrev pub entry : ℕ → Standing → Entry
entry n e = ((n, e.0), e.1)

-- the holdings in advance
abbrev pub early_facts : List InAdvance → List Standing
early_facts xs = map (λ held. let e : Standing = (held.place, holding held.unit) in e) xs

-- the facts of a batch
abbrev pub batch_facts : Batch → List Standing
batch_facts b = early_facts b.in_advance ++ facts b.rest

abbrev pub entries_of : Batch → List Entry
entries_of b = map (entry b.number) (batch_facts b)

abbrev pub entries : List Batch → List Entry
entries bs = flat_map entries_of bs

-- so many units of a resource, and as many that an act holds or asks for
abbrev pub need : Name → ℕ → Need
need q k = record { resource = q; units = k }

abbrev pub share : BatchAct → ℕ → Share
share a k = record { act = a; units = k }

-- the shares of a resource that are held
abbrev pub holder_of : Name → Entry → List Share
holder_of q (a, holding r) = elim (bytes_eq q r.resource) [ true ↦ share a r.units ∷ [] | false ↦ [] ]
holder_of q (a, awaiting r) = []
holder_of q (a, performing x) = []

abbrev pub holders_among : Name → List Entry → List Share
holders_among q es = flat_map (holder_of q) es
