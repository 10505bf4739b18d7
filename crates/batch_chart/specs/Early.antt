-- trusted: nodes that hold their units in advance, and acts that take these over once they are reached.
use Rattle.std.specs.Prelude.{◌≡◌, ◌⊎◌, ◌<◌, ℕ, List, ◌∷◌, take, map, filter, length, Bool, true, false, not, nat_eq, nat_lt, slice_index_or, ⊤}
use Rattle.std.specs.List.{list_any}
use Rattle.batch_matrix.specs.declared.report.Report.{Report}
use Rattle.batch_recipe.specs.Conditions.{ValueList}
use Rattle.batch_recipe.specs.Tree.{Place, Tree}
use Rattle.batch_recipe.specs.declared.entry.Entry.{Entry}
use Rattle.batch_recipe.specs.declared.recipe.Recipe.{Recipe}
use Rattle.batch_model.specs.Lists.{Has}
use Rattle.batch_model.specs.Plant.{InAdvance}
use Rattle.batch_model.specs.Rest.{same_place, Rest, ready, open_act, in_seq, in_par, in_loop, Rests, no_rests, rest}
use Rattle.batch_chart.specs.declared.passed.Passed.{Passed}
use Rattle.batch_chart.specs.declared.stage.Stage.{Stage}
use Rattle.batch_chart.specs.declared.stage.Stage.TheVariants.{Ready}
use Rattle.batch_chart.specs.Meaning.{meaning}
use Rattle.batch_chart.specs.Needs.{needs_of_kind}
use Rattle.batch_chart.specs.Noting.{HasCome}
use Rattle.batch_chart.specs.Outlined.{kind_at}
use Rattle.batch_chart.specs.NodesOf.{need_at, place_at}
use Rattle.batch_chart.specs.Running.{IsLaid, IsAlive, HasMade, HasReported}
use Rattle.batch_chart.specs.declared.chart_move.Move.{Move}
use Rattle.batch_chart.specs.declared.chart_move.Move.TheVariants as move
use Rattle.batch_chart.specs.Stages.{stage_at}
use Rattle.batch_chart.specs.Upkeep.{IsKeptUp}

-- node k holds its unit in advance
abbrev pub is_early : List Passed → ℕ → Bool
is_early held k = list_any (λ p. nat_eq p.to k) held

-- the units that are held in advance, with their places in a tree
abbrev pub in_advance : Tree → List Passed → List InAdvance
in_advance t held = map (λ p. record { place = place_at t p.to; unit = need_at t p.node p.need }) held

-- number j of those that hold in advance
abbrev pub to_at : List Passed → ℕ → ℕ
to_at held j = (slice_index_or held j (record { to = 0; node = 0; need = 0 })).to

-- each is a node
abbrev pub AreNodes : List Entry → List Passed → Type 0
AreNodes ns held = (j : ℕ) → j < length held → to_at held j < length ns

abbrev pub is_ready : Stage → Bool
is_ready (Ready held) = true
is_ready _ = false

-- how many needs an act with so many holds that holds its first one: 0 if it has none
abbrev pub first_held : ℕ → ℕ
first_held needs = elim (nat_lt 0 needs) [ true ↦ 1 | false ↦ 0 ]

-- a ready act holds its first need
abbrev pub taking_first : Rest → Rest
taking_first (ready s w k) = ready s w (length (take 1 s.needs))
taking_first a = a

-- so do those at places that pass the test
abbrev mutual
  pub taken_by : (Place → Bool) → Rest → Rest
  taken_by q (ready s w k) = elim (q s.place) [ true ↦ ready s w (length (take 1 s.needs)) | false ↦ ready s w k ]
  taken_by q (open_act s r) = open_act s (taken_by q r)
  taken_by q (in_seq r charts) = in_seq (taken_by q r) charts
  taken_by q (in_par rs) = in_par (taken_by_each q rs)
  taken_by q (in_loop k p body r) = in_loop k p body (taken_by q r)
  taken_by q r = r

  pub taken_by_each : (Place → Bool) → Rests → Rests
  taken_by_each q no_rests = no_rests
  taken_by_each q (rest r rs) = rest (taken_by q r) (taken_by_each q rs)

-- the place is that of one of these nodes
abbrev pub is_of : Tree → List ℕ → Place → Bool
is_of t ks = λ p. list_any (λ k. same_place p (place_at t k)) ks

-- the act at node n holds its first need, if it was ready
abbrev pub IsTakenAt : List Entry → ℕ → List Stage → List Stage → List ℕ → List ℕ → Type 0
IsTakenAt ns n xs ys old new =
    ((j : ℕ) × (stage_at xs n ≡ Ready j) × HasCome ns n (Ready (first_held (needs_of_kind (kind_at ns n)))) xs ys old new)
    ⊎ ((is_ready (stage_at xs n) ≡ false) × (ys ≡ xs) × (new ≡ old))

-- so do those of the first so many that hold in advance
pub record IsTakenTo (ns : List Entry) (doc : Recipe) (held : List Passed) (end : ℕ) (xs ys : List Stage) (old new : List ℕ) : Type 0 where
  pub taken : List ℕ
  pub means : (t : Tree) → IsLaid ns doc t → IsAlive t xs → IsAlive t ys × (meaning t 0 ys ≡ taken_by (is_of t taken) (meaning t 0 xs))
  pub kept : IsKeptUp ns doc xs ys old new
  pub were : (k : ℕ) → Has taken k → ((j : ℕ) × (j < end) × (to_at held j ≡ k)) × (is_ready (stage_at xs k) ≡ true)
  pub all : (j : ℕ) → j < end → is_ready (stage_at xs (to_at held j)) ≡ true → Has taken (to_at held j)
  pub ready : (k : ℕ) → is_ready (stage_at ys k) ≡ is_ready (stage_at xs k)

-- all that hold in advance do, where these are the nodes that pass the test
pub record IsTakenBy (ns : List Entry) (doc : Recipe) (early : ℕ → Bool) (xs ys : List Stage) (old new : List ℕ) : Type 0 where
  pub taken : List ℕ
  pub means : (t : Tree) → IsLaid ns doc t → IsAlive t xs → IsAlive t ys × (meaning t 0 ys ≡ taken_by (is_of t taken) (meaning t 0 xs))
  pub kept : IsKeptUp ns doc xs ys old new
  pub were : (k : ℕ) → Has taken k → (early k ≡ true) × (is_ready (stage_at xs k) ≡ true)
  pub all : (k : ℕ) → early k ≡ true → is_ready (stage_at xs k) ≡ true → Has taken k
  pub ready : (k : ℕ) → is_ready (stage_at ys k) ≡ is_ready (stage_at xs k)

-- the needs held in advance after a move: a node that held none holds that of a pass
abbrev pub held_after : List Passed → Move → List Passed
held_after held (move.Pass k to i) = elim (is_early held to) [ true ↦ held | false ↦ record { to = to; node = k; need = i } ∷ held ]
held_after held _ = held

-- the needs still held in advance: those for acts that aren't ready at these stages
abbrev pub still_held : List Stage → List Passed → List Passed
still_held xs held = filter (λ p. not (is_ready (stage_at xs p.to))) held

-- the held passes go to nodes below count, and there is room for more than `most`
pub record AreHeld (count most : ℕ) (held : List Passed) (room : ℕ) : Type 0 where
  pub within : (p : Passed) → Has held p → p.to < count
  pub enough : most < room

-- a pass goes to one of so many nodes
abbrev pub PassesWithin : ℕ → Move → Type 0
PassesWithin count (move.Pass k to i) = to < count
PassesWithin count _ = ⊤

-- a move has been made, and the acts that it reaches have taken over the units held for them
pub record IsMovedOn (ns : List Entry) (doc : Recipe) (vs : ValueList) (m : Move) (held : List Passed) (xs ys : List Stage) (old new : List ℕ) : Type 0 where
  pub mid : List Stage
  pub signs : List ℕ
  pub made : HasMade ns doc vs m xs mid
  pub kept : IsKeptUp ns doc xs mid old signs
  pub over : IsTakenBy ns doc (is_early held) mid ys signs new

-- so has a report been taken
pub record IsReportedOn (ns : List Entry) (doc : Recipe) (vs : ValueList) (k : ℕ) (word : Report) (held : List Passed) (xs ys : List Stage) (old new : List ℕ) : Type 0 where
  pub mid : List Stage
  pub signs : List ℕ
  pub reported : HasReported ns doc vs k word xs mid
  pub kept : IsKeptUp ns doc xs mid old signs
  pub over : IsTakenBy ns doc (is_early held) mid ys signs new
