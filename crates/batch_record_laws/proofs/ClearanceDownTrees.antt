-- Clearance, by recursion down the trees, as the proofs use it.
use Rattle.std.specs.Prelude.{◌≡◌, suc, List, [], ◌∷◌, ◌++◌, IsTrue, ⊤, Some, slice_get}
use Rattle.batch_model.specs.{Lists.Has, Lists.Each, ActStates.steps, Placed.IsPlaced, Plant.Setup, Plant.Recipe, Cleared.Ranking, Cleared.phases, Cleared.phases_of_each, Standing.IsControl}
use Rattle.batch_recipe.specs.{Conditions.Name, Following.follower, Tree.Place, Tree.Step, Tree.Phase, Tree.Task, Tree.runs, Tree.follows, Tree.Tree, Tree.act, Tree.skip, Tree.seq, Tree.par, Tree.sel, Tree.loop, Tree.Trees, Tree.no_trees, Tree.tree, Tree.Choices, Tree.otherwise, Tree.choice, declared.need.Need.Need, Needs.one_unit}
use Rattle.batch_record_laws.{specs.Procedures.ReservesUnits, specs.Ways.RisesDown, proofs.PhaseStepPlaces.FollowersAreAvoided}

abbrev pub IsOfferedPhase : Setup → Phase → Type 0
IsOfferedPhase d x = IsTrue (d.offers x.unit x.name)

abbrev pub IsSamePhase : Phase → Phase → Type 0
IsSamePhase x y = (x.unit ≡ y.unit) × (x.name ≡ y.name)

-- no phase of one chart is a phase of the other on a unit of which one is needed above
abbrev pub AreApart : List Need → List Phase → List Phase → Type 0
AreApart above xs ys = (x y : Phase) → Has xs x → Has ys y → Has above (one_unit x.unit) → IsSamePhase x y → ⊥

abbrev mutual
  -- each phase runs on a unit that an act above it needs, and no two branches of one `par` run the same phase
  -- of a unit that is needed above; `above` has the needs of all acts above the chart
  pub RunsInUnits : List Need → Tree → Type 0
  RunsInUnits above (act s w) = RunsInUnitsBelow s.needs above w
  RunsInUnits above skip = ⊤
  RunsInUnits above (seq cs) = RunInUnits above cs
  RunsInUnits above (par cs) = RunSideBySide above cs
  RunsInUnits above (sel ch) = ChoicesRunInUnits above ch
  RunsInUnits above (loop n c body) = RunsInUnits above body

  pub RunsInUnitsBelow : List Need → List Need → Task → Type 0
  RunsInUnitsBelow needs above (runs x) = Has above (one_unit x.unit)
  RunsInUnitsBelow needs above (follows name c) = RunsInUnits (needs ++ above) c

  pub RunInUnits : List Need → Trees → Type 0
  RunInUnits above no_trees = ⊤
  RunInUnits above (tree c cs) = RunsInUnits above c × RunInUnits above cs

  pub RunSideBySide : List Need → Trees → Type 0
  RunSideBySide above no_trees = ⊤
  RunSideBySide above (tree c cs) =
      RunsInUnits above c × AreApart above (phases c) (phases_of_each cs) × RunSideBySide above cs

  pub ChoicesRunInUnits : List Need → Choices → Type 0
  ChoicesRunInUnits above (otherwise c) = RunsInUnits above c
  ChoicesRunInUnits above (choice d c ch) = RunsInUnits above c × ChoicesRunInUnits above ch

-- the step asks first for one unit of a resource that one act alone can hold
abbrev pub BeginsAlone : Setup → Step → Type 0
BeginsAlone d s = (own : Need) × (slice_get s.needs 0 ≡ Some own) × (own.units ≡ 1) × (d.capacity own.resource ≡ 1)

-- each follower is a step of the tree that does so
abbrev pub FollowersBeginAlone : Setup → Tree → Type 0
FollowersBeginAlone d c = (place : Place) (name : Name) (to : Place) → follower c place name ≡ Some to → (s : Step) × Has (steps c) s × (s.place ≡ to) × BeginsAlone d s

pub record IsClearedDown (d : Setup) (rank : Ranking) (r : Recipe) : Type 0 where
  pub placed : IsPlaced (0 ∷ []) r.procedure
  pub rising : RisesDown (λ q. suc (rank q)) 0 r.procedure
  pub in_units : RunsInUnits [] r.procedure
  pub offered : Each (IsOfferedPhase d) (phases r.procedure)
  pub single : Each (λ x. d.capacity x.unit ≡ 1) (phases r.procedure)
  pub reserved : ReservesUnits r.procedure
  pub followed : FollowersBeginAlone d r.procedure
  pub avoided : FollowersAreAvoided r.procedure

pub record AreClearedDown (d : Setup) (rank : Ranking) : Type 0 where
  pub recipes : (r : Recipe) → IsControl d r → IsClearedDown d rank r
