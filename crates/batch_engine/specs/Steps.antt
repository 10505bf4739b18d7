-- private: the step that the engine makes next.
use Rattle.std.specs.Prelude.{◌≡◌, ◌<◌, ◌≤◌, ℕ, [], Option, Some, None, IfSome, option_map, slice_get, length, position, ⊤}
use Rattle.batch_model.specs.Moves as Model
use Rattle.batch_model.specs.Moves.{next, after_move, least, batch_moves, grant}
use Rattle.batch_model.specs.Plant.{batch_at}
use Rattle.batch_arbiter.specs.Allocation.{Allocation, IsHeld, after_ask, batch_node, next_grant, after_pass, after_release, resource_count}
use Rattle.batch_chart.specs.NodesOf.{node_at, place_at, step_at, need_at, phase_at, phase_named}
use Rattle.batch_cell.specs.LookUps.{units_of}
use Rattle.batch_recipe.specs.Conditions.{Name, same_name}
use Rattle.batch_recipe.specs.Nodes.{node_count}
use Rattle.batch_chart.specs.Charts.{CanMake, IsWaitingAt, AsksAt, remains, StandsFor}
use Rattle.batch_chart.specs.OwnMoves.{grants}
use Rattle.batch_chart.specs.Seen.{machine_move}
use Rattle.batch_recipe.specs.declared.recipe.Recipe as document
use Rattle.batch_chart.specs.declared.chart_move.Move.{Move}
use Rattle.batch_chart.specs.declared.chart_move.Move.TheVariants.{Ask, Pass, Release, State}
use Rattle.batch_engine.specs.declared.batch.Batch.{Batch}
use Rattle.batch_engine.specs.declared.line.ClaimKind.{ClaimKind}
use Rattle.batch_engine.specs.declared.line.Line.{Line}
use Rattle.batch_engine.specs.declared.step.Step.{Step}
use Rattle.batch_engine.specs.declared.step.Step.TheVariants.{Own, Grant}
use Rattle.batch_engine.specs.Kept.{IsKept}
use Rattle.batch_engine.specs.Marked.{HasNoMove}
use Rattle.batch_engine.specs.Names.{resource_name, phase_name}
use Rattle.batch_engine.specs.Surface as Surface
use Rattle.batch_set.specs.Linking.{IsLinkedSet}
use Rattle.batch_set.specs.declared.linked_set.LinkedSet.{LinkedSet}
use Rattle.batch_verify.specs.ClearedSet.{ClearedSet}
use Rattle.batch_engine.specs.View.{EngineView, setup, model_batch, resource_number, plant_of, tree_of}

-- the batch at an index, and its recipe
pub record BatchAt (v : EngineView) (i : ℕ) (b : Batch) (chart : document.Recipe) : Type 0 where
  pub at : slice_get v.batches i ≡ Some b
  pub listed : slice_get v.cleared.recipes b.recipe ≡ Some chart

-- a move of kinds 1 to 5 of the batch at an index, of which `told` holds
pub record IsOwnStep (v : EngineView) (told : Model.Move → Type 0) (i : ℕ) (m : Move) : Type 0 where
  pub batch : Batch
  pub chart : document.Recipe
  pub here : BatchAt v i batch chart
  pub can : CanMake chart batch.running m
  pub about : StandsFor (tree_of v.cleared batch) (remains (tree_of v.cleared batch) batch.running) m
  pub is : told (machine_move (tree_of v.cleared batch) (model_batch v.cleared batch) m)

-- the act at this node of the batch with this number would be served of the resource
abbrev pub IsServedNode : Allocation → ℕ → ℕ → ℕ → Type 0
IsServedNode a resource number node = option_map batch_node (next_grant a resource) ≡ Some (number, node)

-- the act at a node of the batch is given a resource, which the arbiter would give to it
pub record IsGrantStep (v : EngineView) (told : Model.Move → Type 0) (i node resource units : ℕ) : Type 0 where
  pub batch : Batch
  pub chart : document.Recipe
  pub here : BatchAt v i batch chart
  pub waits : IsWaitingAt chart batch.running node
  pub need : ℕ
  pub asks : AsksAt (tree_of v.cleared batch) (remains (tree_of v.cleared batch) batch.running) node need
  pub number : resource_number v.cleared (need_at (tree_of v.cleared batch) node need).resource ≡ Some resource
  pub units_are : (need_at (tree_of v.cleared batch) node need).units ≡ units
  pub first : IsServedNode v.allocation resource batch.number node
  pub is : told (grant batch.number (place_at (tree_of v.cleared batch) node) (need_at (tree_of v.cleared batch) node need))

abbrev pub IsStep : EngineView → (Model.Move → Type 0) → Step → Type 0
IsStep v told (Own i m) = IsOwnStep v told i m
IsStep v told (Grant i node resource units) = IsGrantStep v told i node resource units

abbrev pub index_of : Step → ℕ
index_of (Own i m) = i
index_of (Grant i node resource units) = i

-- the least move of the batch at an index
pub record IsLeastAt (v : EngineView) (i : ℕ) (m : Model.Move) : Type 0 where
  pub batch : Batch
  pub at : slice_get v.batches i ≡ Some batch
  pub least_is : least (batch_moves (setup v.cleared) (plant_of v) (model_batch v.cleared batch)) ≡ Some m

abbrev pub IsBatchStep : EngineView → ℕ → Option Step → Type 0
IsBatchStep v i None = HasNoMove v i
IsBatchStep v i (Some s) = (index_of s ≡ i) × IsStep v (IsLeastAt v i) s

abbrev pub IsNext : EngineView → Model.Move → Type 0
IsNext v m = next (setup v.cleared) (plant_of v) ≡ Some m

abbrev pub IsNextStep : EngineView → Option Step → Type 0
IsNextStep v None = next (setup v.cleared) (plant_of v) ≡ None
IsNextStep v (Some s) = IsStep v (IsNext v) s

-- a batch of the engine
abbrev pub IsBatch : EngineView → Batch → Type 0
IsBatch v b = (i : ℕ) × (slice_get v.batches i ≡ Some b)

-- the batch of the engine with this number, if one has it
abbrev pub IsFoundBy : EngineView → ℕ → Option Batch → Type 0
IsFoundBy v n None = batch_at (plant_of v) n ≡ None
IsFoundBy v n (Some b) = IsBatch v b × (batch_at (plant_of v) n ≡ Some (model_batch v.cleared b))

-- the first act of a batch in a queue that the arbiter would serve
abbrev pub IsFirstGrant : EngineView → Batch → Option (ℕ × ℕ × ℕ) → Type 0
IsFirstGrant v b None = grants (setup v.cleared) (plant_of v) (model_batch v.cleared b) ≡ []
IsFirstGrant v b (Some (node, resource, units)) =
    (i : ℕ) → slice_get v.batches i ≡ Some b → IsGrantStep v (λ m. least (grants (setup v.cleared) (plant_of v) (model_batch v.cleared b)) ≡ Some m) i node resource units

-- no act of the batch with this number would be served, from one node on up to another
pub record AreUnserved (v : EngineView) (number from to : ℕ) : Type 0 where
  pub on : from ≤ to
  pub none : (resource node : ℕ) → resource < resource_count v.allocation → IsServedNode v.allocation resource number node → from ≤ node → to ≤ node

-- the resource of which the move of a line gives or takes a share
abbrev pub touched_by : Line → Option ℕ
touched_by (Line.Claim ClaimKind.Granted batch recipe node resource units) = Some resource
touched_by (Line.Claim ClaimKind.Released batch recipe node resource units) = Some resource
touched_by _ = None

-- a move of an act, and no change of the batch's state
abbrev pub IsOfAct : Move → Type 0
IsOfAct (State state) = ⊥
IsOfAct m = ⊤

-- the engine makes its plant's next move, m
pub record Makes (old new : EngineView) (m : Model.Move) : Type 0 where
  pub cleared : new.cleared ≡ old.cleared
  pub plant : plant_of new ≡ after_move (plant_of old) m

-- the engine makes its plant's next move
abbrev pub MakesNext : EngineView → EngineView → Type 0
MakesNext old new = (m : Model.Move) → IsNext old m → Makes old new m

-- the act at the node of a batch of the engine, whose recipes are linked so, has this need; the batch is one of this recipe
pub record IsNeedAt (v : EngineView) (set : LinkedSet) (recipe : document.Recipe) (b : Batch) (node need : ℕ) : Type 0 where
  pub kept : IsKept v
  pub linked : IsLinkedSet v.cleared.cell v.cleared.recipes set
  pub index : ℕ
  pub at : slice_get v.batches index ≡ Some b
  pub listed : slice_get v.cleared.recipes b.recipe ≡ Some recipe
  pub few : node < node_count (tree_of v.cleared b)
  pub less : need < length (step_at (tree_of v.cleared b) node).needs

-- this is the number of the resource that the act at the node of a batch needs, and how many units of it
abbrev pub IsNumberAt : ClearedSet → Batch → ℕ → ℕ → ℕ → ℕ → Type 0
IsNumberAt c b node need resource units =
    (resource_number c (need_at (tree_of c b) node need).resource ≡ Some resource) × ((need_at (tree_of c b) node need).units ≡ units)

-- this batch, at an index, makes its plant's next move
pub record IsMover (v : EngineView) (i : ℕ) (b : Batch) (m : Move) : Type 0 where
  pub kept : IsKept v
  pub at : slice_get v.batches i ≡ Some b
  pub can : (chart : document.Recipe) → slice_get v.cleared.recipes b.recipe ≡ Some chart → CanMake chart b.running m
  pub about : StandsFor (tree_of v.cleared b) (remains (tree_of v.cleared b) b.running) m
  pub is : IsNext v (machine_move (tree_of v.cleared b) (model_batch v.cleared b) m)

-- the arbiter carries out the ask, the release or the pass of the line
abbrev pub claimed_by : Line → Allocation → Allocation
claimed_by (Line.Claim ClaimKind.Asked batch recipe node resource units) a = after_ask resource (record { batch = batch; node = node; units = units }) a
claimed_by (Line.Claim ClaimKind.Released batch recipe node resource units) a = after_release resource batch node a
claimed_by (Line.Pass batch recipe node to resource units) a = after_pass resource batch node to a
claimed_by _ a = a

-- it can: the resource is one of the arbiter's, there is room for the ask, and a share that is given back or passed on is held
abbrev pub CanClaim : Line → Allocation → Type 0
CanClaim (Line.Claim ClaimKind.Asked batch recipe node resource units) a = (resource < resource_count a) × (0 < a.room)
CanClaim (Line.Claim ClaimKind.Released batch recipe node resource units) a = (resource < resource_count a) × IsHeld a resource batch node
CanClaim (Line.Pass batch recipe node to resource units) a = (resource < resource_count a) × IsHeld a resource batch node
CanClaim _ a = ⊤

-- the line of an ask, a release or a pass says it by the number of the resource; that of another move leaves the arbiter as it is
abbrev pub ClaimsAs : ClearedSet → Batch → Move → Line → Type 0
ClaimsAs c b (Ask node need) line = (resource : ℕ) × (units : ℕ) × IsNumberAt c b node need resource units × (line ≡ Line.Claim ClaimKind.Asked b.number b.recipe node resource units)
ClaimsAs c b (Release node need) line = (resource : ℕ) × (units : ℕ) × IsNumberAt c b node need resource units × (line ≡ Line.Claim ClaimKind.Released b.number b.recipe node resource units)
ClaimsAs c b (Pass node to need) line = (resource : ℕ) × (units : ℕ) × IsNumberAt c b node need resource units × (line ≡ Line.Pass b.number b.recipe node to resource units)
ClaimsAs c b m line = (a : Allocation) → CanClaim line a × (claimed_by line a ≡ a)

-- a batch of the engine has an act at this node
pub record IsNodeAt (v : EngineView) (b : Batch) (node : ℕ) : Type 0 where
  pub kept : IsKept v
  pub index : ℕ
  pub at : slice_get v.batches index ≡ Some b
  pub few : node < node_count (tree_of v.cleared b)

-- these are the numbers of the phase that the act at the node of a batch runs, if it runs one; the unit's is its number among the units
pub record IsPhaseAt (c : ClearedSet) (b : Batch) (node unit phase : ℕ) : Type 0 where
  pub unit_is : resource_name c unit ≡ (phase_at (tree_of c b) node).unit
  pub name_is : phase_name c unit phase ≡ (phase_at (tree_of c b) node).name
  pub among : (names : Name × Name) → phase_named (node_at (tree_of c b) node).here ≡ Some names → position (same_name names.0) (units_of c.cell) ≡ Some unit

-- the line is that of this move of a batch, also by number; and the resource of which it gives or takes a share, if any, exists
pub record Tells (v : EngineView) (b : Batch) (m : Move) (line : Line) : Type 0 where
  pub is : Surface.move_of v.cleared line ≡ machine_move (tree_of v.cleared b) (model_batch v.cleared b) m
  pub known : IfSome (touched_by line) (λ resource. resource < resource_count v.allocation)
  pub claims : ClaimsAs v.cleared b m line

-- the same of the next move
pub record TellsNext (v : EngineView) (line : Line) : Type 0 where
  pub is : IsNext v (Surface.move_of v.cleared line)
  pub known : IfSome (touched_by line) (λ resource. resource < resource_count v.allocation)

-- the line is that of this move of the batch at an index
pub record IsLineAt (v : EngineView) (i : ℕ) (m : Move) (line : Line) : Type 0 where
  pub batch : Batch
  pub at : slice_get v.batches i ≡ Some batch
  pub tells : Tells v batch m line
