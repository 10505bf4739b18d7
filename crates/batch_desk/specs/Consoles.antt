-- surface: the events that a console sends, and the outs that it takes.
use Rattle.std.specs.Prelude.{◌≡◌, ℕ, ◌≤◌, List, ◌++◌, cond, eqb}
use Rattle.std.specs.List.{All, sum_by}
use Rattle.batch_matrix.specs.declared.command.Command.TheVariants as command
use Rattle.batch_matrix.specs.declared.state.State.TheVariants.{Complete}
use Rattle.batch_engine.specs.declared.event.Event.{Event}
use Rattle.batch_engine.specs.declared.event.Event.TheVariants.{Create, Order}
use Rattle.batch_engine.specs.declared.line.Line.TheVariants.{State}
use Rattle.batch_engine.specs.declared.out.Out.{Out}
use Rattle.batch_engine.specs.declared.out.Out.TheVariants.{Reply, Move}
use Rattle.batch_engine.specs.declared.reply.Reply.TheVariants.{Created, Refused}
use Rattle.batch_desk.specs.declared.batch_plan.BatchPlan.{BatchPlan}
use Rattle.batch_desk.specs.DeskState.{DeskState}

-- two plans say the same
pub record IsSamePlan (plan copy : BatchPlan) : Type 0 where
  pub recipe : copy.recipe ≡ plan.recipe
  pub size : copy.size ≡ plan.size
  pub roles : copy.roles.items ≡ plan.roles.items

-- a create of the plan's recipe in its size, whose roles its units take, or the start of a batch
abbrev pub IsConsoleEvent : BatchPlan → Event → Type 0
IsConsoleEvent plan (Create recipe size roles) = (recipe ≡ plan.recipe) × (size ≡ plan.size) × (roles.items ≡ plan.roles.items)
IsConsoleEvent plan (Order word batch) = word ≡ command.Start
IsConsoleEvent plan _ = ⊥

-- one for a create, and for nothing else
abbrev pub sending_create : Event → ℕ
sending_create (Create name amount roles) = 1
sending_create _ = 0

-- one for the start of batch n
abbrev pub starting : ℕ → Event → ℕ
starting n (Order command.Start batch) = cond (eqb batch n) 1 0
starting n _ = 0

-- one for the reply that batch n was created
abbrev pub telling_created : ℕ → Out → ℕ
telling_created n (Reply (Created batch recipe size units)) = cond (eqb batch n) 1 0
telling_created n _ = 0

-- one for the move by which a batch becomes complete
abbrev pub telling_complete : Out → ℕ
telling_complete (Move (State batch Complete)) = 1
telling_complete _ = 0

-- one for a reply that refuses an event
abbrev pub telling_refused : Out → ℕ
telling_refused (Reply (Refused refusal)) = 1
telling_refused _ = 0

-- how many creates there are, and how many starts of batch n
abbrev pub creates : List Event → ℕ
creates events = sum_by sending_create events

abbrev pub starts : ℕ → List Event → ℕ
starts n events = sum_by (starting n) events

-- how many outs say that batch n was created, and how many that a batch becomes complete
abbrev pub creations : ℕ → List Out → ℕ
creations n outs = sum_by (telling_created n) outs

abbrev pub completes : List Out → ℕ
completes outs = sum_by telling_complete outs

-- how many events were refused
abbrev pub refusals : List Out → ℕ
refusals outs = sum_by telling_refused outs

-- a console has sent more events from its desk, and taken more outs. It sent creates by its plan, `batches` of them at most. It sent the
-- start of each batch at most once, and only if an out that it took said that the batch was created
pub record IsConsole (plan : BatchPlan) (batches : ℕ) (d e : DeskState) : Type 0 where
  -- the rings of the desk are the same
  pub events : e.events ≡ d.events
  pub outs : e.outs ≡ d.outs
  pub more : List Event
  pub seen : List Out
  pub sent : e.sent ≡ d.sent ++ more
  pub taken : e.taken ≡ d.taken ++ seen
  pub each : All (IsConsoleEvent plan) more
  pub creates : creates more ≤ batches
  pub once : (n : ℕ) → starts n more ≤ 1
  pub created : (n : ℕ) → starts n more ≤ creations n seen
