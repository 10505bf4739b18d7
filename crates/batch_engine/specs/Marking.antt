-- private: the batches whose moves a move or an event may change, and their marks.
use Rattle.std.specs.Prelude.{◌≡◌, ◌<◌, ℕ, List, Bool, true, false, Option, Some, None, nat_eq, slice_get, slice_set, length}
use Rattle.batch_recipe.specs.Conditions.{Name}
use Rattle.batch_model.specs.Events as Events
use Rattle.batch_model.specs.Moves.{Move, release, grant}
use Rattle.batch_arbiter.specs.Allocation.{resource_count}
use Rattle.batch_engine.specs.declared.batch.Batch.{Batch}
use Rattle.batch_engine.specs.declared.line.ClaimKind.{ClaimKind}
use Rattle.batch_engine.specs.declared.line.Line.{Line}
use Rattle.batch_engine.specs.declared.reply.Reply.{Reply}
use Rattle.batch_engine.specs.declared.reply.Reply.TheVariants.{Created, Ordered, Removed, Reported, Refused}
use Rattle.batch_engine.specs.declared.step.Step.{Step}
use Rattle.batch_engine.specs.Marked.{HasNoMove}
use Rattle.batch_engine.specs.Marks.{IsUnmarked}
use Rattle.batch_engine.specs.Steps.{IsNext, IsNextStep, IsServedNode, index_of}
use Rattle.batch_engine.specs.View.{EngineView, resource_number}

-- Moves and replies of the machine

-- the resource of which the move gives or takes a share
abbrev pub touched : Move → Option Name
touched (release number place need) = Some need.resource
touched (grant number place need) = Some need.resource
touched _ = None

-- the batch that the reply names, if it is there still
abbrev pub named : Events.Reply → Option ℕ
named (Events.created number recipe size roles) = Some number
named (Events.ordered command number becomes) = Some number
named (Events.removed number) = None
named (Events.reported unit name word number place becomes) = Some number
named (Events.refused refusal) = None

-- whether asks were withdrawn
abbrev pub withdraws : Events.Reply → Bool
withdraws (Events.ordered command number becomes) = Events.ends_asks command
withdraws _ = false

-- the batch with this number is noted for a resource, if there is one
abbrev pub noted_for : Option ℕ → ℕ → List ℕ → List ℕ
noted_for None number holders = holders
noted_for (Some resource) number holders = slice_set holders resource number

-- the batch is noted that is granted one unit of a resource
abbrev pub noted : (Name → Option ℕ) → Move → List ℕ → List ℕ
noted resource_number (grant number place need) holders =
    elim (nat_eq need.units 1) [ true ↦ noted_for (resource_number need.resource) number holders | false ↦ holders ]
noted resource_number _ holders = holders

-- the same of a line
abbrev pub noted_by : Line → List ℕ → List ℕ
noted_by (Line.Claim ClaimKind.Granted batch recipe node resource units) holders = elim (nat_eq units 1) [ true ↦ slice_set holders resource batch | false ↦ holders ]
noted_by _ holders = holders

-- Steps of the engine

-- an act of the batch at an index would be served of the resource
abbrev pub IsServedAt : EngineView → ℕ → ℕ → Type 0
IsServedAt v resource i =
    (b : Batch) × (slice_get v.batches i ≡ Some b) × ((node : ℕ) × IsServedNode v.allocation resource b.number node)

-- the index of the batch of which an act would be served of the resource
abbrev pub IsFirstServed : EngineView → ℕ → Option ℕ → Type 0
IsFirstServed v resource None = (i : ℕ) → IsServedAt v resource i → ⊥
IsFirstServed v resource (Some j) = (j < length v.batches) × ((i : ℕ) → IsServedAt v resource i → i ≡ j)

-- the next step, before whose batch none has a move
abbrev pub IsFirstStep : EngineView → Option Step → Type 0
IsFirstStep v None = IsNextStep v None
IsFirstStep v (Some s) = IsNextStep v (Some s) × (index_of s < length v.batches) × ((i : ℕ) → i < index_of s → HasNoMove v i)

-- this is the number of the resource of which the next move gives or takes a share
abbrev pub IsTouched : EngineView → Option ℕ → Type 0
IsTouched v number =
    (m : Move) (resource : Name) → IsNext v m → touched m ≡ Some resource → (q : ℕ) × (number ≡ Some q) × (resource_number v.cleared resource ≡ Some q)

-- the batch that the reply names
abbrev pub named_by : Reply → Option ℕ
named_by (Created batch recipe size units) = Some batch
named_by (Ordered command batch state) = Some batch
named_by (Removed batch) = None
named_by (Reported unit phase word batch recipe node state) = Some batch
named_by (Refused refusal) = None

abbrev pub withdraws_by : Reply → Bool
withdraws_by (Ordered command batch state) = Events.ends_asks command
withdraws_by _ = false

-- Marks

abbrev pub IsSet : List ℕ → ℕ → Type 0
IsSet marks i = IsUnmarked marks i → ⊥

-- no mark was taken away
abbrev pub KeepsMarks : List ℕ → List ℕ → Type 0
KeepsMarks old new = (i : ℕ) → IsUnmarked new i → IsUnmarked old i

-- the batch is marked of which an act would be served of the resource
abbrev pub IsFirstMarked : EngineView → ℕ → List ℕ → Type 0
IsFirstMarked v resource marks = (i : ℕ) → IsServedAt v resource i → IsSet marks i

-- the batch with this number is marked
abbrev pub IsNumberMarked : EngineView → ℕ → List ℕ → Type 0
IsNumberMarked v number marks = (i : ℕ) (b : Batch) → slice_get v.batches i ≡ Some b → b.number ≡ number → IsSet marks i

-- after an event: the batch that the reply names is marked, and if asks were withdrawn, each batch that would be served of a resource
pub record AreAnswerMarked (v : EngineView) (reply : Reply) (marks : List ℕ) : Type 0 where
  pub own : (number : ℕ) → named_by reply ≡ Some number → IsNumberMarked v number marks
  pub firsts : withdraws_by reply ≡ true → (resource : ℕ) → resource < resource_count v.allocation → IsFirstMarked v resource marks

-- after a move: its batch is marked, and the batch that would be served of the resource of which it gave or took a share
pub record AreMoveMarked (v : EngineView) (index : ℕ) (number : Option ℕ) (marks : List ℕ) : Type 0 where
  pub own : IsSet marks index
  pub first : (resource : ℕ) → number ≡ Some resource → IsFirstMarked v resource marks
