-- trusted: runs of lines that were served, their answers, and the safe transcript that these make.
use Rattle.std.specs.Prelude.{◌≡◌, ℕ, List, [], ◌∷◌, flat_map, ⊤}
use Rattle.batch_model.specs.Cleared.{CanBeCleared}
use Rattle.batch_model.specs.Plant.{Setup, Plant, opening}
use Rattle.batch_verify.specs.ClearedSet.{ClearedSet}
use Rattle.batch_engine.specs.View.{setup}
use Rattle.batch_wire.specs.Transcript.{lines_of, Exchange, Transcript}
use Rattle.batch_journal.specs.Readers.{IsWhole}
use Rattle.batch_serve.specs.Replays.{ShowsNoWant}
use Rattle.batch_serve.specs.Safe.{GoesOnSafely, IsSafeTranscript}
use Rattle.batch_serve.specs.Runs.{Run}

-- the run's lines got this answer in the state old, and the machine came to the state new
pub record IsRunAnswered (c : Setup) (old : Plant) (run answer : Run) (new : Plant) : Type 0 where
  pub said : Exchange
  pub transcript : Transcript c old (lines_of run.text) said new
  pub desk : answer.desk ≡ run.desk
  pub text : answer.text ≡ said.text

-- each run was answered, in order, from where the one before had left the machine
abbrev pub AreServed : Setup → Plant → List Run → List Run → Plant → Type 0
AreServed c old [] answers new = (answers ≡ []) × (new ≡ old)
AreServed c old (run ∷ runs) answers new =
    (first : Run) × (others : List Run) × (mid : Plant) × IsRunAnswered c old run first mid × AreServed c mid runs others new × (answers ≡ first ∷ others)

-- the text of each run is whole lines
abbrev pub AreWhole : List Run → Type 0
AreWhole [] = ⊤
AreWhole (run ∷ runs) = IsWhole run.text × AreWhole runs

-- none of the answers is a refusal for want of memory
abbrev pub ShowNoWant : List Run → Type 0
ShowNoWant [] = ⊤
ShowNoWant (answer ∷ answers) = ShowsNoWant answer.text × ShowNoWant answers

-- the lines of the runs, and their texts
abbrev pub run_lines : List Run → List (List ℕ)
run_lines runs = flat_map (λ (run : Run). lines_of run.text) runs

abbrev pub plain_text : List Run → List ℕ
plain_text runs = flat_map (λ (run : Run). run.text) runs

-- the answers are the text of a safe transcript of the lines, in the order in which they were served
pub record IsSafeService (set : ClearedSet) (runs answers : List Run) (new : Plant) : Type 0 where
  pub said : Exchange
  pub transcript : IsSafeTranscript (setup set) (run_lines runs) said new
  pub text : plain_text answers ≡ said.text

-- any service from the opening is safe
abbrev pub ServiceIsSafe : ClearedSet → Type 0
ServiceIsSafe set = (runs answers : List Run) (new : Plant) → AreServed (setup set) opening runs answers new → IsSafeService set runs answers new

-- runs that are served where a transcript from the opening ends go on safely, over a set that can be cleared
abbrev pub RunsGoOnSafely : Type 0
RunsGoOnSafely =
    (set : ClearedSet) (mid new : Plant) (lines : List (List ℕ)) (said : Exchange) (runs answers : List Run) → CanBeCleared (setup set)
    → Transcript (setup set) opening lines said mid → AreServed (setup set) mid runs answers new
    → GoesOnSafely (setup set) lines (run_lines runs) said.text (plain_text answers)
