-- trusted: the state that a record gives, line by line, with recovery blocks among the lines.
use Rattle.std.specs.Prelude.{ℕ, Bool, true, false, ◌&&◌, List, [], ◌∷◌, ◌++◌, Option, Some, None, option_map, codes, nat_eq, nat_le, nat_lt, if◌then◌else◌}
use Rattle.std.specs.Str.{bytes_eq}
use Rattle.batch_matrix.specs.declared.state.State.{State}
use Rattle.batch_text.specs.NameText.{is_name}
use Rattle.batch_text.specs.NumberText.{number_of}
use Rattle.batch_text.specs.PlaceText.{numbers_of}
use Rattle.batch_model.specs.Plant.{with_share}
use Rattle.batch_model.specs.Runs.{Out}
use Rattle.batch_record.specs.Laws.{is_passed_over}
use Rattle.batch_record.specs.RecordLine.{ClaimTold, PhaseTold, is_plain_number, is_plain_place, line_words, out_of_line, phase_with, state_of_word}
use Rattle.batch_record.specs.Telling.{Listed, Live, Tale, empty_tale, tale_after}

-- Rows of a recovery block

pub data BlockRow : Type 0 where
  batch_row : ℕ → Listed → BlockRow
  holder_row : ClaimTold → BlockRow
  waiter_row : ClaimTold → BlockRow
  live_row : Live → BlockRow

-- the state with a row more
abbrev pub tale_with : Tale → BlockRow → Tale
tale_with tale (batch_row batch listed) =
    record tale { batches = λ number. elim (nat_eq batch number) [ true ↦ Some listed | false ↦ tale.batches number ] }
tale_with tale (holder_row claim) = record tale { holders = λ resource. with_share resource (claim.batch, claim.place) claim.need (tale.holders resource) }
tale_with tale (waiter_row claim) = record tale { waiters = λ resource. with_share resource (claim.batch, claim.place) claim.need (tale.waiters resource) }
tale_with tale (live_row live) = record tale { live = tale.live ++ live ∷ [] }

-- Comments

-- the meaning of a line for recovery blocks
pub data Mark : Type 0 where
  begins : Mark
  ends : Mark
  row : BlockRow → Mark

-- at least one unit, and no more than 32 bits count
abbrev pub is_unit_count : List ℕ → Bool
is_unit_count word = is_plain_number word && (nat_lt 0 (number_of word) && nat_le (number_of word) 4294967295)

abbrev pub begins_of : List (List ℕ) → Option Mark
begins_of (count ∷ word ∷ []) = if is_plain_number count && bytes_eq word (codes "lines") then Some begins else None
begins_of _ = None

abbrev pub ends_of : List (List ℕ) → Option Mark
ends_of [] = Some ends
ends_of _ = None

abbrev pub batch_row_with : List ℕ → List ℕ → List ℕ → Option State → Option BlockRow
batch_row_with number recipe size None = None
batch_row_with number recipe size (Some now) =
    if (is_plain_number number && is_name recipe) && is_plain_number size
    then Some (batch_row (number_of number) (record { recipe = recipe; size = number_of size; state = now }))
    else None

abbrev pub batch_row_of : List (List ℕ) → Option BlockRow
batch_row_of (number ∷ recipe ∷ size ∷ now ∷ []) = batch_row_with number recipe size (state_of_word now)
batch_row_of _ = None

abbrev pub claimed : List ℕ → List ℕ → List ℕ → List ℕ → ClaimTold
claimed resource number place units =
    record { batch = number_of number; place = numbers_of place; need = record { resource = resource; units = number_of units } }

abbrev pub claim_of_row : List (List ℕ) → Option ClaimTold
claim_of_row (resource ∷ number ∷ place ∷ units ∷ []) =
    if (is_plain_number number && is_plain_place place) && (is_name resource && is_unit_count units)
    then Some (claimed resource number place units)
    else None
claim_of_row _ = None

abbrev pub live_row_with : Option PhaseTold → Option State → Option BlockRow
live_row_with None now = None
live_row_with (Some step) None = None
live_row_with (Some step) (Some now) =
    Some (live_row (record { act = (step.batch, step.place); unit = step.unit; name = step.name; state = now }))

abbrev pub live_row_of : List (List ℕ) → Option BlockRow
live_row_of (unit ∷ name ∷ number ∷ place ∷ now ∷ []) = live_row_with (phase_with number place unit name) (state_of_word now)
live_row_of _ = None

abbrev pub row_with : List ℕ → List (List ℕ) → Option BlockRow
row_with word arguments =
    if bytes_eq word (codes "batch") then batch_row_of arguments
    else (if bytes_eq word (codes "holds") then option_map holder_row (claim_of_row arguments)
    else (if bytes_eq word (codes "waits") then option_map waiter_row (claim_of_row arguments)
    else (if bytes_eq word (codes "runs") then live_row_of arguments
    else None)))

abbrev pub mark_with : List ℕ → List (List ℕ) → Option Mark
mark_with word arguments =
    if bytes_eq word (codes "recovered") then begins_of arguments
    else (if bytes_eq word (codes "end") then ends_of arguments
    else option_map row (row_with word arguments))

abbrev pub mark_of_words : List (List ℕ) → Option Mark
mark_of_words (sharp ∷ word ∷ arguments) = if bytes_eq sharp (codes "#") then mark_with word arguments else None
mark_of_words _ = None

-- None for any other line
abbrev pub mark_of : List ℕ → Option Mark
mark_of line = mark_of_words (line_words line)

-- Lines

-- the state so far, and that by a recovery block that hasn't ended
pub record Stage : Type 0 where
  pub tale : Tale
  pub block : Option Tale

abbrev pub opening_stage : Stage
opening_stage = record { tale = empty_tale; block = None }

-- a block begins with the empty state, and at its end the state by it replaces the one before
abbrev pub stage_after_mark : Stage → Option Mark → Stage
stage_after_mark stage (Some begins) = record { tale = stage.tale; block = Some empty_tale }
stage_after_mark stage (Some (row r)) = record { tale = stage.tale; block = option_map (λ tale. tale_with tale r) stage.block }
stage_after_mark stage (Some ends) = record { tale = elim stage.block [ None ↦ stage.tale | Some tale ↦ tale ]; block = None }
stage_after_mark stage None = stage

-- an out ends a block, which then has no effect
abbrev pub stage_after_out : Stage → Out → Stage
stage_after_out stage out = record { tale = tale_after stage.tale out; block = None }

-- the stage after a line more, or None if it is no line of a record
abbrev pub stage_after : Stage → List ℕ → Option Stage
stage_after stage line =
    elim (is_passed_over line) [ true ↦ Some (stage_after_mark stage (mark_of line)) | false ↦ option_map (stage_after_out stage) (out_of_line line) ]

abbrev pub stages : Stage → List (List ℕ) → Option Stage
stages stage [] = Some stage
stages stage (line ∷ lines) = elim (stage_after stage line) [ None ↦ None | Some mid ↦ stages mid lines ]
