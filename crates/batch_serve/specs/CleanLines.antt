-- trusted: lines as a journal has them: none begins with `#` or has a zero byte, and each is answered as the one that was read.
use Rattle.std.specs.Prelude.{◌≡◌, ℕ, Bool, List, [], ◌∷◌, ◌++◌, length, map, flat_map, replicate, Option, Some, None, MatchOption, Ok, nat_lt, ◌==◌, ◌||◌, if◌then◌else◌}
use Rattle.std.specs.List.{list_all}
use Rattle.std.specs.Str.Lines.{strip_carriage_return}
use Rattle.batch_model.specs.Plant.{Setup, Plant}
use Rattle.batch_wire.specs.EventLine.{event_of_line, is_comment, is_space}
use Rattle.batch_wire.specs.Transcript.{lines_of, Exchange, Transcript}
use Rattle.batch_wire.specs.declared.event_line.TheConstants.{MAX_LINE_LEN}

-- a zero byte is written as `?`
abbrev pub clean_byte : ℕ → ℕ
clean_byte b = if b == 0 then 63 else b

-- the line is refused for its length, whatever it holds
abbrev pub is_too_long : List ℕ → Bool
is_too_long line = nat_lt MAX_LINE_LEN (length (strip_carriage_return line))

-- a comment, or spaces alone
abbrev pub gives_nothing : List ℕ → Bool
gives_nothing text = is_comment text || list_all is_space text

-- a line that is too long becomes 1,025 `?`, and one that gives nothing is left out
abbrev pub clean : List ℕ → Option (List ℕ)
clean line =
    if is_too_long line then Some (replicate 1025 63)
    else (if gives_nothing (strip_carriage_return line) then None
    else Some (map clean_byte line))

abbrev pub clean_text : Option (List ℕ) → List ℕ
clean_text None = []
clean_text (Some line) = line ++ 10 ∷ []

-- the text of these lines
abbrev pub clean_lines : List (List ℕ) → List ℕ
clean_lines lines = flat_map (λ line. clean_text (clean line)) lines

-- the text of an input, of whose first line these bytes are read
abbrev pub clean_from : List ℕ → List ℕ → List ℕ
clean_from begun [] = clean_text (clean begun)
clean_from begun (b ∷ bytes) = if b == 10 then clean_text (clean begun) ++ clean_from [] bytes else clean_from (begun ++ b ∷ []) bytes

-- the two agree
abbrev pub CleansLines : Type 0
CleansLines = (input : List ℕ) → clean_from [] input ≡ clean_lines (lines_of input)

-- a line gives the event that it gave before, or is refused alike; one that is left out gave nothing
abbrev pub CleanLinesAgree : Type 0
CleanLinesAgree = (line : List ℕ) → MatchOption (clean line) (event_of_line line ≡ Ok None) (λ cleaned. event_of_line cleaned ≡ event_of_line line)

-- each possible outcome of the text of these lines is a possible outcome of the input
abbrev pub CleanLinesServeAlike : Type 0
CleanLinesServeAlike =
    (c : Setup) (old new : Plant) (input : List ℕ) (said : Exchange) → Transcript c old (lines_of (clean_lines (lines_of input))) said new → Transcript c old (lines_of input) said new
