-- private: the reader of charts as a machine that takes one byte after another.
use Rattle.std.specs.Prelude.{◌≡◌, ℕ, ◌+◌, ◌-◌, ltb, List, [], ◌∷◌, ◌++◌, length, take, codes, bytes_eq}
use Rattle.std.specs.Prelude.{Bool, true, false, ◌==◌, if◌then◌else◌, Option, Some, None, option_and_then, option_map}
use Rattle.std.specs.Char.{is_ascii_alphabetic, is_ascii_digit}
use Rattle.batch_text.specs.NameText.{is_name_byte, IsName}
use Rattle.batch_text.specs.NumberText.{number_of, IsNumber}
use Rattle.batch_text.specs.declared.name.TheConstants.{MAX_NAME_LEN}
use Rattle.batch_text.specs.declared.number.TheConstants.{MAX_DIGITS}
use Rattle.batch_recipe.specs.declared.condition.Op.{Op}
use Rattle.batch_recipe.specs.declared.condition.Op.TheVariants.{Less, AtMost, Equal, NotEqual, AtLeast, Greater}
use Rattle.batch_recipe.specs.declared.condition.Term.{Term}
use Rattle.batch_recipe.specs.declared.condition.Term.TheVariants as term
use Rattle.batch_recipe.specs.declared.condition.Condition.{Condition}
use Rattle.batch_recipe.specs.declared.chart.TheConstants.{MAX_DEPTH, MAX_TURNS}
use Rattle.batch_recipe.specs.declared.scaling.TheConstants.{MAX_VALUE}
use Rattle.batch_recipe.specs.Diagram.{Diagram, Diagrams, Cases, diagrams_of, cases_of}
use Rattle.batch_recipe.specs.Diagram as chart
use Rattle.batch_reader.specs.Ascii as ascii
use Rattle.batch_reader.specs.ChartGrammar.{is_chart_space, Offsets, no_offsets, opens_par, ranged}
use Rattle.batch_reader.specs.declared.word.Word.{Word}
use Rattle.batch_reader.specs.declared.word.Word.TheVariants as word
use Rattle.batch_reader.specs.declared.firsts.Firsts.{Firsts}

-- ---- the state

-- the form around the chart that is being read, with its parts so far
pub data Frame : Type 0 where
  in_seq : List Diagram → Frame
  in_par : List Diagram → Frame
  in_case : List (Condition × Diagram) → Condition → Frame
  in_else : List (Condition × Diagram) → Frame
  in_loop : ℕ → Condition → Frame

-- the form whose condition is being read
pub data Test : Type 0 where
  of_sel : List (Condition × Diagram) → Test
  of_loop : ℕ → Test

-- the token that has to come next
pub data Want : Type 0 where
  a_chart : Want
  open_seq : Want
  open_par : Want
  open_sel : Want
  open_loop : Want
  a_turns : Want
  after_turns : ℕ → Want
  a_name : Test → Want
  an_operator : Test → List ℕ → Want
  an_operand : Test → List ℕ → Op → Want
  after_condition : Test → Condition → Want
  after_else : List (Condition × Diagram) → Want
  after_chart : Diagram → Want

-- the next token as far as it has been read
pub data Lexeme : Type 0 where
  nothing : Lexeme
  letters : List ℕ → Lexeme
  digits : List ℕ → Lexeme
  less : Lexeme
  more : Lexeme
  slash : Lexeme

pub record State : Type 0 where
  pub lexeme : Lexeme
  pub want : Want
  pub stack : List Frame
  pub firsts : Firsts

abbrev pub no_firsts : Firsts
no_firsts = record { outside = None; par = None }

-- the first that was noted, or else the first of the offsets
abbrev pub first_or : Option ℕ → List ℕ → Option ℕ
first_or noted [] = noted
first_or None (n ∷ ns) = Some n
first_or (Some m) (n ∷ ns) = Some m

abbrev pub noted : Firsts → Offsets → Firsts
noted firsts offsets = record { outside = first_or firsts.outside offsets.outside; par = first_or firsts.par offsets.pars }

unfoldable pub between : Want → List Frame → Firsts → State
between w frames firsts = record { lexeme = nothing; want = w; stack = frames; firsts = firsts }

unfoldable pub in_token : Lexeme → Want → List Frame → Firsts → State
in_token l w frames firsts = record { lexeme = l; want = w; stack = frames; firsts = firsts }

abbrev pub start : State
start = record { lexeme = nothing; want = a_chart; stack = []; firsts = no_firsts }

-- ---- whole tokens

-- the word that the bytes are
abbrev pub word_of : List ℕ → Word
word_of bytes =
    if bytes_eq bytes (codes "skip") then word.Skip else
    if bytes_eq bytes (codes "seq") then word.Seq else
    if bytes_eq bytes (codes "par") then word.Par else
    if bytes_eq bytes (codes "sel") then word.Sel else
    if bytes_eq bytes (codes "loop") then word.Loop else
    if bytes_eq bytes (codes "else") then word.Else else
    word.Name

-- nesting one deeper, if that is allowed
abbrev pub deeper : ℕ → Want → Option Want
deeper depth w = if ltb depth MAX_DEPTH then Some w else None

abbrev pub take_chart_word : Word → List ℕ → ℕ → Option Want
take_chart_word word.Name bytes depth = Some (after_chart (chart.label bytes))
take_chart_word word.Skip bytes depth = Some (after_chart chart.skip)
take_chart_word word.Seq bytes depth = deeper depth open_seq
take_chart_word word.Par bytes depth = deeper depth open_par
take_chart_word word.Sel bytes depth = deeper depth open_sel
take_chart_word word.Loop bytes depth = deeper depth open_loop
take_chart_word word.Else bytes depth = None

-- `else` may stand where a case has been read
abbrev pub take_else : Test → Option Want
take_else (of_sel []) = None
take_else (of_sel (b ∷ bs)) = Some (after_else (b ∷ bs))
take_else (of_loop n) = None

abbrev pub take_name_word : Word → List ℕ → Test → Option Want
take_name_word word.Name bytes test = Some (an_operator test bytes)
take_name_word word.Skip bytes test = None
take_name_word word.Seq bytes test = None
take_name_word word.Par bytes test = None
take_name_word word.Sel bytes test = None
take_name_word word.Loop bytes test = None
take_name_word word.Else bytes test = take_else test

abbrev pub condition_of : List ℕ → Op → Term → Condition
condition_of n op x = record { name = n; op = op; term = x }

abbrev pub take_operand_word : Word → List ℕ → Test → List ℕ → Op → Option Want
take_operand_word word.Name bytes test n op = Some (after_condition test (condition_of n op (term.Named bytes)))
take_operand_word word.Skip bytes test n op = None
take_operand_word word.Seq bytes test n op = None
take_operand_word word.Par bytes test n op = None
take_operand_word word.Sel bytes test n op = None
take_operand_word word.Loop bytes test n op = None
take_operand_word word.Else bytes test n op = None

abbrev pub take_word : Want → List ℕ → ℕ → Option Want
take_word a_chart bytes depth = take_chart_word (word_of bytes) bytes depth
take_word (a_name test) bytes depth = take_name_word (word_of bytes) bytes test
take_word (an_operand test n op) bytes depth = take_operand_word (word_of bytes) bytes test n op
take_word _ bytes depth = None

abbrev pub take_number : Want → ℕ → Option Want
take_number a_turns n = Some (after_turns n)
take_number (an_operand test bytes op) n = Some (after_condition test (condition_of bytes op (term.Number n)))
take_number _ n = None

-- the offsets that are noted of a number
abbrev pub number_offsets : Want → ℕ → ℕ → Offsets
number_offsets a_turns n offset = ranged 1 MAX_TURNS n offset
number_offsets (an_operand test bytes op) n offset = ranged 0 MAX_VALUE n offset
number_offsets _ n offset = no_offsets

-- the offsets that are noted of a sign
abbrev pub sign_offsets : Want → ℕ → Offsets
sign_offsets open_par offset = opens_par offset
sign_offsets _ offset = no_offsets

abbrev pub take_operator : Want → Op → Option Want
take_operator (an_operator test bytes) op = Some (an_operand test bytes op)
take_operator _ op = None

abbrev pub After : Type 0
After = Option (Want × List Frame)

abbrev pub when_is : ℕ → ℕ → After → After
when_is b sign after = if b == sign then after else None

-- a comma after a chart
abbrev pub take_comma : Diagram → List Frame → After
take_comma t [] = None
take_comma t (in_seq ts ∷ frames) = Some (a_chart, in_seq (ts ++ t ∷ []) ∷ frames)
take_comma t (in_par ts ∷ frames) = Some (a_chart, in_par (ts ++ t ∷ []) ∷ frames)
take_comma t (in_case bs c ∷ frames) = Some (a_name (of_sel (bs ++ (c, t) ∷ [])), frames)
take_comma t (in_else bs ∷ frames) = None
take_comma t (in_loop n c ∷ frames) = None

abbrev pub close_par : List Diagram → Diagram → List Frame → After
close_par [] t frames = None
close_par (u ∷ us) t frames = Some (after_chart (chart.par (diagrams_of ((u ∷ us) ++ t ∷ []))), frames)

-- a closing parenthesis after a chart
abbrev pub take_close : Diagram → List Frame → After
take_close t [] = None
take_close t (in_seq ts ∷ frames) = Some (after_chart (chart.seq (diagrams_of (ts ++ t ∷ []))), frames)
take_close t (in_par ts ∷ frames) = close_par ts t frames
take_close t (in_case bs c ∷ frames) = None
take_close t (in_else bs ∷ frames) = Some (after_chart (chart.sel (cases_of bs t)), frames)
take_close t (in_loop n c ∷ frames) = Some (after_chart (chart.loop n c t), frames)

abbrev pub take_sign : Want → ℕ → List Frame → After
take_sign open_seq b frames = when_is b ascii.open_parenthesis (Some (a_chart, in_seq [] ∷ frames))
take_sign open_par b frames = when_is b ascii.open_parenthesis (Some (a_chart, in_par [] ∷ frames))
take_sign open_sel b frames = when_is b ascii.open_parenthesis (Some (a_name (of_sel []), frames))
take_sign open_loop b frames = when_is b ascii.open_parenthesis (Some (a_turns, frames))
take_sign (after_turns n) b frames = when_is b ascii.comma (Some (a_name (of_loop n), frames))
take_sign (after_condition (of_sel bs) c) b frames = when_is b ascii.colon (Some (a_chart, in_case bs c ∷ frames))
take_sign (after_condition (of_loop n) c) b frames = when_is b ascii.comma (Some (a_chart, in_loop n c ∷ frames))
take_sign (after_else bs) b frames = when_is b ascii.colon (Some (a_chart, in_else bs ∷ frames))
take_sign (after_chart t) b frames = if b == ascii.comma then take_comma t frames else if b == ascii.close_parenthesis then take_close t frames else None
take_sign a_chart b frames = None
take_sign a_turns b frames = None
take_sign (a_name test) b frames = None
take_sign (an_operator test bytes) b frames = None
take_sign (an_operand test bytes op) b frames = None

-- ---- bytes

abbrev pub takes_word : Want → Bool
takes_word a_chart = true
takes_word (a_name test) = true
takes_word (an_operand test bytes op) = true
takes_word _ = false

abbrev pub takes_number : Want → Bool
takes_number a_turns = true
takes_number (an_operand test bytes op) = true
takes_number _ = false

abbrev pub takes_operator : Want → Bool
takes_operator (an_operator test bytes) = true
takes_operator _ = false

abbrev pub starts : Bool → Lexeme → State → Option State
starts b lexeme st = if b then Some (record st { lexeme = lexeme }) else None

abbrev pub with_want : State → Option Want → Option State
with_want st w = option_map (λ w. record { lexeme = nothing; want = w; stack = st.stack; firsts = st.firsts }) w

abbrev pub with_after : ℕ → State → After → Option State
with_after place st after = option_map (λ p. record { lexeme = nothing; want = p.0; stack = p.1; firsts = noted st.firsts (sign_offsets st.want place) }) after

-- an operator's first byte, or the sign `=`
abbrev pub begin_operator : ℕ → State → Option State
begin_operator b st =
    if b == ascii.less_than then Some (record st { lexeme = less }) else
    if b == ascii.greater_than then Some (record st { lexeme = more }) else
    if b == ascii.slash then Some (record st { lexeme = slash }) else
    if b == ascii.equals then with_want st (take_operator st.want Equal) else
    None

-- a byte that continues no token
unfoldable pub begin : ℕ → ℕ → State → Option State
begin place b st =
    if is_chart_space b then Some (record st { lexeme = nothing }) else
    if is_ascii_alphabetic b then starts (takes_word st.want) (letters (b ∷ [])) st else
    if is_ascii_digit b then starts (takes_number st.want) (digits (b ∷ [])) st else
    if takes_operator st.want then begin_operator b st else
    with_after place st (take_sign st.want b st.stack)

-- the number, before the byte at the place
unfoldable pub end_number : ℕ → List ℕ → State → Option State
end_number place bytes st =
    let n = number_of bytes in
    let firsts = noted st.firsts (number_offsets st.want n (place - length bytes)) in
    option_map (λ w. record { lexeme = nothing; want = w; stack = st.stack; firsts = firsts }) (take_number st.want n)

-- the token, before the byte at the place
abbrev pub end_token : ℕ → Lexeme → State → Option State
end_token place nothing st = Some st
end_token place (letters bytes) st = with_want st (take_word st.want bytes (length st.stack))
end_token place (digits bytes) st = end_number place bytes st
end_token place less st = with_want st (take_operator st.want Less)
end_token place more st = with_want st (take_operator st.want Greater)
end_token place slash st = None

-- the token may be a whole one
abbrev pub IsGood : Lexeme → Type 0
IsGood nothing = Unit {0}
IsGood (letters bytes) = IsName bytes
IsGood (digits bytes) = IsNumber bytes
IsGood less = Unit {0}
IsGood more = Unit {0}
IsGood slash = Unit {0}

-- whether the token goes on with the byte
abbrev pub continues : Lexeme → ℕ → Bool
continues nothing b = false
continues (letters bytes) b = is_name_byte b
continues (digits bytes) b = is_ascii_digit b
continues less b = b == ascii.equals
continues more b = b == ascii.equals
continues slash b = b == ascii.equals

abbrev pub go_on : Lexeme → ℕ → State → Option State
go_on nothing b st = None
go_on (letters bytes) b st = if ltb (length bytes) MAX_NAME_LEN then Some (record st { lexeme = letters (bytes ++ b ∷ []) }) else None
go_on (digits bytes) b st = if ltb (length bytes) MAX_DIGITS then Some (record st { lexeme = digits (bytes ++ b ∷ []) }) else None
go_on less b st = with_want st (take_operator st.want AtMost)
go_on more b st = with_want st (take_operator st.want AtLeast)
go_on slash b st = with_want st (take_operator st.want NotEqual)

-- the byte at the place
unfoldable pub step : ℕ → ℕ → State → Option State
step place b st = if continues st.lexeme b then go_on st.lexeme b st else option_and_then (begin place b) (end_token place st.lexeme st)

abbrev pub result_of : Want → List Frame → Firsts → Option (Diagram × Firsts)
result_of (after_chart t) [] firsts = Some (t, firsts)
result_of _ _ firsts = None

-- the end of the text, at the place
unfoldable pub finish : ℕ → State → Option (Diagram × Firsts)
finish place st = option_and_then (λ e. result_of e.want e.stack e.firsts) (end_token place st.lexeme st)

-- the bytes that come at the place and after it
unfoldable pub steps : ℕ → List ℕ → State → Option State
steps place [] st = Some st
steps place (b ∷ s) st = option_and_then (steps (place + 1) s) (step place b st)

-- the state after the first bytes of the text, of which there are place
pub record IsAfter (text : List ℕ) (place : ℕ) (st : State) : Type 0 where
  pub goes : steps 0 (take place text) start ≡ Some st
  pub good : IsGood st.lexeme
