-- private: the machine's values for those of the reader of charts, without their places in memory.
use Rattle.std.specs.Prelude.{◌≡◌, ◌≤◌, ℕ, List, length, map, reverse, Option, Some, None, Result, Ok, Err, slice_range}
use Rattle.batch_recipe.specs.declared.condition.Condition.{Condition}
use Rattle.batch_recipe.specs.declared.chart.Chart.{Chart}
use Rattle.batch_recipe.specs.Diagram.{Diagram, diagram_of}
use Rattle.batch_reader.specs.ChartMachine.{State, IsAfter, Frame, in_seq, in_par, in_case, in_else, in_loop, Test, of_sel, of_loop}
use Rattle.batch_reader.specs.ChartMachine.{Want, a_chart, open_seq, open_par, open_sel, open_loop, a_turns, after_turns}
use Rattle.batch_reader.specs.ChartMachine.{a_name, an_operator, an_operand, after_condition, after_else, after_chart}
use Rattle.batch_reader.specs.ChartMachine.{Lexeme, nothing, letters, digits, less, more, slash}
use Rattle.batch_reader.specs.declared.firsts.Firsts.{Firsts}
use Rattle.batch_reader.specs.declared.frame.Frame.{Frame as TheFrame}
use Rattle.batch_reader.specs.declared.frame.Frame.TheVariants as frame
use Rattle.batch_reader.specs.declared.want.Test.{Test as TheTest}
use Rattle.batch_reader.specs.declared.want.Test.TheVariants as test
use Rattle.batch_reader.specs.declared.want.Want.{Want as TheWant}
use Rattle.batch_reader.specs.declared.want.Want.TheVariants as want
use Rattle.batch_reader.specs.declared.lexeme.Lexeme.{Lexeme as TheLexeme}
use Rattle.batch_reader.specs.declared.lexeme.Lexeme.TheVariants as lexeme
use Rattle.batch_reader.specs.declared.state.State.{State as TheState}
use Rattle.batch_reader.specs.declared.chart_fault.Stop.{Stop}
use Rattle.batch_reader.specs.declared.chart_fault.Stop.TheVariants as stop

abbrev pub diagrams_view : List Chart → List Diagram
diagrams_view charts = map diagram_of charts

abbrev pub cases_view : List (Condition × Chart) → List (Condition × Diagram)
cases_view cases = map (λ p. (p.0, diagram_of p.1)) cases

abbrev pub frame_view : TheFrame → Frame
frame_view (frame.Seq v) = in_seq (diagrams_view v.items)
frame_view (frame.Par v) = in_par (diagrams_view v.items)
frame_view (frame.Case v c) = in_case (cases_view v.items) c
frame_view (frame.Else v) = in_else (cases_view v.items)
frame_view (frame.Loop n c) = in_loop n c

-- the last pushed is the first
unfoldable pub frames_view : List TheFrame → List Frame
frames_view frames = reverse (map frame_view frames)

abbrev pub test_view : TheTest → Test
test_view (test.Sel v) = of_sel (cases_view v.items)
test_view (test.Loop n) = of_loop n

abbrev pub want_view : TheWant → Want
want_view want.Chart = a_chart
want_view want.OpenSeq = open_seq
want_view want.OpenPar = open_par
want_view want.OpenSel = open_sel
want_view want.OpenLoop = open_loop
want_view want.Turns = a_turns
want_view (want.AfterTurns n) = after_turns n
want_view (want.Name t) = a_name (test_view t)
want_view (want.Operator t n) = an_operator (test_view t) n
want_view (want.Operand t n op) = an_operand (test_view t) n op
want_view (want.AfterCond t c) = after_condition (test_view t) c
want_view (want.AfterElse v) = after_else (cases_view v.items)
want_view (want.AfterChart c) = after_chart (diagram_of c)

-- a token that has been read up to the place
abbrev pub lexeme_view : List ℕ → ℕ → TheLexeme → Lexeme
lexeme_view text place lexeme.Nothing = nothing
lexeme_view text place (lexeme.Letters start) = letters (slice_range text start place)
lexeme_view text place (lexeme.Digits start) = digits (slice_range text start place)
lexeme_view text place lexeme.Less = less
lexeme_view text place lexeme.More = more
lexeme_view text place lexeme.Slash = slash

-- The result of a function, seen by view, is that of the machine, unless memory ran out.
abbrev pub Gives : {X Y : Type 0} → (X → Y) → Result X Stop → Option Y → Type 0
Gives view (Ok x) o = o ≡ Some (view x)
Gives view (Err stop.NotAChart) o = o ≡ None
Gives view (Err stop.Memory) o = Unit {0}

abbrev pub after_view : List TheFrame → TheWant → Want × List Frame
after_view frames w = (want_view w, frames_view frames)

-- the state after the bytes before the place
abbrev pub state_view : List ℕ → ℕ → TheState → State
state_view text place st = record {
  lexeme = lexeme_view text place st.lexeme;
  want = want_view st.want;
  stack = frames_view st.stack.items;
  firsts = st.firsts;
}

abbrev pub found_view : Chart × Firsts → Diagram × Firsts
found_view p = (diagram_of p.0, p.1)

-- the token goes on from the place up to the next one
pub record GoesOn (text : List ℕ) (place next : ℕ) (lexeme : TheLexeme) : Type 0 where
  pub later : place ≤ next
  pub within : next ≤ length text
  pub after : (w : Want) (frames : List Frame) (firsts : Firsts)
      → IsAfter text place (record { lexeme = lexeme_view text place lexeme; want = w; stack = frames; firsts = firsts })
      → IsAfter text next (record { lexeme = lexeme_view text next lexeme; want = w; stack = frames; firsts = firsts })
