-- The machine at a comma behind a label.
use Rattle.std.proofs.Common.{◌≡◌, ℕ, List, length, option_and_then, ap}
use Rattle.batch_recipe.specs.Diagram as chart
use Rattle.batch_reader.specs.{declared.firsts.Firsts.Firsts, declared.word.Word.TheVariants.Name, Ascii.comma, ChartMachine.Frame, ChartMachine.Want, ChartMachine.a_chart, ChartMachine.Lexeme, ChartMachine.letters, ChartMachine.State, ChartMachine.begin, ChartMachine.step, ChartMachine.take_chart_word, ChartMachine.take_comma, ChartMachine.with_after, ChartMachine.with_want, ChartMachine.word_of}

abbrev in_label : List ℕ → List Frame → Firsts → State
in_label bytes frames firsts = record { lexeme = letters bytes; want = a_chart; stack = frames; firsts = firsts }

label_ends : (place : ℕ) (bytes : List ℕ) (frames : List Frame) (firsts : Firsts) → word_of bytes ≡ Name
    → step place comma (in_label bytes frames firsts) ≡ with_after place (in_label bytes frames firsts) (take_comma (chart.label bytes) frames)
unfolding step begin
label_ends place bytes frames firsts named =
    ap (λ kind. option_and_then (begin place comma) (with_want (in_label bytes frames firsts) (take_chart_word kind bytes (length frames)))) named

pub comma_behind_label : (place byte : ℕ) (lexeme : Lexeme) (want : Want) (frames : List Frame) (firsts : Firsts) (bytes : List ℕ)
    → lexeme ≡ letters bytes → want ≡ a_chart → word_of bytes ≡ Name → byte ≡ comma
    → step place byte (record { lexeme = lexeme; want = want; stack = frames; firsts = firsts })
    ≡ with_after place (record { lexeme = lexeme; want = want; stack = frames; firsts = firsts }) (take_comma (chart.label bytes) frames)
comma_behind_label place byte lexeme want frames firsts bytes letters_are chart_is named comma_is =
    rw (letters_are, chart_is, comma_is) (label_ends place bytes frames firsts named)
