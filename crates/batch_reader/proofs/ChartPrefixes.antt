-- A text that the machine has not refused begins a text of a chart.
use Rattle.std.proofs.Common.{◌≡◌, ℕ, ◌+◌, ◌-◌, List, [], ◌∷◌, ◌++◌, length, Bool, true, false, ltb, Option, Some, None, option_and_then, option_map, eqb, refl, sym, ap, ◌∙◌, subst, arith}
use Rattle.std.specs.{Prelude.codes, Char.is_ascii_alphabetic, Char.is_ascii_digit}
use Rattle.batch_text.specs.{NumberText.number_of, declared.name.TheConstants.MAX_NAME_LEN, declared.number.TheConstants.MAX_DIGITS}
use Rattle.batch_recipe.specs.{declared.condition.Op.Op, declared.condition.Op.TheVariants.Less, declared.condition.Op.TheVariants.AtMost, declared.condition.Op.TheVariants.Equal, declared.condition.Op.TheVariants.NotEqual, declared.condition.Op.TheVariants.AtLeast, declared.condition.Op.TheVariants.Greater, declared.condition.Condition.Condition, Diagram.Diagram, Diagram.diagrams_of, Diagram.cases_of}
use Rattle.batch_recipe.specs.declared.condition.Term.TheVariants as term
use Rattle.batch_recipe.specs.Diagram as chart
use Rattle.batch_reader.{specs.declared.firsts.Firsts.Firsts, specs.ChartGrammar.is_chart_space, specs.ChartGrammar.Offsets, specs.ChartGrammar.opens_par, specs.ChartGrammar.IsWideChart, specs.ChartMachine.Frame, specs.ChartMachine.in_seq, specs.ChartMachine.in_par, specs.ChartMachine.in_case, specs.ChartMachine.in_else, specs.ChartMachine.in_loop, specs.ChartMachine.Test, specs.ChartMachine.of_sel, specs.ChartMachine.of_loop, specs.ChartMachine.Want, specs.ChartMachine.a_chart, specs.ChartMachine.open_seq, specs.ChartMachine.open_par, specs.ChartMachine.open_sel, specs.ChartMachine.open_loop, specs.ChartMachine.a_turns, specs.ChartMachine.after_turns, specs.ChartMachine.a_name, specs.ChartMachine.an_operator, specs.ChartMachine.an_operand, specs.ChartMachine.after_condition, specs.ChartMachine.after_else, specs.ChartMachine.after_chart, specs.ChartMachine.State, specs.ChartMachine.Lexeme, specs.ChartMachine.nothing, specs.ChartMachine.letters, specs.ChartMachine.digits, specs.ChartMachine.less, specs.ChartMachine.more, specs.ChartMachine.slash, specs.ChartMachine.in_token, specs.ChartMachine.takes_word, specs.ChartMachine.takes_number, specs.ChartMachine.takes_operator, specs.ChartMachine.begin, specs.ChartMachine.step, specs.ChartMachine.finish, specs.ChartMachine.end_number, specs.ChartMachine.condition_of, specs.ChartMachine.noted, specs.ChartMachine.number_offsets, specs.ChartMachine.word_of, specs.ChartMachine.take_operator, specs.ChartMachine.take_sign, specs.ChartMachine.starts, specs.ChartMachine.go_on, specs.ChartMachine.continues, specs.ChartMachine.end_token, specs.ChartMachine.steps, specs.ChartMachine.start, proofs.ChartTokens.runs, proofs.ChartSoundness.word_cases, proofs.ChartSoundness.Leads, proofs.ChartSoundness.if_leads, proofs.ChartSoundness.sound, proofs.ChartCompleteness.runs-steps}
use Rattle.batch_reader.specs.declared.word.Word.TheVariants as word

-- some bytes end well, in a text of any length
abbrev pub CanEnd : Lexeme → Want → List Frame → Type 0
CanEnd l w frames = (rest : List ℕ) × ((total : ℕ) (o : Firsts) → (tree : Diagram) × (k : Firsts) × (runs total rest (in_token l w frames o) ≡ Some (tree, k)))

closing : (frames : List Frame) (t : Diagram) → CanEnd nothing (after_chart t) frames
unfolding runs step begin finish in_token
closing [] t = ([], λ total o. (t, o, refl))
closing (in_seq us ∷ frames) t = let r = closing frames (chart.seq (diagrams_of (us ++ t ∷ []))) in (41 ∷ r.0, r.1)
closing (in_par [] ∷ frames) t = let r = closing frames (chart.par (diagrams_of (t ∷ chart.label (codes "a") ∷ []))) in (codes ",a)" ++ r.0, r.1)
closing (in_par (u ∷ us) ∷ frames) t = let r = closing frames (chart.par (diagrams_of ((u ∷ us) ++ t ∷ []))) in (41 ∷ r.0, r.1)
closing (in_case [] c ∷ frames) t = let r = closing frames (chart.sel (cases_of ((c, t) ∷ []) (chart.label (codes "a")))) in (codes ",else:a)" ++ r.0, r.1)
closing (in_case (u ∷ us) c ∷ frames) t = let r = closing frames (chart.sel (cases_of ((u ∷ us) ++ (c, t) ∷ []) (chart.label (codes "a")))) in (codes ",else:a)" ++ r.0, r.1)
closing (in_else us ∷ frames) t = let r = closing frames (chart.sel (cases_of us t)) in (41 ∷ r.0, r.1)
closing (in_loop n c ∷ frames) t = let r = closing frames (chart.loop n c t) in (41 ∷ r.0, r.1)

from_chart : (frames : List Frame) → CanEnd nothing a_chart frames
unfolding runs step begin finish in_token
from_chart frames = let r = closing frames (chart.label (codes "a")) in (codes "a " ++ r.0, r.1)

from_condition : (test : Test) (c : Condition) (frames : List Frame) → CanEnd nothing (after_condition test c) frames
unfolding runs step begin finish in_token
from_condition (of_sel us) c frames = let r = from_chart (in_case us c ∷ frames) in (58 ∷ r.0, r.1)
from_condition (of_loop n) c frames = let r = from_chart (in_loop n c ∷ frames) in (44 ∷ r.0, r.1)

from_operand : (test : Test) (bytes : List ℕ) (op : Op) (frames : List Frame) → CanEnd nothing (an_operand test bytes op) frames
unfolding runs step begin finish in_token
from_operand test bytes op frames = let r = from_condition test (condition_of bytes op (term.Named (codes "a"))) frames in (codes "a " ++ r.0, r.1)

from_operator : (test : Test) (bytes : List ℕ) (frames : List Frame) → CanEnd nothing (an_operator test bytes) frames
unfolding runs step begin finish in_token
from_operator test bytes frames = let r = from_operand test bytes Equal frames in (61 ∷ r.0, r.1)

from_name : (test : Test) (frames : List Frame) → CanEnd nothing (a_name test) frames
unfolding runs step begin finish in_token
from_name test frames = let r = from_operator test (codes "a") frames in (codes "a " ++ r.0, r.1)

from_turns : (n : ℕ) (frames : List Frame) → CanEnd nothing (after_turns n) frames
unfolding runs step begin finish in_token
from_turns n frames = let r = from_name (of_loop n) frames in (44 ∷ r.0, r.1)

-- between two tokens
pub from_between : (w : Want) (frames : List Frame) → CanEnd nothing w frames
unfolding runs step begin finish in_token end_number
from_between a_chart frames = from_chart frames
from_between open_seq frames = let r = from_chart (in_seq [] ∷ frames) in (40 ∷ r.0, r.1)
from_between open_par frames = let r = from_chart (in_par [] ∷ frames) in (40 ∷ r.0, λ total o. r.1 total (noted o (opens_par (total - length (40 ∷ r.0)))))
from_between open_sel frames = let r = from_name (of_sel []) frames in (40 ∷ r.0, r.1)
from_between open_loop frames = let r = from_turns 1 frames in (codes "(1 " ++ r.0, r.1)
from_between a_turns frames = let r = from_turns 1 frames in (codes "1 " ++ r.0, r.1)
from_between (after_turns n) frames = from_turns n frames
from_between (a_name test) frames = from_name test frames
from_between (an_operator test bytes) frames = from_operator test bytes frames
from_between (an_operand test bytes op) frames = from_operand test bytes op frames
from_between (after_condition test c) frames = from_condition test c frames
from_between (after_else us) frames = let r = from_chart (in_else us ∷ frames) in (58 ∷ r.0, r.1)
from_between (after_chart t) frames = closing frames t

-- ---- inside a token

keyword_goes : (bytes longer : List ℕ) (w : Want) (frames : List Frame) → bytes ++ codes "x" ≡ longer → ltb (length bytes) MAX_NAME_LEN ≡ true → CanEnd (letters longer) w frames → CanEnd (letters bytes) w frames
unfolding runs step in_token
keyword_goes bytes longer w frames e room r =
    let r2 = subst (λ l. CanEnd (letters l) w frames) (sym e) r in
    (120 ∷ r2.0, λ total o. rw room (r2.1 total o))

name_goes : (w : Want) (bytes : List ℕ) (frames : List Frame) → takes_word w ≡ true → word_of bytes ≡ word.Name → CanEnd (letters bytes) w frames
unfolding runs step begin finish in_token
name_goes a_chart bytes frames takes e = let r = closing frames (chart.label bytes) in (32 ∷ r.0, λ total o. rw e (r.1 total o))
name_goes (a_name test) bytes frames takes e = let r = from_operator test bytes frames in (32 ∷ r.0, λ total o. rw e (r.1 total o))
name_goes (an_operand test n op) bytes frames takes e = let r = from_condition test (condition_of n op (term.Named bytes)) frames in (32 ∷ r.0, λ total o. rw e (r.1 total o))
name_goes w bytes frames takes e = grind arith

word_goes : (w : Want) (bytes : List ℕ) (frames : List Frame) → takes_word w ≡ true → CanEnd (letters bytes) w frames
word_goes w bytes frames takes =
    word_cases (λ _. CanEnd (letters bytes) w frames) bytes
    (λ e. subst (λ l. CanEnd (letters l) w frames) (sym e) (keyword_goes (codes "skip") (codes "skipx") w frames refl refl (name_goes w (codes "skipx") frames takes refl)))
    (λ e. subst (λ l. CanEnd (letters l) w frames) (sym e) (keyword_goes (codes "seq") (codes "seqx") w frames refl refl (name_goes w (codes "seqx") frames takes refl)))
    (λ e. subst (λ l. CanEnd (letters l) w frames) (sym e) (keyword_goes (codes "par") (codes "parx") w frames refl refl (name_goes w (codes "parx") frames takes refl)))
    (λ e. subst (λ l. CanEnd (letters l) w frames) (sym e) (keyword_goes (codes "sel") (codes "selx") w frames refl refl (name_goes w (codes "selx") frames takes refl)))
    (λ e. subst (λ l. CanEnd (letters l) w frames) (sym e) (keyword_goes (codes "loop") (codes "loopx") w frames refl refl (name_goes w (codes "loopx") frames takes refl)))
    (λ e. subst (λ l. CanEnd (letters l) w frames) (sym e) (keyword_goes (codes "else") (codes "elsex") w frames refl refl (name_goes w (codes "elsex") frames takes refl)))
    (λ e. name_goes w bytes frames takes e)

-- the token is one that is wanted
abbrev pub IsFit : Lexeme → Want → Type 0
IsFit nothing w = Unit {0}
IsFit (letters bytes) w = takes_word w ≡ true
IsFit (digits bytes) w = takes_number w ≡ true
IsFit less w = takes_operator w ≡ true
IsFit more w = takes_operator w ≡ true
IsFit slash w = takes_operator w ≡ true

digits_go : (w : Want) (bytes : List ℕ) (frames : List Frame) → takes_number w ≡ true → CanEnd (digits bytes) w frames
unfolding runs step begin finish in_token end_number
digits_go a_turns bytes frames takes = let r = from_turns (number_of bytes) frames in (32 ∷ r.0, λ total o. r.1 total (noted o (number_offsets a_turns (number_of bytes) (total - length (32 ∷ r.0) - length bytes))))
digits_go (an_operand test n op) bytes frames takes =
    let r = from_condition test (condition_of n op (term.Number (number_of bytes))) frames in
    (32 ∷ r.0, λ total o. r.1 total (noted o (number_offsets (an_operand test n op) (number_of bytes) (total - length (32 ∷ r.0) - length bytes))))
digits_go w bytes frames takes = grind arith

operator_goes : (w : Want) (frames : List Frame) → takes_operator w ≡ true → CanEnd less w frames × CanEnd more w frames × CanEnd slash w frames
unfolding runs step begin finish in_token
operator_goes (an_operator test n) frames takes =
    let a = from_operand test n Less frames in
    let b = from_operand test n Greater frames in
    let c = from_operand test n NotEqual frames in
    ((32 ∷ a.0, a.1), (32 ∷ b.0, b.1), (61 ∷ c.0, c.1))
operator_goes w frames takes = grind arith

pub can_end : (l : Lexeme) (w : Want) (frames : List Frame) → IsFit l w → CanEnd l w frames
can_end nothing w frames fit = from_between w frames
can_end (letters bytes) w frames fit = word_goes w bytes frames fit
can_end (digits bytes) w frames fit = digits_go w bytes frames fit
can_end less w frames fit = (operator_goes w frames fit).0
can_end more w frames fit = (operator_goes w frames fit).1
can_end slash w frames fit = (operator_goes w frames fit).2

-- ---- every step leaves a token that is wanted

abbrev Fits : State → Type 0
Fits st = IsFit st.lexeme st.want

any_leads : {A B : Type 0} (o : Option A) (f : A → B) (P : B → Type 0) → ((x : A) → P (f x)) → Leads (option_map f o) P
any_leads None f P h = tt
any_leads (Some x) f P h = h x

starts_fit : (takes : Bool) (l : Lexeme) (st : State) → (takes ≡ true → IsFit l st.want) → Leads (starts takes l st) Fits
starts_fit true l st h = h refl
starts_fit false l st h = tt

begin_fit : (place b : ℕ) (st : State) → Leads (begin place b st) Fits
unfolding begin
begin_fit place b st =
    if_leads (is_chart_space b) _ _ Fits (λ _. tt) (λ _.
    if_leads (is_ascii_alphabetic b) _ _ Fits (λ _. starts_fit (takes_word st.want) (letters (b ∷ [])) st (λ e. e)) (λ _.
    if_leads (is_ascii_digit b) _ _ Fits (λ _. starts_fit (takes_number st.want) (digits (b ∷ [])) st (λ e. e)) (λ _.
    if_leads (takes_operator st.want) _ _ Fits
    (λ takes.
    if_leads (eqb b 60) _ _ Fits (λ _. takes) (λ _.
    if_leads (eqb b 62) _ _ Fits (λ _. takes) (λ _.
    if_leads (eqb b 47) _ _ Fits (λ _. takes) (λ _.
    if_leads (eqb b 61) _ None Fits (λ _. any_leads (take_operator st.want Equal) _ Fits (λ _. tt)) (λ _. tt)))))
    (λ _. any_leads (take_sign st.want b st.stack) _ Fits (λ _. tt)))))

go_on_fit : (l : Lexeme) (b : ℕ) (st : State) → IsFit l st.want → Leads (go_on l b st) Fits
go_on_fit nothing b st fit = tt
go_on_fit (letters bytes) b st fit = if_leads (ltb (length bytes) MAX_NAME_LEN) _ None Fits (λ _. fit) (λ _. tt)
go_on_fit (digits bytes) b st fit = if_leads (ltb (length bytes) MAX_DIGITS) _ None Fits (λ _. fit) (λ _. tt)
go_on_fit less b st fit = any_leads (take_operator st.want AtMost) _ Fits (λ _. tt)
go_on_fit more b st fit = any_leads (take_operator st.want AtLeast) _ Fits (λ _. tt)
go_on_fit slash b st fit = any_leads (take_operator st.want NotEqual) _ Fits (λ _. tt)

any_then : {A B : Type 0} (o : Option A) (f : A → Option B) (P : B → Type 0) → ((x : A) → Leads (f x) P) → Leads (option_and_then f o) P
any_then None f P h = tt
any_then (Some x) f P h = h x

step_fit : (place b : ℕ) (st : State) → Fits st → Leads (step place b st) Fits
unfolding step
step_fit place b st fit =
    if_leads (continues st.lexeme b) _ _ Fits (λ _. go_on_fit st.lexeme b st fit) (λ _. any_then (end_token place st.lexeme st) (begin place b) Fits (begin_fit place b))

-- a state that is reached fits, and its token may be a whole one
steps_keep : (s : List ℕ) (place : ℕ) (st after : State) → Fits st → steps place s st ≡ Some after → Fits after
unfolding steps
steps_keep [] place st after fit e = let same : st ≡ after = cc in subst Fits same fit
steps_keep (b ∷ s) place st after fit e = onward (step place b st) (steps (place + 1) s) (step_fit place b st fit) (λ x h f. steps_keep s (place + 1) x after h f) e
  where
    onward : (o : Option State) (f : State → Option State) → Leads o Fits → ((x : State) → Fits x → f x ≡ Some after → Fits after) → option_and_then f o ≡ Some after → Fits after
    onward None f h go e = absurd cc
    onward (Some x) f h go e = go x h e

-- bytes that the machine has not refused begin a text of a chart
pub begins_a_chart : (front : List ℕ) (st : State) → steps 0 front start ≡ Some st → (rest : List ℕ) × (tree : Diagram) × (offsets : Offsets) × IsWideChart (front ++ rest) tree offsets
unfolding in_token
begins_a_chart front st e =
    let r = can_end st.lexeme st.want st.stack (steps_keep front 0 start st tt e) in
    let total = length (front ++ r.0) in
    let ended = r.1 total st.firsts in
    let whole = runs-steps front r.0 0 total start (omega arith) ∙ ap (option_and_then (runs total r.0)) e ∙ ended.2 in
    let found = sound (front ++ r.0) ended.0 ended.1 whole in
    (r.0, ended.0, found.0, found.1)
