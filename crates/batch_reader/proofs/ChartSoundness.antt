-- A text that the machine accepts is one of the chart that it gives.
use Rattle.std.proofs.Common.{◌≡◌, ℕ, suc, ◌+◌, ◌-◌, List, [], ◌∷◌, ◌++◌, length, Bool, true, false, ltb, eqb, Option, Some, None, option_map, option_and_then, refl, sym, ap, ◌∙◌, subst, append_assoc, append-nil, arith, length-append}
use Rattle.std.{specs.Prelude.codes, specs.Prelude.⊤, specs.Prelude.if◌then◌else◌, specs.Str.bytes_eq, specs.Char.is_ascii_alphabetic, specs.Char.is_ascii_digit, proofs.lemmas.Slice.Eq.bytes_eq-Decides, proofs.lemmas.Bool.Decides.nat_tests, proofs.lemmas.Bool.Decides.Decides-eqb, proofs.lemmas.Bool.ltb-true}
use Rattle.batch_text.specs.{NameText.IsName, NumberText.number_of, NumberText.IsNumber, declared.name.TheConstants.MAX_NAME_LEN, declared.number.TheConstants.MAX_DIGITS}
use Rattle.batch_recipe.specs.{declared.chart.TheConstants.MAX_DEPTH, declared.chart.TheConstants.MAX_TURNS, declared.condition.Op.Op, declared.condition.Op.TheVariants.Less, declared.condition.Op.TheVariants.AtMost, declared.condition.Op.TheVariants.Equal, declared.condition.Op.TheVariants.NotEqual, declared.condition.Op.TheVariants.AtLeast, declared.condition.Op.TheVariants.Greater, declared.condition.Term.Term, declared.condition.Condition.Condition, Diagram.Diagram, Diagram.Diagrams, Diagram.Cases}
use Rattle.batch_recipe.specs.Diagram as chart
use Rattle.batch_reader.{specs.declared.word.Word.Word, specs.declared.firsts.Firsts.Firsts, specs.ChartGrammar.is_chart_space, specs.ChartGrammar.Offsets, specs.ChartGrammar.no_offsets, specs.ChartGrammar.offsets_joined, specs.ChartGrammar.opens_par, specs.ChartGrammar.ranged, specs.ChartGrammar.IsLabel, specs.ChartGrammar.Skips, specs.ChartGrammar.here, specs.ChartGrammar.space, specs.ChartGrammar.ReadsOp, specs.ChartGrammar.ReadsTerm, specs.ChartGrammar.Reads, specs.ChartGrammar.ReadsBranches, specs.ChartGrammar.ReadsCases, specs.ChartGrammar.IsWideChart, specs.ChartMachine.Frame, specs.ChartMachine.in_seq, specs.ChartMachine.in_par, specs.ChartMachine.in_case, specs.ChartMachine.in_else, specs.ChartMachine.in_loop, specs.ChartMachine.Test, specs.ChartMachine.of_sel, specs.ChartMachine.of_loop, specs.ChartMachine.Lexeme, specs.ChartMachine.IsGood, specs.ChartMachine.nothing, specs.ChartMachine.letters, specs.ChartMachine.digits, specs.ChartMachine.less, specs.ChartMachine.more, specs.ChartMachine.slash, specs.ChartMachine.begin, specs.ChartMachine.end_token, specs.ChartMachine.end_number, specs.ChartMachine.continues, specs.ChartMachine.go_on, specs.ChartMachine.step, specs.ChartMachine.finish, specs.ChartMachine.result_of, specs.ChartMachine.starts, specs.ChartMachine.takes_word, specs.ChartMachine.takes_number, specs.ChartMachine.takes_operator, specs.ChartMachine.in_token, specs.ChartMachine.start, specs.ChartMachine.Want, specs.ChartMachine.a_chart, specs.ChartMachine.open_seq, specs.ChartMachine.open_par, specs.ChartMachine.open_sel, specs.ChartMachine.open_loop, specs.ChartMachine.a_turns, specs.ChartMachine.after_turns, specs.ChartMachine.a_name, specs.ChartMachine.an_operator, specs.ChartMachine.an_operand, specs.ChartMachine.after_condition, specs.ChartMachine.after_else, specs.ChartMachine.after_chart, specs.ChartMachine.State, specs.ChartMachine.no_firsts, specs.ChartMachine.noted, specs.ChartMachine.number_offsets, specs.ChartMachine.sign_offsets, specs.ChartMachine.word_of, specs.ChartMachine.take_word, specs.ChartMachine.take_chart_word, specs.ChartMachine.take_name_word, specs.ChartMachine.take_operand_word, specs.ChartMachine.take_number, specs.ChartMachine.take_operator, specs.ChartMachine.take_sign, specs.ChartMachine.take_comma, specs.ChartMachine.take_close, specs.ChartMachine.take_else, specs.ChartMachine.condition_of, specs.ChartMachine.deeper, specs.ChartMachine.After, specs.ChartMachine.when_is, proofs.ChartTexts.name_more, proofs.ChartTexts.name_of_letter, proofs.ChartTexts.number_more, proofs.ChartTexts.number_of_digit, proofs.ChartWords.word_label, proofs.ChartTokens.runs, proofs.ChartCompleteness.with_diagrams, proofs.ChartCompleteness.with_diagrams-last, proofs.ChartCompleteness.diagrams_of-last, proofs.ChartCompleteness.with_cases, proofs.ChartCompleteness.with_cases-last, proofs.ChartCompleteness.cases_of-is, proofs.ChartCompleteness.noted-joined}
use Rattle.batch_reader.specs.declared.word.Word.TheVariants as word
use Rattle.batch_reader.specs.ChartGrammar as spec

-- ---- offsets

offsets_of : (a b : List ℕ) (c d : List ℕ) → a ≡ b → c ≡ d → ◌≡◌ {A = Offsets} (record { outside = a; pars = c }) (record { outside = b; pars = d })
offsets_of a b c d e f = cc

joined_assoc : (f g h : Offsets) → offsets_joined (offsets_joined f g) h ≡ offsets_joined f (offsets_joined g h)
joined_assoc f g h = offsets_of _ _ _ _ (append_assoc f.outside g.outside h.outside) (append_assoc f.pars g.pars h.pars)

joined-none : (f : Offsets) → offsets_joined f no_offsets ≡ f
joined-none f = offsets_of _ _ _ _ (append-nil f.outside) (append-nil f.pars)

-- ---- a property of the result, if there is one

-- P of the result, if there is one
abbrev pub Leads : {A : Type 0} → Option A → (A → Type 0) → Type 0
Leads None P = ⊤
Leads (Some x) P = P x

pub if_leads : {A : Type 0} (b : Bool) (x y : Option A) (P : A → Type 0) → (b ≡ true → Leads x P) → (b ≡ false → Leads y P) → Leads (if b then x else y) P
if_leads true x y P f g = f refl
if_leads false x y P f g = g refl

pub and_then_leads : {A B : Type 0} (o : Option A) (f : A → Option B) (P : A → Type 0) (Q : B → Type 0) → Leads o P → ((x : A) → P x → Leads (f x) Q) → Leads (option_and_then f o) Q
and_then_leads None f P Q h g = tt
and_then_leads (Some x) f P Q h g = g x h

pub map_leads : {A B : Type 0} (o : Option A) (f : A → B) (P : A → Type 0) (Q : B → Type 0) → Leads o P → ((x : A) → P x → Q (f x)) → Leads (option_map f o) Q
map_leads None f P Q h g = tt
map_leads (Some x) f P Q h g = g x h

pub weaker : {A : Type 0} (o : Option A) (P Q : A → Type 0) → Leads o P → ((x : A) → P x → Q x) → Leads o Q
weaker None P Q h g = tt
weaker (Some x) P Q h g = g x h

eqb-is : (a b : ℕ) → eqb a b ≡ true → a ≡ b
eqb-is a b h = (Decides-eqb a b).0 h

sign_leads : (b sign : ℕ) (after : After) (P : Want × List Frame → Type 0) → (b ≡ sign → Leads after P) → Leads (when_is b sign after) P
sign_leads b sign after P f = if_leads (eqb b sign) after None P (λ h. f (eqb-is b sign h)) (λ _. tt)

-- ---- words

if_cases : (P : Word → Type 0) (b : Bool) (x y : Word) → (b ≡ true → P x) → (b ≡ false → P y) → P (if b then x else y)
if_cases P true x y f g = f refl
if_cases P false x y f g = g refl

bytes_eq-is : (a b : List ℕ) → bytes_eq a b ≡ true → a ≡ b
bytes_eq-is a b h = (bytes_eq-Decides a b).0 h

pub word_cases : (P : Word → Type 0) (bytes : List ℕ)
    → (bytes ≡ codes "skip" → P word.Skip) → (bytes ≡ codes "seq" → P word.Seq) → (bytes ≡ codes "par" → P word.Par) → (bytes ≡ codes "sel" → P word.Sel)
    → (bytes ≡ codes "loop" → P word.Loop) → (bytes ≡ codes "else" → P word.Else) → (word_of bytes ≡ word.Name → P word.Name) → P (word_of bytes)
word_cases P bytes is_skip is_seq is_par is_sel is_loop is_else is_name =
    if_cases P (bytes_eq bytes (codes "skip")) word.Skip _ (λ h. is_skip (bytes_eq-is bytes (codes "skip") h)) (λ n1.
    if_cases P (bytes_eq bytes (codes "seq")) word.Seq _ (λ h. is_seq (bytes_eq-is bytes (codes "seq") h)) (λ n2.
    if_cases P (bytes_eq bytes (codes "par")) word.Par _ (λ h. is_par (bytes_eq-is bytes (codes "par") h)) (λ n3.
    if_cases P (bytes_eq bytes (codes "sel")) word.Sel _ (λ h. is_sel (bytes_eq-is bytes (codes "sel") h)) (λ n4.
    if_cases P (bytes_eq bytes (codes "loop")) word.Loop _ (λ h. is_loop (bytes_eq-is bytes (codes "loop") h)) (λ n5.
    if_cases P (bytes_eq bytes (codes "else")) word.Else word.Name (λ h. is_else (bytes_eq-is bytes (codes "else") h)) (λ n6.
    is_name (rw (n1, n2, n3, n4, n5, n6) refl)))))))

-- ---- the rest of a text
-- In a text of length total, s completes the part that has been read to the text of the chart whole. The list has the
-- offsets of the numbers out of range in s.

module _ (total : ℕ) (whole : Diagram) where
  -- how deep a chart within the frames may nest
  abbrev within : List Frame → ℕ
  within frames = MAX_DEPTH - length frames

  -- a chart has been read
  data Completes : List Frame → Diagram → List ℕ → Offsets → Type 0 where
    ends : {s : List ℕ} → Skips s [] → Completes [] whole s no_offsets
    closes_seq : {us : List Diagram} {frames : List Frame} {t : Diagram} {s s1 : List ℕ} {out : Offsets}
        → Skips s (41 ∷ s1) → Completes frames (chart.seq (with_diagrams us (chart.more t chart.none))) s1 out → Completes (in_seq us ∷ frames) t s out
    goes_on_seq : {us : List Diagram} {frames : List Frame} {t : Diagram} {ts : Diagrams} {s s1 s2 : List ℕ} {f g : Offsets}
        → Skips s (44 ∷ s1) → ReadsBranches total (within (in_seq us ∷ frames)) s1 s2 ts f
        → Completes frames (chart.seq (with_diagrams us (chart.more t ts))) s2 g → Completes (in_seq us ∷ frames) t s (offsets_joined f g)
    closes_par : {u : Diagram} {us : List Diagram} {frames : List Frame} {t : Diagram} {s s1 : List ℕ} {out : Offsets}
        → Skips s (41 ∷ s1) → Completes frames (chart.par (with_diagrams (u ∷ us) (chart.more t chart.none))) s1 out → Completes (in_par (u ∷ us) ∷ frames) t s out
    goes_on_par : {us : List Diagram} {frames : List Frame} {t v : Diagram} {ts : Diagrams} {s s1 s2 : List ℕ} {f g : Offsets}
        → Skips s (44 ∷ s1) → ReadsBranches total (within (in_par us ∷ frames)) s1 s2 (chart.more v ts) f
        → Completes frames (chart.par (with_diagrams us (chart.more t (chart.more v ts)))) s2 g → Completes (in_par us ∷ frames) t s (offsets_joined f g)
    goes_on_case : {us : List (Condition × Diagram)} {c : Condition} {frames : List Frame} {t : Diagram} {ts : Cases} {s s1 s2 : List ℕ} {f g : Offsets}
        → Skips s (44 ∷ s1) → ReadsCases total (within (in_case us c ∷ frames)) s1 s2 ts f
        → Completes frames (chart.sel (with_cases us (chart.when c t ts))) s2 g → Completes (in_case us c ∷ frames) t s (offsets_joined f g)
    closes_else : {us : List (Condition × Diagram)} {frames : List Frame} {t : Diagram} {s s1 : List ℕ} {out : Offsets}
        → Skips s (41 ∷ s1) → Completes frames (chart.sel (with_cases us (chart.otherwise t))) s1 out → Completes (in_else us ∷ frames) t s out
    closes_loop : {n : ℕ} {c : Condition} {frames : List Frame} {t : Diagram} {s s1 : List ℕ} {out : Offsets}
        → Skips s (41 ∷ s1) → Completes frames (chart.loop n c t) s1 out → Completes (in_loop n c ∷ frames) t s out

  -- the rest of a text from the wanted token on
  data From : Want → List Frame → List ℕ → Offsets → Type 0 where
    from_chart : {frames : List Frame} {s s1 : List ℕ} {f g : Offsets} {t : Diagram} → Reads total (within frames) s s1 t f → Completes frames t s1 g → From a_chart frames s (offsets_joined f g)
    from_after_chart : {frames : List Frame} {s : List ℕ} {out : Offsets} {t : Diagram} → Completes frames t s out → From (after_chart t) frames s out
    from_open_seq : {frames : List Frame} {s s1 : List ℕ} {out : Offsets} → Skips s (40 ∷ s1) → From a_chart (in_seq [] ∷ frames) s1 out → From open_seq frames s out
    from_open_par : {frames : List Frame} {s s1 : List ℕ} {out : Offsets} → Skips s (40 ∷ s1) → From a_chart (in_par [] ∷ frames) s1 out → From open_par frames s (offsets_joined (opens_par (total - length (40 ∷ s1))) out)
    from_open_sel : {frames : List Frame} {s s1 : List ℕ} {out : Offsets} → Skips s (40 ∷ s1) → From (a_name (of_sel [])) frames s1 out → From open_sel frames s out
    from_open_loop : {frames : List Frame} {s s1 : List ℕ} {out : Offsets} → Skips s (40 ∷ s1) → From a_turns frames s1 out → From open_loop frames s out
    from_turns : {frames : List Frame} {s s1 : List ℕ} {g : Offsets} (bytes : List ℕ) → Skips s (bytes ++ s1) → IsNumber bytes → From (after_turns (number_of bytes)) frames s1 g
        → From a_turns frames s (offsets_joined (ranged 1 MAX_TURNS (number_of bytes) (total - length (bytes ++ s1))) g)
    from_after_turns : {n : ℕ} {frames : List Frame} {s s1 : List ℕ} {out : Offsets} → Skips s (44 ∷ s1) → From (a_name (of_loop n)) frames s1 out → From (after_turns n) frames s out
    from_name : {test : Test} {bytes : List ℕ} {frames : List Frame} {s s1 : List ℕ} {out : Offsets} → Skips s (bytes ++ s1) → IsLabel bytes → From (an_operator test bytes) frames s1 out → From (a_name test) frames s out
    from_else : {u : Condition × Diagram} {us : List (Condition × Diagram)} {frames : List Frame} {s s1 : List ℕ} {out : Offsets} → Skips s (codes "else" ++ s1) → From (after_else (u ∷ us)) frames s1 out → From (a_name (of_sel (u ∷ us))) frames s out
    from_operator : {test : Test} {bytes : List ℕ} {op : Op} {frames : List Frame} {s s1 : List ℕ} {out : Offsets} → ReadsOp s s1 op → From (an_operand test bytes op) frames s1 out → From (an_operator test bytes) frames s out
    from_operand : {test : Test} {bytes : List ℕ} {op : Op} {x : Term} {frames : List Frame} {s s1 : List ℕ} {f g : Offsets}
        → ReadsTerm total s s1 x f → From (after_condition test (condition_of bytes op x)) frames s1 g → From (an_operand test bytes op) frames s (offsets_joined f g)
    from_case : {us : List (Condition × Diagram)} {c : Condition} {frames : List Frame} {s s1 : List ℕ} {out : Offsets} → Skips s (58 ∷ s1) → From a_chart (in_case us c ∷ frames) s1 out → From (after_condition (of_sel us) c) frames s out
    from_body : {n : ℕ} {c : Condition} {frames : List Frame} {s s1 : List ℕ} {out : Offsets} → Skips s (44 ∷ s1) → From a_chart (in_loop n c ∷ frames) s1 out → From (after_condition (of_loop n) c) frames s out
    from_after_else : {us : List (Condition × Diagram)} {frames : List Frame} {s s1 : List ℕ} {out : Offsets} → Skips s (58 ∷ s1) → From a_chart (in_else us ∷ frames) s1 out → From (after_else us) frames s out

  -- ---- forms from their parts

  deep : (frames : List Frame) → ltb (length frames) MAX_DEPTH ≡ true → suc (MAX_DEPTH - suc (length frames)) ≡ within frames
  deep frames h = grind (arith, nat_tests)

  at_depth : (frames : List Frame) {s t : List ℕ} {f : Offsets} {c : Diagram} → ltb (length frames) MAX_DEPTH ≡ true → Reads total (suc (MAX_DEPTH - suc (length frames))) s t c f → Reads total (within frames) s t c f
  at_depth frames {s = s} {t = t} {f = f} {c = c} room reads = subst (λ d. Reads total d s t c f) (deep frames room) reads

  then_completes : {frames : List Frame} {s s1 : List ℕ} {t : Diagram} (f a b : Offsets) → Reads total (within frames) s s1 t (offsets_joined f a) → Completes frames t s1 b → From a_chart frames s (offsets_joined f (offsets_joined a b))
  then_completes {frames = frames} {s = s} f a b reads rest = subst (λ o. From a_chart frames s o) (joined_assoc f a b) (from_chart reads rest)

  then_completes2 : {frames : List Frame} {s s1 : List ℕ} {t : Diagram} (f a b g : Offsets) → Reads total (within frames) s s1 t (offsets_joined f (offsets_joined a b)) → Completes frames t s1 g → From a_chart frames s (offsets_joined f (offsets_joined a (offsets_joined b g)))
  then_completes2 {frames = frames} {s = s} f a b g reads rest = subst (λ o. From a_chart frames s o) (joined_assoc f (offsets_joined a b) g ∙ ap (offsets_joined f) (joined_assoc a b g)) (from_chart reads rest)

  seq_from : {frames : List Frame} {t : List ℕ} {out : Offsets} → ltb (length frames) MAX_DEPTH ≡ true → From open_seq frames t out → From a_chart frames (codes "seq" ++ t) out
  seq_from {frames = frames} room (from_open_seq opens (from_chart reads (closes_seq closes rest))) =
      from_chart (at_depth frames room (spec.seq here opens (spec.last reads closes))) rest
  seq_from {frames = frames} room (from_open_seq opens (from_chart {f = f} reads (goes_on_seq {f = a} {g = b} comma branches rest))) =
      then_completes f a b (at_depth frames room (spec.seq here opens (spec.next reads comma branches))) rest

  par_from : {frames : List Frame} {t : List ℕ} {out : Offsets} → ltb (length frames) MAX_DEPTH ≡ true → From open_par frames t out → From a_chart frames (codes "par" ++ t) out
  par_from {frames = frames} room (from_open_par {s1 = s1} opens (from_chart {f = f} reads (goes_on_par {f = a} {g = b} comma branches rest))) =
      then_completes2 (opens_par (total - length (40 ∷ s1))) f a b (at_depth frames room (spec.par here opens (spec.next reads comma branches))) rest

  sel_from : {frames : List Frame} {t : List ℕ} {out : Offsets} → ltb (length frames) MAX_DEPTH ≡ true → From open_sel frames t out → From a_chart frames (codes "sel" ++ t) out
  sel_from {frames = frames} room (from_open_sel opens (from_name skips label (from_operator op (from_operand {f = f} x (from_case colon (from_chart {f = a} reads (goes_on_case {f = b} {g = g} comma cases rest))))))) =
      then_completes2 f a b g (at_depth frames room (spec.sel here opens (spec.next_case (spec.condition skips label op x) colon reads comma cases))) rest

  loop_from : {frames : List Frame} {t : List ℕ} {out : Offsets} → ltb (length frames) MAX_DEPTH ≡ true → From open_loop frames t out → From a_chart frames (codes "loop" ++ t) out
  loop_from {frames = frames} room (from_open_loop opens (from_turns {s1 = s1} bytes skips number (from_after_turns comma (from_name name_skips label (from_operator op (from_operand {f = a} x (from_body comma2 (from_chart {f = b} {g = g} reads (closes_loop closes rest))))))))) =
      then_completes2 (ranged 1 MAX_TURNS (number_of bytes) (total - length (bytes ++ s1))) a b g
      (at_depth frames room (spec.loop bytes here opens skips number comma (spec.condition name_skips label op x) comma2 reads closes)) rest

  -- the branches of a seq, whichever have been read
  branches_from : (us : List Diagram) {frames : List Frame} {s : List ℕ} {out : Offsets} → From a_chart (in_seq us ∷ frames) s out
      → (P : Type 0) → ((ts : Diagrams) (s1 : List ℕ) (f g : Offsets) → ReadsBranches total (within (in_seq us ∷ frames)) s s1 ts f → Completes frames (chart.seq (with_diagrams us ts)) s1 g → offsets_joined f g ≡ out → P) → P
  branches_from us (from_chart {f = f} {t = t} reads (closes_seq {s1 = s1} {out = out} closes rest)) P use_it = use_it (chart.more t chart.none) s1 f out (spec.last reads closes) rest refl
  branches_from us (from_chart {f = f} {t = t} reads (goes_on_seq {ts = ts} {s2 = s2} {f = a} {g = b} comma branches rest)) P use_it =
      use_it (chart.more t ts) s2 (offsets_joined f a) b (spec.next reads comma branches) rest (joined_assoc f a b)

  par_branches_from : (us : List Diagram) {frames : List Frame} {s : List ℕ} {out : Offsets} → From a_chart (in_par us ∷ frames) s out
      → (P : Type 0) → ((t : Diagram) (ts : Diagrams) (s1 : List ℕ) (f g : Offsets) → ReadsBranches total (within (in_par us ∷ frames)) s s1 (chart.more t ts) f → Completes frames (chart.par (with_diagrams us (chart.more t ts))) s1 g → offsets_joined f g ≡ out → P) → P
  par_branches_from us (from_chart {f = f} {t = t} reads (closes_par {s1 = s1} {out = out} closes rest)) P use_it = use_it t chart.none s1 f out (spec.last reads closes) rest refl
  par_branches_from us (from_chart {f = f} {t = t} reads (goes_on_par {v = v} {ts = ts} {s2 = s2} {f = a} {g = b} comma branches rest)) P use_it =
      use_it t (chart.more v ts) s2 (offsets_joined f a) b (spec.next reads comma branches) rest (joined_assoc f a b)

  cases_from : (us : List (Condition × Diagram)) (c : Condition) {frames : List Frame} {s : List ℕ} {out : Offsets} → From (a_name (of_sel us)) frames s out
      → (P : Type 0) → ((ts : Cases) (s1 : List ℕ) (f g : Offsets) → ReadsCases total (within (in_case us c ∷ frames)) s s1 ts f → Completes frames (chart.sel (with_cases us ts)) s1 g → offsets_joined f g ≡ out → P) → P
  cases_from us c (from_else skips (from_after_else colon (from_chart {f = f} {t = t} reads (closes_else {s1 = s1} {out = out} closes rest)))) P use_it =
      use_it (chart.otherwise t) s1 f out (spec.last_case skips colon reads closes) rest refl
  cases_from us c (from_name skips label (from_operator op (from_operand {f = f} x (from_case {c = c2} colon (from_chart {f = a} {t = t} reads (goes_on_case {ts = ts} {s2 = s2} {f = b} {g = g} comma cases rest)))))) P use_it =
      use_it (chart.when c2 t ts) s2 (offsets_joined f (offsets_joined a b)) g (spec.next_case (spec.condition skips label op x) colon reads comma cases) rest
      (joined_assoc f (offsets_joined a b) g ∙ ap (offsets_joined f) (joined_assoc a b g))

  -- ---- signs

  comma_leads : (t : Diagram) (frames : List Frame) → Leads (take_comma t frames) (λ p. (s : List ℕ) (out : Offsets) → From p.0 p.1 s out → Completes frames t (44 ∷ s) out)
  comma_leads t [] = tt
  comma_leads t (in_seq us ∷ frames) = λ s out h. branches_from (us ++ t ∷ []) h (Completes (in_seq us ∷ frames) t (44 ∷ s) out) (λ ts s1 f g reads rest e.
      subst (λ o. Completes (in_seq us ∷ frames) t (44 ∷ s) o) e (goes_on_seq here reads (subst (λ x. Completes frames (chart.seq x) s1 g) (with_diagrams-last us t ts) rest)))
  comma_leads t (in_par us ∷ frames) = λ s out h. par_branches_from (us ++ t ∷ []) h (Completes (in_par us ∷ frames) t (44 ∷ s) out) (λ v ts s1 f g reads rest e.
      subst (λ o. Completes (in_par us ∷ frames) t (44 ∷ s) o) e (goes_on_par here reads (subst (λ x. Completes frames (chart.par x) s1 g) (with_diagrams-last us t (chart.more v ts)) rest)))
  comma_leads t (in_case us c ∷ frames) = λ s out h. cases_from (us ++ (c, t) ∷ []) c h (Completes (in_case us c ∷ frames) t (44 ∷ s) out) (λ ts s1 f g reads rest e.
      subst (λ o. Completes (in_case us c ∷ frames) t (44 ∷ s) o) e (goes_on_case here reads (subst (λ x. Completes frames (chart.sel x) s1 g) (with_cases-last us c t ts) rest)))
  comma_leads t (in_else us ∷ frames) = tt
  comma_leads t (in_loop n c ∷ frames) = tt

  unread : {t : Diagram} {frames : List Frame} {s : List ℕ} {out : Offsets} → From (after_chart t) frames s out → Completes frames t s out
  unread (from_after_chart rest) = rest

  close_leads : (t : Diagram) (frames : List Frame) → Leads (take_close t frames) (λ p. (s : List ℕ) (out : Offsets) → From p.0 p.1 s out → Completes frames t (41 ∷ s) out)
  close_leads t [] = tt
  close_leads t (in_seq us ∷ frames) = λ s out h. closes_seq here (subst (λ x. Completes frames (chart.seq x) s out) (diagrams_of-last us t) (unread h))
  close_leads t (in_par [] ∷ frames) = tt
  close_leads t (in_par (u ∷ us) ∷ frames) = λ s out h. closes_par here (subst (λ x. Completes frames (chart.par x) s out) (diagrams_of-last (u ∷ us) t) (unread h))
  close_leads t (in_case us c ∷ frames) = tt
  close_leads t (in_else us ∷ frames) = λ s out h. closes_else here (subst (λ x. Completes frames (chart.sel x) s out) (cases_of-is us t) (unread h))
  close_leads t (in_loop n c ∷ frames) = λ s out h. closes_loop here (unread h)

  -- a sign leads from the wanted token to the one wanted after it
  abbrev Takes : Want → List Frame → ℕ → Want × List Frame → Type 0
  Takes w frames b p = (s : List ℕ) (out : Offsets) → From p.0 p.1 s out → From w frames (b ∷ s) (offsets_joined (sign_offsets w (total - length (b ∷ s))) out)

  sign_takes : (w : Want) (b : ℕ) (frames : List Frame) → Leads (take_sign w b frames) (Takes w frames b)
  sign_takes open_seq b frames = sign_leads b 40 _ (Takes open_seq frames b) (λ e s out h. rw e (from_open_seq here h))
  sign_takes open_par b frames = sign_leads b 40 _ (Takes open_par frames b) (λ e s out h. rw e (from_open_par here h))
  sign_takes open_sel b frames = sign_leads b 40 _ (Takes open_sel frames b) (λ e s out h. rw e (from_open_sel here h))
  sign_takes open_loop b frames = sign_leads b 40 _ (Takes open_loop frames b) (λ e s out h. rw e (from_open_loop here h))
  sign_takes (after_turns n) b frames = sign_leads b 44 _ (Takes (after_turns n) frames b) (λ e s out h. rw e (from_after_turns here h))
  sign_takes (after_condition (of_sel us) c) b frames = sign_leads b 58 _ (Takes (after_condition (of_sel us) c) frames b) (λ e s out h. rw e (from_case here h))
  sign_takes (after_condition (of_loop n) c) b frames = sign_leads b 44 _ (Takes (after_condition (of_loop n) c) frames b) (λ e s out h. rw e (from_body here h))
  sign_takes (after_else us) b frames = sign_leads b 58 _ (Takes (after_else us) frames b) (λ e s out h. rw e (from_after_else here h))
  sign_takes (after_chart t) b frames =
      if_leads (eqb b 44) (take_comma t frames) _ (Takes (after_chart t) frames b)
      (λ is44. weaker (take_comma t frames) _ (Takes (after_chart t) frames b) (comma_leads t frames) (λ p f s out h. rw (eqb-is b 44 is44) (from_after_chart (f s out h))))
      (λ _. if_leads (eqb b 41) (take_close t frames) None (Takes (after_chart t) frames b)
      (λ is41. weaker (take_close t frames) _ (Takes (after_chart t) frames b) (close_leads t frames) (λ p f s out h. rw (eqb-is b 41 is41) (from_after_chart (f s out h))))
      (λ _. tt))
  sign_takes a_chart b frames = tt
  sign_takes a_turns b frames = tt
  sign_takes (a_name test) b frames = tt
  sign_takes (an_operator test bytes) b frames = tt
  sign_takes (an_operand test bytes op) b frames = tt

  -- ---- words, numbers and operators

  -- a word leads from the wanted token to the one wanted after it
  abbrev TakesWord : Want → List Frame → List ℕ → Want → Type 0
  TakesWord w frames bytes w' = (s : List ℕ) (out : Offsets) → From w' frames s out → From w frames (bytes ++ s) out

  deeper_takes : (frames : List Frame) (bytes word : List ℕ) (w' : Want) → bytes ≡ word
      → ((s : List ℕ) (out : Offsets) → ltb (length frames) MAX_DEPTH ≡ true → From w' frames s out → From a_chart frames (word ++ s) out)
      → Leads (deeper (length frames) w') (TakesWord a_chart frames bytes)
  deeper_takes frames bytes word w' e f = if_leads (ltb (length frames) MAX_DEPTH) (Some w') None (TakesWord a_chart frames bytes) (λ room s out h. rw e (f s out room h)) (λ _. tt)

  chart_word_takes : (bytes : List ℕ) (frames : List Frame) → IsName bytes → Leads (take_chart_word (word_of bytes) bytes (length frames)) (TakesWord a_chart frames bytes)
  chart_word_takes bytes frames name =
      word_cases (λ w. Leads (take_chart_word w bytes (length frames)) (TakesWord a_chart frames bytes)) bytes
      (λ e s out h. rw e (from_chart (spec.skip here) (unread h)))
      (λ e. deeper_takes frames bytes (codes "seq") open_seq e (λ s out room h. seq_from room h))
      (λ e. deeper_takes frames bytes (codes "par") open_par e (λ s out room h. par_from room h))
      (λ e. deeper_takes frames bytes (codes "sel") open_sel e (λ s out room h. sel_from room h))
      (λ e. deeper_takes frames bytes (codes "loop") open_loop e (λ s out room h. loop_from room h))
      (λ _. tt)
      (λ e s out h. from_chart (spec.label here (word_label bytes name e)) (unread h))

  else_takes : (bytes : List ℕ) (test : Test) (frames : List Frame) → bytes ≡ codes "else" → Leads (take_else test) (TakesWord (a_name test) frames bytes)
  else_takes bytes (of_sel []) frames e = tt
  else_takes bytes (of_sel (u ∷ us)) frames e = λ s out h. rw e (from_else here h)
  else_takes bytes (of_loop n) frames e = tt

  name_word_takes : (bytes : List ℕ) (test : Test) (frames : List Frame) → IsName bytes → Leads (take_name_word (word_of bytes) bytes test) (TakesWord (a_name test) frames bytes)
  name_word_takes bytes test frames name =
      word_cases (λ w. Leads (take_name_word w bytes test) (TakesWord (a_name test) frames bytes)) bytes
      (λ _. tt) (λ _. tt) (λ _. tt) (λ _. tt) (λ _. tt) (else_takes bytes test frames) (λ e s out h. from_name here (word_label bytes name e) h)

  operand_word_takes : (bytes : List ℕ) (test : Test) (n : List ℕ) (op : Op) (frames : List Frame) → IsName bytes
      → Leads (take_operand_word (word_of bytes) bytes test n op) (TakesWord (an_operand test n op) frames bytes)
  operand_word_takes bytes test n op frames name =
      word_cases (λ w. Leads (take_operand_word w bytes test n op) (TakesWord (an_operand test n op) frames bytes)) bytes
      (λ _. tt) (λ _. tt) (λ _. tt) (λ _. tt) (λ _. tt) (λ _. tt) (λ e s out h. from_operand (spec.named here (word_label bytes name e)) h)

  word_takes : (w : Want) (bytes : List ℕ) (frames : List Frame) → IsName bytes → Leads (take_word w bytes (length frames)) (TakesWord w frames bytes)
  word_takes a_chart bytes frames name = chart_word_takes bytes frames name
  word_takes (a_name test) bytes frames name = name_word_takes bytes test frames name
  word_takes (an_operand test n op) bytes frames name = operand_word_takes bytes test n op frames name
  word_takes open_seq bytes frames name = tt
  word_takes open_par bytes frames name = tt
  word_takes open_sel bytes frames name = tt
  word_takes open_loop bytes frames name = tt
  word_takes a_turns bytes frames name = tt
  word_takes (after_turns n) bytes frames name = tt
  word_takes (an_operator test n) bytes frames name = tt
  word_takes (after_condition test c) bytes frames name = tt
  word_takes (after_else us) bytes frames name = tt
  word_takes (after_chart t) bytes frames name = tt

  number_takes : (w : Want) (bytes : List ℕ) (frames : List Frame) → IsNumber bytes
      → Leads (take_number w (number_of bytes)) (λ w'. (s : List ℕ) (out : Offsets) → From w' frames s out → From w frames (bytes ++ s) (offsets_joined (number_offsets w (number_of bytes) (total - length (bytes ++ s))) out))
  number_takes a_turns bytes frames number = λ s out h. from_turns bytes here number h
  number_takes (an_operand test n op) bytes frames number = λ s out h. from_operand (spec.number bytes here number) h
  number_takes a_chart bytes frames number = tt
  number_takes open_seq bytes frames number = tt
  number_takes open_par bytes frames number = tt
  number_takes open_sel bytes frames number = tt
  number_takes open_loop bytes frames number = tt
  number_takes (after_turns n) bytes frames number = tt
  number_takes (a_name test) bytes frames number = tt
  number_takes (an_operator test n) bytes frames number = tt
  number_takes (after_condition test c) bytes frames number = tt
  number_takes (after_else us) bytes frames number = tt
  number_takes (after_chart t) bytes frames number = tt

  operator_takes : (w : Want) (op : Op) (frames : List Frame) (s s1 : List ℕ) → ReadsOp s s1 op
      → Leads (take_operator w op) (λ w'. (out : Offsets) → From w' frames s1 out → From w frames s out)
  operator_takes (an_operator test n) op frames s s1 reads = λ out h. from_operator reads h
  operator_takes a_chart op frames s s1 reads = tt
  operator_takes open_seq op frames s s1 reads = tt
  operator_takes open_par op frames s s1 reads = tt
  operator_takes open_sel op frames s s1 reads = tt
  operator_takes open_loop op frames s s1 reads = tt
  operator_takes a_turns op frames s s1 reads = tt
  operator_takes (after_turns n) op frames s s1 reads = tt
  operator_takes (a_name test) op frames s s1 reads = tt
  operator_takes (an_operand test n o) op frames s s1 reads = tt
  operator_takes (after_condition test c) op frames s s1 reads = tt
  operator_takes (after_else us) op frames s s1 reads = tt
  operator_takes (after_chart t) op frames s s1 reads = tt

  -- ---- spaces

  operator_space : {b : ℕ} {s t : List ℕ} {op : Op} → is_chart_space b ≡ true → ReadsOp s t op → ReadsOp (b ∷ s) t op
  operator_space e (spec.less skips) = spec.less (space e skips)
  operator_space e (spec.at_most skips) = spec.at_most (space e skips)
  operator_space e (spec.equal skips) = spec.equal (space e skips)
  operator_space e (spec.not_equal skips) = spec.not_equal (space e skips)
  operator_space e (spec.at_least skips) = spec.at_least (space e skips)
  operator_space e (spec.greater skips) = spec.greater (space e skips)

  operand_space : {b : ℕ} {s t : List ℕ} {f : Offsets} {x : Term} → is_chart_space b ≡ true → ReadsTerm total s t x f → ReadsTerm total (b ∷ s) t x f
  operand_space e (spec.named skips label) = spec.named (space e skips) label
  operand_space e (spec.number bytes skips number) = spec.number bytes (space e skips) number

  chart_space : {b depth : ℕ} {s t : List ℕ} {f : Offsets} {c : Diagram} → is_chart_space b ≡ true → Reads total depth s t c f → Reads total depth (b ∷ s) t c f
  chart_space e (spec.label skips label) = spec.label (space e skips) label
  chart_space e (spec.skip skips) = spec.skip (space e skips)
  chart_space e (spec.seq skips opens branches) = spec.seq (space e skips) opens branches
  chart_space e (spec.par skips opens branches) = spec.par (space e skips) opens branches
  chart_space e (spec.sel skips opens cases) = spec.sel (space e skips) opens cases
  chart_space e (spec.loop bytes skips opens number_skips number comma tests comma2 reads closes) =
      spec.loop bytes (space e skips) opens number_skips number comma tests comma2 reads closes

  completes_space : {b : ℕ} {frames : List Frame} {t : Diagram} {s : List ℕ} {out : Offsets} → is_chart_space b ≡ true → Completes frames t s out → Completes frames t (b ∷ s) out
  completes_space e (ends skips) = ends (space e skips)
  completes_space e (closes_seq skips rest) = closes_seq (space e skips) rest
  completes_space e (goes_on_seq skips branches rest) = goes_on_seq (space e skips) branches rest
  completes_space e (closes_par skips rest) = closes_par (space e skips) rest
  completes_space e (goes_on_par skips branches rest) = goes_on_par (space e skips) branches rest
  completes_space e (goes_on_case skips cases rest) = goes_on_case (space e skips) cases rest
  completes_space e (closes_else skips rest) = closes_else (space e skips) rest
  completes_space e (closes_loop skips rest) = closes_loop (space e skips) rest

  from_space : {b : ℕ} {w : Want} {frames : List Frame} {s : List ℕ} {out : Offsets} → is_chart_space b ≡ true → From w frames s out → From w frames (b ∷ s) out
  from_space e (from_chart reads rest) = from_chart (chart_space e reads) rest
  from_space e (from_after_chart rest) = from_after_chart (completes_space e rest)
  from_space e (from_open_seq skips h) = from_open_seq (space e skips) h
  from_space e (from_open_par skips h) = from_open_par (space e skips) h
  from_space e (from_open_sel skips h) = from_open_sel (space e skips) h
  from_space e (from_open_loop skips h) = from_open_loop (space e skips) h
  from_space e (from_turns bytes skips number h) = from_turns bytes (space e skips) number h
  from_space e (from_after_turns skips h) = from_after_turns (space e skips) h
  from_space e (from_name skips label h) = from_name (space e skips) label h
  from_space e (from_else skips h) = from_else (space e skips) h
  from_space e (from_operator reads h) = from_operator (operator_space e reads) h
  from_space e (from_operand reads h) = from_operand (operand_space e reads) h
  from_space e (from_case skips h) = from_case (space e skips) h
  from_space e (from_body skips h) = from_body (space e skips) h
  from_space e (from_after_else skips h) = from_after_else (space e skips) h

  -- ---- bytes

  -- the bytes of the next token that have been read
  abbrev text_of : Lexeme → List ℕ
  text_of nothing = []
  text_of (letters bytes) = bytes
  text_of (digits bytes) = bytes
  text_of less = 60 ∷ []
  text_of more = 62 ∷ []
  text_of slash = 47 ∷ []

  -- s completes the part that has been read, with the first offsets k
  abbrev Rest : List ℕ → Want → List Frame → Firsts → List ℕ → Firsts → Type 0
  Rest read w frames o s k = (out : Offsets) × From w frames (read ++ s) out × (noted o out ≡ k)

  abbrev RestOf : State → List ℕ → Firsts → Type 0
  RestOf st s k = Rest (text_of st.lexeme) st.want st.stack st.firsts s k

  -- a step leaves a good token, and a rest of the text after it gives one before it
  abbrev Back : List ℕ → Want → List Frame → Firsts → List ℕ → List ℕ → State → Type 0
  Back read w frames o s' s st = IsGood st.lexeme × ((k : Firsts) → RestOf st s k → Rest read w frames o s' k)

  end_back : (l : Lexeme) (w : Want) (frames : List Frame) (o : Firsts) (s : List ℕ) → IsGood l
      → Leads (end_token (total - length s) l (in_token l w frames o)) (λ e. (e.lexeme ≡ nothing) × Back (text_of l) w frames o s s e)
  unfolding in_token end_number
  end_back nothing w frames o s good = (refl, (tt, λ k r. r))
  end_back (letters bytes) w frames o s good =
      map_leads (take_word w bytes (length frames)) _ _ _ (word_takes w bytes frames good) (λ w' takes. (refl, (tt, λ k r. (r.0, takes s r.0 r.1, r.2))))
  end_back (digits bytes) w frames o s good =
      let place : total - length s - length bytes ≡ total - length (bytes ++ s) = omega (arith, length-append bytes s) in
      let out = number_offsets w (number_of bytes) (total - length (bytes ++ s)) in
      map_leads (take_number w (number_of bytes)) _ _ _ (number_takes w bytes frames good) (λ w' takes. (refl, (tt, λ k r. (offsets_joined out r.0, takes s r.0 r.1, noted-joined o out r.0 ∙ ap (λ p. noted (noted o (number_offsets w (number_of bytes) p)) r.0) (sym place) ∙ r.2))))
  end_back less w frames o s good =
      map_leads (take_operator w Less) _ _ _ (operator_takes w Less frames (60 ∷ s) s (spec.less here)) (λ w' takes. (refl, (tt, λ k r. (r.0, takes r.0 r.1, r.2))))
  end_back more w frames o s good =
      map_leads (take_operator w Greater) _ _ _ (operator_takes w Greater frames (62 ∷ s) s (spec.greater here)) (λ w' takes. (refl, (tt, λ k r. (r.0, takes r.0 r.1, r.2))))
  end_back slash w frames o s good = tt

  go_on_back : (l : Lexeme) (w : Want) (frames : List Frame) (o : Firsts) (b : ℕ) (s : List ℕ) → IsGood l → continues l b ≡ true
      → Leads (go_on l b (in_token l w frames o)) (Back (text_of l) w frames o (b ∷ s) s)
  unfolding in_token
  go_on_back nothing w frames o b s good goes = tt
  go_on_back (letters bytes) w frames o b s good goes =
      if_leads (ltb (length bytes) MAX_NAME_LEN) _ None _ (λ room. (name_more bytes b good goes (ltb-true (length bytes) MAX_NAME_LEN room), λ k r. (r.0, subst (λ x. From w frames x r.0) (append_assoc bytes (b ∷ []) s) r.1, r.2))) (λ _. tt)
  go_on_back (digits bytes) w frames o b s good goes =
      if_leads (ltb (length bytes) MAX_DIGITS) _ None _ (λ room. (number_more bytes b good goes (ltb-true (length bytes) MAX_DIGITS room), λ k r. (r.0, subst (λ x. From w frames x r.0) (append_assoc bytes (b ∷ []) s) r.1, r.2))) (λ _. tt)
  go_on_back less w frames o b s good goes =
      let e = eqb-is b 61 goes in
      map_leads (take_operator w AtMost) _ _ _ (operator_takes w AtMost frames (60 ∷ 61 ∷ s) s (spec.at_most here)) (λ w' takes. (tt, λ k r. (r.0, rw e (takes r.0 r.1), r.2)))
  go_on_back more w frames o b s good goes =
      let e = eqb-is b 61 goes in
      map_leads (take_operator w AtLeast) _ _ _ (operator_takes w AtLeast frames (62 ∷ 61 ∷ s) s (spec.at_least here)) (λ w' takes. (tt, λ k r. (r.0, rw e (takes r.0 r.1), r.2)))
  go_on_back slash w frames o b s good goes =
      let e = eqb-is b 61 goes in
      map_leads (take_operator w NotEqual) _ _ _ (operator_takes w NotEqual frames (47 ∷ 61 ∷ s) s (spec.not_equal here)) (λ w' takes. (tt, λ k r. (r.0, rw e (takes r.0 r.1), r.2)))

  start_back : (takes : Bool) (l : Lexeme) (st : State) (s' s : List ℕ) → IsGood l → text_of l ++ s ≡ s' → Leads (starts takes l st) (Back [] st.want st.stack st.firsts s' s)
  start_back true l st s' s good e = (good, λ k r. (r.0, subst (λ x. From st.want st.stack x r.0) e r.1, r.2))
  start_back false l st s' s good e = tt

  begin_back : (b : ℕ) (st : State) (s : List ℕ) → Leads (begin (total - length (b ∷ s)) b st) (Back [] st.want st.stack st.firsts (b ∷ s) s)
  unfolding begin
  begin_back b st s =
      let Q : State → Type 0 = Back [] st.want st.stack st.firsts (b ∷ s) s in
      if_leads (is_chart_space b) _ _ Q (λ e. (tt, λ k r. (r.0, from_space e r.1, r.2))) (λ _.
      if_leads (is_ascii_alphabetic b) _ _ Q (λ e. start_back (takes_word st.want) (letters (b ∷ [])) st (b ∷ s) s (name_of_letter b e) refl) (λ _.
      if_leads (is_ascii_digit b) _ _ Q (λ e. start_back (takes_number st.want) (digits (b ∷ [])) st (b ∷ s) s (number_of_digit b e) refl) (λ _.
      if_leads (takes_operator st.want) _ _ Q
      (λ _.
      if_leads (eqb b 60) _ _ Q (λ e. let is : b ≡ 60 = eqb-is b 60 e in (tt, λ k r. rw is r)) (λ _.
      if_leads (eqb b 62) _ _ Q (λ e. let is : b ≡ 62 = eqb-is b 62 e in (tt, λ k r. rw is r)) (λ _.
      if_leads (eqb b 47) _ _ Q (λ e. let is : b ≡ 47 = eqb-is b 47 e in (tt, λ k r. rw is r)) (λ _.
      if_leads (eqb b 61) _ _ Q (λ e. let is : b ≡ 61 = eqb-is b 61 e in
      map_leads (take_operator st.want Equal) _ _ Q (operator_takes st.want Equal st.stack (61 ∷ s) s (spec.equal here)) (λ w' takes. (tt, λ k r. (r.0, rw is (takes r.0 r.1), r.2))))
      (λ _. tt)))))
      (λ _. map_leads (take_sign st.want b st.stack) _ _ Q (sign_takes st.want b st.stack)
      (λ p takes. (tt, λ k r. (offsets_joined (sign_offsets st.want (total - length (b ∷ s))) r.0, takes s r.0 r.1, noted-joined st.firsts (sign_offsets st.want (total - length (b ∷ s))) r.0 ∙ r.2))))
      )))

  step_back : (b : ℕ) (s : List ℕ) (st : State) → IsGood st.lexeme → Leads (step (total - length (b ∷ s)) b st) (Back (text_of st.lexeme) st.want st.stack st.firsts (b ∷ s) s)
  unfolding step in_token
  step_back b s st good =
      if_leads (continues st.lexeme b) _ _ _
      (λ goes. go_on_back st.lexeme st.want st.stack st.firsts b s good goes)
      (λ _. and_then_leads (end_token (total - length (b ∷ s)) st.lexeme st) (begin (total - length (b ∷ s)) b) _ _ (end_back st.lexeme st.want st.stack st.firsts (b ∷ s) good)
      (λ e h. weaker (begin (total - length (b ∷ s)) b e) _ _ (begin_back b e s) (λ x back. (back.0, λ k r. h.1.1 k (subst (λ l. Rest (text_of l) e.want e.stack e.firsts (b ∷ s) k) (sym h.0) (back.1 k r))))))

  -- ---- whole texts

  from_leads : {A B R : Type 0} (o : Option A) (P : A → Type 0) (f : A → Option B) (r : B) → Leads o P → option_and_then f o ≡ Some r → ((x : A) → P x → f x ≡ Some r → R) → R
  from_leads None P f r h e use_it = absurd cc
  from_leads (Some x) P f r h e use_it = use_it x h e

  result_back : (w : Want) (frames : List Frame) (o k : Firsts) → result_of w frames o ≡ Some (whole, k) → Rest [] w frames o [] k
  result_back (after_chart t) [] o k e =
      let pair : ◌≡◌ {A = Diagram × Firsts} (t, o) (whole, k) = cc in
      (no_offsets, from_after_chart (subst (λ x. Completes [] x [] no_offsets) (sym (ap (λ p. p.0) pair)) (ends here)), ap (λ p. p.1) pair)
  result_back w frames o k e = absurd (grind arith)

  runs_back : (s : List ℕ) (st : State) (k : Firsts) → IsGood st.lexeme → runs total s st ≡ Some (whole, k) → RestOf st s k
  unfolding runs finish in_token
  runs_back [] st k good e =
      from_leads (end_token (total - length {A = ℕ} []) st.lexeme st) _ _ (whole, k) (end_back st.lexeme st.want st.stack st.firsts [] good) e
      (λ x h f. h.1.1 k (subst (λ l. Rest (text_of l) x.want x.stack x.firsts [] k) (sym h.0) (result_back x.want x.stack x.firsts k f)))
  runs_back (b ∷ s) st k good e =
      let continued = runs_back s in
      from_leads (step (total - length (b ∷ s)) b st) _ _ (whole, k) (step_back b s st good) e (λ x h f. h.1 k (continued x k h.0 f))

-- a text that the machine accepts is one of the chart that it gives, with the first offsets that it gives
pub sound : (text : List ℕ) (tree : Diagram) (k : Firsts) → runs (length text) text start ≡ Some (tree, k) → (out : Offsets) × IsWideChart text tree out × (noted no_firsts out ≡ k)
sound text tree k e = whole_text (runs_back (length text) tree text start k tt e)
  where
    reads_whole : {out : Offsets} → From (length text) tree a_chart [] text out → IsWideChart text tree out
    reads_whole (from_chart {f = f} reads (ends skips)) = subst (λ o. IsWideChart text tree o) (sym (joined-none f)) (spec.whole reads skips)

    whole_text : RestOf (length text) tree start text k → (out : Offsets) × IsWideChart text tree out × (noted no_firsts out ≡ k)
    whole_text r = (r.0, reads_whole r.1, r.2)

-- a step leaves a token that may be a whole one
pub step_good : (place b : ℕ) (st after : State) → IsGood st.lexeme → step place b st ≡ Some after → IsGood after.lexeme
step_good place b st after good e =
    let total = place + 1 in
    let at : total - length (b ∷ []) ≡ place = omega arith in
    let led = rw at at (step_back total chart.skip b [] st good) in
    let led_after : Leads (Some after) (Back total chart.skip _ st.want st.stack st.firsts (b ∷ []) []) = rw e at led in
    led_after.0
