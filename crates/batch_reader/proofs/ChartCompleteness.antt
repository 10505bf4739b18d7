-- The machine takes every text of a chart.
use Rattle.std.proofs.Common.{◌≡◌, ℕ, suc, ◌+◌, ◌-◌, List, [], ◌∷◌, ◌++◌, length, true, ltb, Option, Some, None, option_and_then, refl, sym, ap, ◌∙◌, append-nil, arith, length-append}
use Rattle.std.{specs.Prelude.codes, proofs.lemmas.Bool.Decides.nat_tests}
use Rattle.batch_text.specs.{NameText.IsName, NumberText.number_of, NumberText.IsNumber}
use Rattle.batch_recipe.specs.{declared.chart.TheConstants.MAX_DEPTH, declared.chart.TheConstants.MAX_TURNS, declared.condition.Op.Op, declared.condition.Term.Term, declared.condition.Condition.Condition, Diagram.Diagram, Diagram.Diagrams, Diagram.Cases, Diagram.diagrams_of, Diagram.cases_of}
use Rattle.batch_recipe.specs.declared.condition.Term.TheVariants as term
use Rattle.batch_recipe.specs.Diagram as chart
use Rattle.batch_reader.{specs.declared.firsts.Firsts.Firsts, specs.ChartGrammar.Offsets, specs.ChartGrammar.offsets_joined, specs.ChartGrammar.ranged, specs.ChartGrammar.opens_par, specs.ChartGrammar.Skips, specs.ChartGrammar.ReadsOp, specs.ChartGrammar.ReadsTerm, specs.ChartGrammar.ReadsCond, specs.ChartGrammar.Reads, specs.ChartGrammar.ReadsBranches, specs.ChartGrammar.ReadsCases, specs.ChartGrammar.IsWideChart, specs.ChartMachine.Frame, specs.ChartMachine.in_seq, specs.ChartMachine.in_par, specs.ChartMachine.in_case, specs.ChartMachine.in_else, specs.ChartMachine.in_loop, specs.ChartMachine.Test, specs.ChartMachine.of_sel, specs.ChartMachine.of_loop, specs.ChartMachine.Want, specs.ChartMachine.a_chart, specs.ChartMachine.open_seq, specs.ChartMachine.open_par, specs.ChartMachine.open_sel, specs.ChartMachine.open_loop, specs.ChartMachine.a_turns, specs.ChartMachine.after_turns, specs.ChartMachine.a_name, specs.ChartMachine.an_operator, specs.ChartMachine.an_operand, specs.ChartMachine.after_condition, specs.ChartMachine.after_else, specs.ChartMachine.after_chart, specs.ChartMachine.State, specs.ChartMachine.between, specs.ChartMachine.start, specs.ChartMachine.finish, specs.ChartMachine.step, specs.ChartMachine.steps, specs.ChartMachine.begin, specs.ChartMachine.no_firsts, specs.ChartMachine.first_or, specs.ChartMachine.noted, specs.ChartMachine.condition_of, specs.ChartMachine.take_word, specs.ChartMachine.take_chart_word, specs.ChartMachine.take_name_word, specs.ChartMachine.take_operand_word, specs.ChartMachine.deeper, proofs.ChartBytes.letter-not_equals, proofs.ChartBytes.digit-not_equals, proofs.ChartTexts.name_from, proofs.ChartTexts.no_name, proofs.ChartTexts.number_first, proofs.ChartWords.label_word, proofs.ChartTokens.runs, proofs.ChartTokens.runs-skips, proofs.ChartTokens.runs-word_token, proofs.ChartTokens.runs-number_token, proofs.ChartTokens.runs-operator_token, proofs.ChartTokens.runs-sign, proofs.ChartTokens.IsFree, proofs.ChartTokens.free-skips, proofs.ChartTokens.IsNotEquals, proofs.ChartTokens.not_equals-skips}
use Rattle.batch_reader.specs.ChartGrammar as spec

-- ---- the list that is kept, and the parts that the grammar adds to it

abbrev pub with_diagrams : List Diagram → Diagrams → Diagrams
with_diagrams [] ts = ts
with_diagrams (u ∷ us) ts = chart.more u (with_diagrams us ts)

pub with_diagrams-last : (us : List Diagram) (t : Diagram) (ts : Diagrams) → with_diagrams (us ++ t ∷ []) ts ≡ with_diagrams us (chart.more t ts)
with_diagrams-last [] t ts = refl
with_diagrams-last (u ∷ us) t ts = ap (chart.more u) (with_diagrams-last us t ts)

pub diagrams_of-last : (us : List Diagram) (t : Diagram) → diagrams_of (us ++ t ∷ []) ≡ with_diagrams us (chart.more t chart.none)
diagrams_of-last [] t = refl
diagrams_of-last (u ∷ us) t = ap (chart.more u) (diagrams_of-last us t)

abbrev pub with_cases : List (Condition × Diagram) → Cases → Cases
with_cases [] ts = ts
with_cases (u ∷ us) ts = chart.when u.0 u.1 (with_cases us ts)

pub with_cases-last : (us : List (Condition × Diagram)) (c : Condition) (t : Diagram) (ts : Cases) → with_cases (us ++ (c, t) ∷ []) ts ≡ with_cases us (chart.when c t ts)
with_cases-last [] c t ts = refl
with_cases-last (u ∷ us) c t ts = ap (chart.when u.0 u.1) (with_cases-last us c t ts)

pub cases_of-is : (us : List (Condition × Diagram)) (t : Diagram) → cases_of us t ≡ with_cases us (chart.otherwise t)
cases_of-is [] t = refl
cases_of-is (u ∷ us) t = ap (chart.when u.0 u.1) (cases_of-is us t)

first_or-append : (o : Option ℕ) (f g : List ℕ) → first_or o (f ++ g) ≡ first_or (first_or o f) g
first_or-append o f g = grind arith

two : (a b c d : Option ℕ) → a ≡ b → c ≡ d → ◌≡◌ {A = Firsts} (record { outside = a; par = c }) (record { outside = b; par = d })
two a b c d e f = cc

pub noted-joined : (o : Firsts) (f g : Offsets) → noted o (offsets_joined f g) ≡ noted (noted o f) g
noted-joined o f g = two _ _ _ _ (first_or-append o.outside f.outside g.outside) (first_or-append o.par f.pars g.pars)

noted-joined2 : (o : Firsts) (f g h : Offsets) → noted (noted (noted o f) g) h ≡ noted o (offsets_joined f (offsets_joined g h))
noted-joined2 o f g h = sym (noted-joined (noted o f) g h) ∙ sym (noted-joined o f (offsets_joined g h))

-- ---- the text after a token

free-operator : {s t : List ℕ} {op : Op} → ReadsOp s t op → IsFree s
free-operator (spec.less skips) = free-skips skips refl
free-operator (spec.at_most skips) = free-skips skips refl
free-operator (spec.equal skips) = free-skips skips refl
free-operator (spec.not_equal skips) = free-skips skips refl
free-operator (spec.at_least skips) = free-skips skips refl
free-operator (spec.greater skips) = free-skips skips refl

name-not_equals : (bytes t : List ℕ) → IsName bytes → IsNotEquals (bytes ++ t)
name-not_equals [] t name = absurd (no_name name)
name-not_equals (b ∷ bs) t name = letter-not_equals b (name_from b bs name).letter

number-not_equals : (bytes t : List ℕ) → IsNumber bytes → IsNotEquals (bytes ++ t)
number-not_equals [] t number = absurd (omega (arith, number.some))
number-not_equals (b ∷ bs) t number = digit-not_equals b (number_first b bs number).0

operand-not_equals : {total : ℕ} {s t : List ℕ} {out : Offsets} {operand : Term} → ReadsTerm total s t operand out → IsNotEquals s
operand-not_equals (spec.named {name = name} {t = t} skips label) = not_equals-skips skips (name-not_equals name t label.name)
operand-not_equals (spec.number {t = t} digits skips number) = not_equals-skips skips (number-not_equals digits t number)

-- ---- conditions

runs-operand : {total : ℕ} {s t : List ℕ} {out : Offsets} {operand : Term} → ReadsTerm total s t operand out → IsFree t
    → (test : Test) (name : List ℕ) (op : Op) (frames : List Frame) (o : Firsts)
    → runs total s (between (an_operand test name op) frames o) ≡ runs total t (between (after_condition test (condition_of name op operand)) frames (noted o out))
runs-operand (spec.named {total = total} {name = bytes} {t = t} skips label) free test name op frames o =
    runs-word_token bytes t (after_condition test (record { name = name; op = op; term = term.Named bytes })) total (an_operand test name op) frames o skips label.name refl free
    (ap (λ w. take_operand_word w bytes test name op) (label_word _ label))
runs-operand (spec.number {total = total} {t = t} digits skips number) free test name op frames o =
    runs-number_token digits t (after_condition test (record { name = name; op = op; term = term.Number (number_of digits) })) total (an_operand test name op) frames o skips number refl free refl

runs-condition : {total : ℕ} {s t : List ℕ} {out : Offsets} {condition : Condition} → ReadsCond total s t condition out → IsFree t
    → (test : Test) (frames : List Frame) (o : Firsts)
    → runs total s (between (a_name test) frames o) ≡ runs total t (between (after_condition test condition) frames (noted o out))
runs-condition (spec.condition {total = total} {name = bytes} {s1 = s1} {op = op} skips label op_reads operand_reads) free test frames o =
    runs-word_token bytes s1 (an_operator test bytes) total (a_name test) frames o skips label.name refl (free-operator op_reads) (ap (λ w. take_name_word w bytes test) (label_word _ label))
    ∙ runs-operator_token op_reads (operand-not_equals operand_reads) total test bytes frames o
    ∙ runs-operand operand_reads free test bytes op frames o

-- ---- the six words

name_skip : IsName (codes "skip")
name_skip = record { spelled = refl; short = omega arith }

name_seq : IsName (codes "seq")
name_seq = record { spelled = refl; short = omega arith }

name_par : IsName (codes "par")
name_par = record { spelled = refl; short = omega arith }

name_sel : IsName (codes "sel")
name_sel = record { spelled = refl; short = omega arith }

name_loop : IsName (codes "loop")
name_loop = record { spelled = refl; short = omega arith }

name_else : IsName (codes "else")
name_else = record { spelled = refl; short = omega arith }

room : (frames : List Frame) (depth : ℕ) → length frames + suc depth ≡ MAX_DEPTH → ltb (length frames) MAX_DEPTH ≡ true
room frames depth h = grind (arith, nat_tests)

keyword : (bytes : List ℕ) (w : Want) {s : List ℕ} (s1 : List ℕ) (total depth : ℕ) (frames : List Frame) (o : Firsts)
    → Skips s (bytes ++ s1) → IsName bytes → IsFree s1 → length frames + suc depth ≡ MAX_DEPTH → take_word a_chart bytes (length frames) ≡ deeper (length frames) w
    → runs total s (between a_chart frames o) ≡ runs total s1 (between w frames o)
keyword bytes w s1 total depth frames o skips name free deep e = grind (arith, room frames depth deep, runs-word_token)

-- ---- charts

mutual
  unfolding begin between

  runs-chart : {total depth : ℕ} {s t : List ℕ} {out : Offsets} {tree : Diagram} → Reads total depth s t tree out → IsFree t
      → (frames : List Frame) (o : Firsts) → length frames + depth ≡ MAX_DEPTH
      → runs total s (between a_chart frames o) ≡ runs total t (between (after_chart tree) frames (noted o out))
  runs-chart (spec.label {total = total} {name = bytes} {t = t} skips label) free frames o deep =
      runs-word_token bytes t (after_chart (chart.label bytes)) total a_chart frames o skips label.name refl free (ap (λ w. take_chart_word w bytes (length frames)) (label_word _ label))
  runs-chart (spec.skip {total = total} {t = t} skips) free frames o deep =
      runs-word_token (codes "skip") t (after_chart chart.skip) total a_chart frames o skips name_skip refl free refl
  runs-chart (spec.seq {total = total} {depth = depth} {s1 = s1} {s2 = s2} skips opens branches) free frames o deep =
      keyword (codes "seq") open_seq s1 total depth frames o skips name_seq (free-skips opens refl) deep refl
      ∙ runs-sign a_chart (in_seq [] ∷ frames) total open_seq frames o opens refl
      ∙ runs-seq branches [] frames o (omega arith)
  runs-chart (spec.par {total = total} {depth = depth} {s1 = s1} {s2 = s2} {t = t} {second = second} {others = others} skips opens (spec.next {d = first} {offsets = f} {offsets2 = g} reads comma branches)) free frames o deep =
      let p = opens_par (total - length (40 ∷ s2)) in
      let o1 = noted o p in
      let o2 = noted o1 f in
      keyword (codes "par") open_par s1 total depth frames o skips name_par (free-skips opens refl) deep refl
      ∙ runs-sign a_chart (in_par [] ∷ frames) total open_par frames o opens refl
      ∙ runs-chart reads (free-skips comma refl) (in_par [] ∷ frames) o1 (omega arith)
      ∙ runs-sign a_chart (in_par (first ∷ []) ∷ frames) total (after_chart first) (in_par [] ∷ frames) o2 comma refl
      ∙ runs-par branches first [] frames o2 (omega arith)
      ∙ ap (λ x. runs total t (between (after_chart (chart.par (chart.more first (chart.more second others)))) frames x)) (noted-joined2 o p f g)
  runs-chart (spec.sel {total = total} {depth = depth} {s1 = s1} skips opens
      (spec.next_case {s1 = s3} {s2 = s4} {s3 = s5} {s4 = s6} {t = t} {c = c} {d = first} {others = others} {offsets = f} {offsets2 = g} {offsets3 = h} tests colon reads comma cases)) free frames o deep =
      keyword (codes "sel") open_sel s1 total depth frames o skips name_sel (free-skips opens refl) deep refl
      ∙ runs-sign (a_name (of_sel [])) frames total open_sel frames o opens refl
      ∙ runs-condition tests (free-skips colon refl) (of_sel []) frames o
      ∙ runs-sign a_chart (in_case [] c ∷ frames) total (after_condition (of_sel []) c) frames (noted o f) colon refl
      ∙ runs-chart reads (free-skips comma refl) (in_case [] c ∷ frames) (noted o f) (omega arith)
      ∙ runs-sign (a_name (of_sel ((c, first) ∷ []))) frames total (after_chart first) (in_case [] c ∷ frames) (noted (noted o f) g) comma refl
      ∙ runs-cases cases (c, first) [] frames (noted (noted o f) g) (omega arith)
      ∙ ap (λ x. runs total t (between (after_chart (chart.sel (chart.when c first others))) frames x)) (noted-joined2 o f g h)
  runs-chart (spec.loop {total = total} {depth = depth} {s1 = s1} {s3 = s3} {t = t} {c = c} {body = body} {offsets = g} {offsets2 = h} digits skips opens number_skips number comma tests comma2 reads closes) free frames o deep =
      let f = ranged 1 MAX_TURNS (number_of digits) (total - length (digits ++ s3)) in
      let o1 = noted o f in
      let o2 = noted o1 g in
      let o3 = noted o2 h in
      let n = number_of digits in
      keyword (codes "loop") open_loop s1 total depth frames o skips name_loop (free-skips opens refl) deep refl
      ∙ runs-sign a_turns frames total open_loop frames o opens refl
      ∙ runs-number_token digits s3 (after_turns n) total a_turns frames o number_skips number refl (free-skips comma refl) refl
      ∙ runs-sign (a_name (of_loop n)) frames total (after_turns n) frames o1 comma refl
      ∙ runs-condition tests (free-skips comma2 refl) (of_loop n) frames o1
      ∙ runs-sign a_chart (in_loop n c ∷ frames) total (after_condition (of_loop n) c) frames o2 comma2 refl
      ∙ runs-chart reads (free-skips closes refl) (in_loop n c ∷ frames) o2 (omega arith)
      ∙ runs-sign (after_chart (chart.loop n c body)) frames total (after_chart body) (in_loop n c ∷ frames) o3 closes refl
      ∙ ap (λ x. runs total t (between (after_chart (chart.loop n c body)) frames x)) (noted-joined2 o f g h)

  runs-seq : {total depth : ℕ} {s t : List ℕ} {out : Offsets} {trees : Diagrams} → ReadsBranches total depth s t trees out
      → (us : List Diagram) (frames : List Frame) (o : Firsts) → suc (length frames) + depth ≡ MAX_DEPTH
      → runs total s (between a_chart (in_seq us ∷ frames) o) ≡ runs total t (between (after_chart (chart.seq (with_diagrams us trees))) frames (noted o out))
  runs-seq (spec.last {total = total} {s1 = s1} {t = t} {d = tree} {offsets = offsets} reads closes) us frames o deep =
      let kept = noted o offsets in
      runs-chart reads (free-skips closes refl) (in_seq us ∷ frames) o deep
      ∙ runs-sign (after_chart (chart.seq (diagrams_of (us ++ tree ∷ [])))) frames total (after_chart tree) (in_seq us ∷ frames) kept closes refl
      ∙ ap (λ ts. runs total t (between (after_chart (chart.seq ts)) frames kept)) (diagrams_of-last us tree)
  runs-seq (spec.next {total = total} {s1 = s1} {s2 = s2} {t = t} {d = tree} {others = others} {offsets = f} {offsets2 = g} reads comma branches) us frames o deep =
      let kept = noted o f in
      runs-chart reads (free-skips comma refl) (in_seq us ∷ frames) o deep
      ∙ runs-sign a_chart (in_seq (us ++ tree ∷ []) ∷ frames) total (after_chart tree) (in_seq us ∷ frames) kept comma refl
      ∙ runs-seq branches (us ++ tree ∷ []) frames kept deep
      ∙ ap (λ ts. runs total t (between (after_chart (chart.seq ts)) frames (noted kept g))) (with_diagrams-last us tree others)
      ∙ ap (λ x. runs total t (between (after_chart (chart.seq (with_diagrams us (chart.more tree others)))) frames x)) (sym (noted-joined o f g))

  runs-par : {total depth : ℕ} {s t : List ℕ} {out : Offsets} {trees : Diagrams} → ReadsBranches total depth s t trees out
      → (u : Diagram) (us : List Diagram) (frames : List Frame) (o : Firsts) → suc (length frames) + depth ≡ MAX_DEPTH
      → runs total s (between a_chart (in_par (u ∷ us) ∷ frames) o) ≡ runs total t (between (after_chart (chart.par (with_diagrams (u ∷ us) trees))) frames (noted o out))
  runs-par (spec.last {total = total} {s1 = s1} {t = t} {d = tree} {offsets = offsets} reads closes) u us frames o deep =
      let kept = noted o offsets in
      runs-chart reads (free-skips closes refl) (in_par (u ∷ us) ∷ frames) o deep
      ∙ runs-sign (after_chart (chart.par (diagrams_of ((u ∷ us) ++ tree ∷ [])))) frames total (after_chart tree) (in_par (u ∷ us) ∷ frames) kept closes refl
      ∙ ap (λ ts. runs total t (between (after_chart (chart.par ts)) frames kept)) (diagrams_of-last (u ∷ us) tree)
  runs-par (spec.next {total = total} {s1 = s1} {s2 = s2} {t = t} {d = tree} {others = others} {offsets = f} {offsets2 = g} reads comma branches) u us frames o deep =
      let kept = noted o f in
      runs-chart reads (free-skips comma refl) (in_par (u ∷ us) ∷ frames) o deep
      ∙ runs-sign a_chart (in_par (u ∷ (us ++ tree ∷ [])) ∷ frames) total (after_chart tree) (in_par (u ∷ us) ∷ frames) kept comma refl
      ∙ runs-par branches u (us ++ tree ∷ []) frames kept deep
      ∙ ap (λ ts. runs total t (between (after_chart (chart.par ts)) frames (noted kept g))) (with_diagrams-last (u ∷ us) tree others)
      ∙ ap (λ x. runs total t (between (after_chart (chart.par (with_diagrams (u ∷ us) (chart.more tree others)))) frames x)) (sym (noted-joined o f g))

  runs-cases : {total depth : ℕ} {s t : List ℕ} {out : Offsets} {cases : Cases} → ReadsCases total depth s t cases out
      → (u : Condition × Diagram) (us : List (Condition × Diagram)) (frames : List Frame) (o : Firsts) → suc (length frames) + depth ≡ MAX_DEPTH
      → runs total s (between (a_name (of_sel (u ∷ us))) frames o) ≡ runs total t (between (after_chart (chart.sel (with_cases (u ∷ us) cases))) frames (noted o out))
  runs-cases (spec.last_case {total = total} {s1 = s1} {t = t} {d = tree} {offsets = offsets} skips colon reads closes) u us frames o deep =
      let kept = noted o offsets in
      runs-word_token (codes "else") s1 (after_else (u ∷ us)) total (a_name (of_sel (u ∷ us))) frames o skips name_else refl (free-skips colon refl) refl
      ∙ runs-sign a_chart (in_else (u ∷ us) ∷ frames) total (after_else (u ∷ us)) frames o colon refl
      ∙ runs-chart reads (free-skips closes refl) (in_else (u ∷ us) ∷ frames) o deep
      ∙ runs-sign (after_chart (chart.sel (cases_of (u ∷ us) tree))) frames total (after_chart tree) (in_else (u ∷ us) ∷ frames) kept closes refl
      ∙ ap (λ ts. runs total t (between (after_chart (chart.sel ts)) frames kept)) (cases_of-is (u ∷ us) tree)
  runs-cases (spec.next_case {total = total} {t = t} {c = c} {d = tree} {others = others} {offsets = f} {offsets2 = g} {offsets3 = h} tests colon reads comma cases) u us frames o deep =
      let o1 = noted o f in
      let o2 = noted o1 g in
      runs-condition tests (free-skips colon refl) (of_sel (u ∷ us)) frames o
      ∙ runs-sign a_chart (in_case (u ∷ us) c ∷ frames) total (after_condition (of_sel (u ∷ us)) c) frames o1 colon refl
      ∙ runs-chart reads (free-skips comma refl) (in_case (u ∷ us) c ∷ frames) o1 deep
      ∙ runs-sign (a_name (of_sel (u ∷ (us ++ (c, tree) ∷ [])))) frames total (after_chart tree) (in_case (u ∷ us) c ∷ frames) o2 comma refl
      ∙ runs-cases cases u (us ++ (c, tree) ∷ []) frames o2 deep
      ∙ ap (λ ts. runs total t (between (after_chart (chart.sel ts)) frames (noted o2 h))) (with_cases-last (u ∷ us) c tree others)
      ∙ ap (λ x. runs total t (between (after_chart (chart.sel (with_cases (u ∷ us) (chart.when c tree others)))) frames x)) (noted-joined2 o f g h)

-- ---- whole texts

-- the machine takes the text of a chart, gives the chart, and the first of its numbers out of range
pub complete : {text : List ℕ} {offsets : Offsets} {tree : Diagram} → IsWideChart text tree offsets → runs (length text) text start ≡ Some (tree, noted no_firsts offsets)
unfolding runs finish between
complete (spec.whole {text = text} {t = t} {d = tree} {offsets = offsets} reads skips) =
    runs-chart reads (free-skips skips tt) [] no_firsts (omega arith)
    ∙ runs-skips skips (length text) (after_chart tree) [] (noted no_firsts offsets)

-- the chart of a text, where there is one, and whether a number is out of range
pub one_chart : {text : List ℕ} {f g : Offsets} {a b : Diagram} → IsWideChart text a f → IsWideChart text b g → (a ≡ b) × (noted no_firsts f ≡ noted no_firsts g)
one_chart {f = f} {g = g} {a = a} {b = b} x y = grind (arith, complete x, complete y)

-- ---- prefixes of texts

both : (o : Option State) (f g : State → Option (Diagram × Firsts)) (h : State → Option State) → ((x : State) → f x ≡ option_and_then g (h x)) → option_and_then f o ≡ option_and_then g (option_and_then h o)
both o f g h e = grind arith

-- a prefix of the remaining text, and then the rest
pub runs-steps : (s t : List ℕ) (place total : ℕ) (st : State) → place + length (s ++ t) ≡ total → runs total (s ++ t) st ≡ option_and_then (runs total t) (steps place s st)
unfolding runs steps
runs-steps [] t place total st h = refl
runs-steps (b ∷ s) t place total st h =
    let at : total - suc (length (s ++ t)) ≡ place = omega arith in
    rw at (both (step place b st) (runs total (s ++ t)) (runs total t) (steps (place + 1) s) (λ x. runs-steps s t (place + 1) total x (omega arith)))

-- where the machine stops, no text of a chart begins so
pub no_chart_begins : (front rest : List ℕ) (offsets : Offsets) (tree : Diagram) → steps 0 front start ≡ None → IsWideChart (front ++ rest) tree offsets → ⊥
no_chart_begins front rest offsets tree stops wide =
    let total = length (front ++ rest) in
    let e : ◌≡◌ {A = Option (Diagram × Firsts)} (Some (tree, noted no_firsts offsets)) None = sym (complete wide) ∙ runs-steps front rest 0 total start (omega arith) ∙ ap (option_and_then (runs total rest)) stops in
    cc

-- where the machine does not end well, the text is of no chart
pub no_chart : (text : List ℕ) (offsets : Offsets) (tree : Diagram) (st : State) → steps 0 text start ≡ Some st → finish (length text) st ≡ None → IsWideChart text tree offsets → ⊥
unfolding runs
no_chart text offsets tree st goes stops wide = grind (arith, complete wide, append-nil text, runs-steps text, length-append text)
