-- The properties of a chart of the grammar.
use Rattle.std.proofs.Common.{◌≡◌, ℕ, zero, suc, ◌-◌, ◌<◌, ◌≤◌, List, [], ◌∷◌, ◌++◌, Bool, true, ◌&&◌, ◌↔◌, length, refl, sym, ap, ◌∙◌, subst, arith}
use Rattle.std.{specs.Prelude.nat_le, specs.Prelude.nat_lt, specs.Prelude.slice_index_or, specs.Prelude.if◌then◌else◌, specs.List.list_all, specs.List.AllByRecursion, proofs.lemmas.List.Folds.list_all-append, proofs.lemmas.Bool.Decides.nat_tests, proofs.lemmas.Bool.and_parts}
use Rattle.batch_text.specs.NumberText.{number_of}
use Rattle.batch_recipe.specs.{Conditions.Name, declared.chart.TheConstants.MAX_TURNS, declared.condition.Condition.Condition, declared.condition.Term.Term, declared.scaling.TheConstants.MAX_VALUE, Diagram.Diagram, Diagram.seq, Diagram.sel, Diagram.Diagrams, Diagram.none, Diagram.more, Diagram.Cases, Diagram.when, WellFormed.is_among, WellFormed.is_condition, WellFormed.is_chart, WellFormed.are_charts, WellFormed.are_cases, WellFormed.has_no_par}
use Rattle.batch_reader.specs.{ChartGrammar.Offsets, ChartGrammar.IsLabel, ChartGrammar.ReadsTerm, ChartGrammar.ReadsCond, ChartGrammar.Reads, ChartGrammar.ReadsBranches, ChartGrammar.ReadsCases, ChartGrammar.IsChartWithPars, ChartGrammar.IsChart, ChartForm.labels_of_chart, ChartForm.labels_of_all, ChartForm.labels_of_chart_cases, ChartForm.names_compared, ChartForm.values_of_chart, ChartForm.values_of_all, ChartForm.values_of_cases, ChartForm.IsFormed}
use Rattle.batch_reader.specs.ChartGrammar as spec

-- ---- lists

front_nil : {A : Type 0} (a b : List A) → a ++ b ≡ [] → a ≡ []
front_nil [] b h = refl
front_nil (x ∷ a) b h = absurd cc

rest_nil : {A : Type 0} (a b : List A) → a ++ b ≡ [] → b ≡ []
rest_nil [] b h = h
rest_nil (x ∷ a) b h = absurd cc

and_true : (a b : Bool) → a ≡ true → b ≡ true → (a && b) ≡ true
and_true a b e f = rw (e, f) refl

-- ---- `par`s and where they open

-- a `par` opens somewhere just where there is one
abbrev Agree : List ℕ → Bool → Type 0
Agree pars free = (pars ≡ [] → free ≡ true) × (free ≡ true → pars ≡ [])

agree_both : (a b : List ℕ) (x y : Bool) → Agree a x → Agree b y → Agree (a ++ b) (x && y)
agree_both a b x y f g = (
  λ h. and_true x y (f.0 (front_nil a b h)) (g.0 (rest_nil a b h)),
  λ h. let xy = and_parts x y h in ap (λ l. l ++ b) (f.1 xy.0) ∙ g.1 xy.1,
)

and_with_true : (x : Bool) → x ≡ (x && true)
and_with_true x = grind arith

term_no_pars : {total : ℕ} {s t : List ℕ} {x : Term} {o : Offsets} → ReadsTerm total s t x o → o.pars ≡ []
term_no_pars h = grind arith

condition_no_pars : {total : ℕ} {s t : List ℕ} {c : Condition} {o : Offsets} → ReadsCond total s t c o → o.pars ≡ []
condition_no_pars (spec.condition skips is_label op x) = term_no_pars x

mutual
  chart_pars : {total depth : ℕ} {s t : List ℕ} {d : Diagram} {o : Offsets} → Reads total depth s t d o → Agree o.pars (has_no_par d)
  chart_pars (spec.label skips is_label) = (λ _. refl, λ _. refl)
  chart_pars (spec.skip skips) = (λ _. refl, λ _. refl)
  chart_pars (spec.seq skips opens branches) = branches_pars branches
  chart_pars (spec.par skips opens branches) = (λ h. absurd cc, λ h. absurd cc)
  chart_pars (spec.sel skips opens cases) = cases_pars cases
  chart_pars (spec.loop {body = body} {offsets = f} {offsets2 = g} digits skips opens number_skips number comma tests comma2 reads closes) =
      agree_both f.pars g.pars true (has_no_par body) (λ _. refl, λ _. condition_no_pars tests) (chart_pars reads)

  branches_pars : {total depth : ℕ} {s t : List ℕ} {ds : Diagrams} {o : Offsets} → ReadsBranches total depth s t ds o → Agree o.pars (has_no_par (seq ds))
  branches_pars (spec.last {d = d} {offsets = f} reads closes) = subst (λ x. Agree f.pars x) (and_with_true (has_no_par d)) (chart_pars reads)
  branches_pars (spec.next {d = d} {others = others} {offsets = f} {offsets2 = g} reads comma branches) =
      agree_both f.pars g.pars (has_no_par d) (has_no_par (seq others)) (chart_pars reads) (branches_pars branches)

  cases_pars : {total depth : ℕ} {s t : List ℕ} {cs : Cases} {o : Offsets} → ReadsCases total depth s t cs o → Agree o.pars (has_no_par (sel cs))
  cases_pars (spec.last_case skips colon reads closes) = chart_pars reads
  cases_pars (spec.next_case {d = d} {others = others} {offsets = f} {offsets2 = g} {offsets3 = h} tests colon reads comma cases) =
      agree_both f.pars (g.pars ++ h.pars) true (has_no_par d && has_no_par (sel others)) (λ _. refl, λ _. condition_no_pars tests)
      (agree_both g.pars h.pars (has_no_par d) (has_no_par (sel others)) (chart_pars reads) (cases_pars cases))

pub has_its_pars : (text : List ℕ) (chart : Diagram) (pars : List ℕ) → IsChartWithPars text chart pars → (pars ≡ []) ↔ (has_no_par chart ≡ true)
has_its_pars text chart pars (spec.whole reads skips) = chart_pars reads

-- ---- names

all_from : (P : Name → Type 0) (xs : List Name) → AllByRecursion P xs → (k : ℕ) (d : Name) → k < length xs → P (slice_index_or xs k d)
all_from P [] h k d below = absurd (omega arith)
all_from P (x ∷ xs) h zero d below = h.0
all_from P (x ∷ xs) h (suc k) d below = all_from P xs h.1 k d (omega arith)

abbrev AreLabels : List Name → Type 0
AreLabels names = AllByRecursion IsLabel names

both_labels : (xs ys : List Name) → AreLabels xs → AreLabels ys → AreLabels (xs ++ ys)
both_labels [] ys f g = g
both_labels (x ∷ xs) ys f g = (f.0, both_labels xs ys f.1 g)

condition_names : {total : ℕ} {s t : List ℕ} {c : Condition} {o : Offsets} → ReadsCond total s t c o → AreLabels (names_compared c)
condition_names (spec.condition skips is_label op (spec.named skips2 is_label2)) = (is_label, (is_label2, tt))
condition_names (spec.condition skips is_label op (spec.number digits skips2 number)) = (is_label, tt)

mutual
  chart_labels : {total depth : ℕ} {s t : List ℕ} {d : Diagram} {o : Offsets} → Reads total depth s t d o → AreLabels (labels_of_chart d)
  chart_labels (spec.label skips is_label) = (is_label, tt)
  chart_labels (spec.skip skips) = tt
  chart_labels (spec.seq skips opens branches) = branches_labels branches
  chart_labels (spec.par skips opens branches) = branches_labels branches
  chart_labels (spec.sel skips opens cases) = cases_labels cases
  chart_labels (spec.loop digits skips opens number_skips number comma tests comma2 reads closes) = chart_labels reads

  branches_labels : {total depth : ℕ} {s t : List ℕ} {ds : Diagrams} {o : Offsets} → ReadsBranches total depth s t ds o → AreLabels (labels_of_all ds)
  branches_labels (spec.last {d = d} reads closes) = both_labels (labels_of_chart d) [] (chart_labels reads) tt
  branches_labels (spec.next {d = d} {others = others} reads comma branches) = both_labels (labels_of_chart d) (labels_of_all others) (chart_labels reads) (branches_labels branches)

  cases_labels : {total depth : ℕ} {s t : List ℕ} {cs : Cases} {o : Offsets} → ReadsCases total depth s t cs o → AreLabels (labels_of_chart_cases cs)
  cases_labels (spec.last_case skips colon reads closes) = chart_labels reads
  cases_labels (spec.next_case {d = d} {others = others} tests colon reads comma cases) = both_labels (labels_of_chart d) (labels_of_chart_cases others) (chart_labels reads) (cases_labels cases)

mutual
  chart_values : {total depth : ℕ} {s t : List ℕ} {d : Diagram} {o : Offsets} → Reads total depth s t d o → AreLabels (values_of_chart d)
  chart_values (spec.label skips is_label) = tt
  chart_values (spec.skip skips) = tt
  chart_values (spec.seq skips opens branches) = branches_values branches
  chart_values (spec.par skips opens branches) = branches_values branches
  chart_values (spec.sel skips opens cases) = cases_values cases
  chart_values (spec.loop {c = c} {body = body} digits skips opens number_skips number comma tests comma2 reads closes) =
      both_labels (names_compared c) (values_of_chart body) (condition_names tests) (chart_values reads)

  branches_values : {total depth : ℕ} {s t : List ℕ} {ds : Diagrams} {o : Offsets} → ReadsBranches total depth s t ds o → AreLabels (values_of_all ds)
  branches_values (spec.last {d = d} reads closes) = both_labels (values_of_chart d) [] (chart_values reads) tt
  branches_values (spec.next {d = d} {others = others} reads comma branches) = both_labels (values_of_chart d) (values_of_all others) (chart_values reads) (branches_values branches)

  cases_values : {total depth : ℕ} {s t : List ℕ} {cs : Cases} {o : Offsets} → ReadsCases total depth s t cs o → AreLabels (values_of_cases cs)
  cases_values (spec.last_case skips colon reads closes) = chart_values reads
  cases_values (spec.next_case {c = c} {d = d} {others = others} tests colon reads comma cases) =
      both_labels (names_compared c ++ values_of_chart d) (values_of_cases others)
      (both_labels (names_compared c) (values_of_chart d) (condition_names tests) (chart_values reads)) (cases_values cases)

-- ---- limits

in_range : (b : Bool) (n : ℕ) → (if b then [] else n ∷ []) ≡ [] → b ≡ true
in_range b n h = grind arith

-- every name of two lists, and of each
each : (p : Name → Bool) (xs ys : List Name) → list_all p (xs ++ ys) ≡ true → (list_all p xs ≡ true) × (list_all p ys ≡ true)
each p xs ys h = and_parts (list_all p xs) (list_all p ys) (sym (list_all-append p xs ys) ∙ h)

abbrev count : Diagrams → ℕ
count none = 0
count (more d ds) = suc (count ds)

some_branch : {total depth : ℕ} {s t : List ℕ} {ds : Diagrams} {o : Offsets} → ReadsBranches total depth s t ds o → 1 ≤ count ds
some_branch h = grind arith

deeper : (depth : ℕ) (a : ℕ → Bool) → a depth ≡ true → (nat_lt 0 (suc depth) && a (suc depth - 1)) ≡ true
deeper depth a h = grind (arith, nat_tests)

module _ (labels values : List Name) where
  -- the names of a chart are declared
  abbrev AreDeclared : List Name → List Name → Type 0
  AreDeclared ls vs = (list_all (is_among labels) ls ≡ true) × (list_all (is_among values) vs ≡ true)

  declared_both : (ls ls2 vs vs2 : List Name) → AreDeclared (ls ++ ls2) (vs ++ vs2) → AreDeclared ls vs × AreDeclared ls2 vs2
  declared_both ls ls2 vs vs2 h =
      let l = each (is_among labels) ls ls2 h.0 in
      let v = each (is_among values) vs vs2 h.1 in
      ((l.0, v.0), (l.1, v.1))

  condition_limits : {total : ℕ} {s t : List ℕ} {c : Condition} {o : Offsets} → ReadsCond total s t c o → o.outside ≡ [] → list_all (is_among values) (names_compared c) ≡ true → is_condition values c ≡ true
  condition_limits (spec.condition {name = name} skips is_label op (spec.named {name = name2} skips2 is_label2)) within h =
      let first = and_parts (is_among values name) _ h in
      let second = and_parts (is_among values name2) true first.1 in
      and_true _ _ first.0 second.0
  condition_limits (spec.condition {name = name} skips is_label op (spec.number {total = total} {t = t} digits skips2 number)) within h =
      let first = and_parts (is_among values name) _ h in
      let ranged_at = in_range (nat_le 0 (number_of digits) && nat_le (number_of digits) MAX_VALUE) (total - length (digits ++ t)) within in
      and_true _ _ first.0 (and_parts _ _ ranged_at).1

  mutual
    chart_limits : {total depth : ℕ} {s t : List ℕ} {d : Diagram} {o : Offsets} → Reads total depth s t d o → o.outside ≡ [] → AreDeclared (labels_of_chart d) (values_of_chart d) → is_chart labels values depth d ≡ true
    chart_limits (spec.label {name = name} skips is_label) within h = (and_parts (is_among labels name) true h.0).0
    chart_limits (spec.skip skips) within h = refl
    chart_limits (spec.seq {depth = depth} {branches = ds} skips opens branches) within h =
        deeper depth (λ n. are_charts labels values n 1 ds) (branches_limits branches within h 1 (some_branch branches))
    chart_limits (spec.par {depth = depth} {first = first} {second = second} {others = others} skips opens branches) within h =
        deeper depth (λ n. are_charts labels values n 2 (more first (more second others))) (branches_limits branches within h 2 (omega arith))
    chart_limits (spec.sel {depth = depth} {c = c} {first = first} {others = others} skips opens cases) within h =
        deeper depth (λ n. are_cases labels values n 1 (when c first others)) (cases_limits cases within h)
    chart_limits (spec.loop {total = total} {depth = depth} {s3 = s3} {c = c} {body = body} {offsets = f} {offsets2 = g} digits skips opens number_skips number comma tests comma2 reads closes) within h =
        let turns = in_range (nat_le 1 (number_of digits) && nat_le (number_of digits) MAX_TURNS) (total - length (digits ++ s3)) (front_nil _ (f.outside ++ g.outside) within) in
        let inner = rest_nil _ (f.outside ++ g.outside) within in
        let names = each (is_among values) (names_compared c) (values_of_chart body) h.1 in
        let room : nat_lt 0 (suc depth) ≡ true = grind (arith, nat_tests) in
        let down : suc depth - 1 ≡ depth = omega arith in
        let tested = condition_limits tests (front_nil f.outside g.outside inner) names.0 in
        let runs = chart_limits reads (rest_nil f.outside g.outside inner) (h.0, names.1) in
        and_true _ _ (and_true _ _ (and_true _ _ room turns) tested) (rw down runs)

    branches_limits : {total depth : ℕ} {s t : List ℕ} {ds : Diagrams} {o : Offsets} → ReadsBranches total depth s t ds o → o.outside ≡ [] → AreDeclared (labels_of_all ds) (values_of_all ds)
        → (least : ℕ) → least ≤ count ds → are_charts labels values depth least ds ≡ true
    branches_limits (spec.last {d = d} reads closes) within h least few =
        let parts = declared_both (labels_of_chart d) [] (values_of_chart d) [] h in
        let enough : nat_le (least - 1) 0 ≡ true = grind (arith, nat_tests) in
        and_true _ _ (chart_limits reads within parts.0) enough
    branches_limits (spec.next {d = d} {others = others} {offsets = f} {offsets2 = g} reads comma branches) within h least few =
        let parts = declared_both (labels_of_chart d) (labels_of_all others) (values_of_chart d) (values_of_all others) h in
        and_true _ _ (chart_limits reads (front_nil f.outside g.outside within) parts.0)
        (branches_limits branches (rest_nil f.outside g.outside within) parts.1 (least - 1) (omega arith))

    cases_limits : {total depth : ℕ} {s t : List ℕ} {cs : Cases} {o : Offsets} → ReadsCases total depth s t cs o → o.outside ≡ [] → AreDeclared (labels_of_chart_cases cs) (values_of_cases cs)
        → are_cases labels values depth 0 cs ≡ true
    cases_limits (spec.last_case skips colon reads closes) within h = chart_limits reads within h
    cases_limits (spec.next_case {c = c} {d = d} {others = others} {offsets = f} {offsets2 = g} {offsets3 = k} tests colon reads comma cases) within h =
        let inner = rest_nil f.outside (g.outside ++ k.outside) within in
        let parts = declared_both (labels_of_chart d) (labels_of_chart_cases others) (names_compared c ++ values_of_chart d) (values_of_cases others) h in
        let names = each (is_among values) (names_compared c) (values_of_chart d) parts.0.1 in
        let tested = condition_limits tests (front_nil f.outside (g.outside ++ k.outside) within) names.0 in
        let branch = chart_limits reads (front_nil g.outside k.outside inner) (parts.0.0, names.1) in
        and_true _ _ (and_true _ _ tested branch) (cases_limits cases (rest_nil g.outside k.outside inner) parts.1)

pub is_formed : (text : List ℕ) (chart : Diagram) → IsChart text chart → IsFormed chart
is_formed text chart (pars, spec.whole reads skips) = record {
  labels = all_from IsLabel (labels_of_chart chart) (chart_labels reads);
  values = all_from IsLabel (values_of_chart chart) (chart_values reads);
  limits = λ labels values ls vs. chart_limits labels values reads refl (ls, vs);
}
