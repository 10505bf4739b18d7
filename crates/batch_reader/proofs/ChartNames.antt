-- The names that a chart uses, branch by branch.
use Rattle.std.proofs.Common.{arith, ◌≡◌, ℕ, zero, suc, Some, slice_get, ◌-◌, nat_le, nat_lt, Bool, true, ◌&&◌, List, [], ◌∷◌, ◌++◌, map, refl, sym, ap, ◌∙◌}
use Rattle.std.{proofs.lemmas.List.Folds.list_all-append, specs.List.list_all}
use Rattle.batch_reader.{specs.ChartForm.labels_of_chart, specs.ChartForm.labels_of_all, specs.ChartForm.labels_of_chart_cases, specs.ChartForm.names_compared, specs.ChartForm.values_of_chart, specs.ChartForm.values_of_all, specs.ChartForm.values_of_cases, specs.ChartForm.IsFormed, specs.Naming.is_declared, proofs.Conjunctions.both_true, proofs.Conjunctions.and_true, proofs.Conjunctions.same_test, proofs.Conjunctions.cross, proofs.Conjunctions.cross_five, proofs.Conjunctions.first_of_three}
use Rattle.batch_recipe.specs.{Conditions.Name, Conditions.same_name, Diagram.Diagram, Diagram.label, Diagram.skip, Diagram.seq, Diagram.par, Diagram.sel, Diagram.loop, Diagram.Diagrams, Diagram.none, Diagram.more, Diagram.Cases, Diagram.otherwise, Diagram.when, Diagram.diagram_of, Diagram.diagrams_of, Diagram.cases_of, WellFormed.is_among, WellFormed.is_condition, WellFormed.is_chart, WellFormed.are_charts, WellFormed.are_cases, declared.chart.Chart.Chart, declared.condition.Condition.Condition, declared.condition.Term.Term, declared.condition.Term.TheVariants.Named, declared.condition.Term.TheVariants.Number, declared.scaling.TheConstants.MAX_VALUE}

-- the name at the place is among them
pub is_among_at : (names : List Name) (place : ℕ) (there name : Name) → slice_get names place ≡ Some there → same_name name there ≡ true → is_among names name ≡ true
is_among_at [] place there name is same = absurd cc
is_among_at (x ∷ xs) zero there name is same = grind (arith, is, same)
is_among_at (x ∷ xs) (suc n) there name is same = grind (arith, is_among_at xs n there name is same)

module _ (labels values : List Name) where
  -- the test of one branch of a selection
  abbrev pub is_case_declared : Condition × Chart → Bool
  is_case_declared choice = list_all (is_among values) (names_compared choice.0) && is_declared labels values (diagram_of choice.1)

  declared_append : (ls ls2 vs vs2 : List Name)
      → (list_all (is_among labels) (ls ++ ls2) && list_all (is_among values) (vs ++ vs2))
      ≡ ((list_all (is_among labels) ls && list_all (is_among values) vs) && (list_all (is_among labels) ls2 && list_all (is_among values) vs2))
  declared_append ls ls2 vs vs2 = grind (arith, list_all-append, cross)

  -- the branches of a `seq` or `par`
  pub branches_declared : (charts : List Chart)
      → list_all (λ chart. is_declared labels values (diagram_of chart)) charts ≡ is_declared labels values (seq (diagrams_of (map diagram_of charts)))
  branches_declared [] = refl
  branches_declared (c ∷ cs) = grind (arith, branches_declared cs, declared_append)

  -- the branches of a `sel`
  pub cases_declared : (choices : List (Condition × Chart)) (last : Diagram)
      → (list_all is_case_declared choices && is_declared labels values last)
      ≡ is_declared labels values (sel (cases_of (map (λ choice. (choice.0, diagram_of choice.1)) choices) last))
  cases_declared [] last = refl
  cases_declared (c ∷ cs) last =
      let L : List Name → Bool = list_all (is_among labels) in
      let V : List Name → Bool = list_all (is_among values) in
      let rest : Cases = cases_of (map (λ choice. (choice.0, diagram_of choice.1)) cs) last in
      let d : Diagram = diagram_of c.1 in
      let parts : is_declared labels values (sel (when c.0 d rest))
      ≡ ((V (names_compared c.0) && (L (labels_of_chart d) && V (values_of_chart d))) && is_declared labels values (sel rest)) =
      rw (
        list_all-append (is_among labels) (labels_of_chart d) (labels_of_chart_cases rest),
        list_all-append (is_among values) (names_compared c.0 ++ values_of_chart d) (values_of_cases rest),
        list_all-append (is_among values) (names_compared c.0) (values_of_chart d),
      )
      (cross_five (L (labels_of_chart d)) (L (labels_of_chart_cases rest)) (V (names_compared c.0)) (V (values_of_chart d)) (V (values_of_cases rest))) in
      first_of_three (is_case_declared c) (list_all is_case_declared cs) (is_declared labels values last)
      ∙ ap (λ b. is_case_declared c && b) (cases_declared cs last) ∙ sym parts

  -- a chart that a recipe may have names nothing that isn't declared
  abbrev AreDeclared : List Name → List Name → Type 0
  AreDeclared ls vs = (list_all (is_among labels) ls ≡ true) × (list_all (is_among values) vs ≡ true)

  all_of_both : (p : Name → Bool) (xs ys : List Name) → list_all p xs ≡ true → list_all p ys ≡ true → list_all p (xs ++ ys) ≡ true
  all_of_both p xs ys f g = list_all-append p xs ys ∙ and_true (list_all p xs) (list_all p ys) f g

  term_named : (t : Term) → elim t [ Named name ↦ is_among values name | Number n ↦ nat_le n MAX_VALUE ] ≡ true
      → list_all (is_among values) (elim t [ Named name ↦ name ∷ [] | Number n ↦ [] ]) ≡ true
  term_named t h = grind (arith, and_true)

  condition_named : (c : Condition) → is_condition values c ≡ true → list_all (is_among values) (names_compared c) ≡ true
  condition_named c h = grind (arith, both_true, and_true, term_named)

  mutual
    chart_named : (depth : ℕ) (d : Diagram) → is_chart labels values depth d ≡ true → AreDeclared (labels_of_chart d) (values_of_chart d)
    chart_named depth (label name) h = (and_true (is_among labels name) true h refl, refl)
    chart_named depth skip h = (refl, refl)
    chart_named depth (seq ds) h = charts_named (depth - 1) 1 ds (both_true (nat_lt 0 depth) _ h).1
    chart_named depth (par ds) h = charts_named (depth - 1) 2 ds (both_true (nat_lt 0 depth) _ h).1
    chart_named depth (sel cs) h = cases_named (depth - 1) 1 cs (both_true (nat_lt 0 depth) _ h).1
    chart_named depth (loop turns c d) h =
        let p = both_true _ (is_chart labels values (depth - 1) d) h in
        let tested = condition_named c (both_true _ (is_condition values c) p.0).1 in
        let body = chart_named (depth - 1) d p.1 in
        (body.0, all_of_both (is_among values) (names_compared c) (values_of_chart d) tested body.1)

    charts_named : (depth least : ℕ) (ds : Diagrams) → are_charts labels values depth least ds ≡ true → AreDeclared (labels_of_all ds) (values_of_all ds)
    charts_named depth least none h = (refl, refl)
    charts_named depth least (more d ds) h =
        let p = both_true (is_chart labels values depth d) _ h in
        let first = chart_named depth d p.0 in
        let rest = charts_named depth (least - 1) ds p.1 in
        (all_of_both (is_among labels) (labels_of_chart d) (labels_of_all ds) first.0 rest.0, all_of_both (is_among values) (values_of_chart d) (values_of_all ds) first.1 rest.1)

    cases_named : (depth least : ℕ) (cs : Cases) → are_cases labels values depth least cs ≡ true → AreDeclared (labels_of_chart_cases cs) (values_of_cases cs)
    cases_named depth least (otherwise d) h = chart_named depth d (both_true (nat_le least 0) _ h).1
    cases_named depth least (when c d cs) h =
        let p = both_true _ (are_cases labels values depth (least - 1) cs) h in
        let q = both_true (is_condition values c) (is_chart labels values depth d) p.0 in
        let tested = condition_named c q.0 in
        let first = chart_named depth d q.1 in
        let rest = cases_named depth (least - 1) cs p.1 in (
          all_of_both (is_among labels) (labels_of_chart d) (labels_of_chart_cases cs) first.0 rest.0,
          all_of_both (is_among values) (names_compared c ++ values_of_chart d) (values_of_cases cs) (all_of_both (is_among values) (names_compared c) (values_of_chart d) tested first.1) rest.1,
        )

  -- a chart of the grammar is one of a recipe just where the names that it uses are declared
  pub formed_chart : (d : Diagram) → IsFormed d → is_declared labels values d ≡ is_chart labels values 32 d
  formed_chart d formed =
      same_test (is_declared labels values d) (is_chart labels values 32 d)
      (λ h. let p = both_true (list_all (is_among labels) (labels_of_chart d)) _ h in formed.limits labels values p.0 p.1)
      (λ h. let p = chart_named 32 d h in and_true (list_all (is_among labels) (labels_of_chart d)) _ p.0 p.1)
