use Rattle.std.proofs.Common.{◌≡◌, ◌≤◌, ℕ, List, [], Option, Some, None, true, false, length, option_copied, get_or, replicate, slice_get, refl, sym, ap, ◌∙◌, subst, arith}
use Rattle.std.{specs.Option.is_some, proofs.lemmas.List.with_items_is, proofs.lemmas.Option.slice_get-get_or}
use Rattle.batch_recipe.{specs.Outlines.act_of_kind, specs.declared.act.Act.Act, specs.declared.entry.Entry.Entry, proofs.NodesAbove.as_many}
use Rattle.batch_recipe.specs.declared.entry.Kind.TheVariants as kind
use Rattle.batch_set.specs.Looked.{needs_by}
use Rattle.batch_verify.{specs.Bindings.takers_of, specs.Refusals.ranking_in, specs.Spans.AreBetween, specs.Spans.IsPassed, specs.Trials.bound_by, specs.declared.rule.Rule.Rule, specs.declared.passed.Passed.Passed, specs.declared.span.Span.Span, specs.declared.trial.Trial.TheVariants.Leveled, proofs.CandidateBounds.between, proofs.NodeClearance.Clears-none, proofs.NodeClearance.Clears-more, proofs.PassedSteps.AreNoted-none, proofs.Paths.paths_end, proofs.NumberedBindings.differ, proofs.NumberedBindings.own_role}
use Rattle.batch_verify.proofs.span.is_clear.Goals as goal

abbrev no_entry : Entry
no_entry = record { kind = kind.Skip; end = 0; parent = 0; child = 0; needs = 0; detail = 0 }

-- all are None, where no other clone of None is one
are_none : (P : Option Passed → Type 0) (all : List (Option Passed)) (n : ℕ) → (((spans : Option Passed) → P spans → spans ≡ None) → all ≡ replicate n None) → ((spans : Passed) → ¬ (P (Some spans)))
    → all ≡ replicate n None
are_none P all n clones bad = clones only
  where
    only : (spans : Option Passed) → P spans → spans ≡ None
    only None h = refl
    only (Some spans) h = absurd (bad spans h)

is_none : (o : Option Rule) → is_some o ≡ false → o ≡ None
is_none None is = refl
is_none (Some rule) is = let bad : true ≡ false = is in absurd cc

pub loop-entry-init : goal.loop-entry-init
loop-entry-init c =
    let cell = c.args.cell.now in
    let r = c.args.recipe.now in
    record {
      clears =
          rw c.in_ok-spans.ensures.items
          (Clears-none cell (option_copied c.args.ranks) r c.args.linked.now (takers_of cell (bound_by cell r.roles.items (Leveled false c.args.ranks)) r.roles.items) c.in_ok-highest.highest.items);
      noted = rw (are_none _ _ _ c.in_ok-passed.ensures.items_if_clones_equal (λ spans bad. bad)) (AreNoted-none _ c.len-2.result);
    }

pub bounds-faults-len : goal.bounds-faults-len
bounds-faults-len c =
    omega (arith, c.len-in-loop-entry.ensures, c.loop-entry.invariant.clears.size, c.loop-entry-test.true, ap length c.deref-entry-items.ensures.value, as_many c.args.recipe.now, c.requires.faults.as_many)

pub span_below-requires : goal.span_below-requires
span_below-requires c =
    rw (c.deref-in-loop-entry-2.ensures.value, c.deref-in-loop-entry-3.ensures.value, c.deref_mut.ensures.value) c.loop-entry.invariant.noted

pub loop-entry-preserved : goal.loop-entry-preserved
loop-entry-preserved c =
    let cell = c.args.cell.now in
    let r = c.args.recipe.now in
    let ranks = option_copied c.args.ranks in
    let low = takers_of cell (bound_by cell r.roles.items (Leveled false c.args.ranks)) r.roles.items in
    let high = c.in_ok-highest.highest.items in
    let lowest : c.deref.result.now ≡ low = c.deref.ensures.value ∙ c.in_ok-lowest.ensures cell c.requires.linked in
    let n = c.loop-entry.entry-index in
    let h = c.loop-entry.invariant.clears in
    let spans = c.loop-entry.spans.items in
    let entry : Entry = get_or c.deref-entry-items.result.now n no_entry in
    let is : slice_get r.outline.entries.items n ≡ Some entry =
    ap (λ xs. slice_get xs n) (sym c.deref-entry-items.ensures.value) ∙ slice_get-get_or c.deref-entry-items.result.now n no_entry c.loop-entry-test.true in
    let above = c.span_above-above.result in
    let node : n ≡ c.len-in-loop-entry.result = omega (arith, c.len-in-loop-entry.ensures, h.size) in
    let fault : Option Rule = get_or c.args.faults.now c.len-in-loop-entry.result None in
    let fault_is : slice_get c.args.faults.now n ≡ Some fault =
    ap (slice_get c.args.faults.now) node ∙ slice_get-get_or c.args.faults.now c.len-in-loop-entry.result None
    (omega (arith, node, c.loop-entry-test.true, ap length c.deref-entry-items.ensures.value, as_many r, c.requires.faults.as_many)) in
    let whole : fault ≡ None = is_none fault (sym c.is_some.ensures ∙ c.if-is_some.false) in
    let some = (λ (o : Span) (o_is : slice_get spans entry.parent ≡ Some o). c.span_above-above.ensures.some o (ap (λ xs. slice_get xs entry.parent) c.deref-in-loop-entry.ensures.value ∙ o_is)) in
    let none = (λ (past : length spans ≤ entry.parent). c.span_above-above.ensures.none (omega (arith, past, ap length c.deref-in-loop-entry.ensures.value))) in
    let passed : (a : Act) → act_of_kind r.acts entry.kind ≡ Some a → IsPassed cell ranks r.roles.items low high (needs_by c.args.linked.now entry.kind) a above c.in-Some.within =
    (λ a act_is. rw (lowest, c.deref-in-loop-entry-2.ensures.value, c.deref-in-loop-entry-3.ensures.value) at (c.in-Some.ensures.act a act_is)) in
    let written = with_items_is c.loop-entry.passed c.span_below.new.passed (c.span_below.auto.passed ∙ c.deref_mut.ensures.len) in
    record {
      clears =
          rw c.in_ok-push.ensures.items
          (Clears-more cell ranks r c.args.linked.now low high c.requires.linked c.args.faults.now c.requires.faults spans n h entry is above some none fault fault_is whole c.in-Some.within passed
          c.in-Some.ensures.chart);
      noted = rw (written, ← c.deref-in-loop-entry-2.ensures.value, ← c.deref-in-loop-entry-3.ensures.value) c.in-Some.ensures.noted;
    }

pub returns : goal.returns
returns c = λ _ bound gives recipes.
    let cell = c.args.cell.now in
    let r = c.args.recipe.now in
    let ranks = option_copied c.args.ranks in
    let roles = r.roles.items in
    let highest = c.in_ok-highest.ensures cell c.requires.linked in
    let low = takers_of cell (bound_by cell roles (Leveled false c.args.ranks)) roles in
    let stands : AreBetween cell ranks roles low (takers_of cell bound roles) c.in_ok-highest.highest.items =
    subst (AreBetween cell ranks roles low (takers_of cell bound roles)) (sym highest) (between cell ranks roles (own_role roles (differ cell [] r r.own_roles)) bound gives) in
    let v = c.loop-entry.invariant.clears.covers bound stands in
    paths_end cell (ranking_in cell ranks) bound r v.paths c.loop-entry.entry-index v.kept (omega (arith, c.loop-entry-test.false, ap length c.deref-entry-items.ensures.value)) recipes
