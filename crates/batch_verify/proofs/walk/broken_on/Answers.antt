use Rattle.std.proofs.Common.{◌≡◌, ◌≤◌, ◌+◌, ℕ, List, Option, Some, None, Ok, Err, length, option_copied, get_or, slice_get, sym, ap, ◌∙◌, subst, arith}
use Rattle.std.proofs.lemmas.Option.{slice_get-get_or}
use Rattle.batch_recipe.{specs.Outlines.act_of_kind, specs.declared.act.Act.Act, specs.declared.entry.Entry.Entry, proofs.NodesAbove.as_many, specs.Procedure.bound_tree, specs.Procedure.sites}
use Rattle.batch_recipe.specs.declared.entry.Kind.TheVariants as kind
use Rattle.batch_model.specs.Setups.{setup_of}
use Rattle.batch_set.specs.Looked.{needs_by}
use Rattle.batch_verify.{specs.Asking.asks_by, specs.Bindings.takers_of, specs.Trials.bound_by, specs.Refusals.ranking_in, specs.Refusals.IsFirstBroken, specs.Ways.bound_parts, specs.declared.rule.Rule.Rule, specs.declared.site.Path.Path, proofs.AsksByName.says-asks, proofs.Paths.KeepsPaths-more, proofs.Paths.number_above, proofs.Paths.looked, proofs.Paths.fault_known, proofs.Paths.path_stops, proofs.Paths.paths_end}
use Rattle.batch_verify.proofs.walk.broken_on.Goals as goal

abbrev no_entry : Entry
no_entry = record { kind = kind.Skip; end = 0; parent = 0; child = 0; needs = 0; detail = 0 }

pub bounds-faults-node : goal.bounds-faults-node
bounds-faults-node c =
    omega (arith, c.len-node.ensures, c.loop-entry.invariant.size, c.loop-entry-test.true, ap length c.deref-entry-items.ensures.value, as_many c.args.recipe.now, c.requires.faults.as_many)

pub enter_node-requires : goal.enter_node-requires
enter_node-requires c =
    let cell = c.args.cell.now in
    let r = c.args.recipe.now in
    let ranking = ranking_in cell (option_copied c.args.ranks) in
    let bound = bound_by cell r.roles.items c.args.trial in
    let n = c.loop-entry.entry-index in
    let h = c.loop-entry.invariant in
    let paths = c.loop-entry.paths.items in
    let entry : Entry = get_or c.deref-entry-items.result.now n no_entry in
    let is : slice_get r.outline.entries.items n ≡ Some entry =
    ap (λ xs. slice_get xs n) (sym c.deref-entry-items.ensures.value) ∙ slice_get-get_or c.deref-entry-items.result.now n no_entry c.loop-entry-test.true in
    let above = c.path_above-above.result in
    number_above cell ranking bound r paths n h entry is above
    (λ q q_is. c.path_above-above.ensures.some q (ap (λ xs. slice_get xs entry.parent) c.deref-in-loop-entry.ensures.value ∙ q_is))
    (λ past. c.path_above-above.ensures.none (omega (arith, past, ap length c.deref-in-loop-entry.ensures.value)))

pub returns-in-Err : goal.returns-in-Err
returns-in-Err c = λ recipes.
    let cell = c.args.cell.now in
    let r = c.args.recipe.now in
    let ranking = ranking_in cell (option_copied c.args.ranks) in
    let bound = bound_by cell r.roles.items c.args.trial in
    let takers : c.deref.result.now ≡ takers_of cell bound r.roles.items = c.deref.ensures.value ∙ c.in_ok-takers.ensures cell c.requires.linked in
    let n = c.loop-entry.entry-index in
    let h = c.loop-entry.invariant in
    let paths = c.loop-entry.paths.items in
    let entry : Entry = get_or c.deref-entry-items.result.now n no_entry in
    let is : slice_get r.outline.entries.items n ≡ Some entry =
    ap (λ xs. slice_get xs n) (sym c.deref-entry-items.ensures.value) ∙ slice_get-get_or c.deref-entry-items.result.now n no_entry c.loop-entry-test.true in
    let above = c.path_above-above.result in
    let node : n ≡ c.len-node.result = omega (arith, c.len-node.ensures, h.size) in
    let fault : Option Rule = get_or c.args.faults.now c.len-node.result None in
    let fault_is : slice_get c.args.faults.now n ≡ Some fault =
    ap (slice_get c.args.faults.now) node ∙ slice_get-get_or c.args.faults.now c.len-node.result None
    (omega (arith, node, c.loop-entry-test.true, ap length c.deref-entry-items.ensures.value, as_many r, c.requires.faults.as_many)) in
    let entered = (λ (a : Act) (act_is : act_of_kind r.acts entry.kind ≡ Some a). c.in-Err.ensures.act a act_is (sites bound r.acts)
    (ap (λ (takers : List (Option ℕ)). asks_by cell takers (needs_by c.args.linked.now entry.kind)) takers ∙ says-asks cell c.args.recipe.now c.args.linked.now c.requires.linked bound entry.kind a act_is)) in
    let some = (λ (q : Path) (q_is : slice_get paths entry.parent ≡ Some q). c.path_above-above.ensures.some q (ap (λ xs. slice_get xs entry.parent) c.deref-in-loop-entry.ensures.value ∙ q_is)) in
    let none = (λ (past : length paths ≤ entry.parent). c.path_above-above.ensures.none (omega (arith, past, ap length c.deref-in-loop-entry.ensures.value))) in
    let known = fault_known cell ranking bound r paths n h entry is above some none c.args.faults.now c.requires.faults fault fault_is in
    let broken = looked cell ranking bound r paths n h entry is above some none (Err c.in-Err.rule) fault known entered c.in-Err.ensures.chart in
    let at : 0 + n ≡ c.len-node.result = omega (arith, node) in
    subst (λ k. IsFirstBroken (setup_of cell recipes) ranking (bound_tree bound r.acts) (bound_parts bound r.acts) 0 (record { node = k; rule = c.in-Err.rule })) at
    (path_stops cell ranking bound r paths n h entry is above some none c.in-Err.rule broken recipes)

pub loop-entry-preserved : goal.loop-entry-preserved
loop-entry-preserved c =
    let cell = c.args.cell.now in
    let r = c.args.recipe.now in
    let ranking = ranking_in cell (option_copied c.args.ranks) in
    let bound = bound_by cell r.roles.items c.args.trial in
    let takers : c.deref.result.now ≡ takers_of cell bound r.roles.items = c.deref.ensures.value ∙ c.in_ok-takers.ensures cell c.requires.linked in
    let n = c.loop-entry.entry-index in
    let h = c.loop-entry.invariant in
    let paths = c.loop-entry.paths.items in
    let entry : Entry = get_or c.deref-entry-items.result.now n no_entry in
    let is : slice_get r.outline.entries.items n ≡ Some entry =
    ap (λ xs. slice_get xs n) (sym c.deref-entry-items.ensures.value) ∙ slice_get-get_or c.deref-entry-items.result.now n no_entry c.loop-entry-test.true in
    let above = c.path_above-above.result in
    let node : n ≡ c.len-node.result = omega (arith, c.len-node.ensures, h.size) in
    let fault : Option Rule = get_or c.args.faults.now c.len-node.result None in
    let fault_is : slice_get c.args.faults.now n ≡ Some fault =
    ap (slice_get c.args.faults.now) node ∙ slice_get-get_or c.args.faults.now c.len-node.result None
    (omega (arith, node, c.loop-entry-test.true, ap length c.deref-entry-items.ensures.value, as_many r, c.requires.faults.as_many)) in
    let entered = (λ (a : Act) (act_is : act_of_kind r.acts entry.kind ≡ Some a). c.in-Ok.ensures.act a act_is (sites bound r.acts)
    (ap (λ (takers : List (Option ℕ)). asks_by cell takers (needs_by c.args.linked.now entry.kind)) takers ∙ says-asks cell c.args.recipe.now c.args.linked.now c.requires.linked bound entry.kind a act_is)) in
    let some = (λ (q : Path) (q_is : slice_get paths entry.parent ≡ Some q). c.path_above-above.ensures.some q (ap (λ xs. slice_get xs entry.parent) c.deref-in-loop-entry.ensures.value ∙ q_is)) in
    let none = (λ (past : length paths ≤ entry.parent). c.path_above-above.ensures.none (omega (arith, past, ap length c.deref-in-loop-entry.ensures.value))) in
    let known = fault_known cell ranking bound r paths n h entry is above some none c.args.faults.now c.requires.faults fault fault_is in
    let good = looked cell ranking bound r paths n h entry is above some none (Ok c.in-Ok.path) fault known entered c.in-Ok.ensures.chart in
    rw c.in_ok-push-in-Ok.ensures.items (KeepsPaths-more cell ranking bound r paths n h entry is above some none c.in-Ok.path good c.in-Ok.ensures.number)

pub returns : goal.returns
returns c = λ recipes.
    paths_end c.args.cell.now (ranking_in c.args.cell.now (option_copied c.args.ranks)) (bound_by c.args.cell.now c.args.recipe.now.roles.items c.args.trial) c.args.recipe.now
    c.loop-entry.paths.items c.loop-entry.entry-index c.loop-entry.invariant (omega (arith, c.loop-entry-test.false, ap length c.deref-entry-items.ensures.value)) recipes
