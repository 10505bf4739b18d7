use Rattle.std.proofs.Common.{◌≡◌, [], ◌∷◌, ◌++◌, map, ℕ, ◌+◌, List, Some, None, Ok, Err, sym, ap, ◌∙◌, arith, refl, subst, slice_get, append-nil, append_assoc, length, length-append}
use Rattle.std.proofs.lemmas.{Grind.common_steps, Option.slice_get_read, Result.err_from_is_err_and}
use Rattle.batch_recipe.{specs.Diagram.diagram_of, specs.Diagram.cases_of, specs.Conditions.same_name, specs.Expanding.act_named, specs.Growing.Head, specs.Growing.grown_work, specs.Growing.plain_head, specs.Growing.act_head, specs.Growing.topped, specs.Growing.grown, specs.Growing.grown_cases, specs.Growing.told_from, specs.Growing.named_from, specs.Growing.conditions_of_cases, specs.Growing.conditions_along_cases, specs.Growing.number_in, specs.Growing.unit_number, specs.Growing.branch_entries, specs.Growing.chart_entries, specs.Growing.chart_conditions, specs.Growing.act_entries, specs.Growing.HasGrown, specs.Growing.HasAdded, specs.Procedure.table_at, specs.Procedure.tables_from, specs.declared.chart.Chart.Chart, specs.declared.condition.Condition.Condition, specs.declared.act.Act.Act, specs.declared.act.Work.Work, specs.declared.entry.Entry.Entry, proofs.NodeCounts.counted, proofs.NodeCounts.counted_act, proofs.NodeCounts.counted_name, proofs.Diagrams.diagram_of-label, proofs.Diagrams.diagram_of-seq, proofs.Diagrams.diagram_of-par, proofs.Diagrams.diagram_of-sel, proofs.Diagrams.diagram_of-loop, proofs.Tables.counted_some, proofs.Branches.counted_at, proofs.Branches.counted_choice, proofs.Branches.counted_last, proofs.Growth.found_at, proofs.Growth.node_grown, proofs.Growth.node_failed, proofs.Growth.no_number, proofs.Growth.no_number_told, proofs.Growth.some_act, proofs.Growth.some_act_told, proofs.Growth.nothing_added, proofs.Growth.grown_as, proofs.Growth.KeepsGrowing-more, proofs.Growth.KeepsGrowing-stop, proofs.Growth.KeepsGrowing-room, proofs.Growth.KeepsGrowing-all, proofs.Growth.KeepsGrowing-told, proofs.Growth.KeepsChoosing-more, proofs.Growth.KeepsChoosing-stop, proofs.Growth.KeepsChoosing-room, proofs.Growth.KeepsChoosing-last, proofs.Growth.KeepsChoosing-told, proofs.ConditionCopies.conditions-are}
use Rattle.batch_recipe.specs.declared.entry.Kind.TheVariants as kind
use Rattle.batch_recipe.proofs.growing.+grow.Goals as goal

pub grow_label-grow_act-requires : goal.grow_label-grow_act-requires
grow_label-grow_act-requires t c =
    let T = table_at c.args.labels.now.acts.now c.in-Some.table in
    let number : number_in T c.args.name.now ≡ Some c.in-Some-number_of.number =
    sym c.number_of.ensures ∙ c.in-Some-number_of.is in
    let got : slice_get T c.in-Some-number_of.number ≡ Some c.in-Some-get.act.now =
    sym (ap (λ ts. slice_get ts c.in-Some-number_of.number) c.table.ensures)
    ∙ slice_get_read c.table.result.now (length c.table.result.now) c.in-Some-number_of.number c.in-Some-get.act.now refl
    (grind (arith, common_steps, c.in-Some-get.ensures.lookup)) c.in-Some-get.ensures.lookup.1 in
    let found : act_named T c.args.name.now ≡ Some c.in-Some-get.act.now = found_at (λ (a : Act). same_name a.name c.args.name.now) T c.in-Some-number_of.number number ∙ got in
    let e : counted_name (tables_from c.args.labels.now.acts.now c.args.seat.level) c.args.name.now ≡ counted_act (counted_name (tables_from c.args.labels.now.acts.now c.below-level.result)) c.in-Some-get.act.now =
    rw (c.in-Some.is, c.below-level.ensures) (counted_some c.args.labels.now.acts.now c.in-Some.table c.args.name.now c.in-Some-get.act.now found) in
    (omega (arith, e), c.requires)

pub grow_act-grow-requires : goal.grow_act-grow-requires
grow_act-grow-requires t c =
    let e : counted_act (counted_name (tables_from c.args.labels.now.acts.now c.args.seat.level)) c.args.act.now ≡ 1 + counted (counted_name (tables_from c.args.labels.now.acts.now c.args.seat.level)) (diagram_of c.in-Follows.chart) = rw c.in-Follows.is refl in
    (omega (arith, e), c.in_ok-node.ensures.2)

pub grow_each-grow_part-requires : goal.grow_each-grow_part-requires
grow_each-grow_part-requires t c =
    let e = counted_at (counted_name (tables_from c.args.labels.now.acts.now c.args.seat.level)) c.args.parts.now c.loop-part.part-index c.part-item.result c.loop-part-test.true c.part-item.is in
    (omega (arith, e), c.loop-part.invariant.small)

pub grow_choices-grow_part-requires : goal.grow_choices-grow_part-requires
grow_choices-grow_part-requires t c =
    let e = counted_choice (counted_name (tables_from c.args.labels.now.acts.now c.args.seat.level)) c.args.choices.now c.args.last.now c.loop-choice.choice-index c.choice-item.result c.loop-choice-test.true c.choice-item.is in
    (omega (arith, e), c.loop-choice.invariant.small)

pub grow_choices-grow-requires : goal.grow_choices-grow-requires
grow_choices-grow-requires t c =
    let e = counted_last (counted_name (tables_from c.args.labels.now.acts.now c.args.seat.level)) c.args.choices.now c.args.last.now in
    (omega (arith, e), c.loop-choice.invariant.small)

pub grow_parts-returns-clause-grown : goal.grow_parts-returns-clause-grown
grow_parts-returns-clause-grown t c =
    node_grown c.args.nodes.now.items c.begin.new.nodes.items c.grow_each.new.nodes.items c.finish.new.nodes.items (plain_head c.args.kind 0) c.in_ok-node.node c.args.seat.parent c.args.seat.child
    (λ m n. branch_entries c.args.labels.now.acts.now c.args.seat.level c.args.seat.unit m (length c.args.conditions.now.items) n 0 (map diagram_of c.args.parts.now)) c.in_ok-node.ensures c.in_ok-grow_each.ensures.grown c.finish.ensures

pub grow_parts-returns-in_err-grow_each-clause-grown : goal.grow_parts-returns-in_err-grow_each-clause-grown
grow_parts-returns-in_err-grow_each-clause-grown t c =
    let p = err_from_is_err_and c.from_residual-in_err-grow_each.result c.from_residual-in_err-grow_each.ensures.1 in
    rw (p.1, p.2)
    (node_failed c.args.nodes.now.items c.begin.new.nodes.items c.grow_each.new.nodes.items c.grow_each.new.nodes.items (plain_head c.args.kind 0) c.in_ok-node.node c.args.seat.parent c.args.seat.child
    (λ m n. branch_entries c.args.labels.now.acts.now c.args.seat.level c.args.seat.unit m (length c.args.conditions.now.items) n 0 (map diagram_of c.args.parts.now)) c.in_ok-node.ensures c.in_err-grow_each.field-0.0 c.in_err-grow_each.ensures.grown)

pub grow_each-overflow_add-child : goal.grow_each-overflow_add-child
grow_each-overflow_add-child t c =
    let h = KeepsGrowing-room c.args.labels.now.acts.now c.args.seat.level c.args.seat.unit c.args.seat.parent c.args.parts.now c.args.nodes.now.items c.loop-part.nodes.items c.args.conditions.now.items c.loop-part.conditions.items c.loop-part.part-index c.loop-part.child c.loop-part.invariant in
    omega (arith, h)

pub grow_each-loop-part-init : goal.grow_each-loop-part-init
grow_each-loop-part-init t c = record {
  counted = refl;
  done = [];
  told = [];
  some = omega arith;
  now_is = sym (append-nil c.args.nodes.now.items);
  told_is = sym (append-nil c.args.conditions.now.items);
  small = c.requires;
  all = refl;
  all_told = refl;
}

pub grow_each-loop-part-preserved : goal.grow_each-loop-part-preserved
grow_each-loop-part-preserved t c =
    KeepsGrowing-more c.args.labels.now.acts.now c.args.seat.level c.args.seat.unit c.args.seat.parent c.args.parts.now c.args.nodes.now.items c.loop-part.nodes.items c.args.conditions.now.items c.loop-part.conditions.items c.loop-part.part-index c.loop-part.child c.loop-part.invariant
    c.part-item.result c.loop-part-test.true c.part-item.is c.grow_part.new.nodes.items c.grow_part.new.conditions.items c.in_ok-grow_part.ensures.grown c.in_ok-grow_part.ensures.added

pub grow_each-returns-in_err-grow_part-clause-grown : goal.grow_each-returns-in_err-grow_part-clause-grown
grow_each-returns-in_err-grow_part-clause-grown t c =
    let p = err_from_is_err_and c.from_residual.result c.from_residual.ensures.1 in
    rw (p.1, p.2)
    (KeepsGrowing-stop c.args.labels.now.acts.now c.args.seat.level c.args.seat.unit c.args.seat.parent c.args.parts.now c.args.nodes.now.items c.loop-part.nodes.items c.args.conditions.now.items c.loop-part.conditions.items c.loop-part.part-index c.loop-part.child c.loop-part.invariant
    c.part-item.result c.loop-part-test.true c.part-item.is c.grow_part.new.nodes.items c.in_err-grow_part.field-0.0 c.in_err-grow_part.ensures.grown)

pub grow_each-returns-clause-grown : goal.grow_each-returns-clause-grown
grow_each-returns-clause-grown t c = KeepsGrowing-all c.args.labels.now.acts.now c.args.seat.level c.args.seat.unit c.args.seat.parent c.args.parts.now c.args.nodes.now.items c.loop-part.nodes.items c.args.conditions.now.items c.loop-part.conditions.items c.loop-part.part-index c.loop-part.child c.loop-part.invariant c.loop-part-test.false

pub grow_each-returns-clause-added : goal.grow_each-returns-clause-added
grow_each-returns-clause-added t c = KeepsGrowing-told c.args.labels.now.acts.now c.args.seat.level c.args.seat.unit c.args.seat.parent c.args.parts.now c.args.nodes.now.items c.loop-part.nodes.items c.args.conditions.now.items c.loop-part.conditions.items c.loop-part.part-index c.loop-part.child c.loop-part.invariant c.loop-part-test.false

pub grow_choices-overflow_add-child : goal.grow_choices-overflow_add-child
grow_choices-overflow_add-child t c =
    let h = KeepsChoosing-room c.args.labels.now.acts.now c.args.seat.level c.args.seat.unit c.args.seat.parent c.args.choices.now c.args.last.now c.args.nodes.now.items c.loop-choice.nodes.items c.args.conditions.now.items c.loop-choice.conditions.items c.loop-choice.choice-index c.loop-choice.child c.loop-choice.invariant c.grow_part.new.nodes.items in
    omega (arith, h)

pub grow_choices-loop-choice-init : goal.grow_choices-loop-choice-init
grow_choices-loop-choice-init t c = record {
  counted = refl;
  done = [];
  told = [];
  some = omega arith;
  now_is = sym (append-nil c.args.nodes.now.items);
  told_is = sym (append-nil c.args.conditions.now.items);
  small = c.requires;
  all = refl;
  all_told = refl;
}

pub grow_choices-loop-choice-preserved : goal.grow_choices-loop-choice-preserved
grow_choices-loop-choice-preserved t c =
    KeepsChoosing-more c.args.labels.now.acts.now c.args.seat.level c.args.seat.unit c.args.seat.parent c.args.choices.now c.args.last.now c.args.nodes.now.items c.loop-choice.nodes.items c.args.conditions.now.items c.loop-choice.conditions.items c.loop-choice.choice-index c.loop-choice.child c.loop-choice.invariant
    c.grow_part.new.nodes.items c.choice-item.result c.loop-choice-test.true c.choice-item.is c.grow_part.new.conditions.items c.in_ok-grow_part.ensures.grown c.in_ok-grow_part.ensures.added

pub grow_choices-returns-in_err-grow_part-clause-grown : goal.grow_choices-returns-in_err-grow_part-clause-grown
grow_choices-returns-in_err-grow_part-clause-grown t c =
    let p = err_from_is_err_and c.from_residual.result c.from_residual.ensures.1 in
    rw (p.1, p.2)
    (KeepsChoosing-stop c.args.labels.now.acts.now c.args.seat.level c.args.seat.unit c.args.seat.parent c.args.choices.now c.args.last.now c.args.nodes.now.items c.loop-choice.nodes.items c.args.conditions.now.items c.loop-choice.conditions.items c.loop-choice.choice-index c.loop-choice.child c.loop-choice.invariant
    c.grow_part.new.nodes.items c.choice-item.result c.loop-choice-test.true c.choice-item.is c.in_err-grow_part.field-0.0 c.in_err-grow_part.ensures.grown)

pub grow_choices-returns-clause-grown : goal.grow_choices-returns-clause-grown
grow_choices-returns-clause-grown t c =
    KeepsChoosing-last c.args.labels.now.acts.now c.args.seat.level c.args.seat.unit c.args.seat.parent c.args.choices.now c.args.last.now c.args.nodes.now.items c.loop-choice.nodes.items c.args.conditions.now.items c.loop-choice.conditions.items c.loop-choice.choice-index c.loop-choice.child c.loop-choice.invariant
    c.grow.new.nodes.items c.loop-choice-test.false c.grow.result c.grow.ensures.grown

pub grow_choices-returns-clause-added : goal.grow_choices-returns-clause-added
grow_choices-returns-clause-added t c =
    KeepsChoosing-told c.args.labels.now.acts.now c.args.seat.level c.args.seat.unit c.args.seat.parent c.args.choices.now c.args.last.now c.args.nodes.now.items c.loop-choice.nodes.items c.args.conditions.now.items c.loop-choice.conditions.items c.loop-choice.choice-index c.loop-choice.child c.loop-choice.invariant
    c.grow.new.nodes.items c.loop-choice-test.false c.grow.new.conditions.items c.grow.result c.grow.ensures.added

pub grow_label-returns-in-None-number_of-clause-grown : goal.grow_label-returns-in-None-number_of-clause-grown
grow_label-returns-in-None-number_of-clause-grown t c =
    let T = table_at c.args.labels.now.acts.now c.in-Some.table in
    let number : number_in T c.args.name.now ≡ None =
    sym c.number_of.ensures ∙ c.in-None-number_of.is in
    subst (λ (es : List Entry). HasGrown c.args.nodes.now.items es c.grow_bare-in-None-number_of.new.nodes.items c.grow_bare-in-None-number_of.result)
    (sym (no_number c.args.labels.now.acts.now c.args.seat.level c.args.name.now c.in-Some.table c.in-Some.is c.args.seat.unit (length c.args.nodes.now.items) (length c.args.conditions.now.items) c.args.seat.parent c.args.seat.child number))
    c.grow_bare-in-None-number_of.ensures

pub grow_label-returns-in-None-number_of-clause-added : goal.grow_label-returns-in-None-number_of-clause-added
grow_label-returns-in-None-number_of-clause-added t c =
    let T = table_at c.args.labels.now.acts.now c.in-Some.table in
    let number : number_in T c.args.name.now ≡ None =
    sym c.number_of.ensures ∙ c.in-None-number_of.is in
    nothing_added c.args.conditions.now.items _ c.grow_bare-in-None-number_of.result
    (no_number_told c.args.labels.now.acts.now c.args.seat.level c.args.name.now c.in-Some.table c.in-Some.is number)

pub grow_label-returns-in-Some-get-clause-grown : goal.grow_label-returns-in-Some-get-clause-grown
grow_label-returns-in-Some-get-clause-grown t c =
    let T = table_at c.args.labels.now.acts.now c.in-Some.table in
    let number : number_in T c.args.name.now ≡ Some c.in-Some-number_of.number =
    sym c.number_of.ensures ∙ c.in-Some-number_of.is in
    let got : slice_get T c.in-Some-number_of.number ≡ Some c.in-Some-get.act.now =
    sym (ap (λ ts. slice_get ts c.in-Some-number_of.number) c.table.ensures)
    ∙ slice_get_read c.table.result.now (length c.table.result.now) c.in-Some-number_of.number c.in-Some-get.act.now refl
    (grind (arith, common_steps, c.in-Some-get.ensures.lookup)) c.in-Some-get.ensures.lookup.1 in
    let n = length c.args.nodes.now.items in
    let j = length c.args.conditions.now.items in
    let unit : act_entries c.args.labels.now.acts.now c.below-level.result (kind.Act c.in-Some.table c.in-Some-number_of.number) c.unit_number-unit.result n j c.args.seat.parent c.args.seat.child c.in-Some-get.act.now
    ≡ act_entries c.args.labels.now.acts.now c.below-level.result (kind.Act c.in-Some.table c.in-Some-number_of.number) (unit_number c.in-Some.table c.in-Some-number_of.number c.args.seat.unit) n j c.args.seat.parent c.args.seat.child c.in-Some-get.act.now =
    ap (λ o. act_entries c.args.labels.now.acts.now c.below-level.result (kind.Act c.in-Some.table c.in-Some-number_of.number) o n j c.args.seat.parent c.args.seat.child c.in-Some-get.act.now) c.unit_number-unit.ensures in
    subst (λ (es : List Entry). HasGrown c.args.nodes.now.items es c.grow_act.new.nodes.items c.grow_act.result)
    (unit ∙ sym (some_act c.args.labels.now.acts.now c.args.seat.level c.args.name.now c.in-Some.table c.in-Some.is c.in-Some-number_of.number number c.args.seat.unit n j c.args.seat.parent c.args.seat.child
    c.in-Some-get.act.now c.below-level.result c.below-level.ensures got))
    c.grow_act.ensures.grown

pub grow_label-returns-in-Some-get-clause-added : goal.grow_label-returns-in-Some-get-clause-added
grow_label-returns-in-Some-get-clause-added t c =
    let T = table_at c.args.labels.now.acts.now c.in-Some.table in
    let number : number_in T c.args.name.now ≡ Some c.in-Some-number_of.number =
    sym c.number_of.ensures ∙ c.in-Some-number_of.is in
    let got : slice_get T c.in-Some-number_of.number ≡ Some c.in-Some-get.act.now =
    sym (ap (λ ts. slice_get ts c.in-Some-number_of.number) c.table.ensures)
    ∙ slice_get_read c.table.result.now (length c.table.result.now) c.in-Some-number_of.number c.in-Some-get.act.now refl
    (grind (arith, common_steps, c.in-Some-get.ensures.lookup)) c.in-Some-get.ensures.lookup.1 in
    subst (λ (cs : List Condition). HasAdded c.args.conditions.now.items cs c.grow_act.new.conditions.items c.grow_act.result)
    (sym (some_act_told c.args.labels.now.acts.now c.args.seat.level c.args.name.now c.in-Some.table c.in-Some.is c.in-Some-number_of.number number c.in-Some-get.act.now c.below-level.result c.below-level.ensures got))
    c.grow_act.ensures.added

pub grow_part-returns-in-Label-clause-grown : goal.grow_part-returns-in-Label-clause-grown
grow_part-returns-in-Label-clause-grown t c = rw (c.in-Label.is, diagram_of-label c.in-Label.name) c.grow_label.ensures.grown

pub grow-returns-in-Label-clause-grown : goal.grow-returns-in-Label-clause-grown
grow-returns-in-Label-clause-grown t c = rw (c.in-Label.is, diagram_of-label c.in-Label.name) c.grow_label.ensures.grown

pub grow_part-returns-in-Label-clause-added : goal.grow_part-returns-in-Label-clause-added
grow_part-returns-in-Label-clause-added t c = rw (c.in-Label.is, diagram_of-label c.in-Label.name) c.grow_label.ensures.added

pub grow-returns-in-Label-clause-added : goal.grow-returns-in-Label-clause-added
grow-returns-in-Label-clause-added t c = rw (c.in-Label.is, diagram_of-label c.in-Label.name) c.grow_label.ensures.added

pub grow-returns-in-Seq-clause-grown : goal.grow-returns-in-Seq-clause-grown
grow-returns-in-Seq-clause-grown t c =
    rw (c.in-Seq.is, diagram_of-seq c.in-Seq.parts)
    (rw (c.deref-in-Seq.ensures.value, c.deref.ensures) at c.grow_parts.ensures.grown)

pub grow-returns-in-Seq-clause-added : goal.grow-returns-in-Seq-clause-added
grow-returns-in-Seq-clause-added t c =
    rw (c.in-Seq.is, diagram_of-seq c.in-Seq.parts)
    (rw (c.deref-in-Seq.ensures.value, c.deref.ensures) at c.grow_parts.ensures.added)

pub grow-returns-in-Par-clause-grown : goal.grow-returns-in-Par-clause-grown
grow-returns-in-Par-clause-grown t c =
    rw (c.in-Par.is, diagram_of-par c.in-Par.parts)
    (rw (c.deref-in-Par-2.ensures.value, c.deref-in-Par.ensures) at c.grow_parts-in-Par.ensures.grown)

pub grow-returns-in-Par-clause-added : goal.grow-returns-in-Par-clause-added
grow-returns-in-Par-clause-added t c =
    rw (c.in-Par.is, diagram_of-par c.in-Par.parts)
    (rw (c.deref-in-Par-2.ensures.value, c.deref-in-Par.ensures) at c.grow_parts-in-Par.ensures.added)

pub grow-returns-in-Sel-clause-grown : goal.grow-returns-in-Sel-clause-grown
grow-returns-in-Sel-clause-grown t c =
    rw (c.in-Sel.is, diagram_of-sel c.in-Sel.choices c.in-Sel.last)
    (rw (c.deref-in-Sel-2.ensures.value, c.deref-in-Sel.ensures, c.deref-in-Sel-3.ensures) at c.grow_selection.ensures.grown)

pub grow-returns-in-Sel-clause-added : goal.grow-returns-in-Sel-clause-added
grow-returns-in-Sel-clause-added t c =
    rw (c.in-Sel.is, diagram_of-sel c.in-Sel.choices c.in-Sel.last)
    (rw (c.deref-in-Sel-2.ensures.value, c.deref-in-Sel.ensures, c.deref-in-Sel-3.ensures) at c.grow_selection.ensures.added)

pub grow-returns-in-Loop-clause-grown : goal.grow-returns-in-Loop-clause-grown
grow-returns-in-Loop-clause-grown t c =
    rw (c.in-Loop.is, diagram_of-loop c.in-Loop.turns c.in-Loop.turn)
    (rw c.deref-in-Loop.ensures at c.grow_loop.ensures.grown)

pub grow-returns-in-Loop-clause-added : goal.grow-returns-in-Loop-clause-added
grow-returns-in-Loop-clause-added t c =
    rw (c.in-Loop.is, diagram_of-loop c.in-Loop.turns c.in-Loop.turn)
    (rw c.deref-in-Loop.ensures at c.grow_loop.ensures.added)

pub grow_selection-returns-clause-grown : goal.grow_selection-returns-clause-grown
grow_selection-returns-clause-grown t c =
    let before = c.args.nodes.now.items in
    let conds = c.args.conditions.now.items in
    let acts = c.args.labels.now.acts.now in
    let level = c.args.seat.level in
    let told = told_from acts level in
    let named = named_from acts level c.args.seat.unit in
    let cs = cases_of (map (λ (choice : Condition × Chart). (choice.0, diagram_of choice.1)) c.args.choices.now) (diagram_of c.args.last.now) in
    let pushed = c.push_conditions.new.conditions.items in
    let pushed_is : pushed ≡ conds ++ conditions_of_cases cs =
    c.in-Ok.ensures ∙ ap (λ (xs : List Condition). conds ++ xs) (conditions-are c.args.choices.now (diagram_of c.args.last.now)) in
    let size : length pushed ≡ length conds + length (conditions_of_cases cs) = ap length pushed_is ∙ length-append conds (conditions_of_cases cs) in
    let head : plain_head kind.Sel c.len-first.result ≡ plain_head kind.Sel (length conds) = ap (λ m. plain_head kind.Sel m) (omega (arith, c.len-first.ensures)) in
    let below : ℕ → ℕ → List Entry = λ m n. grown_cases told named m (length pushed) n 0 cs in
    let same : below (length before + 1) (length before) ≡ grown_cases told named (length before + 1) (length conds + length (conditions_of_cases cs)) (length before) 0 cs =
    ap (λ m. grown_cases told named (length before + 1) m (length before) 0 cs) size in
    grown_as before c.finish.new.nodes.items (Ok _) (plain_head kind.Sel c.len-first.result) (plain_head kind.Sel (length conds)) (length before) c.args.seat.parent c.args.seat.child _ _ head same
    (node_grown before c.begin.new.nodes.items c.grow_choices.new.nodes.items c.finish.new.nodes.items (plain_head kind.Sel c.len-first.result) c.in_ok-node.node c.args.seat.parent c.args.seat.child
    below c.in_ok-node.ensures c.in_ok-grow_choices.ensures.grown c.finish.ensures)

pub grow_selection-returns-clause-added : goal.grow_selection-returns-clause-added
grow_selection-returns-clause-added t c =
    let conds = c.args.conditions.now.items in
    let acts = c.args.labels.now.acts.now in
    let level = c.args.seat.level in
    let told = told_from acts level in
    let cs = cases_of (map (λ (choice : Condition × Chart). (choice.0, diagram_of choice.1)) c.args.choices.now) (diagram_of c.args.last.now) in
    let pushed = c.push_conditions.new.conditions.items in
    let pushed_is : pushed ≡ conds ++ conditions_of_cases cs =
    c.in-Ok.ensures ∙ ap (λ (xs : List Condition). conds ++ xs) (conditions-are c.args.choices.now (diagram_of c.args.last.now)) in
    c.in_ok-grow_choices.ensures.added
    ∙ (ap (λ (xs : List Condition). xs ++ conditions_along_cases told cs) pushed_is ∙ append_assoc conds (conditions_of_cases cs) (conditions_along_cases told cs))

pub grow_selection-returns-in_err-grow_choices-clause-grown : goal.grow_selection-returns-in_err-grow_choices-clause-grown
grow_selection-returns-in_err-grow_choices-clause-grown t c =
    let before = c.args.nodes.now.items in
    let conds = c.args.conditions.now.items in
    let acts = c.args.labels.now.acts.now in
    let level = c.args.seat.level in
    let told = told_from acts level in
    let named = named_from acts level c.args.seat.unit in
    let cs = cases_of (map (λ (choice : Condition × Chart). (choice.0, diagram_of choice.1)) c.args.choices.now) (diagram_of c.args.last.now) in
    let pushed = c.push_conditions.new.conditions.items in
    let pushed_is : pushed ≡ conds ++ conditions_of_cases cs =
    c.in-Ok.ensures ∙ ap (λ (xs : List Condition). conds ++ xs) (conditions-are c.args.choices.now (diagram_of c.args.last.now)) in
    let size : length pushed ≡ length conds + length (conditions_of_cases cs) = ap length pushed_is ∙ length-append conds (conditions_of_cases cs) in
    let head : plain_head kind.Sel c.len-first.result ≡ plain_head kind.Sel (length conds) = ap (λ m. plain_head kind.Sel m) (omega (arith, c.len-first.ensures)) in
    let below : ℕ → ℕ → List Entry = λ m n. grown_cases told named m (length pushed) n 0 cs in
    let same : below (length before + 1) (length before) ≡ grown_cases told named (length before + 1) (length conds + length (conditions_of_cases cs)) (length before) 0 cs =
    ap (λ m. grown_cases told named (length before + 1) m (length before) 0 cs) size in
    let p = err_from_is_err_and c.from_residual-in_err-grow_choices.result c.from_residual-in_err-grow_choices.ensures.1 in
    let fault = c.in_err-grow_choices.field-0.0 in
    rw (p.1, p.2)
    (grown_as before c.grow_choices.new.nodes.items (Err fault) (plain_head kind.Sel c.len-first.result) (plain_head kind.Sel (length conds)) (length before) c.args.seat.parent c.args.seat.child _ _ head same
    (node_failed before c.begin.new.nodes.items c.grow_choices.new.nodes.items c.grow_choices.new.nodes.items (plain_head kind.Sel c.len-first.result) c.in_ok-node.node c.args.seat.parent c.args.seat.child
    below c.in_ok-node.ensures fault c.in_err-grow_choices.ensures.grown))

pub grow_loop-returns-clause-grown : goal.grow_loop-returns-clause-grown
grow_loop-returns-clause-grown t c =
    let before = c.args.nodes.now.items in
    let conds = c.args.conditions.now.items in
    let acts = c.args.labels.now.acts.now in
    let level = c.args.seat.level in
    let told = told_from acts level in
    let named = named_from acts level c.args.seat.unit in
    let d = diagram_of c.args.turn.now.1 in
    let pushed = c.push_condition.new.conditions.items in
    let pushed_is : pushed ≡ conds ++ c.args.turn.now.0 ∷ [] = c.in-Ok.ensures in
    let size : length pushed ≡ length conds + 1 = ap length pushed_is ∙ length-append conds (c.args.turn.now.0 ∷ []) in
    let head : plain_head (kind.Loop c.args.turns) c.len-number.result ≡ plain_head (kind.Loop c.args.turns) (length conds) = ap (λ m. plain_head (kind.Loop c.args.turns) m) (omega (arith, c.len-number.ensures)) in
    let below : ℕ → ℕ → List Entry = λ m n. grown told named m (length pushed) n 0 d in
    let same : below (length before + 1) (length before) ≡ grown told named (length before + 1) (length conds + 1) (length before) 0 d =
    ap (λ m. grown told named (length before + 1) m (length before) 0 d) size in
    grown_as before c.finish.new.nodes.items (Ok _) (plain_head (kind.Loop c.args.turns) c.len-number.result) (plain_head (kind.Loop c.args.turns) (length conds)) (length before) c.args.seat.parent c.args.seat.child _ _ head same
    (node_grown before c.begin.new.nodes.items c.grow.new.nodes.items c.finish.new.nodes.items (plain_head (kind.Loop c.args.turns) c.len-number.result) c.in_ok-node.node c.args.seat.parent c.args.seat.child
    below c.in_ok-node.ensures c.in_ok-grow.ensures.grown c.finish.ensures)

pub grow_loop-returns-clause-added : goal.grow_loop-returns-clause-added
grow_loop-returns-clause-added t c =
    let conds = c.args.conditions.now.items in
    let acts = c.args.labels.now.acts.now in
    let level = c.args.seat.level in
    let d = diagram_of c.args.turn.now.1 in
    let pushed = c.push_condition.new.conditions.items in
    let pushed_is : pushed ≡ conds ++ c.args.turn.now.0 ∷ [] = c.in-Ok.ensures in
    c.in_ok-grow.ensures.added
    ∙ (ap (λ (xs : List Condition). xs ++ chart_conditions acts level d) pushed_is ∙ append_assoc conds (c.args.turn.now.0 ∷ []) (chart_conditions acts level d))

pub grow_loop-returns-in_err-grow-clause-grown : goal.grow_loop-returns-in_err-grow-clause-grown
grow_loop-returns-in_err-grow-clause-grown t c =
    let before = c.args.nodes.now.items in
    let conds = c.args.conditions.now.items in
    let acts = c.args.labels.now.acts.now in
    let level = c.args.seat.level in
    let told = told_from acts level in
    let named = named_from acts level c.args.seat.unit in
    let d = diagram_of c.args.turn.now.1 in
    let pushed = c.push_condition.new.conditions.items in
    let pushed_is : pushed ≡ conds ++ c.args.turn.now.0 ∷ [] = c.in-Ok.ensures in
    let size : length pushed ≡ length conds + 1 = ap length pushed_is ∙ length-append conds (c.args.turn.now.0 ∷ []) in
    let head : plain_head (kind.Loop c.args.turns) c.len-number.result ≡ plain_head (kind.Loop c.args.turns) (length conds) = ap (λ m. plain_head (kind.Loop c.args.turns) m) (omega (arith, c.len-number.ensures)) in
    let below : ℕ → ℕ → List Entry = λ m n. grown told named m (length pushed) n 0 d in
    let same : below (length before + 1) (length before) ≡ grown told named (length before + 1) (length conds + 1) (length before) 0 d =
    ap (λ m. grown told named (length before + 1) m (length before) 0 d) size in
    let p = err_from_is_err_and c.from_residual-in_err-grow.result c.from_residual-in_err-grow.ensures.1 in
    let fault = c.in_err-grow.field-0.0 in
    rw (p.1, p.2)
    (grown_as before c.grow.new.nodes.items (Err fault) (plain_head (kind.Loop c.args.turns) c.len-number.result) (plain_head (kind.Loop c.args.turns) (length conds)) (length before) c.args.seat.parent c.args.seat.child _ _ head same
    (node_failed before c.begin.new.nodes.items c.grow.new.nodes.items c.grow.new.nodes.items (plain_head (kind.Loop c.args.turns) c.len-number.result) c.in_ok-node.node c.args.seat.parent c.args.seat.child
    below c.in_ok-node.ensures fault c.in_err-grow.ensures.grown))

pub grow_act-returns-in_ok-grow-in-Follows-clause-grown : goal.grow_act-returns-in_ok-grow-in-Follows-clause-grown
grow_act-returns-in_ok-grow-in-Follows-clause-grown t c =
    let before = c.args.nodes.now.items in
    let conds = c.args.conditions.now.items in
    let own : Head = record { kind = c.args.kind; needs = c.needs_count.result; detail = c.args.seat.unit } in
    let head : own ≡ act_head c.args.kind c.args.seat.unit c.args.act.now = ap (λ m. record { kind = c.args.kind; needs = m; detail = c.args.seat.unit }) c.needs_count.ensures in
    let below : ℕ → ℕ → List Entry = λ m n. chart_entries c.args.labels.now.acts.now c.args.seat.level c.args.seat.unit m (length conds) n 0 (diagram_of c.in-Follows.chart) in
    let g = grown_as before c.finish.new.nodes.items (Ok _) own (act_head c.args.kind c.args.seat.unit c.args.act.now) (length before) c.args.seat.parent c.args.seat.child _ _ head refl
    (node_grown before c.begin.new.nodes.items c.grow.new.nodes.items c.finish.new.nodes.items own c.in_ok-node.node c.args.seat.parent c.args.seat.child below c.in_ok-node.ensures c.in_ok-grow-in-Follows.ensures.grown c.finish.ensures) in
    (g.0 ∙ ap (λ (w : Work). before ++ topped (act_head c.args.kind c.args.seat.unit c.args.act.now) (length before) c.args.seat.parent c.args.seat.child (grown_work (told_from c.args.labels.now.acts.now c.args.seat.level) (named_from c.args.labels.now.acts.now c.args.seat.level c.args.seat.unit) (length before) (length conds) w)) (sym c.in-Follows.is), g.1)
