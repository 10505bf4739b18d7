use Rattle.std.proofs.Common.{◌≡◌, ◌∙◌, List, Some, ap, sym, subst}
use Rattle.std.specs.Prelude.{option_copied}
use Rattle.batch_recipe.specs.{Outlines.act_of_kind, declared.act.Act.Act}
use Rattle.batch_set.specs.declared.linked.LinkedNeed.{LinkedNeed}
use Rattle.batch_verify.{specs.PassedSteps.HasPassed, specs.Spans.IsPassed, proofs.PassedSteps.AreNoted-with, proofs.PassedSteps.IsPassed-known}
use Rattle.batch_verify.proofs.span.span_below.Goals as goal

pub returns-in-Some-known_below-clause-act : goal.returns-in-Some-known_below-clause-act
returns-in-Some-known_below-clause-act c = λ a is.
    let low = c.args.low.now in
    IsPassed-known low.cell.now (option_copied low.ranks) c.args.roles.now low.acts.now low.linked.now low.takers.now c.args.highest.now c.args.passed.now c.args.entry.now.kind
    c.args.above c.in-Some-known_below.within c.requires c.in-Some-known_below.ensures a is

pub returns-clause-noted : goal.returns-clause-noted
returns-clause-noted c =
    let low = c.args.low.now in
    let k = c.args.entry.now.kind in
    let P = HasPassed low.cell.now (option_copied low.ranks) c.args.roles.now low.acts.now low.linked.now low.takers.now c.args.highest.now in
    let own : (a : Act) → act_of_kind low.acts.now k ≡ Some a → c.in-Some.act.now ≡ a = λ a is. let both : Some c.in-Some.act.now ≡ Some a = sym (ap option_copied c.in-Some.is) ∙ (c.act.ensures ∙ is) in cc in
    rw c.note_passed.ensures (AreNoted-with P c.args.passed.now k (record { above = c.args.above; within = c.in_ok-within.within }) c.requires (λ a is.
    subst (λ (links : List LinkedNeed). IsPassed low.cell.now (option_copied low.ranks) c.args.roles.now low.takers.now c.args.highest.now links a c.args.above c.in_ok-within.within) c.needs-needs.ensures
    (subst (λ (b : Act). IsPassed low.cell.now (option_copied low.ranks) c.args.roles.now low.takers.now c.args.highest.now c.needs-needs.result.now b c.args.above c.in_ok-within.within) (own a is)
    c.in_ok-within.ensures)))
