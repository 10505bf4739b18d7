use Rattle.std.proofs.Common.{rules, ◌≡◌, ◌++◌, ◌∷◌, [], length, length-append, ◌∙◌, ap, arith}
use Rattle.batch_journal.{specs.Journals.closing_mark, specs.Journals.closing_start, specs.Journals.is_time, proofs.GroupScan.to_end, proofs.GroupWrites.closes_so}
use Rattle.batch_journal.proofs.group.closes.Goals as goal

pub returns-then-starts_with : goal.returns-then-starts_with
returns-then-starts_with c =
    let sum = c.args.sum.now in
    let digits : length sum ≡ 16 = search rules in
    let size : 23 ≡ length (closing_start sum) = omega (arith, digits, length-append closing_mark (sum ++ 32 ∷ []), length-append sum (32 ∷ [])) in
    closes_so c.args.line.now c.closing_mark-mark.result (closing_start sum) 23 c.starts_with.result c.is_time.result
    c.closing_mark-mark.ensures size c.starts_with.ensures.value c.if-starts_with.true (c.is_time.ensures ∙ ap is_time (to_end c.args.line.now 23))
