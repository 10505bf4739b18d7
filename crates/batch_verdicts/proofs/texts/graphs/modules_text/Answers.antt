use Rattle.std.proofs.Common.{◌<◌, ◌++◌, ◌∙◌, [], length, ap, rules, string_bytes}
use Rattle.batch_verdicts.specs.GraphTexts.{module_text}
use Rattle.batch_verdicts.proofs.texts.graphs.modules_text.Goals as goal
use Rattle.batch_outline.proofs.LineSeats.{texts_more}

pub loop-one-preserved : goal.loop-one-preserved
loop-one-preserved c =
    let modules = c.args.modules.now in
    let within : c.loop-one.one-index < length modules = search rules in
    c.in_ok-push_str.ensures.bytes ∙ ap (λ text. string_bytes c.loop-one.text ++ text) (c.deref.ensures ∙ c.in_ok-more.ensures)
    ∙ ap (λ text. text ++ module_text c.one-item.result) c.loop-one.invariant
    ∙ texts_more module_text [] modules c.loop-one.one-index c.one-item.result c.one-item.result within c.one-item.is
