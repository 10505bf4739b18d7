use Rattle.std.proofs.Common.{◌++◌, ◌∙◌, ap, string_bytes}
use Rattle.batch_messages.proofs.sets.mended_said.Goals as goal

pub returns : goal.returns
returns c =
    let words = string_bytes c.in_ok-said.said in
    (words, string_bytes c.in_ok-more.more, c.in_ok-said.ensures, c.in_ok-push_str.ensures.bytes ∙ ap (λ text. words ++ text) c.deref.ensures)
