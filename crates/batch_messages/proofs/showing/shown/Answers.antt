use Rattle.std.proofs.Common.{sym, ◌∙◌, append_assoc, append-nil}
use Rattle.std.proofs.{lemmas.Str.IsUtf8-past_char, lemmas.Str.chars_past_char, StrCases.chars_of_empty}
use Rattle.batch_messages.proofs.ShownLines.{shown_step}
use Rattle.batch_messages.proofs.showing.shown.Goals as goal

pub loop-letter-preserved : goal.loop-letter-preserved
loop-letter-preserved c =
    let held = c.loop-letter.invariant in
    let parts = c.in-Some.ensures.steps.0 in
    let step = shown_step _ _ c.in-Some.letter (chars_past_char _ _ c.in-Some.letter held.0 parts) in
    (IsUtf8-past_char _ _ c.in-Some.letter held.0 parts, rw (c.in_ok-push_shown.ensures, append_assoc) (rw step at held.1))

pub returns : goal.returns
returns c = sym (append-nil _) ∙ rw (chars_of_empty _ c.in-None.ensures.steps.0.0) at c.loop-letter.invariant.1
