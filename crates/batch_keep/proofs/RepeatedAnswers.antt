-- The written answers are written again.
use Rattle.std.proofs.Common.{◌≡◌, ℕ, List, [], ◌∷◌, ◌++◌, take, drop, take-append-drop, Option, Some, refl, sym, ◌∙◌, ap, subst, append_assoc}
use Rattle.std.{proofs.lemmas.List.append-nil, proofs.lemmas.List.append_cancel_left, specs.Io.KnownBytes.Appends, specs.Io.KnownBytes.append_known}
use Rattle.batch_model.specs.Plant.{Setup, Plant}
use Rattle.batch_wire.specs.Transcript.{Transcript}
use Rattle.batch_serve.specs.{Held.TellsClear, Replays.WantIsNotTold}
use Rattle.batch_journal.specs.{Disks.Left, Disks.MayLeave, Journals.recovered, Lines.AreLines, Lines.text_of, Readers.StartsText, Readers.LinesBegin, Recovery.RecoveredAreLines}
use Rattle.batch_keep.specs.Told.{TellsLines, IsToldAgain, IsNeverLost}

pub text_both : (a b : List (List ℕ)) → text_of (a ++ b) ≡ text_of a ++ text_of b
text_both [] b = refl
text_both (line ∷ a) b = ap (λ l. line ++ 10 ∷ l) (text_both a b) ∙ sym (append_assoc line (10 ∷ text_of a) (text_of b))

pub lines_both : (a b : List (List ℕ)) → AreLines a → AreLines b → AreLines (a ++ b)
lines_both [] b are others = others
lines_both (line ∷ a) b are others = (are.0, lines_both a b are.1 others)

-- a file that a crash may leave, it may leave with all bytes given
pub all_given : (durable seen given : List ℕ) (left : Left) → MayLeave durable seen given left → MayLeave durable seen given (record { file = left.file; given = given })
all_given durable seen given left may = record { disk = may.disk; output = record { rest = []; splits = sym (append-nil given) } }

known : (before after : Option (List ℕ)) (held now written : List ℕ) → before ≡ Some held → after ≡ Some now → Appends before after written → now ≡ held ++ written
known before after held now written is_before is_after appends =
    subst (λ (x : Option (List ℕ)). Appends (Some held) x written) is_after (subst (λ (x : Option (List ℕ)). Appends x after written) is_before appends)

pub again : (c : Setup) (old : Plant) (documents base start durable seen given : List ℕ) (before after : Option (List ℕ)) → RecoveredAreLines → LinesBegin → WantIsNotTold
    → base ≡ text_of (recovered documents start) → TellsLines c old given before after
    → ((left : Left) → MayLeave durable seen given left → StartsText (base ++ given) (text_of (recovered documents left.file)))
    → IsToldAgain c old documents start durable seen given before after
again c old documents base start durable seen given before after are begin law base_is tells recalls first last replayed whole left held told rest t shows is_before is_after ends shows2 may tw shows3 =
    let b = recovered documents start in
    let lines = tells.lines in
    let count = tells.count in
    let file = recovered documents left.file in
    let text : base ++ given ≡ text_of (b ++ lines) = ap (λ l. l ++ given) base_is ∙ ap (λ l. text_of b ++ l) tells.given_is ∙ sym (text_both b lines) in
    let found = begin documents (b ++ lines) left.file (lines_both b lines (are documents start) tells.are_lines)
    (subst (λ l. StartsText l (text_of file)) text (recalls left may)) in
    let split : file ≡ b ++ (take count lines ++ (drop count lines ++ found.0)) =
    found.1 ∙ append_assoc b lines found.0 ∙ ap (λ l. b ++ (l ++ found.0)) (sym (take-append-drop count lines)) ∙ ap (λ l. b ++ l) (append_assoc (take count lines) (drop count lines) found.0) in
    let begins = tells.begins.begins in
    let written : held ++ (told ++ rest) ≡ held ++ begins.written = known before after held (held ++ (told ++ rest)) begins.written is_before is_after begins.appends in
    let same : begins.written ≡ told ++ rest = append_cancel_left held begins.written (told ++ rest) (sym written) in
    law c first old tells.begins.new last b (take count lines) (drop count lines ++ found.0) replayed tells.begins.said whole told (rest ++ begins.rest) t shows
    tells.begins.transcript (begins.splits ∙ ap (λ l. l ++ begins.rest) same ∙ append_assoc told rest begins.rest) ends shows2
    (subst (λ l. Transcript c first l whole last) split tw) shows3

none_added : (known : Option (List ℕ)) (held : List ℕ) → known ≡ Some held → append_known known [] ≡ Some held
none_added known held is = ap (λ (k : Option (List ℕ)). append_known k []) is ∙ ap Some (append-nil held)

pub never_lost : (c : Setup) (old : Plant) (documents start durable seen given : List ℕ) (first before after taken : Option (List ℕ)) → before ≡ append_known first []
    → ((held : List ℕ) → first ≡ Some held → TellsClear held after taken) → IsToldAgain c old documents start durable seen given before taken
    → IsNeverLost c old documents start durable seen given first after
never_lost c old documents start durable seen given first before after taken is clears told_again one last replayed whole left held t shows known may tw shows2 =
    let clear = clears held known in
    let told = clear.told in
    let found = told_again one last replayed whole left held (told ++ clear.waiting) clear.rest t shows (is ∙ none_added first held known) clear.was_taken clear.whole clear.shows may tw shows2 in (
      told,
      clear.has_told,
      record {
        rest = clear.waiting ++ found.rest;
        splits = found.splits ∙ ap (λ l. l ++ found.rest) (sym (append_assoc replayed.text told clear.waiting)) ∙ append_assoc (replayed.text ++ told) clear.waiting found.rest;
      },
    )
