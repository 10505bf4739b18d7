use Rattle.std.proofs.Common.{rules, ◌≡◌, ℕ, List, length, false, ◌∙◌, ap}
use Rattle.batch_journal.specs.Journals.{recovered}
use Rattle.batch_keep.{specs.Counts.own_lines, proofs.CountedLines.count_of_desk}
use Rattle.batch_keep.proofs.counting.own_count.Goals as goal

pub returns : goal.returns
returns c =
    let name : c.as_bytes.result.now ≡ c.args.name.now = search rules in
    c.count.ensures ∙ count_of_desk _ false _ ∙ ap (λ (n : List ℕ). length (own_lines n (recovered c.args.documents.now c.args.text.now))) name
