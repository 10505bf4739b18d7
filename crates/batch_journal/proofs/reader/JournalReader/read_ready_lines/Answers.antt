use Rattle.std.proofs.Common.{◌≡◌, ◌≤◌, ℕ, List, ◌++◌, length, take, ◌∙◌, ap, arith}
use Rattle.std.proofs.lemmas.List.{length-take-le}
use Rattle.batch_journal.{specs.Windows.items, proofs.PendingLines.ready_rest, proofs.PendingLines.whole_front, proofs.PendingLines.within_rest, proofs.ReaderLemmas.accounted_as, proofs.ReaderLemmas.accounted_gives, proofs.ReaderLemmas.gives_front, proofs.ReaderLemmas.part_within, proofs.ReaderLemmas.least_above, proofs.ReaderLemmas.not_failed}
use Rattle.batch_journal.proofs.reader.JournalReader.read_ready_lines.Goals as goal

pub mark_given-requires-clause-whole : goal.mark_given-requires-clause-whole
mark_given-requires-clause-whole g c =
    whole_front c.as_slice-bytes.result.now c.end_of-count.result c.min-fits.result (part_within _ c.min-fits.result c.as_slice-bytes.result.now c.end_of-count.ensures.within) c.end_of-count.ensures.text

pub invariant_of-self-2 : goal.invariant_of-self-2
invariant_of-self-2 g c =
    let now = c.args.self.now in
    let works = not_failed now.groups.failed now.groups.ready now.groups.none_ready c.if-self-eq0.false in
    let count = c.end_of-count.result in
    let bytes = c.as_slice-bytes.result.now in
    let value = c.as_slice-bytes.ensures.value in
    let within : count ≤ now.groups.ready = least_above count c.min-fits.result _ _ (part_within _ c.min-fits.result bytes c.end_of-count.ensures.within) c.min-fits.ensures in
    let size : length (take count bytes) ≡ count = length-take-le count bytes (omega (arith, within, now.within, ap (λ (l : List ℕ). length l) value)) in
    record {
      within = within_rest (items now.window) _ (take count bytes) count now.groups.ready _ size c.in_ok-mark_given.ensures.ready.1 now.within c.consume.ensures;
      ready = λ d f. ready_rest (items now.window) _ _ _ (take count bytes) count now.groups.ready _ within (now.ready (c.mark_given.ensures.stays d) works) size (c.in_ok-mark_given.ensures.rest d)
          c.in_ok-mark_given.ensures.ready.1 c.consume.ensures;
      accounted = λ d.
          let given_is = c.in_ok-mark_given.ensures.given d ∙ ap (λ l. g.D.Disk.given now.groups.disk ++ take count l) value in
          accounted_as _ _ _ _ _ c.consume.ensures (accounted_gives _ _ _ (items now.window) count _ given_is (now.accounted (c.mark_given.ensures.stays d)));
    }

pub returns-clause-bytes : goal.returns-clause-bytes
returns-clause-bytes g c =
    let now = c.args.self.now in
    let count = c.end_of-count.result in
    let bytes = c.as_slice-bytes.result.now in
    let within : count ≤ now.groups.ready = least_above count c.min-fits.result _ _ (part_within _ c.min-fits.result bytes c.end_of-count.ensures.within) c.min-fits.ensures in
    let put_is = c.copy_from_slice.ensures.after ∙ ap (λ (l : List ℕ). take count l) c.as_slice-bytes.ensures.value in (
      gives_front (items now.window) _ _ c.args.buf.now count _ (omega (arith, within, now.within)) put_is c.consume.ensures,
      λ none room. absurd (c.if-count-eq0.false none),
    )
