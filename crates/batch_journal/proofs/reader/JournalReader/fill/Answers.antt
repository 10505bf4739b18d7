use Rattle.std.proofs.Common.{◌≡◌, ◌≤◌, ℕ, List, ◌++◌, length, take, refl, sym, ◌∙◌, ap, arith}
use Rattle.std.proofs.lemmas.List.{length-take-le}
use Rattle.batch_journal.{specs.Windows.items, proofs.PendingLines.group_front, proofs.PendingLines.ready_either, proofs.PendingLines.within_either, proofs.ReaderLemmas.none_of, proofs.ReaderLemmas.keeps_more, proofs.ReaderLemmas.accounted_keeps}
use Rattle.batch_journal.proofs.reader.JournalReader.fill.Goals as goal

pub invariant_of-self-then-end-eq0 : goal.invariant_of-self-then-end-eq0
invariant_of-self-then-end-eq0 g c =
    let now = c.args.self.now in
    let ok = c.in_ok-count.ensures.ok in
    let none : now.groups.ready ≡ 0 = omega (arith, c.if-self-gt0.false) in
    record {
      within = omega (arith, none);
      ready = λ d f. now.ready d f ∙ none_of _ _ none ∙ sym (none_of _ _ none);
      accounted = λ d. accounted_keeps _ _ _ _ _ refl (keeps_more _ _ _ _ _ (ok.2 ∙ ap (λ l. l ++ ok.0) c.move_to_front.ensures.items) ok.3) (now.accounted d);
    }

pub returns-then-end-eq0-clause-keeps : goal.returns-then-end-eq0-clause-keeps
returns-then-end-eq0-clause-keeps g c =
    let ok = c.in_ok-count.ensures.ok in keeps_more _ _ _ _ _ (ok.2 ∙ ap (λ l. l ++ ok.0) c.move_to_front.ensures.items) ok.3

pub invariant_of-self-then-has_own : goal.invariant_of-self-then-has_own
invariant_of-self-then-has_own g c =
    let now = c.args.self.now in
    let ok = c.in_ok-count.ensures.ok in
    let none : now.groups.ready ≡ 0 = omega (arith, c.if-self-gt0.false) in
    record {
      within = omega (arith, none);
      ready = λ d f. now.ready d f ∙ none_of _ _ none ∙ sym (none_of _ _ none);
      accounted = λ d. accounted_keeps _ _ _ _ _ refl (keeps_more _ _ _ _ _ (ok.2 ∙ ap (λ l. l ++ ok.0) c.move_to_front.ensures.items) ok.3) (now.accounted d);
    }

pub returns-then-has_own-clause-keeps : goal.returns-then-has_own-clause-keeps
returns-then-has_own-clause-keeps g c =
    let ok = c.in_ok-count.ensures.ok in keeps_more _ _ _ _ _ (ok.2 ∙ ap (λ l. l ++ ok.0) c.move_to_front.ensures.items) ok.3

pub write-requires-clause-lines : goal.write-requires-clause-lines
write-requires-clause-lines g c = record { whole = group_front _ _ c.end_of-end.ensures.text; others = c.has_own.ensures c.if-has_own.false }

pub invariant_of-self-2 : goal.invariant_of-self-2
invariant_of-self-2 g c =
    let now = c.args.self.now in
    let ok = c.in_ok-count.ensures.ok in
    let end = c.end_of-end.result in
    let bytes = c.as_slice-bytes.result.now in
    let bytes_are = c.as_slice-bytes.ensures.value in
    let groups = c.write.new.self in
    let fits : length (take end bytes) ≤ length (items c.read_from.new.self) = omega (arith, length-take-le end bytes c.end_of-end.ensures.within, c.end_of-end.ensures.within, ap (λ (l : List ℕ). length l) bytes_are) in
    record {
      within = within_either c.write.result groups.ready groups.failed (take end bytes) (items c.read_from.new.self) c.write.ensures.ready c.write.ensures.failed groups.none_ready fits;
      ready = λ d f. ready_either c.write.result groups.ready groups.failed bytes (items c.read_from.new.self) _ end bytes_are c.end_of-end.ensures.within
          c.write.ensures.ready c.write.ensures.failed (c.write.ensures.lines d) f;
      accounted = λ d. accounted_keeps _ _ _ _ _ (c.write.ensures.given d) (keeps_more _ _ _ _ _ (ok.2 ∙ ap (λ l. l ++ ok.0) c.move_to_front.ensures.items) ok.3) (now.accounted (c.write.ensures.stays d));
    }

pub returns-in_err-write-clause-keeps : goal.returns-in_err-write-clause-keeps
returns-in_err-write-clause-keeps g c =
    let ok = c.in_ok-count.ensures.ok in keeps_more _ _ _ _ _ (ok.2 ∙ ap (λ l. l ++ ok.0) c.move_to_front.ensures.items) ok.3

pub returns-clause-keeps : goal.returns-clause-keeps
returns-clause-keeps g c =
    let ok = c.in_ok-count.ensures.ok in keeps_more _ _ _ _ _ (ok.2 ∙ ap (λ l. l ++ ok.0) c.move_to_front.ensures.items) ok.3
