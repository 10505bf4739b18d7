use Rattle.std.proofs.Common.{◌≡◌, ◌<◌, ◌+◌, ◌-◌, ◌%◌, ◌∙◌, ap, sym, subst, arith, position, nat_eq, length, Some, get_or, ℕ, List}
use Rattle.std.proofs.lemmas.{Grind.common_steps, Option.get_or_from_slice_get, Option.slice_get-get_or}
use Rattle.batch_engine.{specs.Batches.BatchList, specs.declared.batches.Entry.Entry, proofs.BinarySearch.found-at, proofs.BinarySearch.no_entry}
use Rattle.batch_engine.proofs.batches.Batches.guess.Goals as goal

pub returns-then-entry-number : goal.returns-then-entry-number
returns-then-entry-number c =
    let es : List Entry = c.self.inside.entries.items in
    let e : Entry = c.in_ok-entry.entry.now in
    let i : ℕ = (c.args.number + (18446744073709551616 - c.in_ok-first.first.now.number)) % 18446744073709551616 in
    let below : i < length c.deref-2.result.now = grind (arith, common_steps, c.in_ok-entry.ensures.lookup) in
    let within : i < length es = subst (λ (xs : List Entry). i < length xs) c.deref-2.ensures.value below in
    let here : e ≡ get_or es i e = subst (λ (xs : List Entry). e ≡ get_or xs i e) c.deref-2.ensures.value c.in_ok-entry.ensures.lookup.1 in
    let there : get_or es i no_entry ≡ e = get_or_from_slice_get es i e no_entry (slice_get-get_or es i e within ∙ ap (λ (x : Entry). Some x) (sym here)) in
    found-at es c.self.invariant.rising c.args.number i within (ap (λ (x : Entry). x.number) there ∙ c.if-entry-number.true)
    ∙ ap (λ (r : BatchList). position (λ n. nat_eq n c.args.number) r.numbers) c.self.view_is
