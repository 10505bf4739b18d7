use Rattle.std.proofs.Common.{rules, ◌≡◌, ◌+◌, ◌≤◌, length, drop, subst, arith}
use Rattle.batch_journal.{specs.Journals.header, specs.Journals.sum_text, specs.Recovery.AreGroupsTaken, specs.Recovery.ClosesTwice, specs.Recovery.closing_count, specs.Recovery.raw_lines, proofs.GroupScan.to_end, proofs.RecoveryLemmas.header_size, proofs.RecoveryLemmas.begins_so, proofs.RecoveryLemmas.stands_to, proofs.RecoveryLemmas.damaged_to}
use Rattle.batch_journal.proofs.recovery.standing_of.Goals as goal

pub returns-in-None-clause-ok : goal.returns-in-None-clause-ok
returns-in-None-clause-ok c =
    let documents = c.args.documents.now in
    let bytes = c.args.bytes.now in
    let taken = c.end_of_groups-taken.result in
    let size : 84 ≡ length (header documents) = header_size documents (search rules) in
    let begins = begins_so documents bytes c.header_text-header.result c.starts_with.result c.header_text-header.ensures size c.starts_with.ensures.value c.if-not-starts_with.false in
    let found : AreGroupsTaken documents (drop 84 bytes) taken.end (sum_text taken.sum) = subst (λ l. AreGroupsTaken documents l taken.end (sum_text taken.sum)) (to_end bytes 84) c.end_of_groups-taken.ensures in
    let few = subst (λ l. closing_count l ≤ 1) (to_end bytes (84 + taken.end)) c.in-None.ensures.found in
    stands_to documents bytes (sum_text taken.sum) 84 taken.end size begins found few

pub returns-in-Some-clause-refused : goal.returns-in-Some-clause-refused
returns-in-Some-clause-refused c =
    let documents = c.args.documents.now in
    let bytes = c.args.bytes.now in
    let taken = c.end_of_groups-taken.result in
    let size : 84 ≡ length (header documents) = header_size documents (search rules) in
    let begins = begins_so documents bytes c.header_text-header.result c.starts_with.result c.header_text-header.ensures size c.starts_with.ensures.value c.if-not-starts_with.false in
    let found : AreGroupsTaken documents (drop 84 bytes) taken.end (sum_text taken.sum) = subst (λ l. AreGroupsTaken documents l taken.end (sum_text taken.sum)) (to_end bytes 84) c.end_of_groups-taken.ensures in
    let behind = subst (λ l. (twice : ClosesTwice (raw_lines l)) × (c.in-Some.before ≡ length twice.front)) (to_end bytes (84 + taken.end)) c.in-Some.ensures.found in
    damaged_to documents bytes (sum_text taken.sum) 84 taken.end size begins found _ behind.0 (omega (arith, c.line_count.ensures.count, behind.1))
