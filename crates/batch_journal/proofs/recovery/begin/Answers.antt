use Rattle.std.proofs.Common.{rules, ◌≡◌, refl, sym, ◌∙◌, ap}
use Rattle.batch_journal.{specs.Disks.Left, specs.Journals.header, specs.Journals.recovered, specs.Recovery.KeepsLines, proofs.RunsOfCalls.started, proofs.RunsOfCalls.goes_on, proofs.RecoveryLemmas.keeps_all, proofs.RecoveryLemmas.left_cut, proofs.RecoveryLemmas.left_header, proofs.RecoveryLemmas.header_lines, proofs.RecoveryLemmas.unbegun_lines}
use Rattle.batch_journal.proofs.recovery.begin.Goals as goal

pub returns-then-is_err-clause-any_moment : goal.returns-then-is_err-clause-any_moment
returns-then-is_err-clause-any_moment g c = λ d.
    let D = g.D.Disk in
    let old = c.args.disk.now in
    let documents = c.args.documents.now in
    let P : Left → Type 0 = KeepsLines documents (D.seen old) (D.given old) in
    started D.moment D.left_since old P (λ left since. keeps_all documents _ _ _ left (c.requires.synced d).0 (g.met.D.Disk.only_now old left d since))

pub returns-in_err-cut-clause-any_moment : goal.returns-in_err-cut-clause-any_moment
returns-in_err-cut-clause-any_moment g c = λ d1.
    let D = g.D.Disk in
    let old = c.args.disk.now in
    let documents = c.args.documents.now in
    let P : Left → Type 0 = KeepsLines documents (D.seen old) (D.given old) in
    let d = c.cut.ensures.stays d1 in
    let none = ap (recovered documents) (c.requires.synced d).1 ∙ unbegun_lines documents c.args.text.items c.requires.unbegun in
    let start = started D.moment D.left_since old P (λ left since. keeps_all documents _ _ _ left (c.requires.synced d).0 (g.met.D.Disk.only_now old left d since)) in
    goes_on D.moment D.left_since old old c.cut.new.self P _ start (c.cut.ensures.time d1) (λ left may. left_cut documents (D.seen old) none _ left may)

pub returns-in_err-append-clause-any_moment : goal.returns-in_err-append-clause-any_moment
returns-in_err-append-clause-any_moment g c = λ d2.
    let D = g.D.Disk in
    let old = c.args.disk.now in
    let documents = c.args.documents.now in
    let P : Left → Type 0 = KeepsLines documents (D.seen old) (D.given old) in
    let d1 = c.append.ensures.stays d2 in
    let d = c.cut.ensures.stays d1 in
    let none = ap (recovered documents) (c.requires.synced d).1 ∙ unbegun_lines documents c.args.text.items c.requires.unbegun in
    let start = started D.moment D.left_since old P (λ left since. keeps_all documents _ _ _ left (c.requires.synced d).0 (g.met.D.Disk.only_now old left d since)) in
    let one = goes_on D.moment D.left_since old old c.cut.new.self P _ start (c.cut.ensures.time d1) (λ left may. left_cut documents (D.seen old) none _ left may) in
    let cut = c.in_ok-cut.ensures.cut d1 in
    goes_on D.moment D.left_since old c.cut.new.self c.append.new.self P _ one (c.append.ensures.time d2)
    (λ left may. left_header documents (D.seen old) none _ _ _ _ _ _ left cut.1 cut.0 c.header_text-header.ensures refl (c.cut.ensures.given d1) may)

pub returns-in_err-sync-clause-any_moment : goal.returns-in_err-sync-clause-any_moment
returns-in_err-sync-clause-any_moment g c = λ d3.
    let D = g.D.Disk in
    let old = c.args.disk.now in
    let documents = c.args.documents.now in
    let P : Left → Type 0 = KeepsLines documents (D.seen old) (D.given old) in
    let d2 = c.sync.ensures.stays d3 in
    let d1 = c.append.ensures.stays d2 in
    let d = c.cut.ensures.stays d1 in
    let none = ap (recovered documents) (c.requires.synced d).1 ∙ unbegun_lines documents c.args.text.items c.requires.unbegun in
    let start = started D.moment D.left_since old P (λ left since. keeps_all documents _ _ _ left (c.requires.synced d).0 (g.met.D.Disk.only_now old left d since)) in
    let one = goes_on D.moment D.left_since old old c.cut.new.self P _ start (c.cut.ensures.time d1) (λ left may. left_cut documents (D.seen old) none _ left may) in
    let cut = c.in_ok-cut.ensures.cut d1 in
    let two = goes_on D.moment D.left_since old c.cut.new.self c.append.new.self P _ one (c.append.ensures.time d2)
    (λ left may. left_header documents (D.seen old) none _ _ _ _ _ _ left cut.1 cut.0 c.header_text-header.ensures refl (c.cut.ensures.given d1) may) in
    goes_on D.moment D.left_since old c.append.new.self c.sync.new.self P _ two (c.sync.ensures.time d3)
    (λ left may. left_header documents (D.seen old) none _ _ _ _ _ _ left ((c.in_ok-append.ensures.others d2).0 ∙ cut.1) cut.0 c.header_text-header.ensures (c.in_ok-append.ensures.written d2)
    (c.append.ensures.given d2 ∙ c.cut.ensures.given d1) may)

pub returns-clause-any_moment : goal.returns-clause-any_moment
returns-clause-any_moment g c = λ d3.
    let D = g.D.Disk in
    let old = c.args.disk.now in
    let documents = c.args.documents.now in
    let P : Left → Type 0 = KeepsLines documents (D.seen old) (D.given old) in
    let d2 = c.sync.ensures.stays d3 in
    let d1 = c.append.ensures.stays d2 in
    let d = c.cut.ensures.stays d1 in
    let none = ap (recovered documents) (c.requires.synced d).1 ∙ unbegun_lines documents c.args.text.items c.requires.unbegun in
    let start = started D.moment D.left_since old P (λ left since. keeps_all documents _ _ _ left (c.requires.synced d).0 (g.met.D.Disk.only_now old left d since)) in
    let one = goes_on D.moment D.left_since old old c.cut.new.self P _ start (c.cut.ensures.time d1) (λ left may. left_cut documents (D.seen old) none _ left may) in
    let cut = c.in_ok-cut.ensures.cut d1 in
    let two = goes_on D.moment D.left_since old c.cut.new.self c.append.new.self P _ one (c.append.ensures.time d2)
    (λ left may. left_header documents (D.seen old) none _ _ _ _ _ _ left cut.1 cut.0 c.header_text-header.ensures refl (c.cut.ensures.given d1) may) in
    goes_on D.moment D.left_since old c.append.new.self c.sync.new.self P _ two (c.sync.ensures.time d3)
    (λ left may. left_header documents (D.seen old) none _ _ _ _ _ _ left ((c.in_ok-append.ensures.others d2).0 ∙ cut.1) cut.0 c.header_text-header.ensures (c.in_ok-append.ensures.written d2)
    (c.append.ensures.given d2 ∙ c.cut.ensures.given d1) may)

pub returns-clause-lines : goal.returns-clause-lines
returns-clause-lines g c = λ d3.
    let documents = c.args.documents.now in
    let d = c.cut.ensures.stays (c.append.ensures.stays (c.sync.ensures.stays d3)) in
    let text : c.extend_from_slice.new.self.items ≡ header documents = search rules in
    ap (recovered documents) text ∙ header_lines documents ∙ sym (ap (recovered documents) (c.requires.synced d).1 ∙ unbegun_lines documents c.args.text.items c.requires.unbegun)
