use Rattle.std.proofs.Common.{subst}
use Rattle.batch_journal.{specs.Disks.Left, specs.Disks.MayLeave, specs.Recovery.IsJournalUnbegun, specs.Recovery.KeepsLines, proofs.RecoveryLemmas.keeps_all, proofs.RecoveryLemmas.keeps_same, proofs.RunsOfCalls.started, proofs.RunsOfCalls.goes_on, proofs.RunsOfCalls.then_run}
use Rattle.batch_journal.proofs.recovery.recover.Goals as goal

pub returns-in_err-text-clause-any_moment : goal.returns-in_err-text-clause-any_moment
returns-in_err-text-clause-any_moment g c = λ d1.
    let d = c.read.ensures.stays d1 in
    let D = g.D.Disk in
    let old = c.args.disk.now in
    let documents = c.args.documents.now in
    let P : Left → Type 0 = KeepsLines documents (D.seen old) (D.given old) in
    let here : (left : Left) → MayLeave (D.durable old) (D.seen old) (D.given old) left → P left = λ left may. keeps_all documents _ _ _ left (c.requires d) may in
    goes_on D.moment D.left_since old old c.read.new.self P _ (started D.moment D.left_since old P (λ left since. here left (g.met.D.Disk.only_now old left d since))) (c.read.ensures.time d1) here

pub returns-in_err-taken-clause-any_moment : goal.returns-in_err-taken-clause-any_moment
returns-in_err-taken-clause-any_moment g c = λ d1.
    let d = c.read.ensures.stays d1 in
    let D = g.D.Disk in
    let old = c.args.disk.now in
    let documents = c.args.documents.now in
    let P : Left → Type 0 = KeepsLines documents (D.seen old) (D.given old) in
    let here : (left : Left) → MayLeave (D.durable old) (D.seen old) (D.given old) left → P left = λ left may. keeps_all documents _ _ _ left (c.requires d) may in
    goes_on D.moment D.left_since old old c.read.new.self P _ (started D.moment D.left_since old P (λ left since. here left (g.met.D.Disk.only_now old left d since))) (c.read.ensures.time d1) here

pub returns-in-Some-clause-any_moment : goal.returns-in-Some-clause-any_moment
returns-in-Some-clause-any_moment g c = λ d2.
    let d1 = c.cut_behind.ensures.stays d2 in
    let d = c.read.ensures.stays d1 in
    let D = g.D.Disk in
    let old = c.args.disk.now in
    let documents = c.args.documents.now in
    let P : Left → Type 0 = KeepsLines documents (D.seen old) (D.given old) in
    let here : (left : Left) → MayLeave (D.durable old) (D.seen old) (D.given old) left → P left = λ left may. keeps_all documents _ _ _ left (c.requires d) may in
    let one = goes_on D.moment D.left_since old old c.read.new.self P _ (started D.moment D.left_since old P (λ left since. here left (g.met.D.Disk.only_now old left d since))) (c.read.ensures.time d1) here in
    then_run D.moment D.left_since old c.read.new.self c.cut_behind.new.disk P _ one (c.cut_behind.ensures.any_moment d2) (λ left so. keeps_same documents _ _ _ _ left (c.read.ensures.others d1).1 (c.read.ensures.others d1).2 so)

pub returns-in-None-clause-any_moment : goal.returns-in-None-clause-any_moment
returns-in-None-clause-any_moment g c = λ d2.
    let d1 = c.begin.ensures.stays d2 in
    let d = c.read.ensures.stays d1 in
    let D = g.D.Disk in
    let old = c.args.disk.now in
    let documents = c.args.documents.now in
    let P : Left → Type 0 = KeepsLines documents (D.seen old) (D.given old) in
    let here : (left : Left) → MayLeave (D.durable old) (D.seen old) (D.given old) left → P left = λ left may. keeps_all documents _ _ _ left (c.requires d) may in
    let one = goes_on D.moment D.left_since old old c.read.new.self P _ (started D.moment D.left_since old P (λ left since. here left (g.met.D.Disk.only_now old left d since))) (c.read.ensures.time d1) here in
    then_run D.moment D.left_since old c.read.new.self c.begin.new.disk P _ one (c.begin.ensures.any_moment d2) (λ left so. keeps_same documents _ _ _ _ left (c.read.ensures.others d1).1 (c.read.ensures.others d1).2 so)

pub begin-requires-clause-unbegun : goal.begin-requires-clause-unbegun
begin-requires-clause-unbegun g c =
    let found : IsJournalUnbegun c.args.documents.now c.deref.result.now = let ok = c.in_ok-taken.ensures.ok in rw c.in-None.is at ok in
    subst (IsJournalUnbegun c.args.documents.now) c.deref.ensures.value found
