use Rattle.std.proofs.Common.{inl, sym, ◌∙◌, refl}
use Rattle.std.proofs.{Math.Logic.∥∥₁_elim, Props.props}
use Rattle.batch_journal.{proofs.ReaderLemmas.begun_before, proofs.FilesWithoutRefusal.not_refused, specs.Recovery.HasNoFault}
use Rattle.batch_program.proofs.{DesksOverJournal.desks_told, DesksOverJournal.desks_told_as, RunsOverJournal.kept_started, RunsOverJournal.moments_as, RunsOverJournal.no_fault_prop, RunsOverJournal.none_whole, RunsOverJournal.start_refused, RunsOverJournal.told_refused, RunsOverJournal.untouched_of}
use Rattle.batch_program.proofs.desk_keeping.serve_file.Goals as goal

pub serve_behind-requires-clause-at_rest : goal.serve_behind-requires-clause-at_rest
serve_behind-requires-clause-at_rest g c = λ d.
    let rests = c.in-Ok.ensures.at_rest d in
    rw c.text.ensures.digits (kept_started _ _ rests.0 _ _ _ _ (g.D.Disk.seen c.args.disk) _ rests.1 rests.2 c.requires.base (c.start_desks.ensures.given d) (c.requires.fresh (c.start_desks.ensures.stays d)).1)

pub serve_behind-requires-clause-whole : goal.serve_behind-requires-clause-whole
serve_behind-requires-clause-whole g c = λ d. none_whole _ (c.start_desks.ensures.given d ∙ (c.requires.fresh (c.start_desks.ensures.stays d)).1)

pub serve_behind-requires-clause-recalled : goal.serve_behind-requires-clause-recalled
serve_behind-requires-clause-recalled g c = λ d.
    moments_as (sym c.text.ensures.digits) refl refl (begun_before g.D.Disk.moment g.D.Disk.left_since _ _ _ _ _ _ _ (c.start_desks.ensures.any_moment d) c.requires.since c.requires.base (c.requires.fresh (c.start_desks.ensures.stays d)).1)

pub returns-in-Err : goal.returns-in-Err
returns-in-Err g c =
    record {
      any_moment = λ d. begun_before g.D.Disk.moment g.D.Disk.left_since _ _ _ _ _ _ _ (c.start_desks.ensures.any_moment d) refl refl (c.requires.fresh (c.start_desks.ensures.stays d)).1;
      told = told_refused _ _ _ _ _ _ _ _ _ c.in-Err.fault (λ refusal is d. start_refused c.args.served.digested.documents.text (g.D.Disk.seen c.args.disk) c.start_desks.result c.in-Err.fault refusal c.in-Err.is is (c.start_desks.ensures.refused d))
          c.refuse_start-status.ensures;
      untouched = λ d. untouched_of _ _ _ (c.start_desks.ensures.untouched d);
    }

pub returns-in-Ok : goal.returns-in-Ok
returns-in-Ok g c =
    let blocks = c.in-Ok.ensures.blocks in
    let digits = c.args.served.digested.documents.text in
    let behind = c.serve_behind.ensures in
    let taken : g.D.Disk.is_disk c.serve_behind.result.1 → HasNoFault digits (g.D.Disk.seen c.args.disk) =
    λ d. ∥∥₁_elim (behind.stays d) (no_fault_prop digits (g.D.Disk.seen c.args.disk)) (λ was. not_refused digits (g.D.Disk.seen c.args.disk) (c.in-Ok.ensures.taken was)) in
    record {
      untouched = λ d. inl (taken d);
      any_moment = λ d. moments_as c.text.ensures.digits c.requires.base c.requires.since (behind.any_moment d);
      told = desks_told _ _ _ _ _ _ _ _ _ _ blocks.0 _ _ taken (λ d. ∥∥₁_elim (behind.stays d) (search props) (λ was. blocks.2 was)) blocks.1.output
          (desks_told_as _ _ _ _ _ _ _ _ _ _ _ _ c.in-Ok.ensures.cleared c.deref.ensures.value
          (λ d. ∥∥₁_elim (behind.stays d) (search props) (λ was. c.start_desks.ensures.given was ∙ (c.requires.fresh (c.start_desks.ensures.stays was)).1)) behind.told);
    }
