use Rattle.std.proofs.Common.{inl, sym, ◌∙◌, refl}
use Rattle.std.proofs.{Math.Logic.∥∥₁_elim, Props.props}
use Rattle.batch_journal.{proofs.ReaderLemmas.begun_before, specs.Recovery.HasNoFault, proofs.FilesWithoutRefusal.not_refused}
use Rattle.batch_program.proofs.RunsOverJournal.{kept_started, moments_as, no_fault_prop, none_accounted, none_whole, start_refused, told_as, told_behind, told_refused, untouched_of}
use Rattle.batch_program.proofs.keeping.serve_file.Goals as goal

pub serve_behind-requires-clause-at_rest : goal.serve_behind-requires-clause-at_rest
serve_behind-requires-clause-at_rest g c = λ d.
    let rests = c.in-Ok.ensures.at_rest d in
    rw c.text.ensures.digits (kept_started _ _ rests.0 _ _ _ _ (g.D.Disk.seen c.args.disk) _ rests.1 rests.2 c.requires.base (c.start.ensures.given d) (c.requires.fresh (c.start.ensures.stays d)).1)

pub serve_behind-requires-clause-whole : goal.serve_behind-requires-clause-whole
serve_behind-requires-clause-whole g c = λ d. none_whole _ (c.start.ensures.given d ∙ (c.requires.fresh (c.start.ensures.stays d)).1)

pub serve_behind-requires-clause-recalled : goal.serve_behind-requires-clause-recalled
serve_behind-requires-clause-recalled g c = λ d.
    moments_as (sym c.text.ensures.digits) refl refl (begun_before g.D.Disk.moment g.D.Disk.left_since _ _ _ _ _ _ _ (c.start.ensures.any_moment d) c.requires.since c.requires.base (c.requires.fresh (c.start.ensures.stays d)).1)

pub serve_behind-requires-clause-accounted : goal.serve_behind-requires-clause-accounted
serve_behind-requires-clause-accounted g c = λ d. none_accounted _ _ _ c.requires.input (c.start.ensures.given d ∙ (c.requires.fresh (c.start.ensures.stays d)).1)

pub returns-in-Err : goal.returns-in-Err
returns-in-Err g c =
    record {
      any_moment = λ d. begun_before g.D.Disk.moment g.D.Disk.left_since _ _ _ _ _ _ _ (c.start.ensures.any_moment d) refl refl (c.requires.fresh (c.start.ensures.stays d)).1;
      told = told_refused _ _ _ _ _ _ _ _ _ c.in-Err.fault (λ refusal is d. start_refused c.args.digested.documents.text (g.D.Disk.seen c.args.disk) c.start.result c.in-Err.fault refusal c.in-Err.is is (c.start.ensures.refused d))
          c.refuse_start-status.ensures;
      untouched = λ d. untouched_of _ _ _ (c.start.ensures.untouched d);
    }

pub returns-in-Ok : goal.returns-in-Ok
returns-in-Ok g c =
    let block = c.in-Ok.ensures.block in
    let taken : g.D.Disk.is_disk c.serve_behind.result.1 → HasNoFault c.args.digested.documents.text (g.D.Disk.seen c.args.disk) =
    λ d. ∥∥₁_elim (c.serve_behind.ensures.stays d) (no_fault_prop c.args.digested.documents.text (g.D.Disk.seen c.args.disk)) (λ was. not_refused c.args.digested.documents.text (g.D.Disk.seen c.args.disk) (c.in-Ok.ensures.taken was)) in
    record {
      untouched = λ d. inl (taken d);
      any_moment = λ d. moments_as c.text.ensures.digits c.requires.base c.requires.since (c.serve_behind.ensures.any_moment d);
      told = told_behind _ _ _ _ _ _ _ _ _ _ _ block.0 _ _ _ taken (λ d. ∥∥₁_elim (c.serve_behind.ensures.stays d) (search props) (λ was. block.2 was)) block.1 c.requires.base
          (told_as _ _ _ _ _ _ _ _ _ _ _ _ _ _ _ _ _ c.in-Ok.ensures.cleared c.text.ensures.digits c.deref.ensures.value c.serve_behind.ensures.told);
    }
