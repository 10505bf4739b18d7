use Rattle.std.proofs.Common.{List, ℕ, [], Option, sym, ◌∙◌, ap}
use Rattle.std.specs.Io.KnownBytes.{append_known}
use Rattle.batch_engine.specs.View.{setup, plant_of}
use Rattle.batch_keep.proofs.{RepeatedAnswers.never_lost, AnswersToLines.ok_is, AnswersToLines.on_told, AnswersToLines.tells_known_transcript}
use Rattle.batch_keep.proofs.holding.serve_holding_at.Goals as goal

pub returns-in-Ok-clause-never_lost : goal.returns-in-Ok-clause-never_lost
returns-in-Ok-clause-never_lost g c = λ d known all start is base.
    let disk = c.serve_at-served.result.1 in
    never_lost (setup c.args.engine.now.cleared) (plant_of c.args.engine.now) g.C.JournalRun.documents start (g.D.Disk.durable disk) (g.D.Disk.seen disk)
    (g.D.Disk.given disk) g.S.Start.contents _ _ _
    (c.new-held.ensures ∙ ap (λ (known_first : Option (List ℕ)). append_known known_first []) (sym c.requires.first)) c.finish-told.ensures.clear (c.serve_at-served.ensures.again d known all start is base)

pub returns-in-Ok-clause-served : goal.returns-in-Ok-clause-served
returns-in-Ok-clause-served g c =
    on_told c.outcome_of_flush.result c.finish-told.result.0 _ _ c.outcome_of_flush.ensures c.finish-told.ensures.all (λ tells.
    tells_known_transcript (setup c.args.engine.now.cleared) (plant_of c.args.engine.now) _ _ g.S.Start.contents _ _ _ c.transcripts_are_whole.ensures
    (c.new-held.ensures ∙ ap (λ (known_first : Option (List ℕ)). append_known known_first []) (sym c.requires.first)) tells (ok_is c.serve_at-served.result.0 _ _ c.in-Ok.is c.serve_at-served.ensures.served))

pub returns-in-Err-clause-never_lost : goal.returns-in-Err-clause-never_lost
returns-in-Err-clause-never_lost g c = λ d known all start is base.
    let disk = c.serve_at-served.result.1 in
    never_lost (setup c.args.engine.now.cleared) (plant_of c.args.engine.now) g.C.JournalRun.documents start (g.D.Disk.durable disk) (g.D.Disk.seen disk)
    (g.D.Disk.given disk) g.S.Start.contents _ _ _
    (c.new-held.ensures ∙ ap (λ (known_first : Option (List ℕ)). append_known known_first []) (sym c.requires.first)) c.into_inner.ensures (c.serve_at-served.ensures.again d known all start is base)
