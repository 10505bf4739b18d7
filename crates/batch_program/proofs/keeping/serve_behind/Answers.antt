use Rattle.std.proofs.Common.{inl, inr, sym, ◌∙◌}
use Rattle.std.proofs.lemmas.Grind.{merely}
use Rattle.batch_engine.specs.View.{setup, plant_of}
use Rattle.batch_program.proofs.RunsOverJournal.{answered, where_known}
use Rattle.batch_program.proofs.keeping.serve_behind.Goals as goal

pub returns-in-Err-clause-stays : goal.returns-in-Err-clause-stays
returns-in-Err-clause-stays g c = λ d. merely (c.requires.was d)

pub returns-in-Err-clause-told : goal.returns-in-Err-clause-told
returns-in-Err-clause-told g c = inr (c.in-Err.ensures, c.complain_block-status.ensures)

pub returns-clause-told : goal.returns-clause-told
returns-clause-told g c =
    let served = c.serve_shown-served in
    let (plain, shown, told, lost) = served.ensures.shown in
    let unread = g.R.Read.remaining c.args.input.now.stream in
    let reader_is = c.new-reader.ensures in
    let input_is = c.requires.input ∙ sym reader_is in
    inl (
      _,
      plain,
      c.in_default.ensures,
      shown,
      record {
        answers = λ well. answered (setup c.args.engine.now.cleared) (plant_of c.args.engine.now) _ served.result.0 unread _ _ _ c.clean_lines_serve_alike.ensures reader_is
            (c.report_end-status.ensures.well well) told;
        never_lost = λ d start base. where_known unread _ _ reader_is (λ all known. lost d input_is all start (input_is ∙ known) base);
        ends = c.report_end-status.ensures.ends;
      },
    )
