use Rattle.std.proofs.Common.{◌≡◌, length, Result, Ok, Err, OnOk, arith}
use Rattle.batch_engine.specs.View.{setup, plant_of}
use Rattle.batch_journal.specs.Journals.{groups_in}
use Rattle.batch_keep.proofs.Comments.{replays}
use Rattle.batch_keep.proofs.replaying.replay.Goals as goal

on_ok : {A E : Type 0} (r : Result A E) (P Q : Type 0) → (P → Q) → OnOk r P → OnOk r Q
on_ok (Ok x) P Q f p = f p
on_ok (Err e) P Q f p = tt

pub returns-clause-served : goal.returns-clause-served
returns-clause-served g c =
    let text = c.args.text.now in
    let documents = c.args.documents.now in
    let size : length documents ≡ 64 = omega arith in
    on_ok _ _ _ (replays (setup c.args.engine.now.cleared) (plant_of c.args.engine.now) _ documents text c.requires.journal.0 _ _ c.requires.journal.1 c.requires.digits size (c.recovered_are_lines.ensures.whole (groups_in documents text)))
    c.serve.ensures.served
