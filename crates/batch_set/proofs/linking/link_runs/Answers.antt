use Rattle.std.proofs.Common.{[], ◌∷◌, ◌++◌, ap, ◌∙◌}
use Rattle.batch_set.{specs.Linking.run_phase_number, proofs.TableRows.AreAdded-more, proofs.TableRows.AreAdded-all}
use Rattle.batch_set.proofs.linking.link_runs.Goals as goal

pub loop-act-preserved : goal.loop-act-preserved
loop-act-preserved c =
    AreAdded-more [] (run_phase_number c.args.phases.now.names.keys) c.args.table.now c.loop-act.act-index c.loop-act.runs.items c.push.new.self.items
    c.loop-act.invariant c.act-item.result c.loop-act-test.true c.act-item.is
    (c.in_ok-push.ensures.items ∙ ap (λ run. c.loop-act.runs.items ++ run ∷ []) c.run_by.ensures)

pub returns : goal.returns
returns c = AreAdded-all [] (run_phase_number c.args.phases.now.names.keys) c.args.table.now c.loop-act.act-index c.loop-act.runs.items c.loop-act.invariant c.loop-act-test.false
