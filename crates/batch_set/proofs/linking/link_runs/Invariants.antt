use Rattle.batch_set.{specs.Linking.run_phase_number, proofs.TableRows.AreMapped}
use Rattle.batch_set.proofs.linking.link_runs.Given as goal

-- the phase steps so far
abbrev pub invariant-loop-act : goal.invariant-loop-act
invariant-loop-act l = AreMapped (run_phase_number l.phases.names.keys) l.table l.act-index l.runs.items
