use Rattle.batch_step_laws.proofs.ListsOverActs.{held_in-advance, held_in-reach, phase_states-advance, phase_states-reach}
use Rattle.batch_step_laws.proofs.rests.advances_without_taking.Goals as goal

pub returns : goal.returns
returns c = record { reached = λ mo chart none. held_in-reach mo none chart; advanced = λ mo r none. held_in-advance mo none r; reached_phases = phase_states-reach; advanced_phases = phase_states-advance }
