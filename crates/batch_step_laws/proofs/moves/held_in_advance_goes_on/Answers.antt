use Rattle.batch_model.{specs.Standing.IsStandingBatch, proofs.Members.Each-Has, specs.Moves.batch_moves}
use Rattle.batch_step_laws.proofs.{WorkAfterMove.batch_moves-number, HoldersInAdvance.flat_map-Has, HoldersInAdvance.holding-busy, HoldersInAdvance.holding-goes_on, HoldersInAdvance.holding-moves, HoldersInAdvance.each-none, HoldersInAdvance.settled-none}
use Rattle.batch_step_laws.proofs.moves.held_in_advance_goes_on.Goals as goal

pub returns : goal.returns
returns c = record {
  moves = λ setup plant batch held placed stands i j.
      let stood = Each-Has (IsStandingBatch setup) plant.batches batch stands.batches i in
      let m = holding-moves setup plant batch held placed stood j in (
        holding-goes_on setup batch held stood j,
        holding-busy setup batch held stood j,
        (m.0, flat_map-Has (batch_moves setup plant) plant.batches batch m.0 i m.1, batch_moves-number setup plant batch m.0 m.1, m.2),
      );
  settled = λ setup plant placed stands e. each-none plant.batches (settled-none setup placed plant stands e);
}
