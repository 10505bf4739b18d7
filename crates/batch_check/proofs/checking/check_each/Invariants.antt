use Rattle.std.proofs.Common.{take, map}
use Rattle.batch_model.specs.{Lists.Each, Setups.master_of, Setups.setup_of}
use Rattle.batch_check.specs.Checking.{IsSoundMaster}
use Rattle.batch_check.proofs.checking.check_each.Given as goal

abbrev pub invariant-loop-number : goal.invariant-loop-number
invariant-loop-number l = Each (IsSoundMaster (setup_of l.cell l.recipes)) (take l.number (map (master_of l.cell) l.recipes))
