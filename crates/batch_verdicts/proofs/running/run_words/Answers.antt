use Rattle.std.proofs.Common.{subst, map, string_bytes}
use Rattle.std.proofs.KnownBytes.{Keeps-refl}
use Rattle.batch_cli.specs.{CommandLine.IsFaultOf, CommandLine.faults_of, declared.command.CommandFault.CommandFault}
use Rattle.batch_verdicts.specs.Running.{commands, helps, misuses, starves}
use Rattle.batch_verdicts.proofs.running.run_words.Goals as goal

pub returns-in-Ok : goal.returns-in-Ok
returns-in-Ok g c =
    commands _ _ (c.in-Ok.ensures.taken, c.in-Ok.ensures.words.0) (rw c.in-Ok.ensures.words.1 at c.run_command.ensures)

pub returns-in-Err-Help : goal.returns-in-Err-Help
returns-in-Err-Help g c =
    let Faulty : CommandFault → Type 0 = IsFaultOf (faults_of (map string_bytes c.args.words.now)) in
    helps _ _ (subst Faulty c.in-Err-Help.field-0-is c.in-Err-Help.ensures.fault) c.print.ensures

pub returns-in-Err-Usage : goal.returns-in-Err-Usage
returns-in-Err-Usage g c =
    let Faulty : CommandFault → Type 0 = IsFaultOf (faults_of (map string_bytes c.args.words.now)) in
    rw c.complain.ensures (misuses (subst Faulty c.in-Err-Usage.field-0-is c.in-Err-Usage.ensures.fault) (Keeps-refl _))

pub returns-in-Err-Memory : goal.returns-in-Err-Memory
returns-in-Err-Memory g c = rw c.complain-in-Err-Memory.ensures (starves (Keeps-refl _))
