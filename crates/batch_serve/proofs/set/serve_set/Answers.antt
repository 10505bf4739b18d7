use Rattle.batch_engine.specs.View.{plant_of}
use Rattle.batch_serve.proofs.ServiceOfSet.{IsNew, serves_all, serves_until}
use Rattle.batch_serve.proofs.set.serve_set.Goals as goal

pub returns-in-Ok-serve : goal.returns-in-Ok-serve
returns-in-Ok-serve g c =
    let made = c.in-Ok.ensures in
    let did = c.serve.ensures in
    let fresh : IsNew c.args.cleared c.in-Ok.engine.cleared (plant_of c.in-Ok.engine) = record { cleared = made.cleared; opening_is = made.opening; safe = did.safe } in
    serves_all c.args.cleared c.in-Ok.engine.cleared (plant_of c.in-Ok.engine) (plant_of c.serve.new.engine) c.args.max_reads _ c.serve.result _ fresh
    c.unfinished.ensures
    (record { served = did.served; ended = did.ended; read_fault = did.read_fault; too_many_reads = did.too_many_reads; reads_made = did.reads_made; write_fault = did.write_fault })
    c.in-Ok-serve.is

pub returns : goal.returns
returns g c =
    let made = c.in-Ok.ensures in
    let did = c.serve.ensures in
    let fresh : IsNew c.args.cleared c.in-Ok.engine.cleared (plant_of c.in-Ok.engine) = record { cleared = made.cleared; opening_is = made.opening; safe = did.safe } in
    serves_until c.args.cleared c.in-Ok.engine.cleared (plant_of c.in-Ok.engine) (plant_of c.serve.new.engine) c.args.max_reads c.serve.result _ _ fresh
    (record { served = did.served; ended = did.ended; read_fault = did.read_fault; too_many_reads = did.too_many_reads; reads_made = did.reads_made; write_fault = did.write_fault })
    c.in-Err.is
