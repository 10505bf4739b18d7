use Rattle.std.proofs.Common.{Err}
use Rattle.batch_pipes.specs.declared.fault.DesksFault.TheVariants.{Memory}
use Rattle.batch_program.proofs.DeskService.{record_served}
use Rattle.batch_program.proofs.desk_serving.serve_desk_set.Goals as goal

pub returns-in_default : goal.returns-in_default
returns-in_default g c = (Err Memory, tt, c.complain.ensures)

pub returns : goal.returns
returns g c =
    let ended = c.serve_desks-ended in (
      ended.result,
      record_served c.args.times _ _ _ _ c.args.served.digested.set c.in-Ok.engine _ _ _ ended.result c.service_is_safe.ensures c.in-Ok.ensures.cleared c.in-Ok.ensures.opening
          ended.ensures,
      c.report_ended.ensures,
    )
