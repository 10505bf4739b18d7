use Rattle.std.proofs.Common.{List, length, length-set, get_or, sym, subst, arith}
use Rattle.batch_serve.{specs.Rounds.IsGathered, specs.Runs.AreOfDesks, specs.declared.desk.ServedDesk.ServedDesk, specs.declared.rounds.Reader.Reader, proofs.DeskLines.gathered_more, proofs.DeskLines.kept_behind, proofs.DeskLines.own_behind, proofs.DeskLines.same_on}
use Rattle.batch_serve.proofs.desk_server.DeskServer.gather.Goals as goal

pub loop-desk-preserved : goal.loop-desk-preserved
loop-desk-preserved g c =
    let so_far = c.loop-desk.invariant in
    let i = c.loop-desk.desk in
    let others = c.gather_one.ensures.others in
    record {
      same = same_on c.args.self.now c.loop-desk.self c.gather_one.new.self so_far.same c.gather_one.ensures.same;
      count = omega (arith, length-set {A = Reader g.row.O.Denot}, so_far.count);
      gathered = gathered_more g.O.Protocol.allows c.args.self.now.desks.items c.args.readers.now.items c.loop-desk.readers.items i c.index_mut.result.now c.gather_one.new.reader
          c.args.self.now.group.items c.loop-desk.self.group.items c.gather_one.new.self.group.items (omega (arith, so_far.count)) c.index_mut.ensures.value
          (λ other. subst (λ (l : List ServedDesk). IsGathered g.O.Protocol.allows i (get_or l i other).waiting.is_cut c.index_mut.result.now c.gather_one.new.reader c.loop-desk.self.group.items
          c.gather_one.new.self.group.items) so_far.same.desks (c.in_ok-gather_one.ensures.gathered other))
          others so_far.gathered so_far.rest so_far.own;
      of_desks = λ of. subst (λ (l : List ServedDesk). AreOfDesks (length l) c.gather_one.new.self.group.items) so_far.same.desks
          (c.gather_one.ensures.of_desks (subst (λ (l : List ServedDesk). AreOfDesks (length l) c.loop-desk.self.group.items) (sym so_far.same.desks) (so_far.of_desks of)));
      rest = kept_behind c.args.readers.now.items c.loop-desk.readers.items i c.gather_one.new.reader so_far.rest;
      own = own_behind i c.args.self.now.group.items c.loop-desk.self.group.items c.gather_one.new.self.group.items others so_far.own;
    }
