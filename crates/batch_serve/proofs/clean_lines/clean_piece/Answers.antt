use Rattle.std.proofs.Common.{take, arith}
use Rattle.batch_serve.proofs.JournalLines.{stepped, finished, put_behind, room_here, room_left}
use Rattle.batch_serve.proofs.clean_lines.clean_piece.Goals as goal

pub end_line-written-requires : goal.end_line-written-requires
end_line-written-requires c =
    let so_far = c.loop-at.invariant in
    let here = room_here c.loop-at.line c.loop-at.rest.now c.extend.new.self c.loop-at.written c.in-Some.at _ so_far.room c.in-Some.ensures c.extend.ensures in
    omega (arith, here, c.requires)

pub overflow_add-written : goal.overflow_add-written
overflow_add-written c =
    let so_far = c.loop-at.invariant in
    let here = room_here c.loop-at.line c.loop-at.rest.now c.extend.new.self c.loop-at.written c.in-Some.at _ so_far.room c.in-Some.ensures c.extend.ensures in
    omega (arith, here, c.requires, c.end_line-written.ensures.within)

pub loop-at-preserved : goal.loop-at-preserved
loop-at-preserved c =
    let so_far = c.loop-at.invariant in
    let rest = c.loop-at.rest.now in
    let whole = c.extend.new.self in
    let at = c.in-Some.at in
    let count = c.end_line-written.result in
    let put = c.end_line-written.new.out in
    let room = room_here c.loop-at.line rest whole c.loop-at.written at _ so_far.room c.in-Some.ensures c.extend.ensures in
    record {
      room = room_left c.loop-at.line rest whole c.end_line-written.new.line c.loop-at.written at count _ so_far.room c.in-Some.ensures c.extend.ensures c.end_line-written.ensures.within c.end_line-written.ensures.begun;
      text = stepped c.args.line.now c.args.piece.now c.loop-at.line rest whole c.end_line-written.new.line (take count put) _ _ at so_far.text c.in-Some.ensures c.extend.ensures c.end_line-written.ensures.begun c.end_line-written.ensures.text
          (put_behind c.loop-at.out put c.loop-at.written _ count (omega (arith, room, c.requires)) (omega (arith, room, c.requires, c.end_line-written.ensures.within)));
    }

pub returns-clause-text : goal.returns-clause-text
returns-clause-text c =
    let so_far = c.loop-at.invariant in
    finished c.args.line.now c.args.piece.now c.loop-at.line c.loop-at.rest.now _ _ so_far.text c.in_default.ensures c.extend-2.ensures
