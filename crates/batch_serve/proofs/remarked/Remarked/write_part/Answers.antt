use Rattle.std.proofs.Common.{false, refl, sym}
use Rattle.batch_serve.proofs.TextsWithComments.{same_spot, told_cut, told_part}
use Rattle.batch_serve.proofs.remarked.Remarked.write_part.Goals as goal

pub invariant_of-self : goal.invariant_of-self
invariant_of-self g c =
    let now = c.args.self.now in
    let first = g.C.Start.contents in
    let x = g.W.Write.contents now.inner in
    let y = g.W.Write.contents c.write_all.new.writer in
    let ready = c.is_ready.ensures c.if-is_ready.true in
    let at = same_spot first x now.spot c.args.from now.is_cut false ready.0 ready.1 now.stands in
    record { stands = same_spot first y c.args.to c.args.to false now.is_cut (sym ready.0) refl (told_part first x y c.args.from c.args.to c.args.part.now c.requires at c.in-Ok.ensures).1 }

pub invariant_of-self-in-Err : goal.invariant_of-self-in-Err
invariant_of-self-in-Err g c =
    let now = c.args.self.now in
    let first = g.C.Start.contents in
    let x = g.W.Write.contents now.inner in
    let y = g.W.Write.contents c.write_all.new.writer in
    let ready = c.is_ready.ensures c.if-is_ready.true in
    let at = same_spot first x now.spot c.args.from now.is_cut false ready.0 ready.1 now.stands in
    record { stands = (told_cut first x y c.args.from c.args.to now.spot c.args.part.now c.requires at c.in-Err.ensures).1 }

pub returns-in-Ok-clause-kept : goal.returns-in-Ok-clause-kept
returns-in-Ok-clause-kept g c =
    let now = c.args.self.now in
    let first = g.C.Start.contents in
    let x = g.W.Write.contents now.inner in
    let y = g.W.Write.contents c.write_all.new.writer in
    let ready = c.is_ready.ensures c.if-is_ready.true in
    let at = same_spot first x now.spot c.args.from now.is_cut false ready.0 ready.1 now.stands in
    (told_part first x y c.args.from c.args.to c.args.part.now c.requires at c.in-Ok.ensures).0

pub returns-in-Err-clause-kept : goal.returns-in-Err-clause-kept
returns-in-Err-clause-kept g c =
    let now = c.args.self.now in
    let first = g.C.Start.contents in
    let x = g.W.Write.contents now.inner in
    let y = g.W.Write.contents c.write_all.new.writer in
    let ready = c.is_ready.ensures c.if-is_ready.true in
    let at = same_spot first x now.spot c.args.from now.is_cut false ready.0 ready.1 now.stands in
    (told_cut first x y c.args.from c.args.to now.spot c.args.part.now c.requires at c.in-Err.ensures).0
