use Rattle.std.proofs.Common.{false, refl, sym, take}
use Rattle.batch_serve.{specs.Comments.spot_behind, proofs.TextsWithComments.plain_take, proofs.TextsWithComments.same_spot, proofs.TextsWithComments.told_nothing, proofs.TextsWithComments.told_plain}
use Rattle.batch_serve.proofs.remarked.RemarkedWrite.write.Goals as goal

pub invariant_of-self : goal.invariant_of-self
invariant_of-self g c =
    let now = c.args.self.now in
    record { stands = (told_nothing g.C.Start.contents (g.W.Write.contents now.inner) (g.W.Write.contents c.write.new.self) now.spot now.is_cut c.in_err-count.ensures.bytes now.stands).1 }

pub invariant_of-self-then-may_follow : goal.invariant_of-self-then-may_follow
invariant_of-self-then-may_follow g c =
    let now = c.args.self.now in
    let first = g.C.Start.contents in
    let x = g.W.Write.contents now.inner in
    let y = g.W.Write.contents c.write.new.self in
    let text = take c.in_ok-count.count c.args.bytes.now in
    let taken = c.may_follow.ensures c.if-may_follow.true in
    let at = same_spot first x now.spot now.spot now.is_cut false taken.0 refl now.stands in
    let told = told_plain first x y now.spot text taken.1 (plain_take c.in_ok-count.count c.args.bytes.now taken.2) at c.in_ok-count.ensures.bytes in
    record { stands = same_spot first y (spot_behind now.spot text) c.spot_behind-self.result false now.is_cut (sym taken.0) (sym c.spot_behind-self.ensures) told.1 }

pub returns-in_ok-count-clause-bytes : goal.returns-in_ok-count-clause-bytes
returns-in_ok-count-clause-bytes g c =
    let now = c.args.self.now in
    let first = g.C.Start.contents in
    let x = g.W.Write.contents now.inner in
    let y = g.W.Write.contents c.write.new.self in
    let taken = c.may_follow.ensures c.if-may_follow.true in
    let at = same_spot first x now.spot now.spot now.is_cut false taken.0 refl now.stands in
    (told_plain first x y now.spot (take c.in_ok-count.count c.args.bytes.now) taken.1 (plain_take c.in_ok-count.count c.args.bytes.now taken.2) at c.in_ok-count.ensures.bytes).0
