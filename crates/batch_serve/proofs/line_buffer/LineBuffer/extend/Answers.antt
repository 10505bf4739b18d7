use Rattle.std.proofs.Common.{◌≡◌, ◌+◌, ◌++◌, ◌∙◌, length, take, ap, arith, length-take-le}
use Rattle.std.proofs.lemmas.Slice.{take-put_mid}
use Rattle.batch_serve.{specs.declared.line_buffer.TheConstants.KEPT, proofs.LineBeginnings.extended, proofs.LineBeginnings.least_within}
use Rattle.batch_serve.proofs.line_buffer.LineBuffer.extend.Goals as goal

pub returns : goal.returns
returns c =
    let bytes = c.self.inside.bytes in
    let len = c.self.inside.len in
    let more = c.args.bytes.now in
    let count = c.min-count.result in
    let put = c.copy_from_slice.new.self in
    let is : put ≡ take count more = c.copy_from_slice.ensures.after in
    let long : length put ≡ count = ap length is ∙ length-take-le count more (least_within count (length more) _ c.min-count.ensures) in
    rw (← c.self.view_is) (
    take-put_mid len _ bytes put (len + count) (omega (arith, long)) (omega (arith, c.self.invariant, c.self.told))
    ∙ ap (λ l. take len bytes ++ l) is
    ∙ extended KEPT bytes more len count c.self.invariant c.self.told c.min-count.ensures
    )
