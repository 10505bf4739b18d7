use Rattle.std.proofs.Common.{◌≡◌, length, take, arith, length-take}
use Rattle.batch_serve.proofs.JournalLines.{put_long}
use Rattle.batch_serve.proofs.clean_lines.put_long.Goals as goal

pub slice_bounds-fill-end-2 : goal.slice_bounds-fill-end-2
slice_bounds-fill-end-2 c = omega (arith, length-take 1025 c.args.out.now, c.requires)

pub returns : goal.returns
returns c =
    let count : length (take 1025 c.args.out.now) ≡ 1025 = omega (arith, length-take 1025 c.args.out.now, c.requires) in
    put_long c.args.out.now c.fill.new.self _ (c.fill.ensures.after (λ y is. is)) count c.fill.ensures.len c.requires
