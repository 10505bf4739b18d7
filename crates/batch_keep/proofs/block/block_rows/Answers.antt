use Rattle.std.proofs.Common.{◌++◌, codes, lit<, refl, ap}
use Rattle.std.proofs.lemmas.Fmt.{decimal_digit}
use Rattle.batch_keep.proofs.block.block_rows.Goals as goal

pub returns : goal.returns
returns c = record {
  none = ap (λ d. codes "# recovered " ++ (d ++ (codes " lines\n" ++ codes "# end\n"))) (decimal_digit 0 (lit< tt));
  some = ap (λ d. codes "# recovered " ++ (d ++ (codes " lines\n" ++ (codes "# batch 1 A 1000 complete\n" ++ codes "# end\n")))) (decimal_digit 3 (lit< tt));
  event = refl;
  another = refl;
  own = refl;
  comment = refl;
  sent = refl;
  first = refl;
  second = refl;
  third = refl;
}
