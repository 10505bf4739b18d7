use Rattle.std.proofs.Common.{◌++◌, ◌∷◌, [], codes, refl, ap, lit<}
use Rattle.std.proofs.lemmas.Fmt.{decimal_digit}
use Rattle.batch_serve.specs.Comments.{echo_text}
use Rattle.batch_serve.proofs.laws.comment_rows.Goals as goal

pub returns : goal.returns
returns c = record {
  lines = refl;
  alone = refl;
  unfinished = refl;
  none = refl;
  mark_behind = refl;
  line = refl;
  second_return = refl;
  bytes = refl;
  long = refl;
  both = ap (λ d. (codes "# at " ++ (d ++ 10 ∷ [])) ++ echo_text (codes "fly")) (decimal_digit 7 (lit< tt));
  echo = refl;
  time = ap (λ d. (codes "# at " ++ (d ++ 10 ∷ [])) ++ []) (decimal_digit 7 (lit< tt));
  nothing = refl;
}
