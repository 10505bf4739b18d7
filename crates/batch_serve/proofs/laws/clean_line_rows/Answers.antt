use Rattle.std.proofs.Common.{refl}
use Rattle.batch_serve.proofs.laws.clean_line_rows.Goals as goal

pub returns : goal.returns
returns c = record {
  event = refl;
  returned = refl;
  returns_alone = refl;
  mark_behind = refl;
  longest = refl;
  empty = refl;
  spaces = refl;
  comment = refl;
  zeros = refl;
  too_long = refl;
  long_comment = refl;
  text = refl;
  nothing = refl;
  whole = refl;
  torn = refl;
}
