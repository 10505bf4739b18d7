use Rattle.std.proofs.Common.{refl, lit<}
use Rattle.std.proofs.lemmas.Fmt.{decimal_digit}
use Rattle.batch_outline.proofs.rows.shown_lines.Goals as goal

pub returns : goal.returns
returns c = record {
  two_units = rw (decimal_digit 2 (lit< tt)) refl;
  one_unit = refl;
  branches = refl;
  loop_line = rw (decimal_digit 0 (lit< tt), decimal_digit 1 (lit< tt), decimal_digit 3 (lit< tt), decimal_digit 7 (lit< tt)) refl;
  first_line = rw (decimal_digit 0 (lit< tt)) refl;
  held_above = refl;
  own_need = λ e. cc;
  reserved_unit = refl;
  reserving_act = λ a name unit phase reserves needs. rw (name, unit, phase, reserves, needs, decimal_digit 2 (lit< tt)) refl;
  kinds = ((λ work. refl), (λ work. refl), (λ chart. refl));
  roles = refl;
}
