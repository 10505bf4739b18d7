use Rattle.std.proofs.Common.{refl, lit<}
use Rattle.std.proofs.lemmas.Fmt.{decimal_digit}
use Rattle.batch_wire.proofs.rows.record_lines.Goals as goal

pub returns : goal.returns
returns c = record {
  sent_command = rw (decimal_digit 1 (lit< tt), decimal_digit 0 (lit< tt)) refl;
  handed_values = rw (decimal_digit 1 (lit< tt), decimal_digit 0 (lit< tt), decimal_digit 3 (lit< tt), decimal_digit 7 (lit< tt)) refl;
  asked_units = rw (decimal_digit 1 (lit< tt), decimal_digit 0 (lit< tt), decimal_digit 2 (lit< tt)) refl;
  released_unit = rw (decimal_digit 1 (lit< tt), decimal_digit 0 (lit< tt)) refl;
  passed_unit = rw (decimal_digit 1 (lit< tt), decimal_digit 0 (lit< tt)) refl;
  created_reply = rw (decimal_digit 1 (lit< tt), decimal_digit 7 (lit< tt)) refl;
  plain_reply = rw (decimal_digit 1 (lit< tt), decimal_digit 7 (lit< tt)) refl;
  command_reply = rw (decimal_digit 2 (lit< tt)) refl;
  remove_reply = rw (decimal_digit 1 (lit< tt)) refl;
  fault_reply = rw (decimal_digit 1 (lit< tt), decimal_digit 0 (lit< tt)) refl;
  refused_report = refl;
  refused_output = refl;
  refused_leaving_out = refl;
  refused_binding = refl;
  refused_value = refl;
  refused_removal = refl;
}
