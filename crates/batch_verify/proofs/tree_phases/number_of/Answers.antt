use Rattle.std.proofs.Common.{sym, ap, ◌∙◌, option_copied}
use Rattle.std.specs.Prelude.{unwrap_or}
use Rattle.batch_verify.proofs.tree_phases.number_of.Goals as goal

pub returns : goal.returns
returns c = record {
  own = sym (ap (λ o. unwrap_or o c.args.next) (sym c.get.ensures.value ∙ ap option_copied c.in_default.is));
  all = λ other. c.in_ok-insert.ensures.updates.0 (record { ref_ptr = (0, 0); now = other });
}
