-- worked rows: texts that are clear or held back, and texts that aren't.
use Rattle.std.specs.Prelude.{codes}
use Rattle.batch_serve.specs.Held.{IsClearText, IsHeldBack}

pub record HeldRows : Type 0 where
  pub line : IsClearText (codes "created 1 A 7\n")
  pub unfinished : IsHeldBack (codes "ok sta")
  pub event : IsHeldBack (codes "refused E11\nok start 1 running\n")
  pub words : IsHeldBack (codes "refused W6\n")
  -- texts that aren't
  pub half_line : IsClearText (codes "created 1 A 7\nok sta") → ⊥
  pub want : IsClearText (codes "created 1 A 7\nrefused E11\n") → ⊥
  pub clear_line : IsHeldBack (codes "created 1 A 7\nok sta") → ⊥
  pub line_before_want : IsHeldBack (codes "ok start 1 running\nrefused W6\n") → ⊥
  pub other_refusal : IsHeldBack (codes "refused E1\n") → ⊥
