-- worked rows: the text of a record's lines without comments, and where its whole lines end.
use Rattle.std.specs.Prelude.{◌≡◌, [], ◌∷◌, codes}
use Rattle.batch_keep.specs.Audits.{HasLines, number_behind, told_text}

pub record AuditRows : Type 0 where
  -- comments are left out
  pub comments : told_text (codes "# at 17" ∷ codes "created 1 A 7" ∷ codes "#" ∷ codes "ok start 1 running" ∷ []) ≡ codes "created 1 A 7\nok start 1 running\n"
  -- an empty line, and one whose mark is behind a space, are none
  pub others : told_text (codes "" ∷ codes " # at 17" ∷ []) ≡ codes "\n # at 17\n"
  pub nothing : told_text [] ≡ []
  -- whole lines
  pub whole : HasLines (codes "fly\n# at 17\n") (codes "fly" ∷ codes "# at 17" ∷ []) []
  pub torn : HasLines (codes "fly\nok sta") (codes "fly" ∷ []) (codes "ok sta")
  pub no_lines : HasLines [] [] []
  -- numbers begin with 1, and count comments
  pub first : number_behind [] ≡ 1
  pub third : number_behind (codes "# at 17" ∷ codes "fly" ∷ []) ≡ 3
