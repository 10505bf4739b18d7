-- worked rows: texts without their comments, and the comments that are written.
use Rattle.std.specs.Prelude.{◌≡◌, [], ◌∷◌, ◌++◌, true, false, codes, replicate}
use Rattle.batch_serve.specs.Comments.{echo_text, escaped, remark_text, without_comments}

pub record CommentRows : Type 0 where
  -- left out: lines that begin with `#`, with their line feed, and the beginning of one
  pub lines : without_comments (codes "# at 17\ncreated 1 A 7\n#\nok start 1 running\n") ≡ codes "created 1 A 7\nok start 1 running\n"
  pub alone : without_comments (codes "# > create A 7\n") ≡ []
  pub unfinished : without_comments (codes "refused W1\n# > st") ≡ codes "refused W1\n"
  -- kept: all else
  pub none : without_comments (codes "created 1 A 7\n\nok sta") ≡ codes "created 1 A 7\n\nok sta"
  pub mark_behind : without_comments (codes "created # 7\n #\n") ≡ codes "created # 7\n #\n"
  -- the lines that are echoed
  pub line : echo_text (codes "start 1" ++ 13 ∷ []) ≡ codes "# > start 1\n"
  pub second_return : echo_text (codes "start 1" ++ 13 ∷ 13 ∷ []) ≡ codes "# > start 1\\x0d\n"
  pub bytes : escaped (0 ∷ 31 ∷ 32 ∷ 92 ∷ 126 ∷ 127 ∷ 171 ∷ 255 ∷ []) ≡ codes "\\x00\\x1f \\~\\x7f\\xab\\xff"
  pub long : echo_text (replicate 1030 97) ≡ codes "# > " ++ (replicate 1025 97 ++ 10 ∷ [])
  -- before an answer
  pub both : remark_text true true 7 (codes "fly") ≡ codes "# at 7\n# > fly\n"
  pub echo : remark_text false true 7 (codes "fly") ≡ codes "# > fly\n"
  pub time : remark_text true false 7 (codes "fly") ≡ codes "# at 7\n"
  pub nothing : remark_text false false 7 (codes "fly") ≡ []
