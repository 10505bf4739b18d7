-- worked rows: lines as a journal has them, and text that is whole lines.
use Rattle.std.specs.Prelude.{◌≡◌, true, false, [], ◌∷◌, ◌++◌, Some, None, replicate, codes}
use Rattle.batch_serve.specs.CleanLines.{clean, clean_lines}
use Rattle.batch_serve.specs.Held.{is_whole}

pub record CleanLineRows : Type 0 where
  -- kept as they were read, with their spaces and carriage returns
  pub event : clean (codes " start  1 ") ≡ Some (codes " start  1 ")
  pub returned : clean (codes "start 1" ++ 13 ∷ 13 ∷ []) ≡ Some (codes "start 1" ++ 13 ∷ 13 ∷ [])
  pub returns_alone : clean (13 ∷ 13 ∷ []) ≡ Some (13 ∷ 13 ∷ [])
  pub mark_behind : clean (codes " # at 1") ≡ Some (codes " # at 1")
  pub longest : clean (replicate 1024 97 ++ 13 ∷ []) ≡ Some (replicate 1024 97 ++ 13 ∷ [])
  -- left out
  pub empty : clean [] ≡ None
  pub spaces : clean (32 ∷ 32 ∷ 13 ∷ []) ≡ None
  pub comment : clean (codes "# at 1") ≡ None
  -- changed
  pub zeros : clean (0 ∷ 35 ∷ 0 ∷ []) ≡ Some (63 ∷ 35 ∷ 63 ∷ [])
  pub too_long : clean (replicate 1025 97) ≡ Some (replicate 1025 63)
  pub long_comment : clean (replicate 1024 35 ++ 13 ∷ 13 ∷ []) ≡ Some (replicate 1025 63)
  pub text : clean_lines (codes "fly" ∷ codes "# at 1" ∷ [] ∷ codes "start 1" ∷ []) ≡ codes "fly\nstart 1\n"
  -- whole lines, and others
  pub nothing : is_whole [] ≡ true
  pub whole : is_whole (codes "ok start 1 running\n") ≡ true
  pub torn : is_whole (codes "created 1 A 7\nok sta") ≡ false
