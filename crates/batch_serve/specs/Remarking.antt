-- trusted: the state of a writer of a record with comments.
use Rattle.std.specs.Prelude.{◌≡◌, ℕ, Bool, false, not, ◌==◌, List, [], ◌++◌, length, take, drop, Option, Some, None, option_map}
use Rattle.std.specs.Io.KnownBytes.{Appends}
use Rattle.batch_serve.specs.Comments.{kept_from, remark_text, spot_behind, without_comments}
use Rattle.batch_serve.specs.declared.remarked.TextSpot.{TextSpot}
use Rattle.batch_serve.specs.declared.remarked.TextSpot.TheVariants.{Start}

-- if the first contents of a writer are known: it holds them, and the text after them ends at this spot, unless a part of a comment
-- may be missing
pub record EndsAtSpot (first contents : Option (List ℕ)) (spot : TextSpot) (cut : Bool) : Type 0 where
  pub kept : (held : List ℕ) → first ≡ Some held → option_map (take (length held)) contents ≡ Some held
  pub stands : (held all : List ℕ) → first ≡ Some held → contents ≡ Some all → cut ≡ false → spot_behind Start (drop (length held) all) ≡ spot

-- the contents without the comments after the first contents
abbrev pub uncommented : Option (List ℕ) → Option (List ℕ) → Option (List ℕ)
uncommented None contents = None
uncommented (Some held) contents = option_map (λ all. held ++ without_comments (drop (length held) all)) contents

-- the byte is no `#`
abbrev pub is_plain : ℕ → Bool
is_plain b = not (b == 35)

-- all of the part belongs to a comment, and after it the text ends at the other spot
pub record IsCommentPart (from : TextSpot) (part : List ℕ) (to : TextSpot) : Type 0 where
  pub hidden : kept_from from part ≡ []
  pub stands : spot_behind from part ≡ to

-- the comments before the answer to a line were written, at some time
abbrev pub WritesRemark : Bool → Bool → List ℕ → Option (List ℕ) → Option (List ℕ) → Type 0
WritesRemark due echo line before after = (milliseconds : ℕ) × Appends before after (remark_text due echo milliseconds line)
