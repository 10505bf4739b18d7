-- The effect of warnings.
use Rattle.std.proofs.Common.{◌≡◌, ℕ, Bool, true, false, List, [], Option, refl}
use Rattle.std.{proofs.KnownBytes.Appends-kept, proofs.KnownBytes.Appends-nil, proofs.KnownBytes.Keeps-refl, proofs.KnownBytes.Keeps-trans, specs.Io.KnownBytes.Keeps}
use Rattle.batch_cell.specs.declared.cell.Cell.{Cell}
use Rattle.batch_recipe.specs.declared.recipe.Recipe.{Recipe}
use Rattle.batch_verify.specs.{CertificateText.Rank, ClearedSet.ClearedSet}
use Rattle.batch_cli.specs.CommandLine.{Judgement, check, draw, show, verify}
use Rattle.batch_outline.specs.Trimmed.{AreTrimmedRecipes}
use Rattle.batch_verdicts.specs.{Judging.IsClearedBy, Reading.AreCleared, Reading.AreRead, Reading.Gives, Reading.Warns, Reading.IsSoWarned, Requests.IsVerdictText, Saying.IsWarned, WarningTexts.warnings_text}

-- no warning was written
pub silent : (quiet : Bool) (told : Option (List ℕ)) → IsWarned quiet told told []
silent true told = Keeps-refl told
silent false told = record { written = []; rest = []; splits = refl; appends = Appends-nil told }

-- nothing was written behind the warnings
pub warned_kept : (quiet : Bool) (before mid after : Option (List ℕ)) (text : List ℕ) → Keeps mid after → IsWarned quiet before mid text
    → IsWarned quiet before after text
warned_kept true before mid after text kept warned = Keeps-trans before mid after warned kept
warned_kept false before mid after text kept warned = record {
  written = warned.written;
  rest = warned.rest;
  splits = warned.splits;
  appends = Appends-kept before mid after warned.written warned.appends kept;
}

so_more : (gives : Gives) (these those : Warns) (cell : List ℕ) (paths : List (List ℕ)) (is_so : Cell → List Recipe → Type 0)
    → ((text : List ℕ) → these text → those text) → IsSoWarned gives these cell paths is_so → IsSoWarned gives those cell paths is_so
so_more gives these those cell paths is_so follows so = record {
  equipment = so.equipment;
  recipes = so.recipes;
  cell_read = so.cell_read;
  recipes_read = so.recipes_read;
  judged = (follows _ so.judged.0, so.judged.1);
}

-- a verdict stays one with any effect of warnings that follows from its own
pub verdict_more : (gives : Gives) (these those : Warns) (judgement : Judgement) (text : List ℕ) → ((text : List ℕ) → these text → those text)
    → IsVerdictText gives these judgement text → IsVerdictText gives those judgement text
verdict_more gives these those (check all cell paths) text follows told = so_more gives these those cell paths _ follows told
verdict_more gives these those (draw all cell paths) text follows told = so_more gives these those cell paths _ follows told
verdict_more gives these those (show cell paths) text follows (told, said) = (told, follows _ said)
verdict_more gives these those (verify cell certificate paths) text follows (is, (set, cleared, warned)) =
    (is, (set, cleared, follows _ warned))

-- documents that were read and warned of make a cleared set
pub verified : (gives : Gives) (warns : Warns) (cell certificate : List ℕ) (paths : List (List ℕ)) (c : Cell) (ranks : List Rank) (whole rs : List Recipe) (set : ClearedSet)
    → set.cell ≡ c → set.recipes ≡ rs → AreRead gives cell certificate paths c ranks whole → AreTrimmedRecipes whole rs → IsClearedBy c rs ranks
    → warns (warnings_text cell c paths whole)
    → (set : ClearedSet) × (cleared : AreCleared gives cell certificate paths set) × warns (warnings_text cell set.cell paths cleared.recipes)
verified gives warns cell certificate paths c ranks whole rs set same_cell same_recipes read trimmed cleared warned = (
  set,
  record { ranks = ranks; recipes = whole; read = rw same_cell read; trimmed = rw same_recipes trimmed; cleared = rw (same_cell, same_recipes) cleared },
  rw same_cell warned,
)
