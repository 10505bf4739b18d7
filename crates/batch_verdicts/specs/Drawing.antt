-- trusted: the output of `check --dot` on recipes.
use Rattle.std.specs.Prelude.{◌≡◌, ◌++◌, ℕ, List, []}
use Rattle.std.specs.List.{All, Contains}
use Rattle.batch_cell.specs.declared.cell.Cell.{Cell}
use Rattle.batch_recipe.specs.declared.recipe.Recipe.{Recipe}
use Rattle.batch_model.specs.Cleared.{CanBeCleared}
use Rattle.batch_model.specs.Setups.{setup_of}
use Rattle.batch_check.specs.Checking.{IsFault}
use Rattle.batch_check.specs.Edges.{AreEdgesOf, HasPairsOf}
use Rattle.batch_check.specs.LeastRanking.{LeadsAlong}
use Rattle.batch_check.specs.declared.edge.Edge.{Edge}
use Rattle.batch_check.specs.declared.fault.CheckFault.{CheckFault}
use Rattle.batch_check.specs.declared.fault.CheckFault.TheVariants.{Circle}
use Rattle.batch_verdicts.specs.GraphTexts.{ActNames, graph_text}
use Rattle.batch_verdicts.specs.Judging.{HaltsWith, fault_kind}
use Rattle.batch_verdicts.specs.VerdictTexts.{fault_text}
use Rattle.batch_verdicts.specs.declared.refusal.Halt.{Halt}

-- the edge is one of these, and they lead from its later back to its earlier
pub record IsOnCircle (edges : List Edge) (edge : Edge) : Type 0 where
  pub standing : Contains edges edge
  pub walk : List Edge
  pub back : LeadsAlong edge.later walk edge.earlier
  pub along : All (Contains edges) walk

-- the text is the graph of the edges of these recipes. Each of the edges stands in a recipe, and they leave out no two resources that
-- follow one another on a path; no recipe before that of an edge asks for `later` right after `earlier`. Each edge of the circle has its
-- arrow, which is red, and all that is red lies on a circle. The names of acts in the text are left open
abbrev pub IsDrawingOf : Cell → List Recipe → List Edge → List ℕ → Type 0
IsDrawingOf c rs circle text =
    (acts : ActNames) × (edges : List Edge) × (more : List Edge) × AreEdgesOf c rs edges × HasPairsOf circle edges × All (IsOnCircle edges) more
    × (text ≡ graph_text acts c rs edges (circle ++ more))

-- a circle is marked in the graph, and another fault has the text of `check`
abbrev pub IsFaultDrawn : Cell → List Recipe → CheckFault → List ℕ → Type 0
IsFaultDrawn c rs (Circle circle) text = IsDrawingOf c rs circle.items text
IsFaultDrawn c rs fault text = text ≡ fault_text c rs fault

-- the output on recipes that can be cleared
abbrev pub IsDrawn : Cell → List Recipe → List ℕ → Type 0
IsDrawn c rs text = CanBeCleared (setup_of c rs) × IsDrawingOf c rs [] text

-- they can't, for this reason, which the refusal draws or says
abbrev pub RefusesDrawing : Cell → List Recipe → Halt → Type 0
RefusesDrawing c rs h =
    (fault : CheckFault) × (text : List ℕ) × IsFault c rs fault × IsFaultDrawn c rs fault text × HaltsWith text (fault_kind fault) h
