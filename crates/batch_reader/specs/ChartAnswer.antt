-- trusted: the meaning of the answers of the reader of charts.
use Rattle.std.specs.Prelude.{◌≡◌, ℕ, ◌+◌, ◌<◌, ◌≤◌, List, [], ◌∷◌, ◌++◌, length, take, Option, Some, None, ◌↔◌, true}
use Rattle.batch_recipe.specs.Diagram.{Diagram}
use Rattle.batch_recipe.specs.WellFormed.{has_no_par}
use Rattle.batch_reader.specs.ChartGrammar.{Offsets, IsChart, IsChartWithPars, IsWideChart}

-- the first element
abbrev pub first_of : List ℕ → Option ℕ
first_of [] = None
first_of (n ∷ ns) = Some n

-- the text is of the chart, and its first `par` opens at the offset
pub record IsRead (text : List ℕ) (chart : Diagram) (first_par : Option ℕ) : Type 0 where
  pub pars : List ℕ
  pub reads : IsChartWithPars text chart pars
  pub first : first_par ≡ first_of pars
  pub has_par : (first_par ≡ None) ↔ (has_no_par chart ≡ true)

-- the text is of no chart, and the offset is the length of its longest prefix that begins a text of a chart,
-- whatever the numbers
pub record HasFaultAt (text : List ℕ) (offset : ℕ) : Type 0 where
  pub within : offset ≤ length text
  pub no_chart : (chart : Diagram) (offsets : Offsets) → IsWideChart text chart offsets → ⊥
  pub front : (rest : List ℕ) × (chart : Diagram) × (offsets : Offsets) × IsWideChart (take offset text ++ rest) chart offsets
  pub no_front : offset < length text → (rest : List ℕ) (chart : Diagram) (offsets : Offsets) → IsWideChart (take (offset + 1) text ++ rest) chart offsets → ⊥

-- the text is of a chart but for numbers out of range, of which the first begins at the offset
pub record IsOutsideAt (text : List ℕ) (offset : ℕ) : Type 0 where
  pub wide : (chart : Diagram) × (others pars : List ℕ) × IsWideChart text chart (record { outside = offset ∷ others; pars = pars })
  pub no_chart : (chart : Diagram) → IsChart text chart → ⊥
