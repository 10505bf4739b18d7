-- trusted: the texts of charts.
use Rattle.std.specs.Prelude.{◌≡◌, ℕ, suc, ◌-◌, nat_le, List, [], ◌∷◌, ◌++◌, length, Bool, false, ◌&&◌, ◌||◌, ◌==◌, if◌then◌else◌, codes, IsTrue}
use Rattle.batch_text.specs.NameText.{IsName}
use Rattle.batch_text.specs.NumberText.{IsNumber, number_of}
use Rattle.batch_recipe.specs.declared.condition.Op.{Op}
use Rattle.batch_recipe.specs.declared.condition.Op.TheVariants.{Less, AtMost, Equal, NotEqual, AtLeast, Greater}
use Rattle.batch_recipe.specs.declared.condition.Term.{Term}
use Rattle.batch_recipe.specs.declared.condition.Term.TheVariants as term
use Rattle.batch_recipe.specs.declared.condition.Condition.{Condition}
use Rattle.batch_recipe.specs.declared.chart.TheConstants.{MAX_DEPTH, MAX_TURNS}
use Rattle.batch_recipe.specs.declared.scaling.TheConstants.{MAX_VALUE}
use Rattle.batch_recipe.specs.Diagram.{Diagram, Diagrams, Cases}
use Rattle.batch_recipe.specs.Diagram as chart
use Rattle.batch_recipe.specs.WellFormed.{is_among, chart_words}
use Rattle.batch_reader.specs.Ascii as ascii

-- ---- tokens

-- a space, a tab, a line feed or a carriage return
abbrev pub is_chart_space : ℕ → Bool
is_chart_space b = b == ascii.space || b == ascii.tab || b == ascii.line_feed || b == ascii.carriage_return

-- s is spaces, and then t
pub data Skips : List ℕ → List ℕ → Type 0 where
  here : {s : List ℕ} → Skips s s
  space : {b : ℕ} {s t : List ℕ} → IsTrue (is_chart_space b) → Skips s t → Skips (b ∷ s) t

-- a name that is none of the six words
pub record IsLabel (bytes : List ℕ) : Type 0 where
  pub name : IsName bytes
  pub free : is_among chart_words bytes ≡ false

-- s is spaces and one of the operators, and then t
pub data ReadsOp : List ℕ → List ℕ → Op → Type 0 where
  less : {s t : List ℕ} → Skips s (codes "<" ++ t) → ReadsOp s t Less
  at_most : {s t : List ℕ} → Skips s (codes "<=" ++ t) → ReadsOp s t AtMost
  equal : {s t : List ℕ} → Skips s (codes "=" ++ t) → ReadsOp s t Equal
  not_equal : {s t : List ℕ} → Skips s (codes "/=" ++ t) → ReadsOp s t NotEqual
  at_least : {s t : List ℕ} → Skips s (codes ">=" ++ t) → ReadsOp s t AtLeast
  greater : {s t : List ℕ} → Skips s (codes ">" ++ t) → ReadsOp s t Greater

-- ---- the offsets that are noted of a text, beside its chart

-- offsets in a text, in order
pub record Offsets : Type 0 where
  -- the starts of the numbers out of range
  pub outside : List ℕ
  -- the parenthesis that opens each `par`
  pub pars : List ℕ

abbrev pub no_offsets : Offsets
no_offsets = record { outside = []; pars = [] }

-- those of a part of the text, and of the part after it
abbrev pub offsets_joined : Offsets → Offsets → Offsets
offsets_joined a b = record { outside = a.outside ++ b.outside; pars = a.pars ++ b.pars }

-- a `par` opens at the offset
abbrev pub opens_par : ℕ → Offsets
opens_par offset = record { outside = []; pars = offset ∷ [] }

-- a number begins at the offset, which is to be from low to high
abbrev pub ranged : ℕ → ℕ → ℕ → ℕ → Offsets
ranged low high number offset = record { outside = if nat_le low number && nat_le number high then [] else offset ∷ []; pars = [] }

-- ---- the grammar
-- In a text of length total, s is a text of the chart, and then t.

pub data ReadsTerm : ℕ → List ℕ → List ℕ → Term → Offsets → Type 0 where
  named : {total : ℕ} {name s t : List ℕ} → Skips s (name ++ t) → IsLabel name → ReadsTerm total s t (term.Named name) no_offsets
  number : {total : ℕ} {s t : List ℕ} (digits : List ℕ) → Skips s (digits ++ t) → IsNumber digits
      → ReadsTerm total s t (term.Number (number_of digits)) (ranged 0 MAX_VALUE (number_of digits) (total - length (digits ++ t)))

-- name op term
pub data ReadsCond : ℕ → List ℕ → List ℕ → Condition → Offsets → Type 0 where
  condition : {total : ℕ} {name s s1 s2 t : List ℕ} {op : Op} {term : Term} {offsets : Offsets}
      → Skips s (name ++ s1) → IsLabel name → ReadsOp s1 s2 op → ReadsTerm total s2 t term offsets
      → ReadsCond total s t (record { name = name; op = op; term = term }) offsets

mutual
  -- a chart that nests at most depth deep
  pub data Reads : ℕ → ℕ → List ℕ → List ℕ → Diagram → Offsets → Type 0 where
    label : {total depth : ℕ} {name s t : List ℕ} → Skips s (name ++ t) → IsLabel name → Reads total depth s t (chart.label name) no_offsets
    skip : {total depth : ℕ} {s t : List ℕ} → Skips s (codes "skip" ++ t) → Reads total depth s t chart.skip no_offsets
    seq : {total depth : ℕ} {s s1 s2 t : List ℕ} {branches : Diagrams} {offsets : Offsets}
        → Skips s (codes "seq" ++ s1) → Skips s1 (codes "(" ++ s2) → ReadsBranches total depth s2 t branches offsets
        → Reads total (suc depth) s t (chart.seq branches) offsets
    par : {total depth : ℕ} {s s1 s2 t : List ℕ} {first second : Diagram} {others : Diagrams} {offsets : Offsets}
        → Skips s (codes "par" ++ s1) → Skips s1 (codes "(" ++ s2) → ReadsBranches total depth s2 t (chart.more first (chart.more second others)) offsets
        → Reads total (suc depth) s t (chart.par (chart.more first (chart.more second others))) (offsets_joined (opens_par (total - length (codes "(" ++ s2))) offsets)
    sel : {total depth : ℕ} {s s1 s2 t : List ℕ} {c : Condition} {first : Diagram} {others : Cases} {offsets : Offsets}
        → Skips s (codes "sel" ++ s1) → Skips s1 (codes "(" ++ s2) → ReadsCases total depth s2 t (chart.when c first others) offsets
        → Reads total (suc depth) s t (chart.sel (chart.when c first others)) offsets
    loop : {total depth : ℕ} {s s1 s2 s3 s4 s5 s6 s7 t : List ℕ} {c : Condition} {body : Diagram} {offsets offsets2 : Offsets} (digits : List ℕ)
        → Skips s (codes "loop" ++ s1) → Skips s1 (codes "(" ++ s2) → Skips s2 (digits ++ s3) → IsNumber digits
        → Skips s3 (codes "," ++ s4) → ReadsCond total s4 s5 c offsets
        → Skips s5 (codes "," ++ s6) → Reads total depth s6 s7 body offsets2 → Skips s7 (codes ")" ++ t)
        → Reads total (suc depth) s t (chart.loop (number_of digits) c body)
        (offsets_joined (ranged 1 MAX_TURNS (number_of digits) (total - length (digits ++ s3))) (offsets_joined offsets offsets2))

  -- chart { "," chart } ")"
  pub data ReadsBranches : ℕ → ℕ → List ℕ → List ℕ → Diagrams → Offsets → Type 0 where
    last : {total depth : ℕ} {s s1 t : List ℕ} {d : Diagram} {offsets : Offsets}
        → Reads total depth s s1 d offsets → Skips s1 (codes ")" ++ t)
        → ReadsBranches total depth s t (chart.more d chart.none) offsets
    next : {total depth : ℕ} {s s1 s2 t : List ℕ} {d : Diagram} {others : Diagrams} {offsets offsets2 : Offsets}
        → Reads total depth s s1 d offsets → Skips s1 (codes "," ++ s2) → ReadsBranches total depth s2 t others offsets2
        → ReadsBranches total depth s t (chart.more d others) (offsets_joined offsets offsets2)

  -- { cond ":" chart "," } "else" ":" chart ")"
  pub data ReadsCases : ℕ → ℕ → List ℕ → List ℕ → Cases → Offsets → Type 0 where
    last_case : {total depth : ℕ} {s s1 s2 s3 t : List ℕ} {d : Diagram} {offsets : Offsets}
        → Skips s (codes "else" ++ s1) → Skips s1 (codes ":" ++ s2) → Reads total depth s2 s3 d offsets → Skips s3 (codes ")" ++ t)
        → ReadsCases total depth s t (chart.otherwise d) offsets
    next_case : {total depth : ℕ} {s s1 s2 s3 s4 t : List ℕ} {c : Condition} {d : Diagram} {others : Cases} {offsets offsets2 offsets3 : Offsets}
        → ReadsCond total s s1 c offsets → Skips s1 (codes ":" ++ s2) → Reads total depth s2 s3 d offsets2
        → Skips s3 (codes "," ++ s4) → ReadsCases total depth s4 t others offsets3
        → ReadsCases total depth s t (chart.when c d others) (offsets_joined offsets (offsets_joined offsets2 offsets3))

-- the text is one of the chart but for numbers out of range
pub data IsWideChart : List ℕ → Diagram → Offsets → Type 0 where
  whole : {text t : List ℕ} {d : Diagram} {offsets : Offsets} → Reads (length text) MAX_DEPTH text t d offsets → Skips t [] → IsWideChart text d offsets

-- the text is one of the chart, and its `par`s open at the offsets
abbrev pub IsChartWithPars : List ℕ → Diagram → List ℕ → Type 0
IsChartWithPars text d pars = IsWideChart text d (record { outside = []; pars = pars })

-- the text is one of the chart
abbrev pub IsChart : List ℕ → Diagram → Type 0
IsChart text d = (pars : List ℕ) × IsChartWithPars text d pars
