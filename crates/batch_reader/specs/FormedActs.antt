-- private: the facts of each act that its own table decides, whatever the others declare.
use Rattle.std.specs.Prelude.{◌≡◌, ◌≤◌, true, List, length, All}
use Rattle.std.specs.List.{list_all}
use Rattle.batch_reader.specs.ChartForm.{IsFormed}
use Rattle.batch_recipe.specs.Diagram.{diagram_of}
use Rattle.batch_recipe.specs.WellFormed.{follows_no_par, reports_few, reserves_none}
use Rattle.batch_recipe.specs.declared.act.Act.{Act}
use Rattle.batch_recipe.specs.declared.act.TheConstants.{MAX_VALUES}
use Rattle.batch_recipe.specs.declared.act.Work.{Work}
use Rattle.batch_recipe.specs.declared.act.Work.TheVariants.{Follows, Runs}
use Rattle.batch_recipe.specs.declared.acts.Acts.{Acts}

-- the chart is one of the grammar; a phase is handed few values
abbrev pub IsFormedWork : Work → Type 0
IsFormedWork (Follows c) = IsFormed (diagram_of c)
IsFormedWork (Runs phase handed reports) = length handed.items ≤ MAX_VALUES

abbrev pub AreFormedActs : List Act → Type 0
AreFormedActs table = All (λ a. IsFormedWork a.work) table

-- each act's work is formed, no unit procedure's chart has a `par`, each phase step reports few outputs, and the procedure
-- reserves nothing
pub record AreFormed (acts : Acts) : Type 0 where
  pub procedure : IsFormedWork acts.procedure.work
  pub unit_procedures : AreFormedActs acts.unit_procedures.items
  pub no_par : list_all follows_no_par acts.unit_procedures.items ≡ true
  pub operations : AreFormedActs acts.operations.items
  pub phases : AreFormedActs acts.phases.items
  pub few_reports : list_all reports_few acts.phases.items ≡ true
  pub no_reserves : reserves_none acts.procedure ≡ true
