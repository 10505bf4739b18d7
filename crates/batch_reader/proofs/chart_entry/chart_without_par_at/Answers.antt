use Rattle.std.proofs.Common.{◌≡◌, None}
use Rattle.std.proofs.lemmas.Result.{err_from_is_err_and}
use Rattle.batch_recipe.specs.Diagram.{diagram_of}
use Rattle.batch_reader.proofs.OneEntry.{HasChart_unique}
use Rattle.batch_reader.proofs.chart_entry.chart_without_par_at.Goals as goal

pub returns-in_err-read-clause-refused : goal.returns-in_err-read-clause-refused
returns-in_err-read-clause-refused c =
    let p = err_from_is_err_and c.from_residual.result c.from_residual.ensures.1 in
    rw (p.1, p.2) (λ known chart has no_par. c.in_err-read.ensures.refused known chart has)

pub returns-in-Some-clause-refused : goal.returns-in-Some-clause-refused
returns-in-Some-clause-refused c = λ _ chart has no_par.
    let same : chart ≡ diagram_of c.in_ok-read.read.chart = HasChart_unique _ _ chart (diagram_of c.in_ok-read.read.chart) has c.in_ok-read.ensures.ok in
    let none : c.in_ok-read.read.first_par ≡ None = c.in_ok-read.ensures.read.read.has_par.1 (rw same at no_par) in
    cc (none, c.in-Some.is)
