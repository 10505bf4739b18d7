-- The report of a steady unit at a tick.
use Rattle.std.proofs.Common.{◌≡◌, ℕ, List, true, false, Option, Some, None, get_or, slice_get, slice_set, position, refl, sym, ◌∙◌}
use Rattle.std.proofs.lemmas.{List.Quantifiers.position-Some, Option.slice_get-get_or}
use Rattle.batch_matrix.specs.declared.{state.State.State, report.Report.Report}
use Rattle.batch_sim.specs.{SteadyUnit.is_report_due, SteadyUnit.end_of, SteadyUnit.report_of_end, SteadyUnit.Reports, declared.steady_phase.SteadyPhase.SteadyPhase}

pub reported : (old new : List SteadyPhase) (n : ℕ) (d : SteadyPhase) (end : State) (answer : Option (ℕ × Report)) → position is_report_due old ≡ Some n
    → end_of (get_or old n d) ≡ Some end → answer ≡ Some (n, report_of_end end) → new ≡ slice_set old n (record (get_or old n d) { state = end }) → Reports old answer new
reported old new n d end answer e is told changed =
    let here : slice_get old n ≡ Some (get_or old n d) = slice_get-get_or old n d (position-Some is_report_due old n d e).0 in
    rw (e, Reports) (get_or old n d, end, here, is, told, changed)

-- a phase that is due ends
pub due_ends : (old : List SteadyPhase) (n : ℕ) (d : SteadyPhase) → position is_report_due old ≡ Some n → end_of (get_or old n d) ≡ None → ⊥
due_ends old n d e none =
    let due : is_report_due (get_or old n d) ≡ true = (position-Some is_report_due old n d e).1 in
    let not : is_report_due (get_or old n d) ≡ false = rw (none, is_report_due) refl in
    let no : true ≡ false = sym due ∙ not in
    cc
