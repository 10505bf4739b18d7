-- surface: a unit whose phases each run for the same number of ticks, and answer each command at a tick after it.
use Rattle.std.specs.Prelude.{◌≡◌, ℕ, ◌-◌, List, map, position, Bool, true, false, ◌&&◌, Option, Some, None, nat_lt, slice_get, slice_set}
use Rattle.batch_matrix.specs.declared.state.State.{State}
use Rattle.batch_matrix.specs.declared.state.State.TheVariants.{Idle, Running, Paused, Held, Stopped, Aborted, Complete}
use Rattle.batch_matrix.specs.declared.report.Report.{Report}
use Rattle.batch_matrix.specs.declared.report.Report.TheVariants as reports
use Rattle.batch_matrix.specs.Matrix.{same_state, ends_as, target}
use Rattle.batch_sim.specs.declared.order.Order.{Order}
use Rattle.batch_sim.specs.declared.order.Order.TheVariants.{Start, Send}
use Rattle.batch_sim.specs.declared.steady_phase.SteadyPhase.{SteadyPhase}

pub record SteadyView : Type 0 where
  -- the phases, by their numbers
  pub phases : List SteadyPhase
  -- how many ticks a phase runs
  pub ticks : ℕ

abbrev pub unstarted : SteadyPhase
unstarted = record { state = Idle; ticks_left = 0 }

-- Orders

-- not started, or ended
abbrev pub is_unstarted_or_over : State → Bool
is_unstarted_or_over Idle = true
is_unstarted_or_over Complete = true
is_unstarted_or_over Stopped = true
is_unstarted_or_over Aborted = true
is_unstarted_or_over _ = false

-- a started phase has all its ticks to run; a command leads a phase that isn't over to the state of its name
abbrev pub ordered : ℕ → Order → SteadyPhase → SteadyPhase
ordered ticks Start p = record { state = Running; ticks_left = ticks }
ordered ticks (Send command) p = elim (is_unstarted_or_over p.state) [ true ↦ p | false ↦ record p { state = target command } ]

-- an order for a phase that the unit doesn't have changes nothing
abbrev pub Commands : SteadyView → ℕ → Order → SteadyView → Type 0
Commands old phase order new =
    elim (slice_get old.phases phase) [
      | None ↦ new ≡ old
      | Some p ↦ new ≡ record old { phases = slice_set old.phases phase (ordered old.ticks order p) }
    ]

-- Ticks

-- one tick passes: a running phase has a tick less to run
abbrev pub after_tick : SteadyPhase → SteadyPhase
after_tick p = elim (same_state p.state Running) [ true ↦ record p { ticks_left = p.ticks_left - 1 } | false ↦ p ]

-- the state as which the phase ends by itself now; one that runs does so when it has no tick left
abbrev pub end_of : SteadyPhase → Option State
end_of p = elim (same_state p.state Running && nat_lt 0 p.ticks_left) [ true ↦ None | false ↦ ends_as p.state ]

abbrev pub is_report_due : SteadyPhase → Bool
is_report_due p = elim (end_of p) [ None ↦ false | Some state ↦ true ]

-- the report of an end
abbrev pub report_of_end : State → Report
report_of_end Paused = reports.Paused
report_of_end Held = reports.Held
report_of_end Running = reports.Running
report_of_end Stopped = reports.Stopped
report_of_end Aborted = reports.Aborted
report_of_end _ = reports.Done

-- the phase with the least number among those that end now does so and reports it
abbrev pub Reports : List SteadyPhase → Option (ℕ × Report) → List SteadyPhase → Type 0
Reports old answer new =
    elim (position is_report_due old) [
      | None ↦ (answer ≡ None) × (new ≡ old)
      | Some number ↦
          (phase : SteadyPhase) × (end : State) × (slice_get old number ≡ Some phase) × (end_of phase ≡ Some end)
          × (answer ≡ Some (number, report_of_end end)) × (new ≡ slice_set old number (record phase { state = end }))
    ]

-- one tick passes at all phases, and then at most one reports
abbrev pub TicksSteadily : SteadyView → Option (ℕ × Report) → SteadyView → Type 0
TicksSteadily old answer new = Reports (map after_tick old.phases) answer new.phases × (new.ticks ≡ old.ticks)
