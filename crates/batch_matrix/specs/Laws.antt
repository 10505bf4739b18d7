-- surface: the laws of the cells of the state matrix.
use Rattle.std.specs.Prelude.{◌≡◌, Option, Some, None, ⊤}
use Rattle.batch_matrix.specs.declared.state.State.{State}
use Rattle.batch_matrix.specs.declared.command.Command.{Command}
use Rattle.batch_matrix.specs.Matrix.{after, target}

-- an accepted command leads to the state of its name
abbrev pub LeadsByName : Command → Option State → Type 0
LeadsByName command None = ⊤
LeadsByName command (Some next) = next ≡ target command

abbrev pub CommandsLeadByName : Type 0
CommandsLeadByName = (state : State) (command : Command) → LeadsByName command (after state command)
