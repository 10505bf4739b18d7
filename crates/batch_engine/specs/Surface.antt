-- trusted: the events, replies and moves that cross the engine's surface, in the terms of the machine's definitions.
use Rattle.std.specs.Prelude.{Option, Some, None}
use Rattle.std.specs.List.{zip}
use Rattle.batch_model.specs.Events as Events
use Rattle.batch_model.specs.Moves as Moves
use Rattle.batch_model.specs.Plant.{Plant}
use Rattle.batch_model.specs.Runs as Runs
use Rattle.batch_verify.specs.ClearedSet.{ClearedSet}
use Rattle.batch_engine.specs.Names.{resource_name, need_of, phase_name, recipe_name, roles_taken, value_name, output_name, recipe_place_at, chart_act_name_at, handed_at, phase_run_at}
use Rattle.batch_engine.specs.declared.event.Event.{Event}
use Rattle.batch_engine.specs.declared.line.ClaimKind.{ClaimKind}
use Rattle.batch_engine.specs.declared.line.Line.{Line}
use Rattle.batch_engine.specs.declared.out.Out.{Out}
use Rattle.batch_engine.specs.declared.refusal.Refusal.{Refusal}
use Rattle.batch_engine.specs.declared.reply.Reply.{Reply}

abbrev pub event_of : Event → Events.Event
event_of (Event.Create recipe size roles) = Events.create recipe size roles.items
event_of (Event.Order command batch) = Events.order command batch
event_of (Event.Remove batch) = Events.remove batch
event_of (Event.Report told) = Events.report told.unit told.phase told.word told.outputs.items

abbrev pub refusal_of : ClearedSet → Refusal → Events.Refusal
refusal_of c Refusal.UnknownRecipe = Events.unknown_recipe
refusal_of c Refusal.UnknownBatch = Events.unknown_batch
refusal_of c (Refusal.CommandNotAccepted state) = Events.command_not_accepted state
refusal_of c Refusal.NoLivePhase = Events.no_live_phase
refusal_of c (Refusal.ReportNotExpected state) = Events.report_not_expected state
refusal_of c Refusal.BadOutput = Events.bad_output
refusal_of c (Refusal.OutputLeftOut recipe node output) = Events.output_left_out (output_name c recipe node output)
refusal_of c Refusal.BadBinding = Events.bad_binding
refusal_of c Refusal.BadSize = Events.bad_size
refusal_of c (Refusal.BadValue recipe value) = Events.bad_value (value_name c recipe value)
refusal_of c Refusal.Full = Events.full
refusal_of c (Refusal.NotIdle state) = Events.not_idle state
refusal_of c Refusal.MovesPending = Events.moves_pending
refusal_of c Refusal.Memory = Events.no_memory

abbrev pub reply_of : ClearedSet → Reply → Events.Reply
reply_of c (Reply.Created batch recipe size units) = Events.created batch (recipe_name c recipe) size (roles_taken c recipe units)
reply_of c (Reply.Ordered command batch state) = Events.ordered command batch state
reply_of c (Reply.Removed batch) = Events.removed batch
reply_of c (Reply.Reported unit phase word batch recipe node state) =
    Events.reported (resource_name c unit) (phase_name c unit phase) word batch (recipe_place_at c recipe node) state
reply_of c (Reply.Refused refusal) = Events.refused (refusal_of c refusal)

abbrev pub move_of : ClearedSet → Line → Moves.Move
move_of c (Line.Send batch recipe node unit phase command) =
    Moves.send batch (recipe_place_at c recipe node) (phase_run_at c recipe node unit phase) command
move_of c (Line.State batch state) = Moves.state batch state
move_of c (Line.Begin batch recipe node) = Moves.begin batch (recipe_place_at c recipe node) (chart_act_name_at c recipe node)
move_of c (Line.Start batch recipe node unit phase values) =
    Moves.start batch (recipe_place_at c recipe node) (phase_run_at c recipe node unit phase) (zip (handed_at c recipe node) values)
move_of c (Line.End batch recipe node) = Moves.end batch (recipe_place_at c recipe node)
move_of c (Line.Pass batch recipe node to resource units) = Moves.pass batch (recipe_place_at c recipe node) (recipe_place_at c recipe to) (need_of c resource units)
move_of c (Line.Claim ClaimKind.Asked batch recipe node resource units) = Moves.ask batch (recipe_place_at c recipe node) (need_of c resource units)
move_of c (Line.Claim ClaimKind.Granted batch recipe node resource units) = Moves.grant batch (recipe_place_at c recipe node) (need_of c resource units)
move_of c (Line.Claim ClaimKind.Released batch recipe node resource units) = Moves.release batch (recipe_place_at c recipe node) (need_of c resource units)

abbrev pub out_of : ClearedSet → Out → Runs.Out
out_of c (Out.Reply reply) = Runs.reply (reply_of c reply)
out_of c (Out.Move line) = Runs.move (move_of c line)

-- the plant after the move that was made, or the same plant if none was
abbrev pub plant_after : ClearedSet → Plant → Option Line → Plant
plant_after c s None = s
plant_after c s (Some line) = Moves.after_move s (move_of c line)
