-- worked rows: parts that the worked rows share: places, events, and pieces of records.
use Rattle.std.specs.Prelude.{ℕ, List, [], ◌∷◌}
use Rattle.batch_matrix.specs.declared.state.State.TheVariants.{Running, Complete}
use Rattle.batch_matrix.specs.declared.command.Command.TheVariants.{Start}
use Rattle.batch_matrix.specs.declared.report.Report.{Report}
use Rattle.batch_recipe.specs.Conditions.{Name}
use Rattle.batch_recipe.specs.Tree.{Place, Phase}
use Rattle.batch_recipe.specs.Needs.{one_unit}
use Rattle.batch_model.specs.Plant.{Setup, Plant, opening}
use Rattle.batch_model.specs.Moves.{release, begin, end, ask, grant, state, start}
use Rattle.batch_model.specs.Events.{Event, create, report, created, ordered, reported, refused, Refusal, react}
use Rattle.batch_model.specs.Runs.{Out, reply, move, settling, work_left}
use Rattle.batch_examples.specs.RowDocuments.{r1, add, name_a, make, charge}

-- Places, each called by its child numbers

abbrev pub p0 : Place
p0 = 0 ∷ []

abbrev pub p00 : Place
p00 = 0 ∷ 0 ∷ []

abbrev pub p000 : Place
p000 = 0 ∷ 0 ∷ 0 ∷ []

abbrev pub p001 : Place
p001 = 0 ∷ 0 ∷ 1 ∷ []

abbrev pub p0000 : Place
p0000 = 0 ∷ 0 ∷ 0 ∷ 0 ∷ []

abbrev pub p0010 : Place
p0010 = 0 ∷ 0 ∷ 1 ∷ 0 ∷ []

abbrev pub p00000 : Place
p00000 = 0 ∷ 0 ∷ 0 ∷ 0 ∷ 0 ∷ []

abbrev pub p00001 : Place
p00001 = 0 ∷ 0 ∷ 0 ∷ 0 ∷ 1 ∷ []

abbrev pub p00002 : Place
p00002 = 0 ∷ 0 ∷ 0 ∷ 0 ∷ 2 ∷ []

abbrev pub p00100 : Place
p00100 = 0 ∷ 0 ∷ 1 ∷ 0 ∷ 0 ∷ []

abbrev pub p000010 : Place
p000010 = 0 ∷ 0 ∷ 0 ∷ 0 ∷ 1 ∷ 0 ∷ []

abbrev pub p000011 : Place
p000011 = 0 ∷ 0 ∷ 0 ∷ 0 ∷ 1 ∷ 1 ∷ []

-- Events

abbrev pub create_a : Event
create_a = create name_a 1000 []

-- the phase has taken the report, and sets no output
abbrev pub says : Name → Name → Report → Event
says unit phase word = report unit phase word []

abbrev pub add_done : Event
add_done = says r1 add Report.Done

-- Pieces of records

-- a phase on a unit that is handed no values
abbrev pub on : Name → Name → Phase
on unit name = record { unit = unit; name = name; handed = []; reports = [] }

-- ADD on R1, which reports these outputs
abbrev pub add_reporting : List Name → Phase
add_reporting outputs = record { unit = r1; name = add; handed = []; reports = outputs }

-- a phase begins, and no values are handed to it
abbrev pub starts : ℕ → Place → Name → Name → Out
starts n p unit phase = move (start n p (on unit phase) [])

-- one unit of a resource's capacity is asked for, granted, given back
abbrev pub asks : ℕ → Place → Name → Out
asks n p resource = move (ask n p (one_unit resource))

abbrev pub grants : ℕ → Place → Name → Out
grants n p resource = move (grant n p (one_unit resource))

abbrev pub releases : ℕ → Place → Name → Out
releases n p resource = move (release n p (one_unit resource))

abbrev pub refuses : Refusal → Out
refuses r = reply (refused r)

-- a batch of one unit comes to its operation, once it holds the unit
abbrev pub entered : ℕ → Name → Name → List Out → List Out
entered n unit_procedure operation more = move (begin n p00 unit_procedure) ∷ move (begin n p000 operation) ∷ more

-- a batch of one unit is started and comes to its operation
abbrev pub opened : ℕ → Name → Name → Name → Name → List Out → List Out
opened n recipe unit unit_procedure operation more =
    reply (ordered Start n Running)
    ∷ move (begin n p0 recipe)
    ∷ asks n p00 unit
    ∷ grants n p00 unit
    ∷ entered n unit_procedure operation more

-- a batch of one unit is finished
abbrev pub closed : ℕ → Name → List Out → List Out
closed n unit more =
    move (end n p000) ∷ move (end n p00) ∷ releases n p00 unit ∷ move (end n p0) ∷ move (state n Complete) ∷ more

abbrev pub created_a : ℕ → Out
created_a n = reply (created n name_a 1000 [])

-- a batch of A is started and comes to its phase
abbrev pub opened_a : ℕ → List Out → List Out
opened_a n more = opened n name_a r1 make charge (starts n p0000 r1 add ∷ more)

-- its phase is done, and so is the batch
abbrev pub finished_a : ℕ → List Out → List Out
finished_a n more = reply (reported r1 add Report.Done n p0000 Running) ∷ closed n r1 more

-- Plants

-- the plant after events, each followed by all moves that become possible
abbrev pub settled_from : Setup → Plant → List Event → Plant
settled_from c s [] = s
settled_from c s (e ∷ es) = let t = (react c s e).1 in settled_from c (settling (work_left t) c t).1 es

abbrev pub settled_after : Setup → List Event → Plant
settled_after c es = settled_from c opening es
