-- surface: the meaning of a run's exit status.
use Rattle.std.specs.Prelude.{◌≡◌, ◌⊎◌, ℕ, Bool, List}
use Rattle.std.specs.Io.KnownBytes.{Appends}
use Rattle.clap.specs.Walk.{Text}
use Rattle.batch_verify.specs.ClearedSet.{ClearedSet}
use Rattle.batch_cli.specs.CommandLine.{Request, SetSource, audit, demo, explain, judge, plant, serve, tell, keep, write, remark, picture, serve_desks}
use Rattle.batch_verdicts.specs.Reading.{Gives}
use Rattle.batch_verdicts.specs.Requests.{HaltsDemo, IsDemoSet, IsSetOf, IsVerdictText}
use Rattle.batch_verdicts.specs.Running.{AskFor, IsRun, Stream, ask_quiet, memory_status}
use Rattle.batch_verdicts.specs.Saying.{IsWarned}
use Rattle.batch_messages.specs.Explaining.{TellsCodes}
use Rattle.batch_verdicts.specs.declared.course.Course.{Course}
use Rattle.batch_verdicts.specs.declared.course.Course.TheVariants.{Ends, Serves}
use Rattle.batch_verdicts.specs.declared.refusal.Halt.{Halt}

-- the explanation that the texts ask for was written
abbrev pub AreCodesTold : List Text → Stream → Type 0
AreCodesTold texts output = (text : List ℕ) × TellsCodes texts text × Appends output.before output.after text

-- `check` wrote the certificate with the least ranks, or the drawing of recipes that can be cleared. `show` wrote the recipes' nodes.
-- `verify` wrote that it accepts the set of the documents, which their certificate clears. `explain` wrote the explanation. On the errors
-- `check` and `verify` wrote their warnings alone. Nothing else ends so before it has served or written a file
abbrev pub IsSuccess : Gives → Bool → Request → Stream → Stream → Type 0
IsSuccess gives quiet (judge judgement) output errors =
    (text : List ℕ) × Appends output.before output.after text × IsVerdictText gives (IsWarned quiet errors.before errors.after) judgement text
IsSuccess gives quiet (keep journal cell certificate recipes echo times) output errors = ⊥
IsSuccess gives quiet (audit beginning path source) output errors = ⊥
IsSuccess gives quiet (write path judgement) output errors = ⊥
IsSuccess gives quiet (serve source) output errors = ⊥
IsSuccess gives quiet (remark source echo times) output errors = ⊥
IsSuccess gives quiet (serve_desks journal path cell certificate recipes times) output errors = ⊥
IsSuccess gives quiet (tell path) output errors = ⊥
IsSuccess gives quiet (picture path) output errors = ⊥
IsSuccess gives quiet (plant source batches ticks ring) output errors = ⊥
IsSuccess gives quiet (explain texts) output errors = AreCodesTold texts output

-- a command that ends with status 0 was a success
abbrev pub SuccessIsTold : Gives → Type 0
SuccessIsTold gives =
    (words : List Text) (output errors : Stream) (request : Request)
    → AskFor words request → IsRun gives words output errors (Ends 0) → IsSuccess gives (ask_quiet words) request output errors

-- a set is served only if the words ask for it, and it is that of the documents, cleared by their certificate
abbrev pub ServesClearedSets : Gives → Type 0
ServesClearedSets gives =
    (words : List Text) (output errors : Stream) (request : Request) (set : ClearedSet) (quiet : Bool)
    → AskFor words request → IsRun gives words output errors (Serves set quiet)
    → (source : SetSource) × (request ≡ serve source) × IsSetOf gives source set × (quiet ≡ ask_quiet words)

-- if the words name no command, the demo is to be served, unless memory ran out, or the demo's documents say why not
abbrev pub NoCommandServes : Gives → Type 0
NoCommandServes gives =
    (words : List Text) (output errors : Stream) (course : Course)
    → AskFor words (serve demo) → IsRun gives words output errors course
    → ((set : ClearedSet) × IsDemoSet set × (course ≡ Serves set (ask_quiet words))) ⊎ ((h : Halt) × HaltsDemo h) ⊎ (course ≡ Ends memory_status)
