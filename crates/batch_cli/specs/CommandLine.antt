-- trusted: the command line: one of these commands, or no words at all.
-- - `check [--dot] [--all] [--write FILE] CELL RECIPE..`
-- - `verify CELL CERT RECIPE..`
-- - `show CELL RECIPE..`
-- - `run [--journal FILE] [--echo] [--times] CELL CERT RECIPE..`
-- - `serve [--journal FILE] [--times] DESKS CELL CERT RECIPE..`
-- - `status [RECORD]`
-- - `draw [RECORD]`
-- - `audit [--beginning] RECORD CELL CERT RECIPE..`
-- - `plant [--batches N] [--ticks N] [--ring N] [CELL CERT RECIPE..]`
-- - `explain [CODE..]`
-- The first five and `audit` also take `--quiet`.
use Rattle.std.specs.Prelude.{◌≡◌, ◌≢◌, ◌⊎◌, [], ◌∷◌, ℕ, Bool, List, Option, Some, None, map, option_map, is_some, codes, true, false, ◌&&◌, ◌||◌, not, unwrap_or, string_bytes, if◌then◌else◌, ⊤}
use Rattle.std.specs.Str.{bytes_eq}
use Rattle.std.specs.Str.Parse.{digits_value, without_leading_plus}
use Rattle.clap.specs.Lexer.{usize_max}
use Rattle.clap.specs.Faults.{fault_of}
use Rattle.clap.specs.Kinds.{Kinds, IsAmong, or_else}
use Rattle.clap.specs.ValueTests.{is_unsigned_in}
use Rattle.clap.specs.Walk.{Row, Rule, Text, first_of, all_of}
use Rattle.clap.specs.Simple.{App, new_app, new_rule, on_top, subcommand_of, with_rule, with_subcommand}
use Rattle.clap.specs.declared.builder.action.ArgAction.TheVariants.{Set, Append, SetTrue}
use Rattle.clap.specs.declared.builder.value_parser.ValueParser.TheVariants.{Unsigned}
use Rattle.clap.specs.declared.error.kind.ErrorKind.{ErrorKind}
use Rattle.clap.specs.declared.error.kind.ErrorKind.TheVariants.{DisplayHelp, DisplayVersion, MissingRequiredArgument, OutOfMemory}
use Rattle.batch_cli.specs.declared.command.Subcommand.{Subcommand}
use Rattle.batch_cli.specs.declared.command.Subcommand.TheVariants.{Judge, Serve, ServeDesks, Status, Audit, Plant, Explain, Keep, Write, Remark, Picture}
use Rattle.batch_cli.specs.declared.command.Judgement as judgements
use Rattle.batch_cli.specs.declared.command.Judgement.TheVariants.{Check, Draw, Verify, Show}
use Rattle.batch_cli.specs.declared.command.SetSource as sources
use Rattle.batch_cli.specs.declared.command.SetSource.TheVariants.{Demo, Documents}
use Rattle.batch_cli.specs.declared.command.CommandWords.{CommandWords}
use Rattle.batch_cli.specs.declared.command.CommandFault.{CommandFault}
use Rattle.batch_cli.specs.declared.command.CommandFault.TheVariants.{Help, Usage, Memory}
use Rattle.batch_cli.specs.declared.plant_options.PlantOptions.{PlantOptions}

-- a word that has to be there
abbrev pub word_rule : Text → Rule
word_rule name = record (new_rule name) { required = true; action = Some Set }

-- a word that may be left out
abbrev pub optional_rule : Text → Rule
optional_rule name = record (new_rule name) { action = Some Set }

-- any number of words, as the paths of recipes
abbrev pub several_rule : Text → Rule
several_rule name = record (new_rule name) {
  action = Some Append;
  range = Some (record { start_inclusive = 0; end_inclusive = usize_max });
}

-- a flag behind two dashes, as `--quiet`
abbrev pub flag_rule : Text → Rule
flag_rule name = record (new_rule name) { long = Some name; action = Some SetTrue }

-- an option that takes a number of this range, as `--batches 7`
abbrev pub number_rule : Text → ℕ → ℕ → Rule
number_rule name least most = record (new_rule name) {
  long = Some name;
  value_names = 1;
  action = Some Set;
  parser = Some (Unsigned least most);
}

-- an option that takes a path, as `--write FILE`
abbrev pub path_rule : Text → Rule
path_rule name = record (new_rule name) { long = Some name; value_names = 1; action = Some Set }

abbrev pub check_app : App
check_app = with_rule (with_rule (with_rule (with_rule (with_rule (with_rule (new_app (codes "check"))
    (word_rule (codes "CELL"))) (several_rule (codes "RECIPE"))) (flag_rule (codes "dot"))) (path_rule (codes "write"))) (flag_rule (codes "all")))
    (flag_rule (codes "quiet"))

-- `verify`, and `run` without its options, by the name
abbrev pub certified_app : Text → App
certified_app name = with_rule (with_rule (with_rule (with_rule (new_app name)
    (word_rule (codes "CELL"))) (word_rule (codes "CERT"))) (several_rule (codes "RECIPE"))) (flag_rule (codes "quiet"))

abbrev pub show_app : App
show_app = with_rule (with_rule (with_rule (new_app (codes "show"))
    (word_rule (codes "CELL"))) (several_rule (codes "RECIPE"))) (flag_rule (codes "quiet"))

abbrev pub run_app : App
run_app = with_rule (with_rule (with_rule (certified_app (codes "run")) (path_rule (codes "journal"))) (flag_rule (codes "echo"))) (flag_rule (codes "times"))

abbrev pub serve_app : App
serve_app = with_rule (with_rule (with_rule (with_rule (with_rule (with_rule (with_rule (new_app (codes "serve"))
    (word_rule (codes "DESKS"))) (word_rule (codes "CELL"))) (word_rule (codes "CERT"))) (several_rule (codes "RECIPE")))
    (path_rule (codes "journal"))) (flag_rule (codes "times"))) (flag_rule (codes "quiet"))

abbrev pub status_app : App
status_app = with_rule (new_app (codes "status")) (optional_rule (codes "RECORD"))

abbrev pub draw_app : App
draw_app = with_rule (new_app (codes "draw")) (optional_rule (codes "RECORD"))

abbrev pub audit_app : App
audit_app = with_rule (with_rule (with_rule (with_rule (with_rule (with_rule (new_app (codes "audit"))
    (word_rule (codes "RECORD"))) (word_rule (codes "CELL"))) (word_rule (codes "CERT"))) (several_rule (codes "RECIPE")))
    (flag_rule (codes "beginning"))) (flag_rule (codes "quiet"))

abbrev pub plant_app : App
plant_app = with_rule (with_rule (with_rule (with_rule (with_rule (with_rule (new_app (codes "plant"))
    (optional_rule (codes "CELL"))) (optional_rule (codes "CERT"))) (several_rule (codes "RECIPE")))
    (number_rule (codes "batches") 1 100)) (number_rule (codes "ticks") 0 1000)) (number_rule (codes "ring") 1 64)

abbrev pub explain_app : App
explain_app = with_rule (new_app (codes "explain")) (several_rule (codes "CODE"))

abbrev pub bare_app : App
bare_app = on_top (λ s. record s { has_version = true; no_binary_name = true }) (new_app (codes "batchd"))

-- the whole command line
abbrev pub program_app : App
program_app =
    with_subcommand (with_subcommand (with_subcommand (with_subcommand (with_subcommand (with_subcommand (with_subcommand (with_subcommand (with_subcommand (with_subcommand bare_app
    check_app.top) (certified_app (codes "verify")).top) show_app.top) run_app.top) serve_app.top) status_app.top) draw_app.top) audit_app.top) plant_app.top)
    explain_app.top

-- the word that was given for an argument
abbrev pub word_of : Text → List Row → Text
word_of name rows = unwrap_or (first_of name rows) []

abbrev pub words_of : Text → List Row → List Text
words_of name rows = unwrap_or (all_of name rows) []

-- a flag was given: clap has the text `true` for it
abbrev pub is_given : Text → List Row → Bool
is_given name rows = bytes_eq (word_of name rows) (codes "true")

-- the number that was given for an option, or the usual one if none was. A word that gives no number of the range is refused
abbrev pub number_given : ℕ → ℕ → ℕ → Option Text → ℕ
number_given least most usual None = usual
number_given least most usual (Some text) =
    if is_unsigned_in least most text then digits_value 10 (without_leading_plus text) else usual

abbrev pub batches_of : List Row → ℕ
batches_of rows = number_given 1 100 3 (first_of (codes "batches") rows)

abbrev pub ticks_of : List Row → ℕ
ticks_of rows = number_given 0 1000 5 (first_of (codes "ticks") rows)

abbrev pub ring_of : List Row → ℕ
ring_of rows = number_given 1 64 1 (first_of (codes "ring") rows)

abbrev pub HasOptionsOf : List Row → PlantOptions → Type 0
HasOptionsOf rows options = (options.batches ≡ batches_of rows) × (options.ticks ≡ ticks_of rows) × (options.ring ≡ ring_of rows)

-- The request of the words

-- documents that are to be judged, by their paths
pub data Judgement : Type 0 where
  -- every refusal is to be reported with `all`, else the first alone
  check : (all : Bool) (cell : Text) (recipes : List Text) → Judgement
  -- to draw the orders in which recipes ask for resources
  draw : (all : Bool) (cell : Text) (recipes : List Text) → Judgement
  verify : (cell certificate : Text) (recipes : List Text) → Judgement
  -- to show their nodes
  show : (cell : Text) (recipes : List Text) → Judgement

-- the source of the set that is to be served, or whose plant is to be run: the demo, or the documents at these paths
pub data SetSource : Type 0 where
  demo : SetSource
  documents : (cell certificate : Text) (recipes : List Text) → SetSource

pub data Request : Type 0 where
  judge : Judgement → Request
  -- to write the text of a judgement that accepts into the file at this path
  write : (path : Text) → Judgement → Request
  serve : SetSource → Request
  -- to serve it with comments in the record: the lines, or times, or both
  remark : (source : SetSource) (echo times : Bool) → Request
  -- to serve the set of the documents at these paths, with a journal in the file at the first one, and with comments in the record or
  -- without them
  keep : (journal cell certificate : Text) (recipes : List Text) (echo times : Bool) → Request
  -- to serve the desks of one document over the set of the others, with a journal in the file at the first path if there is one, and
  -- with times in the record or without them
  serve_desks : (journal : Option Text) (desks cell certificate : Text) (recipes : List Text) (times : Bool) → Request
  -- to report the content of the record at this path, or of the one on standard input
  tell : (path : Option Text) → Request
  -- to draw its content
  picture : (path : Option Text) → Request
  -- to compare the record at this path with the record that event lines give over a set; a prefix of that may be accepted
  audit : (beginning : Bool) (path : Text) (source : SetSource) → Request
  -- to run a plant for so many batches, with phases of so many ticks and rings of so many places
  plant : (source : SetSource) (batches ticks ring : ℕ) → Request
  -- to explain the first code in these texts, or without texts to print the meaning of each code
  explain : (texts : List Text) → Request

-- the judgement that the words behind `check` ask for
abbrev pub judged_by : List Row → Judgement
judged_by rows =
    if is_given (codes "dot") rows then draw (is_given (codes "all") rows) (word_of (codes "CELL") rows) (words_of (codes "RECIPE") rows)
    else check (is_given (codes "all") rows) (word_of (codes "CELL") rows) (words_of (codes "RECIPE") rows)

-- its text is printed, or written into the file that they name
abbrev pub written_by : Option Text → Judgement → Request
written_by None judgement = judge judgement
written_by (Some path) judgement = write path judgement

-- the request of the words behind `check`
abbrev pub checked_by : List Row → Request
checked_by rows = written_by (first_of (codes "write") rows) (judged_by rows)

-- the request of the words behind `show`
abbrev pub shown_by : List Row → Request
shown_by rows = judge (show (word_of (codes "CELL") rows) (words_of (codes "RECIPE") rows))

-- the request to serve, with comments in the record if a flag asks for some
abbrev pub serve_by : SetSource → List Row → Request
serve_by source rows =
    if is_given (codes "echo") rows || is_given (codes "times") rows
    then remark source (is_given (codes "echo") rows) (is_given (codes "times") rows)
    else serve source

-- the request to serve, over a journal if one is named
abbrev pub run_by : Option Text → List Row → Request
run_by None rows = serve_by (documents (word_of (codes "CELL") rows) (word_of (codes "CERT") rows) (words_of (codes "RECIPE") rows)) rows
run_by (Some journal) rows =
    keep journal (word_of (codes "CELL") rows) (word_of (codes "CERT") rows) (words_of (codes "RECIPE") rows) (is_given (codes "echo") rows) (is_given (codes "times") rows)

-- the request of the words behind `verify` or `run`
abbrev pub certified_by : Text → List Row → Request
certified_by name rows =
    if bytes_eq name (codes "verify")
    then judge (verify (word_of (codes "CELL") rows) (word_of (codes "CERT") rows) (words_of (codes "RECIPE") rows))
    else run_by (first_of (codes "journal") rows) rows

-- the request of the words behind `audit`
abbrev pub audited_by : List Row → Request
audited_by rows =
    audit (is_given (codes "beginning") rows) (word_of (codes "RECORD") rows)
    (documents (word_of (codes "CELL") rows) (word_of (codes "CERT") rows) (words_of (codes "RECIPE") rows))

-- the documents of a plant, or the demo's if no cell is given
abbrev pub plant_source : Option Text → List Row → SetSource
plant_source None rows = demo
plant_source (Some cell) rows = documents cell (word_of (codes "CERT") rows) (words_of (codes "RECIPE") rows)

-- the request of the words behind `plant`
abbrev pub planted_by : List Row → Request
planted_by rows = plant (plant_source (first_of (codes "CELL") rows) rows) (batches_of rows) (ticks_of rows) (ring_of rows)

-- the request of the words behind `serve`
abbrev pub desks_by : List Row → Request
desks_by rows =
    serve_desks (first_of (codes "journal") rows) (word_of (codes "DESKS") rows) (word_of (codes "CELL") rows) (word_of (codes "CERT") rows)
    (words_of (codes "RECIPE") rows) (is_given (codes "times") rows)

-- the request of the word that was entered and the words behind it; `program_app` enters no other word, and at `help` clap answers
abbrev pub named_by : Text → List Row → Request
named_by name rows =
    if bytes_eq name (codes "explain") then explain (words_of (codes "CODE") rows)
    else (if bytes_eq name (codes "plant") then planted_by rows
    else (if bytes_eq name (codes "status") then tell (first_of (codes "RECORD") rows)
    else (if bytes_eq name (codes "draw") then picture (first_of (codes "RECORD") rows)
    else (if bytes_eq name (codes "audit") then audited_by rows
    else (if bytes_eq name (codes "serve") then desks_by rows
    else (if bytes_eq name (codes "check") then checked_by rows
    else (if bytes_eq name (codes "show") then shown_by rows else certified_by name rows)))))))

-- the request of the words, whether or not a command was entered
abbrev pub request_or_demo : Option (Text × List Row) → Request
request_or_demo None = serve demo
request_or_demo (Some entered) = named_by entered.0 entered.1

-- the program is to write no sentence on a refusal
abbrev pub asks_quiet : Option (Text × List Row) → Bool
asks_quiet None = false
asks_quiet (Some entered) = is_given (codes "quiet") entered.1

abbrev pub judgement_of : judgements.Judgement → Judgement
judgement_of (Check all cell recipes) = check all (string_bytes cell) (map string_bytes recipes.items)
judgement_of (Draw all cell recipes) = draw all (string_bytes cell) (map string_bytes recipes.items)
judgement_of (Verify cell certificate recipes) = verify (string_bytes cell) (string_bytes certificate) (map string_bytes recipes.items)
judgement_of (Show cell recipes) = show (string_bytes cell) (map string_bytes recipes.items)

abbrev pub source_of : sources.SetSource → SetSource
source_of Demo = demo
source_of (Documents cell certificate recipes) = documents (string_bytes cell) (string_bytes certificate) (map string_bytes recipes.items)

abbrev pub request_of : Subcommand → Request
request_of (Judge judgement) = judge (judgement_of judgement)
request_of (Write path judgement) = write (string_bytes path) (judgement_of judgement)
request_of (Serve source) = serve (source_of source)
request_of (Remark source comments) = remark (source_of source) comments.echo comments.times
request_of (Keep journal cell certificate recipes comments) =
    keep (string_bytes journal) (string_bytes cell) (string_bytes certificate) (map string_bytes recipes.items) comments.echo comments.times
request_of (ServeDesks words) =
    serve_desks (option_map string_bytes words.journal) (string_bytes words.desks) (string_bytes words.cell) (string_bytes words.certificate)
    (map string_bytes words.recipes.items) words.times
request_of (Status path) = tell (option_map string_bytes path)
request_of (Picture path) = picture (option_map string_bytes path)
request_of (Audit words) = audit words.beginning (string_bytes words.path) (source_of words.source)
request_of (Plant source options) = plant (source_of source) options.batches options.ticks options.ring
request_of (Explain texts) = explain (map string_bytes texts.items)

-- the result of the parse is the request of the words
abbrev pub AreWordsOf : Option (Text × List Row) → CommandWords → Type 0
AreWordsOf entered words = (request_of words.command ≡ request_or_demo entered) × (words.quiet ≡ asks_quiet entered)

-- the words ask for a plant of a cell without a recipe; if there is a recipe, the certificate precedes it
abbrev pub lacks_recipe : Option (Text × List Row) → Bool
lacks_recipe None = false
lacks_recipe (Some entered) =
    bytes_eq entered.0 (codes "plant") && (is_some (first_of (codes "CELL") entered.1) && not (is_some (first_of (codes "RECIPE") entered.1)))

abbrev pub missing_kinds : Option (Text × List Row) → Kinds
missing_kinds entered = if lacks_recipe entered then MissingRequiredArgument ∷ [] else []

-- the kinds of faults that the words may have: those that clap finds, or else that a plant lacks a recipe
abbrev pub faults_of : List Text → Kinds
faults_of words = or_else (fault_of program_app words) (missing_kinds (subcommand_of program_app words))

-- the user asks for help, or for the version
abbrev pub IsShown : ErrorKind → Type 0
IsShown kind = (kind ≡ DisplayHelp) ⊎ (kind ≡ DisplayVersion)

-- the fault that the user gets for one of this kind
abbrev pub IsFaultOfKind : ErrorKind → CommandFault → Type 0
IsFaultOfKind kind (Help text) = IsShown kind
IsFaultOfKind kind (Usage text) = (kind ≢ OutOfMemory) × ¬ (IsShown kind)
IsFaultOfKind kind Memory = ⊤

-- help or the version is shown if it was asked for, and every other kind of fault is a fault of usage
abbrev pub IsFaultOf : Kinds → CommandFault → Type 0
IsFaultOf kinds (Help text) = (kind : ErrorKind) × IsAmong kind kinds × IsShown kind
IsFaultOf kinds (Usage text) = (kind : ErrorKind) × IsAmong kind kinds × ¬ (IsShown kind)
IsFaultOf kinds Memory = ⊤
