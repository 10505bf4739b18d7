-- Subcommand lines that are written out, computed in the definitions.
use Rattle.std.proofs.Common.{◌≡◌, ℕ, Bool, true, false, List, [], ◌∷◌, Option, Some, None, codes, refl, option_map}
use Rattle.clap.{specs.Faults.fault_of, specs.Simple.subcommand_of, specs.Walk.Text, specs.Walk.Row, specs.Walk.first_of, specs.declared.error.kind.ErrorKind.TheVariants.DisplayHelp, specs.declared.error.kind.ErrorKind.TheVariants.DisplayVersion, specs.declared.error.kind.ErrorKind.TheVariants.InvalidSubcommand, specs.declared.error.kind.ErrorKind.TheVariants.MissingRequiredArgument, specs.declared.error.kind.ErrorKind.TheVariants.UnknownArgument, specs.declared.error.kind.ErrorKind.TheVariants.ValueValidation, proofs.OnLiterals.clap_on_literals}
use Rattle.batch_cli.specs.CommandLine.{request_or_demo, batches_of, demo, documents, faults_of, is_given, plant, keep, program_app, ring_of, serve_desks, ticks_of, word_of, words_of}

abbrev check_line : List Text
check_line = codes "check" ∷ codes "c" ∷ codes "r" ∷ codes "s" ∷ []

abbrev verify_line : List Text
verify_line = codes "verify" ∷ codes "c" ∷ codes "k" ∷ []

abbrev run_line : List Text
run_line = codes "run" ∷ codes "c" ∷ codes "k" ∷ codes "r" ∷ []

-- the name, the cell, the certificate and the recipes of the command that was entered
abbrev entered_words : Option (Text × List Row) → Option (Text × Text × Text × List Text)
entered_words = option_map (λ p. (p.0, word_of (codes "CELL") p.1, word_of (codes "CERT") p.1, words_of (codes "RECIPE") p.1))

no_words : subcommand_of program_app [] ≡ None
unfolding clap_on_literals
no_words = refl

no_words_taken : fault_of program_app [] ≡ []
unfolding clap_on_literals
no_words_taken = refl

check_entered : entered_words (subcommand_of program_app check_line) ≡ Some (codes "check", codes "c", [], codes "r" ∷ codes "s" ∷ [])
unfolding clap_on_literals
check_entered = refl

check_taken : fault_of program_app check_line ≡ []
unfolding clap_on_literals
check_taken = refl

verify_entered : entered_words (subcommand_of program_app verify_line) ≡ Some (codes "verify", codes "c", codes "k", [])
unfolding clap_on_literals
verify_entered = refl

verify_taken : fault_of program_app verify_line ≡ []
unfolding clap_on_literals
verify_taken = refl

run_entered : entered_words (subcommand_of program_app run_line) ≡ Some (codes "run", codes "c", codes "k", codes "r" ∷ [])
unfolding clap_on_literals
run_entered = refl

run_taken : fault_of program_app run_line ≡ []
unfolding clap_on_literals
run_taken = refl

-- a journal

abbrev journal_line : List Text
journal_line = codes "run" ∷ codes "--journal" ∷ codes "j" ∷ codes "c" ∷ codes "k" ∷ codes "r" ∷ []

-- the name, the journal if there is one, and the recipes of the command that was entered
abbrev entered_journal : Option (Text × List Row) → Option (Text × Option Text × List Text)
entered_journal = option_map (λ p. (p.0, first_of (codes "journal") p.1, words_of (codes "RECIPE") p.1))

journal_is_read : entered_journal (subcommand_of program_app journal_line) ≡ Some (codes "run", Some (codes "j"), codes "r" ∷ [])
unfolding clap_on_literals
journal_is_read = refl

journal_is_taken : fault_of program_app journal_line ≡ []
unfolding clap_on_literals
journal_is_taken = refl

no_journal_is_read : entered_journal (subcommand_of program_app run_line) ≡ Some (codes "run", None, codes "r" ∷ [])
unfolding clap_on_literals
no_journal_is_read = refl

verify_has_no_journal : fault_of program_app (codes "verify" ∷ codes "--journal" ∷ codes "j" ∷ codes "c" ∷ codes "k" ∷ []) ≡ UnknownArgument ∷ []
unfolding clap_on_literals
verify_has_no_journal = refl

-- comments in the record

abbrev echo_line : List Text
echo_line = codes "run" ∷ codes "--echo" ∷ codes "c" ∷ codes "k" ∷ codes "r" ∷ []

-- which comments are asked for by the command that was entered, and its recipes
abbrev entered_comments : Option (Text × List Row) → Option (Text × Bool × Bool × List Text)
entered_comments = option_map (λ p. (p.0, is_given (codes "echo") p.1, is_given (codes "times") p.1, words_of (codes "RECIPE") p.1))

echo_is_given : entered_comments (subcommand_of program_app echo_line) ≡ Some (codes "run", true, false, codes "r" ∷ [])
unfolding clap_on_literals
echo_is_given = refl

echo_is_taken : fault_of program_app echo_line ≡ []
unfolding clap_on_literals
echo_is_taken = refl

times_is_given : entered_comments (subcommand_of program_app (codes "run" ∷ codes "c" ∷ codes "--times" ∷ codes "k" ∷ [])) ≡ Some (codes "run", false, true, [])
unfolding clap_on_literals
times_is_given = refl

no_comments_are_given : entered_comments (subcommand_of program_app run_line) ≡ Some (codes "run", false, false, codes "r" ∷ [])
unfolding clap_on_literals
no_comments_are_given = refl

verify_has_no_comments : fault_of program_app (codes "verify" ∷ codes "--echo" ∷ codes "c" ∷ codes "k" ∷ []) ≡ UnknownArgument ∷ []
unfolding clap_on_literals
verify_has_no_comments = refl

-- beside a journal

abbrev both_line : List Text
both_line = codes "run" ∷ codes "--journal" ∷ codes "j" ∷ codes "--echo" ∷ codes "c" ∷ codes "k" ∷ []

echo_beside_a_journal_is_taken : fault_of program_app both_line ≡ []
unfolding clap_on_literals
echo_beside_a_journal_is_taken = refl

echo_beside_a_journal_is_read : request_or_demo (subcommand_of program_app both_line) ≡ keep (codes "j") (codes "c") (codes "k") [] true false
unfolding clap_on_literals
echo_beside_a_journal_is_read = refl

watch_is_unknown : fault_of program_app (codes "watch" ∷ []) ≡ UnknownArgument ∷ InvalidSubcommand ∷ []
unfolding clap_on_literals
watch_is_unknown = refl

-- several desks

abbrev desks_line : List Text
desks_line = codes "serve" ∷ codes "--times" ∷ codes "d" ∷ codes "c" ∷ codes "k" ∷ codes "r" ∷ []

desks_are_read : request_or_demo (subcommand_of program_app desks_line) ≡ serve_desks None (codes "d") (codes "c") (codes "k") (codes "r" ∷ []) true
unfolding clap_on_literals
desks_are_read = refl

desks_are_kept : request_or_demo (subcommand_of program_app (codes "serve" ∷ codes "--journal" ∷ codes "j" ∷ codes "d" ∷ codes "c" ∷ codes "k" ∷ []))
    ≡ serve_desks (Some (codes "j")) (codes "d") (codes "c") (codes "k") [] false
unfolding clap_on_literals
desks_are_kept = refl

desks_are_taken : fault_of program_app desks_line ≡ []
unfolding clap_on_literals
desks_are_taken = refl

desks_are_missing : fault_of program_app (codes "serve" ∷ codes "c" ∷ codes "k" ∷ []) ≡ MissingRequiredArgument ∷ []
unfolding clap_on_literals
desks_are_missing = refl

certificate_is_missing : fault_of program_app (codes "run" ∷ codes "c" ∷ []) ≡ MissingRequiredArgument ∷ []
unfolding clap_on_literals
certificate_is_missing = refl

cell_is_missing : fault_of program_app (codes "check" ∷ []) ≡ MissingRequiredArgument ∷ []
unfolding clap_on_literals
cell_is_missing = refl

help_is_shown : fault_of program_app (codes "--help" ∷ []) ≡ DisplayHelp ∷ []
unfolding clap_on_literals
help_is_shown = refl

version_is_shown : fault_of program_app (codes "--version" ∷ []) ≡ DisplayVersion ∷ []
unfolding clap_on_literals
version_is_shown = refl

abbrev quiet_line : List Text
quiet_line = codes "check" ∷ codes "--quiet" ∷ codes "c" ∷ []

-- the flags of the command that was entered
abbrev entered_flags : Option (Text × List Row) → Option (Bool × Bool)
entered_flags = option_map (λ p. (is_given (codes "dot") p.1, is_given (codes "quiet") p.1))

flag_is_given : entered_flags (subcommand_of program_app quiet_line) ≡ Some (false, true)
unfolding clap_on_literals
flag_is_given = refl

flag_is_taken : fault_of program_app quiet_line ≡ []
unfolding clap_on_literals
flag_is_taken = refl

abbrev all_is_given : Option (Text × List Row) → Option Bool
all_is_given = option_map (λ p. is_given (codes "all") p.1)

all_is_read : all_is_given (subcommand_of program_app (codes "check" ∷ codes "c" ∷ codes "--all" ∷ [])) ≡ Some true
unfolding clap_on_literals
all_is_read = refl

all_is_left_out : all_is_given (subcommand_of program_app check_line) ≡ Some false
unfolding clap_on_literals
all_is_left_out = refl

-- the file that is to be written, beside the cell
abbrev entered_file : Option (Text × List Row) → Option (Option Text × Text)
entered_file = option_map (λ p. (first_of (codes "write") p.1, word_of (codes "CELL") p.1))

file_is_read : entered_file (subcommand_of program_app (codes "check" ∷ codes "--write" ∷ codes "f" ∷ codes "c" ∷ [])) ≡ Some (Some (codes "f"), codes "c")
unfolding clap_on_literals
file_is_read = refl

no_file_is_read : entered_file (subcommand_of program_app check_line) ≡ Some (None, codes "c")
unfolding clap_on_literals
no_file_is_read = refl

abbrev explain_line : List Text
explain_line = codes "explain" ∷ codes "refused" ∷ codes "E3" ∷ codes "running" ∷ []

-- the texts of the command that was entered
abbrev entered_texts : Option (Text × List Row) → Option (List Text)
entered_texts = option_map (λ p. words_of (codes "CODE") p.1)

texts_are_read : entered_texts (subcommand_of program_app explain_line) ≡ Some (codes "refused" ∷ codes "E3" ∷ codes "running" ∷ [])
unfolding clap_on_literals
texts_are_read = refl

texts_are_taken : fault_of program_app explain_line ≡ []
unfolding clap_on_literals
texts_are_taken = refl

no_text_is_read : entered_texts (subcommand_of program_app (codes "explain" ∷ [])) ≡ Some []
unfolding clap_on_literals
no_text_is_read = refl

no_text_is_taken : fault_of program_app (codes "explain" ∷ []) ≡ []
unfolding clap_on_literals
no_text_is_taken = refl

show_entered : entered_words (subcommand_of program_app (codes "show" ∷ codes "c" ∷ codes "r" ∷ [])) ≡ Some (codes "show", codes "c", [], codes "r" ∷ [])
unfolding clap_on_literals
show_entered = refl

-- a record

-- the path of the record that was entered, if there is one
abbrev entered_path : Option (Text × List Row) → Option (Text × Option Text)
entered_path = option_map (λ p. (p.0, first_of (codes "RECORD") p.1))

path_is_read : entered_path (subcommand_of program_app (codes "status" ∷ codes "r" ∷ [])) ≡ Some (codes "status", Some (codes "r"))
unfolding clap_on_literals
path_is_read = refl

no_path_is_read : entered_path (subcommand_of program_app (codes "status" ∷ [])) ≡ Some (codes "status", None)
unfolding clap_on_literals
no_path_is_read = refl

no_path_is_taken : fault_of program_app (codes "status" ∷ []) ≡ []
unfolding clap_on_literals
no_path_is_taken = refl

picture_path_is_read : entered_path (subcommand_of program_app (codes "draw" ∷ codes "r" ∷ [])) ≡ Some (codes "draw", Some (codes "r"))
unfolding clap_on_literals
picture_path_is_read = refl

no_picture_path_is_read : entered_path (subcommand_of program_app (codes "draw" ∷ [])) ≡ Some (codes "draw", None)
unfolding clap_on_literals
no_picture_path_is_read = refl

-- an audit

abbrev audit_line : List Text
audit_line = codes "audit" ∷ codes "--beginning" ∷ codes "d" ∷ codes "c" ∷ codes "k" ∷ codes "r" ∷ []

-- whether a beginning is accepted, and the record, of the command that was entered
abbrev entered_record : Option (Text × List Row) → Option (Bool × Text)
entered_record = option_map (λ p. (is_given (codes "beginning") p.1, word_of (codes "RECORD") p.1))

record_is_read : entered_record (subcommand_of program_app audit_line) ≡ Some (true, codes "d")
unfolding clap_on_literals
record_is_read = refl

audit_entered : entered_words (subcommand_of program_app audit_line) ≡ Some (codes "audit", codes "c", codes "k", codes "r" ∷ [])
unfolding clap_on_literals
audit_entered = refl

audit_taken : fault_of program_app audit_line ≡ []
unfolding clap_on_literals
audit_taken = refl

record_is_missing : fault_of program_app (codes "audit" ∷ codes "c" ∷ codes "k" ∷ []) ≡ MissingRequiredArgument ∷ []
unfolding clap_on_literals
record_is_missing = refl

-- clap answers at `help`, and by which of the two kinds isn't said
help_enters_nothing : fault_of program_app (codes "help" ∷ codes "check" ∷ []) ≡ DisplayHelp ∷ InvalidSubcommand ∷ []
unfolding clap_on_literals
help_enters_nothing = refl

-- a plant

abbrev plant_line : List Text
plant_line = codes "plant" ∷ codes "--batches" ∷ codes "7" ∷ codes "--ring=64" ∷ []

-- the batches, the ticks and the places of rings of the command that was entered
abbrev entered_numbers : Option (Text × List Row) → Option (ℕ × ℕ × ℕ)
entered_numbers = option_map (λ p. (batches_of p.1, ticks_of p.1, ring_of p.1))

numbers_are_given : entered_numbers (subcommand_of program_app plant_line) ≡ Some (7, 5, 64)
unfolding clap_on_literals
numbers_are_given = refl

numbers_are_taken : fault_of program_app plant_line ≡ []
unfolding clap_on_literals
numbers_are_taken = refl

numbers_are_left_out : entered_numbers (subcommand_of program_app (codes "plant" ∷ [])) ≡ Some (3, 5, 1)
unfolding clap_on_literals
numbers_are_left_out = refl

plant_is_taken : fault_of program_app (codes "plant" ∷ []) ≡ []
unfolding clap_on_literals
plant_is_taken = refl

-- of documents

abbrev planted_line : List Text
planted_line = codes "plant" ∷ codes "--batches" ∷ codes "7" ∷ codes "c" ∷ codes "k" ∷ codes "r" ∷ codes "s" ∷ []

documents_are_planted : request_or_demo (subcommand_of program_app planted_line) ≡ plant (documents (codes "c") (codes "k") (codes "r" ∷ codes "s" ∷ [])) 7 5 1
unfolding clap_on_literals
documents_are_planted = refl

documents_are_taken : fault_of program_app planted_line ≡ []
unfolding clap_on_literals
documents_are_taken = refl

recipes_are_missing : faults_of (codes "plant" ∷ codes "c" ∷ codes "k" ∷ []) ≡ MissingRequiredArgument ∷ []
unfolding clap_on_literals
recipes_are_missing = refl

recipes_are_there : faults_of planted_line ≡ []
unfolding clap_on_literals
recipes_are_there = refl

no_recipe_is_missing : faults_of (codes "plant" ∷ []) ≡ []
unfolding clap_on_literals
no_recipe_is_missing = refl

demo_is_planted : request_or_demo (subcommand_of program_app (codes "plant" ∷ [])) ≡ plant demo 3 5 1
unfolding clap_on_literals
demo_is_planted = refl

no_batch_is_refused : fault_of program_app (codes "plant" ∷ codes "--batches" ∷ codes "0" ∷ []) ≡ ValueValidation ∷ []
unfolding clap_on_literals
no_batch_is_refused = refl

many_batches_are_refused : fault_of program_app (codes "plant" ∷ codes "--batches" ∷ codes "101" ∷ []) ≡ ValueValidation ∷ []
unfolding clap_on_literals
many_batches_are_refused = refl

many_ticks_are_refused : fault_of program_app (codes "plant" ∷ codes "--ticks" ∷ codes "1001" ∷ []) ≡ ValueValidation ∷ []
unfolding clap_on_literals
many_ticks_are_refused = refl

no_place_is_refused : fault_of program_app (codes "plant" ∷ codes "--ring" ∷ codes "0" ∷ []) ≡ ValueValidation ∷ []
unfolding clap_on_literals
no_place_is_refused = refl

many_places_are_refused : fault_of program_app (codes "plant" ∷ codes "--ring" ∷ codes "65" ∷ []) ≡ ValueValidation ∷ []
unfolding clap_on_literals
many_places_are_refused = refl
