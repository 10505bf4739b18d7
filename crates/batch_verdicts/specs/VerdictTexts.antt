-- trusted: the texts of the program's verdicts.
use Rattle.std.specs.Prelude.{ℕ, ◌+◌, List, [], ◌∷◌, ◌++◌, codes, decimal, slice_get, unwrap_or, option_map}
use Rattle.std.specs.List.{flat_map}
use Rattle.batch_cell.specs.LookUps.{resources_of}
use Rattle.batch_cell.specs.declared.cell.Cell.{Cell}
use Rattle.batch_recipe.specs.Nodes.{Node}
use Rattle.batch_recipe.specs.Procedure.{procedure_nodes}
use Rattle.batch_recipe.specs.Texts.{line_text, place_text}
use Rattle.batch_recipe.specs.declared.recipe.Recipe.{Recipe}
use Rattle.batch_reader.specs.Words.{spot_text}
use Rattle.batch_reader.specs.declared.fault.DocFault.{DocFault}
use Rattle.batch_reader.specs.declared.fault.DocFault.TheVariants as document
use Rattle.batch_reader.specs.declared.fault.EntryFault.{EntryFault}
use Rattle.batch_reader.specs.declared.fault.EntryFault.TheVariants.{MissingKey, WrongKind, NoNeed, UnknownKey, Undeclared, Duplicate, OutOfLimit, NeedOutOfLimit, NumberOutOfLimit, Chart}
use Rattle.batch_messages.specs.Shown.{shown}
use Rattle.batch_verify.specs.CertificateText.{Rank}
use Rattle.batch_verify.specs.declared.certificate.CertFault.{CertFault}
use Rattle.batch_verify.specs.declared.certificate.CertFault.TheVariants as certificate
use Rattle.batch_verify.specs.declared.refusal.SetRefusal.{SetRefusal}
use Rattle.batch_verify.specs.declared.refusal.SetRefusal.TheVariants as set
use Rattle.batch_verify.specs.declared.rule.Rule.{Rule}
use Rattle.batch_verify.specs.declared.rule.Rule.TheVariants.{UnknownResource, PhaseNotOffered, SamePhaseInParallel, LoopWithoutPhase, ShareAboveCapacity, ReserveDoesNotFollow, RankNotRising}
use Rattle.batch_check.specs.declared.edge.Edge.{Edge}
use Rattle.batch_check.specs.declared.fault.CheckFault.{CheckFault}
use Rattle.batch_check.specs.declared.fault.CheckFault.TheVariants as check

abbrev pub refused : List (List ℕ) → List ℕ
refused words = line_text (codes "refused" ∷ words)

-- Documents

abbrev pub code_of : EntryFault → List ℕ
code_of (MissingKey key) = codes "D2"
code_of (WrongKind key) = codes "D3"
code_of (NoNeed number) = codes "D3"
code_of UnknownKey = codes "D4"
code_of (Undeclared key) = codes "D5"
code_of (Duplicate key) = codes "D6"
code_of (OutOfLimit key) = codes "D7"
code_of (NeedOutOfLimit number) = codes "D7"
code_of (NumberOutOfLimit offset) = codes "D7"
code_of (Chart offset) = codes "D8"

-- the place of the fault in a chart
abbrev pub offset_words : EntryFault → List (List ℕ)
offset_words (Chart offset) = decimal offset ∷ []
offset_words _ = []

-- the path, whose control characters are escaped so that it ends no line, and the place of the fault in the document
abbrev pub document_words : List ℕ → DocFault → List (List ℕ)
document_words path document.NotToml = codes "D1" ∷ shown path ∷ []
document_words path (document.Entry spot fault) = code_of fault ∷ shown path ∷ spot_text spot ∷ offset_words fault
document_words path document.Memory = codes "D9" ∷ shown path ∷ []

abbrev pub document_text : List ℕ → DocFault → List ℕ
document_text path fault = refused (document_words path fault)

-- Places

-- the place of the node with this number
abbrev pub place_text_at : Recipe → ℕ → List ℕ
place_text_at r node = unwrap_or (option_map (λ (n : Node). place_text n.place) (slice_get (procedure_nodes r.acts) node)) []

-- the recipe's name and the place of its node, by their numbers
abbrev pub node_text : List Recipe → ℕ → ℕ → List ℕ
node_text rs recipe node =
    unwrap_or (option_map (λ (r : Recipe). r.acts.procedure.name ++ (codes " " ++ place_text_at r node)) (slice_get rs recipe)) []

-- Certificates

abbrev pub certificate_refused : CertFault → List ℕ
certificate_refused (certificate.NotARank line) = refused (codes "K1" ∷ decimal line ∷ [])
certificate_refused (certificate.NotInOrder line) = refused (codes "K2" ∷ decimal line ∷ [])
certificate_refused certificate.TooManyLines = refused (codes "K3" ∷ [])
certificate_refused certificate.Memory = refused (codes "K4" ∷ [])

abbrev pub rank_text : Rank → List ℕ
rank_text rank = line_text (codes "rank" ∷ rank.0 ∷ decimal rank.1 ∷ [])

-- a certificate, a line for each entry
abbrev pub certificate_text : List Rank → List ℕ
certificate_text ranks = flat_map rank_text ranks

-- Sets of recipes

abbrev pub resource_name : Cell → ℕ → List ℕ
resource_name c resource = unwrap_or (slice_get (resources_of c) resource) []

abbrev pub entry_name : List Rank → ℕ → List ℕ
entry_name ranks entry = unwrap_or (option_map (λ (r : Rank). r.0) (slice_get ranks entry)) []

abbrev pub rule_code : Rule → List ℕ
rule_code UnknownResource = codes "V3"
rule_code RankNotRising = codes "V4"
rule_code PhaseNotOffered = codes "V5"
rule_code SamePhaseInParallel = codes "V6"
rule_code LoopWithoutPhase = codes "V7"
rule_code ShareAboveCapacity = codes "V9"
rule_code ReserveDoesNotFollow = codes "V11"

abbrev pub accepted_text : List ℕ
accepted_text = line_text (codes "accepted" ∷ [])

-- the refusal of the recipes by the small checker; a certificate's entries are its lines
abbrev pub refusal_text : Cell → List Recipe → List Rank → SetRefusal → List ℕ
refusal_text c rs ranks (set.Unranked resource) = refused (codes "V1" ∷ resource_name c resource ∷ [])
refusal_text c rs ranks (set.RankedTwice entry) = refused (codes "V2" ∷ entry_name ranks entry ∷ [])
refusal_text c rs ranks (set.UnknownEntry entry) = refused (codes "V3" ∷ codes "line" ∷ decimal (entry + 1) ∷ [])
refusal_text c rs ranks (set.Recipe recipe broken) = refused (rule_code broken.rule ∷ node_text rs recipe broken.node ∷ [])
refusal_text c rs ranks set.Memory = refused (codes "V8" ∷ [])
refusal_text c rs ranks set.Recipes = refused (codes "V10" ∷ [])

-- an edge of a circle: the recipe and the place that ask, the earlier resource and the later
abbrev pub edge_text : Cell → List Recipe → Edge → List ℕ
edge_text c rs e =
    line_text (codes "edge" ∷ node_text rs e.recipe e.node ∷ resource_name c e.earlier ∷ resource_name c e.later ∷ [])

-- the refusal of recipes whose edges make a circle
abbrev pub circle_text : Cell → List Recipe → List Edge → List ℕ
circle_text c rs edges = refused (codes "C1" ∷ []) ++ flat_map (edge_text c rs) edges

-- why the recipes have no certificate
abbrev pub fault_text : Cell → List Recipe → CheckFault → List ℕ
fault_text c rs (check.Recipe recipe broken) = refused (rule_code broken.rule ∷ node_text rs recipe broken.node ∷ [])
fault_text c rs check.Recipes = refused (codes "V10" ∷ [])
fault_text c rs (check.Circle edges) = circle_text c rs edges.items
fault_text c rs check.Memory = refused (codes "V8" ∷ [])
