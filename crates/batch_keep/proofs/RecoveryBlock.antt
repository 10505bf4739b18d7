-- The recovery block.
use Rattle.std.proofs.Common.{◌≡◌, ◌++◌, ◌∷◌, ◌+◌, ◌<◌, ℕ, List, [], length, map, take, get_or, codes, sym, ◌∙◌, ap}
use Rattle.std.proofs.lemmas.List.{map-append, take_more}
use Rattle.batch_model.specs.Plant.{Setup, Plant}
use Rattle.batch_record.specs.{Blocks.Stage, Listing.IsTextOf, StatusReading.LeadsTo}
use Rattle.batch_keep.specs.{Blocks.AreBlocksOf, Blocks.IsReplayed, Blocks.recovery_block_text, Counts.own_lines, Counts.sent_lines}

pub are_blocks : (c : Setup) (old new : Plant) (lines names : List (List ℕ)) (told block : List ℕ) (each : List (List ℕ)) (count : ℕ) (stage : Stage) (rows : List ℕ) → IsReplayed c old lines new told → LeadsTo told stage
    → IsTextOf stage.tale (codes "# ") rows → count ≡ length (sent_lines lines) → block ≡ recovery_block_text count rows
    → each ≡ map (λ name. recovery_block_text (length (own_lines name lines)) rows) names → AreBlocksOf c old lines names new block each
are_blocks c old new lines names told block each count stage rows replayed leads_to are_rows counts is desks = record {
  output = record {
    told = told;
    replayed = replayed;
    stage = stage;
    leads_to = leads_to;
    rows = rows;
    are_rows = are_rows;
    is = is ∙ ap (λ n. recovery_block_text n rows) counts;
  };
  desks = desks;
}

-- one more block follows those so far
pub blocks_so_far : (f : List ℕ → List ℕ) (names before items : List (List ℕ)) (i : ℕ) (name block : List ℕ) → i < length names → name ≡ get_or names i name
    → before ≡ map f (take i names) → block ≡ f name → items ≡ before ++ block ∷ [] → items ≡ map f (take (i + 1) names)
blocks_so_far f names before items i name block within item so_far block_is is =
    let front : take (i + 1) names ≡ take i names ++ name ∷ [] = take_more names i name within ∙ ap (λ n. take i names ++ n ∷ []) (sym item) in
    is ∙ ap (λ l. l ++ block ∷ []) so_far ∙ ap (λ b. map f (take i names) ++ b ∷ []) block_is ∙ sym (map-append f (take i names) (name ∷ [])) ∙ sym (ap (map f) front)
