-- trusted: the block with which the output begins after a start over a journal.
use Rattle.std.specs.Prelude.{◌≡◌, ℕ, List, ◌++◌, length, map, codes, decimal}
use Rattle.batch_model.specs.Plant.{Setup, Plant}
use Rattle.batch_model.specs.Runs.{Leads}
use Rattle.batch_wire.specs.Transcript.{Exchange, Transcript}
use Rattle.batch_serve.specs.Replays.{ShowsNoWant}
use Rattle.batch_record.specs.Blocks.{Stage}
use Rattle.batch_record.specs.Listing.{IsTextOf}
use Rattle.batch_record.specs.StatusReading.{LeadsTo}
use Rattle.batch_keep.specs.Counts.{own_lines, sent_lines}

-- the text of a transcript of these lines, in which memory was never wanted
pub record IsReplayed (c : Setup) (old : Plant) (lines : List (List ℕ)) (new : Plant) (record_text : List ℕ) : Type 0 where
  pub said : Exchange
  pub transcript : Transcript c old lines said new
  pub leads : Leads c old said.events said.outs new
  pub shows : ShowsNoWant said.text
  pub is : record_text ≡ said.text

-- the number of the lines, the rows of the state to which they lead, and the end
abbrev pub recovery_block_text : ℕ → List ℕ → List ℕ
recovery_block_text count rows = codes "# recovered " ++ (decimal count ++ (codes " lines\n" ++ (rows ++ codes "# end\n")))

-- the record of these lines, replayed, leads to the state in the rows of the block
pub record IsBlockOf (c : Setup) (old : Plant) (lines : List (List ℕ)) (new : Plant) (block : List ℕ) : Type 0 where
  pub told : List ℕ
  pub replayed : IsReplayed c old lines new told
  pub stage : Stage
  pub leads_to : LeadsTo told stage
  pub rows : List ℕ
  pub are_rows : IsTextOf stage.tale (codes "# ") rows
  pub is : block ≡ recovery_block_text (length (sent_lines lines)) rows

-- that block, and those of desks of these names: each has the number of the desk's own lines, and the same rows
pub record AreBlocksOf (c : Setup) (old : Plant) (lines : List (List ℕ)) (names : List (List ℕ)) (new : Plant) (block : List ℕ) (each : List (List ℕ)) : Type 0 where
  pub output : IsBlockOf c old lines new block
  pub desks : each ≡ map (λ name. recovery_block_text (length (own_lines name lines)) output.rows) names
