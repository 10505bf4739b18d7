-- The block of a start, by the set, the documents and the names of the start.
use Rattle.std.proofs.Common.{◌≡◌, ℕ, List, subst}
use Rattle.batch_model.specs.Plant.{Plant}
use Rattle.batch_verify.specs.ClearedSet.{ClearedSet}
use Rattle.batch_engine.specs.View.{setup}
use Rattle.batch_journal.specs.Journals.{recovered}
use Rattle.batch_keep.specs.Blocks.{AreBlocksOf}

pub blocks_as : (set now_set : ClearedSet) (old now_old : Plant) (digits now_digits text now_text : List ℕ) (names : List (List ℕ)) (new : Plant) (block : List ℕ) (each : List (List ℕ))
    → set ≡ now_set → old ≡ now_old → digits ≡ now_digits → text ≡ now_text
    → AreBlocksOf (setup set) old (recovered digits text) names new block each → AreBlocksOf (setup now_set) now_old (recovered now_digits now_text) names new block each
blocks_as set now_set old now_old digits now_digits text now_text names new block each same_set same_plant same_digits same_text is =
    subst (λ (t : List ℕ). AreBlocksOf (setup now_set) now_old (recovered now_digits t) names new block each) same_text
    (subst (λ (d : List ℕ). AreBlocksOf (setup now_set) now_old (recovered d text) names new block each) same_digits
    (subst (λ (p : Plant). AreBlocksOf (setup now_set) p (recovered digits text) names new block each) same_plant
    (subst (λ (s : ClearedSet). AreBlocksOf (setup s) old (recovered digits text) names new block each) same_set is)))

pub same_lines : (digits now_digits text file : List ℕ) → digits ≡ now_digits → recovered digits text ≡ recovered digits file → recovered now_digits text ≡ recovered now_digits file
same_lines digits now_digits text file same is = subst (λ (d : List ℕ). recovered d text ≡ recovered d file) same is
