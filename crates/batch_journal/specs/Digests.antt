-- trusted: the digest of the documents that a journal is of.
use Rattle.std.specs.Prelude.{◌≡◌, ◌==◌, ◌<◌, ℕ, false, slice_index, List, [], ◌∷◌, ◌++◌, length, decimal}
use Rattle.hex.specs.Hex.{encode_lower}
use Rattle.sha2.specs.Hashers.{Holds256}
use Rattle.sha2.specs.Sha256.{sha256}
use Rattle.batch_journal.specs.declared.digest.DocumentsDigest.{DocumentsDigest}

-- each text behind its length and a line feed
abbrev pub counted : List (List ℕ) → List ℕ
counted [] = []
counted (text ∷ texts) = (decimal (length text) ++ 10 ∷ text) ++ counted texts

-- the digits of the SHA-256 of these texts
abbrev pub digits_of : List (List ℕ) → List ℕ
digits_of texts = encode_lower (sha256 (counted texts))

abbrev pub HasTaken : DocumentsDigest → List (List ℕ) → Type 0
HasTaken digest texts = Holds256 digest.hasher (counted texts)

-- no zero and no line feed
abbrev pub IsPlain : List ℕ → Type 0
IsPlain text = (k : ℕ) → k < length text → ((slice_index text k == 0) ≡ false) × ((slice_index text k == 10) ≡ false)
