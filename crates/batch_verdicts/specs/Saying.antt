-- trusted: the sentences for a person beside a verdict.
use Rattle.std.specs.Prelude.{◌≡◌, ◌++◌, ℕ, Bool, true, false, List, Option, codes, string_bytes}
use Rattle.std.specs.Io.KnownBytes.{Appends, Keeps}
use Rattle.std.specs.List.{flat_map}
use Rattle.batch_messages.specs.declared.sentence.Sentence.{Sentence}
use Rattle.batch_verdicts.specs.declared.refusal.DocumentRefusal.{DocumentRefusal}

-- the text in a line of its own, behind the program's name
abbrev pub message_line : List ℕ → List ℕ
message_line text = codes "batchd: " ++ (text ++ codes "\n")

abbrev pub sentence_line : Sentence → List ℕ
sentence_line sentence = message_line (string_bytes sentence.text)

-- the text was written, or a prefix of it if the rest can't be written
pub record WritesFront (before after : Option (List ℕ)) (text : List ℕ) : Type 0 where
  pub written : List ℕ
  pub rest : List ℕ
  pub splits : text ≡ written ++ rest
  pub appends : Appends before after written

-- nothing is written if the words ask for quiet, else the line of the sentence
abbrev pub IsSaid : Bool → Sentence → Option (List ℕ) → Option (List ℕ) → Type 0
IsSaid true sentence before after = Keeps before after
IsSaid false sentence before after = WritesFront before after (sentence_line sentence)

-- the same of several refusals, a line each
abbrev pub AreSaid : Bool → List DocumentRefusal → Option (List ℕ) → Option (List ℕ) → Type 0
AreSaid true refusals before after = Keeps before after
AreSaid false refusals before after = WritesFront before after (flat_map (λ r. sentence_line r.sentence) refusals)

-- the same of warnings, by the text of their lines
abbrev pub IsWarned : Bool → Option (List ℕ) → Option (List ℕ) → List ℕ → Type 0
IsWarned true before after text = Keeps before after
IsWarned false before after text = WritesFront before after text
