-- worked rows: which files a start takes, of journals of 64 digits a.
use Rattle.std.specs.Prelude.{[], ◌++◌, codes, List, ℕ}
use Rattle.batch_journal.specs.Journals.{header}
use Rattle.batch_journal.specs.Recovery.{IsRecoverable}

abbrev pub documents : List ℕ
documents = codes "aaaaaaaaaaaaaaaaaaaaaaaaaaaaaaaaaaaaaaaaaaaaaaaaaaaaaaaaaaaaaaaa"

abbrev pub others : List ℕ
others = codes "aaaaaaaaaaaaaaaaaaaaaaaaaaaaaaaaaaaaaaaaaaaaaaaaaaaaaaaaaaaaaaab"

pub record RecoveryRows : Type 0 where
  pub empty : IsRecoverable documents []
  -- no line ends in it
  pub begun : IsRecoverable documents (codes "# batchd jour")
  -- a crash left zeros in the header
  pub torn : IsRecoverable documents (codes "# batchd\0journal 1 a\0")
  pub nothing : IsRecoverable documents (header documents)
  -- a line whose group isn't closed
  pub line : IsRecoverable documents (header documents ++ codes "start 1\n")
  -- NOT: no journal, and one of other documents
  pub text : IsRecoverable documents (codes "start 1\n") → ⊥
  pub other : IsRecoverable documents (header others) → ⊥
  -- NOT: a closing line with a zero byte, and another one behind it
  pub damaged : IsRecoverable documents (header documents ++ codes "# sum \0\n# sum 0\n") → ⊥
