-- private: a group as it is written.
use Rattle.std.specs.Prelude.{ℕ, List, [], ◌∷◌, ◌++◌, decimal}
use Rattle.batch_journal.specs.Disks.{Left, MayLeave}
use Rattle.batch_journal.specs.Journals.{closing_start}

-- the line that closes a group, without its line feed
abbrev pub closing_line : List ℕ → ℕ → List ℕ
closing_line sum milliseconds = closing_start sum ++ decimal milliseconds

abbrev pub group_text : List ℕ → List ℕ → ℕ → List ℕ
group_text lines sum milliseconds = lines ++ (closing_line sum milliseconds ++ 10 ∷ [])

-- a crash leaves the synced bytes, and a part of any bytes behind them
abbrev pub MayKeep : List ℕ → List ℕ → Left → Type 0
MayKeep durable given left = (seen : List ℕ) × MayLeave durable seen given left
