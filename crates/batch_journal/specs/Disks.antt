-- trusted: the effect of a disk's calls on its file, and the bytes that a crash at any moment may leave of it.
use Rattle.std.specs.Prelude.{◌≡◌, ◌⊎◌, ℕ, ◌≤◌, List, [], ◌∷◌, ◌++◌, ⊤, take}

-- a part of these bytes: no longer, and each byte is theirs or zero
abbrev pub IsPart : List ℕ → List ℕ → Type 0
IsPart [] bytes = ⊤
IsPart (b ∷ bs) [] = ⊥
IsPart (b ∷ bs) (x ∷ xs) = ((b ≡ 0) ⊎ (b ≡ x)) × IsPart bs xs

-- the bytes that a crash left in the file, and those that had been given by then
pub record Left : Type 0 where
  pub file : List ℕ
  pub given : List ℕ

-- one text is a prefix of the other
pub record Begins (front text : List ℕ) : Type 0 where
  pub rest : List ℕ
  pub splits : text ≡ front ++ rest

-- the file has the synced bytes, and a part of those written behind them
pub record KeepsSynced (durable seen file : List ℕ) : Type 0 where
  pub behind : List ℕ
  pub tail : List ℕ
  pub written : seen ≡ durable ++ behind
  pub leaves : file ≡ durable ++ tail
  pub part : IsPart tail behind

pub record MayLeave (durable seen given : List ℕ) (left : Left) : Type 0 where
  pub disk : KeepsSynced durable seen left.file
  pub output : Begins left.given given

-- while a synced file is cut: some length between the two
pub record MayCut (len : ℕ) (file given : List ℕ) (left : Left) : Type 0 where
  pub kept : ℕ
  pub least : len ≤ kept
  pub leaves : left.file ≡ take kept file
  pub output : Begins left.given given

-- time goes on: since each earlier moment a crash might have left whatever it might have left before, or whatever this call may leave
pub record Elapses (before now : ℕ) (past since : ℕ → Left → Type 0) (may_leave : Left → Type 0) : Type 0 where
  pub later : before ≤ now
  pub nothing_else : (t : ℕ) (left : Left) → t ≤ before → since t left → past t left ⊎ may_leave left
  pub keeps : (t : ℕ) (left : Left) → t ≤ before → past t left → since t left

-- a crash at any moment since old leaves a file of which P holds
pub record LeavesOnly {D : Type 0} (moment : D → ℕ) (left_since : D → ℕ → Left → Type 0) (old new : D) (P : Left → Type 0) : Type 0 where
  pub later : moment old ≤ moment new
  pub each : (left : Left) → left_since new (moment old) left → P left
  -- for a run that began earlier
  pub before : (t : ℕ) (left : Left) → t ≤ moment old → left_since new t left → left_since old t left ⊎ P left
