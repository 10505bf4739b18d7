-- Gates that are asked once more.
use Rattle.std.proofs.Common.{ℕ, ◌+◌, Bool, add-one}
use Rattle.batch_desk.specs.Gates.{AreAsked}

pub asked_once_more : {G : Type 0} (passes : G → ℕ → Bool → G → Type 0) (turn : ℕ) (old mid new : G) (made : Bool) → AreAsked passes turn old mid → passes mid turn made new
    → AreAsked passes (turn + 1) old new
asked_once_more passes turn old mid new made asked passed = rw add-one (mid, made, asked, passed)
