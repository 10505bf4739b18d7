-- surface: transcripts that meet in one plant.
use Rattle.std.specs.Prelude.{ℕ, List, ◌++◌}
use Rattle.batch_model.specs.Plant.{Setup, Plant}
use Rattle.batch_wire.specs.Transcript.{Exchange, followed_by, Transcript}

-- if one ends at the plant with which the other begins, both are one transcript of the lines of both
abbrev pub TranscriptsJoin : Type 0
TranscriptsJoin =
    (c : Setup) (old mid new : Plant) (front others : List (List ℕ)) (said told : Exchange)
    → Transcript c old front said mid → Transcript c mid others told new → Transcript c old (front ++ others) (followed_by said told) new
