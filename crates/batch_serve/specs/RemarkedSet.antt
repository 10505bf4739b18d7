-- trusted: the effect of serving a cleared set with comments in the record.
use Rattle.std.specs.Prelude.{ℕ, List, Option, Result}
use Rattle.batch_verify.specs.ClearedSet.{ClearedSet}
use Rattle.batch_serve.specs.Comments.{IsRemarked}
use Rattle.batch_serve.specs.Serves.{Ends, Serves}
use Rattle.batch_serve.specs.declared.fault.SetFault.{SetFault}

-- without its comments the written text is one that serving without comments writes, by the same outcome
pub record ServesRemarked (set : ClearedSet) (max_reads : ℕ) (result : Result ℕ SetFault) (ends : Ends) : Type 0 where
  pub plain : Option (List ℕ)
  pub remarked : IsRemarked ends.before ends.after plain
  pub serves : Serves set max_reads result (record ends { after = plain })
