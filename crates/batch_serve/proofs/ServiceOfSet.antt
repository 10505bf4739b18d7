-- From the opening of a cleared set, the answers that serving gives are those of a safe record.
use Rattle.std.proofs.Common.{◌≡◌, ℕ, ◌≤◌, List, Option, Some, None, Result, Ok, Err, OnOk, IfSome, IsErrOf, take, length, refl, subst}
use Rattle.std.specs.Io.KnownBytes.{IsAtEnd}
use Rattle.batch_model.specs.Plant.{Plant, opening}
use Rattle.batch_verify.specs.ClearedSet.{ClearedSet}
use Rattle.batch_engine.specs.{Looked.unfinished, View.setup}
use Rattle.batch_wire.specs.{Transcript.lines_of, Transcript.Exchange, Transcript.Transcript, WrittenTranscript.WritesTranscript, WrittenTranscript.BeginsTranscript, WrittenTranscript.WritesWholeLines}
use Rattle.batch_serve.specs.{Safe.IsSafeTranscript, Safe.TranscriptsAreSafe, Safe.WritesSafely, Safe.BeginsSafely, Safe.WritesWholeSafely, Serves.Ends, Serves.Serves, Serves.WritesTo, declared.fault.ServeFault.ServeFault, declared.fault.SetFault.TheVariants.Stopped}
use Rattle.batch_serve.specs.declared.fault.ServeFault.TheVariants as faults

-- a new engine of the cleared set, as far as serving saw it
pub record IsNew (set a : ClearedSet) (s : Plant) : Type 0 where
  pub cleared : a ≡ set
  pub opening_is : s ≡ opening
  pub safe : TranscriptsAreSafe a

safe_transcript : (set a : ClearedSet) (s new : Plant) (lines : List (List ℕ)) (said : Exchange) → IsNew set a s
    → Transcript (setup a) s lines said new → IsSafeTranscript (setup set) lines said new
safe_transcript set a s new lines said k t =
    subst (λ (x : ClearedSet). IsSafeTranscript (setup x) lines said new) k.cleared
    (k.safe lines said new (subst (λ (p : Plant). Transcript (setup a) p lines said new) k.opening_is t))

writes_safely : (set a : ClearedSet) (s new : Plant) (lines : List (List ℕ)) (x y : Option (List ℕ)) → IsNew set a s
    → WritesTranscript (setup a) s lines new x y → WritesSafely (setup set) lines x y
writes_safely set a s new lines x y k h = record { said = h.said; new = new; transcript = safe_transcript set a s new lines h.said k h.transcript; appends = h.appends }

begins_safely : (set a : ClearedSet) (s : Plant) (lines : List (List ℕ)) (x y : Option (List ℕ)) → IsNew set a s
    → BeginsTranscript (setup a) s lines x y → BeginsSafely (setup set) lines x y
begins_safely set a s lines x y k h = record { said = h.said; new = h.new; transcript = safe_transcript set a s h.new lines h.said k h.transcript; begins = h.begins }

writes_to : (set a : ClearedSet) (s new : Plant) (n : ℕ) (lines : List (List ℕ)) (x y : Option (List ℕ)) → IsNew set a s → n ≡ unfinished new
    → WritesTranscript (setup a) s lines new x y → WritesTo set n lines x y
writes_to set a s new n lines x y k count h =
    (record { said = h.said; new = new; transcript = safe_transcript set a s new lines h.said k h.transcript; appends = h.appends }, count)

writes_all : (set a : ClearedSet) (s new : Plant) (n : ℕ) (unread x y : Option (List ℕ)) → IsNew set a s → n ≡ unfinished new
    → IfSome unread (λ input. WritesTranscript (setup a) s (lines_of input) new x y) → IfSome unread (λ input. WritesTo set n (lines_of input) x y)
writes_all set a s new n None x y k count h = tt
writes_all set a s new n (Some input) x y k count h = writes_to set a s new n (lines_of input) x y k count h

begins_first : (set a : ClearedSet) (s : Plant) (unread x y : Option (List ℕ)) → IsNew set a s
    → IfSome unread (λ input. (n : ℕ) × BeginsTranscript (setup a) s (take n (lines_of input)) x y)
    → IfSome unread (λ input. (n : ℕ) × BeginsSafely (setup set) (take n (lines_of input)) x y)
begins_first set a s None x y k h = tt
begins_first set a s (Some input) x y k (n, h) = (n, begins_safely set a s (take n (lines_of input)) x y k h)

whole_safely : (set a : ClearedSet) (s new : Plant) (unread left x y : Option (List ℕ)) → IsNew set a s
    → WritesWholeLines (setup a) s new unread left x y → WritesWholeSafely (setup set) unread left x y
whole_safely set a s new unread left x y k h = record { read = h.read; consumes = h.consumes; writes = writes_safely set a s new _ x y k h.writes }

-- the clauses of serving
pub record IsServedBy (a : ClearedSet) (s new : Plant) (max_reads : ℕ) (r : Result (Unit {0}) ServeFault) (ends : Ends) : Type 0 where
  pub served : OnOk r (IfSome ends.unread (λ input. WritesTranscript (setup a) s (lines_of input) new ends.before ends.after))
  pub ended : OnOk r (IsAtEnd ends.left)
  pub read_fault : IsErrOf r faults.Read → WritesWholeLines (setup a) s new ends.unread ends.left ends.before ends.after
  pub too_many_reads : IsErrOf r faults.TooManyReads → WritesWholeLines (setup a) s new ends.unread ends.left ends.before ends.after
  pub reads_made : IsErrOf r faults.TooManyReads → IfSome ends.unread (λ input. max_reads ≤ length input)
  pub write_fault : IsErrOf r faults.Write → IfSome ends.unread (λ input. (n : ℕ) × BeginsTranscript (setup a) s (take n (lines_of input)) ends.before ends.after)

-- serving ran to the end of the input, and left so many batches unfinished
pub serves_all : (set a : ClearedSet) (s new : Plant) (max_reads n : ℕ) (r : Result (Unit {0}) ServeFault) (ends : Ends) → IsNew set a s → n ≡ unfinished new
    → IsServedBy a s new max_reads r ends → r ≡ Ok tt → Serves set max_reads (Ok n) ends
serves_all set a s new max_reads n (Ok done) ends k count h is =
    record { writes = writes_all set a s new n ends.unread ends.before ends.after k count h.served; ended = h.ended }
serves_all set a s new max_reads n (Err fault) ends k count h is = absurd cc

stops : (set a : ClearedSet) (s new : Plant) (max_reads : ℕ) (fault : ServeFault) (ends : Ends) → IsNew set a s
    → IsServedBy a s new max_reads (Err fault) ends → Serves set max_reads (Err (Stopped fault)) ends
stops set a s new max_reads faults.Read ends k h = whole_safely set a s new _ _ _ _ k (h.read_fault refl)
stops set a s new max_reads faults.TooManyReads ends k h = (whole_safely set a s new _ _ _ _ k (h.too_many_reads refl), h.reads_made refl)
stops set a s new max_reads faults.Write ends k h = begins_first set a s ends.unread ends.before ends.after k (h.write_fault refl)

-- serving stopped
pub serves_until : (set a : ClearedSet) (s new : Plant) (max_reads : ℕ) (r : Result (Unit {0}) ServeFault) (fault : ServeFault) (ends : Ends) → IsNew set a s
    → IsServedBy a s new max_reads r ends → r ≡ Err fault → Serves set max_reads (Err (Stopped fault)) ends
serves_until set a s new max_reads r fault ends k h is =
    stops set a s new max_reads fault ends k (subst (λ (q : Result (Unit {0}) ServeFault). IsServedBy a s new max_reads q ends) is h)
