-- After each line of a transcript the machine is settled, and from the opening of a cleared set its outs are a safe record.
use Rattle.std.proofs.Common.{ℕ, List, [], ◌∷◌, Option, Some, None, Result, Ok, Err, refl, sym, ap, ◌∙◌, subst, inl, inr}
use Rattle.batch_model.specs.{Events.Event, Moves.Move, Moves.after_move, Plant.Setup, Plant.Plant, Plant.opening}
use Rattle.batch_safety.specs.Sets.{RunsSafely}
use Rattle.batch_verify.specs.ClearedSet.{ClearedSet}
use Rattle.batch_engine.specs.View.{setup}
use Rattle.batch_wire.specs.{EventLine.event_of_line, Transcript.Exchange, Transcript.silence, Transcript.followed_by, Transcript.Settles, Transcript.Answers, Transcript.Transcript, WrittenTranscript.WritesTranscript, declared.fault.WireFault.WireFault}
use Rattle.batch_serve.{specs.Safe.TranscriptsAreSafe, specs.Safe.TranscriptsLeaveNobodyInVain, specs.Settled.IsSettled, specs.Settled.TranscriptsSettle, proofs.Exchanges.followed-assoc, proofs.Exchanges.transcript_leads}

moves_settle : (c : Setup) (old new : Plant) (moves : List Move) → Settles c old moves new → IsSettled c new
moves_settle c old new [] s = subst (IsSettled c) (sym s.1) s.0
moves_settle c old new (m ∷ moves) s = moves_settle c (after_move old m) new moves s.1

answer_settles : (c : Setup) (old new : Plant) (said : Result (Option Event) WireFault) (exchange : Exchange) → IsSettled c old
    → Answers c old said exchange new → IsSettled c new
answer_settles c old new (Ok None) exchange k h = subst (IsSettled c) (sym h.1) k
answer_settles c old new (Err fault) exchange k h = subst (IsSettled c) (sym h.1) k
answer_settles c old new (Ok (Some event)) exchange k (inl h) = subst (IsSettled c) (sym h.1) k
answer_settles c old new (Ok (Some event)) exchange k (inr h) = moves_settle c h.1.mid new h.1.moves h.1.settles

transcript_settles : (c : Setup) (old new : Plant) (lines : List (List ℕ)) (said : Exchange) → IsSettled c old → Transcript c old lines said new → IsSettled c new
transcript_settles c old new [] said k t = subst (IsSettled c) (sym t.1) k
transcript_settles c old new (line ∷ lines) said k t =
    transcript_settles c t.2 new lines t.1 (answer_settles c old t.2 (event_of_line line) t.0 k t.3) t.4

pub transcripts_settle : TranscriptsSettle
transcripts_settle c old new [] others said k t =
    record { first = silence; then_said = said; mid = old; before = (refl, refl); settled = k; after = t; tells = refl }
transcripts_settle c old new (line ∷ front) others said k t =
    let later = transcripts_settle c t.2 new front others t.1 (answer_settles c old t.2 (event_of_line line) t.0 k t.3) t.4 in
    record {
      first = followed_by t.0 later.first;
      then_said = later.then_said;
      mid = later.mid;
      before = (t.0, later.first, t.2, t.3, later.before, refl);
      settled = later.settled;
      after = later.after;
      tells = t.5 ∙ ap (followed_by t.0) later.tells ∙ sym (followed-assoc t.0 later.first later.then_said);
    }

-- a written transcript from a settled plant leads to a settled one
pub writes_settle : (c : Setup) (old new : Plant) (lines : List (List ℕ)) (x y : Option (List ℕ)) → WritesTranscript c old lines new x y → IsSettled c old → IsSettled c new
writes_settle c old new lines x y h k = transcript_settles c old new lines h.said k h.transcript

pub transcripts_are_safe : (set : ClearedSet) → RunsSafely set.cell set.recipes → TranscriptsAreSafe set
transcripts_are_safe set runs lines said new t =
    let leads = transcript_leads (setup set) opening new lines said t in
    record {
      transcript = t;
      leads = leads;
      safe = runs.safe said.events said.outs new leads;
      kept = λ front rest events plant e h. runs.kept events front plant h;
      settled = transcript_settles (setup set) opening new lines said refl t;
    }

pub nobody_in_vain : (set : ClearedSet) → RunsSafely set.cell set.recipes → TranscriptsLeaveNobodyInVain set
nobody_in_vain set runs lines said new t =
    runs.settled said.events said.outs new (transcript_leads (setup set) opening new lines said t) (transcript_settles (setup set) opening new lines said refl t)
