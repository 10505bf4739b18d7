-- Runs that are served one after the other.
use Rattle.std.proofs.Common.{◌≡◌, ◌<◌, ◌+◌, ℕ, length, take, get_or, List, [], ◌∷◌, ◌++◌, refl, sym, ◌∙◌, ap, subst}
use Rattle.std.proofs.lemmas.List.{take_more}
use Rattle.batch_model.specs.Plant.{Setup, Plant, opening}
use Rattle.batch_safety.specs.Sets.{ClearedSetsRunSafely}
use Rattle.batch_verify.specs.ClearedSet.{ClearedSet}
use Rattle.batch_engine.specs.View.{setup}
use Rattle.batch_wire.specs.Transcript.{lines_of, Exchange, silence, followed_by, Transcript}
use Rattle.batch_serve.{specs.Joined.TranscriptsJoin, specs.Safe.GoesOnSafely, specs.Safe.TranscriptsAreSafe, specs.Safe.TranscriptsGoOnSafely, specs.GoingOn.ServiceGoesOn, specs.Runs.Run, specs.Served.AreServed, specs.Served.IsRunAnswered, specs.Served.RunsGoOnSafely, specs.Served.ServiceIsSafe, specs.Served.plain_text, specs.Served.run_lines, proofs.SettledTranscripts.transcripts_are_safe}

pub goes_on : ServiceGoesOn
goes_on c old mid new [] more answers told one other =
    subst (λ (l : List Run). AreServed c old more l new) (sym (ap (λ (l : List Run). l ++ told) one.0)) (subst (λ (p : Plant). AreServed c p more told new) one.1 other)
goes_on c old mid new (run ∷ runs) more answers told (first, others, on, is, served, all) other =
    (first, others ++ told, on, is, goes_on c on mid new runs more others told served other, ap (λ (l : List Run). l ++ told) all)

-- one more run was served, by the machine of the same set
one_more : (set now : ClearedSet) (old mid new : Plant) (runs answers : List Run) (run answer : Run) → now ≡ set → AreServed (setup set) old runs answers mid
    → IsRunAnswered (setup now) mid run answer new → AreServed (setup set) old (runs ++ run ∷ []) (answers ++ answer ∷ []) new
one_more set now old mid new runs answers run answer same served is =
    let one : IsRunAnswered (setup set) mid run answer new = subst (λ (s : ClearedSet). IsRunAnswered (setup s) mid run answer new) same is in
    goes_on (setup set) old mid new runs (run ∷ []) answers (answer ∷ []) served (answer, [], new, one, (refl, refl), refl)

-- so were all up to that one
pub served_so_far : (set now : ClearedSet) (old mid new : Plant) (runs answers items : List Run) (i : ℕ) (run answer : Run) → i < length runs → run ≡ get_or runs i run → now ≡ set
    → items ≡ answers ++ answer ∷ [] → AreServed (setup set) old (take i runs) answers mid → IsRunAnswered (setup now) mid run answer new → AreServed (setup set) old (take (i + 1) runs) items new
served_so_far set now old mid new runs answers items i run answer within item same all served is =
    let front : take (i + 1) runs ≡ take i runs ++ run ∷ [] = take_more runs i run within ∙ ap (λ (r : Run). take i runs ++ r ∷ []) (sym item) in
    subst (λ (l : List Run). AreServed (setup set) old l items new) (sym front)
    (subst (λ (l : List Run). AreServed (setup set) old (take i runs ++ run ∷ []) l new) (sym all) (one_more set now old mid new (take i runs) answers run answer same served is))

-- A transcript

pub record Said (c : Setup) (old : Plant) (runs answers : List Run) (new : Plant) : Type 0 where
  pub said : Exchange
  pub transcript : Transcript c old (run_lines runs) said new
  pub text : plain_text answers ≡ said.text

all_said : (join : TranscriptsJoin) (c : Setup) (old new : Plant) (runs answers : List Run) → AreServed c old runs answers new → Said c old runs answers new
all_said join c old new [] answers served = record { said = silence; transcript = (refl, served.1); text = ap plain_text served.0 }
all_said join c old new (run ∷ runs) answers (first, others, mid, is, served, all) =
    let rest = all_said join c mid new runs others served in
    record {
      said = followed_by is.said rest.said;
      transcript = join c old mid new (lines_of run.text) (run_lines runs) is.said rest.said is.transcript rest.transcript;
      text = ap plain_text all ∙ ap (λ l. l ++ plain_text others) is.text ∙ ap (λ l. is.said.text ++ l) rest.text;
    }

module _ (join : TranscriptsJoin) (safely : ClearedSetsRunSafely) where
  pub transcripts_go_on : TranscriptsGoOnSafely
  transcripts_go_on set mid new lines more said told can first others = record {
    said = followed_by said told;
    new = new;
    transcript = transcripts_are_safe set (safely set.cell set.recipes can) (lines ++ more) (followed_by said told) new (join (setup set) opening mid new lines more said told first others);
    text = refl;
  }

  pub runs_go_on : RunsGoOnSafely
  runs_go_on set mid new lines said runs answers can first served =
      let all = all_said join (setup set) mid new runs answers served in
      subst (λ t. GoesOnSafely (setup set) lines (run_lines runs) said.text t) (sym all.text)
      (transcripts_go_on set mid new lines (run_lines runs) said all.said can first all.transcript)

pub is_safe : (set : ClearedSet) → TranscriptsJoin → TranscriptsAreSafe set → ServiceIsSafe set
is_safe set join safe runs answers new served =
    let all = all_said join (setup set) opening new runs answers served in
    record { said = all.said; transcript = safe (run_lines runs) all.said new all.transcript; text = all.text }
