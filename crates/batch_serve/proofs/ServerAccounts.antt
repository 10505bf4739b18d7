-- Turns continue the account of a server.
use Rattle.std.proofs.Common.{◌≡◌, ◌<◌, ◌+◌, ℕ, take, List, [], ◌∷◌, ◌++◌, length, get_or, Option, None, Some, refl, sym, ap, subst, arith, append_assoc, ◌∙◌}
use Rattle.std.{proofs.lemmas.List.append-nil, proofs.lemmas.List.take_more, proofs.KnownBytes.Appends-nil, proofs.KnownBytes.Appends-trans, specs.Io.KnownBytes.Appends}
use Rattle.batch_model.specs.Plant.{Setup, Plant}
use Rattle.batch_verify.specs.ClearedSet.{ClearedSet}
use Rattle.batch_engine.specs.View.{EngineView, setup, plant_of}
use Rattle.batch_journal.specs.Readers.{IsWhole}
use Rattle.batch_serve.{specs.Replays.ShowsNoWant, specs.Lives.Beginning, specs.Lives.IsLife, specs.Lives.LivesBegin, specs.Lives.LivesGoOn, specs.Lives.LivesHandOn, specs.Lives.LivesTake, specs.Lives.Outside, specs.Runs.Run, specs.Runs.due_of, specs.Runs.last_of, specs.Runs.runs_text, specs.Served.AreServed, specs.Served.AreWhole, specs.Served.ShowNoWant, specs.Told.IsDeskTold, specs.Turns.IsTurned, specs.Waits.IsAccount, specs.declared.desk.ServedDesk.ServedDesk, specs.declared.desk_server.DeskServer.DeskServer, proofs.RunTexts.texts_go_on, proofs.ServedRuns.goes_on}
use Rattle.rtrb.specs.Ring.{sent}

-- answers are of the desks that sent the lines
pub last_same : (c : Setup) (old new : Plant) (before : Option ℕ) (runs answers : List Run) → AreServed c old runs answers new → last_of before answers ≡ last_of before runs
last_same c old new before [] answers served = ap (last_of before) served.0
last_same c old new before (run ∷ runs) answers (first, others, mid, is, served, all) =
    ap (last_of before) all ∙ ap (λ d. last_of (Some d) others) is.desk ∙ last_same c mid new (Some run.desk) runs others served

-- the text of runs was written, and that of more behind it: together the text of all
written : (names now : List (List ℕ)) (before after later : Option (List ℕ)) (runs more : List Run) (last : Option ℕ) → now ≡ names → last ≡ last_of None runs
    → Appends before after (runs_text names None runs) → Appends after later (runs_text names last more) → Appends before later (runs_text now None (runs ++ more))
written names now before after later runs more last same last_is one other =
    subst (λ (n : List (List ℕ)). Appends before later (runs_text n None (runs ++ more))) (sym same)
    (subst (Appends before later) (sym (texts_go_on names None 0 None runs more).text)
    (Appends-trans before after later (runs_text names None runs) (runs_text names (last_of None runs) more) one (subst (λ o. Appends after later (runs_text names o more)) last_is other)))

-- so it is of the kept text
kept_more : (names now : List (List ℕ)) (before after later : List ℕ) (runs more : List Run) (last : Option ℕ) → now ≡ names → last ≡ last_of None runs
    → after ≡ before ++ runs_text names None runs → later ≡ after ++ runs_text names last more → later ≡ before ++ runs_text now None (runs ++ more)
kept_more names now before after later runs more last same last_is one other =
    other ∙ ap (λ l. l ++ runs_text names last more) one ∙ append_assoc before (runs_text names None runs) (runs_text names last more)
    ∙ ap (λ (o : Option ℕ). before ++ (runs_text names None runs ++ runs_text names o more)) last_is
    ∙ ap (λ l. before ++ l) (sym (texts_go_on names None 0 None runs more).text) ∙ ap (λ (n : List (List ℕ)). before ++ runs_text n None (runs ++ more)) (sym same)

pub whole_both : (runs more : List Run) → AreWhole runs → AreWhole more → AreWhole (runs ++ more)
whole_both [] more whole others = others
whole_both (run ∷ runs) more whole others = (whole.0, whole_both runs more whole.1 others)

pub whole_so_far : (runs : List Run) (i : ℕ) (run : Run) (text : List ℕ) → i < length runs → run ≡ get_or runs i run → text ≡ run.text
    → AreWhole (take i runs) → IsWhole text → AreWhole (take (i + 1) runs)
whole_so_far runs i run text within item is so_far whole =
    let front : take (i + 1) runs ≡ take i runs ++ run ∷ [] = take_more runs i run within ∙ ap (λ (r : Run). take i runs ++ r ∷ []) (sym item) in
    subst AreWhole (sym front) (whole_both (take i runs) (run ∷ []) so_far (subst IsWhole is whole, tt))

pub no_want_both : (answers more : List Run) → ShowNoWant answers → ShowNoWant more → ShowNoWant (answers ++ more)
no_want_both [] more shown others = others
no_want_both (answer ∷ answers) more shown others = (shown.0, no_want_both answers more shown.1 others)

pub no_want_so_far : (answers : List Run) (i : ℕ) (answer : Run) (text : List ℕ) → i < length answers → answer ≡ get_or answers i answer → text ≡ answer.text
    → ShowNoWant (take i answers) → ShowsNoWant text → ShowNoWant (take (i + 1) answers)
no_want_so_far answers i answer text within item is so_far shown =
    let front : take (i + 1) answers ≡ take i answers ++ answer ∷ [] = take_more answers i answer within ∙ ap (λ (r : Run). take i answers ++ r ∷ []) (sym item) in
    subst ShowNoWant (sym front) (no_want_both (take i answers) (answer ∷ []) so_far (subst ShowsNoWant is shown, tt))

-- a turn leads the account on by its runs and the answers to them
pub life_turned : {K : Type 0} (is_safe : K → Type 0) (before after : K) (begun : Beginning) (kept_after : List ℕ) (recorded_after : Option (List ℕ)) (runs answers : List Run) (now : Outside)
    (old new : DeskServer) → IsLife begun (is_safe before) runs answers now old → (is_safe after → is_safe before)
    → (turn : IsTurned old new (is_safe after) now.kept kept_after begun.again now.recorded recorded_after)
    → IsLife begun (is_safe after) (runs ++ old.group.items) (answers ++ turn.answers) (record now { kept = kept_after; recorded = recorded_after }) new
life_turned is_safe before after begun kept_after recorded_after runs answers now old new life stays turn =
    let c : Setup = setup begun.set in
    let served : AreServed c (plant_of old.engine) old.group.items turn.answers (plant_of new.engine) =
    subst (λ (s : ClearedSet). AreServed (setup s) (plant_of old.engine) old.group.items turn.answers (plant_of new.engine)) life.cleared turn.served in
    record {
      cleared = turn.cleared ∙ life.cleared;
      served = goes_on c begun.plant (plant_of old.engine) (plant_of new.engine) runs old.group.items answers turn.answers life.served served;
      whole = λ again. whole_both runs old.group.items (life.whole again) (turn.whole again);
      well = λ again. no_want_both answers turn.answers (life.well again) (turn.well again);
      last = turn.last ∙ ap (λ (o : Option ℕ). last_of o old.group.items) life.last ∙ sym (texts_go_on [] None 0 None runs old.group.items).last;
      is_kept = λ s. kept_more old.names.items new.names.items begun.kept now.kept kept_after runs old.group.items old.last turn.names life.last (life.is_kept (stays s)) (turn.kept s);
      is_recorded = written old.names.items new.names.items begun.recorded now.recorded recorded_after answers turn.answers old.last turn.names
          (life.last ∙ sym (last_same c begun.plant (plant_of old.engine) None runs answers life.served)) life.is_recorded turn.recorded;
      each = λ desk other within. told_on desk (get_or old.desks.items desk other) (get_or new.desks.items desk other)
          (life.each desk other (omega (arith, within, turn.told.count))) (turn.told.each desk other (omega (arith, within, turn.told.count)));
    }
  where
    told_on : (desk : ℕ) (one other : ServedDesk) → IsAccount (due_of desk one.unit answers) (now.told desk) one.waiting → IsDeskTold desk turn.answers one other
        → IsAccount (due_of desk other.unit (answers ++ turn.answers)) (now.told desk) other.waiting
    told_on desk one other account told =
        subst (λ (u : Option (List ℕ)). IsAccount (due_of desk u (answers ++ turn.answers)) (now.told desk) other.waiting) (sym told.unit)
        (subst (λ (l : List (List ℕ)). IsAccount l (now.told desk) other.waiting) (sym (texts_go_on [] None desk one.unit answers turn.answers).due)
        (told.account (due_of desk one.unit answers) (now.told desk) account))

pub lives_go_on : {K : Type 0} (is_safe : K → Type 0) → LivesGoOn is_safe
lives_go_on is_safe before after begun kept_after recorded_after runs answers now old new life stays turn =
    (turn.answers, life_turned is_safe before after begun kept_after recorded_after runs answers now old new life stays turn)

pub lives_begin : {K : Type 0} (is_safe : K → Type 0) → LivesBegin is_safe
lives_begin is_safe keeper begun s cleared plant last each = record {
  cleared = cleared;
  served = (refl, plant);
  whole = λ again. tt;
  well = λ again. tt;
  last = last;
  is_kept = λ _. sym (append-nil begun.kept);
  is_recorded = Appends-nil begun.recorded;
  each = each;
}

pub lives_take : {K : Type 0} (is_safe : K → Type 0) → LivesTake is_safe
lives_take is_safe keeper begun runs answers now old new life same = record {
  cleared = ap (λ (e : EngineView). e.cleared) same.engine ∙ life.cleared;
  served = subst (λ (e : EngineView). AreServed (setup begun.set) begun.plant runs answers (plant_of e)) (sym same.engine) life.served;
  whole = life.whole;
  well = life.well;
  last = same.last ∙ life.last;
  is_kept = λ s. life.is_kept s ∙ ap (λ (n : List (List ℕ)). begun.kept ++ runs_text n None runs) (sym same.names);
  is_recorded = subst (λ (n : List (List ℕ)). Appends begun.recorded now.recorded (runs_text n None answers)) (sym same.names) life.is_recorded;
  each = λ desk other within.
      subst (λ (l : List ServedDesk). IsAccount (due_of desk (get_or l desk other).unit answers) (now.told desk) (get_or l desk other).waiting) (sym same.desks)
      (life.each desk other (omega (arith, within, ap length same.desks)));
}

pub lives_hand_on : {K : Type 0} (is_safe : K → Type 0) → LivesHandOn is_safe
lives_hand_on is_safe keeper begun runs answers now old new before after writer life handed as_many told = record {
  cleared = ap (λ (e : EngineView). e.cleared) handed.engine ∙ life.cleared;
  served = subst (λ (e : EngineView). AreServed (setup begun.set) begun.plant runs answers (plant_of e)) (sym handed.engine) life.served;
  whole = life.whole;
  well = life.well;
  last = handed.last ∙ life.last;
  is_kept = λ s. life.is_kept s ∙ ap (λ (n : List (List ℕ)). begun.kept ++ runs_text n None runs) (sym handed.names);
  is_recorded = subst (λ (n : List (List ℕ)). Appends begun.recorded now.recorded (runs_text n None answers)) (sym handed.names) life.is_recorded;
  each = λ desk other within.
      let in_old : desk < length old.desks.items = omega (arith, within, handed.handed.count) in
      let one = handed.handed.each desk other writer (omega (arith, in_old, as_many)) in
      let all : List (List ℕ) = due_of desk (get_or old.desks.items desk other).unit answers in
      let was : IsAccount all (sent (get_or before desk writer).ring) (get_or old.desks.items desk other).waiting =
      subst (λ (l : List (List ℕ)). IsAccount all l (get_or old.desks.items desk other).waiting) (told desk (omega (arith, in_old, as_many))) (life.each desk other in_old) in
      subst (λ (u : Option (List ℕ)). IsAccount (due_of desk u answers) (sent (get_or after desk writer).ring) (get_or new.desks.items desk other).waiting) (sym one.unit)
      (one.account all was);
}
