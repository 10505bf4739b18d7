-- The lines of outs give the same state as the outs.
use Rattle.std.proofs.Common.{◌≡◌, inl, inr, ℕ, Bool, true, false, List, [], ◌∷◌, ◌++◌, fold, map, filter, not, Option, Some, None, option_map, refl, sym, ap, subst, ◌∙◌, nat_eq}
use Rattle.batch_model.specs.{Moves.send, Moves.state, Moves.release, Moves.begin, Moves.start, Moves.end, Moves.pass, Moves.ask, Moves.grant, Events.created, Events.ordered, Events.removed, Events.reported, Events.refused, Plant.BatchAct, Plant.is_same_act, Records.Active, Records.active_after, Records.ends_phase, Records.holders_after, Records.state_after, Records.waiters_after, Runs.Out, Runs.reply, Runs.move}
use Rattle.batch_matrix.specs.declared.{report.Report.Report, state.State.State, state.State.TheVariants.Idle}
use Rattle.batch_recipe.specs.Conditions.{Name}
use Rattle.batch_record.{proofs.OutFromWords.line-back, proofs.PassedOverLines.passed-nothing, specs.Laws.IsLineOf, specs.Laws.is_passed_over, specs.Naming.IsNamed, specs.Naming.as_told, specs.RecordLine.out_of_line, proofs.LivePhases.appended, proofs.LivePhases.filtered, specs.Blocks.Stage, specs.Blocks.stage_after_mark, specs.Blocks.mark_of, specs.Blocks.stage_after, specs.Blocks.stages, specs.Blocks.stage_after_out, specs.Promises.AreLinesOf, specs.Promises.IsAsModelled, specs.Promises.LinesTellTheirOuts, specs.Promises.SaysNothing, specs.Promises.place_of_active, specs.Promises.place_of_live, specs.Telling.Tale, specs.Telling.Listed, specs.Telling.Live, specs.Telling.in_state, specs.Telling.is_at, specs.Telling.led_by, specs.Telling.listed_after, specs.Telling.live_after, specs.Telling.moved_at, specs.Telling.said_by, specs.Telling.empty_tale, specs.Telling.tale_after}

abbrev whole_tale : Tale → Stage
whole_tale tale = record { tale = tale; block = None }

-- a part of an out that its text leaves out changes nothing
seen : (tale : Tale) (out : Out) → tale_after tale (as_told out) ≡ tale_after tale out
seen tale (reply answer) = refl
seen tale (move (send n p phase c)) = refl
seen tale (move (state n s)) = refl
seen tale (move (release n p need)) = refl
seen tale (move (begin n p name)) = refl
seen tale (move (start n p phase values)) = refl
seen tale (move (end n p)) = refl
seen tale (move (pass n p to need)) = refl
seen tale (move (ask n p need)) = refl
seen tale (move (grant n p need)) = refl

module _ (line : List ℕ) (out : Out) (named : IsNamed out) (text : IsLineOf out line) where
  passed-by : (b : Bool) → is_passed_over line ≡ b → is_passed_over line ≡ false
  passed-by true e = absurd (passed-nothing line e out named text)
  passed-by false e = e

  out-taken : (tale : Tale) → stage_after (whole_tale tale) line ≡ Some (whole_tale (tale_after tale out))
  out-taken tale =
      ap (λ b. elim b [ true ↦ Some (stage_after_mark (whole_tale tale) (mark_of line)) | false ↦ option_map (stage_after_out (whole_tale tale)) (out_of_line line) ]) (passed-by (is_passed_over line) refl)
      ∙ ap (option_map (stage_after_out (whole_tale tale))) (line-back line out named text)
      ∙ ap (λ t. Some (whole_tale t)) (seen tale out)

nothing-said : (line : List ℕ) (tale : Tale) → SaysNothing line → stage_after (whole_tale tale) line ≡ Some (whole_tale tale)
nothing-said line tale h =
    ap (λ b. elim b [ true ↦ Some (stage_after_mark (whole_tale tale) (mark_of line)) | false ↦ option_map (stage_after_out (whole_tale tale)) (out_of_line line) ]) h.0
    ∙ ap (λ mark. Some (stage_after_mark (whole_tale tale) mark)) h.1

goes-on : (stage next : Stage) (line : List ℕ) (lines : List (List ℕ)) → stage_after stage line ≡ Some next → stages stage (line ∷ lines) ≡ stages next lines
goes-on stage next line lines e = ap (λ o. elim o [ None ↦ None | Some mid ↦ stages mid lines ]) e

lines-tell : (tale : Tale) (outs : List Out) (lines : List (List ℕ)) → AreLinesOf outs lines → stages (whole_tale tale) lines ≡ Some (whole_tale (fold tale_after tale outs))
lines-tell tale outs [] e = ap (λ xs. Some (whole_tale (fold tale_after tale xs))) (sym e)
lines-tell tale outs (line ∷ lines) (inl h) = goes-on (whole_tale tale) (whole_tale tale) line lines (nothing-said line tale h.0) ∙ lines-tell tale outs lines h.1
lines-tell tale outs (line ∷ lines) (inr (out, others, is, named, text, rest)) =
    goes-on (whole_tale tale) (whole_tale (tale_after tale out)) line lines (out-taken line out named text tale)
    ∙ lines-tell (tale_after tale out) others lines rest
    ∙ ap (λ xs. Some (whole_tale (fold tale_after tale xs))) (sym is)

pub lines-tell-their-outs : LinesTellTheirOuts
lines-tell-their-outs outs lines h = lines-tell empty_tale outs lines h

-- The state is that in the definitions of a safe record

module _ (r : Name) where
  holders-of : (tale : Tale) (outs : List Out) → (fold tale_after tale outs).holders r ≡ fold (holders_after r) (tale.holders r) outs
  holders-of tale [] = refl
  holders-of tale (out ∷ outs) = holders-of (tale_after tale out) outs

  waiters-of : (tale : Tale) (outs : List Out) → (fold tale_after tale outs).waiters r ≡ fold (waiters_after r) (tale.waiters r) outs
  waiters-of tale [] = refl
  waiters-of tale (out ∷ outs) = waiters-of (tale_after tale out) outs

live-of : (tale : Tale) (outs : List Out) → (fold tale_after tale outs).live ≡ fold live_after tale.live outs
live-of tale [] = refl
live-of tale (out ∷ outs) = live-of (tale_after tale out) outs

batches-of : (n : ℕ) (tale : Tale) (outs : List Out) → (fold tale_after tale outs).batches n ≡ fold (listed_after n) (tale.batches n) outs
batches-of n tale [] = refl
batches-of n tale (out ∷ outs) = batches-of n (tale_after tale out) outs

-- a fold and its view
module _ {X Y Z : Type 0} (f : X → Out → X) (g : Y → Out → Y) (see : X → Z) (other : Y → Z)
    (h : (x : X) (y : Y) (out : Out) → see x ≡ other y → see (f x out) ≡ other (g y out)) where
  alike : (x : X) (y : Y) (outs : List Out) → see x ≡ other y → see (fold f x outs) ≡ other (fold g y outs)
  alike x y [] e = e
  alike x y (out ∷ outs) e = alike (f x out) (g y out) outs (h x y out e)

-- Live phases

module _ (act : BatchAct) (change : State → State) where
  moved-more : (live : Live) (lives : List Live) (b : Bool) → is_at act live ≡ b → map place_of_live (moved_at act change lives) ≡ map place_of_live lives
      → map place_of_live (moved_at act change (live ∷ lives)) ≡ map place_of_live (live ∷ lives)
  moved-more live lives true e h = rw e (ap (λ ps. place_of_live live ∷ ps) h)
  moved-more live lives false e h = rw e (ap (λ ps. place_of_live live ∷ ps) h)

  moved-places : (lives : List Live) → map place_of_live (moved_at act change lives) ≡ map place_of_live lives
  moved-places [] = refl
  moved-places (live ∷ lives) = moved-more live lives (is_at act live) refl (moved-places lives)

abbrev AreAlike : List Live → List Active → Type 0
AreAlike lives actives = map place_of_live lives ≡ map place_of_active actives

ended-places : (act : BatchAct) (lives : List Live) (actives : List Active) → AreAlike lives actives
    → AreAlike (filter (λ live. not (is_at act live)) lives) (filter (λ active. not (is_same_act active.act act)) actives)
ended-places act lives actives e =
    filtered place_of_live (λ live. not (is_at act live)) (λ place. not (is_same_act place.act act)) (λ live. refl) lives
    ∙ ap (filter (λ place. not (is_same_act place.act act))) e
    ∙ sym (filtered place_of_active (λ active. not (is_same_act active.act act)) (λ place. not (is_same_act place.act act)) (λ active. refl) actives)

report-places : (word : Report) (act : BatchAct) (lives : List Live) (actives : List Active) → AreAlike lives actives → (b : Bool)
    → AreAlike (elim b [ true ↦ filter (λ live. not (is_at act live)) lives | false ↦ moved_at act (said_by word) lives ])
    (elim b [ true ↦ filter (λ active. not (is_same_act active.act act)) actives | false ↦ actives ])
report-places word act lives actives e true = ended-places act lives actives e
report-places word act lives actives e false = moved-places act (said_by word) lives ∙ e

live-step : (lives : List Live) (actives : List Active) (out : Out) → AreAlike lives actives → AreAlike (live_after lives out) (active_after actives out)
live-step lives actives (reply (created n r s rs)) e = e
live-step lives actives (reply (ordered c n s)) e = e
live-step lives actives (reply (removed n)) e = e
live-step lives actives (reply (reported u p word n place s)) e = report-places word (n, place) lives actives e (ends_phase word)
live-step lives actives (reply (refused why)) e = e
live-step lives actives (move (send n p phase c)) e = moved-places (n, p) (led_by c) lives ∙ e
live-step lives actives (move (state n s)) e = e
live-step lives actives (move (release n p need)) e = e
live-step lives actives (move (begin n p name)) e = e
live-step lives actives (move (start n p phase values)) e =
    appended place_of_live lives _ ∙ ap (λ ps. ps ++ record { act = (n, p); unit = phase.unit; name = phase.name } ∷ []) e ∙ sym (appended place_of_active actives _)
live-step lives actives (move (end n p)) e = e
live-step lives actives (move (pass n p to need)) e = e
live-step lives actives (move (ask n p need)) e = e
live-step lives actives (move (grant n p need)) e = e

-- States of batches

abbrev Agrees : Option Listed → Option State → Type 0
Agrees None now = Unit {0}
Agrees (Some listed) now = now ≡ Some listed.state

told-agrees : (b : Bool) (becomes : State) (listed : Option Listed) (now : Option State) → Agrees listed now
    → Agrees (elim b [ true ↦ option_map (in_state becomes) listed | false ↦ listed ]) (elim b [ true ↦ Some becomes | false ↦ now ])
told-agrees true becomes None now h = tt
told-agrees true becomes (Some l) now h = refl
told-agrees false becomes listed now h = h

made-agrees : (b : Bool) (l : Listed) (listed : Option Listed) (now : Option State) → Agrees listed now
    → Agrees (elim b [ true ↦ Some l | false ↦ listed ]) (elim b [ true ↦ Some l.state | false ↦ now ])
made-agrees true l listed now h = refl
made-agrees false l listed now h = h

gone-agrees : (b : Bool) (listed : Option Listed) (now : Option State) → Agrees listed now → Agrees (elim b [ true ↦ None | false ↦ listed ]) now
gone-agrees true listed now h = tt
gone-agrees false listed now h = h

state-step : (m : ℕ) (listed : Option Listed) (now : Option State) (out : Out) → Agrees listed now → Agrees (listed_after m listed out) (state_after m now out)
state-step m listed now (reply (created n r s rs)) h = made-agrees (nat_eq n m) (record { recipe = r; size = s; state = Idle }) listed now h
state-step m listed now (reply (ordered c n s)) h = told-agrees (nat_eq n m) s listed now h
state-step m listed now (reply (removed n)) h = gone-agrees (nat_eq n m) listed now h
state-step m listed now (reply (reported u p word n place s)) h = told-agrees (nat_eq n m) s listed now h
state-step m listed now (reply (refused why)) h = h
state-step m listed now (move (send n p phase c)) h = h
state-step m listed now (move (state n s)) h = told-agrees (nat_eq n m) s listed now h
state-step m listed now (move (release n p need)) h = h
state-step m listed now (move (begin n p name)) h = h
state-step m listed now (move (start n p phase values)) h = h
state-step m listed now (move (end n p)) h = h
state-step m listed now (move (pass n p to need)) h = h
state-step m listed now (move (ask n p need)) h = h
state-step m listed now (move (grant n p need)) h = h

states-agree : (m : ℕ) (listed : Option Listed) (now : Option State) (outs : List Out) → Agrees listed now → Agrees (fold (listed_after m) listed outs) (fold (state_after m) now outs)
states-agree m listed now [] h = h
states-agree m listed now (out ∷ outs) h = states-agree m (listed_after m listed out) (state_after m now out) outs (state-step m listed now out h)

agreed : (o : Option Listed) (now : Option State) (l : Listed) → o ≡ Some l → Agrees o now → now ≡ Some l.state
agreed o now l e h = subst (λ x. Agrees x now) e h

pub as-modelled : (outs : List Out) → IsAsModelled outs
as-modelled outs = record {
  holders = λ r. holders-of r empty_tale outs;
  waiters = λ r. waiters-of r empty_tale outs;
  live = ap (map place_of_live) (live-of empty_tale outs) ∙ alike live_after active_after (map place_of_live) (map place_of_active) live-step [] [] outs refl;
  states = λ n l e. agreed (fold (listed_after n) None outs) _ l (sym (batches-of n empty_tale outs) ∙ e) (states-agree n None None outs tt);
}
