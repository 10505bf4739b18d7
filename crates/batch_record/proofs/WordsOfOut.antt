-- The words from which an out is read are the words of that out.
use Rattle.std.proofs.Common.{◌≡◌, ℕ, true, ◌&&◌, if◌then◌else◌, List, [], ◌∷◌, decimal, codes, Option, Some, None, refl, sym, ap, subst, ◌∙◌}
use Rattle.std.{specs.Prelude.option_map, specs.List.list_all, specs.Str.bytes_eq, proofs.lemmas.Bool.and_parts}
use Rattle.batch_text.specs.{NameText.is_name, NumberText.number_of, PlaceText.numbers_of}
use Rattle.batch_matrix.specs.declared.{state.State.State, command.Command.Command, report.Report.Report}
use Rattle.batch_recipe.specs.{Texts.place_text, Tree.Place, Conditions.ValueList, declared.need.Need.Need}
use Rattle.batch_model.specs.{Runs.Out, Runs.reply, Events.Refusal, Events.unknown_recipe, Events.unknown_batch, Events.command_not_accepted, Events.no_live_phase, Events.report_not_expected, Events.bad_output, Events.bad_binding, Events.full, Events.not_idle, Events.moves_pending, Events.no_memory, Events.removed}
use Rattle.batch_wire.specs.{EventLine.command_of, EventLine.word_of_report, EventLine.is_role_pair, RecordText.state_text, RecordText.command_text, RecordText.report_text, RecordText.need_text, RecordText.value_texts, RecordText.role_texts, RecordText.refusal_words, RecordText.out_words}
use Rattle.batch_record.{specs.Naming.IsShort, specs.Naming.IsAct, specs.Naming.IsClaim, specs.Naming.IsPhaseStep, specs.Naming.IsNamed, specs.Naming.IsNamedRefusal, specs.Naming.as_told, specs.RecordLine.is_plain_number, specs.RecordLine.is_plain_place, specs.RecordLine.is_plain_value, specs.RecordLine.need_of_word, specs.RecordLine.state_of_word, specs.RecordLine.claim_with, specs.RecordLine.claim_told_of, specs.RecordLine.ClaimTold, specs.RecordLine.passed_with, specs.RecordLine.passed_of, specs.RecordLine.batch_state_with, specs.RecordLine.batch_state_of, specs.RecordLine.removed_of, specs.RecordLine.ReportTold, specs.RecordLine.report_with, specs.RecordLine.report_told_of, specs.RecordLine.PhaseTold, specs.RecordLine.phase_with, specs.RecordLine.sent_with, specs.RecordLine.sent_of, specs.RecordLine.started_with, specs.RecordLine.started_of, specs.RecordLine.begun_of, specs.RecordLine.ended_of, specs.RecordLine.CreatedTold, specs.RecordLine.created_of, specs.RecordLine.because, specs.RecordLine.formula_refusal_of_words, specs.RecordLine.left_out_of, specs.RecordLine.state_alone, specs.RecordLine.code_alone, specs.RecordLine.refusal_of_words, specs.RecordLine.asked_out, specs.RecordLine.granted_out, specs.RecordLine.released_out, specs.RecordLine.passed_out, specs.RecordLine.stated_out, specs.RecordLine.obeyed_out, specs.RecordLine.report_out, specs.RecordLine.sent_out, specs.RecordLine.started_out, specs.RecordLine.begun_out, specs.RecordLine.ended_out, specs.RecordLine.created_out, specs.RecordLine.refused_out, specs.RecordLine.order_of_words, specs.RecordLine.ok_of, specs.RecordLine.other_of, specs.RecordLine.out_of_words, proofs.Numerals.written-again, proofs.Places.place-written, proofs.Places.place-is, proofs.WordRoundTrips.chosen, proofs.WordRoundTrips.nothing, proofs.WordRoundTrips.same, proofs.WordRoundTrips.tested, proofs.WordRoundTrips.is_word, proofs.WordRoundTrips.state-written, proofs.WordRoundTrips.command-written, proofs.WordRoundTrips.report-written, proofs.WordRoundTrips.name-is, proofs.WordRoundTrips.need-written, proofs.WordRoundTrips.NeedIs, proofs.WordRoundTrips.values-written, proofs.WordRoundTrips.roles-written}

act-is : (batch place : List ℕ) → is_plain_number batch ≡ true → is_plain_place place ≡ true → IsAct (number_of batch) (numbers_of place)
act-is batch place n p = record { batch_short = (written-again batch n).1; placed = place-is place p }

-- Claims

record ClaimIs (words : List (List ℕ)) (c : ClaimTold) : Type 0 where
  is : IsClaim c.batch c.place c.need
  text : decimal c.batch ∷ place_text c.place ∷ need_text c.need ∷ [] ≡ words

claim_with-is : (batch place word : List ℕ) (r : Option Need) → ((need : Need) → r ≡ Some need → NeedIs word need) → (c : ClaimTold)
    → claim_with batch place r ≡ Some c → ClaimIs (batch ∷ place ∷ word ∷ []) c
claim_with-is batch place word None h c e = nothing (ClaimIs (batch ∷ place ∷ word ∷ [])) c e
claim_with-is batch place word (Some need) h c e =
    let (both, is) = tested (is_plain_number batch && is_plain_place place) _ c e in
    let (n, p) = and_parts (is_plain_number batch) (is_plain_place place) both in
    let one = (written-again batch n).0 in
    let two = place-written place p in
    let three = h need refl in
    let text : need_text need ≡ word = three.text in
    subst (ClaimIs (batch ∷ place ∷ word ∷ [])) is (record { is = record { act = act-is batch place n p; need_named = three.need_named }; text = cc })

claim-is : (words : List (List ℕ)) (c : ClaimTold) → claim_told_of words ≡ Some c → ClaimIs words c
claim-is [] c e = nothing (ClaimIs []) c e
claim-is (a ∷ []) c e = nothing (ClaimIs (a ∷ [])) c e
claim-is (a ∷ b ∷ []) c e = nothing (ClaimIs (a ∷ b ∷ [])) c e
claim-is (batch ∷ place ∷ need ∷ []) c e = claim_with-is batch place need (need_of_word need) (need-written need) c e
claim-is (a ∷ b ∷ d ∷ f ∷ more) c e = nothing (ClaimIs (a ∷ b ∷ d ∷ f ∷ more)) c e

-- the same, and the place that follows the first
record PassedIs (words : List (List ℕ)) (t : ClaimTold × Place) : Type 0 where
  is : IsNamed (passed_out t)
  text : decimal t.0.batch ∷ place_text t.0.place ∷ place_text t.1 ∷ need_text t.0.need ∷ [] ≡ words

passed_with-is : (batch place to word : List ℕ) (r : Option ClaimTold) → ((c : ClaimTold) → r ≡ Some c → ClaimIs (batch ∷ place ∷ word ∷ []) c) → (t : ClaimTold × Place)
    → passed_with to r ≡ Some t → PassedIs (batch ∷ place ∷ to ∷ word ∷ []) t
passed_with-is batch place to word None h t e = nothing (PassedIs (batch ∷ place ∷ to ∷ word ∷ [])) t e
passed_with-is batch place to word (Some c) h t e =
    let (plain, is) = tested (is_plain_place to) _ t e in
    let first = h c refl in
    let text : decimal c.batch ∷ place_text c.place ∷ need_text c.need ∷ [] ≡ batch ∷ place ∷ word ∷ [] = first.text in
    let two = place-written to plain in
    subst (PassedIs (batch ∷ place ∷ to ∷ word ∷ [])) is (record { is = (first.is, place-is to plain); text = cc })

passed-is : (words : List (List ℕ)) (t : ClaimTold × Place) → passed_of words ≡ Some t → PassedIs words t
passed-is [] t e = nothing (PassedIs []) t e
passed-is (a ∷ []) t e = nothing (PassedIs (a ∷ [])) t e
passed-is (a ∷ b ∷ []) t e = nothing (PassedIs (a ∷ b ∷ [])) t e
passed-is (a ∷ b ∷ d ∷ []) t e = nothing (PassedIs (a ∷ b ∷ d ∷ [])) t e
passed-is (batch ∷ place ∷ to ∷ need ∷ []) t e =
    passed_with-is batch place to need (claim_with batch place (need_of_word need)) (claim_with-is batch place need (need_of_word need) (need-written need)) t e
passed-is (a ∷ b ∷ d ∷ f ∷ g ∷ more) t e = nothing (PassedIs (a ∷ b ∷ d ∷ f ∷ g ∷ more)) t e

-- A batch and its state

abbrev BatchIs : List (List ℕ) → ℕ × State → Type 0
BatchIs words b = IsShort b.0 × (decimal b.0 ∷ state_text b.1 ∷ [] ≡ words)

batch_with-is : (batch word : List ℕ) (r : Option State) → ((s : State) → r ≡ Some s → state_text s ≡ word) → (b : ℕ × State) → batch_state_with batch r ≡ Some b → BatchIs (batch ∷ word ∷ []) b
batch_with-is batch word None h b e = nothing (BatchIs (batch ∷ word ∷ [])) b e
batch_with-is batch word (Some s) h b e =
    let (n, is) = tested (is_plain_number batch) _ b e in
    let (one, short) = written-again batch n in
    let two = h s refl in
    subst (BatchIs (batch ∷ word ∷ [])) is (short, cc)

batch-is : (words : List (List ℕ)) (b : ℕ × State) → batch_state_of words ≡ Some b → BatchIs words b
batch-is [] b e = nothing (BatchIs []) b e
batch-is (a ∷ []) b e = nothing (BatchIs (a ∷ [])) b e
batch-is (batch ∷ becomes ∷ []) b e = batch_with-is batch becomes (state_of_word becomes) (state-written becomes) b e
batch-is (a ∷ c ∷ d ∷ more) b e = nothing (BatchIs (a ∷ c ∷ d ∷ more)) b e

abbrev RemovedIs : List (List ℕ) → ℕ → Type 0
RemovedIs words n = IsShort n × (decimal n ∷ [] ≡ words)

removed-is : (words : List (List ℕ)) (n : ℕ) → removed_of words ≡ Some n → RemovedIs words n
removed-is [] n e = nothing (RemovedIs []) n e
removed-is (batch ∷ []) n e =
    let (plain, is) = tested (is_plain_number batch) _ n e in
    let (one, short) = written-again batch plain in
    subst (RemovedIs (batch ∷ [])) is (short, cc)
removed-is (a ∷ b ∷ more) n e = nothing (RemovedIs (a ∷ b ∷ more)) n e

-- Reports

record ReportIs (words : List (List ℕ)) (t : ReportTold) : Type 0 where
  is : IsPhaseStep t.batch t.place t.unit t.phase
  text : t.unit ∷ t.phase ∷ report_text t.word ∷ decimal t.batch ∷ place_text t.place ∷ state_text t.becomes ∷ [] ≡ words

report_with-is : (unit phase word batch place becomes : List ℕ) (r : Option Report) (s : Option State)
    → ((x : Report) → r ≡ Some x → report_text x ≡ word) → ((x : State) → s ≡ Some x → state_text x ≡ becomes)
    → (t : ReportTold) → report_with unit phase batch place r s ≡ Some t → ReportIs (unit ∷ phase ∷ word ∷ batch ∷ place ∷ becomes ∷ []) t
report_with-is unit phase word batch place becomes None None h k t e = nothing (ReportIs (unit ∷ phase ∷ word ∷ batch ∷ place ∷ becomes ∷ [])) t e
report_with-is unit phase word batch place becomes None (Some s) h k t e = nothing (ReportIs (unit ∷ phase ∷ word ∷ batch ∷ place ∷ becomes ∷ [])) t e
report_with-is unit phase word batch place becomes (Some r) None h k t e = nothing (ReportIs (unit ∷ phase ∷ word ∷ batch ∷ place ∷ becomes ∷ [])) t e
report_with-is unit phase word batch place becomes (Some r) (Some s) h k t e =
    let (all, is) = tested ((is_name unit && is_name phase) && (is_plain_number batch && is_plain_place place)) _ t e in
    let (names, act) = and_parts (is_name unit && is_name phase) (is_plain_number batch && is_plain_place place) all in
    let (u, q) = and_parts (is_name unit) (is_name phase) names in
    let (n, p) = and_parts (is_plain_number batch) (is_plain_place place) act in
    let one = (written-again batch n).0 in
    let two = place-written place p in
    let three = h r refl in
    let four = k s refl in
    subst (ReportIs (unit ∷ phase ∷ word ∷ batch ∷ place ∷ becomes ∷ [])) is (record {
      is = record { act = act-is batch place n p; phase = record { unit_named = name-is unit u; phase_named = name-is phase q } };
      text = cc;
    })

report-is : (words : List (List ℕ)) (t : ReportTold) → report_told_of words ≡ Some t → ReportIs words t
report-is [] t e = nothing (ReportIs []) t e
report-is (a ∷ []) t e = nothing (ReportIs (a ∷ [])) t e
report-is (a ∷ b ∷ []) t e = nothing (ReportIs (a ∷ b ∷ [])) t e
report-is (a ∷ b ∷ c ∷ []) t e = nothing (ReportIs (a ∷ b ∷ c ∷ [])) t e
report-is (a ∷ b ∷ c ∷ d ∷ []) t e = nothing (ReportIs (a ∷ b ∷ c ∷ d ∷ [])) t e
report-is (a ∷ b ∷ c ∷ d ∷ f ∷ []) t e = nothing (ReportIs (a ∷ b ∷ c ∷ d ∷ f ∷ [])) t e
report-is (unit ∷ phase ∷ word ∷ batch ∷ place ∷ becomes ∷ []) t e =
    report_with-is unit phase word batch place becomes (word_of_report word) (state_of_word becomes) (report-written word) (state-written becomes) t e
report-is (a ∷ b ∷ c ∷ d ∷ f ∷ g ∷ h ∷ more) t e = nothing (ReportIs (a ∷ b ∷ c ∷ d ∷ f ∷ g ∷ h ∷ more)) t e

-- Phases

record PhaseIs (batch place unit name : List ℕ) (t : PhaseTold) : Type 0 where
  is : IsPhaseStep t.batch t.place t.unit t.name
  number : decimal t.batch ≡ batch
  place_is : place_text t.place ≡ place
  unit_is : t.unit ≡ unit
  name_is : t.name ≡ name

phase_with-is : (batch place unit name : List ℕ) (t : PhaseTold) → phase_with batch place unit name ≡ Some t → PhaseIs batch place unit name t
phase_with-is batch place unit name t e =
    let (all, is) = tested ((is_plain_number batch && is_plain_place place) && (is_name unit && is_name name)) _ t e in
    let (act, names) = and_parts (is_plain_number batch && is_plain_place place) (is_name unit && is_name name) all in
    let (u, q) = and_parts (is_name unit) (is_name name) names in
    let (n, p) = and_parts (is_plain_number batch) (is_plain_place place) act in
    subst (PhaseIs batch place unit name) is (record {
      is = record { act = act-is batch place n p; phase = record { unit_named = name-is unit u; phase_named = name-is name q } };
      number = (written-again batch n).0;
      place_is = place-written place p;
      unit_is = refl;
      name_is = refl;
    })

record SentIs (words : List (List ℕ)) (t : PhaseTold × Command) : Type 0 where
  is : IsPhaseStep t.0.batch t.0.place t.0.unit t.0.name
  text : decimal t.0.batch ∷ place_text t.0.place ∷ t.0.unit ∷ t.0.name ∷ command_text t.1 ∷ [] ≡ words

sent_with-is : (batch place unit name word : List ℕ) (r : Option PhaseTold) (s : Option Command)
    → ((x : PhaseTold) → r ≡ Some x → PhaseIs batch place unit name x) → ((x : Command) → s ≡ Some x → command_text x ≡ word)
    → (t : PhaseTold × Command) → sent_with r s ≡ Some t → SentIs (batch ∷ place ∷ unit ∷ name ∷ word ∷ []) t
sent_with-is batch place unit name word None None h k t e = nothing (SentIs (batch ∷ place ∷ unit ∷ name ∷ word ∷ [])) t e
sent_with-is batch place unit name word None (Some s) h k t e = nothing (SentIs (batch ∷ place ∷ unit ∷ name ∷ word ∷ [])) t e
sent_with-is batch place unit name word (Some r) None h k t e = nothing (SentIs (batch ∷ place ∷ unit ∷ name ∷ word ∷ [])) t e
sent_with-is batch place unit name word (Some r) (Some s) h k t e =
    let p = h r refl in
    let one = p.number in
    let two = p.place_is in
    let three = p.unit_is in
    let four = p.name_is in
    let five = k s refl in
    subst (SentIs (batch ∷ place ∷ unit ∷ name ∷ word ∷ [])) (same (r, s) t e) (record { is = p.is; text = cc })

sent-is : (words : List (List ℕ)) (t : PhaseTold × Command) → sent_of words ≡ Some t → SentIs words t
sent-is [] t e = nothing (SentIs []) t e
sent-is (a ∷ []) t e = nothing (SentIs (a ∷ [])) t e
sent-is (a ∷ b ∷ []) t e = nothing (SentIs (a ∷ b ∷ [])) t e
sent-is (a ∷ b ∷ c ∷ []) t e = nothing (SentIs (a ∷ b ∷ c ∷ [])) t e
sent-is (a ∷ b ∷ c ∷ d ∷ []) t e = nothing (SentIs (a ∷ b ∷ c ∷ d ∷ [])) t e
sent-is (batch ∷ place ∷ unit ∷ name ∷ word ∷ []) t e =
    sent_with-is batch place unit name word (phase_with batch place unit name) (command_of word) (phase_with-is batch place unit name) (command-written word) t e
sent-is (a ∷ b ∷ c ∷ d ∷ f ∷ g ∷ more) t e = nothing (SentIs (a ∷ b ∷ c ∷ d ∷ f ∷ g ∷ more)) t e

record StartedIs (words : List (List ℕ)) (t : PhaseTold × ValueList) : Type 0 where
  is : IsNamed (started_out t)
  text : decimal t.0.batch ∷ place_text t.0.place ∷ t.0.unit ∷ t.0.name ∷ value_texts t.1 ≡ words

started_with-is : (batch place unit name : List ℕ) (values : List (List ℕ)) (r : Option PhaseTold) → ((x : PhaseTold) → r ≡ Some x → PhaseIs batch place unit name x)
    → (t : PhaseTold × ValueList) → started_with values r ≡ Some t → StartedIs (batch ∷ place ∷ unit ∷ name ∷ values) t
started_with-is batch place unit name values None h t e = nothing (StartedIs (batch ∷ place ∷ unit ∷ name ∷ values)) t e
started_with-is batch place unit name values (Some r) h t e =
    let (all, is) = tested (list_all is_plain_value values) _ t e in
    let (named, five) = values-written values all in
    let p = h r refl in
    let one = p.number in
    let two = p.place_is in
    let three = p.unit_is in
    let four = p.name_is in
    subst (StartedIs (batch ∷ place ∷ unit ∷ name ∷ values)) is (record { is = (p.is, named); text = cc })

started-is : (words : List (List ℕ)) (t : PhaseTold × ValueList) → started_of words ≡ Some t → StartedIs words t
started-is [] t e = nothing (StartedIs []) t e
started-is (a ∷ []) t e = nothing (StartedIs (a ∷ [])) t e
started-is (a ∷ b ∷ []) t e = nothing (StartedIs (a ∷ b ∷ [])) t e
started-is (a ∷ b ∷ c ∷ []) t e = nothing (StartedIs (a ∷ b ∷ c ∷ [])) t e
started-is (batch ∷ place ∷ unit ∷ name ∷ values) t e =
    started_with-is batch place unit name values (phase_with batch place unit name) (phase_with-is batch place unit name) t e

-- Acts

record BegunIs (words : List (List ℕ)) (t : ℕ × Place × List ℕ) : Type 0 where
  is : IsNamed (begun_out t)
  text : decimal t.0 ∷ place_text t.1 ∷ t.2 ∷ [] ≡ words

begun-is : (words : List (List ℕ)) (t : ℕ × Place × List ℕ) → begun_of words ≡ Some t → BegunIs words t
begun-is [] t e = nothing (BegunIs []) t e
begun-is (a ∷ []) t e = nothing (BegunIs (a ∷ [])) t e
begun-is (a ∷ b ∷ []) t e = nothing (BegunIs (a ∷ b ∷ [])) t e
begun-is (batch ∷ place ∷ name ∷ []) t e =
    let (all, is) = tested ((is_plain_number batch && is_plain_place place) && is_name name) _ t e in
    let (act, q) = and_parts (is_plain_number batch && is_plain_place place) (is_name name) all in
    let (n, p) = and_parts (is_plain_number batch) (is_plain_place place) act in
    let one = (written-again batch n).0 in
    let two = place-written place p in
    subst (BegunIs (batch ∷ place ∷ name ∷ [])) is (record { is = (act-is batch place n p, name-is name q); text = cc })
begun-is (a ∷ b ∷ c ∷ d ∷ more) t e = nothing (BegunIs (a ∷ b ∷ c ∷ d ∷ more)) t e

record EndedIs (words : List (List ℕ)) (t : ℕ × Place) : Type 0 where
  is : IsNamed (ended_out t)
  text : decimal t.0 ∷ place_text t.1 ∷ [] ≡ words

ended-is : (words : List (List ℕ)) (t : ℕ × Place) → ended_of words ≡ Some t → EndedIs words t
ended-is [] t e = nothing (EndedIs []) t e
ended-is (a ∷ []) t e = nothing (EndedIs (a ∷ [])) t e
ended-is (batch ∷ place ∷ []) t e =
    let (act, is) = tested (is_plain_number batch && is_plain_place place) _ t e in
    let (n, p) = and_parts (is_plain_number batch) (is_plain_place place) act in
    let one = (written-again batch n).0 in
    let two = place-written place p in
    subst (EndedIs (batch ∷ place ∷ [])) is (record { is = act-is batch place n p; text = cc })
ended-is (a ∷ b ∷ c ∷ more) t e = nothing (EndedIs (a ∷ b ∷ c ∷ more)) t e

record CreatedIs (words : List (List ℕ)) (t : CreatedTold) : Type 0 where
  is : IsNamed (created_out t)
  text : decimal t.batch ∷ t.recipe ∷ decimal t.size ∷ role_texts t.roles ≡ words

created-is : (words : List (List ℕ)) (t : CreatedTold) → created_of words ≡ Some t → CreatedIs words t
created-is [] t e = nothing (CreatedIs []) t e
created-is (a ∷ []) t e = nothing (CreatedIs (a ∷ [])) t e
created-is (a ∷ b ∷ []) t e = nothing (CreatedIs (a ∷ b ∷ [])) t e
created-is (batch ∷ recipe ∷ size ∷ roles) t e =
    let (all, is) = tested ((is_plain_number batch && is_name recipe) && (is_plain_number size && list_all is_role_pair roles)) _ t e in
    let (first, second) = and_parts (is_plain_number batch && is_name recipe) (is_plain_number size && list_all is_role_pair roles) all in
    let (n, q) = and_parts (is_plain_number batch) (is_name recipe) first in
    let (m, pairs) = and_parts (is_plain_number size) (list_all is_role_pair roles) second in
    let (one, short) = written-again batch n in
    let (two, size_short) = written-again size m in
    let (named, three) = roles-written roles pairs in
    subst (CreatedIs (batch ∷ recipe ∷ size ∷ roles)) is (record { is = (short, name-is recipe q, size_short, named); text = cc })

-- Refusals

record RefusalIs (words : List (List ℕ)) (why : Refusal) : Type 0 where
  is : IsNamedRefusal why
  text : refusal_words why ≡ words

abbrev ReadsRefusal : List (List ℕ) → Option Refusal → Type 0
ReadsRefusal words r = (why : Refusal) → r ≡ Some why → RefusalIs words why

-- a refusal with nothing behind its code
alone : (code word : List ℕ) (why : Refusal) (rest : Option Refusal) → IsNamedRefusal why → refusal_words why ≡ word ∷ [] → ReadsRefusal (code ∷ []) rest
    → ReadsRefusal (code ∷ []) (if bytes_eq code word then Some why else rest)
alone code word why rest named words others =
    chosen (ReadsRefusal (code ∷ [])) (bytes_eq code word) (Some why) rest
    (λ e other at. subst (RefusalIs (code ∷ [])) (same why other at) (record { is = named; text = words ∙ ap (λ w. w ∷ []) (sym (is_word code word e)) }))
    (λ _. others)

alone-is : (code : List ℕ) → ReadsRefusal (code ∷ []) (code_alone code)
alone-is code =
    alone code (codes "E1") unknown_recipe _ tt refl (alone code (codes "E2") unknown_batch _ tt refl
    (alone code (codes "E4") no_live_phase _ tt refl (alone code (codes "E6") bad_output _ tt refl
    (alone code (codes "E8") full _ tt refl (alone code (codes "E10") moves_pending _ tt refl
    (alone code (codes "E11") no_memory _ tt refl (alone code (codes "E12") bad_binding _ tt refl (λ why e. nothing (RefusalIs (code ∷ [])) why e))))))))

state_alone-is : (words : List (List ℕ)) (s : State) → state_alone words ≡ Some s → state_text s ∷ [] ≡ words
state_alone-is [] s e = nothing (λ x. state_text x ∷ [] ≡ []) s e
state_alone-is (word ∷ []) s e = ap (λ w. w ∷ []) (state-written word s e)
state_alone-is (a ∷ b ∷ more) s e = nothing (λ x. state_text x ∷ [] ≡ a ∷ b ∷ more) s e

because-is : (word : List ℕ) (words : List (List ℕ)) (why : State → Refusal) → ((s : State) → IsNamedRefusal (why s) × (refusal_words (why s) ≡ word ∷ state_text s ∷ []))
    → (r : Option State) → ((s : State) → r ≡ Some s → state_text s ∷ [] ≡ words) → ReadsRefusal (word ∷ words) (because why r)
because-is word words why h None k other e = nothing (RefusalIs (word ∷ words)) other e
because-is word words why h (Some s) k other e =
    subst (RefusalIs (word ∷ words)) (same (why s) other e) (record { is = (h s).0; text = (h s).1 ∙ ap (λ ws. word ∷ ws) (k s refl) })

formula-is : (words : List (List ℕ)) → ReadsRefusal (codes "E7" ∷ words) (formula_refusal_of_words words)
formula-is [] why e = nothing (RefusalIs (codes "E7" ∷ [])) why e
formula-is (cause ∷ []) why e =
    let (first, is) = tested (bytes_eq cause (codes "F1")) _ why e in
    subst (RefusalIs (codes "E7" ∷ cause ∷ [])) is (record { is = tt; text = ap (λ w. codes "E7" ∷ w ∷ []) (sym (is_word cause (codes "F1") first)) })
formula-is (cause ∷ name ∷ []) why e =
    let (both, is) = tested (bytes_eq cause (codes "F2") && is_name name) _ why e in
    let (second, q) = and_parts (bytes_eq cause (codes "F2")) (is_name name) both in
    subst (RefusalIs (codes "E7" ∷ cause ∷ name ∷ [])) is (record { is = name-is name q; text = ap (λ w. codes "E7" ∷ w ∷ name ∷ []) (sym (is_word cause (codes "F2") second)) })
formula-is (a ∷ b ∷ c ∷ more) why e = nothing (RefusalIs (codes "E7" ∷ a ∷ b ∷ c ∷ more)) why e

left_out-is : (words : List (List ℕ)) → ReadsRefusal (codes "E13" ∷ words) (left_out_of words)
left_out-is [] why e = nothing (RefusalIs (codes "E13" ∷ [])) why e
left_out-is (name ∷ []) why e =
    let (q, is) = tested (is_name name) _ why e in
    subst (RefusalIs (codes "E13" ∷ name ∷ [])) is (record { is = name-is name q; text = refl })
left_out-is (a ∷ b ∷ more) why e = nothing (RefusalIs (codes "E13" ∷ a ∷ b ∷ more)) why e

coded : (code word : List ℕ) (words : List (List ℕ)) (r rest : Option Refusal) → ReadsRefusal (word ∷ words) r → ReadsRefusal (code ∷ words) rest
    → ReadsRefusal (code ∷ words) (if bytes_eq code word then r else rest)
coded code word words r rest h others =
    chosen (ReadsRefusal (code ∷ words)) (bytes_eq code word) r rest
    (λ e. subst (λ w. ReadsRefusal (w ∷ words) r) (sym (is_word code word e)) h)
    (λ _. others)

refusal-is : (words : List (List ℕ)) → ReadsRefusal words (refusal_of_words words)
refusal-is [] = λ why e. nothing (RefusalIs []) why e
refusal-is (code ∷ []) = alone-is code
refusal-is (code ∷ word ∷ others) =
    let words = word ∷ others in
    coded code (codes "E3") words _ _ (because-is (codes "E3") words command_not_accepted (λ s. (tt, refl)) (state_alone words) (state_alone-is words))
    (coded code (codes "E5") words _ _ (because-is (codes "E5") words report_not_expected (λ s. (tt, refl)) (state_alone words) (state_alone-is words))
    (coded code (codes "E9") words _ _ (because-is (codes "E9") words not_idle (λ s. (tt, refl)) (state_alone words) (state_alone-is words))
    (coded code (codes "E7") words _ _ (formula-is words)
    (coded code (codes "E13") words _ _ (left_out-is words) (λ why e. nothing (RefusalIs (code ∷ words)) why e)))))

-- Outs

pub record TellsWords (words : List (List ℕ)) (out : Out) : Type 0 where
  pub named : IsNamed out
  pub text : out_words out ≡ words
  pub whole : as_told out ≡ out

abbrev pub Sound : List (List ℕ) → Option Out → Type 0
Sound words r = (out : Out) → r ≡ Some out → TellsWords words out

mapped : {A : Type 0} (words : List (List ℕ)) (f : A → Out) (r : Option A) → ((a : A) → r ≡ Some a → TellsWords words (f a)) → Sound words (option_map f r)
mapped words f None h out e = nothing (TellsWords words) out e
mapped words f (Some a) h out e = subst (TellsWords words) (same (f a) out e) (h a refl)

-- the word at this position decides the kind
kind : (into : List (List ℕ) → List (List ℕ)) (first word : List ℕ) (words : List (List ℕ)) (r rest : Option Out)
    → Sound (into (word ∷ words)) r → Sound (into (first ∷ words)) rest → Sound (into (first ∷ words)) (if bytes_eq first word then r else rest)
kind into first word words r rest h others =
    chosen (Sound (into (first ∷ words))) (bytes_eq first word) r rest
    (λ e. subst (λ w. Sound (into (w ∷ words)) r) (sym (is_word first word e)) h)
    (λ _. others)

claim-kind : (word : List ℕ) (words : List (List ℕ)) (f : ClaimTold → Out) → ((c : ClaimTold) → IsClaim c.batch c.place c.need → IsNamed (f c))
    → ((c : ClaimTold) → out_words (f c) ≡ word ∷ decimal c.batch ∷ place_text c.place ∷ need_text c.need ∷ []) → ((c : ClaimTold) → as_told (f c) ≡ f c)
    → Sound (word ∷ words) (option_map f (claim_told_of words))
claim-kind word words f named text whole =
    mapped (word ∷ words) f (claim_told_of words)
    (λ c e. let is = claim-is words c e in record { named = named c is.is; text = text c ∙ ap (λ ws. word ∷ ws) is.text; whole = whole c })

order-is : (first : List ℕ) (words : List (List ℕ)) (r : Option Command) → ((c : Command) → r ≡ Some c → command_text c ≡ first) → Sound (codes "ok" ∷ first ∷ words) (order_of_words r words)
order-is first words None h = λ out e. nothing (TellsWords (codes "ok" ∷ first ∷ words)) out e
order-is first words (Some c) h =
    mapped (codes "ok" ∷ first ∷ words) (obeyed_out c) (batch_state_of words)
    (λ b e. let is = batch-is words b e in record { named = is.0; text = ap (λ ws. codes "ok" ∷ command_text c ∷ ws) (is.1) ∙ ap (λ w. codes "ok" ∷ w ∷ words) (h c refl); whole = refl })

ok-is : (words : List (List ℕ)) → Sound (codes "ok" ∷ words) (ok_of words)
ok-is [] = λ out e. nothing (TellsWords (codes "ok" ∷ [])) out e
ok-is (first ∷ words) =
    let into = λ (ws : List (List ℕ)). codes "ok" ∷ ws in
    kind into first (codes "report") words _ _
    (mapped (codes "ok" ∷ codes "report" ∷ words) report_out (report_told_of words)
    (λ t e. let is = report-is words t e in record { named = is.is; text = ap (λ ws. codes "ok" ∷ codes "report" ∷ ws) is.text; whole = refl }))
    (kind into first (codes "remove") words _ _
    (mapped (codes "ok" ∷ codes "remove" ∷ words) (λ batch. reply (removed batch)) (removed_of words)
    (λ n e. let is = removed-is words n e in record { named = is.0; text = ap (λ ws. codes "ok" ∷ codes "remove" ∷ ws) (is.1); whole = refl }))
    (order-is first words (command_of first) (command-written first)))

other-is : (first : List ℕ) (words : List (List ℕ)) → Sound (first ∷ words) (other_of first words)
other-is first words =
    let into = λ (ws : List (List ℕ)). ws in
    kind into first (codes "begin") words _ _
    (mapped (codes "begin" ∷ words) begun_out (begun_of words) (λ t e. let is = begun-is words t e in record { named = is.is; text = ap (λ ws. codes "begin" ∷ ws) is.text; whole = refl }))
    (kind into first (codes "end") words _ _
    (mapped (codes "end" ∷ words) ended_out (ended_of words) (λ t e. let is = ended-is words t e in record { named = is.is; text = ap (λ ws. codes "end" ∷ ws) is.text; whole = refl }))
    (kind into first (codes "send") words _ _
    (mapped (codes "send" ∷ words) sent_out (sent_of words) (λ t e. let is = sent-is words t e in record { named = is.is; text = ap (λ ws. codes "send" ∷ ws) is.text; whole = refl }))
    (kind into first (codes "start") words _ _
    (mapped (codes "start" ∷ words) started_out (started_of words) (λ t e. let is = started-is words t e in record { named = is.is; text = ap (λ ws. codes "start" ∷ ws) is.text; whole = refl }))
    (kind into first (codes "created") words _ _
    (mapped (codes "created" ∷ words) created_out (created_of words) (λ t e. let is = created-is words t e in record { named = is.is; text = ap (λ ws. codes "created" ∷ ws) is.text; whole = refl }))
    (kind into first (codes "refused") words _ _
    (mapped (codes "refused" ∷ words) refused_out (refusal_of_words words) (λ t e. let is = refusal-is words t e in record { named = is.is; text = ap (λ ws. codes "refused" ∷ ws) is.text; whole = refl }))
    (λ out e. nothing (TellsWords (first ∷ words)) out e))))))

pub words-tell : (words : List (List ℕ)) → Sound words (out_of_words words)
words-tell [] = λ out e. nothing (TellsWords []) out e
words-tell (first ∷ words) =
    let into = λ (ws : List (List ℕ)). ws in
    kind into first (codes "grant") words _ _ (claim-kind (codes "grant") words granted_out (λ c h. h) (λ c. refl) (λ c. refl))
    (kind into first (codes "ask") words _ _ (claim-kind (codes "ask") words asked_out (λ c h. h) (λ c. refl) (λ c. refl))
    (kind into first (codes "release") words _ _ (claim-kind (codes "release") words released_out (λ c h. h) (λ c. refl) (λ c. refl))
    (kind into first (codes "pass") words _ _
    (mapped (codes "pass" ∷ words) passed_out (passed_of words) (λ t e. let is = passed-is words t e in record { named = is.is; text = ap (λ ws. codes "pass" ∷ ws) is.text; whole = refl }))
    (kind into first (codes "ok") words _ _ (ok-is words)
    (kind into first (codes "state") words _ _
    (mapped (codes "state" ∷ words) stated_out (batch_state_of words) (λ b e. let is = batch-is words b e in record { named = is.0; text = ap (λ ws. codes "state" ∷ ws) (is.1); whole = refl }))
    (other-is first words))))))
