-- An out is read again from its words, and from its line.
use Rattle.std.proofs.Common.{◌≡◌, ℕ, ◌<◌, Bool, true, false, if◌then◌else◌, List, [], ◌∷◌, ◌++◌, length, map, decimal, codes, Some, None, refl, sym, ap, ◌∙◌, arith, append_assoc}
use Rattle.std.{proofs.lemmas.List.append_cancel_right, proofs.lemmas.List.Splits.join_with_byte-slice_split, proofs.lemmas.Bool.and_from, specs.Prelude.option_map, specs.List.list_all, specs.List.join_with_byte}
use Rattle.batch_text.specs.{NumberText.number_of, PlaceText.numbers_of}
use Rattle.batch_matrix.specs.declared.{state.State.State, command.Command.Command}
use Rattle.batch_recipe.specs.{Texts.place_text, Texts.line_text, Tree.Place, declared.need.Need.Need}
use Rattle.batch_model.specs.{Runs.Out, Runs.reply, Runs.move, Moves.Move, Moves.send, Moves.state, Moves.release, Moves.begin, Moves.start, Moves.end, Moves.pass, Moves.ask, Moves.grant, Events.Reply, Events.created, Events.ordered, Events.reported, Events.refused, Events.Refusal, Events.unknown_recipe, Events.unknown_batch, Events.command_not_accepted, Events.no_live_phase, Events.report_not_expected, Events.bad_output, Events.output_left_out, Events.bad_binding, Events.bad_size, Events.bad_value, Events.full, Events.not_idle, Events.moves_pending, Events.no_memory, Events.removed}
use Rattle.batch_wire.specs.{EventLine.command_of, EventLine.role_pair_of, RecordText.state_text, RecordText.command_text, RecordText.need_text, RecordText.value_texts, RecordText.role_texts, RecordText.refusal_words, RecordText.reply_words, RecordText.move_words, RecordText.out_words}
use Rattle.batch_record.{specs.Naming.IsShort, specs.Naming.IsAct, specs.Naming.IsClaim, specs.Naming.IsPhaseStep, specs.Naming.IsNamed, specs.Naming.IsNamedReply, specs.Naming.IsNamedMove, specs.Naming.IsNamedRefusal, specs.Naming.as_told, specs.RecordLine.state_of_word, specs.RecordLine.ClaimTold, specs.RecordLine.claim_with, specs.RecordLine.claim_told_of, specs.RecordLine.batch_state_with, specs.RecordLine.batch_state_of, specs.RecordLine.report_with, specs.RecordLine.PhaseTold, specs.RecordLine.phase_with, specs.RecordLine.sent_with, specs.RecordLine.started_with, specs.RecordLine.because, specs.RecordLine.refusal_of_words, specs.RecordLine.passed_with, specs.RecordLine.asked_out, specs.RecordLine.granted_out, specs.RecordLine.released_out, specs.RecordLine.passed_out, specs.RecordLine.stated_out, specs.RecordLine.obeyed_out, specs.RecordLine.report_out, specs.RecordLine.sent_out, specs.RecordLine.started_out, specs.RecordLine.begun_out, specs.RecordLine.ended_out, specs.RecordLine.created_out, specs.RecordLine.refused_out, specs.RecordLine.out_of_words, specs.RecordLine.out_of_line, specs.RecordLine.line_words, specs.Laws.IsLineOf, specs.Laws.TellsOut, specs.Laws.TellsNothing, specs.Laws.TextIsOne, proofs.AbsentBytes.lacks, proofs.AbsentBytes.split-joined, proofs.AbsentBytes.name-no_space, proofs.Numerals.read-again, proofs.Numerals.decimal-no_space, proofs.Places.place-read, proofs.Places.place-no_space, proofs.WordRoundTrips.state-read, proofs.WordRoundTrips.state-no_space, proofs.WordRoundTrips.command-read, proofs.WordRoundTrips.command-no_space, proofs.WordRoundTrips.report-read, proofs.WordRoundTrips.report-no_space, proofs.WordRoundTrips.name-test, proofs.WordRoundTrips.same, proofs.WordRoundTrips.need-read, proofs.WordRoundTrips.need-no_space, proofs.WordRoundTrips.values-read, proofs.WordRoundTrips.values-no_space, proofs.WordRoundTrips.roles-read, proofs.WordRoundTrips.roles-no_space, proofs.WordsOfOut.words-tell}

taken : {A : Type 0} (b : Bool) (a c : A) → b ≡ true → a ≡ c → (if b then Some a else None) ≡ Some c
taken true a c e is = ap Some is
taken false a c e is = absurd cc

-- Parts

claim-back : (n : ℕ) (p : Place) (need : Need) → IsClaim n p need → claim_told_of (decimal n ∷ place_text p ∷ need_text need ∷ []) ≡ Some (record { batch = n; place = p; need = need })
claim-back n p need h =
    let (plain, number) = read-again n h.act.batch_short in
    let (placed, place) = place-read p h.act.placed in
    ap (claim_with (decimal n) (place_text p)) (need-read need h.need_named)
    ∙ taken _ _ _ (and_from _ _ plain placed)
    (ap (λ m. record { batch = m; place = numbers_of (place_text p); need = need }) number ∙ ap (λ q. record { batch = n; place = q; need = need }) place)

batch-back : (n : ℕ) (s : State) → IsShort n → batch_state_of (decimal n ∷ state_text s ∷ []) ≡ Some (n, s)
batch-back n s h =
    let (plain, number) = read-again n h in
    ap (batch_state_with (decimal n)) (state-read s) ∙ taken _ _ _ plain (ap (λ m. (m, s)) number)

phase-back : (n : ℕ) (p : Place) (unit name : List ℕ) → IsPhaseStep n p unit name
    → phase_with (decimal n) (place_text p) unit name ≡ Some (record { batch = n; place = p; unit = unit; name = name })
phase-back n p unit name h =
    let (plain, number) = read-again n h.act.batch_short in
    let (placed, place) = place-read p h.act.placed in
    taken _ _ _ (and_from _ _ (and_from _ _ plain placed) (and_from _ _ (name-test unit h.phase.unit_named) (name-test name h.phase.phase_named)))
    (ap (λ m. record { batch = m; place = numbers_of (place_text p); unit = unit; name = name }) number ∙ ap (λ q. record { batch = n; place = q; unit = unit; name = name }) place)

refusal-back : (why : Refusal) → IsNamedRefusal why → refusal_of_words (refusal_words why) ≡ Some why
refusal-back unknown_recipe h = refl
refusal-back unknown_batch h = refl
refusal-back (command_not_accepted s) h = ap (because command_not_accepted) (state-read s)
refusal-back no_live_phase h = refl
refusal-back (report_not_expected s) h = ap (because report_not_expected) (state-read s)
refusal-back bad_output h = refl
refusal-back (output_left_out name) h = ap (λ b. if b then Some (output_left_out name) else None) (name-test name h)
refusal-back bad_size h = refl
refusal-back (bad_value name) h = ap (λ b. if b then Some (bad_value name) else None) (name-test name h)
refusal-back full h = refl
refusal-back (not_idle s) h = ap (because not_idle) (state-read s)
refusal-back moves_pending h = refl
refusal-back no_memory h = refl
refusal-back bad_binding h = refl

-- no command is `report` or `remove`
order-back : (c : Command) (n : ℕ) (s : State) → IsShort n → out_of_words (codes "ok" ∷ command_text c ∷ decimal n ∷ state_text s ∷ []) ≡ Some (reply (ordered c n s))
order-back Command.Start n s h = ap (option_map (obeyed_out Command.Start)) (batch-back n s h)
order-back Command.Pause n s h = ap (option_map (obeyed_out Command.Pause)) (batch-back n s h)
order-back Command.Resume n s h = ap (option_map (obeyed_out Command.Resume)) (batch-back n s h)
order-back Command.Hold n s h = ap (option_map (obeyed_out Command.Hold)) (batch-back n s h)
order-back Command.Restart n s h = ap (option_map (obeyed_out Command.Restart)) (batch-back n s h)
order-back Command.Stop n s h = ap (option_map (obeyed_out Command.Stop)) (batch-back n s h)
order-back Command.Abort n s h = ap (option_map (obeyed_out Command.Abort)) (batch-back n s h)
order-back Command.Reset n s h = ap (option_map (obeyed_out Command.Reset)) (batch-back n s h)

reply-back : (r : Reply) → IsNamedReply r → out_of_words (reply_words r) ≡ Some (reply r)
reply-back (created n recipe size roles) (short, named, size_short, are_roles) =
    let (plain, number) = read-again n short in
    let (size_plain, again) = read-again size size_short in
    let (pairs, others) = roles-read roles are_roles in
    ap (option_map created_out)
    (taken _ _ _ (and_from _ _ (and_from _ _ plain (name-test recipe named)) (and_from _ _ size_plain pairs))
    (ap (λ m. record { batch = m; recipe = recipe; size = number_of (decimal size); roles = map role_pair_of (role_texts roles) }) number
    ∙ ap (λ m. record { batch = n; recipe = recipe; size = m; roles = map role_pair_of (role_texts roles) }) again
    ∙ ap (λ rs. record { batch = n; recipe = recipe; size = size; roles = rs }) others))
reply-back (ordered c n s) h = order-back c n s h
reply-back (removed n) h =
    let (plain, number) = read-again n h in
    ap (option_map (λ batch. reply (removed batch))) (taken _ _ _ plain number)
reply-back (reported unit phase word n p s) h =
    let (plain, number) = read-again n h.act.batch_short in
    let (placed, place) = place-read p h.act.placed in
    ap (option_map report_out)
    (ap (λ r. report_with unit phase (decimal n) (place_text p) r (state_of_word (state_text s))) (report-read word)
    ∙ ap (λ r. report_with unit phase (decimal n) (place_text p) (Some word) r) (state-read s)
    ∙ taken _ _ _ (and_from _ _ (and_from _ _ (name-test unit h.phase.unit_named) (name-test phase h.phase.phase_named)) (and_from _ _ plain placed))
    (ap (λ m. record { unit = unit; phase = phase; word = word; batch = m; place = numbers_of (place_text p); becomes = s }) number
    ∙ ap (λ q. record { unit = unit; phase = phase; word = word; batch = n; place = q; becomes = s }) place))
reply-back (refused why) h = ap (option_map refused_out) (refusal-back why h)

move-back : (m : Move) → IsNamedMove m → out_of_words (move_words m) ≡ Some (as_told (move m))
move-back (send n p phase c) h =
    ap (option_map sent_out)
    (ap (λ r. sent_with r (command_of (command_text c))) (phase-back n p phase.unit phase.name h) ∙ ap (sent_with (Some (record { batch = n; place = p; unit = phase.unit; name = phase.name }))) (command-read c))
move-back (state n s) h = ap (option_map stated_out) (batch-back n s h)
move-back (release n p need) h = ap (option_map released_out) (claim-back n p need h)
move-back (begin n p name) (act, named) =
    let (plain, number) = read-again n act.batch_short in
    let (placed, place) = place-read p act.placed in
    ap (option_map begun_out) (taken _ _ _ (and_from _ _ (and_from _ _ plain placed) (name-test name named)) (ap (λ m. (m, numbers_of (place_text p), name)) number ∙ ap (λ q. (n, q, name)) place))
move-back (start n p phase values) (h, are) =
    let (all, back) = values-read values are in
    let told : PhaseTold = record { batch = n; place = p; unit = phase.unit; name = phase.name } in
    ap (option_map started_out)
    (ap (started_with (value_texts values)) (phase-back n p phase.unit phase.name h)
    ∙ taken _ _ _ all (ap (λ vs. (told, vs)) back))
move-back (end n p) act =
    let (plain, number) = read-again n act.batch_short in
    let (placed, place) = place-read p act.placed in
    ap (option_map ended_out) (taken _ _ _ (and_from _ _ plain placed) (ap (λ m. (m, numbers_of (place_text p))) number ∙ ap (λ q. (n, q)) place))
move-back (pass n p to need) (h, placed) =
    let (plain, place) = place-read to placed in
    let told : ClaimTold = record { batch = n; place = p; need = need } in
    ap (option_map passed_out)
    (ap (passed_with (place_text to)) (claim-back n p need h) ∙ taken _ _ _ plain (ap (λ q. (told, q)) place))
move-back (ask n p need) h = ap (option_map asked_out) (claim-back n p need h)
move-back (grant n p need) h = ap (option_map granted_out) (claim-back n p need h)

pub words-back : (out : Out) → IsNamed out → out_of_words (out_words out) ≡ Some (as_told out)
words-back (reply r) h = reply-back r h
words-back (move m) h = move-back m h

-- No word has a space in it

act-no_space : (n : ℕ) (p : Place) (words : List (List ℕ)) → IsAct n p → list_all (lacks 32) words ≡ true → list_all (lacks 32) (decimal n ∷ place_text p ∷ words) ≡ true
act-no_space n p words h more = and_from _ _ (decimal-no_space n h.batch_short) (and_from _ _ (place-no_space p h.placed) more)

refusal-no_space : (why : Refusal) → IsNamedRefusal why → list_all (lacks 32) (refusal_words why) ≡ true
refusal-no_space unknown_recipe h = refl
refusal-no_space unknown_batch h = refl
refusal-no_space (command_not_accepted s) h = and_from _ _ (state-no_space s) refl
refusal-no_space no_live_phase h = refl
refusal-no_space (report_not_expected s) h = and_from _ _ (state-no_space s) refl
refusal-no_space bad_output h = refl
refusal-no_space (output_left_out name) h = and_from _ _ (name-no_space name h) refl
refusal-no_space bad_size h = refl
refusal-no_space (bad_value name) h = and_from _ _ (name-no_space name h) refl
refusal-no_space full h = refl
refusal-no_space (not_idle s) h = and_from _ _ (state-no_space s) refl
refusal-no_space moves_pending h = refl
refusal-no_space no_memory h = refl
refusal-no_space bad_binding h = refl

reply-no_space : (r : Reply) → IsNamedReply r → list_all (lacks 32) (reply_words r) ≡ true
reply-no_space (created n recipe size roles) (short, named, size_short, are) =
    and_from _ _ (decimal-no_space n short) (and_from _ _ (name-no_space recipe named) (and_from _ _ (decimal-no_space size size_short) (roles-no_space roles are)))
reply-no_space (ordered c n s) h = and_from _ _ (command-no_space c) (and_from _ _ (decimal-no_space n h) (and_from _ _ (state-no_space s) refl))
reply-no_space (removed n) h = and_from _ _ (decimal-no_space n h) refl
reply-no_space (reported unit phase word n p s) h =
    and_from _ _ (name-no_space unit h.phase.unit_named) (and_from _ _ (name-no_space phase h.phase.phase_named) (and_from _ _ (report-no_space word)
    (act-no_space n p (state_text s ∷ []) h.act (and_from _ _ (state-no_space s) refl))))
reply-no_space (refused why) h = refusal-no_space why h

claim-no_space : (n : ℕ) (p : Place) (need : Need) → IsClaim n p need → list_all (lacks 32) (decimal n ∷ place_text p ∷ need_text need ∷ []) ≡ true
claim-no_space n p need h = act-no_space n p (need_text need ∷ []) h.act (and_from _ _ (need-no_space need h.need_named) refl)

phase-no_space : (n : ℕ) (p : Place) (unit name : List ℕ) (words : List (List ℕ)) → IsPhaseStep n p unit name → list_all (lacks 32) words ≡ true
    → list_all (lacks 32) (decimal n ∷ place_text p ∷ unit ∷ name ∷ words) ≡ true
phase-no_space n p unit name words h more =
    act-no_space n p (unit ∷ name ∷ words) h.act (and_from _ _ (name-no_space unit h.phase.unit_named) (and_from _ _ (name-no_space name h.phase.phase_named) more))

move-no_space : (m : Move) → IsNamedMove m → list_all (lacks 32) (move_words m) ≡ true
move-no_space (send n p phase c) h = phase-no_space n p phase.unit phase.name (command_text c ∷ []) h (and_from _ _ (command-no_space c) refl)
move-no_space (state n s) h = and_from _ _ (decimal-no_space n h) (and_from _ _ (state-no_space s) refl)
move-no_space (release n p need) h = claim-no_space n p need h
move-no_space (begin n p name) (act, named) = act-no_space n p (name ∷ []) act (and_from _ _ (name-no_space name named) refl)
move-no_space (start n p phase values) (h, are) = phase-no_space n p phase.unit phase.name (value_texts values) h (values-no_space values are)
move-no_space (end n p) h = act-no_space n p [] h refl
move-no_space (pass n p to need) (h, placed) =
    act-no_space n p (place_text to ∷ need_text need ∷ []) h.act (and_from _ _ (place-no_space to placed) (and_from _ _ (need-no_space need h.need_named) refl))
move-no_space (ask n p need) h = claim-no_space n p need h
move-no_space (grant n p need) h = claim-no_space n p need h

no_space : (out : Out) → IsNamed out → list_all (lacks 32) (out_words out) ≡ true
no_space (reply r) h = reply-no_space r h
no_space (move m) h = move-no_space m h

some-reply : (r : Reply) → 0 < length (reply_words r)
some-reply (created n recipe size roles) = omega arith
some-reply (ordered c n s) = omega arith
some-reply (removed n) = omega arith
some-reply (reported unit phase word n p s) = omega arith
some-reply (refused why) = omega arith

some-move : (m : Move) → 0 < length (move_words m)
some-move (send n p phase c) = omega arith
some-move (state n s) = omega arith
some-move (release n p need) = omega arith
some-move (begin n p name) = omega arith
some-move (start n p phase values) = omega arith
some-move (end n p) = omega arith
some-move (pass n p to need) = omega arith
some-move (ask n p need) = omega arith
some-move (grant n p need) = omega arith

some-words : (out : Out) → 0 < length (out_words out)
some-words (reply r) = some-reply r
some-words (move m) = some-move m

-- Lines

joined-line : (words : List (List ℕ)) → line_text words ≡ join_with_byte 32 words ++ codes "\n"
joined-line [] = refl
joined-line (word ∷ []) = refl
joined-line (word ∷ next ∷ words) =
    ap (λ t. word ++ (32 ∷ t)) (joined-line (next ∷ words))
    ∙ sym (append_assoc word (32 ∷ join_with_byte 32 (next ∷ words)) (codes "\n"))

apart : (words : List (List ℕ)) → 0 < length words → list_all (lacks 32) words ≡ true → line_words (join_with_byte 32 words) ≡ words
apart [] some e = absurd (omega (arith, some))
apart (word ∷ words) some e = split-joined 32 word words e

-- an out is read again from its line
pub line-back : (line : List ℕ) (out : Out) → IsNamed out → IsLineOf out line → out_of_line line ≡ Some (as_told out)
line-back line out named text =
    let is : line ≡ join_with_byte 32 (out_words out) = append_cancel_right line (join_with_byte 32 (out_words out)) (codes "\n") (sym text ∙ joined-line (out_words out)) in
    ap out_of_words (ap line_words is ∙ apart (out_words out) (some-words out) (no_space out named)) ∙ words-back out named

-- and a line from which an out is read tells that out
pub line-tells : (line : List ℕ) (out : Out) → out_of_line line ≡ Some out → TellsOut line out
line-tells line out e =
    let h = words-tell (line_words line) out e in
    record {
      named = h.named;
      text = joined-line (out_words out) ∙ ap (λ ws. join_with_byte 32 ws ++ codes "\n") h.text ∙ ap (λ l. l ++ codes "\n") (join_with_byte-slice_split 32 line);
      whole = h.whole;
    }

pub line-no_out : (line : List ℕ) → out_of_line line ≡ None → TellsNothing line
line-no_out line e out named text = let is : Some (as_told out) ≡ None = sym (line-back line out named text) ∙ e in absurd cc

-- The laws

pub text-is-one : TextIsOne
text-is-one one other named other_named e =
    let line = join_with_byte 32 (out_words one) in
    let text : IsLineOf one line = joined-line (out_words one) in
    let first = line-back line one named text in
    let second = line-back line other other_named (sym e ∙ text) in
    let is : Some (as_told one) ≡ Some (as_told other) = sym first ∙ second in
    same (as_told one) (as_told other) is
