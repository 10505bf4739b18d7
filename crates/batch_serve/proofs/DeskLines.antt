-- Desks whose lines are taken, and to which lines are handed on, one after the other.
use Rattle.std.proofs.Common.{◌≡◌, ◌≢◌, ◌<◌, ◌≤◌, ◌+◌, ◌⊎◌, ℕ, Bool, true, false, ◌||◌, length, length-append, refl, get_or, set, cond, eqb, List, [], ◌∷◌, ◌++◌, append-nil, append_assoc, sym, ◌∙◌, ap, subst, arith, inl, inr, get_or-set_other, get_or-set_same, Some, None, option_to_list, if◌then◌else◌}
use Rattle.std.proofs.lemmas.{Bool.cases_lt, Bool.eq-eqb, Bool.false≢true, Bool.ne_eqb, Grind.flat_map-append, List.get_or_default, List.Elements.All-push}
use Rattle.rtrb.specs.Ring.{SameConsumer, received, sent}
use Rattle.batch_serve.specs.{Rounds.IsCutIfLate, Rounds.IsGathered, Rounds.IsTextOfMessages, Rounds.LinesGoOn, Rounds.is_end, Rounds.text_of_one, Rounds.text_sent, Runs.AreOfDesks, Runs.Run, Runs.own_text, Turns.IsSameBut, Turns.with_run, Waits.IsLate, Waits.Waits, Waits.cut_off, declared.desk.ServedDesk.ServedDesk, declared.desk_server.DeskServer.DeskServer, declared.rounds.Reader.Reader, declared.rounds.ReaderMessage.ReaderMessage, declared.rounds.ReaderMessage.TheVariants.End, declared.rounds.ReaderMessage.TheVariants.Lines, declared.rounds.Writer.Writer}

-- a run of one desk is none of another's
pub own_other : (desk other : ℕ) (group : List Run) (text : List ℕ) → (other ≡ desk → ⊥) → own_text other (group ++ record { desk = desk; text = text } ∷ []) ≡ own_text other group
own_other desk other group text apart =
    flat_map-append (λ (run : Run). cond (eqb run.desk other) run.text []) group (record { desk = desk; text = text } ∷ [])
    ∙ ap (λ b. own_text other group ++ (cond b text [] ++ [])) (ne_eqb desk other (λ same. apart (sym same)))
    ∙ append-nil (own_text other group)

-- it is of one of the desks
pub of_desks_more : (count desk : ℕ) (group : List Run) (text : List ℕ) → desk < count → AreOfDesks count group → AreOfDesks count (group ++ record { desk = desk; text = text } ∷ [])
of_desks_more count desk group text within of = All-push (λ (run : Run). run.desk < count) group (record { desk = desk; text = text }) of within

-- Messages of one desk

or_false : (b : Bool) → (b || false) ≡ b
or_false true = refl
or_false false = refl

-- lines came, and they are the desk's, unless it is cut
pub lines_gathered : {O : Type 0} (allows : List ReaderMessage → ReaderMessage → Type 0) (desk : ℕ) (is_cut : Bool) (before after : Reader O) (old new : List Run) (text : List ℕ)
    → SameConsumer before.ring after.ring → received after.ring ≡ received before.ring ++ Lines text ∷ [] → allows (received before.ring) (Lines text) → after.has_ended ≡ before.has_ended
    → (is_cut ≡ false → new ≡ with_run old desk text) → (is_cut ≡ true → new ≡ old) → IsGathered allows desk is_cut before after old new
lines_gathered allows desk is_cut before after old new text ring came allowed ended taken cut = record {
  ring = ring;
  message = Some (Lines text);
  came = came;
  allowed = allowed;
  own = own is_cut taken cut;
  ends = ended ∙ sym (or_false before.has_ended);
}
  where
    of_run : (t : List ℕ) → own_text desk (with_run old desk t) ≡ own_text desk old ++ (t ++ [])
    of_run [] = sym (append-nil (own_text desk old))
    of_run (b ∷ t) =
        flat_map-append (λ (run : Run). cond (eqb run.desk desk) run.text []) old (record { desk = desk; text = b ∷ t } ∷ [])
        ∙ ap (λ c. own_text desk old ++ (cond c (b ∷ t) [] ++ [])) (eq-eqb desk desk refl)

    own : (c : Bool) → (c ≡ false → new ≡ with_run old desk text) → (c ≡ true → new ≡ old)
        → own_text desk new ≡ own_text desk old ++ (if c then [] else text_sent (option_to_list (Some (Lines text))))
    own false taken cut = ap (own_text desk) (taken refl) ∙ of_run text
    own true taken cut = ap (own_text desk) (cut refl) ∙ sym (append-nil (own_text desk old))

-- a message without a line came
pub no_line_gathered : {O : Type 0} (allows : List ReaderMessage → ReaderMessage → Type 0) (desk : ℕ) (is_cut : Bool) (before after : Reader O) (group : List Run) (message : ReaderMessage)
    → SameConsumer before.ring after.ring → received after.ring ≡ received before.ring ++ message ∷ [] → allows (received before.ring) message → text_of_one message ≡ []
    → after.has_ended ≡ (before.has_ended || is_end message) → IsGathered allows desk is_cut before after group group
no_line_gathered allows desk is_cut before after group message ring came allowed none ended = record {
  ring = ring;
  message = Some message;
  came = came;
  allowed = allowed;
  own = own is_cut;
  ends = ended ∙ ap (λ b. before.has_ended || b) (sym (or_false (is_end message)));
}
  where
    own : (c : Bool) → own_text desk group ≡ own_text desk group ++ (if c then [] else text_sent (message ∷ []))
    own true = sym (append-nil (own_text desk group))
    own false = sym (ap (λ t. own_text desk group ++ (t ++ [])) none ∙ append-nil (own_text desk group))

pub end_gathered : {O : Type 0} (allows : List ReaderMessage → ReaderMessage → Type 0) (desk : ℕ) (is_cut : Bool) (before after : Reader O) (group : List Run) → SameConsumer before.ring after.ring
    → received after.ring ≡ received before.ring ++ End ∷ [] → allows (received before.ring) End → after.has_ended ≡ true → IsGathered allows desk is_cut before after group group
end_gathered allows desk is_cut before after group ring came allowed ended =
    no_line_gathered allows desk is_cut before after group End ring came allowed refl (ended ∙ sym (or_true before.has_ended))
  where
    or_true : (b : Bool) → (b || true) ≡ true
    or_true true = refl
    or_true false = refl

-- none came
pub nothing_gathered : {O : Type 0} (allows : List ReaderMessage → ReaderMessage → Type 0) (desk : ℕ) (is_cut : Bool) (before after : Reader O) (group : List Run) → SameConsumer before.ring after.ring
    → received after.ring ≡ received before.ring → after.has_ended ≡ before.has_ended → IsGathered allows desk is_cut before after group group
nothing_gathered allows desk is_cut before after group ring came ended = record {
  ring = ring;
  message = None;
  came = came ∙ sym (append-nil (received before.ring));
  allowed = tt;
  own = own is_cut;
  ends = ended ∙ sym (or_false before.has_ended);
}
  where
    own : (c : Bool) → own_text desk group ≡ own_text desk group ++ (if c then [] else [])
    own true = sym (append-nil (own_text desk group))
    own false = sym (append-nil (own_text desk group))

-- Desks one after the other

-- the element at a place that hasn't changed is that of the first list
pub was_here : {T : Type 0} (first now : List T) (i : ℕ) (old other : T) → i < length now → old ≡ get_or now i old → get_or now i other ≡ get_or first i other → get_or first i other ≡ old
was_here first now i old other within is same = sym (is ∙ get_or_default now i old other within ∙ same)

pub kept_behind : {T : Type 0} (first now : List T) (i : ℕ) (new : T) → ((k : ℕ) (other : T) → i ≤ k → get_or now k other ≡ get_or first k other)
    → (k : ℕ) (other : T) → i + 1 ≤ k → get_or (set now i new) k other ≡ get_or first k other
kept_behind first now i new rest k other above =
    let apart : k ≢ i = omega arith in
    get_or-set_other now i k new other apart ∙ rest k other (omega arith)

-- the lines of one more desk were taken
pub gathered_more : {O : Type 0} (allows : List ReaderMessage → ReaderMessage → Type 0) (desks : List ServedDesk) (first now : List (Reader O)) (i : ℕ) (old new : Reader O) (start before after : List Run)
    → i < length now → old ≡ get_or now i old → ((other : ServedDesk) → IsGathered allows i (get_or desks i other).waiting.is_cut old new before after)
    → ((k : ℕ) → (k ≡ i → ⊥) → own_text k after ≡ own_text k before)
    → ((k : ℕ) (reader : Reader O) (other : ServedDesk) → k < i → IsGathered allows k (get_or desks k other).waiting.is_cut (get_or first k reader) (get_or now k reader) start before)
    → ((k : ℕ) (reader : Reader O) → i ≤ k → get_or now k reader ≡ get_or first k reader)
    → ((k : ℕ) → i ≤ k → own_text k before ≡ own_text k start)
    → (k : ℕ) (reader : Reader O) (other : ServedDesk) → k < i + 1
    → IsGathered allows k (get_or desks k other).waiting.is_cut (get_or first k reader) (get_or (set now i new) k reader) start after
gathered_more {O} allows desks first now i old new start before after within is came others so_far rest own k reader other below = go (cases_lt k i)
  where
    all : (a b : Reader O) (d : ℕ) → a ≡ old → b ≡ new → d ≡ i → own_text i before ≡ own_text i start → IsGathered allows d (get_or desks d other).waiting.is_cut a b start after
    all a b d is_old is_new at same =
        let g : IsGathered allows d (get_or desks d other).waiting.is_cut a b before after =
        subst (λ (x : Reader O). IsGathered allows d (get_or desks d other).waiting.is_cut x b before after) (sym is_old)
        (subst (λ (x : Reader O). IsGathered allows d (get_or desks d other).waiting.is_cut old x before after) (sym is_new)
        (subst (λ n. IsGathered allows n (get_or desks n other).waiting.is_cut old new before after) (sym at) (came other))) in
        record {
          ring = g.ring;
          message = g.message;
          came = g.came;
          allowed = g.allowed;
          own = g.own ∙ ap (λ l. l ++ (if (get_or desks d other).waiting.is_cut then [] else text_sent (option_to_list g.message)))
              (ap (λ n. own_text n before) at ∙ same ∙ sym (ap (λ n. own_text n start) at));
          ends = g.ends;
        }

    go : (k < i) ⊎ (i ≤ k) → IsGathered allows k (get_or desks k other).waiting.is_cut (get_or first k reader) (get_or (set now i new) k reader) start after
    go (inl lt) =
        let apart : k ≢ i = omega arith in
        let g = so_far k reader other lt in
        record {
          ring = subst (λ (r : Reader O). SameConsumer (get_or first k reader).ring r.ring) (sym (get_or-set_other now i k new reader apart)) g.ring;
          message = g.message;
          came = ap (λ (r : Reader O). received r.ring) (get_or-set_other now i k new reader apart) ∙ g.came;
          allowed = g.allowed;
          own = others k apart ∙ g.own;
          ends = ap (λ (r : Reader O). r.has_ended) (get_or-set_other now i k new reader apart) ∙ g.ends;
        }
    go (inr le) =
        let at : k ≡ i = omega arith in
        all (get_or first k reader) (get_or (set now i new) k reader) k (ap (λ n. get_or first n reader) at ∙ was_here first now i old reader within is (rest i reader (omega arith)))
        (ap (λ n. get_or (set now i new) n reader) at ∙ get_or-set_same now i new reader within) at (own i (omega arith))

-- and those of the others are as they were
pub own_behind : (i : ℕ) (start before after : List Run) → ((k : ℕ) → (k ≡ i → ⊥) → own_text k after ≡ own_text k before)
    → ((k : ℕ) → i ≤ k → own_text k before ≡ own_text k start) → (k : ℕ) → i + 1 ≤ k → own_text k after ≡ own_text k start
own_behind i start before after others own k above =
    let apart : k ≢ i = omega arith in
    others k apart ∙ own k (omega arith)

-- a relation of each desk and its writer holds of one more
pub each_more : (R : ServedDesk → ServedDesk → Writer → Writer → Type 0) (desks now_desks : List ServedDesk) (writers now_writers : List Writer) (i : ℕ) (old new : ServedDesk) (before after : Writer)
    → i < length now_desks → i < length now_writers → old ≡ get_or now_desks i old → before ≡ get_or now_writers i before → R old new before after
    → ((k : ℕ) (other : ServedDesk) (writer : Writer) → k < i → R (get_or desks k other) (get_or now_desks k other) (get_or writers k writer) (get_or now_writers k writer))
    → ((k : ℕ) (other : ServedDesk) → i ≤ k → get_or now_desks k other ≡ get_or desks k other)
    → ((k : ℕ) (writer : Writer) → i ≤ k → get_or now_writers k writer ≡ get_or writers k writer)
    → (k : ℕ) (other : ServedDesk) (writer : Writer) → k < i + 1
    → R (get_or desks k other) (get_or (set now_desks i new) k other) (get_or writers k writer) (get_or (set now_writers i after) k writer)
each_more R desks now_desks writers now_writers i old new before after in_desks in_writers is_old is_before here so_far rest_desks rest_writers k other writer below = go (cases_lt k i)
  where
    all : (a b : ServedDesk) (x y : Writer) → a ≡ old → b ≡ new → x ≡ before → y ≡ after → R a b x y
    all a b x y p q r s =
        subst (λ (d : ServedDesk). R d b x y) (sym p) (subst (λ (d : ServedDesk). R old d x y) (sym q)
        (subst (λ (w : Writer). R old new w y) (sym r) (subst (λ (w : Writer). R old new before w) (sym s) here)))

    go : (k < i) ⊎ (i ≤ k) → R (get_or desks k other) (get_or (set now_desks i new) k other) (get_or writers k writer) (get_or (set now_writers i after) k writer)
    go (inl lt) =
        let apart : k ≢ i = omega arith in
        subst (λ (d : ServedDesk). R (get_or desks k other) d (get_or writers k writer) (get_or (set now_writers i after) k writer)) (sym (get_or-set_other now_desks i k new other apart))
        (subst (λ (w : Writer). R (get_or desks k other) (get_or now_desks k other) (get_or writers k writer) w) (sym (get_or-set_other now_writers i k after writer apart)) (so_far k other writer lt))
    go (inr le) =
        let at : k ≡ i = omega arith in
        all (get_or desks k other) (get_or (set now_desks i new) k other) (get_or writers k writer) (get_or (set now_writers i after) k writer)
        (ap (λ n. get_or desks n other) at ∙ was_here desks now_desks i old other in_desks is_old (rest_desks i other (omega arith)))
        (ap (λ n. get_or (set now_desks i new) n other) at ∙ get_or-set_same now_desks i new other in_desks)
        (ap (λ n. get_or writers n writer) at ∙ was_here writers now_writers i before writer in_writers is_before (rest_writers i writer (omega arith)))
        (ap (λ n. get_or (set now_writers i after) n writer) at ∙ get_or-set_same now_writers i after writer in_writers)

-- some of the queued lines went into the ring, and the desk was cut if too many were left
pub cut_where_late : (old new : ServedDesk) (before after : Writer) (left : Waits (List ℕ)) (cuts : Bool) → sent after.ring ++ left.lines ≡ sent before.ring ++ old.waiting.lines
    → left.lag ≡ old.waiting.lag → left.is_cut ≡ old.waiting.is_cut → (cuts ≡ true → IsLate left) → (cuts ≡ true → new.waiting ≡ cut_off left) → (cuts ≡ false → new.waiting ≡ left)
    → length new.waiting.lines ≤ new.waiting.lag → IsCutIfLate old new before after
cut_where_late old new before after left true order lag same late cut stays few = record {
  lag = ap (λ (w : Waits (List ℕ)). w.lag) (cut refl) ∙ lag;
  few = few;
  late = λ is_cut uncut. omega (arith, late refl, lag, ap length order, length-append (sent after.ring) left.lines, length-append (sent before.ring) old.waiting.lines);
}
cut_where_late old new before after left false order lag same late cut stays few = record {
  lag = ap (λ (w : Waits (List ℕ)). w.lag) (stays refl) ∙ lag;
  few = few;
  late = λ is_cut uncut. absurd (false≢true (sym uncut ∙ sym same ∙ sym (ap (λ (w : Waits (List ℕ)). w.is_cut) (stays refl)) ∙ is_cut));
}

pub same_on : (a b d : DeskServer) → IsSameBut a b → IsSameBut b d → IsSameBut a d
same_on a b d one other = record {
  engine = other.engine ∙ one.engine;
  names = other.names ∙ one.names;
  desks = other.desks ∙ one.desks;
  last = other.last ∙ one.last;
}

-- a message more is taken, or dropped if the desk is cut
pub lines_go_on : {O : Type 0} (allows : List ReaderMessage → ReaderMessage → Type 0) → LinesGoOn O allows
lines_go_on {O} allows desk is_cut runs group after old new so_far g = go is_cut so_far.all g.own
  where
    more : List ReaderMessage
    more = option_to_list g.message

    own : List Run → List ℕ
    own = own_text desk

    both : (l : List Run) → own (runs ++ l) ≡ own runs ++ own l
    both l = flat_map-append (λ (run : Run). cond (eqb run.desk desk) run.text []) runs l

    grown : (text : List ℕ) → own after ≡ own group ++ text → own (runs ++ after) ≡ text_sent so_far.taken ++ text
    grown text is =
        both after ∙ ap (λ l. own runs ++ l) is ∙ sym (append_assoc (own runs) (own group) text) ∙ ap (λ l. l ++ text) (sym (both group) ∙ so_far.text_is)

    came : received new.ring ≡ so_far.taken ++ (so_far.dropped ++ more)
    came = g.came ∙ ap (λ l. l ++ more) so_far.came_is ∙ append_assoc so_far.taken so_far.dropped more

    go : (c : Bool) → (c ≡ false → so_far.dropped ≡ []) → own after ≡ own group ++ (if c then [] else text_sent more) → IsTextOfMessages (received new.ring) c (own (runs ++ after))
    go true all is = record {
      taken = so_far.taken;
      dropped = so_far.dropped ++ more;
      came_is = came;
      text_is = grown [] is ∙ append-nil (text_sent so_far.taken);
      all = λ uncut. absurd (false≢true (sym uncut));
    }
    go false all is = record {
      taken = so_far.taken ++ more;
      dropped = [];
      came_is = came ∙ ap (λ l. so_far.taken ++ (l ++ more)) (all refl) ∙ sym (append-nil (so_far.taken ++ more));
      text_is = grown (text_sent more) is ∙ sym (flat_map-append text_of_one so_far.taken more);
      all = λ uncut. refl;
    }
