-- The messages of desks' readers, in order.
use Rattle.std.proofs.Common.{◌≡◌, ◌<◌, ℕ, Bool, true, false, ◌||◌, List, [], ◌∷◌, ◌++◌, length, get_or, Option, Some, None, IfSome, option_map, option_to_list, string_bytes, inl, refl, sym, ap, subst, arith, append_assoc, append-nil, ◌∙◌}
use Rattle.std.{proofs.lemmas.Bool.false≢true, proofs.lemmas.Grind.flat_map-append, proofs.lemmas.List.Folds.list_any-append, specs.List.list_any}
use Rattle.rtrb.specs.Ring.{received, sent}
use Rattle.batch_wire.specs.Transcript.{lines_of}
use Rattle.batch_serve.{specs.CleanLines.clean_lines, specs.Replays.IsWholeLines, specs.Rounds.AreGathered, specs.Rounds.AreMessagesOf, specs.Rounds.HaveWholeLines, specs.Rounds.IsGathered, specs.Rounds.IsTextOfMessages, specs.Rounds.is_end, specs.Rounds.text_of_one, specs.Rounds.text_sent, specs.Runs.Run, specs.Threads.MayHandOver, specs.declared.desk.ServedDesk.ServedDesk, specs.declared.rounds.Reader.Reader, specs.declared.rounds.ReaderMessage.ReaderMessage, specs.declared.rounds.ReaderMessage.TheVariants.Path, specs.declared.rounds.ReaderMessage.TheVariants.Lines, specs.declared.rounds.ReaderMessage.TheVariants.End, proofs.TranscriptLines.both}
use Rattle.batch_pipes.{proofs.Lists.one_of, specs.InputOrder.CameBehind, specs.InputOrder.IsGiven, specs.InputOrder.IsOrdered, specs.InputOrder.cleaned, specs.InputOrder.given_by, specs.Inputs.InputsGoOn, specs.Inputs.IsInputOf, specs.Inputs.IsNewReader, specs.Kept.AreReadersKept, specs.Streams.IsNew, specs.declared.reading.InputTask.InputTask}

-- The protocol

abbrev pub order_of : (List ℕ → Option (List ℕ)) → List ReaderMessage → ReaderMessage → Type 0
order_of given before next = IsOrdered given (before ++ next ∷ [])

-- no message yet
none_of : (input : Option (List ℕ)) → AreMessagesOf input []
none_of input = record { whole = tt; begun = λ text known. (text, refl, λ t. absurd (false≢true t)) }

-- messages of the input that its pipes give
behind_path : (given : List ℕ → Option (List ℕ)) (path : List ℕ) (input : Option (List ℕ)) (before : List ReaderMessage) → CameBehind (Some path) before [] → IsGiven (given path) input
    → (messages : List ReaderMessage) (next : ReaderMessage) → AreMessagesOf (cleaned input) (messages ++ next ∷ []) → order_of given (before ++ messages) next
behind_path given path input [] came is messages next of = absurd came
behind_path given path input (Lines text ∷ before) came is messages next of = absurd came
behind_path given path input (End ∷ before) came is messages next of = absurd came
behind_path given path input (Path from ∷ before) came is messages next of =
    subst (λ l. IsOrdered given ((Path from ∷ (l ++ messages)) ++ next ∷ [])) (sym came.1)
    (subst (λ p. AreMessagesOf (cleaned (given_by given p)) (messages ++ next ∷ [])) (sym came.0) (record { whole = of.whole; begun = begun (given path) refl }))
  where
    begun : (known : Option (List ℕ)) → given path ≡ known → (text : List ℕ) → cleaned known ≡ Some text
        → (rest : List ℕ) × (text ≡ text_sent (messages ++ next ∷ []) ++ rest) × (list_any is_end (messages ++ next ∷ []) ≡ true → rest ≡ [])
    begun None at text cleans = absurd cc
    begun (Some bytes) at text cleans = of.begun text (ap cleaned (is bytes at) ∙ cleans)

pub may_hand_over : {P : Type 0} (given : List ℕ → Option (List ℕ)) (task : InputTask P) (input : Option (List ℕ)) → IsNew task → IsGiven (given (string_bytes task.path)) input
    → MayHandOver (order_of given) (sent task.ring) (cleaned input)
may_hand_over given task input new is messages next of = behind_path given (string_bytes task.path) input (sent task.ring) new is messages next of

-- The messages that came

behind_more : (given : List ℕ → Option (List ℕ)) (path : Option (List ℕ)) (came messages : List ReaderMessage) (next : ReaderMessage) → CameBehind path came messages → order_of given came next
    → CameBehind path (came ++ next ∷ []) (messages ++ next ∷ []) × AreMessagesOf (cleaned (given_by given path)) (messages ++ next ∷ [])
behind_more given path [] messages next behind allowed = absurd behind
behind_more given path (Lines text ∷ came) messages next behind allowed = absurd behind
behind_more given path (End ∷ came) messages next behind allowed = absurd behind
behind_more given path (Path from ∷ came) messages next behind allowed = (
  (behind.0, ap (λ l. l ++ next ∷ []) behind.1),
  subst (λ p. AreMessagesOf (cleaned (given_by given p)) (messages ++ next ∷ [])) behind.0
      (subst (λ l. AreMessagesOf (cleaned (given_by given (option_map string_bytes from))) (l ++ next ∷ [])) behind.1 allowed),
)

-- one more came, or none
input_gathered : {O : Type 0} (given : List ℕ → Option (List ℕ)) (path : Option (List ℕ)) (desk : ℕ) (is_cut : Bool) (old new : Reader O) (before after : List Run)
    → IsInputOf given path old → IsGathered (order_of given) desk is_cut old new before after → IsInputOf given path new
input_gathered {O} given path desk is_cut old new before after of g = go g.message g.came g.allowed g.ends
  where
    ended : (more : List ReaderMessage) → new.has_ended ≡ (old.has_ended || list_any is_end more) → new.has_ended ≡ list_any is_end (of.messages ++ more)
    ended more is = is ∙ ap (λ b. b || list_any is_end more) of.ends ∙ sym (list_any-append is_end of.messages more)

    go : (m : Option ReaderMessage) → received new.ring ≡ received old.ring ++ option_to_list m → IfSome m (order_of given (received old.ring))
        → new.has_ended ≡ (old.has_ended || list_any is_end (option_to_list m)) → IsInputOf given path new
    go None came allowed ends = record {
      messages = of.messages;
      came = subst (λ l. CameBehind path l of.messages) (sym (came ∙ append-nil (received old.ring))) of.came;
      of = of.of;
      ends = ended [] ends ∙ ap (list_any is_end) (append-nil of.messages);
    }
    go (Some next) came allowed ends =
        let (behind, all) = behind_more given path (received old.ring) of.messages next of.came allowed in
        record { messages = of.messages ++ next ∷ []; came = subst (λ l. CameBehind path l (of.messages ++ next ∷ [])) (sym came) behind; of = all; ends = ended (next ∷ []) ends }

pub inputs_gathered : {O : Type 0} (given : List ℕ → Option (List ℕ)) (desks : List ServedDesk) (old new : List (Reader O)) (before after : List Run) → length old ≡ length desks
    → AreGathered (order_of given) desks old new before after → InputsGoOn given old new
inputs_gathered given desks old new before after as_many g listed of = record {
  count = g.count ∙ of.count;
  each = λ k plan reader within.
      let in_old : k < length old = omega (arith, within, of.count) in
      input_gathered given _ k _ (get_or old k reader) (get_or new k reader) before after (of.each k plan reader within)
      (g.each k reader (one_of desks k (omega (arith, in_old, as_many))) in_old);
}

pub inputs_kept : {O : Type 0} (given : List ℕ → Option (List ℕ)) (old new : List (Reader O)) → AreReadersKept old new → InputsGoOn given old new
inputs_kept given old new kept listed of = record {
  count = kept.count ∙ of.count;
  each = λ k plan reader within.
      let was = of.each k plan reader within in
      let is = kept.each k reader (omega (arith, within, of.count)) in
      record { messages = was.messages; came = subst (λ l. CameBehind (option_map string_bytes (get_or listed k plan).input) l was.messages) (sym is.ring) was.came; of = was.of; ends = is.ended ∙ was.ends };
}

pub inputs_twice : {O : Type 0} (given : List ℕ → Option (List ℕ)) (a b d : List (Reader O)) → InputsGoOn given a b → InputsGoOn given b d → InputsGoOn given a d
inputs_twice given a b d one other listed of = other listed (one listed of)

pub input_begins : {O : Type 0} (given : List ℕ → Option (List ℕ)) (path : Option (List ℕ)) (reader : Reader O) → IsNewReader path reader → IsInputOf given path reader
input_begins given path reader new = record { messages = []; came = new.came; of = none_of (cleaned (given_by given path)); ends = new.ended }

-- The lines that were served

text_behind : (path : Option (List ℕ)) (came messages : List ReaderMessage) → CameBehind path came messages → text_sent came ≡ text_sent messages
text_behind path [] messages behind = absurd behind
text_behind path (Lines text ∷ came) messages behind = absurd behind
text_behind path (End ∷ came) messages behind = absurd behind
text_behind path (Path from ∷ came) messages behind = ap text_sent behind.1

pub no_text : (path : Option (List ℕ)) (came : List ReaderMessage) → CameBehind path came [] → text_sent came ≡ []
no_text path came behind = text_behind path came [] behind

whole_behind : (path : Option (List ℕ)) (came messages : List ReaderMessage) → CameBehind path came messages → HaveWholeLines messages → HaveWholeLines came
whole_behind path [] messages behind whole = absurd behind
whole_behind path (Lines text ∷ came) messages behind whole = absurd behind
whole_behind path (End ∷ came) messages behind whole = absurd behind
whole_behind path (Path from ∷ came) messages behind whole = (inl refl, subst HaveWholeLines (sym behind.1) whole)

whole_front : (front rest : List ReaderMessage) → HaveWholeLines (front ++ rest) → IsWholeLines (text_sent front)
whole_front [] rest whole = inl refl
whole_front (message ∷ front) rest whole = both (text_of_one message) (text_sent front) whole.0 (whole_front front rest whole.1)

-- they are whole, and a prefix of those of the input
pub own_whole : {O : Type 0} (given : List ℕ → Option (List ℕ)) (path : Option (List ℕ)) (reader : Reader O) (is_cut : Bool) (text : List ℕ) → IsInputOf given path reader
    → IsTextOfMessages (received reader.ring) is_cut text → IsWholeLines text
own_whole given path reader is_cut text of t =
    subst IsWholeLines (sym t.text_is)
    (whole_front t.taken t.dropped (subst HaveWholeLines t.came_is (whole_behind path (received reader.ring) of.messages of.came of.of.whole)))

pub own_begun : {O : Type 0} (given : List ℕ → Option (List ℕ)) (path : Option (List ℕ)) (reader : Reader O) (is_cut : Bool) (text bytes : List ℕ) → IsInputOf given path reader
    → IsTextOfMessages (received reader.ring) is_cut text → (is_cut ≡ false → reader.has_ended ≡ true) → given_by given path ≡ Some bytes
    → (rest : List ℕ) × (clean_lines (lines_of bytes) ≡ text ++ rest) × (is_cut ≡ false → rest ≡ [])
own_begun given path reader is_cut text bytes of t ended known =
    let (rest, is, all) = of.of.begun (clean_lines (lines_of bytes)) (ap cleaned known) in
    let came : text_sent of.messages ≡ text ++ text_sent t.dropped =
    sym (text_behind path (received reader.ring) of.messages of.came) ∙ ap text_sent t.came_is ∙ flat_map-append text_of_one t.taken t.dropped
    ∙ ap (λ l. l ++ text_sent t.dropped) (sym t.text_is) in (
      text_sent t.dropped ++ rest,
      is ∙ ap (λ l. l ++ rest) came ∙ append_assoc text (text_sent t.dropped) rest,
      λ uncut. ap (λ l. text_sent l ++ rest) (t.all uncut) ∙ all (sym of.ends ∙ ended uncut),
    )
