-- The messages of readers, and the output of writers, step by step.
use Rattle.std.proofs.Common.{◌≡◌, ℕ, Bool, true, false, List, [], ◌∷◌, ◌++◌, Option, Some, None, Result, Ok, Err, inl, refl, sym, ap, subst, append_assoc, append-nil, ◌||◌, ◌∙◌}
use Rattle.std.{proofs.KnownBytes.Appends-nil, proofs.KnownBytes.Appends-kept, proofs.KnownBytes.Appends-trans, proofs.KnownBytes.Consumes-kept, proofs.KnownBytes.Consumes-nil, proofs.KnownBytes.Consumes-trans, proofs.KnownBytes.Keeps-refl, proofs.lemmas.Bool.false≢true, proofs.lemmas.Grind.flat_map-append, proofs.lemmas.List.Folds.list_any-append, specs.Io.KnownBytes.Appends, specs.Io.KnownBytes.Consumes, specs.Io.KnownBytes.IsAtEnd, specs.Io.KnownBytes.Keeps, specs.List.list_any}
use Rattle.batch_wire.specs.Written.{AppendsBeginning, Writes}
use Rattle.batch_serve.specs.{Replays.IsWholeLines, Rounds.AreMessagesOf, Rounds.HaveWholeLines, Rounds.is_end, Rounds.text_of_one, Rounds.text_sent, Threads.IsInputRead, Threads.AreLinesWritten, Threads.MayHandOver, Threads.ReadsOn, Threads.WritesOn, Threads.lines_text, declared.rounds.ReaderMessage.ReaderMessage, declared.rounds.ReaderMessage.TheVariants.Path, declared.rounds.ReaderMessage.TheVariants.Lines, declared.rounds.ReaderMessage.TheVariants.End}

-- Readers

whole_both : (xs ys : List ReaderMessage) → HaveWholeLines xs → HaveWholeLines ys → HaveWholeLines (xs ++ ys)
whole_both [] ys one other = other
whole_both (x ∷ xs) ys one other = (one.0, whole_both xs ys one.1 other)

pub lines_read : (old new : Option (List ℕ)) (before after : List ReaderMessage) (text : List ℕ) → Consumes old new text → IsWholeLines text → after ≡ before ++ Lines text ∷ []
    → ReadsOn old new before after
lines_read old new before after text read whole went = record { items = Lines text ∷ []; whole = (whole, tt); went = went; read = subst (Consumes old new) (sym (append-nil text)) read }

pub nothing_read : (old new : Option (List ℕ)) (before after : List ReaderMessage) → Keeps old new → after ≡ before → ReadsOn old new before after
nothing_read old new before after kept same = record { items = []; whole = tt; went = same ∙ sym (append-nil before); read = Consumes-kept old old new [] (Consumes-nil old) kept }

pub lines_lost : (old new : Option (List ℕ)) (before after : List ReaderMessage) (text : List ℕ) → Consumes old new text → after ≡ before → IsInputRead false old new before after
lines_lost old new before after text read same = record {
  items = [];
  whole = tt;
  rest = text;
  went = same ∙ sym (append-nil before);
  read = read;
  all = λ t. absurd (false≢true t);
  end = λ t. absurd (false≢true t);
  told = λ t. absurd (false≢true t);
}

pub end_read : (told : Bool) (old new : Option (List ℕ)) (before after : List ReaderMessage) → Consumes old new [] → IsAtEnd new
    → (told ≡ true → after ≡ before ++ End ∷ []) → (told ≡ false → after ≡ before) → IsInputRead told old new before after
end_read true old new before after read end went stays =
    record { items = End ∷ []; whole = (inl refl, tt); rest = []; went = went refl; read = read; all = λ t. refl; end = λ t. end; told = λ t. refl }
end_read false old new before after read end went stays = lines_lost old new before after [] read (stays refl)

pub reads_twice : (a b d : Option (List ℕ)) (x y z : List ReaderMessage) → ReadsOn a b x y → ReadsOn b d y z → ReadsOn a d x z
reads_twice a b d x y z one other = record {
  items = one.items ++ other.items;
  whole = whole_both one.items other.items one.whole other.whole;
  went = other.went ∙ ap (λ l. l ++ other.items) one.went ∙ append_assoc x one.items other.items;
  read = subst (Consumes a d) (sym (flat_map-append text_of_one one.items other.items)) (Consumes-trans a b d (text_sent one.items) (text_sent other.items) one.read other.read);
}

-- the end is among all items, if it is among the last
any_behind : (front items : List ReaderMessage) → list_any is_end items ≡ true → list_any is_end (front ++ items) ≡ true
any_behind [] items is = is
any_behind (Path path ∷ front) items is = any_behind front items is
any_behind (Lines text ∷ front) items is = any_behind front items is
any_behind (End ∷ front) items is = refl

pub reads_then : (ended : Bool) (a b d : Option (List ℕ)) (x y z : List ReaderMessage) → ReadsOn a b x y → IsInputRead ended b d y z → IsInputRead ended a d x z
reads_then ended a b d x y z one other = record {
  items = one.items ++ other.items;
  whole = whole_both one.items other.items one.whole other.whole;
  rest = other.rest;
  went = other.went ∙ ap (λ l. l ++ other.items) one.went ∙ append_assoc x one.items other.items;
  read = subst (Consumes a d)
      (sym (append_assoc (text_sent one.items) (text_sent other.items) other.rest) ∙ ap (λ l. l ++ other.rest) (sym (flat_map-append text_of_one one.items other.items)))
      (Consumes-trans a b d (text_sent one.items) (text_sent other.items ++ other.rest) one.read other.read);
  all = other.all;
  end = other.end;
  told = λ t. any_behind one.items other.items (other.told t);
}

pub reads_stop : (old new : Option (List ℕ)) (before after : List ReaderMessage) → ReadsOn old new before after → IsInputRead false old new before after
reads_stop old new before after one = record {
  items = one.items;
  whole = one.whole;
  rest = [];
  went = one.went;
  read = subst (Consumes old new) (sym (append-nil (text_sent one.items))) one.read;
  all = λ t. refl;
  end = λ t. absurd (false≢true t);
  told = λ t. absurd (false≢true t);
}

-- Messages that a protocol allows

-- the messages of the rest of an input, behind those of its front, none of which was the end
messages_behind : (front messages : List ReaderMessage) (a b : Option (List ℕ)) → HaveWholeLines front → list_any is_end front ≡ false → Consumes a b (text_sent front) → AreMessagesOf b messages
    → AreMessagesOf a (front ++ messages)
messages_behind front messages a b whole no_end read rest = record { whole = whole_both front messages whole rest.whole; begun = begun a b read rest }
  where
    begun : (x y : Option (List ℕ)) → Consumes x y (text_sent front) → AreMessagesOf y messages → (text : List ℕ) → x ≡ Some text
        → (more : List ℕ) × (text ≡ text_sent (front ++ messages) ++ more) × (list_any is_end (front ++ messages) ≡ true → more ≡ [])
    begun None y read of text known = absurd cc
    begun (Some xs) None read of text known = absurd read
    begun (Some xs) (Some ys) read of text known =
        let (more, is, all) = of.begun ys refl in
        let same : text ≡ xs = cc in (
          more,
          same ∙ read ∙ ap (λ l. text_sent front ++ l) is ∙ sym (append_assoc (text_sent front) (text_sent messages) more)
              ∙ ap (λ l. l ++ more) (sym (flat_map-append text_of_one front messages)),
          λ t. all (ap (λ b. b || list_any is_end messages) (sym no_end) ∙ sym (list_any-append is_end front messages) ∙ t),
        )

-- those of the front were handed over
may_go_on : (allows : List ReaderMessage → ReaderMessage → Type 0) (before after front : List ReaderMessage) (a b : Option (List ℕ)) → MayHandOver allows before a → HaveWholeLines front → list_any is_end front ≡ false
    → Consumes a b (text_sent front) → after ≡ before ++ front → MayHandOver allows after b
may_go_on allows before after front a b may whole no_end read went messages next of =
    subst (λ l. allows l next) (sym (append_assoc before front messages) ∙ ap (λ l. l ++ messages) (sym went))
    (may (front ++ messages) next
    (subst (AreMessagesOf a) (sym (append_assoc front messages (next ∷ []))) (messages_behind front (messages ++ next ∷ []) a b whole no_end read of)))

pub may_after_lines : (allows : List ReaderMessage → ReaderMessage → Type 0) (before after : List ReaderMessage) (a b : Option (List ℕ)) (text : List ℕ) → MayHandOver allows before a → IsWholeLines text
    → Consumes a b text → after ≡ before ++ Lines text ∷ [] → MayHandOver allows after b
may_after_lines allows before after a b text may whole read went =
    may_go_on allows before after (Lines text ∷ []) a b may (whole, tt) refl (subst (Consumes a b) (sym (append-nil text)) read) went

pub may_after_nothing : (allows : List ReaderMessage → ReaderMessage → Type 0) (before after : List ReaderMessage) (a b : Option (List ℕ)) → MayHandOver allows before a → Keeps a b → after ≡ before
    → MayHandOver allows after b
may_after_nothing allows before after a b may kept same =
    may_go_on allows before after [] a b may tt refl (Consumes-kept a a b [] (Consumes-nil a) kept) (same ∙ sym (append-nil before))

may_now : (allows : List ReaderMessage → ReaderMessage → Type 0) (before : List ReaderMessage) (message : ReaderMessage) (a : Option (List ℕ)) → MayHandOver allows before a → AreMessagesOf a (message ∷ []) → allows before message
may_now allows before message a may of = subst (λ l. allows l message) (append-nil before) (may [] message of)

pub may_lines : (allows : List ReaderMessage → ReaderMessage → Type 0) (before : List ReaderMessage) (a b : Option (List ℕ)) (text : List ℕ) → MayHandOver allows before a → IsWholeLines text → Consumes a b text
    → allows before (Lines text)
may_lines allows before a b text may whole read =
    may_now allows before (Lines text) a may (messages_behind (Lines text ∷ []) [] a b (whole, tt) refl (subst (Consumes a b) (sym (append-nil text)) read)
    (record { whole = tt; begun = λ more known. (more, refl, λ t. absurd (false≢true t)) }))

pub may_end : (allows : List ReaderMessage → ReaderMessage → Type 0) (before : List ReaderMessage) (a b : Option (List ℕ)) → MayHandOver allows before a → Consumes a b [] → IsAtEnd b → allows before End
may_end allows before a b may read end = may_now allows before End a may (record { whole = (inl refl, tt); begun = begun a b read end })
  where
    begun : (x y : Option (List ℕ)) → Consumes x y [] → IsAtEnd y → (text : List ℕ) → x ≡ Some text → (more : List ℕ) × (text ≡ more) × (true ≡ true → more ≡ [])
    begun None y read end text known = absurd cc
    begun (Some xs) None read end text known = absurd read
    begun (Some xs) (Some ys) read end text known =
        let same : text ≡ xs = cc in
        (text, refl, λ t. same ∙ read ∙ end)

-- Writers

all_begun : (old new : Option (List ℕ)) (text : List ℕ) → Appends old new text → AppendsBeginning old new text
all_begun old new text written = record { written = text; rest = []; splits = sym (append-nil text); appends = written }

pub line_written : (before after : List (List ℕ)) (line : List ℕ) (old new : Option (List ℕ)) → after ≡ before ++ line ∷ [] → Appends old new (line ++ 10 ∷ []) → WritesOn before after old new
line_written before after line old new came written = record { lines = line ∷ []; came = came; written = subst (Appends old new) (sym (append-nil (line ++ 10 ∷ []))) written }

pub line_cut : (before after : List (List ℕ)) (line : List ℕ) (old new : Option (List ℕ)) → after ≡ before ++ line ∷ [] → AppendsBeginning old new (line ++ 10 ∷ []) → AreLinesWritten false before after old new
line_cut before after line old new came begun = record {
  lines = line ∷ [];
  came = came;
  begun = subst (AppendsBeginning old new) (sym (append-nil (line ++ 10 ∷ []))) begun;
  written = λ t. absurd (false≢true t);
}

pub nothing_written : (before after : List (List ℕ)) (old new : Option (List ℕ)) → after ≡ before → Keeps old new → WritesOn before after old new
nothing_written before after old new same kept = record { lines = []; came = same ∙ sym (append-nil before); written = Appends-kept old old new [] (Appends-nil old) kept }

pub all_written : (ended : Bool) (before after : List (List ℕ)) (old new : Option (List ℕ)) → after ≡ before → Keeps old new → AreLinesWritten ended before after old new
all_written ended before after old new same kept = record {
  lines = [];
  came = same ∙ sym (append-nil before);
  begun = all_begun old new [] (Appends-kept old old new [] (Appends-nil old) kept);
  written = λ t. Appends-kept old old new [] (Appends-nil old) kept;
}

pub text_both : (a b : List (List ℕ)) → lines_text (a ++ b) ≡ lines_text a ++ lines_text b
text_both a b = flat_map-append (λ (line : List ℕ). line ++ 10 ∷ []) a b

pub writes_twice : (x y z : List (List ℕ)) (a b d : Option (List ℕ)) → WritesOn x y a b → WritesOn y z b d → WritesOn x z a d
writes_twice x y z a b d one other = record {
  lines = one.lines ++ other.lines;
  came = other.came ∙ ap (λ l. l ++ other.lines) one.came ∙ append_assoc x one.lines other.lines;
  written = subst (Appends a d) (sym (text_both one.lines other.lines)) (Appends-trans a b d (lines_text one.lines) (lines_text other.lines) one.written other.written);
}

begun_behind : (a b d : Option (List ℕ)) (front text : List ℕ) → Appends a b front → AppendsBeginning b d text → AppendsBeginning a d (front ++ text)
begun_behind a b d front text one other = record {
  written = front ++ other.written;
  rest = other.rest;
  splits = ap (λ l. front ++ l) other.splits ∙ sym (append_assoc front other.written other.rest);
  appends = Appends-trans a b d front other.written one other.appends;
}

pub writes_then : (ended : Bool) (x y z : List (List ℕ)) (a b d : Option (List ℕ)) → WritesOn x y a b → AreLinesWritten ended y z b d → AreLinesWritten ended x z a d
writes_then ended x y z a b d one other = record {
  lines = one.lines ++ other.lines;
  came = other.came ∙ ap (λ l. l ++ other.lines) one.came ∙ append_assoc x one.lines other.lines;
  begun = subst (AppendsBeginning a d) (sym (text_both one.lines other.lines)) (begun_behind a b d (lines_text one.lines) (lines_text other.lines) one.written other.begun);
  written = λ t. subst (Appends a d) (sym (text_both one.lines other.lines)) (Appends-trans a b d (lines_text one.lines) (lines_text other.lines) one.written (other.written t));
}

pub writes_stop : (before after : List (List ℕ)) (old new : Option (List ℕ)) → WritesOn before after old new → AreLinesWritten false before after old new
writes_stop before after old new one = record { lines = one.lines; came = one.came; begun = all_begun old new (lines_text one.lines) one.written; written = λ t. one.written }

-- Nothing yet

pub reads_begin : (a : Option (List ℕ)) (x : List ReaderMessage) → ReadsOn a a x x
reads_begin a x = nothing_read a a x x (Keeps-refl a) refl

pub writes_begin : (x : List (List ℕ)) (a : Option (List ℕ)) → WritesOn x x a a
writes_begin x a = nothing_written x x a a refl (Keeps-refl a)

-- One line

pub line_begun : (old new : Option (List ℕ)) (line : List ℕ) → AppendsBeginning old new line → AppendsBeginning old new (line ++ 10 ∷ [])
line_begun old new line begun = record {
  written = begun.written;
  rest = begun.rest ++ 10 ∷ [];
  splits = ap (λ l. l ++ 10 ∷ []) begun.splits ∙ append_assoc begun.written begun.rest (10 ∷ []);
  appends = begun.appends;
}

pub line_ended : {E : Type 0} (old mid new : Option (List ℕ)) (line : List ℕ) (r : Result (Unit {0}) E) → Appends old mid line → Writes mid new r (10 ∷ [])
    → Writes old new r (line ++ 10 ∷ [])
line_ended old mid new line (Ok u) front feed = Appends-trans old mid new line (10 ∷ []) front feed
line_ended old mid new line (Err e) front feed = begun_behind old mid new line (10 ∷ []) front feed
