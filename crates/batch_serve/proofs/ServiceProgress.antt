-- How serving goes on, line after line.
use Rattle.std.proofs.Common.{◌≡◌, ℕ, ◌+◌, ◌-◌, ◌<◌, ◌≤◌, Bool, false, List, [], ◌∷◌, ◌++◌, Option, Some, None, Result, Ok, Err, MatchResult, IfSome, length, take, drop, refl, sym, ap, ◌∙◌, subst, append_assoc, append-nil, arith, eqb}
use Rattle.std.{proofs.lemmas.List.take_all, proofs.lemmas.List.take_rest, proofs.lemmas.List.length-append, proofs.lemmas.List.length-take, proofs.lemmas.List.Elements.All-nil, proofs.lemmas.List.Elements.All-append, proofs.lemmas.List.Splits.slice_split_at, proofs.lemmas.List.Splits.slice_split_none, proofs.Math.Seq.take-append_seam, proofs.Math.Seq.take-append-add, specs.Io.KnownBytes.Appends, specs.Io.KnownBytes.Consumes, specs.Io.KnownBytes.Keeps, specs.Io.KnownBytes.IsAtEnd, specs.Io.KnownBytes.ReadConsumes, proofs.KnownBytes.Appends-trans, proofs.KnownBytes.Appends-nil, proofs.KnownBytes.Consumes-trans}
use Rattle.batch_model.specs.Plant.{Setup, Plant}
use Rattle.batch_wire.{specs.EventLine.event_of_line, specs.Transcript.lines_of, specs.Transcript.whole_lines, specs.Transcript.Exchange, specs.Transcript.silence, specs.Transcript.followed_by, specs.Transcript.Answers, specs.Transcript.Transcript, specs.Written.AppendsBeginning, specs.WrittenTranscript.WritesTranscript, specs.WrittenTranscript.BeginsTranscript, proofs.WrittenTexts.then_beginning, specs.LineEnds.EndsLine, specs.LineEnds.HasNoFeed, proofs.LineEnds.line_apart}
use Rattle.batch_serve.{specs.Cut.BeginsLinesRead, specs.Serving.IsServed, specs.Serving.IsCutOff, specs.declared.line_buffer.TheConstants.KEPT, proofs.Exchanges.followed-assoc, proofs.Exchanges.followed-silence, proofs.Exchanges.transcript_leads, proofs.LineBeginnings.take_twice, proofs.LineBeginnings.event_of_line-take}

abbrev is_end : ℕ → Bool
is_end b = eqb b 10

-- Transcripts written

pub writes : (c : Setup) (old new : Plant) (lines : List (List ℕ)) (said : Exchange) (before after : Option (List ℕ))
    → Transcript c old lines said new → Appends before after said.text → WritesTranscript c old lines new before after
writes c old new lines said before after t p = record { said = said; transcript = t; leads = transcript_leads c old new lines said t; appends = p }

begins : (c : Setup) (old new : Plant) (lines : List (List ℕ)) (said : Exchange) (before after : Option (List ℕ))
    → Transcript c old lines said new → AppendsBeginning before after said.text → BeginsTranscript c old lines before after
begins c old new lines said before after t p = record { said = said; new = new; transcript = t; leads = transcript_leads c old new lines said t; begins = p }

appends_kept : (before a b : Option (List ℕ)) (text : List ℕ) → Appends before a text → Keeps a b → Appends before b text
appends_kept None a b text p k = tt
appends_kept (Some x) None b text p k = absurd p
appends_kept (Some x) (Some y) None text p k = absurd k
appends_kept (Some x) (Some y) (Some z) text p k = k ∙ p

pub writes_kept : (c : Setup) (first : Plant) (lines : List (List ℕ)) (new : Plant) (before a b : Option (List ℕ))
    → WritesTranscript c first lines new before a → Keeps a b → WritesTranscript c first lines new before b
writes_kept c first lines new before a b h k =
    record { said = h.said; transcript = h.transcript; leads = h.leads; appends = appends_kept before a b h.said.text h.appends k }

pub begun : (c : Setup) (first : Plant) (lines : List (List ℕ)) (new : Plant) (before a : Option (List ℕ))
    → WritesTranscript c first lines new before a → BeginsTranscript c first lines before a
begun c first lines new before a h =
    begins c first new lines h.said before a h.transcript (record { written = h.said.text; rest = []; splits = sym (append-nil h.said.text); appends = h.appends })

pub handed_on : {E : Type 0} (r : Result (Unit {0}) E) (c : Setup) (first : Plant) (lines : List (List ℕ)) (new : Plant) (before a : Option (List ℕ))
    → WritesTranscript c first lines new before a
    → MatchResult r (λ _. WritesTranscript c first lines new before a) (λ _. BeginsTranscript c first lines before a)
handed_on (Ok x) c first lines new before a h = h
handed_on (Err e) c first lines new before a h = begun c first lines new before a h

-- Lines

pub served_start : (c : Setup) (first : Plant) (before : Option (List ℕ)) → IsServed c first [] first [] before before
served_start c first before = record {
  whole = [];
  last = [];
  splits = λ more. refl;
  unended = All-nil (λ x. is_end x ≡ false);
  keeps = refl;
  said = silence;
  goes_on = λ lines others new t. t;
  appends = Appends-nil before;
}

served_kept : (c : Setup) (first : Plant) (read : List ℕ) (now : Plant) (kept : List ℕ) (before a b : Option (List ℕ))
    → IsServed c first read now kept before a → Keeps a b → IsServed c first read now kept before b
served_kept c first read now kept before a b h k = record {
  whole = h.whole;
  last = h.last;
  splits = h.splits;
  unended = h.unended;
  keeps = h.keeps;
  said = h.said;
  goes_on = h.goes_on;
  appends = appends_kept before a b h.said.text h.appends k;
}

served_run : (c : Setup) (first : Plant) (read : List ℕ) (now : Plant) (kept : List ℕ) (before after : Option (List ℕ)) (run : List ℕ) → HasNoFeed run
    → IsServed c first read now kept before after → IsServed c first (read ++ run) now (take KEPT (kept ++ run)) before after
served_run c first read now kept before after run e h = record {
  whole = h.whole;
  last = h.last ++ run;
  splits = λ more. rw (append_assoc read run more, append_assoc h.last run more) (h.splits (run ++ more));
  unended = All-append (λ x. is_end x ≡ false) h.last run h.unended e;
  keeps = rw h.keeps (take_twice KEPT h.last run);
  said = h.said;
  goes_on = h.goes_on;
  appends = h.appends;
}

line_ends : (c : Setup) (first : Plant) (read : List ℕ) (now : Plant) (kept : List ℕ) (before after : Option (List ℕ))
    (h : IsServed c first read now kept before after) (more : List ℕ) → lines_of (read ++ 10 ∷ more) ≡ h.whole ++ (h.last ∷ lines_of more)
line_ends c first read now kept before after h more = h.splits (10 ∷ more) ∙ ap (λ l. h.whole ++ l) (slice_split_at is_end h.last 10 more h.unended refl)

-- an answer to the kept beginning of the line is an answer to the line
whole_answered : (c : Setup) (first : Plant) (read : List ℕ) (now : Plant) (kept : List ℕ) (before after : Option (List ℕ)) (said : Exchange) (new : Plant)
    (h : IsServed c first read now kept before after) → Answers c now (event_of_line kept) said new → Answers c now (event_of_line h.last) said new
whole_answered c first read now kept before after said new h a = rw (← event_of_line-take h.last, ← h.keeps) a

-- the transcript goes on by one line
one_line : (c : Setup) (first : Plant) (read : List ℕ) (now : Plant) (kept : List ℕ) (before after : Option (List ℕ)) (said : Exchange) (new : Plant)
    (h : IsServed c first read now kept before after) → Answers c now (event_of_line kept) said new → Transcript c first (h.whole ++ h.last ∷ []) (followed_by h.said said) new
one_line c first read now kept before after said new h a =
    subst (λ (x : Exchange). Transcript c first (h.whole ++ h.last ∷ []) (followed_by h.said x) new) (followed-silence said)
    (h.goes_on (h.last ∷ []) (followed_by said silence) new (said, silence, new, whole_answered c first read now kept before after said new h a, (refl, refl), refl))

served_line : (c : Setup) (first : Plant) (read : List ℕ) (now : Plant) (kept : List ℕ) (before after later : Option (List ℕ)) (said : Exchange) (new : Plant)
    → IsServed c first read now kept before after → Answers c now (event_of_line kept) said new → Appends after later said.text
    → IsServed c first (read ++ 10 ∷ []) new [] before later
served_line c first read now kept before after later said new h a p = record {
  whole = h.whole ++ h.last ∷ [];
  last = [];
  splits = λ more. rw (append_assoc read (10 ∷ []) more, append_assoc h.whole (h.last ∷ []) (lines_of more)) (line_ends c first read now kept before after h more);
  unended = All-nil (λ x. is_end x ≡ false);
  keeps = refl;
  said = followed_by h.said said;
  goes_on = λ lines others last t.
      let answered : Answers c now (event_of_line h.last) said new = whole_answered c first read now kept before after said new h a in
      rw (append_assoc h.whole (h.last ∷ []) lines)
      (subst (λ (x : Exchange). Transcript c first (h.whole ++ h.last ∷ lines) x last) (sym (followed-assoc h.said said others))
      (h.goes_on (h.last ∷ lines) (followed_by said others) last (said, others, new, answered, t, refl)));
  appends = Appends-trans before after later h.said.text said.text h.appends p;
}

-- a fault came while a line was answered
begun_with_line : (c : Setup) (first : Plant) (read : List ℕ) (now : Plant) (kept : List ℕ) (before after later : Option (List ℕ)) (said : Exchange) (new : Plant)
    (h : IsServed c first read now kept before after) → Answers c now (event_of_line kept) said new → AppendsBeginning after later said.text
    → BeginsTranscript c first (h.whole ++ h.last ∷ []) before later
begun_with_line c first read now kept before after later said new h a p =
    begins c first new (h.whole ++ h.last ∷ []) (followed_by h.said said) before later (one_line c first read now kept before after said new h a)
    (subst (λ t. AppendsBeginning before later (h.said.text ++ t)) (append-nil said.text) (then_beginning before after later h.said.text said.text [] h.appends p))

cut_line : (c : Setup) (first : Plant) (read : List ℕ) (now : Plant) (kept : List ℕ) (before after later : Option (List ℕ)) (said : Exchange) (new : Plant)
    → IsServed c first read now kept before after → Answers c now (event_of_line kept) said new → AppendsBeginning after later said.text
    → (more : List ℕ) → (n : ℕ) × BeginsTranscript c first (take n (lines_of (read ++ 10 ∷ more))) before later
cut_line c first read now kept before after later said new h a p more =
    let lines : take (length h.whole + 1) (lines_of (read ++ 10 ∷ more)) ≡ h.whole ++ h.last ∷ [] =
    rw (line_ends c first read now kept before after h more) (take-append-add h.whole (h.last ∷ lines_of more) 1) in
    (length h.whole + 1, rw lines (begun_with_line c first read now kept before after later said new h a p))

-- Runs of bytes of a piece

-- the parts of a piece, when a line ends in the rest of it
pub taken_on : (piece taken rest : List ℕ) (at : ℕ) → piece ≡ taken ++ rest → EndsLine at rest
    → piece ≡ ((taken ++ take at rest) ++ 10 ∷ []) ++ take (length rest - (at + 1)) (drop (at + 1) rest)
taken_on piece taken rest at e h =
    e ∙ ap (λ l. taken ++ l) (line_apart rest at h)
    ∙ ap (λ l. taken ++ (take at rest ++ 10 ∷ l)) (sym (take_rest rest (at + 1)))
    ∙ simp append_assoc

pub line_in_piece : (c : Setup) (first : Plant) (read taken rest : List ℕ) (at : ℕ) (now : Plant) (kept : List ℕ) (before after later : Option (List ℕ)) (said : Exchange) (new : Plant)
    → EndsLine at rest → IsServed c first (read ++ taken) now kept before after
    → Answers c now (event_of_line (take KEPT (kept ++ take at rest))) said new → Appends after later said.text
    → IsServed c first (read ++ ((taken ++ take at rest) ++ 10 ∷ [])) new [] before later
line_in_piece c first read taken rest at now kept before after later said new h s a p =
    subst (λ l. IsServed c first l new [] before later) (simp append_assoc)
    (served_line c first ((read ++ taken) ++ take at rest) now (take KEPT (kept ++ take at rest)) before after later said new
    (served_run c first (read ++ taken) now kept before after (take at rest) h.before s) a p)

pub cut_in_piece : (c : Setup) (first : Plant) (read piece taken rest : List ℕ) (at : ℕ) (now : Plant) (kept : List ℕ) (before after later : Option (List ℕ)) (said : Exchange) (new : Plant)
    → piece ≡ taken ++ rest → EndsLine at rest → IsServed c first (read ++ taken) now kept before after
    → Answers c now (event_of_line (take KEPT (kept ++ take at rest))) said new → AppendsBeginning after later said.text → IsCutOff c first (read ++ piece) before later
cut_in_piece c first read piece taken rest at now kept before after later said new e h s a p more =
    subst (λ l. (n : ℕ) × BeginsTranscript c first (take n (lines_of l)) before later) (sym regrouped)
    (cut_line c first ((read ++ taken) ++ take at rest) now (take KEPT (kept ++ take at rest)) before after later said new
    (served_run c first (read ++ taken) now kept before after (take at rest) h.before s) a p (left ++ more))
  where
    left : List ℕ
    left = take (length rest - (at + 1)) (drop (at + 1) rest)

    regrouped : (read ++ piece) ++ more ≡ ((read ++ taken) ++ take at rest) ++ 10 ∷ (left ++ more)
    regrouped = ap (λ l. (read ++ l) ++ more) (taken_on piece taken rest at e h) ∙ simp append_assoc

-- All that was read

all_lines : (c : Setup) (first : Plant) (read : List ℕ) (now : Plant) (kept : List ℕ) (before after : Option (List ℕ))
    (h : IsServed c first read now kept before after) → lines_of read ≡ h.whole ++ h.last ∷ []
all_lines c first read now kept before after h =
    let split : lines_of read ≡ h.whole ++ lines_of h.last =
    subst (λ l. lines_of l ≡ h.whole ++ lines_of h.last) (append-nil read) (h.splits [] ∙ ap (λ l. h.whole ++ lines_of l) (append-nil h.last)) in
    split ∙ ap (λ l. h.whole ++ l) (slice_split_none is_end h.last h.unended)

front_of : (xs : List (List ℕ)) (x : List ℕ) → take (length (xs ++ x ∷ []) - 1) (xs ++ x ∷ []) ≡ xs
front_of xs x =
    let n : length (xs ++ x ∷ []) - 1 ≡ length xs = simp length-append (omega arith) in
    ap (λ k. take k (xs ++ x ∷ [])) n ∙ take-append_seam xs (x ∷ [])

so_far : (c : Setup) (first : Plant) (read : List ℕ) (now : Plant) (kept : List ℕ) (before after : Option (List ℕ))
    (h : IsServed c first read now kept before after) → Transcript c first h.whole h.said now
so_far c first read now kept before after h =
    subst (λ (x : Exchange). Transcript c first h.whole x now) (followed-silence h.said)
    (subst (λ (l : List (List ℕ)). Transcript c first l (followed_by h.said silence) now) (append-nil h.whole) (h.goes_on [] silence now (refl, refl)))

pub whole_so_far : (c : Setup) (first : Plant) (read : List ℕ) (now : Plant) (kept : List ℕ) (before after : Option (List ℕ))
    → IsServed c first read now kept before after → WritesTranscript c first (whole_lines read) now before after
whole_so_far c first read now kept before after h =
    let same : whole_lines read ≡ h.whole = ap (λ (l : List (List ℕ)). take (length l - 1) l) (all_lines c first read now kept before after h) ∙ front_of h.whole h.last in
    rw same (writes c first now h.whole h.said before after (so_far c first read now kept before after h) h.appends)

-- the last line is answered too
pub served_last : (c : Setup) (first : Plant) (read : List ℕ) (now : Plant) (kept : List ℕ) (before after later : Option (List ℕ)) (said : Exchange) (new : Plant)
    → IsServed c first read now kept before after → Answers c now (event_of_line kept) said new → Appends after later said.text
    → WritesTranscript c first (lines_of read) new before later
served_last c first read now kept before after later said new h a p =
    rw (all_lines c first read now kept before after h)
    (writes c first new (h.whole ++ h.last ∷ []) (followed_by h.said said) before later (one_line c first read now kept before after said new h a)
    (Appends-trans before after later h.said.text said.text h.appends p))

pub cut_last : (c : Setup) (first : Plant) (read : List ℕ) (now : Plant) (kept : List ℕ) (before after later : Option (List ℕ)) (said : Exchange) (new : Plant)
    → IsServed c first read now kept before after → Answers c now (event_of_line kept) said new → AppendsBeginning after later said.text
    → BeginsTranscript c first (lines_of read) before later
cut_last c first read now kept before after later said new h a p =
    rw (all_lines c first read now kept before after h) (begun_with_line c first read now kept before after later said new h a p)

-- handing on failed when the whole lines were answered
cut_between : (c : Setup) (first : Plant) (read : List ℕ) (now : Plant) (kept : List ℕ) (before after : Option (List ℕ))
    → IsServed c first read now kept before after → IsCutOff c first read before after
cut_between c first read now kept before after h more =
    let front : take (length h.whole) (lines_of (read ++ more)) ≡ h.whole =
    ap (take (length h.whole)) (h.splits more) ∙ take-append_seam h.whole (lines_of (h.last ++ more)) in
    (length h.whole, rw front (begun c first h.whole now before after (writes c first now h.whole h.said before after (so_far c first read now kept before after h) h.appends)))

-- a piece was served to its end, and then handed on
pub piece_served : {E : Type 0} (r : Result (Unit {0}) E) (c : Setup) (first : Plant) (read piece taken rest : List ℕ) (now : Plant) (kept : List ℕ) (before a b : Option (List ℕ))
    → piece ≡ taken ++ rest → HasNoFeed rest → IsServed c first (read ++ taken) now kept before a → Keeps a b
    → MatchResult r (λ _. IsServed c first (read ++ piece) now (take KEPT (kept ++ rest)) before b) (λ _. IsCutOff c first (read ++ piece) before b)
piece_served {E = E} r c first read piece taken rest now kept before a b e none h k = go r
  where
    line : List ℕ
    line = take KEPT (kept ++ rest)

    whole : IsServed c first (read ++ piece) now line before b
    whole = served_kept c first (read ++ piece) now line before a b
        (subst (λ l. IsServed c first l now line before a) (append_assoc read taken rest ∙ ap (λ l. read ++ l) (sym e))
        (served_run c first (read ++ taken) now kept before a rest none h)) k

    go : (q : Result (Unit {0}) E) → MatchResult q (λ _. IsServed c first (read ++ piece) now line before b) (λ _. IsCutOff c first (read ++ piece) before b)
    go (Ok x) = whole
    go (Err e) = cut_between c first (read ++ piece) now line before b whole

-- The bytes of the reader

at_end : (unread left : Option (List ℕ)) (read : List ℕ) (P : List ℕ → Type 0) → Consumes unread left read → IsAtEnd left → P read → IfSome unread P
at_end None left read P c e p = tt
at_end (Some xs) None read P c e p = absurd c
at_end (Some xs) (Some ys) read P c e p = subst P (sym (c ∙ ap (λ l. read ++ l) e ∙ append-nil read)) p

pub all_of_input : (c : Setup) (first new : Plant) (unread left : Option (List ℕ)) (read : List ℕ) (before after : Option (List ℕ))
    → Consumes unread left read → IsAtEnd left → WritesTranscript c first (lines_of read) new before after
    → IfSome unread (λ input. WritesTranscript c first (lines_of input) new before after)
all_of_input c first new unread left read before after consumed e h =
    at_end unread left read (λ input. WritesTranscript c first (lines_of input) new before after) consumed e h

pub cut_of_input : (c : Setup) (first : Plant) (unread left : Option (List ℕ)) (read : List ℕ) (before after : Option (List ℕ))
    → Consumes unread left read → IsCutOff c first read before after
    → IfSome unread (λ input. (n : ℕ) × BeginsTranscript c first (take n (lines_of input)) before after)
cut_of_input c first None left read before after consumed h = tt
cut_of_input c first (Some xs) None read before after consumed h = absurd consumed
cut_of_input c first (Some xs) (Some ys) read before after consumed h = rw consumed (h ys)

pub cut_read : (c : Setup) (first : Plant) (unread left : Option (List ℕ)) (read : List ℕ) (before after : Option (List ℕ))
    → Consumes unread left read → IsCutOff c first read before after → BeginsLinesRead c first unread left before after
cut_read c first unread left read before after consumed h =
    let found = h [] in
    record { read = read; consumes = consumed; count = found.0; begins = subst (λ l. BeginsTranscript c first (take found.0 (lines_of l)) before after) (append-nil read) found.1 }

pub cut_read_all : (c : Setup) (first : Plant) (unread left : Option (List ℕ)) (read : List ℕ) (before after : Option (List ℕ))
    → Consumes unread left read → BeginsTranscript c first (lines_of read) before after → BeginsLinesRead c first unread left before after
cut_read_all c first unread left read before after consumed h =
    record { read = read; consumes = consumed; count = length (lines_of read); begins = rw (take_all (length (lines_of read)) (lines_of read) (omega arith)) h }

cut_of_all : (c : Setup) (first : Plant) (read : List ℕ) (before after : Option (List ℕ)) → BeginsTranscript c first (lines_of read) before after
    → (n : ℕ) × BeginsTranscript c first (take n (lines_of read)) before after
cut_of_all c first read before after h = (length (lines_of read), rw (take_all (length (lines_of read)) (lines_of read) (omega arith)) h)

pub cut_at_end : (c : Setup) (first : Plant) (unread left : Option (List ℕ)) (read : List ℕ) (before after : Option (List ℕ))
    → Consumes unread left read → IsAtEnd left → BeginsTranscript c first (lines_of read) before after
    → IfSome unread (λ input. (n : ℕ) × BeginsTranscript c first (take n (lines_of input)) before after)
cut_at_end c first unread left read before after consumed e h =
    at_end unread left read (λ input. (n : ℕ) × BeginsTranscript c first (take n (lines_of input)) before after) consumed e (cut_of_all c first read before after h)

-- a call gave nothing, so the bytes have ended
pub gave_nothing : {E : Type 0} (r : Result ℕ E) (n : ℕ) (old new : Option (List ℕ)) (buf : List ℕ) → r ≡ Ok n → n ≡ 0 → 0 < length buf
    → ReadConsumes old new r buf → Consumes old new (take n buf) × IsAtEnd new
gave_nothing {E = E} r n old new buf is e room h =
    let bytes : Consumes old new (take n buf) × (n ≡ 0 → 0 < length buf → IsAtEnd new) = subst (λ (q : Result ℕ E). ReadConsumes old new q buf) is h in
    (bytes.0, bytes.1 e room)

pub nothing_more : (a b d : Option (List ℕ)) (read piece : List ℕ) (n : ℕ) → Consumes a b read → Consumes b d (take n piece) → n ≡ 0 → Consumes a d read
nothing_more a b d read piece n p q e = subst (Consumes a d) (ap (λ k. read ++ take k piece) e ∙ append-nil read) (Consumes-trans a b d read (take n piece) p q)

pub enough : (unread left : Option (List ℕ)) (read : List ℕ) (n : ℕ) → Consumes unread left read → n ≤ length read → IfSome unread (λ input. n ≤ length input)
enough None left read n c h = tt
enough (Some xs) None read n c h = absurd c
enough (Some xs) (Some ys) read n c h = omega (arith, ap length c, length-append read ys)

pub one_more : (read piece : List ℕ) (n i : ℕ) → n ≤ length piece → (n ≡ 0 → ⊥) → i ≤ length read → i + 1 ≤ length (read ++ take n piece)
one_more read piece n i h k c = simp (length-append, length-take) (omega arith)
