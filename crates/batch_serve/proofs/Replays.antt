-- Transcripts with memory for each event.
use Rattle.std.proofs.Common.{◌≡◌, ◌⊎◌, ℕ, Bool, true, false, not, eqb, nat_eq, List, [], ◌∷◌, ◌++◌, drop, map, flat_map, codes, Option, Some, None, Result, Ok, Err, refl, sym, ◌∙◌, ap, subst, inl, inr, append_assoc}
use Rattle.std.{proofs.lemmas.Bool.and_parts, proofs.lemmas.Bool.Decides.Decides-eqb, proofs.lemmas.Slice.Eq.starts_is, specs.List.list_all, specs.List.starts_with}
use Rattle.batch_model.specs.{Events.Event, Events.Reply, Events.refused, Events.no_memory, Moves.Move, Moves.after_move, Moves.next, Plant.Setup, Plant.Plant, Runs.Out, Runs.reply, Runs.move, Runs.Leads}
use Rattle.batch_record_laws.{specs.Replays.Takes, proofs.Replays.takes_once}
use Rattle.batch_wire.specs.{EventLine.event_of_line, RecordText.out_text, Transcript.Exchange, Transcript.handled, Transcript.followed_by, Transcript.Answers, Transcript.Transcript, Transcript.Handles, Transcript.Settles, declared.fault.WireFault.WireFault}
use Rattle.batch_serve.specs.Replays.{AnswersWell, WellServed, ServingAgrees, ContainsBytes, ShowsNoWant, IsWholeLines, NoWantIsWell, BeginsText, ToldIsRecovered, WantIsNotTold}

pub answers_once : (c : Setup) (s : Plant) (says : Result (Option Event) WireFault) (said told : Exchange) (one other : Plant)
    → AnswersWell c s says said one → AnswersWell c s says told other → (said ≡ told) × (one ≡ other)
answers_once c s (Ok None) said told one other a b = (a.0 ∙ sym b.0, a.1 ∙ sym b.1)
answers_once c s (Err fault) said told one other a b = (a.0 ∙ sym b.0, a.1 ∙ sym b.1)
answers_once c s (Ok (Some event)) said told one other (outs, takes, is) (outs_b, takes_b, is_b) =
    let same = takes_once c s event outs outs_b one other takes takes_b in
    (is ∙ ap (handled event) same.0 ∙ sym is_b, same.1)

pub serving_agrees : ServingAgrees
serving_agrees c old one other [] said told a b = (a.0 ∙ sym b.0, a.1 ∙ sym b.1)
serving_agrees c old one other (line ∷ lines) said told (first, others, mid, answers, rest, is) (first_b, others_b, mid_b, answers_b, rest_b, is_b) =
    let now = answers_once c old (event_of_line line) first first_b mid mid_b answers answers_b in
    let then_on = serving_agrees c mid one other lines others others_b rest (subst (λ x. WellServed c x lines others_b other) (sym now.1) rest_b) in
    (is ∙ ap (λ x. followed_by x others) now.0 ∙ ap (λ x. followed_by first_b x) then_on.0 ∙ sym is_b, then_on.1)

-- Want of memory shows in the text

pub in_front : (needle a b : List ℕ) → ContainsBytes needle a → ContainsBytes needle (a ++ b)
in_front needle a b has = record {
  front = has.front;
  rest = has.rest ++ b;
  splits = ap (λ l. l ++ b) has.splits ∙ append_assoc has.front (needle ++ has.rest) b ∙ ap (λ l. has.front ++ l) (append_assoc needle has.rest b);
}

behind : (needle a b : List ℕ) → ContainsBytes needle b → ContainsBytes needle (a ++ b)
behind needle a b has = record { front = a ++ has.front; rest = has.rest; splits = ap (λ l. a ++ l) has.splits ∙ sym (append_assoc a has.front (needle ++ has.rest)) }

pub first_shows : (a b : List ℕ) → ShowsNoWant (a ++ b) → ShowsNoWant a
first_shows a b shown = record { no_event = λ has. shown.no_event (in_front _ a b has); no_line = λ has. shown.no_line (in_front _ a b has) }

pub then_shows : (a b : List ℕ) → ShowsNoWant (a ++ b) → ShowsNoWant b
then_shows a b shown = record { no_event = λ has. shown.no_event (behind _ a b has); no_line = λ has. shown.no_line (behind _ a b has) }

made : (c : Setup) (old : Plant) (moves : List Move) (new : Plant) → Settles c old moves new → Leads c old [] (map move moves) new × (next c new ≡ None)
made c old [] new s = (sym s.1, subst (λ (x : Plant). next c x ≡ None) (sym s.1) s.0)
made c old (m ∷ moves) new s = let on = made c (after_move old m) moves new s.1 in ((s.0, on.0), on.1)

starts_so : (text front rest : List ℕ) → text ≡ front ++ rest → ContainsBytes front text
starts_so text front rest is = record { front = []; rest = rest; splits = is }

has_memory : (event : Event) (answer : Reply) (moves : List Move) (outs : List Out) → outs ≡ reply answer ∷ map move moves
    → ShowsNoWant (flat_map out_text outs) → answer ≡ refused no_memory → ⊥
has_memory event answer moves outs tells shown is =
    shown.no_event (starts_so _ (codes "refused E11\n") (flat_map out_text (map move moves))
    (ap (λ (l : List Out). flat_map out_text l) tells ∙ ap (λ (a : Reply). out_text (reply a) ++ flat_map out_text (map move moves)) is))

pub takes_so : (c : Setup) (old : Plant) (event : Event) (outs : List Out) (new : Plant) → (h : Handles c old event outs new) → (h.answer ≡ refused no_memory → ⊥) → Takes c old event outs new
takes_so c old event outs new h has = record {
  answer = h.answer;
  mid = h.mid;
  moves = h.moves;
  reacts = h.reacts;
  has_memory = has;
  made = (made c h.mid h.moves new h.settles).0;
  settled = (made c h.mid h.moves new h.settles).1;
  tells = h.tells;
}

pub takes : (c : Setup) (old : Plant) (event : Event) (outs : List Out) (new : Plant) → Handles c old event outs new → ShowsNoWant (flat_map out_text outs) → Takes c old event outs new
takes c old event outs new h shown = takes_so c old event outs new h (has_memory event h.answer h.moves outs h.tells shown)

none_of_both : (a b : List ℕ) → a ++ b ≡ [] → b ≡ []
none_of_both [] b is = is
none_of_both (x ∷ a) b is = absurd (cc is)

pub none_first : (a b : List ℕ) → a ++ b ≡ [] → a ≡ []
none_first [] b is = refl
none_first (x ∷ a) b is = absurd (cc is)

answers_well : (c : Setup) (old : Plant) (says : Result (Option Event) WireFault) (said : Exchange) (new : Plant) → Answers c old says said new → ShowsNoWant said.text → AnswersWell c old says said new
answers_well c old (Ok None) said new a shown = a
answers_well c old (Err fault) said new a shown = a
answers_well c old (Ok (Some event)) said new (inl (is, same)) shown = absurd (shown.no_line (starts_so said.text (codes "refused W6\n") [] (ap (λ (x : Exchange). x.text) is)))
answers_well c old (Ok (Some event)) said new (inr (outs, h, is)) shown = (outs, takes c old event outs new h (subst (λ (x : Exchange). ShowsNoWant x.text) is shown), is)

pub no_want_is_well : NoWantIsWell
no_want_is_well c old new [] said t shown = t
no_want_is_well c old new (line ∷ lines) said (first, others, mid, answers, rest, is) shown =
    let both : ShowsNoWant (first.text ++ others.text) = subst (λ (x : Exchange). ShowsNoWant x.text) is shown in
    (first, others, mid, answers_well c old (event_of_line line) first mid answers (first_shows first.text others.text both), no_want_is_well c mid new lines others rest (then_shows first.text others.text both), is)

-- Lives

-- a run of the same lines, and then more, writes the same text first, and passes through the same plant
record Parts (c : Setup) (one last : Plant) (more : List (List ℕ)) (said whole : Exchange) : Type 0 where
  pub others : Exchange
  pub goes_on : WellServed c one more others last
  pub tells : whole.text ≡ said.text ++ others.text

parts : (c : Setup) (old one last : Plant) (lines more : List (List ℕ)) (said whole : Exchange)
    → WellServed c old lines said one → WellServed c old (lines ++ more) whole last → Parts c one last more said whole
parts c old one last [] more said whole a b = record {
  others = whole;
  goes_on = subst (λ x. WellServed c x more whole last) (sym a.1) b;
  tells = ap (λ (x : Exchange). x.text ++ whole.text) (sym a.0);
}
parts c old one last (line ∷ lines) more said whole (first, others, mid, answers, rest, is) (first_b, others_b, mid_b, answers_b, rest_b, is_b) =
    let now = answers_once c old (event_of_line line) first first_b mid mid_b answers answers_b in
    let on = parts c mid one last lines more others others_b rest (subst (λ x. WellServed c x (lines ++ more) others_b last) (sym now.1) rest_b) in
    record {
      others = on.others;
      goes_on = on.goes_on;
      tells = ap (λ (x : Exchange). x.text) is_b ∙ ap (λ (x : Exchange). x.text ++ others_b.text) (sym now.0) ∙ ap (λ l. first.text ++ l) on.tells
          ∙ sym (append_assoc first.text others.text on.others.text) ∙ ap (λ (x : Exchange). x.text ++ on.others.text) (sym is);
    }

pub told_is_recovered : ToldIsRecovered
told_is_recovered c old mid new last before lines more said then_said whole told rest t shows t2 shows2 is t3 shows3 =
    let one = parts c old mid last before (lines ++ more) said whole (no_want_is_well c old mid before said t shows) (no_want_is_well c old last (before ++ (lines ++ more)) whole t3 shows3) in
    let two = parts c mid new last lines more then_said one.others (no_want_is_well c mid new lines then_said t2 shows2) one.goes_on in
    record {
      rest = rest ++ two.others.text;
      splits = one.tells ∙ ap (λ l. said.text ++ l) (two.tells ∙ ap (λ l. l ++ two.others.text) is ∙ append_assoc told rest two.others.text)
          ∙ sym (append_assoc said.text told (rest ++ two.others.text));
    }

-- Want of memory after the written text

abbrev pub is_other : ℕ → Bool
is_other b = not (eqb b 10)

not_feed : (b : ℕ) → is_other b ≡ true → eqb b 10 ≡ true → ⊥
not_feed b other feed = let clash : false ≡ true = ap not (sym feed) ∙ other in absurd (cc clash)

-- whole lines that begin as a line does have all of it
pub whole_line : (line told rest more : List ℕ) → list_all is_other line ≡ true → (front : List ℕ) → told ≡ front ++ 10 ∷ [] → told ++ rest ≡ line ++ 10 ∷ more
    → (behind : List ℕ) × (told ≡ line ++ 10 ∷ behind)
whole_line [] [] rest more plain [] ends is = absurd (cc ends)
whole_line [] [] rest more plain (y ∷ front) ends is = absurd (cc ends)
whole_line [] (x ∷ told) rest more plain front ends is = let head : x ≡ 10 = cc is in (told, ap (λ y. y ∷ told) head)
whole_line (b ∷ line) [] rest more plain [] ends is = absurd (cc ends)
whole_line (b ∷ line) [] rest more plain (y ∷ front) ends is = absurd (cc ends)
whole_line (b ∷ line) (x ∷ told) rest more plain [] ends is =
    let head : x ≡ b = cc is in
    let feed : x ≡ 10 = cc ends in
    absurd (not_feed b (and_parts (is_other b) (list_all is_other line) plain).0 (ap (λ y. eqb y 10) (sym head ∙ feed)))
whole_line (b ∷ line) (x ∷ told) rest more plain (y ∷ front) ends is =
    let head : x ≡ b = cc is in
    let tail : told ++ rest ≡ line ++ 10 ∷ more = cc is in
    let last : told ≡ front ++ 10 ∷ [] = cc ends in
    let below = whole_line line told rest more (and_parts (is_other b) (list_all is_other line) plain).1 front last tail in
    (below.0, ap (λ z. z ∷ told) head ∙ ap (λ l. b ∷ l) below.1)

-- the text begins by a refusal for want of memory
abbrev Wants : List ℕ → Type 0
Wants text = (more : List ℕ) × ((text ≡ codes "refused E11\n" ++ more) ⊎ (text ≡ codes "refused W6\n" ++ more))

wants_nothing : (text others told rest : List ℕ) → Wants text → text ++ others ≡ told ++ rest → IsWholeLines told → ShowsNoWant told → told ≡ []
wants_nothing text others told rest wants is (inl none) shows = none
wants_nothing text others told rest (more, inl event) is (inr (front, ends)) shows =
    let found = whole_line (codes "refused E11") told rest (more ++ others) refl front ends (sym is ∙ ap (λ l. l ++ others) event) in
    absurd (shows.no_event (starts_so told (codes "refused E11\n") found.0 found.1))
wants_nothing text others told rest (more, inr line) is (inr (front, ends)) shows =
    let found = whole_line (codes "refused W6") told rest (more ++ others) refl front ends (sym is ∙ ap (λ l. l ++ others) line) in
    absurd (shows.no_line (starts_so told (codes "refused W6\n") found.0 found.1))

either_text : (text : List ℕ) → Wants text ⊎ ((more : List ℕ) → text ≡ codes "refused E11\n" ++ more → ⊥)
either_text text = go (starts_with nat_eq text (codes "refused E11\n")) refl
  where
    starts : (r : Bool) → r ≡ starts_with nat_eq text (codes "refused E11\n")
        → (r ≡ true → text ≡ codes "refused E11\n" ++ drop 12 text) × ((more : List ℕ) → text ≡ codes "refused E11\n" ++ more → r ≡ true)
    starts r is = starts_is Decides-eqb text (codes "refused E11\n") r is

    go : (r : Bool) → r ≡ starts_with nat_eq text (codes "refused E11\n") → Wants text ⊎ ((more : List ℕ) → text ≡ codes "refused E11\n" ++ more → ⊥)
    go true is = inl (drop 12 text, inl ((starts true is).0 refl))
    go false is = inr (λ more so. let clash : false ≡ true = (starts false is).1 more so in absurd (cc clash))

answers_either : (c : Setup) (old : Plant) (says : Result (Option Event) WireFault) (said : Exchange) (new : Plant) → Answers c old says said new → AnswersWell c old says said new ⊎ Wants said.text
answers_either c old (Ok None) said new a = inl a
answers_either c old (Err fault) said new a = inl a
answers_either c old (Ok (Some event)) said new (inl (is, same)) = inr ([], inr (ap (λ (x : Exchange). x.text) is))
answers_either c old (Ok (Some event)) said new (inr (outs, h, is)) = elim (either_text (flat_map out_text outs)) [
  | inl wants ↦ inr (subst Wants (sym (ap (λ (x : Exchange). x.text) is)) wants)
  | inr not ↦ inl (
    outs,
    takes_so c old event outs new h (λ wants. not (flat_map out_text (map move h.moves))
        (ap (λ (l : List Out). flat_map out_text l) h.tells ∙ ap (λ (a : Reply). out_text (reply a) ++ flat_map out_text (map move h.moves)) wants)),
    is,
  )
]

cut_either : (a b told rest : List ℕ) → a ++ b ≡ told ++ rest → ((r : List ℕ) × (a ≡ told ++ r)) ⊎ ((t : List ℕ) × (told ≡ a ++ t) × (b ≡ t ++ rest))
cut_either a b [] rest is = inl (a, refl)
cut_either [] b (x ∷ told) rest is = inr (x ∷ told, refl, is)
cut_either (y ∷ a) b (x ∷ told) rest is =
    let head : y ≡ x = cc is in
    let tail : a ++ b ≡ told ++ rest = cc is in
    elim (cut_either a b told rest tail) [
      | inl found ↦ inl (found.0, ap (λ z. z ∷ a) head ∙ ap (λ l. x ∷ l) found.1)
      | inr found ↦ inr (found.0, ap (λ z. z ∷ told) (sym head) ∙ ap (λ l. y ∷ l) found.1, found.2)
    ]

whole_behind : (a t front : List ℕ) → a ++ t ≡ front ++ 10 ∷ [] → IsWholeLines t
whole_behind [] t front is = inr (front, is)
whole_behind (x ∷ a) t [] is = let none : a ++ t ≡ [] = cc is in inl (none_of_both a t none)
whole_behind (x ∷ a) t (y ∷ front) is = let tail : a ++ t ≡ front ++ 10 ∷ [] = cc is in whole_behind a t front tail

pub whole_then : (told a t : List ℕ) → told ≡ a ++ t → IsWholeLines told → IsWholeLines t
whole_then told a t is (inl none) = inl (none_of_both a t (sym is ∙ none))
whole_then told a t is (inr (front, ends)) = whole_behind a t front (sym is ∙ ends)

told_again : (c : Setup) (old new last : Plant) (lines more : List (List ℕ)) (said whole : Exchange) (told rest : List ℕ) → Transcript c old lines said new → said.text ≡ told ++ rest
    → IsWholeLines told → ShowsNoWant told → WellServed c old (lines ++ more) whole last → BeginsText told whole.text
told_again c old new last [] more said whole told rest t is ends shows w =
    let none : told ≡ [] = none_first told rest (sym is ∙ ap (λ (x : Exchange). x.text) t.0) in
    record { rest = whole.text; splits = ap (λ l. l ++ whole.text) (sym none) }
told_again c old new last (line ∷ lines) more said whole told rest (first, others, mid, answers, tr, same) is ends shows (first_b, others_b, mid_b, answers_b, tr_b, same_b) =
    let text : first.text ++ others.text ≡ told ++ rest = sym (ap (λ (x : Exchange). x.text) same) ∙ is in
    elim (answers_either c old (event_of_line line) first mid answers) [
      | inl well ↦
          let once = answers_once c old (event_of_line line) first first_b mid mid_b well answers_b in
          let all : whole.text ≡ first.text ++ others_b.text = ap (λ (x : Exchange). x.text) same_b ∙ ap (λ (x : Exchange). x.text ++ others_b.text) (sym once.0) in
          elim (cut_either first.text others.text told rest text) [
            | inl found ↦ record { rest = found.0 ++ others_b.text; splits = all ∙ ap (λ l. l ++ others_b.text) found.1 ∙ append_assoc told found.0 others_b.text }
            | inr found ↦
                let shows_then : ShowsNoWant found.0 = then_shows first.text found.0 (subst ShowsNoWant found.1 shows) in
                let below = told_again c mid new last lines more others others_b found.0 rest tr found.2 (whole_then told first.text found.0 found.1 ends) shows_then
                (subst (λ x. WellServed c x (lines ++ more) others_b last) (sym once.1) tr_b) in
                record { rest = below.rest; splits = all ∙ ap (λ l. first.text ++ l) below.splits ∙ sym (append_assoc first.text found.0 below.rest) ∙ ap (λ l. l ++ below.rest) (sym found.1) }
          ]
      | inr wants ↦
          let none = wants_nothing first.text others.text told rest wants text ends shows in
          record { rest = whole.text; splits = ap (λ l. l ++ whole.text) (sym none) }
    ]

pub want_is_not_told : WantIsNotTold
want_is_not_told c old mid new last before lines more said then_said whole told rest t shows t2 is ends shows2 t3 shows3 =
    let one = parts c old mid last before (lines ++ more) said whole (no_want_is_well c old mid before said t shows) (no_want_is_well c old last (before ++ (lines ++ more)) whole t3 shows3) in
    let two = told_again c mid new last lines more then_said one.others told rest t2 is ends shows2 one.goes_on in
    record { rest = two.rest; splits = one.tells ∙ ap (λ l. said.text ++ l) two.splits ∙ sym (append_assoc said.text told two.rest) }
