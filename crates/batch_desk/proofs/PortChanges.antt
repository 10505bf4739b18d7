-- The effects of one event and of one move on the ports of a hub.
use Rattle.std.proofs.Common.{◌≡◌, ℕ, ◌≤◌, ◌≢◌, Bool, true, false, cond, eqb, List, [], ◌∷◌, ◌++◌, length, take, Option, Some, None, IfSome, IsNone, refl, sym, ◌∙◌, ap, arith, append-nil, append_assoc, length-append}
use Rattle.std.proofs.lemmas.{List.take-append-le, Option.IfSome_then, Bool.Decides.eqb_tells}
use Rattle.batch_desk.{proofs.Replies.replies, specs.declared.scope.Scope.Scope, specs.Due.due, specs.Due.sees, specs.Due.events_of, specs.Due.up_to, specs.PortState.PortState, specs.PortSteps.tell, specs.PortSteps.owe_line, specs.PortSteps.answered, specs.HubState.IsPort, specs.HubState.port_outs, specs.PortState.outline, proofs.DueOuts.due-line, proofs.DueOuts.due-reply, proofs.DueOuts.due-later, proofs.DueOuts.replies-take, proofs.DueOuts.events_of-append}
use Rattle.batch_engine.specs.declared.{event.Event.Event, out.Out.Out, out.Out.TheVariants.Reply, out.Out.TheVariants.Move, reply.Reply.Reply as Answer, line.Line.Line}

-- the outs that are newly added for a port
abbrev news : Option ℕ → Bool → Out → List Out
news None true out = out ∷ []
news None false out = []
news (Some n) b out = []

news_open : (b : Bool) (out : Out) → news None b out ≡ cond b (out ∷ []) []
news_open true out = refl
news_open false out = refl

record Keeps (p q : PortState) : Type 0 where
  scope : q.scope ≡ p.scope
  events : q.events ≡ p.events
  taken : q.taken ≡ p.taken
  outs : q.outs ≡ p.outs
  closed : q.closed ≡ p.closed

tell_keeps : (b : Bool) (c : Option ℕ) (out : Out) (p : PortState) → Keeps p (cond b (tell c out p) p)
tell_keeps true None out p = record { scope = refl; events = refl; taken = refl; outs = refl; closed = refl }
tell_keeps true (Some n) out p = record { scope = refl; events = refl; taken = refl; outs = refl; closed = refl }
tell_keeps false c out p = record { scope = refl; events = refl; taken = refl; outs = refl; closed = refl }

tell_told : (b : Bool) (c : Option ℕ) (out : Out) (p : PortState) → port_outs (cond b (tell c out p) p) ≡ port_outs p ++ news c b out
tell_told true None out p = sym (append_assoc p.put p.waiting (out ∷ []))
tell_told true (Some n) out p = sym (append-nil _)
tell_told false None out p = sym (append-nil _)
tell_told false (Some n) out p = sym (append-nil _)

closed_stays : (outs : List Out) (x : Out) (c : Option ℕ) → IfSome c (λ n. n ≤ length outs) → IfSome c (λ n. n ≤ length (outs ++ x ∷ []))
closed_stays outs x None h = tt
closed_stays outs x (Some n) h = omega (arith, length-append outs (x ∷ []))

due_line : (scope : Scope) (k : ℕ) (h : List (ℕ × Event)) (outs : List Out) (line : Line) (c : Option ℕ) → IfSome c (λ n. n ≤ length outs)
    → due scope k h (up_to c (outs ++ Move line ∷ [])) ≡ due scope k h (up_to c outs) ++ news c (sees scope line) (Move line)
due_line scope k h outs line None within = due-line scope k h outs line ∙ ap (λ xs. due scope k h outs ++ xs) (sym (news_open (sees scope line) (Move line)))
due_line scope k h outs line (Some n) within =
    ap (due scope k h) (take-append-le n outs (Move line ∷ []) within) ∙ sym (append-nil _)

-- a move is added for each port in whose scope it is
pub line_told : (h : List (ℕ × Event)) (outs : List Out) (line : Line) (k : ℕ) (p : PortState) → IsPort h outs k p → IsPort h (outs ++ Move line ∷ []) k (owe_line line p)
line_told h outs line k p is =
    let keeps = tell_keeps (sees p.scope line) p.closed (Move line) p in
    let news-told = tell_told (sees p.scope line) p.closed (Move line) p in
    let news-due = due_line p.scope k h outs line p.closed is.closed in
    record {
      taken = keeps.taken ∙ is.taken;
      told = rw (keeps.outs, keeps.scope, keeps.closed) (IfSome_then p.outs is.told (λ ring e. news-told ∙ (ap (λ xs. xs ++ news p.closed (sees p.scope line) (Move line)) e ∙ sym news-due)));
      closed = rw keeps.closed (closed_stays outs (Move line) p.closed is.closed);
    }

due_other : (scope : Scope) (k : ℕ) (h : List (ℕ × Event)) (outs : List Out) (e : ℕ × Event) (reply : Answer) (c : Option ℕ) → IfSome c (λ n. n ≤ length outs) → replies outs ≡ length h → eqb e.0 k ≡ false
    → due scope k (h ++ e ∷ []) (up_to c (outs ++ Reply reply ∷ [])) ≡ due scope k h (up_to c outs)
due_other scope k h outs e reply None within n other =
    due-reply scope k h outs e reply n ∙ (ap (λ b. due scope k h outs ++ cond b (Reply reply ∷ []) []) other ∙ append-nil _)
due_other scope k h outs e reply (Some m) within n other =
    ap (due scope k (h ++ e ∷ [])) (take-append-le m outs (Reply reply ∷ []) within) ∙ due-later scope k h (take m outs) e (omega (arith, replies-take m outs))

-- the event of another port changes nothing
pub reply_other : (h : List (ℕ × Event)) (outs : List Out) (port : ℕ) (event : Event) (reply : Answer) (k : ℕ) (p : PortState) → replies outs ≡ length h → k ≢ port
    → IsPort h outs k p → IsPort (h ++ (port, event) ∷ []) (outs ++ Reply reply ∷ []) k p
reply_other h outs port event reply k p n other is =
    let test : eqb port k ≡ false = grind (arith, eqb_tells port k) in
    record {
      taken = is.taken ∙ (sym (append-nil _) ∙ (ap (λ b. events_of k h ++ cond b (event ∷ []) []) (sym test) ∙ sym (events_of-append k h (port, event))));
      told = IfSome_then p.outs is.told (λ ring e. e ∙ sym (due_other p.scope k h outs (port, event) reply p.closed is.closed n test));
      closed = closed_stays outs (Reply reply) p.closed is.closed;
    }

due_own : (scope : Scope) (k : ℕ) (h : List (ℕ × Event)) (outs : List Out) (event : Event) (reply : Answer) (c : Option ℕ) → c ≡ None → replies outs ≡ length h → eqb k k ≡ true
    → due scope k (h ++ (k, event) ∷ []) (up_to c (outs ++ Reply reply ∷ [])) ≡ due scope k h (up_to c outs) ++ Reply reply ∷ []
due_own scope k h outs event reply None none n test =
    due-reply scope k h outs (k, event) reply n ∙ ap (λ b. due scope k h outs ++ cond b (Reply reply ∷ []) []) test
due_own scope k h outs event reply (Some m) none n test = cc

-- the port's own event is answered
pub reply_own : (h : List (ℕ × Event)) (outs : List Out) (event : Event) (reply : Answer) (k : ℕ) (p : PortState) → replies outs ≡ length h → IsNone p.closed
    → IsPort h outs k p → IsPort (h ++ (k, event) ∷ []) (outs ++ Reply reply ∷ []) k (answered event reply p)
reply_own h outs event reply k p n open' is =
    let test : eqb k k ≡ true = grind (arith, eqb_tells k k) in
    let none : p.closed ≡ None = grind (arith) in
    record {
      taken = ap (λ xs. xs ++ event ∷ []) is.taken ∙ (ap (λ b. events_of k h ++ cond b (event ∷ []) []) (sym test) ∙ sym (events_of-append k h (k, event)));
      told = IfSome_then p.outs is.told (λ ring e. sym (append_assoc p.put p.waiting (Reply reply ∷ [])) ∙ (ap (λ xs. xs ++ Reply reply ∷ []) e ∙ sym (due_own p.scope k h outs event reply p.closed none n test)));
      closed = rw none tt;
    }

tell_outline : (b : Bool) (c : Option ℕ) (out : Out) (p : PortState) → outline (cond b (tell c out p) p) ≡ outline p
tell_outline true None out p = refl
tell_outline true (Some n) out p = refl
tell_outline false c out p = refl

pub line_outline : (line : Line) (p : PortState) → outline (owe_line line p) ≡ outline p
line_outline line p = tell_outline (sees p.scope line) p.closed (Move line) p
