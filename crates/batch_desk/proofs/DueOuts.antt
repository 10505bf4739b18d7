-- The outs due to a port as history and record grow.
use Rattle.std.proofs.Common.{◌≡◌, ℕ, zero, suc, ◌≤◌, Bool, true, false, cond, eqb, List, [], ◌∷◌, ◌++◌, length, take, refl, arith}
use Rattle.batch_desk.{proofs.Replies.replies, specs.declared.scope.Scope.Scope, specs.Due.due, specs.Due.sees, specs.Due.events_of}
use Rattle.batch_engine.specs.declared.{event.Event.Event, out.Out.Out, out.Out.TheVariants.Reply, out.Out.TheVariants.Move, reply.Reply.Reply as Answer, line.Line.Line}

cond-append : {X : Type 0} (b : Bool) (x : X) (xs ys : List X) → cond b (x ∷ (xs ++ ys)) (xs ++ ys) ≡ cond b (x ∷ xs) xs ++ ys
cond-append true x xs ys = refl
cond-append false x xs ys = refl

module _ (scope : Scope) (port : ℕ) where
  pub due-line : (h : List (ℕ × Event)) (outs : List Out) (line : Line)
      → due scope port h (outs ++ Move line ∷ []) ≡ due scope port h outs ++ cond (sees scope line) (Move line ∷ []) []
  due-line h [] line = refl
  due-line h (Move m ∷ outs) line = rw (due-line h outs line) (cond-append (sees scope m) (Move m) _ _)
  due-line [] (Reply r ∷ outs) line = due-line [] outs line
  due-line (e ∷ h) (Reply r ∷ outs) line = rw (due-line h outs line) (cond-append (eqb e.0 port) (Reply r) _ _)

  pub due-reply : (h : List (ℕ × Event)) (outs : List Out) (e : ℕ × Event) (reply : Answer) → replies outs ≡ length h
      → due scope port (h ++ e ∷ []) (outs ++ Reply reply ∷ []) ≡ due scope port h outs ++ cond (eqb e.0 port) (Reply reply ∷ []) []
  due-reply [] [] e reply n = refl
  due-reply (x ∷ h) [] e reply n = absurd (omega arith)
  due-reply h (Move m ∷ outs) e reply n = rw (due-reply h outs e reply n) (cond-append (sees scope m) (Move m) _ _)
  due-reply [] (Reply r ∷ outs) e reply n = absurd (omega arith)
  due-reply (x ∷ h) (Reply r ∷ outs) e reply n = rw (due-reply h outs e reply (omega arith)) (cond-append (eqb x.0 port) (Reply r) _ _)

  -- events that no reply of the list answers change nothing
  pub due-later : (h : List (ℕ × Event)) (outs : List Out) (e : ℕ × Event) → replies outs ≤ length h → due scope port (h ++ e ∷ []) outs ≡ due scope port h outs
  due-later h [] e n = refl
  due-later h (Move m ∷ outs) e n = rw (due-later h outs e n) refl
  due-later [] (Reply r ∷ outs) e n = absurd (omega arith)
  due-later (x ∷ h) (Reply r ∷ outs) e n = rw (due-later h outs e (omega arith)) refl

pub replies-take : (n : ℕ) (outs : List Out) → replies (take n outs) ≤ replies outs
replies-take zero outs = omega arith
replies-take (suc n) [] = omega arith
replies-take (suc n) (Move m ∷ outs) = replies-take n outs
replies-take (suc n) (Reply r ∷ outs) = omega (arith, replies-take n outs)

pub events_of-append : (port : ℕ) (h : List (ℕ × Event)) (e : ℕ × Event) → events_of port (h ++ e ∷ []) ≡ events_of port h ++ cond (eqb e.0 port) (e.1 ∷ []) []
events_of-append port [] e = refl
events_of-append port (x ∷ h) e = rw (events_of-append port h e) (cond-append (eqb x.0 port) x.1 _ _)
