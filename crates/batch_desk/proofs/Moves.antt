-- How many moves a record has.
use Rattle.std.proofs.Common.{◌≡◌, ℕ, ◌+◌, List, [], ◌∷◌, ◌++◌, length, sym, ◌∙◌, ap, arith, append_assoc, length-append, Result, Ok, Err, IfOk}
use mathlib.Core.List.{IsPrefix}
use Rattle.batch_engine.specs.declared.out.Out.{Out, TheVariants.Reply, TheVariants.Move}
use Rattle.batch_desk.specs.{declared.fault.HubFault.HubFault, declared.turned.Turned.Turned, declared.turned.Turned.TheVariants.Idle, declared.turned.Turned.TheVariants.Handled, declared.turned.Turned.TheVariants.MovesLeft, HubState.HubState, TurnSteps.AnswersOne, TurnSteps.EndsTurn, TurnSteps.MakesMove, Turns.AnswersTurn, Turns.moves}

moves-append : (xs ys : List Out) → moves (xs ++ ys) ≡ moves xs + moves ys
moves-append [] ys = omega arith
moves-append (Reply r ∷ xs) ys = moves-append xs ys
moves-append (Move m ∷ xs) ys = omega (arith, moves-append xs ys)

pub moves_made : (h g : HubState) → MakesMove h g → moves g.outs ≡ moves h.outs + 1
moves_made h g made = ap moves made.outs ∙ moves-append h.outs (Move made.line ∷ [])

moves_taken : (port : ℕ) (h g : HubState) → AnswersOne port h g → moves g.outs ≡ moves h.outs
moves_taken port h g took = omega (arith, ap moves took.outs, moves-append h.outs (Reply took.reply ∷ []))

pub prefix_more : (xs ys zs : List Out) (x : Out) → IsPrefix xs ys → zs ≡ ys ++ x ∷ [] → IsPrefix xs zs
prefix_more xs ys zs x pre e = (pre.0 ++ x ∷ [], sym (append_assoc xs pre.0 (x ∷ [])) ∙ (ap (λ w. w ++ x ∷ []) pre.1 ∙ sym e))

pub prefix_then : (xs ys zs : List Out) → IsPrefix xs ys → IsPrefix ys zs → IsPrefix xs zs
prefix_then xs ys zs p q = (p.0 ++ q.0, sym (append_assoc xs p.0 q.0) ∙ (ap (λ w. w ++ q.0) p.1 ∙ q.1))

taken_more : (port : ℕ) (h g : HubState) → AnswersOne port h g → length g.history ≡ length h.history + 1
taken_more port h g took = omega (arith, ap length took.history, length-append h.history ((port, took.event) ∷ []))

answers_taken : (port : ℕ) (h t g : HubState) (turned : Turned) → AnswersOne port h t → g.history ≡ t.history → EndsTurn turned t g → AnswersTurn turned h g
answers_taken port h t g Idle took later ends = absurd ends
answers_taken port h t g Handled took later ends = (ends.0, omega (arith, ap length later, taken_more port h t took, moves_taken port h t took, ends.1))
answers_taken port h t g MovesLeft took later ends = (ends.0, omega (arith, moves_taken port h t took, ends.1))

pub turn_answers : (port : ℕ) (h t g : HubState) (r : Result Turned HubFault) → AnswersOne port h t → g.history ≡ t.history
    → IfOk r (λ turned. EndsTurn turned t g) → IfOk r (λ turned. AnswersTurn turned h g)
turn_answers port h t g (Ok turned) took later ends = answers_taken port h t g turned took later ends
turn_answers port h t g (Err fault) took later ends = tt
