-- Runs of the same events agree.
use Rattle.std.proofs.Common.{◌≡◌, List, [], ◌∷◌, ◌++◌, None, map, refl, sym, ◌∙◌, ap, subst, inl, inr}
use Rattle.batch_model.specs.{Events.Event, Events.Reply, Events.refused, Events.no_memory, Events.react, Moves.Move, Moves.after_move, Moves.next, Plant.Setup, Plant.Plant, Runs.Out, Runs.reply, Runs.move, Runs.Reacts, Runs.Leads}
use Rattle.batch_record_laws.specs.Replays.{Takes, Replays, ReplaysAgree}

settles_once : (c : Setup) (s : Plant) (moves others : List Move) (one other : Plant)
    → Leads c s [] (map move moves) one → next c one ≡ None → Leads c s [] (map move others) other → next c other ≡ None → (moves ≡ others) × (one ≡ other)
settles_once c s [] [] one other a settled b rests = (refl, sym a ∙ b)
settles_once c s [] (m ∷ others) one other a settled b rests =
    let none : next c s ≡ None = subst (λ (x : Plant). next c x ≡ None) (sym a) settled in
    absurd (cc (none, b.0))
settles_once c s (m ∷ moves) [] one other a settled b rests =
    let none : next c s ≡ None = subst (λ (x : Plant). next c x ≡ None) (sym b) rests in
    absurd (cc (none, a.0))
settles_once c s (m ∷ moves) (n ∷ others) one other a settled b rests =
    let same : m ≡ n = cc (a.0, b.0) in
    let on = settles_once c (after_move s m) moves others one other a.1 settled (subst (λ x. Leads c (after_move s x) [] (map move others) other) (sym same) b.1) rests in
    (cc (same, on.0), on.1)

reacts_so : (c : Setup) (s : Plant) (event : Event) (told : Reply) (later : Plant)
    → (told ≡ refused no_memory → ⊥) → Reacts c s event told later → react c s event ≡ (told, later)
reacts_so c s event told later has (inl is) = is
reacts_so c s event told later has (inr wants) = absurd (has wants.1)

pub takes_once : (c : Setup) (s : Plant) (event : Event) (outs told : List Out) (one other : Plant)
    → Takes c s event outs one → Takes c s event told other → (outs ≡ told) × (one ≡ other)
takes_once c s event outs told one other a b =
    let is_a = reacts_so c s event a.answer a.mid a.has_memory a.reacts in
    let is_b = reacts_so c s event b.answer b.mid b.has_memory b.reacts in
    let both : (a.answer, a.mid) ≡ (b.answer, b.mid) = sym is_a ∙ is_b in
    let answers : a.answer ≡ b.answer = ap (λ p. p.0) both in
    let mids : a.mid ≡ b.mid = ap (λ p. p.1) both in
    let rest = settles_once c a.mid a.moves b.moves one other a.made a.settled
    (subst (λ x. Leads c x [] (map move b.moves) other) (sym mids) b.made) b.settled in
    (a.tells ∙ ap (λ x. reply x ∷ map move a.moves) answers ∙ ap (λ m. reply b.answer ∷ map move m) rest.0 ∙ sym b.tells, rest.1)

pub replays_agree : ReplaysAgree
replays_agree c old one other [] outs told a b = (a.0 ∙ sym b.0, a.1 ∙ sym b.1)
replays_agree c old one other (event ∷ events) outs told (first, others, mid, takes, replays, is) (first_b, others_b, mid_b, takes_b, replays_b, is_b) =
    let now = takes_once c old event first first_b mid mid_b takes takes_b in
    let rest = replays_agree c mid one other events others others_b replays (subst (λ x. Replays c x events others_b other) (sym now.1) replays_b) in
    (is ∙ ap (λ x. x ++ others) now.0 ∙ ap (λ x. first_b ++ x) rest.0 ∙ sym is_b, rest.1)
