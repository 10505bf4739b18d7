-- A record that leads to a plant goes on by one reply or one move.
use Rattle.std.proofs.Common.{arith, ◌≡◌, refl, sym, ◌∙◌, ap, subst, List, [], ◌∷◌, ◌++◌, Some}
use Rattle.batch_model.specs.{Plant.Setup, Plant.Plant, Moves.Move, Moves.next, Moves.after_move, Events.Event, Events.Reply, Runs.Out, Runs.reply, Runs.move, Runs.Reacts, Runs.Leads}

pub Leads-move : (c : Setup) (s t : Plant) (m : Move) (es : List Event) (outs : List Out)
    → Leads c s es outs t → next c t ≡ Some m → Leads c s es (outs ++ move m ∷ []) (after_move t m)
Leads-move c s t m [] [] h n = (ap (next c) h ∙ n, ap (λ x. after_move x m) h)
Leads-move c s t m es (move k ∷ outs) h n = (h.0, Leads-move c (after_move s k) t m es outs h.1 n)
Leads-move c s t m (e ∷ es) (reply r ∷ outs) h n = (h.0, h.1, Leads-move c h.0 t m es outs h.2 n)
Leads-move c s t m es outs h n = grind arith

pub Leads-reply : (c : Setup) (s t u : Plant) (e : Event) (r : Reply) (es : List Event) (outs : List Out)
    → Leads c s es outs t → Reacts c t e r u → Leads c s (es ++ e ∷ []) (outs ++ reply r ∷ []) u
Leads-reply c s t u e r [] [] h a = (u, subst (λ x. Reacts c x e r u) (sym h) a, refl)
Leads-reply c s t u e r es (move k ∷ outs) h a = (h.0, Leads-reply c (after_move s k) t u e r es outs h.1 a)
Leads-reply c s t u e r (d ∷ es) (reply q ∷ outs) h a = (h.0, h.1, Leads-reply c h.0 t u e r es outs h.2 a)
Leads-reply c s t u e r es outs h a = grind arith
