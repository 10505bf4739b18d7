-- How many replies a record has.
use Rattle.std.proofs.Common.{◌≡◌, ℕ, ◌+◌, List, [], ◌∷◌, length, refl, sym, ◌∙◌, ap, arith}
use Rattle.batch_model.specs.{Plant.Setup, Plant.Plant, Moves.after_move, Runs.reply, Runs.move, Runs.Leads}
use Rattle.batch_model.specs.Events as Events
use Rattle.batch_model.specs.Runs as Runs
use Rattle.batch_verify.specs.ClearedSet.{ClearedSet}
use Rattle.batch_engine.specs.declared.out.Out.{Out, TheVariants.Reply, TheVariants.Move}
use Rattle.batch_desk.specs.HubState.{outs_in}

abbrev pub replies : List Out → ℕ
replies [] = 0
replies (Reply r ∷ outs) = 1 + replies outs
replies (Move line ∷ outs) = replies outs

-- the replies of a record of the definitions
abbrev answers : List Runs.Out → ℕ
answers [] = 0
answers (reply r ∷ outs) = 1 + answers outs
answers (move m ∷ outs) = answers outs

answers-in : (c : ClearedSet) (outs : List Out) → answers (outs_in c outs) ≡ replies outs
answers-in c [] = refl
answers-in c (Reply r ∷ outs) = ap (λ n. 1 + n) (answers-in c outs)
answers-in c (Move line ∷ outs) = answers-in c outs

-- a record has a reply to each event
Leads-answers : (c : Setup) (s t : Plant) (es : List Events.Event) (outs : List Runs.Out) → Leads c s es outs t → answers outs ≡ length es
Leads-answers c s t [] [] h = refl
Leads-answers c s t (e ∷ es) [] h = absurd h
Leads-answers c s t es (move m ∷ outs) h = Leads-answers c (after_move s m) t es outs h.1
Leads-answers c s t [] (reply r ∷ outs) h = absurd h
Leads-answers c s t (e ∷ es) (reply r ∷ outs) h = omega (arith, Leads-answers c h.0 t es outs h.2)

pub replies-led : (set : ClearedSet) (c : Setup) (s t : Plant) (es : List Events.Event) (outs : List Out) → Leads c s es (outs_in set outs) t → replies outs ≡ length es
replies-led set c s t es outs h = sym (answers-in set outs) ∙ Leads-answers c s t es (outs_in set outs) h
