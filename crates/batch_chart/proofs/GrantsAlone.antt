-- A batch without a move of its own can make grants alone.
use Rattle.std.proofs.Common.{◌≡◌, List, [], ◌∷◌, Some, None, refl, sym, ◌∙◌, ap}
use Rattle.std.specs.{Prelude.Option, Prelude.◌++◌, Prelude.option_to_list, List.filter_map, List.cons_option}
use Rattle.batch_model.specs.{Plant.Setup, Plant.Batch, Plant.Plant, Rest.Rest, Rest.ready, Rest.asking, Rest.open_act, Rest.live, Rest.freeing, Rest.in_seq, Rest.in_par, Rest.in_loop, Rest.done, Rest.acts, Moves.Move, Moves.act_move, Moves.state_move, Moves.batch_moves}
use Rattle.batch_chart.specs.OwnMoves.{own_move, own_moves, own_next, grant_move, grants}
use Rattle.batch_step_laws.proofs.MoveOrder.{none_least}

module _ (c : Setup) (s : Plant) (b : Batch) where
  abbrev Alone : List Rest → Type 0
  Alone as' = filter_map (own_move b) as' ≡ [] → filter_map (act_move c s b) as' ≡ filter_map (grant_move c s b) as'

  owns-nothing : (a : Rest) (as' : List Rest) → act_move c s b a ≡ own_move b a → grant_move c s b a ≡ None → Alone as' → Alone (a ∷ as')
  owns-nothing a as' e f rec h =
      ap (λ o. cons_option o (filter_map (act_move c s b) as')) e ∙ go (own_move b a) h
      ∙ sym (ap (λ o. cons_option o (filter_map (grant_move c s b) as')) f)
    where
      go : (o : Option Move) → cons_option o (filter_map (own_move b) as') ≡ [] → cons_option o (filter_map (act_move c s b) as') ≡ filter_map (grant_move c s b) as'
      go None q = rec q
      go (Some m) q = absurd (cc)

  alone : (as' : List Rest) → Alone as'
  alone [] h = refl
  alone (ready p w k ∷ as') h = owns-nothing (ready p w k) as' refl refl (alone as') h
  alone (asking p w k ∷ as') h = ap (cons_option (grant_move c s b (asking p w k))) (alone as' h)
  alone (open_act p r ∷ as') h = owns-nothing (open_act p r) as' refl refl (alone as') h
  alone (live p x t ∷ as') h = owns-nothing (live p x t) as' refl refl (alone as') h
  alone (freeing p k ∷ as') h = owns-nothing (freeing p k) as' refl refl (alone as') h
  alone (in_seq r cs ∷ as') h = owns-nothing (in_seq r cs) as' refl refl (alone as') h
  alone (in_par rs ∷ as') h = owns-nothing (in_par rs) as' refl refl (alone as') h
  alone (in_loop n x t r ∷ as') h = owns-nothing (in_loop n x t r) as' refl refl (alone as') h
  alone (done ∷ as') h = owns-nothing done as' refl refl (alone as') h

  pub grants-alone : own_next b ≡ None → batch_moves c s b ≡ grants c s b
  grants-alone h = go (state_move b) (none_least (own_moves b) h)
    where
      go : (o : Option Move) → option_to_list o ++ filter_map (own_move b) (acts b.rest) ≡ []
          → option_to_list o ++ filter_map (act_move c s b) (acts b.rest) ≡ grants c s b
      go None q = alone (acts b.rest) q
      go (Some m) q = absurd (cc)
