-- In a plant that stands an act has one move, so one move is the first.
use Rattle.std.proofs.Common.{◌≡◌, ◌⊎◌, refl, sym, ◌∙◌, ap, subst, [], ◌∷◌, Bool, true, false, Some, inl, inr}
use Rattle.batch_recipe.specs.Tree.{Place}
use Rattle.batch_model.{specs.Lists.Has, specs.Rest.Rest, specs.Rest.acts, specs.Rest.place_of, specs.Plant.Setup, specs.Plant.Batch, specs.Plant.Plant, specs.Moves.Move, specs.Moves.batch_of, specs.Moves.kind_of, specs.Moves.place_of_move, specs.Moves.order_of, specs.Moves.is_earlier, specs.Moves.act_move, specs.Moves.state_move, specs.Moves.batch_moves, specs.Moves.possible, specs.Moves.next, specs.Standing.HasPlacedTrees, specs.Standing.IsStandingBatch, specs.Standing.IsStanding, specs.Placed.IsPlaced, proofs.Members.Each-Has, proofs.Members.Has-flat_map}
use Rattle.batch_step_laws.{specs.Laws.IsLeast, specs.Laws.IsFirst, proofs.MoveOrder.before-connected, proofs.MoveOrder.least-IsLeast, proofs.ActOrder.IsUnder, proofs.ActOrder.acts-under, proofs.ActMoves.IsMoveOf, proofs.ActMoves.act_move-is, proofs.StateMoves.IsStateMove, proofs.StateMoves.state_move-is, proofs.Batches.one_batch, proofs.WorkAfterMove.one_act, proofs.WorkAfterMove.batch-rises, proofs.WorkAfterMove.Has-batch_moves, proofs.WorkAfterMove.batch_moves-number}

-- no act stands at the place of a state move
no_act : (c : Setup) (b : Batch) (a : Rest) → HasPlacedTrees c → IsStandingBatch c b → Has (acts b.rest) a → place_of a ≡ [] → ⊥
no_act c b a placed k h e =
    let tree : IsPlaced (0 ∷ []) b.recipe.procedure = placed b.recipe k.known in
    let under : IsUnder (0 ∷ []) a = Each-Has (IsUnder (0 ∷ [])) (acts b.rest) a (acts-under (0 ∷ []) b.recipe.procedure b.rest tree k.stands) h in
    let f : ◌≡◌ {A = Place} (0 ∷ under.0) [] = sym under.1 ∙ e in
    absurd cc

one_state_move : (b : Batch) (m l : Move) → state_move b ≡ Some m → state_move b ≡ Some l → m ≡ l
one_state_move b m l e f = let g : Some m ≡ Some l = sym e ∙ f in cc

-- the move n is made by one of the acts
abbrev IsMade : Setup → Plant → Batch → Move → Type 0
IsMade c s b n = (a : Rest) × Has (acts b.rest) a × (act_move c s b a ≡ Some n)

made-place : (c : Setup) (s : Plant) (b : Batch) (n : Move) (d : IsMade c s b n) → place_of_move n ≡ place_of d.0
made-place c s b n d = let t : IsMoveOf b d.0 n = act_move-is b c s d.0 n d.2 in t.place

state_move-place : (b : Batch) (n : Move) → state_move b ≡ Some n → place_of_move n ≡ []
state_move-place b n e = let t : IsStateMove b.number b.state b.rest n = state_move-is b n e in ap place_of_move t.1

batch_moves-one : (c : Setup) (s : Plant) (b : Batch) (m l : Move) → HasPlacedTrees c → IsStandingBatch c b
    → Has (batch_moves c s b) m → Has (batch_moves c s b) l → place_of_move m ≡ place_of_move l → m ≡ l
batch_moves-one c s b m l placed k h i e = go (Has-batch_moves c s b m h) (Has-batch_moves c s b l i)
  where
    go : (state_move b ≡ Some m) ⊎ IsMade c s b m → (state_move b ≡ Some l) ⊎ IsMade c s b l → m ≡ l
    go (inl f) (inl g) = one_state_move b m l f g
    go (inl f) (inr g) = absurd (no_act c b g.0 placed k g.1 (sym (made-place c s b l g) ∙ sym e ∙ state_move-place b m f))
    go (inr f) (inl g) = absurd (no_act c b f.0 placed k f.1 (sym (made-place c s b m f) ∙ e ∙ state_move-place b l g))
    go (inr f) (inr g) =
        let place : place_of f.0 ≡ place_of g.0 = sym (made-place c s b m f) ∙ e ∙ made-place c s b l g in
        let same : f.0 ≡ g.0 = one_act (acts b.rest) f.0 g.0 (batch-rises c b placed k) f.1 g.1 place in
        let n : Some m ≡ Some l = sym f.2 ∙ ap (act_move c s b) same ∙ g.2 in
        cc

-- two possible moves of one batch at one place are the same
pub possible-one : (c : Setup) (s : Plant) (m l : Move) → HasPlacedTrees c → IsStanding c s → Has (possible c s) m → Has (possible c s) l
    → batch_of m ≡ batch_of l → place_of_move m ≡ place_of_move l → m ≡ l
possible-one c s m l placed k h i e f =
    let d = Has-flat_map (batch_moves c s) s.batches m h in
    let x = Has-flat_map (batch_moves c s) s.batches l i in
    let number = sym (batch_moves-number c s d.0 m d.2) ∙ e ∙ batch_moves-number c s x.0 l x.2 in
    let same : d.0 ≡ x.0 = one_batch s.next_number s.batches d.0 x.0 k.numbers d.1 x.1 number in
    batch_moves-one c s d.0 m l placed (Each-Has (IsStandingBatch c) s.batches d.0 k.batches d.1) d.2
    (subst (λ b. Has (batch_moves c s b) l) (sym same) x.2) f

-- the next move is earlier than all others
pub next-IsFirst : (c : Setup) (s : Plant) (m : Move) → HasPlacedTrees c → IsStanding c s → next c s ≡ Some m → IsFirst (possible c s) m
next-IsFirst c s m placed k e = (least.0, λ l h. go l h (is_earlier m l) refl)
  where
    least : IsLeast (possible c s) m
    least = least-IsLeast (possible c s) m e

    go : (l : Move) → Has (possible c s) l → (t : Bool) → is_earlier m l ≡ t → (l ≡ m) ⊎ (is_earlier m l ≡ true)
    go l h true f = inr f
    go l h false f =
        let same : order_of l ≡ order_of m = before-connected (order_of l) (order_of m) (least.1 l h) f in
        let number : batch_of l ≡ batch_of m = cc in
        let below : kind_of l ∷ place_of_move l ≡ kind_of m ∷ place_of_move m = cc in
        let place : place_of_move l ≡ place_of_move m = cc in
        inl (possible-one c s l m placed k h least.0 number place)
