-- The next move is that of the first batch that has one.
use Rattle.std.proofs.Common.{◌≡◌, ◌<◌, refl, sym, ◌∙◌, ap, subst, ℕ, List, [], ◌∷◌, ◌++◌, Bool, true, false, Option, Some, None, inl, inr, arith, flat_map, nat_eq}
use Rattle.batch_model.{specs.Lists.Has, specs.Lists.Each, specs.Plant.Setup, specs.Plant.Batch, specs.Plant.Plant, specs.Moves.Move, specs.Moves.batch_of, specs.Moves.is_earlier, specs.Moves.least, specs.Moves.batch_moves, specs.Moves.next, specs.Standing.AreNumbered, proofs.Members.Has-flat_map, proofs.Members.Each-Has}
use Rattle.batch_step_laws.{specs.Laws.IsLeast, proofs.MoveOrder.none_least, proofs.MoveOrder.least-IsLeast, proofs.WorkAfterMove.batch_moves-number}

least-one : (x : Move) (ys : List Move) → ((y : Move) → Has ys y → is_earlier y x ≡ false) → least (x ∷ ys) ≡ Some x
least-one x ys h = go (least ys) refl
  where
    pass : (l : Move) (b : Bool) → b ≡ false → ◌≡◌ {A = Option Move} (elim b [ true ↦ Some l | false ↦ Some x ]) (Some x)
    pass l true e = absurd cc
    pass l false e = refl

    go : (o : Option Move) → least ys ≡ o → ◌≡◌ {A = Option Move} (elim o [ None ↦ Some x | Some l ↦ elim (is_earlier l x) [ true ↦ Some l | false ↦ Some x ] ]) (Some x)
    go None e = refl
    go (Some l) e = let k : IsLeast ys l = least-IsLeast ys l e in pass l (is_earlier l x) (h l k.0)

pub least-append : (xs ys : List Move) (m : Move) → least xs ≡ Some m → ((x y : Move) → Has xs x → Has ys y → is_earlier y x ≡ false) → least (xs ++ ys) ≡ Some m
least-append [] ys m e h = absurd cc
least-append (x ∷ xs) ys m e h = go (least xs) refl (λ l q. least-append xs ys l q (λ a b i j. h a b (inr i) j)) e
  where
    nothing : (zs : List Move) → zs ≡ [] → ((y : Move) → Has ys y → is_earlier y x ≡ false) → least (x ∷ (zs ++ ys)) ≡ Some x
    nothing zs q k = subst (λ (w : List Move). least (x ∷ (w ++ ys)) ≡ Some x) (sym q) (least-one x ys k)

    go : (o : Option Move) → least xs ≡ o → ((l : Move) → least xs ≡ Some l → least (xs ++ ys) ≡ Some l) → ◌≡◌ {A = Option Move} (elim o [ None ↦ Some x | Some l ↦ elim (is_earlier l x) [ true ↦ Some l | false ↦ Some x ] ]) (Some m)
        → ◌≡◌ {A = Option Move} (elim (least (xs ++ ys)) [ None ↦ Some x | Some l ↦ elim (is_earlier l x) [ true ↦ Some l | false ↦ Some x ] ]) (Some m)
    go None q more f = nothing xs (none_least xs q) (λ y k. h x y (inl refl) k) ∙ f
    go (Some l) q more f = ap (λ (o : Option Move). let p : Option Move = elim o [ None ↦ Some x | Some l ↦ elim (is_earlier l x) [ true ↦ Some l | false ↦ Some x ] ] in p) (more l q) ∙ f

later-batch : (m l : Move) → batch_of m < batch_of l → is_earlier l m ≡ false
later-batch m l h = go (nat_eq (batch_of l) (batch_of m)) refl
  where
    go : (b : Bool) → nat_eq (batch_of l) (batch_of m) ≡ b → is_earlier l m ≡ false
    go b e = grind arith

module _ (c : Setup) (s : Plant) where
  pub flat-none : (front bs : List Batch) → Each (λ b. batch_moves c s b ≡ []) front → flat_map (batch_moves c s) (front ++ bs) ≡ flat_map (batch_moves c s) bs
  flat-none [] bs h = refl
  flat-none (b ∷ front) bs h = ap (λ xs. xs ++ flat_map (batch_moves c s) (front ++ bs)) h.0 ∙ flat-none front bs h.1

  after-front : (next : ℕ) (front : List Batch) (bs : List Batch) → AreNumbered next (front ++ bs) → AreNumbered next bs
  after-front n [] bs h = h
  after-front n (b ∷ front) bs h = after-front n front bs h.2

  -- the move of the first batch that has one is the next
  pub next-first : (front : List Batch) (b : Batch) (back : List Batch) (m : Move) → AreNumbered s.next_number s.batches → s.batches ≡ front ++ b ∷ back
      → Each (λ d. batch_moves c s d ≡ []) front → least (batch_moves c s b) ≡ Some m → next c s ≡ Some m
  next-first front b back m numbers split none e =
      let here : AreNumbered s.next_number (b ∷ back) = after-front s.next_number front (b ∷ back) (subst (AreNumbered s.next_number) split numbers) in
      ap (λ (bs : List Batch). least (flat_map (batch_moves c s) bs)) split ∙ ap least (flat-none front (b ∷ back) none)
      ∙ least-append (batch_moves c s b) (flat_map (batch_moves c s) back) m e
      (λ x y i j.
      let d = Has-flat_map (batch_moves c s) back y j in
      let above : b.number < d.0.number = Each-Has (λ (z : Batch). b.number < z.number) back d.0 here.1 d.1 in
      let p : batch_of x ≡ b.number = batch_moves-number c s b x i in
      let q : batch_of y ≡ d.0.number = batch_moves-number c s d.0 y d.2 in
      later-batch x y (omega arith))

  -- if no batch has a move there is no next one
  pub next-none : Each (λ d. batch_moves c s d ≡ []) s.batches → next c s ≡ None
  next-none h = ap least (go s.batches h)
    where
      go : (bs : List Batch) → Each (λ d. batch_moves c s d ≡ []) bs → flat_map (batch_moves c s) bs ≡ []
      go [] k = refl
      go (b ∷ bs) k = ap (λ xs. xs ++ flat_map (batch_moves c s) bs) k.0 ∙ go bs k.1
