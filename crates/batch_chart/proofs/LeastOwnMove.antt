-- The least of a batch's own moves is the first of the least kind.
use Rattle.std.proofs.Common.{◌≡◌, ◌≢◌, ◌⊎◌, inl, inr, ◌<◌, ◌≤◌, ℕ, List, [], ◌∷◌, Bool, true, false, Some, None, nat_eq, nat_lt, cond, arith, refl, sym, ◌∙◌, subst, ap}
use Rattle.std.{specs.Prelude.Option, specs.Prelude.find, specs.Prelude.⊤, specs.Prelude.◌++◌, specs.Prelude.option_to_list, specs.Prelude.slice_get, specs.List.filter_map, specs.List.cons_option, proofs.lemmas.Bool.Decides.nat_tests}
use Rattle.batch_recipe.specs.{declared.need.Need.Need, Tree.Place, Tree.is_before}
use Rattle.batch_model.{specs.Lists.Has, specs.Lists.Each, specs.Placed.Rises, specs.Plant.Setup, specs.Plant.Batch, specs.Plant.Plant, specs.Plant.opening, specs.Rest.Rest, specs.Rest.ready, specs.Rest.asking, specs.Rest.open_act, specs.Rest.live, specs.Rest.freeing, specs.Rest.in_seq, specs.Rest.in_par, specs.Rest.in_loop, specs.Rest.done, specs.Rest.acts, specs.Rest.place_of, specs.Moves.Move, specs.Moves.send, specs.Moves.state, specs.Moves.release, specs.Moves.pass, specs.Moves.begin, specs.Moves.start, specs.Moves.end, specs.Moves.ask, specs.Moves.grant, specs.Moves.batch_of, specs.Moves.kind_of, specs.Moves.place_of_move, specs.Moves.order_of, specs.Moves.is_earlier, specs.Moves.act_move, specs.Moves.state_move, specs.Moves.least, specs.Moves.batch_moves, specs.Moves.when, specs.Moves.is_served, proofs.Members.Has-filter_map, proofs.Members.Each-Has}
use Rattle.batch_step_laws.{specs.Laws.IsFirst, proofs.StateMoves.IsStateMove, proofs.StateMoves.state_move-is, proofs.ActMoves.IsMoveOf, proofs.ActMoves.act_move-is, proofs.MoveOrder.least-IsFirst, proofs.MoveOrder.least-IsLeast, proofs.MoveOrder.before-asym}
use Rattle.batch_chart.{specs.OwnMoves.own_move, specs.OwnMoves.own_moves, specs.OwnMoves.own_next, specs.OwnMoves.grant_move, specs.OwnMoves.grants, specs.OwnMoves.is_kind, proofs.MoveKinds.kind_in, proofs.FirstMoves.no-state, proofs.FirstMoves.no-grant}

abbrev nothing_cleared : Setup
nothing_cleared = record { units = []; resources = []; capacity = λ r. 0; offers = λ u p. false; recipes = []; batch_limit = 0 }

own-act : (b : Batch) (a : Rest) (m : Move) → own_move b a ≡ Some m → act_move nothing_cleared opening b a ≡ Some m
own-act b (ready p w k) m e = e
own-act b (open_act p r) m e = e
own-act b (live p x t) m e = e
own-act b (freeing p k) m e = e
own-act x1 x2 x3 x4 = absurd (grind arith)

pub own-is : (b : Batch) (a : Rest) (m : Move) → own_move b a ≡ Some m → IsMoveOf b a m
own-is b a m e = act_move-is b nothing_cleared opening a m (own-act b a m e)

-- moves whose places rise
abbrev Rising : List Move → Type 0
Rising [] = ⊤
Rising (m ∷ ms) = Each (λ l. is_before (place_of_move m) (place_of_move l) ≡ true) ms × Rising ms

each-later : (b : Batch) (p : Place) (as' : List Rest) → Each (λ a. is_before p (place_of a) ≡ true) as' → Each (λ l. is_before p (place_of_move l) ≡ true) (filter_map (own_move b) as')
each-later b p [] h = tt
each-later b p (a ∷ as') h = go (own_move b a) refl (each-later b p as' h.1)
  where
    go : (o : Option Move) → own_move b a ≡ o → Each (λ l. is_before p (place_of_move l) ≡ true) (filter_map (own_move b) as') → Each (λ l. is_before p (place_of_move l) ≡ true) (cons_option o (filter_map (own_move b) as'))
    go None e more = more
    go (Some m) e more = (ap (is_before p) (own-is b a m e).place ∙ h.0, more)

rising-moves : (b : Batch) (as' : List Rest) → Rises as' → Rising (filter_map (own_move b) as')
rising-moves b [] h = tt
rising-moves b (a ∷ as') h = go (own_move b a) refl (rising-moves b as' h.1)
  where
    go : (o : Option Move) → own_move b a ≡ o → Rising (filter_map (own_move b) as') → Rising (cons_option o (filter_map (own_move b) as'))
    go None e more = more
    go (Some m) e more = (subst (λ q. Each (λ l. is_before q (place_of_move l) ≡ true) (filter_map (own_move b) as')) (sym (own-is b a m e).place) (each-later b (place_of a) as' h.0), more)

find-some : (p : Move → Bool) (ms : List Move) (m : Move) → find p ms ≡ Some m → Rising ms → Has ms m × (p m ≡ true) × ((l : Move) → Has ms l → p l ≡ true → (l ≡ m) ⊎ (is_before (place_of_move m) (place_of_move l) ≡ true))
find-some p [] m e h = absurd (cc)
find-some p (x ∷ ms) m e h = go (p x) refl e (λ i. find-some p ms m i h.1)
  where
    go : (t : Bool) → p x ≡ t → cond t (Some x) (find p ms) ≡ Some m
        → (find p ms ≡ Some m → Has ms m × (p m ≡ true) × ((l : Move) → Has ms l → p l ≡ true → (l ≡ m) ⊎ (is_before (place_of_move m) (place_of_move l) ≡ true)))
        → Has (x ∷ ms) m × (p m ≡ true) × ((l : Move) → Has (x ∷ ms) l → p l ≡ true → (l ≡ m) ⊎ (is_before (place_of_move m) (place_of_move l) ≡ true))
    go true f g later =
        let same : x ≡ m = cc in (
          inl same,
          ap p (sym same) ∙ f,
          λ l i q. elim i [
            | inl s ↦ inl (sym s ∙ same)
            | inr s ↦ inr (subst (λ z. is_before (place_of_move z) (place_of_move l) ≡ true) same (Each-Has (λ l. is_before (place_of_move x) (place_of_move l) ≡ true) ms l h.0 s))
          ],
        )
    go false f g later =
        let r = later g in (
          inr r.0,
          r.1,
          λ l i q. elim i [
            | inl s ↦ absurd (let d : true ≡ false = sym q ∙ ap p (sym s) ∙ f in cc)
            | inr s ↦ r.2 l s q
          ],
        )

find-none : (p : Move → Bool) (ms : List Move) → find p ms ≡ None → (l : Move) → Has ms l → p l ≡ false
find-none p [] e l h = absurd h
find-none p (x ∷ ms) e l h = go (p x) refl e h (λ i j. find-none p ms i l j)
  where
    go : (t : Bool) → p x ≡ t → cond t (Some x) (find p ms) ≡ None → Has (x ∷ ms) l → (find p ms ≡ None → Has ms l → p l ≡ false) → p l ≡ false
    go true f g i later = absurd (cc)
    go false f g (inl s) later = ap p (sym s) ∙ f
    go false f g (inr s) later = later g s

-- Order

kind-head : (i j m n : ℕ) (t : Bool) → i ≡ j → m < n → elim (nat_eq i j) as (λ _. Bool) [ true ↦ elim (nat_eq m n) as (λ _. Bool) [ true ↦ t | false ↦ nat_lt m n ] | false ↦ nat_lt i j ] ≡ true
kind-head i j m n t e h = grind arith

place-head : (i j m n : ℕ) (t : Bool) → i ≡ j → m ≡ n → t ≡ true → elim (nat_eq i j) as (λ _. Bool) [ true ↦ elim (nat_eq m n) as (λ _. Bool) [ true ↦ t | false ↦ nat_lt m n ] | false ↦ nat_lt i j ] ≡ true
place-head i j m n t e f h = grind arith

earlier-kind : (m l : Move) → batch_of m ≡ batch_of l → kind_of m < kind_of l → is_earlier m l ≡ true
earlier-kind m l e h = kind-head (batch_of m) (batch_of l) (kind_of m) (kind_of l) (is_before (place_of_move m) (place_of_move l)) e h

earlier-place : (m l : Move) → batch_of m ≡ batch_of l → kind_of m ≡ kind_of l → is_before (place_of_move m) (place_of_move l) ≡ true → is_earlier m l ≡ true
earlier-place m l e f h = place-head (batch_of m) (batch_of l) (kind_of m) (kind_of l) (is_before (place_of_move m) (place_of_move l)) e f h

is-kind : (n k : ℕ) → nat_eq k n ≡ true → k ≡ n
is-kind n k e = grind (arith, nat_tests)

not-kind : (n k : ℕ) → nat_eq k n ≡ false → k ≢ n
not-kind n k e = grind (arith, nat_tests)

kind-range : (m : Move) → (1 ≤ kind_of m) × (kind_of m ≤ 6)
kind-range (send n p x c) = (omega arith, omega arith)
kind-range (state n x) = (omega arith, omega arith)
kind-range (release n p r) = (omega arith, omega arith)
kind-range (pass n p q r) = (omega arith, omega arith)
kind-range (begin n p a) = (omega arith, omega arith)
kind-range (start n p x vs) = (omega arith, omega arith)
kind-range (end n p) = (omega arith, omega arith)
kind-range (ask n p r) = (omega arith, omega arith)
kind-range (grant n p r) = (omega arith, omega arith)

module _ (b : Batch) (rises : Rises (acts b.rest)) where
  rising : Rising (filter_map (own_move b) (acts b.rest))
  rising = rising-moves b (acts b.rest) rises

  abbrev Kinds : ℕ → Type 0
  Kinds n = (l : Move) → Has (filter_map (own_move b) (acts b.rest)) l → is_kind n l ≡ false

  -- the properties of an own move
  of-own : (l : Move) → Has (filter_map (own_move b) (acts b.rest)) l → (batch_of l ≡ b.number) × (kind_of l ≢ 2) × (kind_of l ≢ 6)
  of-own l h =
      let d = Has-filter_map (own_move b) (acts b.rest) l h in (
        (own-is b d.0 l d.2).number,
        not-kind 2 (kind_of l) (ap (kind_in 2) (sym d.2) ∙ no-state b d.0),
        not-kind 6 (kind_of l) (ap (kind_in 6) (sym d.2) ∙ no-grant b d.0),
      )

  of-state : (m : Move) → state_move b ≡ Some m → (batch_of m ≡ b.number) × (kind_of m ≡ 2)
  of-state m e = let t : IsStateMove b.number b.state b.rest m = state_move-is b m e in (ap batch_of t.1, ap kind_of t.1)

  -- a move of kind n, where no earlier kind is there
  first-own : (n : ℕ) (m : Move) → find (is_kind n) (filter_map (own_move b) (acts b.rest)) ≡ Some m → ((l : Move) → Has (filter_map (own_move b) (acts b.rest)) l → n ≤ kind_of l)
      → IsFirst (filter_map (own_move b) (acts b.rest)) m
  first-own n m e low =
      let f = find-some (is_kind n) (filter_map (own_move b) (acts b.rest)) m e rising in
      (f.0, λ l h. go f l h (is_kind n l) refl)
    where
      go : (f : Has (filter_map (own_move b) (acts b.rest)) m × (is_kind n m ≡ true) × ((l : Move) → Has (filter_map (own_move b) (acts b.rest)) l → is_kind n l ≡ true → (l ≡ m) ⊎ (is_before (place_of_move m) (place_of_move l) ≡ true)))
          → (l : Move) → Has (filter_map (own_move b) (acts b.rest)) l → (t : Bool) → is_kind n l ≡ t → (l ≡ m) ⊎ (is_earlier m l ≡ true)
      go f l h true q =
          let same : batch_of m ≡ batch_of l = (of-own m f.0).0 ∙ sym (of-own l h).0 in
          let kinds : kind_of m ≡ kind_of l = is-kind n (kind_of m) f.1 ∙ sym (is-kind n (kind_of l) q) in
          elim (f.2 l h q) [ inl s ↦ inl s | inr s ↦ inr (earlier-place m l same kinds s) ]
      go f l h false q =
          let same : batch_of m ≡ batch_of l = (of-own m f.0).0 ∙ sym (of-own l h).0 in
          let own : kind_of m ≡ n = is-kind n (kind_of m) f.1 in
          let other : kind_of l ≢ n = not-kind n (kind_of l) q in
          let least : n ≤ kind_of l = low l h in
          inr (earlier-kind m l same (omega arith))

  with-state : (o : Option Move) → state_move b ≡ o → own_moves b ≡ option_to_list o ++ filter_map (own_move b) (acts b.rest)
  with-state o e = ap (λ z. option_to_list z ++ filter_map (own_move b) (acts b.rest)) e

  -- kind 1
  pub least-send : (m : Move) → find (is_kind 1) (filter_map (own_move b) (acts b.rest)) ≡ Some m → own_next b ≡ Some m
  least-send m e = go (state_move b) refl
    where
      first : IsFirst (filter_map (own_move b) (acts b.rest)) m
      first = first-own 1 m e (λ l h. (kind-range l).0)

      one : kind_of m ≡ 1
      one = is-kind 1 (kind_of m) (find-some (is_kind 1) (filter_map (own_move b) (acts b.rest)) m e rising).1

      go : (o : Option Move) → state_move b ≡ o → own_next b ≡ Some m
      go None q = ap least (with-state None q) ∙ least-IsFirst (filter_map (own_move b) (acts b.rest)) m first
      go (Some s) q =
          ap least (with-state (Some s) q)
          ∙ least-IsFirst (s ∷ filter_map (own_move b) (acts b.rest)) m (
            inr first.0,
            λ l h. elim h [
              | inl z ↦ inr (subst (λ l. is_earlier m l ≡ true) z (earlier-kind m s ((of-own m first.0).0 ∙ sym (of-state s q).0) (let k = (of-state s q).1 in omega (arith, one))))
              | inr z ↦ first.1 l z
            ],
          )

  -- kind 2
  pub least-state : (m : Move) → Kinds 1 → state_move b ≡ Some m → own_next b ≡ Some m
  least-state m none e =
      ap least (with-state (Some m) e)
      ∙ least-IsFirst (m ∷ filter_map (own_move b) (acts b.rest)) m (
        inl refl,
        λ l h. elim h [
          | inl z ↦ inl (sym z)
          | inr z ↦
              let g = of-own l z in
              let k = (of-state m e).1 in
              let r = kind-range l in
              let one : kind_of l ≢ 1 = not-kind 1 (kind_of l) (none l z) in
              inr (earlier-kind m l ((of-state m e).0 ∙ sym g.0) (omega (arith, g.1, r.0)))
        ],
      )

  pub least-later : (n : ℕ) (m : Move) → state_move b ≡ None → find (is_kind n) (filter_map (own_move b) (acts b.rest)) ≡ Some m → ((l : Move) → Has (filter_map (own_move b) (acts b.rest)) l → n ≤ kind_of l) → own_next b ≡ Some m
  least-later n m s e low = ap least (with-state None s) ∙ least-IsFirst (filter_map (own_move b) (acts b.rest)) m (first-own n m e low)

  pub none-of : (n : ℕ) → find (is_kind n) (filter_map (own_move b) (acts b.rest)) ≡ None → Kinds n
  none-of n e l h = find-none (is_kind n) (filter_map (own_move b) (acts b.rest)) e l h

  pub low-3 : Kinds 1 → (l : Move) → Has (filter_map (own_move b) (acts b.rest)) l → 3 ≤ kind_of l
  low-3 k1 l h =
      let g = of-own l h in let r = kind-range l in
      let n1 : kind_of l ≢ 1 = not-kind 1 (kind_of l) (k1 l h) in omega (arith, g.1, r.0)

  pub low-4 : Kinds 1 → Kinds 3 → (l : Move) → Has (filter_map (own_move b) (acts b.rest)) l → 4 ≤ kind_of l
  low-4 k1 k3 l h = let g = low-3 k1 l h in let n3 : kind_of l ≢ 3 = not-kind 3 (kind_of l) (k3 l h) in omega arith

  pub low-5 : Kinds 1 → Kinds 3 → Kinds 4 → (l : Move) → Has (filter_map (own_move b) (acts b.rest)) l → 5 ≤ kind_of l
  low-5 k1 k3 k4 l h = let g = low-4 k1 k3 l h in let n4 : kind_of l ≢ 4 = not-kind 4 (kind_of l) (k4 l h) in omega arith

  -- nothing at all
  pub least-none : state_move b ≡ None → Kinds 1 → Kinds 3 → Kinds 4 → Kinds 5 → own_next b ≡ None
  least-none s k1 k3 k4 k5 = ap least (with-state None s ∙ empty (filter_map (own_move b) (acts b.rest)) never)
    where
      never : (l : Move) → Has (filter_map (own_move b) (acts b.rest)) l → ⊥
      never l h =
          let g = low-5 k1 k3 k4 l h in
          let n5 : kind_of l ≢ 5 = not-kind 5 (kind_of l) (k5 l h) in
          let n6 = (of-own l h).2 in
          let r = kind-range l in absurd (omega (arith, r.1))

      empty : (ms : List Move) → ((l : Move) → Has ms l → ⊥) → ms ≡ []
      empty [] h = refl
      empty (x ∷ ms) h = absurd (h x (inl refl))

-- A batch's own moves come before its grants

abbrev chosen_of : Option Move → Option Move → Option Move
chosen_of (Some m) o = Some m
chosen_of None o = o

own-step : (m : Move) (ls os gs : List Move) → ((g : Move) → Has gs g → is_earlier g m ≡ false) → least ls ≡ chosen_of (least os) (least gs) → least (m ∷ ls) ≡ chosen_of (least (m ∷ os)) (least gs)
own-step m ls os gs later e =
    ap (λ o. elim o as (λ _. Option Move) [ None ↦ Some m | Some l ↦ elim (is_earlier l m) as (λ _. Option Move) [ true ↦ Some l | false ↦ Some m ] ]) e ∙ go (least os) (least gs) refl
  where
    two : (b : Bool) (o : Move) (y : Option Move) → elim b as (λ _. Option Move) [ true ↦ Some o | false ↦ Some m ] ≡ chosen_of (elim b as (λ _. Option Move) [ true ↦ Some o | false ↦ Some m ]) y
    two true o y = refl
    two false o y = refl

    go : (o y : Option Move) → least gs ≡ y → elim (chosen_of o y) as (λ _. Option Move) [ None ↦ Some m | Some l ↦ elim (is_earlier l m) as (λ _. Option Move) [ true ↦ Some l | false ↦ Some m ] ]
        ≡ chosen_of (elim o as (λ _. Option Move) [ None ↦ Some m | Some l ↦ elim (is_earlier l m) as (λ _. Option Move) [ true ↦ Some l | false ↦ Some m ] ]) y
    go (Some o) y q = two (is_earlier o m) o y
    go None None q = refl
    go None (Some g) q = ap (λ b. elim b as (λ _. Option Move) [ true ↦ Some g | false ↦ Some m ]) (later g (least-IsLeast gs g q).0)

grant-step : (g : Move) (ls os gs : List Move) → ((o : Move) → Has os o → is_earlier o g ≡ true) → least ls ≡ chosen_of (least os) (least gs) → least (g ∷ ls) ≡ chosen_of (least os) (least (g ∷ gs))
grant-step g ls os gs first e =
    ap (λ o. elim o as (λ _. Option Move) [ None ↦ Some g | Some l ↦ elim (is_earlier l g) as (λ _. Option Move) [ true ↦ Some l | false ↦ Some g ] ]) e ∙ go (least os) refl
  where
    go : (o : Option Move) → least os ≡ o → elim (chosen_of o (least gs)) as (λ _. Option Move) [ None ↦ Some g | Some l ↦ elim (is_earlier l g) as (λ _. Option Move) [ true ↦ Some l | false ↦ Some g ] ]
        ≡ chosen_of o (elim (least gs) as (λ _. Option Move) [ None ↦ Some g | Some l ↦ elim (is_earlier l g) as (λ _. Option Move) [ true ↦ Some l | false ↦ Some g ] ])
    go None q = refl
    go (Some o) q = ap (λ b. elim b as (λ _. Option Move) [ true ↦ Some o | false ↦ Some g ]) (first o (least-IsLeast os o q).0)

module _ (c : Setup) (s : Plant) (b : Batch) where
  grant-is : (a : Rest) (g : Move) → grant_move c s b a ≡ Some g → (batch_of g ≡ b.number) × (kind_of g ≡ 6)
  grant-is (asking p w k) g e = read (slice_get p.needs k) e
    where
      served : (t : Bool) (r : Need) → when t (grant b.number p.place r) ≡ Some g → (batch_of g ≡ b.number) × (kind_of g ≡ 6)
      served true r e = (let q : grant b.number p.place r ≡ g = cc in (ap batch_of (sym q), ap kind_of (sym q)))
      served false r e = absurd (cc)

      read : (o : Option Need) → elim o as (λ _. Option Move) [ None ↦ None | Some r ↦ when (is_served c s r (b.number, p.place)) (grant b.number p.place r) ] ≡ Some g → (batch_of g ≡ b.number) × (kind_of g ≡ 6)
      read None e = absurd (cc)
      read (Some r) e = served (is_served c s r (b.number, p.place)) r e
  grant-is (ready p w k) g e = absurd (cc)
  grant-is (open_act p r) g e = absurd (cc)
  grant-is (live p x t) g e = absurd (cc)
  grant-is (freeing p k) g e = absurd (cc)
  grant-is (in_seq r cs) g e = absurd (cc)
  grant-is (in_par rs) g e = absurd (cc)
  grant-is (in_loop n x t r) g e = absurd (cc)
  grant-is done g e = absurd (cc)

  own-kind : (a : Rest) (m : Move) → own_move b a ≡ Some m → (batch_of m ≡ b.number) × (kind_of m < 6)
  own-kind a m e =
      let n : kind_of m ≢ 6 = not-kind 6 (kind_of m) (ap (kind_in 6) (sym e) ∙ no-grant b a) in
      let r = kind-range m in
      ((own-is b a m e).number, omega (arith, r.1))

  own-before : (m g : Move) → (batch_of m ≡ b.number) × (kind_of m < 6) → (batch_of g ≡ b.number) × (kind_of g ≡ 6) → is_earlier m g ≡ true
  own-before m g h k = earlier-kind m g (h.0 ∙ sym k.0) (omega (arith, h.1, k.1))

  own-after : (m g : Move) → (batch_of m ≡ b.number) × (kind_of m < 6) → (batch_of g ≡ b.number) × (kind_of g ≡ 6) → is_earlier g m ≡ false
  own-after m g h k = before-asym (order_of m) (order_of g) (own-before m g h k)

  AllGrants : (as' : List Rest) (g : Move) → Has (filter_map (grant_move c s b) as') g → (batch_of g ≡ b.number) × (kind_of g ≡ 6)
  AllGrants as' g h = (let d = Has-filter_map (grant_move c s b) as' g h in grant-is d.0 g d.2)

  AllOwn : (as' : List Rest) (m : Move) → Has (filter_map (own_move b) as') m → (batch_of m ≡ b.number) × (kind_of m < 6)
  AllOwn as' m h = (let d = Has-filter_map (own_move b) as' m h in own-kind d.0 m d.2)

  abbrev Merges : List Rest → Type 0
  Merges as' = least (filter_map (act_move c s b) as') ≡ chosen_of (least (filter_map (own_move b) as')) (least (filter_map (grant_move c s b) as'))

  owns : (a : Rest) (as' : List Rest) → act_move c s b a ≡ own_move b a → grant_move c s b a ≡ None → Merges as' → Merges (a ∷ as')
  owns a as' e f rec =
      ap (λ o. least (cons_option o (filter_map (act_move c s b) as'))) e ∙ go (own_move b a) refl
      ∙ sym (ap (λ o. chosen_of (least (cons_option (own_move b a) (filter_map (own_move b) as'))) (least (cons_option o (filter_map (grant_move c s b) as')))) f)
    where
      go : (o : Option Move) → own_move b a ≡ o → least (cons_option o (filter_map (act_move c s b) as')) ≡ chosen_of (least (cons_option o (filter_map (own_move b) as'))) (least (filter_map (grant_move c s b) as'))
      go None q = rec
      go (Some m) q = own-step m (filter_map (act_move c s b) as') (filter_map (own_move b) as') (filter_map (grant_move c s b) as') (λ g h. own-after m g (own-kind a m q) (AllGrants as' g h)) rec

  grants-too : (a : Rest) (as' : List Rest) → act_move c s b a ≡ grant_move c s b a → own_move b a ≡ None → Merges as' → Merges (a ∷ as')
  grants-too a as' e f rec =
      ap (λ o. least (cons_option o (filter_map (act_move c s b) as'))) e ∙ go (grant_move c s b a) refl
      ∙ sym (ap (λ o. chosen_of (least (cons_option o (filter_map (own_move b) as'))) (least (cons_option (grant_move c s b a) (filter_map (grant_move c s b) as')))) f)
    where
      go : (o : Option Move) → grant_move c s b a ≡ o → least (cons_option o (filter_map (act_move c s b) as')) ≡ chosen_of (least (filter_map (own_move b) as')) (least (cons_option o (filter_map (grant_move c s b) as')))
      go None q = rec
      go (Some g) q = grant-step g (filter_map (act_move c s b) as') (filter_map (own_move b) as') (filter_map (grant_move c s b) as') (λ m h. own-before m g (AllOwn as' m h) (grant-is a g q)) rec

  merges : (as' : List Rest) → Merges as'
  merges [] = refl
  merges (ready p w k ∷ as') = owns (ready p w k) as' refl refl (merges as')
  merges (asking p w k ∷ as') = grants-too (asking p w k) as' refl refl (merges as')
  merges (open_act p r ∷ as') = owns (open_act p r) as' refl refl (merges as')
  merges (live p x t ∷ as') = owns (live p x t) as' refl refl (merges as')
  merges (freeing p k ∷ as') = owns (freeing p k) as' refl refl (merges as')
  merges (in_seq r cs ∷ as') = owns (in_seq r cs) as' refl refl (merges as')
  merges (in_par rs ∷ as') = owns (in_par rs) as' refl refl (merges as')
  merges (in_loop n x t r ∷ as') = owns (in_loop n x t r) as' refl refl (merges as')
  merges (done ∷ as') = owns done as' refl refl (merges as')

  pub own-first : least (batch_moves c s b) ≡ chosen_of (own_next b) (least (grants c s b))
  own-first = go (state_move b) refl
    where
      go : (o : Option Move) → state_move b ≡ o
          → least (option_to_list o ++ filter_map (act_move c s b) (acts b.rest))
          ≡ chosen_of (least (option_to_list o ++ filter_map (own_move b) (acts b.rest))) (least (grants c s b))
      go None q = merges (acts b.rest)
      go (Some m) q =
          let k = state_move-is b m q in
          own-step m (filter_map (act_move c s b) (acts b.rest)) (filter_map (own_move b) (acts b.rest)) (grants c s b)
          (λ g h. own-after m g (ap batch_of k.1, (let e : kind_of m ≡ 2 = ap kind_of k.1 in omega (arith, e))) (AllGrants (acts b.rest) g h)) (merges (acts b.rest))

pub own-first-elim : (c : Setup) (s : Plant) (b : Batch) → least (batch_moves c s b) ≡ elim (own_next b) as (λ _. Option Move) [ Some m ↦ Some m | None ↦ least (grants c s b) ]
own-first-elim c s b = own-first c s b ∙ go (own_next b) (least (grants c s b))
  where
    go : (o y : Option Move) → chosen_of o y ≡ elim o as (λ _. Option Move) [ Some m ↦ Some m | None ↦ y ]
    go None y = refl
    go (Some m) y = refl
