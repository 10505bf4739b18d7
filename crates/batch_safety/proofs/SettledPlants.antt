-- Where no move is possible: too little is free for the oldest ask, and chains are short.
use Rattle.std.proofs.Common.{◌≡◌, refl, sym, ap, ap₂, subst, ℕ, suc, ◌+◌, nat_le, option_to_list, ◌++◌, ◌≤◌, ◌<◌, arith, List, [], ◌∷◌, Bool, true, false, not, ◌&&◌, filter, filter_map, slice_get, Option, Some, None, inl, inr, length, bytes_eq}
use Rattle.batch_model.specs.{Lists.Has, Rest.Rest, Rest.asking, Rest.acts, Plant.Setup, Plant.Batch, Plant.BatchAct, Plant.Share, Plant.units_in, Plant.acts_in, Plant.Plant, Plant.is_same_act, Plant.holders, Moves.Move, Moves.grant, Moves.act_move, Moves.state_move, Moves.batch_moves, Moves.possible, Moves.next, Moves.is_served, Moves.when, Runs.Out, Records.holders_told, Records.scene_of, Records.Link, Records.IsLink, Records.IsChain, Records.StandsUnder, Cleared.Ranking, Standing.IsStanding}
use Rattle.batch_recipe.specs.{Conditions.Name, Tree.Step, Tree.Task, declared.need.Need.Need}
use Rattle.batch_step_laws.proofs.{MoveOrder.none_least, HoldersInAdvance.filter_map-Has, HoldersInAdvance.flat_map-Has}
use Rattle.batch_record_laws.proofs.{PlantFacts.need, Members.Has-map, Members.map-Has, Entries.act_self, Entries.name_self, Entries.name_same, Entries.filter-Has, Entries.length-filter_lt, Batches.holders-entries, Invariant.IsKept, Batches.awaiting-of, FactsOfAsks.awaiting-act}
use Rattle.batch_safety.proofs.Safety.{holder-rises}

-- No move

-- no act of a settled plant has a move
pub no_act_move : (d : Setup) (s : Plant) → next d s ≡ None → (b : Batch) → Has s.batches b → (a : Rest) → Has (acts b.rest) a → (m : Move) → act_move d s b a ≡ Some m → ⊥
no_act_move d s e b i a j m f =
    let here : Has (filter_map (act_move d s b) (acts b.rest)) m = filter_map-Has (act_move d s b) (acts b.rest) a m j f in
    subst (λ ms. Has ms m) (none_least (possible d s) e) (flat_map-Has (batch_moves d s) s.batches b m i (go (state_move b) here))
  where
    go : (o : Option Move) → Has (filter_map (act_move d s b) (acts b.rest)) m
        → Has (option_to_list o ++ filter_map (act_move d s b) (acts b.rest)) m
    go None h = h
    go (Some l) h = inr h

below : (m n : ℕ) → nat_le m n ≡ false → n < m
below m n e = grind arith

and-head : (t v : Bool) → v ≡ true → (t && v) ≡ false → t ≡ false
and-head t v e f = grind arith

abbrev first : List Share → BatchAct → Bool
first line a = elim line [ [] ↦ false | x ∷ xs ↦ is_same_act x.act a ]

-- an act that asks and isn't granted isn't served
unserved : (d : Setup) (s : Plant) (b : Batch) (p : Step) (w : Task) (n : ℕ) (q : Need) → slice_get p.needs n ≡ Some q → ((m : Move) → act_move d s b (asking p w n) ≡ Some m → ⊥)
    → is_served d s q (b.number, p.place) ≡ false
unserved d s b p w n q e no_move = go (slice_get p.needs n) e no_move
  where
    same_need : (x y : Need) → ◌≡◌ {A = Option Need} (Some x) (Some y) → x ≡ y
    same_need x y g = cc

    serve : (t : Bool) → ((m : Move) → when t (grant b.number p.place q) ≡ Some m → ⊥) → t ≡ false
    serve true f = absurd (f (grant b.number p.place q) refl)
    serve false f = refl

    go : (o : Option Need) → o ≡ Some q
        → ((m : Move) → ◌≡◌ {A = Option Move} (elim o [ None ↦ None | Some r ↦ when (is_served d s r (b.number, p.place)) (grant b.number p.place r) ]) (Some m) → ⊥)
        → is_served d s q (b.number, p.place) ≡ false
    go None f h = absurd cc
    go (Some r) f h = serve (is_served d s q (b.number, p.place)) (λ m g. h m (subst (λ z. when (is_served d s z (b.number, p.place)) (grant b.number p.place z) ≡ Some m) (sym (same_need r q f)) g))

module _ (d : Setup) (rank : Ranking) (outs : List Out) (s : Plant) (sd : IsStanding d s) (k : IsKept d rank outs s) where
  -- for the first in a line of a settled plant too little is free
  first-unserved : next d s ≡ None → (q : Name) (a : Share) (more : List Share) → s.line q ≡ a ∷ more → d.capacity q < units_in (holders s q) + a.units
  first-unserved e q a more f =
      let b = awaiting-of s.batches a.act (need q a.units) (k.asked q a (subst (λ z. Has z a) (sym f) (inl refl))) in
      let w = awaiting-act b.0.rest a.act.1 (need q a.units) b.3 in
      let here : (b.0.number, w.0.place) ≡ a.act = ap₂ (λ i j. let z : BatchAct = (i, j) in z) b.2 w.4 in
      below (units_in (holders s q) + a.units) (d.capacity q)
      (and-head (nat_le (units_in (holders s q) + a.units) (d.capacity q)) (first (s.line q) (b.0.number, w.0.place))
      (subst (λ z. first z (b.0.number, w.0.place) ≡ true) (sym f) (subst (λ z. is_same_act a.act z ≡ true) (sym here) (act_self a.act)))
      (unserved d s b.0 w.0 w.1 w.2 (need q a.units) w.5 (no_act_move d s e b.0 b.1 (asking w.0 w.1 w.2) w.3)))

  some-share : (xs : List Share) → 0 < units_in xs → (h : Share) × Has xs h
  some-share [] l = absurd (omega (arith, l))
  some-share (x ∷ xs) l = (x, inl refl)

  -- a resource asked for in a settled plant has less free than the oldest ask wants; if that is within the capacity, somebody holds it
  pub held-by_others : next d s ≡ None → (q : Name) (a : Share) (more : List Share) → s.line q ≡ a ∷ more → a.units ≤ d.capacity q
      → (d.capacity q < units_in (holders s q) + a.units) × ((h : Share) × Has (holders s q) h)
  held-by_others e q a more f fits =
      let short : d.capacity q < units_in (holders s q) + a.units = first-unserved e q a more f in
      (short, some-share (holders s q) (omega (arith, short, fits)))

  points-on : (l m : Link) → IsLink (scene_of s) l → IsLink (scene_of s) m → StandsUnder l.holder m.waiting → suc (rank l.waiting.resource) < suc (rank m.waiting.resource)
  points-on l m h g u =
      let y = Has-map (λ z. z.act) (holders s l.waiting.resource) l.holder h.1 in
      holder-rises d rank outs s sd k l.waiting m.waiting
      (subst (λ z. Has (acts_in z) m.waiting.act) (sym (k.lines m.waiting.resource)) g.0) (
        l.holder.1,
        subst (λ z. Has (acts_in (holders_told outs l.waiting.resource)) (z, l.holder.1)) (sym u.0)
            (subst (Has (acts_in (holders_told outs l.waiting.resource))) y.2
            (map-Has (λ z. z.act) (holders_told outs l.waiting.resource) y.0
            ((k.held l.waiting.resource).2 y.0 (subst (λ z. Has z y.0) (holders-entries s l.waiting.resource) y.1)))),
        u.1,
      )

  first-link : (l : Link) (ls : List Link) → IsChain (scene_of s) (l ∷ ls) → IsLink (scene_of s) l
  first-link l [] h = h
  first-link l (m ∷ ls) h = h.0

  -- every later resource of a chain has a higher rank
  chain-rises : (l : Link) (ls : List Link) → IsChain (scene_of s) (l ∷ ls) → (m : Link) → Has ls m → rank l.waiting.resource < rank m.waiting.resource
  chain-rises l [] h m i = absurd i
  chain-rises l (n ∷ ls) h m (inl e) = grind (arith, points-on l n h.0 (first-link n ls h.2) h.1)
  chain-rises l (n ∷ ls) h m (inr i) = grind (arith, chain-rises n ls h.2 m i, points-on l n h.0 (first-link n ls h.2) h.1)

  rest-chain : (l : Link) (ls : List Link) → IsChain (scene_of s) (l ∷ ls) → IsChain (scene_of s) ls
  rest-chain l [] h = tt
  rest-chain l (m ∷ ls) h = h.2

  -- so a chain has no more waiting steps than there are resources
  pub short-chain : (ls : List Link) (resources : List Name) → IsChain (scene_of s) ls → ((l : Link) → Has ls l → Has resources l.waiting.resource) → length ls ≤ length resources
  short-chain [] resources h f = omega arith
  short-chain (l ∷ ls) resources h f =
      let others : List Name = filter (λ r. not (bytes_eq r l.waiting.resource)) resources in
      let fewer : length others < length resources
      = length-filter_lt (λ r. not (bytes_eq r l.waiting.resource)) resources l.waiting.resource (f l (inl refl)) (ap not (name_self l.waiting.resource)) in
      let less : length ls ≤ length others
      = short-chain ls others (rest-chain l ls h)
      (λ m i. filter-Has (λ r. not (bytes_eq r l.waiting.resource)) resources m.waiting.resource (f m (inr i))
      (ap not (differs m.waiting.resource l.waiting.resource (λ e.
      (let r : rank l.waiting.resource < rank m.waiting.resource = chain-rises l ls h m i in
      let t : rank m.waiting.resource ≡ rank l.waiting.resource = ap rank e in absurd (omega arith)))))) in
      omega arith
    where
      differs : (x y : Name) → (x ≡ y → ⊥) → bytes_eq x y ≡ false
      differs x y no_e = go (bytes_eq x y) refl
        where
          go : (t : Bool) → bytes_eq x y ≡ t → t ≡ false
          go true e = absurd (no_e (name_same x y e))
          go false e = refl
