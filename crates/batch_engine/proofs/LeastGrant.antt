-- The least grant of a batch is that of the first act in line that the arbiter would serve.
use Rattle.std.proofs.Common.{◌≡◌, ◌<◌, refl, sym, ◌∙◌, ap, ap₂, subst, subst₂, ℕ, [], ◌∷◌, Bool, true, false, Option, Some, None, inl, inr, arith, length, nat_eq}
use Rattle.std.{specs.Prelude.slice_get, specs.Prelude.◌⊎◌, proofs.lemmas.Bool.cases_eq, proofs.lemmas.Option.slice_get-get_or}
use Rattle.batch_recipe.specs.{declared.need.Need.Need, Tree.Place, Tree.Step, Tree.Task, Tree.Tree, Tree.is_before}
use Rattle.batch_model.{specs.Lists.Has, specs.Rest.Rest, specs.Rest.ready, specs.Rest.asking, specs.Rest.open_act, specs.Rest.live, specs.Rest.freeing, specs.Rest.in_seq, specs.Rest.in_par, specs.Rest.in_loop, specs.Rest.done, specs.Rest.acts, specs.Plant.Setup, specs.Plant.Plant, specs.Moves.Move, specs.Moves.grant, specs.Moves.is_earlier, specs.Moves.least, specs.Moves.is_served, specs.Moves.when, specs.Placed.IsPlaced, specs.Standing.IsRestOf, proofs.Members.Has-filter_map}
use Rattle.batch_model.specs.Plant as Model
use Rattle.batch_step_laws.proofs.{MoveOrder.least-IsFirst, WorkAfterMove.one_act, ActOrder.acts-rise, HoldersInAdvance.filter_map-Has}
use Rattle.batch_chart.{specs.NodesOf.no_need, specs.NodesOf.place_at, specs.NodesOf.step_at, specs.NodesOf.task_at, specs.NodesOf.need_at, specs.OwnMoves.grant_move, specs.OwnMoves.grants, specs.Charts.AsksAt, proofs.ActsAtNodes.asking-at, proofs.ActsAtNodes.numbers-rise}
use Rattle.batch_engine.proofs.{Nodes.either, MovesAcrossPlants.no-elements}

-- the act in line that makes a grant
pub record Granted (c : Setup) (s : Plant) (b : Model.Batch) (m : Move) : Type 0 where
  pub step : Step
  pub task : Task
  pub held : ℕ
  pub need : Need
  pub has : Has (acts b.rest) (asking step task held)
  pub at : slice_get step.needs held ≡ Some need
  pub served : is_served c s need (b.number, step.place) ≡ true
  pub is : m ≡ grant b.number step.place need

granted-by : (c : Setup) (s : Plant) (b : Model.Batch) (m : Move) (a : Rest) → Has (acts b.rest) a → grant_move c s b a ≡ Some m → Granted c s b m
granted-by c s b m (asking p w k) h e = go (slice_get p.needs k) refl e
  where
    served : (r : Need) → slice_get p.needs k ≡ Some r → (t : Bool) → is_served c s r (b.number, p.place) ≡ t → when t (grant b.number p.place r) ≡ Some m → Granted c s b m
    served r f true q i = record { step = p; task = w; held = k; need = r; has = h; at = f; served = q; is = cc }
    served r f false q i = absurd cc

    go : (o : Option Need) → slice_get p.needs k ≡ o → ◌≡◌ {A = Option Move} (elim o [ None ↦ None | Some r ↦ when (is_served c s r (b.number, p.place)) (grant b.number p.place r) ]) (Some m) → Granted c s b m
    go None f i = absurd cc
    go (Some r) f i = served r f (is_served c s r (b.number, p.place)) refl i
granted-by c s b m (ready p w k) h e = absurd cc
granted-by c s b m (open_act p r) h e = absurd cc
granted-by c s b m (live p x t) h e = absurd cc
granted-by c s b m (freeing p k) h e = absurd cc
granted-by c s b m (in_seq r cs) h e = absurd cc
granted-by c s b m (in_par rs) h e = absurd cc
granted-by c s b m (in_loop n q body r) h e = absurd cc
granted-by c s b m done h e = absurd cc

grant-of : (c : Setup) (s : Plant) (b : Model.Batch) (p : Step) (w : Task) (k : ℕ) (r : Need) → slice_get p.needs k ≡ Some r → is_served c s r (b.number, p.place) ≡ true
    → grant_move c s b (asking p w k) ≡ Some (grant b.number p.place r)
grant-of c s b p w k r e f =
    ap (λ (o : Option Need). let g : Option Move = elim o [ None ↦ None | Some z ↦ when (is_served c s z (b.number, p.place)) (grant b.number p.place z) ] in g) e
    ∙ ap (λ t. when t (grant b.number p.place r)) f

module _ (c : Setup) (s : Plant) (b : Model.Batch) (t : Tree) (placed : IsPlaced (0 ∷ []) t) (stands : IsRestOf t b.rest) where
  -- the act at node k that asks for its need i is served
  abbrev pub Served : ℕ → ℕ → Type 0
  Served k i = is_served c s (need_at t k i) (b.number, place_at t k) ≡ true

  need-got : (k i : ℕ) → i < length (step_at t k).needs → slice_get (step_at t k).needs i ≡ Some (need_at t k i)
  need-got k i l = slice_get-get_or (step_at t k).needs i no_need l

  -- where the acts in line stand
  pub asks-node : (m : Move) (g : Granted c s b m) → (k : ℕ) × (AsksAt t b.rest k g.held) × (g.step ≡ step_at t k) × (g.task ≡ task_at t k) × (g.step.place ≡ place_at t k) × (g.need ≡ need_at t k g.held)
  asks-node m g =
      let n = asking-at t b.rest g.step g.task g.held placed stands g.has in
      let few : g.held < length (step_at t n.0).needs = subst (λ (z : Step). g.held < length z.needs) n.3 n.5 in
      let has : Has (acts b.rest) (asking (step_at t n.0) (task_at t n.0) g.held) = subst₂ (λ (x : Step) (y : Task). Has (acts b.rest) (asking x y g.held)) n.3 n.4 g.has in
      let got : ◌≡◌ {A = Option Need} (Some g.need) (Some (need_at t n.0 g.held)) = sym g.at ∙ ap (λ (z : Step). slice_get z.needs g.held) n.3 ∙ need-got n.0 g.held few in
      (n.0, (n.1, few, has), n.3, n.4, n.2, (let e : g.need ≡ need_at t n.0 g.held = cc in e))

  pub served-node : (m : Move) (g : Granted c s b m) → (let n = asks-node m g in Served n.0 g.held)
  served-node m g =
      let n = asks-node m g in
      subst₂ (λ (x : Need) (y : Place). is_served c s x (b.number, y) ≡ true) n.5 n.4 g.served

  -- if no act in line is served there is no grant
  pub grants-none : ((k i : ℕ) → AsksAt t b.rest k i → Served k i → ⊥) → grants c s b ≡ []
  grants-none none = no-elements (grants c s b) (λ m h.
      let a = Has-filter_map (grant_move c s b) (acts b.rest) m h in
      let g : Granted c s b m = granted-by c s b m a.0 a.1 a.2 in
      let n = asks-node m g in
      none n.0 g.held n.1 (served-node m g))

  -- the first that is served makes the least grant
  pub grants-first : (k i : ℕ) → (step_at t k).place ≡ place_at t k → AsksAt t b.rest k i → Served k i → ((j l : ℕ) → j < k → AsksAt t b.rest j l → Served j l → ⊥)
      → least (grants c s b) ≡ Some (grant b.number (place_at t k) (need_at t k i))
  grants-first k i at asks served before = least-IsFirst (grants c s b) (grant b.number (place_at t k) (need_at t k i)) (here, others)
    where
      here : Has (grants c s b) (grant b.number (place_at t k) (need_at t k i))
      here =
          filter_map-Has (grant_move c s b) (acts b.rest) (asking (step_at t k) (task_at t k) i) (grant b.number (place_at t k) (need_at t k i)) asks.2
          (grant-of c s b (step_at t k) (task_at t k) i (need_at t k i) (need-got k i asks.1) (subst (λ (z : Place). is_served c s (need_at t k i) (b.number, z) ≡ true) (sym at) served)
          ∙ ap (λ (z : Place). Some (grant b.number z (need_at t k i))) at)

      same-kind : (p q : Place) → is_before p q ≡ true → is_before (b.number ∷ 6 ∷ p) (b.number ∷ 6 ∷ q) ≡ true
      same-kind p q e = go (nat_eq b.number b.number) (self b.number)
        where
          self : (n : ℕ) → nat_eq n n ≡ true
          self n = grind arith

          go : (z : Bool) → z ≡ true → elim z [ true ↦ is_before (6 ∷ p) (6 ∷ q) | false ↦ Rattle.std.proofs.Common.nat_lt b.number b.number ] ≡ true
          go true f = e
          go false f = absurd cc

      same-held : (x y : Step) (u w : Task) (m n : ℕ) → asking x u m ≡ asking y w n → m ≡ n
      same-held x y u w m n e = cc

      at_node : (l : Move) (g : Granted c s b l) → (j : ℕ) → AsksAt t b.rest j g.held → g.step.place ≡ place_at t j → g.need ≡ need_at t j g.held → j ≡ k → l ≡ grant b.number (place_at t k) (need_at t k i)
      at_node l g j aj pj nj e =
          let one : asking g.step g.task g.held ≡ asking (step_at t k) (task_at t k) i =
          one_act (acts b.rest) (asking g.step g.task g.held) (asking (step_at t k) (task_at t k) i) (acts-rise (0 ∷ []) t b.rest placed stands) g.has asks.2
          (pj ∙ ap (place_at t) e ∙ sym at) in
          let h : g.held ≡ i = same-held g.step (step_at t k) g.task (task_at t k) g.held i one in
          g.is ∙ ap₂ (λ (x : Place) (y : Need). grant b.number x y) (pj ∙ ap (place_at t) e) (nj ∙ ap₂ (need_at t) e h)

      others : (l : Move) → Has (grants c s b) l → (l ≡ grant b.number (place_at t k) (need_at t k i)) ⊎ (is_earlier (grant b.number (place_at t k) (need_at t k i)) l ≡ true)
      others l h =
          let a = Has-filter_map (grant_move c s b) (acts b.rest) l h in
          let g : Granted c s b l = granted-by c s b l a.0 a.1 a.2 in
          let n = asks-node l g in
          elim (cases_eq n.0 k) [
            | inl e ↦ inl (at_node l g n.0 n.1 n.4 n.5 e)
            | inr d ↦ elim (either n.0 k d) [
              | inl lt ↦ absurd (before n.0 g.held lt n.1 (served-node l g))
              | inr gt ↦ inr (ap (is_earlier (grant b.number (place_at t k) (need_at t k i))) (g.is ∙ ap (λ (z : Place). grant b.number z g.need) n.4)
                  ∙ same-kind (place_at t k) (place_at t n.0) (numbers-rise t k n.0 gt n.1.0))
            ]
          ]
