-- The rest of a batch's recipe after a move, if the batch holds a unit in advance.
use Rattle.std.proofs.Common.{◌≡◌, inl, inr, ◌<◌, ℕ, zero, suc, ◌+◌, List, [], ◌∷◌, length, take, map, filter, cond, Bool, true, false, ◌||◌, nat_eq, arith, refl, sym, ◌∙◌, subst, ap, ap₂}
use Rattle.std.{specs.Prelude.not, specs.Prelude.⊤, specs.List.list_any, proofs.lemmas.Bool.cases_lt, proofs.lemmas.Bool.Decides.eqb_tells, proofs.lemmas.List.get_or_past}
use Rattle.batch_recipe.specs.{Conditions.ValueList, Nodes.node_count, Tree.Place, Tree.Step, Tree.Task, Tree.runs, Tree.follows, Tree.Tree, declared.entry.Entry.Entry, declared.recipe.Recipe.Recipe}
use Rattle.batch_model.specs.{Lists.Has, Moves.act_after, Moves.sent, Moves.released, Moves.ended, Moves.asked, Moves.granted, Moves.batch_after, Moves.passing, Plant.Batch, Plant.InAdvance, Plant.is_act_reached, Plant.with_rest, Rest.same_place, Rest.Rest, Rest.ready, Rest.asking, Rest.open_act, Rest.live, Rest.freeing, Rest.in_seq, Rest.in_par, Rest.in_loop, Rest.done, Rest.Rests, Rest.no_rests, Rest.rest, Rest.acts, Rest.place_of}
use Rattle.batch_model.specs.Moves as machine
use Rattle.batch_step_laws.proofs.WorkAfterChange.{to_same_place, same_test}
use Rattle.batch_record_laws.proofs.{Entries.Has-filter, HoldingsInAdvance.at_moment, HoldingsInAdvance.Nowhere, HoldingsInAdvance.lifted, HoldingsInAdvance.lifted_each, HoldingsInAdvance.lifted-none, HoldingsInAdvance.raised, HoldingsInAdvance.places, HoldingsInAdvance.IsSteady, HoldingsInAdvance.IsTidy, HoldingsInAdvance.IsFresh, HoldingsInAdvance.moved-raised, HoldingsInAdvance.reached-raised, HoldingsInAdvance.reached-at, HoldingsInAdvance.not_reached, EffectsOnActs.stays-steady, EffectsOnActs.stays-tidy, EffectsOnActs.sent-stays, EffectsOnActs.released-stays, EffectsOnActs.ended-stays, EffectsOnActs.asked-stays, EffectsOnActs.granted-stays, EffectsOnActs.begun-steady, EffectsOnActs.begun-tidy}
use Rattle.batch_chart.{specs.Early.is_early, specs.Early.is_ready, specs.Early.in_advance, specs.Early.taken_by, specs.Early.taken_by_each, specs.Early.is_of, specs.Early.IsTakenBy, specs.declared.passed.Passed.Passed, specs.Meaning.meaning, specs.Meaning.meaning_below, specs.Meaning.act_as, specs.NodesOf.need_at, specs.NodesOf.node_at, specs.NodesOf.place_at, specs.Running.IsLaid, specs.Running.IsAlive, specs.Running.rest_after, specs.Stages.stage_at, specs.Stages.is_finished, specs.declared.sign.TheConstants.IS_ACT, specs.declared.stage.Stage.Stage, specs.Neat.AreNeat, specs.Neat.IsNeat, specs.Neat.step_shows, specs.Noting.AreNoted, specs.Numbered.numbered, specs.Outlined.Stands, proofs.ActsAtNodes.stands-at, proofs.ActsAtNodes.numbers-rise, proofs.NextMoves.known, proofs.LivePhaseSigns.entry-or-not, proofs.NodesAtNumbers.node-stands, proofs.NodeNumbers.same-itself, proofs.NodeNumbers.not-same, proofs.NodeNumbers.before-differ, proofs.SignTests.ready-shows, proofs.ChartChange.number-at-place, proofs.ChartChange.act-here, proofs.UnitTakeover.taken-none, proofs.UnitTakeover.taken-alike, proofs.UnitTakeover.ready-act_at}
use Rattle.batch_chart.specs.declared.stage.Stage.TheVariants as stage
use Rattle.batch_signs.{specs.Signs.shows, specs.Signs.sign_at, proofs.WantedSigns.nothing-shown}

-- Acts that are raised are taken over

mutual
  lifted-taken : (h : Place) (q : Place → Bool) (r : Rest) → lifted h (taken_by q r) ≡ taken_by (λ p. same_place p h || q p) r
  lifted-taken h q (ready s w k) = go (q s.place)
    where
      both : (t : Bool) → elim t as (λ _. Rest) [ true ↦ ready s w (length (take 1 s.needs)) | false ↦ ready s w (length (take 1 s.needs)) ]
          ≡ elim (t || true) as (λ _. Rest) [ true ↦ ready s w (length (take 1 s.needs)) | false ↦ ready s w k ]
      both true = refl
      both false = refl

      one : (t : Bool) → elim t as (λ _. Rest) [ true ↦ ready s w (length (take 1 s.needs)) | false ↦ ready s w k ]
          ≡ elim (t || false) as (λ _. Rest) [ true ↦ ready s w (length (take 1 s.needs)) | false ↦ ready s w k ]
      one true = refl
      one false = refl

      go : (u : Bool) → lifted h (elim u as (λ _. Rest) [ true ↦ ready s w (length (take 1 s.needs)) | false ↦ ready s w k ])
          ≡ elim (same_place s.place h || u) as (λ _. Rest) [ true ↦ ready s w (length (take 1 s.needs)) | false ↦ ready s w k ]
      go true = both (same_place s.place h)
      go false = one (same_place s.place h)
  lifted-taken h q (asking s w k) = refl
  lifted-taken h q (open_act s r) = ap (open_act s) (lifted-taken h q r)
  lifted-taken h q (live s x t) = refl
  lifted-taken h q (freeing s k) = refl
  lifted-taken h q (in_seq r cs) = ap (λ z. in_seq z cs) (lifted-taken h q r)
  lifted-taken h q (in_par rs) = ap in_par (lifted-taken_each h q rs)
  lifted-taken h q (in_loop n c body r) = ap (in_loop n c body) (lifted-taken h q r)
  lifted-taken h q done = refl

  lifted-taken_each : (h : Place) (q : Place → Bool) (rs : Rests) → lifted_each h (taken_by_each q rs) ≡ taken_by_each (λ p. same_place p h || q p) rs
  lifted-taken_each h q no_rests = refl
  lifted-taken_each h q (rest r rs) = ap₂ rest (lifted-taken h q r) (lifted-taken_each h q rs)

-- the place is one of those that hold in advance
abbrev pub among : List InAdvance → Place → Bool
among xs = λ p. list_any (same_place p) (places xs)

raised-taken : (xs : List InAdvance) (r : Rest) → raised xs r ≡ taken_by (among xs) r
raised-taken [] r = sym (taken-none (among []) (λ p. refl) r)
raised-taken (held ∷ xs) r = ap (lifted held.place) (raised-taken xs r) ∙ lifted-taken held.place (among xs) r

pub raised-none : (xs : List InAdvance) (r : Rest) → ((held : InAdvance) → Has xs held → Nowhere held.place (acts r)) → raised xs r ≡ r
raised-none [] r n = refl
raised-none (held ∷ xs) r n =
    ap (lifted held.place) (raised-none xs r (λ other i. n other (inr i))) ∙ lifted-none held.place r (n held (inl refl))

-- The change of an act by each move

pub act-steady : (m : machine.Move) → IsSteady (λ mo. act_after mo m)
act-steady (machine.send n p x c) = stays-steady (sent c) (sent-stays c)
act-steady (machine.state n x) = stays-steady (λ r. r) (λ a x i. (x, i, refl))
act-steady (machine.release n p need) = stays-steady released released-stays
act-steady (machine.pass n p to need) = stays-steady released released-stays
act-steady (machine.begin n p name) = begun-steady
act-steady (machine.start n p x vs) = begun-steady
act-steady (machine.end n p) = stays-steady ended ended-stays
act-steady (machine.ask n p need) = stays-steady asked asked-stays
act-steady (machine.grant n p need) = stays-steady granted granted-stays

pub act-tidy : (vs : ValueList) (m : machine.Move) → IsTidy (act_after (at_moment vs []) m)
act-tidy vs (machine.send n p x c) = stays-tidy (sent c) (sent-stays c)
act-tidy vs (machine.state n x) = stays-tidy (λ r. r) (λ a x i. (x, i, refl))
act-tidy vs (machine.release n p need) = stays-tidy released released-stays
act-tidy vs (machine.pass n p to need) = stays-tidy released released-stays
act-tidy vs (machine.begin n p name) = begun-tidy vs
act-tidy vs (machine.start n p x ws) = begun-tidy vs
act-tidy vs (machine.end n p) = stays-tidy ended ended-stays
act-tidy vs (machine.ask n p need) = stays-tidy asked asked-stays
act-tidy vs (machine.grant n p need) = stays-tidy granted granted-stays

abbrev pub IsActMove : machine.Move → Type 0
IsActMove (machine.state n x) = ⊥
IsActMove _ = ⊤

-- the places of the units held in advance aren't reached yet
abbrev pub AreWaiting : List InAdvance → Rest → Type 0
AreWaiting xs r = (held : InAdvance) → Has xs held → is_act_reached r held.place ≡ false

pub waiting-nowhere : (xs : List InAdvance) (r : Rest) → AreWaiting xs r → (held : InAdvance) → Has xs held → Nowhere held.place (acts r)
waiting-nowhere xs r w held i = not_reached held.place r (w held i)

-- the batch after a move of an act, by the rest that it would have if it held nothing in advance
pub after-raised : (m : machine.Move) (b : Batch) → IsActMove m → AreWaiting (passing m b).in_advance b.rest
    → batch_after m b ≡ with_rest (raised (passing m b).in_advance (rest_after b.values m b.rest)) (passing m b)
after-raised (machine.send n p x c) b is w =
    ap (λ r. with_rest r b) (moved-raised (λ mo. act_after mo (machine.send n p x c)) (act-steady (machine.send n p x c)) b.values p b.rest b.in_advance (waiting-nowhere b.in_advance b.rest w))
after-raised (machine.state n x) b is w = absurd is
after-raised (machine.release n p need) b is w =
    ap (λ r. with_rest r b) (moved-raised (λ mo. act_after mo (machine.release n p need)) (act-steady (machine.release n p need)) b.values p b.rest b.in_advance (waiting-nowhere b.in_advance b.rest w))
after-raised (machine.pass n p to need) b is w =
    let after = passing (machine.pass n p to need) b in
    ap (λ r. with_rest r after) (moved-raised (λ mo. act_after mo (machine.pass n p to need)) (act-steady (machine.pass n p to need)) b.values p b.rest after.in_advance (waiting-nowhere after.in_advance b.rest w))
after-raised (machine.begin n p name) b is w =
    ap (λ r. with_rest r b) (moved-raised (λ mo. act_after mo (machine.begin n p name)) (act-steady (machine.begin n p name)) b.values p b.rest b.in_advance (waiting-nowhere b.in_advance b.rest w))
after-raised (machine.start n p x vs) b is w =
    ap (λ r. with_rest r b) (moved-raised (λ mo. act_after mo (machine.start n p x vs)) (act-steady (machine.start n p x vs)) b.values p b.rest b.in_advance (waiting-nowhere b.in_advance b.rest w))
after-raised (machine.end n p) b is w =
    ap (λ r. with_rest r b) (moved-raised (λ mo. act_after mo (machine.end n p)) (act-steady (machine.end n p)) b.values p b.rest b.in_advance (waiting-nowhere b.in_advance b.rest w))
after-raised (machine.ask n p need) b is w =
    ap (λ r. with_rest r b) (moved-raised (λ mo. act_after mo (machine.ask n p need)) (act-steady (machine.ask n p need)) b.values p b.rest b.in_advance (waiting-nowhere b.in_advance b.rest w))
after-raised (machine.grant n p need) b is w =
    ap (λ r. with_rest r b) (moved-raised (λ mo. act_after mo (machine.grant n p need)) (act-steady (machine.grant n p need)) b.values p b.rest b.in_advance (waiting-nowhere b.in_advance b.rest w))

-- Lists of places

pub any-has : {X : Type 0} (f : X → Bool) (xs : List X) (x : X) → Has xs x → f x ≡ true → list_any f xs ≡ true
any-has f (y ∷ xs) x (inl q) e = ap (λ b. b || list_any f xs) (ap f q ∙ e)
any-has f (y ∷ xs) x (inr i) e = either (f y) (list_any f xs) (any-has f xs x i e)
  where
    either : (t u : Bool) → u ≡ true → (t || u) ≡ true
    either true u e = refl
    either false u e = e
any-has f [] x i e = absurd i

any-none : {X : Type 0} (f : X → Bool) (xs : List X) → ((x : X) → Has xs x → f x ≡ false) → list_any f xs ≡ false
any-none f [] h = refl
any-none f (x ∷ xs) h = ap₂ (λ a b. a || b) (h x (inl refl)) (any-none f xs (λ y i. h y (inr i)))

among-has : (xs : List InAdvance) (p : Place) → among xs p ≡ true → (held : InAdvance) × Has xs held × (held.place ≡ p)
among-has [] p e = absurd (cc)
among-has (held ∷ xs) p e = go (same_place p held.place) refl e (among-has xs p)
  where
    go : (t : Bool) → same_place p held.place ≡ t → (t || among xs p) ≡ true → (among xs p ≡ true → (other : InAdvance) × Has xs other × (other.place ≡ p)) → (other : InAdvance) × Has (held ∷ xs) other × (other.place ≡ p)
    go true f g later = (held, inl refl, sym (to_same_place p held.place f))
    go false f g later = let m = later g in (m.0, inr m.1, m.2)

pub filter-all : {X : Type 0} (f : X → Bool) (xs : List X) → ((x : X) → Has xs x → f x ≡ true) → filter f xs ≡ xs
filter-all f [] h = refl
filter-all f (x ∷ xs) h = go (f x) (h x (inl refl)) (filter-all f xs (λ y i. h y (inr i)))
  where
    go : (t : Bool) → t ≡ true → filter f xs ≡ xs → cond t (x ∷ filter f xs) (filter f xs) ≡ x ∷ xs
    go true e below = ap (λ ys. x ∷ ys) below
    go false e below = absurd (cc)

-- Stages and acts

ready-form : (x : Stage) → is_ready x ≡ true → (j : ℕ) × (x ≡ stage.Ready j)
ready-form (stage.Ready j) e = (j, refl)
ready-form x e = absurd (grind arith)

ready-stage : (s : Step) (w : Task) (r : Rest) (x : Stage) (u : Step) (v : Task) (j : ℕ) → act_as s w r x ≡ ready u v j → is_ready x ≡ true
ready-stage s w r (stage.Ready h) u v j e = refl
ready-stage s w r stage.Finished u v j e = absurd (cc)
ready-stage s w r (stage.Asking h) u v j e = absurd (cc)
ready-stage s (runs p) r stage.Open u v j e = absurd (cc)
ready-stage s (follows name c) r stage.Open u v j e = absurd (cc)
ready-stage s (runs p) r (stage.Live y) u v j e = absurd (cc)
ready-stage s (follows name c) r (stage.Live y) u v j e = absurd (cc)
ready-stage s w r (stage.Freeing zero) u v j e = absurd (cc)
ready-stage s w r (stage.Freeing (suc h)) u v j e = absurd (cc)
ready-stage s w r (stage.Turning h) u v j e = absurd (cc)

ready-signed : (n j : ℕ) (w : Task) (over : Bool) → shows IS_ACT (step_shows n w (stage.Ready j) over) ≡ true
ready-signed n j (runs p) over = ready-shows 64 n j ∙ grind arith
ready-signed n j (follows name c) over = ready-shows 64 n j ∙ grind arith

same-when : (x y : Bool) → (x ≡ true → y ≡ true) → (y ≡ true → x ≡ true) → x ≡ y
same-when true y f g = sym (f refl)
same-when false true f g = g refl
same-when false false f g = refl

not-true : (b : Bool) → not b ≡ true → b ≡ false
not-true true e = absurd (cc)
not-true false e = refl

module _ (ns : List Entry) (doc : Recipe) (t : Tree) (laid : IsLaid ns doc t) where
  -- a place is that of one node
  pub number-one : (j k : ℕ) → j < length ns → k < length ns → place_at t j ≡ place_at t k → j ≡ k
  number-one j k l m e = elim (eqb_tells j k) [
    | inl q ↦ q.1
    | inr q ↦ elim (cases_lt j k) [
      | inl lt ↦ absurd (before-differ (place_at t j) (place_at t k) (numbers-rise t j k lt (omega (arith, m, laid.count))) e)
      | inr le ↦ absurd (before-differ (place_at t k) (place_at t j) (numbers-rise t k j (omega (arith, le, q.1)) (omega (arith, l, laid.count))) (sym e))
    ]
  ]

  module _ (ys zs : List Stage) (alive : IsAlive t ys) (old new : List ℕ) (noted : AreNoted t ys old) (neat : AreNeat ns doc 0 (length ns) ys old) (early : ℕ → Bool) (over : IsTakenBy ns doc early ys zs old new) where
    abbrev now : Rest
    now = meaning t 0 ys

    staged : (k : ℕ) (a : Rest) (s : Step) (w : Task) (j : ℕ) → k < length ns → Has (acts now) a → place_of a ≡ place_at t k → a ≡ ready s w j → is_ready (stage_at ys k) ≡ true
    staged k a s w j lt i e q =
        let f = known ns doc ys t laid (k, a) (number-at-place ns doc t laid ys k a lt i e) in
        ready-stage f.step f.task (meaning_below f.task (k + 1) ys) (stage_at ys k) s w j (sym f.is ∙ q)

    -- a ready node is reached
    ready-reached : (k : ℕ) → k < length ns → is_ready (stage_at ys k) ≡ true → is_act_reached now (place_at t k) ≡ true
    ready-reached k lt e = elim (entry-or-not (numbered t 0 ys) k) [
      | inl m ↦ found m.0 m.1
      | inr z ↦ absurd (let d : ◌≡◌ {A = Bool} true false = sym signed ∙ ap (shows IS_ACT) (noted.shown k ∙ z) ∙ nothing-shown IS_ACT in cc)
    ]
      where
        form : (j : ℕ) × (stage_at ys k ≡ stage.Ready j)
        form = ready-form (stage_at ys k) e

        stands : Stands ns doc k (node_at t k).here
        stands = node-stands ns doc t laid k lt

        signed : shows IS_ACT (sign_at old k) ≡ true
        signed =
            let h = act-here ns doc k (node_at t k).here (ready-act_at ns doc ys k form.0 form.1 t laid alive lt) stands in
            let n = subst (λ z. IsNeat ns z k ys old) h.is (neat k (node_at t k).here (omega arith) lt stands) in
            ap (shows IS_ACT) (n.shown ∙ ap (λ z. step_shows (length h.step.needs) h.task z (is_finished (stage_at ys (k + 1)))) form.1)
            ∙ ready-signed (length h.step.needs) form.0 h.task (is_finished (stage_at ys (k + 1)))

        found : (a : Rest) → Has (numbered t 0 ys) (k, a) → is_act_reached now (place_at t k) ≡ true
        found a i =
            let g = known ns doc ys t laid (k, a) i in
            any-has (λ x. same_place (place_of x) (place_at t k)) (acts now) a g.among
            (same_test (place_of a) (place_at t k) (ap place_of (g.is ∙ ap (act_as g.step g.task (meaning_below g.task (k + 1) ys)) form.1) ∙ sym g.place))

    module _ (xs : List InAdvance) (was : Rest) (told : (k : ℕ) → k < node_count t → among xs (place_at t k) ≡ early k) (waiting : AreWaiting xs was)
        (fresh : (a : Rest) → Has (acts now) a → Nowhere (place_of a) (acts was) → IsFresh a) where
      -- the nodes whose acts take their units over are those that hold them in advance
      taken-is : (k : ℕ) → k < length ns → is_ready (stage_at ys k) ≡ true → is_of t over.taken (place_at t k) ≡ early k
      taken-is k lt e = go (early k) refl
        where
          other : early k ≡ false → (j : ℕ) → Has over.taken j → (b : Bool) → same_place (place_at t k) (place_at t j) ≡ b → b ≡ false
          other n j i true f =
              let were = over.were j i in
              let small : j < length ns = ready-within j were.1 in
              let same : k ≡ j = number-one k j lt small (to_same_place (place_at t k) (place_at t j) f) in
              absurd (let d : ◌≡◌ {A = Bool} true false = sym were.0 ∙ ap early (sym same) ∙ n in cc)
            where
              ready-within : (j : ℕ) → is_ready (stage_at ys j) ≡ true → j < length ns
              ready-within j r = elim (cases_lt j (length ys)) [
                | inl l ↦ omega (arith, l, alive.fits, laid.count)
                | inr le ↦ absurd (let d : ◌≡◌ {A = Bool} true false = sym r ∙ ap is_ready (get_or_past {X = Stage} ys j stage.Finished le) in cc)
              ]
          other n j i false f = refl

          go : (b : Bool) → early k ≡ b → is_of t over.taken (place_at t k) ≡ early k
          go true n = any-has (λ j. same_place (place_at t k) (place_at t j)) over.taken k (over.all k n e) (same-itself (place_at t k)) ∙ sym n
          go false n = any-none (λ j. same_place (place_at t k) (place_at t j)) over.taken (λ j i. other n j i (same_place (place_at t k) (place_at t j)) refl) ∙ sym n

      agrees : (s : Step) (w : Task) (j : ℕ) → Has (acts now) (ready s w j) → is_of t over.taken s.place ≡ among xs s.place
      agrees s w j i =
          let g = stands-at t now (ready s w j) laid.placed alive.stands i in
          let lt : g.0 < length ns = omega (arith, g.1, laid.count) in
          let e = staged g.0 (ready s w j) s w j lt i g.2 refl in
          subst (λ p. is_of t over.taken p ≡ among xs p) (sym g.2) (taken-is g.0 lt e ∙ sym (told g.0 g.1))

      pub now-raised : meaning t 0 zs ≡ raised xs now
      now-raised = (over.means t laid alive).1 ∙ taken-alike (is_of t over.taken) (among xs) now agrees ∙ sym (raised-taken xs now)

      -- a node that held its unit in advance is reached just where it is ready
      same-ready : (k : ℕ) → k < node_count t → early k ≡ true → is_act_reached now (place_at t k) ≡ is_ready (stage_at ys k)
      same-ready k lt holds = same-when (is_act_reached now (place_at t k)) (is_ready (stage_at ys k)) here (ready-reached k inside)
        where
          inside : k < length ns
          inside = omega (arith, lt, laid.count)

          here : is_act_reached now (place_at t k) ≡ true → is_ready (stage_at ys k) ≡ true
          here e =
              let m = reached-at (place_at t k) now e in
              let held = among-has xs (place_at t k) (told k lt ∙ holds) in
              let none = subst (λ p. Nowhere p (acts was)) (held.2 ∙ sym m.2) (waiting-nowhere xs was waiting held.0 held.1) in
              let f = fresh m.0 m.1 none in
              staged k m.0 f.0 f.1 0 inside m.1 m.2 f.2

      abbrev still : List InAdvance
      still = filter (λ held. not (is_act_reached (raised xs now) held.place)) xs

      pub now-waiting : AreWaiting still (raised xs now)
      now-waiting held i = not-true (is_act_reached (raised xs now) held.place) (Has-filter (λ h. not (is_act_reached (raised xs now) h.place)) xs held i).1

      -- a node still holds its unit in advance just where it isn't reached
      pub still-early : (k : ℕ) → k < node_count t → early k ≡ true → not (is_act_reached (raised xs now) (place_at t k)) ≡ not (is_ready (stage_at zs k))
      still-early k lt e = ap not (reached-raised xs now (place_at t k) ∙ same-ready k lt e ∙ sym (over.ready k))

-- Lists of the needs held in advance

filter-map : {X Y : Type 0} (f : Y → Bool) (g : X → Y) (xs : List X) → filter f (map g xs) ≡ map g (filter (λ x. f (g x)) xs)
filter-map f g [] = refl
filter-map {X = X} {Y = Y} f g (x ∷ xs) = go (f (g x)) (filter-map f g xs)
  where
    go : (t : Bool) → filter f (map g xs) ≡ map g (filter (λ x. f (g x)) xs) → cond t (g x ∷ filter f (map g xs)) (filter f (map g xs)) ≡ map g (cond t (x ∷ filter (λ x. f (g x)) xs) (filter (λ x. f (g x)) xs))
    go true e = ap (λ ys. g x ∷ ys) e
    go false e = e

filter-alike : {X : Type 0} (f g : X → Bool) (xs : List X) → ((x : X) → Has xs x → f x ≡ g x) → filter f xs ≡ filter g xs
filter-alike f g [] h = refl
filter-alike {X = X} f g (x ∷ xs) h = ap (λ t. cond t (x ∷ filter f xs) (filter f xs)) (h x (inl refl)) ∙ ap (λ ys. cond (g x) (x ∷ ys) ys) (filter-alike f g xs (λ y i. h y (inr i)))

module _ (ns : List Entry) (doc : Recipe) (t : Tree) (laid : IsLaid ns doc t) where
  same-number : (k j : ℕ) → k < length ns → j < length ns → same_place (place_at t k) (place_at t j) ≡ nat_eq j k
  same-number k j l m = elim (eqb_tells j k) [
    | inl q ↦ ap (λ z. same_place (place_at t k) (place_at t z)) q.1 ∙ same-itself (place_at t k) ∙ sym q.0
    | inr q ↦ not-same (place_at t k) (place_at t j) (λ e. q.1 (sym (number-one ns doc t laid k j l m e))) ∙ sym q.0
  ]

  -- which places hold in advance, by their nodes
  pub early-told : (held : List Passed) → ((p : Passed) → Has held p → p.to < length ns) → (k : ℕ) → k < node_count t → among (in_advance t held) (place_at t k) ≡ is_early held k
  early-told [] within k lt = refl
  early-told (p ∷ held) within k lt =
      ap₂ (λ a b. a || b) (same-number k p.to (omega (arith, lt, laid.count)) (within p (inl refl))) (early-told held (λ q i. within q (inr i)) k lt)

  pub still-held : (held : List Passed) (r : Rest) (zs : List Stage) → ((p : Passed) → Has held p → not (is_act_reached r (place_at t p.to)) ≡ not (is_ready (stage_at zs p.to)))
      → filter (λ x. not (is_act_reached r x.place)) (in_advance t held) ≡ in_advance t (filter (λ p. not (is_ready (stage_at zs p.to))) held)
  still-held held r zs h =
      filter-map (λ (x : InAdvance). not (is_act_reached r x.place)) (λ (p : Passed). record { place = place_at t p.to; unit = need_at t p.node p.need }) held
      ∙ ap (in_advance t) (filter-alike (λ p. not (is_act_reached r (place_at t p.to))) (λ p. not (is_ready (stage_at zs p.to))) held h)
