-- The first live phase with a name, from a node on.
use Rattle.std.proofs.Common.{◌≡◌, inl, inr, ◌<◌, ◌≤◌, ℕ, ◌+◌, List, [], ◌∷◌, length, Bool, true, false, Some, None, nat_le, arith, refl, sym, ◌∙◌, subst, ap}
use Rattle.std.{specs.Prelude.Option, specs.Prelude.map, specs.Prelude.filter, specs.Prelude.option_map, specs.Prelude.◌&&◌, specs.Prelude.⊤, proofs.lemmas.Bool.cases_lt, proofs.lemmas.Bool.Decides.nat_tests}
use Rattle.batch_matrix.specs.declared.state.State.{State, TheVariants.Idle}
use Rattle.batch_recipe.{specs.Conditions.Name, specs.Conditions.same_name, specs.Nodes.node_count, specs.Tree.is_before, specs.Tree.Step, specs.Tree.Phase, specs.Tree.Task, specs.Tree.runs, specs.Tree.Tree, specs.Tree.act, proofs.ValueUpdates.same-names, proofs.NodesBelow.not_before, specs.declared.entry.Entry.Entry, specs.declared.recipe.Recipe.Recipe}
use Rattle.batch_model.{specs.Lists.Has, specs.Lists.Each, specs.Placed.Rises, specs.Plant.Batch, specs.Rest.Rest, specs.Rest.live, specs.Rest.acts, specs.Rest.is_done, specs.Rest.place_of, specs.Events.LivePhase, specs.Events.live_in, proofs.Members.Each-Has}
use Rattle.batch_step_laws.proofs.{MoveOrder.before-asym, ActOrder.acts-rise}
use Rattle.batch_chart.{specs.declared.node.Kind.Kind, specs.declared.stage.Stage.Stage, specs.Stages.stage_at, specs.Meaning.meaning, specs.Meaning.meaning_below, specs.Meaning.act_as, specs.Outlined.kind_at, specs.Nexts.first_of, specs.Numbered.numbered, specs.Numbered.acts_since, specs.NodesOf.node_at, specs.NodesOf.place_at, specs.NodesOf.phase_at, specs.NodesOf.phase_in, specs.NodesOf.phase_named, specs.Nexts.IsFoundFirst, specs.Running.IsLaid, specs.Running.IsAlive, specs.Running.SomeLives, specs.Running.IsLiveIn, specs.Looked.IsLiveFound, specs.Looked.live_by, specs.Looked.live_phase_at, proofs.ActsAtNodes.numbers-rise, proofs.NumberedActs.numbered-acts, proofs.ChartChange.Fits, proofs.ChartChange.act-place, proofs.ChartChange.entry-undone, proofs.NextMoves.known, proofs.NextMoves.first-has, proofs.MoveKinds.and-true}
use Rattle.batch_chart.specs.declared.node.Kind.TheVariants as kind
use Rattle.batch_chart.specs.declared.stage.Stage.TheVariants as stage

abbrev state_of : Stage → State
state_of (stage.Live x) = x
state_of _ = Idle

-- The phase that is looked for

abbrev pub looks : ℕ → Name → ℕ → Rest → Bool
looks from phase n (live s p x) = nat_le from n && same_name p.name phase
looks from phase n _ = false

looks-within : (from n : ℕ) (b : Bool) → (nat_le from n && b) ≡ true → (from ≤ n) × (b ≡ true)
looks-within from n true e = (grind (arith, nat_tests), refl)
looks-within from n false e = absurd (grind (arith, nat_tests))

record IsLooked (from : ℕ) (phase : Name) (n : ℕ) (r : Rest) : Type 0 where
  pub step : Step
  pub phase_of : Phase
  pub state : State
  pub is : r ≡ live step phase_of state
  pub onwards : from ≤ n
  pub name : phase_of.name ≡ phase

looked : (from : ℕ) (phase : Name) (n : ℕ) (r : Rest) → looks from phase n r ≡ true → IsLooked from phase n r
looked from phase n (live s p x) e =
    let w = looks-within from n (same_name p.name phase) e in
    record { step = s; phase_of = p; state = x; is = refl; onwards = w.0; name = same-names p.name phase w.1 }
looked x1 x2 x3 x4 x5 = absurd (grind arith)

-- The facts of a live act

-- a live act is that of a live stage
pub live-known : (y : Stage) (s : Step) (w : Task) (r : Rest) (u : Step) (p : Phase) (x : State) → act_as s w r y ≡ live u p x → (s ≡ u) × (w ≡ runs p) × (y ≡ stage.Live x)
live-known (stage.Live z) s (runs v) r u p x e = (let f : v ≡ p = cc in let g : z ≡ x = cc in (cc, ap runs f, ap stage.Live g))
live-known x1 x2 x3 x4 x5 x6 x7 x8 = absurd (grind arith)

runs-kind : (κ : Kind) (s : Step) (p : Phase) → Fits κ s (runs p) → (j : ℕ) × (i : ℕ) × (κ ≡ kind.Phase j i)
runs-kind (kind.Phase j i) s p f = (j, i, refl)
runs-kind x s p f = absurd f

module _ (ns : List Entry) (doc : Recipe) (xs : List Stage) (t : Tree) (laid : IsLaid ns doc t) where
  record IsLiveEntry (n : ℕ) (u : Step) (p : Phase) (x : State) : Type 0 where
    pub within : n < length ns
    pub place : place_at t n ≡ u.place
    pub phase : phase_at t n ≡ p
    pub named : phase_named (node_at t n).here ≡ Some (p.unit, p.name)
    pub stage_is : stage_at xs n ≡ stage.Live x
    pub kind_is : (j : ℕ) × (i : ℕ) × (kind_at ns n ≡ kind.Phase j i)

  live-entry : (e : ℕ × Rest) → Has (numbered t 0 xs) e → (u : Step) (p : Phase) (x : State) → e.1 ≡ live u p x → IsLiveEntry e.0 u p x
  live-entry e h u p x f =
      let g = known ns doc xs t laid e h in
      let v = live-known (stage_at xs e.0) g.step g.task (meaning_below g.task (e.0 + 1) xs) u p x (sym g.is ∙ f) in
      record {
        within = g.within;
        place = g.place ∙ ap (λ (z : Step). z.place) v.0;
        phase = ap phase_in (g.own_task ∙ v.1);
        named = ap phase_named (g.here ∙ ap (act g.step) v.1);
        stage_is = v.2;
        kind_is = runs-kind (kind_at ns e.0) g.step p (subst (Fits (kind_at ns e.0) g.step) v.1 g.fits);
      }

-- Numbers rise along the acts

abbrev Ascends : List (ℕ × Rest) → Type 0
Ascends [] = ⊤
Ascends (e ∷ l) = Each (λ (z : ℕ × Rest). e.0 < z.0) l × Ascends l

module _ (t : Tree) where
  abbrev Sits : ℕ × Rest → Type 0
  Sits e = (e.0 < node_count t) × (place_of e.1 ≡ place_at t e.0)

  rises : (a b : ℕ × Rest) → Sits a → Sits b → is_before (place_of a.1) (place_of b.1) ≡ true → a.0 < b.0
  rises a b g h e = elim (cases_lt a.0 b.0) [
    | inl lt ↦ lt
    | inr le ↦ elim (cases_lt b.0 a.0) [
      | inl lt ↦
          let back : is_before (place_of b.1) (place_of a.1) ≡ true =
          subst (λ z. is_before z (place_of a.1) ≡ true) (sym h.1) (subst (λ z. is_before (place_at t b.0) z ≡ true) (sym g.1) (numbers-rise t b.0 a.0 lt g.0)) in
          let d : true ≡ false = sym back ∙ before-asym (place_of a.1) (place_of b.1) e in
          absurd (cc)
      | inr ge ↦
          let same : b.0 ≡ a.0 = omega arith in
          let d : true ≡ false = sym e ∙ ap (is_before (place_of a.1)) (h.1 ∙ ap (place_at t) same ∙ sym g.1) ∙ not_before (place_of a.1) in
          absurd (cc)
    ]
  ]

  ascends : (l : List (ℕ × Rest)) → Rises (map (λ (z : ℕ × Rest). z.1) l) → ((e : ℕ × Rest) → Has l e → Sits e) → Ascends l
  ascends [] r h = tt
  ascends (a ∷ l) r h = (each l r.0 (λ e m. h e (inr m)), ascends l r.1 (λ e m. h e (inr m)))
    where
      each : (l : List (ℕ × Rest)) → Each (λ b. is_before (place_of a.1) (place_of b) ≡ true) (map (λ (z : ℕ × Rest). z.1) l) → ((e : ℕ × Rest) → Has l e → Sits e) → Each (λ (z : ℕ × Rest). a.0 < z.0) l
      each [] r k = tt
      each (b ∷ l) r k = (rises a b (h a (inl refl)) (k b (inl refl)) r.0, each l r.1 (λ e m. k e (inr m)))

numbered-ascends : (ns : List Entry) (doc : Recipe) (xs : List Stage) (t : Tree) → IsLaid ns doc t → IsAlive t xs → Ascends (numbered t 0 xs)
numbered-ascends ns doc xs t laid alive =
    ascends t (numbered t 0 xs) (subst Rises (sym (numbered-acts xs t 0)) (acts-rise (0 ∷ []) t (meaning t 0 xs) laid.placed alive.stands)) (λ e h.
    (let g = known ns doc xs t laid e h in (
      omega (arith, g.within, laid.count),
      ap place_of g.is ∙ act-place g.step g.task (meaning_below g.task (e.0 + 1) xs) (stage_at xs e.0) (ap is_done (sym g.is) ∙ entry-undone ns doc t laid xs e g.among) ∙ sym g.place,
    )))

-- Acts from a number on

abbrev since : ℕ → List (ℕ × Rest) → List Rest
since k l = map (λ (e : ℕ × Rest). e.1) (filter (λ (e : ℕ × Rest). nat_le k e.0) l)

since-early : (k : ℕ) (e : ℕ × Rest) (l : List (ℕ × Rest)) → nat_le k e.0 ≡ false → since k (e ∷ l) ≡ since k l
since-early k e l h = rw h refl

since-late : (k : ℕ) (e : ℕ × Rest) (l : List (ℕ × Rest)) → nat_le k e.0 ≡ true → since k (e ∷ l) ≡ e.1 ∷ since k l
since-late k e l h = rw h refl

is-late : (k n : ℕ) → k ≤ n → nat_le k n ≡ true
is-late k n h = grind (arith, nat_tests)

is-early : (k n : ℕ) → n < k → nat_le k n ≡ false
is-early k n h = grind (arith, nat_tests)

-- where all are at k or later ones, all are taken
since-all : (k m : ℕ) (l : List (ℕ × Rest)) → k ≤ m → Each (λ (z : ℕ × Rest). m ≤ z.0) l → since k l ≡ map (λ (e : ℕ × Rest). e.1) l
since-all k m [] h e = refl
since-all k m (a ∷ l) h e = since-late k a l (is-late k a.0 (omega (arith, h, e.0))) ∙ ap (λ z. a.1 ∷ z) (since-all k m l h e.1)

at-least : (m : ℕ) (l : List (ℕ × Rest)) → Each (λ (z : ℕ × Rest). m < z.0) l → Each (λ (z : ℕ × Rest). m + 1 ≤ z.0) l
at-least m [] h = tt
at-least m (a ∷ l) h = (omega (arith, h.0), at-least m l h.1)

pub from-first : (t : Tree) (xs : List Stage) → acts_since t xs 0 ≡ acts (meaning t 0 xs)
from-first t xs = since-all 0 0 (numbered t 0 xs) (omega arith) (all (numbered t 0 xs)) ∙ numbered-acts xs t 0
  where
    all : (l : List (ℕ × Rest)) → Each (λ (z : ℕ × Rest). 0 ≤ z.0) l
    all [] = tt
    all (a ∷ l) = (omega arith, all l)

-- The live phase of a unit

and-false : (b : Bool) → (b && false) ≡ false
and-false true = refl
and-false false = refl

module _ (b : Batch) (unit phase : Name) where
  -- an act that isn't looked for isn't the live phase
  passed : (from n : ℕ) (r : Rest) (l : List Rest) → nat_le from n ≡ true → looks from phase n r ≡ false → live_in b unit phase (r ∷ l) ≡ live_in b unit phase l
  passed from n (live s p x) l h e =
      let f : same_name p.name phase ≡ false = sym (ap (λ z. z && same_name p.name phase) h) ∙ e in
      ap (λ z. elim (same_name p.unit unit && z) as (λ _. Option LivePhase) [ true ↦ Some (record { batch = b; place = s.place; phase = p; state = x }) | false ↦ live_in b unit phase l ]) f
      ∙ ap (λ z. elim z as (λ _. Option LivePhase) [ true ↦ Some (record { batch = b; place = s.place; phase = p; state = x }) | false ↦ live_in b unit phase l ]) (and-false (same_name p.unit unit))
  passed from n x l h e = refl

  module _ (xs : List Stage) (t : Tree) where
    abbrev Lives : ℕ → Rest → Type 0
    Lives n r = (u : Step) (p : Phase) (x : State) → r ≡ live u p x → (place_at t n ≡ u.place) × (phase_at t n ≡ p) × (stage_at xs n ≡ stage.Live x)

    abbrev found_at : ℕ → LivePhase
    found_at k = live_phase_at t b (k, state_of (stage_at xs k))

    -- the live phase by the first act that is looked for, in a list of acts
    abbrev told : List (ℕ × Rest) → Option ℕ → Option LivePhase
    told l o = live_by t b (λ k. since k l) unit phase (option_map (λ k. (k, state_of (stage_at xs k))) o)

    -- an earlier act changes nothing of it
    told-later : (p : ℕ → Rest → Bool) (e : ℕ × Rest) (l : List (ℕ × Rest)) → Each (λ (z : ℕ × Rest). e.0 < z.0) l → (o : Option ℕ) → o ≡ first_of p l → told l o ≡ told (e ∷ l) o
    told-later p e l h None f = refl
    told-later p e l h (Some k) f =
        let m = first-has p l k f in
        let lt : e.0 < m.0.0 = Each-Has (λ (z : ℕ × Rest). e.0 < z.0) l m.0 h m.1 in
        ap (λ z. elim (same_name (phase_at t k).unit unit) as (λ _. Option LivePhase) [ true ↦ Some (found_at k) | false ↦ live_in b unit phase z ])
        (sym (since-early (k + 1) e l (is-early (k + 1) e.0 (omega (arith, lt, m.2)))))

    module _ (from : ℕ) where
      here : (e : ℕ × Rest) (l : List (ℕ × Rest)) → Each (λ (z : ℕ × Rest). e.0 < z.0) l → Lives e.0 e.1 → looks from phase e.0 e.1 ≡ true → live_in b unit phase (since from (e ∷ l)) ≡ told (e ∷ l) (Some e.0)
      here e l h lives f =
          let g = looked from phase e.0 e.1 f in
          let v = lives g.step g.phase_of g.state g.is in
          let n = e.0 in
          let rest : since from l ≡ since (n + 1) (e ∷ l) =
          since-all from (n + 1) l (omega (arith, g.onwards)) (at-least n l h) ∙ sym (since-all (n + 1) (n + 1) l (omega arith) (at-least n l h))
          ∙ sym (since-early (n + 1) e l (is-early (n + 1) n (omega arith))) in
          let named : same_name g.phase_of.name phase ≡ true = (looks-within from n (same_name g.phase_of.name phase) (ap (looks from phase n) (sym g.is) ∙ f)).1 in
          ap (live_in b unit phase) (since-late from e l (is-late from n g.onwards) ∙ ap (λ z. z ∷ since from l) g.is)
          ∙ ap (λ z. elim (same_name g.phase_of.unit unit && z) as (λ _. Option LivePhase) [ true ↦ Some (record { batch = b; place = g.step.place; phase = g.phase_of; state = g.state }) | false ↦ live_in b unit phase (since from l) ]) named
          ∙ ap (λ z. elim z as (λ _. Option LivePhase) [ true ↦ Some (record { batch = b; place = g.step.place; phase = g.phase_of; state = g.state }) | false ↦ live_in b unit phase (since from l) ]) (and-true (same_name g.phase_of.unit unit))
          ∙ ap (λ z. elim (same_name z.unit unit) as (λ _. Option LivePhase) [ true ↦ Some (record { batch = b; place = g.step.place; phase = z; state = g.state }) | false ↦ live_in b unit phase (since from l) ]) (sym v.1)
          ∙ ap (λ z. elim (same_name (phase_at t n).unit unit) as (λ _. Option LivePhase) [ true ↦ Some (record { batch = b; place = z; phase = phase_at t n; state = g.state }) | false ↦ live_in b unit phase (since from l) ]) (sym v.0)
          ∙ ap (λ z. elim (same_name (phase_at t n).unit unit) as (λ _. Option LivePhase) [ true ↦ Some (record { batch = b; place = place_at t n; phase = phase_at t n; state = z }) | false ↦ live_in b unit phase (since from l) ]) (sym (ap state_of v.2))
          ∙ ap (λ z. elim (same_name (phase_at t n).unit unit) as (λ _. Option LivePhase) [ true ↦ Some (found_at n) | false ↦ live_in b unit phase z ]) rest

      listed : (l : List (ℕ × Rest)) → Ascends l → ((e : ℕ × Rest) → Has l e → Lives e.0 e.1) → live_in b unit phase (since from l) ≡ told l (first_of (looks from phase) l)
      listed [] g k = refl
      listed (e ∷ l) g k = go (looks from phase e.0 e.1) refl (listed l g.1 (λ z m. k z (inr m)) ∙ told-later (looks from phase) e l g.0 (first_of (looks from phase) l) refl)
        where
          go : (c : Bool) → looks from phase e.0 e.1 ≡ c → live_in b unit phase (since from l) ≡ told (e ∷ l) (first_of (looks from phase) l)
              → live_in b unit phase (since from (e ∷ l)) ≡ told (e ∷ l) (elim c as (λ _. Option ℕ) [ true ↦ Some e.0 | false ↦ first_of (looks from phase) l ])
          go true f later = here e l g.0 (k e (inl refl)) f
          go false f later = skipped (nat_le from e.0) refl ∙ later
            where
              skipped : (d : Bool) → nat_le from e.0 ≡ d → live_in b unit phase (since from (e ∷ l)) ≡ live_in b unit phase (since from l)
              skipped true h = ap (live_in b unit phase) (since-late from e l h) ∙ passed from e.0 e.1 (since from l) h f
              skipped false h = ap (live_in b unit phase) (since-early from e l h)

-- The phase that is found

module _ (ns : List Entry) (doc : Recipe) (xs : List Stage) (phase : Name) (from : ℕ) where
  found-is : (t : Tree) (b : Batch) (unit : Name) → IsLaid ns doc t → IsAlive t xs → (o : Option ℕ) → IsFoundFirst ns doc xs (looks from phase) o
      → live_in b unit phase (acts_since t xs from) ≡ live_by t b (acts_since t xs) unit phase (option_map (λ k. (k, state_of (stage_at xs k))) o)
  found-is t b unit laid alive o found =
      listed b unit phase xs t from (numbered t 0 xs) (numbered-ascends ns doc xs t laid alive) (λ e h u p x f. (let g = live-entry ns doc xs t laid e h u p x f in (g.place, g.phase, g.stage_is)))
      ∙ ap (λ z. live_by t b (acts_since t xs) unit phase (option_map (λ k. (k, state_of (stage_at xs k))) z)) (sym (found.means t laid))

  record FoundAt (t : Tree) (k : ℕ) : Type 0 where
    pub onwards : from ≤ k
    pub within : k < length ns
    pub runs_it : phase_named (node_at t k).here ≡ Some ((phase_at t k).unit, phase)
    pub lives_in : IsLiveIn ns xs k (state_of (stage_at xs k))

  found-at : (t : Tree) → IsLaid ns doc t → (k : ℕ) → IsFoundFirst ns doc xs (looks from phase) (Some k) → FoundAt t k
  found-at t laid k found =
      let m = first-has (looks from phase) (numbered t 0 xs) k (found.means t laid) in
      go m.0 m.1 m.2 m.3
    where
      go : (e : ℕ × Rest) → Has (numbered t 0 xs) e → e.0 ≡ k → looks from phase e.0 e.1 ≡ true → FoundAt t k
      go e h at test =
          let v = looked from phase e.0 e.1 test in
          let g = live-entry ns doc xs t laid e h v.step v.phase_of v.state v.is in
          subst (FoundAt t) at record {
            onwards = v.onwards;
            within = g.within;
            runs_it = g.named ∙ ap (λ z. Some (v.phase_of.unit, z)) v.name ∙ ap (λ (z : Phase). Some (z.unit, phase)) (sym g.phase);
            lives_in = (g.kind_is.0, g.kind_is.1, g.within, g.kind_is.2, g.stage_is ∙ ap stage.Live (sym (ap state_of g.stage_is)));
          }

  module _ (lives : SomeLives ns doc xs) where
    pub live-some : (k n : ℕ) (x : State) → IsFoundFirst ns doc xs (looks from phase) (Some k) → n ≡ k → stage_at xs n ≡ stage.Live x → IsLiveFound ns doc xs phase from (Some (k, x))
    live-some k n x found same was =
        let e : state_of (stage_at xs k) ≡ x = ap (λ z. state_of (stage_at xs z)) (sym same) ∙ ap state_of was in
        let f = found-at lives.0 lives.1 k found in
        record {
          found = λ t b unit laid alive. found-is t b unit laid alive (Some k) found ∙ ap (λ z. live_by t b (acts_since t xs) unit phase (Some (k, z))) e;
          runs = λ t laid alive. (found-at t laid k found).runs_it;
          lives = subst (λ z. IsLiveIn ns xs k z) e f.lives_in;
          later = (f.onwards, omega (arith, f.within, lives.1.count, lives.1.small));
        }

    pub live-none : IsFoundFirst ns doc xs (looks from phase) None → IsLiveFound ns doc xs phase from None
    live-none found = record { found = λ t b unit laid alive. found-is t b unit laid alive None found; runs = tt; lives = tt; later = tt }

    pub live-never : (k n : ℕ) → IsFoundFirst ns doc xs (looks from phase) (Some k) → n ≡ k → ((x : State) → stage_at xs n ≡ stage.Live x → ⊥) → ⊥
    live-never k n found same never = never (state_of (stage_at xs k)) (ap (stage_at xs) same ∙ (found-at lives.0 lives.1 k found).lives_in.4)
