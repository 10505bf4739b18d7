-- The change of the whole chart by a change of one act.
use Rattle.std.proofs.Common.{◌≡◌, ◌≢◌, ◌⊎◌, inl, inr, ◌<◌, ◌≤◌, ℕ, zero, suc, ◌+◌, List, [], ◌∷◌, length, Bool, true, false, nat_eq, arith, refl, sym, ◌∙◌, subst, ap, length-set}
use Rattle.std.specs.Prelude.{slice_set}
use Rattle.batch_recipe.{specs.Conditions.ValueList, specs.Nodes.node_count, specs.Nodes.count_within, specs.Tree.Place, specs.Tree.Step, specs.Tree.Task, specs.Tree.runs, specs.Tree.follows, specs.Tree.Tree, specs.Tree.act, specs.Tree.skip, specs.Tree.sel, specs.Tree.loop, proofs.NodeOrder.in_order, specs.declared.entry.Entry.Entry, proofs.NodeSubtrees.some_count, specs.declared.recipe.Recipe.Recipe}
use Rattle.batch_model.{specs.Lists.Has, specs.Rest.same_place, specs.Rest.Rest, specs.Rest.Moment, specs.Rest.advance, specs.Rest.ready, specs.Rest.asking, specs.Rest.open_act, specs.Rest.live, specs.Rest.freeing, specs.Rest.in_seq, specs.Rest.in_par, specs.Rest.in_loop, specs.Rest.done, specs.Rest.Rests, specs.Rest.no_rests, specs.Rest.rest, specs.Rest.acts, specs.Rest.acts_of_each, specs.Rest.changed_at, specs.Rest.is_done, specs.Rest.place_of, specs.Settled.IsAdvanced, specs.Settled.AreAdvanced, specs.Standing.IsRestOf, proofs.Members.Has-split}
use Rattle.batch_step_laws.proofs.{AdvancedRests.advance-advanced, RestsAfterChange.RemainsAs, RestsAfterChange.changed_at-IsRestOf, NodesOfRests.advance-IsRestOf}
use Rattle.batch_chart.{specs.declared.node.Kind.Kind, specs.declared.node.Kind.TheVariants.Act, specs.declared.stage.Stage.Stage, specs.declared.stage.Stage.TheVariants.Freeing, specs.Stages.stage_at, specs.Stages.is_finished, specs.Meaning.meaning, specs.Meaning.meaning_below, specs.Meaning.act_as, specs.Meaning.AgreeOutside, specs.Outlined.end_at, specs.Outlined.kind_at, specs.Outlined.is_act_kind, specs.Outlined.Stands, specs.Advancing.HasAdvanced, specs.Numbered.numbered, specs.NodesOf.nodes_of, specs.NodesOf.node_at, specs.NodesOf.place_at, specs.Running.HasMore, specs.Running.IsLaid, specs.Running.IsAlive, proofs.TreePositions.stood, proofs.TreePositions.some-stands, proofs.StageAgreement.stage-set_same, proofs.StageAgreement.stage-set_other, proofs.StageAgreement.meaning_below-agree, proofs.ReachedTree.within-set, specs.declared.sign.TheConstants.IS_ACT, specs.Noting.signs_of, specs.Needs.needs_of_kind, proofs.NumberedActs.numbered-acts, proofs.NumberedActs.acts-all, proofs.NumberedActs.AllActs, proofs.NodeNumbers.sits-self, proofs.NodeNumbers.same-itself, proofs.NodeNumbers.told, proofs.NodeNumbers.marked, proofs.NodeNumbers.IsEntryOf, proofs.NodeNumbers.entry-of, proofs.StageChange.meaning-changed, proofs.CalmChanges.advanced-still, proofs.CalmChanges.changed-advanced, proofs.NodesAtNumbers.node-got, proofs.NodesAtNumbers.node-stands, proofs.TreeLikeness.told-whichever, proofs.TreeLikeness.told-after, proofs.FinishedStages.nests, proofs.FinishedStages.nests-below, proofs.FinishedStages.told-part, proofs.FinishedStages.told-one, proofs.FinishedStages.told-same, specs.Told.TellsWhetherOver, specs.Told.AreTold, specs.ByValues.bare, specs.ByValues.advance_by}
use Rattle.batch_chart.specs.declared.node.Kind.TheVariants as kind
use Rattle.batch_signs.{specs.Signs.shows, proofs.Bits.nat-same}
use Rattle.batch_record_laws.proofs.Members.{Has-map}

-- acts

pub all-has : (l : List Rest) (a : Rest) → AllActs l → Has l a → shows IS_ACT (signs_of a) ≡ true
all-has [] a h m = absurd m
all-has (b ∷ l) a h (inl e) = ap (λ z. shows IS_ACT (signs_of z)) (sym e) ∙ h.0
all-has (b ∷ l) a h (inr m) = all-has l a h.1 m

undone : (a : Rest) → shows IS_ACT (signs_of a) ≡ true → is_done a ≡ false
undone done e = absurd (cc)
undone a e = refl

pub act-place : (s : Step) (w : Task) (r : Rest) (x : Stage) → is_done (act_as s w r x) ≡ false → place_of (act_as s w r x) ≡ s.place
act-place x1 x2 x3 x4 x5 = grind arith

mutual
  pub acts-advanced : (r a : Rest) → IsAdvanced r → Has (acts r) a → IsAdvanced a
  acts-advanced (ready s w k) a h (inl e) = subst IsAdvanced e tt
  acts-advanced (asking s w k) a h (inl e) = subst IsAdvanced e tt
  acts-advanced (open_act s r) a h (inl e) = subst IsAdvanced e h
  acts-advanced (open_act s r) a h (inr m) = acts-advanced r a h m
  acts-advanced (live s p x) a h (inl e) = subst IsAdvanced e tt
  acts-advanced (freeing s k) a h (inl e) = subst IsAdvanced e tt
  acts-advanced (in_seq r cs) a h m = acts-advanced r a h.1 m
  acts-advanced (in_par rs) a h m = each-advanced rs a h.1 m
  acts-advanced (in_loop n c body r) a h m = acts-advanced r a h.1 m
  acts-advanced done a h m = absurd m
  acts-advanced (ready s w k) a h (inr m) = absurd m
  acts-advanced (asking s w k) a h (inr m) = absurd m
  acts-advanced (live s p x) a h (inr m) = absurd m
  acts-advanced (freeing s k) a h (inr m) = absurd m

  each-advanced : (rs : Rests) (a : Rest) → AreAdvanced rs → Has (acts_of_each rs) a → IsAdvanced a
  each-advanced no_rests a h m = absurd m
  each-advanced (rest r rs) a h m = elim (Has-split (acts r) (acts_of_each rs) a m) [ inl i ↦ acts-advanced r a h.0 i | inr i ↦ each-advanced rs a h.1 i ]

-- the task of an act of the kind, and the number of its needs
abbrev pub Fits : Kind → Step → Task → Type 0
Fits (kind.Phase j i) s (runs p) = length s.needs ≡ j
Fits (Act j) s (follows name c) = length s.needs ≡ j
Fits _ s w = ⊥

pub fits-act : (κ : Kind) (s : Step) (w : Task) → Fits κ s w → is_act_kind κ ≡ true
fits-act x1 x2 x3 x4 = grind arith

pub more-act : (κ : Kind) (i : ℕ) → HasMore κ i → is_act_kind κ ≡ true
more-act x1 x2 x3 = grind arith

pub fits-count : (κ : Kind) (s : Step) (w : Task) → Fits κ s w → length s.needs ≡ needs_of_kind κ
fits-count (kind.Phase j d) s (runs p) f = f
fits-count (Act j) s (follows name c) f = f
fits-count κ s w f = absurd f

pub act-fits : (ns : List Entry) (doc : Recipe) (k : ℕ) (s : Step) (w : Task) → Stands ns doc k (act s w) → Fits (kind_at ns k) s w
act-fits ns doc k s (runs p) h = subst (λ v. Fits v s (runs p)) (sym h.1.1) refl
act-fits ns doc k s (follows name c) h = subst (λ v. Fits v s (follows name c)) (sym h.0.1) refl

pub record IsActHere (ns : List Entry) (k : ℕ) (c : Tree) : Type 0 where
  pub step : Step
  pub task : Task
  pub is : c ≡ act step task
  pub fits : Fits (kind_at ns k) step task

pub act-here : (ns : List Entry) (doc : Recipe) (k : ℕ) (c : Tree) → is_act_kind (kind_at ns k) ≡ true → Stands ns doc k c → IsActHere ns k c
act-here ns doc k (act s w) e h = record { step = s; task = w; is = refl; fits = act-fits ns doc k s w h }
act-here ns doc k skip e h = let d = ap is_act_kind h.1 in absurd (cc)
act-here ns doc k (sel ch) e h = let d = ap is_act_kind h.1.1 in absurd (cc)
act-here ns doc k (loop i p body) e h = let d = ap is_act_kind h.1.1 in absurd (cc)
act-here ns doc k x e h = let d = ap is_act_kind h.0.1 in absurd (cc)

-- act k changes as f says, wherever a tree stands at it
pub record IsStep (ns : List Entry) (doc : Recipe) (k : ℕ) (f : Rest → Rest) (xs ys : List Stage) : Type 0 where
  pub within : k < length ns
  pub is_act : is_act_kind (kind_at ns k) ≡ true
  pub fits : length ys ≡ length xs
  pub outside : AgreeOutside k (end_at ns k) xs ys
  pub now : is_finished (stage_at ys k) ≡ false
  pub was : (c : Tree) → Stands ns doc k c → is_done (meaning c k xs) ≡ false
  pub change : (c : Tree) → Stands ns doc k c → f (meaning c k xs) ≡ meaning c k ys
  pub keeps : (c : Tree) → Stands ns doc k c → RemainsAs (meaning c k xs) (meaning c k ys)

-- and by that nothing is finished
abbrev pub IsCalm : List Entry → Recipe → ℕ → List Stage → List Stage → Type 0
IsCalm ns doc k xs ys = (c : Tree) → Stands ns doc k c → (is_done (meaning c k ys) ≡ false) × (IsAdvanced (meaning c k xs) → IsAdvanced (meaning c k ys))

module _ (ns : List Entry) (doc : Recipe) (t : Tree) (laid : IsLaid ns doc t) where
  -- all stages tell, where those of the tree's own subtrees do
  pub all-told : (xs : List Stage) → IsAlive t xs → AreTold ns doc 0 (length ns) xs
  all-told xs alive n c a b s = told-whichever ns doc xs (node_at t n).here c n (node-stands ns doc t laid n b) s (alive.told n (omega (arith, laid.count, b)))

  pub each-told : (xs : List Stage) → AreTold ns doc 0 (length ns) xs → (n : ℕ) → n < node_count t → TellsWhetherOver (node_at t n).here n xs
  each-told xs h n lt = let b : n < length ns = omega (arith, laid.count, lt) in h n (node_at t n).here (omega arith) b (node-stands ns doc t laid n b)

  module _ (xs : List Stage) where
    -- the numbered act is that of its node
    pub entry-at : (e : ℕ × Rest) → Has (numbered t 0 xs) e → IsEntryOf (nodes_of t) ns doc xs 0 (0 + node_count t) e
    entry-at e m = entry-of (nodes_of t) ns doc xs t 0 (0 ∷ []) [] e laid.stands (sits-self (nodes_of t)) laid.placed m

    pub entry-undone : (e : ℕ × Rest) → Has (acts (meaning t 0 xs)) e.1 → is_done e.1 ≡ false
    entry-undone e h = undone e.1 (all-has (acts (meaning t 0 xs)) e.1 (acts-all (meaning t 0 xs)) h)

    -- the act at a node's place is that of the node
    pub at-place : (k : ℕ) (a : Rest) → k < length ns → Has (acts (meaning t 0 xs)) a → place_of a ≡ place_at t k → (c : Tree) × Stands ns doc k c × (a ≡ meaning c k xs)
    at-place k a lt h e =
        let m = Has-map (λ (z : ℕ × Rest). z.1) (numbered t 0 xs) a (subst (λ l. Has l a) (sym (numbered-acts xs t 0)) h) in
        let g = entry-at m.0 m.1 in
        let un : is_done (meaning (act g.step g.task) m.0.0 xs) ≡ false = ap is_done (sym g.is) ∙ entry-undone m.0 (subst (λ z. Has (acts (meaning t 0 xs)) z) (sym m.2) h) in
        let placed : g.at.place ≡ place_at t k =
        sym g.placed ∙ sym (act-place g.step g.task (meaning_below g.task (m.0.0 + 1) xs) (stage_at xs m.0.0) un) ∙ ap place_of (sym g.is ∙ m.2) ∙ e in
        go g placed m.0.1 (m.2) (told (nodes_of t) (in_order (0 ∷ []) [] t).1 k (node_at t k) (node-got ns doc t laid k lt) m.0.0 g.at g.is_at)
      where
        go : {z : ℕ × Rest} (g : IsEntryOf (nodes_of t) ns doc xs 0 (0 + node_count t) z) → g.at.place ≡ place_at t k → (b : Rest) → z.1 ≡ a → same_place g.at.place (node_at t k).place ≡ nat_eq z.0 k → (c : Tree) × Stands ns doc k c × (a ≡ meaning c k xs)
        go {z} g placed b f test =
            let same : z.0 ≡ k = nat-same z.0 k (sym test ∙ ap (λ q. same_place q (place_at t k)) placed ∙ same-itself (place_at t k)) in
            (act g.step g.task, subst (λ i. Stands ns doc i (act g.step g.task)) same g.stands, sym f ∙ g.is ∙ ap (λ i. meaning (act g.step g.task) i xs) same)

    -- and its number is the node's
    pub number-at-place : (k : ℕ) (a : Rest) → k < length ns → Has (acts (meaning t 0 xs)) a → place_of a ≡ place_at t k → Has (numbered t 0 xs) (k, a)
    number-at-place k a lt h e =
        let m = Has-map (λ (z : ℕ × Rest). z.1) (numbered t 0 xs) a (subst (λ l. Has l a) (sym (numbered-acts xs t 0)) h) in
        let g = entry-at m.0 m.1 in
        let un : is_done (meaning (act g.step g.task) m.0.0 xs) ≡ false = ap is_done (sym g.is) ∙ entry-undone m.0 (subst (λ z. Has (acts (meaning t 0 xs)) z) (sym m.2) h) in
        let placed : g.at.place ≡ place_at t k =
        sym g.placed ∙ sym (act-place g.step g.task (meaning_below g.task (m.0.0 + 1) xs) (stage_at xs m.0.0) un) ∙ ap place_of (sym g.is ∙ m.2) ∙ e in
        let test : same_place g.at.place (place_at t k) ≡ nat_eq m.0.0 k = told (nodes_of t) (in_order (0 ∷ []) [] t).1 k (node_at t k) (node-got ns doc t laid k lt) m.0.0 g.at g.is_at in
        let same : m.0.0 ≡ k = nat-same m.0.0 k (sym test ∙ ap (λ q. same_place q (place_at t k)) placed ∙ same-itself (place_at t k)) in
        subst (λ i. Has (numbered t 0 xs) (i, a)) same (subst (λ z. Has (numbered t 0 xs) (m.0.0, z)) m.2 m.1)

    module _ (alive : IsAlive t xs) (k : ℕ) (f : Rest → Rest) (ys : List Stage) (step : IsStep ns doc k f xs ys) where
      abbrev pub place : Place
      place = place_at t k

      pub stepped : meaning t 0 ys ≡ changed_at place f (meaning t 0 xs)
      stepped =
          meaning-changed (nodes_of t) (in_order (0 ∷ []) [] t).1 k (node_at t k) (node-got ns doc t laid k step.within) ns doc xs ys f step.is_act step.outside step.was step.now step.change t 0 laid.stands
          (marked (nodes_of t) (in_order (0 ∷ []) [] t).1 k (node_at t k) (node-got ns doc t laid k step.within) t 0 (0 ∷ []) [] (sits-self (nodes_of t)) laid.placed)
          (inl (omega arith))

      remaining : IsRestOf t (changed_at place f (meaning t 0 xs))
      remaining = changed_at-IsRestOf place f t (meaning t 0 xs)
          (λ a h e. (let g = at-place k a step.within h e in
          subst (λ z. RemainsAs z (f z)) (sym g.2) (subst (λ z. RemainsAs (meaning g.0 k xs) z) (sym (step.change g.0 g.1)) (step.keeps g.0 g.1))))
          alive.stands

      calm-advanced : IsCalm ns doc k xs ys → IsAdvanced (changed_at place f (meaning t 0 xs))
      calm-advanced calm = changed-advanced place f (meaning t 0 xs)
          (λ a h e. (let g = at-place k a step.within h e in
          let c = calm g.0 g.1 in
          let same : f a ≡ meaning g.0 k ys = ap f g.2 ∙ step.change g.0 g.1 in
          (ap is_done same ∙ c.0, subst IsAdvanced (sym same) (c.1 (subst IsAdvanced g.2 (acts-advanced (meaning t 0 xs) a alive.advanced h))))))
          alive.advanced

      calm-told : IsCalm ns doc k xs ys → (AreTold ns doc (k + 1) (end_at ns k) xs → AreTold ns doc (k + 1) (end_at ns k) ys) → AreTold ns doc 0 (length ns) ys
      calm-told calm below =
          let before = all-told xs alive in
          let here = some-stands ns doc k t 0 laid.stands (omega arith) (omega (arith, laid.count, step.within)) in
          let at = stood ns doc k here.0 here.1 in
          let lt : k < end_at ns k = omega (arith, at.end, some_count here.0) in
          let le : end_at ns k ≤ length ns = omega (arith, at.end, at.fits) in
          let was : is_finished (stage_at xs k) ≡ false = (before k here.0 (omega arith) step.within here.1).finished ∙ step.was here.0 here.1 in
          told-after ns doc k (length ns) xs ys step.outside (step.now ∙ sym was) lt le before
          (told-one ns doc k (end_at ns k) ys
          (λ c s. record { finished = step.now ∙ sym (calm c s).0; advanced = (calm c s).1 (before k c (omega arith) step.within s).advanced })
          (below (told-part ns doc 0 (length ns) (k + 1) (end_at ns k) xs (omega arith) le before)))

      pub calmed : IsCalm ns doc k xs ys → (AreTold ns doc (k + 1) (end_at ns k) xs → AreTold ns doc (k + 1) (end_at ns k) ys)
          → IsAlive t ys × ((mo : Moment) → meaning t 0 ys ≡ advance mo (changed_at place f (meaning t 0 xs)))
      calmed calm below = (
        record {
          fits = step.fits ∙ alive.fits;
          stands = subst (IsRestOf t) (sym stepped) remaining;
          advanced = subst IsAdvanced (sym stepped) (calm-advanced calm);
          told = each-told ys (calm-told calm below);
        },
        λ mo. stepped ∙ sym (advanced-still mo (changed_at place f (meaning t 0 xs)) (calm-advanced calm)),
      )

      pub went : (vs : ValueList) (zs : List Stage) (b : Bool) → HasAdvanced ns doc vs 0 ys zs b → length zs ≡ length ys → AreTold ns doc 0 (length ns) zs → IsAlive t zs × (meaning t 0 zs ≡ advance_by vs (changed_at place f (meaning t 0 xs)))
      went vs zs b a l told =
          let means : meaning t 0 zs ≡ advance_by vs (changed_at place f (meaning t 0 xs)) = (a.means t laid.stands).0 ∙ ap (advance_by vs) stepped in (
            record {
              fits = l ∙ step.fits ∙ alive.fits;
              stands = subst (IsRestOf t) (sym means) (advance-IsRestOf (bare vs) t (changed_at place f (meaning t 0 xs)) remaining);
              advanced = subst IsAdvanced (sym means) (advance-advanced (bare vs) (changed_at place f (meaning t 0 xs)));
              told = each-told zs told;
            },
            means,
          )

-- An act's stage alone changes

abbrev pub IsGood : (Rest → Rest) → Stage → Stage → Step → Task → Rest → Type 0
IsGood f x v s w r =
    (is_done (act_as s w r x) ≡ false) × (f (act_as s w r x) ≡ act_as s w r v) × RemainsAs (act_as s w r x) (f (act_as s w r x))

pub set-step : (ns : List Entry) (doc : Recipe) (xs : List Stage) (t : Tree) → IsLaid ns doc t → IsAlive t xs → (k : ℕ) (f : Rest → Rest) (x v : Stage) (κ : Kind)
    → k < length ns → kind_at ns k ≡ κ → is_act_kind κ ≡ true → stage_at xs k ≡ x → is_finished v ≡ false
    → ((s : Step) (w : Task) (r : Rest) → Fits κ s w → IsGood f x v s w r) → IsStep ns doc k f xs (slice_set xs k v)
set-step ns doc xs t laid alive k f x v κ lt e a was now good =
    record {
      within = lt;
      is_act = acting;
      fits = length-set xs k v;
      outside = λ j h. stage-set_other xs k j v (apart j h);
      now = ap is_finished own ∙ now;
      was = λ c h. (go c h).0;
      change = λ c h. (go c h).1;
      keeps = λ c h. subst (λ z. RemainsAs (meaning c k xs) z) (go c h).1 (go c h).2;
    }
  where
    inside : k < length xs
    inside = omega (arith, laid.count, alive.fits)

    acting : is_act_kind (kind_at ns k) ≡ true
    acting = ap is_act_kind e ∙ a

    own : stage_at (slice_set xs k v) k ≡ v
    own = stage-set_same xs k v inside

    below : k < end_at ns k
    below = (let h = some-stands ns doc k t 0 laid.stands (omega arith) (omega (arith, laid.count)) in omega (arith, (stood ns doc k h.0 h.1).end, some_count h.0))

    apart : (j : ℕ) → (j < k) ⊎ (end_at ns k ≤ j) → j ≢ k
    apart j (inl h) = λ q. absurd (omega arith)
    apart j (inr h) = λ q. absurd (omega (arith, below))

    act-good : (s : Step) (w : Task) → Fits κ s w → (is_done (meaning (act s w) k xs) ≡ false) × (f (meaning (act s w) k xs) ≡ meaning (act s w) k (slice_set xs k v)) × RemainsAs (meaning (act s w) k xs) (f (meaning (act s w) k xs))
    act-good s w h =
        let r = meaning_below w (k + 1) xs in
        let g = good s w r h in
        let old : meaning (act s w) k xs ≡ act_as s w r x = ap (act_as s w r) was in
        let new : meaning (act s w) k (slice_set xs k v) ≡ act_as s w r v =
        ap (λ z. act_as s w z (stage_at (slice_set xs k v) k)) (meaning_below-agree xs (slice_set xs k v) w (k + 1) (within-set xs k (k + 1 + count_within w) v)) ∙ ap (act_as s w r) own in (
          ap is_done old ∙ g.0,
          ap f old ∙ g.1 ∙ sym new,
          subst (λ z. RemainsAs z (f z)) (sym old) g.2,
        )

    go : (c : Tree) → Stands ns doc k c → (is_done (meaning c k xs) ≡ false) × (f (meaning c k xs) ≡ meaning c k (slice_set xs k v)) × RemainsAs (meaning c k xs) (f (meaning c k xs))
    go c h =
        let a = act-here ns doc k c acting h in
        subst (λ z. (is_done (meaning z k xs) ≡ false) × (f (meaning z k xs) ≡ meaning z k (slice_set xs k v)) × RemainsAs (meaning z k xs) (f (meaning z k xs))) (sym a.is)
        (act-good a.step a.task (subst (λ z. Fits z a.step a.task) e a.fits))

-- by that nothing is finished where the act goes on
pub set-calm : (ns : List Entry) (doc : Recipe) (xs : List Stage) (k : ℕ) (x v : Stage) (κ : Kind) → k < length xs → kind_at ns k ≡ κ → is_act_kind κ ≡ true → stage_at xs k ≡ x
    → ((s : Step) (w : Task) (r : Rest) → Fits κ s w → (is_done (act_as s w r v) ≡ false) × (IsAdvanced (act_as s w r x) → IsAdvanced (act_as s w r v))) → IsCalm ns doc k xs (slice_set xs k v)
set-calm ns doc xs k x v κ inside e a was good c h =
    let here = act-here ns doc k c (ap is_act_kind e ∙ a) h in
    subst (λ z. (is_done (meaning z k (slice_set xs k v)) ≡ false) × (IsAdvanced (meaning z k xs) → IsAdvanced (meaning z k (slice_set xs k v)))) (sym here.is)
    (go here.step here.task (subst (λ z. Fits z here.step here.task) e here.fits))
  where
    go : (s : Step) (w : Task) → Fits κ s w → (is_done (meaning (act s w) k (slice_set xs k v)) ≡ false) × (IsAdvanced (meaning (act s w) k xs) → IsAdvanced (meaning (act s w) k (slice_set xs k v)))
    go s w fit =
        let r = meaning_below w (k + 1) xs in
        let g = good s w r fit in
        let old : meaning (act s w) k xs ≡ act_as s w r x = ap (act_as s w r) was in
        let new : meaning (act s w) k (slice_set xs k v) ≡ act_as s w r v =
        ap (λ z. act_as s w z (stage_at (slice_set xs k v) k)) (meaning_below-agree xs (slice_set xs k v) w (k + 1) (within-set xs k (k + 1 + count_within w) v)) ∙ ap (act_as s w r) (stage-set_same xs k v inside) in
        (ap is_done new ∙ g.0, λ d. subst IsAdvanced (sym new) (g.1 (subst IsAdvanced old d)))

-- the stages below it tell as before
pub set-told : (ns : List Entry) (doc : Recipe) (t : Tree) → IsLaid ns doc t → (xs : List Stage) (k : ℕ) (v : Stage) → k < length ns → AreTold ns doc (k + 1) (end_at ns k) xs → AreTold ns doc (k + 1) (end_at ns k) (slice_set xs k v)
set-told ns doc t laid xs k v lt h =
    let here = some-stands ns doc k t 0 laid.stands (omega arith) (omega (arith, laid.count, lt)) in
    told-same ns doc (k + 1) (end_at ns k) xs (slice_set xs k v) (nests-below ns doc k (k + 1) (end_at ns k) (omega arith) (nests ns doc k here.0 here.1)) (within-set xs k (end_at ns k) v) h

-- An act has ended and holds so many needs still, whatever becomes of its descendants

module _ (ns : List Entry) (doc : Recipe) (xs ys : List Stage) (t : Tree) (laid : IsLaid ns doc t) (alive : IsAlive t xs) (k : ℕ) (f : Rest → Rest) (x : Stage) (held : ℕ) (κ : Kind)
    (lt : k < length ns) (e : kind_at ns k ≡ κ) (a : is_act_kind κ ≡ true) (was : stage_at xs k ≡ x) (fits : length ys ≡ length xs) (outside : AgreeOutside k (end_at ns k) xs ys) (own : stage_at ys k ≡ Freeing held)
    (good : (s : Step) (w : Task) (r : Rest) → Fits κ s w → IsGood f x (Freeing held) s w r) where
  freed-good : (s : Step) (w : Task) → Fits κ s w → (is_done (meaning (act s w) k xs) ≡ false) × (f (meaning (act s w) k xs) ≡ meaning (act s w) k ys) × RemainsAs (meaning (act s w) k xs) (f (meaning (act s w) k xs))
  freed-good s w h =
      let r = meaning_below w (k + 1) xs in
      let g = good s w r h in
      let old : meaning (act s w) k xs ≡ act_as s w r x = ap (act_as s w r) was in
      let new : meaning (act s w) k ys ≡ act_as s w r (Freeing held) = ap (act_as s w (meaning_below w (k + 1) ys)) own in (
        ap is_done old ∙ g.0,
        ap f old ∙ g.1 ∙ sym new,
        subst (λ z. RemainsAs z (f z)) (sym old) g.2,
      )

  freed-at : (c : Tree) → Stands ns doc k c → (is_done (meaning c k xs) ≡ false) × (f (meaning c k xs) ≡ meaning c k ys) × RemainsAs (meaning c k xs) (f (meaning c k xs))
  freed-at c h =
      let here = act-here ns doc k c (ap is_act_kind e ∙ a) h in
      subst (λ z. (is_done (meaning z k xs) ≡ false) × (f (meaning z k xs) ≡ meaning z k ys) × RemainsAs (meaning z k xs) (f (meaning z k xs))) (sym here.is)
      (freed-good here.step here.task (subst (λ z. Fits z here.step here.task) e here.fits))

  pub freed-step : IsStep ns doc k f xs ys
  freed-step = record {
    within = lt;
    is_act = ap is_act_kind e ∙ a;
    fits = fits;
    outside = outside;
    now = ap is_finished own;
    was = λ c h. (freed-at c h).0;
    change = λ c h. (freed-at c h).1;
    keeps = λ c h. subst (λ z. RemainsAs (meaning c k xs) z) (freed-at c h).1 (freed-at c h).2;
  }

  freeing-calm : (s : Step) (w : Task) (r : Rest) (n : ℕ) → n ≢ 0 → (is_done (act_as s w r (Freeing n)) ≡ false) × IsAdvanced (act_as s w r (Freeing n))
  freeing-calm s w r zero ne = absurd (ne refl)
  freeing-calm s w r (suc n) ne = (refl, tt)

  pub freed-calm : held ≢ 0 → IsCalm ns doc k xs ys
  freed-calm ne c h =
      let here = act-here ns doc k c (ap is_act_kind e ∙ a) h in
      subst (λ z. (is_done (meaning z k ys) ≡ false) × (IsAdvanced (meaning z k xs) → IsAdvanced (meaning z k ys))) (sym here.is) (go here.step here.task)
    where
      go : (s : Step) (w : Task) → (is_done (meaning (act s w) k ys) ≡ false) × (IsAdvanced (meaning (act s w) k xs) → IsAdvanced (meaning (act s w) k ys))
      go s w =
          let new : meaning (act s w) k ys ≡ act_as s w (meaning_below w (k + 1) ys) (Freeing held) = ap (act_as s w (meaning_below w (k + 1) ys)) own in
          let g = freeing-calm s w (meaning_below w (k + 1) ys) held ne in
          (ap is_done new ∙ g.0, λ d. subst IsAdvanced (sym new) g.1)
