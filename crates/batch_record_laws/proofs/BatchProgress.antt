-- A batch goes on: its charts advance as far as they can, and its holdings in advance pass to the acts that are reached.
use mathlib.Core.Path.{fun_ext}
use Rattle.std.proofs.Common.{arith, ◌≡◌, refl, sym, ◌∙◌, ap, ap₂, subst, List, [], ◌∷◌, ◌++◌, Bool, true, false, not, ◌&&◌, cond, map, filter, sum_by, take, slice_get, ◌≤◌, Some, None, inl, inr, ⊎_elim, nat_eq}
use Rattle.batch_matrix.specs.declared.state.State.{State, TheVariants.Idle, TheVariants.Running, TheVariants.Pausing, TheVariants.Paused, TheVariants.Holding, TheVariants.Held, TheVariants.Restarting, TheVariants.Stopping, TheVariants.Stopped, TheVariants.Aborting, TheVariants.Aborted, TheVariants.Complete}
use Rattle.batch_recipe.specs.{Conditions.Name, Conditions.ValueList, declared.need.Need.Need, Tree.Place, Tree.Step, Tree.Task, Tree.runs, Tree.follows, Tree.Tree, Tree.act, Tree.seq, Tree.par, Tree.sel, Tree.loop, Tree.Trees, Tree.no_trees, Tree.tree, Tree.Choices, Tree.otherwise, Tree.choice}
use Rattle.batch_model.{specs.ActStates.steps, specs.ActStates.steps_below, specs.ActStates.steps_of_each, specs.ActStates.steps_of_choices, specs.Cleared.Ranking, specs.Lists.Has, specs.Plant.Setup, specs.Plant.InAdvance, specs.Plant.Batch, specs.Plant.Share, specs.Plant.Plant, specs.Plant.is_act_reached, specs.Rest.Rest, specs.Rest.Moment, specs.Rest.ready, specs.Rest.asking, specs.Rest.open_act, specs.Rest.live, specs.Rest.freeing, specs.Rest.in_seq, specs.Rest.in_par, specs.Rest.in_loop, specs.Rest.done, specs.Rest.Rests, specs.Rest.no_rests, specs.Rest.rest, specs.Rest.acts, specs.Rest.acts_of_each, specs.Rest.advance, specs.Rest.place_of, specs.Rest.changed_at, specs.Runs.Out, specs.Runs.goes_on, specs.Records.state_told, specs.Standing.IsRestOf, specs.Standing.IsRestBelow, specs.Standing.IsBranch, specs.Standing.AreBranches, specs.Standing.IsChosen, specs.Standing.IsStandingBatch, specs.Standing.IsStanding, specs.Standing.is_resting, proofs.Members.Has-split, proofs.Members.Has-left, proofs.Members.Has-right}
use Rattle.batch_step_laws.proofs.{RestsAfterChange.RemainsAs, RestsAfterChange.changed_at-IsRestOf, HoldersInAdvance.holding-goes_on, HoldersInAdvance.holding-busy, NodesOfRests.advance-IsRestOf}
use Rattle.batch_record_laws.proofs.{ClearanceDownTrees.IsClearedDown, Members.map-Has, PlantFacts.awaiting, PlantFacts.performing, PlantFacts.holding, PlantFacts.Standing, PlantFacts.facts, PlantFacts.early_facts, PlantFacts.batch_facts, PlantFacts.entries_of, PlantFacts.entries, PlantFacts.need, FactsAfterAdvance.advance-facts, Entries.nat_same, Entries.Has-filter, Entries.Has-holders, Entries.holders-Has, Batches.only, Batches.only-hit, Batches.only-miss, Batches.same-batch, Batches.Has-only, SameFacts.AreAlike, SameFacts.alike-same, SameFacts.StandApart, SameFacts.left_over, SameFacts.raised-alike, SameFacts.entries_of-alike, SameFacts.entries-alike, SameFacts.holders-alike, HoldingsInAdvance.at_moment, HoldingsInAdvance.Nowhere, HoldingsInAdvance.raised, HoldingsInAdvance.places, HoldingsInAdvance.IsSteady, HoldingsInAdvance.IsTidy, HoldingsInAdvance.moved-raised, HoldingsInAdvance.reached-raised, HoldingsInAdvance.reached-at, HoldingsInAdvance.fresh-where-none, HoldingsInAdvance.AtOnce, HoldingsInAdvance.at_once, Invariant.IsFitting, Invariant.IsFirstNeed, Invariant.AreFirstNeeds, Invariant.IsSound, Invariant.IsKept, Invariant.numbers-of, ActChanges.changed_plant}

-- The step of an act that remains of a tree is one of the tree's

-- the act is of this step
abbrev pub IsOfStep : Rest → Step → Type 0
IsOfStep (ready t v j) s = t ≡ s
IsOfStep (asking t v j) s = t ≡ s
IsOfStep (open_act t r) s = t ≡ s
IsOfStep (live t y x) s = t ≡ s
IsOfStep (freeing t j) s = t ≡ s
IsOfStep _ s = ⊥

mutual
  pub act-step_in : (c : Tree) (r a : Rest) (s : Step) → IsRestOf c r → Has (acts r) a → IsOfStep a s → Has (steps c) s
  act-step_in (act u w) (ready t v j) a s re (inl e) o = inl (sym re.0 ∙ subst (λ z. IsOfStep z s) (sym e) o)
  act-step_in (act u w) (ready t v j) a s re (inr i) o = absurd i
  act-step_in (act u w) (asking t v j) a s re (inl e) o = inl (sym re.0 ∙ subst (λ z. IsOfStep z s) (sym e) o)
  act-step_in (act u w) (asking t v j) a s re (inr i) o = absurd i
  act-step_in (act u w) (open_act t r) a s re (inl e) o = inl (sym re.0 ∙ subst (λ z. IsOfStep z s) (sym e) o)
  act-step_in (act u w) (open_act t r) a s re (inr i) o = inr (act-step_below w r a s re.1 i o)
  act-step_in (act u w) (live t y x) a s re (inl e) o = inl (sym re.0 ∙ subst (λ z. IsOfStep z s) (sym e) o)
  act-step_in (act u w) (live t y x) a s re (inr i) o = absurd i
  act-step_in (act u w) (freeing t j) a s re (inl e) o = inl (sym re.0 ∙ subst (λ z. IsOfStep z s) (sym e) o)
  act-step_in (act u w) (freeing t j) a s re (inr i) o = absurd i
  act-step_in (seq cs) (in_seq r ds) a s re i o = act-step_among cs r ds a s re i o
  act-step_in (par cs) (in_par rs) a s re i o = act-step_each cs rs a s re i o
  act-step_in (sel ch) r a s re i o = act-step_chosen ch r a s re i o
  act-step_in (loop n c b) (in_loop m d x r) a s re i o = act-step_in b r a s re.3 i o
  act-step_in c done a s re i o = absurd i
  act-step_in _ _ a s re i o = absurd re

  act-step_below : (w : Task) (r a : Rest) (s : Step) → IsRestBelow w r → Has (acts r) a → IsOfStep a s → Has (steps_below w) s
  act-step_below (runs x) r a s re i o = absurd re
  act-step_below (follows name c) r a s re i o = act-step_in c r a s re i o

  act-step_among : (cs : Trees) (r : Rest) (ds : Trees) (a : Rest) (s : Step) → IsBranch cs r ds → Has (acts r) a → IsOfStep a s → Has (steps_of_each cs) s
  act-step_among no_trees r ds a s re i o = absurd re
  act-step_among (tree c cs) r ds a s (inl re) i o = Has-left (steps c) (steps_of_each cs) s (act-step_in c r a s re.0 i o)
  act-step_among (tree c cs) r ds a s (inr re) i o = Has-right (steps c) (steps_of_each cs) s (act-step_among cs r ds a s re i o)

  act-step_each : (cs : Trees) (rs : Rests) (a : Rest) (s : Step) → AreBranches cs rs → Has (acts_of_each rs) a → IsOfStep a s → Has (steps_of_each cs) s
  act-step_each no_trees no_rests a s re i o = absurd i
  act-step_each (tree c cs) (rest r rs) a s re i o =
      ⊎_elim (λ m. Has-left (steps c) (steps_of_each cs) s (act-step_in c r a s re.0 m o)) (λ m. Has-right (steps c) (steps_of_each cs) s (act-step_each cs rs a s re.1 m o))
      (Has-split (acts r) (acts_of_each rs) a i)
  act-step_each cs rs a s re i o = absurd (grind arith)

  act-step_chosen : (ch : Choices) (r a : Rest) (s : Step) → IsChosen ch r → Has (acts r) a → IsOfStep a s → Has (steps_of_choices ch) s
  act-step_chosen (otherwise c) r a s re i o = act-step_in c r a s re i o
  act-step_chosen (choice q c ch) r a s (inl re) i o = Has-left (steps c) (steps_of_choices ch) s (act-step_in c r a s re i o)
  act-step_chosen (choice q c ch) r a s (inr re) i o = Has-right (steps c) (steps_of_choices ch) s (act-step_chosen ch r a s re i o)

-- Facts that fit a state

-- a batch in this state may hold something in advance
abbrev pub is_under_way : State → Bool
is_under_way now = goes_on now && not (is_resting now)

pub fits-under_way : (x : State) (es : List Standing) → is_under_way x ≡ true → IsFitting x es
fits-under_way Idle es e = let bad : false ≡ true = e in absurd cc
fits-under_way Complete es e = let bad : false ≡ true = e in absurd cc
fits-under_way Stopped es e = let bad : false ≡ true = e in absurd cc
fits-under_way Aborted es e = let bad : false ≡ true = e in absurd cc
fits-under_way Stopping es e = let bad : false ≡ true = e in absurd cc
fits-under_way Aborting es e = let bad : false ≡ true = e in absurd cc
fits-under_way Running es e = tt
fits-under_way Pausing es e = tt
fits-under_way Paused es e = tt
fits-under_way Holding es e = tt
fits-under_way Held es e = tt
fits-under_way Restarting es e = tt

first-of : (xs : List Need) (u : Need) → slice_get xs 0 ≡ Some u → take 1 xs ≡ u ∷ []
first-of [] u e = let bad : None ≡ Some u = e in absurd cc
first-of (x ∷ xs) u e = let same : x ≡ u = (let q : Some x ≡ Some u = e in cc) in ap (λ z. z ∷ []) same

-- a batch that isn't under way holds nothing in advance
pub early-none : (d : Setup) (b : Batch) → IsStandingBatch d b → is_under_way b.state ≡ false → b.in_advance ≡ []
early-none d b h e = go b.in_advance refl
  where
    go : (xs : List InAdvance) → b.in_advance ≡ xs → xs ≡ []
    go [] q = refl
    go (held ∷ xs) q =
        let there : Has b.in_advance held = subst (λ ys. Has ys held) (sym q) (inl refl) in
        let on : goes_on b.state ≡ true = holding-goes_on d b held h there in
        let busy : is_resting b.state ≡ false = holding-busy d b held h there in
        absurd (both (goes_on b.state) (is_resting b.state) on busy e)
      where
        both : (x y : Bool) → x ≡ true → y ≡ false → (x && not y) ≡ false → ⊥
        both true false u v w = let bad : true ≡ false = w in cc
        both true true u v w = let bad : true ≡ false = v in cc
        both false y u v w = let bad : false ≡ true = u in cc

-- A batch before its charts go on, and after

pub record GoesOn (b : Batch) (p : Place) (f : Moment → Rest → Rest) (vs : ValueList) (xs : List InAdvance) (g h : Batch → Batch) : Type 0 where
  pub number : (g b).number ≡ b.number
  pub changed : (g b).rest ≡ changed_at p (f (at_moment vs [])) b.rest
  pub early : (g b).in_advance ≡ xs
  pub same_number : (h b).number ≡ b.number
  pub same_recipe : (h b).recipe ≡ b.recipe
  pub same_state : (h b).state ≡ (g b).state
  pub advanced : (h b).rest ≡ advance (at_moment vs (places xs)) (changed_at p (f (at_moment vs (places xs))) b.rest)
  pub left : (h b).in_advance ≡ left_over (h b).rest xs

-- the holdings in advance before the charts go on
pub record HoldsAhead (b : Batch) (xs : List InAdvance) : Type 0 where
  pub apart : StandApart xs
  pub units : AreFirstNeeds b.recipe.procedure xs
  pub nowhere : (held : InAdvance) → Has xs held → Nowhere held.place (acts b.rest)

apart-filter : (p : InAdvance → Bool) (xs : List InAdvance) → StandApart xs → StandApart (filter p xs)
apart-filter p [] h = tt
apart-filter p (x ∷ xs) h = go (p x) (apart-filter p xs h.1)
  where
    go : (t : Bool) → StandApart (filter p xs) → StandApart (cond t (x ∷ filter p xs) (filter p xs))
    go true m = (λ y k. h.0 y (Has-filter p xs y k).0, m)
    go false m = m

module _ (d : Setup) (rank : Ranking) (outs : List Out) (s : Plant) (sd : IsStanding d s) (b : Batch) (i : Has s.batches b) (sound : IsSound d rank b) (stands : IsStandingBatch d b) where
  module _ (p : Place) (f : Moment → Rest → Rest) (vs : ValueList) (xs : List InAdvance) (g h : Batch → Batch) (on : GoesOn b p f vs xs g h) (ahead : HoldsAhead b xs)
      (steady : IsSteady f) (tidy : IsTidy (f (at_moment vs []))) (remains : (a : Rest) → Has (acts b.rest) a → place_of a ≡ p → RemainsAs a (f (at_moment vs []) a))
      (none : is_under_way (g b).state ≡ false → xs ≡ []) where
    -- the rest to which the charts would advance if nothing were held in advance
    abbrev reached : Rest
    reached = advance (at_moment vs []) (changed_at p (f (at_moment vs [])) b.rest)

    is_raised : (h b).rest ≡ raised xs reached
    is_raised = on.advanced ∙ moved-raised f steady vs p b.rest xs ahead.nowhere

    remains-reached : IsRestOf b.recipe.procedure reached
    remains-reached =
        advance-IsRestOf (at_moment vs []) b.recipe.procedure (changed_at p (f (at_moment vs [])) b.rest)
        (changed_at-IsRestOf p (f (at_moment vs [])) b.recipe.procedure b.rest remains stands.stands)

    takes : (held : InAdvance) → Has xs held → is_act_reached reached held.place ≡ true → AtOnce held.place held.unit reached
    takes held j e =
        let a = reached-at held.place reached e in
        let fresh = fresh-where-none vs p (f (at_moment vs [])) tidy b.rest a.0 a.1 (λ c k q. ahead.nowhere held j c k (q ∙ a.2)) in
        let at : fresh.0.place ≡ held.place = ap place_of (sym fresh.2) ∙ a.2 in
        let step : Has (steps b.recipe.procedure) fresh.0 = act-step_in b.recipe.procedure reached a.0 fresh.0 remains-reached a.1 (subst (λ z. IsOfStep z fresh.0) (sym fresh.2) refl) in
        at_once held.place held.unit fresh.0 fresh.1 at (first-of fresh.0.needs held.unit (ahead.units held j fresh.0 step at)) (0 ∷ []) b.recipe.procedure reached sound.cleared.placed remains-reached
        (subst (Has (acts reached)) fresh.2 a.1)

    left-same : left_over (h b).rest xs ≡ left_over reached xs
    left-same = ap (λ test. filter (λ (held : InAdvance). not (test held.place)) xs) (ap is_act_reached is_raised ∙ fun_ext (λ q. reached-raised xs reached q))

    facts-alike : AreAlike (batch_facts (g b)) (batch_facts (h b))
    facts-alike =
        let all = raised-alike reached xs ahead.apart takes in
        let before : batch_facts (g b) ≡ early_facts xs ++ facts reached
        = ap₂ (λ ys zs. early_facts ys ++ zs) on.early (ap facts on.changed ∙ sym (advance-facts vs (changed_at p (f (at_moment vs [])) b.rest))) in
        let after : batch_facts (h b) ≡ early_facts (left_over reached xs) ++ facts (raised xs reached)
        = ap₂ (λ ys zs. early_facts ys ++ zs) (on.left ∙ left-same) (ap facts is_raised) in
        record {
          sums = λ amount. ap (λ zs. sum_by amount zs) before ∙ (sym (all.sums amount) ∙ ap (λ zs. sum_by amount zs) (sym after));
          there = λ x k. subst (λ zs. Has zs x) (sym after) (all.back x (subst (λ zs. Has zs x) before k));
          back = λ x k. subst (λ zs. Has zs x) (sym before) (all.there x (subst (λ zs. Has zs x) after k));
        }

    still-fits : IsFitting (g b).state (facts (g b).rest) → IsFitting (h b).state (facts (h b).rest)
    still-fits k = subst (λ x. IsFitting x (facts (h b).rest)) (sym on.same_state) (go (is_under_way (g b).state) refl)
      where
        go : (t : Bool) → is_under_way (g b).state ≡ t → IsFitting (g b).state (facts (h b).rest)
        go true e = fits-under_way (g b).state (facts (h b).rest) e
        go false e =
            let same : facts (h b).rest ≡ facts (g b).rest
            = ap facts is_raised ∙ (ap (λ ys. facts (raised ys reached)) (none e) ∙ (advance-facts vs (changed_at p (f (at_moment vs [])) b.rest) ∙ ap facts (sym on.changed))) in
            subst (IsFitting (g b).state) (sym same) k

    still-sound : IsFitting (g b).state (facts (g b).rest) → IsSound d rank (h b)
    still-sound k = record {
      cleared = subst (λ r. IsClearedDown d rank r) (sym on.same_recipe) sound.cleared;
      fits = still-fits k;
      apart = subst StandApart (sym on.left) (apart-filter (λ held. not (is_act_reached (h b).rest held.place)) xs ahead.apart);
      units = λ held j.
          subst (λ r. IsFirstNeed r.procedure held) (sym on.same_recipe)
          (ahead.units held (Has-filter (λ held. not (is_act_reached (h b).rest held.place)) xs held (subst (λ ys. Has ys held) on.left j)).0);
    }

    each-alike : (c : Batch) → Has s.batches c → AreAlike (entries_of (only b.number g c)) (entries_of (only b.number h c))
    each-alike c j = go (nat_eq c.number b.number) refl
      where
        go : (t : Bool) → nat_eq c.number b.number ≡ t → AreAlike (entries_of (elim t [ true ↦ g c | false ↦ c ])) (entries_of (elim t [ true ↦ h c | false ↦ c ]))
        go true e =
            let same : b ≡ c = sym (same-batch s.next_number s.batches c b (numbers-of d s sd) j i (nat_same c.number b.number e)) in
            subst (λ z. AreAlike (entries_of (g z)) (entries_of (h z))) same (entries_of-alike (g b) (h b) (on.number ∙ sym on.same_number) facts-alike)
        go false e = alike-same (entries_of c) (entries_of c) refl

    pub all-alike : AreAlike (entries (map (only b.number g) s.batches)) (entries (map (only b.number h) s.batches))
    all-alike = entries-alike b.number g h s.batches each-alike

    -- the invariant holds after the charts go on if it does before
    pub kept-on : (line : Name → List Share) → IsKept d rank outs (changed_plant s b.number g line) → IsKept d rank outs (changed_plant s b.number h line)
    kept-on line k =
        let E = entries (map (only b.number g) s.batches) in
        let F = entries (map (only b.number h) s.batches) in
        let here : Has (map (only b.number g) s.batches) (g b) = subst (Has (map (only b.number g) s.batches)) (only-hit b.number g b refl) (map-Has (only b.number g) s.batches b i) in
        let there : (c : Batch) → Has s.batches c → (c.number ≡ b.number → ⊥) → Has (map (only b.number g) s.batches) c
        = λ c j apart. subst (Has (map (only b.number g) s.batches)) (only-miss b.number g c apart) (map-Has (only b.number g) s.batches c j) in
        record {
          sound = λ c j.
              ⊎_elim (λ e. subst (IsSound d rank) (sym e) (still-sound (k.sound (g b) here).fits)) (λ m. k.sound c (there c m.0 m.1))
              (Has-only s.next_number s.batches b h c (numbers-of d s sd) i j);
          held = λ q. (
            λ amount. (k.held q).0 amount ∙ holders-alike q E F all-alike amount,
            λ a j. holders-Has q F a (all-alike.there (a.act, holding (need q a.units)) (Has-holders q E a ((k.held q).1 a j))),
            λ a j. (k.held q).2 a (holders-Has q E a (all-alike.back (a.act, holding (need q a.units)) (Has-holders q F a j))),
            (k.held q).3,
          );
          within = λ q. subst (λ n. n ≤ d.capacity q) (holders-alike q E F all-alike (λ share. share.units)) (k.within q);
          lines = k.lines;
          asked = λ q a j. all-alike.there (a.act, awaiting (need q a.units)) (k.asked q a j);
          once = k.once;
          active = λ x j. all-alike.there (x.act, performing x.phase) (k.active x j);
          listed = λ q a j. k.listed q a (all-alike.back (a.act, awaiting (need q a.units)) j);
          shown = λ a x j. k.shown a x (all-alike.back (a, performing x) j);
          states = λ c j.
              ⊎_elim
              (λ e.
              subst (λ z. state_told outs z.number ≡ Some z.state) (sym e)
              (ap (state_told outs) (on.same_number ∙ sym on.number) ∙ (k.states (g b) here ∙ ap Some (sym on.same_state))))
              (λ m. k.states c (there c m.0 m.1))
              (Has-only s.next_number s.batches b h c (numbers-of d s sd) i j);
        }
