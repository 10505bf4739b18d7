-- The numbered acts are those of the rest, and the meaning of finding none.
use Rattle.std.proofs.Common.{rules, ◌≡◌, ℕ, zero, suc, ◌+◌, List, [], ◌∷◌, ◌++◌, length, take, Bool, true, false, ◌&&◌, Some, None, refl, ◌∙◌, ap, nat_lt}
use Rattle.std.specs.Prelude.{Option, map, flat_map, not, ⊤}
use Rattle.batch_recipe.specs.{declared.need.Need.Need, Nodes.node_count, Tree.Step, Tree.Task, Tree.runs, Tree.follows, Tree.Tree, Tree.act, Tree.skip, Tree.seq, Tree.par, Tree.sel, Tree.loop, Tree.Trees, Tree.no_trees, Tree.tree, Tree.Choices, Tree.otherwise, Tree.choice}
use Rattle.batch_model.specs.{Rest.Rest, Rest.ready, Rest.asking, Rest.open_act, Rest.live, Rest.freeing, Rest.in_seq, Rest.in_par, Rest.in_loop, Rest.done, Rest.Rests, Rest.no_rests, Rest.rest, Rest.acts, Rest.acts_of_each, Plant.held_by, Plant.held_in, Moves.is_empty}
use Rattle.batch_chart.{specs.declared.stage.Stage.Stage, specs.declared.stage.Stage.TheVariants.Finished, specs.declared.stage.Stage.TheVariants.Ready, specs.declared.stage.Stage.TheVariants.Asking, specs.declared.stage.Stage.TheVariants.Open, specs.declared.stage.Stage.TheVariants.Live, specs.declared.stage.Stage.TheVariants.Freeing, specs.declared.stage.Stage.TheVariants.Turning, specs.Stages.stage_at, specs.Stages.is_finished, specs.Stages.is_begun, specs.Stages.turns_of, specs.Meaning.meaning, specs.Meaning.meaning_below, specs.Meaning.meaning_each, specs.Meaning.act_as, specs.Meaning.loop_as, specs.Meaning.meaning_of_branch, specs.Meaning.chosen, specs.Nexts.first_of, specs.Numbered.entries, specs.Numbered.entries_in, specs.Numbered.numbered, specs.Numbered.numbered_below, specs.Numbered.numbered_each, specs.Numbered.numbered_branch, specs.Numbered.numbered_chosen, specs.declared.sign.TheConstants.HOLDS, specs.declared.sign.TheConstants.IS_ACT, specs.Noting.signs_of, proofs.KnownTests.chosen-true, proofs.SignTests.showing, proofs.SignTests.ready-shows, proofs.SignTests.asking-shows, proofs.SignTests.open-shows, proofs.SignTests.live-shows, proofs.SignTests.freeing-shows, proofs.SignTests.ready-holds, proofs.SignTests.asking-holds, proofs.SignTests.open-holds, proofs.SignTests.live-holds, proofs.SignTests.freeing-holds}
use Rattle.batch_signs.specs.Signs.{shows}

has-numbers : (l m : List (ℕ × Rest)) → map (λ a. a.1) (l ++ m) ≡ map (λ a. a.1) l ++ map (λ a. a.1) m
has-numbers [] m = refl
has-numbers (a ∷ l) m = ap (λ z. a.1 ∷ z) (has-numbers l m)

entries-acts : (n : ℕ) (s : Step) (w : Task) (r : Rest) (x : Stage) (below : List (ℕ × Rest)) → map (λ a. a.1) below ≡ acts r → map (λ a. a.1) (entries n (act_as s w r x) below) ≡ acts (act_as s w r x)
entries-acts n s w r Finished below h = refl
entries-acts n s w r (Ready k) below h = refl
entries-acts n s w r (Asking k) below h = refl
entries-acts n s (runs p) r Open below h = refl
entries-acts n s (follows name c) r Open below h = ap (λ z. open_act s r ∷ z) h
entries-acts n s (runs p) r (Live x) below h = refl
entries-acts n s (follows name c) r (Live x) below h = refl
entries-acts n s w r (Freeing zero) below h = refl
entries-acts n s w r (Freeing (suc k)) below h = refl
entries-acts n s w r (Turning k) below h = refl

picked : (b : Bool) (l m : List (ℕ × Rest)) (r t : Rest) → map (λ a. a.1) l ≡ acts r → map (λ a. a.1) m ≡ acts t
    → map (λ a. a.1) (elim b as (λ _. List (ℕ × Rest)) [ true ↦ l | false ↦ m ]) ≡ acts (elim b as (λ _. Rest) [ true ↦ r | false ↦ t ])
picked true l m r t e f = e
picked false l m r t e f = f

module _ (xs : List Stage) where
  mutual
    pub numbered-acts : (c : Tree) (n : ℕ) → map (λ a. a.1) (numbered c n xs) ≡ acts (meaning c n xs)
    numbered-acts (act s w) n = entries-acts n s w (meaning_below w (n + 1) xs) (stage_at xs n) (numbered_below w (n + 1) xs) (numbered_below-acts w (n + 1))
    numbered-acts skip n = refl
    numbered-acts (seq ts) n = picked (is_begun (stage_at xs n)) (numbered_branch ts (n + 1) xs) [] (meaning_of_branch ts (n + 1) xs) done (numbered_branch-acts ts (n + 1)) refl
    numbered-acts (par ts) n = picked (is_begun (stage_at xs n)) (numbered_each ts (n + 1) xs) [] (in_par (meaning_each ts (n + 1) xs)) done (numbered_each-acts ts (n + 1)) refl
    numbered-acts (sel ch) n = picked (is_begun (stage_at xs n)) (numbered_chosen ch (n + 1) xs) [] (chosen ch (n + 1) xs) done (numbered_chosen-acts ch (n + 1)) refl
    numbered-acts (loop k p body) n = go (turns_of (stage_at xs n)) (numbered-acts body (n + 1))
      where
        go : (o : Option ℕ) → map (λ a. a.1) (numbered body (n + 1) xs) ≡ acts (meaning body (n + 1) xs)
            → map (λ a. a.1) (entries_in o (numbered body (n + 1) xs)) ≡ acts (loop_as o p body (meaning body (n + 1) xs))
        go None e = refl
        go (Some k) e = e

    numbered_below-acts : (w : Task) (n : ℕ) → map (λ a. a.1) (numbered_below w n xs) ≡ acts (meaning_below w n xs)
    numbered_below-acts (runs p) n = refl
    numbered_below-acts (follows name c) n = numbered-acts c n

    numbered_each-acts : (ts : Trees) (n : ℕ) → map (λ a. a.1) (numbered_each ts n xs) ≡ acts_of_each (meaning_each ts n xs)
    numbered_each-acts no_trees n = refl
    numbered_each-acts (tree c ts) n =
        has-numbers (numbered c n xs) (numbered_each ts (n + node_count c) xs)
        ∙ ap (λ z. z ++ map (λ a. a.1) (numbered_each ts (n + node_count c) xs)) (numbered-acts c n)
        ∙ ap (λ z. acts (meaning c n xs) ++ z) (numbered_each-acts ts (n + node_count c))

    numbered_branch-acts : (ts : Trees) (n : ℕ) → map (λ a. a.1) (numbered_branch ts n xs) ≡ acts (meaning_of_branch ts n xs)
    numbered_branch-acts no_trees n = refl
    numbered_branch-acts (tree c ts) n =
        picked (is_finished (stage_at xs n)) (numbered_branch ts (n + node_count c) xs) (numbered c n xs) (meaning_of_branch ts (n + node_count c) xs) (in_seq (meaning c n xs) ts)
        (numbered_branch-acts ts (n + node_count c)) (numbered-acts c n)

    numbered_chosen-acts : (ch : Choices) (n : ℕ) → map (λ a. a.1) (numbered_chosen ch n xs) ≡ acts (chosen ch n xs)
    numbered_chosen-acts (otherwise c) n = numbered-acts c n
    numbered_chosen-acts (choice p c ch) n =
        picked (is_finished (stage_at xs n)) (numbered_chosen ch (n + node_count c) xs) (numbered c n xs) (chosen ch (n + node_count c) xs) (meaning c n xs)
        (numbered_chosen-acts ch (n + node_count c)) (numbered-acts c n)

-- The meaning of finding nothing

abbrev pub nothing : Option ℕ → Bool
nothing None = true
nothing (Some k) = false

-- every act shows that it is one
abbrev pub AllActs : List Rest → Type 0
AllActs [] = ⊤
AllActs (a ∷ l) = (shows IS_ACT (signs_of a) ≡ true) × AllActs l

all-append : (l m : List Rest) → AllActs l → AllActs m → AllActs (l ++ m)
all-append [] m h k = k
all-append (a ∷ l) m h k = (h.0, all-append l m h.1 k)

mutual
  pub acts-all : (r : Rest) → AllActs (acts r)
  acts-all (ready s w k) = (ready-shows IS_ACT (length s.needs) k, tt)
  acts-all (asking s w k) = (asking-shows IS_ACT (length s.needs) k, tt)
  acts-all (open_act s r) = (open-shows IS_ACT (length s.needs) (is_empty (acts r)), acts-all r)
  acts-all (live s p x) = (live-shows IS_ACT (length s.needs) x, tt)
  acts-all (freeing s k) = (freeing-shows IS_ACT (length s.needs) k, tt)
  acts-all (in_seq r cs) = acts-all r
  acts-all (in_par rs) = acts-all_each rs
  acts-all (in_loop n c body r) = acts-all r
  acts-all done = tt

  acts-all_each : (rs : Rests) → AllActs (acts_of_each rs)
  acts-all_each no_rests = tt
  acts-all_each (rest r rs) = all-append (acts r) (acts_of_each rs) (acts-all r) (acts-all_each rs)

any-nothing : (l : List (ℕ × Rest)) (as' : List Rest) → map (λ a. a.1) l ≡ as' → AllActs as' → nothing (first_of (showing IS_ACT) l) ≡ is_empty as'
any-nothing [] [] e h = refl
any-nothing (a ∷ l) (b ∷ as') e h =
    let same : a.1 ≡ b = cc in
    ap nothing (chosen-true (showing IS_ACT a.0 a.1) (Some a.0) (first_of (showing IS_ACT) l) (ap (showing IS_ACT a.0) same ∙ h.0))
any-nothing x y e h = absurd (cc)

pub nothing-any : (c : Tree) (n : ℕ) (xs : List Stage) → nothing (first_of (showing IS_ACT) (numbered c n xs)) ≡ is_empty (acts (meaning c n xs))
nothing-any c n xs = any-nothing (numbered c n xs) (acts (meaning c n xs)) (numbered-acts xs c n) (acts-all (meaning c n xs))

holds_some : (k : ℕ) (l : List Need) → (nat_lt 0 k && nat_lt 0 (length l)) ≡ not (is_empty (take k l))
holds_some zero l = refl
holds_some x y = search rules

holds_all : (l : List Need) → nat_lt 0 (length l) ≡ not (is_empty l)
holds_all [] = refl
holds_all (x ∷ l) = search rules

holding-act : (n : ℕ) (a : Rest) → showing HOLDS n a ≡ not (is_empty (held_by a))
holding-act n (ready s w k) = ready-holds (length s.needs) k ∙ holds_some k s.needs
holding-act n (asking s w k) = asking-holds (length s.needs) k ∙ holds_some k s.needs
holding-act n (open_act s r) = open-holds (length s.needs) (is_empty (acts r)) ∙ holds_all s.needs
holding-act n (live s p x) = live-holds (length s.needs) x ∙ holds_all s.needs
holding-act n (freeing s k) = freeing-holds (length s.needs) k ∙ holds_some k s.needs
holding-act n r = refl

held-first : (x y : List Need) (n : ℕ) (o : Option ℕ) → nothing o ≡ is_empty y → nothing (elim (not (is_empty x)) as (λ _. Option ℕ) [ true ↦ Some n | false ↦ o ]) ≡ is_empty (x ++ y)
held-first [] y n o e = e
held-first (z ∷ x) y n o e = refl

holding-nothing : (l : List (ℕ × Rest)) → nothing (first_of (showing HOLDS) l) ≡ is_empty (flat_map held_by (map (λ a. a.1) l))
holding-nothing [] = refl
holding-nothing (a ∷ l) =
    ap (λ b. nothing (elim b as (λ _. Option ℕ) [ true ↦ Some a.0 | false ↦ first_of (showing HOLDS) l ])) (holding-act a.0 a.1)
    ∙ held-first (held_by a.1) (flat_map held_by (map (λ a. a.1) l)) a.0 (first_of (showing HOLDS) l) (holding-nothing l)

pub nothing-holds : (c : Tree) (n : ℕ) (xs : List Stage) → nothing (first_of (showing HOLDS) (numbered c n xs)) ≡ is_empty (held_in (meaning c n xs))
nothing-holds c n xs = holding-nothing (numbered c n xs) ∙ ap (λ l. is_empty (flat_map held_by l)) (numbered-acts xs c n)
