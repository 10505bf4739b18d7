-- Trees that stand at the same node, and stages that differ below one node alone: as much is left of them, and as much to be reached.
use Rattle.std.proofs.Common.{◌≡◌, ◌≢◌, ◌⊎◌, inl, inr, ◌<◌, ◌≤◌, ℕ, zero, suc, ◌+◌, List, length, Bool, true, false, ◌&&◌, Some, None, arith, refl, sym, ◌∙◌, subst, ap, ap₂}
use Rattle.std.{specs.Prelude.Option, proofs.lemmas.Bool.cases_lt, proofs.lemmas.Bool.Decides.eqb_tells}
use Rattle.batch_recipe.{specs.Conditions.Name, specs.declared.condition.Condition.Condition, specs.Nodes.node_count, specs.Tree.Step, specs.Tree.Phase, specs.Tree.runs, specs.Tree.follows, specs.Tree.Tree, specs.Tree.act, specs.Tree.skip, specs.Tree.seq, specs.Tree.par, specs.Tree.sel, specs.Tree.loop, specs.Tree.Trees, specs.Tree.no_trees, specs.Tree.tree, specs.Tree.Choices, specs.Tree.otherwise, specs.Tree.choice, specs.declared.entry.Entry.Entry, specs.declared.recipe.Recipe.Recipe, proofs.NodeSubtrees.some_count}
use Rattle.batch_model.specs.{Rest.Rest, Rest.in_seq, Rest.in_par, Rest.done, Rest.Rests, Rest.rest, Rest.is_done, Rest.all_done, Moves.freed, Settled.IsAdvanced, Settled.AreAdvanced}
use Rattle.batch_chart.{specs.declared.stage.Stage.Stage, specs.declared.stage.Stage.TheVariants.Open, specs.declared.stage.Stage.TheVariants.Freeing, specs.Stages.stage_at, specs.Stages.is_finished, specs.Stages.is_begun, specs.Stages.turns_of, specs.Meaning.meaning, specs.Meaning.meaning_each, specs.Meaning.act_as, specs.Meaning.loop_as, specs.Meaning.meaning_of_branch, specs.Meaning.chosen, specs.Meaning.AgreeOutside, specs.Outlined.end_at, specs.Outlined.Stands, specs.Outlined.AreStanding, specs.Outlined.AreChoices, specs.Told.TellsWhetherOver, specs.Told.AreTold, proofs.TreePositions.choices-pos, proofs.TreePositions.stood, proofs.TreePositions.stood-each, proofs.TreePositions.stood-choices, proofs.TreePositions.nested, proofs.TreePositions.PhaseAt, proofs.TreePositions.phase_at, proofs.TreePositions.phase-at, proofs.TreePositions.ActAt, proofs.TreePositions.act_at, proofs.TreePositions.act-at, proofs.TreePositions.SkipAt, proofs.TreePositions.skip_at, proofs.TreePositions.skip-at, proofs.TreePositions.SeqAt, proofs.TreePositions.seq_at, proofs.TreePositions.seq-at, proofs.TreePositions.ParAt, proofs.TreePositions.par_at, proofs.TreePositions.par-at, proofs.TreePositions.SelAt, proofs.TreePositions.sel_at, proofs.TreePositions.sel-at, proofs.TreePositions.LoopAt, proofs.TreePositions.loop_at, proofs.TreePositions.loop-at}

-- as much is left, and as much to be reached
abbrev pub Alike : Rest → Rest → Type 0
Alike r q = (is_done r ≡ is_done q) × (IsAdvanced r → IsAdvanced q)

abbrev AllAlike : Rests → Rests → Type 0
AllAlike rs qs = (all_done rs ≡ all_done qs) × (AreAdvanced rs → AreAdvanced qs)

itself : (r : Rest) → Alike r r
itself r = (refl, λ h. h)

pub alike-trans : (r q p : Rest) → Alike r q → Alike q p → Alike r p
alike-trans r q p a b = (a.0 ∙ b.0, λ h. b.1 (a.1 h))

pick : (b e : Bool) (r q s t : Rest) → b ≡ e → Alike r s → Alike q t → Alike (elim b as (λ _. Rest) [ true ↦ r | false ↦ q ]) (elim e as (λ _. Rest) [ true ↦ s | false ↦ t ])
pick true true r q s t e a b = a
pick false false r q s t e a b = b
pick x1 x2 x3 x4 x5 x6 x7 x8 x9 = absurd (grind arith)

like-seq : (r q : Rest) (ts us : Trees) → Alike r q → Alike (in_seq r ts) (in_seq q us)
like-seq r q ts us a = (refl, λ h. (sym a.0 ∙ h.0, a.1 h.1))

like-par : (rs qs : Rests) → AllAlike rs qs → Alike (in_par rs) (in_par qs)
like-par rs qs a = (refl, λ h. (sym a.0 ∙ h.0, a.1 h.1))

like-each : (r q : Rest) (rs qs : Rests) → Alike r q → AllAlike rs qs → AllAlike (rest r rs) (rest q qs)
like-each r q rs qs a b = (ap₂ (λ x y. x && y) a.0 b.0, λ h. (a.1 h.0, b.1 h.1))

like-loop : (o e : Option ℕ) (p w : Condition) (body other : Tree) (r q : Rest) → o ≡ e → Alike r q → Alike (loop_as o p body r) (loop_as e w other q)
like-loop o e p w body other r q s a = subst (λ z. Alike (loop_as o p body r) (loop_as z w other q)) s (go o)
  where
    go : (o : Option ℕ) → Alike (loop_as o p body r) (loop_as o w other q)
    go None = (refl, λ h. tt)
    go (Some k) = (refl, λ h. (sym a.0 ∙ h.0, a.1 h.1))

like-freed : (s t : Step) (k : ℕ) → Alike (freed s k) (freed t k)
like-freed s t zero = (refl, λ h. tt)
like-freed s t (suc k) = (refl, λ h. tt)

like-phase : (s t : Step) (p q : Phase) (r u : Rest) (x : Stage) → Alike (act_as s (runs p) r x) (act_as t (runs q) u x)
like-phase s t p q r u (Freeing k) = like-freed s t k
like-phase s t p q r u x = (refl, λ h. tt)

like-act : (s t : Step) (m n : Name) (c d : Tree) (r u : Rest) (x : Stage) → Alike r u → Alike (act_as s (follows m c) r x) (act_as t (follows n d) u x)
like-act s t m n c d r u Open a = (refl, a.1)
like-act s t m n c d r u (Freeing k) a = like-freed s t k
like-act s t m n c d r u x a = (refl, λ h. tt)

-- the other trees at a node of the kind

module _ (ns : List Entry) (doc : Recipe) (n : ℕ) where
  phase-like : (k i : ℕ) (d : Tree) → PhaseAt ns doc n k i d → (s : Step) × (q : Phase) × (d ≡ act s (runs q))
  phase-like k i _ (phase_at s q a b e) = (s, q, refl)

  act-like : (k : ℕ) (d : Tree) → ActAt ns doc n k d → (s : Step) × (m : Name) × (c : Tree) × (d ≡ act s (follows m c)) × Stands ns doc (n + 1) c
  act-like k _ (act_at s m c a f e) = (s, m, c, refl, a)

  skip-like : (d : Tree) → SkipAt ns doc n d → d ≡ skip
  skip-like _ skip_at = refl

  seq-like : (d : Tree) → SeqAt ns doc n d → (us : Trees) × (d ≡ seq us) × AreStanding ns doc (n + 1) (end_at ns n) us
  seq-like _ (seq_at us a) = (us, refl, a)

  par-like : (d : Tree) → ParAt ns doc n d → (us : Trees) × (d ≡ par us) × AreStanding ns doc (n + 1) (end_at ns n) us
  par-like _ (par_at us a) = (us, refl, a)

  sel-like : (i : ℕ) (d : Tree) → SelAt ns doc n i d → (ch : Choices) × (d ≡ sel ch) × AreChoices ns doc i (n + 1) (end_at ns n) ch
  sel-like i _ (sel_at ch a) = (ch, refl, a)

  loop-like : (k i : ℕ) (d : Tree) → LoopAt ns doc n k i d → (p : Condition) × (body : Tree) × (d ≡ loop k p body) × Stands ns doc (n + 1) body
  loop-like k i _ (loop_at p body q a b) = (p, body, refl, a)

module _ (ns : List Entry) (doc : Recipe) (p : ℕ) where
  -- the node isn't below p
  abbrev pub Apart : ℕ → Type 0
  Apart n = (n ≤ p) ⊎ (end_at ns p ≤ n)

  pub next-apart : (n : ℕ) → n ≢ p → Apart n → Apart (n + 1)
  next-apart n ne (inl le) = inl (omega arith)
  next-apart n ne (inr le) = inr (omega arith)

  pub after-apart : (n : ℕ) (c : Tree) → Stands ns doc n c → Apart n → Apart (n + node_count c)
  after-apart n c h (inr le) = inr (omega arith)
  after-apart n c h (inl le) = elim (cases_lt p (n + node_count c)) [ inl q ↦ inr (nested ns doc p c n h le q) | inr q ↦ inl q ]

  module _ (xs ys : List Stage) (outside : AgreeOutside p (end_at ns p) xs ys) (kept : is_finished (stage_at ys p) ≡ is_finished (stage_at xs p)) where
    pub same-stage : (n : ℕ) → n ≢ p → Apart n → stage_at ys n ≡ stage_at xs n
    same-stage n ne (inl le) = outside n (inl (omega arith))
    same-stage n ne (inr le) = outside n (inr le)

    pub same-status : (n : ℕ) → Apart n → is_finished (stage_at ys n) ≡ is_finished (stage_at xs n)
    same-status n a = elim (eqb_tells n p) [
      | inl q ↦ subst (λ i. is_finished (stage_at ys i) ≡ is_finished (stage_at xs i)) (sym q.1) kept
      | inr q ↦ ap is_finished (same-stage n q.1 a)
    ]

    module _ (here : (c d : Tree) → Stands ns doc p c → Stands ns doc p d → Alike (meaning c p xs) (meaning d p ys)) where
      at-node : (n : ℕ) (c d : Tree) → n ≡ p → Stands ns doc n c → Stands ns doc n d → Alike (meaning c n xs) (meaning d n ys)
      at-node n c d e h k =
          subst (λ i. Alike (meaning c i xs) (meaning d i ys)) (sym e) (here c d (subst (λ i. Stands ns doc i c) e h) (subst (λ i. Stands ns doc i d) e k))

      same-end : (n : ℕ) (c d : Tree) → Stands ns doc n c → Stands ns doc n d → n + node_count d ≡ n + node_count c
      same-end n c d h k = sym (stood ns doc n d k).end ∙ (stood ns doc n c h).end

      mutual
        pub alike : (c d : Tree) (n : ℕ) → Stands ns doc n c → Stands ns doc n d → Apart n → Alike (meaning c n xs) (meaning d n ys)
        alike (act s (runs q)) d n h k a = elim (eqb_tells n p) [
          | inl e ↦ at-node n (act s (runs q)) d e.1 h k
          | inr e ↦
              let i = phase-like ns doc n (length s.needs) h.0 d (phase-at ns doc n (length s.needs) h.0 h.1.1 d k) in
              subst (λ z. Alike (meaning (act s (runs q)) n xs) (meaning z n ys)) (sym i.2)
              (subst (λ x. Alike (act_as s (runs q) done (stage_at xs n)) (act_as i.0 (runs i.1) done x)) (sym (same-stage n e.1 a)) (like-phase s i.0 q i.1 done done (stage_at xs n)))
        ]
        alike (act s (follows m c)) d n h k a = elim (eqb_tells n p) [
          | inl e ↦ at-node n (act s (follows m c)) d e.1 h k
          | inr e ↦
              let i = act-like ns doc n (length s.needs) d (act-at ns doc n (length s.needs) h.0.1 d k) in
              let below = alike c i.2 (n + 1) h.1 i.4 (next-apart n e.1 a) in
              subst (λ z. Alike (meaning (act s (follows m c)) n xs) (meaning z n ys)) (sym i.3)
              (subst (λ x. Alike (act_as s (follows m c) (meaning c (n + 1) xs) (stage_at xs n)) (act_as i.0 (follows i.1 i.2) (meaning i.2 (n + 1) ys) x)) (sym (same-stage n e.1 a))
              (like-act s i.0 m i.1 c i.2 (meaning c (n + 1) xs) (meaning i.2 (n + 1) ys) (stage_at xs n) below))
        ]
        alike skip d n h k a = subst (λ z. Alike done (meaning z n ys)) (sym (skip-like ns doc n d (skip-at ns doc n h.1 d k))) (itself done)
        alike (seq ts) d n h k a = elim (eqb_tells n p) [
          | inl e ↦ at-node n (seq ts) d e.1 h k
          | inr e ↦
              let i = seq-like ns doc n d (seq-at ns doc n h.0.1 d k) in
              subst (λ z. Alike (meaning (seq ts) n xs) (meaning z n ys)) (sym i.1)
              (pick (is_begun (stage_at xs n)) (is_begun (stage_at ys n)) (meaning_of_branch ts (n + 1) xs) done (meaning_of_branch i.0 (n + 1) ys) done (sym (ap is_begun (same-stage n e.1 a)))
              (alike-branch ts i.0 (n + 1) (end_at ns n) (subst (λ j. AreStanding ns doc (n + 1) j ts) (sym h.0.2) h.1) i.2 (next-apart n e.1 a)) (itself done))
        ]
        alike (par ts) d n h k a = elim (eqb_tells n p) [
          | inl e ↦ at-node n (par ts) d e.1 h k
          | inr e ↦
              let i = par-like ns doc n d (par-at ns doc n h.0.1 d k) in
              subst (λ z. Alike (meaning (par ts) n xs) (meaning z n ys)) (sym i.1)
              (pick (is_begun (stage_at xs n)) (is_begun (stage_at ys n)) (in_par (meaning_each ts (n + 1) xs)) done (in_par (meaning_each i.0 (n + 1) ys)) done (sym (ap is_begun (same-stage n e.1 a)))
              (like-par (meaning_each ts (n + 1) xs) (meaning_each i.0 (n + 1) ys)
              (alike-each ts i.0 (n + 1) (end_at ns n) (subst (λ j. AreStanding ns doc (n + 1) j ts) (sym h.0.2) h.1) i.2 (next-apart n e.1 a))) (itself done))
        ]
        alike (sel ch) d n h k a = elim (eqb_tells n p) [
          | inl e ↦ at-node n (sel ch) d e.1 h k
          | inr e ↦
              let i = sel-like ns doc n h.0 d (sel-at ns doc n h.0 h.1.1 d k) in
              subst (λ z. Alike (meaning (sel ch) n xs) (meaning z n ys)) (sym i.1)
              (pick (is_begun (stage_at xs n)) (is_begun (stage_at ys n)) (chosen ch (n + 1) xs) done (chosen i.0 (n + 1) ys) done (sym (ap is_begun (same-stage n e.1 a)))
              (alike-chosen ch i.0 h.0 h.0 (n + 1) (end_at ns n) (subst (λ j. AreChoices ns doc h.0 (n + 1) j ch) (sym h.1.2) h.2) i.2 (next-apart n e.1 a)) (itself done))
        ]
        alike (loop j q body) d n h k a = elim (eqb_tells n p) [
          | inl e ↦ at-node n (loop j q body) d e.1 h k
          | inr e ↦
              let i = loop-like ns doc n j h.0 d (loop-at ns doc n j h.0 h.1.1 d k) in
              subst (λ z. Alike (meaning (loop j q body) n xs) (meaning z n ys)) (sym i.2)
              (like-loop (turns_of (stage_at xs n)) (turns_of (stage_at ys n)) q i.0 body i.1 (meaning body (n + 1) xs) (meaning i.1 (n + 1) ys) (sym (ap turns_of (same-stage n e.1 a)))
              (alike body i.1 (n + 1) h.3 i.3 (next-apart n e.1 a)))
        ]

        alike-each : (ts us : Trees) (n m : ℕ) → AreStanding ns doc n m ts → AreStanding ns doc n m us → Apart n → AllAlike (meaning_each ts n xs) (meaning_each us n ys)
        alike-each no_trees no_trees n m h k a = (refl, λ q. q)
        alike-each no_trees (tree d us) n m h k a = absurd (omega (arith, h, stood-each ns doc (n + node_count d) m us k.1, some_count d))
        alike-each (tree c ts) no_trees n m h k a = absurd (omega (arith, k, stood-each ns doc (n + node_count c) m ts h.1, some_count c))
        alike-each (tree c ts) (tree d us) n m h k a =
            let e = same-end n c d h.0 k.0 in
            let later = alike-each ts us (n + node_count c) m h.1 (subst (λ z. AreStanding ns doc z m us) e k.1) (after-apart n c h.0 a) in
            like-each (meaning c n xs) (meaning d n ys) (meaning_each ts (n + node_count c) xs) (meaning_each us (n + node_count d) ys) (alike c d n h.0 k.0 a)
            (subst (λ z. AllAlike (meaning_each ts (n + node_count c) xs) (meaning_each us z ys)) (sym e) later)

        alike-branch : (ts us : Trees) (n m : ℕ) → AreStanding ns doc n m ts → AreStanding ns doc n m us → Apart n → Alike (meaning_of_branch ts n xs) (meaning_of_branch us n ys)
        alike-branch no_trees no_trees n m h k a = (refl, λ q. q)
        alike-branch no_trees (tree d us) n m h k a = absurd (omega (arith, h, stood-each ns doc (n + node_count d) m us k.1, some_count d))
        alike-branch (tree c ts) no_trees n m h k a = absurd (omega (arith, k, stood-each ns doc (n + node_count c) m ts h.1, some_count c))
        alike-branch (tree c ts) (tree d us) n m h k a =
            let e = same-end n c d h.0 k.0 in
            let later = alike-branch ts us (n + node_count c) m h.1 (subst (λ z. AreStanding ns doc z m us) e k.1) (after-apart n c h.0 a) in
            pick (is_finished (stage_at xs n)) (is_finished (stage_at ys n)) (meaning_of_branch ts (n + node_count c) xs) (in_seq (meaning c n xs) ts) (meaning_of_branch us (n + node_count d) ys) (in_seq (meaning d n ys) us)
            (sym (same-status n a)) (subst (λ z. Alike (meaning_of_branch ts (n + node_count c) xs) (meaning_of_branch us z ys)) (sym e) later)
            (like-seq (meaning c n xs) (meaning d n ys) ts us (alike c d n h.0 k.0 a))

        alike-chosen : (ch other : Choices) (i j n m : ℕ) → AreChoices ns doc i n m ch → AreChoices ns doc j n m other → Apart n → Alike (chosen ch n xs) (chosen other n ys)
        alike-chosen (otherwise c) (otherwise d) i j n m h k a = alike c d n h.0 k.0 a
        alike-chosen (otherwise c) (choice q d other) i j n m h k a =
            absurd (omega (arith, h.1, same-end n c d h.0 k.1, stood-choices ns doc (j + 1) (n + node_count d) m other k.2, choices-pos other))
        alike-chosen (choice q c ch) (otherwise d) i j n m h k a =
            absurd (omega (arith, k.1, same-end n c d h.1 k.0, stood-choices ns doc (i + 1) (n + node_count c) m ch h.2, choices-pos ch))
        alike-chosen (choice q c ch) (choice w d other) i j n m h k a =
            let e = same-end n c d h.1 k.1 in
            let later = alike-chosen ch other (i + 1) (j + 1) (n + node_count c) m h.2 (subst (λ z. AreChoices ns doc (j + 1) z m other) e k.2) (after-apart n c h.1 a) in
            pick (is_finished (stage_at xs n)) (is_finished (stage_at ys n)) (chosen ch (n + node_count c) xs) (meaning c n xs) (chosen other (n + node_count d) ys) (meaning d n ys)
            (sym (same-status n a)) (subst (λ z. Alike (chosen ch (n + node_count c) xs) (chosen other z ys)) (sym e) later)
            (alike c d n h.1 k.1 a)

-- whichever tree stands at a node

module _ (ns : List Entry) (doc : Recipe) (xs : List Stage) where
  pub trees-alike : (c d : Tree) (n : ℕ) → Stands ns doc n c → Stands ns doc n d → Alike (meaning c n xs) (meaning d n xs)
  trees-alike c d n h k =
      alike ns doc (length ns) xs xs (λ i q. refl) refl (λ a b s t. absurd (omega (arith, (stood ns doc (length ns) a s).within))) c d n h k (inl (let w = (stood ns doc n c h).within in omega arith))

  pub told-whichever : (c d : Tree) (n : ℕ) → Stands ns doc n c → Stands ns doc n d → TellsWhetherOver c n xs → TellsWhetherOver d n xs
  told-whichever c d n h k t = let a = trees-alike c d n h k in record { finished = t.finished ∙ a.0; advanced = a.1 t.advanced }

-- where the subtree at p has gone on telling, and whether p is finished hasn't changed, all stages go on telling

pub told-after : (ns : List Entry) (doc : Recipe) (p m : ℕ) (xs ys : List Stage) → AgreeOutside p (end_at ns p) xs ys → is_finished (stage_at ys p) ≡ is_finished (stage_at xs p)
    → p < end_at ns p → end_at ns p ≤ m → AreTold ns doc 0 m xs → AreTold ns doc p (end_at ns p) ys → AreTold ns doc 0 m ys
told-after ns doc p m xs ys outside kept lt le before own n c a b s = go (cases_lt p n) (cases_lt n (end_at ns p))
  where
    here : (c d : Tree) → Stands ns doc p c → Stands ns doc p d → Alike (meaning c p xs) (meaning d p ys)
    here c d h k =
        let was = before p c (omega arith) (omega arith) h in
        let is = own p c (omega arith) lt h in
        alike-trans (meaning c p xs) (meaning c p ys) (meaning d p ys) (sym was.finished ∙ sym kept ∙ is.finished, λ q. is.advanced) (trees-alike ns doc ys c d p h k)

    outer : Apart ns doc p n → TellsWhetherOver c n ys
    outer q =
        let was = before n c a b s in
        let like = alike ns doc p xs ys outside kept here c c n s s q in
        record { finished = same-status ns doc p xs ys outside kept n q ∙ was.finished ∙ like.0; advanced = like.1 was.advanced }

    go : (p < n) ⊎ (n ≤ p) → (n < end_at ns p) ⊎ (end_at ns p ≤ n) → TellsWhetherOver c n ys
    go (inl u) (inl v) = own n c (omega arith) v s
    go (inl u) (inr v) = outer (inr v)
    go (inr u) v = outer (inl u)
