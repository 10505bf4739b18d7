-- Charts whose signs go by the stages, part by part.
use Rattle.std.proofs.Common.{◌≡◌, ◌⊎◌, inl, inr, ◌<◌, ◌≤◌, ℕ, ◌+◌, List, length, Bool, true, false, arith, refl, sym, ◌∙◌, subst, ap}
use Rattle.std.proofs.lemmas.Bool.{cases_lt, Decides.eqb_tells}
use Rattle.batch_recipe.{specs.Nodes.node_count, specs.Tree.follows, specs.Tree.Tree, specs.Tree.act, specs.declared.entry.Entry.Entry, specs.declared.recipe.Recipe.Recipe, proofs.NodeSubtrees.some_count}
use Rattle.batch_chart.{specs.declared.stage.Stage.Stage, specs.declared.stage.Stage.TheVariants.Finished, specs.declared.stage.Stage.TheVariants.Open, specs.Outlined.end_at, specs.Outlined.Stands, specs.Meaning.AgreeOutside, specs.Meaning.AgreeWithin, specs.Neat.runs_below, specs.Neat.is_single, specs.Neat.AllFinished, specs.Neat.IsLone, specs.Neat.act_shows, specs.Neat.shown_of, specs.Neat.IsNeat, specs.Neat.AreNeat, specs.Neat.AreBlank, specs.Neat.SignsOutside, specs.Running.IsLaid, specs.Stages.stage_at, specs.Stages.is_finished, proofs.TreePositions.stood, proofs.TreePositions.some-stands, proofs.TreePositions.nested, proofs.FinishedStages.AreNested}
use Rattle.batch_signs.specs.Signs.{sign_at}

-- a finished node has no signs
pub finished-shows : (c : Tree) (b : Bool) → shown_of c Finished b ≡ 0
finished-shows x1 x2 = grind arith

pub finished-stops : (c : Tree) → runs_below c Finished ≡ false
finished-stops x1 = grind arith

unbegun-still : (needs : ℕ) (x : Stage) (a b : Bool) → (x ≡ Open → a ≡ b) → act_shows needs x a ≡ act_shows needs x b
unbegun-still needs Open a b h = ap (act_shows needs Open) (h refl)
unbegun-still needs x a b h = refl

-- whether its chart is over concerns an act that follows one alone
pub shows-same : (c : Tree) (x : Stage) (a b : Bool) → (1 < node_count c → a ≡ b) → shown_of c x a ≡ shown_of c x b
shows-same (act s (follows name c)) x a b h = unbegun-still (length s.needs) x a b (λ e. h (omega (arith, some_count c)))
shows-same y x a b h = refl

pub blank-part : (n m i j : ℕ) (xs : List Stage) (signs : List ℕ) → n ≤ i → j ≤ m → AreBlank n m xs signs → AreBlank i j xs signs
blank-part n m i j xs signs a b h k p q = h k (omega arith) (omega arith)

pub blank-same : (n m : ℕ) (xs ys : List Stage) (old new : List ℕ) → ((k : ℕ) → n ≤ k → k < m → (stage_at ys k ≡ stage_at xs k) × (sign_at new k ≡ sign_at old k)) → AreBlank n m xs old → AreBlank n m ys new
blank-same n m xs ys old new same h k p q = let s = same k p q in let b = h k p q in (s.0 ∙ b.0, s.1 ∙ b.1)

pub unfinished-not : (x : Stage) → x ≡ Finished → is_finished x ≡ false → ⊥
unfinished-not x e u = let f : ◌≡◌ {A = Bool} true false = sym (ap is_finished e) ∙ u in absurd (cc)

module _ (ns : List Entry) (doc : Recipe) where
  pub neat-part : (n m i j : ℕ) (xs : List Stage) (signs : List ℕ) → n ≤ i → j ≤ m → AreNeat ns doc n m xs signs → AreNeat ns doc i j xs signs
  neat-part n m i j xs signs a b h k c p q s = h k c (omega arith) (omega arith) s

  pub neat-join : (n i m : ℕ) (xs : List Stage) (signs : List ℕ) → AreNeat ns doc n i xs signs → AreNeat ns doc i m xs signs → AreNeat ns doc n m xs signs
  neat-join n i m xs signs f g k c p q s = elim (cases_lt k i) [ inl lt ↦ f k c p lt s | inr le ↦ g k c le q s ]

  pub neat-one : (n m : ℕ) (xs : List Stage) (signs : List ℕ) → ((c : Tree) → Stands ns doc n c → IsNeat ns c n xs signs) → AreNeat ns doc (n + 1) m xs signs → AreNeat ns doc n m xs signs
  neat-one n m xs signs own h k c p q s = elim (eqb_tells k n) [
    | inl e ↦ subst (λ z. IsNeat ns c z xs signs) (sym e.1) (own c (subst (λ z. Stands ns doc z c) e.1 s))
    | inr e ↦ let d = e.1 in h k c (omega arith) q s
  ]

  pub neat-agree : (c : Tree) (j : ℕ) (xs ys : List Stage) (old new : List ℕ) → AgreeWithin j (j + node_count c) xs ys → sign_at new j ≡ sign_at old j → IsNeat ns c j xs old → IsNeat ns c j ys new
  neat-agree c j xs ys old new same sign h =
      let own : stage_at ys j ≡ stage_at xs j = same j (omega arith) (omega (arith, some_count c)) in
      record {
        shut = λ u k a b. same k (omega arith) (omega arith) ∙ h.shut (ap (runs_below c) (sym own) ∙ u) k a b;
        lone = λ one i a b root u k p q out.
            same k (omega arith) (omega arith) ∙ h.lone one i a b root (ap is_finished (sym (same i (omega arith) (omega arith))) ∙ u) k p q out;
        shown = sign ∙ h.shown ∙ shows-same c (stage_at xs j) (is_finished (stage_at xs (j + 1))) (is_finished (stage_at ys (j + 1))) (λ lt. ap is_finished (sym (same (j + 1) (omega arith) (omega arith))))
            ∙ ap (λ x. shown_of c x (is_finished (stage_at ys (j + 1)))) (sym own);
      }

  pub neat-same : (n m : ℕ) (xs ys : List Stage) (old new : List ℕ) → AreNested ns doc n m → AgreeWithin n m xs ys → ((k : ℕ) → n ≤ k → k < m → sign_at new k ≡ sign_at old k) → AreNeat ns doc n m xs old → AreNeat ns doc n m ys new
  neat-same n m xs ys old new nest same signs h j c a b s =
      let inner = nest j c a b s in
      neat-agree c j xs ys old new (λ k p q. same k (omega arith) (omega arith)) (signs j a b) (h j c a b s)

  -- blank nodes are neat
  pub blank-neat : (n m : ℕ) (xs : List Stage) (signs : List ℕ) → AreNested ns doc n m → AreBlank n m xs signs → AreNeat ns doc n m xs signs
  blank-neat n m xs signs nest h j c a b s =
      let inner = nest j c a b s in
      record {
        shut = λ u k p q. (h k (omega arith) (omega arith)).0;
        lone = λ one i p q root u k v w out. (h k (omega arith) (omega arith)).0;
        shown = (h j a b).1 ∙ sym (finished-shows c (is_finished (stage_at xs (j + 1)))) ∙ ap (λ x. shown_of c x (is_finished (stage_at xs (j + 1)))) (sym (h j a b).0);
      }

  -- all nodes below a finished node are finished
  pub neat-finished : (n : ℕ) (c : Tree) (xs : List Stage) (signs : List ℕ) → Stands ns doc n c → IsNeat ns c n xs signs → stage_at xs n ≡ Finished → AllFinished n (n + node_count c) xs
  neat-finished n c xs signs s h e k a b = elim (eqb_tells k n) [
    | inl q ↦ ap (stage_at xs) q.1 ∙ e
    | inr q ↦ let d = q.1 in h.shut (ap (runs_below c) e ∙ finished-stops c) k (omega arith) b
  ]

  pub neat-blank : (n : ℕ) (c : Tree) (xs : List Stage) (signs : List ℕ) → Stands ns doc n c → (sit : (k : ℕ) → n ≤ k → k < n + node_count c → (d : Tree) × Stands ns doc k d) → AreNeat ns doc n (n + node_count c) xs signs → stage_at xs n ≡ Finished
      → AreBlank n (n + node_count c) xs signs
  neat-blank n c xs signs s sit h e k a b =
      let all = neat-finished n c xs signs s (h n c (omega arith) (omega (arith, some_count c)) s) e in
      let at = sit k a b in
      let own = h k at.0 a b at.1 in
      (all k a b, own.shown ∙ ap (λ x. shown_of at.0 x (is_finished (stage_at xs (k + 1)))) (all k a b) ∙ finished-shows at.0 (is_finished (stage_at xs (k + 1))))

  -- the stages from p to e have changed, and p is finished neither before nor after
  module _ (p e : ℕ) (xs ys : List Stage) (old new : List ℕ) (p_ends : end_at ns p ≡ e) (below : p < e) (inner : (i : ℕ) → i ≤ p → p < end_at ns i → e ≤ end_at ns i) (outside : AgreeOutside p e xs ys) (signs : SignsOutside p e old new)
      (was : is_finished (stage_at xs p) ≡ false) (now : is_finished (stage_at ys p) ≡ false) where
    -- a node around it
    around : (c : Tree) (j : ℕ) → Stands ns doc j c → j < p → (p < j + node_count c → e ≤ j + node_count c) → IsNeat ns c j xs old → IsNeat ns c j ys new
    around c j s lt nest h =
        let own : stage_at ys j ≡ stage_at xs j = outside j (inl lt) in
        record {
          shut = λ u k a b. elim (cases_lt k p) [
            | inl q ↦ outside k (inl q) ∙ h.shut (ap (runs_below c) (sym own) ∙ u) k a b
            | inr q ↦ absurd (unfinished-not (stage_at xs p) (h.shut (ap (runs_below c) (sym own) ∙ u) p (omega arith) (omega arith)) was)
          ];
          lone = λ one i a b root u k v w out. alone h one i a b root u k v w out;
          shown = signs j (inl lt) ∙ h.shown ∙ ap (shown_of c (stage_at xs j)) next ∙ ap (λ x. shown_of c x (is_finished (stage_at ys (j + 1)))) (sym own);
        }
      where
        next : is_finished (stage_at xs (j + 1)) ≡ is_finished (stage_at ys (j + 1))
        next = elim (eqb_tells (j + 1) p) [
          | inl q ↦ ap (λ z. is_finished (stage_at xs z)) q.1 ∙ was ∙ sym (ap (λ z. is_finished (stage_at ys z)) q.1 ∙ now)
          | inr q ↦ let d = q.1 in ap is_finished (sym (outside (j + 1) (inl (omega arith))))
        ]

        still : (i : ℕ) → (i ≡ p) ⊎ ((i < p) ⊎ (e ≤ i)) → is_finished (stage_at ys i) ≡ false → is_finished (stage_at xs i) ≡ false
        still i (inl q) u = ap (λ z. is_finished (stage_at xs z)) q ∙ was
        still i (inr q) u = ap is_finished (sym (outside i q)) ∙ u

        where_is : (i : ℕ) → ((q : ℕ) → j + 1 ≤ q → q < i → end_at ns q ≤ i) → (i ≡ p) ⊎ ((i < p) ⊎ (e ≤ i))
        where_is i root = elim (cases_lt i p) [
          | inl q ↦ inr (inl q)
          | inr q ↦ elim (eqb_tells i p) [
            | inl f ↦ inl f.1
            | inr f ↦ let d = f.1 in inr (inr (omega (arith, p_ends, root p (omega arith) (omega arith))))
          ]
        ]

        alone : IsNeat ns c j xs old → is_single c ≡ true → IsLone ns (j + 1) (j + node_count c) ys
        alone h one i a b root u k v w out = go (cases_lt k p) (cases_lt k e)
          where
            first : is_finished (stage_at xs i) ≡ false
            first = still i (where_is i root) u

            there : stage_at xs k ≡ Finished
            there = h.lone one i a b root first k v w out

            -- p would be finished, were it apart from i
            apart : (p < i) ⊎ (end_at ns i ≤ p) → p < j + node_count c → ⊥
            apart q r = unfinished-not (stage_at xs p) (h.lone one i a b root first p (omega arith) r q) was

            go : (k < p) ⊎ (p ≤ k) → (k < e) ⊎ (e ≤ k) → stage_at ys k ≡ Finished
            go (inl q) r = outside k (inl q) ∙ there
            go (inr q) (inr r) = outside k (inr r) ∙ there
            go (inr q) (inl r) = elim out [
              | inl f ↦ absurd (apart (inl (omega arith)) (omega arith))
              | inr f ↦ elim (cases_lt p (end_at ns i)) [
                | inl g ↦ absurd (elim (cases_lt p i) [ inl y ↦ apart (inl y) (omega arith) | inr y ↦ (let x = inner i y g in absurd (omega arith)) ])
                | inr g ↦ absurd (apart (inr g) (omega arith))
              ]
            ]

pub signs-join : (n i m : ℕ) (old mid new : List ℕ) → n ≤ i → i ≤ m → SignsOutside n i old mid → SignsOutside i m mid new → SignsOutside n m old new
signs-join n i m old mid new a b f g k (inl p) = g k (inl (omega arith)) ∙ f k (inl p)
signs-join n i m old mid new a b f g k (inr p) = g k (inr p) ∙ f k (inr (omega arith))

pub signs-wider : (n m i j : ℕ) (old new : List ℕ) → i ≤ n → m ≤ j → SignsOutside n m old new → SignsOutside i j old new
signs-wider n m i j old new a b f k (inl p) = f k (inl (omega arith))
signs-wider n m i j old new a b f k (inr p) = f k (inr (omega arith))

pub signs-same : (n m : ℕ) (old : List ℕ) → SignsOutside n m old old
signs-same n m old k h = refl

-- the stages of the subtree at p have changed in a whole chart, and p is finished neither before nor after
pub neat-after : (ns : List Entry) (doc : Recipe) (t : Tree) → IsLaid ns doc t → (p : ℕ) → p < length ns → (xs ys : List Stage) (old new : List ℕ) → AgreeOutside p (end_at ns p) xs ys → SignsOutside p (end_at ns p) old new
    → is_finished (stage_at xs p) ≡ false → is_finished (stage_at ys p) ≡ false → AreNeat ns doc 0 (length ns) xs old → AreNeat ns doc p (end_at ns p) ys new → AreNeat ns doc 0 (length ns) ys new
neat-after ns doc t laid p lt xs ys old new outside signs was now before own j c a b s = go (cases_lt j p) (cases_lt j (end_at ns p))
  where
    at : (i : ℕ) → i < length ns → (d : Tree) × Stands ns doc i d
    at i l = some-stands ns doc i t 0 laid.stands (omega arith) (omega (arith, laid.count))

    below : p < end_at ns p
    below = (let h = at p lt in omega (arith, (stood ns doc p h.0 h.1).end, some_count h.0))

    inner : (i : ℕ) → i ≤ p → p < end_at ns i → end_at ns p ≤ end_at ns i
    inner i le l = (let h = at i (omega arith) in let e = (stood ns doc i h.0 h.1).end in let f = nested ns doc p h.0 i h.1 le (omega (arith, e, l)) in omega (arith, e, f))

    clear : (j + node_count c ≤ p) ⊎ (end_at ns p ≤ j) → IsNeat ns c j ys new
    clear (inl q) = neat-agree ns doc c j xs ys old new (λ k f g. outside k (inl (omega arith))) (signs j (inl (omega (arith, some_count c)))) (before j c a b s)
    clear (inr q) = neat-agree ns doc c j xs ys old new (λ k f g. outside k (inr (omega arith))) (signs j (inr q)) (before j c a b s)

    go : (j < p) ⊎ (p ≤ j) → (j < end_at ns p) ⊎ (end_at ns p ≤ j) → IsNeat ns c j ys new
    go (inr u) (inl v) = own j c u v s
    go (inr u) (inr v) = clear (inr v)
    go (inl u) v =
        around ns doc p (end_at ns p) xs ys old new refl below inner outside signs was now c j s u (λ l. nested ns doc p c j s (omega arith) l) (before j c a b s)
