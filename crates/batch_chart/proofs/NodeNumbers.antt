-- Numbers of nodes, and their places.
use Rattle.std.proofs.Common.{◌≡◌, ◌≢◌, ◌⊎◌, inl, inr, ℕ, zero, suc, ◌+◌, ◌<◌, ◌≤◌, List, [], ◌∷◌, ◌++◌, length, Bool, true, false, Some, None, nat_eq, refl, sym, ◌∙◌, subst, ap, arith, add-zero}
use Rattle.std.{specs.Prelude.slice_get, specs.Prelude.Option, specs.Prelude.⊤, specs.List.AllByRecursion, proofs.lemmas.Bool.cases_lt, proofs.lemmas.Bool.Decides.eqb_tells, proofs.lemmas.Slice.Eq.bytes_eq-Decides}
use Rattle.batch_recipe.{specs.Needs.resources_needed, specs.Conditions.Name, specs.Nodes.Node, specs.Nodes.node, specs.Nodes.nodes, specs.Nodes.nodes_within, specs.Nodes.nodes_of_each, specs.Nodes.nodes_of_choices, specs.Nodes.child, specs.Nodes.node_count, specs.Nodes.count_within, specs.Nodes.count_of_each, specs.Nodes.count_of_choices, specs.Places.AreInOrder, specs.Tree.Place, specs.Tree.is_before, specs.Tree.Step, specs.Tree.Task, specs.Tree.runs, specs.Tree.follows, specs.Tree.Tree, specs.Tree.act, specs.Tree.skip, specs.Tree.seq, specs.Tree.par, specs.Tree.sel, specs.Tree.loop, specs.Tree.Trees, specs.Tree.no_trees, specs.Tree.tree, specs.Tree.Choices, specs.Tree.otherwise, specs.Tree.choice, proofs.NodeOrder.counted_nodes, proofs.NodesBelow.in_front, proofs.NodesBelow.not_before, specs.declared.entry.Entry.Entry, specs.declared.recipe.Recipe.Recipe}
use Rattle.batch_model.{specs.Lists.Has, specs.Placed.IsPlaced, specs.Placed.IsPlacedBelow, specs.Placed.ArePlaced, specs.Placed.IsChoicePlaced, specs.Rest.same_place, specs.Rest.Rest, specs.Rest.ready, specs.Rest.asking, specs.Rest.live, specs.Moves.freed, proofs.Members.Has-split}
use Rattle.batch_step_laws.proofs.WorkAfterChange.{to_same_place}
use Rattle.batch_chart.specs.{Outlined.Stands, Outlined.StandsAct, Outlined.AreStanding, Outlined.AreChoices, declared.stage.Stage.Stage, Stages.stage_at, Stages.is_begun, Stages.is_finished, Stages.turns_of, Meaning.act_as, Meaning.meaning, Meaning.meaning_below, Numbered.entries, Numbered.entries_in, Numbered.numbered, Numbered.numbered_below, Numbered.numbered_each, Numbered.numbered_branch, Numbered.numbered_chosen}
use Rattle.batch_chart.specs.declared.stage.Stage.TheVariants as stage

-- a list stands in another from n on
abbrev pub Sits : List Node → ℕ → List Node → Type 0
Sits ls n [] = ⊤
Sits ls n (x ∷ l) = (slice_get ls n ≡ Some x) × Sits ls (n + 1) l

pub sits-append : (ls : List Node) (n : ℕ) (l r : List Node) → Sits ls n (l ++ r) → Sits ls n l × Sits ls (n + length l) r
sits-append ls n [] r h = (tt, subst (λ i. Sits ls i r) (sym (add-zero n)) h)
sits-append ls n (x ∷ l) r h =
    let more = sits-append ls (n + 1) l r h.1 in
    let e : n + 1 + length l ≡ n + length (x ∷ l) = omega arith in
    ((h.0, more.0), subst (λ i. Sits ls i r) e more.1)

sits-from : (ls : List Node) (n : ℕ) (l : List Node) → ((i : ℕ) (x : Node) → slice_get l i ≡ Some x → slice_get ls (n + i) ≡ Some x) → Sits ls n l
sits-from ls n [] h = tt
sits-from ls n (x ∷ l) h = (
  ap (slice_get ls) (sym (add-zero n)) ∙ h 0 x refl,
  sits-from ls (n + 1) l (λ i y e. ap (slice_get ls) (let e : n + 1 + i ≡ n + suc i = omega arith in e) ∙ h (suc i) y e),
)

pub sits-self : (ls : List Node) → Sits ls 0 ls
sits-self ls = sits-from ls 0 ls (λ i x e. ap (slice_get ls) (let e : 0 + i ≡ i = omega arith in e) ∙ e)

-- places rise with the numbers
pub all-get : (P : Node → Type 0) (ls : List Node) (i : ℕ) (x : Node) → AllByRecursion P ls → slice_get ls i ≡ Some x → P x
all-get P [] i x h e = absurd (cc)
all-get P (y ∷ ls) zero x h e = let same : y ≡ x = cc in subst P same h.0
all-get P (y ∷ ls) (suc i) x h e = all-get P ls i x h.1 e

pub not-same : (q p : Place) → q ≢ p → same_place q p ≡ false
not-same q p ne = go (same_place q p) refl
  where
    go : (b : Bool) → same_place q p ≡ b → b ≡ false
    go true e = absurd (ne (to_same_place q p e))
    go false e = refl

pub before-differ : (q p : Place) → is_before q p ≡ true → q ≢ p
before-differ q p h e =
    let no : is_before q p ≡ false = subst (λ z. is_before q z ≡ false) e (not_before q) in
    absurd cc

pub same-itself : (p : Place) → same_place p p ≡ true
same-itself p = (bytes_eq-Decides p p).1 refl

-- the place tells the number: p is that of node k
module _ (ls : List Node) (rises : AreInOrder ls) (k : ℕ) (at : Node) (is_at : slice_get ls k ≡ Some at) where
  pub told : (n : ℕ) (x : Node) → slice_get ls n ≡ Some x → same_place x.place at.place ≡ nat_eq n k
  told n x e = go (eqb_tells n k)
    where
      equal : n ≡ k → x ≡ at
      equal same = let f : Some x ≡ Some at = sym e ∙ ap (slice_get ls) same ∙ is_at in cc

      apart : n ≢ k → x.place ≢ at.place
      apart ne = either (cases_lt n k)
        where
          either : (n < k) ⊎ (k ≤ n) → x.place ≢ at.place
          either (inl l) = before-differ x.place at.place (in_front ls rises n k x at l e is_at)
          either (inr l) = λ q. before-differ at.place x.place (in_front ls rises k n at x (omega arith) is_at e) (sym q)

      go : ((nat_eq n k ≡ true) × (n ≡ k)) ⊎ ((nat_eq n k ≡ false) × (n ≢ k)) → same_place x.place at.place ≡ nat_eq n k
      go (inl q) = ap (λ z. same_place z.place at.place) (equal q.1) ∙ same-itself at.place ∙ sym q.0
      go (inr q) = not-same x.place at.place (apart q.1) ∙ sym q.0

  -- each act of the tree at n stands at the place just where it is node k
  abbrev mutual
    pub IsMarked : ℕ → Tree → Type 0
    IsMarked n (act s w) = (same_place s.place at.place ≡ nat_eq n k) × IsMarkedBelow (n + 1) w
    IsMarked n skip = ⊤
    IsMarked n (seq ts) = AreMarked (n + 1) ts
    IsMarked n (par ts) = AreMarked (n + 1) ts
    IsMarked n (sel ch) = AreMarkedChoices (n + 1) ch
    IsMarked n (loop i p body) = IsMarked (n + 1) body

    pub IsMarkedBelow : ℕ → Task → Type 0
    IsMarkedBelow n (runs p) = ⊤
    IsMarkedBelow n (follows name c) = IsMarked n c

    pub AreMarked : ℕ → Trees → Type 0
    AreMarked n no_trees = ⊤
    AreMarked n (tree c ts) = IsMarked n c × AreMarked (n + node_count c) ts

    pub AreMarkedChoices : ℕ → Choices → Type 0
    AreMarkedChoices n (otherwise c) = IsMarked n c
    AreMarkedChoices n (choice p c ch) = IsMarked n c × AreMarkedChoices (n + node_count c) ch

  mutual
    pub marked : (c : Tree) (n : ℕ) (q : Place) (above : List Name) → Sits ls n (nodes q above c) → IsPlaced q c → IsMarked n c
    marked (act s w) n q above h p =
        (ap (λ z. same_place z at.place) p.0 ∙ told n (node q above (act s w)) h.0, marked_below w (n + 1) q (above ++ resources_needed s.needs) h.1 p.1)
    marked skip n q above h p = tt
    marked (seq ts) n q above h p = marked_each ts (n + 1) q above 0 h.1 p
    marked (par ts) n q above h p = marked_each ts (n + 1) q above 0 h.1 p
    marked (sel ch) n q above h p = marked_choices ch (n + 1) q above 0 h.1 p
    marked (loop i c body) n q above h p = marked body (n + 1) (child q 0) above h.1 p

    marked_below : (w : Task) (n : ℕ) (q : Place) (above : List Name) → Sits ls n (nodes_within q above w) → IsPlacedBelow q w → IsMarkedBelow n w
    marked_below (runs x) n q above h p = tt
    marked_below (follows name c) n q above h p = marked c n (child q 0) above h p

    marked_each : (ts : Trees) (n : ℕ) (q : Place) (above : List Name) (i : ℕ) → Sits ls n (nodes_of_each q above i ts) → ArePlaced q i ts → AreMarked n ts
    marked_each no_trees n q above i h p = tt
    marked_each (tree c ts) n q above i h p =
        let parts = sits-append ls n (nodes (child q i) above c) (nodes_of_each q above (i + 1) ts) h in (
          marked c n (child q i) above parts.0 p.0,
          marked_each ts (n + node_count c) q above (i + 1) (subst (λ z. Sits ls (n + z) (nodes_of_each q above (i + 1) ts)) (counted_nodes (child q i) above c) parts.1) p.1,
        )

    marked_choices : (ch : Choices) (n : ℕ) (q : Place) (above : List Name) (i : ℕ) → Sits ls n (nodes_of_choices q above i ch) → IsChoicePlaced q i ch → AreMarkedChoices n ch
    marked_choices (otherwise c) n q above i h p = marked c n (child q i) above h p
    marked_choices (choice x c ch) n q above i h p =
        let parts = sits-append ls n (nodes (child q i) above c) (nodes_of_choices q above (i + 1) ch) h in (
          marked c n (child q i) above parts.0 p.0,
          marked_choices ch (n + node_count c) q above (i + 1) (subst (λ z. Sits ls (n + z) (nodes_of_choices q above (i + 1) ch)) (counted_nodes (child q i) above c) parts.1) p.1,
        )

-- A numbered act is that of its node

pub record IsEntryOf (ls : List Node) (ns : List Entry) (doc : Recipe) (xs : List Stage) (n m : ℕ) (e : ℕ × Rest) : Type 0 where
  pub at : Node
  pub step : Step
  pub task : Task
  pub from : n ≤ e.0
  pub to : e.0 < m
  pub is_at : slice_get ls e.0 ≡ Some at
  pub here : at.here ≡ act step task
  pub placed : step.place ≡ at.place
  pub is : e.1 ≡ meaning (act step task) e.0 xs
  pub stands : Stands ns doc e.0 (act step task)

module _ (ls : List Node) (ns : List Entry) (doc : Recipe) (xs : List Stage) where
  widened : (n m i j : ℕ) (e : ℕ × Rest) → i ≤ n → m ≤ j → IsEntryOf ls ns doc xs n m e → IsEntryOf ls ns doc xs i j e
  widened n m i j e a b h =
      record { at = h.at; step = h.step; task = h.task; from = omega (arith, h.from); to = omega (arith, h.to); is_at = h.is_at; here = h.here; placed = h.placed; is = h.is; stands = h.stands }

  has-freed : (n : ℕ) (s : Step) (k : ℕ) (below : List (ℕ × Rest)) (e : ℕ × Rest) → Has (entries n (freed s k) below) e → e ≡ (n, freed s k)
  has-freed n s zero below e h = absurd h
  has-freed n s (suc k) below e (inl q) = sym q
  has-freed n s (suc k) below e (inr q) = absurd q

  one : (x e : ℕ × Rest) → Has (x ∷ []) e → e ≡ x
  one x e (inl q) = sym q
  one x e (inr q) = absurd q

  -- an act's own rest, or one of those below it
  pub has-entry : (n : ℕ) (s : Step) (w : Task) (r : Rest) (x : Stage) (below : List (ℕ × Rest)) (e : ℕ × Rest) → Has (entries n (act_as s w r x) below) e → (e ≡ (n, act_as s w r x)) ⊎ Has below e
  has-entry n s w r (stage.Ready k) below e h = inl (one (n, ready s w k) e h)
  has-entry n s w r (stage.Asking k) below e h = inl (one (n, asking s w k) e h)
  has-entry n s (follows name c) r stage.Open below e (inl q) = inl (sym q)
  has-entry n s (follows name c) r stage.Open below e (inr q) = inr q
  has-entry n s (runs p) r (stage.Live x) below e h = inl (one (n, live s p x) e h)
  has-entry n s w r (stage.Freeing k) below e h = inl (has-freed n s k below e h)
  has-entry x1 x2 x3 x4 x5 x6 x7 x8 = absurd (grind arith)

  pub if-begun : (b : Bool) (l : List (ℕ × Rest)) (e : ℕ × Rest) → Has (elim b as (λ _. List (ℕ × Rest)) [ true ↦ l | false ↦ [] ]) e → Has l e
  if-begun true l e h = h
  if-begun false l e h = absurd h

  pub either : (b : Bool) (l r : List (ℕ × Rest)) (e : ℕ × Rest) → Has (elim b as (λ _. List (ℕ × Rest)) [ true ↦ l | false ↦ r ]) e → Has l e ⊎ Has r e
  either true l r e h = inl h
  either false l r e h = inr h

  pub if-turning : (o : Option ℕ) (l : List (ℕ × Rest)) (e : ℕ × Rest) → Has (entries_in o l) e → Has l e
  if-turning None l e h = absurd h
  if-turning (Some k) l e h = h

  mutual
    pub entry-of : (c : Tree) (n : ℕ) (q : Place) (above : List Name) (e : ℕ × Rest) → Stands ns doc n c → Sits ls n (nodes q above c) → IsPlaced q c → Has (numbered c n xs) e → IsEntryOf ls ns doc xs n (n + node_count c) e
    entry-of (act s w) n q above e g h p m = elim (has-entry n s w (meaning_below w (n + 1) xs) (stage_at xs n) (numbered_below w (n + 1) xs) e m) [
      | inl f ↦ subst (λ z. IsEntryOf ls ns doc xs n (n + (1 + count_within w)) z) (sym f)
          record { at = node q above (act s w); step = s; task = w; from = omega arith; to = omega arith; is_at = h.0; here = refl; placed = p.0; is = refl; stands = g }
      | inr f ↦ widened (n + 1) (n + 1 + count_within w) n (n + (1 + count_within w)) e (omega arith) (omega arith) (entry-of_below s w n q (above ++ resources_needed s.needs) e g h.1 p.1 f)
    ]
    entry-of skip n q above e g h p m = absurd m
    entry-of (seq ts) n q above e g h p m =
        widened (n + 1) (n + 1 + count_of_each ts) n (n + (1 + count_of_each ts)) e (omega arith) (omega arith)
        (entry-of_branch ts (n + 1) (n + (1 + count_of_each ts)) q above 0 e g.1 h.1 p (if-begun (is_begun (stage_at xs n)) (numbered_branch ts (n + 1) xs) e m))
    entry-of (par ts) n q above e g h p m =
        widened (n + 1) (n + 1 + count_of_each ts) n (n + (1 + count_of_each ts)) e (omega arith) (omega arith)
        (entry-of_each ts (n + 1) (n + (1 + count_of_each ts)) q above 0 e g.1 h.1 p (if-begun (is_begun (stage_at xs n)) (numbered_each ts (n + 1) xs) e m))
    entry-of (sel ch) n q above e g h p m =
        widened (n + 1) (n + 1 + count_of_choices ch) n (n + (1 + count_of_choices ch)) e (omega arith) (omega arith)
        (entry-of_chosen ch g.0 (n + 1) (n + (1 + count_of_choices ch)) q above 0 e g.2 h.1 p (if-begun (is_begun (stage_at xs n)) (numbered_chosen ch (n + 1) xs) e m))
    entry-of (loop i x body) n q above e g h p m =
        widened (n + 1) (n + 1 + node_count body) n (n + (1 + node_count body)) e (omega arith) (omega arith)
        (entry-of body (n + 1) (child q 0) above e g.3 h.1 p (if-turning (turns_of (stage_at xs n)) (numbered body (n + 1) xs) e m))

    entry-of_below : (s : Step) (w : Task) (n : ℕ) (q : Place) (above : List Name) (e : ℕ × Rest) → StandsAct ns doc n s w → Sits ls (n + 1) (nodes_within q above w) → IsPlacedBelow q w → Has (numbered_below w (n + 1) xs) e → IsEntryOf ls ns doc xs (n + 1) (n + 1 + count_within w) e
    entry-of_below s (runs x) n q above e g h p m = absurd m
    entry-of_below s (follows name c) n q above e g h p m = entry-of c (n + 1) (child q 0) above e g.1 h p m

    entry-of_each : (ts : Trees) (n j : ℕ) (q : Place) (above : List Name) (i : ℕ) (e : ℕ × Rest) → AreStanding ns doc n j ts → Sits ls n (nodes_of_each q above i ts) → ArePlaced q i ts → Has (numbered_each ts n xs) e → IsEntryOf ls ns doc xs n (n + count_of_each ts) e
    entry-of_each no_trees n j q above i e g h p m = absurd m
    entry-of_each (tree c ts) n j q above i e g h p m =
        let parts : Sits ls n (nodes (child q i) above c) × Sits ls (n + length (nodes (child q i) above c)) (nodes_of_each q above (i + 1) ts) = sits-append ls n (nodes (child q i) above c) (nodes_of_each q above (i + 1) ts) h in
        elim (Has-split (numbered c n xs) (numbered_each ts (n + node_count c) xs) e m) [
          | inl f ↦ widened n (n + node_count c) n (n + (node_count c + count_of_each ts)) e (omega arith) (omega arith) (entry-of c n (child q i) above e g.0 parts.0 p.0 f)
          | inr f ↦
              widened (n + node_count c) (n + node_count c + count_of_each ts) n (n + (node_count c + count_of_each ts)) e (omega arith) (omega arith)
              (entry-of_each ts (n + node_count c) j q above (i + 1) e g.1 (subst (λ z. Sits ls (n + z) (nodes_of_each q above (i + 1) ts)) (counted_nodes (child q i) above c) parts.1) p.1 f)
        ]

    entry-of_branch : (ts : Trees) (n j : ℕ) (q : Place) (above : List Name) (i : ℕ) (e : ℕ × Rest) → AreStanding ns doc n j ts → Sits ls n (nodes_of_each q above i ts) → ArePlaced q i ts → Has (numbered_branch ts n xs) e → IsEntryOf ls ns doc xs n (n + count_of_each ts) e
    entry-of_branch no_trees n j q above i e g h p m = absurd m
    entry-of_branch (tree c ts) n j q above i e g h p m =
        let parts : Sits ls n (nodes (child q i) above c) × Sits ls (n + length (nodes (child q i) above c)) (nodes_of_each q above (i + 1) ts) = sits-append ls n (nodes (child q i) above c) (nodes_of_each q above (i + 1) ts) h in
        elim (either (is_finished (stage_at xs n)) (numbered_branch ts (n + node_count c) xs) (numbered c n xs) e m) [
          | inr f ↦ widened n (n + node_count c) n (n + (node_count c + count_of_each ts)) e (omega arith) (omega arith) (entry-of c n (child q i) above e g.0 parts.0 p.0 f)
          | inl f ↦
              widened (n + node_count c) (n + node_count c + count_of_each ts) n (n + (node_count c + count_of_each ts)) e (omega arith) (omega arith)
              (entry-of_branch ts (n + node_count c) j q above (i + 1) e g.1 (subst (λ z. Sits ls (n + z) (nodes_of_each q above (i + 1) ts)) (counted_nodes (child q i) above c) parts.1) p.1 f)
        ]

    entry-of_chosen : (ch : Choices) (d n j : ℕ) (q : Place) (above : List Name) (i : ℕ) (e : ℕ × Rest) → AreChoices ns doc d n j ch → Sits ls n (nodes_of_choices q above i ch) → IsChoicePlaced q i ch → Has (numbered_chosen ch n xs) e → IsEntryOf ls ns doc xs n (n + count_of_choices ch) e
    entry-of_chosen (otherwise c) d n j q above i e g h p m = entry-of c n (child q i) above e g.0 h p m
    entry-of_chosen (choice x c ch) d n j q above i e g h p m =
        let parts : Sits ls n (nodes (child q i) above c) × Sits ls (n + length (nodes (child q i) above c)) (nodes_of_choices q above (i + 1) ch) = sits-append ls n (nodes (child q i) above c) (nodes_of_choices q above (i + 1) ch) h in
        elim (either (is_finished (stage_at xs n)) (numbered_chosen ch (n + node_count c) xs) (numbered c n xs) e m) [
          | inr f ↦ widened n (n + node_count c) n (n + (node_count c + count_of_choices ch)) e (omega arith) (omega arith) (entry-of c n (child q i) above e g.1 parts.0 p.0 f)
          | inl f ↦
              widened (n + node_count c) (n + node_count c + count_of_choices ch) n (n + (node_count c + count_of_choices ch)) e (omega arith) (omega arith)
              (entry-of_chosen ch (d + 1) (n + node_count c) j q above (i + 1) e g.2 (subst (λ z. Sits ls (n + z) (nodes_of_choices q above (i + 1) ch)) (counted_nodes (child q i) above c) parts.1) p.1 f)
        ]
