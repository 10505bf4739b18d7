-- The first act in line.
use Rattle.std.proofs.Common.{◌≡◌, ◌⊎◌, inl, inr, ◌<◌, ◌≤◌, ℕ, zero, suc, ◌+◌, List, [], ◌∷◌, ◌++◌, length, Bool, true, false, Some, None, nat_le, nat_lt, arith, refl, sym, ◌∙◌, subst, ap, ap₂}
use Rattle.std.{specs.Prelude.map, specs.Prelude.slice_get, specs.Prelude.◌&&◌, proofs.lemmas.Bool.Decides.nat_tests}
use Rattle.batch_recipe.{specs.Needs.resources_needed, specs.Conditions.Name, specs.Nodes.node_count, specs.Nodes.nodes_within, specs.Nodes.nodes_of_each, specs.Nodes.nodes_of_choices, specs.Nodes.child, specs.Tree.Place, specs.Tree.is_before, specs.Tree.Step, specs.Tree.Task, specs.Tree.runs, specs.Tree.follows, specs.Tree.Tree, specs.Tree.act, specs.Tree.skip, specs.Tree.seq, specs.Tree.par, specs.Tree.sel, specs.Tree.loop, specs.Tree.Trees, specs.Tree.no_trees, specs.Tree.tree, specs.Tree.Choices, specs.Tree.otherwise, specs.Tree.choice, proofs.NodeOrder.in_order, proofs.NodesBelow.in_front, specs.declared.entry.Entry.Entry, specs.declared.recipe.Recipe.Recipe}
use Rattle.batch_recipe.specs.Nodes as nodes
use Rattle.batch_model.{specs.Lists.Has, specs.Lists.Each, specs.Placed.IsPlaced, specs.Placed.IsPlacedBelow, specs.Placed.ArePlaced, specs.Placed.IsChoicePlaced, specs.Placed.Rises, specs.Rest.Rest, specs.Rest.asking, specs.Rest.acts, specs.Rest.is_done, specs.Rest.place_of, proofs.Members.Each-Has}
use Rattle.batch_step_laws.proofs.{MoveOrder.before-asym, ActOrder.acts-rise}
use Rattle.batch_chart.{specs.declared.stage.Stage.Stage, specs.Stages.stage_at, specs.Meaning.meaning, specs.Meaning.meaning_below, specs.Meaning.act_as, specs.Outlined.kind_at, specs.Nexts.first_of, specs.Numbered.numbered, specs.NodesOf.nodes_of, specs.NodesOf.node_at, specs.NodesOf.place_at, specs.NodesOf.step_at, specs.NodesOf.task_at, specs.Nexts.IsFoundFirst, specs.Running.IsLaid, specs.Running.IsAlive, specs.Running.SomeLives, specs.Running.IsNodeAsking, specs.Charts.AsksAt, specs.Charts.IsFirstWaiting, specs.NodesOf.tree_step, proofs.KnownTests.chosen-true, proofs.KnownTests.chosen-false, proofs.NumberedActs.numbered-acts, proofs.ChartChange.fits-act, proofs.ChartChange.fits-count, proofs.ChartChange.number-at-place, proofs.ChartChange.act-place, proofs.ChartChange.entry-undone, proofs.NodesAtNumbers.node-got, proofs.NextMoves.known, proofs.NextMoves.first-has, proofs.SignTests.waits_from}
use Rattle.batch_chart.specs.declared.stage.Stage.TheVariants as stage

-- Each act among the nodes carries the place of its node

abbrev pub CarriesPlace : nodes.Node → Type 0
CarriesPlace n = (s : Step) (w : Task) → n.here ≡ act s w → s.place ≡ n.place

each-append : (l r : List nodes.Node) → Each CarriesPlace l → Each CarriesPlace r → Each CarriesPlace (l ++ r)
each-append [] r g h = h
each-append (x ∷ l) r g h = (g.0, each-append l r g.1 h)

mutual
  pub carries : (c : Tree) (q : Place) (above : List Name) → IsPlaced q c → Each CarriesPlace (nodes.nodes q above c)
  carries (act s w) q above p = (λ u v e. (let f : act s w ≡ act u v = e in let g : s ≡ u = cc in ap (λ (z : Step). z.place) (sym g) ∙ p.0), carries_within w q (above ++ resources_needed s.needs) p.1)
  carries skip q above p = (λ u v e. absurd (cc), tt)
  carries (seq ts) q above p = (λ u v e. absurd (cc), carries_each ts q above 0 p)
  carries (par ts) q above p = (λ u v e. absurd (cc), carries_each ts q above 0 p)
  carries (sel ch) q above p = (λ u v e. absurd (cc), carries_choices ch q above 0 p)
  carries (loop i c body) q above p = (λ u v e. absurd (cc), carries body (child q 0) above p)

  carries_within : (w : Task) (q : Place) (above : List Name) → IsPlacedBelow q w → Each CarriesPlace (nodes_within q above w)
  carries_within (runs x) q above p = tt
  carries_within (follows name c) q above p = carries c (child q 0) above p

  carries_each : (ts : Trees) (q : Place) (above : List Name) (i : ℕ) → ArePlaced q i ts → Each CarriesPlace (nodes_of_each q above i ts)
  carries_each no_trees q above i p = tt
  carries_each (tree c ts) q above i p = each-append (nodes.nodes (child q i) above c) (nodes_of_each q above (i + 1) ts) (carries c (child q i) above p.0) (carries_each ts q above (i + 1) p.1)

  carries_choices : (ch : Choices) (q : Place) (above : List Name) (i : ℕ) → IsChoicePlaced q i ch → Each CarriesPlace (nodes_of_choices q above i ch)
  carries_choices (otherwise c) q above i p = carries c (child q i) above p
  carries_choices (choice x c ch) q above i p = each-append (nodes.nodes (child q i) above c) (nodes_of_choices q above (i + 1) ch) (carries c (child q i) above p.0) (carries_choices ch q above (i + 1) p.1)

get-has : (l : List nodes.Node) (k : ℕ) (x : nodes.Node) → slice_get l k ≡ Some x → Has l x
get-has [] k x e = absurd (cc)
get-has (y ∷ l) zero x e = inl (cc)
get-has (y ∷ l) (suc k) x e = inr (get-has l k x e)

-- the first that passes has the least number

passes-first : (p : ℕ → Rest → Bool) (l : List (ℕ × Rest)) (k : ℕ) → Rises (map (λ (z : ℕ × Rest). z.1) l) → Some k ≡ first_of p l → (e : ℕ × Rest) → Has l e → p e.0 e.1 ≡ true
    → (x : ℕ × Rest) × Has l x × (x.0 ≡ k) × ((x ≡ e) ⊎ (is_before (place_of x.1) (place_of e.1) ≡ true))
passes-first p [] k r f e h t = absurd h
passes-first p (a ∷ l) k r f e h t = go (p a.0 a.1) refl h (λ g i. passes-first p l k r.1 g e i t)
  where
    each-place : (l : List (ℕ × Rest)) → Each (λ b. is_before (place_of a.1) (place_of b) ≡ true) (map (λ (z : ℕ × Rest). z.1) l) → Has l e → is_before (place_of a.1) (place_of e.1) ≡ true
    each-place [] h i = absurd i
    each-place (b ∷ l) h (inl q) = subst (λ (z : ℕ × Rest). is_before (place_of a.1) (place_of z.1) ≡ true) q h.0
    each-place (b ∷ l) h (inr i) = each-place l h.1 i

    go : (b : Bool) → p a.0 a.1 ≡ b → Has (a ∷ l) e → (Some k ≡ first_of p l → Has l e → (x : ℕ × Rest) × Has l x × (x.0 ≡ k) × ((x ≡ e) ⊎ (is_before (place_of x.1) (place_of e.1) ≡ true)))
        → (x : ℕ × Rest) × Has (a ∷ l) x × (x.0 ≡ k) × ((x ≡ e) ⊎ (is_before (place_of x.1) (place_of e.1) ≡ true))
    go true q i later =
        let here : Some k ≡ Some a.0 = f ∙ chosen-true (p a.0 a.1) (Some a.0) (first_of p l) q in
        (a, inl refl, cc, elim i [ inl s ↦ inl s | inr s ↦ inr (each-place l r.0 s) ])
    go false q (inl s) later = absurd (let d : true ≡ false = sym t ∙ ap (λ (z : ℕ × Rest). p z.0 z.1) (sym s) ∙ q in cc)
    go false q (inr s) later =
        let m = later (f ∙ chosen-false (p a.0 a.1) (Some a.0) (first_of p l) q) s in
        (m.0, inr m.1, m.2, m.3)

none-passes : (p : ℕ → Rest → Bool) (l : List (ℕ × Rest)) → None ≡ first_of p l → (e : ℕ × Rest) → Has l e → p e.0 e.1 ≡ true → ⊥
none-passes p [] f e h t = h
none-passes p (a ∷ l) f e h t = go (p a.0 a.1) refl h (λ g i. none-passes p l g e i t)
  where
    go : (b : Bool) → p a.0 a.1 ≡ b → Has (a ∷ l) e → (None ≡ first_of p l → Has l e → ⊥) → ⊥
    go true q i later = (let d : None ≡ Some a.0 = f ∙ chosen-true (p a.0 a.1) (Some a.0) (first_of p l) q in cc)
    go false q (inl s) later = (let d : true ≡ false = sym t ∙ ap (λ (z : ℕ × Rest). p z.0 z.1) (sym s) ∙ q in cc)
    go false q (inr s) later = later (f ∙ chosen-false (p a.0 a.1) (Some a.0) (first_of p l) q) s

wants-it : (from k i n : ℕ) → from ≤ k → i < n → (nat_le from k && nat_lt i n) ≡ true
wants-it from k i n f l = grind (arith, nat_tests)

module _ (ns : List Entry) (doc : Recipe) (xs : List Stage) (t : Tree) (laid : IsLaid ns doc t) (alive : IsAlive t xs) where
  -- the step of an act with needs carries the place of its node
  own-place : (k i : ℕ) → k < node_count t → i < length (step_at t k).needs → (step_at t k).place ≡ place_at t k
  own-place k i lt l = place (node_at t k).here refl l
    where
      place : (c : Tree) → (node_at t k).here ≡ c → i < length (step_at t k).needs → (step_at t k).place ≡ place_at t k
      place (act s w) e l = ap (λ (z : Step). z.place) (ap tree_step e) ∙ Each-Has CarriesPlace (nodes_of t) (node_at t k) (carries t (0 ∷ []) [] laid.placed) (get-has (nodes_of t) k (node_at t k) (node-got ns doc t laid k (omega (arith, laid.count, lt)))) s w e
      place x e l = absurd (let q : i < 0 = subst (λ z. i < length (tree_step z).needs) e l in omega (arith, q))

  -- an act of the tree in line is a numbered one
  asks-here : (k i : ℕ) → AsksAt t (meaning t 0 xs) k i → Has (numbered t 0 xs) (k, asking (step_at t k) (task_at t k) i)
  asks-here k i h = number-at-place ns doc t laid xs k (asking (step_at t k) (task_at t k) i) (omega (arith, laid.count, h.0)) h.2 (own-place k i h.0 h.1)

  before-none : (from k : ℕ) → IsFoundFirst ns doc xs (waits_from from) (Some k) → (j i : ℕ) → from ≤ j → j < k → AsksAt t (meaning t 0 xs) j i → ⊥
  before-none from k found j i f l h =
      let entry : ℕ × Rest = (j, asking (step_at t j) (task_at t j) i) in
      let m = passes-first (waits_from from) (numbered t 0 xs) k
      (subst Rises (sym (numbered-acts xs t 0)) (acts-rise (0 ∷ []) t (meaning t 0 xs) laid.placed alive.stands))
      (found.means t laid) (j, asking (step_at t j) (task_at t j) i) (asks-here j i h) (wants-it from j i (length (step_at t j).needs) f h.1) in
      elim m.3 [
        | inl s ↦ (let e : m.0.0 ≡ j = ap (λ (z : ℕ × Rest). z.0) s in omega (arith, e, m.2, l))
        | inr s ↦ apart m.0 m.1 m.2 (subst (λ q. is_before (place_of m.0.1) q ≡ true) (own-place j i h.0 h.1) s)
      ]
    where
      apart : (x : ℕ × Rest) → Has (numbered t 0 xs) x → x.0 ≡ k → is_before (place_of x.1) (place_at t j) ≡ true → ⊥
      apart x hx e s =
          let g = known ns doc xs t laid x hx in
          let lt : k < length ns = omega (arith, g.within, e) in
          let placed : place_of x.1 ≡ place_at t k =
          ap place_of g.is ∙ act-place g.step g.task (meaning_below g.task (x.0 + 1) xs) (stage_at xs x.0) (ap is_done (sym g.is) ∙ entry-undone ns doc t laid xs x g.among) ∙ sym g.place ∙ ap (place_at t) e in
          let order : is_before (place_at t j) (place_at t k) ≡ true =
          in_front (nodes_of t) (in_order (0 ∷ []) [] t).1 j k (node_at t j) (node_at t k) l (node-got ns doc t laid j (omega (arith, lt, l))) (node-got ns doc t laid k lt) in
          let d : true ≡ false = sym (subst (λ q. is_before q (place_at t j) ≡ true) placed s) ∙ before-asym (place_at t j) (place_at t k) order in
          cc

  after-none : (from : ℕ) → IsFoundFirst ns doc xs (waits_from from) None → (j i : ℕ) → from ≤ j → AsksAt t (meaning t 0 xs) j i → ⊥
  after-none from found j i f h =
      none-passes (waits_from from) (numbered t 0 xs) (found.means t laid) (j, asking (step_at t j) (task_at t j) i) (asks-here j i h) (wants-it from j i (length (step_at t j).needs) f h.1)

  abbrev Sees : ℕ → ℕ → Step → Task → Stage → Type 0
  Sees from n s w y = (i : ℕ) × (y ≡ stage.Asking i) × (from ≤ n) × (i < length s.needs)

  both : (from n i k : ℕ) → (nat_le from n && nat_lt i k) ≡ true → (from ≤ n) × (i < k)
  both from n i k e = (grind (arith, nat_tests), grind (arith, nat_tests))

  sees : (from n : ℕ) (s : Step) (w : Task) (r : Rest) (y : Stage) → waits_from from n (act_as s w r y) ≡ true → Sees from n s w y
  sees from n s w r (stage.Asking i) e = (i, refl, (both from n i (length s.needs) e).0, (both from n i (length s.needs) e).1)
  sees x1 x2 x3 x4 x5 x6 x7 = absurd (grind arith)

  record Found (from k : ℕ) : Type 0 where
    pub need : ℕ
    pub is : stage_at xs k ≡ stage.Asking need
    pub onwards : from ≤ k
    pub asks : AsksAt t (meaning t 0 xs) k need
    pub waits : IsNodeAsking ns xs k

  found-at : (from k : ℕ) → IsFoundFirst ns doc xs (waits_from from) (Some k) → Found from k
  found-at from k found =
      let m = first-has (waits_from from) (numbered t 0 xs) k (found.means t laid) in
      go m.0 m.1 m.2 m.3
    where
      go : (x : ℕ × Rest) → Has (numbered t 0 xs) x → x.0 ≡ k → waits_from from x.0 x.1 ≡ true → Found from k
      go x hx e test =
          let g = known ns doc xs t laid x hx in
          let v = sees from x.0 g.step g.task (meaning_below g.task (x.0 + 1) xs) (stage_at xs x.0) (ap (waits_from from x.0) (sym g.is) ∙ test) in
          let a : x.1 ≡ asking g.step g.task v.0 = g.is ∙ ap (act_as g.step g.task (meaning_below g.task (x.0 + 1) xs)) v.1 in
          subst (Found from) e record {
            need = v.0;
            is = v.1;
            onwards = v.2;
            asks = (
              omega (arith, g.within, laid.count),
              subst (λ (s : Step). v.0 < length s.needs) (sym g.own_step) v.3,
              subst (Has (acts (meaning t 0 xs))) (a ∙ ap₂ (λ s w. asking s w v.0) (sym g.own_step) (sym g.own_task)) g.among,
            );
            waits = (v.0, g.within, fits-act (kind_at ns x.0) g.step g.task g.fits, omega (arith, v.3, fits-count (kind_at ns x.0) g.step g.task g.fits), v.1);
          }

module _ (ns : List Entry) (doc : Recipe) (xs : List Stage) (from : ℕ) (lives : SomeLives ns doc xs) where
  pub waiting-some : (k n i : ℕ) → IsFoundFirst ns doc xs (waits_from from) (Some k) → n ≡ k → stage_at xs n ≡ stage.Asking i → IsFirstWaiting ns doc xs from (Some (k, i))
  waiting-some k n i found same was =
      let f = found-at ns doc xs lives.0 lives.1 lives.2 from k found in
      record {
        some = (
          f.onwards,
          λ t laid alive. (let g = found-at ns doc xs t laid alive from k found in
              let e : stage.Asking g.need ≡ stage.Asking i = sym g.is ∙ ap (stage_at xs) (sym same) ∙ was in
              let q : g.need ≡ i = cc in
              subst (AsksAt t (meaning t 0 xs) k) q g.asks),
        );
        before = λ t laid alive j h a l s. before-none ns doc xs t laid alive from k found j h a l s;
        none = λ e. absurd (cc);
        waits = f.waits;
        small = omega (arith, f.asks.0, lives.1.small);
      }

  pub waiting-there : (k : ℕ) → IsFoundFirst ns doc xs (waits_from from) (Some k) → (t : Tree) → IsLaid ns doc t → IsAlive t xs → (i : ℕ) × AsksAt t (meaning t 0 xs) k i
  waiting-there k found t laid alive = let there = found-at ns doc xs t laid alive from k found in (there.need, there.asks)

  pub waiting-none : IsFoundFirst ns doc xs (waits_from from) None → IsFirstWaiting ns doc xs from None
  waiting-none found =
      record { some = tt; before = tt; none = λ e t laid alive j i a h. after-none ns doc xs t laid alive from found j i a h; waits = tt; small = tt }

  pub waiting-never : (k n : ℕ) → IsFoundFirst ns doc xs (waits_from from) (Some k) → n ≡ k → ((i : ℕ) → stage_at xs n ≡ stage.Asking i → ⊥) → ⊥
  waiting-never k n found same never = (let f = found-at ns doc xs lives.0 lives.1 lives.2 from k found in never f.need (ap (stage_at xs) same ∙ f.is))
