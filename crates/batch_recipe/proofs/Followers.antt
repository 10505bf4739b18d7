-- The followers of a node, by number: up from the node, and down from the next branch.
use Rattle.std.proofs.Common.{◌≡◌, ◌≢◌, ◌⊎◌, inl, inr, ℕ, zero, suc, ◌+◌, ◌<◌, List, [], ◌∷◌, length, Bool, true, false, Option, Some, None, get_or, slice_get, sym, ap, ap₂, ◌∙◌, refl, subst, arith}
use Rattle.std.{specs.Option.option_or, proofs.lemmas.List.Folds.find-append, proofs.lemmas.Option.slice_get_within, proofs.lemmas.Option.slice_get-get_or, proofs.lemmas.Option.slice_get_read}
use Rattle.batch_recipe.{specs.ActsAtNodes.IsActAt, specs.ActsAtNodes.IsNoAct, specs.ActsAtNodes.IsNodeOf, specs.ActsAtNodes.procedure_acts, specs.Children.AreHere, specs.Children.HasBelow, specs.Conditions.Name, specs.Conditions.same_name, specs.Expanding.Binding, specs.Following.Follower, specs.Following.firsts, specs.Following.firsts_of_each, specs.Following.enter, specs.Following.branch, specs.Following.choice_at, specs.Following.child_of, specs.Following.level_within, specs.Following.next_after, specs.Following.following_below, specs.Following.following, specs.Followers.level_along, specs.Followers.level_at, specs.Followers.is_in_chart_of_procedure, specs.Followers.named_among, specs.Followers.IsFound, specs.Followers.is_chart_named, specs.Levels.Level, specs.Levels.is_procedure, specs.Levels.in_procedure, specs.Levels.in_unit_procedure, specs.Levels.in_operation, specs.Levels.below, specs.Links.form_at, specs.Links.IsBranch, specs.Links.IsChoice, specs.Links.IsChildTree, specs.Links.IsEntryOf, specs.Links.IsFirst, specs.Links.Hangs, specs.Nodes.Node, specs.Nodes.node, specs.Nodes.nodes, specs.Nodes.nodes_of_each, specs.Nodes.child, specs.Nodes.node_count, specs.Nodes.count_of_each, specs.Outlines.Form, specs.Outlines.an_act, specs.Outlines.a_skip, specs.Outlines.a_seq, specs.Outlines.a_par, specs.Outlines.a_sel, specs.Outlines.a_loop, specs.Outlines.form_of, specs.Outlines.shape_of, specs.Procedure.bound_nodes, specs.Procedure.bound_tree, specs.Tree.Place, specs.Tree.Tree, specs.Tree.act, specs.Tree.skip, specs.Tree.seq, specs.Tree.par, specs.Tree.sel, specs.Tree.loop, specs.Tree.runs, specs.Tree.follows, specs.Tree.Trees, specs.Tree.no_trees, specs.Tree.tree, specs.Tree.Choices, specs.Tree.otherwise, specs.Tree.choice, specs.Tree.is_before, specs.declared.act.Act.Act, specs.declared.act.Work.Work, specs.declared.act.Work.TheVariants.Follows, specs.declared.act.Work.TheVariants.Runs, specs.declared.entry.Entry.Entry, specs.declared.recipe.Recipe.Recipe, proofs.NodeSubtrees.some_count, proofs.NodeSubtrees.stands, proofs.NodeSubtrees.has_below, proofs.NodeNeeds.acts_at, proofs.NodesAbove.entry_in, proofs.NodesAbove.outlines, proofs.OutlineLinks.AreFrom, proofs.OutlineLinks.as_many_entries, proofs.OutlineLinks.from_left, proofs.OutlineLinks.from_right, proofs.OutlineLinks.from_tail, proofs.NodeActs.procedure_acts_are, proofs.NodeOrder.in_order, proofs.NodeOrder.counted_nodes, proofs.NodesBelow.in_front, proofs.NodesBelow.not_before}

-- Trees by place

abbrev pub tree_below : Tree → Place → Option Tree
tree_below here [] = Some here
tree_below here (i ∷ p) = elim (child_of here i) [ None ↦ None | Some part ↦ tree_below part p ]

branch_is : (ts : Trees) (i : ℕ) (t : Tree) → IsBranch ts i t → branch ts i ≡ Some t
branch_is no_trees i t h = absurd h
branch_is (tree u us) zero t h = ap Some h
branch_is (tree u us) (suc i) t h = branch_is us i t h

choice_is : (cs : Choices) (i : ℕ) (t : Tree) → IsChoice cs i t → choice_at cs i ≡ Some t
choice_is (otherwise u) zero t h = ap Some h
choice_is (otherwise u) (suc i) t h = absurd h
choice_is (choice c u cs) zero t h = ap Some h
choice_is (choice c u cs) (suc i) t h = choice_is cs i t h

only_child_is : (here : Tree) (only : Tree) → child_of here 0 ≡ Some only → (i : ℕ) (t : Tree) → (i ≡ 0) × (only ≡ t) → child_of here i ≡ Some t
only_child_is here only is i t h = ap (child_of here) h.0 ∙ (is ∙ ap Some h.1)

child_is : (here : Tree) (i : ℕ) (t : Tree) → IsChildTree here i t → child_of here i ≡ Some t
child_is (act s (runs phase)) i t h = absurd h
child_is (act s (follows name chart)) i t h = only_child_is (act s (follows name chart)) chart refl i t h
child_is skip i t h = absurd h
child_is (seq ts) i t h = branch_is ts i t h
child_is (par ts) i t h = branch_is ts i t h
child_is (sel cs) i t h = choice_is cs i t h
child_is (loop n c u) i t h = only_child_is (loop n c u) u refl i t h

-- The last step down to a place: the tree there, its level, and its followers

record IsLast (level : Level) (next : List Follower) (t : Tree) (p : Place) (i : ℕ) (here part : Tree) : Type 0 where
  pub tree_is : tree_below t (child p i) ≡ Some part
  pub level_is : level_along level t (child p i) ≡ level_within (level_along level t p) here
  pub next_is : following_below level next t (child p i) ≡ next_after (level_along level t p) (following_below level next t p) here i

last_step : (level : Level) (next : List Follower) (t : Tree) (p : Place) (i : ℕ) (here part : Tree) → tree_below t p ≡ Some here → child_of here i ≡ Some part
    → IsLast level next t p i here part
last_step level next t [] i here part is at =
    let same : t ≡ here = (let e : Some t ≡ Some here = is in cc) in
    let at' : child_of t i ≡ Some part = ap (λ (u : Tree). child_of u i) same ∙ at in
    record {
      tree_is = ap (λ o. elim o [ None ↦ None | Some u ↦ Some u ]) at';
      level_is = ap (λ o. elim o [ None ↦ level | Some u ↦ level_within level t ]) at' ∙ ap (level_within level) same;
      next_is = ap (λ o. elim o [ None ↦ [] | Some u ↦ next_after level next t i ]) at' ∙ ap (λ (u : Tree). next_after level next u i) same;
    }
last_step level next t (j ∷ p) i here part is at = go (child_of t j) refl is (λ u h. last_step (level_within level t) (next_after level next t j) u p i here part h at)
  where
    go : (o : Option Tree) → child_of t j ≡ o → elim o [ None ↦ None | Some u ↦ tree_below u p ] ≡ Some here
        → ((u : Tree) → tree_below u p ≡ Some here → IsLast (level_within level t) (next_after level next t j) u p i here part) → IsLast level next t (j ∷ p) i here part
    go None e h f = let bad : None ≡ Some here = h in absurd cc
    go (Some u) e h f =
        let m = f u h in
        let level_there : level_along level t (j ∷ p) ≡ level_along (level_within level t) u p = ap (λ o. elim o [ None ↦ level | Some v ↦ level_along (level_within level t) v p ]) e in
        let next_there : following_below level next t (j ∷ p) ≡ following_below (level_within level t) (next_after level next t j) u p
        = ap (λ o. elim o [ None ↦ [] | Some v ↦ following_below (level_within level t) (next_after level next t j) v p ]) e in
        record {
          tree_is = ap (λ o. elim o [ None ↦ None | Some v ↦ tree_below v (child p i) ]) e ∙ m.tree_is;
          level_is = ap (λ o. elim o [ None ↦ level | Some v ↦ level_along (level_within level t) v (child p i) ]) e ∙ (m.level_is ∙ ap (λ l. level_within l here) (sym level_there));
          next_is =
              ap (λ o. elim o [ None ↦ [] | Some v ↦ following_below (level_within level t) (next_after level next t j) v (child p i) ]) e
              ∙ (m.next_is ∙ ap₂ (λ l fs. next_after l fs here i) (sym level_there) (sym next_there));
        }

-- Levels

never : (l : Level) → below l ≢ is_procedure
never is_procedure e = let bad : in_procedure ≡ is_procedure = e in cc
never in_procedure e = let bad : in_unit_procedure ≡ is_procedure = e in cc
never in_unit_procedure e = let bad : in_operation ≡ is_procedure = e in cc
never in_operation e = let bad : in_operation ≡ is_procedure = e in cc

never_within : (l : Level) (t : Tree) → l ≢ is_procedure → level_within l t ≢ is_procedure
never_within l (act s w) h = never l
never_within l skip h = h
never_within l (seq ts) h = h
never_within l (par ts) h = h
never_within l (sel cs) h = h
never_within l (loop n c t) h = h

pub never_of_act : (l : Level) (t : Tree) → form_at t ≡ an_act → level_within l t ≢ is_procedure
never_of_act l (act s w) e = never l
never_of_act l skip e = let bad : a_skip ≡ an_act = e in absurd cc
never_of_act l (seq ts) e = let bad : a_seq ≡ an_act = e in absurd cc
never_of_act l (par ts) e = let bad : a_par ≡ an_act = e in absurd cc
never_of_act l (sel cs) e = let bad : a_sel ≡ an_act = e in absurd cc
never_of_act l (loop n c t) e = let bad : a_loop ≡ an_act = e in absurd cc

within_act : (l : Level) (t : Tree) → form_at t ≡ an_act → level_within l t ≡ below l
within_act l (act s w) e = refl
within_act l skip e = let bad : a_skip ≡ an_act = e in absurd cc
within_act l (seq ts) e = let bad : a_seq ≡ an_act = e in absurd cc
within_act l (par ts) e = let bad : a_par ≡ an_act = e in absurd cc
within_act l (sel cs) e = let bad : a_sel ≡ an_act = e in absurd cc
within_act l (loop n c t) e = let bad : a_loop ≡ an_act = e in absurd cc

within_other : (l : Level) (t : Tree) → form_at t ≢ an_act → level_within l t ≡ l
within_other l (act s w) h = absurd (h refl)
within_other l skip h = refl
within_other l (seq ts) h = refl
within_other l (par ts) h = refl
within_other l (sel cs) h = refl
within_other l (loop n c t) h = refl

in_other : (l : Level) → l ≢ is_procedure → is_in_chart_of_procedure (below l) ≡ false
in_other is_procedure h = absurd (h refl)
in_other in_procedure h = refl
in_other in_unit_procedure h = refl
in_other in_operation h = refl

pub entered : (l : Level) (t : Tree) → is_in_chart_of_procedure l ≡ true → enter l t ≡ firsts t
entered is_procedure t e = let bad : false ≡ true = e in absurd cc
entered in_procedure t e = refl
entered in_unit_procedure t e = let bad : false ≡ true = e in absurd cc
entered in_operation t e = let bad : false ≡ true = e in absurd cc

pub not_entered : (l : Level) (t : Tree) → is_in_chart_of_procedure l ≡ false → enter l t ≡ []
not_entered is_procedure t e = refl
not_entered in_procedure t e = let bad : true ≡ false = e in absurd cc
not_entered in_unit_procedure t e = refl
not_entered in_operation t e = refl

-- The followers of a child

abbrev pub goes_up : Form → Bool
goes_up an_act = true
goes_up a_sel = true
goes_up _ = false

abbrev pub ends_here : Form → Bool
ends_here a_skip = true
ends_here a_par = true
ends_here a_loop = true
ends_here _ = false

pub after_up : (l : Level) (next : List Follower) (t : Tree) (i : ℕ) → goes_up (form_at t) ≡ true → next_after l next t i ≡ next
after_up l next (act s w) i e = refl
after_up l next skip i e = let bad : false ≡ true = e in absurd cc
after_up l next (seq ts) i e = let bad : false ≡ true = e in absurd cc
after_up l next (par ts) i e = let bad : false ≡ true = e in absurd cc
after_up l next (sel cs) i e = refl
after_up l next (loop n c t) i e = let bad : false ≡ true = e in absurd cc

pub after_none : (l : Level) (next : List Follower) (t : Tree) (i : ℕ) → ends_here (form_at t) ≡ true → next_after l next t i ≡ []
after_none l next (act s w) i e = let bad : false ≡ true = e in absurd cc
after_none l next skip i e = refl
after_none l next (seq ts) i e = let bad : false ≡ true = e in absurd cc
after_none l next (par ts) i e = refl
after_none l next (sel cs) i e = let bad : false ≡ true = e in absurd cc
after_none l next (loop n c t) i e = refl

abbrev pub is_bare : Form → Bool
is_bare an_act = true
is_bare a_skip = true
is_bare a_sel = true
is_bare _ = false

-- Branches by number, and where they stand

module _ (ns : List Node) where
  -- branch j, and the one after it, where branches from number i on stand from n on
  record IsBeside (m : ℕ) (p : Place) (i : ℕ) (ts : Trees) (n j : ℕ) (t : Tree) : Type 0 where
    number : ℕ
    at : Node
    stands_here : slice_get ns number ≡ Some at
    placed : at.place ≡ child p (i + j)
    later : (u : Tree) → branch ts (suc j) ≡ Some u
        → (at_next : Node) × (slice_get ns (number + node_count t) ≡ Some at_next) × (at_next.here ≡ u) × (at_next.place ≡ child p (i + suc j)) × (number + node_count t < m)
    last : branch ts (suc j) ≡ None → number + node_count t ≡ m

  first_beside : (n m : ℕ) (p : Place) (above : List Name) (i : ℕ) (t : Tree) (ts : Trees) → n + count_of_each (tree t ts) ≡ m → AreFrom ns n (nodes_of_each p above i (tree t ts))
      → IsBeside m p i (tree t ts) n 0 t
  first_beside n m p above i t ts size h = record {
    number = n;
    at = node (child p i) above t;
    stands_here = stands_first (child p i) above t n (from_left ns n (nodes (child p i) above t) (nodes_of_each p above (i + 1) ts) h);
    placed = ap (child p) (omega arith);
    later = λ u is. next_branch ts is (from_right ns n (node_count t) (nodes (child p i) above t) (nodes_of_each p above (i + 1) ts) (counted_nodes (child p i) above t) h) (omega (arith, size));
    last = λ is. no_branch ts is (omega (arith, size));
  }
    where
      stands_first : (q : Place) (asked : List Name) (t : Tree) (n : ℕ) → AreFrom ns n (nodes q asked t) → slice_get ns n ≡ Some (node q asked t)
      stands_first q asked (act s w) n h = let same : n ≡ n + 0 = omega arith in ap (slice_get ns) same ∙ h 0 (node q asked (act s w)) refl
      stands_first q asked skip n h = let same : n ≡ n + 0 = omega arith in ap (slice_get ns) same ∙ h 0 (node q asked skip) refl
      stands_first q asked (seq us) n h = let same : n ≡ n + 0 = omega arith in ap (slice_get ns) same ∙ h 0 (node q asked (seq us)) refl
      stands_first q asked (par us) n h = let same : n ≡ n + 0 = omega arith in ap (slice_get ns) same ∙ h 0 (node q asked (par us)) refl
      stands_first q asked (sel cs) n h = let same : n ≡ n + 0 = omega arith in ap (slice_get ns) same ∙ h 0 (node q asked (sel cs)) refl
      stands_first q asked (loop k c u) n h = let same : n ≡ n + 0 = omega arith in ap (slice_get ns) same ∙ h 0 (node q asked (loop k c u)) refl

      next_branch : (us : Trees) {u : Tree} → branch us 0 ≡ Some u → AreFrom ns (n + node_count t) (nodes_of_each p above (i + 1) us) → n + node_count t + count_of_each us ≡ m
          → (at_next : Node) × (slice_get ns (n + node_count t) ≡ Some at_next) × (at_next.here ≡ u) × (at_next.place ≡ child p (i + suc 0)) × (n + node_count t < m)
      next_branch no_trees {u} is from size = let bad : None ≡ Some u = is in absurd cc
      next_branch (tree v vs) {u} is from size =
          let same : v ≡ u = (let e : Some v ≡ Some u = is in cc) in (
            node (child p (i + 1)) above v,
            stands_first (child p (i + 1)) above v (n + node_count t) (from_left ns (n + node_count t) (nodes (child p (i + 1)) above v) (nodes_of_each p above (i + 1 + 1) vs) from),
            same,
            refl,
            omega (arith, size, some_count v),
          )

      no_branch : (us : Trees) → branch us 0 ≡ None → n + node_count t + count_of_each us ≡ m → n + node_count t ≡ m
      no_branch no_trees is size = omega (arith, size)
      no_branch (tree v vs) is size = let bad : Some v ≡ None = is in absurd cc

  beside : (n m : ℕ) (p : Place) (above : List Name) (i : ℕ) (ts : Trees) → n + count_of_each ts ≡ m → AreFrom ns n (nodes_of_each p above i ts)
      → (j : ℕ) (t : Tree) → branch ts j ≡ Some t → IsBeside m p i ts n j t
  beside n m p above i no_trees size h j t is = let bad : None ≡ Some t = is in absurd cc
  beside n m p above i (tree u us) size h zero t is =
      let same : u ≡ t = (let e : Some u ≡ Some t = is in cc) in
      subst (λ (v : Tree). IsBeside m p i (tree u us) n 0 v) same (first_beside n m p above i u us size h)
  beside n m p above i (tree u us) size h (suc j) t is =
      let f = beside (n + node_count u) m p above (i + 1) us (omega (arith, size))
      (from_right ns n (node_count u) (nodes (child p i) above u) (nodes_of_each p above (i + 1) us) (counted_nodes (child p i) above u) h) j t is in
      record {
        number = f.number;
        at = f.at;
        stands_here = f.stands_here;
        placed = f.placed ∙ ap (child p) (omega arith);
        later = λ v at. let g = f.later v at in (g.0, g.1, g.2, g.3 ∙ ap (child p) (omega arith), g.4);
        last = f.last;
      }

module _ (r : Recipe) (bound : Binding) where
  abbrev pub ns : List Node
  ns = bound_nodes bound r.acts

  abbrev pub procedure : Tree
  procedure = bound_tree bound r.acts

  pub as_many : length r.outline.entries.items ≡ length ns
  as_many = as_many_entries r.acts r.outline.entries.items (outlines r) bound

  pub node_is : (k : ℕ) (a b : Node) → slice_get ns k ≡ Some a → slice_get ns k ≡ Some b → a ≡ b
  node_is k a b g h = let e : Some a ≡ Some b = sym g ∙ h in cc

  an_entry : Entry
  an_entry = record { kind = Rattle.batch_recipe.specs.declared.entry.Kind.TheVariants.Skip; end = 0; parent = 0; child = 0; needs = 0; detail = 0 }

  pub entry_of_node : (k : ℕ) (x : Node) → slice_get ns k ≡ Some x → (e : Entry) × (slice_get r.outline.entries.items k ≡ Some e)
  entry_of_node k x is =
      let in' = slice_get_within ns k x is in
      (get_or r.outline.entries.items k an_entry, slice_get-get_or r.outline.entries.items k an_entry (omega (arith, in', as_many)))

  -- an entry that was read
  pub read_at : (k from : ℕ) (e : Entry) → k < length ns → from ≡ k → e ≡ get_or r.outline.entries.items from e → slice_get r.outline.entries.items k ≡ Some e
  read_at k from e in' same is =
      slice_get_read r.outline.entries.items (length r.outline.entries.items) k e refl (omega (arith, in', as_many)) (is ∙ ap (λ n. get_or r.outline.entries.items n e) same)

  -- two nodes of one place are one
  alike : (j k : ℕ) (x y : Node) → slice_get ns j ≡ Some x → slice_get ns k ≡ Some y → x.place ≡ y.place → j ≡ k
  alike j k x y is at same = omega (arith, one_of_place j k x y is at same, one_of_place k j y x at is (sym same))
    where
      one_of_place : (j k : ℕ) (x y : Node) → slice_get ns j ≡ Some x → slice_get ns k ≡ Some y → x.place ≡ y.place → (j < k) → ⊥
      one_of_place j k x y is at same less =
          let before : is_before x.place y.place ≡ true = in_front ns (in_order (0 ∷ []) [] procedure).1 j k x y less is at in
          let alone : is_before x.place y.place ≡ false = ap (is_before x.place) (sym same) ∙ not_before x.place in
          cc

  -- the tree at a node is that at its place
  pub record IsPlaced (x : Node) : Type 0 where
    pub rest : Place
    pub placed : x.place ≡ 0 ∷ rest
    pub here_is : tree_below procedure rest ≡ Some x.here

  -- the child of a node
  pub record IsStep (above x : Node) (i : ℕ) : Type 0 where
    pub placed : IsPlaced x
    pub level_is : level_at procedure x.place ≡ level_within (level_at procedure above.place) above.here
    pub next_is : following procedure x.place ≡ next_after (level_at procedure above.place) (following procedure above.place) above.here i

  pub step_down : (above x : Node) (i : ℕ) → IsPlaced above → x.place ≡ child above.place i → child_of above.here i ≡ Some x.here → IsStep above x i
  step_down above x i h at is =
      let f = last_step is_procedure [] procedure h.rest i above.here x.here h.here_is is in
      let whole : x.place ≡ 0 ∷ child h.rest i = at ∙ ap (λ p. child p i) h.placed in
      record {
        placed = record { rest = child h.rest i; placed = whole; here_is = f.tree_is };
        level_is = ap (level_at procedure) whole ∙ (f.level_is ∙ ap (λ p. level_within (level_at procedure p) above.here) (sym h.placed));
        next_is = ap (following procedure) whole ∙ (f.next_is ∙ ap (λ p. next_after (level_at procedure p) (following procedure p) above.here i) (sym h.placed));
      }

  abbrev pub first_here : Node
  first_here = node (0 ∷ []) [] procedure

  first_is : slice_get ns 0 ≡ Some first_here
  first_is = refl

  pub is_placed : (b k : ℕ) (x : Node) → k < b → slice_get ns k ≡ Some x → IsPlaced x
  is_placed zero k x less is = absurd (omega (arith, less))
  is_placed (suc b) k x less is = subst IsPlaced same (go (is_placed b) h.hangs)
    where
      e : (e : Entry) × (slice_get r.outline.entries.items k ≡ Some e)
      e = entry_of_node k x is

      h : IsEntryOf ns k e.0
      h = entry_in r bound k e.0 e.1

      same : h.at ≡ x
      same = node_is k h.at x h.numbered is

      go : ((j : ℕ) (y : Node) → j < b → slice_get ns j ≡ Some y → IsPlaced y) → IsFirst k h.at (shape_of e.0) ⊎ Hangs ns k h.at (shape_of e.0) → IsPlaced h.at
      go earlier (inl f) =
          let first : first_here ≡ h.at = node_is k first_here h.at (ap (slice_get ns) f.number ∙ first_is) h.numbered in
          record { rest = []; placed = f.placed; here_is = ap (λ (y : Node). Some y.here) first }
      go earlier (inr g) =
          let up = earlier e.0.parent g.above (omega (arith, less, g.earlier)) g.known in
          (step_down g.above h.at e.0.child up g.placed (child_is g.above.here e.0.child h.at.here g.branch)).placed

  pub placed : (k : ℕ) (x : Node) → slice_get ns k ≡ Some x → IsPlaced x
  placed k x is = is_placed (k + 1) k x (omega arith) is

  -- the node above a node
  pub record IsUnder (k : ℕ) (x : Node) (e : Entry) : Type 0 where
    pub above : Node
    pub above_is : slice_get ns e.parent ≡ Some above
    pub earlier : e.parent < k
    pub branch_is : child_of above.here e.child ≡ Some x.here
    pub placed_at : x.place ≡ child above.place e.child
    pub ends : e.end ≡ k + node_count x.here
    pub step : IsStep above x e.child

  pub under : (k : ℕ) (x : Node) (e : Entry) → slice_get ns k ≡ Some x → slice_get r.outline.entries.items k ≡ Some e → k ≢ 0 → IsUnder k x e
  under k x e is known later = subst (λ (y : Node). IsUnder k y e) same (go h.hangs)
    where
      h : IsEntryOf ns k e
      h = entry_in r bound k e known

      same : h.at ≡ x
      same = node_is k h.at x h.numbered is

      go : IsFirst k h.at (shape_of e) ⊎ Hangs ns k h.at (shape_of e) → IsUnder k h.at e
      go (inl f) = absurd (later f.number)
      go (inr g) =
          let branch = child_is g.above.here e.child h.at.here g.branch in
          record {
            above = g.above;
            above_is = g.known;
            earlier = g.earlier;
            branch_is = branch;
            placed_at = g.placed;
            ends = h.shaped.ended;
            step = step_down g.above h.at e.child (placed e.parent g.above g.known) g.placed branch;
          }

  pub formed : (k : ℕ) (x : Node) (e : Entry) → slice_get ns k ≡ Some x → slice_get r.outline.entries.items k ≡ Some e → form_of e.kind ≡ form_at x.here
  formed k x e is known = let h = entry_in r bound k e known in h.shaped.formed ∙ ap (λ (y : Node). form_at y.here) (node_is k h.at x h.numbered is)

  pub ended : (k : ℕ) (x : Node) (e : Entry) → slice_get ns k ≡ Some x → slice_get r.outline.entries.items k ≡ Some e → e.end ≡ k + node_count x.here
  ended k x e is known = let h = entry_in r bound k e known in h.shaped.ended ∙ ap (λ (y : Node). k + node_count y.here) (node_is k h.at x h.numbered is)

  -- Up from a node

  pub not_procedure : (b k : ℕ) (x : Node) → k < b → slice_get ns k ≡ Some x → k ≢ 0 → level_at procedure x.place ≢ is_procedure
  not_procedure zero k x less is later = absurd (omega (arith, less))
  not_procedure (suc b) k x less is later = λ bad. go (not_procedure b) (elim_zero e.0.parent) (sym u.step.level_is ∙ bad)
    where
      e : (e : Entry) × (slice_get r.outline.entries.items k ≡ Some e)
      e = entry_of_node k x is

      u : IsUnder k x e.0
      u = under k x e.0 is e.1 later

      elim_zero : (n : ℕ) → (n ≡ 0) ⊎ (n ≢ 0)
      elim_zero zero = inl refl
      elim_zero (suc n) = inr (λ bad. omega (arith, bad))

      go : ((j : ℕ) (y : Node) → j < b → slice_get ns j ≡ Some y → j ≢ 0 → level_at procedure y.place ≢ is_procedure) → (e.0.parent ≡ 0) ⊎ (e.0.parent ≢ 0) → level_within (level_at procedure u.above.place) u.above.here ≢ is_procedure
      go above (inl top) =
          let first : first_here ≡ u.above = node_is e.0.parent first_here u.above (ap (slice_get ns) top ∙ first_is) u.above_is in
          never_of_act (level_at procedure u.above.place) u.above.here (ap (λ (y : Node). form_at y.here) (sym first))
      go above (inr low) = never_within (level_at procedure u.above.place) u.above.here (above e.0.parent u.above (omega (arith, less, u.earlier)) u.above_is low)

  pub level_at_first : (x : Node) → slice_get ns 0 ≡ Some x → level_at procedure x.place ≡ is_procedure
  level_at_first x is = let first : first_here ≡ x = node_is 0 first_here x first_is is in ap (λ (y : Node). level_at procedure y.place) (sym first)

  pub following_first : (x : Node) → slice_get ns 0 ≡ Some x → following procedure x.place ≡ []
  following_first x is = let first : first_here ≡ x = node_is 0 first_here x first_is is in ap (λ (y : Node). following procedure y.place) (sym first)

  -- where the node above is an act, the node stands in the chart of the procedure if that act is the procedure
  pub under_act : (k : ℕ) (x : Node) (e : Entry) (u : IsUnder k x e) → form_at u.above.here ≡ an_act → (top : Bool)
      → (top ≡ true → e.parent ≡ 0) → (top ≡ false → e.parent ≢ 0) → is_in_chart_of_procedure (level_at procedure x.place) ≡ top
  under_act k x e u form true if_top if_low =
      let first : level_at procedure u.above.place ≡ is_procedure = level_at_first u.above (ap (slice_get ns) (sym (if_top refl)) ∙ u.above_is) in
      ap is_in_chart_of_procedure (u.step.level_is ∙ (within_act (level_at procedure u.above.place) u.above.here form ∙ ap below first))
  under_act k x e u form false if_top if_low =
      let other = not_procedure (e.parent + 1) e.parent u.above (omega arith) u.above_is (if_low refl) in
      ap is_in_chart_of_procedure (u.step.level_is ∙ within_act (level_at procedure u.above.place) u.above.here form) ∙ in_other (level_at procedure u.above.place) other

  -- where it is none, the node stands where that one does
  pub under_other : (k : ℕ) (x : Node) (e : Entry) (u : IsUnder k x e) → form_at u.above.here ≢ an_act → level_at procedure x.place ≡ level_at procedure u.above.place
  under_other k x e u form = u.step.level_is ∙ within_other (level_at procedure u.above.place) u.above.here form

  -- below a `seq`: the followers by the next branch, and those after the last one
  pub record IsInSeq (k : ℕ) (x : Node) (e above_e : Entry) (above : Node) : Type 0 where
    pub next : e.end < above_e.end
        → (y : Node) × (slice_get ns e.end ≡ Some y) × (following procedure x.place ≡ enter (level_at procedure y.place) y.here)
    pub last : (e.end < above_e.end → ⊥) → following procedure x.place ≡ following procedure above.place

  pub in_seq : (k : ℕ) (x : Node) (e above_e : Entry) → slice_get ns k ≡ Some x → (u : IsUnder k x e) → slice_get r.outline.entries.items e.parent ≡ Some above_e → form_at u.above.here ≡ a_seq
      → IsInSeq k x e above_e u.above
  in_seq k x e above_e is u above_known form = of_tree u.above.here refl
    where
      p : Place
      p = u.above.place

      l : Level
      l = level_at procedure p

      of_branches : (ts : Trees) → u.above.here ≡ seq ts → IsInSeq k x e above_e u.above
      of_branches ts here =
          let st = stands bound r.acts e.parent u.above u.above_is in
          let from : AreFrom ns e.parent (nodes p st.0 (seq ts)) = subst (λ (t : Tree). AreFrom ns e.parent (nodes p st.0 t)) here st.1 in
          let at_branch : branch ts e.child ≡ Some x.here = ap (λ (t : Tree). child_of t e.child) (sym here) ∙ u.branch_is in
          let b = beside ns (e.parent + 1) (e.parent + node_count (seq ts)) p st.0 0 ts (omega arith) (from_tail ns e.parent (node p st.0 (seq ts)) (nodes_of_each p st.0 0 ts) from) e.child x.here at_branch in
          let same : b.number ≡ k = alike b.number k b.at x b.stands_here is (b.placed ∙ (ap (child p) (omega arith) ∙ sym u.placed_at)) in
          let close : above_e.end ≡ e.parent + node_count (seq ts) = ended e.parent u.above above_e u.above_is above_known ∙ ap (λ (t : Tree). e.parent + node_count t) here in
          let at_end : b.number + node_count x.here ≡ e.end = omega (arith, same, u.ends) in
          by_next ts here b at_end close (branch ts (suc e.child)) refl
        where
          by_next : (ts : Trees) → u.above.here ≡ seq ts → (b : IsBeside ns (e.parent + node_count (seq ts)) p 0 ts (e.parent + 1) e.child x.here) → b.number + node_count x.here ≡ e.end
              → above_e.end ≡ e.parent + node_count (seq ts) → (o : Option Tree) → branch ts (suc e.child) ≡ o → IsInSeq k x e above_e u.above
          by_next ts here b at_end close None o = record {
            next = λ less. absurd (omega (arith, less, close, at_end, b.last o));
            last = λ past. u.step.next_is ∙ (ap (λ (t : Tree). next_after l (following procedure p) t e.child) here ∙ ap (λ z. elim z [ None ↦ following procedure p | Some w ↦ enter l w ]) o);
          }
          by_next ts here b at_end close (Some v) o =
              let n = b.later v o in
              let y = n.0 in
              let beside_step : IsStep u.above y (suc e.child) =
              step_down u.above y (suc e.child) (placed e.parent u.above u.above_is) (n.3 ∙ ap (child p) (omega arith))
              (ap (λ (t : Tree). child_of t (suc e.child)) here ∙ (o ∙ ap Some (sym n.2))) in
              let level : level_at procedure y.place ≡ l = beside_step.level_is ∙ ap (level_within l) here in
              record {
                next = λ less. (
                  y,
                  ap (slice_get ns) (sym at_end) ∙ n.1,
                  u.step.next_is ∙ (ap (λ (t : Tree). next_after l (following procedure p) t e.child) here ∙ (by_branch ts v o ∙ (ap (λ m. enter m v) (sym level) ∙ ap (enter (level_at procedure y.place)) (sym n.2)))),
                );
                last = λ past. absurd (past (omega (arith, n.4, at_end, close)));
              }
            where
              by_branch : (ts : Trees) (v : Tree) → branch ts (suc e.child) ≡ Some v → next_after l (following procedure p) (seq ts) e.child ≡ enter l v
              by_branch ts v o = ap (λ z. elim z [ None ↦ following procedure p | Some w ↦ enter l w ]) o

      of_tree : (t : Tree) → u.above.here ≡ t → IsInSeq k x e above_e u.above
      of_tree (act s w) here = let bad : an_act ≡ a_seq = ap form_at (sym here) ∙ form in absurd cc
      of_tree skip here = let bad : a_skip ≡ a_seq = ap form_at (sym here) ∙ form in absurd cc
      of_tree (seq ts) here = of_branches ts here
      of_tree (par ts) here = let bad : a_par ≡ a_seq = ap form_at (sym here) ∙ form in absurd cc
      of_tree (sel cs) here = let bad : a_sel ≡ a_seq = ap form_at (sym here) ∙ form in absurd cc
      of_tree (loop n c t) here = let bad : a_loop ≡ a_seq = ap form_at (sym here) ∙ form in absurd cc

  -- Down from a node

  pub act_of_node : (k : ℕ) (x : Node) (a : Option Act) → slice_get ns k ≡ Some x → slice_get (procedure_acts r.acts) k ≡ Some a → IsActAt bound r.acts a x
  act_of_node k x a is known = acts_at bound r.acts (procedure_acts r.acts) ns (procedure_acts_are bound r.acts) k a x known is

  pub firsts_act : (a : Act) (at : Node) (w : Work) → a.work ≡ w → IsNodeOf bound r.acts a at → firsts at.here ≡ elim w [ Follows c ↦ (a.name, at.place) ∷ [] | Runs phase values reports ↦ [] ]
  firsts_act a at (Follows c) e h = ap firsts h.here_is ∙ rw e refl
  firsts_act a at (Runs phase values reports) e h = ap firsts h.here_is ∙ rw e refl

  -- an act that has the name and a chart is the first met with that name; from another act none is met
  pub found_act : (k : ℕ) (x : Node) (a : Act) (name : Name) → slice_get ns k ≡ Some x → slice_get (procedure_acts r.acts) k ≡ Some (Some a) → is_chart_named a name ≡ true
      → IsFound bound r.acts x name (Some k)
  found_act k x a name is known named = go a.work refl
    where
      go : (w : Work) → a.work ≡ w → IsFound bound r.acts x name (Some k)
      go (Follows c) e =
          let f = firsts_act a x (Follows c) e (act_of_node k x (Some a) is known) in
          let same : same_name a.name name ≡ true = subst (λ (w : Work). elim w [ Follows c ↦ same_name a.name name | Runs phase values reports ↦ false ] ≡ true) e named in
          record {
            some = ((a.name, x.place), ap (named_among name) f ∙ rw same refl, (x, is, refl));
            none = λ h. let bad : true ≡ false = h in absurd cc;
          }
      go (Runs phase values reports) e =
          let bad : false ≡ true = subst (λ (w : Work). elim w [ Follows c ↦ same_name a.name name | Runs phase values reports ↦ false ] ≡ true) e named in
          absurd cc

  pub found_other_act : (k : ℕ) (x : Node) (a : Act) (name : Name) → slice_get ns k ≡ Some x → slice_get (procedure_acts r.acts) k ≡ Some (Some a) → is_chart_named a name ≡ false
      → IsFound bound r.acts x name None
  found_other_act k x a name is known other = go a.work refl
    where
      go : (w : Work) → a.work ≡ w → IsFound bound r.acts x name None
      go (Follows c) e =
          let f = firsts_act a x (Follows c) e (act_of_node k x (Some a) is known) in
          let same : same_name a.name name ≡ false = subst (λ (w : Work). elim w [ Follows c ↦ same_name a.name name | Runs phase values reports ↦ false ] ≡ false) e other in
          record { some = tt; none = λ _. ap (named_among name) f ∙ rw same refl }
      go (Runs phase values reports) e =
          let f = firsts_act a x (Runs phase values reports) e (act_of_node k x (Some a) is known) in
          record { some = tt; none = λ _. ap (named_among name) f }

  found_nothing : (x : Node) (name : Name) → firsts x.here ≡ [] → IsFound bound r.acts x name None
  found_nothing x name e = record { some = tt; none = λ _. ap (named_among name) e }

  no_act : (t : Tree) → IsNoAct t → form_at t ≢ an_act
  no_act (act s w) h e = h
  no_act skip h e = let bad : a_skip ≡ an_act = e in cc
  no_act (seq ts) h e = let bad : a_seq ≡ an_act = e in cc
  no_act (par ts) h e = let bad : a_par ≡ an_act = e in cc
  no_act (sel cs) h e = let bad : a_sel ≡ an_act = e in cc
  no_act (loop n c t) h e = let bad : a_loop ≡ an_act = e in cc

  firsts_bare : (t : Tree) → IsNoAct t → is_bare (form_at t) ≡ true → firsts t ≡ []
  firsts_bare (act s w) h e = absurd h
  firsts_bare skip h e = refl
  firsts_bare (seq ts) h e = let bad : false ≡ true = e in absurd cc
  firsts_bare (par ts) h e = let bad : false ≡ true = e in absurd cc
  firsts_bare (sel cs) h e = refl
  firsts_bare (loop n c t) h e = let bad : false ≡ true = e in absurd cc

  -- a node of no act below which nothing is met
  pub found_bare : (k : ℕ) (x : Node) (name : Name) → slice_get ns k ≡ Some x → slice_get (procedure_acts r.acts) k ≡ Some None → is_bare (form_at x.here) ≡ true → IsFound bound r.acts x name None
  found_bare k x name is known form = found_nothing x name (firsts_bare x.here (act_of_node k x None is known) form)

  -- the unit procedures met first below a loop and a `seq` are those below the node after it
  pub in_loop : (k : ℕ) (x : Node) → slice_get ns k ≡ Some x → form_at x.here ≡ a_loop → (y : Node) × (slice_get ns (k + 1) ≡ Some y) × (firsts x.here ≡ firsts y.here)
  in_loop k x is form = go x.here form (has_below bound r.acts k x is)
    where
      go : (t : Tree) → form_at t ≡ a_loop → HasBelow ns k t → (y : Node) × (slice_get ns (k + 1) ≡ Some y) × (firsts t ≡ firsts y.here)
      go (act s w) e h = let bad : an_act ≡ a_loop = e in absurd cc
      go skip e h = let bad : a_skip ≡ a_loop = e in absurd cc
      go (seq ts) e h = let bad : a_seq ≡ a_loop = e in absurd cc
      go (par ts) e h = let bad : a_par ≡ a_loop = e in absurd cc
      go (sel cs) e h = let bad : a_sel ≡ a_loop = e in absurd cc
      go (loop n c t) e h = (h.0, h.1, ap firsts (sym h.2))

  pub record IsSeqFirst (k : ℕ) (x : Node) (e : Entry) : Type 0 where
    pub some : k + 1 < e.end → (y : Node) × (slice_get ns (k + 1) ≡ Some y) × (firsts x.here ≡ firsts y.here)
    pub none : (k + 1 < e.end → ⊥) → firsts x.here ≡ []

  pub seq_first : (k : ℕ) (x : Node) (e : Entry) → slice_get ns k ≡ Some x → slice_get r.outline.entries.items k ≡ Some e → form_at x.here ≡ a_seq → IsSeqFirst k x e
  seq_first k x e is known form = go x.here refl form (has_below bound r.acts k x is)
    where
      close : e.end ≡ k + node_count x.here
      close = ended k x e is known

      go : (t : Tree) → x.here ≡ t → form_at t ≡ a_seq → HasBelow ns k t → IsSeqFirst k x e
      go (act s w) here f h = let bad : an_act ≡ a_seq = f in absurd cc
      go skip here f h = let bad : a_skip ≡ a_seq = f in absurd cc
      go (par ts) here f h = let bad : a_par ≡ a_seq = f in absurd cc
      go (sel cs) here f h = let bad : a_sel ≡ a_seq = f in absurd cc
      go (loop n c t) here f h = let bad : a_loop ≡ a_seq = f in absurd cc
      go (seq no_trees) here f h = record {
        some = λ less. absurd (omega (arith, less, close, ap node_count here));
        none = λ _. ap firsts here;
      }
      go (seq (tree u us)) here f h = record {
        some = λ less. (h.0.0, h.0.1, ap firsts here ∙ ap firsts (sym h.0.2));
        none = λ past. absurd (past (omega (arith, close, ap node_count here, some_count u)));
      }

  pub found_below : (x y : Node) (name : Name) (found : Option ℕ) → firsts x.here ≡ firsts y.here → IsFound bound r.acts y name found → IsFound bound r.acts x name found
  found_below x y name (Some to) e h = record {
    some = (h.some.0, ap (named_among name) e ∙ h.some.1, h.some.2);
    none = λ h. let bad : true ≡ false = h in absurd cc;
  }
  found_below x y name None e h = record { some = tt; none = λ _. ap (named_among name) e ∙ h.none refl }

  -- the branches of a `par` that are looked at from number `at` on
  pub record IsLooking (x : Node) (name : Name) (end at : ℕ) : Type 0 where
    pub branches : Trees
    pub stand : AreHere ns at end branches
    pub same : named_among name (firsts x.here) ≡ named_among name (firsts_of_each branches)

  pub looking_first : (k : ℕ) (x : Node) (e : Entry) (name : Name) → slice_get ns k ≡ Some x → slice_get r.outline.entries.items k ≡ Some e → form_at x.here ≡ a_par → IsLooking x name e.end (k + 1)
  looking_first k x e name is known form = go x.here refl form (has_below bound r.acts k x is)
    where
      go : (t : Tree) → x.here ≡ t → form_at t ≡ a_par → HasBelow ns k t → IsLooking x name e.end (k + 1)
      go (act s w) here f h = let bad : an_act ≡ a_par = f in absurd cc
      go skip here f h = let bad : a_skip ≡ a_par = f in absurd cc
      go (seq ts) here f h = let bad : a_seq ≡ a_par = f in absurd cc
      go (sel cs) here f h = let bad : a_sel ≡ a_par = f in absurd cc
      go (loop n c t) here f h = let bad : a_loop ≡ a_par = f in absurd cc
      go (par ts) here f h = record {
        branches = ts;
        stand = subst (λ m. AreHere ns (k + 1) m ts) (sym (ended k x e is known ∙ ap (λ (t : Tree). k + node_count t) here)) h;
        same = ap (λ (t : Tree). named_among name (firsts t)) here;
      }

  none_at_end : (ts : Trees) (at end : ℕ) → AreHere ns at end ts → (at < end → ⊥) → firsts_of_each ts ≡ []
  none_at_end no_trees at end h past = refl
  none_at_end (tree u us) at end h past = absurd (past (at_most us (at + node_count u) end h.1 (omega (arith, some_count u))))
    where
      at_most : (us : Trees) (m end : ℕ) → AreHere ns m end us → at < m → at < end
      at_most no_trees m end g less = omega (arith, g, less)
      at_most (tree v vs) m end g less = at_most vs (m + node_count v) end g.1 (omega (arith, less))

  pub looking_last : (x : Node) (name : Name) (end at : ℕ) → IsLooking x name end at → (at < end → ⊥) → IsFound bound r.acts x name None
  looking_last x name end at h past = record { some = tt; none = λ _. h.same ∙ ap (named_among name) (none_at_end h.branches at end h.stand past) }

  -- the branch that stands at number `at`
  pub record IsBranchAt (x : Node) (name : Name) (end at : ℕ) : Type 0 where
    pub branch_at : Node
    pub stands_at : slice_get ns at ≡ Some branch_at
    pub found : (to : ℕ) → IsFound bound r.acts branch_at name (Some to) → IsFound bound r.acts x name (Some to)
    pub more : IsFound bound r.acts branch_at name None → (e : Entry) → slice_get r.outline.entries.items at ≡ Some e → IsLooking x name end e.end

  pub looking : (x : Node) (name : Name) (end at : ℕ) → IsLooking x name end at → at < end → IsBranchAt x name end at
  looking x name end at h less = go h.branches h.stand h.same
    where
      go : (ts : Trees) → AreHere ns at end ts → named_among name (firsts x.here) ≡ named_among name (firsts_of_each ts) → IsBranchAt x name end at
      go no_trees g e = absurd (omega (arith, g, less))
      go (tree u us) g e =
          let y = g.0.0 in
          let here : y.here ≡ u = g.0.2 in
          let parts : named_among name (firsts x.here) ≡ option_or (named_among name (firsts y.here)) (named_among name (firsts_of_each us)) =
          e ∙ (find-append (λ (f : Follower). same_name f.0 name) (firsts u) (firsts_of_each us) ∙ ap (λ (t : Tree). option_or (named_among name (firsts t)) (named_among name (firsts_of_each us))) (sym here)) in
          record {
            branch_at = y;
            stands_at = g.0.1;
            found = λ to f. record {
              some = (f.some.0, parts ∙ ap (λ o. option_or o (named_among name (firsts_of_each us))) f.some.1, f.some.2);
              none = λ h. let bad : true ≡ false = h in absurd cc;
            };
            more = λ f en known. record {
              branches = us;
              stand = subst (λ m. AreHere ns m end us) (ap (λ (t : Tree). at + node_count t) (sym here) ∙ sym (ended at y en g.0.1 known)) g.1;
              same = parts ∙ ap (λ o. option_or o (named_among name (firsts_of_each us))) (f.none refl);
            };
          }
