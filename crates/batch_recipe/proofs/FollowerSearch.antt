-- The invariants of the search for the followers of a node, up from it and down from the next branch, whatever units take the roles.
use Rattle.std.proofs.Common.{◌≡◌, ◌≢◌, ◌⊎◌, inl, inr, ℕ, zero, suc, ◌+◌, ◌<◌, ◌≤◌, List, [], ◌∷◌, length, Bool, true, false, Option, Some, None, get_or, slice_get, sym, ap, ◌∙◌, refl, arith, IfSome, IsNone}
use Rattle.std.{specs.Prelude.option_map, specs.Prelude.option_and_then, proofs.lemmas.Option.slice_get_within, proofs.lemmas.Option.slice_get-get_or}
use Rattle.batch_recipe.{specs.ActsAtNodes.procedure_acts, specs.Conditions.Name, specs.Expanding.Binding, specs.Expanding.unbound, specs.Expanding.reserves_from, specs.Expanding.unit_count, specs.Following.Follower, specs.Following.firsts, specs.Following.following, specs.Following.follower, specs.Followers.level_at, specs.Followers.is_in_chart_of_procedure, specs.Followers.IsNext, specs.Followers.named_among, specs.Followers.IsFound, specs.Followers.follower_of, specs.Followers.IsFollowerAt, specs.Links.form_at, specs.Nodes.Node, specs.Nodes.reserves_of, specs.Outlines.Form, specs.Outlines.an_act, specs.Outlines.a_skip, specs.Outlines.a_seq, specs.Outlines.a_par, specs.Outlines.a_sel, specs.Outlines.a_loop, specs.Outlines.form_of, specs.Places.IsNodeAt, specs.Procedure.bound_nodes, specs.Procedure.bound_tree, specs.Procedure.procedure_nodes, specs.Tree.Place, specs.Tree.Reserve, specs.Tree.Tree, specs.Tree.act, specs.Tree.skip, specs.Tree.seq, specs.Tree.par, specs.Tree.sel, specs.Tree.loop, specs.ActsAtNodes.IsNoAct, specs.ActsAtNodes.IsNodeOf, specs.declared.act.Act.Act, specs.declared.acts.LabelTable.LabelTable, specs.declared.entry.Entry.Entry, specs.declared.entry.Kind.Kind, specs.declared.recipe.Recipe.Recipe, proofs.NodeSubtrees.some_count, proofs.NodeSubtrees.ends_within, proofs.Followers.goes_up, proofs.Followers.ends_here, proofs.Followers.after_up, proofs.Followers.after_none, proofs.Followers.entered, proofs.Followers.not_entered, proofs.Followers.under, proofs.Followers.formed, proofs.Followers.ended, proofs.Followers.as_many, proofs.Followers.level_at_first, proofs.Followers.following_first, proofs.Followers.under_act, proofs.Followers.under_other, proofs.Followers.in_seq, proofs.Followers.act_of_node, proofs.Followers.IsLooking, proofs.Followers.looking, proofs.Followers.looking_first, proofs.Followers.looking_last, proofs.Followers.in_loop, proofs.Followers.seq_first, proofs.Followers.found_below, proofs.Followers.is_bare}
use Rattle.batch_recipe.specs.declared.entry.Kind.TheVariants as kind

module _ (r : Recipe) where
  abbrev Entries : List Entry
  Entries = r.outline.entries.items

  -- as many nodes whatever units take the roles
  pub alike_many : (bound : Binding) (k : ℕ) → k < length (procedure_nodes r.acts) → k < length (bound_nodes bound r.acts)
  alike_many bound k in' = omega (arith, in', as_many r unbound, as_many r bound)

  pub node_there : (bound : Binding) (k : ℕ) → k < length (procedure_nodes r.acts) → (x : Node) × (slice_get (bound_nodes bound r.acts) k ≡ Some x)
  node_there bound k in' =
      let d : Node = record { place = []; asked = []; here = skip } in
      (get_or (bound_nodes bound r.acts) k d, slice_get-get_or (bound_nodes bound r.acts) k d (alike_many bound k in'))

  -- The way up

  -- the followers of the node are those of node `at`
  pub record IsUp (node at : ℕ) : Type 0 where
    pub within : at < length (procedure_nodes r.acts)
    pub same : (bound : Binding) (x : Node) → slice_get (bound_nodes bound r.acts) node ≡ Some x
        → (y : Node) × (slice_get (bound_nodes bound r.acts) at ≡ Some y) × (following (bound_tree bound r.acts) x.place ≡ following (bound_tree bound r.acts) y.place)

  pub parent_within : (at : ℕ) (e : Entry) → at < length (procedure_nodes r.acts) → slice_get Entries at ≡ Some e → at ≢ 0 → e.parent < length (procedure_nodes r.acts)
  parent_within at e in' known later =
      let x = node_there unbound at in' in
      let u = under r unbound at x.0 e x.1 known later in
      omega (arith, u.earlier, in')

  pub parent_earlier : (at : ℕ) (e : Entry) → at < length (procedure_nodes r.acts) → slice_get Entries at ≡ Some e → at ≢ 0 → e.parent < at
  parent_earlier at e in' known later =
      let x = node_there unbound at in' in
      (under r unbound at x.0 e x.1 known later).earlier

  module _ (node at : ℕ) (h : IsUp node at) (e above_e : Entry) (known : slice_get Entries at ≡ Some e) (above_known : slice_get Entries e.parent ≡ Some above_e) (later : at ≢ 0) where
    form_above : (bound : Binding) (y : Node) (is : slice_get (bound_nodes bound r.acts) at ≡ Some y) → form_of above_e.kind ≡ form_at (under r bound at y e is known later).above.here
    form_above bound y is = let u = under r bound at y e is known later in formed r bound e.parent u.above above_e u.above_is above_known

    pub IsUp-next : goes_up (form_of above_e.kind) ≡ true → IsUp node e.parent
    IsUp-next up = record {
      within = parent_within at e h.within known later;
      same = λ bound x is.
          let y = h.same bound x is in
          let u = under r bound at y.0 e y.1 known later in (
            u.above,
            u.above_is,
            y.2 ∙ (u.step.next_is ∙ after_up (level_at (bound_tree bound r.acts) u.above.place) (following (bound_tree bound r.acts) u.above.place) u.above.here e.child
                (ap goes_up (sym (form_above bound y.0 y.1)) ∙ up)),
          );
    }

    pub IsUp-none : ends_here (form_of above_e.kind) ≡ true → (bound : Binding) (x : Node) → slice_get (bound_nodes bound r.acts) node ≡ Some x → IsNext bound r.acts x None
    IsUp-none ends = λ bound x is.
        let y = h.same bound x is in
        let u = under r bound at y.0 e y.1 known later in
        record {
          within = tt;
          same = y.2 ∙ (u.step.next_is ∙ after_none (level_at (bound_tree bound r.acts) u.above.place) (following (bound_tree bound r.acts) u.above.place) u.above.here e.child
              (ap ends_here (sym (form_above bound y.0 y.1)) ∙ ends));
        }

    -- the last branch of a `seq`
    pub IsUp-last : form_of above_e.kind ≡ a_seq → (e.end < above_e.end → ⊥) → IsUp node e.parent
    IsUp-last form past = record {
      within = parent_within at e h.within known later;
      same = λ bound x is.
          let y = h.same bound x is in
          let u = under r bound at y.0 e y.1 known later in
          let s = in_seq r bound at y.0 e above_e y.1 u above_known (sym (form_above bound y.0 y.1) ∙ form) in
          (u.above, u.above_is, y.2 ∙ s.last past);
    }

    -- the branch after it
    pub next_within : form_of above_e.kind ≡ a_seq → e.end < above_e.end → e.end < length (procedure_nodes r.acts)
    next_within form less =
        let y = node_there unbound at h.within in
        let u = under r unbound at y.0 e y.1 known later in
        let s = in_seq r unbound at y.0 e above_e y.1 u above_known (sym (form_above unbound y.0 y.1) ∙ form) in
        let n = s.next less in
        slice_get_within (procedure_nodes r.acts) e.end n.0 n.1

    pub IsNext-branch : form_of above_e.kind ≡ a_seq → e.end < above_e.end → (inside : Bool)
        → ((bound : Binding) (y : Node) → slice_get (bound_nodes bound r.acts) e.end ≡ Some y → inside ≡ is_in_chart_of_procedure (level_at (bound_tree bound r.acts) y.place))
        → inside ≡ true → (bound : Binding) (x : Node) → slice_get (bound_nodes bound r.acts) node ≡ Some x → IsNext bound r.acts x (Some e.end)
    IsNext-branch form less inside says is_inside = λ bound x is.
        let y = h.same bound x is in
        let u = under r bound at y.0 e y.1 known later in
        let s = in_seq r bound at y.0 e above_e y.1 u above_known (sym (form_above bound y.0 y.1) ∙ form) in
        let n = s.next less in
        record {
          within = slice_get_within (bound_nodes bound r.acts) e.end n.0 n.1;
          same = y.2 ∙ (n.2 ∙ (entered (level_at (bound_tree bound r.acts) n.0.place) n.0.here (sym (says bound n.0 n.1) ∙ is_inside) ∙ rw n.1 refl));
        }

    pub IsNext-outside : form_of above_e.kind ≡ a_seq → e.end < above_e.end → (inside : Bool)
        → ((bound : Binding) (y : Node) → slice_get (bound_nodes bound r.acts) e.end ≡ Some y → inside ≡ is_in_chart_of_procedure (level_at (bound_tree bound r.acts) y.place))
        → inside ≡ false → (bound : Binding) (x : Node) → slice_get (bound_nodes bound r.acts) node ≡ Some x → IsNext bound r.acts x None
    IsNext-outside form less inside says is_outside = λ bound x is.
        let y = h.same bound x is in
        let u = under r bound at y.0 e y.1 known later in
        let s = in_seq r bound at y.0 e above_e y.1 u above_known (sym (form_above bound y.0 y.1) ∙ form) in
        let n = s.next less in
        record {
          within = tt;
          same = y.2 ∙ (n.2 ∙ not_entered (level_at (bound_tree bound r.acts) n.0.place) n.0.here (sym (says bound n.0 n.1) ∙ is_outside));
        }

  pub IsNext-top : (node at : ℕ) → IsUp node at → at ≡ 0 → (bound : Binding) (x : Node) → slice_get (bound_nodes bound r.acts) node ≡ Some x → IsNext bound r.acts x None
  IsNext-top node at h top = λ bound x is.
      let y = h.same bound x is in
      record { within = tt; same = y.2 ∙ following_first r bound y.0 (ap (slice_get (bound_nodes bound r.acts)) (sym top) ∙ y.1) }

  -- the node stands at the level of node `at`
  pub record IsLevel (node at : ℕ) : Type 0 where
    pub within : at < length (procedure_nodes r.acts)
    pub same : (bound : Binding) (x : Node) → slice_get (bound_nodes bound r.acts) node ≡ Some x
        → (y : Node) × (slice_get (bound_nodes bound r.acts) at ≡ Some y) × (level_at (bound_tree bound r.acts) x.place ≡ level_at (bound_tree bound r.acts) y.place)

  module _ (node at : ℕ) (h : IsLevel node at) (e above_e : Entry) (known : slice_get Entries at ≡ Some e) (above_known : slice_get Entries e.parent ≡ Some above_e) (later : at ≢ 0) where
    pub IsLevel-next : form_of above_e.kind ≢ an_act → IsLevel node e.parent
    IsLevel-next other = record {
      within = parent_within at e h.within known later;
      same = λ bound x is.
          let y = h.same bound x is in
          let u = under r bound at y.0 e y.1 known later in
          (u.above, u.above_is, y.2 ∙ under_other r bound at y.0 e u (λ bad. other (formed r bound e.parent u.above above_e u.above_is above_known ∙ bad)));
    }

    pub IsLevel-act : form_of above_e.kind ≡ an_act → (top : Bool) → (top ≡ true → e.parent ≡ 0) → (top ≡ false → e.parent ≢ 0)
        → (bound : Binding) (x : Node) → slice_get (bound_nodes bound r.acts) node ≡ Some x → top ≡ is_in_chart_of_procedure (level_at (bound_tree bound r.acts) x.place)
    IsLevel-act form top if_top if_low = λ bound x is.
        let y = h.same bound x is in
        let u = under r bound at y.0 e y.1 known later in
        sym (ap is_in_chart_of_procedure y.2 ∙ under_act r bound at y.0 e u (sym (formed r bound e.parent u.above above_e u.above_is above_known) ∙ form) top if_top if_low)

  pub IsLevel-top : (node at : ℕ) → IsLevel node at → at ≡ 0 → (bound : Binding) (x : Node) → slice_get (bound_nodes bound r.acts) node ≡ Some x
      → false ≡ is_in_chart_of_procedure (level_at (bound_tree bound r.acts) x.place)
  IsLevel-top node at h top = λ bound x is.
      let y = h.same bound x is in
      sym (ap is_in_chart_of_procedure (y.2 ∙ level_at_first r bound y.0 (ap (slice_get (bound_nodes bound r.acts)) (sym top) ∙ y.1)))

  -- The way down

  pub record IsLookingFrom (node : ℕ) (name : Name) (end at : ℕ) : Type 0 where
    pub later : node < at
    pub looks : (bound : Binding) (x : Node) → slice_get (bound_nodes bound r.acts) node ≡ Some x → IsLooking r bound x name end at

  pub IsLookingFrom-first : (node : ℕ) (e : Entry) (name : Name) → slice_get Entries node ≡ Some e
      → ((bound : Binding) (x : Node) → slice_get (bound_nodes bound r.acts) node ≡ Some x → form_at x.here ≡ a_par) → IsLookingFrom node name e.end (node + 1)
  IsLookingFrom-first node e name known form = record {
    later = omega arith;
    looks = λ bound x is. looking_first r bound node x e name is known (form bound x is);
  }

  pub IsLookingFrom-more : (node : ℕ) (name : Name) (end at : ℕ) → IsLookingFrom node name end at → at < end → (e : Entry) → slice_get Entries at ≡ Some e → at < length (procedure_nodes r.acts)
      → ((bound : Binding) (y : Node) → slice_get (bound_nodes bound r.acts) at ≡ Some y → IsFound bound r.acts y name None) → IsLookingFrom node name end e.end
  IsLookingFrom-more node name end at h less e known in' none = record {
    later = (let y = node_there unbound at in' in omega (arith, h.later, ended r unbound at y.0 e y.1 known));
    looks = λ bound x is. let b = looking r bound x name end at (h.looks bound x is) less in b.more (none bound b.branch_at b.stands_at) e known;
  }

  pub IsFound-branch : (node : ℕ) (name : Name) (end at to : ℕ) → IsLookingFrom node name end at → at < end
      → ((bound : Binding) (y : Node) → slice_get (bound_nodes bound r.acts) at ≡ Some y → IsFound bound r.acts y name (Some to))
      → (bound : Binding) (x : Node) → slice_get (bound_nodes bound r.acts) node ≡ Some x → IsFound bound r.acts x name (Some to)
  IsFound-branch node name end at to h less found = λ bound x is.
      let b = looking r bound x name end at (h.looks bound x is) less in
      b.found to (found bound b.branch_at b.stands_at)

  pub IsFound-none : (node : ℕ) (name : Name) (end at : ℕ) → IsLookingFrom node name end at → (at < end → ⊥)
      → (bound : Binding) (x : Node) → slice_get (bound_nodes bound r.acts) node ≡ Some x → IsFound bound r.acts x name None
  IsFound-none node name end at h past = λ bound x is. looking_last r bound x name end at (h.looks bound x is) past

  -- where an entry ends
  pub end_within : (k : ℕ) (e : Entry) → k < length (procedure_nodes r.acts) → slice_get Entries k ≡ Some e → (k < e.end) × (e.end ≤ length (procedure_nodes r.acts))
  end_within k e in' known =
      let x = node_there unbound k in' in
      let size = ended r unbound k x.0 e x.1 known in
      (omega (arith, size, some_count x.0.here), omega (arith, size, ends_within unbound r.acts k x.0 x.1))

  pub form_alike : (k : ℕ) (e : Entry) (f : Form) → slice_get Entries k ≡ Some e → form_of e.kind ≡ f → (bound : Binding) (x : Node) → slice_get (bound_nodes bound r.acts) k ≡ Some x → form_at x.here ≡ f
  form_alike k e f known form = λ bound x is. sym (formed r bound k x e is known) ∙ form

  pub IsFound-in_loop : (k : ℕ) (e : Entry) (name : Name) (found : Option ℕ) → slice_get Entries k ≡ Some e → form_of e.kind ≡ a_loop
      → ((bound : Binding) (y : Node) → slice_get (bound_nodes bound r.acts) (k + 1) ≡ Some y → IsFound bound r.acts y name found)
      → (bound : Binding) (x : Node) → slice_get (bound_nodes bound r.acts) k ≡ Some x → IsFound bound r.acts x name found
  IsFound-in_loop k e name found known form below = λ bound x is.
      let b = in_loop r bound k x is (form_alike k e a_loop known form bound x is) in
      found_below r bound x b.0 name found b.2 (below bound b.0 b.1)

  pub loop_within : (k : ℕ) (e : Entry) → k < length (procedure_nodes r.acts) → slice_get Entries k ≡ Some e → form_of e.kind ≡ a_loop → k + 1 < length (procedure_nodes r.acts)
  loop_within k e in' known form =
      let x = node_there unbound k in' in
      let b = in_loop r unbound k x.0 x.1 (form_alike k e a_loop known form unbound x.0 x.1) in
      slice_get_within (procedure_nodes r.acts) (k + 1) b.0 b.1

  pub IsFound-in_seq : (k : ℕ) (e : Entry) (name : Name) (found : Option ℕ) → slice_get Entries k ≡ Some e → form_of e.kind ≡ a_seq → k + 1 < e.end
      → ((bound : Binding) (y : Node) → slice_get (bound_nodes bound r.acts) (k + 1) ≡ Some y → IsFound bound r.acts y name found)
      → (bound : Binding) (x : Node) → slice_get (bound_nodes bound r.acts) k ≡ Some x → IsFound bound r.acts x name found
  IsFound-in_seq k e name found known form less below = λ bound x is.
      let s = seq_first r bound k x e is known (form_alike k e a_seq known form bound x is) in
      let b = s.some less in
      found_below r bound x b.0 name found b.2 (below bound b.0 b.1)

  pub IsFound-empty_seq : (k : ℕ) (e : Entry) (name : Name) → slice_get Entries k ≡ Some e → form_of e.kind ≡ a_seq → (k + 1 < e.end → ⊥)
      → (bound : Binding) (x : Node) → slice_get (bound_nodes bound r.acts) k ≡ Some x → IsFound bound r.acts x name None
  IsFound-empty_seq k e name known form past = λ bound x is.
      let s = seq_first r bound k x e is known (form_alike k e a_seq known form bound x is) in
      record { some = tt; none = λ _. ap (named_among name) (s.none past) }

  -- The unit procedures that a node reserves

  reserve_at : (names : List Name) (from i : ℕ) (name : Name) → slice_get names i ≡ Some name → (x : Reserve) × (slice_get (reserves_from from names) i ≡ Some x) × (x.name ≡ name)
  reserve_at [] from i name is = let bad : None ≡ Some name = is in absurd cc
  reserve_at (n ∷ names) from zero name is = let e : Some n ≡ Some name = is in (record { name = n; need = from }, refl, (let same : n ≡ name = cc in same))
  reserve_at (n ∷ names) from (suc i) name is = reserve_at names (from + 1) i name is

  no_reserve_at : (names : List Name) (from i : ℕ) → slice_get names i ≡ None → slice_get (reserves_from from names) i ≡ None
  no_reserve_at [] from i is = refl
  no_reserve_at (n ∷ names) from zero is = let bad : Some n ≡ None = is in absurd cc
  no_reserve_at (n ∷ names) from (suc i) is = no_reserve_at names (from + 1) i is

  reserves_are : (bound : Binding) (a : Act) (at : Node) → IsNodeOf bound r.acts a at → reserves_of at.here ≡ reserves_from (unit_count a.unit) a.reserves.items
  reserves_are bound a at h = ap reserves_of h.here_is

  pub follower_is : (k : ℕ) (a : Act) (i : ℕ) (name : Name) → slice_get (procedure_acts r.acts) k ≡ Some (Some a) → slice_get a.reserves.items i ≡ Some name
      → (bound : Binding) (x : Node) → slice_get (bound_nodes bound r.acts) k ≡ Some x → follower_of (bound_tree bound r.acts) x i ≡ follower (bound_tree bound r.acts) x.place name
  follower_is k a i name known is = λ bound x at.
      let g = reserve_at a.reserves.items (unit_count a.unit) i name is in
      let all = reserves_are bound a x (act_of_node r bound k x (Some a) at known) in
      ap (option_and_then (λ (z : Reserve). follower (bound_tree bound r.acts) x.place z.name)) (ap (λ xs. slice_get xs i) all ∙ g.1) ∙ ap (follower (bound_tree bound r.acts) x.place) g.2

  pub no_follower : (k : ℕ) (a : Act) (i : ℕ) → slice_get (procedure_acts r.acts) k ≡ Some (Some a) → slice_get a.reserves.items i ≡ None
      → (bound : Binding) (x : Node) → slice_get (bound_nodes bound r.acts) k ≡ Some x → follower_of (bound_tree bound r.acts) x i ≡ None
  no_follower k a i known is = λ bound x at.
      let all = reserves_are bound a x (act_of_node r bound k x (Some a) at known) in
      ap (option_and_then (λ (z : Reserve). follower (bound_tree bound r.acts) x.place z.name)) (ap (λ xs. slice_get xs i) all ∙ no_reserve_at a.reserves.items (unit_count a.unit) i is)

  no_reserves : (t : Tree) → IsNoAct t → reserves_of t ≡ []
  no_reserves (act s w) h = absurd h
  no_reserves skip h = refl
  no_reserves (seq ts) h = refl
  no_reserves (par ts) h = refl
  no_reserves (sel cs) h = refl
  no_reserves (loop n c t) h = refl

  pub no_act_follower : (k i : ℕ) → slice_get (procedure_acts r.acts) k ≡ Some None
      → (bound : Binding) (x : Node) → slice_get (bound_nodes bound r.acts) k ≡ Some x → follower_of (bound_tree bound r.acts) x i ≡ None
  no_act_follower k i known = λ bound x at.
      ap (option_and_then (λ (z : Reserve). follower (bound_tree bound r.acts) x.place z.name)) (ap (λ xs. slice_get xs i) (no_reserves x.here (act_of_node r bound k x None at known)))

  -- where nothing is next, nothing follows
  pub nothing_next : (bound : Binding) (x : Node) (name : Name) → IsNext bound r.acts x None → follower (bound_tree bound r.acts) x.place name ≡ None
  nothing_next bound x name h = ap (λ fs. option_map (λ (f : Follower). f.1) (named_among name fs)) h.same

  -- else the follower is the one met first below the next node
  next_found : (bound : Binding) (x y : Node) (next : ℕ) (name : Name) → IsNext bound r.acts x (Some next) → slice_get (bound_nodes bound r.acts) next ≡ Some y
      → follower (bound_tree bound r.acts) x.place name ≡ option_map (λ (f : Follower). f.1) (named_among name (firsts y.here))
  next_found bound x y next name h at = ap (λ fs. option_map (λ (f : Follower). f.1) (named_among name fs)) (h.same ∙ rw at refl)

  pub found_next : (bound : Binding) (x : Node) (next : ℕ) (name : Name) (to : ℕ) → IsNext bound r.acts x (Some next)
      → ((y : Node) → slice_get (bound_nodes bound r.acts) next ≡ Some y → IsFound bound r.acts y name (Some to))
      → (place : Place) × (follower (bound_tree bound r.acts) x.place name ≡ Some place) × IsNodeAt (bound_nodes bound r.acts) to place
  found_next bound x next name to h found =
      let d : Node = record { place = []; asked = []; here = skip } in
      let y = get_or (bound_nodes bound r.acts) next d in
      let at : slice_get (bound_nodes bound r.acts) next ≡ Some y = slice_get-get_or (bound_nodes bound r.acts) next d h.within in
      let f = (found y at).some in
      (f.0.1, next_found bound x y next name h at ∙ ap (option_map (λ (f : Follower). f.1)) f.1, f.2)

  pub none_next : (bound : Binding) (x : Node) (next : ℕ) (name : Name) → IsNext bound r.acts x (Some next)
      → ((y : Node) → slice_get (bound_nodes bound r.acts) next ≡ Some y → IsFound bound r.acts y name None)
      → follower (bound_tree bound r.acts) x.place name ≡ None
  none_next bound x next name h found =
      let d : Node = record { place = []; asked = []; here = skip } in
      let y = get_or (bound_nodes bound r.acts) next d in
      let at : slice_get (bound_nodes bound r.acts) next ≡ Some y = slice_get-get_or (bound_nodes bound r.acts) next d h.within in
      next_found bound x y next name h at ∙ ap (option_map (λ (f : Follower). f.1)) ((found y at).none refl)

  -- a node of the procedure's tree under a binding is one of it
  pub within_any : (bound : Binding) (k : ℕ) (x : Node) → slice_get (bound_nodes bound r.acts) k ≡ Some x → k < length (procedure_nodes r.acts)
  within_any bound k x is = let in' = slice_get_within (bound_nodes bound r.acts) k x is in omega (arith, in', as_many r bound, as_many r unbound)

  -- the answer for one reserved unit procedure
  module _ (bound : Binding) (x : Node) (i next : ℕ) (name : Name) (is_next : IsNext bound r.acts x (Some next)) (e : follower_of (bound_tree bound r.acts) x i ≡ follower (bound_tree bound r.acts) x.place name) where
    pub told_some : (o : Option ℕ) → ((y : Node) → slice_get (bound_nodes bound r.acts) next ≡ Some y → IsFound bound r.acts y name o) → IfSome o (λ to. IsFollowerAt bound r.acts x i to)
    told_some None found = tt
    told_some (Some to) found = let f = found_next bound x next name to is_next found in (f.0, e ∙ f.1, f.2)

    pub told_none : (o : Option ℕ) → ((y : Node) → slice_get (bound_nodes bound r.acts) next ≡ Some y → IsFound bound r.acts y name o) → IsNone o → follower_of (bound_tree bound r.acts) x i ≡ None
    told_none None found h = e ∙ none_next bound x next name is_next found
    told_none (Some to) found h = let bad : true ≡ false = h in absurd cc

-- The forms of the kinds of nodes

pub act_form : (k : Kind) → (k ≡ kind.Procedure) ⊎ ((level : LabelTable) × (number : ℕ) × (k ≡ kind.Act level number)) → form_of k ≡ an_act
act_form k h = grind arith

pub ends_form : (k : Kind) → (k ≡ kind.Skip) ⊎ ((k ≡ kind.Par) ⊎ ((turns : ℕ) × (k ≡ kind.Loop turns))) → ends_here (form_of k) ≡ true
ends_form k (inl e) = ap (λ (z : Kind). ends_here (form_of z)) e
ends_form k (inr (inl e)) = ap (λ (z : Kind). ends_here (form_of z)) e
ends_form k (inr (inr e)) = ap (λ (z : Kind). ends_here (form_of z)) e.1

pub up_form : (k : Kind) → (k ≡ kind.Procedure) ⊎ (((level : LabelTable) × (number : ℕ) × (k ≡ kind.Act level number)) ⊎ (k ≡ kind.Sel)) → goes_up (form_of k) ≡ true
up_form k (inl e) = ap (λ (z : Kind). goes_up (form_of z)) e
up_form k (inr (inl e)) = ap (λ (z : Kind). goes_up (form_of z)) e.2
up_form k (inr (inr e)) = ap (λ (z : Kind). goes_up (form_of z)) e

pub bare_form : (k : Kind) → (k ≡ kind.Procedure) ⊎ (((level : LabelTable) × (number : ℕ) × (k ≡ kind.Act level number)) ⊎ ((k ≡ kind.Skip) ⊎ (k ≡ kind.Sel))) → is_bare (form_of k) ≡ true
bare_form k (inl e) = ap (λ (z : Kind). is_bare (form_of z)) e
bare_form k (inr (inl e)) = ap (λ (z : Kind). is_bare (form_of z)) e.2
bare_form k (inr (inr (inl e))) = ap (λ (z : Kind). is_bare (form_of z)) e
bare_form k (inr (inr (inr e))) = ap (λ (z : Kind). is_bare (form_of z)) e

not_act : (f : Form) → f ≢ an_act → (k : Kind) → form_of k ≡ f → form_of k ≢ an_act
not_act f d k e h = d (sym e ∙ h)

pub other_form : (k : Kind) → (k ≡ kind.Skip) ⊎ ((k ≡ kind.Seq) ⊎ ((k ≡ kind.Par) ⊎ ((k ≡ kind.Sel) ⊎ ((turns : ℕ) × (k ≡ kind.Loop turns))))) → form_of k ≢ an_act
other_form k (inl e) = not_act a_skip (λ h. let bad : a_skip ≡ an_act = h in cc) k (ap form_of e)
other_form k (inr (inl e)) = not_act a_seq (λ h. let bad : a_seq ≡ an_act = h in cc) k (ap form_of e)
other_form k (inr (inr (inl e))) = not_act a_par (λ h. let bad : a_par ≡ an_act = h in cc) k (ap form_of e)
other_form k (inr (inr (inr (inl e)))) = not_act a_sel (λ h. let bad : a_sel ≡ an_act = h in cc) k (ap form_of e)
other_form k (inr (inr (inr (inr e)))) = not_act a_loop (λ h. let bad : a_loop ≡ an_act = h in cc) k (ap form_of e.1)
