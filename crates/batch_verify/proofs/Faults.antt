-- The rules that nodes break whatever units take the roles, by number.
use Rattle.std.proofs.Common.{◌≡◌, ◌≢◌, ◌⊎◌, ℕ, suc, true, false, ◌+◌, ◌<◌, ◌≤◌, List, [], ◌∷◌, ◌++◌, length, Option, Some, None, slice_get, get_or, sym, ap, ◌∙◌, refl, subst, arith, inl, inr, length-append}
use Rattle.std.proofs.lemmas.{Bool.cases_lt, Option.slice_get_within, Option.slice_get-get_or}
use Rattle.batch_recipe.{specs.Expanding.Binding, specs.Expanding.unbound, specs.Expanding.reserves_from, specs.Expanding.unit_count, specs.ActsAtNodes.IsNoAct, specs.Conditions.Name, specs.Links.form_at, specs.Nodes.Node, specs.Nodes.reserves_of, specs.Outlines.a_loop, specs.Outlines.act_of_kind, specs.Outlines.form_of, specs.Procedure.bound_nodes, specs.Procedure.procedure_nodes, specs.Procedure.sites, specs.Tree.Tree, specs.Tree.loop, specs.declared.act.Act.Act, specs.declared.acts.Acts.Acts, specs.declared.condition.Condition.Condition, specs.declared.entry.Entry.Entry, specs.declared.recipe.Recipe.Recipe, proofs.NodesAbove.as_many, proofs.AppendedLists.slice_get-left, proofs.AppendedLists.slice_get-right}
use Rattle.batch_model.specs.Cleared.{Level, is_procedure, in_procedure, in_unit_procedure, in_operation, Part, below, surely_runs, IsApart, TurnsRun}
use Rattle.batch_verify.{specs.Charts.depth_is, specs.Charts.of_chart, specs.Charts.reserve_count, specs.Charts.AreFaults, specs.Charts.IsChartFault, specs.Charts.ReservesAs, specs.Ways.Spot, specs.Ways.Way, specs.Ways.bound_parts, specs.Ways.bound_ways, specs.declared.depth.Depth.Depth, specs.declared.depth.Depth.TheVariants.Procedure, specs.declared.rule.Rule.Rule, proofs.PhasesInBindings.IsLike, proofs.PhasesInBindings.apart_as, proofs.PhasesInBindings.turns_as, proofs.PhasesInBindings.part_alike, proofs.EntryNodes.IsTop, proofs.EntryNodes.IsBelow, proofs.EntryNodes.Stands, proofs.EntryNodes.stands, proofs.EntryNodes.node_of, proofs.Verdicts.bare_reserves, proofs.WayActs.IsHereOn}
use Rattle.batch_verify.specs.declared.rule.Rule.TheVariants as rules

-- the element at a number of a list to which one more was added is one of those before, or it
pub one_more : {X : Type 0} (xs : List X) (x : X) (n k : ℕ) (y : X) → length xs ≡ n → slice_get (xs ++ x ∷ []) k ≡ Some y → ((k < n) × (slice_get xs k ≡ Some y)) ⊎ ((k ≡ n) × (x ≡ y))
one_more {X = X} xs x n k y size is = go (cases_lt k n)
  where
    some_is : (a b : X) → Some a ≡ Some b → a ≡ b
    some_is a b e = cc

    go : (k < n) ⊎ (n ≤ k) → ((k < n) × (slice_get xs k ≡ Some y)) ⊎ ((k ≡ n) × (x ≡ y))
    go (inl lt) =
        let z = get_or xs k x in
        let was = slice_get-get_or xs k x (omega (arith, size, lt)) in
        inl (lt, was ∙ ap (λ (q : X). Some q) (some_is z y (sym (slice_get-left xs (x ∷ []) k z was) ∙ is)))
    go (inr le) =
        let in' = slice_get_within (xs ++ x ∷ []) k y is in
        let k_is : k ≡ n = omega (arith, le, in', length-append xs (x ∷ []), size) in
        let here : k ≡ length xs + 0 = omega (arith, k_is, size) in
        inr (k_is, some_is x y (sym (slice_get-right xs (x ∷ []) 0) ∙ (ap (slice_get (xs ++ x ∷ [])) (sym here) ∙ is)))

apart_back : (x y : Part) → IsLike y x → IsApart y.level y.node.here → IsApart x.level x.node.here
apart_back x y from a = apart_as x.level y.node.here x.node.here from.1 (subst (λ (l : Level). IsApart l y.node.here) from.0 a)

module _ (r : Recipe) where
  -- so far: the level below each node, and the rule that each node breaks
  pub record KeepsFaults (below : List Depth) (faults : List (Option Rule)) (n : ℕ) : Type 0 where
    pub few : length below ≡ n
    pub many : length faults ≡ n
    pub depths : (k : ℕ) (w : Way) (d : Depth) → slice_get (bound_ways unbound r.acts) k ≡ Some w → slice_get below k ≡ Some d → depth_is d ≡ w.under.level
    pub each : (k : ℕ) (x : Part) (fault : Option Rule) → slice_get (bound_parts unbound r.acts) k ≡ Some x → slice_get faults k ≡ Some fault → IsChartFault x (of_chart fault)
    pub reserve : (k : ℕ) (fault : Option Rule) → slice_get faults k ≡ Some fault → ReservesAs r.acts k fault

  pub KeepsFaults-none : KeepsFaults [] [] 0
  KeepsFaults-none = record {
    few = refl;
    many = refl;
    depths = λ k w d is none. absurd cc;
    each = λ k x fault is none. absurd cc;
    reserve = λ k fault none. absurd cc;
  }

  module _ (below' : List Depth) (faults : List (Option Rule)) (n : ℕ) (h : KeepsFaults below' faults n) (e : Entry) (is : slice_get r.outline.entries.items n ≡ Some e)
      (depth : Depth) (some : (d : Depth) → slice_get below' e.parent ≡ Some d → depth ≡ d) (none : length below' ≤ e.parent → depth ≡ Procedure) where
    abbrev at : Stands r unbound n e
    at = stands r unbound n e is

    depth_at : depth_is depth ≡ at.own.here.level
    depth_at = go at.hangs
      where
        go : IsTop n at.own at.x ⊎ IsBelow (bound_ways unbound r.acts) (bound_nodes unbound r.acts) n e at.own at.x → depth_is depth ≡ at.own.here.level
        go (inl t) = ap depth_is (none (omega (arith, h.few, t.number))) ∙ ap (λ (s : Spot). s.level) (sym t.stands)
        go (inr b) =
            let d = get_or below' e.parent Procedure in
            let d_is = slice_get-get_or below' e.parent Procedure (omega (arith, h.few, b.earlier)) in
            ap depth_is (some d d_is) ∙ (h.depths e.parent b.way d b.way_is d_is ∙ ap (λ (s : Spot). s.level) (sym b.stands))

    module _ (next : Depth) (under : act_of_kind r.acts e.kind ≢ None → depth_is next ≡ below (depth_is depth)) (along : act_of_kind r.acts e.kind ≡ None → next ≡ depth) where
      depth_under : depth_is next ≡ at.own.under.level
      depth_under = go (act_of_kind r.acts e.kind) refl at.on.here
        where
          go : (o : Option Act) → act_of_kind r.acts e.kind ≡ o → IsHereOn (sites unbound r.acts) at.own at.x o → depth_is next ≡ at.own.under.level
          go None o_is here = ap depth_is (along o_is) ∙ (depth_at ∙ ap (λ (s : Spot). s.level) (sym here.1))
          go (Some a) o_is here = under (λ no. let bad : Some a ≡ None = sym o_is ∙ no in cc) ∙ (ap below depth_at ∙ sym here.under_level)

      module _ (chart fault : Option Rule)
          (found : (x : Node) → slice_get (procedure_nodes r.acts) n ≡ Some x → form_of e.kind ≡ form_at x.here → IsChartFault (record { level = depth_is depth; node = x }) chart)
          (joined : (x : Part) → IsChartFault x chart → IsChartFault x (of_chart fault) × ReservesAs r.acts n fault) where
        own_chart : IsChartFault at.x chart
        own_chart =
            subst (λ (l : Level). IsChartFault (record { level = l; node = at.x.node }) chart) (depth_at ∙ sym at.on.level) (found at.x.node (node_of r unbound n at.x at.x_is) at.formed)

        own_fault : IsChartFault at.x (of_chart fault)
        own_fault = (joined at.x own_chart).0

        own_reserve : ReservesAs r.acts n fault
        own_reserve = (joined at.x own_chart).1

        pub KeepsFaults-more : KeepsFaults (below' ++ next ∷ []) (faults ++ fault ∷ []) (n + 1)
        KeepsFaults-more = record {
          few = omega (arith, length-append below' (next ∷ []), h.few);
          many = omega (arith, length-append faults (fault ∷ []), h.many);
          depths = λ k w d w_is d_is. depth_now k w d w_is (one_more below' next n k d h.few d_is);
          each = λ k x f x_is f_is. fault_now k x f x_is (one_more faults fault n k f h.many f_is);
          reserve = λ k f f_is. reserve_now k f (one_more faults fault n k f h.many f_is);
        }
          where
            way_is : (a b : Way) → Some a ≡ Some b → a ≡ b
            way_is a b e = cc

            part_is : (a b : Part) → Some a ≡ Some b → a ≡ b
            part_is a b e = cc

            depth_now : (k : ℕ) (w : Way) (d : Depth) → slice_get (bound_ways unbound r.acts) k ≡ Some w → ((k < n) × (slice_get below' k ≡ Some d)) ⊎ ((k ≡ n) × (next ≡ d)) → depth_is d ≡ w.under.level
            depth_now k w d w_is (inl was) = h.depths k w d w_is was.1
            depth_now k w d w_is (inr new) =
                let same = way_is at.own w (sym at.own_is ∙ (ap (slice_get (bound_ways unbound r.acts)) (sym new.0) ∙ w_is)) in
                ap depth_is (sym new.1) ∙ (depth_under ∙ ap (λ (v : Way). v.under.level) same)

            fault_now : (k : ℕ) (x : Part) (f : Option Rule) → slice_get (bound_parts unbound r.acts) k ≡ Some x → ((k < n) × (slice_get faults k ≡ Some f)) ⊎ ((k ≡ n) × (fault ≡ f)) → IsChartFault x (of_chart f)
            fault_now k x f x_is (inl was) = h.each k x f x_is was.1
            fault_now k x f x_is (inr new) =
                let same = part_is at.x x (sym at.x_is ∙ (ap (slice_get (bound_parts unbound r.acts)) (sym new.0) ∙ x_is)) in
                subst (λ (o : Option Rule). IsChartFault x (of_chart o)) new.1 (subst (λ (y : Part). IsChartFault y (of_chart fault)) same own_fault)

            reserve_now : (k : ℕ) (f : Option Rule) → ((k < n) × (slice_get faults k ≡ Some f)) ⊎ ((k ≡ n) × (fault ≡ f)) → ReservesAs r.acts k f
            reserve_now k f (inl was) = h.reserve k f was.1
            reserve_now k f (inr new) = subst (λ (o : Option Rule). ReservesAs r.acts k o) new.1 (subst (λ m. ReservesAs r.acts m fault) (sym new.0) own_reserve)

  -- a fault is that of the node whatever units take the roles
  fault_as : (x y : Part) → IsLike x y → IsLike y x → (fault : Option Rule) → IsChartFault y fault → IsChartFault x fault
  fault_as x y to from None h = (
    apart_back x y from h.0,
    turns_as y.node.here x.node.here from.1 h.1,
  )
  fault_as x y to from (Some rules.SamePhaseInParallel) h = λ a. h (apart_back y x to a)
  fault_as x y to from (Some rules.LoopWithoutPhase) h = (apart_back x y from h.0, λ t. h.1 (turns_as x.node.here y.node.here to.1 t))
  fault_as x y to from fault h = grind arith

  part_is : (a b : Part) → Some a ≡ Some b → a ≡ b
  part_is a b e = cc

  pub all_faults : (below' : List Depth) (faults : List (Option Rule)) (n : ℕ) → KeepsFaults below' faults n → length r.outline.entries.items ≤ n → n ≤ length r.outline.entries.items → AreFaults r.acts faults
  all_faults below' faults n h all most = record {
    as_many = omega (arith, h.many, as_many r, all, most);
    each = λ bound k x fault x_is f_is.
        let to = part_alike bound unbound r.acts k x x_is in
        let from = part_alike unbound bound r.acts k to.0 to.1 in
        let same = part_is from.0 x (sym from.1 ∙ x_is) in (
          fault_as x to.0 to.2 (subst (λ (y : Part). IsLike to.0 y) same from.2) (of_chart fault) (h.each k to.0 fault to.1 f_is),
          h.reserve k fault f_is bound x.node (node_of r bound k x x_is),
        );
  }

-- A loop.

beside_par : (l : Level) (turns : ℕ) (until : Condition) (body : Tree) → IsApart l (loop turns until body)
beside_par is_procedure turns until body = tt
beside_par in_procedure turns until body = tt
beside_par in_unit_procedure turns until body = tt
beside_par in_operation turns until body = tt

-- whether its turns run a phase is whether it surely runs one
pub loop_runs : (l : Level) (t : Tree) → a_loop ≡ form_at t → true ≡ surely_runs t → IsApart l t × TurnsRun t
loop_runs l (loop turns until body) formed runs = (beside_par l turns until body, sym runs)
loop_runs l t formed runs = absurd cc

pub loop_fault : (l : Level) (t : Tree) → a_loop ≡ form_at t → false ≡ surely_runs t → IsApart l t × ¬ (TurnsRun t)
loop_fault l (loop turns until body) formed runs = (beside_par l turns until body, λ run. let bad : true ≡ false = sym run ∙ sym runs in absurd cc)
loop_fault l t formed runs = absurd cc

-- As many unit procedures are reserved by a node as by its act.

from_counted : (number : ℕ) (names : List Name) → length (reserves_from number names) ≡ length names
from_counted number [] = refl
from_counted number (name ∷ names) = ap suc (from_counted (number + 1) names)

bare_counted : (t : Tree) → IsNoAct t → length (reserves_of t) ≡ 0
bare_counted t b = ap length (bare_reserves t b)

pub reserves_counted : (r : Recipe) (bound : Binding) (k : ℕ) (e : Entry) → slice_get r.outline.entries.items k ≡ Some e → (at : Node) → slice_get (bound_nodes bound r.acts) k ≡ Some at
    → length (reserves_of at.here) ≡ reserve_count (act_of_kind r.acts e.kind)
reserves_counted r bound k e is at at_is = ap (λ (x : Node). length (reserves_of x.here)) same ∙ go (act_of_kind r.acts e.kind) here.on.here
  where
    here : Stands r bound k e
    here = stands r bound k e is

    node_is : (a b : Node) → Some a ≡ Some b → a ≡ b
    node_is a b e = cc

    same : at ≡ here.x.node
    same = node_is at here.x.node (sym at_is ∙ node_of r bound k here.x here.x_is)

    go : (o : Option Act) → IsHereOn (sites bound r.acts) here.own here.x o → length (reserves_of here.x.node.here) ≡ reserve_count o
    go None h = bare_counted here.x.node.here h.0
    go (Some a) h = ap (λ (t : Tree). length (reserves_of t)) h.here_is ∙ from_counted (unit_count a.unit) a.reserves.items

-- A rule on `par`s and loops comes before that on reserved unit procedures.
pub chart_kept : (acts : Acts) (node : ℕ) (x : Part) (rule : Rule) → IsChartFault x (Some rule) → IsChartFault x (of_chart (Some rule)) × ReservesAs acts node (Some rule)
chart_kept acts node x rules.SamePhaseInParallel h = (h, λ bound at is. tt)
chart_kept acts node x rules.LoopWithoutPhase h = (h, λ bound at is. tt)
chart_kept acts node x rules.UnknownResource h = absurd h
chart_kept acts node x rules.ShareAboveCapacity h = absurd h
chart_kept acts node x rules.PhaseNotOffered h = absurd h
chart_kept acts node x rules.ReserveDoesNotFollow h = absurd h
chart_kept acts node x rules.RankNotRising h = absurd h
