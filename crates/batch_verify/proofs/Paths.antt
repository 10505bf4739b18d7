-- The paths to the nodes of a recipe, by number, as far as the nodes meet the rules.
use Rattle.std.proofs.Common.{◌≡◌, ◌⊎◌, ℕ, ◌+◌, ◌<◌, ◌≤◌, List, [], ◌∷◌, ◌++◌, length, Option, Some, None, Result, Ok, Err, slice_get, get_or, sym, ap, ◌∙◌, refl, subst, arith, inl, inr, append-nil, length-append}
use Rattle.std.{specs.Option.ForSome, proofs.lemmas.Bool.cases_lt, proofs.lemmas.List.length-map, proofs.lemmas.Option.slice_get-get_or}
use Rattle.batch_cell.specs.LookUps.{units_of}
use Rattle.batch_cell.specs.declared.cell.Cell as equipment
use Rattle.batch_recipe.{specs.ActsAtNodes.IsNoAct, specs.Conditions.Name, specs.Expanding.Binding, specs.Expanding.Sites, specs.Expanding.act_tree_with, specs.Expanding.needs_with, specs.Needs.resources_needed, specs.Nodes.Node, specs.Nodes.needs_of, specs.Outlines.act_of_kind, specs.Procedure.bound_nodes, specs.Procedure.bound_tree, specs.Procedure.sites, specs.Tree.Tree, specs.declared.act.Act.Act, specs.declared.entry.Entry.Entry, specs.declared.recipe.Recipe.Recipe, proofs.OutlineLinks.as_many_entries}
use Rattle.batch_model.{specs.Lists.Each, specs.Cleared.Ranking, specs.Cleared.Level, specs.Cleared.is_procedure, specs.Cleared.below, specs.Cleared.Part, specs.Cleared.part, specs.Setups.setup_of, proofs.TreeParts.parts-nodes}
use Rattle.batch_verify.{specs.Charts.AreFaults, specs.Charts.IsFaultOf, specs.Refusals.Breaks, specs.Refusals.IsFirstBroken, specs.Refusals.MeetsRules, specs.Walking.IsEntered, specs.Walking.IsEnteredAs, specs.Walking.IsOnUnit, specs.Walking.RisesTo, specs.Walking.kept, specs.Walking.no_path, specs.Ways.Spot, specs.Ways.Way, specs.Ways.top, specs.Ways.bound_parts, specs.Ways.bound_ways, specs.declared.rule.Rule.Rule, specs.declared.site.Path.Path, proofs.Faults.one_more, proofs.Spots.outlines, proofs.Ranks.path_begins, proofs.Ranks.path_is_rising, proofs.EntryNodes.IsTop, proofs.EntryNodes.IsBelow, proofs.EntryNodes.Stands, proofs.EntryNodes.stands, proofs.EntryNodes.node_of, proofs.Verdicts.MeetBelow, proofs.Verdicts.all_meet, proofs.Verdicts.bare_breaks, proofs.Verdicts.bare_meets, proofs.Verdicts.bare_needs, proofs.Verdicts.first_breaks, proofs.WayActs.IsActOn, proofs.WayActs.IsHereOn}

module _ (c : equipment.Cell) (ranking : Option Ranking) (bound : Binding) (r : Recipe) where
  abbrev on : Sites
  on = sites bound r.acts

  abbrev procedure : Tree
  procedure = bound_tree bound r.acts

  abbrev pub IsNumber : Path → Type 0
  IsNumber p = ForSome p.unit (λ number. number < length (units_of c))

  -- the path runs on the unit of the spot, and rises along these names
  abbrev pub IsPathTo : Spot → List Name → Path → Type 0
  IsPathTo v names p = IsOnUnit c v.level v.unit p.unit × RisesTo ranking names p.last

  -- so far: the paths below the nodes, each of which meets the rules
  pub record KeepsPaths (paths : List Path) (n : ℕ) : Type 0 where
    pub size : length paths ≡ n
    pub numbers : (k : ℕ) (p : Path) → slice_get paths k ≡ Some p → IsNumber p
    pub runs : (k : ℕ) (w : Way) (x : Node) (p : Path) → slice_get (bound_ways bound r.acts) k ≡ Some w → slice_get (bound_nodes bound r.acts) k ≡ Some x → slice_get paths k ≡ Some p
        → IsPathTo w.under x.asked p
    pub meet : (recipes : List Recipe) → MeetBelow (setup_of c recipes) ranking procedure (bound_parts bound r.acts) n

  module _ (paths : List Path) (n : ℕ) (h : KeepsPaths paths n) (e : Entry) (is : slice_get r.outline.entries.items n ≡ Some e)
      (p : Path) (some : (q : Path) → slice_get paths e.parent ≡ Some q → p ≡ q) (none : length paths ≤ e.parent → p ≡ no_path) where
    abbrev at : Stands r bound n e
    at = stands r bound n e is

    first_number : IsNumber no_path
    first_number = λ number none. absurd cc

    -- the path above the node
    pub number_above : IsNumber p
    number_above = go at.hangs
      where
        go : IsTop n at.own at.x ⊎ IsBelow (bound_ways bound r.acts) (bound_nodes bound r.acts) n e at.own at.x → IsNumber p
        go (inl t) = subst IsNumber (sym (none (omega (arith, h.size, t.number)))) first_number
        go (inr b) =
            let q_is = slice_get-get_or paths e.parent no_path (omega (arith, h.size, b.earlier)) in
            subst IsNumber (sym (some (get_or paths e.parent no_path) q_is)) (h.numbers e.parent (get_or paths e.parent no_path) q_is)

    record HasAbove : Type 0 where
      pub names : List Name
      pub path_is : IsPathTo at.own.here names p
      pub asks : at.x.node.asked ≡ names ++ resources_needed (needs_of at.x.node.here)

    above : HasAbove
    above = go at.hangs
      where
        go : IsTop n at.own at.x ⊎ IsBelow (bound_ways bound r.acts) (bound_nodes bound r.acts) n e at.own at.x → HasAbove
        go (inl t) = record {
          names = [];
          path_is = subst (λ (v : Spot). IsPathTo v [] p) (sym t.stands) (subst (λ (q : Path). IsPathTo top [] q) (sym (none (omega (arith, h.size, t.number)))) (tt, path_begins ranking));
          asks = t.asks;
        }
        go (inr b) =
            let q = get_or paths e.parent no_path in
            let q_is = slice_get-get_or paths e.parent no_path (omega (arith, h.size, b.earlier)) in
            record {
              names = b.node.asked;
              path_is = subst (λ (v : Spot). IsPathTo v b.node.asked p) (sym b.stands)
                  (subst (λ (o : Path). IsPathTo b.way.under b.node.asked o) (sym (some q q_is)) (h.runs e.parent b.way b.node q b.way_is b.node_is q_is));
              asks = b.asks;
            }

    -- the verdict on the node, by that on its entry
    abbrev pub Looked : Result Path Rule → Type 0
    Looked (Ok q) = ((recipes : List Recipe) → MeetsRules (setup_of c recipes) ranking procedure at.x) × IsPathTo at.own.under at.x.node.asked q
    Looked (Err rule) = (recipes : List Recipe) → Breaks (setup_of c recipes) ranking procedure at.x rule

    module _ (bare : IsNoAct at.x.node.here) (same : at.own.under ≡ at.own.here) where
      names_are : at.x.node.asked ≡ above.names
      names_are = above.asks ∙ (ap (λ ns. above.names ++ resources_needed ns) (bare_needs at.x.node.here bare) ∙ append-nil above.names)

      path_kept : IsPathTo at.own.under at.x.node.asked p
      path_kept = subst (λ (v : Spot). IsPathTo v at.x.node.asked p) (sym same) (subst (λ ns. IsPathTo at.own.here ns p) (sym names_are) above.path_is)

      bare_looked : (fault : Option Rule) → IsFaultOf procedure at.x fault → Looked (kept p fault)
      bare_looked None sound = ((λ recipes. bare_meets (setup_of c recipes) ranking procedure at.x bare sound (path_is_rising ranking at.x.node.asked p.last path_kept.1)), path_kept)
      bare_looked (Some rule) broken = λ recipes. bare_breaks (setup_of c recipes) ranking procedure at.x bare rule broken

    module _ (a : Act) (here : IsActOn on at.own at.x a) where
      abbrev tree : Tree
      tree = act_tree_with on here.acts at.own.here.unit a at.x.node.place

      abbrev own_names : List Name
      own_names = above.names ++ resources_needed (needs_with on a)

      names_go_on : at.x.node.asked ≡ own_names
      names_go_on = above.asks ∙ ap (λ t. above.names ++ resources_needed (needs_of t)) here.here_is

      abbrev as_part : Level → List Name → Tree → Part
      as_part l asked t = record { level = l; node = record { place = at.x.node.place; asked = asked; here = t } }

      part_is : at.x ≡ part at.own.here.level at.x.node.place above.names tree
      part_is =
          ap (λ l. as_part l at.x.node.asked at.x.node.here) at.on.level
          ∙ (ap (λ ns. as_part at.own.here.level ns at.x.node.here) names_go_on ∙ ap (as_part at.own.here.level own_names) here.here_is)

      abbrev Entered : Result Path Rule → Type 0
      Entered res = (recipes : List Recipe)
          → IsEnteredAs c on (setup_of c recipes) ranking procedure at.own.here.level at.own.here.unit above.names a (part at.own.here.level at.x.node.place above.names tree) res

      act_looked : (res : Result Path Rule) → Entered res → Looked res
      act_looked (Ok q) h = (
        λ recipes. subst (λ (y : Part). MeetsRules (setup_of c recipes) ranking procedure y) (sym part_is) (h recipes).0,
        (
          subst (λ (l : Level). IsOnUnit c l at.own.under.unit q.unit) (sym here.under_level) (subst (λ u. IsOnUnit c (below at.own.here.level) u q.unit) (sym here.under_unit) (h []).1),
          subst (λ ns. RisesTo ranking ns q.last) (sym names_go_on) (h []).2,
        ),
      )
      act_looked (Err rule) h = λ recipes. subst (λ (y : Part). Breaks (setup_of c recipes) ranking procedure y rule) (sym part_is) (h recipes)

    module _ (res : Result Path Rule) (fault : Option Rule) (known : IsFaultOf procedure at.x fault)
        (entered : (a : Act) → act_of_kind r.acts e.kind ≡ Some a → (level : Level) → IsEntered c on ranking fault level p a res)
        (kept_is : act_of_kind r.acts e.kind ≡ None → res ≡ kept p fault) where
      pub looked : Looked res
      looked = go (act_of_kind r.acts e.kind) refl at.on.here
        where
          go : (o : Option Act) → act_of_kind r.acts e.kind ≡ o → IsHereOn on at.own at.x o → Looked res
          go None o_is here = subst Looked (sym (kept_is o_is)) (bare_looked here.0 here.1 fault known)
          go (Some a) o_is here =
              act_looked a here res
              (λ recipes. entered a o_is at.own.here.level procedure here.acts recipes at.own.here.unit at.x.node.place above.names here.kind above.path_is.0 above.path_is.1
              (subst (λ (y : Part). IsFaultOf procedure y fault) (part_is a here) known))

    pub KeepsPaths-more : (q : Path) → Looked (Ok q) → IsNumber q → KeepsPaths (paths ++ q ∷ []) (n + 1)
    KeepsPaths-more q ok number = record {
      size = omega (arith, length-append paths (q ∷ []), h.size);
      numbers = λ k o o_is. number_now k o (one_more paths q n k o h.size o_is);
      runs = λ k w x o w_is x_is o_is. path_now k w x o w_is x_is (one_more paths q n k o h.size o_is);
      meet = λ recipes k x lt x_is. meet_now recipes k x x_is (cases_lt k n) lt;
    }
      where
        way_is : (a b : Way) → Some a ≡ Some b → a ≡ b
        way_is a b e = cc

        node_is : (a b : Node) → Some a ≡ Some b → a ≡ b
        node_is a b e = cc

        part_at : (a b : Part) → Some a ≡ Some b → a ≡ b
        part_at a b e = cc

        number_now : (k : ℕ) (o : Path) → ((k < n) × (slice_get paths k ≡ Some o)) ⊎ ((k ≡ n) × (q ≡ o)) → IsNumber o
        number_now k o (inl was) = h.numbers k o was.1
        number_now k o (inr new) = subst IsNumber new.1 number

        path_now : (k : ℕ) (w : Way) (x : Node) (o : Path) → slice_get (bound_ways bound r.acts) k ≡ Some w → slice_get (bound_nodes bound r.acts) k ≡ Some x
            → ((k < n) × (slice_get paths k ≡ Some o)) ⊎ ((k ≡ n) × (q ≡ o)) → IsPathTo w.under x.asked o
        path_now k w x o w_is x_is (inl was) = h.runs k w x o w_is x_is was.1
        path_now k w x o w_is x_is (inr new) =
            let w_same = way_is at.own w (sym at.own_is ∙ (ap (slice_get (bound_ways bound r.acts)) (sym new.0) ∙ w_is)) in
            let x_same = node_is at.x.node x (sym (node_of r bound n at.x at.x_is) ∙ (ap (slice_get (bound_nodes bound r.acts)) (sym new.0) ∙ x_is)) in
            subst (λ (o' : Path). IsPathTo w.under x.asked o') new.1
            (subst (λ (v : Way). IsPathTo v.under x.asked q) w_same (subst (λ (y : Node). IsPathTo at.own.under y.asked q) x_same ok.1))

        meet_now : (recipes : List Recipe) (k : ℕ) (x : Part) → slice_get (bound_parts bound r.acts) k ≡ Some x → (k < n) ⊎ (n ≤ k) → k < n + 1 → MeetsRules (setup_of c recipes) ranking procedure x
        meet_now recipes k x x_is (inl lt) most = h.meet recipes k x lt x_is
        meet_now recipes k x x_is (inr le) most =
            let k_is : k ≡ n = omega (arith, le, most) in
            let same = part_at at.x x (sym at.x_is ∙ (ap (slice_get (bound_parts bound r.acts)) (sym k_is) ∙ x_is)) in
            subst (λ (y : Part). MeetsRules (setup_of c recipes) ranking procedure y) same (ok.0 recipes)

    pub path_stops : (rule : Rule) → Looked (Err rule) → (recipes : List Recipe) → IsFirstBroken (setup_of c recipes) ranking procedure (bound_parts bound r.acts) 0 (record { node = 0 + n; rule = rule })
    path_stops rule broken recipes = first_breaks (setup_of c recipes) ranking procedure (bound_parts bound r.acts) 0 n at.x rule (h.meet recipes) at.x_is (broken recipes)

    -- the rule that the node breaks as a `par` or a loop
    pub fault_known : (faults : List (Option Rule)) → AreFaults r.acts faults → (fault : Option Rule) → slice_get faults n ≡ Some fault → IsFaultOf procedure at.x fault
    fault_known faults all fault fault_is = all.each bound n at.x fault at.x_is fault_is

  pub paths_end : (paths : List Path) (n : ℕ) → KeepsPaths paths n → length r.outline.entries.items ≤ n → (recipes : List Recipe) → Each (MeetsRules (setup_of c recipes) ranking procedure) (bound_parts bound r.acts)
  paths_end paths n h all recipes =
      let parts = bound_parts bound r.acts in
      let nodes = ap length (parts-nodes is_procedure (0 ∷ []) [] (bound_tree bound r.acts)) in
      let few : length parts ≤ n = omega (arith, all, as_many_entries r.acts r.outline.entries.items (outlines r bound) bound, nodes, length-map parts (λ (x : Part). x.node)) in
      all_meet (setup_of c recipes) ranking procedure parts (λ k x lt is. h.meet recipes k x (omega (arith, lt, few)) is)
