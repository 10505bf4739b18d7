-- The paths to the nodes of a recipe, and the edges along them, by the numbers of resources and roles.
use Rattle.std.proofs.Common.{◌≡◌, ◌≢◌, ◌⊎◌, ℕ, ◌+◌, ◌<◌, ◌≤◌, Bool, true, false, IsTrue, List, [], ◌∷◌, ◌++◌, length, Option, Some, None, slice_get, get_or, set, replicate, option_map, option_and_then, sym, ap, ◌∙◌, refl, subst, arith, inl, inr, length-append}
use Rattle.std.{specs.List.Contains, specs.List.slice_index_or, proofs.lemmas.Bool.cases_eq, proofs.lemmas.Bool.cases_lt, proofs.lemmas.List.get_or_append_left, proofs.lemmas.List.get_or-append-add, proofs.lemmas.List.get_or_past, proofs.lemmas.List.get_or-replicate, proofs.lemmas.List.get_or-set_other, proofs.lemmas.List.length-map, proofs.lemmas.List.length-replicate, proofs.lemmas.List.map-append, proofs.lemmas.Option.same_Some, proofs.lemmas.Option.slice_get-map, proofs.lemmas.Option.slice_get_within}
use Rattle.batch_cell.specs.declared.cell.Cell.{Cell}
use Rattle.batch_recipe.{specs.Conditions.Name, specs.Growing.entries_of, specs.Links.IsEntryOf, specs.Links.asked_at, specs.Needs.resources_needed, specs.Nodes.Node, specs.Nodes.needs_of, specs.Outlines.act_of_kind, specs.declared.acts.LabelTable.TheVariants.Phases, specs.declared.entry.Entry.Entry, specs.declared.entry.Kind.Kind, specs.declared.recipe.Recipe.Recipe, proofs.NodeNeeds.own_needs, proofs.NodesAbove.entry_in, proofs.OutlineLinks.as_many_entries, proofs.EntryShapes.is_outline}
use Rattle.batch_recipe.specs.declared.entry.Kind.TheVariants as kind
use Rattle.batch_check.{specs.declared.edge.Edge.Edge, specs.declared.edge_set.EdgeSet.EdgeSet, specs.declared.path.Path.Path, specs.declared.path.Reach.Reach, specs.declared.path.Reach.TheVariants.Next, specs.declared.path.Reach.TheVariants.Whole, specs.declared.site.Site.Site, specs.Takings.Taking, specs.Edges.Covers, specs.Edges.Follows, specs.Edges.number_of_resource, specs.Edges.numbers_of_resources, specs.Joining.needs_in, specs.Pairs.ArePaired, specs.Pairs.Keeps, specs.Sites.StandFor, specs.Sites.bound_on, specs.Sites.count_with_roles, specs.Sites.needs_at, specs.Sites.nodes_on, specs.Sites.resource_count, specs.Sites.resource_on, specs.Sites.resources_on, specs.Sites.sites_on, specs.Sites.units_on, specs.Collecting.GoesOn, specs.Collecting.HasAsked, specs.Collecting.IsAmong, specs.Collecting.IsAskedAt, specs.Collecting.IsCollected, specs.Collecting.IsPathOf, specs.Collecting.IsReady, specs.Collecting.PairsAll, specs.Collecting.StandsOn, specs.Collecting.is_joined, specs.Collecting.kept_at_top, specs.Collecting.kept_by, specs.Collecting.with_joined, proofs.EdgesOfAct.Follows-keeps, proofs.EdgesOfAct.GoesOn-append, proofs.EdgesOfAct.GoesOn-grown, proofs.EdgesOfAct.GoesOn-none, proofs.EdgesOfAct.IsPathOf-append, proofs.PairsInBindings.each_at, proofs.EdgesFromNeeds.Contains-none, proofs.ResourceNumbers.IsNamed, proofs.ResourceNumbers.number_at, proofs.ResourceNumbers.numbers-append, proofs.Roles.ArePaired-taken, proofs.Roles.Follows-taken}

-- no need was asked for above all nodes
pub record IsTop (recipe : ℕ) (kept : Option (List (Option ℕ))) (top : Path) : Type 0 where
  pub recipe_is : top.recipe ≡ recipe
  pub last_is : top.last ≡ None
  pub kept_is : kept_by top ≡ kept
  pub empty : (kept ≡ None) ⊎ (kept ≡ Some [])

pub top_of : (recipe : ℕ) (reach : Reach) (top : Path) → top.recipe ≡ recipe → top.last ≡ None → kept_by top ≡ kept_at_top reach → IsTop recipe (kept_at_top reach) top
top_of recipe reach top recipe_is last_is kept_is = record { recipe_is = recipe_is; last_is = last_is; kept_is = kept_is; empty = nothing reach }
  where
    nothing : (reach : Reach) → (kept_at_top reach ≡ None) ⊎ (kept_at_top reach ≡ Some [])
    nothing Next = inl refl
    nothing Whole = inr refl

-- the path leads to the node: whatever candidates take the roles, its needs stand for the resources asked for there
pub record LeadsTo (site : Site) (top : Path) (edges : EdgeSet) (number : ℕ) (path : Path) : Type 0 where
  pub needs : List (Option ℕ)
  pub further : GoesOn top needs edges path
  pub stands : (t : Taking) (x : Node) → slice_get (nodes_on site t) number ≡ Some x → resources_on site t needs ≡ numbers_of_resources site.cell.now x.asked

-- the edges of the first nodes were collected, on the paths to them
pub record KeepsPaths (site : Site) (top : Path) (edges : EdgeSet) (paths : List Path) (count : ℕ) : Type 0 where
  pub as_many : length paths ≡ count
  pub sized : edges.count ≡ count_with_roles site
  pub along : (k : ℕ) → k < length paths → LeadsTo site top edges k (get_or paths k top)
  pub standing : (edge : Edge) → Contains edges.edges.items edge → StandsOn site top.recipe edge

module _ (site : Site) (number : ℕ) (kept : Option (List (Option ℕ))) (top : Path) (is_top : IsTop number kept top) where
  abbrev cell : Cell
  cell = site.cell.now

  abbrev recipe : Recipe
  recipe = site.recipe.now

  no_needs : (needs : List (Option ℕ)) → kept_by top ≡ Some needs → needs ≡ []
  no_needs needs is = grind arith

  above_all : IsPathOf [] top
  above_all = record { ends = sym is_top.last_is; kept = no_needs }

  top_is_ready : (edges : EdgeSet) → IsReady top edges
  top_is_ready edges = record {
    within = λ k is. let bad : None ≡ Some k = sym is_top.last_is ∙ is in absurd cc;
    below = λ k among. absurd (Contains-none (Some k) (subst (λ (ns : List (Option ℕ)). Contains ns (Some k)) (none_in (kept_by top) no_needs) among));
  }
    where
      none_in : (o : Option (List (Option ℕ))) → ((needs : List (Option ℕ)) → o ≡ Some needs → needs ≡ []) → needs_in o ≡ []
      none_in None h = refl
      none_in (Some needs) h = h needs refl

  pub KeepsPaths-first : (edges : EdgeSet) → edges.count ≡ count_with_roles site → edges.edges.items ≡ [] → KeepsPaths site top edges [] 0
  KeepsPaths-first edges sized empty = record {
    as_many = refl;
    sized = sized;
    along = λ k past. absurd (omega (arith, past));
    standing = λ edge stands. absurd (Contains-none edge (subst (λ (es : List Edge). Contains es edge) empty stands));
  }

  as_many_nodes : (t : Taking) → length recipe.outline.entries.items ≡ length (nodes_on site t)
  as_many_nodes t = ap length recipe.outlined ∙ as_many_entries recipe.acts (entries_of recipe.acts) (is_outline recipe.acts) (bound_on site t)

  module _ (edges : EdgeSet) (paths : List Path) (count : ℕ) (h : KeepsPaths site top edges paths count) where
    module _ (e : Entry) (is : slice_get recipe.outline.entries.items count ≡ Some e) where
      abbrev it : (t : Taking) → IsEntryOf (nodes_on site t) count e
      it t = entry_in recipe (bound_on site t) count e is

      -- the resources that the node asks for itself
      abbrev own : Taking → List Name
      own t = resources_needed (asked_at (sites_on site t) (act_of_kind recipe.acts e.kind))

      own_is : (t : Taking) → resources_needed (needs_of (it t).at.here) ≡ own t
      own_is t = ap resources_needed (own_needs recipe (bound_on site t) count e (it t).at is (it t).numbered)

      -- the path above it
      abbrev above : Path
      above = get_or paths e.parent top

      -- the resources asked for there; these needs are their numbers
      pub record AreAbove (t : Taking) (needs : List (Option ℕ)) : Type 0 where
        pub names : List Name
        pub stand : resources_on site t needs ≡ numbers_of_resources cell names
        pub asks : (it t).at.asked ≡ names ++ own t

      pub record IsAbove : Type 0 where
        pub needs : List (Option ℕ)
        pub further : GoesOn top needs edges above
        pub asked : (t : Taking) → AreAbove t needs

      pub is_above : IsAbove
      is_above = go (cases_lt e.parent (length paths))
        where
          go : (e.parent < length paths) ⊎ (length paths ≤ e.parent) → IsAbove
          go (inl earlier) =
              let up = h.along e.parent earlier in
              record {
                needs = up.needs;
                further = up.further;
                asked = λ t. elim (it t).hangs [
                  | inl first ↦ absurd (omega (arith, earlier, first.number, h.as_many))
                  | inr hangs ↦ record {
                    names = hangs.above.asked;
                    stand = up.stands t hangs.above hangs.known;
                    asks = hangs.asks ∙ ap (λ (names : List Name). hangs.above.asked ++ names) (own_is t);
                  }
                ];
              }
          go (inr past) = record {
            needs = [];
            further = subst (λ (path : Path). GoesOn top [] edges path) (sym (get_or_past paths e.parent top past)) (GoesOn-none top edges (top_is_ready edges));
            asked = λ t. elim (it t).hangs [
              | inl first ↦ record { names = []; stand = refl; asks = first.asks ∙ own_is t }
              | inr hangs ↦ absurd (omega (arith, past, hangs.earlier, h.as_many))
            ];
          }

      module _ (own_numbers : List (Option ℕ)) (stand : StandFor site (needs_at site e.kind) own_numbers) (next : Path) (new : EdgeSet) (asked : HasAsked above count own_numbers edges new next) where
        -- the resources for which the needs on the path to the node stand
        there : (t : Taking) → resources_on site t (is_above.needs ++ own_numbers) ≡ numbers_of_resources cell (it t).at.asked
        there t =
            let up = is_above.asked t in
            map-append (option_and_then (resource_on site t)) is_above.needs own_numbers
            ∙ (ap (λ (ns : List (Option ℕ)). ns ++ resources_on site t own_numbers) up.stand
            ∙ (ap (λ (ns : List (Option ℕ)). numbers_of_resources cell up.names ++ ns) (stand.taken t)
            ∙ (sym (numbers-append cell up.names (own t)) ∙ ap (numbers_of_resources cell) (sym up.asks))))

        -- the resource for which a number on the path stands, at its place
        need_there : (t : Taking) (place n k : ℕ) → slice_get (is_above.needs ++ own_numbers) place ≡ Some (Some n) → resource_on site t n ≡ Some k → IsNamed cell (it t).at.asked place k
        need_there t place n k at stands_for =
            number_at cell (it t).at.asked place k
            (ap (λ (ns : List (Option ℕ)). slice_get ns place) (sym (there t))
            ∙ (slice_get-map (option_and_then (resource_on site t)) (is_above.needs ++ own_numbers) place
            ∙ (ap (option_map (option_and_then (resource_on site t))) at ∙ ap (λ (o : Option ℕ). Some o) stands_for)))

        asked_here : (edge : Edge) → edge.node ≡ count → IsAmong is_above.needs own_numbers edge → (t : Taking) (i j : ℕ) → resource_on site t edge.earlier ≡ Some i → resource_on site t edge.later ≡ Some j
            → IsAskedAt cell (nodes_on site t) edge.node i j
        asked_here edge node_is among t i j earlier_is later_is =
            let earlier = need_there t among.before edge.earlier i among.earlier_is earlier_is in
            let later = need_there t among.place edge.later j among.later_is later_is in
            let up = is_above.asked t in
            let x : Node = (it t).at in
            record {
              node = x;
              numbered = ap (slice_get (nodes_on site t)) node_is ∙ (it t).numbered;
              asked = record {
                earlier_name = earlier.name;
                later_name = later.name;
                earlier_named = earlier.named;
                later_named = later.named;
                asked = record {
                  before = among.before;
                  own = among.place;
                  ordered = among.ordered;
                  among_own = omega (arith, among.among_own, ap length up.stand, length-map is_above.needs (option_and_then (resource_on site t)), length-map up.names (number_of_resource cell), ap length up.asks, length-append up.names (own t), ap length (own_is t), length-map (needs_of x.here) (λ n. n.resource));
                  earlier_is = earlier.name_is;
                  later_is = later.name_is;
                };
              };
            }

        leads_here : LeadsTo site top new count next
        leads_here = record {
          needs = is_above.needs ++ own_numbers;
          further =
              GoesOn-append top is_above.needs own_numbers new above next
              (GoesOn-grown top is_above.needs edges new above asked.grown is_above.further) asked.further;
          stands = λ t x at.
              let found : (it t).at ≡ x = same_Some (it t).at x (sym (it t).numbered ∙ at) in
              there t ∙ ap (λ (y : Node). numbers_of_resources cell y.asked) found;
        }

        pub KeepsPaths-more : KeepsPaths site top new (paths ++ next ∷ []) (count + 1)
        KeepsPaths-more = record {
          as_many = omega (arith, length-append paths (next ∷ []), h.as_many);
          sized = asked.grown.same_count ∙ h.sized;
          along = λ k below. path_to k (cases_lt k count) (omega (arith, below, length-append paths (next ∷ []), h.as_many));
          standing = λ edge stands. elim (asked.standing is_above.needs (IsPathOf-append [] is_above.needs top above edges is_above.further above_all) edge stands) [
            | inl known ↦ h.standing edge known
            | inr here ↦ record { recipe_is = here.0 ∙ is_above.further.same_recipe; asked = asked_here edge here.1 here.2 }
          ];
        }
          where
            path_to : (k : ℕ) → (k < count) ⊎ (count ≤ k) → k ≤ count → LeadsTo site top new k (get_or (paths ++ next ∷ []) k top)
            path_to k (inl before) below =
                let within : k < length paths = omega (arith, h.as_many, before) in
                let there_before = h.along k within in
                subst (λ (path : Path). LeadsTo site top new k path) (sym (get_or_append_left paths (next ∷ []) top k within))
                (record {
                  needs = there_before.needs;
                  further = GoesOn-grown top there_before.needs edges new (get_or paths k top) asked.grown there_before.further;
                  stands = there_before.stands;
                })
            path_to k (inr past) below =
                let last : k ≡ length paths + 0 = omega (arith, past, below, h.as_many) in
                let same : count ≡ k = omega (arith, past, below) in
                let is_next : get_or (paths ++ next ∷ []) k top ≡ next = ap (λ i. get_or (paths ++ next ∷ []) i top) last ∙ get_or-append-add paths (next ∷ []) 0 top in
                subst (λ (path : Path). LeadsTo site top new k path) (sym is_next) (subst (λ i. LeadsTo site top new i next) same leads_here)

    -- the edges of all nodes
    pub all_collected : length recipe.outline.entries.items ≤ count → IsCollected site kept number edges.edges.items
    all_collected past = record {
      standing = λ edge stands. subst (λ n. StandsOn site n edge) is_top.recipe_is (h.standing edge stands);
      covering = λ t final taken. each_at (Covers cell final) (nodes_on site t) (λ k x at.
          let there = path_of t k x at in
          subst (λ (ns : List (Option ℕ)). Follows final None ns) (there.stands t x at)
          (Follows-taken (resource_count site) (units_on site t) edges.edges.items final taken None there.needs
          (subst (λ o. Follows edges.edges.items o there.needs) is_top.last_is there.further.covering)));
      pairing = λ whole t final taken. each_at (PairsAll cell final) (nodes_on site t) (λ k x at.
          let there = path_of t k x at in
          subst (λ (ns : List (Option ℕ)). ArePaired final ns) (there.stands t x at)
          (ArePaired-taken (resource_count site) (units_on site t) edges.edges.items final taken there.needs
          (there.further.pairing [] (is_top.kept_is ∙ whole) edges.edges.items (λ i j known. known)
          (λ before place i j ordered at_before at_place. let bad : None ≡ Some (Some i) = at_before in absurd cc))));
    }
      where
        path_of : (t : Taking) (k : ℕ) (x : Node) → slice_get (nodes_on site t) k ≡ Some x → LeadsTo site top edges k (get_or paths k top)
        path_of t k x at = h.along k (omega (arith, slice_get_within (nodes_on site t) k x at, past, h.as_many, as_many_nodes t))

-- The acts whose own needs are joined

-- where an act's flag is set, there are edges between its own needs
abbrev pub AreJoined : (Kind → List (Option ℕ)) → List Bool → EdgeSet → Type 0
AreJoined own joined edges = (number : ℕ) → IsTrue (slice_index_or joined number false) → Follows edges.edges.items None (own (kind.Act Phases number))

pub AreJoined-none : (own : Kind → List (Option ℕ)) (joined : List Bool) (n : ℕ) (edges : EdgeSet) → joined ≡ replicate n false → AreJoined own joined edges
AreJoined-none own joined n edges is = λ number told.
    let none : get_or joined number false ≡ false = ap (λ (flags : List Bool). get_or flags number false) is ∙ all_false number (cases_lt number n) in
    let bad : false ≡ true = sym none ∙ told in
    absurd cc
  where
    all_false : (k : ℕ) → (k < n) ⊎ (n ≤ k) → get_or (replicate n false) k false ≡ false
    all_false k (inl within) = get_or-replicate n k false false within
    all_false k (inr past) = get_or_past (replicate n false) k false (omega (arith, past, length-replicate n false))

pub AreJoined-at : (own : Kind → List (Option ℕ)) (joined : List Bool) (edges : EdgeSet) (k : Kind) → AreJoined own joined edges → IsTrue (is_joined joined k) → Follows edges.edges.items None (own k)
AreJoined-at own joined edges (kind.Act Phases number) h is = h number is
AreJoined-at own joined edges _ h is = let bad : false ≡ true = is in absurd cc

pub AreJoined-with : (own : Kind → List (Option ℕ)) (joined : List Bool) (old new : EdgeSet) (k : Kind) → AreJoined own joined old → Keeps old.edges.items new.edges.items
    → Follows new.edges.items None (own k) → AreJoined own (with_joined joined k) new
AreJoined-with own joined old new (kind.Act Phases place) h kept follows = λ number is. at number is (cases_eq number place)
  where
    at : (number : ℕ) → IsTrue (get_or (set joined place true) number false) → (number ≡ place) ⊎ (number ≢ place) → Follows new.edges.items None (own (kind.Act Phases number))
    at number is (inl same) = subst (λ n. Follows new.edges.items None (own (kind.Act Phases n))) (sym same) follows
    at number is (inr other) = Follows-keeps old.edges.items new.edges.items kept None (own (kind.Act Phases number)) (h number (subst IsTrue (get_or-set_other joined place number true false other) is))
AreJoined-with own joined old new _ h kept follows = λ number is. Follows-keeps old.edges.items new.edges.items kept None (own (kind.Act Phases number)) (h number is)
