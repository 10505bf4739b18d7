-- Ranks that are one more than the greatest before them on a path.
use Rattle.std.proofs.Common.{◌≡◌, ℕ, zero, suc, ◌<◌, ◌⊎◌, List, [], ◌∷◌, map, length, get_or, slice_get, IsTrue, Some, None, inl, inr, refl, sym, ap, ◌∙◌, subst, arith}
use Rattle.std.proofs.lemmas.{Bool.cases_lt, Option.slice_get_within, List.Elements.All-contains}
use Rattle.batch_cell.specs.LookUps.{resources_of}
use Rattle.batch_cell.specs.declared.cell.Cell as equipment
use Rattle.batch_recipe.specs.{Conditions.Name, Nodes.Node, Expanding.Binding, Procedure.bound_nodes, Procedure.bound_tree, WellFormed.is_among}
use Rattle.batch_recipe.specs.declared.recipe.Recipe as document
use Rattle.batch_model.{specs.Lists.Has, specs.Lists.Each, specs.Plant.Master, specs.Cleared.Ranking, specs.Cleared.RiseStrictly, specs.Cleared.HasCandidates, specs.Cleared.IsServed, specs.Cleared.Part, specs.Cleared.is_procedure, specs.Cleared.procedure_parts, specs.Recipes.recipe_of, specs.Setups.master_of, specs.Setups.setup_of, proofs.Members.Each-Has, proofs.TreeParts.parts-nodes}
use Rattle.batch_verify.{specs.Refusals.rank_in, proofs.ServedRoles.served_is_tried, proofs.ServedRoles.tried_serves}
use Rattle.batch_check.{specs.declared.edge.Edge.Edge, specs.ByName.resource_name_in, specs.Clearing.NeedResources, specs.Edges.OfNodes, specs.Edges.EdgeStands, specs.Edges.AreEdgesOf, specs.LeastRanking.IsLeastRanking, specs.TightRanks.IsAskedBefore, specs.TightRanks.FollowsGreatest, specs.TightRanks.IsLowest, specs.TightRanks.RanksTightly, proofs.ResourceNeeds.found, proofs.ResourceNeeds.known_path, proofs.Names.name_in-found, proofs.Names.rank_in-name, proofs.RanksAlongPaths.Each-get, proofs.RanksAlongPaths.nodes-Each, proofs.RanksAlongPaths.rises_at, proofs.RanksAlongPaths.rank_of_found, proofs.RanksAlongPaths.recipes_rise}

-- Elements

Has-get : {X : Type 0} (xs : List X) (i : ℕ) (x : X) → slice_get xs i ≡ Some x → Has xs x
Has-get [] i x is = let bad : None ≡ Some x = is in absurd cc
Has-get (y ∷ xs) zero x is = let e : Some y ≡ Some x = is in inl cc
Has-get (y ∷ xs) (suc i) x is = inr (Has-get xs i x is)

Has-map : {X Y : Type 0} (f : X → Y) (xs : List X) (x : X) → Has xs x → Has (map f xs) (f x)
Has-map f [] x h = absurd h
Has-map f (y ∷ xs) x (inl e) = inl (ap f e)
Has-map f (y ∷ xs) x (inr h) = inr (Has-map f xs x h)

Has-mapped : {X Y : Type 0} (f : X → Y) (xs : List X) (y : Y) → Has (map f xs) y → (x : X) × Has xs x × (f x ≡ y)
Has-mapped f [] y h = absurd h
Has-mapped f (z ∷ xs) y (inl e) = (z, inl refl, e)
Has-mapped f (z ∷ xs) y (inr h) = let m = Has-mapped f xs y h in (m.0, inr m.1, m.2)

-- Paths

-- of all paths of the recipe, whatever units may take its roles
abbrev OfPaths : (List Name → Type 0) → Master → Type 0
OfPaths P m = (bound : Binding) → IsServed m bound → Each (λ x. P x.node.asked) (procedure_parts (m.control bound))

-- a predicate on the paths of all nodes holds of the paths of all parts
all_paths : (c : equipment.Cell) (P : List Name → Type 0) (recipes : List document.Recipe) → Each (OfNodes c (λ n. P n.asked)) recipes → Each (OfPaths P) (map (master_of c) recipes)
all_paths c P [] h = tt
all_paths c P (r ∷ rs) h = (
  λ bound served. nodes-Each (λ n. P n.asked) (procedure_parts (recipe_of r bound))
      (subst (λ (ns : List Node). Each (λ n. P n.asked) ns) (sym (parts-nodes is_procedure (0 ∷ []) [] (bound_tree bound r.acts)))
      (h.0 bound (served_is_tried (setup_of c (r ∷ [])) (master_of c r) bound served))),
  all_paths c P rs h.1,
)

-- so it holds of a path along which a resource is asked for before another
on_path : (P : List Name → Type 0) (recipes : List Master) → Each (OfPaths P) recipes → (earlier later : Name) (a : IsAskedBefore recipes earlier later) → P a.part.node.asked
on_path P recipes all earlier later a =
    Each-Has (λ (x : Part). P x.node.asked) (procedure_parts (a.recipe.control a.bound)) a.part
    (Each-Has (OfPaths P) recipes a.recipe all a.listed a.bound a.served) a.within

known_paths : (c : equipment.Cell) (recipes : List document.Recipe) → NeedResources c recipes
    → Each (OfNodes c (λ n. Each (λ name. IsTrue (is_among (resources_of c) name)) n.asked)) recipes
known_paths c [] known = tt
known_paths c (r ∷ rs) known = (
  λ bound tried. known_path (λ name. IsTrue (is_among (resources_of c) name)) (0 ∷ []) [] (bound_tree bound r.acts) tt (known.0 bound tried),
  known_paths c rs known.1,
)

-- the earlier of an edge that stands is asked for before its later
asked_from_edge : (c : equipment.Cell) (recipes : List document.Recipe) (e : Edge) → Each HasCandidates (map (master_of c) recipes) → EdgeStands c recipes e
    → IsAskedBefore (map (master_of c) recipes) (resource_name_in c e.earlier) (resource_name_in c e.later)
asked_from_edge c recipes e candidates s =
    let node_of : Part → Node = λ x. x.node in
    let ps : List Part = procedure_parts (recipe_of s.recipe s.bound) in
    let among : Has (map node_of ps) s.node =
    subst (λ (ns : List Node). Has ns s.node) (sym (parts-nodes is_procedure (0 ∷ []) [] (bound_tree s.bound s.recipe.acts)))
    (Has-get (bound_nodes s.bound s.recipe.acts) e.node s.node s.numbered) in
    let part = Has-mapped node_of ps s.node among in
    let listed : Has (map (master_of c) recipes) (master_of c s.recipe) = Has-map (master_of c) recipes s.recipe (Has-get recipes e.recipe s.recipe s.found) in
    let earlier : slice_get s.node.asked s.asked.asked.before ≡ Some (resource_name_in c e.earlier) =
    s.asked.asked.earlier_is ∙ ap (λ (n : Name). Some n) (sym (name_in-found c e.earlier s.asked.earlier_name s.asked.earlier_named)) in
    let later : slice_get s.node.asked s.asked.asked.own ≡ Some (resource_name_in c e.later) =
    s.asked.asked.later_is ∙ ap (λ (n : Name). Some n) (sym (name_in-found c e.later s.asked.later_name s.asked.later_named)) in
    record {
      recipe = master_of c s.recipe;
      listed = listed;
      bound = s.bound;
      served = tried_serves (setup_of c (s.recipe ∷ [])) (master_of c s.recipe) (Each-Has HasCandidates (map (master_of c) recipes) (master_of c s.recipe) candidates listed) s.bound s.tried;
      part = part.0;
      within = part.1;
      before = s.asked.asked.before;
      place = s.asked.asked.own;
      ordered = s.asked.asked.ordered;
      earlier_is = subst (λ (n : Node). slice_get n.asked s.asked.asked.before ≡ Some (resource_name_in c e.earlier)) (sym part.2) earlier;
      later_is = subst (λ (n : Node). slice_get n.asked s.asked.asked.own ≡ Some (resource_name_in c e.later)) (sym part.2) later;
    }

-- Ranks

module _ (c : equipment.Cell) (recipes : List document.Recipe) (edges : List Edge) (ranks : List ℕ) (candidates : Each HasCandidates (map (master_of c) recipes))
    (known : NeedResources c recipes) (of_recipes : AreEdgesOf c recipes edges)
    (least : IsLeastRanking (length (resources_of c)) edges ranks)
    (name : Name) where
  abbrev rank : Ranking
  rank = rank_in c ranks

  abbrev IsBefore : Name → Type 0
  IsBefore other = IsAskedBefore (map (master_of c) recipes) other name

  lower : (other : Name) → IsBefore other → rank other < rank name
  lower other a =
      let rising = on_path (RiseStrictly rank) (map (master_of c) recipes)
      (all_paths c (RiseStrictly rank) recipes (recipes_rise c edges ranks least.ranking.rising recipes known of_recipes.covering)) other name a in
      rises_at rank a.part.node.asked a.before a.place other name rising a.ordered a.earlier_is a.later_is

  positive : (other : Name) → IsTrue (is_among (resources_of c) other) → 0 < rank other
  positive other among =
      let f = found c other among in
      omega (arith, rank_of_found c edges ranks least.ranking.rising other f, least.ranking.positive f.number f.below)

  positive_before : (other : Name) → IsBefore other → 0 < rank other
  positive_before other a =
      let K : Name → Type 0 = λ n. IsTrue (is_among (resources_of c) n) in
      positive other (Each-get K a.part.node.asked a.before other (on_path (Each K) (map (master_of c) recipes) (all_paths c (Each K) recipes (known_paths c recipes known)) other name a) a.earlier_is)

  pub least_rank_tight : IsTrue (is_among (resources_of c) name) → FollowsGreatest (map (master_of c) recipes) rank name ⊎ IsLowest (map (master_of c) recipes) rank name
  least_rank_tight among =
      let f = found c name among in
      let same : rank name ≡ get_or ranks f.number 0 = rank_of_found c edges ranks least.ranking.rising name f in
      elim (cases_lt 1 (get_or ranks f.number 0)) [
        | inl high ↦
            let under = least.tight f.number f.below high in
            let stands : EdgeStands c recipes under.edge = All-contains (EdgeStands c recipes) edges under.edge of_recipes.standing under.standing in
            let below : rank (resource_name_in c under.edge.earlier) ≡ get_or ranks under.edge.earlier 0 =
            rank_in-name c ranks under.edge.earlier (slice_get_within (resources_of c) under.edge.earlier stands.asked.earlier_name stands.asked.earlier_named) in
            inl (record {
              earlier = resource_name_in c under.edge.earlier;
              asked = subst (λ (n : Name). IsAskedBefore (map (master_of c) recipes) (resource_name_in c under.edge.earlier) n) (ap (resource_name_in c) under.into ∙ f.named) (asked_from_edge c recipes under.edge candidates stands);
              one_more = omega (arith, same, below, under.just_above);
              greatest = λ other a. omega (arith, same, below, under.just_above, lower other a);
            })
        | inr low ↦ inr (record {
          one = omega (arith, low, positive name among, same);
          first = λ other a. absurd (omega (arith, low, same, lower other a, positive_before other a));
        })
      ]

pub least_ranks_tight : (c : equipment.Cell) (recipes : List document.Recipe) (edges : List Edge) (ranks : List ℕ) → Each HasCandidates (map (master_of c) recipes) → NeedResources c recipes
    → AreEdgesOf c recipes edges → IsLeastRanking (length (resources_of c)) edges ranks → RanksTightly c recipes (rank_in c ranks)
least_ranks_tight c recipes edges ranks candidates known of_recipes least name among = least_rank_tight c recipes edges ranks candidates known of_recipes least name among
