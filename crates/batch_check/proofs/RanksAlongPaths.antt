-- Ranks that rise along paths, and along edges.
use Rattle.std.proofs.Common.{◌≡◌, ℕ, zero, suc, ◌<◌, ◌≤◌, List, [], ◌∷◌, IsTrue, true, ◌&&◌, nat_eq, map, length, position, get_or, slice_get, Option, Some, None, All, Contains, refl, sym, ap, ◌∙◌, subst, arith}
use Rattle.std.{specs.List.Any, proofs.lemmas.Bool.and_parts, proofs.lemmas.Bool.eqb-true, proofs.lemmas.List.Quantifiers.position-Some, proofs.lemmas.List.Folds.Any-from_list_any, proofs.lemmas.List.Elements.All-weaker, proofs.lemmas.List.Elements.All-contains}
use Rattle.batch_cell.specs.{LookUps.resources_of, declared.cell.Cell.Cell}
use Rattle.batch_recipe.specs.{Conditions.Name, Conditions.same_name, Nodes.Node, Expanding.Binding, Procedure.bound_nodes, Procedure.bound_tree, WellFormed.is_among, declared.recipe.Recipe.Recipe}
use Rattle.batch_model.{specs.Lists.Each, specs.Cleared.Ranking, specs.Cleared.RiseStrictly, specs.Cleared.IsClear, specs.Cleared.IsClearedRecipe, specs.Cleared.Part, specs.Cleared.is_procedure, specs.Cleared.procedure_parts, specs.Recipes.recipe_of, specs.Plant.Setup, specs.Setups.master_of, specs.Setups.setup_of, proofs.Members.Each-map, proofs.TreeParts.parts-nodes}
use Rattle.batch_check.{specs.declared.edge.Edge.Edge, specs.ByName.resource_name_in, specs.Edges.has_pair, specs.Edges.OfNodes, specs.Edges.EdgeStands, specs.Edges.Covers, specs.Edges.CoversRecipes, specs.Edges.AreEdgesOf, specs.Edges.numbers_of_resources, specs.Edges.number_of_resource, specs.Edges.Follows, specs.LeastRanking.IsLeastRanking, specs.Clearing.NeedResources, specs.Clearing.RiseAlongPaths, specs.Clearing.RiseLeast, specs.Clearing.StandsAsCircle, proofs.Names.name_in-found, proofs.Names.rank_in-name, proofs.ResourceNeeds.IsFound, proofs.ResourceNeeds.found, proofs.ResourceNeeds.name_among, proofs.ResourceNeeds.known_path, proofs.RaiseRounds.circle_rules_out}
use Rattle.batch_verify.{specs.Refusals.rank_in, proofs.ServedRoles.tried_serves}

pub Each-get : {X : Type 0} (P : X → Type 0) (xs : List X) (i : ℕ) (x : X) → Each P xs → slice_get xs i ≡ Some x → P x
Each-get P [] i x h is = let bad : None ≡ Some x = is in absurd cc
Each-get P (y ∷ xs) zero x h is = let same : y ≡ x = let e : Some y ≡ Some x = is in cc in subst P same h.0
Each-get P (y ∷ xs) (suc i) x h is = Each-get P xs i x h.1 is

module _ (rank : Ranking) where
  above_all : (x : Name) (asked : List Name) (j : ℕ) (b : Name) → RiseStrictly rank (x ∷ asked) → slice_get asked j ≡ Some b → rank x < rank b
  above_all x [] j b h is = let bad : None ≡ Some b = is in absurd cc
  above_all x (y ∷ ys) zero b h is = let same : y ≡ b = let e : Some y ≡ Some b = is in cc in subst (λ n. rank x < rank n) same h.0
  above_all x (y ∷ ys) (suc j) b h is = omega (arith, h.0, above_all y ys j b h.1 is)

  tail : (x : Name) (asked : List Name) → RiseStrictly rank (x ∷ asked) → RiseStrictly rank asked
  tail x [] h = tt
  tail x (y ∷ ys) h = h.1

  -- a path that rises from one need to the next rises from each to each later one
  pub rises_at : (asked : List Name) (i j : ℕ) (a b : Name) → RiseStrictly rank asked → i < j → slice_get asked i ≡ Some a → slice_get asked j ≡ Some b → rank a < rank b
  rises_at [] i j a b h ij at_i at_j = let bad : None ≡ Some a = at_i in absurd cc
  rises_at (x ∷ xs) zero (suc j) a b h ij at_i at_j = let same : x ≡ a = let e : Some x ≡ Some a = at_i in cc in subst (λ n. rank n < rank b) same (above_all x xs j b h at_j)
  rises_at (x ∷ xs) (suc i) (suc j) a b h ij at_i at_j = rises_at xs i j a b (tail x xs h) (omega arith) at_i at_j
  rises_at asked i j a b h ij at_i at_j = grind arith

  -- ranks that rise along all paths rise along each edge that stands
  pub standing_rises : (c : Cell) (recipes : List Recipe) → RiseAlongPaths c rank recipes → (e : Edge) → EdgeStands c recipes e → rank (resource_name_in c e.earlier) < rank (resource_name_in c e.later)
  standing_rises c recipes rising e s =
      let nodes = Each-get (OfNodes c (λ (n : Node). RiseStrictly rank n.asked)) recipes e.recipe s.recipe rising s.found s.bound s.tried in
      let here = Each-get (λ (n : Node). RiseStrictly rank n.asked) (bound_nodes s.bound s.recipe.acts) e.node s.node nodes s.numbered in
      let up = rises_at s.node.asked s.asked.asked.before s.asked.asked.own s.asked.earlier_name s.asked.later_name here s.asked.asked.ordered s.asked.asked.earlier_is s.asked.asked.later_is in
      rw (name_in-found c e.earlier s.asked.earlier_name s.asked.earlier_named, name_in-found c e.later s.asked.later_name s.asked.later_named) up

  pub circle_leaves_none : (c : Cell) (recipes : List Recipe) (circle : List Edge) → StandsAsCircle c recipes circle → RiseAlongPaths c rank recipes → ⊥
  circle_leaves_none c recipes circle h rising =
      circle_rules_out 0 circle circle (λ k. rank (resource_name_in c k)) h.circle
      (record {
        positive = λ r in'. absurd (omega arith);
        rising = All-weaker (EdgeStands c recipes) (λ (e : Edge). rank (resource_name_in c e.earlier) < rank (resource_name_in c e.later)) (standing_rises c recipes rising) circle h.standing;
      })

-- Paths from edges

pub record HasEdge (edges : List Edge) (i j : ℕ) : Type 0 where
  pub edge : Edge
  pub stands : Contains edges edge
  pub from : edge.earlier ≡ i
  pub into : edge.later ≡ j

pub edge_of : (edges : List Edge) (i j : ℕ) → IsTrue (has_pair edges i j) → HasEdge edges i j
edge_of edges i j h =
    let any : Any (λ (e : Edge). (nat_eq e.earlier i && nat_eq e.later j) ≡ true) edges = Any-from_list_any (λ (e : Edge). nat_eq e.earlier i && nat_eq e.later j) edges h in
    let both = and_parts (nat_eq any.1.earlier i) (nat_eq any.1.later j) any.4 in
    record { edge = any.1; stands = (any.0, any.2, any.3); from = eqb-true any.1.earlier i both.0; into = eqb-true any.1.later j both.1 }

module _ (c : Cell) (edges : List Edge) (ranks : List ℕ) (rising : All (λ e. get_or ranks e.earlier 0 < get_or ranks e.later 0) edges) where
  abbrev K : Name → Type 0
  K name = IsTrue (is_among (resources_of c) name)

  pair_rises : (i j : ℕ) → IsTrue (has_pair edges i j) → get_or ranks i 0 < get_or ranks j 0
  pair_rises i j h =
      let e = edge_of edges i j h in
      let up : get_or ranks e.edge.earlier 0 < get_or ranks e.edge.later 0 = All-contains (λ (f : Edge). get_or ranks f.earlier 0 < get_or ranks f.later 0) edges e.edge rising e.stands in
      subst (λ n. get_or ranks i 0 < get_or ranks n 0) e.into (subst (λ n. get_or ranks n 0 < get_or ranks e.edge.later 0) e.from up)

  pub rank_of_found : (name : Name) (f : IsFound c name) → rank_in c ranks name ≡ get_or ranks f.number 0
  rank_of_found name f = ap (rank_in c ranks) (sym f.named) ∙ rank_in-name c ranks f.number f.below

  rise_after : (x : Name) (asked : List Name) → K x → Each K asked → Follows edges (number_of_resource c x) (numbers_of_resources c asked) → RiseStrictly (rank_in c ranks) (x ∷ asked)
  rise_after x [] k ks h = tt
  rise_after x (y ∷ ys) k ks h =
      let f = found c x k in
      let g = found c y ks.0 in
      let joined = subst (λ o. Follows edges o (numbers_of_resources c (y ∷ ys))) f.numbered h in
      let pair : IsTrue (has_pair edges f.number g.number) = (subst (λ o. Follows edges (Some f.number) (o ∷ numbers_of_resources c ys)) g.numbered joined).0 in
      (rw (rank_of_found x f, rank_of_found y g) (pair_rises f.number g.number pair), rise_after y ys ks.0 ks.1 h.1)

  pub covered_rises : (asked : List Name) → Each K asked → Follows edges None (numbers_of_resources c asked) → RiseStrictly (rank_in c ranks) asked
  covered_rises [] ks h = tt
  covered_rises (x ∷ xs) ks h = rise_after x xs ks.0 ks.1 h.1

  pub nodes_rise : (ns : List Node) → Each (λ n. Each K n.asked) ns → Each (Covers c edges) ns → Each (λ n. RiseStrictly (rank_in c ranks) n.asked) ns
  nodes_rise [] k h = tt
  nodes_rise (n ∷ ns) k h = (covered_rises n.asked k.0 h.0, nodes_rise ns k.1 h.1)

  pub recipes_rise : (recipes : List Recipe) → NeedResources c recipes → CoversRecipes c recipes edges → RiseAlongPaths c (rank_in c ranks) recipes
  recipes_rise [] k h = tt
  recipes_rise (r ∷ rs) k h = (
    λ bound tried. nodes_rise (bound_nodes bound r.acts) (known_path K (0 ∷ []) [] (bound_tree bound r.acts) tt (k.0 bound tried)) (h.0 bound tried),
    recipes_rise rs k.1 h.1,
  )

-- no name has a rank above that of each resource
rank_bounded : (c : Cell) (ranks : List ℕ) (most : ℕ) → ((k : ℕ) → k < length (resources_of c) → get_or ranks k 0 ≤ most) → (name : Name) (o : Option ℕ)
    → position (same_name name) (resources_of c) ≡ o → rank_in c ranks name ≤ most
rank_bounded c ranks most h name o e = grind (arith, position-Some)

pub least_ranks_rise : (c : Cell) (recipes : List Recipe) (edges : List Edge) (ranks : List ℕ) → NeedResources c recipes → AreEdgesOf c recipes edges
    → IsLeastRanking (length (resources_of c)) edges ranks → RiseLeast c recipes (rank_in c ranks)
least_ranks_rise c recipes edges ranks known of_recipes least = record {
  rising = recipes_rise c edges ranks least.ranking.rising recipes known of_recipes.covering;
  positive = λ name among.
      let f = found c name among in
      let same = rank_of_found c edges ranks least.ranking.rising name f in
      omega (arith, same, least.ranking.positive f.number f.below);
  bounded = λ name. rank_bounded c ranks (length (resources_of c)) (λ k in'. least.bounded k in') name (position (same_name name) (resources_of c)) refl;
  least = λ other positive rising name among.
      let f = found c name among in
      let below : get_or ranks f.number 0 ≤ other (resource_name_in c f.number) =
      least.least (λ k. other (resource_name_in c k))
      (record {
        positive = λ k in'. positive (resource_name_in c k) (name_among c k in');
        rising = All-weaker (EdgeStands c recipes) (λ (e : Edge). other (resource_name_in c e.earlier) < other (resource_name_in c e.later)) (standing_rises other c recipes rising) edges of_recipes.standing;
      }) f.number f.below in
      omega (arith, below, rank_of_found c edges ranks least.ranking.rising name f, ap other f.named);
}

-- Clearance

Each-nodes : (P : Node → Type 0) (xs : List Part) → Each (λ x. P x.node) xs → Each P (map (λ x. x.node) xs)
Each-nodes P [] h = tt
Each-nodes P (x ∷ xs) h = (h.0, Each-nodes P xs h.1)

pub nodes-Each : (P : Node → Type 0) (xs : List Part) → Each P (map (λ x. x.node) xs) → Each (λ x. P x.node) xs
nodes-Each P [] h = tt
nodes-Each P (x ∷ xs) h = (h.0, nodes-Each P xs h.1)

-- a predicate on the nodes of all parts holds of all nodes
pub parts_hold : (P : Node → Type 0) (r : Recipe) (bound : Binding) → Each (λ x. P x.node) (procedure_parts (recipe_of r bound)) → Each P (bound_nodes bound r.acts)
parts_hold P r bound h =
    subst (λ (ns : List Node). Each P ns) (parts-nodes is_procedure (0 ∷ []) [] (bound_tree bound r.acts)) (Each-nodes P (procedure_parts (recipe_of r bound)) h)

pub cleared_rises : (c : Cell) (d : Setup) (rank : Ranking) (recipes : List Recipe) → Each (IsClearedRecipe d rank) (map (master_of c) recipes) → RiseAlongPaths c rank recipes
cleared_rises c d rank [] h = tt
cleared_rises c d rank (r ∷ rs) h = (
  λ bound tried.
      parts_hold (λ n. RiseStrictly rank n.asked) r bound
      (Each-map (IsClear d rank) (λ x. RiseStrictly rank x.node.asked) (λ x clear. clear.rising) (procedure_parts (recipe_of r bound))
      (h.0.1 bound (tried_serves (setup_of c (r ∷ [])) (master_of c r) h.0.0 bound tried)).clear),
  cleared_rises c d rank rs h.1,
)
