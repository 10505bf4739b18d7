-- The edges of recipes, one recipe after another.
use Rattle.std.proofs.Common.{◌≡◌, ℕ, zero, suc, ◌+◌, ◌-◌, ◌<◌, ◌≤◌, ◌⊎◌, ◌&&◌, inl, inr, refl, List, [], ◌∷◌, ◌++◌, get_or, take, length, slice_get, ltb, nat_eq, IsTrue, Vec, Option, Some, None, option_map, All, sym, ap, ◌∙◌, subst, arith, lt-ltb}
use Rattle.std.{specs.Global.Global, specs.List.Contains, proofs.lemmas.Bool.and_from, proofs.lemmas.Bool.and_parts, proofs.lemmas.Bool.cases_lt, proofs.lemmas.Bool.eq-eqb, proofs.lemmas.Bool.ltb-true, proofs.lemmas.Bool.not-false, proofs.lemmas.Bool.or_left, proofs.lemmas.Bool.or_right, proofs.lemmas.Bool.true≢false, proofs.lemmas.List.get_or_past, proofs.lemmas.List.take_more, proofs.lemmas.List.Elements.All-weaker, proofs.lemmas.List.Elements.All-contains, proofs.lemmas.List.Elements.Contains-get_or, proofs.lemmas.Option.none-some, proofs.lemmas.Option.same_Some, proofs.lemmas.Option.slice_get_within, proofs.lemmas.Option.slice_get-get_or, proofs.lemmas.Option.slice_get-map}
use Rattle.batch_cell.specs.{LookUps.resources_of, declared.cell.Cell.Cell}
use Rattle.batch_recipe.specs.{Conditions.Name, Conditions.same_name, Procedure.bound_nodes, declared.recipe.Recipe.Recipe, declared.role.Role.Role}
use Rattle.batch_model.{specs.Lists.Each, proofs.Members.Each-append, proofs.Members.Each-map}
use Rattle.batch_check.{specs.declared.edge.Edge.Edge, specs.declared.edge_set.EdgeSet.EdgeSet, specs.Takings.AreUnitsOf, specs.Takings.Taking, specs.Takings.alike, specs.Takings.apart, specs.Takings.units_by, specs.declared.site.Site.Site, specs.Edges.OfNodes, specs.Edges.EdgeStands, specs.Edges.Covers, specs.Edges.CoversRecipes, specs.Edges.AreEdgesOf, specs.Edges.AsksNext, specs.Edges.IsOfFirst, specs.Edges.has_pair, specs.Edges.number_of_resource, specs.Edges.numbers_of_resources, specs.LeastRanking.HasEndsBelow, specs.Pairs.Keeps, specs.Joining.Grows, specs.Joining.HasTaken, specs.Collecting.AreAdded, specs.Collecting.AreTakenIn, specs.Collecting.AreTakenOn, specs.Collecting.AreThose, specs.Collecting.HasAllPairs, specs.Collecting.HasRaised, specs.Collecting.HasTakenBy, specs.Collecting.IsAdded, specs.Collecting.IsCollected, specs.Collecting.IsRaised, specs.Collecting.IsTakenAs, specs.Collecting.PairsAll, specs.Collecting.PairsRecipe, specs.Collecting.StandsIn, specs.Collecting.is_behind, specs.Collecting.is_of_role, specs.Collecting.raised, specs.Sites.bound_on, specs.Sites.count_with_roles, specs.Sites.nodes_on, specs.Sites.resource_count, specs.Sites.resource_on, specs.Sites.units_on, proofs.EdgesOfAct.Follows-keeps, proofs.PairsInBindings.follows_at, proofs.PairsInBindings.follows_shown, proofs.PairsInBindings.paired_shown, proofs.EdgesFromNeeds.Contains-at, proofs.EdgesFromNeeds.Contains-none, proofs.EdgesFromNeeds.Grows-twice, proofs.EdgesFromNeeds.at-Contains, proofs.RanksAlongPaths.Each-get, proofs.Roles.resource_for-below, proofs.Roles.resource_for-past, proofs.RoleUnits.apart_other, proofs.RoleUnits.apart_own, proofs.RoleUnits.as_many_units, proofs.RoleUnits.item_at, proofs.RoleUnits.itself, proofs.RoleUnits.last_or_before, proofs.RoleUnits.raised_is, proofs.RoleUnits.roles_apart, proofs.RoleUnits.same_unit}
use Rattle.batch_verify.{specs.Bindings.binding_count, proofs.NumberedBindings.differ, proofs.NumberedBindings.some-binding, proofs.NumberedBindings.taken-tried}
use Rattle.batch_set.proofs.ResourceNumbers.{number-at}

covers_more : (cell : Cell) (old new : List Edge) → Keeps old new → (recipes : List Recipe) → CoversRecipes cell recipes old → CoversRecipes cell recipes new
covers_more cell old new keeps [] h = tt
covers_more cell old new keeps (r ∷ rs) h = (
  λ bound tried. Each-map (Covers cell old) (Covers cell new) (λ node covered. Follows-keeps old new keeps None (numbers_of_resources cell node.asked) covered) (bound_nodes bound r.acts) (h.0 bound tried),
  covers_more cell old new keeps rs h.1,
)

-- no path of the recipe asks for the edge's resources one right after the other
abbrev IsUnasked : Cell → Edge → Recipe → Type 0
IsUnasked cell e = OfNodes cell (λ node. ¬ (AsksNext cell node e.earlier e.later))

-- so it is where edges cover the paths, and none of them joins the two
unasked : (cell : Cell) (edges : List Edge) (e : Edge) → ¬ (IsTrue (has_pair edges e.earlier e.later)) → (recipes : List Recipe) → CoversRecipes cell recipes edges → Each (IsUnasked cell e) recipes
unasked cell edges e apart = Each-map (OfNodes cell (Covers cell edges)) (IsUnasked cell e) (λ r covered bound tried.
    Each-map (Covers cell edges) (λ node. ¬ (AsksNext cell node e.earlier e.later)) (λ node here asks.
    apart (follows_at edges None (numbers_of_resources cell node.asked) asks.place (Some e.earlier) (Some e.later) here asks.earlier_is
    (subst (λ k. slice_get (numbers_of_resources cell node.asked) k ≡ Some (Some e.later)) (omega arith) asks.later_is)))
    (bound_nodes bound r.acts) (covered bound tried))

Each-take : {X : Type 0} (P : X → Type 0) (n : ℕ) (xs : List X) → Each P xs → Each P (take n xs)
Each-take P zero xs h = tt
Each-take P (suc n) [] h = tt
Each-take P (suc n) (x ∷ xs) h = (h.0, Each-take P n xs h.1)

-- where the needs of all paths are paired, there is an edge wherever one stands
pair_stands : (cell : Cell) (recipes : List Recipe) (edges : List Edge) → Each (PairsRecipe cell edges) recipes → (e : Edge) → EdgeStands cell recipes e → IsTrue (has_pair edges e.earlier e.later)
pair_stands cell recipes edges paired e s =
    let here = Each-get (PairsAll cell edges) (bound_nodes s.bound s.recipe.acts) e.node s.node
    (Each-get (PairsRecipe cell edges) recipes e.recipe s.recipe paired s.found s.bound s.tried) s.numbered in
    let number : (name : Name) (k place : ℕ) → slice_get (resources_of cell) k ≡ Some name → slice_get s.node.asked place ≡ Some name
    → slice_get (numbers_of_resources cell s.node.asked) place ≡ Some (Some k) =
    λ name k place named at. slice_get-map (number_of_resource cell) s.node.asked place
    ∙ (ap (option_map (number_of_resource cell)) at ∙ ap (λ (o : Option ℕ). Some o) (number-at cell k name named)) in
    here s.asked.asked.before s.asked.asked.own e.earlier e.later s.asked.asked.ordered
    (number s.asked.earlier_name e.earlier s.asked.asked.before s.asked.earlier_named s.asked.asked.earlier_is)
    (number s.asked.later_name e.later s.asked.asked.own s.asked.later_named s.asked.asked.later_is)

module _ (cell : Cell) (recipes : List Recipe) where
  pub standing_within : (edges : List Edge) → All (EdgeStands cell recipes) edges → HasEndsBelow (length (resources_of cell)) edges
  standing_within edges standing =
      All-weaker (EdgeStands cell recipes) (λ (e : Edge). (e.earlier < length (resources_of cell)) × (e.later < length (resources_of cell)))
      (λ e s. (
        slice_get_within (resources_of cell) e.earlier s.asked.earlier_name s.asked.earlier_named,
        slice_get_within (resources_of cell) e.later s.asked.later_name s.asked.later_named,
      )) edges standing

  module _ (kept : Option (List (Option ℕ))) (old : EdgeSet) where
    pub AreAdded-more : (set new : EdgeSet) (index : ℕ) (recipe : Recipe) → AreAdded cell kept recipes (take index recipes) old set → index < length recipes
        → recipe ≡ get_or recipes index recipe → ((all : List Recipe) → slice_get all index ≡ Some recipe → IsAdded cell kept all index recipe set new)
        → AreAdded cell kept recipes (take (index + 1) recipes) old new
    AreAdded-more set new index recipe h in' is adds =
        let added = adds recipes (slice_get-get_or recipes index recipe in' ∙ ap (λ (r : Recipe). Some r) (sym is)) in
        let more : take (index + 1) recipes ≡ take index recipes ++ recipe ∷ [] =
        take_more recipes index recipe in' ∙ ap (λ (r : Recipe). take index recipes ++ r ∷ []) (sym is) in
        record {
          grown = Grows-twice old set new h.grown added.grown;
          standing = λ edge stands. elim (added.grown.fresh edge stands) [
            | inl known ↦ h.standing edge known
            | inr apart ↦ elim (added.standing edge stands) [
              | inl known ↦ h.standing edge known
              | inr here ↦ inr (
                here.1,
                subst (λ k. Each (IsUnasked cell edge) (take k recipes)) (sym here.0)
                    (unasked cell set.edges.items edge apart (take index recipes) (h.covering set.edges.items (λ i j known. known))),
              )
            ]
          ];
          covering = λ final later.
              subst (λ (rs : List Recipe). CoversRecipes cell rs final) (sym more)
              (Each-append (OfNodes cell (Covers cell final)) (take index recipes) (recipe ∷ [])
              (h.covering final (λ i j known. later i j (added.grown.kept i j known)))
              (added.covering final later, tt));
          pairing = λ whole final later.
              subst (λ (rs : List Recipe). Each (PairsRecipe cell final) rs) (sym more)
              (Each-append (PairsRecipe cell final) (take index recipes) (recipe ∷ [])
              (h.pairing whole final (λ i j known. later i j (added.grown.kept i j known)))
              (added.pairing whole final later, tt));
        }

  -- the edges of all recipes, where there were none before
  pub edges_of_all : (kept : Option (List (Option ℕ))) (old set : EdgeSet) → old.edges.items ≡ [] → AreAdded cell kept recipes recipes old set → AreEdgesOf cell recipes set.edges.items
  edges_of_all kept old set empty h = record {
    standing = λ k e in'. (both k e in').0;
    first = λ k e in'. (both k e in').1;
    covering = h.covering set.edges.items (λ i j known. known);
  }
    where
      both : All (λ edge. EdgeStands cell recipes edge × IsOfFirst cell recipes edge) set.edges.items
      both k e in' = elim (h.standing (get_or set.edges.items k e) (Contains-get_or set.edges.items k e in')) [
        | inl known ↦ absurd (Contains-none (get_or set.edges.items k e) (subst (λ (es : List Edge). Contains es (get_or set.edges.items k e)) empty known))
        | inr here ↦ here
      ]

  -- edges that stand may be added
  pub edges_with : (old new : EdgeSet) (circle : List Edge) → AreEdgesOf cell recipes old.edges.items → All (EdgeStands cell recipes) circle → HasTaken circle old new
      → AreEdgesOf cell recipes new.edges.items
  edges_with old new circle h standing taken = record {
    standing = λ k e in'. elim (taken.only (get_or new.edges.items k e) (Contains-get_or new.edges.items k e in')) [
      | inl known ↦ All-contains (EdgeStands cell recipes) old.edges.items (get_or new.edges.items k e) h.standing known
      | inr added ↦ All-contains (EdgeStands cell recipes) circle (get_or new.edges.items k e) standing added
    ];
    first = λ k e in'.
        let edge = get_or new.edges.items k e in
        elim (taken.grown.fresh edge (Contains-get_or new.edges.items k e in')) [
          | inl known ↦ All-contains (IsOfFirst cell recipes) old.edges.items edge h.first known
          | inr apart ↦ Each-take (IsUnasked cell edge) edge.recipe recipes (unasked cell old.edges.items edge apart recipes h.covering)
        ];
    covering = covers_more cell old.edges.items new.edges.items taken.grown.kept recipes h.covering;
  }

  -- the edges of each two needs, where all edges stood before
  pub pairs_of_all : (old set : EdgeSet) → AreEdgesOf cell recipes old.edges.items → AreAdded cell (Some []) recipes recipes old set → HasAllPairs cell recipes old set
  pairs_of_all old set edges h = record {
    grown = h.grown;
    standing = λ edge stands. elim (h.standing edge stands) [
      | inl known ↦ All-contains (EdgeStands cell recipes) old.edges.items edge edges.standing known
      | inr here ↦ here.0
    ];
    whole = λ edge stands. pair_stands cell recipes set.edges.items (h.pairing refl set.edges.items (λ i j known. known)) edge stands;
  }

  pub pairs_within : (old set : EdgeSet) → HasAllPairs cell recipes old set → HasEndsBelow (length (resources_of cell)) set.edges.items
  pairs_within old set h = standing_within set.edges.items (λ k e in'. h.standing (get_or set.edges.items k e) (Contains-get_or set.edges.items k e in'))

-- One recipe, whatever candidates take its roles

-- the edge is among the others as it is where these candidates take the roles
abbrev IsTakenAt : Site → Taking → Edge → List Edge → Type 0
IsTakenAt site t edge others = (i j : ℕ) → resource_on site t edge.earlier ≡ Some i → resource_on site t edge.later ≡ Some j → IsTrue (has_pair others i j)

-- so far: the edges are there as they are for the first candidates; those of roles for each candidate below `alikes`; and, of each role
-- below `done`, those that join it and one behind it, for each two candidates
pub record KeepsBindings (site : Site) (number : ℕ) (collected of_roles : List Edge) (alikes done : ℕ) (old set : EdgeSet) : Type 0 where
  pub grown : Grows old set
  pub standing : (all : List Recipe) → slice_get all number ≡ Some site.recipe.now → (edge : Edge) → Contains set.edges.items edge → Contains old.edges.items edge ⊎ StandsIn site.cell.now all number edge
  pub first : (edge : Edge) → Contains collected edge → IsTakenAt site (alike 0) edge set.edges.items
  pub taken_alike : (k : ℕ) → k < alikes → (edge : Edge) → Contains of_roles edge → IsTakenAt site (alike k) edge set.edges.items
  pub taken_apart : (k : ℕ) → resource_count site ≤ k → k < done → (role : Role) → slice_get site.recipe.now.roles.items (k - resource_count site) ≡ Some role
      → (own other : ℕ) → own < binding_count site.cell.now site.recipe.now.roles.items → other < binding_count site.cell.now site.recipe.now.roles.items
      → (edge : Edge) → Contains of_roles edge → IsTrue (is_behind k edge) → IsTakenAt site (apart role.name own other) edge set.edges.items

module _ (site : Site) (kept : Option (List (Option ℕ))) (number : ℕ) (collected of_roles : List Edge) (old : EdgeSet)
    (sized : old.count ≡ resource_count site) (is_collected : IsCollected site kept number collected) (are_of_roles : AreThose (is_of_role (resource_count site)) collected of_roles) where
  abbrev cell : Cell
  cell = site.cell.now

  abbrev recipe : Recipe
  recipe = site.recipe.now

  abbrev roles : List Role
  roles = recipe.roles.items

  abbrev resources : ℕ
  resources = resource_count site

  -- an edge that was added as it is stands
  stands_then : (t : Taking) (from : Edge) → Contains collected from → (edge : Edge) → IsTakenAs resources (units_on site t) from edge → (all : List Recipe) → slice_get all number ≡ Some recipe
      → StandsIn cell all number edge
  stands_then t from among edge is all found =
      let on = is_collected.standing from among in
      let here = on.asked t edge.earlier edge.later is.earlier_is is.later_is in (
        is.recipe_is ∙ on.recipe_is,
        record {
          recipe = recipe;
          found = ap (slice_get all) (is.recipe_is ∙ on.recipe_is) ∙ found;
          bound = bound_on site t;
          tried = taken-tried cell (recipe ∷ []) recipe recipe.own_roles t;
          node = here.node;
          numbered = ap (slice_get (nodes_on site t)) is.node_is ∙ here.numbered;
          asked = here.asked;
        },
      )

  -- the same of some that were added
  all_stand : (t : Taking) (some : List Edge) → ((edge : Edge) → Contains some edge → Contains collected edge) → (set new : EdgeSet) → set.count ≡ resources → HasTakenBy (units_on site t) some set new
      → (all : List Recipe) → slice_get all number ≡ Some recipe → (edge : Edge) → Contains new.edges.items edge → Contains set.edges.items edge ⊎ StandsIn cell all number edge
  all_stand t some among set new count_is has all found edge stands = elim (has.only edge stands) [
    | inl known ↦ inl known
    | inr taken ↦ inr (stands_then t taken.0 (among taken.0 taken.1) edge (subst (λ count. IsTakenAs count (units_on site t) taken.0 edge) count_is taken.2) all found)
  ]

  -- and they are there
  all_taken : (t : Taking) (some : List Edge) (set new : EdgeSet) → set.count ≡ resources → HasTakenBy (units_on site t) some set new → (edge : Edge) → Contains some edge → IsTakenAt site t edge new.edges.items
  all_taken t some set new count_is has edge stands i j earlier_is later_is =
      let all : AreTakenIn resources (units_on site t) some new.edges.items = subst (λ count. AreTakenIn count (units_on site t) some new.edges.items) count_is has.taken in
      all edge i j stands earlier_is later_is

  pub KeepsBindings-first : (set : EdgeSet) → HasTakenBy (units_on site (alike 0)) collected old set → KeepsBindings site number collected of_roles 0 resources old set
  KeepsBindings-first set has = record {
    grown = has.grown;
    standing = all_stand (alike 0) collected (λ edge in'. in') old set sized has;
    first = all_taken (alike 0) collected old set sized has;
    taken_alike = λ k lt. absurd (omega (arith, lt));
    taken_apart = λ k past lt. absurd (omega (arith, past, lt));
  }

  module _ (alikes done : ℕ) (set new : EdgeSet) (h : KeepsBindings site number collected of_roles alikes done old set) where
    count_is : set.count ≡ resources
    count_is = h.grown.same_count ∙ sized

    pub KeepsBindings-alike : HasTakenBy (units_on site (alike alikes)) of_roles set new → KeepsBindings site number collected of_roles (alikes + 1) done old new
    KeepsBindings-alike has = record {
      grown = Grows-twice old set new h.grown has.grown;
      standing = λ all found edge stands. elim (all_stand (alike alikes) of_roles are_of_roles.among set new count_is has all found edge stands) [
        | inl known ↦ h.standing all found edge known
        | inr here ↦ inr here
      ];
      first = λ edge stands i j e l. has.grown.kept i j (h.first edge stands i j e l);
      taken_alike = λ k lt edge stands i j e l. elim (last_or_before k alikes lt) [
        | inl less ↦ has.grown.kept i j (h.taken_alike k less edge stands i j e l)
        | inr same ↦
            all_taken (alike alikes) of_roles set new count_is has edge stands i j
            (ap (λ n. resource_on site (alike n) edge.earlier) (sym same) ∙ e) (ap (λ n. resource_on site (alike n) edge.later) (sym same) ∙ l)
      ];
      taken_apart = λ k past lt role at own other own_lt other_lt edge stands behind i j e l. has.grown.kept i j (h.taken_apart k past lt role at own other own_lt other_lt edge stands behind i j e l);
    }

    pub KeepsBindings-fewer : (fewer : ℕ) → fewer ≤ alikes → KeepsBindings site number collected of_roles fewer done old set
    KeepsBindings-fewer fewer le = record {
      grown = h.grown;
      standing = h.standing;
      first = h.first;
      taken_alike = λ k lt. h.taken_alike k (omega (arith, lt, le));
      taken_apart = h.taken_apart;
    }

    module _ (units : List (Vec (Option ℕ) Global)) (are_units : AreUnitsOf cell roles (binding_count cell roles) units) (place : ℕ) (place_is : done ≡ resources + place) (role : Role)
        (at : slice_get roles place ≡ Some role) (behind : List Edge) (are_behind : AreThose (is_behind done) of_roles behind) (has : HasRaised place units units behind set new) where
      -- the units of two lists are those of two candidates
      units_are : (own other : ℕ) (o p : Vec (Option ℕ) Global) → slice_get units own ≡ Some o → slice_get units other ≡ Some p → raised place o.items p.items ≡ units_on site (apart role.name own other)
      units_are own other o p own_at other_at =
          ap (λ (xs : List (Option ℕ)). raised place xs p.items) (are_units.each own o own_at)
          ∙ (ap (λ (xs : List (Option ℕ)). raised place (units_by cell roles (alike own)) xs) (are_units.each other p other_at)
          ∙ raised_is cell roles (differ cell (recipe ∷ []) recipe recipe.own_roles) place role at own other)

      stands_raised : (all : List Recipe) → slice_get all number ≡ Some recipe → (edge : Edge) → IsRaised place set.count units units behind edge → StandsIn cell all number edge
      stands_raised all found edge r =
          let o = at-Contains units r.own r.among_owns in
          let p = at-Contains units r.other r.among_others in
          let is : IsTakenAs resources (raised place r.own.items r.other.items) r.from edge = subst (λ count. IsTakenAs count (raised place r.own.items r.other.items) r.from edge) count_is r.is in
          stands_then (apart role.name o.0 p.0) r.from (are_of_roles.among r.from (are_behind.among r.from r.stands)) edge
          (subst (λ (units : List (Option ℕ)). IsTakenAs resources units r.from edge) (units_are o.0 p.0 r.own r.other o.1 p.1) is) all found

      taken_now : (own other : ℕ) → own < binding_count cell roles → other < binding_count cell roles → (edge : Edge) → Contains of_roles edge → IsTrue (is_behind done edge)
          → IsTakenAt site (apart role.name own other) edge new.edges.items
      taken_now own other own_lt other_lt edge stands passes i j e l =
          let o = item_at units own (omega (arith, own_lt, are_units.as_many)) in
          let p = item_at units other (omega (arith, other_lt, are_units.as_many)) in
          let all : AreTakenIn set.count (raised place o.0.items p.0.items) behind new.edges.items = has.taken o.0 p.0 (Contains-at units own o.0 o.1) (Contains-at units other p.0 p.1) in
          let same : AreTakenIn resources (units_on site (apart role.name own other)) behind new.edges.items =
          subst (λ (units : List (Option ℕ)). AreTakenIn resources units behind new.edges.items) (units_are own other o.0 p.0 o.1 p.1)
          (subst (λ count. AreTakenIn count (raised place o.0.items p.0.items) behind new.edges.items) count_is all) in
          elim (are_behind.rest edge stands) [
            | inl here ↦ same edge i j here e l
            | inr fails ↦ absurd (true≢false (sym passes ∙ fails))
          ]

      pub KeepsBindings-apart : KeepsBindings site number collected of_roles alikes (done + 1) old new
      KeepsBindings-apart = record {
        grown = Grows-twice old set new h.grown has.grown;
        standing = λ all found edge stands. elim (has.only edge stands) [
          | inl known ↦ h.standing all found edge known
          | inr r ↦ inr (stands_raised all found edge r)
        ];
        first = λ edge stands i j e l. has.grown.kept i j (h.first edge stands i j e l);
        taken_alike = λ k lt edge stands i j e l. has.grown.kept i j (h.taken_alike k lt edge stands i j e l);
        taken_apart = λ k past lt other_role there own other own_lt other_lt edge stands passes i j e l. elim (last_or_before k done lt) [
          | inl less ↦ has.grown.kept i j (h.taken_apart k past less other_role there own other own_lt other_lt edge stands passes i j e l)
          | inr same ↦
              let placed : k - resources ≡ place = omega (arith, same, place_is) in
              let is : role ≡ other_role = same_Some role other_role (sym at ∙ (ap (slice_get roles) (sym placed) ∙ there)) in
              taken_now own other own_lt other_lt edge stands (subst (λ n. IsTrue (is_behind n edge)) same passes) i j
              (ap (λ (r : Role). resource_on site (apart r.name own other) edge.earlier) is ∙ e) (ap (λ (r : Role). resource_on site (apart r.name own other) edge.later) is ∙ l)
        ];
      }

  -- the resource for which a number stands, by the number of the candidate alone that takes its role
  record IsAlikeAt (t : Taking) (k : ℕ) : Type 0 where
    candidate : ℕ
    below : candidate < binding_count cell roles
    named : (role : Role) → slice_get roles (k - resources) ≡ Some role → candidate ≡ t role.name

  alike_at : (t : Taking) → ((name : Name) → t name < binding_count cell roles) → (k : ℕ) → IsAlikeAt t k
  alike_at t bounded k = go (slice_get roles (k - resources)) refl
    where
      go : (o : Option Role) → slice_get roles (k - resources) ≡ o → IsAlikeAt t k
      go None at = record { candidate = 0; below = some-binding cell roles; named = λ role is. let bad : None ≡ Some role = sym at ∙ is in absurd cc }
      go (Some r) at = record { candidate = t r.name; below = bounded r.name; named = λ role is. ap (λ (x : Role). t x.name) (same_Some r role (sym at ∙ is)) }

  same_low : (t u : Taking) (k : ℕ) → k < resources → resource_on site t k ≡ resource_on site u k
  same_low t u k low = resource_for-below resources (units_on site t) k low ∙ sym (resource_for-below resources (units_on site u) k low)

  same_resource : (t u : Taking) (k : ℕ) → ((role : Role) → slice_get roles (k - resources) ≡ Some role → t role.name ≡ u role.name) → resource_on site t k ≡ resource_on site u k
  same_resource t u k same = elim (cases_lt k resources) [
    | inl low ↦ same_low t u k low
    | inr past ↦
        resource_for-past resources (units_on site t) k past
        ∙ (same_unit cell roles t u (k - resources) same ∙ sym (resource_for-past resources (units_on site u) k past))
  ]

  -- a number that stands for a resource, and isn't one's own, is that of a role
  role_at : (t : Taking) (k i : ℕ) → resources ≤ k → resource_on site t k ≡ Some i → (role : Role) × (slice_get roles (k - resources) ≡ Some role)
  role_at t k i past is = elim (cases_lt (k - resources) (length roles)) [
    | inl within ↦ item_at roles (k - resources) within
    | inr beyond ↦
        absurd (none-some i (sym (get_or_past (units_on site t) (k - resources) None (omega (arith, beyond, as_many_units cell roles t))) ∙ (sym (resource_for-past resources (units_on site t) k past) ∙ is)))
  ]

  module _ (alikes done : ℕ) (set : EdgeSet) (h : KeepsBindings site number collected of_roles alikes done old set) (all_alike : binding_count cell roles ≤ alikes) (all_done : count_with_roles site ≤ done)
      (t : Taking) (bounded : (name : Name) → t name < binding_count cell roles) where
    alike_taken : (k : ℕ) (edge : Edge) → Contains of_roles edge → IsTakenAt site (alike (alike_at t bounded k).candidate) edge set.edges.items
    alike_taken k edge of_role = h.taken_alike (alike_at t bounded k).candidate (omega (arith, (alike_at t bounded k).below, all_alike)) edge of_role

    same_alike : (k : ℕ) → resource_on site (alike (alike_at t bounded k).candidate) k ≡ resource_on site t k
    same_alike k = same_resource (alike (alike_at t bounded k).candidate) t k (alike_at t bounded k).named

    -- two candidates take two roles, of which one is behind the other
    record AreTwo (low high : ℕ) (edge : Edge) : Type 0 where
      taking : Taking
      there : IsTakenAt site taking edge set.edges.items
      same_low_end : resource_on site taking low ≡ resource_on site t low
      same_high_end : resource_on site taking high ≡ resource_on site t high

    two : (low high i : ℕ) → resources ≤ low → low < high → resource_on site t low ≡ Some i → (edge : Edge) → Contains of_roles edge → IsTrue (is_behind low edge) → AreTwo low high edge
    two low high i past less is edge of_role behind = record {
      taking = apart role.0.name own.candidate other.candidate;
      there = h.taken_apart low past (omega (arith, slice_get_within roles (low - resources) role.0 role.1, all_done)) role.0 role.1 own.candidate other.candidate own.below other.below edge of_role behind;
      same_low_end = same_resource (apart role.0.name own.candidate other.candidate) t low (λ r there.
          let same : role.0 ≡ r = same_Some role.0 r (sym role.1 ∙ there) in
          apart_own role.0.name r.name own.candidate other.candidate (ap (λ (x : Role). same_name x.name role.0.name) (sym same) ∙ itself role.0.name) ∙ own.named r there);
      same_high_end = same_resource (apart role.0.name own.candidate other.candidate) t high (λ r there.
          apart_other role.0.name r.name own.candidate other.candidate
          (roles_apart roles (differ cell (recipe ∷ []) recipe recipe.own_roles) (low - resources) (high - resources) role.0 r role.1 there (λ e. omega (arith, e, past, less)))
          ∙ other.named r there);
    }
      where
        role : (role : Role) × (slice_get roles (low - resources) ≡ Some role)
        role = role_at t low i past is

        own : IsAlikeAt t low
        own = alike_at t bounded low

        other : IsAlikeAt t high
        other = alike_at t bounded high

    of_roles_taken : (edge : Edge) → Contains of_roles edge → IsTakenAt site t edge set.edges.items
    of_roles_taken edge of_role i j e l = elim (cases_lt edge.earlier resources) [
      | inl low ↦
          alike_taken edge.later edge of_role i j (same_low (alike (alike_at t bounded edge.later).candidate) t edge.earlier low ∙ e) (same_alike edge.later ∙ l)
      | inr past ↦ elim (cases_lt edge.later resources) [
        | inl low ↦
            alike_taken edge.earlier edge of_role i j (same_alike edge.earlier ∙ e) (same_low (alike (alike_at t bounded edge.earlier).candidate) t edge.later low ∙ l)
        | inr past_too ↦ elim (cases_lt edge.earlier edge.later) [
          | inl less ↦
              let w : AreTwo edge.earlier edge.later edge = two edge.earlier edge.later i past less e edge of_role
              (or_left (nat_eq edge.earlier edge.earlier && ltb edge.earlier edge.later) (nat_eq edge.later edge.earlier && ltb edge.earlier edge.earlier)
              (and_from (nat_eq edge.earlier edge.earlier) (ltb edge.earlier edge.later) (eq-eqb edge.earlier edge.earlier refl) (lt-ltb edge.earlier edge.later less))) in
              w.there i j (w.same_low_end ∙ e) (w.same_high_end ∙ l)
          | inr not_less ↦ elim (cases_lt edge.later edge.earlier) [
            | inl less ↦
                let w : AreTwo edge.later edge.earlier edge = two edge.later edge.earlier j past_too less l edge of_role
                (or_right (nat_eq edge.earlier edge.later && ltb edge.later edge.later) (nat_eq edge.later edge.later && ltb edge.later edge.earlier)
                (and_from (nat_eq edge.later edge.later) (ltb edge.later edge.earlier) (eq-eqb edge.later edge.later refl) (lt-ltb edge.later edge.earlier less))) in
                w.there i j (w.same_high_end ∙ e) (w.same_low_end ∙ l)
            | inr not_more ↦
                let same : edge.earlier ≡ edge.later = omega (arith, not_less, not_more) in
                alike_taken edge.earlier edge of_role i j (same_alike edge.earlier ∙ e)
                (ap (resource_on site (alike (alike_at t bounded edge.earlier).candidate)) (sym same) ∙ (same_alike edge.earlier ∙ (ap (resource_on site t) same ∙ l)))
          ]
        ]
      ]
    ]

    pub taken_with : AreTakenOn site t collected set.edges.items
    taken_with edge i j stands e l = elim (are_of_roles.rest edge stands) [
      | inl of_role ↦ of_roles_taken edge of_role i j e l
      | inr between ↦
          let both = and_parts (ltb edge.earlier resources) (ltb edge.later resources) (not-false (ltb edge.earlier resources && ltb edge.later resources) between) in
          h.first edge stands i j (same_low (alike 0) t edge.earlier (ltb-true edge.earlier resources both.0) ∙ e) (same_low (alike 0) t edge.later (ltb-true edge.later resources both.1) ∙ l)
    ]

  pub added_all : (alikes done : ℕ) (set : EdgeSet) → binding_count cell roles ≤ alikes → count_with_roles site ≤ done → KeepsBindings site number collected of_roles alikes done old set
      → (all : List Recipe) → slice_get all number ≡ Some recipe → IsAdded cell kept all number recipe old set
  added_all alikes done set all_alike all_done h all found = record {
    grown = h.grown;
    standing = h.standing all found;
    covering = λ final later bound tried.
        follows_shown cell recipe (recipe ∷ []) bound tried final (λ t bounded. is_collected.covering t final (λ edge i j stands e l. later i j (taken_with alikes done set h all_alike all_done t bounded edge i j stands e l)));
    pairing = λ kept_is final later bound tried.
        paired_shown cell recipe (recipe ∷ []) bound tried final (λ t bounded. is_collected.pairing kept_is t final (λ edge i j stands e l. later i j (taken_with alikes done set h all_alike all_done t bounded edge i j stands e l)));
  }
