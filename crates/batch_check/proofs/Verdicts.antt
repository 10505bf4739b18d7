-- From the verdicts on recipes to their meaning for clearance.
use Rattle.std.proofs.Common.{arith, ◌≡◌, ◌≢◌, ℕ, ◌+◌, ◌<◌, ◌++◌, List, [], ◌∷◌, take, get_or, option_map, map, length, slice_get, IsTrue, Some, None, inl, inr, refl, sym, ap, ◌∙◌, subst}
use Rattle.batch_cell.specs.LookUps.{resources_of}
use Rattle.batch_cell.specs.declared.cell.Cell as equipment
use Rattle.batch_recipe.specs.{Conditions.Name, Expanding.Binding, Nodes.Node, Procedure.bound_tree, Tree.Tree}
use Rattle.batch_recipe.specs.declared.recipe.Recipe as document
use Rattle.batch_model.{specs.Lists.Each, specs.Plant.Role, specs.Plant.Master, specs.Plant.Setup, specs.Cleared.Ranking, specs.Cleared.Part, specs.Cleared.NeedsResources, specs.Cleared.RiseStrictly, specs.Cleared.IsClear, specs.Cleared.IsClearedRecipe, specs.Cleared.HasCandidates, specs.Cleared.ReservesFollow, specs.Cleared.is_procedure, specs.Cleared.procedure_parts, specs.Cleared.CanBeCleared, specs.Setups.master_of, specs.Setups.setup_of, specs.Recipes.recipe_of, proofs.Members.Each-append, proofs.Members.Each-map, proofs.TreeParts.parts-nodes}
use Rattle.std.proofs.lemmas.{List.length-map, List.take_more, Option.get_or_from_slice_get, Option.slice_get_read, Option.slice_get-map}
use Rattle.batch_verify.{specs.Refusals.rank_in, specs.Refusals.IsSound, specs.Refusals.Breaks, specs.Refusals.IsFirstBroken, specs.Refusals.IsTried, specs.Refusals.IsTriedFor, specs.Verifying.IsRecipeSet, specs.declared.rule.Rule.Rule, specs.declared.rule.Broken.Broken, specs.Bindings.nobody, proofs.ServedRoles.served_is_tried, proofs.ServedRoles.tried_serves, proofs.RecipeClearance.has_candidates}
use Rattle.batch_check.{specs.declared.fault.CheckFault.CheckFault, specs.declared.fault.CheckFault.TheVariants.Recipes, specs.declared.fault.CheckFault.TheVariants.Recipe as in_recipe, specs.declared.fault.CheckFault.TheVariants.Circle, specs.declared.fault.CheckFault.TheVariants.Memory, specs.Checking.IsSoundMaster, specs.Finding.IsRecipeFault, specs.Finding.IsCircleFault, specs.Finding.AreLeastRanks, specs.Clearing.NeedResources, specs.Clearing.RiseAlongPaths, specs.Clearing.IsLeastClearance, proofs.RanksAlongPaths.Each-get, proofs.RanksAlongPaths.nodes-Each, proofs.RanksAlongPaths.parts_hold, proofs.RanksAlongPaths.cleared_rises, proofs.RanksAlongPaths.circle_leaves_none}

-- A fault leaves no clearance

unsound_rule : (setup : Setup) (rank : Ranking) (procedure : Tree) (x : Part) (rule : Rule) → Breaks setup None procedure x rule → IsClear setup rank x → ReservesFollow procedure x.node → ⊥
unsound_rule setup rank procedure x rule b clear follow = grind arith

unsound_recipe : (setup : Setup) (rank : Ranking) (procedure : Tree) (xs : List Part) (k : ℕ) (b : Broken) → IsFirstBroken setup None procedure xs k b → Each (IsClear setup rank) xs
    → Each (λ x. ReservesFollow procedure x.node) xs → ⊥
unsound_recipe setup rank procedure [] k b h clear follow = h
unsound_recipe setup rank procedure (x ∷ xs) k b h clear follow =
    elim h [
      | inl here ↦ unsound_rule setup rank procedure x b.rule here.1 clear.0 follow.0
      | inr later ↦ unsound_recipe setup rank procedure xs (k + 1) b later.1 clear.1 follow.1
    ]

pub recipe_fault_none : (setup : Setup) (fault : CheckFault) → IsRecipeFault setup fault → fault ≢ Memory → CanBeCleared setup → ⊥
recipe_fault_none setup Recipes h known cleared = h
recipe_fault_none setup (in_recipe k broken) h known cleared =
    let clear = Each-get (IsClearedRecipe setup cleared.0) setup.recipes k h.recipe cleared.1.recipes h.found in
    let bound = h.first.bound in
    let control = clear.1 bound (tried_serves setup h.recipe clear.0 bound h.first.tried) in
    unsound_recipe setup cleared.0 (h.recipe.control bound).procedure (procedure_parts (h.recipe.control bound)) 0 broken h.first.breaks control.clear control.follow
recipe_fault_none setup (Circle circle) h known cleared = h
recipe_fault_none setup Memory h known cleared = known refl

pub circle_fault_none : (c : equipment.Cell) (recipes : List document.Recipe) (fault : CheckFault) → IsCircleFault c recipes fault → fault ≢ Memory → CanBeCleared (setup_of c recipes) → ⊥
circle_fault_none c recipes Recipes h known cleared = h
circle_fault_none c recipes (in_recipe k broken) h known cleared = h
circle_fault_none c recipes (Circle circle) h known cleared =
    circle_leaves_none cleared.0 c recipes circle.items h.0 (cleared_rises c (setup_of c recipes) cleared.0 recipes cleared.1.recipes)
circle_fault_none c recipes Memory h known cleared = known refl

-- The least clearance

tried_for : (d e : Setup) → d.resources ≡ e.resources → (candidates : List Name) (unit : Name) → IsTriedFor d candidates unit → IsTriedFor e candidates unit
tried_for d e same [] unit tried = subst (λ (names : List Name). unit ≡ nobody names) same tried
tried_for d e same (candidate ∷ more) unit tried = tried

-- the units that are tried for roles depend on the names of resources alone
tried_with : (d e : Setup) → d.resources ≡ e.resources → (m : Master) (bound : Binding) → IsTried d m bound → IsTried e m bound
tried_with d e same m bound h = go m.roles h
  where
    go : (roles : List Role) → Each (λ role. IsTrue (m.names_role role.name) → IsTriedFor d role.candidates (bound role.name)) roles
        → Each (λ role. IsTrue (m.names_role role.name) → IsTriedFor e role.candidates (bound role.name)) roles
    go [] h = tt
    go (role ∷ roles) h = ((λ named. tried_for d e same role.candidates (bound role.name) (h.0 named)), go roles h.1)

pub needs_known : (c : equipment.Cell) (all recipes : List document.Recipe) → Each (IsSoundMaster (setup_of c all)) (map (master_of c) recipes) → NeedResources c recipes
needs_known c all [] h = tt
needs_known c all (r ∷ rs) h = (
  λ bound tried.
      parts_hold (λ n. NeedsResources (resources_of c) n.here) r bound
      (Each-map (IsSound (setup_of c all) (bound_tree bound r.acts)) (λ x. NeedsResources (resources_of c) x.node.here) (λ x sound. sound.known) (procedure_parts (recipe_of r bound))
      (h.0 bound (tried_with (setup_of c (r ∷ [])) (setup_of c all) refl (master_of c r) bound tried))),
  needs_known c all rs h.1,
)

pub candidates_known : (c : equipment.Cell) (all recipes : List document.Recipe) → Each (IsSoundMaster (setup_of c all)) (map (master_of c) recipes)
    → Each HasCandidates (map (master_of c) recipes)
candidates_known c all [] h = tt
candidates_known c all (r ∷ rs) h = (has_candidates c all r r.own_roles None h.0, candidates_known c all rs h.1)

sound_rises : (setup : Setup) (rank : Ranking) (procedure : Tree) (xs : List Part) → Each (IsSound setup procedure) xs → Each (λ x. RiseStrictly rank x.node.asked) xs → Each (IsClear setup rank) xs
sound_rises setup rank procedure [] h g = tt
sound_rises setup rank procedure (x ∷ xs) h g =
    (record { known = h.0.known; on_unit = h.0.on_unit; within = h.0.within; offered = h.0.offered; apart = h.0.apart; turning = h.0.turning; rising = g.0 }, sound_rises setup rank procedure xs h.1 g.1)

rising_clears : (c : equipment.Cell) (all : List document.Recipe) (rank : Ranking) (recipes : List document.Recipe) → Each (IsSoundMaster (setup_of c all)) (map (master_of c) recipes)
    → RiseAlongPaths c rank recipes → Each (IsClearedRecipe (setup_of c all) rank) (map (master_of c) recipes)
rising_clears c all rank [] h g = tt
rising_clears c all rank (r ∷ rs) h g =
    let P : Node → Type 0 = λ n. RiseStrictly rank n.asked in
    let m : Master = master_of c r in (
      (
        has_candidates c all r r.own_roles None h.0,
        λ bound served.
            let xs : List Part = procedure_parts (recipe_of r bound) in
            let procedure : Tree = bound_tree bound r.acts in
            let sound : Each (IsSound (setup_of c all) procedure) xs = h.0 bound (served_is_tried (setup_of c all) m bound served) in
            record {
              clear =
                  sound_rises (setup_of c all) rank procedure xs sound
                  (nodes-Each P xs
                  (subst (λ (ns : List Node). Each P ns) (sym (parts-nodes is_procedure (0 ∷ []) [] procedure))
                  (g.0 bound (served_is_tried (setup_of c (r ∷ [])) m bound served))));
              follow = Each-map (IsSound (setup_of c all) procedure) (λ x. ReservesFollow procedure x.node) (λ x k. k.follow) xs sound;
            },
      ),
      rising_clears c all rank rs h.1 g.1,
    )

pub least_clearance : (c : equipment.Cell) (recipes : List document.Recipe) (ranks : List ℕ) → IsRecipeSet (map (master_of c) recipes) → Each (IsSoundMaster (setup_of c recipes)) (map (master_of c) recipes)
    → AreLeastRanks c recipes ranks → IsLeastClearance c recipes (rank_in c ranks)
least_clearance c recipes ranks set sound least =
    let rise = least.rising (needs_known c recipes recipes sound) in
    record {
      clearing = record {
        names_differ = set.names_differ;
        few = set.few;
        recipes = rising_clears c recipes (rank_in c ranks) recipes sound rise.rising;
      };
      positive = rise.positive;
      bounded = rise.bounded;
      least = λ other positive cleared. rise.least other positive (cleared_rises c (setup_of c recipes) other recipes cleared.recipes);
    }

-- Recipes one after another

pub recipe_at : (c : equipment.Cell) (recipes : List document.Recipe) (k : ℕ) (recipe : document.Recipe) → k < length recipes → recipe ≡ get_or recipes k recipe
    → slice_get (map (master_of c) recipes) k ≡ Some (master_of c recipe)
recipe_at c recipes k recipe in' is = slice_get-map (master_of c) recipes k ∙ ap (option_map (master_of c)) (slice_get_read recipes (length recipes) k recipe refl in' is)

pub sound_more : (c : equipment.Cell) (d : Setup) (recipes : List document.Recipe) (k : ℕ) (recipe : document.Recipe) → k < length recipes → recipe ≡ get_or recipes k recipe
    → Each (IsSoundMaster d) (take k (map (master_of c) recipes)) → IsSoundMaster d (master_of c recipe) → Each (IsSoundMaster d) (take (k + 1) (map (master_of c) recipes))
sound_more c d recipes k recipe in' is before here =
    let masters : List Master = map (master_of c) recipes in
    let master : Master = master_of c recipe in
    let within : k < length masters = rw length-map in' in
    let next : take (k + 1) masters ≡ take k masters ++ master ∷ [] =
    take_more masters k master within
    ∙ ap (λ (r : Master). take k masters ++ r ∷ []) (get_or_from_slice_get masters k master master (recipe_at c recipes k recipe in' is)) in
    subst (λ (rs : List Master). Each (IsSoundMaster d) rs) (sym next) (Each-append (IsSoundMaster d) (take k masters) (master ∷ []) before (here, tt))
