-- A recipe that breaks no rule in any tried binding has candidates, and is cleared.
use Rattle.std.proofs.Common.{◌≡◌, true, false, IsTrue, List, [], ◌∷◌, map, Option, Some, None, sym, ap, ◌∙◌, subst, inl, inr, refl}
use Rattle.batch_cell.specs.LookUps.{resources_of}
use Rattle.batch_cell.specs.declared.cell.Cell as equipment
use Rattle.batch_recipe.{specs.ActsAtNodes.ActList, specs.ActsAtNodes.AreActsAt, specs.ActsAtNodes.IsActAt, specs.ActsAtNodes.IsNodeOf, specs.ActsAtNodes.procedure_acts, specs.Conditions.Name, specs.Expanding.Binding, specs.Expanding.unit_chosen, specs.Nodes.Node, specs.Nodes.needs_of, specs.Procedure.bound_nodes, specs.Procedure.bound_tree, specs.Tree.Tree, specs.WellFormed.is_among, specs.WellFormed.are_roles, specs.declared.act.Act.Act, specs.declared.act.UnitChoice.UnitChoice, specs.declared.acts.Acts.Acts, specs.declared.need.Need.Need, specs.declared.recipe.Recipe.Recipe, proofs.NodeActs.procedure_acts_are}
use Rattle.batch_model.{specs.Lists.Each, specs.Lists.Has, specs.Plant.Role as ModelRole, specs.Plant.Setup, specs.Cleared.Ranking, specs.Cleared.Part, specs.Cleared.is_procedure, specs.Cleared.HasCandidates, specs.Cleared.IsClear, specs.Cleared.IsClearedControl, specs.Cleared.IsClearedRecipe, specs.Cleared.NeedsResources, specs.Cleared.ReservesFollow, specs.Recipes.recipe_of, specs.Setups.master_of, specs.Setups.setup_of, proofs.Members.Each-Has, proofs.Members.Each-map, proofs.TreeParts.parts-nodes}
use Rattle.batch_verify.{specs.Bindings.nobody, specs.Bindings.numbered_binding, specs.Refusals.MeetsRules, specs.Refusals.IsTriedFor, specs.Refusals.IsVerdictOn, specs.Ways.bound_parts, specs.declared.rule.Rule.TheVariants.UnknownResource, proofs.Choices.asked, proofs.Choices.asks_for, proofs.Choices.asks_in, proofs.Choices.has_mapped, proofs.Choices.needs_are, proofs.LeastVerdict.meets_each, proofs.RolesInTree.names_it, proofs.ServedRoles.served_is_tried, proofs.NumberedBindings.nobody-apart, proofs.NumberedBindings.numbered-tried}

each_mapped : {X Y : Type 0} (f : X → Y) (Q : Y → Type 0) (xs : List X) → Each (λ x. Q (f x)) xs → Each Q (map f xs)
each_mapped f Q [] h = tt
each_mapped f Q (x ∷ xs) h = (h.0, each_mapped f Q xs h.1)

module _ (bound : Binding) (acts : Acts) where
  -- an act of the recipe stands at a node
  node_with : (list : ActList) (ns : List Node) → AreActsAt bound acts list ns → (a : Act) → Has list (Some a) → (at : Node) × Has ns at × IsNodeOf bound acts a at
  node_with [] ns h a m = absurd m
  node_with (o ∷ list) [] h a m = absurd h
  node_with (o ∷ list) (at ∷ ns) h a (inl e) = (at, inl refl, subst (λ q. IsActAt bound acts q at) e h.0)
  node_with (o ∷ list) (at ∷ ns) h a (inr m) = let f = node_with list ns h.1 a m in (f.0, inr f.1, f.2)

module _ (c : equipment.Cell) (recipes : List Recipe) (recipe : Recipe) (own : are_roles recipe.roles.items recipe.acts ≡ true) where
  abbrev setup : Setup
  setup = setup_of c recipes

  abbrev first : Binding
  first = numbered_binding c recipe.roles.items 0

  abbrev IsKnownAt : Node → Type 0
  IsKnownAt at = NeedsResources (resources_of c) at.here

  no_resource_is_nobody : is_among (resources_of c) (nobody (resources_of c)) ≡ true → ⊥
  no_resource_is_nobody h = let bad : true ≡ false = sym h ∙ nobody-apart (resources_of c) in absurd cc

  module _ (ranking : Option Ranking) (verdict : IsVerdictOn setup ranking (master_of c recipe) None) where
    all_known : Each IsKnownAt (bound_nodes first recipe.acts)
    all_known =
        let procedure = bound_tree first recipe.acts in
        subst (Each IsKnownAt) (parts-nodes is_procedure (0 ∷ []) [] procedure)
        (each_mapped (λ (x : Part). x.node) IsKnownAt (bound_parts first recipe.acts)
        (Each-map (MeetsRules setup ranking procedure) (λ (x : Part). IsKnownAt x.node) (λ x h. (meets_each setup ranking procedure x h UnknownResource).0) (bound_parts first recipe.acts)
        (verdict first (numbered-tried c recipes recipe own 0))))

    -- a role that the tree names is taken by a resource
    taken : (role : Name) → names_it recipe role ≡ true → is_among (resources_of c) (first role) ≡ true
    taken role named =
        let q = asks_for recipe role named in
        let n = node_with first recipe.acts (procedure_acts recipe.acts) (bound_nodes first recipe.acts) (procedure_acts_are first recipe.acts) q.by q.stands_there in
        let P : Need → Type 0 = λ need. IsTrue (is_among (resources_of c) need.resource) in
        let needs : needs_of n.0.here ≡ map (asked first) (asks_in recipe.acts q.by) = ap needs_of n.2.here_is ∙ needs_are first recipe.acts q.by in
        let known = subst (Each P) needs (Each-Has IsKnownAt (bound_nodes first recipe.acts) n.0 all_known n.1) in
        let own_need = Each-Has P (map (asked first) (asks_in recipe.acts q.by)) (asked first q.ask) known (has_mapped recipe (asked first) (asks_in recipe.acts q.by) q.ask q.asked_for) in
        subst (λ (choice : UnitChoice). IsTrue (is_among (resources_of c) (unit_chosen first choice))) q.is own_need

    pub has_candidates : HasCandidates (master_of c recipe)
    has_candidates = go (master_of c recipe).roles (numbered-tried c recipes recipe own 0)
      where
        candidate : (candidates : List Name) (role : Name) → IsTriedFor setup candidates (first role) → names_it recipe role ≡ true → (unit : Name) × IsTrue (is_among candidates unit)
        candidate [] role t named = absurd (no_resource_is_nobody (subst (λ n. is_among (resources_of c) n ≡ true) t (taken role named)))
        candidate (unit ∷ more) role t named = (first role, t)

        go : (roles : List ModelRole) → Each (λ role. IsTrue (names_it recipe role.name) → IsTriedFor setup role.candidates (first role.name)) roles
            → Each (λ role. IsTrue (names_it recipe role.name) → (unit : Name) × IsTrue (is_among role.candidates unit)) roles
        go [] h = tt
        go (role ∷ roles) h = ((λ named. candidate role.candidates role.name (h.0 named) named), go roles h.1)

  pub is_cleared : (rank : Ranking) → IsVerdictOn setup (Some rank) (master_of c recipe) None → IsClearedRecipe setup rank (master_of c recipe)
  is_cleared rank verdict = (has_candidates (Some rank) verdict, λ bound served. cleared bound (verdict bound (served_is_tried setup (master_of c recipe) bound served)))
    where
      both : (procedure : Tree) (xs : List Part) → Each (MeetsRules setup (Some rank) procedure) xs → Each (IsClear setup rank) xs × Each (λ x. ReservesFollow procedure x.node) xs
      both procedure [] h = (tt, tt)
      both procedure (x ∷ xs) h = let rest = both procedure xs h.1 in ((h.0.0, rest.0), (h.0.1, rest.1))

      cleared : (bound : Binding) → Each (MeetsRules setup (Some rank) (bound_tree bound recipe.acts)) (bound_parts bound recipe.acts) → IsClearedControl setup rank (recipe_of recipe bound)
      cleared bound h = let q = both (bound_tree bound recipe.acts) (bound_parts bound recipe.acts) h in record { clear = q.0; follow = q.1 }
