-- Bindings that are tried, and those by which roles are served.
use Rattle.std.proofs.Common.{◌≡◌, true, false, IsTrue, List, [], ◌∷◌}
use Rattle.batch_recipe.specs.{Conditions.Name, Expanding.Binding, WellFormed.is_among}
use Rattle.batch_model.specs.{Lists.Each, Plant.Role, Plant.Master, Plant.Setup, Cleared.HasCandidates, Cleared.IsServed}
use Rattle.batch_verify.specs.Refusals.{IsTried, IsTriedFor}

module _ (setup : Setup) where
  -- who may take a role is tried for it
  served_for : (candidates : List Name) (unit : Name) → IsTrue (is_among candidates unit) → IsTriedFor setup candidates unit
  served_for [] unit h = let bad : false ≡ true = h in absurd cc
  served_for (first ∷ more) unit h = h

  tried_for : (candidates : List Name) (unit some : Name) → IsTrue (is_among candidates some) → IsTriedFor setup candidates unit → IsTrue (is_among candidates unit)
  tried_for [] unit some h t = let bad : false ≡ true = h in absurd cc
  tried_for (first ∷ more) unit some h t = t

  module _ (master : Master) where
    pub served_is_tried : (bound : Binding) → IsServed master bound → IsTried setup master bound
    served_is_tried bound h = go master.roles h
      where
        go : (roles : List Role) → Each (λ role. IsTrue (master.names_role role.name) → IsTrue (is_among role.candidates (bound role.name))) roles
            → Each (λ role. IsTrue (master.names_role role.name) → IsTriedFor setup role.candidates (bound role.name)) roles
        go [] h = tt
        go (role ∷ roles) h = ((λ named. served_for role.candidates (bound role.name) (h.0 named)), go roles h.1)

    -- where each role has candidates, they alone are tried
    pub tried_serves : HasCandidates master → (bound : Binding) → IsTried setup master bound → IsServed master bound
    tried_serves have bound h = go master.roles have h
      where
        go : (roles : List Role) → Each (λ role. IsTrue (master.names_role role.name) → (unit : Name) × IsTrue (is_among role.candidates unit)) roles
            → Each (λ role. IsTrue (master.names_role role.name) → IsTriedFor setup role.candidates (bound role.name)) roles
            → Each (λ role. IsTrue (master.names_role role.name) → IsTrue (is_among role.candidates (bound role.name))) roles
        go [] have h = tt
        go (role ∷ roles) have h = ((λ named. tried_for role.candidates (bound role.name) (have.0 named).0 (have.0 named).1 (h.0 named)), go roles have.1 h.1)
