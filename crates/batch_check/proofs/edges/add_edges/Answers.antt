use Rattle.std.proofs.Common.{◌≡◌, ◌∙◌, ◌+◌, ◌<◌, ℕ, Bool, List, get_or, Option, Some, Vec, length, refl, sym, ap, slice_get, subst, arith}
use Rattle.std.{specs.Global.Global, proofs.lemmas.Option.slice_get_read}
use Rattle.batch_cell.specs.declared.cell.Cell.{Cell}
use Rattle.batch_recipe.specs.declared.role.Role.{Role}
use Rattle.batch_verify.specs.Bindings.{binding_count}
use Rattle.batch_check.{specs.Collecting.AreThose, specs.Collecting.AreUnitsWithin, specs.Collecting.HasRaised, specs.Collecting.HasTakenBy, specs.Collecting.is_behind, specs.Collecting.is_of_role, specs.Collecting.kept_at_top, specs.Sites.resource_count, specs.Sites.units_on, specs.Takings.AreUnitsOf, specs.Takings.alike, specs.Takings.units_by, specs.declared.edge.Edge.Edge, specs.declared.edge_set.EdgeSet.EdgeSet, specs.declared.site.Site.Site, proofs.RecipeEdges.KeepsBindings, proofs.RecipeEdges.KeepsBindings-alike, proofs.RecipeEdges.KeepsBindings-apart, proofs.RecipeEdges.KeepsBindings-fewer, proofs.RecipeEdges.KeepsBindings-first, proofs.RecipeEdges.added_all, proofs.RoleUnits.item_at, proofs.RoleUnits.units_below, proofs.RoleUnits.units_numbered, proofs.RoleUnits.units_within}
use Rattle.batch_check.proofs.edges.add_edges.Goals as goal

abbrev Units : Type 0
Units = Vec (Option ℕ) Global

-- a fact on slices is one on the lists that they show

those_of : (passes : Edge → Bool) (es edges those : List Edge) → es ≡ edges → AreThose passes es those → AreThose passes edges those
those_of passes es edges those e h = subst (λ (xs : List Edge). AreThose passes xs those) e h

of_roles_by : (n count : ℕ) (es edges those : List Edge) → n ≡ count → es ≡ edges → AreThose (is_of_role n) es those → AreThose (is_of_role count) edges those
of_roles_by n count es edges those e f h = those_of (is_of_role count) es edges those f (subst (λ k. AreThose (is_of_role k) es those) e h)

taken_by : (us units : List (Option ℕ)) (es edges : List Edge) (old new : EdgeSet) → us ≡ units → es ≡ edges → HasTakenBy us es old new → HasTakenBy units edges old new
taken_by us units es edges old new e f h = subst (λ (xs : List (Option ℕ)). HasTakenBy xs edges old new) e (subst (λ (xs : List Edge). HasTakenBy us xs old new) f h)

raised_by : (place : ℕ) (us units : List Units) (es edges : List Edge) (old new : EdgeSet) → us ≡ units → es ≡ edges → HasRaised place us us es old new → HasRaised place units units edges old new
raised_by place us units es edges old new e f h = subst (λ (xs : List Units). HasRaised place xs xs edges old new) e (subst (λ (xs : List Edge). HasRaised place us us xs old new) f h)

-- the units that were read at a place
units_read : (cell : Cell) (roles : List Role) (count : ℕ) (xs units : List Units) (index : ℕ) (taken : Units) → AreUnitsOf cell roles count units → xs ≡ units → index < length xs → taken ≡ get_or xs index taken
    → taken.items ≡ units_by cell roles (alike index)
units_read cell roles count xs units index taken are e within is =
    are.each index taken (subst (λ (us : List Units). slice_get us index ≡ Some taken) e (slice_get_read xs (length xs) index taken refl within is))

pub add_taken-requires : goal.add_taken-requires
add_taken-requires c =
    let cell = c.args.cell.now in
    let roles = c.args.recipe.now.roles.items in
    units_below cell roles c.args.edges.now.count (alike 0) c.deref-2.result.now c.requires.sized
    (c.deref-2.ensures.value ∙ (c.in_ok-first.ensures cell c.requires.linked ∙ units_numbered cell c.args.recipe.now.roles.items 0))

pub loop-taken-init : goal.loop-taken-init
loop-taken-init c =
    let site : Site = record { cell = c.args.cell; recipe = c.args.recipe } in
    let cell = c.args.cell.now in
    let collected = c.in_ok-collected.collected.edges.items in
    let of_roles = c.in_ok-of_roles.of_roles.items in
    KeepsBindings-first site (kept_at_top c.args.reach) c.args.number collected of_roles c.args.edges.now c.requires.sized c.in_ok-collected.ensures
    (of_roles_by c.resources.result (resource_count site) c.deref-3.result.now collected of_roles c.resources.ensures c.deref-3.ensures.value c.in_ok-of_roles.ensures)
    c.add_taken.new.set
    (taken_by c.deref-2.result.now (units_on site (alike 0)) c.deref.result.now collected c.args.edges.now c.add_taken.new.set
    (c.deref-2.ensures.value ∙ (c.in_ok-first.ensures cell c.requires.linked ∙ units_numbered cell c.args.recipe.now.roles.items 0)) c.deref.ensures.value c.in_ok-add_taken.ensures)

pub add_taken-requires-in-loop-taken : goal.add_taken-requires-in-loop-taken
add_taken-requires-in-loop-taken c =
    let cell = c.args.cell.now in
    let roles = c.args.recipe.now.roles.items in
    units_below cell roles c.loop-taken.edges.count (alike c.loop-taken.taken-index) c.deref-in-loop-taken-2.result.now (c.loop-taken.invariant.grown.same_count ∙ c.requires.sized)
    (c.deref-in-loop-taken-2.ensures.value
    ∙ units_read cell roles (binding_count cell roles) c.deref-taken-items.result.now c.in_ok-units.units.items c.loop-taken.taken-index c.taken-item.result
    c.in_ok-units.ensures c.deref-taken-items.ensures.value c.loop-taken-test.true c.taken-item.is)

pub loop-taken-preserved : goal.loop-taken-preserved
loop-taken-preserved c =
    let site : Site = record { cell = c.args.cell; recipe = c.args.recipe } in
    let cell = c.args.cell.now in
    let roles = c.args.recipe.now.roles.items in
    let collected = c.in_ok-collected.collected.edges.items in
    let of_roles = c.in_ok-of_roles.of_roles.items in
    KeepsBindings-alike site (kept_at_top c.args.reach) c.args.number collected of_roles c.args.edges.now c.requires.sized c.in_ok-collected.ensures
    (of_roles_by c.resources.result (resource_count site) c.deref-3.result.now collected of_roles c.resources.ensures c.deref-3.ensures.value c.in_ok-of_roles.ensures)
    c.loop-taken.taken-index (resource_count site) c.loop-taken.edges c.add_taken-in-loop-taken.new.set c.loop-taken.invariant
    (taken_by c.deref-in-loop-taken-2.result.now (units_on site (alike c.loop-taken.taken-index)) c.deref-in-loop-taken.result.now of_roles c.loop-taken.edges c.add_taken-in-loop-taken.new.set
    (c.deref-in-loop-taken-2.ensures.value
    ∙ units_read cell roles (binding_count cell roles) c.deref-taken-items.result.now c.in_ok-units.units.items c.loop-taken.taken-index c.taken-item.result
    c.in_ok-units.ensures c.deref-taken-items.ensures.value c.loop-taken-test.true c.taken-item.is)
    c.deref-in-loop-taken.ensures.value c.in_ok-add_taken-2.ensures)

pub loop-role-init : goal.loop-role-init
loop-role-init c =
    let site : Site = record { cell = c.args.cell; recipe = c.args.recipe } in
    let collected = c.in_ok-collected.collected.edges.items in
    let of_roles = c.in_ok-of_roles.of_roles.items in
    let units = c.in_ok-units.units.items in
    subst (λ done. KeepsBindings site c.args.number collected of_roles (length units) done c.args.edges.now c.loop-taken.edges) (sym c.resources-role.ensures)
    (KeepsBindings-fewer site (kept_at_top c.args.reach) c.args.number collected of_roles c.args.edges.now c.requires.sized c.in_ok-collected.ensures
    (of_roles_by c.resources.result (resource_count site) c.deref-3.result.now collected of_roles c.resources.ensures c.deref-3.ensures.value c.in_ok-of_roles.ensures)
    c.loop-taken.taken-index (resource_count site) c.loop-taken.edges c.loop-taken.edges c.loop-taken.invariant (length units)
    (omega (arith, c.loop-taken-test.false, ap (λ (us : List Units). length us) c.deref-taken-items.ensures.value)))

pub add_raised-requires : goal.add_raised-requires
add_raised-requires c =
    let site : Site = record { cell = c.args.cell; recipe = c.args.recipe } in
    let cell = c.args.cell.now in
    let roles = c.args.recipe.now.roles.items in
    let units = c.in_ok-units.units.items in
    let place : ℕ = c.from-place.result in
    let place_is : c.loop-role.role ≡ resource_count site + place = omega (arith, c.from-place.ensures, c.resources-in-loop-role.ensures, c.loop-role.auto.role, c.resources-role.ensures) in
    subst (λ (us : List Units). AreUnitsWithin place c.loop-role.edges.count us) (sym c.deref-in-loop-role-2.ensures.value)
    (units_within cell roles c.loop-role.edges.count (binding_count cell roles) units c.in_ok-units.ensures
    (c.loop-role.invariant.grown.same_count ∙ c.requires.sized) place (omega (arith, place_is, c.loop-role-test.true, c.count_with_roles-role-end.ensures)))

pub loop-role-preserved : goal.loop-role-preserved
loop-role-preserved c =
    let site : Site = record { cell = c.args.cell; recipe = c.args.recipe } in
    let cell = c.args.cell.now in
    let roles = c.args.recipe.now.roles.items in
    let collected = c.in_ok-collected.collected.edges.items in
    let of_roles = c.in_ok-of_roles.of_roles.items in
    let units = c.in_ok-units.units.items in
    let behind = c.in_ok-behind.behind.items in
    let place : ℕ = c.from-place.result in
    let place_is : c.loop-role.role ≡ resource_count site + place = omega (arith, c.from-place.ensures, c.resources-in-loop-role.ensures, c.loop-role.auto.role, c.resources-role.ensures) in
    let role = item_at roles place (omega (arith, place_is, c.loop-role-test.true, c.count_with_roles-role-end.ensures)) in
    KeepsBindings-apart site (kept_at_top c.args.reach) c.args.number collected of_roles c.args.edges.now c.requires.sized c.in_ok-collected.ensures
    (of_roles_by c.resources.result (resource_count site) c.deref-3.result.now collected of_roles c.resources.ensures c.deref-3.ensures.value c.in_ok-of_roles.ensures)
    (length units) c.loop-role.role c.loop-role.edges c.add_raised.new.set c.loop-role.invariant units
    c.in_ok-units.ensures place place_is role.0 role.1 behind
    (those_of (is_behind c.loop-role.role) c.deref-in-loop-role.result.now of_roles behind c.deref-in-loop-role.ensures.value c.in_ok-behind.ensures)
    (raised_by place c.deref-in-loop-role-2.result.now units c.deref-in-loop-role-3.result.now behind c.loop-role.edges c.add_raised.new.set c.deref-in-loop-role-2.ensures.value c.deref-in-loop-role-3.ensures.value
    c.in_ok-add_raised.ensures)

pub returns : goal.returns
returns c =
    let site : Site = record { cell = c.args.cell; recipe = c.args.recipe } in
    let cell = c.args.cell.now in
    let roles = c.args.recipe.now.roles.items in
    let collected = c.in_ok-collected.collected.edges.items in
    let of_roles = c.in_ok-of_roles.of_roles.items in
    let units = c.in_ok-units.units.items in
    let are = c.in_ok-units.ensures in
    added_all site (kept_at_top c.args.reach) c.args.number collected of_roles c.args.edges.now c.requires.sized c.in_ok-collected.ensures
    (of_roles_by c.resources.result (resource_count site) c.deref-3.result.now collected of_roles c.resources.ensures c.deref-3.ensures.value c.in_ok-of_roles.ensures)
    (length units) c.loop-role.role c.loop-role.edges (omega (arith, are.as_many)) (omega (arith, c.loop-role-test.false, c.count_with_roles-role-end.ensures)) c.loop-role.invariant
