-- The phases that the units of a cell offer.
use Rattle.std.proofs.Common.{◌≡◌, ℕ, ◌*◌, ◌<◌, ◌≤◌, Bool, true, false, if◌then◌else◌, List, [], ◌∷◌, length, map, get_or, sym, ◌∙◌, ap, arith}
use Rattle.std.{proofs.lemmas.List.length-append, proofs.lemmas.List.length-map, proofs.lemmas.List.get_or-map, specs.HashSet.HashSet, specs.HashSet.keys, specs.Prelude.None}
use Rattle.batch_cell.specs.{Equipment.belongs_to, Equipment.unit_names, Equipment.phases_for, Equipment.unit_phases, Equipment.offered_phases, declared.module.TheConstants.MAX_PHASES, declared.unit.Unit.Unit, declared.module.Module.Module}

phases_for_few : (unit : List ℕ) (b : Bool) (m : Module) → length (if b then m.phases.items else []) ≤ MAX_PHASES
phases_for_few unit true m = m.few_phases
phases_for_few unit false m = omega arith

-- a unit offers no more phases than its modules have
pub few_unit_phases : (modules : List Module) (unit : List ℕ) → length (unit_phases modules unit) ≤ MAX_PHASES * length modules
few_unit_phases [] unit = omega arith
few_unit_phases (m ∷ ms) unit =
    omega (arith, length-append (phases_for unit m) (unit_phases ms unit), few_unit_phases ms unit, phases_for_few unit (belongs_to unit m) m)

pub length-unit_names : (units : List Unit) → length (unit_names units) ≡ length units
length-unit_names units = simp length-map

-- the index of a unit's phases
pub offered_at : {S : Type 0} (units : List Unit) (modules : List Module) (offered : List (HashSet (List ℕ) S)) (unit : ℕ) (d : HashSet (List ℕ) S)
    → map keys offered ≡ offered_phases units modules → unit < length units
    → (get_or offered unit d).keys ≡ unit_phases modules (get_or (unit_names units) unit [])
offered_at units modules offered unit d index below =
    let name : Unit → List ℕ = λ u. u.name in
    let phases : Unit → List (List ℕ) = λ u. unit_phases modules u.name in
    let e : Unit = record { name = []; class = None } in
    let inside : unit < length offered = omega (arith, length-map offered keys, length-map units phases, ap length index) in
    sym (get_or-map keys offered unit d [] inside) ∙ ap (λ kss. get_or kss unit []) index ∙ get_or-map phases units unit e [] below
    ∙ ap (unit_phases modules) (sym (get_or-map name units unit e [] below))
