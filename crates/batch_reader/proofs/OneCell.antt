-- A table stands for one unit, one module and one shared resource at most.
use Rattle.std.proofs.Common.{◌≡◌, ℕ, ◌<◌, ◌≤◌, inl, inr, Bool, true, List, [], ◌++◌, map, length, get_or, Some, None, codes, nat_eq, sym, ap, ◌∙◌, subst, arith}
use Rattle.std.{proofs.lemmas.Bool.false≢true, proofs.lemmas.List.length-map, proofs.lemmas.List.map-id, proofs.lemmas.List.get_or-map, proofs.lemmas.List.Folds.list_all-map, proofs.lemmas.List.Folds.flat_map-map, specs.Cmp.Lexicographic.pointwise, specs.List.IsDistinct, specs.List.list_all, specs.List.list_any, specs.List.flat_map, specs.Option.IsSome}
use Rattle.toml.specs.Data.{Members, get_member}
use Rattle.batch_cell.specs.{Equipment.unit_names, Equipment.declared_names, Equipment.has_declared_unit, Equipment.phases_for, Equipment.unit_phases, Equipment.IsDeclaredOnce, Equipment.HasDeclaredUnits, Equipment.OffersPhasesOnce, declared.unit.Unit.Unit, declared.module.Module.Module, declared.module.TheConstants.MAX_PHASES, declared.shared.Shared.Shared, declared.cell.Cell.Cell}
use Rattle.batch_reader.{proofs.Items.AllItems_same, proofs.Items.HasTables_same, proofs.OneEntry.HasName_unique, proofs.OneEntry.HasName_missing, proofs.OneEntry.IsNameItem_unique, specs.Entries.HasName, specs.Entries.HasNames, specs.Entries.HasTables, specs.CellDocument.IsUnitTable, specs.CellDocument.IsUnitModuleTable, specs.CellDocument.IsModuleTable, specs.CellDocument.IsSharedTable, specs.CellDocument.IsSoundEquipment, specs.CellDocument.IsCellTable}

pub HasNames_unique : (key : List ℕ) (ms : Members) (xs ys : List (List ℕ)) → HasNames key ms xs → HasNames key ms ys → xs ≡ ys
HasNames_unique key ms xs ys h k = grind (arith, map-id xs, map-id ys, AllItems_same, IsNameItem_unique)

module_name : (ms : Members) (m : Module) → IsModuleTable ms m → HasName (codes "name") ms m.name
module_name ms m (inl free) = free.name
module_name ms m (inr own) = own.name

same_unit : (ms : Members) (x y : Module) → IsModuleTable ms x → IsModuleTable ms y → x.unit ≡ y.unit
same_unit ms x y h e = grind (arith, HasName_unique)

same_phases : (ms : Members) (x y : Module) → IsModuleTable ms x → IsModuleTable ms y → x.phases.items ≡ y.phases.items
same_phases ms x y (inl h) (inl k) = h.no_phase ∙ sym k.no_phase
same_phases ms x y (inl h) (inr k) = absurd (HasName_missing _ ms k.unit h.no_unit k.has_unit)
same_phases ms x y (inr h) (inl k) = absurd (HasName_missing _ ms h.unit k.no_unit h.has_unit)
same_phases ms x y (inr h) (inr k) = HasNames_unique _ ms x.phases.items y.phases.items h.phases k.phases

-- the names, and the units and phases of a table of modules
same_unit_names : (ms : Members) (xs ys : List Unit) → HasTables IsUnitTable (codes "unit") ms xs → HasTables IsUnitTable (codes "unit") ms ys
    → unit_names xs ≡ unit_names ys
same_unit_names ms xs ys h k =
    HasTables_same IsUnitTable (λ u. u.name) (λ ns x y a b. HasName_unique _ ns x.name y.name a.name b.name) _ ms xs ys h k

same_modules : {Y : Type 0} (f : Module → Y) → ((ns : Members) (x y : Module) → IsModuleTable ns x → IsModuleTable ns y → f x ≡ f y)
    → (ms : Members) (xs ys : List Module) → HasTables IsModuleTable (codes "module") ms xs → HasTables IsModuleTable (codes "module") ms ys → map f xs ≡ map f ys
same_modules f one ms xs ys h k = HasTables_same IsModuleTable f one _ ms xs ys h k

same_shared_names : (ms : Members) (xs ys : List Shared) → HasTables IsSharedTable (codes "shared") ms xs → HasTables IsSharedTable (codes "shared") ms ys
    → map (λ s. s.name) xs ≡ map (λ s. s.name) ys
same_shared_names ms xs ys h k =
    HasTables_same IsSharedTable (λ s. s.name) (λ ns x y a b. HasName_unique _ ns x.name y.name a.name b.name) _ ms xs ys h k

same_module_name : (ns : Members) (x y : Module) → IsModuleTable ns x → IsModuleTable ns y → x.name ≡ y.name
same_module_name ns x y a b = HasName_unique _ ns x.name y.name (module_name ns x a) (module_name ns y b)

same_declared : (units : List (List ℕ)) (ns : Members) (x y : Module) → IsModuleTable ns x → IsModuleTable ns y → has_declared_unit units x ≡ has_declared_unit units y
same_declared units ns x y a b = ap (λ u. elim u [ None ↦ true | Some own ↦ list_any (pointwise nat_eq own) units ]) (same_unit ns x y a b)

same_phases_for : (unit : List ℕ) (ns : Members) (x y : Module) → IsModuleTable ns x → IsModuleTable ns y → phases_for unit x ≡ phases_for unit y
same_phases_for unit ns x y a b = grind (arith, same_unit ns x y a b, same_phases ns x y a b)

same_length : {X Y : Type 0} (f : X → Y) (xs ys : List X) → map f xs ≡ map f ys → length xs ≡ length ys
same_length f xs ys e = sym (length-map xs f) ∙ ap length e ∙ length-map ys f

-- the conditions on names, for one list of tables and another that says the same
declared_once_along : (us vs : List Unit) (ms ns : List Module) (ss ts : List Shared) → unit_names us ≡ unit_names vs
    → map (λ m. m.name) ms ≡ map (λ m. m.name) ns → map (λ s. s.name) ss ≡ map (λ s. s.name) ts → IsDeclaredOnce us ms ss → IsDeclaredOnce vs ns ts
declared_once_along us vs ms ns ss ts eu em es h =
    let P : List (List ℕ) → Type 0 = λ ks. IsDistinct (pointwise nat_eq) ks in
    let all : declared_names us ms ss ≡ declared_names vs ns ts =
    ap (λ ks. (ks ++ map (λ m. m.name) ms) ++ map (λ s. s.name) ss) eu ∙ ap (λ ks. (unit_names vs ++ ks) ++ map (λ s. s.name) ss) em
    ∙ ap (λ ks. (unit_names vs ++ map (λ m. m.name) ns) ++ ks) es in
    subst P all h

declared_units_along : (us vs : List Unit) (ms ns : List Module) → unit_names us ≡ unit_names vs
    → map (has_declared_unit (unit_names vs)) ms ≡ map (has_declared_unit (unit_names vs)) ns → HasDeclaredUnits us ms → HasDeclaredUnits vs ns
declared_units_along us vs ms ns eu em h =
    let passes : Bool → Bool = λ b. b in
    sym (list_all-map passes (has_declared_unit (unit_names vs)) ns) ∙ ap (list_all passes) (sym em) ∙ list_all-map passes (has_declared_unit (unit_names vs)) ms
    ∙ ap (λ names. list_all (has_declared_unit names) ms) (sym eu) ∙ h

phases_once_along : (us vs : List Unit) (ms ns : List Module) → unit_names us ≡ unit_names vs
    → ((unit : List ℕ) → map (phases_for unit) ms ≡ map (phases_for unit) ns) → OffersPhasesOnce us ms → OffersPhasesOnce vs ns
phases_once_along us vs ms ns eu em h k d below =
    let name : Unit → List ℕ = λ u. u.name in
    let inside : k < length us = omega (arith, length-map us name, length-map vs name, ap length eu) in
    let same : (get_or us k d).name ≡ (get_or vs k d).name =
    sym (get_or-map name us k d [] inside) ∙ ap (λ names. get_or names k []) eu ∙ get_or-map name vs k d [] below in
    let each : List (List ℕ) → List (List ℕ) = λ ps. ps in
    let phases : (unit : List ℕ) → unit_phases ms unit ≡ unit_phases ns unit =
    λ unit. sym (flat_map-map each (phases_for unit) ms) ∙ ap (flat_map each) (em unit) ∙ flat_map-map each (phases_for unit) ns in
    let P : List (List ℕ) → Type 0 = λ ks. IsDistinct (pointwise nat_eq) ks in
    subst P (ap (unit_phases ms) same ∙ phases (get_or vs k d).name) (h k d inside)

-- where the equipment that a table stands for isn't sound, the table stands for no cell
pub unsound_refused : (ms : Members) (units : List Unit) (modules : List Module) (shared : List Shared)
    → HasTables IsUnitTable (codes "unit") ms units → HasTables IsModuleTable (codes "module") ms modules → HasTables IsSharedTable (codes "shared") ms shared
    → (IsSoundEquipment units modules shared → ⊥) → (cell : Cell) → IsCellTable ms cell → ⊥
unsound_refused ms units modules shared hu hm hs unsound cell h =
    let us : unit_names cell.units.items ≡ unit_names units = same_unit_names ms cell.units.items units h.units hu in
    let mn : map (λ m. m.name) cell.modules.items ≡ map (λ m. m.name) modules = same_modules (λ m. m.name) same_module_name ms cell.modules.items modules h.modules hm in
    let ss : map (λ s. s.name) cell.shared.items ≡ map (λ s. s.name) shared = same_shared_names ms cell.shared.items shared h.shared hs in
    let sound : IsSoundEquipment cell.units.items cell.modules.items cell.shared.items = h.sound in
    let lu : length cell.units.items ≡ length units = same_length (λ u. u.name) cell.units.items units us in
    let lm : length cell.modules.items ≡ length modules = same_length (λ m. m.name) cell.modules.items modules mn in
    let ls : length cell.shared.items ≡ length shared = same_length (λ s. s.name) cell.shared.items shared ss in
    unsound (record {
      some_unit = omega (arith, sound.some_unit, lu);
      few_units = omega (arith, sound.few_units, lu);
      few_modules = omega (arith, sound.few_modules, lm);
      few_shared = omega (arith, sound.few_shared, ls);
      declared_once = declared_once_along cell.units.items units cell.modules.items modules cell.shared.items shared us mn ss sound.declared_once;
      declared_units = declared_units_along cell.units.items units cell.modules.items modules us
          (same_modules (has_declared_unit (unit_names units)) (same_declared (unit_names units)) ms cell.modules.items modules h.modules hm) sound.declared_units;
      phases_once = phases_once_along cell.units.items units cell.modules.items modules us
          (λ unit. same_modules (phases_for unit) (same_phases_for unit) ms cell.modules.items modules h.modules hm) sound.phases_once;
    })

-- a table with a unit stands for no free module
pub module_of_unit : (ms : Members) (m : Module) → IsSome (get_member (codes "unit") ms) → IsModuleTable ms m → IsUnitModuleTable ms m
module_of_unit ms m some (inl free) = let none = rw free.no_unit at some in absurd (false≢true none)
module_of_unit ms m some (inr own) = own

pub refused_phases : (ms : Members) → IsSome (get_member (codes "unit") ms) → ((names : List (List ℕ)) → HasNames (codes "phases") ms names → ⊥)
    → (m : Module) → IsModuleTable ms m → ⊥
refused_phases ms some none m h = none m.phases.items (module_of_unit ms m some h).phases

pub refused_phase_count : (ms : Members) (names : List (List ℕ)) → IsSome (get_member (codes "unit") ms) → HasNames (codes "phases") ms names
    → ((0 < length names) × (length names ≤ MAX_PHASES) → ⊥) → (m : Module) → IsModuleTable ms m → ⊥
refused_phase_count ms names some has count m h =
    let own : IsUnitModuleTable ms m = module_of_unit ms m some h in
    let same : m.phases.items ≡ names = HasNames_unique _ ms m.phases.items names own.phases has in
    count (rw same at own.some_phase, rw same at own.few_phases)
