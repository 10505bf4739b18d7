-- A fault that is reported of a table among others is there.
use Rattle.std.proofs.Common.{◌≡◌, ℕ, ◌+◌, ◌<◌, ◌≤◌, List, [], ◌∷◌, ◌++◌, length, map, take, get_or, nat_eq, refl, sym, ap, subst, ◌∙◌, append-nil, inl, inr, arith, Err, IsErrOf}
use Rattle.std.{proofs.lemmas.List.take_more, proofs.lemmas.List.Elements.All-append, proofs.lemmas.List.Elements.All-cons, proofs.lemmas.List.Elements.All-nil, proofs.lemmas.Option.slice_get-get_or, specs.Cmp.Lexicographic.pointwise, specs.List.IsDistinct}
use Rattle.batch_cell.specs.{Equipment.OffersPhasesOnce, Equipment.unit_phases, declared.module.Module.Module, declared.unit.Unit.Unit}
use Rattle.batch_recipe.specs.{Conditions.Name, Procedure.procedure_nodes, WellFormed.value_names, declared.acts.Acts.Acts, declared.outline_fault.OutlineFault.OutlineFault, declared.quantity.Quantity.Quantity, declared.recipe.Recipe.Recipe, declared.recipe.TheConstants.MAX_NODES}
use Rattle.batch_recipe.specs.declared.outline_fault.OutlineFault.TheVariants as outline
use Rattle.batch_reader.specs.{Faults.Tells, Faults.TellsIn, PartFaults.AreDistinct, PartFaults.FailsFirst, PartFaults.HasUndeclaredName, PartFaults.IsNamingFault, PartFaults.IsPartFault, PartFaults.IsUndeclaredAt, PartFaults.naming_key, PartFaults.OffersTwice, PartFaults.Parts, SoundTables.outline_fault, declared.fault.EntryFault.EntryFault, declared.fault.Spot.Spot, declared.fault.TableFault.TableFault, declared.fault.TableFault.TheVariants.Entry, declared.fault.TableFault.TheVariants.Memory, declared.fault.TableKind.TableKind}

-- if the fault is known, or also the kind of its table, it is reported of the spot
pub wrong_told : (R P Q : Spot → EntryFault → Type 0) → ((spot : Spot) (wrong : EntryFault) → R spot wrong → P spot wrong → Q spot wrong) → (fault : TableFault)
    → Tells R fault → Tells P fault → Tells Q fault
wrong_told R P Q f Memory is_wrong told = tt
wrong_told R P Q f (Entry here wrong) is_wrong told = f here wrong is_wrong told

pub kind_told : (kind : TableKind) (Is : EntryFault → Type 0) (P : ℕ → Type 0) (Q : Spot → EntryFault → Type 0)
    → ((entry : ℕ) (wrong : EntryFault) → Is wrong → P entry → Q (record { kind = kind; entry = entry }) wrong)
    → (fault : TableFault) → TellsIn kind (λ _. Is) fault → Tells (λ spot _. P spot.entry) fault → Tells Q fault
kind_told kind Is P Q f Memory is_wrong told = tt
kind_told kind Is P Q f (Entry here wrong) is_wrong told = subst (λ k. Q (record { kind = k; entry = here.entry }) wrong) (sym is_wrong.0) (f here.entry wrong is_wrong.1 told)

-- names that are the same ones fail at the same table
fails_along : {X : Type 0} (f g : List X → List Name) → ((front : List X) → f front ≡ g front) → (tables : List X) (entry : ℕ)
    → FailsFirst (λ front. AreDistinct (f front)) tables entry → FailsFirst (λ front. AreDistinct (g front)) tables entry
fails_along f g same tables entry h = record {
  before = subst AreDistinct (same (take entry tables)) h.before;
  fails = λ distinct. h.fails (subst AreDistinct (sym (same (take (entry + 1) tables))) distinct);
}

-- the table of the kind whose name, added to those so far, is one of them
pub twice_told : {X : Type 0} (f g : List X → List Name) → ((front : List X) → f front ≡ g front) → (tables : List X) (kind : TableKind) (Is : EntryFault → Type 0)
    → (Q : TableKind → ℕ → Type 0) → ((entry : ℕ) → FailsFirst (λ front. AreDistinct (g front)) tables entry → Q kind entry) → (fault : TableFault)
    → ((spot : Spot) (wrong : EntryFault) → fault ≡ Entry spot wrong → FailsFirst (λ front. AreDistinct (f front)) tables spot.entry)
    → TellsIn kind (λ _. Is) fault → Tells (λ spot _. Q spot.kind spot.entry) fault
twice_told f g same tables kind Is Q stands Memory first told = tt
twice_told f g same tables kind Is Q stands (Entry here wrong) first told =
    subst (λ k. Q k here.entry) (sym told.0) (stands here.entry (fails_along f g same tables here.entry (first here wrong refl)))

-- the names so far are none, or those of one list before
pub after_no_name : {X : Type 0} (name : X → Name) (keys : List Name) → keys ≡ [] → (front : List X) → keys ++ map name front ≡ (map name front ++ []) ++ []
after_no_name name keys none front = rw none (sym (append-nil (map name front ++ []) ∙ append-nil (map name front)))

pub after_names : {X : Type 0} (name : X → Name) (keys others : List Name) → keys ≡ others → (front : List X) → keys ++ map name front ≡ (others ++ map name front) ++ []
after_names name keys others same front = rw same (sym (append-nil (others ++ map name front)))

pub alone : {X : Type 0} (name : X → Name) (keys : List Name) → keys ≡ [] → (front : List X) → keys ++ map name front ≡ map name front
alone name keys none front = rw none refl

-- the units so far offer each phase once, and so does the next one
pub offered_turn : (units : List Unit) (modules : List Module) (i : ℕ) (d unit : Unit)
    → unit ≡ get_or units i d → i < length units → OffersPhasesOnce (take i units) modules
    → IsDistinct (pointwise nat_eq) (unit_phases modules unit.name) → OffersPhasesOnce (take (i + 1) units) modules
offered_turn units modules i d unit same below so_far once =
    let more : take (i + 1) units ≡ take i units ++ unit ∷ [] = take_more units i d below ∙ ap (λ u. take i units ++ u ∷ []) (sym same) in
    let P : Unit → Type 0 = λ u. IsDistinct (pointwise nat_eq) (unit_phases modules u.name) in
    subst (λ us. OffersPhasesOnce us modules) (sym more) (All-append P (take i units) (unit ∷ []) so_far (All-cons P unit [] once (All-nil P)))

-- the unit that a loop has come to offers a phase twice
pub offers_told : (units : List Unit) (modules : List Module) (i : ℕ) (d unit : Unit) → unit ≡ get_or units i d → i < length units → (fault : TableFault)
    → ((spot : Spot) (wrong : EntryFault) → fault ≡ Entry spot wrong → FailsFirst (λ front. AreDistinct (unit_phases front unit.name)) modules spot.entry)
    → Tells (λ spot _. OffersTwice units modules spot.entry) fault
offers_told units modules i d unit same below Memory first = tt
offers_told units modules i d unit same below (Entry here wrong) first =
    record { place = i; unit = unit; declared = rw same (slice_get-get_or units i d below); first = first here wrong refl }

-- an act refers to an undeclared name
pub undeclared_told : (inputs parameters : List Quantity) (outputs : List Name) (acts : Acts) (values : List Name) (fault : TableFault) → values ≡ value_names inputs parameters outputs
    → Tells (λ spot. IsUndeclaredAt (naming_key spot.kind)) fault → Tells (λ spot _. HasUndeclaredName values acts spot.kind spot.entry) fault
    → Tells (λ spot. IsNamingFault inputs parameters outputs acts spot.kind spot.entry) fault
undeclared_told inputs parameters outputs acts values Memory same is_wrong told = tt
undeclared_told inputs parameters outputs acts values (Entry here wrong) same is_wrong told =
    inr (is_wrong, subst (λ names. HasUndeclaredName names acts here.kind here.entry) same told)

-- the expanded tree is too large
pub large_told : (p : Parts) (fault : OutlineFault) → (IsErrOf {T = Recipe} (Err fault) outline.TooMany → MAX_NODES < length (procedure_nodes p.acts))
    → Tells (λ spot. IsPartFault p spot.kind spot.entry) (outline_fault fault)
large_told p outline.TooMany many = inl (refl, inr (refl, many refl))
large_told p outline.Memory many = tt

pub large_refused : (acts : Acts) (fault : OutlineFault) → (IsErrOf {T = Recipe} (Err fault) outline.TooMany → MAX_NODES < length (procedure_nodes acts)) → (outline_fault fault ≡ Memory → ⊥)
    → length (procedure_nodes acts) ≤ MAX_NODES → ⊥
large_refused acts fault many known small = grind arith
