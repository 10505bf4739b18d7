-- Values of which no two have the same name.
use Rattle.std.{specs.Cmp.Lexicographic.bytes_decides, specs.Cmp.Lexicographic.nat_list_eq_equiv, specs.Prelude.slice_get, proofs.lemmas.Bool.and_parts, proofs.lemmas.Option.slice_get_read, proofs.lemmas.Option.slice_get_within}
use Rattle.std.proofs.Common.{◌≡◌, ℕ, zero, suc, List, [], ◌∷◌, ◌++◌, Bool, true, false, ◌||◌, ◌&&◌, not, map, set, get_or, length, Some, refl, sym, ap, ap₂, ◌∙◌, arith}
use Rattle.batch_recipe.{specs.Conditions.Name, specs.Conditions.ValueList, specs.Conditions.same_name, specs.Conditions.value_of, specs.DistinctValues.HaveDistinctValueNames, specs.Formula.values_of, specs.Formula.zeros, specs.Values.have_output, specs.Values.with_value, specs.WellFormed.are_distinct, specs.WellFormed.is_among, specs.WellFormed.value_names, specs.declared.quantity.Quantity.Quantity, specs.declared.recipe.Recipe.Recipe, proofs.ValueUpdates.named, proofs.ValueUpdates.same-at}

abbrev pub names : ValueList → List Name
names vs = map (λ v. v.0) vs

among : (vs : ValueList) (name : Name) → is_among (names vs) name ≡ have_output vs name
among [] name = refl
among (v ∷ vs) name = ap₂ (λ a b. a || b) (nat_list_eq_equiv.symm name v.0) (among vs name)

either : (a b : Bool) → (a || b) ≡ false → (a ≡ false) × (b ≡ false)
either a b h = grind arith

both : (a b : Bool) → (not a && b) ≡ true → (a ≡ false) × (b ≡ true)
both a b h = grind arith

or_later : (a b : Bool) → b ≡ true → (a || b) ≡ true
or_later a b h = grind arith

-- the first has a name that no other has
first_alone : (v : Name × ℕ) (vs : ValueList) → HaveDistinctValueNames (v ∷ vs) → (have_output vs v.0 ≡ false) × HaveDistinctValueNames vs
first_alone v vs h = let p = both (is_among (names vs) v.0) (are_distinct (names vs)) h in (sym (among vs v.0) ∙ p.0, p.1)

has : (vs : ValueList) (i : ℕ) (name : Name) (n : ℕ) → slice_get vs i ≡ Some (name, n) → have_output vs name ≡ true
has [] i name n e = absurd cc
has (v ∷ vs) zero name n e = let is : v ≡ (name, n) = cc in ap (λ (w : Name × ℕ). same_name w.0 name || have_output vs name) is ∙ ap (λ b. b || have_output vs name) (nat_list_eq_equiv.refl name)
has (v ∷ vs) (suc i) name n e = or_later (same_name v.0 name) (have_output vs name) (has vs i name n e)

-- one of another name stands before it
other : (v : Name × ℕ) (vs : ValueList) → HaveDistinctValueNames (v ∷ vs) → (i : ℕ) (name : Name) (n : ℕ) → slice_get vs i ≡ Some (name, n) → (b : Bool) → same_name v.0 name ≡ b → b ≡ false
other v vs h i name n e true same =
    let is : v.0 ≡ name = (bytes_decides v.0 name).0 same in
    let bad : false ≡ true = sym (first_alone v vs h).0 ∙ (ap (have_output vs) is ∙ has vs i name n e) in
    cc
other v vs h i name n e false same = refl

-- the value at the position is the one with its name
pub value-there : (vs : ValueList) → HaveDistinctValueNames vs → (i : ℕ) (name : Name) (n : ℕ) → slice_get vs i ≡ Some (name, n) → value_of vs name ≡ Some n
value-there [] h i name n e = absurd cc
value-there (v ∷ vs) h zero name n e =
    let is : v ≡ (name, n) = cc in
    let same : same_name v.0 name ≡ true = ap (λ (w : Name × ℕ). same_name w.0 name) is ∙ nat_list_eq_equiv.refl name in
    grind (arith, same, is)
value-there (v ∷ vs) h (suc i) name n e =
    let differ = other v vs h i name n e (same_name v.0 name) refl in
    let rest = value-there vs (first_alone v vs h).1 i name n e in
    grind (arith, differ, rest)

set-nowhere : (name : Name) (n : ℕ) (v : Name × ℕ) → same_name v.0 name ≡ false → named name n v ≡ v
set-nowhere name n v is = rw (is, named) refl

-- where none has the name, none is set
pub none-set : (vs : ValueList) (name : Name) (n : ℕ) → have_output vs name ≡ false → with_value name n vs ≡ vs
none-set [] name n h = refl
none-set (v ∷ vs) name n h =
    let p = either (same_name v.0 name) (have_output vs name) h in
    ap₂ (λ x xs. x ∷ xs) (set-nowhere name n v p.0) (none-set vs name n p.1)

-- where one has it, that one is set
pub one-set : (vs : ValueList) → HaveDistinctValueNames vs → (i : ℕ) (name : Name) (n old : ℕ) → slice_get vs i ≡ Some (name, old) → with_value name n vs ≡ set vs i (name, n)
one-set [] h i name n old e = absurd cc
one-set (v ∷ vs) h zero name n old e =
    let is : v ≡ (name, old) = cc in
    let same : same_name v.0 name ≡ true = ap (λ (w : Name × ℕ). same_name w.0 name) is ∙ nat_list_eq_equiv.refl name in
    let alone : have_output vs name ≡ false = ap (λ (w : Name × ℕ). have_output vs w.0) (sym is) ∙ (first_alone v vs h).0 in
    ap₂ (λ x xs. x ∷ xs) (rw same refl) (none-set vs name n alone)
one-set (v ∷ vs) h (suc i) name n old e =
    ap₂ (λ x xs. x ∷ xs) (set-nowhere name n v (other v vs h i name old e (same_name v.0 name) refl)) (one-set vs (first_alone v vs h).1 i name n old e)

-- the one that is read there
pub read-there : (vs : ValueList) (i : ℕ) (name : Name) (n : ℕ) → slice_get vs i ≡ Some (name, n) → (v : Name × ℕ) → v ≡ get_or vs i v → v.0 ≡ name
read-there vs i name n e v is = ap (λ (w : Name × ℕ). w.0) (same-at vs i v (name, n) (slice_get_read vs (length vs) i v refl (slice_get_within vs i (name, n) e) is) e)

-- names stay
pub names-set : (vs : ValueList) (i : ℕ) (name : Name) (n old : ℕ) → slice_get vs i ≡ Some (name, old) → names (set vs i (name, n)) ≡ names vs
names-set [] i name n old e = absurd cc
names-set (v ∷ vs) zero name n old e = let is : v ≡ (name, old) = cc in ap (λ (w : Name × ℕ). w.0 ∷ names vs) (sym is)
names-set (v ∷ vs) (suc i) name n old e = ap (λ xs. v.0 ∷ xs) (names-set vs i name n old e)

-- Those of a recipe

names-of-both : (xs ys : ValueList) → names (xs ++ ys) ≡ names xs ++ names ys
names-of-both [] ys = refl
names-of-both (x ∷ xs) ys = ap (λ ns. x.0 ∷ ns) (names-of-both xs ys)

names-of-quantities : (basis size : ℕ) (qs : List Quantity) → names (values_of basis size qs) ≡ map (λ q. q.name) qs
names-of-quantities basis size [] = refl
names-of-quantities basis size (q ∷ qs) = ap (λ ns. q.name ∷ ns) (names-of-quantities basis size qs)

names-of-zeros : (os : List Name) → names (zeros os) ≡ os
names-of-zeros [] = refl
names-of-zeros (o ∷ os) = ap (λ ns. o ∷ ns) (names-of-zeros os)

pub distinct-in : (r : Recipe) (size : ℕ) (inputs parameters all : ValueList) → inputs ≡ values_of r.basis size r.inputs.items → parameters ≡ inputs ++ values_of r.basis size r.parameters.items
    → all ≡ parameters ++ zeros r.outputs.items → HaveDistinctValueNames all
distinct-in r size inputs parameters all i p a =
    let first : names inputs ≡ map (λ q. q.name) r.inputs.items = ap names i ∙ names-of-quantities r.basis size r.inputs.items in
    let second : names parameters ≡ map (λ q. q.name) r.inputs.items ++ map (λ q. q.name) r.parameters.items =
    ap names p ∙ (names-of-both inputs (values_of r.basis size r.parameters.items) ∙ ap₂ (λ xs ys. xs ++ ys) first (names-of-quantities r.basis size r.parameters.items)) in
    let named : names all ≡ value_names r.inputs.items r.parameters.items r.outputs.items =
    ap names a ∙ (names-of-both parameters (zeros r.outputs.items) ∙ ap₂ (λ xs ys. xs ++ ys) second (names-of-zeros r.outputs.items)) in
    ap are_distinct named ∙ (and_parts _ _ (and_parts _ _ r.well_formed).0).0
