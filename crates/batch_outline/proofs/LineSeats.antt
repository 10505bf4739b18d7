-- The seats of lines.
use Rattle.std.proofs.Common.{◌≡◌, ◌<◌, ◌-◌, ℕ, ◌+◌, List, [], ◌∷◌, ◌++◌, length, map, take, get_or, nat_eq, Bool, true, false, Option, Some, None, codes, decimal, ap, sym, ◌∙◌, refl, arith, append_assoc, length-append}
use Rattle.std.{specs.List.flat_map, proofs.lemmas.List.flat_map_more, proofs.lemmas.List.length-map, proofs.lemmas.List.take_more, proofs.lemmas.List.Folds.flat_map-map, proofs.Math.Seq.take-append_seam}
use Rattle.batch_recipe.specs.{Conditions.Name, Expanding.asked_in_order, Expanding.needs_with, Expanding.unit_chosen, Expanding.unit_named, Expanding.unit_with, Needs.one_unit, Needs.resources_needed, Nodes.node, Nodes.needs_of, Nodes.child, Procedure.sites, Texts.place_text, Tree.Place, Tree.Tree, declared.act.Act.Act, declared.act.UnitChoice.UnitChoice, declared.acts.Acts.Acts, declared.need.Need.Need}
use Rattle.batch_outline.specs.{Along.Seat, Along.asked_needs, Along.asked_reserves, Along.asked_text, Along.asked_unit, Along.held_text, Along.seat_below, Along.unit_of_name, Showing.Branch, Showing.asked_above, Showing.branch_text, Showing.itself, Showing.kind_text, Showing.kind_below, Showing.listed, Showing.need_text, Showing.spaced}

pub child_text : (p : Place) (i : ℕ) → 0 < length p → place_text (child p i) ≡ place_text p ++ (codes "." ++ decimal i)
child_text [] i long = absurd (omega (arith, long))
child_text (n ∷ []) i long = refl
child_text (n ∷ m ∷ p) i long =
    ap (λ t. decimal n ++ (codes "." ++ t)) (child_text (m ∷ p) i (omega arith))
    ∙ sym (append_assoc (decimal n) (codes "." ++ place_text (m ∷ p)) (codes "." ++ decimal i))

pub child_long : (p : Place) (i : ℕ) → 0 < length p → 1 < length (child p i)
child_long p i long = omega (arith, long, length-append p (i ∷ []))

-- the seat of a node
abbrev pub seat_at : Place → List Name → Branch → Seat
seat_at p above b = record { place = place_text p; held = flat_map spaced above; branch = branch_text b }

pub seat_of_child : (p : Place) (i : ℕ) (above : List Name) (b : Branch) → 0 < length p
    → seat_at (child p i) above b ≡ seat_below (place_text p) (flat_map spaced above) i (branch_text b)
seat_of_child p i above b long = ap {A = List ℕ} (λ t. record { place = t; held = flat_map spaced above; branch = branch_text b }) (child_text p i long)

pub above_node : (p : Place) (above : List Name) (t : Tree) → asked_above (node p above t) ≡ above
above_node p above t =
    let own = needs_of t in
    let size : length (above ++ resources_needed own) - length own ≡ length above =
    omega (arith, length-append above (resources_needed own), length-map own (λ (n : Need). n.resource)) in
    ap (λ k. take k (above ++ resources_needed own)) size ∙ take-append_seam above (resources_needed own)

pub held_listed : (names : List Name) → listed (codes "holds") names ≡ held_text (flat_map spaced names)
held_listed [] = refl
held_listed (name ∷ names) = refl

pub kind_far : (p : Place) (a : Act) → 1 < length p → kind_text p a ≡ kind_below a.unit a.work
kind_far [] a long = absurd (omega (arith, long))
kind_far (n ∷ []) a long = absurd (omega (arith, long))
kind_far (n ∷ m ∷ p) a long = refl

-- the units of these unit procedures, and then these needs, each behind a space
reserved_are : (acts : Acts) (names : List Name) (needs : List Need)
    → flat_map spaced (resources_needed (map one_unit (map (unit_named (sites itself acts)) names) ++ needs)) ≡ asked_reserves acts names ++ asked_needs needs
reserved_are acts [] needs = flat_map-map spaced (λ (need : Need). need.resource) needs
reserved_are acts (name ∷ names) needs =
    ap (λ t. spaced (unit_of_name acts name) ++ t) (reserved_are acts names needs)
    ∙ sym (append_assoc (spaced (unit_of_name acts name)) (asked_reserves acts names) (asked_needs needs))

-- all that an act asks for, each behind a space
pub asked_is : (acts : Acts) (a : Act) → flat_map spaced (resources_needed (needs_with (sites itself acts) a)) ≡ asked_text acts a
asked_is acts a = go a.unit
  where
    go : (unit : Option UnitChoice) → flat_map spaced (resources_needed (asked_in_order (unit_with itself unit) (map (unit_named (sites itself acts)) a.reserves.items) a.needs.items))
        ≡ asked_unit unit ++ (asked_reserves acts a.reserves.items ++ asked_needs a.needs.items)
    go None = reserved_are acts a.reserves.items a.needs.items
    go (Some own) = ap (λ t. spaced (unit_chosen itself own) ++ t) (reserved_are acts a.reserves.items a.needs.items)

pub needs_listed : (what : List ℕ) (need : Need) (needs : List Need)
    → listed what (map need_text (need ∷ needs)) ≡ spaced what ++ flat_map (λ (n : Need). spaced (need_text n)) (need ∷ needs)
needs_listed what need needs = ap (λ t. spaced what ++ (spaced (need_text need) ++ t)) (flat_map-map spaced need_text needs)

pub needs_written : (what : List ℕ) (needs : List Need) (empty : Bool) → empty ≡ false → empty ≡ nat_eq (length needs) 0
    → listed what (map need_text needs) ≡ spaced what ++ flat_map (λ (n : Need). spaced (need_text n)) needs
needs_written what [] empty some is = let bad : true ≡ false = sym is ∙ some in absurd cc
needs_written what (need ∷ needs) empty some is = needs_listed what need needs

-- the names after their heading
pub names_written : (what : List ℕ) (names : List Name) (empty : Bool) → empty ≡ false → empty ≡ nat_eq (length names) 0
    → listed what names ≡ spaced what ++ flat_map spaced names
names_written what [] empty some is = let bad : true ≡ false = sym is ∙ some in absurd cc
names_written what (name ∷ names) empty some is = refl

-- a text of elements grows by an element at a time
pub texts_more : {X : Type 0} (text : X → List ℕ) (head : List ℕ) (xs : List X) (i : ℕ) (x d : X) → i < length xs → x ≡ get_or xs i d
    → (head ++ flat_map text (take i xs)) ++ text x ≡ head ++ flat_map text (take (i + 1) xs)
texts_more text head xs i x d within is =
    flat_map_more text head (take i xs) x
    ∙ ap (λ ys. head ++ flat_map text ys) (ap (λ y. take i xs ++ y ∷ []) is ∙ sym (take_more xs i d within))
