-- The number of an act by its name, in the table and among the names of the table.
use Rattle.std.proofs.Common.{◌≡◌, ◌+◌, List, [], ◌∷◌, Bool, cond, not, Some, None, map, refl, ap, ap₂, ◌∙◌}
use Rattle.std.{specs.Prelude.nat_lt, specs.Prelude.position, specs.List.position_or_len, specs.Cmp.Lexicographic.nat_list_eq_equiv, proofs.lemmas.List.length-map}
use Rattle.batch_recipe.specs.{Conditions.Name, Conditions.same_name, Growing.number_in, WellFormed.act_names, declared.act.Act.Act}

position-map : {X Y : Type 0} (p : Y → Bool) (f : X → Y) (xs : List X) → position p (map f xs) ≡ position (λ x. p (f x)) xs
position-map {X} p f xs = ap₂ (λ a b. cond (nat_lt a b) (Some a) None) (go xs) (length-map xs f)
  where
    go : (ys : List X) → position_or_len p (map f ys) ≡ position_or_len (λ x. p (f x)) ys
    go [] = refl
    go (y ∷ ys) = ap (λ n. cond (not (p (f y))) (1 + n) 0) (go ys)

pub number_by_names : (table : List Act) (names : List Name) (name : Name) → names ≡ act_names table → position (same_name name) names ≡ number_in table name
number_by_names table names name e =
    ap (position (same_name name)) e
    ∙ (position-map (same_name name) (λ (a : Act). a.name) table
    ∙ ap (λ (p : Act → Bool). position p table) (λ i a. nat_list_eq_equiv.symm name a.name i))
