-- A fact on each two needs of a path holds in every binding that is tried, if it does in those by which edges are collected.
use Rattle.std.proofs.Common.{◌≡◌, ℕ, zero, suc, ◌<◌, Bool, true, false, List, [], ◌∷◌, Option, Some, None, option_map, slice_get, refl, sym, ap, ◌∙◌, subst, inr}
use Rattle.std.proofs.lemmas.Option.{slice_get-map}
use Rattle.batch_cell.specs.declared.cell.Cell as equipment
use Rattle.batch_recipe.specs.{Conditions.Name, Conditions.same_name, Expanding.Binding, Nodes.Node, Procedure.bound_nodes, declared.role.Role.Role}
use Rattle.batch_recipe.specs.declared.recipe.Recipe as document
use Rattle.batch_model.specs.{Lists.Each, Setups.master_of, Setups.setup_of}
use Rattle.batch_verify.{specs.Bindings.binding_count, specs.Refusals.IsTried, proofs.PairsOnPaths.ShowPairs, proofs.PairsOnPaths.pairs_shown}
use Rattle.batch_check.{specs.Edges.Follows, specs.Edges.Joins, specs.Edges.number_of_resource, specs.Edges.numbers_of_resources, specs.Pairs.ArePaired, specs.Takings.Taking, specs.Takings.alike, specs.Takings.apart, specs.Takings.bound_by, specs.declared.edge.Edge.Edge, proofs.RanksAlongPaths.Each-get}

-- a predicate that holds at each number holds of all
pub each_at : {X : Type 0} (P : X → Type 0) (xs : List X) → ((i : ℕ) (x : X) → slice_get xs i ≡ Some x → P x) → Each P xs
each_at P [] f = tt
each_at P (x ∷ xs) f = (f 0 x refl, each_at P xs (λ i y is. f (suc i) y is))

-- Needs that follow one another, by their places

module _ (edges : List Edge) where
  pub follows_at : (last : Option ℕ) (xs : List (Option ℕ)) (i : ℕ) (x y : Option ℕ) → Follows edges last xs → slice_get xs i ≡ Some x → slice_get xs (suc i) ≡ Some y → Joins edges x y
  follows_at last [] i x y h e f = let bad : None ≡ Some x = e in absurd cc
  follows_at last (a ∷ []) zero x y h e f = let bad : None ≡ Some y = f in absurd cc
  follows_at last (a ∷ b ∷ xs) zero x y h e f =
      let one : a ≡ x = cc in
      let other : b ≡ y = cc in
      subst (λ (z : Option ℕ). Joins edges z y) one (subst (Joins edges a) other h.1.0)
  follows_at last (a ∷ xs) (suc i) x y h e f = follows_at a xs i x y h.1 e f

  follows_after : (last : Option ℕ) (xs : List (Option ℕ)) → ((y : Option ℕ) → slice_get xs 0 ≡ Some y → Joins edges last y)
      → ((i : ℕ) (x y : Option ℕ) → slice_get xs i ≡ Some x → slice_get xs (suc i) ≡ Some y → Joins edges x y) → Follows edges last xs
  follows_after last [] first rest = tt
  follows_after last (a ∷ xs) first rest = (first a refl, follows_after a xs (λ y e. rest 0 a y refl e) (λ i x y e f. rest (suc i) x y e f))

  pub follows_from : (xs : List (Option ℕ)) → ((i : ℕ) (x y : Option ℕ) → slice_get xs i ≡ Some x → slice_get xs (suc i) ≡ Some y → Joins edges x y) → Follows edges None xs
  follows_from xs h = follows_after None xs (λ y e. tt) h

module _ (c : equipment.Cell) (r : document.Recipe) where
  abbrev roles : List Role
  roles = r.roles.items

  -- each role is taken by a candidate with a number
  abbrev IsBounded : Taking → Type 0
  IsBounded t = (name : Name) → t name < binding_count c roles

  -- the bindings that were looked at
  abbrev Looked : Binding → Type 0
  Looked b = (t : Taking) × IsBounded t × (b ≡ bound_by c roles t)

  apart_bounded : (role : Name) (own other : ℕ) → own < binding_count c roles → other < binding_count c roles → IsBounded (apart role own other)
  apart_bounded role own other own_lt other_lt name = go (same_name name role)
    where
      go : (b : Bool) → (let n : ℕ = elim b [ true ↦ own | false ↦ other ] in n) < binding_count c roles
      go true = own_lt
      go false = other_lt

  shows : ShowPairs c r Looked
  shows = record {
    by_number = λ number lt. (alike number, (λ name. lt), refl);
    by_two = inr (λ role m own other own_lt other_lt. (apart role.name own other, apart_bounded role.name own other own_lt other_lt, refl));
  }

  module _ (all : List document.Recipe) (bound : Binding) (tried : IsTried (setup_of c all) (master_of c r) bound) where
    -- a node whose path has the same numbers at two places
    record IsSeen (node : Node) (one other : ℕ) : Type 0 where
      taking : Taking
      bounded : IsBounded taking
      number : ℕ
      at : Node
      found : slice_get (bound_nodes (bound_by c roles taking) r.acts) number ≡ Some at
      first : slice_get (numbers_of_resources c node.asked) one ≡ slice_get (numbers_of_resources c at.asked) one
      second : slice_get (numbers_of_resources c node.asked) other ≡ slice_get (numbers_of_resources c at.asked) other

    same_numbers : (xs ys : List Name) (i : ℕ) → slice_get xs i ≡ slice_get ys i → slice_get (numbers_of_resources c xs) i ≡ slice_get (numbers_of_resources c ys) i
    same_numbers xs ys i e = slice_get-map (number_of_resource c) xs i ∙ (ap (option_map (number_of_resource c)) e ∙ sym (slice_get-map (number_of_resource c) ys i))

    seen : (k : ℕ) (node : Node) → slice_get (bound_nodes bound r.acts) k ≡ Some node → (one other : ℕ) → IsSeen node one other
    seen k node is one other =
        let by = pairs_shown c all r r.own_roles Looked shows bound tried k node is one other in
        record {
          taking = by.looked.0;
          bounded = by.looked.1;
          number = k;
          at = by.at;
          found = subst (λ (b : Binding). slice_get (bound_nodes b r.acts) k ≡ Some by.at) by.looked.2 by.found;
          first = same_numbers node.asked by.at.asked one by.first;
          second = same_numbers node.asked by.at.asked other by.second;
        }

    pub follows_shown : (edges : List Edge) → ((t : Taking) → IsBounded t → Each (λ n. Follows edges None (numbers_of_resources c n.asked)) (bound_nodes (bound_by c roles t) r.acts))
        → Each (λ n. Follows edges None (numbers_of_resources c n.asked)) (bound_nodes bound r.acts)
    follows_shown edges h =
        each_at (λ (n : Node). Follows edges None (numbers_of_resources c n.asked)) (bound_nodes bound r.acts)
        (λ k node is. follows_from edges (numbers_of_resources c node.asked)
        (λ i x y e f.
        let by = seen k node is i (suc i) in
        follows_at edges None (numbers_of_resources c by.at.asked) i x y
        (Each-get (λ (n : Node). Follows edges None (numbers_of_resources c n.asked)) (bound_nodes (bound_by c roles by.taking) r.acts) by.number by.at (h by.taking by.bounded) by.found)
        (sym by.first ∙ e) (sym by.second ∙ f)))

    pub paired_shown : (edges : List Edge) → ((t : Taking) → IsBounded t → Each (λ n. ArePaired edges (numbers_of_resources c n.asked)) (bound_nodes (bound_by c roles t) r.acts))
        → Each (λ n. ArePaired edges (numbers_of_resources c n.asked)) (bound_nodes bound r.acts)
    paired_shown edges h =
        each_at (λ (n : Node). ArePaired edges (numbers_of_resources c n.asked)) (bound_nodes bound r.acts)
        (λ k node is before place i j ordered e f.
        let by = seen k node is before place in
        Each-get (λ (n : Node). ArePaired edges (numbers_of_resources c n.asked)) (bound_nodes (bound_by c roles by.taking) r.acts) by.number by.at (h by.taking by.bounded) by.found
        before place i j ordered (sym by.first ∙ e) (sym by.second ∙ f))
