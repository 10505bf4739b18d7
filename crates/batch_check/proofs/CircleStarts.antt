-- Circles turned to another start, and the least of the names.
use Rattle.std.proofs.Common.{◌≡◌, ◌≢◌, ℕ, ◌+◌, ◌<◌, ◌≤◌, suc, true, List, [], ◌∷◌, ◌++◌, map, length, take, drop, drop-cons, get_or, All, AllPairs, Contains, refl, sym, ap, ◌∙◌, subst, arith, below_more, eqb, is_lt, length-append}
use Rattle.std.{specs.Cmp.unsigned_Decides, specs.declared.cmp.Ordering.Ordering, specs.declared.cmp.Ordering.TheVariants.Less, proofs.lemmas.Bool.false≢true, proofs.lemmas.Cmp.tied_itself, proofs.lemmas.Cmp.nat_list_cmp_total, proofs.lemmas.Cmp.nat_eq_equiv, proofs.lemmas.List.get_or-map, proofs.lemmas.List.length-map, proofs.lemmas.List.take-append-drop, proofs.lemmas.List.get_or_default, proofs.lemmas.List.Elements.All-tail, proofs.lemmas.List.Sorted.All-permutation, proofs.lemmas.List.Sorted.length_permutation, proofs.lemmas.List.Sorted.IsPermutation-append_comm, proofs.lemmas.List.Sorted.IsPermutation-map, proofs.lemmas.Map.Keys.IsDistinct-IsPermutation, proofs.lemmas.Map.Made.AllPairs-from_IsDistinct}
use Rattle.batch_cell.specs.declared.cell.Cell.{Cell}
use Rattle.batch_recipe.specs.Conditions.{Name}
use Rattle.batch_check.{specs.declared.edge.Edge.Edge, specs.ByName.resource_name_in, specs.ByName.IsBelow, specs.ByName.BeginsWithLeastName, specs.LeastRanking.IsEdgeCircle, specs.LeastRanking.LeadsAlong, proofs.Raises.no_edge, proofs.Walks.laters_distinct}

-- Names

pub not_below_itself : (x : Name) → IsBelow x x → ⊥
not_below_itself x below = false≢true (sym (ap is_lt (tied_itself nat_list_cmp_total x)) ∙ ap is_lt below)

pub below_from_lt : (o : Ordering) → is_lt o ≡ true → o ≡ Less
below_from_lt o h = grind (arith, false≢true)

module _ (c : Cell) (edges : List Edge) where
  abbrev name_at : ℕ → Name
  name_at k = resource_name_in c (get_or edges k no_edge).earlier

  -- none of the first edges has an earlier whose name is below that at a place
  abbrev pub IsLeastOf : ℕ → ℕ → Type 0
  IsLeastOf count least = (k : ℕ) → k < count → ¬ (IsBelow (name_at k) (name_at least))

  pub IsLeastOf-one : IsLeastOf 1 0
  IsLeastOf-one k first below = not_below_itself (name_at 0) (subst (λ n. IsBelow (name_at n) (name_at 0)) (let none : k ≡ 0 = omega arith in none) below)

  pub IsLeastOf-takes : (count least : ℕ) → IsLeastOf count least → IsBelow (name_at count) (name_at least) → IsLeastOf (count + 1) count
  IsLeastOf-takes count least before takes =
      below_more (λ k. ¬ (IsBelow (name_at k) (name_at count))) count
      (λ k first below. before k first (nat_list_cmp_total.trans (name_at k) (name_at count) (name_at least) below takes)) (not_below_itself (name_at count))

  pub IsLeastOf-keeps : (count least : ℕ) → IsLeastOf count least → ¬ (IsBelow (name_at count) (name_at least)) → IsLeastOf (count + 1) least
  IsLeastOf-keeps count least before keeps = below_more (λ k. ¬ (IsBelow (name_at k) (name_at least))) count before keeps

  pub IsLeastOf-all : (count least : ℕ) (d : Edge) → IsLeastOf count least → length edges ≤ count → least < length edges
      → All (λ e. ¬ (IsBelow (resource_name_in c e.earlier) (resource_name_in c (get_or edges least d).earlier))) edges
  IsLeastOf-all count least d h all inside k e in' below =
      h k (omega arith)
      (let here = get_or_default edges k no_edge e in' in
      let first = get_or_default edges least no_edge d inside in
      rw (here, first) below)

-- Turns

Leads-split : (first last : ℕ) (xs ys : List Edge) → LeadsAlong first (xs ++ ys) last → (middle : ℕ) × LeadsAlong first xs middle × LeadsAlong middle ys last
Leads-split first last [] ys h = (first, refl, h)
Leads-split first last (e ∷ es) ys h =
    let rest = Leads-split e.later last es ys h.1 in
    (rest.0, (h.0, rest.1), rest.2)

Leads-join : (first middle last : ℕ) (xs ys : List Edge) → LeadsAlong first xs middle → LeadsAlong middle ys last → LeadsAlong first (xs ++ ys) last
Leads-join first middle last [] ys g h = subst (λ n. LeadsAlong n ys last) (sym g) h
Leads-join first middle last (e ∷ es) ys g h = (g.0, Leads-join e.later middle last es ys g.1 h)

-- edges into different resources stay so in another order
apart_permuted : (xs ys : List Edge) → AllPairs (λ e f. e.later ≢ f.later) (xs ++ ys) → AllPairs (λ e f. e.later ≢ f.later) (ys ++ xs)
apart_permuted xs ys apart =
    let f : Edge → ℕ = λ e. e.later in
    let differ : AllPairs (λ (m n : ℕ). m ≢ n) (map f (ys ++ xs)) =
    AllPairs-from_IsDistinct unsigned_Decides (map f (ys ++ xs))
    (IsDistinct-IsPermutation eqb nat_eq_equiv.symm (map f (xs ++ ys)) (map f (ys ++ xs)) (IsPermutation-map f (xs ++ ys) (ys ++ xs) (IsPermutation-append_comm xs ys)) (laters_distinct (xs ++ ys) apart)) in
    λ i j d ij j_in same. differ i j 0 ij (subst (λ n. j < n) (sym (length-map (ys ++ xs) f)) j_in)
    (get_or-map f (ys ++ xs) i d 0 (omega arith) ∙ (same ∙ sym (get_or-map f (ys ++ xs) j d 0 j_in)))

-- a circle is one from each of its places
IsCircle-swapped : (edges xs ys : List Edge) → IsEdgeCircle edges (xs ++ ys) → IsEdgeCircle edges (ys ++ xs)
IsCircle-swapped edges xs ys h =
    let parts = Leads-split h.start h.start xs ys h.closed in
    record {
      start = parts.0;
      nonempty = subst (λ n. 0 < n) (sym (length_permutation (xs ++ ys) (ys ++ xs) (IsPermutation-append_comm xs ys))) h.nonempty;
      closed = Leads-join parts.0 h.start parts.0 ys xs parts.2 parts.1;
      apart = apart_permuted xs ys h.apart;
      standing = All-permutation (Contains edges) (xs ++ ys) (ys ++ xs) (IsPermutation-append_comm xs ys) h.standing;
    }

pub IsCircle-turned : (edges circle : List Edge) (place : ℕ) → IsEdgeCircle edges circle → IsEdgeCircle edges (drop place circle ++ take place circle)
IsCircle-turned edges circle place h = IsCircle-swapped edges (take place circle) (drop place circle) (subst (IsEdgeCircle edges) (sym (take-append-drop place circle)) h)

pub length-turned : (circle : List Edge) (place : ℕ) → length (drop place circle ++ take place circle) ≡ length circle
length-turned circle place = grind (arith, length-append (drop place circle) (take place circle), length-append (take place circle) (drop place circle), take-append-drop place circle)

pub BeginsWithLeastName-turned : (c : Cell) (circle : List Edge) (place : ℕ) (d : Edge) → place < length circle
    → All (λ e. ¬ (IsBelow (resource_name_in c e.earlier) (resource_name_in c (get_or circle place d).earlier))) circle → BeginsWithLeastName c (drop place circle ++ take place circle)
BeginsWithLeastName-turned c circle place d below least =
    let P : Edge → Type 0 = λ e. ¬ (IsBelow (resource_name_in c e.earlier) (resource_name_in c (get_or circle place d).earlier)) in
    let swapped : All P (drop place circle ++ take place circle) =
    All-permutation P (take place circle ++ drop place circle) (drop place circle ++ take place circle) (IsPermutation-append_comm (take place circle) (drop place circle))
    (subst (All P) (sym (take-append-drop place circle)) least) in
    let begins : drop place circle ≡ get_or circle place d ∷ drop (suc place) circle = drop-cons circle place d below in
    rw begins (All-tail P (get_or circle place d) (drop (suc place) circle ++ take place circle) (rw begins at swapped))
