-- Acts without the charts that no node follows: their names, and whatever else doesn't look at charts.
use Rattle.std.proofs.Common.{arith, ◌<◌, ◌≡◌, refl, ◌∙◌, ap, ap₂, subst, ℕ, ◌+◌, zero, suc, List, [], ◌∷◌, Bool, true, length, map, set, get_or, slice_get, Some, inl, inr}
use Rattle.std.{specs.List.list_all, proofs.lemmas.Bool.and_parts}
use Rattle.batch_recipe.specs.declared.{act.Act.Act, acts.LabelTable.LabelTable, entry.Entry.Entry}
use Rattle.batch_outline.specs.Trimmed.{AreTrimmedActs, HasNode, IsWithoutChart}

module _ (entries : List Entry) (table : LabelTable) where
  pub same_acts : (number : ℕ) (acts : List Act) → AreTrimmedActs entries table number acts acts
  same_acts number [] = tt
  same_acts number (a ∷ acts) = (inl refl, same_acts (number + 1) acts)

  -- the chart of one more act is dropped
  more_dropped : (number at : ℕ) (acts trimmed : List Act) (d a : Act) → AreTrimmedActs entries table number acts trimmed → at < length trimmed → ¬ (HasNode entries table (number + at))
      → IsWithoutChart (get_or trimmed at d) a → AreTrimmedActs entries table number acts (set trimmed at a)
  more_dropped number at [] [] d a h within nowhere is = absurd (omega (arith, within))
  more_dropped number at [] (t ∷ trimmed) d a h within nowhere is = absurd h
  more_dropped number at (w ∷ acts) [] d a h within nowhere is = absurd h
  more_dropped number zero (w ∷ acts) (t ∷ trimmed) d a (inl same, rest) within nowhere is =
      (inr ((λ has. nowhere (subst (HasNode entries table) (omega arith) has)), subst (λ x. IsWithoutChart x a) same is), rest)
  more_dropped number zero (w ∷ acts) (t ∷ trimmed) d a (inr (_, other), rest) within nowhere is = (
    inr (
      (λ has. nowhere (subst (HasNode entries table) (omega arith) has)),
      record {
        name = is.name ∙ other.name;
        unit = is.unit ∙ other.unit;
        reserves = is.reserves ∙ other.reserves;
        needs = is.needs ∙ other.needs;
        work = is.work;
      },
    ),
    rest,
  )
  more_dropped number (suc at) (w ∷ acts) (t ∷ trimmed) d a (here, rest) within nowhere is =
      (here, more_dropped (number + 1) at acts trimmed d a rest (omega (arith, within)) (λ has. nowhere (subst (HasNode entries table) (omega arith) has)) is)

  pub one_dropped : (at : ℕ) (acts trimmed : List Act) (d a : Act) → AreTrimmedActs entries table 0 acts trimmed → at < length trimmed → ¬ (HasNode entries table at)
      → IsWithoutChart (get_or trimmed at d) a → AreTrimmedActs entries table 0 acts (set trimmed at a)
  one_dropped at acts trimmed d a h within nowhere is = more_dropped 0 at acts trimmed d a h within (λ has. nowhere (subst (HasNode entries table) (omega arith) has)) is

  -- what is the same of acts without their charts is the same of all
  pub stay : {X : Type 0} (f : Act → X) → ((whole trimmed : Act) → IsWithoutChart whole trimmed → f trimmed ≡ f whole) → (number : ℕ) (acts trimmed : List Act)
      → AreTrimmedActs entries table number acts trimmed → map f trimmed ≡ map f acts
  stay f same number [] [] h = refl
  stay f same number [] (t ∷ trimmed) h = absurd h
  stay f same number (w ∷ acts) [] h = absurd h
  stay f same number (w ∷ acts) (t ∷ trimmed) (inl is, rest) = ap₂ (λ x xs. x ∷ xs) (ap f is) (stay f same (number + 1) acts trimmed rest)
  stay f same number (w ∷ acts) (t ∷ trimmed) (inr (_, is), rest) = ap₂ (λ x xs. x ∷ xs) (same w t is) (stay f same (number + 1) acts trimmed rest)

  -- a test that acts without their charts pass, if the whole ones do
  pub all_stay : (p : Act → Bool) → ((whole trimmed : Act) → IsWithoutChart whole trimmed → p whole ≡ true → p trimmed ≡ true) → (number : ℕ) (acts trimmed : List Act)
      → AreTrimmedActs entries table number acts trimmed → list_all p acts ≡ true → list_all p trimmed ≡ true
  all_stay p passes number [] [] h all = refl
  all_stay p passes number [] (t ∷ trimmed) h all = absurd h
  all_stay p passes number (w ∷ acts) [] h all = absurd h
  all_stay p passes number (w ∷ acts) (t ∷ trimmed) (here, rest) all =
      let (first, others) = and_parts (p w) (list_all p acts) all in
      let now : p t ≡ true = elim here [ inl is ↦ ap p is ∙ first | inr dropped ↦ passes w t dropped.1 first ] in
      rw now (all_stay p passes (number + 1) acts trimmed rest others)

  -- an act that some node is stays as it is
  pub node_stays : (number k : ℕ) (acts trimmed : List Act) → AreTrimmedActs entries table number acts trimmed → HasNode entries table (number + k)
      → slice_get trimmed k ≡ slice_get acts k
  node_stays number k [] [] h has = refl
  node_stays number k [] (t ∷ trimmed) h has = absurd h
  node_stays number k (w ∷ acts) [] h has = absurd h
  node_stays number zero (w ∷ acts) (t ∷ trimmed) (inl is, rest) has = ap (λ (a : Act). Some a) is
  node_stays number zero (w ∷ acts) (t ∷ trimmed) (inr (nowhere, _), rest) has = absurd (nowhere (subst (HasNode entries table) (omega arith) has))
  node_stays number (suc k) (w ∷ acts) (t ∷ trimmed) (here, rest) has =
      node_stays (number + 1) k acts trimmed rest (subst (HasNode entries table) (omega arith) has)
