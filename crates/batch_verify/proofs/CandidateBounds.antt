-- Whoever takes a role stands between the candidates of the least and of the greatest rank, by number.
use Rattle.std.proofs.Common.{◌≡◌, ℕ, zero, suc, Bool, true, false, cond, List, [], ◌∷◌, map, filter, position, slice_get, option_map, Option, Some, None, inl, inr, refl, sym, ap, ◌∙◌, subst, arith}
use Rattle.std.{specs.List.slice_index_or, specs.Cmp.Lexicographic.bytes_decides, proofs.lemmas.Bool.or_cases, proofs.lemmas.Option.slice_get-map}
use Rattle.batch_cell.specs.{Equipment.unit_names, LookUps.capacities_of, LookUps.is_of_class, LookUps.resources_of, LookUps.units_of, LookUps.units_of_class, declared.unit.Unit.Unit}
use Rattle.batch_cell.specs.declared.cell.Cell as equipment
use Rattle.batch_recipe.specs.{Conditions.Name, Conditions.same_name, Expanding.Binding, WellFormed.is_among, declared.role.Role.Role}
use Rattle.batch_model.{specs.Cleared.Ranking, specs.Lists.Has, specs.Setups.setup_of, proofs.ExclusiveUnits.unit_is_exclusive}
use Rattle.batch_set.proofs.CandidateNumbers.{number_of, unit-number}
use Rattle.batch_verify.{specs.Asking.rank_by, specs.Bindings.nobody, specs.Bindings.role_named, specs.Bindings.takers_of, specs.Refusals.IsTriedFor, specs.Spans.AreBetween, specs.Spans.GivesUnits, specs.Spans.IsTakenAt, specs.Spans.ranks_or_none, specs.Trials.extreme, specs.Trials.extreme_from, specs.Trials.raised_for, specs.Trials.raised_unit, specs.Trials.rank_or_0, proofs.Choices.has_at, proofs.Extremes.extreme_best, proofs.Extremes.extreme_is, proofs.ListLookups.found_below, proofs.NamesInList.among_at, proofs.RoleTakers.nobody_unknown}

-- One of the units that pass a test

record IsPicked (test : Unit → Bool) (units : List Unit) (name : Name) : Type 0 where
  pub at : ℕ
  pub unit : Unit
  pub is : slice_get units at ≡ Some unit
  pub passes : test unit ≡ true
  pub named : unit.name ≡ name

picked : (test : Unit → Bool) (units : List Unit) (name : Name) → is_among (unit_names (filter test units)) name ≡ true → IsPicked test units name
picked test [] name h = let bad : false ≡ true = h in absurd cc
picked test (x ∷ xs) name h = go (test x) refl h (picked test xs name)
  where
    later : IsPicked test xs name → IsPicked test (x ∷ xs) name
    later p = record { at = suc p.at; unit = p.unit; is = p.is; passes = p.passes; named = p.named }

    go : (b : Bool) → test x ≡ b → is_among (unit_names (cond b (x ∷ filter test xs) (filter test xs))) name ≡ true → (is_among (unit_names (filter test xs)) name ≡ true → IsPicked test xs name)
        → IsPicked test (x ∷ xs) name
    go false e h rest = later (rest h)
    go true e h rest = elim (or_cases (same_name name x.name) (is_among (unit_names (filter test xs)) name) h) [
      | inl same ↦ record { at = 0; unit = x; is = refl; passes = e; named = sym ((bytes_decides name x.name).0 same) }
      | inr more ↦ later (rest more)
    ]

-- a candidate by number
record IsCandidate (c : equipment.Cell) (class name : Name) : Type 0 where
  pub at : ℕ
  pub unit : Unit
  pub is : slice_get c.units.items at ≡ Some unit
  pub of_class : is_of_class class unit ≡ true
  pub numbered : position (same_name name) (resources_of c) ≡ Some at
  pub one : slice_index_or (capacities_of c) at 0 ≡ 1

candidate : (c : equipment.Cell) (class name : Name) → is_among (units_of_class c class) name ≡ true → IsCandidate c class name
candidate c class name h =
    let p = picked (is_of_class class) c.units.items name h in
    let here : slice_get (units_of c) p.at ≡ Some name = slice_get-map (λ (u : Unit). u.name) c.units.items p.at ∙ (ap (option_map (λ (u : Unit). u.name)) p.is ∙ ap Some p.named) in
    let number : position (same_name name) (resources_of c) ≡ Some p.at = ap (λ (n : Name). position (same_name n) (resources_of c)) (sym p.named) ∙ unit-number c p.at p.unit p.is in
    record {
      at = p.at;
      unit = p.unit;
      is = p.is;
      of_class = p.passes;
      numbered = number;
      one = ap (λ o. elim o [ None ↦ 0 | Some k ↦ slice_index_or (capacities_of c) k 0 ]) (sym number)
          ∙ unit_is_exclusive c name (among_at (units_of c) p.at name name here ((bytes_decides name name).1 refl));
    }

module _ (c : equipment.Cell) (ranks : Option (List ℕ)) (roles : List Role) (own : (role : Role) → Has roles role → role_named roles role.name ≡ Some role) where
  abbrev rank : Ranking
  rank = rank_or_0 c ranks

  -- each role is taken at its lowest rank, or at its highest
  abbrev pub level : Bool → Binding
  level b name = raised_for c rank b (role_named roles name)

  taken_so : (role : Role) (candidates : List Name) → units_of_class c role.class ≡ candidates → (name : Name) → IsTriedFor (setup_of c []) candidates name
      → IsTakenAt c (ranks_or_none ranks) (Some role) (number_of c (raised_unit c (extreme rank false candidates))) (number_of c name) (number_of c (raised_unit c (extreme rank true candidates)))
  taken_so role [] is name t = subst (λ o. IsTakenAt c (ranks_or_none ranks) (Some role) o (number_of c name) (number_of c (nobody (resources_of c)))) (sym (nobody_unknown (resources_of c)))
      (ap (number_of c) t ∙ nobody_unknown (resources_of c))
  taken_so role (first ∷ more) is name t =
      let low : Name = extreme_from rank false first more in
      let high : Name = extreme_from rank true first more in
      let of = λ (n : Name) (among : is_among (first ∷ more) n ≡ true). candidate c role.class n (subst (λ names. is_among names n ≡ true) (sym is) among) in
      let l = of low (extreme_is rank false first more) in
      let b = of name t in
      subst (λ o. IsTakenAt c (ranks_or_none ranks) (Some role) o (number_of c name) (number_of c high)) (sym l.numbered)
      (record {
        at = b.at;
        is = b.numbered;
        unit = b.unit;
        unit_is = b.is;
        of_class = b.of_class;
        known = found_below (same_name name) (resources_of c) b.at b.numbered;
        as_many = l.one ∙ sym b.one;
        least = omega (arith, extreme_best rank false first more name t, ap (rank_by (ranks_or_none ranks)) l.numbered, ap (rank_by (ranks_or_none ranks)) b.numbered);
        greatest = omega (arith, extreme_best rank true first more name t, ap (rank_by (ranks_or_none ranks)) b.numbered);
      })

  slot : (f : Role → Option ℕ) (rs : List Role) (k : ℕ) → slice_index_or (map f rs) k None ≡ elim (slice_get rs k) [ None ↦ None | Some role ↦ f role ]
  slot f [] k = refl
  slot f (x ∷ xs) zero = refl
  slot f (x ∷ xs) (suc k) = slot f xs k

  pub between : (bound : Binding) → GivesUnits c roles bound → AreBetween c ranks roles (takers_of c (level false) roles) (takers_of c bound roles) (takers_of c (level true) roles)
  between bound gives number =
      rw (slot (λ role. number_of c (level false role.name)) roles number, slot (λ role. number_of c (bound role.name)) roles number, slot (λ role. number_of c (level true role.name)) roles number)
      (go (slice_get roles number) refl)
    where
      at : Binding → Option Role → Option ℕ
      at b found = elim found [ None ↦ None | Some role ↦ number_of c (b role.name) ]

      go : (found : Option Role) → slice_get roles number ≡ found → IsTakenAt c (ranks_or_none ranks) found (at (level false) found) (at bound found) (at (level true) found)
      go None is = refl
      go (Some role) is =
          let has = has_at roles number role is in
          rw (own role has) (taken_so role (units_of_class c role.class) refl (bound role.name) (gives role has))
