-- One walk for all bindings: a node that passes for all of them passes for each.
use Rattle.std.proofs.Common.{◌≡◌, ℕ, ◌<◌, ◌≤◌, Bool, true, false, nat_lt, if◌then◌else◌, List, [], ◌∷◌, ◌++◌, length, get_or, slice_get, Option, Some, None, refl, sym, ap, ◌∙◌, subst, arith}
use Rattle.std.{specs.List.list_all, specs.List.slice_index_or, specs.Option.ForSome, proofs.lemmas.Bool.and_parts, proofs.lemmas.Bool.ltb-true, proofs.lemmas.List.length-map, proofs.lemmas.List.map-append, proofs.lemmas.Option.slice_get_within}
use Rattle.batch_cell.specs.{LookUps.resources_of, LookUps.units_of, declared.unit.Unit.Unit}
use Rattle.batch_cell.specs.declared.cell.Cell as equipment
use Rattle.batch_recipe.specs.{Conditions.Name, declared.act.UnitChoice.UnitChoice, declared.act.Work.Work, declared.act.Work.TheVariants.Follows, declared.act.Work.TheVariants.Runs, declared.role.Role.Role}
use Rattle.batch_set.specs.declared.linked.{LinkedNeed.LinkedNeed, Source.Source, Source.TheVariants.Resource, Source.TheVariants.Role as by_role, Source.TheVariants.Unknown}
use Rattle.batch_verify.{specs.Asking.Ask, specs.Asking.among_first, specs.Asking.asks_by, specs.Asking.is_fitting, specs.Asking.is_found, specs.Asking.number_by, specs.Asking.rank_by, specs.Asking.ranks_along, specs.Spans.AreAsked, specs.Spans.AreBetween, specs.Spans.IsAtMost, specs.Spans.IsTakenAt, specs.Spans.IsUnitBelow, specs.Spans.IsUnitFrom, specs.Spans.PhaseOffered, specs.Spans.SourceOffers, specs.Spans.ok_unit, specs.Spans.ranks_or_none, specs.Walking.Rises, specs.Walking.known_unit, specs.Walking.last_rank, specs.Walking.offers_on, specs.Walking.offers_work, proofs.AsksByName.among_first-all}

-- it is the number, and one of the first
among_is : (count : ℕ) (o : Option ℕ) (n : ℕ) → among_first count o ≡ Some n → (o ≡ Some n) × (n < count)
among_is count None n h = absurd cc
among_is count (Some k) n h = go (nat_lt k count) refl h
  where
    go : (b : Bool) → nat_lt k count ≡ b → ◌≡◌ {A = Option ℕ} (if b then Some k else None) (Some n) → ◌≡◌ {A = Option ℕ} (Some k) (Some n) × (n < count)
    go true e same = let is : k ≡ n = cc in (same, subst (λ m. m < count) is (ltb-true k count e))
    go false e same = absurd cc

among_at : (count k : ℕ) → k < count → among_first count (Some k) ≡ Some k
among_at count k h = among_first-all count (Some k) (λ j is. let same : k ≡ j = cc in subst (λ m. m < count) same h)

module _ (c : equipment.Cell) (ranks : Option (List ℕ)) (roles : List Role) (lowest takers highest : List (Option ℕ)) (between : AreBetween c ranks roles lowest takers highest) where
  abbrev from : Option ℕ → Option ℕ
  from number = among_first (length (units_of c)) (among_first (length (resources_of c)) number)

  from_is : (o : Option ℕ) (n : ℕ) → from o ≡ Some n → o ≡ Some n
  from_is o n h = (among_is (length (resources_of c)) o n (among_is (length (units_of c)) (among_first (length (resources_of c)) o) n h).0).0

  -- the unit by which a role is taken at its lowest rank has others that take it
  comes : (source : Source) (k : ℕ) → from (number_by lowest source) ≡ Some k → (n : ℕ) × (from (number_by takers source) ≡ Some n)
  comes (Resource number) k h = (k, h)
  comes Unknown k h = absurd cc
  comes (by_role number) k h = go (slice_index_or lowest number None) (slice_get roles number) h (between number)
    where
      go : (low : Option ℕ) (found : Option Role) → from low ≡ Some k
          → IsTakenAt c (ranks_or_none ranks) found low (slice_index_or takers number None) (slice_index_or highest number None) → (n : ℕ) × (from (slice_index_or takers number None) ≡ Some n)
      go None found e t = absurd cc
      go (Some low) None e t = absurd t
      go (Some low) (Some role) e t =
          let inside : t.at < length (units_of c) = omega (arith, slice_get_within c.units.items t.at t.unit t.unit_is, length-map c.units.items (λ (u : Unit). u.name)) in (
            t.at,
            ap from t.is ∙ (ap (among_first (length (units_of c))) (among_at (length (resources_of c)) t.at t.known) ∙ among_at (length (units_of c)) t.at inside),
          )

  -- an act's own unit is the first of its needs
  pub own_unit_comes : (own : Option UnitChoice) (choice : UnitChoice) → own ≡ Some choice → (needs : List LinkedNeed) (d : LinkedNeed) → 1 ≤ length needs → (k : Option ℕ)
      → ok_unit k ≡ known_unit (from (number_by lowest (get_or needs 0 d).source)) → (above : Option ℕ) → IsUnitBelow c own (asks_by c takers needs) takers above (Some (get_or needs 0 d).source)
  own_unit_comes own choice is [] d some k known above = absurd (omega (arith, some))
  own_unit_comes own choice is (need ∷ links) d some k known above = go (from (number_by lowest need.source)) refl known
    where
      go : (o : Option ℕ) → from (number_by lowest need.source) ≡ o → ok_unit k ≡ known_unit o → IsUnitBelow c own (asks_by c takers (need ∷ links)) takers above (Some need.source)
      go None e bad = absurd cc
      go (Some n) e good =
          let by = comes need.source n e in
          subst (λ (o : Option UnitChoice). IsUnitBelow c o (asks_by c takers (need ∷ links)) takers above (Some need.source)) (sym is)
          (record { unit = Some by.0; is = ap known_unit (sym by.1); comes = (by.0, refl, by.1) })

  phase_from : (source : Source) (phase : Name) (n : ℕ) → PhaseOffered c roles source phase → from (number_by takers source) ≡ Some n → offers_on c (Some n) phase ≡ true
  phase_from Unknown phase n h e = absurd h
  phase_from (Resource number) phase n h e = subst (λ (o : Option ℕ). offers_on c o phase ≡ true) (from_is (Some number) n e) h
  phase_from (by_role number) phase n h e = go (slice_index_or lowest number None) (slice_get roles number) refl (between number)
    where
      taker : slice_index_or takers number None ≡ Some n
      taker = from_is (slice_index_or takers number None) n e

      go : (low : Option ℕ) (found : Option Role) → slice_get roles number ≡ found
          → IsTakenAt c (ranks_or_none ranks) found low (slice_index_or takers number None) (slice_index_or highest number None) → offers_on c (Some n) phase ≡ true
      go None found is t = let bad : ◌≡◌ {A = Option ℕ} None (Some n) = sym t ∙ taker in absurd cc
      go (Some low) None is t = absurd t
      go (Some low) (Some role) is t =
          let both : ◌≡◌ {A = Option ℕ} (Some t.at) (Some n) = sym t.is ∙ taker in
          let same : t.at ≡ n = cc in
          h role is n t.unit (subst (λ m. slice_get c.units.items m ≡ Some t.unit) same t.unit_is) t.of_class

  pub unit_offers : (source : Option Source) (work : Work) (unit : Option ℕ) → SourceOffers c roles source work → IsUnitFrom c takers source unit → offers_work c unit work ≡ true
  unit_offers source (Follows chart) unit h comes = refl
  unit_offers None (Runs phase values reports) unit h comes = absurd h
  unit_offers (Some source) (Runs phase values reports) unit h comes = subst (λ (u : Option ℕ). offers_on c u phase ≡ true) (sym comes.1) (phase_from source phase comes.0 h comes.2)

  pub number_of : (source : Option Source) (unit : Option ℕ) → IsUnitFrom c takers source unit → ForSome unit (λ number. number < length (units_of c))
  number_of None unit comes = λ n is. absurd cc
  number_of (Some source) unit comes = λ n is.
      let same : comes.0 ≡ n = cc in
      subst (λ m. m < length (units_of c)) same (among_is (length (units_of c)) (among_first (length (resources_of c)) (number_by takers source)) comes.0 comes.2).1

-- Asks after asks

Rises-append : (first : Option ℕ) (xs ys : List ℕ) → Rises first xs → Rises (last_rank first xs) ys → Rises first (xs ++ ys)
Rises-append first [] ys h g = g
Rises-append first (x ∷ xs) ys h g = (h.0, Rises-append (Some x) xs ys h.1 g)

last_rank-append : (first : Option ℕ) (xs ys : List ℕ) → last_rank first (xs ++ ys) ≡ last_rank (last_rank first xs) ys
last_rank-append first [] ys = refl
last_rank-append first (x ∷ xs) ys = last_rank-append (Some x) xs ys

all_append : {X : Type 0} (p : X → Bool) (xs ys : List X) → list_all p xs ≡ true → list_all p ys ≡ true → list_all p (xs ++ ys) ≡ true
all_append p [] ys h g = g
all_append p (x ∷ xs) ys h g = let both = and_parts (p x) (list_all p xs) h in rw both.0 (all_append p xs ys both.1 g)

along_append : (ranks : Option (List ℕ)) (xs ys : List Ask) → ranks_along ranks (xs ++ ys) ≡ ranks_along ranks xs ++ ranks_along ranks ys
along_append None xs ys = refl
along_append (Some ranks) xs ys = map-append (λ (ask : Ask). rank_by ranks ask.0) xs ys

pub AreAsked-append : (c : equipment.Cell) (ranks : Option (List ℕ)) (before : Option ℕ) (xs ys : List Ask) (mid end : Option ℕ) → AreAsked c ranks before xs mid
    → ((last : Option ℕ) → IsAtMost last mid → AreAsked c ranks last ys end) → AreAsked c ranks before (xs ++ ys) end
AreAsked-append c ranks before xs ys mid end h more =
    let g = more (last_rank before (ranks_along ranks xs)) h.ends in
    record {
      found = all_append is_found xs ys h.found g.found;
      fitting = all_append (is_fitting c) xs ys h.fitting g.fitting;
      rising = subst (Rises before) (sym (along_append ranks xs ys)) (Rises-append before (ranks_along ranks xs) (ranks_along ranks ys) h.rising g.rising);
      ends =
          subst (λ rs. IsAtMost (last_rank before rs) end) (sym (along_append ranks xs ys))
          (subst (λ last. IsAtMost last end) (sym (last_rank-append before (ranks_along ranks xs) (ranks_along ranks ys))) g.ends);
    }
