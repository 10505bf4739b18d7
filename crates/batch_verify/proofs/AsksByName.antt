-- The asks of acts by number are those by name.
use Rattle.std.proofs.Common.{◌≡◌, ℕ, ◌<◌, List, [], ◌∷◌, length, map, position, Bool, true, false, ◌&&◌, nat_lt, if◌then◌else◌, Option, Some, None, option_map, Result, refl, sym, ap, ◌∙◌, subst, arith, lt-ltb}
use Rattle.std.{specs.Prelude.MatchResult, specs.List.list_all, proofs.lemmas.Bool.ltb-true, proofs.lemmas.Bool.ltb-false, proofs.lemmas.List.length-map, proofs.lemmas.List.Folds.list_all-map, proofs.lemmas.Option.get_or_from_slice_get, proofs.lemmas.Option.slice_get-map}
use Rattle.batch_cell.{specs.LookUps.resources_of, specs.LookUps.units_of, specs.declared.unit.Unit.Unit, proofs.Resources.no_resource_no_unit, proofs.Resources.resource_is_no_unit, proofs.Resources.resource_is_unit}
use Rattle.batch_cell.specs.declared.cell.Cell as equipment
use Rattle.batch_recipe.specs.{Conditions.Name, Conditions.same_name, Expanding.Binding, Expanding.Sites, Expanding.asked_in_order, Expanding.needs_with, Expanding.unit_chosen, Expanding.unit_named, Expanding.unit_with, Outlines.act_of_kind, Procedure.sites, declared.act.Act.Act, declared.act.UnitChoice.UnitChoice, declared.entry.Kind.Kind, declared.need.Need.Need}
use Rattle.batch_recipe.specs.Needs as needs
use Rattle.batch_recipe.specs.declared.recipe.Recipe as document
use Rattle.batch_recipe.specs.declared.role.Role as declared
use Rattle.batch_set.{specs.Linking.IsLinkedIn, specs.Looked.needs_by, specs.Sources.IsSource, specs.Sources.SayNeeds, specs.declared.linked.LinkedNeed.LinkedNeed, specs.declared.linked.LinkedRecipe.LinkedRecipe, specs.declared.linked.Source.Source, specs.declared.linked.Source.TheVariants.Resource, specs.declared.linked.Source.TheVariants.Role, specs.declared.linked.Source.TheVariants.Unknown, proofs.Sources.needs-said, proofs.ResourceNumbers.number-at}
use Rattle.batch_verify.{specs.Asking.Ask, specs.Asking.IsRise, specs.Asking.among_first, specs.Asking.ask_by, specs.Asking.ask_of, specs.Asking.asks_by, specs.Asking.asks_of, specs.Asking.is_fitting, specs.Asking.is_found, specs.Asking.number_by, specs.Asking.ranks_along, specs.Asking.ranks_asked, specs.Asking.unit_by, specs.Bindings.takers_of, specs.Refusals.rank_in, specs.Refusals.ranking_in, specs.Walking.RisesFrom, specs.Walking.is_of_resource, specs.Walking.is_within_capacity, specs.Walking.known_unit, specs.Walking.last_from, specs.Walking.unit_under, specs.declared.rule.Rule.Rule, specs.declared.rule.Rule.TheVariants.RankNotRising, proofs.ListLookups.found_below, proofs.ListLookups.found_is_among}

pub among_first-all : (count : ℕ) (o : Option ℕ) → ((k : ℕ) → o ≡ Some k → k < count) → among_first count o ≡ o
among_first-all count None h = refl
among_first-all count (Some k) h = ap (λ b. let o : Option ℕ = if b then Some k else None in o) (lt-ltb k count (h k refl))

module _ (c : equipment.Cell) (roles : List declared.Role) (bound : Binding) where
  resource-is : (source : Source) (name : Name) → IsSource c roles bound source name → number_by (takers_of c bound roles) source ≡ position (same_name name) (resources_of c)
  resource-is (Resource number) name h = sym (number-at c number name h)
  resource-is Unknown name h = sym h
  resource-is (Role number) name h =
      let taker : declared.Role → Option ℕ = λ role. position (same_name (bound role.name)) (resources_of c) in
      get_or_from_slice_get (map taker roles) number (taker h.0) None (slice_get-map taker roles number ∙ ap (option_map taker) h.1)
      ∙ ap (λ (n : Name). position (same_name n) (resources_of c)) h.2

  ask-is : (link : LinkedNeed) (need : Need) → IsSource c roles bound link.source need.resource → link.units ≡ need.units → ask_by c (takers_of c bound roles) link ≡ ask_of c need
  ask-is link need source units =
      let number : among_first (length (resources_of c)) (number_by (takers_of c bound roles) link.source) ≡ position (same_name need.resource) (resources_of c) =
      ap (among_first (length (resources_of c))) (resource-is link.source need.resource source)
      ∙ among_first-all (length (resources_of c)) (position (same_name need.resource) (resources_of c)) (found_below (same_name need.resource) (resources_of c)) in
      ap (λ (o : Option ℕ). let ask : Ask = (o, link.units) in ask) number
      ∙ ap (λ (n : ℕ). let ask : Ask = (position (same_name need.resource) (resources_of c), n) in ask) units

  asks-are : (links : List LinkedNeed) (needs : List Need) → SayNeeds c roles bound links needs → asks_by c (takers_of c bound roles) links ≡ asks_of c needs
  asks-are [] [] h = refl
  asks-are [] (need ∷ needs) h = absurd h
  asks-are (link ∷ links) [] h = absurd h
  asks-are (link ∷ links) (need ∷ needs) h =
      ap (λ (ask : Ask). ask ∷ asks_by c (takers_of c bound roles) links) (ask-is link need h.0 h.1)
      ∙ ap (λ (asks : List Ask). ask_of c need ∷ asks) (asks-are links needs h.2)

-- the linked recipe has the asks of each act, whatever units take the roles
pub says-asks : (c : equipment.Cell) (recipe : document.Recipe) (linked : LinkedRecipe) → IsLinkedIn c recipe linked → (bound : Binding) (kind : Kind) (a : Act) → act_of_kind recipe.acts kind ≡ Some a
    → asks_by c (takers_of c bound recipe.roles.items) (needs_by linked kind) ≡ asks_of c (needs_with (sites bound recipe.acts) a)
says-asks c recipe linked h bound kind a is =
    asks-are c recipe.roles.items bound (needs_by linked kind) (needs_with (sites bound recipe.acts) a) (needs-said c h.0 recipe linked h.1 bound kind a is)

-- the unit with this number
unit-number : (c : equipment.Cell) (p : Name → Bool) → among_first (length (units_of c)) (position p (resources_of c)) ≡ position p (units_of c)
unit-number c p = go (position p (resources_of c)) refl
  where
    few : length (units_of c) ≡ length c.units.items
    few = length-map c.units.items (λ (u : Unit). u.name)

    go : (o : Option ℕ) → position p (resources_of c) ≡ o → among_first (length (units_of c)) o ≡ position p (units_of c)
    go None e = sym (no_resource_no_unit p c.units.items c.modules.items c.shared.items e)
    go (Some k) e = by (nat_lt k (length (units_of c))) refl
      where
        by : (b : Bool) → nat_lt k (length (units_of c)) ≡ b → ◌≡◌ {A = Option ℕ} (if b then Some k else None) (position p (units_of c))
        by true lt = sym (resource_is_unit p c.units.items c.modules.items c.shared.items k e (omega (arith, few, ltb-true k (length (units_of c)) lt)))
        by false le = sym (resource_is_no_unit p c.units.items c.modules.items c.shared.items k e (omega (arith, few, ltb-false k (length (units_of c)) le)))

-- The asks by name

module _ (c : equipment.Cell) (takers : List (Option ℕ)) (links : List LinkedNeed) (s : Sites) (a : Act) (e : asks_by c takers links ≡ asks_of c (needs_with s a)) where
  pub resources-known : list_all is_found (asks_by c takers links) ≡ list_all (is_of_resource c) (needs_with s a)
  resources-known = ap (list_all is_found) e ∙ (list_all-map is_found (ask_of c) (needs_with s a) ∙ each (needs_with s a))
    where
      each : (needs : List Need) → list_all (λ need. is_found (ask_of c need)) needs ≡ list_all (is_of_resource c) needs
      each [] = refl
      each (need ∷ needs) =
          ap (λ b. b && list_all (λ need. is_found (ask_of c need)) needs) (found_is_among (same_name need.resource) (resources_of c)) ∙ ap (λ b. is_of_resource c need && b) (each needs)

  pub shares-fit : list_all (is_fitting c) (asks_by c takers links) ≡ list_all (is_within_capacity c) (needs_with s a)
  shares-fit = ap (list_all (is_fitting c)) e ∙ list_all-map (is_fitting c) (ask_of c) (needs_with s a)

  pub unit-is : (number : Option ℕ) → unit_by c a.unit (asks_by c takers links) number ≡ unit_under c (unit_with s.bound a.unit) number
  unit-is number = ap (λ asks. unit_by c a.unit asks number) e ∙ go a.unit
    where
      go : (o : Option UnitChoice) → unit_by c o (asks_of c (asked_in_order (unit_with s.bound o) (map (unit_named s) a.reserves.items) a.needs.items)) number ≡ unit_under c (unit_with s.bound o) number
      go None = refl
      go (Some choice) = ap known_unit (unit-number c (same_name (unit_chosen s.bound choice)))

  pub rise-is : (ranks : Option (List ℕ)) (last : Option ℕ) (r : Result (Option ℕ) Rule) → IsRise last (ranks_along ranks (asks_by c takers links)) r
      → MatchResult r (λ next. RisesFrom (ranking_in c ranks) last (needs.resources_needed (needs_with s a)) × (next ≡ last_from (ranking_in c ranks) last (needs.resources_needed (needs_with s a))))
      (λ rule. (rule ≡ RankNotRising) × (RisesFrom (ranking_in c ranks) last (needs.resources_needed (needs_with s a)) → ⊥))
  rise-is None last r h = h
  rise-is (Some ranks) last r h = subst (λ (rs : List ℕ). IsRise last rs r) (ap (ranks_asked ranks) e ∙ named (needs_with s a)) h
    where
      named : (own : List Need) → ranks_asked ranks (asks_of c own) ≡ map (rank_in c ranks) (needs.resources_needed own)
      named [] = refl
      named (need ∷ own) = ap (λ rs. rank_in c ranks need.resource ∷ rs) (named own)
