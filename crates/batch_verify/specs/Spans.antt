-- private: facts on a node that hold whatever units take the roles.
use Rattle.std.specs.Prelude.{◌≡◌, ℕ, ◌<◌, ◌≤◌, List, [], length, true, Option, Some, None, Result, Ok, slice_get, ⊤}
use Rattle.std.specs.List.{list_all, slice_index_or}
use Rattle.batch_cell.specs.LookUps.{capacities_of, is_of_class, resources_of, units_of, units_of_class}
use Rattle.batch_cell.specs.declared.cell.Cell as equipment
use Rattle.batch_cell.specs.declared.unit.Unit as device
use Rattle.batch_recipe.specs.Conditions.{Name}
use Rattle.batch_recipe.specs.Expanding.{Binding}
use Rattle.batch_recipe.specs.declared.act.Act.{Act}
use Rattle.batch_recipe.specs.declared.act.UnitChoice.{UnitChoice}
use Rattle.batch_recipe.specs.declared.act.Work.{Work}
use Rattle.batch_recipe.specs.declared.act.Work.TheVariants.{Follows, Runs}
use Rattle.batch_recipe.specs.declared.role.Role.{Role}
use Rattle.batch_model.specs.Lists.{Has}
use Rattle.batch_model.specs.Setups.{setup_of}
use Rattle.batch_set.specs.declared.linked.LinkedNeed.{LinkedNeed}
use Rattle.batch_set.specs.declared.linked.Source.{Source}
use Rattle.batch_set.specs.declared.linked.Source.TheVariants.{Resource, Role as by_role, Unknown}
use Rattle.batch_verify.specs.Asking.{Ask, among_first, asks_by, is_fitting, is_found, number_by, rank_by, ranks_along, unit_by}
use Rattle.batch_verify.specs.Refusals.{IsTriedFor}
use Rattle.batch_verify.specs.Walking.{Rises, last_rank, offers_on}
use Rattle.batch_verify.specs.declared.rule.Rule.{Rule}
use Rattle.batch_verify.specs.declared.site.Path as path
use Rattle.batch_verify.specs.declared.span.Span.{Span}

-- each role is taken by a unit that is tried for it, also where the tree doesn't name it
abbrev pub GivesUnits : equipment.Cell → List Role → Binding → Type 0
GivesUnits c roles bound = (role : Role) → Has roles role → IsTriedFor (setup_of c []) (units_of_class c role.class) (bound role.name)

-- without ranks each has rank 0
abbrev pub ranks_or_none : Option (List ℕ) → List ℕ
ranks_or_none None = []
ranks_or_none (Some ranks) = ranks

-- a unit of the class, of a rank between these
pub record IsBetween (c : equipment.Cell) (ranks : List ℕ) (class : Name) (low : ℕ) (number high : Option ℕ) : Type 0 where
  pub at : ℕ
  pub is : number ≡ Some at
  pub unit : device.Unit
  pub unit_is : slice_get c.units.items at ≡ Some unit
  pub of_class : is_of_class class unit ≡ true
  pub known : at < length (resources_of c)
  pub as_many : slice_index_or (capacities_of c) low 0 ≡ slice_index_or (capacities_of c) at 0
  pub least : rank_by ranks (Some low) ≤ rank_by ranks (Some at)
  pub greatest : rank_by ranks (Some at) ≤ rank_by ranks high

-- a role without candidates is taken by nobody
abbrev pub IsTakenAt : equipment.Cell → List ℕ → Option Role → Option ℕ → Option ℕ → Option ℕ → Type 0
IsTakenAt c ranks found None number high = number ≡ None
IsTakenAt c ranks None (Some low) number high = ⊥
IsTakenAt c ranks (Some role) (Some low) number high = IsBetween c ranks role.class low number high

-- who takes each role is a candidate, between those of the least and of the greatest rank
abbrev pub AreBetween : equipment.Cell → Option (List ℕ) → List Role → List (Option ℕ) → List (Option ℕ) → List (Option ℕ) → Type 0
AreBetween c ranks roles lowest takers highest =
    (role : ℕ) → IsTakenAt c (ranks_or_none ranks) (slice_get roles role) (slice_index_or lowest role None) (slice_index_or takers role None) (slice_index_or highest role None)

-- the rank, if there is one, is no greater
abbrev pub IsAtMost : Option ℕ → Option ℕ → Type 0
IsAtMost None most = ⊤
IsAtMost (Some rank) None = ⊥
IsAtMost (Some rank) (Some most) = rank ≤ most

-- the asks are of resources that have so many units, and their ranks rise from above the last one to one that is no greater
pub record AreAsked (c : equipment.Cell) (ranks : Option (List ℕ)) (last : Option ℕ) (asks : List Ask) (greatest : Option ℕ) : Type 0 where
  pub found : list_all is_found asks ≡ true
  pub fitting : list_all (is_fitting c) asks ≡ true
  pub rising : Rises last (ranks_along ranks asks)
  pub ends : IsAtMost (last_rank last (ranks_along ranks asks)) greatest

-- the number of the unit that the source gives, or none without a source
abbrev pub IsUnitFrom : equipment.Cell → List (Option ℕ) → Option Source → Option ℕ → Type 0
IsUnitFrom c takers None unit = unit ≡ None
IsUnitFrom c takers (Some source) unit =
    (number : ℕ) × (unit ≡ Some number) × (among_first (length (units_of c)) (among_first (length (resources_of c)) (number_by takers source)) ≡ Some number)

-- the path runs on the unit that the span's source gives, and ends at a rank no greater than the span's
abbrev pub IsWithin : equipment.Cell → List (Option ℕ) → Span → path.Path → Type 0
IsWithin c takers s p = IsUnitFrom c takers s.unit p.unit × IsAtMost p.last s.last

-- nothing is above the first node
abbrev pub no_span : Span
no_span = record { unit = None; last = None }

abbrev pub ok_unit : Option ℕ → Result (Option ℕ) Rule
ok_unit unit = Ok unit

-- whoever takes the roles between these, it is so
abbrev pub InEach : equipment.Cell → Option (List ℕ) → List Role → List (Option ℕ) → List (Option ℕ) → (List (Option ℕ) → Type 0) → Type 0
InEach c ranks roles lowest highest P = (takers : List (Option ℕ)) → AreBetween c ranks roles lowest takers highest → P takers

-- the number and the source of the unit below an act
pub record IsUnitBelow (c : equipment.Cell) (own : Option UnitChoice) (asks : List Ask) (takers : List (Option ℕ)) (above : Option ℕ) (source : Option Source) : Type 0 where
  pub unit : Option ℕ
  pub is : ok_unit unit ≡ unit_by c own asks above
  pub comes : IsUnitFrom c takers source unit

-- the same whoever takes the roles
abbrev pub ComesBelow : equipment.Cell → Option (List ℕ) → List Role → List (Option ℕ) → List (Option ℕ) → Option UnitChoice → List LinkedNeed → Option Source → Option Source → Type 0
ComesBelow c ranks roles lowest highest own links above source =
    InEach c ranks roles lowest highest (λ takers. (unit : Option ℕ) → IsUnitFrom c takers above unit → IsUnitBelow c own (asks_by c takers links) takers unit source)

-- after a rank that is at most the last one the asks are good whoever takes the roles
abbrev pub AreAskedInEach : equipment.Cell → Option (List ℕ) → List Role → List (Option ℕ) → List (Option ℕ) → List LinkedNeed → Option ℕ → Option ℕ → Type 0
AreAskedInEach c ranks roles lowest highest links last greatest =
    InEach c ranks roles lowest highest (λ takers. (before : Option ℕ) → IsAtMost before last → AreAsked c ranks before (asks_by c takers links) greatest)

-- each unit of the class offers the phase
abbrev pub ClassOffers : equipment.Cell → Name → Name → Type 0
ClassOffers c class phase = (number : ℕ) (unit : device.Unit) → slice_get c.units.items number ≡ Some unit → is_of_class class unit ≡ true → offers_on c (Some number) phase ≡ true

-- each unit that the source may give offers the phase
abbrev pub PhaseOffered : equipment.Cell → List Role → Source → Name → Type 0
PhaseOffered c roles (Resource number) phase = offers_on c (Some number) phase ≡ true
PhaseOffered c roles (by_role number) phase = (role : Role) → slice_get roles number ≡ Some role → ClassOffers c role.class phase
PhaseOffered c roles Unknown phase = ⊥

-- the same of the phase that the work runs, if it runs one
abbrev pub SourceOffers : equipment.Cell → List Role → Option Source → Work → Type 0
SourceOffers c roles source (Follows chart) = ⊤
SourceOffers c roles None (Runs phase values reports) = ⊥
SourceOffers c roles (Some source) (Runs phase values reports) = PhaseOffered c roles source phase

-- whoever takes the roles, the act meets the rules on its needs and on its phase, and below it the span `above` becomes `within`
pub record IsPassed (c : equipment.Cell) (ranks : Option (List ℕ)) (roles : List Role) (lowest highest : List (Option ℕ)) (links : List LinkedNeed) (a : Act) (above within : Span) : Type 0 where
  pub comes : ComesBelow c ranks roles lowest highest a.unit links above.unit within.unit
  pub asked : AreAskedInEach c ranks roles lowest highest links above.last within.last
  pub offered : SourceOffers c roles within.unit a.work
