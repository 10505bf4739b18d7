-- The checks of an act.
use Rattle.std.proofs.Common.{◌≡◌, ℕ, ◌≤◌, arith, nat_le, Bool, true, false, not, ◌&&◌, IsTrue, Option, Some, None, Result, Ok, Err, List, [], ◌∷◌, map, get_or, position, sym, ◌∙◌, refl, subst}
use Rattle.std.{specs.List.list_all, specs.Cmp.Lexicographic.bytes_decides, proofs.lemmas.List.Quantifiers.position-Some, proofs.lemmas.Bool.and_parts}
use Rattle.batch_cell.specs.{Equipment.unit_phases, LookUps.units_of}
use Rattle.batch_cell.specs.declared.cell.Cell as equipment
use Rattle.batch_recipe.specs.{Conditions.Name, Conditions.same_name, Tree.Place, Tree.Tree, Tree.act, Tree.Step, Tree.Task, Expanding.Binding, Expanding.Sites, Expanding.act_tree_with, Expanding.asked_in_order, Expanding.needs_with, Expanding.step_of, Expanding.task_of, Expanding.unit_below, Expanding.unit_named, Expanding.unit_with, WellFormed.is_among, declared.act.Act.Act, declared.act.UnitChoice.UnitChoice, declared.act.Work.Work, declared.act.Work.TheVariants.Follows, declared.act.Work.TheVariants.Runs, declared.need.Need.Need}
use Rattle.batch_recipe.specs.Needs as needs
use Rattle.batch_recipe.specs.declared.recipe.Recipe as document
use Rattle.batch_model.{specs.Lists.Each, specs.Plant.Setup, specs.Cleared.Ranking, specs.Cleared.Level, specs.Cleared.is_procedure, specs.Cleared.in_procedure, specs.Cleared.in_unit_procedure, specs.Cleared.in_operation, specs.Cleared.below, specs.Cleared.Part, specs.Cleared.part, specs.Cleared.NeedsResources, specs.Cleared.NeedsWithinCapacity, specs.Cleared.HasUnit, specs.Cleared.IsOffered, specs.Cleared.IsApart, specs.Cleared.TurnsRun, specs.Cleared.ReservesFollow, specs.Setups.capacity_of, specs.Setups.setup_of, proofs.Members.Each-map}
use Rattle.batch_set.specs.declared.linked.LinkedNeed.{LinkedNeed}
use Rattle.batch_verify.{specs.Asking.asks_by, specs.Asking.asks_of, specs.Asking.is_fitting, specs.Asking.is_found, specs.Asking.unit_by, specs.Charts.IsFaultOf, specs.Refusals.Breaks, specs.Refusals.IsKnown, specs.Refusals.IsWithin, specs.Refusals.MeetsRules, specs.Refusals.RisesBy, specs.Walking.is_of_resource, specs.Walking.is_within_capacity, specs.Walking.IsEnteredAs, specs.Walking.IsOnUnit, specs.Walking.IsUnitNumber, specs.Walking.RisesFrom, specs.Walking.RisesTo, specs.Walking.is_of_level, specs.Walking.known_unit, specs.Walking.last_from, specs.Walking.offers_on, specs.Walking.offers_work, specs.Walking.unit_under, specs.declared.rule.Rule.Rule, specs.declared.rule.Rule.TheVariants.UnknownResource, specs.declared.rule.Rule.TheVariants.ShareAboveCapacity, specs.declared.rule.Rule.TheVariants.PhaseNotOffered, specs.declared.rule.Rule.TheVariants.SamePhaseInParallel, specs.declared.rule.Rule.TheVariants.LoopWithoutPhase, specs.declared.rule.Rule.TheVariants.ReserveDoesNotFollow, specs.declared.rule.Rule.TheVariants.RankNotRising, proofs.AsksByName.resources-known, proofs.AsksByName.shares-fit, proofs.AsksByName.unit-is, proofs.ListLookups.found_is_among, proofs.Ranks.path_rises, proofs.Ranks.needs_rise, proofs.Ranks.path_below}
use Rattle.batch_verify.specs.declared.site.Path as path

-- A node meets the rules where it meets each of them.
pub meets : (setup : Setup) (ranking : Option Ranking) (procedure : Tree) (x : Part) → NeedsResources setup.resources x.node.here → HasUnit setup.units x.level x.node.here
    → NeedsWithinCapacity setup x.node.here → IsOffered setup x.node.here
    → IsApart x.level x.node.here → TurnsRun x.node.here → ReservesFollow procedure x.node → RisesBy ranking x.node.asked → MeetsRules setup ranking procedure x
meets setup None procedure x known on_unit within offered apart turning follow rising = record {
  known = known;
  on_unit = on_unit;
  within = within;
  offered = offered;
  apart = apart;
  turning = turning;
  follow = follow;
}
meets setup (Some rank) procedure x known on_unit within offered apart turning follow rising = (
  record {
    known = known;
    on_unit = on_unit;
    within = within;
    offered = offered;
    apart = apart;
    turning = turning;
    rising = rising;
  },
  follow,
)

-- A node that meets the rules on its needs and its phase breaks the rule of its fault, if it has one whatever units take the roles.
pub fault_breaks : (setup : Setup) (ranking : Option Ranking) (procedure : Tree) (x : Part) → IsWithin setup x → IsOffered setup x.node.here
    → (rule : Rule) → IsFaultOf procedure x (Some rule) → Breaks setup ranking procedure x rule
fault_breaks setup ranking procedure x within offered SamePhaseInParallel h = (within, offered, h.0)
fault_breaks setup ranking procedure x within offered LoopWithoutPhase h = (within, offered, h.0.0, h.0.1)
fault_breaks setup ranking procedure x within offered ReserveDoesNotFollow h = (within, offered, h.0.0, h.0.1, h.1)
fault_breaks setup ranking procedure x within offered UnknownResource h = absurd h.0
fault_breaks setup ranking procedure x within offered ShareAboveCapacity h = absurd h.0
fault_breaks setup ranking procedure x within offered PhaseNotOffered h = absurd h.0
fault_breaks setup ranking procedure x within offered RankNotRising h = absurd h.0

each_is : {X : Type 0} (p : X → Bool) (xs : List X) → list_all p xs ≡ true → Each (λ x. IsTrue (p x)) xs
each_is p [] h = tt
each_is p (x ∷ xs) h = let both = and_parts (p x) (list_all p xs) h in (both.0, each_is p xs both.1)

all_are : {X : Type 0} (p : X → Bool) (xs : List X) → Each (λ x. IsTrue (p x)) xs → list_all p xs ≡ true
all_are p [] h = refl
all_are p (x ∷ xs) h = rw h.0 (all_are p xs h.1)

-- an act of its level, by its unit and its work
abbrev has : Option Name → Bool
has own = elim own [ None ↦ false | Some unit ↦ true ]

abbrev follows : Work → Bool
follows work = elim work [ Follows c ↦ true | Runs phase values reports ↦ false ]

abbrev is_kind : Level → Option Name → Work → Bool
is_kind is_procedure own work = not (has own) && follows work
is_kind in_procedure own work = has own && follows work
is_kind in_unit_procedure own work = not (has own) && follows work
is_kind in_operation own work = not (has own) && not (follows work)

has_choice : (bound : Binding) (o : Option UnitChoice) → elim o [ None ↦ false | Some unit ↦ true ] ≡ has (unit_with bound o)
has_choice bound o = grind arith

kind_is : (bound : Binding) (l : Level) (a : Act) → is_of_level l a ≡ true → is_kind l (unit_with bound a.unit) a.work ≡ true
kind_is bound l a h = grind (arith, has_choice)

abbrev as_known : Option ℕ → Result (Option ℕ) Rule
as_known number = Ok number

unit_found : (o : Option ℕ) (n : Option ℕ) → known_unit o ≡ Ok n → (k : ℕ) × (o ≡ Some k) × (n ≡ Some k)
unit_found o n h = grind arith

unit_missed : (o : Option ℕ) (rule : Rule) → known_unit o ≡ Err rule → (o ≡ None) × (rule ≡ UnknownResource)
unit_missed o rule h = grind arith

-- the resources that an act asks for
abbrev asked_resources : Sites → Act → List Name
asked_resources s a = needs.resources_needed (needs_with s a)

module _ (c : equipment.Cell) where
  among_units : (unit : Name) (k : ℕ) → position (same_name unit) (units_of c) ≡ Some k → is_among (units_of c) unit ≡ true
  among_units unit k h = sym (found_is_among (same_name unit) (units_of c)) ∙ rw h refl

  not_among_units : (unit : Name) → position (same_name unit) (units_of c) ≡ None → is_among (units_of c) unit ≡ false
  not_among_units unit h = sym (found_is_among (same_name unit) (units_of c)) ∙ rw h refl

  -- the unit with this number has the name
  numbered_unit : (unit : Name) (k : ℕ) → position (same_name unit) (units_of c) ≡ Some k → get_or (units_of c) k [] ≡ unit
  numbered_unit unit k h = sym ((bytes_decides unit (get_or (units_of c) k [])).0 (position-Some (same_name unit) (units_of c) k [] h).1)

  number_is : (unit : Name) (n : Option ℕ) (k : ℕ) → position (same_name unit) (units_of c) ≡ Some k → n ≡ Some k → IsUnitNumber c unit n
  number_is unit n k at is = subst (λ o. IsUnitNumber c unit o) (sym is) at

  same_number : (unit : Name) (number n : Option ℕ) → as_known number ≡ Ok n → IsUnitNumber c unit number → IsUnitNumber c unit n
  same_number unit number n is on = let e : number ≡ n = cc in subst (λ o. IsUnitNumber c unit o) e on

  -- the unit on which the act's chart runs
  unit_on : (l : Level) (own : Option Name) (work : Work) (number n : Option ℕ) (unit : Name) → is_kind l own work ≡ true → IsOnUnit c l unit number → unit_under c own number ≡ Ok n
      → IsOnUnit c (below l) (unit_below unit own) n
  unit_on is_procedure own work number n unit kind on is = tt
  unit_on in_procedure None work number n unit kind on is = let bad : false ≡ true = kind in cc
  unit_on in_procedure (Some u) work number n unit kind on is = let f = unit_found (position (same_name u) (units_of c)) n is in number_is u n f.0 f.1 f.2
  unit_on in_unit_procedure None work number n unit kind on is = same_number unit number n is on
  unit_on in_unit_procedure (Some u) work number n unit kind on is = let bad : false ≡ true = kind in cc
  unit_on in_operation None work number n unit kind on is = same_number unit number n is on
  unit_on in_operation (Some u) work number n unit kind on is = let bad : false ≡ true = kind in cc

  abbrev Fits : Need → Type 0
  Fits need = need.units ≤ capacity_of c need.resource

  fits_is : (need : Need) → IsTrue (is_within_capacity c need) → Fits need
  fits_is need h = let e : nat_le need.units (capacity_of c need.resource) ≡ true = h in grind arith

  fits_so : (need : Need) → Fits need → IsTrue (is_within_capacity c need)
  fits_so need h = let e : nat_le need.units (capacity_of c need.resource) ≡ true = grind arith in e

  has_its_unit : (l : Level) (own : Option Name) (reserved : List Name) (work : Work) (step : Step) (w : Task) (number n : Option ℕ) → is_kind l own work ≡ true → unit_under c own number ≡ Ok n
      → (ns : List Need) → step.needs ≡ asked_in_order own reserved ns → HasUnit (units_of c) l (act step w)
  has_its_unit is_procedure own reserved work step w number n kind is ns needs_are = tt
  has_its_unit in_procedure None reserved work step w number n kind is ns needs_are = let bad : false ≡ true = kind in cc
  has_its_unit in_procedure (Some u) reserved work step w number n kind is ns needs_are =
      let f = unit_found (position (same_name u) (units_of c)) n is in
      subst (λ asked. HasUnit (units_of c) in_procedure (act (record { place = step.place; needs = asked; reserves = step.reserves }) w)) (sym needs_are) (among_units u f.0 f.1)
  has_its_unit in_unit_procedure own reserved work step w number n kind is ns needs_are = tt
  has_its_unit in_operation own reserved work step w number n kind is ns needs_are = tt

  has_no_unit : (l : Level) (own : Option Name) (reserved : List Name) (work : Work) (step : Step) (w : Task) (number : Option ℕ) (rule : Rule) → is_kind l own work ≡ true → unit_under c own number ≡ Err rule
      → (ns : List Need) → step.needs ≡ asked_in_order own reserved ns → (rule ≡ UnknownResource) × (HasUnit (units_of c) l (act step w) → ⊥)
  has_no_unit l own reserved work step w number rule kind is ns needs_are = grind (arith, unit_missed, not_among_units)

  act_apart : (l : Level) (s : Step) (w : Task) → IsApart l (act s w)
  act_apart is_procedure s w = tt
  act_apart in_procedure s w = tt
  act_apart in_unit_procedure s w = tt
  act_apart in_operation s w = tt

  -- the phases of a unit, by its number
  offers_named : (unit : Name) (n : Option ℕ) (phase : Name) → IsUnitNumber c unit n → offers_on c n phase ≡ is_among (unit_phases c.modules.items unit) phase
  offers_named unit n phase on = grind (arith, numbered_unit)

  module _ (recipes : List document.Recipe) (f : Name → Place → Tree) (name : Name) (place : Place) (s : Step) where
    offered : (l : Level) (own : Option Name) (work : Work) (n : Option ℕ) (unit : Name) → is_kind l own work ≡ true → IsOnUnit c (below l) unit n → offers_work c n work ≡ true
        → IsOffered (setup_of c recipes) (act s (task_of f unit name place work))
    offered l own (Follows chart) n unit kind on h = tt
    offered is_procedure own (Runs phase values reports) n unit kind on h = no_runs (not (has own)) kind
      where
        no_runs : (b : Bool) → (b && false) ≡ true → IsTrue (is_among (unit_phases c.modules.items unit) phase)
        no_runs true h = let bad : false ≡ true = h in cc
        no_runs false h = let bad : false ≡ true = h in cc
    offered in_procedure own (Runs phase values reports) n unit kind on h = sym (offers_named unit n phase on) ∙ h
    offered in_unit_procedure own (Runs phase values reports) n unit kind on h = sym (offers_named unit n phase on) ∙ h
    offered in_operation own (Runs phase values reports) n unit kind on h = sym (offers_named unit n phase on) ∙ h

    not_offered : (l : Level) (own : Option Name) (work : Work) (n : Option ℕ) (unit : Name) → is_kind l own work ≡ true → IsOnUnit c (below l) unit n → offers_work c n work ≡ false
        → IsOffered (setup_of c recipes) (act s (task_of f unit name place work)) → ⊥
    not_offered l own work n unit kind on h o = grind (arith, offers_named)

  module _ (s : Sites) (ranking : Option Ranking) (l : Level) (p : path.Path) (a : Act) (procedure : Tree) (acts : Name → Name → Place → Tree) (recipes : List document.Recipe) (unit : Name) (place : Place) (above : List Name)
      (of_level : is_of_level l a ≡ true) (on : IsOnUnit c l unit p.unit) (so_far : RisesTo ranking above p.last)
      (takers : List (Option ℕ)) (links : List LinkedNeed) (e : asks_by c takers links ≡ asks_of c (needs_with s a)) where
    abbrev own_choice : Option Name
    own_choice = unit_with s.bound a.unit

    kind : is_kind l own_choice a.work ≡ true
    kind = kind_is s.bound l a of_level

    abbrev own_step : Step
    own_step = step_of s a place

    abbrev reserved : List Name
    reserved = map (unit_named s) a.reserves.items

    abbrev asked : List Need
    asked = needs_with s a

    abbrev own_unit : Name
    own_unit = unit_below unit own_choice

    abbrev own_task : Task
    own_task = task_of (acts own_unit) own_unit a.name place a.work

    abbrev here : Part
    here = part l place above (act_tree_with s acts unit a place)

    abbrev own_number : Result (Option ℕ) Rule
    own_number = unit_by c a.unit (asks_by c takers links) p.unit

    abbrev all_found : Bool
    all_found = list_all is_found (asks_by c takers links)

    abbrev all_fit : Bool
    all_fit = list_all (is_fitting c) (asks_by c takers links)

    unit_is : (r : Result (Option ℕ) Rule) → r ≡ own_number → unit_under c own_choice p.unit ≡ r
    unit_is r is = sym (is ∙ unit-is c takers links s a e p.unit)

    known_is : (r b : Bool) → r ≡ all_found → r ≡ b → list_all (is_of_resource c) asked ≡ b
    known_is r b is so = sym (resources-known c takers links s a e) ∙ (sym is ∙ so)

    within_is : (r b : Bool) → r ≡ all_fit → r ≡ b → list_all (is_within_capacity c) asked ≡ b
    within_is r b is so = sym (shares-fit c takers links s a e) ∙ (sym is ∙ so)

    has_own : (n : Option ℕ) → Ok n ≡ own_number → HasUnit (units_of c) l here.node.here
    has_own n is = has_its_unit l own_choice reserved a.work own_step own_task p.unit n kind (unit_is (Ok n) is) a.needs.items refl

    pub no_unit : (rule : Rule) → Err rule ≡ own_number → Breaks (setup_of c recipes) ranking procedure here rule
    no_unit rule is =
        let h = has_no_unit l own_choice reserved a.work own_step own_task p.unit rule kind (unit_is (Err rule) is) a.needs.items refl in
        subst (λ r. Breaks (setup_of c recipes) ranking procedure here r) (sym h.0) (λ known. h.1 known.1)

    pub no_resource : (r : Bool) → r ≡ all_found → r ≡ false → Breaks (setup_of c recipes) ranking procedure here UnknownResource
    no_resource r is none = λ known. let bad : false ≡ true = sym (known_is r false is none) ∙ all_are (is_of_resource c) asked known.0 in cc

    module _ (n : Option ℕ) (unit_at : Ok n ≡ own_number) (found : Bool) (found_is : found ≡ all_found) (all : found ≡ true) where
      known : IsKnown (setup_of c recipes) here
      known = (each_is (is_of_resource c) asked (known_is found true found_is all), has_own n unit_at)

      pub no_share : (r : Bool) → r ≡ all_fit → r ≡ false → Breaks (setup_of c recipes) ranking procedure here ShareAboveCapacity
      no_share r is none = (
        known,
        (λ each. let bad : false ≡ true = sym (within_is r false is none) ∙ all_are (is_within_capacity c) asked (Each-map Fits (λ x. IsTrue (is_within_capacity c x)) fits_so asked each) in cc),
      )

      module _ (r : Bool) (r_is : r ≡ all_fit) (fit : r ≡ true) where
        within : NeedsWithinCapacity (setup_of c recipes) here.node.here
        within = Each-map (λ x. IsTrue (is_within_capacity c x)) Fits fits_is asked (each_is (is_within_capacity c) asked (within_is r true r_is fit))

        pub on_own_unit : IsOnUnit c (below l) own_unit n
        on_own_unit = unit_on l own_choice a.work p.unit n unit kind on (unit_is (Ok n) unit_at)

        pub no_phase : offers_work c n a.work ≡ false → Breaks (setup_of c recipes) ranking procedure here PhaseNotOffered
        no_phase h = ((known, within), not_offered recipes (acts own_unit) a.name place own_step l own_choice a.work n own_unit kind on_own_unit h)

        module _ (o : offers_work c n a.work ≡ true) where
          is_offered : IsOffered (setup_of c recipes) (act own_step own_task)
          is_offered = offered recipes (acts own_unit) a.name place own_step l own_choice a.work n own_unit kind on_own_unit o

          pub broken_fault : (fault : Option Rule) → IsFaultOf procedure here fault → (rule : Rule) → fault ≡ Some rule → Breaks (setup_of c recipes) ranking procedure here rule
          broken_fault fault h rule is = fault_breaks (setup_of c recipes) ranking procedure here (known, within) is_offered rule (subst (IsFaultOf procedure here) is h)

          follow : (fault : Option Rule) → IsFaultOf procedure here fault → fault ≡ None → ReservesFollow procedure here.node
          follow fault h none = (subst (IsFaultOf procedure here) none h).1

          pub no_rise : (fault : Option Rule) → IsFaultOf procedure here fault → fault ≡ None → (rule : Rule) → (rule ≡ RankNotRising) × (RisesFrom ranking p.last (asked_resources s a) → ⊥)
              → Breaks (setup_of c recipes) ranking procedure here rule
          no_rise fault whole none rule h =
              subst (λ r. Breaks (setup_of c recipes) ranking procedure here r) (sym h.0) (
                record {
                  known = known.0;
                  on_unit = known.1;
                  within = within;
                  offered = is_offered;
                  apart = act_apart l own_step own_task;
                  turning = tt;
                  follow = follow fault whole none;
                },
                (λ rises. h.1 (needs_rise ranking above (asked_resources s a) p.last so_far rises)),
              )

          pub entered : (fault : Option Rule) → IsFaultOf procedure here fault → fault ≡ None → (next : Option ℕ) → RisesFrom ranking p.last (asked_resources s a) × (next ≡ last_from ranking p.last (asked_resources s a))
              → IsEnteredAs c s (setup_of c recipes) ranking procedure l unit above a here (Ok (record { unit = n; last = next }))
          entered fault whole none next h = (
            meets (setup_of c recipes) ranking procedure here known.0 known.1 within is_offered (act_apart l own_step own_task) tt (follow fault whole none) (path_rises ranking above (asked_resources s a) p.last so_far h.0),
            on_own_unit,
            path_below ranking above (asked_resources s a) p.last next so_far h.0 h.1,
          )
