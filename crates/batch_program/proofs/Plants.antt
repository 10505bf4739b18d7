-- The machine of a hub whose batches are complete, and the units that take roles first.
use Rattle.std.proofs.Common.{◌≡◌, ℕ, ◌+◌, ◌<◌, ◌⊎◌, inl, inr, Option, Some, None, IsSomeAnd, Result, Ok, Err, IfOk, List, [], ◌∷◌, ◌++◌, Bor, cond, eqb, option_copied, append_assoc, drop, get_or, length, slice_get, arith, refl, ap, sym, subst, ◌∙◌}
use Rattle.std.{specs.List.All, proofs.lemmas.Bool.Decides.nat_tests, proofs.lemmas.List.drop_more, proofs.lemmas.List.length-map, proofs.lemmas.List.Elements.All-nil, proofs.lemmas.List.Elements.All-cons, proofs.lemmas.List.Elements.All-head, proofs.lemmas.List.Elements.All-tail}
use Rattle.batch_matrix.specs.declared.state.State.TheVariants.{Complete}
use Rattle.batch_model.specs.{Plant.Batch, Plant.batch_at, Plant.opening, Runs.Leads}
use Rattle.batch_cell.specs.{LookUps.units_of_class, declared.cell.Cell.Cell}
use Rattle.batch_recipe.specs.{Conditions.Name, declared.recipe.Recipe.Recipe, declared.role.Role.Role}
use Rattle.batch_cli.specs.declared.plant_options.PlantOptions.{PlantOptions}
use Rattle.batch_plant.specs.{Plants.ComesFromDesks, Plants.IsReport, declared.plant_fault.PlantFault.PlantFault}
use Rattle.batch_program.specs.{PlantWork.IsPlanOf, PlantWork.RunsBy, PlantRuns.HasRun, PlantRuns.IsOfRun, PlantRuns.first_bindings, PlantRuns.with_binding}
use Rattle.batch_verify.specs.ClearedSet.{ClearedSet}
use Rattle.batch_engine.specs.{View.plant_of, View.setup, Surface.event_of, declared.event.Event.Event, declared.event.Event.TheVariants.Create, declared.event.Event.TheVariants.Order, declared.event.Event.TheVariants.Remove, declared.event.Event.TheVariants.Report}
use Rattle.batch_desk.specs.{declared.batch_plan.BatchPlan.BatchPlan, Consoles.IsConsoleEvent, Due.events_of, HubDone.AreComplete, HubState.AreFromPorts, HubState.HubState, HubState.IsHub, HubState.events_in, HubState.outs_in}

complete_in : (o : Option Batch) → elim o [ None ↦ None | Some batch ↦ Some batch.state ] ≡ Some Complete → IsSomeAnd o (λ batch. batch.state ≡ Complete)
complete_in None is = absurd cc
complete_in (Some batch) is = cc

-- The events of console and link

of_console : (cell : Cell) (recipe : Recipe) (plan : BatchPlan) (event : Event) → IsPlanOf cell recipe plan → IsConsoleEvent plan event → IsOfRun cell recipe (event_of event)
of_console cell recipe plan (Create name size roles) is (named, sized, bound) = (named ∙ is.name, sized ∙ is.size, bound ∙ is.roles)
of_console cell recipe plan (Order command batch) is starts = starts
of_console cell recipe plan (Remove batch) is none = none
of_console cell recipe plan (Report told) is none = absurd none

of_link : (cell : Cell) (recipe : Recipe) (event : Event) → IsReport event → IsOfRun cell recipe (event_of event)
of_link cell recipe (Create name size roles) none = absurd none
of_link cell recipe (Order command batch) none = absurd none
of_link cell recipe (Remove batch) none = none
of_link cell recipe (Report told) is = tt

one_of_two : (port : ℕ) → port < 2 → (port ≡ 0) ⊎ (port ≡ 1)
one_of_two port below = grind (arith, nat_tests)

-- the first event is that of one port, and the others come after it
next_made : (cell : Cell) (recipe : Recipe) (plan : BatchPlan) (entry : ℕ × Event) (history : List (ℕ × Event)) → IsPlanOf cell recipe plan → entry.0 < 2
    → All (IsConsoleEvent plan) (events_of 0 (entry ∷ history)) → All IsReport (events_of 1 (entry ∷ history))
    → IsOfRun cell recipe (event_of entry.1) × All (IsConsoleEvent plan) (events_of 0 history) × All IsReport (events_of 1 history)
next_made cell recipe plan entry history is below console link =
    let sent = events_of 0 history in
    let reported = events_of 1 history in
    elim (one_of_two entry.0 below) [
      | inl first ↦
          let events : All (IsConsoleEvent plan) (entry.1 ∷ sent) = subst (λ k. All (IsConsoleEvent plan) (cond (eqb k 0) (entry.1 ∷ sent) sent)) first console in
          let reports : All IsReport reported = subst (λ k. All IsReport (cond (eqb k 1) (entry.1 ∷ reported) reported)) first link in (
            of_console cell recipe plan entry.1 is (All-head (IsConsoleEvent plan) entry.1 sent events),
            All-tail (IsConsoleEvent plan) entry.1 sent events,
            reports,
          )
      | inr second ↦
          let events : All (IsConsoleEvent plan) sent = subst (λ k. All (IsConsoleEvent plan) (cond (eqb k 0) (entry.1 ∷ sent) sent)) second console in
          let reports : All IsReport (entry.1 ∷ reported) = subst (λ k. All IsReport (cond (eqb k 1) (entry.1 ∷ reported) reported)) second link in (
            of_link cell recipe entry.1 (All-head IsReport entry.1 reported reports),
            events,
            All-tail IsReport entry.1 reported reports,
          )
    ]

all_made : (cell : Cell) (recipe : Recipe) (plan : BatchPlan) (history : List (ℕ × Event)) → IsPlanOf cell recipe plan → AreFromPorts 2 history
    → All (IsConsoleEvent plan) (events_of 0 history) → All IsReport (events_of 1 history) → All (IsOfRun cell recipe) (events_in history)
all_made cell recipe plan [] is ports console link = All-nil (IsOfRun cell recipe)
all_made cell recipe plan (entry ∷ history) is ports console link =
    let (here, events, reports) =
    next_made cell recipe plan entry history is (All-head (λ (e : ℕ × Event). e.0 < 2) entry history ports) console link in
    All-cons (IsOfRun cell recipe) (event_of entry.1) (events_in history) here
    (all_made cell recipe plan history is (All-tail (λ (e : ℕ × Event). e.0 < 2) entry history ports) events reports)

first_made : (cell : Cell) (first : Option Recipe) (plan : BatchPlan) (batches : ℕ) (h : HubState) → IsSomeAnd first (λ recipe. IsPlanOf cell recipe plan)
    → ComesFromDesks plan batches h → IsSomeAnd first (λ recipe. All (IsOfRun cell recipe) (events_in h.history))
first_made cell None plan batches h is comes = absurd is
first_made cell (Some recipe) plan batches h is comes = all_made cell recipe plan h.history is comes.ports comes.console.each comes.link

-- the record of a hub is one of the machine
hub_ran : (set : ClearedSet) (batches handled : ℕ) (h : HubState) → IsHub h → h.engine.cleared ≡ set → AreComplete batches h → handled ≡ length h.history
    → IsSomeAnd (slice_get set.recipes 0) (λ recipe. All (IsOfRun set.cell recipe) (events_in h.history)) → HasRun set batches handled
hub_ran set batches handled h is same all count made = record {
  events = events_in h.history;
  outs = outs_in h.engine.cleared h.outs;
  plant = plant_of h.engine;
  leads = subst (λ (c : ClearedSet). Leads (setup c) opening (events_in h.history) (outs_in h.engine.cleared h.outs) (plant_of h.engine)) same is.leads;
  complete = λ n least most. complete_in (batch_at (plant_of h.engine) n) (all n least most);
  count = count ∙ sym (length-map h.history (λ entry. event_of entry.1));
  made = made;
}

pub has_run : (set : ClearedSet) (options : PlantOptions) (end : Result ℕ PlantFault) → IfOk end (RunsBy set options) → IfOk end (HasRun set options.batches)
has_run set options (Ok handled) ran =
    hub_ran set options.batches handled ran.hub ran.account ran.over ran.complete ran.count
    (first_made set.cell (slice_get set.recipes 0) ran.plan options.batches ran.hub ran.first ran.desks)
has_run set options (Err fault) ran = tt

-- Roles

binding_before : (role : Name) (unit : Option Name) (bindings : List (Name × Name)) → with_binding role unit [] ++ bindings ≡ with_binding role unit bindings
binding_before role None bindings = refl
binding_before role (Some unit) bindings = refl

-- the unit that was found takes it, or it is left out
pub is_bound : (role : Name) (found : Option Name) (taken : Option (Bor Name)) (unit : Bor Name) (name copy : Name) → option_copied taken ≡ found → taken ≡ Some unit
    → name ≡ role → copy ≡ unit.now → (name, copy) ∷ [] ≡ with_binding role found []
is_bound role found taken unit name copy from is named copied = rw (← from, is, named, copied) refl

pub is_left_out : (role : Name) (found : Option Name) (taken : Option (Bor Name)) → option_copied taken ≡ found → taken ≡ None → [] ≡ with_binding role found []
is_left_out role found taken from is = rw (← from, is) refl

-- one role more is bound, or left out
pub next_binding : (cell : Cell) (roles : List Role) (i : ℕ) (role : Role) (old new more all : List (Name × Name)) → i < length roles → role ≡ get_or roles i role
    → new ≡ old ++ more → more ≡ with_binding role.name (slice_get (units_of_class cell role.class) 0) []
    → old ++ first_bindings cell (drop i roles) ≡ all → new ++ first_bindings cell (drop (i + 1) roles) ≡ all
next_binding cell roles i role old new more all below is grown bound was =
    let rest = first_bindings cell (drop (i + 1) roles) in
    let unit = slice_get (units_of_class cell role.class) 0 in
    ap (λ bs. bs ++ rest) grown ∙ append_assoc old more rest
    ∙ ap (λ bs. old ++ (bs ++ rest)) bound
    ∙ ap (λ bs. old ++ bs) (binding_before role.name unit rest)
    ∙ ap (λ (r : Role). old ++ first_bindings cell (r ∷ drop (i + 1) roles)) is
    ∙ sym (ap (λ rs. old ++ first_bindings cell rs) (drop_more roles i role below)) ∙ was
