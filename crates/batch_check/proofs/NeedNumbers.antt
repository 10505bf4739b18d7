-- The numbers of linked needs stand for the resources that acts ask for.
use Rattle.std.proofs.Common.{◌≡◌, ℕ, ◌+◌, ◌-◌, ◌<◌, inl, inr, List, [], ◌∷◌, map, length, get_or, slice_get, Vec, Option, Some, None, option_map, option_and_then, refl, sym, ap, ◌∙◌, subst, arith}
use Rattle.std.{specs.Global.Global, specs.Prelude.unwrap_or, proofs.lemmas.List.get_or-map, proofs.lemmas.List.Elements.Contains-append_cases, proofs.lemmas.Option.get_or_from_slice_get, proofs.lemmas.Option.none-some, proofs.lemmas.Option.same_Some, proofs.lemmas.Option.slice_get-map, proofs.lemmas.Option.slice_get_within}
use Rattle.batch_cell.specs.LookUps.{resources_of as cell_resources}
use Rattle.batch_recipe.specs.{Conditions.Name, Expanding.needs_with, Links.asked_at, Needs.resources_needed, Outlines.act_of_kind, declared.act.Act.Act, declared.acts.LabelTable.TheVariants.UnitProcedures, declared.acts.LabelTable.TheVariants.Operations, declared.acts.LabelTable.TheVariants.Phases, declared.entry.Kind.Kind, declared.need.Need.Need}
use Rattle.batch_recipe.specs.declared.entry.Kind.TheVariants as kind
use Rattle.batch_recipe.specs.declared.role.Role as declared
use Rattle.batch_set.{specs.Linking.IsLinkedIn, specs.Linking.needs_linked, specs.Linking.table_items, specs.Looked.needs_by, specs.Looked.row_at, specs.Sources.IsSource, specs.Sources.SayNeeds, specs.declared.linked.LinkedNeed.LinkedNeed, specs.declared.linked.LinkedRecipe.LinkedRecipe, specs.declared.linked.Source.Source, specs.declared.linked.Source.TheVariants.Resource, specs.declared.linked.Source.TheVariants.Role, specs.declared.linked.Source.TheVariants.Unknown, proofs.Sources.needs-said, proofs.ResourceNumbers.number-at}
use Rattle.batch_check.{specs.declared.site.Site.Site, specs.Edges.number_of_resource, specs.Edges.numbers_of_resources, specs.Joining.AreBelow, specs.Sites.StandFor, specs.Sites.bound_on, specs.Sites.count_with_roles, specs.Sites.needs_at, specs.Sites.number_of, specs.Sites.numbers_at, specs.Sites.numbers_of, specs.Sites.resource_count, specs.Sites.resource_on, specs.Sites.resources_on, specs.Sites.sites_on, specs.Sites.units_on, specs.Takings.Taking, specs.Takings.alike, proofs.EdgesFromNeeds.Contains-none, proofs.EdgesFromNeeds.Contains-one, proofs.Roles.resource_for-below, proofs.Roles.resource_for-past}

module _ (site : Site) (t : Taking) where
  abbrev IsSourceOf : Source → Name → Type 0
  IsSourceOf source name = IsSource site.cell.now site.recipe.now.roles.items (bound_on site t) source name

  source_stands : (source : Source) (name : Name) → IsSourceOf source name → option_and_then (resource_on site t) (number_of site source) ≡ number_of_resource site.cell.now name
  source_stands (Resource n) name h =
      resource_for-below (resource_count site) (units_on site t) n (slice_get_within (cell_resources site.cell.now) n name h) ∙ sym (number-at site.cell.now n name h)
  source_stands (Role n) name h =
      let count = resource_count site in
      let units = units_on site t in
      let taker : declared.Role → Name = λ role. bound_on site t role.name in
      let place : (count + n) - count ≡ n = omega arith in
      resource_for-past count units (count + n) (omega arith)
      ∙ (ap (λ i. get_or units i None) place
      ∙ (get_or_from_slice_get units n (number_of_resource site.cell.now (taker h.0)) None
      (slice_get-map (number_of_resource site.cell.now) (map taker site.recipe.now.roles.items) n
      ∙ ap (option_map (number_of_resource site.cell.now)) (slice_get-map taker site.recipe.now.roles.items n ∙ ap (option_map taker) h.1))
      ∙ ap (number_of_resource site.cell.now) h.2))
  source_stands Unknown name h = sym h

  source_below : (source : Source) (name : Name) → IsSourceOf source name → (k : ℕ) → number_of site source ≡ Some k → k < count_with_roles site
  source_below (Resource n) name h k is = omega (arith, same_Some n k is, slice_get_within (cell_resources site.cell.now) n name h)
  source_below (Role n) name h k is = omega (arith, same_Some (resource_count site + n) k is, slice_get_within site.recipe.now.roles.items n h.0 h.1)
  source_below Unknown name h k is = absurd (none-some k is)

  abbrev SayNeedsOf : List LinkedNeed → List Need → Type 0
  SayNeedsOf links needs = SayNeeds site.cell.now site.recipe.now.roles.items (bound_on site t) links needs

  needs_stand : (links : List LinkedNeed) (needs : List Need) → SayNeedsOf links needs → resources_on site t (numbers_of site links) ≡ numbers_of_resources site.cell.now (resources_needed needs)
  needs_stand [] [] h = refl
  needs_stand [] (need ∷ needs) h = absurd h
  needs_stand (link ∷ links) [] h = absurd h
  needs_stand (link ∷ links) (need ∷ needs) h =
      ap (λ (o : Option ℕ). o ∷ resources_on site t (numbers_of site links)) (source_stands link.source need.resource h.0)
      ∙ ap (λ (ns : List (Option ℕ)). number_of_resource site.cell.now need.resource ∷ ns) (needs_stand links needs h.2)

  needs_below : (links : List LinkedNeed) (needs : List Need) → SayNeedsOf links needs → AreBelow (count_with_roles site) (numbers_of site links)
  needs_below [] needs h k among = absurd (Contains-none (Some k) among)
  needs_below (link ∷ links) [] h k among = absurd h
  needs_below (link ∷ links) (need ∷ needs) h k among = elim (Contains-append_cases (number_of site link.source ∷ []) (numbers_of site links) (Some k) among) [
    | inl first ↦ source_below link.source need.resource h.0 k (Contains-one (number_of site link.source) (Some k) first)
    | inr later ↦ needs_below links needs h.2 k later
  ]

abbrev pub no_need : LinkedNeed
no_need = record { source = Resource 0; units = 0 }

-- the number of the need at a place
pub number_there : (site : Site) (links : List LinkedNeed) (k : ℕ) → k < length links → number_of site (get_or links k no_need).source ≡ get_or (numbers_of site links) k None
number_there site links k within = sym (get_or-map (λ (link : LinkedNeed). number_of site link.source) links k no_need None within)

-- no row where there is no act
no_row : (f : Act → List LinkedNeed) (table : List (Vec LinkedNeed Global)) (acts : List Act) → table_items table ≡ map f acts → (n : ℕ) → slice_get acts n ≡ None → row_at table n ≡ []
no_row f table acts h n none =
    ap (λ (o : Option (List LinkedNeed)). unwrap_or o [])
    (sym (slice_get-map (λ (r : Vec LinkedNeed Global). r.items) table n) ∙ (ap (λ (rows : List (List LinkedNeed)). slice_get rows n) h ∙ (slice_get-map f acts n ∙ ap (option_map f) none)))

module _ (site : Site) (linked : LinkedRecipe) (h : IsLinkedIn site.cell.now site.recipe.now linked) where
  no_needs : (k : Kind) → act_of_kind site.recipe.now.acts k ≡ None → needs_by linked k ≡ []
  no_needs kind.Procedure is = absurd cc
  no_needs (kind.Act UnitProcedures n) is = no_row (needs_linked site.cell.now site.recipe.now) linked.unit_procedures.items site.recipe.now.acts.unit_procedures.items h.1.unit_procedures n is
  no_needs (kind.Act Operations n) is = no_row (needs_linked site.cell.now site.recipe.now) linked.operations.items site.recipe.now.acts.operations.items h.1.operations n is
  no_needs (kind.Act Phases n) is = no_row (needs_linked site.cell.now site.recipe.now) linked.phases.items site.recipe.now.acts.phases.items h.1.phases n is
  no_needs _ is = refl

  pub numbers_stand : (k : Kind) → StandFor site (needs_at site k) (numbers_at site linked k)
  numbers_stand k = go (act_of_kind site.recipe.now.acts k) refl
    where
      asked_of : Option Act → Taking → List (Option ℕ)
      asked_of o t = numbers_of_resources site.cell.now (resources_needed (asked_at (sites_on site t) o))

      said : (t : Taking) (a : Act) → act_of_kind site.recipe.now.acts k ≡ Some a → SayNeedsOf site t (needs_by linked k) (needs_with (sites_on site t) a)
      said t a is = needs-said site.cell.now h.0 site.recipe.now linked h.1 (bound_on site t) k a is

      go : (o : Option Act) → act_of_kind site.recipe.now.acts k ≡ o → StandFor site (needs_at site k) (numbers_at site linked k)
      go (Some a) is = record {
        below = needs_below site (alike 0) (needs_by linked k) (needs_with (sites_on site (alike 0)) a) (said (alike 0) a is);
        taken = λ t. needs_stand site t (needs_by linked k) (needs_with (sites_on site t) a) (said t a is) ∙ ap (λ (o : Option Act). asked_of o t) (sym is);
      }
      go None is =
          subst (λ (links : List LinkedNeed). StandFor site (needs_at site k) (numbers_of site links)) (sym (no_needs k is))
          (record { below = λ n among. absurd (Contains-none (Some n) among); taken = λ t. ap (λ (o : Option Act). asked_of o t) (sym is) })
