-- Each node meets a rule in all bindings if it does in bindings that are enough, rule by rule.
use Rattle.std.proofs.Common.{◌≡◌, ◌≢◌, ℕ, ◌<◌, ◌≤◌, Bool, true, false, IsTrue, List, [], ◌∷◌, ◌++◌, map, length, Option, Some, None, slice_get, get_or, refl, sym, ap, ◌∙◌, subst, arith}
use Rattle.std.{specs.Cmp.Lexicographic.bytes_decides, proofs.lemmas.Bool.false≢true, proofs.lemmas.List.length-map, proofs.lemmas.Option.slice_get-get_or, proofs.lemmas.Option.slice_get_within}
use Rattle.batch_cell.specs.LookUps.{units_of, resources_of}
use Rattle.batch_cell.specs.declared.cell.Cell as equipment
use Rattle.batch_recipe.{specs.Conditions.Name, specs.Conditions.same_name, specs.Expanding.Binding, specs.Expanding.step_of, specs.Expanding.task_of, specs.Expanding.unit_below, specs.Expanding.unit_chosen, specs.Expanding.unit_with, specs.Nodes.needs_of, specs.Outlines.act_of_kind, specs.Procedure.bound_tree, specs.Procedure.sites, specs.Tree.Place, specs.Tree.Step, specs.Tree.Tree, specs.Tree.act, specs.Tree.skip, specs.Tree.seq, specs.Tree.par, specs.Tree.sel, specs.Tree.loop, specs.WellFormed.are_roles, specs.WellFormed.is_among, specs.declared.act.Act.Act, specs.declared.act.UnitChoice.UnitChoice, specs.declared.act.UnitChoice.TheVariants.Unit as by_name, specs.declared.act.UnitChoice.TheVariants.Role as by_role, specs.declared.act.Work.Work, specs.declared.act.Work.TheVariants.Follows, specs.declared.act.Work.TheVariants.Runs, specs.declared.entry.Entry.Entry, specs.declared.need.Need.Need, specs.declared.recipe.Recipe.Recipe, proofs.OutlineLinks.as_many_entries}
use Rattle.batch_recipe.specs.declared.entry.Kind.TheVariants as kind
use Rattle.batch_model.{specs.Lists.Each, specs.Plant.Setup, specs.Cleared.Ranking, specs.Cleared.Level, specs.Cleared.is_procedure, specs.Cleared.in_procedure, specs.Cleared.in_unit_procedure, specs.Cleared.in_operation, specs.Cleared.Part, specs.Cleared.BeginsWithUnit, specs.Cleared.HasUnit, specs.Cleared.IsApart, specs.Cleared.IsOffered, specs.Cleared.ReservesFollow, specs.Cleared.RiseStrictly, specs.Cleared.TurnsRun, specs.Setups.master_of, specs.Setups.setup_of, proofs.TreeParts.parts-nodes}
use Rattle.batch_verify.{specs.Bindings.binding_count, specs.Bindings.numbered_binding, specs.Covering.AreEnough, specs.Covering.IsMetInEach, specs.Covering.Meets, specs.Covering.bound_parts_of, specs.Refusals.IsTried, specs.Refusals.RisesBy, specs.Ways.bound_parts, specs.declared.rule.Rule.Rule, specs.declared.rule.Rule.TheVariants.UnknownResource, specs.declared.rule.Rule.TheVariants.ShareAboveCapacity, specs.declared.rule.Rule.TheVariants.PhaseNotOffered, specs.declared.rule.Rule.TheVariants.SamePhaseInParallel, specs.declared.rule.Rule.TheVariants.LoopWithoutPhase, specs.declared.rule.Rule.TheVariants.ReserveDoesNotFollow, specs.declared.rule.Rule.TheVariants.RankNotRising, proofs.PhasesInBindings.AreAlike, proofs.PhasesInBindings.IsLike, proofs.PhasesInBindings.apart_as, proofs.PhasesInBindings.part_alike, proofs.PhasesInBindings.tree_alike, proofs.PhasesInBindings.turns_as, proofs.FollowersInBindings.follow_alike, proofs.Choices.Ask, proofs.Choices.AreNamed, proofs.Choices.HasChoices, proofs.Choices.IsNamed, proofs.Choices.asked, proofs.Choices.asks_at, proofs.Choices.choices, proofs.Choices.names_by, proofs.Choices.needs_here, proofs.Choices.own_asks_are_named, proofs.Spots.outlines, proofs.EntryNodes.Stands, proofs.EntryNodes.stands, proofs.NumberedBindings.role-covered, proofs.NumberedBindings.role-tried, proofs.NumberedBindings.some-binding, proofs.Verdicts.bare_offered, proofs.WayActs.IsHereOn}

pub Each_left : {X : Type 0} (P : X → Type 0) (xs ys : List X) → Each P (xs ++ ys) → Each P xs
Each_left P [] ys h = tt
Each_left P (x ∷ xs) ys h = (h.0, Each_left P xs ys h.1)

pub Each_right : {X : Type 0} (P : X → Type 0) (xs ys : List X) → Each P (xs ++ ys) → Each P ys
Each_right P [] ys h = h
Each_right P (x ∷ xs) ys h = Each_right P xs ys h.1

each_first : {X : Type 0} (P : X → Type 0) (x : X) (xs : List X) → Each P (x ∷ xs) → P x
each_first P x xs h = h.0

each_rest : {X : Type 0} (P : X → Type 0) (x : X) (xs : List X) → Each P (x ∷ xs) → Each P xs
each_rest P x xs h = h.1

abbrev no_entry : Entry
no_entry = record { kind = kind.Skip; end = 0; parent = 0; child = 0; needs = 0; detail = 0 }

-- The unit of a unit procedure

abbrev IsAct : Tree → Type 0
IsAct (act s w) = Unit {0}
IsAct _ = ⊥

act_as : (t u : Tree) → AreAlike t u → IsAct t → IsAct u
act_as (act s w) (act r v) h a = tt
act_as (act s w) _ h a = absurd h
act_as _ u h a = absurd a

module _ (units : List Name) where
  begins : (t : Tree) → IsAct t → HasUnit units in_procedure t → BeginsWithUnit units (needs_of t)
  begins (act s w) a h = h
  begins _ a h = absurd a

  has_unit : (l : Level) (t : Tree) → (l ≡ in_procedure → IsAct t → BeginsWithUnit units (needs_of t)) → HasUnit units l t
  has_unit is_procedure t h = tt
  has_unit in_procedure (act s w) h = h refl tt
  has_unit in_procedure skip h = tt
  has_unit in_procedure (seq ts) h = tt
  has_unit in_procedure (par ts) h = tt
  has_unit in_procedure (sel cs) h = tt
  has_unit in_procedure (loop n c t) h = tt
  has_unit in_unit_procedure t h = tt
  has_unit in_operation t h = tt

-- The phase of a phase step, on the unit below it

module _ (setup : Setup) where
  abbrev OffersBy : Name → Work → Type 0
  OffersBy unit (Follows c) = Unit {0}
  OffersBy unit (Runs phase values reports) = IsTrue (setup.offers unit phase)

  abbrev OffersAt : Option Act → Name → Type 0
  OffersAt None unit = Unit {0}
  OffersAt (Some a) unit = OffersBy unit a.work

  offers_to : (s : Step) (f : Name → Place → Tree) (unit name : Name) (p : Place) (w : Work) → OffersBy unit w → IsOffered setup (act s (task_of f unit name p w))
  offers_to s f unit name p (Follows c) h = tt
  offers_to s f unit name p (Runs phase values reports) h = h

  offers_from : (s : Step) (f : Name → Place → Tree) (unit name : Name) (p : Place) (w : Work) → IsOffered setup (act s (task_of f unit name p w)) → OffersBy unit w
  offers_from s f unit name p (Follows c) h = tt
  offers_from s f unit name p (Runs phase values reports) h = h

module _ (c : equipment.Cell) (recipes : List Recipe) (recipe : Recipe) (own : are_roles recipe.roles.items recipe.acts ≡ true)
    (ranking : Option Ranking) (Looked : Binding → Type 0) (enough : AreEnough (setup_of c recipes) ranking c recipe.roles.items Looked)
    (bound : Binding) (tried : IsTried (setup_of c recipes) (master_of c recipe) bound) where
  abbrev setup : Setup
  setup = setup_of c recipes

  abbrev by_number : ℕ → Binding
  by_number j = numbered_binding c recipe.roles.items j

  -- the unit that is chosen is chosen in a numbered binding
  covered : (choice : UnitChoice) → IsNamed recipe choice → (j : ℕ) × (j < binding_count c recipe.roles.items) × (unit_chosen bound choice ≡ unit_chosen (by_number j) choice)
  covered (by_name unit) named = (0, some-binding c recipe.roles.items, refl)
  covered (by_role role) named = let both = named role refl in role-covered c recipes recipe own bound tried role both.0 both.1

  first_looked : Looked (by_number 0)
  first_looked = enough.by_number 0 (some-binding c recipe.roles.items)

  -- a predicate that holds of all needs in each of the bindings holds of them here
  each_covered : (P : Need → Type 0) (asks : List Ask) → AreNamed recipe asks → ((b : Binding) → Looked b → Each P (map (asked b) asks)) → Each P (map (asked bound) asks)
  each_covered P [] named h = tt
  each_covered P (x ∷ xs) named h =
      let by = covered x.choice (each_first (λ (ask : Ask). IsNamed recipe ask.choice) x xs named) in (
        subst (λ (unit : Name). P (record { resource = unit; units = x.units })) (sym by.2) (each_first P (asked (by_number by.0) x) (map (asked (by_number by.0)) xs) (h (by_number by.0) (enough.by_number by.0 by.1))),
        each_covered P xs (each_rest (λ (ask : Ask). IsNamed recipe ask.choice) x xs named) (λ b l. each_rest P (asked b x) (map (asked b) xs) (h b l)),
      )

  begins_covered : (units : List Name) (asks : List Ask) → AreNamed recipe asks → ((b : Binding) → Looked b → BeginsWithUnit units (map (asked b) asks)) → BeginsWithUnit units (map (asked bound) asks)
  begins_covered units [] named h = h (by_number 0) first_looked
  begins_covered units (x ∷ xs) named h =
      let by = covered x.choice (each_first (λ (ask : Ask). IsNamed recipe ask.choice) x xs named) in
      subst (λ (unit : Name). IsTrue (is_among units unit)) (sym by.2) (h (by_number by.0) (enough.by_number by.0 by.1))

  -- Ranks: of two that follow one another the one is at its highest where the other is at its lowest

  module _ (rank : Ranking) (ranked : ranking ≡ Some rank) where
    abbrev Rise : UnitChoice → UnitChoice → Binding → Type 0
    Rise one other b = rank (unit_chosen b one) < rank (unit_chosen b other)

    roles_rise : (one other : Name) → IsNamed recipe (by_role one) → IsNamed recipe (by_role other) → ((b : Binding) → Looked b → Rise (by_role one) (by_role other) b) → Rise (by_role one) (by_role other) bound
    roles_rise one other named other_named h = go (same_name one other) refl
      where
        go : (same : Bool) → same_name one other ≡ same → Rise (by_role one) (by_role other) bound
        go true e =
            let same : one ≡ other = (bytes_decides one other).0 e in
            let less : rank (by_number 0 other) < rank (by_number 0 other) = subst (λ n. rank (by_number 0 n) < rank (by_number 0 other)) same (h (by_number 0) first_looked) in
            absurd (omega (arith, less))
        go false e =
            let n = named one refl in
            let m = other_named other refl in
            let high = role-tried c recipes recipe own bound tried one n.0 n.1 in
            let low = role-tried c recipes recipe own bound tried other m.0 m.1 in
            let apart : high.0.name ≢ low.0.name = λ same. false≢true (sym e ∙ (bytes_decides one other).1 (sym high.2 ∙ (same ∙ low.2))) in
            let by = enough.beside rank ranked high.0 low.0 high.1 low.1 apart in
            let above : rank (bound one) ≤ rank (by.bound one) = subst (λ name. rank (bound one) ≤ rank (by.bound name)) high.2 (by.highest (bound one) high.3) in
            let under : rank (by.bound other) ≤ rank (bound other) = subst (λ name. rank (by.bound name) ≤ rank (bound other)) low.2 (by.lowest (bound other) low.3) in
            let between : rank (by.bound one) < rank (by.bound other) = h by.bound by.looked in
            omega (arith, above, under, between)

    pair_rises : (one other : UnitChoice) → IsNamed recipe one → IsNamed recipe other → ((b : Binding) → Looked b → Rise one other b) → Rise one other bound
    pair_rises (by_name unit) other named other_named h =
        let by = covered other other_named in
        subst (λ (name : Name). rank unit < rank name) (sym by.2) (h (by_number by.0) (enough.by_number by.0 by.1))
    pair_rises (by_role role) (by_name unit) named other_named h =
        let by = covered (by_role role) named in
        subst (λ (name : Name). rank name < rank unit) (sym by.2) (h (by_number by.0) (enough.by_number by.0 by.1))
    pair_rises (by_role role) (by_role other) named other_named h = roles_rise role other named other_named h

    all_rise : (asks : List Ask) → AreNamed recipe asks → ((b : Binding) → Looked b → RiseStrictly rank (names_by b asks)) → RiseStrictly rank (names_by bound asks)
    all_rise [] named h = tt
    all_rise (x ∷ []) named h = tt
    all_rise (x ∷ y ∷ more) named h =
        let rest = each_rest (λ (ask : Ask). IsNamed recipe ask.choice) x (y ∷ more) named in (
          pair_rises x.choice y.choice (each_first (λ (ask : Ask). IsNamed recipe ask.choice) x (y ∷ more) named) (each_first (λ (ask : Ask). IsNamed recipe ask.choice) y more rest) (λ b l. (h b l).0),
          all_rise (y ∷ more) rest (λ b l. (h b l).1),
        )

  rises_by : (o : Option Ranking) → ranking ≡ o → (asks : List Ask) → AreNamed recipe asks → ((b : Binding) → Looked b → RisesBy o (names_by b asks)) → RisesBy o (names_by bound asks)
  rises_by None e asks named h = tt
  rises_by (Some rank) e asks named h = all_rise rank e asks named h

  -- Node by node

  part_same : (x y : Part) → Some x ≡ Some y → x ≡ y
  part_same x y e = cc

  module _ (k : ℕ) (e : Entry) (is : slice_get recipe.outline.entries.items k ≡ Some e) where
    abbrev at : (b : Binding) → Stands recipe b k e
    at b = stands recipe b k e is

    abbrev x : Binding → Part
    x b = (at b).x

    abbrev chosen : HasChoices recipe k e is
    chosen = choices recipe k e is

    abbrev own_asks : List Ask
    own_asks = asks_at recipe.acts (act_of_kind recipe.acts e.kind)

    own_named : AreNamed recipe own_asks
    own_named = own_asks_are_named recipe k e is

    like : (b other : Binding) → IsLike (x b) (x other)
    like b other =
        let p = part_alike b other recipe.acts k (x b) (at b).x_is in
        subst (IsLike (x b)) (part_same p.0 (x other) (sym p.1 ∙ (at other).x_is)) p.2

    needs_covered : (P : Need → Type 0) → ((b : Binding) → Looked b → Each P (needs_of (x b).node.here)) → Each P (needs_of (x bound).node.here)
    needs_covered P h =
        subst (Each P) (sym (needs_here recipe k e is bound)) (each_covered P own_asks own_named (λ b l. subst (Each P) (needs_here recipe k e is b) (h b l)))

    unit_covered : (units : List Name) → ((b : Binding) → Looked b → HasUnit units (x b).level (x b).node.here) → HasUnit units (x bound).level (x bound).node.here
    unit_covered units h = has_unit units (x bound).level (x bound).node.here begins_here
      where
        begins_at : (b : Binding) → Looked b → (x bound).level ≡ in_procedure → IsAct (x bound).node.here → BeginsWithUnit units (map (asked b) own_asks)
        begins_at b l level a =
            subst (BeginsWithUnit units) (needs_here recipe k e is b)
            (begins units (x b).node.here (act_as (x bound).node.here (x b).node.here (like bound b).1 a)
            (subst (λ (m : Level). HasUnit units m (x b).node.here) ((like b bound).0 ∙ level) (h b l)))

        begins_here : (x bound).level ≡ in_procedure → IsAct (x bound).node.here → BeginsWithUnit units (needs_of (x bound).node.here)
        begins_here level a = subst (BeginsWithUnit units) (sym (needs_here recipe k e is bound)) (begins_covered units own_asks own_named (λ b l. begins_at b l level a))

    offered_to : (b : Binding) (o : Option Act) → IsHereOn (sites b recipe.acts) (at b).own (x b) o → OffersAt setup o (at b).own.under.unit → IsOffered setup (x b).node.here
    offered_to b None h q = bare_offered setup (x b).node.here h.0
    offered_to b (Some a) h q =
        let unit = unit_below (at b).own.here.unit (unit_with b a.unit) in
        subst (IsOffered setup) (sym h.here_is)
        (offers_to setup (step_of (sites b recipe.acts) a (x b).node.place) (h.acts unit) unit a.name (x b).node.place a.work (subst (λ (u : Name). OffersBy setup u a.work) h.under_unit q))

    offered_from : (b : Binding) (o : Option Act) → IsHereOn (sites b recipe.acts) (at b).own (x b) o → IsOffered setup (x b).node.here → OffersAt setup o (at b).own.under.unit
    offered_from b None h q = tt
    offered_from b (Some a) h q =
        let unit = unit_below (at b).own.here.unit (unit_with b a.unit) in
        subst (λ (u : Name). OffersBy setup u a.work) (sym h.under_unit)
        (offers_from setup (step_of (sites b recipe.acts) a (x b).node.place) (h.acts unit) unit a.name (x b).node.place a.work (subst (IsOffered setup) h.here_is q))

    offered_covered : ((b : Binding) → Looked b → IsOffered setup (x b).node.here) → IsOffered setup (x bound).node.here
    offered_covered h =
        let here = act_of_kind recipe.acts e.kind in
        let by = covered chosen.unit chosen.unit_is_named in
        let b = by_number by.0 in
        let own_unit = subst (OffersAt setup here) (chosen.under b) (offered_from b here (at b).on.here (h b (enough.by_number by.0 by.1))) in
        offered_to bound here (at bound).on.here (subst (OffersAt setup here) (sym (chosen.under bound)) (subst (OffersAt setup here) (sym by.2) own_unit))

    apart_covered : ((b : Binding) → Looked b → IsApart (x b).level (x b).node.here) → IsApart (x bound).level (x bound).node.here
    apart_covered h =
        let b = by_number 0 in
        apart_as (x bound).level (x b).node.here (x bound).node.here (like b bound).1 (subst (λ (l : Level). IsApart l (x b).node.here) (like b bound).0 (h b first_looked))

    turns_covered : ((b : Binding) → Looked b → TurnsRun (x b).node.here) → TurnsRun (x bound).node.here
    turns_covered h = turns_as (x (by_number 0)).node.here (x bound).node.here (like (by_number 0) bound).1 (h (by_number 0) first_looked)

    rise_covered : ((b : Binding) → Looked b → RisesBy ranking (x b).node.asked) → RisesBy ranking (x bound).node.asked
    rise_covered h =
        subst (RisesBy ranking) (sym (chosen.path bound)) (rises_by ranking refl chosen.asks chosen.asks_are_named (λ b l. subst (RisesBy ranking) (chosen.path b) (h b l)))

    every : (rule : Rule) → IsMetInEach setup ranking recipe Looked k rule → (b : Binding) → Looked b → Meets setup ranking (bound_tree b recipe.acts) rule (x b)
    every rule h b l = h b l (x b) (at b).x_is

    follow_covered : ((b : Binding) → Looked b → ReservesFollow (bound_tree b recipe.acts) (x b).node) → ReservesFollow (bound_tree bound recipe.acts) (x bound).node
    follow_covered h =
        let b = by_number 0 in
        let same = like b bound in
        follow_alike (bound_tree b recipe.acts) (bound_tree bound recipe.acts) (x b).node (x bound).node (tree_alike b bound recipe.acts) same.1 same.2 (h b first_looked)

    met : (rule : Rule) → IsMetInEach setup ranking recipe Looked k rule → Meets setup ranking (bound_tree bound recipe.acts) rule (x bound)
    met UnknownResource h = (
      needs_covered (λ need. IsTrue (is_among (resources_of c) need.resource)) (λ b l. (every UnknownResource h b l).0),
      unit_covered (units_of c) (λ b l. (every UnknownResource h b l).1),
    )
    met ShareAboveCapacity h = needs_covered (λ need. need.units ≤ setup.capacity need.resource) (λ b l. every ShareAboveCapacity h b l)
    met PhaseNotOffered h = offered_covered (λ b l. every PhaseNotOffered h b l)
    met SamePhaseInParallel h = apart_covered (λ b l. every SamePhaseInParallel h b l)
    met LoopWithoutPhase h = turns_covered (λ b l. every LoopWithoutPhase h b l)
    met ReserveDoesNotFollow h = follow_covered (λ b l. every ReserveDoesNotFollow h b l)
    met RankNotRising h = rise_covered (λ b l. every RankNotRising h b l)

  -- a node that is one has an entry
  entry_of : (node : ℕ) (one : Part) → slice_get (bound_parts_of recipe bound) node ≡ Some one → slice_get recipe.outline.entries.items node ≡ Some (get_or recipe.outline.entries.items node no_entry)
  entry_of node one found =
      let parts = bound_parts bound recipe.acts in
      let nodes = ap length (parts-nodes is_procedure (0 ∷ []) [] (bound_tree bound recipe.acts)) in
      let within : node < length parts = slice_get_within parts node one found in
      slice_get-get_or recipe.outline.entries.items node no_entry
      (omega (arith, within, as_many_entries recipe.acts recipe.outline.entries.items (outlines recipe bound) bound, nodes, length-map parts (λ (y : Part). y.node)))

  pub suffices : (node : ℕ) (one : Part) → slice_get (bound_parts_of recipe bound) node ≡ Some one → (rule : Rule)
      → IsMetInEach setup ranking recipe Looked node rule → Meets setup ranking (bound_tree bound recipe.acts) rule one
  suffices node one found rule h =
      let e = get_or recipe.outline.entries.items node no_entry in
      let is = entry_of node one found in
      subst (λ (y : Part). Meets setup ranking (bound_tree bound recipe.acts) rule y) (part_same (x node e is bound) one (sym (at node e is bound).x_is ∙ found)) (met node e is rule h)
