-- Clearance over all nodes makes clearance by recursion down the trees.
use Rattle.std.proofs.Common.{◌≡◌, refl, sym, ◌∙◌, ap, subst, ℕ, ◌+◌, ◌<◌, arith, List, [], ◌∷◌, ◌++◌, Bool, true, false, map, IsTrue, inl, inr, slice_get}
use Rattle.std.{proofs.lemmas.Bool.and_parts, proofs.lemmas.Slice.Eq.bytes_eq-Decides, specs.List.list_all}
use Rattle.batch_recipe.specs.{Conditions.Name, Conditions.same_name, Expanding.Binding, Nodes.Node, Nodes.child, Tree.Place, Tree.Phase, Tree.Step, Tree.Task, Tree.runs, Tree.follows, Tree.Tree, Tree.act, Tree.skip, Tree.seq, Tree.par, Tree.sel, Tree.loop, Tree.Trees, Tree.no_trees, Tree.tree, Tree.Choices, Tree.otherwise, Tree.choice, WellFormed.is_among, WellFormed.are_distinct, declared.need.Need.Need, Needs.one_unit, Needs.resources_needed}
use Rattle.batch_model.{specs.Lists.Has, specs.Lists.Each, specs.Plant.Recipe, specs.Plant.Role, specs.Plant.Master, specs.Plant.Setup, specs.Events.is_binding, specs.Events.bound_by, specs.Standing.IsControl, specs.Cleared.Ranking, specs.Cleared.Level, specs.Cleared.is_procedure, specs.Cleared.in_procedure, specs.Cleared.in_unit_procedure, specs.Cleared.in_operation, specs.Cleared.below, specs.Cleared.Part, specs.Cleared.parts, specs.Cleared.parts_within, specs.Cleared.parts_of_each, specs.Cleared.parts_of_choices, specs.Cleared.procedure_parts, specs.Cleared.phases, specs.Cleared.phases_within, specs.Cleared.phases_of_each, specs.Cleared.phases_of_choices, specs.Cleared.RunApart, specs.Cleared.BranchesRunApart, specs.Cleared.RiseStrictly, specs.Cleared.BeginsWithUnit, specs.Cleared.IsServed, specs.Cleared.IsClear, specs.Cleared.IsClearedRecipe, specs.Cleared.IsCleared, proofs.Members.Has-right, proofs.Members.Has-split, proofs.Members.Each-Has, proofs.Members.Each-map, proofs.Members.Each-append, proofs.TreeParts.parts-nodes}
use Rattle.batch_record_laws.{specs.Procedures.IsOfLevel, specs.Procedures.IsActOf, specs.Procedures.AreOfLevel, specs.Procedures.AreChoicesOf, specs.Procedures.HasLevels, specs.Procedures.IsProcedure, specs.Premises.IsOfDocuments, proofs.PhaseStepPlaces.followers-avoided, proofs.ClearanceDownTrees.RunsInUnits, proofs.ClearanceDownTrees.RunsInUnitsBelow, proofs.ClearanceDownTrees.RunInUnits, proofs.ClearanceDownTrees.RunSideBySide, proofs.ClearanceDownTrees.ChoicesRunInUnits, proofs.ClearanceDownTrees.AreApart, proofs.ClearanceDownTrees.IsOfferedPhase, proofs.ClearanceDownTrees.BeginsAlone, proofs.ClearanceDownTrees.FollowersBeginAlone, proofs.ClearanceDownTrees.IsClearedDown, proofs.ClearanceDownTrees.AreClearedDown, proofs.Members.Each-left, proofs.Members.Each-right, proofs.Members.Each-image, proofs.Members.map-Has, proofs.UnitProcedures.Top, proofs.UnitProcedures.tops, proofs.UnitProcedures.tops_of_each, proofs.UnitProcedures.tops_of_choices, proofs.UnitProcedures.top-steps, proofs.UnitProcedures.follower-one, proofs.Ways.paths-down}

-- Phases run on the unit of their unit procedure

abbrev pub RunsOn : Name → Phase → Type 0
RunsOn unit x = x.unit ≡ unit

mutual
  on-unit : (unit : Name) (t : Tree) → IsOfLevel in_operation unit t → Each (RunsOn unit) (phases t)
  on-unit unit (act s (runs x)) h = (h, tt)
  on-unit unit (act s (follows name t)) h = absurd h
  on-unit unit skip h = tt
  on-unit unit (seq ts) h = on-unit_each unit ts h
  on-unit unit (par ts) h = on-unit_each unit ts h.1
  on-unit unit (sel cs) h = on-unit_choices unit cs h
  on-unit unit (loop n c t) h = on-unit unit t h

  on-unit_each : (unit : Name) (ts : Trees) → AreOfLevel in_operation unit ts → Each (RunsOn unit) (phases_of_each ts)
  on-unit_each unit no_trees h = tt
  on-unit_each unit (tree t ts) h = Each-append (RunsOn unit) (phases t) (phases_of_each ts) (on-unit unit t h.0) (on-unit_each unit ts h.1)

  on-unit_choices : (unit : Name) (cs : Choices) → AreChoicesOf in_operation unit cs → Each (RunsOn unit) (phases_of_choices cs)
  on-unit_choices unit (otherwise t) h = on-unit unit t h
  on-unit_choices unit (choice c t cs) h = Each-append (RunsOn unit) (phases t) (phases_of_choices cs) (on-unit unit t h.0) (on-unit_choices unit cs h.1)

mutual
  below-unit : (unit : Name) (t : Tree) → IsOfLevel in_unit_procedure unit t → Each (RunsOn unit) (phases t)
  below-unit unit (act s (follows name t)) h = on-unit unit t h
  below-unit unit skip h = tt
  below-unit unit (seq ts) h = below-unit_each unit ts h
  below-unit unit (sel cs) h = below-unit_choices unit cs h
  below-unit unit (loop n c t) h = below-unit unit t h
  below-unit unit t h = grind arith

  below-unit_each : (unit : Name) (ts : Trees) → AreOfLevel in_unit_procedure unit ts → Each (RunsOn unit) (phases_of_each ts)
  below-unit_each unit no_trees h = tt
  below-unit_each unit (tree t ts) h = Each-append (RunsOn unit) (phases t) (phases_of_each ts) (below-unit unit t h.0) (below-unit_each unit ts h.1)

  below-unit_choices : (unit : Name) (cs : Choices) → AreChoicesOf in_unit_procedure unit cs → Each (RunsOn unit) (phases_of_choices cs)
  below-unit_choices unit (otherwise t) h = below-unit unit t h
  below-unit_choices unit (choice c t cs) h = Each-append (RunsOn unit) (phases t) (phases_of_choices cs) (below-unit unit t h.0) (below-unit_choices unit cs h.1)

-- Ranks

rising-rest : (rank : Ranking) (x : Name) (ys : List Name) → RiseStrictly rank (x ∷ ys) → RiseStrictly rank ys
rising-rest rank x [] h = tt
rising-rest rank x (y ∷ ys) h = h.1

-- all ranks after the first are above it
rising-above : (rank : Ranking) (x : Name) (ys : List Name) → RiseStrictly rank (x ∷ ys) → (z : Name) → Has ys z → rank x < rank z
rising-above rank x [] h z k = absurd k
rising-above rank x (y ∷ ys) h z (inl e) = subst (λ w. rank x < rank w) e h.0
rising-above rank x (y ∷ ys) h z (inr k) = let l : rank y < rank z = rising-above rank y ys h.1 z k in let m : rank x < rank y = h.0 in omega arith

-- a resource that is asked for after a path is nowhere on it
not-above : (rank : Ranking) (above needs : List Name) (own : Name) → RiseStrictly rank (above ++ (own ∷ needs)) → Has above own → ⊥
not-above rank [] needs own h k = k
not-above rank (x ∷ above) needs own h (inl e) = grind (arith, rising-above rank x (above ++ (own ∷ needs)) h own (Has-right above (own ∷ needs) own (inl refl)), Has-right above (own ∷ needs) own (inl refl))
not-above rank (x ∷ above) needs own h (inr k) = not-above rank above needs own (rising-rest rank x (above ++ (own ∷ needs)) h) k

-- Branches

different : (a b : Name) → same_name a b ≡ false → a ≡ b → ⊥
different a b e q = grind (arith, bytes_eq-Decides a b)

branches-apart : (above : List Need) (xs ys : List Phase) → RunApart xs ys → AreApart above xs ys
branches-apart above xs ys h x y k m u same =
    different x.name y.name (Each-Has (λ y. same_name x.name y.name ≡ false) ys y (Each-Has (λ x. Each (λ y. same_name x.name y.name ≡ false) ys) xs x h k) m) same.1

module _ (setup : Setup) (rank : Ranking) where
  abbrev Clear : Part → Type 0
  Clear = IsClear setup rank

  -- In an operation: all runs on the unit, which is needed above

  mutual
    in-operation : (unit : Name) (p : Place) (asked : List Name) (above : List Need) (t : Tree) → Has above (one_unit unit) → IsOfLevel in_operation unit t
        → Each Clear (parts in_operation p asked t) → RunsInUnits above t
    in-operation unit p asked above (act s (runs x)) k h c = subst (λ z. Has above (one_unit z)) (sym h) k
    in-operation unit p asked above (act s (follows name t)) k h c = absurd h
    in-operation unit p asked above skip k h c = tt
    in-operation unit p asked above (seq ts) k h c = in-operation_each unit p asked above 0 ts k h c.1
    in-operation unit p asked above (par ts) k h c = in-operation_branches unit p asked above 0 ts k h.1 (c.0.apart) c.1
    in-operation unit p asked above (sel cs) k h c = in-operation_choices unit p asked above 0 cs k h c.1
    in-operation unit p asked above (loop n q t) k h c = in-operation unit (child p 0) asked above t k h c.1

    in-operation_each : (unit : Name) (p : Place) (asked : List Name) (above : List Need) (i : ℕ) (ts : Trees) → Has above (one_unit unit) → AreOfLevel in_operation unit ts
        → Each Clear (parts_of_each in_operation p asked i ts) → RunInUnits above ts
    in-operation_each unit p asked above i no_trees k h c = tt
    in-operation_each unit p asked above i (tree t ts) k h c = (
      in-operation unit (child p i) asked above t k h.0 (Each-left Clear (parts in_operation (child p i) asked t) (parts_of_each in_operation p asked (i + 1) ts) c),
      in-operation_each unit p asked above (i + 1) ts k h.1 (Each-right Clear (parts in_operation (child p i) asked t) (parts_of_each in_operation p asked (i + 1) ts) c),
    )

    in-operation_branches : (unit : Name) (p : Place) (asked : List Name) (above : List Need) (i : ℕ) (ts : Trees) → Has above (one_unit unit) → AreOfLevel in_operation unit ts → BranchesRunApart ts
        → Each Clear (parts_of_each in_operation p asked i ts) → RunSideBySide above ts
    in-operation_branches unit p asked above i no_trees k h b c = tt
    in-operation_branches unit p asked above i (tree t ts) k h b c = (
      in-operation unit (child p i) asked above t k h.0 (Each-left Clear (parts in_operation (child p i) asked t) (parts_of_each in_operation p asked (i + 1) ts) c),
      branches-apart above (phases t) (phases_of_each ts) b.0,
      in-operation_branches unit p asked above (i + 1) ts k h.1 b.1 (Each-right Clear (parts in_operation (child p i) asked t) (parts_of_each in_operation p asked (i + 1) ts) c),
    )

    in-operation_choices : (unit : Name) (p : Place) (asked : List Name) (above : List Need) (i : ℕ) (cs : Choices) → Has above (one_unit unit) → AreChoicesOf in_operation unit cs
        → Each Clear (parts_of_choices in_operation p asked i cs) → ChoicesRunInUnits above cs
    in-operation_choices unit p asked above i (otherwise t) k h c = in-operation unit (child p i) asked above t k h c
    in-operation_choices unit p asked above i (choice q t cs) k h c = (
      in-operation unit (child p i) asked above t k h.0 (Each-left Clear (parts in_operation (child p i) asked t) (parts_of_choices in_operation p asked (i + 1) cs) c),
      in-operation_choices unit p asked above (i + 1) cs k h.1 (Each-right Clear (parts in_operation (child p i) asked t) (parts_of_choices in_operation p asked (i + 1) cs) c),
    )

  -- In a unit procedure: nothing runs side by side

  mutual
    in-unit_procedure : (unit : Name) (p : Place) (asked : List Name) (above : List Need) (t : Tree) → Has above (one_unit unit) → IsOfLevel in_unit_procedure unit t
        → Each Clear (parts in_unit_procedure p asked t) → RunsInUnits above t
    in-unit_procedure unit p asked above (act s (follows name t)) k h c =
        in-operation unit (child p 0) (asked ++ resources_needed s.needs) (s.needs ++ above) t (Has-right s.needs above (one_unit unit) k) h c.1
    in-unit_procedure unit p asked above skip k h c = tt
    in-unit_procedure unit p asked above (seq ts) k h c = in-unit_procedure_each unit p asked above 0 ts k h c.1
    in-unit_procedure unit p asked above (sel cs) k h c = in-unit_procedure_choices unit p asked above 0 cs k h c.1
    in-unit_procedure unit p asked above (loop n q t) k h c = in-unit_procedure unit (child p 0) asked above t k h c.1
    in-unit_procedure unit p asked above t k h c = grind arith

    in-unit_procedure_each : (unit : Name) (p : Place) (asked : List Name) (above : List Need) (i : ℕ) (ts : Trees) → Has above (one_unit unit) → AreOfLevel in_unit_procedure unit ts
        → Each Clear (parts_of_each in_unit_procedure p asked i ts) → RunInUnits above ts
    in-unit_procedure_each unit p asked above i no_trees k h c = tt
    in-unit_procedure_each unit p asked above i (tree t ts) k h c = (
      in-unit_procedure unit (child p i) asked above t k h.0
          (Each-left Clear (parts in_unit_procedure (child p i) asked t) (parts_of_each in_unit_procedure p asked (i + 1) ts) c),
      in-unit_procedure_each unit p asked above (i + 1) ts k h.1
          (Each-right Clear (parts in_unit_procedure (child p i) asked t) (parts_of_each in_unit_procedure p asked (i + 1) ts) c),
    )

    in-unit_procedure_choices : (unit : Name) (p : Place) (asked : List Name) (above : List Need) (i : ℕ) (cs : Choices) → Has above (one_unit unit) → AreChoicesOf in_unit_procedure unit cs
        → Each Clear (parts_of_choices in_unit_procedure p asked i cs) → ChoicesRunInUnits above cs
    in-unit_procedure_choices unit p asked above i (otherwise t) k h c = in-unit_procedure unit (child p i) asked above t k h c
    in-unit_procedure_choices unit p asked above i (choice q t cs) k h c = (
      in-unit_procedure unit (child p i) asked above t k h.0
          (Each-left Clear (parts in_unit_procedure (child p i) asked t) (parts_of_choices in_unit_procedure p asked (i + 1) cs) c),
      in-unit_procedure_choices unit p asked above (i + 1) cs k h.1
          (Each-right Clear (parts in_unit_procedure (child p i) asked t) (parts_of_choices in_unit_procedure p asked (i + 1) cs) c),
    )

  -- In a procedure: the unit of each phase is asked for below the procedure's needs, so it isn't among them

  abbrev IsElsewhere : List Name → Phase → Type 0
  IsElsewhere asked x = Has asked x.unit → ⊥

  elsewhere-below : (asked needs : List Name) (own : Name) (xs : List Phase) → RiseStrictly rank (asked ++ (own ∷ needs)) → Each (RunsOn own) xs → Each (IsElsewhere asked) xs
  elsewhere-below asked needs own xs rise h = Each-map (RunsOn own) (IsElsewhere asked) (λ x e k. not-above rank asked needs own rise (subst (Has asked) e k)) xs h

  mutual
    elsewhere : (unit : Name) (p : Place) (asked : List Name) (t : Tree) → IsOfLevel in_procedure unit t → Each Clear (parts in_procedure p asked t) → Each (IsElsewhere asked) (phases t)
    elsewhere unit p asked (act s w) h c = elsewhere_act unit asked s.needs w h c.0.rising
    elsewhere unit p asked skip h c = tt
    elsewhere unit p asked (seq ts) h c = elsewhere_each unit p asked 0 ts h c.1
    elsewhere unit p asked (par ts) h c = elsewhere_each unit p asked 0 ts h.1 c.1
    elsewhere unit p asked (sel cs) h c = elsewhere_choices unit p asked 0 cs h c.1
    elsewhere unit p asked (loop n q t) h c = elsewhere unit (child p 0) asked t h c.1

    elsewhere_act : (unit : Name) (asked : List Name) (needs : List Need) (w : Task) → IsActOf in_procedure unit needs w → RiseStrictly rank (asked ++ resources_needed needs) → Each (IsElsewhere asked) (phases_within w)
    elsewhere_act unit asked needs (runs x) h rise = tt_of needs h
      where
        tt_of : (needs : List Need) → IsActOf in_procedure unit needs (runs x) → Each (IsElsewhere asked) (x ∷ [])
        tt_of needs h = absurd (grind arith)
    elsewhere_act unit asked [] (follows name t) h rise = absurd h
    elsewhere_act unit asked (own ∷ needs) (follows name t) h rise = elsewhere-below asked (resources_needed needs) own.resource (phases t) rise (below-unit own.resource t h.1)

    elsewhere_each : (unit : Name) (p : Place) (asked : List Name) (i : ℕ) (ts : Trees) → AreOfLevel in_procedure unit ts → Each Clear (parts_of_each in_procedure p asked i ts)
        → Each (IsElsewhere asked) (phases_of_each ts)
    elsewhere_each unit p asked i no_trees h c = tt
    elsewhere_each unit p asked i (tree t ts) h c =
        Each-append (IsElsewhere asked) (phases t) (phases_of_each ts)
        (elsewhere unit (child p i) asked t h.0 (Each-left Clear (parts in_procedure (child p i) asked t) (parts_of_each in_procedure p asked (i + 1) ts) c))
        (elsewhere_each unit p asked (i + 1) ts h.1 (Each-right Clear (parts in_procedure (child p i) asked t) (parts_of_each in_procedure p asked (i + 1) ts) c))

    elsewhere_choices : (unit : Name) (p : Place) (asked : List Name) (i : ℕ) (cs : Choices) → AreChoicesOf in_procedure unit cs → Each Clear (parts_of_choices in_procedure p asked i cs)
        → Each (IsElsewhere asked) (phases_of_choices cs)
    elsewhere_choices unit p asked i (otherwise t) h c = elsewhere unit (child p i) asked t h c
    elsewhere_choices unit p asked i (choice q t cs) h c =
        Each-append (IsElsewhere asked) (phases t) (phases_of_choices cs)
        (elsewhere unit (child p i) asked t h.0 (Each-left Clear (parts in_procedure (child p i) asked t) (parts_of_choices in_procedure p asked (i + 1) cs) c))
        (elsewhere_choices unit p asked (i + 1) cs h.1 (Each-right Clear (parts in_procedure (child p i) asked t) (parts_of_choices in_procedure p asked (i + 1) cs) c))

  -- a resource of which one unit is on the one list is on the other
  abbrev Within : List Need → List Name → Type 0
  Within above asked = (z : Name) → Has above (one_unit z) → Has asked z

  branches-elsewhere : (asked : List Name) (above : List Need) (xs ys : List Phase) → Within above asked → Each (IsElsewhere asked) xs → AreApart above xs ys
  branches-elsewhere asked above xs ys w h x y k m u same = Each-Has (IsElsewhere asked) xs x h k (w x.unit u)

  mutual
    in-procedure : (unit : Name) (p : Place) (asked : List Name) (above : List Need) (t : Tree) → Within above asked → IsOfLevel in_procedure unit t
        → Each Clear (parts in_procedure p asked t) → RunsInUnits above t
    in-procedure unit p asked above (act s w) k h c = in-procedure_act unit p asked above s.needs w h c.1
    in-procedure unit p asked above skip k h c = tt
    in-procedure unit p asked above (seq ts) k h c = in-procedure_each unit p asked above 0 ts k h c.1
    in-procedure unit p asked above (par ts) k h c = in-procedure_branches unit p asked above 0 ts k h.1 c.1
    in-procedure unit p asked above (sel cs) k h c = in-procedure_choices unit p asked above 0 cs k h c.1
    in-procedure unit p asked above (loop n q t) k h c = in-procedure unit (child p 0) asked above t k h c.1

    in-procedure_act : (unit : Name) (p : Place) (asked : List Name) (above needs : List Need) (w : Task) → IsActOf in_procedure unit needs w
        → Each Clear (parts_within in_unit_procedure p (asked ++ resources_needed needs) w) → RunsInUnitsBelow needs above w
    in-procedure_act unit p asked above (own ∷ needs) (follows name t) h c =
        in-unit_procedure own.resource (child p 0) (asked ++ (own.resource ∷ resources_needed needs)) ((own ∷ needs) ++ above) t
        (inl (ap (λ z. let n : Need = record { resource = own.resource; units = z } in n) h.0)) h.1 c
    in-procedure_act unit p asked above needs w h c = absurd (grind arith)

    in-procedure_each : (unit : Name) (p : Place) (asked : List Name) (above : List Need) (i : ℕ) (ts : Trees) → Within above asked → AreOfLevel in_procedure unit ts
        → Each Clear (parts_of_each in_procedure p asked i ts) → RunInUnits above ts
    in-procedure_each unit p asked above i no_trees k h c = tt
    in-procedure_each unit p asked above i (tree t ts) k h c = (
      in-procedure unit (child p i) asked above t k h.0 (Each-left Clear (parts in_procedure (child p i) asked t) (parts_of_each in_procedure p asked (i + 1) ts) c),
      in-procedure_each unit p asked above (i + 1) ts k h.1 (Each-right Clear (parts in_procedure (child p i) asked t) (parts_of_each in_procedure p asked (i + 1) ts) c),
    )

    in-procedure_branches : (unit : Name) (p : Place) (asked : List Name) (above : List Need) (i : ℕ) (ts : Trees) → Within above asked → AreOfLevel in_procedure unit ts
        → Each Clear (parts_of_each in_procedure p asked i ts) → RunSideBySide above ts
    in-procedure_branches unit p asked above i no_trees k h c = tt
    in-procedure_branches unit p asked above i (tree t ts) k h c =
        let here = Each-left Clear (parts in_procedure (child p i) asked t) (parts_of_each in_procedure p asked (i + 1) ts) c in (
          in-procedure unit (child p i) asked above t k h.0 here,
          branches-elsewhere asked above (phases t) (phases_of_each ts) k (elsewhere unit (child p i) asked t h.0 here),
          in-procedure_branches unit p asked above (i + 1) ts k h.1 (Each-right Clear (parts in_procedure (child p i) asked t) (parts_of_each in_procedure p asked (i + 1) ts) c),
        )

    in-procedure_choices : (unit : Name) (p : Place) (asked : List Name) (above : List Need) (i : ℕ) (cs : Choices) → Within above asked → AreChoicesOf in_procedure unit cs
        → Each Clear (parts_of_choices in_procedure p asked i cs) → ChoicesRunInUnits above cs
    in-procedure_choices unit p asked above i (otherwise t) k h c = in-procedure unit (child p i) asked above t k h c
    in-procedure_choices unit p asked above i (choice q t cs) k h c = (
      in-procedure unit (child p i) asked above t k h.0 (Each-left Clear (parts in_procedure (child p i) asked t) (parts_of_choices in_procedure p asked (i + 1) cs) c),
      in-procedure_choices unit p asked above (i + 1) cs k h.1 (Each-right Clear (parts in_procedure (child p i) asked t) (parts_of_choices in_procedure p asked (i + 1) cs) c),
    )

  -- Phases are offered, and each runs on a unit with one user

  mutual
    phases-offered : (l : Level) (p : Place) (asked : List Name) (t : Tree) → Each Clear (parts l p asked t) → Each (IsOfferedPhase setup) (phases t)
    phases-offered l p asked (act s (runs x)) c = (c.0.offered, tt)
    phases-offered l p asked (act s (follows name t)) c = phases-offered (below l) (child p 0) (asked ++ resources_needed s.needs) t c.1
    phases-offered l p asked skip c = tt
    phases-offered l p asked (seq ts) c = phases-offered_each l p asked 0 ts c.1
    phases-offered l p asked (par ts) c = phases-offered_each l p asked 0 ts c.1
    phases-offered l p asked (sel cs) c = phases-offered_choices l p asked 0 cs c.1
    phases-offered l p asked (loop n q t) c = phases-offered l (child p 0) asked t c.1

    phases-offered_each : (l : Level) (p : Place) (asked : List Name) (i : ℕ) (ts : Trees) → Each Clear (parts_of_each l p asked i ts) → Each (IsOfferedPhase setup) (phases_of_each ts)
    phases-offered_each l p asked i no_trees c = tt
    phases-offered_each l p asked i (tree t ts) c =
        Each-append (IsOfferedPhase setup) (phases t) (phases_of_each ts)
        (phases-offered l (child p i) asked t (Each-left Clear (parts l (child p i) asked t) (parts_of_each l p asked (i + 1) ts) c))
        (phases-offered_each l p asked (i + 1) ts (Each-right Clear (parts l (child p i) asked t) (parts_of_each l p asked (i + 1) ts) c))

    phases-offered_choices : (l : Level) (p : Place) (asked : List Name) (i : ℕ) (cs : Choices) → Each Clear (parts_of_choices l p asked i cs) → Each (IsOfferedPhase setup) (phases_of_choices cs)
    phases-offered_choices l p asked i (otherwise t) c = phases-offered l (child p i) asked t c
    phases-offered_choices l p asked i (choice q t cs) c =
        Each-append (IsOfferedPhase setup) (phases t) (phases_of_choices cs)
        (phases-offered l (child p i) asked t (Each-left Clear (parts l (child p i) asked t) (parts_of_choices l p asked (i + 1) cs) c))
        (phases-offered_choices l p asked (i + 1) cs (Each-right Clear (parts l (child p i) asked t) (parts_of_choices l p asked (i + 1) cs) c))

  abbrev HasOneUser : Phase → Type 0
  HasOneUser x = setup.capacity x.unit ≡ 1

  module _ (exclusive : (unit : Name) → IsTrue (is_among setup.units unit) → setup.capacity unit ≡ 1) where
    one-user-below : (own : Name) (xs : List Phase) → IsTrue (is_among setup.units own) → Each (RunsOn own) xs → Each HasOneUser xs
    one-user-below own xs u h = Each-map (RunsOn own) HasOneUser (λ x e. ap setup.capacity e ∙ exclusive own u) xs h

    one-user_act : (unit : Name) (needs : List Need) (w : Task) → IsActOf in_procedure unit needs w → BeginsWithUnit setup.units needs → Each HasOneUser (phases_within w)
    one-user_act unit (own ∷ needs) (follows name t) h u = one-user-below own.resource (phases t) u (below-unit own.resource t h.1)
    one-user_act unit needs w h u = absurd (grind arith)

    mutual
      one-user : (unit : Name) (p : Place) (asked : List Name) (t : Tree) → IsOfLevel in_procedure unit t → Each Clear (parts in_procedure p asked t) → Each HasOneUser (phases t)
      one-user unit p asked (act s w) h c = one-user_act unit s.needs w h c.0.on_unit
      one-user unit p asked skip h c = tt
      one-user unit p asked (seq ts) h c = one-user_each unit p asked 0 ts h c.1
      one-user unit p asked (par ts) h c = one-user_each unit p asked 0 ts h.1 c.1
      one-user unit p asked (sel cs) h c = one-user_choices unit p asked 0 cs h c.1
      one-user unit p asked (loop n q t) h c = one-user unit (child p 0) asked t h c.1

      one-user_each : (unit : Name) (p : Place) (asked : List Name) (i : ℕ) (ts : Trees) → AreOfLevel in_procedure unit ts → Each Clear (parts_of_each in_procedure p asked i ts)
          → Each HasOneUser (phases_of_each ts)
      one-user_each unit p asked i no_trees h c = tt
      one-user_each unit p asked i (tree t ts) h c =
          Each-append HasOneUser (phases t) (phases_of_each ts)
          (one-user unit (child p i) asked t h.0 (Each-left Clear (parts in_procedure (child p i) asked t) (parts_of_each in_procedure p asked (i + 1) ts) c))
          (one-user_each unit p asked (i + 1) ts h.1 (Each-right Clear (parts in_procedure (child p i) asked t) (parts_of_each in_procedure p asked (i + 1) ts) c))

      one-user_choices : (unit : Name) (p : Place) (asked : List Name) (i : ℕ) (cs : Choices) → AreChoicesOf in_procedure unit cs → Each Clear (parts_of_choices in_procedure p asked i cs)
          → Each HasOneUser (phases_of_choices cs)
      one-user_choices unit p asked i (otherwise t) h c = one-user unit (child p i) asked t h c
      one-user_choices unit p asked i (choice q t cs) h c =
          Each-append HasOneUser (phases t) (phases_of_choices cs)
          (one-user unit (child p i) asked t h.0 (Each-left Clear (parts in_procedure (child p i) asked t) (parts_of_choices in_procedure p asked (i + 1) cs) c))
          (one-user_choices unit p asked (i + 1) cs h.1 (Each-right Clear (parts in_procedure (child p i) asked t) (parts_of_choices in_procedure p asked (i + 1) cs) c))

    -- Unit procedures ask first for their units, which have one user

    abbrev IsAlone : Top → Type 0
    IsAlone t = BeginsAlone setup t.0

    alone_act : (unit : Name) (s : Step) (w : Task) → IsActOf in_procedure unit s.needs w → BeginsWithUnit setup.units s.needs → Each IsAlone (tops (act s w))
    alone_act unit s (runs x) h u = tt
    alone_act unit s (follows name t) h u = (go s.needs refl h u, tt)
      where
        go : (needs : List Need) → s.needs ≡ needs → IsActOf in_procedure unit needs (follows name t) → BeginsWithUnit setup.units needs → BeginsAlone setup s
        go [] e k v = absurd k
        go (own ∷ needs) e k v = (own, ap (λ zs. slice_get zs 0) e, k.0, exclusive own.resource v)

    mutual
      alone : (unit : Name) (p : Place) (asked : List Name) (t : Tree) → IsOfLevel in_procedure unit t → Each Clear (parts in_procedure p asked t) → Each IsAlone (tops t)
      alone unit p asked (act s w) h c = alone_act unit s w h c.0.on_unit
      alone unit p asked skip h c = tt
      alone unit p asked (seq ts) h c = alone_each unit p asked 0 ts h c.1
      alone unit p asked (par ts) h c = alone_each unit p asked 0 ts h.1 c.1
      alone unit p asked (sel cs) h c = alone_choices unit p asked 0 cs h c.1
      alone unit p asked (loop n q t) h c = alone unit (child p 0) asked t h c.1

      alone_each : (unit : Name) (p : Place) (asked : List Name) (i : ℕ) (ts : Trees) → AreOfLevel in_procedure unit ts → Each Clear (parts_of_each in_procedure p asked i ts)
          → Each IsAlone (tops_of_each ts)
      alone_each unit p asked i no_trees h c = tt
      alone_each unit p asked i (tree t ts) h c =
          Each-append IsAlone (tops t) (tops_of_each ts)
          (alone unit (child p i) asked t h.0 (Each-left Clear (parts in_procedure (child p i) asked t) (parts_of_each in_procedure p asked (i + 1) ts) c))
          (alone_each unit p asked (i + 1) ts h.1 (Each-right Clear (parts in_procedure (child p i) asked t) (parts_of_each in_procedure p asked (i + 1) ts) c))

      alone_choices : (unit : Name) (p : Place) (asked : List Name) (i : ℕ) (cs : Choices) → AreChoicesOf in_procedure unit cs → Each Clear (parts_of_choices in_procedure p asked i cs)
          → Each IsAlone (tops_of_choices cs)
      alone_choices unit p asked i (otherwise t) h c = alone unit (child p i) asked t h c
      alone_choices unit p asked i (choice q t cs) h c =
          Each-append IsAlone (tops t) (tops_of_choices cs)
          (alone unit (child p i) asked t h.0 (Each-left Clear (parts in_procedure (child p i) asked t) (parts_of_choices in_procedure p asked (i + 1) cs) c))
          (alone_choices unit p asked (i + 1) cs h.1 (Each-right Clear (parts in_procedure (child p i) asked t) (parts_of_choices in_procedure p asked (i + 1) cs) c))

    -- The whole procedure

    whole-in_units : (t : Tree) → HasLevels t → Each Clear (parts is_procedure (0 ∷ []) [] t) → RunsInUnits [] t
    whole-in_units (act s (follows name t)) h c =
        in-procedure [] (0 ∷ 0 ∷ []) (resources_needed s.needs) (s.needs ++ []) t
        (λ z k. elim (Has-split s.needs [] (one_unit z) k) [ inl m ↦ map-Has (λ n. n.resource) s.needs (one_unit z) m | inr m ↦ absurd m ]) h c.1
    whole-in_units skip h c = tt
    whole-in_units t h c = absurd (grind arith)

    whole-one-user : (t : Tree) → HasLevels t → Each Clear (parts is_procedure (0 ∷ []) [] t) → Each HasOneUser (phases t)
    whole-one-user (act s (follows name t)) h c = one-user [] (0 ∷ 0 ∷ []) (resources_needed s.needs) t h c.1
    whole-one-user skip h c = tt
    whole-one-user t h c = absurd (grind arith)

    whole-alone : (t : Tree) → HasLevels t → Each Clear (parts is_procedure (0 ∷ []) [] t) → FollowersBeginAlone setup t
    whole-alone (act s (follows name t)) h c =
        λ place wanted to e.
        let m = follower-one s name t place wanted to e in
        (m.0.0, inr (top-steps t m.0 m.1), m.3, Each-Has IsAlone (tops t) m.0 (alone [] (0 ∷ 0 ∷ []) (resources_needed s.needs) t h c.1) m.1)
    whole-alone t h c = absurd (grind arith)

    abbrev AsksInOrder : Node → Type 0
    AsksInOrder n = RiseStrictly rank n.asked

    recipe-down : (r : Recipe) → IsProcedure r.procedure → Each Clear (procedure_parts r) → IsClearedDown setup rank r
    recipe-down r h c =
        record {
          placed = h.placed;
          rising =
              paths-down rank (0 ∷ []) r.procedure
              (subst (Each AsksInOrder) (parts-nodes is_procedure (0 ∷ []) [] r.procedure)
              (Each-image AsksInOrder (λ x. x.node) (procedure_parts r) (Each-map Clear (λ x. AsksInOrder x.node) (λ x k. k.rising) (procedure_parts r) c)));
          in_units = whole-in_units r.procedure h.levels c;
          offered = phases-offered is_procedure (0 ∷ []) [] r.procedure c;
          single = whole-one-user r.procedure h.levels c;
          reserved = h.reserved;
          followed = whole-alone r.procedure h.levels c;
          avoided = followers-avoided r.procedure h.placed h.levels;
        }

-- Pairs that bind every role serve, so the control recipe of a batch is cleared

each-served : (master : Master) (pairs : List (Name × Name)) (roles : List Role) → list_all (λ role. is_among role.candidates (bound_by pairs role.name)) roles ≡ true
    → Each (λ role. IsTrue (master.names_role role.name) → IsTrue (is_among role.candidates (bound_by pairs role.name))) roles
each-served master pairs [] h = tt
each-served master pairs (role ∷ roles) h =
    let k = and_parts (is_among role.candidates (bound_by pairs role.name)) (list_all (λ role. is_among role.candidates (bound_by pairs role.name)) roles) h in
    (λ u. k.0, each-served master pairs roles k.1)

pub binding-serves : (master : Master) (pairs : List (Name × Name)) → is_binding master.roles pairs ≡ true → IsServed master (bound_by pairs)
binding-serves master pairs e =
    let declared : Bool = list_all (λ pair. is_among (map (λ role. role.name) master.roles) pair.0) pairs in
    each-served master pairs master.roles (and_parts declared _ (and_parts (are_distinct (map (λ pair. pair.0) pairs)) _ e).1).1

pub control-clear : (setup : Setup) (rank : Ranking) → IsCleared setup rank → (r : Recipe) → IsControl setup r → Each (IsClear setup rank) (procedure_parts r)
control-clear setup rank c r (master, known, (pairs, is, made)) =
    subst (λ z. Each (IsClear setup rank) (procedure_parts z)) (sym made)
    ((Each-Has (IsClearedRecipe setup rank) setup.recipes master c.recipes known).1 (bound_by pairs) (binding-serves master pairs is)).clear

pub control-procedure : (setup : Setup) → IsOfDocuments setup → (r : Recipe) → IsControl setup r → IsProcedure r.procedure
control-procedure setup h r (master, known, (pairs, is, made)) =
    subst (λ z. IsProcedure z.procedure) (sym made)
    (Each-Has (λ master. (bound : Binding) → IsProcedure (master.control bound).procedure) setup.recipes master h.procedures known (bound_by pairs))

pub cleared-down : (setup : Setup) (rank : Ranking) → IsOfDocuments setup → IsCleared setup rank → AreClearedDown setup rank
cleared-down setup rank h c =
    record { recipes = λ r k. recipe-down setup rank h.exclusive r (control-procedure setup h r k) (control-clear setup rank c r k) }
