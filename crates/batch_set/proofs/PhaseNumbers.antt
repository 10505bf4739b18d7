-- The phases of a cell are found by their numbers.
use Rattle.std.proofs.Common.{◌≡◌, arith, ℕ, zero, suc, ◌+◌, ◌<◌, List, [], ◌∷◌, ◌++◌, length, Bool, true, false, if◌then◌else◌, nat_eq, Option, Some, None, position, slice_get, inl, inr, refl, sym, ap, ◌∙◌, subst}
use Rattle.std.{specs.List.list_any, specs.Option.is_some, specs.Prelude.flat_map, specs.Prelude.option_and_then, specs.Prelude.option_map, specs.Prelude.unwrap_or, specs.Cmp.Lexicographic.bytes_decides, specs.Cmp.Lexicographic.pointwise, proofs.lemmas.Bool.false≢true, proofs.lemmas.Bool.or_left, proofs.lemmas.Bool.or_right, proofs.lemmas.Bool.or_cases, proofs.lemmas.List.length-map, proofs.lemmas.List.Folds.list_any-append, proofs.lemmas.Option.slice_get-map}
use Rattle.indexmap.specs.IndexSet.{insert_all, insert_key}
use Rattle.batch_cell.specs.{Equipment.belongs_to, Equipment.phases_for, LookUps.phases_of, declared.cell.Cell.Cell, declared.module.Module.Module, declared.unit.Unit.Unit}
use Rattle.batch_recipe.specs.{Conditions.Name, Conditions.same_name, declared.act.Work.Work, declared.act.Work.TheVariants.Follows, declared.act.Work.TheVariants.Runs}
use Rattle.batch_set.{specs.Linking.ArePhasesOf, specs.Linking.numbers_on, specs.Linking.numbers_on_each, specs.Linking.cell_phase_names, specs.Linking.phases_in, specs.Linking.run_phase_number, specs.Linking.run_of, specs.Linking.run_phase, specs.Looked.offered_on, specs.Sources.PhasesSayNames, specs.declared.cell_phases.CellPhases.CellPhases, proofs.TableRows.row-there, proofs.Positions.any-position, proofs.Positions.found-any, proofs.Positions.name-at}

module _ (name : Name) where
  any-front : (xs ys : List Name) → list_any (same_name name) xs ≡ true → list_any (same_name name) (xs ++ ys) ≡ true
  any-front xs ys h = list_any-append (same_name name) xs ys ∙ or_left (list_any (same_name name) xs) (list_any (same_name name) ys) h

  any-back : (xs ys : List Name) → list_any (same_name name) ys ≡ true → list_any (same_name name) (xs ++ ys) ≡ true
  any-back xs ys h = list_any-append (same_name name) xs ys ∙ or_right (list_any (same_name name) xs) (list_any (same_name name) ys) h

  -- Names that are put into a set

  kept : (keys : List Name) (key : Name) → list_any (same_name name) keys ≡ true → list_any (same_name name) (insert_key (pointwise nat_eq) keys key) ≡ true
  kept keys key h = go (list_any (same_name key) keys)
    where
      go : (t : Bool) → list_any (same_name name) (if t then keys else keys ++ key ∷ []) ≡ true
      go true = h
      go false = any-front keys (key ∷ []) h

  added : (keys : List Name) (key : Name) → same_name name key ≡ true → list_any (same_name name) (insert_key (pointwise nat_eq) keys key) ≡ true
  added keys key h = go (list_any (same_name key) keys) refl
    where
      go : (t : Bool) → list_any (same_name key) keys ≡ t → list_any (same_name name) (if t then keys else keys ++ key ∷ []) ≡ true
      go true e = subst (λ z. list_any (same_name z) keys ≡ true) (sym ((bytes_decides name key).0 h)) e
      go false e = any-back keys (key ∷ []) (or_left (same_name name key) false h)

  stays : (names keys : List Name) → list_any (same_name name) keys ≡ true → list_any (same_name name) (insert_all (pointwise nat_eq) keys names) ≡ true
  stays [] keys h = h
  stays (x ∷ names) keys h = stays names (insert_key (pointwise nat_eq) keys x) (kept keys x h)

  inserted : (names keys : List Name) → list_any (same_name name) names ≡ true → list_any (same_name name) (insert_all (pointwise nat_eq) keys names) ≡ true
  inserted [] keys h = absurd (false≢true h)
  inserted (x ∷ names) keys h = elim (or_cases (same_name name x) (list_any (same_name name) names) h) [
    | inl own ↦ stays names (insert_key (pointwise nat_eq) keys x) (added keys x own)
    | inr later ↦ inserted names (insert_key (pointwise nat_eq) keys x) later
  ]

  -- a phase that a unit offers is one of a module
  of-modules : (unit : Name) (ms : List Module) → list_any (same_name name) (flat_map (phases_for unit) ms) ≡ true → list_any (same_name name) (flat_map phases_in ms) ≡ true
  of-modules unit [] h = absurd (false≢true h)
  of-modules unit (m ∷ ms) h = go (belongs_to unit m) (of-modules unit ms) h
    where
      go : (t : Bool) → (list_any (same_name name) (flat_map (phases_for unit) ms) ≡ true → list_any (same_name name) (flat_map phases_in ms) ≡ true)
          → list_any (same_name name) ((if t then m.phases.items else []) ++ flat_map (phases_for unit) ms) ≡ true
          → list_any (same_name name) (m.phases.items ++ flat_map phases_in ms) ≡ true
      go false later f = any-back m.phases.items (flat_map phases_in ms) (later f)
      go true later f = elim (or_cases (list_any (same_name name) m.phases.items) _ (sym (list_any-append (same_name name) m.phases.items (flat_map (phases_for unit) ms)) ∙ f)) [
        | inl own ↦ any-front m.phases.items (flat_map phases_in ms) own
        | inr others ↦ any-back m.phases.items (flat_map phases_in ms) (later others)
      ]

-- a phase that a unit offers is among the phases of the cell
phase-known : (cell : Cell) (phases : CellPhases) → ArePhasesOf cell phases → (phase : Name) (unit number : ℕ) → position (same_name phase) (phases_of cell unit) ≡ Some number
    → (k : ℕ) × (position (same_name phase) phases.names.keys ≡ Some k)
phase-known cell phases p phase unit number e =
    let offered : list_any (same_name phase) (phases_of cell unit) ≡ true = sym (found-any (same_name phase) (phases_of cell unit)) ∙ ap is_some e in
    let among : list_any (same_name phase) (cell_phase_names cell) ≡ true = inserted phase (flat_map phases_in cell.modules.items) [] (of-modules phase _ cell.modules.items offered) in
    any-position (same_name phase) phases.names.keys (ap (list_any (same_name phase)) p.names ∙ among)

-- the number on a unit
number-at : (cell : Cell) (phase : Name) (units : List Unit) (n i : ℕ) → i < length units → slice_get (numbers_on_each cell phase n units) i ≡ Some (position (same_name phase) (phases_of cell (n + i)))
number-at cell phase [] n i within = absurd (omega (arith, within))
number-at cell phase (unit ∷ units) n zero within = (let same : n ≡ n + 0 = omega arith in ap (λ k. let o : Option (Option ℕ) = Some (position (same_name phase) (phases_of cell k)) in o) same)
number-at cell phase (unit ∷ units) n (suc i) within =
    let same : n + 1 + i ≡ n + suc i = omega arith in
    number-at cell phase units (n + 1) i (omega (arith, within)) ∙ ap (λ k. let o : Option (Option ℕ) = Some (position (same_name phase) (phases_of cell k)) in o) same

run-found : (names : List Name) (work : Work) (phase : Name) → run_phase work ≡ Some phase → run_of names work ≡ position (same_name phase) names
run-found names (Follows chart) phase e = absurd cc
run-found names (Runs own values reports) phase e = (let same : own ≡ phase = cc in ap (λ (z : Name). position (same_name z) names) same)

pub phases-said : PhasesSayNames
phases-said cell phases p r linked h step a phase at runs unit number within offered =
    let names : List Name = phases.names.keys in
    let known = phase-known cell phases p phase unit number offered in
    let run : unwrap_or (slice_get linked.runs.items step) None ≡ Some known.0 =
    ap (λ (xs : List (Option ℕ)). unwrap_or (slice_get xs step) None) h.runs
    ∙ (ap (λ (o : Option (Option ℕ)). unwrap_or o None) (slice_get-map (run_phase_number names) r.acts.phases.items step ∙ ap (option_map (run_phase_number names)) at)
    ∙ (run-found names a.work phase runs ∙ known.1)) in
    let on : offered_on phases known.0 unit ≡ Some number =
    ap (λ (row : List (Option ℕ)). unwrap_or (slice_get row unit) None)
    (row-there (numbers_on cell) phases.numbers.items names p.numbers known.0 phase (name-at names phase known.0 known.1))
    ∙ (ap (λ (o : Option (Option ℕ)). unwrap_or o None) (number-at cell phase cell.units.items 0 unit (omega (arith, within, length-map cell.units.items (λ (u : Unit). u.name))))
    ∙ (ap (λ k. position (same_name phase) (phases_of cell k)) (let same : 0 + unit ≡ unit = omega arith in same) ∙ offered)) in
    ap (λ (o : Option ℕ). option_and_then (λ k. offered_on phases k unit) o) run ∙ on
