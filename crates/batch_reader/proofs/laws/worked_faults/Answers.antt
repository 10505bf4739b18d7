use Rattle.std.proofs.Common.{◌≡◌, ◌≢◌, ◌<◌, ◌≤◌, ◌&&◌, ℕ, true, List, [], ◌∷◌, length, Option, Some, None, position, suc, zero, ap, subst, sym, inl, inr, refl, codes, arith, lit<, lit≤, ◌∙◌, nat_eq}
use Rattle.std.{proofs.lemmas.Bool.false≢true, specs.Borrow.Bor, specs.Cmp.Lexicographic.pointwise, specs.List.list_all, specs.List.slice_get}
use Rattle.batch_cell.specs.{Equipment.HasDeclaredUnits, declared.module.Module.Module}
use Rattle.batch_text.specs.{NameText.IsName, NumberText.IsNumber}
use Rattle.toml.specs.Data.{Data, get_item, no_members, string, table}
use Rattle.batch_reader.{specs.ChartAnswer.IsOutsideAt, specs.ChartGrammar.IsLabel, specs.ChartGrammar.IsWideChart, specs.ChartGrammar.ReadsCond, specs.ChartGrammar.condition, specs.ChartGrammar.greater, specs.ChartGrammar.here, specs.ChartGrammar.loop as reads_loop, specs.ChartGrammar.no_offsets, specs.ChartGrammar.number, specs.ChartGrammar.whole, specs.ChartGrammar.skip as reads_skip, specs.declared.chart_reading.TheConstants.MAX_CHART_LEN, specs.Entries.IsNeedItem, specs.Keys.Key, specs.Keys.is_known, specs.Keys.keys_of, specs.Keys.needed, specs.Keys.optional, specs.NeedText.IsNeedCut, specs.NeedText.is_star, specs.PartFaults.Equipment, specs.PartFaults.HasUndeclaredUnit, specs.PartFaults.IsEquipmentFault, specs.RowsOfFaults.nameless, specs.RowsOfFaults.on_unit, specs.RowsOfFaults.for_role, specs.RowsOfFaults.no_turns, specs.RowsOfFaults.one_module, specs.RowsOfFaults.three_needs, specs.RowsOfFaults.with_keys, specs.TableFaults.HasTooManyUnits, specs.TableFaults.IsFaultOfTable, specs.TableFaults.IsNoNeed, specs.TableFaults.IsNoNeedCut, specs.TableFaults.IsTextThat, specs.TableFaults.NamesKey, specs.declared.fault.EntryFault.TheVariants.MissingKey, specs.declared.fault.EntryFault.TheVariants.Undeclared, specs.declared.fault.TableKind.TableKind, proofs.ChartOffsets.one_number, proofs.ChartOffsets.same_outside}
use Rattle.batch_recipe.specs.{Diagram.loop, Diagram.skip, declared.condition.Condition.Condition, declared.condition.Op.TheVariants.Greater, declared.condition.Term.TheVariants.Number, WellFormed.are_distinct, WellFormed.is_among, WellFormed.reserves_among, WellFormed.reserves_once, declared.act.Act.Act, declared.need.Need.Need}
use Rattle.batch_reader.specs.declared.fault.TableKind.TheVariants as table_kind
use Rattle.batch_reader.specs.declared.keys.ValueForm.TheVariants as form
use Rattle.batch_reader.proofs.laws.worked_faults.Goals as goal

-- no unit of a cell without any is MIXER
unit_is_missing : (m : Module) → m.unit ≡ Some (codes "MIXER") → HasDeclaredUnits [] (m ∷ []) → ⊥
unit_is_missing m unit all = grind arith

pub returns-clause-missing : goal.returns-clause-missing
returns-clause-missing c = λ key is.
    record { here = table no_members; found = refl; fault = inr (record { place = 0; key = needed (codes "name") form.Name; listed = refl; stands = refl; fault = (is, refl, refl) }); before = λ n d below. absurd (omega arith) }

-- the one key that a unit needs
name_is_needed : (place : ℕ) (key : Key) → slice_get (keys_of table_kind.Unit) place ≡ Some key → key.is_needed ≡ true → key.word ≡ codes "name"
name_is_needed zero key listed is_needed = let same : needed (codes "name") form.Name ≡ key = cc listed in rw (← same) refl
name_is_needed (suc zero) key listed is_needed = let same : optional (codes "class") form.Name ≡ key = cc listed in let none = rw (← same) at is_needed in absurd (false≢true none)
name_is_needed (suc (suc place)) key listed is_needed = absurd (cc listed)

nameless_lacks : (named : Option (Bor (List ℕ))) → IsFaultOfTable nameless table_kind.Unit 0 (MissingKey named) → NamesKey (codes "name") named
nameless_lacks named h =
    let same : table no_members ≡ h.here = cc h.found in
    let fault = rw (← same) at h.fault in
    elim fault [ inl u ↦ absurd (cc u.0) | inr k ↦ subst (λ word. NamesKey word named) (name_is_needed k.place k.key k.listed k.fault.1) k.fault.0 ]

pub returns-clause-no_other : goal.returns-clause-no_other
returns-clause-no_other c = (λ key is h. let same : codes "class" ≡ codes "name" = sym is ∙ nameless_lacks (Some key) h in cc same, λ h. nameless_lacks None h)

pub returns-clause-no_second : goal.returns-clause-no_second
returns-clause-no_second c = λ key h. cc h.found

pub returns-clause-known : goal.returns-clause-known
unfolding is_known
returns-clause-known c = λ h.
    let same : table no_members ≡ h.here = cc h.found in
    let fault = rw (← same) at h.fault in
    elim fault [ inl u ↦ cc u.1 | inr k ↦ k.fault ]

pub returns-clause-beside_role : goal.returns-clause-beside_role
unfolding is_known
returns-clause-beside_role c =
    record { here = table (with_keys (λ rest. on_unit (for_role rest))); found = refl; fault = inl (refl, refl); before = λ n d below. absurd (omega arith) }

pub returns-clause-role_alone : goal.returns-clause-role_alone
unfolding is_known
returns-clause-role_alone c = λ h.
    let same : table (with_keys for_role) ≡ h.here = cc h.found in
    let fault = rw (← same) at h.fault in
    elim fault [ inl u ↦ cc u.1 | inr k ↦ k.fault ]

pub returns-clause-neither : goal.returns-clause-neither
unfolding is_known
returns-clause-neither c = (
  λ key is. record { here = table (with_keys (λ rest. rest)); found = refl; fault = inr (record { place = 1; key = needed (codes "unit") form.Name; listed = refl; stands = refl; fault = (is, refl, refl) }); before = λ n d below. absurd (omega arith) },
  λ h.
      let same : table (with_keys (λ rest. rest)) ≡ h.here = cc h.found in
      let fault = rw (← same) at h.fault in
      elim fault [ inl u ↦ cc u.1 | inr k ↦ k.fault ],
)

is_steam : IsName (codes "STEAM")
is_steam = record { spelled = refl; short = lit≤ tt }

some_same : {X : Type 0} (a b : X) → Some a ≡ Some b → a ≡ b
some_same a b e = cc e

-- 2*STEAM has no name before its star
second_is_none : IsNoNeed (string (codes "2*STEAM"))
second_is_none = λ text found. subst (λ t. IsNoNeedCut (position is_star t) t) (some_same (codes "2*STEAM") text found) (λ both. false≢true both.0.spelled)

first_is_need : (n : ℕ) (d : Data) → n < 1 → get_item n three_needs ≡ Some d → (need : Need) × IsNeedItem d need
first_is_need zero d below found =
    subst (λ v. (need : Need) × IsNeedItem v need) (some_same (string (codes "STEAM")) d found) (record { resource = codes "STEAM"; units = 1 }, record { text = codes "STEAM"; found = refl; says = (is_steam, refl, refl) })
first_is_need (suc n) d below found = absurd (omega (arith, below))

no_need_is_need : (star : Option ℕ) (text : List ℕ) (need : Need) → IsNeedCut star text need → IsNoNeedCut star text → ⊥
no_need_is_need None text need is none = none is.0
no_need_is_need (Some star) text need is none = none (is.0, is.2.number)

pub returns-clause-second_need : goal.returns-clause-second_need
returns-clause-second_need c = record { here = string (codes "2*STEAM"); found = refl; fits = second_is_none; before = first_is_need }

pub returns-clause-no_other_need : goal.returns-clause-no_other_need
returns-clause-no_other_need c = (
  λ h. let first = subst IsNoNeed (sym (some_same (string (codes "STEAM")) h.here h.found)) h.fits in first (codes "STEAM") refl is_steam,
  λ h. let second = h.before 1 (string (codes "2*STEAM")) (lit< tt) refl in
      no_need_is_need (position is_star second.1.text) second.1.text second.0 second.1.says (second_is_none second.1.text second.1.found),
)

pub returns-clause-units : goal.returns-clause-units
returns-clause-units c = (
  record { text = codes "STEAM*0"; found = refl; fits = (record { some = lit< tt; digits = refl; short = lit≤ tt }, λ some few. let no : 1 ≤ 0 = some in omega (arith, no)) },
  record { text = codes "STEAM*1001"; found = refl; fits = (record { some = lit< tt; digits = refl; short = lit≤ tt }, λ some few. let no : 1001 ≤ 1000 = few in omega (arith, no)) },
  λ h.
      let fits : IsNumber (codes "1000") × (1 ≤ 1000 → 1000 ≤ 1000 → ⊥) =
      subst (λ t. HasTooManyUnits (position is_star t) t) (sym (some_same (codes "STEAM*1000") h.text h.found)) h.fits in
      fits.1 (lit≤ tt) (lit≤ tt),
)

pub returns-clause-first_byte : goal.returns-clause-first_byte
returns-clause-first_byte c = λ h. h.1.no_front (omega arith) (codes "kip") skip no_offsets (whole (reads_skip here) here)

is_0 : IsNumber (codes "0")
is_0 = record { some = lit< tt; digits = refl; short = lit≤ tt }

is_1 : IsNumber (codes "1")
is_1 = record { some = lit< tt; digits = refl; short = lit≤ tt }

is_p : IsLabel (codes "P")
is_p = record { name = record { spelled = refl; short = lit≤ tt }; free = refl }

abbrev above_1 : Condition
above_1 = record { name = codes "P"; op = Greater; term = Number 1 }

reads_above_1 : ReadsCond 16 (codes "P>1,skip)") (codes ",skip)") above_1 no_offsets
reads_above_1 = condition {name = codes "P"} here is_p (greater here) (number (codes "1") here is_1)

reads_no_turns : IsWideChart no_turns (loop 0 above_1 skip) (record { outside = 5 ∷ []; pars = [] })
reads_no_turns = whole (reads_loop {depth = 31} {offsets = no_offsets} {offsets2 = no_offsets} (codes "0") here here here is_0 here reads_above_1 here (reads_skip here) here) here

no_turns_at : IsOutsideAt no_turns 5
no_turns_at = record {
  wide = (loop 0 above_1 skip, [], [], reads_no_turns);
  no_chart = λ other chart.
      let never : ◌≡◌ {A = Option ℕ} (Some 5) None = same_outside no_turns _ other _ _ reads_no_turns chart.1 in
      cc never;
}

pub returns-clause-no_turns : goal.returns-clause-no_turns
returns-clause-no_turns c = (
  record { here = string no_turns; found = refl; fits = record { text = no_turns; found = refl; fits = no_turns_at } },
  λ offset other h.
      let same = some_same (string no_turns) h.here h.found in
      let fits = subst (IsTextThat (λ text. IsOutsideAt text offset)) (sym same) h.fits in
      let text = some_same no_turns fits.text fits.found in
      other (one_number no_turns offset 5 (subst (λ t. IsOutsideAt t offset) (sym text) fits.fits) no_turns_at),
)

pub returns-clause-short : goal.returns-clause-short
returns-clause-short c = λ key h.
    let same = some_same (string no_turns) h.1.here h.1.found in
    let fits = subst (IsTextThat (λ text. MAX_CHART_LEN < length text)) (sym same) h.1.fits in
    let text = some_same no_turns fits.text fits.found in
    let long : 16384 < 16 = subst (λ t. MAX_CHART_LEN < length t) (sym text) fits.fits in omega (arith, long)

pub returns-clause-undeclared : goal.returns-clause-undeclared
returns-clause-undeclared c = λ m key unit at_unit. inr (inr (inl (at_unit, record { before = refl; fails = unit_is_missing m unit })))

-- nothing but the unit of a module is undeclared in a cell
undeclared_unit : (e : Equipment) (kind : TableKind) (entry : ℕ) (key : Bor (List ℕ)) → IsEquipmentFault e kind entry (Undeclared key) → (key.now ≡ codes "unit") × HasUndeclaredUnit e kind entry
undeclared_unit e kind entry key (inl h) = absurd (cc h.0)
undeclared_unit e kind entry key (inr (inl h)) = absurd h.0
undeclared_unit e kind entry key (inr (inr (inl h))) = h
undeclared_unit e kind entry key (inr (inr (inr h))) = absurd h.0

pub returns-clause-no_later : goal.returns-clause-no_later
returns-clause-no_later c = λ m key unit h. unit_is_missing m unit (undeclared_unit (one_module m) table_kind.Module 1 key h).1.before

pub returns-clause-no_name : goal.returns-clause-no_name
returns-clause-no_name c = λ e kind entry key at_name h. false≢true (ap (pointwise nat_eq (codes "unit")) (sym at_name ∙ (undeclared_unit e kind entry key h).0))

pub returns-clause-no_reserve : goal.returns-clause-no_reserve
returns-clause-no_reserve c = λ outputs acts entry key at. (
  λ h. let same : codes "reserves" ≡ codes "reports" = sym at ∙ elim h [ inl d ↦ d.0 | inr u ↦ absurd u.0 ] in cc same,
  λ h. let same : codes "reserves" ≡ codes "reports" = sym at ∙ elim h [ inl d ↦ absurd d.0 | inr u ↦ u.0 ] in cc same,
)

pub returns-clause-no_chart : goal.returns-clause-no_chart
returns-clause-no_chart c = λ outputs acts entry key at h. let same : codes "chart" ≡ codes "values" = sym at ∙ elim h [ inl d ↦ absurd d.0 | inr u ↦ u.0 ] in cc same

pub returns-clause-counts : goal.returns-clause-counts
returns-clause-counts c = (inr (omega arith, refl), (λ h. elim h [ inl few ↦ omega (arith, few.0) | inr many ↦ omega (arith, many.1) ]), λ h. elim h [ inl few ↦ omega (arith, few.0) | inr many ↦ omega (arith, many.0) ])

-- KEEP isn't MAKE
keep_is_missing : (step : Act) → step.reserves.items ≡ codes "KEEP" ∷ [] → list_all (reserves_among (codes "MAKE" ∷ [])) (step ∷ []) ≢ true
keep_is_missing step is all = false≢true (sym (ap (λ names. list_all (is_among (codes "MAKE" ∷ [])) names && true) is) ∙ all)

keep_is_named : (step : Act) → step.reserves.items ≡ codes "KEEP" ∷ [] → list_all (reserves_among (codes "MAKE" ∷ codes "KEEP" ∷ [])) (step ∷ []) ≡ true
keep_is_named step is = ap (λ names. list_all (is_among (codes "MAKE" ∷ codes "KEEP" ∷ [])) names && true) is

keep_stands_twice : (step : Act) → step.reserves.items ≡ codes "KEEP" ∷ codes "KEEP" ∷ [] → list_all reserves_once (step ∷ []) ≢ true
keep_stands_twice step is all = false≢true (sym (ap (λ names. are_distinct names && true) is) ∙ all)

pub returns-clause-undeclared_reserve : goal.returns-clause-undeclared_reserve
returns-clause-undeclared_reserve c = λ step key is at. inr (at, record { before = refl; fails = keep_is_missing step is })

pub returns-clause-declared_reserve : goal.returns-clause-declared_reserve
returns-clause-declared_reserve c = λ step key is h. elim h [ inl d ↦ d.0 | inr u ↦ u.1.fails (keep_is_named step is) ]

pub returns-clause-reserve_twice : goal.returns-clause-reserve_twice
returns-clause-reserve_twice c = λ step key is at. inl (at, record { before = refl; fails = keep_stands_twice step is })
