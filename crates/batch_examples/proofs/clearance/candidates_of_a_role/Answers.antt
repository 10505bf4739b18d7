use Rattle.std.proofs.Common.{◌≡◌, ◌⊎◌, ⊎_elim, inl, inr, refl, sym, subst, arith, [], ◌∷◌, Bool, true, false, ◌||◌, IsTrue, bytes_eq}
use Rattle.std.proofs.lemmas.Slice.Eq.{bytes_eq-Decides}
use Rattle.batch_recipe.specs.{Conditions.Name, WellFormed.is_among}
use Rattle.batch_model.specs.Cleared.{IsClearedControl}
use Rattle.batch_examples.specs.{RowDocuments.r1, RowDocuments.r2, RowDocuments.hdr, RowDocuments.rx, RowDocuments.master_b, RowsOfClearance.with_master, RowsOfClearance.units_first}
use Rattle.batch_examples.proofs.clearance.candidates_of_a_role.Goals as goal

either : (u : Name) → IsTrue (is_among (r1 ∷ r2 ∷ []) u) → (u ≡ r1) ⊎ (u ≡ r2)
either u h = go (bytes_eq u r1) (bytes_eq u r2) refl refl h
  where
    go : (a b : Bool) → bytes_eq u r1 ≡ a → bytes_eq u r2 ≡ b → IsTrue (a || (b || false)) → (u ≡ r1) ⊎ (u ≡ r2)
    go true b e f k = inl ((bytes_eq-Decides u r1).0 e)
    go false true e f k = inr ((bytes_eq-Decides u r2).0 f)
    go false false e f k = absurd cc

-- the recipe is clear with the unit in the role
abbrev ClearOn : Name → Type 0
ClearOn unit = IsClearedControl (with_master master_b) units_first (master_b.control (λ role. unit))

on_r1 : ClearOn r1
on_r1 = grind arith

on_r2 : ClearOn r2
on_r2 = grind arith

pub returns-clause-each : goal.returns-clause-each
returns-clause-each c = record {
  names_differ = refl;
  few = omega arith;
  recipes = (
    (
      (λ u. (r1, refl), tt),
      λ bound s. ⊎_elim (λ e. subst ClearOn (sym e) on_r1) (λ e. subst ClearOn (sym e) on_r2) (either (bound rx) (s.0 refl)),
    ),
    tt,
  );
}

pub returns-clause-one : goal.returns-clause-one
returns-clause-one c = λ rank h. grind (arith, (h.recipes.0.1 (λ role. r2) (λ u. refl, tt)).clear)

pub returns-clause-header : goal.returns-clause-header
returns-clause-header c = λ rank h. grind (arith, (h.recipes.0.1 (λ role. hdr) (λ u. refl, tt)).clear)

pub returns-clause-none : goal.returns-clause-none
returns-clause-none c = λ rank h. grind (arith, (h.recipes.0.0.0 refl).1)
