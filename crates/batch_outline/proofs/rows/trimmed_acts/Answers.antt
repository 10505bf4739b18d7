use Rattle.std.proofs.Common.{◌≡◌, ℕ, zero, suc, refl, ap, inl, inr}
use Rattle.batch_recipe.specs.declared.acts.LabelTable.{LabelTable, TheVariants.UnitProcedures, TheVariants.Operations}
use Rattle.batch_recipe.specs.declared.entry.Kind.TheVariants as kind
use Rattle.batch_outline.specs.{RowsOfTrimmed.first_operation, Trimmed.HasNode}
use Rattle.batch_outline.proofs.rows.trimmed_acts.Goals as goal

-- the only act is that of the second entry
only : (table : LabelTable) (number : ℕ) → HasNode first_operation table number → kind.Act Operations 0 ≡ kind.Act table number
only table number (zero, e, at, is) = absurd cc
only table number (suc zero, e, at, is) = cc
only table number (suc (suc k), e, at, is) = absurd cc

second : HasNode first_operation Operations 1 → ⊥
second has = let clash : kind.Act Operations 0 ≡ kind.Act Operations 1 = only Operations 1 has in cc

pub returns-clause-first : goal.returns-clause-first
returns-clause-first c = (1, _, refl, refl)

pub returns-clause-second : goal.returns-clause-second
returns-clause-second c = second

pub returns-clause-other_table : goal.returns-clause-other_table
returns-clause-other_table c has = let clash : kind.Act Operations 0 ≡ kind.Act UnitProcedures 0 = only UnitProcedures 0 has in cc

pub returns-clause-of_node : goal.returns-clause-of_node
returns-clause-of_node c whole trimmed (inl is) = is
returns-clause-of_node c whole trimmed (inr (nowhere, _)) = absurd (nowhere (1, _, refl, refl))

pub returns-clause-of_other : goal.returns-clause-of_other
returns-clause-of_other c whole trimmed (inl is) other = absurd (other is)
returns-clause-of_other c whole trimmed (inr (_, dropped)) other = dropped.work

pub returns-clause-name : goal.returns-clause-name
returns-clause-name c whole trimmed (inl is) = ap (λ a. a.name) is
returns-clause-name c whole trimmed (inr (_, dropped)) = dropped.name
