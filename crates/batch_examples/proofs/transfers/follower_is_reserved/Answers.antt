use Rattle.std.proofs.Common.{refl, arith, [], ◌∷◌}
use Rattle.batch_model.specs.{Lists.Each, Cleared.IsClear, Cleared.procedure_parts, Plant.Recipe}
use Rattle.batch_examples.specs.{RowParts.p001, RowsOfTransfers.cell_of, RowsOfTransfers.first_r1, RowsOfTransfers.recipe_e, RowsOfTransfers.e_with, RowsOfTransfers.make_then_keep, RowDocuments.heat, RowDocuments.add}
use Rattle.batch_recipe.specs.Diagram.{label, seq, diagrams_of}
use Rattle.batch_examples.proofs.transfers.follower_is_reserved.Goals as goal

abbrev Clear : Recipe → Type 0
Clear recipe = Each (IsClear (cell_of (recipe ∷ [])) first_r1) (procedure_parts recipe)

abbrev last_e : Recipe
last_e = e_with (seq (diagrams_of (label heat ∷ label add ∷ []))) make_then_keep

clear_e : Clear recipe_e
clear_e = grind arith

clear_last : Clear last_e
clear_last = grind arith

pub returns-clause-one : goal.returns-clause-one
returns-clause-one c = record {
  names_differ = refl;
  few = omega arith;
  recipes = ((tt, λ bound s. record { clear = clear_e; follow = (tt, (tt, (tt, (tt, (((p001, refl), tt), (tt, (tt, (tt, tt)))))))) }), tt);
}

pub returns-clause-last : goal.returns-clause-last
returns-clause-last c = record {
  names_differ = refl;
  few = omega arith;
  recipes = ((tt, λ bound s. record { clear = clear_last; follow = (tt, (tt, (tt, (tt, (tt, (tt, (((p001, refl), tt), (tt, (tt, (tt, tt)))))))))) }), tt);
}
