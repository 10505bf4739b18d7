-- surface: how charts are reached and go on by values alone, with nothing held in advance.
use Rattle.std.specs.Prelude.{ℕ, []}
use Rattle.batch_recipe.specs.Conditions.{ValueList}
use Rattle.batch_recipe.specs.Tree.{Tree, Trees, Choices}
use Rattle.batch_recipe.specs.declared.condition.Condition.{Condition}
use Rattle.batch_model.specs.Rest.{Moment, Rest, Rests, reach, reach_first, reach_each, reach_chosen, continued, turned, advance, advance_each}
use Rattle.batch_model.specs.Moves.{begun}

-- the moment with these values, at which nothing is held in advance
abbrev pub bare : ValueList → Moment
bare vs = record { values = vs; early = [] }

abbrev pub reach_by : ValueList → Tree → Rest
reach_by vs c = reach (bare vs) c

abbrev pub reach_first_by : ValueList → Trees → Rest
reach_first_by vs ts = reach_first (bare vs) ts

abbrev pub reach_each_by : ValueList → Trees → Rests
reach_each_by vs ts = reach_each (bare vs) ts

abbrev pub reach_chosen_by : ValueList → Choices → Rest
reach_chosen_by vs ch = reach_chosen (bare vs) ch

abbrev pub continued_by : ValueList → Rest → Trees → Rest
continued_by vs r ts = continued (bare vs) r ts

abbrev pub turned_by : ValueList → ℕ → Condition → Tree → Rest → Rest
turned_by vs k p body r = turned (bare vs) k p body r

abbrev pub advance_by : ValueList → Rest → Rest
advance_by vs r = advance (bare vs) r

abbrev pub advance_each_by : ValueList → Rests → Rests
advance_each_by vs rs = advance_each (bare vs) rs

abbrev pub begun_by : ValueList → Rest → Rest
begun_by vs r = begun (bare vs) r
