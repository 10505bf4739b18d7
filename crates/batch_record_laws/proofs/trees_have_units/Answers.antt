use Rattle.batch_record_laws.proofs.Levels.{trees_are_procedures, recipes_are_procedures}
use Rattle.batch_record_laws.proofs.trees_have_units.Goals as goal

pub returns-clause-trees : goal.returns-clause-trees
returns-clause-trees c = trees_are_procedures

pub returns-clause-recipes : goal.returns-clause-recipes
returns-clause-recipes c = recipes_are_procedures
