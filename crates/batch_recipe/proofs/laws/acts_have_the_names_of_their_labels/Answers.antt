use Rattle.batch_recipe.proofs.NodeLabels.{label_of_act}
use Rattle.batch_recipe.proofs.laws.acts_have_the_names_of_their_labels.Goals as goal

pub returns : goal.returns
returns c = label_of_act
