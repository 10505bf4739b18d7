use Rattle.batch_recipe.proofs.PlacesInBindings.{places_stay}
use Rattle.batch_recipe.proofs.laws.places_stay.Goals as goal

pub returns : goal.returns
returns c = places_stay
