use Rattle.std.proofs.Common.{◌≡◌, ℕ, List, ◌∙◌, subst, sym}
use Rattle.batch_recipe.specs.Texts.{place_text}
use Rattle.batch_engine.specs.Names.{recipe_place_at}
use Rattle.batch_verify.specs.ClearedSet.{ClearedSet}
use Rattle.batch_wire.{specs.Known.AreKnownBy, specs.Known.AreKnownIn, specs.declared.recipe_places.RecipePlaces.RecipePlaces, proofs.PlaceCache.found_with}
use Rattle.batch_wire.proofs.recipe_places.RecipePlaces.find.Goals as goal

held : (cleared : ClearedSet) (old new : RecipePlaces) → ((text_of : ℕ → List ℕ) → AreKnownBy text_of old → AreKnownBy text_of new) → new.recipe ≡ old.recipe → AreKnownIn cleared old → AreKnownIn cleared new
held cleared old new known recipe h =
    subst (λ r. AreKnownBy (λ node. place_text (recipe_place_at cleared r node)) new) (sym recipe) (known (λ node. place_text (recipe_place_at cleared old.recipe node)) h)

pub returns-then-not-hold_batch-clause-known : goal.returns-then-not-hold_batch-clause-known
returns-then-not-hold_batch-clause-known c = held c.args.cleared.now c.args.self.now c.hold_batch.new.self c.hold_batch.ensures.known c.hold_batch.ensures.recipe c.requires

pub find_place-requires : goal.find_place-requires
find_place-requires c = held c.args.cleared.now c.args.self.now c.hold_batch.new.self c.hold_batch.ensures.known c.hold_batch.ensures.recipe c.requires

pub returns-clause-found : goal.returns-clause-found
returns-clause-found c =
    found_with _ c.find_place.new.self c.args.site.batch _ _ c.find_place.ensures.known (c.find_place.ensures.batch ∙ c.hold_batch.ensures.holds c.if-not-hold_batch.false) c.find_place.ensures.found
