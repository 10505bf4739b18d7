-- private: the results of the parts of the check of recipes.
use Rattle.std.specs.Prelude.{ℕ, ◌≡◌, List, length, ⊤}
use Rattle.batch_cell.specs.LookUps.{resources_of}
use Rattle.batch_cell.specs.declared.cell.Cell as equipment
use Rattle.batch_recipe.specs.declared.recipe.Recipe as document
use Rattle.batch_model.specs.Lists.{Each}
use Rattle.batch_model.specs.Cleared.{HasCandidates}
use Rattle.batch_model.specs.Plant.{Setup}
use Rattle.batch_model.specs.Setups.{setup_of}
use Rattle.batch_verify.specs.Refusals.{rank_in}
use Rattle.batch_check.specs.declared.edge.Edge.{Edge}
use Rattle.batch_check.specs.declared.fault.CheckFault.{CheckFault}
use Rattle.batch_check.specs.declared.fault.CheckFault.TheVariants as fault
use Rattle.batch_check.specs.declared.ranking.Ranking.{Ranking}
use Rattle.batch_check.specs.declared.ranking.Ranking.TheVariants.{Ranks, Circle}
use Rattle.batch_check.specs.ByName.{BeginsWithLeastName}
use Rattle.batch_check.specs.Checking.{IsFirstUnsound}
use Rattle.batch_check.specs.Clearing.{StandsAsCircle, NeedResources, RiseLeast}
use Rattle.batch_check.specs.LeastRanking.{IsEdgeCircle, IsLeastRanking}
use Rattle.batch_check.specs.Shortest.{IsShortest}
use Rattle.batch_check.specs.TightRanks.{RanksTightly}

-- the least ranking, or a circle
abbrev pub IsRankingOf : ℕ → List Edge → Ranking → Type 0
IsRankingOf count edges (Ranks ranks) = IsLeastRanking count edges ranks.items
IsRankingOf count edges (Circle circle) = IsEdgeCircle edges circle.items

-- a fault of a recipe, if recipes alone were checked
abbrev pub IsRecipeFault : Setup → CheckFault → Type 0
IsRecipeFault setup (fault.Recipe k broken) = IsFirstUnsound setup setup.recipes k broken
IsRecipeFault setup fault.Memory = ⊤
IsRecipeFault setup _ = ⊥

-- a circle, if the orders of needs alone were checked
abbrev pub IsCircleFault : equipment.Cell → List document.Recipe → CheckFault → Type 0
IsCircleFault c recipes (fault.Circle circle) = StandsAsCircle c recipes circle.items × BeginsWithLeastName c circle.items × IsShortest c recipes circle.items
IsCircleFault c recipes fault.Memory = ⊤
IsCircleFault c recipes _ = ⊥

-- the ranks of all resources by number, which are the least that rise along all paths
pub record AreLeastRanks (c : equipment.Cell) (recipes : List document.Recipe) (ranks : List ℕ) : Type 0 where
  pub complete : length ranks ≡ length (resources_of c)
  pub rising : NeedResources c recipes → RiseLeast c recipes (rank_in c ranks)
  pub tight : Each HasCandidates (setup_of c recipes).recipes → NeedResources c recipes → RanksTightly c recipes (rank_in c ranks)
