-- private: the change of the stages as a chart goes on from a finished node upwards.
use Rattle.std.specs.Prelude.{◌≡◌, ℕ, ◌+◌, List, length, Bool, true, false}
use Rattle.batch_recipe.specs.Conditions.{ValueList}
use Rattle.batch_recipe.specs.Nodes.{node_count}
use Rattle.batch_recipe.specs.Tree.{Trees, no_trees, tree}
use Rattle.batch_recipe.specs.declared.entry.Entry.{Entry}
use Rattle.batch_recipe.specs.declared.recipe.Recipe.{Recipe}
use Rattle.batch_chart.specs.declared.stage.Stage.{Stage}
use Rattle.batch_chart.specs.Advancing.{HasAdvanced}
use Rattle.batch_chart.specs.Outlined.{end_at, AreStanding}
use Rattle.batch_chart.specs.Meaning.{AgreeOutside}
use Rattle.batch_chart.specs.Neat.{AreNeat, AreBlank, SignsOutside}
use Rattle.batch_chart.specs.Stages.{stage_at, is_finished}
use Rattle.batch_chart.specs.Told.{AreTold}

-- all trees of the row from n on are finished by their stages
abbrev pub all_finished : Trees → ℕ → List Stage → Bool
all_finished no_trees n xs = true
all_finished (tree c ts) n xs = elim (is_finished (stage_at xs n)) [ true ↦ all_finished ts (n + node_count c) xs | false ↦ false ]

pub record AreFinished (ns : List Entry) (doc : Recipe) (n m : ℕ) (xs : List Stage) (result : Bool) : Type 0 where
  pub means : (ts : Trees) → AreStanding ns doc n m ts → result ≡ all_finished ts n xs

-- an act below n has been finished, which changed the stages xs to ws; the tree at n has gone on to ys, and nothing is left of it
pub record IsRisen (ns : List Entry) (doc : Recipe) (vs : ValueList) (xs ws : List Stage) (n : ℕ) (ys : List Stage) : Type 0 where
  pub before : length xs ≡ length ns
  pub after : length ws ≡ length ns
  pub told : AreTold ns doc 0 (length ns) xs
  pub same : AgreeOutside n (end_at ns n) xs ws
  pub left : is_finished (stage_at ws n) ≡ false
  pub advanced : HasAdvanced ns doc vs n ws ys true
  pub below : AreTold ns doc n (end_at ns n) ys

-- or something is left of it, or it isn't reached
pub record HasStopped (ns : List Entry) (doc : Recipe) (vs : ValueList) (xs ws : List Stage) (n : ℕ) (ys : List Stage) : Type 0 where
  pub finished : Bool
  pub told : AreTold ns doc 0 (length ns) xs
  pub same : AgreeOutside n (end_at ns n) xs ws
  pub stage : stage_at ws n ≡ stage_at xs n
  pub kept : is_finished (stage_at ys n) ≡ is_finished (stage_at ws n)
  pub advanced : HasAdvanced ns doc vs n ws ys finished
  pub below : AreTold ns doc n (end_at ns n) ys

abbrev pub HasPassed : List Entry → Recipe → ValueList → List Stage → List Stage → ℕ → List Stage → Bool → Type 0
HasPassed ns doc vs xs ws n ys true = IsRisen ns doc vs xs ws n ys
HasPassed ns doc vs xs ws n ys false = HasStopped ns doc vs xs ws n ys

-- the whole chart has gone on
pub record HasRisen (ns : List Entry) (doc : Recipe) (vs : ValueList) (ws ys : List Stage) : Type 0 where
  pub finished : Bool
  pub advanced : HasAdvanced ns doc vs 0 ws ys finished
  pub told : AreTold ns doc 0 (length ns) ys

-- the tree at n, of which something was left at the stages xs with the signs ms, has been finished, and has no signs
pub record IsNeatlyRisen (ns : List Entry) (doc : Recipe) (xs : List Stage) (ms : List ℕ) (n : ℕ) (ys : List Stage) (new : List ℕ) : Type 0 where
  pub count : length new ≡ length ms
  pub before : AreNeat ns doc 0 (length ns) xs ms
  pub was : is_finished (stage_at xs n) ≡ false
  pub same : AgreeOutside n (end_at ns n) xs ys
  pub signs : SignsOutside n (end_at ns n) ms new
  pub blank : AreBlank n (end_at ns n) ys new

-- or something is left of it still, and it is neat
pub record IsNeatlyLeft (ns : List Entry) (doc : Recipe) (xs : List Stage) (ms : List ℕ) (n : ℕ) (ys : List Stage) (new : List ℕ) : Type 0 where
  pub count : length new ≡ length ms
  pub before : AreNeat ns doc 0 (length ns) xs ms
  pub was : is_finished (stage_at xs n) ≡ false
  pub now : is_finished (stage_at ys n) ≡ false
  pub same : AgreeOutside n (end_at ns n) xs ys
  pub signs : SignsOutside n (end_at ns n) ms new
  pub neat : AreNeat ns doc n (end_at ns n) ys new

abbrev pub HasPassedNeatly : List Entry → Recipe → List Stage → List ℕ → ℕ → List Stage → List ℕ → Bool → Type 0
HasPassedNeatly ns doc xs ms n ys new true = IsNeatlyRisen ns doc xs ms n ys new
HasPassedNeatly ns doc xs ms n ys new false = IsNeatlyLeft ns doc xs ms n ys new

-- both, wherever the tree at n has been finished
abbrev pub PassesBy : List Entry → Recipe → ValueList → ℕ → List Stage → List ℕ → ℕ → List Stage → List ℕ → Bool → Type 0
PassesBy ns doc vs n ys old p zs new b =
    (xs ws : List Stage) (ms : List ℕ) → IsRisen ns doc vs xs ws n ys → IsNeatlyRisen ns doc xs ms n ys old → HasPassed ns doc vs xs ws p zs b × HasPassedNeatly ns doc xs ms p zs new b
