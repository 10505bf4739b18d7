-- surface: charts whose signs go by the stages, and in which all nodes but the reached ones are finished.
use Rattle.std.specs.Prelude.{◌≡◌, ◌⊎◌, ◌<◌, ◌≤◌, ℕ, ◌+◌, List, length, Bool, true, false, is_none, not}
use Rattle.batch_recipe.specs.Nodes.{node_count}
use Rattle.batch_recipe.specs.Tree.{Task, runs, follows, Tree, act, skip, seq, par, sel, loop}
use Rattle.batch_recipe.specs.declared.entry.Entry.{Entry}
use Rattle.batch_recipe.specs.declared.recipe.Recipe.{Recipe}
use Rattle.batch_chart.specs.declared.stage.Stage.{Stage}
use Rattle.batch_chart.specs.declared.stage.Stage.TheVariants.{Finished, Open}
use Rattle.batch_chart.specs.Outlined.{end_at, Stands}
use Rattle.batch_chart.specs.Noting.{open_signs, stage_signs}
use Rattle.batch_signs.specs.Signs.{sign_at}
use Rattle.batch_chart.specs.Stages.{stage_at, is_finished, is_begun, turns_of}

-- the node runs its descendants
abbrev pub runs_below : Tree → Stage → Bool
runs_below (act s w) x = is_begun x
runs_below skip x = false
runs_below (seq ts) x = is_begun x
runs_below (par ts) x = is_begun x
runs_below (sel ch) x = is_begun x
runs_below (loop n c body) x = not (is_none (turns_of x))

-- only one branch of the node can run
abbrev pub is_single : Tree → Bool
is_single (seq ts) = true
is_single (sel ch) = true
is_single _ = false

abbrev pub AllFinished : ℕ → ℕ → List Stage → Type 0
AllFinished n m xs = (k : ℕ) → n ≤ k → k < m → stage_at xs k ≡ Finished

-- if a branch of the row from n to m isn't finished, all others are
abbrev pub IsLone : List Entry → ℕ → ℕ → List Stage → Type 0
IsLone ns n m xs = (i : ℕ) → n ≤ i → i < m → ((q : ℕ) → n ≤ q → q < i → end_at ns q ≤ i) → is_finished (stage_at xs i) ≡ false
    → (k : ℕ) → n ≤ k → k < m → (k < i) ⊎ (end_at ns i ≤ k) → stage_at xs k ≡ Finished

-- the signs of an act with so many needs and a chart, of which nothing is left if it is over
abbrev pub act_shows : ℕ → Stage → Bool → ℕ
act_shows needs Open over = open_signs needs over
act_shows needs x over = stage_signs needs x

abbrev pub step_shows : ℕ → Task → Stage → Bool → ℕ
step_shows needs (runs p) x over = stage_signs needs x
step_shows needs (follows name c) x over = act_shows needs x over

-- nodes that are no acts have no signs
abbrev pub shown_of : Tree → Stage → Bool → ℕ
shown_of (act s w) x over = step_shows (length s.needs) w x over
shown_of _ x over = 0

-- node n has its signs; its descendants are finished if it doesn't run them; one branch at most runs if only one can
pub record IsNeat (ns : List Entry) (c : Tree) (n : ℕ) (xs : List Stage) (signs : List ℕ) : Type 0 where
  pub shut : runs_below c (stage_at xs n) ≡ false → AllFinished (n + 1) (n + node_count c) xs
  pub lone : is_single c ≡ true → IsLone ns (n + 1) (n + node_count c) xs
  pub shown : sign_at signs n ≡ shown_of c (stage_at xs n) (is_finished (stage_at xs (n + 1)))

-- so are all nodes from n to m
abbrev pub AreNeat : List Entry → Recipe → ℕ → ℕ → List Stage → List ℕ → Type 0
AreNeat ns doc n m xs signs = (j : ℕ) (c : Tree) → n ≤ j → j < m → Stands ns doc j c → IsNeat ns c j xs signs

-- the nodes from n to m are finished, and have no signs
abbrev pub AreBlank : ℕ → ℕ → List Stage → List ℕ → Type 0
AreBlank n m xs signs = (k : ℕ) → n ≤ k → k < m → (stage_at xs k ≡ Finished) × (sign_at signs k ≡ 0)

-- the signs are the same but from n to m
abbrev pub SignsOutside : ℕ → ℕ → List ℕ → List ℕ → Type 0
SignsOutside n m old new = (k : ℕ) → (k < n) ⊎ (m ≤ k) → sign_at new k ≡ sign_at old k

-- the tree at n has been reached; it is neat if it was blank
pub record IsReachedNeatly (ns : List Entry) (doc : Recipe) (n : ℕ) (xs ys : List Stage) (old new : List ℕ) : Type 0 where
  pub count : length new ≡ length old
  pub outside : SignsOutside n (end_at ns n) old new
  pub neat : AreBlank n (end_at ns n) xs old → AreNeat ns doc n (end_at ns n) ys new

-- so have branches from n to m; `before`: nothing is left of those before them; `single`: one of them alone runs
pub record IsRowNeat (ns : List Entry) (doc : Recipe) (n m : ℕ) (single before : Bool) (xs ys : List Stage) (old new : List ℕ) (finished : Bool) : Type 0 where
  pub count : length new ≡ length old
  pub outside : SignsOutside n m old new
  pub neat : AreBlank n m xs old → AreNeat ns doc n m ys new
  pub over : AreBlank n m xs old → finished ≡ true → (before ≡ true) × AllFinished n m ys
  pub lone : single ≡ true → AreBlank n m xs old → IsLone ns n m ys
