-- trusted: the rest of a recipe while a batch runs, as a term.
use Rattle.std.specs.Prelude.{ℕ, zero, suc, pred, List, [], ◌∷◌, ◌++◌, length, take, Bool, true, false, ◌&&◌, nat_eq}
use Rattle.std.specs.List.{list_any}
use Rattle.std.specs.Cmp.Lexicographic.{pointwise}
use Rattle.batch_matrix.specs.declared.state.State.{State}
use Rattle.batch_recipe.specs.Conditions.{ValueList, holds}
use Rattle.batch_recipe.specs.declared.condition.Condition.{Condition}
use Rattle.batch_recipe.specs.Tree.{Place, Step, Phase, Tree, act, skip, seq, par, sel, loop, Task, Trees, no_trees, tree, Choices, otherwise, choice}

abbrev pub same_place : Place → Place → Bool
same_place = pointwise nat_eq

mutual
  pub data Rest : Type 0 where
    -- reached, and holds so many of its first needs
    ready : Step → Task → ℕ → Rest
    -- holds so many of its first needs and waits in the queue for the next
    asking : Step → Task → ℕ → Rest
    -- begun, holds all its needs; with the rest of its chart
    open_act : Step → Rest → Rest
    -- a begun phase, holds all its needs
    live : Step → Phase → State → Rest
    -- ended, and holds so many of its first needs still
    freeing : Step → ℕ → Rest
    -- the branch that runs, and the charts after it
    in_seq : Rest → Trees → Rest
    in_par : Rests → Rest
    -- the number of turns that may follow, and the rest of this one
    in_loop : ℕ → Condition → Tree → Rest → Rest
    done : Rest

  pub data Rests : Type 0 where
    no_rests : Rests
    rest : Rest → Rests → Rests

abbrev pub is_done : Rest → Bool
is_done done = true
is_done _ = false

abbrev pub all_done : Rests → Bool
all_done no_rests = true
all_done (rest remaining rests) = is_done remaining && all_done rests

-- `par` is finished when all branches are
abbrev pub joined : Rests → Rest
joined rests = elim (all_done rests) [ true ↦ done | false ↦ in_par rests ]

-- a body in which nothing is left to run is finished in all its turns
abbrev pub turning : ℕ → Condition → Tree → Rest → Rest
turning turns until body remaining = elim (is_done remaining) [ true ↦ done | false ↦ in_loop turns until body remaining ]

-- the input of a chart that is reached: the values of the batch, and the places that hold their units in advance
pub record Moment : Type 0 where
  pub values : ValueList
  pub early : List Place

-- the number of its first needs that a just reached act holds: its unit, the first of them, if it holds that in advance, else none
abbrev pub held_early : List Place → Step → ℕ
held_early early step = elim (list_any (same_place step.place) early) [ true ↦ length (take 1 step.needs) | false ↦ 0 ]

-- the rest of a chart that has just been reached
abbrev mutual
  pub reach : Moment → Tree → Rest
  reach moment (act step task) = ready step task (held_early moment.early step)
  reach moment skip = done
  reach moment (seq charts) = reach_first moment charts
  reach moment (par charts) = joined (reach_each moment charts)
  reach moment (sel choices) = reach_chosen moment choices
  reach moment (loop turns until body) = turning (pred turns) until body (reach moment body)

  -- one branch after the other
  pub reach_first : Moment → Trees → Rest
  reach_first moment no_trees = done
  reach_first moment (tree chart charts) =
      let remaining = reach moment chart in elim (is_done remaining) [ true ↦ reach_first moment charts | false ↦ in_seq remaining charts ]

  pub reach_each : Moment → Trees → Rests
  reach_each moment no_trees = no_rests
  reach_each moment (tree chart charts) = rest (reach moment chart) (reach_each moment charts)

  -- the first branch whose condition holds, else the last
  pub reach_chosen : Moment → Choices → Rest
  reach_chosen moment (otherwise chart) = reach moment chart
  reach_chosen moment (choice condition chart choices) =
      elim (holds moment.values condition) [ true ↦ reach moment chart | false ↦ reach_chosen moment choices ]

-- a branch of `seq` that is finished gives way to the next
abbrev pub continued : Moment → Rest → Trees → Rest
continued moment remaining charts = elim (is_done remaining) [ true ↦ reach_first moment charts | false ↦ in_seq remaining charts ]

-- a turn that is finished is the last if the condition holds or no turn may follow
abbrev pub turned : Moment → ℕ → Condition → Tree → Rest → Rest
turned moment zero until body remaining = elim (is_done remaining) [ true ↦ done | false ↦ in_loop 0 until body remaining ]
turned moment (suc turns) until body remaining =
    elim (is_done remaining) [
      | false ↦ in_loop (suc turns) until body remaining
      | true ↦ elim (holds moment.values until) [ true ↦ done | false ↦ turning turns until body (reach moment body) ]
    ]

-- the rest in which every chart that can be reached has been reached, and finished ones are done
abbrev mutual
  pub advance : Moment → Rest → Rest
  advance moment (open_act step remaining) = open_act step (advance moment remaining)
  advance moment (in_seq remaining charts) = continued moment (advance moment remaining) charts
  advance moment (in_par rests) = joined (advance_each moment rests)
  advance moment (in_loop turns until body remaining) = turned moment turns until body (advance moment remaining)
  advance moment remaining = remaining

  pub advance_each : Moment → Rests → Rests
  advance_each moment no_rests = no_rests
  advance_each moment (rest remaining rests) = rest (advance moment remaining) (advance_each moment rests)

-- the acts that the charts have reached and that aren't finished, each as its own rest, in the order of their places
abbrev mutual
  pub acts : Rest → List Rest
  acts (open_act step remaining) = open_act step remaining ∷ acts remaining
  acts (in_seq remaining charts) = acts remaining
  acts (in_par rests) = acts_of_each rests
  acts (in_loop turns until body remaining) = acts remaining
  acts done = []
  acts reached = reached ∷ []

  pub acts_of_each : Rests → List Rest
  acts_of_each no_rests = []
  acts_of_each (rest remaining rests) = acts remaining ++ acts_of_each rests

abbrev pub place_of : Rest → Place
place_of (ready step task granted) = step.place
place_of (asking step task granted) = step.place
place_of (open_act step remaining) = step.place
place_of (live step phase state) = step.place
place_of (freeing step left) = step.place
place_of _ = []

-- the rest in which the act at this place has been changed
abbrev mutual
  pub changed_at : Place → (Rest → Rest) → Rest → Rest
  changed_at place change (open_act step remaining) =
      elim (same_place step.place place)
      [ true ↦ change (open_act step remaining) | false ↦ open_act step (changed_at place change remaining) ]
  changed_at place change (in_seq remaining charts) = in_seq (changed_at place change remaining) charts
  changed_at place change (in_par rests) = in_par (changed_in_each place change rests)
  changed_at place change (in_loop turns until body remaining) = in_loop turns until body (changed_at place change remaining)
  changed_at place change done = done
  changed_at place change reached = elim (same_place (place_of reached) place) [ true ↦ change reached | false ↦ reached ]

  pub changed_in_each : Place → (Rest → Rest) → Rests → Rests
  changed_in_each place change no_rests = no_rests
  changed_in_each place change (rest remaining rests) = rest (changed_at place change remaining) (changed_in_each place change rests)

-- the rest without its asks: every act in a queue is ready again
abbrev mutual
  pub withdrawn : Rest → Rest
  withdrawn (asking step task granted) = ready step task granted
  withdrawn (open_act step remaining) = open_act step (withdrawn remaining)
  withdrawn (in_seq remaining charts) = in_seq (withdrawn remaining) charts
  withdrawn (in_par rests) = in_par (withdrawn_each rests)
  withdrawn (in_loop turns until body remaining) = in_loop turns until body (withdrawn remaining)
  withdrawn remaining = remaining

  pub withdrawn_each : Rests → Rests
  withdrawn_each no_rests = no_rests
  withdrawn_each (rest remaining rests) = rest (withdrawn remaining) (withdrawn_each rests)
