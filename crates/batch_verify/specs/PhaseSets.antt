-- private: sets of phases, by number.
use Rattle.std.specs.Prelude.{◌≡◌, ◌≤◌, ◌-◌, ◌↔◌, ℕ, Bool, true, false, cond, nat_eq, nat_lt, IsTrue, unwrap_or, List, [], length, Option, Some, None, get_or, slice_get, position}
use Rattle.std.specs.Borrow.{Bor}
use Rattle.std.specs.Int.{bit_at}
use Rattle.std.specs.Map.{lookup}
use Rattle.batch_recipe.specs.Conditions.{Name, same_name}
use Rattle.batch_recipe.specs.Nodes.{Node}
use Rattle.batch_recipe.specs.Procedure.{procedure_nodes}
use Rattle.batch_recipe.specs.Tree.{Tree, Trees, par}
use Rattle.batch_recipe.specs.WellFormed.{is_among}
use Rattle.batch_recipe.specs.declared.act.Act.{Act}
use Rattle.batch_recipe.specs.declared.acts.Acts.{Acts}
use Rattle.batch_recipe.specs.declared.acts.LabelTable.TheVariants.{Phases}
use Rattle.batch_recipe.specs.declared.entry.Kind.{Kind}
use Rattle.batch_recipe.specs.declared.entry.Kind.TheVariants as kind
use Rattle.batch_model.specs.Cleared.{phases, BranchesRunApart}
use Rattle.batch_verify.specs.NodePhases.{phase_at, phase_run}
use Rattle.batch_verify.specs.Walking.{phase_names}
use Rattle.batch_verify.specs.declared.phase_set.PhaseSet.{PhaseSet}
use Rattle.batch_verify.specs.declared.tree_phases.TreePhases.{TreePhases}

abbrev pub is_set : ℕ → ℕ → Bool
is_set word k = nat_eq (bit_at word k) 1

-- the number has a bit of the low word, or else of the high word
abbrev pub has_in : Bool → PhaseSet → ℕ → Bool
has_in true set k = is_set set.low k
has_in false set k = is_set set.high (k - 128)

-- the number is in the set: those below 128 are in the low word
abbrev pub has : PhaseSet → ℕ → Bool
has set k = has_in (nat_lt k 128) set k

-- the act runs the phase itself
abbrev pub runs : Name → Act → Bool
runs phase a = is_among (phase_run a.work) phase

-- the number of a phase: that of the first phase step that runs it
abbrev pub number_of : List Act → Name → Option ℕ
number_of steps phase = position (runs phase) steps

-- the numbers of phases so far, by their names
abbrev pub number_in : List (Bor Name × ℕ) → Name → Option ℕ
number_in numbers phase = lookup (λ (name : Bor Name). same_name phase name.now) numbers

-- the phase has this number: its own, or the next one, which it is given; the others keep theirs
pub record GivesNumber (old new : List (Bor Name × ℕ)) (phase : Name) (next number : ℕ) : Type 0 where
  pub own : number ≡ unwrap_or (number_in old phase) next
  pub all : (other : Name) → number_in new other ≡ cond (same_name phase other) (Some number) (number_in old other)

-- the number is in the set, if there is one
abbrev pub has_some : PhaseSet → Option ℕ → Bool
has_some set None = false
has_some set (Some k) = has set k

-- the set has the numbers of these phases, and no others
pub record IsSetOf (steps : List Act) (xs : List Name) (set : PhaseSet) : Type 0 where
  pub among : (phase : Name) → is_among xs phase ≡ has_some set (number_of steps phase)
  pub named : (k : ℕ) → has set k ≡ true → (phase : Name) × (number_of steps phase ≡ Some k)

-- each step has the set of the phase that it runs
pub record HaveSets (steps : List Act) (sets : List PhaseSet) : Type 0 where
  pub sized : length sets ≡ length steps
  pub each : (i : ℕ) (a : Act) (set : PhaseSet) → slice_get steps i ≡ Some a → slice_get sets i ≡ Some set → IsSetOf steps (phase_run a.work) set

-- the phase of the act, if it is a phase step
abbrev pub own_phases : List Act → Kind → List Name
own_phases steps (kind.Act Phases step) = phase_at (slice_get steps step)
own_phases steps _ = []

-- the flag says whether the branches of a `par` run apart; of another tree it says nothing
abbrev pub AreApartAs : Tree → Bool → Type 0
AreApartAs here apart = (branches : Trees) → here ≡ par branches → IsTrue apart ↔ BranchesRunApart branches

-- the phases of the tree at a node, and whether its branches run apart if it is a `par`
pub record IsOfTree (acts : Acts) (x : Node) (tree : TreePhases) : Type 0 where
  pub set : IsSetOf acts.phases.items (phase_names (phases x.here)) tree.set
  pub apart : AreApartAs x.here tree.apart

-- the phases of the tree at each node from number n on, and whether its branches run apart
pub record AreKnownFrom (acts : Acts) (trees : List TreePhases) (n : ℕ) : Type 0 where
  pub sized : length trees ≡ length (procedure_nodes acts)
  pub each : (k : ℕ) (x : Node) (none : TreePhases) → n ≤ k → slice_get (procedure_nodes acts) k ≡ Some x → IsOfTree acts x (get_or trees k none)
