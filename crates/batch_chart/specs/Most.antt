-- private: how much the acts reached at once have together at most, by the kinds of their nodes.
use Rattle.std.specs.Prelude.{ℕ, ◌+◌, ◌*◌, ◌≤◌, max, Bool, true, false}
use Rattle.batch_recipe.specs.Tree.{Step, Task, Trees}
use Rattle.batch_chart.specs.declared.most.Counts.{Counts}
use Rattle.batch_chart.specs.declared.node.Kind.{Kind}
use Rattle.batch_chart.specs.declared.node.Kind.TheVariants.{Act, Par}
use Rattle.batch_chart.specs.Needs.{needs_of_kind}
use Rattle.batch_chart.specs.NodesOf.{own_needs, own_units, most_of_all, most_of_one}

-- a quantity that is counted over acts
pub data Counted : Type 0 where
  Needs : Counted
  Units : Counted

abbrev pub count_of : Counted → Counts → ℕ
count_of Needs counts = counts.needs
count_of Units counts = counts.units

-- no count is above 65,535 for each of n nodes
abbrev pub AreFew : ℕ → Counts → Type 0
AreFew n counts = (counted : Counted) → count_of counted counts ≤ 65535 * n

-- nor above those before by more than 65,535 for each node from n up to `end`
abbrev pub AreFewMore : ℕ → ℕ → Counts → Counts → Type 0
AreFewMore n end before counts = (counted : Counted) → count_of counted counts + 65535 * n ≤ count_of counted before + 65535 * end

-- how much an act has itself
abbrev pub own_by : Counted → Step → Task → ℕ
own_by Needs = own_needs
own_by Units = own_units

-- the same of an act of this kind
abbrev pub own_of : Counted → Kind → ℕ
own_of Needs k = needs_of_kind k
own_of Units (Act needs) = 1
own_of Units _ = 0

abbrev pub is_par : Kind → Bool
is_par Par = true
is_par _ = false

-- the count of two parts that are reached at once, or one after the other
abbrev pub joined : Bool → ℕ → ℕ → ℕ
joined true a b = a + b
joined false a b = max a b

-- the count of charts that are
abbrev pub most_of : Bool → Counted → Trees → ℕ
most_of true counted ts = most_of_all (own_by counted) ts
most_of false counted ts = most_of_one (own_by counted) ts
