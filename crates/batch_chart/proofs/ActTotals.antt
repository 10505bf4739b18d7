-- How much the acts that are reached at once have together, counted along the nodes.
use Rattle.std.proofs.Common.{◌≡◌, ◌≢◌, ◌<◌, ◌≤◌, ◌∙◌, ℕ, ◌+◌, List, Bool, true, false, length, arith, sym, ap, subst}
use Rattle.std.specs.Prelude.{max}
use Rattle.batch_recipe.{specs.Nodes.node_count, specs.Tree.Step, specs.Tree.Phase, specs.Tree.Task, specs.Tree.runs, specs.Tree.follows, specs.Tree.Tree, specs.Tree.act, specs.Tree.skip, specs.Tree.seq, specs.Tree.par, specs.Tree.sel, specs.Tree.loop, specs.Tree.Trees, specs.Tree.no_trees, specs.Tree.tree, specs.Tree.Choices, specs.Tree.otherwise, specs.Tree.choice, specs.Conditions.Name, specs.declared.entry.Entry.Entry, specs.declared.recipe.Recipe.Recipe, proofs.NodeSubtrees.some_count}
use Rattle.batch_chart.{specs.Most.AreFew, specs.Most.Counted, specs.Most.Needs, specs.Most.Units, specs.Most.count_of, specs.Most.is_par, specs.Most.joined, specs.Most.most_of, specs.Most.own_by, specs.Most.own_of, specs.declared.most.TheConstants.NONE, specs.NodesOf.most_by, specs.NodesOf.most_of_chosen, specs.NodesOf.most_of_one, specs.Outlined.end_at, specs.Outlined.kind_at, specs.Outlined.Stands, specs.Outlined.AreStanding, specs.Outlined.AreChoices, specs.Running.IsLaid, specs.declared.node.Kind.Kind, specs.declared.node.Kind.TheVariants.Skip, specs.declared.node.Kind.TheVariants.Act, specs.declared.node.Kind.TheVariants.Seq, specs.declared.node.Kind.TheVariants.Par, specs.declared.node.Kind.TheVariants.Sel, specs.declared.node.Kind.TheVariants.Loop, proofs.TreePositions.stood, proofs.TreePositions.RowAt, proofs.TreePositions.row_at, proofs.TreePositions.row-at, proofs.TreePositions.row-end}
use Rattle.batch_chart.specs.declared.node.Kind.TheVariants as kind

-- Counts

pub none-counted : (counted : Counted) → count_of counted NONE ≡ 0
none-counted Needs = omega arith
none-counted Units = omega arith

pub none-few : (n : ℕ) → AreFew n NONE
none-few n counted = omega (arith, none-counted counted)

-- those of one chart
pub one-counted : (counted : Counted) (t : Tree) (result : ℕ) → result ≡ joined false (count_of counted NONE) (most_of false counted (tree t no_trees)) → result ≡ most_by (own_by counted) t
one-counted counted t result h = omega (arith, h, none-counted counted)

-- The charts right below a node

abbrev trees_of : Choices → Trees
trees_of (otherwise c) = tree c no_trees
trees_of (choice p c ch) = tree c (trees_of ch)

abbrev children : Tree → Trees
children (act s (runs p)) = no_trees
children (act s (follows name c)) = tree c no_trees
children skip = no_trees
children (seq ts) = ts
children (par ts) = ts
children (sel ch) = trees_of ch
children (loop k p body) = tree body no_trees

-- the count of a node of this kind is that of its act and that of the charts below it
abbrev IsCounted : Counted → Tree → Kind → Type 0
IsCounted counted c κ = most_by (own_by counted) c ≡ own_of counted κ + joined (is_par κ) 0 (most_of (is_par κ) counted (children c))

counted-phase : (counted : Counted) (s : Step) (p : Phase) (i : ℕ) → IsCounted counted (act s (runs p)) (kind.Phase (length s.needs) i)
counted-phase Needs s p i = omega arith
counted-phase Units s p i = omega arith

counted-act : (counted : Counted) (s : Step) (name : Name) (c : Tree) → IsCounted counted (act s (follows name c)) (Act (length s.needs))
counted-act Needs s name c = omega arith
counted-act Units s name c = omega arith

counted-skip : (counted : Counted) → IsCounted counted skip Skip
counted-skip Needs = omega arith
counted-skip Units = omega arith

counted-seq : (counted : Counted) (ts : Trees) → IsCounted counted (seq ts) Seq
counted-seq Needs ts = omega arith
counted-seq Units ts = omega arith

counted-par : (counted : Counted) (ts : Trees) → IsCounted counted (par ts) Par
counted-par Needs ts = omega arith
counted-par Units ts = omega arith

chosen-row : (own : Step → Task → ℕ) (ch : Choices) → most_of_chosen own ch ≡ most_of_one own (trees_of ch)
chosen-row own (otherwise c) = omega arith
chosen-row own (choice p c ch) = ap (λ m. max (most_by own c) m) (chosen-row own ch)

counted-sel : (counted : Counted) (ch : Choices) (i : ℕ) → IsCounted counted (sel ch) (Sel i)
counted-sel Needs ch i = omega (arith, chosen-row (own_by Needs) ch)
counted-sel Units ch i = omega (arith, chosen-row (own_by Units) ch)

module _ (ns : List Entry) (doc : Recipe) where
  choices-stand : (ch : Choices) (i n m : ℕ) → AreChoices ns doc i n m ch → AreStanding ns doc n m (trees_of ch)
  choices-stand (otherwise c) i n m h = h
  choices-stand (choice p c ch) i n m h = (h.1, choices-stand ch (i + 1) (n + node_count c) m h.2)

  children-stand : (n : ℕ) (c : Tree) → Stands ns doc n c → AreStanding ns doc (n + 1) (n + node_count c) (children c)
  children-stand n (act s (runs p)) h = omega arith
  children-stand n (act s (follows name c)) h = (h.1, omega arith)
  children-stand n skip h = omega arith
  children-stand n (seq ts) h = h.1
  children-stand n (par ts) h = h.1
  children-stand n (sel ch) h = choices-stand ch h.0 (n + 1) (n + node_count (sel ch)) h.2
  children-stand n (loop k p body) h = (h.3, omega arith)

  counted-at : (counted : Counted) (n : ℕ) (c : Tree) → Stands ns doc n c → IsCounted counted c (kind_at ns n)
  counted-at counted n (act s (runs p)) h = subst (IsCounted counted (act s (runs p))) (sym h.1.1) (counted-phase counted s p h.0)
  counted-at counted n (act s (follows name c)) h = subst (IsCounted counted (act s (follows name c))) (sym h.0.1) (counted-act counted s name c)
  counted-at counted n skip h = subst (IsCounted counted skip) (sym h.1) (counted-skip counted)
  counted-at counted n (seq ts) h = subst (IsCounted counted (seq ts)) (sym h.0.1) (counted-seq counted ts)
  counted-at counted n (par ts) h = subst (IsCounted counted (par ts)) (sym h.0.1) (counted-par counted ts)
  counted-at counted n (sel ch) h = subst (IsCounted counted (sel ch)) (sym h.1.1) (counted-sel counted ch h.0)
  counted-at counted n (loop k p body) h = subst (IsCounted counted (loop k p body)) (sym h.1.1) (counted-loop counted)
    where
      counted-loop : (counted : Counted) → IsCounted counted (loop k p body) (Loop k h.0)
      counted-loop Needs = omega arith
      counted-loop Units = omega arith

  -- Rows

  abbrev pub SomeRow : ℕ → ℕ → Type 0
  SomeRow n m = (ts : Trees) × AreStanding ns doc n m ts

  -- the first chart of a row, and the others
  pub record IsRow (n m : ℕ) : Type 0 where
    pub within : n < length ns
    pub after : n < end_at ns n
    pub before : end_at ns n ≤ m
    pub fits : end_at ns n ≤ length ns
    pub below : SomeRow (n + 1) (end_at ns n)
    pub rest : SomeRow (end_at ns n) m

  children-end : (n : ℕ) (c : Tree) → Stands ns doc n c → end_at ns n ≡ n + node_count c → AreStanding ns doc (n + 1) (end_at ns n) (children c)
  children-end n c h e = subst (λ m. AreStanding ns doc (n + 1) m (children c)) (sym e) (children-stand n c h)

  pub some-row : (n m : ℕ) → n ≢ m → SomeRow n m → IsRow n m
  some-row n m ne h = go h.0 (row-at ns doc n m ne h.0 h.1)
    where
      go : (ts : Trees) → RowAt ns doc n m ts → IsRow n m
      go _ (row_at c ts p q e le) =
          let own = stood ns doc n c p in
          record {
            within = own.within;
            after = omega (arith, e, some_count c);
            before = le;
            fits = omega (arith, e, own.fits);
            below = (children c, children-end n c p e);
            rest = (ts, q);
          }

  pub joined-few : (together : Bool) (a b : ℕ) → joined together a b ≤ a + b
  joined-few true a b = omega arith
  joined-few false a b = omega arith

  joined-none : (together : Bool) (counted : Counted) (before : ℕ) → before ≡ joined together before (most_of together counted no_trees)
  joined-none true counted before = omega arith
  joined-none false counted before = omega arith

  joined-more : (together : Bool) (counted : Counted) (before : ℕ) (c : Tree) (ts : Trees)
      → joined together (joined together before (most_by (own_by counted) c)) (most_of together counted ts) ≡ joined together before (most_of together counted (tree c ts))
  joined-more true counted before c ts = omega arith
  joined-more false counted before c ts = omega arith

  -- nothing is left of the row
  pub row-none : (together : Bool) (counted : Counted) (before n m : ℕ) → n ≡ m → (ts : Trees) → AreStanding ns doc n m ts → before ≡ joined together before (most_of together counted ts)
  row-none together counted before n m e ts h = rw (row-end ns doc n m e ts h) (joined-none together counted before)

  -- the first chart, and then the others
  pub row-more : (together : Bool) (counted : Counted) (before below result n m : ℕ) → n ≢ m
      → ((ts : Trees) → AreStanding ns doc (n + 1) (end_at ns n) ts → below ≡ joined (is_par (kind_at ns n)) 0 (most_of (is_par (kind_at ns n)) counted ts))
      → ((ts : Trees) → AreStanding ns doc (end_at ns n) m ts → result ≡ joined together (joined together before (own_of counted (kind_at ns n) + below)) (most_of together counted ts))
      → (ts : Trees) → AreStanding ns doc n m ts → result ≡ joined together before (most_of together counted ts)
  row-more together counted before below result n m ne first others ts h = go ts (row-at ns doc n m ne ts h)
    where
      go : (ts : Trees) → RowAt ns doc n m ts → result ≡ joined together before (most_of together counted ts)
      go _ (row_at c ts p q e le) =
          let whole : own_of counted (kind_at ns n) + below ≡ most_by (own_by counted) c =
          ap (λ k. own_of counted (kind_at ns n) + k) (first (children c) (children-end n c p e)) ∙ sym (counted-at counted n c p) in
          others ts q ∙ ap (λ k. joined together (joined together before k) (most_of together counted ts)) whole ∙ joined-more together counted before c ts

  -- all nodes
  pub whole-row : (t : Tree) → IsLaid ns doc t → (m : ℕ) → m ≡ length ns → AreStanding ns doc 0 m (tree t no_trees)
  whole-row t laid m e = (laid.stands, omega (arith, laid.count, e))
