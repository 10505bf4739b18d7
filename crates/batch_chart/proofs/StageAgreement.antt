-- The meaning of a tree depends on the stages of its own nodes alone.
use Rattle.std.proofs.Common.{◌≡◌, ◌<◌, ◌≤◌, ◌≢◌, ℕ, ◌+◌, List, length, arith, refl, ap, ◌∙◌, true, false, get_or-set_same, get_or-set_other}
use Rattle.std.specs.Prelude.{slice_set}
use Rattle.batch_recipe.{specs.Nodes.node_count, specs.Nodes.count_of_each, specs.Nodes.count_of_choices, specs.Nodes.count_within, specs.Tree.Task, specs.Tree.runs, specs.Tree.follows, specs.Tree.Tree, specs.Tree.act, specs.Tree.skip, specs.Tree.seq, specs.Tree.par, specs.Tree.sel, specs.Tree.loop, specs.Tree.Trees, specs.Tree.no_trees, specs.Tree.tree, specs.Tree.Choices, specs.Tree.otherwise, specs.Tree.choice, proofs.NodeSubtrees.some_count}
use Rattle.batch_model.specs.Rest.{Rest, done, rest, in_seq, in_par}
use Rattle.batch_chart.specs.{declared.stage.Stage.Stage, Stages.stage_at, Stages.is_finished, Stages.is_begun, Stages.turns_of, Meaning.act_as, Meaning.loop_as, Meaning.meaning, Meaning.meaning_below, Meaning.meaning_each, Meaning.meaning_of_branch, Meaning.chosen, Meaning.AgreeWithin}

pub stage-set_same : (xs : List Stage) (n : ℕ) (v : Stage) → n < length xs → stage_at (slice_set xs n v) n ≡ v
stage-set_same xs n v h = rw get_or-set_same

pub stage-set_other : (xs : List Stage) (n k : ℕ) (v : Stage) → k ≢ n → stage_at (slice_set xs n v) k ≡ stage_at xs k
stage-set_other xs n k v h = rw get_or-set_other

pub agree-part : (n m i j : ℕ) (xs ys : List Stage) → n ≤ i → j ≤ m → AgreeWithin n m xs ys → AgreeWithin i j xs ys
agree-part n m i j xs ys a b h k p q = h k (omega arith) (omega arith)

module _ (xs ys : List Stage) where
  mutual
    pub meaning-agree : (c : Tree) (n : ℕ) → AgreeWithin n (n + node_count c) xs ys → meaning c n ys ≡ meaning c n xs
    meaning-agree (act s w) n h =
        ap (λ r. act_as s w r (stage_at ys n)) (meaning_below-agree w (n + 1) (agree-part n (n + (1 + count_within w)) (n + 1) (n + 1 + count_within w) xs ys (omega arith) (omega arith) h))
        ∙ ap (λ x. act_as s w (meaning_below w (n + 1) xs) x) (h n (omega arith) (omega arith))
    meaning-agree skip n h = refl
    meaning-agree (seq ts) n h =
        ap (λ r. elim (is_begun (stage_at ys n)) as (λ _. Rest) [ true ↦ r | false ↦ done ]) (branch-agree ts (n + 1) (agree-part n (n + (1 + count_of_each ts)) (n + 1) (n + 1 + count_of_each ts) xs ys (omega arith) (omega arith) h))
        ∙ ap (λ x. elim (is_begun x) as (λ _. Rest) [ true ↦ meaning_of_branch ts (n + 1) xs | false ↦ done ]) (h n (omega arith) (omega arith))
    meaning-agree (par ts) n h =
        ap (λ r. elim (is_begun (stage_at ys n)) as (λ _. Rest) [ true ↦ in_par r | false ↦ done ]) (meaning_each-agree ts (n + 1) (agree-part n (n + (1 + count_of_each ts)) (n + 1) (n + 1 + count_of_each ts) xs ys (omega arith) (omega arith) h))
        ∙ ap (λ x. elim (is_begun x) as (λ _. Rest) [ true ↦ in_par (meaning_each ts (n + 1) xs) | false ↦ done ]) (h n (omega arith) (omega arith))
    meaning-agree (sel ch) n h =
        ap (λ r. elim (is_begun (stage_at ys n)) as (λ _. Rest) [ true ↦ r | false ↦ done ]) (chosen-agree ch (n + 1) (agree-part n (n + (1 + count_of_choices ch)) (n + 1) (n + 1 + count_of_choices ch) xs ys (omega arith) (omega arith) h))
        ∙ ap (λ x. elim (is_begun x) as (λ _. Rest) [ true ↦ chosen ch (n + 1) xs | false ↦ done ]) (h n (omega arith) (omega arith))
    meaning-agree (loop k p body) n h =
        ap (λ r. loop_as (turns_of (stage_at ys n)) p body r) (meaning-agree body (n + 1) (agree-part n (n + (1 + node_count body)) (n + 1) (n + 1 + node_count body) xs ys (omega arith) (omega arith) h))
        ∙ ap (λ x. loop_as (turns_of x) p body (meaning body (n + 1) xs)) (h n (omega arith) (omega arith))

    pub meaning_below-agree : (w : Task) (n : ℕ) → AgreeWithin n (n + count_within w) xs ys → meaning_below w n ys ≡ meaning_below w n xs
    meaning_below-agree (runs p) n h = refl
    meaning_below-agree (follows name c) n h = meaning-agree c n h

    pub meaning_each-agree : (ts : Trees) (n : ℕ) → AgreeWithin n (n + count_of_each ts) xs ys → meaning_each ts n ys ≡ meaning_each ts n xs
    meaning_each-agree no_trees n h = refl
    meaning_each-agree (tree c ts) n h =
        ap (λ r. rest r (meaning_each ts (n + node_count c) ys)) (meaning-agree c n (agree-part n (n + (node_count c + count_of_each ts)) n (n + node_count c) xs ys (omega arith) (omega arith) h))
        ∙ ap (λ r. rest (meaning c n xs) r) (meaning_each-agree ts (n + node_count c) (agree-part n (n + (node_count c + count_of_each ts)) (n + node_count c) (n + node_count c + count_of_each ts) xs ys (omega arith) (omega arith) h))

    pub branch-agree : (ts : Trees) (n : ℕ) → AgreeWithin n (n + count_of_each ts) xs ys → meaning_of_branch ts n ys ≡ meaning_of_branch ts n xs
    branch-agree no_trees n h = refl
    branch-agree (tree c ts) n h =
        ap (λ r. elim (is_finished (stage_at ys n)) as (λ _. Rest) [ true ↦ meaning_of_branch ts (n + node_count c) ys | false ↦ in_seq r ts ]) (meaning-agree c n (agree-part n (n + (node_count c + count_of_each ts)) n (n + node_count c) xs ys (omega arith) (omega arith) h))
        ∙ ap (λ r. elim (is_finished (stage_at ys n)) as (λ _. Rest) [ true ↦ r | false ↦ in_seq (meaning c n xs) ts ]) (branch-agree ts (n + node_count c) (agree-part n (n + (node_count c + count_of_each ts)) (n + node_count c) (n + node_count c + count_of_each ts) xs ys (omega arith) (omega arith) h))
        ∙ ap (λ x. elim (is_finished x) as (λ _. Rest) [ true ↦ meaning_of_branch ts (n + node_count c) xs | false ↦ in_seq (meaning c n xs) ts ]) (h n (omega arith) (omega (arith, some_count c)))

    pub chosen-agree : (ch : Choices) (n : ℕ) → AgreeWithin n (n + count_of_choices ch) xs ys → chosen ch n ys ≡ chosen ch n xs
    chosen-agree (otherwise c) n h = meaning-agree c n h
    chosen-agree (choice p c ch) n h =
        ap (λ r. elim (is_finished (stage_at ys n)) as (λ _. Rest) [ true ↦ chosen ch (n + node_count c) ys | false ↦ r ]) (meaning-agree c n (agree-part n (n + (node_count c + count_of_choices ch)) n (n + node_count c) xs ys (omega arith) (omega arith) h))
        ∙ ap (λ r. elim (is_finished (stage_at ys n)) as (λ _. Rest) [ true ↦ r | false ↦ meaning c n xs ]) (chosen-agree ch (n + node_count c) (agree-part n (n + (node_count c + count_of_choices ch)) (n + node_count c) (n + node_count c + count_of_choices ch) xs ys (omega arith) (omega arith) h))
        ∙ ap (λ x. elim (is_finished x) as (λ _. Rest) [ true ↦ chosen ch (n + node_count c) xs | false ↦ meaning c n xs ]) (h n (omega arith) (omega (arith, some_count c)))
