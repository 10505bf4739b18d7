-- The phases that are run from one node to another, tree by tree.
use Rattle.std.proofs.Common.{◌≡◌, ◌<◌, ◌≤◌, ◌+◌, ◌++◌, ℕ, zero, suc, Bool, List, [], ◌∷◌, length, drop, take, true, Option, Some, append-nil, refl, sym, ap, ◌∙◌, arith}
use Rattle.std.{specs.Prelude.slice_get, specs.List.list_all, proofs.lemmas.Bool.and_parts, proofs.lemmas.List.drop-append-le, proofs.lemmas.List.drop-take, proofs.lemmas.List.drop_more, proofs.lemmas.List.length-take-le, proofs.lemmas.List.take-append-drop, proofs.lemmas.List.take-take, proofs.lemmas.Option.get_or_from_slice_get, proofs.lemmas.Option.slice_get_within}
use Rattle.batch_recipe.{specs.ActsAtNodes.ActList, specs.Expanding.unbound, specs.Links.IsEntryOf, specs.Links.form_at, specs.Nodes.Node, specs.Nodes.node_count, specs.Outlines.a_par, specs.Outlines.act_of_kind, specs.Outlines.form_of, specs.Tree.Trees, specs.Tree.par, specs.WellFormed.are_kinds, specs.WellFormed.has_chart, specs.declared.act.Act.Act, specs.declared.acts.Acts.Acts, specs.declared.entry.Entry.Entry, specs.declared.entry.Kind.Kind, specs.declared.recipe.Recipe.Recipe, proofs.NodeSubtrees.place_within, proofs.NodesAbove.entry_at, proofs.NodesAbove.ns, proofs.NodesBelow.below_place}
use Rattle.batch_verify.{specs.NodePhases.phase_at, specs.NodePhases.phase_run, specs.NodePhases.phases_along, specs.NodePhases.phases_between, specs.PhaseSets.own_phases, proofs.TreesApart.phases_along-append}

-- a node with a number of a tree ends within the tree
pub nested : (r : Recipe) (k : ℕ) (x : Node) → slice_get (ns r) k ≡ Some x → (b : ℕ) (z : Node) → slice_get (ns r) b ≡ Some z → k ≤ b → b < k + node_count x.here → b + node_count z.here ≤ k + node_count x.here
nested r k x is b z at low high =
    let p = place_within unbound r.acts k x is b z at low high in
    (below_place r (b + 1) b z (omega arith) at k x is p.0 p.1).1

pub between_split : (acts : ActList) (first b e : ℕ) → first ≤ b → b ≤ e → b ≤ length acts → phases_between acts first e ≡ phases_between acts first b ++ phases_between acts b e
between_split acts first b e low high within =
    ap phases_along (ap (drop first) (sym (take-append-drop b (take e acts)) ∙ ap (λ xs. xs ++ drop b (take e acts)) (take-take b e acts high)) ∙ drop-append-le first (take b acts) (drop b (take e acts)) (omega (arith, low, length-take-le b acts within)))
    ∙ phases_along-append (drop first (take b acts)) (drop b (take e acts))

pub one_between : (acts : ActList) (k : ℕ) (o : Option Act) → slice_get acts k ≡ Some o → phases_between acts k (k + 1) ≡ phase_at o
one_between acts k o is =
    ap phases_along (drop-take k 1 acts ∙ ap (take 1) (drop_more acts k o (slice_get_within acts k o is) ∙ ap (λ p. p ∷ drop (k + 1) acts) (get_or_from_slice_get acts k o o is)))
    ∙ append-nil (phase_at o)

runs_none : (a : Act) → has_chart a ≡ true → phase_run a.work ≡ []
runs_none a h = grind arith

none_in : (p : Act → Bool) → ((a : Act) → p a ≡ true → has_chart a ≡ true) → (acts : List Act) → list_all p acts ≡ true → (number : ℕ) → phase_at (slice_get acts number) ≡ []
none_in p charted [] h number = refl
none_in p charted (a ∷ acts) h zero = runs_none a (charted a (and_parts (p a) (list_all p acts) h).0)
none_in p charted (a ∷ acts) h (suc number) = none_in p charted acts (and_parts (p a) (list_all p acts) h).1 number

-- an act that is no phase step runs no phase itself
pub own_is : (acts : Acts) → are_kinds acts ≡ true → (k : Kind) → own_phases acts.phases.items k ≡ phase_at (act_of_kind acts k)
own_is acts kinds k = grind (arith, and_parts, runs_none, none_in)

-- a `par` runs no phase itself
pub par_runs_none : (r : Recipe) (k : ℕ) (e : Entry) → slice_get r.outline.entries.items k ≡ Some e → (x : Node) (branches : Trees) → slice_get (ns r) k ≡ Some x → x.here ≡ par branches → phase_at (act_of_kind r.acts e.kind) ≡ []
par_runs_none r k e read x branches is par_is = none e.kind (h.shaped.formed ∙ ap form_at (ap (λ (y : Node). y.here) same ∙ par_is))
  where
    h : IsEntryOf (ns r) k e
    h = entry_at r k e read

    same : h.at ≡ x
    same = let both : Some h.at ≡ Some x = sym h.numbered ∙ is in cc

    none : (kind : Kind) → form_of kind ≡ a_par → phase_at (act_of_kind r.acts kind) ≡ []
    none kind f = grind arith
