use Rattle.std.proofs.Common.{◌≡◌, ◌+◌, ◌<◌, ◌++◌, ◌&&◌, Bool, true, false, List, [], get_or, length, sym, ap, ◌∙◌, subst, arith}
use Rattle.std.proofs.lemmas.Option.{slice_get_within}
use Rattle.batch_recipe.{specs.ActsAtNodes.procedure_acts, specs.Nodes.node_count, specs.Outlines.act_of_kind, proofs.NodeSubtrees.some_count, proofs.NodesAbove.act_at, proofs.NodesAbove.as_many, proofs.NodesAbove.ns, proofs.NodesBelow.end_read, proofs.NodesBelow.read_at}
use Rattle.batch_model.specs.Cleared.{phases}
use Rattle.batch_verify.{specs.NodePhases.phases_between, specs.PhaseSets.IsOfTree, specs.PhaseSets.IsSetOf, specs.Walking.phase_names, specs.declared.tree_phases.TreePhases.TreePhases, proofs.NodePhases.node_phases, proofs.PhaseSets.IsSetOf-joined, proofs.PhaseSets.apart_as_disjoint, proofs.PhasesBelow.between_split, proofs.PhasesBelow.nested, proofs.PhasesBelow.one_between, proofs.PhasesBelow.own_is, proofs.PhasesBelow.par_runs_none, proofs.TreesApart.AreLeft, proofs.TreesApart.AreLeft-all, proofs.TreesApart.AreLeft-first, proofs.TreesApart.AreLeft-next, proofs.TreesApart.branches_stand, proofs.TreesApart.ends_at}
use Rattle.batch_verify.proofs.tree_phases.tree_at.Goals as goal
use Rattle.batch_verify.proofs.tree_phases.tree_at.Goals.{then-is_disjoint, else-is_disjoint}

pub index-entry-requires : goal.index-entry-requires
index-entry-requires c = omega (arith, c.from.ensures, c.requires.node, as_many c.args.recipe.now)

pub loop-below-init : goal.loop-below-init
loop-below-init c =
    let r = c.args.recipe.now in
    let k = c.args.node in
    let acts = procedure_acts r.acts in
    let e = c.index-entry.result.now in
    let x = end_read r k c.from.result e c.requires.node c.from.ensures c.index-entry.ensures in
    let read = read_at r k c.from.result e c.requires.node c.from.ensures c.index-entry.ensures in
    let own = one_between acts k (act_of_kind r.acts e.kind) (act_at r k e read) in (
      omega arith,
      omega (arith, x.2, some_count x.0.here),
      subst (λ names. IsSetOf r.acts.phases.items names c.own_set-set.result) (own_is r.acts r.kinds e.kind ∙ sym own) (c.own_set-set.ensures r.acts.phases.items c.requires.sets),
      λ at branches is par.
          let none : phases_between acts k (k + 1) ≡ [] = own ∙ par_runs_none r k e read at branches is par in
          subst (λ names. AreLeft (ns r) e.end true names (k + 1) branches) (sym none)
          (AreLeft-first (ns r) e.end (k + 1) branches (branches_stand r k e.end at branches is par (ends_at r k c.from.result e c.requires.node c.from.ensures c.index-entry.ensures at is))),
    )

pub bounds-trees-from : goal.bounds-trees-from
bounds-trees-from c =
    let r = c.args.recipe.now in
    let x = end_read r c.args.node c.from.result c.index-entry.result.now c.requires.node c.from.ensures c.index-entry.ensures in
    omega (arith, c.from-in-loop-below.ensures, c.loop-below-test.true, x.3, c.requires.known.sized)

pub index-requires : goal.index-requires
index-requires c =
    let r = c.args.recipe.now in
    let x = end_read r c.args.node c.from.result c.index-entry.result.now c.requires.node c.from.ensures c.index-entry.ensures in
    omega (arith, c.from-in-loop-below-2.ensures, c.loop-below-test.true, x.3, as_many r)

pub loop-below-smaller : goal.loop-below-smaller
loop-below-smaller c =
    let r = c.args.recipe.now in
    let x = end_read r c.args.node c.from.result c.index-entry.result.now c.requires.node c.from.ensures c.index-entry.ensures in
    let y = end_read r c.loop-below.below c.from-in-loop-below-2.result c.index.result.now (omega (arith, c.loop-below-test.true, x.3)) c.from-in-loop-below-2.ensures c.index.ensures in
    omega (arith, c.loop-below-test.true, y.2, some_count y.0.here)

pub loop-below-preserved : goal.loop-below-preserved
loop-below-preserved c =
    let r = c.args.recipe.now in
    let k = c.args.node in
    let acts = procedure_acts r.acts in
    let steps = r.acts.phases.items in
    let inv = c.loop-below.invariant in
    let b = c.loop-below.below in
    let e = c.index.result.now in
    let x = end_read r k c.from.result c.index-entry.result.now c.requires.node c.from.ensures c.index-entry.ensures in
    let in' : b < length (ns r) = omega (arith, c.loop-below-test.true, x.3) in
    let y = end_read r b c.from-in-loop-below-2.result e in' c.from-in-loop-below-2.ensures c.index.ensures in
    let acted = act_at r b e (read_at r b c.from-in-loop-below-2.result e in' c.from-in-loop-below-2.ensures c.index.ensures) in
    let ends = nested r k x.0 x.1 b y.0 y.1 (omega (arith, inv.0)) (omega (arith, c.loop-below-test.true, x.2)) in
    let none : TreePhases = record { set = record { low = 0; high = 0 }; apart = false } in
    let tree = get_or c.args.trees.now c.from-in-loop-below.result none in
    let own = (subst (λ i. IsOfTree r.acts y.0 (get_or c.args.trees.now i none)) (sym c.from-in-loop-below.ensures) (c.requires.known.each b y.0 none (omega (arith, inv.0)) y.1)).set in
    let earlier = phases_between acts k b in
    let names = phase_names (phases y.0.here) in
    let split : earlier ++ names ≡ phases_between acts k e.end =
    ap (λ xs. earlier ++ xs) (node_phases r.acts b y.0 y.1 ∙ ap (phases_between acts b) (sym y.2))
    ∙ sym (between_split acts k b e.end (omega (arith, inv.0)) (omega (arith, y.2)) (omega (arith, slice_get_within acts b (act_of_kind r.acts e.kind) acted))) in
    let flag : (c.is_disjoint.result && c.loop-below.apart) ≡ c.if-is_disjoint.apart = elim c.if-is_disjoint.branch [
      | then-is_disjoint w ↦ ap (λ (d : Bool). d && c.loop-below.apart) w.if-is_disjoint.true ∙ sym w.apart-is
      | else-is_disjoint w ↦ ap (λ (d : Bool). d && c.loop-below.apart) w.if-is_disjoint.false ∙ (sym w.if-is_disjoint.false ∙ sym w.apart-is)
    ] in (
      omega (arith, inv.0, y.2),
      omega (arith, ends, x.2, y.2),
      subst (λ xs. IsSetOf steps xs c.joined-set.result) split (IsSetOf-joined steps earlier names c.loop-below.set tree.set c.joined-set.result c.joined-set.ensures inv.2 own),
      λ at branches is par.
          let next = AreLeft-next (ns r) c.index-entry.result.now.end c.loop-below.apart c.is_disjoint.result earlier b branches y.0 c.loop-below-test.true y.1
          (apart_as_disjoint steps earlier names c.loop-below.set tree.set inv.2 own c.is_disjoint.result c.is_disjoint.ensures) (inv.3 at branches is par) in
          subst (λ (f : Bool). AreLeft (ns r) c.index-entry.result.now.end f (phases_between acts k e.end) e.end branches) flag
          (subst (λ (xs : List _). AreLeft (ns r) c.index-entry.result.now.end (c.is_disjoint.result && c.loop-below.apart) xs e.end branches) split
          (subst (λ n. AreLeft (ns r) c.index-entry.result.now.end (c.is_disjoint.result && c.loop-below.apart) (earlier ++ names) n branches) (sym y.2) next)),
    )

pub returns : goal.returns
returns c = λ x is.
    let r = c.args.recipe.now in
    let acts = procedure_acts r.acts in
    let inv = c.loop-below.invariant in
    let size = ends_at r c.args.node c.from.result c.index-entry.result.now c.requires.node c.from.ensures c.index-entry.ensures x is in
    let end : c.loop-below.below ≡ c.args.node + node_count x.here = omega (arith, inv.1, c.loop-below-test.false, size) in
    record {
      set = subst (λ names. IsSetOf r.acts.phases.items names c.loop-below.set) (ap (phases_between acts c.args.node) end ∙ sym (node_phases r.acts c.args.node x is)) inv.2;
      apart = λ branches par.
          AreLeft-all (ns r) c.index-entry.result.now.end c.loop-below.apart (phases_between acts c.args.node c.loop-below.below) c.loop-below.below branches (omega (arith, c.loop-below-test.false)) (inv.3 x branches is par);
    }
