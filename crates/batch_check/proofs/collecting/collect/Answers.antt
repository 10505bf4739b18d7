use Rattle.std.proofs.Common.{◌≡◌, ◌+◌, Bool, List, IsTrue, Some, None, get_or, slice_get, length, sym, ap, ◌∙◌, subst, arith}
use Rattle.std.{specs.List.Contains, proofs.lemmas.List.with_items_is, proofs.lemmas.Option.slice_get-get_or}
use Rattle.batch_recipe.specs.declared.entry.Entry.{Entry}
use Rattle.batch_recipe.specs.declared.entry.Kind.TheVariants as kind
use Rattle.batch_check.{specs.Edges.Follows, specs.Collecting.IsReady, specs.Collecting.is_joined, specs.Collecting.kept_at_top, specs.Collecting.with_joined, specs.Sites.numbers_at, specs.Sites.numbers_of, specs.declared.path.Path.Path, proofs.EdgesOfAct.Follows-alone, proofs.EdgesAlongPaths.AreJoined, proofs.EdgesAlongPaths.AreJoined-at, proofs.EdgesAlongPaths.AreJoined-none, proofs.EdgesAlongPaths.AreJoined-with, proofs.EdgesAlongPaths.IsTop, proofs.EdgesAlongPaths.KeepsPaths, proofs.EdgesAlongPaths.KeepsPaths-first, proofs.EdgesAlongPaths.KeepsPaths-more, proofs.EdgesAlongPaths.all_collected, proofs.EdgesAlongPaths.is_above, proofs.EdgesAlongPaths.top_of, proofs.Names.resources_few, proofs.NeedNumbers.numbers_stand}
use Rattle.batch_set.specs.declared.linked.LinkedNeed.{LinkedNeed}
use Rattle.batch_check.proofs.collecting.collect.Goals as goal
use Rattle.batch_check.proofs.collecting.collect.Goals.{After-path_above-above, In_ok-top}

pub new-requires : goal.new-requires
new-requires c = omega (arith, c.count_with_roles.ensures, resources_few c.args.site.now.cell.now, c.args.site.now.recipe.now.few_roles)

is_top : (c : In_ok-top) → IsTop c.args.number (kept_at_top c.args.reach) c.in_ok-top.top
is_top c = top_of c.args.number c.args.reach c.in_ok-top.top c.in_ok-top.ensures.recipe c.in_ok-top.ensures.last c.in_ok-top.ensures.kept

-- the entry of the node
abbrev entry : After-path_above-above → Entry
entry c = get_or c.deref-entry-items.result.now c.loop-node.node (record { kind = kind.Skip; end = 0; parent = 0; child = 0; needs = 0; detail = 0 })

is_entry : (c : After-path_above-above) → slice_get c.args.site.now.recipe.now.outline.entries.items c.loop-node.node ≡ Some (entry c)
is_entry c = grind (arith, slice_get-get_or)

above_is : (c : After-path_above-above) → c.path_above-above.result.now ≡ get_or c.loop-node.paths.items (entry c).parent c.in_ok-top.top
above_is c = c.path_above-above.ensures ∙ ap (λ (paths : List Path). get_or paths (entry c).parent c.in_ok-top.top) c.deref.ensures.value

pub loop-node-init : goal.loop-node-init
loop-node-init c =
    let top = is_top (goal.at.loop-node-init c).In_ok-top in
    record {
      paths =
          rw c.in_ok-paths.ensures.items
          (KeepsPaths-first c.args.site.now c.args.number (kept_at_top c.args.reach) c.in_ok-top.top top c.in_ok-edges.edges
          (c.in_ok-edges.ensures.0 ∙ c.count_with_roles.ensures) c.in_ok-edges.ensures.1);
      joined = AreJoined-none (numbers_at c.args.site.now c.args.linked.now) c.in_ok-joined.joined.items c.len-2.result c.in_ok-edges.edges (c.in_ok-joined.ensures.items_if_clones_equal (λ y e. e));
    }

pub ask_act-requires-clause-ready : goal.ask_act-requires-clause-ready
ask_act-requires-clause-ready c =
    let at = (goal.at.ask_act-requires-clause-ready c).After-path_above-above in
    let top = is_top (goal.at.ask_act-requires-clause-ready c).In_ok-top in
    let up = is_above c.args.site.now c.args.number (kept_at_top c.args.reach) c.in_ok-top.top top
    c.loop-node.edges c.loop-node.paths.items c.loop-node.node c.loop-node.invariant.paths (entry at) (is_entry at) in
    subst (λ (path : Path). IsReady path c.loop-node.edges) (sym (above_is at)) up.further.ready

pub ask_act-requires-clause-needs : goal.ask_act-requires-clause-needs
ask_act-requires-clause-needs c = λ number among.
    let at = (goal.at.ask_act-requires-clause-needs c).After-path_above-above in
    let own = numbers_stand c.args.site.now c.args.linked.now c.requires (entry at).kind in
    omega (arith, own.below number (subst (λ (needs : List LinkedNeed). Contains (numbers_of c.args.site.now needs) (Some number)) c.needs-needs.ensures among), c.loop-node.invariant.paths.sized)

pub ask_act-requires-clause-joined : goal.ask_act-requires-clause-joined
ask_act-requires-clause-joined c = λ is.
    let at = (goal.at.ask_act-requires-clause-joined c).After-path_above-above in
    let flag : is_joined c.loop-node.joined.items (entry at).kind ≡ c.is_joined-known.result =
    ap (λ joined. is_joined joined (entry at).kind) (sym c.deref-in-loop-node.ensures.value) ∙ sym c.is_joined-known.ensures in
    subst (λ (needs : List LinkedNeed). Follows c.loop-node.edges.edges.items None (numbers_of c.args.site.now needs)) (sym c.needs-needs.ensures)
    (AreJoined-at (numbers_at c.args.site.now c.args.linked.now) c.loop-node.joined.items c.loop-node.edges (entry at).kind c.loop-node.invariant.joined (subst IsTrue (sym flag) is))

pub loop-node-preserved : goal.loop-node-preserved
loop-node-preserved c =
    let at = (goal.at.loop-node-preserved c).After-path_above-above in
    let top = is_top (goal.at.loop-node-preserved c).In_ok-top in
    let needs = numbers_at c.args.site.now c.args.linked.now in
    let own = numbers_stand c.args.site.now c.args.linked.now c.requires (entry at).kind in
    let asked = rw (above_is at, c.needs-needs.ensures) at c.in_ok-path.ensures in
    let joined : AreJoined needs (with_joined c.loop-node.joined.items (entry at).kind) c.ask_act.new.edges =
    AreJoined-with needs c.loop-node.joined.items c.loop-node.edges c.ask_act.new.edges (entry at).kind c.loop-node.invariant.joined asked.grown.kept
    (Follows-alone c.ask_act.new.edges.edges.items (get_or c.loop-node.paths.items (entry at).parent c.in_ok-top.top).last (needs (entry at).kind) asked.further.covering) in
    let flags : c.set_joined.new.joined ≡ with_joined c.loop-node.joined.items (entry at).kind =
    c.set_joined.ensures ∙ ap (λ joined. with_joined joined (entry at).kind) c.deref_mut.ensures.value in
    let written = with_items_is c.loop-node.joined c.set_joined.new.joined (c.set_joined.auto.joined ∙ c.deref_mut.ensures.len) in
    record {
      paths =
          subst (λ (paths : List Path). KeepsPaths c.args.site.now c.in_ok-top.top c.ask_act.new.edges paths (c.loop-node.node + 1))
          (sym c.in_ok-push.ensures.items)
          (KeepsPaths-more c.args.site.now c.args.number (kept_at_top c.args.reach) c.in_ok-top.top top
          c.loop-node.edges c.loop-node.paths.items c.loop-node.node c.loop-node.invariant.paths (entry at) (is_entry at) (needs (entry at).kind) own c.in_ok-path.path c.ask_act.new.edges asked);
      joined = subst (λ (flags : List Bool). AreJoined needs flags c.ask_act.new.edges) (sym (written ∙ flags)) joined;
    }

pub returns : goal.returns
returns c =
    let top = is_top (goal.at.returns c).In_ok-top in
    all_collected c.args.site.now c.args.number (kept_at_top c.args.reach) c.in_ok-top.top top
    c.loop-node.edges c.loop-node.paths.items c.loop-node.node c.loop-node.invariant.paths
    (omega (arith, c.loop-node-test.false, ap length c.deref-entry-items.ensures.value))
