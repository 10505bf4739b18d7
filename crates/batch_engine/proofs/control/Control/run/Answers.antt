use Rattle.std.proofs.Common.{◌≡◌, ◌∙◌, refl, sym, ap, subst, ℕ}
use Rattle.batch_arbiter.specs.Allocation.{Allocation, after_ask}
use Rattle.batch_chart.specs.{NodesOf.need_at, Seen.machine_move, declared.chart_move.Move.Move, declared.chart_move.Move.TheVariants.Ask, declared.chart_move.Move.TheVariants.Pass, declared.chart_move.Move.TheVariants.Release, declared.chart_move.Move.TheVariants.State, declared.running.Running.Running}
use Rattle.batch_engine.{specs.declared.batch.Batch.Batch, specs.declared.line.Line.Line, specs.Steps.CanClaim, specs.Steps.ClaimsAs, specs.Steps.IsMover, specs.Steps.IsOfAct, specs.Steps.claimed_by, specs.View.EngineView, specs.View.model_batch, specs.View.tree_of, proofs.BatchLookups.known-resource, proofs.EngineAfterMove.Becomes, proofs.EngineAfterMove.MadeChart, proofs.EngineAfterMove.as-released, proofs.EngineAfterMove.ask-made, proofs.EngineAfterMove.held-share, proofs.EngineAfterMove.pass-made, proofs.EngineAfterMove.release-made, proofs.EngineAfterMove.run-quiet, proofs.RoomForAsk.room-for-ask, proofs.BatchAtIndex.IsSeat, proofs.BatchAtIndex.chart-within, proofs.BatchAtIndex.closed-makes, proofs.BatchAtIndex.counted-set, proofs.BatchAtIndex.mover, proofs.BatchAtIndex.mover-at, proofs.BatchAtIndex.seat-of, proofs.SpaceInAdvance.space-in-advance, proofs.InvariantAfterMove.changed}
use Rattle.batch_engine.proofs.control.Control.run.Goals as goal
use Rattle.batch_engine.proofs.control.Control.run.Goals.{After-index_mut-batch, After-make_move, After-recipe-chart}
use Rattle.batch_recipe.proofs.ValueUpdates.{same-at}

can : {v : EngineView} {i : ℕ} {b : Batch} (m : Move) (h : IsMover v i b m) (line : Line) → ClaimsAs v.cleared b m line → CanClaim line v.allocation
can {v} {i} {b} (Ask node need) h line (q, u, number, is) =
    subst (λ (l : Line). CanClaim l v.allocation) (sym is)
    (known-resource v h.kept (need_at (tree_of v.cleared b) node need).resource q number.0, room-for-ask v h.kept i b h.at node need q h.about number.0 h.is)
can {v} {i} {b} (Release node need) h line (q, u, number, is) =
    subst (λ (l : Line). CanClaim l v.allocation) (sym is)
    (known-resource v h.kept (need_at (tree_of v.cleared b) node need).resource q number.0, held-share v h.kept i b h.at node need q h.about number.0)
can {v} {i} {b} (Pass node to need) h line (q, u, number, is) =
    subst (λ (l : Line). CanClaim l v.allocation) (sym is)
    (known-resource v h.kept (need_at (tree_of v.cleared b) node need).resource q number.0, held-share v h.kept i b h.at node need q (as-released v h.kept i b h.at node to need h.about) number.0)
can {v} m h line none = (none v.allocation).0

-- the engine after the move
becomes : {v : EngineView} {i : ℕ} {b : Batch} (m : Move) (h : IsMover v i b m) {r : Running} (line : Line) → IsOfAct m → ClaimsAs v.cleared b m line → MadeChart v h.kept i b h.at m r
    → Becomes v (changed v i (record b { running = r }) (claimed_by line v.allocation)) (machine_move (tree_of v.cleared b) (model_batch v.cleared b) m)
becomes {v} {i} {b} (Ask node need) h {r} line act (q, u, number, is) made =
    subst (λ (z : Allocation). Becomes v (changed v i (record b { running = r }) z) (machine_move (tree_of v.cleared b) (model_batch v.cleared b) (Ask node need)))
    (ap (λ n. after_ask q (record { batch = b.number; node = node; units = n }) v.allocation) number.1 ∙ sym (ap (λ (l : Line). claimed_by l v.allocation) is))
    (ask-made v h.kept i b h.at node need q r h.about number.0 made h.is (room-for-ask v h.kept i b h.at node need q h.about number.0 h.is))
becomes {v} {i} {b} (Release node need) h {r} line act (q, u, number, is) made =
    subst (λ (l : Line). Becomes v (changed v i (record b { running = r }) (claimed_by l v.allocation)) (machine_move (tree_of v.cleared b) (model_batch v.cleared b) (Release node need))) (sym is)
    (release-made v h.kept i b h.at node need q r h.about number.0 made h.is)
becomes {v} {i} {b} (Pass node to need) h {r} line act (q, u, number, is) made =
    subst (λ (l : Line). Becomes v (changed v i (record b { running = r }) (claimed_by l v.allocation)) (machine_move (tree_of v.cleared b) (model_batch v.cleared b) (Pass node to need))) (sym is)
    (pass-made v h.kept i b h.at node to need q r h.about number.0 made h.is)
becomes (State state) h line act is made = absurd act
becomes {v} {i} {b} m h {r} line act none made =
    subst (λ (z : Allocation). Becomes v (changed v i (record b { running = r }) z) (machine_move (tree_of v.cleared b) (model_batch v.cleared b) m)) (sym (none v.allocation).1)
    (run-quiet v h.kept i b h.at m r tt made h.is)

moves : (c : After-index_mut-batch) → IsMover c.args.self.now c.args.index c.index_mut-batch.result.now c.args.made
moves c = mover c.self.view_is c.self.invariant.kept c.requires.step c.index_mut-batch.ensures.value

seat : (c : After-recipe-chart) → IsMover c.args.self.now c.args.index c.index_mut-batch.result.now c.args.made → IsSeat c.args.self.now c.args.index c.index_mut-batch.result.now c.recipe-chart.result.now
seat c h = seat-of c.self.view_is (record { kept = h.kept; at = h.at }) c.recipe-chart.ensures

pub claim-requires : goal.claim-requires
claim-requires c =
    subst (λ (z : EngineView). CanClaim c.args.line.now z.allocation) (sym c.self.view_is)
    (can c.args.made (mover-at c.self.view_is c.self.invariant.kept c.requires.step c.requires.line.at) c.args.line.now c.requires.line.tells.claims)

pub recipe-chart-requires : goal.recipe-chart-requires
recipe-chart-requires c = let h = moves (goal.at.recipe-chart-requires c).After-index_mut-batch in chart-within c.self.view_is (record { kept = h.kept; at = h.at })

pub make_move-requires-clause-running : goal.make_move-requires-clause-running
make_move-requires-clause-running c = let w = goal.at.make_move-requires-clause-running c in (seat w.After-recipe-chart (moves w.After-index_mut-batch)).running

pub make_move-requires-clause-possible : goal.make_move-requires-clause-possible
make_move-requires-clause-possible c =
    let w = goal.at.make_move-requires-clause-possible c in
    let h = moves w.After-index_mut-batch in
    h.can c.recipe-chart.result.now (seat w.After-recipe-chart h).listed

pub make_move-requires-clause-space : goal.make_move-requires-clause-space
make_move-requires-clause-space c =
    let w = goal.at.make_move-requires-clause-space c in
    let h = moves w.After-index_mut-batch in
    space-in-advance c.args.self.now h.kept c.args.index c.index_mut-batch.result.now h.at (seat w.After-recipe-chart h).runs

-- the effect of the move on the view
abbrev own : After-make_move → Batch
own c = record (c.index_mut-batch.result.now) { running = c.make_move.new.self }

made : (c : After-make_move) (h : IsMover c.args.self.now c.args.index c.index_mut-batch.result.now c.args.made) → IsSeat c.args.self.now c.args.index c.index_mut-batch.result.now c.recipe-chart.result.now
    → Becomes c.args.self.now (changed c.args.self.now c.args.index (own c) c.claim.new.arbiter) (machine_move (tree_of c.args.self.now.cleared c.index_mut-batch.result.now) (model_batch c.args.self.now.cleared c.index_mut-batch.result.now) c.args.made)
made c h s =
    let v : EngineView = c.args.self.now in
    let b : Batch = c.index_mut-batch.result.now in
    let l = c.requires.line in
    let claims : ClaimsAs v.cleared b c.args.made c.args.line.now = subst (λ (z : Batch). ClaimsAs v.cleared z c.args.made c.args.line.now) (same-at v.batches c.args.index l.batch b l.at h.at) l.tells.claims in
    let is : c.claim.new.arbiter ≡ claimed_by c.args.line.now v.allocation = c.claim.ensures ∙ ap (λ (z : EngineView). claimed_by c.args.line.now z.allocation) c.self.view_is in
    subst (λ (z : Allocation). Becomes v (changed v c.args.index (own c) z) (machine_move (tree_of v.cleared b) (model_batch v.cleared b) c.args.made)) (sym is)
    (becomes c.args.made h c.args.line.now c.requires.act claims (c.make_move.ensures (tree_of v.cleared b) s.chart s.runs))

pub invariant_of-self : goal.invariant_of-self
invariant_of-self c =
    let w = goal.at.invariant_of-self c in
    let h = moves w.After-index_mut-batch in
    counted-set c.args.index (own w.After-make_move) (λ a. c.claim.new.arbiter) c.self.view_is c.self.invariant c.index_mut-batch.ensures.value refl refl refl (made w.After-make_move h (seat w.After-recipe-chart h)).kept

pub returns : goal.returns
returns c =
    let w = goal.at.returns c in
    let h = moves w.After-index_mut-batch in
    closed-makes c.args.index (own w.After-make_move) (λ a. c.claim.new.arbiter) c.self.view_is refl (made w.After-make_move h (seat w.After-recipe-chart h)) h.is
