use Rattle.std.proofs.Common.{◌≡◌, ℕ, ◌+◌, ◌-◌, ◌<◌, ◌++◌, List, map, take, drop, length, get_or, set, ap, ◌∙◌, arith, get_or-drop, length-take-le}
use Rattle.std.proofs.lemmas.List.{get_or-append_right, length-map, Edits.map_over_more}
use Rattle.batch_desk.specs.PortSteps.{owe_line}
use Rattle.batch_desk.proofs.ports.queue_for_each.Goals as goal

-- from its index on the loop has changed nothing yet
untold : {X : Type 0} (f : X → X) (xs ys : List X) (i : ℕ) (x : X) → i < length xs → ys ≡ map f (take i xs) ++ drop i xs → x ≡ get_or ys i x → x ≡ get_or xs i x
untold f xs ys i x lt is at =
    let told : length (map f (take i xs)) ≡ i = length-map (take i xs) f ∙ length-take-le i xs (omega arith) in
    let here : i + (i - i) ≡ i = omega arith in
    at ∙ (ap (λ zs. get_or zs i x) is ∙ (get_or-append_right (map f (take i xs)) (drop i xs) i i x told (omega arith) ∙ (get_or-drop i xs (i - i) x ∙ ap (λ k. get_or xs k x) here)))

pub queue_move-requires : goal.queue_move-requires
queue_move-requires c =
    let x = c.index_mut-port.result.now in
    let was : x ≡ get_or c.args.ports.now.items c.loop-index.index x =
    untold (owe_line c.args.line) c.args.ports.now.items c.loop-index.ports.items c.loop-index.index x (omega arith) c.loop-index.invariant c.index_mut-port.ensures.value in
    rw was (c.requires c.loop-index.index x (omega arith))

pub loop-index-preserved : goal.loop-index-preserved
loop-index-preserved c =
    ap (λ p. set c.loop-index.ports.items c.loop-index.index p) c.queue_move.ensures
    ∙ map_over_more (owe_line c.args.line) c.args.ports.now.items c.loop-index.ports.items c.loop-index.index _ (omega arith) c.loop-index.invariant c.index_mut-port.ensures.value
