use Rattle.batch_chart.proofs.NextOwnMove.{chosen-send, chosen-state, chosen-release, chosen-entry, chosen-ask}
use Rattle.batch_chart.proofs.scene.Scene.next.Goals as goal

pub returns-then-is_some : goal.returns-then-is_some
returns-then-is_some c = chosen-send _ _ _ _ _ c.if-is_some.ensures c.next_send-send.ensures

pub returns-then-is_some-2 : goal.returns-then-is_some-2
returns-then-is_some-2 c = chosen-state _ _ _ _ _ _ c.if-is_some.ensures c.next_send-send.ensures c.if-is_some-2.ensures c.next_state-own.ensures

pub returns-then-is_some-3 : goal.returns-then-is_some-3
returns-then-is_some-3 c =
    chosen-release _ _ _ _ _ _ _ c.if-is_some.ensures c.next_send-send.ensures c.if-is_some-2.ensures c.next_state-own.ensures c.if-is_some-3.ensures c.next_release-release.ensures

pub returns-then-is_some-4 : goal.returns-then-is_some-4
returns-then-is_some-4 c =
    chosen-entry _ _ _ _ _ _ _ _ c.if-is_some.ensures c.next_send-send.ensures c.if-is_some-2.ensures c.next_state-own.ensures c.if-is_some-3.ensures c.next_release-release.ensures
    c.if-is_some-4.ensures c.next_entry-entry.ensures

pub returns : goal.returns
returns c =
    chosen-ask _ _ _ _ _ _ _ _ _ c.if-is_some.ensures c.next_send-send.ensures c.if-is_some-2.ensures c.next_state-own.ensures c.if-is_some-3.ensures c.next_release-release.ensures
    c.if-is_some-4.ensures c.next_entry-entry.ensures c.next_ask.ensures
