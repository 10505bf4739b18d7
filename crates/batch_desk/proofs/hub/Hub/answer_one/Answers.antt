use Rattle.std.proofs.Common.{ap, ◌∙◌, [], ◌∷◌, ◌++◌}
use Rattle.batch_engine.specs.declared.out.Out.TheVariants.{Reply}
use Rattle.batch_desk.{specs.HubState.outlines, specs.PortState.outline, proofs.ListImages.map-changed, proofs.HubPorts.within, proofs.Hubs.hub_takes, proofs.Hubs.takes_one}
use Rattle.batch_desk.proofs.hub.Hub.answer_one.Goals as goal

pub returns-in_err-event-clause-outlines : goal.returns-in_err-event-clause-outlines
returns-in_err-event-clause-outlines c =
    map-changed outline c.self.inside.ports.items c.args.port _ _ c.index_mut-end.ensures.value (ap outline c.in_err-event.ensures.err.1) ∙ ap outlines c.self.view_is

pub returns-in_default-clause-outlines : goal.returns-in_default-clause-outlines
returns-in_default-clause-outlines c =
    let done = rw c.in_default.is at c.in_ok-event.ensures.ok in
    map-changed outline c.self.inside.ports.items c.args.port _ _ c.index_mut-end.ensures.value (ap outline done.0) ∙ ap outlines c.self.view_is

pub invariant_of-self-2 : goal.invariant_of-self-2
invariant_of-self-2 c =
    let h = c.self.inside in
    let done = rw c.in-Some.is at c.in_ok-event.ensures.ok in
    rw (c.push_reserved.ensures.items, c.push_reserved-2.ensures.items, c.reserve.ensures.items, c.reserve-else-is_err.ensures.items)
    (hub_takes h.engine c.handle.new.engine h.history.items h.outs.items h.ports.items c.args.port c.index_mut-end.result.now c.handle.new.self c.in-Some.event c.in-Some.reply
    c.self.invariant (within _ _ _ c.self.view_is c.requires) c.index_mut-end.ensures.value done.0 done.1 done.2)

pub returns-clause-outlines : goal.returns-clause-outlines
returns-clause-outlines c =
    let done = rw c.in-Some.is at c.in_ok-event.ensures.ok in
    map-changed outline c.self.inside.ports.items c.args.port _ _ c.index_mut-end.ensures.value (ap outline done.2) ∙ ap outlines c.self.view_is

pub returns-clause-taken : goal.returns-clause-taken
returns-clause-taken c =
    let done = rw c.in-Some.is at c.in_ok-event.ensures.ok in
    takes_one _ _ _ c.args.port _ c.in-Some.event c.in-Some.reply c.self.view_is (within _ _ _ c.self.view_is c.requires) c.index_mut-end.ensures.value done.0 done.1.cleared
    (c.push_reserved.ensures.items ∙ ap (λ es. es ++ (c.args.port, c.in-Some.event) ∷ []) c.reserve.ensures.items)
    (c.push_reserved-2.ensures.items ∙ ap (λ xs. xs ++ Reply c.in-Some.reply ∷ []) c.reserve-else-is_err.ensures.items)
