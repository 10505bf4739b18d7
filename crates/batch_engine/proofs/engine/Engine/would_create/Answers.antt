use Rattle.std.proofs.Common.{sym, subst, List}
use Rattle.std.specs.Prelude.{◌↔◌, IsTrue}
use Rattle.batch_recipe.specs.Conditions.{Name}
use Rattle.batch_model.specs.Events as Events
use Rattle.batch_engine.specs.{Answered.MayWant, Surface.event_of, View.EngineView, declared.event.Event.Event}
use Rattle.batch_engine.proofs.engine.Engine.would_create.Goals as goal

pub returns-else-not-settled : goal.returns-else-not-settled
returns-else-not-settled c =
    subst (λ (v : EngineView). IsTrue c.would_create.result ↔ MayWant v (event_of c.args.event.now)) c.self.view_is
    (subst (λ (e : Event). IsTrue c.would_create.result ↔ MayWant c.self.inside.control (event_of e)) (sym c.in-Create.is)
    (subst (λ (pairs : List (Name × Name)). IsTrue c.would_create.result ↔ MayWant c.self.inside.control (Events.create c.in-Create.recipe c.in-Create.size pairs)) c.deref.ensures.value
    c.would_create.ensures))
