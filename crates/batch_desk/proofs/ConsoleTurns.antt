-- The events that a console sent and the outs that it took, one more of them.
use Rattle.std.proofs.Common.{◌≡◌, ℕ, ◌+◌, ◌-◌, ◌<◌, ◌≤◌, ◌⊎◌, List, [], ◌∷◌, ◌++◌, length, length-append, inl, inr, cond, refl, sym, ◌∙◌, ap, arith, append_assoc, append-nil}
use Rattle.std.proofs.lemmas.{Bool.Decides.eqb_tells, List.Elements.All-push, List.Sums.sum_by_push}
use Rattle.batch_matrix.specs.declared.command.Command.TheVariants as command
use Rattle.batch_engine.specs.declared.{event.Event.Event, event.Event.TheVariants.Create, event.Event.TheVariants.Order, out.Out.Out}
use Rattle.batch_desk.{specs.declared.batch_plan.BatchPlan.BatchPlan, specs.declared.console.Console.Console, specs.DeskState.DeskState, specs.DeskState.Sends, specs.Consoles.IsConsoleEvent, specs.Consoles.IsSamePlan, specs.Consoles.sending_create, specs.Consoles.creations, specs.Consoles.starting, specs.Consoles.telling_created, specs.ConsoleSteps.Follows, specs.ConsoleSteps.GoesOn, specs.ConsoleSteps.IsTried, specs.ConsoleSteps.Minds, specs.ConsoleSteps.learned, proofs.Consoles.learns}
use Rattle.batch_desk.specs.declared.step.Step.TheVariants as step

more_appended : {X : Type 0} (before more old new : List X) (x : X) → old ≡ before ++ more → new ≡ old ++ x ∷ [] → new ≡ before ++ (more ++ x ∷ [])
more_appended before more old new x is grown = grown ∙ (ap (λ xs. xs ++ x ∷ []) is ∙ append_assoc before more (x ∷ []))

-- an event of the plan was sent: a create of those that are to be sent, or the start that is next
sent_goes : (plan : BatchPlan) (event : Event) (c f : Console) (d e : DeskState) → IsConsoleEvent plan event → sending_create event + f.to_create ≡ c.to_create
    → ((n : ℕ) → (starting n event ≡ 0) ⊎ ((starting n event ≡ 1) × (c.step ≡ step.Start n)))
    → f.step ≡ step.Wait → f.last ≡ c.last → f.to_complete ≡ c.to_complete → f.refused ≡ c.refused → Sends d event e → GoesOn plan c d f e
sent_goes plan event c f d e planned left starts-one waits last completing same sends batches before was = record {
  is = record {
    events = ap (λ (x : DeskState). x.events) sends.others ∙ was.is.events;
    outs = ap (λ (x : DeskState). x.outs) sends.others ∙ was.is.outs;
    more = was.is.more ++ event ∷ [];
    seen = was.is.seen;
    sent = more_appended before.sent was.is.more d.sent e.sent event was.is.sent sends.sent;
    taken = ap (λ (x : DeskState). x.taken) sends.others ∙ was.is.taken;
    each = All-push (IsConsoleEvent plan) was.is.more event was.is.each planned;
    creates = omega (arith, sum_by_push sending_create was.is.more event, was.minds.to_create, left);
    once = λ n. elim (starts-one n) [
      | inl none ↦ omega (arith, sum_by_push (starting n) was.is.more event, none, was.is.once n)
      | inr one ↦ omega (arith, sum_by_push (starting n) was.is.more event, one.0, (was.minds.next n one.1).1)
    ];
    created = λ n. elim (starts-one n) [
      | inl none ↦ omega (arith, sum_by_push (starting n) was.is.more event, none, was.is.created n)
      | inr one ↦ omega (arith, sum_by_push (starting n) was.is.more event, one.0, (was.minds.next n one.1).1, (was.minds.next n one.1).2)
    ];
  };
  minds = record {
    to_create = omega (arith, sum_by_push sending_create was.is.more event, was.minds.to_create, left);
    to_complete = completing ∙ was.minds.to_complete;
    above = λ n up. elim (starts-one n) [
      | inl none ↦ omega (arith, sum_by_push (starting n) was.is.more event, none, was.minds.above n (omega (arith, last, up)))
      | inr one ↦ absurd (omega (arith, last, up, (was.minds.next n one.1).0))
    ];
    next = λ n at. cc;
    refused = λ e. was.minds.refused (sym same ∙ e);
    none_refused = λ e. was.minds.none_refused (sym same ∙ e);
  };
}

-- the start of batch n starts this batch alone
starts_one : (c : Console) (n m : ℕ) → c.step ≡ step.Start n → (starting m (Order command.Start n) ≡ 0) ⊎ ((starting m (Order command.Start n) ≡ 1) × (c.step ≡ step.Start m))
starts_one c n m here = elim (eqb_tells n m) [
  | inl same ↦ inr (ap (λ b. cond b 1 0) same.0, here ∙ ap step.Start same.1)
  | inr other ↦ inl (ap (λ b. cond b 1 0) other.0)
]

pub start_goes : (plan : BatchPlan) (n : ℕ) (c f : Console) (d e : DeskState) → c.step ≡ step.Start n → f.step ≡ step.Wait → f.last ≡ c.last → f.to_create ≡ c.to_create → f.to_complete ≡ c.to_complete → f.refused ≡ c.refused
    → Sends d (Order command.Start n) e → GoesOn plan c d f e
start_goes plan n c f d e here waits last creates-left completing same sends =
    sent_goes plan (Order command.Start n) c f d e refl (omega (arith, creates-left)) (λ m. starts_one c n m here) waits last completing same sends

pub create_goes : (plan copy : BatchPlan) (c f : Console) (d e : DeskState) → IsSamePlan plan copy → 0 < c.to_create → f.step ≡ step.Wait → f.last ≡ c.last → f.to_create ≡ c.to_create - 1 → f.to_complete ≡ c.to_complete → f.refused ≡ c.refused
    → Sends d (Create copy.recipe copy.size copy.roles) e → GoesOn plan c d f e
create_goes plan copy c f d e same_plan some waits last creates-left completing same sends =
    sent_goes plan (Create copy.recipe copy.size copy.roles) c f d e (same_plan.recipe, same_plan.size, same_plan.roles) (omega (arith, creates-left, some)) (λ m. inl refl) waits last completing same sends

-- an event was sent
pub sent_more : (c f : Console) (d e : DeskState) (event : Event) → Sends d event e → IsTried c d f e
sent_more c f d e event sends = inr (ap length sends.sent ∙ length-append d.sent (event ∷ []))

-- if there was no place
pub full_goes : (plan : BatchPlan) (c : Console) (d e : DeskState) → e ≡ record d { free = 0 } → GoesOn plan c d c e
full_goes plan c d e same batches before was = rw same (record {
  is = record {
    events = was.is.events;
    outs = was.is.outs;
    more = was.is.more;
    seen = was.is.seen;
    sent = was.is.sent;
    taken = was.is.taken;
    each = was.is.each;
    creates = was.is.creates;
    once = was.is.once;
    created = was.is.created;
  };
  minds = was.minds;
})

-- one more out
seen_more : (n : ℕ) (outs : List Out) (x : Out) → creations n outs ≤ creations n (outs ++ x ∷ [])
seen_more n outs x = omega (arith, sum_by_push (telling_created n) outs x)

pub take_goes : (plan : BatchPlan) (out : Out) (c f : Console) (d e : DeskState) → f ≡ learned out c → e ≡ record d { taken = d.taken ++ out ∷ [] } → GoesOn plan c d f e
take_goes plan out c f d e learns-it taken batches before was = rw (learns-it, taken) (record {
  is = record {
    events = was.is.events;
    outs = was.is.outs;
    more = was.is.more;
    seen = was.is.seen ++ out ∷ [];
    sent = was.is.sent;
    taken = more_appended before.taken was.is.seen d.taken (d.taken ++ out ∷ []) out was.is.taken refl;
    each = was.is.each;
    creates = was.is.creates;
    once = was.is.once;
    created = λ n. omega (arith, was.is.created n, seen_more n was.is.seen out);
  };
  minds = learns batches c was.is.more was.is.seen out was.minds;
})

-- nothing was sent or taken yet
pub begins : (plan : BatchPlan) (batches : ℕ) (c : Console) (d : DeskState) → Minds batches c [] [] → Follows plan batches d c d
begins plan batches c d minds = record {
  is = record {
    events = refl;
    outs = refl;
    more = [];
    seen = [];
    sent = sym (append-nil d.sent);
    taken = sym (append-nil d.taken);
    each = λ k x lt. absurd (omega arith);
    creates = omega arith;
    once = λ n. omega arith;
    created = λ n. omega arith;
  };
  minds = minds;
}
