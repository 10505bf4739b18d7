use Rattle.std.proofs.Common.{Result, Ok, Err, OnOk}
use Rattle.batch_serve.proofs.HeldText.{finishes_all, finishes_clear}
use Rattle.batch_serve.proofs.held.Held.finish.Goals as goal

on_ok : {A E : Type 0} (r : Result A E) (P Q : Type 0) → (P → Q) → OnOk r P → OnOk r Q
on_ok (Ok x) P Q f p = f p
on_ok (Err e) P Q f p = tt

pub returns-clause-clear : goal.returns-clause-clear
returns-clause-clear g c = finishes_clear _ _ _ _ _ _ _ c.args.self.told c.flush-result.new.self.told c.flush-result.ensures.bytes

pub returns-clause-all : goal.returns-clause-all
returns-clause-all g c =
    on_ok c.flush-result.result _ _ (λ none. finishes_all _ _ _ _ _ _ _ c.args.self.told c.flush-result.new.self.told c.flush-result.ensures.bytes none) c.flush-result.ensures.passed
