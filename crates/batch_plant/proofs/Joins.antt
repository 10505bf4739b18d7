-- The result of a loop or of a joined thread.
use Rattle.std.proofs.Common.{◌≡◌, Option, Some, None, IfSome, IsSomeAnd, Result, Ok, Err, IfOk, sym, subst}

some_with : {X : Type 0} (o : Option X) {P Q : X → Type 0} {G : Type 0} → IsSomeAnd o P → IfSome o Q → ((x : X) → P x → Q x → G) → G
some_with None p q both = absurd p
some_with (Some x) p q both = both x p q

-- the result of a thread that was started with this
pub gave_back : {C A E : Type 0} (To : A → Type 0) (child : Option C) {Began : C → Type 0} {Ran : A → C → Type 0} (one : Result A E) (a : A) → IfSome child Began
    → IfOk one (λ x. IsSomeAnd child (Ran x)) → one ≡ Ok a → ((c : C) (x : A) → Ran x c → Began c → To x) → To a
gave_back To child one a began ran is to = some_with child (rw is at ran) began (λ c r s. to c a r s)

-- the result of a loop that ran here
pub came_back : {A E : Type 0} (To : A → Type 0) (one : Result A E) (a : A) → IfOk one To → one ≡ Ok a → To a
came_back To one a ran is = rw is at ran

-- the part at which a loop worked, if it ran to its end
pub ended_so : {A E : Type 0} (To : A → Type 0) {Done : Type 0} (a : A) (one : Result A E) → IfOk one (λ x. (x ≡ a) × Done) → (Done → To a) → IfOk one To
ended_so To a (Err e) is to = tt
ended_so To a (Ok x) is to = subst To (sym is.0) (to is.1)
