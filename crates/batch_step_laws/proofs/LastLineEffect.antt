-- The holders, the waiters, the active phases and the states that a record tells change by its last line alone.
use Rattle.std.proofs.Common.{◌≡◌, ℕ, List, [], ◌∷◌, ◌++◌, None}
use Rattle.std.proofs.lemmas.List.Sums.{fold-append}
use Rattle.batch_recipe.specs.Conditions.{Name}
use Rattle.batch_model.specs.{Runs.Out, Records.holders_after, Records.holders_told, Records.waiters_after, Records.waiters_told, Records.active_after, Records.active_told, Records.state_after, Records.state_told}

pub holders_told-last : (outs : List Out) (o : Out) (r : Name) → holders_told (outs ++ o ∷ []) r ≡ holders_after r (holders_told outs r) o
holders_told-last outs o r = fold-append (holders_after r) [] outs (o ∷ [])

pub waiters_told-last : (outs : List Out) (o : Out) (r : Name) → waiters_told (outs ++ o ∷ []) r ≡ waiters_after r (waiters_told outs r) o
waiters_told-last outs o r = fold-append (waiters_after r) [] outs (o ∷ [])

pub active_told-last : (outs : List Out) (o : Out) → active_told (outs ++ o ∷ []) ≡ active_after (active_told outs) o
active_told-last outs o = fold-append active_after [] outs (o ∷ [])

pub state_told-last : (outs : List Out) (o : Out) (n : ℕ) → state_told (outs ++ o ∷ []) n ≡ state_after n (state_told outs n) o
state_told-last outs o n = fold-append (state_after n) None outs (o ∷ [])
