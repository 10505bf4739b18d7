-- worked rows: the part that an output holds of a text behind its old contents.
use Rattle.std.specs.Prelude.{◌≡◌, ℕ, List, [], ◌∷◌, Option, Some, None, ⊤}
use Rattle.batch_serve.specs.declared.desk.ServedDesk.{ServedDesk}
use Rattle.batch_pipes.specs.Ended.{IsGivenBack}
use Rattle.batch_pipes.specs.Streams.{HasNoOutput, HoldsBeginning}
use Rattle.batch_pipes.specs.declared.fault.PipeFault.TheVariants.{Memory, Unread}
use Rattle.batch_pipes.specs.declared.outcome.OutputOutcome.{OutputOutcome}
use Rattle.batch_pipes.specs.declared.outcome.OutputOutcome.TheVariants.{Absent, Joined}
use Rattle.batch_pipes.specs.declared.written.Written.{Written}

-- the first of the text 1, 2 was written behind 7
abbrev pub FrontIsHeld : Type 0
FrontIsHeld = HoldsBeginning (Some (7 ∷ [])) (Some (7 ∷ 1 ∷ [])) (1 ∷ 2 ∷ [])

-- the second can't come before it, nor the first twice, nor the text without the old contents
abbrev pub NoOtherIsHeld : Type 0
NoOtherIsHeld =
    (¬ HoldsBeginning (Some []) (Some (2 ∷ [])) (1 ∷ 2 ∷ [])) × (¬ HoldsBeginning (Some []) (Some (1 ∷ 1 ∷ [])) (1 ∷ 2 ∷ []))
    × (¬ HoldsBeginning (Some (7 ∷ [])) (Some (1 ∷ [])) (1 ∷ 2 ∷ []))

-- something is given back of a desk that has an output
abbrev pub NothingIsTooLittle : Type 0
NothingIsTooLittle =
    (contents : ℕ → Option (List ℕ)) (stands : List ℕ → Option (List ℕ)) (path front : List ℕ) (due : List (List ℕ)) (desk : ServedDesk)
    (outcome : OutputOutcome ℕ ℕ) → outcome ≡ Absent → ¬ IsGivenBack contents stands (λ _ _. ⊤) (Some path) front due desk outcome

-- and nothing of one that has none
abbrev pub NothingOfNone : Type 0
NothingOfNone =
    (contents : ℕ → Option (List ℕ)) (stands : List ℕ → Option (List ℕ)) (front : List ℕ) (due : List (List ℕ)) (desk : ServedDesk)
    (outcome : OutputOutcome ℕ ℕ) → IsGivenBack contents stands (λ _ _. ⊤) None front due desk outcome → outcome ≡ Absent

-- nor a result that wasn't handed back
abbrev pub NoResultIsMadeUp : Type 0
NoResultIsMadeUp =
    (contents : ℕ → Option (List ℕ)) (stands : List ℕ → Option (List ℕ)) (path : Option (List ℕ)) (front : List ℕ) (due : List (List ℕ)) (desk : ServedDesk) (w : Written ℕ) (left : ℕ)
    (outcome : OutputOutcome ℕ ℕ) → outcome ≡ Joined w left → ¬ IsGivenBack contents stands (λ _ _. ⊥) path front due desk outcome

-- want of memory may be why there is no output; that nobody read it isn't, nor is there none without a fault
abbrev pub NoOutputHasCause : Type 0
NoOutputHasCause = HasNoOutput (Some Memory) × (¬ HasNoOutput (Some Unread)) × (¬ HasNoOutput None)
