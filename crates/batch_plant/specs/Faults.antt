-- private: the choice of the fault that is reported, if there are several.
use Rattle.std.specs.Prelude.{◌≡◌, ℕ, ◌≤◌, ◌⊎◌, Result, Err, IfErr}
use Rattle.batch_plant.specs.declared.plant_fault.PlantFault.{PlantFault}
use Rattle.batch_plant.specs.declared.plant_fault.PlantFault.TheVariants.{Memory, Thread, Refused, TurnsOut, Unclosed}

-- want of memory comes first, then an unstarted thread, then a refusal, then turns that run out, last a port that isn't closed
abbrev pub rank_of : PlantFault → ℕ
rank_of Memory = 0
rank_of Thread = 1
rank_of Refused = 2
rank_of TurnsOut = 3
rank_of Unclosed = 4

-- the fault is that of one of the two, and none of theirs comes before it
abbrev pub IsFirst : {A B : Type 0} → PlantFault → Result A PlantFault → Result B PlantFault → Type 0
IsFirst fault one other =
    ((one ≡ Err fault) ⊎ (other ≡ Err fault)) × IfErr one (λ it. rank_of fault ≤ rank_of it) × IfErr other (λ it. rank_of fault ≤ rank_of it)

abbrev pub IsFirstOf : {A B C : Type 0} → PlantFault → Result A PlantFault → Result B PlantFault → Result C PlantFault → Type 0
IsFirstOf fault one other last =
    ((one ≡ Err fault) ⊎ (other ≡ Err fault) ⊎ (last ≡ Err fault))
    × IfErr one (λ it. rank_of fault ≤ rank_of it) × IfErr other (λ it. rank_of fault ≤ rank_of it) × IfErr last (λ it. rank_of fault ≤ rank_of it)
