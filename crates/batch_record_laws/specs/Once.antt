-- surface: shares of which no act has two.
use Rattle.std.specs.Prelude.{◌≡◌, List, [], ◌∷◌}
use Rattle.batch_model.specs.Lists.{Has}
use Rattle.batch_model.specs.Plant.{Share}

-- no act comes twice
abbrev pub IsOnce : List Share → Type 0
IsOnce [] = Unit {0}
IsOnce (x ∷ xs) = ((y : Share) → Has xs y → y.act ≡ x.act → ⊥) × IsOnce xs
