-- surface: the content of a box of a driver after a call of the driver.
use Rattle.std.specs.Prelude.{◌≡◌}
use Rattle.std.specs.declared.dyn_box.DynBox.{DynBox}

-- the box holds a driver of the same kind, one that this may lead to
abbrev pub HoldsNext : {X Z : Type 0} {F : X → Type 0} → (old : DynBox X Z F) → (F old.vtable → Type 0) → DynBox X Z F → Type 0
HoldsNext {X} {Z} {F} old gives new = (after : F old.vtable) × gives after × (new ≡ record old { value = after })
