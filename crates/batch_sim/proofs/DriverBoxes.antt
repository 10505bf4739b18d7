-- A step of a boxed value is one of any equal value behind the same table.
use Rattle.std.proofs.Common.{◌≡◌, refl, subst}

-- a step from a value behind a table is a step from the same value behind the same table
pub leads_on : {I : Type 0} {F : I → Type 0} {B : Type 0} (gives : (i : I) → F i → F i → Type 0) (box : (i : I) → F i → B) (i j : I) (x : F i) (y z : F j)
    → gives j y z → ◌≡◌ {A = (k : I) × F k} (j, y) (i, x) → (after : F i) × gives i x after × (box j z ≡ box i after)
leads_on {I} {F} gives box i j x y z led same =
    subst (λ (p : (k : I) × F k). (after : F p.0) × gives p.0 p.1 after × (box j z ≡ box p.0 after)) same (z, led, refl)
