-- The text of a place grows by a number at a time.
use Rattle.std.proofs.Common.{◌≡◌, ℕ, zero, suc, ◌+◌, ◌<◌, ◌≤◌, ◌++◌, List, [], ◌∷◌, length, take, slice_get, Some, None, unwrap_or, option_map, codes, decimal, ap, sym, ◌∙◌, refl, subst, arith, append_assoc}
use Rattle.std.proofs.lemmas.List.{length-take-le, take_all}
use Rattle.batch_recipe.specs.{Tree.Place, Nodes.Node, Texts.dot_text, Texts.place_text}

-- the numbers up to and with the one at depth d
take_next : (p : Place) (d n : ℕ) → slice_get p d ≡ Some n → (d < length p) × (take (d + 1) p ≡ take d p ++ n ∷ [])
take_next [] d n h = let bad : None ≡ Some n = h in absurd cc
take_next (m ∷ p) zero n h = let same : Some m ≡ Some n = h in let e : m ≡ n = cc in (omega arith, ap (λ k. k ∷ []) e)
take_next (m ∷ p) (suc d) n h = grind (arith, take_next p d n h)

place_text_more : (p : Place) (n : ℕ) → place_text (p ++ n ∷ []) ≡ place_text p ++ (dot_text (length p) ++ decimal n)
place_text_more (m ∷ k ∷ p) n =
    ap (λ t. decimal m ++ (codes "." ++ t)) (place_text_more (k ∷ p) n)
    ∙ sym (append_assoc (decimal m) (codes "." ++ place_text (k ∷ p)) (codes "." ++ decimal n))
place_text_more p n = grind arith

-- the text is that of the numbers above depth d
abbrev pub Tells : Place → ℕ → List ℕ → Type 0
Tells p d text = (d ≤ length p) × (text ≡ place_text (take d p))

pub told_more : (p : Place) (d n : ℕ) (text after : List ℕ) → Tells p d text → Some n ≡ slice_get p d
    → after ≡ text ++ (dot_text d ++ decimal n) → Tells p (d + 1) after
told_more p d n text after told at grown =
    let next = take_next p d n (sym at) in (
      omega (arith, next.0),
      grown ∙ ap (λ t. t ++ (dot_text d ++ decimal n)) told.1
          ∙ subst (λ i. place_text (take d p) ++ (dot_text d ++ decimal n) ≡ place_text (take d p) ++ (dot_text i ++ decimal n)) (sym (length-take-le d p told.0)) refl
          ∙ sym (place_text_more (take d p) n) ∙ ap place_text (sym next.1),
    )

pub told_all : (p : Place) (d : ℕ) (text : List ℕ) → Tells p d text → length p ≤ d → text ≡ place_text p
told_all p d text told ends = told.1 ∙ ap place_text (take_all d p ends)

pub place_ends : (p : Place) (d : ℕ) → None ≡ slice_get p d → length p ≤ d
place_ends [] d h = omega arith
place_ends (m ∷ p) zero h = let bad : None ≡ Some m = h in absurd cc
place_ends (m ∷ p) (suc d) h = omega (arith, place_ends p d h)

-- the text of the node's place, or nothing past the nodes
pub told_node : (ns : List Node) (k : ℕ) (text : List ℕ) → ((at : Node) → slice_get ns k ≡ Some at → text ≡ place_text at.place)
    → (length ns ≤ k → text ≡ []) → text ≡ unwrap_or (option_map (λ (n : Node). place_text n.place) (slice_get ns k)) []
told_node [] k text found past = past (omega arith)
told_node (n ∷ ns) zero text found past = found n refl
told_node (n ∷ ns) (suc k) text found past = told_node ns k text found (λ h. past (omega arith))
