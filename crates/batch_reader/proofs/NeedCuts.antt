-- The need of a text, by the place of its first star.
use Rattle.std.proofs.Common.{◌≡◌, ℕ, ◌+◌, ◌-◌, true, false, List, [], ◌∷◌, length, slice_index, take, drop, position, Option, Some, None, refl, sym, ◌∙◌, subst, arith}
use Rattle.std.{specs.Char.is_ascii_alphabetic, specs.List.list_all, proofs.lemmas.Bool.and_parts, proofs.lemmas.Bool.eqb-true, proofs.lemmas.Bool.false≢true, proofs.lemmas.Bool.Decides.nat_tests, proofs.lemmas.Grind.common_steps, proofs.lemmas.List.take_rest}
use Rattle.batch_text.specs.NameText.{IsName, is_name_byte}
use Rattle.batch_recipe.specs.declared.need.Need.{Need}
use Rattle.batch_reader.specs.NeedText.{IsNeedText, IsNeedCut, IsUnits, is_star}

-- Names

-- no byte of a name is a star
not_star : (byte : ℕ) → is_name_byte byte ≡ true → is_star byte ≡ false
not_star byte named = grind (arith, false≢true, eqb-true)

without_star : (text : List ℕ) → list_all is_name_byte text ≡ true → position is_star text ≡ None
without_star [] named = refl
without_star (byte ∷ text) named =
    let both = and_parts (is_name_byte byte) (list_all is_name_byte text) named in
    grind (arith, nat_tests, common_steps, without_star text both.1, not_star byte both.0)

-- a name is a need of one unit
pub name_is_need : (text name : List ℕ) → name ≡ text → IsName text → IsNeedText text (record { resource = name; units = 1 })
name_is_need text name same is =
    let spelled = and_parts (is_ascii_alphabetic (slice_index text 0)) (list_all is_name_byte text) is.spelled in
    subst (λ z. IsNeedCut z text (record { resource = name; units = 1 })) (sym (without_star text spelled.1)) (is, same, refl)

-- Cuts

module _ (text : List ℕ) (found : Option ℕ) (first : found ≡ position is_star text) where
  cut : (o : Option ℕ) (need : Need) → found ≡ o → IsNeedText text need → IsNeedCut o text need
  cut o need is h = subst (λ z. IsNeedCut z text need) (sym first ∙ is) h

  said : (o : Option ℕ) (need : Need) → found ≡ o → IsNeedCut o text need → IsNeedText text need
  said o need is h = subst (λ z. IsNeedCut z text need) (sym is ∙ first) h

  pub name_alone : (need : Need) → found ≡ None → IsNeedText text need → IsName text
  name_alone need is h = (cut None need is h).0

  pub name_before : (star : ℕ) (need : Need) → found ≡ Some star → IsNeedText text need → IsName (take star text)
  name_before star need is h = (cut (Some star) need is h).0

  pub units_after : (star : ℕ) (need : Need) → found ≡ Some star → IsNeedText text need → IsUnits (take (length text - (star + 1)) (drop (star + 1) text)) need.units
  units_after star need is h = subst (λ z. IsUnits z need.units) (sym (take_rest text (star + 1))) (cut (Some star) need is h).2

  pub says_name : (name : List ℕ) → found ≡ None → IsName text × (name ≡ text) → IsNeedText text (record { resource = name; units = 1 })
  says_name name is h = said None (record { resource = name; units = 1 }) is (h.0, h.1, refl)

  pub says_units : (star : ℕ) (name : List ℕ) (units : ℕ) → found ≡ Some star → IsName (take star text) × (name ≡ take star text)
      → IsUnits (take (length text - (star + 1)) (drop (star + 1) text)) units → IsNeedText text (record { resource = name; units = units })
  says_units star name units is h u =
      said (Some star) (record { resource = name; units = units }) is (h.0, h.1, subst (λ z. IsUnits z units) (take_rest text (star + 1)) u)
