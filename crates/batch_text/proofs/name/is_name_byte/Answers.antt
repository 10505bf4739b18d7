-- The table has each of the 256 bytes as the definition does, by computing.
use Rattle.std.proofs.Common.{◌≡◌, ℕ, ◌==◌, ◌<◌, Bool, true, false, cond, map, not, get_or, refl, sym, ap, ◌∙◌, arith}
use Rattle.std.{proofs.lemmas.Bool.eqb-true, proofs.lemmas.Bool.false≢true, proofs.lemmas.List.FromFn.get_or-map-range_with_len, specs.List.range_with_len}
use Rattle.batch_text.specs.{NameText.is_name_byte, declared.name.TheConstants.NAME_BYTES}
use Rattle.batch_text.proofs.name.is_name_byte.Goals as goal

-- the byte itself if it may stand in a name, else a comma
abbrev mark : ℕ → ℕ
mark b = cond (is_name_byte b) b 44

table_is : NAME_BYTES ≡ map mark (range_with_len 0 256)
table_is = refl

no_comma : (b : ℕ) (s : Bool) → (b == 44) ≡ s → is_name_byte b ≡ true → not (b == 44) ≡ true
no_comma b false e h = ap not e
no_comma b true e h = absurd (false≢true (ap is_name_byte (sym (eqb-true b 44 e)) ∙ h))

marked : (b : ℕ) (t : Bool) → is_name_byte b ≡ t → not (cond t b 44 == 44) ≡ t
marked b true h = no_comma b (b == 44) refl h
marked b false h = refl

read : (b : ℕ) → b < 256 → not (get_or NAME_BYTES b 0 == 44) ≡ is_name_byte b
read b lt =
    ap (λ n. not (n == 44)) (ap (λ t. get_or t b 0) table_is ∙ get_or-map-range_with_len mark 0 256 b b 0 lt (omega arith))
    ∙ marked b (is_name_byte b) refl

pub returns : goal.returns
returns c = rw c.from.ensures (read c.args.byte (omega arith))
