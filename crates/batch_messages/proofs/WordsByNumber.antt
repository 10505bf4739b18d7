-- The words on an element of a list, by its number.
use Rattle.std.proofs.Common.{◌≡◌, ℕ, ◌<◌, ◌≤◌, List, [], Option, length, get_or, ap, refl, unwrap_or, option_map}
use Rattle.std.proofs.lemmas.Option.{slice_get_read, slice_get_past}
use Rattle.batch_messages.specs.WarningWords.{said_at}

pub said_found : {X : Type 0} (said : X → List ℕ) (xs : List X) (i : ℕ) (x : X) → i < length xs → x ≡ get_or xs i x → said_at said xs i ≡ said x
said_found {X} said xs i x within read =
    ap (λ (o : Option X). unwrap_or (option_map said o) []) (slice_get_read xs (length xs) i x refl within read)

pub said_past : {X : Type 0} (said : X → List ℕ) (xs : List X) (i : ℕ) → length xs ≤ i → said_at said xs i ≡ []
said_past {X} said xs i past = ap (λ (o : Option X). unwrap_or (option_map said o) []) (slice_get_past xs i past)
