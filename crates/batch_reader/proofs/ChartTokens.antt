-- The machine at a whole token.
use Rattle.std.proofs.Common.{◌≡◌, ℕ, ◌+◌, ◌-◌, ◌≤◌, List, [], ◌∷◌, ◌++◌, length, true, false, ltb, eqb, Option, Some, option_and_then, refl, ap, ◌∙◌, append_assoc, append-nil, arith, length-append}
use Rattle.std.{specs.Prelude.⊤, specs.List.list_all, specs.Char.is_ascii_alphabetic, specs.Char.is_ascii_digit, proofs.lemmas.Bool.Decides.nat_tests, proofs.lemmas.Bool.and_parts}
use Rattle.batch_text.specs.{NameText.is_name_byte, NameText.IsName, NumberText.number_of, NumberText.IsNumber, declared.name.TheConstants.MAX_NAME_LEN, declared.number.TheConstants.MAX_DIGITS}
use Rattle.batch_recipe.specs.{declared.condition.Op.Op, declared.condition.Op.TheVariants.Less, declared.condition.Op.TheVariants.Greater, Diagram.Diagram}
use Rattle.batch_reader.{specs.declared.firsts.Firsts.Firsts, specs.ChartGrammar.Skips, specs.ChartGrammar.here, specs.ChartGrammar.space, specs.ChartGrammar.ReadsOp, specs.ChartMachine.Frame, specs.ChartMachine.Test, specs.ChartMachine.Want, specs.ChartMachine.an_operator, specs.ChartMachine.an_operand, specs.ChartMachine.Lexeme, specs.ChartMachine.letters, specs.ChartMachine.digits, specs.ChartMachine.less, specs.ChartMachine.more, specs.ChartMachine.State, specs.ChartMachine.between, specs.ChartMachine.in_token, specs.ChartMachine.begin, specs.ChartMachine.end_token, specs.ChartMachine.continues, specs.ChartMachine.step, specs.ChartMachine.finish, specs.ChartMachine.with_want, specs.ChartMachine.takes_word, specs.ChartMachine.takes_number, specs.ChartMachine.take_word, specs.ChartMachine.take_number, specs.ChartMachine.end_number, specs.ChartMachine.noted, specs.ChartMachine.number_offsets, specs.ChartMachine.sign_offsets, proofs.ChartBytes.letter-no_space, proofs.ChartBytes.digit-no_space, proofs.ChartBytes.digit-no_letter, proofs.ChartBytes.space-no_name_byte, proofs.ChartBytes.space-not_equals, proofs.ChartTexts.IsNameFrom, proofs.ChartTexts.name_from, proofs.ChartTexts.no_name, proofs.ChartTexts.number_first}
use Rattle.batch_reader.specs.ChartGrammar as spec

-- the machine, over the rest of a text of length total
unfoldable pub runs : ℕ → List ℕ → State → Option (Diagram × Firsts)
runs total [] st = finish (total - length {A = ℕ} []) st
runs total (b ∷ s) st = option_and_then (runs total s) (step (total - length (b ∷ s)) b st)

pub runs-skips : {s t : List ℕ} → Skips s t → (total : ℕ) (w : Want) (frames : List Frame) (o : Firsts)
    → runs total s (between w frames o) ≡ runs total t (between w frames o)
unfolding runs step begin between
runs-skips here total w frames o = refl
runs-skips (space {b = b} {s = s} e skips) total w frames o = rw e (runs-skips skips total w frames o)

-- ---- words

letters_go_on : (rest read t : List ℕ) (total : ℕ) (w : Want) (frames : List Frame) (o : Firsts)
    → list_all is_name_byte rest ≡ true → length read + length rest ≤ MAX_NAME_LEN
    → runs total (rest ++ t) (in_token (letters read) w frames o) ≡ runs total t (in_token (letters (read ++ rest)) w frames o)
unfolding runs step in_token
letters_go_on [] read t total w frames o all short = rw append-nil refl
letters_go_on (b ∷ bs) read t total w frames o all short =
    let name_byte : is_name_byte b ≡ true = (and_parts (is_name_byte b) _ all).0 in
    let others : list_all is_name_byte bs ≡ true = (and_parts (is_name_byte b) _ all).1 in
    let room : ltb (length read) MAX_NAME_LEN ≡ true = grind (arith, nat_tests) in
    let longer : length (read ++ b ∷ []) + length bs ≤ MAX_NAME_LEN = omega (arith, length-append read (b ∷ [])) in
    let joined = append_assoc read (b ∷ []) bs in
    rw (name_byte, room) (letters_go_on bs (read ++ b ∷ []) t total w frames o others longer ∙ ap (λ l. runs total t (in_token (letters l) w frames o)) joined)

-- a name, at a place where one may begin
pub runs-word : (bytes t : List ℕ) (total : ℕ) (w : Want) (frames : List Frame) (o : Firsts)
    → IsName bytes → takes_word w ≡ true
    → runs total (bytes ++ t) (between w frames o) ≡ runs total t (in_token (letters bytes) w frames o)
unfolding runs step begin between in_token
runs-word [] t total w frames o word takes = absurd (no_name word)
runs-word (b ∷ bs) t total w frames o word takes =
    let parts : IsNameFrom b bs = name_from b bs word in
    let letter : is_ascii_alphabetic b ≡ true = parts.letter in
    let no_space = letter-no_space b letter in
    rw (no_space, letter, takes) (letters_go_on bs (b ∷ []) t total w frames o parts.others (omega (arith, parts.short)))

digits_go_on : (rest read t : List ℕ) (total : ℕ) (w : Want) (frames : List Frame) (o : Firsts)
    → list_all is_ascii_digit rest ≡ true → length read + length rest ≤ MAX_DIGITS
    → runs total (rest ++ t) (in_token (digits read) w frames o) ≡ runs total t (in_token (digits (read ++ rest)) w frames o)
unfolding runs step in_token
digits_go_on [] read t total w frames o all short = rw append-nil refl
digits_go_on (b ∷ bs) read t total w frames o all short =
    let digit : is_ascii_digit b ≡ true = (and_parts (is_ascii_digit b) _ all).0 in
    let others : list_all is_ascii_digit bs ≡ true = (and_parts (is_ascii_digit b) _ all).1 in
    let room : ltb (length read) MAX_DIGITS ≡ true = grind (arith, nat_tests) in
    let longer : length (read ++ b ∷ []) + length bs ≤ MAX_DIGITS = omega (arith, length-append read (b ∷ [])) in
    let joined = append_assoc read (b ∷ []) bs in
    rw (digit, room) (digits_go_on bs (read ++ b ∷ []) t total w frames o others longer ∙ ap (λ l. runs total t (in_token (digits l) w frames o)) joined)

-- a number, at a place where one may begin
pub runs-number : (bytes t : List ℕ) (total : ℕ) (w : Want) (frames : List Frame) (o : Firsts)
    → IsNumber bytes → takes_number w ≡ true
    → runs total (bytes ++ t) (between w frames o) ≡ runs total t (in_token (digits bytes) w frames o)
unfolding runs step begin between in_token
runs-number [] t total w frames o number takes = absurd (omega (arith, number.some))
runs-number (b ∷ bs) t total w frames o number takes =
    let parts = number_first b bs number in
    let digit : is_ascii_digit b ≡ true = parts.0 in
    let no_space = digit-no_space b digit in
    let no_letter = digit-no_letter b digit in
    rw (no_space, no_letter, digit, takes) (digits_go_on bs (b ∷ []) t total w frames o parts.1 (omega (arith, number.short)))

-- ---- the end of a token

-- the text is over, or its first byte does not go on with the token
abbrev pub Ends : Lexeme → List ℕ → Type 0
Ends l [] = ⊤
Ends l (b ∷ s) = continues l b ≡ false

-- at the end of a token, the machine goes on from the state after it
ended : (total : ℕ) (t : List ℕ) (l : Lexeme) (w : Want) (frames : List Frame) (o : Firsts) (w' : Want) (o' : Firsts) → Ends l t
    → end_token (total - length t) l (in_token l w frames o) ≡ Some (between w' frames o')
    → runs total t (in_token l w frames o) ≡ runs total t (between w' frames o')
unfolding runs step finish in_token between
ended total t l w frames o w' o' h e = grind arith

-- the text is over, or its first byte is not one of names
abbrev pub IsFree : List ℕ → Type 0
IsFree [] = ⊤
IsFree (b ∷ s) = is_name_byte b ≡ false

free-letters : (bytes t : List ℕ) → IsFree t → Ends (letters bytes) t
free-letters bytes [] free = tt
free-letters bytes (b ∷ s) free = free

pub free-skips : {s t : List ℕ} → Skips s t → IsFree t → IsFree s
free-skips here free = free
free-skips (space {b = b} e skips) free = space-no_name_byte b e

-- the text is over, or does not begin with an equals sign
abbrev pub IsNotEquals : List ℕ → Type 0
IsNotEquals [] = ⊤
IsNotEquals (b ∷ s) = eqb b 61 ≡ false

pub not_equals-skips : {s t : List ℕ} → Skips s t → IsNotEquals t → IsNotEquals s
not_equals-skips here free = free
not_equals-skips (space {b = b} e skips) free = space-not_equals b e

less_ends : (t : List ℕ) → IsNotEquals t → Ends less t
less_ends [] h = tt
less_ends (b ∷ s) h = h

more_ends : (t : List ℕ) → IsNotEquals t → Ends more t
more_ends [] h = tt
more_ends (b ∷ s) h = h

-- ---- tokens after spaces

pub runs-word_token : {s : List ℕ} (bytes t : List ℕ) (w' : Want) (total : ℕ) (w : Want) (frames : List Frame) (o : Firsts)
    → Skips s (bytes ++ t) → IsName bytes → takes_word w ≡ true → IsFree t → take_word w bytes (length frames) ≡ Some w'
    → runs total s (between w frames o) ≡ runs total t (between w' frames o)
unfolding in_token between
runs-word_token bytes t w' total w frames o skips word takes free e =
    runs-skips skips total w frames o
    ∙ runs-word bytes t total w frames o word takes
    ∙ ended total t (letters bytes) w frames o w' o (free-letters bytes t free) (ap (with_want (in_token (letters bytes) w frames o)) e)

pub runs-number_token : {s : List ℕ} (bytes t : List ℕ) (w' : Want) (total : ℕ) (w : Want) (frames : List Frame) (o : Firsts)
    → Skips s (bytes ++ t) → IsNumber bytes → takes_number w ≡ true → IsFree t → take_number w (number_of bytes) ≡ Some w'
    → runs total s (between w frames o) ≡ runs total t (between w' frames (noted o (number_offsets w (number_of bytes) (total - length (bytes ++ t)))))
unfolding in_token between end_number
runs-number_token bytes t w' total w frames o skips number takes free e = grind (arith, length-append bytes t, runs-skips skips total w frames o, runs-number bytes t total w frames o number takes, ended)

pub runs-operator_token : {s t : List ℕ} {op : Op} → ReadsOp s t op → IsNotEquals t → (total : ℕ) (test : Test) (bytes : List ℕ) (frames : List Frame) (o : Firsts)
    → runs total s (between (an_operator test bytes) frames o) ≡ runs total t (between (an_operand test bytes op) frames o)
unfolding runs step begin in_token between
runs-operator_token (spec.less {t = t} skips) not_equals total test bytes frames o =
    runs-skips skips total (an_operator test bytes) frames o
    ∙ ended total t less (an_operator test bytes) frames o (an_operand test bytes Less) o (less_ends t not_equals) refl
runs-operator_token (spec.at_most skips) not_equals total test bytes frames o = runs-skips skips total (an_operator test bytes) frames o
runs-operator_token (spec.equal skips) not_equals total test bytes frames o = runs-skips skips total (an_operator test bytes) frames o
runs-operator_token (spec.not_equal skips) not_equals total test bytes frames o = runs-skips skips total (an_operator test bytes) frames o
runs-operator_token (spec.at_least skips) not_equals total test bytes frames o = runs-skips skips total (an_operator test bytes) frames o
runs-operator_token (spec.greater {t = t} skips) not_equals total test bytes frames o =
    runs-skips skips total (an_operator test bytes) frames o
    ∙ ended total t more (an_operator test bytes) frames o (an_operand test bytes Greater) o (more_ends t not_equals) refl

pub runs-sign : {b : ℕ} {s t : List ℕ} (w' : Want) (frames' : List Frame) (total : ℕ) (w : Want) (frames : List Frame) (o : Firsts)
    → Skips s (b ∷ t) → begin (total - length (b ∷ t)) b (between w frames o) ≡ Some (between w' frames' (noted o (sign_offsets w (total - length (b ∷ t)))))
    → runs total s (between w frames o) ≡ runs total t (between w' frames' (noted o (sign_offsets w (total - length (b ∷ t)))))
unfolding runs step between
runs-sign {t = t} w' frames' total w frames o skips e = grind (arith, runs-skips skips total w frames o)
