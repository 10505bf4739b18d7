-- A line is read alike with a `?` for each zero byte.
use Rattle.std.proofs.Common.{◌≡◌, ◌⊎◌, ℕ, zero, suc, ◌+◌, ◌-◌, Bool, true, false, not, ◌&&◌, List, [], ◌∷◌, length, take, drop, map, filter, Option, Some, None, cond, codes, nat_lt, nat_le, ◌==◌, slice_index, refl, sym, ◌∙◌, ap, inl, inr}
use Rattle.std.{proofs.lemmas.Bool.and_parts, proofs.lemmas.Bool.cases_Bool, proofs.lemmas.Bool.not-true, proofs.lemmas.Bool.eqb-true, proofs.lemmas.List.take-map, proofs.lemmas.List.length-map, specs.Char.is_ascii_alphabetic, specs.Char.is_ascii_digit, specs.List.slice_split, specs.List.onto_first, specs.List.list_all, specs.List.before_first, specs.List.after_first, specs.List.position_or_len, specs.Str.bytes_eq, specs.Str.Lines.strip_carriage_return}
use Rattle.batch_text.specs.{NameText.is_name, NameText.is_name_byte, NameText.is_name_spelling, NumberText.is_digits, NumberText.number_of, declared.name.TheConstants.MAX_NAME_LEN, declared.number.TheConstants.MAX_DIGITS, PlaceText.is_number_spelling}
use Rattle.batch_recipe.specs.Conditions.{Name}
use Rattle.batch_matrix.specs.declared.{command.Command.Command, report.Report.Report}
use Rattle.batch_wire.specs.EventLine.{is_space, is_word, event_words, is_number, is_equals, is_pair, pair_of, is_role_pair, role_pair_of, command_of, word_of_report, asked_of, create_of, only_batch, told_of, report_of, event_of_order, event_of_words, is_comment, event_of_text, event_of_line}
use Rattle.batch_serve.specs.CleanLines.{clean_byte}

abbrev clean_bytes : List ℕ → List ℕ
clean_bytes bytes = map clean_byte bytes

-- Tests that say the same of `?` and of zero

module _ (p : ℕ → Bool) (alike : p 63 ≡ p 0) where
  test_byte : (b : ℕ) → p (clean_byte b) ≡ p b
  test_byte b = elim (cases_Bool (b == 0)) [
    | inl is ↦ ap (λ t. p (cond t 63 b)) is ∙ alike ∙ ap p (sym (eqb-true b 0 is))
    | inr other ↦ ap (λ t. p (cond t 63 b)) other
  ]

  pub test_all : (bytes : List ℕ) → list_all p (clean_bytes bytes) ≡ list_all p bytes
  test_all [] = refl
  test_all (b ∷ bytes) = ap (λ t. t && list_all p (clean_bytes bytes)) (test_byte b) ∙ ap (λ t. p b && t) (test_all bytes)

  test_at : (bytes : List ℕ) (k : ℕ) → p (slice_index (clean_bytes bytes) k) ≡ p (slice_index bytes k)
  test_at [] k = refl
  test_at (b ∷ bytes) zero = test_byte b
  test_at (b ∷ bytes) (suc k) = test_at bytes k

  place : (bytes : List ℕ) → position_or_len p (clean_bytes bytes) ≡ position_or_len p bytes
  place [] = refl
  place (b ∷ bytes) = ap (λ t. cond (not t) (1 + position_or_len p (clean_bytes bytes)) 0) (test_byte b) ∙ ap (λ n. cond (not (p b)) (1 + n) 0) (place bytes)

  before : (bytes : List ℕ) → before_first p (clean_bytes bytes) ≡ clean_bytes (before_first p bytes)
  before bytes = ap (λ n. take n (clean_bytes bytes)) (place bytes) ∙ take-map clean_byte (position_or_len p bytes) bytes

  drop_clean : (n : ℕ) (bytes : List ℕ) → drop n (clean_bytes bytes) ≡ clean_bytes (drop n bytes)
  drop_clean zero bytes = refl
  drop_clean (suc n) [] = refl
  drop_clean (suc n) (b ∷ bytes) = drop_clean n bytes

  behind : (bytes : List ℕ) → after_first p (clean_bytes bytes) ≡ clean_bytes (after_first p bytes)
  behind bytes = ap (λ n. drop (n + 1) (clean_bytes bytes)) (place bytes) ∙ drop_clean (position_or_len p bytes + 1) bytes

  onto : (b : ℕ) (parts : List (List ℕ)) → onto_first (clean_byte b) (map clean_bytes parts) ≡ map clean_bytes (onto_first b parts)
  onto b [] = refl
  onto b (part ∷ parts) = refl

  split : (bytes : List ℕ) → slice_split p (clean_bytes bytes) ≡ map clean_bytes (slice_split p bytes)
  split [] = refl
  split (b ∷ bytes) =
      ap (λ t. cond t ([] ∷ slice_split p (clean_bytes bytes)) (onto_first (clean_byte b) (slice_split p (clean_bytes bytes)))) (test_byte b)
      ∙ ap (λ l. cond (p b) ([] ∷ l) (onto_first (clean_byte b) l)) (split bytes)
      ∙ ap (λ l. cond (p b) ([] ∷ map clean_bytes (slice_split p bytes)) l) (onto b (slice_split p bytes))
      ∙ split_if (p b) (slice_split p bytes) (onto_first b (slice_split p bytes))
    where
      split_if : (t : Bool) (a b : List (List ℕ)) → cond t ([] ∷ map clean_bytes a) (map clean_bytes b) ≡ map clean_bytes (cond t ([] ∷ a) b)
      split_if true a b = refl
      split_if false a b = refl

-- bytes that each pass a test have no zero, if zero fails the test
unchanged : (p : ℕ → Bool) → p 0 ≡ false → (bytes : List ℕ) → list_all p bytes ≡ true → clean_bytes bytes ≡ bytes
unchanged p none [] all = refl
unchanged p none (b ∷ bytes) all = elim (cases_Bool (b == 0)) [
  | inl is ↦ let no_zero : p b ≡ false = ap p (eqb-true b 0 is) ∙ none in
      let clash : true ≡ false = sym (and_parts (p b) (list_all p bytes) all).0 ∙ no_zero in absurd (cc clash)
  | inr other ↦ ap (λ t. cond t 63 b ∷ clean_bytes bytes) other ∙ ap (λ l. b ∷ l) (unchanged p none bytes (and_parts (p b) (list_all p bytes) all).1)
]

-- Words

abbrev plain_byte : ℕ → Bool
plain_byte b = not (63 == b) && not (0 == b)

-- a word of the language, which has neither byte
is_same : (bytes word : List ℕ) → list_all plain_byte word ≡ true → bytes_eq (clean_bytes bytes) word ≡ bytes_eq bytes word
is_same [] [] plain = refl
is_same [] (y ∷ word) plain = refl
is_same (b ∷ bytes) [] plain = refl
is_same (b ∷ bytes) (y ∷ word) plain =
    let parts = and_parts (plain_byte y) (list_all plain_byte word) plain in
    let here = and_parts (not (63 == y)) (not (0 == y)) parts.0 in
    ap (λ t. t && bytes_eq (clean_bytes bytes) word) (test_byte (λ x. x == y) (not-true (63 == y) here.0 ∙ sym (not-true (0 == y) here.1)) b)
    ∙ ap (λ t. (b == y) && t) (is_same bytes word parts.1)

size : (bytes : List ℕ) → length (clean_bytes bytes) ≡ length bytes
size bytes = length-map bytes clean_byte

name : (word : List ℕ) → is_name (clean_bytes word) ≡ is_name word
name word =
    ap (λ t. (t && list_all is_name_byte (clean_bytes word)) && nat_le (length (clean_bytes word)) MAX_NAME_LEN) (test_at is_ascii_alphabetic refl word 0)
    ∙ ap (λ t. (is_ascii_alphabetic (slice_index word 0) && t) && nat_le (length (clean_bytes word)) MAX_NAME_LEN) (test_all is_name_byte refl word)
    ∙ ap (λ n. is_name_spelling word && nat_le n MAX_NAME_LEN) (size word)

name_kept : (word : List ℕ) → is_name word ≡ true → clean_bytes word ≡ word
name_kept word is = unchanged is_name_byte refl word (and_parts _ (list_all is_name_byte word) (and_parts (is_name_spelling word) _ is).0).1

number : (word : List ℕ) → is_number (clean_bytes word) ≡ is_number word
number word =
    ap (λ t. (nat_lt 0 (length (clean_bytes word)) && t) && nat_le (length (clean_bytes word)) MAX_DIGITS) (test_all is_ascii_digit refl word)
    ∙ ap (λ n. (nat_lt 0 n && is_digits word) && nat_le n MAX_DIGITS) (size word)

number_kept : (word : List ℕ) → is_number word ≡ true → clean_bytes word ≡ word
number_kept word is = unchanged is_ascii_digit refl word (and_parts _ (is_digits word) (and_parts (is_number_spelling word) _ is).0).1

-- Pairs

module _ (word : List ℕ) where
  first : before_first is_equals (clean_bytes word) ≡ clean_bytes (before_first is_equals word)
  first = before is_equals refl word

  second : after_first is_equals (clean_bytes word) ≡ clean_bytes (after_first is_equals word)
  second = behind is_equals refl word

  pair : is_pair (clean_bytes word) ≡ is_pair word
  pair = ap (λ l. is_name l && is_number (after_first is_equals (clean_bytes word))) first ∙ ap (λ t. t && is_number (after_first is_equals (clean_bytes word))) (name (before_first is_equals word))
      ∙ ap (λ l. is_name (before_first is_equals word) && is_number l) second ∙ ap (λ t. is_name (before_first is_equals word) && t) (number (after_first is_equals word))

  pair_kept : is_pair word ≡ true → pair_of (clean_bytes word) ≡ pair_of word
  pair_kept is =
      let parts = and_parts (is_name (before_first is_equals word)) (is_number (after_first is_equals word)) is in
      ap (λ l. (l, number_of (after_first is_equals (clean_bytes word)))) (first ∙ name_kept (before_first is_equals word) parts.0)
      ∙ ap (λ l. (before_first is_equals word, number_of l)) (second ∙ number_kept (after_first is_equals word) parts.1)

  role_pair : is_role_pair (clean_bytes word) ≡ is_role_pair word
  role_pair = ap (λ l. is_name l && is_name (after_first is_equals (clean_bytes word))) first ∙ ap (λ t. t && is_name (after_first is_equals (clean_bytes word))) (name (before_first is_equals word))
      ∙ ap (λ l. is_name (before_first is_equals word) && is_name l) second ∙ ap (λ t. is_name (before_first is_equals word) && t) (name (after_first is_equals word))

  role_pair_kept : is_role_pair word ≡ true → role_pair_of (clean_bytes word) ≡ role_pair_of word
  role_pair_kept is =
      let parts = and_parts (is_name (before_first is_equals word)) (is_name (after_first is_equals word)) is in
      ap (λ l. (l, after_first is_equals (clean_bytes word))) (first ∙ name_kept (before_first is_equals word) parts.0)
      ∙ ap (λ l. (before_first is_equals word, l)) (second ∙ name_kept (after_first is_equals word) parts.1)

-- a test of words with the same outcome for clean ones, and the reading of the words that pass it
all_words : (test : List ℕ → Bool) → ((word : List ℕ) → test (clean_bytes word) ≡ test word) → (ws : List (List ℕ)) → list_all test (map clean_bytes ws) ≡ list_all test ws
all_words test same [] = refl
all_words test same (w ∷ ws) = ap (λ t. t && list_all test (map clean_bytes ws)) (same w) ∙ ap (λ t. test w && t) (all_words test same ws)

read_words : {X : Type 0} (test : List ℕ → Bool) (f : List ℕ → X) → ((word : List ℕ) → test word ≡ true → f (clean_bytes word) ≡ f word) → (ws : List (List ℕ)) → list_all test ws ≡ true
    → map f (map clean_bytes ws) ≡ map f ws
read_words test f same [] all = refl
read_words test f same (w ∷ ws) all =
    let parts = and_parts (test w) (list_all test ws) all in
    ap (λ x. x ∷ map f (map clean_bytes ws)) (same w parts.0) ∙ ap (λ l. f w ∷ l) (read_words test f same ws parts.1)

many : (ws : List (List ℕ)) → length (map clean_bytes ws) ≡ length ws
many ws = length-map ws clean_bytes

command : (word : List ℕ) → command_of (clean_bytes word) ≡ command_of word
command word = rw (
  is_same word (codes "start") refl,
  is_same word (codes "pause") refl,
  is_same word (codes "resume") refl,
  is_same word (codes "hold") refl,
  is_same word (codes "restart") refl,
  is_same word (codes "stop") refl,
  is_same word (codes "abort") refl,
  is_same word (codes "reset") refl,
) refl

report_word : (word : List ℕ) → word_of_report (clean_bytes word) ≡ word_of_report word
report_word word = rw (
  is_same word (codes "done") refl,
  is_same word (codes "paused") refl,
  is_same word (codes "held") refl,
  is_same word (codes "running") refl,
  is_same word (codes "stopped") refl,
  is_same word (codes "aborted") refl,
  is_same word (codes "fault") refl,
) refl

-- Lines

asked_if : (recipe size : List ℕ) (pairs : List (List ℕ)) → ((is_name recipe && is_number size && list_all is_role_pair pairs) ≡ true) ⊎ ((is_name recipe && is_number size && list_all is_role_pair pairs) ≡ false)
    → asked_of (clean_bytes recipe) (clean_bytes size) (map clean_bytes pairs) ≡ asked_of recipe size pairs
asked_if recipe size pairs (inl is) =
    let parts = and_parts (is_name recipe && is_number size) (list_all is_role_pair pairs) is in
    let front = and_parts (is_name recipe) (is_number size) parts.0 in
    rw (name_kept recipe front.0, number_kept size front.1, all_words is_role_pair role_pair pairs, read_words is_role_pair role_pair_of role_pair_kept pairs parts.1) refl
asked_if recipe size pairs (inr other) =
    rw (name recipe, number size, all_words is_role_pair role_pair pairs, other) refl

asked : (recipe size : List ℕ) (pairs : List (List ℕ)) → asked_of (clean_bytes recipe) (clean_bytes size) (map clean_bytes pairs) ≡ asked_of recipe size pairs
asked recipe size pairs = asked_if recipe size pairs (cases_Bool (is_name recipe && is_number size && list_all is_role_pair pairs))

creates : (ws : List (List ℕ)) → create_of (map clean_bytes ws) ≡ create_of ws
creates [] = refl
creates (w ∷ []) = refl
creates (recipe ∷ size ∷ pairs) = rw (many pairs, asked recipe size pairs) refl

batch_if : (word : List ℕ) → (is_number word ≡ true) ⊎ (is_number word ≡ false) → only_batch (clean_bytes word ∷ []) ≡ only_batch (word ∷ [])
batch_if word (inl is) = rw (number_kept word is) refl
batch_if word (inr other) = rw (number word, other) refl

batch : (ws : List (List ℕ)) → only_batch (map clean_bytes ws) ≡ only_batch ws
batch [] = refl
batch (w ∷ []) = batch_if w (cases_Bool (is_number w))
batch (w ∷ more ∷ others) = refl

told_if : (unit phase : Name) (pairs : List (List ℕ)) (word : Report) → ((is_name unit && is_name phase && list_all is_pair pairs) ≡ true) ⊎ ((is_name unit && is_name phase && list_all is_pair pairs) ≡ false)
    → told_of (clean_bytes unit) (clean_bytes phase) (map clean_bytes pairs) (Some word) ≡ told_of unit phase pairs (Some word)
told_if unit phase pairs word (inl is) =
    let parts = and_parts (is_name unit && is_name phase) (list_all is_pair pairs) is in
    let front = and_parts (is_name unit) (is_name phase) parts.0 in
    rw (name_kept unit front.0, name_kept phase front.1, all_words is_pair pair pairs, read_words is_pair pair_of pair_kept pairs parts.1) refl
told_if unit phase pairs word (inr other) = rw (name unit, name phase, all_words is_pair pair pairs, other) refl

told : (unit phase : Name) (pairs : List (List ℕ)) (word : Option Report) → told_of (clean_bytes unit) (clean_bytes phase) (map clean_bytes pairs) word ≡ told_of unit phase pairs word
told unit phase pairs None = refl
told unit phase pairs (Some word) = told_if unit phase pairs word (cases_Bool (is_name unit && is_name phase && list_all is_pair pairs))

reports : (ws : List (List ℕ)) → report_of (map clean_bytes ws) ≡ report_of ws
reports [] = refl
reports (unit ∷ []) = refl
reports (unit ∷ phase ∷ []) = refl
reports (unit ∷ phase ∷ word ∷ pairs) =
    rw (report_word word, many pairs, is_same word (codes "done") refl, told unit phase pairs (word_of_report word)) refl

orders : (ws : List (List ℕ)) (found : Option Command) → event_of_order (map clean_bytes ws) found ≡ event_of_order ws found
orders ws None = refl
orders ws (Some found) = rw (batch ws) refl

lines : (ws : List (List ℕ)) → event_of_words (map clean_bytes ws) ≡ event_of_words ws
lines [] = refl
lines (w ∷ ws) = rw (is_same w (codes "create") refl, is_same w (codes "remove") refl, is_same w (codes "report") refl, command w, creates ws, batch ws, reports ws, orders ws (command_of w)) refl

word_if : (parts : List (List ℕ)) → filter is_word (map clean_bytes parts) ≡ map clean_bytes (filter is_word parts)
word_if [] = refl
word_if ([] ∷ parts) = word_if parts
word_if ((b ∷ part) ∷ parts) = ap (λ l. clean_bytes (b ∷ part) ∷ l) (word_if parts)

text_words : (text : List ℕ) → event_words (clean_bytes text) ≡ map clean_bytes (event_words text)
text_words text = ap (filter is_word) (split is_space refl text) ∙ word_if (slice_split is_space text)

comment : (text : List ℕ) → is_comment (clean_bytes text) ≡ is_comment text
comment [] = refl
comment (b ∷ text) = test_byte (λ x. x == 35) refl b

text_same : (text : List ℕ) → event_of_text (clean_bytes text) ≡ event_of_text text
text_same text = rw (size text, comment text, text_words text, lines (event_words text)) refl

strip_if : (t : Bool) (line : List ℕ) → cond t (take (length line - 1) (clean_bytes line)) (clean_bytes line) ≡ clean_bytes (cond t (take (length line - 1) line) line)
strip_if true line = take-map clean_byte (length line - 1) line
strip_if false line = refl

strip : (line : List ℕ) → strip_carriage_return (clean_bytes line) ≡ clean_bytes (strip_carriage_return line)
strip line =
    ap (λ n. cond (slice_index (clean_bytes line) (n - 1) == 13) (take (n - 1) (clean_bytes line)) (clean_bytes line)) (size line)
    ∙ ap (λ t. cond t (take (length line - 1) (clean_bytes line)) (clean_bytes line)) (test_at (λ x. x == 13) refl line (length line - 1))
    ∙ strip_if (slice_index line (length line - 1) == 13) line

pub bytes_same : (line : List ℕ) → event_of_line (clean_bytes line) ≡ event_of_line line
bytes_same line = ap event_of_text (strip line) ∙ text_same (strip_carriage_return line)
