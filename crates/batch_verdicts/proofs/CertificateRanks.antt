-- The text of a certificate is read as the ranks that it was made of.
use Rattle.std.proofs.Common.{◌≡◌, ℕ, zero, suc, ◌-◌, ◌*◌, ◌^◌, ◌<◌, ◌≤◌, ◌==◌, ◌&&◌, ◌||◌, Bool, true, false, Some, None, List, [], ◌∷◌, ◌++◌, length, map, get_or, slice_get, codes, decimal, refl, sym, ap, subst, ◌∙◌, arith, rules, inl, inr, append_assoc, lit<, nat_lt, nat_le}
use Rattle.std.{specs.Prelude.IsTrue, specs.Prelude.All, specs.Prelude.unwrap_or, specs.Char.is_ascii_digit, specs.Cmp.Lexicographic.nat_list_eq_equiv, specs.List.list_all, specs.List.slice_split, specs.Str.Lines.lines, specs.Str.Lines.lines_of_parts, specs.Str.Lines.strip_carriage_return, proofs.lemmas.Bool.and_parts, proofs.lemmas.Bool.and_from, proofs.lemmas.Bool.or_left, proofs.lemmas.Bool.or_cases, proofs.lemmas.Bool.cond-true, proofs.lemmas.Bool.cond-false, proofs.lemmas.Bool.ne_eqb, proofs.lemmas.Bool.lt-ltb, proofs.lemmas.Bool.le-leb, proofs.lemmas.Bool.false≢true, proofs.lemmas.Fmt.decimal_nonempty, proofs.lemmas.Fmt.digits_decimal, proofs.lemmas.Fmt.digits_value-decimal, proofs.lemmas.Fmt.length-decimal-le, proofs.lemmas.List.length-map, proofs.lemmas.List.length-append, proofs.lemmas.List.Folds.list_all-append, proofs.lemmas.List.Splits.length-slice_split, proofs.lemmas.List.Splits.slice_split_at, proofs.lemmas.List.Splits.slice_split_none, proofs.lemmas.List.Sums.AllPass-from_list_all, proofs.lemmas.Map.Entries.lookup_from_place, proofs.lemmas.Map.Made.length-le_from_is_member, proofs.lemmas.Option.get_or_from_slice_get, proofs.lemmas.Option.slice_get_within, proofs.lemmas.Slice.Eq.bytes_eq-Decides, proofs.lemmas.Str.Parse.IsNumeralModel, proofs.lemmas.Str.Parse.numerals_by_value}
use Rattle.batch_text.{specs.NameText.IsName, specs.NameText.is_name, specs.NameText.is_name_byte, specs.NumberText.is_digits, specs.NumberText.number_of, specs.PlaceText.is_number_spelling, specs.PlaceText.is_short_number, specs.declared.number.TheConstants.MAX_DIGITS, proofs.NameTests.is_name-true}
use Rattle.batch_cell.{specs.LookUps.resources_of, specs.declared.cell.Cell.Cell, proofs.Resources.few_resources}
use Rattle.batch_recipe.specs.{Conditions.Name, Conditions.same_name, WellFormed.is_among, declared.recipe.Recipe.Recipe}
use Rattle.batch_model.specs.Lists.{Each}
use Rattle.batch_reader.proofs.DistinctNames.{IsDistinct-from_are_distinct}
use Rattle.batch_verify.{specs.CertificateText.Rank, specs.CertificateText.words, specs.CertificateText.is_rank, specs.CertificateText.rank_of_words, specs.CertificateText.rank_of_line, specs.CertificateText.AreInOrderOfName, specs.CertificateText.IsCertificateText, specs.Ranked.names_in, specs.Ranked.rank_of, specs.Ranked.AreAmong, specs.Ranked.RanksAll, specs.declared.certificate.TheConstants.MAX_LINES, specs.declared.certificate.TheConstants.MAX_RANK, proofs.Cuts.lines_first, proofs.NamesInList.Each-at, proofs.CertificateEntries.name_at, specs.declared.certificate.TheConstants.MAX_CERTIFICATE_LEN}
use Rattle.batch_check.specs.Clearing.{IsLeastClearance}
use Rattle.batch_verdicts.specs.VerdictTexts.{certificate_text, rank_text}

-- Bytes

-- a byte of a rank line
abbrev is_line_byte : ℕ → Bool
is_line_byte b = is_name_byte b || b == 32

name_in_line : (b : ℕ) → is_name_byte b ≡ true → is_line_byte b ≡ true
name_in_line b h = or_left (is_name_byte b) (b == 32) h

digit_in_line : (b : ℕ) → is_ascii_digit b ≡ true → is_line_byte b ≡ true
digit_in_line b h = rw h refl

wider : (p q : ℕ → Bool) → ((b : ℕ) → p b ≡ true → q b ≡ true) → (xs : List ℕ) → list_all p xs ≡ true → list_all q xs ≡ true
wider p q h [] all = refl
wider p q h (x ∷ xs) all =
    let parts = and_parts (p x) (list_all p xs) all in
    and_from (q x) (list_all q xs) (h x parts.0) (wider p q h xs parts.1)

both : (p : ℕ → Bool) (xs ys : List ℕ) → list_all p xs ≡ true → list_all p ys ≡ true → list_all p (xs ++ ys) ≡ true
both p xs ys h g = list_all-append p xs ys ∙ and_from (list_all p xs) (list_all p ys) h g

-- a byte that doesn't pass is none of those which do
lacks : (p : ℕ → Bool) (c : ℕ) → p c ≡ false → (xs : List ℕ) → list_all p xs ≡ true → All (λ b. (b == c) ≡ false) xs
lacks p c fails xs all k d below =
    ne_eqb (get_or xs k d) c (λ e. false≢true (sym fails ∙ ap p (sym e) ∙ AllPass-from_list_all p xs all k d below))

-- Numbers

decimal_digits : IsNumeralModel (λ ds. is_digits ds ≡ true) number_of
decimal_digits = numerals_by_value _ (search rules)

fits : (n : ℕ) → n ≤ MAX_RANK → n < 2 ^ 64
fits n h = omega arith

is_rank-decimal : (n : ℕ) → 0 < n → n ≤ MAX_RANK → is_rank (decimal n) ≡ true
is_rank-decimal n some few =
    let ds = decimal n in
    let digits : is_digits ds ≡ true = digits_decimal decimal_digits n (fits n few) in
    let value : number_of ds ≡ n = digits_value-decimal decimal_digits n (fits n few) in
    let short : length ds ≤ MAX_DIGITS = length-decimal-le 19 n (lit< tt) (omega arith) (fits n few) in
    and_from (is_number_spelling ds && is_short_number ds) (nat_lt 0 (number_of ds) && nat_le (number_of ds) MAX_RANK)
    (and_from (is_number_spelling ds) (is_short_number ds)
    (and_from (nat_lt 0 (length ds)) (is_digits ds) (lt-ltb 0 (length ds) (decimal_nonempty n (fits n few))) digits)
    (le-leb (length ds) MAX_DIGITS short))
    (rw value (and_from (nat_lt 0 n) (nat_le n MAX_RANK) (lt-ltb 0 n some) (le-leb n MAX_RANK few)))

-- Lines

-- a rank whose line is a rank line
pub record IsWritable (r : Rank) : Type 0 where
  pub name : IsName r.0
  pub positive : 0 < r.1
  pub bounded : r.1 ≤ MAX_RANK

-- the rest of the line behind its first word
abbrev words_behind : Rank → List ℕ
words_behind r = r.0 ++ 32 ∷ decimal r.1

-- the line without its end
abbrev rank_line : Rank → List ℕ
rank_line r = codes "rank " ++ words_behind r

module _ (r : Rank) (w : IsWritable r) where
  named : list_all is_name_byte r.0 ≡ true
  named = let parts = and_parts _ (list_all is_name_byte r.0) w.name.spelled in parts.1

  digits : is_digits (decimal r.1) ≡ true
  digits = digits_decimal decimal_digits r.1 (fits r.1 w.bounded)

  line_bytes : list_all is_line_byte (rank_line r) ≡ true
  line_bytes =
      both is_line_byte r.0 (32 ∷ decimal r.1) (wider is_name_byte is_line_byte name_in_line r.0 named)
      (wider is_ascii_digit is_line_byte digit_in_line (decimal r.1) digits)

  line_words : words (rank_line r) ≡ codes "rank" ∷ r.0 ∷ decimal r.1 ∷ []
  line_words =
      ap (λ ws. codes "rank" ∷ ws)
      (slice_split_at (λ b. b == 32) r.0 32 (decimal r.1) (lacks is_name_byte 32 refl r.0 named) refl
      ∙ ap (λ ws. r.0 ∷ ws) (slice_split_none (λ b. b == 32) (decimal r.1) (lacks is_ascii_digit 32 refl (decimal r.1) digits)))

  line_said : rank_of_line (rank_line r) ≡ Some r
  line_said =
      let good : (is_name r.0 && is_rank (decimal r.1)) ≡ true =
      and_from (is_name r.0) (is_rank (decimal r.1)) ((is_name-true r.0).1 w.name) (is_rank-decimal r.1 w.positive w.bounded) in
      ap rank_of_words line_words
      ∙ (cond-true (is_name r.0 && is_rank (decimal r.1)) (Some (r.0, number_of (decimal r.1))) None good
      ∙ ap (λ n. Some (r.0, n)) (digits_value-decimal decimal_digits r.1 (fits r.1 w.bounded)))

kept : (line : List ℕ) → list_all is_line_byte line ≡ true → 0 < length line → strip_carriage_return line ≡ line
kept line all some =
    cond-false (get_or line (length line - 1) 0 == 13) _ line (lacks is_line_byte 13 refl line all (length line - 1) 0 (omega arith))

first_of_lines : (line rest : List ℕ) → list_all is_line_byte line ≡ true → 0 < length line → lines (line ++ 10 ∷ rest) ≡ line ∷ lines rest
first_of_lines line rest all some =
    let parts = slice_split (λ b. b == 10) rest in
    ap lines_of_parts (slice_split_at (λ b. b == 10) line 10 rest (lacks is_line_byte 10 refl line all) refl)
    ∙ (lines_first line parts (omega (arith, length-slice_split (λ b. b == 10) rest)) ∙ ap (λ l. l ∷ lines rest) (kept line all some))

line_told : (r : Rank) (rest : List ℕ) → rank_text r ++ rest ≡ rank_line r ++ 10 ∷ rest
line_told r rest =
    ap (λ t. codes "rank " ++ t)
    (append_assoc r.0 (32 ∷ (decimal r.1 ++ 10 ∷ [])) rest
    ∙ (ap (λ t. r.0 ++ 32 ∷ t) (append_assoc (decimal r.1) (10 ∷ []) rest) ∙ sym (append_assoc r.0 (32 ∷ decimal r.1) (10 ∷ rest))))

-- Certificates

lines_said : (ranks : List Rank) → Each IsWritable ranks → map rank_of_line (lines (certificate_text ranks)) ≡ map Some ranks
lines_said [] h = refl
lines_said (r ∷ rs) h =
    ap (λ t. map rank_of_line (lines t)) (line_told r (certificate_text rs))
    ∙ (ap (map rank_of_line) (first_of_lines (rank_line r) (certificate_text rs) (line_bytes r h.0) (omega arith))
    ∙ (ap (λ o. o ∷ map rank_of_line (lines (certificate_text rs))) (line_said r h.0) ∙ ap (λ os. Some r ∷ os) (lines_said rs h.1)))

reads_back : (ranks : List Rank) → Each IsWritable ranks → length ranks ≤ MAX_LINES → AreInOrderOfName ranks → IsCertificateText (certificate_text ranks) ranks
reads_back ranks writable few in_order =
    let said = lines_said ranks writable in
    let count : length (lines (certificate_text ranks)) ≡ length ranks =
    sym (length-map (lines (certificate_text ranks)) rank_of_line) ∙ (ap length said ∙ length-map ranks Some) in
    record { few = omega (arith, few, count); good = record { said = said; in_order = in_order } }

line_short : (r : Rank) → IsWritable r → length (rank_text r) ≤ 46
line_short r w =
    let digits : length (decimal r.1) ≤ 7 = length-decimal-le 7 r.1 (lit< tt) (omega (arith, w.bounded)) (fits r.1 w.bounded) in
    omega (arith, w.name.short, digits, length-append r.0 (32 ∷ (decimal r.1 ++ 10 ∷ [])), length-append (decimal r.1) (10 ∷ []))

text_short : (ranks : List Rank) → Each IsWritable ranks → length (certificate_text ranks) ≤ 46 * length ranks
text_short [] h = omega arith
text_short (r ∷ rs) h = omega (arith, line_short r h.0, text_short rs h.1, length-append (rank_text r) (certificate_text rs))

among_known : (known names : List Name) → AreAmong known names → (name : Name) → is_among names name ≡ true → is_among known name ≡ true
among_known known [] all name h = absurd (false≢true h)
among_known known (x ∷ xs) all name h = elim (or_cases (same_name name x) (is_among xs name) h) [
  | inl same ↦ ap (is_among known) ((bytes_eq-Decides name x).0 same) ∙ all.0
  | inr later ↦ among_known known xs all.1 name later
]

each_from_places : {X : Type 0} (P : X → Type 0) (xs : List X) → ((k : ℕ) (x : X) → slice_get xs k ≡ Some x → P x) → Each P xs
each_from_places P [] h = tt
each_from_places P (x ∷ xs) h = (h zero x refl, each_from_places P xs (λ k y e. h (suc k) y e))

-- the ranks of a cell's resources, as a check finds them
module _ (c : Cell) (rs : List Recipe) (ranks : List Rank) (names : All (λ (r : Rank). IsName r.0) ranks) (ranked : RanksAll (resources_of c) ranks) (least : IsLeastClearance c rs (rank_of ranks)) where
  resources_fit : length (resources_of c) ≤ MAX_LINES
  resources_fit = omega (arith, few_resources c.units.items c.modules.items c.shared.items, c.few_units, c.few_modules, c.few_shared)

  ranks_fit : length ranks ≤ MAX_LINES
  ranks_fit =
      let fewer : length (names_in ranks) ≤ length (resources_of c) =
      length-le_from_is_member nat_list_eq_equiv (names_in ranks) (resources_of c) (IsDistinct-from_are_distinct (names_in ranks) ranked.once)
      (among_known (resources_of c) (names_in ranks) ranked.known) in
      omega (arith, fewer, resources_fit, length-map ranks (λ (r : Rank). r.0))

  writable : (k : ℕ) (r : Rank) → slice_get ranks k ≡ Some r → IsWritable r
  writable k r e =
      let own : rank_of ranks r.0 ≡ r.1 =
      ap (λ o. unwrap_or o 0) (lookup_from_place nat_list_eq_equiv ranks k r.0 r.1 (IsDistinct-from_are_distinct (names_in ranks) ranked.once) e) in
      let known = Each-at (λ (name : Name). IsTrue (is_among (resources_of c) name)) (names_in ranks) k r.0 (name_at ranks k r e) ranked.known in
      let Named : Rank → Type 0 = λ s. IsName s.0 in
      record {
        name = subst Named (get_or_from_slice_get ranks k r r e) (names k r (slice_get_within ranks k r e));
        positive = omega (arith, own, least.positive r.0 known);
        bounded = omega (arith, own, least.bounded r.0, resources_fit);
      }

  pub certificate_is_short : length (certificate_text ranks) ≤ MAX_CERTIFICATE_LEN
  certificate_is_short = omega (arith, text_short ranks (each_from_places IsWritable ranks writable), ranks_fit)

  pub certificate_is_read : AreInOrderOfName ranks → IsCertificateText (certificate_text ranks) ranks
  certificate_is_read in_order = reads_back ranks (each_from_places IsWritable ranks writable) ranks_fit in_order
