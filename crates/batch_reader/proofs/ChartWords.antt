-- Labels are the words that are none of the six.
use Rattle.std.proofs.Common.{arith, ◌≡◌, List, ℕ, Bool, true, false, ◌||◌, sym, ap, ◌∙◌}
use Rattle.std.{specs.Prelude.codes, specs.Prelude.if◌then◌else◌, specs.Prelude.bytes_eq, proofs.lemmas.Slice.Eq.bytes_eq-Decides}
use Rattle.batch_text.specs.NameText.{IsName}
use Rattle.batch_recipe.specs.{Conditions.same_name, WellFormed.is_among, WellFormed.chart_words}
use Rattle.batch_reader.specs.{ChartGrammar.IsLabel, ChartMachine.word_of, declared.word.Word.Word}
use Rattle.batch_reader.specs.declared.word.Word.TheVariants as word

-- the two tests agree
same_tests : (xs ys : List ℕ) → same_name xs ys ≡ bytes_eq xs ys
same_tests xs ys = grind (arith, bytes_eq-Decides xs ys)

abbrev which : Bool → Bool → Bool → Bool → Bool → Bool → Word
which a b c d e f =
    if a then word.Skip else if b then word.Seq else if c then word.Par else if d then word.Sel else if e then word.Loop else if f then word.Else else word.Name

none_is_name : (a b c d e f : Bool) → (a || (b || (c || (d || (e || (f || false)))))) ≡ false → which a b c d e f ≡ word.Name
none_is_name a b c d e f h = grind arith

name_is_none : (a b c d e f : Bool) → which a b c d e f ≡ word.Name → (a || (b || (c || (d || (e || (f || false)))))) ≡ false
name_is_none a b c d e f h = grind arith

words_told : (bytes : List ℕ) → word_of bytes
    ≡ which (same_name bytes (codes "skip")) (same_name bytes (codes "seq")) (same_name bytes (codes "par")) (same_name bytes (codes "sel")) (same_name bytes (codes "loop")) (same_name bytes (codes "else"))
words_told bytes = grind (arith, same_tests)

-- a word of charts, as the machine tells it
abbrev pub is_meant : Word → Bool
is_meant word.Name = false
is_meant _ = true

any_is_meant : (a b c d e f : Bool) → (a || (b || (c || (d || (e || (f || false)))))) ≡ is_meant (which a b c d e f)
any_is_meant a b c d e f = grind arith

pub chart_word_told : (bytes : List ℕ) → is_among chart_words bytes ≡ is_meant (word_of bytes)
chart_word_told bytes = any_is_meant _ _ _ _ _ _ ∙ ap is_meant (sym (words_told bytes))

pub label_word : (bytes : List ℕ) → IsLabel bytes → word_of bytes ≡ word.Name
label_word bytes label = words_told bytes ∙ none_is_name _ _ _ _ _ _ label.free

pub word_label : (bytes : List ℕ) → IsName bytes → word_of bytes ≡ word.Name → IsLabel bytes
word_label bytes name e = record { name = name; free = name_is_none _ _ _ _ _ _ (sym (words_told bytes) ∙ e) }
