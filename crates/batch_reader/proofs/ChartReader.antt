-- From the machine's answers to those of the reader of charts.
use Rattle.std.proofs.Common.{◌≡◌, ℕ, true, suc, ◌+◌, ◌<◌, ◌≤◌, List, [], ◌∷◌, ◌++◌, length, get_or, take, drop, Option, Some, None, option_and_then, refl, sym, ap, ◌∙◌, subst, append-nil, arith, length-append, length-take}
use Rattle.std.{proofs.lemmas.List.take_more, proofs.lemmas.List.take-append-drop, proofs.lemmas.List.take_all, specs.Prelude.slice_range}
use Rattle.batch_text.specs.{NameText.is_name_byte, declared.name.TheConstants.MAX_NAME_LEN}
use Rattle.batch_recipe.specs.Diagram.{Diagram}
use Rattle.batch_reader.{specs.declared.firsts.Firsts.Firsts, specs.ChartGrammar.Offsets, specs.ChartGrammar.IsChart, specs.ChartGrammar.IsWideChart, specs.ChartAnswer.first_of, specs.ChartAnswer.HasFaultAt, specs.ChartAnswer.IsOutsideAt, specs.ChartAnswer.IsRead, specs.ChartMachine.State, specs.ChartMachine.Want, specs.ChartMachine.Frame, specs.ChartMachine.letters, specs.ChartMachine.IsAfter, specs.ChartMachine.start, specs.ChartMachine.step, specs.ChartMachine.steps, specs.ChartMachine.finish, specs.ChartMachine.first_or, proofs.ChartTokens.runs, proofs.ChartCompleteness.one_chart, proofs.ChartCompleteness.no_chart_begins, proofs.ChartCompleteness.no_chart, proofs.ChartCompleteness.runs-steps, proofs.ChartPrefixes.begins_a_chart, proofs.ChartSoundness.sound, proofs.ChartSoundness.step_good, proofs.ChartForms.has_its_pars, proofs.ChartTexts.begun_name, proofs.ChartTexts.one_more, proofs.ChartTexts.range_length}

over : (o : Option State) (s t : List ℕ) (place after : ℕ)
    → ((x : State) → steps (place + 1) (s ++ t) x ≡ option_and_then (steps after t) (steps (place + 1) s x))
    → option_and_then (steps (place + 1) (s ++ t)) o ≡ option_and_then (steps after t) (option_and_then (steps (place + 1) s) o)
over o s t place after h = grind arith

steps-append : (s t : List ℕ) (place : ℕ) (st : State) → steps place (s ++ t) st ≡ option_and_then (steps (place + length s) t) (steps place s st)
unfolding steps
steps-append [] t place st = let e : place + length {A = ℕ} [] ≡ place = omega arith in rw e refl
steps-append (b ∷ s) t place st =
    over (step place b st) s t place (place + suc (length s)) (λ x. steps-append s t (place + 1) x ∙ ap (λ p. option_and_then (steps p t) (steps (place + 1) s x)) (omega arith))

-- the bytes up to the one at the place
steps-take : (text : List ℕ) (place : ℕ) (st : State) → place < length text → steps 0 (take place text) start ≡ Some st
    → steps 0 (take (place + 1) text) start ≡ step place (get_or text place 0) st
unfolding steps
steps-take text place st h goes = grind (arith, length-take place text, take_more text place 0 h, steps-append)

pub after_next : (text : List ℕ) (place : ℕ) (st next : State) → place < length text → IsAfter text place st → step place (get_or text place 0) st ≡ Some next → IsAfter text (place + 1) next
after_next text place st next h so_far e = record {
  goes = steps-take text place st h so_far.goes ∙ e;
  good = step_good place (get_or text place 0) st next so_far.good e;
}

-- a word goes on by the byte at the place
pub letter_next : (text : List ℕ) (from place : ℕ) (w : Want) (frames : List Frame) (firsts : Firsts) → place < length text → place < from + MAX_NAME_LEN → is_name_byte (get_or text place 0) ≡ true
    → IsAfter text place (record { lexeme = letters (slice_range text from place); want = w; stack = frames; firsts = firsts })
    → IsAfter text (place + 1) (record { lexeme = letters (slice_range text from (place + 1)); want = w; stack = frames; firsts = firsts })
unfolding step
letter_next text from place w frames firsts h room byte so_far =
    let word = slice_range text from place in
    let st : State = record { lexeme = letters word; want = w; stack = frames; firsts = firsts } in
    let next : State = record { lexeme = letters (slice_range text from (place + 1)); want = w; stack = frames; firsts = firsts } in
    let begun : from ≤ place = begun_name text from place (omega (arith, h)) so_far.good in
    let short : length word < MAX_NAME_LEN = omega (arith, range_length text from place (omega (arith, h)), room) in
    let more : slice_range text from (place + 1) ≡ word ++ get_or text place 0 ∷ [] = one_more text from place begun h in
    after_next text place st next h so_far (rw more (grind (arith, byte, short)))

pub after_none : (text : List ℕ) → IsAfter text 0 start
unfolding steps
after_none text = record { goes = refl; good = tt }

-- the machine stops at the place
pub stops_in_text : (text : List ℕ) (place : ℕ) (st : State) → place < length text → IsAfter text place st → step place (get_or text place 0) st ≡ None → HasFaultAt text place
stops_in_text text place st h so_far e =
    let stops : steps 0 (take (place + 1) text) start ≡ None = steps-take text place st h so_far.goes ∙ e in
    record {
      within = omega arith;
      front = begins_a_chart (take place text) st so_far.goes;
      no_chart = λ tree offsets wide. no_chart_begins (take (place + 1) text) (drop (place + 1) text) offsets tree stops (subst (λ l. IsWideChart l tree offsets) (sym (take-append-drop (place + 1) text)) wide);
      no_front = λ _ rest tree offsets wide. no_chart_begins (take (place + 1) text) rest offsets tree stops wide;
    }

pub at_end : (text : List ℕ) (place : ℕ) (st : State) → length text ≤ place → IsAfter text place st → IsAfter text (length text) st
at_end text place st h so_far = record {
  goes = ap (λ l. steps 0 l start) (take_all (length text) text (omega arith) ∙ sym (take_all place text h)) ∙ so_far.goes;
  good = so_far.good;
}

whole_text : (text : List ℕ) (st : State) → IsAfter text (length text) st → steps 0 text start ≡ Some st
whole_text text st so_far = ap (λ l. steps 0 l start) (sym (take_all (length text) text (omega arith))) ∙ so_far.goes

-- the machine doesn't end well
pub stops_at_end : (text : List ℕ) (st : State) → IsAfter text (length text) st → finish (length text) st ≡ None → HasFaultAt text (length text)
stops_at_end text st so_far e = record {
  within = omega arith;
  front = begins_a_chart (take (length text) text) st so_far.goes;
  no_chart = λ tree offsets wide. no_chart text offsets tree st (whole_text text st so_far) e wide;
  no_front = λ h. absurd (omega (arith, h));
}

ends_well : (text : List ℕ) (st : State) (found : Diagram × Firsts) → IsAfter text (length text) st → finish (length text) st ≡ Some found → runs (length text) text start ≡ Some found
unfolding runs
ends_well text st found so_far e = grind (arith, append-nil text, runs-steps text, length-append text, whole_text text st so_far)

pub first_or-none : (ns : List ℕ) → first_or None ns ≡ first_of ns
first_or-none ns = grind arith

no_first : (ns : List ℕ) → first_of ns ≡ None → ns ≡ []
no_first ns h = grind arith

some_first : (ns : List ℕ) (n : ℕ) → first_of ns ≡ Some n → (others : List ℕ) × (ns ≡ n ∷ others)
some_first ns n h = grind arith

none_first : (ns : List ℕ) → ns ≡ [] → first_of ns ≡ None
none_first ns h = grind arith

-- the machine ends well, and no number was out of range
pub reads_to_end : (text : List ℕ) (st : State) (tree : Diagram) (firsts : Firsts) → IsAfter text (length text) st → finish (length text) st ≡ Some (tree, firsts) → firsts.outside ≡ None
    → IsRead text tree firsts.par
reads_to_end text st tree firsts so_far e none =
    let r = sound text tree firsts (ends_well text st (tree, firsts) so_far e) in
    let out : Offsets = r.0 in
    let empty = no_first out.outside (sym (first_or-none out.outside) ∙ ap (λ f. f.outside) r.2 ∙ none) in
    let first : firsts.par ≡ first_of out.pars = sym (ap (λ f. f.par) r.2) ∙ first_or-none out.pars in
    let reads : IsWideChart text tree (record { outside = []; pars = out.pars }) = subst (λ o. IsWideChart text tree (record { outside = o; pars = out.pars })) empty r.1 in
    let told = has_its_pars text tree out.pars reads in
    record {
      pars = out.pars;
      reads = reads;
      first = first;
      has_par = (λ h. told.0 (no_first out.pars (sym first ∙ h)), λ h. first ∙ none_first out.pars (told.1 h));
    }

-- the machine ends well, and a number was out of range
pub is_outside : (text : List ℕ) (st : State) (tree : Diagram) (firsts : Firsts) (n : ℕ) → IsAfter text (length text) st → finish (length text) st ≡ Some (tree, firsts) → firsts.outside ≡ Some n
    → IsOutsideAt text n
is_outside text st tree firsts n so_far e some =
    let r = sound text tree firsts (ends_well text st (tree, firsts) so_far e) in
    let out : Offsets = r.0 in
    let told : first_of out.outside ≡ Some n = sym (first_or-none out.outside) ∙ ap (λ f. f.outside) r.2 ∙ some in
    let first = some_first out.outside n told in
    record {
      wide = (tree, first.0, out.pars, subst (λ o. IsWideChart text tree (record { outside = o; pars = out.pars })) first.1 r.1);
      no_chart = λ other chart.
          let same = ap (λ f. f.outside) (one_chart r.1 chart.1).1 in
          let never : ◌≡◌ {A = Option ℕ} (Some n) None = sym told ∙ sym (first_or-none out.outside) ∙ same in
          absurd cc;
    }

pub at_most_one : (text : List ℕ) (a b : Diagram) → IsChart text a → IsChart text b → a ≡ b
at_most_one text a b x y = (one_chart x.1 y.1).0
