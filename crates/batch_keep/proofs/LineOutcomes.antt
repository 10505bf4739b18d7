-- The outcomes of a line that was sent: the first line of the answer tells which one it was.
use Rattle.std.proofs.Common.{◌≡◌, ◌⊎◌, ℕ, true, false, not, eqb, nat_eq, List, [], ◌∷◌, ◌++◌, map, flat_map, codes, Option, Some, None, Result, Ok, Err, refl, sym, ◌∙◌, ap, subst, inl, inr, append_assoc, append-nil}
use Rattle.std.{specs.Prelude.◌≢◌, specs.List.list_all, specs.List.starts_with, proofs.lemmas.Bool.and_parts, proofs.lemmas.List.Elements.All-cons, proofs.lemmas.List.Elements.All-nil, proofs.lemmas.Bool.Decides.Decides-eqb, proofs.lemmas.Slice.Eq.starts_is}
use Rattle.batch_step_laws.proofs.Refusals.{refusal-just}
use Rattle.batch_model.specs.{Events.Event, Events.Reply, Events.refused, Events.no_memory, Moves.Move, Moves.next, Plant.Setup, Plant.Plant, Runs.Out, Runs.reply, Runs.move, Runs.Reacts}
use Rattle.batch_recipe.specs.Texts.{line_text}
use Rattle.batch_engine.proofs.WantOfMemory.{wants-settled}
use Rattle.batch_wire.{specs.RecordText.out_text, specs.RecordText.out_words, specs.Transcript.Answers, specs.Transcript.Exchange, specs.Transcript.Handles, specs.Transcript.Settles, specs.Transcript.handled, specs.Transcript.lines_of, specs.Transcript.refusal, specs.declared.fault.WireFault.WireFault, specs.declared.fault.WireFault.TheVariants.Memory, specs.LineEnds.HasNoFeed, proofs.LineEnds.first_of_lines}
use Rattle.batch_serve.{specs.Replays.AnswersWell, proofs.Replays.answers_once, proofs.Replays.takes_so, proofs.HeldText.is_false}
use Rattle.batch_keep.specs.Auditing.{IsFree}

-- Texts

-- no text begins so that begins otherwise
begins_other : (text needle more : List ℕ) → starts_with nat_eq text needle ≡ false → text ≡ needle ++ more → ⊥
begins_other text needle more other is =
    let begins : starts_with nat_eq text needle ≡ true = (starts_is Decides-eqb text needle (starts_with nat_eq text needle) refl).1 more is in
    let clash : false ≡ true = sym other ∙ begins in
    absurd (cc clash)

abbrev wants_line : List ℕ
wants_line = codes "refused W6\n"

abbrev wants_batch : List ℕ
wants_batch = codes "refused E11\n"

-- no reply says that there was no memory to read the line
no_line_want : (r : Reply) (rest : List ℕ) → starts_with nat_eq (out_text (reply r) ++ rest) wants_line ≡ false
no_line_want (refused no_memory) rest = refl
no_line_want (refused _) rest = refl
no_line_want _ rest = refl

-- one reply alone says that there was none for a batch
no_batch_want : (r : Reply) (rest : List ℕ) → (r ≡ refused no_memory) ⊎ (starts_with nat_eq (out_text (reply r) ++ rest) wants_batch ≡ false)
no_batch_want (refused no_memory) rest = inl refl
no_batch_want (refused _) rest = inr refl
no_batch_want _ rest = inr refl

no_feed : (bytes : List ℕ) → list_all (λ b. not (eqb b 10)) bytes ≡ true → HasNoFeed bytes
no_feed [] is = All-nil _
no_feed (b ∷ bytes) is =
    let both = and_parts (not (eqb b 10)) (list_all (λ x. not (eqb x 10)) bytes) is in
    All-cons (λ x. eqb x 10 ≡ false) b bytes (is_false (eqb b 10) both.0) (no_feed bytes both.1)

-- lines that end with the first line feed are one
same_line : (a b rest more : List ℕ) → HasNoFeed a → HasNoFeed b → a ++ 10 ∷ rest ≡ b ++ 10 ∷ more → a ≡ b
same_line a b rest more plain other is =
    let lines = sym (first_of_lines a rest plain) ∙ ap lines_of is ∙ first_of_lines b more other in
    cc lines

-- The outcomes of an event

module _ (c : Setup) (old : Plant) where
  rests : (moves : List Move) (new : Plant) → next c old ≡ None → Settles c old moves new → (moves ≡ []) × (new ≡ old)
  rests [] new settled s = (refl, s.1)
  rests (m ∷ moves) new settled s = (let clash : None ≡ Some m = sym settled ∙ s.0 in absurd (cc clash))

  -- there was no memory to read it, or none for the batch that it makes, or there was memory
  abbrev Comes : Event → Exchange → Plant → Type 0
  Comes event said new =
      ((said.text ≡ wants_line) × (new ≡ old))
      ⊎ ((Reacts c old event (refused no_memory) old × (said.text ≡ wants_batch) × (new ≡ old)) ⊎ AnswersWell c old (Ok (Some event)) said new)

  comes_wanting : (event : Event) (said : Exchange) (new : Plant) (outs : List Out) (h : Handles c old event outs new) → h.answer ≡ refused no_memory → said ≡ handled event outs
      → Reacts c old event (refused no_memory) old × (said.text ≡ wants_batch) × (new ≡ old)
  comes_wanting event said new outs h wants is =
      let reacts : Reacts c old event (refused no_memory) h.mid = subst (λ a. Reacts c old event a h.mid) wants h.reacts in
      let same = (refusal-just c old event no_memory h.mid reacts).0 in
      let settled = wants-settled c old event h.mid reacts in
      let rest = rests h.moves new settled (subst (λ p. Settles c p h.moves new) same h.settles) in
      let told : outs ≡ reply (refused no_memory) ∷ [] = h.tells ∙ ap (λ a. reply a ∷ map move h.moves) wants ∙ ap (λ l. reply (refused no_memory) ∷ map move l) rest.0 in (
        subst (λ p. Reacts c old event (refused no_memory) p) same reacts,
        ap (λ (x : Exchange). x.text) is ∙ ap (λ (l : List Out). flat_map out_text l) told,
        rest.1,
      )

  comes : (event : Event) (said : Exchange) (new : Plant) → Answers c old (Ok (Some event)) said new → Comes event said new
  comes event said new (inl (is, same)) = inl (ap (λ (x : Exchange). x.text) is, same)
  comes event said new (inr (outs, h, is)) =
      elim (no_batch_want h.answer []) [
        | inl wants ↦ inr (inl (comes_wanting event said new outs h wants is))
        | inr other ↦ inr (inr (outs, takes_so c old event outs new h (λ wants. had h.answer other wants), is))
      ]
    where
      had : (answer : Reply) → starts_with nat_eq (out_text (reply answer) ++ []) wants_batch ≡ false → answer ≡ refused no_memory → ⊥
      had answer other wants =
          let clash : true ≡ false = subst (λ a. starts_with nat_eq (out_text (reply a) ++ []) wants_batch ≡ false) wants other in
          absurd (cc clash)

  -- with memory neither refusal is given
  well_tells : (event : Event) (said : Exchange) (new : Plant) (s more : List ℕ) → AnswersWell c old (Ok (Some event)) said new
      → (said.text ++ s ≡ wants_line ++ more → ⊥) × (said.text ++ s ≡ wants_batch ++ more → ⊥)
  well_tells event said new s more (outs, takes, is) =
      let rest : List ℕ = flat_map out_text (map move takes.moves) ++ s in
      let told : said.text ++ s ≡ out_text (reply takes.answer) ++ rest =
      ap (λ (x : Exchange). x.text ++ s) is ∙ ap (λ (l : List Out). flat_map out_text l ++ s) takes.tells
      ∙ append_assoc (out_text (reply takes.answer)) (flat_map out_text (map move takes.moves)) s in (
        λ line. begins_other (out_text (reply takes.answer) ++ rest) wants_line more (no_line_want takes.answer rest) (sym told ∙ line),
        λ batch. elim (no_batch_want takes.answer rest) [
          | inl wants ↦ absurd (takes.has_memory wants)
          | inr other ↦ begins_other (out_text (reply takes.answer) ++ rest) wants_batch more other (sym told ∙ batch)
        ],
      )

  -- Choices

  -- a refusal that is free is an answer
  pub free_answers : (says : Result (Option Event) WireFault) (line : List ℕ) → IsFree c old says line
      → (said : Exchange) × Answers c old says said old × (said.text ≡ line ++ 10 ∷ [])
  free_answers (Ok (Some event)) line (inl is) = (refusal Memory, inl (refl, refl), ap (λ l. l ++ 10 ∷ []) (sym is))
  free_answers (Ok (Some event)) line (inr (is, wants)) = (
    handled event (reply (refused no_memory) ∷ []),
    inr (
      reply (refused no_memory) ∷ [],
      record { answer = refused no_memory; mid = old; moves = []; reacts = wants; settles = (wants-settled c old event old wants, refl); tells = refl },
      refl,
    ),
    ap (λ l. l ++ 10 ∷ []) (sym is),
  )
  free_answers (Ok None) line free = absurd free
  free_answers (Err fault) line free = absurd free

  -- and if the answer begins with it, no other answer was given
  pub free_once : (says : Result (Option Event) WireFault) (line : List ℕ) (said : Exchange) (new : Plant) (s more : List ℕ) → IsFree c old says line
      → Answers c old says said new → said.text ++ s ≡ (line ++ 10 ∷ []) ++ more → (said.text ≡ line ++ 10 ∷ []) × (new ≡ old)
  free_once (Ok None) line said new s more free answers is = absurd free
  free_once (Err fault) line said new s more free answers is = absurd free
  free_once (Ok (Some event)) line said new s more (inl wants) answers is =
      let told : said.text ++ s ≡ wants_line ++ more = is ∙ ap (λ l. (l ++ 10 ∷ []) ++ more) wants in
      elim (comes event said new answers) [
        | inl here ↦ (here.0 ∙ ap (λ l. l ++ 10 ∷ []) (sym wants), here.1)
        | inr (inl other) ↦ absurd (begins_other (wants_batch ++ s) wants_line more refl (ap (λ l. l ++ s) (sym other.1) ∙ told))
        | inr (inr well) ↦ absurd ((well_tells event said new s more well).0 told)
      ]
  free_once (Ok (Some event)) line said new s more (inr (wants, reacts)) answers is =
      let told : said.text ++ s ≡ wants_batch ++ more = is ∙ ap (λ l. (l ++ 10 ∷ []) ++ more) wants in
      elim (comes event said new answers) [
        | inl other ↦ absurd (begins_other (wants_line ++ s) wants_batch more refl (ap (λ l. l ++ s) (sym other.0) ∙ told))
        | inr (inl here) ↦ (here.1 ∙ ap (λ l. l ++ 10 ∷ []) (sym wants), here.2)
        | inr (inr well) ↦ absurd ((well_tells event said new s more well).1 told)
      ]

  -- an answer that begins with a line other than a refusal for want of memory was given with memory
  had_memory : (says : Result (Option Event) WireFault) (line : List ℕ) (said : Exchange) (new : Plant) (s more : List ℕ) → (IsFree c old says line → ⊥) → HasNoFeed line
      → Answers c old says said new → said.text ++ s ≡ line ++ 10 ∷ more → AnswersWell c old says said new
  had_memory (Ok None) line said new s more other plain answers is = answers
  had_memory (Err fault) line said new s more other plain answers is = answers
  had_memory (Ok (Some event)) line said new s more other plain answers is =
      elim (comes event said new answers) [
        | inl here ↦ absurd (other (inl (same_line line (codes "refused W6") more s plain (no_feed (codes "refused W6") refl) (sym is ∙ ap (λ l. l ++ s) here.0))))
        | inr (inl here) ↦ absurd (other (inr (same_line line (codes "refused E11") more s plain (no_feed (codes "refused E11") refl) (sym is ∙ ap (λ l. l ++ s) here.1), here.0)))
        | inr (inr well) ↦ well
      ]

  pub well_once : (says : Result (Option Event) WireFault) (line : List ℕ) (one other : Exchange) (new then_on : Plant) (s more : List ℕ) → (IsFree c old says line → ⊥) → HasNoFeed line
      → AnswersWell c old says one new → Answers c old says other then_on → other.text ++ s ≡ line ++ 10 ∷ more → (other.text ≡ one.text) × (then_on ≡ new)
  well_once says line one other new then_on s more not_free plain well answers is =
      let same = answers_once c old says one other new then_on well (had_memory says line other then_on s more not_free plain answers is) in
      (ap (λ (x : Exchange). x.text) (sym same.0), sym same.1)

  -- the engine's own answer, if it isn't a refusal for want of memory
  pub well_told : (says : Result (Option Event) WireFault) (said : Exchange) (new : Plant)
      → ((more : List ℕ) → (said.text ≢ wants_line ++ more) × (said.text ≢ wants_batch ++ more)) → Answers c old says said new → AnswersWell c old says said new
  well_told (Ok None) said new other answers = answers
  well_told (Err fault) said new other answers = answers
  well_told (Ok (Some event)) said new other answers =
      elim (comes event said new answers) [
        | inl here ↦ absurd ((other []).0 (here.0 ∙ sym (append-nil wants_line)))
        | inr (inl here) ↦ absurd ((other []).1 (here.1 ∙ sym (append-nil wants_batch)))
        | inr (inr well) ↦ well
      ]

  -- a line with an empty answer gives no event, so it has no other answer
  pub silent_once : (says : Result (Option Event) WireFault) (one other : Exchange) (new then_on : Plant) → one.text ≡ []
      → Answers c old says one new → Answers c old says other then_on → (other.text ≡ one.text) × (then_on ≡ new)
  silent_once (Ok None) one other new then_on none a b = (ap (λ (x : Exchange). x.text) b.0 ∙ sym none, b.1 ∙ sym a.1)
  silent_once (Err fault) one other new then_on none a b = (ap (λ (x : Exchange). x.text) b.0 ∙ ap (λ (x : Exchange). x.text) (sym a.0), b.1 ∙ sym a.1)
  silent_once (Ok (Some event)) one other new then_on none a b = absurd (speaks (comes event one new a))
    where
      line_some : (words : List (List ℕ)) (rest : List ℕ) → line_text words ++ rest ≡ [] → ⊥
      line_some [] rest is = absurd (cc is)
      line_some ([] ∷ []) rest is = absurd (cc is)
      line_some ((b ∷ word) ∷ []) rest is = absurd (cc is)
      line_some ([] ∷ next ∷ others) rest is = absurd (cc is)
      line_some ((b ∷ word) ∷ next ∷ others) rest is = absurd (cc is)

      speaks : Comes event one new → ⊥
      speaks (inl here) = (let clash : [] ≡ wants_line = sym none ∙ here.0 in absurd (cc clash))
      speaks (inr (inl here)) = (let clash : [] ≡ wants_batch = sym none ∙ here.1 in absurd (cc clash))
      speaks (inr (inr (outs, takes, is))) =
          line_some (out_words (reply takes.answer)) (flat_map out_text (map move takes.moves))
          (ap (λ (l : List Out). flat_map out_text l) (sym takes.tells) ∙ ap (λ (x : Exchange). x.text) (sym is) ∙ none)
