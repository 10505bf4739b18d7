-- The text of a transcript is whole lines.
use Rattle.std.proofs.Common.{◌≡◌, ℕ, List, [], ◌∷◌, ◌++◌, flat_map, codes, Option, Some, None, Result, Ok, Err, refl, sym, ◌∙◌, ap, subst, append_assoc, inl, inr}
use Rattle.std.proofs.lemmas.List.{append-nil}
use Rattle.batch_model.specs.{Events.Event, Plant.Setup, Plant.Plant, Runs.Out}
use Rattle.batch_recipe.specs.Texts.{line_text}
use Rattle.batch_wire.specs.{EventLine.event_of_line, RecordText.out_text, RecordText.out_words, Transcript.Exchange, Transcript.fault_code, Transcript.Answers, declared.fault.WireFault.WireFault, declared.fault.WireFault.TheVariants.Memory}
use Rattle.batch_serve.specs.Replays.{IsWholeLines, TranscriptsAreWhole}

pub both : (a b : List ℕ) → IsWholeLines a → IsWholeLines b → IsWholeLines (a ++ b)
both a b (inl none) others = subst (λ l. IsWholeLines (l ++ b)) (sym none) others
both a b (inr (front, ends)) (inl none) = inr (front, ap (λ l. a ++ l) none ∙ append-nil a ∙ ends)
both a b (inr one) (inr (front, ends)) = inr (a ++ front, ap (λ l. a ++ l) ends ∙ sym (append_assoc a front (10 ∷ [])))

-- a line ends with its line feed
ends : (words : List (List ℕ)) → (front : List ℕ) × (line_text words ≡ front ++ 10 ∷ [])
ends [] = ([], refl)
ends (word ∷ []) = (word, refl)
ends (word ∷ other ∷ words) =
    let rest = ends (other ∷ words) in
    (word ++ 32 ∷ rest.0, ap (λ l. word ++ 32 ∷ l) rest.1 ∙ sym (append_assoc word (32 ∷ rest.0) (10 ∷ [])))

outs_whole : (outs : List Out) → IsWholeLines (flat_map out_text outs)
outs_whole [] = inl refl
outs_whole (out ∷ outs) = both (out_text out) (flat_map out_text outs) (inr (ends (out_words out))) (outs_whole outs)

pub answers_whole : (c : Setup) (old : Plant) (says : Result (Option Event) WireFault) (said : Exchange) (new : Plant) → Answers c old says said new → IsWholeLines said.text
answers_whole c old (Ok None) said new a = inl (ap (λ (x : Exchange). x.text) a.0)
answers_whole c old (Err fault) said new a =
    subst (λ (x : Exchange). IsWholeLines x.text) (sym a.0) (inr (ends (codes "refused" ∷ fault_code fault ∷ [])))
answers_whole c old (Ok (Some event)) said new (inl (is, same)) =
    subst (λ (x : Exchange). IsWholeLines x.text) (sym is) (inr (ends (codes "refused" ∷ fault_code Memory ∷ [])))
answers_whole c old (Ok (Some event)) said new (inr (outs, h, is)) = subst (λ (x : Exchange). IsWholeLines x.text) (sym is) (outs_whole outs)

pub transcripts_are_whole : TranscriptsAreWhole
transcripts_are_whole c old new [] said t = inl (ap (λ (x : Exchange). x.text) t.0)
transcripts_are_whole c old new (line ∷ lines) said (first, others, mid, answers, rest, is) =
    subst (λ (x : Exchange). IsWholeLines x.text) (sym is)
    (both first.text others.text (answers_whole c old (event_of_line line) first mid answers) (transcripts_are_whole c mid new lines others rest))
