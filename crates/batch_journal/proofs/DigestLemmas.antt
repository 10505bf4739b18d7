-- Digests of documents.
use Rattle.std.proofs.Common.{◌≡◌, ℕ, suc, List, [], ◌∷◌, ◌++◌, length, decimal, sym, ◌∙◌, ap, arith, append_assoc, codes}
use Rattle.std.proofs.lemmas.List.{append-nil}
use Rattle.batch_journal.{specs.Digests.IsPlain, specs.Digests.counted, specs.Lines.IsLine, proofs.SumLemmas.line_byte}

-- one text more
pub counted_more : (texts : List (List ℕ)) (text : List ℕ) → ((counted texts ++ decimal (length text)) ++ codes "\n") ++ text ≡ counted (texts ++ text ∷ [])
counted_more [] text = append_assoc (decimal (length text)) (codes "\n") text ∙ sym (append-nil (decimal (length text) ++ 10 ∷ text))
counted_more (one ∷ texts) text =
    let front = decimal (length one) ++ 10 ∷ one in
    append_assoc ((front ++ counted texts) ++ decimal (length text)) (codes "\n") text
    ∙ append_assoc (front ++ counted texts) (decimal (length text)) (codes "\n" ++ text)
    ∙ append_assoc front (counted texts) (decimal (length text) ++ (codes "\n" ++ text))
    ∙ ap (λ l. front ++ l) (sym (append_assoc (counted texts) (decimal (length text)) (codes "\n" ++ text)) ∙ sym (append_assoc (counted texts ++ decimal (length text)) (codes "\n") text)
    ∙ counted_more texts text)

pub line_of : (text : List ℕ) → IsPlain text → IsLine text
line_of [] plain = tt
line_of (b ∷ bytes) plain =
    let here = plain 0 (omega arith) in
    (here.0, here.1, line_of bytes (λ k within. plain (suc k) (omega (arith, within))))

pub plain_of : (text : List ℕ) → IsLine text → IsPlain text
plain_of text line k within = line_byte text k line within
