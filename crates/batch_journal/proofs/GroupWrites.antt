-- A group as it is written.
use Rattle.std.proofs.Common.{◌≡◌, ℕ, List, [], ◌∷◌, ◌++◌, length, drop, Bool, true, ◌&&◌, nat_eq, sym, refl, ◌∙◌, ap, append_assoc}
use Rattle.batch_journal.{specs.Disks.Left, specs.Disks.MayLeave, specs.Journals.closing_start, specs.Journals.is_time, specs.Writing.MayKeep, proofs.CrashLemmas.as_of}
use Rattle.std.specs.List.{starts_with}

pub keeps_so : (durable seen given d g : List ℕ) (left : Left) → d ≡ durable → g ≡ given → MayLeave d seen g left → MayKeep durable given left
keeps_so durable seen given d g left is_d is_g may = (seen, as_of left is_d refl is_g may)

-- a line that starts so closes, if a time follows that
pub closes_so : (line mark start : List ℕ) (n : ℕ) (starts time : Bool) → mark ≡ start → n ≡ length start → starts ≡ starts_with nat_eq line mark → starts ≡ true
    → time ≡ is_time (drop n line) → time ≡ (starts_with nat_eq line start && is_time (drop (length start) line))
closes_so line mark start n starts time is size starts_is so time_is =
    let yes_so : starts_with nat_eq line start ≡ true = ap (starts_with nat_eq line) (sym is) ∙ sym starts_is ∙ so in
    rw yes_so (time_is ∙ ap (λ k. is_time (drop k line)) size)

-- the appends come to the group
pub joined : (old lines sum digits one two three start time : List ℕ) → start ≡ closing_start sum → time ≡ digits ++ 10 ∷ []
    → one ≡ old ++ lines → two ≡ one ++ start → three ≡ two ++ time → three ≡ old ++ (lines ++ ((closing_start sum ++ digits) ++ 10 ∷ []))
joined old lines sum digits one two three start time is_start is_time is_one is_two is_three =
    is_three ∙ ap (λ l. l ++ time) (is_two ∙ ap (λ l. l ++ start) is_one) ∙ ap (λ l. ((old ++ lines) ++ l) ++ time) is_start
    ∙ ap (λ l. ((old ++ lines) ++ closing_start sum) ++ l) is_time
    ∙ append_assoc (old ++ lines) (closing_start sum) (digits ++ 10 ∷ [])
    ∙ append_assoc old lines (closing_start sum ++ (digits ++ 10 ∷ []))
    ∙ ap (λ l. old ++ (lines ++ l)) (sym (append_assoc (closing_start sum) digits (10 ∷ [])))
