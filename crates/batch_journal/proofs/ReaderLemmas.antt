-- A reader that journals: the facts that each of its steps keeps.
use Rattle.std.proofs.Common.{◌≡◌, ℕ, zero, suc, ◌+◌, ◌≤◌, List, [], ◌∷◌, ◌++◌, length, take, drop, take-append-drop, Option, Some, None, refl, sym, ◌∙◌, ap, subst, arith, append_assoc, ⊎_elim, Bool, ◌≢◌, min, true, false}
use Rattle.std.{proofs.lemmas.List.append-nil, proofs.lemmas.List.take_at, proofs.lemmas.List.length-take, proofs.lemmas.List.length-take-le, specs.Io.KnownBytes.prepend_known, specs.Io.KnownBytes.Keeps, specs.Io.KnownBytes.Consumes}
use Rattle.batch_journal.{specs.Lines.IsLine, specs.Lines.text_of, specs.Lines.whole_lines_before_zero, specs.Disks.Left, specs.Disks.Begins, specs.Disks.MayLeave, specs.Disks.Elapses, specs.Disks.LeavesOnly, specs.Readers.IsJournalKept, specs.Readers.StartsText, specs.Readers.Recalls, specs.Readers.HasRecalled, specs.Readers.IsAccounted, specs.Readers.LinesBegin, specs.Groups.AreOthers, specs.Groups.taken, specs.Recovery.KeepsLines, specs.Journals.journal_format, specs.Journals.next_sum, specs.Journals.recovered, specs.Journals.IsJournal, specs.Writing.closing_line, specs.Writing.group_text, proofs.LineLemmas.text_both, proofs.LineLemmas.are_whole_lines, proofs.JournalLemmas.recovered_behind, proofs.JournalLemmas.journal_with, proofs.JournalLemmas.recovered_with, proofs.JournalLemmas.are_recovered, proofs.JournalLemmas.lines_of_text, proofs.JournalLemmas.lines_behind}

-- Crashes

pub starts : (front text rest : List ℕ) → text ≡ front ++ rest → StartsText front text
starts front text rest is = ap (take (length front)) is ∙ take_at front rest (length front) refl

-- the bytes given by then are in it
pub recalls : (documents base durable seen given rest sum : List ℕ) (left : Left) → IsJournal documents durable sum → text_of (recovered documents durable) ≡ base ++ (given ++ rest)
    → MayLeave durable seen given left → Recalls documents base left
recalls documents base durable seen given rest sum left journal is may =
    let behind = taken journal_format sum [] (whole_lines_before_zero may.disk.tail) in
    let more = text_of behind in
    let r = may.output.rest in
    starts (base ++ left.given) (text_of (recovered documents left.file)) (r ++ (rest ++ more))
    (ap (λ l. text_of (recovered documents l)) may.disk.leaves ∙ ap text_of (recovered_behind documents durable sum may.disk.tail journal)
    ∙ text_both (recovered documents durable) behind
    ∙ ap (λ l. l ++ more) is
    ∙ ap (λ l. (base ++ (l ++ rest)) ++ more) may.output.splits
    ∙ append_assoc base ((left.given ++ r) ++ rest) more
    ∙ ap (λ l. base ++ l) (append_assoc (left.given ++ r) rest more ∙ append_assoc left.given r (rest ++ more))
    ∙ sym (append_assoc base left.given (r ++ (rest ++ more))))

-- one call more
pub recalled_on : (documents base : List ℕ) (since before now : ℕ) (past later : ℕ → Left → Type 0) (may : Left → Type 0)
    → HasRecalled documents base since before past → Elapses before now past later may → ((left : Left) → may left → Recalls documents base left)
    → HasRecalled documents base since now later
recalled_on documents base since before now past later may has time here = record {
  later = omega (arith, has.later, time.later);
  each = λ left had. ⊎_elim (has.each left) (here left) (time.nothing_else since left has.later had);
}

-- The lines that are ready

pub none_of : (n : ℕ) (l : List ℕ) → n ≡ 0 → take n l ≡ []
none_of n l is = ap (λ k. take k l) is

pub kept_ready : (documents base durable seen given ready other sum : List ℕ) → ready ≡ other
    → IsJournalKept documents base durable seen given ready sum → IsJournalKept documents base durable seen given other sum
kept_ready documents base durable seen given ready other sum same kept = subst (λ l. IsJournalKept documents base durable seen given l sum) same kept

-- after a group is written
pub kept_more : (documents base durable seen given sum lines next new_durable new_seen new_given : List ℕ) (milliseconds : ℕ) → IsJournalKept documents base durable seen given [] sum
    → lines ≡ text_of (whole_lines_before_zero lines) → AreOthers journal_format (whole_lines_before_zero lines) → next ≡ next_sum sum lines
    → new_seen ≡ seen ++ group_text lines next milliseconds → new_durable ≡ new_seen → new_given ≡ given
    → IsLine (closing_line next milliseconds) → journal_format.own (closing_line next milliseconds) ≡ true
    → journal_format.closes next (closing_line next milliseconds) ≡ true
    → IsJournalKept documents base new_durable new_seen new_given lines next
kept_more documents base durable seen given sum lines next new_durable new_seen new_given milliseconds kept is others next_is is_seen is_durable is_given is_line own closes =
    let closing = closing_line next milliseconds in
    let found = whole_lines_before_zero lines in
    let are = are_whole_lines lines in
    let closes_so : journal_format.closes (next_sum sum lines) closing ≡ true = subst (λ s. journal_format.closes s closing ≡ true) next_is closes in
    let journal = journal_with documents seen sum lines closing found kept.journal is are others is_line own closes_so in
    let held = recovered_with documents seen sum lines closing found kept.journal is are others is_line own closes_so in
    record {
      journal = subst (λ f. IsJournal documents f next) (sym is_seen) (subst (λ s. IsJournal documents (seen ++ (lines ++ (closing ++ 10 ∷ []))) s) (sym next_is) journal);
      synced = is_durable;
      holds = ap (λ f. text_of (recovered documents f)) is_seen ∙ ap text_of held ∙ text_both (recovered documents seen) found ∙ ap (λ l. l ++ text_of found) kept.holds
          ∙ ap (λ l. (base ++ (given ++ [])) ++ l) (sym is) ∙ ap (λ l. (base ++ l) ++ lines) (append-nil given) ∙ append_assoc base given lines
          ∙ ap (λ l. base ++ (l ++ lines)) (sym is_given);
    }

-- The bytes that are left

pub keeps_more : (items more now : List ℕ) (old new : Option (List ℕ)) → now ≡ items ++ more → Consumes old new more → Keeps (prepend_known items old) (prepend_known now new)
keeps_more items more now None new is consumes = tt
keeps_more items more now (Some xs) None is consumes = consumes
keeps_more items more now (Some xs) (Some ys) is consumes = ap (λ l. l ++ ys) is ∙ append_assoc items more ys ∙ ap (λ l. items ++ l) (sym consumes)

pub keeps_same : (items now : List ℕ) (old new : Option (List ℕ)) → now ≡ items → Keeps old new → Keeps (prepend_known items old) (prepend_known now new)
keeps_same items now None new is keeps = tt
keeps_same items now (Some xs) None is keeps = keeps
keeps_same items now (Some xs) (Some ys) is keeps = ap (λ l. l ++ ys) is ∙ ap (λ l. items ++ l) keeps

account_keeps : (given all : List ℕ) (old new : Option (List ℕ)) → Keeps old new → prepend_known given old ≡ Some all → prepend_known given new ≡ Some all
account_keeps given all None new keeps is = absurd (cc is)
account_keeps given all (Some xs) None keeps is = absurd keeps
account_keeps given all (Some xs) (Some ys) keeps is = ap (λ l. Some (given ++ l)) keeps ∙ is

pub accounted_keeps : (input : Option (List ℕ)) (given now : List ℕ) (old new : Option (List ℕ)) → now ≡ given → Keeps old new → IsAccounted input given old → IsAccounted input now new
accounted_keeps input given now old new same keeps is = λ all known. ap (λ l. prepend_known l new) same ∙ account_keeps given all old new keeps (is all known)

account_gives : (given items all : List ℕ) (count : ℕ) (known : Option (List ℕ)) → prepend_known given (prepend_known items known) ≡ Some all
    → prepend_known (given ++ take count items) (prepend_known (drop count items) known) ≡ Some all
account_gives given items all count None is = absurd (cc is)
account_gives given items all count (Some xs) is =
    ap Some (append_assoc given (take count items) (drop count items ++ xs) ∙ ap (λ l. given ++ l) (sym (append_assoc (take count items) (drop count items) xs))
    ∙ ap (λ l. given ++ (l ++ xs)) (take-append-drop count items)) ∙ is

pub accounted_gives : (input : Option (List ℕ)) (given now items : List ℕ) (count : ℕ) (known : Option (List ℕ)) → now ≡ given ++ take count items
    → IsAccounted input given (prepend_known items known) → IsAccounted input now (prepend_known (drop count items) known)
accounted_gives input given now items count known same is = λ all all_known.
    ap (λ l. prepend_known l (prepend_known (drop count items) known)) same ∙ account_gives given items all count known (is all all_known)

pub gives : (items front : List ℕ) (count : ℕ) (known : Option (List ℕ)) → front ≡ take count items → Consumes (prepend_known items known) (prepend_known (drop count items) known) front
gives items front count None same = tt
gives items front count (Some xs) same = ap (λ l. l ++ xs) (sym (take-append-drop count items)) ∙ append_assoc (take count items) (drop count items) xs ∙ ap (λ l. l ++ (drop count items ++ xs)) (sym same)

pub recalls_kept : (documents base durable seen given ready sum any : List ℕ) (left : Left) → IsJournalKept documents base durable seen given ready sum
    → MayLeave durable any given left → Recalls documents base left
recalls_kept documents base durable seen given ready sum any left kept may =
    recalls documents base durable any given ready sum left (subst (λ f. IsJournal documents f sum) (sym kept.synced) kept.journal)
    (ap (λ f. text_of (recovered documents f)) kept.synced ∙ kept.holds) may

pub not_failed : (failed : Bool) (ready : ℕ) → (failed ≡ true → ready ≡ 0) → ready ≢ 0 → failed ≡ false
not_failed true ready none some = absurd (some (none refl))
not_failed false ready none some = refl

pub accounted_as : (input : Option (List ℕ)) (given l rest : List ℕ) (known : Option (List ℕ)) → rest ≡ l
    → IsAccounted input given (prepend_known l known) → IsAccounted input given (prepend_known rest known)
accounted_as input given l rest known is has = subst (λ x. IsAccounted input given (prepend_known x known)) (sym is) has

pub least_within : (count a b : ℕ) → count ≡ min a b → count ≤ b
least_within count a b is = omega (arith, is)

pub gives_front : (items rest put buf : List ℕ) (count : ℕ) (known : Option (List ℕ)) → count ≤ length items → put ≡ take count items → rest ≡ drop count items
    → Consumes (prepend_known items known) (prepend_known rest known) (take count (put ++ drop count buf))
gives_front items rest put buf count known le is_put is_rest =
    let size : length put ≡ count = ap length is_put ∙ length-take-le count items le in
    subst (λ l. Consumes (prepend_known items known) (prepend_known l known) (take count (put ++ drop count buf))) (sym is_rest)
    (gives items (take count (put ++ drop count buf)) count known (take_at put (drop count buf) count size ∙ is_put))

-- Beginnings

-- at this moment
pub begun_now : (documents base durable seen given sum : List ℕ) (moment : ℕ) (left_since : ℕ → Left → Type 0) → IsJournalKept documents base durable seen given [] sum
    → ((left : Left) → left_since moment left → MayLeave durable seen given left) → HasRecalled documents base moment moment left_since
begun_now documents base durable seen given sum moment left_since kept now =
    record { later = omega arith; each = λ left had. recalls_kept documents base durable seen given [] sum seen left kept (now left had) }

none_begun : (front given : List ℕ) → Begins front given → given ≡ [] → front ≡ []
none_begun [] given begins none = refl
none_begun (x ∷ front) given begins none = let e : x ∷ (front ++ begins.rest) ≡ [] = sym begins.splits ∙ none in absurd (cc e)

starts_all : (base given text : List ℕ) → given ≡ [] → text ≡ base → StartsText (base ++ given) text
starts_all base given text none is = starts (base ++ given) text [] (is ∙ sym (append-nil base) ∙ sym (append-nil (base ++ [])) ∙ ap (λ l. (base ++ l) ++ []) (sym none))

-- before recovery, in which a crash left the lines that the file had, and nothing was given
pub begun_before : {E : Type 0} (moment_of : E → ℕ) (left_of : E → ℕ → Left → Type 0) (old new : E) (documents file given base : List ℕ) (since : ℕ)
    → LeavesOnly moment_of left_of old new (KeepsLines documents file given) → since ≡ moment_of old → base ≡ text_of (recovered documents file) → given ≡ []
    → HasRecalled documents base since (moment_of new) (left_of new)
begun_before moment_of left_of old new documents file given base since leaves is base_is none = record {
  later = omega (arith, is, leaves.later);
  each = λ left had.
      let keeps = leaves.each left (subst (λ t. left_of new t left) is had) in
      starts_all base left.given (text_of (recovered documents left.file)) (none_begun left.given given keeps.output none) (ap text_of keeps.lines ∙ sym base_is);
}

prepend_none : (known : Option (List ℕ)) → prepend_known [] known ≡ known
prepend_none None = refl
prepend_none (Some xs) = refl

pub whole_as : (given now : List ℕ) → now ≡ given → given ≡ text_of (whole_lines_before_zero given) → now ≡ text_of (whole_lines_before_zero now)
whole_as given now same whole = subst (λ l. l ≡ text_of (whole_lines_before_zero l)) (sym same) whole

pub part_within : (count fits : ℕ) (l : List ℕ) → count ≤ length (take fits l) → count ≤ fits
part_within count fits l le = omega (arith, le, length-take fits l)

pub least_above : (count fits a b : ℕ) → count ≤ fits → fits ≡ min a b → count ≤ b
least_above count fits a b le is = omega (arith, le, is)

pub take_less : (count fits : ℕ) (l : List ℕ) → count ≤ fits → take count l ≡ take count (take fits l)
take_less zero fits l le = refl
take_less (suc count) zero l le = absurd (omega (arith, le))
take_less (suc count) (suc fits) [] le = refl
take_less (suc count) (suc fits) (x ∷ l) le = ap (λ t. x ∷ t) (take_less count fits l (omega (arith, le)))

pub lines_first : LinesBegin
lines_first documents front file are starts_so =
    let found = recovered documents file in
    let text = text_of found in
    let rest = drop (length (text_of front)) text in
    let split : text ≡ text_of front ++ rest = sym (take-append-drop (length (text_of front)) text) ∙ ap (λ l. l ++ rest) starts_so in
    (whole_lines_before_zero rest, sym (lines_of_text found (are_recovered documents file)) ∙ ap whole_lines_before_zero split ∙ lines_behind front rest are)
