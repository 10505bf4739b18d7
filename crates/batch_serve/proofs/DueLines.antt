-- The text of a record determines the lines that desks are due.
use Rattle.std.proofs.Common.{◌≡◌, ◌⊎◌, ◌<◌, ◌+◌, ◌-◌, ℕ, Bool, true, false, cond, List, [], ◌∷◌, ◌++◌, length, take, filter, get_or, Option, Some, None, ◌==◌, eqb, nat_eq, codes, refl, sym, ap, arith, append_assoc, append-nil, ◌∙◌, inl, inr}
use Rattle.std.{proofs.Math.Seq.take-append-add, proofs.lemmas.Bool.eqb-true, proofs.lemmas.Bool.false_from_ne_true, proofs.lemmas.Bool.Decides.eqb_tells, proofs.lemmas.List.length-append, proofs.lemmas.List.Elements.All-append, proofs.lemmas.List.Elements.All-cons, proofs.lemmas.List.Elements.All-nil, proofs.lemmas.List.Elements.All-head, proofs.lemmas.List.Elements.All-tail, proofs.lemmas.List.Splits.slice_split_at, proofs.lemmas.List.Splits.length-slice_split, specs.Cmp.Lexicographic.bytes_decides, specs.Cmp.Lexicographic.pointwise, specs.List.All, specs.List.onto_first}
use Rattle.batch_wire.specs.Transcript.{lines_of, whole_lines}
use Rattle.batch_serve.{specs.Replays.IsWholeLines, specs.Dues.due_lines, specs.Dues.is_due, specs.Dues.is_from, specs.Lines.is_feed, specs.Runs.Run, specs.Runs.due_of, specs.Runs.is_same, specs.Runs.runs_text, specs.Recorded.AreNames, specs.Recorded.IsPlainRun, specs.Recorded.RecordsAreSorted, proofs.DueAnswers.runs_sorted}

-- Whole lines of a text and of the text behind it

onto_both : (b : ℕ) (parts others : List (List ℕ)) (n : ℕ) → length parts ≡ n + 1 → onto_first b (parts ++ others) ≡ onto_first b parts ++ others
onto_both b [] others n some = absurd (omega (arith, some))
onto_both b (part ∷ parts) others n some = refl

lines_if : (t : Bool) (b : ℕ) (parts others : List (List ℕ)) (n : ℕ) → length parts ≡ n + 1
    → cond t ([] ∷ (parts ++ others)) (onto_first b (parts ++ others)) ≡ cond t ([] ∷ parts) (onto_first b parts) ++ others
lines_if true b parts others n some = refl
lines_if false b parts others n some = onto_both b parts others n some

lines_both : (a b : List ℕ) → lines_of (a ++ 10 ∷ b) ≡ lines_of a ++ lines_of b
lines_both [] b = refl
lines_both (x ∷ a) b =
    ap (λ (l : List (List ℕ)). cond (is_feed x) ([] ∷ l) (onto_first x l)) (lines_both a b)
    ∙ lines_if (is_feed x) x (lines_of a) (lines_of b) _ (length-slice_split is_feed a)

but_last_of : (front others : List (List ℕ)) (n : ℕ) → length others ≡ n + 1 → take (length (front ++ others) - 1) (front ++ others) ≡ front ++ take (length others - 1) others
but_last_of front others n some =
    let count : length (front ++ others) - 1 ≡ length front + (length others - 1) = omega (arith, length-append front others, some) in
    ap (λ k. take k (front ++ others)) count ∙ take-append-add front others (length others - 1)

pub whole_both : (a b : List ℕ) → IsWholeLines a → whole_lines (a ++ b) ≡ whole_lines a ++ whole_lines b
whole_both a b (inl none) = ap (λ l. whole_lines (l ++ b)) none ∙ ap (λ l. whole_lines l ++ whole_lines b) (sym none)
whole_both a b (inr (front, ends)) =
    let all : lines_of (a ++ b) ≡ lines_of front ++ lines_of b = ap (λ l. lines_of (l ++ b)) ends ∙ ap lines_of (append_assoc front (10 ∷ []) b) ∙ lines_both front b in
    let own : lines_of a ≡ lines_of front ++ ([] ∷ []) = ap lines_of ends ∙ lines_both front [] in
    let first : whole_lines a ≡ lines_of front =
    ap (λ (l : List (List ℕ)). take (length l - 1) l) own ∙ but_last_of (lines_of front) ([] ∷ []) 0 refl ∙ append-nil (lines_of front) in
    ap (λ (l : List (List ℕ)). take (length l - 1) l) all
    ∙ but_last_of (lines_of front) (lines_of b) _ (length-slice_split is_feed b)
    ∙ ap (λ l. l ++ whole_lines b) (sym first)

-- Who sends

abbrev from_of : List (List ℕ) → Option ℕ → Option (List ℕ)
from_of names None = None
from_of names (Some desk) = Some (get_or names desk [])

line_from : (name : List ℕ) → All (λ b. is_feed b ≡ false) name → All (λ b. is_feed b ≡ false) (codes "# from " ++ name)
line_from name plain =
    All-append (λ b. is_feed b ≡ false) (codes "# from ") name
    (one 35 (codes " from ") refl (one 32 (codes "from ") refl (one 102 (codes "rom ") refl (one 114 (codes "om ") refl (one 111 (codes "m ") refl (one 109 (codes " ") refl (one 32 [] refl (All-nil (λ b. is_feed b ≡ false)))))))))
    plain
  where
    one : (b : ℕ) (rest : List ℕ) → is_feed b ≡ false → All (λ x. is_feed x ≡ false) rest → All (λ x. is_feed x ≡ false) (b ∷ rest)
    one b rest is others = All-cons (λ x. is_feed x ≡ false) b rest is others

from_line : (name : List ℕ) → All (λ b. is_feed b ≡ false) name → whole_lines (codes "# from " ++ (name ++ 10 ∷ [])) ≡ (codes "# from " ++ name) ∷ []
from_line name plain =
    let split : lines_of (codes "# from " ++ (name ++ 10 ∷ [])) ≡ (codes "# from " ++ name) ∷ [] ∷ [] =
    ap lines_of (sym (append_assoc (codes "# from ") name (10 ∷ []))) ∙ slice_split_at is_feed (codes "# from " ++ name) 10 [] (line_from name plain) refl in
    ap (λ (l : List (List ℕ)). take (length l - 1) l) split

-- the comment is due to nobody, and says who sends
due_behind : (name : List ℕ) (unit from : Option (List ℕ)) (other : List ℕ) (rest : List (List ℕ))
    → due_lines name unit from ((codes "# from " ++ other) ∷ rest) ≡ due_lines name unit (Some other) rest
due_behind name unit from other rest = refl

-- a desk's name is its own
is_own : (names : List (List ℕ)) (i k : ℕ) → AreNames names → i < length names → k < length names
    → pointwise nat_eq (get_or names i []) (get_or names k []) ≡ (k == i)
is_own names i k are in_i in_k = own_if (eqb_tells k i)
  where
    own_if : ((eqb k i ≡ true) × (k ≡ i)) ⊎ ((eqb k i ≡ false) × (k ≡ i → ⊥)) → pointwise nat_eq (get_or names i []) (get_or names k []) ≡ (k == i)
    own_if (inl (same, is)) = (bytes_decides (get_or names i []) (get_or names k [])).1 (ap (λ n. get_or names n []) (sym is)) ∙ sym same
    own_if (inr (other, apart)) =
        false_from_ne_true (pointwise nat_eq (get_or names i []) (get_or names k []))
        (λ h. apart (sym (are.distinct i k in_i in_k ((bytes_decides (get_or names i []) (get_or names k [])).0 h)))) ∙ sym other

-- The record

same_is : (before : Option ℕ) (desk : ℕ) → is_same before desk ≡ true → before ≡ Some desk
same_is None desk is = absurd (cc is)
same_is (Some other) desk is = ap Some (eqb-true other desk is)

behind_if : (names : List (List ℕ)) (desk : ℕ) (unit : Option (List ℕ)) (at : Option ℕ) (sender : ℕ) (same : Bool) (text : List ℕ) → is_same at sender ≡ same
    → AreNames names
    → due_lines (get_or names desk []) unit (from_of names at) (whole_lines (cond same [] (codes "# from " ++ (get_or names sender [] ++ 10 ∷ [])) ++ text))
    ≡ due_lines (get_or names desk []) unit (from_of names (Some sender)) (whole_lines text)
behind_if names desk unit at sender true text is are = ap (λ (o : Option ℕ). due_lines (get_or names desk []) unit (from_of names o) (whole_lines text)) (same_is at sender is)
behind_if names desk unit at sender false text is are =
    let name = get_or names sender [] in
    let comment : List ℕ = codes "# from " ++ (name ++ 10 ∷ []) in
    ap (due_lines (get_or names desk []) unit (from_of names at)) (whole_both comment text (inr (codes "# from " ++ name, sym (append_assoc (codes "# from ") name (10 ∷ [])))))
    ∙ ap (λ (l : List (List ℕ)). due_lines (get_or names desk []) unit (from_of names at) (l ++ whole_lines text)) (from_line name (are.plain sender))
    ∙ due_behind (get_or names desk []) unit (from_of names at) name (whole_lines text)

sorted_from : (names : List (List ℕ)) (desk : ℕ) (unit : Option (List ℕ)) (at : Option ℕ) (answers : List Run) → AreNames names → desk < length names
    → All (IsPlainRun (length names)) answers
    → due_lines (get_or names desk []) unit (from_of names at) (whole_lines (runs_text names at answers)) ≡ due_of desk unit answers
sorted_from names desk unit at [] are within plain = refl
sorted_from names desk unit at (run ∷ answers) are within plain =
    let one = All-head (IsPlainRun (length names)) run answers plain in
    let name : List ℕ = get_or names desk [] in
    let rest : List ℕ = runs_text names (Some run.desk) answers in
    let own : is_from name (from_of names (Some run.desk)) ≡ (run.desk == desk) = is_own names desk run.desk are within one.desk in
    behind_if names desk unit at run.desk (is_same at run.desk) (run.text ++ rest) refl are
    ∙ ap (due_lines name unit (from_of names (Some run.desk))) (whole_both run.text rest one.whole)
    ∙ runs_sorted name unit (from_of names (Some run.desk)) (whole_lines run.text) (whole_lines rest) one.plain
    ∙ ap (λ b. filter (is_due b unit) (whole_lines run.text) ++ due_lines name unit (from_of names (Some run.desk)) (whole_lines rest)) own
    ∙ ap (λ l. filter (is_due (run.desk == desk) unit) (whole_lines run.text) ++ l)
    (sorted_from names desk unit (Some run.desk) answers are within (All-tail (IsPlainRun (length names)) run answers plain))

pub records_are_sorted : RecordsAreSorted
records_are_sorted names desk unit answers are within plain = sorted_from names desk unit None answers are within plain
