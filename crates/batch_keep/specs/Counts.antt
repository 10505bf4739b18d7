-- trusted: which lines of a journal were sent, and which of them by one of several desks.
use Rattle.std.specs.Prelude.{ℕ, ◌+◌, Bool, false, not, ◌||◌, List, [], ◌∷◌, ◌++◌, drop, filter, cond, codes, nat_eq}
use Rattle.std.specs.Cmp.Lexicographic.{pointwise}
use Rattle.std.specs.List.{starts_with}
use Rattle.batch_wire.specs.EventLine.{is_comment}

-- all lines but comments
abbrev pub sent_lines : List (List ℕ) → List (List ℕ)
sent_lines lines = filter (λ line. not (is_comment line)) lines

-- whether the lines behind this one are a desk's: a comment `# from` says whose they are, up to the next; another line changes nothing
abbrev pub own_behind : List ℕ → Bool → List ℕ → Bool
own_behind name own line = cond (starts_with nat_eq line (codes "# from ")) (pointwise nat_eq (drop 7 line) name) own

abbrev pub own_from : List ℕ → Bool → List (List ℕ) → List (List ℕ)
own_from name own [] = []
own_from name own (line ∷ lines) = cond (is_comment line) [] (cond own (line ∷ []) []) ++ own_from name (own_behind name own line) lines

-- those behind a comment with the desk's name, up to the next comment with the name of a desk
abbrev pub own_lines : List ℕ → List (List ℕ) → List (List ℕ)
own_lines name lines = own_from name false lines

-- the same as a count: of all lines, or of the desk's

abbrev pub is_counted_behind : Bool → List ℕ → Bool → List ℕ → Bool
is_counted_behind all name counted line = cond (starts_with nat_eq line (codes "# from ")) (all || pointwise nat_eq (drop 7 line) name) counted

abbrev pub count_of : Bool → List ℕ → ℕ
count_of counted line = cond (is_comment line) 0 (cond counted 1 0)

abbrev pub count_from : Bool → List ℕ → Bool → List (List ℕ) → ℕ
count_from all name counted [] = 0
count_from all name counted (line ∷ lines) = count_of counted line + count_from all name (is_counted_behind all name counted line) lines
