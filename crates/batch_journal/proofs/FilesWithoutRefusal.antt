-- Files that a start takes aren't refused.
use Rattle.std.proofs.Common.{rules, Bool, ◌&&◌, ◌⊎◌, false, Option, None, Some, is_some, ◌≡◌, ℕ, suc, ◌≤◌, ◌==◌, true, List, [], ◌∷◌, ◌++◌, length, length-append, take, drop, take-append-drop, codes, nat_eq, refl, sym, ◌∙◌, ap, subst, arith, append_assoc, inl, inr}
use Rattle.std.{specs.List.list_all, specs.List.starts_with, specs.List.zip, proofs.Math.Bool.or-true, proofs.lemmas.Bool.cases_lt, proofs.lemmas.Bool.Decides.Decides-eqb, proofs.lemmas.Slice.Eq.starts_is}
use Rattle.memchr.specs.Find.{IsFirstByte, is_byte}
use Rattle.batch_journal.{specs.Disks.IsPart, specs.Journals.header, specs.Journals.groups_in, specs.Journals.IsJournal, specs.Recovery.StandsTo, specs.Recovery.IsDamaged, specs.Recovery.IsJournalUnbegun, specs.Recovery.HasNoFeed, specs.Recovery.TakenIsNotRefused, specs.Recovery.is_like, specs.Recovery.raw_lines, specs.Lines.whole_from, specs.declared.recovery.RecoveryFault.TheVariants.Disk, specs.declared.recovery.RecoveryFault.TheVariants.NoJournal, specs.declared.recovery.RecoveryFault.TheVariants.OtherDocuments, specs.declared.recovery.RecoveryFault.TheVariants.Damaged, proofs.DamageLemmas.within, proofs.DamageLemmas.behind_them, proofs.RecoveryLemmas.not_both, proofs.RecoveryLemmas.no_feed_behind, proofs.RecoveryLemmas.part_length, proofs.GroupLemmas.bool_cases}

-- a journal to some end begins so
begins_of : (documents file sum : List ℕ) (end : ℕ) → IsJournal documents (take end file) sum → file ≡ header documents ++ (groups_in documents (take end file) ++ drop end file)
begins_of documents file sum end journal =
    sym (take-append-drop end file) ∙ ap (λ l. l ++ drop end file) journal.begins ∙ append_assoc (header documents) (groups_in documents (take end file)) (drop end file)

starts : (text front rest : List ℕ) → text ≡ front ++ rest → starts_with nat_eq text front ≡ true
starts text front rest is = (starts_is Decides-eqb text front (starts_with nat_eq text front) refl).1 rest is

-- a journal to some end is damaged nowhere
stands_whole : (documents file sum : List ℕ) (end line : ℕ) → StandsTo documents file end sum → IsDamaged documents file line → ⊥
stands_whole documents file sum end line stands damaged =
    let front = take end file in
    let tail = drop end file in
    let same : IsDamaged documents (front ++ tail) line = subst (λ l. IsDamaged documents l line) (sym (take-append-drop end file)) damaged in
    elim (cases_lt same.end (length front)) [
      | inl lt ↦ within documents front sum tail line stands.journal same lt
      | inr le ↦ let some = behind_them documents front sum tail line stands.journal same le in omega (arith, stands.few, some)
    ]

no_feed_raw : (begun text : List ℕ) → HasNoFeed text → whole_from begun text ≡ []
no_feed_raw begun [] none = refl
no_feed_raw begun (b ∷ text) none = elim (bool_cases (b == 10)) [
  | inl feed ↦ absurd (none 0 (omega arith) feed)
  | inr other ↦ rw other (no_feed_raw (begun ++ b ∷ []) text (λ k lt is. none (suc k) (omega (arith, lt)) is))
]

empty_raw : (text : List ℕ) → length text ≤ 0 → raw_lines text ≡ []
empty_raw [] le = refl
empty_raw (b ∷ text) le = absurd (omega (arith, le))

-- lines follow damage, so a journal was begun
unbegun_whole : (documents file : List ℕ) (line : ℕ) → IsDamaged documents file line → IsJournalUnbegun documents file → ⊥
unbegun_whole documents file line damaged unbegun =
    let tail = drop damaged.end file in
    let behind = damaged.behind in
    let some : raw_lines tail ≡ [] → ⊥ = λ none. omega (arith, ap length (sym none ∙ behind.splits), length-append behind.front (behind.closing ∷ behind.more)) in
    elim unbegun [
      | inl none ↦ some (no_feed_raw [] tail (no_feed_behind damaged.end file none))
      | inr part ↦
          let groups = groups_in documents (take damaged.end file) in
          some (empty_raw tail (omega (
            arith,
            part_length file (header documents) part,
            ap length (begins_of documents file damaged.sum damaged.end damaged.journal),
            length-append (header documents) (groups ++ tail),
            length-append groups tail,
          )))
    ]

-- Findings about a file by its bytes

eq_of : (a b : ℕ) → (a == b) ≡ true → a ≡ b
eq_of a b is = search (rules, is)

eq_is : (a b : ℕ) → a ≡ b → (a == b) ≡ true
eq_is a b is = search (rules, is)

like_on : (b x : ℕ) (rest : Bool) → ((b == 0) ≡ true) ⊎ ((b == 0) ≡ false) → ((b == x) ≡ true) ⊎ ((b == x) ≡ false) → (is_like (b, x) && rest) ≡ true → ((b ≡ 0) ⊎ (b ≡ x)) × (rest ≡ true)
like_on b x rest (inl zero) same all = (inl (eq_of b 0 zero), rw zero at all)
like_on b x rest (inr not) (inl same) all = (inr (eq_of b x same), rw (not, same) at all)
like_on b x rest (inr not) (inr other) all = let none : false ≡ true = rw (not, other) at all in absurd (cc none)

pub like_part : (bytes whole : List ℕ) → length bytes ≤ length whole → list_all is_like (zip bytes whole) ≡ true → IsPart bytes whole
like_part [] whole le all = tt
like_part (b ∷ bytes) [] le all = absurd (omega (arith, le))
like_part (b ∷ bytes) (x ∷ whole) le all =
    let here = like_on b x (list_all is_like (zip bytes whole)) (bool_cases (b == 0)) (bool_cases (b == x)) all in
    (here.0, like_part bytes whole (omega (arith, le)) here.1)

pub part_like : (bytes whole : List ℕ) → IsPart bytes whole → list_all is_like (zip bytes whole) ≡ true
part_like [] whole part = refl
part_like (b ∷ bytes) [] part = absurd part
part_like (b ∷ bytes) (x ∷ whole) part = elim part.0 [
  | inl zero ↦ rw (eq_is b 0 zero) (part_like bytes whole part.1)
  | inr same ↦ rw (eq_is b x same, or-true (b == 0)) (part_like bytes whole part.1)
]

pub some_feed : (bytes : List ℕ) (found : Option ℕ) → IsFirstByte (is_byte 10) bytes found → is_some found ≡ true → HasNoFeed bytes → ⊥
some_feed bytes None first not none = absurd (cc not)
some_feed bytes (Some k) first not none = none k first.0.high first.1

pub not_refused : TakenIsNotRefused
not_refused documents file taken (Disk fault) refused = tt
not_refused documents file (inl (end, sum, stands)) NoJournal refused =
    let format = codes "# batchd journal 1 " in
    let rest = groups_in documents (take end file) ++ drop end file in
    not_both _ (starts file format ((documents ++ 10 ∷ []) ++ rest) (begins_of documents file sum end stands.journal ∙ append_assoc format (documents ++ 10 ∷ []) rest)) refused.0
not_refused documents file (inr unbegun) NoJournal refused = refused.1 unbegun
not_refused documents file (inl (end, sum, stands)) OtherDocuments refused =
    not_both _ (starts file (header documents) (groups_in documents (take end file) ++ drop end file) (begins_of documents file sum end stands.journal)) refused.1
not_refused documents file (inr unbegun) OtherDocuments refused = refused.2 unbegun
not_refused documents file (inl (end, sum, stands)) (Damaged line) damaged = stands_whole documents file sum end line stands damaged
not_refused documents file (inr unbegun) (Damaged line) damaged = unbegun_whole documents file line damaged unbegun
