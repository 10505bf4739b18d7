-- Words of states, commands, reports, needs and pairs, there and back.
use Rattle.std.proofs.Common.{◌≡◌, ℕ, ◌<◌, Bool, true, false, if◌then◌else◌, List, [], ◌∷◌, ◌++◌, length, map, decimal, codes, Option, Some, None, refl, sym, ap, subst, ◌∙◌, arith}
use Rattle.std.{specs.Prelude.nat_lt, specs.List.list_all, specs.List.before_first, specs.List.after_first, specs.List.All, specs.Str.bytes_eq, proofs.lemmas.Slice.Eq.bytes_eq-Decides, proofs.lemmas.Bool.and_parts, proofs.lemmas.Bool.and_from, proofs.lemmas.Bool.leb-true, proofs.lemmas.Bool.le-leb, proofs.lemmas.Bool.Decides.nat_tests, proofs.lemmas.List.Elements.All-head, proofs.lemmas.List.Elements.All-tail, proofs.lemmas.List.Elements.All-nil, proofs.lemmas.List.Elements.All-cons}
use Rattle.batch_text.{specs.NameText.is_name, specs.NameText.IsName, specs.NumberText.number_of, proofs.NameTests.is_name-true}
use Rattle.batch_matrix.specs.declared.{state.State.State, command.Command.Command, report.Report.Report}
use Rattle.batch_recipe.specs.{Conditions.Name, Conditions.ValueList, declared.need.Need.Need}
use Rattle.batch_wire.specs.{EventLine.command_of, EventLine.word_of_report, EventLine.is_equals, EventLine.pair_of, EventLine.is_role_pair, EventLine.role_pair_of, RecordText.state_text, RecordText.command_text, RecordText.report_text, RecordText.need_text, RecordText.value_text, RecordText.value_texts, RecordText.role_text, RecordText.role_texts}
use Rattle.batch_record.{specs.Naming.IsShort, specs.Naming.IsNeed, specs.Naming.IsValue, specs.Naming.IsRole, specs.RecordLine.is_star, specs.RecordLine.is_plain_number, specs.RecordLine.is_plain_units, specs.RecordLine.is_plain_value, specs.RecordLine.is_starred, specs.RecordLine.need_of_word, specs.RecordLine.one_of, specs.RecordLine.starred_of, specs.RecordLine.state_of_word, proofs.AbsentBytes.lacks, proofs.AbsentBytes.lacks-append, proofs.AbsentBytes.before-joined, proofs.AbsentBytes.after-joined, proofs.AbsentBytes.joined-again, proofs.AbsentBytes.name-no_space, proofs.AbsentBytes.name-no_star, proofs.AbsentBytes.name-no_equals, proofs.AbsentBytes.starred-no_name, proofs.Numerals.written-again, proofs.Numerals.read-again, proofs.Numerals.decimal-no_space, proofs.Numerals.plain-some}

-- Tests

pub chosen : {A : Type 0} (P : Option A → Type 0) (b : Bool) (r s : Option A) → (b ≡ true → P r) → (b ≡ false → P s) → P (if b then r else s)
chosen P true r s on_true on_false = on_true refl
chosen P false r s on_true on_false = on_false refl

pub nothing : {A : Type 0} (P : A → Type 0) (a : A) → None ≡ Some a → P a
nothing P a e = absurd cc

pub same : {A : Type 0} (a b : A) → Some a ≡ Some b → a ≡ b
same a b e = cc

pub tested : {A : Type 0} (b : Bool) (a c : A) → (if b then Some a else None) ≡ Some c → (b ≡ true) × (a ≡ c)
tested true a c e = (refl, same a c e)
tested false a c e = absurd cc

pub is_word : (word text : List ℕ) → bytes_eq word text ≡ true → word ≡ text
is_word word text e = (bytes_eq-Decides word text).0 e

-- Words of a kind: the one that is read is the one that is written

module _ {S : Type 0} (text_of : S → List ℕ) (word : List ℕ) where
  abbrev Reads : Option S → Type 0
  Reads r = (s : S) → r ≡ Some s → text_of s ≡ word

  one : (s : S) (rest : Option S) → Reads rest → Reads (if bytes_eq word (text_of s) then Some s else rest)
  one s rest others =
      chosen Reads (bytes_eq word (text_of s)) (Some s) rest
      (λ e t at. ap text_of (sym (same s t at)) ∙ sym (is_word word (text_of s) e))
      (λ _. others)

  none : Reads None
  none s e = nothing (λ t. text_of t ≡ word) s e

pub state-written : (word : List ℕ) (s : State) → state_of_word word ≡ Some s → state_text s ≡ word
state-written word =
    let R = one state_text word in
    R State.Idle _ (R State.Running _ (R State.Pausing _ (R State.Paused _ (R State.Holding _ (R State.Held _ (R State.Restarting _ (R State.Stopping _ (R State.Stopped _ (R State.Aborting _ (R State.Aborted _ (R State.Complete _ (none state_text word))))))))))))

pub command-written : (word : List ℕ) (s : Command) → command_of word ≡ Some s → command_text s ≡ word
command-written word =
    let R = one command_text word in
    R Command.Start _ (R Command.Pause _ (R Command.Resume _ (R Command.Hold _ (R Command.Restart _ (R Command.Stop _ (R Command.Abort _ (R Command.Reset _ (none command_text word))))))))

pub report-written : (word : List ℕ) (s : Report) → word_of_report word ≡ Some s → report_text s ≡ word
report-written word =
    let R = one report_text word in
    R Report.Done _ (R Report.Paused _ (R Report.Held _ (R Report.Running _ (R Report.Stopped _ (R Report.Aborted _ (R Report.Fault _ (none report_text word)))))))

pub state-read : (s : State) → state_of_word (state_text s) ≡ Some s
state-read State.Idle = refl
state-read State.Running = refl
state-read State.Pausing = refl
state-read State.Paused = refl
state-read State.Holding = refl
state-read State.Held = refl
state-read State.Restarting = refl
state-read State.Stopping = refl
state-read State.Stopped = refl
state-read State.Aborting = refl
state-read State.Aborted = refl
state-read State.Complete = refl

pub state-no_space : (s : State) → lacks 32 (state_text s) ≡ true
state-no_space State.Idle = refl
state-no_space State.Running = refl
state-no_space State.Pausing = refl
state-no_space State.Paused = refl
state-no_space State.Holding = refl
state-no_space State.Held = refl
state-no_space State.Restarting = refl
state-no_space State.Stopping = refl
state-no_space State.Stopped = refl
state-no_space State.Aborting = refl
state-no_space State.Aborted = refl
state-no_space State.Complete = refl

pub command-read : (s : Command) → command_of (command_text s) ≡ Some s
command-read Command.Start = refl
command-read Command.Pause = refl
command-read Command.Resume = refl
command-read Command.Hold = refl
command-read Command.Restart = refl
command-read Command.Stop = refl
command-read Command.Abort = refl
command-read Command.Reset = refl

pub command-no_space : (s : Command) → lacks 32 (command_text s) ≡ true
command-no_space Command.Start = refl
command-no_space Command.Pause = refl
command-no_space Command.Resume = refl
command-no_space Command.Hold = refl
command-no_space Command.Restart = refl
command-no_space Command.Stop = refl
command-no_space Command.Abort = refl
command-no_space Command.Reset = refl

pub report-read : (s : Report) → word_of_report (report_text s) ≡ Some s
report-read Report.Done = refl
report-read Report.Paused = refl
report-read Report.Held = refl
report-read Report.Running = refl
report-read Report.Stopped = refl
report-read Report.Aborted = refl
report-read Report.Fault = refl

pub report-no_space : (s : Report) → lacks 32 (report_text s) ≡ true
report-no_space Report.Done = refl
report-no_space Report.Paused = refl
report-no_space Report.Held = refl
report-no_space Report.Running = refl
report-no_space Report.Stopped = refl
report-no_space Report.Aborted = refl
report-no_space Report.Fault = refl

-- Names

pub name-is : (word : List ℕ) → is_name word ≡ true → IsName word
name-is word e = (is_name-true word).0 e

pub name-test : (word : List ℕ) → IsName word → is_name word ≡ true
name-test word h = (is_name-true word).1 h

pub name-some : (word : List ℕ) → is_name word ≡ true → 0 < length word
name-some [] e = absurd cc
name-some (b ∷ bs) e = omega arith

-- Needs

pub record NeedIs (word : List ℕ) (need : Need) : Type 0 where
  pub need_named : IsNeed need
  pub text : need_text need ≡ word

text-of_one : (need : Need) → nat_lt 1 need.units ≡ false → need_text need ≡ need.resource
text-of_one need e = ap (λ b. elim b [ false ↦ need.resource | true ↦ need.resource ++ (codes "*" ++ decimal need.units) ]) e

text-of_more : (need : Need) → nat_lt 1 need.units ≡ true → need_text need ≡ need.resource ++ (42 ∷ decimal need.units)
text-of_more need e = ap (λ b. elim b [ false ↦ need.resource | true ↦ need.resource ++ (codes "*" ++ decimal need.units) ]) e

starred-is : (word : List ℕ) → is_starred word ≡ true → NeedIs word (starred_of word)
starred-is word e =
    let (resource, units) = and_parts (is_name (before_first is_star word)) (is_plain_units (after_first is_star word)) e in
    let (number, range) = and_parts (is_plain_number (after_first is_star word)) _ units in
    let (more, few) = and_parts (nat_lt 1 (number_of (after_first is_star word))) _ range in
    let some : 0 < length (after_first is_star word) = plain-some (after_first is_star word) number in
    let low : 1 < number_of (after_first is_star word) = grind (arith, nat_tests) in
    record {
      need_named = record { named = name-is _ resource; some = omega (arith, low); few = leb-true _ 4294967295 few };
      text =
          text-of_more (starred_of word) more
          ∙ ap (λ t. before_first is_star word ++ (42 ∷ t)) ((written-again (after_first is_star word) number).0)
          ∙ joined-again 42 word some;
    }

pub need-written : (word : List ℕ) (need : Need) → need_of_word word ≡ Some need → NeedIs word need
need-written word =
    chosen (λ r. (need : Need) → r ≡ Some need → NeedIs word need) (is_name word) (Some (one_of word)) _
    (λ e need at. subst (NeedIs word) (same (one_of word) need at) (record { need_named = record { named = name-is word e; some = omega arith; few = omega arith }; text = refl }))
    (λ _. chosen (λ r. (need : Need) → r ≡ Some need → NeedIs word need) (is_starred word) (Some (starred_of word)) None
    (λ e need at. subst (NeedIs word) (same (starred_of word) need at) (starred-is word e))
    (λ _ need at. nothing (NeedIs word) need at))

need-one : (need : Need) → need.units ≡ 1 → one_of need.resource ≡ need
need-one need e = ap (λ n. record { resource = need.resource; units = n }) (sym e)

need-read-by : (need : Need) → IsNeed need → (b : Bool) → nat_lt 1 need.units ≡ b → need_of_word (need_text need) ≡ Some need
need-read-by need h false e =
    let one_unit : need.units ≡ 1 = let s = h.some in grind (arith, nat_tests) in
    ap need_of_word (text-of_one need e)
    ∙ ap (λ b. if b then Some (one_of need.resource) else (if is_starred need.resource then Some (starred_of need.resource) else None)) (name-test need.resource h.named)
    ∙ ap Some (need-one need one_unit)
need-read-by need h true e =
    let short : IsShort need.units = omega (arith, h.few) in
    let (plain, back) = read-again need.units short in
    let word = need.resource ++ (42 ∷ decimal need.units) in
    let front : before_first is_star word ≡ need.resource = before-joined 42 need.resource (decimal need.units) (name-no_star need.resource h.named) in
    let behind : after_first is_star word ≡ decimal need.units = after-joined 42 need.resource (decimal need.units) (name-no_star need.resource h.named) in
    let in_range : is_plain_units (decimal need.units) ≡ true = and_from _ _ plain (rw back (and_from _ _ e (le-leb need.units 4294967295 h.few))) in
    let starred : is_starred word ≡ true =
    and_from _ _ (ap is_name front ∙ name-test need.resource h.named) (ap is_plain_units behind ∙ in_range) in
    ap need_of_word (text-of_more need e)
    ∙ ap (λ b. if b then Some (one_of word) else (if is_starred word then Some (starred_of word) else None)) (starred-no_name need.resource (decimal need.units))
    ∙ ap (λ b. if b then Some (starred_of word) else None) starred
    ∙ ap (λ name. Some (record { resource = name; units = number_of (after_first is_star word) })) front
    ∙ ap (λ units. Some (record { resource = need.resource; units = units })) (ap number_of behind ∙ back)

pub need-read : (need : Need) → IsNeed need → need_of_word (need_text need) ≡ Some need
need-read need h = need-read-by need h (nat_lt 1 need.units) refl

no_space-by : (need : Need) → IsNeed need → (b : Bool) → nat_lt 1 need.units ≡ b → lacks 32 (need_text need) ≡ true
no_space-by need h false e = ap (lacks 32) (text-of_one need e) ∙ name-no_space need.resource h.named
no_space-by need h true e =
    ap (lacks 32) (text-of_more need e)
    ∙ lacks-append 32 need.resource (codes "*" ++ decimal need.units) (name-no_space need.resource h.named)
    (lacks-append 32 (codes "*") (decimal need.units) refl (decimal-no_space need.units (omega (arith, h.few))))

pub need-no_space : (need : Need) → IsNeed need → lacks 32 (need_text need) ≡ true
need-no_space need h = no_space-by need h (nat_lt 1 need.units) refl

-- Pairs

value-written : (word : List ℕ) → is_plain_value word ≡ true → IsValue (pair_of word) × (value_text (pair_of word) ≡ word)
value-written word e =
    let (name, number) = and_parts (is_name (before_first is_equals word)) (is_plain_number (after_first is_equals word)) e in
    let again = written-again (after_first is_equals word) number in
    ((name-is _ name, again.1), rw again.0 (joined-again 61 word (plain-some (after_first is_equals word) number)))

value-read : (value : Name × ℕ) → IsValue value → (is_plain_value (value_text value) ≡ true) × (pair_of (value_text value) ≡ value)
value-read (name, n) (named, short) =
    let front = before-joined 61 name (decimal n) (name-no_equals name named) in
    let behind = after-joined 61 name (decimal n) (name-no_equals name named) in
    let (plain, back) = read-again n short in
    (rw (front, behind) (and_from _ _ (name-test name named) plain), rw (front, behind, back) refl)

value-no_space : (value : Name × ℕ) → IsValue value → lacks 32 (value_text value) ≡ true
value-no_space (name, n) (named, short) =
    lacks-append 32 name (codes "=" ++ decimal n) (name-no_space name named) (lacks-append 32 (codes "=") (decimal n) refl (decimal-no_space n short))

role-written : (word : List ℕ) → is_role_pair word ≡ true → IsRole (role_pair_of word) × (role_text (role_pair_of word) ≡ word)
role-written word e =
    let (role, unit) = and_parts (is_name (before_first is_equals word)) (is_name (after_first is_equals word)) e in
    ((name-is _ role, name-is _ unit), joined-again 61 word (name-some (after_first is_equals word) unit))

role-read : (role : Name × Name) → IsRole role → (is_role_pair (role_text role) ≡ true) × (role_pair_of (role_text role) ≡ role)
role-read (role, unit) (named, unit_named) =
    let front = before-joined 61 role unit (name-no_equals role named) in
    let behind = after-joined 61 role unit (name-no_equals role named) in
    (rw (front, behind) (and_from _ _ (name-test role named) (name-test unit unit_named)), rw (front, behind) refl)

role-no_space : (role : Name × Name) → IsRole role → lacks 32 (role_text role) ≡ true
role-no_space (role, unit) (named, unit_named) =
    lacks-append 32 role (codes "=" ++ unit) (name-no_space role named) (lacks-append 32 (codes "=") unit refl (name-no_space unit unit_named))

-- Lists of them

module _ {X : Type 0} (is_one : List ℕ → Bool) (of : List ℕ → X) (text : X → List ℕ) (Is : X → Type 0)
    (written : (word : List ℕ) → is_one word ≡ true → Is (of word) × (text (of word) ≡ word))
    (reads : (x : X) → Is x → (is_one (text x) ≡ true) × (of (text x) ≡ x))
    (no_space : (x : X) → Is x → lacks 32 (text x) ≡ true) where
  pub all-written : (words : List (List ℕ)) → list_all is_one words ≡ true → All Is (map of words) × (map text (map of words) ≡ words)
  all-written [] e = (All-nil Is, refl)
  all-written (word ∷ words) e =
      let (here, more) = and_parts (is_one word) (list_all is_one words) e in
      let (is, again) = written word here in
      let (are, others) = all-written words more in
      (All-cons Is (of word) (map of words) is are, ap (λ w. w ∷ map text (map of words)) again ∙ ap (λ ws. word ∷ ws) others)

  pub all-read : (xs : List X) → All Is xs → (list_all is_one (map text xs) ≡ true) × (map of (map text xs) ≡ xs)
  all-read [] h = (refl, refl)
  all-read (x ∷ xs) h =
      let (here, back) = reads x (All-head Is x xs h) in
      let (more, others) = all-read xs (All-tail Is x xs h) in
      (and_from _ _ here more, ap (λ y. y ∷ map of (map text xs)) back ∙ ap (λ ys. x ∷ ys) others)

  pub all-no_space : (xs : List X) → All Is xs → list_all (lacks 32) (map text xs) ≡ true
  all-no_space [] h = refl
  all-no_space (x ∷ xs) h = and_from _ _ (no_space x (All-head Is x xs h)) (all-no_space xs (All-tail Is x xs h))

pub values-written : (words : List (List ℕ)) → list_all is_plain_value words ≡ true → All IsValue (map pair_of words) × (value_texts (map pair_of words) ≡ words)
values-written = all-written is_plain_value pair_of value_text IsValue value-written value-read value-no_space

pub values-read : (values : ValueList) → All IsValue values → (list_all is_plain_value (value_texts values) ≡ true) × (map pair_of (value_texts values) ≡ values)
values-read = all-read is_plain_value pair_of value_text IsValue value-written value-read value-no_space

pub values-no_space : (values : ValueList) → All IsValue values → list_all (lacks 32) (value_texts values) ≡ true
values-no_space = all-no_space is_plain_value pair_of value_text IsValue value-written value-read value-no_space

pub roles-written : (words : List (List ℕ)) → list_all is_role_pair words ≡ true → All IsRole (map role_pair_of words) × (role_texts (map role_pair_of words) ≡ words)
roles-written = all-written is_role_pair role_pair_of role_text IsRole role-written role-read role-no_space

pub roles-read : (roles : List (Name × Name)) → All IsRole roles → (list_all is_role_pair (role_texts roles) ≡ true) × (map role_pair_of (role_texts roles) ≡ roles)
roles-read = all-read is_role_pair role_pair_of role_text IsRole role-written role-read role-no_space

pub roles-no_space : (roles : List (Name × Name)) → All IsRole roles → list_all (lacks 32) (role_texts roles) ≡ true
roles-no_space = all-no_space is_role_pair role_pair_of role_text IsRole role-written role-read role-no_space
