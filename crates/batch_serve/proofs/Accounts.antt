-- Accounts, as lines come, go and are dropped.
use Rattle.std.proofs.Common.{◌≡◌, Bool, true, false, List, [], ◌∷◌, ◌++◌, length, refl, sym, ap, ◌∙◌, append_assoc, append-nil, arith}
use Rattle.std.proofs.lemmas.Bool.{false≢true}
use Rattle.batch_serve.specs.Waits.{IsAccount, Waits, cut_off, pushed}

-- a list without length
none_left : {T : Type 0} (lines : List T) → length lines ≡ 0 → lines ≡ []
none_left [] none = refl
none_left (line ∷ lines) none = absurd (omega (arith, none))

-- one more line came
came : {T : Type 0} (all told rest : List T) (line : T) → all ≡ told ++ rest → all ++ line ∷ [] ≡ told ++ (rest ++ line ∷ [])
came all told rest line begins = ap (λ xs. xs ++ line ∷ []) begins ∙ append_assoc told rest (line ∷ [])

pushed_by : {T : Type 0} (all told : List T) (line : T) (w : Waits T) (b : Bool) → w.is_cut ≡ b → IsAccount all told w → IsAccount (all ++ line ∷ []) told (pushed line w)
pushed_by all told line w true is h =
    rw is (record { rest = h.rest ++ line ∷ []; begins = came all told h.rest line h.begins; waits = λ uncut. absurd (false≢true (sym uncut)) })
pushed_by all told line w false is h =
    let begins : all ≡ told ++ w.lines = h.begins ∙ ap (λ rest. told ++ rest) (h.waits is) in
    rw is (record { rest = w.lines ++ line ∷ []; begins = came all told w.lines line begins; waits = λ uncut. refl })

-- it is queued, unless the desk is cut
pub account_pushed : {T : Type 0} (all told : List T) (line : T) (w : Waits T) → IsAccount all told w → IsAccount (all ++ line ∷ []) told (pushed line w)
account_pushed all told line w h = pushed_by all told line w w.is_cut refl h

-- the queued lines are dropped
pub account_cut : {T : Type 0} (all told : List T) (w : Waits T) → IsAccount all told w → IsAccount all told (cut_off w)
account_cut all told w h = record { rest = h.rest; begins = h.begins; waits = λ uncut. absurd (false≢true (sym uncut)) }

-- and so is the line that came
pub account_lost : {T : Type 0} (all told : List T) (line : T) (w : Waits T) → IsAccount all told w → IsAccount (all ++ line ∷ []) told (cut_off w)
account_lost all told line w h =
    record { rest = h.rest ++ line ∷ []; begins = came all told h.rest line h.begins; waits = λ uncut. absurd (false≢true (sym uncut)) }

handed_by : {T : Type 0} (all told more : List T) (old new : Waits T) (b : Bool) → old.is_cut ≡ b → more ++ new.lines ≡ told ++ old.lines → new.is_cut ≡ old.is_cut
    → (old.is_cut ≡ true → length old.lines ≡ 0) → IsAccount all told old → IsAccount all more new
handed_by all told more old new true is handed same none h =
    let before : more ++ new.lines ≡ told = handed ∙ ap (λ lines. told ++ lines) (none_left old.lines (none is)) ∙ append-nil told in
    record {
      rest = new.lines ++ h.rest;
      begins = h.begins ∙ ap (λ xs. xs ++ h.rest) (sym before) ∙ append_assoc more new.lines h.rest;
      waits = λ uncut. absurd (false≢true (sym uncut ∙ same ∙ is));
    }
handed_by all told more old new false is handed same none h =
    record { rest = new.lines; begins = h.begins ∙ ap (λ rest. told ++ rest) (h.waits is) ∙ sym handed; waits = λ uncut. refl }

-- lines go from the queued to the sent ones
pub account_handed : {T : Type 0} (all told more : List T) (old new : Waits T) → more ++ new.lines ≡ told ++ old.lines → new.is_cut ≡ old.is_cut
    → (old.is_cut ≡ true → length old.lines ≡ 0) → IsAccount all told old → IsAccount all more new
account_handed all told more old new handed same none h = handed_by all told more old new old.is_cut refl handed same none h

-- so do the first of them
pub account_front : {T : Type 0} (all told front : List T) (old new : Waits T) → old.lines ≡ front ++ new.lines → new.is_cut ≡ old.is_cut
    → (old.is_cut ≡ true → length old.lines ≡ 0) → IsAccount all told old → IsAccount all (told ++ front) new
account_front all told front old new is same none h =
    account_handed all told (told ++ front) old new (append_assoc told front new.lines ∙ ap (λ lines. told ++ lines) (sym is)) same none h
