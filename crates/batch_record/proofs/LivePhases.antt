-- Live phases that change and end, as they are kept and by the record.
use Rattle.std.proofs.Common.{◌≡◌, ℕ, Bool, true, false, not, List, [], ◌∷◌, ◌++◌, map, filter, refl, sym, ap, ◌∙◌}
use Rattle.batch_matrix.specs.declared.{command.Command.Command, report.Report.Report, state.State.State}
use Rattle.batch_recipe.specs.Conditions.{Name}
use Rattle.batch_model.specs.{Plant.BatchAct, Plant.is_same_act, Events.reported, Records.ends_phase, Runs.reply}
use Rattle.batch_record.specs.{Telling.is_at, Telling.led_by, Telling.moved_at, Telling.said_by, Kept.kept_live, Kept.lives_of, Kept.is_elsewhere, Kept.LiveAfter, Kept.phase_changed, Kept.changed_by, declared.live.Change.Change, declared.live.LivePhase.LivePhase}

-- a kept list, and its view, without some of its items
module _ {X Y : Type 0} (f : X → Y) (p : X → Bool) (q : Y → Bool) (h : (x : X) → q (f x) ≡ p x) where
  one_more : (x : X) (xs : List X) (b : Bool) → p x ≡ b → map f (filter p xs) ≡ filter q (map f xs) → map f (filter p (x ∷ xs)) ≡ filter q (map f (x ∷ xs))
  one_more x xs true e k = rw (e, h x ∙ e) (ap (λ ys. f x ∷ ys) k)
  one_more x xs false e k = rw (e, h x ∙ e) k

  pub filtered : (xs : List X) → map f (filter p xs) ≡ filter q (map f xs)
  filtered [] = refl
  filtered (x ∷ xs) = one_more x xs (p x) refl (filtered xs)

pub appended : {X Y : Type 0} (f : X → Y) (xs : List X) (x : X) → map f (xs ++ x ∷ []) ≡ map f xs ++ f x ∷ []
appended f [] x = refl
appended f (y ∷ xs) x = ap (λ ys. f y ∷ ys) (appended f xs x)

pub ended-live : (act : BatchAct) (live : List LivePhase) → lives_of (filter (is_elsewhere act) live) ≡ filter (λ x. not (is_at act x)) (lives_of live)
ended-live act live = filtered kept_live (is_elsewhere act) (λ x. not (is_at act x)) (λ x. refl) live

-- a report that ends its phase
pub report-ends : (old new : List LivePhase) (u p : Name) (word : Report) (n : ℕ) (place at : List ℕ) (s : State) → ends_phase word ≡ true → at ≡ place → new ≡ filter (is_elsewhere (n, at)) old
    → LiveAfter old (reply (reported u p word n place s)) new
report-ends old new u p word n place at s is same e =
    ap lives_of (e ∙ ap (λ q. filter (is_elsewhere (n, q)) old) same) ∙ ended-live (n, place) old
    ∙ sym (ap (λ b. elim b [ true ↦ filter (λ x. not (is_at (n, place) x)) (lives_of old) | false ↦ moved_at (n, place) (said_by word) (lives_of old) ]) is)

-- the phases at an act that go on in another state
module _ (act : BatchAct) (change : Change) where
  changed-one : (x : LivePhase) (b : Bool) → kept_live (elim b [ true ↦ record x { state = changed_by change x.state } | false ↦ x ])
      ≡ elim b [ true ↦ record { act = (x.batch, x.place); unit = x.unit; name = x.phase; state = changed_by change x.state } | false ↦ kept_live x ]
  changed-one x true = refl
  changed-one x false = refl

  changed-live : (xs : List LivePhase) → lives_of (map (phase_changed act change) xs) ≡ moved_at act (changed_by change) (lives_of xs)
  changed-live [] = refl
  changed-live (x ∷ xs) =
      ap (λ y. y ∷ lives_of (map (phase_changed act change) xs)) (changed-one x (is_same_act (x.batch, x.place) act))
      ∙ ap (λ ys. elim (is_at act (kept_live x)) [ true ↦ record { act = (x.batch, x.place); unit = x.unit; name = x.phase; state = changed_by change x.state } | false ↦ kept_live x ] ∷ ys) (changed-live xs)

-- a command was sent
pub sent-on : (old new : List LivePhase) (n : ℕ) (place at : List ℕ) (command : Command) → at ≡ place → new ≡ map (phase_changed (n, at) (Change.Led command)) old
    → lives_of new ≡ moved_at (n, place) (led_by command) (lives_of old)
sent-on old new n place at command same e =
    ap lives_of e ∙ changed-live (n, at) (Change.Led command) old ∙ ap (λ q. moved_at (n, q) (led_by command) (lives_of old)) same

-- a report that says in which state its phase goes on
pub report-goes_on : (old new : List LivePhase) (u p : Name) (word : Report) (n : ℕ) (place at : List ℕ) (s : State) → ends_phase word ≡ false → at ≡ place
    → new ≡ map (phase_changed (n, at) (Change.Said word)) old → LiveAfter old (reply (reported u p word n place s)) new
report-goes_on old new u p word n place at s is same e =
    ap lives_of e ∙ changed-live (n, at) (Change.Said word) old ∙ ap (λ q. moved_at (n, q) (said_by word) (lives_of old)) same
    ∙ sym (ap (λ b. elim b [ true ↦ filter (λ x. not (is_at (n, place) x)) (lives_of old) | false ↦ moved_at (n, place) (said_by word) (lives_of old) ]) is)
