-- The signs of acts, form by form, and the tests of acts that signs decide.
use Rattle.std.proofs.Common.{◌≡◌, ℕ, length, Bool, true, false, ◌&&◌, arith, refl, sym, ◌∙◌, ap, nat_lt, nat_le}
use Rattle.std.{specs.Prelude.not, specs.Prelude.◌||◌, proofs.lemmas.Bool.Decides.nat_tests}
use Rattle.batch_matrix.specs.{declared.command.Command.Command, declared.state.State.State, Matrix.accepts, Matrix.same_state}
use Rattle.batch_model.specs.{Plant.held_in, Rest.Rest, Rest.ready, Rest.asking, Rest.open_act, Rest.live, Rest.freeing, Rest.acts, Moves.is_empty}
use Rattle.batch_chart.specs.{declared.sign.TheConstants.HOLDS, declared.sign.TheConstants.LIVES, declared.sign.TheConstants.WAITS, Noting.but, Noting.gives, Noting.flag, Noting.state_sign, Noting.ready_signs, Noting.asking_signs, Noting.freeing_signs, Noting.live_signs, Noting.open_signs, Noting.signs_of, Noting.states_accepting}
use Rattle.batch_signs.{specs.Signs.shows, proofs.WantedSigns.shows-or, proofs.WantedSigns.nothing-shown}

shows-flag : (m s : ℕ) (b : Bool) → shows m (flag b s) ≡ (b && shows m s)
shows-flag m s true = refl
shows-flag m s false = nothing-shown m

pub ready-shows : (m needs k : ℕ) → shows m (ready_signs needs k)
    ≡ (((shows m 64 || (nat_lt k needs && shows m 1)) || (nat_le needs k && shows m 2)) || ((nat_lt 0 k && nat_lt 0 needs) && shows m 32))
ready-shows m needs k = simp (shows-or, shows-flag)

pub asking-shows : (m needs k : ℕ) → shows m (asking_signs needs k) ≡ ((shows m 64 || (nat_lt k needs && shows m 4)) || ((nat_lt 0 k && nat_lt 0 needs) && shows m 32))
asking-shows m needs k = simp (shows-or, shows-flag)

pub open-shows : (m needs : ℕ) (over : Bool) → shows m (open_signs needs over) ≡ ((shows m 64 || (over && shows m 8)) || (nat_lt 0 needs && shows m 32))
open-shows m needs over = simp (shows-or, shows-flag)

pub live-shows : (m needs : ℕ) (x : State) → shows m (live_signs needs x) ≡ ((shows m 64 || shows m (state_sign x)) || (nat_lt 0 needs && shows m 32))
live-shows m needs x = simp (shows-or, shows-flag)

pub freeing-shows : (m needs k : ℕ) → shows m (freeing_signs needs k) ≡ ((shows m 64 || (gives needs k && shows m 16)) || ((nat_lt 0 k && nat_lt 0 needs) && shows m 32))
freeing-shows m needs k = simp (shows-or, shows-flag)

-- Tests of acts by number

-- those that show one of the signs
abbrev pub showing : ℕ → ℕ → Rest → Bool
showing m n r = shows m (signs_of r)

-- live phases in one of these states
abbrev pub of_states : (State → Bool) → ℕ → Rest → Bool
of_states q n (live s p x) = q x
of_states q n _ = false

abbrev pub any_live : ℕ → Rest → Bool
any_live = of_states (λ x. true)

abbrev pub live_as : State → ℕ → Rest → Bool
live_as y = of_states (λ x. same_state x y)

abbrev pub live_but : State → ℕ → Rest → Bool
live_but y = of_states (λ x. not (same_state x y))

-- those in line, from a number on

abbrev pub waits : Rest → Bool
waits (asking s w k) = nat_lt k (length s.needs)
waits _ = false

abbrev pub waits_from : ℕ → ℕ → Rest → Bool
waits_from from n r = nat_le from n && waits r

-- those that can give back a need while the batch stops
abbrev pub gives_back : ℕ → Rest → Bool
gives_back n (ready s w k) = gives (length s.needs) k
gives_back n (open_act s r) = nat_lt 0 (length s.needs) && is_empty (held_in r)
gives_back n (freeing s k) = gives (length s.needs) k
gives_back n _ = false

-- the signs tell the test
abbrev pub Says : (ℕ → Rest → Bool) → ℕ → Type 0
Says p m = (n : ℕ) (r : Rest) → p n r ≡ shows m (signs_of r)

pub said-showing : (m : ℕ) → Says (showing m) m
said-showing m n r = refl

-- Signs of states

record IsHigh (m : ℕ) : Type 0 where
  pub act : shows m 64 ≡ false
  pub lacks : shows m 1 ≡ false
  pub fits : shows m 2 ≡ false
  pub waits : shows m 4 ≡ false
  pub over : shows m 8 ≡ false
  pub frees : shows m 16 ≡ false
  pub holds : shows m 32 ≡ false

high-accepting : (c : Command) → IsHigh (states_accepting c)
high-accepting c = record { act = grind arith; lacks = grind arith; fits = grind arith; waits = grind arith; over = grind arith; frees = grind arith; holds = grind arith }

high-in : (x : State) → IsHigh (state_sign x)
high-in x = record { act = grind arith; lacks = grind arith; fits = grind arith; waits = grind arith; over = grind arith; frees = grind arith; holds = grind arith }

high-but : (x : State) → IsHigh (but x)
high-but x = record { act = grind arith; lacks = grind arith; fits = grind arith; waits = grind arith; over = grind arith; frees = grind arith; holds = grind arith }

high-lives : IsHigh LIVES
high-lives = record { act = refl; lacks = refl; fits = refl; waits = refl; over = refl; frees = refl; holds = refl }

accepts-shown : (x : State) (c : Command) → accepts x c ≡ shows (states_accepting c) (state_sign x)
accepts-shown x c = grind arith

lives-shown : (x : State) → true ≡ shows LIVES (state_sign x)
lives-shown x = grind arith

in-shown : (y x : State) → same_state x y ≡ shows (state_sign y) (state_sign x)
in-shown y x = grind arith

but-shown : (y x : State) → not (same_state x y) ≡ shows (but y) (state_sign x)
but-shown y x = grind arith

open-high : (m : ℕ) → IsHigh m → (needs : ℕ) (over : Bool) → shows m (open_signs needs over) ≡ false
open-high m h needs over = open-shows m needs over ∙ grind (arith, h.act, h.over, h.holds)

-- live phases in some states are those that show one of the states' signs
said-states : (q : State → Bool) (m : ℕ) → IsHigh m → ((x : State) → q x ≡ shows m (state_sign x)) → Says (of_states q) m
said-states q m h e n (ready s w k) = sym (ready-shows m (length s.needs) k ∙ grind (arith, h.act, h.lacks, h.fits, h.holds))
said-states q m h e n (asking s w k) = sym (asking-shows m (length s.needs) k ∙ grind (arith, h.act, h.waits, h.holds))
said-states q m h e n (open_act s r) = sym (open-high m h (length s.needs) (is_empty (acts r)))
said-states q m h e n (live s p x) = e x ∙ sym (live-shows m (length s.needs) x ∙ grind (arith, h.act, h.holds))
said-states q m h e n (freeing s k) = sym (freeing-shows m (length s.needs) k ∙ grind (arith, h.act, h.frees, h.holds))
said-states q m h e n r = sym (nothing-shown m)

pub said-live : Says any_live LIVES
said-live = said-states (λ x. true) LIVES high-lives lives-shown

pub said-accepting : (c : Command) → Says (of_states (λ x. accepts x c)) (states_accepting c)
said-accepting c = said-states (λ x. accepts x c) (states_accepting c) (high-accepting c) (λ x. accepts-shown x c)

pub said-in : (y : State) → Says (live_as y) (state_sign y)
said-in y = said-states (λ x. same_state x y) (state_sign y) (high-in y) (in-shown y)

pub said-but : (y : State) → Says (live_but y) (but y)
said-but y = said-states (λ x. not (same_state x y)) (but y) (high-but y) (but-shown y)

-- no state has one of the other signs

pub low-1 : (x : State) → shows 1 (state_sign x) ≡ false
low-1 x = grind arith

low-4 : (x : State) → shows 4 (state_sign x) ≡ false
low-4 x = grind arith

pub low-8 : (x : State) → shows 8 (state_sign x) ≡ false
low-8 x = grind arith

pub low-10 : (x : State) → shows 10 (state_sign x) ≡ false
low-10 x = grind arith

low-16 : (x : State) → shows 16 (state_sign x) ≡ false
low-16 x = grind arith

low-32 : (x : State) → shows 32 (state_sign x) ≡ false
low-32 x = grind arith

pub open-lacks : (needs : ℕ) (over : Bool) → shows 1 (open_signs needs over) ≡ false
open-lacks needs over = open-shows 1 needs over ∙ grind arith

pub open-frees : (needs : ℕ) (over : Bool) → shows 16 (open_signs needs over) ≡ false
open-frees needs over = open-shows 16 needs over ∙ grind arith

pub live-frees : (needs : ℕ) (x : State) → shows 16 (live_signs needs x) ≡ false
live-frees needs x = live-shows 16 needs x ∙ grind (arith, low-16 x)

pub freeing-frees : (needs k : ℕ) → shows 16 (freeing_signs needs k) ≡ gives needs k
freeing-frees needs k = freeing-shows 16 needs k ∙ first (gives needs k) (nat_lt 0 k && nat_lt 0 needs)
  where
    first : (x y : Bool) → ((false || (x && true)) || (y && false)) ≡ x
    first x y = grind arith

-- who holds something

pub ready-holds : (needs k : ℕ) → shows HOLDS (ready_signs needs k) ≡ (nat_lt 0 k && nat_lt 0 needs)
ready-holds needs k = ready-shows 32 needs k ∙ grind arith

pub asking-holds : (needs k : ℕ) → shows HOLDS (asking_signs needs k) ≡ (nat_lt 0 k && nat_lt 0 needs)
asking-holds needs k = asking-shows 32 needs k ∙ grind arith

pub open-holds : (needs : ℕ) (over : Bool) → shows HOLDS (open_signs needs over) ≡ nat_lt 0 needs
open-holds needs over = open-shows 32 needs over ∙ grind arith

pub live-holds : (needs : ℕ) (x : State) → shows HOLDS (live_signs needs x) ≡ nat_lt 0 needs
live-holds needs x = live-shows 32 needs x ∙ grind (arith, low-32 x)

pub freeing-holds : (needs k : ℕ) → shows HOLDS (freeing_signs needs k) ≡ (nat_lt 0 k && nat_lt 0 needs)
freeing-holds needs k = freeing-shows 32 needs k ∙ grind arith

-- the acts in line

waits-shown : (r : Rest) → shows WAITS (signs_of r) ≡ waits r
waits-shown (ready s w k) = ready-shows 4 (length s.needs) k ∙ grind arith
waits-shown (asking s w k) = asking-shows 4 (length s.needs) k ∙ grind arith
waits-shown (open_act s r) = open-shows 4 (length s.needs) (is_empty (acts r)) ∙ grind arith
waits-shown (live s p x) = live-shows 4 (length s.needs) x ∙ grind (arith, low-4 x)
waits-shown (freeing s k) = freeing-shows 4 (length s.needs) k ∙ grind arith
waits-shown r = refl

pub said-waiting : (from n : ℕ) (r : Rest) → waits_from from n r ≡ (nat_le from n && shows WAITS (signs_of r))
said-waiting from n r = ap (λ z. nat_le from n && z) (sym (waits-shown r))

from-first : (n : ℕ) (b : Bool) → b ≡ (nat_le 0 n && b)
from-first n b = grind (arith, nat_tests)

pub says-all : (p : ℕ → Rest → Bool) (m : ℕ) → Says p m → (n : ℕ) (r : Rest) → p n r ≡ (nat_le 0 n && shows m (signs_of r))
says-all p m h n r = h n r ∙ from-first n (shows m (signs_of r))
