-- The gravest state of live phases is the first, in their order, that one of them has.
use Rattle.std.proofs.Common.{◌≡◌, ◌⊎◌, inl, inr, ◌<◌, ◌≤◌, ℕ, List, [], ◌∷◌, Bool, true, false, Some, None, nat_lt, arith, refl, sym, ◌∙◌, subst, ap}
use Rattle.std.{specs.Prelude.Option, specs.Prelude.find, specs.Prelude.◌||◌, specs.List.list_any, proofs.Math.Bool.cond}
use denote.Enum.Bare.{same_true, true_same}
use Rattle.batch_matrix.specs.{declared.state.State.State, declared.state.State.TheVariants.Running, declared.state.State.TheVariants.Pausing, declared.state.State.TheVariants.Paused, declared.state.State.TheVariants.Holding, declared.state.State.TheVariants.Held, declared.state.State.TheVariants.Restarting, declared.state.State.TheVariants.Stopping, declared.state.State.TheVariants.Aborting, contracts.state.State.the_type, Matrix.same_state}
use Rattle.batch_model.specs.{ActStates.gravity, ActStates.gravest, Lists.Has}
use Rattle.batch_chart.{specs.Showing.is_among, proofs.MoveKinds.less, proofs.MoveKinds.not-less}

pub same-is : (y x : State) → same_state y x ≡ true → y ≡ x
same-is y x e = same_true the_type tt y x e

among-has : (l : List State) (x : State) → is_among l x ≡ true → Has l x
among-has [] x e = absurd (cc)
among-has (y ∷ l) x e = go (same_state y x) refl (among-has l x) e
  where
    go : (b : Bool) → same_state y x ≡ b → (is_among l x ≡ true → Has l x) → (b || list_any (λ z. same_state z x) l) ≡ true → Has (y ∷ l) x
    go true f rec g = inl (same-is y x f)
    go false f rec g = inr (rec g)

has-among : (l : List State) (x : State) → Has l x → is_among l x ≡ true
has-among [] x h = absurd h
has-among (y ∷ l) x (inl e) = ap (λ b. b || list_any (λ z. same_state z x) l) (true_same the_type y x e)
has-among (y ∷ l) x (inr h) = go (same_state y x) (has-among l x h)
  where
    go : (b : Bool) → list_any (λ z. same_state z x) l ≡ true → (b || list_any (λ z. same_state z x) l) ≡ true
    go true e = refl
    go false e = e

gravity-most : (x : State) → gravity x ≤ 9
gravity-most x1 = grind arith

-- the first of two numbers is less, or it isn't
two : (m n : ℕ) → ((nat_lt m n ≡ true) × (m < n)) ⊎ ((nat_lt m n ≡ false) × (n ≤ m))
two m n = go (nat_lt m n) refl
  where
    go : (b : Bool) → nat_lt m n ≡ b → ((nat_lt m n ≡ true) × (m < n)) ⊎ ((nat_lt m n ≡ false) × (n ≤ m))
    go true e = inl (e, less m n e)
    go false e = inr (e, not-less m n e)

graver : (x y : State) (ys : List State) → nat_lt (gravity y) (gravity x) ≡ true → gravest x (y ∷ ys) ≡ gravest y ys
graver x y ys e = ap (λ b. elim b as (λ _. State) [ true ↦ gravest y ys | false ↦ gravest x ys ]) e

milder : (x y : State) (ys : List State) → nat_lt (gravity y) (gravity x) ≡ false → gravest x (y ∷ ys) ≡ gravest x ys
milder x y ys e = ap (λ b. elim b as (λ _. State) [ true ↦ gravest y ys | false ↦ gravest x ys ]) e

gravest-among : (x : State) (ys : List State) → Has (x ∷ ys) (gravest x ys)
gravest-among x [] = inl refl
gravest-among x (y ∷ ys) = elim (two (gravity y) (gravity x)) [
  | inl q ↦ subst (Has (x ∷ y ∷ ys)) (sym (graver x y ys q.0)) (inr (gravest-among y ys))
  | inr q ↦ subst (Has (x ∷ y ∷ ys)) (sym (milder x y ys q.0)) (go (gravest-among x ys))
]
  where
    go : Has (x ∷ ys) (gravest x ys) → Has (x ∷ y ∷ ys) (gravest x ys)
    go (inl e) = inl e
    go (inr h) = inr (inr h)

gravest-least : (x : State) (ys : List State) (z : State) → Has (x ∷ ys) z → gravity (gravest x ys) ≤ gravity z
gravest-least x [] z (inl e) = (let f : gravity x ≡ gravity z = ap gravity e in omega (arith, f))
gravest-least x [] z (inr h) = absurd h
gravest-least x (y ∷ ys) z h = elim (two (gravity y) (gravity x)) [
  | inl q ↦ (let f : gravity (gravest x (y ∷ ys)) ≡ gravity (gravest y ys) = ap gravity (graver x y ys q.0) in under h q.1 f (gravest-least y ys))
  | inr q ↦ (let f : gravity (gravest x (y ∷ ys)) ≡ gravity (gravest x ys) = ap gravity (milder x y ys q.0) in over h q.1 f (gravest-least x ys))
]
  where
    under : Has (x ∷ y ∷ ys) z → gravity y < gravity x → gravity (gravest x (y ∷ ys)) ≡ gravity (gravest y ys) → ((u : State) → Has (y ∷ ys) u → gravity (gravest y ys) ≤ gravity u) → gravity (gravest x (y ∷ ys)) ≤ gravity z
    under (inl e) lt f rec = (let g : gravity x ≡ gravity z = ap gravity e in omega (arith, lt, f, g, rec y (inl refl)))
    under (inr i) lt f rec = omega (arith, f, rec z i)

    over : Has (x ∷ y ∷ ys) z → gravity x ≤ gravity y → gravity (gravest x (y ∷ ys)) ≡ gravity (gravest x ys) → ((u : State) → Has (x ∷ ys) u → gravity (gravest x ys) ≤ gravity u) → gravity (gravest x (y ∷ ys)) ≤ gravity z
    over (inl e) le f rec = (let g : gravity x ≡ gravity z = ap gravity e in omega (arith, f, g, rec x (inl refl)))
    over (inr (inl e)) le f rec = (let g : gravity y ≡ gravity z = ap gravity e in omega (arith, le, f, g, rec x (inl refl)))
    over (inr (inr i)) le f rec = omega (arith, f, rec z (inr i))

-- where none is grave, the first is taken
gravest-first : (x : State) (ys : List State) → gravity (gravest x ys) ≡ 9 → gravest x ys ≡ x
gravest-first x [] e = refl
gravest-first x (y ∷ ys) e = elim (two (gravity y) (gravity x)) [
  | inl q ↦ absurd (omega (arith, q.1, e, gravity-most x, gravest-least x (y ∷ ys) y (inr (inl refl))))
  | inr q ↦ milder x y ys q.0 ∙ gravest-first x ys (sym (ap gravity (milder x y ys q.0)) ∙ e)
]

abbrev from_running : List State
from_running = Running ∷ []

abbrev from_paused : List State
from_paused = Paused ∷ from_running

abbrev from_held : List State
from_held = Held ∷ from_paused

abbrev from_pausing : List State
from_pausing = Pausing ∷ from_held

abbrev from_restarting : List State
from_restarting = Restarting ∷ from_pausing

abbrev from_holding : List State
from_holding = Holding ∷ from_restarting

abbrev from_stopping : List State
from_stopping = Stopping ∷ from_holding

abbrev pub gravest_states : List State
gravest_states = Aborting ∷ from_stopping

module _ (x : State) (ys : List State) where
  abbrev among : State → Bool
  among = is_among (x ∷ ys)

  -- no phase has a graver state than the gravest
  none-graver : (z : State) → gravity z < gravity (gravest x ys) → among z ≡ false
  none-graver z lt = go (among z) refl
    where
      go : (b : Bool) → among z ≡ b → b ≡ false
      go true e = absurd (omega (arith, lt, gravest-least x ys z (among-has (x ∷ ys) z e)))
      go false e = refl

  pass : (z : State) (l : List State) (o : Option State) → among z ≡ false → find among l ≡ o → find among (z ∷ l) ≡ o
  pass z l o e f = ap (λ b. cond b (Some z) (find among l)) e ∙ f

  take-it : (z : State) (l : List State) → among z ≡ true → find among (z ∷ l) ≡ Some z
  take-it z l e = ap (λ b. cond b (Some z) (find among l)) e

  abbrev later : State → Type 0
  later w = (z : State) → gravity z < gravity w → among z ≡ false

  found-grave : (w : State) → among w ≡ true → later w → gravity w < 9 → find among gravest_states ≡ Some w
  found-grave Aborting e n lt = take-it Aborting from_stopping e
  found-grave Stopping e n lt = pass Aborting from_stopping (Some Stopping) (n Aborting (omega arith)) (take-it Stopping from_holding e)
  found-grave Holding e n lt = pass Aborting from_stopping (Some Holding) (n Aborting (omega arith)) (pass Stopping from_holding (Some Holding) (n Stopping (omega arith)) (take-it Holding from_restarting e))
  found-grave Restarting e n lt = pass Aborting from_stopping (Some Restarting) (n Aborting (omega arith)) (pass Stopping from_holding (Some Restarting) (n Stopping (omega arith)) (pass Holding from_restarting (Some Restarting) (n Holding (omega arith)) (take-it Restarting from_pausing e)))
  found-grave Pausing e n lt = pass Aborting from_stopping (Some Pausing) (n Aborting (omega arith)) (pass Stopping from_holding (Some Pausing) (n Stopping (omega arith)) (pass Holding from_restarting (Some Pausing) (n Holding (omega arith)) (pass Restarting from_pausing (Some Pausing) (n Restarting (omega arith)) (take-it Pausing from_held e))))
  found-grave Held e n lt = pass Aborting from_stopping (Some Held) (n Aborting (omega arith)) (pass Stopping from_holding (Some Held) (n Stopping (omega arith)) (pass Holding from_restarting (Some Held) (n Holding (omega arith)) (pass Restarting from_pausing (Some Held) (n Restarting (omega arith)) (pass Pausing from_held (Some Held) (n Pausing (omega arith)) (take-it Held from_paused e)))))
  found-grave Paused e n lt = pass Aborting from_stopping (Some Paused) (n Aborting (omega arith)) (pass Stopping from_holding (Some Paused) (n Stopping (omega arith)) (pass Holding from_restarting (Some Paused) (n Holding (omega arith)) (pass Restarting from_pausing (Some Paused) (n Restarting (omega arith)) (pass Pausing from_held (Some Paused) (n Pausing (omega arith)) (pass Held from_paused (Some Paused) (n Held (omega arith)) (take-it Paused from_running e))))))
  found-grave Running e n lt = pass Aborting from_stopping (Some Running) (n Aborting (omega arith)) (pass Stopping from_holding (Some Running) (n Stopping (omega arith)) (pass Holding from_restarting (Some Running) (n Holding (omega arith)) (pass Restarting from_pausing (Some Running) (n Restarting (omega arith)) (pass Pausing from_held (Some Running) (n Pausing (omega arith)) (pass Held from_paused (Some Running) (n Held (omega arith)) (pass Paused from_running (Some Running) (n Paused (omega arith)) (take-it Running [] e)))))))
  found-grave x e n lt = absurd (omega (arith, lt))

  found-none : ((z : State) → gravity z < 9 → among z ≡ false) → find among gravest_states ≡ None
  found-none n = pass Aborting from_stopping None (n Aborting (omega arith)) (pass Stopping from_holding None (n Stopping (omega arith)) (pass Holding from_restarting None (n Holding (omega arith)) (pass Restarting from_pausing None (n Restarting (omega arith)) (pass Pausing from_held None (n Pausing (omega arith)) (pass Held from_paused None (n Held (omega arith)) (pass Paused from_running None (n Paused (omega arith)) (pass Running [] None (n Running (omega arith)) refl)))))))

  -- the first of the grave states that a phase has, else that of the first phase
  pub gravest-is : gravest x ys ≡ elim (find among gravest_states) as (λ _. State) [ Some w ↦ w | None ↦ x ]
  gravest-is = elim (two (gravity (gravest x ys)) 9) [
    | inl q ↦ sym (ap (λ o. elim o as (λ _. State) [ Some w ↦ w | None ↦ x ]) (found-grave (gravest x ys) (has-among (x ∷ ys) (gravest x ys) (gravest-among x ys)) none-graver q.1))
    | inr q ↦
        (let nine : gravity (gravest x ys) ≡ 9 = omega (arith, q.1, gravity-most (gravest x ys)) in
        gravest-first x ys nine
        ∙ sym (ap (λ o. elim o as (λ _. State) [ Some w ↦ w | None ↦ x ]) (found-none (λ z lt. none-graver z (omega (arith, lt, nine))))))
  ]
