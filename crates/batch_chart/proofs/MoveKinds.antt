-- Which kind of move each act makes, and which move it is.
use Rattle.std.proofs.Common.{◌≡◌, ◌<◌, ◌≤◌, ℕ, zero, suc, pred, ◌-◌, List, [], ◌∷◌, length, Bool, true, false, ◌&&◌, Some, None, nat_eq, nat_lt, arith, refl, sym, ◌∙◌, ap, ap₂}
use Rattle.std.{specs.Prelude.slice_get, specs.Prelude.slice_index_or, specs.Prelude.Option, specs.Prelude.option_map, specs.Prelude.option_and_then, specs.Prelude.◌||◌, specs.Prelude.◌++◌, proofs.lemmas.Bool.Decides.nat_tests}
use Rattle.batch_matrix.specs.{declared.state.State.State, declared.command.Command.Command, Matrix.accepts}
use Rattle.batch_recipe.specs.{Conditions.Name, Tree.Place, Tree.Step, Tree.Phase, Tree.Task, Tree.runs, Tree.follows, Tree.Tree, declared.need.Need.Need}
use Rattle.batch_model.specs.{Plant.Batch, Plant.held_in, Rest.Rest, Rest.ready, Rest.open_act, Rest.live, Rest.freeing, Rest.in_seq, Rest.in_par, Rest.in_loop, Rest.Rests, Rest.no_rests, Rest.rest, Rest.acts, Rest.acts_of_each, Rest.is_done, Rest.all_done, Settled.IsAdvanced, Settled.AreAdvanced, Moves.Move, Moves.send, Moves.begin, Moves.start, Moves.end, Moves.ask, Moves.release, Moves.pass, Moves.kind_of, Moves.handed_values, Moves.command_passed_on, Moves.is_running, Moves.is_stopping, Moves.is_stopped, Moves.is_empty, Moves.is_quiet, Moves.when, Moves.beginning, Moves.entering, Moves.last_held, Moves.giving_back, Moves.reserved_place, Moves.handing_over}
use Rattle.batch_chart.{specs.NodesOf.no_need, specs.Noting.gives, specs.OwnMoves.own_move, specs.OwnMoves.is_kind, proofs.NodesAtNumbers.get-or}

abbrev pub kind_in : ℕ → Option Move → Bool
kind_in n None = false
kind_in n (Some m) = is_kind n m

abbrev pub live_kind : ℕ → Option Command → State → Bool
live_kind n None x = false
live_kind n (Some c) x = accepts x c && nat_eq 1 n

pub and-true : (x : Bool) → (x && true) ≡ x
and-true true = refl
and-true false = refl

empty-append : (l m : List Rest) → is_empty (l ++ m) ≡ (is_empty l && is_empty m)
empty-append [] m = refl
empty-append (x ∷ l) m = refl

-- an advanced rest has no act just where it is done
mutual
  pub empty-done : (r : Rest) → IsAdvanced r → is_done r ≡ is_empty (acts r)
  empty-done (in_seq r cs) h = sym h.0 ∙ empty-done r h.1
  empty-done (in_par rs) h = sym h.0 ∙ empty-all rs h.1
  empty-done (in_loop n c body r) h = sym h.0 ∙ empty-done r h.1
  empty-done x h = refl

  empty-all : (rs : Rests) → AreAdvanced rs → all_done rs ≡ is_empty (acts_of_each rs)
  empty-all no_rests h = refl
  empty-all (rest r rs) h = ap₂ (λ a b. a && b) (empty-done r h.0) (empty-all rs h.1) ∙ sym (empty-append (acts r) (acts_of_each rs))

-- Needs by number

pub less : (k n : ℕ) → nat_lt k n ≡ true → k < n
less k n e = grind (arith, nat_tests)

pub not-less : (k n : ℕ) → nat_lt k n ≡ false → n ≤ k
not-less k n e = grind (arith, nat_tests)

gives-less : (n k : ℕ) → gives n (suc k) ≡ true → k < n
gives-less n k e = grind (arith, nat_tests)

gives-not : (n k : ℕ) → gives n (suc k) ≡ false → n ≤ k
gives-not n k e = grind (arith, nat_tests)

get-none : {X : Type 0} (l : List X) (k : ℕ) → length l ≤ k → slice_get l k ≡ None
get-none [] k h = refl
get-none (x ∷ l) zero h = absurd (omega arith)
get-none (x ∷ l) (suc k) h = get-none l k (omega arith)

module _ (b : Batch) where
  abbrev entered : Step → Task → Option Need → Option Move
  entered s w o = elim o as (λ _. Option Move) [ Some need ↦ Some (ask b.number s.place need) | None ↦ Some (beginning b s w) ]

  pub entering-ask : (s : Step) (w : Task) (k : ℕ) → nat_lt k (length s.needs) ≡ true → entering b s w k ≡ Some (ask b.number s.place (slice_index_or s.needs k no_need))
  entering-ask s w k e = ap (entered s w) (get-or s.needs k no_need (less k (length s.needs) e))

  entering-begins : (s : Step) (w : Task) (k : ℕ) → nat_lt k (length s.needs) ≡ false → entering b s w k ≡ Some (beginning b s w)
  entering-begins s w k e = ap (entered s w) (get-none s.needs k (not-less k (length s.needs) e))

  pub entering-start : (s : Step) (p : Phase) (k : ℕ) → nat_lt k (length s.needs) ≡ false → entering b s (runs p) k ≡ Some (start b.number s.place p (handed_values b.values p.handed))
  entering-start s p k e = entering-begins s (runs p) k e

  pub entering-begin : (s : Step) (name : Name) (c : Tree) (k : ℕ) → nat_lt k (length s.needs) ≡ false → entering b s (follows name c) k ≡ Some (begin b.number s.place name)
  entering-begin s name c k e = entering-begins s (follows name c) k e

  pub giving-some : (s : Step) (k : ℕ) → gives (length s.needs) k ≡ true → giving_back b s k ≡ Some (release b.number s.place (slice_index_or s.needs (k - 1) no_need))
  giving-some s zero e = absurd (cc)
  giving-some s (suc k) e =
      ap (option_map (release b.number s.place)) (get-or s.needs k no_need (gives-less (length s.needs) k e))
      ∙ ap (λ i. Some (release b.number s.place (slice_index_or s.needs i no_need))) (let d : k ≡ suc k - 1 = omega arith in d)

  pub giving-none : (s : Step) (k : ℕ) → gives (length s.needs) k ≡ false → giving_back b s k ≡ None
  giving-none s zero e = refl
  giving-none s (suc k) e = ap (option_map (release b.number s.place)) (get-none s.needs k (gives-not (length s.needs) k e))

  pub passing-some : (to : Place) (s : Step) (k : ℕ) → gives (length s.needs) k ≡ true → option_map (pass b.number s.place to) (last_held s k) ≡ Some (pass b.number s.place to (slice_index_or s.needs (k - 1) no_need))
  passing-some to s zero e = absurd (cc)
  passing-some to s (suc k) e =
      ap (option_map (pass b.number s.place to)) (get-or s.needs k no_need (gives-less (length s.needs) k e))
      ∙ ap (λ i. Some (pass b.number s.place to (slice_index_or s.needs i no_need))) (let d : k ≡ suc k - 1 = omega arith in d)

  passing-none : (to : Place) (s : Step) (k : ℕ) → gives (length s.needs) k ≡ false → option_map (pass b.number s.place to) (last_held s k) ≡ None
  passing-none to s zero e = refl
  passing-none to s (suc k) e = ap (option_map (pass b.number s.place to)) (get-none s.needs k (gives-not (length s.needs) k e))

  entering-kind : (n : ℕ) (s : Step) (w : Task) (k : ℕ) → kind_in n (entering b s w k) ≡ elim (nat_lt k (length s.needs)) as (λ _. Bool) [ true ↦ nat_eq 5 n | false ↦ nat_eq 4 n ]
  entering-kind n s w k = go w (nat_lt k (length s.needs)) refl
    where
      go : (w : Task) (t : Bool) → nat_lt k (length s.needs) ≡ t → kind_in n (entering b s w k) ≡ elim t as (λ _. Bool) [ true ↦ nat_eq 5 n | false ↦ nat_eq 4 n ]
      go w true e = ap (kind_in n) (entering-ask s w k e)
      go (runs p) false e = ap (kind_in n) (entering-start s p k e)
      go (follows name c) false e = ap (kind_in n) (entering-begin s name c k e)

  giving-kind : (n : ℕ) (s : Step) (k : ℕ) → kind_in n (giving_back b s k) ≡ (gives (length s.needs) k && nat_eq 3 n)
  giving-kind n s k = go (gives (length s.needs) k) refl
    where
      go : (t : Bool) → gives (length s.needs) k ≡ t → kind_in n (giving_back b s k) ≡ (t && nat_eq 3 n)
      go true e = ap (kind_in n) (giving-some s k e)
      go false e = ap (kind_in n) (giving-none s k e)

  when-kind : (n : ℕ) (t : Bool) (m : Move) → kind_in n (when t m) ≡ (t && nat_eq (kind_of m) n)
  when-kind n true m = refl
  when-kind n false m = refl

  if-kind : (n : ℕ) (t : Bool) (o : Option Move) → kind_in n (elim t as (λ _. Option Move) [ true ↦ o | false ↦ None ]) ≡ (t && kind_in n o)
  if-kind n true o = refl
  if-kind n false o = refl

  pub ready-kind : (n : ℕ) (s : Step) (w : Task) (k : ℕ) → kind_in n (own_move b (ready s w k))
      ≡ elim (is_running b.state) as (λ _. Bool) [
        | true ↦ elim (nat_lt k (length s.needs)) as (λ _. Bool) [ true ↦ nat_eq 5 n | false ↦ nat_eq 4 n ]
        | false ↦ (is_stopping b.state && is_quiet b.rest) && (gives (length s.needs) k && nat_eq 3 n)
      ]
  ready-kind n s w k = go (is_running b.state)
    where
      go : (t : Bool) → kind_in n (elim t as (λ _. Option Move) [ true ↦ entering b s w k | false ↦ elim (is_stopping b.state && is_quiet b.rest) as (λ _. Option Move) [ true ↦ giving_back b s k | false ↦ None ] ])
          ≡ elim t as (λ _. Bool) [
            | true ↦ elim (nat_lt k (length s.needs)) as (λ _. Bool) [ true ↦ nat_eq 5 n | false ↦ nat_eq 4 n ]
            | false ↦ (is_stopping b.state && is_quiet b.rest) && (gives (length s.needs) k && nat_eq 3 n)
          ]
      go true = entering-kind n s w k
      go false = if-kind n (is_stopping b.state && is_quiet b.rest) (giving_back b s k) ∙ ap (λ z. (is_stopping b.state && is_quiet b.rest) && z) (giving-kind n s k)

  pub open-kind : (n : ℕ) (s : Step) (r : Rest) → kind_in n (own_move b (open_act s r))
      ≡ elim (is_stopping b.state || is_stopped b.state) as (λ _. Bool) [
        | false ↦ is_done r && nat_eq 4 n
        | true ↦ (is_stopping b.state && is_quiet b.rest && is_empty (held_in r)) && (gives (length s.needs) (length s.needs) && nat_eq 3 n)
      ]
  open-kind n s r = go (is_stopping b.state || is_stopped b.state)
    where
      go : (t : Bool) → kind_in n (elim t as (λ _. Option Move) [
        | false ↦ when (is_done r) (end b.number s.place)
        | true ↦ elim (is_stopping b.state && is_quiet b.rest && is_empty (held_in r)) as (λ _. Option Move) [ true ↦ giving_back b s (length s.needs) | false ↦ None ]
      ])
          ≡ elim t as (λ _. Bool) [
            | false ↦ is_done r && nat_eq 4 n
            | true ↦ (is_stopping b.state && is_quiet b.rest && is_empty (held_in r)) && (gives (length s.needs) (length s.needs) && nat_eq 3 n)
          ]
      go false = when-kind n (is_done r) (end b.number s.place)
      go true =
          if-kind n (is_stopping b.state && is_quiet b.rest && is_empty (held_in r)) (giving_back b s (length s.needs))
          ∙ ap (λ z. (is_stopping b.state && is_quiet b.rest && is_empty (held_in r)) && z) (giving-kind n s (length s.needs))

  pub live-kind : (n : ℕ) (s : Step) (p : Phase) (x : State) → kind_in n (own_move b (live s p x)) ≡ live_kind n (command_passed_on b.state) x
  live-kind n s p x = go (command_passed_on b.state)
    where
      go : (o : Option Command) → kind_in n (option_and_then (λ command. when (accepts x command) (send b.number s.place p command)) o) ≡ live_kind n o x
      go None = refl
      go (Some c) = when-kind n (accepts x c) (send b.number s.place p c)

  handed-kind : (n : ℕ) (s : Step) (k : ℕ) (o : Option Place)
      → kind_in n (elim o as (λ _. Option Move) [ None ↦ giving_back b s k | Some to ↦ option_map (pass b.number s.place to) (last_held s k) ]) ≡ (gives (length s.needs) k && nat_eq 3 n)
  handed-kind n s k None = giving-kind n s k
  handed-kind n s k (Some to) = go (gives (length s.needs) k) refl
    where
      go : (t : Bool) → gives (length s.needs) k ≡ t → kind_in n (option_map (pass b.number s.place to) (last_held s k)) ≡ (t && nat_eq 3 n)
      go true e = ap (kind_in n) (passing-some to s k e)
      go false e = ap (kind_in n) (passing-none to s k e)

  pub freeing-kind : (n : ℕ) (s : Step) (k : ℕ) → kind_in n (own_move b (freeing s k)) ≡ (gives (length s.needs) k && nat_eq 3 n)
  freeing-kind n s k = go (is_stopping b.state || is_stopped b.state)
    where
      go : (t : Bool) → kind_in n (elim t as (λ _. Option Move) [ true ↦ giving_back b s k | false ↦ handing_over b s k ]) ≡ (gives (length s.needs) k && nat_eq 3 n)
      go true = giving-kind n s k
      go false = handed-kind n s k (reserved_place b.recipe.procedure s (pred k))
