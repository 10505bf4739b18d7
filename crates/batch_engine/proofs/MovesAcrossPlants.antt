-- Moves of a batch in two plants that serve the same acts of it.
use Rattle.std.proofs.Common.{◌≡◌, ⊎_elim, refl, sym, ◌∙◌, ap, subst, subst₂, ℕ, ◌+◌, List, [], ◌∷◌, ◌++◌, Bool, true, false, ◌&&◌, filter_map, Option, Some, None, inl, inr, slice_get}
use Rattle.std.{specs.Prelude.nat_le, specs.Prelude.option_to_list, specs.Prelude.⊤, specs.Cmp.Derive.both_true, proofs.lemmas.Bool.and_parts}
use Rattle.batch_recipe.specs.{Conditions.Name, Conditions.same_name, Tree.Place, Tree.Step, Tree.Task, declared.need.Need.Need}
use Rattle.batch_model.specs.{Lists.Has, Rest.Rest, Rest.ready, Rest.asking, Rest.open_act, Rest.live, Rest.freeing, Rest.in_seq, Rest.in_par, Rest.in_loop, Rest.done, Rest.acts, Plant.Setup, Plant.Batch, Plant.BatchAct, Plant.Share, Plant.units_in, Plant.Plant, Plant.is_same_act, Plant.holders, Plant.without, Moves.Move, Moves.send, Moves.state, Moves.release, Moves.pass, Moves.begin, Moves.start, Moves.end, Moves.ask, Moves.grant, Moves.batch_of, Moves.act_move, Moves.state_move, Moves.batch_moves, Moves.is_served, Moves.when, Moves.after_move, Moves.next, Moves.possible, Runs.Out, Runs.move, Records.holders_told, Records.holders_after}
use Rattle.batch_step_laws.proofs.{WorkAfterMove.Has-batch_moves, MoveOrder.none_least, LastLineEffect.holders_told-last, HoldersInAdvance.filter_map-Has, HoldersInAdvance.flat_map-Has}
use Rattle.batch_record_laws.{specs.Telling.IsTold, proofs.Entries.name_same, proofs.Entries.same_act}
use Rattle.batch_engine.specs.Marking.{touched}

pub no-elements : {X : Type 0} (xs : List X) → ((x : X) → Has xs x → ⊥) → xs ≡ []
no-elements [] h = refl
no-elements (x ∷ xs) h = absurd (h x (inl refl))

module _ (c : Setup) (s : Plant) (b : Batch) where
  act-Has : (a : Rest) (m : Move) → Has (acts b.rest) a → act_move c s b a ≡ Some m → Has (batch_moves c s b) m
  act-Has a m j f = go (state_move b) (filter_map-Has (act_move c s b) (acts b.rest) a m j f)
    where
      go : (o : Option Move) → Has (filter_map (act_move c s b) (acts b.rest)) m
          → Has (option_to_list o ++ filter_map (act_move c s b) (acts b.rest)) m
      go None h = h
      go (Some l) h = inr h

  state-Has : (m : Move) → state_move b ≡ Some m → Has (batch_moves c s b) m
  state-Has m e = go (state_move b) e
    where
      go : (o : Option Move) → o ≡ Some m
          → Has (option_to_list o ++ filter_map (act_move c s b) (acts b.rest)) m
      go None f = absurd cc
      go (Some l) f = inl cc

-- an act of the batch that is served in t was served in s
abbrev pub ServesBefore : Setup → Plant → Plant → Batch → Type 0
ServesBefore c s t b =
    (step : Step) (task : Task) (held : ℕ) (need : Need) → Has (acts b.rest) (asking step task held) → slice_get step.needs held ≡ Some need
    → is_served c t need (b.number, step.place) ≡ true → is_served c s need (b.number, step.place) ≡ true

-- a move that an act can make in t it can make in s, if it isn't newly served
act-before : (c : Setup) (s t : Plant) (b : Batch) → ServesBefore c s t b → (a : Rest) → Has (acts b.rest) a → (m : Move) → act_move c t b a ≡ Some m → act_move c s b a ≡ Some m
act-before c s t b h (ready p w k) i m e = e
act-before c s t b h (asking p w k) i m e = go (slice_get p.needs k) refl e
  where
    pick : (x y : Bool) (g : Move) → (x ≡ true → y ≡ true) → when x g ≡ Some m → when y g ≡ Some m
    pick true true g f q = q
    pick true false g f q = absurd (let z : ◌≡◌ {A = Bool} false true = f refl in cc)
    pick false y g f q = absurd cc

    go : (o : Option Need) → slice_get p.needs k ≡ o
        → ◌≡◌ {A = Option Move} (elim o [ None ↦ None | Some r ↦ when (is_served c t r (b.number, p.place)) (grant b.number p.place r) ]) (Some m)
        → ◌≡◌ {A = Option Move} (elim o [ None ↦ None | Some r ↦ when (is_served c s r (b.number, p.place)) (grant b.number p.place r) ]) (Some m)
    go None f q = absurd cc
    go (Some r) f q = pick (is_served c t r (b.number, p.place)) (is_served c s r (b.number, p.place)) (grant b.number p.place r) (h p w k r i f) q
act-before c s t b h (open_act p r) i m e = e
act-before c s t b h (live p x y) i m e = e
act-before c s t b h (freeing p k) i m e = e
act-before c s t b h (in_seq r cs) i m e = e
act-before c s t b h (in_par rs) i m e = e
act-before c s t b h (in_loop n q body r) i m e = e
act-before c s t b h done i m e = e

-- a batch without a move has none if none of its acts is newly served
pub lines-alone : (c : Setup) (s t : Plant) (b : Batch) → ServesBefore c s t b → batch_moves c s b ≡ [] → batch_moves c t b ≡ []
lines-alone c s t b h none =
    no-elements (batch_moves c t b) (λ m i. gone m (⊎_elim
    (λ e. state-Has c s b m e)
    (λ k. act-Has c s b k.0 m k.1 (act-before c s t b h k.0 k.1 m k.2))
    (Has-batch_moves c t b m i)))
  where
    gone : (m : Move) → Has (batch_moves c s b) m → ⊥
    gone m i = subst (λ ms. Has ms m) none i

-- no batch of a settled plant has a move
pub settled-none : (c : Setup) (s : Plant) → next c s ≡ None → (b : Batch) → Has s.batches b → batch_moves c s b ≡ []
settled-none c s e b i = no-elements (batch_moves c s b) (λ m j. subst (λ ms. Has ms m) (none_least (possible c s) e) (flat_map-Has (batch_moves c s) s.batches b m i j))

-- Moves

abbrev pub first_in : List Share → BatchAct → Bool
first_in line a = elim line [ [] ↦ false | x ∷ xs ↦ is_same_act x.act a ]

abbrev pub serves : ℕ → ℕ → ℕ → List Share → BatchAct → Bool
serves held units capacity line a = nat_le (held + units) capacity && first_in line a

-- an act that joins the end of a line is first in no other act's stead
joined : (line : List Share) (x : Share) (a : BatchAct) → (a.0 ≡ x.act.0 → ⊥) → first_in (line ++ x ∷ []) a ≡ true → first_in line a ≡ true
joined [] x a other e = absurd (other (ap (λ (z : BatchAct). z.0) (sym (same_act x.act a e))))
joined (y ∷ line) x a other e = e

-- a pass leaves as much held as there was
abbrev pub IsEven : List Out → Move → Type 0
IsEven outs (pass n p to r) = (q : Name) → units_in (holders_after q (holders_told outs q) (move (pass n p to r))) ≡ units_in (holders_told outs q)
IsEven outs _ = ⊤

module _ (c : Setup) (outs : List Out) (s : Plant) (told : IsTold outs s) where
  -- as much is held as before
  held-even : (o : Out) (t : Plant) → IsTold (outs ++ o ∷ []) t → (q : Name) → units_in (holders_after q (holders_told outs q) o) ≡ units_in (holders_told outs q)
      → units_in (holders t q) ≡ units_in (holders s q)
  held-even o t after_told q e = sym (after_told.held_units q) ∙ ap (λ hs. units_in hs) (holders_told-last outs o q) ∙ e ∙ told.held_units q

  pub held-same : (o : Out) (t : Plant) → IsTold (outs ++ o ∷ []) t → (q : Name) → holders_after q (holders_told outs q) o ≡ holders_told outs q
      → units_in (holders t q) ≡ units_in (holders s q)
  held-same o t after_told q e = held-even o t after_told q (ap (λ hs. units_in hs) e)

  -- and the line is as it was
  pub as-before : (t : Plant) (need : Need) (a : BatchAct) → units_in (holders t need.resource) ≡ units_in (holders s need.resource) → t.line need.resource ≡ s.line need.resource
      → is_served c t need a ≡ true → is_served c s need a ≡ true
  as-before t need a e f h = subst₂ (λ n line. serves n need.units (c.capacity need.resource) line a ≡ true) e f h

  -- a move serves no act of another batch newly, but of the resource that it gives or takes
  pub served-before : (m : Move) → IsEven outs m → IsTold (outs ++ move m ∷ []) (after_move s m) → (n : ℕ) → (n ≡ batch_of m → ⊥)
      → (need : Need) (p : Place) → (touched m ≡ Some need.resource → ⊥) → is_served c (after_move s m) need (n, p) ≡ true → is_served c s need (n, p) ≡ true
  served-before (send k p x command) even t n other need place apart e = as-before (after_move s (send k p x command)) need (n, place) (held-same (move (send k p x command)) (after_move s (send k p x command)) t need.resource refl) refl e
  served-before (state k x) even t n other need place apart e = as-before (after_move s (state k x)) need (n, place) (held-same (move (state k x)) (after_move s (state k x)) t need.resource refl) refl e
  served-before (begin k p name) even t n other need place apart e = as-before (after_move s (begin k p name)) need (n, place) (held-same (move (begin k p name)) (after_move s (begin k p name)) t need.resource refl) refl e
  served-before (start k p x vs) even t n other need place apart e = as-before (after_move s (start k p x vs)) need (n, place) (held-same (move (start k p x vs)) (after_move s (start k p x vs)) t need.resource refl) refl e
  served-before (end k p) even t n other need place apart e = as-before (after_move s (end k p)) need (n, place) (held-same (move (end k p)) (after_move s (end k p)) t need.resource refl) refl e
  served-before (pass k p to r) even t n other need place apart e =
      as-before (after_move s (pass k p to r)) need (n, place) (held-even (move (pass k p to r)) (after_move s (pass k p to r)) t need.resource (even need.resource)) refl e
  served-before (release k p r) even t n other need place apart e = go (same_name need.resource r.resource) refl
    where
      m : Move
      m = release k p r

      go : (b : Bool) → same_name need.resource r.resource ≡ b → is_served c s need (n, place) ≡ true
      go true f = absurd (apart (ap Some (sym (name_same need.resource r.resource f))))
      go false f =
          as-before (after_move s m) need (n, place)
          (held-same (move m) (after_move s m) t need.resource
          (ap (λ (b : Bool). let hs : List Share = elim b [ true ↦ without (k, p) (holders_told outs need.resource) | false ↦ holders_told outs need.resource ] in hs) f)) refl e
  served-before (grant k p r) even t n other need place apart e = go (same_name need.resource r.resource) refl
    where
      m : Move
      m = grant k p r

      go : (b : Bool) → same_name need.resource r.resource ≡ b → is_served c s need (n, place) ≡ true
      go true f = absurd (apart (ap Some (sym (name_same need.resource r.resource f))))
      go false f =
          as-before (after_move s m) need (n, place)
          (held-same (move m) (after_move s m) t need.resource
          (ap (λ (b : Bool). let hs : List Share = elim b [ true ↦ holders_told outs need.resource ++ record { act = (k, p); units = r.units } ∷ [] | false ↦ holders_told outs need.resource ] in hs) f))
          (ap (λ (b : Bool). let line : List Share = elim b [ true ↦ without (k, p) (s.line need.resource) | false ↦ s.line need.resource ] in line) f) e
  served-before (ask k p r) even t n other need place apart e = go (same_name need.resource r.resource) refl
    where
      m : Move
      m = ask k p r

      share : Share
      share = record { act = (k, p); units = r.units }

      same : units_in (holders (after_move s m) need.resource) ≡ units_in (holders s need.resource)
      same = held-same (move m) (after_move s m) t need.resource refl

      go : (b : Bool) → same_name need.resource r.resource ≡ b → is_served c s need (n, place) ≡ true
      go true f =
          let line : (after_move s m).line need.resource ≡ s.line need.resource ++ share ∷ [] =
          ap (λ (b : Bool). let l : List Share = elim b [ true ↦ s.line need.resource ++ record { act = (k, p); units = r.units } ∷ [] | false ↦ s.line need.resource ] in l) f in
          let now : serves (units_in (holders s need.resource)) need.units (c.capacity need.resource) (s.line need.resource ++ share ∷ []) (n, place) ≡ true =
          subst₂ (λ h l. serves h need.units (c.capacity need.resource) l (n, place) ≡ true) same line e in
          let parts = and_parts (nat_le (units_in (holders s need.resource) + need.units) (c.capacity need.resource)) (first_in (s.line need.resource ++ share ∷ []) (n, place)) now in
          both_true parts.0
          (joined (s.line need.resource) share (n, place) other parts.1)
      go false f =
          as-before (after_move s m) need (n, place) same
          (ap (λ (b : Bool). let l : List Share = elim b [ true ↦ s.line need.resource ++ record { act = (k, p); units = r.units } ∷ [] | false ↦ s.line need.resource ] in l) f) e
