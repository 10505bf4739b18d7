-- An act that isn't begun stays so until a move begins the act at its place.
use Rattle.std.proofs.Common.{◌≡◌, refl, sym, ◌∙◌, ap, subst, ℕ, zero, suc, pred, List, length, Bool, true, false, inl, inr, ⊎_elim}
use Rattle.std.specs.Prelude.{⊤}
use Rattle.batch_matrix.specs.declared.{command.Command.Command, report.ReportOutcome.ReportOutcome, report.ReportOutcome.TheVariants.Ended, report.ReportOutcome.TheVariants.Now, report.ReportOutcome.TheVariants.Same, state.State.State}
use Rattle.batch_recipe.specs.{declared.condition.Condition.Condition, Conditions.holds, Tree.Place, Tree.Step, Tree.runs, Tree.follows, Tree.Tree, Tree.act, Tree.skip, Tree.seq, Tree.par, Tree.sel, Tree.loop, Tree.Trees, Tree.no_trees, Tree.tree, Tree.Choices, Tree.otherwise, Tree.choice}
use Rattle.batch_model.{specs.Events.phase_after, specs.Lists.Has, specs.Moves.Move, specs.Moves.begin, specs.Moves.start, specs.Moves.send, specs.Moves.state, specs.Moves.release, specs.Moves.pass, specs.Moves.end, specs.Moves.ask, specs.Moves.grant, specs.Moves.place_of_move, specs.Moves.freed, specs.Moves.sent, specs.Moves.released, specs.Moves.begun, specs.Moves.ended, specs.Moves.asked, specs.Moves.granted, specs.Moves.act_after, specs.Rest.Rest, specs.Rest.Moment, specs.Rest.ready, specs.Rest.asking, specs.Rest.open_act, specs.Rest.live, specs.Rest.freeing, specs.Rest.in_seq, specs.Rest.in_par, specs.Rest.in_loop, specs.Rest.done, specs.Rest.Rests, specs.Rest.no_rests, specs.Rest.rest, specs.Rest.same_place, specs.Rest.is_done, specs.Rest.all_done, specs.Rest.turning, specs.Rest.turned, specs.Rest.reach, specs.Rest.reach_first, specs.Rest.reach_each, specs.Rest.reach_chosen, specs.Rest.advance, specs.Rest.advance_each, specs.Rest.acts, specs.Rest.acts_of_each, specs.Rest.place_of, specs.Rest.changed_at, specs.Rest.changed_in_each, proofs.Members.Has-split, proofs.Members.Has-left, proofs.Members.Has-right}
use Rattle.batch_step_laws.proofs.WorkAfterChange.{to_same_place}
use Rattle.batch_record_laws.proofs.HoldingsInAdvance.{either-acts}

-- the act isn't begun
abbrev pub IsEntering : Rest → Type 0
IsEntering (ready s w k) = ⊤
IsEntering (asking s w k) = ⊤
IsEntering _ = ⊥

-- nor is any of these that stands at the place
abbrev pub IsUnbegunAt : Place → List Rest → Type 0
IsUnbegunAt q xs = (a : Rest) → Has xs a → place_of a ≡ q → IsEntering a

-- The acts that charts reach

mutual
  reach-enters : (m : Moment) (c : Tree) (a : Rest) → Has (acts (reach m c)) a → IsEntering a
  reach-enters m (act s w) a (inl e) = subst IsEntering e tt
  reach-enters m (act s w) a (inr i) = absurd i
  reach-enters m skip a i = absurd i
  reach-enters m (seq cs) a i = reach_first-enters m cs a i
  reach-enters m (par cs) a i = either-acts a (IsEntering a) (all_done (reach_each m cs)) done (in_par (reach_each m cs)) (λ j. absurd j) (reach_each-enters m cs a) i
  reach-enters m (sel ch) a i = reach_chosen-enters m ch a i
  reach-enters m (loop n c body) a i =
      either-acts a (IsEntering a) (is_done (reach m body)) done (in_loop (pred n) c body (reach m body)) (λ j. absurd j) (reach-enters m body a) i

  reach_first-enters : (m : Moment) (cs : Trees) (a : Rest) → Has (acts (reach_first m cs)) a → IsEntering a
  reach_first-enters m no_trees a i = absurd i
  reach_first-enters m (tree c cs) a i =
      either-acts a (IsEntering a) (is_done (reach m c)) (reach_first m cs) (in_seq (reach m c) cs) (reach_first-enters m cs a) (reach-enters m c a) i

  reach_each-enters : (m : Moment) (cs : Trees) (a : Rest) → Has (acts_of_each (reach_each m cs)) a → IsEntering a
  reach_each-enters m no_trees a i = absurd i
  reach_each-enters m (tree c cs) a i = ⊎_elim (reach-enters m c a) (reach_each-enters m cs a) (Has-split (acts (reach m c)) (acts_of_each (reach_each m cs)) a i)

  reach_chosen-enters : (m : Moment) (ch : Choices) (a : Rest) → Has (acts (reach_chosen m ch)) a → IsEntering a
  reach_chosen-enters m (otherwise c) a i = reach-enters m c a i
  reach_chosen-enters m (choice p c ch) a i =
      either-acts a (IsEntering a) (holds m.values p) (reach m c) (reach_chosen m ch) (reach-enters m c a) (reach_chosen-enters m ch a) i

module _ (q : Place) where
  abbrev Unbegun : Rest → Type 0
  Unbegun r = IsUnbegunAt q (acts r)

  -- below an open act something else
  open-unbegun : (s : Step) (r x : Rest) → Unbegun (open_act s r) → Unbegun x → Unbegun (open_act s x)
  open-unbegun s r x h k a (inl e) at = absurd (h (open_act s r) (inl refl) (ap place_of e ∙ at))
  open-unbegun s r x h k a (inr i) at = k a i at

  turned-unbegun : (m : Moment) (n : ℕ) (c : Condition) (body : Tree) (r : Rest) → Unbegun r → Unbegun (turned m n c body r)
  turned-unbegun m zero c body r h a i at = either-acts a (IsEntering a) (is_done r) done (in_loop 0 c body r) (λ j. absurd j) (λ j. h a j at) i
  turned-unbegun m (suc n) c body r h a i at = go (is_done r) i
    where
      go : (t : Bool) → Has (acts (elim t [ false ↦ in_loop (suc n) c body r | true ↦ elim (holds m.values c) [ true ↦ done | false ↦ turning n c body (reach m body) ] ])) a → IsEntering a
      go false j = h a j at
      go true j =
          either-acts a (IsEntering a) (holds m.values c) done (turning n c body (reach m body)) (λ l. absurd l)
          (either-acts a (IsEntering a) (is_done (reach m body)) done (in_loop n c body (reach m body)) (λ l. absurd l) (reach-enters m body a)) j

  mutual
    pub advance-unbegun : (m : Moment) (r : Rest) → Unbegun r → Unbegun (advance m r)
    advance-unbegun m (ready s w k) h = h
    advance-unbegun m (asking s w k) h = h
    advance-unbegun m (open_act s r) h = open-unbegun s r (advance m r) h (advance-unbegun m r (λ a i. h a (inr i)))
    advance-unbegun m (live s x t) h = h
    advance-unbegun m (freeing s k) h = h
    advance-unbegun m (in_seq r cs) h =
        λ a i at. either-acts a (IsEntering a) (is_done (advance m r)) (reach_first m cs) (in_seq (advance m r) cs) (reach_first-enters m cs a) (λ j. advance-unbegun m r h a j at) i
    advance-unbegun m (in_par rs) h =
        λ a i at. either-acts a (IsEntering a) (all_done (advance_each m rs)) done (in_par (advance_each m rs)) (λ j. absurd j) (λ j. advance_each-unbegun m rs h a j at) i
    advance-unbegun m (in_loop n c body r) h = turned-unbegun m n c body (advance m r) (advance-unbegun m r h)
    advance-unbegun m done h = h

    advance_each-unbegun : (m : Moment) (rs : Rests) → IsUnbegunAt q (acts_of_each rs) → IsUnbegunAt q (acts_of_each (advance_each m rs))
    advance_each-unbegun m no_rests h = h
    advance_each-unbegun m (rest r rs) h =
        λ a i at.
        ⊎_elim (λ j. advance-unbegun m r (λ b n. h b (Has-left (acts r) (acts_of_each rs) b n)) a j at)
        (λ j. advance_each-unbegun m rs (λ b n. h b (Has-right (acts r) (acts_of_each rs) b n)) a j at)
        (Has-split (acts (advance m r)) (acts_of_each (advance_each m rs)) a i)

  -- A change of the act at a place

  module _ (p : Place) (f : Rest → Rest) (keeps : (a : Rest) → place_of a ≡ p → Unbegun a → Unbegun (f a)) where
    at_place : (a b : Rest) → Unbegun a → Unbegun b → Unbegun (elim (same_place (place_of a) p) [ true ↦ f a | false ↦ b ])
    at_place a b h k = go (same_place (place_of a) p) refl
      where
        go : (t : Bool) → same_place (place_of a) p ≡ t → Unbegun (elim t [ true ↦ f a | false ↦ b ])
        go true e = keeps a (to_same_place (place_of a) p e) h
        go false e = k

    mutual
      pub changed-unbegun : (r : Rest) → Unbegun r → Unbegun (changed_at p f r)
      changed-unbegun (ready s w k) h = at_place (ready s w k) (ready s w k) h h
      changed-unbegun (asking s w k) h = at_place (asking s w k) (asking s w k) h h
      changed-unbegun (open_act s r) h =
          at_place (open_act s r) (open_act s (changed_at p f r)) h (open-unbegun s r (changed_at p f r) h (changed-unbegun r (λ a i. h a (inr i))))
      changed-unbegun (live s x t) h = at_place (live s x t) (live s x t) h h
      changed-unbegun (freeing s k) h = at_place (freeing s k) (freeing s k) h h
      changed-unbegun (in_seq r cs) h = changed-unbegun r h
      changed-unbegun (in_par rs) h = changed_in_each-unbegun rs h
      changed-unbegun (in_loop n c body r) h = changed-unbegun r h
      changed-unbegun done h = h

      changed_in_each-unbegun : (rs : Rests) → IsUnbegunAt q (acts_of_each rs) → IsUnbegunAt q (acts_of_each (changed_in_each p f rs))
      changed_in_each-unbegun no_rests h = h
      changed_in_each-unbegun (rest r rs) h =
          λ a i at.
          ⊎_elim (λ j. changed-unbegun r (λ b n. h b (Has-left (acts r) (acts_of_each rs) b n)) a j at)
          (λ j. changed_in_each-unbegun rs (λ b n. h b (Has-right (acts r) (acts_of_each rs) b n)) a j at)
          (Has-split (acts (changed_at p f r)) (acts_of_each (changed_in_each p f rs)) a i)

  -- The effect of moves and reports on an act

  freed-unbegun : (s : Step) (k : ℕ) → (s.place ≡ q → ⊥) → Unbegun (freed s k)
  freed-unbegun s zero not_so a i at = absurd i
  freed-unbegun s (suc k) not_so a (inl e) at = absurd (not_so (ap place_of e ∙ at))
  freed-unbegun s (suc k) not_so a (inr i) at = absurd i

  sent-unbegun : (c : Command) (a : Rest) → Unbegun a → Unbegun (sent c a)
  sent-unbegun c (live s x t) h a (inl e) at = absurd (h (live s x t) (inl refl) (ap place_of e ∙ at))
  sent-unbegun c (live s x t) h a (inr i) at = absurd i
  sent-unbegun c (ready s w k) h a i at = h a i at
  sent-unbegun c (asking s w k) h a i at = h a i at
  sent-unbegun c (open_act s r) h a i at = h a i at
  sent-unbegun c (freeing s k) h a i at = h a i at
  sent-unbegun c (in_seq r cs) h a i at = h a i at
  sent-unbegun c (in_par rs) h a i at = h a i at
  sent-unbegun c (in_loop n d body r) h a i at = h a i at
  sent-unbegun c done h a i at = h a i at

  released-unbegun : (a : Rest) → Unbegun a → Unbegun (released a)
  released-unbegun (ready s w k) h a (inl e) at = subst IsEntering e tt
  released-unbegun (ready s w k) h a (inr i) at = absurd i
  released-unbegun (open_act s r) h a i at = freed-unbegun s (pred (length s.needs)) (h (open_act s r) (inl refl)) a i at
  released-unbegun (freeing s k) h a i at = freed-unbegun s (pred k) (h (freeing s k) (inl refl)) a i at
  released-unbegun (asking s w k) h a i at = h a i at
  released-unbegun (live s x t) h a i at = h a i at
  released-unbegun (in_seq r cs) h a i at = h a i at
  released-unbegun (in_par rs) h a i at = h a i at
  released-unbegun (in_loop n d body r) h a i at = h a i at
  released-unbegun done h a i at = h a i at

  ended-unbegun : (a : Rest) → Unbegun a → Unbegun (ended a)
  ended-unbegun (open_act s r) h a i at = freed-unbegun s (length s.needs) (h (open_act s r) (inl refl)) a i at
  ended-unbegun (live s x t) h a i at = freed-unbegun s (length s.needs) (h (live s x t) (inl refl)) a i at
  ended-unbegun (ready s w k) h a i at = h a i at
  ended-unbegun (asking s w k) h a i at = h a i at
  ended-unbegun (freeing s k) h a i at = h a i at
  ended-unbegun (in_seq r cs) h a i at = h a i at
  ended-unbegun (in_par rs) h a i at = h a i at
  ended-unbegun (in_loop n d body r) h a i at = h a i at
  ended-unbegun done h a i at = h a i at

  asked-unbegun : (a : Rest) → Unbegun a → Unbegun (asked a)
  asked-unbegun (ready s w k) h a (inl e) at = subst IsEntering e tt
  asked-unbegun (ready s w k) h a (inr i) at = absurd i
  asked-unbegun (asking s w k) h a i at = h a i at
  asked-unbegun (open_act s r) h a i at = h a i at
  asked-unbegun (live s x t) h a i at = h a i at
  asked-unbegun (freeing s k) h a i at = h a i at
  asked-unbegun (in_seq r cs) h a i at = h a i at
  asked-unbegun (in_par rs) h a i at = h a i at
  asked-unbegun (in_loop n d body r) h a i at = h a i at
  asked-unbegun done h a i at = h a i at

  granted-unbegun : (a : Rest) → Unbegun a → Unbegun (granted a)
  granted-unbegun (asking s w k) h a (inl e) at = subst IsEntering e tt
  granted-unbegun (asking s w k) h a (inr i) at = absurd i
  granted-unbegun (ready s w k) h a i at = h a i at
  granted-unbegun (open_act s r) h a i at = h a i at
  granted-unbegun (live s x t) h a i at = h a i at
  granted-unbegun (freeing s k) h a i at = h a i at
  granted-unbegun (in_seq r cs) h a i at = h a i at
  granted-unbegun (in_par rs) h a i at = h a i at
  granted-unbegun (in_loop n d body r) h a i at = h a i at
  granted-unbegun done h a i at = h a i at

  now-unbegun : (now : State) (a : Rest) → Unbegun a → Unbegun (phase_after (Now now) a)
  now-unbegun now (live s x t) h a (inl e) at = absurd (h (live s x t) (inl refl) (ap place_of e ∙ at))
  now-unbegun now (live s x t) h a (inr i) at = absurd i
  now-unbegun now (ready s w k) h a i at = h a i at
  now-unbegun now (asking s w k) h a i at = h a i at
  now-unbegun now (open_act s r) h a i at = h a i at
  now-unbegun now (freeing s k) h a i at = h a i at
  now-unbegun now (in_seq r cs) h a i at = h a i at
  now-unbegun now (in_par rs) h a i at = h a i at
  now-unbegun now (in_loop n d body r) h a i at = h a i at
  now-unbegun now done h a i at = h a i at

  pub phase_after-unbegun : (e : ReportOutcome) (a : Rest) → Unbegun a → Unbegun (phase_after e a)
  phase_after-unbegun Ended a h = ended-unbegun a h
  phase_after-unbegun (Now now) a h = now-unbegun now a h
  phase_after-unbegun Same a h = h

  -- an act at another place begins
  begun-unbegun : (m : Moment) (a : Rest) → (place_of a ≡ q → ⊥) → Unbegun a → Unbegun (begun m a)
  begun-unbegun m (ready s (runs y) k) not_so h a (inl e) at = absurd (not_so (ap place_of e ∙ at))
  begun-unbegun m (ready s (runs y) k) not_so h a (inr i) at = absurd i
  begun-unbegun m (ready s (follows name c) k) not_so h a (inl e) at = absurd (not_so (ap place_of e ∙ at))
  begun-unbegun m (ready s (follows name c) k) not_so h a (inr i) at = reach-enters m c a i
  begun-unbegun m (asking s w k) not_so h a i at = h a i at
  begun-unbegun m (open_act s r) not_so h a i at = h a i at
  begun-unbegun m (live s x t) not_so h a i at = h a i at
  begun-unbegun m (freeing s k) not_so h a i at = h a i at
  begun-unbegun m (in_seq r cs) not_so h a i at = h a i at
  begun-unbegun m (in_par rs) not_so h a i at = h a i at
  begun-unbegun m (in_loop n d body r) not_so h a i at = h a i at
  begun-unbegun m done not_so h a i at = h a i at

  -- the move begins the act at the place
  abbrev pub Begins : Move → Type 0
  Begins (begin number place name) = place ≡ q
  Begins (start number place phase handed) = place ≡ q
  Begins _ = ⊥

  pub act_after-unbegun : (m : Moment) (made : Move) → (Begins made → ⊥) → (a : Rest) → place_of a ≡ place_of_move made → Unbegun a → Unbegun (act_after m made a)
  act_after-unbegun m (send number place phase command) not_so a at h = sent-unbegun command a h
  act_after-unbegun m (state number becomes) not_so a at h = h
  act_after-unbegun m (release number place need) not_so a at h = released-unbegun a h
  act_after-unbegun m (pass number place to need) not_so a at h = released-unbegun a h
  act_after-unbegun m (begin number place name) not_so a at h = begun-unbegun m a (λ e. not_so (sym at ∙ e)) h
  act_after-unbegun m (start number place phase handed) not_so a at h = begun-unbegun m a (λ e. not_so (sym at ∙ e)) h
  act_after-unbegun m (end number place) not_so a at h = ended-unbegun a h
  act_after-unbegun m (ask number place need) not_so a at h = asked-unbegun a h
  act_after-unbegun m (grant number place need) not_so a at h = granted-unbegun a h
