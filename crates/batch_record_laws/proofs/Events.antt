-- Each event keeps the invariant.
use Rattle.std.proofs.Common.{◌≡◌, ◌⊎◌, ⊎_elim, refl, sym, ◌∙◌, ap, ap₂, subst, subst₂, ℕ, ◌<◌, ◌≤◌, arith, List, [], ◌∷◌, ◌++◌, Bool, true, false, cond, not, map, filter, Option, Some, inl, inr, nat_eq}
use Rattle.batch_matrix.specs.{declared.state.State.State, declared.state.State.TheVariants.Idle, declared.state.State.TheVariants.Running, declared.state.State.TheVariants.Pausing, declared.state.State.TheVariants.Paused, declared.state.State.TheVariants.Holding, declared.state.State.TheVariants.Held, declared.state.State.TheVariants.Restarting, declared.state.State.TheVariants.Stopping, declared.state.State.TheVariants.Stopped, declared.state.State.TheVariants.Aborting, declared.state.State.TheVariants.Aborted, declared.state.State.TheVariants.Complete, declared.command.Command.Command, declared.command.Command.TheVariants.Start, declared.command.Command.TheVariants.Pause, declared.command.Command.TheVariants.Resume, declared.command.Command.TheVariants.Hold, declared.command.Command.TheVariants.Restart, declared.command.Command.TheVariants.Stop, declared.command.Command.TheVariants.Abort, declared.command.Command.TheVariants.Reset, Matrix.same_state, Matrix.accepts, Matrix.target}
use Rattle.batch_model.{specs.Lists.Has, specs.Rest.withdrawn, specs.Plant.Recipe, specs.Plant.Setup, specs.Plant.Batch, specs.Plant.BatchAct, specs.Plant.Share, specs.Plant.units_in, specs.Plant.Plant, specs.Plant.in_batch, specs.Events.Refusal, specs.Events.created, specs.Events.ordered, specs.Events.removed, specs.Events.refused, specs.Events.command_not_accepted, specs.Events.not_idle, specs.Events.Answer, specs.Events.new_batch, specs.Events.with_batch, specs.Events.reset, specs.Events.commanded, specs.Events.lines_under, specs.Events.ordering, specs.Events.without_batch, specs.Events.removing, specs.Runs.Out, specs.Runs.reply, specs.Records.waiters_after, specs.Records.state_after, specs.Cleared.Ranking, proofs.Members.Has-split, specs.Standing.IsStanding}
use Rattle.batch_recipe.specs.{Conditions.Name, Conditions.ValueList, Tree.Place, Tree.Phase, Values.with_outputs_zero, declared.need.Need.Need}
use Rattle.batch_record_laws.proofs.{PlantFacts.holding, PlantFacts.awaiting, PlantFacts.performing, PlantFacts.Standing, PlantFacts.facts, PlantFacts.early_facts, PlantFacts.batch_facts, PlantFacts.Entry, PlantFacts.entry, PlantFacts.entries_of, PlantFacts.entries, PlantFacts.holder_of, PlantFacts.holders_among, PlantFacts.need, ClearanceDownTrees.IsClearedDown, Members.map-Has, FactsAfterAdvance.reach-facts, FactsAfterAdvance.is_kept, FactsAfterAdvance.withdrawn-facts, Entries.Agrees, Entries.once-filter, Entries.Has-filter, Entries.filter-Has, Entries.nat_same, Entries.nat_self, Entries.nat_differs, Entries.holders-append, Batches.Has-only, Batches.below-next, Batches.only, Batches.only-hit, Batches.only-miss, Batches.same-batch, Invariant.IsFitting, Invariant.NothingAwaited, Invariant.IsSound, Invariant.IsKept, Batches.awaiting-of, Batches.performing-of, Batches.of-entry, Batches.append-holders, BatchProgress.is_under_way, BatchProgress.early-none, ActChanges.changed_plant, ActChanges.kept-after, InvariantAfterChange.kept-quiet, InvariantAfterMove.tells-other, InvariantAfterMove.tells-own, Invariant.standing-of, Invariant.numbers-of}
use Rattle.batch_step_laws.proofs.LastLineEffect.{holders_told-last, waiters_told-last, active_told-last, state_told-last}
use Rattle.std.proofs.lemmas.List.{append-nil}

-- Answers: the record with the reply, and the plant

abbrev pub Answered : Setup → Ranking → List Out → Answer → Type 0
Answered d rank outs a = IsKept d rank (outs ++ reply a.0 ∷ []) a.1

-- a refusal changes nothing
pub kept-refused : (d : Setup) (rank : Ranking) (outs : List Out) (s : Plant) (x : Refusal) → IsKept d rank outs s → IsKept d rank (outs ++ reply (refused x) ∷ []) s
kept-refused d rank outs s x k =
    let o : Out = reply (refused x) in
    record {
      sound = k.sound;
      held = λ q. subst (λ z. Agrees z (holders_among q (entries s.batches))) (sym (holders_told-last outs o q)) (k.held q);
      within = k.within;
      lines = λ q. waiters_told-last outs o q ∙ k.lines q;
      once = k.once;
      asked = k.asked;
      active = λ y h. k.active y (subst (λ z. Has z y) (active_told-last outs o) h);
      listed = k.listed;
      shown = λ a y h. subst (λ z. Has z (record { act = a; phase = y })) (sym (active_told-last outs o)) (k.shown a y h);
      states = λ c h. state_told-last outs o c.number ∙ k.states c h;
    }

-- Creation

entries-append : (bs cs : List Batch) → entries (bs ++ cs) ≡ entries bs ++ entries cs
entries-append [] cs = refl
entries-append (b ∷ bs) cs = ap (λ z. entries_of b ++ z) (entries-append bs cs) ∙ sym (Rattle.std.proofs.Common.append_assoc (entries_of b) (entries bs) (entries cs))

pub kept-created : (d : Setup) (rank : Ranking) (outs : List Out) (s : Plant) (r : Recipe) (name : Name) (size : ℕ) (told : List (Name × Name)) (vs : ValueList) → IsClearedDown d rank r → IsStanding d s → IsKept d rank outs s
    → IsKept d rank (outs ++ reply (created s.next_number name size told) ∷ []) (with_batch s r size vs)
kept-created d rank outs s r name size told vs cleared sd k =
    let o : Out = reply (created s.next_number name size told) in
    let n : Batch = new_batch s.next_number r size vs in
    let none : batch_facts n ≡ [] = reach-facts vs r.procedure in
    let same : entries (s.batches ++ n ∷ []) ≡ entries s.batches
    = entries-append s.batches (n ∷ []) ∙ ap (λ z. entries s.batches ++ (map (entry s.next_number) z ++ [])) none ∙ append-nil (entries s.batches) in
    record {
      sound = λ c h. ⊎_elim (k.sound c)
          (λ m. ⊎_elim (λ e. subst (IsSound d rank) e (record { cleared = cleared; fits = none; apart = tt; units = λ held j. absurd j })) (λ e. absurd e) m)
          (Has-split s.batches (n ∷ []) c h);
      held = λ q. subst₂ Agrees (sym (holders_told-last outs o q)) (ap (holders_among q) (sym same)) (k.held q);
      within = λ q. subst (λ z. units_in (holders_among q z) ≤ d.capacity q) (sym same) (k.within q);
      lines = λ q. waiters_told-last outs o q ∙ k.lines q;
      once = k.once;
      asked = λ q a h. subst (λ z. Has z (a.act, awaiting (need q a.units))) (sym same) (k.asked q a h);
      active = λ y h. subst (λ z. Has z (y.act, performing y.phase)) (sym same) (k.active y (subst (λ z. Has z y) (active_told-last outs o) h));
      listed = λ q a h. k.listed q a (subst (λ z. Has z (a.act, awaiting (need q a.units))) same h);
      shown = λ a y h. subst (λ z. Has z (record { act = a; phase = y })) (sym (active_told-last outs o)) (k.shown a y (subst (λ z. Has z (a, performing y)) same h));
      states = λ c h. state_told-last outs o c.number
          ∙ ⊎_elim
          (λ m. tells-other s.next_number c.number (Some Idle) (Rattle.batch_model.specs.Records.state_told outs c.number)
          (λ e. (let l : c.number < s.next_number = below-next s.next_number s.batches c (numbers-of d s sd) m in absurd (omega arith))) ∙ k.states c m)
          (λ m. ⊎_elim
          (λ e. subst (λ z. elim (nat_eq s.next_number z.number) [ true ↦ Some Idle | false ↦ Rattle.batch_model.specs.Records.state_told outs z.number ] ≡ Some z.state) e
          (tells-own s.next_number (Some Idle) (Rattle.batch_model.specs.Records.state_told outs s.next_number)))
          (λ e. absurd e) m)
          (Has-split s.batches (n ∷ []) c h);
    }

-- Removal

entries-without : (n : ℕ) (bs : List Batch) → ((c : Batch) → Has bs c → c.number ≡ n → batch_facts c ≡ []) → entries (filter (λ b. not (nat_eq b.number n)) bs) ≡ entries bs
entries-without n [] h = refl
entries-without n (b ∷ bs) h = go (nat_eq b.number n) refl (entries-without n bs (λ c k. h c (inr k)))
  where
    go : (t : Bool) → nat_eq b.number n ≡ t → entries (filter (λ c. not (nat_eq c.number n)) bs) ≡ entries bs
        → entries (cond (not t) (b ∷ filter (λ c. not (nat_eq c.number n)) bs) (filter (λ c. not (nat_eq c.number n)) bs)) ≡ entries_of b ++ entries bs
    go true e f = f ∙ ap (λ z. map (entry b.number) z ++ entries bs) (sym (h b (inl refl) (nat_same b.number n e)))
    go false e f = ap (λ z. entries_of b ++ z) f

kept-removed : (d : Setup) (rank : Ranking) (outs : List Out) (s : Plant) (b : Batch) → Has s.batches b → b.state ≡ Idle → IsStanding d s → IsKept d rank outs s
    → IsKept d rank (outs ++ reply (removed b.number) ∷ []) (without_batch b.number s)
kept-removed d rank outs s b i idle sd k =
    let o : Out = reply (removed b.number) in
    let left : Batch → Bool = λ c. not (nat_eq c.number b.number) in
    let stands = standing-of d s sd b i in
    let none : batch_facts b ≡ []
    = ap₂ (λ xs ys. early_facts xs ++ ys) (early-none d b stands (ap is_under_way idle)) (subst (λ z. IsFitting z (facts b.rest)) idle (k.sound b i).fits) in
    let same : entries (filter left s.batches) ≡ entries s.batches
    = entries-without b.number s.batches (λ c h e. subst (λ z. batch_facts z ≡ []) (sym (same-batch s.next_number s.batches c b (numbers-of d s sd) h i e)) none) in
    record {
      sound = λ c h. k.sound c ((Has-filter left s.batches c h).0);
      held = λ q. subst₂ Agrees (sym (holders_told-last outs o q)) (ap (holders_among q) (sym same)) (k.held q);
      within = λ q. subst (λ z. units_in (holders_among q z) ≤ d.capacity q) (sym same) (k.within q);
      lines = λ q. waiters_told-last outs o q ∙ k.lines q;
      once = k.once;
      asked = λ q a h. subst (λ z. Has z (a.act, awaiting (need q a.units))) (sym same) (k.asked q a h);
      active = λ y h. subst (λ z. Has z (y.act, performing y.phase)) (sym same) (k.active y (subst (λ z. Has z y) (active_told-last outs o) h));
      listed = λ q a h. k.listed q a (subst (λ z. Has z (a.act, awaiting (need q a.units))) same h);
      shown = λ a y h. subst (λ z. Has z (record { act = a; phase = y })) (sym (active_told-last outs o)) (k.shown a y (subst (λ z. Has z (a, performing y)) same h));
      states = λ c h. state_told-last outs o c.number ∙ k.states c ((Has-filter left s.batches c h).0);
    }

-- Commands

order-others : (c : Command) (n : ℕ) (x : State) (m : ℕ) (old : Option State) → (m ≡ n → ⊥) → state_after m old (reply (ordered c n x)) ≡ old
order-others c n x m old d = tells-other n m (Some x) old d

order-own : (c : Command) (n : ℕ) (x was : State) → state_after n (Some was) (reply (ordered c n x)) ≡ Some x
order-own c n x was = tells-own n (Some x) (Some was)

-- a batch that may be reset isn't under way, and has no facts
pub reset-rests : (x : State) → accepts x Reset ≡ true → is_under_way x ≡ false
reset-rests x e = grind arith

pub reset-nothing : (x : State) (es : List Standing) → accepts x Reset ≡ true → IsFitting x es → es ≡ []
reset-nothing x es e h = grind arith

kept-holders : (n : ℕ) (q : Name) (es : List Standing) → holders_among q (map (entry n) (filter is_kept es)) ≡ holders_among q (map (entry n) es)
kept-holders n q [] = refl
kept-holders n q ((p, holding r) ∷ es) = ap (λ z. holder_of q ((n, p), holding r) ++ z) (kept-holders n q es)
kept-holders n q ((p, awaiting r) ∷ es) = kept-holders n q es
kept-holders n q ((p, performing x) ∷ es) = kept-holders n q es

holders-only : (q : Name) (n : ℕ) (g : Batch → Batch) (bs : List Batch) → ((c : Batch) → Has bs c → holders_among q (entries_of (only n g c)) ≡ holders_among q (entries_of c))
    → holders_among q (entries (map (only n g) bs)) ≡ holders_among q (entries bs)
holders-only q n g [] f = refl
holders-only q n g (c ∷ bs) f =
    holders-append q (entries_of (only n g c)) (entries (map (only n g) bs))
    ∙ ap₂ (λ xs ys. xs ++ ys) (f c (inl refl)) (holders-only q n g bs (λ e h. f e (inr h)))
    ∙ sym (holders-append q (entries_of c) (entries bs))

module _ (d : Setup) (rank : Ranking) (outs : List Out) (s : Plant) (sd : IsStanding d s) (k : IsKept d rank outs s) (b : Batch) (i : Has s.batches b) where
  sound-b : IsSound d rank b
  sound-b = k.sound b i

  -- a command that only changes the state, to one in which all facts fit
  kept-commanded : (c : Command) → ((es : List Standing) → IsFitting (target c) es) → ((q : Name) (ws : List Share) → waiters_after q ws (reply (ordered c b.number (target c))) ≡ ws)
      → IsKept d rank (outs ++ reply (ordered c b.number (target c)) ∷ []) (changed_plant s b.number (λ z. record z { state = target c }) s.line)
  kept-commanded c fits wait =
      kept-quiet d rank outs s sd k b i (reply (ordered c b.number (target c))) (λ z. record z { state = target c }) refl
      (record { cleared = sound-b.cleared; fits = fits (facts b.rest); apart = sound-b.apart; units = sound-b.units }) refl
      (order-others c b.number (target c), order-own c b.number (target c) b.state) (λ q hs. refl) wait (λ xs. refl)

  kept-reset : accepts b.state Reset ≡ true → IsKept d rank (outs ++ reply (ordered Reset b.number Idle) ∷ []) (changed_plant s b.number reset s.line)
  kept-reset e =
      let none : batch_facts b ≡ []
      = ap₂ (λ xs ys. early_facts xs ++ ys) (early-none d b (standing-of d s sd b i) (reset-rests b.state e)) (reset-nothing b.state (facts b.rest) e sound-b.fits) in
      let vs : ValueList = with_outputs_zero b.recipe.outputs b.values in
      kept-quiet d rank outs s sd k b i (reply (ordered Reset b.number Idle)) reset refl
      (record { cleared = sound-b.cleared; fits = reach-facts vs b.recipe.procedure; apart = tt; units = λ held j. absurd j })
      (reach-facts vs b.recipe.procedure ∙ sym none)
      (order-others Reset b.number Idle, order-own Reset b.number Idle b.state) (λ q hs. refl) (λ q ws. refl) (λ xs. refl)

  -- a command that ends the asks of the batch
  abbrev stopped : Command → Batch → Batch
  stopped c z = record z { state = target c; rest = withdrawn z.rest }

  kept-stopped : (c : Command) → ((es : List Standing) → NothingAwaited es → IsFitting (target c) es)
      → ((q : Name) (ws : List Share) → waiters_after q ws (reply (ordered c b.number (target c))) ≡ filter (λ a. not (nat_eq a.act.0 b.number)) ws)
      → IsKept d rank (outs ++ reply (ordered c b.number (target c)) ∷ []) (changed_plant s b.number (stopped c) (λ q. filter (λ a. not (nat_eq a.act.0 b.number)) (s.line q)))
  kept-stopped c fits wait =
      let o : Out = reply (ordered c b.number (target c)) in
      let n : ℕ = b.number in
      let g : Batch → Batch = stopped c in
      let E' : List Entry = entries (map (only n g) s.batches) in
      let same : (q : Name) → holders_among q E' ≡ holders_among q (entries s.batches) = λ q. holders-only q n g s.batches (λ e h. one q e h (nat_eq e.number n) refl) in
      kept-after d rank outs s sd k b i o g (λ q. filter (λ a. not (nat_eq a.act.0 n)) (s.line q)) refl
      (record {
        cleared = sound-b.cleared;
        fits = fits (facts (withdrawn b.rest)) (λ p r h. not_kept p r (subst (λ z. Has z (p, awaiting r)) (withdrawn-facts b.rest) h));
        apart = sound-b.apart;
        units = sound-b.units;
      })
      (order-others c n (target c)) (order-own c n (target c) b.state)
      (λ q. subst (Agrees (Rattle.batch_model.specs.Records.holders_told outs q)) (sym (same q)) (k.held q))
      (λ q. subst (λ z. units_in z ≤ d.capacity q) (sym (same q)) (k.within q))
      (λ q. wait q (s.line q))
      (λ q. once-filter (λ a. not (nat_eq a.act.0 n)) (s.line q) (k.once q))
      (λ q a h. (let m = Has-filter (λ z. not (nat_eq z.act.0 n)) (s.line q) a h in asks q a m.0 (not_this a.act.0 n m.1)))
      (λ x h. runs_on x.act x.phase (k.active x h))
      (λ q a h. waited q a (awaiting-of (map (only n g) s.batches) a.act (need q a.units) h))
      (λ a x h. ran a x (performing-of (map (only n g) s.batches) a x h))
    where
      one : (q : Name) (e : Batch) → Has s.batches e → (t : Bool) → nat_eq e.number b.number ≡ t → holders_among q (entries_of (elim t [ true ↦ stopped c e | false ↦ e ])) ≡ holders_among q (entries_of e)
      one q e h true w =
          append-holders e.number q (early_facts e.in_advance) (facts (withdrawn e.rest))
          ∙ (ap (λ z. holders_among q (map (entry e.number) (early_facts e.in_advance)) ++ z) (ap (λ z. holders_among q (map (entry e.number) z)) (withdrawn-facts e.rest) ∙ kept-holders e.number q (facts e.rest))
          ∙ sym (append-holders e.number q (early_facts e.in_advance) (facts e.rest)))
      one q e h false w = refl

      not_kept : (p : Place) (r : Need) → Has (filter is_kept (facts b.rest)) (p, awaiting r) → ⊥
      not_kept p r h = (let m = Has-filter is_kept (facts b.rest) (p, awaiting r) h in let f : ◌≡◌ {A = Bool} false true = m.1 in cc)

      not_this : (m n : ℕ) → not (nat_eq m n) ≡ true → m ≡ n → ⊥
      not_this m n e f = no_both (nat_eq m n) (subst (λ z. nat_eq m z ≡ true) f (nat_self m)) e
        where
          no_both : (t : Bool) → t ≡ true → not t ≡ true → ⊥
          no_both true u v = cc
          no_both false u v = cc

      is_other : (m n : ℕ) → (m ≡ n → ⊥) → not (nat_eq m n) ≡ true
      is_other m n d' = ap not (nat_differs m n d')

      waited : (q : Name) (a : Share) → (e : Batch) × Has (map (only b.number (stopped c)) s.batches) e × (e.number ≡ a.act.0) × Has (facts e.rest) (a.act.1, awaiting (need q a.units))
          → Has (filter (λ z. not (nat_eq z.act.0 b.number)) (s.line q)) a
      waited q a e =
          ⊎_elim
          (λ m. absurd (not_kept a.act.1 (need q a.units) (subst (λ z. Has z (a.act.1, awaiting (need q a.units))) (ap (λ z. facts z.rest) m ∙ withdrawn-facts b.rest) e.3)))
          (λ m. filter-Has (λ z. not (nat_eq z.act.0 b.number)) (s.line q) a
          (k.listed q a (subst (λ z. Has (entries s.batches) ((z, a.act.1), awaiting (need q a.units))) e.2 (of-entry s.batches e.0 a.act.1 (awaiting (need q a.units)) m.0 e.3)))
          (is_other a.act.0 b.number (λ w. m.1 (e.2 ∙ w))))
          (Has-only s.next_number s.batches b (stopped c) e.0 (numbers-of d s sd) i e.1)

      ran : (a : BatchAct) (x : Phase) → (e : Batch) × Has (map (only b.number (stopped c)) s.batches) e × (e.number ≡ a.0) × Has (facts e.rest) (a.1, performing x)
          → Has (Rattle.batch_model.specs.Records.active_told outs) (record { act = a; phase = x })
      ran a x e =
          ⊎_elim
          (λ m. k.shown a x
          (subst (λ z. Has (entries s.batches) ((z, a.1), performing x)) (ap (λ z. z.number) (sym m) ∙ e.2)
          (of-entry s.batches b a.1 (performing x) i
          ((Has-filter is_kept (facts b.rest) (a.1, performing x) (subst (λ z. Has z (a.1, performing x)) (ap (λ z. facts z.rest) m ∙ withdrawn-facts b.rest) e.3)).0))))
          (λ m. k.shown a x (subst (λ z. Has (entries s.batches) ((z, a.1), performing x)) e.2 (of-entry s.batches e.0 a.1 (performing x) m.0 e.3)))
          (Has-only s.next_number s.batches b (stopped c) e.0 (numbers-of d s sd) i e.1)

      stays_other : (e : Batch) → Has s.batches e → (e.number ≡ b.number → ⊥) → Has (map (only b.number (stopped c)) s.batches) e
      stays_other e h d' = subst (Has (map (only b.number (stopped c)) s.batches)) (only-miss b.number (stopped c) e d') (map-Has (only b.number (stopped c)) s.batches e h)

      stays_this : Has (map (only b.number (stopped c)) s.batches) (stopped c b)
      stays_this = subst (Has (map (only b.number (stopped c)) s.batches)) (only-hit b.number (stopped c) b refl) (map-Has (only b.number (stopped c)) s.batches b i)

      asks : (q : Name) (a : Share) → Has (s.line q) a → (a.act.0 ≡ b.number → ⊥) → Has (entries (map (only b.number (stopped c)) s.batches)) (a.act, awaiting (need q a.units))
      asks q a h d' =
          let e = awaiting-of s.batches a.act (need q a.units) (k.asked q a h) in
          subst (λ z. Has (entries (map (only b.number (stopped c)) s.batches)) ((z, a.act.1), awaiting (need q a.units))) e.2
          (of-entry (map (only b.number (stopped c)) s.batches) e.0 a.act.1 (awaiting (need q a.units)) (stays_other e.0 e.1 (λ w. d' (sym e.2 ∙ w))) e.3)

      runs_on : (a : BatchAct) (x : Phase) → Has (entries s.batches) (a, performing x) → Has (entries (map (only b.number (stopped c)) s.batches)) (a, performing x)
      runs_on a x h = (let e = performing-of s.batches a x h in go e.0 e.1 e.2 e.3 (nat_eq e.0.number b.number) refl)
        where
          go : (e : Batch) → Has s.batches e → e.number ≡ a.0 → Has (facts e.rest) (a.1, performing x) → (t : Bool) → nat_eq e.number b.number ≡ t
              → Has (entries (map (only b.number (stopped c)) s.batches)) (a, performing x)
          go e j w m true v =
              let q : e ≡ b = same-batch s.next_number s.batches e b (numbers-of d s sd) j i (nat_same e.number b.number v) in
              subst (λ z. Has (entries (map (only b.number (stopped c)) s.batches)) ((z, a.1), performing x)) (ap (λ z. z.number) (sym q) ∙ w)
              (of-entry (map (only b.number (stopped c)) s.batches) (stopped c b) a.1 (performing x) stays_this
              (subst (λ z. Has z (a.1, performing x)) (sym (withdrawn-facts b.rest)) (filter-Has is_kept (facts b.rest) (a.1, performing x) (subst (λ z. Has (facts z.rest) (a.1, performing x)) q m) refl)))
          go e j w m false v =
              subst (λ z. Has (entries (map (only b.number (stopped c)) s.batches)) ((z, a.1), performing x)) w
              (of-entry (map (only b.number (stopped c)) s.batches) e a.1 (performing x) (stays_other e j (λ u. no_both (nat_eq e.number b.number) (subst (λ z. nat_eq e.number z ≡ true) u (nat_self e.number)) v)) m)
            where
              no_both : (t : Bool) → t ≡ true → t ≡ false → ⊥
              no_both true u v = cc
              no_both false u v = cc

  pub ordering-step : (c : Command) → Answered d rank outs (ordering s c b)
  ordering-step c = go (accepts b.state c) refl
    where
      done-by : (c : Command) → accepts b.state c ≡ true → IsKept d rank (outs ++ reply (ordered c b.number (target c)) ∷ []) (record (in_batch b.number (commanded c) s) { line = lines_under c b.number s.line })
      done-by Start e = kept-commanded Start (λ es. tt) (λ q ws. refl)
      done-by Pause e = kept-commanded Pause (λ es. tt) (λ q ws. refl)
      done-by Resume e = kept-commanded Resume (λ es. tt) (λ q ws. refl)
      done-by Hold e = kept-commanded Hold (λ es. tt) (λ q ws. refl)
      done-by Restart e = kept-commanded Restart (λ es. tt) (λ q ws. refl)
      done-by Stop e = kept-stopped Stop (λ es h. h) (λ q ws. refl)
      done-by Abort e = kept-stopped Abort (λ es h. h) (λ q ws. refl)
      done-by Reset e = kept-reset e

      go : (t : Bool) → accepts b.state c ≡ t
          → Answered d rank outs
          (elim t [
            | false ↦ (refused (command_not_accepted b.state), s)
            | true ↦ (ordered c b.number (target c), record (in_batch b.number (commanded c) s) { line = lines_under c b.number s.line })
          ])
      go false e = kept-refused d rank outs s (command_not_accepted b.state) k
      go true e = done-by c e

  pub removing-step : Answered d rank outs (removing s b)
  removing-step = go b.state refl
    where
      go : (x : State) → b.state ≡ x
          → Answered d rank outs (elim (same_state x Idle) [ true ↦ (removed b.number, without_batch b.number s) | false ↦ (refused (not_idle x), s) ])
      go Idle e = kept-removed d rank outs s b i e sd k
      go Running e = kept-refused d rank outs s (not_idle Running) k
      go Pausing e = kept-refused d rank outs s (not_idle Pausing) k
      go Paused e = kept-refused d rank outs s (not_idle Paused) k
      go Holding e = kept-refused d rank outs s (not_idle Holding) k
      go Held e = kept-refused d rank outs s (not_idle Held) k
      go Restarting e = kept-refused d rank outs s (not_idle Restarting) k
      go Stopping e = kept-refused d rank outs s (not_idle Stopping) k
      go Stopped e = kept-refused d rank outs s (not_idle Stopped) k
      go Aborting e = kept-refused d rank outs s (not_idle Aborting) k
      go Aborted e = kept-refused d rank outs s (not_idle Aborted) k
      go Complete e = kept-refused d rank outs s (not_idle Complete) k
