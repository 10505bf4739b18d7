-- A running chart is in order over every chart of its tree, and calls keep it a running one.
use Rattle.std.proofs.Common.{◌≡◌, inl, inr, ◌<◌, ◌≤◌, ◌∙◌, refl, sym, subst, ap, arith, ℕ, ◌+◌, List, length, Bool, Some, None, [], ◌∷◌, zero, suc}
use Rattle.std.specs.{Prelude.Option, Prelude.IfSome, VecDeque.deque_capacity}
use Rattle.batch_recipe.specs.{Nodes.node_count, Conditions.Name, declared.condition.Condition.Condition, Tree.Step, Tree.Phase, Tree.Trees, Tree.Choices, Tree.Tree, Tree.runs, Tree.follows, Tree.act, Tree.skip, Tree.seq, Tree.par, Tree.sel, Tree.loop, declared.entry.Entry.Entry, declared.recipe.Recipe.Recipe, Conditions.ValueList}
use Rattle.batch_chart.{specs.declared.running.Running.Running, specs.declared.stage.Stage.Stage, specs.Early.AreHeld, specs.Early.AreNodes, specs.Early.in_advance, specs.declared.passed.Passed.Passed, proofs.ActPlaces.withdrawn-reached, specs.Charts.IsChartOf, specs.Charts.IsRunning, specs.Charts.IsRunningOf, specs.Charts.RunsAs, specs.Charts.remains, specs.Meaning.meaning, specs.Starting.HasStarted, specs.Starting.AreStarted, specs.Starting.HasWithdrawn, specs.Starting.AreWithdrawn, proofs.WithdrawalSigns.withdrawn-neat, specs.Outlined.end_at, specs.Outlined.Stands, specs.Noting.stage_signs, specs.Neat.act_shows, specs.Neat.runs_below, specs.Neat.is_single, specs.Neat.shown_of, specs.Neat.AreNeat, specs.Nexts.IsInOrder, specs.NodesOf.most_by, specs.NodesOf.needs_in, specs.NodesOf.node_at, specs.NodesOf.own_units, specs.Running.IsLaid, specs.Running.IsAlive, specs.Stages.stage_at, specs.Stages.is_finished, specs.Upkeep.IsKeptUp, proofs.NodesAtNumbers.node-stands, proofs.ActSigns.noted, proofs.ChartChange.all-told, proofs.TreePositions.stood, proofs.TreePositions.PhaseAt, proofs.TreePositions.phase_at, proofs.TreePositions.phase-at, proofs.TreePositions.ActAt, proofs.TreePositions.act_at, proofs.TreePositions.act-at, proofs.TreePositions.SkipAt, proofs.TreePositions.skip_at, proofs.TreePositions.skip-at, proofs.TreePositions.SeqAt, proofs.TreePositions.seq_at, proofs.TreePositions.seq-at, proofs.TreePositions.ParAt, proofs.TreePositions.par_at, proofs.TreePositions.par-at, proofs.TreePositions.SelAt, proofs.TreePositions.sel_at, proofs.TreePositions.sel-at, proofs.TreePositions.LoopAt, proofs.TreePositions.loop_at, proofs.TreePositions.loop-at, specs.ByValues.reach_by}
use Rattle.batch_model.specs.{Rest.Rest, Rest.withdrawn, Plant.InAdvance, Lists.Has}

-- two trees at one node are alike in the signs of the node, and in the running of its descendants
record AreLike (c d : Tree) : Type 0 where
  pub below : (x : Stage) → runs_below c x ≡ runs_below d x
  pub single : is_single c ≡ is_single d
  pub shows : (x : Stage) (b : Bool) → shown_of c x b ≡ shown_of d x b

module _ (ns : List Entry) (doc : Recipe) (n : ℕ) where
  like-phase : (s : Step) (p : Phase) (i : ℕ) (d : Tree) → PhaseAt ns doc n (length s.needs) i d → AreLike (act s (runs p)) d
  like-phase s p i _ (phase_at u q a f count) = record { below = λ x. refl; single = refl; shows = λ x b. ap (λ k. stage_signs k x) (sym count) }

  like-act : (s : Step) (name : Name) (c d : Tree) → ActAt ns doc n (length s.needs) d → AreLike (act s (follows name c)) d
  like-act s name c _ (act_at u other e a f count) = record { below = λ x. refl; single = refl; shows = λ x b. ap (λ k. act_shows k x b) (sym count) }

  like-skip : (d : Tree) → SkipAt ns doc n d → AreLike skip d
  like-skip _ skip_at = record { below = λ x. refl; single = refl; shows = λ x b. refl }

  like-seq : (ts : Trees) (d : Tree) → SeqAt ns doc n d → AreLike (seq ts) d
  like-seq ts _ (seq_at us a) = record { below = λ x. refl; single = refl; shows = λ x b. refl }

  like-par : (ts : Trees) (d : Tree) → ParAt ns doc n d → AreLike (par ts) d
  like-par ts _ (par_at us a) = record { below = λ x. refl; single = refl; shows = λ x b. refl }

  like-sel : (ch : Choices) (i : ℕ) (d : Tree) → SelAt ns doc n i d → AreLike (sel ch) d
  like-sel ch i _ (sel_at dh a) = record { below = λ x. refl; single = refl; shows = λ x b. refl }

  like-loop : (k i : ℕ) (p : Condition) (body d : Tree) → LoopAt ns doc n k i d → AreLike (loop k p body) d
  like-loop k i p body _ (loop_at q other a b e) = record { below = λ x. refl; single = refl; shows = λ x b. refl }

  like : (c d : Tree) → Stands ns doc n c → Stands ns doc n d → AreLike c d
  like (act s (runs p)) d h k = like-phase s p h.0 d (phase-at ns doc n (length s.needs) h.0 h.1.1 d k)
  like (act s (follows name c)) d h k = like-act s name c d (act-at ns doc n (length s.needs) h.0.1 d k)
  like skip d h k = like-skip d (skip-at ns doc n h.1 d k)
  like (seq ts) d h k = like-seq ts d (seq-at ns doc n h.0.1 d k)
  like (par ts) d h k = like-par ts d (par-at ns doc n h.0.1 d k)
  like (sel ch) d h k = like-sel ch h.0 d (sel-at ns doc n h.0 h.1.1 d k)
  like (loop i p body) d h k = like-loop i h.0 p body d (loop-at ns doc n i h.0 h.1.1 d k)

-- two charts of one tree agree on its nodes

module _ (t : Tree) (ns ms : List Entry) (doc es : Recipe) (laid : IsLaid ns doc t) (other : IsLaid ms es t) where
  same-end : (i : ℕ) → i < node_count t → end_at ms i ≡ end_at ns i
  same-end i lt =
      (stood ms es i (node_at t i).here (node-stands ms es t other i (omega (arith, lt, other.count)))).end
      ∙ sym (stood ns doc i (node_at t i).here (node-stands ns doc t laid i (omega (arith, lt, laid.count)))).end

  pub neat-anywhere : (xs : List Stage) (signs : List ℕ) → AreNeat ns doc 0 (length ns) xs signs → AreNeat ms es 0 (length ms) xs signs
  neat-anywhere xs signs h j c a b s =
      let lt : j < node_count t = omega (arith, b, other.count) in
      let here = node-stands ns doc t laid j (omega (arith, lt, laid.count)) in
      let there = node-stands ms es t other j b in
      let l = like ms es j c (node_at t j).here s there in
      let own = h j (node_at t j).here (omega arith) (omega (arith, lt, laid.count)) here in
      let size : node_count c ≡ node_count (node_at t j).here = omega (arith, (stood ms es j c s).end, (stood ms es j (node_at t j).here there).end) in
      let within : j + node_count c ≤ node_count t = omega (arith, (stood ms es j c s).fits, other.count) in
      record {
        shut = λ u k p q. own.shut (sym (l.below (stage_at xs j)) ∙ u) k p (omega (arith, q, size));
        lone = λ one i p q root u k v w out.
            own.lone (sym l.single ∙ one) i p (omega (arith, q, size))
            (λ z f g. let e = same-end z (omega (arith, g, q, within)) in omega (arith, e, root z f g)) u k v (omega (arith, w, size))
            (elim out [ inl f ↦ inl f | inr f ↦ (let e = same-end i (omega (arith, q, within)) in inr (omega (arith, e, f))) ]);
        shown = own.shown ∙ sym (l.shows (stage_at xs j) (is_finished (stage_at xs (j + 1))));
      }

-- a running chart is in order over whichever chart of its tree
pub runs-in-order : (chart : Recipe) (running : Running) → IsRunning chart running → IsInOrder chart.outline.entries.items chart running.stages.items running.signs
runs-in-order chart running h =
    let ns = chart.outline.entries.items in
    let count = h.2.count ∙ sym h.1.count in
    let neat = h.2.neat ns chart h.1 in
    record {
      lives = (h.0, h.1, h.2.alive);
      noted = (h.0, h.1, noted ns chart running.stages.items running.signs h.0 h.1 h.2.alive h.2.count neat, all-told ns chart h.0 h.1 running.stages.items h.2.alive, neat);
      count = count;
    }

-- the needs held in advance are held by its nodes
pub is-held : (chart : Recipe) (running : Running) (h : IsRunning chart running) → AreHeld (length chart.outline.entries.items) (most_by own_units h.0) running.held.items (deque_capacity running.held)
is-held chart running h = subst (λ n. AreHeld n (most_by own_units h.0) running.held.items (deque_capacity running.held)) (sym h.1.count) h.2.held

pub held-nodes : (ns : List Entry) (held : List Passed) → ((p : Passed) → Has held p → p.to < length ns) → AreNodes ns held
held-nodes ns [] within j lt = absurd (omega arith)
held-nodes ns (p ∷ held) within zero lt = within p (inl refl)
held-nodes ns (p ∷ held) within (suc j) lt = held-nodes ns held (λ q i. within q (inr i)) j (omega arith)

-- nothing is held in advance
nothing-held : (count most : ℕ) (held : List Passed) (room : ℕ) → held ≡ [] → most < room → AreHeld count most held room
nothing-held count most held room e lt = subst (λ l. AreHeld count most l room) (sym e) (record { within = λ p i. absurd i; enough = lt })

-- it runs, where its stages live and its signs go by them
pub runs-by : (chart : Recipe) (running : Running) (t : Tree) → IsChartOf t chart → IsAlive t running.stages.items → length running.signs ≡ length chart.outline.entries.items → AreHeld (node_count t) (most_by own_units t) running.held.items (deque_capacity running.held)
    → running.needs ≡ needs_in t → AreNeat chart.outline.entries.items chart 0 (length chart.outline.entries.items) running.stages.items running.signs → IsRunningOf t running
runs-by chart running t laid alive count held needs neat = record {
  alive = alive;
  count = count ∙ laid.count;
  held = held;
  needs = needs;
  neat = λ ms es other. neat-anywhere t chart.outline.entries.items ms chart es laid other running.stages.items running.signs neat;
}

-- a call has changed the stages, and the signs with them
pub went-on : (chart : Recipe) (old new : Running) (ys : List Stage) → new.stages.items ≡ ys → IsKeptUp chart.outline.entries.items chart old.stages.items ys old.signs new.signs → (t : Tree) → IsChartOf t chart → IsRunningOf t old → IsAlive t ys → new.held ≡ old.held → new.needs ≡ old.needs
    → IsRunningOf t new
went-on chart old new ys is up t laid ran alive same needs =
    runs-by chart new t laid (subst (IsAlive t) (sym is) alive) (up.count ∙ ran.count ∙ sym laid.count) (subst (λ z. AreHeld (node_count t) (most_by own_units t) z.items (deque_capacity z)) (sym same) ran.held)
    (needs ∙ ran.needs) (subst (λ z. AreNeat chart.outline.entries.items chart 0 (length chart.outline.entries.items) z new.signs) (sym is) (up.keeps (ran.neat chart.outline.entries.items chart laid)))

pub started-runs : (chart : Recipe) (running : Running) (ys : List Stage) → running.stages.items ≡ ys → HasStarted (length chart.outline.entries.items) ys → AreStarted chart.outline.entries.items ys running.signs → (t : Tree) (vs : ValueList) → IsChartOf t chart
    → running.held.items ≡ [] → most_by own_units t < deque_capacity running.held → running.needs ≡ needs_in t → IsRunningOf t running × (remains t running ≡ reach_by vs t) × RunsAs t running (reach_by vs t) []
started-runs chart running ys is started shown t vs laid none room needs =
    let h = started.means t vs laid.root laid.count in (
      runs-by chart running t laid (subst (IsAlive t) (sym is) h.0) shown.0 (nothing-held (node_count t) (most_by own_units t) running.held.items (deque_capacity running.held) none room) needs (subst (λ z. AreNeat chart.outline.entries.items chart 0 (length chart.outline.entries.items) z running.signs) (sym is) (shown.1 chart t laid)),
      ap (meaning t 0) is ∙ h.1,
      record {
        rest = sym (ap (meaning t 0) is ∙ h.1);
        held = sym (ap (in_advance t) none);
        waiting = λ x i. absurd i;
      },
    )

pub stopped-runs : (old new : Running) (ys : List Stage) → new.stages.items ≡ ys → HasWithdrawn old.stages.items ys → AreWithdrawn old.stages.items ys old.signs new.signs → (t : Tree) → new.held ≡ old.held → new.needs ≡ old.needs → IsRunningOf t old
    → IsRunningOf t new × (remains t new ≡ withdrawn (remains t old)) × ((r : Rest) (early : List InAdvance) → RunsAs t old r early → RunsAs t new (withdrawn r) early)
stopped-runs old new ys is stopped shown t same needs ran =
    let h = stopped.means t ran.alive in (
      record {
        alive = subst (IsAlive t) (sym is) h.0;
        count = shown.0 ∙ ran.count;
        held = subst (λ z. AreHeld (node_count t) (most_by own_units t) z.items (deque_capacity z)) (sym same) ran.held;
        needs = needs ∙ ran.needs;
        neat = λ ns doc laid.
            subst (λ z. AreNeat ns doc 0 (length ns) z new.signs) (sym is) (withdrawn-neat ns doc old.stages.items ys old.signs new.signs shown.1 shown.2 0 (length ns) (ran.neat ns doc laid));
      },
      ap (meaning t 0) is ∙ h.1,
      λ r early runs. record {
        rest = ap withdrawn runs.rest ∙ sym (ap (meaning t 0) is ∙ h.1);
        held = runs.held ∙ ap (λ z. in_advance t z.items) (sym same);
        waiting = λ x i. withdrawn-reached r x.place ∙ runs.waiting x i;
      },
    )

pub some-map : {X : Type 0} (P Q : X → Type 0) → ((x : X) → P x → Q x) → (o : Option X) → IfSome o P → IfSome o Q
some-map P Q f None h = tt
some-map P Q f (Some x) h = f x h
