-- Once no act is in line, each node is neat.
use Rattle.std.proofs.Common.{◌≡◌, ◌≢◌, ◌⊎◌, ◌&&◌, inl, inr, ◌<◌, ◌≤◌, below_more, ℕ, ◌+◌, List, length, Bool, true, false, nat_eq, nat_lt, nat_le, arith, refl, sym, ◌∙◌, ap, ap₂, length-set, get_or-set_same, get_or-set_other}
use Rattle.std.{specs.Prelude.slice_set, specs.Prelude.not, specs.Prelude.is_none, specs.Int.Bits.bit_or, proofs.lemmas.Bool.cases_lt, proofs.lemmas.Bool.Decides.eqb_tells, proofs.lemmas.Bool.Decides.nat_tests, proofs.lemmas.List.get_or_past}
use Rattle.batch_recipe.specs.{Tree.runs, Tree.follows, Tree.Tree, Tree.act, Tree.skip, Tree.loop, declared.entry.Entry.Entry, declared.recipe.Recipe.Recipe}
use Rattle.batch_chart.{specs.declared.sign.TheConstants.LACKS, specs.declared.sign.TheConstants.FITS, specs.declared.sign.TheConstants.WAITS, specs.declared.sign.TheConstants.HOLDS, specs.declared.sign.TheConstants.IS_ACT, specs.declared.stage.Stage.Stage, specs.declared.stage.Stage.TheVariants.Finished, specs.declared.stage.Stage.TheVariants.Asking, specs.Neat.runs_below, specs.Neat.shown_of, specs.Neat.AreNeat, specs.Noting.flag, specs.Noting.asking_signs, specs.Noting.ready_signs, specs.Noting.readied, specs.Stages.stage_at, specs.Stages.is_finished, specs.Starting.again, specs.Starting.withdrawn_sign, specs.Starting.AreWithdrawn, proofs.KnownTests.chosen-true, proofs.KnownTests.chosen-false, proofs.StartAndWithdrawal.IsSoFar, proofs.StartAndWithdrawal.keeps, proofs.StartAndWithdrawal.finished-again, proofs.StartAndWithdrawal.begun-again, proofs.StartAndWithdrawal.turns-again, proofs.StartAndWithdrawal.stage-past}
use Rattle.batch_signs.specs.Signs.{sign_at, replaced}

-- an act in line that is ready again shows just that

readied-flags : (a b h : Bool) → b ≡ not a → readied (bit_or (bit_or IS_ACT (flag a WAITS)) (flag h HOLDS)) ≡ bit_or (bit_or (bit_or IS_ACT (flag a LACKS)) (flag b FITS)) (flag h HOLDS)
readied-flags x1 x2 x3 x4 = grind arith

lacks-or-fits : (k needs : ℕ) → nat_le needs k ≡ not (nat_lt k needs)
lacks-or-fits k needs = elim (cases_lt k needs) [ inl lt ↦ grind (arith, nat_tests) | inr le ↦ grind (arith, nat_tests) ]

readied-asking : (needs k : ℕ) → readied (asking_signs needs k) ≡ ready_signs needs k
readied-asking needs k = readied-flags (nat_lt k needs) (nat_le needs k) (nat_lt 0 k && nat_lt 0 needs) (lacks-or-fits k needs)

some-sign : (a h : Bool) → nat_eq (bit_or (bit_or IS_ACT (flag a WAITS)) (flag h HOLDS)) 0 ≡ false
some-sign x1 x2 = grind arith

waits-then : (needs k : ℕ) → withdrawn_sign (Asking k) (asking_signs needs k) ≡ ready_signs needs k
waits-then needs k =
    chosen-false (nat_eq (asking_signs needs k) 0) (asking_signs needs k) (readied (asking_signs needs k)) (some-sign (nat_lt k needs) (nat_lt 0 k && nat_lt 0 needs)) ∙ readied-asking needs k

shows-again : (c : Tree) (x : Stage) (b : Bool) → withdrawn_sign x (shown_of c x b) ≡ shown_of c (again x) b
shows-again (act s (runs p)) (Asking k) b = waits-then (length s.needs) k
shows-again (act s (follows name c)) (Asking k) b = waits-then (length s.needs) k
shows-again c (Asking k) b = refl
shows-again c x b = refl

runs-again : (c : Tree) (x : Stage) → runs_below c (again x) ≡ runs_below c x
runs-again skip x = refl
runs-again (loop i p body) x = ap (λ o. not (is_none o)) (turns-again x)
runs-again y x = begun-again x

module _ (ns : List Entry) (doc : Recipe) (xs zs : List Stage) (old new : List ℕ) (stages : (k : ℕ) → stage_at zs k ≡ again (stage_at xs k)) (signs : (k : ℕ) → sign_at new k ≡ withdrawn_sign (stage_at xs k) (sign_at old k)) where
  status : (k : ℕ) → is_finished (stage_at zs k) ≡ is_finished (stage_at xs k)
  status k = ap is_finished (stages k) ∙ finished-again (stage_at xs k)

  still : (k : ℕ) → stage_at xs k ≡ Finished → stage_at zs k ≡ Finished
  still k e = stages k ∙ ap again e

  pub withdrawn-neat : (n m : ℕ) → AreNeat ns doc n m xs old → AreNeat ns doc n m zs new
  withdrawn-neat n m h j c a b s =
      let own = h j c a b s in
      record {
        shut = λ u k p q. still k (own.shut (sym (ap (runs_below c) (stages j) ∙ runs-again c (stage_at xs j)) ∙ u) k p q);
        lone = λ one i p q root u k v w out. still k (own.lone one i p q root (sym (status i) ∙ u) k v w out);
        shown = signs j ∙ ap (withdrawn_sign (stage_at xs j)) own.shown ∙ shows-again c (stage_at xs j) (is_finished (stage_at xs (j + 1)))
            ∙ ap₂ (shown_of c) (sym (stages j)) (sym (status (j + 1)));
      }

-- withdrawing, node by node

pub replaced-sign : (signs : List ℕ) (n v k : ℕ) → (k ≡ n → sign_at (replaced signs n v) k ≡ elim (nat_eq (sign_at signs n) 0) as (λ _. ℕ) [ true ↦ sign_at signs n | false ↦ v ]) × (k ≢ n → sign_at (replaced signs n v) k ≡ sign_at signs k)
replaced-sign signs n v k = go (eqb_tells (sign_at signs n) 0)
  where
    go : ((nat_eq (sign_at signs n) 0 ≡ true) × (sign_at signs n ≡ 0)) ⊎ ((nat_eq (sign_at signs n) 0 ≡ false) × (sign_at signs n ≢ 0))
        → (k ≡ n → sign_at (replaced signs n v) k ≡ elim (nat_eq (sign_at signs n) 0) as (λ _. ℕ) [ true ↦ sign_at signs n | false ↦ v ]) × (k ≢ n → sign_at (replaced signs n v) k ≡ sign_at signs k)
    go (inl q) =
        let same : replaced signs n v ≡ signs = chosen-true (nat_eq (sign_at signs n) 0) signs (slice_set signs n v) q.0 in
        ((λ e. ap (λ z. sign_at z k) same ∙ ap (sign_at signs) e ∙ sym (chosen-true (nat_eq (sign_at signs n) 0) (sign_at signs n) v q.0)), (λ ne. ap (λ z. sign_at z k) same))
    go (inr q) =
        let other : replaced signs n v ≡ slice_set signs n v = chosen-false (nat_eq (sign_at signs n) 0) signs (slice_set signs n v) q.0 in
        let lt : n < length signs = elim (cases_lt n (length signs)) [ inl l ↦ l | inr l ↦ absurd (q.1 (get_or_past {X = ℕ} signs n 0 l)) ] in (
          (λ e. ap (λ z. sign_at z k) other ∙ ap (sign_at (slice_set signs n v)) e ∙ get_or-set_same signs n v 0 lt ∙ sym (chosen-false (nat_eq (sign_at signs n) 0) (sign_at signs n) v q.0)),
          (λ ne. ap (λ z. sign_at z k) other ∙ get_or-set_other signs n k v 0 ne),
        )

pub replaced-length : (signs : List ℕ) (n v : ℕ) → length (replaced signs n v) ≡ length signs
replaced-length signs n v = go (nat_eq (sign_at signs n) 0)
  where
    go : (b : Bool) → length (elim b as (λ _. List ℕ) [ true ↦ signs | false ↦ slice_set signs n v ]) ≡ length signs
    go true = refl
    go false = length-set signs n v

pub record AreSoFar (xs : List Stage) (old new : List ℕ) (n : ℕ) : Type 0 where
  pub count : length new ≡ length old
  pub before : (k : ℕ) → k < n → sign_at new k ≡ withdrawn_sign (stage_at xs k) (sign_at old k)
  pub after : (k : ℕ) → n ≤ k → sign_at new k ≡ sign_at old k

pub signs-none : (xs : List Stage) (old : List ℕ) → AreSoFar xs old old 0
signs-none xs old = record { count = refl; before = λ k lt. absurd (omega arith); after = λ k le. refl }

pub signs-asking : (xs : List Stage) (old new : List ℕ) (n held v : ℕ) → AreSoFar xs old new n → stage_at xs n ≡ Asking held → v ≡ readied (sign_at new n) → AreSoFar xs old (replaced new n v) (n + 1)
signs-asking xs old new n held v h e is = record {
  count = replaced-length new n v ∙ h.count;
  before = below_more _ _ (λ k l. (replaced-sign new n v k).1 (λ q. absurd (omega (arith, l, q))) ∙ h.before k l)
      ((replaced-sign new n v n).0 refl ∙ ap (λ z. elim (nat_eq (sign_at new n) 0) as (λ _. ℕ) [ true ↦ sign_at new n | false ↦ z ]) is
      ∙ ap (withdrawn_sign (Asking held)) (h.after n (omega arith)) ∙ ap (λ z. withdrawn_sign z (sign_at old n)) (sym e));
  after = λ k l. (replaced-sign new n v k).1 (λ q. absurd (omega (arith, l, q))) ∙ h.after k (omega arith);
}

other-sign : (x : Stage) (s : ℕ) → ((k : ℕ) → x ≡ Asking k → ⊥) → s ≡ withdrawn_sign x s
other-sign (Asking k) s h = absurd (h k refl)
other-sign x s h = refl

pub signs-other : (xs : List Stage) (old new : List ℕ) (n : ℕ) → AreSoFar xs old new n → ((k : ℕ) → stage_at xs n ≡ Asking k → ⊥) → AreSoFar xs old new (n + 1)
signs-other xs old new n h e = record {
  count = h.count;
  before = below_more _ _ h.before (h.after n (omega arith) ∙ other-sign (stage_at xs n) (sign_at old n) e);
  after = λ k l. h.after k (omega arith);
}

pub signs-withdrawn : (xs ys : List Stage) (old new : List ℕ) (n : ℕ) → length xs ≤ n → length ys ≡ length xs → IsSoFar xs ys n → AreSoFar xs old new n → AreWithdrawn xs ys old new
signs-withdrawn xs ys old new n le l f h = (
  h.count,
  (λ k. elim (cases_lt k n) [
    | inl q ↦ f.0 k q
    | inr q ↦ f.1 k q ∙ sym (keeps (stage_at xs k) (λ i e. let z : Finished ≡ Asking i = sym (stage-past xs k (omega arith)) ∙ e in absurd (cc)))
  ]),
  (λ k. elim (cases_lt k n) [
    | inl q ↦ h.before k q
    | inr q ↦ h.after k q ∙ sym (ap (λ z. withdrawn_sign z (sign_at old k)) (stage-past xs k (omega arith)))
  ]),
)
