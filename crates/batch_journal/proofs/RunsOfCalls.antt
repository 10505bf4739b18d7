-- How a run of calls goes on.
use Rattle.std.proofs.Common.{inl, inr, ⊎_elim, ℕ, arith}
use Rattle.batch_journal.specs.Disks.{Left, Elapses, LeavesOnly}

module _ {E : Type 0} (moment : E → ℕ) (left_since : E → ℕ → Left → Type 0) where
  -- before the first call
  pub started : (old : E) (P : Left → Type 0) → ((c : Left) → left_since old (moment old) c → P c) → LeavesOnly moment left_since old old P
  started old P here = record { later = omega arith; each = here; before = λ t c le left. inl left }

  -- one call more, in which a crash leaves only files of which P holds
  pub goes_on : (old mid new : E) (P may_leave : Left → Type 0) → LeavesOnly moment left_since old mid P → Elapses (moment mid) (moment new) (left_since mid) (left_since new) may_leave
      → ((c : Left) → may_leave c → P c) → LeavesOnly moment left_since old new P
  goes_on old mid new P may_leave so_far time here = record {
    later = omega (arith, so_far.later, time.later);
    each = λ c left. ⊎_elim (so_far.each c) (here c) (time.nothing_else (moment old) c so_far.later left);
    before = λ t c le left. ⊎_elim (so_far.before t c le) (λ now. inr (here c now)) (time.nothing_else t c (omega (arith, le, so_far.later)) left);
  }

-- a wider bound on the files that a crash in a call may leave
pub may_more : (before now : ℕ) (past later : ℕ → Left → Type 0) (may more : Left → Type 0) → Elapses before now past later may
    → ((left : Left) → may left → more left) → Elapses before now past later more
may_more before now past later may more time on = record {
  later = time.later;
  nothing_else = λ t left le since. ⊎_elim (λ was. inl was) (λ left_so. inr (on left left_so)) (time.nothing_else t left le since);
  keeps = time.keeps;
}

-- two runs, one after the other
pub then_run : {D : Type 0} (moment : D → ℕ) (left_since : D → ℕ → Left → Type 0) (old mid new : D) (P Q : Left → Type 0) → LeavesOnly moment left_since old mid P
    → LeavesOnly moment left_since mid new Q → ((left : Left) → Q left → P left) → LeavesOnly moment left_since old new P
then_run moment left_since old mid new P Q first second on = record {
  later = omega (arith, first.later, second.later);
  each = λ left had. ⊎_elim (first.each left) (on left) (second.before (moment old) left first.later had);
  before = λ t left le had. ⊎_elim (first.before t left le) (λ so. inr (on left so)) (second.before t left (omega (arith, le, first.later)) had);
}
