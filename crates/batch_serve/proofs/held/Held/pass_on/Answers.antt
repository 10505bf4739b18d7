use Rattle.std.proofs.Common.{◌≡◌, ◌≤◌, ◌∙◌, ℕ, List, Result, Ok, Err, OnOk, length, drop, ap, arith, length-take, length-drop}
use Rattle.batch_serve.proofs.PassedText.{passes_on, keeps_on}
use Rattle.batch_serve.proofs.held.Held.pass_on.Goals as goal

pub remove_front-requires : goal.remove_front-requires
remove_front-requires g c =
    let held = c.as_slice.result.now in
    omega (arith, c.write_out-count.ensures.bound, length-take c.args.self.now.cleared held, ap length c.as_slice.ensures.value)

pub overflow_sub-self : goal.overflow_sub-self
overflow_sub-self g c = omega (arith, c.write_out-count.ensures.bound, length-take c.args.self.now.cleared c.as_slice.result.now)

pub invariant_of-self : goal.invariant_of-self
invariant_of-self g c =
    let now = c.args.self.now in
    let few : c.write_out-count.result.0 ≤ now.cleared = omega (arith, c.write_out-count.ensures.bound, length-take now.cleared c.as_slice.result.now) in
    record {
      within = omega (arith, now.within, few, ap length c.remove_front.ensures, length-drop c.write_out-count.result.0 now.held.items);
      told = passes_on _ _ now.held.items _ _ now.cleared _ c.as_slice.ensures.value c.remove_front.ensures few c.write_out-count.ensures.bytes _ now.told;
    }

pub returns-clause-bytes : goal.returns-clause-bytes
returns-clause-bytes g c =
    let now = c.args.self.now in
    let few : c.write_out-count.result.0 ≤ now.cleared = omega (arith, c.write_out-count.ensures.bound, length-take now.cleared c.as_slice.result.now) in
    keeps_on _ _ now.held.items _ _ now.cleared _ c.as_slice.ensures.value c.remove_front.ensures few c.write_out-count.ensures.bytes

on_ok : {A E : Type 0} (r : Result A E) (P Q : Type 0) → (P → Q) → OnOk r P → OnOk r Q
on_ok (Ok x) P Q f p = f p
on_ok (Err e) P Q f p = tt

pub returns-clause-ok : goal.returns-clause-ok
returns-clause-ok g c =
    let now = c.args.self.now in
    let held = c.as_slice.result.now in
    on_ok c.write_out-count.result.1 _ _
    (λ all.
    let whole : c.write_out-count.result.0 ≡ now.cleared = omega (arith, all, now.within, length-take now.cleared held, ap length c.as_slice.ensures.value) in
    ◌∙◌ {A = List ℕ} c.remove_front.ensures (ap (λ n. drop n now.held.items) whole))
    c.write_out-count.ensures.all
