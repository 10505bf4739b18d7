use Rattle.std.proofs.Common.{◌≡◌, ◌∙◌, ap, arith, subst, refl, ℕ, Option, Some, None, true, false}
use Rattle.std.specs.Prelude.{is_some, not}
use Rattle.batch_signs.specs.Signs.{IsNextShown}
use Rattle.batch_chart.{specs.declared.sign.TheConstants.WAITS, specs.Nexts.IsFoundFirst, proofs.SignSearch.found-from, proofs.SignTests.said-waiting, proofs.SignTests.waits_from, proofs.FirstInLine.waiting-none, proofs.FirstInLine.waiting-there}
use Rattle.batch_chart.proofs.running.Running.awaits_none.Goals as goal
use Rattle.batch_chart.proofs.running.Running.awaits_none.Goals.{After-are_absent}

none-found : (found : Option ℕ) → is_some found ≡ not true → found ≡ None
none-found None is = refl
none-found (Some n) is = absurd (let shown : ◌≡◌ true false = is in cc)

some-found : (found : Option ℕ) → is_some found ≡ not false → (n : ℕ) × (found ≡ Some n)
some-found None is = absurd (let shown : ◌≡◌ false true = is in cc)
some-found (Some n) is = (n, refl)

-- the search by signs is one of acts
found : (c : After-are_absent) (result : Option ℕ) → c.are_absent.ensures.0 ≡ result → IsFoundFirst c.scene.result.nodes.now c.scene.result.recipe.now c.scene.result.stages.now (waits_from 0) result
found c result is =
    found-from _ _ _ _ (waits_from 0) _ 0 result (said-waiting 0) c.scene.ensures.scene.noted
    (subst (λ found. IsNextShown c.scene.result.signs.now WAITS 0 found) is c.are_absent.ensures.1)

pub returns-clause-none : goal.returns-clause-none
returns-clause-none c = λ is t laid running k i asks.
    (let none = found (goal.at.returns-clause-none c).After-are_absent None (none-found c.are_absent.ensures.0 (c.are_absent.ensures.2 ∙ ap not is)) in
    (rw (c.scene.ensures.nodes, c.scene.ensures.recipe, c.scene.ensures.stages) at (waiting-none _ _ _ 0 c.scene.ensures.scene.lives none)).none refl t laid running.alive k i (omega arith) asks)

pub returns-clause-some : goal.returns-clause-some
returns-clause-some c = λ is t laid running.
    (let n = some-found c.are_absent.ensures.0 (c.are_absent.ensures.2 ∙ ap not is) in
    let some = found (goal.at.returns-clause-some c).After-are_absent (Some n.0) n.1 in
    let there = rw (c.scene.ensures.nodes, c.scene.ensures.recipe, c.scene.ensures.stages) at (waiting-there _ _ _ 0 c.scene.ensures.scene.lives n.0 some) in
    let asks = there t laid running.alive in
    (n.0, asks.0, asks.1))
