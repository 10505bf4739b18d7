-- A move or a report, and the taking over after it, keep a chart in order; the needs held in advance after a move.
use Rattle.std.proofs.Common.{◌≡◌, ◌<◌, ℕ, List, ◌∷◌, length, Bool, true, false, arith, inl, inr, refl, sym, ◌∙◌, subst}
use Rattle.batch_recipe.specs.{Tree.Tree, declared.entry.Entry.Entry, declared.recipe.Recipe.Recipe}
use Rattle.batch_chart.{specs.declared.chart_move.Move.Move, specs.declared.passed.Passed.Passed, specs.declared.stage.Stage.Stage, specs.Early.AreHeld, specs.Early.PassesWithin, specs.Early.held_after, specs.Early.is_early, specs.Nexts.IsInOrder, specs.Running.Allows, specs.Running.IsLaid, specs.Running.IsAlive, specs.Upkeep.IsKeptUp, proofs.KnownTests.chosen-true, proofs.KnownTests.chosen-false, proofs.ActSigns.noted, proofs.ChartChange.all-told}
use Rattle.batch_chart.specs.declared.chart_move.Move.TheVariants as move

pub passes-within : (ns : List Entry) (xs : List Stage) (m : Move) (n : ℕ) → Allows ns xs m → n ≡ length ns → PassesWithin n m
passes-within ns xs (move.Pass k to i) n a e = omega (arith, a.1, e)
passes-within ns xs (move.Send k c) n a e = tt
passes-within ns xs (move.State x) n a e = tt
passes-within ns xs (move.Release k i) n a e = tt
passes-within ns xs (move.Begin k) n a e = tt
passes-within ns xs (move.Start k) n a e = tt
passes-within ns xs (move.End k) n a e = tt
passes-within ns xs (move.Ask k i) n a e = tt

pub held-new : (held : List Passed) (k to i : ℕ) → is_early held to ≡ false → record { to = to; node = k; need = i } ∷ held ≡ held_after held (move.Pass k to i)
held-new held k to i e = sym (chosen-false (is_early held to) held (record { to = to; node = k; need = i } ∷ held) e)

pub held-again : (held : List Passed) (k to i : ℕ) → is_early held to ≡ true → held ≡ held_after held (move.Pass k to i)
held-again held k to i e = sym (chosen-true (is_early held to) held (record { to = to; node = k; need = i } ∷ held) e)

pub held-other : (held : List Passed) (m : Move) → ((k to i : ℕ) → m ≡ move.Pass k to i → ⊥) → held ≡ held_after held m
held-other held (move.Pass k to i) f = absurd (f k to i refl)
held-other held (move.Send k c) f = refl
held-other held (move.State x) f = refl
held-other held (move.Release k i) f = refl
held-other held (move.Begin k) f = refl
held-other held (move.Start k) f = refl
held-other held (move.End k) f = refl
held-other held (move.Ask k i) f = refl

-- the needs held in advance are held by nodes after a move as well
pub held-kept : (count most : ℕ) (held : List Passed) (room : ℕ) (m : Move) → AreHeld count most held room → PassesWithin count m → AreHeld count most (held_after held m) room
held-kept count most held room (move.Pass k to i) h lt = go (is_early held to)
  where
    go : (b : Bool) → AreHeld count most (elim b as (λ _. List Passed) [ true ↦ held | false ↦ record { to = to; node = k; need = i } ∷ held ]) room
    go true = h
    go false = record { within = λ p j. elim j [ inl q ↦ subst (λ (z : Passed). z.to < count) q lt | inr j ↦ h.within p j ]; enough = h.enough }
held-kept count most held room (move.Send k c) h lt = h
held-kept count most held room (move.State x) h lt = h
held-kept count most held room (move.Release k i) h lt = h
held-kept count most held room (move.Begin k) h lt = h
held-kept count most held room (move.Start k) h lt = h
held-kept count most held room (move.End k) h lt = h
held-kept count most held room (move.Ask k i) h lt = h

pub in-order-after : (ns : List Entry) (doc : Recipe) (xs ys : List Stage) (old new : List ℕ) → IsInOrder ns doc xs old → ((t : Tree) → IsLaid ns doc t → IsAlive t xs → IsAlive t ys) → IsKeptUp ns doc xs ys old new → IsInOrder ns doc ys new
in-order-after ns doc xs ys old new h lives kept =
    let t = h.lives.0 in
    let laid = h.lives.1 in
    let alive = lives t laid h.lives.2 in
    let neat = kept.keeps h.noted.4 in
    record {
      lives = (t, laid, alive);
      noted = (t, laid, noted ns doc ys new t laid alive (kept.count ∙ h.count ∙ laid.count) neat, all-told ns doc t laid ys alive, neat);
      count = kept.count ∙ h.count;
    }
