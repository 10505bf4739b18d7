-- Plants in which a holder isn't at work.
use Rattle.std.proofs.Common.{◌≡◌, ◌⊎◌, sym, ap, subst, inl, inr, arith, [], ◌∷◌}
use Rattle.batch_matrix.specs.declared.state.State.{State}
use Rattle.batch_recipe.specs.Tree.{Place, Step, Phase}
use Rattle.batch_model.specs.{Lists.Has, Plant.Batch, Rest.live, Rest.acts, Records.IsAtOrAbove}
use Rattle.batch_examples.specs.{RowParts.p0, RowsOfSettlement.nothing_is_live}
use Rattle.batch_safety.specs.Settlement.{IsHalting}

-- the condition on which a batch, or a phase of it, works for a holder at a place
abbrev pub Works : Place → Batch → Type 0
Works h b = IsHalting b.state ⊎ ((p : Step) × (x : Phase) × (t : State) × Has (acts b.rest) (live p x t) × IsAtOrAbove h p.place)

-- of two batches that are numbered 1 and 2 the first alone can work for a holder of batch 1
pub first_alone : (x y b : Batch) (h : Place) → y.number ≡ 2 → (Works h x → ⊥) → Has (x ∷ y ∷ []) b → b.number ≡ 1 → Works h b → ⊥
first_alone x y b h two not_first (inl e) one w = not_first (subst (Works h) (sym e) w)
first_alone x y b h two not_first (inr (inl e)) one w = absurd (let same : y.number ≡ b.number = ap (λ z. z.number) e in omega (arith, same, one, two))
first_alone x y b h two not_first (inr (inr none)) one w = none

-- a running batch without a live phase doesn't
pub nothing_works : Works p0 nothing_is_live → ⊥
nothing_works (inl halting) = absurd cc
nothing_works (inr phase) = elim phase.3 [ inl e ↦ absurd cc | inr none ↦ absurd none ]
