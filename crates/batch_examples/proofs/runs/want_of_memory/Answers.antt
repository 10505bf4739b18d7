use Rattle.std.proofs.Common.{refl, inl, inr, ap}
use Rattle.batch_examples.proofs.runs.want_of_memory.Goals as goal

pub returns-clause-refuses : goal.returns-clause-refuses
returns-clause-refuses c = inr (tt, refl, refl)

pub returns-clause-changes_nothing : goal.returns-clause-changes_nothing
returns-clause-changes_nothing c = elim [ inl e ↦ absurd (let told = ap (λ it. it.0) e in cc) | inr m ↦ absurd (let numbers = ap (λ it. it.next_number) m.2 in cc) ]

pub returns-clause-bad_size : goal.returns-clause-bad_size
returns-clause-bad_size c = elim [ inl e ↦ absurd (let told = ap (λ it. it.0) e in cc) | inr m ↦ m.0 ]

pub returns-clause-unknown_recipe : goal.returns-clause-unknown_recipe
returns-clause-unknown_recipe c = elim [ inl e ↦ absurd (let told = ap (λ it. it.0) e in cc) | inr m ↦ m.0 ]

pub returns-clause-command : goal.returns-clause-command
returns-clause-command c = elim [ inl e ↦ absurd (let told = ap (λ it. it.0) e in cc) | inr m ↦ m.0 ]
