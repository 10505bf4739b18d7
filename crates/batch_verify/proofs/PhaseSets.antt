-- Sets of the phases of trees.
use Rattle.std.proofs.Common.{◌≡◌, ◌≤◌, ◌<◌, ◌+◌, ◌↔◌, ℕ, Bool, true, false, ◌||◌, ◌⊎◌, cond, nat_eq, List, [], ◌∷◌, ◌++◌, length, get_or, set, inl, inr, Option, None, Some, refl, sym, ap, ap₂, ◌∙◌, subst, arith, position, unwrap_or, slice_get}
use Rattle.std.{specs.Borrow.Bor, specs.Cmp.Lexicographic.bytes_decides, proofs.lemmas.Bool.cases_eq, proofs.lemmas.Bool.eq-eqb, proofs.lemmas.Bool.eqb-true, proofs.lemmas.Bool.false_from_ne_true, proofs.lemmas.Bool.ne_eqb, proofs.lemmas.Bool.or_cases, proofs.lemmas.List.get_or-set_same, proofs.lemmas.List.get_or-set_other, proofs.lemmas.List.length-set, proofs.lemmas.List.Quantifiers.position-Some}
use Rattle.batch_recipe.{specs.Conditions.Name, specs.Conditions.same_name, specs.Nodes.Node, specs.Procedure.procedure_nodes, specs.WellFormed.is_among, specs.declared.act.Act.Act, specs.declared.act.Work.Work, specs.declared.act.Work.TheVariants.Follows, specs.declared.act.Work.TheVariants.Runs, specs.declared.acts.Acts.Acts, proofs.FirstMatch.position_front, proofs.FirstMatch.position_later, proofs.FirstMatch.position_nowhere}
use Rattle.batch_verify.{specs.NodePhases.phase_run, specs.PhaseSets.has, specs.PhaseSets.has_some, specs.PhaseSets.number_in, specs.PhaseSets.number_of, specs.PhaseSets.runs, specs.PhaseSets.AreKnownFrom, specs.PhaseSets.GivesNumber, specs.PhaseSets.IsOfTree, specs.PhaseSets.IsSetOf, specs.declared.phase_set.PhaseSet.PhaseSet, specs.declared.tree_phases.TreePhases.TreePhases, proofs.PhaseNames.is_among-append, proofs.BranchesApart.AreApart}

or_none : (b : Bool) → (b || false) ≡ true → b ≡ true
or_none b e = grind arith

-- Numbers of phases

same_run : (w : Work) (x y : Name) → is_among (phase_run w) x ≡ true → is_among (phase_run w) y ≡ true → x ≡ y
same_run (Follows chart) x y a b = let bad : false ≡ true = a in absurd cc
same_run (Runs phase values reports) x y a b =
    (bytes_decides x phase).0 (or_none (same_name x phase) a) ∙ sym ((bytes_decides y phase).0 (or_none (same_name y phase) b))

-- a number is that of one phase
one_phase : (steps : List Act) (x y : Name) (n : ℕ) → number_of steps x ≡ Some n → number_of steps y ≡ Some n → x ≡ y
one_phase [] x y n e f = let bad : ◌≡◌ {A = Option ℕ} None (Some n) = e in absurd cc
one_phase (a ∷ steps) x y n e f =
    same_run (get_or (a ∷ steps) n a).work x y (position-Some (runs x) (a ∷ steps) n a e).1 (position-Some (runs y) (a ∷ steps) n a f).1

-- a step that doesn't run the phase changes no number
unseen : (prior : List Act) (a : Act) (x : Name) → runs x a ≡ false → number_of (prior ++ a ∷ []) x ≡ number_of prior x
unseen prior a x is = by (number_of prior x) refl
  where
    last : number_of (a ∷ []) x ≡ None
    last = rw (is, position) refl

    by : (o : Option ℕ) → number_of prior x ≡ o → number_of (prior ++ a ∷ []) x ≡ number_of prior x
    by None f = position_nowhere (runs x) prior (a ∷ []) f last ∙ sym f
    by (Some k) f = position_front (runs x) prior (a ∷ []) k f ∙ sym f

-- the number of the phase that one more step runs
pub numbered : (prior : List Act) (a : Act) (phase : Name) (old new : List (Bor Name × ℕ)) (next n : ℕ) → phase_run a.work ≡ phase ∷ [] → next ≡ length prior → ((x : Name) → number_in old x ≡ number_of prior x)
    → GivesNumber old new phase next n → (x : Name) → number_in new x ≡ number_of (prior ++ a ∷ []) x
numbered prior a phase old new next n run size known g x = g.all x ∙ by (same_name phase x) refl (number_of prior x) refl
  where
    by : (b : Bool) → same_name phase x ≡ b → (o : Option ℕ) → number_of prior x ≡ o → cond b (Some n) (number_in old x) ≡ number_of (prior ++ a ∷ []) x
    by true e o f =
        let same : phase ≡ x = (bytes_decides phase x).0 e in
        let own : n ≡ unwrap_or o next = g.own ∙ ap (λ p. unwrap_or p next) (known phase ∙ (ap (number_of prior) same ∙ f)) in
        let runs_it : runs x a ≡ true = ap (λ xs. is_among xs x) run ∙ ap (λ b. b || false) ((bytes_decides x phase).1 (sym same)) in
        ap Some own ∙ found o f (rw (runs_it, position) refl)
      where
        found : (o : Option ℕ) → number_of prior x ≡ o → number_of (a ∷ []) x ≡ Some 0 → Some (unwrap_or o next) ≡ number_of (prior ++ a ∷ []) x
        found None f last = ap Some (omega (arith, size)) ∙ sym (position_later (runs x) prior (a ∷ []) 0 f last)
        found (Some k) f last = sym (position_front (runs x) prior (a ∷ []) k f)
    by false e o f =
        let other : same_name x phase ≡ false = false_from_ne_true (same_name x phase) (λ s.
        let bad : true ≡ false = sym ((bytes_decides phase x).1 (sym ((bytes_decides x phase).0 s))) ∙ e in cc) in
        known x ∙ sym (unseen prior a x (ap (λ xs. is_among xs x) run ∙ ap (λ b. b || false) other))

pub numbered_own : {old new : List (Bor Name × ℕ)} {phase : Name} {next n : ℕ} → GivesNumber old new phase next n → number_in new phase ≡ Some n
numbered_own {old} {new} {phase} {next} {n} g = g.all phase ∙ ap (λ b. cond b (Some n) (number_in old phase)) ((bytes_decides phase phase).1 refl)

pub numbered_still : (prior : List Act) (a : Act) (x : Name) → phase_run a.work ≡ [] → number_of (prior ++ a ∷ []) x ≡ number_of prior x
numbered_still prior a x run = unseen prior a x (ap (λ xs. is_among xs x) run)

-- Sets

pub IsSetOf-none : (steps : List Act) (set : PhaseSet) → ((k : ℕ) → has set k ≡ false) → IsSetOf steps [] set
IsSetOf-none steps set h = record {
  among = λ x. none (number_of steps x);
  named = λ k is. let bad : false ≡ true = sym (h k) ∙ is in absurd cc;
}
  where
    none : (o : Option ℕ) → false ≡ has_some set o
    none None = refl
    none (Some k) = sym (h k)

pub IsSetOf-one : (steps : List Act) (phase : Name) (n : ℕ) (set : PhaseSet) → ((k : ℕ) → has set k ≡ nat_eq k n) → number_of steps phase ≡ Some n → IsSetOf steps (phase ∷ []) set
IsSetOf-one steps phase n set h is = record {
  among = λ x. by x (same_name x phase) refl (number_of steps x) refl;
  named = λ k in'. (phase, is ∙ ap Some (sym (eqb-true k n (sym (h k) ∙ in'))));
}
  where
    by : (x : Name) (b : Bool) → same_name x phase ≡ b → (o : Option ℕ) → number_of steps x ≡ o → (b || false) ≡ has_some set o
    by x true e o number =
        let same : x ≡ phase = (bytes_decides x phase).0 e in
        let here : Some n ≡ o = sym is ∙ (ap (number_of steps) (sym same) ∙ number) in
        subst (λ p. true ≡ has_some set p) here (sym (h n ∙ eq-eqb n n refl))
    by x false e None number = refl
    by x false e (Some k) number =
        sym (h k ∙ ne_eqb k n (λ one.
        let same = one_phase steps x phase n (number ∙ ap Some one) is in
        let bad : false ≡ true = sym e ∙ (bytes_decides x phase).1 same in cc))

pub IsSetOf-joined : (steps : List Act) (xs ys : List Name) (a b c : PhaseSet) → ((k : ℕ) → has c k ≡ (has a k || has b k)) → IsSetOf steps xs a → IsSetOf steps ys b → IsSetOf steps (xs ++ ys) c
IsSetOf-joined steps xs ys a b c h p q = record {
  among = λ x. is_among-append xs ys x ∙ (ap₂ (λ r s. r || s) (p.among x) (q.among x) ∙ joined (number_of steps x));
  named = λ k is. elim (or_cases (has a k) (has b k) (sym (h k) ∙ is)) [ inl one ↦ p.named k one | inr other ↦ q.named k other ];
}
  where
    joined : (o : Option ℕ) → (has_some a o || has_some b o) ≡ has_some c o
    joined None = refl
    joined (Some k) = sym (h k)

-- sets without a common number are those of phases that are apart
pub apart_as_disjoint : (steps : List Act) (xs ys : List Name) (a b : PhaseSet) → IsSetOf steps xs a → IsSetOf steps ys b → (disjoint : Bool)
    → (disjoint ≡ true) ↔ ((k : ℕ) → has a k ≡ true → has b k ≡ true → ⊥) → (disjoint ≡ true) ↔ AreApart xs ys
apart_as_disjoint steps xs ys a b p q disjoint d = (
  λ is x in' in''. none (d.0 is) (number_of steps x) (sym (p.among x) ∙ in') (sym (q.among x) ∙ in''),
  λ apart. d.1 (λ k in' in''.
      let x = p.named k in' in
      apart x.0 (p.among x.0 ∙ ap (has_some a) x.1 ∙ in') (q.among x.0 ∙ ap (has_some b) x.1 ∙ in'')),
)
  where
    none : ((k : ℕ) → has a k ≡ true → has b k ≡ true → ⊥) → (o : Option ℕ) → has_some a o ≡ true → has_some b o ≡ true → ⊥
    none h None i j = let bad : false ≡ true = i in cc
    none h (Some k) i j = h k i j

-- Trees, from the last node on

pub AreKnownFrom-more : (acts : Acts) (trees : List TreePhases) (m : ℕ) (tree : TreePhases) → AreKnownFrom acts trees (m + 1) → ((x : Node) → slice_get (procedure_nodes acts) m ≡ Some x → IsOfTree acts x tree)
    → m < length trees → AreKnownFrom acts (set trees m tree) m
AreKnownFrom-more acts trees m tree h new within = record {
  sized = length-set trees m tree ∙ h.sized;
  each = λ k x none past at. by k x none at (cases_eq k m) past;
}
  where
    by : (k : ℕ) (x : Node) (none : TreePhases) → slice_get (procedure_nodes acts) k ≡ Some x → (k ≡ m) ⊎ (k ≡ m → ⊥) → m ≤ k → IsOfTree acts x (get_or (set trees m tree) k none)
    by k x none at (inl same) past =
        subst (λ i. IsOfTree acts x (get_or (set trees m tree) i none)) (sym same)
        (subst (IsOfTree acts x) (sym (get_or-set_same trees m tree none within)) (new x (ap (slice_get (procedure_nodes acts)) (sym same) ∙ at)))
    by k x none at (inr other) past = subst (IsOfTree acts x) (sym (get_or-set_other trees m k tree none other)) (h.each k x none (omega (arith, past, other)) at)
