-- The first live phase with a name, by the signs.
use Rattle.std.proofs.Common.{◌≡◌, ◌⊎◌, inl, inr, ◌<◌, ◌≤◌, ℕ, ◌+◌, List, [], ◌∷◌, Bool, true, false, ◌&&◌, Some, None, nat_le, arith, refl, sym, ◌∙◌, subst, ap}
use Rattle.std.{specs.Prelude.Option, specs.Int.Bits.bit_and, proofs.lemmas.Bool.cases_lt, proofs.lemmas.Bool.Decides.eqb_tells, proofs.lemmas.Bool.Decides.nat_tests}
use Rattle.batch_recipe.specs.{Conditions.Name, Conditions.same_name, Nodes.node_count, Tree.Step, Tree.Phase, Tree.Task, Tree.runs, Tree.follows, Tree.Tree, Tree.act, declared.entry.Entry.Entry, declared.recipe.Recipe.Recipe}
use Rattle.batch_model.specs.{Lists.Has, Rest.Rest, Rest.live}
use Rattle.batch_chart.{specs.declared.sign.TheConstants.LIVES, specs.declared.stage.Stage.Stage, specs.Outlined.kind_at, specs.Outlined.Stands, specs.Nexts.first_of, specs.Meaning.meaning_below, specs.Nexts.IsFoundFirst, specs.Nexts.SomeNoted, specs.Nexts.has_name, specs.Nexts.is_named, specs.Nexts.names_at, specs.Nexts.IsFirstNamed, specs.Noting.signs_of, specs.Noting.sign_in, specs.Numbered.numbered, specs.Running.IsLaid, specs.Stages.stage_at, proofs.KnownTests.chosen-true, proofs.KnownTests.chosen-false, proofs.LivePhase.looks, proofs.LivePhase.live-known, proofs.SignSearch.RiseIn, proofs.SignSearch.rise, proofs.SignSearch.sign-here, proofs.SignSearch.sign-other, proofs.SignSearch.shown-not, proofs.SignSearch.noted-alike, proofs.SignTests.any_live, proofs.SignTests.said-live, proofs.ChartChange.entry-at}
use Rattle.batch_signs.{specs.Signs.shows, specs.Signs.sign_at, specs.Signs.IsNextShown, proofs.WantedSigns.nothing-shown}

-- the first number that passes a test is that of the first entry which does, where the test tells entries

pub entry-or-not : (l : List (ℕ × Rest)) (j : ℕ) → ((r : Rest) × Has l (j, r)) ⊎ (sign_in j l 0 ≡ 0)
entry-or-not l j = go l 0
  where
    go : (l : List (ℕ × Rest)) (none : ℕ) → ((r : Rest) × Has l (j, r)) ⊎ (sign_in j l none ≡ none)
    go [] none = inr refl
    go (a ∷ l) none = elim (eqb_tells a.0 j) [
      | inl q ↦ inl (a.1, inl (subst (λ z. ◌≡◌ {A = ℕ × Rest} (a.0, a.1) (z, a.1)) q.1 refl))
      | inr q ↦ elim (go l none) [
        | inl h ↦ inl (h.0, inr h.1)
        | inr e ↦ inr (sign-other j a l none q.1 ∙ e)
      ]
    ]

module _ (p : ℕ → Rest → Bool) (test : ℕ → Bool) where
  pub first-none : (l : List (ℕ × Rest)) → ((e : ℕ × Rest) → Has l e → p e.0 e.1 ≡ test e.0) → ((k : ℕ) → test k ≡ false) → None ≡ first_of p l
  first-none [] h n = refl
  first-none (a ∷ l) h n = first-none l (λ e i. h e (inr i)) n ∙ sym (chosen-false (p a.0 a.1) (Some a.0) (first_of p l) (h a (inl refl) ∙ n a.0))

  pub beyond : (l : List (ℕ × Rest)) (n m j : ℕ) (r : Rest) → RiseIn n m l → Has l (j, r) → n ≤ j
  beyond [] n m j r h i = absurd i
  beyond (a ∷ l) n m j r h (inl q) = let e : a.0 ≡ j = ap (λ (z : ℕ × Rest). z.0) q in omega (arith, e, h.0)
  beyond (a ∷ l) n m j r h (inr q) = let e = beyond l (a.0 + 1) m j r h.2 q in omega (arith, e, h.0)

  pub first-some : (l : List (ℕ × Rest)) (n m : ℕ) → RiseIn n m l → ((e : ℕ × Rest) → Has l e → p e.0 e.1 ≡ test e.0) → (j : ℕ) → test j ≡ true → ((k : ℕ) → k < j → test k ≡ false) → (r : Rest) → Has l (j, r) → Some j ≡ first_of p l
  first-some [] n m rs h j t b r i = absurd i
  first-some (a ∷ l) n m rs h j t b r (inl q) =
      let e : a.0 ≡ j = ap (λ (z : ℕ × Rest). z.0) q in
      ap Some (sym e) ∙ sym (chosen-true (p a.0 a.1) (Some a.0) (first_of p l) (h a (inl refl) ∙ ap test e ∙ t))
  first-some (a ∷ l) n m rs h j t b r (inr q) =
      let lt : a.0 < j = (let e = beyond l (a.0 + 1) m j r rs.2 q in omega arith) in
      first-some l (a.0 + 1) m rs.2 (λ e z. h e (inr z)) j t b r q ∙ sym (chosen-false (p a.0 a.1) (Some a.0) (first_of p l) (h a (inl refl) ∙ b a.0 lt))

-- the signs at an entry's node
pub sign-entry : (l : List (ℕ × Rest)) (n m : ℕ) → RiseIn n m l → (e : ℕ × Rest) → Has l e → sign_in e.0 l 0 ≡ signs_of e.1
sign-entry [] n m h e i = absurd i
sign-entry (a ∷ l) n m h e (inl q) = subst (λ (z : ℕ × Rest). sign_in z.0 (a ∷ l) 0 ≡ signs_of z.1) q (sign-here m a l 0 h.2)
sign-entry (a ∷ l) n m h e (inr q) =
    let b = beyond (λ k r. true) (λ k. true) l (a.0 + 1) m e.0 e.1 h.2 q in sign-other e.0 a l 0 (λ z. absurd (omega (arith, b, z))) ∙ sign-entry l (a.0 + 1) m h.2 e q

and-not : (a b : Bool) → false ≡ (a && (false && b))
and-not true b = refl
and-not false b = refl

module _ (ns : List Entry) (doc : Recipe) (xs : List Stage) (signs : List ℕ) (t : Tree) (laid : IsLaid ns doc t) (noted : (k : ℕ) → sign_at signs k ≡ sign_in k (numbered t 0 xs) 0) (from : ℕ) (phase : Name) where
  own-sign : (e : ℕ × Rest) → Has (numbered t 0 xs) e → sign_at signs e.0 ≡ signs_of e.1
  own-sign e h = noted e.0 ∙ sign-entry (numbered t 0 xs) 0 (0 + node_count t) (rise xs t 0) e h

  -- a live phase's node names it
  phase-named : (k : ℕ) (s : Step) (w : Task) (p : Phase) → Stands ns doc k (act s w) → w ≡ runs p → is_named (kind_at ns k) doc phase ≡ same_name p.name phase
  phase-named k s (runs q) p h e =
      let same : q ≡ p = cc in
      ap (λ z. is_named z doc phase) h.1.1 ∙ ap (λ z. has_name z phase) h.2 ∙ ap (λ (z : Phase). same_name z.name phase) same
  phase-named k s (follows name c) p h e = absurd (cc)

  other-told : (e : ℕ × Rest) → Has (numbered t 0 xs) e → any_live 0 e.1 ≡ false → false ≡ names_at ns doc signs from phase e.0
  other-told e h f =
      and-not (nat_le from e.0) (is_named (kind_at ns e.0) doc phase)
      ∙ ap (λ z. nat_le from e.0 && (z && is_named (kind_at ns e.0) doc phase)) (sym (ap (shows LIVES) (own-sign e h) ∙ sym (said-live 0 e.1) ∙ f))

  told : (e : ℕ × Rest) → Has (numbered t 0 xs) e → (r : Rest) → e.1 ≡ r → looks from phase e.0 r ≡ names_at ns doc signs from phase e.0
  told e h (live s p x) q =
      let g = entry-at ns doc t laid xs e h in
      let known = live-known (stage_at xs e.0) g.step g.task (meaning_below g.task (e.0 + 1) xs) s p x (sym g.is ∙ q) in
      let name = phase-named e.0 g.step g.task p g.stands known.1 in
      let shown : shows LIVES (sign_at signs e.0) ≡ true = ap (shows LIVES) (own-sign e h ∙ ap signs_of q) ∙ sym (said-live 0 (live s p x)) in
      sym (ap (λ z. nat_le from e.0 && (z && is_named (kind_at ns e.0) doc phase)) shown ∙ ap (λ z. nat_le from e.0 && z) name)
  told e h r q = other-told e h (ap (any_live 0) q)

  -- nothing is named where no sign is
  unsigned : (k : ℕ) → sign_at signs k ≡ 0 → names_at ns doc signs from phase k ≡ false
  unsigned k e =
      ap (λ z. nat_le from k && (z && is_named (kind_at ns k) doc phase)) (ap (shows LIVES) e ∙ nothing-shown LIVES) ∙ sym (and-not (nat_le from k) (is_named (kind_at ns k) doc phase))

  looks-first : (o : Option ℕ) → IsFirstNamed ns doc signs from phase o → o ≡ first_of (looks from phase) (numbered t 0 xs)
  looks-first None h = first-none (looks from phase) (names_at ns doc signs from phase) (numbered t 0 xs) (λ e i. told e i e.1 refl) h
  looks-first (Some j) h = elim (entry-or-not (numbered t 0 xs) j) [
    | inl q ↦ first-some (looks from phase) (names_at ns doc signs from phase) (numbered t 0 xs) 0 (0 + node_count t) (rise xs t 0) (λ e i. told e i e.1 refl) j h.1 h.2 q.0 q.1
    | inr q ↦ absurd (let z : ◌≡◌ {A = Bool} true false = sym h.1 ∙ unsigned j (noted j ∙ q) in cc)
  ]

pub found-named : (ns : List Entry) (doc : Recipe) (xs : List Stage) (signs : List ℕ) → SomeNoted ns doc xs signs → (from : ℕ) (phase : Name) → (o : Option ℕ) → IsFirstNamed ns doc signs from phase o
    → IsFoundFirst ns doc xs (looks from phase) o
found-named ns doc xs signs some from phase o h = record { means = λ t laid. looks-first ns doc xs signs t laid (noted-alike ns doc xs signs some.0 t some.1 laid some.2) from phase o h }

-- the search, step by step

abbrev pub NoneNamed : List Entry → Recipe → List ℕ → ℕ → Name → ℕ → Type 0
NoneNamed ns doc signs from phase at = (k : ℕ) → k < at → names_at ns doc signs from phase k ≡ false

module _ (ns : List Entry) (doc : Recipe) (signs : List ℕ) (from : ℕ) (phase : Name) where
  pub none-at_first : NoneNamed ns doc signs from phase from
  none-at_first k lt = (let f : nat_le from k ≡ false = grind (arith, nat_tests) in ap (λ z. z && (shows LIVES (sign_at signs k) && is_named (kind_at ns k) doc phase)) f)

  hidden : (k : ℕ) → bit_and (sign_at signs k) LIVES ≡ 0 → names_at ns doc signs from phase k ≡ false
  hidden k e =
      ap (λ z. nat_le from k && (z && is_named (kind_at ns k) doc phase)) (shown-not LIVES (sign_at signs k) e) ∙ sym (and-not (nat_le from k) (is_named (kind_at ns k) doc phase))

  before-next : (at j : ℕ) → NoneNamed ns doc signs from phase at → IsNextShown signs LIVES at (Some j) → NoneNamed ns doc signs from phase j
  before-next at j h n k lt = elim (cases_lt k at) [ inl q ↦ h k q | inr q ↦ hidden k (n.3 k q lt) ]

  pub passed-named : (at j : ℕ) → NoneNamed ns doc signs from phase at → IsNextShown signs LIVES at (Some j) → false ≡ is_named (kind_at ns j) doc phase → NoneNamed ns doc signs from phase (j + 1)
  passed-named at j h n u k lt = elim (eqb_tells k j) [
    | inl q ↦ subst (λ z. names_at ns doc signs from phase z ≡ false) (sym q.1) (not-there (nat_le from j) (shows LIVES (sign_at signs j)) ∙ refl)
    | inr q ↦ let ne = q.1 in before-next at j h n k (omega arith)
  ]
    where
      not-there : (a b : Bool) → (a && (b && is_named (kind_at ns j) doc phase)) ≡ false
      not-there true true = sym u
      not-there x y = refl
