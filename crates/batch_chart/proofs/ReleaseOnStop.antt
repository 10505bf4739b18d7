-- The first act that can give back a need while the batch stops, by the signs.
use Rattle.std.proofs.Common.{◌≡◌, ◌⊎◌, inl, inr, ◌<◌, ◌≤◌, ℕ, zero, suc, ◌+◌, List, [], ◌∷◌, length, Bool, true, false, ◌&&◌, Some, None, nat_eq, nat_lt, nat_le, arith, refl, sym, ◌∙◌, subst, ap}
use Rattle.std.{specs.Prelude.Option, specs.Int.Bits.bit_and, proofs.lemmas.Bool.cases_lt, proofs.lemmas.Bool.Decides.eqb_tells, proofs.lemmas.Bool.Decides.nat_tests, proofs.lemmas.List.get_or_past}
use Rattle.batch_recipe.specs.{Nodes.node_count, Tree.Step, Tree.Task, Tree.runs, Tree.follows, Tree.Tree, Tree.act, declared.entry.Entry.Entry, declared.recipe.Recipe.Recipe}
use Rattle.batch_model.specs.{Lists.Has, Moves.is_empty, Plant.held_in, Rest.Rest, Rest.ready, Rest.open_act, Rest.freeing, Rest.acts}
use Rattle.batch_chart.{specs.declared.sign.TheConstants.HOLDS, specs.declared.stage.Stage.Stage, specs.declared.stage.Stage.TheVariants.Finished, specs.declared.stage.Stage.TheVariants.Ready, specs.declared.stage.Stage.TheVariants.Asking, specs.declared.stage.Stage.TheVariants.Open, specs.declared.stage.Stage.TheVariants.Live, specs.declared.stage.Stage.TheVariants.Freeing, specs.declared.stage.Stage.TheVariants.Turning, specs.Outlined.end_at, specs.Outlined.kind_at, specs.Outlined.Stands, specs.Nexts.first_of, specs.Meaning.meaning, specs.Meaning.meaning_below, specs.Meaning.act_as, specs.Neat.AreNeat, specs.Nexts.IsFoundFirst, specs.Nexts.SomeNoted, specs.Nexts.GivesAs, specs.Nexts.GivesNone, specs.Nexts.IsFirstGiving, specs.Noting.gives, specs.Noting.signs_of, specs.Noting.sign_in, specs.Numbered.numbered, specs.Running.IsLaid, specs.Stages.stage_at, specs.Told.AreTold, proofs.KnownTests.chosen-true, proofs.KnownTests.chosen-false, proofs.NumberedActs.nothing, proofs.NumberedActs.nothing-holds, proofs.LivePhaseSigns.entry-or-not, proofs.LivePhaseSigns.sign-entry, proofs.LivePhaseSigns.beyond, proofs.LivePhaseSigns.first-none, proofs.LivePhaseSigns.first-some, proofs.NeatCharts.neat-part, proofs.SignSearch.RiseIn, proofs.SignSearch.rise, proofs.SignSearch.sign-before, proofs.SignSearch.first-shown, proofs.SignSearch.first-same, proofs.SignSearch.picks, proofs.SignSearch.noted-alike, proofs.SignSearch.shown-not, proofs.SignSearch.shown-so, proofs.ActSigns.link, proofs.SignTests.Says, proofs.SignTests.says-all, proofs.SignTests.showing, proofs.SignTests.said-showing, proofs.SignTests.gives_back, proofs.SignTests.ready-holds, proofs.SignTests.open-holds, proofs.SignTests.freeing-holds, proofs.TreePositions.stood, proofs.ChartChange.Fits, proofs.ChartChange.fits-count, proofs.ChartChange.act-fits, proofs.ChartChange.entry-at, proofs.FinishedStages.told-part}
use Rattle.batch_signs.{specs.Signs.shows, specs.Signs.sign_at, specs.Signs.TellsNone, specs.Signs.IsNextShown, proofs.WantedSigns.none-shown}

-- the search, step by step

module _ (ns : List Entry) (xs : List Stage) (signs : List ℕ) where
  pub gives-first : GivesNone ns xs signs 0
  gives-first k lt u = absurd (omega arith)

  pub gives-before : (at j : ℕ) → GivesNone ns xs signs at → IsNextShown signs HOLDS at (Some j) → GivesNone ns xs signs j
  gives-before at j h n k lt u = elim (cases_lt k at) [ inl q ↦ h k q u | inr q ↦ absurd (u (n.3 k q lt)) ]

  pub gives-next : (at j : ℕ) → GivesNone ns xs signs at → IsNextShown signs HOLDS at (Some j) → GivesAs ns signs j (stage_at xs j) false → GivesNone ns xs signs (j + 1)
  gives-next at j h n own k lt u = elim (eqb_tells k j) [
    | inl e ↦ subst (λ z. GivesAs ns signs z (stage_at xs z) false) (sym e.1) own
    | inr e ↦ let d = e.1 in gives-before at j h n k (omega (arith, lt)) u
  ]

-- a test of numbers by the entries of a list

abbrev tested : (ℕ → Rest → Bool) → List (ℕ × Rest) → ℕ → Bool
tested p [] k = false
tested p (a ∷ l) k = elim (nat_eq a.0 k) [ true ↦ p a.0 a.1 | false ↦ tested p l k ]

tested-entry : (p : ℕ → Rest → Bool) (l : List (ℕ × Rest)) (n m : ℕ) → RiseIn n m l → (e : ℕ × Rest) → Has l e → p e.0 e.1 ≡ tested p l e.0
tested-entry p [] n m h e i = absurd i
tested-entry p (a ∷ l) n m h e (inl q) =
    subst (λ (z : ℕ × Rest). p z.0 z.1 ≡ tested p (a ∷ l) z.0) q (sym (chosen-true (nat_eq a.0 a.0) (p a.0 a.1) (tested p l a.0) (grind (arith, nat_tests))))
tested-entry p (a ∷ l) n m h e (inr q) =
    let b = beyond p (λ k. true) l (a.0 + 1) m e.0 e.1 h.2 q in
    let f : nat_eq a.0 e.0 ≡ false = elim (eqb_tells a.0 e.0) [ inl z ↦ absurd (omega (arith, b, z.1)) | inr z ↦ z.0 ] in
    tested-entry p l (a.0 + 1) m h.2 e q ∙ sym (chosen-false (nat_eq a.0 e.0) (p a.0 a.1) (tested p l e.0) f)

tested-none : (p : ℕ → Rest → Bool) (l : List (ℕ × Rest)) (k : ℕ) → ((r : Rest) → Has l (k, r) → p k r ≡ false) → tested p l k ≡ false
tested-none p [] k h = refl
tested-none p (a ∷ l) k h = elim (eqb_tells a.0 k) [
  | inl q ↦ chosen-true (nat_eq a.0 k) (p a.0 a.1) (tested p l k) q.0 ∙ ap (λ z. p z a.1) q.1 ∙ h a.1 (inl (subst (λ z. ◌≡◌ {A = ℕ × Rest} (a.0, a.1) (z, a.1)) q.1 refl))
  | inr q ↦ chosen-false (nat_eq a.0 k) (p a.0 a.1) (tested p l k) q.0 ∙ tested-none p l k (λ r i. h r (inr i))
]

-- a need that can be given back is held

holds-less : (a b c : Bool) → (a && b) ≡ false → ((c ≡ true) → (a ≡ true) × (b ≡ true)) → c ≡ false
holds-less a b false e f = refl
holds-less true true true e f = e
holds-less true false true e f = sym (f refl).1
holds-less false b true e f = sym (f refl).0

gives-both : (needs k : ℕ) → gives needs k ≡ true → (nat_lt 0 k ≡ true) × (nat_lt 0 needs ≡ true)
gives-both needs k e = go (cases_lt 0 k) (cases_lt 0 needs)
  where
    go : (0 < k) ⊎ (k ≤ 0) → (0 < needs) ⊎ (needs ≤ 0) → (nat_lt 0 k ≡ true) × (nat_lt 0 needs ≡ true)
    go (inl a) (inl b) = (grind (arith, nat_tests), grind (arith, nat_tests))
    go (inl a) (inr b) = absurd (let f : nat_le needs needs ≡ true = grind (arith, nat_tests) in over b a e)
      where
        over : needs ≤ 0 → 0 < k → gives needs k ≡ true → ⊥
        over b a e = (let f : nat_le k needs ≡ false = grind (arith, nat_tests) in let g : nat_lt 0 k ≡ true = grind (arith, nat_tests) in let z : ◌≡◌ {A = Bool} false true = sym (ap (λ z. z && nat_le k needs) g ∙ f) ∙ e in absurd (cc))
    go (inr a) b = absurd (let g : nat_lt 0 k ≡ false = grind (arith, nat_tests) in let z : ◌≡◌ {A = Bool} false true = sym (ap (λ z. z && nat_le k needs) g) ∙ e in cc)

releasing-holds : (n : ℕ) (r : Rest) → showing HOLDS n r ≡ false → gives_back n r ≡ false
releasing-holds n (ready s w k) e = holds-less (nat_lt 0 k) (nat_lt 0 (length s.needs)) (gives (length s.needs) k) (sym (ready-holds (length s.needs) k) ∙ e) (gives-both (length s.needs) k)
releasing-holds n (open_act s r) e = ap (λ z. z && is_empty (held_in r)) (sym (open-holds (length s.needs) (is_empty (acts r))) ∙ e)
releasing-holds n (freeing s k) e = holds-less (nat_lt 0 k) (nat_lt 0 (length s.needs)) (gives (length s.needs) k) (sym (freeing-holds (length s.needs) k) ∙ e) (gives-both (length s.needs) k)
releasing-holds n r e = refl

-- the first of some that pass

passes-some : (p : ℕ → Rest → Bool) (l : List (ℕ × Rest)) (e : ℕ × Rest) → Has l e → p e.0 e.1 ≡ true → nothing (first_of p l) ≡ false
passes-some p [] e i t = absurd i
passes-some p (a ∷ l) e (inl q) t = ap nothing (chosen-true (p a.0 a.1) (Some a.0) (first_of p l) (ap (λ (z : ℕ × Rest). p z.0 z.1) q ∙ t))
passes-some p (a ∷ l) e (inr q) t = go (p a.0 a.1) refl (passes-some p l e q t)
  where
    go : (b : Bool) → p a.0 a.1 ≡ b → nothing (first_of p l) ≡ false → nothing (first_of p (a ∷ l)) ≡ false
    go true f h = ap nothing (chosen-true (p a.0 a.1) (Some a.0) (first_of p l) f)
    go false f h = ap nothing (chosen-false (p a.0 a.1) (Some a.0) (first_of p l) f) ∙ h

passes-none : (p : ℕ → Rest → Bool) (l : List (ℕ × Rest)) → ((e : ℕ × Rest) → Has l e → p e.0 e.1 ≡ false) → nothing (first_of p l) ≡ true
passes-none p l h = ap nothing (sym (first-none p (λ k. false) l h (λ k. refl)))

in-range : (l : List (ℕ × Rest)) (n m : ℕ) → RiseIn n m l → (e : ℕ × Rest) → Has l e → (n ≤ e.0) × (e.0 < m)
in-range [] n m h e i = absurd i
in-range (a ∷ l) n m h e (inl q) = subst (λ (z : ℕ × Rest). (n ≤ z.0) × (z.0 < m)) q (h.0, h.1)
in-range (a ∷ l) n m h e (inr q) = let b = in-range l (a.0 + 1) m h.2 e q in (omega (arith, h.0, b.0), b.1)

module _ (ns : List Entry) (doc : Recipe) (xs : List Stage) (signs : List ℕ) (told : AreTold ns doc 0 (length ns) xs) (neat : AreNeat ns doc 0 (length ns) xs signs) where
  -- a tree and the signs of its nodes
  module _ (c : Tree) (n : ℕ) (s : Stands ns doc n c) where
    fits : n + node_count c ≤ length ns
    fits = (stood ns doc n c s).fits

    abbrev l : List (ℕ × Rest)
    l = numbered c n xs

    rises : RiseIn n (n + node_count c) l
    rises = rise xs c n

    links : (k : ℕ) → n ≤ k → k < n + node_count c → sign_in k l 0 ≡ sign_at signs k
    links = link ns doc xs signs c n (n + node_count c) refl s (neat-part ns doc 0 (length ns) n (n + node_count c) xs signs (omega arith) fits neat) (told-part ns doc 0 (length ns) n (n + node_count c) xs (omega arith) fits told)

    own : (e : ℕ × Rest) → Has l e → sign_at signs e.0 ≡ signs_of e.1
    own e i = let r = in-range l n (n + node_count c) rises e i in sym (links e.0 r.0 r.1) ∙ sign-entry l n (n + node_count c) rises e i

    module _ (p : ℕ → Rest → Bool) (m : ℕ) (says : Says p m) where
      -- whether anything below a node passes is told by the signs there
      pub below-told : (b : Bool) → TellsNone signs m n (n + node_count c) b → nothing (first_of p l) ≡ b
      below-told true none = passes-none p l (λ e i.
          (let r = in-range l n (n + node_count c) rises e i in
          says e.0 e.1 ∙ shown-not m (signs_of e.1) (ap (λ z. bit_and z m) (sym (own e i)) ∙ none e.0 r.0 r.1)))
      below-told false some = elim (entry-or-not l some.0) [
        | inl q ↦ passes-some p l (some.0, q.0) q.1 (shown (p some.0 q.0) q.0 refl (own (some.0, q.0) q.1) (says some.0 q.0))
        | inr q ↦ absurd (some.3 (ap (λ z. bit_and z m) (sym (links some.0 some.1 some.2) ∙ q) ∙ none-shown m))
      ]
        where
          shown : (d : Bool) (r : Rest) → p some.0 r ≡ d → sign_at signs some.0 ≡ signs_of r → p some.0 r ≡ shows m (signs_of r) → p some.0 r ≡ true
          shown true r e f g = e
          shown false r e f g = absurd (some.3 (ap (λ z. bit_and z m) f ∙ shown-so m (signs_of r) (sym g ∙ e)))

      -- and so is the first
      pub below-first : (j : ℕ) → j < n + node_count c → IsNextShown signs m n (Some j) → Some j ≡ first_of p l
      below-first j lt h =
          first-shown m 0 (n + node_count c) l n rises (Some j) (omega arith, λ z. h.2 (ap (λ y. bit_and y m) (sym (links j h.0 lt)) ∙ z), λ k le less. before k less)
          ∙ sym (first-same p (picks m 0 (n + node_count c)) (says-all p m says) l)
        where
          before : (k : ℕ) → k < j → bit_and (sign_in k l 0) m ≡ 0
          before k less = elim (cases_lt k n) [
            | inl q ↦ ap (λ y. bit_and y m) (sign-before k n (n + node_count c) l 0 rises q) ∙ none-shown m
            | inr q ↦ ap (λ y. bit_and y m) (links k q (omega (arith, less, lt))) ∙ h.3 k q less
          ]

  held-told : (c : Tree) (n : ℕ) → Stands ns doc n c → (b : Bool) → TellsNone signs HOLDS n (n + node_count c) b → is_empty (held_in (meaning c n xs)) ≡ b
  held-told c n s b h = sym (nothing-holds c n xs) ∙ below-told c n s (showing HOLDS) HOLDS (said-showing HOLDS) b h

  module _ (t : Tree) (laid : IsLaid ns doc t) (noted : (k : ℕ) → sign_at signs k ≡ sign_in k (numbered t 0 xs) 0) where
    abbrev l-all : List (ℕ × Rest)
    l-all = numbered t 0 xs

    rises-all : RiseIn 0 (0 + node_count t) l-all
    rises-all = rise xs t 0

    own-all : (e : ℕ × Rest) → Has l-all e → sign_at signs e.0 ≡ signs_of e.1
    own-all e i = noted e.0 ∙ sign-entry l-all 0 (0 + node_count t) rises-all e i

    gives-as : (k : ℕ) (s : Step) (w : Task) (x : Stage) (b : Bool) → Stands ns doc k (act s w) → Fits (kind_at ns k) s w → GivesAs ns signs k x b → (showing HOLDS k (act_as s w (meaning_below w (k + 1) xs) x) ≡ true) → gives_back k (act_as s w (meaning_below w (k + 1) xs) x) ≡ b
    gives-as k s w Finished b st f g h = sym g
    gives-as k s w (Ready i) b st f g h = ap (λ z. gives z i) (fits-count (kind_at ns k) s w f) ∙ sym g
    gives-as k s w (Asking i) b st f g h = sym g
    gives-as k s (runs p) (Live y) b st f g h = sym g
    gives-as k s (follows name c) (Live y) b st f g h = sym g
    gives-as k s w (Freeing zero) b st f g h = absurd (let z : ◌≡◌ {A = Bool} false true = h in cc)
    gives-as k s w (Freeing (suc i)) b st f g h = ap (λ z. gives z (suc i)) (fits-count (kind_at ns k) s w f) ∙ sym g
    gives-as k s w (Turning i) b st f g h = sym g
    gives-as k s (runs p) Open b st f g h = absurd (let z : ◌≡◌ {A = Bool} false true = h in cc)
    gives-as k s (follows name c) Open b st f g h =
        let e : end_at ns k ≡ k + 1 + node_count c = omega (arith, st.0.2) in
        ap (λ z. z && is_empty (held_in (meaning c (k + 1) xs))) (sym (open-holds (length s.needs) (is_empty (acts (meaning c (k + 1) xs)))) ∙ h) ∙ held-told c (k + 1) st.1 b (subst (λ z. TellsNone signs HOLDS (k + 1) z b) e g)

    -- an entry's act gives back just as the signs and its stage say
    told-entry : (e : ℕ × Rest) → Has l-all e → (b : Bool) → ((bit_and (sign_at signs e.0) HOLDS ≡ 0 → ⊥) → GivesAs ns signs e.0 (stage_at xs e.0) b) → showing HOLDS e.0 e.1 ≡ true → gives_back e.0 e.1 ≡ b
    told-entry e i b g h =
        let z = entry-at ns doc t laid xs e i in
        let shown : bit_and (sign_at signs e.0) HOLDS ≡ 0 → ⊥ = λ y. (let u : ◌≡◌ {A = Bool} false true = sym (shown-not HOLDS (signs_of e.1) (ap (λ v. bit_and v HOLDS) (sym (own-all e i)) ∙ y)) ∙ h in absurd (cc)) in
        ap (gives_back e.0) z.is ∙ gives-as e.0 z.step z.task (stage_at xs e.0) b z.stands (act-fits ns doc e.0 z.step z.task z.stands) (g shown) (ap (showing HOLDS e.0) (sym z.is) ∙ h)

    abbrev test : ℕ → Bool
    test = tested gives_back l-all

    test-false : (k : ℕ) → ((bit_and (sign_at signs k) HOLDS ≡ 0 → ⊥) → GivesAs ns signs k (stage_at xs k) false) → test k ≡ false
    test-false k g = tested-none gives_back l-all k (λ r i. go r i (showing HOLDS k r) refl)
      where
        go : (r : Rest) → Has l-all (k, r) → (d : Bool) → showing HOLDS k r ≡ d → gives_back k r ≡ false
        go r i true e = told-entry (k, r) i false g e
        go r i false e = releasing-holds k r e

    giving-first : (o : Option ℕ) → IsFirstGiving ns xs signs o → o ≡ first_of gives_back l-all
    giving-first None h =
        first-none gives_back test l-all (tested-entry gives_back l-all 0 (0 + node_count t) rises-all)
        (λ k. test-false k (λ u. elim (cases_lt k (length signs)) [ inl q ↦ h k q u | inr q ↦ absurd (u (ap (λ z. bit_and z HOLDS) (get_or_past {X = ℕ} signs k 0 q) ∙ none-shown HOLDS)) ]))
    giving-first (Some j) h = elim (entry-or-not l-all j) [
      | inl q ↦
          first-some gives_back test l-all 0 (0 + node_count t) rises-all (tested-entry gives_back l-all 0 (0 + node_count t) rises-all) j
          (sym (tested-entry gives_back l-all 0 (0 + node_count t) rises-all (j, q.0) q.1) ∙ told-entry (j, q.0) q.1 true (λ u. h.2) (holding q.0 q.1 (showing HOLDS j q.0) refl))
          (λ k lt. test-false k (λ u. h.3 k lt u)) q.0 q.1
      | inr q ↦ absurd (h.1 (ap (λ z. bit_and z HOLDS) (noted j ∙ q) ∙ none-shown HOLDS))
    ]
      where
        holding : (r : Rest) → Has l-all (j, r) → (d : Bool) → showing HOLDS j r ≡ d → showing HOLDS j r ≡ true
        holding r i true e = e
        holding r i false e = absurd (h.1 (ap (λ z. bit_and z HOLDS) (own-all (j, r) i) ∙ shown-so HOLDS (signs_of r) e))

pub found-giving : (ns : List Entry) (doc : Recipe) (xs : List Stage) (signs : List ℕ) → SomeNoted ns doc xs signs → (o : Option ℕ) → IsFirstGiving ns xs signs o → IsFoundFirst ns doc xs gives_back o
found-giving ns doc xs signs some o h = record { means = λ t laid. giving-first ns doc xs signs some.3 some.4 t laid (noted-alike ns doc xs signs some.0 t some.1 laid some.2) o h }
