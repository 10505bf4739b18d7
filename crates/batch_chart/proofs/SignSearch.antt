-- The first act that shows a sign is the first that passes the test which the sign tells.
use Rattle.std.proofs.Common.{◌≡◌, ◌≢◌, inl, inr, ◌<◌, ◌≤◌, ℕ, zero, suc, ◌+◌, List, [], ◌∷◌, ◌++◌, length, Bool, true, false, ◌&&◌, Some, None, arith, refl, sym, ◌∙◌, ap, nat_eq, nat_le}
use Rattle.std.{specs.Prelude.Option, specs.Prelude.not, specs.Prelude.⊤, specs.Int.Bits.bit_and, proofs.lemmas.List.get_or_past, proofs.lemmas.Bool.cases_lt, proofs.lemmas.Bool.Decides.eqb_tells, proofs.lemmas.Bool.Decides.nat_tests}
use Rattle.batch_recipe.specs.{Nodes.node_count, Nodes.count_of_each, Nodes.count_of_choices, Nodes.count_within, Tree.Task, Tree.runs, Tree.follows, Tree.Tree, Tree.act, Tree.skip, Tree.seq, Tree.par, Tree.sel, Tree.loop, Tree.Trees, Tree.no_trees, Tree.tree, Tree.Choices, Tree.otherwise, Tree.choice, declared.entry.Entry.Entry, declared.recipe.Recipe.Recipe}
use Rattle.batch_model.specs.Rest.{Rest, open_act, done}
use Rattle.batch_chart.{specs.declared.stage.Stage.Stage, specs.Stages.stage_at, specs.Stages.is_finished, specs.Stages.is_begun, specs.Stages.turns_of, specs.Meaning.act_as, specs.Meaning.meaning_below, specs.Nexts.first_of, specs.Numbered.entries, specs.Numbered.entries_in, specs.Numbered.numbered, specs.Numbered.numbered_below, specs.Numbered.numbered_each, specs.Numbered.numbered_branch, specs.Numbered.numbered_chosen, specs.Noting.signs_of, specs.Noting.sign_in, specs.Noting.AreNoted, specs.Nexts.IsFoundFirst, specs.Nexts.SomeNoted, specs.Running.IsLaid, proofs.SameSigns.alike, proofs.SameSigns.same-signs, proofs.KnownTests.chosen-true, proofs.KnownTests.chosen-false, proofs.SignTests.Says, proofs.SignTests.says-all, proofs.SignTests.showing, proofs.SignTests.said-showing}
use Rattle.batch_signs.{specs.Signs.shows, specs.Signs.sign_at, specs.Signs.IsNextShown, proofs.WantedSigns.none-shown, proofs.WantedSigns.more-not_zero, proofs.Bits.nat-self}

-- the numbers rise from n on, and stay below m
abbrev pub RiseIn : ℕ → ℕ → List (ℕ × Rest) → Type 0
RiseIn n m [] = ⊤
RiseIn n m (a ∷ more) = (n ≤ a.0) × (a.0 < m) × RiseIn (a.0 + 1) m more

pub rise-wider : (n m i j : ℕ) (l : List (ℕ × Rest)) → i ≤ n → m ≤ j → RiseIn n m l → RiseIn i j l
rise-wider n m i j [] a b h = tt
rise-wider n m i j (e ∷ l) a b h = (omega (arith, a, h.0), omega (arith, b, h.1), rise-wider (e.0 + 1) m (e.0 + 1) j l (omega arith) b h.2)

rise-append : (n i m : ℕ) (l r : List (ℕ × Rest)) → n ≤ i → i ≤ m → RiseIn n i l → RiseIn i m r → RiseIn n m (l ++ r)
rise-append n i m [] r a b h k = rise-wider i m n m r a (omega arith) k
rise-append n i m (e ∷ l) r a b h k = (h.0, omega (arith, b, h.1), rise-append (e.0 + 1) i m l r (omega (arith, h.1)) b h.2 k)

rise-act : (n m : ℕ) (a : Rest) (below : List (ℕ × Rest)) → n < m → RiseIn (n + 1) m below → RiseIn n m (entries n a below)
rise-act n m (open_act s r) below l h = (omega arith, l, h)
rise-act n m done below l h = tt
rise-act n m x below l h = (omega arith, l, tt)

rise-if : (n m : ℕ) (b : Bool) (l r : List (ℕ × Rest)) → RiseIn n m l → RiseIn n m r → RiseIn n m (elim b as (λ _. List (ℕ × Rest)) [ true ↦ l | false ↦ r ])
rise-if n m true l r h k = h
rise-if n m false l r h k = k

rise-in : (n m : ℕ) (o : Option ℕ) (l : List (ℕ × Rest)) → RiseIn n m l → RiseIn n m (entries_in o l)
rise-in n m None l h = tt
rise-in n m (Some k) l h = h

module _ (xs : List Stage) where
  mutual
    pub rise : (c : Tree) (n : ℕ) → RiseIn n (n + node_count c) (numbered c n xs)
    rise (act s w) n =
        rise-act n (n + node_count (act s w)) (act_as s w (meaning_below w (n + 1) xs) (stage_at xs n)) (numbered_below w (n + 1) xs) (omega arith)
        (rise-wider (n + 1) (n + 1 + count_within w) (n + 1) (n + node_count (act s w)) (numbered_below w (n + 1) xs) (omega arith) (omega arith) (rise-below w (n + 1)))
    rise skip n = tt
    rise (seq ts) n =
        rise-if n (n + node_count (seq ts)) (is_begun (stage_at xs n)) (numbered_branch ts (n + 1) xs) []
        (rise-wider (n + 1) (n + 1 + count_of_each ts) n (n + node_count (seq ts)) (numbered_branch ts (n + 1) xs) (omega arith) (omega arith) (rise-branch ts (n + 1))) tt
    rise (par ts) n =
        rise-if n (n + node_count (par ts)) (is_begun (stage_at xs n)) (numbered_each ts (n + 1) xs) []
        (rise-wider (n + 1) (n + 1 + count_of_each ts) n (n + node_count (par ts)) (numbered_each ts (n + 1) xs) (omega arith) (omega arith) (rise-each ts (n + 1))) tt
    rise (sel ch) n =
        rise-if n (n + node_count (sel ch)) (is_begun (stage_at xs n)) (numbered_chosen ch (n + 1) xs) []
        (rise-wider (n + 1) (n + 1 + count_of_choices ch) n (n + node_count (sel ch)) (numbered_chosen ch (n + 1) xs) (omega arith) (omega arith) (rise-chosen ch (n + 1))) tt
    rise (loop k p body) n =
        rise-in n (n + node_count (loop k p body)) (turns_of (stage_at xs n)) (numbered body (n + 1) xs)
        (rise-wider (n + 1) (n + 1 + node_count body) n (n + node_count (loop k p body)) (numbered body (n + 1) xs) (omega arith) (omega arith) (rise body (n + 1)))

    rise-below : (w : Task) (n : ℕ) → RiseIn n (n + count_within w) (numbered_below w n xs)
    rise-below (runs p) n = tt
    rise-below (follows name c) n = rise c n

    pub rise-each : (ts : Trees) (n : ℕ) → RiseIn n (n + count_of_each ts) (numbered_each ts n xs)
    rise-each no_trees n = tt
    rise-each (tree c ts) n =
        rise-append n (n + node_count c) (n + count_of_each (tree c ts)) (numbered c n xs) (numbered_each ts (n + node_count c) xs) (omega arith) (omega arith) (rise c n)
        (rise-wider (n + node_count c) (n + node_count c + count_of_each ts) (n + node_count c) (n + count_of_each (tree c ts)) (numbered_each ts (n + node_count c) xs) (omega arith) (omega arith) (rise-each ts (n + node_count c)))

    pub rise-branch : (ts : Trees) (n : ℕ) → RiseIn n (n + count_of_each ts) (numbered_branch ts n xs)
    rise-branch no_trees n = tt
    rise-branch (tree c ts) n =
        rise-if n (n + count_of_each (tree c ts)) (is_finished (stage_at xs n)) (numbered_branch ts (n + node_count c) xs) (numbered c n xs)
        (rise-wider (n + node_count c) (n + node_count c + count_of_each ts) n (n + count_of_each (tree c ts)) (numbered_branch ts (n + node_count c) xs) (omega arith) (omega arith) (rise-branch ts (n + node_count c)))
        (rise-wider n (n + node_count c) n (n + count_of_each (tree c ts)) (numbered c n xs) (omega arith) (omega arith) (rise c n))

    pub rise-chosen : (ch : Choices) (n : ℕ) → RiseIn n (n + count_of_choices ch) (numbered_chosen ch n xs)
    rise-chosen (otherwise c) n = rise c n
    rise-chosen (choice p c ch) n =
        rise-if n (n + count_of_choices (choice p c ch)) (is_finished (stage_at xs n)) (numbered_chosen ch (n + node_count c) xs) (numbered c n xs)
        (rise-wider (n + node_count c) (n + node_count c + count_of_choices ch) n (n + count_of_choices (choice p c ch)) (numbered_chosen ch (n + node_count c) xs) (omega arith) (omega arith) (rise-chosen ch (n + node_count c)))
        (rise-wider n (n + node_count c) n (n + count_of_choices (choice p c ch)) (numbered c n xs) (omega arith) (omega arith) (rise c n))

-- the signs of acts, by number

pub other-number : (n k : ℕ) → n ≢ k → nat_eq n k ≡ false
other-number n k ne = elim (eqb_tells n k) [ inl q ↦ absurd (ne q.1) | inr q ↦ q.0 ]

-- before the first number nothing is shown
pub sign-before : (k n m : ℕ) (l : List (ℕ × Rest)) (none : ℕ) → RiseIn n m l → k < n → sign_in k l none ≡ none
sign-before k n m [] none h lt = refl
sign-before k n m (a ∷ l) none h lt =
    ap (sign_in k l) (chosen-false (nat_eq a.0 k) (signs_of a.1) none (other-number a.0 k (λ e. absurd (omega (arith, e, h.0, lt)))))
    ∙ sign-before k (a.0 + 1) m l none h.2 (omega (arith, h.0, lt))

pub sign-here : (m : ℕ) (a : ℕ × Rest) (l : List (ℕ × Rest)) (none : ℕ) → RiseIn (a.0 + 1) m l → sign_in a.0 (a ∷ l) none ≡ signs_of a.1
sign-here m a l none h =
    ap (sign_in a.0 l) (chosen-true (nat_eq a.0 a.0) (signs_of a.1) none (nat-self a.0))
    ∙ sign-before a.0 (a.0 + 1) m l (signs_of a.1) h (omega arith)

pub sign-other : (k : ℕ) (a : ℕ × Rest) (l : List (ℕ × Rest)) (none : ℕ) → a.0 ≢ k → sign_in k (a ∷ l) none ≡ sign_in k l none
sign-other k a l none ne = ap (sign_in k l) (chosen-false (nat_eq a.0 k) (signs_of a.1) none (other-number a.0 k ne))

-- the first of the acts in a list, from a number on, that shows one of the signs
abbrev IsFirstShown : (ℕ → ℕ) → ℕ → ℕ → Option ℕ → Type 0
IsFirstShown f m from None = (k : ℕ) → from ≤ k → bit_and (f k) m ≡ 0
IsFirstShown f m from (Some j) = (from ≤ j) × (bit_and (f j) m ≡ 0 → ⊥) × ((k : ℕ) → from ≤ k → k < j → bit_and (f k) m ≡ 0)

pub shown-not : (m s : ℕ) → bit_and s m ≡ 0 → shows m s ≡ false
shown-not m s e = ap (λ z. not (nat_eq z 0)) e

pub shown-so : (m s : ℕ) → shows m s ≡ false → bit_and s m ≡ 0
shown-so m s e = go (bit_and s m) e
  where
    go : (z : ℕ) → not (nat_eq z 0) ≡ false → z ≡ 0
    go zero e = refl
    go (suc z) e = let f : ◌≡◌ {A = Bool} true false = sym (ap not (more-not_zero z)) ∙ e in absurd (cc)

module _ (m from end : ℕ) where
  abbrev pub picks : ℕ → Rest → Bool
  picks n r = nat_le from n && shows m (signs_of r)

  picks-true : (n : ℕ) (r : Rest) → picks n r ≡ true → (from ≤ n) × (bit_and (signs_of r) m ≡ 0 → ⊥)
  picks-true n r e = go (nat_le from n) refl (shows m (signs_of r)) refl e
    where
      go : (x : Bool) → nat_le from n ≡ x → (y : Bool) → shows m (signs_of r) ≡ y → (x && y) ≡ true → (from ≤ n) × (bit_and (signs_of r) m ≡ 0 → ⊥)
      go true a true b e = (grind (arith, nat_tests), λ z. let d : ◌≡◌ {A = Bool} false true = sym (shown-not m (signs_of r) z) ∙ b in absurd (cc))
      go x1 x2 x3 x4 x5 = absurd (grind arith)

  picks-false : (n : ℕ) (r : Rest) → picks n r ≡ false → from ≤ n → bit_and (signs_of r) m ≡ 0
  picks-false n r e le = go (nat_le from n) refl (shows m (signs_of r)) refl e
    where
      go : (x : Bool) → nat_le from n ≡ x → (y : Bool) → shows m (signs_of r) ≡ y → (x && y) ≡ false → bit_and (signs_of r) m ≡ 0
      go x a false b e = shown-so m (signs_of r) b
      go true a true b e = absurd (cc)
      go false a true b e = absurd (grind (arith, nat_tests))

  pub first-shown : (l : List (ℕ × Rest)) (n : ℕ) → RiseIn n end l → (o : Option ℕ) → IsFirstShown (λ k. sign_in k l 0) m from o → o ≡ first_of picks l
  first-shown [] n h None f = refl
  first-shown [] n h (Some j) f = absurd (f.1 (none-shown m))
  first-shown (a ∷ l) n h o f = go (first-shown l (a.0 + 1) h.2) (picks a.0 a.1) refl o f
    where
      own : sign_in a.0 (a ∷ l) 0 ≡ signs_of a.1
      own = sign-here end a l 0 h.2

      earlier : (k : ℕ) → k < a.0 → bit_and (sign_in k (a ∷ l) 0) m ≡ 0
      earlier k lt = ap (λ z. bit_and z m) (sign-before k a.0 end (a ∷ l) 0 (omega arith, h.1, h.2) lt) ∙ none-shown m

      later : (k : ℕ) → from ≤ k → (from ≤ k → bit_and (sign_in k (a ∷ l) 0) m ≡ 0) → bit_and (sign_in k l 0) m ≡ 0
      later k le f = elim (eqb_tells a.0 k) [
        | inl q ↦ ap (λ z. bit_and z m) (sign-before k (a.0 + 1) end l 0 h.2 (omega (arith, q.1))) ∙ none-shown m
        | inr q ↦ ap (λ z. bit_and z m) (sym (sign-other k a l 0 q.1)) ∙ f le
      ]

      narrow : (o : Option ℕ) → picks a.0 a.1 ≡ false → IsFirstShown (λ k. sign_in k (a ∷ l) 0) m from o → IsFirstShown (λ k. sign_in k l 0) m from o
      narrow None e f = λ k le. later k le (f k)
      narrow (Some j) e f =
          let ne : a.0 ≢ j = λ q. f.1 (ap (λ z. bit_and (sign_in z (a ∷ l) 0) m) (sym q) ∙ ap (λ z. bit_and z m) own ∙ picks-false a.0 a.1 e (omega (arith, f.0, q))) in
          (f.0, λ z. f.1 (ap (λ y. bit_and y m) (sign-other j a l 0 ne) ∙ z), λ k le lt. later k le (λ q. f.2 k q lt))

      go : ((o : Option ℕ) → IsFirstShown (λ k. sign_in k l 0) m from o → o ≡ first_of picks l) → (b : Bool) → picks a.0 a.1 ≡ b → (o : Option ℕ)
          → IsFirstShown (λ k. sign_in k (a ∷ l) 0) m from o → o ≡ first_of picks (a ∷ l)
      go more true e None f = absurd (let t = picks-true a.0 a.1 e in t.1 (ap (λ z. bit_and z m) (sym own) ∙ f a.0 t.0))
      go more true e (Some j) f =
          let t = picks-true a.0 a.1 e in
          let same : j ≡ a.0 = elim (cases_lt j a.0) [
            | inl q ↦ absurd (f.1 (earlier j q))
            | inr q ↦ elim (eqb_tells a.0 j) [ inl z ↦ sym z.1 | inr z ↦ absurd (t.1 (ap (λ z. bit_and z m) (sym own) ∙ f.2 a.0 t.0 (let ne = z.1 in omega (arith, q, ne)))) ]
          ] in
          ap Some same ∙ sym (chosen-true (picks a.0 a.1) (Some a.0) (first_of picks l) e)
      go more false e o f = more o (narrow o e f) ∙ sym (chosen-false (picks a.0 a.1) (Some a.0) (first_of picks l) e)

pub first-same : (p q : ℕ → Rest → Bool) → ((n : ℕ) (r : Rest) → p n r ≡ q n r) → (l : List (ℕ × Rest)) → first_of p l ≡ first_of q l
first-same p q h [] = refl
first-same p q h (e ∷ l) =
    ap (λ z. elim z as (λ _. Option ℕ) [ true ↦ Some e.0 | false ↦ first_of p l ]) (h e.0 e.1) ∙ ap (λ z. elim (q e.0 e.1) as (λ _. Option ℕ) [ true ↦ Some e.0 | false ↦ z ]) (first-same p q h l)

module _ (ns : List Entry) (doc : Recipe) (xs : List Stage) (ms : List ℕ) where
  -- noted for one tree at these nodes, they are noted for any
  pub noted-alike : (t u : Tree) → IsLaid ns doc t → IsLaid ns doc u → AreNoted t xs ms → (k : ℕ) → sign_at ms k ≡ sign_in k (numbered u 0 xs) 0
  noted-alike t u laid other h k = h.shown k ∙ same-signs k (numbered t 0 xs) (numbered u 0 xs) 0 (alike ns doc xs t 0 laid.stands u other.stands)

  past : (k : ℕ) → length ms ≤ k → (m : ℕ) → bit_and (sign_at ms k) m ≡ 0
  past k le m = ap (λ z. bit_and z m) (get_or_past {X = ℕ} ms k 0 le) ∙ none-shown m

  in-all : (m from : ℕ) (o : Option ℕ) (f : ℕ → ℕ) → ((k : ℕ) → sign_at ms k ≡ f k) → IsNextShown ms m from o → IsFirstShown f m from o
  in-all m from None f same h = λ k le. ap (λ z. bit_and z m) (sym (same k)) ∙ elim (cases_lt k (length ms)) [ inl q ↦ h k le q | inr q ↦ past k q m ]
  in-all m from (Some j) f same h = (h.0, λ z. h.2 (ap (λ y. bit_and y m) (same j) ∙ z), λ k le lt. ap (λ z. bit_and z m) (sym (same k)) ∙ h.3 k le lt)

  -- the first node that shows a sign is that of the first act that passes a test, where the sign tells it
  pub found-from : (p : ℕ → Rest → Bool) (m from : ℕ) (o : Option ℕ) → ((n : ℕ) (r : Rest) → p n r ≡ (nat_le from n && shows m (signs_of r))) → SomeNoted ns doc xs ms → IsNextShown ms m from o → IsFoundFirst ns doc xs p o
  found-from p m from o says some h =
      record {
        means = λ t laid.
            first-shown m from (0 + node_count t) (numbered t 0 xs) 0 (rise xs t 0) o (in-all m from o (λ k. sign_in k (numbered t 0 xs) 0) (noted-alike some.0 t some.1 laid some.2) h)
            ∙ sym (first-same p (picks m from (0 + node_count t)) says (numbered t 0 xs));
      }

  pub found : (p : ℕ → Rest → Bool) (m : ℕ) (o : Option ℕ) → Says p m → SomeNoted ns doc xs ms → IsNextShown ms m 0 o → IsFoundFirst ns doc xs p o
  found p m o says = found-from p m 0 o (says-all p m says)

  pub found-showing : (m : ℕ) (o : Option ℕ) → SomeNoted ns doc xs ms → IsNextShown ms m 0 o → IsFoundFirst ns doc xs (showing m) o
  found-showing m o = found (showing m) m o (said-showing m)
