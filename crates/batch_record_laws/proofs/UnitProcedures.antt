-- The unit procedures of a tree, of which those that follow a step are some.
use Rattle.std.proofs.Common.{arith, ◌≡◌, ◌≢◌, refl, ◌∙◌, ap, subst, ℕ, zero, suc, List, [], ◌∷◌, ◌++◌, Bool, true, find, Option, Some, None, inl, inr, ⊎_elim}
use Rattle.std.specs.Prelude.{option_map}
use Rattle.batch_recipe.specs.{Conditions.Name, Conditions.same_name, Following.Follower, Following.firsts, Following.firsts_of_each, Following.enter, Following.branch, Following.choice_at, Following.child_of, Following.level_within, Following.next_after, Following.following_below, Following.following, Following.follower, Levels.Level, Levels.is_procedure, Levels.in_procedure, Levels.in_unit_procedure, Levels.in_operation, Levels.below, Tree.Place, Tree.Step, Tree.runs, Tree.follows, Tree.Tree, Tree.act, Tree.skip, Tree.seq, Tree.par, Tree.sel, Tree.loop, Tree.Trees, Tree.no_trees, Tree.tree, Tree.Choices, Tree.otherwise, Tree.choice}
use Rattle.batch_model.{specs.ActStates.steps, specs.ActStates.steps_of_each, specs.ActStates.steps_of_choices, specs.Lists.Has, proofs.Members.Has-split, proofs.Members.Has-left, proofs.Members.Has-right}

-- a unit procedure: its step and its name
abbrev pub Top : Type 0
Top = Step × Name

abbrev mutual
  -- the topmost acts with charts
  pub tops : Tree → List Top
  tops (act s (runs x)) = []
  tops (act s (follows name c)) = (s, name) ∷ []
  tops skip = []
  tops (seq ts) = tops_of_each ts
  tops (par ts) = tops_of_each ts
  tops (sel cs) = tops_of_choices cs
  tops (loop n c t) = tops t

  pub tops_of_each : Trees → List Top
  tops_of_each no_trees = []
  tops_of_each (tree t ts) = tops t ++ tops_of_each ts

  pub tops_of_choices : Choices → List Top
  tops_of_choices (otherwise t) = tops t
  tops_of_choices (choice c t cs) = tops t ++ tops_of_choices cs

mutual
  -- they are among the steps
  pub top-steps : (c : Tree) (t : Top) → Has (tops c) t → Has (steps c) t.0
  top-steps (act s (runs x)) t h = absurd h
  top-steps (act s (follows name c)) t (inl e) = inl (ap (λ z. z.0) e)
  top-steps (act s (follows name c)) t (inr h) = absurd h
  top-steps skip t h = absurd h
  top-steps (seq ts) t h = top-steps_of_each ts t h
  top-steps (par ts) t h = top-steps_of_each ts t h
  top-steps (sel cs) t h = top-steps_of_choices cs t h
  top-steps (loop n c b) t h = top-steps b t h

  pub top-steps_of_each : (cs : Trees) (t : Top) → Has (tops_of_each cs) t → Has (steps_of_each cs) t.0
  top-steps_of_each no_trees t h = absurd h
  top-steps_of_each (tree c cs) t h =
      ⊎_elim (λ m. Has-left (steps c) (steps_of_each cs) t.0 (top-steps c t m)) (λ m. Has-right (steps c) (steps_of_each cs) t.0 (top-steps_of_each cs t m))
      (Has-split (tops c) (tops_of_each cs) t h)

  pub top-steps_of_choices : (cs : Choices) (t : Top) → Has (tops_of_choices cs) t → Has (steps_of_choices cs) t.0
  top-steps_of_choices (otherwise c) t h = top-steps c t h
  top-steps_of_choices (choice q c cs) t h =
      ⊎_elim (λ m. Has-left (steps c) (steps_of_choices cs) t.0 (top-steps c t m)) (λ m. Has-right (steps c) (steps_of_choices cs) t.0 (top-steps_of_choices cs t m))
      (Has-split (tops c) (tops_of_choices cs) t h)

-- the follower is one of these unit procedures
abbrev pub IsOneOf : List Top → Follower → Type 0
IsOneOf ts f = (t : Top) × Has ts t × (t.1 ≡ f.0) × (t.0.place ≡ f.1)

one-left : (xs ys : List Top) (f : Follower) → IsOneOf xs f → IsOneOf (xs ++ ys) f
one-left xs ys f h = (h.0, Has-left xs ys h.0 h.1, h.2, h.3)

one-right : (xs ys : List Top) (f : Follower) → IsOneOf ys f → IsOneOf (xs ++ ys) f
one-right xs ys f h = (h.0, Has-right xs ys h.0 h.1, h.2, h.3)

mutual
  firsts-tops : (c : Tree) (f : Follower) → Has (firsts c) f → IsOneOf (tops c) f
  firsts-tops (act s (runs x)) f h = absurd h
  firsts-tops (act s (follows name c)) f (inl e) = ((s, name), inl refl, ap (λ z. z.0) e, ap (λ z. z.1) e)
  firsts-tops (act s (follows name c)) f (inr h) = absurd h
  firsts-tops skip f h = absurd h
  firsts-tops (seq no_trees) f h = absurd h
  firsts-tops (seq (tree c cs)) f h = one-left (tops c) (tops_of_each cs) f (firsts-tops c f h)
  firsts-tops (par cs) f h = firsts-tops_of_each cs f h
  firsts-tops (sel ch) f h = absurd h
  firsts-tops (loop n c b) f h = firsts-tops b f h

  firsts-tops_of_each : (cs : Trees) (f : Follower) → Has (firsts_of_each cs) f → IsOneOf (tops_of_each cs) f
  firsts-tops_of_each no_trees f h = absurd h
  firsts-tops_of_each (tree c cs) f h =
      ⊎_elim (λ m. one-left (tops c) (tops_of_each cs) f (firsts-tops c f m)) (λ m. one-right (tops c) (tops_of_each cs) f (firsts-tops_of_each cs f m))
      (Has-split (firsts c) (firsts_of_each cs) f h)

-- all unit procedures of the tree are among these
abbrev AreAmong : List Top → Tree → Type 0
AreAmong ts c = (t : Top) → Has (tops c) t → Has ts t

branch-among : (ts : List Top) (cs : Trees) (i : ℕ) (c : Tree) → branch cs i ≡ Some c → ((t : Top) → Has (tops_of_each cs) t → Has ts t) → AreAmong ts c
branch-among ts no_trees i c e h = let bad : None ≡ Some c = e in absurd cc
branch-among ts (tree d ds) zero c e h =
    let same : d ≡ c = (let q : Some d ≡ Some c = e in cc) in
    subst (AreAmong ts) same (λ t m. h t (Has-left (tops d) (tops_of_each ds) t m))
branch-among ts (tree d ds) (suc i) c e h = branch-among ts ds i c e (λ t m. h t (Has-right (tops d) (tops_of_each ds) t m))

choice-among : (ts : List Top) (cs : Choices) (i : ℕ) (c : Tree) → choice_at cs i ≡ Some c → ((t : Top) → Has (tops_of_choices cs) t → Has ts t) → AreAmong ts c
choice-among ts (otherwise d) zero c e h = let same : d ≡ c = (let q : Some d ≡ Some c = e in cc) in subst (AreAmong ts) same h
choice-among ts (otherwise d) (suc i) c e h = let bad : None ≡ Some c = e in absurd cc
choice-among ts (choice q d ds) zero c e h =
    let same : d ≡ c = (let q : Some d ≡ Some c = e in cc) in
    subst (AreAmong ts) same (λ t m. h t (Has-left (tops d) (tops_of_choices ds) t m))
choice-among ts (choice q d ds) (suc i) c e h = choice-among ts ds i c e (λ t m. h t (Has-right (tops d) (tops_of_choices ds) t m))

never-below : (l : Level) → l ≢ is_procedure → below l ≡ in_procedure → ⊥
never-below is_procedure d e = d refl
never-below in_procedure d e = let bad : in_unit_procedure ≡ in_procedure = e in cc
never-below in_unit_procedure d e = let bad : in_operation ≡ in_procedure = e in cc
never-below in_operation d e = let bad : in_operation ≡ in_procedure = e in cc

below-never : (l : Level) → below l ≢ is_procedure
below-never is_procedure e = let bad : in_procedure ≡ is_procedure = e in cc
below-never in_procedure e = let bad : in_unit_procedure ≡ is_procedure = e in cc
below-never in_unit_procedure e = let bad : in_operation ≡ is_procedure = e in cc
below-never in_operation e = let bad : in_operation ≡ is_procedure = e in cc

module _ (ts : List Top) where
  -- the unit procedures of a tree in a chart of the procedure are among these
  abbrev Fits : Level → Tree → Type 0
  Fits level c = level ≡ in_procedure → AreAmong ts c

  abbrev AllOf : List Follower → Type 0
  AllOf fs = (f : Follower) → Has fs f → IsOneOf ts f

  entered-one : (level : Level) (c : Tree) → Fits level c → AllOf (enter level c)
  entered-one is_procedure c h f i = absurd i
  entered-one in_procedure c h f i = let m = firsts-tops c f i in (m.0, h refl m.0 m.1, m.2, m.3)
  entered-one in_unit_procedure c h f i = absurd i
  entered-one in_operation c h f i = absurd i

  child-fits : (level : Level) (here : Tree) (i : ℕ) (part : Tree) → level ≢ is_procedure → Fits level here → child_of here i ≡ Some part → Fits (level_within level here) part
  child-fits level (act s (runs x)) i part d h e q = let bad : None ≡ Some part = e in absurd cc
  child-fits level (act s (follows name c)) i part d h e q = absurd (never-below level d q)
  child-fits level skip i part d h e q = let bad : None ≡ Some part = e in absurd cc
  child-fits level (seq cs) i part d h e q = branch-among ts cs i part e (h q)
  child-fits level (par cs) i part d h e q = branch-among ts cs i part e (h q)
  child-fits level (sel ch) i part d h e q = choice-among ts ch i part e (h q)
  child-fits level (loop n c b) zero part d h e q = let same : b ≡ part = (let z : Some b ≡ Some part = e in cc) in subst (AreAmong ts) same (h q)
  child-fits level (loop n c b) (suc i) part d h e q = let bad : None ≡ Some part = e in absurd cc

  next-one : (level : Level) (next : List Follower) (here : Tree) (i : ℕ) → Fits level here → AllOf next → AllOf (next_after level next here i)
  next-one level next (act s w) i h k f m = k f m
  next-one level next skip i h k f m = absurd m
  next-one level next (seq cs) i h k f m = go (branch cs (suc i)) refl m
    where
      go : (o : Option Tree) → branch cs (suc i) ≡ o → Has (elim o [ None ↦ next | Some c ↦ enter level c ]) f → IsOneOf ts f
      go None e n = k f n
      go (Some c) e n = entered-one level c (λ q. branch-among ts cs (suc i) c e (h q)) f n
  next-one level next (par cs) i h k f m = absurd m
  next-one level next (sel ch) i h k f m = k f m
  next-one level next (loop n c b) i h k f m = absurd m

  within-never : (level : Level) (here : Tree) → level ≢ is_procedure → level_within level here ≢ is_procedure
  within-never level (act s w) d = below-never level
  within-never level skip d = d
  within-never level (seq cs) d = d
  within-never level (par cs) d = d
  within-never level (sel ch) d = d
  within-never level (loop n c b) d = d

  below-one : (level : Level) (next : List Follower) (here : Tree) (place : Place) → level ≢ is_procedure → Fits level here → AllOf next → AllOf (following_below level next here place)
  below-one level next here [] d h k f m = k f m
  below-one level next here (i ∷ place) d h k f m =
      go (child_of here i) refl (λ part e n. below-one (level_within level here) (next_after level next here i) part place (within-never level here d) (child-fits level here i part d h e) (next-one level next here i h k) f n) m
    where
      go : (o : Option Tree) → child_of here i ≡ o
          → ((part : Tree) → child_of here i ≡ Some part → Has (following_below (level_within level here) (next_after level next here i) part place) f → IsOneOf ts f)
          → Has (elim o [ None ↦ [] | Some part ↦ following_below (level_within level here) (next_after level next here i) part place ]) f → IsOneOf ts f
      go None e later n = absurd n
      go (Some part) e later n = later part e n

in_procedure-not : in_procedure ≢ is_procedure
in_procedure-not e = let bad : in_procedure ≡ is_procedure = e in cc

-- the follower of a step of a procedure is one of its unit procedures
pub following-one : (s : Step) (name : Name) (c : Tree) (place : Place) (f : Follower) → Has (following (act s (follows name c)) place) f → IsOneOf (tops c) f
following-one s name c [] f h = absurd h
following-one s name c (root ∷ []) f h = absurd h
following-one s name c (root ∷ zero ∷ place) f h = below-one (tops c) in_procedure [] c place in_procedure-not (λ q t m. m) (λ g m. absurd m) f h
following-one s name c (root ∷ suc i ∷ place) f h = absurd h

pub find-passes : {X : Type 0} (p : X → Bool) (xs : List X) (x : X) → find p xs ≡ Some x → Has xs x × (p x ≡ true)
find-passes p [] x e = let bad : None ≡ Some x = e in absurd cc
find-passes p (y ∷ xs) x e = grind (arith, find-passes p xs x)

pub follower-one : (s : Step) (name : Name) (c : Tree) (place : Place) (wanted : Name) (to : Place) → follower (act s (follows name c)) place wanted ≡ Some to
    → (t : Top) × Has (tops c) t × (same_name t.1 wanted ≡ true) × (t.0.place ≡ to)
follower-one s name c place wanted to e = go (find (λ (f : Follower). same_name f.0 wanted) (following (act s (follows name c)) place)) refl e
  where
    go : (o : Option Follower) → find (λ (f : Follower). same_name f.0 wanted) (following (act s (follows name c)) place) ≡ o → option_map (λ (f : Follower). f.1) o ≡ Some to
        → (t : Top) × Has (tops c) t × (same_name t.1 wanted ≡ true) × (t.0.place ≡ to)
    go None q k = let bad : None ≡ Some to = k in absurd cc
    go (Some f) q k =
        let m = find-passes (λ (g : Follower). same_name g.0 wanted) (following (act s (follows name c)) place) f q in
        let t = following-one s name c place f m.0 in
        let at : f.1 ≡ to = (let z : Some f.1 ≡ Some to = k in cc) in
        (t.0, t.1, ap (λ z. same_name z wanted) t.2 ∙ m.1, t.3 ∙ at)
