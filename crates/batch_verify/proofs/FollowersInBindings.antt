-- The unit procedures that follow a node are the same in all bindings.
use Rattle.std.proofs.Common.{◌≡◌, ℕ, zero, suc, List, [], ◌∷◌, ◌++◌, Option, Some, None, refl, ap, ap₂, ◌∙◌, subst}
use Rattle.std.specs.Prelude.{find, option_map}
use Rattle.batch_recipe.specs.{Conditions.Name, Conditions.same_name, Following.Follower, Following.branch, Following.child_of, Following.choice_at, Following.enter, Following.firsts, Following.firsts_of_each, Following.firsts_of_first, Following.following, Following.following_below, Following.level_within, Following.next_after, Levels.Level, Levels.is_procedure, Levels.in_procedure, Levels.in_unit_procedure, Levels.in_operation, Nodes.Node, Nodes.reserves_of, Tree.Place, Tree.Reserve, Tree.Tree, Tree.act, Tree.skip, Tree.seq, Tree.par, Tree.sel, Tree.loop, Tree.runs, Tree.follows, Tree.Trees, Tree.no_trees, Tree.tree, Tree.Choices, Tree.otherwise, Tree.choice}
use Rattle.batch_model.specs.{Lists.Each, Cleared.ReservesFollow}
use Rattle.batch_verify.proofs.PhasesInBindings.{AreAlike, ChoicesAlike, EachAlike}

mutual
  firsts_alike : (t u : Tree) → AreAlike t u → firsts t ≡ firsts u
  firsts_alike (act s (runs a)) (act r (runs b)) h = refl
  firsts_alike (act s (follows name t)) (act r (follows other u)) h = ap₂ (λ (n : Name) (p : Place). (n, p) ∷ []) h.0.1 h.1
  firsts_alike (act s (runs a)) (act r (follows other u)) h = absurd h.0
  firsts_alike (act s (follows name t)) (act r (runs b)) h = absurd h.0
  firsts_alike skip skip h = refl
  firsts_alike (seq ts) (seq us) h = first_alike ts us h
  firsts_alike (par ts) (par us) h = each_first_alike ts us h
  firsts_alike (sel cs) (sel ds) h = refl
  firsts_alike (loop n c t) (loop m d u) h = firsts_alike t u h
  firsts_alike _ _ h = absurd h

  first_alike : (ts us : Trees) → EachAlike ts us → firsts_of_first ts ≡ firsts_of_first us
  first_alike no_trees no_trees h = refl
  first_alike (tree t ts) (tree u us) h = firsts_alike t u h.0
  first_alike _ _ h = absurd h

  each_first_alike : (ts us : Trees) → EachAlike ts us → firsts_of_each ts ≡ firsts_of_each us
  each_first_alike no_trees no_trees h = refl
  each_first_alike (tree t ts) (tree u us) h = ap₂ (λ (xs ys : List Follower). xs ++ ys) (firsts_alike t u h.0) (each_first_alike ts us h.1)
  each_first_alike _ _ h = absurd h

enter_alike : (l : Level) (t u : Tree) → AreAlike t u → enter l t ≡ enter l u
enter_alike is_procedure t u h = refl
enter_alike in_procedure t u h = firsts_alike t u h
enter_alike in_unit_procedure t u h = refl
enter_alike in_operation t u h = refl

-- a child of the one tree is like that of the other
abbrev ChildAlike : Option Tree → Option Tree → Type 0
ChildAlike None None = Unit {0}
ChildAlike (Some t) (Some u) = AreAlike t u
ChildAlike _ _ = ⊥

branch_alike : (ts us : Trees) (n : ℕ) → EachAlike ts us → ChildAlike (branch ts n) (branch us n)
branch_alike no_trees no_trees n h = tt
branch_alike (tree t ts) (tree u us) zero h = h.0
branch_alike (tree t ts) (tree u us) (suc n) h = branch_alike ts us n h.1
branch_alike _ _ n h = absurd h

choice_alike : (cs ds : Choices) (n : ℕ) → ChoicesAlike cs ds → ChildAlike (choice_at cs n) (choice_at ds n)
choice_alike (otherwise t) (otherwise u) zero h = h
choice_alike (otherwise t) (otherwise u) (suc n) h = tt
choice_alike (choice c t cs) (choice d u ds) zero h = h.0
choice_alike (choice c t cs) (choice d u ds) (suc n) h = choice_alike cs ds n h.1
choice_alike _ _ n h = absurd h

child_alike : (t u : Tree) (n : ℕ) → AreAlike t u → ChildAlike (child_of t n) (child_of u n)
child_alike (act s (runs a)) (act r (runs b)) n h = tt
child_alike (act s (follows name t)) (act r (follows other u)) zero h = h.0.0
child_alike (act s (follows name t)) (act r (follows other u)) (suc n) h = tt
child_alike (act s (runs a)) (act r (follows other u)) n h = absurd h.0
child_alike (act s (follows name t)) (act r (runs b)) n h = absurd h.0
child_alike skip skip n h = tt
child_alike (seq ts) (seq us) n h = branch_alike ts us n h
child_alike (par ts) (par us) n h = branch_alike ts us n h
child_alike (sel cs) (sel ds) n h = choice_alike cs ds n h
child_alike (loop k c t) (loop m d u) zero h = h
child_alike (loop k c t) (loop m d u) (suc n) h = tt
child_alike _ _ n h = absurd h

level_alike : (l : Level) (t u : Tree) → AreAlike t u → level_within l t ≡ level_within l u
level_alike l (act s w) (act r v) h = refl
level_alike l skip skip h = refl
level_alike l (seq ts) (seq us) h = refl
level_alike l (par ts) (par us) h = refl
level_alike l (sel cs) (sel ds) h = refl
level_alike l (loop k c t) (loop m d u) h = refl
level_alike l _ _ h = absurd h

module _ (l : Level) (next : List Follower) (n : ℕ) where
  after_alike : (o q : Option Tree) → ChildAlike o q → ◌≡◌ {A = List Follower} (elim o [ None ↦ next | Some t ↦ enter l t ]) (elim q [ None ↦ next | Some u ↦ enter l u ])
  after_alike None None h = refl
  after_alike (Some t) (Some u) h = enter_alike l t u h
  after_alike _ _ h = absurd h

  next_alike : (t u : Tree) → AreAlike t u → next_after l next t n ≡ next_after l next u n
  next_alike (act s w) (act r v) h = refl
  next_alike skip skip h = refl
  next_alike (seq ts) (seq us) h = after_alike (branch ts (suc n)) (branch us (suc n)) (branch_alike ts us (suc n) h)
  next_alike (par ts) (par us) h = refl
  next_alike (sel cs) (sel ds) h = refl
  next_alike (loop k c t) (loop m d u) h = refl
  next_alike _ _ h = absurd h

-- the followers of the node at this place are the same below two trees that are alike
abbrev AreFollowedAlike : Place → Type 0
AreFollowedAlike p = (l : Level) (next : List Follower) (t u : Tree) → AreAlike t u → following_below l next t p ≡ following_below l next u p

following_below_alike : (p : Place) → AreFollowedAlike p
following_below_alike [] l next t u h = refl
following_below_alike (n ∷ p) l next t u h = go (child_of t n) (child_of u n) (child_alike t u n h) (following_below_alike p)
  where
    go : (o q : Option Tree) → ChildAlike o q → AreFollowedAlike p
        → ◌≡◌ {A = List Follower}
        (elim o [ None ↦ [] | Some x ↦ following_below (level_within l t) (next_after l next t n) x p ])
        (elim q [ None ↦ [] | Some y ↦ following_below (level_within l u) (next_after l next u n) y p ])
    go None None k below = refl
    go (Some x) (Some y) k below =
        ap₂ (λ (m : Level) (fs : List Follower). following_below m fs x p) (level_alike l t u h) (next_alike l next n t u h)
        ∙ below (level_within l u) (next_after l next u n) x y k
    go _ _ k below = absurd k

following_alike : (t u : Tree) (p : Place) → AreAlike t u → following t p ≡ following u p
following_alike t u [] h = refl
following_alike t u (root ∷ p) h = following_below_alike p is_procedure [] t u h

pub reserves_alike : (t u : Tree) → AreAlike t u → reserves_of t ≡ reserves_of u
reserves_alike (act s w) (act r v) h = h.2
reserves_alike skip skip h = refl
reserves_alike (seq ts) (seq us) h = refl
reserves_alike (par ts) (par us) h = refl
reserves_alike (sel cs) (sel ds) h = refl
reserves_alike (loop k c t) (loop m d u) h = refl
reserves_alike _ _ h = absurd h

-- each of these unit procedures is among the followers
abbrev AreAmong : List Follower → List Reserve → Type 0
AreAmong followers reserves = Each (λ reserve. (place : Place) × (option_map (λ f. f.1) (find (λ f. same_name f.0 reserve.name) followers) ≡ Some place)) reserves

pub follow_alike : (procedure other : Tree) (at to : Node) → AreAlike procedure other → AreAlike at.here to.here → at.place ≡ to.place → ReservesFollow procedure at → ReservesFollow other to
follow_alike procedure other at to same here place h =
    subst (AreAmong (following other to.place)) (reserves_alike at.here to.here here)
    (subst (λ (followers : List Follower). AreAmong followers (reserves_of at.here)) (following_alike procedure other at.place same ∙ ap (following other) place) h)
