-- The unit procedures that a node reserves, one after another, and whether they follow it.
use Rattle.std.proofs.Common.{◌≡◌, ℕ, ◌+◌, ◌<◌, ◌≤◌, arith, false, true, List, [], length, take, take_all, subst, get_or, slice_get, Option, Some, None, refl, sym, ap, ◌∙◌}
use Rattle.std.{specs.Prelude.option_and_then, specs.Prelude.IfSome, specs.Prelude.IsNone, specs.Option.is_some, proofs.lemmas.Option.slice_get-get_or}
use Rattle.batch_recipe.specs.{Followers.follower_of, Following.follower, Nodes.Node, Nodes.reserves_of, Tree.Place, Tree.Reserve, Tree.Tree}
use Rattle.batch_model.specs.{Lists.Each, Cleared.ReservesFollow}
use Rattle.batch_verify.proofs.NamesInList.{Each-at, Each-next}

pub is_none : (o : Option ℕ) → is_some o ≡ false → IsNone o
is_none o h = grind arith

pub is_found : (P : ℕ → Type 0) (o : Option ℕ) → is_some o ≡ true → IfSome o P → (n : ℕ) × P n
is_found P None h p = let bad : false ≡ true = h in absurd cc
is_found P (Some n) h p = (n, p)

module _ (tree : Tree) (at : Node) where
  abbrev pub Follows : Reserve → Type 0
  Follows reserve = (place : Place) × (follower tree at.place reserve.name ≡ Some place)

  -- those before number i follow
  abbrev pub FollowBefore : ℕ → Type 0
  FollowBefore i = Each Follows (take i (reserves_of at.here))

  abbrev place_of : Option Reserve → Option Place
  place_of found = option_and_then (λ (x : Reserve). follower tree at.place x.name) found

  pub one_more : (i : ℕ) (place : Place) → FollowBefore i → follower_of tree at i ≡ Some place → FollowBefore (i + 1)
  one_more i place h is = go (slice_get (reserves_of at.here) i) refl is
    where
      go : (found : Option Reserve) → slice_get (reserves_of at.here) i ≡ found → place_of found ≡ Some place → FollowBefore (i + 1)
      go None e f = let bad : None ≡ Some place = f in cc
      go (Some reserve) e f = Each-next Follows (reserves_of at.here) i reserve e h (place, f)

  pub one_fails : (i : ℕ) → i < length (reserves_of at.here) → follower_of tree at i ≡ None → ReservesFollow tree at → ⊥
  one_fails i within none all =
      let found = slice_get-get_or (reserves_of at.here) i (record { name = []; need = 0 }) within in
      let reserve = get_or (reserves_of at.here) i (record { name = []; need = 0 }) in
      let own = Each-at Follows (reserves_of at.here) i reserve found all in
      let bad : None ≡ Some own.0 = sym none ∙ (ap place_of found ∙ own.1) in
      cc

  pub all_follow : (i : ℕ) → length (reserves_of at.here) ≤ i → FollowBefore i → ReservesFollow tree at
  all_follow i past h = subst (λ (rs : List Reserve). Each Follows rs) (take_all i (reserves_of at.here) past) h
