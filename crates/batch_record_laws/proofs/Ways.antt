-- Ranks rise along the path of each node exactly where they rise on the way down.
use Rattle.std.proofs.Common.{◌≡◌, refl, sym, subst, ℕ, suc, ◌+◌, ◌<◌, arith, List, [], ◌∷◌, ◌++◌}
use Rattle.batch_model.{specs.Lists.Each, specs.Cleared.Ranking, specs.Cleared.RiseStrictly, proofs.Members.Each-append, proofs.Members.Each-map}
use Rattle.batch_recipe.specs.{Conditions.Name, Nodes.Node, Nodes.child, Nodes.nodes, Nodes.nodes_within, Nodes.nodes_of_each, Nodes.nodes_of_choices, Tree.Place, Tree.Task, Tree.runs, Tree.follows, Tree.Tree, Tree.act, Tree.skip, Tree.seq, Tree.par, Tree.sel, Tree.loop, Tree.Trees, Tree.no_trees, Tree.tree, Tree.Choices, Tree.otherwise, Tree.choice, Needs.resources_needed}
use Rattle.batch_record_laws.{specs.Ways.RanksRiseAbove, specs.Ways.last_rank, specs.Ways.RisesDown, specs.Ways.RisesBelow, specs.Ways.RiseDown, specs.Ways.ChoicesRiseDown, specs.Ways.WaysRise, proofs.Members.Each-left, proofs.Members.Each-right}

rises-rest : (rank : Ranking) (low : ℕ) (xs ys : List Name) → RanksRiseAbove rank low (xs ++ ys) → RanksRiseAbove rank (last_rank rank low xs) ys
rises-rest rank low [] ys h = h
rises-rest rank low (x ∷ xs) ys h = rises-rest rank (rank x) xs ys h.1

rises-append : (rank : Ranking) (low : ℕ) (xs ys : List Name) → RanksRiseAbove rank low xs → RanksRiseAbove rank (last_rank rank low xs) ys → RanksRiseAbove rank low (xs ++ ys)
rises-append rank low [] ys h k = k
rises-append rank low (x ∷ xs) ys h k = (h.0, rises-append rank (rank x) xs ys h.1 k)

last-append : (rank : Ranking) (low : ℕ) (xs ys : List Name) → last_rank rank low (xs ++ ys) ≡ last_rank rank (last_rank rank low xs) ys
last-append rank low [] ys = refl
last-append rank low (x ∷ xs) ys = last-append rank (rank x) xs ys

-- the ranks of all that is asked for on the path of a node rise from above low
abbrev PathRises : Ranking → ℕ → Node → Type 0
PathRises rank low n = RanksRiseAbove rank low n.asked

module _ (rank : Ranking) (low : ℕ) where
  mutual
    down : (p : Place) (above : List Name) (c : Tree) → Each (PathRises rank low) (nodes p above c) → RisesDown rank (last_rank rank low above) c
    down p above (act s w) h = (
      rises-rest rank low above (resources_needed s.needs) h.0,
      subst (λ z. RisesBelow rank z w) (last-append rank low above (resources_needed s.needs)) (down_within p (above ++ resources_needed s.needs) w h.1),
    )
    down p above skip h = tt
    down p above (seq cs) h = down_each p above 0 cs h.1
    down p above (par cs) h = down_each p above 0 cs h.1
    down p above (sel ch) h = down_choices p above 0 ch h.1
    down p above (loop n c body) h = down (child p 0) above body h.1

    down_within : (p : Place) (above : List Name) (w : Task) → Each (PathRises rank low) (nodes_within p above w) → RisesBelow rank (last_rank rank low above) w
    down_within p above (runs x) h = tt
    down_within p above (follows name c) h = down (child p 0) above c h

    down_each : (p : Place) (above : List Name) (i : ℕ) (cs : Trees) → Each (PathRises rank low) (nodes_of_each p above i cs) → RiseDown rank (last_rank rank low above) cs
    down_each p above i no_trees h = tt
    down_each p above i (tree c cs) h = (
      down (child p i) above c (Each-left (PathRises rank low) (nodes (child p i) above c) (nodes_of_each p above (i + 1) cs) h),
      down_each p above (i + 1) cs (Each-right (PathRises rank low) (nodes (child p i) above c) (nodes_of_each p above (i + 1) cs) h),
    )

    down_choices : (p : Place) (above : List Name) (i : ℕ) (ch : Choices) → Each (PathRises rank low) (nodes_of_choices p above i ch)
        → ChoicesRiseDown rank (last_rank rank low above) ch
    down_choices p above i (otherwise c) h = down (child p i) above c h
    down_choices p above i (choice d c ch) h = (
      down (child p i) above c (Each-left (PathRises rank low) (nodes (child p i) above c) (nodes_of_choices p above (i + 1) ch) h),
      down_choices p above (i + 1) ch (Each-right (PathRises rank low) (nodes (child p i) above c) (nodes_of_choices p above (i + 1) ch) h),
    )

  -- a node that asks for nothing of its own
  plain : (above : List Name) → RanksRiseAbove rank low above → RanksRiseAbove rank low (above ++ [])
  plain above a = rises-append rank low above [] a tt

  mutual
    up : (p : Place) (above : List Name) (c : Tree) → RanksRiseAbove rank low above → RisesDown rank (last_rank rank low above) c → Each (PathRises rank low) (nodes p above c)
    up p above (act s w) a h =
        let whole : RanksRiseAbove rank low (above ++ resources_needed s.needs) = rises-append rank low above (resources_needed s.needs) a h.0 in
        (whole, up_within p (above ++ resources_needed s.needs) w whole (subst (λ z. RisesBelow rank z w) (sym (last-append rank low above (resources_needed s.needs))) h.1))
    up p above skip a h = (plain above a, tt)
    up p above (seq cs) a h = (plain above a, up_each p above 0 cs a h)
    up p above (par cs) a h = (plain above a, up_each p above 0 cs a h)
    up p above (sel ch) a h = (plain above a, up_choices p above 0 ch a h)
    up p above (loop n c body) a h = (plain above a, up (child p 0) above body a h)

    up_within : (p : Place) (above : List Name) (w : Task) → RanksRiseAbove rank low above → RisesBelow rank (last_rank rank low above) w → Each (PathRises rank low) (nodes_within p above w)
    up_within p above (runs x) a h = tt
    up_within p above (follows name c) a h = up (child p 0) above c a h

    up_each : (p : Place) (above : List Name) (i : ℕ) (cs : Trees) → RanksRiseAbove rank low above → RiseDown rank (last_rank rank low above) cs
        → Each (PathRises rank low) (nodes_of_each p above i cs)
    up_each p above i no_trees a h = tt
    up_each p above i (tree c cs) a h =
        Each-append (PathRises rank low) (nodes (child p i) above c) (nodes_of_each p above (i + 1) cs) (up (child p i) above c a h.0) (up_each p above (i + 1) cs a h.1)

    up_choices : (p : Place) (above : List Name) (i : ℕ) (ch : Choices) → RanksRiseAbove rank low above → ChoicesRiseDown rank (last_rank rank low above) ch
        → Each (PathRises rank low) (nodes_of_choices p above i ch)
    up_choices p above i (otherwise c) a h = up (child p i) above c a h
    up_choices p above i (choice d c ch) a h =
        Each-append (PathRises rank low) (nodes (child p i) above c) (nodes_of_choices p above (i + 1) ch) (up (child p i) above c a h.0) (up_choices p above (i + 1) ch a h.1)

strictly-to : (rank : Ranking) (low : ℕ) (x : Name) (xs : List Name) → low < suc (rank x) → RiseStrictly rank (x ∷ xs) → RanksRiseAbove (λ r. suc (rank r)) low (x ∷ xs)
strictly-to rank low x [] l h = (l, tt)
strictly-to rank low x (y ∷ ys) l h = (l, strictly-to rank (suc (rank x)) y ys (let m : rank x < rank y = h.0 in omega arith) h.1)

to : (rank : Ranking) (xs : List Name) → RiseStrictly rank xs → RanksRiseAbove (λ r. suc (rank r)) 0 xs
to rank [] h = tt
to rank (x ∷ xs) h = strictly-to rank 0 x xs (omega arith) h

strictly-from : (rank : Ranking) (low : ℕ) (x : Name) (xs : List Name) → RanksRiseAbove (λ r. suc (rank r)) low (x ∷ xs) → RiseStrictly rank (x ∷ xs)
strictly-from rank low x [] h = tt
strictly-from rank low x (y ∷ ys) h = ((let m : suc (rank x) < suc (rank y) = h.1.0 in omega arith), strictly-from rank (suc (rank x)) y ys h.1)

from : (rank : Ranking) (xs : List Name) → RanksRiseAbove (λ r. suc (rank r)) 0 xs → RiseStrictly rank xs
from rank [] h = tt
from rank (x ∷ xs) h = strictly-from rank 0 x xs h

-- ranks that rise along the paths of a whole tree rise on the way down
pub paths-down : (rank : Ranking) (p : Place) (whole : Tree) → Each (λ n. RiseStrictly rank n.asked) (nodes p [] whole) → RisesDown (λ r. suc (rank r)) 0 whole
paths-down rank p whole h =
    down (λ r. suc (rank r)) 0 p [] whole (Each-map (λ n. RiseStrictly rank n.asked) (PathRises (λ r. suc (rank r)) 0) (λ n. to rank n.asked) (nodes p [] whole) h)

pub ways_rise : WaysRise
ways_rise rank p whole = (
  paths-down rank p whole,
  λ h. Each-map (PathRises (λ r. suc (rank r)) 0) (λ n. RiseStrictly rank n.asked) (λ n. from rank n.asked) (nodes p [] whole) (up (λ r. suc (rank r)) 0 p [] whole tt h),
)
