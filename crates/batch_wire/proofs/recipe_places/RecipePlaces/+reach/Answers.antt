use Rattle.std.proofs.Common.{◌≡◌, ◌≤◌, ℕ, [], ◌++◌, drop, take, length, length-take-le, codes, decimal, ap, sym, ◌∙◌, arith}
use Rattle.std.proofs.lemmas.List.{drop_all}
use Rattle.batch_wire.{specs.Known.AreKnownBy, specs.Known.EndsAt, specs.Pieces.text_of_place, specs.declared.recipe_places.RecipePlaces.RecipePlaces, proofs.PlaceCache.still_known, proofs.PlaceCache.known_further, proofs.PlaceParts.entry-at, proofs.PlaceParts.root-text, proofs.PlaceParts.text-below}
use Rattle.batch_wire.proofs.recipe_places.RecipePlaces.+reach.Goals as goal
use Rattle.batch_wire.proofs.recipe_places.RecipePlaces.+reach.Goals.{extend-then-node-eq0, extend-else-node-eq0+in_ok-above+else-above-gt-MAX_PLACE_END}

pub extend-reach_above-requires : goal.extend-reach_above-requires
extend-reach_above-requires t c =
    let is = entry-at c.args.recipe.now c.args.node _ c.index.result.now c.from.ensures c.requires.within c.index.ensures in
    let less = (text-below c.args.recipe.now c.args.node c.index.result.now is c.if-node-eq0.false).0 in
    (omega (arith, less, c.decreases), (omega (arith, less, c.requires.within), still_known (text_of_place c.args.recipe.now) _ _ c.requires.known c.forget_past.ensures))

known : (t : ℕ) (c : goal.extend-After-push_node t) → AreKnownBy (text_of_place c.args.recipe.now) c.push_node.new.self × EndsAt (text_of_place c.args.recipe.now c.args.node) c.if-node-eq0.end c.push_node.new.self
known t c =
    let r = c.args.recipe.now in
    let e = c.index.result.now in
    let is = entry-at r c.args.node _ e c.from.ensures c.requires.within c.index.ensures in
    elim c.if-node-eq0.branch [
      | extend-then-node-eq0 w ↦
          let cut = c.forget_past.ensures in
          let none : RecipePlaces = record c.forget_past.new.self { depth = 0 } in
          let put = w.put_number-end.ensures in
          let room : 24 ≤ length none.text = omega arith in
          let nothing : drop 24 (take 24 none.text) ≡ [] = drop_all 24 (take 24 none.text) (omega (arith, length-take-le 24 none.text room)) in
          known_further (text_of_place r) none _ _ (decimal e.child) 24 _ _
          (still_known (text_of_place r) _ none c.requires.known (record { fewer = omega arith; path = cut.path; text = cut.text; batch = cut.batch; start = cut.start; recipe = cut.recipe }))
          (λ i lt. absurd (omega (arith, lt)))
          (rw (w.self-is, w.end-is) put.put)
          (ap (λ t. t ++ decimal e.child) nothing ∙ sym (root-text r c.args.node e is w.if-node-eq0.true))
          (omega arith) (rw w.end-is (omega (arith, put.end))) (rw w.end-is (omega (arith, put.end))) room (rw w.self-is) (rw w.self-is) (rw w.self-is) (rw w.self-is) c.push_node.ensures
      | extend-else-node-eq0+in_ok-above+else-above-gt-MAX_PLACE_END w ↦
          let below = text-below r c.args.node e is w.if-node-eq0.false in
          let above = w.in_ok-above.ensures in
          let put = w.put_step-end.ensures in
          known_further (text_of_place r) w.reach_above.new.self _ _ (codes "." ++ decimal e.child) w.in_ok-above.above _ _
          above.known above.reached.last
          (rw (w.self-is, w.end-is) put.put)
          (ap (λ text. text ++ (codes "." ++ decimal e.child)) above.reached.told ∙ sym below.1)
          above.reached.from (rw w.end-is put.end.0) (rw w.end-is (omega (arith, put.end.1, w.if-above-gt-MAX_PLACE_END.false))) (omega arith) (rw w.self-is) (rw w.self-is) (rw w.self-is) (rw w.self-is) c.push_node.ensures
    ]

pub extend-returns-clause-known : goal.extend-returns-clause-known
extend-returns-clause-known t c = (known t c).0

pub extend-returns-clause-reached : goal.extend-returns-clause-reached
extend-returns-clause-reached t c = (known t c).1
