-- The places of acts after changes by which nothing is reached.
use Rattle.std.proofs.Common.{◌≡◌, inl, inr, List, ◌∷◌, ◌++◌, Bool, true, false, map, refl, sym, ◌∙◌, ap, ap₂, ⊎_elim}
use Rattle.std.{specs.List.list_any, proofs.lemmas.List.map-append}
use Rattle.batch_recipe.specs.Tree.{Place}
use Rattle.batch_model.{specs.Lists.Has, specs.Plant.is_act_reached, specs.Rest.same_place, specs.Rest.Rest, specs.Rest.ready, specs.Rest.asking, specs.Rest.open_act, specs.Rest.live, specs.Rest.freeing, specs.Rest.in_seq, specs.Rest.in_par, specs.Rest.in_loop, specs.Rest.done, specs.Rest.Rests, specs.Rest.no_rests, specs.Rest.rest, specs.Rest.acts, specs.Rest.acts_of_each, specs.Rest.place_of, specs.Rest.changed_at, specs.Rest.changed_in_each, specs.Rest.withdrawn, specs.Rest.withdrawn_each, proofs.Members.Has-split, proofs.Members.Has-left, proofs.Members.Has-right}
use Rattle.batch_record_laws.proofs.{HoldingsInAdvance.StandsIn, HoldingsInAdvance.any-place, EffectsOnActs.Stays}

-- asks are withdrawn

mutual
  withdrawn-places : (r : Rest) → map place_of (acts (withdrawn r)) ≡ map place_of (acts r)
  withdrawn-places (ready s w k) = refl
  withdrawn-places (asking s w k) = refl
  withdrawn-places (open_act s r) = ap (λ ps. s.place ∷ ps) (withdrawn-places r)
  withdrawn-places (live s x t) = refl
  withdrawn-places (freeing s k) = refl
  withdrawn-places (in_seq r cs) = withdrawn-places r
  withdrawn-places (in_par rs) = withdrawn_each-places rs
  withdrawn-places (in_loop n c body r) = withdrawn-places r
  withdrawn-places done = refl

  withdrawn_each-places : (rs : Rests) → map place_of (acts_of_each (withdrawn_each rs)) ≡ map place_of (acts_of_each rs)
  withdrawn_each-places no_rests = refl
  withdrawn_each-places (rest r rs) =
      map-append place_of (acts (withdrawn r)) (acts_of_each (withdrawn_each rs))
      ∙ (ap₂ (λ xs ys. xs ++ ys) (withdrawn-places r) (withdrawn_each-places rs) ∙ sym (map-append place_of (acts r) (acts_of_each rs)))

pub withdrawn-reached : (r : Rest) (p : Place) → is_act_reached (withdrawn r) p ≡ is_act_reached r p
withdrawn-reached r p =
    any-place (acts (withdrawn r)) p ∙ ap (list_any (λ q. same_place q p)) (withdrawn-places r) ∙ sym (any-place (acts r) p)

-- an act changes into acts that stand at its place or below it

in-left : (xs ys : List Rest) (p : Place) → StandsIn xs p → StandsIn (xs ++ ys) p
in-left xs ys p m = (m.0, Has-left xs ys m.0 m.1, m.2)

in-right : (xs ys : List Rest) (p : Place) → StandsIn ys p → StandsIn (xs ++ ys) p
in-right xs ys p m = (m.0, Has-right xs ys m.0 m.1, m.2)

module _ (p : Place) (f : Rest → Rest) (stays : Stays f) where
  either-stands : (t : Bool) (a b x : Rest) → (Has (acts b) x → StandsIn (acts a) (place_of x)) → Has (acts (elim t as (λ _. Rest) [ true ↦ f a | false ↦ b ])) x → StandsIn (acts a) (place_of x)
  either-stands true a b x h i = stays a x i
  either-stands false a b x h i = h i

  mutual
    pub changed-stands : (r x : Rest) → Has (acts (changed_at p f r)) x → StandsIn (acts r) (place_of x)
    changed-stands (ready s w k) x i = either-stands (same_place s.place p) (ready s w k) (ready s w k) x (λ j. (x, j, refl)) i
    changed-stands (asking s w k) x i = either-stands (same_place s.place p) (asking s w k) (asking s w k) x (λ j. (x, j, refl)) i
    changed-stands (open_act s r) x i =
        either-stands (same_place s.place p) (open_act s r) (open_act s (changed_at p f r)) x
        (λ j. ⊎_elim (λ e. (open_act s r, inl refl, ap place_of e)) (λ l. (let m = changed-stands r x l in (m.0, inr m.1, m.2))) j) i
    changed-stands (live s y t) x i = either-stands (same_place s.place p) (live s y t) (live s y t) x (λ j. (x, j, refl)) i
    changed-stands (freeing s k) x i = either-stands (same_place s.place p) (freeing s k) (freeing s k) x (λ j. (x, j, refl)) i
    changed-stands (in_seq r cs) x i = changed-stands r x i
    changed-stands (in_par rs) x i = changed-stands_each rs x i
    changed-stands (in_loop n c body r) x i = changed-stands r x i
    changed-stands done x i = absurd i

    changed-stands_each : (rs : Rests) (x : Rest) → Has (acts_of_each (changed_in_each p f rs)) x → StandsIn (acts_of_each rs) (place_of x)
    changed-stands_each no_rests x i = absurd i
    changed-stands_each (rest r rs) x i =
        ⊎_elim (λ j. in-left (acts r) (acts_of_each rs) (place_of x) (changed-stands r x j)) (λ j. in-right (acts r) (acts_of_each rs) (place_of x) (changed-stands_each rs x j))
        (Has-split (acts (changed_at p f r)) (acts_of_each (changed_in_each p f rs)) x i)
