-- The effect of an ask, a grant and a release on the arbiter, on the plant's lines, and on the holders that the record tells.
use Rattle.std.proofs.Common.{◌≡◌, ◌<◌, ◌+◌, refl, sym, ◌∙◌, ap, ap₂, subst, ℕ, List, [], ◌∷◌, ◌++◌, Bool, true, false, not, Option, Some, None, inl, inr, arith, length, map, filter, find, drop, set, get_or}
use Rattle.std.{specs.Prelude.option_map, specs.Prelude.nat_le, specs.Prelude.cond, proofs.lemmas.List.map-append, proofs.lemmas.List.get_or-set_same, proofs.lemmas.List.get_or-set_other, proofs.lemmas.List.length-set}
use Rattle.batch_recipe.specs.{Conditions.Name, Conditions.same_name, Tree.Place, declared.need.Need.Need}
use Rattle.batch_model.specs.{Lists.Has, Plant.BatchAct, Plant.Share, Plant.is_same_act, Plant.without, Moves.ask, Moves.grant, Moves.pass, Moves.release, Moves.line_after, Runs.move, Records.holders_after}
use Rattle.batch_record_laws.proofs.{Entries.IsOnce, Entries.act_self, Entries.once-snoc, Entries.same_act, Members.map-Has}
use Rattle.batch_verify.specs.ClearedSet.{ClearedSet}
use Rattle.batch_arbiter.specs.Allocation.{Claim, shares_at, line_of_asks, units_claimed, after_ask, after_grant, handed_over, after_pass, after_release, without_first, is_claim, next_in, batch_node, held_units}
use Rattle.batch_engine.{specs.View.EngineView, specs.View.claim_act, specs.View.share_of, specs.View.claimed_shares, specs.View.names_of, specs.View.resource_number, specs.View.line_in, specs.View.line_at, specs.Kept.IsOfCell, proofs.BatchPlaces.chosen-true, proofs.BatchPlaces.chosen-false, proofs.BatchAfterMove.same-number, proofs.BatchAfterMove.same-named, proofs.BatchAfterMove.name-yes, proofs.BatchAfterMove.name-no, proofs.BatchAfterMove.without-head, proofs.BatchAfterMove.without-claim, proofs.BatchLookups.named, proofs.PassTarget.laid_down, proofs.PassTarget.taken_up}

-- shares when one of them, or none, has passed to another act
abbrev passed_on : BatchAct → Share → Bool → List Share → List Share
passed_on a new t hs = taken_up new t (laid_down a t hs)

both-chosen : (a : BatchAct) (new : Share) (t : Bool) → t ≡ true → (hs : List Share) → passed_on a new t hs ≡ without a hs ++ new ∷ []
both-chosen a new true g hs = refl
both-chosen a new false g hs = absurd cc

neither-chosen : (a : BatchAct) (new : Share) (t : Bool) → t ≡ false → (hs : List Share) → passed_on a new t hs ≡ hs
neither-chosen a new true g hs = absurd cc
neither-chosen a new false g hs = refl

once-drop : (xs : List Share) → IsOnce xs → IsOnce (drop 1 xs)
once-drop [] h = tt
once-drop (x ∷ xs) h = h.1

map-drop : {X Y : Type 0} (f : X → Y) (xs : List X) → map f (drop 1 xs) ≡ drop 1 (map f xs)
map-drop f [] = refl
map-drop f (x ∷ xs) = refl

-- of the list of one resource
module _ (c : ClearedSet) (xss : List (List Claim)) (q : ℕ) (need : Name) (e : resource_number c need ≡ Some q) (few : q < length xss) (new : List Claim) where
  pub at-other : (name : Name) (r : ℕ) → resource_number c name ≡ Some r → (name ≡ need → ⊥) → get_or (set xss q new) r [] ≡ get_or xss r []
  at-other name r f d = get_or-set_other xss q r new [] (λ s. d (same-number c name need r q f e s))

  pub at-same : (name : Name) (r : ℕ) → resource_number c name ≡ Some r → name ≡ need → get_or (set xss q new) r [] ≡ new
  at-same name r f s = ap (λ j. get_or (set xss q new) j []) (same-named c name need r q f e s) ∙ get_or-set_same xss q new [] few

is-same : (x y : Name) (P : Type 0) → (x ≡ y → P) → ((x ≡ y → ⊥) → P) → P
is-same x y P same apart = go (same_name x y) refl
  where
    go : (t : Bool) → same_name x y ≡ t → P
    go true e = same (Rattle.batch_record_laws.proofs.Entries.name_same x y e)
    go false e = apart (λ s. absurd (let f : same_name x y ≡ true = name-yes x y s in let g : ◌≡◌ {A = Bool} true false = sym f ∙ e in cc))

module _ (v : EngineView) (cell : IsOfCell v.cleared v.allocation) (q : ℕ) (need : Need) (e : resource_number v.cleared need.resource ≡ Some q) where
  within : q < length (names_of v.cleared)
  within = Rattle.std.proofs.lemmas.Option.slice_get_within (names_of v.cleared) q need.resource (named v.cleared need.resource q e)

  -- An act joins a line
  module _ (x : Claim) (a : BatchAct) (is : share_of v.cleared v.batches x ≡ record { act = a; units = need.units }) where
    pub lines-asked : (name : Name) → line_in (record v { allocation = after_ask q x v.allocation }) name ≡ line_after (ask a.0 a.1 need) (line_in v) name
    lines-asked name = go (resource_number v.cleared name) refl
      where
        lines : List (List Claim)
        lines = v.allocation.lines

        go : (o : Option ℕ) → resource_number v.cleared name ≡ o
            → line_at (record v { allocation = after_ask q x v.allocation }) o ≡ elim (same_name name need.resource) [ true ↦ line_at v o ++ record { act = (a.0, a.1); units = need.units } ∷ [] | false ↦ line_at v o ]
        go None f = sym (chosen-false (same_name name need.resource) _ _ (name-no name need.resource (λ s. absurd (let g : ◌≡◌ {A = Option ℕ} None (Some q) = sym f ∙ ap (resource_number v.cleared) s ∙ e in cc))))
        go (Some r) f =
            is-same name need.resource (line_at (record v { allocation = after_ask q x v.allocation }) (Some r) ≡ elim (same_name name need.resource) [ true ↦ line_at v (Some r) ++ record { act = (a.0, a.1); units = need.units } ∷ [] | false ↦ line_at v (Some r) ])
            (λ s. ap (claimed_shares v.cleared v.batches) (at-same v.cleared v.allocation.lines q need.resource e (omega (arith, cell.lines, within)) (line_of_asks v.allocation q ++ x ∷ []) name r f s)
            ∙ map-append (share_of v.cleared v.batches) (line_of_asks v.allocation q) (x ∷ [])
            ∙ ap₂ (λ (j : ℕ) (y : Share). claimed_shares v.cleared v.batches (line_of_asks v.allocation j) ++ y ∷ []) (sym (same-named v.cleared name need.resource r q f e s)) is
            ∙ sym (chosen-true (same_name name need.resource) _ _ (name-yes name need.resource s)))
            (λ d. ap (claimed_shares v.cleared v.batches) (at-other v.cleared v.allocation.lines q need.resource e (omega (arith, cell.lines, within)) (line_of_asks v.allocation q ++ x ∷ []) name r f d)
            ∙ sym (chosen-false (same_name name need.resource) _ _ (name-no name need.resource d)))

    pub once-asked : ((n : Name) (j : ℕ) → resource_number v.cleared n ≡ Some j → IsOnce (claimed_shares v.cleared v.batches (line_of_asks v.allocation j))) → ((y : Share) → Has (claimed_shares v.cleared v.batches (line_of_asks v.allocation q)) y → y.act ≡ a → ⊥)
        → (n : Name) (j : ℕ) → resource_number v.cleared n ≡ Some j → IsOnce (claimed_shares v.cleared v.batches (line_of_asks (after_ask q x v.allocation) j))
    once-asked once d n j f =
        is-same n need.resource (IsOnce (claimed_shares v.cleared v.batches (line_of_asks (after_ask q x v.allocation) j)))
        (λ s. subst (λ xs. IsOnce (claimed_shares v.cleared v.batches xs)) (sym (at-same v.cleared v.allocation.lines q need.resource e (omega (arith, cell.lines, within)) (line_of_asks v.allocation q ++ x ∷ []) n j f s))
        (subst IsOnce (sym (map-append (share_of v.cleared v.batches) (line_of_asks v.allocation q) (x ∷ [])))
        (once-snoc (share_of v.cleared v.batches x) (claimed_shares v.cleared v.batches (line_of_asks v.allocation q)) (once need.resource q e) (λ y h g. d y h (g ∙ ap (λ (z : Share). z.act) is)))))
        (λ t. subst (λ xs. IsOnce (claimed_shares v.cleared v.batches xs)) (sym (at-other v.cleared v.allocation.lines q need.resource e (omega (arith, cell.lines, within)) (line_of_asks v.allocation q ++ x ∷ []) n j f t)) (once n j f))

  pub cell-asked : (x : Claim) → IsOfCell v.cleared (after_ask q x v.allocation)
  cell-asked x =
      record {
        capacities = cell.capacities;
        shares = cell.shares;
        lines = length-set v.allocation.lines q (line_of_asks v.allocation q ++ x ∷ []) ∙ cell.lines;
      }

  -- A share is given back
  pub shares-released : (n node : ℕ) (p : Place) → IsOnce (claimed_shares v.cleared v.batches (shares_at v.allocation q))
      → ((x : Claim) → is_claim n node x ≡ is_same_act (claim_act v.cleared v.batches x) (n, p))
      → (name : Name) (r : ℕ) → resource_number v.cleared name ≡ Some r
      → claimed_shares v.cleared v.batches (shares_at (after_release q n node v.allocation) r) ≡ holders_after name (claimed_shares v.cleared v.batches (shares_at v.allocation r)) (move (release n p need))
  shares-released n node p once same name r f =
      is-same name need.resource (claimed_shares v.cleared v.batches (shares_at (after_release q n node v.allocation) r) ≡ holders_after name (claimed_shares v.cleared v.batches (shares_at v.allocation r)) (move (release n p need)))
      (λ s. ap (claimed_shares v.cleared v.batches) (at-same v.cleared v.allocation.shares q need.resource e (omega (arith, cell.shares, within)) (without_first (is_claim n node) (shares_at v.allocation q)) name r f s)
      ∙ without-claim (share_of v.cleared v.batches) (is_claim n node) (n, p) (shares_at v.allocation q) once same
      ∙ ap (λ j. without (n, p) (claimed_shares v.cleared v.batches (shares_at v.allocation j))) (sym (same-named v.cleared name need.resource r q f e s))
      ∙ sym (chosen-true (same_name name need.resource) _ _ (name-yes name need.resource s)))
      (λ d. ap (claimed_shares v.cleared v.batches) (at-other v.cleared v.allocation.shares q need.resource e (omega (arith, cell.shares, within)) (without_first (is_claim n node) (shares_at v.allocation q)) name r f d)
      ∙ sym (chosen-false (same_name name need.resource) _ _ (name-no name need.resource d)))

  pub cell-released : (n node : ℕ) → IsOfCell v.cleared (after_release q n node v.allocation)
  cell-released n node =
      record {
        capacities = cell.capacities;
        shares = length-set v.allocation.shares q (without_first (is_claim n node) (shares_at v.allocation q)) ∙ cell.shares;
        lines = cell.lines;
      }

  -- A share is passed on
  pub shares-passed : (n node to : ℕ) (p there : Place) → IsOnce (claimed_shares v.cleared v.batches (shares_at v.allocation q))
      → ((x : Claim) → is_claim n node x ≡ is_same_act (claim_act v.cleared v.batches x) (n, p))
      → units_claimed n node (shares_at v.allocation q) ≡ need.units
      → claim_act v.cleared v.batches (record { batch = n; node = to; units = need.units }) ≡ (n, there)
      → (name : Name) (r : ℕ) → resource_number v.cleared name ≡ Some r
      → claimed_shares v.cleared v.batches (shares_at (after_pass q n node to v.allocation) r) ≡ holders_after name (claimed_shares v.cleared v.batches (shares_at v.allocation r)) (move (pass n p there need))
  shares-passed n node to p there once same units at name r f =
      is-same name need.resource (claimed_shares v.cleared v.batches (shares_at (after_pass q n node to v.allocation) r) ≡ holders_after name (claimed_shares v.cleared v.batches (shares_at v.allocation r)) (move (pass n p there need)))
      (λ s. ap (claimed_shares v.cleared v.batches) (at-same v.cleared v.allocation.shares q need.resource e (omega (arith, cell.shares, within)) (handed_over n node to (shares_at v.allocation q)) name r f s)
      ∙ map-append (share_of v.cleared v.batches) (without_first (is_claim n node) (shares_at v.allocation q)) (record { batch = n; node = to; units = units_claimed n node (shares_at v.allocation q) } ∷ [])
      ∙ ap₂ (λ (xs : List Share) (y : Share). xs ++ y ∷ []) (without-claim (share_of v.cleared v.batches) (is_claim n node) (n, p) (shares_at v.allocation q) once same)
      (ap₂ (λ (a : BatchAct) u. let y : Share = record { act = a; units = u } in y) at units)
      ∙ ap (λ j. without (n, p) (claimed_shares v.cleared v.batches (shares_at v.allocation j)) ++ record { act = (n, there); units = need.units } ∷ []) (sym (same-named v.cleared name need.resource r q f e s))
      ∙ sym (both-chosen (n, p) (record { act = (n, there); units = need.units }) (same_name name need.resource) (name-yes name need.resource s) (claimed_shares v.cleared v.batches (shares_at v.allocation r))))
      (λ d. ap (claimed_shares v.cleared v.batches) (at-other v.cleared v.allocation.shares q need.resource e (omega (arith, cell.shares, within)) (handed_over n node to (shares_at v.allocation q)) name r f d)
      ∙ sym (neither-chosen (n, p) (record { act = (n, there); units = need.units }) (same_name name need.resource) (name-no name need.resource d) (claimed_shares v.cleared v.batches (shares_at v.allocation r))))

  pub cell-passed : (n node to : ℕ) → IsOfCell v.cleared (after_pass q n node to v.allocation)
  cell-passed n node to =
      record {
        capacities = cell.capacities;
        shares = length-set v.allocation.shares q (handed_over n node to (shares_at v.allocation q)) ∙ cell.shares;
        lines = cell.lines;
      }

  -- The oldest ask is granted
  module _ (x : Claim) (later : List Claim) (a : BatchAct) (first : line_of_asks v.allocation q ≡ x ∷ later) (is : share_of v.cleared v.batches x ≡ record { act = a; units = need.units })
      (once : (n : Name) (j : ℕ) → resource_number v.cleared n ≡ Some j → IsOnce (claimed_shares v.cleared v.batches (line_of_asks v.allocation j))) where
    alone : (y : Share) → Has (claimed_shares v.cleared v.batches later) y → y.act ≡ a → ⊥
    alone y h g = (subst (λ xs. IsOnce (claimed_shares v.cleared v.batches xs)) first (once need.resource q e)).0 y h (g ∙ sym (ap (λ (z : Share). z.act) is))

    pub lines-granted : (name : Name) → line_in (record v { allocation = after_grant q (Some x) v.allocation }) name ≡ line_after (grant a.0 a.1 need) (line_in v) name
    lines-granted name = go (resource_number v.cleared name) refl
      where
        taken : (r : ℕ) → r ≡ q → claimed_shares v.cleared v.batches (drop 1 (line_of_asks v.allocation q)) ≡ without a (claimed_shares v.cleared v.batches (line_of_asks v.allocation r))
        taken r s =
            ap (λ xs. claimed_shares v.cleared v.batches (drop 1 xs)) first
            ∙ sym (without-head (record { act = a; units = need.units }) (claimed_shares v.cleared v.batches later) alone)
            ∙ ap (λ (y : Share). without a (y ∷ claimed_shares v.cleared v.batches later)) (sym is)
            ∙ ap (λ xs. without a (claimed_shares v.cleared v.batches xs)) (sym first)
            ∙ ap (λ j. without a (claimed_shares v.cleared v.batches (line_of_asks v.allocation j))) (sym s)

        go : (o : Option ℕ) → resource_number v.cleared name ≡ o
            → line_at (record v { allocation = after_grant q (Some x) v.allocation }) o ≡ elim (same_name name need.resource) [ true ↦ filter (λ b. not (is_same_act b.act (a.0, a.1))) (line_at v o) | false ↦ line_at v o ]
        go None f = sym (chosen-false (same_name name need.resource) _ _ (name-no name need.resource (λ s. absurd (let g : ◌≡◌ {A = Option ℕ} None (Some q) = sym f ∙ ap (resource_number v.cleared) s ∙ e in cc))))
        go (Some r) f =
            is-same name need.resource (line_at (record v { allocation = after_grant q (Some x) v.allocation }) (Some r) ≡ elim (same_name name need.resource) [ true ↦ filter (λ b. not (is_same_act b.act (a.0, a.1))) (line_at v (Some r)) | false ↦ line_at v (Some r) ])
            (λ s. ap (claimed_shares v.cleared v.batches) (at-same v.cleared v.allocation.lines q need.resource e (omega (arith, cell.lines, within)) (drop 1 (line_of_asks v.allocation q)) name r f s)
            ∙ taken r (same-named v.cleared name need.resource r q f e s)
            ∙ sym (chosen-true (same_name name need.resource) _ _ (name-yes name need.resource s)))
            (λ d. ap (claimed_shares v.cleared v.batches) (at-other v.cleared v.allocation.lines q need.resource e (omega (arith, cell.lines, within)) (drop 1 (line_of_asks v.allocation q)) name r f d)
            ∙ sym (chosen-false (same_name name need.resource) _ _ (name-no name need.resource d)))

    pub shares-granted : (name : Name) (r : ℕ) → resource_number v.cleared name ≡ Some r
        → claimed_shares v.cleared v.batches (shares_at (after_grant q (Some x) v.allocation) r) ≡ holders_after name (claimed_shares v.cleared v.batches (shares_at v.allocation r)) (move (grant a.0 a.1 need))
    shares-granted name r f =
        is-same name need.resource (claimed_shares v.cleared v.batches (shares_at (after_grant q (Some x) v.allocation) r) ≡ holders_after name (claimed_shares v.cleared v.batches (shares_at v.allocation r)) (move (grant a.0 a.1 need)))
        (λ s. ap (claimed_shares v.cleared v.batches) (at-same v.cleared v.allocation.shares q need.resource e (omega (arith, cell.shares, within)) (shares_at v.allocation q ++ x ∷ []) name r f s)
        ∙ map-append (share_of v.cleared v.batches) (shares_at v.allocation q) (x ∷ [])
        ∙ ap₂ (λ (j : ℕ) (y : Share). claimed_shares v.cleared v.batches (shares_at v.allocation j) ++ y ∷ []) (sym (same-named v.cleared name need.resource r q f e s)) is
        ∙ sym (chosen-true (same_name name need.resource) _ _ (name-yes name need.resource s)))
        (λ d. ap (claimed_shares v.cleared v.batches) (at-other v.cleared v.allocation.shares q need.resource e (omega (arith, cell.shares, within)) (shares_at v.allocation q ++ x ∷ []) name r f d)
        ∙ sym (chosen-false (same_name name need.resource) _ _ (name-no name need.resource d)))

    pub once-granted : (n : Name) (j : ℕ) → resource_number v.cleared n ≡ Some j → IsOnce (claimed_shares v.cleared v.batches (line_of_asks (after_grant q (Some x) v.allocation) j))
    once-granted n j f =
        is-same n need.resource (IsOnce (claimed_shares v.cleared v.batches (line_of_asks (after_grant q (Some x) v.allocation) j)))
        (λ s. subst (λ xs. IsOnce (claimed_shares v.cleared v.batches xs)) (sym (at-same v.cleared v.allocation.lines q need.resource e (omega (arith, cell.lines, within)) (drop 1 (line_of_asks v.allocation q)) n j f s))
        (subst IsOnce (sym (map-drop (share_of v.cleared v.batches) (line_of_asks v.allocation q))) (once-drop (claimed_shares v.cleared v.batches (line_of_asks v.allocation q)) (once need.resource q e))))
        (λ t. subst (λ xs. IsOnce (claimed_shares v.cleared v.batches xs)) (sym (at-other v.cleared v.allocation.lines q need.resource e (omega (arith, cell.lines, within)) (drop 1 (line_of_asks v.allocation q)) n j f t)) (once n j f))

    pub cell-granted : IsOfCell v.cleared (after_grant q (Some x) v.allocation)
    cell-granted =
        record {
          capacities = cell.capacities;
          shares = length-set v.allocation.shares q (shares_at v.allocation q ++ x ∷ []) ∙ cell.shares;
          lines = length-set v.allocation.lines q (drop 1 (line_of_asks v.allocation q)) ∙ cell.lines;
        }

-- of shares of acts that differ, the one that a claim is for has as many units
pub units-found : (share : Claim → Share) (n node : ℕ) (a : BatchAct) (xs : List Claim) (x : Claim) → IsOnce (map share xs) → ((y : Claim) → is_claim n node y ≡ is_same_act (share y).act a) → Has xs x → (share x).act ≡ a
    → units_claimed n node xs ≡ x.units
units-found share n node a [] x once same h e = absurd h
units-found share n node a (y ∷ xs) x once same h e = go (units-found share n node a xs x once.1 same) (is_claim n node y) refl h
  where
    go : (Has xs x → (share x).act ≡ a → units_claimed n node xs ≡ x.units) → (t : Bool) → is_claim n node y ≡ t → Has (y ∷ xs) x → (let units : ℕ = elim (cond t (Some y) (find (is_claim n node) xs)) [ None ↦ 0 | Some c ↦ c.units ] in units) ≡ x.units
    go later true f (inl g) = ap (λ (z : Claim). z.units) g
    go later true f (inr m) = absurd (once.0 (share x) (map-Has share xs x m) (e ∙ sym (same_act (share y).act a (sym (same y) ∙ f))))
    go later false f (inl g) =
        absurd (let is : is_same_act (share x).act a ≡ true = subst (λ (z : BatchAct). is_same_act (share x).act z ≡ true) e (act_self (share x).act) in
        let off : ◌≡◌ {A = Bool} true false = sym is ∙ sym (same x) ∙ ap (is_claim n node) (sym g) ∙ f in cc)
    go later false f (inr m) = later m e

-- whom the arbiter would serve is first in the line
pub first-of-line : (capacity : ℕ) (shares line : List Claim) (n node : ℕ) → option_map batch_node (next_in capacity shares line) ≡ Some (n, node)
    → (x : Claim) × (later : List Claim) × (line ≡ x ∷ later) × (next_in capacity shares line ≡ Some x) × (batch_node x ≡ (n, node))
first-of-line capacity shares [] n node h = absurd cc
first-of-line capacity shares (x ∷ later) n node h = go (nat_le (held_units shares + x.units) capacity) h
  where
    go : (t : Bool) → ◌≡◌ {A = Option (ℕ × ℕ)} (option_map batch_node (cond t (Some x) None)) (Some (n, node))
        → (y : Claim) × (rest : List Claim) × (x ∷ later ≡ y ∷ rest) × (◌≡◌ {A = Option Claim} (cond t (Some x) None) (Some y)) × (batch_node y ≡ (n, node))
    go true f = (x, later, refl, refl, (let g : batch_node x ≡ (n, node) = cc in g))
    go false f = absurd cc
