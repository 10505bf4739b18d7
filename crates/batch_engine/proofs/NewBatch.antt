-- The machine's answers to a create, and the invariant with the batch that it makes.
use Rattle.std.proofs.Common.{◌≡◌, ◌<◌, ◌≤◌, ◌+◌, refl, sym, ◌∙◌, ap, ap₂, subst, ℕ, suc, List, [], ◌∷◌, ◌++◌, Bool, true, false, Option, Some, None, inl, inr, ⊎_elim, arith, length, map, find, nat_eq}
use Rattle.std.proofs.lemmas.List.{map-append, Sums.sum_by_push}
use Rattle.batch_recipe.specs.{Conditions.Name, Conditions.ValueList, Conditions.same_name, Expanding.Binding, Tree.Place, declared.need.Need.Need}
use Rattle.batch_model.{specs.Lists.Has, specs.Plant.Formula, specs.Plant.scaled, specs.Plant.Master, specs.Plant.Share, specs.Plant.Plant, specs.Plant.holders, specs.Moves.Move, specs.Moves.next, specs.Events.create, specs.Events.created, specs.Events.refused, specs.Events.moves_pending, specs.Events.unknown_recipe, specs.Events.full, specs.Events.bad_binding, specs.Events.is_full, specs.Events.is_binding, specs.Events.bound_by, specs.Events.roles_told, specs.Events.binding, specs.Events.creating_for, specs.Events.creating, specs.Events.with_batch, specs.Events.new_batch, specs.Events.judged, specs.Events.react, specs.Events.Answer, specs.Runs.Reacts, specs.Standing.AreNumbered, proofs.Members.Each-append, proofs.Members.Has-flat_map, proofs.Members.Has-split}
use Rattle.batch_model.specs.Plant as Model
use Rattle.batch_record_laws.proofs.{Entries.IsOnce, Entries.nat_differs, Members.Has-map, Members.map-Has}
use Rattle.batch_verify.specs.ClearedSet.{ClearedSet}
use Rattle.batch_arbiter.specs.Allocation.{Claim, shares_at, line_of_asks}
use Rattle.batch_chart.specs.{NodesOf.needs_in, NodesOf.place_at, Charts.IsRunningOf}
use Rattle.batch_engine.{specs.declared.batch.Batch.Batch, specs.View.EngineView, specs.View.setup, specs.View.master_at, specs.View.recipe_at, specs.View.tree_at, specs.View.model_batch, specs.View.share_of, specs.View.claimed_shares, specs.View.place_in, specs.View.resource_number, specs.View.line_in, specs.View.line_at, specs.View.plant_of, specs.View.tree_of, specs.Kept.AreUnits, specs.Kept.IsRunningBatch, specs.Kept.IsKept, specs.Kept.needs_of_all, specs.Creates.IsCreate, proofs.RecordOfPlant.told, proofs.RecordOfPlant.standing, proofs.BatchPlaces.made_by, proofs.BatchPlaces.chosen-false, proofs.BatchAfterMove.fun_ext, proofs.InvariantAfterEvent.with, proofs.InvariantAfterEvent.event-kept}
use Rattle.batch_engine.specs.Names as Names

-- The machine's answer to a create

module _ (v : EngineView) (name : Name) (size : ℕ) (pairs : List (Name × Name)) (settled : next (setup v.cleared) (plant_of v) ≡ None) where
  abbrev named_answer : Option Master → Answer
  named_answer o = elim o [
    | None ↦ (refused unknown_recipe, plant_of v)
    | Some m ↦ elim (is_full (setup v.cleared) (plant_of v)) [ true ↦ (refused full, plant_of v) | false ↦ binding (plant_of v) m size pairs ]
  ]

  judge : react (setup v.cleared) (plant_of v) (create name size pairs) ≡ named_answer (find (λ (m : Master). same_name m.name name) (setup v.cleared).recipes)
  judge = ap (λ (m : Option Move). let a : Answer = elim m [ Some l ↦ (refused moves_pending, plant_of v) | None ↦ judged (setup v.cleared) (plant_of v) (create name size pairs) ] in a) settled

  pub create-unknown : find (λ (m : Master). same_name m.name name) (setup v.cleared).recipes ≡ None
      → react (setup v.cleared) (plant_of v) (create name size pairs) ≡ (refused unknown_recipe, plant_of v)
  create-unknown none = judge ∙ ap named_answer none

  module _ (m : Master) (found : find (λ (m : Master). same_name m.name name) (setup v.cleared).recipes ≡ Some m) where
    abbrev full_answer : Bool → Answer
    full_answer t = elim t [ true ↦ (refused full, plant_of v) | false ↦ binding (plant_of v) m size pairs ]

    abbrev bound_answer : Bool → Answer
    bound_answer t = elim t [ false ↦ (refused bad_binding, plant_of v) | true ↦ creating_for (plant_of v) m size (bound_by pairs) ]

    pub create-full : is_full (setup v.cleared) (plant_of v) ≡ true → react (setup v.cleared) (plant_of v) (create name size pairs) ≡ (refused full, plant_of v)
    create-full e = judge ∙ ap named_answer found ∙ ap full_answer e

    pub create-unbound : is_full (setup v.cleared) (plant_of v) ≡ false → is_binding m.roles pairs ≡ false
        → react (setup v.cleared) (plant_of v) (create name size pairs) ≡ (refused bad_binding, plant_of v)
    create-unbound e bad = judge ∙ ap named_answer found ∙ ap full_answer e ∙ ap bound_answer bad

    pub judge-values : (f : Formula) → is_full (setup v.cleared) (plant_of v) ≡ false → is_binding m.roles pairs ≡ true → (m.control (bound_by pairs)).formula size ≡ f
        → react (setup v.cleared) (plant_of v) (create name size pairs) ≡ creating (plant_of v) (m.control (bound_by pairs)) size (roles_told m.roles (bound_by pairs)) f
    judge-values f e binds g =
        judge ∙ ap named_answer found ∙ ap full_answer e ∙ ap bound_answer binds
        ∙ ap (creating (plant_of v) (m.control (bound_by pairs)) size (roles_told m.roles (bound_by pairs))) g

-- one that makes a batch
pub react-create : (v : EngineView) (recipe : ℕ) (name : Name) (size : ℕ) (pairs : List (Name × Name)) (units : List ℕ) (vs : ValueList) (o : IsCreate v recipe name size pairs units vs)
    → react (setup v.cleared) (plant_of v) (create name size pairs)
    ≡ (created v.next_number (recipe_at v.cleared recipe units).name size (Names.roles_taken v.cleared recipe units), with_batch (plant_of v) (recipe_at v.cleared recipe units) size vs)
react-create v recipe name size pairs units vs o =
    let m : Master = master_at v.cleared recipe in
    judge-values v name size pairs o.settled m o.chosen.found (scaled vs) o.chosen.free o.chosen.taken.binds (ap (λ (bound : Binding). (m.control bound).formula size) o.chosen.taken.bound ∙ o.formula)
    ∙ ap₂ (λ (bound : Binding) told. let a : Answer = (created v.next_number (m.control bound).name size told, with_batch (plant_of v) (m.control bound) size vs) in a) o.chosen.taken.bound o.chosen.taken.told

module _ (c : ClearedSet) (b : Batch) where
  place-more : (bs : List Batch) (n j : ℕ) → (n ≡ b.number → ⊥) → place_in c (bs ++ b ∷ []) n j ≡ place_in c bs n j
  place-more [] n j d = chosen-false (nat_eq b.number n) _ _ (nat_differs b.number n (λ e. d (sym e)))
  place-more (x ∷ bs) n j d = ap (λ r. let z : Place = elim (nat_eq x.number n) [ true ↦ place_at (tree_of c x) j | false ↦ r ] in z) (place-more bs n j d)

  acts-more : (bs : List Batch) (xs : List Claim) → ((x : Claim) → Has xs x → x.batch ≡ b.number → ⊥) → claimed_shares c (bs ++ b ∷ []) xs ≡ claimed_shares c bs xs
  acts-more bs [] h = refl
  acts-more bs (x ∷ xs) h =
      ap₂ (λ y ys. y ∷ ys) (ap (λ (z : Place). let y : Share = record { act = (x.batch, z); units = x.units } in y) (place-more bs x.batch x.node (h x (inl refl))))
      (acts-more bs xs (λ y k. h y (inr k)))

-- a batch's shares are its own
share-number : (name : Name) (b : Model.Batch) (a : Share) → Has (Model.shares_of name b) a → a.act.0 ≡ b.number
share-number name b a h =
    ⊎_elim (λ m. (let e = Has-flat_map (Model.share_in_advance name b) b.in_advance a m in early e.0 (same_name name e.0.unit.resource) e.2))
    (λ m.
    let act = Has-flat_map (Model.shares_held name b) (Rattle.batch_model.specs.Rest.acts b.rest) a m in
    let need = Has-map (λ (r : Need). let z : Share = record { act = (b.number, Rattle.batch_model.specs.Rest.place_of act.0); units = r.units } in z) (Rattle.std.proofs.Common.filter (λ r. same_name name r.resource) (Model.held_by act.0)) a act.2 in
    sym (ap (λ (z : Share). z.act.0) need.2))
    (Has-split (Rattle.std.proofs.Common.flat_map (Model.share_in_advance name b) b.in_advance) (Rattle.std.proofs.Common.flat_map (Model.shares_held name b) (Rattle.batch_model.specs.Rest.acts b.rest)) a h)
  where
    early : (held : Model.InAdvance) (t : Bool) → Has (elim t as (λ _. List Share) [ true ↦ [] ++ record { act = (b.number, held.place); units = held.unit.units } ∷ [] | false ↦ [] ]) a → a.act.0 ≡ b.number
    early held true (inl e) = sym (ap (λ (z : Share). z.act.0) e)
    early held true (inr i) = absurd i
    early held false i = absurd i

module _ (v : EngineView) (k : IsKept v) where
  -- each act that holds or waits is of a batch that there is
  pub waiter-below : (name : Name) (q : ℕ) → resource_number v.cleared name ≡ Some q → (x : Claim) → Has (line_of_asks v.allocation q) x → x.batch < v.next_number
  waiter-below name q e x h =
      let a : Share = share_of v.cleared v.batches x in
      let asks = ((told v k).asks name a).0 (subst (λ (xs : List Share). Has xs a) (sym (ap (line_at v) e)) (map-Has (share_of v.cleared v.batches) (line_of_asks v.allocation q) x h)) in
      below-next v.next_number (plant_of v).batches asks.0 x.batch (standing v k).numbers asks.1 asks.2
    where
      below-next : (next : ℕ) (bs : List Model.Batch) (b : Model.Batch) (n : ℕ) → AreNumbered next bs → Has bs b → b.number ≡ n → n < next
      below-next next [] b n h i e = absurd i
      below-next next (d ∷ bs) b n h (inl p) e = omega (arith, h.0, ap (λ (z : Model.Batch). z.number) p, e)
      below-next next (d ∷ bs) b n h (inr i) e = below-next next bs b n h.2 i e

  pub holder-below : (name : Name) (q : ℕ) → resource_number v.cleared name ≡ Some q → (x : Claim) → Has (shares_at v.allocation q) x → x.batch < v.next_number
  holder-below name q e x h =
      let a : Share = share_of v.cleared v.batches x in
      let t : Has (holders (plant_of v) name) a = ((told v k).held name).0 a (subst (λ (xs : List Share). Has xs a) (k.tracked.shares q name e) (map-Has (share_of v.cleared v.batches) (shares_at v.allocation q) x h)) in
      let d = Has-flat_map (Model.shares_of name) (plant_of v).batches a t in
      below-next v.next_number (plant_of v).batches d.0 x.batch (standing v k).numbers d.1 (sym (share-number name d.0 a d.2))
    where
      below-next : (next : ℕ) (bs : List Model.Batch) (b : Model.Batch) (n : ℕ) → AreNumbered next bs → Has bs b → b.number ≡ n → n < next
      below-next next [] b n h i e = absurd i
      below-next next (d ∷ bs) b n h (inl p) e = omega (arith, h.0, ap (λ (z : Model.Batch). z.number) p, e)
      below-next next (d ∷ bs) b n h (inr i) e = below-next next bs b n h.2 i e

  -- the batch that is made
  module _ (recipe : ℕ) (name : Name) (size : ℕ) (pairs : List (Name × Name)) (units : List ℕ) (vs : ValueList) (o : IsCreate v recipe name size pairs units vs) (b : Batch) (room : ℕ)
      (number : b.number ≡ v.next_number) (made : made_by b ≡ (recipe, units)) (runs : IsRunningOf (tree_at v.cleared recipe units) b.running)
      (new : model_batch v.cleared b ≡ new_batch v.next_number (recipe_at v.cleared recipe units) size vs)
      (enough : needs_of_all v.cleared v.batches + needs_in (tree_at v.cleared recipe units) ≤ room) where
    lines-more : (n : Name) (q : ℕ) → resource_number v.cleared n ≡ Some q → claimed_shares v.cleared (v.batches ++ b ∷ []) (line_of_asks v.allocation q) ≡ claimed_shares v.cleared v.batches (line_of_asks v.allocation q)
    lines-more n q e = acts-more v.cleared b v.batches (line_of_asks v.allocation q) (λ x h i. absurd (omega (arith, waiter-below n q e x h, i, number)))

    shares-more : (n : Name) (q : ℕ) → resource_number v.cleared n ≡ Some q → claimed_shares v.cleared (v.batches ++ b ∷ []) (shares_at v.allocation q) ≡ claimed_shares v.cleared v.batches (shares_at v.allocation q)
    shares-more n q e = acts-more v.cleared b v.batches (shares_at v.allocation q) (λ x h i. absurd (omega (arith, holder-below n q e x h, i, number)))

    line-more : (n : Name) → line_in (with v (v.batches ++ b ∷ []) (v.next_number + 1) (record (v.allocation) { room = room })) n ≡ line_in v n
    line-more n = go (resource_number v.cleared n) refl
      where
        go : (m : Option ℕ) → resource_number v.cleared n ≡ m → line_at (with v (v.batches ++ b ∷ []) (v.next_number + 1) (record (v.allocation) { room = room })) m ≡ line_at v m
        go None e = refl
        go (Some q) e = lines-more n q e

    plant-more : plant_of (with v (v.batches ++ b ∷ []) (v.next_number + 1) (record (v.allocation) { room = room })) ≡ with_batch (plant_of v) (recipe_at v.cleared recipe units) size vs
    plant-more =
        let one : v.next_number + 1 ≡ suc v.next_number = omega arith in
        ap₂ (λ (bs : List Model.Batch) (l : Name → List Share). let p : Plant = record { batches = bs; next_number = v.next_number + 1; line = l } in p)
        (map-append (model_batch v.cleared) v.batches (b ∷ []) ∙ ap (λ (d : Model.Batch). map (model_batch v.cleared) v.batches ++ d ∷ []) new)
        (fun_ext line-more)
        ∙ ap (λ n. let p : Plant = record { batches = map (model_batch v.cleared) v.batches ++ new_batch v.next_number (recipe_at v.cleared recipe units) size vs ∷ []; next_number = n; line = line_in v } in p) one

    pub create-reacts : Reacts (setup v.cleared) (plant_of v) (create name size pairs) (created v.next_number (recipe_at v.cleared recipe units).name size (Names.roles_taken v.cleared recipe units))
        (plant_of (with v (v.batches ++ b ∷ []) (v.next_number + 1) (record (v.allocation) { room = room })))
    create-reacts =
        inl (react-create v recipe name size pairs units vs o
        ∙ ap (λ (s : Plant). let a : Answer = (created v.next_number (recipe_at v.cleared recipe units).name size (Names.roles_taken v.cleared recipe units), s) in a) (sym plant-more))

    pub create-kept : IsKept (with v (v.batches ++ b ∷ []) (v.next_number + 1) (record (v.allocation) { room = room }))
    create-kept =
        event-kept v k (v.batches ++ b ∷ []) (v.next_number + 1) (record (v.allocation) { room = room }) (create name size pairs)
        (created v.next_number (recipe_at v.cleared recipe units).name size (Names.roles_taken v.cleared recipe units)) create-reacts
        shares-more
        (Each-append (IsRunningBatch v.cleared) v.batches (b ∷ []) k.batches (
          record {
            known = subst (λ (r : ℕ × List ℕ). r.0 < length v.cleared.recipes) (sym made) o.chosen.known;
            units = subst (λ (r : ℕ × List ℕ). AreUnits v.cleared r.1) (sym made) o.chosen.taken.own;
            runs = subst (λ (r : ℕ × List ℕ). IsRunningOf (tree_at v.cleared r.0 r.1) b.running) (sym made) runs;
          },
          tt,
        ))
        (record { capacities = k.cell.capacities; shares = k.cell.shares; lines = k.cell.lines })
        (λ n q e. subst IsOnce (sym (lines-more n q e)) (k.once n q e))
        (omega (arith, enough, sum_by_push (λ (z : Batch). needs_in (tree_of v.cleared z)) v.batches b, ap (λ (r : ℕ × List ℕ). needs_in (tree_at v.cleared r.0 r.1)) made))

  -- if no batch is made, more room changes nothing of the plant
  pub room-kept : (room : ℕ) → v.allocation.room ≤ room → IsKept (with v v.batches v.next_number (record (v.allocation) { room = room }))
  room-kept room more =
      record {
        cleared = k.cleared;
        batches = k.batches;
        cell = record { capacities = k.cell.capacities; shares = k.cell.shares; lines = k.cell.lines };
        tracked = record {
          events = k.tracked.events;
          outs = k.tracked.outs;
          leads = subst (Rattle.batch_model.specs.Runs.Leads (setup v.cleared) Model.opening k.tracked.events k.tracked.outs) (sym same) k.tracked.leads;
          shares = k.tracked.shares;
        };
        once = k.once;
        room = omega (arith, k.room, more);
      }
    where
      line : (n : Name) → line_in (with v v.batches v.next_number (record (v.allocation) { room = room })) n ≡ line_in v n
      line n = go (resource_number v.cleared n)
        where
          go : (m : Option ℕ) → line_at (with v v.batches v.next_number (record (v.allocation) { room = room })) m ≡ line_at v m
          go None = refl
          go (Some q) = refl

      same : plant_of (with v v.batches v.next_number (record (v.allocation) { room = room })) ≡ plant_of v
      same = ap (λ (l : Name → List Share). let p : Plant = record { batches = map (model_batch v.cleared) v.batches; next_number = v.next_number; line = l } in p) (fun_ext line)
