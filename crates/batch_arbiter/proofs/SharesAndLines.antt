-- The lists of the pool as shares and lines: the effect of an edit of one list on the allocation.
use Rattle.std.proofs.Common.{ℕ, ◌≡◌, ◌≢◌, Bool, true, false, cond, find, refl, ◌+◌, ◌-◌, ◌<◌, ◌≤◌, ◌^◌, List, [], ◌∷◌, ◌++◌, length, drop, sym, ap, ◌∙◌, subst, arith, set, Some, None, inl, inr}
use Rattle.std.{specs.Prelude.slice_index, specs.Prelude.replicate, specs.List.All, proofs.lemmas.Bool.cases_eq, proofs.lemmas.Bool.leb-true, proofs.lemmas.List.length-set, proofs.lemmas.List.get_or-set_same, proofs.lemmas.List.get_or-set_other, proofs.lemmas.List.set-set, proofs.lemmas.List.get_or-take, proofs.lemmas.List.get_or-drop, proofs.lemmas.List.take-set-le, proofs.lemmas.List.drop-set-lt, proofs.lemmas.List.drop-set-add, proofs.lemmas.List.take-replicate, proofs.lemmas.List.drop-replicate, proofs.lemmas.List.length-replicate, proofs.lemmas.List.get_or-replicate, proofs.lemmas.List.Sums.sum_by_push, proofs.lemmas.List.Sums.sum_by-cons, proofs.Math.Seq.take-set-lt}
use Rattle.batch_arbiter.specs.{Allocation.Claim, Allocation.Allocation, Allocation.is_claim, Allocation.held_units, Allocation.without_first, Allocation.shares_at, Allocation.line_of_asks, Allocation.next_in, Allocation.next_grant, Allocation.units_claimed, Allocation.handed_over, Allocation.idle, Allocation.after_ask, Allocation.after_grant, Allocation.after_pass, Allocation.after_release, Linked.Lists, Linked.list_at, Linked.with_list, Linked.IsRemoved, Standing.pool_seen, Standing.StandsInPool}

pub shares-seen : (capacities : List ℕ) (p : Lists) (r : ℕ) → r < length capacities → shares_at (pool_seen capacities p) r ≡ list_at p r
shares-seen capacities p r h = get_or-take (length capacities) p.lists r [] h

pub line-seen : (capacities : List ℕ) (p : Lists) (r : ℕ) → line_of_asks (pool_seen capacities p) r ≡ list_at p (length capacities + r)
line-seen capacities p r = get_or-drop (length capacities) p.lists r []

-- another list of shares
pub seen-share : (capacities : List ℕ) (p : Lists) (r room : ℕ) (claims : List Claim) → r < length capacities
    → pool_seen capacities (with_list p r claims room) ≡ record (pool_seen capacities p) { shares = set (pool_seen capacities p).shares r claims; room = room }
seen-share capacities p r room claims h = grind (arith, take-set-lt (length capacities) p.lists r claims h, drop-set-lt (length capacities) p.lists r claims h)

-- another line
pub seen-line : (capacities : List ℕ) (p : Lists) (r room : ℕ) (claims : List Claim)
    → pool_seen capacities (with_list p (length capacities + r) claims room) ≡ record (pool_seen capacities p) { lines = set (pool_seen capacities p).lines r claims; room = room }
seen-line capacities p r room claims = grind (arith, drop-set-add (length capacities) p.lists r claims, take-set-le)

pub seen-ask : (capacities : List ℕ) (p : Lists) (r : ℕ) (c : Claim)
    → pool_seen capacities (with_list p (length capacities + r) (list_at p (length capacities + r) ++ c ∷ []) (p.room - 1)) ≡ after_ask r c (pool_seen capacities p)
seen-ask capacities p r c = grind (arith, seen-line capacities p r (p.room - 1) (list_at p (length capacities + r) ++ c ∷ []), line-seen capacities p r)

pub seen-release : (capacities : List ℕ) (p : Lists) (r batch node : ℕ) → r < length capacities
    → pool_seen capacities (with_list p r (without_first (is_claim batch node) (list_at p r)) (p.room + 1)) ≡ after_release r batch node (pool_seen capacities p)
seen-release capacities p r batch node h = grind (arith, seen-share capacities p r (p.room + 1) (without_first (is_claim batch node) (list_at p r)) h, shares-seen capacities p r h)

-- no act holds or waits for anything
pub seen-new : (capacities : List ℕ) (p : Lists) (m : ℕ) → m ≡ length capacities + length capacities → p ≡ record { lists = replicate m []; room = 0 } → pool_seen capacities p ≡ idle capacities
seen-new capacities p m twice new =
    let less : m - length capacities ≡ length capacities = omega arith in
    ap (pool_seen capacities) new
    ∙ ap (λ xs. record { capacities = capacities; shares = xs; lines = drop (length capacities) (replicate m []); room = 0 }) (take-replicate (length capacities) m [] (omega arith))
    ∙ ap (λ xs. record { capacities = capacities; shares = replicate (length capacities) []; lines = xs; room = 0 }) (drop-replicate (length capacities) m [] ∙ ap (λ n. replicate n []) less)

pub IsSound-new : (capacities held : List ℕ) (p : Lists) (m : ℕ) → held ≡ replicate (length capacities) 0 → m ≡ length capacities + length capacities → p ≡ record { lists = replicate m []; room = 0 } → All (λ c. c < 2 ^ 32) capacities → StandsInPool capacities held p
IsSound-new capacities held p m none twice new counted =
    let at_held : (r : ℕ) → r < length capacities → slice_index held r ≡ 0 = λ r h. ap (λ xs. slice_index xs r) none ∙ get_or-replicate (length capacities) r 0 0 h in
    let at_list : (r : ℕ) → r < length capacities → list_at p r ≡ [] = λ r h. ap (λ x. list_at x r) new ∙ get_or-replicate m r [] [] (omega (arith, twice, h)) in
    record {
      twice = ap (λ (x : Lists). length x.lists) new ∙ length-replicate m [] ∙ twice;
      counts = ap length none ∙ length-replicate (length capacities) 0;
      sums = λ r h. at_held r h ∙ sym (ap held_units (at_list r h));
      within = λ r h. omega (arith, at_held r h);
      counted = counted;
    }

-- the units of the next grant are free
next-free : (capacity : ℕ) (shares line : List Claim) (c : Claim) → next_in capacity shares line ≡ Some c → held_units shares + c.units ≤ capacity
next-free capacity shares line c e = grind (arith, leb-true)

-- the oldest ask leaves its line and joins the shares
module _ (capacities held : List ℕ) (p q s : Lists) (r : ℕ) (c : Claim) (known : r < length capacities) (sound : StandsInPool capacities held p) (next : next_grant (pool_seen capacities p) r ≡ Some c) (left : q ≡ with_list p (length capacities + r) (drop 1 (list_at p (length capacities + r))) (p.room + 1)) (joined : s ≡ with_list q r (list_at q r ++ c ∷ []) (q.room - 1)) where
  same_shares : (k : ℕ) → k < length capacities → list_at q k ≡ list_at p k
  same_shares k h = ap (λ x. list_at x k) left ∙ get_or-set_other p.lists (length capacities + r) k (drop 1 (list_at p (length capacities + r))) [] (omega arith)

  free : held_units (list_at p r) + c.units ≤ slice_index capacities r
  free = subst (λ (cs : List Claim). held_units cs + c.units ≤ slice_index capacities r) (shares-seen capacities p r known) (next-free (slice_index capacities r) (shares_at (pool_seen capacities p) r) (line_of_asks (pool_seen capacities p) r) c next)

  pub fits : slice_index held r + c.units ≤ slice_index capacities r
  fits = omega (arith, free, sound.sums r known)

  pub seen-grant : pool_seen capacities s ≡ after_grant r (next_grant (pool_seen capacities p) r) (pool_seen capacities p)
  seen-grant =
      let room : q.room - 1 ≡ p.room = omega (arith, ap (λ (x : Lists). x.room) left) in
      let old : list_at q r ≡ shares_at (pool_seen capacities p) r = same_shares r known ∙ sym (shares-seen capacities p r known) in
      ap (pool_seen capacities) joined
      ∙ seen-share capacities q r (q.room - 1) (list_at q r ++ c ∷ []) known
      ∙ ap (λ n. record (pool_seen capacities q) { shares = set (pool_seen capacities q).shares r (list_at q r ++ c ∷ []); room = n }) room
      ∙ ap (λ cs. record (pool_seen capacities q) { shares = set (pool_seen capacities q).shares r (cs ++ c ∷ []); room = p.room }) old
      ∙ ap (λ (a : Allocation). record a { shares = set a.shares r (shares_at (pool_seen capacities p) r ++ c ∷ []); room = p.room })
      (ap (pool_seen capacities) left ∙ seen-line capacities p r (p.room + 1) (drop 1 (list_at p (length capacities + r))))
      ∙ ap (λ cs. record (pool_seen capacities p) { shares = set (pool_seen capacities p).shares r (shares_at (pool_seen capacities p) r ++ c ∷ []); lines = set (pool_seen capacities p).lines r (drop 1 cs) }) (sym (line-seen capacities p r))
      ∙ ap (λ o. after_grant r o (pool_seen capacities p)) (sym next)

  list_r : list_at s r ≡ list_at p r ++ c ∷ []
  list_r =
      let many : r < length q.lists = omega (arith, ap (λ (x : Lists). length x.lists) left, length-set p.lists (length capacities + r) (drop 1 (list_at p (length capacities + r))), sound.twice) in
      ap (λ x. list_at x r) joined ∙ get_or-set_same q.lists r (list_at q r ++ c ∷ []) [] many ∙ ap (λ cs. cs ++ c ∷ []) (same_shares r known)

  list_other : (k : ℕ) → k < length capacities → k ≢ r → list_at s k ≡ list_at p k
  list_other k h ne = ap (λ x. list_at x k) joined ∙ get_or-set_other q.lists r k (list_at q r ++ c ∷ []) [] ne ∙ same_shares k h

  held_r : slice_index (set held r (slice_index held r + c.units)) r ≡ slice_index held r + c.units
  held_r = get_or-set_same held r (slice_index held r + c.units) 0 (omega (arith, sound.counts))

  held_other : (k : ℕ) → k ≢ r → slice_index (set held r (slice_index held r + c.units)) k ≡ slice_index held k
  held_other k ne = get_or-set_other held r k (slice_index held r + c.units) 0 ne

  sum_at : (k : ℕ) → k ≡ r → slice_index (set held r (slice_index held r + c.units)) k ≡ held_units (list_at s k)
  sum_at k e =
      ap (slice_index (set held r (slice_index held r + c.units))) e
      ∙ (let more : held_units (list_at p r ++ c ∷ []) ≡ held_units (list_at p r) + c.units = sum_by_push (λ (x : Claim). x.units) (list_at p r) c in
      let sum : slice_index (set held r (slice_index held r + c.units)) r ≡ held_units (list_at p r ++ c ∷ []) = omega (arith, held_r, sound.sums r known, more) in
      sum ∙ ap held_units (sym list_r))
      ∙ ap (λ x. held_units (list_at s x)) (sym e)

  within_at : (k : ℕ) → k ≡ r → slice_index (set held r (slice_index held r + c.units)) k ≤ slice_index capacities k
  within_at k e = subst (λ (x : ℕ). slice_index (set held r (slice_index held r + c.units)) x ≤ slice_index capacities x) (sym e) (omega (arith, held_r, fits))

  pub IsSound-grant : StandsInPool capacities (set held r (slice_index held r + c.units)) s
  IsSound-grant = record {
    twice = omega (arith, ap (λ (x : Lists). length x.lists) joined, length-set q.lists r (list_at q r ++ c ∷ []), ap (λ (x : Lists). length x.lists) left, length-set p.lists (length capacities + r) (drop 1 (list_at p (length capacities + r))), sound.twice);
    counts = length-set held r (slice_index held r + c.units) ∙ sound.counts;
    sums = λ k h. elim (cases_eq k r) [
      | inl e ↦ sum_at k e
      | inr ne ↦ held_other k ne ∙ sound.sums k h ∙ ap held_units (sym (list_other k h ne))
    ];
    within = λ k h. elim (cases_eq k r) [
      | inl e ↦ within_at k e
      | inr ne ↦ subst (λ (x : ℕ). x ≤ slice_index capacities k) (sym (held_other k ne)) (sound.within k h)
    ];
    counted = sound.counted;
  }

-- A share goes to another act

removed-sum : (batch node : ℕ) (cs : List Claim) → held_units cs ≡ held_units (without_first (is_claim batch node) cs) + units_claimed batch node cs
removed-sum batch node [] = refl
removed-sum batch node (c ∷ cs) = go (is_claim batch node c) (removed-sum batch node cs)
  where
    go : (t : Bool) → held_units cs ≡ held_units (without_first (is_claim batch node) cs) + units_claimed batch node cs
        → held_units (c ∷ cs)
        ≡ held_units (cond t cs (c ∷ without_first (is_claim batch node) cs)) + elim (cond t (Some c) (find (is_claim batch node) cs)) [ None ↦ 0 | Some d ↦ d.units ]
    go true h = omega (arith, sum_by-cons (λ (x : Claim). x.units) c cs)
    go false h =
        omega (arith, h, sum_by-cons (λ (x : Claim). x.units) c cs, sum_by-cons (λ (x : Claim). x.units) c (without_first (is_claim batch node) cs))

pub handed_over-sum : (batch from to : ℕ) (cs : List Claim) → held_units (handed_over batch from to cs) ≡ held_units cs
handed_over-sum batch from to cs =
    omega (
      arith,
      sum_by_push (λ (x : Claim). x.units) (without_first (is_claim batch from) cs) (record { batch = batch; node = to; units = units_claimed batch from cs }),
      removed-sum batch from cs,
    )

module _ (capacities held : List ℕ) (p q s : Lists) (r batch from to units : ℕ) (known : r < length capacities) (sound : StandsInPool capacities held p) (removed : IsRemoved p r batch from units q) (joined : s ≡ with_list q r (list_at q r ++ record { batch = batch; node = to; units = units } ∷ []) (q.room - 1)) where
  abbrev less : List Claim
  less = without_first (is_claim batch from) (list_at p r)

  units-are : units ≡ units_claimed batch from (list_at p r)
  units-are = omega (arith, removed.sum, removed-sum batch from (list_at p r))

  list_less : list_at q r ≡ less
  list_less = ap (λ x. list_at x r) removed.after ∙ get_or-set_same p.lists r less [] (omega (arith, sound.twice))

  after_both : s ≡ with_list p r (handed_over batch from to (list_at p r)) p.room
  after_both =
      joined
      ∙ ap (λ cs. with_list q r (cs ++ record { batch = batch; node = to; units = units } ∷ []) (q.room - 1)) list_less
      ∙ ap (λ n. with_list q r (less ++ record { batch = batch; node = to; units = n } ∷ []) (q.room - 1)) units-are
      ∙ ap (λ x. with_list x r (handed_over batch from to (list_at p r)) (x.room - 1)) removed.after
      ∙ ap (λ ls. record { lists = ls; room = p.room + 1 - 1 }) (set-set p.lists r less (handed_over batch from to (list_at p r)))
      ∙ ap (λ n. with_list p r (handed_over batch from to (list_at p r)) n) (omega arith)

  pub seen-pass : pool_seen capacities s ≡ after_pass r batch from to (pool_seen capacities p)
  seen-pass =
      ap (pool_seen capacities) after_both
      ∙ seen-share capacities p r p.room (handed_over batch from to (list_at p r)) known
      ∙ ap (λ cs. record (pool_seen capacities p) { shares = set (pool_seen capacities p).shares r (handed_over batch from to cs) }) (sym (shares-seen capacities p r known))
