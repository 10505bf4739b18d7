-- A change of one act changes the facts of that act alone.
use Rattle.std.proofs.Common.{◌+◌, ◌≡◌, refl, sym, ◌∙◌, ap, ap₂, subst, ℕ, arith, List, [], ◌++◌, true, false, inl, inr, ⊎_elim, bytes_eq, append-nil, append_assoc}
use Rattle.std.proofs.lemmas.Slice.Eq.{bytes_eq-Decides}
use Rattle.batch_model.{specs.Lists.Has, specs.Rest.Rest, specs.Rest.ready, specs.Rest.asking, specs.Rest.open_act, specs.Rest.live, specs.Rest.freeing, specs.Rest.in_seq, specs.Rest.in_par, specs.Rest.in_loop, specs.Rest.done, specs.Rest.Rests, specs.Rest.no_rests, specs.Rest.rest, specs.Rest.acts, specs.Rest.acts_of_each, specs.Rest.changed_at, specs.Rest.changed_in_each, specs.Rest.place_of, specs.Records.IsAtOrAbove, specs.Standing.IsRestOf, specs.Standing.IsRestBelow, specs.Standing.IsBranch, specs.Standing.AreBranches, specs.Standing.IsChosen, specs.Placed.IsPlaced, specs.Placed.IsPlacedBelow, specs.Placed.ArePlaced, specs.Placed.IsChoicePlaced, specs.Cleared.Ranking, proofs.Members.Has-split, proofs.Members.Has-left, proofs.Members.Has-right}
use Rattle.batch_recipe.specs.{Tree.Place, Tree.Step, Tree.Tree, Tree.act, Tree.seq, Tree.par, Tree.sel, Tree.loop, Tree.Task, Tree.runs, Tree.follows, Tree.Trees, Tree.no_trees, Tree.tree, Tree.Choices, Tree.otherwise, Tree.choice, Nodes.child, declared.need.Need.Need, Needs.resources_needed}
use Rattle.batch_record_laws.{proofs.PlantFacts.Standing, proofs.PlantFacts.held_at, proofs.PlantFacts.facts, proofs.PlantFacts.facts_of_each, specs.Ways.RanksRiseAbove, specs.Ways.last_rank, specs.Ways.RisesDown, specs.Ways.RisesBelow, specs.Ways.RiseDown, specs.Ways.ChoicesRiseDown, proofs.FactPlaces.IsUnderChild, proofs.FactPlaces.IsUnderLater, proofs.FactPlaces.under_child, proofs.FactPlaces.facts-under, proofs.FactPlaces.facts-side_by_side, proofs.FactPlaces.acts-under, proofs.FactPlaces.acts-below, proofs.FactPlaces.acts-side_by_side, proofs.FactPlaces.children_apart, proofs.FactPlaces.not_above_itself, proofs.FactPlaces.held-place}

pub hit : (x : Place) (q r : Rest) → elim (bytes_eq x x) [ true ↦ q | false ↦ r ] ≡ q
hit x q r = grind (arith, bytes_eq-Decides x x)

pub miss : (x y : Place) → (x ≡ y → ⊥) → (q r : Rest) → elim (bytes_eq x y) [ true ↦ q | false ↦ r ] ≡ r
miss x y d q r = grind (arith, bytes_eq-Decides x y)

mutual
  -- where no act stands nothing changes
  pub unchanged : (q : Place) (f : Rest → Rest) (r : Rest) → ((a : Rest) → Has (acts r) a → place_of a ≡ q → ⊥) → changed_at q f r ≡ r
  unchanged q f (ready s w k) none = miss s.place q (none (ready s w k) (inl refl)) (f (ready s w k)) (ready s w k)
  unchanged q f (asking s w k) none = miss s.place q (none (asking s w k) (inl refl)) (f (asking s w k)) (asking s w k)
  unchanged q f (open_act s r) none =
      miss s.place q (none (open_act s r) (inl refl)) (f (open_act s r)) (open_act s (changed_at q f r)) ∙ ap (open_act s) (unchanged q f r (λ a h. none a (inr h)))
  unchanged q f (live s x t) none = miss s.place q (none (live s x t) (inl refl)) (f (live s x t)) (live s x t)
  unchanged q f (freeing s k) none = miss s.place q (none (freeing s k) (inl refl)) (f (freeing s k)) (freeing s k)
  unchanged q f (in_seq r cs) none = ap (λ z. in_seq z cs) (unchanged q f r none)
  unchanged q f (in_par rs) none = ap in_par (unchanged_each q f rs none)
  unchanged q f (in_loop n c body r) none = ap (in_loop n c body) (unchanged q f r none)
  unchanged q f done none = refl

  pub unchanged_each : (q : Place) (f : Rest → Rest) (rs : Rests) → ((a : Rest) → Has (acts_of_each rs) a → place_of a ≡ q → ⊥) → changed_in_each q f rs ≡ rs
  unchanged_each q f no_rests none = refl
  unchanged_each q f (rest r rs) none =
      ap₂ rest (unchanged q f r (λ a h. none a (Has-left (acts r) (acts_of_each rs) a h))) (unchanged_each q f rs (λ a h. none a (Has-right (acts r) (acts_of_each rs) a h)))

-- none of the facts is of the act at p
abbrev pub IsElsewhere : Place → List Standing → Type 0
IsElsewhere p es = (e : Standing) → Has es e → e.0 ≡ p → ⊥

-- `a` has the facts between front and back, and so it has after any change; now and later are the facts before and after
abbrev pub Frames : List Standing → ((Rest → Rest) → List Standing) → Rest → Type 0
Frames now later a =
    (front : List Standing) × (back : List Standing) × (now ≡ front ++ (facts a ++ back)) × ((f : Rest → Rest) → later f ≡ front ++ (facts (f a) ++ back))
    × IsElsewhere (place_of a) front × IsElsewhere (place_of a) back

abbrev pub Frame : Rest → Rest → Type 0
Frame r a = Frames (facts r) (λ f. facts (changed_at (place_of a) f r)) a

abbrev pub FrameOfEach : Rests → Rest → Type 0
FrameOfEach rs a = Frames (facts_of_each rs) (λ f. facts_of_each (changed_in_each (place_of a) f rs)) a

frame-self : (r : Rest) → ((f : Rest → Rest) → changed_at (place_of r) f r ≡ f r) → (a : Rest) → r ≡ a → Frame r a
frame-self r c a e =
    subst (Frame r) e
    ([], [], sym (append-nil (facts r)), λ f. ap facts (c f) ∙ sym (append-nil (facts (f r))), λ s h. absurd h, λ s h. absurd h)

elsewhere-append : (p : Place) (xs ys : List Standing) → IsElsewhere p xs → IsElsewhere p ys → IsElsewhere p (xs ++ ys)
elsewhere-append p xs ys h k e m q = ⊎_elim (λ n. h e n q) (λ n. k e n q) (Has-split xs ys e m)

pub frame-after : (before : List Standing) (now : List Standing) (later after : (Rest → Rest) → List Standing) (a : Rest) → IsElsewhere (place_of a) before
    → ((f : Rest → Rest) → after f ≡ before ++ later f) → Frames now later a → Frames (before ++ now) after a
frame-after before now later after a el e f = (
  before ++ f.0,
  f.1,
  ap (λ z. before ++ z) f.2 ∙ sym (append_assoc before f.0 (facts a ++ f.1)),
  λ g. e g ∙ ap (λ z. before ++ z) (f.3 g) ∙ sym (append_assoc before f.0 (facts (g a) ++ f.1)),
  elsewhere-append (place_of a) before f.0 el f.4,
  f.5,
)

pub regroup : {X : Type 0} (front middle back more : List X) → (front ++ (middle ++ back)) ++ more ≡ front ++ (middle ++ (back ++ more))
regroup front middle back more = append_assoc front (middle ++ back) more ∙ ap (λ z. front ++ z) (append_assoc middle back more)

frame-before : (more : List Standing) (now : List Standing) (later after : (Rest → Rest) → List Standing) (a : Rest) → IsElsewhere (place_of a) more
    → ((f : Rest → Rest) → after f ≡ later f ++ more) → Frames now later a → Frames (now ++ more) after a
frame-before more now later after a el e f = (
  f.0,
  f.1 ++ more,
  ap (λ z. z ++ more) f.2 ∙ regroup f.0 (facts a) f.1 more,
  λ g. e g ∙ ap (λ z. z ++ more) (f.3 g) ∙ regroup f.0 (facts (g a)) f.1 more,
  f.4,
  elsewhere-append (place_of a) f.1 more f.5 el,
)

pub at_or_above : (p q : Place) → p ≡ q → IsAtOrAbove p q
at_or_above p q e = ([], append-nil p ∙ e)

mutual
  pub frame : (p : Place) (c : Tree) (r : Rest) → IsPlaced p c → IsRestOf c r → (a : Rest) → Has (acts r) a → Frame r a
  frame p (act s w) (ready u v n) pl h a (inl e) = frame-self (ready u v n) (λ f. hit u.place (f (ready u v n)) (ready u v n)) a e
  frame p (act s w) (ready u v n) pl h a (inr e) = absurd e
  frame p (act s w) (asking u v n) pl h a (inl e) = frame-self (asking u v n) (λ f. hit u.place (f (asking u v n)) (asking u v n)) a e
  frame p (act s w) (asking u v n) pl h a (inr e) = absurd e
  frame p (act s w) (open_act u r) pl h a (inl e) = frame-self (open_act u r) (λ f. hit u.place (f (open_act u r)) (open_act u (changed_at u.place f r))) a e
  frame p (act s w) (open_act u r) pl h a (inr e) =
      let at : u.place ≡ p = ap (λ z. z.place) h.0 ∙ pl.0 in
      let apart : u.place ≡ place_of a → ⊥ = λ q. not_above_itself p 0 (place_of a) (acts-below p w r pl.1 h.1 a e) (at_or_above (place_of a) p (sym q ∙ at)) in
      frame-after (held_at u.place u.needs) (facts r) (λ f. facts (changed_at (place_of a) f r)) (λ f. facts (changed_at (place_of a) f (open_act u r))) a
      (λ z k q. apart (sym (held-place u.place u.needs z k) ∙ q))
      (λ f. ap facts (miss u.place (place_of a) apart (f (open_act u r)) (open_act u (changed_at (place_of a) f r))))
      (frame-below p w r pl.1 h.1 a e)
  frame p (act s w) (live u x t) pl h a (inl e) = frame-self (live u x t) (λ f. hit u.place (f (live u x t)) (live u x t)) a e
  frame p (act s w) (live u x t) pl h a (inr e) = absurd e
  frame p (act s w) (freeing u n) pl h a (inl e) = frame-self (freeing u n) (λ f. hit u.place (f (freeing u n)) (freeing u n)) a e
  frame p (act s w) (freeing u n) pl h a (inr e) = absurd e
  frame p (seq cs) (in_seq r ds) pl h a e = frame-among p 0 cs r ds pl h a e
  frame p (par cs) (in_par rs) pl h a e = frame-side_by_side p 0 cs rs pl h a e
  frame p (sel ch) r pl h a e = frame-chosen p 0 ch r pl h a e
  frame p (loop n c body) (in_loop m d b r) pl h a e = frame (child p 0) body r pl h.3 a e
  frame p c done pl h a e = absurd e
  frame p _ _ pl h a e = absurd h

  pub frame-below : (p : Place) (w : Task) (r : Rest) → IsPlacedBelow p w → IsRestBelow w r → (a : Rest) → Has (acts r) a → Frame r a
  frame-below p (runs x) r pl h a e = absurd h
  frame-below p (follows name c) r pl h a e = frame (child p 0) c r pl h a e

  pub frame-among : (p : Place) (i : ℕ) (cs : Trees) (r : Rest) (ds : Trees) → ArePlaced p i cs → IsBranch cs r ds → (a : Rest) → Has (acts r) a → Frame r a
  frame-among p i no_trees r ds pl h a e = absurd h
  frame-among p i (tree c cs) r ds pl (inl h) a e = frame (child p i) c r pl.0 h.0 a e
  frame-among p i (tree c cs) r ds pl (inr h) a e = frame-among p (i + 1) cs r ds pl.1 h a e

  pub frame-side_by_side : (p : Place) (i : ℕ) (cs : Trees) (rs : Rests) → ArePlaced p i cs → AreBranches cs rs → (a : Rest) → Has (acts_of_each rs) a → FrameOfEach rs a
  frame-side_by_side p i (tree c cs) (rest r more) pl h a e =
      ⊎_elim
      (λ m.
      let here : IsUnderChild p i (place_of a) = under_child p i (place_of a) (acts-under (child p i) c r pl.0 h.0 a m) in
      let apart : (q : Place) → IsUnderLater p (i + 1) q → q ≡ place_of a → ⊥
      = λ q t d. let g : i ≡ t.0 = children_apart p i t.0 (place_of a) q here t.2 (at_or_above (place_of a) q (sym d)) in absurd (omega (arith, g, t.1)) in
      frame-before (facts_of_each more) (facts r) (λ f. facts (changed_at (place_of a) f r)) (λ f. facts_of_each (changed_in_each (place_of a) f (rest r more))) a
      (λ z k q. apart z.0 (facts-side_by_side p (i + 1) cs more pl.1 h.1 z k) q)
      (λ f. ap (λ z. facts (changed_at (place_of a) f r) ++ facts_of_each z)
      (unchanged_each (place_of a) f more (λ b k q. apart (place_of b) (acts-side_by_side p (i + 1) cs more pl.1 h.1 b k) q)))
      (frame (child p i) c r pl.0 h.0 a m))
      (λ m.
      let there : IsUnderLater p (i + 1) (place_of a) = acts-side_by_side p (i + 1) cs more pl.1 h.1 a m in
      let apart : (q : Place) → IsUnderChild p i q → q ≡ place_of a → ⊥
      = λ q t d. let g : i ≡ there.0 = children_apart p i there.0 q (place_of a) t there.2 (at_or_above q (place_of a) d) in absurd (omega (arith, g, there.1)) in
      frame-after (facts r) (facts_of_each more) (λ f. facts_of_each (changed_in_each (place_of a) f more)) (λ f. facts_of_each (changed_in_each (place_of a) f (rest r more))) a
      (λ z k q. apart z.0 (under_child p i z.0 (facts-under (child p i) c r pl.0 h.0 z k)) q)
      (λ f. ap (λ z. facts z ++ facts_of_each (changed_in_each (place_of a) f more))
      (unchanged (place_of a) f r (λ b k q. apart (place_of b) (under_child p i (place_of b) (acts-under (child p i) c r pl.0 h.0 b k)) q)))
      (frame-side_by_side p (i + 1) cs more pl.1 h.1 a m))
      (Has-split (acts r) (acts_of_each more) a e)
  frame-side_by_side p i cs rs pl h a e = grind arith

  pub frame-chosen : (p : Place) (i : ℕ) (ch : Choices) (r : Rest) → IsChoicePlaced p i ch → IsChosen ch r → (a : Rest) → Has (acts r) a → Frame r a
  frame-chosen p i (otherwise c) r pl h a e = frame (child p i) c r pl h a e
  frame-chosen p i (choice d c ch) r pl (inl h) a e = frame (child p i) c r pl.0 h a e
  frame-chosen p i (choice d c ch) r pl (inr h) a e = frame-chosen p (i + 1) ch r pl.1 h a e

-- the needs of an act
abbrev pub needs_of : Rest → List Need
needs_of (ready s w k) = s.needs
needs_of (asking s w k) = s.needs
needs_of (open_act s r) = s.needs
needs_of (live s x t) = s.needs
needs_of (freeing s k) = s.needs
needs_of _ = []

abbrev pub NeedsRise : Ranking → Rest → Type 0
NeedsRise rank a = (low : ℕ) × RanksRiseAbove rank low (resources_needed (needs_of a))

needs-here : (rank : Ranking) (low : ℕ) (s : Step) (r a : Rest) → RanksRiseAbove rank low (resources_needed s.needs) → needs_of r ≡ s.needs → r ≡ a → NeedsRise rank a
needs-here rank low s r a h e q = subst (NeedsRise rank) q (low, subst (λ z. RanksRiseAbove rank low (resources_needed z)) (sym e) h)

mutual
  -- the needs of each act have strictly rising ranks
  pub needs-rise : (rank : Ranking) (low : ℕ) (c : Tree) (r : Rest) → RisesDown rank low c → IsRestOf c r → (a : Rest) → Has (acts r) a → NeedsRise rank a
  needs-rise rank low (act s w) (ready u v n) rs h a (inl e) = needs-here rank low s (ready u v n) a rs.0 (ap (λ z. z.needs) h.0) e
  needs-rise rank low (act s w) (ready u v n) rs h a (inr e) = absurd e
  needs-rise rank low (act s w) (asking u v n) rs h a (inl e) = needs-here rank low s (asking u v n) a rs.0 (ap (λ z. z.needs) h.0) e
  needs-rise rank low (act s w) (asking u v n) rs h a (inr e) = absurd e
  needs-rise rank low (act s w) (open_act u r) rs h a (inl e) = needs-here rank low s (open_act u r) a rs.0 (ap (λ z. z.needs) h.0) e
  needs-rise rank low (act s w) (open_act u r) rs h a (inr e) = needs-rise_below rank (last_rank rank low (resources_needed s.needs)) w r rs.1 h.1 a e
  needs-rise rank low (act s w) (live u x t) rs h a (inl e) = needs-here rank low s (live u x t) a rs.0 (ap (λ z. z.needs) h.0) e
  needs-rise rank low (act s w) (live u x t) rs h a (inr e) = absurd e
  needs-rise rank low (act s w) (freeing u n) rs h a (inl e) = needs-here rank low s (freeing u n) a rs.0 (ap (λ z. z.needs) h.0) e
  needs-rise rank low (act s w) (freeing u n) rs h a (inr e) = absurd e
  needs-rise rank low (seq cs) (in_seq r ds) rs h a e = needs-rise_among rank low cs r ds rs h a e
  needs-rise rank low (par cs) (in_par r) rs h a e = needs-rise_side_by_side rank low cs r rs h a e
  needs-rise rank low (sel ch) r rs h a e = needs-rise_chosen rank low ch r rs h a e
  needs-rise rank low (loop n c body) (in_loop m d b r) rs h a e = needs-rise rank low body r rs h.3 a e
  needs-rise rank low c done rs h a e = absurd e
  needs-rise rank low _ _ rs h a e = absurd h

  pub needs-rise_below : (rank : Ranking) (low : ℕ) (w : Task) (r : Rest) → RisesBelow rank low w → IsRestBelow w r → (a : Rest) → Has (acts r) a → NeedsRise rank a
  needs-rise_below rank low (runs x) r rs h a e = absurd h
  needs-rise_below rank low (follows name c) r rs h a e = needs-rise rank low c r rs h a e

  pub needs-rise_among : (rank : Ranking) (low : ℕ) (cs : Trees) (r : Rest) (ds : Trees) → RiseDown rank low cs → IsBranch cs r ds → (a : Rest) → Has (acts r) a → NeedsRise rank a
  needs-rise_among rank low no_trees r ds rs h a e = absurd h
  needs-rise_among rank low (tree c cs) r ds rs (inl h) a e = needs-rise rank low c r rs.0 h.0 a e
  needs-rise_among rank low (tree c cs) r ds rs (inr h) a e = needs-rise_among rank low cs r ds rs.1 h a e

  pub needs-rise_side_by_side : (rank : Ranking) (low : ℕ) (cs : Trees) (r : Rests) → RiseDown rank low cs → AreBranches cs r → (a : Rest) → Has (acts_of_each r) a → NeedsRise rank a
  needs-rise_side_by_side rank low (tree c cs) (rest r more) rs h a e =
      ⊎_elim (needs-rise rank low c r rs.0 h.0 a) (needs-rise_side_by_side rank low cs more rs.1 h.1 a) (Has-split (acts r) (acts_of_each more) a e)
  needs-rise_side_by_side rank low cs r rs h a e = grind arith

  pub needs-rise_chosen : (rank : Ranking) (low : ℕ) (ch : Choices) (r : Rest) → ChoicesRiseDown rank low ch → IsChosen ch r → (a : Rest) → Has (acts r) a → NeedsRise rank a
  needs-rise_chosen rank low (otherwise c) r rs h a e = needs-rise rank low c r rs h a e
  needs-rise_chosen rank low (choice d c ch) r rs (inl h) a e = needs-rise rank low c r rs.0 h a e
  needs-rise_chosen rank low (choice d c ch) r rs (inr h) a e = needs-rise_chosen rank low ch r rs.1 h a e
