-- A circle with the fewest edges takes no detour.
use Rattle.std.proofs.Common.{◌≡◌, ◌≢◌, ℕ, suc, ◌+◌, ◌<◌, ◌≤◌, List, [], ◌∷◌, ◌++◌, length, AllPairs, sym, ap, ◌∙◌, subst, arith, length-append}
use Rattle.std.proofs.lemmas.List.{Elements.All-contains_itself, Elements.All-from_recursion, Elements.recursion_from_All, Kept.AllPairs-cons}
use Rattle.batch_cell.specs.declared.cell.Cell.{Cell}
use Rattle.batch_recipe.specs.declared.recipe.Recipe.{Recipe}
use Rattle.batch_model.specs.Lists.{Each}
use Rattle.batch_check.specs.{declared.edge.Edge.Edge, Clearing.StandsAsCircle, Edges.EdgeStands, LeastRanking.LeadsAlong, Shortest.CanBeReplaced, Shortest.IsShortest, Shortest.TakesNoDetour}

-- no two edges lead to one resource
abbrev AreApart : List Edge → Type 0
AreApart walk = AllPairs (λ e f. e.later ≢ f.later) walk

abbrev LeadApart : List Edge → Type 0
LeadApart [] = Unit {0}
LeadApart (e ∷ es) = Each (λ f. e.later ≢ f.later) es × LeadApart es

apart_from : (walk : List Edge) → AreApart walk → LeadApart walk
apart_from [] h = tt
apart_from (e ∷ es) h = (
  recursion_from_All (λ (f : Edge). e.later ≢ f.later) es (λ k d in'. h 0 (suc k) d (omega arith) (omega arith)),
  apart_from es (λ i j d ij j_in. h (suc i) (suc j) d (omega arith) (omega arith)),
)

apart_to : (walk : List Edge) → LeadApart walk → AreApart walk
apart_to [] h = λ i j d ij j_in. absurd (omega arith)
apart_to (e ∷ es) h = AllPairs-cons (λ (e f : Edge). e.later ≢ f.later) e es (All-from_recursion (λ (f : Edge). e.later ≢ f.later) es h.0) (apart_to es h.1)

-- One edge in place of two that follow one another

module _ (e f g : Edge) (from : g.earlier ≡ e.earlier) (into : g.later ≡ f.later) where
  leads_by : (before after : List Edge) (first last : ℕ) → LeadsAlong first (before ++ (e ∷ f ∷ after)) last → LeadsAlong first (before ++ (g ∷ after)) last
  leads_by [] after first last h = (from ∙ h.0, subst (λ n. LeadsAlong n after last) (sym into) h.1.1)
  leads_by (b ∷ bs) after first last h = (h.0, leads_by bs after b.later last h.1)

  each_by : (P : Edge → Type 0) (before after : List Edge) → (P f → P g) → Each P (before ++ (e ∷ f ∷ after)) → Each P (before ++ (g ∷ after))
  each_by P [] after on h = (on h.1.0, h.1.1)
  each_by P (b ∷ bs) after on h = (h.0, each_by P bs after on h.1)

  apart_by : (before after : List Edge) → LeadApart (before ++ (e ∷ f ∷ after)) → LeadApart (before ++ (g ∷ after))
  apart_by [] after h = (subst (λ n. Each (λ x. n ≢ x.later) after) (sym into) h.1.0, h.1.1)
  apart_by (b ∷ bs) after h = (
    each_by (λ (x : Edge). b.later ≢ x.later) bs after (λ differ same. differ (same ∙ into)) h.0,
    apart_by bs after h.1,
  )

  -- and in place of the last and the first
  leads_round : (between : List Edge) (first last : ℕ) → LeadsAlong first (between ++ e ∷ []) last → LeadsAlong first (between ++ g ∷ []) f.later
  leads_round [] first last h = (from ∙ h.0, into)
  leads_round (b ∷ bs) first last h = (h.0, leads_round bs b.later last h.1)

  each_round : (P : Edge → Type 0) (between : List Edge) → P g → Each P (between ++ e ∷ []) → Each P (between ++ g ∷ [])
  each_round P [] here h = (here, tt)
  each_round P (b ∷ bs) here h = (h.0, each_round P bs here h.1)

  apart_round : (between : List Edge) → Each (λ x. f.later ≢ x.later) (between ++ e ∷ []) → LeadApart (between ++ e ∷ []) → LeadApart (between ++ g ∷ [])
  apart_round [] differ h = (tt, tt)
  apart_round (b ∷ bs) differ h = (
    each_round (λ (x : Edge). b.later ≢ x.later) bs (λ same. differ.0 (sym (same ∙ into))) h.0,
    apart_round bs differ.1 h.1,
  )

-- Circles

module _ (c : Cell) (recipes : List Recipe) (circle : List Edge) (h : StandsAsCircle c recipes circle) (shortest : IsShortest c recipes circle) where
  stands_as : (other : List Edge) (start : ℕ) → 0 < length other → LeadsAlong start other start → LeadApart other → Each (EdgeStands c recipes) other → StandsAsCircle c recipes other
  stands_as other start some closed apart standing = record {
    circle = record { start = start; nonempty = some; closed = closed; apart = apart_to other apart; standing = All-contains_itself other };
    standing = All-from_recursion (EdgeStands c recipes) other standing;
  }

  abbrev each_stands : Each (EdgeStands c recipes) circle
  each_stands = recursion_from_All (EdgeStands c recipes) circle h.standing

  no_detour_along : (before after : List Edge) (e f : Edge) → circle ≡ before ++ (e ∷ f ∷ after) → CanBeReplaced c recipes e f → ⊥
  no_detour_along before after e f is by =
      let g = by.edge in
      let other : List Edge = before ++ (g ∷ after) in
      let long : length (before ++ (e ∷ f ∷ after)) ≡ length before + length (e ∷ f ∷ after) = length-append before (e ∷ f ∷ after) in
      let less : length other ≡ length before + length (g ∷ after) = length-append before (g ∷ after) in
      let whole : length circle ≡ length (before ++ (e ∷ f ∷ after)) = ap length is in
      let few : length circle ≤ length other =
      shortest other
      (stands_as other h.circle.start (omega (arith, less))
      (leads_by e f g by.from by.into before after h.circle.start h.circle.start (subst (λ (w : List Edge). LeadsAlong h.circle.start w h.circle.start) is h.circle.closed))
      (apart_by e f g by.from by.into before after (subst LeadApart is (apart_from circle h.circle.apart)))
      (each_by e f g by.from by.into (EdgeStands c recipes) before after (λ stands. by.standing) (subst (λ (w : List Edge). Each (EdgeStands c recipes) w) is each_stands))) in
      absurd (omega (arith, few, whole, long, less))

  no_detour_around : (between : List Edge) (e f : Edge) → circle ≡ f ∷ (between ++ e ∷ []) → CanBeReplaced c recipes e f → ⊥
  no_detour_around between e f is by =
      let g = by.edge in
      let other : List Edge = between ++ g ∷ [] in
      let long : length (between ++ e ∷ []) ≡ length between + length (e ∷ []) = length-append between (e ∷ []) in
      let less : length other ≡ length between + length (g ∷ []) = length-append between (g ∷ []) in
      let whole : length circle ≡ length (f ∷ (between ++ e ∷ [])) = ap length is in
      let closed : LeadsAlong h.circle.start (f ∷ (between ++ e ∷ [])) h.circle.start = subst (λ (w : List Edge). LeadsAlong h.circle.start w h.circle.start) is h.circle.closed in
      let apart : LeadApart (f ∷ (between ++ e ∷ [])) = subst LeadApart is (apart_from circle h.circle.apart) in
      let standing : Each (EdgeStands c recipes) (f ∷ (between ++ e ∷ [])) = subst (λ (w : List Edge). Each (EdgeStands c recipes) w) is each_stands in
      let few : length circle ≤ length other =
      shortest other
      (stands_as other f.later (omega (arith, less))
      (leads_round e f g by.from by.into between f.later h.circle.start closed.1)
      (apart_round e f g by.from by.into between apart.0 apart.1)
      (each_round e f g by.from by.into (EdgeStands c recipes) between by.standing standing.1)) in
      absurd (omega (arith, few, whole, long, less))

  pub takes_no_detour : TakesNoDetour c recipes circle
  takes_no_detour = record { along = no_detour_along; around = no_detour_around }
