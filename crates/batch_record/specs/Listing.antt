-- trusted: the lines of the state that a record gives, and their order.
use Rattle.std.specs.Prelude.{◌≡◌, ℕ, List, [], ◌∷◌, ◌++◌, map, filter, flat_map, ◌&&◌, codes, decimal}
use Rattle.std.specs.Cmp.Lexicographic.{slice_cmp}
use Rattle.std.specs.List.Sorted.{IsSorted, IsStrictlySortedBy}
use Rattle.std.specs.Map.{keys_of, lookup}
use Rattle.std.specs.Ordering.{ordering_then, nat_cmp, is_eq}
use Rattle.std.specs.declared.cmp.Ordering.{Ordering}
use Rattle.batch_recipe.specs.Conditions.{Name, same_name}
use Rattle.batch_recipe.specs.Texts.{line_text, place_text}
use Rattle.batch_model.specs.Plant.{BatchAct, Share, is_same_act}
use Rattle.batch_wire.specs.RecordText.{state_text}
use Rattle.batch_record.specs.Telling.{Listed, Live, Tale}

-- an act with the units that it holds or awaits, and the resource's name
abbrev pub NamedClaim : Type 0
NamedClaim = Name × Share

-- batches with their numbers, who holds, who waits, and live phases
pub record Rows : Type 0 where
  pub batches : List (ℕ × Listed)
  pub holders : List NamedClaim
  pub waiters : List NamedClaim
  pub live : List Live

-- Order

-- names by their bytes
abbrev pub name_cmp : Name → Name → Ordering
name_cmp = slice_cmp nat_cmp

-- acts by the batch's number, then by the place, number by number
abbrev pub act_cmp : BatchAct → BatchAct → Ordering
act_cmp act other = ordering_then (nat_cmp act.0 other.0) (slice_cmp nat_cmp act.1 other.1)

abbrev pub holder_cmp : NamedClaim → NamedClaim → Ordering
holder_cmp claim other = ordering_then (name_cmp claim.0 other.0) (act_cmp claim.1.act other.1.act)

abbrev pub waiter_cmp : NamedClaim → NamedClaim → Ordering
waiter_cmp claim other = name_cmp claim.0 other.0

abbrev pub live_cmp : Live → Live → Ordering
live_cmp live other = ordering_then (name_cmp live.unit other.unit) (name_cmp live.name other.name)

-- the shares of a resource
abbrev pub shares_in : Name → List NamedClaim → List Share
shares_in resource claims = map (λ claim. claim.1) (filter (λ claim. same_name resource claim.0) claims)

-- those of an act
abbrev pub of_act : BatchAct → List Share → List Share
of_act act shares = filter (λ share. is_same_act act share.act) shares

-- the phases of this name on the unit
abbrev pub on_unit : Name → Name → List Live → List Live
on_unit unit name lives = filter (λ live. same_name unit live.unit && same_name name live.name) lives

-- the rows are the whole state by the record: batches by number, holders by resource, number and place, waiting acts by resource and
-- then in order of asking, live phases by unit and phase
pub record AreRowsOf (tale : Tale) (rows : Rows) : Type 0 where
  pub batches_rise : IsStrictlySortedBy nat_cmp (keys_of rows.batches)
  pub batches : (number : ℕ) → lookup (λ other. is_eq (nat_cmp number other)) rows.batches ≡ tale.batches number
  pub holders_rise : IsSorted holder_cmp rows.holders
  pub holders : (resource : Name) (act : BatchAct) → of_act act (shares_in resource rows.holders) ≡ of_act act (tale.holders resource)
  pub waiters_rise : IsSorted waiter_cmp rows.waiters
  pub waiters : (resource : Name) → shares_in resource rows.waiters ≡ tale.waiters resource
  pub live_rise : IsSorted live_cmp rows.live
  pub live : (unit name : Name) → on_unit unit name rows.live ≡ on_unit unit name tale.live

-- Lines

abbrev pub batch_words : ℕ × Listed → List (List ℕ)
batch_words row = codes "batch" ∷ decimal row.0 ∷ row.1.recipe ∷ decimal row.1.size ∷ state_text row.1.state ∷ []

abbrev pub claim_words : List ℕ → NamedClaim → List (List ℕ)
claim_words word claim = word ∷ claim.0 ∷ decimal claim.1.act.0 ∷ place_text claim.1.act.1 ∷ decimal claim.1.units ∷ []

abbrev pub live_words : Live → List (List ℕ)
live_words live =
    codes "runs" ∷ live.unit ∷ live.name ∷ decimal live.act.0 ∷ place_text live.act.1 ∷ state_text live.state ∷ []

-- each line after a text, which is empty or marks a comment
abbrev pub lines_behind : List ℕ → List (List (List ℕ)) → List ℕ
lines_behind mark lines = flat_map (λ words. mark ++ line_text words) lines

abbrev pub rows_text : List ℕ → Rows → List ℕ
rows_text mark rows =
    lines_behind mark (map batch_words rows.batches)
    ++ lines_behind mark (map (claim_words (codes "holds")) rows.holders)
    ++ lines_behind mark (map (claim_words (codes "waits")) rows.waiters)
    ++ lines_behind mark (map live_words rows.live)

-- the text is the lines of the state that a record gives
pub record IsTextOf (tale : Tale) (mark text : List ℕ) : Type 0 where
  pub rows : Rows
  pub are_rows : AreRowsOf tale rows
  pub is : text ≡ rows_text mark rows
