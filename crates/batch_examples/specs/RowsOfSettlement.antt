-- worked rows: the holders that are at work, and plants in which an act waits for nothing, each by one clause alone.
use Rattle.std.specs.Prelude.{ℕ, List, [], ◌∷◌, true, false, codes}
use Rattle.batch_matrix.specs.declared.state.State.{State}
use Rattle.batch_matrix.specs.declared.state.State.TheVariants.{Running, Held}
use Rattle.batch_recipe.specs.Conditions.{Name, same_name}
use Rattle.batch_recipe.specs.Needs.{one_unit}
use Rattle.batch_recipe.specs.Tree.{Place, Step, skip, follows}
use Rattle.batch_recipe.specs.declared.need.Need.{Need}
use Rattle.batch_examples.specs.RowDemo.{recipe}
use Rattle.batch_model.specs.Plant.{Batch, Share, Plant}
use Rattle.batch_model.specs.Rest.{Rest, asking, open_act, live, in_par, done, no_rests, rest}
use Rattle.batch_examples.specs.RowDocuments.{r1, hdr, steam, add, cell}
use Rattle.batch_examples.specs.RowParts.{p0, p00, p000, p001, on}
use Rattle.batch_safety.specs.Settlement.{IsAtWork, WaitsForSomething}

abbrev pub batch : ℕ → State → Rest → Batch
batch n x r = record { number = n; recipe = recipe; size = 1000; values = []; state = x; rest = r; in_advance = [] }

-- an act with one need
abbrev pub step : Place → Need → Step
step p need = record { place = p; needs = need ∷ []; reserves = [] }

-- an act in the queue for it
abbrev pub waits : Place → Need → Rest
waits p need = asking (step p need) (follows (codes "WAITS") skip) 0

-- an open act that holds the need, and the rest below it
abbrev pub holds : Place → Need → Rest → Rest
holds p need below = open_act (step p need) below

-- the step of batch 2 is alone in the queue for its need
abbrev pub line_of_two : Place → Need → Name → List Share
line_of_two p need r = elim (same_name r need.resource) [ true ↦ record { act = (2, p); units = need.units } ∷ [] | false ↦ [] ]

-- Holders at work

-- a batch, and batch 2 in this state, which waits for HDR
abbrev pub beside_one_that_waits : Batch → State → Plant
beside_one_that_waits b x = record { batches = b ∷ batch 2 x (waits p0 (one_unit hdr)) ∷ []; next_number = 3; line = line_of_two p0 (one_unit hdr) }

-- a phase that needs nothing
abbrev pub phase_at : Place → Rest
phase_at p = live (record { place = p; needs = []; reserves = [] }) (on r1 add) Running

abbrev pub LivePhaseWorks : Type 0
LivePhaseWorks = IsAtWork (beside_one_that_waits (batch 1 Running (holds p0 (one_unit hdr) (phase_at p00))) Running) (1, p0)

abbrev pub HeldBatchWorks : Type 0
HeldBatchWorks = IsAtWork (beside_one_that_waits (batch 1 Held (holds p0 (one_unit hdr) done)) Running) (1, p0)

abbrev pub nothing_is_live : Batch
nothing_is_live = batch 1 Running (holds p0 (one_unit hdr) done)

abbrev pub NothingLiveDoesNotWork : Type 0
NothingLiveDoesNotWork = IsAtWork (beside_one_that_waits nothing_is_live Running) (1, p0) → ⊥

-- that another batch is held counts for nothing
abbrev pub AnotherHeldBatchDoesNotWork : Type 0
AnotherHeldBatchDoesNotWork = IsAtWork (beside_one_that_waits nothing_is_live Held) (1, p0) → ⊥

-- nor does a phase beside the holder
abbrev pub phase_beside : Batch
phase_beside = batch 1 Running (in_par (rest (holds p000 (one_unit hdr) done) (rest (phase_at p001) no_rests)))

abbrev pub PhaseBesideDoesNotWork : Type 0
PhaseBesideDoesNotWork = IsAtWork (beside_one_that_waits phase_beside Running) (1, p000) → ⊥

-- Plants in which an act waits for nothing

abbrev pub WaitsForNothing : Plant → Type 0
WaitsForNothing s = WaitsForSomething cell s → ⊥

-- batch 2 alone, which waits for this
abbrev pub alone_in_line : Need → Plant
alone_in_line need = record { batches = batch 2 Running (waits p0 need) ∷ []; next_number = 3; line = line_of_two p0 need }

abbrev pub HeaderIsFree : Type 0
HeaderIsFree = WaitsForNothing (alone_in_line (one_unit hdr))

-- one of two units is held, and one is asked for
abbrev pub OneOfTwoUnitsIsFree : Type 0
OneOfTwoUnitsIsFree =
    WaitsForNothing
    (record {
      batches = batch 1 Held (holds p0 (one_unit steam) done) ∷ batch 2 Running (waits p0 (one_unit steam)) ∷ [];
      next_number = 3;
      line = line_of_two p0 (one_unit steam);
    })

-- more is asked for than there is, and nobody holds any
abbrev pub NobodyHoldsSteam : Type 0
NobodyHoldsSteam = WaitsForNothing (alone_in_line (record { resource = steam; units = 3 }))

abbrev pub LastHolderIsNotAtWork : Type 0
LastHolderIsNotAtWork = WaitsForNothing (beside_one_that_waits nothing_is_live Running)

-- each of two batches waits for the resource that the other holds, so that a chain of waiting goes on for ever
abbrev pub round : Plant
round =
    record {
      batches = batch 1 Held (holds p0 (one_unit hdr) (waits p00 (one_unit r1))) ∷ batch 2 Held (holds p0 (one_unit r1) (waits p00 (one_unit hdr))) ∷ [];
      next_number = 3;
      line = λ r. elim (same_name r r1) [ true ↦ record { act = (1, p00); units = 1 } ∷ [] | false ↦ line_of_two p00 (one_unit hdr) r ];
    }

abbrev pub ChainWithoutEnd : Type 0
ChainWithoutEnd = WaitsForNothing round
