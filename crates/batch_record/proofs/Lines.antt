-- Lines of a record, one after the other.
use Rattle.std.proofs.Common.{◌≡◌, ℕ, ◌+◌, ◌-◌, ◌^◌, List, [], ◌∷◌, ◌++◌, length, take, drop, min, Some, None, true, false, Bool, refl, sym, ap, ◌∙◌, append_assoc, option_map}
use Rattle.batch_model.specs.{Lists.Each, Runs.Out}
use Rattle.batch_wire.{specs.LineEnds.HasNoFeed, specs.LineEnds.EndsLine, proofs.LineEnds.line_apart}
use Rattle.batch_record.{specs.Laws.is_passed_over, specs.RecordLine.out_of_line, specs.Blocks.Stage, specs.Blocks.mark_of, specs.Blocks.stage_after_mark, specs.Blocks.opening_stage, specs.Blocks.stage_after, specs.Blocks.stages, specs.Blocks.stage_after_out, specs.StatusReading.IsRefusedAt, specs.StatusReading.LeadsTo, specs.StatusReading.lines_text, proofs.InputProgress.each-more, proofs.InputProgress.stages-more, proofs.InputProgress.text-more, proofs.InputProgress.length-more, proofs.InputProgress.counted-more}

-- The progress of reading a text

-- the whole lines that were taken, and the rest
pub record HasTaken (text rest : List ℕ) (number : ℕ) : Type 0 where
  pub lines : List (List ℕ)
  pub stage : Stage
  pub whole : Each HasNoFeed lines
  pub split : text ≡ lines_text lines ++ rest
  pub stages : stages opening_stage lines ≡ Some stage
  pub counted : number ≡ min (length lines) (2 ^ 64 - 1)

pub nothing-taken : (text : List ℕ) → HasTaken text text 0
nothing-taken text = record { lines = []; stage = opening_stage; whole = tt; split = refl; stages = refl; counted = refl }

next-number : (number told : ℕ) (lines : List (List ℕ)) (line : List ℕ) → number ≡ min (length lines) (2 ^ 64 - 1) → told ≡ min (number + 1) (2 ^ 64 - 1)
    → told ≡ min (length (lines ++ line ∷ [])) (2 ^ 64 - 1)
next-number number told lines line counted next =
    next ∙ counted-more number (length lines) counted ∙ ap (λ n. min n (2 ^ 64 - 1)) (sym (length-more lines line))

pub line-taken : (text rest : List ℕ) (number told at : ℕ) (h : HasTaken text rest number) → EndsLine at rest → told ≡ min (number + 1) (2 ^ 64 - 1)
    → (next : Stage) → stage_after h.stage (take at rest) ≡ Some next → HasTaken text (drop (at + 1) rest) told
line-taken text rest number told at h here counted next after = record {
  lines = h.lines ++ take at rest ∷ [];
  stage = next;
  whole = each-more HasNoFeed h.lines (take at rest) h.whole here.before;
  split = h.split ∙ ap (λ l. lines_text h.lines ++ l) (line_apart rest at here)
      ∙ sym (ap (λ l. l ++ drop (at + 1) rest) (text-more h.lines (take at rest)) ∙ append_assoc (lines_text h.lines) (take at rest ++ 10 ∷ []) (drop (at + 1) rest)
      ∙ ap (λ l. lines_text h.lines ++ l) (append_assoc (take at rest) (10 ∷ []) (drop (at + 1) rest)));
  stages = stages-more opening_stage h.lines (take at rest) h.stage next h.stages after;
  counted = next-number number told h.lines (take at rest) h.counted counted;
}

pub line-refused : (text rest : List ℕ) (number told at : ℕ) (h : HasTaken text rest number) → EndsLine at rest → told ≡ min (number + 1) (2 ^ 64 - 1)
    → stage_after h.stage (take at rest) ≡ None → IsRefusedAt text told
line-refused text rest number told at h here counted refused = record {
  before = h.lines;
  line = take at rest;
  rest = drop (at + 1) rest;
  stage = h.stage;
  whole = h.whole;
  unended = here.before;
  is = h.split ∙ ap (λ l. lines_text h.lines ++ l) (line_apart rest at here);
  stages = h.stages;
  refused = refused;
  numbered = counted ∙ counted-more number (length h.lines) h.counted;
}

pub all-taken : (text rest : List ℕ) (number : ℕ) (h : HasTaken text rest number) → HasNoFeed rest → LeadsTo text h.stage
all-taken text rest number h none = record {
  lines = h.lines;
  last = rest;
  is_text = record { whole = h.whole; unended = none; is = h.split };
  stages = h.stages;
}

-- The effect of a line

after-line : (stage : Stage) (line : List ℕ) (passed : Bool) → is_passed_over line ≡ passed
    → stage_after stage line ≡ elim passed [ true ↦ Some (stage_after_mark stage (mark_of line)) | false ↦ option_map (stage_after_out stage) (out_of_line line) ]
after-line stage line passed is = ap (λ (b : Bool). elim b [ true ↦ Some (stage_after_mark stage (mark_of line)) | false ↦ option_map (stage_after_out stage) (out_of_line line) ]) is

pub passed-on : (line : List ℕ) → is_passed_over line ≡ true → (stage : Stage) → (next : Stage) × (stage_after stage line ≡ Some next)
passed-on line is stage = (stage_after_mark stage (mark_of line), after-line stage line true is)

pub told-on : (line : List ℕ) (out : Out) → is_passed_over line ≡ false → out_of_line line ≡ Some out
    → (stage : Stage) → (next : Stage) × (stage_after stage line ≡ Some next)
told-on line out is tells stage = (stage_after_out stage out, after-line stage line false is ∙ ap (option_map (stage_after_out stage)) tells)
