-- Outputs that are written through the rings of their writers.
use Rattle.std.proofs.Common.{◌≡◌, ◌<◌, ◌+◌, ℕ, false, List, [], ◌∷◌, ◌++◌, length, length-append, get_or, set, Option, Some, None, IfSome, IsSome, string_bytes, refl, sym, ap, subst, arith, append-nil, append_assoc, length-set, ◌∙◌}
use Rattle.std.proofs.lemmas.{Bool.false≢true, Option.IfSome_then}
use Rattle.rtrb.specs.Ring.{IsPair, SameProducer, received, sent}
use Rattle.batch_reader.specs.declared.desk.Desk as plans
use Rattle.batch_serve.{specs.Rounds.AreSameWriters, specs.Threads.lines_text, specs.Waits.IsAccount, specs.declared.desk.ServedDesk.ServedDesk, specs.declared.rounds.Writer.Writer, proofs.ReadersAndWriters.text_both}
use Rattle.batch_pipes.{proofs.Lists.at_place, proofs.Lists.both_more, proofs.Lists.both_set, proofs.Lists.first_set, proofs.Lists.length_more, proofs.Lists.one_of, proofs.Lists.same_set, proofs.Rings.pair_on, proofs.Rings.same_ring, proofs.ThreadStreams.text_grown, specs.Ended.IsGivenBack, specs.Ended.IsOutputTold, specs.OutputEnds.IsHandedBack, specs.OutputEnds.Results, specs.Outputs.AreEnding, specs.Outputs.AreOutputsKept, specs.Outputs.AreOutputsOf, specs.Outputs.AreOutputsOpened, specs.Outputs.AreSettled, specs.Outputs.AreSettledBy, specs.Outputs.Asked, specs.Outputs.IsEndOf, specs.Outputs.IsEnding, specs.Outputs.IsFinished, specs.Outputs.IsOutputAdded, specs.Outputs.IsOutputKept, specs.Outputs.IsOutputOf, specs.Outputs.IsSettled, specs.Outputs.IsSettledBy, specs.Outputs.IsTaskOf, specs.Outputs.asked_by, specs.Outputs.asked_of, specs.Streams.HoldsBeginning, specs.Streams.IsWrittenOf, specs.declared.outcome.OutputOutcome.OutputOutcome, specs.declared.outcome.OutputOutcome.TheVariants.Absent, specs.declared.outcome.OutputOutcome.TheVariants.Joined, specs.declared.outcome.OutputOutcome.TheVariants.Unjoined, specs.declared.output.Output.Output, specs.declared.output.OutputChild.OutputChild, specs.declared.writing.OutputEnd.OutputEnd, specs.declared.writing.OutputTask.OutputTask, specs.declared.written.Written.Written}

-- One output

-- the writer may have put more into its ring
pub output_on : {W P : Type 0} (is_result : Results W) (o : Output W P) (a b : Writer) → SameProducer a.ring b.ring
    → IsOutputOf is_result o a → IsOutputOf is_result o b
output_on is_result o a b same of = record {
  thread = IfSome_then o.child of.thread (λ child h. record {
    is_path = h.is_path;
    is_front = h.is_front;
    pair = pair_on a.ring.end b.ring.end child.handle.promise.task.value.ring.end child.handle.promise.task.value.ring.end same.0 (same_ring child.handle.promise.task.value.ring.end) h.pair;
    new = h.new;
  });
  ended = IfSome_then o.end of.ended (λ end h. record {
    path = h.path;
    is_path = h.is_path;
    pair = pair_on a.ring.end b.ring.end end.ring.end end.ring.end same.0 (same_ring end.ring.end) h.pair;
    result = h.result;
  });
  absent = of.absent;
}

-- All outputs

pub outputs_on : {W P : Type 0} (is_result : Results W) (outputs : List (Output W P)) (before after : List Writer)
    → length after ≡ length before → AreSameWriters before after → AreOutputsOf is_result outputs before → AreOutputsOf is_result outputs after
outputs_on is_result outputs before after count same of = record {
  count = of.count ∙ sym count;
  each = λ k o writer within.
      output_on is_result (get_or outputs k o) (get_or before k writer) (get_or after k writer) (same k writer (omega (arith, within, of.count))) (of.each k o writer within);
}

-- an output beside its writer
pub output_here : {W P : Type 0} (is_result : Results W) (outputs : List (Output W P)) (writers : List Writer) (i : ℕ) (output : Output W P)
    (writer : Writer) → i < length outputs → output ≡ get_or outputs i output → writer ≡ get_or writers i writer → AreOutputsOf is_result outputs writers
    → IsOutputOf is_result output writer
output_here {W} {P} is_result outputs writers i output writer within is at of =
    subst (λ (x : Output W P). IsOutputOf is_result x writer) (sym is)
    (subst (λ (w : Writer). IsOutputOf is_result (get_or outputs i output) w) (sym at) (of.each i output writer within))

-- one output was looked after
pub outputs_set : {W P : Type 0} (is_result : Results W) (outputs : List (Output W P)) (writers : List Writer) (i : ℕ) (output : Output W P)
    (writer : Writer) → i < length outputs → IsOutputOf is_result output writer → AreOutputsOf is_result outputs writers
    → AreOutputsOf is_result (set outputs i output) (set writers i writer)
outputs_set {W} {P} is_result outputs writers i output writer within here of = record {
  count = omega (arith, of.count, length-set {A = Output W P}, length-set {A = Writer});
  each = λ k other w below.
      both_set (λ (x : Output W P) (y : Writer). IsOutputOf is_result x y) outputs writers i output writer within of.count here of.each k other w
      (omega (arith, below, length-set {A = Output W P}));
}

pub outputs_as_they_are : {W P : Type 0} (is_result : Results W) (outputs : List (Output W P)) (writers : List Writer)
    → AreOutputsOf is_result outputs writers → AreOutputsKept is_result outputs outputs writers
outputs_as_they_are is_result outputs writers of = record { of = of; count = refl; asked = λ k o within. refl }

pub outputs_twice : {W P : Type 0} (is_result : Results W) (a b d : List (Output W P)) (x y : List Writer) → AreOutputsKept is_result a b x
    → AreOutputsKept is_result b d y → AreOutputsKept is_result a d y
outputs_twice is_result a b d x y one other = record {
  of = other.of;
  count = other.count ∙ one.count;
  asked = λ k o within. other.asked k o (omega (arith, within, one.count)) ∙ one.asked k o within;
}

-- Opening

pub outputs_more : {W P : Type 0} (is_result : Results W) (fronts : List (List ℕ)) (desks : List plans.Desk) (desk : plans.Desk) (front : List ℕ)
    (old new : List (Output W P)) (before after : List Writer) → AreOutputsOpened is_result fronts desks old before → front ≡ get_or fronts (length desks) []
    → IsOutputAdded is_result (asked_by desk front) old new before after → AreOutputsOpened is_result fronts (desks ++ desk ∷ []) new after
outputs_more {W} {P} is_result fronts desks desk front old new before after opened is_front added = record {
  of = record {
    count = omega (arith, opened.of.count, more, ap length added.writers, length_more before added.writer);
    each = λ k o writer below.
        subst (λ (l : List (Output W P)). IsOutputOf is_result (get_or l k o) (get_or after k writer)) (sym added.outputs)
        (subst (λ (l : List Writer). IsOutputOf is_result (get_or (old ++ added.output ∷ []) k o) (get_or l k writer)) (sym added.writers)
        (both_more (λ _ (x : Output W P) (y : Writer). IsOutputOf is_result x y) old before added.output added.writer opened.of.count added.of opened.of.each k o writer
        (omega (arith, below, more))));
  };
  count = omega (arith, opened.count, more, length_more desks desk);
  asked = λ k o other below.
      subst (λ (l : List (Output W P)). asked_of (get_or l k o) ≡ asked_by (get_or (desks ++ desk ∷ []) k other) (get_or fronts k [])) (sym added.outputs)
      (both_more (λ (j : ℕ) (x : Output W P) (y : plans.Desk). asked_of x ≡ asked_by y (get_or fronts j [])) old desks added.output desk opened.count
      (added.is_asked ∙ ap (asked_by desk) (is_front ∙ ap (λ n. get_or fronts n []) (sym opened.count))) (λ j p q lt. opened.asked j p q (omega (arith, lt, opened.count))) k o other
      (omega (arith, below, opened.count, length_more desks desk)));
}
  where
    more : length new ≡ length old + 1
    more = ap length added.outputs ∙ length_more old added.output

-- no output of no desk
pub outputs_none : {W P : Type 0} (is_result : Results W) (fronts : List (List ℕ)) (outputs : List (Output W P)) (writers : List Writer)
    → outputs ≡ [] → writers ≡ [] → AreOutputsOpened is_result fronts [] outputs writers
outputs_none is_result fronts outputs writers none nobody = record {
  of = record { count = ap length none ∙ sym (ap length nobody); each = λ k o writer below. absurd (omega (arith, below, ap length none)) };
  count = ap length none;
  asked = λ k o desk below. absurd (omega (arith, below));
}

-- an output whose thread was started
pub output_started : {W P : Type 0} (is_result : Results W) (o : Output W P) (task : OutputTask) (writer : Writer)
    → IsSome o.child → IfSome o.child (λ child. child.handle.promise.task.value ≡ task) → o.end ≡ None → asked_of o ≡ record { path = Some (string_bytes task.path); front = task.front.items }
    → received task.ring ≡ [] → IsPair writer.ring task.ring → IsOutputOf is_result o writer
output_started {W} {P} is_result o task writer there child end asked new pair = record {
  thread = IfSome_then o.child child (λ child is. subst (λ (t : OutputTask). IsTaskOf (asked_of o) t writer) (sym is)
      (record { is_path = ap (λ (a : Asked). a.path) asked; is_front = sym (ap (λ (a : Asked). a.front) asked); pair = pair; new = new }));
  ended = subst (λ (e : Option (OutputEnd W)). IfSome e (λ end. IsEndOf is_result (asked_of o) end writer)) (sym end) tt;
  absent = λ none no_end. absurd (false≢true (subst (λ (c : Option (OutputChild W P)). IsSome c) none there));
}

-- one of a desk that has none
pub output_missing : {W P : Type 0} (is_result : Results W) (o : Output W P) (writer : Writer) → o.child ≡ None → o.end ≡ None
    → (asked_of o).path ≡ None → IsOutputOf is_result o writer
output_missing {W} {P} is_result o writer child end path = record {
  thread = subst (λ (c : Option (OutputChild W P)). IfSome c (λ other. IsTaskOf (asked_of o) other.handle.promise.task.value writer)) (sym child) tt;
  ended = subst (λ (e : Option (OutputEnd W)). IfSome e (λ end. IsEndOf is_result (asked_of o) end writer)) (sym end) tt;
  absent = λ none no_end. path;
}

-- Their end

-- one of them is changed, of the same path and front
pub outputs_finished : {W P : Type 0} (is_result : Results W) (first now : List (Output W P)) (writers : List Writer) (i : ℕ) (old new : Output W P)
    (writer : Writer) → i < length now → old ≡ get_or now i old → ((w : Writer) → get_or writers i w ≡ writer)
    → IsOutputKept is_result old new writer → AreOutputsKept is_result first now writers
    → AreOutputsKept is_result first (set now i new) writers
outputs_finished {W} {P} is_result first now writers i old new writer within is at here so_far = record {
  of = record {
    count = omega (arith, so_far.of.count, length-set {A = Output W P});
    each = λ k o w below.
        first_set (λ (x : Output W P) (y : Writer). IsOutputOf is_result x y) now writers i (length now) new within
        (λ b. subst (λ (y : Writer). IsOutputOf is_result new y) (sym (at b)) here.of) (λ j x y lt apart. so_far.of.each j x y lt) k o w
        (omega (arith, below, length-set {A = Output W P}));
  };
  count = omega (arith, so_far.count, length-set {A = Output W P});
  asked = same_set asked_of first now i old new within so_far.count is here.asked so_far.asked;
}

pub settled_more : {W P : Type 0} (is_result : Results W) (outputs : List (Output W P)) (output : Output W P)
    (outcomes : List (OutputOutcome W P)) (w : OutputOutcome W P) → AreSettledBy is_result outputs outcomes → IsSettledBy is_result output w
    → AreSettledBy is_result (outputs ++ output ∷ []) (outcomes ++ w ∷ [])
settled_more {W} {P} is_result outputs output outcomes w settled here = record {
  count = omega (arith, length_more outcomes w, length_more outputs output, settled.count);
  each = λ k o v within.
      both_more (λ _ (x : Output W P) (y : OutputOutcome W P). IsSettledBy is_result x y) outputs outcomes output w (sym settled.count) here settled.each k o v
      (omega (arith, within, length_more outputs output));
}

-- the output behind those before it
pub ending_here : {W P : Type 0} (is_result : Results W) (all before : List (Output W P)) (output : Output W P) (behind : List (Output W P))
    → before ++ output ∷ behind ≡ all → AreEnding is_result all → IsEnding is_result output
ending_here {W} {P} is_result all before output behind is ending =
    subst (λ (o : Output W P). IsEnding is_result o) (ap (λ l. get_or l (length before) output) (sym is) ∙ at_place before output behind output)
    (ending (length before) output (omega (arith, ap length is, length-append before (output ∷ behind))))

-- each has ended
pub are_ending : {W P : Type 0} (is_result : Results W) (outputs : List (Output W P)) (writers : List Writer)
    → AreOutputsOf is_result outputs writers → ((k : ℕ) (o : Output W P) (w : Writer) → k < length outputs → IsFinished (get_or outputs k o) (get_or writers k w))
    → AreEnding is_result outputs
are_ending is_result outputs writers of finished = λ k o within.
    let writer : Writer = one_of writers k (omega (arith, within, of.count)) in
    (get_or writers k writer, of.each k o writer within, finished k o writer within)

-- their outcomes are those of the outputs that they were
pub settled_all : {W P : Type 0} (is_result : Results W) (old new : List (Output W P)) (writers : List Writer)
    (outcomes : List (OutputOutcome W P)) → AreOutputsKept is_result old new writers
    → ((k : ℕ) (o : Output W P) (w : Writer) → k < length new → IsFinished (get_or new k o) (get_or writers k w)) → AreSettledBy is_result new outcomes
    → AreSettled is_result old writers outcomes
settled_all {W} {P} is_result old new writers outcomes kept finished settled = record {
  count = settled.count ∙ kept.count;
  each = λ k o writer w within.
      let in_new : k < length new = omega (arith, within, kept.count) in
      subst (λ (a : Asked). IsSettled is_result a (get_or writers k writer) (get_or outcomes k w)) (kept.asked k o within)
      (settled.each k o w in_new (get_or writers k writer) (kept.of.each k o writer in_new) (finished k o writer in_new));
}

-- a desk that isn't cut, with an empty queue, was sent all lines that it is due but those left in the ring
is_told : {W : Type 0} (contents : W → Option (List ℕ)) (stood : Option (List ℕ)) (front : List ℕ) (due told lines rest : List (List ℕ)) (desk : ServedDesk) (w : Written W) (left : ℕ)
    → IsAccount due told desk.waiting → (desk.waiting.is_cut ≡ false → desk.waiting.lines ≡ []) → told ≡ lines ++ rest → length rest ≡ left
    → IsWrittenOf contents stood (front ++ lines_text lines) w → IsOutputTold contents stood front due desk w left
is_told contents stood front due told lines rest desk w left account none went count written = record {
  begun = IfSome_then w.output written.begun (λ output held. subst (λ (text : List ℕ). HoldsBeginning stood (contents output) text) (sym is)
      (text_grown stood (contents output) (front ++ lines_text lines) (lines_text (rest ++ account.rest)) held));
  whole = λ uncut well.
      let (output, there, appends) = written.whole well in
      (output, there, lines, rest, account.begins ∙ ap (λ l. told ++ l) (account.waits uncut ∙ none uncut) ∙ append-nil told ∙ went, count, appends);
  missing = written.missing;
}
  where
    is : front ++ lines_text due ≡ (front ++ lines_text lines) ++ lines_text (rest ++ account.rest)
    is =
        ap (λ (l : List (List ℕ)). front ++ lines_text l) (account.begins ∙ ap (λ l. l ++ account.rest) went ∙ append_assoc lines rest account.rest)
        ∙ ap (λ l. front ++ l) (text_both lines (rest ++ account.rest)) ∙ sym (append_assoc front (lines_text lines) (lines_text (rest ++ account.rest)))

pub is_given_back : {W P : Type 0} (contents : W → Option (List ℕ)) (stands : List ℕ → Option (List ℕ)) (hands_back : List ℕ → Written W → Type 0) (asked : Asked) (due : List (List ℕ))
    (writer : Writer) (desk : ServedDesk) (outcome : OutputOutcome W P) → IsAccount due (sent writer.ring) desk.waiting → (desk.waiting.is_cut ≡ false → desk.waiting.lines ≡ [])
    → IsSettled (IsHandedBack contents stands hands_back) asked writer outcome → IsGivenBack contents stands hands_back asked.path asked.front due desk outcome
is_given_back contents stands hands_back asked due writer desk Absent account none settled = settled
is_given_back contents stands hands_back asked due writer desk (Joined w left) account none joined = (
  joined.path,
  joined.is_path,
  joined.result.0,
  is_told contents (stands joined.path) asked.front due (sent writer.ring) joined.lines joined.rest desk w left account none joined.went joined.count joined.result.1,
)
is_given_back contents stands hands_back asked due writer desk (Unjoined thread) account none settled = settled

-- nothing is given back of a desk that has no output
pub nothing_back : {W P : Type 0} (contents : W → Option (List ℕ)) (stands : List ℕ → Option (List ℕ)) (hands_back : List ℕ → Written W → Type 0) (front : List ℕ) (due : List (List ℕ))
    (desk : ServedDesk) (outcome : OutputOutcome W P) → IsGivenBack contents stands hands_back None front due desk outcome → outcome ≡ Absent
nothing_back contents stands hands_back front due desk Absent back = refl
nothing_back contents stands hands_back front due desk (Joined w left) back = let (at, none, handed, told) = back in absurd cc
nothing_back contents stands hands_back front due desk (Unjoined thread) back = absurd cc
