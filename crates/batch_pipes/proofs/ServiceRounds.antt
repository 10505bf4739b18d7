-- Rounds lead a service on.
use Rattle.std.proofs.Common.{◌≡◌, ◌<◌, ℕ, zero, suc, Bool, true, false, List, [], ◌∷◌, ◌++◌, length, get_or, flat_map, map, Option, None, Result, Ok, Err, OnOk, codes, decimal, inl, inr, refl, sym, ap, subst, arith, append-nil, ◌∙◌}
use Rattle.std.{proofs.lemmas.Grind.flat_map-append, proofs.lemmas.List.Elements.All-append, proofs.lemmas.List.Elements.All-nil, proofs.KnownBytes.Appends-nil, proofs.KnownBytes.Appends-trans, specs.Io.KnownBytes.Appends}
use Rattle.batch_engine.specs.View.{EngineView, plant_of, setup}
use Rattle.rtrb.specs.Ring.{received, sent}
use Rattle.batch_serve.{specs.Rounds.AreGathered, specs.Rounds.IsHandedOver, specs.Rounds.IsTextOfMessages, specs.Rounds.text_sent, specs.Runs.AreOfDesks, specs.Runs.Run, specs.Runs.due_of, specs.Runs.last_of, specs.Runs.own_text, specs.Runs.runs_text, specs.Served.AreServed, specs.Turns.IsSameBut, specs.Turns.IsTurned, specs.Waits.IsAccount, specs.declared.desk.ServedDesk.ServedDesk, specs.declared.desk_server.DeskServer.DeskServer, specs.declared.rounds.Reader.Reader, specs.declared.rounds.ReaderMessage.ReaderMessage, specs.declared.rounds.Writer.Writer, proofs.DeskLines.lines_go_on, proofs.RunTexts.texts_go_on, proofs.ServerAccounts.last_same, proofs.ServerAccounts.life_turned, proofs.ServerAccounts.lives_take, specs.Comments.time_text}
use Rattle.batch_reader.specs.DeskNames.{desk_names}
use Rattle.batch_reader.specs.declared.desk.Desk as plans
use Rattle.batch_pipes.{proofs.ReaderMessages.input_begins, proofs.ReaderMessages.no_text, proofs.ReaderMessages.own_begun, proofs.ReaderMessages.own_whole, proofs.Lists.one_of, proofs.WriterOutputs.is_given_back, specs.Ended.AreDesksEnded, specs.Ended.IsGivenBack, specs.Inputs.AreInputsOf, specs.Inputs.InputsGoOn, specs.Kept.AreDone, specs.Kept.AreReadersKept, specs.Kept.ArePortsOf, specs.Kept.AreSameDesks, specs.Opened.IsOpened, specs.OutputEnds.IsHandedBack, specs.Outputs.AreOutputsKept, specs.Outputs.AreOutputsOpened, specs.Outputs.AreSettled, specs.Outputs.Asked, specs.Outputs.asked_by, specs.Outputs.asked_of, specs.Service.AppendsTime, specs.Service.AppendsTimed, specs.Service.AreDesksServed, specs.Service.AreTimes, specs.Service.IsService, specs.Service.IsTime, specs.Service.Opening, specs.Service.RecordPart, specs.Service.Rings, specs.Service.without_record, specs.Service.came_from, specs.Service.rings_of, specs.Service.told_to, specs.declared.input_order.InputOrder.InputOrder, specs.declared.outcome.OutputOutcome.OutputOutcome, specs.declared.output.Output.Output, specs.declared.ports.Ports.Ports, specs.declared.written.Written.Written}
use Rattle.batch_wire.specs.Written.{Writes}

-- Texts with times

times_both : (times : Bool) (xs ys : List RecordPart) → AreTimes times xs → AreTimes times ys → AreTimes times (xs ++ ys)
times_both times [] ys one other = other
times_both times (x ∷ xs) ys one other = (one.0, times_both times xs ys one.1 other)

pub timed_more : (times : Bool) (before mid after : Option (List ℕ)) (text comment more : List ℕ) → AppendsTimed times before mid text → IsTime times comment
    → Appends mid after (comment ++ more) → AppendsTimed times before after (text ++ more)
timed_more times before mid after text comment more so_far is_time appends =
    let part : RecordPart = record { comment = comment; text = more } in
    record {
      all = so_far.all ++ (comment ++ more);
      appends = Appends-trans before mid after so_far.all (comment ++ more) so_far.appends appends;
      timed = record {
        parts = so_far.timed.parts ++ part ∷ [];
        comments = times_both times so_far.timed.parts (part ∷ []) so_far.timed.comments (is_time, tt);
        is_text = ap (λ l. l ++ more) so_far.timed.is_text ∙ ap (λ l. flat_map (λ (p : RecordPart). p.text) so_far.timed.parts ++ l) (sym (append-nil more))
            ∙ sym (flat_map-append (λ (p : RecordPart). p.text) so_far.timed.parts (part ∷ []));
        is_all = ap (λ l. l ++ (comment ++ more)) so_far.timed.is_all
            ∙ ap (λ l. flat_map (λ (p : RecordPart). p.comment ++ p.text) so_far.timed.parts ++ l) (sym (append-nil (comment ++ more)))
            ∙ sym (flat_map-append (λ (p : RecordPart). p.comment ++ p.text) so_far.timed.parts (part ∷ []));
      };
    }

pub timed_nothing : (times : Bool) (contents : Option (List ℕ)) → AppendsTimed times contents contents []
timed_nothing times contents =
    record { all = []; appends = Appends-nil contents; timed = record { parts = []; comments = tt; is_text = refl; is_all = refl } }

-- The time of a turn

pub no_time : (times : Bool) (contents : Option (List ℕ)) → AppendsTime times contents contents
no_time times contents = ([], inl refl, Appends-nil contents)

pub time_written : {E : Type 0} (times : Bool) (old new : Option (List ℕ)) (milliseconds : ℕ) (r : Result (Unit {0}) E) → times ≡ true
    → OnOk r (Appends old new (time_text milliseconds)) → OnOk r (AppendsTime times old new)
time_written times old new milliseconds (Ok u) asked written = (time_text milliseconds, inr (asked, (milliseconds, refl)), written)
time_written times old new milliseconds (Err e) asked written = tt

-- the comment is written in three parts
pub time_joined : {E : Type 0} (old head mid new : Option (List ℕ)) (digits : List ℕ) (milliseconds : ℕ) (r : Result (Unit {0}) E) → Appends old head (codes "# at ")
    → digits ≡ decimal milliseconds → Appends head mid digits → Writes mid new r (10 ∷ []) → OnOk r (Appends old new (time_text milliseconds))
time_joined old head mid new digits milliseconds (Ok u) begun is more ended =
    Appends-trans old head new (codes "# at ") (decimal milliseconds ++ 10 ∷ []) begun
    (Appends-trans head mid new (decimal milliseconds) (10 ∷ []) (subst (Appends head mid) is more) ended)
time_joined old head mid new digits milliseconds (Err e) begun is more ended = tt

-- Steps of a round

of_one : {A B : Type 0} (f : A → B) (xs : List A) (k : ℕ) (x : A) (none : B) → k < length xs → get_or (map f xs) k none ≡ f (get_or xs k x)
of_one f [] k x none within = absurd (omega (arith, within))
of_one f (y ∷ xs) zero x none within = refl
of_one f (y ∷ xs) (suc k) x none within = of_one f xs k x none (omega (arith, within))

told_at : (writers : List Writer) (k : ℕ) (writer : Writer) → k < length writers → told_to writers k ≡ sent (get_or writers k writer).ring
told_at writers k writer within = of_one (λ (w : Writer). sent w.ring) writers k writer [] within

came_at : {O : Type 0} (readers : List (Reader O)) (k : ℕ) (reader : Reader O) → k < length readers → came_from readers k ≡ received (get_or readers k reader).ring
came_at {O} readers k reader within = of_one (λ (r : Reader O). received r.ring) readers k reader [] within

-- lines are taken from readers
pub service_gathered : {K O : Type 0} (is_safe : K → Type 0) (allows : List ReaderMessage → ReaderMessage → Type 0) (keeper : K) (times : Bool) (begun : Opening) (kept : List ℕ)
    (recorded : Option (List ℕ)) (old new : DeskServer) (told : ℕ → List (List ℕ)) (before after : List (Reader O)) → IsSameBut old new
    → AreGathered allows old.desks.items before after old.group.items new.group.items → length before ≡ length old.desks.items
    → IsService times begun (is_safe keeper) kept recorded old (record { told = told; came = came_from before })
    → IsService times begun (is_safe keeper) kept recorded new (record { told = told; came = came_from after })
service_gathered {K} {O} is_safe allows keeper times begun kept recorded old new told before after same gathered count s = record {
  runs = s.runs;
  answers = s.answers;
  names = same.names ∙ s.names;
  life = lives_take is_safe keeper (without_record begun) s.runs s.answers (record { kept = kept; recorded = None; told = told }) old new s.life same;
  is_recorded = subst (λ (n : List (List ℕ)). AppendsTimed times begun.recorded recorded (runs_text n None s.answers)) (sym same.names) s.is_recorded;
  of_desks = (
    subst (λ (l : List ServedDesk). AreOfDesks (length l) s.runs) (sym same.desks) s.of_desks.0,
    subst (λ (l : List ServedDesk). AreOfDesks (length l) new.group.items) (sym same.desks) (gathered.of_desks s.of_desks.1),
  );
  lines = λ k desk within.
      let in_old : k < length old.desks.items = omega (arith, within, ap length same.desks) in
      let in_before : k < length before = omega (arith, in_old, count) in
      let reader : Reader O = one_of before k in_before in
      let is_cut : Bool = (get_or old.desks.items k desk).waiting.is_cut in
      subst (λ (l : List ServedDesk). IsTextOfMessages (came_from after k) (get_or l k desk).waiting.is_cut (own_text k (s.runs ++ new.group.items))) (sym same.desks)
      (subst (λ l. IsTextOfMessages l is_cut (own_text k (s.runs ++ new.group.items))) (sym (came_at after k reader (omega (arith, in_before, gathered.count))))
      (lines_go_on {O = O} allows k is_cut s.runs old.group.items new.group.items (get_or before k reader) (get_or after k reader)
      (subst (λ l. IsTextOfMessages l is_cut (own_text k (s.runs ++ old.group.items))) (came_at before k reader in_before) (s.lines k desk in_old)) (gathered.each k reader desk in_before)));
}

-- the desk may be cut now
text_cut : (came : List ReaderMessage) (was_cut is_cut : Bool) (text : List ℕ) → (is_cut ≡ false → was_cut ≡ false) → IsTextOfMessages came was_cut text → IsTextOfMessages came is_cut text
text_cut came was_cut is_cut text cut t =
    record { taken = t.taken; dropped = t.dropped; came_is = t.came_is; text_is = t.text_is; all = λ uncut. t.all (cut uncut) }

-- a turn is made, behind a comment or none
pub service_turned : {K : Type 0} (is_safe : K → Type 0) (keeper after_keeper : K) (times : Bool) (begun : Opening) (kept kept_after : List ℕ) (recorded mid recorded_after : Option (List ℕ))
    (comment : List ℕ) (old new : DeskServer) (rings : Rings) → (is_safe after_keeper → is_safe keeper)
    → IsTurned old new (is_safe after_keeper) kept kept_after begun.again mid recorded_after → IsTime times comment → Appends recorded mid comment
    → IsService times begun (is_safe keeper) kept recorded old rings → IsService times begun (is_safe after_keeper) kept_after recorded_after new rings
service_turned is_safe keeper after_keeper times begun kept kept_after recorded mid recorded_after comment old new rings stays turn is_time commented s =
    let untold : IsTurned old new (is_safe after_keeper) kept kept_after begun.again None None = record {
      answers = turn.answers;
      kept = turn.kept;
      served = turn.served;
      whole = turn.whole;
      well = turn.well;
      recorded = tt;
      told = turn.told;
      last = turn.last;
      group = turn.group;
      cleared = turn.cleared;
      names = turn.names;
    } in
    let names : List (List ℕ) = old.names.items in
    let last : old.last ≡ last_of None s.answers = s.life.last ∙ sym (last_same (setup begun.set) begun.plant (plant_of old.engine) None s.runs s.answers s.life.served) in
    let more : List ℕ = runs_text names old.last turn.answers in
    let appends : Appends recorded recorded_after (comment ++ more) = Appends-trans recorded mid recorded_after comment more commented turn.recorded in
    let text : runs_text names None s.answers ++ more ≡ runs_text new.names.items None (s.answers ++ turn.answers) =
    ap (λ (o : Option ℕ). runs_text names None s.answers ++ runs_text names o turn.answers) last ∙ sym (texts_go_on names None 0 None s.answers turn.answers).text
    ∙ ap (λ (n : List (List ℕ)). runs_text n None (s.answers ++ turn.answers)) (sym turn.names) in
    record {
      runs = s.runs ++ old.group.items;
      answers = s.answers ++ turn.answers;
      names = turn.names ∙ s.names;
      life = life_turned is_safe keeper after_keeper (without_record begun) kept_after None s.runs s.answers
          (record { kept = kept; recorded = None; told = rings.told }) old new s.life stays untold;
      is_recorded = subst (AppendsTimed times begun.recorded recorded_after) text
          (timed_more times begun.recorded recorded recorded_after (runs_text names None s.answers) comment more s.is_recorded is_time appends);
      of_desks = (
        subst (λ (n : ℕ). AreOfDesks n (s.runs ++ old.group.items)) (sym turn.told.count)
            (All-append (λ (run : Run). run.desk < length old.desks.items) s.runs old.group.items s.of_desks.0 s.of_desks.1),
        subst (λ (l : List Run). AreOfDesks (length new.desks.items) l) (sym turn.group) (All-nil (λ (run : Run). run.desk < length new.desks.items)),
      );
      lines = λ k desk within.
          let in_old : k < length old.desks.items = omega (arith, within, turn.told.count) in
          subst (λ l. IsTextOfMessages (rings.came k) (get_or new.desks.items k desk).waiting.is_cut (own_text k l))
          (sym (ap (λ (g : List Run). (s.runs ++ old.group.items) ++ g) turn.group ∙ append-nil (s.runs ++ old.group.items)))
          (text_cut (rings.came k) _ _ _ (turn.told.each k desk in_old).cut (s.lines k desk in_old));
    }

-- queued lines are handed on, or desks are cut, and nothing is taken from readers
pub service_handed : {K P : Type 0} (is_safe : K → Type 0) (keeper : K) (times : Bool) (begun : Opening) (kept : List ℕ) (recorded : Option (List ℕ)) (old new : DeskServer)
    (before after : Ports P) → IsHandedOver old new before.writers.items after.writers.items → AreReadersKept before.readers.items after.readers.items
    → ArePortsOf old.desks.items before
    → IsService times begun (is_safe keeper) kept recorded old (rings_of before) → IsService times begun (is_safe keeper) kept recorded new (rings_of after)
service_handed {K} {P} is_safe keeper times begun kept recorded old new before after handed readers of s = record {
  runs = s.runs;
  answers = s.answers;
  names = handed.names ∙ s.names;
  life = record {
    cleared = ap (λ (e : EngineView). e.cleared) handed.engine ∙ s.life.cleared;
    served = subst (λ (e : EngineView). AreServed (setup begun.set) begun.plant s.runs s.answers (plant_of e)) (sym handed.engine) s.life.served;
    whole = s.life.whole;
    well = s.life.well;
    last = handed.last ∙ s.life.last;
    is_kept = λ safe. s.life.is_kept safe ∙ ap (λ (n : List (List ℕ)). begun.kept ++ runs_text n None s.runs) (sym handed.names);
    is_recorded = tt;
    each = λ desk other within. handed_on desk other (omega (arith, within, handed.handed.count));
  };
  is_recorded = subst (λ (n : List (List ℕ)). AppendsTimed times begun.recorded recorded (runs_text n None s.answers)) (sym handed.names) s.is_recorded;
  of_desks = (
    subst (λ (n : ℕ). AreOfDesks n s.runs) (sym handed.handed.count) s.of_desks.0,
    subst (λ (n : ℕ). AreOfDesks n new.group.items) (sym handed.handed.count)
        (subst (λ (l : List Run). AreOfDesks (length old.desks.items) l) (sym handed.group) s.of_desks.1),
  );
  lines = λ k desk within.
      let in_old : k < length old.desks.items = omega (arith, within, handed.handed.count) in
      let in_writers : k < length before.writers.items = omega (arith, in_old, of.writers) in
      let in_readers : k < length before.readers.items = omega (arith, in_old, of.readers) in
      let writer : Writer = one_of before.writers.items k in_writers in
      let reader : Reader (InputOrder P) = one_of before.readers.items k in_readers in
      let came : came_from before.readers.items k ≡ came_from after.readers.items k =
      came_at before.readers.items k reader in_readers ∙ sym (readers.each k reader in_readers).ring ∙ sym (came_at after.readers.items k reader (omega (arith, in_readers, readers.count))) in
      subst (λ l. IsTextOfMessages (came_from after.readers.items k) (get_or new.desks.items k desk).waiting.is_cut (own_text k (s.runs ++ l))) (sym handed.group)
      (subst (λ l. IsTextOfMessages l (get_or new.desks.items k desk).waiting.is_cut (own_text k (s.runs ++ old.group.items))) came
      (text_cut (came_from before.readers.items k) _ _ _ (handed.handed.each k desk writer in_writers).cut (s.lines k desk in_old)));
}
  where
    handed_on : (k : ℕ) (other : ServedDesk) → k < length old.desks.items
        → IsAccount (due_of k (get_or new.desks.items k other).unit s.answers) (told_to after.writers.items k) (get_or new.desks.items k other).waiting
    handed_on k other in_old =
        let in_writers : k < length before.writers.items = omega (arith, in_old, of.writers) in
        let in_after : k < length after.writers.items = omega (arith, in_writers, handed.handed.writers) in
        let writer : Writer = one_of before.writers.items k in_writers in
        let one = handed.handed.each k other writer in_writers in
        let all : List (List ℕ) = due_of k (get_or old.desks.items k other).unit s.answers in
        let was : IsAccount all (sent (get_or before.writers.items k writer).ring) (get_or old.desks.items k other).waiting =
        subst (λ (l : List (List ℕ)). IsAccount all l (get_or old.desks.items k other).waiting) (told_at before.writers.items k writer in_writers) (s.life.each k other in_old) in
        subst (λ (u : Option (List ℕ)). IsAccount (due_of k u s.answers) (told_to after.writers.items k) (get_or new.desks.items k other).waiting) (sym one.unit)
        (subst (λ (l : List (List ℕ)). IsAccount all l (get_or new.desks.items k other).waiting) (sym (told_at after.writers.items k writer in_after)) (one.account all was))

-- it begins with desks whose rings are made
pub service_begins : {K P : Type 0} (is_safe : K → Type 0) (keeper : K) (times : Bool) (begun : Opening) (engine : EngineView) (desks : List plans.Desk) (s : DeskServer) (p : Ports P)
    → engine.cleared ≡ begun.set → plant_of engine ≡ begun.plant → desk_names desks ≡ begun.names → ArePortsOf s.desks.items p → length s.desks.items ≡ length desks
    → IsOpened engine desks s p
    → IsService times begun (is_safe keeper) begun.kept begun.recorded s (rings_of p)
service_begins {K} {P} is_safe keeper times begun engine desks s p cleared plant named of as_many opened = record {
  runs = [];
  answers = [];
  names = opened.names ∙ named;
  life = record {
    cleared = ap (λ (e : EngineView). e.cleared) opened.engine_is ∙ cleared;
    served = (refl, ap plant_of opened.engine_is ∙ plant);
    whole = λ again. tt;
    well = λ again. tt;
    last = opened.last;
    is_kept = λ safe. sym (append-nil begun.kept);
    is_recorded = tt;
    each = λ desk other within. record {
      rest = [];
      begins = sym (nothing_told desk within);
      waits = λ uncut. sym (opened.empty.waits desk other within);
    };
  };
  is_recorded = timed_nothing times begun.recorded;
  of_desks = (
    All-nil (λ (run : Run). run.desk < length s.desks.items),
    subst (λ (l : List Run). AreOfDesks (length s.desks.items) l) (sym opened.group) (All-nil (λ (run : Run). run.desk < length s.desks.items)),
  );
  lines = λ k desk within.
      let in_readers : k < length p.readers.items = omega (arith, within, of.readers) in
      let reader : Reader (InputOrder P) = one_of p.readers.items k in_readers in
      let plan : plans.Desk = one_of desks k (omega (arith, within, as_many)) in
      record {
        taken = came_from p.readers.items k;
        dropped = [];
        came_is = sym (append-nil (came_from p.readers.items k));
        text_is = ap (own_text k) opened.group ∙ sym (ap text_sent (came_at p.readers.items k reader in_readers) ∙ no_text _ _ (opened.empty.came k plan reader within).came);
        all = λ uncut. refl;
      };
}
  where
    nothing_told : (k : ℕ) → k < length s.desks.items → told_to p.writers.items k ++ [] ≡ []
    nothing_told k within =
        let in_writers : k < length p.writers.items = omega (arith, within, of.writers) in
        let writer : Writer = one_of p.writers.items k in_writers in
        append-nil (told_to p.writers.items k) ∙ told_at p.writers.items k writer in_writers ∙ opened.empty.went k writer within

-- its outcome
pub service_ends : {K : Type 0} (is_safe : K → Type 0) (keeper : K) (times : Bool) (begun : Opening) (kept : List ℕ) (recorded : Option (List ℕ)) (s : DeskServer) (p : Rings)
    → IsService times begun (is_safe keeper) kept recorded s p → AreDesksServed times begun (is_safe keeper) kept recorded
service_ends is_safe keeper times begun kept recorded s p service = record {
  runs = service.runs;
  answers = service.answers;
  new = plant_of s.engine;
  served = service.life.served;
  whole = service.life.whole;
  well = service.life.well;
  is_kept = λ safe. service.life.is_kept safe ∙ ap (λ (n : List (List ℕ)). begun.kept ++ runs_text n None service.runs) service.names;
  is_recorded = subst (λ (n : List (List ℕ)). AppendsTimed times begun.recorded recorded (runs_text n None service.answers)) service.names service.is_recorded;
}

-- its outcome for each desk
pub desks_end : {K P W : Type 0} (is_safe : K → Type 0) (keeper : K) (times : Bool) (begun : Opening) (given stands : List ℕ → Option (List ℕ)) (contents : W → Option (List ℕ))
    (hands_back : List ℕ → Written W → Type 0) (fronts : List (List ℕ)) (listed : List plans.Desk) (kept : List ℕ) (recorded : Option (List ℕ)) (engine : EngineView) (s0 s : DeskServer) (p0 p : Ports P)
    (first_outputs outputs : List (Output W P)) (outcomes : List (OutputOutcome W P)) → IsService times begun (is_safe keeper) kept recorded s (rings_of p)
    → s.group.items ≡ [] → ArePortsOf s.desks.items p → IsOpened engine listed s0 p0 → AreSameDesks s0.desks.items s.desks.items → InputsGoOn given p0.readers.items p.readers.items
    → length s0.desks.items ≡ length listed → length p0.readers.items ≡ length listed → AreOutputsOpened (IsHandedBack contents stands hands_back) fronts listed first_outputs p0.writers.items
    → AreOutputsKept (IsHandedBack contents stands hands_back) first_outputs outputs p.writers.items → AreSettled (IsHandedBack contents stands hands_back) outputs p.writers.items outcomes → AreDone s.desks.items p.readers.items
    → AreDesksEnded times begun given stands contents hands_back fronts listed s.desks.items outcomes (is_safe keeper) kept recorded
unfolding service_ends
desks_end {K} {P} {W} is_safe keeper times begun given stands contents hands_back fronts listed kept recorded engine s0 s p0 p first_outputs outputs outcomes service group of opened_on same go_on
    as_many read outputs_opened output_kept settled done = record {
      service = service_ends is_safe keeper times begun kept recorded s (rings_of p) service;
      count = count;
      of_desks = subst (λ (n : ℕ). AreOfDesks n service.runs) count service.of_desks.0;
      own = λ k plan desk within.
          let in_desks : k < length s.desks.items = omega (arith, within, count) in
          let in_readers : k < length p.readers.items = omega (arith, in_desks, of.readers) in
          let reader : Reader (InputOrder P) = one_of p.readers.items k in_readers in
          let is_cut : Bool = (get_or s.desks.items k desk).waiting.is_cut in
          let input = inputs.each k plan reader within in
          let text : IsTextOfMessages (received (get_or p.readers.items k reader).ring) is_cut (own_text k service.runs) =
          subst (λ l. IsTextOfMessages l is_cut (own_text k service.runs)) (came_at p.readers.items k reader in_readers)
          (subst (λ l. IsTextOfMessages (came_from p.readers.items k) is_cut (own_text k l)) (ap (λ g. service.runs ++ g) group ∙ append-nil service.runs) (service.lines k desk in_desks)) in
          record {
            whole = own_whole given _ (get_or p.readers.items k reader) is_cut _ input text;
            begun = λ bytes known. own_begun given _ (get_or p.readers.items k reader) is_cut _ bytes input text (λ uncut. (done k desk reader in_desks uncut).0) known;
          };
      outputs = settled.count ∙ output_kept.count ∙ outputs_opened.count;
      told = λ k plan desk w within.
          let in_desks : k < length s.desks.items = omega (arith, within, count) in
          let in_writers : k < length p.writers.items = omega (arith, in_desks, of.writers) in
          let in_first : k < length first_outputs = omega (arith, within, outputs_opened.count) in
          let in_outputs : k < length outputs = omega (arith, in_first, output_kept.count) in
          let writer : Writer = one_of p.writers.items k in_writers in
          let o : Output W P = one_of outputs k in_outputs in
          let output : Output W P = get_or outputs k o in
          let at : ServedDesk = get_or s.desks.items k desk in
          let asked : asked_of output ≡ asked_by (get_or listed k plan) (get_or fronts k []) = output_kept.asked k o in_first ∙ outputs_opened.asked k o plan within in
          let unit : at.unit ≡ (get_or listed k plan).unit =
          same.units k desk (omega (arith, in_desks, same.count)) ∙ opened_on.units k desk plan (omega (arith, in_desks, same.count)) in
          let account : IsAccount (due_of k at.unit service.answers) (sent (get_or p.writers.items k writer).ring) at.waiting =
          subst (λ (l : List (List ℕ)). IsAccount (due_of k at.unit service.answers) l at.waiting) (told_at p.writers.items k writer in_writers) (service.life.each k desk in_desks) in
          let outcome : OutputOutcome W P = get_or outcomes k w in
          subst (λ (a : Asked). IsGivenBack contents stands hands_back a.path a.front (due_of k (get_or listed k plan).unit service.answers) at outcome) asked
          (subst (λ (u : Option (List ℕ)). IsGivenBack contents stands hands_back (asked_of output).path (asked_of output).front (due_of k u service.answers) at outcome) unit
          (is_given_back contents stands hands_back (asked_of output) (due_of k at.unit service.answers) (get_or p.writers.items k writer) at outcome account
          (λ uncut. (done k desk (one_of p.readers.items k (omega (arith, in_desks, of.readers))) in_desks uncut).1) (settled.each k o writer w in_outputs)));
    }
  where
    count : length s.desks.items ≡ length listed
    count = same.count ∙ as_many

    inputs : AreInputsOf given listed p.readers.items
    inputs = go_on listed (record {
      count = read;
      each = λ k plan reader within. input_begins given _ (get_or p0.readers.items k reader) (opened_on.empty.came k plan reader (omega (arith, within, as_many)));
    })
