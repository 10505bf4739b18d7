-- Desks and readers that are left as they were, and desks to which more was handed on.
use Rattle.std.proofs.Common.{◌≡◌, ◌≢◌, ◌<◌, ◌≤◌, ◌+◌, ◌⊎◌, ◌||◌, Bool, true, false, List, ℕ, length, get_or, set, refl, sym, ap, ◌∙◌, subst, arith, inl, inr, get_or-set_other, get_or-set_same}
use Rattle.std.proofs.lemmas.Bool.{cases_lt, false≢true}
use Rattle.rtrb.specs.Ring.{SameProducer, sent}
use Rattle.batch_serve.{specs.Rounds.AreHandedOn, specs.Rounds.AreSameWriters, specs.Rounds.IsHandedOn, specs.Runs.Run, specs.Told.AreDesksTold, specs.Waits.IsAccount, specs.declared.desk.ServedDesk.ServedDesk, specs.declared.rounds.Reader.Reader, specs.declared.rounds.Writer.Writer, proofs.DeskLines.was_here}
use Rattle.batch_pipes.{proofs.Lists.one_of, proofs.Rings.producer_on, proofs.Rings.same_ring, specs.Kept.AreReadersKept, specs.Kept.AreSameDesks, specs.Kept.IsDeskKept, specs.Kept.IsDone, specs.Kept.IsReaderKept}

pub kept_as_it_is : (desk : ServedDesk) → IsDeskKept desk desk
kept_as_it_is desk = record { unit = refl; cut = λ uncut. uncut; waits = λ _. refl; account = λ all told h. h }

-- it is cut now
pub kept_but_cut : (old new : ServedDesk) → new.unit ≡ old.unit → old.waiting.is_cut ≡ false → new.waiting.is_cut ≡ true
    → ((all told : List (List ℕ)) → IsAccount all told old.waiting → IsAccount all told new.waiting) → IsDeskKept old new
kept_but_cut old new unit uncut cut account =
    record { unit = unit; cut = λ _. uncut; waits = λ still. absurd (false≢true (sym still ∙ cut)); account = account }

pub kept_twice : (a b d : ServedDesk) → IsDeskKept a b → IsDeskKept b d → IsDeskKept a d
kept_twice a b d one other = record {
  unit = other.unit ∙ one.unit;
  cut = λ uncut. one.cut (other.cut uncut);
  waits = λ uncut. other.waits uncut ∙ one.waits (other.cut uncut);
  account = λ all told h. other.account all told (one.account all told h);
}

pub handed_nothing : (desk : ServedDesk) (writer : Writer) → IsHandedOn desk desk writer writer
handed_nothing desk writer = record { ring = (same_ring writer.ring.end, refl); unit = refl; cut = λ uncut. uncut; account = λ all h. h }

-- more is handed on
pub handed_more : (a b d : ServedDesk) (x y z : Writer) → IsHandedOn a b x y → IsHandedOn b d y z → IsHandedOn a d x z
handed_more a b d x y z one other = record {
  ring = producer_on x.ring y.ring z.ring one.ring other.ring;
  unit = other.unit ∙ one.unit;
  cut = λ uncut. one.cut (other.cut uncut);
  account = λ all h. other.account all (one.account all h);
}

-- and then the desk may be cut
pub handed_then_kept : (a b d : ServedDesk) (x y z : Writer) → IsHandedOn a b x y → SameProducer y.ring z.ring → sent z.ring ≡ sent y.ring → IsDeskKept b d → IsHandedOn a d x z
handed_then_kept a b d x y z one ring same other = record {
  ring = producer_on x.ring y.ring z.ring one.ring ring;
  unit = other.unit ∙ one.unit;
  cut = λ uncut. one.cut (other.cut uncut);
  account = λ all h. other.account all (sent z.ring) (subst (λ (l : List (List ℕ)). IsAccount all l b.waiting) (sym same) (one.account all h));
}

-- some of the queued lines went into the ring
pub handed_some : (old new : ServedDesk) (before after : Writer) → SameProducer before.ring after.ring → new.unit ≡ old.unit → new.waiting.is_cut ≡ old.waiting.is_cut
    → ((all : List (List ℕ)) → IsAccount all (sent before.ring) old.waiting → IsAccount all (sent after.ring) new.waiting) → IsHandedOn old new before after
handed_some old new before after ring unit same account = record { ring = ring; unit = unit; cut = λ uncut. sym same ∙ uncut; account = account }

-- one reader more is left as it was
pub readers_more : {O : Type 0} (first now : List (Reader O)) (i : ℕ) (old new : Reader O) → i < length now → old ≡ get_or now i old → IsReaderKept old new
    → ((k : ℕ) (reader : Reader O) → k < i → IsReaderKept (get_or first k reader) (get_or now k reader))
    → ((k : ℕ) (reader : Reader O) → i ≤ k → get_or now k reader ≡ get_or first k reader)
    → (k : ℕ) (reader : Reader O) → k < i + 1 → IsReaderKept (get_or first k reader) (get_or (set now i new) k reader)
readers_more {O} first now i old new within is kept so_far rest k reader below = go (cases_lt k i)
  where
    go : (k < i) ⊎ (i ≤ k) → IsReaderKept (get_or first k reader) (get_or (set now i new) k reader)
    go (inl lt) =
        let apart : k ≢ i = omega arith in
        subst (λ (r : Reader O). IsReaderKept (get_or first k reader) r) (sym (get_or-set_other now i k new reader apart)) (so_far k reader lt)
    go (inr le) =
        let at : k ≡ i = omega arith in
        subst (λ (r : Reader O). IsReaderKept r (get_or (set now i new) k reader))
        (sym (ap (λ n. get_or first n reader) at ∙ was_here first now i old reader within is (rest i reader (omega arith))))
        (subst (IsReaderKept old) (sym (ap (λ n. get_or (set now i new) n reader) at ∙ get_or-set_same now i new reader within)) kept)

pub readers_as_they_are : {O : Type 0} (readers : List (Reader O)) → AreReadersKept readers readers
readers_as_they_are readers = record { count = refl; each = λ k reader within. record { ring = refl; ended = refl } }

-- neither of two, where not one of them
neither : (a b c : Bool) → c ≡ (a || b) → c ≡ false → (a ≡ false) × (b ≡ false)
neither false b c is none = (refl, sym is ∙ none)
neither true b c is none = absurd (false≢true (sym none ∙ is))

-- one desk more is done, if none of them has more to come
pub done_more : {O : Type 0} (desks : List ServedDesk) (readers : List (Reader O)) (i : ℕ) (desk : ServedDesk) (reader : Reader O) (sends waits more_sends more_waits all_sends all_waits : Bool)
    → i < length desks → i < length readers → all_sends ≡ (sends || more_sends) → all_waits ≡ (waits || more_waits)
    → (more_sends ≡ false → more_waits ≡ false → IsDone desk reader)
    → (sends ≡ false → waits ≡ false → (k : ℕ) (d : ServedDesk) (r : Reader O) → k < i → IsDone (get_or desks k d) (get_or readers k r))
    → all_sends ≡ false → all_waits ≡ false → (k : ℕ) (d : ServedDesk) (r : Reader O) → k < i + 1 → IsDone (get_or (set desks i desk) k d) (get_or (set readers i reader) k r)
done_more {O} desks readers i desk reader sends waits more_sends more_waits all_sends all_waits in_desks in_readers sends_is waits_is here so_far no_sends no_waits k d r below = go (cases_lt k i)
  where
    none_sends : (sends ≡ false) × (more_sends ≡ false)
    none_sends = neither sends more_sends all_sends sends_is no_sends

    none_waits : (waits ≡ false) × (more_waits ≡ false)
    none_waits = neither waits more_waits all_waits waits_is no_waits

    all : (x : ServedDesk) (z : Reader O) → get_or (set desks i desk) k d ≡ x → get_or (set readers i reader) k r ≡ z → IsDone x z
        → IsDone (get_or (set desks i desk) k d) (get_or (set readers i reader) k r)
    all x z p s done = subst (λ (a : ServedDesk). IsDone a (get_or (set readers i reader) k r)) (sym p) (subst (λ (e : Reader O). IsDone x e) (sym s) done)

    go : (k < i) ⊎ (i ≤ k) → IsDone (get_or (set desks i desk) k d) (get_or (set readers i reader) k r)
    go (inl lt) =
        let apart : k ≢ i = omega arith in
        all (get_or desks k d) (get_or readers k r) (get_or-set_other desks i k desk d apart) (get_or-set_other readers i k reader r apart) (so_far none_sends.0 none_waits.0 k d r lt)
    go (inr le) =
        let at : k ≡ i = omega arith in
        all desk reader (ap (λ m. get_or (set desks i desk) m d) at ∙ get_or-set_same desks i desk d in_desks) (ap (λ m. get_or (set readers i reader) m r) at ∙ get_or-set_same readers i reader r in_readers)
        (here none_sends.1 none_waits.1)

-- Desks that are the same

pub desks_same : (old new : List ServedDesk) → new ≡ old → AreSameDesks old new
desks_same old new is = record { count = ap length is; units = λ k desk within. ap (λ (l : List ServedDesk). (get_or l k desk).unit) is }

pub desks_twice : (a b d : List ServedDesk) → AreSameDesks a b → AreSameDesks b d → AreSameDesks a d
desks_twice a b d one other = record {
  count = other.count ∙ one.count;
  units = λ k desk within. other.units k desk (omega (arith, within, one.count)) ∙ one.units k desk within;
}

pub desks_told : (answers : List Run) (old new : List ServedDesk) → AreDesksTold answers old new → AreSameDesks old new
desks_told answers old new told = record { count = told.count; units = λ k desk within. (told.each k desk within).unit }

pub desks_handed : (old new : List ServedDesk) (before after : List Writer) → length before ≡ length old → AreHandedOn old new before after → AreSameDesks old new
desks_handed old new before after as_many handed = record {
  count = handed.count;
  units = λ k desk within.
      let in_writers : k < length before = omega (arith, within, as_many) in
      (handed.each k desk (one_of before k in_writers) in_writers).unit;
}

pub writers_handed : (old new : List ServedDesk) (before after : List Writer) → length before ≡ length old → AreHandedOn old new before after → AreSameWriters before after
writers_handed old new before after as_many handed = λ k writer within.
    let in_desks : k < length old = omega (arith, within, as_many) in
    (handed.each k (one_of old k in_desks) writer within).ring
