-- Ticks after ticks, and the effect of all of them.
use Rattle.std.proofs.Common.{◌≡◌, ℕ, suc, ◌+◌, ◌-◌, ◌<◌, ◌≤◌, arith, IsErrOf, List, [], ◌∷◌, ◌++◌, flat_map, Option, Some, None, Result, Ok, Err, IsSome, refl, sym, ap, ◌∙◌, subst, inl, inr, append_assoc, append-nil}
use Rattle.std.{specs.Io.KnownBytes.Appends, specs.Io.KnownBytes.Keeps, proofs.KnownBytes.Appends-trans, proofs.KnownBytes.Appends-nil, specs.List.range_with_len}
use Rattle.batch_matrix.specs.declared.report.Report.{Report}
use Rattle.batch_model.specs.{Events.Event, Plant.Plant, Runs.Out}
use Rattle.batch_safety.specs.Sets.{RunsSafely}
use Rattle.batch_verify.specs.ClearedSet.{ClearedSet}
use Rattle.batch_engine.specs.View.{setup}
use Rattle.batch_wire.{specs.RecordText.out_text, specs.Transcript.Exchange, specs.Transcript.silence, specs.Transcript.followed_by, specs.Transcript.handled, specs.Written.AppendsBeginning, specs.declared.fault.WriteFault.WriteFault, proofs.WrittenTexts.beginning, proofs.WrittenTexts.then_beginning}
use Rattle.batch_serve.{specs.Settled.IsSettled, proofs.Exchanges.followed-assoc, proofs.Exchanges.followed-silence}
use Rattle.batch_sim.specs.{Units.Ticks, declared.order.Order.Order}
use Rattle.batch_plant.{specs.Links.report_in, specs.Drive.Standing, specs.Drive.IsReported, specs.Drive.IsTick, specs.Drive.Comes, specs.Drive.Drives, specs.Drive.in_rounds, specs.Handling.WritesReported, specs.Handling.DrivesSome, specs.Written.StopsHandling, specs.Written.Stops, specs.Written.IsDriven, specs.declared.drive_fault.DriveFault.DriveFault, specs.declared.drive_fault.DriveFault.TheVariants.Write, specs.declared.drive_fault.DriveFault.TheVariants.Memory, proofs.TickRecords.keeps, proofs.TickRecords.drives_lead, proofs.TickRecords.drives_settle, proofs.TickRecords.cut_leads}

-- a whole text and a prefix of the next are a prefix of both
then_begun : (a b d : Option (List ℕ)) (s t : List ℕ) → Appends a b s → AppendsBeginning b d t → AppendsBeginning a d (s ++ t)
then_begun a b d s t p q = subst (λ l. AppendsBeginning a d (s ++ l)) (append-nil t) (then_beginning a b d s t [] p q)

kept_after : (a b d : Option (List ℕ)) (text : List ℕ) → Appends a b text → Keeps b d → Appends a d text
kept_after None b d text p k = tt
kept_after (Some x) None d text p k = absurd p
kept_after (Some x) (Some y) None text p k = absurd k
kept_after (Some x) (Some y) (Some z) text p k = k ∙ p

text_further : (told : List Out) (last : Out) → flat_map out_text (told ++ last ∷ []) ≡ flat_map out_text told ++ (out_text last ++ [])
text_further [] last = refl
text_further (x ∷ told) last =
    ap (λ l. out_text x ++ l) (text_further told last) ∙ sym (append_assoc (out_text x) (flat_map out_text told) (out_text last ++ []))

module _ {D : Type 0} (command_gives : D → ℕ → Order → D → Type 0) (tick_gives : D → Option (ℕ × Report) → D → Type 0) (set : ClearedSet) where
  drives_join : (xs ys : List ℕ) (a b d : Standing D) (s t : Exchange) → Drives command_gives tick_gives set xs a s b
      → Drives command_gives tick_gives set ys b t d → Drives command_gives tick_gives set (xs ++ ys) a (followed_by s t) d
  drives_join [] ys a b d s t h k =
      subst (λ (x : Exchange). Drives command_gives tick_gives set ys a (followed_by x t) d) (sym h.0)
      (subst (λ (z : Standing D). Drives command_gives tick_gives set ys z t d) h.1 k)
  drives_join (unit ∷ xs) ys a b d s t (first, rest, mid, tick, more, e) k =
      (first, followed_by rest t, mid, tick, drives_join xs ys mid b d rest t more k, ap (λ (x : Exchange). followed_by x t) e ∙ followed-assoc first rest t)

  -- One tick

  one_tick : (unit : ℕ) (old : Standing D) (said : Exchange) (new : Standing D) → IsTick command_gives tick_gives set unit old said new
      → Drives command_gives tick_gives set (unit ∷ []) old said new
  one_tick unit old said new t = (said, silence, new, t, (refl, refl), sym (followed-silence said))

  -- nothing comes of the answer
  pub quiet_tick : (unit : ℕ) (old new : Standing D) (answer : Option (ℕ × Report)) (x : Option (List ℕ))
      → Ticks tick_gives unit old.units answer new.units → new.plant ≡ old.plant → report_in set.cell unit answer ≡ None
      → DrivesSome command_gives tick_gives set (unit ∷ []) old (Ok tt) new x x
  quiet_tick unit old new answer x t same none = (
    silence,
    one_tick unit old silence new (record {
      answer = answer;
      after = new.units;
      ticks = t;
      comes = subst (λ (e : Option Event). Comes command_gives tick_gives set e (record { plant = old.plant; units = new.units }) silence new) (sym none)
          (refl, ap (λ (p : Plant). record { plant = p; units = new.units }) same);
    }),
    Appends-nil x,
  )

  -- the report is handled, and its outs are written
  pub handled_tick : (unit : ℕ) (old mid new : Standing D) (answer : Option (ℕ × Report)) (event : Event) (x y : Option (List ℕ))
      → Ticks tick_gives unit old.units answer mid.units → mid.plant ≡ old.plant → report_in set.cell unit answer ≡ Some event
      → WritesReported command_gives tick_gives set event mid (Ok tt) new x y
      → DrivesSome command_gives tick_gives set (unit ∷ []) old (Ok tt) new x y
  handled_tick unit old mid new answer event x y t same some (outs, h, p) = (
    handled event outs,
    one_tick unit old (handled event outs) new (record {
      answer = answer;
      after = mid.units;
      ticks = t;
      comes = subst (λ (e : Option Event). Comes command_gives tick_gives set e (record { plant = old.plant; units = mid.units }) (handled event outs) new) (sym some)
          (outs, subst (λ (q : Plant). IsReported command_gives tick_gives set event (record { plant = q; units = mid.units }) outs new) same h, refl);
    }),
    p,
  )

  -- the report is handled and a beginning of it written
  pub cut_tick : (unit : ℕ) (old mid new : Standing D) (answer : Option (ℕ × Report)) (event : Event) (f : WriteFault) (x y : Option (List ℕ))
      → Ticks tick_gives unit old.units answer mid.units → mid.plant ≡ old.plant → report_in set.cell unit answer ≡ Some event
      → WritesReported command_gives tick_gives set event mid (Err f) new x y
      → DrivesSome command_gives tick_gives set (unit ∷ []) old (Err Write) new x y
  cut_tick unit old mid new answer event f x y t same some (outs, h) = record {
    earlier = [];
    others = unit ∷ [];
    splits = refl;
    mid = old;
    said = silence;
    drives = (refl, refl);
    between = x;
    appends = Appends-nil x;
    last_said = handled event outs;
    stops = inr (
      unit,
      [],
      refl,
      record {
        answer = answer;
        after = mid.units;
        ticks = t;
        event = event;
        reports = some;
        outs = outs;
        stops = subst (λ (q : Plant). StopsHandling command_gives tick_gives set event (record { plant = q; units = mid.units }) outs new x y) same h;
        tells = refl;
      },
    );
  }

  -- there is no memory for the report
  pub lost_tick : (unit : ℕ) (old new : Standing D) (answer : Option (ℕ × Report)) (x : Option (List ℕ))
      → Ticks tick_gives unit old.units answer new.units → new.plant ≡ old.plant → IsSome (report_in set.cell unit answer)
      → DrivesSome command_gives tick_gives set (unit ∷ []) old (Err Memory) new x x
  lost_tick unit old new answer x t same some = record {
    earlier = [];
    unit = unit;
    others = [];
    splits = refl;
    mid = old;
    said = silence;
    drives = (refl, refl);
    appends = Appends-nil x;
    loses = record { answer = answer; ticks = t; reports = some; same_plant = same };
  }

  -- Several

  -- the effect of ticks after others
  pub then_driven : (xs ys : List ℕ) (a b : Standing D) (r : Result (Unit {0}) DriveFault) (new : Standing D) (x y z : Option (List ℕ))
      → DrivesSome command_gives tick_gives set xs a (Ok tt) b x y → DrivesSome command_gives tick_gives set ys b r new y z
      → DrivesSome command_gives tick_gives set (xs ++ ys) a r new x z
  then_driven xs ys a b (Ok u) new x y z (s, d, p) (t, e, q) =
      (followed_by s t, drives_join xs ys a b new s t d e, Appends-trans x y z s.text t.text p q)
  then_driven xs ys a b (Err Memory) new x y z (s, d, p) h = record {
    earlier = xs ++ h.earlier;
    unit = h.unit;
    others = h.others;
    splits = ap (λ (l : List ℕ). xs ++ l) h.splits ∙ sym (append_assoc xs h.earlier (h.unit ∷ h.others));
    mid = h.mid;
    said = followed_by s h.said;
    drives = drives_join xs h.earlier a b h.mid s h.said d h.drives;
    appends = Appends-trans x y z s.text h.said.text p h.appends;
    loses = h.loses;
  }
  then_driven xs ys a b (Err Write) new x y z (s, d, p) h = record {
    earlier = xs ++ h.earlier;
    others = h.others;
    splits = ap (λ (l : List ℕ). xs ++ l) h.splits ∙ sym (append_assoc xs h.earlier h.others);
    mid = h.mid;
    said = followed_by s h.said;
    drives = drives_join xs h.earlier a b h.mid s h.said d h.drives;
    between = h.between;
    appends = Appends-trans x y h.between s.text h.said.text p h.appends;
    last_said = h.last_said;
    stops = h.stops;
  }

  stops_more : (others ys : List ℕ) (old : Standing D) (said : Exchange) (new : Standing D) (x y : Option (List ℕ))
      → Stops command_gives tick_gives set others old said new x y → Stops command_gives tick_gives set (others ++ ys) old said new x y
  stops_more others ys old said new x y (inl h) = inl h
  stops_more others ys old said new x y (inr (unit, later, e, t)) = inr (unit, later ++ ys, ap (λ (l : List ℕ). l ++ ys) e, t)

  -- a fault that stopped the ticks stopped those after them too
  pub stopped : (xs ys : List ℕ) (a : Standing D) (f : DriveFault) (new : Standing D) (x y : Option (List ℕ))
      → DrivesSome command_gives tick_gives set xs a (Err f) new x y → DrivesSome command_gives tick_gives set (xs ++ ys) a (Err f) new x y
  stopped xs ys a Memory new x y h = record {
    earlier = h.earlier;
    unit = h.unit;
    others = h.others ++ ys;
    splits = ap (λ (l : List ℕ). l ++ ys) h.splits ∙ append_assoc h.earlier (h.unit ∷ h.others) ys;
    mid = h.mid;
    said = h.said;
    drives = h.drives;
    appends = h.appends;
    loses = h.loses;
  }
  stopped xs ys a Write new x y h = record {
    earlier = h.earlier;
    others = h.others ++ ys;
    splits = ap (λ (l : List ℕ). l ++ ys) h.splits ∙ append_assoc h.earlier h.others ys;
    mid = h.mid;
    said = h.said;
    drives = h.drives;
    between = h.between;
    appends = h.appends;
    last_said = h.last_said;
    stops = stops_more h.others ys h.mid h.last_said new h.between y h.stops;
  }

  pub none_driven : (old new : Standing D) (x y : Option (List ℕ)) → new ≡ old → Keeps x y → DrivesSome command_gives tick_gives set [] old (Ok tt) new x y
  none_driven old new x y same k = (silence, (refl, same), kept_after x x y [] (Appends-nil x) k)

  -- the flush failed
  pub not_handed_on : (old : Standing D) (x y : Option (List ℕ)) → Keeps x y → DrivesSome command_gives tick_gives set [] old (Err Write) old x y
  not_handed_on old x y k = record {
    earlier = [];
    others = [];
    splits = refl;
    mid = old;
    said = silence;
    drives = (refl, refl);
    between = x;
    appends = Appends-nil x;
    last_said = silence;
    stops = inl (refl, refl, kept_after x x y [] (Appends-nil x) k);
  }

  -- a prefix of the text so far and of the text of the last report's exchange was written
  text_begun : (others : List ℕ) (old : Standing D) (said : Exchange) (new : Standing D) (x y z : Option (List ℕ)) (s : List ℕ) → Appends x y s
      → Stops command_gives tick_gives set others old said new y z → AppendsBeginning x z (s ++ said.text)
  text_begun others old said new x y z s p (inl (e, same, k)) =
      subst (λ (t : Exchange). AppendsBeginning x z (s ++ t.text)) (sym e) (then_begun x y z s [] p (beginning y z [] [] k))
  text_begun others old said new x y z s p (inr (unit, later, e, t)) =
      subst (λ (t : Exchange). AppendsBeginning x z (s ++ t.text)) (sym t.tells)
      (subst (λ (l : List ℕ). AppendsBeginning x z (s ++ l)) (sym (ap (flat_map out_text) t.stops.tells ∙ text_further t.stops.told t.stops.last))
      (then_begun x y z s _ p (then_beginning y t.stops.mid z (flat_map out_text t.stops.told) (out_text t.stops.last) [] t.stops.whole t.stops.begins)))

  -- The record of all

  pub driven : (units : List ℕ) (old : Standing D) (r : Result (Unit {0}) DriveFault) (new : Standing D) (x y : Option (List ℕ)) → RunsSafely set.cell set.recipes
      → DrivesSome command_gives tick_gives set units old r new x y → IsDriven command_gives tick_gives set units old r new x y
  driven units old (Ok u) new x y runs (said, d, p) = record {
    said = said;
    drives = d;
    record_kept = keeps set old.plant new.plant said runs (drives_lead command_gives tick_gives set units old said new d);
    appends = p;
  }
  driven units old (Err Memory) new x y runs h = record {
    earlier = h.earlier;
    unit = h.unit;
    others = h.others;
    splits = h.splits;
    mid = h.mid;
    writes = record {
      said = h.said;
      drives = h.drives;
      record_kept = keeps set old.plant h.mid.plant h.said runs (drives_lead command_gives tick_gives set h.earlier old h.said h.mid h.drives);
      appends = h.appends;
    };
    loses = h.loses;
  }
  driven units old (Err Write) new x y runs h = record {
    earlier = h.earlier;
    others = h.others;
    splits = h.splits;
    mid = h.mid;
    said = h.said;
    drives = h.drives;
    between = h.between;
    appends = h.appends;
    last_said = h.last_said;
    stops = h.stops;
    record_kept = keeps set old.plant new.plant (followed_by h.said h.last_said) runs
        (cut_leads command_gives tick_gives set h.earlier h.others old h.mid h.said h.last_said new h.between y h.drives h.stops);
    begins = text_begun h.others h.mid h.last_said new x h.between y h.said.text h.appends h.stops;
  }

  -- Ticks that are left

  -- these ticks are left of all: their effect is the effect of all
  abbrev pub Leaves : List ℕ → List ℕ → Standing D → Standing D → Option (List ℕ) → Option (List ℕ) → Type 0
  Leaves all left first now before written =
      (r : Result (Unit {0}) DriveFault) (new : Standing D) (later : Option (List ℕ)) → DrivesSome command_gives tick_gives set left now r new written later
      → DrivesSome command_gives tick_gives set all first r new before later

  -- the next of them were driven
  pub fewer_left : (all xs ys left : List ℕ) (first now mid : Standing D) (x y z : Option (List ℕ)) → left ≡ xs ++ ys → Leaves all left first now x y
      → DrivesSome command_gives tick_gives set xs now (Ok tt) mid y z → Leaves all ys first mid x z
  fewer_left all xs ys left first now mid x y z e h d r new later k =
      h r new later (subst (λ (l : List ℕ). DrivesSome command_gives tick_gives set l now r new y later) (sym e) (then_driven xs ys now mid r new y z later d k))

  -- the next of them were stopped
  pub left_stopped : (all xs ys left : List ℕ) (first now new : Standing D) (f : DriveFault) (x y z : Option (List ℕ)) → left ≡ xs ++ ys → Leaves all left first now x y
      → DrivesSome command_gives tick_gives set xs now (Err f) new y z → DrivesSome command_gives tick_gives set all first (Err f) new x z
  left_stopped all xs ys left first now new f x y z e h d =
      h (Err f) new z (subst (λ (l : List ℕ). DrivesSome command_gives tick_gives set l now (Err f) new y z) (sym e) (stopped xs ys now f new y z d))

  pub done_driven : (now : Standing D) (x : Option (List ℕ)) → DrivesSome command_gives tick_gives set [] now (Ok tt) now x x
  done_driven now x = (silence, (refl, refl), Appends-nil x)

  -- no tick is left
  pub none_left : (all left : List ℕ) (first now : Standing D) (r : Result (Unit {0}) DriveFault) (new : Standing D) (x y z : Option (List ℕ)) → left ≡ []
      → Leaves all left first now x y → DrivesSome command_gives tick_gives set [] now r new y z → DrivesSome command_gives tick_gives set all first r new x z
  none_left all left first now r new x y z e h d =
      h r new z (subst (λ (l : List ℕ). DrivesSome command_gives tick_gives set l now r new y z) (sym e) d)

  pub some_settle : (units : List ℕ) (old : Standing D) (r : Result (Unit {0}) DriveFault) (new : Standing D) (x y : Option (List ℕ)) → (IsErrOf r Write → ⊥)
      → IsSettled (setup set) old.plant → DrivesSome command_gives tick_gives set units old r new x y → IsSettled (setup set) new.plant
  some_settle units old (Ok u) new x y n k (said, d, p) = drives_settle command_gives tick_gives set units old said new k d
  some_settle units old (Err Memory) new x y n k h =
      subst (IsSettled (setup set)) (sym h.loses.same_plant) (drives_settle command_gives tick_gives set h.earlier old h.said h.mid k h.drives)
  some_settle units old (Err Write) new x y n k h = absurd (n refl)

-- Numbers of units, and rounds

pub unit_next : (a n : ℕ) → a < n → range_with_len a (n - a) ≡ a ∷ range_with_len (a + 1) (n - (a + 1))
unit_next a n lt = let e : n - a ≡ suc (n - (a + 1)) = omega arith in ap (range_with_len a) e

pub no_unit : (a n : ℕ) → n ≤ a → range_with_len a (n - a) ≡ []
no_unit a n le = let e : n - a ≡ 0 = omega arith in ap (range_with_len a) e

pub round_next : (units a n : ℕ) → a < n → in_rounds units (n - a) ≡ range_with_len 0 units ++ in_rounds units (n - (a + 1))
round_next units a n lt = let e : n - a ≡ suc (n - (a + 1)) = omega arith in ap (in_rounds units) e

pub no_round : (units a n : ℕ) → n ≤ a → in_rounds units (n - a) ≡ []
no_round units a n le = let e : n - a ≡ 0 = omega arith in ap (in_rounds units) e
