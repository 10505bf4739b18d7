-- The deeds of a link, one after another.
use Rattle.std.proofs.Common.{◌≡◌, ℕ, ◌<◌, ◌+◌, ◌-◌, ◌⊎◌, inl, inr, List, [], ◌∷◌, ◌++◌, length, map, Option, Some, None, refl, sym, ap, ap₂, ◌∙◌, subst, slice_get, unwrap_or, arith, append_assoc, append-nil}
use Rattle.std.proofs.lemmas.List.{length-map, map-append, Sums.sum_by_push}
use Rattle.batch_matrix.specs.declared.report.Report.{Report}
use Rattle.batch_cell.specs.{LookUps.units_of, LookUps.resources_of, LookUps.phases_of, declared.cell.Cell.Cell}
use Rattle.batch_recipe.specs.Conditions.{Name}
use Rattle.batch_model.specs.Events as Events
use Rattle.batch_engine.specs.{Surface.event_of, declared.event.Event.Event, declared.out.Out.Out}
use Rattle.batch_sim.specs.{Units.Ticks, declared.order.Order.Order}
use Rattle.batch_desk.specs.{Consoles.completes, Consoles.telling_complete, DeskState.DeskState}
use Rattle.batch_plant.specs.{Links.report_in, Links.report_named, Links.Deed, Links.took, Links.ticked, Links.outs_taken, Links.reports_made, Links.event_list, Links.unit_after, Links.Linked, Links.TakeOut, Links.AreDone, Links.Links, LinkSteps.Counts, LinkSteps.KnowsUnits, LinkSteps.SendsKept, LinkSteps.kept_in, LinkSteps.linked, declared.answer.Answer.Answer, declared.link.Link.Link}

outs-append : (a b : List Deed) → outs_taken (a ++ b) ≡ outs_taken a ++ outs_taken b
outs-append [] b = refl
outs-append (took out ∷ a) b = ap (λ l. out ∷ l) (outs-append a b)
outs-append (ticked unit answer ∷ a) b = outs-append a b

reports-append : (cell : Cell) (a b : List Deed) → reports_made cell (a ++ b) ≡ reports_made cell a ++ reports_made cell b
reports-append cell [] b = refl
reports-append cell (took out ∷ a) b = reports-append cell a b
reports-append cell (ticked unit answer ∷ a) b =
    ap (λ l. event_list (report_in cell unit answer) ++ l) (reports-append cell a b)
    ∙ sym (append_assoc (event_list (report_in cell unit answer)) (reports_made cell a) (reports_made cell b))

-- Batches that are counted

pub counted : (old new : Link) (d e : DeskState) (out : Out) → e.taken ≡ d.taken ++ out ∷ [] → new.left ≡ old.left - telling_complete out → Counts old d new e
counted old new d e out is left =
    let more : completes e.taken ≡ completes d.taken + telling_complete out = ap completes is ∙ sum_by_push telling_complete d.taken out in
    record { more = omega (arith, more); left = omega (arith, more, left) }

pub none_counted : (old new : Link) (d e : DeskState) → e.taken ≡ d.taken → new.left ≡ old.left → Counts old d new e
none_counted old new d e is left =
    let more : completes e.taken ≡ completes d.taken = ap completes is in
    record { more = omega (arith, more); left = omega (arith, more, left) }

pub then_counts : (a b c : Link) (d e f : DeskState) → Counts a d b e → f.taken ≡ e.taken → c.left ≡ b.left → Counts a d c f
then_counts a b c d e f h is left =
    let more : completes f.taken ≡ completes e.taken = ap completes is in
    let more_before = h.more in
    let left_before = h.left in
    record { more = omega (arith, more, more_before); left = omega (arith, more, left, left_before) }

-- Units that are known

pub knows_same : (cell : Cell) (l m : Link) → m.next ≡ l.next → m.kept ≡ l.kept → KnowsUnits cell l → KnowsUnits cell m
knows_same cell l m next kept h = record {
  next = rw next h.next;
  kept = rw kept h.kept;
}

pub knows_sent : (cell : Cell) (l m : Link) → m.next ≡ l.next → ((m.kept ≡ None) ⊎ (m.kept ≡ l.kept)) → KnowsUnits cell l → KnowsUnits cell m
knows_sent cell l m next (inl none) h = record { next = rw next h.next; kept = rw none tt }
knows_sent cell l m next (inr same) h = knows_same cell l m next same h

pub first_known : (cell : Cell) (left : ℕ) → KnowsUnits cell (record { left = left; next = 0; kept = None })
first_known cell left = record { next = rw (length-map cell.units.items (λ unit. unit.name)) cell.some_unit; kept = tt }

pub known_unit : (cell : Cell) (l : Link) (answer : Answer) → l.kept ≡ Some answer → KnowsUnits cell l → answer.unit < length (units_of cell)
known_unit cell l answer is h = rw is at h.kept

-- Reports by names and by numbers

pub report_numbered : (cell same : Cell) (unit phase : ℕ) (word : Report) (name : Name) (found : Option Name) → same ≡ cell
    → slice_get (resources_of same) unit ≡ Some name → found ≡ slice_get (phases_of same unit) phase → report_named name found word ≡ report_in cell unit (Some (phase, word))
report_numbered cell same unit phase word name found is of_unit of_phase =
    ap₂ (λ (n : Name) (o : Option Name). report_named n o word) (sym (ap (λ (o : Option Name). unwrap_or o []) of_unit)) of_phase
    ∙ ap (λ (k : Cell). report_in k unit (Some (phase, word))) is

-- Reports that are kept

pub report_sent : (cell : Cell) (old new : Link) (d e : DeskState) (answer : Answer) (event : Event) → old.kept ≡ Some answer
    → Some (event_of event) ≡ report_in cell answer.unit (Some (answer.phase, answer.word)) → new.left ≡ old.left → new.next ≡ old.next
    → e.events ≡ d.events → e.outs ≡ d.outs → e.taken ≡ d.taken
    → (((new.kept ≡ None) × (e.sent ≡ d.sent ++ event ∷ [])) ⊎ ((new.kept ≡ old.kept) × (e.sent ≡ d.sent))) → SendsKept cell old d new e
report_sent cell old new d e answer event is told left next events outs taken (inl (none, grown)) = record {
  left = left;
  next = next;
  events = events;
  outs = outs;
  taken = taken;
  more = event ∷ [];
  sent = grown;
  reports = ap (λ k. event_of event ∷ kept_in cell k) none ∙ ap event_list told ∙ ap (kept_in cell) (sym is);
}
report_sent cell old new d e answer event is told left next events outs taken (inr (same, none)) = record {
  left = left;
  next = next;
  events = events;
  outs = outs;
  taken = taken;
  more = [];
  sent = none ∙ sym (append-nil d.sent);
  reports = ap (kept_in cell) same;
}

pub report_dropped : (cell : Cell) (old new : Link) (d : DeskState) (answer : Answer) → old.kept ≡ Some answer
    → None ≡ report_in cell answer.unit (Some (answer.phase, answer.word)) → new.left ≡ old.left → new.next ≡ old.next → new.kept ≡ None → SendsKept cell old d new d
report_dropped cell old new d answer is told left next none = record {
  left = left;
  next = next;
  events = refl;
  outs = refl;
  taken = refl;
  more = [];
  sent = sym (append-nil d.sent);
  reports = ap (kept_in cell) none ∙ ap event_list told ∙ ap (kept_in cell) (sym is);
}

module _ {D : Type 0} (command_gives : D → ℕ → Order → D → Type 0) (tick_gives : D → Option (ℕ × Report) → D → Type 0) where
  done-append : (count : ℕ) (a b : List Deed) (x y z : ℕ) (old mid new : List D) → AreDone command_gives tick_gives count a x old y mid
      → AreDone command_gives tick_gives count b y mid z new → AreDone command_gives tick_gives count (a ++ b) x old z new
  done-append count [] b x y z old mid new h k =
      subst (λ (u : List D). AreDone command_gives tick_gives count b x u z new) h.1 (subst (λ (n : ℕ). AreDone command_gives tick_gives count b n mid z new) h.0 k)
  done-append count (took out ∷ a) b x y z old mid new h k = (h.0, h.1, done-append count a b x y z h.0 mid new h.2 k)
  done-append count (ticked number answer ∷ a) b x y z old mid new h k =
      (h.0, h.1, h.2, done-append count a b (unit_after count x) y z h.1 mid new h.3 k)

  pub no_deed : (cell : Cell) (s : Linked D) → Links command_gives tick_gives cell s s
  no_deed cell s = record {
    events = refl;
    outs = refl;
    deeds = [];
    done = (refl, refl);
    taken = sym (append-nil s.desk.taken);
    more = [];
    sent = sym (append-nil s.desk.sent);
    reports = sym (append-nil s.kept);
  }

  kept_and_made : (m n s t u x y : List Events.Event) → m ++ t ≡ s ++ x → n ++ u ≡ t ++ y → (m ++ n) ++ u ≡ s ++ (x ++ y)
  kept_and_made m n s t u x y p q =
      append_assoc m n u ∙ ap (λ l. m ++ l) q ∙ sym (append_assoc m t y) ∙ ap (λ l. l ++ y) p ∙ append_assoc s x y

  pub then_links : (cell : Cell) (s t u : Linked D) → Links command_gives tick_gives cell s t → Links command_gives tick_gives cell t u → Links command_gives tick_gives cell s u
  then_links cell s t u h k = record {
    events = k.events ∙ h.events;
    outs = k.outs ∙ h.outs;
    deeds = h.deeds ++ k.deeds;
    done = done-append (length (units_of cell)) h.deeds k.deeds s.next t.next u.next s.units t.units u.units h.done k.done;
    taken = k.taken ∙ ap (λ l. l ++ outs_taken k.deeds) h.taken ∙ append_assoc s.desk.taken (outs_taken h.deeds) (outs_taken k.deeds)
        ∙ ap (λ l. s.desk.taken ++ l) (sym (outs-append h.deeds k.deeds));
    more = h.more ++ k.more;
    sent = k.sent ∙ ap (λ l. l ++ k.more) h.sent ∙ append_assoc s.desk.sent h.more k.more;
    reports = ap (λ l. l ++ u.kept) (map-append event_of h.more k.more)
        ∙ kept_and_made (map event_of h.more) (map event_of k.more) s.kept t.kept u.kept (reports_made cell h.deeds) (reports_made cell k.deeds) h.reports k.reports
        ∙ ap (λ l. s.kept ++ l) (sym (reports-append cell h.deeds k.deeds));
  }

  -- an out was taken
  pub took_out : (cell : Cell) (s t : Linked D) (out : Out) → t.desk ≡ record s.desk { taken = s.desk.taken ++ out ∷ [] } → TakeOut command_gives tick_gives out s.units t.units
      → t.next ≡ s.next → t.kept ≡ s.kept → Links command_gives tick_gives cell s t
  took_out cell s t out is order next kept = record {
    events = ap (λ (d : DeskState). d.events) is;
    outs = ap (λ (d : DeskState). d.outs) is;
    deeds = took out ∷ [];
    done = (t.units, order, (next, refl));
    taken = ap (λ (d : DeskState). d.taken) is;
    more = [];
    sent = ap (λ (d : DeskState). d.sent) is ∙ sym (append-nil s.desk.sent);
    reports = kept ∙ sym (append-nil s.kept);
  }

  -- a moment passed at the next unit, while no report was kept
  pub ticked_next : (cell : Cell) (s t : Linked D) (answer : Option (ℕ × Report)) → t.desk ≡ s.desk → Ticks tick_gives s.next s.units answer t.units
      → t.next ≡ unit_after (length (units_of cell)) s.next → s.kept ≡ [] → t.kept ≡ event_list (report_in cell s.next answer) → Links command_gives tick_gives cell s t
  ticked_next cell s t answer is ticks next none kept = record {
    events = ap (λ (d : DeskState). d.events) is;
    outs = ap (λ (d : DeskState). d.outs) is;
    deeds = ticked s.next answer ∷ [];
    done = (refl, t.units, ticks, (next, refl));
    taken = ap (λ (d : DeskState). d.taken) is ∙ sym (append-nil s.desk.taken);
    more = [];
    sent = ap (λ (d : DeskState). d.sent) is ∙ sym (append-nil s.desk.sent);
    reports = kept ∙ sym (append-nil (event_list (report_in cell s.next answer))) ∙ ap (λ l. l ++ (event_list (report_in cell s.next answer) ++ [])) (sym none);
  }

  -- the report that was kept was sent, or is kept
  pub sent_kept : (cell : Cell) (old new : Link) (d e : DeskState) (units : List D) → SendsKept cell old d new e
      → Links command_gives tick_gives cell (linked cell old d units) (linked cell new e units)
  sent_kept cell old new d e units h = record {
    events = h.events;
    outs = h.outs;
    deeds = [];
    done = (h.next, refl);
    taken = h.taken ∙ sym (append-nil d.taken);
    more = h.more;
    sent = h.sent;
    reports = h.reports ∙ sym (append-nil (kept_in cell old.kept));
  }
