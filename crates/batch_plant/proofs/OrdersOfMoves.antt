-- Moves made and written one after another, whose orders the units take.
use Rattle.std.proofs.Common.{◌≡◌, List, [], ◌∷◌, ◌++◌, ℕ, Option, Some, None, Result, Ok, Err, map, refl, sym, ap, ◌∙◌, subst, append_assoc, append-nil}
use Rattle.std.{specs.Io.KnownBytes.Appends, proofs.KnownBytes.Appends-trans, proofs.KnownBytes.Appends-nil}
use Rattle.batch_matrix.specs.declared.report.Report.{Report}
use Rattle.batch_model.specs.{Events.Event, Events.Reply, Moves.Move, Moves.next, Moves.after_move, Plant.Plant, Runs.Out, Runs.reply, Runs.move, Runs.Reacts, Runs.Leads}
use Rattle.batch_verify.specs.ClearedSet.{ClearedSet}
use Rattle.batch_engine.specs.{Surface.move_of, View.setup, declared.line.ClaimKind.TheVariants.Asked, declared.line.ClaimKind.TheVariants.Granted, declared.line.ClaimKind.TheVariants.Released, declared.line.Line.Line, declared.line.Line.TheVariants.Send, declared.line.Line.TheVariants.State, declared.line.Line.TheVariants.Begin, declared.line.Line.TheVariants.Start, declared.line.Line.TheVariants.End, declared.line.Line.TheVariants.Pass, declared.line.Line.TheVariants.Claim}
use Rattle.batch_engine.specs.declared.out.Out.TheVariants as outs
use Rattle.batch_wire.specs.{RecordText.out_text, Transcript.Settles, Written.AppendsBeginning, declared.fault.WriteFault.WriteFault}
use Rattle.batch_serve.specs.Answering.{moves_text}
use Rattle.batch_sim.specs.declared.order.Order.{Order}
use Rattle.batch_plant.specs.{Links.TakeOut, Drive.Standing, Drive.TakeOrder, Drive.TakeOrders, Handling.StopsMoves, Handling.WritesOrders, Handling.WritesReported, Written.moves_in}

text-append : (made more : List Move) → moves_text (made ++ more) ≡ moves_text made ++ moves_text more
text-append [] more = refl
text-append (m ∷ made) more = ap (λ l. out_text (move m) ++ l) (text-append made more) ∙ sym (append_assoc (out_text (move m)) (moves_text made) (moves_text more))

are_moves : (made : List Move) → moves_in (map move made) ≡ made
are_moves [] = refl
are_moves (m ∷ made) = ap (λ l. m ∷ l) (are_moves made)

one_further : (made : List Move) (m : Move) → map move (made ++ m ∷ []) ≡ map move made ++ move m ∷ []
one_further [] m = refl
one_further (x ∷ made) m = ap (λ l. move x ∷ l) (one_further made m)

module _ {D : Type 0} (command_gives : D → ℕ → Order → D → Type 0) (tick_gives : D → Option (ℕ × Report) → D → Type 0) (set : ClearedSet) where
  -- the moves made so far were written, and the units took their orders
  pub record AreGiven (first now : Standing D) (before written : Option (List ℕ)) : Type 0 where
    pub made : List Move
    pub goes_on : (more : List Move) (new : Plant) → Settles (setup set) now.plant more new → Settles (setup set) first.plant (made ++ more) new
    pub leads : Leads (setup set) first.plant [] (map move made) now.plant
    pub orders : TakeOrders command_gives tick_gives set made first.units now.units
    pub appends : Appends before written (moves_text made)

  -- the order of a line, by numbers, is that of its move, by names
  pub order_taken : (line : Line) (old new : List D) → TakeOut command_gives tick_gives (outs.Move line) old new
      → TakeOrder command_gives tick_gives set (move_of set line) old new
  order_taken (Send batch recipe node unit phase command) old new h = (unit, phase, h.0, record { unit_named = refl; phase_named = refl }, h.1)
  order_taken (Start batch recipe node unit phase values) old new h = (unit, phase, h.0, record { unit_named = refl; phase_named = refl }, h.1)
  order_taken (State batch state) old new h = h
  order_taken (Begin batch recipe node) old new h = h
  order_taken (End batch recipe node) old new h = h
  order_taken (Pass batch recipe node to resource units) old new h = h
  order_taken (Claim Asked batch recipe node resource units) old new h = h
  order_taken (Claim Granted batch recipe node resource units) old new h = h
  order_taken (Claim Released batch recipe node resource units) old new h = h

  orders_more : (made : List Move) (m : Move) (old mid new : List D) → TakeOrders command_gives tick_gives set made old mid
      → TakeOrder command_gives tick_gives set m mid new → TakeOrders command_gives tick_gives set (made ++ m ∷ []) old new
  orders_more [] m old mid new h k = (new, subst (λ (u : List D). TakeOrder command_gives tick_gives set m u new) h k, refl)
  orders_more (x ∷ made) m old mid new h k = (h.0, h.1, orders_more made m h.0 mid new h.2 k)

  lead_more : (made : List Move) (m : Move) (s t u : Plant) → Leads (setup set) s [] (map move made) t → next (setup set) t ≡ Some m → u ≡ after_move t m
      → Leads (setup set) s [] (map move (made ++ m ∷ [])) u
  lead_more [] m s t u h first_is is = (subst (λ (p : Plant). next (setup set) p ≡ Some m) (sym h) first_is, ap (λ (p : Plant). after_move p m) h ∙ sym is)
  lead_more (x ∷ made) m s t u h first_is is = (h.0, lead_more made m (after_move s x) t u h.1 first_is is)

  pub none_given : (first : Standing D) (before : Option (List ℕ)) → Appends before before [] → AreGiven first first before before
  none_given first before p = record { made = []; goes_on = λ more new s. s; leads = refl; orders = refl; appends = p }

  pub one_more : (first now new : Standing D) (m : Move) (x y z : Option (List ℕ)) → AreGiven first now x y → next (setup set) now.plant ≡ Some m
      → new.plant ≡ after_move now.plant m → TakeOrder command_gives tick_gives set m now.units new.units → Appends y z (out_text (move m)) → AreGiven first new x z
  one_more first now new m x y z h first_is is o p = record {
    made = h.made ++ m ∷ [];
    goes_on = λ more last s. rw (append_assoc h.made (m ∷ []) more) (h.goes_on (m ∷ more) last (first_is, rw (← is) s));
    leads = lead_more h.made m first.plant now.plant new.plant h.leads first_is is;
    orders = orders_more h.made m first.units now.units new.units h.orders o;
    appends = rw (text-append h.made (m ∷ []), append-nil (out_text (move m))) (Appends-trans x y z _ _ h.appends p);
  }

  -- no move follows
  pub all_given : (first now new : Standing D) (x y : Option (List ℕ)) → AreGiven first now x y → next (setup set) now.plant ≡ None → new.plant ≡ now.plant
      → new.units ≡ now.units
      → (moves : List Move) × Settles (setup set) first.plant moves new.plant × TakeOrders command_gives tick_gives set moves first.units new.units
      × Appends x y (moves_text moves)
  all_given first now new x y h none same same_units = (
    h.made,
    (rw append-nil at (h.goes_on [] new.plant (none, same))),
    subst (λ (u : List D). TakeOrders command_gives tick_gives set h.made first.units u) (sym same_units) h.orders,
    h.appends,
  )

  -- a fault came while a move was written
  pub stopped_at : (first now new : Standing D) (m : Move) (x y z : Option (List ℕ)) → AreGiven first now x y → next (setup set) now.plant ≡ Some m
      → new.plant ≡ after_move now.plant m → new.units ≡ now.units → AppendsBeginning y z (out_text (move m)) → StopsMoves command_gives tick_gives set first new x z
  stopped_at first now new m x y z h first_is is same p = record {
    made = h.made;
    last = m;
    leads = lead_more h.made m first.plant now.plant new.plant h.leads first_is is;
    orders = subst (λ (u : List D). TakeOrders command_gives tick_gives set h.made first.units u) (sym same) h.orders;
    mid = y;
    whole = h.appends;
    begins = p;
  }

  -- a fault came while the reply was written
  pub reply_stopped : (old new : Standing D) (event : Event) (answer : Reply) (x y : Option (List ℕ)) (f : WriteFault) → new.units ≡ old.units
      → Reacts (setup set) old.plant event answer new.plant → AppendsBeginning x y (out_text (reply answer))
      → WritesReported command_gives tick_gives set event old (Err f) new x y
  reply_stopped old new event answer x y f same h p = (
    reply answer ∷ [],
    record { told = []; last = reply answer; tells = refl; leads = (new.plant, h, refl); orders = same; mid = x; whole = Appends-nil x; begins = p },
  )

  -- the reply was written, and then the moves
  pub reported : (old mid new : Standing D) (event : Event) (answer : Reply) (r : Result (Unit {0}) WriteFault) (x y z : Option (List ℕ)) → mid.units ≡ old.units
      → Reacts (setup set) old.plant event answer mid.plant → Appends x y (out_text (reply answer))
      → WritesOrders command_gives tick_gives set mid r new y z → WritesReported command_gives tick_gives set event old r new x z
  reported old mid new event answer (Ok u) x y z same h p (moves, s, o, w) = (
    reply answer ∷ map move moves,
    record {
      handles = record { answer = answer; mid = mid.plant; moves = moves; reacts = h; settles = s; tells = refl };
      orders = subst (λ (l : List D). TakeOrders command_gives tick_gives set moves l new.units) same o;
    },
    Appends-trans x y z _ _ p w,
  )
  reported old mid new event answer (Err f) x y z same h p w = (
    reply answer ∷ map move (w.made ++ w.last ∷ []),
    record {
      told = reply answer ∷ map move w.made;
      last = move w.last;
      tells = ap (λ (l : List Out). reply answer ∷ l) (one_further w.made w.last);
      leads = (mid.plant, h, w.leads);
      orders = subst (λ (moves : List Move). TakeOrders command_gives tick_gives set moves old.units new.units) (sym (are_moves w.made))
          (subst (λ (l : List D). TakeOrders command_gives tick_gives set w.made l new.units) same w.orders);
      mid = w.mid;
      whole = Appends-trans x y w.mid (out_text (reply answer)) (moves_text w.made) p w.whole;
      begins = w.begins;
    },
  )
