-- Desks whose rings are made one after the other.
use Rattle.std.proofs.Common.{◌≡◌, ◌<◌, ◌+◌, None, ℕ, zero, suc, List, [], ◌∷◌, ◌++◌, length, get_or, option_map, string_bytes, refl, sym, ap, subst, arith, ◌∙◌}
use Rattle.std.proofs.lemmas.List.{map-append}
use Rattle.rtrb.specs.Ring.{sent}
use Rattle.batch_reader.specs.declared.desk.Desk as plans
use Rattle.batch_engine.specs.View.{EngineView}
use Rattle.batch_serve.specs.declared.{desk.ServedDesk.ServedDesk, desk_server.DeskServer.DeskServer, rounds.Reader.Reader, rounds.Writer.Writer}
use Rattle.batch_pipes.{proofs.Lists.both_more, proofs.Lists.length_more, specs.Inputs.IsNewReader, specs.Kept.ArePortsOf, specs.Opened.IsOpened, specs.Opened.IsOpenedOn, specs.declared.input_order.InputOrder.InputOrder, specs.declared.ports.Ports.Ports}

-- a property of each element, and of one more
of_last : {T : Type 0} (P : T → Type 0) (xs : List T) (y other : T) (k : ℕ) → ((j : ℕ) (o : T) → j < length xs → P (get_or xs j o)) → P y
    → k < length (xs ++ y ∷ []) → P (get_or (xs ++ y ∷ []) k other)
of_last P [] y other zero all last within = last
of_last P [] y other (suc k) all last within = absurd (omega (arith, within))
of_last P (x ∷ xs) y other zero all last within = all 0 other (omega arith)
of_last P (x ∷ xs) y other (suc k) all last within = of_last P xs y other k (λ j o lt. all (suc j) o (omega (arith, lt))) last (omega (arith, within))

pub nothing_left : {T : Type 0} (xs : List T) → length xs ≡ 0 → xs ≡ []
nothing_left [] none = refl
nothing_left (x ∷ xs) none = absurd (omega (arith, none))

-- so it is of a list that equals it, by its length
of_each : {T : Type 0} (P : T → Type 0) (xs new : List T) (y other : T) (k n : ℕ) → new ≡ xs ++ y ∷ [] → length xs ≡ n → ((j : ℕ) (o : T) → j < n → P (get_or xs j o)) → P y
    → k < n + 1 → P (get_or new k other)
of_each P xs new y other k n is count all last within =
    subst (λ l. P (get_or l k other)) (sym is)
    (of_last P xs y other k (λ j o lt. all j o (omega (arith, lt, count))) last (omega (arith, within, count, length_more xs y)))

pub ports_more : {P : Type 0} (plan : plans.Desk) (old new : DeskServer) (before after : Ports P) → IsOpenedOn plan old new before after → ArePortsOf old.desks.items before → ArePortsOf new.desks.items after
ports_more plan old new before after on of =
    let desks : length new.desks.items ≡ length old.desks.items + 1 = ap length on.desks.desks ∙ length_more old.desks.items on.desk in
    let readers : length after.readers.items ≡ length before.readers.items + 1 = ap length on.ports.readers ∙ length_more before.readers.items on.reader in
    let writers : length after.writers.items ≡ length before.writers.items + 1 = ap length on.ports.writers ∙ length_more before.writers.items on.writer in
    record {
      readers = omega (arith, readers, desks, of.readers);
      writers = omega (arith, writers, desks, of.writers);
      threads = omega (arith, on.ports.threads, desks, of.threads);
    }

pub opened_more : {P : Type 0} (engine : EngineView) (desks : List plans.Desk) (desk : plans.Desk) (old new : DeskServer) (before after : Ports P) → ArePortsOf old.desks.items before
    → length old.desks.items ≡ length desks → IsOpened engine desks old before → IsOpenedOn desk old new before after → IsOpened engine (desks ++ desk ∷ []) new after
opened_more {P} engine desks desk old new before after of as_many so_far on =
    let n : ℕ = length old.desks.items in
    let count : length new.desks.items ≡ n + 1 = ap length on.desks.desks ∙ length_more old.desks.items on.desk in
    record {
      engine_is = on.desks.engine ∙ so_far.engine_is;
      names = on.desks.names ∙ ap (λ l. l ++ desk.name ∷ []) so_far.names ∙ sym (map-append (λ (d : plans.Desk). d.name) desks (desk ∷ []));
      units = λ k other plan within.
          subst (λ (l : List ServedDesk). (get_or l k other).unit ≡ (get_or (desks ++ desk ∷ []) k plan).unit) (sym on.desks.desks)
          (both_more (λ _ (d : ServedDesk) (p : plans.Desk). d.unit ≡ p.unit) old.desks.items desks on.desk desk as_many on.unit so_far.units k other plan (omega (arith, within, count)));
      last = on.desks.last ∙ so_far.last;
      group = on.desks.group ∙ so_far.group;
      empty = record {
        waits = λ k other within. of_each (λ (d : ServedDesk). d.waiting.lines ≡ []) old.desks.items new.desks.items on.desk other k n on.desks.desks refl so_far.empty.waits on.waits
            (omega (arith, within, count));
        came = λ k plan reader within.
            subst (λ (l : List (Reader (InputOrder P))). IsNewReader (option_map string_bytes (get_or (desks ++ desk ∷ []) k plan).input) (get_or l k reader)) (sym on.ports.readers)
            (both_more (λ _ (r : Reader (InputOrder P)) (p : plans.Desk). IsNewReader (option_map string_bytes p.input) r) before.readers.items desks on.reader desk (of.readers ∙ as_many) on.came
            (λ j r p lt. so_far.empty.came j p r (omega (arith, lt, of.readers))) k reader plan (omega (arith, within, count, of.readers)));
        went = λ k writer within. of_each (λ (w : Writer). sent w.ring ≡ []) before.writers.items after.writers.items on.writer writer k n on.ports.writers of.writers so_far.empty.went on.went
            (omega (arith, within, count));
      };
    }

-- so it is of a server that has no desk
pub opened_none : {P : Type 0} (s : DeskServer) (p : Ports P) → s.desks.items ≡ [] → s.names.items ≡ [] → s.last ≡ None → s.group.items ≡ [] → IsOpened s.engine [] s p
opened_none s p none named last group = record {
  engine_is = refl;
  names = named;
  units = λ k other plan within. absurd (omega (arith, within, ap length none));
  last = last;
  group = group;
  empty = record {
    waits = λ k other within. absurd (omega (arith, within, ap length none));
    came = λ k plan reader within. absurd (omega (arith, within, ap length none));
    went = λ k writer within. absurd (omega (arith, within, ap length none));
  };
}
