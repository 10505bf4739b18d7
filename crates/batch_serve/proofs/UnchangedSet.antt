-- The engine keeps its cleared set, so a property that holds by the set before a call holds by the set at the beginning.
use Rattle.std.proofs.Common.{◌≡◌, Option, Some, None, option_map, sym, ap, subst, ◌∙◌, Result, ℕ, List}
use Rattle.batch_model.specs.{Events.Event, Moves.next, Moves.after_move, Plant.Setup, Plant.Plant}
use Rattle.batch_verify.specs.ClearedSet.{ClearedSet}
use Rattle.batch_engine.specs.{Led.IsLed, Surface.move_of, Surface.plant_after, View.EngineView, View.setup, View.plant_of, declared.line.Line.Line}
use Rattle.batch_wire.specs.{Transcript.Exchange, Transcript.Answers, declared.fault.WireFault.WireFault, WrittenTranscript.WritesTranscript, WrittenTranscript.BeginsTranscript}
use Rattle.batch_serve.{specs.Serving.IsServed, specs.Serving.IsCutOff, specs.Settled.IsSettled, proofs.Settlement.CanSettle, proofs.Settlement.settle}

pub next_in : (a set : ClearedSet) (s : Plant) (line : Line) → a ≡ set → option_map (move_of a) (Some line) ≡ next (setup a) s
    → next (setup set) s ≡ Some (move_of set line)
next_in a set s line kept h = subst (λ (k : ClearedSet). next (setup k) s ≡ Some (move_of k line)) kept (sym h)

pub none_in : (a set : ClearedSet) (s : Plant) → a ≡ set → None ≡ next (setup a) s → next (setup set) s ≡ None
none_in a set s kept h = subst (λ (k : ClearedSet). next (setup k) s ≡ None) kept (sym h)

pub after_in : (a set : ClearedSet) (s new : Plant) (line : Line) → a ≡ set → new ≡ plant_after a s (Some line) → new ≡ after_move s (move_of set line)
after_in a set s new line kept h = h ∙ ap (λ (k : ClearedSet). after_move s (move_of k line)) kept

pub settle_in : (v : EngineView) (set : ClearedSet) → v.cleared ≡ set → IsLed v → CanSettle (setup set) (plant_of v)
settle_in v set kept led = subst (λ (k : ClearedSet). CanSettle (setup k) (plant_of v)) kept (settle v led)

-- a property of a set holds of an equal one
pub in_set : (P : Setup → Type 0) (a set : ClearedSet) → a ≡ set → P (setup a) → P (setup set)
in_set P a set kept h = subst (λ (k : ClearedSet). P (setup k)) kept h

pub answers_in : (a set : ClearedSet) (s new : Plant) (said : Result (Option Event) WireFault) (exchange : Exchange) → a ≡ set
    → Answers (setup a) s said exchange new → Answers (setup set) s said exchange new
answers_in a set s new said exchange kept h = in_set (λ d. Answers d s said exchange new) a set kept h

pub settled_in : (a set : ClearedSet) (s : Plant) → a ≡ set → IsSettled (setup a) s → IsSettled (setup set) s
settled_in a set s kept h = in_set (λ d. IsSettled d s) a set kept h

pub served_in : (a set : ClearedSet) (first : Plant) (read : List ℕ) (now : Plant) (kept : List ℕ) (before after_move : Option (List ℕ)) → a ≡ set
    → IsServed (setup a) first read now kept before after_move → IsServed (setup set) first read now kept before after_move
served_in a set first read now kept before after_move same h = in_set (λ d. IsServed d first read now kept before after_move) a set same h

pub cut_in : (a set : ClearedSet) (first : Plant) (read : List ℕ) (before after_move : Option (List ℕ)) → a ≡ set
    → IsCutOff (setup a) first read before after_move → IsCutOff (setup set) first read before after_move
cut_in a set first read before after_move same h = in_set (λ d. IsCutOff d first read before after_move) a set same h

pub writes_in : (a set : ClearedSet) (first : Plant) (lines : List (List ℕ)) (new : Plant) (before after_move : Option (List ℕ)) → a ≡ set
    → WritesTranscript (setup a) first lines new before after_move → WritesTranscript (setup set) first lines new before after_move
writes_in a set first lines new before after_move same h = in_set (λ d. WritesTranscript d first lines new before after_move) a set same h

pub begins_in : (a set : ClearedSet) (first : Plant) (lines : List (List ℕ)) (before after_move : Option (List ℕ)) → a ≡ set
    → BeginsTranscript (setup a) first lines before after_move → BeginsTranscript (setup set) first lines before after_move
begins_in a set first lines before after_move same h = in_set (λ d. BeginsTranscript d first lines before after_move) a set same h
