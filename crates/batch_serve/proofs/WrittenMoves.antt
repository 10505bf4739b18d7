-- Moves made and written one after another.
use Rattle.std.proofs.Common.{◌≡◌, List, [], ◌∷◌, ◌++◌, ℕ, Option, Some, None, refl, sym, ap, ◌∙◌, append_assoc, append-nil}
use Rattle.std.{specs.Io.KnownBytes.Appends, proofs.KnownBytes.Appends-trans}
use Rattle.batch_model.specs.{Moves.Move, Moves.next, Moves.after_move, Plant.Setup, Plant.Plant, Runs.move}
use Rattle.batch_wire.{specs.RecordText.out_text, specs.Transcript.Settles, specs.Written.AppendsBeginning, proofs.WrittenTexts.then_beginning}
use Rattle.batch_serve.{specs.Answering.moves_text, proofs.Settlement.CanSettle}

-- of the text that waited and that of the moves made so far the front was written, and the rest waits
pub record AreAdded (c : Setup) (first now : Plant) (before after_move : Option (List ℕ)) (waited waits : List ℕ) : Type 0 where
  pub made : List Move
  pub goes_on : (more : List Move) (new : Plant) → Settles c now more new → Settles c first (made ++ more) new
  pub written : List ℕ
  pub appends : Appends before after_move written
  pub splits : waited ++ moves_text made ≡ written ++ waits

text-append : (made more : List Move) → moves_text (made ++ more) ≡ moves_text made ++ moves_text more
text-append [] more = refl
text-append (m ∷ made) more = ap (λ l. out_text (move m) ++ l) (text-append made more) ∙ sym (append_assoc (out_text (move m)) (moves_text made) (moves_text more))

pub none_added : (c : Setup) (first : Plant) (before : Option (List ℕ)) (waited : List ℕ) → Appends before before [] → AreAdded c first first before before waited waited
none_added c first before waited p = record { made = []; goes_on = λ more new s. s; written = []; appends = p; splits = append-nil waited }

-- a text was put behind the one that waits
added_behind : (written waits more rest waited text line : List ℕ) → waited ++ text ≡ written ++ waits → waits ++ line ≡ more ++ rest → waited ++ (text ++ line) ≡ (written ++ more) ++ rest
added_behind written waits more rest waited text line p q =
    sym (append_assoc waited text line) ∙ ap (λ t. t ++ line) p ∙ append_assoc written waits line ∙ ap (λ t. written ++ t) q ∙ sym (append_assoc written more rest)

pub one_more : (c : Setup) (first now new : Plant) (m : Move) (x y z : Option (List ℕ)) (waited waits rest : List ℕ) → AreAdded c first now x y waited waits
    → next c now ≡ Some m → new ≡ after_move now m → (written : List ℕ) × Appends y z written × (waits ++ out_text (move m) ≡ written ++ rest) → AreAdded c first new x z waited rest
one_more c first now new m x y z waited waits rest h first_is is (more, p, e) = record {
  made = h.made ++ m ∷ [];
  goes_on = λ more last s. rw append_assoc (h.goes_on (m ∷ more) last (first_is, rw (← is) s));
  written = h.written ++ more;
  appends = Appends-trans x y z _ _ h.appends p;
  splits = rw (text-append h.made (m ∷ []), append-nil (out_text (move m))) (added_behind h.written waits more rest waited (moves_text h.made) (out_text (move m)) h.splits e);
}

-- no move follows
pub all_added : (c : Setup) (first now new : Plant) (x y : Option (List ℕ)) (waited waits : List ℕ) → AreAdded c first now x y waited waits → next c now ≡ None → new ≡ now
    → (moves : List Move) × Settles c first moves new × (written : List ℕ) × Appends x y written × (waited ++ moves_text moves ≡ written ++ waits)
all_added c first now new x y waited waits h none same = (h.made, (rw append-nil at (h.goes_on [] new (none, same))), h.written, h.appends, h.splits)

-- a fault came at a move
pub part_added : (c : Setup) (first now new : Plant) (m : Move) (x y z : Option (List ℕ)) (waited waits : List ℕ) → CanSettle c new → AreAdded c first now x y waited waits
    → next c now ≡ Some m → new ≡ after_move now m → AppendsBeginning y z (waits ++ out_text (move m))
    → (moves : List Move) × (last : Plant) × Settles c first moves last × AppendsBeginning x z (waited ++ moves_text moves)
part_added c first now new m x y z waited waits later h first_is is p =
    let line = out_text (move m) in
    let rest = moves_text later.moves in
    let text : waited ++ moves_text (h.made ++ m ∷ later.moves) ≡ h.written ++ ((waits ++ line) ++ rest) =
    ap (λ t. waited ++ t) (text-append h.made (m ∷ later.moves)) ∙ sym (append_assoc waited (moves_text h.made) (line ++ rest))
    ∙ ap (λ t. t ++ (line ++ rest)) h.splits ∙ append_assoc h.written waits (line ++ rest) ∙ ap (λ t. h.written ++ t) (sym (append_assoc waits line rest)) in (
      h.made ++ m ∷ later.moves,
      later.new,
      h.goes_on (m ∷ later.moves) later.new (first_is, rw (← is) later.settles),
      rw text (then_beginning x y z h.written (waits ++ line) rest h.appends p),
    )
