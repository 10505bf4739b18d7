-- surface: the moments that a disk in memory has had.
use Rattle.std.specs.Prelude.{◌⊎◌, ℕ, ◌≤◌, suc, Bool, true, false, List, [], ◌∷◌, ◌++◌, length, drop}
use Rattle.std.proofs.Common.{zero, inl, inr, ⊎_elim, arith, ap, ◌∙◌, append_assoc, length-append}
use Rattle.batch_journal.specs.Disks.{IsPart, Left, MayLeave, MayCut, Elapses}
use Rattle.batch_journal.specs.declared.memory.Past.{Past}

abbrev pub choose : Bool → Type 0 → Type 0 → Type 0
choose false X Y = X
choose true X Y = Y

-- a crash in this call of the past may have left this
abbrev pub LeftBy : Past → Left → Type 0
LeftBy p left = choose p.is_cut (MayLeave p.durable.items p.seen.items p.given.items left) (MayCut p.len p.seen.items p.given.items left)

abbrev pub HadLeft : List Past → Left → Type 0
HadLeft [] left = ⊥
HadLeft (p ∷ past) left = LeftBy p left ⊎ HadLeft past left

abbrev pub LeftSince : List ℕ → List ℕ → List ℕ → List Past → ℕ → Left → Type 0
LeftSince durable seen given past t left = MayLeave durable seen given left ⊎ HadLeft (drop t past) left

none_left : (past : List Past) (left : Left) → HadLeft (drop (length past) past) left → ⊥
none_left [] left had = had
none_left (p ∷ past) left had = none_left past left had

-- since the last of them there is only the present moment
pub only_now : (durable seen given : List ℕ) (past : List Past) (left : Left) → LeftSince durable seen given past (length past) left → MayLeave durable seen given left
only_now durable seen given past left (inl now) = now
only_now durable seen given past left (inr had) = absurd (none_left past left had)

had_more : (past : List Past) (p : Past) (t : ℕ) (left : Left) → t ≤ length past → HadLeft (drop t (past ++ p ∷ [])) left → HadLeft (drop t past) left ⊎ LeftBy p left
had_more [] p zero left le (inl by) = inr by
had_more [] p zero left le (inr none) = absurd none
had_more [] p (suc t) left le had = absurd (omega (arith, le))
had_more (q ∷ past) p zero left le (inl by) = inl (inl by)
had_more (q ∷ past) p zero left le (inr had) = ⊎_elim (λ a. inl (inr a)) (λ b. inr b) (had_more past p zero left (omega arith) had)
had_more (q ∷ past) p (suc t) left le had = had_more past p t left (omega (arith, le)) had

had_before : (past : List Past) (p : Past) (t : ℕ) (left : Left) → t ≤ length past → HadLeft (drop t past) left → HadLeft (drop t (past ++ p ∷ [])) left
had_before [] p zero left le had = absurd had
had_before [] p (suc t) left le had = absurd had
had_before (q ∷ past) p zero left le (inl by) = inl by
had_before (q ∷ past) p zero left le (inr had) = inr (had_before past p zero left (omega arith) had)
had_before (q ∷ past) p (suc t) left le had = had_before past p t left (omega (arith, le)) had

had_last : (past : List Past) (p : Past) (t : ℕ) (left : Left) → t ≤ length past → LeftBy p left → HadLeft (drop t (past ++ p ∷ [])) left
had_last [] p zero left le by = inl by
had_last [] p (suc t) left le by = absurd (omega (arith, le))
had_last (q ∷ past) p zero left le by = inr (had_last past p zero left (omega arith) by)
had_last (q ∷ past) p (suc t) left le by = had_last past p t left (omega (arith, le)) by

-- a call that is kept: a crash in it may leave all that one before it or after it may leave
pub one_call : (durable seen given later_durable later_seen later_given : List ℕ) (past : List Past) (p : Past) (may : Left → Type 0)
    → ((left : Left) → LeftBy p left → may left) → ((left : Left) → MayLeave durable seen given left → LeftBy p left)
    → ((left : Left) → MayLeave later_durable later_seen later_given left → LeftBy p left)
    → Elapses (length past) (length (past ++ p ∷ [])) (LeftSince durable seen given past) (LeftSince later_durable later_seen later_given (past ++ p ∷ [])) may
one_call durable seen given later_durable later_seen later_given past p may is before after = record {
  later = omega (arith, length-append past (p ∷ []));
  nothing_else = λ t left le since. ⊎_elim (λ now. inr (is left (after left now))) (λ had. ⊎_elim (λ a. inl (inr a)) (λ by. inr (is left by)) (had_more past p t left le had)) since;
  keeps = λ t left le was. ⊎_elim (λ now. inr (had_last past p t left le (before left now))) (λ had. inr (had_before past p t left le had)) was;
}

-- nothing is done
pub no_call : (durable seen given : List ℕ) (past : List Past) (may : Left → Type 0)
    → Elapses (length past) (length past) (LeftSince durable seen given past) (LeftSince durable seen given past) may
no_call durable seen given past may = record { later = omega arith; nothing_else = λ t left le since. inl since; keeps = λ t left le was. was }

part_of_more : (t b x : List ℕ) → IsPart t b → IsPart t (b ++ x)
part_of_more [] b x part = part
part_of_more (y ∷ t) [] x part = absurd part
part_of_more (y ∷ t) (z ∷ b) x part = (part.0, part_of_more t b x part.1)

pub before_append : (durable seen given bytes : List ℕ) (left : Left) → MayLeave durable seen given left → MayLeave durable (seen ++ bytes) given left
before_append durable seen given bytes left may = record {
  disk = record {
    behind = may.disk.behind ++ bytes;
    tail = may.disk.tail;
    written = ap (λ l. l ++ bytes) may.disk.written ∙ append_assoc durable may.disk.behind bytes;
    leaves = may.disk.leaves;
    part = part_of_more may.disk.tail may.disk.behind bytes may.disk.part;
  };
  output = may.output;
}

pub before_give : (durable seen given bytes : List ℕ) (left : Left) → MayLeave durable seen given left → MayLeave durable seen (given ++ bytes) left
before_give durable seen given bytes left may = record {
  disk = may.disk;
  output = record { rest = may.output.rest ++ bytes; splits = ap (λ l. l ++ bytes) may.output.splits ∙ append_assoc left.given may.output.rest bytes };
}
