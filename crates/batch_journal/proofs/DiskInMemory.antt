-- Calls of a disk in memory.
use Rattle.std.proofs.Common.{◌≡◌, ℕ, ◌≤◌, Bool, true, false, List, [], ◌∷◌, ◌++◌, length, take, drop, take-append-drop, sym, ap, subst, ◌∙◌, refl, arith, inr}
use Rattle.std.proofs.lemmas.List.{take_all}
use Rattle.batch_journal.{specs.Disks.IsPart, specs.Disks.Begins, specs.Disks.Left, specs.Disks.MayLeave, specs.Disks.MayCut, specs.Disks.Elapses, specs.Past.choose, specs.Past.LeftBy, specs.Past.LeftSince, specs.Past.one_call, specs.declared.memory.Past.Past, proofs.CrashLemmas.as_of, proofs.CrashLemmas.leaves_all}

first_of : (b : Bool) (X Y : Type 0) → b ≡ false → choose b X Y → X
first_of false X Y e x = x
first_of true X Y e x = absurd (cc e)

to_first : (b : Bool) (X Y : Type 0) → b ≡ false → X → choose b X Y
to_first false X Y e x = x
to_first true X Y e x = absurd (cc e)

second_of : (b : Bool) (X Y : Type 0) → b ≡ true → choose b X Y → Y
second_of true X Y e y = y
second_of false X Y e y = absurd (cc e)

to_second : (b : Bool) (X Y : Type 0) → b ≡ true → Y → choose b X Y
to_second true X Y e y = y
to_second false X Y e y = absurd (cc e)

-- a call that wrote
pub wrote : (durable seen given d s t ld ls lt : List ℕ) (past later : List Past) (p : Past)
    → p.is_cut ≡ false → p.durable.items ≡ d → p.seen.items ≡ s → p.given.items ≡ t → later ≡ past ++ p ∷ []
    → ((left : Left) → MayLeave durable seen given left → MayLeave d s t left) → ((left : Left) → MayLeave ld ls lt left → MayLeave d s t left)
    → Elapses (length past) (length later) (LeftSince durable seen given past) (LeftSince ld ls lt later) (MayLeave d s t)
wrote durable seen given d s t ld ls lt past later p is_cut is_d is_s is_t is_later before after =
    let by : (left : Left) → MayLeave d s t left → LeftBy p left = λ left may. to_first p.is_cut _ _ is_cut (as_of left (sym is_d) (sym is_s) (sym is_t) may) in
    subst (λ (l : List Past). Elapses (length past) (length l) (LeftSince durable seen given past) (LeftSince ld ls lt l) (MayLeave d s t)) (sym is_later)
    (one_call durable seen given ld ls lt past p (MayLeave d s t)
    (λ left had. as_of left is_d is_s is_t (first_of p.is_cut _ _ is_cut had))
    (λ left may. by left (before left may)) (λ left may. by left (after left may)))

-- a cut of a file that is synced
pub was_cut : (durable seen given ld ls : List ℕ) (past later : List Past) (p : Past) (len : ℕ)
    → durable ≡ seen → len ≤ length seen → ls ≡ take len seen → ld ≡ take len seen
    → p.is_cut ≡ true → p.len ≡ len → p.seen.items ≡ seen → p.given.items ≡ given → later ≡ past ++ p ∷ []
    → Elapses (length past) (length later) (LeftSince durable seen given past) (LeftSince ld ls given later) (MayCut len seen given)
was_cut durable seen given ld ls past later p len synced within is_ls is_ld is_cut is_len is_s is_t is_later =
    let by : (left : Left) → MayCut len seen given left → LeftBy p left = λ left may.
    to_second p.is_cut _ _ is_cut (subst (λ x. MayCut x p.seen.items p.given.items left) (sym is_len)
    (subst (λ x. MayCut len x p.given.items left) (sym is_s) (subst (λ x. MayCut len seen x left) (sym is_t) may))) in
    let from : (left : Left) → LeftBy p left → MayCut len seen given left = λ left had.
    subst (λ x. MayCut len seen x left) is_t (subst (λ x. MayCut len x p.given.items left) is_s
    (subst (λ x. MayCut x p.seen.items p.given.items left) is_len (second_of p.is_cut _ _ is_cut had))) in
    subst (λ (l : List Past). Elapses (length past) (length l) (LeftSince durable seen given past) (LeftSince ld ls given l) (MayCut len seen given)) (sym is_later)
    (one_call durable seen given ld ls given past p (MayCut len seen given) from
    (λ left may. by left (record { kept = length seen; least = within; leaves = leaves_all durable seen given left synced may ∙ sym (take_all (length seen) seen (omega arith)); output = may.output }))
    (λ left may. by left (record { kept = len; least = omega arith; leaves = leaves_all ld ls given left (is_ld ∙ sym is_ls) may ∙ is_ls; output = may.output })))

part_of_itself : (l : List ℕ) → IsPart l l
part_of_itself [] = tt
part_of_itself (x ∷ l) = (inr refl, part_of_itself l)

-- a crash before a sync might have left the synced file too
pub after_sync : (durable seen given later : List ℕ) (left : Left) → Begins durable seen → later ≡ seen → MayLeave later seen given left → MayLeave durable seen given left
after_sync durable seen given later left begins is may = record {
  disk = record {
    behind = begins.rest;
    tail = begins.rest;
    written = begins.splits;
    leaves = leaves_all later seen given left is may ∙ begins.splits;
    part = part_of_itself begins.rest;
  };
  output = may.output;
}

pub begins_from : (a b : List ℕ) → take (length a) b ≡ a → Begins a b
begins_from a b front = record { rest = drop (length a) b; splits = sym (take-append-drop (length a) b) ∙ ap (λ l. l ++ drop (length a) b) front }
