-- worked rows: lines of a record that a desk is due, and lines that it isn't.
use Rattle.std.specs.Prelude.{◌≡◌, List, ℕ, true, false, [], ◌∷◌, Some, None, codes}
use Rattle.batch_serve.specs.Dues.{due_lines, is_due}

-- a reply is due to whoever sent the line, be it a console or a link, and to nobody else
abbrev pub ReplyIsOwn : Type 0
ReplyIsOwn =
    (is_due true None (codes "ok start 1 running") ≡ true) × (is_due true (Some (codes "R2")) (codes "refused E4") ≡ true)
    × (is_due false None (codes "created 1 A 1000") ≡ false) × (is_due false (Some (codes "R1")) (codes "ok report R1 ADD done 1 0.0.0.0 running") ≡ false)

-- a console is due each move
abbrev pub ConsoleSeesAll : Type 0
ConsoleSeesAll =
    (is_due false None (codes "start 1 0.0.0.0 R1 ADD") ≡ true) × (is_due false None (codes "grant 1 0.0 R1") ≡ true)
    × (is_due false None (codes "end 1 0.0.0.0") ≡ true) × (is_due true None (codes "state 1 complete") ≡ true)

-- a link is due the starts and sends of its unit
abbrev pub LinkSeesItsOrders : Type 0
LinkSeesItsOrders =
    (is_due false (Some (codes "R1")) (codes "start 1 0.0.0.0 R1 ADD X=5") ≡ true) × (is_due true (Some (codes "R1")) (codes "send 12 0.0.0.0 R1 ADD hold") ≡ true)

-- no line of another unit is due, also of one whose name begins alike, and none of another move
abbrev pub LinkSeesNoOther : Type 0
LinkSeesNoOther =
    (is_due true (Some (codes "R2")) (codes "start 1 0.0.0.0 R1 ADD") ≡ false) × (is_due true (Some (codes "R")) (codes "start 1 0.0.0.0 R1 ADD") ≡ false)
    × (is_due true (Some (codes "R1")) (codes "send 1 0.0.0.0 R12 ADD hold") ≡ false) × (is_due true (Some (codes "R1")) (codes "grant 1 0.0 R1") ≡ false)
    × (is_due true (Some (codes "R1")) (codes "release 1 0.0 R1") ≡ false)

-- a comment is due to nobody
abbrev pub CommentIsDueToNobody : Type 0
CommentIsDueToNobody = is_due true None (codes "# from A") ≡ false

-- a record of three lines of two consoles
abbrev pub two_consoles : List (List ℕ)
two_consoles =
    codes "# from A" ∷ codes "ok start 1 running" ∷ codes "start 1 0.0.0.0 R1 ADD"
    ∷ codes "# from B" ∷ codes "refused E2" ∷ codes "# at 5" ∷ codes "refused W1" ∷ []

-- each is due its own answers, and both the move; a link of another unit is due nothing
abbrev pub RecordIsSorted : Type 0
RecordIsSorted =
    (due_lines (codes "A") None None two_consoles ≡ codes "ok start 1 running" ∷ codes "start 1 0.0.0.0 R1 ADD" ∷ [])
    × (due_lines (codes "B") None None two_consoles ≡ codes "start 1 0.0.0.0 R1 ADD" ∷ codes "refused E2" ∷ codes "refused W1" ∷ [])
    × (due_lines (codes "C") (Some (codes "R2")) None two_consoles ≡ [])
    × (due_lines (codes "D") (Some (codes "R1")) None two_consoles ≡ codes "start 1 0.0.0.0 R1 ADD" ∷ [])
