-- Files that a crash leaves.
use Rattle.std.proofs.Common.{◌≡◌, ℕ, List, [], ◌∷◌, ◌++◌, refl, sym, ◌∙◌, ap, subst}
use Rattle.std.proofs.lemmas.List.{append-nil}
use Rattle.batch_journal.specs.Disks.{IsPart, Left, MayLeave}

same_behind : (a b c : List ℕ) → a ++ b ≡ a ++ c → b ≡ c
same_behind [] b c e = e
same_behind (x ∷ a) b c e = same_behind a b c (cc e)

part_of_more : (t b x : List ℕ) → IsPart t b → IsPart t (b ++ x)
part_of_more [] b x part = part
part_of_more (y ∷ t) [] x part = absurd part
part_of_more (y ∷ t) (z ∷ b) x part = (part.0, part_of_more t b x part.1)

part_of_none : (t : List ℕ) → IsPart t [] → t ≡ []
part_of_none [] part = refl
part_of_none (y ∷ t) part = absurd part

pub as_of : {durable seen given d s t : List ℕ} (left : Left) → durable ≡ d → seen ≡ s → given ≡ t → MayLeave durable seen given left → MayLeave d s t left
as_of {durable = durable} {seen = seen} {given = given} {d = d} {s = s} {t = t} left is_d is_s is_t may =
    subst (λ x. MayLeave x s t left) is_d (subst (λ x. MayLeave durable x t left) is_s (subst (λ x. MayLeave durable seen x left) is_t may))

-- where all of the file is synced, a crash leaves it
pub leaves_all : (durable seen given : List ℕ) (left : Left) → durable ≡ seen → MayLeave durable seen given left → left.file ≡ seen
leaves_all durable seen given left same may =
    let behind_is : may.disk.behind ≡ [] = same_behind durable _ _ (sym may.disk.written ∙ sym same ∙ sym (append-nil durable)) in
    let tail_is = part_of_none may.disk.tail (subst (λ l. IsPart may.disk.tail l) behind_is may.disk.part) in
    may.disk.leaves ∙ ap (λ l. durable ++ l) tail_is ∙ append-nil durable ∙ same
