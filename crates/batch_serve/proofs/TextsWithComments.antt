-- Texts with comments.
use Rattle.std.proofs.Common.{◌≡◌, ℕ, zero, suc, ◌+◌, ◌<◌, ◌^◌, min, Bool, true, false, not, ◌&&◌, List, [], ◌∷◌, ◌++◌, length, take, take-append-drop, drop, get_or, Option, Some, None, inl, inr, decimal, refl, sym, ◌∙◌, ap, subst, append_assoc, append-nil, eqb, arith}
use Rattle.std.{proofs.lemmas.Bool.and_parts, proofs.lemmas.Bool.cases_lt, proofs.lemmas.Bool.eqb-true, proofs.lemmas.Bool.false_from_ne_true, proofs.lemmas.Fmt.digits_decimal, proofs.lemmas.List.drop_at, proofs.lemmas.List.take_all, proofs.lemmas.List.take_at, proofs.lemmas.List.take_more, proofs.lemmas.List.Elements.All-from_get_or, proofs.lemmas.Str.Parse.numerals_by_value, proofs.lemmas.Str.Parse.tells_all_ascii_digits, proofs.lemmas.List.Sums.list_all-from_AllPass, proofs.KnownBytes.Keeps-refl, specs.Io.KnownBytes.Appends, specs.Io.KnownBytes.Keeps, specs.List.list_all, specs.Prelude.if◌then◌else◌, specs.Prelude.option_map, specs.Char.is_ascii_digit, specs.Str.all_ascii_digits}
use Rattle.memchr.specs.Find.{IsFirstByte, is_byte}
use Rattle.batch_serve.{specs.Comments.is_hidden, specs.Comments.kept_from, specs.Comments.next_spot, specs.Comments.spot_behind, specs.Comments.without_comments, specs.Comments.IsRemarked, specs.Remarking.IsCommentPart, specs.Remarking.EndsAtSpot, specs.Remarking.is_plain, specs.Remarking.uncommented, specs.declared.remarked.TextSpot.TextSpot, specs.declared.remarked.TextSpot.TheVariants.Start, specs.declared.remarked.TextSpot.TheVariants.Line, specs.declared.remarked.TextSpot.TheVariants.Comment, proofs.Replays.is_other, proofs.Replays.none_first, proofs.HeldText.is_false}
use Rattle.batch_wire.specs.Written.{AppendsBeginning}

pub same_spot : (first x : Option (List ℕ)) (spot other : TextSpot) (cut whole : Bool) → (cut ≡ whole) → (spot ≡ other) → EndsAtSpot first x spot cut → EndsAtSpot first x other whole
same_spot first x spot other cut whole is same at = subst (λ t. EndsAtSpot first x other t) is (subst (λ s. EndsAtSpot first x s cut) same at)

pub take_min : (n m : ℕ) (xs : List ℕ) → n ≡ min (length xs) m → take n xs ≡ take m xs
take_min n m xs is = elim (cases_lt m (length xs)) [
  | inl lt ↦ let k : n ≡ m = grind (arith, is, lt) in ap (λ j. take j xs) k
  | inr le ↦ let k : n ≡ length xs = grind (arith, is, le) in take_all n xs (omega (arith, k)) ∙ sym (take_all m xs le)
]

-- One text behind another

pub spot-append : (spot : TextSpot) (a b : List ℕ) → spot_behind spot (a ++ b) ≡ spot_behind (spot_behind spot a) b
spot-append spot [] b = refl
spot-append spot (x ∷ a) b = spot-append (next_spot spot x) a b

kept_cons : (hidden : Bool) (x : ℕ) (a b all : List ℕ) → all ≡ a ++ b → (if hidden then all else x ∷ all) ≡ (if hidden then a else x ∷ a) ++ b
kept_cons true x a b all is = is
kept_cons false x a b all is = ap (λ l. x ∷ l) is

pub kept-append : (spot : TextSpot) (a b : List ℕ) → kept_from spot (a ++ b) ≡ kept_from spot a ++ kept_from (spot_behind spot a) b
kept-append spot [] b = refl
kept-append spot (x ∷ a) b =
    kept_cons (is_hidden spot x) x (kept_from (next_spot spot x) a) (kept_from (spot_behind (next_spot spot x) a) b) (kept_from (next_spot spot x) (a ++ b)) (kept-append (next_spot spot x) a b)

-- Text without comments

start_on : (feed hash : Bool) → hash ≡ false → (if feed then Start else (if hash then Comment else Line)) ≡ Comment → ⊥
start_on true hash is same = absurd (cc same)
start_on false true is same = absurd (cc is)
start_on false false is same = absurd (cc same)

line_on : (feed : Bool) → (if feed then Start else Line) ≡ Comment → ⊥
line_on true same = absurd (cc same)
line_on false same = absurd (cc same)

outside_on : (spot : TextSpot) (b : ℕ) → (spot ≡ Comment → ⊥) → is_plain b ≡ true → next_spot spot b ≡ Comment → ⊥
outside_on Start b outside plain = start_on (eqb b 10) (eqb b 35) (is_false (eqb b 35) plain)
outside_on Line b outside plain = line_on (eqb b 10)
outside_on Comment b outside plain = absurd (outside refl)

shown : (spot : TextSpot) (b : ℕ) → (spot ≡ Comment → ⊥) → is_plain b ≡ true → is_hidden spot b ≡ false
shown Start b outside plain = is_false (eqb b 35) plain
shown Line b outside plain = refl
shown Comment b outside plain = absurd (outside refl)

shown_cons : (hidden : Bool) (b : ℕ) (all bytes : List ℕ) → hidden ≡ false → all ≡ bytes → (if hidden then all else b ∷ all) ≡ b ∷ bytes
shown_cons true b all bytes is same = absurd (cc is)
shown_cons false b all bytes is same = ap (λ l. b ∷ l) same

pub plain_kept : (spot : TextSpot) (bytes : List ℕ) → (spot ≡ Comment → ⊥) → list_all is_plain bytes ≡ true → kept_from spot bytes ≡ bytes
plain_kept spot [] outside plain = refl
plain_kept spot (b ∷ bytes) outside plain =
    let parts = and_parts (is_plain b) (list_all is_plain bytes) plain in
    shown_cons (is_hidden spot b) b (kept_from (next_spot spot b) bytes) bytes (shown spot b outside parts.0)
    (plain_kept (next_spot spot b) bytes (outside_on spot b outside parts.0) parts.1)

pub plain_all : (bytes : List ℕ) → IsFirstByte (is_byte 35) bytes None → list_all is_plain bytes ≡ true
plain_all bytes none =
    list_all-from_AllPass is_plain bytes (All-from_get_or (λ b. is_plain b ≡ true) bytes 0 (λ i l.
    ap not (false_from_ne_true (eqb (get_or bytes i 0) 35) (none i (omega arith) l))))

pub spot_on : (spot : TextSpot) (bytes : List ℕ) (i : ℕ) → i < length bytes
    → spot_behind spot (take (i + 1) bytes) ≡ next_spot (spot_behind spot (take i bytes)) (get_or bytes i 0)
spot_on spot bytes i within = ap (spot_behind spot) (take_more bytes i 0 within) ∙ spot-append spot (take i bytes) (get_or bytes i 0 ∷ [])

-- Comments

comment_on : (b : ℕ) → is_other b ≡ true → next_spot Comment b ≡ Comment
comment_on b other = go (eqb b 10) (is_false (eqb b 10) other)
  where
    go : (feed : Bool) → feed ≡ false → ◌≡◌ {A = TextSpot} (if feed then Start else Comment) Comment
    go true is = absurd (cc is)
    go false is = refl

pub comment_part : (bytes : List ℕ) → list_all is_other bytes ≡ true → IsCommentPart Comment bytes Comment
comment_part [] other = record { hidden = refl; stands = refl }
comment_part (b ∷ bytes) other =
    let parts = and_parts (is_other b) (list_all is_other bytes) other in
    let on = comment_part bytes parts.1 in
    record {
      hidden = ap (λ s. kept_from s bytes) (comment_on b parts.0) ∙ on.hidden;
      stands = ap (λ s. spot_behind s bytes) (comment_on b parts.0) ∙ on.stands;
    }

pub other_byte : (b : ℕ) → (b ≡ 10 → ⊥) → is_other b ≡ true
other_byte b not_feed = go (eqb b 10) refl
  where
    go : (feed : Bool) → eqb b 10 ≡ feed → not feed ≡ true
    go true is = absurd (not_feed (eqb-true b 10 is))
    go false is = refl

both : (s t : Bool) → s ≡ true → t ≡ true → (s && t) ≡ true
both true t is other = other
both false t is other = absurd (cc is)

-- a byte that passes a test which a line feed doesn't pass
passes : (test : ℕ → Bool) (b : ℕ) → test 10 ≡ false → test b ≡ true → is_other b ≡ true
passes test b fails is = other_byte b (λ feed. let clash : false ≡ true = sym fails ∙ ap test (sym feed) ∙ is in absurd (cc clash))

pub plain_take : (n : ℕ) (bytes : List ℕ) → list_all is_plain bytes ≡ true → list_all is_plain (take n bytes) ≡ true
plain_take zero bytes is = refl
plain_take (suc n) [] is = refl
plain_take (suc n) (b ∷ bytes) is =
    let parts = and_parts (is_plain b) (list_all is_plain bytes) is in
    both (is_plain b) (list_all is_plain (take n bytes)) parts.0 (plain_take n bytes parts.1)

pub digits_other : (ds : List ℕ) → all_ascii_digits ds ≡ true → list_all is_other ds ≡ true
digits_other [] is = refl
digits_other (d ∷ ds) is =
    let parts = and_parts (is_ascii_digit d) (all_ascii_digits ds) is in
    both (is_other d) (list_all is_other ds) (passes is_ascii_digit d refl parts.0) (digits_other ds parts.1)

pub decimal_part : (ds : List ℕ) (n : ℕ) → ds ≡ decimal n → n < 2 ^ 64 → IsCommentPart Comment ds Comment
decimal_part ds n is fits =
    let digits : all_ascii_digits (decimal n) ≡ true = digits_decimal (numerals_by_value _ tells_all_ascii_digits) n fits in
    comment_part ds (digits_other ds (ap all_ascii_digits is ∙ digits))

-- The contents of a writer

-- the text after the first contents
record HasTold (held : List ℕ) (contents : Option (List ℕ)) (spot : TextSpot) (cut : Bool) : Type 0 where
  pub text : List ℕ
  pub has : contents ≡ Some (held ++ text)
  pub stands : cut ≡ false → spot_behind Start text ≡ spot

has_told : (held : List ℕ) (contents : Option (List ℕ)) (spot : TextSpot) (cut : Bool) → EndsAtSpot (Some held) contents spot cut → HasTold held contents spot cut
has_told held None spot cut at = absurd (cc (at.kept held refl))
has_told held (Some all) spot cut at =
    let front : take (length held) all ≡ held = cc (at.kept held refl) in
    record {
      text = drop (length held) all;
      has = ap Some (sym (take-append-drop (length held) all) ∙ ap (λ l. l ++ drop (length held) all) front);
      stands = at.stands held all refl refl;
    }

behind_held : (held text other all : List ℕ) → ◌≡◌ {A = Option (List ℕ)} (Some held) (Some other) → ◌≡◌ {A = Option (List ℕ)} (Some (held ++ text)) (Some all) → drop (length other) all ≡ text
behind_held held text other all is same =
    let one : held ≡ other = cc is in
    let two : held ++ text ≡ all = cc same in
    ap (drop (length other)) (sym two ∙ ap (λ l. l ++ text) one) ∙ drop_at other text (length other) refl

stands_at : (held : List ℕ) (contents : Option (List ℕ)) (spot : TextSpot) (cut : Bool) → HasTold held contents spot cut → EndsAtSpot (Some held) contents spot cut
stands_at held contents spot cut told = record {
  kept = λ other is.
      let one : held ≡ other = cc is in
      ap (option_map (take (length other))) (told.has ∙ ap (λ l. Some (l ++ told.text)) one) ∙ ap Some (take_at other told.text (length other) refl);
  stands = λ other all is same whole. ap (spot_behind Start) (behind_held held told.text other all is (sym told.has ∙ same)) ∙ told.stands whole;
}

unknown : (contents : Option (List ℕ)) (spot : TextSpot) (cut : Bool) → EndsAtSpot None contents spot cut
unknown contents spot cut = record { kept = λ held is. absurd (cc is); stands = λ held all is. absurd (cc is) }

uncommented_is : (held text : List ℕ) → uncommented (Some held) (Some (held ++ text)) ≡ Some (held ++ without_comments text)
uncommented_is held text = ap (λ l. Some (held ++ without_comments l)) (drop_at held text (length held) refl)

pub remarked : (first contents : Option (List ℕ)) (spot : TextSpot) (cut : Bool) → EndsAtSpot first contents spot cut → IsRemarked first contents (uncommented first contents)
remarked None contents spot cut at = record { known = λ held is. absurd (cc is) }
remarked (Some held) contents spot cut at =
    let told = has_told held contents spot cut at in
    record {
      known = λ other is.
          let same : held ≡ other = cc is in (
            told.text,
            told.has ∙ ap (λ l. Some (l ++ told.text)) same,
            ap (uncommented (Some held)) told.has ∙ uncommented_is held told.text ∙ ap (λ l. Some (l ++ without_comments told.text)) same,
          );
    }

-- a text was written: its part outside comments counts
module _ (held text : List ℕ) (spot : TextSpot) (stands : spot_behind Start text ≡ spot) (t : List ℕ) where
  grown : (old : Option (List ℕ)) → old ≡ Some (held ++ text) → (new : Option (List ℕ)) → Appends (Some (held ++ text)) new t
      → Appends (uncommented (Some held) old) (uncommented (Some held) new) (kept_from spot t) × HasTold held new (spot_behind spot t) false
  grown old is None appends = absurd appends
  grown old is (Some ys) appends =
      let all : ys ≡ held ++ (text ++ t) = appends ∙ append_assoc held text t in
      let plain : without_comments (text ++ t) ≡ without_comments text ++ kept_from spot t =
      kept-append Start text t ∙ ap (λ s. without_comments text ++ kept_from s t) stands in
      let kept : held ++ without_comments (drop (length held) ys) ≡ (held ++ without_comments text) ++ kept_from spot t =
      ap (λ l. held ++ without_comments (drop (length held) l)) all ∙ ap (λ l. held ++ without_comments l) (drop_at held (text ++ t) (length held) refl)
      ∙ ap (λ l. held ++ l) plain ∙ sym (append_assoc held (without_comments text) (kept_from spot t)) in (
        subst (λ (o : Option (List ℕ)). Appends o (Some (held ++ without_comments (drop (length held) ys))) (kept_from spot t))
            (sym (ap (uncommented (Some held)) is ∙ uncommented_is held text)) kept,
        record { text = text ++ t; has = ap Some all; stands = λ _. spot-append Start text t ∙ ap (λ s. spot_behind s t) stands },
      )

told : (first x y : Option (List ℕ)) (spot : TextSpot) (t : List ℕ) → EndsAtSpot first x spot false → Appends x y t
    → Appends (uncommented first x) (uncommented first y) (kept_from spot t) × EndsAtSpot first y (spot_behind spot t) false
told None x y spot t at appends = (tt, unknown y (spot_behind spot t) false)
told (Some held) x y spot t at appends =
    let before = has_told held x spot false at in
    let now = grown held before.text spot (before.stands refl) t x before.has y (subst (λ (o : Option (List ℕ)). Appends o y t) before.has appends) in
    (now.0, stands_at held y (spot_behind spot t) false now.1)

keeps_nil : (a b : Option (List ℕ)) → Appends a b [] → Keeps a b
keeps_nil None b appends = tt
keeps_nil (Some x) None appends = absurd appends
keeps_nil (Some x) (Some y) appends = appends ∙ append-nil x

pub kept_nil : (a b : Option (List ℕ)) → Keeps a b → Appends a b []
kept_nil None b keeps = tt
kept_nil (Some x) None keeps = absurd keeps
kept_nil (Some x) (Some y) keeps = keeps ∙ sym (append-nil x)

-- a part of a comment was written
pub told_part : (first x y : Option (List ℕ)) (spot to : TextSpot) (t : List ℕ) → IsCommentPart spot t to → EndsAtSpot first x spot false → Appends x y t
    → Keeps (uncommented first x) (uncommented first y) × EndsAtSpot first y to false
told_part first x y spot to t part at appends =
    let now = told first x y spot t at appends in (
      keeps_nil (uncommented first x) (uncommented first y) (subst (Appends (uncommented first x) (uncommented first y)) part.hidden now.0),
      subst (λ s. EndsAtSpot first y s false) part.stands now.1,
    )

-- or a beginning of it
pub told_cut : (first x y : Option (List ℕ)) (spot to other : TextSpot) (t : List ℕ) → IsCommentPart spot t to → EndsAtSpot first x spot false → AppendsBeginning x y t
    → Keeps (uncommented first x) (uncommented first y) × EndsAtSpot first y other true
told_cut first x y spot to other t part at begins =
    let now = told first x y spot begins.written at begins.appends in
    let none : kept_from spot begins.written ≡ [] =
    none_first (kept_from spot begins.written) (kept_from (spot_behind spot begins.written) begins.rest)
    (sym (kept-append spot begins.written begins.rest) ∙ ap (kept_from spot) (sym begins.splits) ∙ part.hidden) in (
      keeps_nil (uncommented first x) (uncommented first y) (subst (Appends (uncommented first x) (uncommented first y)) none now.0),
      record { kept = now.1.kept; stands = λ held all is same whole. absurd (cc whole) },
    )

-- nothing was written
pub told_nothing : (first x y : Option (List ℕ)) (spot : TextSpot) (cut : Bool) → Keeps x y → EndsAtSpot first x spot cut
    → Keeps (uncommented first x) (uncommented first y) × EndsAtSpot first y spot cut
told_nothing first None y spot cut keeps at = go first at
  where
    go : (start : Option (List ℕ)) → EndsAtSpot start None spot cut → Keeps (uncommented start None) (uncommented start y) × EndsAtSpot start y spot cut
    go None stands = (tt, unknown y spot cut)
    go (Some held) stands = absurd (cc (stands.kept held refl))
told_nothing first (Some xs) None spot cut keeps at = absurd keeps
told_nothing first (Some xs) (Some ys) spot cut keeps at = (
  subst (λ l. Keeps (uncommented first (Some xs)) (uncommented first (Some l))) (sym keeps) (Keeps-refl (uncommented first (Some xs))),
  subst (λ l. EndsAtSpot first (Some l) spot cut) (sym keeps) at,
)

-- text that is no comment was written
pub told_plain : (first x y : Option (List ℕ)) (spot : TextSpot) (t : List ℕ) → (spot ≡ Comment → ⊥) → list_all is_plain t ≡ true → EndsAtSpot first x spot false → Appends x y t
    → Appends (uncommented first x) (uncommented first y) t × EndsAtSpot first y (spot_behind spot t) false
told_plain first x y spot t outside plain at appends =
    let now = told first x y spot t at appends in
    (subst (Appends (uncommented first x) (uncommented first y)) (plain_kept spot t outside plain) now.0, now.1)
