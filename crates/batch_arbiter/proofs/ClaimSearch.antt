-- The claims of a list by their places, for searches along it.
use Rattle.std.proofs.Common.{ℕ, ◌≡◌, ◌+◌, ◌-◌, ◌<◌, List, length, get_or, sym, ap, ◌∙◌, subst, arith, suc, true, false, below_more}
use Rattle.batch_arbiter.{specs.declared.entry.Entry.Entry, specs.declared.ends.Ends.Ends, specs.Allocation.Claim, specs.Allocation.is_claim, specs.Linked.at, specs.Linked.entry_claim, specs.Linked.claims_from, specs.Linked.entry_claims, specs.Linked.IsSomeList, specs.Linked.IsBefore, specs.Linked.HasNone, specs.Linked.is_claim_behind, specs.Linked.behind, proofs.EntryWrites.behind-within, proofs.EntryRemoval.behind-suc, proofs.Calls.length-claims, proofs.Positions.IsFirst}

pub claims-behind : (es : List Entry) (n first k : ℕ) (d : Claim) → k < n → get_or (claims_from es n first) k d ≡ entry_claim (at es (behind es k first))
claims-behind es (suc n) first (suc k) d h = claims-behind es n (at es first).next k d (omega arith)
claims-behind es n first k d h = grind arith

pub none-behind : (es : List Entry) (l : Ends) (batch node : ℕ) → ((m : ℕ) → m < l.len → is_claim_behind es l batch node m ≡ false) → HasNone batch node (entry_claims es l)
none-behind es l batch node none k d h =
    let lt : k < l.len = omega (arith, length-claims es l.len l.first) in
    ap (is_claim batch node) (claims-behind es l.len l.first k d lt) ∙ none k lt

-- where the search stands after so many places: this entry is before the next one, and none so far is the act's
pub record Seeks (es : List Entry) (l : Ends) (batch node counter before : ℕ) : Type 0 where
  pub begun : 0 < counter
  pub is : before ≡ behind es (counter - 1) l.first
  pub others : (m : ℕ) → m < counter → is_claim_behind es l batch node m ≡ false

pub before-within : (es : List Entry) (l : Ends) (batch node counter before : ℕ) → Seeks es l batch node counter before → IsSomeList es l → counter < l.len → before < length es
before-within es l batch node counter before s it lt = grind (arith, behind-within)

-- the entry behind it
pub next-behind : (es : List Entry) (l : Ends) (batch node counter before : ℕ) → Seeks es l batch node counter before → (at es before).next ≡ behind es counter l.first
next-behind es l batch node counter before s = grind (arith, behind-suc es (counter - 1) l.first)

pub next-within : (es : List Entry) (l : Ends) (batch node counter before : ℕ) → Seeks es l batch node counter before → IsSomeList es l → counter < l.len → (at es before).next < length es
next-within es l batch node counter before s it lt = grind (arith, next-behind es l batch node counter before s, behind-within it.part it.parts es counter l.len l.first l.end lt it.linked)

pub Seeks-found : (es : List Entry) (l : Ends) (batch node counter before : ℕ) → Seeks es l batch node counter before → counter < l.len → is_claim batch node (entry_claim (at es (at es before).next)) ≡ true → IsBefore es l batch node before
Seeks-found es l batch node counter before s lt here =
    let more : suc (counter - 1) ≡ counter = omega (arith, s.begun) in
    record {
      place = counter - 1;
      is = s.is;
      within = omega (arith, more, lt);
      others = λ m h. s.others m (omega (arith, more, h));
      here = subst (λ (x : ℕ). is_claim_behind es l batch node x ≡ true) (sym more) (ap (λ x. is_claim batch node (entry_claim (at es x))) (sym (next-behind es l batch node counter before s)) ∙ here);
    }

pub Seeks-more : (es : List Entry) (l : Ends) (batch node counter before : ℕ) → Seeks es l batch node counter before → is_claim batch node (entry_claim (at es (at es before).next)) ≡ false → Seeks es l batch node (counter + 1) (at es before).next
Seeks-more es l batch node counter before s other =
    let less : counter ≡ (counter + 1) - 1 = omega arith in
    let here : is_claim_behind es l batch node counter ≡ false = ap (λ x. is_claim batch node (entry_claim (at es x))) (sym (next-behind es l batch node counter before s)) ∙ other in
    record {
      begun = omega arith;
      is = next-behind es l batch node counter before s ∙ ap (λ x. behind es x l.first) less;
      others = below_more (λ m. is_claim_behind es l batch node m ≡ false) counter s.others here;
    }

-- the entry behind is the first one of the act
pub IsFirst-before : (es : List Entry) (l : Ends) (batch node before : ℕ) → (b : IsBefore es l batch node before) → IsFirst (is_claim batch node) (entry_claims es l) (suc b.place)
IsFirst-before es l batch node before b =
    record {
      within = omega (arith, b.within, length-claims es l.len l.first);
      here = λ d. ap (is_claim batch node) (claims-behind es l.len l.first (suc b.place) d b.within) ∙ b.here;
      before = λ k d h. ap (is_claim batch node) (claims-behind es l.len l.first k d (omega (arith, b.within, h))) ∙ b.others k h;
    }
