use Rattle.std.proofs.Common.{◌≡◌, ◌+◌, ◌==◌, ℕ, Bool, sym, ap, ◌∙◌, arith, rules, length, take, drop}
use Rattle.std.{specs.List.position_or_len, proofs.lemmas.List.take_all, proofs.lemmas.List.take_rest, proofs.lemmas.List.drop_all, proofs.lemmas.List.Sums.position_or_len_is}
use Rattle.batch_record.proofs.word.parted.Goals as goal

pub returns-then-byte-at-clause-front : goal.returns-then-byte-at-clause-front
returns-then-byte-at-clause-front c =
    let word = c.args.word.now in
    let is : ℕ → Bool = λ b. b == c.args.at in
    let at : position_or_len is word ≡ c.loop-i.i = position_or_len_is is word c.loop-i.i 0 (omega arith) c.loop-i.invariant (λ h. search rules) in
    ap (λ n. take n word) (sym at)

pub returns-then-byte-at-clause-behind : goal.returns-then-byte-at-clause-behind
returns-then-byte-at-clause-behind c =
    let word = c.args.word.now in
    let is : ℕ → Bool = λ b. b == c.args.at in
    let at : position_or_len is word ≡ c.loop-i.i = position_or_len_is is word c.loop-i.i 0 (omega arith) c.loop-i.invariant (λ h. search rules) in
    take_rest word (c.loop-i.i + 1) ∙ ap (λ n. drop (n + 1) word) (sym at)

pub returns-clause-front : goal.returns-clause-front
returns-clause-front c =
    let word = c.args.word.now in
    let is : ℕ → Bool = λ b. b == c.args.at in
    let at : position_or_len is word ≡ length word = position_or_len_is is word (length word) 0 (omega arith) (λ k h. c.loop-i.invariant k (omega arith)) (λ h. absurd (omega arith)) in
    sym (ap (λ n. take n word) at ∙ take_all (length word) word (omega arith))

pub returns-clause-behind : goal.returns-clause-behind
returns-clause-behind c =
    let word = c.args.word.now in
    let is : ℕ → Bool = λ b. b == c.args.at in
    let at : position_or_len is word ≡ length word = position_or_len_is is word (length word) 0 (omega arith) (λ k h. c.loop-i.invariant k (omega arith)) (λ h. absurd (omega arith)) in
    sym (ap (λ n. drop (n + 1) word) at ∙ drop_all (length word + 1) word (omega arith))
