use Rattle.std.proofs.Common.{◌≡◌, ◌+◌, ◌-◌, ◌≤◌, ℕ, List, ◌++◌, length, take, drop, arith, rules, length-take-le, take-take, sym, ap, ◌∙◌}
use Rattle.std.proofs.{lemmas.List.take-append-le, Math.Seq.take-append-add}
use Rattle.batch_wire.proofs.PlaceCache.{drop_of_take}
use Rattle.batch_wire.proofs.quick_lines.put_site.Goals as goal
use Rattle.batch_wire.proofs.quick_lines.put_site.Goals.{then-len-le-BLOCK+then-start-le-MAX_PLACE_END, else-len-le-BLOCK}

-- a block was copied, of which only the front is meant
front_put : (at n : ℕ) (text block rest : List ℕ) → at ≤ length text → n ≤ length block → take (at + n) (take at text ++ (block ++ rest)) ≡ take at text ++ take n block
front_put at n text block rest within few =
    ap (λ m. take (m + n) (take at text ++ (block ++ rest))) (sym (length-take-le at text within))
    ∙ take-append-add (take at text) (block ++ rest) n
    ∙ ap (λ t. take at text ++ t) (take-append-le n block rest few)

part_put : (at s e k : ℕ) (text block known rest : List ℕ) → at ≤ length text → s ≤ e → e - s ≤ k → block ≡ take k (drop s known) → e - s ≤ length block
    → take (at + (e - s)) (take at text ++ (block ++ rest)) ≡ take at text ++ drop s (take e known)
part_put at s e k text block known rest within order enough is few =
    front_put at (e - s) text block rest within few
    ∙ ap (λ t. take at text ++ t) (ap (take (e - s)) is ∙ take-take (e - s) k (drop s known) enough ∙ sym (drop_of_take s e known order))

pub returns-clause-put : goal.returns-clause-put
returns-clause-put c =
    let told = c.args.told in
    let within : c.args.at ≤ length c.args.text.now = omega (arith, c.requires.room) in
    elim c.if-len-le-BLOCK.branch [
      | then-len-le-BLOCK+then-start-le-MAX_PLACE_END w ↦
          let put = w.copy_from_slice-then-start-le-MAX_PLACE_END in
          let few : told.end - told.start ≤ length put.new.self = search rules in
          ap (take (c.args.at + (told.end - told.start))) w.text-is
          ∙ part_put c.args.at told.start told.end _ c.args.text.now put.new.self told.text.now _ within c.requires.order.0 (omega arith) (put.ensures.after ∙ w.copy_from_slice.ensures.after) few
      | else-len-le-BLOCK w ↦
          let few : told.end - told.start ≤ length w.copy_from_slice-else-len-le-BLOCK.new.self = search rules in
          ap (take (c.args.at + (told.end - told.start))) w.text-is
          ∙ part_put c.args.at told.start told.end _ c.args.text.now w.copy_from_slice-else-len-le-BLOCK.new.self told.text.now _ within c.requires.order.0 (omega arith) w.copy_from_slice-else-len-le-BLOCK.ensures.after few
    ]
