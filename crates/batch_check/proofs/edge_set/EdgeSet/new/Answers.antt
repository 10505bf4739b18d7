use Rattle.std.proofs.Common.{◌≡◌, ◌*◌, ap, length, replicate, ◌∙◌}
use Rattle.std.proofs.lemmas.List.{length-replicate}
use Rattle.batch_check.proofs.EdgeBits.{none-exact}
use Rattle.batch_check.proofs.edge_set.EdgeSet.new.Goals as goal

pub invariant_of-result : goal.invariant_of-result
invariant_of-result c =
    let words = c.from-words.result * 7 in
    let known : c.in_ok-vec.field-0.items ≡ replicate words 0 = c.in_ok-vec.ensures.items_if_clones_equal (λ y e. e) in
    record {
      few = c.requires;
      sized = ap length known ∙ (length-replicate words 0 ∙ ap (λ n. n * 7) c.from-words.ensures);
      exact = λ i j in_i in_j. rw (known, c.new.ensures.items) (none-exact c.args.count words i j in_i in_j);
    }
