use Rattle.std.proofs.Common.{◌++◌, length, take, arith, rules, ◌≡◌, subst, sym, ap, ◌∙◌}
use Rattle.batch_text.{specs.Spelling.letters, specs.Spelling.IsWithinRoom, proofs.Blocks.front_put}
use Rattle.batch_text.proofs.spelling.Spelling.put.Goals as goal

pub returns-in-Short-clause-put : goal.returns-in-Short-clause-put
returns-in-Short-clause-put c =
    let text = c.args.text.now in
    let (few, all, zeroes) = subst IsWithinRoom c.in-Short.is c.requires.within in
    let same = c.copy_from_slice.ensures.after in
    front_put c.args.at c.in-Short.len text c.copy_from_slice.new.self _ (omega (arith, c.requires.room)) (omega (arith, few, all, ap length same))
    ∙ ap (λ ys. take c.args.at text ++ take c.in-Short.len ys) same
    ∙ ap (λ s. take c.args.at text ++ letters s) (sym c.in-Short.is)

pub returns-in-Long-clause-put : goal.returns-in-Long-clause-put
returns-in-Long-clause-put c =
    let text = c.args.text.now in
    let few = subst IsWithinRoom c.in-Long.is c.requires.within in
    let same = c.copy_from_slice-in-Long.ensures.after in
    let all : length c.copy_from_slice-in-Long.new.self ≡ 32 = search rules in
    front_put c.args.at c.in-Long.len text c.copy_from_slice-in-Long.new.self _ (omega (arith, c.requires.room)) (omega (arith, few, all))
    ∙ ap (λ ys. take c.args.at text ++ take c.in-Long.len ys) (same ∙ c.deref.ensures)
    ∙ ap (λ s. take c.args.at text ++ letters s) (sym c.in-Long.is)
