use Rattle.std.proofs.Common.{arith}
use Rattle.batch_chart.{specs.Most.count_of, proofs.RecipeChart.is_chart, proofs.ActTotals.none-counted, proofs.ActTotals.none-few, proofs.ActTotals.one-counted, proofs.ActTotals.whole-row}
use Rattle.batch_recipe.specs.{Expanding.unbound, Procedure.bound_tree, Tree.no_trees, Tree.tree}
use Rattle.batch_chart.proofs.most.most.Goals as goal

pub most_among-requires-clause-standing : goal.most_among-requires-clause-standing
most_among-requires-clause-standing c =
    let r = c.args.chart.now in
    let t = bound_tree unbound r.acts in
    (r, tree t no_trees, rw (c.deref.ensures.value) (whole-row r.outline.entries.items r t (is_chart r unbound).0 c.len-count.result (omega (arith, c.len-count.ensures, r.outline.entries.ok.0))))

pub most_among-requires-clause-few : goal.most_among-requires-clause-few
most_among-requires-clause-few c = none-few 0

pub returns-clause-most : goal.returns-clause-most
returns-clause-most c = λ counted t laid.
    let r = c.args.chart.now in
    one-counted counted t (count_of counted c.most_among.result)
    (c.most_among.ensures.most counted r (tree t no_trees) (rw (c.deref.ensures.value) (whole-row r.outline.entries.items r t laid c.len-count.result (omega (arith, c.len-count.ensures, r.outline.entries.ok.0)))))

pub returns-clause-few : goal.returns-clause-few
returns-clause-few c = λ counted. omega (arith, c.most_among.ensures.few counted, none-counted counted, c.len-count.ensures, c.args.chart.now.outline.few, c.args.chart.now.outline.entries.ok.0)
