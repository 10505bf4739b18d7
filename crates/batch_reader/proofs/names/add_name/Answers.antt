use Rattle.std.proofs.Common.{◌≡◌, rules, true, nat_eq}
use Rattle.std.specs.{Cmp.Lexicographic.pointwise, Cmp.Lexicographic.nat_list_eq_equiv, List.list_any}
use Rattle.batch_reader.proofs.NamesSoFar.{IsDistinct-twice}
use Rattle.batch_reader.proofs.names.add_name.Goals as goal

pub returns-then-not-branch-clause-refused : goal.returns-then-not-branch-clause-refused
returns-then-not-branch-clause-refused c = λ _.
    let found : list_any (pointwise nat_eq c.args.name.now) c.args.names.now.keys ≡ true = search rules in
    IsDistinct-twice nat_list_eq_equiv c.args.names.now.keys c.args.name.now found
