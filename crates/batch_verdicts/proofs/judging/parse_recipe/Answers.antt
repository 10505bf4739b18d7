use Rattle.std.proofs.Common.{Err, ap, rules}
use Rattle.batch_verdicts.proofs.judging.parse_recipe.Goals as goal

pub returns-in-Err-clause-refused : goal.returns-in-Err-clause-refused
returns-in-Err-clause-refused c =
    let read = c.in-Err.ensures in
    record {
      fault = c.in-Err.fault;
      stands = read.refused;
      not_toml = λ is. read.not_toml (ap Err is);
      long = λ beyond. let same = read.long beyond in cc;
      told = λ spot wrong is. read.told spot wrong (ap Err is);
      is_there = λ spot wrong is. read.stands spot wrong (ap Err is);
      halts = search rules;
    }
