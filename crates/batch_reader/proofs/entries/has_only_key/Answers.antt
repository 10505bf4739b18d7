use Rattle.std.proofs.Common.{rules, ◌∙◌, nat_eq, string_bytes}
use Rattle.std.{proofs.lemmas.Iterator.Consumers.YieldsList-from_rest, proofs.lemmas.Iterator.Search.all_from_yields_List, specs.BTreeMap.keys, specs.Cmp.Lexicographic.pointwise}
use Rattle.batch_reader.proofs.KnownKeys.{all_keys-view}
use Rattle.batch_reader.proofs.entries.has_only_key.Goals as goal

pub returns : goal.returns
returns c =
    all_from_yields_List (λ word. pointwise nat_eq (string_bytes word) c.args.key.now) _ _ c.all.result c.all.ensures.ran
    (YieldsList-from_rest (keys c.args.table.now) c.keys.ensures.rest) (λ x b q called. search rules)
    ∙ all_keys-view (λ word. pointwise nat_eq word c.args.key.now) c.args.table.now.entries
