use Rattle.std.proofs.Common.{rules, ◌∙◌, string_bytes}
use Rattle.std.{proofs.lemmas.Iterator.Consumers.YieldsList-from_rest, proofs.lemmas.Iterator.Search.all_from_yields_List, specs.BTreeMap.keys}
use Rattle.toml.specs.View.{table_view}
use Rattle.batch_reader.{proofs.KnownKeys.all_keys-view, specs.Keys.is_known}
use Rattle.batch_reader.proofs.keys.has_known_keys.Goals as goal

pub returns : goal.returns
returns c =
    let is_known = is_known c.args.kind (table_view c.args.table.now) in
    all_from_yields_List (λ key. is_known (string_bytes key)) _ _ c.all.result c.all.ensures.ran (YieldsList-from_rest (keys c.args.table.now) c.keys.ensures.rest) (λ x b q called. search rules)
    ∙ all_keys-view is_known c.args.table.now.entries
