use Rattle.std.proofs.Common.{rules, ap, ◌∙◌, ◌&&◌, nat_eq}
use Rattle.std.{proofs.lemmas.Iterator.YieldsList-from_slice, proofs.lemmas.Iterator.Search.any_from_yields_List, specs.Cmp.Lexicographic.pointwise, specs.List.list_any}
use Rattle.toml.specs.View.{table_view}
use Rattle.batch_reader.{proofs.KnownKeys.list_any-map, specs.Keys.Key, specs.Keys.is_known, specs.Keys.key_said, specs.Keys.may_stand}
use Rattle.batch_reader.proofs.keys.is_known.Goals as goal

pub returns : goal.returns
unfolding is_known
returns c =
    let is = λ (key : Key). pointwise nat_eq key.word c.args.word.now && may_stand c.args.kind key.word (table_view c.args.table.now) in
    any_from_yields_List (λ row. is (key_said row)) _ _ c.any.result c.any.ensures.ran (YieldsList-from_slice c.keys_of.result.now c.iter.ensures.rest) (λ x b q called. search rules)
    ∙ list_any-map is key_said c.keys_of.result.now
    ∙ ap (list_any is) c.keys_of.ensures
