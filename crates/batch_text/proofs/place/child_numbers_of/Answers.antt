use Rattle.std.proofs.Common.{◌==◌, ◌∙◌, ap, rules}
use Rattle.std.{proofs.lemmas.Iterator.items_from_collect, proofs.lemmas.Iterator.Consumers.YieldsList-from_filter_map, proofs.lemmas.Iterator.Splits.YieldsList-from_slice_split, specs.Slice.Iter.split_callee}
use Rattle.batch_text.specs.PlaceText.{child_number_of}
use Rattle.batch_text.proofs.place.child_numbers_of.Goals as goal

pub returns : goal.returns
returns c =
    items_from_collect c.collect.result c.collect.ensures.ran
    (YieldsList-from_filter_map _ child_number_of
    (YieldsList-from_slice_split _ (λ b. b == 46) c.args.bytes.now (rw c.filter_map.ensures.source c.split.ensures.rest) (rw c.filter_map.ensures.source c.split.ensures.done) (ap split_callee c.filter_map.ensures.source ∙ c.split.ensures.closure) (λ x b q called. search rules))
    c.filter_map.ensures.closure (λ x r q called. search rules))
