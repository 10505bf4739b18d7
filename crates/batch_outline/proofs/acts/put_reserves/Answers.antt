use Rattle.std.proofs.Common.{◌++◌, ◌∙◌, ap, sym, append_assoc, codes, string_bytes}
use Rattle.std.{specs.List.flat_map, proofs.lemmas.Result.on_ok_weaker}
use Rattle.batch_outline.{specs.Showing.spaced, proofs.LineSeats.names_written}
use Rattle.batch_outline.proofs.acts.put_reserves.Goals as goal

pub returns : goal.returns
returns c =
    let old = string_bytes c.args.text.now in
    let each = flat_map spaced c.args.names.now in
    on_ok_weaker c.put_each_name.result
    (λ told. told ∙ ap (λ text. text ++ each) c.in_ok-push_str.ensures.bytes ∙ append_assoc old (codes " reserves") each
    ∙ ap (λ text. old ++ text) (sym (names_written (codes "reserves") c.args.names.now c.is_empty.result c.if-is_empty.false c.is_empty.ensures)))
    c.put_each_name.ensures
