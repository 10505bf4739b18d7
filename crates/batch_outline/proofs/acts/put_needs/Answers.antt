use Rattle.std.proofs.Common.{◌++◌, ◌∙◌, ap, sym, append_assoc, codes, string_bytes}
use Rattle.std.{specs.List.flat_map, proofs.lemmas.Result.on_ok_weaker}
use Rattle.batch_recipe.specs.declared.need.Need.{Need}
use Rattle.batch_outline.{specs.Showing.need_text, specs.Showing.spaced, proofs.LineSeats.needs_written}
use Rattle.batch_outline.proofs.acts.put_needs.Goals as goal

pub returns : goal.returns
returns c =
    let old = string_bytes c.args.text.now in
    let each = flat_map (λ (need : Need). spaced (need_text need)) c.args.needs.now in
    on_ok_weaker c.put_each_need.result
    (λ told. told ∙ ap (λ text. text ++ each) c.in_ok-push_str.ensures.bytes ∙ append_assoc old (codes " needs") each
    ∙ ap (λ text. old ++ text) (sym (needs_written (codes "needs") c.args.needs.now c.is_empty.result c.if-is_empty.false c.is_empty.ensures)))
    c.put_each_need.ensures
