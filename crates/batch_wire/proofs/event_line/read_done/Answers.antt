use Rattle.std.proofs.Common.{◌≡◌, ◌++◌, ◌∷◌, [], Ok, Some, arith, codes, drop, sym, ap, ◌∙◌}
use Rattle.std.proofs.lemmas.{Bool.Decides.Decides-eqb, List.drop_all, List.take_rest, Slice.Eq.starts_is}
use Rattle.batch_matrix.specs.declared.report.Report.{Report}
use Rattle.batch_model.specs.Events.{report}
use Rattle.batch_wire.specs.EventLine.{event_words}
use Rattle.batch_wire.proofs.event_line.read_done.Goals as goal

pub returns : goal.returns
returns c =
    let text = c.args.text.now in
    let front : text ≡ codes "report " ++ drop 7 text = (starts_is Decides-eqb text (codes "report ") _ c.starts_with.ensures.value).0 c.if-not-starts_with.false in
    let rest = c.in_ok-phase.rest.now in
    let done : rest ≡ codes "done" ++ drop 4 rest = (starts_is Decides-eqb rest (codes "done") _ c.starts_with-2.ensures.value).0 c.if-not-starts_with-2.false in
    let last : rest ≡ codes "done" = done ∙ ap (λ l. codes "done" ++ l) (drop_all 4 rest (omega (arith, c.if-rest-ne4.false))) in
    let words : event_words text ≡ codes "report" ∷ c.in_ok-unit.unit ∷ c.in_ok-phase.phase ∷ codes "done" ∷ [] =
    ap event_words front
    ∙ ap (λ rest. codes "report" ∷ event_words rest) (sym (take_rest text 7))
    ∙ ap (λ l. codes "report" ∷ l) (c.in_ok-unit.ensures.ahead ∙ ap (λ l. c.in_ok-unit.unit ∷ l) (c.in_ok-phase.ensures.ahead ∙ ap (λ rest. c.in_ok-phase.phase ∷ event_words rest) last)) in
    rw (words, c.in_ok-unit.ensures.valid, c.in_ok-phase.ensures.valid)
    (ap (λ items. Ok (Some (report c.in_ok-unit.unit c.in_ok-phase.phase Report.Done items))) (sym c.new.ensures.items))
