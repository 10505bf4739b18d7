use Rattle.std.proofs.Common.{◌+◌, ◌++◌, ◌∷◌, [], refl, sym, ap, subst, ◌∙◌, take, drop, append_assoc}
use Rattle.std.proofs.lemmas.Result.{err_from_is_err_and}
use Rattle.batch_wire.specs.LineEnds.{EndsLine}
use Rattle.batch_record.{specs.StatusReading.IsRefusedAt, specs.declared.status_reading.Reading.Reading, specs.Standings.HasRead, proofs.InputProgress.beginning-read, proofs.InputProgress.line-apart, proofs.InputProgress.taken-on}
use Rattle.batch_record.proofs.status_reading.Reading.feed.Goals as goal

pub returns-in_err-end_line : goal.returns-in_err-end_line
returns-in_err-end_line c = λ read h.
    let p = err_from_is_err_and c.from_residual.result c.from_residual.ensures.1 in
    let so_far = c.loop-at.invariant in
    let rest = c.loop-at.rest.now in
    let at = c.in-Some.at in
    let here : EndsLine at rest = c.in-Some.ensures in
    rw (p.1) (λ number e. subst (λ t. IsRefusedAt t number) (line-apart read c.args.piece.now so_far.taken rest at so_far.split here)
    (c.in_err-end_line.ensures (read ++ so_far.taken) (so_far.has_read read h) here.before number (sym p.2 ∙ e) (drop (at + 1) rest)))

pub loop-at-preserved : goal.loop-at-preserved
loop-at-preserved c =
    let so_far = c.loop-at.invariant in
    let rest = c.loop-at.rest.now in
    let at = c.in-Some.at in
    let here : EndsLine at rest = c.in-Some.ensures in
    record {
      taken = so_far.taken ++ (take at rest ++ 10 ∷ []);
      split = taken-on c.args.piece.now so_far.taken rest at so_far.split here;
      has_read = λ read h. subst (λ t. HasRead c.end_line.new.self t) (append_assoc read so_far.taken (take at rest ++ 10 ∷ []))
          (c.in_ok-end_line.ensures (read ++ so_far.taken) (so_far.has_read read h) here.before);
    }

pub returns : goal.returns
returns c = λ read h.
    let so_far = c.loop-at.invariant in
    let now : Reading = record { course = c.loop-at.self.course; line = c.put.new.text; count = c.loop-at.self.count } in
    subst (λ t. HasRead now t) (append_assoc read so_far.taken c.loop-at.rest.now ∙ ap (λ t. read ++ t) (sym so_far.split))
    (beginning-read c.loop-at.self now (read ++ so_far.taken) c.loop-at.rest.now (so_far.has_read read h) c.in_default.ensures c.in_ok-put.ensures refl refl)
