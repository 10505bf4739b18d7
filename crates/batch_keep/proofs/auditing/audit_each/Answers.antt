use Rattle.std.proofs.Common.{◌+◌, ◌-◌, List, [], None, Some, drop, length, refl, subst, take, ℕ, ◌∙◌, arith}
use Rattle.batch_engine.specs.View.{plant_of}
use Rattle.batch_serve.specs.Safe.{TranscriptsAreSafe}
use Rattle.batch_wire.specs.Transcript.{lines_of}
use Rattle.batch_keep.proofs.{AuditSteps.begins_audit, AuditSteps.finishes, AuditSteps.first_is_next, AuditSteps.last_is_next, AuditSteps.steps, RecordComparison.line_shorter}
use Rattle.batch_keep.proofs.auditing.audit_each.Goals as goal

-- the rest behind the line that ends there
abbrev left : List ℕ → ℕ → List ℕ
left rest at = take (length rest - (at + 1)) (drop (at + 1) rest)

pub loop-at-init : goal.loop-at-init
loop-at-init c =
    let safe : TranscriptsAreSafe c.args.engine.now.cleared = subst TranscriptsAreSafe c.cleared.ensures.value c.transcripts_are_safe.ensures in
    record {
      kept = refl;
      known = c.new-places.ensures c.args.engine.now.cleared;
      within = omega arith;
      audited = begins_audit c.args.engine.now.cleared (lines_of c.args.sent.now) c.args.text.now (plant_of c.args.engine.now) c.of-audited.result.count
          c.of-audited.result.rest.now c.requires c.of-audited.ensures.count c.of-audited.ensures.rest safe;
    }

pub loop-at-preserved : goal.loop-at-preserved
loop-at-preserved c =
    let before = c.loop-at.invariant in
    let rest = c.loop-at.rest.now in
    let at = c.in-Some.at in
    record {
      kept = c.in_ok-finding.ensures.cleared ∙ before.kept;
      known = c.in_ok-finding.ensures.known;
      within = omega (arith, before.within, line_shorter rest at c.in-Some.ensures);
      audited = steps c.loop-at.engine.cleared c.args.engine.now.cleared (lines_of c.args.sent.now) (lines_of (left rest at)) (take at rest) (plant_of c.loop-at.engine)
          (plant_of c.audit_line.new.engine) c.args.text.now c.loop-at.audited.count c.audit_line.new.audited.count c.loop-at.audited.rest.now c.audit_line.new.audited.rest.now
          c.in_ok-finding.field-0 None before.kept c.in_default-2.is
          (first_is_next c.args.engine.now.cleared (lines_of c.args.sent.now) (plant_of c.loop-at.engine) c.args.text.now c.loop-at.audited.count c.loop-at.audited.rest.now rest at c.in-Some.ensures before.audited)
          c.in_ok-finding.ensures.answered;
    }

pub returns-in-Some-2 : goal.returns-in-Some-2
returns-in-Some-2 c =
    let before = c.loop-at.invariant in
    let rest = c.loop-at.rest.now in
    let at = c.in-Some.at in
    steps c.loop-at.engine.cleared c.args.engine.now.cleared (lines_of c.args.sent.now) (lines_of (left rest at)) (take at rest) (plant_of c.loop-at.engine) (plant_of c.audit_line.new.engine)
    c.args.text.now c.loop-at.audited.count c.audit_line.new.audited.count c.loop-at.audited.rest.now c.audit_line.new.audited.rest.now c.in_ok-finding.field-0 (Some c.in-Some-2.finding)
    before.kept c.in-Some-2.is
    (first_is_next c.args.engine.now.cleared (lines_of c.args.sent.now) (plant_of c.loop-at.engine) c.args.text.now c.loop-at.audited.count c.loop-at.audited.rest.now rest at c.in-Some.ensures before.audited)
    c.in_ok-finding.ensures.answered

pub returns-in-Some-3 : goal.returns-in-Some-3
returns-in-Some-3 c =
    let before = c.loop-at.invariant in
    let rest = c.loop-at.rest.now in
    steps c.loop-at.engine.cleared c.args.engine.now.cleared (lines_of c.args.sent.now) [] rest (plant_of c.loop-at.engine) (plant_of c.audit_line-2.new.engine)
    c.args.text.now c.loop-at.audited.count c.audit_line-2.new.audited.count c.loop-at.audited.rest.now c.audit_line-2.new.audited.rest.now c.in_ok-finding-2.field-0
    (Some c.in-Some-3.finding) before.kept c.in-Some-3.is
    (last_is_next c.args.engine.now.cleared (lines_of c.args.sent.now) (plant_of c.loop-at.engine) c.args.text.now c.loop-at.audited.count c.loop-at.audited.rest.now rest c.in_default.ensures before.audited)
    c.in_ok-finding-2.ensures.answered

pub returns : goal.returns
returns c =
    let before = c.loop-at.invariant in
    let rest = c.loop-at.rest.now in
    finishes c.args.engine.now.cleared (lines_of c.args.sent.now) (plant_of c.audit_line-2.new.engine) c.args.text.now c.audit_line-2.new.audited.count c.audit_line-2.new.audited.rest.now
    (steps c.loop-at.engine.cleared c.args.engine.now.cleared (lines_of c.args.sent.now) [] rest (plant_of c.loop-at.engine) (plant_of c.audit_line-2.new.engine)
    c.args.text.now c.loop-at.audited.count c.audit_line-2.new.audited.count c.loop-at.audited.rest.now c.audit_line-2.new.audited.rest.now c.in_ok-finding-2.field-0 None before.kept c.in-None.is
    (last_is_next c.args.engine.now.cleared (lines_of c.args.sent.now) (plant_of c.loop-at.engine) c.args.text.now c.loop-at.audited.count c.loop-at.audited.rest.now rest c.in_default.ensures before.audited)
    c.in_ok-finding-2.ensures.answered)
    c.finish.result c.finish.ensures
