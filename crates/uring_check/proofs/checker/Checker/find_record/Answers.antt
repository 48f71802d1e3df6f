use Rattle.std.proofs.Common.{not, ap, ◌∙◌}
use Rattle.uring_check.proofs.Common.{Checker, on_ok_weaker}
use Rattle.uring_check.proofs.Looking.{Notes, looked_right, looked_wrong}
use Rattle.uring_check.proofs.checker.Checker.find_record.Goals as goal

pub returns-in-None-clause-looks : goal.returns-in-None-clause-looks
returns-in-None-clause-looks g c = λ rec.
    let notes : Notes c.args.self.now c.judge.new.follower c.note_poster.new.posters c.args.step.now c.posted.result c.posted-after.result = record {
      before_is = λ h k. c.posted.ensures ∙ (c.in_ok-standing.ensures.standing h k.0 (c.as_slice-numbers.ensures.value ∙ k.1)).posted;
      after_is = λ h f. c.posted-after.ensures h f;
      more = c.in_ok-note_poster.ensures.noted;
    } in
    looked_right c.args.self.now c.judge.new.follower c.judge.new.told c.note_poster.new.posters _ _ _ c.args.step.now c.args.text.now c.args.line.now notes c.saturating_add-self.ensures c.in_ok-judged.ensures.rules c.requires (rw c.in-None.is at c.in_ok-judged.ensures.judges) rec

pub returns-clause-looks : goal.returns-clause-looks
returns-clause-looks g c =
    let notes : Notes c.args.self.now c.judge.new.follower c.note_poster.new.posters c.args.step.now c.posted.result c.posted-after.result = record {
      before_is = λ h k. c.posted.ensures ∙ (c.in_ok-standing.ensures.standing h k.0 (c.as_slice-numbers.ensures.value ∙ k.1)).posted;
      after_is = λ h f. c.posted-after.ensures h f;
      more = c.in_ok-note_poster.ensures.noted;
    } in
    let judged = rw c.in-Some.is at c.in_ok-judged.ensures.judges in
    on_ok_weaker c.tell_wrong.result
    (λ told rec. looked_wrong c.args.self.now _ c.judge.new.follower c.judge.new.told c.note_poster.new.posters _ _ c.args.step.now c.args.text.now c.args.line.now c.in-Some.wanted c.in_ok-standing.standing notes c.in_ok-judged.ensures.rules (λ h k. c.in_ok-standing.ensures.standing h k.0 (c.as_slice-numbers.ensures.value ∙ k.1)) judged (ap (λ (x : Checker). record x { is_over = not x.is_all; report = c.tell_wrong.new.report }) c.fault.ensures) (rw c.fault.ensures at told) rec)
    c.tell_wrong.ensures.told

pub returns-clause-granted : goal.returns-clause-granted
returns-clause-granted g c = λ sure h fits. c.tell_wrong.ensures.granted sure
