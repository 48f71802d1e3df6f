use Rattle.std.proofs.Common.{List, length, map, refl, sym, ap, ◌∙◌}
use Rattle.std.specs.Vec.{with_items}
use Rattle.uring_crash_machine.proofs.Common.{CrashMachine, Log, Setup, issued_as, with_items_is}
use Rattle.uring_volume.proofs.Results.{not_err}
use Rattle.uring_crash_machine.proofs.EpochSteps.{issue_fits}
use Rattle.uring_crash_machine.proofs.crash_machine.CrashMachine.issue.Goals as goal

pub returns-clause-fits : goal.returns-clause-fits
returns-clause-fits g c =
    let m : CrashMachine = record { unit = c.self.inside.unit; core = c.self.inside.core; files = c.self.inside.files; logs = c.self.inside.logs.items; is_lost = c.self.inside.is_lost; is_folded = c.self.inside.is_folded } in
    let now : CrashMachine = record { unit = c.self.inside.unit; core = c.step_in-answer.new.self; files = c.self.inside.files; logs = (with_items c.self.inside.logs c.note_issue.new.logs).items; is_lost = c.self.inside.is_lost; is_folded = c.self.inside.is_folded } in
    let noted = not_err c.note_issue.result _ (sym c.is_err.ensures.value ∙ c.if-is_err.false) c.note_issue.ensures.logs in
    let many = c.note_issue.ensures.many ∙ ap (λ (ls : List Log). length ls) c.deref_mut.ensures.value ∙ sym c.self.inside.logs.ok.0 in
    rw (← c.self.view_is)
    (λ e earlier f.
    issue_fits m now c.args.number c.step_in-answer.result c.running_op-op.result e earlier c.self.invariant.0 c.step_in-answer.ensures.setup refl refl refl
    (with_items_is c.self.inside.logs c.note_issue.new.logs many ∙ noted ∙ ap (λ ls. map (λ log. issued_as c.args.number c.running_op-op.result c.step_in-answer.result log) ls) c.deref_mut.ensures.value)
    c.step_in-answer.ensures.fits c.running_op-op.ensures.value f)

pub invariant_of-self : goal.invariant_of-self
invariant_of-self g c =
    let many = c.note_issue.ensures.many ∙ ap (λ (ls : List Log). length ls) c.deref_mut.ensures.value in (
      c.self.invariant.0,
      ap (λ (ls : List Log). length ls) (with_items_is c.self.inside.logs c.note_issue.new.logs (many ∙ sym c.self.inside.logs.ok.0)) ∙ many ∙ c.self.invariant.1 ∙ sym (ap (λ (g : Setup). g.files) c.step_in-answer.ensures.setup),
    )

pub invariant_of-self-else-is_err : goal.invariant_of-self-else-is_err
invariant_of-self-else-is_err g c =
    let many = c.note_issue.ensures.many ∙ ap (λ (ls : List Log). length ls) c.deref_mut.ensures.value in (
      c.self.invariant.0,
      ap (λ (ls : List Log). length ls) (with_items_is c.self.inside.logs c.note_issue.new.logs (many ∙ sym c.self.inside.logs.ok.0)) ∙ many ∙ c.self.invariant.1 ∙ sym (ap (λ (g : Setup). g.files) c.step_in-answer.ensures.setup),
    )
