use Rattle.std.proofs.Common.{◌≤◌, List, Some, length, map, refl, sym, ap, ◌∙◌, arith}
use Rattle.std.specs.Vec.{with_items}
use Rattle.uring_crash_machine.proofs.Common.{CrashMachine, Log, Setup, finished_as, length-map, max_len, with_items_is}
use Rattle.uring_crash_machine.proofs.EpochSteps.{finish_fits, finish_unrefused}
use Rattle.uring_crash_machine.proofs.crash_machine.CrashMachine.finish.Goals as goal

pub returns-clause-fits : goal.returns-clause-fits
returns-clause-fits g c =
    let m : CrashMachine = record { unit = c.self.inside.unit; core = c.self.inside.core; files = c.self.inside.files; logs = c.self.inside.logs.items; is_lost = c.self.inside.is_lost; is_folded = c.self.inside.is_folded } in
    let now : CrashMachine = record { unit = c.self.inside.unit; core = c.finish-answer.new.self; files = c.apply_in-outcome.new.self; logs = (with_items c.self.inside.logs c.note_finish.new.logs).items; is_lost = c.self.inside.is_lost; is_folded = c.self.inside.is_folded } in
    let noted = c.note_finish.ensures ∙ ap (λ ls. map (λ log. finished_as c.args.number (Some c.in-Some.op) c.finish-answer.result log) ls) c.deref_mut.ensures.value in
    let many = ap (λ (ls : List Log). length ls) noted ∙ length-map c.self.inside.logs.items (λ log. finished_as c.args.number (Some c.in-Some.op) c.finish-answer.result log) ∙ sym c.self.inside.logs.ok.0 in
    rw (← c.self.view_is)
    (λ e earlier f.
    finish_fits m now c.args.number c.finish-answer.result c.in-Some.op c.apply_in-outcome.result e earlier c.self.invariant.0 c.finish-answer.ensures.setup refl refl c.apply_in-outcome.ensures.outcome c.apply_in-outcome.ensures.files
    (with_items_is c.self.inside.logs c.note_finish.new.logs many ∙ noted)
    c.finish-answer.ensures.fits c.finish-answer.ensures.outcome (λ h fits. sym c.in-Some.is ∙ c.running_op.ensures.value h fits) f)

pub returns-clause-unrefused : goal.returns-clause-unrefused
returns-clause-unrefused g c =
    let m : CrashMachine = record { unit = c.self.inside.unit; core = c.self.inside.core; files = c.self.inside.files; logs = c.self.inside.logs.items; is_lost = c.self.inside.is_lost; is_folded = c.self.inside.is_folded } in
    rw (← c.self.view_is)
    (λ all e earlier f.
    finish_unrefused m c.args.number c.finish-answer.result c.in-Some.op c.apply_in-outcome.result e earlier
    (c.apply_in-outcome.ensures.granted max_len (all max_len) (let same : max_len ≤ max_len = omega arith in same))
    c.finish-answer.ensures.outcome (λ h fits. sym c.in-Some.is ∙ c.running_op.ensures.value h fits) f)

pub invariant_of-self : goal.invariant_of-self
invariant_of-self g c =
    let noted = c.note_finish.ensures ∙ ap (λ ls. map (λ log. finished_as c.args.number (Some c.in-Some.op) c.finish-answer.result log) ls) c.deref_mut.ensures.value in
    let many = ap (λ (ls : List Log). length ls) noted ∙ length-map c.self.inside.logs.items (λ log. finished_as c.args.number (Some c.in-Some.op) c.finish-answer.result log) in (
      c.self.invariant.0,
      ap (λ (ls : List Log). length ls) (with_items_is c.self.inside.logs c.note_finish.new.logs (many ∙ sym c.self.inside.logs.ok.0)) ∙ many ∙ c.self.invariant.1 ∙ sym (ap (λ (g : Setup). g.files) c.finish-answer.ensures.setup),
    )
