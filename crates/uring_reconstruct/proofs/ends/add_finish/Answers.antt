use Rattle.std.proofs.Common.{subst, rules}
use Rattle.uring_reconstruct.proofs.Common.{FinishFits, to_z-of_z, w32}
use Rattle.uring_core.specs.declared.step.Step.TheVariants as step
use Rattle.uring_core.specs.declared.answer.Answer.TheVariants as answer
use Rattle.uring_reconstruct.proofs.Events.{finish_part}
use Rattle.uring_reconstruct.proofs.Adding.{adds_one, end_pushed, last_there}
use Rattle.uring_reconstruct.proofs.ends.add_finish.Goals as goal

pub returns-in_ok-push-clause-adds : goal.returns-in_ok-push-clause-adds
returns-in_ok-push-clause-adds g c =
    let same = to_z-of_z w32 c.args.res (search rules) in
    let is = end_pushed _ _ _ _ _ _ _ c.in_ok-push.ensures.items c.ended.ensures same in
    adds_one c.args.core.now c.args.wanted.now c.args.next.now.items c.push.new.list.items (step.Finish c.args.number, answer.Ended c.args.res c.args.bytes) is
    (λ seen h at lawful. finish_part c.args.core.now seen c.args.wanted.now h c.args.number c.args.res c.args.bytes at
    (subst (λ e. FinishFits e c.args.wanted.now c.args.res c.args.bytes) (c.requires h at.fits) (subst (λ r. FinishFits c.args.entry.now c.args.wanted.now r c.args.bytes) same (c.finish_fits.ensures.0 c.if-finish_fits.true))) lawful)

pub returns-in_ok-push-clause-added : goal.returns-in_ok-push-clause-added
returns-in_ok-push-clause-added g c = λ fits.
    last_there _ _ _ (end_pushed _ _ _ _ _ _ _ c.in_ok-push.ensures.items c.ended.ensures (to_z-of_z w32 c.args.res (search rules)))
