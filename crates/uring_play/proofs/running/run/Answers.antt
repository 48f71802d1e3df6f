use Rattle.std.proofs.Common.{rules}
use Rattle.std.proofs.lemmas.Result.{IfOk-at_ok}
use Rattle.uring_play_text.specs.Inputs.{lists_of}
use Rattle.uring_play.proofs.PlayedThrough.{as_many, still_together}
use Rattle.uring_play.proofs.PlayTexts.{out_of_memory, was_played}
use Rattle.uring_play.proofs.running.run.Goals as goal

pub invariant_of-ended : goal.invariant_of-ended
invariant_of-ended g c =
    let back = c.in-Ok-all_back in
    let applied = IfOk-at_ok _ back.ensures.application c.join-application.ensures in
    let dispatched = IfOk-at_ok _ back.ensures.kernel c.join-kernel.ensures in
    let served = IfOk-at_ok _ back.ensures.served c.start_workers-served.ensures.started in
    record {
      together = still_together c.args.ends.together
          (rw (IfOk-at_ok _ applied.1 c.start_application-application.ensures.before) at applied.2.stays)
          (rw (IfOk-at_ok _ dispatched.1 c.start_dispatcher-dispatcher.ensures) at dispatched.2)
          (rw (served, back.ensures.workers) at c.join_workers-workers.ensures);
    }

pub returns-in-Ok-all_back : goal.returns-in-Ok-all_back
returns-in-Ok-all_back g c = λ s workers before after fresh read.
    let back = c.in-Ok-all_back in
    let applied = IfOk-at_ok _ back.ensures.application c.join-application.ensures in
    let dispatched = IfOk-at_ok _ back.ensures.kernel c.join-kernel.ensures in
    let served = IfOk-at_ok _ back.ensures.served c.start_workers-served.ensures.started in
    let stays = rw (IfOk-at_ok _ dispatched.1 c.start_dispatcher-dispatcher.ensures) at dispatched.2 in
    let many = as_many c.args.ends.workers.items back.workers.items (rw (served, back.ensures.workers) at c.join_workers-workers.ensures) in
    let submits = rw (IfOk-at_ok _ applied.1 c.start_application-application.ensures.calls) at applied.2.submits in
    was_played c.settle_all.result _ _ read (rw (stays.setup, fresh.setup, many, fresh.many) at (c.settle_all.ensures (lists_of c.args.calls.items) submits))

pub returns-in_default : goal.returns-in_default
returns-in_default g c = λ s workers before after fresh read. out_of_memory s workers _ c.args.calls _ _ _ (search rules) read

pub returns : goal.returns
returns g c = λ s workers before after fresh read. out_of_memory s workers _ c.args.calls _ _ _ (search rules) read
