use Rattle.uring_core.specs.declared.step.Step.TheVariants as step
use Rattle.uring_core.specs.declared.answer.Answer.TheVariants as answer
use Rattle.uring_reconstruct.proofs.Events.{start_part}
use Rattle.uring_reconstruct.proofs.Adding.{adds_one}
use Rattle.uring_reconstruct.proofs.starts.add_start.Goals as goal

pub returns-clause-adds : goal.returns-clause-adds
returns-clause-adds g c =
    adds_one c.args.core.now c.args.wanted.now c.args.next.now.items c.push.new.list.items (step.Issue c.args.number, answer.Run) c.in_ok-push.ensures.items
    (λ seen h at lawful. start_part c.args.core.now.setup seen h c.args.number at.part lawful)
