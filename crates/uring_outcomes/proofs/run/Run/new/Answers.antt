use Rattle.std.proofs.Common.{refl}
use Rattle.uring_outcomes.proofs.RunSteps.{starts}
use Rattle.uring_outcomes.proofs.run.Run.new.Goals as goal

pub returns-clause-stands : goal.returns-clause-stands
returns-clause-stands g c = λ s calls same few.
    starts calls s _ c.args.files same few c.new.ensures.shows c.new.ensures.between c.new-2.ensures.items c.in_ok-files.ensures.ok refl
