use Rattle.uring_pictures.proofs.Moments.{follows_byte}
use Rattle.uring_pictures.proofs.moment.MomentWatcher.take_byte.Goals as goal

pub returns-clause-taken : goal.returns-clause-taken
returns-clause-taken g c = λ ne first before f at setup start.
    let so = f at setup start in
    (so.0, follows_byte at setup _ _ _ _ before c.args.byte ne c.push.ensures so.1)
