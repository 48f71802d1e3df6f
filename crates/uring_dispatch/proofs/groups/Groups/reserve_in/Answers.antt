use Rattle.std.proofs.Common.{arith}
use Rattle.std.proofs.lemmas.Bool.{false≢true}
use Rattle.uring_dispatch.proofs.Sizes.{barriers_few}
use Rattle.uring_dispatch.proofs.groups.Groups.reserve_in.Goals as goal

pub returns-in-Err-reserve_queue-clause-granted : goal.returns-in-Err-reserve_queue-clause-granted
returns-in-Err-reserve_queue-clause-granted g c =
    rw (← c.self.view_is)
    (λ n end grants beyond groups barriers.
    let few = barriers_few c.self.inside.barriers.items end c.self.invariant.0.sorted beyond in
    absurd (false≢true (c.in-Err-reserve_queue.ensures.granted n grants (omega arith))))
