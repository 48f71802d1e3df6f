use Rattle.uring_outcomes.proofs.Common.{both_ways, entries_of}
use Rattle.uring_outcomes.proofs.Replaying.{next_accept, next_finish}
use Rattle.uring_outcomes.proofs.next.only_move.Goals as goal

pub returns-then-is_next_unnamed : goal.returns-then-is_next_unnamed
returns-then-is_next_unnamed c = λ m at.
    next_accept c.args.names.now m ((c.is_next_unnamed.ensures m at).0 c.if-is_next_unnamed.true)

pub returns-in-Some : goal.returns-in-Some
returns-in-Some c = λ m at.
    next_finish c.args.names.now (entries_of c.args.calls.now) m c.in-Some.number at.reached (c.in-Some.ensures (entries_of c.args.calls.now) m at)
    (λ e. both_ways c.is_next_unnamed.result c.if-is_next_unnamed.false ((c.is_next_unnamed.ensures m at).1 e))
