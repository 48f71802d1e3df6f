use Rattle.std.proofs.Common.{rules, w32, sym}
use Rattle.uring_linux.proofs.Common.{no_bytes, to_z-of_z}
use Rattle.uring_linux.proofs.Standings.{ended_outstanding}
use Rattle.uring_linux.proofs.dispatch.LinuxDispatch.issue.Goals as goal

pub returns-in-Ended-clause-shows : goal.returns-in-Ended-clause-shows
returns-in-Ended-clause-shows c = λ l h.
    let shows = rw (to_z-of_z w32 c.in-Ended.res (search rules)) at c.end.ensures.shows in
    shows l no_bytes h (ended_outstanding l c.args.n c.in-Ended.res c.in-Ended.field-1 (sym (c.in-Ended.ensures.issued l h)))
