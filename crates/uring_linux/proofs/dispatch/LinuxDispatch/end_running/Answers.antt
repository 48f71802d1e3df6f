use Rattle.std.proofs.Common.{rules, w32}
use Rattle.uring_linux.proofs.Common.{is_running, to_z-of_z}
use Rattle.uring_linux.proofs.Standings.{some_running, running_outstanding}
use Rattle.uring_linux.proofs.dispatch.LinuxDispatch.end_running.Goals as goal

pub returns-clause-shows : goal.returns-clause-shows
returns-clause-shows c = λ l bytes h.
    let shows = rw (to_z-of_z w32 c.args.res (search rules)) at c.end.ensures.shows in
    shows l bytes h (running_outstanding c.args.self.now.held.window l.requests c.args.n h.held.window (some_running (is_running l.requests c.args.n) _ c.in-Some.posts (c.in-Some.ensures.posted l h)))
