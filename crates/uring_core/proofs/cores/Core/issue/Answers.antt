use Rattle.std.proofs.Common.{refl, rules}
use Rattle.uring_dispatch.specs.declared.answers.IssuedPosting.TheVariants as issue
use Rattle.uring_core.proofs.Common.{to_z-of_z, w32}
use Rattle.uring_core.proofs.CoreSteps.{core_after}
use Rattle.uring_core.proofs.CoreEnds.{run_goes, issue_ended_goes, issue_refused_goes}
use Rattle.uring_core.proofs.cores.Core.issue.Goals as goal

pub invariant_of-self : goal.invariant_of-self
invariant_of-self c = (c.self.invariant.0, core_after _ _ _ refl (run_goes _ c.issue.new.self c.args.number c.in-Run.field-0 c.in-Run.ensures.answer c.in-Run.ensures.shows c.in-Run.ensures.counts) c.self.invariant.1)

pub invariant_of-self-in-Ended : goal.invariant_of-self-in-Ended
invariant_of-self-in-Ended c =
    let same = to_z-of_z w32 c.in-Ended.res (search rules) in
    let ended = issue_ended_goes _ c.issue.new.self c.post_end.new.cq c.args.number c.in-Ended.res c.in-Ended.posts c.in-Ended.ensures.answer
    c.in-Ended.ensures.shows c.in-Ended.ensures.counts (λ g l. simp same at (c.post_end.ensures.shows g l)) c.post_end.ensures.room c.post_end.ensures.promised in
    (c.self.invariant.0, core_after _ _ _ refl ended c.self.invariant.1)

pub returns-in-Ended-clause-fits : goal.returns-in-Ended-clause-fits
returns-in-Ended-clause-fits c =
    let same = to_z-of_z w32 c.in-Ended.res (search rules) in
    let ended = issue_ended_goes _ c.issue.new.self c.post_end.new.cq c.args.number c.in-Ended.res c.in-Ended.posts c.in-Ended.ensures.answer
    c.in-Ended.ensures.shows c.in-Ended.ensures.counts (λ g l. simp same at (c.post_end.ensures.shows g l)) c.post_end.ensures.room c.post_end.ensures.promised in
    rw (simp same at c.ended.ensures, ← c.self.view_is) ended

pub returns-in-Run-clause-fits : goal.returns-in-Run-clause-fits
returns-in-Run-clause-fits c = rw (← c.self.view_is) (run_goes _ c.issue.new.self c.args.number c.in-Run.field-0 c.in-Run.ensures.answer c.in-Run.ensures.shows c.in-Run.ensures.counts)

pub returns-in-NotReady-clause-fits : goal.returns-in-NotReady-clause-fits
returns-in-NotReady-clause-fits c = rw (← c.self.view_is) (issue_refused_goes _ c.issue.new.self c.args.number issue.NotReady c.in-NotReady.ensures.answer c.in-NotReady.ensures.counts (λ w. refl))

pub returns-in-Running-clause-fits : goal.returns-in-Running-clause-fits
returns-in-Running-clause-fits c = rw (← c.self.view_is) (issue_refused_goes _ c.issue.new.self c.args.number issue.Running c.in-Running.ensures.answer c.in-Running.ensures.counts (λ w. refl))

pub returns-in-Unknown-clause-fits : goal.returns-in-Unknown-clause-fits
returns-in-Unknown-clause-fits c = rw (← c.self.view_is) (issue_refused_goes _ c.issue.new.self c.args.number issue.Unknown c.in-Unknown.ensures.answer c.in-Unknown.ensures.counts (λ w. refl))
