use Rattle.std.proofs.Common.{◌≡◌, Some, refl, subst, rules}
use Rattle.uring_core.proofs.Common.{requests_of, to_z-of_z, w32, world}
use Rattle.uring_rules.specs.RulesIssues.{posted_by}
use Rattle.uring_core.proofs.CoreSteps.{core_after}
use Rattle.uring_core.proofs.CoreEnds.{finish_goes, ended_as_posted}
use Rattle.uring_core.proofs.cores.Core.finish.Goals as goal

pub invariant_of-self : goal.invariant_of-self
invariant_of-self c = (
  c.self.invariant.0,
  core_after _ _ _ refl (finish_goes _ c.end_running.new.self c.post_end.new.cq c.args.number c.args.outcome.res c.args.outcome.bytes _ (simp (to_z-of_z w32 c.args.outcome.res (search rules)) at c.in-Some.ensures.answer)
      (simp (to_z-of_z w32 c.args.outcome.res (search rules)) at c.in-Some.ensures.shows) c.in-Some.ensures.counts (simp (to_z-of_z w32 c.args.outcome.res (search rules)) at c.post_end.ensures.shows) c.post_end.ensures.room c.post_end.ensures.promised) c.self.invariant.1,
)

pub returns-in-Some-clause-fits : goal.returns-in-Some-clause-fits
returns-in-Some-clause-fits c =
    rw (simp (to_z-of_z w32 c.args.outcome.res (search rules)) at c.ended.ensures, ← c.self.view_is) (finish_goes _ c.end_running.new.self c.post_end.new.cq c.args.number c.args.outcome.res c.args.outcome.bytes _ (simp (to_z-of_z w32 c.args.outcome.res (search rules)) at c.in-Some.ensures.answer)
    (simp (to_z-of_z w32 c.args.outcome.res (search rules)) at c.in-Some.ensures.shows) c.in-Some.ensures.counts (simp (to_z-of_z w32 c.args.outcome.res (search rules)) at c.post_end.ensures.shows) c.post_end.ensures.room c.post_end.ensures.promised)

pub returns-in-Some-clause-outcome : goal.returns-in-Some-clause-outcome
returns-in-Some-clause-outcome c =
    let posted = simp (to_z-of_z w32 c.args.outcome.res (search rules)) at c.in-Some.ensures.answer in
    let ends = simp (to_z-of_z w32 c.args.outcome.res (search rules)) at c.ended.ensures in
    rw (← c.self.view_is) (λ h f. ended_as_posted c.self.inside.setup (world c.self.inside.setup h) c.args.number c.args.outcome c.in-Some.posts c.ended.result (subst (λ linux. Some c.in-Some.posts ≡ posted_by linux (requests_of (world c.self.inside.setup h)) c.args.number c.args.outcome.res) f.shows.rules (posted _ f.shows.requests)) ends)
