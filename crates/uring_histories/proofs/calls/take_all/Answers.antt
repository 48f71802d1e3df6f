use Rattle.std.proofs.Common.{◌≡◌, [], ◌∷◌, ap, arith}
use Rattle.uring_core.specs.declared.step.Step.TheVariants as step
use Rattle.uring_histories.specs.Recordings.{take_steps}
use Rattle.uring_histories.proofs.Recorded.{made_after, same_made, none_made, takes_more}
use Rattle.uring_histories.proofs.calls.take_all.Goals as goal

pub loop-taken-init : goal.loop-taken-init
loop-taken-init c = λ g h r. none_made g _ h r

pub loop-taken-preserved : goal.loop-taken-preserved
loop-taken-preserved c = λ g h r.
    let n = c.loop-taken._taken in
    let before = c.loop-taken.invariant g h r in
    same_made g _ h _ _ (takes_more n)
    (made_after g _ _ h (take_steps n) (step.Take ∷ []) before (c.in_ok-make.ensures g before.after before.recorded))

pub returns : goal.returns
returns c = λ g h r.
    let all : c.loop-taken._taken ≡ c.args.count = omega arith in
    same_made g c.loop-taken.recording h _ _ (ap take_steps all) (c.loop-taken.invariant g h r)
