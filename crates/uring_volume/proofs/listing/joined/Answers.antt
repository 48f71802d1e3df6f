use Rattle.std.proofs.Common.{◌+◌, ◌++◌, map, drop, ap, ◌∙◌}
use Rattle.uring_volume.proofs.Common.{false≢true, joined, drop_all, append-nil}
use Rattle.uring_volume.proofs.Seeking.{joined_one}
use Rattle.uring_volume.proofs.listing.joined.Goals as goal

pub returns-in_err-put_joined-clause-granted : goal.returns-in_err-put_joined-clause-granted
returns-in_err-put_joined-clause-granted g c = λ all. absurd (false≢true (c.in_err-put_joined.ensures.granted all))

pub loop-front-preserved : goal.loop-front-preserved
loop-front-preserved g c =
    ap (λ fs. fs ++ joined (map (λ b. b.items) (drop (c.loop-front.front-index + 1) c.args.fronts.now)) (map (λ b. b.items) c.args.ends.now))
    (c.in_ok-put_joined.ensures.joined ∙ ap (λ front. map (λ b. b.items) c.loop-front.files.items ++ map (λ e. front ++ e) (map (λ b. b.items) c.args.ends.now)) c.deref.ensures.value)
    ∙ joined_one (λ b. b.items) c.args.fronts.now c.loop-front.front-index c.front-item.result _ _ c.loop-front-test.true c.front-item.is
    ∙ c.loop-front.invariant

pub returns-clause-joined : goal.returns-clause-joined
returns-clause-joined g c = rw (drop_all c.loop-front.front-index c.args.fronts.now c.loop-front-test.false, append-nil) at c.loop-front.invariant
