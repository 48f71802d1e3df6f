use Rattle.std.proofs.Common.{◌≡◌, ◌+◌, suc, map, ap, ◌∙◌, arith}
use Rattle.uring_volume.proofs.Common.{false≢true}
use Rattle.uring_volume.specs.Ways.{joined, fronts}
use Rattle.uring_volume.proofs.listing.fronts.Goals as goal

pub loop-i-preserved : goal.loop-i-preserved
loop-i-preserved g c =
    let next : suc c.loop-i.i ≡ c.loop-i.i + 1 = omega arith in
    c.in_ok-files.ensures.joined
    ∙ ap (λ xs. joined (map (λ b. b.items) xs) (map (λ b. b.items) c.deref-in-loop-i.result.now)) c.deref.ensures.value
    ∙ ap (λ xs. joined (map (λ b. b.items) c.loop-i.files.items) (map (λ b. b.items) xs)) c.deref-in-loop-i.ensures.value
    ∙ ap (λ bs. joined bs (map (λ b. b.items) c.in_ok-ends.ends.items)) c.loop-i.invariant
    ∙ ap (joined (fronts c.args.unit c.args.first.now c.args.past.now.history c.args.len c.loop-i.i)) c.in_ok-ends.ensures.contents
    ∙ ap (fronts c.args.unit c.args.first.now c.args.past.now.history c.args.len) next

pub returns-clause-fronts : goal.returns-clause-fronts
returns-clause-fronts g c =
    let all : c.loop-i.i ≡ c.count_units-i-end.result = omega arith in
    c.loop-i.invariant ∙ ap (fronts c.args.unit c.args.first.now c.args.past.now.history c.args.len) (all ∙ c.count_units-i-end.ensures.value)

pub returns-in_err-ends-clause-granted : goal.returns-in_err-ends-clause-granted
returns-in_err-ends-clause-granted g c = λ all. absurd (false≢true (c.in_err-ends.ensures.granted all))

pub returns-in_err-files-clause-granted : goal.returns-in_err-files-clause-granted
returns-in_err-files-clause-granted g c = λ all. absurd (false≢true (c.in_err-files.ensures.granted all))

pub returns-in_err-push-clause-granted : goal.returns-in_err-push-clause-granted
returns-in_err-push-clause-granted g c = λ all. absurd (false≢true (c.in_err-push.ensures.granted all))
