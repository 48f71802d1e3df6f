use Rattle.std.proofs.Common.{◌≡◌, rules, ◌+◌, ◌∷◌, [], ◌++◌, map, drop, refl, sym, ap, ◌∙◌}
use Rattle.uring_volume.proofs.Common.{false≢true, append-nil, drop_all}
use Rattle.uring_volume.proofs.Seeking.{put_one}
use Rattle.uring_volume.proofs.Taking.{push_map}
use Rattle.uring_volume.proofs.listing.put_joined.Goals as goal

pub returns-in_err-file-clause-granted : goal.returns-in_err-file-clause-granted
returns-in_err-file-clause-granted g c = λ all. absurd (false≢true (c.in_err-file.ensures.granted all))

pub returns-in_err-push-clause-granted : goal.returns-in_err-push-clause-granted
returns-in_err-push-clause-granted g c = λ all. absurd (false≢true (c.in_err-push.ensures.granted all))

pub loop-end-preserved : goal.loop-end-preserved
loop-end-preserved g c =
    let made : c.extend_from_slice.new.self.items ≡ c.args.front.now ++ c.end-item.result.items = search rules in
    ap (λ fs. fs ++ map (λ e. c.args.front.now ++ e) (map (λ b. b.items) (drop (c.loop-end.end-index + 1) c.args.ends.now)))
    (push_map (λ b. b.items) _ _ _ _ c.in_ok-push.ensures.items refl ∙ ap (λ b. map (λ b. b.items) c.loop-end.files.items ++ b ∷ []) made)
    ∙ put_one (λ b. b.items) (λ e. c.args.front.now ++ e) c.args.ends.now c.loop-end.end-index c.end-item.result _ c.loop-end-test.true c.end-item.is
    ∙ c.loop-end.invariant

pub returns-clause-joined : goal.returns-clause-joined
returns-clause-joined g c =
    sym (append-nil (map (λ b. b.items) c.loop-end.files.items))
    ∙ sym (ap (λ es. map (λ b. b.items) c.loop-end.files.items ++ map (λ e. c.args.front.now ++ e) (map (λ b. b.items) es)) (drop_all c.loop-end.end-index c.args.ends.now c.loop-end-test.false))
    ∙ c.loop-end.invariant
