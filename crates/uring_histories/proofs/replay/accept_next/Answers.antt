use Rattle.std.proofs.Common.{◌≡◌, length, take, subst, rules, arith}
use Rattle.uring_histories.proofs.Common.{GoesThrough, IsAmid, all_published_as, length-map, published_as, published_in}
use Rattle.uring_histories.proofs.Arrived.{amid_call, calls_more}
use Rattle.uring_histories.proofs.replay.accept_next.Goals as goal

pub returns : goal.returns
returns c =
    let items = all_published_as c.as_slice-items.result.now in
    let amid = c.requires.amid in
    let many : length items ≡ length c.as_slice-items.result.now = length-map c.as_slice-items.result.now published_as in
    let goes_in : GoesThrough c.args.setup.now.sq items = record { few = omega arith; are_items = search rules } in
    let m = c.in_ok-submit.ensures c.args.setup.now amid.history amid.recorded in
    subst (λ l. IsAmid c.args.setup.now c.submit.new.recording l)
    (calls_more c.args.calls.now c.args.done.now c.index-calls-done.result (search rules) c.index-calls-done.is)
    (rw c.as_slice-items.ensures.value at (amid_call c.args.setup.now c.args.recording.now c.submit.new.recording (published_in (take c.args.done.now c.args.calls.now)) items c.requires.goes_on c.requires.manual goes_in amid m))
