use Rattle.uring_histories.proofs.replay.reap_all.Goals as goal

pub loop-turn-preserved : goal.loop-turn-preserved
loop-turn-preserved c = λ g calls posted done.
    let flushed = c.in_ok-show.ensures g calls posted (c.loop-turn.invariant g calls posted done) in
    let loaded = c.in_ok-show-2.ensures g calls posted flushed in
    let reaped = c.in_ok-reap_each.ensures g calls posted loaded in
    c.in_ok-show-3.ensures g calls posted reaped
