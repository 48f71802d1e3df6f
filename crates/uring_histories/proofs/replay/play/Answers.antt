use Rattle.std.proofs.Common.{rules}
use Rattle.uring_histories.specs.Recordings.{published_in}
use Rattle.uring_histories.proofs.Arrived.{ended_now, history_shown}
use Rattle.uring_histories.proofs.replay.play.Goals as goal

pub returns-then-has_files : goal.returns-then-has_files
returns-then-has_files c =
    let g = c.args.setup.now in
    let calls = published_in c.args.calls.now in
    let done = ended_now g c.make_moves.new.recording calls c.args.ending.now.posted c.in_ok-make_moves.ensures
    (λ h fits none. rw c.posted.ensures at (c.has_come-has_come.ensures h fits none (search rules))) in
    let reaped = c.in_ok-reap_all.ensures g calls c.args.ending.now.posted done in
    history_shown g c.reap_all.new.recording calls c.args.ending.now reaped
    (λ h fits. rw c.files.ensures.files at (c.has_files.ensures h fits (rw reaped.recorded.setup c.cq.ensures.limits.files_limit) c.if-has_files.true))
