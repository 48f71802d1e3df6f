use Rattle.std.proofs.lemmas.Result.{on_ok_weaker}
use Rattle.uring_histories.proofs.Arrived.{amid_issue, amid_finish}
use Rattle.uring_histories.proofs.replay.make_move.Goals as goal

pub returns-in-Issue : goal.returns-in-Issue
returns-in-Issue c =
    let amid = c.requires.amid in
    on_ok_weaker c.make_numbered.result
    (λ m. amid_issue c.args.setup.now c.args.recording.now c.make_numbered.new.self c.in-Issue.number _ amid m)
    (c.make_numbered.ensures c.args.setup.now amid.history amid.recorded)

pub returns-in-Finish : goal.returns-in-Finish
returns-in-Finish c =
    let amid = c.requires.amid in
    on_ok_weaker c.make_numbered-in-Finish.result
    (λ m. amid_finish c.args.setup.now c.args.recording.now c.make_numbered-in-Finish.new.self c.in-Finish.number _ amid m)
    (c.make_numbered-in-Finish.ensures c.args.setup.now amid.history amid.recorded)
