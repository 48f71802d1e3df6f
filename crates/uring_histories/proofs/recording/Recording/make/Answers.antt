use Rattle.std.proofs.Common.{rules}
use Rattle.uring_histories.proofs.Recorded.{made_one}
use Rattle.uring_histories.proofs.recording.Recording.make.Goals as goal

pub returns : goal.returns
returns c = λ g h r.
    made_one g c.args.self.now _ h c.args.step.now c.step-answer.result c.args.line.now r (rw c.as_bytes.ensures.value at (c.in_ok-is_spelt.ensures.step.0 (search rules)))
    (c.refuses.ensures.again c.if-refuses.false, c.refuses.ensures.spent c.if-refuses.false)
    (λ bytes. c.refuses.ensures.ended bytes c.if-refuses.false)
    c.step-answer.ensures.setup c.step-answer.ensures.fits c.step-answer.ensures.called
    (c.in_ok-push_exchange.ensures c.args.step.now)
