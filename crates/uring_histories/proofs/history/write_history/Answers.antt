use Rattle.uring_histories.proofs.Common.{string_bytes}
use Rattle.uring_histories.proofs.Told.{shown_all}
use Rattle.uring_histories.proofs.history.write_history.Goals as goal

pub returns-in-Ok-clause-written : goal.returns-in-Ok-clause-written
returns-in-Ok-clause-written g c = λ so.
    let accepted = rw c.as_bytes-bytes.ensures.value at (c.in_ok-is_accepted.ensures c.if-not-is_accepted.false) in
    let text = rw c.as_bytes-bytes.ensures.value at c.in-Ok.ensures.text in
    shown_all c.args.setup.now c.args.input.now c.args.ending.now _ _ (string_bytes c.in-Some.text) (string_bytes c.in_ok-whole.whole) (rw c.in-Some.is at c.in_ok-text.ensures) (rw c.as_str.ensures.value at c.in_ok-whole.ensures) (accepted, rw text.2 at text.1)
