use Rattle.uring_observed_text.proofs.Answered.{named}
use Rattle.uring_observed_text.proofs.filling.told_bad.Goals as goal

pub returns-clause-text : goal.returns-clause-text
returns-clause-text g c =
    rw c.into_bytes.ensures.value (named c.args.place _ _ _ _ c.args.flaw.now c.new-line.ensures.bytes c.in_ok-push_named.ensures.bytes c.in_ok-push_text.ensures.bytes c.in_ok-push_text-2.ensures.bytes)
