use Rattle.uring_observed_text.proofs.Answered.{tells_far}
use Rattle.uring_observed_text.proofs.filling.far_text.Goals as goal

pub returns-clause-far : goal.returns-clause-far
returns-clause-far g c =
    tells_far c.args.setup.now _ _ _ _ _ _ _ _ c.requires.far.0 (rw c.as_slice.ensures.value at c.in_ok-text.ensures.tells) c.in_ok-push_bytes.ensures.items c.in_ok-push_bytes-2.ensures.items c.in_ok-push_bytes-3.ensures.items c.in_ok-push_bytes-4.ensures.items
