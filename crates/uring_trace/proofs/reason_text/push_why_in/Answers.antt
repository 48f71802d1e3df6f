use Rattle.uring_trace.proofs.ShownTexts.{part_after}
use Rattle.uring_trace.proofs.reason_text.push_why_in.Goals as goal

pub returns-in-NeverAccepted-clause-bytes : goal.returns-in-NeverAccepted-clause-bytes
returns-in-NeverAccepted-clause-bytes g c = rw c.in-NeverAccepted.is c.push_text.ensures.bytes

pub returns-in-HasEnded-clause-bytes : goal.returns-in-HasEnded-clause-bytes
returns-in-HasEnded-clause-bytes g c = rw c.in-HasEnded.is c.push_text-in-HasEnded.ensures.bytes

pub returns-in-Runs-clause-bytes : goal.returns-in-Runs-clause-bytes
returns-in-Runs-clause-bytes g c = rw c.in-Runs.is c.push_text-in-Runs.ensures.bytes

pub returns-in-IsDoomed-clause-bytes : goal.returns-in-IsDoomed-clause-bytes
returns-in-IsDoomed-clause-bytes g c = rw c.in-IsDoomed.is c.push_doomed.ensures.bytes

pub returns-in_ok-push_terms-in-Waits-clause-bytes : goal.returns-in_ok-push_terms-in-Waits-clause-bytes
returns-in_ok-push_terms-in-Waits-clause-bytes g c =
    rw c.in-Waits.is (part_after c.push_since_in.result _ _ _ _ _ c.in_ok-push_terms-in-Waits.ensures.bytes c.push_since_in.ensures.bytes)

pub returns-in-MayStart-clause-bytes : goal.returns-in-MayStart-clause-bytes
returns-in-MayStart-clause-bytes g c = rw c.in-MayStart.is c.push_text-in-MayStart.ensures.bytes
