use Rattle.uring_trace.proofs.ShownTexts.{part_after}
use Rattle.uring_trace.proofs.reason_text.push_doomed.Goals as goal

pub returns-in-OwnFault-clause-bytes : goal.returns-in-OwnFault-clause-bytes
returns-in-OwnFault-clause-bytes g c = rw c.in-OwnFault.is (part_after c.push_text-in-OwnFault.result _ _ _ _ _ c.in_ok-push_text.ensures.bytes (rw c.fault_text.ensures at c.push_text-in-OwnFault.ensures.bytes))

pub returns-in-FaultOf-clause-bytes : goal.returns-in-FaultOf-clause-bytes
returns-in-FaultOf-clause-bytes g c = rw c.in-FaultOf.is (part_after c.push_terms.result _ _ _ _ _ c.in_ok-push_text.ensures.bytes c.push_terms.ensures.bytes)

pub returns-in-FailureOf-clause-bytes : goal.returns-in-FailureOf-clause-bytes
returns-in-FailureOf-clause-bytes g c = rw c.in-FailureOf.is (part_after c.push_terms-in-FailureOf.result _ _ _ _ _ c.in_ok-push_text.ensures.bytes c.push_terms-in-FailureOf.ensures.bytes)

pub returns-in-Cancel-clause-bytes : goal.returns-in-Cancel-clause-bytes
returns-in-Cancel-clause-bytes g c = rw c.in-Cancel.is (part_after c.push_text-in-Cancel.result _ _ _ _ _ c.in_ok-push_text.ensures.bytes c.push_text-in-Cancel.ensures.bytes)

pub returns-in-RefusedDrain-clause-bytes : goal.returns-in-RefusedDrain-clause-bytes
returns-in-RefusedDrain-clause-bytes g c = rw c.in-RefusedDrain.is (part_after c.push_text-in-RefusedDrain.result _ _ _ _ _ c.in_ok-push_text.ensures.bytes c.push_text-in-RefusedDrain.ensures.bytes)
