use Rattle.uring_trace.proofs.reason_text.push_since_in.Goals as goal

pub returns-in-SameGroup-clause-bytes : goal.returns-in-SameGroup-clause-bytes
returns-in-SameGroup-clause-bytes g c = rw c.in-SameGroup.is c.push_text.ensures.bytes

pub returns-in-ItDrains-clause-bytes : goal.returns-in-ItDrains-clause-bytes
returns-in-ItDrains-clause-bytes g c = rw c.in-ItDrains.is c.push_terms.ensures.bytes

pub returns-in-OwnDrains-clause-bytes : goal.returns-in-OwnDrains-clause-bytes
returns-in-OwnDrains-clause-bytes g c = rw c.in-OwnDrains.is c.push_text-in-OwnDrains.ensures.bytes

pub returns-in-Deferred-clause-bytes : goal.returns-in-Deferred-clause-bytes
returns-in-Deferred-clause-bytes g c = rw c.in-Deferred.is c.push_text-in-Deferred.ensures.bytes
