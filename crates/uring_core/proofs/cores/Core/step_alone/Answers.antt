use Rattle.std.proofs.Common.{ap}
use Rattle.uring_core.proofs.Common.{next_answer_of}
use Rattle.uring_core.proofs.cores.Core.step_alone.Goals as goal

pub returns-in-Fill-clause-fits : goal.returns-in-Fill-clause-fits
returns-in-Fill-clause-fits c = rw c.in-Fill.is c.fill.ensures.fits

pub returns-in-Index-clause-fits : goal.returns-in-Index-clause-fits
returns-in-Index-clause-fits c = rw c.in-Index.is c.index.ensures.fits

pub returns-in-StoreTail-clause-fits : goal.returns-in-StoreTail-clause-fits
returns-in-StoreTail-clause-fits c = rw c.in-StoreTail.is c.store_tail.ensures.fits

pub returns-in-LoadHead-clause-fits : goal.returns-in-LoadHead-clause-fits
returns-in-LoadHead-clause-fits c = rw c.in-LoadHead.is c.load_head.ensures.fits

pub returns-in-Take : goal.returns-in-Take
returns-in-Take c = rw c.in-Take.is c.take.ensures

pub returns-in-End : goal.returns-in-End
returns-in-End c = rw c.in-End.is c.end.ensures

pub returns-in-Issue : goal.returns-in-Issue
returns-in-Issue c = rw c.in-Issue.is c.issue.ensures

pub returns-in-Flush : goal.returns-in-Flush
returns-in-Flush c = rw c.in-Flush.is c.flush.ensures

pub returns-in-LoadCqTail : goal.returns-in-LoadCqTail
returns-in-LoadCqTail c = rw c.in-LoadCqTail.is c.load_cq_tail.ensures

pub returns-in-Reap-clause-fits : goal.returns-in-Reap-clause-fits
returns-in-Reap-clause-fits c = rw (c.in-Reap.is, c.reaped.ensures) c.reap_next.ensures.fits

pub returns-in-StoreCqHead : goal.returns-in-StoreCqHead
returns-in-StoreCqHead c = rw c.in-StoreCqHead.is c.store_cq_head.ensures

pub returns-in-Close : goal.returns-in-Close
returns-in-Close c = rw c.in-Close.is c.close.ensures

pub returns-in-Next-clause-fits : goal.returns-in-Next-clause-fits
returns-in-Next-clause-fits c = rw (c.in-Next.is, c.next_answer.ensures) (λ h f. record { shows = f.shows; lawful = (ap next_answer_of (c.next.ensures h f), f.lawful) })
