use Rattle.uring_workers.proofs.worker.Worker.see_all.Goals as goal

pub invariant_of-self : goal.invariant_of-self
invariant_of-self g c = rw (c.slots_beside.ensures.looked.1, c.slots_beside-2.ensures.producer.1) c.self.invariant
