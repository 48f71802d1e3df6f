use Rattle.uring_enter.proofs.time.times.Times.come_to.Goals as goal

pub returns-in-Some : goal.returns-in-Some
returns-in-Some c log rows keeps = rw c.in-Some.is (c.move_to.ensures log rows keeps)
