use Rattle.uring_outcomes.proofs.walk.outcomes_in.Goals as goal

pub returns-then-is_all-clause-all : goal.returns-then-is_all-clause-all
returns-then-is_all-clause-all g c = c.in_ok-found.ensures.all c.if-is_all.true
