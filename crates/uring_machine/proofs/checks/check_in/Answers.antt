use Rattle.std.proofs.Common.{subst, arith}
use Rattle.uring_machine.proofs.Common.{IfOk, IsFirstWrongAnswer, IsLawful, MatchOption, Setup, false≢true, history_of}
use Rattle.uring_machine.proofs.checks.check_in.Goals as goal

pub returns-clause-found : goal.returns-clause-found
returns-clause-found g c =
    subst (λ (s : Setup). IfOk c.first_wrong-found.result (λ found. MatchOption found (IsLawful s (history_of c.args.events.now)) (λ at. IsFirstWrongAnswer s c.args.events.now at.0 at.1)))
    c.in_ok-machine.ensures.setup c.first_wrong-found.ensures.found

pub returns-clause-granted : goal.returns-clause-granted
returns-clause-granted g c = λ n grants bytes cq files few.
    (rw c.in_ok-machine.ensures.setup at c.first_wrong-found.ensures.granted) n grants bytes few

pub returns-in_err-machine-clause-granted : goal.returns-in_err-machine-clause-granted
returns-in_err-machine-clause-granted g c = λ n grants bytes cq files few.
    absurd (false≢true (c.in_err-machine.ensures.granted n grants (omega (arith, few)) cq files))
