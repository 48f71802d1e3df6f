use Rattle.std.proofs.Common.{subst, arith}
use Rattle.uring_machine.proofs.Common.{IfOk, IsFirstWrongApart, IsLawfulApart, MatchOption, Setup, false≢true, history_of}
use Rattle.uring_machine.proofs.checks.check_apart_in.Goals as goal

pub returns-clause-found : goal.returns-clause-found
returns-clause-found g c =
    subst (λ (s : Setup). IfOk c.first_wrong_apart-found.result (λ found. MatchOption found (IsLawfulApart s (history_of c.args.events.now)) (λ at. IsFirstWrongApart s c.args.events.now at.0 at.1)))
    c.in_ok-core.ensures.setup c.first_wrong_apart-found.ensures.found

pub returns-clause-granted : goal.returns-clause-granted
returns-clause-granted g c = λ n grants cq few.
    (rw c.in_ok-core.ensures.setup at c.first_wrong_apart-found.ensures.granted) n grants few

pub returns-in_err-core-clause-granted : goal.returns-in_err-core-clause-granted
returns-in_err-core-clause-granted g c = λ n grants cq few.
    absurd (false≢true (c.in_err-core.ensures.granted n grants (omega (arith, few)) cq))
