use Rattle.std.proofs.Common.{sym, ◌∙◌, ap}
use Rattle.uring_linux.proofs.Common.{first_of, if◌then◌else◌}
use Rattle.uring_entry.specs.Why.{failed_member_of}
use Rattle.uring_linux.proofs.MemberLemmas.{first_is}
use Rattle.uring_linux.proofs.group.Group.breaker.Goals as goal

pub returns-then-is_faulty-clause-breaker : goal.returns-then-is_faulty-clause-breaker
returns-then-is_faulty-clause-breaker c = λ r m.
    c.if_before.ensures.value ∙ sym (first_is r _ _ c.args.n m.told.group m.low m.high)
    ∙ ap (λ b. if b then first_of r c.args.n else failed_member_of r c.args.n) (sym c.if-is_faulty.true ∙ c.is_faulty.ensures r c.args.n m)
