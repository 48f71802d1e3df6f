use Rattle.std.proofs.Common.{not, ◌∙◌, ap, arith}
use Rattle.uring_entry.specs.Requests.{has_ended}
use Rattle.uring_linux.proofs.MemberLemmas.{first_member_later}
use Rattle.uring_linux.proofs.Reasons.{keeper_is}
use Rattle.uring_linux.proofs.window.Window.keeper.Goals as goal

pub returns : goal.returns
returns c = λ r s m kept.
    let t = m.told in
    c.first_with.ensures.first r s (omega (arith, t.low)) (omega (arith, m.high, t.group.accepted, s.count))
    ∙ first_member_later (λ k. not (has_ended r k)) c.args.group.from c.args.group.least c.args.n t.low (λ k le lt. ap not (t.ended k le lt))
    ∙ keeper_is r _ _ c.args.n t.group m.low m.high
