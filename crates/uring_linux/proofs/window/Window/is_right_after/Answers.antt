use Rattle.std.proofs.Common.{◌-◌, sym, ◌∙◌, arith}
use Rattle.uring_linux.proofs.Common.{IsWithin, not-true}
use Rattle.uring_linux.proofs.MemberLemmas.{not_in_turn}
use Rattle.uring_linux.proofs.window.Window.is_right_after.Goals as goal

pub returns : goal.returns
returns c = λ r s after.
    let first = c.first.ensures in
    let past = c.if-n-first.false in
    let low = c.requires.low in
    let high = c.requires.high in
    let within : IsWithin c.args.self.now (c.args.n - 1) = record { low = omega (arith, first, past); high = omega (arith, high) } in
    not_in_turn r c.args.n (omega (arith, first, past)) (sym (c.is_last.ensures r s within) ∙ c.if-is_last.false)
    (not-true _ (sym (c.passes.ensures r s within) ∙ after))
