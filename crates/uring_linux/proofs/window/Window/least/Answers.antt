use Rattle.std.proofs.Common.{◌≡◌, Some, sym, ◌∙◌, ap, arith, inl, inr}
use Rattle.uring_linux.proofs.Common.{at, cases_lt}
use Rattle.uring_linux.proofs.PassedOver.{least_ended, least_within}
use Rattle.uring_linux.proofs.window.Window.least.Goals as goal

pub returns-in-Some-clause-ended : goal.returns-in-Some-clause-ended
returns-in-Some-clause-ended c = λ r h k lt.
    let here : at c.args.self.now c.args.self.now.first ≡ Some c.in-Some.request.now = ap (at c.args.self.now) (sym c.first.ensures) ∙ sym c.in-Some.ensures in
    elim (cases_lt k c.args.self.now.first) [
      | inl low ↦ h.gone k low
      | inr past ↦ least_ended c.args.self.now r c.in-Some.request.now k h here (omega arith)
    ]

pub returns-in-Some-clause-high : goal.returns-in-Some-clause-high
returns-in-Some-clause-high c = λ r h.
    let here : at c.args.self.now c.args.self.now.first ≡ Some c.in-Some.request.now = ap (at c.args.self.now) (sym c.first.ensures) ∙ sym c.in-Some.ensures in
    let within = least_within c.args.self.now r c.in-Some.request.now h here in
    omega arith
