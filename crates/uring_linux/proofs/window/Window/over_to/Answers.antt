use Rattle.std.proofs.Common.{◌≡◌, ℕ, true, Some, sym, ◌∙◌, ap, arith, inl, inr, ◌<◌, ◌+◌}
use Rattle.uring_linux.proofs.Common.{Request, Window, at, cases_lt}
use Rattle.uring_linux.proofs.WindowEvents.{at_within}
use Rattle.uring_linux.proofs.window.Window.over_to.Goals as goal
use Rattle.uring_linux.proofs.window.Window.over_to.Goals.{then-request, else-request}

pub loop-n-init : goal.loop-n-init
loop-n-init c =
    let first = ap (λ (s : Window). s.first) c.self.view_is in
    record {
      low = omega arith;
      high = omega arith;
      ended = λ k q lt e. let w = at_within _ k q e in absurd (omega (arith, w.low, lt));
      last = λ k q is e. let w = at_within _ k q e in absurd (omega (arith, w.low, is));
    }

pub loop-n-preserved : goal.loop-n-preserved
loop-n-preserved c =
    let i = c.loop-n.invariant in
    let low = i.low in
    let high = i.high in
    let only : (k : ℕ) (q : Request) → k ≡ c.loop-n.n → at c.args.self.now k ≡ Some q → q ≡ c.in-Some.request.now =
    λ k q same e. let f : Some q ≡ Some c.in-Some.request.now = sym e ∙ ap (at c.args.self.now) same ∙ sym c.in-Some.ensures in cc
    in
    let ended : (k : ℕ) (q : Request) → k < c.loop-n.n + 1 → at c.args.self.now k ≡ Some q → q.has_ended ≡ true =
    λ k q lt e.
    elim (cases_lt k c.loop-n.n) [
      | inl before ↦ i.ended k q before e
      | inr here ↦ ap (λ (x : Request). x.has_ended) (only k q (omega (arith, lt, here)) e) ∙ c.if-not-request.false
    ]
    in
    elim c.if-request.branch [
      | then-request w ↦
          rw w.to-is (record {
            low = omega arith;
            high = omega arith;
            ended = ended;
            last = λ k q is e. ap (λ (x : Request). x.is_last) (only k q (omega arith) e) ∙ w.if-request.true;
          })
      | else-request w ↦
          rw w.to-is (record {
            low = low;
            high = omega arith;
            ended = ended;
            last = i.last;
          })
    ]
