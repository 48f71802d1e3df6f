use Rattle.std.proofs.Common.{not, ◌&&◌, length, sym, ◌∙◌, ap, arith}
use Rattle.uring_linux.proofs.Common.{Drains, and_from, is_deferred, is_in_some, is_outstanding, least_below_none, least_below_some, lt-ltb}
use Rattle.uring_linux.proofs.window.Window.least_free.Goals as goal

pub returns-then-not-is_deferred : goal.returns-then-not-is_deferred
returns-then-not-is_deferred c = λ l s e.
    sym
    (least_below_some (λ k. is_outstanding l.requests k && not (is_deferred l k)) (length l.requests.accepted) c.loop-n.n (omega (arith, s.count))
    (and_from _ _
    (and_from _ _ (lt-ltb c.loop-n.n (length l.requests.accepted) (omega (arith, s.count)))
    (sym (c.passes.ensures l.requests s (record { low = omega arith; high = omega arith })) ∙ c.if-passes.true))
    (ap not (ap (λ (d : Drains). is_in_some d.deferred c.loop-n.n) (sym e) ∙ sym c.is_deferred.ensures ∙ c.if-not-is_deferred.true)))
    (c.loop-n.invariant l s e))

pub returns : goal.returns
returns c = λ l s e.
    sym
    (least_below_none (λ k. is_outstanding l.requests k && not (is_deferred l k)) (length l.requests.accepted)
    (λ k lt. c.loop-n.invariant l s e k (omega (arith, s.count))))
