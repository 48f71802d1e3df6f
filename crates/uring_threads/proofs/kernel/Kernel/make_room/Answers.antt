use Rattle.std.proofs.Common.{refl, length-drop, ◌+◌, ◌*◌, ◌≤◌, length, sym, subst, arith, vec_capacity}
use Rattle.uring_threads.proofs.Common.{IfOk-weaker, Setup, World, common_steps, false≢true, now, unreaped}
use Rattle.uring_threads.proofs.Collecting.{on_ok}
use Rattle.uring_threads.proofs.TraceSteps.{unmoved_now}
use Rattle.uring_threads.proofs.Turning.{kernel_unmoved}
use Rattle.uring_threads.proofs.kernel.Kernel.make_room.Goals as goal

pub invariant_of-self : goal.invariant_of-self
invariant_of-self g c =
    let unmoved = c.reserve.ensures.unmoved in (subst (λ (s : Setup). s.sq ≤ vec_capacity c.self.inside.items) (sym unmoved.setup) c.self.invariant.0, kernel_unmoved _ c.reserve.new.self unmoved c.self.invariant.1)

pub invariant_of-self-2 : goal.invariant_of-self-2
invariant_of-self-2 g c =
    let unmoved = c.reserve.ensures.unmoved in (subst (λ (s : Setup). s.sq ≤ vec_capacity c.self.inside.items) (sym unmoved.setup) c.self.invariant.0, kernel_unmoved _ c.reserve.new.self unmoved c.self.invariant.1)

pub returns-in_err-reserve-clause-same : goal.returns-in_err-reserve-clause-same
returns-in_err-reserve-clause-same g c = rw (← c.self.view_is) (record { kept = c.reserve.ensures.unmoved; others = refl })

pub returns-clause-same : goal.returns-clause-same
returns-clause-same g c = rw (← c.self.view_is) (record { kept = c.reserve.ensures.unmoved; others = refl })

pub returns-clause-room : goal.returns-clause-room
returns-clause-room g c =
    rw (← c.self.view_is) (on_ok c.list.result (omega (arith, c.in_ok-reserve.ensures.ok, c.len-results.ensures, c.self.inside.lanes.ok.0)))

pub returns-clause-list : goal.returns-clause-list
returns-clause-list g c =
    let counts = c.counts-counts.ensures in
    let rings = (now c.reserve.new.self).completions in
    let same = unmoved_now c.self.inside.kept c.reserve.new.self c.reserve.ensures.unmoved in
    rw (← c.self.view_is, ← same) (IfOk-weaker c.list.result (λ list. c.saturating_add.result ≤ vec_capacity list) (λ list. length (unreaped (now c.reserve.new.self).completions) + 64 * length c.self.inside.lanes.items ≤ vec_capacity list) (λ list fits. omega (arith, fits, list.small, c.saturating_add.ensures, c.len-results.ensures, c.self.inside.lanes.ok.0, counts.posted, counts.reaped, length-drop (length rings.reaped) rings.posted)) c.list.ensures.capacity)

pub returns-in_err-reserve-clause-granted : goal.returns-in_err-reserve-clause-granted
returns-in_err-reserve-clause-granted g c =
    rw (← c.self.view_is) (λ n grants events waiting. absurd (false≢true (c.in_err-reserve.ensures.granted n grants (omega (arith, events, c.len-results.ensures, c.self.inside.lanes.ok.0)))))

pub returns-clause-granted : goal.returns-clause-granted
returns-clause-granted g c =
    rw (← c.self.view_is) (λ n grants events waiting.
    let same = unmoved_now c.self.inside.kept c.reserve.new.self c.reserve.ensures.unmoved in
    let left : length (unreaped (now c.reserve.new.self).completions) + 64 * length c.self.inside.lanes.items ≤ n = subst (λ (w : World). length (unreaped w.completions) + 64 * length c.self.inside.lanes.items ≤ n) (sym same) waiting in
    c.list.ensures.granted n grants (grind (arith, common_steps)))
