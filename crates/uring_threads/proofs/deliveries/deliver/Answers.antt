use Rattle.uring_threads.proofs.Common.{Setup, false≢true, min}
use Rattle.std.proofs.Common.{◌+◌, length, sym, ap, ap₂, ◌∙◌, arith}
use Rattle.uring_threads.proofs.Posting.{row_keeps, row_delivers, row_most}
use Rattle.uring_threads.proofs.Recording.{delivery_recorded}
use Rattle.uring_threads.proofs.deliveries.deliver.Goals as goal

pub returns-clause-keeps : goal.returns-clause-keeps
returns-clause-keeps g c =
    row_keeps c.args.kept.now c.reserve.new.self c.step_reserved.new.self c.step_reserved-2.new.self c.reap_all.new.kept c.step_reserved-3.new.self c.step_reserved.result c.step_reserved-2.result c.step_reserved-3.result (g.P.KernelPort.delivered c.reap_all.new.port)
    c.reserve.ensures.unmoved c.step_reserved.ensures.grows c.step_reserved-2.ensures.grows c.reap_all.ensures.world c.step_reserved-3.ensures.grows

pub returns-clause-delivered : goal.returns-clause-delivered
returns-clause-delivered g c =
    row_delivers c.args.kept.now c.reserve.new.self c.step_reserved.new.self c.step_reserved-2.new.self c.reap_all.new.kept c.step_reserved-3.new.self c.step_reserved.result c.step_reserved-2.result c.step_reserved-3.result (g.P.KernelPort.delivered c.reap_all.new.port)
    c.reserve.ensures.unmoved c.step_reserved.ensures.grows c.step_reserved-2.ensures.grows c.reap_all.ensures.world c.step_reserved-3.ensures.grows

pub returns-clause-row : goal.returns-clause-row
returns-clause-row g c =
    delivery_recorded c.args.kept.now c.reserve.new.self c.step_reserved.new.self c.step_reserved-2.new.self c.reap_all.new.kept c.step_reserved-3.new.self _ c.step_reserved.result c.step_reserved-2.result c.step_reserved-3.result (omega arith)
    c.reserve.ensures.unmoved c.step_reserved.ensures.grows c.step_reserved-2.ensures.grows c.reap_all.ensures.row c.step_reserved-3.ensures.grows

pub returns-in_err-reserve-clause-granted : goal.returns-in_err-reserve-clause-granted
returns-in_err-reserve-clause-granted g c = λ all. absurd (false≢true (c.in_err-reserve.ensures.granted (length c.args.kept.now.trace + (c.min-count.result + 3)) (all (length c.args.kept.now.trace + (c.min-count.result + 3))) (omega arith)))

pub returns-clause-most : goal.returns-clause-most
returns-clause-most g c =
    let counts = c.counts-counts.ensures in
    row_most c.args.kept.now c.reserve.new.self c.step_reserved.new.self c.step_reserved-2.new.self c.reap_all.new.kept c.step_reserved-3.new.self c.step_reserved.result c.step_reserved-2.result c.step_reserved-3.result (g.P.KernelPort.delivered c.reap_all.new.port)
    c.reserve.ensures.unmoved c.step_reserved.ensures.grows c.step_reserved-2.ensures.grows c.reap_all.ensures.world c.step_reserved-3.ensures.grows
    c.counts-counts.result.posted c.counts-counts.result.reaped c.room-room.result _ c.args.kept.now.setup.cq c.min-count.result counts.in_order
    (c.min-count.ensures ∙ ap₂ min c.min.ensures (c.from-size.ensures ∙ c.cq.ensures.value ∙ ap (λ (s : Setup). s.cq) c.setup.ensures.value))
    (c.reap_all.ensures.free ∙ sym c.room-room.ensures.free)
    (c.reap_all.ensures.delivered ∙ ap (λ k. k + c.min-count.result) (ap length c.room-room.ensures.delivered ∙ sym (counts.reaped ∙ ap length c.requires.delivered.reaped)))
    (sym counts.posted)
