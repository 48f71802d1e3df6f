use Rattle.std.proofs.Common.{inl, inr, refl}
use Rattle.uring_play.proofs.PlayedThrough.{is_play}
use Rattle.uring_play.proofs.settling.settle_all.Goals as goal

pub returns-in-Ok : goal.returns-in-Ok
returns-in-Ok g c = λ calls submits.
    let told = c.in-Ok.ensures in
    let ends = c.args.ends in
    let done = c.are_done-is_over.ensures in
    elim c.write_whole-written.ensures [
      | inl (whole, written) ↦ inl (record { report = c.in-Ok.report; setup = told.setup; many = told.many; completions = _; play = rw ends.application.reaped at (is_play calls ends.application.app ends.kernel ends.workers.items told.setup told.lawful told.trace told.items told.closed told.reaped told.posted (done.idle whole.over) (submits (done.done whole.over)) whole.none_outstanding whole.none_waits); written = written })
      | inr none ↦ inr none
    ]

pub returns : goal.returns
returns g c = λ calls submits. inr (refl, refl)
