use Rattle.uring_dispatch.proofs.Accepts.{accept_sound, accepts_new, accept_held, kept_op}
use Rattle.uring_dispatch.proofs.grouped.Grouped.accept.Goals as goal

pub returns-clause-accepts : goal.returns-clause-accepts
returns-clause-accepts c =
    let e = c.accept-group.ensures in
    let op = kept_op c.args.entry _ c.ok-op.result c.is_none.result c.prepare.ensures.right c.prepare.ensures.faulty c.ok-op.ensures.value c.is_none.ensures in
    let a = accepts_new _ _ _ _ c.args.entry c.accept-group.result c.end-number.result c.ok-op.result c.is_none.result c.end-number.ensures.value op c.push.ensures.changes c.push.ensures.end e.joins e.key e.kept e.changes e.beyond e.last in
    a

pub invariant_of-self : goal.invariant_of-self
invariant_of-self c =
    let e = c.accept-group.ensures in
    let op = kept_op c.args.entry _ c.ok-op.result c.is_none.result c.prepare.ensures.right c.prepare.ensures.faulty c.ok-op.ensures.value c.is_none.ensures in
    let a = accepts_new _ _ _ _ c.args.entry c.accept-group.result c.end-number.result c.ok-op.result c.is_none.result c.end-number.ensures.value op c.push.ensures.changes c.push.ensures.end e.joins e.key e.kept e.changes e.beyond e.last in
    record { fits = accept_sound c.args.self.now.fits a }

pub returns-clause-shows : goal.returns-clause-shows
returns-clause-shows c = λ r h.
    let e = c.accept-group.ensures in
    let op = kept_op c.args.entry _ c.ok-op.result c.is_none.result c.prepare.ensures.right c.prepare.ensures.faulty c.ok-op.ensures.value c.is_none.ensures in
    let a = accepts_new _ _ _ _ c.args.entry c.accept-group.result c.end-number.result c.ok-op.result c.is_none.result c.end-number.ensures.value op c.push.ensures.changes c.push.ensures.end e.joins e.key e.kept e.changes e.beyond e.last in
    accept_held c.args.self.now.fits h a c.push.ensures.outstanding c.push.ensures.running
