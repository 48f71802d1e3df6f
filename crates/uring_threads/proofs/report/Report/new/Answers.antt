use Rattle.std.proofs.Common.{◌*◌, length, drop, sym, subst, ap, arith}
use Rattle.uring_threads.proofs.Common.{HaveCarried, HaveFiles, HaveLooked, HaveSeenAll, Setup}
use Rattle.uring_threads.proofs.Reporting.{all_run, few_unreaped, settled_lawful, take_whole}
use Rattle.uring_threads.proofs.SameEnds.{files_had}
use Rattle.uring_threads.proofs.report.Report.new.Goals as goal

pub settle_workers-requires-clause-carried : goal.settle_workers-requires-clause-carried
settle_workers-requires-clause-carried g c =
    subst (HaveCarried c.args.kept) (sym c.deref_mut.ensures.value) c.requires.carried

pub list_unreaped-requires-clause-room : goal.list_unreaped-requires-clause-room
list_unreaped-requires-clause-room g c =
    let settled = c.settle_workers.ensures in
    omega (arith, few_unreaped c.args.kept c.settle_workers.new.kept _ (64 * length c.deref_mut.result.now) settled.trace settled.few, ap length c.deref_mut.ensures.value, c.requires.list)

pub invariant_of-result : goal.invariant_of-result
invariant_of-result g c =
    let vs = c.settle_workers.new.workers in
    let settled = c.settle_workers.ensures in
    let looked : HaveLooked c.args.workers.items vs = subst (λ ws. HaveLooked ws vs) c.deref_mut-2.ensures.value settled.workers in
    rw (take_whole c.args.workers.len vs (drop (length vs) c.args.workers.items) (omega (arith, looked.many, c.args.workers.ok.0))) (
      settled.settled,
      subst (λ (s : Setup). HaveFiles s.files vs) (sym settled.trace.setup) (files_had c.args.kept.setup.files c.args.lanes.items c.args.workers.items vs c.requires.some c.requires.lanes looked),
      omega (arith, looked.many, c.requires.lanes.many, c.requires.few),
    )

pub returns-clause-running : goal.returns-clause-running
returns-clause-running g c =
    let vs = c.settle_workers.new.workers in
    let settled = c.settle_workers.ensures in
    all_run c.settle_workers.new.kept c.args.lanes.items c.args.workers.items vs c.requires.some settled.settled
    (subst (λ ws. HaveLooked ws vs) c.deref_mut-2.ensures.value settled.workers) (subst (λ ls. HaveSeenAll ls vs) c.deref_mut.ensures.value settled.seen) c.requires.lanes.many

pub returns-clause-lawful : goal.returns-clause-lawful
returns-clause-lawful g c =
    let settled = c.settle_workers.ensures in
    settled_lawful c.settle_workers.new.kept c.settle_workers.new.workers (omega (arith, c.requires.some, c.requires.lanes.many, ap length c.deref_mut-2.ensures.value, settled.workers.many)) settled.settled

pub returns-clause-trace : goal.returns-clause-trace
returns-clause-trace g c = rw (← c.deref_mut.ensures.value, ← c.deref_mut-2.ensures.value) c.settle_workers.ensures.trace.trace

pub returns-clause-posted : goal.returns-clause-posted
returns-clause-posted g c = c.list_unreaped.ensures

pub returns-clause-many : goal.returns-clause-many
returns-clause-many g c =
    let vs = c.settle_workers.new.workers in
    let looked : HaveLooked c.args.workers.items vs = subst (λ ws. HaveLooked ws vs) c.deref_mut-2.ensures.value c.settle_workers.ensures.workers in
    rw (take_whole c.args.workers.len vs (drop (length vs) c.args.workers.items) (omega (arith, looked.many, c.args.workers.ok.0))) looked.many
