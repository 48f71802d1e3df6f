use Rattle.std.proofs.Common.{subst, arith, take}
use Rattle.uring_outcomes.proofs.Common.{AreNamed, NamesAll, among, entries_of, take_all}
use Rattle.uring_outcomes.proofs.Naming.{named_kept, named_more}
use Rattle.uring_outcomes.proofs.names.add_names.Goals as goal

pub loop-call-preserved : goal.loop-call-preserved
loop-call-preserved g c =
    let new = c.add_named.new.names.items in
    let at = c.loop-call.call-index in
    named_more new c.args.calls.now at c.call-item.result (omega arith) c.call-item.is (subst (NamesAll (among new)) c.as_slice.ensures.value c.in_ok-add_named.ensures.named)
    (named_kept c.loop-call.names.items new (entries_of (take at c.args.calls.now)) c.in_ok-add_named.ensures.kept c.loop-call.invariant)

pub returns-clause-named : goal.returns-clause-named
returns-clause-named g c =
    subst (λ calls. AreNamed (among c.loop-call.names.items) (entries_of calls)) (take_all c.loop-call.call-index c.args.calls.now (omega arith)) c.loop-call.invariant
