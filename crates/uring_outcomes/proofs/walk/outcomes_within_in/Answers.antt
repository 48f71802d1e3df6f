use Rattle.std.proofs.Common.{◌≡◌, ◌≤◌, sym, subst, arith}
use Rattle.uring_outcomes.proofs.Common.{AreAllEndings, AreEndings, AreNamed, AreOnce, StoppedWith, among, entries_of}
use Rattle.uring_outcomes.proofs.Covering.{found_none, is_whole, not_whole}
use Rattle.uring_outcomes.proofs.walk.outcomes_within_in.Goals as goal

pub walk-requires : goal.walk-requires
walk-requires g c =
    found_none c.args.setup.now (entries_of c.args.calls.now) c.new-found.result c.new-found.ensures.none c.new-found.ensures.indexed

pub returns-clause-right : goal.returns-clause-right
returns-clause-right g c =
    subst (AreEndings c.args.setup.now (entries_of c.args.calls.now)) (sym c.list_of.ensures) c.in_ok-end.ensures.walked.2.right

pub returns-clause-once : goal.returns-clause-once
returns-clause-once g c = subst AreOnce (sym c.list_of.ensures) c.in_ok-end.ensures.walked.2.once

pub returns-clause-all : goal.returns-clause-all
returns-clause-all g c = λ all.
    let calls = entries_of c.args.calls.now in
    let named = subst (λ ns. AreNamed (among ns) calls) (sym c.as_slice.ensures.value) c.in_ok-add_names.ensures.named in
    let walked = c.in_ok-end.ensures.walked in
    subst (AreAllEndings c.args.setup.now calls) (sym c.list_of.ensures) (is_whole c.args.setup.now calls c.as_slice.result.now c.args.most walked.0 c.in_ok-end.end c.walk.new.notes (c.is_all.ensures.0 all) named walked.2 walked.1)

pub returns-clause-limit : goal.returns-clause-limit
returns-clause-limit g c = λ off.
    let calls = entries_of c.args.calls.now in
    let walked = c.in_ok-end.ensures.walked in
    subst (StoppedWith c.args.setup.now calls c.args.most) (sym c.list_of.ensures)
    (not_whole c.args.setup.now calls c.as_slice.result.now c.args.most walked.0 c.in_ok-end.end c.walk.new.notes c.is_all.result c.is_all.ensures off walked.2 walked.1)
