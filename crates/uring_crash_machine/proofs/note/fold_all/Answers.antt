use Rattle.std.proofs.Common.{◌+◌, arith}
use Rattle.uring_crash_machine.proofs.Common.{false≢true}
use Rattle.uring_crash_machine.proofs.FoldedLogs.{all_folded, folded_cut, folded_next}
use Rattle.uring_crash_machine.proofs.note.fold_all.Goals as goal

pub loop-place-preserved : goal.loop-place-preserved
loop-place-preserved g c =
    folded_next c.loop-place.place (c.loop-place.place + 1) c.args.logs.now c.loop-place.logs c.index-logs-place.result c.fold_in.new.self c.loop-place.invariant (omega arith) (omega arith) c.fold_in.ensures.folded
    (record { none_left = c.in_ok-fold_in.ensures.none_left; none_under = c.in_ok-fold_in.ensures.none_under })

pub returns-in_err-fold_in-clause-folded : goal.returns-in_err-fold_in-clause-folded
returns-in_err-fold_in-clause-folded g c =
    folded_cut c.loop-place.place c.args.logs.now c.loop-place.logs c.index-logs-place.result c.fold_in.new.self c.loop-place.invariant (omega arith) c.fold_in.ensures.folded

pub returns-in_err-fold_in-clause-granted : goal.returns-in_err-fold_in-clause-granted
returns-in_err-fold_in-clause-granted g c = λ all. absurd (false≢true (c.in_err-fold_in.ensures.granted all))

pub returns-clause-folded : goal.returns-clause-folded
returns-clause-folded g c = (all_folded c.loop-place.place c.args.logs.now c.loop-place.logs c.loop-place.invariant (omega arith)).0

pub returns-clause-none_left : goal.returns-clause-none_left
returns-clause-none_left g c = (all_folded c.loop-place.place c.args.logs.now c.loop-place.logs c.loop-place.invariant (omega arith)).1
