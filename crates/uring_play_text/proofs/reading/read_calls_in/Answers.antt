use Rattle.std.proofs.Common.{rules}
use Rattle.uring_play_text.proofs.Readings.{ends_at, stopped, unread}
use Rattle.uring_play_text.proofs.reading.read_calls_in.Goals as goal

pub returns-in_err-read_all-clause-calls : goal.returns-in_err-read_all-clause-calls
returns-in_err-read_all-clause-calls g c = stopped c.args.setup.now _ c.in_err-read_all.field-0.0 _ _ c.read_all.new.reading (search rules) (c.in_err-read_all.ensures.bytes c.args.setup.now.sq (rw c.sq.ensures.value at c.in_ok-reading.ensures.none))

pub returns-clause-calls : goal.returns-clause-calls
returns-clause-calls g c =
    let so = c.in_ok-read_all.ensures.bytes c.args.setup.now.sq (rw c.sq.ensures.value at c.in_ok-reading.ensures.none) in
    let told = c.end.ensures.calls c.args.setup.now.sq so.0 so.2.0 in
    record { bytes = so.0; consumed = so.1; returned = told; whole = ends_at _ _ _ _ told so.2.1 }

pub returns-clause-granted : goal.returns-clause-granted
returns-clause-granted g c = λ sure.
    let so = c.in_ok-read_all.ensures.bytes c.args.setup.now.sq (rw c.sq.ensures.value at c.in_ok-reading.ensures.none) in
    c.end.ensures.granted sure c.args.setup.now.sq so.0 so.2.0

pub returns-in_err-reading-clause-calls : goal.returns-in_err-reading-clause-calls
returns-in_err-reading-clause-calls g c = unread c.args.setup.now _ _ c.from_residual.ensures.1
