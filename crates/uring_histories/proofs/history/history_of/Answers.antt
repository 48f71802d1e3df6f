use Rattle.std.specs.Prelude.{string_bytes}
use Rattle.uring_histories.proofs.Told.{told_by}
use Rattle.uring_histories.proofs.history.history_of.Goals as goal

pub returns-in-Ok : goal.returns-in-Ok
returns-in-Ok c =
    told_by c.args.setup.now c.in_ok-calls.calls c.args.ending.now c.args.input.now (string_bytes c.in-Ok.text) _ c.in_ok-calls.ensures (rw c.as_slice-items.ensures.value at c.in-Ok.ensures)
