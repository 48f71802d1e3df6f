use Rattle.std.proofs.Common.{max}
use Rattle.uring_litmus.proofs.Common.{string_bytes}
use Rattle.uring_litmus.proofs.CrashLines.{lists_crashes}
use Rattle.uring_litmus.proofs.crashes.list_crashes_in.Goals as goal
use Rattle.uring_litmus.proofs.crashes.list_crashes_in.Goals.{then-is_all, else-is_all}

pub returns-clause-lists : goal.returns-clause-lists
returns-clause-lists g c =
    let found = rw c.in-Some.is at c.in_ok-lines.ensures.lines in
    let lists = lists_crashes (max c.args.unit 1) c.args.setup.now c.args.most found.0 c.in-Some.is_all c.in-Some.lines.items (string_bytes c.in_ok-text.text) _ _ _ _ found.1 found.2 (rw c.as_slice.ensures.value at c.in_ok-text.ensures.text) (rw c.as_str.ensures.value at c.in_ok-write_text.ensures.written) in
    elim c.if-is_all.branch [
      | then-is_all w ↦ rw w.result-is (rw w.if-is_all.true at lists)
      | else-is_all w ↦ rw w.result-is (rw w.if-is_all.false at lists)
    ]
