use Rattle.std.proofs.Common.{◌≡◌, map, max, arith}
use Rattle.uring_litmus.proofs.Common.{accepted_of, lists_of, texts_of}
use Rattle.uring_outcomes.specs.Runs.{entries_of}
use Rattle.uring_litmus.proofs.CrashLines.{are_lines, crash_spent}
use Rattle.uring_litmus.proofs.Listed.{reads, too_many}
use Rattle.uring_litmus.proofs.crashes.crash_lines.Goals as goal

pub returns-in_ok-lines-in-Ok-clause-lines : goal.returns-in_ok-lines-in-Ok-clause-lines
returns-in_ok-lines-in-Ok-clause-lines g c =
    let unit : c.max-unit.result ≡ max c.args.unit 1 = first_of (cc, omega arith, grind arith) in (
      map accepted_of (lists_of c.in_ok-items.items.items),
      reads c.args.setup.now c.in_ok-items.items _ _ c.in_ok-items.ensures.calls,
      are_lines (max c.args.unit 1) c.args.setup.now (map accepted_of (lists_of c.in_ok-items.items.items)) c.in-Ok.field-0.is_all c.in-Ok.field-0.crashes.items (texts_of c.in_ok-lines-in-Ok.lines.items)
          (rw (unit, c.as_slice-2.ensures.value, c.in_ok-calls.ensures.entries, c.as_slice.ensures.value) at c.in-Ok.ensures.right)
          (rw (unit, c.as_slice-2.ensures.value, c.in_ok-calls.ensures.entries, c.as_slice.ensures.value) at c.in-Ok.ensures.all)
          (rw c.as_slice-in-Ok.ensures.value at c.in_ok-lines-in-Ok.ensures.lines),
    )

pub returns-in-Err-Spent-clause-granted : goal.returns-in-Err-Spent-clause-granted
returns-in-Err-Spent-clause-granted g c = λ all is.
    let calls = entries_of c.as_slice-2.result.now in
    too_many c.args.setup.now c.in_ok-items.items _ _ c.in_ok-items.ensures.calls
    (rw (c.as_slice-2.ensures.value, c.in_ok-calls.ensures.entries, c.as_slice.ensures.value) at (crash_spent c.max-unit.result c.args.setup.now calls 1000 c.in-Err-Spent.field-0 (rw c.in-Err-Spent.is at c.in-Err-Spent.field-0-is) (rw c.in-Err-Spent.is at c.crashes_within_in-found.ensures.fault)))
