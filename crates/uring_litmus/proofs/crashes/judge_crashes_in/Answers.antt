use Rattle.std.proofs.Common.{max, rules}
use Rattle.uring_litmus.proofs.Common.{lines_in, texts_of}
use Rattle.uring_litmus.proofs.CrashLines.{holds_lines, fails_line}
use Rattle.uring_litmus.proofs.crashes.judge_crashes_in.Goals as goal
use Rattle.uring_litmus.proofs.crashes.judge_crashes_in.Goals.{then-is_all, else-is_all}

pub returns-in_default-2-clause-judges : goal.returns-in_default-2-clause-judges
returns-in_default-2-clause-judges g c =
    let found = rw c.in-Some.is at c.in_ok-shown.ensures.lines in
    let so = rw (c.in_default-2.is, c.as_slice.ensures.value) at c.in_ok-line.ensures.found in
    let holds = holds_lines (max c.args.unit 1) c.args.setup.now found.0 c.args.claim (lines_in c.args.lines.now) c.in-Some.is_all c.in-Some.shown.items c.len-count.result found.2 so (search rules) in (
      found.0,
      found.1,
      elim c.if-is_all.branch [
        | then-is_all w ↦ rw w.result-is (rw w.if-is_all.true at holds)
        | else-is_all w ↦ rw w.result-is (rw w.if-is_all.false at holds)
      ],
    )

pub returns-clause-judges : goal.returns-clause-judges
returns-clause-judges g c =
    let found = rw c.in-Some.is at c.in_ok-shown.ensures.lines in
    let against = rw (c.in-Some-2.is, c.as_slice.ensures.value) at c.in_ok-line.ensures.found in (
      found.0,
      found.1,
      fails_line (max c.args.unit 1) c.args.setup.now found.0 c.args.claim (lines_in c.args.lines.now) c.in-Some.is_all (texts_of c.in-Some.shown.items) _ found.2 against.0 against.1,
    )
