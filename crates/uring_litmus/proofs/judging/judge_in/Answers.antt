use Rattle.uring_litmus.specs.Claims.{lines_in}
use Rattle.std.proofs.Common.{rules}
use Rattle.uring_litmus.proofs.Verdicts.{against_low, fails, stands}
use Rattle.uring_litmus.proofs.judging.judge_in.Goals as goal

pub taken-requires : goal.taken-requires
taken-requires g c =
    against_low c.args.claim (lines_in c.args.lines.now) c.in_ok-found.found.endings.items c.in-Ok-Some.field-0 c.in-Ok-Some.at (rw c.in-Ok-Some.is at c.in-Ok-Some.field-0-is) (rw (c.as_slice.ensures.value, c.in-Ok-Some.is) at c.first_against-against.ensures.found)

pub returns-in-Ok-Some-clause-judges : goal.returns-in-Ok-Some-clause-judges
returns-in-Ok-Some-clause-judges g c =
    fails c.args.setup.now c.args.claim (lines_in c.args.lines.now) c.in_ok-found.found.endings.items c.in_ok-found.found.is_all c.in-Ok-Some.field-0 c.in-Ok-Some.at c.taken.result _ _ c.in_ok-found.ensures.found (rw c.in-Ok-Some.is at c.in-Ok-Some.field-0-is) (rw (c.as_slice.ensures.value, c.in-Ok-Some.is) at c.first_against-against.ensures.found) c.taken.ensures

pub returns-then-is_all-clause-judges : goal.returns-then-is_all-clause-judges
returns-then-is_all-clause-judges g c =
    rw c.if-is_all.true at (stands c.args.setup.now c.args.claim (lines_in c.args.lines.now) c.in_ok-found.found.endings.items c.in_ok-found.found.is_all c.in-Ok-None.field-0 c.len-count.result _ _ c.in_ok-found.ensures.found (rw c.in-Ok-None.is at c.in-Ok-None.field-0-is) (rw (c.as_slice.ensures.value, c.in-Ok-None.is) at c.first_against-against.ensures.found) (search rules))

pub returns-else-is_all-clause-judges : goal.returns-else-is_all-clause-judges
returns-else-is_all-clause-judges g c =
    rw c.if-is_all.false at (stands c.args.setup.now c.args.claim (lines_in c.args.lines.now) c.in_ok-found.found.endings.items c.in_ok-found.found.is_all c.in-Ok-None.field-0 c.len-count.result _ _ c.in_ok-found.ensures.found (rw c.in-Ok-None.is at c.in-Ok-None.field-0-is) (rw (c.as_slice.ensures.value, c.in-Ok-None.is) at c.first_against-against.ensures.found) (search rules))
