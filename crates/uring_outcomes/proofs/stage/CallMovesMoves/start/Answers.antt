use Rattle.std.proofs.Common.{◌≤◌, ◌≡◌, refl, sym, arith}
use Rattle.uring_outcomes.proofs.Common.{entries_of, starting}
use Rattle.uring_outcomes.proofs.stage.CallMovesMoves.start.Goals as goal

pub returns-clause-stands : goal.returns-clause-stands
returns-clause-stands g c =
    let w = c.args.self.now in
    let few : w.setup.now.files ≤ 64 = c.files.ensures.limits.files_limit in
    let same : c.files.result ≡ w.setup.now.files = c.files.ensures.value in
    record {
      is = c.new-2.ensures.items;
      led = record { last = starting w.setup.now (entries_of w.calls.now); leads = refl; at = c.in_ok-run.ensures.stands w.setup.now (entries_of w.calls.now) (sym same) (omega arith) };
    }
