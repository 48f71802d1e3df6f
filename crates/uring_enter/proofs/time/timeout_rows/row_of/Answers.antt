use Rattle.std.proofs.Common.{◌≡◌, ℕ, take, subst, arith}
use Rattle.uring_enter.proofs.TimeoutRows.{none_more}
use Rattle.uring_operations.specs.Entries.Timeouts.{HasNone}
use Rattle.uring_enter.proofs.time.timeout_rows.row_of.Goals as goal

pub loop-i-preserved : goal.loop-i-preserved
loop-i-preserved c =
    none_more c.args.rows.now c.loop-i.i _ c.args.number (omega arith) c.loop-i.invariant c.if-row-number.false

pub returns : goal.returns
returns c =
    let end : c.loop-i.i ≡ c.args.count = omega arith in
    let P : ℕ → Type 0 = λ n. HasNone c.args.number (take n c.args.rows.now) in
    subst P end c.loop-i.invariant
