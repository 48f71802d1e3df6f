use Rattle.std.proofs.Common.{◌≡◌, Err, rules}
use Rattle.uring_check.proofs.Common.{false≢true, string_bytes}
use Rattle.uring_check.proofs.Readings.{part_checked, unsaid_checked, cut_checked, whole_checked}
use Rattle.uring_check.proofs.check_loop.check_all.Goals as goal

pub returns-in_err-read_all-clause-checked : goal.returns-in_err-read_all-clause-checked
returns-in_err-read_all-clause-checked g c = λ r all h. part_checked r all c.from_residual.result c.in_err-read_all.field-0.0 _ _ _ c.read_all.new.reading (search (rules, c.from_residual.ensures)) (c.in_err-read_all.ensures.bytes r all h)

pub returns-in_err-verdict-clause-checked : goal.returns-in_err-verdict-clause-checked
returns-in_err-verdict-clause-checked g c = λ r all h. unsaid_checked r all c.from_residual-in_err-verdict.result _ _ _ c.read_all.new.reading (search rules) (c.in_ok-read_all.ensures.bytes r all h)

pub returns-in_err-write_all-clause-checked : goal.returns-in_err-write_all-clause-checked
returns-in_err-write_all-clause-checked g c =
    λ r all h. cut_checked r all c.from_residual-in_err-write_all.result c.in_err-write_all.field-0.0 _ _ _ _ c.read_all.new.reading c.in_ok-verdict.verdict (string_bytes c.end.new.self.checker.report) (search rules)
    (c.in_ok-read_all.ensures.bytes r all h) c.in_ok-verdict.ensures.verdict (rw c.report.ensures at c.in_err-write_all.ensures.text)

pub returns-clause-checked : goal.returns-clause-checked
returns-clause-checked g c =
    λ r all h. whole_checked r all _ _ _ _ c.read_all.new.reading c.in_ok-verdict.verdict (string_bytes c.end.new.self.checker.report)
    (c.in_ok-read_all.ensures.bytes r all h) c.in_ok-verdict.ensures.verdict (rw c.report.ensures at c.in_ok-write_all.ensures.text)

pub returns-in_err-read_all-clause-granted : goal.returns-in_err-read_all-clause-granted
returns-in_err-read_all-clause-granted g c = λ sure r all h e.
    let same : c.from_residual.result ≡ Err c.in_err-read_all.field-0.0 = search (rules, c.from_residual.ensures) in
    c.in_err-read_all.ensures.granted sure r all h (cc (same, e))

pub returns-in_err-verdict-clause-granted : goal.returns-in_err-verdict-clause-granted
returns-in_err-verdict-clause-granted g c = λ sure r all h.
    let read = c.in_ok-read_all.ensures.bytes r all h in
    absurd (false≢true (c.in_err-verdict.ensures.granted sure r all read.0 read.2.0))
