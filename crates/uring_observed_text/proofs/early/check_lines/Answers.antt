use Rattle.std.proofs.Common.{◌+◌, map, sym, subst, arith, rules}
use Rattle.std.proofs.lemmas.Bool.{false≢true}
use Rattle.uring_observed_text.proofs.Common.{IsEarlyOf, ReadsWritten, history_of, reverse}
use Rattle.uring_observed_text.proofs.WrittenLines.{early_found}
use Rattle.uring_observed_text.proofs.early.check_lines.Goals as goal

pub returns-in-All-clause-early : goal.returns-in-All-clause-early
returns-in-All-clause-early g c =
    let reads : ReadsWritten c.args.setup.now (reverse (map (λ line. line.now) c.args.lines.now)) (history_of c.as_slice.result.now) = search rules in
    subst (IsEarlyOf c.args.setup.now (reverse (map (λ line. line.now) c.args.lines.now))) (sym c.early_of.ensures)
    (early_found c.args.setup.now (reverse (map (λ line. line.now) c.args.lines.now)) c.as_slice.result.now c.in_ok-found-in-All.found _ reads c.in_ok-found-in-All.ensures.found)

pub returns-in_err-core-clause-granted : goal.returns-in_err-core-clause-granted
returns-in_err-core-clause-granted g c = λ all.
    let s = c.args.setup.now in
    absurd (false≢true (c.in_err-core.ensures.granted (s.sq + s.cq) (all _) (omega arith) (omega arith)))
