use Rattle.std.proofs.Common.{sym, ap, ◌∙◌, arith}
use Rattle.uring_volume.proofs.KeptLists.{in_default}
use Rattle.uring_crash_machine.specs.Logs.{request_of}
use Rattle.uring_crash_machine.proofs.numbering.request_at.Goals as goal

pub returns-then-p-number-clause-found : goal.returns-then-p-number-clause-found
returns-then-p-number-clause-found c = λ requests each.
    ap (λ k. request_of k requests) (sym c.if-p-number.true) ∙ (each _ (in_default c.args.numbers.now c.loop-p.p-index _ (omega arith))).request
