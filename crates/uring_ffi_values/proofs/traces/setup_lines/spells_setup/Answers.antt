use Rattle.std.proofs.Common.{arith}
use Rattle.uring_ffi_values.proofs.SetupTokens.{tokens_in}
use Rattle.uring_ffi_values.proofs.traces.setup_lines.spells_setup.Goals as goal

pub returns : goal.returns
returns c = λ w s is.
    let l = is.0.limits in
    tokens_in s (omega (arith, l.sq_limit)) (omega (arith, l.cq_limit)) (omega (arith, l.files_limit)) (omega (arith, l.word))
