use Rattle.std.proofs.Common.{◌<◌, length, sym, ap, ◌∙◌, arith, rules}
use Rattle.std.proofs.Math.Nat.{le_refl}
use Rattle.std.proofs.lemmas.Bool.{false≢true}
use Rattle.uring_observed_text.proofs.Common.{take_all, take_more}
use Rattle.uring_text.specs.KeptLine.{kept_of}
use Rattle.uring_observed_text.proofs.filling.kept.Goals as goal

pub loop-byte-preserved : goal.loop-byte-preserved
loop-byte-preserved g c =
    let lt : c.loop-byte.byte-index < length c.args.line.now = search rules in
    c.push.ensures _ c.loop-byte.invariant ∙ ap kept_of (sym (take_more c.args.line.now c.loop-byte.byte-index 0 lt))

pub returns-clause-kept : goal.returns-clause-kept
returns-clause-kept g c = c.loop-byte.invariant ∙ ap kept_of (take_all c.loop-byte.byte-index c.args.line.now (omega (arith, c.loop-byte-test.false)))

pub returns-in_err-kept-clause-granted : goal.returns-in_err-kept-clause-granted
returns-in_err-kept-clause-granted g c = λ all. absurd (false≢true (c.in_err-kept.ensures.granted 300 (all 300) (le_refl 300)))
