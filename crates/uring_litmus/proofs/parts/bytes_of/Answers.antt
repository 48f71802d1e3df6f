use Rattle.std.proofs.Common.{◌<◌, ◌≤◌, length, rules, arith, ◌∙◌}
use Rattle.std.proofs.lemmas.List.{take_all}
use Rattle.uring_litmus.proofs.FileTexts.{byte_more}
use Rattle.uring_litmus.proofs.parts.bytes_of.Goals as goal

pub loop-at-preserved : goal.loop-at-preserved
loop-at-preserved g c = λ file is len.
    let low : c.loop-at.at < length file.bytes = omega arith in
    byte_more c.args.files.now c.args.fd file c.loop-at.at _ _ is low (c.loop-at.invariant file is len) (search rules)

pub returns-clause-bytes : goal.returns-clause-bytes
returns-clause-bytes g c = λ file is len.
    let past : length file.bytes ≤ c.loop-at.at = omega arith in
    c.loop-at.invariant file is len ∙ take_all c.loop-at.at file.bytes past
