use Rattle.std.proofs.Common.{[], ◌∷◌, ◌++◌, map, ap, ◌∙◌, rules, arith}
use Rattle.uring_litmus.proofs.Common.{take_all, texts_of}
use Rattle.uring_litmus.specs.Crashes.{crash_line}
use Rattle.uring_litmus.proofs.Texts.{map_more, one_more}
use Rattle.uring_litmus.proofs.crashes.each_line.Goals as goal

pub loop-crash-preserved : goal.loop-crash-preserved
loop-crash-preserved g c =
    rw c.in_ok-push.ensures.items
    (map_more crash_line c.args.crashes.now c.loop-crash.crash-index c.crash-item.result [] _ _ (search rules) c.crash-item.is c.loop-crash.invariant
    (one_more c.loop-crash.lines.items c.in_ok-line.line ∙ ap (λ l. texts_of c.loop-crash.lines.items ++ l ∷ []) c.in_ok-line.ensures.line))

pub returns-clause-lines : goal.returns-clause-lines
returns-clause-lines g c = c.loop-crash.invariant ∙ ap (map crash_line) (take_all c.loop-crash.crash-index c.args.crashes.now (omega arith))
