use Rattle.std.proofs.Common.{◌∷◌, [], ◌++◌, ap, ◌∙◌, rules, arith}
use Rattle.uring_litmus.proofs.Common.{take_all, texts_of}
use Rattle.uring_litmus.specs.Crashes.{left_texts}
use Rattle.uring_litmus.proofs.CrashLines.{bytes_of, left_more}
use Rattle.uring_litmus.proofs.Texts.{one_more}
use Rattle.uring_litmus.proofs.crashes.add_left.Goals as goal

pub loop-fd-preserved : goal.loop-fd-preserved
loop-fd-preserved g c =
    rw c.in_ok-push.ensures.items
    (left_more c.args.left.now c.loop-fd.fd c.index-left-fd.result _ _ _ (search rules) c.index-left-fd.is c.loop-fd.invariant
    (one_more c.loop-fd.parts.items c.in_ok-text.text ∙ ap (λ l. texts_of c.loop-fd.parts.items ++ l ∷ []) (rw c.as_slice.ensures.value at c.in_ok-text.ensures.text)))

pub returns-clause-parts : goal.returns-clause-parts
returns-clause-parts g c =
    c.loop-fd.invariant ∙ ap (λ l. texts_of c.args.parts.now.items ++ left_texts 0 (bytes_of l)) (take_all c.loop-fd.fd c.args.left.now (omega arith))
