use Rattle.std.proofs.Common.{[], ◌∷◌, ◌++◌, ap, ◌∙◌, rules}
use Rattle.uring_text.specs.Completions.{completion_text}
use Rattle.uring_litmus.specs.Parts.{texts_of}
use Rattle.uring_litmus.proofs.Texts.{map_more, one_more}
use Rattle.uring_litmus.proofs.parts.add_completions.Goals as goal

pub loop-completion-preserved : goal.loop-completion-preserved
loop-completion-preserved g c =
    rw c.in_ok-push.ensures.items
    (map_more completion_text c.args.completions.now c.loop-completion.completion-index c.completion-item.result _ _ _ (search rules) c.completion-item.is c.loop-completion.invariant
    (one_more c.loop-completion.parts.items c.push_completion_in.new.text ∙ ap (λ l. texts_of c.loop-completion.parts.items ++ l ∷ []) (rw c.new-text.ensures.bytes at c.in_ok-push_completion_in.ensures.bytes)))
