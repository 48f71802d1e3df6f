use Rattle.std.proofs.Common.{◌≡◌, ◌++◌, ◌∷◌, [], rules}
use Rattle.std.specs.Prelude.{string_bytes}
use Rattle.uring_play_text.proofs.Outputs.{line_more}
use Rattle.uring_play_text.proofs.writing.push_all.Goals as goal

pub loop-completion-preserved : goal.loop-completion-preserved
loop-completion-preserved g c =
    let text : string_bytes c.push_text.new.text ≡ string_bytes c.push_completion_in.new.text ++ 10 ∷ [] = search rules in
    line_more c.args.completions.now c.loop-completion.completion-index c.completion-item.result _ _ _ _ (search rules) c.completion-item.is c.loop-completion.invariant c.in_ok-push_completion_in.ensures.bytes text
