use Rattle.std.proofs.Common.{◌≡◌, ◌++◌, take}
use Rattle.std.specs.Prelude.{string_bytes}
use Rattle.uring_play_text.specs.Outputs.{lines_text}
use Rattle.uring_play_text.proofs.writing.push_all.Given as goal

-- the lines so far
abbrev pub invariant-loop-completion : goal.invariant-loop-completion
invariant-loop-completion g l = string_bytes l.text
    ≡ string_bytes l.fn.text ++ lines_text (take l.completion-index l.completions)
