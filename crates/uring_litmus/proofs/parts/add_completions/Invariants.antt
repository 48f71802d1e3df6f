use Rattle.std.proofs.Common.{◌≡◌, ◌++◌, take}
use Rattle.uring_litmus.specs.Parts.{texts_of, completion_texts}
use Rattle.uring_litmus.proofs.parts.add_completions.Given as goal

abbrev pub invariant-loop-completion : goal.invariant-loop-completion
invariant-loop-completion g l = texts_of l.parts.items
    ≡ texts_of l.fn.parts.items ++ completion_texts (take l.completion-index l.completions)
