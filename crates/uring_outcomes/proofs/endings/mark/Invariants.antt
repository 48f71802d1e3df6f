use Rattle.std.proofs.Common.{◌≡◌, drop}
use Rattle.uring_outcomes.specs.Index.{mark_from, mark_of}
use Rattle.uring_outcomes.proofs.endings.mark.Given as goal

-- the completions that are left make the mark of all
abbrev pub invariant-loop-completion : goal.invariant-loop-completion
invariant-loop-completion l = mark_from l.mark (drop l.completion-index l.posted) ≡ mark_of l.posted
