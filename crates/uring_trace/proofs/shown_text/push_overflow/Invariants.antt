use Rattle.std.proofs.Common.{◌≡◌, ◌++◌, take}
use Rattle.uring_trace.proofs.Common.{Fits, History, codes, decimal, length, list_text, overflow_of, string_bytes, world}
use Rattle.uring_trace.proofs.shown_text.push_overflow.Given as goal

-- the completions so far
abbrev pub invariant-loop-place : goal.invariant-loop-place
invariant-loop-place g l =
    (h : History) → Fits l.fn.machine h
    → string_bytes l.text
    ≡ string_bytes l.fn.text ++ codes "overflow " ++ decimal (length (overflow_of (world l.fn.machine.core.setup h).completions)) ++ list_text (take l.place (overflow_of (world l.fn.machine.core.setup h).completions))
