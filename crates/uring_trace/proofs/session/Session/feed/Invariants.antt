use Rattle.std.proofs.Common.{ℕ, List, ◌++◌, take}
use Rattle.uring_trace.proofs.Common.{Has, IsGranted, Manner}
use Rattle.uring_trace.proofs.session.Session.feed.Given as goal

-- what was to be shown, as far as the loop has come
abbrev pub invariant-loop-byte : goal.invariant-loop-byte
invariant-loop-byte g l =
    (manner : Manner) → IsGranted manner ((n : ℕ) → g.M.Memory.grants l.memory n) → (before told : List ℕ) → Has manner l.initial.self before (told ++ l.initial.text.items) → Has manner l.self (before ++ take l.byte-index l.bytes) (told ++ l.text.items)
