use Rattle.std.proofs.Common.{ℕ, ℤ, List, ◌++◌, take}
use Rattle.uring_crash.proofs.Common.{Follows, Setup}
use Rattle.uring_crash.proofs.follower.Follower.feed.Given as goal

-- what was taken in, as far as the loop has come
abbrev pub invariant-loop-byte : goal.invariant-loop-byte
invariant-loop-byte g l =
    (unit : ℕ) (setup : Setup) (fd : ℤ) (most : ℕ) (before : List ℕ)
    → Follows unit setup fd most l.initial.self before
    → Follows unit setup fd most l.self (before ++ take l.byte-index l.bytes)
