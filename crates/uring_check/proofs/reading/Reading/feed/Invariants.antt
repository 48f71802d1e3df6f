use Rattle.std.proofs.Common.{Bool, ℕ, List, ◌++◌, take}
use Rattle.uring_check.proofs.Common.{Has, Rules}
use Rattle.uring_check.proofs.reading.Reading.feed.Given as goal

-- what was to be shown, as far as the loop has come
abbrev pub invariant-loop-byte : goal.invariant-loop-byte
invariant-loop-byte g l = (g : Rules) (all : Bool) (before : List ℕ) → Has g all l.initial.self before
    → Has g all l.self (before ++ take l.byte-index l.bytes)
